-- The common neighbours of the ends of a side: what the computed test says, and that both places of a side say the same.
use Prim.Native.Nat.{ℕ, ◌%◌, ◌<◌}
use native.Mathlib.Omega.{arith}
use native.Mathlib.Decide.{ℕ_discrete}
use mathlib.Core.Path.{◌≡◌, refl, sym, ◌∙◌, subst}
use mathlib.Core.Logic.{◌⊎◌, inl, inr}
use mathlib.Core.Bool.{Bool, true, false, not, ◌&&◌, ◌||◌, true≢false, false≢true}
use mathlib.Core.List.{List, [], ◌∷◌}
use lib.Dec.{eqb}
use lib.ListN.{length}
use borrow.Author.Tests.{eqb-true, eq-eqb, ne_eqb}
use Rattle.surface.specs.Triangle.{Tri, triangles, corners}
use Rattle.surface.specs.Closed.{sides, Closed}
use Rattle.surface.specs.Edit.{Hinge, hinge}
use Rattle.surface.proofs.Bools.{both, join}
use Rattle.surface.proofs.Reading.{Has, spin, side-has}
use Rattle.surface.proofs.Surface.{Surface}
use Rattle.surface.proofs.Bridge.{closed_surface_lem}
use Rattle.surface.specs.Check.{every}
use Rattle.rounds.specs.Pass.{near}
use Rattle.rounds.specs.Choices.{common}
use Rattle.rounds.proofs.Near.{near_next, near-side}
use Rattle.rounds.proofs.FirstUse.{has-corner}
use Rattle.rounds.proofs.Choices.{all_mem}
use Rattle.halfedges.specs.Place.{nx, pv, at}
use Rattle.sides.specs.Side.{Twin}
use Rattle.sides.proofs.Twins.{twin-back}
use Rattle.chains.proofs.Hinges.{Ordered, ahead, behind, ordered}
use Rattle.chains.specs.Common.{lone}

-- two tests that pass together are one
pub same_test : (p q : Bool) → (p ≡ true → q ≡ true) → (q ≡ true → p ≡ true) → p ≡ q
same_test true true f g = refl
same_test true false f g = sym (f refl)
same_test false true f g = g refl
same_test false false f g = refl

-- a and b have no common neighbour but c and d
pub record Alone (ts : List Tri) (a b c d : ℕ) : Type 0 where
  pub among : (e : ℕ) → 0 < sides ts a e → 0 < sides ts b e → (e ≡ c) ⊎ (e ≡ d)

four : (p q r s : Bool) → (p || (q || (r || s))) ≡ true → p ≡ false → q ≡ false → (r ≡ true) ⊎ (s ≡ true)
four true q r s e f g = absurd (true≢false f)
four false true r s e f g = absurd (true≢false g)
four false false true s e f g = inl refl
four false false false s e f g = inr e

some : (p q r s : Bool) → (p ≡ true) ⊎ ((q ≡ true) ⊎ ((r ≡ true) ⊎ (s ≡ true))) → (p || (q || (r || s))) ≡ true
some true q r s h = refl
some false true r s h = refl
some false false true s h = refl
some false false false s (inl e) = absurd (false≢true e)
some false false false s (inr (inl e)) = absurd (false≢true e)
some false false false s (inr (inr (inl e))) = absurd (false≢true e)
some false false false s (inr (inr (inr e))) = e

implies : (p q : Bool) → (not p || q) ≡ true → p ≡ true → q ≡ true
implies true q e f = e
implies false q e f = absurd (false≢true f)

implied : (p q : Bool) → (p ≡ true → q ≡ true) → (not p || q) ≡ true
implied true q f = f refl
implied false q f = refl

all_of : (f : ℕ → Bool) (l : List ℕ) → ((x : ℕ) → f x ≡ true) → every f l ≡ true
unfolding every
all_of f [] h = refl
all_of f (x ∷ l) h = join (f x) (every f l) (h x) (all_of f l h)

module _ {ts : List Tri} (s : Surface ts) (a b c d : ℕ) where
  pub common-alone : common ts a b c d ≡ true → Alone ts a b c d
  unfolding common
  common-alone e = record { among = λ x p q. go x (side-has ts a x p) (side-has ts b x q) }
    where
      last : (x : ℕ) → (eqb x c ≡ true) ⊎ (eqb x d ≡ true) → (x ≡ c) ⊎ (x ≡ d)
      last x (inl r) = inl (eqb-true x c r)
      last x (inr r) = inr (eqb-true x d r)

      go : (x : ℕ) → ((z : ℕ) × Has a x z ts) → ((z : ℕ) × Has b x z ts) → (x ≡ c) ⊎ (x ≡ d)
      go x h k = last x (four (eqb x a) (eqb x b) (eqb x c) (eqb x d)
          (implies (near ts a x && near ts b x) _ (all_mem _ (corners ts) x e (has-corner (spin h.1))) (join _ _ (near_next h.1) (near_next k.1)))
          (ne_eqb x a (λ r. s.differ a x h.0 h.1 (sym r))) (ne_eqb x b (λ r. s.differ b x k.0 k.1 (sym r))))

  pub alone-common : Alone ts a b c d → common ts a b c d ≡ true
  unfolding common
  alone-common l = all_of _ (corners ts) (λ x. implied (near ts a x && near ts b x) _ (λ e. test x (both _ _ e) (ℕ_discrete x a) (ℕ_discrete x b)))
    where
      test : (x : ℕ) → (near ts a x ≡ true) × (near ts b x ≡ true) → Dec (x ≡ a) → Dec (x ≡ b) → (eqb x a || (eqb x b || (eqb x c || eqb x d))) ≡ true
      test x n (yes e) f = some (eqb x a) (eqb x b) (eqb x c) (eqb x d) (inl (eq-eqb x a e))
      test x n (no e) (yes f) = some (eqb x a) (eqb x b) (eqb x c) (eqb x d) (inr (inl (eq-eqb x b f)))
      test x n (no e) (no f) = last (l.among x (near-side s a x (λ q. e (sym q)) n.0) (near-side s b x (λ q. f (sym q)) n.1))
        where
          last : (x ≡ c) ⊎ (x ≡ d) → (eqb x a || (eqb x b || (eqb x c || eqb x d))) ≡ true
          last (inl q) = some (eqb x a) (eqb x b) (eqb x c) (eqb x d) (inr (inr (inl (eq-eqb x c q))))
          last (inr q) = some (eqb x a) (eqb x b) (eqb x c) (eqb x d) (inr (inr (inr (eq-eqb x d q))))

-- the other end first, the other opposite corner first
pub alone-ends : {ts : List Tri} {a b c d : ℕ} → Alone ts a b c d → Alone ts b a c d
alone-ends l = record { among = λ e p q. l.among e q p }

pub alone_turn : {ts : List Tri} {a b c d : ℕ} → Alone ts a b c d → Alone ts a b d c
alone_turn {ts} {a} {b} {c} {d} l = record { among = λ e p q. go e (l.among e p q) }
  where
    go : (e : ℕ) → (e ≡ c) ⊎ (e ≡ d) → (e ≡ d) ⊎ (e ≡ c)
    go e (inl r) = inr r
    go e (inr r) = inl r

module _ (c : List ℕ) (h : length c % 3 ≡ 0) (closed : Closed (triangles c)) (k t : ℕ) (l : k < length c) (w : Twin c k t) where
  -- the hinge by the twin is the same
  pub hinge-twin : hinge (triangles c) (at c t) (at c (nx t)) ≡ hinge (triangles c) (at c k) (at c (nx k))
  hinge-twin = go (ordered c h closed k t l w) (ordered c h closed t k w.low (twin-back c k t l w))
    where
      go : Ordered c h closed k t l w → Ordered c h closed t k w.low (twin-back c k t l w) → hinge (triangles c) (at c t) (at c (nx t)) ≡ hinge (triangles c) (at c k) (at c (nx k))
      go (ahead p e) (ahead q f) = absurd (omega arith)
      go (ahead p e) (behind q f) = f ∙ sym e
      go (behind p e) (ahead q f) = f ∙ sym e
      go (behind p e) (behind q f) = absurd (omega arith)

  -- what it says, by the two places
  pub lone-alone : lone c k ≡ true → Alone (triangles c) (at c k) (at c (nx k)) (at c (pv k)) (at c (pv t))
  unfolding lone
  lone-alone e = go (ordered c h closed k t l w)
    where
      a : Alone (triangles c) (at c k) (at c (nx k)) (hinge (triangles c) (at c k) (at c (nx k))).c (hinge (triangles c) (at c k) (at c (nx k))).d
      a = common-alone (closed_surface_lem closed) (at c k) (at c (nx k)) (hinge (triangles c) (at c k) (at c (nx k))).c (hinge (triangles c) (at c k) (at c (nx k))).d e

      go : Ordered c h closed k t l w → Alone (triangles c) (at c k) (at c (nx k)) (at c (pv k)) (at c (pv t))
      go (ahead p q) = subst (λ (x : Hinge). Alone (triangles c) (at c k) (at c (nx k)) x.c x.d) q a
      go (behind p q) = alone_turn (subst (λ (x : Hinge). Alone (triangles c) (at c k) (at c (nx k)) x.c x.d) q a)

  pub alone-lone : Alone (triangles c) (at c k) (at c (nx k)) (at c (pv k)) (at c (pv t)) → lone c k ≡ true
  unfolding lone
  alone-lone a = alone-common (closed_surface_lem closed) (at c k) (at c (nx k)) (hinge (triangles c) (at c k) (at c (nx k))).c (hinge (triangles c) (at c k) (at c (nx k))).d (go (ordered c h closed k t l w))
    where
      go : Ordered c h closed k t l w → Alone (triangles c) (at c k) (at c (nx k)) (hinge (triangles c) (at c k) (at c (nx k))).c (hinge (triangles c) (at c k) (at c (nx k))).d
      go (ahead p q) = subst (λ (x : Hinge). Alone (triangles c) (at c k) (at c (nx k)) x.c x.d) (sym q) a
      go (behind p q) = subst (λ (x : Hinge). Alone (triangles c) (at c k) (at c (nx k)) x.c x.d) (sym q) (alone_turn a)

-- the same for the side and its twin
pub lone-twin : (c : List ℕ) (h : length c % 3 ≡ 0) (closed : Closed (triangles c)) (k t : ℕ) → k < length c → Twin c k t → lone c t ≡ lone c k
lone-twin c h closed k t l w = same_test (lone c t) (lone c k)
    (λ e. alone-lone c h closed k t l w (back_to (lone-alone c h closed t k w.low v e)))
    (λ e. alone-lone c h closed t k w.low v (to_back (lone-alone c h closed k t l w e)))
  where
    v : Twin c t k
    v = twin-back c k t l w

    back_to : Alone (triangles c) (at c t) (at c (nx t)) (at c (pv t)) (at c (pv k)) → Alone (triangles c) (at c k) (at c (nx k)) (at c (pv k)) (at c (pv t))
    back_to a = record { among = λ e p q. (alone_turn (alone-ends a)).among e (subst (λ (x : ℕ). 0 < sides (triangles c) x e) (sym w.to) p) (subst (λ (x : ℕ). 0 < sides (triangles c) x e) (sym w.from) q) }

    to_back : Alone (triangles c) (at c k) (at c (nx k)) (at c (pv k)) (at c (pv t)) → Alone (triangles c) (at c t) (at c (nx t)) (at c (pv t)) (at c (pv k))
    to_back a = record { among = λ e p q. (alone_turn (alone-ends a)).among e (subst (λ (x : ℕ). 0 < sides (triangles c) x e) w.from p) (subst (λ (x : ℕ). 0 < sides (triangles c) x e) w.to q) }

-- What the triangles around two corners, given in the same order, have in common: the sides, the readings, the hinge of the two, the labels.
use Prim.Native.Nat.{ℕ, ◌<◌}
use mathlib.Core.Path.{◌≡◌, refl, sym, ◌∙◌, ap, subst}
use mathlib.Core.Logic.{◌⊎◌, inl, inr}
use mathlib.Core.Bool.{Bool, true, false, ◌&&◌, ◌||◌, not, false≢true}
use mathlib.Core.List.{List, [], ◌∷◌, Memᴰ}
use native.Mathlib.Omega.{arith}
use lib.Dec.{eqb}
use borrow.Author.Tests.{eqb-true}
use Rattle.surface.specs.Triangle.{Tri, names}
use Rattle.surface.specs.Closed.{sides, Step, step, around}
use Rattle.surface.specs.Edit.{hinge}
use Rattle.surface.proofs.Bools.{both, join}
use Rattle.surface.proofs.Reading.{Has, has-eq}
use Rattle.surface.proofs.Rings.{froms, tos}
use Rattle.surface.proofs.Steps.{froms_around, tos_around, has-around, around-has}
use Rattle.surface.proofs.Surface.{Surface, next_of}
use Rattle.surface.proofs.Places.{place-has}
use Rattle.surface.proofs.Hinged.{Hinged, hinged}
use Rattle.surface.proofs.Edits.{Filled, one_way, other_way, Linked}
use Rattle.surface.specs.Check.{every}
use Rattle.surface.specs.Label.{carries}
use Rattle.history.specs.History.{Pair, covered}

module _ (ts us : List Tri) (x : ℕ) (e : around us x ≡ around ts x) where
  pub sides-from : (z : ℕ) → sides us x z ≡ sides ts x z
  sides-from z = sym (froms_around us x z) ∙ ap (λ (l : List Step). froms l z) e ∙ froms_around ts x z

  pub sides-to : (z : ℕ) → sides us z x ≡ sides ts z x
  sides-to z = sym (tos_around us x z) ∙ ap (λ (l : List Step). tos l z) e ∙ tos_around ts x z

  pub has_same : {y z : ℕ} → Has x y z us → Has x y z ts
  has_same {y} {z} h = around-has x (step y z) ts (subst (λ (l : List Step). Memᴰ (step y z) l) e (has-around h))

pub turned : {ts : List Tri} {a b c d : ℕ} → Linked ts a b d c → Linked ts a b c d
turned l = record { common = λ e i j. swap (l.common e i j); solid = λ i j. l.solid (over i) (over j) }
  where
    swap : {A B : Type 0} → A ⊎ B → B ⊎ A
    swap (inl p) = inr p
    swap (inr p) = inl p

    over : {ts : List Tri} {x y z : ℕ} → Filled ts x y z → Filled ts x z y
    over (one_way h) = other_way h
    over (other_way h) = one_way h

-- the corners opposite to a side, by its two readings
pub opposites : {ts : List Tri} → Surface ts → (a b : ℕ) → 0 < sides ts a b
    → ((Has a b (hinge ts a b).c ts) × (Has b a (hinge ts a b).d ts)) ⊎ ((Has b a (hinge ts a b).c ts) × (Has a b (hinge ts a b).d ts))
opposites {ts} s a b given = pick (hinged s a b given).ends
  where
    k : Hinged ts a b (hinge ts a b)
    k = hinged s a b given

    one : Has (hinge ts a b).u (hinge ts a b).v (hinge ts a b).c ts
    one = place-has ts (hinge ts a b).p1 (omega (arith, k.order, k.fits)) k.ahead

    two : Has (hinge ts a b).v (hinge ts a b).u (hinge ts a b).d ts
    two = place-has ts (hinge ts a b).p2 k.fits k.back

    pick : (((hinge ts a b).u ≡ a) × ((hinge ts a b).v ≡ b)) ⊎ (((hinge ts a b).u ≡ b) × ((hinge ts a b).v ≡ a))
        → ((Has a b (hinge ts a b).c ts) × (Has b a (hinge ts a b).d ts)) ⊎ ((Has b a (hinge ts a b).c ts) × (Has a b (hinge ts a b).d ts))
    pick (inl e) = inl (has-eq e.0 e.1 refl one, has-eq e.1 e.0 refl two)
    pick (inr e) = inr (has-eq e.0 e.1 refl one, has-eq e.1 e.0 refl two)

module _ {ts us : List Tri} (s : Surface ts) (a b : ℕ) (ea : around us a ≡ around ts a) (eb : around us b ≡ around ts b) where
  linked-at : {c d : ℕ} → Linked ts a b c d → Linked us a b c d
  linked-at l = record {
    common = λ e i j. l.common e (omega (arith, sides-from ts us a ea e)) (omega (arith, sides-from ts us b eb e));
    solid = λ i j. l.solid (filled a ea i) (filled b eb j);
  }
    where
      filled : (x : ℕ) → around us x ≡ around ts x → {y z : ℕ} → Filled us x y z → Filled ts x y z
      filled x e (one_way h) = one_way (has_same ts us x e h)
      filled x e (other_way h) = other_way (has_same ts us x e h)

  pub linked_move : Surface us → 0 < sides ts a b → Linked ts a b (hinge ts a b).c (hinge ts a b).d → Linked us a b (hinge us a b).c (hinge us a b).d
  linked_move t given l = pick (opposites s a b given) (opposites t a b (omega (arith, sides-from ts us a ea b)))
    where
      to : (c d c' d' : ℕ) → c' ≡ c → d' ≡ d → Linked ts a b c d → Linked us a b c' d'
      to c d c' d' p q m = rw (p, q) (linked-at m)

      pick : ((Has a b (hinge ts a b).c ts) × (Has b a (hinge ts a b).d ts)) ⊎ ((Has b a (hinge ts a b).c ts) × (Has a b (hinge ts a b).d ts))
          → ((Has a b (hinge us a b).c us) × (Has b a (hinge us a b).d us)) ⊎ ((Has b a (hinge us a b).c us) × (Has a b (hinge us a b).d us))
          → Linked us a b (hinge us a b).c (hinge us a b).d
      pick (inl i) (inl j) = to _ _ _ _ (next_of s (has_same ts us a ea j.0) i.0) (next_of s (has_same ts us b eb j.1) i.1) l
      pick (inl i) (inr j) = to _ _ _ _ (next_of s (has_same ts us b eb j.0) i.1) (next_of s (has_same ts us a ea j.1) i.0) (turned l)
      pick (inr i) (inl j) = to _ _ _ _ (next_of s (has_same ts us a ea j.0) i.1) (next_of s (has_same ts us b eb j.1) i.0) (turned l)
      pick (inr i) (inr j) = to _ _ _ _ (next_of s (has_same ts us b eb j.0) i.0) (next_of s (has_same ts us a ea j.1) i.1) l

-- the labels
pub all_carried : (f : ℕ → Bool) (ts : List Tri) (ls : List ℕ) (v l : ℕ) → every f ls ≡ true → carries ts ls v l ≡ true → f l ≡ true
unfolding every carries
all_carried f [] ls v l e c = absurd (false≢true c)
all_carried f (t ∷ ts) [] v l e c = absurd (false≢true c)
all_carried f (t ∷ ts) (m ∷ ls) v l e c = pick (names t v && eqb m l) refl (all_carried f ts ls v l (both (f m) (every f ls) e).1)
  where
    pick : (k : Bool) → (names t v && eqb m l) ≡ k → (carries ts ls v l ≡ true → f l ≡ true) → f l ≡ true
    pick true g r = ap f (sym (eqb-true m l (both (names t v) (eqb m l) g).1)) ∙ (both (f m) (every f ls) e).0
    pick false g r = r (rw g at c)

pub all_of : (f : ℕ → Bool) (ls : List ℕ) → ((l : ℕ) → f l ≡ true) → every f ls ≡ true
unfolding every
all_of f [] h = refl
all_of f (l ∷ ls) h = join (f l) (every f ls) (h l) (all_of f ls h)

pub implied : (p q : Bool) → (p ≡ true → q ≡ true) → (not p || q) ≡ true
implied true q h = h refl
implied false q h = refl

pub implies : (p q : Bool) → (not p || q) ≡ true → p ≡ true → q ≡ true
implies true q e f = e
implies false q e f = absurd (false≢true f)

pub covered_move : (p q : Pair) (a b : ℕ) → ((l : ℕ) → carries q.tris q.labels a l ≡ carries p.tris p.labels a l)
    → ((l : ℕ) → carries q.tris q.labels b l ≡ carries p.tris p.labels b l) → covered p a b ≡ true → covered q a b ≡ true
covered_move p q a b ea eb c = all_of _ q.labels (λ l. implied _ _ (λ k.
    let m : carries p.tris p.labels b l ≡ true = sym (eb l) ∙ k in
    ea l ∙ implies _ _ (all_carried (λ (l : ℕ). not (carries p.tris p.labels b l) || carries p.tris p.labels a l) p.tris p.labels b l c m) m))

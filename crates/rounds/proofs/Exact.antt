-- The computed tests pass exactly where the edit is allowed.
use Prim.Native.Nat.{ℕ, ◌<◌}
use mathlib.Core.Path.{◌≡◌, refl, sym, ◌∙◌}
use mathlib.Core.Logic.{◌↔◌, ◌⊎◌, inl, inr}
use mathlib.Core.Bool.{Bool, true, false, not, ◌&&◌, ◌||◌, false≢true}
use mathlib.Core.List.{List, [], ◌∷◌}
use native.Mathlib.Omega.{arith}
use native.Mathlib.Decide.{ℕ_discrete}
use lib.Dec.{eqb}
use lib.ListN.{length}
use borrow.Author.Tests.{eq-eqb, lt-ltb}
use Rattle.surface.specs.Triangle.{Tri, names, corners}
use Rattle.surface.specs.Closed.{sides, around, Closed}
use Rattle.surface.specs.Edit.{first, hinge}
use Rattle.surface.proofs.Bools.{both, join}
use Rattle.surface.proofs.Reading.{Reads, here, there}
use Rattle.surface.proofs.Surface.{Surface}
use Rattle.surface.specs.Laws.{FourDiffer}
use Rattle.surface.proofs.Hinged.{hinged}
use Rattle.surface.proofs.Bridge.{named_turn, closed_surface_lem}
use Rattle.surface.proofs.Edits.{Filled, one_way, other_way, Linked}
use Rattle.surface.proofs.Laws.{hinge-differ}
use Rattle.surface.proofs.Counts.{tetrahedron-ends}
use Rattle.surface.specs.Check.{every}
use Rattle.history.specs.History.{Pair, exists}
use Rattle.rounds.specs.Pass.{near, State, Allowed}
use Rattle.rounds.specs.Flips.{FlipState, FlipAllowed}
use Rattle.rounds.specs.Choices.{common, filled, may_collapse, may_flip}
use Rattle.rounds.proofs.Near.{near-side}
use Rattle.rounds.proofs.Choices.{may_collapse_lem, may_flip_lem}

all_of : (f : ℕ → Bool) (ls : List ℕ) → ((l : ℕ) → f l ≡ true) → every f ls ≡ true
unfolding every
all_of f [] h = refl
all_of f (l ∷ ls) h = join (f l) (every f ls) (h l) (all_of f ls h)

not_on : (p : Bool) → p ≡ false → not p ≡ true
not_on p e = rw e refl

pub side-exists_test : (p : Pair) → Closed p.tris → (a b : ℕ) → 0 < sides p.tris a b → exists p a b ≡ true
unfolding hinge
side-exists_test p c a b g = let h = hinged (closed_surface_lem c) a b g in lt-ltb (first a b p.tris) (length p.tris) (omega (arith, h.order, h.fits))

pub filled-has : (ts : List Tri) (x y z : ℕ) → (x ≡ y → ⊥) → (y ≡ z → ⊥) → (z ≡ x → ⊥) → filled ts x y z ≡ true → Filled ts x y z
unfolding filled
filled-has [] x y z i j k e = absurd (false≢true e)
filled-has (t ∷ ts) x y z i j k e = pick (names t x && (names t y && names t z)) refl (filled-has ts x y z i j k)
  where
    on : (Reads t x y z) ⊎ (Reads t x z y) → Filled (t ∷ ts) x y z
    on (inl r) = one_way (here r)
    on (inr r) = other_way (here r)

    later : Filled ts x y z → Filled (t ∷ ts) x y z
    later (one_way h) = one_way (there h)
    later (other_way h) = other_way (there h)

    pick : (b : Bool) → (names t x && (names t y && names t z)) ≡ b → (filled ts x y z ≡ true → Filled ts x y z) → Filled (t ∷ ts) x y z
    pick true f r = let m = both (names t x) (names t y && names t z) f in let n = both (names t y) (names t z) m.1 in on (named_turn i j k m.0 n.0 n.1)
    pick false f r = later (r (rw f at e))

-- the ends of the side and the corners opposite to it all differ
pub record Apart (a b c d : ℕ) : Type 0 where
  pub ac : a ≡ c → ⊥
  pub ad : a ≡ d → ⊥
  pub bc : b ≡ c → ⊥
  pub bd : b ≡ d → ⊥
  pub cd : c ≡ d → ⊥

pub hinge-apart : {ts : List Tri} (c : Closed ts) (a b : ℕ) → 0 < sides ts a b → Apart a b (hinge ts a b).c (hinge ts a b).d
hinge-apart {ts} c a b g = pick (hinged (closed_surface_lem c) a b g).ends (hinge-differ c a b g)
  where
    pick : (((hinge ts a b).u ≡ a) × ((hinge ts a b).v ≡ b)) ⊎ (((hinge ts a b).u ≡ b) × ((hinge ts a b).v ≡ a))
        → FourDiffer (hinge ts a b).u (hinge ts a b).v (hinge ts a b).c (hinge ts a b).d → Apart a b (hinge ts a b).c (hinge ts a b).d
    pick (inl e) s = record {
      ac = λ q. s.cu (sym q ∙ sym e.0);
      ad = λ q. s.ud (e.0 ∙ q);
      bc = λ q. s.vc (e.1 ∙ q);
      bd = λ q. s.dv (sym q ∙ sym e.1);
      cd = s.cd;
    }
    pick (inr e) s = record {
      ac = λ q. s.vc (e.1 ∙ q);
      ad = λ q. s.dv (sym q ∙ sym e.1);
      bc = λ q. s.cu (sym q ∙ sym e.0);
      bd = λ q. s.ud (e.0 ∙ q);
      cd = s.cd;
    }

module _ {ts : List Tri} (s : Surface ts) (a b c d : ℕ) (k : Apart a b c d) (l : Linked ts a b c d) where
  pub common-passes : common ts a b c d ≡ true
  unfolding common
  common-passes = all_of _ (corners ts) (λ e. test e (near ts a e && near ts b e) refl)
    where
      test : (e : ℕ) (q : Bool) → (near ts a e && near ts b e) ≡ q → (not (near ts a e && near ts b e) || (eqb e a || (eqb e b || (eqb e c || eqb e d)))) ≡ true
      test e false f = rw f refl
      test e true f = rw f (pick (ℕ_discrete e a) (ℕ_discrete e b))
        where
          last : (e ≡ c) ⊎ (e ≡ d) → (eqb e a || (eqb e b || (eqb e c || eqb e d))) ≡ true
          last (inl q) = rw (eq-eqb e c q) (ends (eqb e a) (eqb e b))
            where
              ends : (x y : Bool) → (x || (y || true)) ≡ true
              ends true y = refl
              ends false true = refl
              ends false false = refl
          last (inr q) = rw (eq-eqb e d q) (ends (eqb e a) (eqb e b) (eqb e c))
            where
              ends : (x y z : Bool) → (x || (y || (z || true))) ≡ true
              ends true y z = refl
              ends false true z = refl
              ends false false true = refl
              ends false false false = refl

          pick : Dec (e ≡ a) → Dec (e ≡ b) → (eqb e a || (eqb e b || (eqb e c || eqb e d))) ≡ true
          pick (yes q) j = rw (eq-eqb e a q) refl
          pick (no i) (yes q) = rw (eq-eqb e b q) (ends (eqb e a))
            where
              ends : (x : Bool) → (x || true) ≡ true
              ends true = refl
              ends false = refl
          pick (no i) (no j) =
              let m = both (near ts a e) (near ts b e) f in
              last (l.common e (near-side s a e (λ q. i (sym q)) m.0) (near-side s b e (λ q. j (sym q)) m.1))

  pub solid_passes : not (filled ts a c d && filled ts b c d) ≡ true
  solid_passes = not_on _ (pick (filled ts a c d) refl (filled ts b c d) refl)
    where
      pick : (x : Bool) → filled ts a c d ≡ x → (y : Bool) → filled ts b c d ≡ y → (filled ts a c d && filled ts b c d) ≡ false
      pick true e true f = absurd (l.solid (filled-has ts a c d k.ac k.cd (λ q. k.ad (sym q)) e) (filled-has ts b c d k.bc k.cd (λ q. k.bd (sym q)) f))
      pick true e false f = rw (e, f) refl
      pick false e y f = rw e refl

module _ (p : Pair) (cl : Closed p.tris) where
  pub may_collapse_iff : (s : State) (a b : ℕ) → (may_collapse p s a b ≡ true) ↔ Allowed p s a b
  unfolding may_collapse
  may_collapse_iff s a b = (
    may_collapse_lem p cl s a b,
    λ k.
        let h = hinge p.tris a b in
        let q = hinge-apart cl a b k.side in
        join _ _ (not_on _ k.free_a) (join _ _ (not_on _ k.free_b) (join _ _ (side-exists_test p cl a b k.side)
        (join _ _ (common-passes (closed_surface_lem cl) a b h.c h.d q k.linked) (join _ _ (solid_passes (closed_surface_lem cl) a b h.c h.d q k.linked) k.labels)))),
  )

  pub may_flip_iff : (s : FlipState) (a b : ℕ) → (may_flip p s a b ≡ true) ↔ FlipAllowed p s a b
  unfolding may_flip
  may_flip_iff s a b = (
    may_flip_lem p cl s a b,
    λ k.
        join _ _ (side-exists_test p cl a b k.side) (join _ _ (eq-eqb _ _ k.labels) (join _ _ (not_on _ k.free_a) (join _ _ (not_on _ k.free_b)
        (join _ _ (not_on _ k.free_c) (join _ _ (not_on _ k.free_d) (eq-eqb _ _ k.fresh)))))),
  )

-- the tetrahedron by counting: not three triangles around both ends
pub linked-by-count : {ts : List Tri} → Closed ts → (a b : ℕ) → 0 < sides ts a b
    → ((e : ℕ) → 0 < sides ts a e → 0 < sides ts b e → (e ≡ (hinge ts a b).c) ⊎ (e ≡ (hinge ts a b).d))
    → (length (around ts a) ≡ 3 → length (around ts b) ≡ 3 → ⊥) → Linked ts a b (hinge ts a b).c (hinge ts a b).d
linked-by-count cl a b g f n =
    let e = tetrahedron-ends cl a b g in
    record { common = f; solid = λ i j. n (e.at_a.0 i) (e.at_b.0 j) }

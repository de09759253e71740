-- The laws of closed surfaces, in the terms of the definitions: `laws` is what `specs/Laws` states, from the laws below, each of which has its own proof file.
use Prim.Native.Nat.{ℕ, zero, suc, ◌*◌, ◌≤◌, ◌<◌}
use mathlib.Core.Path.{◌≡◌, refl, sym, ◌∙◌, ap}
use mathlib.Core.Logic.{◌↔◌, ◌⊎◌, inl, inr}
use mathlib.Core.Bool.{Bool, true, false, ◌||◌}
use mathlib.Core.List.{List, [], ◌∷◌}
use native.Mathlib.Omega.{arith}
use lib.ListN.{length}
use Rattle.surface.specs.Triangle.{Tri, tri, names, runs}
use Rattle.surface.specs.Closed.{times, sides, InUse, SameCorners, Closed}
use Rattle.surface.specs.PageTwelve.{Turns, first, second, third}
use Rattle.surface.specs.Edit.{has, place, Hinge, hinge, flip, collapse}
use Rattle.surface.specs.Euler.{edges, Below, SameEuler}
use Rattle.surface.specs.Laws.{IsSide, FourDiffer, TwoTriangles, Filled, LinkCondition, SideLaws, Laws}
use Rattle.surface.proofs.Reading.{Reads, r0, r1, r2, turn, reads_eq, reads_hits, times-hits, has-side, side-has}
use Rattle.surface.proofs.Surface.{Surface}
use Rattle.surface.proofs.Places.{place-has, has-place}
use Rattle.surface.proofs.Hinged.{Hinged, hinged, has_either, runs_no}
use Rattle.surface.proofs.Bridge.{closed_surface_lem, surface_closed, named_turn, reads_name, reads_names, over-names}
use Rattle.surface.proofs.Edits as Read
use Rattle.surface.proofs.Edits.{one_way, other_way, Linked, hinge-six, flip_law, collapse_law}
use Rattle.surface.proofs.Euler.{flip-keeps, collapse-keeps}
use Rattle.surface.proofs.Formula.{edges-count, flip-euler, collapse-euler, same-euler, any-bound}
use Rattle.surface.proofs.Labels.{flip_no_new, collapse_no_new}
use Rattle.surface.proofs.Valence.{distinct_iff}

-- a triangle with three given corners, by its place
pub filled-place : {ts : List Tri} {x y z : ℕ} → Read.Filled ts x y z → (i : ℕ) × (i < length ts) × SameCorners (place ts i) (tri x y z)
filled-place {ts} {x} {y} {z} (one_way h) = let p = has-place ts h in (p.at, p.fits, λ v. reads_names p.reads v)
filled-place {ts} {x} {y} {z} (other_way h) = let p = has-place ts h in (p.at, p.fits, let r : Reads (tri x y z) x y z = r0 refl refl refl in over-names p.reads r)

pub place-filled : {ts : List Tri} {x y z : ℕ} → (x ≡ y → ⊥) → (y ≡ z → ⊥) → (z ≡ x → ⊥) → (i : ℕ) → i < length ts
    → names (place ts i) x ≡ true → names (place ts i) y ≡ true → names (place ts i) z ≡ true → Read.Filled ts x y z
place-filled {ts} {x} {y} {z} j k l i m nx ny nz = pick (named_turn j k l nx ny nz)
  where
    pick : (Reads (place ts i) x y z) ⊎ (Reads (place ts i) x z y) → Read.Filled ts x y z
    pick (inl r) = one_way (place-has ts i m r)
    pick (inr r) = other_way (place-has ts i m r)

-- the side exists: some triangle has it
pub side-exists : {ts : List Tri} → Closed ts → (a b i : ℕ) → i < length ts → has a b (place ts i) ≡ true → 0 < sides ts a b
side-exists {ts} c a b i l e = pick (has_either (place ts i) a b e)
  where
    pick : ((z : ℕ) × Reads (place ts i) a b z) ⊎ ((z : ℕ) × Reads (place ts i) b a z) → 0 < sides ts a b
    pick (inl r) = has-side (place-has ts i l r.1)
    pick (inr r) = let s = closed_surface_lem c in omega (arith, s.even a b, has-side (place-has ts i l r.1))

module _ {ts : List Tri} (c : Closed ts) (a b : ℕ) (given : 0 < sides ts a b) where
  -- the two triangles of the side are found
  pub hinge-found : Hinged ts a b (hinge ts a b)
  hinge-found = hinged (closed_surface_lem c) a b given

  -- their four corners differ
  pub hinge-differ : FourDiffer (hinge ts a b).u (hinge ts a b).v (hinge ts a b).c (hinge ts a b).d
  hinge-differ = hinge-six (closed_surface_lem c) a b given

  -- and the flip is closed if and only if it makes a new side
  pub flip-closed : Closed (flip a b ts) ↔ (sides ts (hinge ts a b).c (hinge ts a b).d ≡ 0)
  flip-closed = ((λ t. (flip_law (closed_surface_lem c) a b given).0 (closed_surface_lem t)), λ e. surface_closed ((flip_law (closed_surface_lem c) a b given).1 e))

  -- the collapse is closed if and only if the ends of the side have no third common neighbour and the four corners no whole tetrahedron
  pub collapse-closed : Closed (collapse a b ts) ↔ Linked ts a b (hinge ts a b).c (hinge ts a b).d
  collapse-closed = ((λ t. (collapse_law (closed_surface_lem c) a b given).0 (closed_surface_lem t)), λ l. surface_closed ((collapse_law (closed_surface_lem c) a b given).1 l))

  -- the corners in use, and Euler's number
  pub flip-corners : (w : ℕ) → InUse (flip a b ts) w ↔ InUse ts w
  flip-corners = flip-keeps (closed_surface_lem c) a b given

  pub collapse-corners : (w : ℕ) → InUse (collapse a b ts) w ↔ ((InUse ts w) × (w ≡ b → ⊥))
  collapse-corners = collapse-keeps (closed_surface_lem c) a b given

  pub flip-same-euler : (n : ℕ) → Below n ts → Closed (flip a b ts) → SameEuler n ts (flip a b ts)
  flip-same-euler n below t = flip-euler (closed_surface_lem c) a b given n below (closed_surface_lem t)

  pub collapse-same-euler : (n : ℕ) → Below n ts → Closed (collapse a b ts) → SameEuler n ts (collapse a b ts)
  collapse-same-euler n below t = collapse-euler (closed_surface_lem c) a b given n below (closed_surface_lem t)

-- in a closed list, two triangles to a side, three sides to a triangle
pub closed-edges : {ts : List Tri} → Closed ts → (n : ℕ) → Below n ts → 2 * edges n ts ≡ 3 * length ts
closed-edges c = edges-count (closed_surface_lem c)

-- ---- the statements of `specs/Laws`

-- a side, by a place and by counting
pub is-side : {ts : List Tri} → Closed ts → (a b : ℕ) → IsSide ts a b → 0 < sides ts a b
is-side c a b s = side-exists c a b s.0 s.1 s.2

reads_has : {t : Tri} {x y z : ℕ} → Reads t x y z → has x y t ≡ true
reads_has {t} {x} {y} r = pick (runs t x y) refl
  where
    pick : (k : Bool) → runs t x y ≡ k → (k || runs t y x) ≡ true
    pick true e = refl
    pick false e = absurd (omega (arith, times-hits t x y, runs_no t x y e, reads_hits r))

pub side-is : (ts : List Tri) (a b : ℕ) → 0 < sides ts a b → IsSide ts a b
side-is ts a b g = let h = side-has ts a b g in let p = has-place ts h.1 in (p.at, p.fits, reads_has p.reads)

reads_turns : {t : Tri} {x y z : ℕ} → Reads t x y z → Turns t (tri x y z)
reads_turns {t} (r0 p q r) = rw (← p, ← q, ← r) first
reads_turns {t} (r1 p q r) = rw (← p, ← q, ← r) second
reads_turns {t} (r2 p q r) = rw (← p, ← q, ← r) third

-- two places that run from u to v make the side occur twice
place-sides : (ts : List Tri) (i u v : ℕ) → i < length ts → times (place ts i) u v ≤ sides ts u v
unfolding sides
place-sides [] i u v l = absurd (omega arith)
place-sides (t ∷ ts) zero u v l = omega arith
place-sides (t ∷ ts) (suc i) u v l = omega (arith, place-sides ts i u v (omega arith))

one_place : (ts : List Tri) (i j u v : ℕ) → sides ts u v ≤ 1 → i < length ts → j < length ts → 0 < times (place ts i) u v → 0 < times (place ts j) u v → i ≡ j
unfolding sides
one_place [] i j u v o l m p q = absurd (omega arith)
one_place (t ∷ ts) zero zero u v o l m p q = refl
one_place (t ∷ ts) zero (suc j) u v o l m p q = absurd (omega (arith, place-sides ts j u v (omega arith)))
one_place (t ∷ ts) (suc i) zero u v o l m p q = absurd (omega (arith, place-sides ts i u v (omega arith)))
one_place (t ∷ ts) (suc i) (suc j) u v o l m p q = ap suc (one_place ts i j u v (omega arith) (omega arith) (omega arith) p q)

reads_times : {t : Tri} {x y z : ℕ} → Reads t x y z → 0 < times t x y
reads_times {t} {x} {y} r = omega (arith, times-hits t x y, reads_hits r)

module _ {ts : List Tri} (c : Closed ts) (a b : ℕ) (given : 0 < sides ts a b) where
  abbrev h : Hinge
  h = hinge ts a b

  k : Hinged ts a b h
  k = hinge-found c a b given

  -- no other triangle has the side
  only : (i : ℕ) → i < length ts → has a b (place ts i) ≡ true → (i ≡ h.p1) ⊎ (i ≡ h.p2)
  only i l e = pick (has_either (place ts i) a b e) k.ends
    where
      s : Surface ts
      s = closed_surface_lem c

      l1 : h.p1 < length ts
      l1 = omega (arith, k.order, k.fits)

      at_1 : 0 < times (place ts i) h.u h.v → i ≡ h.p1
      at_1 r = one_place ts i h.p1 h.u h.v (s.once h.u h.v) l l1 r (reads_times k.ahead)

      at_2 : 0 < times (place ts i) h.v h.u → i ≡ h.p2
      at_2 r = one_place ts i h.p2 h.v h.u (s.once h.v h.u) l k.fits r (reads_times k.back)

      pick : ((z : ℕ) × Reads (place ts i) a b z) ⊎ ((z : ℕ) × Reads (place ts i) b a z) → ((h.u ≡ a) × (h.v ≡ b)) ⊎ ((h.u ≡ b) × (h.v ≡ a)) → (i ≡ h.p1) ⊎ (i ≡ h.p2)
      pick (inl r) (inl q) = inl (at_1 (reads_times (reads_eq (sym q.0) (sym q.1) refl r.1)))
      pick (inl r) (inr q) = inr (at_2 (reads_times (reads_eq (sym q.1) (sym q.0) refl r.1)))
      pick (inr r) (inl q) = inr (at_2 (reads_times (reads_eq (sym q.1) (sym q.0) refl r.1)))
      pick (inr r) (inr q) = inl (at_1 (reads_times (reads_eq (sym q.0) (sym q.1) refl r.1)))

  two-triangles : TwoTriangles ts a b
  two-triangles = record {
    order = k.order;
    fits = k.fits;
    ahead = reads_turns k.ahead;
    back = reads_turns k.back;
    ends = k.ends;
    only = only;
    differ = hinge-differ c a b given;
  }

  -- a triangle by its corners and by its readings
  filled : {x : ℕ} → (x ≡ h.c → ⊥) → (h.d ≡ x → ⊥) → Filled ts x h.c h.d → Read.Filled ts x h.c h.d
  filled {x} i j f =
      let n : (v : ℕ) → names (place ts f.0) v ≡ names (tri x h.c h.d) v = f.2 in
      let r : Reads (tri x h.c h.d) x h.c h.d = r0 refl refl refl in
      place-filled i (hinge-differ c a b given).cd j f.0 f.1 (n x ∙ reads_name r) (n h.c ∙ reads_name (turn r)) (n h.d ∙ reads_name (turn (turn r)))

  ends-differ : ((a ≡ h.c → ⊥) × (h.d ≡ a → ⊥)) × ((b ≡ h.c → ⊥) × (h.d ≡ b → ⊥))
  ends-differ = pick k.ends
    where
      q : FourDiffer h.u h.v h.c h.d
      q = hinge-differ c a b given

      pick : ((h.u ≡ a) × (h.v ≡ b)) ⊎ ((h.u ≡ b) × (h.v ≡ a)) → ((a ≡ h.c → ⊥) × (h.d ≡ a → ⊥)) × ((b ≡ h.c → ⊥) × (h.d ≡ b → ⊥))
      pick (inl e) = (((λ x. q.cu (sym (e.0 ∙ x))), λ x. q.ud (e.0 ∙ sym x)), ((λ x. q.vc (e.1 ∙ x)), λ x. q.dv (x ∙ sym e.1)))
      pick (inr e) = (((λ x. q.vc (e.1 ∙ x)), λ x. q.dv (x ∙ sym e.1)), ((λ x. q.cu (sym (e.0 ∙ x))), λ x. q.ud (e.0 ∙ sym x)))

  condition : Linked ts a b h.c h.d ↔ LinkCondition ts a b h.c h.d
  condition = (
    (λ l. record {
      common = λ e p q. l.common e (is-side c a e p) (is-side c b e q);
      piece = λ p q. l.solid (filled ends-differ.0.0 ends-differ.0.1 p) (filled ends-differ.1.0 ends-differ.1.1 q);
    }),
    λ l. record { common = λ e p q. l.common e (side-is ts a e p) (side-is ts b e q); solid = λ p q. l.piece (filled-place p) (filled-place q) },
  )

  no_side : (x y : ℕ) → (sides ts x y ≡ 0) ↔ (IsSide ts x y → ⊥)
  no_side x y = ((λ e i. absurd (omega (arith, is-side c x y i))), λ n. pick (sides ts x y) refl n)
    where
      pick : (m : ℕ) → sides ts x y ≡ m → (IsSide ts x y → ⊥) → sides ts x y ≡ 0
      pick zero e n = e
      pick (suc m) e n = absurd (n (side-is ts x y (omega arith)))

  side-laws : SideLaws ts a b
  side-laws = record {
    two-triangles = two-triangles;
    flip-closed = ((λ t. (no_side h.c h.d).0 ((flip-closed c a b given).0 t)), λ n. (flip-closed c a b given).1 ((no_side h.c h.d).1 n));
    collapse-closed = ((λ t. condition.0 ((collapse-closed c a b given).0 t)), λ l. (collapse-closed c a b given).1 (condition.1 l));
    flip-corners = flip-corners c a b given;
    collapse-corners = collapse-corners c a b given;
    flip-euler = λ n below t. same-euler n ts (flip a b ts) (flip-same-euler c a b given n below t);
    collapse-euler = λ n below t. same-euler n ts (collapse a b ts) (collapse-same-euler c a b given n below t);
    flip-labels = λ ls e. flip_no_new c ls e a b given;
    collapse-labels = λ ls e. collapse_no_new c ls e a b given;
  }

pub laws : Laws
laws = record {
  side = λ ts c a b s. side-laws c a b (is-side c a b s);
  three_halves = λ ts c. closed-edges c;
  any-bound = any-bound;
  corner_of_two = λ ts. distinct_iff;
}

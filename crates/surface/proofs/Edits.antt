-- The flip and the collapse of a surface.
use Prim.Native.Nat.{ℕ, ◌+◌, ◌<◌}
use mathlib.Core.Path.{◌≡◌, sym, ◌∙◌, subst₂}
use mathlib.Core.Logic.{◌↔◌, ◌⊎◌, inl, inr}
use mathlib.Core.List.{List, map}
use native.Mathlib.Omega.{arith}
use Rattle.surface.specs.Triangle.{Tri, tri}
use Rattle.surface.specs.Laws.{FourDiffer}
use Rattle.surface.specs.Closed.{sides}
use Rattle.surface.specs.Edit.{Hinge, hinge, flip, without, renamed, collapse}
use Rattle.surface.proofs.Reading.{hit, Has, spin}
use Rattle.surface.proofs.Surface.{Surface, Alike, alike_swap, alike_sym, alike_trans, surface_alike, next_of}
use Rattle.surface.proofs.Places.{both-taken, both-given}
use Rattle.surface.proofs.Hinged.{Hinged, hinged}
use Rattle.surface.proofs.FlipCore.{change, before, after, six, one-there, two-there, flip_core}
use Rattle.surface.proofs.CollapseCore.{collapse_core}

-- a triangle with the corners x, y and z, turning the one way or the other
pub data Filled (ts : List Tri) (x y z : ℕ) : Type 0 where
  one_way : Has x y z ts → Filled ts x y z
  other_way : Has x z y ts → Filled ts x y z

-- the corners of the side have no common neighbour but c and d
pub record Linked (ts : List Tri) (a b c d : ℕ) : Type 0 where
  pub common : (e : ℕ) → 0 < sides ts a e → 0 < sides ts b e → (e ≡ c) ⊎ (e ≡ d)
  -- and the four corners do not form a whole tetrahedron
  pub solid : Filled ts a c d → Filled ts b c d → ⊥

module _ {ts : List Tri} (s : Surface ts) (a b : ℕ) (given : 0 < sides ts a b) where
  abbrev h : Hinge
  h = hinge ts a b

  abbrev pub left : List Tri
  left = without h.p1 (without h.p2 ts)

  k : Hinged ts a b (hinge ts a b)
  k = hinged s a b given

  pub as_before : Alike ts (before h.u h.v h.c h.d left)
  as_before = both-taken ts h.p1 h.p2 k.order k.fits k.ahead k.back

  pub as_after : Alike (flip a b ts) (after h.u h.v h.c h.d left)
  unfolding flip
  as_after = both-given ts h.p1 h.p2 k.order k.fits (tri h.c h.d h.v) (tri h.d h.c h.u)

  s' : Surface (before h.u h.v h.c h.d left)
  s' = surface_alike as_before s

  pub hinge-six : FourDiffer h.u h.v h.c h.d
  hinge-six = six h.u h.v h.c h.d left s'

  -- the sides: u v and v u go, c d and d c come
  pub flip-sides : (p q : ℕ) → sides (flip a b ts) p q + (hit h.u h.v p q + hit h.v h.u p q) ≡ sides ts p q + (hit h.c h.d p q + hit h.d h.c p q)
  flip-sides p q = omega (arith, as_before.count p q, as_after.count p q, change h.u h.v h.c h.d left p q)

  pub flip_law : Surface (flip a b ts) ↔ (sides ts h.c h.d ≡ 0)
  flip_law = (
    (λ t. as_before.count h.c h.d ∙ (flip_core h.u h.v h.c h.d left s').0 (surface_alike as_after t)),
    λ e. surface_alike (alike_sym as_after) ((flip_core h.u h.v h.c h.d left s').1 (sym (as_before.count h.c h.d) ∙ e)),
  )

  -- the same from a to b, whichever of the two triangles comes first
  pub either_way : (Alike ts (before a b h.c h.d left)) ⊎ (Alike ts (before a b h.d h.c left))
  either_way = pick k.ends
    where
      pick : ((h.u ≡ a) × (h.v ≡ b)) ⊎ ((h.u ≡ b) × (h.v ≡ a)) → (Alike ts (before a b h.c h.d left)) ⊎ (Alike ts (before a b h.d h.c left))
      pick (inl e) = inl (subst₂ (λ (x y : ℕ). Alike ts (before x y h.c h.d left)) e.0 e.1 as_before)
      pick (inr e) = inr (alike_trans (subst₂ (λ (x y : ℕ). Alike ts (before x y h.c h.d left)) e.0 e.1 as_before) (alike_swap (tri b a h.c) (tri a b h.d) left))

-- the collapse, where the list is known as the two triangles and a rest
module _ {ts : List Tri} (s : Surface ts) (a b c d : ℕ) (rest : List Tri) (k : Alike ts (before a b c d rest)) where
  t' : Surface (before a b c d rest)
  t' = surface_alike k s

  -- of the two ways a c d and b c d can turn, the surface leaves one
  one_turn : Filled ts a c d → Has a c d ts
  one_turn (one_way h) = h
  one_turn (other_way h) = absurd ((six a b c d rest t').vc (sym (next_of s h (k.back a d b (spin (two-there a b c d rest))))))

  other_turn : Filled ts b c d → Has b d c ts
  other_turn (one_way h) = absurd ((six a b c d rest t').ud (next_of s (k.back b c a (spin (one-there a b c d rest))) h))
  other_turn (other_way h) = h

  pub collapse-at : Surface (map (renamed a b) rest) ↔ Linked ts a b c d
  collapse-at = (to, from)
    where
      to : Surface (map (renamed a b) rest) → Linked ts a b c d
      to m = let q = (collapse_core a b c d rest t').0 m in record {
        common = λ e i j. q.0 e (omega (arith, k.count a e)) (omega (arith, k.count b e));
        solid = λ i j. q.1 (k.ahead a c d (one_turn i)) (k.ahead b d c (other_turn j));
      }

      from : Linked ts a b c d → Surface (map (renamed a b) rest)
      from l = (collapse_core a b c d rest t').1 (
        (λ e i j. l.common e (omega (arith, k.count a e)) (omega (arith, k.count b e))),
        λ i j. l.solid (one_way (k.back a c d i)) (other_way (k.back b d c j)),
      )

turn_over : {ts : List Tri} {a b c d : ℕ} → Linked ts a b d c → Linked ts a b c d
turn_over l = record { common = λ e i j. swap (l.common e i j); solid = λ i j. l.solid (over i) (over j) }
  where
    swap : {A B : Type 0} → A ⊎ B → B ⊎ A
    swap (inl p) = inr p
    swap (inr p) = inl p

    over : {ts : List Tri} {x y z : ℕ} → Filled ts x y z → Filled ts x z y
    over (one_way h) = other_way h
    over (other_way h) = one_way h

pub collapse_law : {ts : List Tri} (s : Surface ts) (a b : ℕ) (given : 0 < sides ts a b)
    → Surface (collapse a b ts) ↔ Linked ts a b (hinge ts a b).c (hinge ts a b).d
unfolding collapse
collapse_law {ts} s a b given = pick (either_way s a b given)
  where
    h : Hinge
    h = hinge ts a b

    pick : (Alike ts (before a b h.c h.d (left s a b given))) ⊎ (Alike ts (before a b h.d h.c (left s a b given)))
        → Surface (map (renamed a b) (left s a b given)) ↔ Linked ts a b h.c h.d
    pick (inl k) = collapse-at s a b h.c h.d (left s a b given) k
    pick (inr k) = let q = collapse-at s a b h.d h.c (left s a b given) k in ((λ t. turn_over (q.0 t)), λ l. q.1 (turn_over l))

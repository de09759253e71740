-- The request's sentences about the list of outlines, each a field. `outlines-request` of proofs/Laws proves that the list which `outlines` computes has them all, `outlines-only` of proofs/Unique that no other has. Definitions only.
use Rattle.std.specs.Prelude.{ℕ, ◌<◌, ◌≡◌, Bool, true, not, ◌&&◌, List, [], ◌∷◌, ◌++◌, map, length}
use Rattle.surface.specs.Triangle.{Tri, runs}
use Rattle.surface.specs.Edit.{has, place}
use Rattle.surface.specs.Laws.{IsSide}
use Rattle.outlines.specs.Side.{Side, same?, before?, tally, times_in, Each, Ascending}
use Rattle.outlines.specs.Crossing.{crossed?, crossed_triangle?}
use Rattle.outlines.specs.Outline.{Loop, Place, numbered_loops}

-- the sides of all loops, in their order
unfoldable pub sides_of : List Loop → List Side
sides_of [] = []
sides_of (l ∷ ls) = l.start ∷ (l.rest ++ sides_of ls)

-- a side of a loop and the one after it
pub record Neighbours : Type 0 where
  pub first : Side
  pub second : Side

-- the neighbours from s on, the last of them the last side and the start
unfoldable pub neighbours_from : Side → Side → List Side → List Neighbours
neighbours_from start s [] = record { first = s; second = start } ∷ []
neighbours_from start s (t ∷ l) = record { first = s; second = t } ∷ neighbours_from start t l

-- the neighbours in all loops, last and first included
unfoldable pub neighbours : List Loop → List Neighbours
unfolding neighbours_from
neighbours [] = []
neighbours (l ∷ ls) = neighbours_from l.start l.start l.rest ++ neighbours ls

-- the side after the start
abbrev pub after_start : Side → List Side → Side
after_start start [] = start
after_start start (s ∷ l) = s

-- the triangle joins the pair: both are sides of it, and they differ
abbrev pub joins? : Tri → Neighbours → Bool
joins? t p = has p.first.low p.first.high t && (has p.second.low p.second.high t && not (same? p.first p.second))

-- some triangle of the list joins the pair
abbrev pub Shared : List Tri → Neighbours → Type 0
Shared ts p = (i : ℕ) × (i < length ts) × (joins? (place ts i) p ≡ true)

-- the triangle that runs the start from its smaller to its larger corner joins it to the side after it
abbrev pub Directed : List Tri → Loop → Type 0
Directed ts l = (i : ℕ) × (i < length ts) × (runs (place ts i) l.start.low l.start.high ≡ true)
    × (joins? (place ts i) (record { first = l.start; second = after_start l.start l.rest }) ≡ true)

-- s is a side of the list of triangles, smaller corner first, and the plane crosses it
pub record CrossedSide (above : ℕ → Bool) (ts : List Tri) (s : Side) : Type 0 where
  pub order : s.low < s.high
  pub is-side : IsSide ts s.low s.high
  pub crossed : crossed? above s ≡ true

pub record Outlines (above : ℕ → Bool) (ts : List Tri) (places : List Place) : Type 0 where
  pub loops : List Loop
  -- a place holds the two corners and the loop's number, from 0
  pub written : places ≡ numbered_loops 0 loops
  -- each crossed side is in exactly one loop, once, and no other is in one
  pub each : (s : Side) → CrossedSide above ts s → times_in s (sides_of loops) ≡ 1
  pub no_other : (s : Side) → 0 < times_in s (sides_of loops) → CrossedSide above ts s
  -- neighbours, last and first included, share a triangle
  pub shared : Each (Shared ts) (neighbours loops)
  -- each crossed triangle joins just one such pair
  pub joined : (i : ℕ) → i < length ts → crossed_triangle? above (place ts i) ≡ true → tally (joins? (place ts i)) (neighbours loops) ≡ 1
  -- a loop starts at its smallest side
  pub smallest : Each (λ (l : Loop). Each (λ s. before? l.start s ≡ true) l.rest) loops
  -- and goes on through the triangle that runs that side from smaller to larger corner
  pub direction : Each (Directed ts) loops
  -- loops come by starting side
  pub by-start : Ascending (map (λ (l : Loop). l.start) loops)

-- The contracts of the crate: what is handed in, what stands in the words once the crossed sides are counted, and the answer. Definitions only.
use Rattle.std.specs.Prelude.{ℕ, ◌+◌, ◌*◌, ◌%◌, ◌<◌, ◌≤◌, ◌≡◌, Bool, List, ◌++◌, eqb, length, drop}
use Rattle.surface.specs.Triangle.{triangles}
use Rattle.surface.specs.Closed.{Closed}
use Rattle.halfedges.specs.Place.{at}
use Rattle.outlines.specs.Crossing.{crossings}
use Rattle.outlines.specs.Outline.{outlines, loops, place_words}
use Rattle.outlines.specs.Stages.Trace.{kinds-from, marks-from, Arranged}

-- whether a point lies above the plane, as the words say
abbrev pub above_by : List ℕ → ℕ → List ℕ → ℕ → Bool
above_by c p w v = eqb (at w (kinds-from c p + v)) 1

-- what is handed in: a closed list of the corners of p points, room for the areas, and for each point 1 where it lies above and 0 where it lies below
pub record Kinded (c : List ℕ) (p : ℕ) (w : List ℕ) : Type 0 where
  pub thirds : length c % 3 ≡ 0
  pub few : length c ≤ 98304
  pub points : p ≤ 32768
  pub below : (k : ℕ) → k < length c → at c k < p
  pub room : marks-from c p + length c ≤ length w
  pub closed : Closed (triangles c)
  pub kinds : (v : ℕ) → v < p → at w (kinds-from c p + v) ≤ 1

-- the words are ready for the walk: the sides stand in them, and no side is marked
pub record SidesPrepared (c : List ℕ) (p : ℕ) (w : List ℕ) (count total : ℕ) : Type 0 where
  pub arranged : Arranged c p w count
  pub closed : Closed (triangles c)
  pub kinds : (v : ℕ) → v < p → at w (kinds-from c p + v) ≤ 1
  pub blank : (k : ℕ) → k < length c → at w (marks-from c p + k) ≡ 0
  pub total-is : total ≡ length (crossings (above_by c p w) (triangles c))

-- the kinds and the words behind the areas are as they were
pub record KindsKept (c : List ℕ) (p : ℕ) (w w' : List ℕ) : Type 0 where
  pub kinds : (v : ℕ) → v < p → at w' (kinds-from c p + v) ≡ at w (kinds-from c p + v)
  pub far : (j : ℕ) → marks-from c p + length c ≤ j → at w' j ≡ at w j

-- the answer: the list begins with the outlines and is else as it was, and the number of loops is that of the outlines
pub record Outlined (c : List ℕ) (p : ℕ) (w w' l l' : List ℕ) (r : ℕ) : Type 0 where
  pub list : l' ≡ place_words (outlines (above_by c p w) (triangles c)) ++ drop (3 * length (crossings (above_by c p w) (triangles c))) l
  pub loop-count : r ≡ length (loops (above_by c p w) (triangles c))
  pub kept : KindsKept c p w w'

-- The marks of the labels that a corner carries, eight words for each corner. Definitions only.
use Rattle.std.specs.Prelude.{ℕ, ◌+◌, ◌*◌, ◌<◌, ◌≡◌, List, length, get_or}
use Rattle.surface.specs.Triangle.{triangles}
use Rattle.surface.specs.Closed.{one}
use Rattle.surface.specs.Label.{carries}
use Rattle.halfedges.specs.Place.{at}
use Rattle.halfedges.specs.Free.{Free}

-- the marks stand in the words from base on: 1 where v carries the label l, else 0
pub record Carried (c ls : List ℕ) (p : ℕ) (w : List ℕ) (base : ℕ) : Type 0 where
  pub each : (v l : ℕ) → v < p → l < 8 → at w (base + v * 8 + l) ≡ one (carries (triangles c) ls v l)

-- a label below 8 for each triangle
pub record Labelled (c ls : List ℕ) : Type 0 where
  pub size : length ls * 3 ≡ length c
  pub small : (i : ℕ) → i < length ls → get_or ls i 0 < 8

-- after the labels are marked, in words that were w: the marks stand in the first ones, and no other word changes
pub record LabelsMarked (c ls : List ℕ) (p : ℕ) (w w' : List ℕ) : Type 0 where
  pub carries : Carried c ls p w' 0
  pub rest : Free 0 (p * 8) w w'

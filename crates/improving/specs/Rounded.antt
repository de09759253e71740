-- What a round, and what several, are handed and leave in the lists that are lent. Definitions only.
use Rattle.std.specs.Prelude.{ℕ, ◌+◌, ◌-◌, ◌*◌, ◌/◌, ◌%◌, ◌≤◌, ◌≡◌, List, ◌++◌, length, replicate, Float}
use Rattle.field.specs.Number.{plus_zero}
use Rattle.surface.specs.Triangle.{triangles, corners}
use Rattle.surface.specs.Closed.{Closed}
use Rattle.chains.specs.LabelMarks.{Labelled}
use Rattle.chains.specs.Marks.{Lists}
use Rattle.history.specs.Lists.{then_zero}
use Rattle.oracle.specs.Round.{Mesh, Result}

-- a closed surface as lists, and words as many as the questions ask for
pub record Improvable (ps : List Float) (c ls w : List ℕ) : Type 0 where
  pub lists : Lists c (length ps / 3)
  pub coords : length ps % 3 ≡ 0
  pub labelled : Labelled c ls
  pub closed : Closed (triangles c)
  pub room : 32 * length ls + 16 * (length ps / 3) ≤ length w

-- l, then +0, as long as the list lent
abbrev pub then_plus_zero : List Float → List Float → List Float
then_plus_zero lent l = l ++ replicate (length lent - length l) plus_zero

-- the lists hold a mesh, then 0, and are as long as those lent
pub record Holds (m : Mesh) (ps : List Float) (c ls : List ℕ) (ps' : List Float) (c' ls' : List ℕ) : Type 0 where
  pub points : ps' ≡ then_plus_zero ps m.points
  pub corners : c' ≡ then_zero c (corners m.pair.tris)
  pub labels : ls' ≡ then_zero ls m.pair.labels

-- they hold what a round or several make; p points and n triangles are left, and there were k flips, at most `most`
pub record Rounded (r : Result) (most : ℕ) (ps : List Float) (c ls : List ℕ) (ps' : List Float) (c' ls' : List ℕ) (p n k : ℕ) : Type 0 where
  pub holds : Holds r.mesh ps c ls ps' c' ls'
  pub points : length r.mesh.points ≡ p * 3
  pub triangles : length r.mesh.pair.labels ≡ n
  pub flips : k ≡ r.flips
  pub few : k ≤ most

-- A round: the collapse pass, the renumbering by first use, the flip pass. With `skip` the side of a piece of just four corners is left (ours), without it is the original's. Definitions only.
use Rattle.std.specs.Prelude.{ℕ, zero, suc, ◌+◌, ◌/◌, Bool, true, false, List, [], ◌∷◌, length, Float}
use Rattle.history.specs.History.{Pair, Entry}
use Rattle.rounds.specs.Pass.{State, result}
use Rattle.rounds.specs.Flips.{FlipState, flip_result}
use Rattle.rounds.specs.Renumber.{first_use}
use Rattle.rounds.specs.Choices.{Side, collapse_start, by_first_use, flip_start, flip_pass, flips_of}
use Rattle.oracle.specs.Scene.{Scene, scene}
use Rattle.oracle.specs.Rising.{rows_of, rising}
use Rattle.oracle.specs.Candidates.{candidates}
use Rattle.oracle.specs.Slivers.{pass}
use Rattle.oracle.specs.Points.{gathered}
use Rattle.oracle.specs.Gains.{helps}

-- the points, and the triangles with their labels
pub record Mesh : Type 0 where
  pub points : List Float
  pub pair : Pair

pub record Sheet : Type 0 where
  pub coefficients : List Float
  pub powers : List ℕ

abbrev pub seen : Sheet → List Float → Scene
seen f ps = scene ps f.coefficients f.powers

-- how many points there are
abbrev pub count : Mesh → ℕ
count m = length m.points / 3

-- the pair after the collapse pass, and the mesh after the renumbering
unfoldable pub dropped : Bool → Sheet → Mesh → Pair
unfolding candidates pass
dropped skip f m = let s = seen f m.points in result m.pair (pass skip s m.pair (collapse_start m.pair) (candidates s m.pair (count m)))

unfoldable pub numbered : List Float → Pair → Mesh
unfolding gathered first_use
numbered ps d = record { points = gathered ps (first_use d.tris); pair = by_first_use d }

-- the flip pass, and how many flips it makes
unfoldable pub flipped : Sheet → Mesh → Pair
unfolding flip_pass helps rows_of
flipped f m = flip_result m.pair (flip_pass m.pair (helps (seen f m.points) m.pair) (flip_start m.pair) (rising m.pair.tris (count m)))

unfoldable pub flips : Sheet → Mesh → ℕ
unfolding flips_of helps rows_of
flips f m = length (flips_of m.pair (helps (seen f m.points) m.pair) (flip_start m.pair) (rising m.pair.tris (count m)))

-- what a round, or several, make of a mesh, and how many flips they have
pub record Result : Type 0 where
  pub mesh : Mesh
  pub flips : ℕ

unfoldable pub round : Bool → Sheet → Mesh → Result
unfolding dropped numbered flipped flips
round skip f m = let n = numbered m.points (dropped skip f m) in record { mesh = record { points = n.points; pair = flipped f n }; flips = flips f n }

unfoldable pub rounds : Bool → Sheet → ℕ → Mesh → Result
unfolding round
rounds skip f zero m = record { mesh = m; flips = 0 }
rounds skip f (suc n) m = let r = round skip f m in let s = rounds skip f n r.mesh in record { mesh = s.mesh; flips = r.flips + s.flips }

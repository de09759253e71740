-- A turn of the loop of `improve` up to its closing `smooth_impl`: `collapse_slivers` whole, then the flip loop. Definitions only.
use Rattle.std.specs.Prelude.{ℕ, ◌+◌, cond, List, [], ◌∷◌, ◌++◌, ltb, length, Float}
use Rattle.surface.specs.Triangle.{corners, triangles}
use Rattle.history.specs.History.{Pair}
use Rattle.rounds.specs.Pass.{retain, result}
use Rattle.rounds.specs.Flips.{flip_result}
use Rattle.rounds.specs.Renumber.{index, walk}
use Rattle.rounds.specs.Choices.{collapse_start, flip_start}
use Rattle.oracle.specs.Points.{gathered}
use Rattle.oracle.specs.Round.{Mesh, Sheet, Result, seen}
use Rattle.original.specs.Maps.{keys_from, keys}
use Rattle.original.specs.Collapse.{pass}
use Rattle.original.specs.Sorted.{candidates}
use Rattle.original.specs.Flip.{Loop, loop, Outcome, done, then, flipping}

-- the faces and labels after both `retain`s
unfoldable pub dropped : Sheet → Mesh → Pair
unfolding candidates pass retain
dropped f m = let s = seen f m.points in result m.pair (pass s m.pair (collapse_start m.pair) (candidates s m.pair))

-- `points` after the renumbering loop: `old` are the corners with a number in `mapping`, in the order of their numbers. A corner v without one gets the number `points.len()`, and its point is pushed.
unfoldable pub pushed : List Float → List ℕ → List Float → List ℕ → List Float
unfolding gathered index
pushed ps old points [] = points
pushed ps old points (v ∷ vs) = cond (ltb (index old v) (length old)) (pushed ps old points vs) (pushed ps (old ++ (v ∷ [])) (points ++ gathered ps (v ∷ [])) vs)

-- the mesh after that loop, which writes mapping[v] for v as it goes
unfoldable pub numbered : List Float → Pair → Mesh
unfolding pushed walk corners triangles
numbered ps d = record { points = pushed ps [] [] (corners d.tris); pair = record { tris = triangles (walk [] (corners d.tris)); labels = d.labels } }

-- the flip loop of a mesh, from edits = 0
unfoldable pub flipped : Sheet → Mesh → Outcome Loop
unfolding flipping keys_from
flipped f m = let all = keys m.pair.tris in flipping (seen f m.points) m.pair all (loop (flip_start m.pair) 0) all

-- what a round leaves, and how many edits it has made
abbrev pub ended : Mesh → Loop → Result
ended m l = record { mesh = record { points = m.points; pair = flip_result m.pair l.state }; flips = l.edits }

unfoldable pub round : Sheet → Mesh → Outcome Result
unfolding dropped numbered flipped then
round f m = let n = numbered m.points (dropped f m) in then (flipped f n) (λ (l : Loop). done (ended n l))

-- Whether the ends of a side have only the opposite corners for common neighbours, by a place of the side. Definitions only.
use Rattle.std.specs.Prelude.{ℕ, Bool, List}
use Rattle.surface.specs.Triangle.{triangles}
use Rattle.surface.specs.Edit.{hinge}
use Rattle.rounds.specs.Choices.{common}
use Rattle.halfedges.specs.Place.{nx, at}

-- the test of the side at a place
unfoldable pub lone : List ℕ → ℕ → Bool
unfolding common
lone c k = let h = hinge (triangles c) (at c k) (at c (nx k)) in common (triangles c) (at c k) (at c (nx k)) h.c h.d

-- Where the level of an edge's label cuts it, by a grid and the values at its nodes; and the cuts of a list of edges. Definitions only.
use Rattle.std.specs.Prelude.{ℕ, ◌+◌, ◌*◌, Bool, List, [], ◌∷◌, get_or, Float, Option, Some, None}
use Rattle.std.specs.Option.{is_some}
use Rattle.std.specs.Float.{nan}
use Rattle.float.specs.declared.Point.{Point}
use Rattle.float.specs.Point.{less}
use Rattle.surface.specs.Check.{every}
use Rattle.lattice.specs.Edges.{Edge, step_end, level_of, value_at}
use Rattle.solve.specs.Solve.{residual, point_between, solve}
use Rattle.solve.specs.declared.Cut.{Cut}
use Rattle.solve.specs.declared.Cut.TheVariants.{First, Second, At}
use Rattle.solve.specs.declared.Solved.{Solved}

-- ---- one edge

-- point a of a list, three numbers each
abbrev pub point_at : List Float → ℕ → Point
point_at points a = record { x = get_or points (a * 3) nan; y = get_or points (a * 3 + 1) nan; z = get_or points (a * 3 + 2) nan }

-- a label's level, of the lower and the upper one
unfoldable pub level_in : List Float → ℕ → Float
unfolding level_of
level_in levels label = level_of (get_or levels 0 nan) (get_or levels 1 nan) label

-- a field sheet, its levels, n nodes to a side, their grid and values
module _ (qs : List Float) (ns : List ℕ) (levels : List Float) (n : ℕ) (grid values : List Float) where
  -- the field's residual along an edge, and the residual of a node
  abbrev pub residual_along : Edge → Float → Float
  residual_along e = residual qs ns (point_at grid e.node) (point_at grid (step_end n e.node e.step)) (level_in levels e.label)

  abbrev pub residual_of : Edge → ℕ → Float
  residual_of e a = less (value_at values a) (level_in levels e.label)

  unfoldable pub solved_in : Edge → Solved
  unfolding residual level_in solve
  solved_in e = solve (residual_along e) (level_in levels e.label) (residual_of e e.node) (residual_of e (step_end n e.node e.step))

-- the point of a cut between a and b: a node that is the cut is its own place. (There is none where a residual is not finite.)
unfoldable pub cut_point : Point → Point → Option Cut → Point
cut_point a b (Some First) = a
cut_point a b (Some Second) = b
cut_point a b (Some (At t)) = point_between a b t
cut_point a b None = a

unfoldable pub is_cut : Option Cut → Bool
is_cut cut = is_some cut

unfoldable pub cut_in : List Float → List ℕ → List Float → ℕ → List Float → List Float → Edge → Point
unfolding solved_in cut_point
cut_in qs ns levels n grid values e = cut_point (point_at grid e.node) (point_at grid (step_end n e.node e.step)) (solved_in qs ns levels n grid values e).cut

-- ---- a list of edges

-- whether each has a cut
unfoldable pub all_cut? : (Edge → Solved) → List Edge → Bool
unfolding every is_cut
all_cut? solved es = every (λ (e : Edge). is_cut (solved e).cut) es

-- how many field values were taken
unfoldable pub fields_taken : (Edge → Solved) → List Edge → ℕ
fields_taken solved [] = 0
fields_taken solved (e ∷ es) = (solved e).taken + fields_taken solved es

-- the cuts, three numbers each
unfoldable pub cut_numbers : (Edge → Point) → List Edge → List Float
cut_numbers cut [] = []
cut_numbers cut (e ∷ es) = (cut e).x ∷ (cut e).y ∷ (cut e).z ∷ cut_numbers cut es

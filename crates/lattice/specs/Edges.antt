-- The lattice's edges: from a node by one of seven steps, along the three axes, the three diagonals of faces and that of the cube.
-- A label's level crosses an edge where the value at one end is below it and that at the other is not. Definitions only.
use Rattle.std.specs.Prelude.{ℕ, zero, suc, ◌+◌, ◌*◌, ◌/◌, ◌%◌, Bool, ◌&&◌, cond, List, [], ◌∷◌, ◌++◌, ltb, get_or, Float}
use Rattle.std.specs.Float.Ieee as Ieee
use Rattle.std.specs.Float.{nan}
use Rattle.std.specs.Float.Ieee.{unlike}
use Rattle.float.specs.Order.{is_finite}
use Rattle.lattice.specs.Node.{cube, along_x, along_y, along_z}

-- an edge's lower node and its step, and the label of a level
pub record Edge : Type 0 where
  pub node : ℕ
  pub step : ℕ
  pub label : ℕ

-- ---- the seven steps

abbrev pub step_x : ℕ → ℕ
step_x d = get_or (1 ∷ 0 ∷ 0 ∷ 1 ∷ 1 ∷ 0 ∷ 1 ∷ []) d 0

abbrev pub step_y : ℕ → ℕ
step_y d = get_or (0 ∷ 1 ∷ 0 ∷ 1 ∷ 0 ∷ 1 ∷ 1 ∷ []) d 0

abbrev pub step_z : ℕ → ℕ
step_z d = get_or (0 ∷ 0 ∷ 1 ∷ 0 ∷ 1 ∷ 1 ∷ 1 ∷ []) d 0

-- whether the step d from node a stays in the lattice of n nodes to a side, how far it goes on in their numbers, and the node where it ends
abbrev pub stays_inside : ℕ → ℕ → ℕ → Bool
stays_inside n a d = ltb (along_x n a + step_x d) n && (ltb (along_y n a + step_y d) n && ltb (along_z n a + step_z d) n)

abbrev pub offset : ℕ → ℕ → ℕ
offset n d = step_x d + n * step_y d + n * n * step_z d

abbrev pub step_end : ℕ → ℕ → ℕ → ℕ
step_end n a d = a + offset n d

-- ---- crossings

-- label 0 is the upper level, 1 the lower
unfoldable pub level_of : Float → Float → ℕ → Float
level_of lower upper zero = upper
level_of lower upper (suc l) = lower

-- a finite level has one of two values below it and the other not
unfoldable pub crossed_by : Float → Float → Float → Bool
unfolding is_finite
crossed_by level v w = is_finite level && unlike (Ieee.lt v level) (Ieee.lt w level)

abbrev pub value_at : List Float → ℕ → Float
value_at values a = get_or values a nan

-- whether an edge is one of the lattice, and its label's level crosses it
unfoldable pub crossed_edge? : ℕ → Float → Float → List Float → Edge → Bool
unfolding level_of crossed_by
crossed_edge? n lower upper values e =
    (ltb e.node (cube n) && (ltb e.step 7 && ltb e.label 2))
    && (stays_inside n e.node e.step && crossed_by (level_of lower upper e.label) (value_at values e.node) (value_at values (step_end n e.node e.step)))

-- ---- the list: by node, at each by step, of each by label

-- the t-th of all nodes, steps and labels in that order
abbrev pub edge_at : ℕ → Edge
edge_at t = record { node = t / 14; step = t / 2 % 7; label = t % 2 }

-- of k in turn from the t-th on, those that are crossed
unfoldable pub crossed_among : ℕ → Float → Float → List Float → ℕ → ℕ → List Edge
unfolding crossed_edge?
crossed_among n lower upper values t zero = []
crossed_among n lower upper values t (suc k) =
    crossed_among n lower upper values t k ++ cond (crossed_edge? n lower upper values (edge_at (t + k))) (edge_at (t + k) ∷ []) []

abbrev pub crossed_edges : ℕ → Float → Float → List Float → List Edge
crossed_edges n lower upper values = crossed_among n lower upper values 0 (cube n * 14)

-- three words an edge
unfoldable pub edge_words : List Edge → List ℕ
edge_words [] = []
edge_words (e ∷ es) = e.node ∷ e.step ∷ e.label ∷ edge_words es

-- What is decided of a candidate, by the words: the tests of the pass and the way of the collapse. Definitions only.
use Rattle.std.specs.Prelude.{ℕ, Bool, not, ◌&&◌, cond, List, eqb, length, Float, Option, Some, None}
use Rattle.std.specs.Float.Ieee as Ieee
use Rattle.history.specs.History.{Pair}
use Rattle.rounds.specs.Pass.{State}
use Rattle.rounds.specs.Choices.{Side, collapse_step}
use Rattle.halfedges.specs.Place.{nx, at, uses}
use Rattle.chains.specs.Common.{lone}
use Rattle.oracle.specs.Scene.{Scene}
use Rattle.oracle.specs.Slivers.{worst, fit, better, accepts}
use Rattle.slivers.specs.Touch.{is_touched}
use Rattle.slivers.specs.declared.Collapse.{Collapse}

-- the state after one candidate more
abbrev pub step_of : Bool → Scene → Pair → State → Side → State
step_of skip s p st d = let m = better s p d in cond (accepts skip s p st m) (collapse_step p st m.keep m.remove) st

-- the least shape that a collapse leaves, where it is fit
abbrev pub attempted : Scene → Pair → ℕ → ℕ → Option Float
attempted s p a b = cond (fit s p a b) (Some (worst s p a b)) None

-- the collapse that keeps a and removes b
abbrev pub keeping : ℕ → ℕ → Collapse
keeping a b = record { keep = a; remove = b }

-- which of two ways is taken, by the least shape that each leaves: the first, unless it leaves the lesser one
abbrev pub way_of : {A : Type 0} → A → A → Option Float → Option Float → Option A
way_of a b (Some x) (Some y) = cond (Ieee.lt x y) (Some b) (Some a)
way_of a b (Some x) None = Some a
way_of a b None (Some y) = Some b
way_of a b None None = None

-- both ends untouched, only the opposite corners in common, not three triangles at each
abbrev pub may_at : List ℕ → List ℕ → ℕ → ℕ → Bool
may_at c w touched k =
    not (is_touched w touched (at c k)) && (not (is_touched w touched (at c (nx k))) && (lone c k && not (eqb (uses c (at c k) (length c)) 3 && eqb (uses c (at c (nx k)) (length c)) 3)))

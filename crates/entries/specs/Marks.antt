-- The walk around a corner marked in words: notes of the steps in the words of the points, marks in as many words behind them. Definitions only.
use Rattle.std.specs.Prelude.{ℕ, ◌+◌, ◌*◌, ◌<◌, ◌≡◌, Bool, not, ◌&&◌, cond, List, map, eqb, length, get_or, drop}
use Rattle.surface.specs.Triangle.{Tri, tri}
use Rattle.surface.specs.Flat.{held}
use Rattle.history.specs.Undo.{among}
use Rattle.history.specs.Route.{Route}

-- u is not marked
abbrev pub unmarked : ℕ → List ℕ → ℕ → Bool
unmarked points w u = eqb (get_or w (points + u) 0) 0

-- the marks say which corners are on the list ws
abbrev pub Marked : ℕ → List ℕ → List ℕ → Type 0
Marked points w ws = (u : ℕ) → u < points → unmarked points w u ≡ not (among u ws)

-- the steps around a lead from x to y, where some corner was removed
pub record Routed (ts : List Tri) (a x y : ℕ) : Type 0 where
  pub removed : ℕ
  pub route : Route ts a removed x y

-- the corner x, which y follows in its triangle: an a that a marked corner follows was b
abbrev pub again_by : ℕ → List ℕ → ℕ → ℕ → ℕ → ℕ → ℕ
again_by points w a b x y = cond (eqb x a && not (unmarked points w y)) b x

abbrev pub restored_by : ℕ → List ℕ → ℕ → ℕ → Tri → Tri
restored_by points w a b t = tri (again_by points w a b t.a t.b) (again_by points w a b t.b t.c) (again_by points w a b t.c t.a)

-- the first n triangles changed one by one by f, and the rest of the list left
pub record Mapped (f : Tri → Tri) (n : ℕ) (l l' : List ℕ) : Type 0 where
  pub is : held l' n ≡ map f (held l n)
  pub rest : drop (3 * n) l' ≡ drop (3 * n) l
  pub size : length l' ≡ length l

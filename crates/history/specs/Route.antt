-- A way around a corner that a program can follow and mark. Definitions only.
use Rattle.std.specs.Prelude.{ℕ, ◌≤◌, ◌≡◌, length}
use mathlib.Core.List.{List, Memᴰ}
use Rattle.surface.specs.Triangle.{Tri}
use Rattle.surface.specs.Closed.{sides, Step, around, Leads, Closed}
use Rattle.surface.proofs.Rings.{froms}

-- the steps around a lead from x to y, each corner once, and b is not there
pub record Route (ts : List Tri) (a b x y : ℕ) : Type 0 where
  pub closed : Closed ts
  pub differ : a ≡ b → ⊥
  pub gone : sides ts a b ≡ 0
  pub way : List Step
  pub leads : Leads x way y
  pub on : (s : Step) → Memᴰ s way → Memᴰ s (around ts a)
  pub single : (z : ℕ) → froms way z ≤ 1
  pub unmet : froms way y ≡ 0
  pub short : length way ≤ length (around ts a)

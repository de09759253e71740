-- Demand 3 of document 01, one claim about a whole call of `edit`; `demand3` of proofs/Demand3 proves it of every call that is let in, and `lanovishel/specs/Edit` has it of calls of the exported function. Its last sentence, on the rounds of the improver, is `improving/specs/Demand3`, which completes it. Definitions only.
use Rattle.std.specs.Prelude.{ℕ, ◌/◌, ◌≡◌, List, length, Float}
use Rattle.surface.specs.Triangle.{corners}
use Rattle.surface.specs.Euler.{Below}
use Rattle.history.specs.History.{last, in_force}
use Rattle.history.specs.Lists.{lent_pair, entries, capacity, then_zero, history_of, verdicts_of}
use Rattle.history.specs.Safe.{Safe}

pub record Demand3 (points : List Float) (corners₀ labels₀ es journal₀ corners₁ labels₁ verdicts₁ : List ℕ) (triangles₁ edits₁ : ℕ) : Type 0 where
  -- After every number i of entries, whatever they are: the triangles are closed, (a) to (d); corners in use, less sides, plus triangles, is the number at the start;
  -- no flip or collapse gave a corner a label it lacked; and one on an existing side with labels that allow it has 25 exactly when the list it would make is not closed.
  pub safe : (i : ℕ) → Safe (capacity journal₀) (lent_pair corners₀ labels₀) (entries es) i
  -- (Euler's number may count the corners in use among the points, since each of them is one; any other bound above them gives the same number, `any-bound` of `surface/specs/Laws`)
  pub below : Below (length points / 3) (lent_pair corners₀ labels₀).tris
  -- Both lent lists are the history's last pair, then 0.
  pub corners : corners₁ ≡ then_zero corners₀ (corners (last (history_of corners₀ labels₀ es journal₀)).tris)
  pub labels : labels₁ ≡ then_zero labels₀ (last (history_of corners₀ labels₀ es journal₀)).labels
  -- Every verdict word, the triangles left and the edits in force are the history's.
  pub verdicts : verdicts₁ ≡ verdicts_of corners₀ labels₀ es journal₀
  pub triangles : triangles₁ ≡ length (last (history_of corners₀ labels₀ es journal₀)).tris
  pub edits : edits₁ ≡ in_force (history_of corners₀ labels₀ es journal₀)

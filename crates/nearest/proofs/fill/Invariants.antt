-- `nearest::fill` meets its contract: after i turns the places below i are filled.
use Prim.Native.Nat.{ℕ, ◌*◌, ◌≤◌, ◌<◌}
use mathlib.Core.Path.{◌≡◌}
use lib.ListN.{length, get_or}
use Rattle.std.specs.Prelude.{None, IfSome}
use Rattle.nearest.specs.declared.Candidate.{Candidate}
use Rattle.nearest.specs.Stages.{OnSquares, FilledIn}
use Rattle.nearest.proofs.fill.Given as goal

abbrev pub invariant-loop-i : goal.invariant-loop-i
invariant-loop-i l =
    (2 * length l.bests ≤ length l.initial.answers) × ((k : ℕ) → k < length l.bests → IfSome (get_or l.bests k None) (λ (c : Candidate). OnSquares c.distance)) × (length l.answers ≡ length l.initial.answers) × (FilledIn l.i l.bests l.initial.answers l.answers)

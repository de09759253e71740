-- `closing::note_steps` meets its contract: at the loop's head the steps of v's places from p on are noted, and count is their number.
use Prim.Native.Nat.{ℕ, ◌+◌}
use mathlib.Core.Path.{◌≡◌}
use mathlib.Core.List.{List}
use lib.ListN.{length, drop}
use Rattle.halfedges.specs.Place.{uses, Linked, Noted}
use Rattle.closing.specs.Stages.{used}
use Rattle.closing.proofs.Stamping.{AtPlace}
use Rattle.closing.proofs.note_steps.Given as goal

pub record Going (c : List ℕ) (p v : ℕ) (w₀ w : List ℕ) (q n : ℕ) : Type 0 where
  pub place : AtPlace c v q
  pub size : length w ≡ length w₀
  pub linked : Linked c p w (length c)
  pub noted : Noted c p w v q
  pub counted : uses c v q + n ≡ uses c v (length c)
  pub far : drop (used c p) w ≡ drop (used c p) w₀

abbrev pub invariant-loop-p : goal.invariant-loop-p
invariant-loop-p l = Going l.corners l.points l.v l.initial.work l.work l.p l.count

abbrev pub decreases-loop-p : goal.decreases-loop-p
decreases-loop-p l = l.p

-- `editing::run` meets its contract: after i turns the lists hold the history after i entries.
use Prim.Native.Nat.{ℕ, ◌+◌}
use lib.ListN.{set}
use mathlib.Core.List.{List}
use mathlib.Core.Path.{◌≡◌, sym, ◌∙◌, ap, subst₂}
use native.Mathlib.Omega.{arith}
use Rattle.std.specs.Prelude.{Result}
use Rattle.verdicts.specs.Verdict.{verdict_word}
use Rattle.verdicts.specs.declared.Unfit.{Unfit}
use Rattle.editing.specs.Held.{left_after}
use Rattle.editing.specs.declared.Left.{Left}
use Rattle.editing.proofs.Running.{Running, running, running_on, ran}
use Rattle.editing.proofs.run.Goals.{in-Ok, in-Err}
use Rattle.editing.proofs.run.Goals as goal

pub loop-i-init : goal.loop-i-init
loop-i-init c = running c.args.points c.args.corners.now c.args.labels.now c.args.work.now c.args.entries.now c.args.verdicts.now c.args.journal.now c.requires

pub loop-i-preserved : goal.loop-i-preserved
loop-i-preserved c =
    let v = c.loop-i.verdicts in
    let i = c.loop-i.i in
    let r = c.enter.result in
    let came : (c.match-enter.verdicts ≡ set v i (verdict_word r)) × (c.match-enter.left ≡ left_after c.loop-i.left r) =
    elim c.match-enter.branch [
      | in-Ok w ↦ (w.verdicts-is ∙ ap (λ (x : Result Left Unfit). set v i (verdict_word x)) (sym w.in-Ok.is), w.left-is ∙ ap (left_after c.loop-i.left) (sym w.in-Ok.is))
      | in-Err w ↦ (w.verdicts-is ∙ ap (set v i) w.word.ensures ∙ ap (λ (x : Result Left Unfit). set v i (verdict_word x)) (sym w.in-Err.is), w.left-is ∙ ap (left_after c.loop-i.left) (sym w.in-Err.is))
    ] in
    subst₂ (λ (x : List ℕ) (f : Left). Running c.args.points c.args.corners.now c.args.labels.now c.args.work.now c.args.entries.now c.args.verdicts.now c.args.journal.now c.enter.new.corners c.enter.new.labels c.enter.new.work x c.enter.new.journal f.triangles f.edits (i + 1)) (sym came.0) (sym came.1)
    (running_on c.args.points c.args.corners.now c.args.labels.now c.args.work.now c.args.entries.now c.args.verdicts.now c.args.journal.now c.loop-i.invariant (omega (arith, c.loop-i.invariant.verdict)) c.enter.ensures c.enter.auto.corners c.enter.auto.labels c.enter.auto.work c.enter.auto.journal)

pub returns : goal.returns
returns c = ran c.args.points c.args.corners.now c.args.labels.now c.args.work.now c.args.entries.now c.args.verdicts.now c.args.journal.now c.loop-i.invariant (omega (arith, c.loop-i.invariant.verdict))

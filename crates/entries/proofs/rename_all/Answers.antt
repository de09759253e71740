-- `entries::rename_all` meets its contract: the words below i have their new names.
use Rattle.entries.proofs.Words.{wording_end}
use Rattle.entries.proofs.Turns.{turning_start, turning_on}
use Rattle.surface.specs.Edit.{put}
use mathlib.Core.Path.{◌∙◌, ap}
use native.Mathlib.Omega.{arith}
use Rattle.entries.proofs.rename_all.Goals as goal

pub loop-i-init : goal.loop-i-init
loop-i-init c = turning_start _ _ _

pub loop-i-preserved : goal.loop-i-preserved
loop-i-preserved c =
    turning_on c.loop-i.invariant (omega (arith, c.requires)) c.put_for.result (c.put_for.ensures ∙ ap (put c.args.a c.args.b) (c.loop-i.invariant.left c.loop-i.i (omega arith)))

pub returns : goal.returns
returns c =
    wording_end (put c.args.a c.args.b) c.args.n c.loop-i.invariant (omega arith) c.requires

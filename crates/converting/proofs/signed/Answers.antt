-- `converting::signed` meets its contract.
use mathlib.Core.Path.{sym, ◌∙◌}
use native.Mathlib.Omega.{arith}
use mir.Syntax.{w32}
use mir.ValLaws.{to_z_pos}
use Rattle.sheet.proofs.Signs.{minus-back}
use Rattle.writing.proofs.Sizes.{below-zero}
use Rattle.converting.proofs.Turning.{signed_below, signed_above}
use Rattle.converting.proofs.signed.Goals as goal

pub returns-then-z-lt0 : goal.returns-then-z-lt0
returns-then-z-lt0 c = minus-back c.args.size (omega arith) ∙ signed_below c.args.z c.args.size (sym (below-zero c.args.z c.ranges.z) ∙ c.if-z-lt0.true)

pub returns : goal.returns
returns c = to_z_pos w32 c.args.size (omega arith) ∙ signed_above c.args.z c.args.size (sym (below-zero c.args.z c.ranges.z) ∙ c.if-z-lt0.false)

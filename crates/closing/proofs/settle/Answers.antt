-- `closing::settle` meets its contract: the stages' contracts put together (`Whole`).
use mathlib.Core.Path.{◌∙◌}
use Rattle.closing.proofs.Whole.{zeroed-used}
use Rattle.closing.proofs.settle.Goals as goal

pub returns : goal.returns
returns c =
    record {
      zeroed = zeroed-used c.args.corners.now c.args.points c.args.work.now c.first_unringed-unringed.new.work _ c.requires.lent.thirds (c.first_unringed-unringed.ensures.far ∙ c.prepare.ensures.far) c.clear_needed.ensures;
      corner = c.first_unringed-unringed.ensures.corner;
    }

-- The text that is printed lies on its list.
use Rattle.std.proofs.Common.{arith}
use Rattle.std.proofs.Math.Path.{sym}
use Rattle.std.proofs.lemmas.List.{length-take-le}
use Rattle.printing.proofs.Laws.{printing_laws}
use Rattle.check_sheet.proofs.main.Goals as goal

pub slice_bounds-printed-end : goal.slice_bounds-printed-end
slice_bounds-printed-end c = (printing_laws.counts _ _ _ _ c.print-length.ensures (omega arith)).0

pub slice_bounds-write_all-end : goal.slice_bounds-write_all-end
slice_bounds-write_all-end c = sym (length-take-le _ _ (printing_laws.counts _ _ _ _ c.print-length.ensures (omega arith)).0)

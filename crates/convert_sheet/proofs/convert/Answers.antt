-- The text that is written lies on its list.
use Rattle.std.proofs.Math.Path.{sym}
use Rattle.std.proofs.lemmas.List.{length-take-le}
use Rattle.writing.proofs.Settling.{count_fits}
use Rattle.convert_sheet.proofs.convert.Goals as goal

pub slice_bounds-written-end : goal.slice_bounds-written-end
slice_bounds-written-end g c = count_fits _ _ _ _ _ c.convert.ensures c.in-Ok.is

pub slice_bounds-write_all-end : goal.slice_bounds-write_all-end
slice_bounds-write_all-end g c = sym (length-take-le _ _ (count_fits _ _ _ _ _ c.convert.ensures c.in-Ok.is))

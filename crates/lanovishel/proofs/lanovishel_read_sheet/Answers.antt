-- `lanovishel::lanovishel_read_sheet` meets its contract: it hands on what `read` of `reading` answers. Assumes nothing.
use Rattle.lanovishel.proofs.Sheets.{sheet-call}
use Rattle.lanovishel.proofs.lanovishel_read_sheet.Goals as goal

pub returns-in-Ok : goal.returns-in-Ok
returns-in-Ok c = sheet-call _ _ _ _ _ _ _ _ c.read.ensures _ _ _ c.in-Ok.is c.low_word.ensures c.low_word-in-Ok.ensures

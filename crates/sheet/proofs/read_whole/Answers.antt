-- `sheet::read_whole` meets its contract. Assumes nothing.
use Rattle.sheet.specs.Edition.{edition_number}
use Rattle.sheet.proofs.Finding.{none_found, sheet-found}
use Rattle.sheet.proofs.read_whole.Goals as goal

pub returns-in_err-counts : goal.returns-in_err-counts
returns-in_err-counts c =
    rw c.from_residual.ensures (none_found c.args.text.now (edition_number c.told-edition.result) c.told-edition.ensures c.in_err-counts.ensures)

pub returns : goal.returns
returns c =
    sheet-found c.args.text.now (edition_number c.told-edition.result) c.told-edition.ensures _ _ _ _ _ _ _ _ c.in_ok-counts.ensures

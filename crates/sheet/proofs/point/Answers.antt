-- `sheet::point` meets its contract: its parts are put together by `Points`. Assumes nothing.
use Rattle.sheet.specs.Edition.{rules_of}
use Rattle.sheet.proofs.Points.{no_first, no_second, third}
use Rattle.sheet.proofs.point.Goals as goal

pub returns-in_err-i : goal.returns-in_err-i
returns-in_err-i c =
    let S = c.args in
    rw c.from_residual.ensures (no_first S.text.now S.at (rules_of S.edition).most S.k S.coordinates.now c.coordinate.new.coordinates c.in_err-i.ensures)

pub returns-in_err-j : goal.returns-in_err-j
returns-in_err-j c =
    let S = c.args in
    rw c.from_residual-in_err-j.ensures (no_second S.text.now S.at (rules_of S.edition).most S.k S.coordinates.now c.coordinate.new.coordinates c.in_ok-i.i c.in_ok-i.ensures c.coordinate-2.new.coordinates c.in_err-j.ensures)

pub returns : goal.returns
returns c =
    let S = c.args in
    third S.text.now S.at (rules_of S.edition).most S.k S.coordinates.now c.coordinate.new.coordinates c.in_ok-i.i c.in_ok-i.ensures c.coordinate-2.new.coordinates c.in_ok-j.j c.in_ok-j.ensures c.coordinate-3.new.coordinates c.coordinate-3.result c.coordinate-3.ensures

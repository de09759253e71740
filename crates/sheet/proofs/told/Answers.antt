-- `sheet::told` meets its contract. Assumes nothing.
use Rattle.std.proofs.Common.{rules, ◌≡◌, get_or}
use Rattle.sheet.proofs.Editions.{told-second, told-first}
use Rattle.sheet.proofs.told.Goals as goal

pub returns-then-eq : goal.returns-then-eq
returns-then-eq c =
    let e : get_or c.args.text.now 0 0 ≡ 101 = search rules in
    told-second c.args.text.now e

pub returns : goal.returns
returns c =
    let n : get_or c.args.text.now 0 0 ≡ 101 → ⊥ = search rules in
    told-first c.args.text.now n

-- `checking::beyond` meets its contract.
use Prim.Native.Nat.{ℕ}
use mathlib.Core.Path.{◌≡◌}
use mathlib.Core.Bool.{true, false}
use lib.Dec.{leb}
use Rattle.std.proofs.Common.{rules, tests}
use Rattle.std.proofs.lemmas.Iterator.{cases_from_any, YieldsList-from_slice}
use Rattle.checking.proofs.Turns.{by-any}
use Rattle.checking.proofs.beyond.Goals as goal

pub returns : goal.returns
returns c =
    let n = c.args.n in
    by-any n c.args.t _ (search rules)
    (cases_from_any _ _ _ (λ (v : ℕ). leb n v ≡ true) (λ (v : ℕ). leb n v ≡ false) c.any.ensures.ran (YieldsList-from_slice c.args.t cc) (λ v q k. search (rules, tests)) (λ v q k. search (rules, tests)))

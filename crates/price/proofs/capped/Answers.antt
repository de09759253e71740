-- `price::capped` meets its contract.
use Prim.Native.Nat.{ℕ}
use mathlib.Core.Path.{◌≡◌}
use mathlib.Core.Bool.{true, false}
use lib.Dec.{leb}
use Rattle.std.proofs.Common.{rules, tests}
use Rattle.std.proofs.lemmas.Iterator.{cases_from_all, YieldsList-from_slice}
use Rattle.questions.proofs.Every.{every-all}
use Rattle.price.proofs.capped.Goals as goal

pub returns : goal.returns
returns c =
    every-all (λ (price : ℕ). leb price 100000) 0 c.args.prices.now _
    (cases_from_all _ _ _ (λ (price : ℕ). leb price 100000 ≡ true) (λ (price : ℕ). leb price 100000 ≡ false) c.all.ensures.ran (YieldsList-from_slice c.args.prices.now cc) (λ price q k. search (rules, tests)) (λ price q k. search (rules, tests)))

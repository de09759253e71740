-- `price::rising` meets its contract.
use lib.Dec.{ltb}
use Rattle.std.proofs.Common.{rules, tests}
use Rattle.std.proofs.lemmas.Fn.{always_returns_same}
use Rattle.price.proofs.Rules.{rising-all}
use Rattle.price.proofs.rising.Goals as goal

pub returns : goal.returns
returns c = rising-all c.args.uppers.now _ (c.is_sorted_by.ensures.cases ltb (always_returns_same _ _ _ (λ a r f k. search (rules, tests))))

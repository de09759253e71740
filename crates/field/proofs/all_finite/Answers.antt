-- `field::all_finite` meets its contract. `take_all` is for a front that is the whole list: a must-fail edit asks a shorter one.
use Rattle.std.proofs.Common.{rules, tests, arith}
use Rattle.std.proofs.lemmas.List.{take_all}
use Rattle.std.proofs.lemmas.Iterator.{YieldsList-from_slice}
use Rattle.std.proofs.lemmas.Iterator.Search.{all_from_yields_List}
use Rattle.float.specs.Order.{is_finite}
use Rattle.field.proofs.all_finite.Goals as goal

pub returns : goal.returns
returns c = all_from_yields_List is_finite _ _ _ c.all.ensures.ran (YieldsList-from_slice _ (grind (arith, take_all))) (λ x b q k. search (rules, tests))

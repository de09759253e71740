-- `questions::labels_known` meets its contract.
use Prim.Native.Nat.{ℕ}
use mathlib.Core.Path.{◌≡◌}
use mathlib.Core.Bool.{true, false}
use lib.Dec.{leb}
use Rattle.std.proofs.Common.{rules, tests}
use Rattle.std.proofs.lemmas.Iterator.{cases_from_all, YieldsList-from_slice}
use Rattle.questions.proofs.Every.{every-all}
use Rattle.questions.proofs.labels_known.Goals as goal

pub returns : goal.returns
returns c =
    every-all (λ (l : ℕ). leb l 7) 0 c.args.labels.now _
    (cases_from_all _ _ _ (λ (l : ℕ). leb l 7 ≡ true) (λ (l : ℕ). leb l 7 ≡ false) c.all.ensures.ran (YieldsList-from_slice c.args.labels.now cc) (λ l q k. search (rules, tests)) (λ l q k. search (rules, tests)))

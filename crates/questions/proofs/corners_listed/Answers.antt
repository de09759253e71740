-- `questions::corners_listed` meets its contract.
use Prim.Native.Nat.{ℕ}
use mathlib.Core.Path.{◌≡◌}
use mathlib.Core.Bool.{true, false}
use lib.Dec.{ltb}
use Rattle.std.proofs.Common.{rules, tests}
use Rattle.std.proofs.lemmas.Iterator.{cases_from_all, YieldsList-from_slice}
use Rattle.questions.proofs.Every.{every-all}
use Rattle.questions.proofs.corners_listed.Goals as goal

pub returns : goal.returns
returns c =
    let p = c.args.points in
    every-all (λ (v : ℕ). ltb v p) 0 c.args.corners.now _
    (cases_from_all _ _ _ (λ (v : ℕ). ltb v p ≡ true) (λ (v : ℕ). ltb v p ≡ false) c.all.ensures.ran (YieldsList-from_slice c.args.corners.now cc) (λ v q k. search (rules, tests)) (λ v q k. search (rules, tests)))

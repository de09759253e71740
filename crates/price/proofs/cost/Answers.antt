-- `price::cost` meets its contract. The invariant is `Walking`.
use Prim.Native.Nat.{◌+◌, ◌-◌, ◌*◌, ◌≤◌}
use native.Mathlib.Omega.{arith}
use lib.ListN.{get_or}
use Rattle.price.proofs.Walk.{product_fits, sum_fits, Walking, nothing_yet, cap, paid, forward, walked, all-walked, ended}
use Rattle.price.proofs.cost.Goals as goal

pub loop-k-init : goal.loop-k-init
loop-k-init c = (c.requires, nothing_yet _ _ _)

pub bounds-prices-k : goal.bounds-prices-k
bounds-prices-k c =
    omega (arith, c.loop-k.invariant.0.tariff.one_fewer, c.loop-k-test.true)

ahead : (c : goal.After-shared_slice_known-in-loop-k-2-1) → c.loop-k.lower ≤ c.min-reach.result
ahead c = forward _ _ _ c.loop-k.invariant.0.tariff _ _ _ c.loop-k.invariant.1 c.loop-k-test.true _ c.min-reach.ensures

capped : (c : goal.After-shared_slice_known-in-loop-k-2-1) → get_or c.args.prices.now c.loop-k.k 0 ≤ 100000
capped c = cap _ _ _ c.loop-k.invariant.0.tariff _ _ _ c.loop-k.invariant.1

next : (c : goal.After-shared_slice_known-in-loop-k-2-1) → Walking c.args.cubes c.args.uppers.now c.args.prices.now (c.loop-k.sum + get_or c.args.prices.now c.loop-k.k 0 * (c.min-reach.result - c.loop-k.lower)) c.min-reach.result (c.loop-k.k + 1)
next c = walked _ _ _ c.loop-k.invariant.0.tariff _ _ _ c.loop-k.invariant.1 c.loop-k-test.true _ c.min-reach.ensures

pub overflow_sub-sum : goal.overflow_sub-sum
overflow_sub-sum c = ahead c

pub overflow_mul-sum : goal.overflow_mul-sum
overflow_mul-sum c = product_fits _ _ (capped c) (omega (arith, (next c).inside, c.loop-k.invariant.0.few))

pub overflow_add-sum : goal.overflow_add-sum
overflow_add-sum c = sum_fits _ _ _ (paid _ _ _ c.loop-k.invariant.0.tariff _ _ _ c.loop-k.invariant.1 c.loop-k.invariant.0.few) (capped c) (omega (arith, (next c).inside, c.loop-k.invariant.0.few))

pub loop-k-preserved : goal.loop-k-preserved
loop-k-preserved c = (c.loop-k.invariant.0, next c)

pub bounds-prices-uppers : goal.bounds-prices-uppers
bounds-prices-uppers c = omega (arith, c.loop-k.invariant.0.tariff.one_fewer)

pub overflow_sub-result : goal.overflow_sub-result
overflow_sub-result c = omega (arith, c.loop-k.invariant.1.inside)

pub overflow_mul-result : goal.overflow_mul-result
overflow_mul-result c =
    let i = c.loop-k.invariant in
    product_fits _ _ (cap _ _ _ i.0.tariff _ _ _ (all-walked _ _ _ i.1 c.loop-k-test.false)) (omega (arith, i.0.few, i.1.inside))

pub overflow_add-result : goal.overflow_add-result
overflow_add-result c =
    let i = c.loop-k.invariant in
    sum_fits _ _ _ (paid _ _ _ i.0.tariff _ _ _ i.1 i.0.few) (cap _ _ _ i.0.tariff _ _ _ (all-walked _ _ _ i.1 c.loop-k-test.false)) (omega (arith, i.0.few, i.1.inside))

pub returns : goal.returns
returns c =
    let i = c.loop-k.invariant in
    ended _ _ _ i.0.tariff _ _ _ (all-walked _ _ _ i.1 c.loop-k-test.false) (omega arith)

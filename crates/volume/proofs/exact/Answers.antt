-- `volume::exact` meets its contract. The invariant is `Summing`.
use Prim.Native.Nat.{ℕ, ◌+◌, ◌*◌, ◌/◌, ◌%◌, ◌<◌}
use mathlib.Core.Path.{◌≡◌, sym, ap, ◌∙◌, subst}
use native.Mathlib.Omega.{arith}
use lib.IntN.{ℤ, pos, ◌+ℤ◌, ◌*ℤ◌}
use lib.ListN.{length, get_or}
use Rattle.surface.specs.Triangle.{Tri, tri}
use Rattle.units.specs.Units.{units_at}
use Rattle.volume.specs.Six.{six_at}
use Rattle.volume.specs.Stages.{lifted}
use Rattle.volume.proofs.Lifted.{share_positive}
use Rattle.volume.proofs.Words.{Summing, nothing_yet, summed, all-summed, word_fits, difference-fits, difference-is}
use Rattle.volume.proofs.exact.Goals as goal

pub loop-i-init : goal.loop-i-init
loop-i-init c = (c.requires, nothing_yet _ _)

pub bounds-corners-at-in-loop-i : goal.bounds-corners-at-in-loop-i
bounds-corners-at-in-loop-i c =
    let i = c.loop-i.invariant in
    omega (arith, i.0.thirds, i.1.thirds, c.loop-i-test.true)

pub bounds-corners-at-in-loop-i-2 : goal.bounds-corners-at-in-loop-i-2
bounds-corners-at-in-loop-i-2 c =
    let i = c.loop-i.invariant in
    omega (arith, i.0.thirds, i.1.thirds, c.loop-i-test.true)

pub share-e-requires : goal.share-e-requires
share-e-requires c =
    let i = c.loop-i.invariant in
    let l = c.loop-i-test.true in
    let n = length c.args.points.now / 3 in (
      i.0.units,
      subst (λ (k : ℕ). k < n) (sym c.wide.ensures) (i.0.below _ (omega arith)),
      subst (λ (k : ℕ). k < n) (sym c.wide-in-loop-i.ensures) (i.0.below _ (omega (arith, i.0.thirds, i.1.thirds))),
      subst (λ (k : ℕ). k < n) (sym c.wide-in-loop-i-2.ensures) (i.0.below _ (omega (arith, i.0.thirds, i.1.thirds))),
    )

next : (c : goal.After-share-e) → Summing c.args.points.now c.args.corners.now (c.loop-i.high + (c.share-e.result / 2147483648 + (c.loop-i.low + c.share-e.result % 2147483648) / 2147483648)) ((c.loop-i.low + c.share-e.result % 2147483648) % 2147483648) ((3 * c.loop-i.i) + 3)
next c =
    let i = c.loop-i.invariant in
    let m = i.0 in
    let at = 3 * c.loop-i.i in
    let ps = c.args.points.now in
    let cs = c.args.corners.now in
    let l : at + 2 < length cs = omega (arith, m.thirds, i.1.thirds, c.loop-i-test.true) in
    let e = c.share-e.ensures ∙ ap (λ (t : Tri). lifted (six_at (units_at ps 0) (units_at ps) t))
    (λ j. tri (c.wide.ensures j) (c.wide-in-loop-i.ensures j) (c.wide-in-loop-i-2.ensures j)) in
    summed ps cs c.loop-i.high c.loop-i.low at c.share-e.result i.1 l
    (share_positive ps m.units (get_or cs at 0) (get_or cs (at + 1) 0) (get_or cs (at + 2) 0) (m.below at (omega arith)) (m.below (at + 1) (omega arith)) (m.below (at + 2) (omega arith)))
    e

pub overflow_add-sum : goal.overflow_add-sum
overflow_add-sum c = let n = next c in omega (arith, n.few, n.bounded, c.loop-i.invariant.0.few)

pub overflow_add-high : goal.overflow_add-high
overflow_add-high c = let n = next c in omega (arith, n.few, n.bounded, c.loop-i.invariant.0.few)

pub overflow_add-high-in-loop-i : goal.overflow_add-high-in-loop-i
overflow_add-high-in-loop-i c = let n = next c in omega (arith, n.few, n.bounded, c.loop-i.invariant.0.few)

pub loop-i-preserved : goal.loop-i-preserved
loop-i-preserved c =
    let e : 3 * c.loop-i.i + 3 ≡ 3 * (c.loop-i.i + 1) = omega arith in
    (c.loop-i.invariant.0, subst (Summing c.args.points.now c.args.corners.now _ _) e (next c))

pub overflow_mul-lifted : goal.overflow_mul-lifted
overflow_mul-lifted c = omega (arith, c.loop-i.invariant.0.few)

high_small : (c : goal.After-loop-i) → c.loop-i.high < 4611686018427387904
high_small c = let i = c.loop-i.invariant in omega (arith, i.0.few, i.1.few, i.1.bounded)

many-small : (c : goal.After-loop-i) → length c.args.corners.now / 3 * 1048576 < 4611686018427387904
many-small c = omega (arith, c.loop-i.invariant.0.few)

pub overflow_cast-lifted : goal.overflow_cast-lifted
overflow_cast-lifted c = word_fits _ (omega (arith, c.loop-i.invariant.0.few))

pub overflow_cast-result : goal.overflow_cast-result
overflow_cast-result c = word_fits _ (high_small c)

pub overflow_sub-result : goal.overflow_sub-result
overflow_sub-result c = difference-fits _ _ (high_small c) (many-small c)

pub returns : goal.returns
returns c =
    record {
      small = c.loop-i.invariant.1.small;
      same =
          ap (λ (z : ℤ). pos 2147483648 *ℤ z +ℤ pos c.loop-i.low) (difference-is c.loop-i.high (length c.args.corners.now / 3 * 1048576) (high_small c) (many-small c))
          ∙ all-summed c.args.points.now c.args.corners.now c.loop-i.high c.loop-i.low (3 * c.loop-i.i) c.loop-i.invariant.1 (omega (arith, c.loop-i.invariant.0.thirds));
    }

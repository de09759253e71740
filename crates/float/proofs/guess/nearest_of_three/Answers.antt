-- `float::guess::nearest_of_three` meets its contract: the square of g by its halves, and `one_of_three`. Assumes nothing.
use Prim.Native.Nat.{ℕ, ◌+◌, ◌-◌, ◌*◌, ◌/◌, ◌%◌, ◌^◌, ◌≤◌, ◌<◌}
use mathlib.Core.Path.{◌≡◌}
use native.Mathlib.Omega.{arith}
use lib.Dec.{leb, ltb}
use Rattle.float.proofs.Test.{parts, square, none_above, none_below, above-all, below_all, one_of_three, words, far-below, far-above, room-above, room-below}
use Rattle.float.proofs.guess.nearest_of_three.Goals as goal

-- the words of the code
abbrev high : ℕ → ℕ
high g = g / 2 ^ 27 * (g / 2 ^ 27) * 4 + g / 2 ^ 27 * (g % 2 ^ 27) / 2 ^ 24

abbrev low : ℕ → ℕ
low g = g / 2 ^ 27 * (g % 2 ^ 27) % 2 ^ 24 * 2 ^ 28 + g % 2 ^ 27 * (g % 2 ^ 27)

abbrev up : ℕ → ℕ → ℕ
up g w = (w + 8 - high g) * 2 ^ 52 + g

abbrev down : ℕ → ℕ
down g = low g + 2 ^ 55

low_small : (g : ℕ) → g < 2 ^ 53 → low g < 2 ^ 55
low_small g h = omega (arith, parts g h)

-- up - down is w * 2 ^ 52 - g * g + g
sums : (g w : ℕ) → g < 2 ^ 53 → high g ≤ w + 8 → up g w + g * g ≡ down g + w * 2 ^ 52 + g
sums g w h k = words g w (high g) (low g) (g * g) (square g h) k

pub overflow_mul-c : goal.overflow_mul-c
overflow_mul-c c = omega (arith, parts c.args.g c.requires.1)

pub overflow_mul-high : goal.overflow_mul-high
overflow_mul-high c = omega (arith, parts c.args.g c.requires.1)

pub overflow_mul-high-2 : goal.overflow_mul-high-2
overflow_mul-high-2 c = omega (arith, parts c.args.g c.requires.1)

pub overflow_add-high : goal.overflow_add-high
overflow_add-high c = omega (arith, parts c.args.g c.requires.1)

pub overflow_mul-low-2 : goal.overflow_mul-low-2
overflow_mul-low-2 c = omega (arith, parts c.args.g c.requires.1)

pub overflow_add-low : goal.overflow_add-low
overflow_add-low c = omega (arith, parts c.args.g c.requires.1)

pub returns-then-wide-high : goal.returns-then-wide-high
returns-then-wide-high c =
    let g = c.args.g in
    let w = c.args.wide in
    none_below (w * 2 ^ 52) g (omega arith) (far-below g w (high g) (low g) (g * g) (square g c.requires.1) c.requires.1 c.if-wide-high.true)

pub returns-then-u-ge32 : goal.returns-then-u-ge32
returns-then-u-ge32 c =
    let g = c.args.g in
    let w = c.args.wide in
    none_above (w * 2 ^ 52) g (omega arith) (far-above g w (high g) (low g) (g * g) (square g c.requires.1) c.requires.1 (low_small g c.requires.1) c.if-wide-high.false c.if-u-ge32.true)

pub overflow_add-down : goal.overflow_add-down
overflow_add-down c = omega (arith, parts c.args.g c.requires.1)

pub overflow_add-down-2 : goal.overflow_add-down-2
overflow_add-down-2 c = omega (arith, parts c.args.g c.requires.1)

pub overflow_add-down-3 : goal.overflow_add-down-3
overflow_add-down-3 c = omega (arith, parts c.args.g c.requires.1)

pub returns-then-down-g : goal.returns-then-down-g
returns-then-down-g c =
    let g = c.args.g in
    let w = c.args.wide in
    above-all (w * 2 ^ 52) g (omega arith) (up g w) (down g) (sums g w c.requires.1 c.if-wide-high.false) c.if-down-g.true

pub overflow_add-down-4 : goal.overflow_add-down-4
overflow_add-down-4 c = omega (arith, parts c.args.g c.requires.1)

pub returns-then-up-g : goal.returns-then-up-g
returns-then-up-g c =
    let g = c.args.g in
    let w = c.args.wide in
    below_all (w * 2 ^ 52) g (omega arith) (up g w) (down g) (sums g w c.requires.1 c.if-wide-high.false) c.if-up-g.true

pub overflow_add-result : goal.overflow_add-result
overflow_add-result c =
    let a = c.args in
    omega (arith, room-above a.g (ltb (down a.g + a.g * 2) (up a.g a.wide)) c.requires.1)

pub overflow_sub-result : goal.overflow_sub-result
overflow_sub-result c =
    let a = c.args in
    room-below a.g (ltb (down a.g + a.g * 2) (up a.g a.wide)) (leb (up a.g a.wide) (down a.g)) c.requires.0

pub returns : goal.returns
returns c =
    let g = c.args.g in
    let w = c.args.wide in
    one_of_three (w * 2 ^ 52) g (omega arith) (up g w) (down g) (sums g w c.requires.1 c.if-wide-high.false) c.if-up-g.false c.if-down-g.false

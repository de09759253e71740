-- `float::nearest_root` meets its contract: what `nearest_of_three` gives is the number asked for, and where it gives none the 53 digits of w * 2 ^ 52 give it, and of w's bounds that number has 53 binary digits. Assumes nothing.
use mathlib.Core.Path.{◌≡◌, sym, ap, ◌∙◌, subst}
use Prim.Native.Nat.{ℕ, ◌-◌, ◌*◌, ◌/◌, ◌%◌, ◌^◌, ◌≤◌, ◌<◌}
use native.Mathlib.Nat.{zero-add, mul_assoc, mul-div_cancel, mod-eq_of_lt}
use native.Mathlib.Omega.{arith}
use lib.Pow.{pow_pos}
use Rattle.float.specs.Root.{nearest_root}
use Rattle.float.specs.Digits.{radicand}
use Rattle.float.proofs.DigitLaw.{digit_law}
use Rattle.float.proofs.Between.{Between, nearest-between, more_than, at_most}
use Rattle.float.proofs.Test.{beside-is}
use Rattle.float.proofs.nearest_root.Goals as goal

-- the radicand of 53 digits whose first are the bits of w * 2 ^ 10
whole : (w : ℕ) → w ≤ 2 ^ 54 - 2 → radicand 53 0 0 (w * 2 ^ 10 % 2 ^ 64) ≡ w * 2 ^ 52
whole w h =
    ap (λ (x : ℕ). x * 4 ^ 53 / 2 ^ 64) (zero-add (w * 2 ^ 10 % 2 ^ 64) ∙ mod-eq_of_lt (room w h))
    ∙ ap (λ (x : ℕ). x / 2 ^ 64) (mul_assoc w (2 ^ 10) (4 ^ 53) ∙ sym (mul_assoc w (2 ^ 52) (2 ^ 64)))
    ∙ mul-div_cancel (w * 2 ^ 52) (pow_pos 64)
  where
    room : (w : ℕ) → w ≤ 2 ^ 54 - 2 → w * 2 ^ 10 < 2 ^ 64
    room w h = omega arith

-- what is returned, from the one fact that it is the nearest
found : (w r : ℕ) → (2 ^ 52 ≤ w) × (w ≤ 2 ^ 54 - 2) → r ≡ nearest_root (w * 2 ^ 52) 0 → (r ≡ nearest_root (w * 2 ^ 52) 0) × (2 ^ 52 ≤ r) × (r < 2 ^ 53)
found w r h e = (e, low (more_than b (2 ^ 52 - 1) (omega (arith, h.0))), high (at_most b (2 ^ 53 - 1) (omega (arith, h.1))))
  where
    b : Between (w * 2 ^ 52) r
    b = subst (Between (w * 2 ^ 52)) (sym e) (nearest-between (w * 2 ^ 52))

    low : 2 ^ 52 - 1 < r → 2 ^ 52 ≤ r
    low l = omega arith

    high : r ≤ 2 ^ 53 - 1 → r < 2 ^ 53
    high l = omega arith

pub returns-in-Some : goal.returns-in-Some
returns-in-Some c =
    let w = c.args.wide in
    let r = c.in-Some.r in
    found w r c.requires (beside-is c.guess.result (nearest_root (w * 2 ^ 52) 0) r (sym c.in-Some.is ∙ c.nearest_of_three.ensures))

pub returns : goal.returns
returns c =
    let w = c.args.wide in
    found w c.digits.result c.requires (c.digits.ensures ∙ digit_law 53 0 0 (w * 2 ^ 10 % 2 ^ 64) (omega arith) (omega arith) ∙ ap (λ (n : ℕ). nearest_root n 0) (whole w c.requires.1))

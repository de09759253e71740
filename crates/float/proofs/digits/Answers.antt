-- `float::digits` meets its contract. Each turn is one `Step` of `Digit`, and what the recurrence gives from where the loop stands is what it gives from its start. Assumes nothing.
use mathlib.Core.Path.{◌≡◌, refl, sym, ap, ◌∙◌, subst}
use mathlib.Core.Bool.{cond}
use Prim.Native.Nat.{ℕ, suc, ◌+◌, ◌-◌, ◌*◌, ◌/◌, ◌%◌, ◌^◌, ◌≤◌, ◌<◌}
use native.Mathlib.Omega.{arith}
use borrow.Author.Tests.{le-leb, lt-leb}
use lib.Dec.{leb}
use mir.Val.{bool_byte}
use Rattle.float.specs.Digits.{recurrence}
use Rattle.float.proofs.Digit.{Step, step, root-small, root_grows}
use Rattle.float.proofs.DigitLaw.{digits_end, digits_step}
use Rattle.float.proofs.digits.Invariants.{Going}
use Rattle.float.proofs.digits.Goals as goal

-- the digit of a turn, as the code has it
abbrev digit : ℕ → ℕ → ℕ → ℕ
digit r s b = bool_byte (leb (r * 4 + 1) (s * 4 + b / 2 ^ 62))

module _ {n l r s b : ℕ} (g : Going n l r s b) where
  fits : r < 2 ^ 53
  fits = root-small 53 l g.short

  stepped : Step (r * r + s) r s (b / 2 ^ 62) (digit r s b)
  stepped = step (b / 2 ^ 62) (omega (arith, g.word)) (record { whole = refl; small = g.small })

  turned : 0 < l → (m : ℕ) → l ≡ suc m → Going n m (r * 2 + digit r s b) (s * 4 + b / 2 ^ 62 - (r * 4 + 1) * digit r s b) (b * 2 ^ 2 % 2 ^ 64)
  turned p m e = record {
    most = omega (arith, g.most);
    short = omega (arith, subst (λ (k : ℕ). r * 2 + 1 < 2 ^ (53 - k)) less (root_grows 53 l r g.most p g.short), stepped.bit);
    small = stepped.next.small;
    word = omega arith;
    same = ap (λ (k : ℕ). recurrence k (r * 2 + digit r s b) (s * 4 + b / 2 ^ 62 - (r * 4 + 1) * digit r s b) (b * 2 ^ 2 % 2 ^ 64)) (sym less) ∙ digits_step l r s b p ∙ g.same;
  }
    where
      less : l - 1 ≡ m
      less = omega arith

  -- no digit to come: which way the root is rounded
  ended : l ≤ 0 → cond (leb s r) r (r + 1) ≡ n
  ended z = digits_end l r s b (omega arith) ∙ g.same

  down : l ≤ 0 → s ≤ r → r ≡ n
  down z h = rw (le-leb s r h) at ended z

  up : l ≤ 0 → r < s → r + 1 ≡ n
  up z h = rw (lt-leb s r h) at ended z

pub loop-init : goal.loop-init
loop-init c =
    let all : c.args.left ≡ c.args.left - 0 = omega arith in
    subst (λ (l : ℕ). Going (recurrence c.args.left c.args.root c.args.rest c.args.bits) l c.args.root c.args.rest c.args.bits) all
    (record { most = c.requires.0; short = c.requires.1; small = c.requires.2; word = c.ranges.bits.fits; same = refl })

pub overflow_mul-next : goal.overflow_mul-next
overflow_mul-next c = omega (arith, fits c.loop.invariant)

pub overflow_add-next : goal.overflow_add-next
overflow_add-next c = omega (arith, fits c.loop.invariant)

pub overflow_mul-trial : goal.overflow_mul-trial
overflow_mul-trial c = omega (arith, fits c.loop.invariant)

pub overflow_add-trial : goal.overflow_add-trial
overflow_add-trial c = omega (arith, fits c.loop.invariant)

pub overflow_mul-root : goal.overflow_mul-root
overflow_mul-root c = omega (arith, fits c.loop.invariant)

pub overflow_add-root : goal.overflow_add-root
overflow_add-root c = omega (arith, fits c.loop.invariant, (stepped c.loop.invariant).bit)

pub overflow_mul-rest : goal.overflow_mul-rest
overflow_mul-rest c = omega (arith, fits c.loop.invariant, (stepped c.loop.invariant).part)

pub overflow_sub-rest : goal.overflow_sub-rest
overflow_sub-rest c = (stepped c.loop.invariant).part

pub loop-preserved : goal.loop-preserved
loop-preserved c =
    turned c.loop.invariant (omega arith) (c.args.left - (c.loop.counter + 1)) (omega arith)

pub overflow_add-result : goal.overflow_add-result
overflow_add-result c = omega (arith, fits c.loop.invariant)

pub returns-then-rest-root : goal.returns-then-rest-root
returns-then-rest-root c = down c.loop.invariant (omega arith) c.if-rest-root.true

pub returns-else-rest-root : goal.returns-else-rest-root
returns-else-rest-root c = up c.loop.invariant (omega arith) c.if-rest-root.false

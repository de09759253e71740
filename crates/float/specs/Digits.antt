-- The digit recurrence of the square root, for any number of digits: the words of its law and the numbers that it gives. Definitions only.
use Rattle.std.specs.Prelude.{ℕ, zero, suc, ◌+◌, ◌-◌, ◌*◌, ◌/◌, ◌%◌, ◌^◌, ◌≤◌, ◌≡◌, cond, leb}

-- root is √n cut to a whole number, and rest is n less its square: root ^ 2 ≤ n < (root + 1) ^ 2
pub record Rooted (n root rest : ℕ) : Type 0 where
  pub whole : root * root + rest ≡ n
  pub small : rest ≤ 2 * root

-- the number whose leading digits (of base 4) are root ^ 2 + rest, followed by `left` more: those of the 64 bits of `bits`, then zeros
abbrev pub radicand : ℕ → ℕ → ℕ → ℕ → ℕ
radicand left root rest bits = ((root * root + rest) * 2 ^ 64 + bits) * 4 ^ left / 2 ^ 64

-- What the recurrence makes of a root and a rest with `left` digits to come. Each digit brings down the top two bits of `bits`:
-- it is 1 where 4 * root + 1 goes into what is then left, and else 0. With none to come the root is rounded: up where the rest is more than the root.
unfoldable pub recurrence : ℕ → ℕ → ℕ → ℕ → ℕ
recurrence zero root rest bits = cond (leb rest root) root (root + 1)
recurrence (suc left) root rest bits =
    let next = rest * 4 + bits / 2 ^ 62 in
    let trial = root * 4 + 1 in
    let more = bits * 2 ^ 2 % 2 ^ 64 in
    cond (leb trial next) (recurrence left (root * 2 + 1) (next - trial) more) (recurrence left (root * 2) next more)

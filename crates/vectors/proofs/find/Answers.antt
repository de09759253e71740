-- `vectors::find` meets its contract. Assumes nothing.
use native.Mathlib.Nat.{mul-le-mul_left}
use native.Mathlib.Omega.{arith}
use Rattle.vectors.proofs.find.Goals as goal

pub overflow_mul-next : goal.overflow_mul-next
overflow_mul-next g c =
    omega (arith, mul-le-mul_left {m = c.WIDTH.result} {n = 2} c.word-len.result (omega (arith, c.WIDTH.ensures, g.met.T.Element.narrow)), c.word-len.type_inv)

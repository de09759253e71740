-- `vectors::word` meets its contract. The loop's invariant: the value is what the first `i` digits spell. Assumes nothing.
use Prim.Native.Nat.{◌*◌}
use native.Mathlib.Omega.{arith}
use Rattle.vectors.proofs.Digits.{more, room, spelled-more, no_word, some_word}
use Rattle.vectors.proofs.word.Goals as goal

pub returns-then-k-count : goal.returns-then-k-count
returns-then-k-count c = no_word _ _ (omega (arith, c.if-k-count.true, c.count.ensures))

pub overflow_mul-value : goal.overflow_mul-value
overflow_mul-value c = omega (arith, room c.loop-i.i c.loop-i.value c.loop-i.invariant.1 c.loop-i-test.true)

pub overflow_add-value : goal.overflow_add-value
overflow_add-value c = omega (arith, room c.loop-i.i c.loop-i.value c.loop-i.invariant.1 c.loop-i-test.true)

pub loop-i-preserved : goal.loop-i-preserved
loop-i-preserved c =
    (omega arith, more c.loop-i.i c.loop-i.value c.digit.result c.loop-i.invariant.1 c.digit.ensures.1, spelled-more c.args.text.now (c.args.k * 9) c.loop-i.i c.loop-i.value c.digit.result c.loop-i.invariant.2 c.digit.ensures.0)

pub returns : goal.returns
returns c =
    some_word _ _ c.loop-i.value c.loop-i.i (omega (arith, c.if-k-count.false, c.count.ensures)) c.loop-i.invariant.2 (omega arith)

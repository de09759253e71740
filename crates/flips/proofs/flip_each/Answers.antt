-- `flips::flip_each` meets its contract. Assumes nothing.
use native.Mathlib.Omega.{arith}
use Rattle.flips.proofs.Turns.{flip_starts, flip-ready, flip-room, flip-place, flip_turn, flip-ends}
use Rattle.chains.proofs.Bits.{bit_most}
use Rattle.flips.proofs.flip_each.Goals as goal

pub loop-i-init : goal.loop-i-init
loop-i-init c =
    flip_starts _ _ _ _ _ _ _ _ c.requires.by_index

pub overflow_add-areas : goal.overflow_add-areas
overflow_add-areas c =
    let g = c.requires.standing in
    let h = c.requires.ready in
    let n = c.loop-i.invariant.size in
    omega arith

pub word-k-requires : goal.word-k-requires
word-k-requires c =
    let g = c.requires.standing in
    let h = c.requires.ready in
    let n = c.loop-i.invariant.size in
    omega arith

pub flip_side-flipped-requires : goal.flip_side-flipped-requires
flip_side-flipped-requires c = record { ready = flip-ready _ _ _ _ _ _ _ _ _ _ _ c.requires.ready c.requires.standing _ _ _ _ c.loop-i.invariant; corners_in_bounds = flip-room _ _ _ _ _ _ _ _ _ _ _ c.requires.ready c.requires.standing _ _ _ _ c.loop-i.invariant; k_in_bounds = (flip-place _ _ _ _ _ _ _ _ _ _ _ c.requires.ready c.requires.standing _ _ _ _ c.loop-i.invariant c.loop-i-test.true _ c.word-k.ensures).1 }

pub overflow_add-flips : goal.overflow_add-flips
overflow_add-flips c =
    let x = bit_most c.flip_side-flipped.result _ c.from-flips.ensures in
    let m = c.loop-i.invariant.few in
    let g = c.requires.standing in
    let h = c.requires.ready in
    let o = c.loop-i.invariant.short in
    omega arith

pub loop-i-preserved : goal.loop-i-preserved
loop-i-preserved c =
    flip_turn _ _ _ _ _ _ _ _ _ _ _ c.requires.ready c.requires.standing _ _ _ _ c.loop-i.invariant c.loop-i-test.true _ c.word-k.ensures _ _ _ _ c.from-flips.ensures c.flip_side-flipped.ensures

pub returns : goal.returns
returns c =
    flip-ends _ _ _ _ _ _ _ _ _ _ _ c.requires.ready c.requires.standing _ _ _ _ c.loop-i.invariant c.loop-i-test.false

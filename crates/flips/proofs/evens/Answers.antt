-- `flips::evens` meets its contract: a sum of two words fits. Assumes nothing.
use native.Mathlib.Omega.{arith}
use Prim.Native.Nat.{◌+◌}
use Rattle.flips.proofs.Steps.{evens-is}
use Rattle.flips.proofs.evens.Goals as goal

pub overflow_add-x : goal.overflow_add-x
overflow_add-x c =
    let x = c.type_inv.work (c.args.degrees + c.args.q.u) in
    let y = c.type_inv.work (c.args.degrees + c.args.q.v) in
    let z = c.type_inv.work (c.args.degrees + c.args.q.c) in
    let t = c.type_inv.work (c.args.degrees + c.args.q.d) in
    omega arith

pub overflow_add-y : goal.overflow_add-y
overflow_add-y c =
    let x = c.type_inv.work (c.args.degrees + c.args.q.u) in
    let y = c.type_inv.work (c.args.degrees + c.args.q.v) in
    let z = c.type_inv.work (c.args.degrees + c.args.q.c) in
    let t = c.type_inv.work (c.args.degrees + c.args.q.d) in
    omega arith

pub overflow_add-result : goal.overflow_add-result
overflow_add-result c =
    let x = c.type_inv.work (c.args.degrees + c.args.q.u) in
    let y = c.type_inv.work (c.args.degrees + c.args.q.v) in
    let z = c.type_inv.work (c.args.degrees + c.args.q.c) in
    let t = c.type_inv.work (c.args.degrees + c.args.q.d) in
    omega arith

pub returns : goal.returns
returns c =
    evens-is c.args.work.now c.args.degrees c.args.q _ _ _ _ c.word.ensures c.word-2.ensures c.word-3.ensures c.word-4.ensures

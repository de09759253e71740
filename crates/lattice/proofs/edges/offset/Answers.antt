-- `lattice::edges::offset` meets its contract. Assumes nothing.
use native.Mathlib.Omega.{arith}
use Rattle.lattice.proofs.Indices.{square-small, offset-is}
use Rattle.lattice.proofs.edges.offset.Goals as goal

pub overflow_mul-layer : goal.overflow_mul-layer
overflow_mul-layer c = let q = square-small c.args.n c.requires.0 in omega arith

pub overflow_add-offsets-2 : goal.overflow_add-offsets-2
overflow_add-offsets-2 c = let q = square-small c.args.n c.requires.0 in omega arith

pub overflow_add-offsets-3 : goal.overflow_add-offsets-3
overflow_add-offsets-3 c = let q = square-small c.args.n c.requires.0 in omega arith

pub overflow_add-offsets-5 : goal.overflow_add-offsets-5
overflow_add-offsets-5 c = let q = square-small c.args.n c.requires.0 in omega arith

pub returns : goal.returns
returns c = offset-is c.args.n c.args.d c.requires.1

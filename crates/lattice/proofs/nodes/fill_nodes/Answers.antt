-- `lattice::nodes::fill_nodes` meets its contract. Assumes nothing.
use native.Mathlib.Omega.{arith}
use lib.ListN.{length-set}
use Rattle.lattice.proofs.Stores.{filling_starts, filling_inside, filling_turn, filling_ends}
use Rattle.lattice.proofs.nodes.fill_nodes.Goals as goal

pub loop-a-init : goal.loop-a-init
loop-a-init c = filling_starts _ _ _ _ _ _ c.requires

pub node-p-requires : goal.node-p-requires
node-p-requires c =
    let p = filling_inside _ _ _ _ _ _ c.requires c.loop-a.invariant c.loop-a-test.true in
    (omega arith, omega arith, omega arith)

pub bounds-grid-a-in-loop-a : goal.bounds-grid-a-in-loop-a
bounds-grid-a-in-loop-a c = simp length-set (omega arith)

pub bounds-grid-a-in-loop-a-2 : goal.bounds-grid-a-in-loop-a-2
bounds-grid-a-in-loop-a-2 c = simp length-set (omega arith)

pub next-index-requires : goal.next-index-requires
next-index-requires c =
    filling_inside _ _ _ _ _ _ c.requires c.loop-a.invariant c.loop-a-test.true

pub loop-a-preserved : goal.loop-a-preserved
loop-a-preserved c =
    filling_turn _ _ _ _ _ _ c.requires c.loop-a.invariant c.loop-a-test.true _ _ _ c.node-p.ensures c.value.ensures c.next-index.ensures

pub returns : goal.returns
returns c = filling_ends _ _ _ _ _ _ c.requires c.loop-a.invariant c.loop-a-test.false

-- `lattice::edges::note` meets its contract. Assumes nothing.
use native.Mathlib.Omega.{arith}
use Rattle.field.proofs.Checks.{failed, held}
use Rattle.lattice.proofs.Noting.{noted-none, noted_one}
use Rattle.lattice.proofs.edges.note.Goals as goal

pub returns-then-not-crossed_by : goal.returns-then-not-crossed_by
returns-then-not-crossed_by c =
    (noted-none _ _ c.args.count c.args.list.now (failed c.crossed_by.ensures c.if-not-crossed_by.true), omega arith)

pub returns : goal.returns
returns c =
    let cut = held c.crossed_by.ensures c.if-not-crossed_by.false in (
      noted_one _ c.args.a c.args.d c.args.label c.args.count c.args.list.now _ _ _ cut
          c.put.ensures
          c.put-2.ensures
          c.put-3.ensures,
      omega arith,
    )

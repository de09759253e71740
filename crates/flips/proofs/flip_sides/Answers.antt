-- `flips::flip_sides` meets its contract, by those of the functions that it calls. Assumes nothing.
use native.Mathlib.Omega.{arith}
use Rattle.flips.proofs.Stages.{pass-lists, pass_scored, pass-ready, pass-standing, pass-flipped}
use Rattle.flips.proofs.flip_sides.Goals as goal

pub mark_list-count-requires : goal.mark_list-count-requires
mark_list-count-requires c =
    let r = c.requires.room in record { lists = pass-lists c.args.points.now c.args.terms.now.coefficients.now c.args.terms.now.powers.now _ _ _ c.requires; closed = c.requires.closed; corners_in_bounds = omega arith }

pub begin_pass-requires : goal.begin_pass-requires
begin_pass-requires c =
    let r = c.requires.room in
    let e = c.mark_list-count.auto.work in record { lists = pass_scored c.args.points.now c.args.terms.now.coefficients.now c.args.terms.now.powers.now _ _ _ c.requires; corners_bound = (omega arith, omega arith, omega arith) }

pub flip_each-requires : goal.flip_each-requires
flip_each-requires c = record { ready = pass-ready _ _ _ _ _ _ c.requires _ _ _ c.mark_list-count.auto.work c.begin_pass.auto.work c.mark_list-count.ensures.noted c.begin_pass.ensures; standing = pass-standing _ _ _ _ _ _ c.requires _ _ _ c.mark_list-count.auto.work c.begin_pass.auto.work c.mark_list-count.ensures.noted c.begin_pass.ensures; by_index = c.begin_pass.ensures.zeros }

pub returns : goal.returns
returns c =
    pass-flipped _ _ _ _ _ _ c.requires _ _ _ c.mark_list-count.auto.work c.begin_pass.auto.work c.mark_list-count.ensures.noted c.begin_pass.ensures _ _ _ c.mark_list-count.ensures.rest c.flip_each.ensures

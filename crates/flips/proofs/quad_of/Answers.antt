-- `flips::quad_of` meets its contract. Assumes nothing.
use native.Mathlib.Omega.{arith}
use Rattle.flips.proofs.Steps.{pv-room, quad_is}
use Rattle.flips.proofs.quad_of.Goals as goal

pub word-requires-4 : goal.word-requires-4
word-requires-4 c =
    let r = pv-room c.args.places c.args.l c.requires.places_value.0 c.requires.j_lt_places.1 in
    let e = c.before-2.ensures in
    omega arith

pub returns : goal.returns
returns c =
    quad_is c.args.work.now c.args.begun c.args.places c.args.j c.args.l c.requires.places_value.0 c.requires.j_lt_places.0 c.requires.j_lt_places.1 _ _ _ _ _ _ _ c.word.ensures c.after.ensures c.word-2.ensures c.before-across.ensures c.word-3.ensures c.before-2.ensures c.word-4.ensures

-- `cuts::cut` meets its contract. Assumes nothing.
use native.Mathlib.Omega.{arith}
use Rattle.cuts.proofs.Answering.{cut_room_lem, cuts_called}
use Rattle.cuts.proofs.cut.Goals as goal

pub blank_behind-requires : goal.blank_behind-requires
blank_behind-requires c = (cut_room_lem _ c.ask_and_cut-filled.ensures c.unwrap_or-counted.ensures).0

pub blank-requires : goal.blank-requires
blank-requires c =
    let room = cut_room_lem _ c.ask_and_cut-filled.ensures c.unwrap_or-counted.ensures in
    omega (arith, room.1)

pub returns : goal.returns
returns c = cuts_called _ c.ask_and_cut-filled.ensures c.unwrap_or-counted.ensures c.blank_behind.ensures c.blank.ensures

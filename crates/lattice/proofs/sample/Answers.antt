-- `lattice::sample` meets its contract. Assumes nothing.
use Rattle.lattice.proofs.Call.{room, called}
use Rattle.lattice.proofs.sample.Goals as goal

pub blank_behind-requires : goal.blank_behind-requires
blank_behind-requires c = room _ c.ask_and_fill-filled.ensures c.unwrap_or-counted.ensures

pub returns : goal.returns
returns c = called _ c.ask_and_fill-filled.ensures c.unwrap_or-counted.ensures c.blank_behind.ensures

-- `field::unit` meets its contract, by those of the functions that it calls. Assumes nothing.
use Rattle.field.proofs.unit.Goals as goal

pub returns : goal.returns
returns c = cc

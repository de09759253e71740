-- `field::wall` meets its contract, by that of `along`. Assumes nothing.
use Rattle.field.proofs.wall.Goals as goal

pub returns : goal.returns
returns c = cc

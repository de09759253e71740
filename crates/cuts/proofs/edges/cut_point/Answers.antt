-- `cuts::edges::cut_point` meets its contract. Assumes nothing.
use Rattle.cuts.specs.Edges.{cut_point}
use Rattle.cuts.proofs.edges.cut_point.Goals as goal

pub returns-in-First : goal.returns-in-First
unfolding cut_point
returns-in-First c = cc

pub returns-in-Second : goal.returns-in-Second
unfolding cut_point
returns-in-Second c = cc

pub returns-in-At : goal.returns-in-At
unfolding cut_point
returns-in-At c = cc

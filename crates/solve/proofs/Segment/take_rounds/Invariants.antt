-- `solve::Segment::take_rounds` meets its contract: what the rounds that are left make of the bracket is what all rounds make of the first one. Assumes nothing.
use mathlib.Core.Path.{◌≡◌}
use Rattle.solve.specs.Solve.{residual, from_round}
use Rattle.solve.proofs.Turns.{onward}
use Rattle.solve.proofs.Segment.take_rounds.Given as goal

abbrev pub invariant-loop-round : goal.invariant-loop-round
invariant-loop-round l =
    let field = residual l.self.terms.now.coefficients.now l.self.terms.now.powers.now l.self.a l.self.b l.self.level in
    onward field l.limit l.first.flo l.round l.k ≡ from_round field l.limit l.first.flo 52 0 l.first

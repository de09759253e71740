-- `slivers::Pass::may_collapse` meets its contract.
use Prim.Native.Nat.{◌<◌}
use mathlib.Core.Path.{◌∙◌}
use native.Mathlib.Omega.{arith}
use Rattle.chains.proofs.Marks.{below_next}
use Rattle.slivers.proofs.Turns.{may_four, may_five}
use Rattle.slivers.proofs.Pass.may_collapse.Goals as goal

pub returns-then-word-eq3 : goal.returns-then-word-eq3
returns-then-word-eq3 c =
    let h = c.requires.ready in
    let a-low : c.word-a.result < c.args.self.now.heads = omega (arith, c.word-a.ensures, h.lists.below c.args.k c.requires.k_in_bounds) in
    let b-low : c.ahead-b.result < c.args.self.now.heads = omega (arith, c.ahead-b.ensures, below_next h.lists c.args.k c.requires.k_in_bounds) in
    may_four c.args.self.now.corners.now c.args.work.now c.args.self.now.touched c.args.k c.word-a.result c.ahead-b.result c.word.result c.word-2.result c.word-3.result c.word-a.ensures c.ahead-b.ensures c.word.ensures c.if-word-ne0.false c.word-2.ensures c.if-word-ne0-2.false (c.word-3.ensures ∙ h.lones c.args.k c.requires.k_in_bounds) c.if-word-eq0.false c.word-4.result c.word-then-word-eq3.result (c.word-4.ensures ∙ h.valences c.word-a.result a-low) c.if-word-eq3.true (c.word-then-word-eq3.ensures ∙ h.valences c.ahead-b.result b-low)

pub returns : goal.returns
returns c =
    let h = c.requires.ready in
    let a-low : c.word-a.result < c.args.self.now.heads = omega (arith, c.word-a.ensures, h.lists.below c.args.k c.requires.k_in_bounds) in
    may_five c.args.self.now.corners.now c.args.work.now c.args.self.now.touched c.args.k c.word-a.result c.ahead-b.result c.word.result c.word-2.result c.word-3.result c.word-a.ensures c.ahead-b.ensures c.word.ensures c.if-word-ne0.false c.word-2.ensures c.if-word-ne0-2.false (c.word-3.ensures ∙ h.lones c.args.k c.requires.k_in_bounds) c.if-word-eq0.false c.word-4.result (c.word-4.ensures ∙ h.valences c.word-a.result a-low) c.if-word-eq3.false

-- `closing::finding` meets its contract: where no corner fails it is `Closed`, and what is located from the first that does is what `finding` computes.
use mathlib.Core.Path.{sym}
use Rattle.surface.specs.Triangle.{triangles}
use Rattle.surface.proofs.Findings.{finds-finding, finding-closed}
use Rattle.closing.proofs.Whole.{zeroed-used, zeroed-again, all-ringed}
use Rattle.closing.proofs.finding.Goals as goal

pub returns-in_default : goal.returns-in_default
returns-in_default c =
    let e = c.settle.ensures in
    record { answer = sym ((finding-closed (triangles c.args.corners.now)).1 (all-ringed _ _ _ c.requires e.corner c.in_default.is)); zeroed = e.zeroed }

pub locate-found-requires-clause-first_unringed : goal.locate-found-requires-clause-first_unringed
locate-found-requires-clause-first_unringed c = c.settle.ensures.corner.first c.in-Some.v c.in-Some.is

pub returns : goal.returns
returns c =
    let cs = c.args.corners.now in
    let p = c.args.points in
    let w = c.settle.new.work in
    record {
      answer = finds-finding (triangles cs) c.locate-found.result c.locate-found.ensures.finds;
      zeroed = zeroed-again cs p c.args.work.now w _ c.settle.ensures.zeroed (zeroed-used cs p w c.locate-found.new.work _ c.requires.thirds c.locate-found.ensures.far c.clear_needed.ensures);
    }

-- `checking::examine` meets its contract: no triangles, a triangle that is refused, or the questions of the whole.
use mathlib.Core.Path.{sym, ap, ◌∙◌}
use native.Mathlib.Omega.{arith}
use borrow.Author.Tests.{eqb-true, eqb-false}
use Rattle.surface.specs.Triangle.{triangles}
use Rattle.checking.specs.Validate.{as_whole}
use Rattle.checking.proofs.Sound.{measures, corners-below}
use Rattle.checking.proofs.Cases.{no_triangles, some-triangles}
use Rattle.checking.proofs.examine.Goals as goal

pub returns-then-is_empty : goal.returns-then-is_empty
returns-then-is_empty c = record { answer = no_triangles c.args.points.now c.args.corners.now (eqb-true _ 0 (sym c.is_empty.ensures ∙ c.if-is_empty.true)); words = c.clear_needed.ensures }

pub whole-requires : goal.whole-requires
whole-requires c =
    let ps = c.args.points.now in
    let cs = c.args.corners.now in
    let g = c.requires in
    record {
      thirds = g.thirds;
      few = omega (arith, g.thirds, g.few-triangles);
      points = g.few-points;
      below = corners-below ps cs _ g.thirds (measures ps cs c.in-Ok.measures.quality c.in-Ok.measures.volume (sym c.measure.ensures ∙ c.in-Ok.is));
      room = g.room;
    }

pub returns-in-Ok : goal.returns-in-Ok
returns-in-Ok c =
    let ps = c.args.points.now in
    let cs = c.args.corners.now in
    record {
      answer = c.whole.ensures.answer ∙ ap (as_whole (triangles cs)) (sym c.in-Ok.is ∙ c.measure.ensures) ∙ some-triangles ps cs (eqb-false _ 0 (sym c.is_empty.ensures ∙ c.if-is_empty.false));
      words = c.whole.ensures.words;
    }

pub returns-in-Err : goal.returns-in-Err
returns-in-Err c =
    let ps = c.args.points.now in
    let cs = c.args.corners.now in
    record {
      answer = ap (as_whole (triangles cs)) (sym c.in-Err.is ∙ c.measure.ensures) ∙ some-triangles ps cs (eqb-false _ 0 (sym c.is_empty.ensures ∙ c.if-is_empty.false));
      words = c.clear_needed-in-Err.ensures;
    }

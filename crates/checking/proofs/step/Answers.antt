-- `checking::step` meets its contract: a corner that is not on the list, or the triangle at its three points.
use mathlib.Core.Path.{sym, ap, ◌∙◌}
use Rattle.quality.specs.Quality.{quality, wedge, least_with}
use Rattle.checking.specs.Stages.{tri_of}
use Rattle.checking.proofs.Turns.{at_corners, step_out, step_kept, step_flat}
use Rattle.checking.proofs.step.Goals as goal

pub returns-then-beyond : goal.returns-then-beyond
returns-then-beyond c = step_out c.args.points.now c.args.so_far.quality c.args.so_far.volume (tri_of c.args.t) (sym c.beyond.ensures ∙ c.if-beyond.true)

pub returns-in_default : goal.returns-in_default
returns-in_default c =
    step_flat c.args.points.now c.args.so_far.quality c.args.so_far.volume (tri_of c.args.t) (sym c.beyond.ensures ∙ c.if-beyond.false)
    (c.least.ensures ∙ ap (least_with c.args.so_far.quality) (at_corners c.args.points.now (tri_of c.args.t) quality c.requires.1 (sym c.beyond.ensures ∙ c.if-beyond.false) c.place-a.ensures c.wide.ensures c.place-b.ensures c.wide-2.ensures c.place-c.ensures c.wide-3.ensures))
    c.in_default.is

pub returns : goal.returns
returns c =
    step_kept c.args.points.now c.args.so_far.quality c.args.so_far.volume (tri_of c.args.t) (sym c.beyond.ensures ∙ c.if-beyond.false)
    (c.least.ensures ∙ ap (least_with c.args.so_far.quality) (at_corners c.args.points.now (tri_of c.args.t) quality c.requires.1 (sym c.beyond.ensures ∙ c.if-beyond.false) c.place-a.ensures c.wide.ensures c.place-b.ensures c.wide-2.ensures c.place-c.ensures c.wide-3.ensures))
    _ _ c.in-Some.is (c.share.ensures ∙ (at_corners c.args.points.now (tri_of c.args.t) wedge c.requires.1 (sym c.beyond.ensures ∙ c.if-beyond.false) c.place-a.ensures c.wide.ensures c.place-b.ensures c.wide-2.ensures c.place-c.ensures c.wide-3.ensures))

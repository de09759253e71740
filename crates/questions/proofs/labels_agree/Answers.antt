-- `questions::labels_agree` meets its contract: the words that are marked are cleared first.
use Prim.Native.Nat.{◌*◌}
use mathlib.Core.Path.{◌∙◌}
use native.Mathlib.Omega.{arith}
use lib.ListN.{drop}
use Rattle.closing.proofs.Whole.{zero-at, far_clear}
use Rattle.questions.proofs.labels_agree.Goals as goal

pub mark_labels-requires : goal.mark_labels-requires
mark_labels-requires c =
    let n = c.args.points * 8 in
    let g = c.requires in
    let w = c.clear.new.work in record {
      listed = record {
        sized = record { thirds = g.sized.thirds; few = g.sized.few; labelled = g.sized.labelled; points = g.sized.points; room = omega (arith, g.sized.room, c.clear.auto.work) };
        known = g.known;
        below = g.below;
      };
      by_index = (λ i l. zero-at n i w (drop n c.args.work.now) c.clear.ensures l);
    }

pub returns : goal.returns
returns c =
    let n = c.args.points * 8 in
    record { answer = c.mark_labels.ensures.answer; far = c.mark_labels.ensures.far ∙ far_clear n c.clear.new.work c.args.work.now c.clear.ensures }

use Rattle.entries.proofs.Backs.{unflips, uncollapses, unflip_made, taken_back}
use Rattle.entries.proofs.Acts.{listed, words-fit, front-size, front-far, needed-most, zero-corners, zero-labels}
use Rattle.entries.proofs.Edits.{two-rest}
use Rattle.entries.proofs.Moved.{drop-same-zero}
use Rattle.entries.specs.Undoes.{first_of, second_of}
use Rattle.history.specs.Entry.{needed}
use Rattle.verdicts.specs.Record.{words_of}
use lib.ListN.{drop}
use lib.Seq.{length-take-le}
use native.Mathlib.Omega.{arith}
use mathlib.Core.Path.{refl, sym}
use mathlib.Core.List.{◌++◌}
use Prim.Native.Nat.{◌*◌, ◌+◌}
use Rattle.entries.proofs.take_back.Goals as goal

pub unflip-requires : goal.unflip-requires
unflip-requires c = unflips c.requires.standing c.requires.undoable c.if-done-eq-FLIP.true

pub returns-then-done-eq-FLIP : goal.returns-then-done-eq-FLIP
returns-then-done-eq-FLIP c =
    let u = unflips c.requires.standing c.requires.undoable c.if-done-eq-FLIP.true in
    let f = u.first in
    let g = u.second in
    taken_back c.requires.standing c.requires.undoable c.unflip.new.corners c.args.labels.now c.args.work.now c.args.n c.unflip.auto.corners refl refl c.requires.standing.room
    (unflip_made u c.unflip.new.corners c.unflip.ensures c.args.labels.now)
    (drop-same-zero (3 * c.args.n) c.args.corners.now c.unflip.new.corners (two-rest c.args.corners.now (first_of (words_of c.args.done)) (second_of (words_of c.args.done)) c.unflip.new.corners f g c.unflip.ensures) (zero-corners c.requires.standing))
    (zero-labels c.requires.standing) refl

pub overflow_add-both : goal.overflow_add-both
overflow_add-both c = omega (arith, c.requires.standing.bound)

pub slice_bounds-uncollapse-end : goal.slice_bounds-uncollapse-end
slice_bounds-uncollapse-end c = words-fit c.requires.standing

pub slice_bounds-uncollapse-end-2 : goal.slice_bounds-uncollapse-end-2
slice_bounds-uncollapse-end-2 c = sym (length-take-le (c.args.points + c.args.points) c.args.work.now (words-fit c.requires.standing))

pub uncollapse-requires : goal.uncollapse-requires
uncollapse-requires c = record { uncollapses = uncollapses c.requires.standing c.requires.undoable c.if-done-eq-FLIP.false; listed = listed c.requires.standing; notes_len = length-take-le (c.args.points + c.args.points) c.args.work.now (words-fit c.requires.standing) }

pub returns : goal.returns
returns c =
    let w = c.args.work.now in
    let p = c.args.points + c.args.points in
    let e = c.uncollapse.new.notes in
    let f = c.uncollapse.auto.notes in
    let d = c.uncollapse.ensures in
    let u = uncollapses c.requires.standing c.requires.undoable c.if-done-eq-FLIP.false in
    taken_back c.requires.standing c.requires.undoable c.uncollapse.new.corners c.uncollapse.new.labels (e ++ drop p w) c.uncollapse.result c.uncollapse.auto.corners c.uncollapse.auto.labels (front-size p e w f) (omega (arith, u.labels, d.count))
    d.is (d.freed (zero-corners c.requires.standing)) (d.unlabelled (zero-labels c.requires.standing)) (front-far p (needed c.args.labels.now c.args.points) e w (words-fit c.requires.standing) f (needed-most c.args.labels.now c.args.points))

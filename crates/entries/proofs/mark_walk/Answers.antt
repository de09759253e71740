use Rattle.entries.proofs.Marks.{walking_start, walking_end, walking_fits, walking_below, walking_note, walking_on, front-zero}
use Rattle.entries.proofs.Moved.{filled}
use Rattle.entries.proofs.Acts.{listed-front}
use Rattle.verdicts.proofs.Scan.{around-most}
use Rattle.surface.proofs.Held.{length-held}
use Rattle.surface.specs.Flat.{held}
use lib.ListN.{length, length-set}
use lib.Seq.{length-take-le}
use mathlib.Core.Path.{refl, sym, ◌∙◌, ap}
use native.Mathlib.Omega.{arith}
use Prim.Native.Nat.{ℕ, ◌-◌}
use Rattle.entries.proofs.mark_walk.Goals as goal

pub slice_bounds-note_steps-end : goal.slice_bounds-note_steps-end
slice_bounds-note_steps-end c = omega (arith, c.requires.notes_len, c.fill.auto.self)

pub slice_bounds-note_steps-end-2 : goal.slice_bounds-note_steps-end-2
slice_bounds-note_steps-end-2 c = sym (length-take-le c.args.points c.fill.new.self (omega (arith, c.requires.notes_len, c.fill.auto.self)))

pub note_steps-requires : goal.note_steps-requires
note_steps-requires c = record { listed = listed-front c.requires.listed c.fill.new.self (omega (arith, c.requires.notes_len, c.fill.auto.self)); by_index = front-zero c.args.points c.fill.new.self (filled (length c.args.notes.now) c.fill.new.self (c.fill.ensures.after (λ y e. e))) }

pub loop-z-init : goal.loop-z-init
loop-z-init c = walking_start c.requires.listed c.requires.routed c.fill.new.self c.note_steps.new.notes (filled (length c.args.notes.now) c.fill.new.self (c.fill.ensures.after (λ y e. e))) (c.fill.auto.self ∙ c.requires.notes_len) c.note_steps.auto.notes c.note_steps.ensures.notes c.wide-z.result c.wide-z.ensures

pub overflow_add-notes : goal.overflow_add-notes
overflow_add-notes c = omega (arith, walking_below c.loop-z.invariant (λ e. c.loop-z-test.true (e ∙ sym c.wide-end.ensures)), c.requires.listed.bound)

pub offset_bounds-notes-points : goal.offset_bounds-notes-points
offset_bounds-notes-points c = omega (arith, walking_below c.loop-z.invariant (λ e. c.loop-z-test.true (e ∙ sym c.wide-end.ensures)), c.requires.listed.bound)

pub bounds-notes-points : goal.bounds-notes-points
bounds-notes-points c = omega (arith, walking_below c.loop-z.invariant (λ e. c.loop-z-test.true (e ∙ sym c.wide-end.ensures)), c.loop-z.invariant.size)

pub offset_bounds-notes-z : goal.offset_bounds-notes-z
offset_bounds-notes-z c = omega (arith, walking_below c.loop-z.invariant (λ e. c.loop-z-test.true (e ∙ sym c.wide-end.ensures)), c.requires.listed.bound)

pub bounds-notes-z : goal.bounds-notes-z
bounds-notes-z c = simp length-set (omega (arith, walking_below c.loop-z.invariant (λ e. c.loop-z-test.true (e ∙ sym c.wide-end.ensures)), c.loop-z.invariant.size))

pub overflow_sub-z : goal.overflow_sub-z
overflow_sub-z c = omega (arith, c.wide-z-in-loop-z.ensures, walking_note c.loop-z.invariant (λ e. c.loop-z-test.true (e ∙ sym c.wide-end.ensures)))

pub overflow_add-k : goal.overflow_add-k
overflow_add-k c =
    let m = around-most (held c.args.corners.now c.args.n) c.args.a in
    let h = length-held c.args.corners.now c.args.n c.requires.listed.room in
    omega (arith, walking_fits c.loop-z.invariant (λ e. c.loop-z-test.true (e ∙ sym c.wide-end.ensures)), c.requires.listed.room)

pub loop-z-smaller : goal.loop-z-smaller
loop-z-smaller c = omega (arith, walking_fits c.loop-z.invariant (λ e. c.loop-z-test.true (e ∙ sym c.wide-end.ensures)))

pub loop-z-preserved : goal.loop-z-preserved
loop-z-preserved c = walking_on c.loop-z.invariant (λ e. c.loop-z-test.true (e ∙ sym c.wide-end.ensures)) _ refl _ (ap (λ (r : ℕ). r - 1) c.wide-z-in-loop-z.ensures)

pub returns : goal.returns
returns c = walking_end c.loop-z.invariant (c.loop-z-test.false ∙ c.wide-end.ensures)

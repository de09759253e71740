-- `reading::read` meets its contract. Assumes nothing.
use native.Mathlib.Omega.{arith}
use Rattle.std.proofs.Common.{ℕ, ◌*◌, List, ◌++◌, drop, sym, ap, ◌∙◌}
use lib.Seq.{length-take-le}
use lib.Ieee.{of_bits}
use Rattle.sheet.specs.Edition.{edition_number}
use Rattle.sheet.proofs.Finding.{few-points, few-triangles}
use Rattle.reading.proofs.Giving.{gives_16, gives_35, gives_sheet}
use Rattle.reading.proofs.read.Goals as goal

pub returns-in_default : goal.returns-in_default
unfolding of_bits
returns-in_default c =
    let A = c.args in
    gives_16 A.text.now A.points.now c.fill.new.self A.corners.now c.fill-2.new.self A.labels.now c.fill-3.new.self c.in_default.ensures (c.fill.ensures.after (λ y e. e)) (c.fill-2.ensures.after (λ y e. e)) (c.fill-3.ensures.after (λ y e. e))

pub overflow_mul-n : goal.overflow_mul-n
overflow_mul-n c = omega (arith, few-points _ _ _ _ _ _ _ _ c.read_whole.ensures _ c.in-Some.is)

pub returns-then-points-n : goal.returns-then-points-n
unfolding of_bits
returns-then-points-n c =
    let A = c.args in
    gives_35 A.text.now A.points.now c.fill.new.self A.corners.now c.fill-2.new.self A.labels.now c.fill-3.new.self _ _ _ _ _ _ _ _ _ c.in-Some.ensures (λ h. omega arith) (c.fill.ensures.after (λ y e. e)) (c.fill-2.ensures.after (λ y e. e)) (c.fill-3.ensures.after (λ y e. e))

pub overflow_mul-m : goal.overflow_mul-m
overflow_mul-m c = omega (arith, few-triangles _ _ _ _ _ _ _ _ c.read_whole.ensures _ c.in-Some.is)

pub returns-then-corners-m : goal.returns-then-corners-m
unfolding of_bits
returns-then-corners-m c =
    let A = c.args in
    gives_35 A.text.now A.points.now c.fill.new.self A.corners.now c.fill-2.new.self A.labels.now c.fill-3.new.self _ _ _ _ _ _ _ _ _ c.in-Some.ensures (λ h. omega arith) (c.fill.ensures.after (λ y e. e)) (c.fill-2.ensures.after (λ y e. e)) (c.fill-3.ensures.after (λ y e. e))

pub returns-then-labels-m : goal.returns-then-labels-m
unfolding of_bits
returns-then-labels-m c =
    let A = c.args in
    gives_35 A.text.now A.points.now c.fill.new.self A.corners.now c.fill-2.new.self A.labels.now c.fill-3.new.self _ _ _ _ _ _ _ _ _ c.in-Some.ensures (λ h. omega arith) (c.fill.ensures.after (λ y e. e)) (c.fill-2.ensures.after (λ y e. e)) (c.fill-3.ensures.after (λ y e. e))

pub places-requires : goal.places-requires
places-requires c =
    (omega (arith, few-points _ _ _ _ _ _ _ _ c.read_whole.ensures _ c.in-Some.is), omega arith)

pub slice_bounds-all_corners-end : goal.slice_bounds-all_corners-end
slice_bounds-all_corners-end c = omega (arith, few-triangles _ _ _ _ _ _ _ _ c.read_whole.ensures _ c.in-Some.is)

pub slice_bounds-copy_from_slice-end-3 : goal.slice_bounds-copy_from_slice-end-3
slice_bounds-copy_from_slice-end-3 c = sym (length-take-le _ _ (omega (arith, few-triangles _ _ _ _ _ _ _ _ c.read_whole.ensures _ c.in-Some.is)))

pub copy_from_slice-requires : goal.copy_from_slice-requires
copy_from_slice-requires c = length-take-le _ _ (omega arith) ∙ sym (length-take-le _ _ (omega (arith, few-triangles _ _ _ _ _ _ _ _ c.read_whole.ensures _ c.in-Some.is)))

pub returns : goal.returns
unfolding of_bits
returns c =
    let A = c.args in
    let found = c.in-Some.found in
    let n = found.counts.points in
    let m = found.counts.triangles in
    gives_sheet A.text.now A.points.now c.places.new.points A.corners.now _ A.labels.now _ (edition_number found.edition) n m _ _ _ _ _ _ c.in-Some.ensures
    c.unit.result c.fill.new.self c.fill-2.new.self c.fill-3.new.self (omega arith) (omega arith) (omega arith) c.unit.ensures
    (c.fill.ensures.after (λ y e. e)) c.places.ensures
    (c.fill-2.ensures.after (λ y e. e)) (ap (λ (l : List ℕ). l ++ drop (m * 3) c.fill-2.new.self) c.copy_from_slice.ensures.after)
    (c.fill-3.ensures.after (λ y e. e)) (ap (λ (l : List ℕ). l ++ drop m c.fill-3.new.self) c.copy_from_slice-2.ensures.after)

-- `converting::convert` meets its contract. Assumes nothing.
use Rattle.std.proofs.Common.{rules, arith, ◌≡◌, subst, Err}
use Rattle.sheet.specs.Edition.{IsEdition}
use Rattle.sheet.specs.declared.Refusal.TheVariants.{NoSheet}
use Rattle.sheet.proofs.Editions.{is_edition}
use Rattle.sheet.specs.Contents.{contents}
use Rattle.sheet.proofs.Finding.{nothing_said, is_found, few-points, few-triangles}
use Rattle.writing.proofs.Settling.{leaves}
use Rattle.converting.proofs.Converting.{leaves_no_edition, leaves_nothing, near, leaves-conversion}
use Rattle.converting.proofs.convert.Goals as goal

pub returns-in_err-edition : goal.returns-in_err-edition
returns-in_err-edition c =
    let e : c.from_residual.result ≡ Err NoSheet = search rules in
    rw e (leaves_no_edition c.args.asked _ _ (c.fill.ensures.after (λ y e. e)) (contents c.args.text.now) c.in_err-edition.ensures.1)

pub returns-in_default : goal.returns-in_default
returns-in_default c = leaves_nothing _ _ _ (c.fill.ensures.after (λ y e. e)) _ (nothing_said _ _ _ _ _ _ _ _ c.read_whole.ensures c.in_default.is)

pub overflow_mul-n : goal.overflow_mul-n
overflow_mul-n c = omega (arith, few-points _ _ _ _ _ _ _ _ c.read_whole.ensures _ c.in-Some.is)

pub turn_all-same-requires : goal.turn_all-same-requires
turn_all-same-requires c =
    let f = is_found _ _ _ _ _ _ _ _ c.read_whole.ensures _ c.in-Some.is in
    let kept = c.read_whole.auto.coordinates in
    let g = few-points _ _ _ _ _ _ _ _ c.read_whole.ensures _ c.in-Some.is in
    (omega arith, near _ _ 0 _ _ _ _ _ _ _ _ f)

pub text-count-requires : goal.text-count-requires
text-count-requires c =
    let n = few-points _ _ _ _ _ _ _ _ c.read_whole.ensures _ c.in-Some.is in
    let m = few-triangles _ _ _ _ _ _ _ _ c.read_whole.ensures _ c.in-Some.is in
    (n, m, omega (arith, c.read_whole.auto.coordinates, c.turn_all-same.auto.coordinates), omega (arith, c.read_whole.auto.corners), omega (arith, c.read_whole.auto.labels))

pub returns : goal.returns
returns c =
    let f = is_found _ _ _ _ _ _ _ _ c.read_whole.ensures _ c.in-Some.is in
    let e = c.in_ok-edition.ensures in
    let turned = rw e at c.turn_all-same.ensures in
    leaves-conversion _ _ c.args.asked _ _ _ _ _ _ _ _ f _ _ turned (subst IsEdition e (is_edition c.in_ok-edition.edition)) _ _ _
    (leaves _ _ _ _ _ _ (c.fill.ensures.after (λ y e. e)) c.text-count.ensures _ _ _ c.settled.ensures)

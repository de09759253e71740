-- `sheet::all_points` meets its contract. The loop's invariant: `k` points have been read, their lines stand at `at`, up to `next`, and their coordinates at the start of the list.
-- Assumes nothing.
use mathlib.Core.Path.{◌≡◌, refl, sym, ap, ◌∙◌}
use mathlib.Core.List.{[], ◌∷◌, ◌++◌}
use Prim.Native.Nat.{ℕ, ◌+◌, ◌*◌, ◌<◌}
use native.Mathlib.Omega.{arith}
use lib.ListN.{length, drop, length-append}
use Rattle.sheet.specs.Sheet.{Near, point_line, coordinates_of}
use Rattle.sheet.specs.Edition.{rules_of}
use Rattle.sheet.specs.Stages.{stored_point}
use Rattle.sheet.proofs.Decimal.{every_append}
use Rattle.sheet.proofs.Lines.{point_unique, lines_more, lines_next}
use Rattle.sheet.proofs.Stores.{coordinates_more}
use Rattle.sheet.proofs.all_points.Goals as goal

pub loop-k-init : goal.loop-k-init
loop-k-init c = ([], refl, omega arith, refl, tt, refl, refl)

pub point-requires : goal.point-requires
point-requires c = omega arith

pub returns-in_err-next : goal.returns-in_err-next
returns-in_err-next c =
    let w = c.in_err-next.ensures in
    rw c.from_residual.ensures (λ qs hl he r q.
    let fewer : length c.loop-k.invariant.0 < length qs = omega (arith, c.loop-k.invariant.1, hl) in
    let z = lines_next point_line point_unique (Near (rules_of c.args.edition).most) c.loop-k.invariant.0 qs (drop c.loop-k.next c.args.text.now) r fewer he (sym c.loop-k.invariant.5 ∙ q) in
    w z.0 z.1 z.2 z.3)

pub loop-k-preserved : goal.loop-k-preserved
loop-k-preserved c =
    let w = c.in_ok-next.ensures in
    let p = w.0 in
    let ps = c.loop-k.invariant.0 in (
      ps ++ (p ∷ []),
      length-append ps (p ∷ []) ∙ ap (λ (n : ℕ). n + 1) c.loop-k.invariant.1,
      omega arith,
      c.point.auto.coordinates ∙ c.loop-k.invariant.3,
      every_append (Near (rules_of c.args.edition).most) ps (p ∷ []) c.loop-k.invariant.4 (w.1, tt),
      lines_more point_line c.args.text.now c.args.at ps p c.loop-k.next c.in_ok-next.next c.loop-k.invariant.5 w.2,
      w.3 ∙ ap (stored_point c.loop-k.k p) c.loop-k.invariant.6 ∙ coordinates_more ps p c.args.coordinates.now c.loop-k.k c.loop-k.invariant.1 (omega arith),
    )

pub returns : goal.returns
returns c =
    let all : c.loop-k.k ≡ c.args.count = omega arith in
    (c.loop-k.invariant.0, c.loop-k.invariant.1 ∙ all, c.loop-k.invariant.4, c.loop-k.invariant.5, c.loop-k.invariant.6 ∙ ap (λ (n : ℕ). coordinates_of c.loop-k.invariant.0 ++ drop (n * 3) c.args.coordinates.now) all)

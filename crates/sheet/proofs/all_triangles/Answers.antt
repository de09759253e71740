-- `sheet::all_triangles` meets its contract. The loop's invariant: `k` triangles have been read, their lines stand at `at`, up to `next`, and their corners and labels at the start of the lists.
-- Assumes nothing.
use mathlib.Core.Path.{◌≡◌, refl, sym, ap, ◌∙◌}
use mathlib.Core.List.{List, [], ◌∷◌, ◌++◌}
use Prim.Native.Nat.{ℕ, ◌+◌, ◌*◌, ◌<◌}
use native.Mathlib.Omega.{arith}
use lib.ListN.{length, drop, set, length-append}
use Rattle.sheet.specs.Sheet.{Small, triangle_line, corners_of, labels_of}
use Rattle.sheet.specs.Stages.{stored_corners}
use Rattle.sheet.proofs.Decimal.{every_append}
use Rattle.sheet.proofs.Lines.{triangle_unique, lines_more, lines_next}
use Rattle.sheet.proofs.Stores.{corners-more, labels-more}
use Rattle.sheet.proofs.all_triangles.Goals as goal

pub loop-k-init : goal.loop-k-init
loop-k-init c = ([], refl, omega arith, refl, refl, tt, refl, refl, refl)

pub triangle-requires : goal.triangle-requires
triangle-requires c = (omega arith, omega arith)

pub returns-in_err-next : goal.returns-in_err-next
returns-in_err-next c =
    let w = c.in_err-next.ensures in
    rw c.from_residual.ensures (λ qs hl he r q.
    let fewer : length c.loop-k.invariant.0 < length qs = omega (arith, c.loop-k.invariant.1, hl) in
    let z = lines_next triangle_line triangle_unique Small c.loop-k.invariant.0 qs (drop c.loop-k.next c.args.text.now) r fewer he (sym c.loop-k.invariant.6 ∙ q) in
    w z.0 z.1 z.2 z.3)

pub loop-k-preserved : goal.loop-k-preserved
loop-k-preserved c =
    let w = c.in_ok-next.ensures in
    let t = w.0 in
    let ts = c.loop-k.invariant.0 in (
      ts ++ (t ∷ []),
      length-append ts (t ∷ []) ∙ ap (λ (n : ℕ). n + 1) c.loop-k.invariant.1,
      omega arith,
      c.triangle.auto.corners ∙ c.loop-k.invariant.3,
      c.triangle.auto.labels ∙ c.loop-k.invariant.4,
      every_append Small ts (t ∷ []) c.loop-k.invariant.5 (w.1, tt),
      lines_more triangle_line c.args.text.now c.args.at ts t c.loop-k.next c.in_ok-next.next c.loop-k.invariant.6 w.2,
      w.3 ∙ ap (stored_corners c.loop-k.k t) c.loop-k.invariant.7 ∙ corners-more ts t c.args.corners.now c.loop-k.k c.loop-k.invariant.1 (omega arith),
      w.4 ∙ ap (λ (l : List ℕ). set l c.loop-k.k t.label) c.loop-k.invariant.8 ∙ labels-more ts t c.args.labels.now c.loop-k.k c.loop-k.invariant.1 (omega arith),
    )

pub returns : goal.returns
returns c =
    let all : c.loop-k.k ≡ c.args.count = omega arith in (
      c.loop-k.invariant.0,
      c.loop-k.invariant.1 ∙ all,
      c.loop-k.invariant.5,
      c.loop-k.invariant.6,
      c.loop-k.invariant.7 ∙ ap (λ (n : ℕ). corners_of c.loop-k.invariant.0 ++ drop (n * 3) c.args.corners.now) all,
      c.loop-k.invariant.8 ∙ ap (λ (n : ℕ). labels_of c.loop-k.invariant.0 ++ drop n c.args.labels.now) all,
    )

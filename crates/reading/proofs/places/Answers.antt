-- `reading::places` meets its contract. The loop's invariant: the first `k` coordinates stand as floats at the start of the list. Assumes nothing.
use mathlib.Core.Path.{◌≡◌, refl, ap, ◌∙◌}
use Prim.Native.Nat.{ℕ}
use native.Mathlib.Omega.{arith}
use lib.IntN.{ℤ, pos}
use lib.ListN.{get_or, length-set}
use Rattle.sheet.specs.Sheet.{place}
use Rattle.reading.specs.Stages.{placed_first}
use Rattle.sheet.proofs.Stores.{map_more}
use Rattle.sheet.proofs.Signs.{back}
use Rattle.reading.proofs.places.Goals as goal

pub loop-k-init : goal.loop-k-init
loop-k-init c = (omega arith, refl, refl)

pub loop-k-preserved : goal.loop-k-preserved
loop-k-preserved c =
    let z = get_or c.args.coordinates.now c.loop-k.k (pos 0) in
    (omega arith, simp length-set c.loop-k.invariant.1, map_more (place c.args.unit) c.args.coordinates.now (pos 0) c.loop-k.k c.args.points.now c.loop-k.points c.quotient.result (omega arith) (omega arith) c.loop-k.invariant.2 (c.quotient.ensures ∙ ap (λ (y : ℤ). place c.args.unit y) (back z z refl (omega arith))))

pub returns : goal.returns
returns c =
    let all : c.loop-k.k ≡ c.args.count = omega arith in
    c.loop-k.invariant.2 ∙ ap (λ (n : ℕ). placed_first c.args.unit c.args.coordinates.now n c.args.points.now) all

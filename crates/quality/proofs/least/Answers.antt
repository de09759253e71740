-- `quality::least` meets its contract: each way out is a case of `least_with`, the first by what the quick test shows.
use mathlib.Core.Path.{◌≡◌, sym, ap, ap₂, ◌∙◌}
use lib.Ieee.{Float, binary64}
use Rattle.std.specs.Prelude.{Some}
use Rattle.float.specs.Root.{root}
use Rattle.float.specs.Point.{times, dotted}
use Rattle.float.specs.declared.Point.{Point}
use Rattle.quality.specs.Quality.{over, scale, normal, squares, rated, quality, least_with}
use Rattle.quality.specs.Quick.{quality_by}
use Rattle.quality.proofs.Numbers.{least_infinite, least-low, least_kept, least-passes}
use Rattle.quality.proofs.least.Goals as goal

-- the quality by the two numbers that the calls return is the quality of the triangle
is-quality : (a b c : Point) {d sum : Float} → d ≡ dotted (normal a b c) (normal a b c) → sum ≡ squares a b c → quality_by d sum ≡ quality a b c
unfolding rated
is-quality a b c e f = ap₂ quality_by e f

-- and so is what the code computes with the root
by-root : (a b c : Point) {s r d sum : Float} → s ≡ scale → r ≡ root binary64 d → d ≡ dotted (normal a b c) (normal a b c) → sum ≡ squares a b c → over (times s r) sum ≡ quality a b c
by-root a b c {sum = sum} e f g h = ap (λ (x : Float). over x sum) (ap₂ times e f) ∙ is-quality a b c g h

pub returns-then-passes : goal.returns-then-passes
returns-then-passes c =
    let p = c.passes.ensures c.if-passes.true in
    least-passes c.args.minimum (quality_by c.normal_squared-d.result c.sides_squared-sum.result) p.kept p.same
    ∙ ap (least_with c.args.minimum) (is-quality c.args.a c.args.b c.args.c c.normal_squared-d.ensures c.sides_squared-sum.ensures)

pub returns-then-not-is_finite : goal.returns-then-not-is_finite
returns-then-not-is_finite c =
    least_infinite c.args.minimum _ (sym c.is_finite.ensures ∙ c.if-not-is_finite.true)
    ∙ ap (least_with c.args.minimum) (by-root c.args.a c.args.b c.args.c c.requires c.sqrt.ensures c.normal_squared-d.ensures c.sides_squared-sum.ensures)

pub returns-then-q : goal.returns-then-q
returns-then-q c =
    least-low c.args.minimum _ c.if-q.true
    ∙ ap (least_with c.args.minimum) (by-root c.args.a c.args.b c.args.c c.requires c.sqrt.ensures c.normal_squared-d.ensures c.sides_squared-sum.ensures)

pub returns : goal.returns
returns c =
    ap Some c.min.ensures
    ∙ least_kept c.args.minimum _ (sym c.is_finite.ensures ∙ c.if-not-is_finite.false) c.if-q.false
    ∙ ap (least_with c.args.minimum) (by-root c.args.a c.args.b c.args.c c.requires c.sqrt.ensures c.normal_squared-d.ensures c.sides_squared-sum.ensures)

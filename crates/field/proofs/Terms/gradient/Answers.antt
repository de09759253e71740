-- `field::Terms::gradient` meets its contract. After t turns the sums are those of the first t terms. Assumes nothing.
use mathlib.Core.Path.{◌≡◌, ap, ◌∙◌}
use Prim.Native.Nat.{ℕ, ◌-◌}
use native.Mathlib.Omega.{arith}
use Rattle.std.proofs.Common.{rules}
use Rattle.field.specs.Sheet.{terms, monomial, scaled, slope_x, slope_y, slope_z}
use Rattle.field.proofs.Sums.{on-top, same_point, slope_x-none, slope_x-step, slope_y-none, slope_y-step, slope_z-none, slope_z-step}
use Rattle.field.proofs.Terms.gradient.Goals as goal

pub loop-t-init : goal.loop-t-init
loop-t-init c = (c.count-t-end.ensures, slope_x-none _ _ _, slope_y-none _ _ _, slope_z-none _ _ _)

pub loop-t-preserved : goal.loop-t-preserved
loop-t-preserved c =
    let t = c.loop-t.t in
    let s = c.args.self.now in
    let m = c.term-term.result in
    let e = c.term-term.ensures in (
      c.loop-t.invariant.0,
      slope_x-step t s.coefficients.now s.powers.now c.args.p m.q m.i m.j m.k e.q e.i e.j e.k c.loop-t.x c.slope-x.result c.loop-t.invariant.1
          (on-top m.i c.loop-t.x c.slope-x.result (monomial (scaled m.q m.i) (m.i - 1) m.j m.k c.args.p) c.slope-x.ensures.none c.slope-x.ensures.one (λ w h. search rules)),
      slope_y-step t s.coefficients.now s.powers.now c.args.p m.q m.i m.j m.k e.q e.i e.j e.k c.loop-t.y c.slope-y.result c.loop-t.invariant.2
          (on-top m.j c.loop-t.y c.slope-y.result (monomial (scaled m.q m.j) m.i (m.j - 1) m.k c.args.p) c.slope-y.ensures.none c.slope-y.ensures.one (λ w h. search rules)),
      slope_z-step t s.coefficients.now s.powers.now c.args.p m.q m.i m.j m.k e.q e.i e.j e.k c.loop-t.z c.slope-z.result c.loop-t.invariant.3
          (on-top m.k c.loop-t.z c.slope-z.result (monomial (scaled m.q m.k) m.i m.j (m.k - 1) c.args.p) c.slope-z.ensures.none c.slope-z.ensures.one (λ w h. search rules)),
    )

pub returns : goal.returns
returns c =
    let s = c.args.self.now in
    let e : c.loop-t.t ≡ terms s.coefficients.now s.powers.now = omega arith in
    let ex = c.loop-t.invariant.1 ∙ ap (λ (n : ℕ). slope_x n s.coefficients.now s.powers.now c.args.p) e in
    let ey = c.loop-t.invariant.2 ∙ ap (λ (n : ℕ). slope_y n s.coefficients.now s.powers.now c.args.p) e in
    let ez = c.loop-t.invariant.3 ∙ ap (λ (n : ℕ). slope_z n s.coefficients.now s.powers.now c.args.p) e in
    same_point ex ey ez

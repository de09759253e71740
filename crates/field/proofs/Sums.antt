-- Which case of `on_top`, of the sums and of `normal` the tests of the code pick. Assumes nothing.
use mathlib.Core.Path.{◌≡◌, refl, sym, ap, ◌∙◌}
use mathlib.Core.Logic.{◌≢◌}
use Prim.Native.Nat.{ℕ, zero, suc, ◌+◌, ◌-◌, ◌≤◌}
use native.Mathlib.Numerals.{add-one}
use native.Mathlib.Omega.{arith}
use mathlib.Core.List.{List}
use lib.Ieee.{Float}
use Rattle.float.specs.declared.Point.{Point}
use Rattle.float.specs.Point.{plus, difference}
use Rattle.field.specs.Number.{plus_zero, one, minus_one}
use Rattle.field.specs.Shape.{middle, formed, shape}
use Rattle.field.specs.Sheet.{on_top, slope_x, slope_y, slope_z, value_sum, monomial, scaled, coefficient, power_x, power_y, power_z, stretched, unit, gradient, wall, normal}

-- what `slope` ensures, for a function that gives v
pub on-top : {P : Float → Type 0} (n : ℕ) (s r v : Float) → (n ≡ 0 → r ≡ s) → (n ≢ 0 → (w : Float) × P w × (r ≡ plus s w)) → ((w : Float) → P w → w ≡ v) → r ≡ on_top n s v
unfolding on_top
on-top zero s r v none some is = none refl
on-top (suc n) s r v none some is = let e = some (λ h. absurd (omega arith)) in e.2 ∙ ap (plus s) (is e.0 e.1)

-- ---- one turn of a loop over the terms: term t is q, i, j, k

module _ (t : ℕ) (qs : List Float) (ns : List ℕ) (p : Point) (q : Float) (i j k : ℕ) (eq : q ≡ coefficient qs t) (ei : i ≡ power_x ns t) (ej : j ≡ power_y ns t) (ek : k ≡ power_z ns t) where
  pub slope_x-step : (s r : Float) → s ≡ slope_x t qs ns p → r ≡ on_top i s (monomial (scaled q i) (i - 1) j k p) → r ≡ slope_x (t + 1) qs ns p
  unfolding slope_x
  slope_x-step s r e g = rw add-one (cc)

  pub slope_y-step : (s r : Float) → s ≡ slope_y t qs ns p → r ≡ on_top j s (monomial (scaled q j) i (j - 1) k p) → r ≡ slope_y (t + 1) qs ns p
  unfolding slope_y
  slope_y-step s r e g = rw add-one (cc)

  pub slope_z-step : (s r : Float) → s ≡ slope_z t qs ns p → r ≡ on_top k s (monomial (scaled q k) i j (k - 1) p) → r ≡ slope_z (t + 1) qs ns p
  unfolding slope_z
  slope_z-step s r e g = rw add-one (cc)

  pub value-step : (s v : Float) → s ≡ value_sum t qs ns p → v ≡ monomial q i j k p → plus s v ≡ value_sum (t + 1) qs ns p
  unfolding value_sum
  value-step s v e g = rw add-one (cc)

-- ---- the sums of no terms, and the cases of a normal

pub slope_x-none : (qs : List Float) (ns : List ℕ) (p : Point) → plus_zero ≡ slope_x 0 qs ns p
unfolding slope_x
slope_x-none qs ns p = refl

pub slope_y-none : (qs : List Float) (ns : List ℕ) (p : Point) → plus_zero ≡ slope_y 0 qs ns p
unfolding slope_y
slope_y-none qs ns p = refl

pub slope_z-none : (qs : List Float) (ns : List ℕ) (p : Point) → plus_zero ≡ slope_z 0 qs ns p
unfolding slope_z
slope_z-none qs ns p = refl

pub value_none : (qs : List Float) (ns : List ℕ) (p : Point) → plus_zero ≡ value_sum 0 qs ns p
unfolding value_sum
value_none qs ns p = refl

pub normal-upper : (qs : List Float) (ns : List ℕ) (p : Point) (label : ℕ) → label ≡ 0 → stretched (unit (gradient qs ns p)) one ≡ normal qs ns p label
unfolding normal
normal-upper qs ns p label e = sym (ap (normal qs ns p) e)

pub normal-lower : (qs : List Float) (ns : List ℕ) (p : Point) (label : ℕ) → label ≡ 1 → stretched (unit (gradient qs ns p)) minus_one ≡ normal qs ns p label
unfolding normal
normal-lower qs ns p label e = sym (ap (normal qs ns p) e)

pub normal-wall : (qs : List Float) (ns : List ℕ) (p : Point) (label : ℕ) → 2 ≤ label → wall label ≡ normal qs ns p label
unfolding normal
normal-wall qs ns p zero h = absurd (omega arith)
normal-wall qs ns p (suc zero) h = absurd (omega arith)
normal-wall qs ns p (suc (suc n)) h = refl

pub same_point : {x x' y y' z z' : Float} → x ≡ x' → y ≡ y' → z ≡ z' → ◌≡◌ {A = Point} (record { x = x; y = y; z = z }) (record { x = x'; y = y'; z = z' })
same_point {x} {x'} {y} {y'} {z} {z'} a b c = cc

formed-same : {e e' d d' o o' n n' : Point} → e ≡ e' → d ≡ d' → o ≡ o' → n ≡ n' → formed e d o n ≡ formed e' d' o' n'
formed-same {e} {e'} {d} {d'} {o} {o'} {n} {n'} p q r s =
    ap (λ (v : Point). formed v d o n) p ∙ ap (λ (v : Point). formed e' v o n) q ∙ ap (λ (v : Point). formed e' d' v n) r ∙ ap (formed e' d' o') s

pub shaped : (qs : List Float) (ns : List ℕ) (a b c : Point) (label : ℕ) (e d o n m : Point) (r : Float) → r ≡ formed e d o n
    → e ≡ difference b a → d ≡ difference c a → o ≡ difference c b → n ≡ normal qs ns m label → m ≡ middle a b c → r ≡ shape qs ns a b c label
unfolding shape
shaped qs ns a b c label e d o n m r f p q s t u = f ∙ formed-same p q s (t ∙ ap (λ (v : Point). normal qs ns v label) u)

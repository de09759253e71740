-- Which case of the definitions the tests of the code pick: a parameter, a half, and one turn of the search. Assumes nothing.
use mathlib.Core.Path.{◌≡◌, refl, sym, ap, ap₂, ◌∙◌}
use mathlib.Core.Bool.{Bool, true, false, not, ◌||◌, ◌&&◌, cond}
use Prim.Native.Nat.{ℕ, zero, suc, ◌+◌, ◌-◌, ◌%◌, ◌≤◌, ◌<◌}
use native.Mathlib.Omega.{arith}
use borrow.Author.Tests.{le-leb, lt-leb, eq-eqb, ne_eqb}
use lib.Ieee as Ieee
use lib.Ieee.{Float, nan, inf, fin, Format, binary64, of_bits, to_bits, neg, odd}
use Rattle.std.specs.Float.{float_signum}
use Rattle.float.specs.Order.{is_finite}
use Rattle.field.specs.Number.{plus_zero, one, minus_one}
use Rattle.lattice.specs.Values.{magnitude, tolerance}
use Rattle.solve.specs.declared.bracket.Bracket.{Bracket}
use Rattle.solve.specs.declared.Cut.TheVariants.{First, Second, At}
use Rattle.solve.specs.declared.Solved.{Solved}
use Rattle.solve.specs.Solve.{signum, same_sign, edge_scale, secant, midway, halves?, parameter, narrowed, ending, failing, from_round, first_bracket, solve}

-- ---- signs

pub signum_is : (x : Float) → float_signum x ≡ signum x
unfolding float_signum signum of_bits neg
signum_is nan = refl
signum_is (inf true) = refl
signum_is (inf false) = refl
signum_is (fin true m e) = refl
signum_is (fin false m e) = refl

-- what is read of a sign and fields has that sign, unless it is NaN
pub signum_odd : (d : ℕ) (s : Bool) (q k l : ℕ) → signum (odd d s q k l) ≡ cond s minus_one one
unfolding signum odd
signum_odd d s zero k l = refl
signum_odd d s (suc q) k l = refl

-- ---- a round's parameter

module _ (round : ℕ) (k : Bracket) where
  pub late : 12 ≤ round → midway k ≡ parameter round k
  unfolding parameter halves?
  late h = sym (rw (le-leb 12 round h) refl)

  module _ (early : round < 12) where
    pub fourth : round % 4 ≡ 3 → midway k ≡ parameter round k
    unfolding parameter halves?
    fourth h = rw (lt-leb 12 round early, eq-eqb (round % 4) 3 h) refl

    module _ (other : round % 4 ≡ 3 → ⊥) (s : Float) (es : s ≡ secant k) where
      by-secant : (f l h : Bool) → is_finite s ≡ f → Ieee.le s k.lo ≡ l → Ieee.le k.hi s ≡ h → cond (not f || (l || h)) (midway k) (secant k) ≡ parameter round k
      unfolding parameter halves?
      by-secant f l h a b c =
          rw (lt-leb 12 round early, ne_eqb (round % 4) 3 other, ap is_finite (sym es) ∙ a, ap (λ (x : Float). Ieee.le x k.lo) (sym es) ∙ b, ap (Ieee.le k.hi) (sym es) ∙ c) refl

      pub secant_not_finite : is_finite s ≡ false → midway k ≡ parameter round k
      secant_not_finite e = by-secant false (Ieee.le s k.lo) (Ieee.le k.hi s) e refl refl

      pub secant-low : is_finite s ≡ true → Ieee.le s k.lo ≡ true → midway k ≡ parameter round k
      secant-low e l = by-secant true true (Ieee.le k.hi s) e l refl

      pub secant-high : is_finite s ≡ true → Ieee.le s k.lo ≡ false → Ieee.le k.hi s ≡ true → midway k ≡ parameter round k
      secant-high e l h = by-secant true false true e l h

      pub secant-inside : is_finite s ≡ true → Ieee.le s k.lo ≡ false → Ieee.le k.hi s ≡ false → s ≡ parameter round k
      secant-inside e l h = es ∙ by-secant true false false e l h

-- ---- the half that is left

module _ (k : Bracket) (va t v : Float) where
  pub low_moves : same_sign v va ≡ true → ◌≡◌ {A = Bracket} (record { lo = t; hi = k.hi; flo = v; fhi = k.fhi }) (narrowed k va t v)
  unfolding narrowed
  low_moves e = rw e refl

  pub high_moves : same_sign v va ≡ false → ◌≡◌ {A = Bracket} (record { lo = k.lo; hi = t; flo = k.flo; fhi = v }) (narrowed k va t v)
  unfolding narrowed
  high_moves e = rw e refl

-- ---- one turn

module _ (residual : Float → Float) (limit va : Float) where
  pub turn : (left round : ℕ) (k : Bracket) (f m : Bool) → is_finite (residual (parameter round k)) ≡ f → Ieee.le (magnitude (residual (parameter round k))) limit ≡ m
      → from_round residual limit va (suc left) round k
      ≡ cond f (cond m (ending (At (parameter round k)) (round + 1)) (from_round residual limit va left (round + 1) (narrowed k va (parameter round k) (residual (parameter round k))))) (failing (round + 1))
  unfolding from_round
  turn left round k f m a b = rw (a, b) refl

  -- with as many rounds left as the loop has
  pub onward : ℕ → Bracket → Solved
  onward round k = from_round residual limit va (52 - round) round k

  more : (round : ℕ) → round < 52 → 52 - round ≡ suc (52 - (round + 1))
  more round h = omega arith

  module _ (round : ℕ) (k : Bracket) (t v : Float) (h : round < 52) (et : t ≡ parameter round k) (ev : v ≡ residual t) where
    is : v ≡ residual (parameter round k)
    is = ev ∙ ap residual et

    opened : (f m : Bool) → is_finite v ≡ f → Ieee.le (magnitude v) limit ≡ m
        → onward round k ≡ cond f (cond m (ending (At t) (round + 1)) (onward (round + 1) (narrowed k va t v))) (failing (round + 1))
    unfolding onward
    opened f m a b =
        ap (λ (n : ℕ). from_round residual limit va n round k) (more round h)
        ∙ turn (52 - (round + 1)) round k f m (ap is_finite (sym is) ∙ a) (ap (λ (x : Float). Ieee.le (magnitude x) limit) (sym is) ∙ b)
        ∙ ap₂ (λ (x y : Float). cond f (cond m (ending (At x) (round + 1)) (from_round residual limit va (52 - (round + 1)) (round + 1) (narrowed k va x y))) (failing (round + 1))) (sym et) (sym is)

    pub turn_not_finite : is_finite v ≡ false → onward round k ≡ failing (round + 1)
    turn_not_finite a = opened false (Ieee.le (magnitude v) limit) a refl

    pub turn_found : is_finite v ≡ true → Ieee.le (magnitude v) limit ≡ true → onward round k ≡ ending (At t) (round + 1)
    turn_found a b = opened true true a b

    pub turn_again : is_finite v ≡ true → Ieee.le (magnitude v) limit ≡ false → onward round k ≡ onward (round + 1) (narrowed k va t v)
    turn_again a b = opened true false a b

  pub turn_last : (round : ℕ) (k : Bracket) (t : Float) → round ≡ 52 → t ≡ midway k → onward round k ≡ ending (At t) 52
  unfolding onward from_round
  turn_last round k t h e = ap (λ (n : ℕ). onward n k) h ∙ ap (λ (x : Float). ending (At x) 52) (sym e)

pub begins : (residual : Float → Float) (limit va : Float) (k : Bracket) → onward residual limit va 0 k ≡ from_round residual limit va 52 0 k
unfolding onward
begins residual limit va k = refl

-- ---- the tests before the rounds

module _ (residual : Float → Float) (level va vb : Float) where
  by_tests : (f g x y : Bool) → is_finite va ≡ f → is_finite vb ≡ g → Ieee.eq va plus_zero ≡ x → Ieee.eq vb plus_zero ≡ y
      → cond (f && g) (cond x (ending First 0) (cond y (ending Second 0) (from_round residual (tolerance (edge_scale va vb level)) va 52 0 (first_bracket va vb)))) (failing 0) ≡ solve residual level va vb
  unfolding solve
  by_tests f g x y p q r s = rw (p, q, r, s) refl

  pub first_not_finite : is_finite va ≡ false → failing 0 ≡ solve residual level va vb
  first_not_finite p = by_tests false (is_finite vb) (Ieee.eq va plus_zero) (Ieee.eq vb plus_zero) p refl refl refl

  module _ (fa : is_finite va ≡ true) where
    pub second_not_finite : is_finite vb ≡ false → failing 0 ≡ solve residual level va vb
    second_not_finite q = by_tests true false (Ieee.eq va plus_zero) (Ieee.eq vb plus_zero) fa q refl refl

    module _ (fb : is_finite vb ≡ true) where
      pub first_on : Ieee.eq va plus_zero ≡ true → ending First 0 ≡ solve residual level va vb
      first_on r = by_tests true true true (Ieee.eq vb plus_zero) fa fb r refl

      pub second-on : Ieee.eq va plus_zero ≡ false → Ieee.eq vb plus_zero ≡ true → ending Second 0 ≡ solve residual level va vb
      second-on r s = by_tests true true false true fa fb r s

      pub in_rounds : Ieee.eq va plus_zero ≡ false → Ieee.eq vb plus_zero ≡ false → from_round residual (tolerance (edge_scale va vb level)) va 52 0 (first_bracket va vb) ≡ solve residual level va vb
      in_rounds r s = by_tests true true false false fa fb r s

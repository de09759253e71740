-- How a listed edge ends, and how many field values it takes: `solve-laws`. Assumes nothing.
use mathlib.Core.Path.{◌≡◌, refl, sym, ◌∙◌, subst}
use mathlib.Core.Logic.{inl, inr}
use mathlib.Core.Bool.{Bool, true, false, ◌&&◌, cond, true≢false}
use mathlib.Core.List.{List, [], ◌∷◌}
use Prim.Native.Nat.{ℕ, zero, suc, ◌+◌, ◌≤◌, zero-le, suc-le-suc}
use native.Mathlib.Nat.{add-zero, zero-add}
use native.Mathlib.Omega.{arith}
use lib.Dec.{T}
use lib.ListN.{length}
use lib.Ieee.{Float, binary64, fits, le, eq}
use Rattle.float.specs.Point.{less}
use Rattle.float.specs.Order.{is_finite}
use Rattle.field.specs.Number.{plus_zero}
use Rattle.lattice.specs.Values.{magnitude, tolerance}
use Rattle.solve.specs.declared.bracket.Bracket.{Bracket}
use Rattle.solve.specs.declared.Cut.TheVariants.{First, Second, At}
use Rattle.solve.specs.declared.Solved.{Solved}
use Rattle.solve.specs.Solve.{same_sign, edge_scale, parameter, narrowed, ending, failing, from_round, first_bracket, solve}
use Rattle.solve.specs.Laws.{CrossedValues, Bracketed, SearchEnds, EdgeEnds, tried, parameters, SolveLaws}
use Rattle.solve.proofs.Turns.{first_not_finite, second_not_finite, first_on, second-on, in_rounds}
use Rattle.solve.proofs.Signs.{bracketed}
use Rattle.solve.proofs.Residuals.{Nonzero, limit-plus}
use Rattle.solve.proofs.Zeros.{on_level}
use Rattle.solve.proofs.Ends.{rounds_end, begins}

-- ---- how it ends

module _ (residual : Float → Float) (first second level : Float) (listed : CrossedValues first second level) (hf : T (fits binary64 first)) (hs : T (fits binary64 second)) (hl : T (fits binary64 level)) where
  answered : EdgeEnds residual first second level (solve residual level (less first level) (less second level))
  answered = go (is_finite va) refl (is_finite vb) refl (eq va plus_zero) refl (eq vb plus_zero) refl
    where
      va : Float
      va = less first level

      vb : Float
      vb = less second level

      limit : Float
      limit = tolerance (edge_scale va vb level)

      apart : eq va plus_zero ≡ false → eq vb plus_zero ≡ false → Bracketed va vb → same_sign va vb ≡ false
      apart p q (inl z) = absurd (true≢false (sym z ∙ p))
      apart p q (inr (inl z)) = absurd (true≢false (sym z ∙ q))
      apart p q (inr (inr e)) = e

      ends : Nonzero va → Nonzero vb → SearchEnds residual limit va vb (from_round residual limit va 52 0 (first_bracket va vb))
      ends p q =
          rounds_end residual limit va vb (limit-plus va vb level) p.finite 52 0 (first_bracket va vb) refl
          (begins residual limit va vb p q (apart p.other q.other (bracketed first second level listed)))

      go : (f : Bool) → is_finite va ≡ f → (g : Bool) → is_finite vb ≡ g → (x : Bool) → eq va plus_zero ≡ x → (y : Bool) → eq vb plus_zero ≡ y → EdgeEnds residual first second level (solve residual level va vb)
      go false p g q x r y s = inr (inr (inl (record { fails = inl p; is = sym (first_not_finite residual level va vb p) })))
      go true p false q x r y s = inr (inr (inl (record { fails = inr q; is = sym (second_not_finite residual level va vb p q) })))
      go true p true q true r y s = inl (record { on = on_level first level hf hl listed.first-finite listed.level_finite r; is = sym (first_on residual level va vb p q r) })
      go true p true q false r true s = inr (inl (record { on = on_level second level hs hl listed.second-finite listed.level_finite s; is = sym (second-on residual level va vb p q r s) }))
      go true p true q false r false s =
          inr (inr (inr (subst (SearchEnds residual limit va vb) (in_rounds residual level va vb p q r s) (ends (record { finite = p; other = r }) (record { finite = q; other = s })))))

-- ---- the count is that of the parameters tried

-- round values were taken before, and at most left more
abbrev Counts : ℕ → ℕ → Solved → List Float → Type 0
Counts left round s ts = (s.taken ≡ round + length ts) × (length ts ≤ left)

module _ (residual : Float → Float) (limit va : Float) where
  rounds-counted : (left round : ℕ) (k : Bracket) → Counts left round (from_round residual limit va left round k) (tried residual limit va left round k)
  unfolding from_round tried
  rounds-counted zero round k = (sym (add-zero round), zero-le)
  rounds-counted (suc left) round k = go (rounds-counted left (round + 1) (narrowed k va t v)) (is_finite v) (le (magnitude v) limit)
    where
      t : Float
      t = parameter round k

      v : Float
      v = residual t

      s : Solved
      s = from_round residual limit va left (round + 1) (narrowed k va t v)

      ts : List Float
      ts = tried residual limit va left (round + 1) (narrowed k va t v)

      one_more : (n l : ℕ) → n ≡ round + 1 + l → n ≡ round + suc l
      one_more n l e = omega arith

      go : Counts left (round + 1) s ts → (f m : Bool) → Counts (suc left) round (cond f (cond m (ending (At t) (round + 1)) s) (failing (round + 1))) (t ∷ cond f (cond m [] ts) [])
      go again false m = (refl, suc-le-suc zero-le)
      go again true true = (refl, suc-le-suc zero-le)
      go again true false = (one_more s.taken (length ts) again.0, suc-le-suc again.1)

module _ (residual : Float → Float) (level va vb : Float) where
  solve-counted : Counts 52 0 (solve residual level va vb) (parameters residual level va vb)
  unfolding solve parameters
  solve-counted = go (is_finite va && is_finite vb) (eq va plus_zero) (eq vb plus_zero)
    where
      limit : Float
      limit = tolerance (edge_scale va vb level)

      go : (f x y : Bool)
          → Counts 52 0 (cond f (cond x (ending First 0) (cond y (ending Second 0) (from_round residual limit va 52 0 (first_bracket va vb)))) (failing 0))
          (cond f (cond x [] (cond y [] (tried residual limit va 52 0 (first_bracket va vb)))) [])
      go false x y = (refl, zero-le)
      go true true y = (refl, zero-le)
      go true false true = (refl, zero-le)
      go true false false = rounds-counted residual limit va 52 0 (first_bracket va vb)

  counted : (solve residual level va vb).taken ≡ length (parameters residual level va vb)
  counted = solve-counted.0 ∙ zero-add (length (parameters residual level va vb))

  few : (solve residual level va vb).taken ≤ 52
  few = subst (λ (n : ℕ). n ≤ 52) (sym counted) solve-counted.1

pub solve-laws : SolveLaws
solve-laws = record { bracketed = bracketed; answered = answered; counted = counted; few = few }

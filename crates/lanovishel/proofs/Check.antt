-- Calls of `lanovishel_check` beside the Rust's `validate`: a call answers 0 with two numbers just where the verdict accepts with them, and of the verdict it is `validate_original` of `checking`.
use Prim.Native.Nat.{ℕ}
use mathlib.Core.Path.{◌≡◌, sym, ap, ◌∙◌, subst}
use mathlib.Core.Logic.{◌↔◌}
use mathlib.Core.List.{List, [], ◌∷◌}
use lib.Ieee.{Float}
use Rattle.questions.proofs.Counted.{lent-passed}
use Rattle.checking.specs.Verdict as verdict
use Rattle.checking.specs.Verdict.{Verdict, number_of, quality_of, volume_of}
use Rattle.checking.specs.Validate.{validated}
use Rattle.checking.specs.Original.{Ok, original_of, Lendable, EqualsOriginal}
use Rattle.checking.proofs.Laws.{accepted-lent}
use Rattle.checking.proofs.Original.{validate_original}
use Rattle.lanovishel.specs.Check.{Checked, CheckOriginal}
use Rattle.lanovishel.proofs.Volume.{accepted}

-- a surface that is accepted has lists of the right sizes
lendable : (points : List Float) (corners labels work : List ℕ) (quality volume : Float) → validated points corners labels work ≡ verdict.accepted quality volume → Lendable points corners work
lendable points corners labels work quality volume e =
    let c = (lent-passed points corners labels work (accepted-lent points corners labels work quality volume e)).0 in
    record { points_in_threes = c.points; corners_in_threes = c.corners; few-points = c.few-points; few-triangles = c.few-triangles; enough-words = c.room }

zero : (points : List Float) (corners labels work work' place' : List ℕ) (quality volume : Float) → Checked points corners labels work work' (quality ∷ volume ∷ []) place' 0 → original_of points corners labels ≡ Ok quality volume
zero points corners labels work work' place' quality volume k =
    let e = accepted points corners labels work quality volume k.answer k.values in
    ((validate_original points corners labels work (lendable points corners labels work quality volume e)).ok quality volume).1 e

module _ (points : List Float) (corners labels work work' : List ℕ) (numbers' : List Float) (place' : List ℕ) (number : ℕ) (k : Checked points corners labels work work' numbers' place' number) where
  answers : (quality volume : Float) → (validated points corners labels work ≡ verdict.accepted quality volume) ↔ ((number ≡ 0) × (numbers' ≡ quality ∷ volume ∷ []))
  answers quality volume = (
    (λ e. (k.answer ∙ ap number_of e, k.values ∙ ap (λ (v : Verdict). quality_of v ∷ volume_of v ∷ []) e)),
    λ p. accepted points corners labels work quality volume (sym p.0 ∙ k.answer) (sym p.1 ∙ k.values),
  )

  each : Lendable points corners work → EqualsOriginal points corners labels (λ quality volume. (number ≡ 0) × (numbers' ≡ quality ∷ volume ∷ [])) number
  each lends =
      let e = subst (EqualsOriginal points corners labels (λ quality volume. validated points corners labels work ≡ verdict.accepted quality volume)) (sym k.answer) (validate_original points corners labels work lends) in
      record {
        ok = λ quality volume. let f = e.ok quality volume in let g = answers quality volume in ((λ o. g.0 (f.0 o)), λ p. f.1 (g.1 p));
        arrays = e.arrays;
        index = e.index;
        degenerate = e.degenerate;
        manifold = e.manifold;
        volume = e.volume;
        panics = e.panics;
      }

pub check-original : CheckOriginal
check-original = record { zero = zero; each = λ points corners labels work work' numbers' place' number lends k. each points corners labels work work' numbers' place' number k lends }

-- The cases of a call: what checking refused, question 47, and the price. Assumes nothing.
use Prim.Native.Nat.{ℕ}
use mathlib.Core.Path.{◌≡◌, refl, sym, ap, ◌∙◌}
use mathlib.Core.Bool.{Bool, true, false, ◌&&◌, cond, false≢true}
use mathlib.Core.List.{List}
use native.Mathlib.Omega.{arith}
use lib.Ieee.{Float}
use Rattle.questions.specs.Questions.{work_after}
use Rattle.questions.specs.declared.Refusal.{Refusal}
use Rattle.checking.specs.declared.Measures.{Measures}
use Rattle.checking.specs.Verdict.{number_of as number, Verdict}
use Rattle.questions.specs.declared.Refusal.TheVariants as refusal
use Rattle.checking.specs.Validate.{validated, Validated}
use Rattle.checking.proofs.Laws.{refused-some}
use Rattle.units.specs.Units.{AllOnUnits, all_on_units?}
use Rattle.units.proofs.Tests.{all-on-units_iff}
use Rattle.volume.specs.Exact.{Measurable}
use Rattle.volume.proofs.Accepted.{measurable}
use Rattle.price.specs.Tariff.{tariff?, Tariff}
use Rattle.price.specs.Quote.{Quote, number_of, cents_of, surface_cents, after_checking, quoted, Quoted}
use Rattle.price.proofs.Rules.{tariff_iff}
use Rattle.std.specs.Prelude.{Ok, Err}

abbrev priced? : Quote → Bool
priced? (Ok c) = true
priced? (Err why) = false

no_price : {why : Refusal} {c : ℕ} → Err why ≡ Ok c → ⊥
no_price e = false≢true (ap priced? e)

module _ (points : List Float) (corners labels work uppers prices : List ℕ) where
  by-verdict : (v : Verdict) → validated points corners labels work ≡ v → quoted points corners labels work uppers prices ≡ after_checking points corners uppers prices v
  unfolding quoted
  by-verdict v e = ap (after_checking points corners uppers prices) e

  by_tests : (m : Measures) {a b : Bool} → all_on_units? points ≡ a → tariff? uppers prices ≡ b
      → after_checking points corners uppers prices (Ok m) ≡ cond (a && b) (Ok (surface_cents points corners uppers prices)) (Err refusal.Tariff)
  unfolding after_checking
  by_tests m p q = λ i. cond (p i && q i) (Ok (surface_cents points corners uppers prices)) (Err refusal.Tariff)

  by_refusal : (why : Refusal) → validated points corners labels work ≡ Err why → quoted points corners labels work uppers prices ≡ Err why
  unfolding after_checking
  by_refusal why e = by-verdict (Err why) e

  pub by_question : (m : Measures) → validated points corners labels work ≡ Ok m → {a b : Bool} → all_on_units? points ≡ a → tariff? uppers prices ≡ b
      → quoted points corners labels work uppers prices ≡ cond (a && b) (Ok (surface_cents points corners uppers prices)) (Err refusal.Tariff)
  by_question m e p q = by-verdict (Ok m) e ∙ by_tests m p q

  -- ---- the ends of `price`

  module _ {work' : List ℕ} {v : Verdict} (h : Validated points corners labels work work' v) where
    pub at-refused : (why : Refusal) → v ≡ Err why → Quoted points corners labels work work' uppers prices (Err why)
    at-refused why e = record {
      answer = sym (by_refusal why (sym h.answer ∙ e));
      words = h.words ∙ ap (λ (x : Verdict). work_after (number x) points corners work) e;
    }

    module _ (m : Measures) (e : v ≡ Ok m) where
      words : work' ≡ work_after 0 points corners work
      words = h.words ∙ ap (λ (x : Verdict). work_after (number x) points corners work) e

      pub measured : AllOnUnits points → Measurable points corners
      measured on = measurable points corners labels work m.quality m.volume (sym h.answer ∙ e) on

      asked : {a b : Bool} → all_on_units? points ≡ a → tariff? uppers prices ≡ b → quoted points corners labels work uppers prices ≡ cond (a && b) (Ok (surface_cents points corners uppers prices)) (Err refusal.Tariff)
      asked = by_question m (sym h.answer ∙ e)

      pub at-points : all_on_units? points ≡ false → Quoted points corners labels work work' uppers prices (Err refusal.Tariff)
      at-points p = record { answer = sym (asked p refl); words = words }

      pub at-tariff : all_on_units? points ≡ true → tariff? uppers prices ≡ false → Quoted points corners labels work work' uppers prices (Err refusal.Tariff)
      at-tariff p q = record { answer = sym (asked p q); words = words }

      pub at_price : all_on_units? points ≡ true → tariff? uppers prices ≡ true → (c : ℕ) → c ≡ surface_cents points corners uppers prices → Quoted points corners labels work work' uppers prices (Ok c)
      at_price p q c d = record { answer = ap Ok d ∙ sym (asked p q); words = words }

  -- ---- what a call comes to

  -- checking accepts, the coordinates are on whole units, and the price sheet keeps the rules
  pub record HasPrice : Type 0 where
    pub measures : Measures
    pub accepted : validated points corners labels work ≡ Ok measures
    pub units : AllOnUnits points
    pub tariff : Tariff uppers prices

  data Ends : Type 0 where
    by_checking : (why : Refusal) → validated points corners labels work ≡ Err why → quoted points corners labels work uppers prices ≡ Err why → Ends
    by_47 : quoted points corners labels work uppers prices ≡ Err refusal.Tariff → Ends
    with_price : HasPrice → quoted points corners labels work uppers prices ≡ Ok (surface_cents points corners uppers prices) → Ends

  ends : Ends
  ends = go (validated points corners labels work) refl
    where
      tests : (m : Measures) → validated points corners labels work ≡ Ok m → (a : Bool) → all_on_units? points ≡ a → (b : Bool) → tariff? uppers prices ≡ b → Ends
      tests m e true p true t = with_price (record { measures = m; accepted = e; units = (all-on-units_iff points).0 p; tariff = (tariff_iff uppers prices).0 t }) (by_question m e p t)
      tests m e true p false t = by_47 (by_question m e p t)
      tests m e false p b t = by_47 (by_question m e p t)

      go : (v : Verdict) → validated points corners labels work ≡ v → Ends
      go (Ok m) e = tests m e (all_on_units? points) refl (tariff? uppers prices) refl
      go (Err why) e = by_checking why e (by_refusal why e)

  pub has_price : (c : ℕ) → quoted points corners labels work uppers prices ≡ Ok c → HasPrice × (c ≡ surface_cents points corners uppers prices)
  has_price c q = go ends
    where
      go : Ends → HasPrice × (c ≡ surface_cents points corners uppers prices)
      go (by_checking why e p) = absurd (no_price (sym p ∙ q))
      go (by_47 p) = absurd (no_price (sym p ∙ q))
      go (with_price h p) = let s : Ok c ≡ Ok (surface_cents points corners uppers prices) = sym q ∙ p in (h, cc)

  -- 0 is answered only where there is a price
  pub zero_priced : number_of (quoted points corners labels work uppers prices) ≡ 0 → quoted points corners labels work uppers prices ≡ Ok (cents_of (quoted points corners labels work uppers prices))
  zero_priced z = go ends
    where
      go : Ends → quoted points corners labels work uppers prices ≡ Ok (cents_of (quoted points corners labels work uppers prices))
      go (by_checking why e p) = absurd (refused-some points corners labels work why e (ap number_of (sym p) ∙ z))
      go (by_47 p) = let n : number_of (Err refusal.Tariff) ≡ 0 = ap number_of (sym p) ∙ z in absurd (omega arith)
      go (with_price h p) = p ∙ ap (λ (q : Quote). Ok (cents_of q)) (sym p)

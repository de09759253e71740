-- The answer of every call (document 02, F-14): checking's questions, then 47 for coordinates that are not whole units in range, or for a price sheet that breaks the rules; else the price. Definitions only.
use Rattle.std.specs.Prelude.{ℕ, ◌≡◌, ◌&&◌, cond, List, [], ◌∷◌, Float, Ok, Err, Result}
use Rattle.surface.specs.Check.{every}
use Rattle.questions.specs.Questions.{work_after}
use Rattle.questions.specs.Refusal.{refusal_number, refusal_place}
use Rattle.questions.specs.declared.Refusal.TheVariants as refusal
use Rattle.questions.specs.declared.Refusal.{Refusal}
use Rattle.checking.specs.Validate.{validated}
use Rattle.units.specs.Units.{all_on_units?, units_at}
use Rattle.volume.specs.Volume.{six_of}
use Rattle.price.specs.Price.{sum_of_steps, cents}
use Rattle.price.specs.Tariff.{tariff?}
use Rattle.checking.specs.Verdict.{Verdict}

-- the price in cents, or why there is none
abbrev pub Quote : Type 0
Quote = Result ℕ Refusal

-- 0 where there is a price, else the number of the refusal
abbrev pub number_of : Quote → ℕ
number_of (Ok cents) = 0
number_of (Err why) = refusal_number why

-- the price, and 0 where there is none
abbrev pub cents_of : Quote → ℕ
cents_of (Ok cents) = cents
cents_of (Err why) = 0

-- the place of the refusal, 0 0 but for a finding
abbrev pub place_of : Quote → List ℕ
place_of (Ok cents) = 0 ∷ 0 ∷ []
place_of (Err why) = refusal_place why

-- the price of the exact volume, which is measured from point 0
abbrev pub surface_cents : List Float → (corners uppers prices : List ℕ) → ℕ
surface_cents points corners uppers prices = cents (six_of points corners (units_at points 0)) uppers prices

-- question 47, where checking accepts
unfoldable pub after_checking : List Float → (corners uppers prices : List ℕ) → Verdict → Quote
unfolding every tariff? sum_of_steps
after_checking points corners uppers prices (Err why) = Err why
after_checking points corners uppers prices (Ok m) =
    cond (all_on_units? points && tariff? uppers prices) (Ok (surface_cents points corners uppers prices)) (Err refusal.Tariff)

unfoldable pub quoted : List Float → (corners labels work uppers prices : List ℕ) → Quote
unfolding validated after_checking
quoted points corners labels work uppers prices = after_checking points corners uppers prices (validated points corners labels work)

-- what `price` promises of every call: its answer and the work words
pub record Quoted (points : List Float) (corners labels work work' uppers prices : List ℕ) (quote : Quote) : Type 0 where
  pub answer : quote ≡ quoted points corners labels work uppers prices
  pub words : work' ≡ work_after (number_of quote) points corners work

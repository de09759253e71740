-- `lanovishel::lanovishel_nearest` meets its contract: it hands on what `nearest` answers. Assumes nothing.
use Prim.Native.Nat.{ℕ, ◌/◌, ◌%◌, ◌^◌, ◌≤◌}
use mathlib.Core.Path.{◌≡◌, refl, sym, ap, ◌∙◌}
use mathlib.Core.List.{List, [], ◌∷◌}
use native.Mathlib.Omega.{arith}
use lib.ListN.{length}
use lib.Ieee.{Float}
use Rattle.questions.specs.Questions.{work_after}
use Rattle.questions.specs.Refusal.{Asked, asked_number}
use Rattle.std.specs.Prelude.{Ok}
use Rattle.nearest.specs.Call.{places_filled, answers_after, Replies}
use Rattle.nearest.proofs.Questions.{admitted}
use Rattle.lanovishel.specs.Nearest.{NearestCall}
use Rattle.lanovishel.proofs.lanovishel_nearest.Goals as goal

module _ {points : List Float} {corners labels work work' : List ℕ} {probes : List Float} {answers answers' : List ℕ} {r q : Asked} (d : Replies points corners labels work work' probes answers answers' r) (e : r ≡ q) where
  handed : {number count : ℕ} → number ≡ asked_number q → count ≡ places_filled q probes → NearestCall points corners labels work probes answers work' answers' (count ∷ []) number
  handed n c = record {
    answer = n ∙ ap asked_number (sym e ∙ d.answer);
    count = ap (λ (k : ℕ). k ∷ []) (c ∙ ap (λ (a : Asked). places_filled a probes) (sym e ∙ d.answer));
    places = d.places ∙ ap (λ (a : Asked). answers_after a points corners probes answers) d.answer;
    words = d.words ∙ ap (λ (a : Asked). work_after (asked_number a) points corners work) e ∙ ap (λ (k : ℕ). work_after k points corners work) (sym n);
  }

  -- at most 64 probes pass
  whole-count : q ≡ Ok tt → {count : ℕ} → count ≡ length probes / 3 % 2 ^ 32 → count ≡ length probes / 3
  whole-count p c = c ∙ small (length probes / 3) (admitted points corners labels work probes (length answers) (sym d.answer ∙ e ∙ p)).askable.few
    where
      small : (n : ℕ) → n ≤ 64 → n % 2 ^ 32 ≡ n
      small n h = omega arith

pub returns-in-Ok : goal.returns-in-Ok
returns-in-Ok c =
    handed c.nearest.ensures c.in-Ok.is refl (whole-count c.nearest.ensures c.in-Ok.is refl c.low_word.ensures)

-- Document 01's number and values for each case of a verdict, and document 02's place. Definitions only.
use Rattle.std.specs.Prelude.{ℕ, List, [], ◌∷◌, Float, Result, Ok, Err}
use Rattle.questions.specs.Refusal.{refusal_number, refusal_place}
use Rattle.questions.specs.declared.Refusal.{Refusal}
use Rattle.quality.specs.Quality.{number}
use Rattle.checking.specs.declared.Measures.{Measures}

-- accepted with the smallest quality and the volume, or refused
abbrev pub Verdict : Type 0
Verdict = Result Measures Refusal

abbrev pub accepted : Float → Float → Verdict
accepted quality volume = Ok (record { quality = quality; volume = volume })

-- 0 where the surface is accepted, else the number of the refusal
abbrev pub number_of : Verdict → ℕ
number_of (Ok measures) = 0
number_of (Err why) = refusal_number why

-- the smallest quality and the volume, and 0 and 0 where the surface is refused
abbrev pub quality_of : Verdict → Float
quality_of (Ok measures) = measures.quality
quality_of (Err why) = number 0

abbrev pub volume_of : Verdict → Float
volume_of (Ok measures) = measures.volume
volume_of (Err why) = number 0

-- the place of the refusal, 0 0 but for a finding
abbrev pub place_of : Verdict → List ℕ
place_of (Ok measures) = 0 ∷ 0 ∷ []
place_of (Err why) = refusal_place why

-- The answer of every call (document 02, F-9): editing's questions up to 12, then 40 and 41; else the list. Definitions only.
use Rattle.std.specs.Prelude.{ℕ, ◌-◌, ◌*◌, ◌/◌, ◌≡◌, Result, Ok, Err, List, [], ◌∷◌, ◌++◌, leb, ℤ, length, replicate, Float}
use Rattle.surface.specs.Check.{every}
use Rattle.questions.specs.Questions.{ask, and_then, surface_questions, work_after}
use Rattle.questions.specs.Refusal.{Asked, refusal_number, refusal_place}
use Rattle.questions.specs.declared.Refusal.{Refusal}
use Rattle.questions.specs.declared.Refusal.TheVariants.{Height, OutlineRoom}
use Rattle.outlines.specs.Crossing.{crossings}
use Rattle.outlines.specs.Outline.{place_words}
use Rattle.layers.specs.Layer.{layered?, layer_crossings, layer_loops, layer_outlines}
use Rattle.layers.specs.declared.Layer.{Layer}

-- Are there as many list places, three words each, as crossed sides?
abbrev pub places_question : (points : List Float) (corners : List ℕ) (height : ℤ) (words : ℕ) → Asked
places_question points corners height words = ask (leb (length (layer_crossings points corners height)) (words / 3)) OutlineRoom (Ok tt)

unfoldable pub layer_questions : (points : List Float) (corners : List ℕ) (height : ℤ) (words : ℕ) → Asked
unfolding every crossings
layer_questions points corners height words = ask (layered? points height) Height (places_question points corners height words)

unfoldable pub outline_questions : (points : List Float) (corners labels work : List ℕ) (height : ℤ) (words : ℕ) → Asked
unfolding surface_questions layer_questions
outline_questions points corners labels work height words = and_then (surface_questions points corners labels work) (layer_questions points corners height words)

-- what the questions come to: as many places filled as sides are crossed, and the number of loops; or the refusal
abbrev pub after_questions : List Float → List ℕ → ℤ → Asked → Result Layer Refusal
after_questions points corners height (Ok x) = Ok (record { places = length (layer_crossings points corners height); loops = length (layer_loops points corners height) })
after_questions points corners height (Err why) = Err why

abbrev pub layer_of : (points : List Float) (corners labels work : List ℕ) (height : ℤ) (words : ℕ) → Result Layer Refusal
layer_of points corners labels work height words = after_questions points corners height (outline_questions points corners labels work height words)

-- 0 where the outlines are listed, else the number of the refusal
abbrev pub layer_number : Result Layer Refusal → ℕ
layer_number (Ok layer) = 0
layer_number (Err why) = refusal_number why

-- places filled and loops, both 0 after a refusal
abbrev pub layer_counts : Result Layer Refusal → List ℕ
layer_counts (Ok layer) = layer.places ∷ layer.loops ∷ []
layer_counts (Err why) = 0 ∷ 0 ∷ []

-- the place of the refusal, 0 0 but for a finding
abbrev pub layer_place : Result Layer Refusal → List ℕ
layer_place (Ok layer) = 0 ∷ 0 ∷ []
layer_place (Err why) = refusal_place why

-- the list: the outlines, and 0 behind; all 0 after a refusal
abbrev pub list_after : Result Layer Refusal → List Float → List ℕ → ℤ → List ℕ → List ℕ
list_after (Ok layer) points corners height list = place_words (layer_outlines points corners height) ++ replicate (length list - 3 * layer.places) 0
list_after (Err why) points corners height list = replicate (length list) 0

-- what `outlines` promises of every call: its answer, the list and the work words
pub record LayerCall (points : List Float) (corners labels work work' : List ℕ) (height : ℤ) (list list' : List ℕ) (layer : Result Layer Refusal) : Type 0 where
  pub answer : layer ≡ layer_of points corners labels work height (length list)
  pub places : list' ≡ list_after layer points corners height list
  pub words : work' ≡ work_after (layer_number layer) points corners work

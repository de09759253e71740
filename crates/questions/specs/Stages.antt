-- What the private functions are handed and what they leave. p is the number of points.
use Rattle.std.specs.Prelude.{ℕ, ◌+◌, ◌*◌, ◌-◌, ◌/◌, ◌%◌, ◌<◌, ◌≤◌, ◌≡◌, Bool, List, length, drop, Float, Ok}
use Rattle.surface.specs.Triangle.{triangles}
use Rattle.surface.specs.Check.{differ?}
use Rattle.halfedges.specs.Place.{at}
use Rattle.closing.specs.Closing.{needed as lent, Zeroed}
use Rattle.surface.specs.Check.{every}
use Rattle.float.specs.Order.{is_finite}
use Rattle.questions.specs.Questions.{ask, and_then, lent_questions, known?, listed?, unopposed?, further_questions}
use Rattle.questions.specs.Refusal.{Asked, asked_number}
use Rattle.questions.specs.declared.Refusal.TheVariants.{NotFinite, Label, CornerMissing, SameCorner, OpposedLabels}

-- questions 1 to 3 are asked, and question 4 is left
pub record FirstThree (points : List Float) (corners labels work : List ℕ) (asked : Asked) : Type 0 where
  pub answer : lent_questions points corners labels work ≡ and_then asked (ask (every is_finite points) NotFinite (Ok tt))
  pub early : asked_number asked ≤ 3

-- lists that pass questions 1 to 3
pub record Sized (corners labels : List ℕ) (p : ℕ) (work : List ℕ) : Type 0 where
  pub thirds : length corners % 3 ≡ 0
  pub few : length corners ≤ 98304
  pub labelled : length labels ≡ length corners / 3
  pub points : p ≤ 32768
  pub room : lent corners p ≤ length work

-- and 9 and 5
pub record Listed (corners labels : List ℕ) (p : ℕ) (work : List ℕ) : Type 0 where
  pub sized : Sized corners labels p work
  pub known : (i : ℕ) → i < length labels → at labels i ≤ 7
  pub below : (k : ℕ) → k < length corners → at corners k < p

-- the label opposed to l: 1 to 0, 0 to 1, 3 to 2 and so on; and the word for the corner v and the label l
abbrev pub opp : ℕ → ℕ
opp l = (l + 1) - 2 * (l % 2)

abbrev pub slot : ℕ → ℕ → ℕ
slot v l = v * 8 + l

-- question 11 is decided, and the words from n on are as they were
pub record Marked (corners labels : List ℕ) (n : ℕ) (work work' : List ℕ) (r : Bool) : Type 0 where
  pub answer : r ≡ unopposed? corners labels
  pub far : drop n work' ≡ drop n work

-- questions 9, 5, 10 and 11 are asked
pub record BeforeRules (corners labels : List ℕ) (p : ℕ) (work work' : List ℕ) (asked : Asked) : Type 0 where
  pub answer : asked ≡ ask (known? labels) Label (ask (listed? p corners) CornerMissing (ask (every differ? (triangles corners)) SameCorner (ask (unopposed? corners labels) OpposedLabels (Ok tt))))
  pub far : drop (lent corners p) work' ≡ drop (lent corners p) work

-- and then the rules
pub record Further (corners labels : List ℕ) (p : ℕ) (work work' : List ℕ) (asked : Asked) : Type 0 where
  pub answer : asked ≡ further_questions p corners labels
  pub words : Zeroed corners p work work'

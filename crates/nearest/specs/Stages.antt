-- What the private functions are handed and what they leave. Definitions only.
use Rattle.std.specs.Prelude.{ℕ, ◌*◌, ◌/◌, ◌≤◌, ◌<◌, ◌≡◌, Bool, not, cond, List, ◌++◌, eqb, pos, nat_abs, length, get_or, drop, set, Float, Option, None, Some, ⊤}
use Rattle.std.specs.Float.Ieee.{le}
use Rattle.halfedges.specs.Place.{at}
use Rattle.closing.specs.Closing.{Zeroed}
use Rattle.rounding.specs.Fraction.{Is, wholes}
use Rattle.questions.specs.Questions.{lent_words}
use Rattle.units.specs.Units.{AllOnUnits, units_at}
use Rattle.nearest.specs.declared.Candidate.{Candidate}
use Rattle.nearest.specs.Nearest.{apart, Best, nobody, found, best, places, answered}
use Rattle.nearest.specs.Call.{nearest_questions}
use Rattle.questions.specs.Refusal.{Asked}

-- after the questions: where one refuses, the work words are as after its number
pub record Asks (points : List Float) (corners labels work work' : List ℕ) (probes : List Float) (room : ℕ) (asked : Asked) : Type 0 where
  pub answer : asked ≡ nearest_questions points corners labels work probes room
  pub words : work' ≡ lent_words asked points corners work

-- the corners whose chain has a head, a word that is not 0; and the best of them below n for the probe i
abbrev pub has_head : List ℕ → ℕ → Bool
has_head work v = not (eqb (at work v) 0)

abbrev pub best_of : List Float → List ℕ → List Float → ℕ → ℕ → Best
best_of points work probes i n = best (has_head work) (λ (v : ℕ). apart (units_at points v) (units_at probes i)) n

-- the better of the best so far and the corner v: only a smaller distance is better
abbrev pub closer_of : Option Candidate → ℕ → Float → Option Candidate
closer_of None v d = Some (record { corner = v; distance = d })
closer_of (Some c) v d = cond (le c.distance d) (Some c) (Some (record { corner = v; distance = d }))

-- the list of bests, after the corner v met that of the probe i
abbrev pub considered : Option Candidate → ℕ → Float → ℕ → List (Option Candidate) → List (Option Candidate)
considered None v d i bests = set bests i (Some (record { corner = v; distance = d }))
considered (Some c) v d i bests = cond (le c.distance d) bests (set bests i (Some (record { corner = v; distance = d })))

-- how it is kept meanwhile: the corner, and the squared distance as a value of f64
pub record Kept (v d : ℕ) (c : Candidate) : Type 0 where
  pub named : c.corner ≡ v
  pub far : Is c.distance (pos d) 1048576

abbrev pub BestKept : Best → Option Candidate → Type 0
BestKept nobody None = ⊤
BestKept nobody (Some c) = ⊥
BestKept (found v d) None = ⊥
BestKept (found v d) (Some c) = Kept v d c

-- lists on whole units, words for the points, and places for the best of each probe
pub record Laid (points : List Float) (work : List ℕ) (probes : List Float) (bests : List (Option Candidate)) : Type 0 where
  pub whole-points : AllOnUnits points
  pub whole_probes : AllOnUnits probes
  pub words : length points / 3 ≤ length work
  pub places : length probes / 3 ≤ length bests

-- each probe's best of the corners below n is kept
abbrev pub BestsKept : List Float → List ℕ → List Float → ℕ → List (Option Candidate) → Type 0
BestsKept points work probes n bests = (i : ℕ) → i < length probes / 3 → BestKept (best_of points work probes i n) (get_or bests i None)

-- a squared distance in f64, as a whole number of (1/1024)^2
abbrev pub in_squares : Float → ℕ
in_squares d = nat_abs (wholes 1048576 d)

pub record OnSquares (d : Float) : Type 0 where
  pub whole : Is d (pos (in_squares d)) 1048576
  pub range : in_squares d ≤ 17179869184

-- what is shown of the best: the corner and its distance, or the mark and 0
abbrev pub corner_shown : Option Candidate → ℕ
corner_shown None = 4294967295
corner_shown (Some c) = c.corner

abbrev pub distance_shown : Option Candidate → ℕ
distance_shown None = 0
distance_shown (Some c) = in_squares c.distance

-- the places of n probes are filled
abbrev pub FilledIn : ℕ → List (Option Candidate) → List ℕ → List ℕ → Type 0
FilledIn n bests answers answers' = answers' ≡ places (λ (i : ℕ). corner_shown (get_or bests i None)) (λ (i : ℕ). distance_shown (get_or bests i None)) n ++ drop (2 * n) answers

-- the whole, once the questions are passed
pub record AllAnswered (points : List Float) (corners work work' : List ℕ) (probes : List Float) (answers answers' : List ℕ) : Type 0 where
  pub places : answers' ≡ answered points corners probes ++ drop (2 * (length probes / 3)) answers
  pub words : Zeroed corners (length points / 3) work work'

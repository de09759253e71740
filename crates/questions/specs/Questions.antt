-- Document 01, "Questions in turn": the questions about the surface that is lent, and the work words afterwards. Definitions only.
use Rattle.std.specs.Prelude.{ℕ, ◌+◌, ◌*◌, ◌/◌, ◌%◌, ◌≡◌, Bool, not, ◌&&◌, cond, List, ◌++◌, eqb, leb, ltb, length, drop, replicate, Float, Ok, Err}
use Rattle.float.specs.Order.{is_finite}
use Rattle.surface.specs.Triangle.{triangles}
use Rattle.surface.specs.Check.{differ?, every}
use Rattle.surface.specs.Finding.{finding}
use Rattle.surface.specs.Label.{carries}
use Rattle.questions.specs.Rules.{distinct?}
use Rattle.questions.specs.Labels.{opposed}
use Rattle.questions.specs.Refusal.{Asked, refusal_number, asked_number, on_finding}
use Rattle.questions.specs.declared.Refusal.{Refusal}
use Rattle.questions.specs.declared.Refusal.TheVariants.{Lengths, TooMany, WorkTooShort, NotFinite, CornerMissing, Label, SameCorner, OpposedLabels, SameTriangle}

-- a question's answer, why "no" refuses, and what is asked after it
abbrev pub ask : Bool → Refusal → Asked → Asked
ask answer why rest = cond answer rest (Err why)

-- questions, and what is asked after them
abbrev pub and_then : Asked → Asked → Asked
and_then (Ok x) rest = rest
and_then (Err why) rest = Err why

-- the work words that the surface needs: 32 per triangle plus 16 per point
abbrev pub needed : List Float → List ℕ → ℕ
needed points corners = 32 * (length corners / 3) + 16 * (length points / 3)

-- Questions 1 to 4, of every call.
unfoldable pub lent_questions : (points : List Float) (corners labels work : List ℕ) → Asked
unfolding every
lent_questions points corners labels work =
    -- Are point values and corner numbers multiples of three, and labels as many as triangles?
    ask (eqb (length points % 3) 0 && (eqb (length corners % 3) 0 && eqb (length labels) (length corners / 3))) Lengths
    -- At most 32,768 points and 32,768 triangles?
    (ask (leb (length points / 3) 32768 && leb (length corners / 3) 32768) TooMany
    -- Enough work words?
    (ask (leb (needed points corners) (length work)) WorkTooShort
    -- All point values finite?
    (ask (every is_finite points) NotFinite (Ok tt))))

-- labels are at most 7
abbrev pub known? : List ℕ → Bool
known? labels = every (λ (l : ℕ). leb l 7) labels

-- corners are on the list of p points
abbrev pub listed? : ℕ → List ℕ → Bool
listed? p corners = every (λ (v : ℕ). ltb v p) corners

-- no corner carries both 0 and 1, 2 and 3, 4 and 5, or 6 and 7
abbrev pub unopposed? : List ℕ → List ℕ → Bool
unopposed? corners labels = every (λ (v : ℕ). not (opposed (triangles corners) labels v)) corners

-- The questions with which improving and editing go on from 4, of p points: rules (a), then (b) and (c), then (d) among them.
unfoldable pub further_questions : (p : ℕ) (corners labels : List ℕ) → Asked
unfolding every carries distinct? finding
further_questions p corners labels =
    ask (known? labels) Label
    (ask (listed? p corners) CornerMissing
    (ask (every differ? (triangles corners)) SameCorner
    (ask (unopposed? corners labels) OpposedLabels
    -- in question 7's turn: what is found of (b) and (c)
    (and_then (on_finding (finding (triangles corners)))
    (ask (distinct? (triangles corners)) SameTriangle (Ok tt))))))

-- All questions that improving and editing share, in turn.
unfoldable pub surface_questions : (points : List Float) (corners labels work : List ℕ) → Asked
unfolding lent_questions further_questions
surface_questions points corners labels work =
    and_then (lent_questions points corners labels work) (further_questions (length points / 3) corners labels)

-- the work words after a call: as lent after 1 to 3; after any other end the needed ones are 0 and further ones untouched
abbrev pub cleared : ℕ → List ℕ → List ℕ
cleared n work = replicate n 0 ++ drop n work

abbrev pub work_after : ℕ → List Float → List ℕ → List ℕ → List ℕ
work_after number points corners work = cond (leb 1 number && leb number 3) work (cleared (needed points corners) work)

-- what `lent` promises of every call: questions 1 to 4 are asked, and where one refuses, the work words are as after its number
abbrev pub lent_words : Asked → List Float → List ℕ → List ℕ → List ℕ
lent_words (Ok x) points corners work = work
lent_words (Err why) points corners work = work_after (refusal_number why) points corners work

pub record Lends (points : List Float) (corners labels work work' : List ℕ) (asked : Asked) : Type 0 where
  pub answer : asked ≡ lent_questions points corners labels work
  pub words : work' ≡ lent_words asked points corners work

-- what `admitted` promises of every call: its answer and the work words
pub record Admits (points : List Float) (corners labels work work' : List ℕ) (asked : Asked) : Type 0 where
  pub answer : asked ≡ surface_questions points corners labels work
  pub words : work' ≡ work_after (asked_number asked) points corners work

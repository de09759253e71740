-- Why a call is refused: document 01's number of the question, or document 02's of what is found in question 7's turn, and the place beside it. Definitions only.
use Rattle.std.specs.Prelude.{ℕ, List, [], ◌∷◌, Result, Ok, Err}
use Rattle.surface.specs.declared.Finding.{Finding}
use Rattle.surface.specs.declared.Finding.TheVariants as finding
use Rattle.questions.specs.declared.Refusal.{Refusal}
use Rattle.questions.specs.declared.Refusal.TheVariants.{Lengths, TooMany, WorkTooShort, NotFinite, CornerMissing, Degenerate, Repeated, Lone, Split, Volume, Label, SameCorner, OpposedLabels, SameTriangle, FieldSheet, Rounds, Entries, Sheet, Height, OutlineRoom, Probes, Tariff}

abbrev pub refusal_number : Refusal → ℕ
refusal_number Lengths = 1
refusal_number TooMany = 2
refusal_number WorkTooShort = 3
refusal_number NotFinite = 4
refusal_number CornerMissing = 5
refusal_number Degenerate = 6
refusal_number (Repeated u v) = 31
refusal_number (Lone u v) = 32
refusal_number (Split v) = 33
refusal_number Volume = 8
refusal_number Label = 9
refusal_number SameCorner = 10
refusal_number OpposedLabels = 11
refusal_number SameTriangle = 12
refusal_number FieldSheet = 13
refusal_number Rounds = 14
refusal_number Entries = 15
refusal_number Sheet = 16
refusal_number Height = 40
refusal_number OutlineRoom = 41
refusal_number Probes = 42
refusal_number Tariff = 47

-- the side's two corners as it runs, or the corner and 0; beside a question's number 0 and 0
abbrev pub refusal_place : Refusal → List ℕ
refusal_place (Repeated u v) = u ∷ v ∷ []
refusal_place (Lone u v) = u ∷ v ∷ []
refusal_place (Split v) = v ∷ 0 ∷ []
refusal_place _ = 0 ∷ 0 ∷ []

-- what questions in turn come to: all are passed, or the first "no"
abbrev pub Asked : Type 0
Asked = Result (Unit {0}) Refusal

-- the number of questions in turn: 0 where all are passed
abbrev pub asked_number : Asked → ℕ
asked_number (Ok _) = 0
asked_number (Err why) = refusal_number why

-- in question 7's turn: a finding refuses, and a surface that is closed passes
abbrev pub on_finding : Finding → Asked
on_finding finding.Closed = Ok tt
on_finding (finding.Repeated u v) = Err (Repeated u v)
on_finding (finding.Lone u v) = Err (Lone u v)
on_finding (finding.Split v) = Err (Split v)

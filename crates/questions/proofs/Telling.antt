-- What `?` hands on; and a number tells whether questions in turn are passed: it is 0 only where they are, since no question has the number 0.
use native.Mathlib.Omega.{arith}
use mathlib.Core.Path.{◌≡◌, refl, ap}
use Rattle.std.specs.Prelude.{Result, Ok, Err, IsErrAnd}
use Rattle.questions.specs.Refusal.{Asked, refusal_number, asked_number}
use Rattle.questions.specs.declared.Refusal.{Refusal}
use Rattle.questions.specs.declared.Refusal.TheVariants.{Lengths, TooMany, WorkTooShort, NotFinite, CornerMissing, Degenerate, Repeated, Lone, Split, Volume, Label, SameCorner, OpposedLabels, SameTriangle, FieldSheet, Rounds, Entries, Sheet, Height, OutlineRoom, Probes, Tariff}

pub handed_on : {A E : Type 0} {why : E} (r : Result A E) → IsErrAnd r (λ e. e ≡ why) → r ≡ Err why
handed_on (Ok x) h = absurd h
handed_on (Err e) h = ap Err h

some_number : (why : Refusal) → refusal_number why ≡ 0 → ⊥
some_number Lengths e = absurd (omega arith)
some_number TooMany e = absurd (omega arith)
some_number WorkTooShort e = absurd (omega arith)
some_number NotFinite e = absurd (omega arith)
some_number CornerMissing e = absurd (omega arith)
some_number Degenerate e = absurd (omega arith)
some_number (Repeated u v) e = absurd (omega arith)
some_number (Lone u v) e = absurd (omega arith)
some_number (Split v) e = absurd (omega arith)
some_number Volume e = absurd (omega arith)
some_number Label e = absurd (omega arith)
some_number SameCorner e = absurd (omega arith)
some_number OpposedLabels e = absurd (omega arith)
some_number SameTriangle e = absurd (omega arith)
some_number FieldSheet e = absurd (omega arith)
some_number Rounds e = absurd (omega arith)
some_number Entries e = absurd (omega arith)
some_number Sheet e = absurd (omega arith)
some_number Height e = absurd (omega arith)
some_number OutlineRoom e = absurd (omega arith)
some_number Probes e = absurd (omega arith)
some_number Tariff e = absurd (omega arith)

pub telling : (a : Asked) → asked_number a ≡ 0 → a ≡ Ok tt
telling (Ok x) e = refl
telling (Err why) e = absurd (some_number why e)

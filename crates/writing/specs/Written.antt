-- What comes of writing (document 02, F-8): a sheet's text, or a refusal. The list has the text and 0 behind it, and is all 0 after a refusal. Definitions only.
use Rattle.std.specs.Prelude.{ℕ, ◌-◌, ◌≡◌, cond, List, ◌++◌, leb, ℤ, length, replicate, Result, Ok, Err}
use Rattle.sheet.specs.Edition.{edition}
use Rattle.sheet.specs.Sheet.{text}
use Rattle.writing.specs.Lists.{sayable?, list_sheet}
use Rattle.sheet.specs.Refusals.{refusal_number}
use Rattle.sheet.specs.declared.Refusal.{Refusal}
use Rattle.sheet.specs.declared.Refusal.TheVariants.{NoSheet, NoRoom}

pub data Writing : Type 0 where
  written : (bytes : List ℕ) → Writing
  refused : (why : Refusal) → Writing

-- the text of the sheet that the lists say; no sheet where no sheet of that edition can say them
abbrev pub list_text : (number : ℕ) (coordinates : List ℤ) (corners labels : List ℕ) → Writing
list_text number coordinates corners labels = cond (sayable? number coordinates corners labels) (written (text (edition number) (list_sheet coordinates corners labels))) (refused NoSheet)

-- last: the list is shorter than the text
abbrev pub fitting : (long : ℕ) → Writing → Writing
fitting long (written bytes) = cond (leb (length bytes) long) (written bytes) (refused NoRoom)
fitting long (refused why) = refused why

-- the answer: how many bytes are written, or the refusal
abbrev pub written_of : Writing → Result ℕ Refusal
written_of (written bytes) = Ok (length bytes)
written_of (refused why) = Err why

-- as a call gives it: 0 or the number of the refusal, and the length of the text, 0 after a refusal
abbrev pub written_number : Result ℕ Refusal → ℕ
written_number (Ok n) = 0
written_number (Err why) = refusal_number why

abbrev pub written_length : Result ℕ Refusal → ℕ
written_length (Ok n) = n
written_length (Err why) = 0

abbrev pub bytes_after : (long : ℕ) → Writing → List ℕ
bytes_after long (written bytes) = bytes ++ replicate (long - length bytes) 0
bytes_after long (refused why) = replicate long 0

-- what a call that writes promises: its answer, and the list afterwards
pub record Leaves (w : Writing) (list list' : List ℕ) (answer : Result ℕ Refusal) : Type 0 where
  pub answered : answer ≡ written_of (fitting (length list) w)
  pub bytes : list' ≡ bytes_after (length list) (fitting (length list) w)

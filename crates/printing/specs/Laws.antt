-- What is proved of the printed check, in `proofs/Laws`. Definitions only.
use Rattle.std.specs.Prelude.{ℕ, ◌-◌, ◌≤◌, ◌≡◌, false, List, ◌++◌, length, replicate, take, Float}
use Rattle.std.specs.Float.Ieee.{is_nan}
use Rattle.questions.specs.Questions.{needed}
use Rattle.checking.specs.Validate.{validated}
use Rattle.checking.specs.Verdict.{accepted}
use Rattle.sheet.specs.Edition.{edition}
use Rattle.sheet.specs.Sheet.{Sheet}
use Rattle.sheet.specs.Contents.{Contents, Says}
use Rattle.sheet.specs.Conversion.{Converted}
use Rattle.printing.specs.Printed.{verdict_of, verdict_on, printed_text, onto, Prints}

pub record PrintingLaws : Type 0 where
  -- the text has at most 60 bytes, and so a list of 60 has the whole of it, and 0 behind it: the bytes that a call counts are the text
  pub short : (input : List ℕ) → length (printed_text input) ≤ 60
  pub whole : (input : List ℕ) (long : ℕ) → 60 ≤ long → onto long (printed_text input) ≡ printed_text input ++ replicate (long - length (printed_text input)) 0
  pub counts : (input list list' : List ℕ) (count : ℕ) → Prints input list list' count → 60 ≤ length list → (count ≤ length list') × (take count list' ≡ printed_text input)
  -- what an input has behind its first 12,982 bytes changes nothing
  pub front : (input : List ℕ) → printed_text (take 12982 input) ≡ printed_text input
  -- a sheet and its conversion print the same
  pub converted : (input input' : List ℕ) (n n' : ℕ) (s s' : Sheet) → Says input n s → Says input' n' s' → Converted (edition n).unit (edition n').unit s s' → printed_text input ≡ printed_text input'
  -- work words beyond those that are needed change no verdict
  pub enough : (points : List Float) (corners labels work : List ℕ) → needed points corners ≤ length work → validated points corners labels work ≡ verdict_of points corners labels
  -- the values of an accepted surface are no NaN, and so have their bits
  pub numbers : (c : Contents) (quality volume : Float) → verdict_on c ≡ accepted quality volume → (is_nan quality ≡ false) × (is_nan volume ≡ false)

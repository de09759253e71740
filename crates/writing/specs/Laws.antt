-- What is proved of lists, the sheets that they say and the texts that are written, in `proofs/Verdicts` and `proofs/Laws`. Definitions only.
use Rattle.std.specs.Prelude.{ℕ, ◌<◌, ◌^◌, ◌≡◌, true, List, ℤ, get_or}
use Rattle.sheet.specs.Sheet.{Sheet, coordinates_of, corners_of, labels_of}
use Rattle.sheet.specs.Contents as Contents
use Rattle.sheet.specs.Contents.{contents}
use Rattle.writing.specs.Lists.{Sayable, sayable?, list_sheet}
use Rattle.writing.specs.Written.{written, list_text}

pub record ListLaws : Type 0 where
  -- lists of words and bytes that pass the test say that sheet
  pub sayable : (number : ℕ) (coordinates : List ℤ) (corners labels : List ℕ) → ((k : ℕ) → get_or corners k 0 < 2 ^ 32) → ((k : ℕ) → get_or labels k 0 < 2 ^ 8)
      → sayable? number coordinates corners labels ≡ true → Sayable number coordinates corners labels (list_sheet coordinates corners labels)
  -- lists that say a sheet pass the test, and it is that sheet
  pub passes : (number : ℕ) (coordinates : List ℤ) (corners labels : List ℕ) (s : Sheet) → Sayable number coordinates corners labels s → sayable? number coordinates corners labels ≡ true
  pub same : (number : ℕ) (coordinates : List ℤ) (corners labels : List ℕ) (s : Sheet) → Sayable number coordinates corners labels s → list_sheet coordinates corners labels ≡ s

pub record WritingLaws : Type 0 where
  -- what is read of what was written is what the lists say
  pub read_back : (number : ℕ) (coordinates : List ℤ) (corners labels bytes : List ℕ) → ((k : ℕ) → get_or corners k 0 < 2 ^ 32) → ((k : ℕ) → get_or labels k 0 < 2 ^ 8)
      → list_text number coordinates corners labels ≡ written bytes → (s : Sheet) × (contents bytes ≡ Contents.sheet number s) × Sayable number coordinates corners labels s
  -- what is written of what was read is the text
  pub written_back : (input : List ℕ) (number : ℕ) (s : Sheet) → contents input ≡ Contents.sheet number s → list_text number (coordinates_of s.points) (corners_of s.triangles) (labels_of s.triangles) ≡ written input

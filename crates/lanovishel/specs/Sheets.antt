-- `lanovishel_read_sheet`, `lanovishel_write_sheet` and `lanovishel_convert_sheet` for every call: document 02's number, the lists, which are 0 behind what is given and all 0 after a refusal, and the counts, 0 after a refusal. The other lists are only read. Definitions only.
use Rattle.std.specs.Prelude.{ℕ, ◌<◌, ◌^◌, ◌≡◌, List, [], ◌∷◌, ℤ, length, get_or, take, Float}
use Rattle.sheet.specs.Sheet.{Sheet}
use Rattle.sheet.specs.Contents as Contents
use Rattle.sheet.specs.Contents.{contents}
use Rattle.reading.specs.Given.{reading_in, sheet_answer, answer_number, answer_counts, points_after, corners_after, labels_after}
use Rattle.writing.specs.Lists.{Sayable}
use Rattle.writing.specs.Written as Written
use Rattle.writing.specs.Written.{Writing, list_text, fitting, written_of, written_number, written_length, bytes_after}
use Rattle.converting.specs.Converting.{conversion}

pub record ReadSheetCall (sheet : List ℕ) (points : List Float) (corners labels : List ℕ) (points' : List Float) (corners' labels' counts' : List ℕ) (number : ℕ) : Type 0 where
  pub answer : number ≡ answer_number (sheet_answer (reading_in (contents sheet) points corners labels))
  pub point-list : points' ≡ points_after (length points) (reading_in (contents sheet) points corners labels)
  pub corner-list : corners' ≡ corners_after (length corners) (reading_in (contents sheet) points corners labels)
  pub label-list : labels' ≡ labels_after (length labels) (reading_in (contents sheet) points corners labels)
  pub counts : counts' ≡ answer_counts (sheet_answer (reading_in (contents sheet) points corners labels))

-- what comes of writing, on the list that is lent
pub record WritingCall (w : Writing) (written written' count' : List ℕ) (number : ℕ) : Type 0 where
  pub answer : number ≡ written_number (written_of (fitting (length written) w))
  pub bytes : written' ≡ bytes_after (length written) (fitting (length written) w)
  pub count : count' ≡ written_length (written_of (fitting (length written) w)) ∷ []

abbrev pub WriteSheetCall : (edition : ℕ) (coordinates : List ℤ) (corners labels written written' count' : List ℕ) (number : ℕ) → Type 0
WriteSheetCall edition coordinates corners labels = WritingCall (list_text edition coordinates corners labels)

abbrev pub ConvertSheetCall : (sheet : List ℕ) (edition : ℕ) (written written' count' : List ℕ) (number : ℕ) → Type 0
ConvertSheetCall sheet edition = WritingCall (conversion (contents sheet) edition)

-- ---- calls that answer 0

-- the text that a call gives
abbrev pub given : (written' count' : List ℕ) → List ℕ
given written' count' = take (get_or count' 0 0) written'

-- what is proved of calls, in `proofs/SheetLaws`
pub record SheetLaws : Type 0 where
  -- what is given is the text, and 0 is answered only where there is one
  pub zero-written : (edition : ℕ) (coordinates : List ℤ) (corners labels written written' count' : List ℕ) → WriteSheetCall edition coordinates corners labels written written' count' 0 → list_text edition coordinates corners labels ≡ Written.written (given written' count')
  pub zero-converted : (sheet : List ℕ) (edition : ℕ) (written written' count' : List ℕ) → ConvertSheetCall sheet edition written written' count' 0 → conversion (contents sheet) edition ≡ Written.written (given written' count')
  -- and reading answers 0 only of a sheet
  pub zero-read : (sheet : List ℕ) (points : List Float) (corners labels : List ℕ) (points' : List Float) (corners' labels' counts' : List ℕ) → ReadSheetCall sheet points corners labels points' corners' labels' counts' 0 → (number : ℕ) × (s : Sheet) × (contents sheet ≡ Contents.sheet number s)
  -- a sheet and its conversion give the very same f64 points, corners and labels
  pub same_surface : (sheet : List ℕ) (edition : ℕ) (written written' count' : List ℕ) → ConvertSheetCall sheet edition written written' count' 0
      → (points : List Float) (corners labels : List ℕ) (points' points'' : List Float) (corners' corners'' labels' labels'' counts' counts'' : List ℕ) (number number' : ℕ)
      → ReadSheetCall sheet points corners labels points' corners' labels' counts' number → ReadSheetCall (given written' count') points corners labels points'' corners'' labels'' counts'' number'
      → (number' ≡ number) × (points'' ≡ points') × (corners'' ≡ corners') × (labels'' ≡ labels') × (counts'' ≡ counts')
  -- a sheet converted there and back is the sheet one had
  pub there_and_back : (sheet : List ℕ) (number edition : ℕ) (s : Sheet) → contents sheet ≡ Contents.sheet number s → (written written' count' back back' length' : List ℕ)
      → ConvertSheetCall sheet edition written written' count' 0 → ConvertSheetCall (given written' count') number back back' length' 0 → given back' length' ≡ sheet
  -- what was written is read as what the lists say
  pub read_back : (edition : ℕ) (coordinates : List ℤ) (corners labels written written' count' : List ℕ) → ((k : ℕ) → get_or corners k 0 < 2 ^ 32) → ((k : ℕ) → get_or labels k 0 < 2 ^ 8)
      → WriteSheetCall edition coordinates corners labels written written' count' 0 → (s : Sheet) × (contents (given written' count') ≡ Contents.sheet edition s) × Sayable edition coordinates corners labels s

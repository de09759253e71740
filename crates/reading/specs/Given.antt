-- What comes of reading (document 02, F-8): a sheet, or a refusal. The lists have the sheet's points as f64, corners and labels, and 0 behind them; they are all 0 after a refusal. Definitions only.
use Rattle.std.specs.Prelude.{ℕ, ◌-◌, ◌*◌, ◌≡◌, Bool, false, ◌&&◌, cond, List, [], ◌∷◌, ◌++◌, leb, pos, Float, length, replicate, Result, Ok, Err}
use Rattle.std.specs.Float.{fin}
use Rattle.sheet.specs.Edition.{edition}
use Rattle.sheet.specs.Sheet.{Sheet, places_of, corners_of, labels_of}
use Rattle.sheet.specs.Contents.{Contents}
use Rattle.sheet.specs.Refusals.{refusal_number}
use Rattle.sheet.specs.declared.Counts.{Counts}
use Rattle.sheet.specs.declared.Refusal.{Refusal}
use Rattle.sheet.specs.declared.Refusal.TheVariants.{NoSheet, NoRoom}

pub data Reading : Type 0 where
  read : (number : ℕ) (s : Sheet) → Reading
  refused : (why : Refusal) → Reading

-- are there as many point values, corners and labels as the sheet has?
abbrev pub holds? : Sheet → (values corners labels : ℕ) → Bool
holds? s values corners labels = leb (length s.points * 3) values && (leb (length s.triangles * 3) corners && leb (length s.triangles) labels)

-- what is no sheet; last, too short a list
abbrev pub reading_of : Contents → (values corners labels : ℕ) → Reading
reading_of Contents.nothing values corners labels = refused NoSheet
reading_of (Contents.sheet number s) values corners labels = cond (holds? s values corners labels) (read number s) (refused NoRoom)

-- the answer: the counts of points and of triangles, or the refusal
abbrev pub sheet_answer : Reading → Result Counts Refusal
sheet_answer (read number s) = Ok (record { points = length s.points; triangles = length s.triangles })
sheet_answer (refused why) = Err why

-- as a call gives it: 0 or the number of the refusal, and the counts, 0 0 after a refusal
abbrev pub answer_number : Result Counts Refusal → ℕ
answer_number (Ok counts) = 0
answer_number (Err why) = refusal_number why

abbrev pub answer_counts : Result Counts Refusal → List ℕ
answer_counts (Ok counts) = counts.points ∷ counts.triangles ∷ []
answer_counts (Err why) = 0 ∷ 0 ∷ []

abbrev pub zero_float : Float
zero_float = fin false 0 (pos 0)

-- ---- the lists afterwards

abbrev pub points_after : ℕ → Reading → List Float
points_after values (read number s) = places_of (edition number).unit s.points ++ replicate (values - length s.points * 3) zero_float
points_after values (refused why) = replicate values zero_float

abbrev pub corners_after : ℕ → Reading → List ℕ
corners_after corners (read number s) = corners_of s.triangles ++ replicate (corners - length s.triangles * 3) 0
corners_after corners (refused why) = replicate corners 0

abbrev pub labels_after : ℕ → Reading → List ℕ
labels_after labels (read number s) = labels_of s.triangles ++ replicate (labels - length s.triangles) 0
labels_after labels (refused why) = replicate labels 0

-- what a call that reads promises
pub record Gives (r : Reading) (points points' : List Float) (corners corners' labels labels' : List ℕ) (answer : Result Counts Refusal) : Type 0 where
  pub answered : answer ≡ sheet_answer r
  pub point-list : points' ≡ points_after (length points) r
  pub corner-list : corners' ≡ corners_after (length corners) r
  pub label-list : labels' ≡ labels_after (length labels) r

abbrev pub reading_in : Contents → List Float → List ℕ → List ℕ → Reading
reading_in c points corners labels = reading_of c (length points) (length corners) (length labels)

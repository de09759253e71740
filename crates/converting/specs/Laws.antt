-- What is proved of conversions, in `proofs/Laws`: of every text, and of both editions through their units. Definitions only.
use Rattle.std.specs.Prelude.{ℕ, ◌%◌, ◌≡◌, List, nat_abs}
use Rattle.sheet.specs.Sheet.{Point, Sheet, Every}
use Rattle.sheet.specs.Contents as Contents
use Rattle.sheet.specs.Contents.{contents}
use Rattle.reading.specs.Given.{Reading, reading_of, sheet_answer, points_after, corners_after, labels_after}
use Rattle.sheet.specs.declared.Refusal.TheVariants.{Inexact}
use Rattle.writing.specs.Written.{written, refused}
use Rattle.converting.specs.Converting.{conversion}

-- two readings that leave the same in lists of those lengths, and answer alike
pub record SameReading (values corners labels : ℕ) (a b : Reading) : Type 0 where
  pub answers : sheet_answer a ≡ sheet_answer b
  pub points : points_after values a ≡ points_after values b
  pub corner-list : corners_after corners a ≡ corners_after corners b
  pub label-list : labels_after labels a ≡ labels_after labels b

-- the coordinates of a point are multiples of 64
pub record Multiples (p : Point) : Type 0 where
  pub x : nat_abs p.x % 64 ≡ 0
  pub y : nat_abs p.y % 64 ≡ 0
  pub z : nat_abs p.z % 64 ≡ 0

pub record ConvertingLaws : Type 0 where
  -- a sheet and its conversion give the very same f64 points, corners and labels
  pub same_surface : (input converted : List ℕ) (asked : ℕ) → conversion (contents input) asked ≡ written converted → (values corners labels : ℕ) → SameReading values corners labels (reading_of (contents converted) values corners labels) (reading_of (contents input) values corners labels)
  -- a sheet converted there and back is the sheet one had, byte for byte
  pub there_and_back : (input converted : List ℕ) (number asked : ℕ) (s : Sheet) → contents input ≡ Contents.sheet number s → conversion (contents input) asked ≡ written converted → conversion (contents converted) number ≡ written input
  -- a sheet already in the edition asked for is given back as it is
  pub as_it_is : (input : List ℕ) (number : ℕ) (s : Sheet) → contents input ≡ Contents.sheet number s → conversion (contents input) number ≡ written input
  -- every sheet of the first edition goes to the second
  pub finer : (input : List ℕ) (s : Sheet) → contents input ≡ Contents.sheet 1 s → (converted : List ℕ) × (conversion (contents input) 2 ≡ written converted)
  -- one of the second goes to the first where its coordinates are multiples of 64, and else is refused as inexact
  pub coarser : (input : List ℕ) (s : Sheet) → contents input ≡ Contents.sheet 2 s → Every Multiples s.points → (converted : List ℕ) × (conversion (contents input) 1 ≡ written converted)
  pub between : (input : List ℕ) (s : Sheet) → contents input ≡ Contents.sheet 2 s → (Every Multiples s.points → ⊥) → conversion (contents input) 1 ≡ refused Inexact

-- What is proved of sheets and their editions, in `proofs/Texts`, `proofs/Contents` and `proofs/Conversion`. Each law takes the edition's unit, range and opening as they come, and so covers both. Definitions only.
use Rattle.std.specs.Prelude.{ℕ, ◌≤◌, ◌<◌, ◌^◌, ◌≡◌, true, List, length}
use Rattle.sheet.specs.Edition.{Edition, edition, IsEdition}
use Rattle.sheet.specs.Sheet.{Sheet, InRange, text, places_of, corners_of, labels_of}
use Rattle.sheet.specs.Contents.{Contents, Says, contents}
use Rattle.sheet.specs.Conversion.{Converted, convertible?, sheet_in_unit}

-- a text is that of one sheet at most, whatever the edition is
abbrev pub OneSheet : Type 0
OneSheet = (e : Edition) (s t : Sheet) → text e s ≡ text e t → t ≡ s

-- and it tells the edition
abbrev pub OneEdition : Type 0
OneEdition = (n m : ℕ) → IsEdition n → IsEdition m → (s t : Sheet) → text (edition n) s ≡ text (edition m) t → n ≡ m

-- what is computed of a text is what it says
pub record ContentsLaws : Type 0 where
  pub says : (input : List ℕ) (number : ℕ) (s : Sheet) → contents input ≡ Contents.sheet number s → Says input number s
  pub said : (input : List ℕ) (number : ℕ) (s : Sheet) → Says input number s → contents input ≡ Contents.sheet number s
  pub nothing : (input : List ℕ) → ((number : ℕ) (s : Sheet) → Says input number s → ⊥) → contents input ≡ Contents.nothing

-- no sheet of either edition has more than 12,981 bytes
abbrev pub LongestText : Type 0
LongestText = (input : List ℕ) (number : ℕ) (s : Sheet) → Says input number s → length input ≤ 12981

-- an edition whose unit and coordinates are whole floats
pub record Exact (e : Edition) : Type 0 where
  pub some : 0 < e.unit
  pub unit : e.unit < 2 ^ 53
  pub most : e.most < 2 ^ 53

-- the very same points, corners and labels
pub record SameSurface (u v : ℕ) (s t : Sheet) : Type 0 where
  pub points : places_of u s.points ≡ places_of v t.points
  pub corners : corners_of s.triangles ≡ corners_of t.triangles
  pub labels : labels_of s.triangles ≡ labels_of t.triangles

pub record ConversionLaws : Type 0 where
  -- a sheet and its conversion yield the same surface
  pub keeps : (e f : Edition) → Exact e → Exact f → (s t : Sheet) → InRange e.most s → InRange f.most t → Converted e.unit f.unit s t → SameSurface e.unit f.unit s t
  -- there is one conversion at most
  pub one : (u v : ℕ) → 0 < u → (s t t' : Sheet) → Converted u v s t → Converted u v s t' → t' ≡ t
  -- a sheet converted there and back is the sheet one had
  pub back : (u v : ℕ) → 0 < v → (s t s' : Sheet) → Converted u v s t → Converted v u t s' → s' ≡ s
  -- what is computed is the conversion, where there is one
  pub computed : (u v : ℕ) → 0 < u → 0 < v → (s : Sheet) → convertible? u v s ≡ true → Converted u v s (sheet_in_unit u v s)
  pub convertible : (u v : ℕ) → 0 < u → 0 < v → (s t : Sheet) → Converted u v s t → convertible? u v s ≡ true

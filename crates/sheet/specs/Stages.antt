-- What the functions of `src/` find in a text, by what they return. Definitions only.
use Rattle.std.specs.Prelude.{ℕ, ◌+◌, ◌*◌, ◌≤◌, ◌≡◌, List, [], ◌∷◌, ◌++◌, ℤ, nat_abs, length, drop, set, Option, Some, None}
use Rattle.sheet.specs.Text.{decimal, integer, lines}
use Rattle.sheet.specs.Sheet.{Point, Triangle, Sheet, Every, Near, Small, InRange, point_line, triangle_line, counts_line, point_names, text_after, coordinates_of, corners_of, labels_of}
use Rattle.sheet.specs.Edition.{edition, IsEdition, edition_number}
use Rattle.sheet.specs.Contents.{contents}
use Rattle.sheet.specs.Contents as Contents
use Rattle.sheet.specs.declared.Numeral.{Numeral}
use Rattle.sheet.specs.declared.Counts.{Counts}
use Rattle.sheet.specs.declared.Counted.{Counted}
use Rattle.sheet.specs.declared.Found.{Found}

-- ---- the whole

-- The input is the text of a sheet in range, of n points and m triangles, and the lists start with its numbers. What follows those in the lists is as it was lent.
pub record IsSheet (opening : List ℕ) (most : ℕ) (input : List ℕ) (n m : ℕ) (coordinates coordinates' : List ℤ) (corners corners' labels labels' : List ℕ) : Type 0 where
  pub sheet : Sheet
  pub in_range : InRange most sheet
  pub is-text : input ≡ text_after opening sheet
  pub n-points : length sheet.points ≡ n
  pub m-triangles : length sheet.triangles ≡ m
  pub coordinate-list : coordinates' ≡ coordinates_of sheet.points ++ drop (n * 3) coordinates
  pub corner-list : corners' ≡ corners_of sheet.triangles ++ drop (m * 3) corners
  pub label-list : labels' ≡ labels_of sheet.triangles ++ drop m labels

-- the input is the text of no sheet in range
abbrev pub NoSheet : List ℕ → ℕ → List ℕ → Type 0
NoSheet opening most input = (s : Sheet) → InRange most s → input ≡ text_after opening s → ⊥

abbrev pub sheet_is : List ℕ → ℕ → List ℕ → List ℤ → List ℤ → List ℕ → List ℕ → List ℕ → List ℕ → Option Counts → Type 0
sheet_is opening most input coordinates coordinates' corners corners' labels labels' (Some counts) = IsSheet opening most input counts.points counts.triangles coordinates coordinates' corners corners' labels labels'
sheet_is opening most input coordinates coordinates' corners corners' labels labels' None = NoSheet opening most input

-- only a sheet of the edition told can have this text
pub record TellsEdition (input : List ℕ) (told : ℕ) : Type 0 where
  pub known : IsEdition told
  pub only : (n : ℕ) → IsEdition n → (s : Sheet) → input ≡ text_after (edition n).opening s → n ≡ told

-- The input says a sheet of that edition, of n points and m triangles, and the lists start with its numbers.
pub record IsFound (input : List ℕ) (number n m : ℕ) (coordinates coordinates' : List ℤ) (corners corners' labels labels' : List ℕ) : Type 0 where
  pub sheet : Sheet
  pub said : contents input ≡ Contents.sheet number sheet
  pub n-points : length sheet.points ≡ n
  pub m-triangles : length sheet.triangles ≡ m
  pub coordinate-list : coordinates' ≡ coordinates_of sheet.points ++ drop (n * 3) coordinates
  pub corner-list : corners' ≡ corners_of sheet.triangles ++ drop (m * 3) corners
  pub label-list : labels' ≡ labels_of sheet.triangles ++ drop m labels

abbrev pub found_is : List ℕ → List ℤ → List ℤ → List ℕ → List ℕ → List ℕ → List ℕ → Option Found → Type 0
found_is input coordinates coordinates' corners corners' labels labels' (Some found) = IsFound input (edition_number found.edition) found.counts.points found.counts.triangles coordinates coordinates' corners corners' labels labels'
found_is input coordinates coordinates' corners corners' labels labels' None = contents input ≡ Contents.nothing

-- ---- the parts

-- w stands in the text s at the place `at`, and `next` is the place after it
abbrev pub Stands : List ℕ → ℕ → List ℕ → ℕ → Type 0
Stands s at w next = drop at s ≡ w ++ drop next s

-- w does not stand there
abbrev pub Absent : List ℕ → ℕ → List ℕ → Type 0
Absent s at w = (r : List ℕ) → drop at s ≡ w ++ r → ⊥

abbrev pub word_is : List ℕ → ℕ → List ℕ → Option ℕ → Type 0
word_is s at w (Some next) = Stands s at w next
word_is s at w None = Absent s at w

-- a field: what is written, and the byte that ends it
abbrev pub ended : List ℕ → ℕ → List ℕ
ended w end = w ++ (end ∷ [])

abbrev pub number_is : List ℕ → ℕ → ℕ → ℕ → Option Numeral → Type 0
number_is s at most end (Some n) = (n.value ≤ most) × Stands s at (ended (decimal n.value) end) n.next
number_is s at most end None = (v : ℕ) → v ≤ most → Absent s at (ended (decimal v) end)

-- a coordinate that is found is stored at k
abbrev pub coordinate_is : List ℕ → ℕ → ℕ → ℕ → ℕ → List ℤ → List ℤ → Option ℕ → Type 0
coordinate_is s at most end k l l' (Some next) = (z : ℤ) × (nat_abs z ≤ most) × Stands s at (ended (integer z) end) next × (l' ≡ set l k z)
coordinate_is s at most end k l l' None = (z : ℤ) → nat_abs z ≤ most → Absent s at (ended (integer z) end)

abbrev pub stored_point : ℕ → Point → List ℤ → List ℤ
stored_point k p l = set (set (set l (k * 3) p.x) (k * 3 + 1) p.y) (k * 3 + 2) p.z

abbrev pub point_is : List ℕ → ℕ → ℕ → ℕ → List ℤ → List ℤ → Option ℕ → Type 0
point_is s at most k l l' (Some next) = (p : Point) × Near most p × Stands s at (point_line p) next × (l' ≡ stored_point k p l)
point_is s at most k l l' None = (p : Point) → Near most p → Absent s at (point_line p)

abbrev pub points_is : List ℕ → ℕ → ℕ → ℕ → List ℤ → List ℤ → Option ℕ → Type 0
points_is s at most n l l' (Some next) =
    (ps : List Point) × (length ps ≡ n) × Every (Near most) ps × Stands s at (lines point_line ps) next × (l' ≡ coordinates_of ps ++ drop (n * 3) l)
points_is s at most n l l' None = (ps : List Point) → length ps ≡ n → Every (Near most) ps → Absent s at (lines point_line ps)

abbrev pub stored_corners : ℕ → Triangle → List ℕ → List ℕ
stored_corners k t l = set (set (set l (k * 3) t.a) (k * 3 + 1) t.b) (k * 3 + 2) t.c

abbrev pub triangle_is : List ℕ → ℕ → ℕ → List ℕ → List ℕ → List ℕ → List ℕ → Option ℕ → Type 0
triangle_is s at k l l' m m' (Some next) =
    (t : Triangle) × Small t × Stands s at (triangle_line t) next × (l' ≡ stored_corners k t l) × (m' ≡ set m k t.label)
triangle_is s at k l l' m m' None = (t : Triangle) → Small t → Absent s at (triangle_line t)

abbrev pub triangles_is : List ℕ → ℕ → ℕ → List ℕ → List ℕ → List ℕ → List ℕ → Option ℕ → Type 0
triangles_is s at n l l' m m' (Some next) =
    (ts : List Triangle) × (length ts ≡ n) × Every Small ts × Stands s at (lines triangle_line ts) next
    × (l' ≡ corners_of ts ++ drop (n * 3) l) × (m' ≡ labels_of ts ++ drop n m)
triangles_is s at n l l' m m' None = (ts : List Triangle) → length ts ≡ n → Every Small ts → Absent s at (lines triangle_line ts)

-- what stands before the points
abbrev pub head_text : List ℕ → ℕ → ℕ → List ℕ
head_text opening n m = opening ++ (counts_line n m ++ point_names)

abbrev pub head_is : List ℕ → List ℕ → Option Counted → Type 0
head_is opening s (Some h) = (h.counts.points ≤ 128) × (h.counts.triangles ≤ 256) × Stands s 0 (head_text opening h.counts.points h.counts.triangles) h.next
head_is opening s None = (n m : ℕ) → n ≤ 128 → m ≤ 256 → Absent s 0 (head_text opening n m)

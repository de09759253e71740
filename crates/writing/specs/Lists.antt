-- The sheet that lists of whole numbers say. `Sayable` is what that means; `sayable?` and `list_sheet` compute it, and that they agree is `ListLaws` (`Laws`). Definitions only.
use Rattle.std.specs.Prelude.{ℕ, zero, suc, ◌+◌, ◌*◌, ◌/◌, ◌%◌, ◌≡◌, Bool, ◌&&◌, List, [], ◌∷◌, ◌++◌, eqb, leb, ℤ, pos, nat_abs, length, get_or}
use Rattle.surface.specs.Check.{every}
use Rattle.sheet.specs.Edition.{edition, IsEdition, is_edition?}
use Rattle.sheet.specs.Sheet.{Point, Triangle, Sheet, InRange, coordinates_of, corners_of, labels_of}

-- the lists hold the numbers of s, which a sheet of that edition can say
pub record Sayable (number : ℕ) (coordinates : List ℤ) (corners labels : List ℕ) (s : Sheet) : Type 0 where
  pub known : IsEdition number
  pub in_range : InRange (edition number).most s
  pub coordinate-list : coordinates ≡ coordinates_of s.points
  pub corner-list : corners ≡ corners_of s.triangles
  pub label-list : labels ≡ labels_of s.triangles

-- ---- computed

abbrev pub coordinate_in_range? : ℕ → ℤ → Bool
coordinate_in_range? most z = leb (nat_abs z) most

-- An edition; coordinates in threes, for 128 points at most; a label for each of 256 triangles at most, and three corners; coordinates in range. (Words and bytes are in range as they are.)
unfoldable pub sayable? : (number : ℕ) (coordinates : List ℤ) (corners labels : List ℕ) → Bool
unfolding every
sayable? number coordinates corners labels =
    is_edition? number
    && (eqb (length coordinates % 3) 0
    && (leb (length coordinates / 3) 128
    && (leb (length labels) 256
    && (eqb (length corners) (length labels * 3)
    && every (coordinate_in_range? (edition number).most) coordinates))))

-- f of the numbers below n
abbrev pub each : {A : Type 0} → (ℕ → A) → ℕ → List A
each f zero = []
each f (suc n) = each f n ++ (f n ∷ [])

abbrev pub list_point : List ℤ → ℕ → Point
list_point l k = record { x = get_or l (k * 3) (pos 0); y = get_or l (k * 3 + 1) (pos 0); z = get_or l (k * 3 + 2) (pos 0) }

abbrev pub list_triangle : List ℕ → List ℕ → ℕ → Triangle
list_triangle l m k = record { a = get_or l (k * 3) 0; b = get_or l (k * 3 + 1) 0; c = get_or l (k * 3 + 2) 0; label = get_or m k 0 }

-- n points and m triangles
abbrev pub sheet_front : ℕ → ℕ → List ℤ → List ℕ → List ℕ → Sheet
sheet_front n m coordinates corners labels = record { points = each (list_point coordinates) n; triangles = each (list_triangle corners labels) m }

abbrev pub list_sheet : List ℤ → List ℕ → List ℕ → Sheet
list_sheet coordinates corners labels = sheet_front (length coordinates / 3) (length labels) coordinates corners labels

-- What a text says: a sheet of one edition, or nothing. `Says` is what that means, and `contents` computes it; that they agree is `ContentsLaws` (`Laws`). Definitions only.
use Rattle.std.specs.Prelude.{ℕ, zero, suc, ◌+◌, ◌-◌, ◌*◌, ◌^◌, ◌≡◌, Bool, true, false, ◌&&◌, ◌||◌, cond, List, [], ◌∷◌, eqb, leb, ltb, ℤ, pos, nat_abs, length, get_or, drop}
use Rattle.surface.specs.Check.{every}
use Rattle.sheet.specs.Text.{minus}
use Rattle.sheet.specs.Edition.{edition, IsEdition}
use Rattle.sheet.specs.Sheet.{Point, Triangle, Sheet, InRange, text_after, text}

-- the input is the text of s, a sheet of that edition
pub record Says (input : List ℕ) (number : ℕ) (s : Sheet) : Type 0 where
  pub known : IsEdition number
  pub in_range : InRange (edition number).most s
  pub is-text : input ≡ text (edition number) s

pub data Contents : Type 0 where
  nothing : Contents
  sheet : (number : ℕ) (s : Sheet) → Contents

-- ---- computed: the fields, whatever they are, are taken for a sheet; where it is in range and its text is the input, the input says it

-- the byte b put before the first field
abbrev pub before_first : ℕ → List (List ℕ) → List (List ℕ)
before_first b [] = []
before_first b (f ∷ fs) = (b ∷ f) ∷ fs

-- what stands before each space and each line feed
abbrev pub fields : List ℕ → List (List ℕ)
fields [] = []
fields (b ∷ r) = cond (eqb b 32 || eqb b 10) ([] ∷ fields r) (before_first b (fields r))

-- the digits of a number, after those of v
abbrev pub digits_on : ℕ → List ℕ → ℕ
digits_on v [] = v
digits_on v (d ∷ r) = digits_on (v * 10 + (d - 48)) r

abbrev pub field_number : List ℕ → ℕ
field_number f = digits_on 0 f

abbrev pub field_integer : List ℕ → ℤ
field_integer [] = pos 0
field_integer (b ∷ r) = cond (eqb b 45) (minus (field_number r)) (pos (field_number (b ∷ r)))

-- as many points, three fields each
abbrev pub field_points : ℕ → List (List ℕ) → List Point
field_points zero fs = []
field_points (suc n) fs = record { x = field_integer (get_or fs 0 []); y = field_integer (get_or fs 1 []); z = field_integer (get_or fs 2 []) } ∷ field_points n (drop 3 fs)

-- as many triangles, four fields each
abbrev pub field_triangles : ℕ → List (List ℕ) → List Triangle
field_triangles zero fs = []
field_triangles (suc n) fs = record { a = field_number (get_or fs 0 []); b = field_number (get_or fs 1 []); c = field_number (get_or fs 2 []); label = field_number (get_or fs 3 []) } ∷ field_triangles n (drop 4 fs)

-- after the opening: two counts and three names, the points, four names, the triangles
abbrev pub field_sheet : List (List ℕ) → Sheet
field_sheet fs =
    let n = field_number (get_or fs 0 []) in
    record { points = field_points n (drop 5 fs); triangles = field_triangles (field_number (get_or fs 1 [])) (drop (9 + n * 3) fs) }

abbrev pub near? : ℕ → Point → Bool
near? most p = leb (nat_abs p.x) most && (leb (nat_abs p.y) most && leb (nat_abs p.z) most)

abbrev pub small? : Triangle → Bool
small? t = ltb t.a (2 ^ 32) && (ltb t.b (2 ^ 32) && (ltb t.c (2 ^ 32) && ltb t.label 256))

abbrev pub in_range? : ℕ → Sheet → Bool
unfolding every
in_range? most s = leb (length s.points) 128 && (leb (length s.triangles) 256 && (every (near? most) s.points && every small? s.triangles))

abbrev pub same_bytes : List ℕ → List ℕ → Bool
same_bytes [] [] = true
same_bytes [] (b ∷ m) = false
same_bytes (a ∷ l) [] = false
same_bytes (a ∷ l) (b ∷ m) = eqb a b && same_bytes l m

-- a sheet of that edition, or else what is said otherwise
abbrev pub contents_in : ℕ → List ℕ → Contents → Contents
contents_in number input otherwise =
    let s = field_sheet (drop (length (fields (edition number).opening)) (fields input)) in
    cond (in_range? (edition number).most s && same_bytes input (text (edition number) s)) (sheet number s) otherwise

unfoldable pub contents : List ℕ → Contents
unfolding text_after
contents input = contents_in 1 input (contents_in 2 input nothing)

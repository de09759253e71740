-- A sheet in the unit of another edition: each coordinate is the same number. `Converted` is what that means; `in_unit` and `convertible?` compute it, and that they agree is `ConversionLaws` (`Laws`). Definitions only.
use Rattle.std.specs.Prelude.{ℕ, suc, ◌*◌, ◌/◌, ◌%◌, ◌≡◌, Bool, ◌&&◌, List, [], ◌∷◌, map, eqb, ℤ, pos, negsuc, nat_abs}
use Rattle.surface.specs.Check.{every}
use Rattle.sheet.specs.Text.{minus}
use Rattle.sheet.specs.Sheet.{Point, Sheet}

-- z/u and w/v are the same number
abbrev pub Equal : ℕ → ℤ → ℕ → ℤ → Type 0
Equal u (pos a) v (pos b) = a * v ≡ b * u
Equal u (pos a) v (negsuc b) = ⊥
Equal u (negsuc a) v (pos b) = ⊥
Equal u (negsuc a) v (negsuc b) = suc a * v ≡ suc b * u

pub record SamePoint (u v : ℕ) (p q : Point) : Type 0 where
  pub x : Equal u p.x v q.x
  pub y : Equal u p.y v q.y
  pub z : Equal u p.z v q.z

abbrev pub Pairwise : {A : Type 0} → (A → A → Type 0) → List A → List A → Type 0
Pairwise R [] [] = Unit {0}
Pairwise R [] (b ∷ m) = ⊥
Pairwise R (a ∷ l) [] = ⊥
Pairwise R (a ∷ l) (b ∷ m) = R a b × Pairwise R l m

-- t, in units of 1/v, is the sheet s, in units of 1/u
pub record Converted (u v : ℕ) (s t : Sheet) : Type 0 where
  pub points : Pairwise (SamePoint u v) s.points t.points
  pub triangles : t.triangles ≡ s.triangles

-- ---- computed

-- is z/u a whole number of 1/v?
abbrev pub fits? : ℕ → ℕ → ℤ → Bool
fits? u v z = eqb (nat_abs z * v % u) 0

-- z/u in whole numbers of 1/v, cut where it is none
abbrev pub in_unit : ℕ → ℕ → ℤ → ℤ
in_unit u v (pos a) = pos (a * v / u)
in_unit u v (negsuc a) = minus (suc a * v / u)

abbrev pub point_fits? : ℕ → ℕ → Point → Bool
point_fits? u v p = fits? u v p.x && (fits? u v p.y && fits? u v p.z)

abbrev pub point_in_unit : ℕ → ℕ → Point → Point
point_in_unit u v p = record { x = in_unit u v p.x; y = in_unit u v p.y; z = in_unit u v p.z }

unfoldable pub convertible? : ℕ → ℕ → Sheet → Bool
unfolding every
convertible? u v s = every (point_fits? u v) s.points

abbrev pub sheet_in_unit : ℕ → ℕ → Sheet → Sheet
sheet_in_unit u v s = record { points = map (point_in_unit u v) s.points; triangles = s.triangles }

-- Which sheets the units of the two editions have in common. Assumes nothing.
use mathlib.Core.Path.{◌≡◌, refl, ap, ◌∙◌}
use mathlib.Core.Logic.{◌↔◌}
use mathlib.Core.Bool.{true}
use mathlib.Core.List.{List, [], ◌∷◌}
use Prim.Native.Nat.{ℕ, ◌*◌, ◌/◌, ◌%◌}
use native.Mathlib.Nat.{mul-mod_left}
use native.Mathlib.Omega.{arith}
use lib.IntN.{ℤ, pos, negsuc, nat_abs}
use Rattle.surface.specs.Check.{every}
use Rattle.sheet.specs.Sheet.{Point, Sheet, Every}
use Rattle.sheet.specs.Conversion.{Equal, SamePoint, Pairwise, Converted, fits?, point_fits?, convertible?}
use Rattle.sheet.proofs.Tests.{both-mean, eq_means, every_means}
use Rattle.converting.specs.Laws.{Multiples}

-- ---- one unit

module _ (u : ℕ) where
  equal_self : (z : ℤ) → Equal u z u z
  equal_self (pos a) = refl
  equal_self (negsuc a) = refl

  points_self : (ps : List Point) → Pairwise (SamePoint u u) ps ps
  points_self [] = tt
  points_self (p ∷ ps) = (record { x = equal_self p.x; y = equal_self p.y; z = equal_self p.z }, points_self ps)

  pub converted_self : (s : Sheet) → Converted u u s s
  converted_self s = record { points = points_self s.points; triangles = refl }

-- ---- from the first edition to the second

finer-fits : (z : ℤ) → fits? 1024 65536 z ≡ true
finer-fits z = (eq_means (nat_abs z * 65536 % 1024) 0).1 (omega arith)

points-finer : (ps : List Point) → every (point_fits? 1024 65536) ps ≡ true
unfolding every
points-finer [] = refl
points-finer (p ∷ ps) = rw (finer-fits p.x, finer-fits p.y, finer-fits p.z, points-finer ps)

pub finer-convertible : (s : Sheet) → convertible? 1024 65536 s ≡ true
unfolding convertible?
finer-convertible s = points-finer s.points

-- ---- and back

sixty_fourths : (a : ℕ) → a * 1024 % 65536 ≡ 0 → a % 64 ≡ 0
sixty_fourths a h =
    let q = a * 1024 / 65536 in
    let e : a ≡ q * 64 = omega arith in
    ap (λ (k : ℕ). k % 64) e ∙ mul-mod_left q 64

coarser_means : (z : ℤ) → (fits? 65536 1024 z ≡ true) ↔ (nat_abs z % 64 ≡ 0)
coarser_means z =
    let test = eq_means (nat_abs z * 1024 % 65536) 0 in
    (λ e. sixty_fourths (nat_abs z) (test.0 e), λ h. test.1 (omega arith))

multiples_mean : (p : Point) → (point_fits? 65536 1024 p ≡ true) ↔ Multiples p
multiples_mean p =
    let tests = both-mean (coarser_means p.x) (both-mean (coarser_means p.y) (coarser_means p.z)) in
    (λ e. let h = tests.0 e in record { x = h.0; y = h.1.0; z = h.1.1 }, λ h. tests.1 (h.x, (h.y, h.z)))

pub coarser-convertible : (s : Sheet) → (convertible? 65536 1024 s ≡ true) ↔ Every Multiples s.points
unfolding convertible?
coarser-convertible s = every_means multiples_mean s.points

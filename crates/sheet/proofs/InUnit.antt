-- A sheet in another unit, as it is computed: it is the conversion just where there is one, and it is in range. Assumes nothing.
use mathlib.Core.Path.{◌≡◌, refl, sym, ap, ◌∙◌, subst}
use mathlib.Core.Bool.{true, ◌&&◌}
use mathlib.Core.List.{List, [], ◌∷◌, map}
use Prim.Native.Nat.{ℕ, zero, suc, ◌+◌, ◌*◌, ◌/◌, ◌%◌, ◌≤◌, ◌<◌}
use native.Mathlib.Nat.{zero-mul, div-add-mod, mul_comm, mul-mod_left, mul-pos, mul-le-mul_right, div-le_of_le-mul}
use native.Mathlib.Omega.{arith}
use borrow.Author.Tests.{eqb-true, eq-eqb}
use lib.IntN.{ℤ, pos, negsuc, nat_abs}
use lib.ListN.{length-map}
use Rattle.surface.specs.Check.{every}
use Rattle.surface.proofs.Bools.{both}
use Rattle.sheet.specs.Text.{minus}
use Rattle.sheet.specs.Edition.{edition, IsEdition}
use Rattle.sheet.specs.Sheet.{Point, Sheet, Every, Near, InRange}
use Rattle.sheet.proofs.Signs.{minus-size}
use Rattle.sheet.proofs.Texts.{by_number}
use Rattle.sheet.specs.Conversion.{Equal, SamePoint, Pairwise, Converted, fits?, in_unit, point_fits?, point_in_unit, convertible?, sheet_in_unit}

module _ (u v : ℕ) (some : 0 < u) (some' : 0 < v) where
  exact : (a : ℕ) → a * v % u ≡ 0 → a * v ≡ a * v / u * u
  exact a h = let e : u * (a * v / u) + a * v % u ≡ a * v = div-add-mod (a * v) u in let f : u * (a * v / u) ≡ a * v / u * u = mul_comm u (a * v / u) in omega arith

  below-zero : (a q : ℕ) → suc a * v ≡ q * u → Equal u (negsuc a) v (minus q)
  below-zero a zero e = let p : 0 < suc a * v = mul-pos (omega arith) some' in let z : 0 * u ≡ 0 = zero-mul u in absurd (omega arith)
  below-zero a (suc q) e = e

  equal_in_unit : (z : ℤ) → fits? u v z ≡ true → Equal u z v (in_unit u v z)
  equal_in_unit (pos a) h = exact a (eqb-true (a * v % u) 0 h)
  equal_in_unit (negsuc a) h = below-zero a (suc a * v / u) (exact (suc a) (eqb-true (suc a * v % u) 0 h))

  equal_fits : (z w : ℤ) → Equal u z v w → fits? u v z ≡ true
  equal_fits (pos a) (pos b) e = eq-eqb (a * v % u) 0 (ap (λ (k : ℕ). k % u) e ∙ mul-mod_left b u)
  equal_fits (pos a) (negsuc b) e = absurd e
  equal_fits (negsuc a) (pos b) e = absurd e
  equal_fits (negsuc a) (negsuc b) e = eq-eqb (suc a * v % u) 0 (ap (λ (k : ℕ). k % u) e ∙ mul-mod_left (suc b) u)

  points_in_unit : (ps : List Point) → every (point_fits? u v) ps ≡ true → Pairwise (SamePoint u v) ps (map (point_in_unit u v) ps)
  unfolding every
  points_in_unit [] h = tt
  points_in_unit (p ∷ ps) h =
      let a = both (point_fits? u v p) (every (point_fits? u v) ps) h in
      let x = both (fits? u v p.x) (fits? u v p.y && fits? u v p.z) a.0 in
      let y = both (fits? u v p.y) (fits? u v p.z) x.1 in
      (record { x = equal_in_unit p.x x.0; y = equal_in_unit p.y y.0; z = equal_in_unit p.z y.1 }, points_in_unit ps a.1)

  points-fit : (ps qs : List Point) → Pairwise (SamePoint u v) ps qs → every (point_fits? u v) ps ≡ true
  unfolding every
  points-fit [] qs a = refl
  points-fit (p ∷ ps) [] a = absurd a
  points-fit (p ∷ ps) (q ∷ qs) a = rw (equal_fits p.x q.x a.0.x, equal_fits p.y q.y a.0.y, equal_fits p.z q.z a.0.z, points-fit ps qs a.1)

  pub computed : (s : Sheet) → convertible? u v s ≡ true → Converted u v s (sheet_in_unit u v s)
  unfolding convertible?
  computed s h = record { points = points_in_unit s.points h; triangles = refl }

  pub computed_where : (s t : Sheet) → Converted u v s t → convertible? u v s ≡ true
  unfolding convertible?
  computed_where s t a = points-fit s.points t.points a.points

-- ---- in range: where the ends of both ranges are the same number

module _ (u v most most' : ℕ) (some : 0 < u) (ends : most * v ≡ most' * u) where
  pub near-size : (a : ℕ) → a ≤ most → a * v / u ≤ most'
  near-size a h = let e : most' * u ≡ u * most' = mul_comm most' u in let l : a * v ≤ most * v = mul-le-mul_right v h in div-le_of_le-mul u (omega arith)

  pub near_in_unit : (z : ℤ) → nat_abs z ≤ most → nat_abs (in_unit u v z) ≤ most'
  near_in_unit (pos a) h = near-size a h
  near_in_unit (negsuc a) h = subst (λ (k : ℕ). k ≤ most') (sym (minus-size (suc a * v / u))) (near-size (suc a) h)

  points_near : (ps : List Point) → Every (Near most) ps → Every (Near most') (map (point_in_unit u v) ps)
  points_near [] h = tt
  points_near (p ∷ ps) h = (record { x = near_in_unit p.x h.0.x; y = near_in_unit p.y h.0.y; z = near_in_unit p.z h.0.z }, points_near ps h.1)

  pub in_range : (s : Sheet) → InRange most s → InRange most' (sheet_in_unit u v s)
  in_range s h = record {
    points = subst (λ (k : ℕ). k ≤ 128) (sym (length-map s.points (point_in_unit u v))) h.points;
    triangles = h.triangles;
    near = points_near s.points h.near;
    small = h.small;
  }

-- ---- the two editions

pub unit-some : (n : ℕ) → IsEdition n → 0 < (edition n).unit
unit-some = by_number (λ (n : ℕ). 0 < (edition n).unit) (omega arith) (omega arith)

pub unit-small : (n : ℕ) → IsEdition n → (edition n).unit ≤ 65536
unit-small = by_number (λ (n : ℕ). (edition n).unit ≤ 65536) (omega arith) (omega arith)

pub most-small : (n : ℕ) → IsEdition n → (edition n).most ≤ 2097152
most-small = by_number (λ (n : ℕ). (edition n).most ≤ 2097152) (omega arith) (omega arith)

-- the ends of their ranges are the same number
pub same_ends : (n m : ℕ) → IsEdition n → IsEdition m → (edition n).most * (edition m).unit ≡ (edition m).most * (edition n).unit
same_ends n m hn hm = by_number (λ (i : ℕ). (edition i).most * (edition m).unit ≡ (edition m).most * (edition i).unit) (of 1 refl refl) (of 2 refl refl) n hn
  where
    of : (i : ℕ) → (edition i).most * (edition 1).unit ≡ (edition 1).most * (edition i).unit → (edition i).most * (edition 2).unit ≡ (edition 2).most * (edition i).unit → (edition i).most * (edition m).unit ≡ (edition m).most * (edition i).unit
    of i a b = by_number (λ (j : ℕ). (edition i).most * (edition j).unit ≡ (edition j).most * (edition i).unit) a b m hm

-- A sheet's conversion is one, goes back, and yields the same floats. Assumes nothing.
use mathlib.Core.Path.{◌≡◌, refl, sym, ap, ◌∙◌}
use mathlib.Core.List.{List, [], ◌∷◌}
use Prim.Native.Nat.{ℕ, suc, pred, ◌≤◌, ◌<◌}
use native.Mathlib.Nat.{eq_of_mul-eq-mul_right, lt_of_le_of_lt}
use lib.IntN.{ℤ, pos, negsuc, nat_abs}
use Rattle.sheet.specs.Edition.{Edition}
use Rattle.sheet.specs.Sheet.{Point, Sheet, Every, Near, InRange, place, places_of, corners_of, labels_of}
use Rattle.sheet.specs.Conversion.{Equal, SamePoint, Pairwise, Converted}
use Rattle.sheet.specs.Laws.{Exact, SameSurface, ConversionLaws}
use Rattle.sheet.proofs.InUnit.{computed, computed_where}
use Rattle.sheet.proofs.Quotients.{equal_place}

pub equal_sym : (u v : ℕ) (z w : ℤ) → Equal u z v w → Equal v w u z
equal_sym u v (pos a) (pos b) e = sym e
equal_sym u v (pos a) (negsuc b) e = absurd e
equal_sym u v (negsuc a) (pos b) e = absurd e
equal_sym u v (negsuc a) (negsuc b) e = sym e

pub equal_unique : (u v : ℕ) → 0 < u → (z w y : ℤ) → Equal u z v w → Equal u z v y → y ≡ w
equal_unique u v p (pos a) (pos b) (pos c) e f = ap pos (eq_of_mul-eq-mul_right u p c b (sym f ∙ e))
equal_unique u v p (pos a) (pos b) (negsuc c) e f = absurd f
equal_unique u v p (pos a) (negsuc b) y e f = absurd e
equal_unique u v p (negsuc a) (pos b) y e f = absurd e
equal_unique u v p (negsuc a) (negsuc b) (pos c) e f = absurd f
equal_unique u v p (negsuc a) (negsuc b) (negsuc c) e f = ap (λ (k : ℕ). negsuc (pred k)) (eq_of_mul-eq-mul_right u p (suc c) (suc b) (sym f ∙ e))

point_unique : (u v : ℕ) → 0 < u → (p q r : Point) → SamePoint u v p q → SamePoint u v p r → r ≡ q
point_unique u v h p q r a b =
    λ i. record {
      x = equal_unique u v h p.x q.x r.x a.x b.x i;
      y = equal_unique u v h p.y q.y r.y a.y b.y i;
      z = equal_unique u v h p.z q.z r.z a.z b.z i;
    }

points_unique : (u v : ℕ) → 0 < u → (l m n : List Point) → Pairwise (SamePoint u v) l m → Pairwise (SamePoint u v) l n → n ≡ m
points_unique u v h [] [] [] a b = refl
points_unique u v h [] [] (r ∷ n) a b = absurd b
points_unique u v h [] (q ∷ m) n a b = absurd a
points_unique u v h (p ∷ l) [] n a b = absurd a
points_unique u v h (p ∷ l) (q ∷ m) [] a b = absurd b
points_unique u v h (p ∷ l) (q ∷ m) (r ∷ n) a b =
    ap (λ (o : Point). o ∷ n) (point_unique u v h p q r a.0 b.0) ∙ ap (λ (o : List Point). q ∷ o) (points_unique u v h l m n a.1 b.1)

pub one-conversion : (u v : ℕ) → 0 < u → (s t t' : Sheet) → Converted u v s t → Converted u v s t' → t' ≡ t
one-conversion u v h s t t' a b =
    λ i. record {
      points = points_unique u v h s.points t.points t'.points a.points b.points i;
      triangles = (b.triangles ∙ sym a.triangles) i;
    }

points_sym : (u v : ℕ) (l m : List Point) → Pairwise (SamePoint u v) l m → Pairwise (SamePoint v u) m l
points_sym u v [] [] a = tt
points_sym u v [] (q ∷ m) a = absurd a
points_sym u v (p ∷ l) [] a = absurd a
points_sym u v (p ∷ l) (q ∷ m) a = (
  record { x = equal_sym u v p.x q.x a.0.x; y = equal_sym u v p.y q.y a.0.y; z = equal_sym u v p.z q.z a.0.z },
  points_sym u v l m a.1,
)

pub converted_sym : (u v : ℕ) (s t : Sheet) → Converted u v s t → Converted v u t s
converted_sym u v s t a = record { points = points_sym u v s.points t.points a.points; triangles = sym a.triangles }

-- ---- the same floats

module _ (e f : Edition) (E : Exact e) (F : Exact f) where
  place_same : (z w : ℤ) → nat_abs z ≤ e.most → nat_abs w ≤ f.most → Equal e.unit z f.unit w → place e.unit z ≡ place f.unit w
  place_same z w hz hw = equal_place e.unit f.unit E.some F.some E.unit F.unit z w (lt_of_le_of_lt hz E.most) (lt_of_le_of_lt hw F.most)

  places_same : (l m : List Point) → Every (Near e.most) l → Every (Near f.most) m → Pairwise (SamePoint e.unit f.unit) l m → places_of e.unit l ≡ places_of f.unit m
  places_same [] [] hl hm a = refl
  places_same [] (q ∷ m) hl hm a = absurd a
  places_same (p ∷ l) [] hl hm a = absurd a
  places_same (p ∷ l) (q ∷ m) hl hm a =
      let x = place_same p.x q.x hl.0.x hm.0.x a.0.x in
      let y = place_same p.y q.y hl.0.y hm.0.y a.0.y in
      let z = place_same p.z q.z hl.0.z hm.0.z a.0.z in
      let r = places_same l m hl.1 hm.1 a.1 in
      λ i. x i ∷ y i ∷ z i ∷ r i

pub conversion-keeps : (e f : Edition) → Exact e → Exact f → (s t : Sheet) → InRange e.most s → InRange f.most t → Converted e.unit f.unit s t → SameSurface e.unit f.unit s t
conversion-keeps e f E F s t hs ht a = record {
  points = places_same e f E F s.points t.points hs.near ht.near a.points;
  corners = ap corners_of (sym a.triangles);
  labels = ap labels_of (sym a.triangles);
}

pub conversion-laws : ConversionLaws
conversion-laws = record {
  keeps = conversion-keeps;
  one = one-conversion;
  back = λ u v h s t s' a b. one-conversion v u h t s s' (converted_sym u v s t a) b;
  computed = λ u v p q s h. computed u v p q s h;
  convertible = λ u v p q s t a. computed_where u v p q s t a;
}

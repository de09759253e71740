-- Six times the volume of a list of triangles in which each directed side's reverse occurs as often is the same from any origin.
-- Between two origins the tetrahedra over a triangle differ by a sum over its three directed sides, of a number that changes its sign with the side's direction.
use Prim.Native.Nat.{ℕ}
use mathlib.Core.Path.{◌≡◌, refl, sym, ap, ap₂, ◌∙◌}
use mathlib.Core.List.{List, [], ◌∷◌}
use lib.IntN.{ℤ, pos, neg_ℤ, ◌+ℤ◌, +ℤ_idl, +ℤ_idr}
use Rattle.surface.specs.Triangle.{Tri}
use Rattle.surface.specs.Original.{directed}
use Rattle.units.specs.Units.{WholePoint}
use Rattle.volume.specs.Six.{measured_from, cross, dot, six_at, six}
use Rattle.integers.proofs.Polynomial.{Expression, at, whole, plus, minus, identity, vanishes}
use Rattle.volume.specs.Volume.{Balanced}
use Rattle.volume.proofs.Symbols.{Symbol, symbol, fromₑ, crossₑ, dotₑ, determinantₑ}
use Rattle.volume.proofs.Sides.{along, cancels}

abbrev O : Symbol
O = symbol 0

abbrev O' : Symbol
O' = symbol 3

abbrev A : Symbol
A = symbol 6

abbrev B : Symbol
B = symbol 9

abbrev C : Symbol
C = symbol 12

abbrev sixₑ : Symbol → Expression
sixₑ o = determinantₑ (fromₑ o A) (fromₑ o B) (fromₑ o C)

abbrev shiftₑ : Symbol → Symbol → Expression
shiftₑ u v = dotₑ (fromₑ O' O) (crossₑ (fromₑ O u) (fromₑ O v))

module _ (point : ℕ → WholePoint) (o o' : WholePoint) where
  -- what a directed side adds
  abbrev shift : ℕ → ℕ → ℤ
  shift u v = dot (measured_from o' o) (cross (measured_from o (point u)) (measured_from o (point v)))

  abbrev numbers : (a b c : WholePoint) → List ℤ
  numbers a b c = o.x ∷ o.y ∷ o.z ∷ o'.x ∷ o'.y ∷ o'.z ∷ a.x ∷ a.y ∷ a.z ∷ b.x ∷ b.y ∷ b.z ∷ c.x ∷ c.y ∷ c.z ∷ []

  shift_turns : (u v : ℕ) → shift v u ≡ neg_ℤ (shift u v)
  unfolding vanishes
  shift_turns u v = identity (shiftₑ B A) (minus (whole (pos 0)) (shiftₑ A B)) (numbers (point u) (point v) o) refl ∙ +ℤ_idl (neg_ℤ (shift u v))

  six_shift : (t : Tri) → six_at o' point t ≡ six_at o point t +ℤ (shift t.a t.b +ℤ (shift t.b t.c +ℤ shift t.c t.a))
  unfolding vanishes
  six_shift t =
      identity (sixₑ O') (plus (sixₑ O) (plus (shiftₑ A B) (plus (shiftₑ B C) (shiftₑ C A)))) (numbers (point t.a) (point t.b) (point t.c)) refl

  differ : (ts : List Tri) → six o' point ts ≡ six o point ts +ℤ along shift (directed ts)
  unfolding six along directed
  differ [] = refl
  differ (t ∷ ts) =
      ap₂ (λ (j k : ℤ). j +ℤ k) (six_shift t) (differ ts)
      ∙ identity (plus (plus (at 0) (plus (at 1) (plus (at 2) (at 3)))) (plus (at 4) (at 5))) (plus (plus (at 0) (at 4)) (plus (at 1) (plus (at 2) (plus (at 3) (at 5)))))
      (six_at o point t ∷ shift t.a t.b ∷ shift t.b t.c ∷ shift t.c t.a ∷ six o point ts ∷ along shift (directed ts) ∷ []) (unfold vanishes in refl)

-- the origin does not matter
pub six_origin : (point : ℕ → WholePoint) (ts : List Tri) → Balanced ts → (o o' : WholePoint) → six o point ts ≡ six o' point ts
six_origin point ts p o o' =
    sym (differ point o o' ts ∙ ap (λ (k : ℤ). six o point ts +ℤ k) (cancels (shift point o o') (shift_turns point o o') ts p) ∙ +ℤ_idr (six o point ts))

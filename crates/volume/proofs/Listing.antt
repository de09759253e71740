-- Six times the volume of a list of triangles is the same in any order, for any corner at which each triangle's turn begins, and for any numbers of the corners.
use Prim.Native.Nat.{ℕ, suc, ◌<◌}
use mathlib.Core.Path.{◌≡◌, refl, sym, ap₂, ◌∙◌}
use mathlib.Core.List.{List, [], ◌∷◌, Permᴰ}
use native.Mathlib.Omega.{arith}
use lib.IntN.{ℤ, ◌+ℤ◌}
use lib.ListN.{length, get_or}
use Rattle.surface.specs.Triangle.{Tri, triangles}
use Rattle.surface.specs.Renumber.{renumbered}
use Rattle.surface.specs.PageTwelve.{turned, Turns, first, second, third, EachTurns, none, more, Relisted}
use Rattle.integers.proofs.Ring.{swap_first}
use Rattle.integers.proofs.Polynomial.{identity, vanishes}
use Rattle.units.specs.Units.{WholePoint}
use Rattle.volume.specs.Six.{measured_from, determinant, six_at, six}
use Rattle.volume.proofs.Symbols.{symbol, fromₑ, determinantₑ}

module _ (o : WholePoint) (point : ℕ → WholePoint) where
  six-turned : (t : Tri) → six_at o point t ≡ six_at o point (turned t)
  unfolding vanishes
  six-turned t =
      let a = point t.a in
      let b = point t.b in
      let c = point t.c in
      identity
      (determinantₑ (fromₑ (symbol 0) (symbol 3)) (fromₑ (symbol 0) (symbol 6)) (fromₑ (symbol 0) (symbol 9)))
      (determinantₑ (fromₑ (symbol 0) (symbol 6)) (fromₑ (symbol 0) (symbol 9)) (fromₑ (symbol 0) (symbol 3)))
      (o.x ∷ o.y ∷ o.z ∷ a.x ∷ a.y ∷ a.z ∷ b.x ∷ b.y ∷ b.z ∷ c.x ∷ c.y ∷ c.z ∷ [])
      refl

  six-turns : {s t : Tri} → Turns s t → six_at o point s ≡ six_at o point t
  six-turns first = refl
  six-turns {s} second = six-turned s
  six-turns {s} third = six-turned s ∙ six-turned (turned s)

  six-each : {ss ts : List Tri} → EachTurns ss ts → six o point ss ≡ six o point ts
  unfolding six
  six-each none = refl
  six-each (more k l) = ap₂ (λ (x y : ℤ). x +ℤ y) (six-turns k) (six-each l)

  six_perm : {ts us : List Tri} → Permᴰ ts us → six o point ts ≡ six o point us
  unfolding six
  six_perm Permᴰ.nil = refl
  six_perm (Permᴰ.cons e d) = ap₂ (λ (t : Tri) (k : ℤ). six_at o point t +ℤ k) e (six_perm d)
  six_perm (Permᴰ.swap {a = s} {b = t} {l = l} e f) =
      swap_first (six_at o point s) (six_at o point t) (six o point l) ∙ ap₂ (λ (x y : Tri). six_at o point x +ℤ (six_at o point y +ℤ six o point l)) f e
  six_perm (Permᴰ.trans d e) = six_perm d ∙ six_perm e

  -- the listing does not matter
  pub six_listing : {ts us : List Tri} → Relisted ts us → six o point ts ≡ six o point us
  six_listing r = six_perm r.same ∙ six-each r.turns

-- the numbers do not matter, where each corner lies where it lay
pub six-renumbered : (o : WholePoint) (point point' : ℕ → WholePoint) (number : ℕ → ℕ) (cs : List ℕ) → ((k : ℕ) → k < length cs → point' (number (get_or cs k 0)) ≡ point (get_or cs k 0))
    → six o point (triangles cs) ≡ six o point' (renumbered number (triangles cs))
unfolding six triangles
six-renumbered o point point' number [] h = refl
six-renumbered o point point' number (x ∷ []) h = refl
six-renumbered o point point' number (x ∷ y ∷ []) h = refl
six-renumbered o point point' number (x ∷ y ∷ z ∷ cs) h =
    let first : point' (number x) ≡ point x = h 0 (omega arith) in
    let second : point' (number y) ≡ point y = h 1 (omega arith) in
    let third : point' (number z) ≡ point z = h 2 (omega arith) in
    ap₂ (λ (i j : ℤ). i +ℤ j) (λ i. determinant (measured_from o (sym first i)) (measured_from o (sym second i)) (measured_from o (sym third i)))
    (six-renumbered o point point' number cs (λ k l. h (suc (suc (suc k))) (omega arith)))

-- Twins: each place has one, it is another, and its twin is the place.
use Prim.Native.Nat.{ℕ, zero, suc, ◌<◌}
use native.Mathlib.Omega.{arith}
use mathlib.Core.Path.{◌≡◌, refl, sym, ap, ◌∙◌}
use mathlib.Core.Logic.{◌⊎◌, inl, inr, ⊎_elim}
use mathlib.Core.List.{List}
use lib.ListN.{length}
use Rattle.halfedges.specs.Place.{nx, at}
use Rattle.halfedges.proofs.Fine.{apart-cases}
use Rattle.sides.specs.Side.{Twin, Met, find}
use Rattle.sides.proofs.Edge.{find-is, find-some}
use Rattle.sides.specs.Order.{Upward}

pub twin-one : (c : List ℕ) (k s t : ℕ) → Met c → Twin c k s → Twin c k t → s ≡ t
twin-one c k s t met a b = met.once s t a.low b.low (a.from ∙ sym b.from) (a.to ∙ sym b.to)

pub twin-back : (c : List ℕ) (k t : ℕ) → k < length c → Twin c k t → Twin c t k
twin-back c k t l a = record { low = l; from = sym a.to; to = sym a.from }

pub twin-twice : (c : List ℕ) (k t u : ℕ) → Met c → k < length c → Twin c k t → Twin c t u → u ≡ k
twin-twice c k t u met l a b = twin-one c t u k met b (twin-back c k t l a)

pub twin_other : (c : List ℕ) (k t : ℕ) → Met c → k < length c → Twin c k t → t ≡ k → ⊥
twin_other c k t met l a e = met.differ k l (ap (at c) (sym e) ∙ a.from)

-- as an equation: the twin is where the side is found the other way
pub twin-find : (c : List ℕ) (k t : ℕ) → Met c → Twin c k t → find c (at c (nx k)) (at c k) (length c) ≡ suc t
twin-find c k t met a = go (find c (at c (nx k)) (at c k) (length c)) refl
  where
    go : (m : ℕ) → find c (at c (nx k)) (at c k) (length c) ≡ m → find c (at c (nx k)) (at c k) (length c) ≡ suc t
    go zero e = absurd (find-some c (at c (nx k)) (at c k) (length c) t (record { low = a.low; from = a.from; to = a.to }) e)
    go (suc j) e =
        let u = find-is c (at c (nx k)) (at c k) (length c) j e in
        e ∙ ap suc (met.once j t u.low a.low (u.from ∙ sym a.from) (u.to ∙ sym a.to))

-- of a place and its twin one starts at the smaller corner
pub twin-upward : (c : List ℕ) (k t : ℕ) → Met c → k < length c → Twin c k t → Upward c k ⊎ Upward c t
twin-upward c k t met l a =
    ⊎_elim
    (λ (h : at c k < at c (nx k)). inl (record { low = l; less = h }))
    (λ (h : at c (nx k) < at c k). inr (record { low = a.low; less = omega (arith, a.from, a.to, h) }))
    (apart-cases (at c k) (at c (nx k)) (met.differ k l))

pub twin_downward : (c : List ℕ) (k t : ℕ) → Twin c k t → Upward c k → Upward c t → ⊥
twin_downward c k t a u v = omega (arith, a.from, a.to, u.less, v.less)

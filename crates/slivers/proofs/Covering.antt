-- The marks of the labels say whether one corner has all labels of another.
use Prim.Native.Nat.{ℕ, ◌<◌}
use native.Mathlib.Omega.{arith}
use mathlib.Core.Path.{◌≡◌, refl, sym, ◌∙◌}
use mathlib.Core.Bool.{Bool, true, false, false≢true}
use mathlib.Core.List.{List}
use Rattle.surface.specs.Triangle.{triangles}
use Rattle.surface.specs.Closed.{one}
use Rattle.surface.specs.Label.{carries}
use Rattle.history.specs.History.{covered}
use Rattle.rounds.proofs.Loops.{covered_iff}
use Rattle.chains.proofs.Common.{same_test}
use Rattle.chains.specs.LabelMarks.{Labelled, Carried}
use Rattle.chains.proofs.LabelMarks.{held_by}
use Rattle.slivers.specs.Cover.{Covering, Covers}

-- with the marks of the labels it is the definition's test
pub covers_covered : (c ls : List ℕ) (p : ℕ) (w : List ℕ) (carried a b : ℕ) (r : Bool) → a < p → b < p → Labelled c ls → Carried c ls p w carried → Covers w carried a b r → r ≡ covered (record { tris = triangles c; labels = ls }) a b
covers_covered c ls p w carried a b r la lb lab m k = same_test r (covered (record { tris = triangles c; labels = ls }) a b) to back
  where
    bit : (t : Bool) → one t ≡ 0 → t ≡ true → ⊥
    bit true e f = let z : ◌≡◌ {A = ℕ} 1 0 = e in omega arith
    bit false e f = false≢true f

    unbit : (t : Bool) → (one t ≡ 0 → ⊥) → t ≡ true
    unbit true n = refl
    unbit false n = absurd (n refl)

    low : (v l : ℕ) → carries (triangles c) ls v l ≡ true → l < 8
    low v l e = let h = held_by (triangles c) ls v l e in let z = lab.small h.i h.fits in let y = h.label in omega arith

    to : r ≡ true → covered (record { tris = triangles c; labels = ls }) a b ≡ true
    to e = (covered_iff (record { tris = triangles c; labels = ls }) a b).1 (λ l q.
        let o = low b l q in
        unbit (carries (triangles c) ls a l) (λ z. k.yea e l o (λ y. bit (carries (triangles c) ls b l) (sym (m.each b l lb o) ∙ y) q) (m.each a l la o ∙ z)))

    covering : covered (record { tris = triangles c; labels = ls }) a b ≡ true → Covering w carried a b 8
    covering e l o n z =
        let q : carries (triangles c) ls b l ≡ true = unbit (carries (triangles c) ls b l) (λ y. n (m.each b l lb o ∙ y)) in
        bit (carries (triangles c) ls a l) (sym (m.each a l la o) ∙ z) ((covered_iff (record { tris = triangles c; labels = ls }) a b).0 e l q)

    back : covered (record { tris = triangles c; labels = ls }) a b ≡ true → r ≡ true
    back e = go r refl
      where
        go : (t : Bool) → r ≡ t → r ≡ true
        go true q = q
        go false q = absurd (k.nay q (covering e))

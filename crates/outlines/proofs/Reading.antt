-- Reading the words: what `next_place`, `up_place` and `is_open` find.
use Prim.Native.Nat.{ℕ, ◌+◌, ◌*◌, ◌<◌, ◌≤◌}
use mathlib.Core.Path.{◌≡◌, refl, sym, ◌∙◌, ap, ap₂}
use mathlib.Core.Bool.{Bool, true, false, cond}
use mathlib.Core.List.{List}
use native.Mathlib.Omega.{arith}
use lib.Dec.{eqb, ltb}
use lib.ListN.{length, set}
use borrow.Author.Tests.{eq-eqb, ne_eqb, lt-ltb, le-ltb}
use Rattle.halfedges.specs.Place.{nx, pv, at}
use Rattle.halfedges.proofs.Fine.{nx-below, pv-below}
use Rattle.sides.specs.Side.{twins-from}
use Rattle.outlines.specs.Stages.Trace.{kinds-from, marks-from, kind_of, next_place, upper_of, up_place, open?, with_mark, put3, with_place, Walkable}

-- of a side's two places
module _ (c : List ℕ) (k t x y : ℕ) (ex : x ≡ at c k) (ey : y ≡ at c (nx k)) where
  pub up_first : x < y → k ≡ upper_of c k t
  up_first l = rw (lt-ltb (at c k) (at c (nx k)) (omega arith)) refl

  pub up_second : y ≤ x → t ≡ upper_of c k t
  up_second l = rw (le-ltb (at c k) (at c (nx k)) (omega arith)) refl

module _ (c : List ℕ) (p : ℕ) (w : List ℕ) (k : ℕ) where
  pub from_low : Walkable c p w → k < length c → at c k < p
  from_low r l = r.below k l

  pub to_low : Walkable c p w → k < length c → at c (nx k) < p
  to_low r l = r.below (nx k) (nx-below (length c) k r.thirds l)

  pub apex_low : Walkable c p w → k < length c → at c (pv k) < p
  apex_low r l = r.below (pv k) (pv-below (length c) k r.thirds l)

  pub next_low : Walkable c p w → k < length c → next_place c p w k < length c
  next_low r l = go (eqb (kind_of c p w (at c (pv k))) (kind_of c p w (at c k)))
    where
      go : (b : Bool) → at w (twins-from c p + cond b (nx k) (pv k)) < length c
      go true = (r.twins (nx k) (nx-below (length c) k r.thirds l)).low
      go false = (r.twins (pv k) (pv-below (length c) k r.thirds l)).low

  pub up-low : Walkable c p w → k < length c → up_place c p w k < length c
  up-low r l = go (ltb (at c k) (at c (nx k)))
    where
      go : (b : Bool) → cond b k (at w (twins-from c p + k)) < length c
      go true = l
      go false = (r.twins k l).low

  -- a word is known by where its area starts and by its place there
  word_at : {base base' x x' result : ℕ} → base ≡ base' → x ≡ x' → result ≡ at w (base + x) → result ≡ at w (base' + x')
  word_at eb ex er = er ∙ ap₂ (λ (i j : ℕ). at w (i + j)) eb ex

  -- what is found, by what is read
  pub next-same : (twins kinds x z from apex j result : ℕ) → twins ≡ twins-from c p → kinds ≡ kinds-from c p → x ≡ at c k → z ≡ at c (pv k) → from ≡ at w (kinds + x) → apex ≡ at w (kinds + z) → apex ≡ from
      → j ≡ nx k → result ≡ at w (twins + j) → result ≡ next_place c p w k
  next-same twins kinds x z from apex j result et ek ex ez ef ea e ej er =
      rw (eq-eqb (kind_of c p w (at c (pv k))) (kind_of c p w (at c k)) (sym (word_at ek ez ea) ∙ e ∙ word_at ek ex ef)) (word_at et ej er)

  pub next_other : (twins kinds x z from apex j result : ℕ) → twins ≡ twins-from c p → kinds ≡ kinds-from c p → x ≡ at c k → z ≡ at c (pv k) → from ≡ at w (kinds + x) → apex ≡ at w (kinds + z) → (apex ≡ from → ⊥)
      → j ≡ pv k → result ≡ at w (twins + j) → result ≡ next_place c p w k
  next_other twins kinds x z from apex j result et ek ex ez ef ea e ej er =
      rw (ne_eqb (kind_of c p w (at c (pv k))) (kind_of c p w (at c k)) (λ d. e (word_at ek ez ea ∙ d ∙ sym (word_at ek ex ef)))) (word_at et ej er)

  pub up_of : (twins t u : ℕ) → twins ≡ twins-from c p → t ≡ at w (twins + k) → u ≡ upper_of c k t → u ≡ up_place c p w k
  up_of twins t u et er eu = eu ∙ ap (upper_of c k) (word_at et refl er)

  pub upper_low : (twins t u : ℕ) → twins ≡ twins-from c p → t ≡ at w (twins + k) → u ≡ upper_of c k t → Walkable c p w → k < length c → u < length c
  upper_low twins t u et er eu r l = omega (arith, up-low r l, up_of twins t u et er eu)

  pub open_same : (kinds x y from to : ℕ) → kinds ≡ kinds-from c p → x ≡ at c k → y ≡ at c (nx k) → from ≡ at w (kinds + x) → to ≡ at w (kinds + y) → from ≡ to → false ≡ open? c p w k
  open_same kinds x y from to ek ex ey ef et e = rw (eq-eqb (kind_of c p w (at c k)) (kind_of c p w (at c (nx k))) (sym (word_at ek ex ef) ∙ e ∙ word_at ek ey et)) refl

  pub open_other : (kinds marks x y from to mark : ℕ) → kinds ≡ kinds-from c p → marks ≡ marks-from c p → x ≡ at c k → y ≡ at c (nx k) → from ≡ at w (kinds + x) → to ≡ at w (kinds + y) → (from ≡ to → ⊥)
      → mark ≡ at w (marks + k) → eqb mark 0 ≡ open? c p w k
  open_other kinds marks x y from to mark ek em ex ey ef et e er =
      rw (ne_eqb (kind_of c p w (at c k)) (kind_of c p w (at c (nx k))) (λ d. e (word_at ek ex ef ∙ d ∙ sym (word_at ek ey et))), word_at em refl er) refl

  -- a visit
  pub marked-is : (marks u : ℕ) (w' : List ℕ) → marks ≡ marks-from c p → u ≡ up_place c p w k → w' ≡ set w (marks + u) 1 → w' ≡ with_mark c p w k
  marked-is marks u w' em eu ew = ew ∙ ap₂ (λ (i j : ℕ). set w (i + j) 1) em eu

  pub noted-is : (u low high f q : ℕ) (l l1 l2 l3 : List ℕ) → u ≡ up_place c p w k → low ≡ at c u → high ≡ at c (nx u) → l1 ≡ set l (3 * f) low → l2 ≡ set l1 (3 * f + 1) high
      → l3 ≡ set l2 (3 * f + 2) q → l3 ≡ with_place c p w l k f q
  noted-is u low high f q l l1 l2 l3 eu el eh e1 e2 e3 =
      e3 ∙ ap (λ (m : List ℕ). set m (3 * f + 2) q) (e2 ∙ ap₂ (λ (m : List ℕ) (h : ℕ). set m (3 * f + 1) h) (e1 ∙ ap (set l (3 * f)) el) eh)
      ∙ ap (λ (i : ℕ). put3 l f (at c i) (at c (nx i)) q) eu

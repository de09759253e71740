-- The verdict word of an edit from its tests.
use Prim.Native.Nat.{ℕ}
use mathlib.Core.Path.{◌≡◌, sym, ◌∙◌, ap}
use mathlib.Core.Bool.{Bool, true, false, cond}
use mathlib.Core.List.{List}
use native.Mathlib.Omega.{arith}
use lib.Dec.{eqb}
use lib.ListN.{get_or, take}
use lib.Seq.{get_or-take}
use borrow.Author.Tests.{eq-eqb, ne_eqb}
use Rattle.surface.specs.Edit.{Hinge}
use Rattle.history.specs.Local.{else}
use Rattle.history.specs.History.{covered}
use Rattle.surface.specs.Flat.{held}
use Rattle.history.specs.Flat.{pair_of}
use Rattle.verdicts.specs.Found.{Hung}
use Rattle.verdicts.specs.declared.Found.{Found}
use Rattle.history.specs.Local.{flip?, collapse?, flip_word, collapse_word}

module _ {l ls : List ℕ} {n a b : ℕ} (f : Found) (h : Hung l ls n a b f) (space : Bool) where
  parts : flip_word (pair_of l ls n) a b space
      ≡ else (cond (eqb (get_or ls f.earlier 0) (get_or ls f.later 0)) 0 23) (else (cond (flip? (held l n) a b) 0 25) (cond space 0 27))
  parts =
      let i = get_or-take n ls f.earlier 0 (omega (arith, h.places.order, h.places.fits)) in
      let j = get_or-take n ls f.later 0 h.places.fits in
      sym (ap (λ (g : Hinge). else (cond (eqb (get_or (take n ls) g.p1 0) (get_or (take n ls) g.p2 0)) 0 23) (else (cond (flip? (held l n) a b) 0 25) (cond space 0 27))) h.is)
      ∙ rw (i, j)

  pub unlike_word : (get_or ls f.earlier 0 ≡ get_or ls f.later 0 → ⊥) → 23 ≡ flip_word (pair_of l ls n) a b space
  unlike_word m = sym (parts ∙ rw (ne_eqb (get_or ls f.earlier 0) (get_or ls f.later 0) m))

  module _ (e : get_or ls f.earlier 0 ≡ get_or ls f.later 0) (k : Bool) (ek : k ≡ flip? (held l n) a b) where
    pub flip-word-is : (j : Bool) → k ≡ j → else (cond j 0 25) (cond space 0 27) ≡ flip_word (pair_of l ls n) a b space
    flip-word-is j g = sym (parts ∙ rw (eq-eqb (get_or ls f.earlier 0) (get_or ls f.later 0) e, ← ek, g))

  module _ (c : Bool) (ec : c ≡ covered (pair_of l ls n) a b) where
    pub uncovered_word : c ≡ false → 24 ≡ collapse_word (pair_of l ls n) a b space
    uncovered_word g = rw (← ec, g)

    pub collapse-word-is : c ≡ true → (k : Bool) → k ≡ collapse? (held l n) a b → (j : Bool) → k ≡ j → else (cond j 0 25) (cond space 0 27) ≡ collapse_word (pair_of l ls n) a b space
    collapse-word-is g k ek j gj = rw (← ec, g, ← ek, gj)

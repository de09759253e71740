-- Words that stages leave free, put together.
use Prim.Native.Nat.{ℕ, ◌+◌, ◌-◌, ◌<◌, ◌≤◌}
use native.Mathlib.Omega.{arith}
use mathlib.Core.Path.{◌≡◌, refl, sym, ap, ◌∙◌, subst}
use mathlib.Core.List.{List, ◌++◌}
use lib.ListN.{length, drop, replicate, set, length-set, length-drop, length-append, length-replicate}
use lib.Seq.{ext_get_or, get_or-drop, get_or-set_other, drop_at}
use Rattle.halfedges.specs.Place.{at}
use Rattle.halfedges.specs.Free.{Free}

-- nothing is done
pub free_none : {lo hi : ℕ} (w : List ℕ) → Free lo hi w w
free_none w = record { len = refl; under = λ j l. refl; over = λ j l. refl }

-- more words are called free than are
pub free_wider : {lo hi : ℕ} {w w' : List ℕ} (lo' hi' : ℕ) → lo' ≤ lo → hi ≤ hi' → Free lo hi w w' → Free lo' hi' w w'
free_wider lo' hi' a b f = record { len = f.len; under = λ j l. f.under j (omega arith); over = λ j l. f.over j (omega arith) }

-- one stage after another
pub free_more : {lo hi : ℕ} {w w' w'' : List ℕ} → Free lo hi w w' → Free lo hi w' w'' → Free lo hi w w''
free_more f g = record { len = g.len ∙ f.len; under = λ j l. g.under j l ∙ f.under j l; over = λ j l. g.over j l ∙ f.over j l }

-- a word is written
pub free_set : (lo hi i x : ℕ) (w : List ℕ) → lo ≤ i → i < hi → Free lo hi w (set w i x)
free_set lo hi i x w a b = record {
  len = length-set w i x;
  under = λ j l. get_or-set_other w i j x 0 (λ z. omega arith);
  over = λ j l. get_or-set_other w i j x 0 (λ z. omega arith);
}

pub free_put : {lo hi : ℕ} {w w' w'' : List ℕ} (i x : ℕ) → Free lo hi w w' → w'' ≡ set w' i x → lo ≤ i → i < hi → Free lo hi w w''
free_put {lo} {hi} {w} {w'} i x f e a b = free_more f (subst (λ (v : List ℕ). Free lo hi w' v) (sym e) (free_set lo hi i x w' a b))

-- all words from hi on stay
pub free_far : (hi : ℕ) (w w' : List ℕ) → length w' ≡ length w → drop hi w' ≡ drop hi w → Free 0 hi w w'
free_far hi w w' e f = record { len = e; under = λ j l. absurd (omega arith); over = λ j l. over j l }
  where
    over : (j : ℕ) → hi ≤ j → at w' j ≡ at w j
    over j l =
        let z : hi + (j - hi) ≡ j = omega arith in
        subst (λ (k : ℕ). at w' k ≡ at w k) z (sym (get_or-drop hi w' (j - hi) 0) ∙ ap (λ (x : List ℕ). at x (j - hi)) f ∙ get_or-drop hi w (j - hi) 0)

-- the first words are cleared
pub free_cleared : (n : ℕ) (w w' : List ℕ) → n ≤ length w → w' ≡ replicate n 0 ++ drop n w → Free 0 n w w'
free_cleared n w w' l e =
    free_far n w w' (ap length e ∙ length-append (replicate n 0) (drop n w) ∙ omega (arith, length-replicate {A = ℕ} n 0, length-drop n w)) (ap (drop n) e ∙ drop_at (replicate n 0) (drop n w) n (length-replicate n 0))

pub free_drop : {lo hi : ℕ} {w w' : List ℕ} → Free lo hi w w' → drop hi w' ≡ drop hi w
free_drop {lo} {hi} {w} {w'} f =
    ext_get_or 0 (drop hi w') (drop hi w) (omega (arith, length-drop hi w', length-drop hi w, f.len)) (λ i l. get_or-drop hi w' i 0 ∙ f.over (hi + i) (omega arith) ∙ sym (get_or-drop hi w i 0))

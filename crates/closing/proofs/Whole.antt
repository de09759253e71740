-- From stage to stage of the whole check.
use Prim.Native.Nat.{ℕ, ◌+◌, ◌-◌, ◌%◌, ◌≤◌, ◌<◌}
use mathlib.Core.Path.{◌≡◌, refl, sym, ap, ◌∙◌, subst}
use mathlib.Core.Bool.{Bool, true, false}
use mathlib.Core.List.{List, ◌++◌}
use native.Mathlib.Omega.{arith}
use Rattle.std.specs.Prelude.{Option, None, Some}
use lib.Dec.{ltb}
use lib.ListN.{length, drop, replicate, length-replicate, get_or-replicate, get_or-append, replicate-append-replicate}
use lib.Seq.{drop-drop, drop_at}
use borrow.Author.Tests.{ltb-true, ltb-false}
use Rattle.surface.specs.Triangle.{triangles}
use Rattle.surface.specs.Closed.{Manifold}
use Rattle.halfedges.specs.Place.{at, Sized}
use Rattle.halfedges.proofs.Fine.{Fine, fine_of, rounded_of, fine-unused, unused-past}
use Rattle.halfedges.proofs.Steps.{length_pl}
use Rattle.halfedges.proofs.Whole.{Enough}
use Rattle.closing.specs.Closing.{needed, Lent, Zeroed}
use Rattle.closing.specs.Stages.{used, Chained, Ready, IsUnringed}

pub zero-at : (n i : ℕ) (w t : List ℕ) → w ≡ replicate n 0 ++ t → i < n → at w i ≡ 0
zero-at n i w t e l =
    ap (λ (x : List ℕ). at x i) e
    ∙ get_or-append (replicate n 0) t 0 i (subst (λ (k : ℕ). i < k) (sym (length-replicate n 0)) l)
    ∙ get_or-replicate n i 0 0 l

-- what is equal from u on is equal from m on
pub far-on : (u m : ℕ) (a b : List ℕ) → u ≤ m → drop u a ≡ drop u b → drop m a ≡ drop m b
far-on u m a b h e =
    let z : u + (m - u) ≡ m = omega arith in
    subst (λ (k : ℕ). drop k a ≡ drop k b) z (sym (drop-drop (m - u) u a) ∙ ap (drop (m - u)) e ∙ drop-drop (m - u) u b)

-- past the cleared words
pub far_clear : (n : ℕ) (w d : List ℕ) → w ≡ replicate n 0 ++ drop n d → drop n w ≡ drop n d
far_clear n w d e = ap (drop n) e ∙ drop_at (replicate n 0) (drop n d) n (length-replicate n 0)

-- of words that are 0, any further ones are
pub drop-zeros : (n k : ℕ) → k ≤ n → drop {A = ℕ} k (replicate n 0) ≡ replicate (n - k) 0
drop-zeros n k h =
    let e : k + (n - k) ≡ n = omega arith in
    ap (drop k) (sym (replicate-append-replicate k (n - k) 0 ∙ ap (λ (m : ℕ). replicate m 0) e)) ∙ drop_at (replicate k 0) (replicate (n - k) 0) k (length-replicate k 0)

-- the lent words are used, then cleared
pub zeroed-past : (c : List ℕ) (p : ℕ) (w₀ w₁ w₂ : List ℕ) → drop (needed c p) w₁ ≡ drop (needed c p) w₀ → Zeroed c p w₁ w₂ → Zeroed c p w₀ w₂
zeroed-past c p w₀ w₁ w₂ far e = e ∙ ap (λ (t : List ℕ). replicate (needed c p) 0 ++ t) far

-- and were used by the judgement alone
pub zeroed-used : (c : List ℕ) (p : ℕ) (w₀ w₁ w₂ : List ℕ) → length c % 3 ≡ 0 → drop (used c p) w₁ ≡ drop (used c p) w₀ → Zeroed c p w₁ w₂ → Zeroed c p w₀ w₂
zeroed-used c p w₀ w₁ w₂ thirds far e = zeroed-past c p w₀ w₁ w₂ (far-on (used c p) (needed c p) w₁ w₀ (omega (arith, thirds)) far) e

-- the lent words are cleared twice
pub zeroed-again : (c : List ℕ) (p : ℕ) (w₀ w₁ w₂ : List ℕ) → Zeroed c p w₀ w₁ → Zeroed c p w₁ w₂ → Zeroed c p w₀ w₂
zeroed-again c p w₀ w₁ w₂ e f = zeroed-past c p w₀ w₁ w₂ (far_clear (needed c p) w₁ w₀ e) f

-- as many words are lent as before
pub lent_again : {c : List ℕ} {p : ℕ} {w w' : List ℕ} → length w' ≡ length w → Lent c p w → Lent c p w'
lent_again e h = record { thirds = h.thirds; few = h.few; points = h.points; below = h.below; room = omega (arith, h.room) }

-- where no stamp is set, any corner may come next
pub ready-from : {c : List ℕ} {p : ℕ} {w : List ℕ} {v : ℕ} → Ready c p w 0 → Ready c p w v
ready-from h = record { sized = h.sized; linked = h.linked; stamped = λ x l. omega (arith, h.stamped x l) }

module _ (c : List ℕ) (p : ℕ) (w₀ : List ℕ) (given : Lent c p w₀) where
  pub sized-first : (w : List ℕ) → length w ≡ length w₀ → Sized c p w
  sized-first w e = record {
    thirds = given.thirds;
    few = given.few;
    points = given.points;
    below = given.below;
    room = omega (arith, given.room, given.thirds);
  }

  pub ready-first : (w₁ w₂ : List ℕ) → w₁ ≡ replicate (p + p + p) 0 ++ drop (p + p + p) w₀ → length w₁ ≡ length w₀ → length w₂ ≡ length w₁ → Chained c p w₁ w₂ → Ready c p w₂ 0
  ready-first w₁ w₂ e l₁ l₂ h =
      record {
        sized = sized-first w₂ (l₂ ∙ l₁);
        linked = h.linked;
        stamped = λ x l. omega (arith, h.stamps x l, zero-at (p + p + p) (p + x + x) w₁ (drop (p + p + p) w₀) e (omega arith));
      }

  all-fine : ((v : ℕ) → v < p → Fine c v) → (v : ℕ) → Fine c v
  all-fine h v = go (ltb v p) refl
    where
      go : (b : Bool) → ltb v p ≡ b → Fine c v
      go true e = h v (ltb-true v p e)
      go false e = fine-unused c v (unused-past c v p given.below (ltb-false v p e))

  all-enough : (m : ℕ) → ((v : ℕ) → v < p → Enough c m v) → (v : ℕ) → Enough c m v
  all-enough m h v = go (ltb v p) refl
    where
      go : (b : Bool) → ltb v p ≡ b → Enough c m v
      go true e = h v (ltb-true v p e)
      go false e = λ q. absurd (omega (arith, q, length_pl c v (length c), unused-past c v p given.below (ltb-false v p e)))

  -- no corner is found: all are fine, and have enough
  module _ {m : ℕ} {r : Option ℕ} (h : IsUnringed c p m r) where
    pub all-ringed : r ≡ None → Manifold (triangles c)
    all-ringed z = rounded_of c given.thirds (all-fine (h.fine z))

    pub all_more : r ≡ None → (v : ℕ) → Enough c m v
    all_more z = all-enough m (h.more z)

    -- and the other way round
    pub none_unringed : Manifold (triangles c) → ((v : ℕ) → Enough c m v) → r ≡ None
    none_unringed k e = go r refl
      where
        go : (o : Option ℕ) → r ≡ o → r ≡ None
        go None q = q
        go (Some v) q = absurd ((h.first v q).nay (fine_of c given.thirds k v) (e v))

-- What a turn of each loop leaves of the work words.
use Prim.Native.Nat.{ℕ, zero, suc, ◌+◌, ◌<◌, ◌≤◌}
use native.Mathlib.Omega.{arith}
use mathlib.Core.Path.{◌≡◌, refl, sym, ap, ◌∙◌, subst}
use mathlib.Core.Logic.{◌⊎◌, inl, inr, ⊎_elim}
use mathlib.Core.Bool.{Bool, true, false}
use mathlib.Core.List.{List}
use lib.Dec.{eqb}
use lib.ListN.{length, set, drop, length-set}
use lib.Seq.{get_or-set_same, get_or-set_other, drop-set-lt}
use borrow.Author.Tests.{eqb-true, eqb-false}
use Rattle.halfedges.specs.Place.{nx, pv, at, last, uses, plus, Once, Sized, Linked, stamp, note, Stamped, Noted}
use Rattle.halfedges.proofs.Fine.{nx-below, apart-cases}
use Rattle.halfedges.proofs.Chains.{last-same, last_other, last-zero, last_skip, last_le}

pub same_or : (i j : ℕ) → (i ≡ j) ⊎ (i ≡ j → ⊥)
same_or i j = go (eqb i j) refl
  where
    go : (b : Bool) → eqb i j ≡ b → (i ≡ j) ⊎ (i ≡ j → ⊥)
    go true e = inl (eqb-true i j e)
    go false e = inr (eqb-false i j e)

pub sized_other : (c : List ℕ) (p : ℕ) (w w' : List ℕ) → length w' ≡ length w → Sized c p w → Sized c p w'
sized_other c p w w' e s = record { thirds = s.thirds; few = s.few; points = s.points; below = s.below; room = omega (arith, s.room) }

-- a turn of link_corners, at the place k of the corner v
module _ (c : List ℕ) (p : ℕ) (w : List ℕ) (k v a : ℕ) (sized : Sized c p w) (low : k < length c) (v-is : v ≡ at c k) (a-is : a ≡ suc k) where
  v_low : v < p
  v_low = omega (arith, v-is, sized.below k low)

  pub at-turned : (j : ℕ) → (j ≡ v → ⊥) → (j ≡ p + p + p + k → ⊥) → at (set (set w (p + p + p + k) (at w v)) v a) j ≡ at w j
  at-turned j n m = get_or-set_other (set w (p + p + p + k) (at w v)) v j a 0 n ∙ get_or-set_other w (p + p + p + k) j (at w v) 0 m

  pub link_turn : Linked c p w k → Linked c p (set (set w (p + p + p + k) (at w v)) v a) (suc k)
  link_turn h =
      let w₁ = set w (p + p + p + k) (at w v) in
      record {
        heads = λ u l.
            ⊎_elim
            (λ (e : u ≡ v).
            ap (at (set w₁ v a)) e
            ∙ get_or-set_same w₁ v a 0 (subst (λ (n : ℕ). v < n) (sym (length-set w (p + p + p + k) (at w v))) (omega (arith, v_low, sized.room)))
            ∙ a-is ∙ sym (last-same c u k (sym v-is ∙ sym e)))
            (λ (n : u ≡ v → ⊥).
            at-turned u n (λ q. omega arith)
            ∙ h.heads u l ∙ sym (last_other c u k (λ q. n (sym q ∙ sym v-is))))
            (same_or u v);
        links = λ j l.
            ⊎_elim
            (λ (e : j ≡ k).
            ap (λ (i : ℕ). at (set w₁ v a) (p + p + p + i)) e
            ∙ get_or-set_other w₁ v (p + p + p + k) a 0 (λ q. omega (arith, v_low))
            ∙ get_or-set_same w (p + p + p + k) (at w v) 0 (omega (arith, sized.room))
            ∙ h.heads v v_low
            ∙ ap (λ (i : ℕ). last c i k) v-is
            ∙ ap (λ (i : ℕ). last c (at c i) i) (sym e))
            (λ (n : j ≡ k → ⊥). at-turned (p + p + p + j) (λ q. omega (arith, v_low)) (λ q. n (omega arith)) ∙ h.links j (omega (arith, n)))
            (same_or j k);
      }

  pub link-stamps : (x : ℕ) → x < p → stamp p (set (set w (p + p + p + k) (at w v)) v a) x ≡ stamp p w x
  link-stamps x l = at-turned (p + x + x) (λ q. omega (arith, v_low)) (λ q. omega arith)

  pub link-far : drop (p + p + p + length c) (set (set w (p + p + p + k) (at w v)) v a) ≡ drop (p + p + p + length c) w
  link-far =
      drop-set-lt (p + p + p + length c) (set w (p + p + p + k) (at w v)) v a (omega (arith, v_low))
      ∙ drop-set-lt (p + p + p + length c) w (p + p + p + k) (at w v) (omega arith)

pub link-none : (c : List ℕ) (p : ℕ) (w : List ℕ) → ((v : ℕ) → v < p → at w v ≡ 0) → Linked c p w 0
link-none c p w h = record { heads = λ v l. h v l ∙ sym (last-zero c v); links = λ k l. absurd (omega arith) }

-- a turn of mark_entries, at the place k of v, which steps from x to y; a is the stamp of v
module _ (c : List ℕ) (p : ℕ) (w : List ℕ) (v k x y a : ℕ) (sized : Sized c p w) (low : k < length c) (names : at c k ≡ v) (x-is : x ≡ at c (nx k)) (y-is : y ≡ at c (pv k)) (a-is : a ≡ suc v) where
  pub x-low : x < p
  x-low = omega (arith, x-is, sized.below (nx k) (nx-below (length c) k sized.thirds low))

  at-stamp : at (set (set w (p + x + x) a) (p + x + x + 1) y) (p + x + x) ≡ suc v
  at-stamp = get_or-set_other (set w (p + x + x) a) (p + x + x + 1) (p + x + x) y 0 (λ q. omega arith) ∙ get_or-set_same w (p + x + x) a 0 (omega (arith, x-low, sized.room)) ∙ a-is

  at-note : at (set (set w (p + x + x) a) (p + x + x + 1) y) (p + x + x + 1) ≡ y
  at-note = get_or-set_same (set w (p + x + x) a) (p + x + x + 1) y 0 (subst (λ (n : ℕ). p + x + x + 1 < n) (sym (length-set w (p + x + x) a)) (omega (arith, x-low, sized.room)))

  at_others : (j : ℕ) → (j ≡ p + x + x → ⊥) → (j ≡ p + x + x + 1 → ⊥) → at (set (set w (p + x + x) a) (p + x + x + 1) y) j ≡ at w j
  at_others j n m = get_or-set_other (set w (p + x + x) a) (p + x + x + 1) j y 0 m ∙ get_or-set_other w (p + x + x) j a 0 n

  stamp_other : (z : ℕ) → (z ≡ x → ⊥) → stamp p (set (set w (p + x + x) a) (p + x + x + 1) y) z ≡ stamp p w z
  stamp_other z n = at_others (p + z + z) (λ q. n (omega arith)) (λ q. omega arith)

  note_other : (z : ℕ) → (z ≡ x → ⊥) → note p (set (set w (p + x + x) a) (p + x + x + 1) y) z ≡ note p w z
  note_other z n = at_others (p + z + z + 1) (λ q. omega arith) (λ q. n (omega arith))

  pub mark-linked : Linked c p w (length c) → Linked c p (set (set w (p + x + x) a) (p + x + x + 1) y) (length c)
  mark-linked h = record {
    heads = λ u l. at_others u (λ q. omega arith) (λ q. omega arith) ∙ h.heads u l;
    links = λ j l. at_others (p + p + p + j) (λ q. omega (arith, x-low)) (λ q. omega (arith, x-low)) ∙ h.links j l;
  }

  -- a place of v from suc k on is noted under another corner
  fresh : Noted c p w v (suc k) → (stamp p w x ≡ suc v → ⊥) → (j : ℕ) → suc k ≤ j → j < length c → at c j ≡ v → at c (nx j) ≡ x → ⊥
  fresh h free j m l e z = free (ap (stamp p w) (sym z) ∙ h.known j m l e)

  where_is : (j : ℕ) → last c v k ≤ j → at c j ≡ v → (j ≡ k) ⊎ (suc k ≤ j)
  where_is j from e =
      ⊎_elim (λ (z : j ≡ k). inl z) (λ (n : j ≡ k → ⊥). ⊎_elim (λ (m : j < k). absurd (last_skip c v k j from m e)) (λ (m : k < j). inr m) (apart-cases j k n)) (same_or j k)

  pub mark-noted : Noted c p w v (suc k) → (stamp p w x ≡ suc v → ⊥) → Noted c p (set (set w (p + x + x) a) (p + x + x + 1) y) v (last c v k)
  mark-noted h free =
      let w' = set (set w (p + x + x) a) (p + x + x + 1) y in
      record {
        stamped = λ z l.
            ⊎_elim
            (λ (e : z ≡ x). omega (arith, ap (stamp p w') e, at-stamp))
            (λ (n : z ≡ x → ⊥). omega (arith, stamp_other z n, h.stamped z l))
            (same_or z x);
        known = λ j from l e.
            ⊎_elim
            (λ (z : j ≡ k). ap (λ (i : ℕ). stamp p w' (at c (nx i))) z ∙ ap (stamp p w') (sym x-is) ∙ at-stamp)
            (λ (m : suc k ≤ j). stamp_other (at c (nx j)) (fresh h free j m l e) ∙ h.known j m l e)
            (where_is j from e);
        noted = λ j from l e.
            ⊎_elim
            (λ (z : j ≡ k). ap (λ (i : ℕ). note p w' (at c (nx i))) z ∙ ap (note p w') (sym x-is) ∙ at-note ∙ y-is ∙ ap (λ (i : ℕ). at c (pv i)) (sym z))
            (λ (m : suc k ≤ j). note_other (at c (nx j)) (fresh h free j m l e) ∙ h.noted j m l e)
            (where_is j from e);
        found = λ z l q.
            ⊎_elim
            (λ (e : z ≡ x). record { k = k; past = last_le c v k; low = low; names = names; leaves = sym x-is ∙ sym e; lands = sym y-is ∙ sym at-note ∙ ap (note p w') (sym e) })
            (λ (n : z ≡ x → ⊥).
            let u = h.found z l (sym (stamp_other z n) ∙ q) in
            record { k = u.k; past = omega (arith, u.past, last_le c v k); low = u.low; names = u.names; leaves = u.leaves; lands = u.lands ∙ sym (note_other z n) })
            (same_or z x);
      }

  pub mark-next : Linked c p w (length c) → at (set (set w (p + x + x) a) (p + x + x + 1) y) (p + p + p + k) ≡ last c v k
  mark-next h = at_others (p + p + p + k) (λ q. omega (arith, x-low)) (λ q. omega (arith, x-low)) ∙ h.links k low ∙ ap (λ (i : ℕ). last c i k) names

  pub mark-far : drop (p + p + p + length c) (set (set w (p + x + x) a) (p + x + x + 1) y) ≡ drop (p + p + p + length c) w
  mark-far =
      drop-set-lt (p + p + p + length c) (set w (p + x + x) a) (p + x + x + 1) y (omega (arith, x-low))
      ∙ drop-set-lt (p + p + p + length c) w (p + x + x) a (omega (arith, x-low))

  pub mark_clash : Noted c p w v (suc k) → stamp p w x ≡ suc v → Once c v → ⊥
  mark_clash h q once =
      let u = h.found x x-low q in
      let same : u.k ≡ k = once u.k k u.low low u.names names (u.leaves ∙ x-is) in
      omega (arith, u.past, same)

-- the first turn
pub mark-start : (c : List ℕ) (p : ℕ) (w : List ℕ) (v : ℕ) → Stamped p w v → Noted c p w v (last c v (length c))
mark-start c p w v h = record {
  stamped = λ x l. omega (arith, h x l);
  known = λ j from l e. absurd (last_skip c v (length c) j from l e);
  noted = λ j from l e. absurd (last_skip c v (length c) j from l e);
  found = λ x l q. absurd (omega (arith, h x l, q));
}

pub uses_le : (c : List ℕ) (v i : ℕ) → uses c v i ≤ i
unfolding uses
uses_le c v zero = omega arith
uses_le c v (suc i) = go (uses_le c v i) (eqb (at c i) v)
  where
    go : uses c v i ≤ i → (b : Bool) → plus b (uses c v i) ≤ suc i
    go h true = omega arith
    go h false = omega arith

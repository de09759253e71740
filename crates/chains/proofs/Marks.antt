-- The turns of the loops that chain places and stamp corners.
use Prim.Native.Nat.{ℕ, zero, suc, ◌+◌, ◌*◌, ◌-◌, ◌<◌, ◌≤◌}
use native.Mathlib.Omega.{arith}
use mathlib.Core.Path.{◌≡◌, refl, sym, ap, ◌∙◌, subst}
use mathlib.Core.Logic.{◌⊎◌, inl, inr, ⊎_elim}
use mathlib.Core.List.{List}
use lib.ListN.{length, set, length-set}
use lib.Seq.{get_or-set_same, get_or-set_other}
use Rattle.halfedges.specs.Place.{nx, pv, at}
use Rattle.halfedges.proofs.Fine.{nx-below, pv-below}
use Rattle.halfedges.proofs.Turns.{same_or}
use Rattle.sides.specs.Side.{Twin}
use Rattle.chains.specs.Chain.{from, Chained, walk}
use Rattle.chains.proofs.Chain.{from-here, from_on, from-none, walk_here, walk-on, walk_none}
use Rattle.chains.specs.Flat.{Runs}
use Rattle.chains.specs.Marks.{Lists, Marking, stamp_at, Walking}

pub below_next : {c : List ℕ} {p : ℕ} → Lists c p → (k : ℕ) → k < length c → at c (nx k) < p
below_next {c} {p} h k l = h.below (nx k) (nx-below (length c) k h.thirds l)

pub below_last : {c : List ℕ} {p : ℕ} → Lists c p → (k : ℕ) → k < length c → at c (pv k) < p
below_last {c} {p} h k l = h.below (pv k) (pv-below (length c) k h.thirds l)

-- ---- the chains

-- the places from k on are chained, in the words from 0 on
pub record Chaining (c : List ℕ) (p : ℕ) (w : List ℕ) (k : ℕ) : Type 0 where
  pub heads : (v : ℕ) → v < p → at w v ≡ from c v k (length c - k)
  pub links : (j : ℕ) → k ≤ j → j < length c → at w (p + j) ≡ from c (at c j) (suc j) (length c - suc j)

pub chain_first : (c : List ℕ) (p : ℕ) (w : List ℕ) → ((v : ℕ) → v < p → at w v ≡ 0) → Chaining c p w (length c)
chain_first c p w z = record {
  heads = λ v l. let e : length c - length c ≡ 0 = omega arith in z v l ∙ sym (ap (from c v (length c)) e ∙ from-none c v (length c));
  links = λ j m l. absurd (omega arith);
}

pub chain_turn : (c : List ℕ) (p : ℕ) (w : List ℕ) (j v q : ℕ) → Lists c p → p + length c ≤ length w → j < length c → v ≡ at c j → q ≡ suc j
    → Chaining c p w q → Chaining c p (set (set w (p + j) (at w v)) v q) j
chain_turn c p w j v q h room l e eq g = record { heads = heads; links = links }
  where
    low : v < p
    low = omega (arith, h.below j l)

    next : length c - j ≡ suc (length c - suc j)
    next = omega arith

    were : (u : ℕ) → u < p → at w u ≡ from c u (suc j) (length c - suc j)
    were u m = subst (λ (n : ℕ). at w u ≡ from c u n (length c - n)) eq (g.heads u m)

    heads : (u : ℕ) → u < p → at (set (set w (p + j) (at w v)) v q) u ≡ from c u j (length c - j)
    heads u m = ⊎_elim own other (same_or u v)
      where
        own : u ≡ v → at (set (set w (p + j) (at w v)) v q) u ≡ from c u j (length c - j)
        own z =
            ap (at (set (set w (p + j) (at w v)) v q)) z ∙ get_or-set_same (set w (p + j) (at w v)) v q 0 (omega (arith, length-set w (p + j) (at w v))) ∙ eq
            ∙ sym (ap (from c u j) next ∙ from-here c u j (length c - suc j) (sym e ∙ sym z))

        other : (u ≡ v → ⊥) → at (set (set w (p + j) (at w v)) v q) u ≡ from c u j (length c - j)
        other n =
            get_or-set_other (set w (p + j) (at w v)) v u q 0 n ∙ get_or-set_other w (p + j) u (at w v) 0 (λ z. omega arith) ∙ were u m
            ∙ sym (ap (from c u j) next ∙ from_on c u j (length c - suc j) (λ z. n (sym z ∙ sym e)))

    links : (i : ℕ) → j ≤ i → i < length c → at (set (set w (p + j) (at w v)) v q) (p + i) ≡ from c (at c i) (suc i) (length c - suc i)
    links i m n = get_or-set_other (set w (p + j) (at w v)) v (p + i) q 0 (λ z. omega (arith, low)) ∙ ⊎_elim own other (same_or i j)
      where
        own : i ≡ j → at (set w (p + j) (at w v)) (p + i) ≡ from c (at c i) (suc i) (length c - suc i)
        own z =
            ap (λ (n : ℕ). at (set w (p + j) (at w v)) (p + n)) z ∙ get_or-set_same w (p + j) (at w v) 0 (omega arith) ∙ were v low
            ∙ ap (λ (n : ℕ). from c n (suc j) (length c - suc j)) e ∙ ap (λ (n : ℕ). from c (at c n) (suc n) (length c - suc n)) (sym z)

        other : (i ≡ j → ⊥) → at (set w (p + j) (at w v)) (p + i) ≡ from c (at c i) (suc i) (length c - suc i)
        other x = get_or-set_other w (p + j) (p + i) (at w v) 0 (λ z. x (omega arith)) ∙ g.links i (omega (arith, x)) n

pub chain-last : (c : List ℕ) (p : ℕ) (w : List ℕ) → Chaining c p w 0 → Chained c p w 0
chain-last c p w g = record {
  heads = λ v l. let e : 0 + v ≡ v = omega arith in let f : length c - 0 ≡ length c = omega arith in ap (at w) e ∙ g.heads v l ∙ ap (from c v 0) f;
  links = λ k l. let e : 0 + p + k ≡ p + k = omega arith in ap (at w) e ∙ g.links k (omega arith) l;
}

-- the chains lie in a part of other words
pub chained-part : (c : List ℕ) (p base : ℕ) (w w' : List ℕ) → ((j : ℕ) → j < p + length c → at w' (base + j) ≡ at w j) → Chained c p w 0 → Chained c p w' base
chained-part c p base w w' e g = record {
  heads = λ v l. let z : 0 + v ≡ v = omega arith in e v (omega arith) ∙ ap (at w) (sym z) ∙ g.heads v l;
  links = λ k l. let z : base + p + k ≡ base + (p + k) = omega arith in let y : p + k ≡ 0 + p + k = omega arith in ap (at w') z ∙ e (p + k) (omega arith) ∙ ap (at w) y ∙ g.links k l;
}

-- words below `stamps` that stay keep it
pub marking-kept : {c : List ℕ} {p : ℕ} {w : List ℕ} {chains stamps marks : ℕ} (w' : List ℕ) → length w' ≡ length w → ((j : ℕ) → j < stamps → at w' j ≡ at w j) → Marking c p w chains stamps marks → Marking c p w' chains stamps marks
marking-kept {c} {p} {w} {chains} {stamps} {marks} w' e k m = record {
  lists = m.lists;
  closed = m.closed;
  twins = λ i l. subst (Twin c i) (sym (k (p * 3 + length c + i) (omega (arith, m.first, m.second)))) (m.twins i l);
  valences = λ v l. k (p + v) (omega (arith, m.first, m.second)) ∙ m.valences v l;
  chained = record {
    heads = λ v l. k (chains + v) (omega (arith, m.second)) ∙ m.chained.heads v l;
    links = λ i l. k (chains + p + i) (omega (arith, m.second)) ∙ m.chained.links i l;
  };
  first = m.first;
  second = m.second;
  third = m.third;
  room = omega (arith, m.room);
}

-- the corners that follow v at its places below i are stamped, and no others
pub record Stamping (c : List ℕ) (p stamps v i : ℕ) (w w' : List ℕ) : Type 0 where
  pub len : length w' ≡ length w
  pub under : (j : ℕ) → j < stamps → at w' j ≡ at w j
  pub over : (j : ℕ) → stamps + p ≤ j → at w' j ≡ at w j
  pub known : (k : ℕ) → k < i → at c k ≡ v → at w' (stamps + at c (nx k)) ≡ v + 1
  pub found : (x : ℕ) → (at w (stamps + x) ≡ v + 1 → ⊥) → at w' (stamps + x) ≡ v + 1 → Runs c v x
  pub low : (x n : ℕ) → v < n → at w (stamps + x) ≤ n → at w' (stamps + x) ≤ n

pub stamping : (c : List ℕ) (p stamps v i : ℕ) (w : List ℕ) → Lists c p → i ≤ length c → stamps + p ≤ length w → Stamping c p stamps v i w (walk (stamp_at c stamps v) c v i w)
stamping c p stamps v zero w h l room = subst (Stamping c p stamps v 0 w) (sym (walk_none (stamp_at c stamps v) c v w)) (record {
  len = refl;
  under = λ j m. refl;
  over = λ j m. refl;
  known = λ k m e. absurd (omega arith);
  found = λ x n e. absurd (n e);
  low = λ x n m q. q;
})
stamping c p stamps v (suc i) w h l room = go (same_or (at c i) v) (stamping c p stamps v i w h (omega arith) room)
  where
    f : ℕ → List ℕ → List ℕ
    f = stamp_at c stamps v

    go : (at c i ≡ v) ⊎ (at c i ≡ v → ⊥) → Stamping c p stamps v i w (walk (stamp_at c stamps v) c v i w) → Stamping c p stamps v (suc i) w (walk (stamp_at c stamps v) c v (suc i) w)
    go (inr n) ih = subst (Stamping c p stamps v (suc i) w) (sym (walk-on (stamp_at c stamps v) c v w i n)) (record {
      len = ih.len;
      under = ih.under;
      over = ih.over;
      known = λ k m e. ih.known k (at_most k m (same_or k i) e) e;
      found = ih.found;
      low = ih.low;
    })
      where
        at_most : (k : ℕ) → k < suc i → (k ≡ i) ⊎ (k ≡ i → ⊥) → at c k ≡ v → k < i
        at_most k m (inl z) e = absurd (n (ap (at c) (sym z) ∙ e))
        at_most k m (inr z) e = omega (arith, z)
    go (inl e) ih = subst (Stamping c p stamps v (suc i) w) (sym (walk_here (stamp_at c stamps v) c v w i e)) (record {
      len = length-set u (stamps + x) (v + 1) ∙ ih.len;
      under = λ j m. get_or-set_other u (stamps + x) j (v + 1) 0 (λ z. omega arith) ∙ ih.under j m;
      over = λ j m. get_or-set_other u (stamps + x) j (v + 1) 0 (λ z. omega (arith, low_x)) ∙ ih.over j m;
      known = λ k m q. mark k (same_or k i) (same_or (at c (nx k)) x) m q;
      found = λ y n q. meet y n q (same_or y x);
      low = λ y n m q. bound y n m q (same_or y x);
    })
      where
        u : List ℕ
        u = walk (stamp_at c stamps v) c v i w

        x : ℕ
        x = at c (nx i)

        low_x : x < p
        low_x = below_next h i (omega arith)

        fits : stamps + x < length u
        fits = omega (arith, low_x, ih.len)

        mark : (k : ℕ) → (k ≡ i) ⊎ (k ≡ i → ⊥) → (at c (nx k) ≡ x) ⊎ (at c (nx k) ≡ x → ⊥) → k < suc i → at c k ≡ v → at (set u (stamps + x) (v + 1)) (stamps + at c (nx k)) ≡ v + 1
        mark k d (inl y) m q = ap (λ (n : ℕ). at (set u (stamps + x) (v + 1)) (stamps + n)) y ∙ get_or-set_same u (stamps + x) (v + 1) 0 fits
        mark k (inl z) (inr y) m q = absurd (y (ap (λ (n : ℕ). at c (nx n)) z))
        mark k (inr z) (inr y) m q = get_or-set_other u (stamps + x) (stamps + at c (nx k)) (v + 1) 0 (λ r. y (omega arith)) ∙ ih.known k (omega (arith, z)) q

        meet : (y : ℕ) → (at w (stamps + y) ≡ v + 1 → ⊥) → at (set u (stamps + x) (v + 1)) (stamps + y) ≡ v + 1 → (y ≡ x) ⊎ (y ≡ x → ⊥) → Runs c v y
        meet y n q (inl z) = record { k = i; low = omega arith; from = e; to = sym z }
        meet y n q (inr z) = ih.found y n (sym (get_or-set_other u (stamps + x) (stamps + y) (v + 1) 0 (λ r. z (omega arith))) ∙ q)

        bound : (y n : ℕ) → v < n → at w (stamps + y) ≤ n → (y ≡ x) ⊎ (y ≡ x → ⊥) → at (set u (stamps + x) (v + 1)) (stamps + y) ≤ n
        bound y n m q (inl z) = let r : at (set u (stamps + x) (v + 1)) (stamps + y) ≡ v + 1 = ap (λ (k : ℕ). at (set u (stamps + x) (v + 1)) (stamps + k)) z ∙ get_or-set_same u (stamps + x) (v + 1) 0 fits in omega arith
        bound y n m q (inr z) = let r = get_or-set_other u (stamps + x) (stamps + y) (v + 1) 0 (λ (r : stamps + y ≡ stamps + x). z (omega arith)) in let s = ih.low y n m q in omega arith

pub walking_of : {c : List ℕ} {p : ℕ} {w : List ℕ} {chains stamps marks : ℕ} → Marking c p w chains stamps marks → Walking c p w chains stamps
walking_of {c} {p} {w} {chains} {stamps} {marks} m = record { lists = m.lists; chained = m.chained; order = m.second; room = omega (arith, m.third, m.room) }

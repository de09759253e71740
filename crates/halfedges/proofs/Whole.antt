-- All four rules of a closed list: with (b) and (c), the corners of a triangle differ where each place's corner differs from the next, and no two triangles have the same corners where no ring is shorter than three.
use Prim.Native.Nat.{ℕ, zero, suc, ◌+◌, ◌*◌, ◌/◌, ◌%◌, ◌<◌, ◌≤◌}
use native.Mathlib.Omega.{arith}
use mathlib.Core.Path.{◌≡◌, refl, sym, ap, ◌∙◌, subst}
use mathlib.Core.Logic.{◌⊎◌, inl, inr, ⊎_elim}
use mathlib.Core.Bool.{Bool, true, false, ◌||◌}
use mathlib.Core.List.Permᴰ
use mathlib.Core.List.{List, [], ◌∷◌, ◌++◌}
use lib.Dec.{eqb}
use lib.ListN.{length, get_or}
use borrow.Author.Tests.{eqb-true, eqb-false, eq-eqb}
use Rattle.surface.specs.Triangle.{Tri, tri, triangles, names}
use Rattle.surface.specs.Closed.{Step, one, Leads, Ring, Differ, SameCorners, Closed, Manifold}
use Rattle.halfedges.specs.Place.{nx, pv, at, st, uses}
use Rattle.halfedges.proofs.Steps.{starts, froms, In, in_froms, pl, pl_in, pl_place, length_pl}
use Rattle.halfedges.proofs.Perms.{cut, leads_cut, leads_join, in_perm, tally_perm, length_perm, tally-append, length_turn, in_left, in_right, in_either, none_from}
use Rattle.halfedges.proofs.Fine.{Fine, fine_of, fine-once, nx-below, pv-below, apart-cases, in_length}

-- rule (a), by places, and no ring shorter than m
abbrev pub Differing : List ℕ → Type 0
Differing c = (k : ℕ) → k < length c → at c k ≡ at c (nx k) → ⊥

abbrev pub Enough : List ℕ → ℕ → ℕ → Type 0
Enough c m v = 0 < uses c v (length c) → m ≤ uses c v (length c)

-- the triangle of a place
abbrev thrice : ℕ → ℕ
thrice zero = zero
thrice (suc t) = suc (suc (suc (thrice t)))

thrice_eq : (t : ℕ) → thrice t ≡ 3 * t
thrice_eq zero = refl
thrice_eq (suc t) = omega (arith, thrice_eq t)

abbrev T : List ℕ → ℕ → Tri
T c i = get_or (triangles c) i (tri 0 0 0)

tri-at : (c : List ℕ) (i : ℕ) → suc (suc (thrice i)) < length c → T c i ≡ tri (at c (thrice i)) (at c (suc (thrice i))) (at c (suc (suc (thrice i))))
unfolding triangles
tri-at [] i h = absurd (omega arith)
tri-at (x ∷ []) i h = absurd (omega arith)
tri-at (x ∷ y ∷ []) i h = absurd (omega arith)
tri-at (x ∷ y ∷ z ∷ l) zero h = refl
tri-at (x ∷ y ∷ z ∷ l) (suc i) h = tri-at l i (omega arith)

triangles-length : (c : List ℕ) → length c % 3 ≡ 0 → thrice (length (triangles c)) ≡ length c
unfolding triangles
triangles-length [] h = refl
triangles-length (x ∷ []) h = absurd (omega arith)
triangles-length (x ∷ y ∷ []) h = absurd (omega arith)
triangles-length (x ∷ y ∷ z ∷ l) h = ap (λ (n : ℕ). suc (suc (suc n))) (triangles-length l (omega arith))

-- which of the three corners of its triangle a place is
data Turn (k : ℕ) : Type 0 where
  first : k ≡ thrice (k / 3) → Turn k
  second : k ≡ suc (thrice (k / 3)) → Turn k
  third : k ≡ suc (suc (thrice (k / 3))) → Turn k

turn_of : (k : ℕ) → Turn k
turn_of k = go (eqb (k % 3) 0) refl (eqb (k % 3) 1) refl
  where
    go : (a : Bool) → eqb (k % 3) 0 ≡ a → (b : Bool) → eqb (k % 3) 1 ≡ b → Turn k
    go true p b q = let e = eqb-true (k % 3) 0 p in first (omega (arith, e, thrice_eq (k / 3)))
    go false p true q = let e = eqb-true (k % 3) 1 q in second (omega (arith, e, thrice_eq (k / 3)))
    go false p false q = let d = eqb-false (k % 3) 0 p in let e = eqb-false (k % 3) 1 q in third (omega (arith, d, e, thrice_eq (k / 3)))

-- what a triangle names, from each of its corners on
abbrev any3 : ℕ → ℕ → ℕ → ℕ → Bool
any3 x y z u = eqb x u || (eqb y u || eqb z u)

or_turn : (a b c : Bool) → a || (b || c) ≡ b || (c || a)
or_turn true true c = refl
or_turn true false true = refl
or_turn true false false = refl
or_turn false true c = refl
or_turn false false true = refl
or_turn false false false = refl

or_swap : (a b c : Bool) → a || (b || c) ≡ a || (c || b)
or_swap true b c = refl
or_swap false true true = refl
or_swap false true false = refl
or_swap false false true = refl
or_swap false false false = refl

any3_eq : (x y z x' y' z' u : ℕ) → x ≡ x' → y ≡ y' → z ≡ z' → any3 x y z u ≡ any3 x' y' z' u
any3_eq x y z x' y' z' u p q r = cc

names_at : (c : List ℕ) (k u : ℕ) → length c % 3 ≡ 0 → k < length c → names (T c (k / 3)) u ≡ any3 (at c k) (at c (nx k)) (at c (pv k)) u
names_at c k u h l = go (turn_of k)
  where
    base : names (T c (k / 3)) u ≡ any3 (at c (thrice (k / 3))) (at c (suc (thrice (k / 3)))) (at c (suc (suc (thrice (k / 3))))) u
    base = ap (λ (t : Tri). names t u) (tri-at c (k / 3) (omega (arith, thrice_eq (k / 3))))

    go : Turn k → names (T c (k / 3)) u ≡ any3 (at c k) (at c (nx k)) (at c (pv k)) u
    go (first e) = base ∙ any3_eq (at c (thrice (k / 3))) (at c (suc (thrice (k / 3)))) (at c (suc (suc (thrice (k / 3))))) (at c k) (at c (nx k)) (at c (pv k)) u (ap (at c) (sym e)) (ap (at c) (omega (arith, e, thrice_eq (k / 3)))) (ap (at c) (omega (arith, e, thrice_eq (k / 3))))
    go (second e) =
        base ∙ or_turn (eqb (at c (thrice (k / 3))) u) (eqb (at c (suc (thrice (k / 3)))) u) (eqb (at c (suc (suc (thrice (k / 3))))) u)
        ∙ any3_eq (at c (suc (thrice (k / 3)))) (at c (suc (suc (thrice (k / 3))))) (at c (thrice (k / 3))) (at c k) (at c (nx k)) (at c (pv k)) u (ap (at c) (sym e)) (ap (at c) (omega (arith, e, thrice_eq (k / 3)))) (ap (at c) (omega (arith, e, thrice_eq (k / 3))))
    go (third e) =
        base ∙ sym (or_turn (eqb (at c (suc (suc (thrice (k / 3))))) u) (eqb (at c (thrice (k / 3))) u) (eqb (at c (suc (thrice (k / 3)))) u))
        ∙ any3_eq (at c (suc (suc (thrice (k / 3))))) (at c (thrice (k / 3))) (at c (suc (thrice (k / 3)))) (at c k) (at c (nx k)) (at c (pv k)) u (ap (at c) (sym e)) (ap (at c) (omega (arith, e, thrice_eq (k / 3)))) (ap (at c) (omega (arith, e, thrice_eq (k / 3))))

-- rule (a)
module _ (c : List ℕ) (h : length c % 3 ≡ 0) where
  room_for : (i : ℕ) → i < length (triangles c) → suc (suc (thrice i)) < length c
  room_for i l = omega (arith, triangles-length c h, thrice_eq i, thrice_eq (length (triangles c)), l)

  pub differ_of : Differing c → (i : ℕ) → i < length (triangles c) → Differ (T c i)
  differ_of d i l =
      let r = room_for i l in
      let e = thrice_eq i in
      subst Differ (sym (tri-at c i r)) (record {
        ab = λ q. d (thrice i) (omega arith) (q ∙ ap (at c) (omega (arith, e)));
        bc = λ q. d (suc (thrice i)) (omega arith) (q ∙ ap (at c) (omega (arith, e)));
        ca = λ q. d (suc (suc (thrice i))) (omega arith) (q ∙ ap (at c) (omega (arith, e)));
      })

  triangle_low : (k : ℕ) → k < length c → k / 3 < length (triangles c)
  triangle_low k l = omega (arith, triangles-length c h, thrice_eq (length (triangles c)), l)

  pub differing_of : ((i : ℕ) → i < length (triangles c) → Differ (T c i)) → Differing c
  differing_of d k l q =
      let i = k / 3 in
      let low = triangle_low k l in
      let e = thrice_eq (k / 3) in
      let u : Differ (tri (at c (thrice (k / 3))) (at c (suc (thrice (k / 3)))) (at c (suc (suc (thrice (k / 3)))))) = subst Differ (tri-at c (k / 3) (room_for (k / 3) low)) (d (k / 3) low) in
      go e u (turn_of k)
    where
      go : thrice (k / 3) ≡ 3 * (k / 3) → Differ (tri (at c (thrice (k / 3))) (at c (suc (thrice (k / 3)))) (at c (suc (suc (thrice (k / 3)))))) → Turn k → ⊥
      go e u (first z) = u.ab (ap (at c) (sym z) ∙ q ∙ ap (at c) (omega (arith, z, e)))
      go e u (second z) = u.bc (ap (at c) (sym z) ∙ q ∙ ap (at c) (omega (arith, z, e)))
      go e u (third z) = u.ca (ap (at c) (sym z) ∙ q ∙ ap (at c) (omega (arith, z, e)))

-- two steps of a corner that start at one place are one
same_step : (l : List Step) (s t : Step) → froms s.from l ≤ 1 → In s l → In t l → s.from ≡ t.from → s ≡ t
same_step [] s t m i j e = absurd i
same_step (r ∷ l) s t m (inl p) (inl q) e = p ∙ sym q
same_step (r ∷ l) s t m (inl p) (inr j) e =
    absurd (omega (arith, m, ap one (eq-eqb r.from s.from (ap (λ (y : Step). y.from) (sym p))), in_froms s.from t l j (sym e)))
same_step (r ∷ l) s t m (inr i) (inl q) e =
    absurd (omega (arith, m, ap one (eq-eqb r.from s.from (ap (λ (y : Step). y.from) (sym q) ∙ sym e)), in_froms s.from s l i refl))
same_step (r ∷ l) s t m (inr i) (inr j) e = same_step l s t (omega (arith, m)) i j e

-- a ring with the steps b to e and e to b has no other
two_ring : (l : List Step) (s t : Step) → Ring l → ((x : ℕ) → froms x l ≤ 1) → In s l → In t l → s.to ≡ t.from → t.to ≡ s.from → (s.from ≡ s.to → ⊥) → length l ≡ 2
unfolding Leads
two_ring l s t r single is it st ts apart =
    let x₀ = s.from in
    let u = cut s r.order (in_perm s (Permᴰ.symm r.same) is) in
    let b = leads_cut r.start r.start u.left (s ∷ u.right) (subst (λ (y : List Step). Leads r.start y r.start) u.whole r.leads) in
    let rest = u.right ++ u.left in
    let turned : Leads s.to rest x₀ = leads_join s.to r.start x₀ u.right u.left b.aft.1 (subst (λ (y : ℕ). Leads r.start u.left y) (sym b.aft.0) b.fore) in
    let few : froms x₀ (u.left ++ s ∷ u.right) ≤ 1 = subst (λ (m : ℕ). m ≤ 1) (sym (ap (froms x₀) (sym u.whole) ∙ tally_perm (starts x₀) r.same)) (single x₀) in
    let none : froms x₀ rest ≡ 0 = omega (arith, few, tally-append (starts x₀) u.left (s ∷ u.right), tally-append (starts x₀) u.right u.left, ap one (eq-eqb x₀ x₀ refl)) in
    let among : (q : Step) → In q rest → In q l = λ q i. in_perm q r.same (subst (In q) (sym u.whole) (⊎_elim (λ (j : In q u.right). in_right q u.left (s ∷ u.right) (inr j)) (λ (j : In q u.left). in_left q u.left (s ∷ u.right) j) (in_either q u.right u.left i))) in
    let size : length l ≡ suc (length rest) = sym (length_perm r.same) ∙ ap length u.whole ∙ length_turn s u.left u.right in
    size ∙ ap suc (go rest turned none among)
  where
    go : (rest : List Step) → Leads s.to rest s.from → froms s.from rest ≡ 0 → ((q : Step) → In q rest → In q l) → length rest ≡ 1
    go [] q none among = absurd (apart (sym q))
    go (y ∷ []) q none among = refl
    go (y ∷ z ∷ m) q none among =
        let same : y ≡ t = same_step l y t (single y.from) (among y (inl refl)) it (q.0 ∙ st) in
        let home : z.from ≡ s.from = q.1.0 ∙ ap (λ (r : Step). r.to) same ∙ ts in
        absurd (none_from s.from z (y ∷ z ∷ m) none (inr (inl refl)) home)

-- the place arithmetic
pub nx-pv : (k : ℕ) → nx (pv k) ≡ k
nx-pv k = omega arith

nx₀ : (q k : ℕ) → k ≡ 3 * q → nx k ≡ 3 * q + 1
nx₀ q k e = omega arith

nx₁ : (q k : ℕ) → k ≡ 3 * q + 1 → nx k ≡ 3 * q + 2
nx₁ q k e = omega arith

nx₂ : (q k : ℕ) → k ≡ 3 * q + 2 → nx k ≡ 3 * q
nx₂ q k e = omega arith

pv₀ : (q k : ℕ) → k ≡ 3 * q → pv k ≡ 3 * q + 2
pv₀ q k e = omega arith

pv₁ : (q k : ℕ) → k ≡ 3 * q + 1 → pv k ≡ 3 * q
pv₁ q k e = omega arith

pv₂ : (q k : ℕ) → k ≡ 3 * q + 2 → pv k ≡ 3 * q + 1
pv₂ q k e = omega arith

pub nx-nx : (k : ℕ) → nx (nx k) ≡ pv k
nx-nx k = go (k / 3) (thrice_eq (k / 3)) (turn_of k)
  where
    go : (q : ℕ) → thrice (k / 3) ≡ 3 * q → Turn k → nx (nx k) ≡ pv k
    go q f (first e) = let z : k ≡ 3 * q = e ∙ f in nx₁ q (nx k) (nx₀ q k z) ∙ sym (pv₀ q k z)
    go q f (second e) = let z : k ≡ 3 * q + 1 = omega (arith, e, f) in nx₂ q (nx k) (nx₁ q k z) ∙ sym (pv₁ q k z)
    go q f (third e) = let z : k ≡ 3 * q + 2 = omega (arith, e, f) in nx₀ q (nx k) (nx₂ q k z) ∙ sym (pv₂ q k z)

nx-third : (k : ℕ) → nx k / 3 ≡ k / 3
nx-third k = omega arith

pv-third : (k : ℕ) → pv k / 3 ≡ k / 3
pv-third k = omega arith

same-third : (k m : ℕ) → k / 3 ≡ m / 3 → (m ≡ k) ⊎ ((m ≡ nx k) ⊎ (m ≡ pv k))
same-third k m e = go (eqb m k) refl (eqb m (nx k)) refl
  where
    go : (a : Bool) → eqb m k ≡ a → (b : Bool) → eqb m (nx k) ≡ b → (m ≡ k) ⊎ ((m ≡ nx k) ⊎ (m ≡ pv k))
    go true p b q = inl (eqb-true m k p)
    go false p true q = inr (inl (eqb-true m (nx k) q))
    go false p false q = let d = eqb-false m k p in let f = eqb-false m (nx k) q in inr (inr (omega (arith, d, f)))

any3_true : (x y z u : ℕ) → any3 x y z u ≡ true → (x ≡ u) ⊎ ((y ≡ u) ⊎ (z ≡ u))
any3_true x y z u e = go (eqb x u) refl (eqb y u) refl (eqb z u) refl e
  where
    go : (a : Bool) → eqb x u ≡ a → (b : Bool) → eqb y u ≡ b → (d : Bool) → eqb z u ≡ d → a || (b || d) ≡ true → (x ≡ u) ⊎ ((y ≡ u) ⊎ (z ≡ u))
    go true p b q d r e = inl (eqb-true x u p)
    go false p true q d r e = inr (inl (eqb-true y u q))
    go false p false q true r e = inr (inr (eqb-true z u r))
    go false p false q false r e = let z : ◌≡◌ {A = ℕ} 0 1 = cc in absurd (omega arith)

or_first : (a b c : Bool) → a ≡ true → a || (b || c) ≡ true
or_first true b c e = refl
or_first false b c e = let z : ◌≡◌ {A = ℕ} 0 1 = cc in absurd (omega arith)

or_second : (a b c : Bool) → b ≡ true → a || (b || c) ≡ true
or_second true b c e = refl
or_second false true c e = refl
or_second false false c e = let z : ◌≡◌ {A = ℕ} 0 1 = cc in absurd (omega arith)

or_third : (a b c : Bool) → c ≡ true → a || (b || c) ≡ true
or_third true b c e = refl
or_third false true c e = refl
or_third false false true e = refl
or_third false false false e = let z : ◌≡◌ {A = ℕ} 0 1 = cc in absurd (omega arith)

-- a place of the triangle i that names u
record Names (c : List ℕ) (i u : ℕ) : Type 0 where
  k : ℕ
  low : k < length c
  third : k / 3 ≡ i
  is : at c k ≡ u

module _ (c : List ℕ) (h : length c % 3 ≡ 0) (d : Differing c) (fine : (v : ℕ) → Fine c v) where
  names_of : (k i u : ℕ) → k < length c → k / 3 ≡ i → names (T c i) u ≡ any3 (at c k) (at c (nx k)) (at c (pv k)) u
  names_of k i u l e = ap (λ (m : ℕ). names (T c m) u) (sym e) ∙ names_at c k u h l

  place_of : (i u : ℕ) → i < length (triangles c) → names (T c i) u ≡ true → Names c i u
  place_of i u l q =
      let k = thrice i in
      let e = thrice_eq i in
      let low : thrice i < length c = omega (arith, room_for c h i l) in
      let third : thrice i / 3 ≡ i = omega (arith, e) in
      ⊎_elim
      (λ (z : at c (thrice i) ≡ u). record { k = thrice i; low = low; third = third; is = z })
      (⊎_elim
      (λ (z : at c (nx (thrice i)) ≡ u). record { k = nx (thrice i); low = nx-below (length c) (thrice i) h low; third = nx-third (thrice i) ∙ third; is = z })
      (λ (z : at c (pv (thrice i)) ≡ u). record { k = pv (thrice i); low = pv-below (length c) (thrice i) h low; third = pv-third (thrice i) ∙ third; is = z }))
      (any3_true (at c (thrice i)) (at c (nx (thrice i))) (at c (pv (thrice i))) u (sym (names_of (thrice i) i u low third) ∙ q))

  next-differ : (k : ℕ) → k < length c → at c (nx k) ≡ at c (pv k) → ⊥
  next-differ k l q = d (nx k) (nx-below (length c) k h l) (q ∙ ap (at c) (sym (nx-nx k)))

  last-differ : (k : ℕ) → k < length c → at c (pv k) ≡ at c k → ⊥
  last-differ k l q = d (pv k) (pv-below (length c) k h l) (q ∙ ap (at c) (sym (nx-pv k)))

  in_pl : (k v : ℕ) → k < length c → at c k ≡ v → In (st c k) (pl c v 0 (length c))
  in_pl k v l e = pl_in c v 0 (length c) k (omega arith) (omega arith) e

  -- two triangles of the same corners share a side or close a ring of two
  clash : (k m : ℕ) → k < length c → m < length c → at c m ≡ at c k → (k ≡ m → ⊥) → ((u : ℕ) → any3 (at c k) (at c (nx k)) (at c (pv k)) u ≡ any3 (at c m) (at c (nx m)) (at c (pv m)) u) → length (pl c (at c k) 0 (length c)) ≡ 2
  clash k m lk lm e n same =
      let b = at c (nx k) in
      let f = at c (pv k) in
      let has-b = any3_true (at c m) (at c (nx m)) (at c (pv m)) b (sym (same b) ∙ or_second (eqb (at c k) b) (eqb b b) (eqb f b) (eq-eqb b b refl)) in
      let has-f = any3_true (at c m) (at c (nx m)) (at c (pv m)) f (sym (same f) ∙ or_third (eqb (at c k) f) (eqb b f) (eqb f f) (eq-eqb f f refl)) in
      ⊎_elim
      (λ (z : at c m ≡ b). absurd (d k lk (sym e ∙ z)))
      (⊎_elim
      (λ (z : at c (nx m) ≡ b). absurd (n (fine-once c (at c k) (fine (at c k)) k m lk lm refl e (sym z))))
      (λ (z : at c (pv m) ≡ b).
      ⊎_elim
      (λ (y : at c m ≡ f). absurd (last-differ k lk (sym y ∙ e)))
      (⊎_elim
      (λ (y : at c (nx m) ≡ f).
      two_ring (pl c (at c k) 0 (length c)) (st c k) (st c m) ((fine (at c k)).ring (in_length (st c k) (pl c (at c k) 0 (length c)) (in_pl k (at c k) lk refl))) (fine (at c k)).single
      (in_pl k (at c k) lk refl) (in_pl m (at c k) lm e) (sym y) z (next-differ k lk))
      (λ (y : at c (pv m) ≡ f). absurd (next-differ k lk (sym z ∙ y))))
      has-f))
      has-b

  pub distinct_of : ((v : ℕ) → Enough c 3 v) → (i j : ℕ) → i < j → j < length (triangles c) → SameCorners (T c i) (T c j) → ⊥
  distinct_of enough i j lt lj same =
      let k = thrice i in
      let e = thrice_eq i in
      let lk : thrice i < length c = omega (arith, room_for c h i (omega arith)) in
      let ti : thrice i / 3 ≡ i = omega (arith, e) in
      let u = at c (thrice i) in
      let m = place_of j u lj (sym (same u) ∙ names_of (thrice i) i u lk ti ∙ or_first (eqb u u) (eqb (at c (nx (thrice i))) u) (eqb (at c (pv (thrice i))) u) (eq-eqb u u refl)) in
      let two = clash (thrice i) m.k lk m.low m.is (λ q. omega (arith, ti, m.third, ap (λ (n : ℕ). n / 3) q)) (λ x. sym (names_of (thrice i) i x lk ti) ∙ same x ∙ names_of m.k j x m.low m.third) in
      let size : uses c u (length c) ≡ 2 = sym (length_pl c u (length c)) ∙ two in
      let three = enough u (omega (arith, size)) in
      omega (arith, size, three)

  -- the other way: where triangles are distinct, no ring is shorter than three
  short : (v : ℕ) (s t : Step) → In s (pl c v 0 (length c)) → In t (pl c v 0 (length c)) → s.to ≡ t.from → t.to ≡ s.from → ((i j : ℕ) → i < j → j < length (triangles c) → SameCorners (T c i) (T c j) → ⊥) → ⊥
  short v s t is it e f distinct =
      let p = pl_place c v 0 (length c) (length c) s (omega arith) is in
      let q = pl_place c v 0 (length c) (length c) t (omega arith) it in
      let k = p.k in
      let m = q.k in
      let x : at c (nx k) ≡ at c (pv m) = ap (λ (y : Step). y.from) (sym p.makes) ∙ sym f ∙ ap (λ (y : Step). y.to) q.makes in
      let z : at c (pv k) ≡ at c (nx m) = ap (λ (y : Step). y.to) (sym p.makes) ∙ e ∙ ap (λ (y : Step). y.from) q.makes in
      let v-same : at c k ≡ at c m = p.names ∙ sym q.names in
      let same : (u : ℕ) → names (T c (k / 3)) u ≡ names (T c (m / 3)) u = λ u.
      names_at c k u h p.low
      ∙ any3_eq (at c k) (at c (nx k)) (at c (pv k)) (at c m) (at c (pv m)) (at c (nx m)) u v-same x z
      ∙ or_swap (eqb (at c m) u) (eqb (at c (pv m)) u) (eqb (at c (nx m)) u)
      ∙ sym (names_at c m u h q.low) in
      go k m p.low q.low x z v-same same (eqb (k / 3) (m / 3)) refl
    where
      go : (k m : ℕ) → k < length c → m < length c → at c (nx k) ≡ at c (pv m) → at c (pv k) ≡ at c (nx m) → at c k ≡ at c m → ((u : ℕ) → names (T c (k / 3)) u ≡ names (T c (m / 3)) u) → (b : Bool) → eqb (k / 3) (m / 3) ≡ b → ⊥
      go k m lk lm x z w same true g =
          ⊎_elim
          (λ (y : m ≡ k). next-differ k lk (x ∙ ap (λ (i : ℕ). at c (pv i)) y))
          (⊎_elim
          (λ (y : m ≡ nx k). d k lk (w ∙ ap (at c) y))
          (λ (y : m ≡ pv k). last-differ k lk (sym (w ∙ ap (at c) y))))
          (same-third k m (eqb-true (k / 3) (m / 3) g))
      go k m lk lm x z w same false g =
          ⊎_elim
          (λ (y : k / 3 < m / 3). distinct (k / 3) (m / 3) y (triangle_low c h m lm) same)
          (λ (y : m / 3 < k / 3). distinct (m / 3) (k / 3) y (triangle_low c h k lk) (λ u. sym (same u)))
          (apart-cases (k / 3) (m / 3) (eqb-false (k / 3) (m / 3) g))

  pub enough_of : ((i j : ℕ) → i < j → j < length (triangles c) → SameCorners (T c i) (T c j) → ⊥) → (v : ℕ) → Enough c 3 v
  unfolding Leads
  enough_of distinct v used =
      let l = pl c v 0 (length c) in
      let size = length_pl c v (length c) in
      let r = (fine v).ring (omega (arith, size, used)) in
      go r.order r.start r.leads (λ s i. in_perm s r.same i) (length_perm r.same ∙ size)
    where
      go : (o : List Step) (x : ℕ) → Leads x o x → ((s : Step) → In s o → In s (pl c v 0 (length c))) → length o ≡ uses c v (length c) → 3 ≤ uses c v (length c)
      go [] x q among n = absurd (omega (arith, n, used))
      go (s ∷ []) x q among n = absurd (short v s s (among s (inl refl)) (among s (inl refl)) (q.1 ∙ sym q.0) (q.1 ∙ sym q.0) distinct)
      go (s ∷ t ∷ []) x q among n = absurd (short v s t (among s (inl refl)) (among t (inr (inl refl))) (sym q.1.0) (q.1.1 ∙ sym q.0) distinct)
      go (s ∷ t ∷ y ∷ o) x q among n = omega (arith, n)

-- the whole
pub closed_of : (c : List ℕ) → length c % 3 ≡ 0 → Differing c → Manifold (triangles c) → ((v : ℕ) → Enough c 3 v) → Closed (triangles c)
closed_of c h d r enough = record {
  differ = differ_of c h d;
  paired = r.paired;
  ringed = r.ringed;
  distinct = distinct_of c h d (fine_of c h r) enough;
}

pub closed_differing : (c : List ℕ) → length c % 3 ≡ 0 → Closed (triangles c) → Differing c
closed_differing c h k = differing_of c h k.differ

pub closed-rounded : (c : List ℕ) → Closed (triangles c) → Manifold (triangles c)
closed-rounded c k = record { paired = k.paired; ringed = k.ringed }

pub closed-enough : (c : List ℕ) → length c % 3 ≡ 0 → Closed (triangles c) → (v : ℕ) → Enough c 3 v
closed-enough c h k = enough_of c h (closed_differing c h k) (fine_of c h (closed-rounded c k)) k.distinct

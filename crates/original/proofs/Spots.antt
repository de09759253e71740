-- What `edges` holds for a side of a closed list: the two faces that `hinge` finds, in its order, each with the place in it where the side begins.
use Prim.Native.Nat.{ℕ, suc, ◌+◌, ◌≤◌, ◌<◌}
use mathlib.Core.Path.{◌≡◌, refl, sym, ◌∙◌, ap, ap₂}
use mathlib.Core.Logic.{◌⊎◌, inl, inr}
use mathlib.Core.Bool.{Bool, true, false, ◌&&◌, ◌||◌, cond, true≢false}
use mathlib.Core.List.{List, [], ◌∷◌, map}
use native.Mathlib.Nat.{zero-add}
use native.Mathlib.Omega.{arith}
use lib.Dec.{eqb, leb}
use lib.ListN.{length, drop}
use borrow.Author.Tests.{eqb-true, eq-eqb, leb-true, leb-false}
use Rattle.surface.specs.Triangle.{Tri}
use Rattle.surface.specs.Closed.{one, sides, Differ, Closed}
use Rattle.surface.specs.Edit.{has, first, place, hinge}
use Rattle.surface.proofs.Bools.{both, true_false}
use Rattle.surface.proofs.Reading.{Reads, r0, r1, r2}
use Rattle.surface.proofs.Laws.{side-exists}
use Rattle.rounds.proofs.Strip.{holders}
use Rattle.rounds.proofs.TwoTriangles.{holders_two}
use Rattle.original.specs.Sets.{push}
use Rattle.original.specs.Maps.{corner, Spot, spot, keyed, spots, shared}
use Rattle.original.proofs.Sets.{and_swap, or_swap}

-- the places in a face where a side with the key (a, b) begins
abbrev pub start_in : Tri → ℕ → ℕ → ℕ
start_in t a b = cond (keyed t.a t.b a b) 0 (cond (keyed t.b t.c a b) 1 2)

-- of three tests no two are passed together
push-one : {A : Type 0} (x y z : Bool) (i j k : A) (l : List A) → (x && y) ≡ false → (x && z) ≡ false → (y && z) ≡ false
    → push x i (push y j (push z k l)) ≡ push (x || (y || z)) (cond x i (cond y j k)) l
push-one true true z i j k l e f g = absurd (true≢false e)
push-one true false true i j k l e f g = absurd (true≢false f)
push-one true false false i j k l e f g = refl
push-one false true true i j k l e f g = absurd (true≢false g)
push-one false true false i j k l e f g = refl
push-one false false true i j k l e f g = refl
push-one false false false i j k l e f g = refl

cond_spot : (x y : Bool) (i : ℕ) → cond x (spot i 0) (cond y (spot i 1) (spot i 2)) ≡ spot i (cond x 0 (cond y 1 2))
cond_spot true y i = refl
cond_spot false true i = refl
cond_spot false false i = refl

regroup : (p q r x y z : Bool) → ((p || x) || ((q || y) || (r || z))) ≡ ((p || (q || r)) || (x || (y || z)))
regroup true q r x y z = refl
regroup false q r true y z = sym (or_swap (q || r) true)
regroup false true r false y z = refl
regroup false false true false true z = refl
regroup false false true false false z = refl
regroup false false false false y z = refl

-- the side between a and b, where a is less
module _ (a b : ℕ) (l : a < b) where
  pub keyed-is : (x y : ℕ) → keyed x y a b ≡ ((eqb x a && eqb y b) || (eqb x b && eqb y a))
  keyed-is x y = pick (leb x y) refl
    where
      no_back : (p q : ℕ) → p ≤ q → (eqb p b && eqb q a) ≡ false
      no_back p q h = off (eqb p b && eqb q a) refl
        where
          off : (k : Bool) → (eqb p b && eqb q a) ≡ k → (eqb p b && eqb q a) ≡ false
          off true e = let m = both (eqb p b) (eqb q a) e in let u = eqb-true p b m.0 in let v = eqb-true q a m.1 in absurd (omega arith)
          off false e = e

      none : (p : Bool) → p ≡ (p || false)
      none true = refl
      none false = refl

      pick : (k : Bool) → leb x y ≡ k → keyed x y a b ≡ ((eqb x a && eqb y b) || (eqb x b && eqb y a))
      pick true e = rw (e, no_back x y (leb-true x y e)) (none (eqb x a && eqb y b))
      pick false e =
          let h : y ≤ x = omega (arith, leb-false x y e) in
          rw (e, and_swap (eqb x a) (eqb y b), no_back y x h) (and_swap (eqb y a) (eqb x b))

  keyed-ends : (x y : ℕ) → keyed x y a b ≡ true → ((x ≡ a) × (y ≡ b)) ⊎ ((x ≡ b) × (y ≡ a))
  keyed-ends x y e = pick (eqb x a && eqb y b) refl
    where
      pick : (k : Bool) → (eqb x a && eqb y b) ≡ k → ((x ≡ a) × (y ≡ b)) ⊎ ((x ≡ b) × (y ≡ a))
      pick true f = let m = both (eqb x a) (eqb y b) f in inl (eqb-true x a m.0, eqb-true y b m.1)
      pick false f =
          let g : (eqb x b && eqb y a) ≡ true = sym (ap (λ (k : Bool). k || (eqb x b && eqb y a)) f) ∙ sym (keyed-is x y) ∙ e in
          let m = both (eqb x b) (eqb y a) g in inr (eqb-true x b m.0, eqb-true y a m.1)

  pub ends-keyed : (x y : ℕ) → ((x ≡ a) × (y ≡ b)) ⊎ ((x ≡ b) × (y ≡ a)) → keyed x y a b ≡ true
  ends-keyed x y (inl e) = keyed-is x y ∙ rw (eq-eqb x a e.0, eq-eqb y b e.1) refl
  ends-keyed x y (inr e) = keyed-is x y ∙ rw (eq-eqb x b e.0, eq-eqb y a e.1) (or_swap (eqb x a && eqb y b) true)

  -- the three sides of a face with three corners have three keys
  apart : (x y z : ℕ) → (x ≡ y → ⊥) → (y ≡ z → ⊥) → (z ≡ x → ⊥) → (keyed x y a b && keyed y z a b) ≡ false
  apart x y z i j k = pick (keyed x y a b && keyed y z a b) refl
    where
      clash : ((x ≡ a) × (y ≡ b)) ⊎ ((x ≡ b) × (y ≡ a)) → ((y ≡ a) × (z ≡ b)) ⊎ ((y ≡ b) × (z ≡ a)) → ⊥
      clash (inl e) (inl f) = omega arith
      clash (inl e) (inr f) = k (f.1 ∙ sym e.0)
      clash (inr e) (inl f) = k (f.1 ∙ sym e.0)
      clash (inr e) (inr f) = omega arith

      pick : (q : Bool) → (keyed x y a b && keyed y z a b) ≡ q → (keyed x y a b && keyed y z a b) ≡ false
      pick true e = let m = both (keyed x y a b) (keyed y z a b) e in absurd (clash (keyed-ends x y m.0) (keyed-ends y z m.1))
      pick false e = e

  module _ (t : Tri) (d : Differ t) where
    first-second : (keyed t.a t.b a b && keyed t.b t.c a b) ≡ false
    first-second = apart t.a t.b t.c d.ab d.bc d.ca

    second-third : (keyed t.b t.c a b && keyed t.c t.a a b) ≡ false
    second-third = apart t.b t.c t.a d.bc d.ca d.ab

    first-third : (keyed t.a t.b a b && keyed t.c t.a a b) ≡ false
    first-third = and_swap (keyed t.a t.b a b) (keyed t.c t.a a b) ∙ apart t.c t.a t.b d.ca d.ab d.bc

    has-keyed : (keyed t.a t.b a b || (keyed t.b t.c a b || keyed t.c t.a a b)) ≡ has a b t
    has-keyed = ap₂ (λ (x : Bool) (y : Bool). x || y) (keyed-is t.a t.b) (ap₂ (λ (x : Bool) (y : Bool). x || y) (keyed-is t.b t.c) (keyed-is t.c t.a))
        ∙ regroup (eqb t.a a && eqb t.b b) (eqb t.b a && eqb t.c b) (eqb t.c a && eqb t.a b) (eqb t.a b && eqb t.b a) (eqb t.b b && eqb t.c a) (eqb t.c b && eqb t.a a)

    pub spots-more : (i : ℕ) (ts : List Tri) → spots i (t ∷ ts) a b ≡ push (has a b t) (spot i (start_in t a b)) (spots (suc i) ts a b)
    unfolding spots
    spots-more i ts =
        push-one (keyed t.a t.b a b) (keyed t.b t.c a b) (keyed t.c t.a a b) (spot i 0) (spot i 1) (spot i 2) (spots (suc i) ts a b) first-second first-third second-third
        ∙ ap₂ (λ (k : Bool) (s : Spot). push k s (spots (suc i) ts a b)) has-keyed (cond_spot (keyed t.a t.b a b) (keyed t.b t.c a b) i)

    -- the face read from that place on
    pub start_reads : {u v c : ℕ} → Reads t u v c → ((u ≡ a) × (v ≡ b)) ⊎ ((u ≡ b) × (v ≡ a))
        → (corner t (start_in t a b) ≡ u) × (corner t (start_in t a b + 1) ≡ v) × (corner t (start_in t a b + 2) ≡ c)
    start_reads {u} {v} {c} (r0 p q r) e = rw (ends-keyed t.a t.b (moved e)) (p, q, r)
      where
        moved : ((u ≡ a) × (v ≡ b)) ⊎ ((u ≡ b) × (v ≡ a)) → ((t.a ≡ a) × (t.b ≡ b)) ⊎ ((t.a ≡ b) × (t.b ≡ a))
        moved (inl e) = inl (p ∙ e.0, q ∙ e.1)
        moved (inr e) = inr (p ∙ e.0, q ∙ e.1)
    start_reads {u} {v} {c} (r1 p q r) e =
        let k = ends-keyed t.b t.c (moved e) in
        let n : keyed t.a t.b a b ≡ false = off (keyed t.a t.b a b) (keyed t.b t.c a b) first-second k in
        rw (n, k) (p, q, r)
      where
        off : (x y : Bool) → (x && y) ≡ false → y ≡ true → x ≡ false
        off true y e f = absurd (true_false f e)
        off false y e f = refl

        moved : ((u ≡ a) × (v ≡ b)) ⊎ ((u ≡ b) × (v ≡ a)) → ((t.b ≡ a) × (t.c ≡ b)) ⊎ ((t.b ≡ b) × (t.c ≡ a))
        moved (inl e) = inl (p ∙ e.0, q ∙ e.1)
        moved (inr e) = inr (p ∙ e.0, q ∙ e.1)
    start_reads {u} {v} {c} (r2 p q r) e =
        let k = ends-keyed t.c t.a (moved e) in
        let n : keyed t.a t.b a b ≡ false = off (keyed t.a t.b a b) (keyed t.c t.a a b) first-third k in
        let m : keyed t.b t.c a b ≡ false = off (keyed t.b t.c a b) (keyed t.c t.a a b) second-third k in
        rw (n, m) (p, q, r)
      where
        off : (x y : Bool) → (x && y) ≡ false → y ≡ true → x ≡ false
        off true y e f = absurd (true_false f e)
        off false y e f = refl

        moved : ((u ≡ a) × (v ≡ b)) ⊎ ((u ≡ b) × (v ≡ a)) → ((t.c ≡ a) × (t.a ≡ b)) ⊎ ((t.c ≡ b) × (t.a ≡ a))
        moved (inl e) = inl (p ∙ e.0, q ∙ e.1)
        moved (inr e) = inr (p ∙ e.0, q ∙ e.1)

  -- (a), by places
  abbrev Fine : List Tri → Type 0
  Fine ts = (j : ℕ) → j < length ts → Differ (place ts j)

  abbrev here : ℕ → List Tri → ℕ → Spot
  here i ts j = spot (i + j) (start_in (place ts j) a b)

  here-zero : (i : ℕ) (t : Tri) (ts : List Tri) → here i (t ∷ ts) 0 ≡ spot i (start_in t a b)
  here-zero i t ts = let e : i + 0 ≡ i = omega arith in rw e refl

  here-more : (i : ℕ) (t : Tri) (ts : List Tri) (j : ℕ) → here i (t ∷ ts) (suc j) ≡ here (suc i) ts j
  here-more i t ts j = let e : i + suc j ≡ suc i + j = omega arith in rw e refl

  pub no_spots : (i : ℕ) (ts : List Tri) → Fine ts → holders a b ts ≡ 0 → spots i ts a b ≡ []
  unfolding spots holders
  no_spots i [] d e = refl
  no_spots i (t ∷ ts) d e = spots-more t (d 0 (omega arith)) i ts ∙ pick (has a b t) refl (no_spots (suc i) ts (λ j h. d (suc j) (omega arith)))
    where
      pick : (k : Bool) → has a b t ≡ k → (holders a b ts ≡ 0 → spots (suc i) ts a b ≡ []) → push (has a b t) (spot i (start_in t a b)) (spots (suc i) ts a b) ≡ []
      pick true f r = absurd (omega (arith, ap one f))
      pick false f r = rw (f, r (omega (arith, ap one f))) refl

  one_spot : (i : ℕ) (ts : List Tri) → Fine ts → holders a b ts ≡ 1 → spots i ts a b ≡ here i ts (first a b ts) ∷ []
  unfolding spots holders first
  one_spot i [] d e = absurd (omega arith)
  one_spot i (t ∷ ts) d e = spots-more t (d 0 (omega arith)) i ts ∙ pick (has a b t) refl (one_spot (suc i) ts (λ j h. d (suc j) (omega arith)))
    where
      pick : (k : Bool) → has a b t ≡ k → (holders a b ts ≡ 1 → spots (suc i) ts a b ≡ here (suc i) ts (first a b ts) ∷ [])
          → push (has a b t) (spot i (start_in t a b)) (spots (suc i) ts a b) ≡ here i (t ∷ ts) (cond (has a b t) 0 (suc (first a b ts))) ∷ []
      pick true f r = rw (f, no_spots (suc i) ts (λ j h. d (suc j) (omega arith)) (omega (arith, ap one f))) (ap (λ (x : Spot). x ∷ []) (sym (here-zero i t ts)))
      pick false f r = rw f (r (omega (arith, ap one f)) ∙ ap (λ (x : Spot). x ∷ []) (sym (here-more i t ts (first a b ts))))

  two-spots : (i : ℕ) (ts : List Tri) → Fine ts → holders a b ts ≡ 2
      → spots i ts a b ≡ here i ts (first a b ts) ∷ here i ts (suc (first a b ts) + first a b (drop (suc (first a b ts)) ts)) ∷ []
  unfolding spots holders first
  two-spots i [] d e = absurd (omega arith)
  two-spots i (t ∷ ts) d e = spots-more t (d 0 (omega arith)) i ts ∙ pick (has a b t) refl (two-spots (suc i) ts (λ j h. d (suc j) (omega arith)))
    where
      pick : (k : Bool) → has a b t ≡ k
          → (holders a b ts ≡ 2 → spots (suc i) ts a b ≡ here (suc i) ts (first a b ts) ∷ here (suc i) ts (suc (first a b ts) + first a b (drop (suc (first a b ts)) ts)) ∷ [])
          → push (has a b t) (spot i (start_in t a b)) (spots (suc i) ts a b) ≡ here i (t ∷ ts) (cond (has a b t) 0 (suc (first a b ts)))
          ∷ here i (t ∷ ts) (suc (cond (has a b t) 0 (suc (first a b ts))) + first a b (drop (suc (cond (has a b t) 0 (suc (first a b ts)))) (t ∷ ts))) ∷ []
      pick true f r =
          let q : 1 + first a b ts ≡ suc (first a b ts) = omega arith in
          rw (f, q) (ap₂ (λ (x : Spot) (l : List Spot). x ∷ l) (sym (here-zero i t ts))
          (one_spot (suc i) ts (λ j h. d (suc j) (omega arith)) (omega (arith, ap one f)) ∙ ap (λ (x : Spot). x ∷ []) (sym (here-more i t ts (first a b ts)))))
      pick false f r =
          let k = first a b (drop (suc (first a b ts)) ts) in
          let q : suc (suc (first a b ts)) + k ≡ suc (suc (first a b ts) + k) = omega arith in
          rw (f, q) (r (omega (arith, ap one f))
          ∙ ap₂ (λ (x y : Spot). x ∷ y ∷ []) (sym (here-more i t ts (first a b ts))) (sym (here-more i t ts (suc (first a b ts) + k))))

  -- `edges` at a side that is there
  pub side-spots : {ts : List Tri} → Closed ts → 0 < sides ts a b
      → spots 0 ts a b ≡ spot (hinge ts a b).p1 (start_in (place ts (hinge ts a b).p1) a b) ∷ spot (hinge ts a b).p2 (start_in (place ts (hinge ts a b).p2) a b) ∷ []
  unfolding hinge
  side-spots {ts} c g =
      two-spots 0 ts c.differ (holders_two c a b g)
      ∙ ap₂ (λ (x y : Spot). x ∷ y ∷ []) (plain (first a b ts)) (plain (suc (first a b ts) + first a b (drop (suc (first a b ts)) ts)))
    where
      plain : (j : ℕ) → here 0 ts j ≡ spot j (start_in (place ts j) a b)
      plain j = rw (zero-add j) refl

  pub side-shared : {ts : List Tri} → Closed ts → 0 < sides ts a b → shared ts a b ≡ (hinge ts a b).p1 ∷ (hinge ts a b).p2 ∷ []
  unfolding shared
  side-shared c g = ap (map (λ (s : Spot). s.face)) (side-spots c g)

  -- and at one that is not
  pub none-held : (ts : List Tri) → ((j : ℕ) → j < length ts → has a b (place ts j) ≡ false) → holders a b ts ≡ 0
  unfolding holders
  none-held [] h = refl
  none-held (t ∷ ts) h = omega (arith, ap one (h 0 (omega arith)), none-held ts (λ j l. h (suc j) (omega arith)))

  pub none-spots : {ts : List Tri} → Closed ts → sides ts a b ≡ 0 → spots 0 ts a b ≡ []
  none-spots {ts} c e = no_spots 0 ts c.differ (none-held ts (λ j l. off j l (has a b (place ts j)) refl))
    where
      off : (j : ℕ) → j < length ts → (k : Bool) → has a b (place ts j) ≡ k → has a b (place ts j) ≡ false
      off j l true f = absurd (omega (arith, side-exists c a b j l f))
      off j l false f = f

  pub none-shared : {ts : List Tri} → Closed ts → sides ts a b ≡ 0 → shared ts a b ≡ []
  unfolding shared
  none-shared c e = ap (map (λ (s : Spot). s.face)) (none-spots c e)

-- A closed list has half as many sides as places.
use Prim.Native.Nat.{ℕ, zero, suc, ◌+◌, ◌<◌, ◌≤◌}
use native.Mathlib.Omega.{arith}
use mathlib.Core.Path.{◌≡◌, refl, sym, ap, ◌∙◌}
use mathlib.Core.Logic.{⊎_elim}
use mathlib.Core.Bool.{Bool, true, false, ◌&&◌}
use mathlib.Core.List.{List}
use lib.Dec.{eqb, ltb}
use lib.ListN.{length, length-append}
use borrow.Author.Tests.{eqb-true, eq-eqb, ltb-true, ltb-false}
use Rattle.surface.specs.Closed.{one}
use Rattle.halfedges.specs.Place.{nx, at, last_if}
use Rattle.halfedges.proofs.Turns.{same_or}
use Rattle.sides.specs.Side.{Met, find, gate, edge, add, row, rows, sorted}
use Rattle.sides.proofs.Edge.{find-is, find-some, and_true, true_and}

-- the sum of f over the d numbers from b on
abbrev pub total : (ℕ → ℕ) → ℕ → ℕ → ℕ
total f b zero = 0
total f b (suc d) = f b + total f (suc b) d

pub total-same : (f g : ℕ → ℕ) (b d : ℕ) → ((x : ℕ) → f x ≡ g x) → total f b d ≡ total g b d
total-same f g b zero h = refl
total-same f g b (suc d) h = omega (arith, h b, total-same f g (suc b) d h)

pub total-add : (f g : ℕ → ℕ) (b d : ℕ) → total (λ x. f x + g x) b d ≡ total f b d + total g b d
total-add f g b zero = refl
total-add f g b (suc d) = omega (arith, total-add f g (suc b) d)

pub total-none : (f : ℕ → ℕ) (b d : ℕ) → ((x : ℕ) → b ≤ x → f x ≡ 0) → total f b d ≡ 0
total-none f b zero h = refl
total-none f b (suc d) h = omega (arith, h b (omega arith), total-none f (suc b) d (λ x l. h x (omega arith)))

pub total-spot : (f : ℕ → ℕ) (y b d : ℕ) → ((x : ℕ) → (x ≡ y → ⊥) → f x ≡ 0) → b ≤ y → y < b + d → total f b d ≡ f y
total-spot f y b zero h l m = absurd (omega arith)
total-spot f y b (suc d) h l m =
    ⊎_elim
    (λ (z : b ≡ y). omega (arith, ap f z, total-none f (suc b) d (λ x g. h x (λ q. omega arith))))
    (λ (n : b ≡ y → ⊥). omega (arith, h b n, total-spot f y (suc b) d h (omega (arith, n)) (omega arith)))
    (same_or b y)

pub total_swap : (g : ℕ → ℕ → ℕ) (b e a d : ℕ) → total (λ x. total (g x) b e) a d ≡ total (λ y. total (λ x. g x y) a d) b e
total_swap g b e a zero = sym (total-none (λ y. 0) b e (λ y l. refl))
total_swap g b e a (suc d) = omega (arith, total_swap g b e (suc a) d, total-add (g a) (λ y. total (λ x. g x y) (suc a) d) b e)

-- over all pairs
abbrev pub double : (ℕ → ℕ → ℕ) → ℕ → ℕ
double g p = total (λ a. total (g a) 0 p) 0 p

double_same : (f g : ℕ → ℕ → ℕ) (p : ℕ) → ((a b : ℕ) → f a b ≡ g a b) → double f p ≡ double g p
double_same f g p h = total-same (λ a. total (f a) 0 p) (λ a. total (g a) 0 p) 0 p (λ a. total-same (f a) (g a) 0 p (h a))

pub double_add : (f g : ℕ → ℕ → ℕ) (p : ℕ) → double (λ a b. f a b + g a b) p ≡ double f p + double g p
double_add f g p =
    total-same (λ a. total (λ b. f a b + g a b) 0 p) (λ a. total (f a) 0 p + total (g a) 0 p) 0 p (λ a. total-add (f a) (g a) 0 p)
    ∙ total-add (λ a. total (f a) 0 p) (λ a. total (g a) 0 p) 0 p

double_spot : (g : ℕ → ℕ → ℕ) (x y p : ℕ) → ((a b : ℕ) → (a ≡ x → ⊥) → g a b ≡ 0) → ((b : ℕ) → (b ≡ y → ⊥) → g x b ≡ 0) → x < p → y < p → double g p ≡ g x y
double_spot g x y p h k lx ly =
    total-spot (λ a. total (g a) 0 p) x 0 p (λ a n. total-none (g a) 0 p (λ b l. h a b n)) (omega arith) (omega arith)
    ∙ total-spot (g x) y 0 p k (omega arith) (omega arith)

-- the places counted by their ends
abbrev pub sgn : ℕ → ℕ
sgn zero = 0
sgn (suc k) = 1

sgn_some : (n : ℕ) → (n ≡ 0 → ⊥) → sgn n ≡ 1
sgn_some zero h = absurd (h refl)
sgn_some (suc n) h = refl

abbrev pub hit : List ℕ → ℕ → ℕ → ℕ → Bool
hit c i a b = eqb (at c i) a && eqb (at c (nx i)) b

pub hit_zero : (c : List ℕ) (i a b : ℕ) → (at c i ≡ a → at c (nx i) ≡ b → ⊥) → one (hit c i a b) ≡ 0
hit_zero c i a b n = go (hit c i a b) refl
  where
    go : (t : Bool) → hit c i a b ≡ t → one (hit c i a b) ≡ 0
    go true e = let u = and_true (eqb (at c i) a) (eqb (at c (nx i)) b) e in absurd (n (eqb-true (at c i) a u.0) (eqb-true (at c (nx i)) b u.1))
    go false e = ap one e

module _ (c : List ℕ) (met : Met c) where
  pub find-more : (i a b : ℕ) → i < length c → sgn (find c a b (suc i)) ≡ sgn (find c a b i) + one (hit c i a b)
  unfolding find
  find-more i a b l = go (hit c i a b) refl (find c a b i) refl
    where
      go : (t : Bool) → hit c i a b ≡ t → (m : ℕ) → find c a b i ≡ m → sgn (last_if t i m) ≡ sgn m + one t
      go true e zero f = refl
      go true e (suc k) f =
          let u = and_true (eqb (at c i) a) (eqb (at c (nx i)) b) e in
          let v = find-is c a b i k f in
          let vl = v.low in
          let z = met.once k i (omega arith) l (v.from ∙ sym (eqb-true (at c i) a u.0)) (v.to ∙ sym (eqb-true (at c (nx i)) b u.1)) in
          absurd (omega arith)
      go false e zero f = refl
      go false e (suc k) f = refl

  module _ (p : ℕ) (thirds : (k : ℕ) → k < length c → nx k < length c) (below : (k : ℕ) → k < length c → at c k < p) where
    find-count : (i : ℕ) → i ≤ length c → double (λ a b. sgn (find c a b i)) p ≡ i
    find-count zero l =
        double_same (λ a b. sgn (find c a b 0)) (λ a b. 0) p (λ a b. unfold find in refl)
        ∙ total-none (λ a. total (λ b. 0) 0 p) 0 p (λ a m. total-none (λ b. 0) 0 p (λ b n. refl))
    find-count (suc i) l =
        let x = at c i in
        let y = at c (nx i) in
        let spot = double_spot (λ a b. one (hit c i a b)) x y p (λ a b n. hit_zero c i a b (λ e f. n (sym e))) (λ b n. hit_zero c i x b (λ e f. n (sym f))) (below i (omega arith)) (below (nx i) (thirds i (omega arith))) in
        let is : one (hit c i x y) ≡ 1 = ap one (true_and (eqb x x) (eqb y y) (eq-eqb x x refl) (eq-eqb y y refl)) in
        double_same (λ a b. sgn (find c a b (suc i))) (λ a b. sgn (find c a b i) + one (hit c i a b)) p (λ a b. find-more i a b (omega arith))
        ∙ double_add (λ a b. sgn (find c a b i)) (λ a b. one (hit c i a b)) p
        ∙ omega (arith, find-count i (omega arith), spot, is)

    -- a place runs one way or the other, and each way as often
    back_some : (a b k : ℕ) → find c a b (length c) ≡ suc k → find c b a (length c) ≡ 0 → ⊥
    back_some a b k e z =
        let u = find-is c a b (length c) k e in
        let t = met.back k u.low in
        find-some c b a (length c) (met.twin k) (record { low = t.low; from = t.from ∙ u.to; to = t.to ∙ u.from }) z

    back-same : (a b : ℕ) → sgn (find c a b (length c)) ≡ sgn (find c b a (length c))
    back-same a b = go (find c a b (length c)) refl (find c b a (length c)) refl
      where
        go : (m : ℕ) → find c a b (length c) ≡ m → (n : ℕ) → find c b a (length c) ≡ n → sgn m ≡ sgn n
        go zero e zero f = refl
        go zero e (suc k) f = absurd (back_some b a k f e)
        go (suc k) e zero f = absurd (back_some a b k e f)
        go (suc k) e (suc j) f = refl

    loop-none : (a : ℕ) → sgn (find c a a (length c)) ≡ 0
    loop-none a = go (find c a a (length c)) refl
      where
        go : (m : ℕ) → find c a a (length c) ≡ m → sgn m ≡ 0
        go zero e = refl
        go (suc k) e = let u = find-is c a a (length c) k e in absurd (met.differ k u.low (u.from ∙ sym u.to))

    pub either : (a b : ℕ) → sgn (find c a b (length c)) ≡ sgn (edge c a b) + sgn (edge c b a)
    either a b = go (ltb a b) refl (ltb b a) refl
      where
        go : (s : Bool) → ltb a b ≡ s → (t : Bool) → ltb b a ≡ t → sgn (find c a b (length c)) ≡ sgn (gate s (find c a b (length c))) + sgn (gate t (find c b a (length c)))
        go true e true f = let l = ltb-true a b e in let m = ltb-true b a f in absurd (omega arith)
        go true e false f = omega arith
        go false e true f = omega (arith, back-same a b)
        go false e false f =
            let l = ltb-false a b e in
            let m = ltb-false b a f in
            let z : b ≡ a = omega arith in
            ap (λ (x : ℕ). sgn (find c a x (length c))) z ∙ loop-none a

    -- the sorted sides
    row_count : (a b d : ℕ) → length (row c a b d) ≡ total (λ x. sgn (edge c a x)) b d
    unfolding row
    row_count a b zero = refl
    row_count a b (suc d) = go (edge c a b) (row_count a (suc b) d)
      where
        go : (m : ℕ) → length (row c a (suc b) d) ≡ total (λ x. sgn (edge c a x)) (suc b) d → length (add m (row c a (suc b) d)) ≡ sgn m + total (λ x. sgn (edge c a x)) (suc b) d
        go zero ih = omega arith
        go (suc k) ih = omega arith

    rows-count : (a d : ℕ) → length (rows c p a d) ≡ total (λ x. total (λ y. sgn (edge c x y)) 0 p) a d
    unfolding rows
    rows-count a zero = refl
    rows-count a (suc d) = omega (arith, length-append (row c a 0 p) (rows c p (suc a) d), row_count a 0 p, rows-count (suc a) d)

    pub half : length (sorted c p) + length (sorted c p) ≡ length c
    half =
        let sides = rows-count 0 p in
        let all = find-count (length c) (omega arith) in
        let split = double_same (λ a b. sgn (find c a b (length c))) (λ a b. sgn (edge c a b) + sgn (edge c b a)) p either in
        let sum = double_add (λ a b. sgn (edge c a b)) (λ a b. sgn (edge c b a)) p in
        let swap = total_swap (λ a b. sgn (edge c a b)) 0 p 0 p in
        omega (arith, sides, all, split, sum, swap)

-- Which case of `with_level`, `onto` and `crossed_by` the tests of the code pick, and a turn of the loops over the values. Assumes nothing.
use mathlib.Core.Path.{◌≡◌, sym, ap, ◌∙◌}
use mathlib.Core.Bool.{Bool, true, false, not, ◌&&◌, beq, cond, and-true, and-false}
use mathlib.Core.List.{List, [], ◌∷◌, ◌++◌, map, map-append, append-nil}
use Prim.Native.Nat.{ℕ, suc, ◌+◌, ◌≤◌, ◌<◌}
use native.Mathlib.Numerals.{add-one}
use native.Mathlib.Omega.{arith}
use lib.ListN.{length, get_or, take, drop, set, length-map, drop_of_length-le}
use lib.Seq.{drop-cons, drop-length, take-suc, take-length, append_snoc, get_or_at, set_at, length-take-le}
use lib.Ieee as Ieee
use lib.Ieee.{Float, nan}
use Rattle.float.specs.Point.{less}
use Rattle.float.specs.Order.{greater, is_finite}
use Rattle.lattice.specs.Values.{least_normal, magnitude, largest, with_level, value_scale, near_level?, onto}
use Rattle.lattice.specs.Edges.{crossed_by}

chosen : {A : Type 0} {b : Bool} (x y : A) (k : Bool) → b ≡ k → cond k x y ≡ cond b x y
chosen x y k e = sym (ap (λ (z : Bool). cond z x y) e)

pub with_finite : (s level m r : Float) → is_finite level ≡ true → m ≡ magnitude level → r ≡ greater s m → r ≡ with_level s level
unfolding with_level
with_finite s level m r f e g = g ∙ ap (greater s) e ∙ chosen (greater s (magnitude level)) s true f

pub with_none : (s level : Float) → is_finite level ≡ false → s ≡ with_level s level
unfolding with_level
with_none s level f = chosen (greater s (magnitude level)) s false f

pub near_test : (t level v m : Float) → m ≡ magnitude (less v level) → Ieee.le m t ≡ true → is_finite level ≡ near_level? t level v
unfolding near_level?
near_test t level v m e g = sym (ap (λ (b : Bool). is_finite level && b) (ap (λ (x : Float). Ieee.le x t) (sym e) ∙ g) ∙ and-true (is_finite level))

pub near_none : (t level v m : Float) → m ≡ magnitude (less v level) → Ieee.le m t ≡ false → false ≡ near_level? t level v
unfolding near_level?
near_none t level v m e g = sym (ap (λ (b : Bool). is_finite level && b) (ap (λ (x : Float). Ieee.le x t) (sym e) ∙ g) ∙ and-false (is_finite level))

-- a level tested and then taken or not
pub onto_test : (t level v : Float) (b : Bool) → b ≡ near_level? t level v → (k : Bool) → b ≡ k → cond k level v ≡ onto t level v
unfolding onto
onto_test t level v b e k g = chosen level v k (sym e ∙ g)

-- two values on one side of a level, and two on either side
pub one_side : (level v w : Float) → beq (Ieee.lt v level) (Ieee.lt w level) ≡ true → false ≡ crossed_by level v w
unfolding crossed_by
one_side level v w e = sym (ap (λ (b : Bool). is_finite level && not b) e ∙ and-false (is_finite level))

pub two-sides : (level v w : Float) → beq (Ieee.lt v level) (Ieee.lt w level) ≡ false → is_finite level ≡ crossed_by level v w
unfolding crossed_by
two-sides level v w e = sym (ap (λ (b : Bool). is_finite level && not b) e ∙ and-true (is_finite level))

-- ---- the greatest: what is left of the list decides

pub largest-more : (values : List Float) (i : ℕ) (s m r : Float) → i < length values → largest s (drop i values) ≡ largest least_normal values
    → m ≡ magnitude (get_or values i nan) → r ≡ greater s m → largest r (drop (i + 1) values) ≡ largest least_normal values
unfolding largest
largest-more values i s m r h left e g =
    ap (λ (k : ℕ). largest r (drop k values)) (add-one i)
    ∙ ap (λ (x : Float). largest x (drop (suc i) values)) (g ∙ ap (greater s) e)
    ∙ sym (ap (largest s) (drop-cons values i nan h)) ∙ left

pub largest_end : (values : List Float) (i : ℕ) (s : Float) → length values ≤ i → largest s (drop i values) ≡ largest least_normal values → s ≡ largest least_normal values
unfolding largest
largest_end values i s h left = sym (ap (largest s) (drop_of_length-le values h)) ∙ left

pub scaled : (values : List Float) (lower upper l a b : Float) → l ≡ largest least_normal values → a ≡ with_level l lower → b ≡ with_level a upper → b ≡ value_scale lower upper values
unfolding value_scale
scaled values lower upper l a b e f g = g ∙ ap (λ (x : Float). with_level x upper) (f ∙ ap (λ (x : Float). with_level x lower) e)

-- ---- the values so far are changed, and the others are as they were

module _ {A : Type 0} (f : A → A) (l : List A) where
  abbrev pub changed : ℕ → List A
  changed i = map f (take i l) ++ drop i l

  pub change_more : (i : ℕ) (l' : List A) (d v : A) → i < length l → l' ≡ changed i → v ≡ f (get_or l' i d) → set l' i v ≡ changed (i + 1)
  change_more i l' d v h e g =
      let m : length (map f (take i l)) ≡ i = length-map (take i l) f ∙ length-take-le i l (omega arith) in
      let s : l' ≡ map f (take i l) ++ (get_or l i d ∷ drop (suc i) l) = e ∙ ap (λ (x : List A). map f (take i l) ++ x) (drop-cons l i d h) in
      let w : get_or l' i d ≡ get_or l i d = ap (λ (x : List A). get_or x i d) s ∙ get_or_at (map f (take i l)) (get_or l i d) (drop (suc i) l) d i m in
      ap (λ (x : List A). set x i v) s
      ∙ set_at (map f (take i l)) (get_or l i d) (drop (suc i) l) v i m
      ∙ ap (λ (x : A). map f (take i l) ++ (x ∷ drop (suc i) l)) (g ∙ ap f w)
      ∙ sym (append_snoc (map f (take i l)) (f (get_or l i d)) (drop (suc i) l))
      ∙ ap (λ (x : List A). x ++ drop (suc i) l) (sym (ap (map f) (take-suc l i d h) ∙ map-append f (take i l) (get_or l i d ∷ [])))
      ∙ sym (ap changed (add-one i))

  pub change_end : (i : ℕ) (l' : List A) → i ≡ length l → l' ≡ changed i → l' ≡ map f l
  change_end i l' h e =
      e ∙ ap changed h ∙ ap (λ (x : List A). map f (take (length l) l) ++ x) (drop-length l) ∙ append-nil (map f (take (length l) l)) ∙ ap (map f) (take-length l)

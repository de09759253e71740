-- Parts of lists moved forward and back, a place at a time; a triangle or a label put in.
use Prim.Native.Nat.{ℕ, zero, suc, ◌+◌, ◌*◌, ◌-◌, ◌≤◌, ◌<◌}
use mathlib.Core.Path.{◌≡◌, refl, sym, ◌∙◌, ap, subst}
use mathlib.Core.Logic.{◌≢◌}
use mathlib.Core.List.{List, [], ◌∷◌, ◌++◌}
use native.Mathlib.Omega.{arith}
use native.Mathlib.Decide.{ℕ_discrete, dec_lt}
use lib.ListN.{length, get_or, take, drop, set, replicate, length-set, length-append, length-drop, length-replicate, get_or-eq_default, get_or-append, drop_of_length-le}
use lib.Seq.{length-take-le, take_all, get_or-take, get_or-drop, get_or-set_same, get_or-set_other, get_or-append-add, ext_get_or}
use Rattle.surface.specs.Triangle.{Tri, tri}
use Rattle.surface.specs.Edit.{place}
use Rattle.surface.specs.Flat.{held, tri_at, put_at}
use Rattle.surface.proofs.Held.{length-held, place-held, set-held, length-put}
use Rattle.history.specs.Undo.{inserted}
use Rattle.entries.specs.Moved.{Zero, Forward, Backward}
use Rattle.entries.proofs.Mapped.{tri_path}
use Rattle.entries.proofs.Turns.{Turning, turning_on}

-- an element of the list, whatever stands for those that are not there
in_place : {A : Type 0} (l : List A) (j : ℕ) (d e : A) → j < length l → get_or l j d ≡ get_or l j e
in_place [] j d e p = absurd (omega arith)
in_place (x ∷ l) zero d e p = refl
in_place (x ∷ l) (suc j) d e p = in_place l j d e (omega arith)

-- the elements move forward, one at each turn
abbrev pub Shifting : {A : Type 0} → A → ℕ → ℕ → List A → List A → Type 0
Shifting d by i l cur = Turning d (λ (j : ℕ). get_or l (j + by) d) i l cur

module _ {A : Type 0} {d : A} (by : ℕ) {i : ℕ} {l cur : List A} (s : Shifting d by i l cur) where
  -- one that follows is read
  pub shifting_on : (v : A) → v ≡ get_or cur (i + by) v → i + by < length l → Shifting d by (i + 1) l (set cur i v)
  shifting_on v e f = turning_on s (omega arith) v (e ∙ in_place cur (i + by) v d (omega (arith, s.size)) ∙ s.left (i + by) (omega arith))

  -- or none follows
  pub shifting_off : length l ≤ i + by → i < length l → Shifting d by (i + 1) l (set cur i d)
  shifting_off f q = turning_on s q d (sym (get_or-eq_default l d f))

  pub shifting_end : length l ≤ i → Forward d 0 by l cur
  shifting_end q = record { size = s.size; before = λ j p. absurd (omega arith); moved = λ j p. pick j (dec_lt j i) }
    where
      pick : (j : ℕ) → Dec (j < i) → get_or cur j d ≡ get_or l (j + by) d
      pick j (yes p) = s.done j p
      pick j (no p) = s.left j (omega (arith, p)) ∙ get_or-eq_default l d (omega (arith, p)) ∙ sym (get_or-eq_default l d (omega (arith, p)))

-- the elements move back, one at each turn from the end
pub record Sinking {A : Type 0} (by i : ℕ) (l cur : List A) : Type 0 where
  pub size : length cur ≡ length l
  pub low : by ≤ i
  pub high : i ≤ length l
  pub front : (d : A) (j : ℕ) → j < i → get_or cur j d ≡ get_or l j d
  pub back : (d : A) (j : ℕ) → i ≤ j + by → j + by < length l → get_or cur (j + by) d ≡ get_or l j d

pub sinking_start : {A : Type 0} (by : ℕ) (l : List A) → by ≤ length l → Sinking by (length l) l l
sinking_start by l p = record { size = refl; low = p; high = omega arith; front = λ d j q. refl; back = λ d j q r. absurd (omega arith) }

pub sinking_on : {A : Type 0} {by i : ℕ} {l cur : List A} → Sinking by i l cur → by < i → 0 < by → (v : A) → v ≡ get_or cur (i - 1 - by) v → Sinking by (i - 1) l (set cur (i - 1) v)
sinking_on {A} {by} {i} {l} {cur} s f g v e = record {
  size = length-set cur (i - 1) v ∙ s.size;
  low = omega arith;
  high = let h = s.high in omega arith;
  front = λ d j p. let q : j ≢ i - 1 = λ z. omega arith in get_or-set_other cur (i - 1) j v d q ∙ s.front d j (omega arith);
  back = λ d j p r. back d j p r (ℕ_discrete (j + by) (i - 1));
}
  where
    fits : i - 1 < length cur
    fits = let h = s.high in let z = s.size in omega arith

    back : (d : A) (j : ℕ) → i - 1 ≤ j + by → j + by < length l → Dec (j + by ≡ i - 1) → get_or (set cur (i - 1) v) (j + by) d ≡ get_or l j d
    back d j p r (yes q) =
        let h : i - 1 - by ≡ j = omega arith in
        rw q (get_or-set_same cur (i - 1) v d fits ∙ e ∙ in_place cur (i - 1 - by) v d (omega (arith, fits)) ∙ ap (λ (k : ℕ). get_or cur k d) h ∙ s.front d j (omega arith))
    back d j p r (no q) = get_or-set_other cur (i - 1) (j + by) v d q ∙ s.back d j (omega (arith, q)) r

pub sinking_end : {A : Type 0} {by i : ℕ} {l cur : List A} → Sinking by i l cur → i ≤ by → (d : A) → Backward d 0 by l cur
sinking_end {A} {by} {i} {l} {cur} s f d = record { size = s.size; before = λ j p. absurd (omega arith); moved = λ j p r. s.back d j (omega arith) r }

-- a part that was moved, in the whole list
module _ (q : ℕ) (l part' l' : List ℕ) (f : q ≤ length l) (e : l' ≡ take q l ++ part') where
  front : length (take q l) ≡ q
  front = length-take-le q l f

  pub at_front : (j : ℕ) → j < q → get_or l' j 0 ≡ get_or l j 0
  at_front j p = ap (λ (k : List ℕ). get_or k j 0) e ∙ get_or-append (take q l) part' 0 j (omega (arith, front)) ∙ get_or-take q l j 0 p

  pub at_part : (j : ℕ) → get_or l' (q + j) 0 ≡ get_or part' j 0
  at_part j = ap (λ (k : List ℕ). get_or k (q + j) 0) e ∙ ap (λ (k : ℕ). get_or (take q l ++ part') (k + j) 0) (sym front) ∙ get_or-append-add (take q l) part' j 0

  pub whole-size : length part' ≡ length (drop q l) → length l' ≡ length l
  whole-size g = omega (arith, ap length e, length-append (take q l) part', front, length-drop q l)

  forward_whole : {by : ℕ} → Forward 0 0 by (drop q l) part' → Forward 0 q by l l'
  forward_whole {by} s = record {
    size = whole-size s.size;
    before = at_front;
    moved = λ j p.
        let h : q + (j - q) ≡ j = omega arith in
        let g : q + (j - q + by) ≡ j + by = omega arith in
        sym (ap (λ (k : ℕ). get_or l' k 0) h) ∙ at_part (j - q) ∙ s.moved (j - q) (omega arith) ∙ get_or-drop q l (j - q + by) 0 ∙ ap (λ (k : ℕ). get_or l k 0) g;
  }

  backward_whole : {by : ℕ} → Backward 0 0 by (drop q l) part' → Backward 0 q by l l'
  backward_whole {by} s = record {
    size = whole-size s.size;
    before = at_front;
    moved = λ j p r.
        let h : q + (j - q + by) ≡ j + by = omega arith in
        let g : q + (j - q) ≡ j = omega arith in
        sym (ap (λ (k : ℕ). get_or l' k 0) h) ∙ at_part (j - q + by) ∙ s.moved (j - q) (omega arith) (omega (arith, length-drop q l)) ∙ get_or-drop q l (j - q) 0 ∙ ap (λ (k : ℕ). get_or l k 0) g;
  }

-- the same where the part was lent from q to the end of the list
module _ (q : ℕ) (l part' : List ℕ) (f : q ≤ length l) where
  abbrev lent : List ℕ
  lent = take (length l - q) (drop q l)

  abbrev whole : List ℕ
  whole = take q l ++ (part' ++ drop (length l - q) (drop q l))

  lent_is : take (length l - q) (drop q l) ≡ drop q l
  lent_is = take_all (length l - q) (drop q l) (omega (arith, length-drop q l))

  whole_is : take q l ++ (part' ++ drop (length l - q) (drop q l)) ≡ take q l ++ part'
  whole_is = ap (λ (m : List ℕ). take q l ++ m) (ap (λ (m : List ℕ). part' ++ m) (drop_of_length-le (drop q l) {i = length l - q} (omega (arith, length-drop q l))) ∙ append_nil part')
    where
      append_nil : (m : List ℕ) → m ++ [] ≡ m
      append_nil [] = refl
      append_nil (y ∷ m) = ap (λ (n : List ℕ). y ∷ n) (append_nil m)

  pub forward_lent : {by : ℕ} → Forward 0 0 by lent part' → Forward 0 q by l whole
  forward_lent {by} s = forward_whole q l part' whole f whole_is (subst (λ (m : List ℕ). Forward 0 0 by m part') lent_is s)

  pub backward_lent : {by : ℕ} → Backward 0 0 by lent part' → Backward 0 q by l whole
  backward_lent {by} s = backward_whole q l part' whole f whole_is (subst (λ (m : List ℕ). Backward 0 0 by m part') lent_is s)

-- what stands behind a place that is written over
pub backward_set : {q by : ℕ} {l l' : List ℕ} (k v : ℕ) → Backward 0 q by l l' → q ≤ k → k < q + by → Backward 0 q by l (set l' k v)
backward_set {q} {by} {l} {l'} k v s p r = record {
  size = length-set l' k v ∙ s.size;
  before = λ j m. let n : j ≢ k = λ z. omega arith in get_or-set_other l' k j v 0 n ∙ s.before j m;
  moved = λ j m f. let n : j + by ≢ k = λ z. omega arith in get_or-set_other l' k (j + by) v 0 n ∙ s.moved j m f;
}

backward_put : (p : ℕ) {l l' : List ℕ} (t : Tri) → Backward 0 (3 * p) 3 l l' → Backward 0 (3 * p) 3 l (put_at l' p t)
backward_put p {l} {l'} t s =
    backward_set (3 * p + 2) t.c (backward_set (3 * p + 1) t.b (backward_set (3 * p) t.a s (omega arith) (omega arith)) (omega arith) (omega arith)) (omega arith) (omega arith)

pub label-put : {p : ℕ} {l l' : List ℕ} (x : ℕ) → Backward 0 p 1 l l' → p < length l → (Backward 0 p 1 l (set l' p x)) × (get_or (set l' p x) p 0 ≡ x)
label-put {p} {l} {l'} x s f = (backward_set p x s (omega arith) (omega arith), get_or-set_same l' p x 0 (omega (arith, s.size)))

put-there : (l : List ℕ) (p : ℕ) (t : Tri) → 3 * p + 2 < length l → tri_at (put_at l p t) p ≡ t
put-there l p t f = sym (place-held (put_at l p t) (suc p) p (omega (arith, length-put l p t)) (omega arith)) ∙ ap (λ (k : List Tri). place k p) (set-held l (suc p) p t (omega arith) (omega arith))
    ∙ get_or-set_same (held l (suc p)) p t (tri 0 0 0) (omega (arith, length-held l (suc p) (omega arith)))

pub triangle_put : (p : ℕ) {l l' r : List ℕ} (t : Tri) → Backward 0 (3 * p) 3 l l' → 3 * p + 2 < length l → r ≡ put_at l' p t → (Backward 0 (3 * p) 3 l r) × (tri_at r p ≡ t)
triangle_put p {l} {l'} {r} t s f e =
    (subst (λ (m : List ℕ). Backward 0 (3 * p) 3 l m) (sym e) (backward_put p t s), ap (λ (m : List ℕ). tri_at m p) e ∙ put-there l' p t (omega (arith, s.size)))

-- where there is only 0
zeros : (k x : ℕ) → ◌≡◌ {A = ℕ} (get_or (replicate k 0) x 0) 0
zeros zero x = refl
zeros (suc k) zero = refl
zeros (suc k) (suc x) = zeros k x

pub filled : (k : ℕ) (l : List ℕ) → l ≡ replicate k 0 → (j : ℕ) → get_or l j 0 ≡ 0
filled k l e j = ap (λ (m : List ℕ). get_or m j 0) e ∙ zeros k j

pub drop-zero : (k : ℕ) (l : List ℕ) → drop k l ≡ replicate (length l - k) 0 → Zero k l
drop-zero k l e j p =
    let h : k + (j - k) ≡ j = omega arith in
    sym (ap (λ (i : ℕ). get_or l i 0) h) ∙ sym (get_or-drop k l (j - k) 0) ∙ ap (λ (m : List ℕ). get_or m (j - k) 0) e ∙ zeros (length l - k) (j - k)

pub zero-drop : (k : ℕ) (l : List ℕ) → Zero k l → drop k l ≡ replicate (length l - k) 0
zero-drop k l z = ext_get_or 0 (drop k l) (replicate (length l - k) 0) (length-drop k l ∙ sym (length-replicate (length l - k) 0))
    (λ i p. get_or-drop k l i 0 ∙ z (k + i) (omega arith) ∙ sym (zeros (length l - k) i))

pub backward_zero : {q by : ℕ} {l l' : List ℕ} (k : ℕ) → Backward 0 q by l l' → q ≤ k → Zero k l → Zero (k + by) l'
backward_zero {q} {by} {l} {l'} k s p z j m = pick (dec_lt j (length l))
  where
    pick : Dec (j < length l) → get_or l' j 0 ≡ 0
    pick (yes f) = let h : j - by + by ≡ j = omega arith in sym (ap (λ (i : ℕ). get_or l' i 0) h) ∙ s.moved (j - by) (omega arith) (omega arith) ∙ z (j - by) (omega arith)
    pick (no f) = get_or-eq_default l' 0 (omega (arith, s.size, f))

pub drop-same-zero : (k : ℕ) (l l' : List ℕ) → drop k l' ≡ drop k l → Zero k l → Zero k l'
drop-same-zero k l l' e z j p =
    let h : k + (j - k) ≡ j = omega arith in
    sym (ap (λ (i : ℕ). get_or l' i 0) h) ∙ sym (get_or-drop k l' (j - k) 0) ∙ ap (λ (m : List ℕ). get_or m (j - k) 0) e ∙ get_or-drop k l (j - k) 0 ∙ ap (λ (i : ℕ). get_or l i 0) h ∙ z j p

-- a list with one more entry, by the entries
length_in : {A : Type 0} (p : ℕ) (x : A) (l : List A) → length (inserted p x l) ≡ suc (length l)
unfolding inserted
length_in zero x l = refl
length_in (suc p) x [] = refl
length_in (suc p) x (y ∷ l) = ap suc (length_in p x l)

in_at : {A : Type 0} (p : ℕ) (x : A) (l : List A) (d : A) → p ≤ length l → get_or (inserted p x l) p d ≡ x
unfolding inserted
in_at zero x l d q = refl
in_at (suc p) x [] d q = absurd (omega arith)
in_at (suc p) x (y ∷ l) d q = in_at p x l d (omega arith)

in_behind : {A : Type 0} (p : ℕ) (x : A) (l : List A) (d : A) (j : ℕ) → p ≤ j → p ≤ length l → get_or (inserted p x l) (suc j) d ≡ get_or l j d
unfolding inserted
in_behind zero x l d j q r = refl
in_behind (suc p) x [] d j q r = absurd (omega arith)
in_behind (suc p) x (y ∷ l) d zero q r = absurd (omega arith)
in_behind (suc p) x (y ∷ l) d (suc j) q r = in_behind p x l d j (omega arith) (omega arith)

in_before : {A : Type 0} (p : ℕ) (x : A) (l : List A) (d : A) (j : ℕ) → j < p → p ≤ length l → get_or (inserted p x l) j d ≡ get_or l j d
unfolding inserted
in_before zero x l d j q r = absurd (omega arith)
in_before (suc p) x [] d j q r = absurd (omega arith)
in_before (suc p) x (y ∷ l) d zero q r = refl
in_before (suc p) x (y ∷ l) d (suc j) q r = in_before p x l d j (omega arith) (omega arith)

pub inserted_by : {A : Type 0} (d : A) (p : ℕ) (x : A) (xs ys : List A) → p ≤ length xs → length ys ≡ suc (length xs) → ((i : ℕ) → i < p → get_or ys i d ≡ get_or xs i d) → get_or ys p d ≡ x
    → ((j : ℕ) → p ≤ j → j < length xs → get_or ys (suc j) d ≡ get_or xs j d) → ys ≡ inserted p x xs
inserted_by {A} d p x xs ys f e g h k = ext_get_or d ys (inserted p x xs) (e ∙ sym (length_in p x xs)) (λ i m. pick i m (dec_lt i p) (ℕ_discrete i p))
  where
    pick : (i : ℕ) → i < length ys → Dec (i < p) → Dec (i ≡ p) → get_or ys i d ≡ get_or (inserted p x xs) i d
    pick i m (yes q) c = g i q ∙ sym (in_before p x xs d i q f)
    pick i m (no q) (yes r) = rw r (h ∙ sym (in_at p x xs d f))
    pick zero m (no q) (no r) = absurd (r (omega arith))
    pick (suc i) m (no q) (no r) = k i (omega (arith, r)) (omega arith) ∙ sym (in_behind p x xs d i (omega (arith, r)) f)

-- the triangles in use, with one put in
module _ {l l' : List ℕ} (n p : ℕ) (room : 3 * suc n ≤ length l) (f : p ≤ n) where
  pub inserted-held : Backward 0 (3 * p) 3 l l' → (t : Tri) → tri_at l' p ≡ t → held l' (suc n) ≡ inserted p t (held l n)
  inserted-held s t e =
      let z = s.size in
      let a : length (held l' (suc n)) ≡ suc n = length-held l' (suc n) (omega arith) in
      let b : length (held l n) ≡ n = length-held l n (omega arith) in
      inserted_by (tri 0 0 0) p t (held l n) (held l' (suc n)) (omega arith) (omega arith)
      (λ i m. place-held l' (suc n) i (omega arith) (omega arith) ∙ tri_path (s.before (3 * i) (omega arith)) (s.before (3 * i + 1) (omega arith)) (s.before (3 * i + 2) (omega arith))
      ∙ sym (place-held l n i (omega arith) (omega arith)))
      (place-held l' (suc n) p (omega arith) (omega arith) ∙ e)
      (λ j m r. place-held l' (suc n) (suc j) (omega arith) (omega arith) ∙ tri_path (behind (3 * j) (3 * suc j) (omega arith) (omega arith) (omega arith)) (behind (3 * j + 1) (3 * suc j + 1) (omega arith) (omega arith) (omega arith)) (behind (3 * j + 2) (3 * suc j + 2) (omega arith) (omega arith) (omega arith)) ∙ sym (place-held l n j (omega arith) (omega arith)))
    where
      behind : (x y : ℕ) → 3 * p ≤ x → x + 3 ≡ y → y < length l → get_or l' y 0 ≡ get_or l x 0
      behind x y m h r = ap (λ (i : ℕ). get_or l' i 0) (sym h) ∙ s.moved x m (omega arith)

-- the labels in use likewise
module _ {l l' : List ℕ} (n p : ℕ) (room : suc n ≤ length l) (f : p ≤ n) where
  pub inserted-take : Backward 0 p 1 l l' → (x : ℕ) → get_or l' p 0 ≡ x → take (suc n) l' ≡ inserted p x (take n l)
  inserted-take s x e =
      let z = s.size in
      let a : length (take (suc n) l') ≡ suc n = length-take-le (suc n) l' (omega arith) in
      let b : length (take n l) ≡ n = length-take-le n l (omega arith) in
      inserted_by 0 p x (take n l) (take (suc n) l') (omega arith) (omega arith)
      (λ i m. get_or-take (suc n) l' i 0 (omega arith) ∙ s.before i m ∙ sym (get_or-take n l i 0 (omega arith)))
      (get_or-take (suc n) l' p 0 (omega arith) ∙ e)
      (λ j m r. let h : suc j ≡ j + 1 = omega arith in get_or-take (suc n) l' (suc j) 0 (omega arith) ∙ ap (λ (i : ℕ). get_or l' i 0) h ∙ s.moved j m (omega arith) ∙ sym (get_or-take n l j 0 (omega arith)))

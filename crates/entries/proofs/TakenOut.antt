-- A list of which two pieces are taken out in one move; the triangles and the labels in use then.
use Prim.Native.Nat.{ℕ, zero, suc, ◌+◌, ◌*◌, ◌-◌, ◌≤◌, ◌<◌}
use mathlib.Core.Path.{◌≡◌, refl, sym, ◌∙◌, ap}
use mathlib.Core.List.{List, ◌++◌}
use native.Mathlib.Omega.{arith}
use native.Mathlib.Decide.{dec_lt}
use lib.ListN.{length, get_or, take, drop, length-append, length-drop, get_or-append}
use lib.Seq.{length-take-le, get_or-take, get_or-drop, get_or-append-add, ext_get_or}
use Rattle.surface.specs.Triangle.{tri}
use Rattle.surface.specs.Edit.{without, place}
use Rattle.surface.specs.Flat.{held}
use Rattle.surface.proofs.Held.{length-held, place-held}
use Rattle.surface.proofs.Labels.{skip, out_at}
use Rattle.surface.proofs.Places.{length_without}
use Rattle.entries.specs.Moved.{Zero, Forward, TakenOut}
use Rattle.entries.proofs.Mapped.{tri_path}
use Rattle.entries.proofs.Moved.{at_front, at_part, whole-size, forward_lent}

-- the part from p to q was lent and moved forward
module _ (p q by : ℕ) (l part' : List ℕ) (o : p + by ≤ q) (f : q ≤ length l) (s : Forward 0 0 by (take (q - p) (drop p l)) part') where
  abbrev rest : List ℕ
  rest = drop (q - p) (drop p l)

  abbrev first : List ℕ
  first = take p l ++ (part' ++ drop (q - p) (drop p l))

  part-size : length part' ≡ q - p
  part-size = s.size ∙ length-take-le (q - p) (drop p l) (omega (arith, length-drop p l))

  first-size : length (take p l ++ (part' ++ drop (q - p) (drop p l))) ≡ length l
  first-size = whole-size p l (part' ++ rest) first (omega arith) refl (omega (arith, length-append part' rest, part-size, length-drop (q - p) (drop p l), length-drop p l))

  first-at : (i j : ℕ) → p + i ≡ j → get_or first j 0 ≡ get_or (part' ++ rest) i 0
  first-at i j e = ap (λ (k : ℕ). get_or first k 0) (sym e) ∙ at_part p l (part' ++ rest) first (omega arith) refl i

  first_part : (j : ℕ) → p ≤ j → j + by < q → get_or first j 0 ≡ get_or l (j + by) 0
  first_part j a b =
      let e : p + (j - p + by) ≡ j + by = omega arith in
      first-at (j - p) j (omega arith) ∙ get_or-append part' rest 0 (j - p) (omega (arith, part-size)) ∙ s.moved (j - p) (omega arith)
      ∙ get_or-take (q - p) (drop p l) (j - p + by) 0 (omega arith) ∙ get_or-drop p l (j - p + by) 0 ∙ ap (λ (k : ℕ). get_or l k 0) e

  first_rest : (j : ℕ) → q ≤ j → get_or first j 0 ≡ get_or l j 0
  first_rest j a =
      let e : p + (q - p + (j - q)) ≡ j = omega arith in
      first-at (length part' + (j - q)) j (omega (arith, part-size)) ∙ get_or-append-add part' rest (j - q) 0
      ∙ get_or-drop (q - p) (drop p l) (j - q) 0 ∙ get_or-drop p l (q - p + (j - q)) 0 ∙ ap (λ (k : ℕ). get_or l k 0) e

  -- and then the part from the freed places on moved forward over these and the by places at q
  pub taken_out : (part'' : List ℕ) → Forward 0 0 (by + by) (take (length first - (q - by)) (drop (q - by) first)) part''
      → TakenOut p q by l (take (q - by) first ++ (part'' ++ drop (length first - (q - by)) (drop (q - by) first)))
  taken_out part'' u =
      let t = forward_lent (q - by) first part'' (omega (arith, first-size)) u in
      record {
        size = t.size ∙ first-size;
        before = λ j a. t.before j (omega arith) ∙ at_front p l (part' ++ rest) first (omega arith) refl j a;
        between = λ j a b. t.before j (omega arith) ∙ first_part j a b;
        behind = λ j a. let e : j + (by + by) ≡ j + by + by = omega arith in t.moved j (omega arith) ∙ first_rest (j + (by + by)) (omega arith) ∙ ap (λ (k : ℕ). get_or l k 0) e;
      }

pub taken_out_zero : {p q by : ℕ} {l l' : List ℕ} (k : ℕ) → TakenOut p q by l l' → q ≤ k + by → Zero (k + by + by) l → Zero k l'
taken_out_zero k s a z j m = s.behind j (omega arith) ∙ z _ (omega arith)

-- a list without two of its entries, by the entries
skip_far : (p i : ℕ) → p ≤ i → skip p i ≡ suc i
unfolding skip
skip_far zero i q = refl
skip_far (suc p) zero q = absurd (omega arith)
skip_far (suc p) (suc i) q = ap suc (skip_far p i (omega arith))

skip_near : (p i : ℕ) → i < p → skip p i ≡ i
unfolding skip
skip_near zero i q = absurd (omega arith)
skip_near (suc p) zero q = refl
skip_near (suc p) (suc i) q = ap suc (skip_near p i (omega arith))

module _ {A : Type 0} (d : A) where
  out_near : (p i : ℕ) (xs : List A) → i < p → get_or (without p xs) i d ≡ get_or xs i d
  out_near p i xs a = out_at xs p i d ∙ ap (λ (j : ℕ). get_or xs j d) (skip_near p i a)

  out_far : (p i : ℕ) (xs : List A) → p ≤ i → get_or (without p xs) i d ≡ get_or xs (suc i) d
  out_far p i xs a = out_at xs p i d ∙ ap (λ (j : ℕ). get_or xs j d) (skip_far p i a)

  without-two : (p q : ℕ) (xs ys : List A) → p < q → q < length xs → length ys + 2 ≡ length xs → ((i : ℕ) → i < p → get_or ys i d ≡ get_or xs i d)
      → ((i : ℕ) → p ≤ i → suc i < q → get_or ys i d ≡ get_or xs (suc i) d) → ((i : ℕ) → q ≤ suc i → i < length ys → get_or ys i d ≡ get_or xs (suc (suc i)) d) → ys ≡ without p (without q xs)
  without-two p q xs ys o f e g h k =
      let a = length_without xs q f in
      let b = length_without (without q xs) p (omega arith) in
      ext_get_or d ys (without p (without q xs)) (omega arith) (λ i m. pick i m (dec_lt i p) (dec_lt (suc i) q))
    where
      pick : (i : ℕ) → i < length ys → Dec (i < p) → Dec (suc i < q) → get_or ys i d ≡ get_or (without p (without q xs)) i d
      pick i m (yes a) b = g i a ∙ sym (out_near p i (without q xs) a ∙ out_near q i xs (omega arith))
      pick i m (no a) (yes b) = h i (omega arith) b ∙ sym (out_far p i (without q xs) (omega arith) ∙ out_near q (suc i) xs b)
      pick i m (no a) (no b) = k i (omega arith) m ∙ sym (out_far p i (without q xs) (omega arith) ∙ out_far q (suc i) xs (omega arith))

-- the triangles in use, of which m stay
module _ (l l' : List ℕ) (n m p q : ℕ) (count : m + 2 ≡ n) (room : 3 * n ≤ length l) (o : p < q) (f : q < n) (s : TakenOut (3 * p) (3 * q) 3 l l') where
  same_at : (i j : ℕ) → i < m → j < n → get_or l' (3 * i) 0 ≡ get_or l (3 * j) 0 → get_or l' (3 * i + 1) 0 ≡ get_or l (3 * j + 1) 0 → get_or l' (3 * i + 2) 0 ≡ get_or l (3 * j + 2) 0
      → place (held l' m) i ≡ place (held l n) j
  same_at i j a b x y z = place-held l' m i (omega (arith, s.size)) a ∙ tri_path x y z ∙ sym (place-held l n j room b)

  between : (i j : ℕ) → 3 * p ≤ i → i + 3 < 3 * q → i + 3 ≡ j → get_or l' i 0 ≡ get_or l j 0
  between i j a b e = s.between i a b ∙ ap (λ (k : ℕ). get_or l k 0) e

  behind : (i j : ℕ) → 3 * q ≤ i + 3 → i + 3 + 3 ≡ j → get_or l' i 0 ≡ get_or l j 0
  behind i j a e = s.behind i a ∙ ap (λ (k : ℕ). get_or l k 0) e

  pub taken_out_held : held l' m ≡ without p (without q (held l n))
  taken_out_held =
      let a = length-held l' m (omega (arith, s.size)) in
      let b = length-held l n room in
      without-two (tri 0 0 0) p q (held l n) (held l' m) o (omega arith) (omega arith)
      (λ i c. same_at i i (omega arith) (omega arith) (s.before (3 * i) (omega arith)) (s.before (3 * i + 1) (omega arith)) (s.before (3 * i + 2) (omega arith)))
      (λ i c e. same_at i (suc i) (omega arith) (omega arith) (between (3 * i) (3 * suc i) (omega arith) (omega arith) (omega arith)) (between (3 * i + 1) (3 * suc i + 1) (omega arith) (omega arith) (omega arith)) (between (3 * i + 2) (3 * suc i + 2) (omega arith) (omega arith) (omega arith)))
      (λ i c e. same_at i (suc (suc i)) (omega arith) (omega arith) (behind (3 * i) (3 * suc (suc i)) (omega arith) (omega arith)) (behind (3 * i + 1) (3 * suc (suc i) + 1) (omega arith) (omega arith)) (behind (3 * i + 2) (3 * suc (suc i) + 2) (omega arith) (omega arith)))

-- the labels in use likewise
module _ (l l' : List ℕ) (n m p q : ℕ) (count : m + 2 ≡ n) (room : n ≤ length l) (o : p < q) (f : q < n) (s : TakenOut p q 1 l l') where
  taken_at : (i j k : ℕ) → i < m → j < n → k ≡ j → get_or l' i 0 ≡ get_or l k 0 → get_or (take m l') i 0 ≡ get_or (take n l) j 0
  taken_at i j k a b e x = get_or-take m l' i 0 a ∙ x ∙ ap (λ (h : ℕ). get_or l h 0) e ∙ sym (get_or-take n l j 0 b)

  pub taken_out_take : take m l' ≡ without p (without q (take n l))
  taken_out_take =
      let a = length-take-le m l' (omega (arith, s.size)) in
      let b = length-take-le n l room in
      without-two 0 p q (take n l) (take m l') o (omega arith) (omega arith)
      (λ i c. taken_at i i i (omega arith) (omega arith) refl (s.before i c))
      (λ i c e. taken_at i (suc i) (i + 1) (omega arith) (omega arith) (omega arith) (s.between i c (omega arith)))
      (λ i c e. taken_at i (suc (suc i)) (i + 1 + 1) (omega arith) (omega arith) (omega arith) (s.behind i (omega arith)))

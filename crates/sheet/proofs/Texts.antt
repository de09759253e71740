-- A text is that of one sheet of one edition at most, and how long sheets are. Assumes nothing.
use mathlib.Core.Path.{◌≡◌, refl, sym, ap, ◌∙◌, subst}
use mathlib.Core.List.{List, [], ◌∷◌, ◌++◌, append_assoc, head-eq_of_cons-eq}
use Prim.Native.Nat.{ℕ, zero, suc, ◌+◌, ◌*◌, ◌/◌, ◌^◌, ◌≤◌, ◌<◌}
use native.Mathlib.Nat.{pow-suc, suc-mul, lt_of_le_of_lt, mul-le-mul_right}
use native.Mathlib.Omega.{arith}
use borrow.Author.Tests.{eq-eqb, ne_eqb}
use mathlib.Core.Logic.{◌⊎◌, inl, inr, ⊎_elim}
use lib.IntN.{ℤ, pos, negsuc, nat_abs}
use lib.ListN.{length, length-append}
use Rattle.sheet.specs.Text.{decimal, integer, lines}
use Rattle.sheet.specs.Sheet.{Point, Triangle, Sheet, Every, Near, Small, InRange, text_after, point_line, triangle_line, counts_line, point_names, triangle_names}
use Rattle.sheet.specs.Edition.{Edition, first_edition, second_edition, edition, IsEdition}
use Rattle.sheet.specs.Laws.{OneSheet, OneEdition}
use Rattle.sheet.specs.Stages.{ended}
use Rattle.sheet.proofs.Decimal.{split, decimal-one, tenth}
use Rattle.sheet.proofs.Whole.{text_unique}

pub one-sheet : OneSheet
one-sheet e = text_unique e.opening

-- ---- the first byte tells the edition

first_byte : (s : Sheet) → (r : List ℕ) × (text_after first_edition.opening s ≡ 112 ∷ r)
unfolding text_after
first_byte s = (_, refl)

second_byte : (s : Sheet) → (r : List ℕ) × (text_after second_edition.opening s ≡ 101 ∷ r)
unfolding text_after
second_byte s = (_, refl)

-- what holds of both editions
pub by_number : (P : ℕ → Type 0) → P 1 → P 2 → (n : ℕ) → IsEdition n → P n
by_number P f s n known = split n 2 (λ (l : n < 2). subst P (omega arith) f) (λ (l : 2 ≤ n). subst P (omega arith) s)

pub edition-two : (n : ℕ) → n ≡ 2 → edition n ≡ second_edition
edition-two n e = rw (eq-eqb n 2 e, edition)

pub edition_other : (n : ℕ) → (n ≡ 2 → ⊥) → edition n ≡ first_edition
edition_other n e = rw (ne_eqb n 2 e, edition)

-- the first byte is 101, `e`, in the second edition only
pub starts : (n : ℕ) → IsEdition n → (s : Sheet) → (b : ℕ) × (r : List ℕ) × (text_after (edition n).opening s ≡ b ∷ r) × (((b ≡ 101) × (n ≡ 2)) ⊎ ((b ≡ 112) × (n ≡ 1)))
starts n k s =
    split n 2
    (λ (h : n < 2). let f = first_byte s in (112, f.0, ap (λ (e : Edition). text_after e.opening s) (edition_other n (λ e. omega arith)) ∙ f.1, inr (refl, omega arith)))
    (λ (h : 2 ≤ n). let f = second_byte s in let two : n ≡ 2 = omega arith in (101, f.0, ap (λ (e : Edition). text_after e.opening s) (edition-two n two) ∙ f.1, inl (refl, two)))

pub one-edition : OneEdition
one-edition n m hn hm s t e =
    let a = starts n hn s in
    let b = starts m hm t in
    let same : a.0 ≡ b.0 = head-eq_of_cons-eq (sym a.2 ∙ e ∙ b.2) in
    ⊎_elim (λ x. ⊎_elim (λ y. (omega arith)) (λ y. absurd (omega arith)) b.3) (λ x. ⊎_elim (λ y. absurd (omega arith)) (λ y. (omega arith)) b.3) a.3

-- ---- a line is its fields

point-joined : (p : Point) → ended (integer p.x) 32 ++ (ended (integer p.y) 32 ++ ended (integer p.z) 10) ≡ point_line p
point-joined p = simp append_assoc

triangle_joined : (t : Triangle)
    → ended (decimal t.a) 32 ++ (ended (decimal t.b) 32 ++ (ended (decimal t.c) 32 ++ ended (decimal t.label) 10)) ≡ triangle_line t
triangle_joined t = simp append_assoc

-- ---- how long it is

pub digits_long : (k n : ℕ) → n < 10 ^ suc k → length (decimal n) ≤ suc k
digits_long zero n h = let e : length (decimal n) ≡ 1 = ap length (decimal-one n h) in omega arith
digits_long (suc k) n h =
    split n 10
    (λ g. let e : length (decimal n) ≡ 1 = ap length (decimal-one n g) in omega arith)
    (λ g.
    let few : n / 10 < 10 ^ suc k = tenth_below k n h in
    let i = digits_long k (n / 10) few in
    let e : length (decimal n) ≡ length (decimal (n / 10)) + 1 = ap length (tenth n g) ∙ length-append (decimal (n / 10)) _ in
    omega arith)
  where
    tenth_below : (k n : ℕ) → n < 10 ^ suc (suc k) → n / 10 < 10 ^ suc k
    tenth_below k n h = let e : 10 ^ suc (suc k) ≡ 10 ^ suc k * 10 = pow-suc 10 (suc k) in omega arith

-- a coordinate below 10 ^ suc k has as many digits at most, and a sign
integer-long : (k : ℕ) (z : ℤ) → nat_abs z < 10 ^ suc k → length (integer z) ≤ k + 2
unfolding integer
integer-long k (pos n) h = let d = digits_long k n h in omega arith
integer-long k (negsuc n) h = let d = digits_long k (suc n) h in omega arith

ended-long : (w : List ℕ) (e : ℕ) → length (ended w e) ≡ length w + 1
ended-long w e = length-append w (e ∷ [])

point-long : (most k : ℕ) → most < 10 ^ suc k → (p : Point) → Near most p → length (point_line p) ≤ k * 3 + 9
point-long most k few p h =
    let x = ended (integer p.x) 32 in
    let y = ended (integer p.y) 32 in
    let z = ended (integer p.z) 10 in
    let e : length (point_line p) ≡ length x + (length y + length z) = ap length (sym (point-joined p)) ∙ length-append x (y ++ z) ∙ ap (λ (j : ℕ). length x + j) (length-append y z) in
    let lx = integer-long k p.x (lt_of_le_of_lt h.x few) in
    let ly = integer-long k p.y (lt_of_le_of_lt h.y few) in
    let lz = integer-long k p.z (lt_of_le_of_lt h.z few) in
    omega (arith, ended-long (integer p.x) 32, ended-long (integer p.y) 32, ended-long (integer p.z) 10)

triangle_long : (t : Triangle) → Small t → length (triangle_line t) ≤ 37
triangle_long t h =
    let a = ended (decimal t.a) 32 in
    let b = ended (decimal t.b) 32 in
    let c = ended (decimal t.c) 32 in
    let l = ended (decimal t.label) 10 in
    let e : length (triangle_line t) ≡ length a + (length b + (length c + length l)) =
    ap length (sym (triangle_joined t)) ∙ length-append a (b ++ (c ++ l)) ∙ ap (λ (k : ℕ). length a + k) (length-append b (c ++ l) ∙ ap (λ (k : ℕ). length b + k) (length-append c l)) in
    let small-a = h.a in
    let small_b = h.b in
    let small-c = h.c in
    let small-l = h.label in
    let da = digits_long 9 t.a (omega arith) in
    let db = digits_long 9 t.b (omega arith) in
    let dc = digits_long 9 t.c (omega arith) in
    let dl = digits_long 2 t.label (omega arith) in
    omega (arith, ended-long (decimal t.a) 32, ended-long (decimal t.b) 32, ended-long (decimal t.c) 32, ended-long (decimal t.label) 10)

lines_long : {A : Type 0} (w : A → List ℕ) (P : A → Type 0) (c : ℕ) → ((a : A) → P a → length (w a) ≤ c) → (l : List A) → Every P l → length (lines w l) ≤ length l * c
lines_long w P c f [] h = omega arith
lines_long w P c f (a ∷ l) h =
    let e : length (lines w (a ∷ l)) ≡ length (w a) + length (lines w l) = length-append (w a) (lines w l) in
    let i = lines_long w P c f l h.1 in
    let j = f a h.0 in
    let k : length (a ∷ l) * c ≡ length l * c + c = suc-mul (length l) c in
    omega arith

counts-long : (n m : ℕ) → n ≤ 128 → m ≤ 256 → length (counts_line n m) ≤ 8
counts-long n m hn hm =
    let e : length (counts_line n m) ≡ length (decimal n) + suc (length (decimal m ++ (10 ∷ []))) = length-append (decimal n) (32 ∷ (decimal m ++ (10 ∷ []))) in
    let dn = digits_long 2 n (omega arith) in
    let dm = digits_long 2 m (omega arith) in
    omega (arith, length-append (decimal m) (10 ∷ []))

-- no sheet is longer than its opening, 9,498 bytes more, and 128 lines of points with a sign and suc k digits at most
pub longest : (opening : List ℕ) (most k : ℕ) → most < 10 ^ suc k → (s : Sheet) → InRange most s → length (text_after opening s) ≤ length opening + 9498 + 128 * (k * 3 + 9)
unfolding text_after
longest opening most k few s ok =
    let n = length s.points in
    let m = length s.triangles in
    let P = lines point_line s.points in
    let Q = lines triangle_line s.triangles in
    let hn = ok.points in
    let hm = ok.triangles in
    let e : length (text_after opening s) ≡ length opening + (length (counts_line n m) + (6 + (length P + (12 + length Q)))) =
    length-append opening (counts_line n m ++ (point_names ++ (P ++ (triangle_names ++ Q))))
    ∙ ap (λ (j : ℕ). length opening + j)
    (length-append (counts_line n m) (point_names ++ (P ++ (triangle_names ++ Q)))
    ∙ ap (λ (j : ℕ). length (counts_line n m) + j)
    (length-append point_names (P ++ (triangle_names ++ Q)) ∙ ap (λ (j : ℕ). 6 + j) (length-append P (triangle_names ++ Q) ∙ ap (λ (j : ℕ). length P + j) (length-append triangle_names Q)))) in
    let c = counts-long n m hn hm in
    let p = lines_long point_line (Near most) (k * 3 + 9) (point-long most k few) s.points ok.near in
    let q = lines_long triangle_line Small 37 triangle_long s.triangles ok.small in
    let p' : n * (k * 3 + 9) ≤ 128 * (k * 3 + 9) = mul-le-mul_right (k * 3 + 9) hn in
    omega arith

-- 12,203 bytes in the first edition, 12,981 in the second
pub longest_first : (s : Sheet) → InRange first_edition.most s → length (text_after first_edition.opening s) ≤ 12203
longest_first s ok = longest first_edition.opening 32768 4 (omega arith) s ok

pub longest_second : (s : Sheet) → InRange second_edition.most s → length (text_after second_edition.opening s) ≤ 12981
longest_second s ok = longest second_edition.opening 2097152 6 (omega arith) s ok

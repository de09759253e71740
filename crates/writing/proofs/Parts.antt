-- The parts of a sheet's text, as they are written. Assumes nothing.
use mathlib.Core.Path.{◌≡◌, sym, ap, ◌∙◌, subst}
use mathlib.Core.Bool.{true, false, not}
use mathlib.Core.List.{List, [], ◌∷◌, ◌++◌, append_assoc, append-nil}
use Prim.Native.Nat.{ℕ, ◌+◌, ◌*◌, ◌/◌, ◌%◌, ◌≤◌, ◌<◌, ◌^◌}
use native.Mathlib.Nat.{suc-mul}
use native.Mathlib.Numerals.{add-one}
use native.Mathlib.Omega.{arith}
use lib.IntN.{ℤ, pos, negsuc, nat_abs}
use lib.Signed.{non_neg}
use lib.ListN.{length, get_or, take}
use lib.Seq.{take-suc, take_all}
use Rattle.sheet.specs.Text.{decimal, integer, lines}
use Rattle.sheet.specs.Sheet.{Point, Triangle, Sheet, text_after, point_line, triangle_line, point_names, triangle_names}
use Rattle.sheet.specs.Stages.{ended, head_text}
use Rattle.sheet.specs.Edition.{rules_of}
use Rattle.sheet.specs.declared.Edition as declared
use Rattle.sheet.specs.declared.Edition.TheVariants.{First, Second}
use Rattle.sheet.proofs.Decimal.{decimal-one, tenth}
use Rattle.sheet.proofs.Lines.{lines-append}
use Rattle.sheet.proofs.Texts.{digits_long}
use Rattle.writing.specs.Lists.{each, list_point, list_triangle, sheet_front}
use Rattle.writing.specs.Stages.{Put}
use Rattle.writing.proofs.Puts.{both, said_as, bounded}
use Rattle.writing.proofs.Threes.{length-each}

-- ---- numbers

pub one-digit : {l l' : List ℕ} {at next : ℕ} (v b : ℕ) → v < 10 → b ≡ 48 + v → Put (b ∷ []) 1 l l' at next → Put (decimal v) 10 l l' at next
one-digit v b h e p = said_as (decimal v) 10 (ap (λ (k : ℕ). k ∷ []) e ∙ sym (decimal-one v h)) (omega arith) p

pub more-digits : {l l₁ l₂ : List ℕ} {at i next : ℕ} (v b : ℕ) → v < 2 ^ 32 → 10 ≤ v → b ≡ 48 + v % 10 → Put (decimal (v / 10)) 10 l l₁ at i → Put (b ∷ []) 1 l₁ l₂ i next → Put (decimal v) 10 l l₂ at next
more-digits v b s h e p q =
    bounded 10 (digits_long 9 v (omega arith))
    (said_as (decimal v) 11 (ap (λ (k : ℕ). decimal (v / 10) ++ (k ∷ [])) e ∙ sym (tenth v h)) (omega arith) (both p q))

pub minus : {l l₁ l₂ : List ℕ} {at i next : ℕ} (z : ℤ) (v e : ℕ) → v ≡ nat_abs z → not (non_neg z) ≡ true → Put (45 ∷ []) 1 l l₁ at i → Put (ended (decimal v) e) 11 l₁ l₂ i next → Put (ended (integer z) e) 12 l l₂ at next
unfolding integer
minus (pos n) v e f t p q = let bad : ◌≡◌ {A = ℕ} 0 1 = cc in absurd (omega arith)
minus (negsuc n) v e f t p q = said_as (ended (integer (negsuc n)) e) 12 (ap (λ (k : ℕ). 45 ∷ ended (decimal k) e) f) (omega arith) (both p q)

pub no_minus : {l l' : List ℕ} {at next : ℕ} (z : ℤ) (v e : ℕ) → v ≡ nat_abs z → not (non_neg z) ≡ false → Put (ended (decimal v) e) 11 l l' at next → Put (ended (integer z) e) 12 l l' at next
unfolding integer
no_minus (pos n) v e f t p = said_as (ended (integer (pos n)) e) 12 (ap (λ (k : ℕ). ended (decimal k) e) f) (omega arith) p
no_minus (negsuc n) v e f t p = let bad : ◌≡◌ {A = ℕ} 0 1 = cc in absurd (omega arith)

-- ---- lines

pub point-put : {l l₁ l₂ l₃ : List ℕ} {at i j next : ℕ} (p : Point) → Put (ended (integer p.x) 32) 12 l l₁ at i → Put (ended (integer p.y) 32) 12 l₁ l₂ i j → Put (ended (integer p.z) 10) 12 l₂ l₃ j next → Put (point_line p) 36 l l₃ at next
point-put p a b c = said_as (point_line p) 36 (simp append_assoc) (omega arith) (both a (both b c))

pub triangle_put : {l l₁ l₂ l₃ l₄ : List ℕ} {at i j k next : ℕ} (t : Triangle) → Put (ended (decimal t.a) 32) 11 l l₁ at i → Put (ended (decimal t.b) 32) 11 l₁ l₂ i j → Put (ended (decimal t.c) 32) 11 l₂ l₃ j k
    → Put (ended (decimal t.label) 10) 11 l₃ l₄ k next → Put (triangle_line t) 44 l l₄ at next
triangle_put t a b c d = said_as (triangle_line t) 44 (simp append_assoc) (omega arith) (both a (both b (both c d)))

-- one line more
pub line-more : {A : Type 0} (w : A → List ℕ) (f : ℕ → A) {k m c : ℕ} {l l₁ l₂ : List ℕ} {at i next : ℕ} → m ≡ k * c → Put (lines w (each f k)) m l l₁ at i → Put (w (f k)) c l₁ l₂ i next → Put (lines w (each f (k + 1))) ((k + 1) * c) l l₂ at next
line-more w f {k} {m} {c} h p q =
    said_as (lines w (each f (k + 1))) ((k + 1) * c)
    (ap (λ (t : List ℕ). lines w (each f k) ++ t) (sym (append-nil (w (f k)))) ∙ sym (lines-append w (each f k) (f k ∷ [])) ∙ ap (λ (n : ℕ). lines w (each f n)) (sym (add-one k)))
    (grows k m c h)
    (both p q)
  where
    grows : (k m c : ℕ) → m ≡ k * c → m + c ≤ (k + 1) * c
    grows k m c h = let e : (k + 1) * c ≡ k * c + c = ap (λ (n : ℕ). n * c) (add-one k) ∙ suc-mul k c in omega arith

-- one byte of a word more
pub byte_more : (w : List ℕ) (k b : ℕ) {l l₁ l₂ : List ℕ} {at i next : ℕ} → k < length w → b ≡ get_or w k 0 → Put (take k w) k l l₁ at i → Put (b ∷ []) 1 l₁ l₂ i next → Put (take (k + 1) w) (k + 1) l l₂ at next
byte_more w k b h e p q = said_as (take (k + 1) w) (k + 1) (ap (λ (x : ℕ). take k w ++ (x ∷ [])) e ∙ sym (take-suc w k 0 h) ∙ ap (λ (n : ℕ). take n w) (sym (add-one k))) (omega arith) (both p q)

pub word-whole : (w : List ℕ) (k : ℕ) {l l' : List ℕ} {at next : ℕ} → length w ≡ k → Put (take k w) k l l' at next → Put w (length w) l l' at next
word-whole w k h p = said_as w (length w) (take_all k w (omega arith)) (omega arith) p

-- ---- the text

pub opening-short : (e : declared.Edition) → length (rules_of e).opening ≤ 27
opening-short First = omega arith
opening-short Second = omega arith

pub opening_put : {w l l' : List ℕ} {at next : ℕ} (e : declared.Edition) → w ≡ (rules_of e).opening → Put w (length w) l l' at next → Put (rules_of e).opening 27 l l' at next
opening_put {w} {l} {l'} {at} {next} e q p = bounded 27 (opening-short e) (subst (λ (o : List ℕ). Put o (length o) l l' at next) q p)

pub head-put : {l l₁ l₂ l₃ l₄ : List ℕ} {at i j k next : ℕ} (opening : List ℕ) (n m : ℕ) → Put opening 27 l l₁ at i → Put (ended (decimal n) 32) 11 l₁ l₂ i j → Put (ended (decimal m) 10) 11 l₂ l₃ j k → Put point_names 6 l₃ l₄ k next → Put (head_text opening n m) 55 l l₄ at next
head-put opening n m a b c d = said_as (head_text opening n m) 55 (simp append_assoc) (omega arith) (both a (both b (both c d)))

pub text-put : {l l₁ l₂ l₃ l₄ : List ℕ} {i j k next : ℕ} (opening : List ℕ) (s : Sheet) {p t : ℕ} → p ≤ 128 * 36 → t ≤ 256 * 44
    → Put (head_text opening (length s.points) (length s.triangles)) 55 l l₁ 0 i → Put (lines point_line s.points) p l₁ l₂ i j → Put triangle_names 12 l₂ l₃ j k → Put (lines triangle_line s.triangles) t l₃ l₄ k next
    → Put (text_after opening s) (2 ^ 20) l l₄ 0 next
unfolding text_after
text-put opening s hp ht a b c d = said_as (text_after opening s) (2 ^ 20) (simp append_assoc) (omega arith) (both a (both b (both c d)))

-- the same coordinate, once it has been read
pub same_number : {l l' : List ℕ} {at next : ℕ} (y z : ℤ) (e : ℕ) → y ≡ z → Put (ended (integer y) e) 12 l l' at next → Put (ended (integer z) e) 12 l l' at next
same_number {l} {l'} {at} {next} y z e q p = subst (λ (x : ℤ). Put (ended (integer x) e) 12 l l' at next) q p

-- the sheet that lists say
pub sheet-put : {l l₁ l₂ l₃ l₄ : List ℕ} {i j k next : ℕ} (opening : List ℕ) (n m : ℕ) (coordinates : List ℤ) (corners labels : List ℕ) → n ≤ 128 → m ≤ 256
    → Put (head_text opening n m) 55 l l₁ 0 i → Put (lines point_line (each (list_point coordinates) n)) (n * 36) l₁ l₂ i j → Put triangle_names 12 l₂ l₃ j k → Put (lines triangle_line (each (list_triangle corners labels) m)) (m * 44) l₃ l₄ k next
    → Put (text_after opening (sheet_front n m coordinates corners labels)) (2 ^ 20) l l₄ 0 next
sheet-put opening n m coordinates corners labels hn hm a b c d =
    text-put opening (sheet_front n m coordinates corners labels) (omega arith) (omega arith)
    (said_as (head_text opening (length (each (list_point coordinates) n)) (length (each (list_triangle corners labels) m))) 55
    (ap (λ (k : ℕ). head_text opening k m) (sym (length-each (list_point coordinates) n)) ∙ ap (λ (k : ℕ). head_text opening (length (each (list_point coordinates) n)) k) (sym (length-each (list_triangle corners labels) m)))
    (omega arith) a)
    b c d

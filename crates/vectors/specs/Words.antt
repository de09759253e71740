-- The words of a text of vectors, and the lists that stand in it. A word is eight hexadecimal digits and one further byte, a list its length and then its elements. Definitions only.
use Rattle.std.specs.Prelude.{ℕ, zero, suc, ◌+◌, ◌-◌, ◌*◌, ◌/◌, ◌%◌, ◌^◌, ◌≤◌, ◌<◌, ◌≡◌, cond, List, [], ◌∷◌, ◌++◌, ltb, length, get_or, drop, Float, Option, Some, None}
use Rattle.std.specs.Int.Bits.{bit_xor}
use Rattle.std.specs.Float.{binary64}
use Rattle.std.specs.Float.Ieee.{of_bits}
use Rattle.vectors.specs.declared.Listed.{Listed}

-- ---- what stands at a word

-- the value of a digit, `0` to `9` and `a` to `f`; any other byte counts as 0
abbrev pub digit_of : ℕ → ℕ
digit_of b = cond (ltb b 48) 0 (cond (ltb b 58) (b - 48) (cond (ltb b 97) 0 (cond (ltb b 103) (b - 87) 0)))

-- the number that n digits spell, from the byte `at` on
abbrev pub spelled : List ℕ → ℕ → ℕ → ℕ
spelled text at zero = 0
spelled text at (suc n) = spelled text at n * 16 + digit_of (get_or text (at + n) 0)

-- how many words a text has
abbrev pub count_of : List ℕ → ℕ
count_of text = length text / 9

-- word k, and 0 past the last
unfoldable pub word_at : List ℕ → ℕ → ℕ
word_at text k = cond (ltb k (count_of text)) (spelled text (k * 9) 8) 0

-- the number whose bits two words are, the high ones first; every pattern of a NaN is `nan`
abbrev pub joined : ℕ → ℕ → Float
joined high low = of_bits binary64 (high * 2 ^ 32 + low)

abbrev pub float_at : List ℕ → ℕ → Float
float_at text k = joined (word_at text k) (word_at text (k + 1))

abbrev pub byte_at : List ℕ → ℕ → ℕ
byte_at text k = word_at text k % 256

-- ---- lists

-- n elements, each of `width` words, from word k on
abbrev pub elements : {A : Type 0} → (ℕ → A) → ℕ → ℕ → ℕ → List A
elements at width k zero = []
elements at width k (suc n) = elements at width k n ++ (at (k + n * width) ∷ [])

-- A list at word k: its length and the word after it. `None` says that it does not stand whole in the text, or is longer than there is room.
abbrev pub listed_is : ℕ → List ℕ → ℕ → ℕ → Option Listed → Type 0
listed_is width text k room (Some l) = (l.len ≡ word_at text k) × (l.next ≡ k + 1 + l.len * width) × (l.next ≤ count_of text) × (l.len ≤ room)
listed_is width text k room None = k + 1 + word_at text k * width ≤ count_of text → word_at text k ≤ room → ⊥

-- the list that was lent, after such a list was read into it
abbrev pub stored : {A : Type 0} → (ℕ → A) → ℕ → ℕ → List A → Option Listed → List A
stored at width k lent (Some l) = elements at width (k + 1) l.len ++ drop l.len lent
stored at width k lent None = lent

pub record Reads {A : Type 0} (at : ℕ → A) (width : ℕ) (text : List ℕ) (k : ℕ) (lent lent' : List A) (r : Option Listed) : Type 0 where
  pub answer : listed_is width text k (length lent) r
  pub list : lent' ≡ stored at width k lent r

-- a list is the one at word k
pub record IsAt {A : Type 0} (at : ℕ → A) (width : ℕ) (text : List ℕ) (k : ℕ) (l : List A) : Type 0 where
  pub there : k < count_of text
  pub long : word_at text k ≡ length l
  pub list : l ≡ elements at width (k + 1) (length l)

-- ---- words that are lent for work or for answers

-- the number at place i: none of them is 0 in a list of less than 0x5a5a_5a5a
abbrev pub lent_at : ℕ → ℕ
lent_at i = bit_xor (i % 2 ^ 32) 0x5a5a_5a5a

-- the same after a call that clears the first n
abbrev pub left_at : ℕ → ℕ → ℕ
left_at n i = cond (ltb i n) 0 (lent_at i)

-- how many a call clears that is answered by the number and needs so many: after 1 to 3 all words are as lent
abbrev pub clears_of : ℕ → ℕ → ℕ
clears_of number needed = cond (ltb number 1) needed (cond (ltb 3 number) needed 0)

-- how many work words a call needs: 32 a triangle and 16 a point
abbrev pub needed_of : List Float → List ℕ → ℕ
needed_of points corners = length corners / 3 * 32 + length points / 3 * 16

-- a call ends with the number and the place that stand from word k on, and leaves the work words so
pub record EndsSo (text : List ℕ) (k number : ℕ) (place' : List ℕ) (points : List Float) (corners work' : List ℕ) : Type 0 where
  pub answer : number ≡ word_at text k
  pub place : place' ≡ word_at text (k + 1) ∷ word_at text (k + 2) ∷ []
  pub words : work' ≡ elements (left_at (clears_of number (needed_of points corners))) 1 0 (length work')

-- The text in its parts, as they are written, and the list that it is written on. Assumes nothing.
use Prim.Native.Nat.{ℕ, suc}
use native.Mathlib.Omega.{arith}
use mathlib.Core.Path.{◌≡◌, refl, sym, ap, ◌∙◌, subst}
use mathlib.Core.List.{List, [], ◌∷◌, ◌++◌, append_assoc}
use lib.ListN.{length, take, drop, set, replicate, length-replicate}
use lib.Seq.{sets, take_all}
use lib.Ieee.{Float, binary64, of_bits}
use Rattle.questions.specs.Refusal.{refusal_number}
use Rattle.questions.specs.declared.Refusal.{Refusal}
use Rattle.quality.proofs.Numbers.{zero_is}
use Rattle.std.specs.Prelude.{Err}
use Rattle.checking.specs.Verdict.{Verdict}
use Rattle.sheet.specs.Text.{bytes, decimal, line}
use Rattle.sheet.specs.Stages.{ended}
use Rattle.sheet.specs.Contents.{contents}
use Rattle.sheet.proofs.Stores.{drop-same}
use Rattle.writing.specs.Stages.{Put}
use Rattle.writing.proofs.Puts.{both, said_as}
use Rattle.printing.specs.Printed.{float_digits, printed_lines, printed_verdict, verdict_on, printed_text, onto, Prints}

abbrev pub names : List ℕ
names = line (bytes "verdict" ∷ bytes "quality" ∷ bytes "volume" ∷ [])

pub text-put : {l l₁ l₂ l₃ l₄ : List ℕ} {i j k next : ℕ} (number : ℕ) (quality volume : Float) → Put names 23 l l₁ 0 i → Put (ended (decimal number) 32) 11 l₁ l₂ i j → Put (ended (float_digits quality) 32) 17 l₂ l₃ j k → Put (ended (float_digits volume) 10) 17 l₃ l₄ k next
    → Put (printed_lines number quality volume) 68 l l₄ 0 next
text-put number quality volume a b c d = said_as (printed_lines number quality volume) 68 (simp append_assoc) (omega arith) (both a (both b (both c d)))

-- ---- on a list of zeros

nowhere : (i : ℕ) (w : List ℕ) → sets [] i w ≡ []
nowhere i [] = refl
nowhere i (x ∷ w) = nowhere (suc i) w

further : (y : ℕ) (l : List ℕ) (i : ℕ) (w : List ℕ) → sets (y ∷ l) (suc i) w ≡ y ∷ sets l i w
further y l i [] = refl
further y l i (x ∷ w) = further y (set l i x) (suc i) w

from_front : (l w : List ℕ) → sets l 0 w ≡ take (length l) (w ++ drop (length w) l)
from_front [] w = nowhere 0 w
from_front (y ∷ l) [] = sym (take_all (length (y ∷ l)) (y ∷ l) (omega arith))
from_front (y ∷ l) (x ∷ w) = further x l 0 w ∙ ap (λ (t : List ℕ). x ∷ t) (from_front l w)

pub on-zeros : (n : ℕ) (w : List ℕ) → sets (replicate n 0) 0 w ≡ onto n w
on-zeros n w =
    from_front (replicate n 0) w
    ∙ ap (λ (k : ℕ). take k (w ++ drop (length w) (replicate n 0))) (length-replicate n 0)
    ∙ ap (λ (t : List ℕ). take n (w ++ t)) (drop-same 0 n (length w))

-- ---- the whole

pub prints : (input list zeros list' : List ℕ) (v : Verdict) {long count : ℕ} → zeros ≡ replicate (length list) 0 → v ≡ verdict_on (contents input) → Put (printed_verdict v) long zeros list' 0 count → Prints input list list' count
unfolding printed_text
prints input list zeros list' v {count = count} z e p =
    let w : printed_verdict v ≡ printed_text input = ap printed_verdict e in
    let c = p.place in
    let n : count ≡ length (printed_verdict v) = omega arith in
    record {
      counted = n ∙ ap length w;
      written = p.stored ∙ ap (λ (l : List ℕ). sets l 0 (printed_verdict v)) z ∙ on-zeros (length list) (printed_verdict v) ∙ ap (onto (length list)) w;
    }

pub prints_refused : (input list zeros list' : List ℕ) (why : Refusal) {n long count : ℕ} → zeros ≡ replicate (length list) 0 → Err why ≡ verdict_on (contents input) → n ≡ refusal_number why → Put (printed_lines n (of_bits binary64 0) (of_bits binary64 0)) long zeros list' 0 count
    → Prints input list list' count
prints_refused input list zeros list' why {n} {long} {count} z e h p =
    prints input list zeros list' (Err why) z e
    (subst (λ (w : List ℕ). Put w long zeros list' 0 count) (λ i. printed_lines (h i) (zero_is i) (zero_is i)) p)

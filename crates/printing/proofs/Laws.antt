-- The laws of the printed check. Assumes nothing.
use Prim.Native.Nat.{ℕ, ◌-◌, ◌≤◌, ◌<◌}
use native.Mathlib.Omega.{arith}
use mathlib.Core.Path.{◌≡◌, sym, ap, ◌∙◌, subst}
use mathlib.Core.Bool.{Bool, true, false, not}
use mathlib.Core.List.{List, [], ◌∷◌, ◌++◌}
use lib.Dec.{T, leb, leb→le, nleb→lt}
use lib.ListN.{length, take, replicate, length-append, length-replicate}
use lib.Seq.{take_all, take_at, length-take-le}
use lib.Ieee.{Float, is_nan}
use lib.Ieee.Bits.{is_false}
use Rattle.checking.specs.Verdict.{accepted, number_of, quality_of, volume_of}
use Rattle.sheet.specs.Text.{decimal, line}
use Rattle.sheet.specs.Edition.{edition, IsEdition}
use Rattle.sheet.specs.Sheet.{Sheet}
use Rattle.sheet.specs.Contents.{Contents, Says, contents}
use Rattle.sheet.specs.Conversion.{Converted}
use Rattle.sheet.specs.Laws.{Exact}
use Rattle.sheet.proofs.Texts.{digits_long}
use Rattle.sheet.proofs.InUnit.{unit-some, unit-small, most-small}
use Rattle.sheet.proofs.Contents.{contents-laws, longest_text}
use Rattle.sheet.proofs.Conversion.{conversion-keeps}
use Rattle.printing.specs.Printed.{float_digits, printed_lines, printed_verdict, verdict_of, verdict_on, printed_text, onto, Prints}
use Rattle.printing.specs.Laws.{PrintingLaws}
use Rattle.printing.proofs.Verdicts.{Values, enough, text-values, few}

-- ---- its length

lines-short : (number : ℕ) (quality volume : Float) → number < 100 → length (printed_lines number quality volume) ≤ 60
lines-short number quality volume h =
    let d = digits_long 1 number h in
    omega (arith, length-append (decimal number) (32 ∷ line (float_digits quality ∷ float_digits volume ∷ [])))

short : (input : List ℕ) → length (printed_text input) ≤ 60
unfolding printed_text
short input = let v = verdict_on (contents input) in lines-short (number_of v) (quality_of v) (volume_of v) (few v)

whole : (input : List ℕ) (long : ℕ) → 60 ≤ long → onto long (printed_text input) ≡ printed_text input ++ replicate (long - length (printed_text input)) 0
whole input long h =
    let t = printed_text input in
    let r : List ℕ = replicate (long - length t) 0 in
    let n : length r ≡ long - length t = length-replicate (long - length t) 0 in
    take_all long (t ++ r) (omega (arith, short input, length-append t r))

counts : (input list list' : List ℕ) (count : ℕ) → Prints input list list' count → 60 ≤ length list → (count ≤ length list') × (take count list' ≡ printed_text input)
counts input list list' count p h =
    let t = printed_text input in
    let e = p.written ∙ whole input (length list) h in
    (omega (arith, p.counted, ap length e ∙ length-append t _), ap (take count) e ∙ take_at t _ count (sym p.counted))

-- ---- a longer input

no_sheet : (input : List ℕ) → 12981 < length input → contents input ≡ Contents.nothing
no_sheet input h = contents-laws.nothing input (λ number s x. omega (arith, longest_text input number s x))

same-contents : (input : List ℕ) → contents (take 12982 input) ≡ contents input
same-contents input = go (leb (length input) 12982) (leb→le (length input) 12982) (nleb→lt (length input) 12982)
  where
    go : (b : Bool) → (T b → length input ≤ 12982) → (T (not b) → 12982 < length input) → contents (take 12982 input) ≡ contents input
    go true f g = ap contents (take_all 12982 input (f tt))
    go false f g =
        let h = g tt in
        let n = length-take-le 12982 input (omega arith) in
        no_sheet (take 12982 input) (omega arith) ∙ sym (no_sheet input (omega arith))

of_contents : (a b : List ℕ) → verdict_on (contents a) ≡ verdict_on (contents b) → printed_text a ≡ printed_text b
unfolding printed_text
of_contents a b e = ap printed_verdict e

-- ---- the other edition

exact : (number : ℕ) → IsEdition number → Exact (edition number)
exact number known =
    let u = unit-small number known in
    let m = most-small number known in
    record { some = unit-some number known; unit = omega arith; most = omega arith }

module _ (input input' : List ℕ) (n n' : ℕ) (s s' : Sheet) (a : Says input n s) (b : Says input' n' s') (c : Converted (edition n).unit (edition n').unit s s') where
  converted : printed_text input ≡ printed_text input'
  converted =
      let k = conversion-keeps (edition n) (edition n') (exact n a.known) (exact n' b.known) s s' a.in_range b.in_range c in
      of_contents input input'
      (ap verdict_on (contents-laws.said input n s a)
      ∙ (λ i. verdict_of (k.points i) (k.corners i) (k.labels i))
      ∙ sym (ap verdict_on (contents-laws.said input' n' s' b)))

-- ---- no NaN

numbers : (c : Contents) (q v : Float) → verdict_on c ≡ accepted q v → (is_nan q ≡ false) × (is_nan v ≡ false)
numbers c q v e = let w = subst Values e (text-values c) in (is_false (is_nan q) w.0, is_false (is_nan v) w.1)

pub printing_laws : PrintingLaws
printing_laws = record {
  short = short;
  whole = whole;
  counts = counts;
  front = λ input. of_contents (take 12982 input) input (ap verdict_on (same-contents input));
  converted = converted;
  enough = enough;
  numbers = numbers;
}

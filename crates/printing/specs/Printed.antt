-- The printed check (document 01, "Sheet and printed check"): what is printed of an input text, to the last byte, whatever the text is. Definitions only.
use Rattle.std.specs.Prelude.{ℕ, zero, suc, ◌+◌, ◌-◌, ◌/◌, ◌%◌, ◌^◌, ◌≡◌, cond, List, [], ◌∷◌, ◌++◌, ltb, Float, length, replicate, take, Err}
use Rattle.std.specs.Float.{binary64}
use Rattle.std.specs.Float.Ieee.{to_bits}
use Rattle.questions.specs.Questions.{needed}
use Rattle.questions.specs.declared.Refusal.TheVariants as refusal
use Rattle.checking.specs.Verdict.{Verdict, number_of, quality_of, volume_of}
use Rattle.checking.specs.Validate.{validated}
use Rattle.sheet.specs.Text.{bytes, decimal, line}
use Rattle.sheet.specs.Edition.{edition}
use Rattle.sheet.specs.Sheet.{places_of, corners_of, labels_of}
use Rattle.sheet.specs.Contents.{Contents, contents}

-- ---- the verdict

-- the verdict on a surface, with just enough work words
abbrev pub verdict_of : (points : List Float) (corners labels : List ℕ) → Verdict
verdict_of points corners labels = validated points corners labels (replicate (needed points corners) 0)

-- the verdict on the surface that a sheet of either edition says, or that there is none
abbrev pub verdict_on : Contents → Verdict
verdict_on Contents.nothing = Err refusal.Sheet
verdict_on (Contents.sheet number s) = verdict_of (places_of (edition number).unit s.points) (corners_of s.triangles) (labels_of s.triangles)

-- ---- hexadecimal

-- `0` to `9`, then `a` to `f`
abbrev pub hex_digit : ℕ → ℕ
hex_digit d = cond (ltb d 10) (48 + d) (87 + d)

-- the last n digits of v, the highest first
abbrev pub hexadecimal : ℕ → ℕ → List ℕ
hexadecimal zero v = []
hexadecimal (suc n) v = hex_digit (v / 16 ^ n % 16) ∷ hexadecimal n v

-- the 64 bits of an f64 (no value that is printed is a NaN: `numbers` of `Laws`)
abbrev pub float_digits : Float → List ℕ
float_digits x = hexadecimal 16 (to_bits binary64 x)

-- ---- the text

-- the names; then the number in decimal, and the bits of both values
abbrev pub printed_lines : (number : ℕ) (quality volume : Float) → List ℕ
printed_lines number quality volume =
    line (bytes "verdict" ∷ bytes "quality" ∷ bytes "volume" ∷ [])
    ++ line (decimal number ∷ float_digits quality ∷ float_digits volume ∷ [])

-- both values are 0 after a refusal
abbrev pub printed_verdict : Verdict → List ℕ
printed_verdict v = printed_lines (number_of v) (quality_of v) (volume_of v)

-- what is printed of an input
unfoldable pub printed_text : List ℕ → List ℕ
unfolding contents validated decimal to_bits
printed_text input = printed_verdict (verdict_on (contents input))

-- ---- the list afterwards

-- a list of `long` places with the text at its start and 0 behind it; where there are too few, as much of the text as there is room for
abbrev pub onto : ℕ → List ℕ → List ℕ
onto long text = take long (text ++ replicate (long - length text) 0)

-- what `print` promises of every call: the length of the text, and the list afterwards
pub record Prints (input list list' : List ℕ) (count : ℕ) : Type 0 where
  pub counted : count ≡ length (printed_text input)
  pub written : list' ≡ onto (length list) (printed_text input)

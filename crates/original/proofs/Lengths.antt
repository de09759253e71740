-- Squared lengths have no minus sign. So `total_cmp` orders them by their bits, and it makes no difference which zero their sum begins with.
use Prim.Native.Nat.{ℕ, zero, suc, ◌+◌, ◌-◌, ◌*◌, ◌^◌, ◌<◌}
use mathlib.Core.Path.{◌≡◌, refl, sym, ◌∙◌, ap, ap₂}
use mathlib.Core.Bool.{Bool, true, false, not, ◌&&◌, cond, false≢true}
use mathlib.Core.List.{List, [], ◌∷◌}
use native.Mathlib.Nat.{zero-mul}
use native.Mathlib.Omega.{arith}
use lib.Dec.{T, ltb, leb}
use lib.IntN.{pos}
use lib.Signed.{le_z}
use lib.Ieee as Ieee
use lib.Ieee.{Float, nan, inf, fin, Format, binary64, prec, low, emax, unlike, up, down, odd, units, round, fits, lt, of_bits, to_bits}
use lib.Ieee.Fits.{add-fits, inf-fits}
use borrow.Author.Tests.{lt-ltb, le-ltb, ltb-false}
use Rattle.field.specs.Number.{plus_zero}
use Rattle.sorting.proofs.Floats.{bits_rise}
use Rattle.rounds.specs.Choices.{Side}
use Rattle.oracle.specs.Scene.{squared}
use Rattle.oracle.specs.Candidates.{insert_by, sort_by, total, length_bits}
use Rattle.original.specs.Sorted.{minus_zero, ordered, not_after, insert, sort}

-- the sign is plus
unfoldable pub unsigned : Float → Bool
unsigned nan = true
unsigned (inf s) = not s
unsigned (fin s m e) = not s

odd_unsigned : (d q k l : ℕ) → unsigned (odd d false q k l) ≡ true
unfolding odd unsigned
odd_unsigned d zero k l = refl
odd_unsigned d (suc q) k l = refl

units_unsigned : (f : Format) (q k : ℕ) → unsigned (units f false q k) ≡ true
unfolding units unsigned
units_unsigned f q k = either (ltb (q * 2 ^ k) (2 ^ (low f + suc (emax f)))) (odd (suc (prec f)) false q k (low f)) (inf false) (odd_unsigned (suc (prec f)) q k (low f)) refl
  where
    either : (b : Bool) (x y : Float) → unsigned x ≡ true → unsigned y ≡ true → unsigned (cond b x y) ≡ true
    either true x y p q = p
    either false x y p q = q

round_unsigned : (f : Format) (n d : ℕ) → unsigned (round f false n d) ≡ true
unfolding round
round_unsigned f n d = units_unsigned f _ _

unlike_same : (s : Bool) → unlike s s ≡ false
unlike_same true = refl
unlike_same false = refl

square_unsigned : (f : Format) (x : Float) → unsigned (Ieee.mul f x x) ≡ true
unfolding Ieee.mul unsigned
square_unsigned f nan = refl
square_unsigned f (inf s) = rw (unlike_same s) refl
square_unsigned f (fin s m e) = rw (unlike_same s) (round_unsigned f _ _)

add_unsigned : (f : Format) (x y : Float) → unsigned x ≡ true → unsigned y ≡ true → unsigned (Ieee.add f x y) ≡ true
unfolding Ieee.add Ieee.sum unsigned
add_unsigned f nan y p q = refl
add_unsigned f (inf true) y p q = absurd (false≢true p)
add_unsigned f (inf false) nan p q = refl
add_unsigned f (inf false) (inf true) p q = absurd (false≢true q)
add_unsigned f (inf false) (inf false) p q = refl
add_unsigned f (inf false) (fin t n d) p q = refl
add_unsigned f (fin true m e) y p q = absurd (false≢true p)
add_unsigned f (fin false m e) nan p q = refl
add_unsigned f (fin false m e) (inf t) p q = q
add_unsigned f (fin false m e) (fin true n d) p q = absurd (false≢true q)
add_unsigned f (fin false m e) (fin false n d) p q = round_unsigned f _ _

pub squared_unsigned : (ps : List Float) (a b : ℕ) → unsigned (squared ps a b) ≡ true
unfolding squared
squared_unsigned ps a b = add_unsigned binary64 _ _ (add_unsigned binary64 _ _ (square_unsigned binary64 _) (square_unsigned binary64 _)) (square_unsigned binary64 _)

infinite_bits : to_bits binary64 (inf false) ≡ 0x7ff0_0000_0000_0000
unfolding to_bits
infinite_bits = refl

small_bits : (x : Float) → unsigned x ≡ true → T (fits binary64 x) → to_bits binary64 x < 0x8000_0000_0000_0000
unfolding unsigned to_bits lt
small_bits nan p f = omega arith
small_bits (inf true) p f = absurd (false≢true p)
small_bits (inf false) p f = omega (arith, infinite_bits)
small_bits (fin true m e) p f = absurd (false≢true p)
small_bits (fin false m e) p f = let l = (bits_rise binary64 (fin false m e) (inf false) f (inf-fits binary64 false) tt tt).1 tt in omega (arith, infinite_bits)

pub length-small : (ps : List Float) (a b : ℕ) → to_bits binary64 (squared ps a b) < 0x8000_0000_0000_0000
unfolding squared
length-small ps a b = small_bits (squared ps a b) (squared_unsigned ps a b) (add-fits binary64 _ _)

ordered-is : (ps : List Float) (a b : ℕ) → ordered (squared ps a b) ≡ pos (to_bits binary64 (squared ps a b))
ordered-is ps a b = rw (lt-ltb (to_bits binary64 (squared ps a b)) 0x8000_0000_0000_0000 (length-small ps a b)) refl

same-order : (ps : List Float) (d e : Side) → not_after ps d e ≡ leb (length_bits ps d) (length_bits ps e)
unfolding length_bits
same-order ps d e = ap₂ le_z (ordered-is ps d.one d.two) (ordered-is ps e.one e.two)

insert-is : (ps : List Float) (d : Side) (l : List Side) → insert ps d l ≡ insert_by (length_bits ps) d l
unfolding insert insert_by
insert-is ps d [] = refl
insert-is ps d (e ∷ l) = ap₂ (λ (b : Bool) (k : List Side). cond b (d ∷ e ∷ l) (e ∷ k)) (same-order ps d e) (insert-is ps d l)

-- so both sorts are one
pub sort-is : (ps : List Float) (l : List Side) → sort ps l ≡ sort_by (length_bits ps) l
unfolding sort sort_by
sort-is ps [] = refl
sort-is ps (d ∷ l) = ap (insert ps d) (sort-is ps l) ∙ insert-is ps d (sort_by (length_bits ps) l)

-- ---- the sum

sum_zeros : (f : Format) (a b c : ℕ) → a ≡ 0 → Ieee.sum f true a false b c ≡ Ieee.sum f false a false b c
unfolding Ieee.sum
sum_zeros f a b c e = go (ltb a b) refl
  where
    go : (k : Bool) → ltb a b ≡ k → cond (ltb a b) (round f false (b - a) c) (round f (true && ltb b a) (a - b) c) ≡ round f false (a + b) c
    go true h = let z : b - a ≡ a + b = omega arith in rw (h, z) refl
    go false h =
        let l = ltb-false a b h in
        let z : a - b ≡ a + b = omega arith in
        rw (h, le-ltb b a (omega arith), z) refl

-- +0 and -0 on top of such a value come to the same
plus-zeros : (f : Format) (x : Float) → unsigned x ≡ true → Ieee.add f (fin true 0 (pos 0)) x ≡ Ieee.add f (fin false 0 (pos 0)) x
unfolding Ieee.add unsigned
plus-zeros f nan p = refl
plus-zeros f (inf s) p = refl
plus-zeros f (fin true n d) p = absurd (false≢true p)
plus-zeros f (fin false n d) p = sum_zeros f (0 * up (pos 0) * down d) (n * up d * down (pos 0)) (down (pos 0) * down d) (ap (λ (k : ℕ). k * down d) (zero-mul (up (pos 0))) ∙ zero-mul (down d))

minus_is : minus_zero ≡ fin true 0 (pos 0)
unfolding of_bits
minus_is = refl

plus-is : plus_zero ≡ fin false 0 (pos 0)
unfolding of_bits
plus-is = refl

pub total-is : (ps : List Float) (d : Side) (ds : List Side) → total ps minus_zero (d ∷ ds) ≡ total ps plus_zero (d ∷ ds)
unfolding total
total-is ps d ds = ap (λ (x : Float). total ps x ds)
    (ap (λ (z : Float). Ieee.add binary64 z (squared ps d.one d.two)) minus_is ∙ plus-zeros binary64 (squared ps d.one d.two) (squared_unsigned ps d.one d.two)
    ∙ ap (λ (z : Float). Ieee.add binary64 z (squared ps d.one d.two)) (sym plus-is))

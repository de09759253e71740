-- The numbers that the code writes, by their bits, and which case the tests of a quality pick. Assumes nothing.
use mathlib.Core.Path.{◌≡◌, refl, sym, ap, ◌∙◌}
use mathlib.Core.Bool.{Bool, true, false, not, ◌||◌, cond}
use lib.Ieee.{Float, binary64, of_bits, of_int, le}
use Rattle.float.specs.Order.{lesser, is_finite}
use Rattle.quality.specs.Quality.{number, degenerate, least_with}
use Rattle.std.specs.Prelude.{None, Some}

pub zero_is : of_bits binary64 0 ≡ number 0
unfolding of_bits of_int
zero_is = refl

pub one-is : of_bits binary64 0x3ff0_0000_0000_0000 ≡ number 1
unfolding of_bits of_int
one-is = refl

pub two_is : of_bits binary64 0x4000_0000_0000_0000 ≡ number 2
unfolding of_bits of_int
two_is = refl

pub three-is : of_bits binary64 0x4008_0000_0000_0000 ≡ number 3
unfolding of_bits of_int
three-is = refl

pub six-is : of_bits binary64 0x4018_0000_0000_0000 ≡ number 6
unfolding of_bits of_int
six-is = refl

module _ (m q : Float) where
  by_test : {b : Bool} → degenerate q ≡ b → least_with m q ≡ cond b None (Some (lesser m q))
  unfolding least_with
  by_test e = ap (λ (b : Bool). cond b None (Some (lesser m q))) e

  pub least_infinite : is_finite q ≡ false → None ≡ least_with m q
  least_infinite e = let d : degenerate q ≡ true = rw e in sym (by_test d)

  pub least-low : le q (of_bits binary64 0) ≡ true → None ≡ least_with m q
  least-low e = sym (by_test (go (is_finite q) (ap (le q) (sym zero_is) ∙ e)))
    where
      go : (f : Bool) → le q (number 0) ≡ true → (not f || le q (number 0)) ≡ true
      go true h = h
      go false h = refl

  pub least_kept : is_finite q ≡ true → le q (of_bits binary64 0) ≡ false → Some (lesser m q) ≡ least_with m q
  least_kept e h = let h' : le q (number 0) ≡ false = ap (le q) (sym zero_is) ∙ h in let d : degenerate q ≡ false = rw (e, h') in sym (by_test d)

  pub least-passes : degenerate q ≡ false → lesser m q ≡ m → Some m ≡ least_with m q
  least-passes e h = sym (by_test e ∙ ap Some h)

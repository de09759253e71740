-- The rules of a price sheet (document 02, F-14), as a record and as a test that computes. Definitions only; `tariff_iff` of proofs/Rules shows that they say the same.
use Rattle.std.specs.Prelude.{ℕ, ◌+◌, ◌≤◌, ◌<◌, ◌≡◌, Bool, true, ◌&&◌, List, [], ◌∷◌, eqb, leb, ltb, length, get_or}
use Rattle.surface.specs.Check.{every}

-- a price sheet: one to eight steps, a price for each and an upper volume for each but the last; upper volumes rise strictly, prices are at most 100,000 cents
pub record Tariff (uppers prices : List ℕ) : Type 0 where
  pub some : 1 ≤ length prices
  pub few : length prices ≤ 8
  pub one_fewer : length uppers + 1 ≡ length prices
  pub rising : (k : ℕ) → k + 1 < length uppers → get_or uppers k 0 < get_or uppers (k + 1) 0
  pub capped : (k : ℕ) → k < length prices → get_or prices k 0 ≤ 100000

-- each value is greater than the one before it, the first greater than the given one
unfoldable pub rises : ℕ → List ℕ → Bool
rises last [] = true
rises last (value ∷ values) = ltb last value && rises value values

unfoldable pub rising? : List ℕ → Bool
unfolding rises
rising? [] = true
rising? (value ∷ values) = rises value values

abbrev pub capped? : List ℕ → Bool
capped? prices = every (λ (price : ℕ). leb price 100000) prices

unfoldable pub tariff? : (uppers prices : List ℕ) → Bool
unfolding every rising?
tariff? uppers prices = eqb (length uppers + 1) (length prices) && (leb (length prices) 8 && (rising? uppers && capped? prices))

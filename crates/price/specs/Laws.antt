-- What holds of the powder tariff (document 02, F-14). Statements only; `price_laws` and `quote-laws` of proofs/Laws prove them.
use Rattle.std.specs.Prelude.{ℕ, ◌*◌, ◌≤◌, ◌≡◌, List, [], ◌∷◌, ℤ, pos, ◌≤ℤ◌, Float, Ok}
use Rattle.units.specs.Units.{WholePoint}
use Rattle.volume.specs.Volume.{ListedAnew, six_of}
use Rattle.price.specs.Price.{started, amount, cents}
use Rattle.price.specs.Quote.{quoted}

-- ---- the price of a volume

pub record PriceLaws : Type 0 where
  -- "a larger volume never costs less"
  pub larger : (uppers prices : List ℕ) (v w : ℤ) → v ≤ℤ w → cents v uppers prices ≤ cents w uppers prices
  -- "a volume of zero or less costs 0", and so do no triangles
  pub nothing : (uppers prices : List ℕ) (v : ℤ) → v ≤ℤ pos 0 → cents v uppers prices ≡ 0
  pub no_triangles : (points : List Float) (uppers prices : List ℕ) (o : WholePoint) → cents (six_of points [] o) uppers prices ≡ 0
  -- with one step it is the started unit cubes times the price
  pub one-step : (price : ℕ) (v : ℤ) → cents v [] (price ∷ []) ≡ price * started (amount v)

-- ---- the price of a surface

-- a call that has a price
pub record Costs (points : List Float) (corners uppers prices : List ℕ) (price : ℕ) : Type 0 where
  pub labels : List ℕ
  pub work : List ℕ
  pub quote : quoted points corners labels work uppers prices ≡ Ok price

-- What holds wherever a price is given: of `Costs`, and so of every call of `lanovishel_price` that answers 0 (`lanovishel/specs/Price`).
pub record QuoteLaws (Priced : List Float → (corners uppers prices : List ℕ) → ℕ → Type 0) : Type 0 where
  -- it is that of the exact volume, measured from any origin
  pub any_origin : {points : List Float} {corners uppers prices : List ℕ} {price : ℕ} → Priced points corners uppers prices price
      → (o : WholePoint) → price ≡ cents (six_of points corners o) uppers prices
  -- two listings of one surface that have a price have the same
  pub any_listing : {points points' : List Float} {corners corners' uppers prices : List ℕ} {price price' : ℕ} → Priced points corners uppers prices price → Priced points' corners' uppers prices price'
      → ListedAnew points corners points' corners' → price ≡ price'
  -- "a larger volume never costs less"
  pub larger : {points points' : List Float} {corners corners' uppers prices : List ℕ} {price price' : ℕ} → Priced points corners uppers prices price → Priced points' corners' uppers prices price'
      → (o o' : WholePoint) → six_of points corners o ≤ℤ six_of points' corners' o' → price ≤ price'
  -- it is at most 2 ^ 33 times 100,000 cents, which a u64 holds
  pub fits : {points : List Float} {corners uppers prices : List ℕ} {price : ℕ} → Priced points corners uppers prices price → price ≤ 858993459200000

-- `lanovishel_price` for every call: document 02's number, the cents, which are 0 after a refusal, the place, which is 0 0 but for a finding, and the work words afterwards. The other lists are only read. Definitions only.
use Rattle.std.specs.Prelude.{ℕ, ◌≡◌, List, [], ◌∷◌, Float}
use Rattle.questions.specs.Questions.{work_after}
use Rattle.price.specs.Quote.{quoted, number_of, cents_of, place_of}

pub record PriceCall (points : List Float) (corners labels work uppers prices work' cents' place' : List ℕ) (number : ℕ) : Type 0 where
  pub answer : number ≡ number_of (quoted points corners labels work uppers prices)
  pub cents : cents' ≡ cents_of (quoted points corners labels work uppers prices) ∷ []
  pub place : place' ≡ place_of (quoted points corners labels work uppers prices)
  pub words : work' ≡ work_after number points corners work

-- a call that answers 0, with the cents: the laws of `price` hold of it (`call-laws` of `proofs/Price` proves `QuoteLaws CallCosts`)
pub record CallCosts (points : List Float) (corners uppers prices : List ℕ) (price : ℕ) : Type 0 where
  pub labels : List ℕ
  pub work : List ℕ
  pub work' : List ℕ
  pub place' : List ℕ
  pub call : PriceCall points corners labels work uppers prices work' (price ∷ []) place' 0

-- A call that answers 0 has the price of an accepted surface: the laws of `price` hold of it.
use mathlib.Core.Path.{◌≡◌, sym, ap, ◌∙◌}
use mathlib.Core.List.{List, [], ◌∷◌}
use Prim.Native.Nat.{ℕ}
use lib.Ieee.{Float}
use Rattle.price.specs.Quote.{quoted, cents_of}
use Rattle.price.specs.Laws.{Costs, QuoteLaws}
use Rattle.price.specs.Quote.{Quote}
use Rattle.std.specs.Prelude.{Ok}
use Rattle.price.proofs.Answers.{zero_priced}
use Rattle.price.proofs.Laws.{quote-laws_of}
use Rattle.lanovishel.specs.Price.{CallCosts}

-- a price
abbrev the_price : ℕ → Quote
the_price n = Ok n

costs : (points : List Float) (corners uppers prices : List ℕ) (price : ℕ) → CallCosts points corners uppers prices price → Costs points corners uppers prices price
costs points corners uppers prices price a =
    let l : price ∷ [] ≡ cents_of (quoted points corners a.labels a.work uppers prices) ∷ [] = a.call.cents in
    let same : price ≡ cents_of (quoted points corners a.labels a.work uppers prices) = cc in
    record {
      labels = a.labels;
      work = a.work;
      quote = zero_priced points corners a.labels a.work uppers prices (sym a.call.answer) ∙ ap the_price (sym same);
    }

pub call-laws : QuoteLaws CallCosts
call-laws = quote-laws_of CallCosts costs

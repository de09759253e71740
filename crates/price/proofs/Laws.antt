-- The laws of `specs/Laws`: the price grows with the volume, does not depend on the listing and the origin, and fits. Assumes nothing.
use Prim.Native.Nat.{ℕ, ◌*◌, ◌≤◌}
use mathlib.Core.Path.{◌≡◌, sym, ap, ◌∙◌, subst₂}
use mathlib.Core.List.{List, [], ◌∷◌}
use native.Mathlib.Nat.{le_trans, le_of_eq, sub-zero}
use native.Mathlib.Omega.{arith}
use lib.Dec.{leb→le}
use lib.IntN.{ℤ, pos, negsuc}
use lib.Signed.{◌≤ℤ◌}
use lib.Ieee.{Float}
use Rattle.surface.specs.Triangle.{triangles}
use Rattle.units.specs.Units.{WholePoint, units_at}
use Rattle.volume.specs.Six.{six}
use Rattle.volume.specs.Volume.{Balanced, ListedAnew, six_of}
use Rattle.volume.proofs.Accepted.{balanced, measurable}
use Rattle.volume.proofs.Volume.{one-six, six-laws}
use Rattle.price.specs.Price.{started, sum_of_steps, amount, cents}
use Rattle.price.specs.Quote.{surface_cents}
use Rattle.price.specs.Laws.{PriceLaws, Costs, QuoteLaws}
use Rattle.price.proofs.Steps.{sum_more, in_cubes, sum-zero}
use Rattle.price.proofs.Size.{few-started, most_paid}
use Rattle.price.proofs.Answers.{HasPrice, has_price}

-- ---- the price of a volume

amount-more : (v w : ℤ) → v ≤ℤ w → amount v ≤ amount w
amount-more (pos a) (pos b) h = leb→le a b h.le
amount-more (pos a) (negsuc b) h = absurd h.le
amount-more (negsuc a) w h = omega arith

larger : (us ps : List ℕ) (v w : ℤ) → v ≤ℤ w → cents v us ps ≤ cents w us ps
larger us ps v w h = sum_more (amount v) (amount w) (amount-more v w h) 0 us ps

nothing : (us ps : List ℕ) (v : ℤ) → v ≤ℤ pos 0 → cents v us ps ≡ 0
nothing us ps v h =
    let l = amount-more v (pos 0) h in
    let e : amount v ≡ 0 = omega arith in
    ap (λ (n : ℕ). sum_of_steps n 0 us ps) e ∙ sum-zero 0 us ps

no_triangles : (points : List Float) (us ps : List ℕ) (o : WholePoint) → cents (six_of points [] o) us ps ≡ 0
unfolding six triangles
no_triangles points us ps o = sum-zero 0 us ps

one-step : (p : ℕ) (v : ℤ) → cents v [] (p ∷ []) ≡ p * started (amount v)
unfolding sum_of_steps
one-step p v = ap (λ (n : ℕ). p * started n) (sub-zero (amount v))

pub price_laws : PriceLaws
price_laws = record { larger = larger; nothing = nothing; no_triangles = no_triangles; one-step = one-step }

-- ---- the price of a surface

module _ (Priced : List Float → (corners uppers prices : List ℕ) → ℕ → Type 0) (costs : (points : List Float) (corners uppers prices : List ℕ) (price : ℕ) → Priced points corners uppers prices price → Costs points corners uppers prices price) where
  module _ {points : List Float} {corners us ps : List ℕ} {price : ℕ} (c : Priced points corners us ps price) where
    call : Costs points corners us ps price
    call = costs points corners us ps price c

    case : HasPrice points corners call.labels call.work us ps
    case = (has_price points corners call.labels call.work us ps price call.quote).0

    is-exact : price ≡ surface_cents points corners us ps
    is-exact = (has_price points corners call.labels call.work us ps price call.quote).1

    is_balanced : Balanced (triangles corners)
    is_balanced = balanced points corners call.labels call.work case.measures.quality case.measures.volume case.accepted

    any_origin : (o : WholePoint) → price ≡ cents (six_of points corners o) us ps
    any_origin o =
        is-exact
        ∙ ap (λ (s : ℤ). cents s us ps) (six-laws.any_origin (units_at points) (triangles corners) is_balanced (units_at points 0) o)

    fits : price ≤ 858993459200000
    fits =
        let v = amount (six_of points corners (units_at points 0)) in
        let few = few-started points corners (measurable points corners call.labels call.work case.measures.quality case.measures.volume case.accepted case.units) in
        le_trans (le_of_eq (is-exact ∙ in_cubes v 0 us ps)) (most_paid (started v) us ps few case.tariff)

  any_listing : {points points' : List Float} {corners corners' us ps : List ℕ} {price price' : ℕ} → Priced points corners us ps price → Priced points' corners' us ps price' → ListedAnew points corners points' corners' → price ≡ price'
  any_listing {points} {points'} {us = us} {ps} c c' a =
      let o = units_at points 0 in
      any_origin c o
      ∙ ap (λ (s : ℤ). cents s us ps) (one-six (is_balanced c) a o o)
      ∙ sym (any_origin c' o)

  greater : {points points' : List Float} {corners corners' us ps : List ℕ} {price price' : ℕ} → Priced points corners us ps price → Priced points' corners' us ps price'
      → (o o' : WholePoint) → six_of points corners o ≤ℤ six_of points' corners' o' → price ≤ price'
  greater {us = us} {ps} c c' o o' h = subst₂ ◌≤◌ (sym (any_origin c o)) (sym (any_origin c' o')) (larger us ps _ _ h)

  -- of whatever says as much as `Costs`
  pub quote-laws_of : QuoteLaws Priced
  quote-laws_of = record { any_origin = any_origin; any_listing = any_listing; larger = greater; fits = fits }

pub quote-laws : QuoteLaws Costs
quote-laws = quote-laws_of Costs (λ points corners us ps price c. c)

-- The loop over the steps: one lemma for each turn, over plain lists. Assumes nothing.
use Prim.Native.Nat.{ℕ, ◌+◌, ◌-◌, ◌*◌, ◌≤◌, ◌<◌, min}
use mathlib.Core.Path.{◌≡◌, sym, ap, ◌∙◌, subst}
use mathlib.Core.List.{List}
use native.Mathlib.Nat.{mul-le-mul, add_assoc}
use native.Mathlib.Numerals.{add-one}
use native.Mathlib.Omega.{arith}
use lib.ListN.{length, get_or, drop, drop_of_length-le}
use lib.Seq.{drop-cons}
use mir.Syntax.{w64}
use mir.Val.{Fits}
use Rattle.price.specs.Tariff.{Tariff}
use Rattle.price.specs.Stages.{by_cubes}
use Rattle.price.proofs.Steps.{clipped}
use Rattle.price.proofs.Size.{most_paid}

-- ---- what is computed fits: no price is above 100,000, and no more than 2 ^ 33 cubes are counted

pub product_fits : (p x : ℕ) → p ≤ 100000 → x ≤ 8589934592 → Fits w64 (p * x)
product_fits p x h l = let m = mul-le-mul h l in omega arith

pub sum_fits : (sum p x : ℕ) → sum ≤ 858993459200000 → p ≤ 100000 → x ≤ 8589934592 → Fits w64 (sum + p * x)
sum_fits sum p x f h l = let m = mul-le-mul h l in omega arith

-- ---- the turns

module _ (n : ℕ) (us ps : List ℕ) where
  -- `sum` is the price of the cubes below `lower`; the steps from k on are still to be counted
  pub record Walking (sum lower k : ℕ) : Type 0 where
    pub bounded : k ≤ length us
    pub inside : lower ≤ n
    pub next : k < length us → lower ≤ get_or us k 0
    pub total : sum + by_cubes n lower (drop k us) (drop k ps) ≡ by_cubes n 0 us ps

  pub nothing_yet : Walking 0 0 0
  nothing_yet = record { bounded = omega arith; inside = omega arith; next = λ l. omega arith; total = omega arith }

  pub all-walked : {sum lower k : ℕ} → Walking sum lower k → length us ≤ k → Walking sum lower (length us)
  all-walked {sum} {lower} {k} w h = let e : k ≡ length us = omega (arith, w.bounded) in subst (Walking sum lower) e w

  module _ (s : Tariff us ps) (sum lower k : ℕ) (w : Walking sum lower k) where
    pub cap : get_or ps k 0 ≤ 100000
    cap = s.capped k (omega (arith, s.one_fewer, w.bounded))

    pub paid : n ≤ 8589934592 → sum ≤ 858993459200000
    paid few = let m = most_paid n us ps few s in omega (arith, w.total)

    module _ (h : k < length us) (reach : ℕ) (e : reach ≡ min n (get_or us k 0)) where
      pub forward : lower ≤ reach
      forward = let l = w.next h in omega (arith, w.inside)

      opened : by_cubes n lower (drop k us) (drop k ps) ≡ get_or ps k 0 * (reach - lower) + by_cubes n reach (drop (k + 1) us) (drop (k + 1) ps)
      unfolding by_cubes
      opened =
          let i : k < length ps = omega (arith, s.one_fewer) in
          (λ j. by_cubes n lower (drop-cons us k 0 h j) (drop-cons ps k 0 i j))
          ∙ sym (λ j. get_or ps k 0 * (e j - lower) + by_cubes n (get_or us k 0) (drop (add-one k j) us) (drop (add-one k j) ps))
          ∙ ap (λ (x : ℕ). get_or ps k 0 * (reach - lower) + x) (clipped n (get_or us k 0) (drop (k + 1) us) (drop (k + 1) ps))
          ∙ ap (λ (x : ℕ). get_or ps k 0 * (reach - lower) + by_cubes n x (drop (k + 1) us) (drop (k + 1) ps)) (sym e)

      pub walked : Walking (sum + get_or ps k 0 * (reach - lower)) reach (k + 1)
      walked = record {
        bounded = omega arith;
        inside = omega arith;
        next = λ l. let r = s.rising k l in omega arith;
        total = add_assoc sum (get_or ps k 0 * (reach - lower)) (by_cubes n reach (drop (k + 1) us) (drop (k + 1) ps)) ∙ ap (λ (x : ℕ). sum + x) (sym opened) ∙ w.total;
      }

    pub ended : length us ≤ k → sum + get_or ps k 0 * (n - lower) ≡ by_cubes n 0 us ps
    unfolding by_cubes
    ended l =
        let i : k < length ps = omega (arith, s.one_fewer, w.bounded) in
        ap (λ (x : ℕ). sum + x) (sym (λ j. by_cubes n lower (drop_of_length-le us l j) (drop-cons ps k 0 i j))) ∙ w.total

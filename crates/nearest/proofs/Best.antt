-- The best of the corners below n: it is in use, none in use is nearer, and none at the same distance has a smaller number. Assumes nothing.
use Prim.Native.Nat.{ℕ, zero, suc, ◌≤◌, ◌<◌}
use mathlib.Core.Path.{◌≡◌, refl, sym, ◌∙◌, subst}
use mathlib.Core.Logic.{◌⊎◌, inl, inr}
use mathlib.Core.Bool.{Bool, true, false, cond, true≢false}
use native.Mathlib.Nat.{eq-or-lt_of_le}
use native.Mathlib.Omega.{arith}
use lib.Dec.{ltb}
use borrow.Author.Tests.{ltb-true, ltb-false}
use Rattle.nearest.specs.Nearest.{Best, nobody, found, closer, best}

module _ (used : ℕ → Bool) (distance : ℕ → ℕ) where
  pub record IsBest (n v d : ℕ) : Type 0 where
    pub below : v < n
    pub in_use : used v ≡ true
    pub is : d ≡ distance v
    pub least : (w : ℕ) → w < n → used w ≡ true → d ≤ distance w
    pub first : (w : ℕ) → w < n → used w ≡ true → distance w ≡ d → v ≤ w

  pub data Outcome (n : ℕ) : Best → Type 0 where
    none : ((w : ℕ) → w < n → used w ≡ true → ⊥) → Outcome n nobody
    one : {v d : ℕ} → IsBest n v d → Outcome n (found v d)

  -- below the next number are the numbers below this one, and this one
  next : (n : ℕ) (P : ℕ → Type 0) → ((w : ℕ) → w < n → P w) → P n → (w : ℕ) → w < suc n → P w
  next n P h k w l = go (eq-or-lt_of_le (most l))
    where
      most : w < suc n → w ≤ n
      most g = omega arith

      go : (w ≡ n) ⊎ (w < n) → P w
      go (inl e) = subst P (sym e) k
      go (inr g) = h w g

  skipped : (n : ℕ) (b : Best) → used n ≡ false → Outcome n b → Outcome (suc n) b
  skipped n nobody u (none h) = none (next n (λ w. used w ≡ true → ⊥) h (λ e. true≢false (sym e ∙ u)))
  skipped n (found v d) u (one h) = one {v = v} {d = d} (record {
    below = omega (arith, h.below);
    in_use = h.in_use;
    is = h.is;
    least = next n (λ w. used w ≡ true → d ≤ distance w) h.least (λ e. absurd (true≢false (sym e ∙ u)));
    first = next n (λ w. used w ≡ true → distance w ≡ d → v ≤ w) h.first (λ e. absurd (true≢false (sym e ∙ u)));
  })

  taken : (n : ℕ) (b : Best) → used n ≡ true → Outcome n b → Outcome (suc n) (closer b n (distance n))
  taken n nobody u (none h) = one {v = n} {d = distance n} (record {
    below = omega arith;
    in_use = u;
    is = refl;
    least = next n (λ w. used w ≡ true → distance n ≤ distance w) (λ w l e. absurd (h w l e)) (λ e. omega arith);
    first = next n (λ w. used w ≡ true → distance w ≡ distance n → n ≤ w) (λ w l e. absurd (h w l e)) (λ e f. omega arith);
  })
  taken n (found v d) u (one h) = go (ltb (distance n) d) refl
    where
      go : (b : Bool) → ltb (distance n) d ≡ b → Outcome (suc n) (cond b (found n (distance n)) (found v d))
      go true e =
          let less = ltb-true (distance n) d e in
          one {v = n} {d = distance n} (record {
            below = omega arith;
            in_use = u;
            is = refl;
            least = next n (λ w. used w ≡ true → distance n ≤ distance w) (λ w l g. let k = h.least w l g in omega arith) (λ g. omega arith);
            first = next n (λ w. used w ≡ true → distance w ≡ distance n → n ≤ w) (λ w l g f. let k = h.least w l g in absurd (omega arith)) (λ g f. omega arith);
          })
      go false e =
          let more = ltb-false (distance n) d e in
          one {v = v} {d = d} (record {
            below = omega (arith, h.below);
            in_use = h.in_use;
            is = h.is;
            least = next n (λ w. used w ≡ true → d ≤ distance w) h.least (λ g. more);
            first = next n (λ w. used w ≡ true → distance w ≡ d → v ≤ w) h.first (λ g f. omega (arith, h.below));
          })

  pub outcome : (n : ℕ) → Outcome n (best used distance n)
  unfolding best
  outcome zero = none (λ w l e. absurd (omega arith))
  outcome (suc n) = go (used n) refl (outcome n)
    where
      go : (b : Bool) → used n ≡ b → Outcome n (best used distance n) → Outcome (suc n) (cond b (closer (best used distance n) n (distance n)) (best used distance n))
      go true e h = taken n (best used distance n) e h
      go false e h = skipped n (best used distance n) e h

-- the best depends on which corners below n are in use only
pub best-same : (used used' : ℕ → Bool) (distance : ℕ → ℕ) (n : ℕ) → ((v : ℕ) → v < n → used v ≡ used' v) → best used distance n ≡ best used' distance n
unfolding best
best-same used used' distance zero h = refl
best-same used used' distance (suc n) h =
    let before = best-same used used' distance n (λ v l. h v (omega arith)) in
    λ i. cond (h n (omega arith) i) (closer (before i) n (distance n)) (before i)

-- Whether every label of one corner is one of another's, by the marks of the labels. Definitions only.
use Rattle.std.specs.Prelude.{ℕ, ◌+◌, ◌*◌, ◌<◌, ◌≡◌, ◌⊎◌, Bool, true, false, List}
use Rattle.halfedges.specs.Place.{at}

-- the marks of the first i labels: what b has a has
abbrev pub Covering : List ℕ → ℕ → ℕ → ℕ → ℕ → Type 0
Covering w carried a b i = (l : ℕ) → l < i → (at w (carried + b * 8 + l) ≡ 0 → ⊥) → at w (carried + a * 8 + l) ≡ 0 → ⊥

-- b has the label l and a has not
pub record Lacks (w : List ℕ) (carried a b l : ℕ) (r : Bool) : Type 0 where
  pub yea : r ≡ true → (at w (carried + b * 8 + l) ≡ 0 → ⊥) × (at w (carried + a * 8 + l) ≡ 0)
  pub nay : r ≡ false → (at w (carried + b * 8 + l) ≡ 0) ⊎ (at w (carried + a * 8 + l) ≡ 0 → ⊥)

-- a has all labels of b
pub record Covers (w : List ℕ) (carried a b : ℕ) (r : Bool) : Type 0 where
  pub yea : r ≡ true → Covering w carried a b 8
  pub nay : r ≡ false → Covering w carried a b 8 → ⊥

-- The elements of a list changed one at a time, from the first on.
use Prim.Native.Nat.{ℕ, ◌+◌, ◌≤◌, ◌<◌}
use mathlib.Core.Path.{◌≡◌, refl, ◌∙◌}
use mathlib.Core.Logic.{◌≢◌}
use mathlib.Core.List.{List}
use native.Mathlib.Omega.{arith}
use native.Mathlib.Decide.{ℕ_discrete}
use lib.ListN.{length, get_or, set, length-set}
use lib.Seq.{get_or-set_same, get_or-set_other}

-- the first i elements are what g says, and the others what they were
pub record Turning {A : Type 0} (d : A) (g : ℕ → A) (i : ℕ) (l cur : List A) : Type 0 where
  pub size : length cur ≡ length l
  pub done : (j : ℕ) → j < i → get_or cur j d ≡ g j
  pub left : (j : ℕ) → i ≤ j → get_or cur j d ≡ get_or l j d

pub turning_start : {A : Type 0} (d : A) (g : ℕ → A) (l : List A) → Turning d g 0 l l
turning_start d g l = record { size = refl; done = λ j p. absurd (omega arith); left = λ j p. refl }

pub turning_on : {A : Type 0} {d : A} {g : ℕ → A} {i : ℕ} {l cur : List A} → Turning d g i l cur → i < length l → (v : A) → v ≡ g i → Turning d g (i + 1) l (set cur i v)
turning_on {A} {d} {g} {i} {l} {cur} s f v e = record { size = length-set cur i v ∙ s.size; done = λ j p. done j p (ℕ_discrete j i); left = left }
  where
    done : (j : ℕ) → j < i + 1 → Dec (j ≡ i) → get_or (set cur i v) j d ≡ g j
    done j p (yes q) = rw q (get_or-set_same cur i v d (omega (arith, s.size)) ∙ e)
    done j p (no q) = get_or-set_other cur i j v d q ∙ s.done j (omega (arith, q))

    left : (j : ℕ) → i + 1 ≤ j → get_or (set cur i v) j d ≡ get_or l j d
    left j p = let q : j ≢ i = λ z. omega arith in get_or-set_other cur i j v d q ∙ s.left j (omega arith)

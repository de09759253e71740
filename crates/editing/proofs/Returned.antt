-- Taking back several edits, one after the other.
use Prim.Native.Nat.{ℕ, ◌+◌, ◌*◌, ◌-◌, ◌≤◌, ◌<◌}
use mathlib.Core.Path.{◌≡◌, refl, ◌∙◌, subst, subst₂}
use mathlib.Core.List.{List}
use native.Mathlib.Omega.{arith}
use lib.ListN.{length, drop}
use lib.Seq.{drop-drop}
use Rattle.history.specs.History.{Made}
use Rattle.editing.specs.Held.{Holds, without, Returned}

-- i edits are taken back; the lists keep their lengths
pub record Going (points : ℕ) (l₀ ls₀ w₀ j₀ : List ℕ) (n k a : ℕ) (l ls w j : List ℕ) (m i : ℕ) : Type 0 where
  pub returned : Returned points l₀ ls₀ w₀ j₀ n k i l ls w j m
  pub few : i ≤ a
  pub corners : length l ≡ length l₀
  pub labels : length ls ≡ length ls₀
  pub work : length w ≡ length w₀
  pub journal : length j ≡ length j₀

module _ (points : ℕ) (l₀ ls₀ w₀ j₀ : List ℕ) (n k : ℕ) where
  none_returned : Returned points l₀ ls₀ w₀ j₀ n k 0 l₀ ls₀ w₀ j₀ n
  none_returned = record { holds = λ h held. subst (λ (i : ℕ). Holds points l₀ ls₀ w₀ j₀ n i h) (let e : k ≡ k - 0 = omega arith in e) held; further = refl }

  pub going : (a : ℕ) → Going points l₀ ls₀ w₀ j₀ n k a l₀ ls₀ w₀ j₀ n 0
  going a = record { returned = none_returned; few = omega arith; corners = refl; labels = refl; work = refl; journal = refl }

  one_more : (i : ℕ) {l ls w j : List ℕ} {m : ℕ} {l' ls' w' j' : List ℕ} {m' : ℕ} → Returned points l₀ ls₀ w₀ j₀ n k i l ls w j m → Returned points l ls w j m (k - i) 1 l' ls' w' j' m'
      → length ls ≡ length ls₀ → Returned points l₀ ls₀ w₀ j₀ n k (i + 1) l' ls' w' j' m'
  one_more i {l} {ls} {w} {j} {m} {l'} {ls'} {w'} {j'} {m'} r s e = record {
    holds = λ h held. subst₂ (λ (y : ℕ) (es : List Made). Holds points l' ls' w' j' m' y (record { lent = h.lent; edits = es })) (let f : k - i - 1 ≡ k - (i + 1) = omega arith in f) (drop-drop 1 i h.edits)
        (s.holds (without i h) (r.holds h held));
    further = subst (λ (y : ℕ). drop (32 * y + 16 * points) w' ≡ drop (32 * y + 16 * points) w) e s.further ∙ r.further;
  }

  pub going_on : (a : ℕ) {l ls w j : List ℕ} {m i : ℕ} {l' ls' w' j' : List ℕ} {m' : ℕ} → Going points l₀ ls₀ w₀ j₀ n k a l ls w j m i → i < a → Returned points l ls w j m (k - i) 1 l' ls' w' j' m'
      → length l' ≡ length l → length ls' ≡ length ls → length w' ≡ length w → length j' ≡ length j → Going points l₀ ls₀ w₀ j₀ n k a l' ls' w' j' m' (i + 1)
  going_on a {i = i} g q s e f x y = record {
    returned = one_more i g.returned s g.labels;
    few = omega arith;
    corners = e ∙ g.corners;
    labels = f ∙ g.labels;
    work = x ∙ g.work;
    journal = y ∙ g.journal;
  }

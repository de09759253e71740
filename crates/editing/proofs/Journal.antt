-- A record in the journal: its twelve words, read, put in and taken out.
use Prim.Native.Nat.{ℕ, zero, suc, ◌+◌, ◌*◌, ◌≤◌}
use mathlib.Core.Path.{◌≡◌, refl, sym, ◌∙◌, ap}
use mathlib.Core.List.{List, [], ◌∷◌, ◌++◌, append_assoc}
use native.Mathlib.Omega.{arith}
use lib.ListN.{length, get_or, take, drop, replicate, length-append, length-replicate, replicate-append-replicate}
use lib.Seq.{drop-cons, take_at, drop_at}

-- m words of a list from place n + k on
unfoldable from : List ℕ → ℕ → ℕ → ℕ → List ℕ
from l n k zero = []
from l n k (suc m) = get_or l (n + k) 0 ∷ from l n (suc k) m

from-take : (l : List ℕ) (n k m : ℕ) → n + k + m ≤ length l → from l n k m ≡ take m (drop (n + k) l)
unfolding from
from-take l n k zero p = refl
from-take l n k (suc m) p =
    let e : n + suc k ≡ suc (n + k) = omega arith in
    rw (drop-cons l (n + k) 0 (omega arith)) (ap (λ (x : List ℕ). get_or l (n + k) 0 ∷ x) (from-take l n (suc k) m (omega arith) ∙ ap (λ (i : ℕ). take m (drop i l)) e))

-- the twelve words of a record, read one by one
pub twelve : (l : List ℕ) (n : ℕ) → n + 12 ≤ length l
    → ◌≡◌ {A = List ℕ} (get_or l n 0 ∷ get_or l (n + 1) 0 ∷ get_or l (n + 2) 0 ∷ get_or l (n + 3) 0 ∷ get_or l (n + 4) 0 ∷ get_or l (n + 5) 0 ∷ get_or l (n + 6) 0 ∷ get_or l (n + 7) 0
    ∷ get_or l (n + 8) 0 ∷ get_or l (n + 9) 0 ∷ get_or l (n + 10) 0 ∷ get_or l (n + 11) 0 ∷ []) (take 12 (drop n l))
unfolding from
twelve l n p =
    let e : n + 1 ≡ suc n = omega arith in
    rw (drop-cons l n 0 (omega arith)) (ap (λ (x : List ℕ). get_or l n 0 ∷ x) (from-take l n 1 11 (omega arith) ∙ ap (λ (i : ℕ). take 11 (drop i l)) e))

module _ (recs ws : List ℕ) (k m : ℕ) (r : length recs ≡ 12 * k) (w : length ws ≡ 12) where
  both : length (recs ++ ws) ≡ 12 * k + 12
  both = simp length-append (omega arith)

  -- a record is put in behind those in force
  pub put_in : (j : List ℕ) → j ≡ recs ++ replicate (12 + m) 0 → take (12 * k) j ++ ws ++ drop (12 * k + 12) j ≡ (recs ++ ws) ++ replicate m 0
  put_in j e =
      let f : drop (12 * k + 12) j ≡ replicate m 0 =
      ap (λ (x : List ℕ). drop (12 * k + 12) x) (e ∙ ap (λ (x : List ℕ). recs ++ x) (sym (replicate-append-replicate 12 m 0)) ∙ sym (append_assoc recs (replicate 12 0) (replicate m 0)))
      ∙ drop_at (recs ++ replicate 12 0) (replicate m 0) (12 * k + 12) (simp (length-append, length-replicate) (omega arith)) in
      ap (λ (x : List ℕ). x ++ ws ++ drop (12 * k + 12) j) (ap (take (12 * k)) e ∙ take_at recs (replicate (12 + m) 0) (12 * k) r) ∙ ap (λ (x : List ℕ). recs ++ ws ++ x) f

  -- the last one is read
  pub read-last : (j : List ℕ) → j ≡ (recs ++ ws) ++ replicate m 0 → take 12 (drop (12 * k) j) ≡ ws
  read-last j e =
      ap (λ (x : List ℕ). take 12 (drop (12 * k) x)) (e ∙ append_assoc recs ws (replicate m 0)) ∙ ap (take 12) (drop_at recs (ws ++ replicate m 0) (12 * k) r)
      ∙ take_at ws (replicate m 0) 12 w

  -- and its words become 0
  pub take_out : (j : List ℕ) → j ≡ (recs ++ ws) ++ replicate m 0 → take (12 * k) j ++ replicate 12 0 ++ drop (12 * k + 12) j ≡ recs ++ replicate (12 + m) 0
  take_out j e =
      let f : drop (12 * k + 12) j ≡ replicate m 0 = ap (drop (12 * k + 12)) e ∙ drop_at (recs ++ ws) (replicate m 0) (12 * k + 12) both in
      let g : take (12 * k) j ≡ recs = ap (take (12 * k)) (e ∙ append_assoc recs ws (replicate m 0)) ∙ take_at recs (ws ++ replicate m 0) (12 * k) r in
      rw (f, g) (append_assoc recs (replicate 12 0) (replicate m 0) ∙ ap (λ (x : List ℕ). recs ++ x) (replicate-append-replicate 12 m 0))

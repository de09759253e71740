-- The sum over the steps: it grows with the volume, and it is the sum over started unit cubes. Assumes nothing.
use Prim.Native.Nat.{ℕ, ◌+◌, ◌-◌, ◌*◌, ◌≤◌, min}
use mathlib.Core.Path.{◌≡◌, refl, ap, ap₂, ◌∙◌}
use mathlib.Core.Bool.{true}
use mathlib.Core.List.{List, [], ◌∷◌}
use native.Mathlib.Nat.{le_refl, le_trans, add-le-add, mul-le-mul_left, mul-le-mul_right, mul-zero}
use native.Mathlib.Omega.{arith}
use lib.Dec.{leb, ltb}
use borrow.Author.Tests.{leb-true, ltb-true}
use Rattle.surface.specs.Check.{every}
use Rattle.surface.proofs.Bools.{both}
use Rattle.price.specs.Price.{started, between, above, sum_of_steps}
use Rattle.price.specs.Tariff.{rises, rising?, capped?}
use Rattle.price.specs.Stages.{by_cubes}

-- ---- a larger volume

started-more : (a b : ℕ) → a ≤ b → started a ≤ started b
started-more a b h = omega arith

pub sum_more : (v w : ℕ) → v ≤ w → (l : ℕ) (us ps : List ℕ) → sum_of_steps v l us ps ≤ sum_of_steps w l us ps
unfolding sum_of_steps
sum_more v w h l us [] = le_refl 0
sum_more v w h l [] (p ∷ ps) = mul-le-mul_left p (started-more (above l v) (above l w) (omega arith))
sum_more v w h l (u ∷ us) (p ∷ ps) = add-le-add (mul-le-mul_left p (started-more (between l u v) (between l u w) (omega arith))) (sum_more v w h u us ps)

-- ---- by started unit cubes

started-above : (v l : ℕ) → started (above l v) ≡ started v - l
started-above v l = omega arith

started-between : (v l u : ℕ) → started (between l u v) ≡ min (started v) u - l
started-between v l u = omega arith

pub in_cubes : (v l : ℕ) (us ps : List ℕ) → sum_of_steps v l us ps ≡ by_cubes (started v) l us ps
unfolding sum_of_steps by_cubes
in_cubes v l us [] = refl
in_cubes v l [] (p ∷ ps) = ap (λ (n : ℕ). p * n) (started-above v l)
in_cubes v l (u ∷ us) (p ∷ ps) = ap₂ (λ (m n : ℕ). p * m + n) (started-between v l u) (in_cubes v u us ps)

-- no cube is started: nothing to pay
none : (l : ℕ) (us ps : List ℕ) → by_cubes 0 l us ps ≡ 0
unfolding by_cubes
none l us [] = refl
none l [] (p ∷ ps) = let e : 0 - l ≡ 0 = omega arith in ap (λ (n : ℕ). p * n) e ∙ mul-zero p
none l (u ∷ us) (p ∷ ps) = let e : min 0 u - l ≡ 0 = omega arith in ap₂ (λ (m n : ℕ). p * m + n) e (none u us ps) ∙ ap (λ (n : ℕ). n + 0) (mul-zero p)

pub sum-zero : (l : ℕ) (us ps : List ℕ) → sum_of_steps 0 l us ps ≡ 0
sum-zero l us ps = in_cubes 0 l us ps ∙ none l us ps

-- a lower bound beyond the cubes is as good as all of them
pub clipped : (n l : ℕ) (us ps : List ℕ) → by_cubes n l us ps ≡ by_cubes n (min n l) us ps
unfolding by_cubes
clipped n l us [] = refl
clipped n l [] (p ∷ ps) = let e : n - l ≡ n - min n l = omega arith in ap (λ (m : ℕ). p * m) e
clipped n l (u ∷ us) (p ∷ ps) = let e : min n u - l ≡ min n u - min n l = omega arith in ap (λ (m : ℕ). p * m + by_cubes n u us ps) e

-- no cube costs more than 100,000
abbrev Begins : ℕ → List ℕ → Type 0
Begins l [] = Unit {0}
Begins l (u ∷ us) = l ≤ u

pub at_most : (n l : ℕ) (us ps : List ℕ) → Begins l us → rising? us ≡ true → capped? ps ≡ true → by_cubes n l us ps ≤ 100000 * (n - l)
unfolding by_cubes rising? rises every
at_most n l us [] b r c = omega arith
at_most n l [] (p ∷ ps) b r c = mul-le-mul_right (n - l) (leb-true p 100000 (both (leb p 100000) (capped? ps) c).0)
at_most n l (u ∷ us) (p ∷ ps) b r c =
    let k = both (leb p 100000) (capped? ps) c in
    let first : p * (min n u - l) ≤ 100000 * (min n u - l) = mul-le-mul_right (min n u - l) (leb-true p 100000 k.0) in
    let rest = at_most n u us ps (next us r) (risen us r) k.1 in
    le_trans (add-le-add first rest) (joined b)
  where
    next : (us : List ℕ) → rises u us ≡ true → Begins u us
    next [] e = tt
    next (w ∷ ws) e = let h = ltb-true u w (both (ltb u w) (rises w ws) e).0 in omega arith

    risen : (us : List ℕ) → rises u us ≡ true → rising? us ≡ true
    risen [] e = refl
    risen (w ∷ ws) e = (both (ltb u w) (rises w ws) e).1

    joined : l ≤ u → 100000 * (min n u - l) + 100000 * (n - u) ≤ 100000 * (n - l)
    joined h = omega arith

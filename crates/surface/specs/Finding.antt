-- What the judgement of rules (b) and (c) finds, and where (document 02, F-1), and what is proved of it (`finding-laws` of `proofs/Findings`). Definitions only.
-- `Closed`: both rules hold. `Repeated` u v: the directed side from u to v occurs twice or more. `Lone` u v: it occurs and its reverse does not. `Split` v: the triangles around v are more than one ring.
use Rattle.std.specs.Prelude.{ℕ, zero, suc, max, ◌<◌, ◌≡◌, ◌⊎◌, ◌↔◌, Bool, ◌&&◌, not, cond, List, [], ◌∷◌, eqb, ltb}
use Rattle.surface.specs.Triangle.{Tri}
use Rattle.surface.specs.Closed.{sides, around, InUse, Ring, Paired, Manifold}
use Rattle.surface.specs.Check.{leftover, empty}
use Rattle.surface.specs.PageTwelve.{Relisted}
use Rattle.surface.specs.declared.Finding.{Finding}
use Rattle.surface.specs.declared.Finding.TheVariants.{Closed, Repeated, Lone, Split}

-- ---- what is wrong at a place

-- the directed side from u to v is repeated
abbrev pub IsRepeated : List Tri → ℕ → ℕ → Type 0
IsRepeated ts u v = 1 < sides ts u v

-- the directed side from u to v occurs once and lacks its reverse
abbrev pub IsLone : List Tri → ℕ → ℕ → Type 0
IsLone ts u v = (sides ts u v ≡ 1) × (sides ts v u ≡ 0)

-- the corner v is in use, and the triangles around it do not form one ring
abbrev pub IsSplit : List Tri → ℕ → Type 0
IsSplit ts v = (InUse ts v) × (Ring (around ts v) → ⊥)

-- ---- the smallest place

-- the pair x y comes before u v: by the first numbers, and by the second where those are equal
abbrev pub PairBefore : ℕ → ℕ → ℕ → ℕ → Type 0
PairBefore x y u v = (x < u) ⊎ ((x ≡ u) × (y < v))

-- u v is the smallest pair that P holds of
pub record SmallestPair (P : ℕ → ℕ → Type 0) (u v : ℕ) : Type 0 where
  pub holds : P u v
  pub smallest : (x y : ℕ) → PairBefore x y u v → P x y → ⊥

-- v is the smallest number that P holds of
pub record Smallest (P : ℕ → Type 0) (v : ℕ) : Type 0 where
  pub holds : P v
  pub smallest : (x : ℕ) → x < v → P x → ⊥

-- ---- the finding, readable: a repeated side comes first, then a lone side, then a split corner

abbrev pub NoneRepeated : List Tri → Type 0
NoneRepeated ts = (u v : ℕ) → IsRepeated ts u v → ⊥

unfoldable pub Finds : List Tri → Finding → Type 0
Finds ts Closed = Manifold ts
Finds ts (Repeated u v) = SmallestPair (IsRepeated ts) u v
Finds ts (Lone u v) = NoneRepeated ts × SmallestPair (IsLone ts) u v
Finds ts (Split v) = Paired ts × Smallest (IsSplit ts) v

-- ---- the finding, computed

-- one more than the greatest corner
unfoldable pub bound : List Tri → ℕ
bound [] = 0
bound (t ∷ ts) = max (suc t.a) (max (suc t.b) (max (suc t.c) (bound ts)))

-- the smallest number below n that passes the test, and n where none does
unfoldable pub smallest_below : ℕ → (ℕ → Bool) → ℕ
smallest_below zero f = 0
smallest_below (suc n) f = cond (f 0) 0 (suc (smallest_below n (λ i. f (suc i))))

-- the smallest pair of numbers below n that passes the test: its first number, n where there is none, and its second
abbrev pub pair_start : ℕ → (ℕ → ℕ → Bool) → ℕ
pair_start n f = smallest_below n (λ u. ltb (smallest_below n (f u)) n)

abbrev pub pair_end : ℕ → (ℕ → ℕ → Bool) → ℕ
pair_end n f = smallest_below n (f (pair_start n f))

abbrev pub repeated? : List Tri → ℕ → ℕ → Bool
repeated? ts u v = ltb 1 (sides ts u v)

abbrev pub lone? : List Tri → ℕ → ℕ → Bool
lone? ts u v = eqb (sides ts u v) 1 && eqb (sides ts v u) 0

abbrev pub split? : List Tri → ℕ → Bool
split? ts v = not (empty (leftover (around ts v)))

unfoldable pub finding : List Tri → Finding
unfolding smallest_below bound
finding ts =
    let n = bound ts in
    cond (ltb (pair_start n (repeated? ts)) n) (Repeated (pair_start n (repeated? ts)) (pair_end n (repeated? ts)))
    (cond (ltb (pair_start n (lone? ts)) n) (Lone (pair_start n (lone? ts)) (pair_end n (lone? ts)))
    (cond (ltb (smallest_below n (split? ts)) n) (Split (smallest_below n (split? ts))) Closed))

-- ---- what is proved of every list

pub record FindingLaws (ts : List Tri) : Type 0 where
  -- the function's finding fits, and no other does
  pub computed : Finds ts (finding ts)
  pub only : (f : Finding) → Finds ts f → f ≡ finding ts
  -- none of the three is found exactly where (b) and (c) hold
  pub closed : (finding ts ≡ Closed) ↔ Manifold ts
  -- page twelve: a list and any relisting of it have the same finding
  pub order : (us : List Tri) → Relisted ts us → finding us ≡ finding ts

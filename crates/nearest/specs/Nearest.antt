-- The nearest corner in use of a probe, and the answers to a list of probes (document 02, F-11), over whole units of 1/1024. Definitions only.
use Rattle.std.specs.Prelude.{ℕ, zero, suc, ◌+◌, ◌*◌, ◌/◌, Bool, cond, List, [], ◌∷◌, ◌++◌, ltb, ℤ, nat_abs, ◌-ℤ◌, length, Float}
use Rattle.surface.specs.Triangle.{Tri, triangles}
use Rattle.surface.specs.Closed.{around}
use Rattle.units.specs.Units.{WholePoint, units_at}

-- the squared distance of two points: a whole number of (1/1024)^2
abbrev pub square : ℤ → ℕ
square z = nat_abs z * nat_abs z

abbrev pub apart : WholePoint → WholePoint → ℕ
apart p q = square (p.x -ℤ q.x) + square (p.y -ℤ q.y) + square (p.z -ℤ q.z)

-- a corner is in use if a triangle names it: `InUse` of `surface` as a test
unfoldable pub used? : List Tri → ℕ → Bool
unfolding around
used? ts v = ltb 0 (length (around ts v))

-- a corner with its squared distance, or none
pub data Best : Type 0 where
  nobody : Best
  found : ℕ → ℕ → Best

-- the closer of what is found so far and the next corner: only a smaller distance is closer
abbrev pub closer : Best → ℕ → ℕ → Best
closer nobody v d = found v d
closer (found w e) v d = cond (ltb d e) (found v d) (found w e)

-- the best of the corners in use below n, in rising order
unfoldable pub best : (used : ℕ → Bool) (distance : ℕ → ℕ) (n : ℕ) → Best
best used distance zero = nobody
best used distance (suc v) = cond (used v) (closer (best used distance v) v (distance v)) (best used distance v)

-- of a probe
abbrev pub nearest_to : List Float → List ℕ → WholePoint → Best
nearest_to points corners probe = best (used? (triangles corners)) (λ (v : ℕ). apart (units_at points v) probe) (length points / 3)

-- what an answer place says: where no corner is in use, the mark and 0
abbrev pub corner_of : Best → ℕ
corner_of nobody = 4294967295
corner_of (found v d) = v

abbrev pub distance_of : Best → ℕ
distance_of nobody = 0
distance_of (found v d) = d

-- the first n places one after the other, two words each
unfoldable pub places : (first second : ℕ → ℕ) (n : ℕ) → List ℕ
places first second zero = []
places first second (suc i) = places first second i ++ (first i ∷ second i ∷ [])

-- the answers: a place for each probe
unfoldable pub answered : List Float → List ℕ → List Float → List ℕ
unfolding used? best places triangles
answered points corners probes =
    places (λ (i : ℕ). corner_of (nearest_to points corners (units_at probes i))) (λ (i : ℕ). distance_of (nearest_to points corners (units_at probes i))) (length probes / 3)

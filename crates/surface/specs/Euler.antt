-- The numbers of Euler's formula: the corners in use, the sides and the triangles, and the number that they make. Definitions only.
-- Corners are counted below a bound n that is above each of them; which one does not matter (`any-bound` of `Laws`).
use Rattle.std.specs.Prelude.{ℕ, zero, suc, ◌+◌, ◌<◌, ◌≡◌, List, length, ℤ, pos, ◌+ℤ◌, ◌-ℤ◌}
use Rattle.surface.specs.Triangle.{Tri}
use Rattle.surface.specs.Closed.{sides, around, InUse}

abbrev pub sign : ℕ → ℕ
sign zero = 0
sign (suc n) = 1

-- f 0 + f 1 + .. + f (n - 1)
unfoldable pub sum : ℕ → (ℕ → ℕ) → ℕ
sum zero f = 0
sum (suc n) f = f n + sum n f

-- how many of the corners below n are in use
abbrev pub used : ℕ → List Tri → ℕ
used n ts = sum n (λ v. sign (length (around ts v)))

-- how many pairs of corners u < v below n are the ends of a side: a side and its reverse count once
abbrev pub edges : ℕ → List Tri → ℕ
edges n ts = sum n (λ v. sum v (λ u. sign (sides ts u v + sides ts v u)))

-- corners in use, less sides, plus triangles
abbrev pub euler : ℕ → List Tri → ℤ
euler n ts = pos (used n ts) -ℤ pos (edges n ts) +ℤ pos (length ts)

-- every corner in use is below n
abbrev pub Below : ℕ → List Tri → Type 0
Below n ts = (v : ℕ) → InUse ts v → v < n

-- the number is the same for both lists, said without subtraction (`same-euler` of `proofs/Formula`)
abbrev pub SameEuler : ℕ → List Tri → List Tri → Type 0
SameEuler n ts us = used n us + length us + edges n ts ≡ used n ts + length ts + edges n us

-- The nearest corners of a tetrahedron with a fifth point that no triangle names. By computation.
use Prim.Native.Nat.{ℕ}
use mathlib.Core.Path.{◌≡◌, refl}
use mathlib.Core.Bool.{false}
use mathlib.Core.List.{List, [], ◌∷◌}
use lib.IntN.{pos, negsuc}
use lib.Ieee.{Float, fin}
use Rattle.surface.specs.Triangle.{triangles}
use Rattle.surface.specs.Closed.{around}
use Rattle.nearest.specs.Nearest.{used?, best, places, answered}

-- 0, 1 and a half
abbrev o : Float
o = fin false 0 (pos 0)

abbrev e : Float
e = fin false 1 (pos 0)

abbrev h : Float
h = fin false 1 (negsuc 0)

-- (0, 0, 0), (1, 0, 0), (0, 1, 0), (0, 0, 1) and, unused, (1/2, 1/2, 1/2)
abbrev points : List Float
points = o ∷ o ∷ o ∷ e ∷ o ∷ o ∷ o ∷ e ∷ o ∷ o ∷ o ∷ e ∷ h ∷ h ∷ h ∷ []

abbrev corners : List ℕ
corners = 0 ∷ 2 ∷ 1 ∷ 0 ∷ 1 ∷ 3 ∷ 0 ∷ 3 ∷ 2 ∷ 1 ∷ 2 ∷ 3 ∷ []

-- the probe (1/2, 1/2, 1/2) is as far from all four corners: the smallest number, at 3/4, which is 786,432 of (1/1024)^2; the probe (1, 0, 0) is corner 1
pub two_probes : answered points corners (h ∷ h ∷ h ∷ e ∷ o ∷ o ∷ []) ≡ 0 ∷ 786432 ∷ 1 ∷ 0 ∷ []
unfolding triangles around used? best places answered
two_probes = refl

pub no_triangle : answered points [] (h ∷ h ∷ h ∷ []) ≡ 4294967295 ∷ 0 ∷ []
unfolding triangles around used? best places answered
no_triangle = refl

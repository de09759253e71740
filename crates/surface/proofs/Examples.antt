-- Small surfaces, by computation: a list on each side of every "if and only if", so that no premise is empty.
use mathlib.Core.Path.{◌≡◌, refl}
use mathlib.Core.Bool.{true, false}
use mathlib.Core.List.{List, [], ◌∷◌, ◌++◌}
use lib.IntN.{pos}
use Rattle.surface.specs.Triangle.{Tri, tri}
use Rattle.surface.specs.Closed.{sides, around, Closed}
use Rattle.surface.specs.Edit.{first, flip, without, collapse, hinge}
use Rattle.surface.specs.Check.{next, others, unused, leftover, every, closed?}
use Rattle.surface.specs.Finding.{bound, smallest_below, finding}
use Rattle.surface.specs.declared.Finding.TheVariants as found
use Rattle.surface.specs.Euler.{sum, euler}
use Rattle.surface.proofs.Decision.{closed?_iff}

tetrahedron : List Tri
tetrahedron = tri 0 1 2 ∷ tri 1 0 3 ∷ tri 2 1 3 ∷ tri 0 2 3 ∷ []

-- document 01's octahedron
octahedron : List Tri
octahedron = tri 0 2 4 ∷ tri 2 1 4 ∷ tri 1 3 4 ∷ tri 3 0 4 ∷ tri 2 0 5 ∷ tri 1 2 5 ∷ tri 3 1 5 ∷ tri 0 3 5 ∷ []

-- closed lists, and lists that break one rule
tetrahedron-closed : closed? tetrahedron ≡ true
unfolding closed? every sides around leftover unused next others tetrahedron
tetrahedron-closed = refl

octahedron-closed : closed? octahedron ≡ true
unfolding closed? every sides around leftover unused next others octahedron
octahedron-closed = refl

octahedron-is : Closed octahedron
octahedron-is = (closed?_iff octahedron).0 octahedron-closed

-- (a)
folded : closed? (tri 0 0 1 ∷ []) ≡ false
unfolding closed? every sides around leftover unused next others
folded = refl

-- (b)
open_list : closed? (without 0 octahedron) ≡ false
unfolding closed? every sides around leftover unused next others octahedron without
open_list = refl

-- (c): two tetrahedra that share the corner 0
pinched : closed? (tetrahedron ++ (tri 0 4 5 ∷ tri 4 0 6 ∷ tri 5 4 6 ∷ tri 0 5 6 ∷ [])) ≡ false
unfolding closed? every sides around leftover unused next others tetrahedron
pinched = refl

-- (d): two triangles that turn against one another, with two triangles at each corner
pillow : closed? (tri 0 1 2 ∷ tri 0 2 1 ∷ []) ≡ false
unfolding closed? every sides around leftover unused next others
pillow = refl

-- a flip of the octahedron makes a new side, one of the tetrahedron doubles a side
flip-octahedron : closed? (flip 0 2 octahedron) ≡ true
unfolding closed? every sides around leftover unused next others octahedron flip first hinge
flip-octahedron = refl

flip-tetrahedron : closed? (flip 0 1 tetrahedron) ≡ false
unfolding closed? every sides around leftover unused next others tetrahedron flip first hinge
flip-tetrahedron = refl

-- a collapse of the octahedron; a second one, where 3 is a further common neighbour; and one of the tetrahedron
collapse-octahedron : closed? (collapse 0 2 octahedron) ≡ true
unfolding closed? every sides around leftover unused next others octahedron collapse first hinge
collapse-octahedron = refl

collapse-again : closed? (collapse 0 1 (collapse 0 2 octahedron)) ≡ false
unfolding closed? every sides around leftover unused next others octahedron collapse first hinge
collapse-again = refl

collapse-tetrahedron : closed? (collapse 0 1 tetrahedron) ≡ false
unfolding closed? every sides around leftover unused next others tetrahedron collapse first hinge
collapse-tetrahedron = refl

-- 6 corners, 12 sides and 8 triangles
octahedron-euler : euler 6 octahedron ≡ pos 2
unfolding sum sides around octahedron
octahedron-euler = refl

-- findings: the octahedron is closed; without its first triangle the side from 0 to 4 lacks its reverse; the flipped tetrahedron has the side from 2 to 3 twice;
-- two tetrahedra that share the corner 0 are split there
octahedron-found : finding octahedron ≡ found.Closed
unfolding finding smallest_below bound sides around leftover unused next others octahedron
octahedron-found = refl

open_found : finding (without 0 octahedron) ≡ found.Lone 0 4
unfolding finding smallest_below bound sides around leftover unused next others octahedron without
open_found = refl

doubled_found : finding (flip 0 1 tetrahedron) ≡ found.Repeated 2 3
unfolding finding smallest_below bound sides around leftover unused next others tetrahedron flip first hinge
doubled_found = refl

pinched_found : finding (tetrahedron ++ (tri 0 4 5 ∷ tri 4 0 6 ∷ tri 5 4 6 ∷ tri 0 5 6 ∷ [])) ≡ found.Split 0
unfolding finding smallest_below bound sides around leftover unused next others tetrahedron
pinched_found = refl

-- What a collapse makes of the triangles that lose a corner, by the places of that corner in rising order. Definitions only.
use Rattle.std.specs.Prelude.{ℕ, ◌/◌, Bool, false, not, ◌&&◌, cond, List, get_or, Float, Option, Some, None}
use Rattle.std.specs.Float.Ieee as Ieee
use Rattle.std.specs.Float.{inf}
use Rattle.float.specs.Order.{lesser}
use Rattle.surface.specs.Triangle.{Tri, triangles, names}
use Rattle.surface.specs.Edit.{place, renamed}
use Rattle.oracle.specs.Scene.{Scene, score}
use Rattle.oracle.specs.Slivers.{floor, valid, least}

-- the triangle of a place, and its label
abbrev pub tri_of : List ℕ → ℕ → Tri
tri_of c k = place (triangles c) (k / 3)

abbrev pub label_of : List ℕ → ℕ → ℕ
label_of ls k = get_or ls (k / 3) 0

-- The triangle of the place k of b: where it names a it goes with the collapse, and else it must not fall below its floor, and its shape counts.
abbrev pub falls : Scene → ℕ → ℕ → Tri → ℕ → Bool
falls s a b t l = Ieee.lt (score s (renamed a b t) l) (floor (score s t l))

abbrev pub ok_at : Scene → List ℕ → List ℕ → ℕ → ℕ → ℕ → Bool
ok_at s c ls a b k = not (not (names (tri_of c k) a) && falls s a b (tri_of c k) (label_of ls k))

abbrev pub lowered : Scene → ℕ → ℕ → Tri → ℕ → Float → Float
lowered s a b t l m = cond (names t a) m (lesser m (score s (renamed a b t) l))

abbrev pub step_at : Scene → List ℕ → List ℕ → ℕ → ℕ → ℕ → Float → Float
step_at s c ls a b k m = lowered s a b (tri_of c k) (label_of ls k) m

-- one triangle more, that of the place k of b: the lesser of m and its shape, where it stays above its floor
abbrev pub tried : Scene → List ℕ → List ℕ → ℕ → ℕ → ℕ → Float → Option Float
tried s c ls a b k m = cond (ok_at s c ls a b k) (Some (step_at s c ls a b k m)) None

-- the least shape, where each stays above its floor
abbrev pub trials : Scene → List ℕ → List ℕ → ℕ → ℕ → Option Float
trials s c ls a b = cond (valid s (triangles c) ls a b) (Some (least s a b (inf false) (triangles c) ls)) None

-- The points and the field sheet that a round is measured with; the shape of a triangle of a list, and the square of a distance. Definitions only.
use Rattle.std.specs.Prelude.{ℕ, ◌+◌, ◌*◌, List, get_or, Float}
use Rattle.std.specs.Float.{nan}
use Rattle.float.specs.declared.Point.{Point}
use Rattle.float.specs.Point.{difference, dotted}
use Rattle.field.specs.Shape.{shape}
use Rattle.surface.specs.Triangle.{Tri}

pub record Scene : Type 0 where
  pub points : List Float
  pub coefficients : List Float
  pub powers : List ℕ

abbrev pub scene : List Float → List Float → List ℕ → Scene
scene ps qs ns = record { points = ps; coefficients = qs; powers = ns }

-- the point of the corner v: three coordinates from 3 * v on. (What stands past the end of the list is never read.)
abbrev pub point_at : List Float → ℕ → Point
point_at ps v = record { x = get_or ps (v * 3) nan; y = get_or ps (v * 3 + 1) nan; z = get_or ps (v * 3 + 2) nan }

-- the shape of a triangle with a label
unfoldable pub score : Scene → Tri → ℕ → Float
unfolding shape
score s t l = shape s.coefficients s.powers (point_at s.points t.a) (point_at s.points t.b) (point_at s.points t.c) l

-- the square of the distance of two corners
unfoldable pub squared : List Float → ℕ → ℕ → Float
squared ps a b = let d = difference (point_at ps a) (point_at ps b) in dotted d d

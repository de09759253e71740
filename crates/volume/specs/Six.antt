-- Six times the volume of a surface over whole points: a whole number of (1/1024)^3. Definitions only.
use Rattle.std.specs.Prelude.{ℕ, List, [], ◌∷◌, ℤ, pos, ◌+ℤ◌, ◌-ℤ◌, ◌*ℤ◌}
use Rattle.surface.specs.Triangle.{Tri}
use Rattle.units.specs.Units.{WholePoint}

-- the point p, measured from o
abbrev pub measured_from : WholePoint → WholePoint → WholePoint
measured_from o p = record { x = p.x -ℤ o.x; y = p.y -ℤ o.y; z = p.z -ℤ o.z }

abbrev pub cross : WholePoint → WholePoint → WholePoint
cross p q = record {
  x = p.y *ℤ q.z -ℤ p.z *ℤ q.y;
  y = p.z *ℤ q.x -ℤ p.x *ℤ q.z;
  z = p.x *ℤ q.y -ℤ p.y *ℤ q.x;
}

abbrev pub dot : WholePoint → WholePoint → ℤ
dot p q = p.x *ℤ q.x +ℤ p.y *ℤ q.y +ℤ p.z *ℤ q.z

-- the determinant of three points: six times the signed volume of the tetrahedron that they span with the origin
abbrev pub determinant : WholePoint → WholePoint → WholePoint → ℤ
determinant a b c = dot a (cross b c)

-- six times the volume between a triangle and the point o, where corner number i is the point `point i`
abbrev pub six_at : WholePoint → (ℕ → WholePoint) → Tri → ℤ
six_at o point t = determinant (measured_from o (point t.a)) (measured_from o (point t.b)) (measured_from o (point t.c))

-- six times the volume of a list of triangles, measured from o
unfoldable pub six : WholePoint → (ℕ → WholePoint) → List Tri → ℤ
six o point [] = pos 0
six o point (t ∷ ts) = six_at o point t +ℤ six o point ts

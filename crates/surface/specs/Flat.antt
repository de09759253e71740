-- A triangle list as a program holds it: corner numbers, three for each triangle, the first n triangles in use. Definitions only.
use Rattle.std.specs.Prelude.{ℕ, ◌+◌, ◌*◌, List, [], ◌∷◌, get_or, take, set}
use Rattle.surface.specs.Triangle.{Tri, tri, triangles}

-- the triangle that an array of three numbers stands for
abbrev pub tri_of : List ℕ → Tri
tri_of t = tri (get_or t 0 0) (get_or t 1 0) (get_or t 2 0)

-- the first n triangles of a list of corner numbers
abbrev pub held : List ℕ → ℕ → List Tri
held l n = triangles (take (3 * n) l)

-- the three numbers at a place, and the triangle there
abbrev pub three_at : List ℕ → ℕ → List ℕ
three_at l i = get_or l (3 * i) 0 ∷ get_or l (3 * i + 1) 0 ∷ get_or l (3 * i + 2) 0 ∷ []

abbrev pub tri_at : List ℕ → ℕ → Tri
tri_at l i = tri (get_or l (3 * i) 0) (get_or l (3 * i + 1) 0) (get_or l (3 * i + 2) 0)

-- the list with a triangle put at a place
abbrev pub put_at : List ℕ → ℕ → Tri → List ℕ
put_at l i t = set (set (set l (3 * i) t.a) (3 * i + 1) t.b) (3 * i + 2) t.c

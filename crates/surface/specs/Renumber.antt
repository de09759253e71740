-- Triangles whose corners get other numbers. Definitions only.
use Rattle.std.specs.Prelude.{ℕ, List, map}
use Rattle.surface.specs.Triangle.{Tri, tri}

abbrev pub renumber : (ℕ → ℕ) → Tri → Tri
renumber f t = tri (f t.a) (f t.b) (f t.c)

abbrev pub renumbered : (ℕ → ℕ) → List Tri → List Tri
renumbered f ts = map (renumber f) ts

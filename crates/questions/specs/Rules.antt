-- Rule (d) of a closed surface (document 01, "Surface") as a test that computes. (Rule (a) is `differ?` of each triangle, and of (b) and (c) `finding` says what is wrong.) Definitions only.
use Rattle.std.specs.Prelude.{Bool, true, not, ◌&&◌, List, [], ◌∷◌}
use Rattle.surface.specs.Triangle.{Tri, names}
use Rattle.surface.specs.Check.{every}

-- each corner of the one triangle is a corner of the other
abbrev pub within? : Tri → Tri → Bool
within? s t = names t s.a && (names t s.b && names t s.c)

-- (d) no two triangles have the same three corners
unfoldable pub distinct? : List Tri → Bool
unfolding every
distinct? [] = true
distinct? (t ∷ ts) = every (λ (s : Tri). not (within? s t && within? t s)) ts && distinct? ts

-- The definitions at work on document 01's octahedron: its keys, a side's faces, masks, and what `smooth_impl` takes.
use mathlib.Core.Path.{◌≡◌, refl}
use mathlib.Core.Bool.{true, false}
use mathlib.Core.List.{List, [], ◌∷◌}
use lib.ListN.{replicate}
use lib.Ieee.{Float, binary64, of_bits}
use Rattle.float.specs.Order.{is_finite}
use Rattle.surface.specs.Triangle.{Tri, tri}
use Rattle.surface.specs.Check.{every}
use Rattle.oracle.specs.Rising.{side}
use Rattle.oracle.specs.Round.{Mesh}
use Rattle.original.specs.Maps.{spot, spots, incident_from, incident, mask_from, mask, entry, keys_from, keys}
use Rattle.original.specs.Improve.{compatible, valid}

octahedron : List Tri
octahedron = tri 0 2 4 ∷ tri 2 1 4 ∷ tri 1 3 4 ∷ tri 3 0 4 ∷ tri 2 0 5 ∷ tri 1 2 5 ∷ tri 3 1 5 ∷ tri 0 3 5 ∷ []

unit : Float
unit = of_bits binary64 0x3ff0_0000_0000_0000

back : Float
back = of_bits binary64 0xbff0_0000_0000_0000

none : Float
none = of_bits binary64 0

mesh : Mesh
mesh = record {
  points = unit ∷ none ∷ none ∷ back ∷ none ∷ none ∷ none ∷ unit ∷ none ∷ none ∷ back ∷ none ∷ none ∷ none ∷ unit ∷ none ∷ none ∷ back ∷ [];
  pair = record { tris = octahedron; labels = replicate 8 0 };
}

-- its twelve keys
its_keys : keys octahedron
    ≡ side 0 2 ∷ side 0 3 ∷ side 0 4 ∷ side 0 5 ∷ side 1 2 ∷ side 1 3 ∷ side 1 4 ∷ side 1 5 ∷ side 2 4 ∷ side 2 5 ∷ side 3 4 ∷ side 3 5 ∷ []
unfolding octahedron keys_from entry
its_keys = refl

-- the side 0 2 begins at place 0 of the faces 0 and 4
its_spots : spots 0 octahedron 0 2 ≡ spot 0 0 ∷ spot 4 0 ∷ []
unfolding octahedron spots
its_spots = refl

its_faces : incident octahedron 4 ≡ 0 ∷ 1 ∷ 2 ∷ 3 ∷ []
unfolding octahedron incident_from
its_faces = refl

-- with the label 2 at face 1 the corner 4 has the bits of 0 and of 2
its_mask : mask octahedron (0 ∷ 2 ∷ replicate 6 0) 4 ≡ 5
unfolding octahedron mask_from
its_mask = refl

its_judgment : valid mesh ≡ true
unfolding mesh octahedron valid every is_finite of_bits unit back none compatible mask_from
its_judgment = refl

-- 0 and 1 at one corner: Err
refused : compatible (record { tris = octahedron; labels = 0 ∷ 1 ∷ replicate 6 0 }) 6 ≡ false
unfolding octahedron compatible mask_from
refused = refl

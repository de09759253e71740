-- The plane of a layer (document 02, F-9): at h + 1/2 in units of 1/1024, so that it meets no corner on whole units. Definitions only.
use Rattle.std.specs.Prelude.{ℕ, Bool, ◌&&◌, List, ℤ, pos, negsuc, ◌≤ℤ◌, Float}
use Rattle.std.specs.Int.Signed.{lt_z, le_z}
use Rattle.surface.specs.Triangle.{triangles}
use Rattle.units.specs.Units.{AllOnUnits, all_on_units?, units_at}
use Rattle.outlines.specs.Side.{Side}
use Rattle.outlines.specs.Crossing.{crossings}
use Rattle.outlines.specs.Outline.{Loop, Place, loops, outlines}

-- Question 40 asks whether the height is within -32,768..32,767, and every coordinate, of points that are used and of those that are not, in whole units within ±32,768.
pub record Layered (points : List Float) (height : ℤ) : Type 0 where
  pub lowest : negsuc 32767 ≤ℤ height
  pub highest : height ≤ℤ pos 32767
  pub whole : AllOnUnits points

-- the same as a test that computes (`layered_iff` of proofs/Questions)
abbrev pub layered? : List Float → ℤ → Bool
layered? points height = le_z (negsuc 32767) height && (le_z height (pos 32767) && all_on_units? points)

-- a corner lies above the plane where its z is greater than the height
abbrev pub above_layer : List Float → ℤ → ℕ → Bool
above_layer points height v = lt_z height (units_at points v).z

-- the sides that the plane crosses, in rising order, the loops in which it crosses them, and the list of outlines
abbrev pub layer_crossings : List Float → List ℕ → ℤ → List Side
layer_crossings points corners height = crossings (above_layer points height) (triangles corners)

abbrev pub layer_loops : List Float → List ℕ → ℤ → List Loop
layer_loops points corners height = loops (above_layer points height) (triangles corners)

abbrev pub layer_outlines : List Float → List ℕ → ℤ → List Place
layer_outlines points corners height = outlines (above_layer points height) (triangles corners)

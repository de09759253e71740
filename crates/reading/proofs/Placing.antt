-- Coordinates as floats, one after the other. Assumes nothing.
use mathlib.Core.Path.{◌≡◌, refl, ap, ◌∙◌}
use mathlib.Core.List.{List, [], ◌∷◌, ◌++◌, map}
use Prim.Native.Nat.{ℕ, ◌*◌}
use lib.Ieee.{Float}
use lib.IntN.{ℤ}
use lib.ListN.{length, take, drop}
use lib.Seq.{take_at}
use Rattle.sheet.specs.Sheet.{Point, place, places_of, coordinates_of}
use Rattle.reading.specs.Stages.{placed_first}
use Rattle.sheet.proofs.Stores.{length_coordinates}

module _ (unit : ℕ) where
  places_are : (ps : List Point) → map (place unit) (coordinates_of ps) ≡ places_of unit ps
  places_are [] = refl
  places_are (p ∷ ps) = ap (λ (t : List Float). place unit p.x ∷ place unit p.y ∷ place unit p.z ∷ t) (places_are ps)

  -- the floats of a sheet's points
  pub sheet-places : (ps : List Point) (n : ℕ) (cs rest : List ℤ) (d : List Float) → length ps ≡ n → cs ≡ coordinates_of ps ++ rest → placed_first unit cs (n * 3) d ≡ places_of unit ps ++ drop (n * 3) d
  sheet-places ps n cs rest d e q =
      ap (λ (t : List Float). t ++ drop (n * 3) d)
      (ap (map (place unit)) (ap (take (n * 3)) q ∙ take_at (coordinates_of ps) rest (n * 3) (length_coordinates ps ∙ ap (λ (k : ℕ). k * 3) e)) ∙ places_are ps)

-- The points of a list of corners, three coordinates to each. Definitions only.
use Rattle.std.specs.Prelude.{ℕ, ◌+◌, ◌*◌, List, [], ◌∷◌, get_or, Float}
use Rattle.std.specs.Float.{nan}

unfoldable pub gathered : List Float → List ℕ → List Float
gathered ps [] = []
gathered ps (v ∷ vs) = get_or ps (v * 3) nan ∷ get_or ps (v * 3 + 1) nan ∷ get_or ps (v * 3 + 2) nan ∷ gathered ps vs

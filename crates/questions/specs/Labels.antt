-- Labels that no corner may carry together. Definitions only.
use Rattle.std.specs.Prelude.{ℕ, Bool, ◌&&◌, ◌||◌, List}
use Rattle.surface.specs.Triangle.{Tri}
use Rattle.surface.specs.Label.{carries}

abbrev pub both : List Tri → List ℕ → ℕ → ℕ → ℕ → Bool
both ts labels v k l = carries ts labels v k && carries ts labels v l

-- the corner v carries both 0 and 1, 2 and 3, 4 and 5, or 6 and 7
abbrev pub opposed : List Tri → List ℕ → ℕ → Bool
opposed ts labels v = both ts labels v 0 1 || (both ts labels v 2 3 || (both ts labels v 4 5 || both ts labels v 6 7))

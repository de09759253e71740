-- The price of a volume by a price sheet (document 02, F-14), over whole numbers. Definitions only.
-- A volume is a whole number of what `six` of `volume` counts: six times it, in (1/1024)^3. Bounds are in unit cubes.
use Rattle.std.specs.Prelude.{ℕ, ◌+◌, ◌-◌, ◌*◌, ◌/◌, ◌^◌, min, List, [], ◌∷◌, ℤ, pos, negsuc}

-- six times a unit cube: its side is 1,024 coordinate units, so it is 2 ^ 30 of (1/1024)^3
abbrev pub unit_cube : ℕ
unit_cube = 6 * 2 ^ 30

-- how many unit cubes a part of the volume starts: rounded up
abbrev pub started : ℕ → ℕ
started part = (part + (unit_cube - 1)) / unit_cube

-- the part of a volume between two bounds, and the part above one
abbrev pub between : (lower upper volume : ℕ) → ℕ
between lower upper volume = min volume (upper * unit_cube) - lower * unit_cube

abbrev pub above : (lower volume : ℕ) → ℕ
above lower volume = volume - lower * unit_cube

-- The sum over the steps: each begins at the upper volume of the step before it and ends at its own, and the last has none. Each unit cube that the volume starts within a step costs the step's price.
unfoldable pub sum_of_steps : (volume lower : ℕ) (uppers prices : List ℕ) → ℕ
sum_of_steps volume lower uppers [] = 0
sum_of_steps volume lower [] (price ∷ prices) = price * started (above lower volume)
sum_of_steps volume lower (upper ∷ uppers) (price ∷ prices) = price * started (between lower upper volume) + sum_of_steps volume upper uppers prices

-- a volume below zero counts as zero
abbrev pub amount : ℤ → ℕ
amount (pos n) = n
amount (negsuc n) = 0

-- the price in cents; the first step begins at 0
abbrev pub cents : ℤ → (uppers prices : List ℕ) → ℕ
cents volume uppers prices = sum_of_steps (amount volume) 0 uppers prices

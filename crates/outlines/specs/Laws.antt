-- What is proved of the outlines of a closed list, for every plane that meets no corner: one record, each field a law. Statements only; `outline-laws` of `proofs/Closing` proves it.
use Rattle.std.specs.Prelude.{ℕ, ◌≤◌, ◌≡◌, Bool, List, ◌∷◌, length}
use Rattle.surface.specs.Triangle.{Tri}
use Rattle.surface.specs.PageTwelve.{Relisted}
use Rattle.outlines.specs.Side.{Side, times_in, Each}
use Rattle.outlines.specs.Crossing.{crossings}
use Rattle.outlines.specs.Outline.{Loop, Place, loops, outlines}
use Rattle.outlines.specs.Request.{sides_of, neighbours_from, Shared, CrossedSide, Outlines}

-- a loop closes
pub record Closes (ts : List Tri) (l : Loop) : Type 0 where
  -- a triangle leads from each side to the next, and from the last to the first
  pub led : Each (Shared ts) (neighbours_from l.start l.start l.rest)
  -- it has three sides or more,
  pub polygon : 3 ≤ length (l.start ∷ l.rest)
  -- and none of them twice
  pub once : (s : Side) → times_in s (l.start ∷ l.rest) ≤ 1

-- the outlines close: every loop does, and each crossed side is in one of them, once
pub record AllClose (above : ℕ → Bool) (ts : List Tri) (ls : List Loop) : Type 0 where
  pub every-loop : Each (Closes ts) ls
  pub each-side : (s : Side) → CrossedSide above ts s → times_in s (sides_of ls) ≡ 1

pub record OutlineLaws (above : ℕ → Bool) (ts : List Tri) : Type 0 where
  -- the list has all that the request says,
  pub all : Outlines above ts (outlines above ts)
  -- and no other list has
  pub only : (places : List Place) → Outlines above ts places → places ≡ outlines above ts
  -- the outlines close
  pub close : AllClose above ts (loops above ts)
  -- there are as many places as crossed sides, of these no more than triangles, and no more loops than crossed sides
  pub filled : length (outlines above ts) ≡ length (crossings above ts)
  pub few : length (crossings above ts) ≤ length ts
  pub fewer : length (loops above ts) ≤ length (crossings above ts)
  -- neither the order of the triangles nor where each turn begins matters
  pub relisted : (us : List Tri) → Relisted ts us → outlines above us ≡ outlines above ts

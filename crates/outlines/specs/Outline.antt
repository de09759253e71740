-- The outlines of a layer as a function: loop by loop, each from the smallest side not yet used. Definitions only.
use Rattle.std.specs.Prelude.{ℕ, zero, suc, Bool, cond, List, [], ◌∷◌, ◌++◌, map, length}
use Rattle.surface.specs.Triangle.{Tri}
use Rattle.outlines.specs.Side.{Side, same?, strike_all}
use Rattle.outlines.specs.Crossing.{crossings, next_crossed}

pub record Loop : Type 0 where
  pub start : Side
  pub rest : List Side

-- a place of the answer: the two corners and the loop's number
pub record Place : Type 0 where
  pub low : ℕ
  pub high : ℕ
  pub loop : ℕ

-- from s on until the start is met again, at most n sides
unfoldable pub circuit : (Side → Side) → Side → ℕ → Side → List Side
circuit next start zero s = []
circuit next start (suc n) s = let more = circuit next start n (next s) in cond (same? s start) [] (s ∷ more)

-- The loop of the side s, in a list of n further sides: it goes on through the triangle that runs s from its smaller corner to its larger.
unfoldable pub loop_from : (ℕ → Bool) → List Tri → ℕ → Side → Loop
unfolding circuit next_crossed
loop_from above ts n s = let next = next_crossed above ts (above s.low) in record { start = s; rest = circuit next s n (next s) }

-- the loops of a list of sides, the first from the first side, and so on with the sides that are left; at most n loops
unfoldable pub loops_of : (ℕ → Bool) → List Tri → ℕ → List Side → List Loop
unfolding loop_from strike_all
loops_of above ts zero l = []
loops_of above ts (suc n) [] = []
loops_of above ts (suc n) (s ∷ l) = let first = loop_from above ts (length l) s in first ∷ loops_of above ts n (strike_all first.rest l)

-- the places of the loops, numbered from k on
unfoldable pub numbered_loops : ℕ → List Loop → List Place
numbered_loops k [] = []
numbered_loops k (l ∷ ls) = map (λ (s : Side). record { low = s.low; high = s.high; loop = k }) (l.start ∷ l.rest) ++ numbered_loops (suc k) ls

abbrev pub loops : (ℕ → Bool) → List Tri → List Loop
loops above ts = loops_of above ts (length (crossings above ts)) (crossings above ts)

-- the answer: the outlines of a closed list of triangles
abbrev pub outlines : (ℕ → Bool) → List Tri → List Place
outlines above ts = numbered_loops 0 (loops above ts)

-- as the lent list holds them, three words for each place
unfoldable pub place_words : List Place → List ℕ
place_words [] = []
place_words (p ∷ l) = p.low ∷ p.high ∷ p.loop ∷ place_words l

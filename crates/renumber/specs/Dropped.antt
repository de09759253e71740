-- The triangles that stay after the collapses of a round, renamed, and their labels. Definitions only.
use Rattle.std.specs.Prelude.{ℕ, ◌+◌, ◌*◌, ◌<◌, ◌≤◌, ◌≡◌, Bool, not, List, map, eqb, length, take, drop, set}
use Rattle.surface.specs.Triangle as Triangle
use Rattle.surface.specs.Triangle.{triangles}
use Rattle.halfedges.specs.Place.{at}
use Rattle.rounds.specs.Pass.{retain}
use Rattle.surface.specs.Renumber.{renumbered}

-- which of n triangles are gone: those whose word, from `gone` on, is not 0
abbrev pub gone_at : List ℕ → ℕ → ℕ → List Bool
gone_at w gone n = map (λ (x : ℕ). not (eqb x 0)) (take n (drop gone w))

-- what a corner becomes, by the words from `into` on
abbrev pub becomes : List ℕ → ℕ → ℕ → ℕ
becomes w into v = at w (into + v)

-- the triangle i has a label, its corners have words from `into` on, and there is a place q
pub record Movable (c ls w : List ℕ) (into i q : ℕ) : Type 0 where
  pub room : 3 * i + 2 < length c
  pub label : i < length ls
  pub place : q ≤ i
  pub first : into + at c (3 * i) < length w
  pub second : into + at c (3 * i + 1) < length w
  pub third : into + at c (3 * i + 2) < length w

-- the triangle i, renamed, and its label stand at the place q
pub record Moved (c ls w c' ls' : List ℕ) (into i q : ℕ) : Type 0 where
  pub corners : c' ≡ set (set (set c (3 * q) (becomes w into (at c (3 * i)))) (3 * q + 1) (becomes w into (at c (3 * i + 1)))) (3 * q + 2) (becomes w into (at c (3 * i + 2)))
  pub labels : ls' ≡ set ls q (at ls i)

-- each triangle has a label and a word from `gone` on, each corner a word from `into` on
pub record Droppable (c ls w : List ℕ) (into gone : ℕ) : Type 0 where
  pub labelled : length c ≡ 3 * length ls
  pub renames : (k : ℕ) → k < length c → into + at c k < length w
  pub marks : gone + length ls ≤ length w

-- r triangles and labels stay, at the front; what stands behind them is free, and the lists keep their lengths
pub record Dropped (c ls w c' ls' : List ℕ) (into gone r : ℕ) : Type 0 where
  pub count : r ≡ length (retain (gone_at w gone (length ls)) ls)
  pub corners : take (3 * r) c' ≡ Triangle.corners (retain (gone_at w gone (length ls)) (renumbered (becomes w into) (triangles c)))
  pub labels : take r ls' ≡ retain (gone_at w gone (length ls)) ls
  pub lengths : (length c' ≡ length c) × (length ls' ≡ length ls)

-- What holds of every round (document 01, demand 3 and the last sentence of "Entry and journal"), whatever the floats decide. Definitions only; proofs/Safe shows them of every closed list with a label for each triangle.
use Rattle.std.specs.Prelude.{ℕ, suc, ◌+◌, ◌*◌, ◌<◌, ◌≤◌, ◌≡◌, ◌↔◌, true, false, ◌&&◌, List, map, length, get_or}
use Rattle.surface.specs.Closed.{InUse, Closed}
use Rattle.surface.specs.Euler as Euler
use Rattle.surface.specs.Euler.{Below}
use Rattle.surface.specs.Label.{carries}
use Rattle.history.specs.History.{Pair, Entry}
use Rattle.rounds.specs.Pass.{collapse_entry}
use Rattle.rounds.specs.Renumber.{number}
use Rattle.rounds.specs.Choices.{Decision, collapse_start, flip_start, flips_of}
use Rattle.rounds.specs.Round.{Round}
use Rattle.oracle.specs.Scene.{point_at}
use Rattle.oracle.specs.Rising.{rising}
use Rattle.oracle.specs.Candidates.{candidates}
use Rattle.oracle.specs.Slivers.{collapses}
use Rattle.oracle.specs.Gains.{helps}
use Rattle.oracle.specs.Round.{Mesh, Sheet, seen, count, dropped, numbered, round, rounds}

-- the collapses of a round as entries, in their order
abbrev pub collapse_entries : Sheet → Mesh → List Entry
collapse_entries f m =
    let s = seen f m.points in
    map (λ (d : Decision). collapse_entry d.keep d.remove) (collapses true s m.pair (collapse_start m.pair) (candidates s m.pair (count m)))

-- the mesh between the two passes, and the flips that are made of it
abbrev pub middle : Sheet → Mesh → Mesh
middle f m = numbered m.points (dropped true f m)

abbrev pub flip_entries : Sheet → Mesh → List Entry
flip_entries f n = flips_of n.pair (helps (seen f n.points) n.pair) (flip_start n.pair) (rising n.pair.tris (count n))

pub record Safe (f : Sheet) (m : Mesh) : Type 0 where
  -- A history without limit, begun from the pair that the round meets, accepts every collapse. Its last pair is renumbered, one to one on the corners in use.
  -- A second such history, begun from there, accepts every flip, and its last pair is the round's result. Every list on the way is closed, and Euler's number stays.
  pub edits : Round m.pair (collapse_entries f m) (dropped true f m) (number (dropped true f m).tris) (flip_entries f (middle f m)) (round true f m).mesh.pair
  -- the flips are counted
  pub flips : (round true f m).flips ≡ length (flip_entries f (middle f m))
  -- each corner has its point still, under its new number;
  pub points : (x : ℕ) → InUse (dropped true f m).tris x → point_at (round true f m).mesh.points (number (dropped true f m).tris x) ≡ point_at m.points x
  -- and it carries no label that it lacked;
  pub labels : (x : ℕ) → InUse (dropped true f m).tris x → (l : ℕ) → carries (round true f m).mesh.pair.tris (round true f m).mesh.pair.labels (number (dropped true f m).tris x) l ≡ true → carries m.pair.tris m.pair.labels x l ≡ true
  -- there are no other points
  pub whole : length (round true f m).mesh.points ≡ count (round true f m).mesh * 3
  pub used : (w : ℕ) → InUse (round true f m).mesh.pair.tris w ↔ (w < count (round true f m).mesh)

-- what n rounds make
abbrev pub after : Sheet → ℕ → Mesh → Mesh
after f n m = (rounds true f n m).mesh

-- no label is more than a bound
abbrev pub AtMost : ℕ → List ℕ → Type 0
AtMost most ls = (i : ℕ) → i < length ls → get_or ls i 0 ≤ most

-- no corner carries both of two labels
abbrev pub Apart : ℕ → ℕ → Pair → Type 0
Apart k l p = (x : ℕ) → (carries p.tris p.labels x k && carries p.tris p.labels x l) ≡ false

-- what holds after n rounds of the mesh m
pub record SafeAfter (f : Sheet) (m : Mesh) (n : ℕ) : Type 0 where
  -- the surface is closed, (a) to (d), with a label to each triangle
  pub closed : Closed (after f n m).pair.tris
  pub labelled : length (after f n m).pair.labels ≡ length (after f n m).pair.tris
  -- no label is above a bound of those at first, so that labels up to 7 stay such
  pub known : (most : ℕ) → AtMost most m.pair.labels → AtMost most (after f n m).pair.labels
  -- two labels that no corner carried together at first, such as 0 and 1, none carries together
  pub unopposed : (k l : ℕ) → Apart k l m.pair → Apart k l (after f n m).pair
  -- corner numbers below a bound stay below it, and Euler's number is what it was
  pub euler : (k : ℕ) → Below k m.pair.tris → Below k (after f n m).pair.tris × (Euler.euler k (after f n m).pair.tris ≡ Euler.euler k m.pair.tris)
  -- the next round is as `Safe` says, and is what one round more makes, with its flips on top
  pub next : Safe f (after f n m)
  pub made : after f (suc n) m ≡ (round true f (after f n m)).mesh
  pub counted : (rounds true f (suc n) m).flips ≡ (rounds true f n m).flips + (round true f (after f n m)).flips

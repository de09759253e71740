-- What a round is: the demand, as a record. Definitions only.
use Rattle.std.specs.Prelude.{ℕ, ◌+◌, ◌*◌, ◌≤◌, ◌≡◌, true, List, eqb, length}
use Rattle.surface.specs.Closed.{Closed}
use Rattle.surface.specs.Euler.{Below, SameEuler}
use Rattle.surface.specs.Check.{every}
use Rattle.history.specs.History.{Pair, Entry}
use Rattle.rounds.specs.Accepted.{Accepted}
use Rattle.surface.specs.Renumber.{renumbered}
use Rattle.rounds.specs.Renumber.{OneToOne}

abbrev pub Only : ℕ → List Entry → Type 0
Only k es = every (λ (e : Entry). eqb e.kind k) es ≡ true

abbrev pub numbered : (ℕ → ℕ) → Pair → Pair
numbered f p = record { tris = renumbered f p.tris; labels = p.labels }

-- p: the pair that the round meets; es: its collapses; d: the lists after dropping; f: the new numbers of the corners; fs: its flips; q: the round's result
pub record Round (p : Pair) (es : List Entry) (d : Pair) (f : ℕ → ℕ) (fs : List Entry) (q : Pair) : Type 0 where
  -- a round is a list of collapses,
  pub collapses-only : Only 2 es
  -- all accepted by a history begun from the lists that the round meets, whose last pair is the round's list after dropping;
  pub collapses-accepted : (room : ℕ) → length es ≤ room → Accepted room p es d
  -- then a renumbering, one to one on the corners in use;
  pub one-to-one : OneToOne f d.tris
  -- then a list of flips,
  pub flips_only : Only 1 fs
  -- all accepted by a second history, whose last pair is the round's result
  pub flips-accepted : (room : ℕ) → length fs ≤ room → Accepted room (numbered f d) fs q
  -- every list on the way is closed, with a label for each triangle,
  pub closed-dropped : Closed d.tris
  pub closed-numbered : Closed (numbered f d).tris
  pub closed : Closed q.tris
  pub labelled : length q.labels ≡ length q.tris
  -- two triangles go with each collapse,
  pub triangles : length q.tris + 2 * length es ≡ length p.tris
  -- no corner number passes a bound that held before, and Euler's number is unchanged
  pub below : (n : ℕ) → Below n p.tris → Below n q.tris
  pub euler : (n : ℕ) → Below n p.tris → SameEuler n p.tris q.tris

-- one round after another
pub data Rounds : Pair → Pair → Type 0 where
  no_more : {p : Pair} → Rounds p p
  one_more : {p d q r : Pair} {es fs : List Entry} {f : ℕ → ℕ} → Round p es d f fs q → Rounds q r → Rounds p r

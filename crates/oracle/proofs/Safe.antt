-- Theorem (ii): every round is safe, whatever the floats decide; and so are all rounds, one after another.
use Prim.Native.Nat.{ℕ, zero, suc, ◌+◌, ◌*◌, ◌<◌}
use mathlib.Core.Path.{◌≡◌, refl, sym, ◌∙◌, ap, subst}
use mathlib.Core.Logic.{◌↔◌}
use mathlib.Core.Bool.{true}
use mathlib.Core.List.{List, [], ◌∷◌, map}
use native.Mathlib.Omega.{arith}
use lib.ListN.{length, get_or}
use lib.Ieee.{Float}
use Rattle.surface.specs.Closed.{InUse, Closed}
use Rattle.surface.proofs.Formula.{same-euler}
use Rattle.history.specs.History.{Pair, Entry}
use Rattle.rounds.specs.Renumber.{index, first_use, number}
use Rattle.rounds.specs.Pass.{result}
use Rattle.rounds.specs.Choices as choices
use Rattle.rounds.specs.Choices.{Decision, collapse_start, collapses_of}
use Rattle.rounds.specs.Round.{Round}
use Rattle.rounds.proofs.FirstUse.{index_get, in_first}
use Rattle.rounds.proofs.Rounds.{round_of, round_of_corners}
use Rattle.oracle.specs.Scene.{Scene, point_at}
use Rattle.oracle.specs.Rising.{rising}
use Rattle.oracle.specs.Candidates.{candidates}
use Rattle.oracle.specs.Slivers.{better}
use Rattle.oracle.specs.Points.{gathered}
use Rattle.oracle.specs.Gains.{helps}
use Rattle.oracle.specs.Round.{Mesh, Sheet, seen, count, dropped, numbered, flipped, flips, round, rounds}
use Rattle.oracle.specs.Safe.{collapse_entries, middle, flip_entries, Safe, after, AtMost, SafeAfter}
use Rattle.oracle.proofs.Passes.{allows, pass-is, collapses-is}
use Rattle.oracle.proofs.Labels.{round-labels, round-apart, retain-most}

-- the points of a list of corners
gathered-length : (ps : List Float) (vs : List ℕ) → length (gathered ps vs) ≡ length vs * 3
unfolding gathered
gathered-length ps [] = refl
gathered-length ps (v ∷ vs) = omega (arith, gathered-length ps vs)

pub gathered-at : (ps : List Float) (vs : List ℕ) (i : ℕ) → i < length vs → point_at (gathered ps vs) i ≡ point_at ps (get_or vs i 0)
unfolding gathered
gathered-at ps [] i l = absurd (omega arith)
gathered-at ps (v ∷ vs) zero l = refl
gathered-at ps (v ∷ vs) (suc i) l =
    let x : suc i * 3 ≡ suc (suc (suc (i * 3))) = omega arith in
    let y : suc i * 3 + 1 ≡ suc (suc (suc (i * 3 + 1))) = omega arith in
    let z : suc i * 3 + 2 ≡ suc (suc (suc (i * 3 + 2))) = omega arith in
    rw (y, z, x) (gathered-at ps vs i (omega arith))

-- a round as crate rounds has it, with the decisions that the floats make
module _ (f : Sheet) (m : Mesh) where
  abbrev s : Scene
  s = seen f m.points

  abbrev p : Pair
  p = m.pair

  abbrev ds : List Decision
  ds = map (better s p) (candidates s p (count m))

  abbrev d : Pair
  d = choices.dropped p (allows s p) ds

  dropped-is : dropped true f m ≡ d
  unfolding dropped
  dropped-is = ap (result p) (pass-is s p (collapse_start p) (candidates s p (count m)))

  entries_are : collapse_entries f m ≡ collapses_of p (allows s p) (collapse_start p) ds
  entries_are = collapses-is s p (collapse_start p) (candidates s p (count m))

  -- the round from the pair that is left by the collapses
  abbrev Then : List Entry → Pair → Type 0
  Then es x = let n = numbered m.points x in Round p es x (number x.tris) (flip_entries f n) (flipped f n)

  module _ (c : Closed m.pair.tris) (l : length m.pair.labels ≡ length m.pair.tris) where
    edits : Then (collapse_entries f m) (dropped true f m)
    unfolding flipped numbered
    edits = subst (λ (es : List Entry). Then es (dropped true f m)) (sym entries_are)
        (subst (λ (x : Pair). Then (collapses_of p (allows s p) (collapse_start p) ds) x) (sym dropped-is)
        (let n = numbered m.points d in round_of p c l (allows s p) ds (helps (seen f n.points) n.pair) (rising n.pair.tris (count n))))

    corners : (w : ℕ) → InUse (flipped f (middle f m)).tris w ↔ (w < length (first_use (dropped true f m).tris))
    unfolding flipped numbered
    corners w = subst (λ (x : Pair). InUse (flipped f (numbered m.points x)).tris w ↔ (w < length (first_use x.tris))) (sym dropped-is)
        (let n = numbered m.points d in round_of_corners p c l (allows s p) ds (helps (seen f n.points) n.pair) (rising n.pair.tris (count n)) w)

    counts : count (round true f m).mesh ≡ length (first_use (dropped true f m).tris)
    unfolding round numbered
    counts = omega (arith, gathered-length m.points (first_use (dropped true f m).tris))

    pub safe : Safe f m
    unfolding round flips numbered number
    safe = record {
      edits = edits;
      flips = refl;
      points = λ x i. let k = in_first (dropped true f m).tris x i in
          gathered-at m.points (first_use (dropped true f m).tris) (index (first_use (dropped true f m).tris) x) k
          ∙ ap (point_at m.points) (index_get (first_use (dropped true f m).tris) x k);
      labels = round-labels (record { closed = c; labelled = l }) edits;
      whole = gathered-length m.points (first_use (dropped true f m).tris) ∙ ap (λ (k : ℕ). k * 3) (sym counts);
      used = λ w. subst (λ (k : ℕ). InUse (flipped f (middle f m)).tris w ↔ (w < k)) (sym counts) (corners w);
    }

-- the labels of a round are some of those before it
round-most : (f : Sheet) (m : Mesh) (most : ℕ) → AtMost most m.pair.labels → AtMost most (round true f m).mesh.pair.labels
unfolding round flipped numbered dropped
round-most f m most h = retain-most most _ m.pair.labels h

-- n + 1 rounds are n rounds and then one
made : (f : Sheet) (n : ℕ) (m : Mesh) → after f (suc n) m ≡ (round true f (after f n m)).mesh
unfolding rounds
made f zero m = refl
made f (suc n) m = made f n (round true f m).mesh

counted : (f : Sheet) (n : ℕ) (m : Mesh) → (rounds true f (suc n) m).flips ≡ (rounds true f n m).flips + (round true f (after f n m)).flips
unfolding rounds
counted f zero m = omega arith
counted f (suc n) m = omega (arith, counted f n (round true f m).mesh)

pub safe-after : (f : Sheet) (n : ℕ) (m : Mesh) → Closed m.pair.tris → length m.pair.labels ≡ length m.pair.tris → SafeAfter f m n
unfolding rounds
safe-after f zero m c l = record {
  closed = c;
  labelled = l;
  known = λ most h. h;
  unopposed = λ i j h. h;
  euler = λ k b. (b, refl);
  next = safe f m c l;
  made = made f 0 m;
  counted = counted f 0 m;
}
safe-after f (suc n) m c l =
    let e = (safe f m c l).edits in
    let r = (round true f m).mesh in
    let a = safe-after f n r e.closed e.labelled in
    record {
      closed = a.closed;
      labelled = a.labelled;
      known = λ most h. a.known most (round-most f m most h);
      unopposed = λ i j h. a.unopposed i j (round-apart (record { closed = c; labelled = l }) e i j h);
      euler = λ k b. let x = a.euler k (e.below k b) in (x.0, x.1 ∙ same-euler k m.pair.tris r.pair.tris (e.euler k b));
      next = a.next;
      made = made f (suc n) m;
      counted = counted f (suc n) m;
    }

-- One round of the Rust is the round of crate oracle without the skip: the collapse pass, the renumbering and the flip loop, put together.
use Prim.Native.Nat.{ℕ, ◌+◌, ◌*◌}
use mathlib.Core.Path.{◌≡◌, refl, sym, ◌∙◌, ap, ap₂, subst}
use mathlib.Core.Bool.{Bool, true, false, cond}
use mathlib.Core.List.{List, [], ◌∷◌, ◌++◌}
use native.Mathlib.Omega.{arith}
use lib.Dec.{leb, ltb}
use lib.ListN.{length, get_or}
use lib.Ieee.{Float, nan}
use Rattle.surface.specs.Triangle.{Tri, corners}
use Rattle.surface.specs.Closed.{Closed}
use Rattle.surface.specs.Check.{every}
use Rattle.surface.specs.Euler.{Below}
use Rattle.surface.proofs.Bools.{both, join}
use Rattle.history.specs.History.{Pair}
use Rattle.rounds.specs.Pass.{retain, result}
use Rattle.surface.specs.Renumber.{renumbered}
use Rattle.rounds.specs.Renumber.{index, number, first_use, meet, met}
use Rattle.rounds.specs.Choices.{Side, collapse_start, flip_start}
use Rattle.rounds.proofs.Elements.{first-triangles}
use Rattle.rounds.proofs.FirstUse.{first_below}
use Rattle.oracle.specs.Candidates.{candidates}
use Rattle.oracle.specs.Points.{gathered}
use Rattle.oracle.specs.Slivers.{pass}
use Rattle.oracle.specs.Round.{Mesh, Sheet, Result, seen, count, dropped, numbered, flipped, flips, round}
use Rattle.oracle.specs.Spared.{Spared}
use Rattle.oracle.proofs.Safe.{safe}
use Rattle.oracle.proofs.Spared.{same-dropped}
use Rattle.original.specs.Collapse as slivers
use Rattle.original.specs.Flip.{Loop, loop, Outcome, done, then, flipping}
use Rattle.original.specs.Round as text
use Rattle.original.proofs.Masks.{Few}
use Rattle.original.proofs.Rising.{keys-rising}
use Rattle.original.proofs.Pass.{collapse-pass}
use Rattle.original.proofs.Candidates.{candidates_are, candidates-upward}
use Rattle.original.proofs.FlipLoop.{flip-loop}

-- a mesh that a round is shown for: closed, a label to each triangle and none past 7, a point to each corner
pub record Fine (m : Mesh) : Type 0 where
  pub closed : Closed m.pair.tris
  pub labelled : length m.pair.labels ≡ length m.pair.tris
  pub few : Few m.pair.labels
  pub below : Below (count m) m.pair.tris

-- `collapse_slivers` up to the renumbering
pub dropped-is : (f : Sheet) (m : Mesh) → Fine m → text.dropped f m ≡ dropped false f m
unfolding text.dropped dropped
dropped-is f m a =
    let s = seen f m.points in
    ap (λ (ds : List Side). result m.pair (slivers.pass s m.pair (collapse_start m.pair) ds)) (candidates_are s m.pair a.closed a.labelled (count m) a.below)
    ∙ ap (result m.pair) (collapse-pass s m.pair a.closed a.labelled a.few (candidates s m.pair (count m)) (candidates-upward s m.pair (count m)))

-- its renumbering
gathered-append : (ps : List Float) (l m : List ℕ) → gathered ps (l ++ m) ≡ gathered ps l ++ gathered ps m
unfolding gathered
gathered-append ps [] m = refl
gathered-append ps (v ∷ l) m = ap (λ (k : List Float). get_or ps (v * 3) nan ∷ get_or ps (v * 3 + 1) nan ∷ get_or ps (v * 3 + 2) nan ∷ k) (gathered-append ps l m)

pushed-is : (ps : List Float) (old vs : List ℕ) → text.pushed ps old (gathered ps old) vs ≡ gathered ps (met old vs)
unfolding text.pushed met meet
pushed-is ps old [] = refl
pushed-is ps old (v ∷ vs) = pick (ltb (index old v) (length old)) (pushed-is ps old vs) (pushed-is ps (old ++ (v ∷ [])) vs)
  where
    pick : (k : Bool) → text.pushed ps old (gathered ps old) vs ≡ gathered ps (met old vs) → text.pushed ps (old ++ (v ∷ [])) (gathered ps (old ++ (v ∷ []))) vs ≡ gathered ps (met (old ++ (v ∷ [])) vs)
        → cond k (text.pushed ps old (gathered ps old) vs) (text.pushed ps (old ++ (v ∷ [])) (gathered ps old ++ gathered ps (v ∷ [])) vs) ≡ gathered ps (met (cond k old (old ++ (v ∷ []))) vs)
    pick true e f = e
    pick false e f = ap (λ (x : List Float). text.pushed ps (old ++ (v ∷ [])) x vs) (sym (gathered-append ps old (v ∷ []))) ∙ f

pub numbered_is : (ps : List Float) (d : Pair) → text.numbered ps d ≡ numbered ps d
unfolding text.numbered numbered first_use gathered
numbered_is ps d = ap₂ (λ (xs : List Float) (ts : List Tri). record { points = xs; pair = record { tris = ts; labels = d.labels } }) (pushed-is ps [] (corners d.tris)) (first-triangles d.tris)

-- the flip loop
pub flipped-is : (f : Sheet) (m : Mesh) → Closed m.pair.tris → Below (count m) m.pair.tris
    → then (text.flipped f m) (λ (l : Loop). done (text.ended m l)) ≡ done (record { mesh = record { points = m.points; pair = flipped f m }; flips = flips f m })
unfolding text.flipped then flipped flips
flipped-is f m c b =
    ap (λ (all : List Side). then (flipping (seen f m.points) m.pair all (loop (flip_start m.pair) 0) all) (λ (l : Loop). done (text.ended m l))) (keys-rising c (count m) b)
    ∙ ap (λ (o : Outcome Loop). then o (λ (l : Loop). done (text.ended m l))) (flip-loop (seen f m.points) m.pair c (count m) b)

-- three coordinates to a corner
pub gathered-length : (ps : List Float) (vs : List ℕ) → length (gathered ps vs) ≡ length vs * 3
unfolding gathered
gathered-length ps [] = refl
gathered-length ps (v ∷ vs) = omega (arith, gathered-length ps vs)

numbered_below : (ps : List Float) (d : Pair) → Below (count (numbered ps d)) (numbered ps d).pair.tris
unfolding numbered
numbered_below ps d w i =
    let l = first_below d.tris w i in
    omega (arith, gathered-length ps (first_use d.tris))

-- the round, if the list between the passes is closed
pub round_is : (f : Sheet) (m : Mesh) → Fine m → Closed (numbered m.points (dropped false f m)).pair.tris → text.round f m ≡ done (round false f m)
unfolding text.round round
round_is f m a k =
    ap after (ap (text.numbered m.points) (dropped-is f m a) ∙ numbered_is m.points (dropped false f m))
    ∙ flipped-is f (numbered m.points (dropped false f m)) k (numbered_below m.points (dropped false f m))
  where
    after : Mesh → Outcome Result
    after n = then (text.flipped f n) (λ (x : Loop). done (text.ended n x))

-- that it is, unless a side of a piece of four corners was collapsed
pub spared_round : (f : Sheet) (m : Mesh) → Fine m → Spared f m → text.round f m ≡ done (round false f m)
unfolding numbered
spared_round f m a o = round_is f m a (closed-middle (safe f m a.closed a.labelled).edits.closed-numbered)
  where
    closed-middle : Closed (renumbered (number (dropped true f m).tris) (dropped true f m).tris) → Closed (numbered m.points (dropped false f m)).pair.tris
    closed-middle k = subst (λ (d : Pair). Closed (renumbered (number d.tris) d.tris)) (same-dropped f m a.closed o) k

-- what a round leaves is such a mesh again
few-retain : (gs : List Bool) (ls : List ℕ) → Few ls → Few (retain gs ls)
unfolding retain every
few-retain [] ls f = f
few-retain (g ∷ gs) [] f = refl
few-retain (g ∷ gs) (l ∷ ls) f = let w = both (leb l 7) (every (λ (l : ℕ). leb l 7) ls) f in pick g w.0 (few-retain gs ls w.1)
  where
    pick : (g : Bool) → leb l 7 ≡ true → Few (retain gs ls) → Few (cond g (retain gs ls) (l ∷ retain gs ls))
    pick true e r = r
    pick false e r = join (leb l 7) (every (λ (l : ℕ). leb l 7) (retain gs ls)) e r

few-after : (f : Sheet) (m : Mesh) → Few m.pair.labels → Few (round true f m).mesh.pair.labels
unfolding round flipped numbered dropped
few-after f m a = few-retain _ m.pair.labels a

pub fine-after : (f : Sheet) (m : Mesh) → Fine m → Fine (round true f m).mesh
fine-after f m a = let w = safe f m a.closed a.labelled in record {
  closed = w.edits.closed;
  labelled = w.edits.labelled;
  few = few-after f m a.few;
  below = λ v i. (w.used v).0 i;
}

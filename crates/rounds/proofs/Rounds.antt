-- R5: a round.
use Prim.Native.Nat.{ℕ, suc, ◌+◌, ◌<◌}
use mathlib.Core.Path.{◌≡◌, refl, sym, ◌∙◌, ap}
use mathlib.Core.Logic.{◌↔◌}
use mathlib.Core.Bool.{Bool, true}
use mathlib.Core.List.{List, [], ◌∷◌, ◌++◌}
use native.Mathlib.Omega.{arith}
use lib.ListN.{length, length-map}
use Rattle.surface.specs.Triangle.{Tri}
use Rattle.surface.specs.Closed.{InUse, Closed}
use Rattle.surface.specs.Euler.{used, Below, SameEuler}
use Rattle.surface.proofs.Laws.{closed-edges}
use Rattle.surface.proofs.Bools.{join, both}
use Rattle.surface.specs.Check.{every}
use Rattle.history.specs.History.{Pair, Entry}
use Rattle.rounds.specs.Pass.{State, Reached, begun, collapsed, collapse_entry, result}
use Rattle.rounds.specs.Flips.{FlipState, FlipReached, flips-begun, flipped, flip_entry, flip_result}
use Rattle.surface.specs.Renumber.{renumber, renumbered}
use Rattle.rounds.specs.Renumber.{OneToOne, first_use, number}
use Rattle.rounds.specs.Choices.{Decision, Side, collapse_start, collapse_pass, collapses_of, flip_start, flip_pass, flips_of, dropped, by_first_use, flipped_all, Plan, rounded, improved}
use Rattle.rounds.specs.Round.{Only, numbered, Round, Rounds, no_more, one_more}
use Rattle.rounds.proofs.Collapses.{retain-length, fits-length, Kept, kept}
use Rattle.rounds.proofs.FlipPass.{flips-kept}
use Rattle.rounds.proofs.Stays.{Stays}
use Rattle.rounds.proofs.Renumbered.{closed-number}
use Rattle.rounds.proofs.Counting.{euler-number}
use Rattle.rounds.proofs.FirstUse.{first_one, first_below, first-fewer, first-all}
use Rattle.rounds.proofs.EulerSteps.{euler_refl, euler_trans}
use Rattle.rounds.proofs.Choices.{pass-reached, flips-reached}

all_more : (f : Entry → Bool) (es : List Entry) (e : Entry) → every f es ≡ true → f e ≡ true → every f (es ++ (e ∷ [])) ≡ true
unfolding every
all_more f [] e p q = join (f e) true q refl
all_more f (d ∷ es) e p q = let m = both (f d) (every f es) p in join (f d) (every f (es ++ (e ∷ []))) m.0 (all_more f es e m.1 q)

only-collapses : {p : Pair} {s : State} {es : List Entry} → Reached p s es → Only 2 es
unfolding every
only-collapses (begun e f) = refl
only-collapses (collapsed {es = es} x y r k a) = all_more _ es (collapse_entry x y) (only-collapses r) refl

only-flips : {p : Pair} {s : FlipState} {es : List Entry} → FlipReached p s es → Only 1 es
unfolding every
only-flips (flips-begun e) = refl
only-flips (flipped {es = es} x y r k a) = all_more _ es (flip_entry x y) (only-flips r) refl

stays-length : {u : ℕ → Bool} {ts fs : List Tri} → Stays u ts fs → length fs ≡ length ts
stays-length Stays.end = refl
stays-length (Stays.same p h) = ap suc (stays-length h)
stays-length (Stays.other n h) = ap suc (stays-length h)

-- for any renumbering that is one to one on the corners in use and passes no bound
module _ (p : Pair) (c : Closed p.tris) (l : length p.labels ≡ length p.tris) {s : State} {es : List Entry} (r : Reached p s es) where
  i : Kept (length es) p s es
  i = kept p c l r (length es) (omega arith)

  dropped-labels : length (result p s).labels ≡ length (result p s).tris
  dropped-labels = retain-length s.gone p.labels s.tris (l ∙ sym (fits-length i.fits))

  pub any-round : (f : ℕ → ℕ) → OneToOne f (result p s).tris → ((n : ℕ) → Below n p.tris → Below n (renumbered f (result p s).tris))
      → {t : FlipState} {fs : List Entry} → FlipReached (numbered f (result p s)) t fs → Round p es (result p s) f fs (flip_result (numbered f (result p s)) t)
  any-round f one b {t} {fs} q =
      let d = result p s in
      let cn = closed-number f d.tris one i.closed in
      let j = flips-kept (numbered f d) cn q (length fs) (omega arith) in
      record {
        collapses-only = only-collapses r;
        collapses-accepted = λ room m. (kept p c l r room m).accepted;
        one-to-one = one;
        flips_only = only-flips q;
        flips-accepted = λ room m. (flips-kept (numbered f d) cn q room m).accepted;
        closed-dropped = i.closed;
        closed-numbered = cn;
        closed = j.closed;
        labelled = omega (arith, dropped-labels, stays-length j.stays, length-map d.tris (renumber f));
        triangles = omega (arith, i.fewer, stays-length j.stays, length-map d.tris (renumber f));
        below = λ n k. j.below n (b n k);
        euler = λ n k. euler_trans n p.tris d.tris t.tris (i.euler n k)
            (euler_trans n d.tris (renumbered f d.tris) t.tris (euler-number f d.tris one i.closed n (i.below n k) (b n k)) (j.euler n (b n k)));
      }

  -- the renumbering by first use
  pub round : {t : FlipState} {fs : List Entry} → FlipReached (by_first_use (result p s)) t fs
      → Round p es (result p s) (number (result p s).tris) fs (flip_result (by_first_use (result p s)) t)
  round q = any-round (number (result p s).tris) (first_one (result p s).tris) within q
    where
      within : (n : ℕ) → Below n p.tris → Below n (renumbered (number (result p s).tris) (result p s).tris)
      within n k v u = omega (arith, first_below (result p s).tris v u, first-fewer (result p s).tris n (i.below n k))

  -- after it the corners in use are the numbers below their count
  pub round-corners : {t : FlipState} {fs : List Entry} → FlipReached (by_first_use (result p s)) t fs → (w : ℕ) → InUse t.tris w ↔ (w < length (first_use (result p s).tris))
  round-corners {t} {fs} q w =
      let d = (result p s).tris in
      let n = closed-number (number d) d (first_one d) i.closed in
      let j = flips-kept (by_first_use (result p s)) n q (length fs) (omega arith) in
      ((λ u. first_below d w ((j.uses w).0 u)), λ l. (j.uses w).1 (first-all d w l))

-- one corner goes with each collapse of a round, and no other
pub round-used : {p d q : Pair} {es fs : List Entry} {f : ℕ → ℕ} → Closed p.tris → Round p es d f fs q → (n : ℕ) → Below n p.tris → used n q.tris + length es ≡ used n p.tris
round-used c r n b = omega (arith, r.triangles, r.euler n b, closed-edges c n b, closed-edges r.closed n (r.below n b))

-- the round as a function of what is decided: whatever `choose` and `pick` say, of whatever sides
module _ (p : Pair) (c : Closed p.tris) (l : length p.labels ≡ length p.tris) (choose : State → Decision → Bool) (ds : List Decision) (pick : FlipState → Side → Bool) (ss : List Side) where
  abbrev d : Pair
  d = dropped p choose ds

  reached : Reached p (collapse_pass p choose (collapse_start p) ds) (collapses_of p choose (collapse_start p) ds)
  reached = pass-reached p c choose ds (collapse_start p) [] (begun refl refl)

  flips-reached-from : FlipReached (by_first_use d) (flip_pass (by_first_use d) pick (flip_start (by_first_use d)) ss) (flips_of (by_first_use d) pick (flip_start (by_first_use d)) ss)
  flips-reached-from =
      let k = kept p c l reached (length (collapses_of p choose (collapse_start p) ds)) (omega arith) in
      let n = closed-number (number d.tris) d.tris (first_one d.tris) k.closed in
      flips-reached (by_first_use d) n pick ss (flip_start (by_first_use d)) [] (flips-begun refl)

  pub round_of : Round p (collapses_of p choose (collapse_start p) ds) d (number d.tris) (flips_of (by_first_use d) pick (flip_start (by_first_use d)) ss) (flipped_all (by_first_use d) pick ss)
  round_of = round p c l reached flips-reached-from

  pub round_of_corners : (w : ℕ) → InUse (flipped_all (by_first_use d) pick ss).tris w ↔ (w < length (first_use d.tris))
  round_of_corners = round-corners p c l reached flips-reached-from

-- rounds one after another
pub rounds-keep : {p q : Pair} → Rounds p q → Closed p.tris → length p.labels ≡ length p.tris → (Closed q.tris) × (length q.labels ≡ length q.tris)
rounds-keep no_more c l = (c, l)
rounds-keep (one_more r rs) c l = rounds-keep rs r.closed r.labelled

pub rounds-euler : {p q : Pair} → Rounds p q → (n : ℕ) → Below n p.tris → (Below n q.tris) × SameEuler n p.tris q.tris
rounds-euler {p} no_more n b = (b, euler_refl n p.tris)
rounds-euler {p} (one_more {q = q} {r = r} k rs) n b =
    let m = rounds-euler rs n (k.below n b) in
    (m.0, euler_trans n p.tris q.tris r.tris (k.euler n b) m.1)

-- whatever is decided in each round
pub improved-rounds : (xs : List Plan) (p : Pair) → Closed p.tris → length p.labels ≡ length p.tris → Rounds p (improved xs p)
unfolding improved
improved-rounds [] p c l = no_more
improved-rounds (x ∷ xs) p c l =
    let r = round_of p c l x.choose x.candidates x.pick x.sides in
    one_more r (improved-rounds xs (rounded x p) r.closed r.labelled)

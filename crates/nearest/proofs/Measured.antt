-- The stages of an answered call put together: corners in use are chained, the best of each probe is found and kept, and shown at its place.
use Prim.Native.Nat.{ℕ, ◌*◌, ◌/◌, ◌≤◌, ◌<◌}
use mathlib.Core.Path.{◌≡◌, refl, sym, ap, ◌∙◌, subst}
use mathlib.Core.List.{List, ◌++◌}
use native.Mathlib.Omega.{arith}
use lib.IntN.{pos, nat_abs}
use lib.ListN.{length, get_or, take, drop, replicate, get_or-replicate}
use Rattle.std.proofs.Common.{length-take, get_or-take}
use lib.Ieee.{Float}
use Rattle.std.specs.Prelude.{Option, None, Some, IfSome}
use Rattle.surface.specs.Triangle.{triangles}
use Rattle.closing.specs.Closing.{Lent, Zeroed}
use Rattle.closing.specs.Locating.{Prepared}
use Rattle.closing.proofs.Whole.{zeroed-used}
use Rattle.rounding.specs.Fraction.{Is}
use Rattle.rounding.proofs.Rounded.{is-wholes}
use Rattle.units.specs.Units.{units_at}
use Rattle.nearest.specs.declared.Candidate.{Candidate}
use Rattle.nearest.specs.Nearest.{apart, used?, Best, nobody, found, best, nearest_to, corner_of, distance_of, places, answered}
use Rattle.nearest.specs.Call.{Askable}
use Rattle.nearest.specs.Stages.{has_head, best_of, BestKept, Laid, BestsKept, OnSquares, corner_shown, distance_shown, FilledIn, AllAnswered}
use Rattle.nearest.proofs.Best.{Outcome, one, outcome, best-same}
use Rattle.nearest.proofs.Use.{head-used}
use Rattle.nearest.proofs.Places.{places_same}
use Rattle.nearest.proofs.Exact.{apart-most}

-- what is shown of a best that is kept
shown : (b : Best) (o : Option Candidate) → BestKept b o → (corner_shown o ≡ corner_of b) × (distance_shown o ≡ distance_of b)
shown nobody None k = (refl, refl)
shown nobody (Some c) k = absurd k
shown (found v d) None k = absurd k
shown (found v d) (Some c) k = (k.named, ap nat_abs (is-wholes k.far))

module _ (points : List Float) (corners work : List ℕ) (probes : List Float) (words : ℕ) (l : Lent corners (length points / 3) work) (a : Askable points probes words) (work' : List ℕ)
    (ready : Prepared corners (length points / 3) work work') where
  pub laid : Laid points work' probes (replicate 64 None)
  laid = record { whole-points = a.whole-points; whole_probes = a.whole_probes; words = omega (arith, ready.ready.sized.room); places = a.few }

  -- before the first corner
  pub nothing-found : BestsKept points work' probes 0 (replicate 64 None)
  unfolding best
  nothing-found i h = let few = a.few in subst (BestKept nobody) (sym (get_or-replicate 64 i None None (omega arith))) tt

  -- after the last
  module _ (bests : List (Option Candidate)) (k : BestsKept points work' probes (length points / 3) bests) where
    abbrev found_for : ℕ → Best
    found_for i = best_of points work' probes i (length points / 3)

    abbrev distance_from : ℕ → ℕ → ℕ
    distance_from i v = apart (units_at points v) (units_at probes i)

    found-is : (i : ℕ) → Outcome (has_head work') (distance_from i) (length points / 3) (found_for i)
    found-is i = outcome (has_head work') (distance_from i) (length points / 3)

    pub all_whole : (i : ℕ) → i < length probes / 3 → IfSome (get_or bests i None) (λ (c : Candidate). OnSquares c.distance)
    all_whole i h = go (found_for i) (get_or bests i None) (k i h) (found-is i)
      where
        go : (b : Best) (o : Option Candidate) → BestKept b o → Outcome (has_head work') (distance_from i) (length points / 3) b → IfSome o (λ (c : Candidate). OnSquares c.distance)
        go nobody None q o = tt
        go nobody (Some c) q o = absurd q
        go (found v d) None q o = absurd q
        go (found v d) (Some c) q (one o) =
            let m = apart-most points probes a.whole-points a.whole_probes v i o.below h in
            let e = ap nat_abs (is-wholes q.far) in
            record { whole = subst (λ (n : ℕ). Is c.distance (pos n) 1048576) (sym e) q.far; range = subst (λ (n : ℕ). n ≤ 17179869184) (sym e) (omega (arith, o.is)) }

    -- the front of the list, the places of the probes
    abbrev front : List (Option Candidate)
    front = take (length probes / 3) bests

    module _ (enough : length probes / 3 ≤ length bests) where
      front-long : length front ≡ length probes / 3
      front-long = omega (arith, length-take (length probes / 3) bests)

      front-at : (i : ℕ) → i < length probes / 3 → get_or front i None ≡ get_or bests i None
      front-at i h = get_or-take (length probes / 3) bests i None h

      pub front-room : 2 * (length probes / 3) ≤ words → 2 * length front ≤ words
      front-room r = omega (arith, front-long)

      pub front-whole : (i : ℕ) → i < length front → IfSome (get_or front i None) (λ (c : Candidate). OnSquares c.distance)
      front-whole i h =
          let l : i < length probes / 3 = omega (arith, front-long) in
          subst (λ (o : Option Candidate). IfSome o (λ (c : Candidate). OnSquares c.distance)) (sym (front-at i l)) (all_whole i l)

    -- the corners with a head are those in use
    same-best : (i : ℕ) → found_for i ≡ nearest_to points corners (units_at probes i)
    same-best i = best-same (has_head work') (used? (triangles corners)) (distance_from i) (length points / 3) (head-used corners l.thirds (length points / 3) work' ready.ready.linked)

    pub put_together : (work'' answers answers' : List ℕ) → length probes / 3 ≤ length bests → FilledIn (length front) front answers answers' → Zeroed corners (length points / 3) work' work'' → AllAnswered points corners work work'' probes answers answers'
    unfolding answered
    put_together work'' answers answers' enough f z = record {
      places =
          f
          ∙ ap (λ (n : ℕ). places (λ (i : ℕ). corner_shown (get_or front i None)) (λ (i : ℕ). distance_shown (get_or front i None)) n ++ drop (2 * n) answers) (front-long enough)
          ∙ ap (λ (x : List ℕ). x ++ drop (2 * (length probes / 3)) answers)
          (places_same (λ (i : ℕ). corner_shown (get_or front i None)) (λ (i : ℕ). corner_of (nearest_to points corners (units_at probes i))) (λ (i : ℕ). distance_shown (get_or front i None)) (λ (i : ℕ). distance_of (nearest_to points corners (units_at probes i))) (length probes / 3)
          (λ i h. ap corner_shown (front-at enough i h) ∙ (shown (found_for i) (get_or bests i None) (k i h)).0 ∙ ap corner_of (same-best i)) (λ i h. ap distance_shown (front-at enough i h) ∙ (shown (found_for i) (get_or bests i None) (k i h)).1 ∙ ap distance_of (same-best i)));
      words = zeroed-used corners (length points / 3) work work' work'' l.thirds ready.far z;
    }

-- Every loop closes, and how many places, crossed sides and loops there are; with the two theorems on the request and that on the order of the triangles these are the laws of the outlines.
use Prim.Native.Nat.{ℕ, zero, suc, ◌+◌, ◌≤◌, ◌<◌}
use mathlib.Core.Path.{◌≡◌, refl, ◌∙◌, ap, subst}
use mathlib.Core.Bool.{Bool, true}
use mathlib.Core.List.{List, [], ◌∷◌, ◌++◌, map}
use native.Mathlib.Omega.{arith}
use lib.ListN.{length, length-append, length-map}
use Rattle.surface.specs.Triangle.{Tri}
use Rattle.surface.specs.Closed.{one, Closed}
use Rattle.surface.specs.Edit.{place}
use Rattle.surface.proofs.Hinged.{runs_reads}
use Rattle.surface.proofs.Bridge.{closed_surface_lem}
use Rattle.outlines.specs.Side.{Side, same?, tally, times_in, Each, strike_all}
use Rattle.outlines.specs.Crossing.{crossed?, crossed_triangle?, crossings}
use Rattle.outlines.specs.Outline.{Loop, Place, loop_from, loops_of, numbered_loops, loops, outlines}
use Rattle.outlines.specs.Request.{sides_of, neighbours_from, neighbours, joins?, Shared, Directed, Outlines}
use Rattle.outlines.specs.Laws.{Closes, AllClose, OutlineLaws}
use Rattle.outlines.proofs.Lists.{each-front, each_back, tally-append}
use Rattle.outlines.proofs.Sides.{In, in_first}
use Rattle.outlines.proofs.Crossings.{not_beq}
use Rattle.outlines.proofs.Laws.{loops_looped, outlines-request}
use Rattle.outlines.proofs.Written.{place_of}
use Rattle.outlines.proofs.Few.{sides-few}
use Rattle.outlines.proofs.Unique.{read-crossed, joined, joins-back, loops-only, outlines-only}
use Rattle.outlines.proofs.Relisting.{outlines-relisted}

-- ---- every loop closes

module _ (above : ℕ → Bool) (ts : List Tri) where
  -- what the request says of some of its loops: of the last ones it holds, too
  record Asked (ls : List Loop) : Type 0 where
    once : (s : Side) → times_in s (sides_of ls) ≤ 1
    crossed : (s : Side) → In s (sides_of ls) → crossed? above s ≡ true
    shared : Each (Shared ts) (neighbours ls)
    joined_once : (i : ℕ) → i < length ts → crossed_triangle? above (place ts i) ≡ true → tally (joins? (place ts i)) (neighbours ls) ≤ 1
    directed : Each (Directed ts) ls

  -- a side is not next to itself, and of two sides the triangle that leads from the first to the second would lead back as well
  three-sides : (s : Side) (w : List Side) → crossed? above s ≡ true → Directed ts (record { start = s; rest = w })
      → ((i : ℕ) → i < length ts → crossed_triangle? above (place ts i) ≡ true → tally (joins? (place ts i)) (neighbours_from s s w) ≤ 1) → 3 ≤ length (s ∷ w)
  unfolding neighbours_from tally
  three-sides s [] k d m = absurd ((joined (place ts d.0) s s d.3).differ refl)
  three-sides s (t ∷ []) k d m =
      let p = place ts d.0 in
      let r = runs_reads p s.low s.high d.2 in
      let c = read-crossed above p r.1 refl (not_beq (above s.low) (above s.high) k) in
      absurd (omega (arith, m d.0 d.1 c, ap one d.3, ap one (joins-back p s t d.3)))
  three-sides s (t ∷ u ∷ w) k d m = omega arith

  module _ (k : Loop) (ls : List Loop) (h : Asked (k ∷ ls)) where
    parted : (s : Side) → times_in s (sides_of (k ∷ ls)) ≡ times_in s (k.start ∷ k.rest) + times_in s (sides_of ls)
    unfolding sides_of tally
    parted s = omega (arith, tally-append (same? s) k.rest (sides_of ls))

    joins_parted : (t : Tri) → tally (joins? t) (neighbours (k ∷ ls)) ≡ tally (joins? t) (neighbours_from k.start k.start k.rest) + tally (joins? t) (neighbours ls)
    unfolding neighbours
    joins_parted t = tally-append (joins? t) (neighbours_from k.start k.start k.rest) (neighbours ls)

    start_in_lem : In k.start (sides_of (k ∷ ls))
    unfolding sides_of
    start_in_lem = in_first k.start (k.rest ++ sides_of ls)

    first_closes : Closes ts k
    unfolding Each neighbours
    first_closes = record {
      led = each-front (Shared ts) (neighbours_from k.start k.start k.rest) (neighbours ls) h.shared;
      polygon = three-sides k.start k.rest (h.crossed k.start start_in_lem) h.directed.0 (λ i b x. omega (arith, h.joined_once i b x, joins_parted (place ts i)));
      once = λ s. omega (arith, h.once s, parted s);
    }

    others : Asked ls
    unfolding Each neighbours
    others = record {
      once = λ s. omega (arith, h.once s, parted s);
      crossed = λ s i. h.crossed s (omega (arith, parted s));
      shared = each_back (Shared ts) (neighbours_from k.start k.start k.rest) (neighbours ls) h.shared;
      joined_once = λ i b x. omega (arith, h.joined_once i b x, joins_parted (place ts i));
      directed = h.directed.1;
    }

  all-close : (ls : List Loop) → Asked ls → Each (Closes ts) ls
  unfolding Each
  all-close [] h = tt
  all-close (k ∷ ls) h = (first_closes k ls h, all-close ls (others k ls h))

  -- the loops of whatever has the sentences of the request close
  pub request_closes : (places : List Place) (o : Outlines above ts places) → Each (Closes ts) o.loops
  request_closes places o = all-close o.loops (record {
    once = λ s. once s (times_in s (sides_of o.loops)) refl;
    crossed = λ s h. (o.no_other s h).crossed;
    shared = o.shared;
    joined_once = λ i b k. omega (arith, o.joined i b k);
    directed = o.direction;
  })
    where
      once : (s : Side) (n : ℕ) → times_in s (sides_of o.loops) ≡ n → times_in s (sides_of o.loops) ≤ 1
      once s zero e = omega arith
      once s (suc n) e = omega (arith, o.each s (o.no_other s (omega arith)))

pub outlines-close : (above : ℕ → Bool) (ts : List Tri) → Closed ts → AllClose above ts (loops above ts)
outlines-close above ts c =
    let o = outlines-request above ts c in
    subst (AllClose above ts) (loops-only above ts c (outlines above ts) o) (record { every-loop = request_closes above ts (outlines above ts) o; each-side = o.each })

-- ---- how many

pub loops-fewer : (above : ℕ → Bool) (ts : List Tri) → length (loops above ts) ≤ length (crossings above ts)
unfolding loops_of
loops-fewer above ts = at_most (length (crossings above ts)) (crossings above ts)
  where
    at_most : (n : ℕ) (l : List Side) → length (loops_of above ts n l) ≤ n
    at_most zero l = omega arith
    at_most (suc n) [] = omega arith
    at_most (suc n) (s ∷ l) = omega (arith, at_most n (strike_all (loop_from above ts (length l) s).rest l))

-- a place for each side of a loop
places-long : (k : ℕ) (ls : List Loop) → length (numbered_loops k ls) ≡ length (sides_of ls)
unfolding numbered_loops sides_of
places-long k [] = refl
places-long k (l ∷ ls) =
    omega (arith, length-append (map (place_of k) l.rest) (numbered_loops (suc k) ls), length-map l.rest (place_of k), length-append l.rest (sides_of ls), places-long (suc k) ls)

-- ---- the laws

pub outline-laws : (above : ℕ → Bool) (ts : List Tri) → Closed ts → OutlineLaws above ts
outline-laws above ts c =
    let o = outlines-request above ts c in
    let long = (loops_looped above ts (closed_surface_lem c)).long in
    record {
      all = o;
      only = outlines-only above ts c;
      close = outlines-close above ts c;
      filled = places-long 0 (loops above ts) ∙ long;
      few = omega (arith, sides-few above ts (outlines above ts) o, ap (λ (ls : List Loop). length (sides_of ls)) (loops-only above ts c (outlines above ts) o), long);
      fewer = loops-fewer above ts;
      relisted = λ us r. outlines-relisted above r c;
    }

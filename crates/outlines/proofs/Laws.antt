-- The list that `outlines` computes has all that the request says, on every closed list of triangles and for every plane that meets no corner.
use Prim.Native.Nat.{ℕ}
use mathlib.Core.Path.{◌≡◌, refl, ◌∙◌, ap, subst}
use mathlib.Core.Logic.{◌⊎◌, inl, inr}
use mathlib.Core.Bool.{Bool, true}
use mathlib.Core.List.{List}
use native.Mathlib.Omega.{arith}
use lib.ListN.{length}
use Rattle.surface.specs.Triangle.{Tri}
use Rattle.surface.specs.Closed.{Closed}
use Rattle.surface.specs.Edit.{place}
use Rattle.surface.proofs.Reading.{Reads}
use Rattle.surface.proofs.Surface.{Surface}
use Rattle.surface.proofs.Bridge.{closed_surface_lem}
use Rattle.surface.proofs.Places.{place-has, has-place}
use Rattle.surface.proofs.Hinged.{has_either}
use Rattle.outlines.specs.Side.{Side, side_of, times_in}
use Rattle.outlines.specs.Crossing.{crossed?, crossings}
use Rattle.outlines.specs.Outline.{outlines, loops}
use Rattle.outlines.specs.Request.{CrossedSide, Outlines}
use Rattle.outlines.proofs.Sides.{side_path, In, rises-once}
use Rattle.outlines.proofs.Crossings.{side_swap, crossings_rise, crossings-whole, crossings-sound, at-found, permutes}
use Rattle.outlines.proofs.Joins.{entry, has_side, reads_side}
use Rattle.outlines.proofs.Loops.{Left, Looped, entry_at, looped}

module _ (above : ℕ → Bool) (ts : List Tri) (c : Surface ts) where
  -- the list of crossed sides has exactly the crossed sides
  pub crossed_in : (s : Side) → CrossedSide above ts s → In s (crossings above ts)
  crossed_in s k = go (has_either (place ts k.is-side.0) s.low s.high k.is-side.2)
    where
      found : {x y z : ℕ} → Reads (place ts k.is-side.0) x y z → side_of x y ≡ s → In s (crossings above ts)
      found {x} {y} r e = subst (λ (t : Side). In t (crossings above ts)) e (crossings-whole above ts (place-has ts k.is-side.0 k.is-side.1 r) (ap (crossed? above) e ∙ k.crossed))

      is : side_of s.low s.high ≡ s
      is = side_path (omega (arith, k.order)) (omega (arith, k.order))

      go : ((z : ℕ) × Reads (place ts k.is-side.0) s.low s.high z) ⊎ ((z : ℕ) × Reads (place ts k.is-side.0) s.high s.low z) → In s (crossings above ts)
      go (inl r) = found r.1 is
      go (inr r) = found r.1 (side_swap s.high s.low ∙ is)

  pub in_crossed : (s : Side) → In s (crossings above ts) → CrossedSide above ts s
  in_crossed s h =
      let f = crossings-sound above ts s h in
      let p = has-place ts f.has in
      let n = c.differ f.x f.y f.z f.has in
      let low = ap (λ (t : Side). t.low) f.is in
      let high = ap (λ (t : Side). t.high) f.is in
      record {
        order = omega arith;
        is-side = (p.at, p.fits, ap (has_side (place ts p.at)) f.is ∙ reads_side p.reads);
        crossed = f.crossed;
      }

  pub once_in : (s : Side) → In s (crossings above ts) → times_in s (crossings above ts) ≡ 1
  once_in s h = omega (arith, rises-once (crossings above ts) (crossings_rise above ts) s)

  -- before the first loop all crossed sides are left
  pub all_left : Left above ts c (crossings above ts)
  all_left = record { crossed = λ s h. h; rises = crossings_rise above ts; permuted = permutes above ts c true }

  pub loops_looped : Looped above ts c (crossings above ts) (loops above ts)
  loops_looped = looped above ts c (length (crossings above ts)) (crossings above ts) (omega arith) all_left

  surface_request : Outlines above ts (outlines above ts)
  surface_request =
      let o = loops_looped in
      record {
        loops = loops above ts;
        written = refl;
        each = λ s k. o.counts s ∙ once_in s (crossed_in s k);
        no_other = λ s h. in_crossed s (omega (arith, o.counts s));
        shared = o.shared;
        joined = λ i b k. o.joined i b (entry above (place ts i) k) (entry above (place ts i) k true)
            ∙ once_in _ (at-found above ts c true _ (entry_at above ts c i b (entry above (place ts i) k true)));
        smallest = o.smallest;
        direction = o.direction;
        by-start = o.by-start;
      }

pub outlines-request : (above : ℕ → Bool) (ts : List Tri) → Closed ts → Outlines above ts (outlines above ts)
outlines-request above ts c = surface_request above ts (closed_surface_lem c)

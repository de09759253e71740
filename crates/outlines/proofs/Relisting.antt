-- Neither the order of the triangles nor where each turn begins matters: the crossed sides and the outlines are the same. Lists that are alike have the same sides with the same corners opposite to them, and the loops ask for nothing else.
use Prim.Native.Nat.{ℕ, zero, suc, ◌<◌}
use mathlib.Core.Path.{◌≡◌, refl, sym, ◌∙◌, ap, subst}
use mathlib.Core.Bool.{Bool, true, false, not}
use mathlib.Core.List.{List, [], ◌∷◌}
use native.Mathlib.Omega.{arith}
use native.Mathlib.Decide.{dec_lt}
use lib.ListN.{length}
use Rattle.surface.specs.Triangle.{Tri, runs}
use Rattle.surface.specs.Closed.{sides, Closed}
use Rattle.surface.specs.PageTwelve.{Relisted}
use Rattle.surface.proofs.Surface.{Surface, Alike, alike_sym, next_of}
use Rattle.surface.proofs.Hinged.{runs_yes}
use Rattle.surface.proofs.Bridge.{closed_surface_lem}
use Rattle.surface.proofs.PageTwelve.{relisted-alike}
use Rattle.outlines.specs.Side.{Side, strike_all}
use Rattle.outlines.specs.Crossing.{crossed?, crossings, apex_of, end_of, next_crossed}
use Rattle.outlines.specs.Outline.{Loop, loop_from, loops_of, numbered_loops, outlines, loops}
use Rattle.outlines.proofs.Sides.{In, rises-only}
use Rattle.outlines.proofs.Crossings.{apex_has, crossings_rise, crossings-whole, crossings-sound}

-- ---- the crossed sides

crossed-alike : (above : ℕ → Bool) {ts us : List Tri} → Alike ts us → (s : Side) → In s (crossings above ts) → In s (crossings above us)
crossed-alike above {ts} {us} k s h =
    let f = crossings-sound above ts s h in
    let w = crossings-whole above us (k.ahead f.x f.y f.z f.has) (ap (crossed? above) (sym f.is) ∙ f.crossed) in
    subst (λ (r : Side). In r (crossings above us)) (sym f.is) w

pub crossings-relisted : (above : ℕ → Bool) {ts us : List Tri} → Relisted ts us → crossings above us ≡ crossings above ts
crossings-relisted above {ts} {us} r =
    let k = relisted-alike r in
    rises-only (crossings above us) (crossings above ts) (crossings_rise above us) (crossings_rise above ts) (crossed-alike above (alike_sym k)) (crossed-alike above k)

-- ---- the corner opposite to a side

no_apex : (ts : List Tri) (x y : ℕ) → sides ts x y ≡ 0 → apex_of ts x y ≡ 0
unfolding apex_of sides
no_apex [] x y e = refl
no_apex (t ∷ ts) x y e = go (runs t x y) refl (no_apex ts x y (omega arith))
  where
    go : (p : Bool) → runs t x y ≡ p → apex_of ts x y ≡ 0 → apex_of (t ∷ ts) x y ≡ 0
    go true f i = absurd (omega (arith, runs_yes t x y f))
    go false f i = rw (f, apex_of) i

module _ (above : ℕ → Bool) {ts us : List Tri} (k : Alike ts us) (c : Surface ts) where
  apex_alike : (x y : ℕ) → apex_of us x y ≡ apex_of ts x y
  apex_alike x y = go (dec_lt 0 (sides ts x y))
    where
      go : Dec (0 < sides ts x y) → apex_of us x y ≡ apex_of ts x y
      go (yes p) = next_of c (k.back x y (apex_of us x y) (apex_has us x y (omega (arith, k.count x y)))) (apex_has ts x y p)
      go (no n) = no_apex us x y (omega (arith, k.count x y)) ∙ sym (no_apex ts x y (omega arith))

  -- ---- the loops

  next-alike : (up : Bool) (s : Side) → next_crossed above us up s ≡ next_crossed above ts up s
  unfolding next_crossed
  next-alike up s = rw (apex_alike (end_of above up s) (end_of above (not up) s)) refl

  loop-alike : (n : ℕ) (s : Side) → loop_from above us n s ≡ loop_from above ts n s
  unfolding loop_from
  loop-alike n s =
      let e : next_crossed above us (above s.low) ≡ next_crossed above ts (above s.low) = λ i t. next-alike (above s.low) t i in
      rw (next-alike (above s.low) s, e) refl

  loops-alike : (n : ℕ) (l : List Side) → loops_of above us n l ≡ loops_of above ts n l
  unfolding loops_of
  loops-alike zero l = refl
  loops-alike (suc n) [] = refl
  loops-alike (suc n) (s ∷ l) =
      let first = loop_from above ts (length l) s in
      ap (λ (f : Loop). f ∷ loops_of above us n (strike_all f.rest l)) (loop-alike (length l) s) ∙ ap (λ (m : List Loop). first ∷ m) (loops-alike n (strike_all first.rest l))

pub loops-relisted : (above : ℕ → Bool) {ts us : List Tri} → Relisted ts us → Closed ts → loops above us ≡ loops above ts
loops-relisted above {ts} {us} r c =
    let l = crossings above ts in
    ap (λ (m : List Side). loops_of above us (length m) m) (crossings-relisted above r) ∙ loops-alike above (relisted-alike r) (closed_surface_lem c) (length l) l

pub outlines-relisted : (above : ℕ → Bool) {ts us : List Tri} → Relisted ts us → Closed ts → outlines above us ≡ outlines above ts
outlines-relisted above r c = ap (numbered_loops 0) (loops-relisted above r c)

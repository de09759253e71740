-- Theorem (i): where the original collapses no side of a piece of just four corners, our rounds are the original's.
use Prim.Native.Nat.{ℕ, ◌+◌, ◌<◌}
use mathlib.Core.Path.{◌≡◌, refl, sym, ◌∙◌, ap, subst}
use mathlib.Core.Logic.{◌⊎◌, inl, inr}
use mathlib.Core.Bool.{Bool, true, false, not, ◌&&◌, cond, false≢true}
use mathlib.Core.List.{List, [], ◌∷◌, Memᴰ}
use native.Mathlib.Omega.{arith}
use lib.ListN.{length}
use Rattle.surface.specs.Triangle.{Tri}
use Rattle.surface.specs.Closed.{sides, Closed}
use Rattle.surface.specs.Edit.{Hinge, hinge}
use Rattle.surface.proofs.Bools.{both, join}
use Rattle.surface.proofs.Reading.{spin, has-side, side-has}
use Rattle.surface.proofs.Bridge.{closed_surface_lem}
use Rattle.surface.proofs.Edits.{Filled, one_way, other_way}
use Rattle.history.specs.History.{Pair, covered, exists}
use Rattle.rounds.specs.Pass.{State, result}
use Rattle.rounds.specs.Choices.{Side, Decision, common, filled, collapse_step, collapse_start}
use Rattle.rounds.proofs.Choices.{exists-side, filled_is, filled_swap}
use Rattle.rounds.proofs.Exact.{filled-has, hinge-apart}
use Rattle.oracle.specs.Scene.{Scene}
use Rattle.oracle.specs.Candidates.{candidates}
use Rattle.oracle.specs.Slivers.{valid, better, tetrahedron, accepts, pass, collapses}
use Rattle.oracle.specs.Round.{Mesh, Sheet, Result, seen, count, dropped, numbered, flipped, flips, round, rounds}
use Rattle.oracle.specs.Spared.{Four, originals, Spared, SparedRounds, begun, further}
use Rattle.oracle.proofs.Thirds.{with_c, with_d, third-corner}
use Rattle.oracle.proofs.Safe.{safe}

module _ (s : Scene) (p : Pair) where
  -- the test that is skipped or not
  same-accepts : (st : State) (d : Decision) → tetrahedron p d.keep d.remove ≡ false → accepts true s p st d ≡ accepts false s p st d
  unfolding accepts
  same-accepts st d e = rw e refl

  fewer-accepts : (st : State) (d : Decision) → accepts false s p st d ≡ false → accepts true s p st d ≡ false
  unfolding accepts
  fewer-accepts st d e = pick (tetrahedron p d.keep d.remove) refl
    where
      pick : (k : Bool) → tetrahedron p d.keep d.remove ≡ k → accepts true s p st d ≡ false
      pick true f =
          let h = hinge p.tris d.keep d.remove in
          rw f (five (not (st.touched d.keep)) (not (st.touched d.remove)) (exists p d.keep d.remove) (common p.tris d.keep d.remove h.c h.d) (valid s p.tris p.labels d.keep d.remove))
        where
          five : (u v w x y : Bool) → ((u && (v && (w && (x && false)))) && y) ≡ false
          five true true true true y = refl
          five true true true false y = refl
          five true true false x y = refl
          five true false w x y = refl
          five false v w x y = refl
      pick false f = same-accepts st d f ∙ e

  -- no collapse of the list is one of a piece of just four corners
  abbrev Off : List Decision → Type 0
  Off ms = (x : Decision) → Memᴰ x ms → tetrahedron p x.keep x.remove ≡ false

  same-pass : (st : State) (ds : List Side) → Off (collapses false s p st ds) → pass true s p st ds ≡ pass false s p st ds
  unfolding pass collapses
  same-pass st [] o = refl
  same-pass st (d ∷ ds) o = pick (better s p d) (accepts false s p st (better s p d)) refl (λ t. same-pass t ds) o
    where
      pick : (m : Decision) (k : Bool) → accepts false s p st m ≡ k
          → ((t : State) → Off (collapses false s p t ds) → pass true s p t ds ≡ pass false s p t ds)
          → Off (cond (accepts false s p st m) (m ∷ collapses false s p (collapse_step p st m.keep m.remove) ds) (collapses false s p st ds))
          → pass true s p (cond (accepts true s p st m) (collapse_step p st m.keep m.remove) st) ds ≡ pass false s p (cond (accepts false s p st m) (collapse_step p st m.keep m.remove) st) ds
      pick m true e f o =
          let n = rw e at o in
          rw (same-accepts st m (n m (Memᴰ.head refl)), e) (f _ (λ x i. n x (Memᴰ.tail i)))
      pick m false e f o = rw (fewer-accepts st m e, e) (f st (rw e at o))

  -- every collapse is of a side that is there
  there-is : (st : State) (d : Decision) → accepts false s p st d ≡ true → exists p d.keep d.remove ≡ true
  unfolding accepts
  there-is st d e =
      let h = hinge p.tris d.keep d.remove in
      middle (not (st.touched d.keep)) (not (st.touched d.remove)) (exists p d.keep d.remove) (common p.tris d.keep d.remove h.c h.d && (true && covered p d.keep d.remove))
      (valid s p.tris p.labels d.keep d.remove) e
    where
      middle : (u v w x y : Bool) → ((u && (v && (w && x))) && y) ≡ true → w ≡ true
      middle true true true x y e = refl
      middle true true false x y e = absurd (false≢true e)
      middle true false w x y e = absurd (false≢true e)
      middle false v w x y e = absurd (false≢true e)

  all_there : (st : State) (ds : List Side) (x : Decision) → Memᴰ x (collapses false s p st ds) → exists p x.keep x.remove ≡ true
  unfolding collapses
  all_there st (d ∷ ds) x i = pick (better s p d) (accepts false s p st (better s p d)) refl (λ t. all_there t ds x) i
    where
      pick : (m : Decision) (k : Bool) → accepts false s p st m ≡ k → ((t : State) → Memᴰ x (collapses false s p t ds) → exists p x.keep x.remove ≡ true)
          → Memᴰ x (cond (accepts false s p st m) (m ∷ collapses false s p (collapse_step p st m.keep m.remove) ds) (collapses false s p st ds)) → exists p x.keep x.remove ≡ true
      pick m true e f i = first (rw e at i)
        where
          first : Memᴰ x (m ∷ collapses false s p (collapse_step p st m.keep m.remove) ds) → exists p x.keep x.remove ≡ true
          first (Memᴰ.head q) = subst (λ (y : Decision). exists p y.keep y.remove ≡ true) (sym q) (there-is st m e)
          first (Memᴰ.tail j) = f _ j
      pick m false e f i = f st (rw e at i)
  all_there st [] x i = elim i [ ]

-- the test finds just the sides of pieces of just four corners
module _ {ts : List Tri} (c : Closed ts) (a b : ℕ) (given : 0 < sides ts a b) where
  abbrev h : Hinge
  h = hinge ts a b

  ends-differ : a ≡ b → ⊥
  ends-differ q = let g = side-has ts a b given in (closed_surface_lem c).differ a b g.0 g.1 q

  four : filled ts a h.c h.d ≡ true → filled ts b h.c h.d ≡ true → Four ts a b h.c h.d
  four e f = let w = hinge-apart c a b given in record {
    ab = ends-differ;
    ac = w.ac;
    ad = w.ad;
    bc = w.bc;
    bd = w.bd;
    cd = w.cd;
    abc = filled_is (with_c c a b given);
    abd = filled_is (with_d c a b given);
    acd = e;
    bcd = f;
  }

  solid : {x y : ℕ} → Four ts a b x y → (filled ts a h.c h.d ≡ true) × (filled ts b h.c h.d ≡ true)
  solid {x} {y} q = pick (third-corner c a b given x (filled-has ts a b x q.ab q.bc (λ e. q.ac (sym e)) q.abc)) (third-corner c a b given y (filled-has ts a b y q.ab q.bd (λ e. q.ad (sym e)) q.abd))
    where
      pick : (x ≡ h.c) ⊎ (x ≡ h.d) → (y ≡ h.c) ⊎ (y ≡ h.d) → (filled ts a h.c h.d ≡ true) × (filled ts b h.c h.d ≡ true)
      pick (inl e) (inl g) = absurd (q.cd (e ∙ sym g))
      pick (inl e) (inr g) = rw (sym e, sym g) (q.acd, q.bcd)
      pick (inr e) (inl g) = rw (sym e, sym g) (filled_swap ts a y x ∙ q.acd, filled_swap ts b y x ∙ q.bcd)
      pick (inr e) (inr g) = absurd (q.cd (e ∙ sym g))

pub tetrahedron-four : (p : Pair) → Closed p.tris → (a b : ℕ) → 0 < sides p.tris a b → tetrahedron p a b ≡ true → Four p.tris a b (hinge p.tris a b).c (hinge p.tris a b).d
unfolding tetrahedron
tetrahedron-four p c a b g e = let w = both _ _ e in four c a b g w.0 w.1

pub four-tetrahedron : (p : Pair) → Closed p.tris → {a b c d : ℕ} → Four p.tris a b c d → tetrahedron p a b ≡ true
unfolding tetrahedron
four-tetrahedron p cl {a} {b} {c} {d} q = let w = solid cl a b (side (filled-has p.tris a b c q.ab q.bc (λ e. q.ac (sym e)) q.abc)) q in join _ _ w.0 w.1
  where
    side : Filled p.tris a b c → 0 < sides p.tris a b
    side (one_way t) = has-side t
    side (other_way t) = omega (arith, cl.paired.back b a (has-side (spin (spin t))))

module _ (f : Sheet) (m : Mesh) (c : Closed m.pair.tris) where
  spared_off : Spared f m → Off (seen f m.points) m.pair (originals f m)
  spared_off o x i = pick (tetrahedron m.pair x.keep x.remove) refl
    where
      pick : (k : Bool) → tetrahedron m.pair x.keep x.remove ≡ k → tetrahedron m.pair x.keep x.remove ≡ false
      pick true e =
          let g = exists-side m.pair c x.keep x.remove (all_there (seen f m.points) m.pair (collapse_start m.pair) (candidates (seen f m.points) m.pair (count m)) x i) in
          absurd (o x.keep x.remove _ _ i (tetrahedron-four m.pair c x.keep x.remove g e))
      pick false e = e

  -- the pair after the collapse pass is the same
  pub same-dropped : Spared f m → dropped true f m ≡ dropped false f m
  unfolding dropped
  same-dropped o = ap (result m.pair) (same-pass (seen f m.points) m.pair (collapse_start m.pair) (candidates (seen f m.points) m.pair (count m)) (spared_off o))

  pub same-round : Spared f m → round true f m ≡ round false f m
  unfolding round
  same-round o = ap after (same-dropped o)
    where
      after : Pair → Result
      after d = let n = numbered m.points d in record { mesh = record { points = n.points; pair = flipped f n }; flips = flips f n }

pub same-rounds : (f : Sheet) {n : ℕ} {m : Mesh} → Closed m.pair.tris → length m.pair.labels ≡ length m.pair.tris → SparedRounds f n m → rounds true f n m ≡ rounds false f n m
unfolding rounds
same-rounds f c l begun = refl
same-rounds f {m = m} c l (further {n = n} o d) =
    let e = same-round f m c o in
    let w = (safe f m c l).edits in
    let u = subst (λ (r : Result). Closed r.mesh.pair.tris) e w.closed in
    let v = subst (λ (r : Result). length r.mesh.pair.labels ≡ length r.mesh.pair.tris) e w.labelled in
    ap (λ (r : Result). with r (rounds true f n r.mesh)) e ∙ ap (with (round false f m)) (same-rounds f u v d)
  where
    with : Result → Result → Result
    with r s = record { mesh = s.mesh; flips = r.flips + s.flips }

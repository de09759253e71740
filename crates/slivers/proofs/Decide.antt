-- The tests by the words are those of the pass; and the state after a candidate.
use Prim.Native.Nat.{ℕ, ◌<◌}
use mathlib.Core.Path.{◌≡◌, refl, sym, ap, ap₂, ◌∙◌, subst}
use mathlib.Core.Logic.{◌⊎◌, inl, inr}
use mathlib.Core.Bool.{Bool, true, false, not, ◌&&◌, cond}
use mathlib.Core.List.{List, [], ◌∷◌, ◌++◌}
use lib.Dec.{eqb}
use lib.ListN.{length}
use lib.Ieee as Ieee
use borrow.Author.Tests.{eqb-true, eq-eqb}
use Rattle.surface.specs.Triangle.{Tri, triangles}
use Rattle.surface.specs.Closed.{sides, around, Closed}
use Rattle.surface.specs.Edit.{hinge}
use Rattle.surface.proofs.Bools.{both, join, true_false, not_true}
use Rattle.surface.proofs.Bridge.{closed_surface_lem}
use Rattle.surface.proofs.Edits.{Linked}
use Rattle.surface.proofs.Counts.{tetrahedron-ends}
use Rattle.history.specs.History.{Pair, covered}
use Rattle.rounds.specs.Pass.{State}
use Rattle.rounds.specs.Choices.{Side, Decision, common, may_collapse, collapse_step}
use Rattle.rounds.proofs.Exact.{may_collapse_iff, linked-by-count}
use Rattle.halfedges.specs.Place.{nx, at, uses}
use Rattle.sides.specs.Side.{Twin}
use Rattle.chains.specs.Common.{lone}
use Rattle.chains.proofs.Common.{same_test, Alone, common-alone, alone-common, lone-twin}
use Rattle.chains.proofs.Flat.{runs-side, around-uses}
use Rattle.chains.specs.Marks.{Lists}
use Rattle.chains.proofs.Marks.{below_next}
use Rattle.oracle.specs.Scene.{Scene}
use Rattle.oracle.specs.Rising.{side}
use Rattle.oracle.specs.Slivers.{worst, fit, deciding, better, tetrahedron, accepts, pass, valid}
use Rattle.slivers.specs.Touch.{is_touched}
use Rattle.slivers.specs.Stand.{pair_of, Stands}
use Rattle.slivers.specs.Decide.{step_of, way_of, attempted, keeping, may_at}
use Rattle.slivers.specs.declared.Collapse.{Collapse}
use Rattle.std.specs.Prelude.{Option, Some, None, Float}

pub pass-more : (skip : Bool) (s : Scene) (p : Pair) (st : State) (l : List Side) (d : Side) → pass skip s p st (l ++ (d ∷ [])) ≡ step_of skip s p (pass skip s p st l) d
unfolding pass
pass-more skip s p st [] d = refl
pass-more skip s p st (x ∷ l) d = pass-more skip s p (step_of skip s p st x) l d

abbrev pub chosen : {A : Type 0} → Option Collapse → (ℕ → ℕ → A) → A → A
chosen None f z = z
chosen (Some e) f z = f e.keep e.remove

-- either way keeps one end and removes the other
pub way-ends : (a b : ℕ) (e : Collapse) (u v : Option Float) → way_of (keeping a b) (keeping b a) u v ≡ Some e → ((e.keep ≡ a) × (e.remove ≡ b)) ⊎ ((e.keep ≡ b) × (e.remove ≡ a))
way-ends a b e u v q = go u v q
  where
    ends : (m : Collapse) → ◌≡◌ {A = Option Collapse} (Some m) (Some e) → (e.keep ≡ m.keep) × (e.remove ≡ m.remove)
    ends m f =
        let g : m ≡ e = cc in
        (sym (ap (λ (z : Collapse). z.keep) g), sym (ap (λ (z : Collapse). z.remove) g))

    pick : (t : Bool) → cond {A = Option Collapse} t (Some (keeping b a)) (Some (keeping a b)) ≡ Some e → ((e.keep ≡ a) × (e.remove ≡ b)) ⊎ ((e.keep ≡ b) × (e.remove ≡ a))
    pick true f = inr (ends (keeping b a) f)
    pick false f = inl (ends (keeping a b) f)

    go : (o p : Option Float) → way_of (keeping a b) (keeping b a) o p ≡ Some e → ((e.keep ≡ a) × (e.remove ≡ b)) ⊎ ((e.keep ≡ b) × (e.remove ≡ a))
    go (Some m) (Some n) f = pick (Ieee.lt m n) f
    go (Some m) None f = inl (ends (keeping a b) f)
    go None (Some n) f = inr (ends (keeping b a) f)
    go None None f = cc

lone_open : (c : List ℕ) (j : ℕ) → common (triangles c) (at c j) (at c (nx j)) (hinge (triangles c) (at c j) (at c (nx j))).c (hinge (triangles c) (at c j) (at c (nx j))).d ≡ lone c j
unfolding lone
lone_open c j = refl

-- accepts, as the laws of a round have it
pub accepts_may : (s : Scene) (p : Pair) (st : State) (a b : ℕ) → accepts true s p st (deciding a b) ≡ (may_collapse p st a b && valid s p.tris p.labels a b)
unfolding accepts may_collapse tetrahedron
accepts_may s p st a b = refl

not_on : (p : Bool) → p ≡ false → not p ≡ true
not_on p e = rw e refl

and_swap : (p q : Bool) → (p && q) ≡ (q && p)
and_swap true true = refl
and_swap true false = refl
and_swap false true = refl
and_swap false false = refl

module _ (c ls : List ℕ) (p touched : ℕ) (h : Lists c p) (cl : Closed (triangles c)) (k t : ℕ) (l : k < length c) (tw : Twin c k t) (n : ℕ) (w : List ℕ) (st : State) (g : Stands c n p touched w st) where
  ts : List Tri
  ts = triangles c

  a-low : at c k < p
  a-low = h.below k l

  b-low : at c (nx k) < p
  b-low = below_next h k l

  there : 0 < sides (triangles c) (at c k) (at c (nx k))
  there = runs-side c h.thirds k l

  back : 0 < sides (triangles c) (at c (nx k)) (at c k)
  back = subst (λ (x : ℕ). 0 < sides (triangles c) (at c (nx k)) x) tw.to (subst (λ (x : ℕ). 0 < sides (triangles c) x (at c (nx t))) tw.from (runs-side c h.thirds t tw.low))

  -- the two orders of the ends
  abbrev Ends : ℕ → ℕ → Type 0
  Ends x y = ((x ≡ at c k) × (y ≡ at c (nx k))) ⊎ ((x ≡ at c (nx k)) × (y ≡ at c k))

  module _ (x y : ℕ) (ends : ((x ≡ at c k) × (y ≡ at c (nx k))) ⊎ ((x ≡ at c (nx k)) × (y ≡ at c k))) where
    side-there : 0 < sides (triangles c) x y
    side-there = pick ends
      where
        pick : ((x ≡ at c k) × (y ≡ at c (nx k))) ⊎ ((x ≡ at c (nx k)) × (y ≡ at c k)) → 0 < sides (triangles c) x y
        pick (inl e) = subst (λ (u : ℕ). 0 < sides (triangles c) u y) (sym e.0) (subst (λ (u : ℕ). 0 < sides (triangles c) (at c k) u) (sym e.1) there)
        pick (inr e) = subst (λ (u : ℕ). 0 < sides (triangles c) u y) (sym e.0) (subst (λ (u : ℕ). 0 < sides (triangles c) (at c (nx k)) u) (sym e.1) back)

    lone_is : common (triangles c) x y (hinge (triangles c) x y).c (hinge (triangles c) x y).d ≡ lone c k
    lone_is = pick ends
      where
        here : (j : ℕ) → common (triangles c) (at c j) (at c (nx j)) (hinge (triangles c) (at c j) (at c (nx j))).c (hinge (triangles c) (at c j) (at c (nx j))).d ≡ lone c j
        here j = lone_open c j

        pick : ((x ≡ at c k) × (y ≡ at c (nx k))) ⊎ ((x ≡ at c (nx k)) × (y ≡ at c k)) → common (triangles c) x y (hinge (triangles c) x y).c (hinge (triangles c) x y).d ≡ lone c k
        pick (inl e) = ap₂ (λ (u v : ℕ). common (triangles c) u v (hinge (triangles c) u v).c (hinge (triangles c) u v).d) e.0 e.1 ∙ here k
        pick (inr e) = ap₂ (λ (u v : ℕ). common (triangles c) u v (hinge (triangles c) u v).c (hinge (triangles c) u v).d) (e.0 ∙ sym tw.from) (e.1 ∙ sym tw.to) ∙ here t ∙ lone-twin c h.thirds cl k t l tw

    three-is : (eqb (uses c (at c k) (length c)) 3 && eqb (uses c (at c (nx k)) (length c)) 3) ≡ (eqb (length (around (triangles c) x)) 3 && eqb (length (around (triangles c) y)) 3)
    three-is = ap₂ (λ (u v : ℕ). eqb u 3 && eqb v 3) (sym (around-uses c h.thirds (at c k))) (sym (around-uses c h.thirds (at c (nx k)))) ∙ pick ends
      where
        pick : ((x ≡ at c k) × (y ≡ at c (nx k))) ⊎ ((x ≡ at c (nx k)) × (y ≡ at c k)) → (eqb (length (around (triangles c) (at c k))) 3 && eqb (length (around (triangles c) (at c (nx k)))) 3) ≡ (eqb (length (around (triangles c) x)) 3 && eqb (length (around (triangles c) y)) 3)
        pick (inl e) = ap₂ (λ (u v : ℕ). eqb (length (around (triangles c) u)) 3 && eqb (length (around (triangles c) v)) 3) (sym e.0) (sym e.1)
        pick (inr e) = and_swap (eqb (length (around (triangles c) (at c k))) 3) (eqb (length (around (triangles c) (at c (nx k)))) 3) ∙ ap₂ (λ (u v : ℕ). eqb (length (around (triangles c) u)) 3 && eqb (length (around (triangles c) v)) 3) (sym e.0) (sym e.1)

    touched-is : (u : ℕ) → u < p → (is_touched w touched u ≡ false) → st.touched u ≡ false
    touched-is u m e = g.marks u m ∙ e

    pub may_is : may_collapse (pair_of c ls) st x y ≡ (may_at c w touched k && covered (pair_of c ls) x y)
    may_is = same_test (may_collapse (pair_of c ls) st x y) (may_at c w touched k && covered (pair_of c ls) x y) to from
      where
        free : st.touched x ≡ false → st.touched y ≡ false → (is_touched w touched (at c k) ≡ false) × (is_touched w touched (at c (nx k)) ≡ false)
        free u v = pick ends
          where
            pick : ((x ≡ at c k) × (y ≡ at c (nx k))) ⊎ ((x ≡ at c (nx k)) × (y ≡ at c k)) → (is_touched w touched (at c k) ≡ false) × (is_touched w touched (at c (nx k)) ≡ false)
            pick (inl e) = (sym (g.marks (at c k) a-low) ∙ ap st.touched (sym e.0) ∙ u, sym (g.marks (at c (nx k)) b-low) ∙ ap st.touched (sym e.1) ∙ v)
            pick (inr e) = (sym (g.marks (at c k) a-low) ∙ ap st.touched (sym e.1) ∙ v, sym (g.marks (at c (nx k)) b-low) ∙ ap st.touched (sym e.0) ∙ u)

        unfree : is_touched w touched (at c k) ≡ false → is_touched w touched (at c (nx k)) ≡ false → (st.touched x ≡ false) × (st.touched y ≡ false)
        unfree u v = pick ends
          where
            pick : ((x ≡ at c k) × (y ≡ at c (nx k))) ⊎ ((x ≡ at c (nx k)) × (y ≡ at c k)) → (st.touched x ≡ false) × (st.touched y ≡ false)
            pick (inl e) = (ap st.touched e.0 ∙ g.marks (at c k) a-low ∙ u, ap st.touched e.1 ∙ g.marks (at c (nx k)) b-low ∙ v)
            pick (inr e) = (ap st.touched e.0 ∙ g.marks (at c (nx k)) b-low ∙ v, ap st.touched e.1 ∙ g.marks (at c k) a-low ∙ u)

        to : may_collapse (pair_of c ls) st x y ≡ true → (may_at c w touched k && covered (pair_of c ls) x y) ≡ true
        to e =
            let m = (may_collapse_iff (pair_of c ls) cl st x y).0 e in
            let f = free m.free_a m.free_b in
            let alone : Alone (triangles c) x y (hinge (triangles c) x y).c (hinge (triangles c) x y).d = record { among = m.linked.common } in
            let lon : lone c k ≡ true = sym lone_is ∙ alone-common (closed_surface_lem cl) x y (hinge (triangles c) x y).c (hinge (triangles c) x y).d alone in
            let solid : (eqb (uses c (at c k) (length c)) 3 && eqb (uses c (at c (nx k)) (length c)) 3) ≡ false = three-is ∙ go (eqb (length (around (triangles c) x)) 3) refl (eqb (length (around (triangles c) y)) 3) refl m.linked in
            join (may_at c w touched k) (covered (pair_of c ls) x y) (join (not (is_touched w touched (at c k))) _ (not_on _ f.0) (join (not (is_touched w touched (at c (nx k)))) _ (not_on _ f.1) (join (lone c k) _ lon (not_on _ solid)))) m.labels
          where
            go : (u : Bool) → eqb (length (around (triangles c) x)) 3 ≡ u → (v : Bool) → eqb (length (around (triangles c) y)) 3 ≡ v → Linked (triangles c) x y (hinge (triangles c) x y).c (hinge (triangles c) x y).d → (eqb (length (around (triangles c) x)) 3 && eqb (length (around (triangles c) y)) 3) ≡ false
            go true q true r k =
                let e = tetrahedron-ends cl x y side-there in
                absurd (k.solid (e.at_a.1 (eqb-true (length (around (triangles c) x)) 3 q)) (e.at_b.1 (eqb-true (length (around (triangles c) y)) 3 r)))
            go true q false r k = ap₂ ◌&&◌ q r
            go false q v r k = ap (λ (z : Bool). z && eqb (length (around (triangles c) y)) 3) q

        from : (may_at c w touched k && covered (pair_of c ls) x y) ≡ true → may_collapse (pair_of c ls) st x y ≡ true
        from e =
            let e0 = both (may_at c w touched k) (covered (pair_of c ls) x y) e in
            let e1 = both (not (is_touched w touched (at c k))) _ e0.0 in
            let e2 = both (not (is_touched w touched (at c (nx k)))) _ e1.1 in
            let e3 = both (lone c k) _ e2.1 in
            let f = unfree (not_true _ e1.0) (not_true _ e2.0) in
            let al = common-alone (closed_surface_lem cl) x y (hinge (triangles c) x y).c (hinge (triangles c) x y).d (lone_is ∙ e3.0) in
            let three : (eqb (length (around (triangles c) x)) 3 && eqb (length (around (triangles c) y)) 3) ≡ false = sym three-is ∙ not_true _ e3.1 in
            (may_collapse_iff (pair_of c ls) cl st x y).1 (record {
              free_a = f.0;
              free_b = f.1;
              side = side-there;
              linked = linked-by-count cl x y side-there al.among (λ u v. true_false (join (eqb (length (around (triangles c) x)) 3) (eqb (length (around (triangles c) y)) 3) (eq-eqb (length (around (triangles c) x)) 3 u) (eq-eqb (length (around (triangles c) y)) 3 v)) three);
              labels = e0.1;
            })

    pub accepts-is : (s : Scene) → accepts true s (pair_of c ls) st (deciding x y) ≡ (may_at c w touched k && fit s (pair_of c ls) x y)
    unfolding fit
    accepts-is s = accepts_may s (pair_of c ls) st x y ∙ ap (λ (u : Bool). u && valid s (triangles c) ls x y) may_is ∙ group (may_at c w touched k) (covered (pair_of c ls) x y) (valid s (triangles c) ls x y)
      where
        group : (p q r : Bool) → ((p && q) && r) ≡ (p && (q && r))
        group true q r = refl
        group false q r = refl

  -- ---- the way of the collapse

  abbrev first : Scene → Bool
  first s = fit s (pair_of c ls) (at c k) (at c (nx k))

  abbrev second : Scene → Bool
  second s = fit s (pair_of c ls) (at c (nx k)) (at c k)

  abbrev less : Scene → Bool
  less s = Ieee.lt (worst s (pair_of c ls) (at c k) (at c (nx k))) (worst s (pair_of c ls) (at c (nx k)) (at c k))

  module _ (s : Scene) where
    step_is : (q : Bool) → (first s && not (second s && less s)) ≡ q → step_of true s (pair_of c ls) st (side (at c k) (at c (nx k))) ≡ cond q (cond (may_at c w touched k && first s) (collapse_step (pair_of c ls) st (at c k) (at c (nx k))) st) (cond (may_at c w touched k && second s) (collapse_step (pair_of c ls) st (at c (nx k)) (at c k)) st)
    unfolding better
    step_is true e =
        ap (λ (m : Decision). cond (accepts true s (pair_of c ls) st m) (collapse_step (pair_of c ls) st m.keep m.remove) st) (ap (λ (b : Bool). cond b (deciding (at c k) (at c (nx k))) (deciding (at c (nx k)) (at c k))) e)
        ∙ ap (λ (b : Bool). cond b (collapse_step (pair_of c ls) st (at c k) (at c (nx k))) st) (accepts-is (at c k) (at c (nx k)) (inl (refl, refl)) s)
    step_is false e =
        ap (λ (m : Decision). cond (accepts true s (pair_of c ls) st m) (collapse_step (pair_of c ls) st m.keep m.remove) st) (ap (λ (b : Bool). cond b (deciding (at c k) (at c (nx k))) (deciding (at c (nx k)) (at c k))) e)
        ∙ ap (λ (b : Bool). cond b (collapse_step (pair_of c ls) st (at c (nx k)) (at c k)) st) (accepts-is (at c (nx k)) (at c k) (inr (refl, refl)) s)

    pub step-off : may_at c w touched k ≡ false → step_of true s (pair_of c ls) st (side (at c k) (at c (nx k))) ≡ st
    step-off e = go (first s && not (second s && less s)) refl
      where
        go : (q : Bool) → (first s && not (second s && less s)) ≡ q → step_of true s (pair_of c ls) st (side (at c k) (at c (nx k))) ≡ st
        go true f = step_is true f ∙ ap (λ (b : Bool). cond (b && first s) (collapse_step (pair_of c ls) st (at c k) (at c (nx k))) st) e
        go false f = step_is false f ∙ ap (λ (b : Bool). cond (b && second s) (collapse_step (pair_of c ls) st (at c (nx k)) (at c k)) st) e

    step-by : (x y z : Bool) → first s ≡ x → second s ≡ y → less s ≡ z → may_at c w touched k ≡ true
        → step_of true s (pair_of c ls) st (side (at c k) (at c (nx k))) ≡ chosen (cond x (cond y (cond z (Some (keeping (at c (nx k)) (at c k))) (Some (keeping (at c k) (at c (nx k))))) (Some (keeping (at c k) (at c (nx k))))) (cond y (Some (keeping (at c (nx k)) (at c k))) None)) (collapse_step (pair_of c ls) st) st
    step-by true true true ex ey ez e =
        step_is false (ap₂ (λ (u v : Bool). u && not (v && less s)) ex ey ∙ ap not ez) ∙ ap₂ (λ (u v : Bool). cond (u && v) (collapse_step (pair_of c ls) st (at c (nx k)) (at c k)) st) e ey
    step-by true true false ex ey ez e =
        step_is true (ap₂ (λ (u v : Bool). u && not (v && less s)) ex ey ∙ ap not ez) ∙ ap₂ (λ (u v : Bool). cond (u && v) (collapse_step (pair_of c ls) st (at c k) (at c (nx k))) st) e ex
    step-by true false z ex ey ez e =
        step_is true (ap₂ (λ (u v : Bool). u && not (v && less s)) ex ey) ∙ ap₂ (λ (u v : Bool). cond (u && v) (collapse_step (pair_of c ls) st (at c k) (at c (nx k))) st) e ex
    step-by false true z ex ey ez e =
        step_is false (ap (λ (u : Bool). u && not (second s && less s)) ex) ∙ ap₂ (λ (u v : Bool). cond (u && v) (collapse_step (pair_of c ls) st (at c (nx k)) (at c k)) st) e ey
    step-by false false z ex ey ez e =
        step_is false (ap (λ (u : Bool). u && not (second s && less s)) ex) ∙ ap₂ (λ (u v : Bool). cond (u && v) (collapse_step (pair_of c ls) st (at c (nx k)) (at c k)) st) e ey

    pub step-way : may_at c w touched k ≡ true
        → step_of true s (pair_of c ls) st (side (at c k) (at c (nx k))) ≡ chosen (way_of (keeping (at c k) (at c (nx k))) (keeping (at c (nx k)) (at c k)) (attempted s (pair_of c ls) (at c k) (at c (nx k))) (attempted s (pair_of c ls) (at c (nx k)) (at c k))) (collapse_step (pair_of c ls) st) st
    step-way e = step-by (first s) (second s) (less s) refl refl refl e ∙ ap (λ (o : Option Collapse). chosen o (collapse_step (pair_of c ls) st) st) (sym (by-tests (first s) (second s)))
      where
        by-tests : (x y : Bool) → way_of (keeping (at c k) (at c (nx k))) (keeping (at c (nx k)) (at c k)) (cond x (Some (worst s (pair_of c ls) (at c k) (at c (nx k)))) None) (cond y (Some (worst s (pair_of c ls) (at c (nx k)) (at c k))) None)
            ≡ cond x (cond y (cond (less s) (Some (keeping (at c (nx k)) (at c k))) (Some (keeping (at c k) (at c (nx k))))) (Some (keeping (at c k) (at c (nx k))))) (cond y (Some (keeping (at c (nx k)) (at c k))) None)
        by-tests true true = refl
        by-tests true false = refl
        by-tests false true = refl
        by-tests false false = refl

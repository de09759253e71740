-- The labels over a round: those that stay are labels from before, and no corner gains one. What the histories of a round accept keeps the labels of each corner, and the renumbering takes them along.
use Prim.Native.Nat.{ℕ, zero, suc, ◌≤◌}
use mathlib.Core.Path.{◌≡◌, refl, sym, ◌∙◌, ap, subst}
use mathlib.Core.Logic.{◌⊎◌, inl, inr}
use mathlib.Core.Bool.{Bool, true, false, ◌&&◌, cond}
use mathlib.Core.List.{List, [], ◌∷◌}
use native.Mathlib.Omega.{arith}
use lib.Dec.{eqb}
use lib.ListN.{length, length-map}
use lib.Seq.{take_all}
use borrow.Author.Tests.{eqb-true}
use Rattle.surface.specs.Triangle.{Tri}
use Rattle.surface.specs.Closed.{InUse}
use Rattle.surface.specs.Edit.{place}
use Rattle.surface.specs.Label.{carries}
use Rattle.surface.specs.Renumber.{renumber}
use Rattle.surface.proofs.Bools.{both, join, or_cases, true_false}
use Rattle.surface.proofs.Reading.{r0, r1, r2}
use Rattle.surface.proofs.Places.{place-has}
use Rattle.surface.proofs.Bridge.{in_use}
use Rattle.surface.proofs.Labels.{Carried, carried}
use Rattle.history.specs.History.{Pair, Entry, last, begun, after}
use Rattle.history.specs.Safe.{Sound}
use Rattle.history.proofs.Run.{Kept}
use Rattle.history.proofs.Safe.{reached-kept}
use Rattle.rounds.specs.Pass.{retain}
use Rattle.rounds.specs.Accepted.{Accepted}
use Rattle.rounds.specs.Round.{numbered, Round}
use Rattle.rounds.proofs.Renumbered.{carries-number, use_origin}
use Rattle.oracle.specs.Safe.{AtMost, Apart}

refl_le : (n : ℕ) → n ≤ n
refl_le n = omega arith

-- a corner that carries a label is in use
carried_used : (ts : List Tri) (ls : List ℕ) (v l : ℕ) → carries ts ls v l ≡ true → InUse ts v
carried_used ts ls v l e = pick (or_cases (eqb (place ts k.at).a v) (eqb (place ts k.at).b v) (eqb (place ts k.at).c v) k.names)
  where
    k : Carried ts ls v l
    k = carried ts ls v l e

    pick : (eqb (place ts k.at).a v ≡ true) ⊎ ((eqb (place ts k.at).b v ≡ true) ⊎ (eqb (place ts k.at).c v ≡ true)) → InUse ts v
    pick (inl q) = subst (λ (x : ℕ). InUse ts x) (eqb-true (place ts k.at).a v q) (in_use (place-has ts k.at k.fits (r0 refl refl refl)))
    pick (inr (inl q)) = subst (λ (x : ℕ). InUse ts x) (eqb-true (place ts k.at).b v q) (in_use (place-has ts k.at k.fits (r1 refl refl refl)))
    pick (inr (inr q)) = subst (λ (x : ℕ). InUse ts x) (eqb-true (place ts k.at).c v q) (in_use (place-has ts k.at k.fits (r2 refl refl refl)))

accepted-kept : {room : ℕ} {p q : Pair} {es : List Entry} → Sound p → Accepted room p es q → Kept p q
accepted-kept {room} {p} {q} {es} s a =
    subst (λ (r : Pair). Kept p r) a.last
    (subst (λ (xs : List Entry). Kept p (last (after room (begun p) xs))) (take_all (length es) es (refl_le _)) (reached-kept room p s es (length es)))

-- a round of a pair with a label to each triangle
module _ {p d q : Pair} {es fs : List Entry} {g : ℕ → ℕ} (s : Sound p) (r : Round p es d g fs q) where
  pub dropped-kept : Kept p d
  dropped-kept = accepted-kept s (r.collapses-accepted (length es) (refl_le _))

  flipped-kept : Kept (numbered g d) q
  flipped-kept = accepted-kept (record { closed = r.closed-numbered; labelled = dropped-kept.sound.labelled ∙ sym (length-map d.tris (renumber g)) }) (r.flips-accepted (length fs) (refl_le _))

  pub round-labels : (x : ℕ) → InUse d.tris x → (l : ℕ) → carries q.tris q.labels (g x) l ≡ true → carries p.tris p.labels x l ≡ true
  round-labels x i l e = dropped-kept.labels x l (sym (carries-number g d.tris r.one-to-one d.labels x i l) ∙ flipped-kept.labels (g x) l e)

  pub round-apart : (k l : ℕ) → Apart k l p → Apart k l q
  round-apart k l h w = test (carries q.tris q.labels w k && carries q.tris q.labels w l) refl
    where
      test : (b : Bool) → (carries q.tris q.labels w k && carries q.tris q.labels w l) ≡ b → (carries q.tris q.labels w k && carries q.tris q.labels w l) ≡ false
      test true e = absurd (true_false (join (carries p.tris p.labels o.0 k) (carries p.tris p.labels o.0 l) (had k c.0) (had l c.1)) (h o.0))
        where
          c : (carries q.tris q.labels w k ≡ true) × (carries q.tris q.labels w l ≡ true)
          c = both (carries q.tris q.labels w k) (carries q.tris q.labels w l) e

          o : (x : ℕ) × (InUse d.tris x) × (g x ≡ w)
          o = use_origin g d.tris r.one-to-one w (carried_used (numbered g d).tris d.labels w k (flipped-kept.labels w k c.0))

          had : (i : ℕ) → carries q.tris q.labels w i ≡ true → carries p.tris p.labels o.0 i ≡ true
          had i f = round-labels o.0 o.1 i (ap (λ (v : ℕ). carries q.tris q.labels v i) o.2 ∙ f)
      test false e = e

pub retain-most : (most : ℕ) (gs : List Bool) (ls : List ℕ) → AtMost most ls → AtMost most (retain gs ls)
unfolding retain
retain-most most [] ls h = h
retain-most most (g ∷ gs) [] h = h
retain-most most (g ∷ gs) (x ∷ ls) h = pick g (h 0 (omega arith)) (retain-most most gs ls (λ i l. h (suc i) (omega arith)))
  where
    pick : (g : Bool) → x ≤ most → AtMost most (retain gs ls) → AtMost most (cond g (retain gs ls) (x ∷ retain gs ls))
    pick true e r i l = r i l
    pick false e r zero l = e
    pick false e r (suc i) l = r i (omega arith)

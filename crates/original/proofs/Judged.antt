-- A mesh that `smooth_impl` takes is one that it takes again after a round; so `improve` gives no Err, and where no side of a piece of just four corners is collapsed, its rounds are ours.
use Prim.Native.Nat.{ℕ, suc, ◌+◌, ◌/◌, ◌≤◌, ◌<◌}
use mathlib.Core.Path.{◌≡◌, refl, sym, ◌∙◌, ap, subst}
use mathlib.Core.Bool.{Bool, true, false, cond}
use mathlib.Core.List.{List}
use native.Mathlib.Omega.{arith}
use lib.ListN.{length, get_or}
use Rattle.surface.specs.Triangle.{Tri, tri}
use Rattle.surface.specs.Closed.{InUse, Closed}
use Rattle.surface.specs.Edit.{place}
use Rattle.surface.specs.Euler.{Below}
use Rattle.surface.specs.Label.{carries}
use Rattle.surface.proofs.Bools.{true_false}
use Rattle.surface.proofs.Reading.{r0, r1, r2}
use Rattle.surface.proofs.Places.{place-has}
use Rattle.surface.proofs.Bridge.{in_use}
use Rattle.rounds.specs.Pass.{begun}
use Rattle.rounds.specs.Renumber.{number, first_use}
use Rattle.rounds.proofs.FirstUse.{index_get, in_first, first_one, first-all}
use Rattle.rounds.proofs.Renumbered.{use_origin}
use Rattle.oracle.specs.Round.{Mesh, Sheet, Result, count, dropped, numbered, round, rounds}
use Rattle.oracle.specs.Spared.{Spared, SparedRounds, begun, further}
use Rattle.oracle.proofs.Safe.{safe}
use Rattle.oracle.proofs.Labels.{dropped-kept}
use Rattle.oracle.proofs.Spared.{same-round, same-rounds}
use Rattle.original.specs.Maps.{mask}
use Rattle.original.specs.Flip.{Outcome, failed, done, then}
use Rattle.original.specs.Improve.{good_face, conflict, valid, judged, improve}
use Rattle.original.proofs.Masks.{digit, mask-digit, one_le}
use Rattle.original.proofs.Rounds.{Fine, gathered-length, spared_round, fine-after}
use Rattle.original.proofs.Improve.{conflict-more, compatible-at, all-compatible, place-every, good-all, gathered-finite, Judged, judged_of, valid_of, fine_of}

module _ (f : Sheet) (m : Mesh) (c : Closed m.pair.tris) (j : Judged m) where
  a : Fine m
  a = fine_of m c j

  -- the corners that the collapses leave have points
  below : Below (count m) (dropped true f m).tris
  below = (dropped-kept (record { closed = c; labelled = a.labelled }) (safe f m c a.labelled).edits).below (count m) a.below

  abbrev ts : List Tri
  ts = (dropped true f m).tris

  counts : count (round true f m).mesh ≡ length (first_use (dropped true f m).tris)
  unfolding round numbered
  counts = omega (arith, gathered-length m.points (first_use (dropped true f m).tris))

  -- a new number is that of some corner
  origin : (v : ℕ) → v < length (first_use ts) → (x : ℕ) × (InUse ts x) × (number ts x ≡ v)
  origin v l = use_origin (number ts) ts (first_one ts) v (first-all ts v l)

  no_conflict : (v : ℕ) → v < count (round true f m).mesh → conflict (mask (round true f m).mesh.pair.tris (round true f m).mesh.pair.labels v) ≡ false
  no_conflict v l = pick (origin v (subst (λ (n : ℕ). v < n) counts l))
    where
      pick : ((x : ℕ) × (InUse ts x) × (number ts x ≡ v)) → conflict (mask (round true f m).mesh.pair.tris (round true f m).mesh.pair.labels v) ≡ false
      pick o = test (conflict (mask (round true f m).mesh.pair.tris (round true f m).mesh.pair.labels v)) refl
        where
          old : conflict (mask m.pair.tris m.pair.labels o.0) ≡ false
          old = compatible-at m.pair (count m) o.0 (below o.0 o.1) j.masks

          had : (k : ℕ) → carries (round true f m).mesh.pair.tris (round true f m).mesh.pair.labels v k ≡ true → carries m.pair.tris m.pair.labels o.0 k ≡ true
          had k e = (safe f m c a.labelled).labels o.0 o.1 k (ap (λ (w : ℕ). carries (round true f m).mesh.pair.tris (round true f m).mesh.pair.labels w k) o.2 ∙ e)

          digits : (k : ℕ) → digit k (mask (round true f m).mesh.pair.tris (round true f m).mesh.pair.labels v) ≤ digit k (mask m.pair.tris m.pair.labels o.0)
          digits k =
              let x = mask-digit k (round true f m).mesh.pair v (fine-after f m a).few in
              let y = mask-digit k m.pair o.0 a.few in
              let z = one_le (carries m.pair.tris m.pair.labels o.0 k) (carries (round true f m).mesh.pair.tris (round true f m).mesh.pair.labels v k) (had k) in
              omega arith

          test : (k : Bool) → conflict (mask (round true f m).mesh.pair.tris (round true f m).mesh.pair.labels v) ≡ k → conflict (mask (round true f m).mesh.pair.tris (round true f m).mesh.pair.labels v) ≡ false
          test true e = absurd (true_false (conflict-more _ (mask m.pair.tris m.pair.labels o.0) digits e) old)
          test false e = e

  points-finite : (i : ℕ) → i < length (first_use ts) → get_or (first_use ts) i 0 < length m.points / 3
  unfolding number
  points-finite i l =
      let o = origin i l in
      let e = index_get (first_use ts) o.0 (in_first ts o.0 o.1) in
      let b = below o.0 o.1 in
      subst (λ (v : ℕ). v < length m.points / 3) (sym (ap (λ (k : ℕ). get_or (first_use ts) k 0) (sym o.2) ∙ e)) b

  pub judged-after : Judged (round true f m).mesh
  unfolding round numbered
  judged-after =
      let w = fine-after f m a in
      record {
        lengths = sym w.labelled;
        few = w.few;
        finite = gathered-finite m.points (first_use ts) j.finite points-finite;
        faces = place-every (good_face (count (round true f m).mesh)) (round true f m).mesh.pair.tris (tri 0 0 0) (λ i l.
            let t = place (round true f m).mesh.pair.tris i in
            good-all (count (round true f m).mesh) t (w.closed.differ i l)
            (w.below t.a (in_use (place-has (round true f m).mesh.pair.tris i l (r0 refl refl refl))))
            (w.below t.b (in_use (place-has (round true f m).mesh.pair.tris i l (r1 refl refl refl))))
            (w.below t.c (in_use (place-has (round true f m).mesh.pair.tris i l (r2 refl refl refl)))));
        masks = all-compatible (round true f m).mesh.pair (count (round true f m).mesh) no_conflict;
      }

-- ---- rounds

-- a round, and what comes after it
abbrev pub onto : Result → Result → Result
onto r s = record { mesh = s.mesh; flips = r.flips + s.flips }

abbrev ending : Sheet → ℕ → Result → Outcome Result
ending f n r = cond (valid r.mesh) (then (judged f n r.mesh) (λ (s : Result). done (onto r s))) failed

-- a round in which no side of a piece of just four corners is collapsed
module _ (f : Sheet) (m : Mesh) (c : Closed m.pair.tris) (j : Judged m) (o : Spared f m) where
  pub spared_closed : Closed (round false f m).mesh.pair.tris
  spared_closed = subst (λ (r : Result). Closed r.mesh.pair.tris) (same-round f m c o) (fine-after f m (fine_of m c j)).closed

  pub spared_judged : Judged (round false f m).mesh
  spared_judged = subst (λ (r : Result). Judged r.mesh) (same-round f m c o) (judged-after f m c j)

  -- is followed by the other rounds
  pub spared_first : (n : ℕ) → judged f (suc n) m ≡ then (judged f n (round false f m).mesh) (λ (s : Result). done (onto (round false f m) s))
  unfolding judged then
  spared_first n =
      ap (λ (x : Outcome Result). then x (ending f n)) (spared_round f m (fine_of m c j) o)
      ∙ ap (λ (b : Bool). cond b (then (judged f n (round false f m).mesh) (λ (s : Result). done (onto (round false f m) s))) failed) (valid_of (round false f m).mesh spared_judged)

-- the rounds with `smooth_impl` at their ends
pub judged_are : (f : Sheet) {n : ℕ} {m : Mesh} → Closed m.pair.tris → Judged m → SparedRounds f n m → judged f n m ≡ done (rounds false f n m)
unfolding judged rounds then
judged_are f c j begun = refl
judged_are f {m = m} c j (further {n = n} o d) =
    spared_first f m c j o n
    ∙ ap (λ (x : Outcome Result). then x (λ (s : Result). done (onto (round false f m) s))) (judged_are f (spared_closed f m c j o) (spared_judged f m c j o) d)

-- and so `improve` is ours
pub spared_improve : (f : Sheet) {n : ℕ} {m : Mesh} → Closed m.pair.tris → valid m ≡ true → SparedRounds f n m → improve f n m ≡ done (rounds true f n m)
unfolding improve
spared_improve f {n = n} {m = m} c e d =
    let j = judged_of m e in
    ap (λ (b : Bool). cond b (judged f n m) failed) e ∙ judged_are f c j d ∙ ap done (sym (same-rounds f c (fine_of m c j).labelled d))

-- THE theorem: within document 01's domain the Rust's `improve` gives no Err on a closed mesh that it takes at first, and its result is that of our rounds (improve-is).
-- It is enough that no round begins with a piece of just four corners; the domain's other condition follows (begins-domain).
use Prim.Native.Nat.{ℕ, zero, suc, ◌<◌}
use mathlib.Core.Path.{◌≡◌, refl, sym, ◌∙◌, ap, subst}
use mathlib.Core.Bool.{Bool, true, false, cond}
use native.Mathlib.Omega.{arith}
use Rattle.surface.specs.Closed.{Closed}
use Rattle.oracle.specs.Round.{Mesh, Sheet, Result, round, rounds}
use Rattle.oracle.specs.Spared.{Four, Spared, SparedRounds, begun, further}
use Rattle.original.specs.Flip.{Outcome, failed, done, then}
use Rattle.original.specs.Improve.{valid, judged, improve}
use Rattle.original.specs.Domain.{Domain}
use Rattle.original.proofs.Improve.{judged_of, valid_of, fine_of}
use Rattle.original.proofs.Pieces.{begins-within}
use Rattle.original.proofs.Judged.{onto, spared_closed, spared_judged, spared_first, spared_improve}

-- no round begins with such a piece
abbrev pub Clear : Sheet → ℕ → Mesh → Type 0
Clear f n m = (i : ℕ) → i < n → (r : Result) → improve f i m ≡ done r → (a b c d : ℕ) → Four r.mesh.pair.tris a b c d → ⊥

domain_clear : (f : Sheet) (n : ℕ) (m : Mesh) → Domain f n m → Clear f n m
domain_clear f n m d i l r e = (d.each i l r e).begins

-- `improve` on a mesh that `smooth_impl` takes
improve-judged : (f : Sheet) (n : ℕ) (m : Mesh) → valid m ≡ true → improve f n m ≡ judged f n m
unfolding improve
improve-judged f n m e = ap (λ (b : Bool). cond b (judged f n m) failed) e

abbrev start : Mesh → Result
start m = record { mesh = m; flips = 0 }

no_rounds : (f : Sheet) (m : Mesh) → valid m ≡ true → improve f 0 m ≡ done (start m)
unfolding judged
no_rounds f m e = improve-judged f 0 m e

-- a mesh that is closed and that `smooth_impl` takes, and the round from it
module _ (f : Sheet) (m : Mesh) (c : Closed m.pair.tris) (e : valid m ≡ true) where
  spared : {n : ℕ} → Clear f (suc n) m → Spared f m
  spared d a b x y i q = d 0 (omega arith) (start m) (no_rounds f m e) a b x y q

  module _ (o : Spared f m) where
    abbrev next : Mesh
    next = (round false f m).mesh

    next-closed : Closed (round false f m).mesh.pair.tris
    next-closed = spared_closed f m c (judged_of m e) o

    next-valid : valid (round false f m).mesh ≡ true
    next-valid = valid_of (round false f m).mesh (spared_judged f m c (judged_of m e) o)

    -- one round more than from there
    one_more : (n : ℕ) → improve f (suc n) m ≡ then (improve f n (round false f m).mesh) (λ (s : Result). done (onto (round false f m) s))
    one_more n =
        improve-judged f (suc n) m e ∙ spared_first f m c (judged_of m e) o n
        ∙ ap (λ (x : Outcome Result). then x (λ (s : Result). done (onto (round false f m) s))) (sym (improve-judged f n (round false f m).mesh next-valid))

    next_clear : {n : ℕ} → Clear f (suc n) m → Clear f n (round false f m).mesh
    unfolding then
    next_clear d i l r q = d (suc i) (omega arith) (onto (round false f m) r) (one_more i ∙ ap (λ (x : Outcome Result). then x (λ (s : Result). done (onto (round false f m) s))) q)

clear_spared : (f : Sheet) (n : ℕ) (m : Mesh) → Closed m.pair.tris → valid m ≡ true → Clear f n m → SparedRounds f n m
clear_spared f zero m c e d = begun
clear_spared f (suc n) m c e d =
    let o = spared f m c e d in
    further o (clear_spared f n (round false f m).mesh (next-closed f m c e o) (next-valid f m c e o) (next_clear f m c e o d))

pub improve-is : (f : Sheet) (n : ℕ) (m : Mesh) → Closed m.pair.tris → valid m ≡ true → Domain f n m → improve f n m ≡ done (rounds true f n m)
improve-is f n m c e d = spared_improve f c e (clear_spared f n m c e (domain_clear f n m d))

-- ---- what rounds leave is closed, and `smooth_impl` takes it

pub record Good (m : Mesh) : Type 0 where
  pub closed : Closed m.pair.tris
  pub valid : valid m ≡ true

good-after : (f : Sheet) (i : ℕ) (m : Mesh) → Good m → Clear f i m → (r : Result) → improve f i m ≡ done r → Good r.mesh
unfolding then
good-after f zero m g d r e = subst Good (made (sym (no_rounds f m g.valid) ∙ e)) g
  where
    made : done (start m) ≡ done r → m ≡ r.mesh
    made q = cc
good-after f (suc i) m g d r e =
    let o = spared f m g.closed g.valid d in
    pick (improve f i (round false f m).mesh) refl (sym (one_more f m g.closed g.valid o i) ∙ e)
    (good-after f i (round false f m).mesh (record { closed = next-closed f m g.closed g.valid o; valid = next-valid f m g.closed g.valid o }) (next_clear f m g.closed g.valid o d))
  where
    pick : (x : Outcome Result) → improve f i (round false f m).mesh ≡ x → then (improve f i (round false f m).mesh) (λ (s : Result). done (onto (round false f m) s)) ≡ done r
        → ((s : Result) → improve f i (round false f m).mesh ≡ done s → Good s.mesh) → Good r.mesh
    pick failed q k ih = let z : ◌≡◌ {A = ℕ} 0 1 = cc in absurd (omega arith)
    pick (done s) q k ih = subst Good (made (rw q at k)) (ih s q)
      where
        made : done (onto (round false f m) s) ≡ done r → s.mesh ≡ r.mesh
        made q = cc

pub begins_domain : (f : Sheet) (n : ℕ) (m : Mesh) → Closed m.pair.tris → valid m ≡ true → Clear f n m → Domain f n m
begins_domain f n m c e d = record {
  each = λ i l r q.
      let g = good-after f i m (record { closed = c; valid = e }) (λ j k. d j (omega arith)) r q in
      begins-within f r.mesh (fine_of r.mesh g.closed (judged_of r.mesh g.valid)) (d i l r q);
}

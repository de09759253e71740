-- The triangles of a list by their places: taking one out, and putting one in.
use Prim.Native.Nat.{ℕ, zero, suc, ◌<◌}
use mathlib.Core.Path.{◌≡◌, refl, sym, ap, subst}
use mathlib.Core.List.{List, [], ◌∷◌}
use native.Mathlib.Omega.{arith}
use lib.ListN.{length, set, length-set}
use Rattle.surface.specs.Triangle.{Tri, tri}
use Rattle.surface.specs.Edit.{place, without}
use Rattle.surface.proofs.Reading.{Reads, Has, here, there}
use Rattle.surface.proofs.Surface.{Alike, alike_swap, alike_refl, alike_trans, alike_cons, alike_turn}

pub place-has : (ts : List Tri) (i : ℕ) {x y z : ℕ} → i < length ts → Reads (place ts i) x y z → Has x y z ts
place-has [] i l r = absurd (omega arith)
place-has (t ∷ ts) zero l r = here r
place-has (t ∷ ts) (suc i) l r = there (place-has ts i (omega arith) r)

pub record Placed (ts : List Tri) (x y z : ℕ) : Type 0 where
  pub at : ℕ
  pub fits : at < length ts
  pub reads : Reads (place ts at) x y z

pub has-place : {x y z : ℕ} (ts : List Tri) → Has x y z ts → Placed ts x y z
has-place (t ∷ ts) (here r) = record { at = 0; fits = omega arith; reads = r }
has-place (t ∷ ts) (there h) = let p = has-place ts h in record { at = suc p.at; fits = omega (arith, p.fits); reads = p.reads }
has-place {y = y} {z = z} [] x'' = elim x'' [ ]

pub taken : (ts : List Tri) (i : ℕ) → i < length ts → Alike ts (place ts i ∷ without i ts)
unfolding without
taken [] i l = absurd (omega arith)
taken (t ∷ ts) zero l = alike_refl (t ∷ ts)
taken (t ∷ ts) (suc i) l = alike_trans (alike_cons t (taken ts i (omega arith))) (alike_swap t (place ts i) (without i ts))

pub given : (ts : List Tri) (i : ℕ) (n : Tri) → i < length ts → Alike (set ts i n) (n ∷ without i ts)
unfolding without
given [] i n l = absurd (omega arith)
given (t ∷ ts) zero n l = alike_refl (n ∷ ts)
given (t ∷ ts) (suc i) n l = alike_trans (alike_cons t (given ts i n (omega arith))) (alike_swap t n (without i ts))

pub length_without : {A : Type 0} (ts : List A) (i : ℕ) → i < length ts → suc (length (without i ts)) ≡ length ts
unfolding without
length_without [] i l = absurd (omega arith)
length_without (t ∷ ts) zero l = refl
length_without (t ∷ ts) (suc i) l = ap suc (length_without ts i (omega arith))

pub without-set : (ts : List Tri) (i j : ℕ) (n : Tri) → i < j → j < length ts → without j (set ts i n) ≡ set (without j ts) i n
unfolding without
without-set [] i j n l m = absurd (omega arith)
without-set (t ∷ ts) i zero n l m = absurd (omega arith)
without-set (t ∷ ts) zero (suc j) n l m = refl
without-set (t ∷ ts) (suc i) (suc j) n l m = ap (λ (k : List Tri). t ∷ k) (without-set ts i j n (omega arith) (omega arith))

pub place-without : (ts : List Tri) (i j : ℕ) → i < j → j < length ts → place (without j ts) i ≡ place ts i
unfolding without
place-without [] i j l m = absurd (omega arith)
place-without (t ∷ ts) i zero l m = absurd (omega arith)
place-without (t ∷ ts) zero (suc j) l m = refl
place-without (t ∷ ts) (suc i) (suc j) l m = place-without ts i j (omega arith) (omega arith)

-- two places, the earlier and the later
module _ (ts : List Tri) (i j : ℕ) (l : i < j) (m : j < length ts) where
  pub both-taken : {u v c x y d : ℕ} → Reads (place ts i) u v c → Reads (place ts j) x y d → Alike ts (tri u v c ∷ tri x y d ∷ without i (without j ts))
  both-taken {u} {v} {c} {x} {y} {d} r s =
      let w = without j ts in
      let k : i < length w = omega (arith, length_without ts j m) in
      let r' : Reads (place w i) u v c = subst (λ (t : Tri). Reads t u v c) (sym (place-without ts i j l m)) r in
      alike_trans (taken ts j m) (alike_trans (alike_turn w s)
      (alike_trans (alike_cons (tri x y d) (alike_trans (taken w i k) (alike_turn (without i w) r'))) (alike_swap (tri x y d) (tri u v c) (without i w))))

  pub both-given : (n n' : Tri) → Alike (set (set ts i n) j n') (n ∷ n' ∷ without i (without j ts))
  both-given n n' =
      let w = without j ts in
      let k : i < length w = omega (arith, length_without ts j m) in
      alike_trans (given (set ts i n) j n' (omega (arith, length-set ts i n)))
      (alike_trans (alike_cons n' (subst (λ (q : List Tri). Alike q (n ∷ without i w)) (sym (without-set ts i j n l m)) (given w i n k))) (alike_swap n' n (without i w)))

-- A function of directed sides that changes its sign with the side's direction has the sum 0 over a list of triangles in which each side meets its reverse. Assumes nothing.
use Prim.Native.Nat.{ℕ, zero, suc, ◌<◌}
use mathlib.Core.Path.{◌≡◌, refl, sym, ap₂, ◌∙◌}
use mathlib.Core.List.Permᴰ
use mathlib.Core.List.{List, [], ◌∷◌, map, Permᴰ}
use native.Mathlib.Omega.{arith}
use lib.IntN.{ℤ, pos, negsuc, neg_ℤ, ◌+ℤ◌, neg_ℤ-+ℤ, pos-ne-negsuc}
use Rattle.surface.specs.Triangle.{Tri}
use Rattle.surface.specs.Closed.{sides, Step, step, Paired}
use Rattle.surface.specs.Original.{directed}
use Rattle.surface.proofs.Reading.{Hit, same, first, second, view, hit_yes, hit_swap}
use Rattle.surface.proofs.Pairs.{step_path, tally, tally_perm}
use Rattle.surface.proofs.Original.{directed-sides}
use Rattle.integers.proofs.Ring.{swap_first}
use Rattle.volume.specs.Volume.{Balanced}

-- ---- lists with the same pairs in them are one list in two orders

record Without (x : Step) (l : List Step) : Type 0 where
  rest : List Step
  perm : Permᴰ l (x ∷ rest)

take_out : (x : Step) (l : List Step) → 0 < tally l x.from x.to → Without x l
unfolding tally
take_out x [] h = absurd (omega arith)
take_out x (y ∷ l) h = go (view y.from y.to x.from x.to) (take_out x l)
  where
    later : Without x l → Without x (y ∷ l)
    later w = record { rest = y ∷ w.rest; perm = Permᴰ.trans (Permᴰ.cons refl w.perm) (Permᴰ.swap refl refl) }

    go : Hit y.from y.to x.from x.to → (0 < tally l x.from x.to → Without x l) → Without x (y ∷ l)
    go (same p q e) f = record { rest = l; perm = Permᴰ.cons (step_path (p, q)) (Permᴰ.refl l) }
    go (first n e) f = later (f (omega arith))
    go (second n e) f = later (f (omega arith))

same_pairs : (l m : List Step) → ((u v : ℕ) → tally l u v ≡ tally m u v) → Permᴰ l m
unfolding tally
same_pairs [] [] e = Permᴰ.nil
same_pairs [] (y ∷ m) e = absurd (omega (arith, e y.from y.to, hit_yes y.from y.to y.from y.to refl refl))
same_pairs (x ∷ l) m e =
    let w = take_out x m (omega (arith, e x.from x.to, hit_yes x.from x.to x.from x.to refl refl)) in
    Permᴰ.trans (Permᴰ.cons refl (same_pairs l w.rest (λ u v. omega (arith, e u v, tally_perm u v w.perm)))) (Permᴰ.symm w.perm)

-- ---- the sum of a function over pairs

module _ (g : ℕ → ℕ → ℤ) where
  unfoldable pub along : List Step → ℤ
  along [] = pos 0
  along (x ∷ l) = g x.from x.to +ℤ along l

  along_perm : {l m : List Step} → Permᴰ l m → along l ≡ along m
  unfolding along
  along_perm Permᴰ.nil = refl
  along_perm (Permᴰ.cons e d) = ap₂ (λ (x : Step) (k : ℤ). g x.from x.to +ℤ k) e (along_perm d)
  along_perm (Permᴰ.swap {a = a} {b = b} {l = l} e f) =
      swap_first (g a.from a.to) (g b.from b.to) (along l) ∙ ap₂ (λ (x y : Step). g x.from x.to +ℤ (g y.from y.to +ℤ along l)) f e
  along_perm (Permᴰ.trans d e) = along_perm d ∙ along_perm e

-- ---- over the directed sides of a balanced list the sum of a function that changes its sign is 0

abbrev back : Step → Step
back x = step x.to x.from

tally-back : (l : List Step) (u v : ℕ) → tally (map back l) u v ≡ tally l v u
unfolding tally
tally-back [] u v = refl
tally-back (x ∷ l) u v = omega (arith, tally-back l u v, hit_swap x.to x.from u v)

pub paired_balanced : {ts : List Tri} → Paired ts → Balanced ts
paired_balanced {ts} p u v = go (sides ts u v) (sides ts v u) (p.once u v) (p.back u v) (p.once v u) (p.back v u)
  where
    go : (m n : ℕ) → (0 < m → m ≡ 1) → (0 < m → n ≡ 1) → (0 < n → n ≡ 1) → (0 < n → m ≡ 1) → m ≡ n
    go zero zero a b c d = refl
    go zero (suc n) a b c d = d (omega arith) ∙ sym (c (omega arith))
    go (suc m) n a b c d = a (omega arith) ∙ sym (b (omega arith))

no_sign : (z : ℤ) → z ≡ neg_ℤ z → z ≡ pos 0
no_sign (pos zero) e = refl
no_sign (pos (suc n)) e = absurd (pos-ne-negsuc (suc n) n e)
no_sign (negsuc n) e = absurd (pos-ne-negsuc (suc n) n (sym e))

module _ (g : ℕ → ℕ → ℤ) (turns : (u v : ℕ) → g v u ≡ neg_ℤ (g u v)) where
  along-back : (l : List Step) → along g (map back l) ≡ neg_ℤ (along g l)
  unfolding along
  along-back [] = refl
  along-back (x ∷ l) = ap₂ (λ (j k : ℤ). j +ℤ k) (turns x.from x.to) (along-back l) ∙ sym (neg_ℤ-+ℤ (g x.from x.to) (along g l))

  pub cancels : (ts : List Tri) → Balanced ts → along g (directed ts) ≡ pos 0
  cancels ts p =
      let l = directed ts in
      no_sign (along g l)
      (along_perm g (same_pairs l (map back l) (λ u v. directed-sides ts u v ∙ p u v ∙ sym (tally-back l u v ∙ directed-sides ts v u))) ∙ along-back l)

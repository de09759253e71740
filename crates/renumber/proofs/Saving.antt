-- The points go into work words, one coordinate a turn.
use Prim.Native.Nat.{ℕ, ◌+◌, ◌*◌, ◌<◌, ◌≤◌}
use mathlib.Core.Path.{◌≡◌, refl, sym, ◌∙◌, subst}
use mathlib.Core.Logic.{inl}
use mathlib.Core.List.{List}
use native.Mathlib.Omega.{arith}
use native.Mathlib.Decide.{ℕ_discrete}
use lib.Dec.{T}
use lib.ListN.{length, get_or}
use lib.Ieee.{Float, nan, binary64, fits}
use Rattle.scores.specs.Words.{put_at, Kept}
use Rattle.scores.proofs.Words.{put-length, put_other, put-kept, put_keeps}
use Rattle.renumber.specs.Saved.{Saved}

-- the first k floats are saved
pub record Saving (ps : List Float) (w w' : List ℕ) (saved k : ℕ) : Type 0 where
  pub short : k ≤ length ps
  pub size : length w' ≡ length w
  pub done : Saved ps w w' saved k

pub save_starts : (ps : List Float) (w : List ℕ) (saved : ℕ) → Saving ps w w saved 0
save_starts ps w saved = record {
  short = omega arith;
  size = refl;
  done = record { each = λ j l. absurd (omega arith); under = λ j l. refl; over = λ j l. refl };
}

save_turn : (ps : List Float) (w w' : List ℕ) (saved k : ℕ) (x : Float) → saved + k * 2 + 1 < length w' → T (fits binary64 x) → x ≡ get_or ps k nan
    → Saved ps w w' saved k → Saved ps w (put_at w' (saved + k * 2) x) saved (k + 1)
save_turn ps w w' saved k x room f e I = record {
  each = λ j l. pick j l (ℕ_discrete j k);
  under = λ j l. put_other w' (saved + k * 2) x j (λ q. omega arith) (λ q. omega arith) ∙ I.under j l;
  over = λ j l. put_other w' (saved + k * 2) x j (λ q. omega arith) (λ q. omega arith) ∙ I.over j (omega arith);
}
  where
    pick : (j : ℕ) → j < k + 1 → Dec (j ≡ k) → Kept (put_at w' (saved + k * 2) x) (saved + j * 2) (get_or ps j nan)
    pick j l (yes q) = subst (λ (i : ℕ). Kept (put_at w' (saved + k * 2) x) (saved + i * 2) (get_or ps i nan)) (sym q) (subst (Kept (put_at w' (saved + k * 2) x) (saved + k * 2)) e (put-kept w' (saved + k * 2) x room f))
    pick j l (no q) = put_keeps w' (saved + k * 2) x (saved + j * 2) (get_or ps j nan) (inl (omega (arith, q))) (I.each j (omega (arith, q)))

module _ (ps : List Float) (w w' : List ℕ) (saved k : ℕ) where
  pub save_on : saved + length ps * 2 ≤ length w → Saving ps w w' saved k → k < length ps → T (fits binary64 (get_or ps k nan)) → (w'' : List ℕ) → w'' ≡ put_at w' (saved + k * 2) (get_or ps k nan) → Saving ps w w'' saved (k + 1)
  save_on room I l f w'' e = rw e (record {
    short = omega arith;
    size = put-length w' (saved + k * 2) (get_or ps k nan) ∙ I.size;
    done = save_turn ps w w' saved k (get_or ps k nan) (let s = I.size in omega arith) f refl I.done;
  })

  pub save_ends : Saving ps w w' saved k → length ps ≤ k → Saved ps w w' saved (length ps)
  save_ends I l = let s = I.short in let e : k ≡ length ps = omega arith in subst (Saved ps w w' saved) e I.done

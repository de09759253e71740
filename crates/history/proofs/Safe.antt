-- Demand 3, of the history: what `Safe` says holds after every number of entries of every run.
use Prim.Native.Nat.{ℕ, zero, suc, ◌<◌}
use mathlib.Core.Path.{◌≡◌, refl, sym, ◌∙◌, subst}
use mathlib.Core.Logic.{◌⊎◌, inl, inr, ◌↔◌}
use mathlib.Core.Bool.{Bool, true, false, ◌||◌, cond}
use mathlib.Core.List.{List, [], ◌∷◌}
use native.Mathlib.Omega.{arith}
use lib.Dec.{eqb}
use lib.ListN.{length, get_or, take}
use borrow.Author.Tests.{eqb-true}
use Rattle.surface.specs.Closed.{Closed}
use Rattle.surface.proofs.Formula.{same-euler}
use Rattle.history.specs.History.{Pair, Entry, is_edit, made, History, last, accepted, begun, next, after, verdict, verdicts}
use Rattle.history.specs.Safe.{Sound, NoneGained, reached, entry_at, Safe}
use Rattle.history.proofs.Verdict.{Outcome, edited, returned, refused, outcome}
use Rattle.history.proofs.Labels.{no_new-label}
use Rattle.history.proofs.Run.{Kept, kept-first, none, Stands, stands_last, after_stands}
use Rattle.history.proofs.Local.{not_closed_25}

-- one entry more, and its verdict word
pub after_next : (capacity : ℕ) (h : History) (es : List Entry) (n : ℕ) → n < length es → after capacity h (take (suc n) es) ≡ next capacity (after capacity h (take n es)) (entry_at es n)
unfolding after
after_next c h [] n l = absurd (omega arith)
after_next c h (e ∷ es) zero l = refl
after_next c h (e ∷ es) (suc n) l = after_next c (next c h e) es n (omega arith)

pub verdict-at : (capacity : ℕ) (h : History) (es : List Entry) (n : ℕ) → n < length es → get_or (verdicts capacity h es) n 0 ≡ verdict capacity (after capacity h (take n es)) (entry_at es n)
unfolding after verdicts
verdict-at c h [] n l = absurd (omega arith)
verdict-at c h (e ∷ es) zero l = refl
verdict-at c h (e ∷ es) (suc n) l = verdict-at c (next c h e) es n (omega arith)

pub edit-kind : (e : Entry) → is_edit e ≡ true → (e.kind ≡ 1) ⊎ (e.kind ≡ 2)
edit-kind e k = go (eqb e.kind 1) refl k
  where
    go : (t : Bool) → eqb e.kind 1 ≡ t → (t || eqb e.kind 2) ≡ true → (e.kind ≡ 1) ⊎ (e.kind ≡ 2)
    go true f g = inl (eqb-true e.kind 1 f)
    go false f g = inr (eqb-true e.kind 2 g)

not_three : {k : ℕ} → (k ≡ 1) ⊎ (k ≡ 2) → k ≡ 3 → ⊥
not_three (inl i) j = omega arith
not_three (inr i) j = omega arith

-- a flip or collapse, accepted or not, gives no corner a label that it lacked
pub none-gained : (capacity : ℕ) (h : History) (e : Entry) → Sound (last h) → (e.kind ≡ 1) ⊎ (e.kind ≡ 2) → NoneGained (last h) (last (next capacity h e))
none-gained capacity h e s k = pick (outcome capacity h e s.closed)
  where
    pick : Outcome capacity h e → NoneGained (last h) (last (next capacity h e))
    pick (edited d m q) = subst (λ (g : History). NoneGained (last h) (last g)) (sym q) (no_new-label (last h) e s d)
    pick (returned j m q) = absurd (not_three k j)
    pick (refused n q) = subst (λ (g : History). NoneGained (last h) (last g)) (sym q) (λ v l c. c)

pub begun_stands : {capacity : ℕ} {start : Pair} → Sound start → Stands capacity (begun start)
begun_stands s = record { first = kept-first s; each = none; fits = omega arith }

-- the first pair stays
lent-next : (capacity : ℕ) (h : History) (e : Entry) → (next capacity h e).lent ≡ h.lent
unfolding next
lent-next c h e = go (eqb (verdict c h e) 0)
  where
    go : (t : Bool) → (cond t (accepted h e) h).lent ≡ h.lent
    go true = refl
    go false = refl

lent-after : (capacity : ℕ) (h : History) (es : List Entry) → (after capacity h es).lent ≡ h.lent
unfolding after
lent-after c h [] = refl
lent-after c h (e ∷ es) = lent-after c (next c h e) es ∙ lent-next c h e

pub reached_stands : (capacity : ℕ) (start : Pair) → Sound start → (es : List Entry) (n : ℕ) → Stands capacity (reached capacity start es n)
reached_stands c start s es n = after_stands (begun start) (take n es) (begun_stands s)

pub reached-kept : (capacity : ℕ) (start : Pair) → Sound start → (es : List Entry) (n : ℕ) → Kept start (last (reached capacity start es n))
reached-kept c start s es n = subst (λ (p : Pair). Kept p (last (reached c start es n))) (lent-after c (begun start) (take n es)) (stands_last (reached_stands c start s es n))

pub safe : (capacity : ℕ) (start : Pair) → Sound start → (es : List Entry) (n : ℕ) → Safe capacity start es n
safe c start s es n =
    let k = reached-kept c start s es n in
    let h = reached c start es n in
    let e = entry_at es n in
    record {
      closed = k.sound.closed;
      labelled = k.sound.labelled;
      below = k.below;
      euler = λ m b. same-euler m start.tris (last h).tris (k.euler m b);
      labels = k.labels;
      gained = λ l i. subst (λ (g : History). NoneGained (last h) (last g)) (sym (after_next c (begun start) es n l)) (none-gained c h e k.sound (edit-kind e i));
      only_25 = λ l i x a. subst (λ (w : ℕ). (w ≡ 25) ↔ (Closed (made (last h) e).tris → ⊥)) (sym (verdict-at c (begun start) es n l)) (not_closed_25 c h e (edit-kind e i) x a);
      fits = (reached_stands c start s es n).fits;
    }

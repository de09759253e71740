-- What every pair of a history keeps of the first.
use Prim.Native.Nat.{ℕ, zero, suc, ◌≤◌, ◌<◌}
use mathlib.Core.Path.{◌≡◌, refl, sym, ◌∙◌, subst}
use mathlib.Core.List.{List, [], ◌∷◌}
use native.Mathlib.Omega.{arith}
use lib.ListN.{length, drop, length-map, length-set}
use Rattle.surface.specs.Triangle.{Tri}
use Rattle.surface.specs.Edit.{hinge, flip, collapse, without}
use Rattle.surface.specs.Euler.{Below, SameEuler}
use Rattle.surface.proofs.Laws.{hinge-found, flip-corners, collapse-corners, flip-same-euler, collapse-same-euler}
use Rattle.history.specs.History.{Pair, Entry, made, Made, last_of, History, last, in_force, next, after}
use Rattle.history.specs.Safe.{Sound, NoneGained}
use Rattle.history.proofs.Verdict.{Edit, flips, collapses, Outcome, edited, returned, refused, outcome}
use Rattle.surface.proofs.Places.{length_without}
use Rattle.history.proofs.Labels.{no_new-label}

pub flip-length : (a b : ℕ) (ts : List Tri) → length (flip a b ts) ≡ length ts
unfolding flip
flip-length a b ts = simp length-set

pub out_two : {A : Type 0} (l : List A) (i j : ℕ) → i < j → j < length l → suc (suc (length (without i (without j l)))) ≡ length l
out_two l i j p q = let e = length_without l j q in omega (arith, length_without (without j l) i (omega arith))

pub collapse-length : (a b : ℕ) (ts : List Tri) → length (collapse a b ts) ≡ length (without (hinge ts a b).p1 (without (hinge ts a b).p2 ts))
unfolding collapse
collapse-length a b ts = simp length-map

-- an accepted edit of a sound pair makes a sound pair
pub edit-sound : {p : Pair} {e : Entry} → Sound p → Edit p e → Sound (made p e)
edit-sound {p} {e} s (flips k g l c q) = subst (λ (r : Pair). Sound r) (sym q) (record { closed = c; labelled = s.labelled ∙ sym (flip-length e.a e.b p.tris) })
edit-sound {p} {e} s (collapses k g l c q) =
    let h = hinge p.tris e.a e.b in
    let f = hinge-found s.closed e.a e.b g in
    let m = s.labelled in
    let i = out_two p.tris h.p1 h.p2 f.order f.fits in
    let j = out_two p.labels h.p1 h.p2 f.order (omega (arith, f.fits)) in
    subst (λ (r : Pair). Sound r) (sym q) (record { closed = c; labelled = omega (arith, collapse-length e.a e.b p.tris) })

-- what a pair keeps of the first
pub record Kept (start p : Pair) : Type 0 where
  pub sound : Sound p
  pub below : (k : ℕ) → Below k start.tris → Below k p.tris
  pub euler : (k : ℕ) → Below k start.tris → SameEuler k start.tris p.tris
  pub labels : NoneGained start p

pub kept-first : {p : Pair} → Sound p → Kept p p
kept-first s = record { sound = s; below = λ k b. b; euler = λ k b. refl; labels = λ v l c. c }

same-euler_trans : (k : ℕ) (ts us vs : List Tri) → SameEuler k ts us → SameEuler k us vs → SameEuler k ts vs
same-euler_trans k ts us vs p q = omega arith

-- an edit keeps it
edit-below : {start p : Pair} {e : Entry} → Kept start p → Edit p e → (n : ℕ) → Below n start.tris → Below n (made p e).tris
edit-below {start} {p} {e} s (flips k g l c q) n b = subst (λ (r : Pair). Below n r.tris) (sym q) (λ v u. s.below n b v ((flip-corners s.sound.closed e.a e.b g v).0 u))
edit-below {start} {p} {e} s (collapses k g l c q) n b =
    subst (λ (r : Pair). Below n r.tris) (sym q) (λ v u. s.below n b v ((collapse-corners s.sound.closed e.a e.b g v).0 u).0)

edit-euler : {start p : Pair} {e : Entry} → Kept start p → Edit p e → (n : ℕ) → Below n start.tris → SameEuler n start.tris (made p e).tris
edit-euler {start} {p} {e} s (flips k g l c q) n b =
    subst (λ (r : Pair). SameEuler n start.tris r.tris) (sym q)
    (same-euler_trans n start.tris p.tris (flip e.a e.b p.tris) (s.euler n b) (flip-same-euler s.sound.closed e.a e.b g n (s.below n b) c))
edit-euler {start} {p} {e} s (collapses k g l c q) n b =
    subst (λ (r : Pair). SameEuler n start.tris r.tris) (sym q)
    (same-euler_trans n start.tris p.tris (collapse e.a e.b p.tris) (s.euler n b) (collapse-same-euler s.sound.closed e.a e.b g n (s.below n b) c))

pub edit-kept : {start p : Pair} {e : Entry} → Kept start p → Edit p e → Kept start (made p e)
edit-kept {start} {p} {e} s d = record {
  sound = edit-sound s.sound d;
  below = edit-below s d;
  euler = edit-euler s d;
  labels = λ v l c. s.labels v l (no_new-label p e s.sound d v l c);
}

-- P holds of every pair after the first
pub data Each (P : Pair → Type 0) : List Made → Type 0 where
  none : Each P []
  also : {x : Made} {l : List Made} → P x.pair → Each P l → Each P (x ∷ l)

pub each-drop : {P : Pair → Type 0} (n : ℕ) {l : List Made} → Each P l → Each P (drop n l)
each-drop zero s = s
each-drop (suc n) none = none
each-drop (suc n) (also p s) = each-drop n s

pub each_last : {P : Pair → Type 0} (p : Pair) {l : List Made} → Each P l → P p → P (last_of p l)
each_last p none k = k
each_last p (also q s) k = q

-- a whole history
pub record Stands (capacity : ℕ) (h : History) : Type 0 where
  pub first : Kept h.lent h.lent
  pub each : Each (Kept h.lent) h.edits
  pub fits : in_force h ≤ capacity

pub stands_last : {capacity : ℕ} {h : History} → Stands capacity h → Kept h.lent (last h)
stands_last {capacity} {h} s = each_last h.lent s.each s.first

length-drop_le : {A : Type 0} (n : ℕ) (l : List A) → length (drop n l) ≤ length l
length-drop_le zero l = omega arith
length-drop_le (suc n) [] = omega arith
length-drop_le (suc n) (x ∷ l) = omega (arith, length-drop_le n l)

pub next_stands : {capacity : ℕ} (h : History) (e : Entry) → Stands capacity h → Stands capacity (next capacity h e)
next_stands {capacity} h e s = pick (outcome capacity h e (stands_last s).sound.closed)
  where
    pick : Outcome capacity h e → Stands capacity (next capacity h e)
    pick (edited d m q) = subst (λ (g : History). Stands capacity g) (sym q) (record { first = s.first; each = also (edit-kept (stands_last s) d) s.each; fits = omega arith })
    pick (returned k m q) =
        subst (λ (g : History). Stands capacity g) (sym q) (record { first = s.first; each = each-drop e.a s.each; fits = let f = s.fits in omega (arith, length-drop_le e.a h.edits) })
    pick (refused n q) = subst (λ (g : History). Stands capacity g) (sym q) s

pub after_stands : {capacity : ℕ} (h : History) (es : List Entry) → Stands capacity h → Stands capacity (after capacity h es)
unfolding after
after_stands h [] s = s
after_stands {capacity} h (e ∷ es) s = after_stands (next capacity h e) es (next_stands h e s)

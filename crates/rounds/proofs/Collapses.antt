-- R1 and R2: a collapse changes nothing around a corner that is not near the side, and the collapse pass is a history of collapses.
use Prim.Native.Nat.{ℕ, suc, ◌+◌, ◌*◌, ◌≤◌, ◌<◌}
use mathlib.Core.Path.{◌≡◌, refl, sym, ◌∙◌, ap, ap₂, subst, subst₂}
use mathlib.Core.Bool.{Bool, true, false}
use mathlib.Core.List.{List, [], ◌∷◌, ◌++◌, map}
use native.Mathlib.Omega.{arith}
use lib.ListN.{length, length-append, length-map}
use borrow.Author.Tests.{lt-ltb}
use Rattle.surface.specs.Triangle.{Tri}
use Rattle.surface.specs.Closed.{sides, around, Closed}
use Rattle.surface.specs.Edit.{first, hinge, without, renamed, collapse}
use Rattle.surface.proofs.Bools.{true_false}
use Rattle.surface.proofs.Reading.{side-has}
use Rattle.surface.proofs.Surface.{Surface}
use Rattle.surface.proofs.Hinged.{hinged}
use Rattle.surface.proofs.Places.{length_without}
use Rattle.surface.proofs.Bridge.{closed_surface_lem}
use Rattle.surface.proofs.Decision.{closed?_iff}
use Rattle.surface.specs.Euler.{Below, SameEuler}
use Rattle.surface.proofs.Laws.{collapse-closed, collapse-corners, collapse-same-euler}
use Rattle.rounds.proofs.EulerSteps.{euler_refl, euler_trans}
use Rattle.surface.specs.Label.{carries}
use Rattle.history.specs.History.{Pair, Entry, collapsed}
use Rattle.rounds.specs.Accepted.{Accepted}
use Rattle.rounds.specs.Pass.{retain, near, marked, moved, State, Allowed, Applied, collapse_entry, Reached, begun, collapsed as further, result}
use Rattle.rounds.proofs.Tests.{only, only-is, only_self}
use Rattle.rounds.proofs.Fits.{Fits, fits-begun, fits-around, fits-carries, on, fits-labels, fits-tris, fits-step}
use Rattle.rounds.proofs.Strip.{collapse-marks, labels-marks}
use Rattle.rounds.proofs.Local.{sides-from, sides-to, linked_move, covered_move}
use Rattle.rounds.proofs.Verdicts.{Good, accepted-none, accepted-more}
use Rattle.rounds.proofs.Near.{near_next, not_near}

pub retain-all : {A : Type 0} (ts : List Tri) (xs : List A) → retain (map (λ (t : Tri). false) ts) xs ≡ xs
unfolding retain
retain-all [] xs = refl
retain-all (t ∷ ts) [] = refl
retain-all (t ∷ ts) (x ∷ xs) = ap (λ (l : List _). x ∷ l) (retain-all ts xs)

pub retain-length : {A B : Type 0} (gs : List Bool) (xs : List A) (ys : List B) → length xs ≡ length ys → length (retain gs xs) ≡ length (retain gs ys)
unfolding retain
retain-length [] xs ys e = e
retain-length (g ∷ gs) [] [] e = refl
retain-length (g ∷ gs) [] (y ∷ ys) e = absurd (omega arith)
retain-length (g ∷ gs) (x ∷ xs) [] e = absurd (omega arith)
retain-length (true ∷ gs) (x ∷ xs) (y ∷ ys) e = retain-length gs xs ys (omega arith)
retain-length (false ∷ gs) (x ∷ xs) (y ∷ ys) e = ap suc (retain-length gs xs ys (omega arith))

pub fits-length : {u : ℕ → Bool} {ts fs : List Tri} {gs : List Bool} → Fits u ts fs gs → length fs ≡ length ts
fits-length Fits.end = refl
fits-length (Fits.lost n h) = ap suc (fits-length h)
fits-length (Fits.same p h) = ap suc (fits-length h)
fits-length (Fits.other n h) = ap suc (fits-length h)

-- the step on the whole lists, with the marks dropped, is the collapse of what is left
pub step-pair : {u : ℕ → Bool} {ts fs : List Tri} {gs : List Bool} → Fits u ts fs gs → (a b : ℕ) → u a ≡ false → u b ≡ false → Surface (retain gs fs)
    → (ls : List ℕ) → length ls ≡ length ts
    → ◌≡◌ {A = Pair} (record { tris = retain (marked a b ts gs) (moved a b ts fs); labels = retain (marked a b ts gs) ls }) (collapsed (record { tris = retain gs fs; labels = retain gs ls }) a b)
step-pair {u} {ts} {fs} {gs} h a b ea eb s ls l = λ i. record {
  tris = (fits-tris a b ea eb h ∙ sym (collapse-marks a b s)) i;
  labels = (fits-labels a b ea eb h ls ∙ sym (labels-marks a b s (retain gs ls) (retain-length gs ls fs (l ∙ sym (fits-length h))))) i;
}

-- R1, for a corner that is not b and no neighbour of b (so not a); whether it is a neighbour of a does not matter
module _ {ts : List Tri} (c : Closed ts) (a b : ℕ) (given : 0 < sides ts a b) (x : ℕ) (xb : b ≡ x → ⊥) (nb : sides ts b x ≡ 0) where
  xa : a ≡ x → ⊥
  xa e = omega (arith, (closed_surface_lem c).even a b, ap (sides ts b) e)

  start : Fits (λ y. false) ts ts (map (λ (t : Tri). false) ts)
  start = fits-begun (λ y. false) ts

  after : Fits (only x) ts (moved a b ts ts) (marked a b ts (map (λ (t : Tri). false) ts))
  after = fits-step a b refl refl (λ y e f. xa (f ∙ only-is x y e)) start (λ y e. (
    refl,
    ap (near ts b) (only-is x y e) ∙ not_near (closed_surface_lem c) b x xb nb,
  ))

  same-pair : (ls : List ℕ) → length ls ≡ length ts → ◌≡◌ {A = Pair} (record { tris = retain (marked a b ts (map (λ (t : Tri). false) ts)) (moved a b ts ts); labels = retain (marked a b ts (map (λ (t : Tri). false) ts)) ls }) (collapsed (record { tris = ts; labels = ls }) a b)
  same-pair ls l =
      let gs = map (λ (t : Tri). false) ts in
      subst₂ (λ (q : List Tri) (m : List ℕ). ◌≡◌ {A = Pair} (record { tris = retain (marked a b ts gs) (moved a b ts ts); labels = retain (marked a b ts gs) ls }) (collapsed (record { tris = q; labels = m }) a b))
      (retain-all ts ts) (retain-all ts ls) (step-pair start a b refl refl (subst Surface (sym (retain-all ts ts)) (closed_surface_lem c)) ls l)

  -- the triangles around x, in their order
  pub around-kept : around (collapse a b ts) x ≡ around ts x
  around-kept = sym (ap (λ (q : List Tri). around q x) (fits-tris a b refl refl start ∙ ap (λ (q : List Tri). map (renamed a b) (retain (on a b q) q)) (retain-all ts ts) ∙ sym (collapse-marks a b (closed_surface_lem c))))
      ∙ fits-around after x (only_self x)

  -- the sides at x
  pub sides-from-kept : (z : ℕ) → sides (collapse a b ts) x z ≡ sides ts x z
  sides-from-kept = sides-from ts (collapse a b ts) x around-kept

  pub sides-to-kept : (z : ℕ) → sides (collapse a b ts) z x ≡ sides ts z x
  sides-to-kept = sides-to ts (collapse a b ts) x around-kept

  -- the labels that x carries
  pub carries_kept : (ls : List ℕ) → length ls ≡ length ts → (l : ℕ)
      → carries (collapsed (record { tris = ts; labels = ls }) a b).tris (collapsed (record { tris = ts; labels = ls }) a b).labels x l ≡ carries ts ls x l
  carries_kept ls e l = sym (ap (λ (q : Pair). carries q.tris q.labels x l) (same-pair ls e)) ∙ fits-carries after ls x (only_self x) l

pub two-fewer : {ts : List Tri} → Surface ts → (a b : ℕ) → 0 < sides ts a b → length (collapse a b ts) + 2 ≡ length ts
unfolding collapse
two-fewer {ts} s a b given =
    let h = hinge ts a b in
    let k = hinged s a b given in
    omega (
      arith,
      k.order,
      k.fits,
      length-map (without h.p1 (without h.p2 ts)) (renamed a b),
      length_without (without h.p2 ts) h.p1 (omega (arith, k.order, k.fits, length_without ts h.p2 k.fits)),
      length_without ts h.p2 k.fits,
    )

-- R2
pub record Kept (room : ℕ) (p : Pair) (s : State) (es : List Entry) : Type 0 where
  -- what is not touched is as it was, triangle by triangle
  pub fits : Fits s.touched p.tris s.tris s.gone
  pub closed : Closed (retain s.gone s.tris)
  -- the bounds and Euler's number
  pub below : (n : ℕ) → Below n p.tris → Below n (retain s.gone s.tris)
  pub euler : (n : ℕ) → Below n p.tris → SameEuler n p.tris (retain s.gone s.tris)
  -- two triangles go with each collapse
  pub fewer : length (retain s.gone s.tris) + 2 * length es ≡ length p.tris
  pub accepted : Accepted room p es (result p s)

module _ (p : Pair) (c : Closed p.tris) (l : length p.labels ≡ length p.tris) where
  -- an allowed collapse is one that a history accepts
  good : {s : State} (x y : ℕ) → Allowed p s x y → Fits s.touched p.tris s.tris s.gone → Closed (retain s.gone s.tris)
      → (Good (result p s) (collapse_entry x y)) × Closed (collapse x y (retain s.gone s.tris))
  unfolding hinge
  good {s} x y k f d =
      let ts = p.tris in
      let us = retain s.gone s.tris in
      let ea = fits-around f x k.free_a in
      let eb = fits-around f y k.free_b in
      let given : 0 < sides us x y = omega (arith, k.side, sides-from ts us x ea y) in
      let n = linked_move (closed_surface_lem c) x y ea eb (closed_surface_lem d) k.side k.linked in
      let m : Closed (collapse x y us) = (collapse-closed d x y given).1 n in
      let h = hinged (closed_surface_lem d) x y given in (
        record {
          kind = refl;
          edits = refl;
          there = lt-ltb (first x y us) (length us) (omega (arith, h.order, h.fits));
          fine = (covered_move p (result p s) x y (λ l. fits-carries f p.labels x k.free_a l) (λ l. fits-carries f p.labels y k.free_b l) k.labels);
          closed = (closed?_iff (collapse x y us)).1 m;
        },
        m,
      )

  more : {s t : State} {es : List Entry} (x y room : ℕ) → Kept room p s es → Allowed p s x y → Applied p s t x y → length es < room → Kept room p t (es ++ (collapse_entry x y ∷ []))
  more {s} {t} {es} x y room i k a n = record {
    fits = rw (a.tris, a.gone) (fits-step x y k.free_a k.free_b away i.fits a.touched);
    closed = subst (λ (q : Pair). Closed q.tris) (sym same) g.1;
    below = λ n b. subst (λ (q : Pair). Below n q.tris) (sym same) (λ w u. i.below n b w ((collapse-corners i.closed x y given w).0 u).0);
    euler = λ n b. subst (λ (q : Pair). SameEuler n p.tris q.tris) (sym same) (euler_trans n p.tris (retain s.gone s.tris) (collapse x y (retain s.gone s.tris)) (i.euler n b) (collapse-same-euler i.closed x y given n (i.below n b) g.1));
    fewer = omega (arith, i.fewer, two-fewer (closed_surface_lem i.closed) x y given, ap (λ (q : Pair). length q.tris) same, length-append es (collapse_entry x y ∷ []));
    accepted = subst (λ (q : Pair). Accepted room p (es ++ (collapse_entry x y ∷ [])) q) (sym same) (accepted-more i.accepted (collapse_entry x y) g.0 n);
  }
    where
      g : (Good (result p s) (collapse_entry x y)) × Closed (collapse x y (retain s.gone s.tris))
      g = good x y k i.fits i.closed

      given : 0 < sides (retain s.gone s.tris) x y
      given = omega (arith, k.side, sides-from p.tris (retain s.gone s.tris) x (fits-around i.fits x k.free_a) y)

      away : (z : ℕ) → t.touched z ≡ false → x ≡ z → ⊥
      away z e f =
          let h = side-has p.tris y x (omega (arith, (closed_surface_lem c).even x y, k.side)) in
          true_false (near_next h.1) (ap (near p.tris y) f ∙ (a.touched z e).1)

      same : result p t ≡ collapsed (result p s) x y
      same = (λ i. record { tris = retain (a.gone i) (a.tris i); labels = retain (a.gone i) p.labels })
          ∙ step-pair i.fits x y k.free_a k.free_b (closed_surface_lem i.closed) p.labels l

  pub kept : {s : State} {es : List Entry} → Reached p s es → (room : ℕ) → length es ≤ room → Kept room p s es
  kept {s} (begun e f) room n = record {
    fits = rw (e, f) (fits-begun s.touched p.tris);
    closed = rw (e, f, retain-all p.tris p.tris) c;
    below = λ n b. rw (e, f, retain-all p.tris p.tris) b;
    euler = λ n b. subst (λ (q : List Tri). SameEuler n p.tris q) (sym (ap₂ (λ (g : List Bool) (t : List Tri). retain g t) f e ∙ retain-all p.tris p.tris)) (euler_refl n p.tris);
    fewer = rw (e, f, retain-all p.tris p.tris) (omega arith);
    accepted = subst (λ (q : Pair). Accepted room p [] q) (λ i. record { tris = sym (ap₂ (λ (g : List Bool) (t : List Tri). retain g t) f e ∙ retain-all p.tris p.tris) i; labels = sym (ap (λ (g : List Bool). retain g p.labels) f ∙ retain-all p.tris p.labels) i }) (accepted-none room p);
  }
  kept (further {s = s} {t = t} {es = es} x y r k a) room n =
      let q = length-append es (collapse_entry x y ∷ []) in
      more x y room (kept r room (omega arith)) k a (omega arith)

-- The state of a flip pass, triangle by triangle: what is not touched is as it was, and so are the hinges of untouched sides.
use Prim.Native.Nat.{ℕ, zero, suc, ◌+◌, ◌<◌}
use mathlib.Core.Path.{◌≡◌, refl, sym, ◌∙◌, ap}
use mathlib.Core.Logic.{◌⊎◌, inl, inr}
use mathlib.Core.Bool.{Bool, true, false, cond}
use mathlib.Core.List.{List, [], ◌∷◌}
use lib.ListN.{set, drop}
use Rattle.surface.specs.Triangle.{Tri, names, runs}
use Rattle.surface.specs.Closed.{sides, around}
use Rattle.surface.specs.Edit.{first, place, opposite, earlier, later, Hinge, hinge}
use Rattle.surface.proofs.Bools.{true_false}
use Rattle.surface.proofs.Reading.{turn}
use Rattle.surface.proofs.Surface.{Surface}
use Rattle.surface.proofs.Bridge.{reads_name}
use Rattle.surface.proofs.Hinged.{Hinged, hinged}
use Rattle.surface.specs.Label.{carries}
use Rattle.rounds.proofs.Tests.{around-off, carries-off, has-off}

-- u: the touched corners; the triangles at first and now
pub data Stays (u : ℕ → Bool) : List Tri → List Tri → Type 0 where
  end : Stays u [] []
  same : {t f : Tri} {ts fs : List Tri} → f ≡ t → Stays u ts fs → Stays u (t ∷ ts) (f ∷ fs)
  other : {t f : Tri} {ts fs : List Tri} → ((x : ℕ) → u x ≡ false → (names t x ≡ false) × (names f x ≡ false)) → Stays u ts fs → Stays u (t ∷ ts) (f ∷ fs)

pub stays-begun : (u : ℕ → Bool) (ts : List Tri) → Stays u ts ts
stays-begun u [] = end
stays-begun u (t ∷ ts) = same refl (stays-begun u ts)

pub stays-around : {u : ℕ → Bool} {ts fs : List Tri} → Stays u ts fs → (x : ℕ) → u x ≡ false → around fs x ≡ around ts x
unfolding around
stays-around end x e = refl
stays-around (same p h) x e = rw (p, stays-around h x e) refl
stays-around (other {t = t} {f = f} {ts = ts} {fs = fs} n h) x e = around-off f x (n x e).1 fs ∙ stays-around h x e ∙ sym (around-off t x (n x e).0 ts)

pub stays-carries : {u : ℕ → Bool} {ts fs : List Tri} → Stays u ts fs → (ls : List ℕ) (x : ℕ) → u x ≡ false → (l : ℕ) → carries fs ls x l ≡ carries ts ls x l
unfolding carries
stays-carries end ls x e l = refl
stays-carries (same p h) [] x e l = refl
stays-carries (same p h) (m ∷ ls) x e l = rw (p, stays-carries h ls x e l) refl
stays-carries (other n h) [] x e l = refl
stays-carries (other {t = t} {f = f} {ts = ts} {fs = fs} n h) (m ∷ ls) x e l = carries-off f x (n x e).1 fs m ls l ∙ stays-carries h ls x e l ∙ sym (carries-off t x (n x e).0 ts m ls l)

pub stays-drop : {u : ℕ → Bool} {ts fs : List Tri} → Stays u ts fs → (n : ℕ) → Stays u (drop n ts) (drop n fs)
stays-drop end zero = end
stays-drop end (suc n) = end
stays-drop (same p h) zero = same p h
stays-drop (same p h) (suc n) = stays-drop h n
stays-drop (other p h) zero = other p h
stays-drop (other p h) (suc n) = stays-drop h n

pub stays-first : {u : ℕ → Bool} {ts fs : List Tri} → Stays u ts fs → (a b : ℕ) → u a ≡ false → first a b fs ≡ first a b ts
unfolding first
stays-first end a b e = refl
stays-first (same {t = t} {f = f} p h) a b e = rw (p, stays-first h a b e) refl
stays-first (other {t = t} {f = f} n h) a b e = rw (has-off t a (n a e).0 b, has-off f a (n a e).1 b) (ap suc (stays-first h a b e))

-- a triangle that names an untouched corner is as it was
pub stays-place : {u : ℕ → Bool} {ts fs : List Tri} → Stays u ts fs → (i a : ℕ) → u a ≡ false → names (place ts i) a ≡ true → place fs i ≡ place ts i
stays-place end i a e m = refl
stays-place (same p h) zero a e m = p
stays-place (same p h) (suc i) a e m = stays-place h i a e m
stays-place (other n h) zero a e m = absurd (true_false m (n a e).0)
stays-place (other n h) (suc i) a e m = stays-place h i a e m

pub stays-more : {u v : ℕ → Bool} {ts fs : List Tri} → Stays u ts fs → ((x : ℕ) → v x ≡ false → u x ≡ false) → Stays v ts fs
stays-more end w = end
stays-more (same p h) w = same p (stays-more h w)
stays-more (other p h) w = other (λ x e. p x (w x e)) (stays-more h w)

pub stays-set : {u v : ℕ → Bool} {ts fs : List Tri} → Stays u ts fs → ((x : ℕ) → v x ≡ false → u x ≡ false) → (i : ℕ) (n : Tri)
    → ((x : ℕ) → v x ≡ false → (names (place ts i) x ≡ false) × (names n x ≡ false)) → Stays v ts (set fs i n)
stays-set end w i n k = end
stays-set (same p h) w zero n k = other k (stays-more h w)
stays-set (same p h) w (suc i) n k = same p (stays-set h w i n k)
stays-set (other p h) w zero n k = other k (stays-more h w)
stays-set (other p h) w (suc i) n k = other (λ x e. p x (w x e)) (stays-set h w i n k)

-- the hinge from the two places and their triangles
abbrev build : ℕ → ℕ → ℕ → ℕ → Tri → Tri → Hinge
build a b p q s t =
    let ahead = runs s a b in
    let x = cond ahead a b in
    let y = cond ahead b a in
    record { p1 = p; p2 = q; u = x; v = y; c = opposite s x y; d = opposite t y x }

module _ {u : ℕ → Bool} {ts fs : List Tri} (h : Stays u ts fs) (s : Surface ts) (a b : ℕ) (given : 0 < sides ts a b) (ea : u a ≡ false) where
  k : Hinged ts a b (hinge ts a b)
  k = hinged s a b given

  -- both triangles name a
  pub names-one : names (place ts (earlier a b ts)) a ≡ true
  unfolding hinge
  names-one = pick k.ends
    where
      pick : (((hinge ts a b).u ≡ a) × ((hinge ts a b).v ≡ b)) ⊎ (((hinge ts a b).u ≡ b) × ((hinge ts a b).v ≡ a)) → names (place ts (earlier a b ts)) a ≡ true
      pick (inl e) = ap (names (place ts (earlier a b ts))) (sym e.0) ∙ reads_name k.ahead
      pick (inr e) = ap (names (place ts (earlier a b ts))) (sym e.1) ∙ reads_name (turn k.ahead)

  pub names-two : names (place ts (later a b ts)) a ≡ true
  unfolding hinge
  names-two = pick k.ends
    where
      pick : (((hinge ts a b).u ≡ a) × ((hinge ts a b).v ≡ b)) ⊎ (((hinge ts a b).u ≡ b) × ((hinge ts a b).v ≡ a)) → names (place ts (later a b ts)) a ≡ true
      pick (inl e) = ap (names (place ts (later a b ts))) (sym e.0) ∙ reads_name (turn k.back)
      pick (inr e) = ap (names (place ts (later a b ts))) (sym e.1) ∙ reads_name k.back

  e1 : earlier a b fs ≡ earlier a b ts
  e1 = stays-first h a b ea

  e2 : later a b fs ≡ later a b ts
  e2 = rw (stays-first h a b ea) (ap (λ (n : ℕ). suc (first a b ts) + n) (stays-first (stays-drop h (suc (first a b ts))) a b ea))

  e3 : place fs (earlier a b fs) ≡ place ts (earlier a b ts)
  e3 = ap (place fs) e1 ∙ stays-place h (earlier a b ts) a ea names-one

  e4 : place fs (later a b fs) ≡ place ts (later a b ts)
  e4 = ap (place fs) e2 ∙ stays-place h (later a b ts) a ea names-two

  pub stays-hinge : hinge fs a b ≡ hinge ts a b
  unfolding hinge
  stays-hinge = λ i. build a b (e1 i) (e2 i) (e3 i) (e4 i)

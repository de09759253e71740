-- The search for a side, and the hinge from its two triangles.
use Prim.Native.Nat.{ℕ, suc, ◌+◌, ◌*◌, ◌≤◌, ◌<◌}
use mathlib.Core.Path.{◌≡◌, refl, sym, ◌∙◌, ap, subst}
use mathlib.Core.Bool.{Bool, true, false, cond}
use mathlib.Core.List.{List, [], ◌∷◌}
use native.Mathlib.Omega.{arith}
use lib.ListN.{length, get_or, drop}
use lib.Seq.{drop-cons, drop-length}
use Rattle.surface.specs.Triangle.{Tri, tri, runs}
use Rattle.surface.specs.Closed.{Closed}
use Rattle.surface.specs.Edit.{has, first, place, later, opposite, Hinge, hinge}
use Rattle.surface.proofs.Laws.{side-exists, hinge-found}
use Rattle.history.proofs.Verdict.{first-has}
use Rattle.surface.specs.Flat.{tri_of, held}
use Rattle.surface.proofs.Held.{length-held, place-held}
use Rattle.std.specs.Prelude.{Option, None, Some, IsSome}
use Rattle.verdicts.specs.Found.{FirstOn, SideAt}

-- the search for a side, a triangle at a time
module _ (a b : ℕ) (ts : List Tri) (i : ℕ) (fits : i < length ts) where
  pub found_here : has a b (place ts i) ≡ true → first a b (drop i ts) ≡ 0
  unfolding first
  found_here e = rw (drop-cons ts i (tri 0 0 0) fits, first, e)

  pub found-later : has a b (place ts i) ≡ false → first a b (drop i ts) ≡ suc (first a b (drop (suc i) ts))
  unfolding first
  found-later e = rw (drop-cons ts i (tri 0 0 0) fits, first, e)

pub found_nowhere : (a b : ℕ) (ts : List Tri) → first a b (drop (length ts) ts) ≡ 0
unfolding first
found_nowhere a b ts = rw (drop-length ts)

-- a scan for a side: i triangles are passed, and what is left to find stands at w
module _ (l : List ℕ) (n a b i w : ℕ) (p : 3 * n ≤ length l) (inv : i + first a b (drop i (held l n)) ≡ w) where
  -- the triangle at i, as an array, and what the test of it says
  module _ (q : i < n) (t : List ℕ) (e : t ≡ get_or l (3 * i) 0 ∷ get_or l (3 * i + 1) 0 ∷ get_or l (3 * i + 2) 0 ∷ []) (k : Bool) (f : k ≡ has a b (tri_of t)) where
    tests : k ≡ has a b (place (held l n) i)
    tests = f ∙ ap (λ (s : Tri). has a b s) (ap tri_of e ∙ sym (place-held l n i p q))

    pub scan_hit : k ≡ true → i ≡ w
    scan_hit g = omega (arith, found_here a b (held l n) i (omega (arith, length-held l n p)) (sym tests ∙ g))

    pub scan_miss : k ≡ false → i + 1 + first a b (drop (i + 1) (held l n)) ≡ w
    scan_miss g =
        let h : i + 1 ≡ suc i = omega arith in
        rw h (omega (arith, found-later a b (held l n) i (omega (arith, length-held l n p)) (sym tests ∙ g)))

  pub scan_end : i ≤ n → n ≤ i → i ≡ w
  scan_end q r =
      let h : i ≡ length (held l n) = omega (arith, length-held l n p) in
      omega (arith, ap (λ (j : ℕ). first a b (drop j (held l n))) h, found_nowhere a b (held l n))

-- in a closed list the second triangle of a side is there
pub later-fits : {ts : List Tri} → Closed ts → (a b : ℕ) → first a b ts < length ts → later a b ts < length ts
unfolding hinge
later-fits {ts} c a b l = let k = hinge-found c a b (side-exists c a b (first a b ts) l (first-has a b ts l)) in k.fits

-- the hinge from the two triangles, as arrays
module _ (l : List ℕ) (n p q a b : ℕ) (m : 3 * n ≤ length l) (pn : p < n) (qn : q < n) (ep : p ≡ first a b (held l n)) (eq : q ≡ p + 1 + first a b (drop (p + 1) (held l n)))
    (t : List ℕ) (et : t ≡ get_or l (3 * p) 0 ∷ get_or l (3 * p + 1) 0 ∷ get_or l (3 * p + 2) 0 ∷ [])
    (s : List ℕ) (es : s ≡ get_or l (3 * q) 0 ∷ get_or l (3 * q + 1) 0 ∷ get_or l (3 * q + 2) 0 ∷ []) where
  abbrev ts : List Tri
  ts = held l n

  is-t : tri_of t ≡ place ts (first a b ts)
  is-t = ap tri_of et ∙ sym (place-held l n p m pn) ∙ ap (λ (i : ℕ). place ts i) ep

  is-q : q ≡ later a b ts
  is-q = eq ∙ ap (λ (i : ℕ). i + first a b (drop i ts)) (let h : p + 1 ≡ suc p = omega arith in h ∙ ap suc ep)

  is_s : tri_of s ≡ place ts (later a b ts)
  is_s = ap tri_of es ∙ sym (place-held l n q m qn) ∙ ap (λ (i : ℕ). place ts i) is-q

  pub hinge-made : (k : Bool) → k ≡ runs (tri_of t) a b → (u v : ℕ) → (u ≡ cond k a b) × (v ≡ cond k b a) → (x y : ℕ) → x ≡ opposite (tri_of t) u v → y ≡ opposite (tri_of s) v u
      → ◌≡◌ {A = Hinge} (record { p1 = p; p2 = q; u = u; v = v; c = x; d = y }) (hinge ts a b)
  unfolding hinge
  hinge-made k ek u v e x y ex ey =
      let kk : k ≡ runs (place ts (first a b ts)) a b = ek ∙ ap (λ (r : Tri). runs r a b) is-t in
      let eu : u ≡ cond (runs (place ts (first a b ts)) a b) a b = e.0 ∙ ap (λ (j : Bool). cond j a b) kk in
      let ev : v ≡ cond (runs (place ts (first a b ts)) a b) b a = e.1 ∙ ap (λ (j : Bool). cond j b a) kk in
      λ i. record {
        p1 = ep i;
        p2 = is-q i;
        u = eu i;
        v = ev i;
        c = (ex ∙ (λ j. opposite (is-t j) (eu j) (ev j))) i;
        d = (ey ∙ (λ j. opposite (is_s j) (ev j) (eu j))) i;
      }

pub later_in : {l : List ℕ} {n p a b : ℕ} (q : ℕ) → SideAt l n p a b → q ≡ p + 1 + first a b (drop (p + 1) (held l n)) → q < n
later_in {l} {n} {p} {a} {b} q s e =
    let ts = held l n in
    let m = length-held l n s.ready.room in
    let f = later-fits s.ready.closed a b (omega (arith, s.is, s.fits)) in
    let h : p + 1 ≡ suc p = omega arith in
    let g : q ≡ later a b ts = e ∙ ap (λ (i : ℕ). i + first a b (drop i ts)) (h ∙ ap suc s.is) in
    omega arith

pub later_some : {l : List ℕ} {n p a b : ℕ} (r : Option ℕ) → SideAt l n p a b → FirstOn (held l n) n (p + 1) a b r → IsSome r
later_some {n = n} None s f = absurd (let q : n < n = later_in n s (sym f) in omega arith)
later_some (Some i) s f = refl

pub later_at : (l : List ℕ) (n p a b : ℕ) {r : Option ℕ} {q : ℕ} → r ≡ Some q → FirstOn (held l n) n (p + 1) a b r → (q ≡ p + 1 + first a b (drop (p + 1) (held l n))) × (q < n)
later_at l n p a b e f = subst (FirstOn (held l n) n (p + 1) a b) e f

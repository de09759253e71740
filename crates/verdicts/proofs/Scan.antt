-- Tests of all triangles, a triangle at a time.
use Prim.Native.Nat.{ℕ, suc, ◌+◌, ◌*◌, ◌≤◌, ◌<◌}
use mathlib.Core.Path.{◌≡◌, refl, sym, ◌∙◌, ap}
use mathlib.Core.Bool.{Bool, true, false, not, ◌&&◌, ◌||◌}
use mathlib.Core.List.{List, [], ◌∷◌, ◌++◌}
use native.Mathlib.Omega.{arith}
use native.Mathlib.Decide.{dec_lt}
use lib.Dec.{eqb}
use lib.ListN.{length, get_or, drop, length-append}
use lib.Seq.{drop-cons, drop-length}
use borrow.Author.Tests.{eqb-true, eqb-false, eq-eqb, ne_eqb}
use Rattle.surface.specs.Triangle.{Tri, tri, names}
use Rattle.surface.specs.Closed.{one, sides, Step, step, keep, around, Closed}
use Rattle.surface.specs.Edit.{has, first, place, Hinge, hinge}
use Rattle.surface.proofs.Bools.{or_none, none_of}
use Rattle.surface.proofs.Laws.{side-exists, hinge-found}
use Rattle.surface.specs.Check.{every}
use Rattle.surface.specs.Flat.{tri_of, held}
use Rattle.std.specs.Prelude.{Option, None, Some}
use Rattle.std.specs.Option.{is_some}
use Rattle.verdicts.specs.Found.{FirstOn, hinge_of, Ready}
use Rattle.verdicts.specs.declared.Found.{Found}
use Rattle.history.specs.Local.{no_common?, collapse?}
use Rattle.history.proofs.Verdict.{first-has}
use Rattle.surface.proofs.Held.{length-held, place-held}

-- a side that the list has is found
pub side-found : {ts : List Tri} → Closed ts → (a b : ℕ) → 0 < sides ts a b → first a b ts < length ts
unfolding hinge
side-found c a b g = let k = hinge-found c a b g in omega (arith, k.order, k.fits)

pub first-most : (a b : ℕ) (ts : List Tri) → first a b ts ≤ length ts
unfolding first
first-most a b [] = omega arith
first-most a b (t ∷ ts) = go (has a b t) refl (first-most a b ts)
  where
    go : (k : Bool) → has a b t ≡ k → first a b ts ≤ length ts → first a b (t ∷ ts) ≤ suc (length ts)
    go true e f = rw (first, e) (omega arith)
    go false e f = rw (first, e) (omega arith)

absent_law : {l : List ℕ} {n : ℕ} (x y q : ℕ) → Ready l n → q ≡ 0 + first x y (drop 0 (held l n)) → eqb q n ≡ eqb (sides (held l n) x y) 0
absent_law {l} {n} x y q r e = go (eqb (sides (held l n) x y) 0) refl
  where
    m : length (held l n) ≡ n
    m = length-held l n r.room

    go : (k : Bool) → eqb (sides (held l n) x y) 0 ≡ k → eqb q n ≡ k
    go true f =
        let z = eqb-true (sides (held l n) x y) 0 f in
        eq-eqb q n (let d : 0 < sides (held l n) x y → ⊥ = λ p. omega arith in at_end (dec_lt (first x y (held l n)) (length (held l n))) d)
      where
        at_end : Dec (first x y (held l n) < length (held l n)) → (0 < sides (held l n) x y → ⊥) → q ≡ n
        at_end (yes p) d = absurd (d (side-exists r.closed x y (first x y (held l n)) p (first-has x y (held l n) p)))
        at_end (no p) d = omega (arith, m, first-most x y (held l n))
    go false f =
        let z = eqb-false (sides (held l n) x y) 0 f in
        ne_eqb q n (λ g. omega (arith, m, side-found r.closed x y (omega arith)))

pub none_found : {l : List ℕ} {n : ℕ} (x y : ℕ) (r : Option ℕ) → Ready l n → FirstOn (held l n) n 0 x y r → (k : Bool) → is_some r ≡ not k → k ≡ eqb (sides (held l n) x y) 0
none_found {l} {n} x y None s f true e = sym (eq-eqb (0 + first x y (drop 0 (held l n))) n f) ∙ absent_law x y (0 + first x y (drop 0 (held l n))) s refl
none_found x y None s f false e = cc
none_found x y (Some i) s f true e = cc
none_found {l} {n} x y (Some i) s f false e = sym (ne_eqb (0 + first x y (drop 0 (held l n))) n (λ z. omega (arith, f.0, f.1))) ∙ absent_law x y (0 + first x y (drop 0 (held l n))) s refl

-- the steps of the first triangle, and of the others
keep_append : (k : Bool) (s : Step) (l m : List Step) → keep k s (l ++ m) ≡ keep k s l ++ m
keep_append true s l m = refl
keep_append false s l m = refl

around_parts : (t : Tri) (ts : List Tri) (v : ℕ) → around (t ∷ ts) v ≡ around (t ∷ []) v ++ around ts v
unfolding around
around_parts t ts v =
    let z = around ts v in
    ap (λ (l : List Step). keep (eqb t.a v) (step t.b t.c) l)
    (ap (λ (l : List Step). keep (eqb t.b v) (step t.c t.a) l) (keep_append (eqb t.c v) (step t.a t.b) [] z)
    ∙ keep_append (eqb t.b v) (step t.c t.a) (keep (eqb t.c v) (step t.a t.b) []) z)
    ∙ keep_append (eqb t.a v) (step t.b t.c) (keep (eqb t.b v) (step t.c t.a) (keep (eqb t.c v) (step t.a t.b) [])) z

around-drop : (ts : List Tri) (i v : ℕ) → i < length ts → around (drop i ts) v ≡ around (place ts i ∷ []) v ++ around (drop (suc i) ts) v
around-drop ts i v p = ap (λ (l : List Tri). around l v) (drop-cons ts i (tri 0 0 0) p) ∙ around_parts (place ts i) (drop (suc i) ts) v

keep-length : (k : Bool) (s : Step) (l : List Step) → length (keep k s l) ≡ one k + length l
keep-length true s l = omega arith
keep-length false s l = omega arith

pub named_law : (t : Tri) (v : ℕ) → length (around (t ∷ []) v) ≡ one (eqb t.a v) + (one (eqb t.b v) + one (eqb t.c v))
unfolding around
named_law t v = omega (
  arith,
  keep-length (eqb t.a v) (step t.b t.c) (keep (eqb t.b v) (step t.c t.a) (keep (eqb t.c v) (step t.a t.b) [])),
  keep-length (eqb t.b v) (step t.c t.a) (keep (eqb t.c v) (step t.a t.b) []),
  keep-length (eqb t.c v) (step t.a t.b) [],
)

pub not_named : (t : Tri) (v : ℕ) → names t v ≡ false → (eqb t.a v ≡ false) × (eqb t.b v ≡ false) × (eqb t.c v ≡ false)
not_named t v e =
    let g = or_none (eqb t.a v) (eqb t.b v || eqb t.c v) e in
    let h = or_none (eqb t.b v) (eqb t.c v) g.1 in
    (g.0, h.0, h.1)

pub unnamed : (t : Tri) (v : ℕ) → names t v ≡ false → 0 ≡ length (around (t ∷ []) v)
unnamed t v e = sym (named_law t v ∙ none_of (eqb t.a v) (eqb t.b v) (eqb t.c v) e)

all_keep : (f : Step → Bool) (k : Bool) (s : Step) (l : List Step) → every f (keep k s l) ≡ ((not k || f s) && every f l)
unfolding every
all_keep f true s l = refl
all_keep f false s l = refl

all_append : (f : Step → Bool) (l m : List Step) → every f (l ++ m) ≡ (every f l && every f m)
unfolding every
all_append f [] m = refl
all_append f (s ∷ l) m = go (f s) (all_append f l m)
  where
    go : (k : Bool) → every f (l ++ m) ≡ (every f l && every f m) → (k && every f (l ++ m)) ≡ ((k && every f l) && every f m)
    go true e = e
    go false e = refl

pub all_three : (f : Step → Bool) (t : Tri) (a : ℕ) → every f (around (t ∷ []) a)
    ≡ ((not (eqb t.a a) || f (step t.b t.c)) && ((not (eqb t.b a) || f (step t.c t.a)) && ((not (eqb t.c a) || f (step t.a t.b)) && true)))
unfolding around every
all_three f t a = rw (all_keep f (eqb t.a a), all_keep f (eqb t.b a), all_keep f (eqb t.c a))

-- a scan of the steps around a corner
module _ (l : List ℕ) (n i v : ℕ) (p : 3 * n ≤ length l) (q : i < n) (t : List ℕ) (e : t ≡ get_or l (3 * i) 0 ∷ get_or l (3 * i + 1) 0 ∷ get_or l (3 * i + 2) 0 ∷ []) where
  is-t : tri_of t ≡ place (held l n) i
  is-t = ap tri_of e ∙ sym (place-held l n i p q)

  parts : around (drop i (held l n)) v ≡ around (tri_of t ∷ []) v ++ around (drop (i + 1) (held l n)) v
  parts =
      let h : i + 1 ≡ suc i = omega arith in
      rw (is-t, h) (around-drop (held l n) i v (omega (arith, length-held l n p)))

  -- the count of them: s before this triangle, k in it
  module _ (s k w : ℕ) (f : s + length (around (drop i (held l n)) v) ≡ w) (g : k ≡ length (around (tri_of t ∷ []) v)) where
    pub count-on : s + k + length (around (drop (i + 1) (held l n)) v) ≡ w
    count-on = omega (arith, ap length parts, length-append (around (tri_of t ∷ []) v) (around (drop (i + 1) (held l n)) v))

    pub count_stop : 3 < s + k → false ≡ eqb w 3
    count_stop m = sym (ne_eqb w 3 (λ e. omega (arith, count-on)))

  module _ (f : Step → Bool) (w : Bool) (inv : every f (around (drop i (held l n)) v) ≡ w) (k : Bool) (g : k ≡ every f (around (tri_of t ∷ []) v)) where
    both : (every f (around (tri_of t ∷ []) v) && every f (around (drop (i + 1) (held l n)) v)) ≡ w
    both = sym (ap (every f) parts ∙ all_append f (around (tri_of t ∷ []) v) (around (drop (i + 1) (held l n)) v)) ∙ inv

    pub all_stop : k ≡ false → false ≡ w
    all_stop h = ap (λ (b : Bool). b && every f (around (drop (i + 1) (held l n)) v)) (sym (sym g ∙ h)) ∙ both

    pub all-on : k ≡ true → every f (around (drop (i + 1) (held l n)) v) ≡ w
    all-on h = ap (λ (b : Bool). b && every f (around (drop (i + 1) (held l n)) v)) (sym (sym g ∙ h)) ∙ both

pub drop_end : (l : List ℕ) (n i v : ℕ) → 3 * n ≤ length l → i ≤ n → n ≤ i → around (drop i (held l n)) v ≡ []
unfolding around
drop_end l n i v p q r =
    let h : i ≡ length (held l n) = omega (arith, length-held l n p) in
    ap (λ (j : ℕ). around (drop j (held l n)) v) h ∙ ap (λ (m : List Tri). around m v) (drop-length (held l n))

pub count_end : (l : List ℕ) (n i v s w : ℕ) → 3 * n ≤ length l → i ≤ n → n ≤ i → s + length (around (drop i (held l n)) v) ≡ w → eqb s 3 ≡ eqb w 3
count_end l n i v s w p q r f =
    let h : s ≡ w = omega (arith, ap length (drop_end l n i v p q r)) in
    ap (λ (x : ℕ). eqb x 3) h

-- the three steps of a triangle, one test after the other
module _ (f : Step → Bool) (t : Tri) (a : ℕ) (k1 : Bool) (e1 : k1 ≡ (not (eqb t.a a) || f (step t.b t.c))) where
  pub three-first : k1 ≡ false → false ≡ every f (around (t ∷ []) a)
  three-first g = rw (all_three f t a, ← e1, g)

  module _ (g1 : k1 ≡ true) (k2 : Bool) (e2 : k2 ≡ (not (eqb t.b a) || f (step t.c t.a))) where
    pub three-second : k2 ≡ false → false ≡ every f (around (t ∷ []) a)
    three-second g = rw (all_three f t a, ← e1, g1, ← e2, g)

    pub three_third : k2 ≡ true → (k3 : Bool) → k3 ≡ (not (eqb t.c a) || f (step t.a t.b)) → k3 ≡ every f (around (t ∷ []) a)
    three_third g k3 e3 = rw (all_three f t a, ← e1, g1, ← e2, g, ← e3) (and_true k3)
      where
        and_true : (k : Bool) → k ≡ (k && true)
        and_true true = refl
        and_true false = refl

-- the collapse's test by the parts of a hinge that was found
module _ (ts : List Tri) (a b : ℕ) (h : Found) (e : hinge_of h ≡ hinge ts a b) (k : Bool) (ek : k ≡ no_common? ts a b h.c h.d) where
  by_parts : (k && not (eqb (length (around ts a)) 3 && eqb (length (around ts b)) 3)) ≡ collapse? ts a b
  unfolding collapse?
  by_parts = rw ek (ap (λ (g : Hinge). no_common? ts a b g.c g.d && not (eqb (length (around ts a)) 3 && eqb (length (around ts b)) 3)) e)

  pub collapse-common : k ≡ false → false ≡ collapse? ts a b
  collapse-common g = sym (ap (λ (j : Bool). j && not (eqb (length (around ts a)) 3 && eqb (length (around ts b)) 3)) g) ∙ by_parts

  module _ (g : k ≡ true) (x : Bool) (ex : x ≡ eqb (length (around ts a)) 3) where
    with_x : not (x && eqb (length (around ts b)) 3) ≡ collapse? ts a b
    with_x = ap (λ (y : Bool). not (y && eqb (length (around ts b)) 3)) ex ∙ sym (ap (λ (j : Bool). j && not (eqb (length (around ts a)) 3 && eqb (length (around ts b)) 3)) g) ∙ by_parts

    pub collapse-many : x ≡ false → true ≡ collapse? ts a b
    collapse-many n = sym (ap (λ (j : Bool). not (j && eqb (length (around ts b)) 3)) n) ∙ with_x

    pub collapse-three : x ≡ true → (y : Bool) → y ≡ eqb (length (around ts b)) 3 → not y ≡ collapse? ts a b
    collapse-three m y ey = ap not ey ∙ sym (ap (λ (j : Bool). not (j && eqb (length (around ts b)) 3)) m) ∙ with_x

one-most : (k : Bool) → one k ≤ 1
one-most true = omega arith
one-most false = omega arith

pub around-most : (ts : List Tri) (v : ℕ) → length (around ts v) ≤ 3 * length ts
unfolding around
around-most [] v = omega arith
around-most (t ∷ ts) v = omega (
  arith,
  ap length (around_parts t ts v),
  length-append (around (t ∷ []) v) (around ts v),
  named_law t v,
  around-most ts v,
  one-most (eqb t.a v),
  one-most (eqb t.b v),
  one-most (eqb t.c v),
)

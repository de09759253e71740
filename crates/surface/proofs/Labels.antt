-- No flip and no collapse that the labels allow gives a corner a label that it lacked.
use Prim.Native.Nat.{ℕ, zero, suc, ◌<◌}
use mathlib.Core.Path.{◌≡◌, refl, sym, ◌∙◌, ap, subst}
use mathlib.Core.Logic.{◌⊎◌, inl, inr}
use mathlib.Core.Bool.{Bool, true, false, ◌&&◌, ◌||◌, false≢true}
use mathlib.Core.List.{List, [], ◌∷◌, map}
use native.Mathlib.Omega.{arith}
use native.Mathlib.Decide.{ℕ_discrete}
use lib.Dec.{eqb}
use lib.ListN.{length, get_or, set, length-set, length-map}
use lib.Seq.{get_or-set_same, get_or-set_other}
use borrow.Author.Tests.{eqb-true, eq-eqb}
use Rattle.surface.specs.Triangle.{Tri, tri, names}
use Rattle.surface.specs.Closed.{sides, Closed}
use Rattle.surface.specs.Edit.{Hinge, hinge, flip, collapse, without, renamed, put, place}
use Rattle.surface.specs.Label.{carries, LikeLabels, Covers, collapsed_labels, NoNewLabel}
use Rattle.surface.proofs.Bools.{both, or_cases}
use Rattle.surface.proofs.Reading.{turn, r0, r1, r2}
use Rattle.surface.proofs.Rename.{put-at, put-off}
use Rattle.surface.proofs.Places.{length_without}
use Rattle.surface.proofs.Hinged.{Hinged, hinged}
use Rattle.surface.proofs.Bridge.{reads_name, closed_surface_lem}

-- a place where the corner and the label meet
pub record Carried (ts : List Tri) (ls : List ℕ) (v l : ℕ) : Type 0 where
  pub at : ℕ
  pub fits : at < length ts
  pub fits' : at < length ls
  pub names : names (place ts at) v ≡ true
  pub label : get_or ls at 0 ≡ l

pub carried : (ts : List Tri) (ls : List ℕ) (v l : ℕ) → carries ts ls v l ≡ true → Carried ts ls v l
unfolding carries
carried [] ls v l e = absurd (false≢true e)
carried (t ∷ ts) [] v l e = absurd (false≢true e)
carried (t ∷ ts) (m ∷ ls) v l e = go (names t v && eqb m l) refl (carried ts ls v l) e
  where
    go : (k : Bool) → (names t v && eqb m l) ≡ k → (carries ts ls v l ≡ true → Carried ts ls v l) → (k || carries ts ls v l) ≡ true → Carried (t ∷ ts) (m ∷ ls) v l
    go true f g e = let b = both (names t v) (eqb m l) f in record { at = 0; fits = omega arith; fits' = omega arith; names = b.0; label = eqb-true m l b.1 }
    go false f g e = let c = g e in record { at = suc c.at; fits = omega (arith, c.fits); fits' = omega (arith, c.fits'); names = c.names; label = c.label }

pub carries-at : (ts : List Tri) (ls : List ℕ) (v l i : ℕ) → i < length ts → i < length ls → names (place ts i) v ≡ true → get_or ls i 0 ≡ l → carries ts ls v l ≡ true
unfolding carries
carries-at [] ls v l i p q n e = absurd (omega arith)
carries-at (t ∷ ts) [] v l i p q n e = absurd (omega arith)
carries-at (t ∷ ts) (m ∷ ls) v l zero p q n e = rw (n, eq-eqb m l e)
carries-at (t ∷ ts) (m ∷ ls) v l (suc i) p q n e = go (names t v && eqb m l) refl (carries-at ts ls v l i (omega arith) (omega arith) n e)
  where
    go : (k : Bool) → (names t v && eqb m l) ≡ k → carries ts ls v l ≡ true → carries (t ∷ ts) (m ∷ ls) v l ≡ true
    go true f g = rw (f, carries)
    go false f g = rw (f, carries) g

-- where an entry stood before the one at j was taken out
unfoldable pub skip : ℕ → ℕ → ℕ
skip zero i = suc i
skip (suc j) zero = zero
skip (suc j) (suc i) = suc (skip j i)

pub out_at : {A : Type 0} (l : List A) (j i : ℕ) (d : A) → get_or (without j l) i d ≡ get_or l (skip j i) d
unfolding without skip
out_at [] j i d = refl
out_at (x ∷ l) zero i d = refl
out_at (x ∷ l) (suc j) zero d = refl
out_at (x ∷ l) (suc j) (suc i) d = out_at l j i d

pub skip_fits : {A : Type 0} (l : List A) (j i : ℕ) → j < length l → i < length (without j l) → skip j i < length l
unfolding without skip
skip_fits [] j i p q = absurd (omega arith)
skip_fits (x ∷ l) zero i p q = omega arith
skip_fits (x ∷ l) (suc j) zero p q = omega arith
skip_fits (x ∷ l) (suc j) (suc i) p q = omega (arith, skip_fits l j i (omega arith) (omega arith))

pub place_map : (f : Tri → Tri) (ts : List Tri) (i : ℕ) → i < length ts → place (map f ts) i ≡ f (place ts i)
place_map f [] i p = absurd (omega arith)
place_map f (t ∷ ts) zero p = refl
place_map f (t ∷ ts) (suc i) p = place_map f ts i (omega arith)

pub named : {x y z w : ℕ} → names (tri x y z) w ≡ true → (x ≡ w) ⊎ ((y ≡ w) ⊎ (z ≡ w))
named {x} {y} {z} {w} e = pick (or_cases (eqb x w) (eqb y w) (eqb z w) e)
  where
    pick : (eqb x w ≡ true) ⊎ ((eqb y w ≡ true) ⊎ (eqb z w ≡ true)) → (x ≡ w) ⊎ ((y ≡ w) ⊎ (z ≡ w))
    pick (inl q) = inl (eqb-true x w q)
    pick (inr (inl q)) = inr (inl (eqb-true y w q))
    pick (inr (inr q)) = inr (inr (eqb-true z w q))

pub names_of : (t : Tri) (w : ℕ) → (t.a ≡ w) ⊎ ((t.b ≡ w) ⊎ (t.c ≡ w)) → names t w ≡ true
names_of t w (inl e) = reads_name (r0 e refl refl)
names_of t w (inr (inl e)) = reads_name (r1 e refl refl)
names_of t w (inr (inr e)) = reads_name (r2 e refl refl)

-- a corner of a renamed triangle was there before, or it is a, and b was there
put_was : (a b x w : ℕ) → put a b x ≡ w → (x ≡ w) ⊎ ((x ≡ b) × (w ≡ a))
put_was a b x w e = pick (ℕ_discrete x b)
  where
    pick : Dec (x ≡ b) → (x ≡ w) ⊎ ((x ≡ b) × (w ≡ a))
    pick (yes q) = inr (q, sym e ∙ put-at a b x q)
    pick (no n) = inl (sym (put-off a b x n) ∙ e)

renamed-names : (a b : ℕ) (t : Tri) (w : ℕ) → names (renamed a b t) w ≡ true → (names t w ≡ true) ⊎ ((names t b ≡ true) × (w ≡ a))
renamed-names a b t w e = pick (named e)
  where
    c : (t.c ≡ w) ⊎ ((t.c ≡ b) × (w ≡ a)) → (names t w ≡ true) ⊎ ((names t b ≡ true) × (w ≡ a))
    c (inl q) = inl (names_of t w (inr (inr q)))
    c (inr q) = inr (names_of t b (inr (inr q.0)), q.1)

    m : (t.b ≡ w) ⊎ ((t.b ≡ b) × (w ≡ a)) → (names t w ≡ true) ⊎ ((names t b ≡ true) × (w ≡ a))
    m (inl q) = inl (names_of t w (inr (inl q)))
    m (inr q) = inr (names_of t b (inr (inl q.0)), q.1)

    f : (t.a ≡ w) ⊎ ((t.a ≡ b) × (w ≡ a)) → (names t w ≡ true) ⊎ ((names t b ≡ true) × (w ≡ a))
    f (inl q) = inl (names_of t w (inl q))
    f (inr q) = inr (names_of t b (inl q.0), q.1)

    pick : (put a b t.a ≡ w) ⊎ ((put a b t.b ≡ w) ⊎ (put a b t.c ≡ w)) → (names t w ≡ true) ⊎ ((names t b ≡ true) × (w ≡ a))
    pick (inl q) = f (put_was a b t.a w q)
    pick (inr (inl q)) = m (put_was a b t.b w q)
    pick (inr (inr q)) = c (put_was a b t.c w q)

module _ {ts : List Tri} (s : Closed ts) (ls : List ℕ) (labelled : length ls ≡ length ts) (a b : ℕ) (g : 0 < sides ts a b) where
  abbrev h : Hinge
  h = hinge ts a b

  k : Hinged ts a b (hinge ts a b)
  k = hinged (closed_surface_lem s) a b g

  at : (i w l : ℕ) → i < length ts → names (place ts i) w ≡ true → get_or ls i 0 ≡ l → carries ts ls w l ≡ true
  at i w l m n e = carries-at ts ls w l i m (omega (arith, labelled)) n e

  -- the flip: the two triangles have one label
  pub flip_no_new : LikeLabels ts ls a b → NoNewLabel ts ls (flip a b ts) ls
  unfolding flip
  flip_no_new same w l e = pick (carried (flip a b ts) ls w l e)
    where
      n1 : Tri
      n1 = tri h.c h.d h.v

      n2 : Tri
      n2 = tri h.d h.c h.u

      m1 : h.p1 < length ts
      m1 = omega (arith, k.order, k.fits)

      one : (x : ℕ) → names (place ts h.p1) x ≡ true → x ≡ w → get_or ls h.p1 0 ≡ l → carries ts ls w l ≡ true
      one x n q f = at h.p1 w l m1 (subst (λ (y : ℕ). names (place ts h.p1) y ≡ true) q n) f

      two : (x : ℕ) → names (place ts h.p2) x ≡ true → x ≡ w → get_or ls h.p1 0 ≡ l → carries ts ls w l ≡ true
      two x n q f = at h.p2 w l k.fits (subst (λ (y : ℕ). names (place ts h.p2) y ≡ true) q n) (sym same ∙ f)

      first : (h.c ≡ w) ⊎ ((h.d ≡ w) ⊎ (h.v ≡ w)) → get_or ls h.p1 0 ≡ l → carries ts ls w l ≡ true
      first (inl q) f = one h.c (reads_name (turn (turn k.ahead))) q f
      first (inr (inl q)) f = two h.d (reads_name (turn (turn k.back))) q f
      first (inr (inr q)) f = one h.v (reads_name (turn k.ahead)) q f

      second : (h.d ≡ w) ⊎ ((h.c ≡ w) ⊎ (h.u ≡ w)) → get_or ls h.p1 0 ≡ l → carries ts ls w l ≡ true
      second (inl q) f = two h.d (reads_name (turn (turn k.back))) q f
      second (inr (inl q)) f = one h.c (reads_name (turn (turn k.ahead))) q f
      second (inr (inr q)) f = one h.u (reads_name k.ahead) q f

      case : (i : ℕ) → i < length ls → names (place (set (set ts h.p1 n1) h.p2 n2) i) w ≡ true → get_or ls i 0 ≡ l
          → Dec (i ≡ h.p2) → Dec (i ≡ h.p1) → carries ts ls w l ≡ true
      case i m n f (yes q) d =
          let r : place (set (set ts h.p1 n1) h.p2 n2) i ≡ n2 = rw q (get_or-set_same (set ts h.p1 n1) h.p2 n2 (tri 0 0 0) (omega (arith, length-set ts h.p1 n1, k.fits))) in
          second (named (subst (λ (t : Tri). names t w ≡ true) r n)) (same ∙ ap (λ (n : ℕ). get_or ls n 0) (sym q) ∙ f)
      case i m n f (no x) (yes q) =
          let r : place (set (set ts h.p1 n1) h.p2 n2) i ≡ n1 = get_or-set_other (set ts h.p1 n1) h.p2 i n2 (tri 0 0 0) x ∙ rw q (get_or-set_same ts h.p1 n1 (tri 0 0 0) m1) in
          first (named (subst (λ (t : Tri). names t w ≡ true) r n)) (ap (λ (n : ℕ). get_or ls n 0) (sym q) ∙ f)
      case i m n f (no x) (no y) =
          let r : place (set (set ts h.p1 n1) h.p2 n2) i ≡ place ts i = get_or-set_other (set ts h.p1 n1) h.p2 i n2 (tri 0 0 0) x ∙ get_or-set_other ts h.p1 i n1 (tri 0 0 0) y in
          at i w l (omega (arith, labelled)) (subst (λ (t : Tri). names t w ≡ true) r n) f

      pick : Carried (flip a b ts) ls w l → carries ts ls w l ≡ true
      pick c = case c.at c.fits' c.names c.label (ℕ_discrete c.at h.p2) (ℕ_discrete c.at h.p1)

  -- the collapse: every label of b is one of a
  pub collapse_no_new : Covers ts ls a b → NoNewLabel ts ls (collapse a b ts) (collapsed_labels ts ls a b)
  unfolding collapse
  collapse_no_new cov w l e = pick (carried (collapse a b ts) (collapsed_labels ts ls a b) w l e)
    where
      rest : List Tri
      rest = without h.p1 (without h.p2 ts)

      from : (i : ℕ) → i < length ts → names (place ts i) b ≡ true → get_or ls i 0 ≡ l → w ≡ a → carries ts ls w l ≡ true
      from i m n f q =
          subst (λ (x : ℕ). carries ts ls x l ≡ true) (sym q) (cov l (at i b l m n f))

      case : (i : ℕ) → i < length ts → get_or ls i 0 ≡ l → (names (place ts i) w ≡ true) ⊎ ((names (place ts i) b ≡ true) × (w ≡ a)) → carries ts ls w l ≡ true
      case i m f (inl n) = at i w l m n f
      case i m f (inr n) = from i m n.0 f n.1

      pick : Carried (map (renamed a b) rest) (without h.p1 (without h.p2 ls)) w l → carries ts ls w l ≡ true
      pick c =
          let i = c.at in
          let m : i < length rest = omega (arith, c.fits, length-map rest (renamed a b)) in
          let n = length_without ts h.p2 k.fits in
          let j = skip h.p1 i in
          let f : j < length (without h.p2 ts) = skip_fits (without h.p2 ts) h.p1 i (omega (arith, k.order, k.fits)) m in
          let f' : skip h.p2 j < length ts = skip_fits ts h.p2 j k.fits f in
          let t : place rest i ≡ place ts (skip h.p2 j) = out_at (without h.p2 ts) h.p1 i (tri 0 0 0) ∙ out_at ts h.p2 j (tri 0 0 0) in
          let u : get_or ls (skip h.p2 j) 0 ≡ l = sym (out_at (without h.p2 ls) h.p1 i 0 ∙ out_at ls h.p2 j 0) ∙ c.label in
          let r = subst (λ (t : Tri). names t w ≡ true) (place_map (renamed a b) rest i m ∙ ap (renamed a b) t) c.names in
          case (skip h.p2 j) f' u (renamed-names a b (place ts (skip h.p2 j)) w r)

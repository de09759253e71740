-- The trial of a collapse by the places of the corner that goes is the trial by the list.
use Prim.Native.Nat.{ℕ, zero, suc, ◌+◌, ◌*◌, ◌/◌, ◌%◌, ◌<◌, ◌≤◌}
use native.Mathlib.Omega.{arith}
use mathlib.Core.Path.{◌≡◌, refl, sym, ap, ap₂, ◌∙◌, subst}
use mathlib.Core.Logic.{◌⊎◌, inl, inr}
use mathlib.Core.Bool.{Bool, true, false, not, ◌&&◌, ◌||◌, cond}
use mathlib.Core.List.{List, [], ◌∷◌, ◌++◌}
use lib.Dec.{eqb}
use lib.ListN.{length, get_or, take}
use lib.Seq.{take-suc, take_all, length-take-le}
use lib.Ieee.{Float}
use borrow.Author.Tests.{eq-eqb, ne_eqb}
use Rattle.float.specs.Order.{lesser}
use Rattle.surface.specs.Triangle.{Tri, tri, triangles, names}
use Rattle.surface.specs.Edit.{place, renamed}
use Rattle.surface.proofs.Bools.{both, join}
use Rattle.surface.proofs.Flat.{place-triangles}
use Rattle.halfedges.specs.Place.{at}
use Rattle.halfedges.proofs.Turns.{same_or}
use Rattle.halfedges.proofs.Whole.{Differing}
use Rattle.chains.specs.Chain.{walk}
use Rattle.chains.proofs.Chain.{walk_here, walk-on, walk_none}
use Rattle.chains.proofs.Flat.{thirds-length, triangle_low, place_reads, reads_spot}
use Rattle.chains.proofs.LabelMarks.{names-read}
use Rattle.surface.proofs.Bridge.{reads_name}
use Rattle.oracle.specs.Scene.{Scene, score}
use Rattle.oracle.specs.Slivers.{changed, valid, least}
use Rattle.slivers.specs.Trials.{tri_of, label_of, falls, ok_at, lowered, step_at}

least_nil : (s : Scene) (a b : ℕ) (m : Float) → least s a b m [] [] ≡ m
unfolding least
least_nil s a b m = refl

-- one triangle more
least_more : (s : Scene) (a b : ℕ) (m : Float) (ts : List Tri) (ls : List ℕ) (t : Tri) (l : ℕ) → length ts ≡ length ls
    → least s a b m (ts ++ (t ∷ [])) (ls ++ (l ∷ [])) ≡ cond (changed a b t) (lesser (least s a b m ts ls) (score s (renamed a b t) l)) (least s a b m ts ls)
unfolding least
least_more s a b m [] [] t l e = refl
least_more s a b m [] (x ∷ ls) t l e = absurd (omega arith)
least_more s a b m (x ∷ ts) [] t l e = absurd (omega arith)
least_more s a b m (x ∷ ts) (y ∷ ls) t l e = least_more s a b (cond (changed a b x) (lesser m (score s (renamed a b x) y)) m) ts ls t l (omega arith)

module _ (s : Scene) (c ls : List ℕ) (a b : ℕ) (h : length c % 3 ≡ 0) (n : length ls * 3 ≡ length c) (d : Differing c) where
  size : length (triangles c) ≡ length ls
  size = let z = thirds-length c h in omega arith

  T : ℕ → Tri
  T i = place (triangles c) i

  tri-is : (i : ℕ) → i < length ls → place (triangles c) i ≡ tri (at c (3 * i)) (at c (3 * i + 1)) (at c (3 * i + 2))
  tri-is i l = place-triangles c i (omega arith)

  -- the fold over the places below 3 * i is the fold over the first i triangles
  abbrev step : ℕ → Float → Float
  step = step_at s c ls a b

  once : (i : ℕ) → i < length ls → (m : Float) → walk step c b (3 * i + 3) m ≡ cond (names (place (triangles c) i) b) (lowered s a b (place (triangles c) i) (get_or ls i 0) (walk step c b (3 * i) m)) (walk step c b (3 * i) m)
  once i l m = go (same_or (at c (3 * i)) b) (same_or (at c (3 * i + 1)) b) (same_or (at c (3 * i + 2)) b)
    where
      w0 : Float
      w0 = walk step c b (3 * i) m

      x0 : 3 * i + 3 ≡ suc (suc (suc (3 * i)))
      x0 = omega arith

      third : (k : ℕ) → k < 3 → (3 * i + k) / 3 ≡ i
      third k o = omega arith

      ab : at c (3 * i) ≡ at c (3 * i + 1) → ⊥
      ab e = d (3 * i) (omega arith) (e ∙ ap (at c) (omega arith))

      bc : at c (3 * i + 1) ≡ at c (3 * i + 2) → ⊥
      bc e = d (3 * i + 1) (omega arith) (e ∙ ap (at c) (omega arith))

      ca : at c (3 * i + 2) ≡ at c (3 * i) → ⊥
      ca e = d (3 * i + 2) (omega arith) (e ∙ ap (at c) (omega arith))

      e1 : suc (3 * i) ≡ 3 * i + 1
      e1 = omega arith

      e2 : suc (suc (3 * i)) ≡ 3 * i + 2
      e2 = omega arith

      at1 : at c (suc (3 * i)) ≡ at c (3 * i + 1)
      at1 = ap (at c) e1

      at2 : at c (suc (suc (3 * i))) ≡ at c (3 * i + 2)
      at2 = ap (at c) e2

      named : (x : Bool) → names (place (triangles c) i) b ≡ x → (y z : Float) → cond (names (place (triangles c) i) b) y z ≡ cond x y z
      named x e y z = ap (λ (t : Bool). cond t y z) e

      names-is : names (place (triangles c) i) b ≡ (eqb (at c (3 * i)) b || (eqb (at c (3 * i + 1)) b || eqb (at c (3 * i + 2)) b))
      names-is = ap (λ (t : Tri). names t b) (tri-is i l)

      at-k : (k j : ℕ) → j ≡ 3 * i + k → k < 3 → (f : Float) → step j f ≡ lowered s a b (place (triangles c) i) (get_or ls i 0) f
      at-k k j e o f = ap (λ (x : ℕ). lowered s a b (place (triangles c) x) (get_or ls x 0) f) (ap (λ (y : ℕ). y / 3) e ∙ third k o)

      go : (at c (3 * i) ≡ b) ⊎ (at c (3 * i) ≡ b → ⊥) → (at c (3 * i + 1) ≡ b) ⊎ (at c (3 * i + 1) ≡ b → ⊥) → (at c (3 * i + 2) ≡ b) ⊎ (at c (3 * i + 2) ≡ b → ⊥)
          → walk step c b (3 * i + 3) m ≡ cond (names (place (triangles c) i) b) (lowered s a b (place (triangles c) i) (get_or ls i 0) (walk step c b (3 * i) m)) (walk step c b (3 * i) m)
      go (inl p) q r =
          ap (λ (x : ℕ). walk step c b x m) x0 ∙ walk-on step c b m (suc (suc (3 * i))) (λ z. ca (sym at2 ∙ z ∙ sym p)) ∙ walk-on step c b m (suc (3 * i)) (λ z. ab (p ∙ sym z ∙ at1)) ∙ walk_here step c b m (3 * i) p
          ∙ at-k 0 (3 * i) (omega arith) (omega arith) (walk step c b (3 * i) m)
          ∙ sym (named true (names-is ∙ ap (λ (t : Bool). t || (eqb (at c (3 * i + 1)) b || eqb (at c (3 * i + 2)) b)) (eq-eqb (at c (3 * i)) b p)) _ _)
      go (inr p) (inl q) r =
          ap (λ (x : ℕ). walk step c b x m) x0 ∙ walk-on step c b m (suc (suc (3 * i))) (λ z. bc (q ∙ sym z ∙ at2)) ∙ walk_here step c b m (suc (3 * i)) (at1 ∙ q) ∙ ap (step (suc (3 * i))) (walk-on step c b m (3 * i) p)
          ∙ at-k 1 (suc (3 * i)) e1 (omega arith) (walk step c b (3 * i) m)
          ∙ sym (named true (names-is ∙ ap₂ (λ (t u : Bool). t || (u || eqb (at c (3 * i + 2)) b)) (ne_eqb (at c (3 * i)) b p) (eq-eqb (at c (3 * i + 1)) b q)) _ _)
      go (inr p) (inr q) (inl r) =
          ap (λ (x : ℕ). walk step c b x m) x0 ∙ walk_here step c b m (suc (suc (3 * i))) (at2 ∙ r) ∙ ap (step (suc (suc (3 * i)))) (walk-on step c b m (suc (3 * i)) (λ z. q (sym at1 ∙ z)) ∙ walk-on step c b m (3 * i) p)
          ∙ at-k 2 (suc (suc (3 * i))) e2 (omega arith) (walk step c b (3 * i) m)
          ∙ sym (named true (names-is ∙ rw (ne_eqb (at c (3 * i)) b p, ne_eqb (at c (3 * i + 1)) b q, eq-eqb (at c (3 * i + 2)) b r) refl) _ _)
      go (inr p) (inr q) (inr r) =
          ap (λ (x : ℕ). walk step c b x m) x0 ∙ walk-on step c b m (suc (suc (3 * i))) (λ z. r (sym at2 ∙ z)) ∙ walk-on step c b m (suc (3 * i)) (λ z. q (sym at1 ∙ z)) ∙ walk-on step c b m (3 * i) p
          ∙ sym (named false (names-is ∙ rw (ne_eqb (at c (3 * i)) b p, ne_eqb (at c (3 * i + 1)) b q, ne_eqb (at c (3 * i + 2)) b r) refl) _ _)

  both_ways : (p q : Bool) (x y : Float) → cond p (cond q y x) y ≡ cond (p && not q) x y
  both_ways true true x y = refl
  both_ways true false x y = refl
  both_ways false q x y = refl

  upto : (i : ℕ) → i ≤ length ls → (m : Float) → walk step c b (3 * i) m ≡ least s a b m (take i (triangles c)) (take i ls)
  upto zero l m = ap (λ (x : ℕ). walk step c b x m) z ∙ walk_none step c b m ∙ sym none
    where
      z : 3 * 0 ≡ 0
      z = refl

      take_none : {A : Type 0} (x : List A) → take 0 x ≡ []
      take_none [] = refl
      take_none (y ∷ x) = refl

      none : least s a b m (take 0 (triangles c)) (take 0 ls) ≡ m
      none = ap₂ (least s a b m) (take_none (triangles c)) (take_none ls) ∙ least-none
        where
          least-none : least s a b m [] [] ≡ m
          least-none = least_nil s a b m
  upto (suc i) l m =
      let z : 3 * suc i ≡ 3 * i + 3 = omega arith in
      ap (λ (x : ℕ). walk step c b x m) z ∙ once i (omega arith) m
      ∙ ap (λ (f : Float). cond (names (place (triangles c) i) b) (lowered s a b (place (triangles c) i) (get_or ls i 0) f) f) (upto i (omega arith) m)
      ∙ both_ways (names (place (triangles c) i) b) (names (place (triangles c) i) a) (lesser (least s a b m (take i (triangles c)) (take i ls)) (score s (renamed a b (place (triangles c) i)) (get_or ls i 0))) (least s a b m (take i (triangles c)) (take i ls))
      ∙ sym (ap₂ (least s a b m) (take-suc (triangles c) i (tri 0 0 0) (omega (arith, size))) (take-suc ls i 0 (omega arith))
      ∙ least_more s a b m (take i (triangles c)) (take i ls) (place (triangles c) i) (get_or ls i 0) (length-take-le i (triangles c) (omega (arith, size)) ∙ sym (length-take-le i ls (omega arith))))

  pub walk-least : (m : Float) → walk step c b (length c) m ≡ least s a b m (triangles c) ls
  walk-least m =
      let z : length c ≡ 3 * length ls = omega arith in
      ap (λ (x : ℕ). walk step c b x m) z ∙ upto (length ls) (omega arith) m ∙ ap₂ (least s a b m) (take_all (length ls) (triangles c) (omega (arith, size))) (take_all (length ls) ls (omega arith))

-- ---- the floors

abbrev passes_at : Scene → List Tri → List ℕ → ℕ → ℕ → ℕ → Bool
passes_at s ts ls a b i = not (changed a b (place ts i) && falls s a b (place ts i) (get_or ls i 0))

valid_of : (s : Scene) (ts : List Tri) (ls : List ℕ) (a b : ℕ) → ((i : ℕ) → i < length ts → i < length ls → passes_at s ts ls a b i ≡ true) → valid s ts ls a b ≡ true
unfolding valid
valid_of s [] ls a b h = refl
valid_of s (t ∷ ts) [] a b h = refl
valid_of s (t ∷ ts) (l ∷ ls) a b h = join (not (changed a b t && falls s a b t l)) (valid s ts ls a b) (h 0 (omega arith) (omega arith)) (valid_of s ts ls a b (λ i o n. h (suc i) (omega arith) (omega arith)))

valid-at : (s : Scene) (ts : List Tri) (ls : List ℕ) (a b i : ℕ) → valid s ts ls a b ≡ true → i < length ts → i < length ls → passes_at s ts ls a b i ≡ true
unfolding valid
valid-at s [] ls a b i e o n = absurd (omega arith)
valid-at s (t ∷ ts) [] a b i e o n = absurd (omega arith)
valid-at s (t ∷ ts) (l ∷ ls) a b zero e o n = (both (not (changed a b t && falls s a b t l)) (valid s ts ls a b) e).0
valid-at s (t ∷ ts) (l ∷ ls) a b (suc i) e o n = valid-at s ts ls a b i (both (not (changed a b t && falls s a b t l)) (valid s ts ls a b) e).1 (omega arith) (omega arith)

module _ (s : Scene) (c ls : List ℕ) (a b : ℕ) (h : length c % 3 ≡ 0) (n : length ls * 3 ≡ length c) where
  count : length (triangles c) ≡ length ls
  count = let z = thirds-length c h in omega arith

  -- at a place of b the two tests are one
  same_at : (k : ℕ) → k < length c → at c k ≡ b → passes_at s (triangles c) ls a b (k / 3) ≡ ok_at s c ls a b k
  same_at k l e =
      let r = reads_name (place_reads c h k l) in
      let q : names (tri_of c k) b ≡ true = subst (λ (x : ℕ). names (tri_of c k) x ≡ true) e r in
      ap (λ (t : Bool). not ((t && not (names (tri_of c k) a)) && falls s a b (tri_of c k) (label_of ls k))) q

  pub places-valid : ((k : ℕ) → k < length c → at c k ≡ b → ok_at s c ls a b k ≡ true) → valid s (triangles c) ls a b ≡ true
  places-valid f = valid_of s (triangles c) ls a b (λ i o m. go i o (names (place (triangles c) i) b) refl)
    where
      go : (i : ℕ) → i < length (triangles c) → (t : Bool) → names (place (triangles c) i) b ≡ t → passes_at s (triangles c) ls a b i ≡ true
      go i o false e = ap (λ (t : Bool). not ((t && not (names (place (triangles c) i) a)) && falls s a b (place (triangles c) i) (get_or ls i 0))) e
      go i o true e =
          let r = names-read (place (triangles c) i) b e in
          let p = reads_spot c h i o r.reads in
          ap (passes_at s (triangles c) ls a b) (sym p.third) ∙ same_at p.k p.low p.one ∙ f p.k p.low p.one

  pub valid-places : valid s (triangles c) ls a b ≡ true → (k : ℕ) → k < length c → at c k ≡ b → ok_at s c ls a b k ≡ true
  valid-places v k l e = let m = triangle_low c k h l in sym (same_at k l e) ∙ valid-at s (triangles c) ls a b (k / 3) v m (omega (arith, count))

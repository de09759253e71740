-- A side of a closed list has a weak triangle where the triangle of its place or that of its twin is weak.
use Prim.Native.Nat.{ℕ, zero, suc, ◌+◌, ◌*◌, ◌/◌, ◌%◌, ◌<◌}
use native.Mathlib.Omega.{arith}
use mathlib.Core.Path.{◌≡◌, refl, sym, ap, ap₂, ◌∙◌}
use mathlib.Core.Logic.{◌⊎◌, inl, inr}
use mathlib.Core.Bool.{Bool, true, false, ◌&&◌, ◌||◌}
use mathlib.Core.List.{List, [], ◌∷◌}
use lib.Dec.{eqb}
use lib.ListN.{length, get_or}
use lib.Ieee as Ieee
use lib.Ieee.{Float}
use Rattle.surface.specs.Triangle.{Tri, triangles, runs}
use Rattle.surface.specs.Closed.{Closed, one}
use Rattle.surface.specs.Edit.{has, place}
use Rattle.surface.proofs.Bools.{both, join}
use Rattle.surface.proofs.Reading.{Reads, times-hits, reads_hits}
use Rattle.surface.proofs.Hinged.{runs_no, has_either}
use Rattle.halfedges.specs.Place.{nx, pv, at}
use Rattle.sides.specs.Side.{Twin, Met}
use Rattle.sides.proofs.Meeting.{met_of}
use Rattle.chains.proofs.Common.{same_test}
use Rattle.chains.proofs.Flat.{thirds-length, triangle_low, place_reads, reads_spot}
use Rattle.oracle.specs.Number.{weak_below}
use Rattle.oracle.specs.Scene.{Scene, score, squared}
use Rattle.oracle.specs.Candidates.{weak, candidate}
use Rattle.scores.specs.Measures.{weak_at, side_at, picks}

pub or_left : (p q : Bool) → p ≡ true → p || q ≡ true
or_left true q e = refl
or_left false q e = let z : ◌≡◌ {A = ℕ} 0 1 = cc in absurd (omega arith)

pub or_right : (p q : Bool) → q ≡ true → p || q ≡ true
or_right true q e = refl
or_right false q e = e

pub either : (p q : Bool) → p || q ≡ true → (p ≡ true) ⊎ (q ≡ true)
either true q e = inl refl
either false q e = inr e

pub reads_runs : (t : Tri) (x y z : ℕ) → Reads t x y z → runs t x y ≡ true
reads_runs t x y z r = go (runs t x y) refl
  where
    go : (b : Bool) → runs t x y ≡ b → runs t x y ≡ true
    go true e = e
    go false e = let n = runs_no t x y e in let m = times-hits t x y in let p = reads_hits r in absurd (omega arith)

-- the triangle i is weak and has the side
record Found (s : Scene) (ts : List Tri) (ls : List ℕ) (a b : ℕ) : Type 0 where
  i : ℕ
  low : i < length ts
  labelled : i < length ls
  on : has a b (place ts i) ≡ true
  low-shape : Ieee.lt (score s (place ts i) (get_or ls i 0)) weak_below ≡ true

weak-found : (s : Scene) (ts : List Tri) (ls : List ℕ) (a b : ℕ) → weak s ts ls a b ≡ true → Found s ts ls a b
unfolding weak
weak-found s [] ls a b e = let z : ◌≡◌ {A = ℕ} 0 1 = cc in absurd (omega arith)
weak-found s (t ∷ ts) [] a b e = let z : ◌≡◌ {A = ℕ} 0 1 = cc in absurd (omega arith)
weak-found s (t ∷ ts) (l ∷ ls) a b e = go (weak-found s ts ls a b) (either (has a b t && Ieee.lt (score s t l) weak_below) (weak s ts ls a b) e)
  where
    go : (weak s ts ls a b ≡ true → Found s ts ls a b) → (has a b t && Ieee.lt (score s t l) weak_below ≡ true) ⊎ (weak s ts ls a b ≡ true) → Found s (t ∷ ts) (l ∷ ls) a b
    go ih (inl f) = let p = both (has a b t) (Ieee.lt (score s t l) weak_below) f in record { i = 0; low = omega arith; labelled = omega arith; on = p.0; low-shape = p.1 }
    go ih (inr f) = let u = ih f in let m = u.low in let n = u.labelled in record { i = suc u.i; low = omega arith; labelled = omega arith; on = u.on; low-shape = u.low-shape }

found-weak : (s : Scene) (ts : List Tri) (ls : List ℕ) (a b i : ℕ) → i < length ts → i < length ls → has a b (place ts i) ≡ true → Ieee.lt (score s (place ts i) (get_or ls i 0)) weak_below ≡ true → weak s ts ls a b ≡ true
unfolding weak
found-weak s [] ls a b i l m e f = absurd (omega arith)
found-weak s (t ∷ ts) [] a b i l m e f = absurd (omega arith)
found-weak s (t ∷ ts) (x ∷ ls) a b zero l m e f = or_left (has a b t && Ieee.lt (score s t x) weak_below) (weak s ts ls a b) (join (has a b t) (Ieee.lt (score s t x) weak_below) e f)
found-weak s (t ∷ ts) (x ∷ ls) a b (suc i) l m e f = or_right (has a b t && Ieee.lt (score s t x) weak_below) (weak s ts ls a b) (found-weak s ts ls a b i (omega arith) (omega arith) e f)

module _ (s : Scene) (c ls : List ℕ) (h : length c % 3 ≡ 0) (closed : Closed (triangles c)) (labelled : length ls * 3 ≡ length c) (k t : ℕ) (low : k < length c) (twin : Twin c k t) where
  a : ℕ
  a = at c k

  b : ℕ
  b = at c (nx k)

  met : Met c
  met = met_of c h closed

  -- the two triangles have the side
  on-k : has (at c k) (at c (nx k)) (place (triangles c) (k / 3)) ≡ true
  on-k = or_left (runs (place (triangles c) (k / 3)) (at c k) (at c (nx k))) (runs (place (triangles c) (k / 3)) (at c (nx k)) (at c k)) (reads_runs (place (triangles c) (k / 3)) (at c k) (at c (nx k)) (at c (pv k)) (place_reads c h k low))

  on-t : has (at c k) (at c (nx k)) (place (triangles c) (t / 3)) ≡ true
  on-t =
      let r = reads_runs (place (triangles c) (t / 3)) (at c t) (at c (nx t)) (at c (pv t)) (place_reads c h t twin.low) in
      or_right (runs (place (triangles c) (t / 3)) (at c k) (at c (nx k))) (runs (place (triangles c) (t / 3)) (at c (nx k)) (at c k))
      (ap₂ (λ (x y : ℕ). runs (place (triangles c) (t / 3)) x y) (sym twin.from) (sym twin.to) ∙ r)

  -- and no other has
  which : (i : ℕ) → i < length (triangles c) → has (at c k) (at c (nx k)) (place (triangles c) i) ≡ true → (i ≡ k / 3) ⊎ (i ≡ t / 3)
  which i l e = go (has_either (place (triangles c) i) (at c k) (at c (nx k)) e)
    where
      go : ((z : ℕ) × Reads (place (triangles c) i) (at c k) (at c (nx k)) z) ⊎ ((z : ℕ) × Reads (place (triangles c) i) (at c (nx k)) (at c k) z) → (i ≡ k / 3) ⊎ (i ≡ t / 3)
      go (inl r) =
          let p = reads_spot c h i l r.1 in
          let z : p.k ≡ k = met.once p.k k p.low low p.one p.two in
          inl (sym p.third ∙ ap (λ (n : ℕ). n / 3) z)
      go (inr r) =
          let p = reads_spot c h i l r.1 in
          let z : p.k ≡ t = met.once p.k t p.low twin.low (p.one ∙ sym twin.from) (p.two ∙ sym twin.to) in
          inr (sym p.third ∙ ap (λ (n : ℕ). n / 3) z)

  pub weak-is : weak_at s c ls (k / 3) || weak_at s c ls (t / 3) ≡ weak s (triangles c) ls (at c k) (at c (nx k))
  weak-is = same_test (weak_at s c ls (k / 3) || weak_at s c ls (t / 3)) (weak s (triangles c) ls (at c k) (at c (nx k)))
      (λ e. there (either (weak_at s c ls (k / 3)) (weak_at s c ls (t / 3)) e))
      (λ e. back (weak-found s (triangles c) ls (at c k) (at c (nx k)) e))
    where
      n : 3 * length (triangles c) ≡ length c
      n = thirds-length c h

      there : (weak_at s c ls (k / 3) ≡ true) ⊎ (weak_at s c ls (t / 3) ≡ true) → weak s (triangles c) ls (at c k) (at c (nx k)) ≡ true
      there (inl e) = found-weak s (triangles c) ls (at c k) (at c (nx k)) (k / 3) (triangle_low c k h low) (omega arith) on-k e
      there (inr e) = let m = twin.low in found-weak s (triangles c) ls (at c k) (at c (nx k)) (t / 3) (triangle_low c t h twin.low) (omega arith) on-t e

      back : Found s (triangles c) ls (at c k) (at c (nx k)) → weak_at s c ls (k / 3) || weak_at s c ls (t / 3) ≡ true
      back f = pick (which f.i f.low f.on)
        where
          pick : (f.i ≡ k / 3) ⊎ (f.i ≡ t / 3) → weak_at s c ls (k / 3) || weak_at s c ls (t / 3) ≡ true
          pick (inl e) = or_left (weak_at s c ls (k / 3)) (weak_at s c ls (t / 3)) (ap (weak_at s c ls) (sym e) ∙ f.low-shape)
          pick (inr e) = or_right (weak_at s c ls (k / 3)) (weak_at s c ls (t / 3)) (ap (weak_at s c ls) (sym e) ∙ f.low-shape)

  mark_true : (b : Bool) → eqb (one b) 1 ≡ b
  mark_true true = refl
  mark_true false = refl

  -- what `picks` tests is what a candidate is
  pub picks-is : (w : List ℕ) (twins marks : ℕ) (most : Float) → at w (twins + k) ≡ t → ((i : ℕ) → i < length ls → at w (marks + i) ≡ one (weak_at s c ls i))
      → picks s.points c twins marks most w k ≡ candidate s (record { tris = triangles c; labels = ls }) most (side_at c k)
  unfolding candidate
  picks-is w twins marks most e m =
      let l = twin.low in
      let p : eqb (at w (marks + k / 3)) 1 ≡ weak_at s c ls (k / 3) = ap (λ (x : ℕ). eqb x 1) (m (k / 3) (omega arith)) ∙ mark_true (weak_at s c ls (k / 3)) in
      let q : eqb (at w (marks + at w (twins + k) / 3)) 1 ≡ weak_at s c ls (t / 3) = ap (λ (x : ℕ). eqb (at w (marks + x / 3)) 1) e ∙ ap (λ (x : ℕ). eqb x 1) (m (t / 3) (omega arith)) ∙ mark_true (weak_at s c ls (t / 3)) in
      ap (λ (x : Bool). Ieee.lt (squared s.points (at c k) (at c (nx k))) most && x) (ap₂ (λ (x y : Bool). x || y) p q ∙ weak-is)

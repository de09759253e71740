-- Degrees counted by the keys are counted by the triangles around a corner, and the gain is above 0 where `evens` of crate oracle says so.
use Prim.Native.Nat.{ℕ, zero, suc, ◌+◌, ◌-◌, ◌*◌, ◌%◌, ◌<◌}
use mathlib.Core.Path.{◌≡◌, refl, sym, ◌∙◌, ap, ap₂, subst}
use mathlib.Core.Bool.{Bool, true, false}
use mathlib.Core.List.{List, [], ◌∷◌, map}
use native.Mathlib.Omega.{arith}
use lib.Dec.{eqb, ltb}
use lib.IntN.{pos, negsuc, sub_ℕ, ◌+ℤ◌, ◌-ℤ◌}
use lib.Signed.{lt_z}
use lib.ListN.{length}
use borrow.Author.Tests.{lt-ltb, le-ltb, ltb-true, ltb-false}
use Rattle.surface.specs.Triangle.{Tri, corners, triangles}
use Rattle.surface.specs.Closed.{one, around, Closed}
use Rattle.surface.specs.Euler.{Below}
use Rattle.surface.proofs.Bridge.{in_use}
use Rattle.surface.proofs.Flat.{triangles-corners, length-corners}
use Rattle.halfedges.specs.Place.{at, nx}
use Rattle.halfedges.proofs.Fine.{nx-below}
use Rattle.sides.specs.Side.{sorted}
use Rattle.sides.specs.Valence.{ends}
use Rattle.sides.proofs.Meeting.{met_of}
use Rattle.sides.proofs.Valence.{valence}
use Rattle.chains.proofs.Flat.{place_at, around-uses}
use Rattle.scores.specs.Measures.{side_at}
use Rattle.scores.proofs.Rises.{rising-is}
use Rattle.rounds.specs.Choices.{Side}
use Rattle.oracle.specs.Rising.{rising}
use Rattle.oracle.specs.Gains.{excess, evens}
use Rattle.original.specs.Flip.{degree, square, off, gain}

-- ---- degrees

degree-ends : (c : List ℕ) (l : List ℕ) (v : ℕ) → degree (map (side_at c) l) v ≡ ends c v l
unfolding degree
degree-ends c [] v = refl
degree-ends c (k ∷ l) v = ap (λ (n : ℕ). one (eqb (at c k) v) + one (eqb (at c (nx k)) v) + n) (degree-ends c l v)

degree-places : (c : List ℕ) → length c % 3 ≡ 0 → Closed (triangles c) → (n : ℕ) → Below n (triangles c) → (v : ℕ) → v < n → degree (rising (triangles c) n) v ≡ length (around (triangles c) v)
degree-places c h closed n b v l =
    ap (λ (ds : List Side). degree ds v) (rising-is c h closed n) ∙ degree-ends c (sorted c n) v
    ∙ valence c (met_of c h closed) n (λ k m. nx-below (length c) k h m) (λ k m. b (at c k) (in_use (place_at c h k m))) v l
    ∙ sym (around-uses c h v)

-- as many sides end at a corner as triangles have it
pub degree-is : {ts : List Tri} → Closed ts → (n : ℕ) → Below n ts → (v : ℕ) → v < n → degree (rising ts n) v ≡ length (around ts v)
degree-is {ts} c n b v l =
    subst (λ (us : List Tri). Closed us → Below n us → degree (rising us n) v ≡ length (around us v)) (triangles-corners ts)
    (λ k m. degree-places (corners ts) (omega (arith, length-corners ts)) k n m v l) c b

-- ---- squares

square-is : (n : ℕ) → square (sub_ℕ n 6) ≡ pos (excess n)
square-is n = go (ltb n 6) refl
  where
    low : (x y : ℕ) → x ≡ 0 → y * y ≡ x * x + y * y
    low x y e = rw e (omega arith)

    high : (x y : ℕ) → y ≡ 0 → x * x ≡ x * x + y * y
    high x y e = rw e (omega arith)

    go : (k : Bool) → ltb n 6 ≡ k → square (sub_ℕ n 6) ≡ pos (excess n)
    go true e =
        let l = ltb-true n 6 e in
        let z : suc (6 - suc n) ≡ 6 - n = omega arith in
        rw e (ap pos (ap₂ (λ (x y : ℕ). x * y) z z ∙ low (n - 6) (6 - n) (omega arith)))
    go false e =
        let l = ltb-false n 6 e in
        rw e (ap pos (high (n - 6) (6 - n) (omega arith)))

off-same : (keys : List Side) (v : ℕ) → off keys (pos 0) v ≡ pos (excess (degree keys v))
off-same keys v = let z : degree keys v + 0 ≡ degree keys v = omega arith in ap (λ (n : ℕ). square (sub_ℕ n 6)) z ∙ square-is (degree keys v)

off-more : (keys : List Side) (v : ℕ) → off keys (pos 1) v ≡ pos (excess (degree keys v + 1))
off-more keys v = square-is (degree keys v + 1)

off_less : (keys : List Side) (v : ℕ) → 0 < degree keys v → off keys (negsuc 0) v ≡ pos (excess (degree keys v - 1))
off_less keys v p = rw (le-ltb (degree keys v) 1 (omega arith)) (square-is (degree keys v - 1))

-- x - y above 0
difference : (x y : ℕ) → lt_z (pos 0) (pos x -ℤ pos y) ≡ ltb y x
difference x zero = ap (ltb 0) (let z : x + 0 ≡ x = omega arith in z)
difference x (suc y) = go (ltb x (suc y)) refl
  where
    go : (k : Bool) → ltb x (suc y) ≡ k → lt_z (pos 0) (sub_ℕ x (suc y)) ≡ ltb (suc y) x
    go true e = rw e (sym (le-ltb (suc y) x (omega (arith, ltb-true x (suc y) e))))
    go false e = rw e (more (ltb (suc y) x) refl)
      where
        more : (j : Bool) → ltb (suc y) x ≡ j → ltb 0 (x - suc y) ≡ ltb (suc y) x
        more true f = lt-ltb 0 (x - suc y) (omega (arith, ltb-true (suc y) x f)) ∙ sym f
        more false f = le-ltb 0 (x - suc y) (omega (arith, ltb-false (suc y) x f)) ∙ sym f

pub gain-is : (keys : List Side) (a b c d : ℕ) → 0 < degree keys a → 0 < degree keys b
    → lt_z (pos 0) (gain keys a b c d) ≡ evens (degree keys a) (degree keys b) (degree keys c) (degree keys d)
unfolding gain evens
gain-is keys a b c d p q =
    ap (lt_z (pos 0)) (ap₂ ◌-ℤ◌
    (ap₂ ◌+ℤ◌ (ap₂ ◌+ℤ◌ (ap₂ ◌+ℤ◌ (off-same keys a) (off-same keys b)) (off-same keys c)) (off-same keys d))
    (ap₂ ◌+ℤ◌ (ap₂ ◌+ℤ◌ (ap₂ ◌+ℤ◌ (off_less keys a p) (off_less keys b q)) (off-more keys c)) (off-more keys d)))
    ∙ difference (excess (degree keys a) + excess (degree keys b) + excess (degree keys c) + excess (degree keys d))
    (excess (degree keys a - 1) + excess (degree keys b - 1) + excess (degree keys c + 1) + excess (degree keys d + 1))

-- the gain is the same for the side named the other way
pub evens-back : (a b c d : ℕ) → evens b a c d ≡ evens a b c d
unfolding evens
evens-back a b c d =
    let z : excess (b - 1) + excess (a - 1) + excess (c + 1) + excess (d + 1) ≡ excess (a - 1) + excess (b - 1) + excess (c + 1) + excess (d + 1) = swap (excess (b - 1)) (excess (a - 1)) (excess (c + 1)) (excess (d + 1)) in
    let w : excess b + excess a + excess c + excess d ≡ excess a + excess b + excess c + excess d = swap (excess b) (excess a) (excess c) (excess d) in
    ap₂ ltb z w
  where
    swap : (x y u v : ℕ) → x + y + u + v ≡ y + x + u + v
    swap x y u v = omega arith

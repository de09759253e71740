-- The triangles in use of a list of corner numbers, read and written by their places.
use Prim.Native.Nat.{ℕ, zero, suc, ◌+◌, ◌*◌, ◌≤◌, ◌<◌}
use mathlib.Core.Path.{◌≡◌, refl, sym, ◌∙◌, ap}
use mathlib.Core.List.{List, [], ◌∷◌}
use native.Mathlib.Omega.{arith}
use lib.ListN.{length, take, drop, set, length-set}
use lib.Seq.{length-take-le, get_or-take, take-take, take-set-lt, take-set-le, drop-set-lt, drop-cons, drop-length}
use Rattle.surface.specs.Triangle.{Tri, tri, triangles}
use Rattle.surface.specs.Edit.{place}
use Rattle.surface.specs.Flat.{tri_of, held, three_at, tri_at, put_at}
use Rattle.surface.proofs.Flat.{length-triangles, place-triangles, set-triangles}

pub length-held : (l : List ℕ) (n : ℕ) → 3 * n ≤ length l → length (held l n) ≡ n
length-held l n p = length-triangles n (take (3 * n) l) (length-take-le (3 * n) l p)

pub place-held : (l : List ℕ) (n i : ℕ) → 3 * n ≤ length l → i < n → place (held l n) i ≡ tri_at l i
place-held l n i p q =
    place-triangles (take (3 * n) l) i (omega (arith, length-take-le (3 * n) l p))
    ∙ rw (get_or-take (3 * n) l (3 * i) 0 (omega arith), get_or-take (3 * n) l (3 * i + 1) 0 (omega arith), get_or-take (3 * n) l (3 * i + 2) 0 (omega arith))

-- an array that was read at a place is the triangle there
pub read_held : (l : List ℕ) (n i : ℕ) → 3 * n ≤ length l → i < n → (t : List ℕ) → t ≡ three_at l i → tri_of t ≡ place (held l n) i
read_held l n i p q t e = ap tri_of e ∙ sym (place-held l n i p q)

-- the triangles from a place on
pub drop-held : (l : List ℕ) (n i : ℕ) → 3 * n ≤ length l → i < n → drop i (held l n) ≡ tri_at l i ∷ drop (i + 1) (held l n)
drop-held l n i p q =
    let h : i + 1 ≡ suc i = omega arith in
    rw (h, ← place-held l n i p q) (drop-cons (held l n) i (tri 0 0 0) (omega (arith, length-held l n p)))

pub drop-held_end : (l : List ℕ) (n i : ℕ) → 3 * n ≤ length l → i ≤ n → n ≤ i → drop i (held l n) ≡ []
drop-held_end l n i p q r = let h : i ≡ length (held l n) = omega (arith, length-held l n p) in ap (λ (j : ℕ). drop j (held l n)) h ∙ drop-length (held l n)

-- a triangle put at a place
pub set-held : (l : List ℕ) (n i : ℕ) (t : Tri) → 3 * n ≤ length l → i < n → held (put_at l i t) n ≡ set (held l n) i t
set-held l n i t p q =
    rw (take-set-lt (3 * n) (set (set l (3 * i) t.a) (3 * i + 1) t.b) (3 * i + 2) t.c (omega arith), take-set-lt (3 * n) (set l (3 * i) t.a) (3 * i + 1) t.b (omega arith), take-set-lt (3 * n) l (3 * i) t.a (omega arith))
    (set-triangles (take (3 * n) l) i t.a t.b t.c (omega (arith, length-take-le (3 * n) l p)))

pub length-put : (l : List ℕ) (i : ℕ) (t : Tri) → length (put_at l i t) ≡ length l
length-put l i t = simp length-set

-- leaves what stands before it and behind it
pub take_put : (l : List ℕ) (i : ℕ) (t : Tri) (k : ℕ) → k ≤ 3 * i → take k (put_at l i t) ≡ take k l
take_put l i t k p =
    take-set-le k (set (set l (3 * i) t.a) (3 * i + 1) t.b) (3 * i + 2) t.c (omega arith)
    ∙ take-set-le k (set l (3 * i) t.a) (3 * i + 1) t.b (omega arith) ∙ take-set-le k l (3 * i) t.a p

pub drop-put : (l : List ℕ) (i : ℕ) (t : Tri) (k : ℕ) → 3 * i + 3 ≤ k → drop k (put_at l i t) ≡ drop k l
drop-put l i t k p =
    drop-set-lt k (set (set l (3 * i) t.a) (3 * i + 1) t.b) (3 * i + 2) t.c (omega arith)
    ∙ drop-set-lt k (set l (3 * i) t.a) (3 * i + 1) t.b (omega arith) ∙ drop-set-lt k l (3 * i) t.a (omega arith)

-- the first n of all triangles
pub held-is : (n : ℕ) (l : List ℕ) → held l n ≡ take n (triangles l)
unfolding triangles
held-is zero [] = refl
held-is zero (x ∷ l) = refl
held-is (suc n) [] = let h : 3 * suc n ≡ suc (suc (suc (3 * n))) = omega arith in rw h
held-is (suc n) (x ∷ []) = let h : 3 * suc n ≡ suc (suc (suc (3 * n))) = omega arith in rw h
held-is (suc n) (x ∷ y ∷ []) = let h : 3 * suc n ≡ suc (suc (suc (3 * n))) = omega arith in rw h
held-is (suc n) (x ∷ y ∷ z ∷ l) = let h : 3 * suc n ≡ suc (suc (suc (3 * n))) = omega arith in rw h (ap (λ (k : List Tri). tri x y z ∷ k) (held-is n l))

pub held-less : (n m : ℕ) (l : List ℕ) → n ≤ m → held l n ≡ take n (held l m)
held-less n m l p = held-is n l ∙ sym (take-take n m (triangles l) p) ∙ ap (take n) (sym (held-is m l))

-- lists that agree so far hold the same triangles
pub held_same : (l m : List ℕ) (n : ℕ) → take (3 * n) l ≡ take (3 * n) m → held l n ≡ held m n
held_same l m n e = ap triangles e

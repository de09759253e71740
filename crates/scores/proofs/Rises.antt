-- The sides of a closed list in rising order are those of the places that the crate `sides` lists.
use Prim.Native.Nat.{ℕ, zero, suc, ◌+◌, ◌%◌, ◌<◌}
use native.Mathlib.Omega.{arith}
use mathlib.Core.Path.{◌≡◌, refl, sym, ap, ap₂, ◌∙◌}
use mathlib.Core.Bool.{Bool, true, false, ◌&&◌, cond}
use mathlib.Core.List.{List, ◌∷◌, ◌++◌, map, map-append}
use lib.Dec.{ltb}
use lib.ListN.{length}
use borrow.Author.Tests.{lt-ltb, le-ltb}
use Rattle.surface.specs.Triangle.{triangles}
use Rattle.surface.specs.Closed.{Closed, sides}
use Rattle.halfedges.specs.Place.{nx, at}
use Rattle.sides.specs.Side.{find, gate, add, row, rows, sorted}
use Rattle.sides.proofs.Edge.{find-is, find-some}
use Rattle.chains.proofs.Flat.{runs-side, side-runs}
use Rattle.rounds.specs.Choices.{Side}
use Rattle.oracle.specs.Rising.{side, joined, row_of, rows_of, rising}
use Rattle.scores.specs.Measures.{side_at}

side-eq : {a b x y : ℕ} → a ≡ x → b ≡ y → side a b ≡ side x y
side-eq e f = cc

module _ (c : List ℕ) (h : length c % 3 ≡ 0) (closed : Closed (triangles c)) where
  -- a side is joined where it is found
  joined-found : (a b k : ℕ) → find c a b (length c) ≡ suc k → joined (triangles c) a b ≡ true
  joined-found a b k e =
      let u = find-is c a b (length c) k e in
      let r = runs-side c h k u.low in
      let z : sides (triangles c) (at c k) (at c (nx k)) ≡ sides (triangles c) a b = ap₂ (sides (triangles c)) u.from u.to in
      lt-ltb 0 (sides (triangles c) a b + sides (triangles c) b a) (omega arith)

  joined-none : (a b : ℕ) → find c a b (length c) ≡ 0 → joined (triangles c) a b ≡ false
  joined-none a b e = none (sides (triangles c) a b) refl (sides (triangles c) b a) refl
    where
      off : 0 < sides (triangles c) a b → ⊥
      off l = let r = side-runs c h a b l in find-some c a b (length c) r.k (record { low = r.low; from = r.from; to = r.to }) e

      none : (m : ℕ) → sides (triangles c) a b ≡ m → (n : ℕ) → sides (triangles c) b a ≡ n → joined (triangles c) a b ≡ false
      none zero p zero q = le-ltb 0 (sides (triangles c) a b + sides (triangles c) b a) (omega arith)
      none zero p (suc n) q = let b = closed.paired.back b a (omega arith) in absurd (off (omega arith))
      none (suc m) p n q = absurd (off (omega arith))

  row_is : (a b d : ℕ) → row_of (triangles c) a b d ≡ map (side_at c) (row c a b d)
  unfolding row_of row
  row_is a b zero = refl
  row_is a b (suc d) = go (ltb a b) refl (find c a b (length c)) refl (row_is a (suc b) d)
    where
      rest : List Side
      rest = row_of (triangles c) a (suc b) d

      go : (t : Bool) → ltb a b ≡ t → (m : ℕ) → find c a b (length c) ≡ m → rest ≡ map (side_at c) (row c a (suc b) d)
          → cond (t && joined (triangles c) a b) (side a b ∷ rest) rest ≡ map (side_at c) (add (gate t m) (row c a (suc b) d))
      go true e zero f ih = ap (λ (x : Bool). cond x (side a b ∷ rest) rest) (joined-none a b f) ∙ ih
      go true e (suc k) f ih =
          let u = find-is c a b (length c) k f in
          ap (λ (x : Bool). cond x (side a b ∷ rest) rest) (joined-found a b k f)
          ∙ ap₂ (λ (x : Side) (l : List Side). x ∷ l) (side-eq (sym u.from) (sym u.to)) ih
      go false e m f ih = ih

  rows_is : (n a d : ℕ) → rows_of (triangles c) n a d ≡ map (side_at c) (rows c n a d)
  unfolding rows_of rows
  rows_is n a zero = refl
  rows_is n a (suc d) =
      ap₂ (λ (x y : List Side). x ++ y) (row_is a 0 n) (rows_is n (suc a) d) ∙ sym (map-append (side_at c) (row c a 0 n) (rows c n (suc a) d))

  pub rising-is : (n : ℕ) → rising (triangles c) n ≡ map (side_at c) (sorted c n)
  rising-is n = rows_is n 0 n

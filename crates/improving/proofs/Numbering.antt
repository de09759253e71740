-- The corners numbered by first use, with their points, then 0.
use Prim.Native.Nat.{ℕ, zero, suc, ◌*◌, ◌/◌, ◌<◌}
use native.Mathlib.Omega.{arith}
use mathlib.Core.Path.{◌≡◌, refl, sym, ap, ◌∙◌, subst}
use mathlib.Core.List.{List, [], ◌∷◌, ◌++◌, map, Memᴰ}
use lib.ListN.{length, take, drop, replicate, length-map, length-take}
use lib.Ieee.{Float}
use Rattle.field.specs.Number.{plus_zero}
use Rattle.surface.specs.Triangle.{triangles, corners}
use Rattle.surface.proofs.Flat.{corners-triangles}
use Rattle.halfedges.specs.Place.{at}
use Rattle.rounds.specs.Renumber.{index, met, walk, first_use}
use Rattle.rounds.proofs.FirstUse.{walk_is, met_mem}
use Rattle.rounds.proofs.Elements.{first-triangles}
use Rattle.oracle.specs.Points.{gathered}
use Rattle.blank.specs.Blank.{blank}
use Rattle.blank.proofs.Blanking.{blank-is}
use Rattle.renumber.specs.Saved.{Saved}
use Rattle.renumber.specs.Numbered as Renumber
use Rattle.improving.specs.Stages.{Numberable, Numbered}

mem_at : (l : List ℕ) (k : ℕ) → k < length l → Memᴰ (at l k) l
mem_at [] k h = absurd (omega arith)
mem_at (x ∷ l) zero h = Memᴰ.head refl
mem_at (x ∷ l) (suc k) h = Memᴰ.tail (mem_at l k (omega arith))

-- every new number is below the count of the corners met
walk-low : (c : List ℕ) (k : ℕ) → k < length (walk [] c) → at (walk [] c) k < length (met [] c)
walk-low c k l =
    let e = walk_is [] c in
    let z : length (walk [] c) ≡ length c = ap length e ∙ length-map c _ in
    subst (λ (x : ℕ). x < length (met [] c)) (sym (ap (λ (l : List ℕ). at l k) e ∙ map_at c k (omega arith))) (met_mem [] c (at c k) (mem_at c k (omega arith)))
  where
    map_at : (l : List ℕ) (k : ℕ) → k < length l → at (map (index (met [] c)) l) k ≡ index (met [] c) (at l k)
    map_at [] k h = absurd (omega arith)
    map_at (x ∷ l) zero h = refl
    map_at (x ∷ l) (suc k) h = map_at l k (omega arith)

module _ (ps : List Float) (c w : List ℕ) (h : Numberable ps c w) (w₁ : List ℕ) (z₁ : w₁ ≡ replicate (length ps / 3) 0 ++ drop (length ps / 3) w) (w₂ : List ℕ) (s : Saved ps w₁ w₂ (length ps / 3) (length ps)) where
  pub numbered_is : (ps₁ ps₂ : List Float) (c₁ w₃ : List ℕ) (p : ℕ) → length ps₁ ≡ length ps → Renumber.Numbered ps c w₂ ps₁ c₁ w₃ 0 p → ps₂ ≡ blank plus_zero ps₁ (p * 3) → Numbered ps c ps₂ c₁ p
  unfolding first_use
  numbered_is ps₁ ps₂ c₁ w₃ p e n b =
      let own : corners (triangles c) ≡ c = corners-triangles (length c / 3) c (let t = h.thirds in omega arith) in
      let points_are : take (p * 3) ps₁ ≡ gathered ps (first_use (triangles c)) = n.points ∙ ap (λ (l : List ℕ). gathered ps (met [] l)) (sym own) in
      let size : length (take (p * 3) ps₁) ≡ p * 3 = let x = length-take (p * 3) ps₁ in let y = n.fits in omega arith in
      record {
        corners = ap triangles (n.corners ∙ ap (walk []) (sym own)) ∙ first-triangles (triangles c);
        points = b ∙ blank-is plus_zero ps ps₁ (gathered ps (first_use (triangles c))) (p * 3) e points_are (sym (ap length points_are) ∙ size);
        count = sym (ap length points_are) ∙ size;
        below = λ k l. subst (λ (x : ℕ). at c₁ k < x) (sym n.count) (subst (λ (x : List ℕ). at x k < length (met [] c)) (sym n.corners) (walk-low c k (subst (λ (x : List ℕ). k < length x) n.corners l)));
        room = n.fits;
      }

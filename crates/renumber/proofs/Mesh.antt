-- What the lists come to as pairs and meshes: for the round.
use Prim.Native.Nat.{ℕ, ◌+◌, ◌*◌, ◌/◌, ◌%◌, ◌<◌, ◌≤◌}
use native.Mathlib.Omega.{arith}
use mathlib.Core.Path.{◌≡◌, sym, ◌∙◌, ap, ap₂}
use mathlib.Core.Bool.{Bool, false, not}
use mathlib.Core.List.{List, []}
use lib.Dec.{eqb}
use lib.ListN.{length, get_or, take, drop, length-map, length-drop, get_or-map}
use lib.Seq.{length-take-le, get_or-take, get_or-drop, ext_get_or}
use lib.Ieee.{Float}
use Rattle.surface.specs.Triangle.{Tri, triangles, corners}
use Rattle.surface.proofs.Flat.{triangles-corners, corners-triangles}
use Rattle.halfedges.specs.Place.{at}
use Rattle.history.specs.History.{Pair}
use Rattle.rounds.specs.Pass.{State, retain, result}
use Rattle.surface.specs.Renumber.{renumbered}
use Rattle.rounds.specs.Renumber.{met, first_use, walk}
use Rattle.rounds.proofs.Elements.{first-triangles}
use Rattle.oracle.specs.Points.{gathered}
use Rattle.oracle.specs.Round.{Mesh, numbered}
use Rattle.renumber.specs.Dropped.{gone_at, becomes, Dropped}
use Rattle.renumber.specs.Saved.{Saved}
use Rattle.renumber.specs.Numbered.{Numberable, Numbered}

abbrev pub pair_of : List ℕ → List ℕ → Pair
pair_of c ls = record { tris = triangles c; labels = ls }

-- marks that are those of the words, one by one
pub gone-is : (gs : List Bool) (w : List ℕ) (gone n : ℕ) → length gs ≡ n → gone + n ≤ length w → ((i : ℕ) → i < n → get_or gs i false ≡ not (eqb (at w (gone + i)) 0)) → gs ≡ gone_at w gone n
gone-is gs w gone n e room each = ext_get_or false gs (gone_at w gone n) (e ∙ sym size) (λ i l. each i (omega arith) ∙ sym (there i (omega arith)))
  where
    size : length (gone_at w gone n) ≡ n
    size = length-map (take n (drop gone w)) _ ∙ length-take-le n (drop gone w) (omega (arith, length-drop gone w))

    there : (i : ℕ) → i < n → get_or (gone_at w gone n) i false ≡ not (eqb (at w (gone + i)) 0)
    there i l = get_or-map (λ (x : ℕ). not (eqb x 0)) (take n (drop gone w)) i 0 ∙ ap (λ (x : ℕ). not (eqb x 0)) (get_or-take n (drop gone w) i 0 l ∙ get_or-drop gone w i 0)

-- the triangles and labels at the front are the pass's result
pub dropped-result : (c ls w c' ls' : List ℕ) (into gone r : ℕ) (s : State) → Dropped c ls w c' ls' into gone r
    → s.tris ≡ renumbered (becomes w into) (triangles c) → s.gone ≡ gone_at w gone (length ls)
    → pair_of (take (3 * r) c') (take r ls') ≡ result (pair_of c ls) s
dropped-result c ls w c' ls' into gone r s d e f =
    ap₂ (λ (x : List Tri) (y : List ℕ). record { tris = x; labels = y })
    (ap triangles d.corners ∙ triangles-corners (retain (gone_at w gone (length ls)) (renumbered (becomes w into) (triangles c))) ∙ ap₂ (λ (x : List Bool) (y : List Tri). retain x y) (sym f) (sym e))
    (d.labels ∙ ap (λ (x : List Bool). retain x ls) (sym f))

-- the corners and points are those of the mesh renumbered by first use
pub numbered-mesh : (ps : List Float) (c w : List ℕ) (ps' : List Float) (c' w' ls : List ℕ) (numbers r : ℕ) → length c % 3 ≡ 0 → Numbered ps c w ps' c' w' numbers r
    → ◌≡◌ {A = Mesh} (record { points = take (r * 3) ps'; pair = pair_of c' ls }) (numbered ps (pair_of c ls))
unfolding numbered first_use
numbered-mesh ps c w ps' c' w' ls numbers r t h =
    let e : corners (triangles c) ≡ c = corners-triangles (length c / 3) c (omega arith) in
    ap₂ (λ (x : List Float) (y : List Tri). record { points = x; pair = record { tris = y; labels = ls } })
    (h.points ∙ ap (λ (l : List ℕ). gathered ps (met [] l)) (sym e))
    (ap triangles (h.corners ∙ ap (walk []) (sym e)) ∙ first-triangles (triangles c))

-- after the points are saved, with zeros below them, the corners can be numbered
pub numberable : (ps : List Float) (c w w' : List ℕ) (saved : ℕ) → length c % 3 ≡ 0 → length ps ≤ 98304 → ((k : ℕ) → k < length c → at c k * 3 + 2 < length ps)
    → length ps / 3 ≤ saved → ((v : ℕ) → v < length ps / 3 → at w v ≡ 0) → Saved ps w w' saved (length ps) → Numberable ps c w' 0 saved
numberable ps c w w' saved t few low apart blank s = record {
  thirds = t;
  few = few;
  low = low;
  apart = omega arith;
  blank = λ v l. ap (at w') (same v) ∙ s.under v (omega arith) ∙ blank v l;
  kept = s.each;
}
  where
    same : (v : ℕ) → 0 + v ≡ v
    same v = omega arith

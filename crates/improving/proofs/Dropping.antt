-- The lists after the collapses of a round: what stays of the triangles and their labels, then 0.
use Prim.Native.Nat.{ℕ, zero, suc, ◌+◌, ◌*◌, ◌/◌, ◌<◌, ◌≤◌}
use native.Mathlib.Omega.{arith}
use mathlib.Core.Path.{◌≡◌, sym, ap, ◌∙◌, subst}
use mathlib.Core.Bool.{Bool, true, false}
use mathlib.Core.List.{List, [], ◌∷◌}
use lib.ListN.{length, get_or, take, length-map, length-take}
use lib.Ieee.{Float}
use Rattle.surface.specs.Triangle.{Tri, tri, triangles, corners}
use Rattle.surface.specs.Edit.{place}
use Rattle.surface.proofs.Flat.{place-triangles, corners-triangles}
use Rattle.halfedges.specs.Place.{at}
use Rattle.chains.proofs.Flat.{thirds-length}
use Rattle.history.specs.History.{Pair}
use Rattle.rounds.specs.Pass.{retain}
use Rattle.surface.specs.Renumber.{renumber, renumbered}
use Rattle.rounds.specs.Choices.{collapse_start}
use Rattle.rounds.proofs.Elements.{map-place}
use Rattle.oracle.specs.Scene.{scene}
use Rattle.oracle.specs.Candidates.{candidates}
use Rattle.oracle.specs.Slivers.{pass}
use Rattle.oracle.specs.Round.{dropped}
use Rattle.scores.specs.Measures.{pair_of}
use Rattle.flips.specs.Whole.{mesh_of, sheet_of}
use Rattle.blank.specs.Blank.{blank}
use Rattle.blank.proofs.Blanking.{blank-is}
use Rattle.renumber.specs.Dropped as Drop
use Rattle.renumber.specs.Dropped.{becomes, gone_at, Droppable}
use Rattle.renumber.proofs.Mesh.{gone-is, dropped-result}
use Rattle.collapsing.specs.Areas.{touched_from}
use Rattle.collapsing.specs.Noting.{Collapsed}
use Rattle.improving.specs.Rounded.{Improvable}
use Rattle.improving.specs.Stages.{Dropped}

-- what is left of a list is in the list
pub retain-each : {A : Type 0} (P : A → Type 0) (d : A) (gs : List Bool) (l : List A) → ((i : ℕ) → i < length l → P (get_or l i d)) → (i : ℕ) → i < length (retain gs l) → P (get_or (retain gs l) i d)
unfolding retain
retain-each P d [] l f i m = f i m
retain-each P d (g ∷ gs) [] f i m = absurd (omega arith)
retain-each P d (true ∷ gs) (x ∷ l) f i m = retain-each P d gs l (λ j q. f (suc j) (omega arith)) i m
retain-each P d (false ∷ gs) (x ∷ l) f zero m = f 0 (omega arith)
retain-each P d (false ∷ gs) (x ∷ l) f (suc i) m = retain-each P d gs l (λ j q. f (suc j) (omega arith)) i (omega arith)

-- corners of triangles below p
record Low (p : ℕ) (t : Tri) : Type 0 where
  pub a : t.a < p
  pub b : t.b < p
  pub c : t.c < p

corners-low : (p : ℕ) (ts : List Tri) → ((i : ℕ) → i < length ts → Low p (place ts i)) → (k : ℕ) → k < length (corners ts) → at (corners ts) k < p
unfolding corners
corners-low p [] f k l = absurd (omega arith)
corners-low p (t ∷ ts) f zero l = (f 0 (omega arith)).a
corners-low p (t ∷ ts) f (suc zero) l = (f 0 (omega arith)).b
corners-low p (t ∷ ts) f (suc (suc zero)) l = (f 0 (omega arith)).c
corners-low p (t ∷ ts) f (suc (suc (suc k))) l = corners-low p ts (λ i o. f (suc i) (omega arith)) k (omega arith)

-- w₁: the words after the pass
module _ (ps qs : List Float) (ns c ls w : List ℕ) (h : Improvable ps c ls w) (w₁ : List ℕ) (e₁ : length w₁ ≡ length w) (done : Collapsed (scene ps qs ns) c ls (length ps / 3) w w₁) where
  abbrev p : ℕ
  p = length ps / 3

  abbrev touched : ℕ
  touched = touched_from c (length ps / 3)

  sizes : (length c ≡ 3 * length ls) × (touched_from c (length ps / 3) + length ps / 3 * 2 + length ls ≤ length w₁)
  sizes = let r = h.room in let s = h.labelled.size in (omega arith, omega arith)

  module _ (c₁ ls₁ : List ℕ) (n : ℕ) (ec : length c₁ ≡ length c) (el : length ls₁ ≡ length ls) (d : Drop.Dropped c ls w₁ c₁ ls₁ (touched_from c (length ps / 3) + length ps / 3) (touched_from c (length ps / 3) + length ps / 3 * 2) n) where
    -- the labels at the front are n
    count : length (take n ls₁) ≡ n
    count = ap length d.labels ∙ sym d.count

    pub drop-fits : n ≤ length ls
    drop-fits = let x = length-take n ls₁ in let y = count in omega arith

    front : length (take (3 * n) c₁) ≡ 3 * n
    front = let x = length-take (3 * n) c₁ in let y = drop-fits in let z = sizes.0 in omega arith

    pair : pair_of (take (3 * n) c₁) (take n ls₁) ≡ dropped true (sheet_of qs ns) (mesh_of ps c ls)
    unfolding dropped
    pair = dropped-result c ls w₁ c₁ ls₁ (touched + p) (touched + p * 2) n (pass true (scene ps qs ns) (pair_of c ls) (collapse_start (pair_of c ls)) (candidates (scene ps qs ns) (pair_of c ls) (length ps / 3))) d done.state.tris (gone-is (pass true (scene ps qs ns) (pair_of c ls) (collapse_start (pair_of c ls)) (candidates (scene ps qs ns) (pair_of c ls) (length ps / 3))).gone w₁ (touched + p * 2) (length ls) done.state.size sizes.1 done.state.gone)

    abbrev left : Pair
    left = dropped true (sheet_of qs ns) (mesh_of ps c ls)

    corners_are : corners left.tris ≡ take (3 * n) c₁
    corners_are = ap (λ (x : Pair). corners x.tris) (sym pair) ∙ corners-triangles n (take (3 * n) c₁) front

    labels_are : left.labels ≡ take n ls₁
    labels_are = ap (λ (x : Pair). x.labels) (sym pair)

    low-one : (i : ℕ) → i < length (triangles c) → Low (length ps / 3) (place (renumbered (becomes w₁ (touched + p)) (triangles c)) i)
    low-one i l =
        let z = thirds-length c h.lists.thirds in
        let e = map-place (renumber (becomes w₁ (touched + p))) (triangles c) i l ∙ ap (renumber (becomes w₁ (touched + p))) (place-triangles c i (omega arith)) in
        subst (Low (length ps / 3)) (sym e) (record {
          a = done.state.below (at c (3 * i)) (h.lists.below (3 * i) (omega arith));
          b = done.state.below (at c (3 * i + 1)) (h.lists.below (3 * i + 1) (omega arith));
          c = done.state.below (at c (3 * i + 2)) (h.lists.below (3 * i + 2) (omega arith));
        })

    low : (k : ℕ) → k < length (take (3 * n) c₁) → at (take (3 * n) c₁) k < length ps / 3
    low = subst (λ (l : List ℕ). (k : ℕ) → k < length l → at l k < length ps / 3) (sym d.corners)
        (corners-low (length ps / 3) (retain (gone_at w₁ (touched + p * 2) (length ls)) (renumbered (becomes w₁ (touched + p)) (triangles c)))
        (retain-each (Low (length ps / 3)) (tri 0 0 0) (gone_at w₁ (touched + p * 2) (length ls)) (renumbered (becomes w₁ (touched + p)) (triangles c))
        (λ i l. low-one i (let z : length (renumbered (becomes w₁ (touched + p)) (triangles c)) ≡ length (triangles c) = length-map (triangles c) _ in omega arith))))

    pub dropped-is : (c₂ ls₂ : List ℕ) → c₂ ≡ blank 0 c₁ (n * 3) → ls₂ ≡ blank 0 ls₁ n → Dropped (dropped true (sheet_of qs ns) (mesh_of ps c ls)) (length ps / 3) c ls c₂ ls₂ n
    dropped-is c₂ ls₂ fc fl =
        let three : n * 3 ≡ 3 * n = omega arith in
        record {
          corners = fc ∙ blank-is 0 c c₁ (corners left.tris) (n * 3) ec (ap (λ (k : ℕ). take k c₁) three ∙ sym corners_are) (ap length corners_are ∙ front ∙ sym three);
          labels = fl ∙ blank-is 0 ls ls₁ left.labels n el (sym labels_are) (ap length labels_are ∙ count);
          count = ap length labels_are ∙ count;
          size = ap length corners_are ∙ front ∙ sym three;
          below = λ k l. subst (λ (x : List ℕ). at x k < length ps / 3) (sym corners_are) (low k (let f = front in omega arith));
          corner-room = let y = drop-fits in let z = sizes.0 in omega arith;
          label-room = drop-fits;
        }

-- The parts of a round put together: the collapses, the renumbering, the flips.
use Prim.Native.Nat.{ℕ, suc, ◌+◌, ◌*◌, ◌-◌, ◌/◌, ◌%◌, ◌<◌, ◌≤◌}
use native.Mathlib.Omega.{arith}
use mathlib.Core.Path.{◌≡◌, sym, ap, ap₂, ◌∙◌, subst}
use mathlib.Core.Bool.{Bool, true, false, ◌&&◌, cond}
use mathlib.Core.List.{List, [], ◌∷◌, ◌++◌}
use lib.ListN.{length, take, drop, replicate, length-map}
use lib.Seq.{take_at, drop_at}
use lib.Ieee.{Float}
use Rattle.surface.specs.Triangle.{Tri, triangles, corners}
use Rattle.surface.specs.Closed.{Closed}
use Rattle.surface.proofs.Flat.{triangles-corners, corners-triangles}
use Rattle.halfedges.specs.Place.{at}
use Rattle.halfedges.proofs.Fine.{nx-below}
use Rattle.sides.specs.Side.{sorted}
use Rattle.sides.proofs.Meeting.{met_of}
use Rattle.sides.proofs.Count.{half}
use Rattle.chains.proofs.Flat.{thirds-length}
use Rattle.history.specs.History.{Pair}
use Rattle.history.specs.Lists.{then_zero}
use Rattle.surface.specs.Renumber.{renumbered}
use Rattle.rounds.specs.Renumber.{number, first_use}
use Rattle.rounds.specs.Flips.{FlipState, flip_entry}
use Rattle.rounds.specs.Choices.{Side, may_flip, flip_step, flips_of, flip_start}
use Rattle.oracle.specs.Points.{gathered}
use Rattle.oracle.specs.Rising.{rising}
use Rattle.oracle.specs.Gains.{helps}
use Rattle.oracle.specs.Round.{Mesh, Sheet, seen, dropped, numbered, flipped, flips, round}
use Rattle.oracle.specs.Safe.{Safe}
use Rattle.oracle.proofs.Safe.{safe}
use Rattle.scores.specs.Measures.{pair_of}
use Rattle.scores.proofs.Rises.{rising-is}
use Rattle.flips.specs.Whole.{mesh_of, sheet_of, Flippable, Flipped}
use Rattle.improving.specs.Rounded.{Improvable, then_plus_zero, Rounded}
use Rattle.improving.specs.Stages.{Dropped, Numbered}

-- ---- flips are no more than sides

flips-within : (p : Pair) (choose : FlipState → Side → Bool) (s : FlipState) (ds : List Side) → length (flips_of p choose s ds) ≤ length ds
unfolding flips_of
flips-within p choose s [] = omega arith
flips-within p choose s (d ∷ ds) = go (may_flip p s d.one d.two && choose s d) (flips-within p choose (flip_step p s d.one d.two) ds) (flips-within p choose s ds)
  where
    go : (b : Bool) → length (flips_of p choose (flip_step p s d.one d.two) ds) ≤ length ds → length (flips_of p choose s ds) ≤ length ds
        → length (cond b (flip_entry d.one d.two ∷ flips_of p choose (flip_step p s d.one d.two) ds) (flips_of p choose s ds)) ≤ suc (length ds)
    go true x y = omega arith
    go false x y = omega arith

flips-few : (f : Sheet) (ps : List Float) (c ls : List ℕ) → length c % 3 ≡ 0 → Closed (triangles c) → ((k : ℕ) → k < length c → at c k < length ps / 3) → flips f (mesh_of ps c ls) ≤ length c / 2
unfolding flips
flips-few f ps c ls thirds closed below =
    let n = length ps / 3 in
    let p = pair_of c ls in
    let a : length (flips_of p (helps (seen f ps) p) (flip_start p) (rising (triangles c) n)) ≤ length (rising (triangles c) n) = flips-within p (helps (seen f ps) p) (flip_start p) (rising (triangles c) n) in
    let e : length (rising (triangles c) n) ≡ length (sorted c n) = ap length (rising-is c thirds closed n) ∙ length-map (sorted c n) _ in
    let t : length (sorted c n) + length (sorted c n) ≡ length c = half c (met_of c thirds closed) n (λ k l. nx-below (length c) k thirds l) below in
    omega arith

-- ---- after the collapses

module _ (ps qs : List Float) (ns c ls w : List ℕ) (h : Improvable ps c ls w) (c₁ ls₁ w₁ : List ℕ) (n : ℕ) (ec : length c₁ ≡ length c) (el : length ls₁ ≡ length ls) (ew : length w₁ ≡ length w)
    (d : Dropped (dropped true (sheet_of qs ns) (mesh_of ps c ls)) (length ps / 3) c ls c₁ ls₁ n) where
  abbrev left : Pair
  left = dropped true (sheet_of qs ns) (mesh_of ps c ls)

  -- the fronts are the pair that is left
  front : take (n * 3) c₁ ≡ corners left.tris
  front = ap (take (n * 3)) d.corners ∙ take_at (corners left.tris) _ (n * 3) d.size

  front-size : length (take (n * 3) c₁) ≡ n * 3
  front-size = ap length front ∙ d.size

  front-labels : take n ls₁ ≡ left.labels
  front-labels = ap (take n) d.labels ∙ take_at left.labels _ n d.count

  front-triangles : triangles (take (n * 3) c₁) ≡ left.tris
  front-triangles = ap triangles front ∙ triangles-corners left.tris

  is-safe : Safe (sheet_of qs ns) (mesh_of ps c ls)
  is-safe = safe (sheet_of qs ns) (mesh_of ps c ls) h.closed (let a = thirds-length c h.lists.thirds in let b = h.labelled.size in omega arith)

  -- ---- after the renumbering

  module _ (ps₂ : List Float) (c₂ w₂ : List ℕ) (p : ℕ) (ec₂ : length c₂ ≡ length (take (n * 3) c₁)) (ew₂ : length w₂ ≡ length w₁) (m : Numbered ps (take (n * 3) c₁) ps₂ c₂ p) where
    size₂ : length c₂ ≡ n * 3
    size₂ = ec₂ ∙ front-size

    whole₂ : take (n * 3) (c₂ ++ drop (n * 3) c₁) ≡ c₂
    whole₂ = take_at c₂ (drop (n * 3) c₁) (n * 3) size₂

    points_are : take (p * 3) ps₂ ≡ gathered ps (first_use (triangles (take (n * 3) c₁)))
    points_are = ap (take (p * 3)) m.points ∙ take_at (gathered ps (first_use (triangles (take (n * 3) c₁)))) _ (p * 3) m.count

    points-size : length (take (p * 3) ps₂) ≡ p * 3
    points-size = ap length points_are ∙ m.count

    tris_are : triangles (take (n * 3) (c₂ ++ drop (n * 3) c₁)) ≡ renumbered (number left.tris) left.tris
    tris_are = ap triangles whole₂ ∙ m.corners ∙ ap (λ (ts : List Tri). renumbered (number ts) ts) front-triangles

    mesh-is : mesh_of (take (p * 3) ps₂) (take (n * 3) (c₂ ++ drop (n * 3) c₁)) (take n ls₁) ≡ numbered ps left
    unfolding numbered
    mesh-is = λ i. record {
      points = (points_are ∙ ap (λ (ts : List Tri). gathered ps (first_use ts)) front-triangles) i;
      pair = record { tris = tris_are i; labels = front-labels i };
    }

    pub part_flippable : Flippable (take (p * 3) ps₂) (take (n * 3) (c₂ ++ drop (n * 3) c₁)) (take n ls₁) w₂
    part_flippable =
        let a = ap length whole₂ in
        let b = size₂ in
        let r = d.corner-room in
        let q = points-size in
        let x = m.room in
        let y = ap length front-labels in
        let z = d.count in
        let few = h.lists.few in
        let most = h.lists.points in
        let coords = h.coords in
        let room = h.room in
        let each = h.labelled.size in
        record {
          thirds = omega arith;
          few = omega arith;
          most = omega arith;
          below = λ k l. let s : at c₂ k < p = m.below k (omega arith) in subst (λ (u : List ℕ). at u k < length (take (p * 3) ps₂) / 3) (sym whole₂) (omega arith);
          labelled = omega arith;
          closed = subst Closed (sym tris_are) is-safe.edits.closed-numbered;
          room = omega arith;
        }

    -- ---- after the flips

    module _ {v v' : List ℕ} (c₃ : List ℕ) (k : ℕ) (ec₃ : length c₃ ≡ length (take (n * 3) (c₂ ++ drop (n * 3) c₁))) (f : Flipped (take (p * 3) ps₂) qs ns (take (n * 3) (c₂ ++ drop (n * 3) c₁)) (take n ls₁) v c₃ v' k) where
      abbrev middle : Mesh
      middle = numbered ps left

      pair_is : pair_of c₃ (take n ls₁) ≡ flipped (sheet_of qs ns) (numbered ps left)
      pair_is = f.pair ∙ ap (flipped (sheet_of qs ns)) mesh-is

      size₃ : length c₃ ≡ n * 3
      size₃ = ec₃ ∙ ap length whole₂ ∙ size₂

      corners_are : corners (flipped (sheet_of qs ns) (numbered ps left)).tris ≡ c₃
      corners_are = ap (λ (x : Pair). corners x.tris) (sym pair_is) ∙ corners-triangles n c₃ (let s = size₃ in omega arith)

      labels_are : (flipped (sheet_of qs ns) (numbered ps left)).labels ≡ left.labels
      labels_are = ap (λ (x : Pair). x.labels) (sym pair_is) ∙ front-labels

      rest : drop (n * 3) (c₂ ++ drop (n * 3) c₁) ≡ replicate (length c - length (corners left.tris)) 0
      rest = drop_at c₂ (drop (n * 3) c₁) (n * 3) size₂ ∙ ap (drop (n * 3)) d.corners ∙ drop_at (corners left.tris) _ (n * 3) d.size

      pub part-rounded : Rounded (round true (sheet_of qs ns) (mesh_of ps c ls)) 49152 ps c ls ps₂ (c₃ ++ drop (n * 3) (c₂ ++ drop (n * 3) c₁)) ls₁ p n k
      unfolding round numbered
      part-rounded = record {
        holds = record {
          points = m.points ∙ ap (λ (ts : List Tri). then_plus_zero ps (gathered ps (first_use ts))) front-triangles;
          corners =
              ap (λ (x : List ℕ). c₃ ++ x) rest
              ∙ ap₂ (λ (x : List ℕ) (j : ℕ). x ++ replicate (length c - j) 0) (sym corners_are) (d.size ∙ sym size₃ ∙ ap length (sym corners_are));
          labels = d.labels ∙ ap (then_zero ls) (sym labels_are);
        };
        points = ap (λ (ts : List Tri). length (gathered ps (first_use ts))) (sym front-triangles) ∙ m.count;
        triangles = ap length labels_are ∙ d.count;
        flips = f.flips_are ∙ ap (flips (sheet_of qs ns)) mesh-is;
        few =
            let g = part_flippable in
            let a = flips-few (sheet_of qs ns) (take (p * 3) ps₂) (take (n * 3) (c₂ ++ drop (n * 3) c₁)) (take n ls₁) g.thirds g.closed g.below in
            let b = f.flips_are in
            let e = g.few in
            omega arith;
      }

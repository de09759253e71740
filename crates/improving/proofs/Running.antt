-- Rounds one after another: what holds of the mesh before each, and the lists with their fronts replaced.
use Prim.Native.Nat.{ℕ, zero, suc, ◌+◌, ◌*◌, ◌-◌, ◌/◌, ◌%◌, ◌≤◌, ◌<◌}
use native.Mathlib.Omega.{arith}
use native.Mathlib.Numerals.{add-one}
use mathlib.Core.Path.{◌≡◌, refl, sym, ap, ap₂, ◌∙◌, subst}
use mathlib.Core.Bool.{true}
use mathlib.Core.List.{List, ◌∷◌, ◌++◌, append_assoc, append-nil}
use lib.ListN.{length, get_or, take, drop, replicate}
use lib.Seq.{take_at, drop_at, length_front}
use lib.Ieee.{Float}
use Rattle.field.specs.Number.{plus_zero}
use Rattle.surface.specs.Triangle.{Tri, triangles, corners}
use Rattle.surface.specs.Closed.{InUse, Closed}
use Rattle.surface.specs.Euler.{Below}
use Rattle.surface.proofs.Flat.{triangles-corners, corners-triangles, length-corners}
use Rattle.surface.proofs.Euler.{use_has}
use Rattle.surface.proofs.Bridge.{in_use}
use Rattle.surface.proofs.Places.{has-place}
use Rattle.halfedges.specs.Place.{at}
use Rattle.chains.proofs.Flat.{thirds-length, place_at, reads_spot}
use Rattle.history.specs.Lists.{then_zero}
use Rattle.oracle.specs.Round.{Mesh, Sheet, count, dropped, numbered, flipped, round, rounds}
use Rattle.oracle.specs.Safe.{after}
use Rattle.oracle.proofs.Safe.{safe, safe-after}
use Rattle.flips.specs.Whole.{mesh_of, sheet_of}
use Rattle.improving.specs.Rounded.{Improvable, Holds, Rounded}
use Rattle.improving.proofs.Dropping.{retain-each}

-- ---- a list that holds l and then z, whose front is lent and comes back

replicate-append : {A : Type 0} (z : A) (m n : ℕ) → replicate m z ++ replicate n z ≡ replicate (m + n) z
replicate-append z zero n = let e : n ≡ 0 + n = omega arith in ap (λ (k : ℕ). replicate k z) e
replicate-append z (suc m) n = let e : suc (m + n) ≡ suc m + n = omega arith in ap (λ (t : List _). z ∷ t) (replicate-append z m n) ∙ ap (λ (k : ℕ). replicate k z) e

pub refilled : {A : Type 0} (z : A) (lent xs l l' xs' : List A) (n : ℕ) → xs ≡ l ++ replicate (length lent - length l) z → length l ≡ n → length l ≤ length lent → length l' ≤ length l
    → xs' ≡ l' ++ replicate (length l - length l') z → xs' ++ drop n xs ≡ l' ++ replicate (length lent - length l') z
refilled z lent xs l l' xs' n e f a b g =
    let rest = replicate (length lent - length l) z in
    let all : (length l - length l') + (length lent - length l) ≡ length lent - length l' = omega arith in
    ap₂ (λ (x y : List _). x ++ y) g (ap (drop n) e ∙ drop_at l rest n f)
    ∙ append_assoc l' (replicate (length l - length l') z) rest
    ∙ ap (λ (t : List _). l' ++ t) (replicate-append z (length l - length l') (length lent - length l) ∙ ap (λ (k : ℕ). replicate k z) all)

-- and one that is held by the whole list
whole : {A : Type 0} (z : A) (l : List A) → l ≡ l ++ replicate (length l - length l) z
whole z l = let e : 0 ≡ length l - length l = omega arith in sym (append-nil l) ∙ ap (λ (k : ℕ). l ++ replicate k z) e

-- ---- the mesh before each round

-- a mesh of at most p points and n triangles that a round may be handed
pub record Fine (p n : ℕ) (m : Mesh) : Type 0 where
  pub closed : Closed m.pair.tris
  pub labelled : length m.pair.labels ≡ length m.pair.tris
  pub whole : length m.points ≡ count m * 3
  pub below : Below (count m) m.pair.tris
  pub small : (i : ℕ) → i < length m.pair.labels → get_or m.pair.labels i 0 < 8
  pub few-points : count m ≤ p
  pub few-triangles : length m.pair.labels ≤ n

no_more : (a b : ℕ) → ((w : ℕ) → w < a → w < b) → a ≤ b
no_more zero b f = omega arith
no_more (suc a) b f = f a (omega arith)

-- a round leaves such a mesh, and no more points and triangles
pub fine-next : (f : Sheet) {p n : ℕ} {m : Mesh} → Fine p n m → Fine (count m) (length m.pair.labels) (round true f m).mesh
unfolding round flipped numbered dropped
fine-next f {p} {n} {m} h =
    let s = safe f m h.closed h.labelled in
    let low : Below (count m) (round true f m).mesh.pair.tris = s.edits.below (count m) h.below in
    record {
      closed = s.edits.closed;
      labelled = s.edits.labelled;
      whole = s.whole;
      below = λ v u. (s.used v).0 u;
      small = retain-each (λ (l : ℕ). l < 8) 0 _ m.pair.labels h.small;
      few-points = no_more (count (round true f m).mesh) (count m) (λ w l. low w ((s.used w).1 l));
      few-triangles = let e = s.edits.triangles in let x = s.edits.labelled in let y = h.labelled in omega arith;
    }

-- more points and triangles may be allowed
pub fine-within : {p n p' n' : ℕ} {m : Mesh} → p ≤ p' → n ≤ n' → Fine p n m → Fine p' n' m
fine-within a b h = record { closed = h.closed; labelled = h.labelled; whole = h.whole; below = h.below; small = h.small; few-points = let x = h.few-points in omega arith; few-triangles = let x = h.few-triangles in omega arith }

-- and so after any number of rounds
pub fine-after : (f : Sheet) {p n : ℕ} {m : Mesh} → Fine p n m → (r : ℕ) → Fine p n (after f r m)
unfolding rounds
fine-after f h zero = h
fine-after f {p} {n} {m} h (suc r) =
    let g = fine-after f h r in
    let s = safe-after f r m h.closed h.labelled in
    subst (Fine p n) (sym s.made) (fine-within g.few-points g.few-triangles (fine-next f g))

-- the lists that may be improved are such a mesh
pub fine-first : {ps : List Float} {c ls w : List ℕ} → Improvable ps c ls w → Fine (length ps / 3) (length ls) (mesh_of ps c ls)
fine-first {ps} {c} {ls} h =
    let thirds = h.lists.thirds in
    record {
      closed = h.closed;
      labelled = omega (arith, thirds-length c thirds, h.labelled.size);
      whole = let e = h.coords in omega arith;
      below = λ v u.
          let q = has-place (triangles c) (use_has (triangles c) v u).2 in
          let k = reads_spot c thirds q.at q.fits q.reads in
          subst (λ (x : ℕ). x < length ps / 3) k.one (h.lists.below k.k k.low);
      small = h.labelled.small;
      few-points = omega arith;
      few-triangles = omega arith;
    }

-- and such a mesh, as lists, may be improved
pub improvable : {p n : ℕ} {m : Mesh} (w : List ℕ) → Fine p n m → p ≤ 32768 → n ≤ 32768 → 32 * n + 16 * p ≤ length w → Improvable m.points (corners m.pair.tris) m.pair.labels w
improvable {p} {n} {m} w h a b room =
    let ts = m.pair.tris in
    let size = length-corners ts in
    let lab = h.labelled in
    let x = h.few-points in
    let y = h.few-triangles in
    let thirds : length (corners ts) % 3 ≡ 0 = omega arith in
    record {
      lists = record {
        thirds = thirds;
        few = omega arith;
        points = omega arith;
        below = λ k l. h.below (at (corners ts) k) (subst (λ (us : List Tri). InUse us (at (corners ts) k)) (triangles-corners ts) (in_use (place_at (corners ts) thirds k l)));
      };
      coords = let e = h.whole in omega arith;
      labelled = record { size = omega arith; small = h.small };
      closed = subst Closed (sym (triangles-corners ts)) h.closed;
      room = omega arith;
    }

-- ---- the loop

-- after r of `most` rounds
pub record Running (ps₀ : List Float) (c₀ ls₀ w₀ : List ℕ) (qs : List Float) (ns : List ℕ) (most : ℕ) (ps : List Float) (c ls w : List ℕ) (p n k r : ℕ) : Type 0 where
  pub rounded : Rounded (rounds true (sheet_of qs ns) r (mesh_of ps₀ c₀ ls₀)) (49152 * r) ps₀ c₀ ls₀ ps c ls p n k
  pub fine : Fine (length ps₀ / 3) (length ls₀) (after (sheet_of qs ns) r (mesh_of ps₀ c₀ ls₀))
  pub begun : Improvable ps₀ c₀ ls₀ w₀
  pub turns : r ≤ most
  pub few : most ≤ 1000
  pub point-room : p * 3 ≤ length ps
  pub corner-room : n * 3 ≤ length c
  pub label-room : n ≤ length ls
  pub points : length ps ≡ length ps₀
  pub corners : length c ≡ length c₀
  pub labels : length ls ≡ length ls₀
  pub work : length w ≡ length w₀

pub running : {ps : List Float} {c ls w : List ℕ} (qs : List Float) (ns : List ℕ) {most : ℕ} → Improvable ps c ls w → most ≤ 1000 → Running ps c ls w qs ns most ps c ls w (length ps / 3) (length ls) 0 0
unfolding rounds
running {ps} {c} {ls} {w} qs ns h few = record {
  rounded = record {
    holds = record {
      points = whole plus_zero ps;
      corners = whole 0 c ∙ ap (then_zero c) (sym (corners-triangles (length ls) c (let x = h.labelled.size in omega arith)));
      labels = whole 0 ls;
    };
    points = (fine-first h).whole;
    triangles = refl;
    flips = refl;
    few = omega arith;
  };
  fine = fine-first h;
  begun = h;
  turns = omega arith;
  few = few;
  point-room = omega arith;
  corner-room = let x = h.labelled.size in omega arith;
  label-room = omega arith;
  points = refl;
  corners = refl;
  labels = refl;
  work = refl;
}

-- the next round, on the fronts
module _ {ps₀ : List Float} {c₀ ls₀ w₀ : List ℕ} {qs : List Float} {ns : List ℕ} {most : ℕ} {ps : List Float} {c ls w : List ℕ} {p n k r : ℕ} (h : Running ps₀ c₀ ls₀ w₀ qs ns most ps c ls w p n k r) where
  abbrev f : Sheet
  f = sheet_of qs ns

  abbrev m₀ : Mesh
  m₀ = mesh_of ps₀ c₀ ls₀

  abbrev m : Mesh
  m = after (sheet_of qs ns) r (mesh_of ps₀ c₀ ls₀)

  size : length (corners m.pair.tris) ≡ n * 3
  size = let x = length-corners m.pair.tris in let y = h.fine.labelled in let z = h.rounded.triangles in omega arith

  -- the fronts are the mesh
  points_are : take (p * 3) ps ≡ m.points
  points_are = ap (take (p * 3)) h.rounded.holds.points ∙ take_at m.points _ (p * 3) h.rounded.points

  corners_are : take (n * 3) c ≡ corners m.pair.tris
  corners_are = ap (take (n * 3)) h.rounded.holds.corners ∙ take_at (corners m.pair.tris) _ (n * 3) size

  labels_are : take n ls ≡ m.pair.labels
  labels_are = ap (take n) h.rounded.holds.labels ∙ take_at m.pair.labels _ n h.rounded.triangles

  pub running_handed : Improvable (take (p * 3) ps) (take (n * 3) c) (take n ls) w
  running_handed =
      let b = h.begun in
      let x = b.lists.points in
      let y = b.lists.few in
      let z = b.labelled.size in
      let room = b.room in
      let e = h.work in
      subst (λ (l : List Float). Improvable l (take (n * 3) c) (take n ls) w) (sym points_are)
      (subst (λ (l : List ℕ). Improvable m.points l (take n ls) w) (sym corners_are)
      (subst (λ (l : List ℕ). Improvable m.points (corners m.pair.tris) l w) (sym labels_are)
      (improvable w h.fine x (omega arith) (omega arith))))

  same-mesh : mesh_of m.points (corners m.pair.tris) m.pair.labels ≡ m
  same-mesh = λ i. record { points = m.points; pair = record { tris = triangles-corners m.pair.tris i; labels = m.pair.labels } }

  module _ {ps' : List Float} {c' ls' : List ℕ} {p' n' k' : ℕ} (x : Rounded (round true (sheet_of qs ns) (mesh_of (take (p * 3) ps) (take (n * 3) c) (take n ls))) 49152 (take (p * 3) ps) (take (n * 3) c) (take n ls) ps' c' ls' p' n' k') where
    abbrev m' : Mesh
    m' = (round true (sheet_of qs ns) (after (sheet_of qs ns) r (mesh_of ps₀ c₀ ls₀))).mesh

    made : Rounded (round true f m) 49152 m.points (corners m.pair.tris) m.pair.labels ps' c' ls' p' n' k'
    made =
        subst (λ (y : Mesh). Rounded (round true f y) 49152 m.points (corners m.pair.tris) m.pair.labels ps' c' ls' p' n' k') same-mesh
        (subst (λ (l : List ℕ). Rounded (round true f (mesh_of m.points (corners m.pair.tris) l)) 49152 m.points (corners m.pair.tris) l ps' c' ls' p' n' k') labels_are
        (subst (λ (l : List ℕ). Rounded (round true f (mesh_of m.points l (take n ls))) 49152 m.points l (take n ls) ps' c' ls' p' n' k') corners_are
        (subst (λ (l : List Float). Rounded (round true f (mesh_of l (take (n * 3) c) (take n ls))) 49152 l (take (n * 3) c) (take n ls) ps' c' ls' p' n' k') points_are x)))

    fine : Fine (count m) (length m.pair.labels) m'
    fine = fine-next f h.fine

    fewer : length (corners m'.pair.tris) ≤ length (corners m.pair.tris)
    fewer = let a = length-corners m.pair.tris in let b = length-corners m'.pair.tris in let d = h.fine.labelled in let e = fine.labelled in let g = fine.few-triangles in omega arith

    holds : Holds m' ps₀ c₀ ls₀ (ps' ++ drop (p * 3) ps) (c' ++ drop (n * 3) c) (ls' ++ drop n ls)
    holds =
        let a = h.points in
        let b = h.corners in
        let d = h.labels in
        let e = h.rounded.points in
        let g = h.rounded.triangles in
        let i = h.point-room in
        let j = h.corner-room in
        let q = h.label-room in
        let u = h.fine.whole in
        let v = fine.whole in
        let y = fine.few-points in
        record {
          points = refilled plus_zero ps₀ ps m.points m'.points ps' (p * 3) h.rounded.holds.points e (omega arith) (omega arith) made.holds.points;
          corners = refilled 0 c₀ c (corners m.pair.tris) (corners m'.pair.tris) c' (n * 3) h.rounded.holds.corners size (omega (arith, size)) fewer made.holds.corners;
          labels = refilled 0 ls₀ ls m.pair.labels m'.pair.labels ls' n h.rounded.holds.labels g (omega arith) fine.few-triangles made.holds.labels;
        }

    pub running_on : r < most → length ps' ≡ length (take (p * 3) ps) → length c' ≡ length (take (n * 3) c) → length ls' ≡ length (take n ls) → {w' : List ℕ} → length w' ≡ length w
        → Running ps₀ c₀ ls₀ w₀ qs ns most (ps' ++ drop (p * 3) ps) (c' ++ drop (n * 3) c) (ls' ++ drop n ls) w' p' n' (k + k') (r + 1)
    running_on l a b d {w'} e =
        let s = safe-after f r m₀ h.begun.closed (fine-first h.begun).labelled in
        let u = h.rounded.few in
        let v = made.few in
        let sp = length_front ps ps' (p * 3) a in
        let sc = length_front c c' (n * 3) b in
        let sl = length_front ls ls' n d in
        let fp = h.fine.few-points in
        let ft = h.fine.few-triangles in
        let gp = fine.few-points in
        let gt = fine.few-triangles in
        let gw = fine.whole in
        let mp = made.points in
        let mt = made.triangles in
        let lab = h.begun.labelled.size in
        let ep = h.points in
        let ec = h.corners in
        let el = h.labels in
        subst (λ (y : ℕ). Running ps₀ c₀ ls₀ w₀ qs ns most (ps' ++ drop (p * 3) ps) (c' ++ drop (n * 3) c) (ls' ++ drop n ls) w' p' n' (k + k') y) (sym (add-one r)) (record {
          rounded = record {
            holds = subst (λ (y : Mesh). Holds y ps₀ c₀ ls₀ (ps' ++ drop (p * 3) ps) (c' ++ drop (n * 3) c) (ls' ++ drop n ls)) (sym s.made) holds;
            points = ap (λ (y : Mesh). length y.points) s.made ∙ mp;
            triangles = ap (λ (y : Mesh). length y.pair.labels) s.made ∙ mt;
            flips = ap₂ (λ (y z : ℕ). y + z) h.rounded.flips made.flips ∙ sym s.counted;
            few = omega arith;
          };
          fine = subst (λ (y : Mesh). Fine (length ps₀ / 3) (length ls₀) y) (sym s.made) (fine-within fp ft fine);
          begun = h.begun;
          turns = omega arith;
          few = h.few;
          point-room = omega arith;
          corner-room = omega arith;
          label-room = omega arith;
          points = sp ∙ ep;
          corners = sc ∙ ec;
          labels = sl ∙ el;
          work = e ∙ h.work;
        })

pub ran : {ps₀ : List Float} {c₀ ls₀ w₀ : List ℕ} {qs : List Float} {ns : List ℕ} {most : ℕ} {ps : List Float} {c ls w : List ℕ} {p n k r : ℕ} → Running ps₀ c₀ ls₀ w₀ qs ns most ps c ls w p n k r → most ≤ r
    → Rounded (rounds true (sheet_of qs ns) most (mesh_of ps₀ c₀ ls₀)) (49152 * most) ps₀ c₀ ls₀ ps c ls p n k
ran {ps₀} {c₀} {ls₀} {w₀} {qs} {ns} {most} {ps} {c} {ls} {w} {p} {n} {k} {r} h l =
    let t = h.turns in
    let e : r ≡ most = omega arith in
    subst (λ (y : ℕ). Rounded (rounds true (sheet_of qs ns) y (mesh_of ps₀ c₀ ls₀)) (49152 * y) ps₀ c₀ ls₀ ps c ls p n k) e h.rounded

-- A flip and a collapse taken back on the lists that a program holds.
use Prim.Native.Nat.{ℕ, zero, suc, ◌+◌, ◌*◌, ◌≤◌, ◌<◌}
use mathlib.Core.Path.{◌≡◌, refl, sym, ◌∙◌, ap, subst, subst₂}
use mathlib.Core.List.{List, [], ◌∷◌, map}
use native.Mathlib.Omega.{arith}
use lib.Dec.{eqb}
use lib.ListN.{length, get_or, take, drop}
use borrow.Author.Tests.{eq-eqb, ne_eqb}
use Rattle.surface.specs.Triangle.{Tri, tri}
use Rattle.surface.specs.Closed.{sides, around}
use Rattle.surface.specs.Edit.{Hinge, hinge, place, collapse}
use Rattle.surface.specs.Flat.{tri_at, held, three_at, put_at}
use Rattle.surface.proofs.Hinged.{Hinged}
use Rattle.surface.proofs.Held.{length-held}
use Rattle.surface.proofs.Laws.{hinge-found}
use Rattle.history.specs.History.{Pair, Entry, words, made}
use Rattle.history.specs.Accepted.{Edit, flips, collapses}
use Rattle.history.specs.Flat.{pair_of}
use Rattle.history.specs.Undo.{turned, inserted, walk, restored, uncollapsed, undone}
use Rattle.history.specs.Entry.{needed, Good, Standing, Undoable, TakenBack}
use Rattle.history.proofs.Run.{flip-length, collapse-length, out_two}
use Rattle.history.proofs.Undo.{ahead-is, collapse-route}
use Rattle.history.proofs.Entry.{recorded-undone}
use Rattle.verdicts.specs.Notes.{Listed, On}
use Rattle.verdicts.proofs.Notes.{listed-on}
use Rattle.entries.specs.Moved.{Zero, Backward}
use Rattle.entries.specs.Marks.{Marked, restored_by, Mapped}
use Rattle.entries.specs.Undoes.{first_of, second_of, walk_from, walk_to, Unflips, Uncollapses, Restored}
use Rattle.entries.proofs.Moved.{backward_zero, drop-same-zero, inserted-held, inserted-take}
use Rattle.entries.proofs.Edits.{two-put}
use Rattle.entries.proofs.Marks.{restored-is}
use Rattle.entries.proofs.Acts.{fits, standing-lists}

-- the three ways in which a triangle can be turned
pub turned_0 : (s x y z : ℕ) → s ≡ 0 → tri x y z ≡ turned s x y z
turned_0 zero x y z e = refl
turned_0 (suc s) x y z e = absurd (omega arith)

pub turned_1 : (s x y z : ℕ) → s ≡ 1 → tri z x y ≡ turned s x y z
turned_1 zero x y z e = absurd (omega arith)
turned_1 (suc zero) x y z e = refl
turned_1 (suc (suc s)) x y z e = absurd (omega arith)

pub turned_2 : (s x y z : ℕ) → (s ≡ 0 → ⊥) → (s ≡ 1 → ⊥) → tri y z x ≡ turned s x y z
turned_2 zero x y z m n = absurd (m refl)
turned_2 (suc zero) x y z m n = absurd (n refl)
turned_2 (suc (suc s)) x y z m n = refl

-- the triangles that the walk meets get b again
map_same : (f g : Tri → Tri) (ts : List Tri) → ((i : ℕ) → i < length ts → f (place ts i) ≡ g (place ts i)) → map f ts ≡ map g ts
map_same f g [] h = refl
map_same f g (t ∷ ts) h = ap {B = List Tri} (λ (u : Tri). u ∷ map f ts) (h 0 (omega arith)) ∙ ap (λ (us : List Tri). g t ∷ us) (map_same f g ts (λ i m. h (suc i) (omega arith)))

pub listed-place : {l : List ℕ} {n points : ℕ} → Listed l n points → (i : ℕ) → i < n → On points (place (held l n) i)
listed-place {l} {n} {points} s i q =
    subst (λ (t : Tri). On points t) (sym (Rattle.surface.proofs.Held.place-held l n i s.room q)) (listed-on s i q (three_at l i) refl)

restored-held : {l l1 : List ℕ} {n points : ℕ} → Listed l n points → (a b : ℕ) (w ws : List ℕ) → Marked points w ws → Mapped (restored_by points w a b) n l l1 → held l1 n ≡ map (restored a b ws) (held l n)
restored-held {l} {l1} {n} {points} s a b w ws m g =
    g.is ∙ map_same (restored_by points w a b) (restored a b ws) (held l n) (λ i p. restored-is w ws m a b (place (held l n) i) (listed-place s i (omega (arith, length-held l n s.room))))

-- a collapse taken back
module _ {l ls : List ℕ} {n points : ℕ} {ws : List ℕ} (u : Uncollapses l ls n ws) (s : Listed l n points) (w : List ℕ) {l1 l2 l3 ls1 ls2 : List ℕ}
    (m : Marked points w (walk (length (around (held l n) (get_or ws 1 0))) (walk_from ws) (walk_to ws) (around (held l n) (get_or ws 1 0))))
    (g : Mapped (restored_by points w (get_or ws 1 0) (get_or ws 2 0)) n l l1)
    (b1 : Backward 0 (3 * get_or ws 5 0) 3 l1 l2) (t1 : tri_at l2 (get_or ws 5 0) ≡ first_of ws) (b2 : Backward 0 (3 * get_or ws 6 0) 3 l2 l3) (t2 : tri_at l3 (get_or ws 6 0) ≡ second_of ws)
    (c1 : Backward 0 (get_or ws 5 0) 1 ls ls1) (x1 : get_or ls1 (get_or ws 5 0) 0 ≡ get_or ws 9 0) (c2 : Backward 0 (get_or ws 6 0) 1 ls1 ls2) (x2 : get_or ls2 (get_or ws 6 0) 0 ≡ get_or ws 10 0) where
  abbrev path : List ℕ
  path = walk (length (around (held l n) (get_or ws 1 0))) (walk_from ws) (walk_to ws) (around (held l n) (get_or ws 1 0))

  j : n + 2 ≡ suc (n + 1)
  j = omega arith

  i : n + 1 ≡ suc n
  i = omega arith

  tris-back : held l3 (n + 2) ≡ inserted (get_or ws 6 0) (second_of ws) (inserted (get_or ws 5 0) (first_of ws) (map (restored (get_or ws 1 0) (get_or ws 2 0) path) (held l n)))
  tris-back =
      let r = u.room in
      let p = u.first in
      let q = u.second in
      ap (held l3) j ∙ inserted-held (n + 1) (get_or ws 6 0) (omega (arith, g.size, b1.size)) (omega arith) b2 (second_of ws) t2
      ∙ ap (inserted (get_or ws 6 0) (second_of ws)) (ap (held l2) i ∙ inserted-held n (get_or ws 5 0) (omega (arith, g.size)) (omega arith) b1 (first_of ws) t1
      ∙ ap (inserted (get_or ws 5 0) (first_of ws)) (restored-held s (get_or ws 1 0) (get_or ws 2 0) w path m g))

  labels-back : take (n + 2) ls2 ≡ inserted (get_or ws 6 0) (get_or ws 10 0) (inserted (get_or ws 5 0) (get_or ws 9 0) (take n ls))
  labels-back =
      let r = u.labels in
      let p = u.first in
      let q = u.second in
      ap (λ (k : ℕ). take k ls2) j ∙ inserted-take (n + 1) (get_or ws 6 0) (omega (arith, c1.size)) (omega arith) c2 (get_or ws 10 0) x2
      ∙ ap (inserted (get_or ws 6 0) (get_or ws 10 0)) (ap (λ (k : ℕ). take k ls1) i ∙ inserted-take n (get_or ws 5 0) (omega arith) (omega arith) c1 (get_or ws 9 0) x1)

  pub uncollapse_made : Restored l ls n ws l3 ls2 (n + 2)
  unfolding uncollapsed
  uncollapse_made =
      let p = u.first in
      let q = u.second in
      let k1 : 3 * n + 3 ≡ 3 * (n + 1) = omega arith in
      let k2 : 3 * (n + 1) + 3 ≡ 3 * (n + 2) = omega arith in
      let k3 : n + 1 + 1 ≡ n + 2 = omega arith in
      record {
        count = refl;
        is = rw (ne_eqb (get_or ws 0 0) 1 u.kind) (λ r. record { tris = tris-back r; labels = labels-back r });
        freed = λ z. subst (λ (k : ℕ). Zero k l3) k2 (backward_zero (3 * (n + 1)) b2 (omega arith)
            (subst (λ (k : ℕ). Zero k l2) k1 (backward_zero (3 * n) b1 (omega arith) (drop-same-zero (3 * n) l l1 g.rest z))));
        unlabelled = λ z. subst (λ (k : ℕ). Zero k ls2) k3 (backward_zero (n + 1) c2 (omega arith) (backward_zero n c1 (omega arith) z));
      }

-- a flip taken back
pub unflip_made : {l : List ℕ} {n : ℕ} {ws : List ℕ} → Unflips l n ws → (r : List ℕ) → r ≡ put_at (put_at l (get_or ws 5 0) (first_of ws)) (get_or ws 6 0) (second_of ws)
    → (ls : List ℕ) → pair_of r ls n ≡ undone ws (pair_of l ls n)
unflip_made {l} {n} {ws} u r e ls =
    rw (eq-eqb (get_or ws 0 0) 1 u.kind) (λ i. record { tris = two-put l (first_of ws) (second_of ws) r u.room u.first u.second e i; labels = take n ls })

-- the record of an edit is what taking it back asks for
module _ {l ls : List ℕ} {n points : ℕ} {w ws : List ℕ} (s : Standing l ls n points w) (d : Undoable points (length ls) ws (pair_of l ls n)) where
  abbrev q : Pair
  q = d.before

  abbrev e : Entry
  e = d.recorded.entry

  abbrev h : Hinge
  h = hinge d.before.tris d.recorded.entry.a d.recorded.entry.b

  found : 0 < sides d.before.tris d.recorded.entry.a d.recorded.entry.b → Hinged d.before.tris d.recorded.entry.a d.recorded.entry.b (hinge d.before.tris d.recorded.entry.a d.recorded.entry.b)
  found g = hinge-found d.recorded.good.sound.closed d.recorded.entry.a d.recorded.entry.b g

  word : (i : ℕ) → get_or ws i 0 ≡ get_or (words d.before d.recorded.entry) i 0
  word i = ap (λ (v : List ℕ). get_or v i 0) d.recorded.written

  count : length (made d.before d.recorded.entry).tris ≡ n
  count = sym (ap (λ (p : Pair). length p.tris) d.recorded.made) ∙ length-held l n (fits s)

  pub unflips : get_or ws 0 0 ≡ 1 → Unflips l n ws
  unflips z = pick d.recorded.edit
    where
      pick : Edit d.before d.recorded.entry → Unflips l n ws
      pick (collapses k g m c r) = absurd (omega (arith, word 0))
      pick (flips k g m c r) =
          let f = found g in
          let o = f.order in
          let t = f.fits in
          let x = ap (λ (p : Pair). length p.tris) r ∙ flip-length e.a e.b q.tris in
          let y = count in
          record { kind = z; room = fits s; first = omega (arith, word 5); second = omega (arith, word 6) }

  pub uncollapses : (get_or ws 0 0 ≡ 1 → ⊥) → Uncollapses l ls n ws
  uncollapses z = pick d.recorded.edit
    where
      pick : Edit d.before d.recorded.entry → Uncollapses l ls n ws
      pick (flips k g m c r) = absurd (z (word 0 ∙ k))
      pick (collapses k g m c r) =
          let f = found g in
          let o = f.order in
          let t = f.fits in
          let lab = d.recorded.good.sound.labelled in
          let x = ap (λ (p : Pair). length p.tris) r ∙ collapse-length e.a e.b q.tris in
          let v = out_two q.tris h.p1 h.p2 f.order f.fits in
          let y = count in
          let two : n + 2 ≡ length q.tris = omega arith in
          let most = d.recorded.room in
          let third = s.thirds in
          let et : held l n ≡ collapse e.a e.b q.tris = ap (λ (p : Pair). p.tris) (d.recorded.made ∙ r) in
          record {
            kind = z;
            room = omega arith;
            labels = omega arith;
            first = omega (arith, word 5);
            second = omega (arith, word 6);
            small = (subst (λ (j : ℕ). j ≤ 7) (sym (word 9)) (d.recorded.good.small h.p1 (omega arith)), subst (λ (j : ℕ). j ≤ 7) (sym (word 10)) (d.recorded.good.small h.p2 (omega arith)));
            route = rw (et, word 1, word 2, word 3, word 4, word 11, ahead-is (eqb h.u e.a)) (collapse-route d.before d.recorded.good.sound d.recorded.entry g c);
          }

  -- the lists after it
  pub taken_back : (l' ls' w' : List ℕ) (m : ℕ) → length l' ≡ length l → length ls' ≡ length ls → length w' ≡ length w → m ≤ length ls
      → pair_of l' ls' m ≡ undone ws (pair_of l ls n) → Zero (3 * m) l' → Zero m ls' → drop (needed ls points) w' ≡ drop (needed ls points) w → TakenBack points l ls n w ws l' ls' m w'
  taken_back l' ls' w' m el els ew r g zl zs far = record {
    is = g;
    standing = standing-lists s l' ls' w' m el els ew r (subst (λ (p : Pair). Good points p) (sym (g ∙ recorded-undone d.recorded)) d.recorded.good) zl zs;
    lengths = (el, els, ew);
    further = far;
  }

-- the same where the places, the ends of the walk and the triangles were computed
pub uncollapse_by : {l ls : List ℕ} {n points : ℕ} {ws : List ℕ} → Uncollapses l ls n ws → Listed l n points → (w : List ℕ) {l1 l2 l3 ls1 ls2 : List ℕ} (x y i j : ℕ) (t s : Tri)
    → x ≡ walk_from ws → y ≡ walk_to ws → i ≡ get_or ws 5 0 → j ≡ get_or ws 6 0 → t ≡ first_of ws → s ≡ second_of ws
    → Marked points w (walk (length (around (held l n) (get_or ws 1 0))) x y (around (held l n) (get_or ws 1 0))) → Mapped (restored_by points w (get_or ws 1 0) (get_or ws 2 0)) n l l1
    → (Backward 0 (3 * i) 3 l1 l2) × (tri_at l2 i ≡ t) → (Backward 0 (3 * j) 3 l2 l3) × (tri_at l3 j ≡ s)
    → (Backward 0 i 1 ls ls1) × (get_or ls1 i 0 ≡ get_or ws 9 0) → (Backward 0 j 1 ls1 ls2) × (get_or ls2 j 0 ≡ get_or ws 10 0) → Restored l ls n ws l3 ls2 (n + 2)
uncollapse_by {l} {ls} {n} {points} {ws} u g w {l1} {l2} {l3} {ls1} {ls2} x y i j t s ex ey ei ej et es m p b1 b2 c1 c2 =
    uncollapse_made u g w
    (subst₂ (λ (a b : ℕ). Marked points w (walk (length (around (held l n) (get_or ws 1 0))) a b (around (held l n) (get_or ws 1 0)))) ex ey m) p
    (subst (λ (k : ℕ). Backward 0 (3 * k) 3 l1 l2) ei b1.0) (sym (ap (tri_at l2) ei) ∙ b1.1 ∙ et)
    (subst (λ (k : ℕ). Backward 0 (3 * k) 3 l2 l3) ej b2.0) (sym (ap (tri_at l3) ej) ∙ b2.1 ∙ es)
    (subst (λ (k : ℕ). Backward 0 k 1 ls ls1) ei c1.0) (sym (ap (λ (k : ℕ). get_or ls1 k 0) ei) ∙ c1.1)
    (subst (λ (k : ℕ). Backward 0 k 1 ls1 ls2) ej c2.0) (sym (ap (λ (k : ℕ). get_or ls2 k 0) ej) ∙ c2.1)

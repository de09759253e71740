-- What the program leaves is the answer: `Traced`, from the words of `list_sides` and the kinds of the points, gives the words of `outlines` and the number of its loops.
use Prim.Native.Nat.{ℕ, zero, suc, ◌+◌, ◌-◌, ◌<◌, ◌≤◌}
use mathlib.Core.Path.{◌≡◌, refl, sym, ◌∙◌, ap, ap₂, subst}
use mathlib.Core.Bool.{Bool, true, false, not, ◌&&◌, beq}
use mathlib.Core.List.{List, [], ◌∷◌, map}
use native.Mathlib.Omega.{arith}
use lib.Dec.{eqb, ltb}
use lib.ListN.{length, length-map}
use borrow.Author.Tests.{lt-ltb}
use Rattle.surface.specs.Triangle.{Tri, triangles}
use Rattle.surface.specs.Closed.{one, Closed}
use Rattle.surface.proofs.Bools.{both, join}
use Rattle.surface.proofs.Surface.{Surface}
use Rattle.surface.proofs.Bridge.{closed_surface_lem}
use Rattle.halfedges.specs.Place.{nx, at}
use Rattle.sides.specs.Order.{Upward}
use Rattle.outlines.specs.Side.{Side, tally, times_in, Each, strike_all}
use Rattle.outlines.specs.Crossing.{next_crossed}
use Rattle.outlines.specs.Outline.{Loop, circuit, loop_from, loops_of}
use Rattle.outlines.specs.Request.{sides_of}
use Rattle.outlines.specs.Stages.Trace.{kinds-from, marks-from, kind_of, next_place, crossed_place, open?, follow, mark_all, note_all, loop_of, Walkable, Progress, side_done, sides_done}
use Rattle.outlines.proofs.Lists.{each_weaken}
use Rattle.outlines.proofs.Sides.{same_refl, strike-none, strike-all-short}
use Rattle.outlines.proofs.Cycles.{Walked, loop_walked}
use Rattle.outlines.proofs.Crossings.{not_beq}
use Rattle.outlines.proofs.Loops.{Left, permuted_by, rest-left}
use Rattle.outlines.proofs.Reading.{from_low, to_low}
use Rattle.outlines.proofs.Following.{Same, same_self, same-ready}
use Rattle.outlines.proofs.Tracing.{same-mark-all, stand, looped, kept, gone}
use Rattle.outlines.proofs.Stepping.{side_at, Kinds, Heads, leads, follow-walk, follow-heads, eqb_one}
use Rattle.outlines.proofs.Remaining.{open_sides, low-is, marks-strike}
use Rattle.outlines.proofs.Written.{write_sides, write_loops, note-sides}

module _ (c : List ℕ) (p total : ℕ) (above : ℕ → Bool) (closed : Closed (triangles c)) where
  abbrev pub ts : List Tri
  ts = triangles c

  abbrev pub surface : Surface ts
  surface = closed_surface_lem closed

  -- the program stands before the places js, and then has done them
  pub record Before (w : List ℕ) (f : ℕ) (js : List ℕ) : Type 0 where
    pub ready : Walkable c p w
    pub kinds : Kinds c p above w
    pub upward : Each (Upward c) js
    pub left : Left above ts surface (open_sides c p w js)
    pub room : f + length (open_sides c p w js) ≡ total

  pub record Done (w l : List ℕ) (f q : ℕ) (js : List ℕ) (ls : List Loop) : Type 0 where
    pub list : (sides_done c p total js (stand w l f q)).list ≡ write_loops l f q ls
    pub loops : (sides_done c p total js (stand w l f q)).loops ≡ q + length ls

  upward_tail : (j : ℕ) (js : List ℕ) → Each (Upward c) (j ∷ js) → Each (Upward c) js
  unfolding Each
  upward_tail j js e = e.1

  -- the kinds say the same where the words below the marks do
  kinds-same : (w w' : List ℕ) → Same c p w w' → Kinds c p above w → Kinds c p above w'
  kinds-same w w' s k v l = s.low (kinds-from c p + v) (omega arith) ∙ k v l

  module _ (w l : List ℕ) (f q j : ℕ) (js : List ℕ) (b : Before w f (j ∷ js)) (is : open? c p w j ≡ true) where
    abbrev s : Side
    s = side_at c j

    abbrev rest : List Side
    rest = open_sides c p w js

    abbrev up : Bool
    up = above s.low

    upward-first : Upward c j
    unfolding Each
    upward-first = b.upward.0

    opened : open_sides c p w (j ∷ js) ≡ s ∷ rest
    unfolding open_sides
    opened = rw is refl

    left : Left above ts surface (s ∷ rest)
    left = subst (Left above ts surface) opened b.left

    room : f + suc (length rest) ≡ total
    room = omega (arith, b.room, ap length opened)

    heads : Heads c p above closed up j
    heads =
        let low = low-is c p closed j upward-first in
        let r = b.ready in
        let u = upward-first.low in
        let test : eqb (kind_of c p w (at c j)) (kind_of c p w (at c (nx j))) ≡ beq (above (at c j)) (above (at c (nx j))) =
        ap₂ eqb (b.kinds (at c j) (from_low c p w j r u)) (b.kinds (at c (nx j)) (to_low c p w j r u)) ∙ eqb_one (above (at c j)) (above (at c (nx j))) in
        let crossed : crossed_place c p w j ≡ true = (both (crossed_place c p w j) (eqb (at w (marks-from c p + j)) 0) is).0 in
        record {
          low = u;
          from = ap above (sym low);
          to = not_beq (above (at c j)) (above (at c (nx j))) (sym (ap not test) ∙ crossed) ∙ ap not (ap above (sym low));
        }

    abbrev f₁ : Side → Side
    f₁ = next_crossed above ts up

    abbrev w₁ : List Side
    w₁ = circuit f₁ s (length rest) (f₁ s)

    abbrev ks : List ℕ
    ks = loop_of c p w total f j

    sides_are : map (side_at c) ks ≡ s ∷ w₁
    sides_are =
        let h = leads c p above closed w b.ready b.kinds up j heads in
        let n : total - suc f ≡ length rest = omega (arith, room) in
        ap (λ (m : List Side). s ∷ m) (follow-walk c p above closed w b.ready b.kinds up j (total - suc f) (next_place c p w j) heads h.heads ∙ ap₂ (λ (i : ℕ) (t : Side). circuit f₁ s i t) n h.side-is)

    places-low : Each (λ (k : ℕ). k < length c) ks
    unfolding Each
    places-low =
        let h = leads c p above closed w b.ready b.kinds up j heads in (
          heads.low,
          each_weaken (Heads c p above closed up) (λ (k : ℕ). k < length c) (follow (next_place c p w) j (total - suc f) (next_place c p w j)) (λ k g. g.low)
              (follow-heads c p above closed w b.ready b.kinds up j (total - suc f) (next_place c p w j) h.heads),
        )

    walked : Walked f₁ (next_crossed above ts (not up)) s (f₁ s) w₁ rest
    walked = loop_walked f₁ (next_crossed above ts (not up)) s rest (permuted_by above ts surface up left.permuted)

    s_out : times_in s rest ≡ 0
    unfolding tally
    s_out = omega (arith, left.permuted.once s, ap one (same_refl s))

    rest-is : open_sides c p (mark_all c p w ks) js ≡ strike_all w₁ rest
    unfolding strike_all
    rest-is =
        marks-strike c p closed w b.ready ks js places-low (upward_tail j js b.upward) ∙ ap (λ (m : List Side). strike_all m rest) sides_are ∙ ap (strike_all w₁) (strike-none s rest s_out)

    long : length ks ≡ suc (length w₁)
    long = sym (length-map ks (side_at c)) ∙ ap length sides_are

    pub after : Before (mark_all c p w ks) (f + length ks) js
    after =
        let m = same-mark-all c p w w ks (same_self c p w) in
        record {
          ready = same-ready c p w (mark_all c p w ks) m b.ready;
          kinds = kinds-same w (mark_all c p w ks) m b.kinds;
          upward = upward_tail j js b.upward;
          left = subst (Left above ts surface) (sym rest-is) (rest-left above ts surface s rest left w₁ walked);
          room = omega (arith, ap length rest-is, walked.long, long, room);
        }

    pub first-loop : Loop
    first-loop = record { start = s; rest = w₁ }

    pub done_open : (ls : List Loop) → Done (mark_all c p w ks) (note_all c p w l f q ks) (f + length ks) (suc q) js ls → Done w l f q (j ∷ js) (first-loop ∷ ls)
    unfolding sides_done write_loops sides_of first-loop
    done_open ls d =
        let e : side_done c p total j (stand w l f q) ≡ looped c p total j w l f q = gone c p total j w l f q (join (open? c p w j) (ltb f total) is (lt-ltb f total (omega (arith, room)))) in
        let g = ap (sides_done c p total js) e in
        record {
          list = ap (λ (x : Progress). x.list) g ∙ d.list
              ∙ ap₂ (λ (m : List ℕ) (i : ℕ). write_loops m i (suc q) ls) (note-sides c p closed w b.ready l f q ks places-low ∙ ap (write_sides l f q) sides_are) (ap (λ (i : ℕ). f + i) long);
          loops = ap (λ (x : Progress). x.loops) g ∙ d.loops ∙ count-up;
        }
      where
        count-up : suc q + length ls ≡ q + suc (length ls)
        count-up = omega arith

  done_shut : (w l : List ℕ) (f q j : ℕ) (js : List ℕ) (ls : List Loop) → open? c p w j ≡ false → Done w l f q js ls → Done w l f q (j ∷ js) ls
  unfolding sides_done
  done_shut w l f q j js ls e d =
      let g = ap (sides_done c p total js) (kept c p total j w l f q (ap (λ (o : Bool). o && ltb f total) e)) in
      record { list = ap (λ (x : Progress). x.list) g ∙ d.list; loops = ap (λ (x : Progress). x.loops) g ∙ d.loops }

  abbrev pub Works : List ℕ → Type 0
  Works js = (w l : List ℕ) (f q n : ℕ) → Before w f js → length (open_sides c p w js) ≤ n → Done w l f q js (loops_of above ts n (open_sides c p w js))

  works_open : (js : List ℕ) → Works js → (w l : List ℕ) (f q j n : ℕ) (b : Before w f (j ∷ js)) (is : open? c p w j ≡ true) → suc (length (open_sides c p w js)) ≤ n
      → Done w l f q (j ∷ js) (loops_of above ts n (side_at c j ∷ open_sides c p w js))
  unfolding loops_of loop_from first-loop
  works_open js i w l f q j zero b is m = absurd (omega arith)
  works_open js i w l f q j (suc n) b is m =
      let e = rest-is w l f q j js b is in
      let short = strike-all-short (w₁ w l f q j js b is) (open_sides c p w js) in
      done_open w l f q j js b is (loops_of above ts n (strike_all (w₁ w l f q j js b is) (open_sides c p w js)))
      (subst (λ (x : List Side). Done (mark_all c p w (ks w l f q j js b is)) (note_all c p w l f q (ks w l f q j js b is)) (f + length (ks w l f q j js b is)) (suc q) js (loops_of above ts n x)) e
      (i (mark_all c p w (ks w l f q j js b is)) (note_all c p w l f q (ks w l f q j js b is)) (f + length (ks w l f q j js b is)) (suc q) n (after w l f q j js b is) (omega (arith, ap length e))))

  -- from any place of the list on, the program makes the loops of the sides that are open
  pub done : (js : List ℕ) → Works js
  unfolding sides_done open_sides loops_of write_loops sides_of
  done [] w l f q zero b m = record { list = refl; loops = omega arith }
  done [] w l f q (suc n) b m = record { list = refl; loops = omega arith }
  done (j ∷ js) w l f q n b m = go (open? c p w j) refl (done js)
    where
      go : (o : Bool) → open? c p w j ≡ o → Works js → Done w l f q (j ∷ js) (loops_of above ts n (open_sides c p w (j ∷ js)))
      go true e i =
          let d = opened w l f q j js b e in
          subst (λ (x : List Side). Done w l f q (j ∷ js) (loops_of above ts n x)) (sym d) (works_open js i w l f q j n b e (omega (arith, ap length d)))
      go false e i =
          let d : open_sides c p w (j ∷ js) ≡ open_sides c p w js = rw (e, open_sides) refl in
          let b' : Before w f js = record { ready = b.ready; kinds = b.kinds; upward = upward_tail j js b.upward; left = subst (Left above ts surface) d b.left; room = omega (arith, b.room, ap length d) } in
          subst (λ (x : List Side). Done w l f q (j ∷ js) (loops_of above ts n x)) (sym d) (done_shut w l f q j js (loops_of above ts n (open_sides c p w js)) e (i w l f q n b' (omega (arith, ap length d))))

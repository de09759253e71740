-- What a collapse writes is what `collapse_step` of crate rounds has: the faces, the marks of those that go, and the touched corners.
use Prim.Native.Nat.{ℕ, suc, ◌+◌, ◌<◌}
use mathlib.Core.Path.{◌≡◌, refl, sym, ◌∙◌, ap, ap₂, subst, fun_ext}
use mathlib.Core.Bool.{Bool, true, false, ◌||◌, cond}
use mathlib.Core.List.{List, [], ◌∷◌, ◌++◌}
use native.Mathlib.Nat.{zero-add}
use native.Mathlib.Omega.{arith}
use native.Mathlib.Decide.{ℕ_discrete}
use lib.Dec.{eqb}
use lib.Ieee.{Float}
use lib.ListN.{length, get_or, set, length-set}
use lib.Seq.{get_or-set_same, get_or-set_other}
use borrow.Author.Tests.{eqb-true, eqb-false, eq-eqb, ne_eqb, ltb-true, lt-ltb}
use Rattle.surface.specs.Triangle.{Tri, tri, names, runs}
use Rattle.surface.specs.Closed.{sides, Closed}
use Rattle.surface.specs.Edit.{place, put, renamed}
use Rattle.surface.proofs.Reading.{side-has}
use Rattle.surface.proofs.Bridge.{closed_surface_lem}
use Rattle.history.specs.History.{Pair}
use Rattle.rounds.specs.Pass.{near, marked, moved, State}
use Rattle.rounds.specs.Choices.{collapse_step}
use Rattle.rounds.proofs.Elements.{moved-place, moved_length}
use Rattle.rounds.proofs.Marks.{marked-places}
use Rattle.rounds.proofs.Near.{near_self}
use Rattle.rounds.proofs.Loops.{near_iff}
use Rattle.original.specs.Sets.{member}
use Rattle.original.specs.Maps.{shared, adjacent, incident}
use Rattle.original.specs.Collapse.{best, removed_at, rewritten, applied}
use Rattle.original.proofs.Sets.{same_test, or_swap, or_left, or_right, member-append}
use Rattle.original.proofs.Maps.{member-adjacent, member-incident}
use Rattle.original.proofs.Spots.{side-shared}

-- lists with the same at every place
same-places : {A : Type 0} (d : A) (xs ys : List A) → length xs ≡ length ys → ((j : ℕ) → j < length xs → get_or xs j d ≡ get_or ys j d) → xs ≡ ys
same-places d [] [] e h = refl
same-places d [] (y ∷ ys) e h = absurd (omega arith)
same-places d (x ∷ xs) [] e h = absurd (omega arith)
same-places d (x ∷ xs) (y ∷ ys) e h = ap₂ (λ (z : _) (l : List _). z ∷ l) (h 0 (omega arith)) (same-places d xs ys (omega arith) (λ j l. h (suc j) (omega arith)))

module _ (keep remove : ℕ) (apart : keep ≡ remove → ⊥) where
  put-twice : (x : ℕ) → put keep remove (put keep remove x) ≡ put keep remove x
  put-twice x = pick (eqb x remove) refl
    where
      pick : (k : Bool) → eqb x remove ≡ k → put keep remove (put keep remove x) ≡ put keep remove x
      pick true e = rw (e, ne_eqb keep remove apart) refl
      pick false e = rw (e, e) refl

  renamed-twice : (t : Tri) → renamed keep remove (renamed keep remove t) ≡ renamed keep remove t
  renamed-twice t = rw (put-twice t.a, put-twice t.b, put-twice t.c) refl

  rewritten-length : (fs : List Tri) (is : List ℕ) → length (rewritten keep remove fs is) ≡ length fs
  unfolding rewritten
  rewritten-length fs [] = refl
  rewritten-length fs (i ∷ is) = rewritten-length (set fs i (renamed keep remove (place fs i))) is ∙ length-set fs i (renamed keep remove (place fs i))

  rewritten-place : (fs : List Tri) (is : List ℕ) (j : ℕ) → j < length fs → place (rewritten keep remove fs is) j ≡ cond (member is j) (renamed keep remove (place fs j)) (place fs j)
  unfolding rewritten member
  rewritten-place fs [] j l = refl
  rewritten-place fs (i ∷ is) j l =
      let gs = set fs i (renamed keep remove (place fs i)) in
      rewritten-place gs is j (omega (arith, length-set fs i (renamed keep remove (place fs i)))) ∙ pick (eqb i j) refl
    where
      pick : (k : Bool) → eqb i j ≡ k
          → cond (member is j) (renamed keep remove (place (set fs i (renamed keep remove (place fs i))) j)) (place (set fs i (renamed keep remove (place fs i))) j)
          ≡ cond (eqb i j || member is j) (renamed keep remove (place fs j)) (place fs j)
      pick true e =
          let w = eqb-true i j e in
          let z : place (set fs i (renamed keep remove (place fs i))) j ≡ renamed keep remove (place fs j) =
          subst (λ (n : ℕ). place (set fs i (renamed keep remove (place fs i))) n ≡ renamed keep remove (place fs n)) w (get_or-set_same fs i (renamed keep remove (place fs i)) (tri 0 0 0) (omega arith)) in
          rw (z, e) (either (member is j) (renamed keep remove (renamed keep remove (place fs j))) (renamed keep remove (place fs j)) (renamed-twice (place fs j)))
        where
          either : (k : Bool) (x y : Tri) → x ≡ y → cond k x y ≡ y
          either true x y q = q
          either false x y q = refl
      pick false e =
          let z : place (set fs i (renamed keep remove (place fs i))) j ≡ place fs j = get_or-set_other fs i j (renamed keep remove (place fs i)) (tri 0 0 0) (λ q. eqb-false i j e (sym q)) in
          rw (z, e) refl

  -- faces
  pub rewritten-moved : (ts fs : List Tri) → length fs ≡ length ts → rewritten keep remove fs (incident ts remove) ≡ moved keep remove ts fs
  rewritten-moved ts fs e =
      same-places (tri 0 0 0) _ _ (rewritten-length fs (incident ts remove) ∙ e ∙ sym (moved_length keep remove ts fs e))
      (λ j l.
      let m : j < length ts = omega (arith, rewritten-length fs (incident ts remove)) in
      let n : j < length fs = omega arith in
      let w : member (incident ts remove) j ≡ names (place ts j) remove = ap (member (incident ts remove)) (sym (zero-add j)) ∙ member-incident 0 ts remove j m in
      rewritten-place fs (incident ts remove) j n ∙ ap (λ (k : Bool). cond k (renamed keep remove (place fs j)) (place fs j)) w ∙ sym (moved-place keep remove ts fs j m e))

-- the marks, for the side named either way
marked-back : (a b : ℕ) (ts : List Tri) (gs : List Bool) → marked b a ts gs ≡ marked a b ts gs
unfolding marked
marked-back a b [] gs = refl
marked-back a b (t ∷ ts) [] = refl
marked-back a b (t ∷ ts) (g ∷ gs) = ap₂ (λ (k : Bool) (l : List Bool). (g || k) ∷ l) (or_swap (runs t b a) (runs t a b)) (marked-back a b ts gs)

pub removed-marked : {ts : List Tri} → Closed ts → (a b : ℕ) → a < b → 0 < sides ts a b → (gs : List Bool) → length gs ≡ length ts → removed_at gs (shared ts a b) ≡ marked a b ts gs
unfolding removed_at
removed-marked {ts} c a b l g gs e = ap (removed_at gs) (side-shared a b l c g) ∙ sym (marked-places a b c gs e)

-- touched corners
pub near-adjacent : {ts : List Tri} → Closed ts → (a b : ℕ) → 0 < sides ts a b → (x : ℕ) → near ts a x ≡ (member (adjacent ts a) x || eqb a x)
near-adjacent {ts} c a b g x = pick (ℕ_discrete a x)
  where
    pick : Dec (a ≡ x) → near ts a x ≡ (member (adjacent ts a) x || eqb a x)
    pick (yes e) = let h = side-has ts a b g in
        ap (near ts a) (sym e) ∙ near_self h.1 ∙ sym (or_right (member (adjacent ts a) x) (eqb a x) (eq-eqb a x e))
    pick (no n) = rw (ne_eqb a x n) (same_test _ _
        (λ e. let s = (near_iff c a x n).0 e in or_left (member (adjacent ts a) x) false (member-adjacent ts a x ∙ lt-ltb 0 (sides ts a x + sides ts x a) (omega arith)))
        (λ e. (near_iff c a x n).1 (let m = ltb-true 0 (sides ts a x + sides ts x a) (sym (member-adjacent ts a x) ∙ left (member (adjacent ts a) x) e) in omega (arith, (closed_surface_lem c).even a x))))
      where
        left : (k : Bool) → (k || false) ≡ true → k ≡ true
        left true e = refl
        left false e = e

module _ (p : Pair) (c : Closed p.tris) (a b : ℕ) (low : a < b) (g : 0 < sides p.tris a b) (st : State)
    (faces : length st.tris ≡ length p.tris) (marks : length st.gone ≡ length p.tris) where
  back : 0 < sides p.tris b a
  back = omega (arith, c.paired.back a b g)

  touches : (x : ℕ) → (st.touched x || member (adjacent p.tris a ++ (adjacent p.tris b ++ (a ∷ b ∷ []))) x) ≡ (st.touched x || (near p.tris a x || near p.tris b x))
  unfolding member
  touches x = ap (λ (k : Bool). st.touched x || k)
      (member-append (adjacent p.tris a) (adjacent p.tris b ++ (a ∷ b ∷ [])) x
      ∙ ap (λ (k : Bool). member (adjacent p.tris a) x || k) (member-append (adjacent p.tris b) (a ∷ b ∷ []) x)
      ∙ regroup (member (adjacent p.tris a) x) (member (adjacent p.tris b) x) (eqb a x) (eqb b x)
      ∙ ap₂ (λ (j k : Bool). j || k) (sym (near-adjacent c a b g x)) (sym (near-adjacent c b a back x)))
    where
      regroup : (m n i j : Bool) → (m || (n || (i || (j || false)))) ≡ ((m || i) || (n || j))
      regroup true n i j = refl
      regroup false true true j = refl
      regroup false true false j = refl
      regroup false false true j = refl
      regroup false false false true = refl
      regroup false false false false = refl

  state-eq : {fs fs' : List Tri} {gs gs' : List Bool} {u u' : ℕ → Bool} → fs ≡ fs' → gs ≡ gs' → u ≡ u'
      → ◌≡◌ {A = State} (record { tris = fs; gone = gs; touched = u }) (record { tris = fs'; gone = gs'; touched = u' })
  state-eq e f h = cc

  pub applied-ahead : (q : Float) → applied p st a b (best a b q) ≡ collapse_step p st a b
  unfolding applied collapse_step
  applied-ahead q = state-eq
      (rewritten-moved a b (λ e. omega arith) p.tris st.tris faces)
      (removed-marked c a b low g st.gone marks)
      (fun_ext touches)

  pub applied_back : (q : Float) → applied p st a b (best b a q) ≡ collapse_step p st b a
  unfolding applied collapse_step
  applied_back q = state-eq
      (rewritten-moved b a (λ e. omega arith) p.tris st.tris faces)
      (removed-marked c a b low g st.gone marks ∙ sym (marked-back a b p.tris st.gone))
      (fun_ext (λ x. touches x ∙ ap (λ (k : Bool). st.touched x || k) (or_swap (near p.tris a x) (near p.tris b x))))

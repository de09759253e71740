-- The sides in turn: a side that is not open changes nothing, an open one has its loop followed.
use Prim.Native.Nat.{ℕ, suc, ◌+◌, ◌<◌, ◌≤◌}
use mathlib.Core.Path.{◌≡◌, refl, sym, ◌∙◌, ap, ap₂, subst}
use mathlib.Core.Bool.{Bool, true, false, ◌&&◌, cond, and-false}
use mathlib.Core.List.{List, [], ◌∷◌}
use native.Mathlib.Omega.{arith}
use native.Mathlib.Numerals.{add-one}
use lib.Dec.{ltb}
use mir.Val.{bool_byte}
use lib.ListN.{length, drop, drop_of_length-le}
use borrow.Author.Tests.{lt-ltb, le-ltb}
use Rattle.halfedges.specs.Place.{nx, at}
use Rattle.sides.specs.Order.{Upward}
use Rattle.sides.specs.Side.{sides-from, sorted}
use Rattle.outlines.specs.Stages.Trace.{up_place, open?, with_mark, with_place, mark_all, note_all, loop_of, Followed, Progress, side_done, sides_done, loops_after, SideTraced, Arranged, Traced}
use Rattle.outlines.proofs.Lists.{drop-first}
use Rattle.outlines.proofs.Following.{Same, same_self, same-marked, put3-long}

pub same-mark-all : (c : List ℕ) (p : ℕ) (w₀ w : List ℕ) (ks : List ℕ) → Same c p w₀ w → Same c p w₀ (mark_all c p w ks)
unfolding mark_all
same-mark-all c p w₀ w [] s = s
same-mark-all c p w₀ w (k ∷ ks) s = same-mark-all c p w₀ (with_mark c p w k) ks (same-marked c p w₀ w s k)

pub note-all-long : (c : List ℕ) (p : ℕ) (w l : List ℕ) (f q : ℕ) (ks : List ℕ) → length (note_all c p w l f q ks) ≡ length l
unfolding note_all
note-all-long c p w l f q [] = refl
note-all-long c p w l f q (k ∷ ks) = note-all-long c p w (with_place c p w l k f q) (suc f) q ks ∙ put3-long l f (at c (up_place c p w k)) (at c (nx (up_place c p w k))) q

-- a test is added as a number
pub one_more : (b : Bool) (q : ℕ) → q + bool_byte b ≡ cond b (q + 1) q
one_more true q = refl
one_more false q = omega arith

pub bit_most : (b : Bool) (n : ℕ) → n ≡ bool_byte b → n ≤ 1
bit_most true n e = omega arith
bit_most false n e = omega arith

abbrev pub stand : List ℕ → List ℕ → ℕ → ℕ → Progress
stand w l f q = record { work = w; list = l; filled = f; loops = q }

module _ (c : List ℕ) (p n k : ℕ) (w l : List ℕ) (f q : ℕ) where
  abbrev pub looped : Progress
  looped = let ks = loop_of c p w n f k in record { work = mark_all c p w ks; list = note_all c p w l f q ks; filled = f + length ks; loops = suc q }

  pub kept : (open? c p w k && ltb f n) ≡ false → side_done c p n k (stand w l f q) ≡ stand w l f q
  kept e = ap (λ (b : Bool). cond b looped (stand w l f q)) e

  pub gone : (open? c p w k && ltb f n) ≡ true → side_done c p n k (stand w l f q) ≡ looped
  gone e = ap (λ (b : Bool). cond b looped (stand w l f q)) e

  traced_kept : (open? c p w k && ltb f n) ≡ false → SideTraced c p n k w w l l f q f
  traced_kept e =
      let d = sym (kept e) in
      record { work = ap (λ (s : Progress). s.work) d; list = ap (λ (s : Progress). s.list) d; filled = ap (λ (s : Progress). s.filled) d }

  pub traced_shut : (b : Bool) → b ≡ open? c p w k → b ≡ false → SideTraced c p n k w w l l f q f
  traced_shut b e d = traced_kept (ap (λ (o : Bool). o && ltb f n) (sym e ∙ d))

  pub traced_full : n ≤ f → SideTraced c p n k w w l l f q f
  traced_full m = traced_kept (ap (λ (o : Bool). open? c p w k && o) (le-ltb f n m) ∙ and-false (open? c p w k))

  pub traced_loop : (b : Bool) (w' l' : List ℕ) (r : ℕ) → b ≡ open? c p w k → b ≡ true → f < n → Followed c p w w' l l' (loop_of c p w n f k) f q r → SideTraced c p n k w w' l l' f q r
  traced_loop b w' l' r e d m h =
      let g = sym (gone (ap₂ (λ (o o' : Bool). o && o') (sym e ∙ d) (lt-ltb f n m))) in
      record { work = h.marks ∙ ap (λ (s : Progress). s.work) g; list = h.list ∙ ap (λ (s : Progress). s.list) g; filled = h.filled ∙ ap (λ (s : Progress). s.filled) g }

  -- the number of loops agrees, and the words below the marks stay
  record Step (s : Progress) : Type 0 where
    same : (w₀ : List ℕ) → Same c p w₀ w → Same c p w₀ s.work
    size : length s.list ≡ length l
    loops : s.loops ≡ loops_after f s.filled q
    more : s.loops ≤ suc q

  stepped : Step (side_done c p n k (stand w l f q))
  stepped = go (open? c p w k && ltb f n) refl
    where
      go : (b : Bool) → (open? c p w k && ltb f n) ≡ b → Step (side_done c p n k (stand w l f q))
      go false e =
          subst Step (sym (kept e)) (record { same = λ w₀ s. s; size = refl; loops = sym (ap (λ (b : Bool). cond b (q + 1) q) (le-ltb f f (omega arith))); more = omega arith })
      go true e =
          subst Step (sym (gone e)) (record {
            same = λ w₀ s. same-mark-all c p w₀ w (loop_of c p w n f k) s;
            size = note-all-long c p w l f q (loop_of c p w n f k);
            loops = sym (ap (λ (b : Bool). cond b (q + 1) q) (lt-ltb f (f + length (loop_of c p w n f k)) (omega arith)) ∙ add-one q);
            more = omega arith;
          })

module _ (c : List ℕ) (p n : ℕ) (w₀ l₀ : List ℕ) (r : ℕ) (a : Arranged c p w₀ r) where
  pub record Tracing (w l : List ℕ) (i f q : ℕ) : Type 0 where
    pub same : Same c p w₀ w
    pub size : length l ≡ length l₀
    pub low : i ≤ r
    pub loops : q ≤ i
    pub rest : sides_done c p n (drop i (sorted c p)) (stand w l f q) ≡ sides_done c p n (sorted c p) (stand w₀ l₀ 0 0)

  pub tracing_first : Tracing w₀ l₀ 0 0 0
  tracing_first = record { same = same_self c p w₀; size = refl; low = omega arith; loops = omega arith; rest = refl }

  -- the place of the side
  pub place_is : (w l : List ℕ) (i f q k : ℕ) → Tracing w l i f q → i < r → k ≡ at w (sides-from c p + i) → k ≡ at (sorted c p) i
  place_is w l i f q k h m e = e ∙ h.same.low (sides-from c p + i) (omega (arith, a.few)) ∙ a.each i m

  pub place-upward : (w l : List ℕ) (i f q k : ℕ) → Tracing w l i f q → i < r → k ≡ at w (sides-from c p + i) → Upward c k
  place-upward w l i f q k h m e = subst (Upward c) (sym (place_is w l i f q k h m e)) (a.upward i m)

  pub tracing_turn : (w l w' l' : List ℕ) (i i' f f' q q' k : ℕ) → Tracing w l i f q → i < r → k ≡ at w (sides-from c p + i) → SideTraced c p n k w w' l l' f q f' → q' ≡ loops_after f f' q → i' ≡ suc i
      → Tracing w' l' i' f' q'
  unfolding sides_done
  tracing_turn w l w' l' i i' f f' q q' k h m ek t eq ei =
      let s = side_done c p n k (stand w l f q) in
      let st = stepped c p n k w l f q in
      let e : q' ≡ s.loops = eq ∙ ap (λ (j : ℕ). loops_after f j q) t.filled ∙ sym st.loops in
      let d : stand w' l' f' q' ≡ s = λ j. record { work = t.work j; list = t.list j; filled = t.filled j; loops = e j } in
      let g : drop i (sorted c p) ≡ k ∷ drop (suc i) (sorted c p) = drop-first (sorted c p) i k (omega (arith, a.count)) (place_is w l i f q k h m ek) in
      record {
        same = subst (Same c p w₀) (sym t.work) (st.same w₀ h.same);
        size = ap length t.list ∙ st.size ∙ h.size;
        low = omega arith;
        loops = omega (arith, h.loops, st.more);
        rest = ap₂ (λ (j : ℕ) (x : Progress). sides_done c p n (drop j (sorted c p)) x) ei d ∙ sym (ap (λ (ks : List ℕ). sides_done c p n ks (stand w l f q)) g) ∙ h.rest;
      }

  pub traced : (w l : List ℕ) (i f q : ℕ) → Tracing w l i f q → r ≤ i → Traced c p n w₀ w l₀ l q
  unfolding sides_done
  traced w l i f q h m =
      let e : stand w l f q ≡ sides_done c p n (sorted c p) (stand w₀ l₀ 0 0) = sym (ap (λ (ks : List ℕ). sides_done c p n ks (stand w l f q)) (drop_of_length-le (sorted c p) {i = i} (omega (arith, a.count)))) ∙ h.rest in
      record { work = ap (λ (s : Progress). s.work) e; list = ap (λ (s : Progress). s.list) e; loops = ap (λ (s : Progress). s.loops) e }

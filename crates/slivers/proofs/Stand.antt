-- What a collapse makes of the state in the words.
use Prim.Native.Nat.{ℕ, ◌+◌, ◌*◌, ◌/◌, ◌<◌, ◌≤◌}
use native.Mathlib.Omega.{arith}
use mathlib.Core.Path.{◌≡◌, refl, sym, ap, ap₂, ◌∙◌, subst}
use mathlib.Core.Logic.{◌⊎◌, inl, inr}
use mathlib.Core.Bool.{Bool, true, false, not, ◌&&◌, ◌||◌, cond, false≢true}
use mathlib.Core.List.{List}
use lib.Dec.{eqb}
use lib.ListN.{length, set, length-set, length-map}
use lib.Seq.{get_or-set_same, get_or-set_other, ext_get_or}
use borrow.Author.Tests.{eqb-true, eqb-false, eq-eqb, ne_eqb}
use Rattle.surface.specs.Triangle.{Tri, tri, triangles, names, runs}
use Rattle.surface.specs.Closed.{Closed}
use Rattle.surface.specs.Edit.{has, place, put, renamed}
use Rattle.surface.proofs.Bools.{join, true_false, or_none}
use Rattle.surface.proofs.Reading.{Reads, r0, r1, r2}
use Rattle.surface.proofs.Flat.{place-triangles}
use Rattle.surface.proofs.Hinged.{has_either}
use Rattle.rounds.specs.Pass.{near, moved, State}
use Rattle.surface.specs.Renumber.{renumber, renumbered}
use Rattle.rounds.specs.Choices.{collapse_step}
use Rattle.rounds.proofs.Elements.{map-place, moved-place, moved_length, marked-place, marked-length}
use Rattle.halfedges.specs.Place.{nx, at}
use Rattle.halfedges.proofs.Turns.{same_or}
use Rattle.sides.specs.Side.{Twin, Met}
use Rattle.sides.proofs.Meeting.{met_of}
use Rattle.chains.proofs.Common.{same_test}
use Rattle.chains.proofs.Flat.{thirds-length, place_reads, reads_spot}
use Rattle.chains.specs.Marks.{Lists}
use Rattle.chains.proofs.Marks.{below_next}
use Rattle.renumber.specs.Dropped.{becomes}
use Rattle.slivers.specs.Trials.{tri_of}
use Rattle.slivers.specs.Touch.{is_touched}
use Rattle.slivers.proofs.Touching.{near_to, Touching, near-places, by_near}
use Rattle.slivers.specs.Stand.{pair_of, Stands}

-- ---- a collapse that keeps a and removes b

module _ (c ls : List ℕ) (n p touched : ℕ) (h : Lists c p) (cl : Closed (triangles c)) (size : n * 3 ≡ length c) (k t : ℕ) (l : k < length c) (tw : Twin c k t) where
  met : Met c
  met = met_of c h.thirds cl

  count : length (triangles c) ≡ n
  count = let z = thirds-length c h.thirds in omega arith

  -- which triangles have the side
  has-place : (a b : ℕ) (i : ℕ) → i < n → ((a ≡ at c k) × (b ≡ at c (nx k))) ⊎ ((a ≡ at c (nx k)) × (b ≡ at c k)) → has a b (place (triangles c) i) ≡ (eqb i (k / 3) || eqb i (t / 3))
  has-place a b i o ends = same_test (has a b (place (triangles c) i)) (eqb i (k / 3) || eqb i (t / 3)) to back
    where
      at-k : {z : ℕ} → Reads (place (triangles c) i) (at c k) (at c (nx k)) z → (eqb i (k / 3) || eqb i (t / 3)) ≡ true
      at-k r =
          let s = reads_spot c h.thirds i (omega (arith, count)) r in
          let e : s.k ≡ k = met.once s.k k s.low l s.one s.two in
          rw (eq-eqb i (k / 3) (sym s.third ∙ ap (λ (x : ℕ). x / 3) e)) refl

      at-t : {z : ℕ} → Reads (place (triangles c) i) (at c (nx k)) (at c k) z → (eqb i (k / 3) || eqb i (t / 3)) ≡ true
      at-t r =
          let s = reads_spot c h.thirds i (omega (arith, count)) r in
          let e : s.k ≡ t = met.once s.k t s.low tw.low (s.one ∙ sym tw.from) (s.two ∙ sym tw.to) in
          or_right (eqb i (k / 3)) (eqb i (t / 3)) (eq-eqb i (t / 3) (sym s.third ∙ ap (λ (x : ℕ). x / 3) e))
        where
          or_right : (p q : Bool) → q ≡ true → (p || q) ≡ true
          or_right true q e = refl
          or_right false q e = e

      to : has a b (place (triangles c) i) ≡ true → (eqb i (k / 3) || eqb i (t / 3)) ≡ true
      to e = pick ends (has_either (place (triangles c) i) a b e)
        where
          pick : ((a ≡ at c k) × (b ≡ at c (nx k))) ⊎ ((a ≡ at c (nx k)) × (b ≡ at c k)) → ((z : ℕ) × Reads (place (triangles c) i) a b z) ⊎ ((z : ℕ) × Reads (place (triangles c) i) b a z) → (eqb i (k / 3) || eqb i (t / 3)) ≡ true
          pick (inl q) (inl r) = at-k (subst (λ (x : ℕ). Reads (place (triangles c) i) (at c k) x r.0) q.1 (subst (λ (x : ℕ). Reads (place (triangles c) i) x b r.0) q.0 r.1))
          pick (inl q) (inr r) = at-t (subst (λ (x : ℕ). Reads (place (triangles c) i) (at c (nx k)) x r.0) q.0 (subst (λ (x : ℕ). Reads (place (triangles c) i) x a r.0) q.1 r.1))
          pick (inr q) (inl r) = at-t (subst (λ (x : ℕ). Reads (place (triangles c) i) (at c (nx k)) x r.0) q.1 (subst (λ (x : ℕ). Reads (place (triangles c) i) x b r.0) q.0 r.1))
          pick (inr q) (inr r) = at-k (subst (λ (x : ℕ). Reads (place (triangles c) i) (at c k) x r.0) q.0 (subst (λ (x : ℕ). Reads (place (triangles c) i) x a r.0) q.1 r.1))

      runs_here : (j x y : ℕ) → j < length c → x ≡ at c j → y ≡ at c (nx j) → j / 3 ≡ i → runs (place (triangles c) i) x y ≡ true
      runs_here j x y m ex ey e =
          subst (λ (q : ℕ). runs (place (triangles c) q) x y ≡ true) e (subst (λ (q : ℕ). runs (tri_of c j) q y ≡ true) (sym ex) (subst (λ (q : ℕ). runs (tri_of c j) (at c j) q ≡ true) (sym ey) (reads_runs (place_reads c h.thirds j m))))
        where
          reads_runs : {u : Tri} {x y z : ℕ} → Reads u x y z → runs u x y ≡ true
          reads_runs {u} {x} {y} (r0 p q r) = rw (eq-eqb u.a x p, eq-eqb u.b y q) refl
          reads_runs {u} {x} {y} (r1 p q r) = second (eqb u.a x && eqb u.b y) (eqb u.b x && eqb u.c y) (eqb u.c x && eqb u.a y) (join (eqb u.b x) (eqb u.c y) (eq-eqb u.b x p) (eq-eqb u.c y q))
            where
              second : (p q r : Bool) → q ≡ true → (p || (q || r)) ≡ true
              second true q r e = refl
              second false q r e = rw e refl
          reads_runs {u} {x} {y} (r2 p q r) = third (eqb u.a x && eqb u.b y) (eqb u.b x && eqb u.c y) (eqb u.c x && eqb u.a y) (join (eqb u.c x) (eqb u.a y) (eq-eqb u.c x p) (eq-eqb u.a y q))
            where
              third : (p q r : Bool) → r ≡ true → (p || (q || r)) ≡ true
              third true q r e = refl
              third false true r e = refl
              third false false r e = e

      either_way : (x y : Bool) → (x ≡ true) ⊎ (y ≡ true) → (x || y) ≡ true
      either_way true y e = refl
      either_way false y (inl e) = absurd (false≢true e)
      either_way false y (inr e) = e

      back : (eqb i (k / 3) || eqb i (t / 3)) ≡ true → has a b (place (triangles c) i) ≡ true
      back e = pick ends (split (eqb i (k / 3)) (eqb i (t / 3)) refl refl e)
        where
          split : (x y : Bool) → eqb i (k / 3) ≡ x → eqb i (t / 3) ≡ y → (x || y) ≡ true → (i ≡ k / 3) ⊎ (i ≡ t / 3)
          split true y p q f = inl (eqb-true i (k / 3) p)
          split false true p q f = inr (eqb-true i (t / 3) q)
          split false false p q f = absurd (false≢true f)

          pick : ((a ≡ at c k) × (b ≡ at c (nx k))) ⊎ ((a ≡ at c (nx k)) × (b ≡ at c k)) → (i ≡ k / 3) ⊎ (i ≡ t / 3) → has a b (place (triangles c) i) ≡ true
          pick (inl q) (inl z) = either_way (runs (place (triangles c) i) a b) (runs (place (triangles c) i) b a) (inl (runs_here k a b l q.0 q.1 (sym z)))
          pick (inl q) (inr z) = either_way (runs (place (triangles c) i) a b) (runs (place (triangles c) i) b a) (inr (runs_here t b a tw.low (q.1 ∙ sym tw.from) (q.0 ∙ sym tw.to) (sym z)))
          pick (inr q) (inl z) = either_way (runs (place (triangles c) i) a b) (runs (place (triangles c) i) b a) (inr (runs_here k b a l q.1 q.0 (sym z)))
          pick (inr q) (inr z) = either_way (runs (place (triangles c) i) a b) (runs (place (triangles c) i) b a) (inl (runs_here t a b tw.low (q.0 ∙ sym tw.from) (q.1 ∙ sym tw.to) (sym z)))

  -- the words that a collapse leaves: both ends' triangles touched, b becomes a, the two triangles of the side gone
  pub record Collapsed (a b : ℕ) (w w₁ w₂ w₃ w₄ w₅ : List ℕ) : Type 0 where
    pub one : Touching c p touched h a (length c) w w₁
    pub two : Touching c p touched h b (length c) w₁ w₂
    pub three : w₃ ≡ set w₂ (touched + p + b) a
    pub four : w₄ ≡ set w₃ (touched + p * 2 + k / 3) 1
    pub five : w₅ ≡ set w₄ (touched + p * 2 + t / 3) 1

  module _ (a b : ℕ) (w w₁ w₂ w₃ w₄ w₅ : List ℕ) (room : touched + p * 2 + n ≤ length w) (ends : ((a ≡ at c k) × (b ≡ at c (nx k))) ⊎ ((a ≡ at c (nx k)) × (b ≡ at c k))) (d : Collapsed a b w w₁ w₂ w₃ w₄ w₅) where
    size_w₂ : length w₂ ≡ length w
    size_w₂ = d.two.len ∙ d.one.len

    size_w₃ : length w₃ ≡ length w
    size_w₃ = ap length d.three ∙ length-set w₂ (touched + p + b) a ∙ size_w₂

    size_w₄ : length w₄ ≡ length w
    size_w₄ = ap length d.four ∙ length-set w₃ (touched + p * 2 + k / 3) 1 ∙ size_w₃

    pub collapse-len : length w₅ ≡ length w
    collapse-len = ap length d.five ∙ length-set w₄ (touched + p * 2 + t / 3) 1 ∙ size_w₄

    below-ends : (a < p) × (b < p)
    below-ends = pick ends
      where
        pick : ((a ≡ at c k) × (b ≡ at c (nx k))) ⊎ ((a ≡ at c (nx k)) × (b ≡ at c k)) → (a < p) × (b < p)
        pick (inl e) = (omega (arith, e.0, h.below k l), omega (arith, e.1, below_next h k l))
        pick (inr e) = (omega (arith, e.0, below_next h k l), omega (arith, e.1, h.below k l))

    k-low : k / 3 < n
    k-low = omega arith

    t-low : t / 3 < n
    t-low = let m = tw.low in omega arith

    pub collapse-under : (j : ℕ) → j < touched → at w₅ j ≡ at w j
    collapse-under j m =
        ap (λ (x : List ℕ). at x j) d.five ∙ get_or-set_other w₄ (touched + p * 2 + t / 3) j 1 0 (λ z. omega arith)
        ∙ ap (λ (x : List ℕ). at x j) d.four ∙ get_or-set_other w₃ (touched + p * 2 + k / 3) j 1 0 (λ z. omega arith)
        ∙ ap (λ (x : List ℕ). at x j) d.three ∙ get_or-set_other w₂ (touched + p + b) j a 0 (λ z. omega arith) ∙ d.two.under j m ∙ d.one.under j m

    pub collapse-over : (j : ℕ) → touched + p * 2 + n ≤ j → at w₅ j ≡ at w j
    collapse-over j m =
        ap (λ (x : List ℕ). at x j) d.five ∙ get_or-set_other w₄ (touched + p * 2 + t / 3) j 1 0 (λ z. omega (arith, t-low))
        ∙ ap (λ (x : List ℕ). at x j) d.four ∙ get_or-set_other w₃ (touched + p * 2 + k / 3) j 1 0 (λ z. omega (arith, k-low))
        ∙ ap (λ (x : List ℕ). at x j) d.three ∙ get_or-set_other w₂ (touched + p + b) j a 0 (λ z. omega (arith, below-ends.1)) ∙ d.two.over j (omega arith) ∙ d.one.over j (omega arith)

    -- the touched words
    touched-same : (x : ℕ) → x < p → at w₅ (touched + x) ≡ at w₂ (touched + x)
    touched-same x m =
        ap (λ (y : List ℕ). at y (touched + x)) d.five ∙ get_or-set_other w₄ (touched + p * 2 + t / 3) (touched + x) 1 0 (λ z. omega arith)
        ∙ ap (λ (y : List ℕ). at y (touched + x)) d.four ∙ get_or-set_other w₃ (touched + p * 2 + k / 3) (touched + x) 1 0 (λ z. omega arith)
        ∙ ap (λ (y : List ℕ). at y (touched + x)) d.three ∙ get_or-set_other w₂ (touched + p + b) (touched + x) a 0 (λ z. omega arith)

    touched-is : (x : ℕ) → x < p → is_touched w₅ touched x ≡ (is_touched w touched x || (near (triangles c) a x || near (triangles c) b x))
    touched-is x m =
        ap (λ (y : ℕ). not (eqb y 0)) (touched-same x m) ∙ d.two.marks x ∙ ap (λ (y : Bool). near_to c b x (length c) || y) (d.one.marks x)
        ∙ ap₂ (λ (y z : Bool). y || (z || is_touched w touched x)) (near-places c b x h.thirds) (near-places c a x h.thirds)
        ∙ turn (near (triangles c) b x) (near (triangles c) a x) (is_touched w touched x)
      where
        turn : (p q r : Bool) → (p || (q || r)) ≡ (r || (q || p))
        turn true true true = refl
        turn true true false = refl
        turn true false true = refl
        turn true false false = refl
        turn false true true = refl
        turn false true false = refl
        turn false false true = refl
        turn false false false = refl

    -- what the corners become
    becomes_own : becomes w₅ (touched + p) b ≡ a
    becomes_own =
        let m = below-ends.1 in
        ap (λ (y : List ℕ). at y (touched + p + b)) d.five ∙ get_or-set_other w₄ (touched + p * 2 + t / 3) (touched + p + b) 1 0 (λ z. omega arith)
        ∙ ap (λ (y : List ℕ). at y (touched + p + b)) d.four ∙ get_or-set_other w₃ (touched + p * 2 + k / 3) (touched + p + b) 1 0 (λ z. omega arith)
        ∙ ap (λ (y : List ℕ). at y (touched + p + b)) d.three ∙ get_or-set_same w₂ (touched + p + b) a 0 (omega (arith, size_w₂))

    becomes_other : (x : ℕ) → x < p → (x ≡ b → ⊥) → becomes w₅ (touched + p) x ≡ becomes w (touched + p) x
    becomes_other x m e =
        ap (λ (y : List ℕ). at y (touched + p + x)) d.five ∙ get_or-set_other w₄ (touched + p * 2 + t / 3) (touched + p + x) 1 0 (λ z. omega arith)
        ∙ ap (λ (y : List ℕ). at y (touched + p + x)) d.four ∙ get_or-set_other w₃ (touched + p * 2 + k / 3) (touched + p + x) 1 0 (λ z. omega arith)
        ∙ ap (λ (y : List ℕ). at y (touched + p + x)) d.three ∙ get_or-set_other w₂ (touched + p + b) (touched + p + x) a 0 (λ z. e (omega arith))
        ∙ d.two.over (touched + p + x) (omega arith) ∙ d.one.over (touched + p + x) (omega arith)

    -- the gone triangles
    gone-word : (i : ℕ) → i < n → not (eqb (at w₅ (touched + p * 2 + i)) 0) ≡ (not (eqb (at w (touched + p * 2 + i)) 0) || (eqb i (k / 3) || eqb i (t / 3)))
    gone-word i m = ap (λ (y : List ℕ). not (eqb (at y (touched + p * 2 + i)) 0)) d.five ∙ pick (same_or i (t / 3)) (same_or i (k / 3))
      where
        up : at w₂ (touched + p * 2 + i) ≡ at w (touched + p * 2 + i)
        up = d.two.over (touched + p * 2 + i) (omega arith) ∙ d.one.over (touched + p * 2 + i) (omega arith)

        into : at w₃ (touched + p * 2 + i) ≡ at w (touched + p * 2 + i)
        into = let o = below-ends.1 in ap (λ (y : List ℕ). at y (touched + p * 2 + i)) d.three ∙ get_or-set_other w₂ (touched + p + b) (touched + p * 2 + i) a 0 (λ z. omega arith) ∙ up

        pick : (i ≡ t / 3) ⊎ (i ≡ t / 3 → ⊥) → (i ≡ k / 3) ⊎ (i ≡ k / 3 → ⊥) → not (eqb (at (set w₄ (touched + p * 2 + t / 3) 1) (touched + p * 2 + i)) 0) ≡ (not (eqb (at w (touched + p * 2 + i)) 0) || (eqb i (k / 3) || eqb i (t / 3)))
        pick (inl e) f =
            ap (λ (y : ℕ). not (eqb y 0)) (ap (λ (y : ℕ). at (set w₄ (touched + p * 2 + t / 3) 1) (touched + p * 2 + y)) e ∙ get_or-set_same w₄ (touched + p * 2 + t / 3) 1 0 (omega (arith, size_w₄, t-low)))
            ∙ sym (ap (λ (y : Bool). not (eqb (at w (touched + p * 2 + i)) 0) || (eqb i (k / 3) || y)) (eq-eqb i (t / 3) e) ∙ last (not (eqb (at w (touched + p * 2 + i)) 0)) (eqb i (k / 3)))
          where
            last : (p q : Bool) → (p || (q || true)) ≡ true
            last true q = refl
            last false true = refl
            last false false = refl
        pick (inr e) (inl f) =
            ap (λ (y : ℕ). not (eqb y 0)) (get_or-set_other w₄ (touched + p * 2 + t / 3) (touched + p * 2 + i) 1 0 (λ z. e (omega arith)) ∙ ap (λ (y : List ℕ). at y (touched + p * 2 + i)) d.four
            ∙ ap (λ (y : ℕ). at (set w₃ (touched + p * 2 + k / 3) 1) (touched + p * 2 + y)) f ∙ get_or-set_same w₃ (touched + p * 2 + k / 3) 1 0 (omega (arith, size_w₃, k-low)))
            ∙ sym (ap (λ (y : Bool). not (eqb (at w (touched + p * 2 + i)) 0) || (y || eqb i (t / 3))) (eq-eqb i (k / 3) f) ∙ mid (not (eqb (at w (touched + p * 2 + i)) 0)))
          where
            mid : (p : Bool) → (p || true) ≡ true
            mid true = refl
            mid false = refl
        pick (inr e) (inr f) =
            ap (λ (y : ℕ). not (eqb y 0)) (get_or-set_other w₄ (touched + p * 2 + t / 3) (touched + p * 2 + i) 1 0 (λ z. e (omega arith)) ∙ ap (λ (y : List ℕ). at y (touched + p * 2 + i)) d.four
            ∙ get_or-set_other w₃ (touched + p * 2 + k / 3) (touched + p * 2 + i) 1 0 (λ z. f (omega arith)) ∙ into)
            ∙ sym (ap₂ (λ (y z : Bool). not (eqb (at w (touched + p * 2 + i)) 0) || (y || z)) (ne_eqb i (k / 3) f) (ne_eqb i (t / 3) e) ∙ none (not (eqb (at w (touched + p * 2 + i)) 0)))
          where
            none : (p : Bool) → (p || false) ≡ p
            none true = refl
            none false = refl

    -- the state after the collapse stands in the words
    module _ (s : State) (g : Stands c n p touched w s) (free : s.touched b ≡ false) where
      f : ℕ → ℕ
      f = becomes w (touched + p)

      keeps-off : (x : ℕ) → x < p → (x ≡ b → ⊥) → becomes w (touched + p) x ≡ b → ⊥
      keeps-off x m e q = true_false (subst (λ (y : ℕ). s.touched y ≡ true) q (g.off x m (λ z. e (sym z ∙ q)))) free

      put_is : (x : ℕ) → x < p → put a b (becomes w (touched + p) x) ≡ becomes w₅ (touched + p) x
      put_is x m = pick (same_or x b)
        where
          pick : (x ≡ b) ⊎ (x ≡ b → ⊥) → put a b (becomes w (touched + p) x) ≡ becomes w₅ (touched + p) x
          pick (inl e) =
              let q : becomes w (touched + p) x ≡ b = ap (becomes w (touched + p)) e ∙ g.fixed b below-ends.1 free in
              ap (λ (y : Bool). cond y a (becomes w (touched + p) x)) (eq-eqb (becomes w (touched + p) x) b q) ∙ sym (ap (becomes w₅ (touched + p)) e ∙ becomes_own)
          pick (inr e) = ap (λ (y : Bool). cond y a (becomes w (touched + p) x)) (ne_eqb (becomes w (touched + p) x) b (keeps-off x m e)) ∙ sym (becomes_other x m e)

      corner-below : (i : ℕ) → i < n → ((place (triangles c) i).a < p) × ((place (triangles c) i).b < p) × ((place (triangles c) i).c < p)
      corner-below i m =
          let e = place-triangles c i (omega arith) in (
            subst (λ (y : Tri). y.a < p) (sym e) (h.below (3 * i) (omega arith)),
            subst (λ (y : Tri). y.b < p) (sym e) (h.below (3 * i + 1) (omega arith)),
            subst (λ (y : Tri). y.c < p) (sym e) (h.below (3 * i + 2) (omega arith)),
          )

      tri-moved : (u : Tri) → u.a < p → u.b < p → u.c < p → cond (names u b) (renamed a b (renumber (becomes w (touched + p)) u)) (renumber (becomes w (touched + p)) u) ≡ renumber (becomes w₅ (touched + p)) u
      tri-moved u x y z = pick (names u b) refl
        where
          all : renamed a b (renumber (becomes w (touched + p)) u) ≡ renumber (becomes w₅ (touched + p)) u
          all = rw (put_is u.a x, put_is u.b y, put_is u.c z) refl

          pick : (q : Bool) → names u b ≡ q → cond (names u b) (renamed a b (renumber (becomes w (touched + p)) u)) (renumber (becomes w (touched + p)) u) ≡ renumber (becomes w₅ (touched + p)) u
          pick true e = ap (λ (v : Bool). cond v (renamed a b (renumber (becomes w (touched + p)) u)) (renumber (becomes w (touched + p)) u)) e ∙ all
          pick false e =
              let o = or_none (eqb u.a b) (eqb u.b b || eqb u.c b) e in
              let r = or_none (eqb u.b b) (eqb u.c b) o.1 in
              ap (λ (v : Bool). cond v (renamed a b (renumber (becomes w (touched + p)) u)) (renumber (becomes w (touched + p)) u)) e
              ∙ sym (rw (becomes_other u.a x (eqb-false u.a b o.0), becomes_other u.b y (eqb-false u.b b r.0), becomes_other u.c z (eqb-false u.c b r.1)) refl)

      tris_now : moved a b (triangles c) (renumbered (becomes w (touched + p)) (triangles c)) ≡ renumbered (becomes w₅ (touched + p)) (triangles c)
      tris_now =
          let e : length (renumbered (becomes w (touched + p)) (triangles c)) ≡ length (triangles c) = length-map (triangles c) (renumber (becomes w (touched + p))) in
          let e₅ : length (renumbered (becomes w₅ (touched + p)) (triangles c)) ≡ length (triangles c) = length-map (triangles c) (renumber (becomes w₅ (touched + p))) in
          let m = moved_length a b (triangles c) (renumbered (becomes w (touched + p)) (triangles c)) e in
          ext_get_or (tri 0 0 0) (moved a b (triangles c) (renumbered (becomes w (touched + p)) (triangles c))) (renumbered (becomes w₅ (touched + p)) (triangles c)) (m ∙ sym e₅)
          (λ i o.
          let q : i < length (triangles c) = omega arith in
          let b3 = corner-below i (omega (arith, count)) in
          moved-place a b (triangles c) (renumbered (becomes w (touched + p)) (triangles c)) i q e
          ∙ ap (λ (u : Tri). cond (names (place (triangles c) i) b) (renamed a b u) u) (map-place (renumber (becomes w (touched + p))) (triangles c) i q)
          ∙ tri-moved (place (triangles c) i) b3.0 b3.1 b3.2
          ∙ sym (map-place (renumber (becomes w₅ (touched + p))) (triangles c) i q))

      near_self_b : near (triangles c) b b ≡ true
      near_self_b = near_self b ends
        where
          near_self : (y : ℕ) → ((a ≡ at c k) × (y ≡ at c (nx k))) ⊎ ((a ≡ at c (nx k)) × (y ≡ at c k)) → near (triangles c) y y ≡ true
          near_self y (inl e) = in_near (nx k) y (nx-low k l) (sym e.1)
            where
              nx-low : (k : ℕ) → k < length c → nx k < length c
              nx-low k l = let q = h.thirds in omega arith

              in_near : (j y : ℕ) → j < length c → at c j ≡ y → near (triangles c) y y ≡ true
              in_near j y o q = sym (near-places c y y h.thirds) ∙ by_near c y y (length c) j o q (rw (eq-eqb (at c j) y q) refl)
          near_self y (inr e) = sym (near-places c y y h.thirds) ∙ by_near c y y (length c) k l (sym e.1) (rw (eq-eqb (at c k) y (sym e.1)) refl)

      near_self_a : near (triangles c) a a ≡ true
      near_self_a = near_self a ends
        where
          nx-low : (k : ℕ) → k < length c → nx k < length c
          nx-low k l = let q = h.thirds in omega arith

          near_self : (y : ℕ) → ((y ≡ at c k) × (b ≡ at c (nx k))) ⊎ ((y ≡ at c (nx k)) × (b ≡ at c k)) → near (triangles c) y y ≡ true
          near_self y (inl e) = sym (near-places c y y h.thirds) ∙ by_near c y y (length c) k l (sym e.0) (rw (eq-eqb (at c k) y (sym e.0)) refl)
          near_self y (inr e) = sym (near-places c y y h.thirds) ∙ by_near c y y (length c) (nx k) (nx-low k l) (sym e.0) (rw (eq-eqb (at c (nx k)) y (sym e.0)) refl)

      pub stands_collapse : Stands c n p touched w₅ (collapse_step (pair_of c ls) s a b)
      unfolding collapse_step
      stands_collapse = record {
        tris = ap (moved a b (triangles c)) g.tris ∙ tris_now;
        size = marked-length a b (triangles c) s.gone (g.size ∙ sym count) ∙ count;
        gone = λ i r. marked-place a b (triangles c) s.gone i (omega (arith, count)) (g.size ∙ sym count) ∙ ap₂ ◌||◌ (g.gone i r) (has-place a b i r ends) ∙ sym (gone-word i r);
        marks = λ x m. ap (λ (y : Bool). y || (near (triangles c) a x || near (triangles c) b x)) (g.marks x m) ∙ sym (touched-is x m);
        below = λ x m. low x m (same_or x b);
        fixed = λ x m e. still x m e (same_or x b);
        off = λ x m e. moves x m e (same_or x b);
      }
        where
          low : (x : ℕ) → x < p → (x ≡ b) ⊎ (x ≡ b → ⊥) → becomes w₅ (touched + p) x < p
          low x m (inl e) = subst (λ (y : ℕ). y < p) (sym (ap (becomes w₅ (touched + p)) e ∙ becomes_own)) below-ends.0
          low x m (inr e) = subst (λ (y : ℕ). y < p) (sym (becomes_other x m e)) (g.below x m)

          still : (x : ℕ) → x < p → (s.touched x || (near (triangles c) a x || near (triangles c) b x)) ≡ false → (x ≡ b) ⊎ (x ≡ b → ⊥) → becomes w₅ (touched + p) x ≡ x
          still x m e (inl z) =
              let o = or_none (s.touched x) (near (triangles c) a x || near (triangles c) b x) e in
              let r = or_none (near (triangles c) a x) (near (triangles c) b x) o.1 in
              absurd (true_false near_self_b (subst (λ (y : ℕ). near (triangles c) b y ≡ false) z r.1))
          still x m e (inr z) = becomes_other x m z ∙ g.fixed x m (or_none (s.touched x) (near (triangles c) a x || near (triangles c) b x) e).0

          first : (p q : Bool) → p ≡ true → (p || q) ≡ true
          first p q e = rw e refl

          second : (p q r : Bool) → q ≡ true → (p || (q || r)) ≡ true
          second true q r e = refl
          second false q r e = rw e refl

          moves : (x : ℕ) → x < p → (becomes w₅ (touched + p) x ≡ x → ⊥) → (x ≡ b) ⊎ (x ≡ b → ⊥) → (s.touched (becomes w₅ (touched + p) x) || (near (triangles c) a (becomes w₅ (touched + p) x) || near (triangles c) b (becomes w₅ (touched + p) x))) ≡ true
          moves x m e (inl z) =
              let q : becomes w₅ (touched + p) x ≡ a = ap (becomes w₅ (touched + p)) z ∙ becomes_own in
              subst (λ (y : ℕ). (s.touched y || (near (triangles c) a y || near (triangles c) b y)) ≡ true) (sym q) (second (s.touched a) (near (triangles c) a a) (near (triangles c) b a) near_self_a)
          moves x m e (inr z) =
              let q = becomes_other x m z in
              subst (λ (y : ℕ). (s.touched y || (near (triangles c) a y || near (triangles c) b y)) ≡ true) (sym q) (first (s.touched (becomes w (touched + p) x)) (near (triangles c) a (becomes w (touched + p) x) || near (triangles c) b (becomes w (touched + p) x)) (g.off x m (λ y. e (q ∙ y))))

-- The steps around a corner are noted a triangle at a time.
use Prim.Native.Nat.{ℕ, ◌+◌, ◌≤◌, ◌<◌}
use mathlib.Core.Path.{◌≡◌, refl, sym, ◌∙◌, ap, subst}
use mathlib.Core.Logic.{◌⊎◌, inl, inr}
use mathlib.Core.Bool.{Bool, true, false, ◌||◌}
use mathlib.Core.List.{List, [], ◌∷◌}
use native.Mathlib.Omega.{arith}
use native.Mathlib.Decide.{ℕ_discrete}
use lib.Dec.{eqb}
use lib.ListN.{length, get_or, drop, set, length-set}
use lib.Seq.{get_or-set_same, get_or-set_other}
use borrow.Author.Tests.{eqb-true, eqb-false, eq-eqb, ne_eqb}
use Rattle.surface.specs.Triangle.{Tri, names}
use Rattle.surface.specs.Closed.{sides, Step, around}
use Rattle.surface.specs.Edit.{place}
use Rattle.surface.specs.Flat.{tri_of, held, three_at}
use Rattle.surface.proofs.Reading.{Reads, r0, r1, r2, turn, Has, here, there, has-side, side-has}
use Rattle.surface.proofs.Surface.{Surface, differ3, next_of}
use Rattle.surface.proofs.Bridge.{closed_surface_lem, in_use}
use Rattle.surface.proofs.Places.{place-has}
use Rattle.surface.proofs.Held.{length-held, read_held, drop-held, drop-held_end}
use Rattle.surface.specs.Check.{every}
use Rattle.history.specs.Local.{apart?, no_common?}
use Rattle.verdicts.specs.Notes.{On, Listed, noted, Noted, apart_by}
use Rattle.verdicts.proofs.Scan.{not_named}

-- the corners of a triangle of the list are below the number of points
pub listed-on : {l : List ℕ} {n points : ℕ} → Listed l n points → (i : ℕ) → i < n → (t : List ℕ) → t ≡ three_at l i → On points (tri_of t)
listed-on {l} {n} {points} s i q t e =
    let m : i < length (held l n) = omega (arith, length-held l n s.room) in
    let r : Reads (place (held l n) i) (get_or t 0 0) (get_or t 1 0) (get_or t 2 0) =
    let g = read_held l n i s.room q t e in r0 (ap (λ (u : Tri). u.a) (sym g)) (ap (λ (u : Tri). u.b) (sym g)) (ap (λ (u : Tri). u.c) (sym g)) in
    record {
      a = s.below (get_or t 0 0) (in_use (place-has (held l n) i m r));
      b = s.below (get_or t 1 0) (in_use (place-has (held l n) i m (turn r)));
      c = s.below (get_or t 2 0) (in_use (place-has (held l n) i m (turn (turn r))));
    }

-- what a triangle whose corners differ does to the words: nothing where it does not name a, else the word of the next corner is set
data Note (a : ℕ) (t : Tri) (w w' : List ℕ) : Type 0 where
  off : ((x y : ℕ) → Reads t a x y → ⊥) → w' ≡ w → Note a t w w'
  on : (x y : ℕ) → Reads t a x y → w' ≡ set w x (y + 1) → Note a t w w'

note_view : (a : ℕ) (t : Tri) (w : List ℕ) → Note a t w (noted a t w)
note_view a t w = go (eqb t.a a) refl (eqb t.b a) refl (eqb t.c a) refl
  where
    go : (p : Bool) → eqb t.a a ≡ p → (q : Bool) → eqb t.b a ≡ q → (r : Bool) → eqb t.c a ≡ r → Note a t w (noted a t w)
    go true i q j r k = on t.b t.c (r0 (eqb-true t.a a i) refl refl) (rw i)
    go false i true j r k = on t.c t.a (r1 (eqb-true t.b a j) refl refl) (rw (i, j))
    go false i false j true k = on t.a t.b (r2 (eqb-true t.c a k) refl refl) (rw (i, j, k))
    go false i false j false k = off none (rw (i, j, k))
      where
        none : (x y : ℕ) → Reads t a x y → ⊥
        none x y (r0 e f g) = eqb-false t.a a i e
        none x y (r1 e f g) = eqb-false t.b a j e
        none x y (r2 e f g) = eqb-false t.c a k e

-- how far the notes have come: the first i triangles are noted
pub record Noting (ts : List Tri) (a k i : ℕ) (w : List ℕ) : Type 0 where
  pub size : length w ≡ k
  pub step : (x y : ℕ) → Has a x y ts → (get_or w x 0 ≡ y + 1) ⊎ Has a x y (drop i ts)
  pub none : (x : ℕ) → sides ts a x ≡ 0 → get_or w x 0 ≡ 0

pub noting_start : (ts : List Tri) (a : ℕ) (w : List ℕ) → ((x : ℕ) → get_or w x 0 ≡ 0) → Noting ts a (length w) 0 w
noting_start ts a w z = record { size = refl; step = λ x y h. inr h; none = λ x e. z x }

module _ {l : List ℕ} {n a k i : ℕ} {w : List ℕ} (s : Listed l n k) (g : Noting (held l n) a k i w) where
  abbrev ts : List Tri
  ts = held l n

  whole : Surface (held l n)
  whole = closed_surface_lem s.closed

  pub noting_fits : i < n → (t : List ℕ) → t ≡ three_at l i → (On (length w) (tri_of t)) × (length w ≤ 32768)
  noting_fits q t e = (subst (λ (j : ℕ). On j (tri_of t)) (sym g.size) (listed-on s i q t e), omega (arith, s.bound, g.size))

  pub noting_on : i < n → (t : List ℕ) → t ≡ three_at l i → (w' : List ℕ) → w' ≡ noted a (tri_of t) w → Noting (held l n) a k (i + 1) w'
  noting_on q t e w' f = subst (λ (v : List ℕ). Noting (held l n) a k (i + 1) v) (sym f) (pick (note_view a (tri_of t) w))
    where
      is-t : tri_of t ≡ place (held l n) i
      is-t = read_held l n i s.room q t e

      m : i < length (held l n)
      m = omega (arith, length-held l n s.room)

      split : drop i (held l n) ≡ tri_of t ∷ drop (i + 1) (held l n)
      split = drop-held l n i s.room q ∙ ap (λ (u : Tri). u ∷ drop (i + 1) (held l n)) (sym (ap tri_of e))

      has-t : (x y : ℕ) → Reads (tri_of t) a x y → Has a x y (held l n)
      has-t x y r = place-has (held l n) i m (subst (λ (u : Tri). Reads u a x y) is-t r)

      pick : Note a (tri_of t) w (noted a (tri_of t) w) → Noting (held l n) a k (i + 1) (noted a (tri_of t) w)
      pick (off o h) = record {
        size = ap length h ∙ g.size;
        step = λ x y j. turn_off x y (g.step x y j);
        none = λ x z. ap (λ (v : List ℕ). get_or v x 0) h ∙ g.none x z;
      }
        where
          later : (x y : ℕ) → Has a x y (tri_of t ∷ drop (i + 1) (held l n)) → Has a x y (drop (i + 1) (held l n))
          later x y (here r) = absurd (o x y r)
          later x y (there j) = j

          turn_off : (x y : ℕ) → (get_or w x 0 ≡ y + 1) ⊎ Has a x y (drop i (held l n)) → (get_or (noted a (tri_of t) w) x 0 ≡ y + 1) ⊎ Has a x y (drop (i + 1) (held l n))
          turn_off x y (inl z) = inl (ap (λ (v : List ℕ). get_or v x 0) h ∙ z)
          turn_off x y (inr j) = inr (later x y (subst (λ (us : List Tri). Has a x y us) split j))
      pick (on u v r h) = record {
        size = ap length h ∙ length-set w u (v + 1) ∙ g.size;
        step = λ x y j. turn_on x y j (ℕ_discrete x u) (g.step x y j);
        none = λ x z. blank x z (ℕ_discrete x u);
      }
        where
          has-u : Has a u v (held l n)
          has-u = has-t u v r

          fits : u < length w
          fits = omega (arith, g.size, s.below u (in_use (spin_in has-u)))
            where
              spin_in : {x y z : ℕ} {us : List Tri} → Has x y z us → Has y z x us
              spin_in (here r) = here (turn r)
              spin_in (there j) = there (spin_in j)

          at-u : (x : ℕ) → x ≡ u → get_or (noted a (tri_of t) w) x 0 ≡ v + 1
          at-u x p = ap (λ (c : List ℕ). get_or c x 0) h ∙ rw p (get_or-set_same w u (v + 1) 0 fits)

          other : (x : ℕ) → (x ≡ u → ⊥) → get_or (noted a (tri_of t) w) x 0 ≡ get_or w x 0
          other x p = ap (λ (c : List ℕ). get_or c x 0) h ∙ get_or-set_other w u x (v + 1) 0 p

          later : (x y : ℕ) → (x ≡ u → ⊥) → Has a x y (tri_of t ∷ drop (i + 1) (held l n)) → Has a x y (drop (i + 1) (held l n))
          later x y p (here c) = absurd (p (only x y c r))
            where
              only : (x y : ℕ) → Reads (tri_of t) a x y → Reads (tri_of t) a u v → x ≡ u
              only x y c d = same_next (λ j. whole.differ a x y (has-t x y c) j) (λ j. differ3 whole (has-t x y c) j) c d
                where
                  same_next : (a ≡ x → ⊥) → (y ≡ a → ⊥) → Reads (tri_of t) a x y → Reads (tri_of t) a u v → x ≡ u
                  same_next na ny (r0 e f g) (r0 e' f' g') = sym f ∙ f'
                  same_next na ny (r1 e f g) (r1 e' f' g') = sym f ∙ f'
                  same_next na ny (r2 e f g) (r2 e' f' g') = sym f ∙ f'
                  same_next na ny (r0 e f g) (r1 e' f' g') = absurd (na (sym e' ∙ f))
                  same_next na ny (r0 e f g) (r2 e' f' g') = absurd (ny (sym g ∙ e'))
                  same_next na ny (r1 e f g) (r0 e' f' g') = absurd (ny (sym g ∙ e'))
                  same_next na ny (r1 e f g) (r2 e' f' g') = absurd (na (sym e' ∙ f))
                  same_next na ny (r2 e f g) (r0 e' f' g') = absurd (na (sym e' ∙ f))
                  same_next na ny (r2 e f g) (r1 e' f' g') = absurd (ny (sym g ∙ e'))
          later x y p (there j) = j

          turn_on : (x y : ℕ) → Has a x y (held l n) → Dec (x ≡ u) → (get_or w x 0 ≡ y + 1) ⊎ Has a x y (drop i (held l n))
              → (get_or (noted a (tri_of t) w) x 0 ≡ y + 1) ⊎ Has a x y (drop (i + 1) (held l n))
          turn_on x y j (yes p) c = inl (at-u x p ∙ ap (λ (c : ℕ). c + 1) (next_of whole has-u (subst (λ (c : ℕ). Has a c y (held l n)) p j)))
          turn_on x y j (no p) (inl z) = inl (other x p ∙ z)
          turn_on x y j (no p) (inr c) = inr (later x y p (subst (λ (us : List Tri). Has a x y us) split c))

          blank : (x : ℕ) → sides (held l n) a x ≡ 0 → Dec (x ≡ u) → get_or (noted a (tri_of t) w) x 0 ≡ 0
          blank x z (yes p) = absurd (omega (arith, has-side has-u, ap (λ (c : ℕ). sides (held l n) a c) (sym p)))
          blank x z (no p) = other x p ∙ g.none x z

  pub noting_end : i ≤ n → n ≤ i → Noted (held l n) a w
  unfolding sides
  noting_end q r = record { step = λ x y j. pick x y (g.step x y j); none = g.none }
    where
      pick : (x y : ℕ) → (get_or w x 0 ≡ y + 1) ⊎ Has a x y (drop i (held l n)) → get_or w x 0 ≡ y + 1
      pick x y (inl z) = z
      pick x y (inr j) = let z = has-side (subst (λ (us : List Tri). Has a x y us) (drop-held_end l n i s.room q r) j) in absurd (omega arith)

-- what the notes say of a neighbour
pub noted-apart : {ts : List Tri} {b : ℕ} {w : List ℕ} → Noted ts b w → (c d x : ℕ) → apart_by w c d x ≡ apart? ts b c d x
noted-apart {ts} {b} {w} g c d x = ap (λ (k : Bool). k || (eqb x c || eqb x d)) (go (eqb (sides ts b x) 0) refl)
  where
    go : (k : Bool) → eqb (sides ts b x) 0 ≡ k → eqb (get_or w x 0) 0 ≡ k
    go true e = eq-eqb (get_or w x 0) 0 (g.none x (eqb-true (sides ts b x) 0 e))
    go false e = let n = eqb-false (sides ts b x) 0 e in let h = side-has ts b x (omega arith) in ne_eqb (get_or w x 0) 0 (λ z. omega (arith, g.step x h.0 h.1))

pub all_same : (f g : Step → Bool) (l : List Step) → ((s : Step) → f s ≡ g s) → every f l ≡ every g l
unfolding every
all_same f g [] h = refl
all_same f g (s ∷ l) h = rw (h s, all_same f g l h)

pub noted-common : {ts : List Tri} {b : ℕ} {w : List ℕ} → Noted ts b w → (a c d : ℕ) → every (λ (s : Step). apart_by w c d s.from) (around ts a) ≡ no_common? ts a b c d
unfolding no_common?
noted-common {ts} {b} {w} g a c d = all_same (λ (s : Step). apart_by w c d s.from) (λ (s : Step). apart? ts b c d s.from) (around ts a) (λ s. noted-apart g c d s.from)

pub noted-off : (a : ℕ) (t w : List ℕ) → names (tri_of t) a ≡ false → w ≡ noted a (tri_of t) w
noted-off a t w e = let g = not_named (tri_of t) a e in rw (g.0, g.1, g.2)

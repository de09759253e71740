-- A piece of just four corners of which a round collapses a side was there when the round began: both ends are untouched, so that the four faces, each of which has one of them, are as they were. So a round that begins with no such piece collapses no side of one.
use Prim.Native.Nat.{ℕ}
use mathlib.Core.Path.{◌≡◌, refl, sym, ◌∙◌, ap, subst}
use mathlib.Core.Logic.{◌⊎◌, inl, inr}
use mathlib.Core.Bool.{Bool, true, false, not, ◌&&◌, ◌||◌, cond}
use mathlib.Core.List.{List, [], ◌∷◌, ◌++◌}
use native.Mathlib.Omega.{arith}
use lib.Bits.{bit_or}
use lib.Dec.{eqb, ltb}
use lib.Ieee as Ieee
use lib.Ieee.{Float, inf}
use lib.ListN.{length}
use Rattle.surface.specs.Triangle.{Tri, names}
use Rattle.surface.specs.Check.{every}
use Rattle.surface.proofs.Bools.{both, join, or_none, or_second}
use Rattle.history.specs.History.{Pair}
use Rattle.rounds.specs.Pass.{State, retain}
use Rattle.rounds.specs.Choices.{Side, filled, collapse_start}
use Rattle.rounds.proofs.Fits.{Fits, fits-begun}
use Rattle.oracle.specs.Scene.{Scene}
use Rattle.oracle.specs.Round.{Mesh, Sheet, seen, count}
use Rattle.oracle.specs.Spared.{Four}
use Rattle.original.specs.Sets.{same_set, intersection}
use Rattle.original.specs.Maps.{shared, adjacent, mask, incident}
use Rattle.original.specs.Collapse.{opposite, Tried, broken, reached, tried, Best, nothing, best, consider, attempt, found}
use Rattle.original.specs.Domain.{state_after, present, RoundWithin}
use Rattle.original.proofs.Sets.{or_right}
use Rattle.original.proofs.Pass.{Upward, pass-holds}
use Rattle.original.proofs.Candidates.{candidates_are, candidates-upward}
use Rattle.original.proofs.Rounds.{Fine}

-- ---- faces with an untouched corner

filled_was : {u : ℕ → Bool} {ts fs : List Tri} {gs : List Bool} → Fits u ts fs gs → (x y z : ℕ) → u x ≡ false → filled (retain gs fs) x y z ≡ true → filled ts x y z ≡ true
unfolding retain filled
filled_was Fits.end x y z e q = q
filled_was (Fits.lost {t = t} {ts = ts} n h) x y z e q = or_right (names t x && (names t y && names t z)) (filled ts x y z) (filled_was h x y z e q)
filled_was (Fits.same {t = t} {f = f} {ts = ts} {fs = fs} {gs = gs} p h) x y z e q = pick (names t x && (names t y && names t z)) refl (filled_was h x y z e)
  where
    now : ((names t x && (names t y && names t z)) || filled (retain gs fs) x y z) ≡ true
    now = rw p at q

    pick : (k : Bool) → (names t x && (names t y && names t z)) ≡ k → (filled (retain gs fs) x y z ≡ true → filled ts x y z ≡ true) → ((names t x && (names t y && names t z)) || filled ts x y z) ≡ true
    pick true k ih = rw k refl
    pick false k ih = rw k (ih (or_second (names t x && (names t y && names t z)) (filled (retain gs fs) x y z) now k))
filled_was (Fits.other {t = t} {f = f} {ts = ts} {fs = fs} {gs = gs} n h) x y z e q =
    or_right (names t x && (names t y && names t z)) (filled ts x y z)
    (filled_was h x y z e (or_second (names f x && (names f y && names f z)) (filled (retain gs fs) x y z) q (rw (n x e).1 refl)))

four_was : {u : ℕ → Bool} {ts fs : List Tri} {gs : List Bool} → Fits u ts fs gs → {a b c d : ℕ} → u a ≡ false → u b ≡ false → Four (retain gs fs) a b c d → Four ts a b c d
four_was h {a} {b} {c} {d} ea eb q = record {
  ab = q.ab;
  ac = q.ac;
  ad = q.ad;
  bc = q.bc;
  bd = q.bd;
  cd = q.cd;
  abc = filled_was h a b c ea q.abc;
  abd = filled_was h a b d ea q.abd;
  acd = filled_was h a c d ea q.acd;
  bcd = filled_was h b c d eb q.bcd;
}

-- ---- the ends of a side that is collapsed

abbrev Ends : ℕ → ℕ → ℕ → ℕ → Type 0
Ends a b k r = ((a ≡ k) × (b ≡ r)) ⊎ ((b ≡ k) × (a ≡ r))

none-best : {k r : ℕ} {q : Float} → nothing ≡ best k r q → ⊥
none-best e = let z : ◌≡◌ {A = ℕ} 0 1 = cc in absurd (omega arith)

consider-from : (old : Best) (keep remove : ℕ) (t : Tried) {k r : ℕ} {q : Float} → consider old keep remove t ≡ best k r q → (old ≡ best k r q) ⊎ ((keep ≡ k) × (remove ≡ r))
unfolding consider
consider-from old keep remove broken e = inl e
consider-from nothing keep remove (reached m) e = inr ((cc), (cc))
consider-from (best a b c) keep remove (reached m) {k} {r} {q} e = pick (Ieee.lt c m) e
  where
    pick : (t : Bool) → cond t (best keep remove m) (best a b c) ≡ best k r q → (best a b c ≡ best k r q) ⊎ ((keep ≡ k) × (remove ≡ r))
    pick true f = inr ((cc), (cc))
    pick false f = inl f

module _ (s : Scene) (p : Pair) where
  attempt-from : (fs : List Tri) (places : List ℕ) (old : Best) (keep remove : ℕ) {k r : ℕ} {q : Float} → attempt s p fs places old keep remove ≡ best k r q → (old ≡ best k r q) ⊎ ((keep ≡ k) × (remove ≡ r))
  unfolding attempt
  attempt-from fs places old keep remove {k} {r} {q} e =
      pick (not (eqb (bit_or (mask p.tris p.labels keep) (mask p.tris p.labels remove)) (mask p.tris p.labels keep))) e
    where
      pick : (t : Bool) → cond t old (consider old keep remove (tried s p fs places keep remove (inf false) (incident p.tris remove))) ≡ best k r q → (old ≡ best k r q) ⊎ ((keep ≡ k) × (remove ≡ r))
      pick true f = inl f
      pick false f = consider-from old keep remove (tried s p fs places keep remove (inf false) (incident p.tris remove)) f

  found-ends : (st : State) (d : Side) {k r : ℕ} {q : Float} → found s p st d ≡ best k r q → ((st.touched d.one || st.touched d.two) ≡ false) × Ends d.one d.two k r
  unfolding found
  found-ends st d {k} {r} {q} e =
      pick (st.touched d.one || st.touched d.two) refl (not (eqb (length places) 2))
      (not (same_set (intersection (adjacent p.tris d.one) (adjacent p.tris d.two)) (opposite st.tris places d.one d.two))) e
    where
      places : List ℕ
      places = shared p.tris d.one d.two

      first : Best
      first = attempt s p st.tris places nothing d.one d.two

      two_ways : attempt s p st.tris places first d.two d.one ≡ best k r q → Ends d.one d.two k r
      two_ways f = go (attempt-from st.tris places first d.two d.one f)
        where
          inner : (nothing ≡ best k r q) ⊎ ((d.one ≡ k) × (d.two ≡ r)) → Ends d.one d.two k r
          inner (inl x) = absurd (none-best x)
          inner (inr x) = inl x

          go : (first ≡ best k r q) ⊎ ((d.two ≡ k) × (d.one ≡ r)) → Ends d.one d.two k r
          go (inl x) = inner (attempt-from st.tris places nothing d.one d.two x)
          go (inr x) = inr x

      pick : (t : Bool) → (st.touched d.one || st.touched d.two) ≡ t → (u v : Bool)
          → cond t nothing (cond u nothing (cond v nothing (attempt s p st.tris places first d.two d.one))) ≡ best k r q
          → ((st.touched d.one || st.touched d.two) ≡ false) × Ends d.one d.two k r
      pick true g u v f = absurd (none-best f)
      pick false g true v f = absurd (none-best f)
      pick false g false true f = absurd (none-best f)
      pick false g false false f = (g, two_ways f)

-- ---- a round

every_front : (f : Side → Bool) (l m : List Side) → every f (l ++ m) ≡ true → every f l ≡ true
unfolding every
every_front f [] m e = refl
every_front f (x ∷ l) m e = let w = both (f x) (every f (l ++ m)) e in join (f x) (every f l) w.0 (every_front f l m w.1)

pub begins-within : (f : Sheet) (m : Mesh) → Fine m → ((a b c d : ℕ) → Four m.pair.tris a b c d → ⊥) → RoundWithin f m
begins-within f m a none = record {
  begins = none;
  comes_to = λ met d left e keep remove q g x y four.
      let s = seen f m.points in
      let p = m.pair in
      let u = subst (λ (ds : List Side). Upward ds) (sym (candidates_are s p a.closed a.labelled (count m) a.below) ∙ e) (candidates-upward s p (count m)) in
      let h = pass-holds s p a.closed a.labelled a.few met (every_front (λ (z : Side). ltb z.one z.two) met (d ∷ left) u) (collapse_start p) (fits-begun (λ z. false) p.tris) in
      let w = found-ends s p (state_after f m met) d g in
      let t = or_none ((state_after f m met).touched d.one) ((state_after f m met).touched d.two) w.0 in
      none keep remove x y (was h d.one d.two keep remove t.0 t.1 w.1 four);
}
  where
    was : {st : State} → Fits st.touched m.pair.tris st.tris st.gone → (a b k r : ℕ) → st.touched a ≡ false → st.touched b ≡ false → Ends a b k r → {x y : ℕ} → Four (present st) k r x y → Four m.pair.tris k r x y
    was {st} h a b k r ea eb (inl z) q = four_was h (ap st.touched (sym z.0) ∙ ea) (ap st.touched (sym z.1) ∙ eb) q
    was {st} h a b k r ea eb (inr z) q = four_was h (ap st.touched (sym z.0) ∙ eb) (ap st.touched (sym z.1) ∙ ea) q

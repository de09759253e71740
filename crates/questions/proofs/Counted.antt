-- Questions 1 to 4: what they come to by the tests, and what each number says of the lent lists.
use Prim.Native.Nat.{ℕ, ◌/◌, ◌%◌, ◌≤◌, ◌<◌}
use native.Mathlib.Omega.{arith}
use mathlib.Core.Path.{◌≡◌, refl, sym, ap, ◌∙◌}
use mathlib.Core.Bool.{Bool, true, false, ◌&&◌, cond}
use mathlib.Core.List.{List}
use lib.Dec.{eqb, leb}
use lib.ListN.{length}
use lib.Ieee.{Float}
use borrow.Author.Tests.{eqb-true, leb-true, eq-eqb, ne_eqb, le-leb, lt-leb}
use Rattle.float.specs.Order.{is_finite}
use Rattle.surface.proofs.Bools.{both, join}
use Rattle.surface.specs.Check.{every}
use Rattle.questions.specs.Questions.{ask, and_then, needed, lent_questions, cleared, work_after, Lends}
use Rattle.questions.specs.Stages.{FirstThree}
use Rattle.questions.specs.Refusal.{Asked, refusal_number, asked_number}
use Rattle.questions.specs.declared.Refusal.{Refusal}
use Rattle.questions.specs.declared.Refusal.TheVariants.{Lengths, TooMany, WorkTooShort, NotFinite}
use Rattle.std.specs.Prelude.{Ok, Err}

-- what the lists are after questions 1 to 3
pub record Counted (ps : List Float) (cs ls work : List ℕ) : Type 0 where
  pub points : length ps % 3 ≡ 0
  pub corners : length cs % 3 ≡ 0
  pub labels : length ls ≡ length cs / 3
  pub few-points : length ps / 3 ≤ 32768
  pub few-triangles : length cs / 3 ≤ 32768
  pub room : needed ps cs ≤ length work

module _ (ps : List Float) (cs ls work : List ℕ) where
  abbrev threes : Bool
  threes = eqb (length ps % 3) 0 && (eqb (length cs % 3) 0 && eqb (length ls) (length cs / 3))

  abbrev few : Bool
  few = leb (length ps / 3) 32768 && leb (length cs / 3) 32768

  abbrev enough : Bool
  enough = leb (needed ps cs) (length work)

  by_tests : {a b c d : Bool} → threes ≡ a → few ≡ b → enough ≡ c → every is_finite ps ≡ d → lent_questions ps cs ls work ≡ ask a Lengths (ask b TooMany (ask c WorkTooShort (ask d NotFinite (Ok tt))))
  unfolding lent_questions
  by_tests p q r s = λ i. ask (p i) Lengths (ask (q i) TooMany (ask (r i) WorkTooShort (ask (s i) NotFinite (Ok tt))))

  pub no_points : (length ps % 3 ≡ 0 → ⊥) → Err Lengths ≡ lent_questions ps cs ls work
  no_points n = let t : threes ≡ false = rw (ne_eqb (length ps % 3) 0 n) in sym (by_tests t refl refl refl)

  pub no_corners : length ps % 3 ≡ 0 → (length cs % 3 ≡ 0 → ⊥) → Err Lengths ≡ lent_questions ps cs ls work
  no_corners p n = let t : threes ≡ false = rw (eq-eqb (length ps % 3) 0 p, ne_eqb (length cs % 3) 0 n) in sym (by_tests t refl refl refl)

  pub no_labels : length ps % 3 ≡ 0 → length cs % 3 ≡ 0 → (length ls ≡ length cs / 3 → ⊥) → Err Lengths ≡ lent_questions ps cs ls work
  no_labels p q n =
      let t : threes ≡ false = rw (eq-eqb (length ps % 3) 0 p, eq-eqb (length cs % 3) 0 q, ne_eqb (length ls) (length cs / 3) n) in
      sym (by_tests t refl refl refl)

  module _ (p : length ps % 3 ≡ 0) (q : length cs % 3 ≡ 0) (r : length ls ≡ length cs / 3) where
    in_threes : threes ≡ true
    in_threes = join _ _ (eq-eqb (length ps % 3) 0 p) (join _ _ (eq-eqb (length cs % 3) 0 q) (eq-eqb (length ls) (length cs / 3) r))

    pub many-points : 32768 < length ps / 3 → Err TooMany ≡ lent_questions ps cs ls work
    many-points n = let t : few ≡ false = rw (lt-leb (length ps / 3) 32768 n) in sym (by_tests in_threes t refl refl)

    pub many-triangles : length ps / 3 ≤ 32768 → 32768 < length cs / 3 → Err TooMany ≡ lent_questions ps cs ls work
    many-triangles m n = let t : few ≡ false = rw (le-leb (length ps / 3) 32768 m, lt-leb (length cs / 3) 32768 n) in sym (by_tests in_threes t refl refl)

    module _ (m : length ps / 3 ≤ 32768) (n : length cs / 3 ≤ 32768) where
      at_most : few ≡ true
      at_most = join _ _ (le-leb (length ps / 3) 32768 m) (le-leb (length cs / 3) 32768 n)

      pub no_room : length work < needed ps cs → Err WorkTooShort ≡ lent_questions ps cs ls work
      no_room h = sym (by_tests in_threes at_most (lt-leb (needed ps cs) (length work) h) refl)

      pub asked_finite : needed ps cs ≤ length work → {d : Bool} → every is_finite ps ≡ d → ask d NotFinite (Ok tt) ≡ lent_questions ps cs ls work
      asked_finite h e = sym (by_tests in_threes at_most (le-leb (needed ps cs) (length work) h) e)

-- ---- what they come to

pub data FirstFour (ps : List Float) (cs ls work : List ℕ) : Type 0 where
  early : (why : Refusal) → 1 ≤ refusal_number why → refusal_number why ≤ 3 → lent_questions ps cs ls work ≡ Err why → FirstFour ps cs ls work
  infinite : Counted ps cs ls work → every is_finite ps ≡ false → lent_questions ps cs ls work ≡ Err NotFinite → FirstFour ps cs ls work
  passes : Counted ps cs ls work → every is_finite ps ≡ true → lent_questions ps cs ls work ≡ Ok tt → FirstFour ps cs ls work

pub first-four : (ps : List Float) (cs ls work : List ℕ) → FirstFour ps cs ls work
first-four ps cs ls work = go (threes ps cs ls work) refl (few ps cs ls work) refl (enough ps cs ls work) refl (every is_finite ps) refl
  where
    counted : threes ps cs ls work ≡ true → few ps cs ls work ≡ true → enough ps cs ls work ≡ true → Counted ps cs ls work
    counted p q r =
        let t = both (eqb (length ps % 3) 0) (eqb (length cs % 3) 0 && eqb (length ls) (length cs / 3)) p in
        let u = both (eqb (length cs % 3) 0) (eqb (length ls) (length cs / 3)) t.1 in
        let m = both (leb (length ps / 3) 32768) (leb (length cs / 3) 32768) q in
        record {
          points = eqb-true (length ps % 3) 0 t.0;
          corners = eqb-true (length cs % 3) 0 u.0;
          labels = eqb-true (length ls) (length cs / 3) u.1;
          few-points = leb-true (length ps / 3) 32768 m.0;
          few-triangles = leb-true (length cs / 3) 32768 m.1;
          room = leb-true (needed ps cs) (length work) r;
        }

    go : (a : Bool) → threes ps cs ls work ≡ a → (b : Bool) → few ps cs ls work ≡ b → (c : Bool) → enough ps cs ls work ≡ c → (d : Bool) → every is_finite ps ≡ d → FirstFour ps cs ls work
    go false p b q c r d s = early Lengths (omega arith) (omega arith) (by_tests ps cs ls work p q r s)
    go true p false q c r d s = early TooMany (omega arith) (omega arith) (by_tests ps cs ls work p q r s)
    go true p true q false r d s = early WorkTooShort (omega arith) (omega arith) (by_tests ps cs ls work p q r s)
    go true p true q true r false s = infinite (counted p q r) s (by_tests ps cs ls work p q r s)
    go true p true q true r true s = passes (counted p q r) s (by_tests ps cs ls work p q r s)

-- a refusal is no passing
pub not_both : {a : Asked} {why : Refusal} → a ≡ Ok tt → a ≡ Err why → ⊥
not_both e f = cc

module _ (ps : List Float) (cs ls work : List ℕ) where
  pub lent-passed : lent_questions ps cs ls work ≡ Ok tt → (Counted ps cs ls work) × (every is_finite ps ≡ true)
  lent-passed e = go (first-four ps cs ls work)
    where
      go : FirstFour ps cs ls work → (Counted ps cs ls work) × (every is_finite ps ≡ true)
      go (early y p q f) = absurd (not_both e f)
      go (infinite c s f) = absurd (not_both e f)
      go (passes c s f) = (c, s)

  module _ {why : Refusal} (e : lent_questions ps cs ls work ≡ Err why) where
    pub lent-four : refusal_number why ≡ 4 → Counted ps cs ls work
    lent-four four = go (first-four ps cs ls work)
      where
        go : FirstFour ps cs ls work → Counted ps cs ls work
        go (early y p q f) = let g : refusal_number y ≡ refusal_number why = ap asked_number (sym f ∙ e) in absurd (omega arith)
        go (infinite c s f) = c
        go (passes c s f) = absurd (not_both f e)

    -- after 1 to 3 the work words stay as lent, after 4 they are cleared
    pub words_early : (refusal_number why ≡ 4 → ⊥) → work ≡ work_after (refusal_number why) ps cs work
    words_early four = go (first-four ps cs ls work)
      where
        go : FirstFour ps cs ls work → work ≡ work_after (refusal_number why) ps cs work
        go (early m p q f) =
            let n = refusal_number why in
            let g : refusal_number m ≡ n = ap asked_number (sym f ∙ e) in
            let b : (leb 1 n && leb n 3) ≡ true = join _ _ (le-leb 1 n (omega arith)) (le-leb n 3 (omega arith)) in
            sym (ap (λ (t : Bool). cond t work (cleared (needed ps cs) work)) b)
        go (infinite c s f) = absurd (four (ap asked_number (sym e ∙ f)))
        go (passes c s f) = absurd (not_both f e)

pub words_late : (ps : List Float) (cs work : List ℕ) (n : ℕ) → (leb 1 n && leb n 3) ≡ false → cleared (needed ps cs) work ≡ work_after n ps cs work
words_late ps cs work n b = sym (ap (λ (t : Bool). cond t work (cleared (needed ps cs) work)) b)

-- what is told by questions 1 to 3
module _ {ps : List Float} {cs ls work : List ℕ} {asked : Asked} (t : FirstThree ps cs ls work asked) where
  three-refuse : {why : Refusal} → asked ≡ Err why → lent_questions ps cs ls work ≡ Err why
  three-refuse e = t.answer ∙ ap (λ (a : Asked). and_then a (ask (every is_finite ps) NotFinite (Ok tt))) e

  pub three-refused : {why : Refusal} → asked ≡ Err why → Lends ps cs ls work work (Err why)
  three-refused {why} e =
      let few : refusal_number why ≤ 3 = omega (arith, t.early, ap asked_number e) in
      record { answer = sym (three-refuse e); words = words_early ps cs ls work (three-refuse e) (λ four. omega arith) }

  pub four-asked : {d : Bool} → asked ≡ Ok tt → every is_finite ps ≡ d → lent_questions ps cs ls work ≡ ask d NotFinite (Ok tt)
  four-asked e f = t.answer ∙ (λ i. and_then (e i) (ask (f i) NotFinite (Ok tt)))

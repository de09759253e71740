-- The questions with which improving and editing go on from 4: what they come to by the tests, and what the stages of the code make of it. p is the number of points.
use Prim.Native.Nat.{ℕ, ◌/◌, ◌%◌}
use native.Mathlib.Omega.{arith}
use mathlib.Core.Path.{◌≡◌, refl, sym, ap, ◌∙◌}
use mathlib.Core.Bool.{Bool, true, false, ◌&&◌}
use mathlib.Core.List.{List, ◌++◌}
use lib.Dec.{leb, ltb}
use lib.ListN.{length, drop, replicate}
use lib.Ieee.{Float}
use borrow.Author.Tests.{leb-true, ltb-true}
use Rattle.surface.specs.Triangle.{triangles}
use Rattle.surface.specs.Closed.{Closed}
use Rattle.surface.specs.Check.{differ?, every}
use Rattle.surface.specs.Finding.{finding}
use Rattle.surface.specs.declared.Finding.{Finding}
use Rattle.surface.specs.declared.Finding.TheVariants as finds
use Rattle.surface.proofs.Findings.{finding-closed}
use Rattle.halfedges.proofs.Whole.{differ_of, differing_of}
use Rattle.closing.specs.Closing.{Lent}
use Rattle.closing.specs.Stages.{Told}
use Rattle.closing.proofs.Whole.{far_clear}
use Rattle.questions.specs.Rules.{distinct?}
use Rattle.questions.specs.Refusal.{Asked, asked_number, on_finding}
use Rattle.questions.specs.Questions.{ask, and_then, needed, lent_questions, known?, listed?, unopposed?, further_questions, surface_questions, cleared, lent_words, Lends, Admits}
use Rattle.questions.specs.Stages.{Sized, Listed, BeforeRules, Further}
use Rattle.questions.specs.declared.Refusal.{Refusal}
use Rattle.questions.specs.declared.Refusal.TheVariants.{CornerMissing, Label, SameCorner, OpposedLabels, SameTriangle}
use Rattle.std.specs.Prelude.{Ok, Err}
use Rattle.surface.proofs.All.{all-at}
use Rattle.questions.proofs.Rules.{differ?_iff, distinct?_iff}
use Rattle.questions.proofs.Counted.{Counted, not_both, words_late}

-- what is not true is false
pub not_so : (b : Bool) → (b ≡ true → ⊥) → b ≡ false
not_so true n = absurd (n refl)
not_so false n = refl

-- rule (a), as it was told
pub told-differ : (cs : List ℕ) (r : Bool) → length cs % 3 ≡ 0 → Told cs r → every differ? (triangles cs) ≡ r
told-differ cs true h t = (differ?_iff (triangles cs)).1 (differ_of cs h (t.yea refl))
told-differ cs false h t = not_so _ (λ e. t.nay refl (differing_of cs h ((differ?_iff (triangles cs)).0 e)))

-- only a closed surface passes in question 7's turn
pub found_passed : (f : Finding) → on_finding f ≡ Ok tt → f ≡ finds.Closed
found_passed finds.Closed e = refl
found_passed (finds.Repeated u v) e = absurd (not_both e refl)
found_passed (finds.Lone u v) e = absurd (not_both e refl)
found_passed (finds.Split v) e = absurd (not_both e refl)

module _ (p : ℕ) (cs ls : List ℕ) where
  -- the questions before rules (b) to (d)
  abbrev pub before : Asked
  before = ask (known? ls) Label (ask (listed? p cs) CornerMissing (ask (every differ? (triangles cs)) SameCorner (ask (unopposed? cs ls) OpposedLabels (Ok tt))))

  by_before : {a b c d : Bool} → known? ls ≡ a → listed? p cs ≡ b → every differ? (triangles cs) ≡ c → unopposed? cs ls ≡ d → before ≡ ask a Label (ask b CornerMissing (ask c SameCorner (ask d OpposedLabels (Ok tt))))
  by_before k l m n = λ i. ask (k i) Label (ask (l i) CornerMissing (ask (m i) SameCorner (ask (n i) OpposedLabels (Ok tt))))

  pub by-further : {a b c d f : Bool} {r : Asked} → known? ls ≡ a → listed? p cs ≡ b → every differ? (triangles cs) ≡ c → unopposed? cs ls ≡ d → on_finding (finding (triangles cs)) ≡ r → distinct? (triangles cs) ≡ f
      → further_questions p cs ls ≡ ask a Label (ask b CornerMissing (ask c SameCorner (ask d OpposedLabels (and_then r (ask f SameTriangle (Ok tt))))))
  unfolding further_questions
  by-further k l m n r d = λ i. ask (k i) Label (ask (l i) CornerMissing (ask (m i) SameCorner (ask (n i) OpposedLabels (and_then (r i) (ask (d i) SameTriangle (Ok tt))))))

  pub unknown : known? ls ≡ false → Err Label ≡ before
  unknown k = sym (by_before k refl refl refl)

  module _ (k : known? ls ≡ true) where
    pub unlisted : listed? p cs ≡ false → Err CornerMissing ≡ before
    unlisted l = sym (by_before k l refl refl)

    module _ (l : listed? p cs ≡ true) where
      pub not_differ : every differ? (triangles cs) ≡ false → Err SameCorner ≡ before
      not_differ m = sym (by_before k l m refl)

      pub agree_asked : every differ? (triangles cs) ≡ true → {d : Bool} → unopposed? cs ls ≡ d → ask d OpposedLabels (Ok tt) ≡ before
      agree_asked m n = sym (by_before k l m n)

      pub listed : {w : List ℕ} → Sized cs ls p w → Listed cs ls p w
      listed s = record {
        sized = s;
        known = λ i h. leb-true _ 7 (all-at (λ (x : ℕ). leb x 7) 0 ls k i h);
        below = λ i h. ltb-true _ p (all-at (λ (x : ℕ). ltb x p) 0 cs l i h);
      }

  -- all four are answered by "yes"
  pub record Fit : Type 0 where
    pub known : known? ls ≡ true
    pub listed : listed? p cs ≡ true
    pub differ : every differ? (triangles cs) ≡ true
    pub agree : unopposed? cs ls ≡ true

  pub data Before : Type 0 where
    stopped : (why : Refusal) → before ≡ Err why → before ≡ further_questions p cs ls → Before
    passed : before ≡ Ok tt → Fit → Before

  pub asked : Before
  asked = go (known? ls) refl (listed? p cs) refl (every differ? (triangles cs)) refl (unopposed? cs ls) refl
    where
      go : (a : Bool) → known? ls ≡ a → (b : Bool) → listed? p cs ≡ b → (c : Bool) → every differ? (triangles cs) ≡ c → (d : Bool) → unopposed? cs ls ≡ d → Before
      go false k b l c m d n = let e = by_before k l m n in stopped Label e (e ∙ sym (by-further k l m n refl refl))
      go true k false l c m d n = let e = by_before k l m n in stopped CornerMissing e (e ∙ sym (by-further k l m n refl refl))
      go true k true l false m d n = let e = by_before k l m n in stopped SameCorner e (e ∙ sym (by-further k l m n refl refl))
      go true k true l true m false n = let e = by_before k l m n in stopped OpposedLabels e (e ∙ sym (by-further k l m n refl refl))
      go true k true l true m true n = passed (by_before k l m n) (record { known = k; listed = l; differ = m; agree = n })

  pub before_stops : {why : Refusal} → Err why ≡ before → Err why ≡ further_questions p cs ls
  before_stops {why} e = go asked
    where
      go : Before → Err why ≡ further_questions p cs ls
      go (stopped y f q) = e ∙ q
      go (passed f r) = absurd (not_both f (sym e))

  pub before-fit : before ≡ Ok tt → Fit
  before-fit e = go asked
    where
      go : Before → Fit
      go (stopped y f q) = absurd (not_both e f)
      go (passed f r) = r

  -- and then the rules
  module _ (r : Fit) where
    pub lent : {w : List ℕ} → Sized cs ls p w → Lent cs p w
    lent s = record { thirds = s.thirds; few = s.few; points = s.points; below = (listed r.known r.listed s).below; room = s.room }

    pub rules : {f : Bool} {a : Asked} → on_finding (finding (triangles cs)) ≡ a → distinct? (triangles cs) ≡ f → further_questions p cs ls ≡ and_then a (ask f SameTriangle (Ok tt))
    rules x y = by-further r.known r.listed r.differ r.agree x y

    pub closed-passed : Closed (triangles cs) → (Ok tt) ≡ further_questions p cs ls
    closed-passed k = sym (rules (ap on_finding ((finding-closed (triangles cs)).1 (record { paired = k.paired; ringed = k.ringed }))) ((distinct?_iff (triangles cs)).1 k.distinct))

    pub open_found : {why : Refusal} → on_finding (finding (triangles cs)) ≡ Err why → Err why ≡ further_questions p cs ls
    open_found e = sym (rules e refl)

    pub twice_twelve : on_finding (finding (triangles cs)) ≡ Ok tt → (Closed (triangles cs) → ⊥) → Err SameTriangle ≡ further_questions p cs ls
    twice_twelve e n =
        let k = (finding-closed (triangles cs)).0 (found_passed _ e) in
        sym (rules e (not_so _ (λ d. n (record {
          differ = (differ?_iff (triangles cs)).0 r.differ;
          paired = k.paired;
          ringed = k.ringed;
          distinct = (distinct?_iff (triangles cs)).0 d;
        }))))

-- none of these numbers is 1, 2 or 3
further_late : (p : ℕ) (cs ls : List ℕ) → (leb 1 (asked_number (further_questions p cs ls)) && leb (asked_number (further_questions p cs ls)) 3) ≡ false
further_late p cs ls =
    ap (λ (a : Asked). leb 1 (asked_number a) && leb (asked_number a) 3) (by-further p cs ls refl refl refl refl refl refl)
    ∙ go (known? ls) (listed? p cs) (every differ? (triangles cs)) (unopposed? cs ls) (finding (triangles cs)) (distinct? (triangles cs))
  where
    go : (a b c d : Bool) (x : Finding) (f : Bool)
        → (leb 1 (asked_number (ask a Label (ask b CornerMissing (ask c SameCorner (ask d OpposedLabels (and_then (on_finding x) (ask f SameTriangle (Ok tt)))))))) && leb (asked_number (ask a Label (ask b CornerMissing (ask c SameCorner (ask d OpposedLabels (and_then (on_finding x) (ask f SameTriangle (Ok tt)))))))) 3) ≡ false
    go false b c d x f = refl
    go true false c d x f = refl
    go true true false d x f = refl
    go true true true false x f = refl
    go true true true true (finds.Repeated u v) f = refl
    go true true true true (finds.Lone u v) f = refl
    go true true true true (finds.Split v) f = refl
    go true true true true finds.Closed false = refl
    go true true true true finds.Closed true = refl

-- the questions before the rules are passed
pub fit_of : {p : ℕ} {cs ls w w' : List ℕ} {a : Asked} → BeforeRules cs ls p w w' a → a ≡ Ok tt → Fit p cs ls
fit_of {p = p} {cs = cs} {ls = ls} b e = before-fit p cs ls (sym b.answer ∙ e)

-- words that are cleared again, or after others were written in front of n
pub again : (n : ℕ) (a b c : List ℕ) → drop n b ≡ drop n a → c ≡ cleared n b → c ≡ cleared n a
again n a b c e h = h ∙ ap (λ (t : List ℕ). replicate n 0 ++ t) e

pub again-twice : (n : ℕ) (a b c d : List ℕ) → drop n b ≡ drop n a → c ≡ cleared n b → d ≡ cleared n c → d ≡ cleared n a
again-twice n a b c d e f g = again n a c d (far_clear n c b f ∙ e) g

-- as many words are lent as before
pub sized-again : {cs ls w v : List ℕ} {p : ℕ} → length v ≡ length w → Sized cs ls p w → Sized cs ls p v
sized-again e g = record { thirds = g.thirds; few = g.few; labelled = g.labelled; points = g.points; room = omega (arith, g.room) }

-- ---- the whole

module _ (ps : List Float) (cs ls work : List ℕ) where
  pub by_first : {a : Asked} → lent_questions ps cs ls work ≡ a → surface_questions ps cs ls work ≡ and_then a (further_questions (length ps / 3) cs ls)
  unfolding surface_questions
  by_first e = ap (λ (a : Asked). and_then a (further_questions (length ps / 3) cs ls)) e

  pub sized : Counted ps cs ls work → Sized cs ls (length ps / 3) work
  sized c = record { thirds = c.corners; few = omega (arith, c.corners, c.few-triangles); labelled = c.labels; points = c.few-points; room = c.room }

  pub after-four : {work' work'' : List ℕ} {a b : Asked} → Lends ps cs ls work work' a → a ≡ Ok tt → Further cs ls (length ps / 3) work' work'' b → Admits ps cs ls work work'' b
  after-four {a = a} {b = b} l e h = record {
    answer = h.answer ∙ sym (by_first (sym l.answer ∙ e));
    words = h.words ∙ ap (cleared (needed ps cs)) (l.words ∙ ap (λ (c : Asked). lent_words c ps cs work) e) ∙ words_late ps cs work (asked_number b) (ap (λ (c : Asked). leb 1 (asked_number c) && leb (asked_number c) 3) h.answer ∙ further_late (length ps / 3) cs ls);
  }

  pub at_first : {work' : List ℕ} {a : Asked} {why : Refusal} → Lends ps cs ls work work' a → a ≡ Err why → Admits ps cs ls work work' (Err why)
  at_first h e = record { answer = sym (by_first (sym h.answer ∙ e)); words = h.words ∙ ap (λ (b : Asked). lent_words b ps cs work) e }

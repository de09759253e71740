-- A corner more: against one probe's best, against each probe's in turn, and from corner to corner.
use Prim.Native.Nat.{ℕ, ◌+◌, ◌/◌, ◌≤◌, ◌<◌}
use mathlib.Core.Path.{◌≡◌, refl, sym, ap, ◌∙◌, subst}
use mathlib.Core.Logic.{◌⊎◌, inl, inr}
use mathlib.Core.Bool.{Bool, true, false, not, cond}
use mathlib.Core.List.{List}
use native.Mathlib.Nat.{eq-or-lt_of_le}
use native.Mathlib.Numerals.{add-one}
use native.Mathlib.Omega.{arith}
use lib.Dec.{leb, ltb, lit<}
use borrow.Author.Tests.{leb-true, leb-false, lt-ltb, le-ltb, eq-eqb, ne_eqb}
use lib.IntN.{pos}
use lib.ListN.{length, get_or, set, length-set}
use lib.Seq.{get_or-set_same, get_or-set_other}
use lib.Ieee.{Float, le}
use Rattle.std.specs.Prelude.{Option, None, Some}
use Rattle.halfedges.specs.Place.{at}
use Rattle.rounding.specs.Fraction.{Is}
use Rattle.rounding.proofs.Compared.{le_numbers}
use Rattle.units.specs.Units.{units_at}
use Rattle.nearest.specs.declared.Candidate.{Candidate}
use Rattle.nearest.specs.Nearest.{apart, Best, nobody, found, closer, best}
use Rattle.nearest.specs.Stages.{has_head, best_of, closer_of, considered, BestKept, Laid, BestsKept}

-- ---- one probe

kept-closer : (b : Best) (o : Option Candidate) → BestKept b o → (v n : ℕ) (d : Float) → Is d (pos n) 1048576 → BestKept (closer b v n) (closer_of o v d)
kept-closer nobody None k v n d i = record { named = refl; far = i }
kept-closer nobody (Some c) k v n d i = absurd k
kept-closer (found w m) None k v n d i = absurd k
kept-closer (found w m) (Some c) k v n d i =
    subst (λ (t : Bool). BestKept (cond (ltb n m) (found v n) (found w m)) (cond t (Some c) (Some (record { corner = v; distance = d })))) (sym (le_numbers (lit< tt) k.far i)) (go (leb m n) refl)
  where
    go : (t : Bool) → leb m n ≡ t → BestKept (cond (ltb n m) (found v n) (found w m)) (cond t (Some c) (Some (record { corner = v; distance = d })))
    go true p = subst (λ (t : Bool). BestKept (cond t (found v n) (found w m)) (Some c)) (sym (le-ltb n m (leb-true m n p))) k
    go false p = subst (λ (t : Bool). BestKept (cond t (found v n) (found w m)) (Some (record { corner = v; distance = d }))) (sym (lt-ltb n m (leb-false m n p))) (record { named = refl; far = i })

-- ---- a place of a list that is set or not

module _ {A : Type 0} (l : List A) (i : ℕ) (x d : A) where
  set_here : (b : Bool) → i < length l → get_or (cond b l (set l i x)) i d ≡ cond b (get_or l i d) x
  set_here true h = refl
  set_here false h = get_or-set_same l i x d h

  set_there : (b : Bool) (j : ℕ) → (j ≡ i → ⊥) → get_or (cond b l (set l i x)) j d ≡ get_or l j d
  set_there true j n = refl
  set_there false j n = get_or-set_other l i j x d n

  set_long : (b : Bool) → length (cond b l (set l i x)) ≡ length l
  set_long true = refl
  set_long false = length-set l i x

-- ---- the place of a probe, and the others

module _ (bests : List (Option Candidate)) (i v : ℕ) (d : Float) where
  here-considered : (o : Option Candidate) → get_or bests i None ≡ o → i < length bests → get_or (considered o v d i bests) i None ≡ closer_of o v d
  here-considered None e h = get_or-set_same bests i _ None h
  here-considered (Some c) e h =
      set_here bests i (Some (record { corner = v; distance = d })) None (le c.distance d) h
      ∙ ap (λ (o : Option Candidate). cond (le c.distance d) o (Some (record { corner = v; distance = d }))) e

  there-considered : (o : Option Candidate) (j : ℕ) → (j ≡ i → ⊥) → get_or (considered o v d i bests) j None ≡ get_or bests j None
  there-considered None j n = get_or-set_other bests i j _ None n
  there-considered (Some c) j n = set_there bests i _ None (le c.distance d) j n

  considered-long : (o : Option Candidate) → length (considered o v d i bests) ≡ length bests
  considered-long None = length-set bests i _
  considered-long (Some c) = set_long bests i _ None (le c.distance d)

-- ---- each probe in turn

module _ (points : List Float) (work : List ℕ) (probes : List Float) (v : ℕ) where
  -- the best of the corners below the next
  after : (i : ℕ) {t : Bool} → has_head work v ≡ t
      → best_of points work probes i (v + 1) ≡ cond t (closer (best_of points work probes i v) v (apart (units_at points v) (units_at probes i))) (best_of points work probes i v)
  unfolding best
  after i e =
      let b = best_of points work probes i v in
      ap (best (has_head work) (λ (w : ℕ). apart (units_at points w) (units_at probes i))) (add-one v) ∙ ap (λ (t : Bool). cond t (closer b v (apart (units_at points v) (units_at probes i))) b) e

  -- a corner that is not in use
  pub passed_over : (bests : List (Option Candidate)) → at work v ≡ 0 → BestsKept points work probes v bests → BestsKept points work probes (v + 1) bests
  passed_over bests e k i h = subst (λ (b : Best). BestKept b (get_or bests i None)) (sym (after i (ap not (eq-eqb (at work v) 0 e)))) (k i h)

  -- the probes below i have met the corner v
  pub record Comparing (bests₀ bests : List (Option Candidate)) (i : ℕ) : Type 0 where
    pub laid : Laid points work probes bests₀
    pub listed : v < length points / 3
    pub head : at work v ≡ 0 → ⊥
    pub long : length bests ≡ length bests₀
    pub met : (j : ℕ) → j < i → j < length probes / 3 → BestKept (best_of points work probes j (v + 1)) (get_or bests j None)
    pub unmet : (j : ℕ) → i ≤ j → j < length probes / 3 → BestKept (best_of points work probes j v) (get_or bests j None)

  pub none-met : (bests : List (Option Candidate)) → Laid points work probes bests → v < length points / 3 → (at work v ≡ 0 → ⊥) → BestsKept points work probes v bests → Comparing bests bests 0
  none-met bests g l n k = record { laid = g; listed = l; head = n; long = refl; met = λ j h m. absurd (omega arith); unmet = λ j h m. k j m }

  module _ {bests₀ bests : List (Option Candidate)} {i : ℕ} (c : Comparing bests₀ bests i) (h : i < length probes / 3) where
    pub place-there : i < length bests
    place-there = omega (arith, c.long, c.laid.places)

    pub one-met : (d : Float) → Is d (pos (apart (units_at points v) (units_at probes i))) 1048576 → {bests' : List (Option Candidate)} → bests' ≡ considered (get_or bests i None) v d i bests → Comparing bests₀ bests' (i + 1)
    one-met d is {bests'} e = record {
      laid = c.laid;
      listed = c.listed;
      head = c.head;
      long = ap length e ∙ considered-long bests i v d (get_or bests i None) ∙ c.long;
      met = λ j l m. go j m (eq-or-lt_of_le (most_i j l));
      unmet = λ j l m. there (best_of points work probes j v) j (λ q. omega arith) (c.unmet j (omega arith) m);
    }
      where
        most_i : (j : ℕ) → j < i + 1 → j ≤ i
        most_i j l = omega arith

        there : (b : Best) (j : ℕ) → (j ≡ i → ⊥) → BestKept b (get_or bests j None) → BestKept b (get_or bests' j None)
        there b j n k = subst (BestKept b) (sym (ap (λ (l : List (Option Candidate)). get_or l j None) e ∙ there-considered bests i v d (get_or bests i None) j n)) k

        here : BestKept (best_of points work probes i (v + 1)) (get_or bests' i None)
        here =
            subst (λ (b : Best). BestKept b (get_or bests' i None)) (sym (after i (ap not (ne_eqb (at work v) 0 c.head))))
            (subst (BestKept (closer (best_of points work probes i v) v (apart (units_at points v) (units_at probes i))))
            (sym (ap (λ (l : List (Option Candidate)). get_or l i None) e ∙ here-considered bests i v d (get_or bests i None) refl place-there))
            (kept-closer (best_of points work probes i v) (get_or bests i None) (c.unmet i (omega arith) h) v (apart (units_at points v) (units_at probes i)) d is))

        go : (j : ℕ) → j < length probes / 3 → (j ≡ i) ⊎ (j < i) → BestKept (best_of points work probes j (v + 1)) (get_or bests' j None)
        go j m (inl q) = subst (λ (k : ℕ). BestKept (best_of points work probes k (v + 1)) (get_or bests' k None)) (sym q) here
        go j m (inr l) = there (best_of points work probes j (v + 1)) j (λ q. omega arith) (c.met j l m)

  pub all-met : {bests₀ bests : List (Option Candidate)} {i : ℕ} → Comparing bests₀ bests i → length probes / 3 ≤ i → BestsKept points work probes (v + 1) bests
  all-met c h j m = c.met j (omega arith) m

-- ---- from corner to corner

pub laid_again : {points : List Float} {work : List ℕ} {probes : List Float} {bests bests' : List (Option Candidate)} → length bests' ≡ length bests → Laid points work probes bests → Laid points work probes bests'
laid_again p g = record { whole-points = g.whole-points; whole_probes = g.whole_probes; words = g.words; places = omega (arith, g.places) }

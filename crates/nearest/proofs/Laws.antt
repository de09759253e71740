-- The laws of `specs/Laws`: each place has the nearest corner of its probe, which is but one, and the one that the probe would get alone. Assumes nothing.
use Prim.Native.Nat.{ℕ, zero, suc, ◌+◌, ◌-◌, ◌*◌, ◌/◌, ◌≤◌, ◌<◌}
use mathlib.Core.Path.{◌≡◌, refl, sym, ap, ◌∙◌, subst, subst₂}
use mathlib.Core.List.{List, [], ◌∷◌, ◌++◌}
use native.Mathlib.Omega.{arith}
use lib.Dec.{lit≤}
use lib.ListN.{length, get_or, take, drop, replicate}
use lib.Ieee.{Float, nan}
use Rattle.surface.specs.Triangle.{triangles}
use Rattle.surface.specs.Closed.{around}
use Rattle.halfedges.specs.Place.{at}
use Rattle.closing.specs.Closing.{Lent}
use Rattle.units.specs.Units.{WholePoint, AllOnUnits, units_at}
use Rattle.checking.proofs.Turns.{one_more}
use Rattle.nearest.specs.Nearest.{apart, used?, Best, nobody, found, best, nearest_to, corner_of, distance_of, places, answered}
use Rattle.nearest.specs.Call.{Askable, nearest_questions}
use Rattle.nearest.specs.Laws.{Closest, corner_at, distance_at, Answers, NearestLaws}
use Rattle.nearest.proofs.Best.{Outcome, none, one, outcome}
use Rattle.nearest.proofs.Use.{used_iff, first-used, on_list}
use Rattle.nearest.proofs.Places.{at_place, past-places}
use Rattle.nearest.proofs.Questions.{askable_iff, at_end, at-later, admitted}
use Rattle.std.specs.Prelude.{Ok}

-- ---- one probe

module _ (points : List Float) (corners work : List ℕ) (l : Lent corners (length points / 3) work) where
  is-closest : 0 < length corners → (probe : WholePoint) → Closest points corners probe (corner_of (nearest_to points corners probe)) (distance_of (nearest_to points corners probe))
  is-closest some probe = go (nearest_to points corners probe) (outcome (used? (triangles corners)) (λ (v : ℕ). apart (units_at points v) probe) (length points / 3))
    where
      go : (b : Best) → Outcome (used? (triangles corners)) (λ (v : ℕ). apart (units_at points v) probe) (length points / 3) b → Closest points corners probe (corner_of b) (distance_of b)
      go nobody (none h) =
          let u = first-used corners l.thirds some in
          absurd (h (at corners 0) (l.below 0 some) ((used_iff (triangles corners) (at corners 0)).1 u))
      go (found v d) (one h) = record {
        in_use = (used_iff (triangles corners) v).0 h.in_use;
        distance = h.is;
        least = λ w u. h.least w (on_list corners l.thirds (length points / 3) l.below w u) ((used_iff (triangles corners) w).1 u);
        first = λ w u e. h.first w (on_list corners l.thirds (length points / 3) l.below w u) ((used_iff (triangles corners) w).1 u) e;
      }

only : (points : List Float) (corners : List ℕ) (probe : WholePoint) (v d v' d' : ℕ) → Closest points corners probe v d → Closest points corners probe v' d' → (v ≡ v') × (d ≡ d')
only points corners probe v d v' d' a b =
    let x = a.least v' b.in_use in
    let y = b.least v a.in_use in
    let s : d ≡ d' = omega (arith, a.distance, b.distance) in
    let p = a.first v' b.in_use (sym b.distance ∙ sym s) in
    let q = b.first v a.in_use (sym a.distance ∙ s) in
    (omega arith, s)

none-used : (distance : ℕ → ℕ) (n : ℕ) → best (used? []) distance n ≡ nobody
unfolding best used? around
none-used distance zero = refl
none-used distance (suc n) = none-used distance n

-- ---- at its place

module _ (points : List Float) (corners : List ℕ) (probes : List Float) (answers : List ℕ) (a : Answers points corners probes answers) where
  abbrev nearest_for : ℕ → Best
  nearest_for i = nearest_to points corners (units_at probes i)

  spread : answers ≡ places (λ (i : ℕ). corner_of (nearest_for i)) (λ (i : ℕ). distance_of (nearest_for i)) (length probes / 3) ++ replicate (length a.answers - 2 * (length probes / 3)) 0
  unfolding answered
  spread = a.places

  stands : (i : ℕ) → i < length probes / 3 → (corner_at answers i ≡ corner_of (nearest_for i)) × (distance_at answers i ≡ distance_of (nearest_for i))
  stands i h =
      subst (λ (l : List ℕ). (corner_at l i ≡ corner_of (nearest_for i)) × (distance_at l i ≡ distance_of (nearest_for i))) (sym spread)
      (at_place (λ (k : ℕ). corner_of (nearest_for k)) (λ (k : ℕ). distance_of (nearest_for k)) (length probes / 3) (replicate (length a.answers - 2 * (length probes / 3)) 0) i h)

  closest : 0 < length corners → (i : ℕ) → i < length probes / 3 → Closest points corners (units_at probes i) (corner_at answers i) (distance_at answers i)
  closest some i h =
      let s = stands i h in
      let g = admitted points corners a.labels a.work probes (length a.answers) a.passed in
      subst₂ (λ (v d : ℕ). Closest points corners (units_at probes i) v d) (sym s.0) (sym s.1) (is-closest points corners a.work g.lent some (units_at probes i))

  behind : (j : ℕ) → 2 * (length probes / 3) ≤ j → get_or answers j 0 ≡ 0
  behind j h =
      let n = length probes / 3 in
      let e : 2 * n + (j - 2 * n) ≡ j = omega arith in
      ap (λ (k : ℕ). get_or answers k 0) (sym e)
      ∙ ap (λ (l : List ℕ). get_or l (2 * n + (j - 2 * n)) 0) spread
      ∙ past-places (λ (k : ℕ). corner_of (nearest_for k)) (λ (k : ℕ). distance_of (nearest_for k)) n (replicate (length a.answers - 2 * n) 0) (j - 2 * n)
      ∙ zeros (length a.answers - 2 * n) (j - 2 * n)
    where
      zeros : (n k : ℕ) → get_or {A = ℕ} (replicate n 0) k 0 ≡ 0
      zeros zero k = refl
      zeros (suc n) zero = refl
      zeros (suc n) (suc k) = zeros n k

without : (points : List Float) (corners : List ℕ) (probes : List Float) (answers : List ℕ) → Answers points corners probes answers → length corners ≡ 0
    → (i : ℕ) → i < length probes / 3 → (corner_at answers i ≡ 4294967295) × (distance_at answers i ≡ 0)
unfolding triangles
without points [] probes answers a e i h =
    let s = stands points [] probes answers a i h in
    let b = none-used (λ (v : ℕ). apart (units_at points v) (units_at probes i)) (length points / 3) in
    (s.0 ∙ ap corner_of b, s.1 ∙ ap distance_of b)
without points (x ∷ l) probes answers a e i h = absurd (omega arith)

-- ---- alone

module _ (probes : List Float) (i : ℕ) (h : i < length probes / 3) where
  three : take 3 (drop (3 * i) probes) ≡ get_or probes (3 * i) nan ∷ get_or probes (3 * i + 1) nan ∷ get_or probes (3 * i + 2) nan ∷ []
  three =
      ap (take 3)
      (one_more probes nan (3 * i) (3 * i + 1) (omega arith) (omega arith) ∙ ap (λ (l : List Float). get_or probes (3 * i) nan ∷ l)
      (one_more probes nan (3 * i + 1) (3 * i + 2) (omega arith) (omega arith) ∙ ap (λ (l : List Float). get_or probes (3 * i + 1) nan ∷ l) (one_more probes nan (3 * i + 2) (3 * i + 3) (omega arith) (omega arith))))

  same_probe : units_at (take 3 (drop (3 * i) probes)) 0 ≡ units_at probes i
  same_probe = ap (λ (l : List Float). units_at l 0) three

  single : length (take 3 (drop (3 * i) probes)) / 3 ≡ 1
  single = ap (λ (l : List Float). length l / 3) three

alone : (points : List Float) (corners : List ℕ) (probes : List Float) (answers answer : List ℕ) (i : ℕ) → i < length probes / 3
    → Answers points corners probes answers → Answers points corners (take 3 (drop (3 * i) probes)) answer → (corner_at answers i ≡ corner_at answer 0) × (distance_at answers i ≡ distance_at answer 0)
alone points corners probes answers answer i h a b =
    let s = stands points corners probes answers a i h in
    let t = stands points corners (take 3 (drop (3 * i) probes)) answer b 0 (let e = single probes i h in omega arith) in
    let e = ap (nearest_to points corners) (same_probe probes i h) in
    (s.0 ∙ sym (t.0 ∙ ap corner_of e), s.1 ∙ sym (t.1 ∙ ap distance_of e))

single_askable : (points probes : List Float) (words words' : ℕ) → Askable points probes words → (i : ℕ) → i < length probes / 3 → 2 ≤ words' → Askable points (take 3 (drop (3 * i) probes)) words'
single_askable points probes words words' a i h w =
    subst (λ (l : List Float). Askable points l words') (sym (three probes i h))
    (record { threes = refl; few = lit≤ tt; places = omega arith; whole_probes = coordinate; whole-points = a.whole-points })
  where
    coordinate : AllOnUnits (get_or probes (3 * i) nan ∷ get_or probes (3 * i + 1) nan ∷ get_or probes (3 * i + 2) nan ∷ [])
    coordinate zero l = a.whole_probes (3 * i) (omega arith)
    coordinate (suc zero) l = a.whole_probes (3 * i + 1) (omega arith)
    coordinate (suc (suc zero)) l = a.whole_probes (3 * i + 2) (omega arith)
    coordinate (suc (suc (suc j))) l = absurd (omega arith)

alone-passes : (points : List Float) (corners labels work : List ℕ) (probes : List Float) (words words' : ℕ) → nearest_questions points corners labels work probes words ≡ Ok tt
    → (i : ℕ) → i < length probes / 3 → 2 ≤ words' → nearest_questions points corners labels work (take 3 (drop (3 * i) probes)) words' ≡ Ok tt
alone-passes points corners labels work probes words words' e i h w =
    let g = admitted points corners labels work probes words e in
    let l = take 3 (drop (3 * i) probes) in
    sym (at-later points corners labels work l words' g.first (sym (at_end points corners l words' g.listed ((askable_iff points l words').1 (single_askable points probes words words' g.askable i h w)))))

-- what has the answers of a call has their laws
pub nearest-laws_of : (Says : List Float → List ℕ → List Float → List ℕ → Type 0) → ((points : List Float) (corners : List ℕ) (probes : List Float) (answers : List ℕ) → Says points corners probes answers → Answers points corners probes answers)
    → NearestLaws Says
nearest-laws_of Says from = record {
  closest = λ points corners probes answers a. closest points corners probes answers (from points corners probes answers a);
  only = only;
  no_triangles = λ points corners probes answers a. without points corners probes answers (from points corners probes answers a);
  alone = λ points corners probes answers answer i h a b. alone points corners probes answers answer i h (from points corners probes answers a) (from points corners (take 3 (drop (3 * i) probes)) answer b);
  alone-passes = alone-passes;
  behind = λ points corners probes answers a. behind points corners probes answers (from points corners probes answers a);
}

pub nearest-laws : NearestLaws Answers
nearest-laws = nearest-laws_of Answers (λ points corners probes answers a. a)

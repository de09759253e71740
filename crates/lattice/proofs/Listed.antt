-- `edges-listed`: the list of crossed edges holds every crossed edge exactly once and no other, and it rises by node, step and label; `lattice-listed`: so does that of a sampled field; `listed-crossed`: what is listed is crossed. Assumes nothing.
use mathlib.Core.Path.{◌≡◌, refl, sym, ap, ◌∙◌, subst}
use mathlib.Core.Logic.{◌⊎◌, inl, inr}
use mathlib.Core.Bool.{Bool, true, false, not, cond, true≢false, false≢true}
use mathlib.Core.List.{List, [], ◌∷◌, ◌++◌}
use Prim.Native.Nat.{ℕ, zero, suc, ◌+◌, ◌*◌, ◌<◌, ◌≤◌}
use native.Mathlib.Nat.{eq-or-lt_of_le, zero-add}
use native.Mathlib.Omega.{arith}
use lib.Dec.{T, ltb, ltb→lt, nltb→le}
use lib.ListN.{length, get_or, length-append, get_or-append}
use lib.Seq.{get_or_at}
use lib.Ieee.{Float}
use Rattle.lattice.specs.Node.{per_side, cube}
use Rattle.lattice.specs.Edges.{Edge, crossed_edge?, edge_at, crossed_among, crossed_edges}
use Rattle.lattice.specs.Laws.{CrossedEdge, same_edge?, times_listed, EdgeBefore, no_edge, ListsCrossed}
use Rattle.lattice.specs.Sample.{SampledField, lower_level, upper_level, lattice_values, lattice_edges}
use Rattle.lattice.proofs.Noting.{among-few}
use Rattle.lattice.proofs.Crossing.{crossed-says, says-crossed, same-edge, same_itself, turn, turn_of, at_turn, turn_before}

-- ---- how often

pub often_append : (e : Edge) (xs ys : List Edge) → times_listed e (xs ++ ys) ≡ times_listed e xs + times_listed e ys
unfolding times_listed
often_append e [] ys = sym (zero-add (times_listed e ys))
often_append e (x ∷ xs) ys =
    let h : times_listed e (xs ++ ys) ≡ times_listed e xs + times_listed e ys = often_append e xs ys in
    omega arith

-- the t-th alone, if it passes
abbrev pub alone : Bool → ℕ → List Edge
alone b t = cond b (edge_at t ∷ []) []

none-there : (e : Edge) (b : Bool) (t : ℕ) → (b ≡ true → edge_at t ≡ e → ⊥) → times_listed e (alone b t) ≡ 0
unfolding times_listed
none-there e false t h = refl
none-there e true t h = go (same_edge? e (edge_at t)) refl
  where
    go : (s : Bool) → same_edge? e (edge_at t) ≡ s → cond (same_edge? e (edge_at t)) 1 0 + 0 ≡ 0
    go true q = absurd (h refl (sym (same-edge e (edge_at t) q)))
    go false q = ap (λ (x : Bool). cond x 1 0 + 0) q

once-there : (e : Edge) (b : Bool) (t : ℕ) → b ≡ true → edge_at t ≡ e → times_listed e (alone b t) ≡ 1
unfolding times_listed
once-there e false t p h = absurd (false≢true p)
once-there e true t p h = ap (λ (x : Bool). cond x 1 0 + 0) (subst (λ (f : Edge). same_edge? e f ≡ true) (sym h) (same_itself e))

split_lt : (m i : ℕ) → (i < m) ⊎ (m ≤ i)
split_lt m i = go (ltb i m) (ltb→lt i m) (nltb→le i m)
  where
    go : (b : Bool) → (T b → i < m) → (T (not b) → m ≤ i) → (i < m) ⊎ (m ≤ i)
    go true f g = inl (f tt)
    go false f g = inr (g tt)

moved : {e e' f f' : Edge} → e ≡ e' → f ≡ f' → EdgeBefore e f → EdgeBefore e' f'
moved {e} {e'} {f} {f'} p q b = subst (λ (x : Edge). EdgeBefore x f') p (subst (λ (y : Edge). EdgeBefore e y) q b)

in_time : (a m s l : ℕ) → a < m → s < 7 → l < 2 → a * 14 + s * 2 + l < m * 14
in_time a m s l p q r = omega arith

module _ (n : ℕ) (lower upper : Float) (values : List Float) where
  passes : ℕ → Bool
  passes t = crossed_edge? n lower upper values (edge_at t)

  found : ℕ → List Edge
  found k = crossed_among n lower upper values 0 k

  one_more : (k : ℕ) → found (suc k) ≡ found k ++ alone (passes k) k
  unfolding found passes crossed_among
  one_more k = ap (λ (t : ℕ). found k ++ alone (crossed_edge? n lower upper values (edge_at t)) t) (zero-add k)

  often_more : (e : Edge) (k : ℕ) → times_listed e (found (suc k)) ≡ times_listed e (found k) + times_listed e (alone (passes k) k)
  often_more e k = ap (times_listed e) (one_more k) ∙ often_append e (found k) (alone (passes k) k)

  -- an edge that does not pass is never there
  never : (e : Edge) → (crossed_edge? n lower upper values e ≡ true → ⊥) → (k : ℕ) → times_listed e (found k) ≡ 0
  unfolding times_listed found passes crossed_among
  never e q zero = refl
  never e q (suc k) =
      let i : times_listed e (found k) ≡ 0 = never e q k in
      let a : times_listed e (alone (passes k) k) ≡ 0 = none-there e (passes k) k (λ p h. q (ap (crossed_edge? n lower upper values) (sym h) ∙ p)) in
      often_more e k ∙ omega arith

  -- one that passes is not there before its turn, and once after it
  module _ (e : Edge) (step : e.step < 7) (label : e.label < 2) (pass : crossed_edge? n lower upper values e ≡ true) where
    early : (k : ℕ) → k ≤ turn e → times_listed e (found k) ≡ 0
    unfolding times_listed found crossed_among
    early zero h = refl
    early (suc k) h =
        let i : times_listed e (found k) ≡ 0 = early k (omega arith) in
        let a : times_listed e (alone (passes k) k) ≡ 0 = none-there e (passes k) k (λ p q. apart (sym (turn_of k) ∙ ap turn q)) in
        often_more e k ∙ omega arith
      where
        apart : k ≡ turn e → ⊥
        apart q = omega arith

    late : (k : ℕ) → turn e < k → times_listed e (found k) ≡ 1
    unfolding passes
    late zero h = absurd (omega arith)
    late (suc k) h = go (λ q. late k q) (eq-or-lt_of_le h)
      where
        go : (turn e < k → times_listed e (found k) ≡ 1) → (suc (turn e) ≡ suc k) ⊎ (suc (turn e) < suc k) → times_listed e (found (suc k)) ≡ 1
        go again (inl q) =
            let t : turn e ≡ k = omega arith in
            let s : edge_at k ≡ e = ap edge_at (sym t) ∙ at_turn e step label in
            let i : times_listed e (found k) ≡ 0 = early k (omega arith) in
            let a : times_listed e (alone (passes k) k) ≡ 1 = once-there e (passes k) k (ap (crossed_edge? n lower upper values) s ∙ pass) s in
            often_more e k ∙ omega arith
        go again (inr q) =
            let i : times_listed e (found k) ≡ 1 = again (omega arith) in
            let a : times_listed e (alone (passes k) k) ≡ 0 = none-there e (passes k) k (λ p s. apart (sym (turn_of k) ∙ ap turn s)) in
            often_more e k ∙ omega arith
          where
            apart : k ≡ turn e → ⊥
            apart z = omega arith

  -- ---- the order

  -- each edge of the list had its turn
  turns : (k i : ℕ) → i < length (found k) → (t : ℕ) × (t < k) × (get_or (found k) i no_edge ≡ edge_at t)
  unfolding found crossed_among
  turns zero i h = absurd (omega arith)
  turns (suc k) i h = go (λ q. turns k i q) (passes k) refl (split_lt (length (found k)) i)
    where
      go : (i < length (found k) → (t : ℕ) × (t < k) × (get_or (found k) i no_edge ≡ edge_at t)) → (b : Bool) → passes k ≡ b → (i < length (found k)) ⊎ (length (found k) ≤ i)
          → (t : ℕ) × (t < suc k) × (get_or (found (suc k)) i no_edge ≡ edge_at t)
      go again b q (inl l) =
          let r = again l in
          (r.0, omega arith, ap (λ (x : List Edge). get_or x i no_edge) (one_more k) ∙ get_or-append (found k) (alone (passes k) k) no_edge i l ∙ r.2)
      go again true q (inr l) =
          let s : found (suc k) ≡ found k ++ (edge_at k ∷ []) = one_more k ∙ ap (λ (x : Bool). found k ++ alone x k) q in
          let m : length (found (suc k)) ≡ length (found k) + 1 = ap length s ∙ length-append (found k) (edge_at k ∷ []) in
          let p : length (found k) ≡ i = omega arith in
          (k, omega arith, ap (λ (x : List Edge). get_or x i no_edge) s ∙ get_or_at (found k) (edge_at k) [] no_edge i p)
      go again false q (inr l) =
          let s : found (suc k) ≡ found k ++ [] = one_more k ∙ ap (λ (x : Bool). found k ++ alone x k) q in
          let m : length (found (suc k)) ≡ length (found k) + 0 = ap length s ∙ length-append (found k) [] in
          absurd (omega arith)

  rises : (k i j : ℕ) → i < j → j < length (found k) → EdgeBefore (get_or (found k) i no_edge) (get_or (found k) j no_edge)
  unfolding found crossed_among
  rises zero i j l h = absurd (omega arith)
  rises (suc k) i j l h = go (λ q. rises k i j l q) (passes k) refl (split_lt (length (found k)) j)
    where
      go : (j < length (found k) → EdgeBefore (get_or (found k) i no_edge) (get_or (found k) j no_edge)) → (b : Bool) → passes k ≡ b → (j < length (found k)) ⊎ (length (found k) ≤ j)
          → EdgeBefore (get_or (found (suc k)) i no_edge) (get_or (found (suc k)) j no_edge)
      go again b q (inl m) =
          let x : get_or (found (suc k)) i no_edge ≡ get_or (found k) i no_edge = ap (λ (x : List Edge). get_or x i no_edge) (one_more k) ∙ get_or-append (found k) (alone (passes k) k) no_edge i (omega arith) in
          let y : get_or (found (suc k)) j no_edge ≡ get_or (found k) j no_edge = ap (λ (x : List Edge). get_or x j no_edge) (one_more k) ∙ get_or-append (found k) (alone (passes k) k) no_edge j m in
          moved (sym x) (sym y) (again m)
      go again true q (inr m) =
          let s : found (suc k) ≡ found k ++ (edge_at k ∷ []) = one_more k ∙ ap (λ (x : Bool). found k ++ alone x k) q in
          let c : length (found (suc k)) ≡ length (found k) + 1 = ap length s ∙ length-append (found k) (edge_at k ∷ []) in
          let p : length (found k) ≡ j = omega arith in
          let i' : i < length (found k) = omega arith in
          let r = turns k i i' in
          let x : get_or (found (suc k)) i no_edge ≡ edge_at r.0 = ap (λ (x : List Edge). get_or x i no_edge) s ∙ get_or-append (found k) (edge_at k ∷ []) no_edge i i' ∙ r.2 in
          let y : get_or (found (suc k)) j no_edge ≡ edge_at k = ap (λ (x : List Edge). get_or x j no_edge) s ∙ get_or_at (found k) (edge_at k) [] no_edge j p in
          moved (sym x) (sym y) (turn_before r.0 k r.1)
      go again false q (inr m) =
          let s : found (suc k) ≡ found k ++ [] = one_more k ∙ ap (λ (x : Bool). found k ++ alone x k) q in
          let c : length (found (suc k)) ≡ length (found k) + 0 = ap length s ∙ length-append (found k) [] in
          absurd (omega arith)

  pub edges-listed : ListsCrossed n lower upper values (crossed_edges n lower upper values)
  unfolding found
  edges-listed = record {
    once = λ e c. late e c.step c.label (says-crossed n lower upper values e c) (cube n * 14) (in_time e.node (cube n) e.step e.label c.node c.step c.label);
    no_other = λ e h. never e (λ q. h (crossed-says n lower upper values e q)) (cube n * 14);
    rising = λ i j l h. rises (cube n * 14) i j l h;
    few = among-few n lower upper values 0 (cube n * 14);
  }

pub lattice-listed : (f : SampledField) → ListsCrossed (per_side f.cells) (lower_level f) (upper_level f) (lattice_values f) (lattice_edges f)
unfolding lattice_edges
lattice-listed f = edges-listed (per_side f.cells) (lower_level f) (upper_level f) (lattice_values f)

-- ---- what is listed is crossed

often_there : (es : List Edge) (i : ℕ) → i < length es → 1 ≤ times_listed (get_or es i no_edge) es
unfolding times_listed
often_there [] i h = absurd (omega arith)
often_there (e ∷ es) zero h = subst (λ (b : Bool). 1 ≤ cond b 1 0 + times_listed e es) (sym (same_itself e)) (omega arith)
often_there (e ∷ es) (suc i) h = let q : 1 ≤ times_listed (get_or es i no_edge) es = often_there es i (omega arith) in omega arith

pub listed-crossed : {n : ℕ} {lower upper : Float} {values : List Float} {es : List Edge} → ListsCrossed n lower upper values es → (i : ℕ) → i < length es → CrossedEdge n lower upper values (get_or es i no_edge)
listed-crossed {n} {lower} {upper} {values} {es} l i h = go (crossed_edge? n lower upper values (get_or es i no_edge)) refl
  where
    go : (b : Bool) → crossed_edge? n lower upper values (get_or es i no_edge) ≡ b → CrossedEdge n lower upper values (get_or es i no_edge)
    go true q = crossed-says n lower upper values (get_or es i no_edge) q
    go false q =
        let none : times_listed (get_or es i no_edge) es ≡ 0 = l.no_other (get_or es i no_edge) (λ c. true≢false (sym (says-crossed n lower upper values (get_or es i no_edge) c) ∙ q)) in
        let some = often_there es i h in
        absurd (omega arith)

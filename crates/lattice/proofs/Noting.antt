-- Edges noted one after the other: `EdgesNoted` puts together, and what a step, a node and the whole lattice add to the list. Assumes nothing.
use mathlib.Core.Path.{◌≡◌, refl, sym, ap, ap₂, ◌∙◌, subst}
use mathlib.Core.Bool.{Bool, true, false, ◌&&◌, cond}
use mathlib.Core.List.{List, [], ◌∷◌, ◌++◌, append_assoc, append-nil}
use Prim.Native.Nat.{ℕ, zero, suc, ◌+◌, ◌*◌, ◌≤◌, ◌<◌}
use native.Mathlib.Nat.{add-zero, add-suc}
use native.Mathlib.Omega.{arith}
use lib.ListN.{length, set, length-append}
use lib.Seq.{sets, length-sets}
use lib.Ieee as Ieee
use lib.Ieee.{Float, unlike}
use borrow.Author.Tests.{lt-ltb}
use Rattle.lattice.specs.Node.{cube}
use Rattle.lattice.specs.Edges.{Edge, stays_inside, step_end, level_of, crossed_by, value_at, crossed_edge?, edge_at, crossed_among, edge_words}
use Rattle.lattice.specs.Stages.{end_or_start, EdgesNoted}
use Rattle.float.specs.Order.{is_finite}
use Rattle.surface.proofs.Bools.{join}
use Rattle.lattice.proofs.Crossing.{at_turn}
use Rattle.lattice.proofs.Stores.{sets_append, three_sets}

-- ---- three numbers to an edge

pub words_append : (xs ys : List Edge) → edge_words (xs ++ ys) ≡ edge_words xs ++ edge_words ys
unfolding edge_words
words_append [] ys = refl
words_append (x ∷ xs) ys = ap (λ (l : List ℕ). x.node ∷ x.step ∷ x.label ∷ l) (words_append xs ys)

pub words-length : (xs : List Edge) → length (edge_words xs) ≡ length xs * 3
unfolding edge_words
words-length [] = refl
words-length (x ∷ xs) =
    let h : length (edge_words xs) ≡ length xs * 3 = words-length xs in
    omega arith

-- ---- one edge, and edges behind edges

pub noted_nothing : (c : ℕ) (l : List ℕ) → EdgesNoted [] c l c l
unfolding edge_words
noted_nothing c l = record { number = omega arith; stored = refl }

pub noted-none : (b : Bool) (e : Edge) (c : ℕ) (l : List ℕ) → b ≡ false → EdgesNoted (cond b (e ∷ []) []) c l c l
noted-none b e c l q = subst (λ (x : Bool). EdgesNoted (cond x (e ∷ []) []) c l c l) (sym q) (noted_nothing c l)

pub noted_one : (b : Bool) (a d label c : ℕ) (l l₁ l₂ l₃ : List ℕ) → b ≡ true → l₁ ≡ set l (c * 3) a → l₂ ≡ set l₁ (c * 3 + 1) d → l₃ ≡ set l₂ (c * 3 + 2) label
    → EdgesNoted (cond b (record { node = a; step = d; label = label } ∷ []) []) c l (c + 1) l₃
unfolding edge_words
noted_one b a d label c l l₁ l₂ l₃ q e f g =
    subst (λ (x : Bool). EdgesNoted (cond x (record { node = a; step = d; label = label } ∷ []) []) c l (c + 1) l₃) (sym q) (record {
      number = refl;
      stored = g ∙ ap (λ (x : List ℕ). set x (c * 3 + 2) label) (f ∙ ap (λ (x : List ℕ). set x (c * 3 + 1) d) e) ∙ three_sets l (c * 3) a d label;
    })

pub noted_more : {xs ys : List Edge} {c c₁ c₂ : ℕ} {l l₁ l₂ : List ℕ} → EdgesNoted xs c l c₁ l₁ → EdgesNoted ys c₁ l₁ c₂ l₂ → EdgesNoted (xs ++ ys) c l c₂ l₂
noted_more {xs} {ys} {c} {c₁} {c₂} {l} {l₁} {l₂} p q =
    let p1 : c₁ ≡ c + length xs = p.number in
    let q1 : c₂ ≡ c₁ + length ys = q.number in
    let n : length (xs ++ ys) ≡ length xs + length ys = length-append xs ys in
    let f : length (edge_words xs) ≡ length xs * 3 = words-length xs in
    let at : c₁ * 3 ≡ c * 3 + length (edge_words xs) = omega arith in
    record {
      number = omega arith;
      stored =
          q.stored ∙ ap (λ (x : List ℕ). sets x (c₁ * 3) (edge_words ys)) p.stored ∙ ap (λ (k : ℕ). sets (sets l (c * 3) (edge_words xs)) k (edge_words ys)) at
          ∙ sets_append l (c * 3) (edge_words xs) (edge_words ys) ∙ ap (sets l (c * 3)) (sym (words_append xs ys));
    }

pub noted-same : {xs ys : List Edge} {c c₁ : ℕ} {l l₁ : List ℕ} → xs ≡ ys → EdgesNoted xs c l c₁ l₁ → EdgesNoted ys c l c₁ l₁
noted-same {xs} {ys} {c} {c₁} {l} {l₁} e p = subst (λ (x : List Edge). EdgesNoted x c l c₁ l₁) e p

pub noted-length : {xs : List Edge} {c c₁ : ℕ} {l l₁ : List ℕ} → EdgesNoted xs c l c₁ l₁ → length l₁ ≡ length l
noted-length {xs} {c} {c₁} {l} {l₁} p = ap length p.stored ∙ length-sets l (c * 3) (edge_words xs)

-- no level lies between a value and itself
none_alike : (level v : Float) → crossed_by level v v ≡ false
unfolding crossed_by
none_alike level v = go (is_finite level) (Ieee.lt v level)
  where
    go : (f b : Bool) → (f && unlike b b) ≡ false
    go true true = refl
    go true false = refl
    go false b = refl

module _ (n : ℕ) (lower upper : Float) (values : List Float) where
  -- ---- so many in turn, and then more

  pub among-more : (t k j : ℕ) → crossed_among n lower upper values t k ++ crossed_among n lower upper values (t + k) j ≡ crossed_among n lower upper values t (k + j)
  unfolding crossed_among
  among-more t k zero = append-nil (crossed_among n lower upper values t k) ∙ sym (ap (crossed_among n lower upper values t) (add-zero k))
  among-more t k (suc j) =
      sym (append_assoc (crossed_among n lower upper values t k) (crossed_among n lower upper values (t + k) j) _)
      ∙ ap (λ (x : List Edge). x ++ cond (crossed_edge? n lower upper values (edge_at (t + k + j))) (edge_at (t + k + j) ∷ []) []) (among-more t k j)
      ∙ ap (λ (m : ℕ). crossed_among n lower upper values t (k + j) ++ cond (crossed_edge? n lower upper values (edge_at m)) (edge_at m ∷ []) []) assoc
      ∙ sym (ap (crossed_among n lower upper values t) (add-suc k j))
    where
      assoc : t + k + j ≡ t + (k + j)
      assoc = omega arith

  pub among_none : (t : ℕ) → [] ≡ crossed_among n lower upper values t 0
  unfolding crossed_among
  among_none t = refl

  -- two more, of one step; fourteen more, of one node
  pub among-to : (t d : ℕ) → crossed_among n lower upper values t (d * 2) ++ crossed_among n lower upper values (t + d * 2) 2 ≡ crossed_among n lower upper values t ((d + 1) * 2)
  among-to t d =
      let e : d * 2 + 2 ≡ (d + 1) * 2 = omega arith in
      among-more t (d * 2) 2 ∙ ap (crossed_among n lower upper values t) e

  pub among-node : (a : ℕ) → crossed_among n lower upper values 0 (a * 14) ++ crossed_among n lower upper values (a * 14) 14 ≡ crossed_among n lower upper values 0 ((a + 1) * 14)
  among-node a =
      let s : a * 14 ≡ 0 + a * 14 = omega arith in
      let e : a * 14 + 14 ≡ (a + 1) * 14 = omega arith in
      ap (λ (t : ℕ). crossed_among n lower upper values 0 (a * 14) ++ crossed_among n lower upper values t 14) s ∙ among-more 0 (a * 14) 14 ∙ ap (crossed_among n lower upper values 0) e

  pub among-few : (t k : ℕ) → length (crossed_among n lower upper values t k) ≤ k
  unfolding crossed_among
  among-few t zero = omega arith
  among-few t (suc k) = go (crossed_edge? n lower upper values (edge_at (t + k))) (among-few t k)
    where
      go : (b : Bool) → length (crossed_among n lower upper values t k) ≤ k → length (crossed_among n lower upper values t k ++ cond b (edge_at (t + k) ∷ []) []) ≤ suc k
      go true h = omega (arith, length-append (crossed_among n lower upper values t k) (edge_at (t + k) ∷ []))
      go false h = omega (arith, length-append {A = Edge} (crossed_among n lower upper values t k) [])

  -- ---- a step from a node: its two labels

  module _ (a d : ℕ) (node : a < cube n) (step : d < 7) where
    abbrev pub labelled : ℕ → Edge
    labelled label = record { node = a; step = d; label = label }

    abbrev pub crossed_by_label : ℕ → Bool
    crossed_by_label label = crossed_by (level_of lower upper label) (value_at values a) (value_at values (step_end n a d))

    -- one of its labels, if it passes
    abbrev pub passing : Bool → ℕ → List Edge
    passing b label = cond b (labelled label ∷ []) []

    crossed-there : (label : ℕ) → label < 2 → crossed_edge? n lower upper values (labelled label) ≡ (stays_inside n a d && crossed_by_label label)
    unfolding crossed_edge?
    crossed-there label h =
        ap (λ (b : Bool). b && (stays_inside n a d && crossed_by_label label)) (join _ _ (lt-ltb _ _ node) (join _ _ (lt-ltb _ _ step) (lt-ltb _ _ h)))

    one_label : (label : ℕ) → label < 2 → cond (crossed_edge? n lower upper values (edge_at (a * 14 + d * 2 + label))) (edge_at (a * 14 + d * 2 + label) ∷ []) [] ≡ passing (stays_inside n a d && crossed_by_label label) label
    one_label label h =
        ap (λ (e : Edge). cond (crossed_edge? n lower upper values e) (e ∷ []) []) (at_turn (labelled label) step h)
        ∙ ap (λ (b : Bool). passing b label) (crossed-there label h)

    two-labels : crossed_among n lower upper values (a * 14 + d * 2) 2 ≡ passing (stays_inside n a d && crossed_by_label 0) 0 ++ passing (stays_inside n a d && crossed_by_label 1) 1
    unfolding crossed_among
    two-labels =
        ap (λ (x : List Edge). x ++ cond (crossed_edge? n lower upper values (edge_at (a * 14 + d * 2 + 1))) (edge_at (a * 14 + d * 2 + 1) ∷ []) []) (one_label 0 (omega arith))
        ∙ ap (λ (x : List Edge). passing (stays_inside n a d && crossed_by_label 0) 0 ++ x) (one_label 1 (omega arith))

    -- by the end, or a itself where the step leaves the lattice
    by_end : (label : ℕ) → (stays_inside n a d && crossed_by_label label) ≡ crossed_by (level_of lower upper label) (value_at values a) (value_at values (end_or_start n a d))
    by_end label = go (stays_inside n a d)
      where
        go : (s : Bool) → (s && crossed_by_label label) ≡ crossed_by (level_of lower upper label) (value_at values a) (value_at values (cond s (step_end n a d) a))
        go true = refl
        go false = sym (none_alike (level_of lower upper label) (value_at values a))

    pub by-labels : (w : Float) → w ≡ value_at values (end_or_start n a d)
        → passing (crossed_by upper (value_at values a) w) 0 ++ passing (crossed_by lower (value_at values a) w) 1 ≡ crossed_among n lower upper values (a * 14 + d * 2) 2
    unfolding level_of
    by-labels w e =
        ap (λ (x : Float). passing (crossed_by upper (value_at values a) x) 0 ++ passing (crossed_by lower (value_at values a) x) 1) e
        ∙ sym (two-labels ∙ ap₂ (λ (x y : Bool). passing x 0 ++ passing y 1) (by_end 0) (by_end 1))

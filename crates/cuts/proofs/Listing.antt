-- The cuts of a list of edges, a turn an edge: what is left of the list decides whether all are cut, how many field values are taken and what is stored. Assumes nothing.
use mathlib.Core.Path.{◌≡◌, refl, sym, ap, ap₂, ◌∙◌, subst}
use mathlib.Core.Bool.{true, false}
use mathlib.Core.List.{List, [], ◌∷◌}
use Prim.Native.Nat.{ℕ, zero, suc, ◌+◌, ◌*◌, ◌/◌, ◌≤◌, ◌<◌}
use native.Mathlib.Nat.{mul-div_cancel}
use native.Mathlib.Numerals.{add-one}
use native.Mathlib.Omega.{arith}
use lib.ListN.{length, get_or, take, drop, set, length-set, drop_of_length-le}
use lib.Seq.{sets, drop-cons}
use lib.Ieee.{Float}
use borrow.Author.Tests.{le-leb, lt-leb}
use Rattle.float.specs.declared.Point.{Point}
use Rattle.surface.specs.Check.{every}
use Rattle.surface.proofs.All.{all-on, all_out, all_done}
use Rattle.lattice.specs.Edges.{Edge, edge_words}
use Rattle.lattice.specs.Laws.{no_edge}
use Rattle.lattice.proofs.Noting.{words-length}
use Rattle.lattice.proofs.Stores as Stores
use Rattle.lattice.proofs.Stores.{three_sets, sets_append}
use Rattle.solve.specs.declared.Solved.{Solved}
use Rattle.cuts.specs.Edges.{is_cut, all_cut?, fields_taken, cut_numbers}
use Rattle.cuts.specs.Call.{all_complete, cuts_of}
use Rattle.cuts.specs.Stages.{edge_in, EdgesCut}
use Rattle.std.specs.Prelude.{Err}
use Rattle.lattice.specs.declared.Refusal.{Refusal}
use Rattle.lattice.specs.declared.Refusal.TheVariants.{Room, ResidualNotFinite}

-- ---- edge i of a list, by its words

same-edge : {a a' d d' l l' : ℕ} → a ≡ a' → d ≡ d' → l ≡ l' → ◌≡◌ {A = Edge} (record { node = a; step = d; label = l }) (record { node = a'; step = d'; label = l' })
same-edge {a} {a'} {d} {d'} {l} {l'} p q r = cc

pub edge_at : (es : List Edge) (i : ℕ) → i < length es → edge_in (edge_words es) i ≡ get_or es i no_edge
unfolding edge_words
edge_at [] i h = absurd (omega arith)
edge_at (e ∷ es) zero h = refl
edge_at (e ∷ es) (suc i) h =
    let p : suc i * 3 ≡ suc (suc (suc (i * 3))) = omega arith in
    let q : suc i * 3 + 1 ≡ suc (suc (suc (i * 3 + 1))) = omega arith in
    let r : suc i * 3 + 2 ≡ suc (suc (suc (i * 3 + 2))) = omega arith in
    same-edge (ap (λ (k : ℕ). get_or (edge_words (e ∷ es)) k 0) p) (ap (λ (k : ℕ). get_or (edge_words (e ∷ es)) k 0) q) (ap (λ (k : ℕ). get_or (edge_words (e ∷ es)) k 0) r)
    ∙ edge_at es i (omega arith)

pub words_count : (es : List Edge) (words : List ℕ) → words ≡ edge_words es → length words / 3 ≡ length es
words_count es words e = ap (λ (k : ℕ). k / 3) (ap length e ∙ words-length es) ∙ mul-div_cancel (length es) (omega arith)

pub numbers-length : (cut : Edge → Point) (es : List Edge) → length (cut_numbers cut es) ≡ length es * 3
unfolding cut_numbers
numbers-length cut [] = refl
numbers-length cut (e ∷ es) = let h : length (cut_numbers cut es) ≡ length es * 3 = numbers-length cut es in omega arith

-- ---- the loop

-- what is left decides
pub record Walk (solved : Edge → Solved) (cut : Edge → Point) (es : List Edge) (before now : List Float) (fields e : ℕ) : Type 0 where
  pub whole : every (λ (x : Edge). is_cut (solved x).cut) (drop e es) ≡ every (λ (x : Edge). is_cut (solved x).cut) es
  pub taken : fields + fields_taken solved (drop e es) ≡ fields_taken solved es
  pub stored : sets now (e * 3) (cut_numbers cut (drop e es)) ≡ sets before 0 (cut_numbers cut es)

module _ (solved : Edge → Solved) (cut : Edge → Point) (es : List Edge) (before : List Float) where
  pub walk_begins : Walk solved cut es before before 0 0
  walk_begins = record { whole = refl; taken = omega arith; stored = refl }

  module _ {now : List Float} {fields e : ℕ} (w : Walk solved cut es before now fields e) where
    module _ (h : e < length es) where
      opened : drop e es ≡ get_or es e no_edge ∷ drop (e + 1) es
      opened = drop-cons es e no_edge h ∙ ap (λ (k : ℕ). get_or es e no_edge ∷ drop k es) (sym (add-one e))

      taken_more : (t : ℕ) → t ≡ (solved (get_or es e no_edge)).taken → fields + t + fields_taken solved (drop (e + 1) es) ≡ fields_taken solved es
      unfolding fields_taken
      taken_more t q =
          let m : fields_taken solved (drop e es) ≡ (solved (get_or es e no_edge)).taken + fields_taken solved (drop (e + 1) es) = ap (fields_taken solved) opened in
          omega (arith, w.taken)

      stored_more : (p : Point) → p ≡ cut (get_or es e no_edge)
          → sets (set (set (set now (e * 3) p.x) (e * 3 + 1) p.y) (e * 3 + 2) p.z) ((e + 1) * 3) (cut_numbers cut (drop (e + 1) es)) ≡ sets before 0 (cut_numbers cut es)
      unfolding cut_numbers
      stored_more p q =
          let k : (e + 1) * 3 ≡ e * 3 + 3 = omega arith in
          ap₂ (λ (l : List Float) (i : ℕ). sets l i (cut_numbers cut (drop (e + 1) es))) (three_sets now (e * 3) p.x p.y p.z) k
          ∙ sets_append now (e * 3) (p.x ∷ p.y ∷ p.z ∷ []) (cut_numbers cut (drop (e + 1) es))
          ∙ ap (λ (r : Point). sets now (e * 3) (r.x ∷ r.y ∷ r.z ∷ cut_numbers cut (drop (e + 1) es))) q
          ∙ sym (ap (λ (l : List Edge). sets now (e * 3) (cut_numbers cut l)) opened)
          ∙ w.stored

      pub walk_turn : (p : Point) (t : ℕ) → p ≡ cut (get_or es e no_edge) → t ≡ (solved (get_or es e no_edge)).taken → is_cut (solved (get_or es e no_edge)).cut ≡ true
          → Walk solved cut es before (set (set (set now (e * 3) p.x) (e * 3 + 1) p.y) (e * 3 + 2) p.z) (fields + t) (e + 1)
      walk_turn p t ep et c = record {
        whole = sym (all-on (λ (x : Edge). is_cut (solved x).cut) no_edge es e h c) ∙ w.whole;
        taken = taken_more t et;
        stored = stored_more p ep;
      }

-- ---- the answers

module _ (solved : Edge → Solved) (nodes : ℕ) (es : List Edge) (places : ℕ) where
  short : places < length es * 3 → cuts_of solved nodes es places ≡ Err Room
  unfolding cuts_of
  short h = rw (lt-leb (length es * 3) places h) refl

  module _ (h : length es * 3 ≤ places) where
    broken : all_cut? solved es ≡ false → cuts_of solved nodes es places ≡ Err ResidualNotFinite
    unfolding cuts_of
    broken q = rw (le-leb (length es * 3) places h, q) refl

    complete : all_cut? solved es ≡ true → cuts_of solved nodes es places ≡ all_complete nodes (length es) (fields_taken solved es)
    unfolding cuts_of
    complete q = rw (le-leb (length es * 3) places h, q) refl

module _ (solved : Edge → Solved) (cut : Edge → Point) (nodes : ℕ) (es : List Edge) (before : List Float) where
  refused : {now : List Float} (why : Refusal) → Err why ≡ cuts_of solved nodes es (length before) → length now ≡ length before → EdgesCut solved cut nodes es before now (Err why)
  refused why q l = record { answer = q; size = l; room = omega arith; front = refl }

  pub refused_35 : length before < length es * 3 → EdgesCut solved cut nodes es before before (Err Room)
  refused_35 h = refused Room (sym (short solved nodes es (length before) h)) refl

  module _ (room : length es * 3 ≤ length before) {now : List Float} (size : length now ≡ length before) {fields e : ℕ} (w : Walk solved cut es before now fields e) where
    pub refused_37 : e < length es → is_cut (solved (get_or es e no_edge)).cut ≡ false → EdgesCut solved cut nodes es before now (Err ResidualNotFinite)
    unfolding all_cut?
    refused_37 h q = refused ResidualNotFinite (sym (broken solved nodes es (length before) room (sym w.whole ∙ all_out (λ (x : Edge). is_cut (solved x).cut) no_edge es e h q))) size

    pub all_cut : (count : ℕ) → count ≡ length es → length es ≤ e → EdgesCut solved cut nodes es before now (all_complete nodes count fields)
    unfolding all_cut? fields_taken cut_numbers
    all_cut count c h =
        let none : drop e es ≡ [] = drop_of_length-le es h in
        let taken : fields ≡ fields_taken solved es = sym (omega arith) ∙ sym (ap (λ (l : List Edge). fields + fields_taken solved l) none) ∙ w.taken in
        let stored : now ≡ sets before 0 (cut_numbers cut es) = sym (ap (λ (l : List Edge). sets now (e * 3) (cut_numbers cut l)) none) ∙ w.stored in
        let whole : every (λ (x : Edge). is_cut (solved x).cut) es ≡ true = sym w.whole ∙ all_done (λ (x : Edge). is_cut (solved x).cut) es e h in
        record {
          answer = ap₂ (λ (m t : ℕ). all_complete nodes m t) c taken ∙ sym (complete solved nodes es (length before) room whole);
          size = size;
          room = omega arith;
          front =
              ap (λ (m : ℕ). take (m * 3) now) c ∙ ap (take (length es * 3)) stored
              ∙ Stores.front before (cut_numbers cut es) (length es * 3) (numbers-length cut es) room;
        }

-- ---- the loop over the words of a list

pub record Turning (solved : Edge → Solved) (cut : Edge → Point) (words : List ℕ) (before now : List Float) (found fields e : ℕ) : Type 0 where
  pub within : e ≤ found
  pub count : found ≡ length words / 3
  pub room : found * 3 ≤ length before
  pub size : length now ≡ length before
  pub bound : fields ≤ 52 * e
  pub walk : (es : List Edge) → words ≡ edge_words es → Walk solved cut es before now fields e

module _ (solved : Edge → Solved) (cut : Edge → Point) (words : List ℕ) (before : List Float) where
  pub turning_begins : length words / 3 * 3 ≤ length before → Turning solved cut words before before (length words / 3) 0 0
  turning_begins room = record { within = omega arith; count = refl; room = room; size = refl; bound = omega arith; walk = λ es q. walk_begins solved cut es before }

  module _ {now : List Float} {found fields e : ℕ} (t : Turning solved cut words before now found fields e) where
    listed : (es : List Edge) → words ≡ edge_words es → found ≡ length es
    listed es q = t.count ∙ words_count es words q

    -- the edge of this turn
    at_edge : (es : List Edge) → words ≡ edge_words es → e < found → edge_in words e ≡ get_or es e no_edge
    at_edge es q h = let n : found ≡ length es = listed es q in ap (λ (l : List ℕ). edge_in l e) q ∙ edge_at es e (omega arith)

    pub turning_on : e < found → (p : Point) (k : ℕ) → p ≡ cut (edge_in words e) → k ≡ (solved (edge_in words e)).taken → k ≤ 52 → is_cut (solved (edge_in words e)).cut ≡ true
        → Turning solved cut words before (set (set (set now (e * 3) p.x) (e * 3 + 1) p.y) (e * 3 + 2) p.z) found (fields + k) (e + 1)
    turning_on h p k ep ek few c = record {
      within = omega arith;
      count = t.count;
      room = t.room;
      size = simp length-set t.size;
      bound = let b = t.bound in omega arith;
      walk = λ es q.
          let n : found ≡ length es = listed es q in
          let a = at_edge es q h in
          walk_turn solved cut es before (t.walk es q) (omega arith) p k (ep ∙ ap cut a) (ek ∙ ap (λ (x : Edge). (solved x).taken) a) (sym (ap (λ (x : Edge). is_cut (solved x).cut) a) ∙ c);
    }

    module _ (nodes : ℕ) (es : List Edge) (q : words ≡ edge_words es) where
      fits : length es * 3 ≤ length before
      fits = let n : found ≡ length es = listed es q in subst (λ (m : ℕ). m * 3 ≤ length before) n t.room

      pub turning_37 : e < found → is_cut (solved (edge_in words e)).cut ≡ false → EdgesCut solved cut nodes es before now (Err ResidualNotFinite)
      turning_37 h c =
          let n : found ≡ length es = listed es q in
          refused_37 solved cut nodes es before fits t.size (t.walk es q) (omega arith) (sym (ap (λ (x : Edge). is_cut (solved x).cut) (at_edge es q h)) ∙ c)

      pub turning_ends : found ≤ e → EdgesCut solved cut nodes es before now (all_complete nodes found fields)
      turning_ends h = let n : found ≡ length es = listed es q in all_cut solved cut nodes es before fits t.size (t.walk es q) found n (omega arith)

  pub turning_35 : (nodes : ℕ) → length before < length words / 3 * 3 → (es : List Edge) → words ≡ edge_words es → EdgesCut solved cut nodes es before before (Err Room)
  turning_35 nodes h es q = refused_35 solved cut nodes es before (subst (λ (m : ℕ). length before < m * 3) (words_count es words q) h)

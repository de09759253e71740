-- A call is answered with 0 just where it passes the questions, and its counts are then small; with 37 only where an edge has no cut. Assumes nothing.
use mathlib.Core.Path.{◌≡◌, refl, sym, ap, ◌∙◌}
use mathlib.Core.Logic.{◌↔◌}
use mathlib.Core.Bool.{Bool, true, false, ◌&&◌, cond, true≢false}
use mathlib.Core.List.{List, [], ◌∷◌}
use Prim.Native.Nat.{ℕ, suc, ◌*◌, ◌≤◌, ◌<◌}
use native.Mathlib.Omega.{arith}
use lib.Dec.{leb}
use lib.ListN.{length, get_or}
use borrow.Author.Tests.{leb-true, le-leb}
use Rattle.lattice.specs.Sample.{SampledField, LatticeLists, Lattice, all_sampled, nodes, raw_values, lattice_edges, or_refused, after_nodes, lattice_of, lattice_number}
use Rattle.lattice.specs.Laws.{no_edge, Samples}
use Rattle.lattice.specs.Edges.{Edge}
use Rattle.surface.specs.Check.{every}
use Rattle.float.specs.Order.{is_finite}
use Rattle.field.specs.Valid as Valid
use Rattle.field.specs.Valid.{sheet_ok}
use Rattle.surface.proofs.All.{all-at}
use Rattle.std.specs.Prelude.{Ok, Err}
use Rattle.lattice.specs.declared.Refusal.TheVariants.{FieldSheet, Cells, Room, ValueNotFinite, ResidualNotFinite}
use Rattle.lattice.proofs.Answers as Answers
use Rattle.cuts.specs.Edges.{is_cut, all_cut?, fields_taken}
use Rattle.cuts.specs.Call.{CutLists, solved_edge, Cuts, all_complete, counted_in, cuts_of, after_sampling, cutting_of, lattice_in, cuts_number}
use Rattle.cuts.specs.Laws.{CutsAll}
use Rattle.cuts.specs.Stages.{CutFronts}
use Rattle.cuts.specs.declared.Complete.{Complete}

module _ (f : SampledField) (lent : CutLists) where
  -- the questions of sampling come first
  sampled-first : (l : Lattice) → cuts_number (after_sampling f (length lent.cuts) l) ≡ 0 → lattice_number l ≡ 0
  unfolding after_sampling
  sampled-first (Ok s) e = refl
  sampled-first (Err why) e = e

  passes : (b c : Bool) (n m t : ℕ) → cuts_number (cond b (cond c (all_complete n m t) (Err ResidualNotFinite)) (Err Room)) ≡ 0 → (b ≡ true) × (c ≡ true)
  passes true true n m t e = (refl, refl)
  passes true false n m t e = absurd (omega arith)
  passes false c n m t e = absurd (omega arith)

  pub zero-passes : cuts_number (cutting_of f lent) ≡ 0 → CutsAll f lent
  unfolding after_sampling cuts_of
  zero-passes e =
      let s = Answers.zero-passes f lent.lattice (sampled-first (lattice_of f lent.lattice) e) in
      let q = ap (after_sampling f (length lent.cuts)) (Answers.passes-sampled f lent.lattice s) in
      let p = passes (leb (length (lattice_edges f) * 3) (length lent.cuts)) (all_cut? (solved_edge f) (lattice_edges f)) _ _ _ (sym (ap cuts_number q) ∙ e) in
      record { samples = s; cut_room = leb-true _ _ p.0; finite = p.1 }

  pub passes_cut : CutsAll f lent → cutting_of f lent ≡ all_complete (nodes f.cells) (length (lattice_edges f)) (fields_taken (solved_edge f) (lattice_edges f))
  unfolding after_sampling cuts_of
  passes_cut p =
      ap (after_sampling f (length lent.cuts)) (Answers.passes-sampled f lent.lattice p.samples)
      ∙ rw (le-leb (length (lattice_edges f) * 3) (length lent.cuts) p.cut_room, p.finite) refl

  pub zero_means : (cuts_number (cutting_of f lent) ≡ 0) ↔ CutsAll f lent
  zero_means = (zero-passes, λ p. ap cuts_number (passes_cut p))

  -- up to 129³ nodes, and fourteen edges a node
  pub small-counts : (c : Complete) → cutting_of f lent ≡ Ok c → (c.nodes ≤ 2146689) × (c.edges ≤ 30053646)
  small-counts c e =
      let p = zero-passes (ap cuts_number e) in
      Answers.small-counts f lent.lattice (record { nodes = c.nodes; edges = c.edges }) (Answers.passes-sampled f lent.lattice p.samples ∙ sym (ap lattice_in (passes_cut p)) ∙ ap lattice_in e)

pub few_cut : (f : SampledField) {lent after : CutLists} (r : Cuts) {s : Complete} → CutFronts f lent after r → s ≡ counted_in r → s.edges ≤ 30053646
few_cut f {lent} {after} (Ok c) {s} u e = let h = (small-counts f lent c (sym u.answer)).1 in let m : s.edges ≡ c.edges = ap (λ (x : Complete). x.edges) e in omega arith
few_cut f {lent} {after} (Err why) {s} u e = let m : s.edges ≡ 0 = ap (λ (x : Complete). x.edges) e in omega arith

-- ---- each edge

pub whole-at : (f : SampledField) → all_cut? (solved_edge f) (lattice_edges f) ≡ true → (i : ℕ) → i < length (lattice_edges f) → is_cut (solved_edge f (get_or (lattice_edges f) i no_edge)).cut ≡ true
unfolding all_cut?
whole-at f = all-at (λ (e : Edge). is_cut (solved_edge f e).cut) no_edge (lattice_edges f)

-- a place where a test fails
fails-at : (p : Edge → Bool) (es : List Edge) → every p es ≡ false → (i : ℕ) × (i < length es) × (p (get_or es i no_edge) ≡ false)
unfolding every
fails-at p [] h = absurd (true≢false h)
fails-at p (e ∷ es) h = go (λ k. fails-at p es k) (p e) refl h
  where
    later : (i : ℕ) × (i < length es) × (p (get_or es i no_edge) ≡ false) → (i : ℕ) × (i < length (e ∷ es)) × (p (get_or (e ∷ es) i no_edge) ≡ false)
    later r = let l : r.0 < length es = r.1 in (suc r.0, omega arith, r.2)

    go : (every p es ≡ false → (i : ℕ) × (i < length es) × (p (get_or es i no_edge) ≡ false)) → (b : Bool) → p e ≡ b → (b && every p es) ≡ false → (i : ℕ) × (i < length (e ∷ es)) × (p (get_or (e ∷ es) i no_edge) ≡ false)
    go again true q k = later (again k)
    go again false q k = (0, omega arith, q)

-- ---- 37

-- it is no number of sampling's
by_tests : (a b c d e : Bool) (n m : ℕ) → lattice_number (or_refused a FieldSheet (or_refused b Cells (or_refused c Room (or_refused d ValueNotFinite (or_refused e Room (all_sampled n m)))))) ≡ 37 → ⊥
by_tests false b c d e n m q = omega arith
by_tests true false c d e n m q = omega arith
by_tests true true false d e n m q = omega arith
by_tests true true true false e n m q = omega arith
by_tests true true true true false n m q = omega arith
by_tests true true true true true n m q = omega arith

never_37 : (f : SampledField) (lent : LatticeLists) → lattice_number (lattice_of f lent) ≡ 37 → ⊥
unfolding lattice_of after_nodes
never_37 f lent e =
    by_tests (sheet_ok f.coefficients f.powers f.levels f.bounds) (leb 4 f.cells && leb f.cells 128) (leb (nodes f.cells * 3) (length lent.grid) && leb (nodes f.cells) (length lent.values))
    (Valid.every is_finite (raw_values f)) (leb (length (lattice_edges f) * 3) (length lent.edges)) (nodes f.cells) (length (lattice_edges f)) e

-- it comes after the questions of sampling, of an edge without a cut
pub fails_37 : (f : SampledField) (lent : CutLists) → cuts_number (cutting_of f lent) ≡ 37
    → Samples f lent.lattice × ((i : ℕ) × (i < length (lattice_edges f)) × (is_cut (solved_edge f (get_or (lattice_edges f) i no_edge)).cut ≡ false))
unfolding after_sampling cuts_of all_cut?
fails_37 f lent e = go (lattice_of f lent.lattice) refl e
  where
    broken : (b c : Bool) (n m t : ℕ) → cuts_number (cond b (cond c (all_complete n m t) (Err ResidualNotFinite)) (Err Room)) ≡ 37 → c ≡ false
    broken true true n m t e = absurd (omega arith)
    broken true false n m t e = refl
    broken false c n m t e = absurd (omega arith)

    go : (l : Lattice) → lattice_of f lent.lattice ≡ l → cuts_number (after_sampling f (length lent.cuts) l) ≡ 37
        → Samples f lent.lattice × ((i : ℕ) × (i < length (lattice_edges f)) × (is_cut (solved_edge f (get_or (lattice_edges f) i no_edge)).cut ≡ false))
    go (Ok s) q k = (
      Answers.zero-passes f lent.lattice (ap lattice_number q),
      fails-at (λ (e : Edge). is_cut (solved_edge f e).cut) (lattice_edges f) (broken (leb (length (lattice_edges f) * 3) (length lent.cuts)) (all_cut? (solved_edge f) (lattice_edges f)) s.nodes (length (lattice_edges f)) (fields_taken (solved_edge f) (lattice_edges f)) k),
    )
    go (Err why) q k = absurd (never_37 f lent.lattice (ap lattice_number q ∙ k))

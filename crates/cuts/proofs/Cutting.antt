-- One edge, by what the functions that are called for it answer. Assumes nothing.
use mathlib.Core.Path.{◌≡◌, refl, sym, ap, ◌∙◌}
use mathlib.Core.Bool.{Bool, true, false, cond}
use mathlib.Core.List.{List}
use Prim.Native.Nat.{ℕ, zero, suc, ◌≤◌}
use native.Mathlib.Nat.{le_trans, le_of_eq}
use lib.ListN.{get_or}
use lib.Ieee.{Float, nan}
use Rattle.float.specs.declared.Point.{Point}
use Rattle.float.specs.Point.{less}
use Rattle.lattice.specs.Edges.{Edge, step_end, level_of, value_at}
use Rattle.solve.specs.Solve.{residual, solve}
use Rattle.solve.specs.declared.Solved.{Solved}
use Rattle.solve.proofs.Edge.{solve-laws}
use Rattle.cuts.specs.Edges.{point_at, level_in, residual_along, residual_of, solved_in, cut_point, is_cut, cut_in}
use Rattle.cuts.specs.Stages.{edge_cut}
use Rattle.cuts.specs.declared.edges.EdgeCut.{EdgeCut}
use Rattle.std.specs.Prelude.{Option, Some, None, Result, Ok, Err}
use Rattle.lattice.specs.declared.Refusal.{Refusal}
use Rattle.lattice.specs.declared.Refusal.TheVariants.{ResidualNotFinite}
use Rattle.solve.specs.declared.Cut.{Cut}

pub upper_level_lem : (levels : List Float) (label : ℕ) → label ≡ 0 → get_or levels 1 nan ≡ level_in levels label
unfolding level_in level_of
upper_level_lem levels label e = sym (ap (level_of (get_or levels 0 nan) (get_or levels 1 nan)) e)

pub lower_level_lem : (levels : List Float) (label : ℕ) → (label ≡ 0 → ⊥) → get_or levels 0 nan ≡ level_in levels label
unfolding level_in level_of
lower_level_lem levels zero h = absurd (h refl)
lower_level_lem levels (suc l) h = refl

module _ (qs : List Float) (ns : List ℕ) (levels : List Float) (n : ℕ) (grid values : List Float) (e : Edge) (a b : Point) (level : Float) (j : ℕ) (s : Solved)
    (ej : j ≡ step_end n e.node e.step) (ea : a ≡ point_at grid e.node) (eb : b ≡ point_at grid j) (el : level ≡ level_in levels e.label)
    (es : s ≡ solve (residual qs ns a b level) level (less (value_at values e.node) level) (less (value_at values j) level)) where
  second : b ≡ point_at grid (step_end n e.node e.step)
  second = eb ∙ ap (point_at grid) ej

  is_solved : s ≡ solved_in qs ns levels n grid values e
  unfolding solved_in
  is_solved =
      es
      ∙ ap (λ (v : Point). solve (residual qs ns v b level) level (less (value_at values e.node) level) (less (value_at values j) level)) ea
      ∙ ap (λ (v : Point). solve (residual qs ns (point_at grid e.node) v level) level (less (value_at values e.node) level) (less (value_at values j) level)) second
      ∙ ap (λ (l : Float). solve (residual qs ns (point_at grid e.node) (point_at grid (step_end n e.node e.step)) l) l (less (value_at values e.node) l) (less (value_at values j) l)) el
      ∙ ap (λ (m : ℕ). solve (residual qs ns (point_at grid e.node) (point_at grid (step_end n e.node e.step)) (level_in levels e.label)) (level_in levels e.label) (less (value_at values e.node) (level_in levels e.label)) (less (value_at values m) (level_in levels e.label))) ej

  pub edge_is_cut : (c : Cut) (p : Point) → s.cut ≡ Some c → p ≡ cut_point a b (Some c) → Ok (record { point = p; taken = s.taken }) ≡ edge_cut qs ns levels n grid values e
  unfolding edge_cut cut_in is_cut
  edge_is_cut c p q ep =
      let here = ep ∙ ap (cut_point a b) (sym q) ∙ ap (λ (v : Point). cut_point v b s.cut) ea ∙ ap (λ (v : Point). cut_point (point_at grid e.node) v s.cut) second in
      ap (λ (v : Point). Ok (record { point = v; taken = s.taken })) here
      ∙ ap (λ (o : Option Cut). cond (is_cut o) (Ok (record { point = cut_point (point_at grid e.node) (point_at grid (step_end n e.node e.step)) s.cut; taken = s.taken })) (Err ResidualNotFinite)) (sym q)
      ∙ ap (λ (v : Solved). cond (is_cut v.cut) (Ok (record { point = cut_point (point_at grid e.node) (point_at grid (step_end n e.node e.step)) v.cut; taken = v.taken })) (Err ResidualNotFinite)) is_solved

  pub edge_not_cut : s.cut ≡ None → Err ResidualNotFinite ≡ edge_cut qs ns levels n grid values e
  unfolding edge_cut is_cut
  edge_not_cut q =
      ap (λ (o : Option Cut). cond (is_cut o) (Ok (record { point = cut_in qs ns levels n grid values e; taken = s.taken })) (Err ResidualNotFinite)) (sym q)
      ∙ ap (λ (v : Solved). cond (is_cut v.cut) (Ok (record { point = cut_in qs ns levels n grid values e; taken = v.taken })) (Err ResidualNotFinite)) is_solved

err_ok : {T E : Type 0} {x : T} {y : E} → ◌≡◌ {A = Result T E} (Err y) (Ok x) → ⊥
err_ok h = cc

-- what the cut of an edge has
pub record HasCut (solved : Solved) (point : Point) (r : EdgeCut) : Type 0 where
  pub whole : is_cut solved.cut ≡ true
  pub point_is : r.point ≡ point
  pub taken_is : r.taken ≡ solved.taken
  pub few : r.taken ≤ 52

module _ (qs : List Float) (ns : List ℕ) (levels : List Float) (n : ℕ) (grid values : List Float) (e : Edge) where
  taken-few : (solved_in qs ns levels n grid values e).taken ≤ 52
  unfolding solved_in
  taken-few = solve-laws.few (residual_along qs ns levels n grid values e) (level_in levels e.label) (residual_of qs ns levels n grid values e e.node) (residual_of qs ns levels n grid values e (step_end n e.node e.step))

  pub has-cut : {r : EdgeCut} → Ok r ≡ edge_cut qs ns levels n grid values e → HasCut (solved_in qs ns levels n grid values e) (cut_in qs ns levels n grid values e) r
  unfolding edge_cut
  has-cut {r} h = go (is_cut (solved_in qs ns levels n grid values e).cut) refl h
    where
      go : (b : Bool) → is_cut (solved_in qs ns levels n grid values e).cut ≡ b
          → Ok r ≡ cond b (Ok (record { point = cut_in qs ns levels n grid values e; taken = (solved_in qs ns levels n grid values e).taken })) (Err ResidualNotFinite) → HasCut (solved_in qs ns levels n grid values e) (cut_in qs ns levels n grid values e) r
      go true q k =
          let same : ◌≡◌ {A = EdgeCut} r (record { point = cut_in qs ns levels n grid values e; taken = (solved_in qs ns levels n grid values e).taken }) = cc in
          let t = ap (λ (v : EdgeCut). v.taken) same in
          record { whole = q; point_is = ap (λ (v : EdgeCut). v.point) same; taken_is = t; few = le_trans (le_of_eq t) taken-few }
      go false q k = absurd (err_ok (sym k))

  pub no-cut : {why : Refusal} → Err why ≡ edge_cut qs ns levels n grid values e → (why ≡ ResidualNotFinite) × (is_cut (solved_in qs ns levels n grid values e).cut ≡ false)
  unfolding edge_cut
  no-cut {why} h = go (is_cut (solved_in qs ns levels n grid values e).cut) refl h
    where
      go : (b : Bool) → is_cut (solved_in qs ns levels n grid values e).cut ≡ b
          → ◌≡◌ {A = Result EdgeCut Refusal} (Err why) (cond b (Ok (record { point = cut_in qs ns levels n grid values e; taken = (solved_in qs ns levels n grid values e).taken })) (Err ResidualNotFinite)) → (why ≡ ResidualNotFinite) × (is_cut (solved_in qs ns levels n grid values e).cut ≡ false)
      go true q k = absurd (err_ok k)
      go false q k = (cc, q)

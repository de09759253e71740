-- The test `crossed_edge?` says what `CrossedEdge` says, and how `edge_at` numbers nodes, steps and labels. Assumes nothing.
use mathlib.Core.Path.{◌≡◌, refl}
use mathlib.Core.Logic.{◌⊎◌, inl, inr}
use mathlib.Core.Bool.{Bool, true, false, ◌&&◌, true≢false, false≢true}
use mathlib.Core.List.{List}
use Prim.Native.Nat.{ℕ, ◌+◌, ◌*◌, ◌/◌, ◌%◌, ◌<◌, ◌≤◌}
use native.Mathlib.Nat.{eq-or-lt_of_le}
use native.Mathlib.Omega.{arith}
use lib.Dec.{ltb, eqb}
use lib.Ieee as Ieee
use lib.Ieee.{Float, unlike}
use borrow.Author.Tests.{ltb-true, lt-ltb, eqb-true, eq-eqb}
use Rattle.float.specs.Order.{is_finite}
use Rattle.surface.proofs.Bools.{both, join}
use Rattle.lattice.specs.Node.{cube, along_x, along_y, along_z}
use Rattle.lattice.specs.Edges.{Edge, step_x, step_y, step_z, step_end, level_of, crossed_by, value_at, crossed_edge?, edge_at}
use Rattle.lattice.specs.Laws.{CrossedEdge, same_edge?, EdgeBefore}

unlike_apart : (a b : Bool) → unlike a b ≡ true → a ≡ b → ⊥
unlike_apart true true e h = false≢true e
unlike_apart true false e h = true≢false h
unlike_apart false true e h = false≢true h
unlike_apart false false e h = false≢true e

apart_unlike : (a b : Bool) → (a ≡ b → ⊥) → unlike a b ≡ true
apart_unlike true true h = absurd (h refl)
apart_unlike true false h = refl
apart_unlike false true h = refl
apart_unlike false false h = absurd (h refl)

-- ---- the test, both ways

module _ (n : ℕ) (lower upper : Float) (values : List Float) (e : Edge) where
  pub crossed-says : crossed_edge? n lower upper values e ≡ true → CrossedEdge n lower upper values e
  unfolding crossed_edge? crossed_by
  crossed-says t =
      let named = both (ltb e.node (cube n)) (ltb e.step 7 && ltb e.label 2) whole.0 in
      let stepped = both (ltb e.step 7) (ltb e.label 2) named.1 in
      let inside = both x (y && z) rest.0 in
      let further = both y z inside.1 in
      let cut = both finite apart rest.1 in
      record {
        node = ltb-true _ _ named.0;
        step = ltb-true _ _ stepped.0;
        label = ltb-true _ _ stepped.1;
        x = ltb-true _ _ inside.0;
        y = ltb-true _ _ further.0;
        z = ltb-true _ _ further.1;
        finite = cut.0;
        apart = unlike_apart _ _ cut.1;
      }
    where
      x : Bool
      x = ltb (along_x n e.node + step_x e.step) n

      y : Bool
      y = ltb (along_y n e.node + step_y e.step) n

      z : Bool
      z = ltb (along_z n e.node + step_z e.step) n

      finite : Bool
      finite = is_finite (level_of lower upper e.label)

      apart : Bool
      apart = unlike (Ieee.lt (value_at values e.node) (level_of lower upper e.label)) (Ieee.lt (value_at values (step_end n e.node e.step)) (level_of lower upper e.label))

      whole : ((ltb e.node (cube n) && (ltb e.step 7 && ltb e.label 2)) ≡ true) × (((x && (y && z)) && (finite && apart)) ≡ true)
      whole = both (ltb e.node (cube n) && (ltb e.step 7 && ltb e.label 2)) ((x && (y && z)) && (finite && apart)) t

      rest : ((x && (y && z)) ≡ true) × ((finite && apart) ≡ true)
      rest = both (x && (y && z)) (finite && apart) whole.1

  pub says-crossed : CrossedEdge n lower upper values e → crossed_edge? n lower upper values e ≡ true
  unfolding crossed_edge? crossed_by
  says-crossed c =
      join _ _ (join _ _ (lt-ltb _ _ c.node) (join _ _ (lt-ltb _ _ c.step) (lt-ltb _ _ c.label)))
      (join _ _ (join _ _ (lt-ltb _ _ c.x) (join _ _ (lt-ltb _ _ c.y) (lt-ltb _ _ c.z))) (join _ _ c.finite (apart_unlike _ _ c.apart)))

-- ---- the order of all nodes, steps and labels

abbrev pub turn : Edge → ℕ
turn e = e.node * 14 + e.step * 2 + e.label

same_parts : {a a' b b' d d' : ℕ} → a ≡ a' → b ≡ b' → d ≡ d' → ◌≡◌ {A = Edge} (record { node = a; step = b; label = d }) (record { node = a'; step = b'; label = d' })
same_parts {a} {a'} {b} {b'} {d} {d'} p q r = cc

pub same-edge : (e f : Edge) → same_edge? e f ≡ true → e ≡ f
same-edge e f t =
    let p = both (eqb e.node f.node) (eqb e.step f.step && eqb e.label f.label) t in
    let q = both (eqb e.step f.step) (eqb e.label f.label) p.1 in
    same_parts (eqb-true _ _ p.0) (eqb-true _ _ q.0) (eqb-true _ _ q.1)

pub same_itself : (e : Edge) → same_edge? e e ≡ true
same_itself e = join _ _ (eq-eqb e.node e.node refl) (join _ _ (eq-eqb e.step e.step refl) (eq-eqb e.label e.label refl))

pub turn_of : (t : ℕ) → turn (edge_at t) ≡ t
turn_of t = omega arith

pub at_turn : (e : Edge) → e.step < 7 → e.label < 2 → edge_at (turn e) ≡ e
at_turn e s l =
    let a : turn e / 14 ≡ e.node = omega arith in
    let b : turn e / 2 % 7 ≡ e.step = omega arith in
    let d : turn e % 2 ≡ e.label = omega arith in
    same_parts a b d

pub turn_before : (s t : ℕ) → s < t → EdgeBefore (edge_at s) (edge_at t)
turn_before s t h = by-node (eq-or-lt_of_le node)
  where
    node : s / 14 ≤ t / 14
    node = omega arith

    step : s / 14 ≡ t / 14 → s / 2 % 7 ≤ t / 2 % 7
    step a = omega arith

    label : s / 14 ≡ t / 14 → s / 2 % 7 ≡ t / 2 % 7 → s % 2 < t % 2
    label a b = omega arith

    by-step : s / 14 ≡ t / 14 → (s / 2 % 7 ≡ t / 2 % 7) ⊎ (s / 2 % 7 < t / 2 % 7) → (s / 2 % 7 < t / 2 % 7) ⊎ ((s / 2 % 7 ≡ t / 2 % 7) × (s % 2 < t % 2))
    by-step a (inl b) = inr (b, label a b)
    by-step a (inr b) = inl b

    by-node : (s / 14 ≡ t / 14) ⊎ (s / 14 < t / 14) → EdgeBefore (edge_at s) (edge_at t)
    by-node (inl a) = inr (a, by-step a (eq-or-lt_of_le (step a)))
    by-node (inr a) = inl a

-- `nearest::fill` meets its contract: after i turns the places below i are filled.
use Prim.Native.Nat.{ℕ, ◌+◌, ◌*◌}
use mathlib.Core.Path.{◌≡◌, refl, ap, ◌∙◌, subst}
use mathlib.Core.List.{List}
use native.Mathlib.Omega.{arith}
use lib.ListN.{length, get_or, set, length-set}
use Rattle.std.specs.Prelude.{None}
use Rattle.nearest.specs.Stages.{FilledIn, corner_shown, distance_shown}
use Rattle.nearest.proofs.Places.{none-set, place_set}
use Rattle.nearest.proofs.fill.Goals as goal

pub loop-i-init : goal.loop-i-init
loop-i-init c =
    let bs = c.args.bests.now in
    (c.requires.room, c.requires.by_index, refl, none-set (λ (k : ℕ). corner_shown (get_or bs k None)) (λ (k : ℕ). distance_shown (get_or bs k None)) c.args.answers.now)

pub show-requires : goal.show-requires
show-requires c = c.loop-i.invariant.1 _ c.loop-i-test.true

pub loop-i-preserved : goal.loop-i-preserved
loop-i-preserved c =
    let bs = c.args.bests.now in
    let i = c.loop-i.invariant in
    let v = get_or c.show.result 0 0 in
    let d = get_or c.show.result 1 0 in (
      i.0,
      i.1,
      length-set (set c.loop-i.answers (2 * c.loop-i.i) v) (2 * c.loop-i.i + 1) d ∙ length-set c.loop-i.answers (2 * c.loop-i.i) v ∙ i.2,
      place_set (λ (k : ℕ). corner_shown (get_or bs k None)) (λ (k : ℕ). distance_shown (get_or bs k None)) c.loop-i.i c.args.answers.now c.loop-i.answers (omega (arith, i.0)) i.3 v d
          (ap (λ (l : List ℕ). get_or l 0 0) c.show.ensures) (ap (λ (l : List ℕ). get_or l 1 0) c.show.ensures),
    )

pub returns : goal.returns
returns c =
    let e : c.loop-i.i ≡ length c.args.bests.now = omega arith in
    subst (λ (k : ℕ). FilledIn k c.args.bests.now c.args.answers.now c.loop-i.answers) e c.loop-i.invariant.3

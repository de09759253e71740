-- `closing::first_side` meets its contract: at the loop's head no side of the kind that is sought starts below u.
use Prim.Native.Nat.{ℕ}
use mathlib.Core.Path.{◌∙◌, subst}
use native.Mathlib.Omega.{arith}
use native.Mathlib.Numerals.{add-one}
use borrow.Author.Count.{below_more}
use Rattle.surface.specs.Triangle.{triangles}
use Rattle.closing.specs.Locating.{Least, Wrong, IsFirst}
use Rattle.closing.proofs.Locating.{none-at, first-at, none_below, first-some}
use Rattle.closing.proofs.first_side.Goals as goal

pub returns-in-Some : goal.returns-in-Some
returns-in-Some c =
    let e = c.smallest_end.ensures in
    let cs = c.args.corners.now in
    let least = subst (Least (Wrong c.args.fault (triangles cs) c.loop-u.u) c.args.points) c.in-Some.is e.least in
    record {
      far = e.far ∙ c.loop-u.invariant.far ∙ c.prepare.ensures.far;
      first = first-some (first-at cs c.args.points c.requires.lent.thirds c.requires.lent.below c.args.fault c.loop-u.u c.in-Some.end least c.loop-u.invariant.passed);
    }

pub loop-u-preserved : goal.loop-u-preserved
loop-u-preserved c =
    let e = c.smallest_end.ensures in
    let cs = c.args.corners.now in
    let fault = c.args.fault in
    let least = subst (Least (Wrong fault (triangles cs) c.loop-u.u) c.args.points) c.in_default.is e.least in
    record {
      size = c.smallest_end.auto.work ∙ c.loop-u.invariant.size;
      ready = rw add-one e.ready;
      far = e.far ∙ c.loop-u.invariant.far;
      passed = below_more (λ (x : ℕ). (y : ℕ) → Wrong fault (triangles cs) x y → ⊥) c.loop-u.u c.loop-u.invariant.passed
          (none-at cs c.args.points c.requires.lent.thirds c.requires.lent.below fault c.loop-u.u least);
    }

pub returns : goal.returns
returns c =
    record {
      far = c.loop-u.invariant.far ∙ c.prepare.ensures.far;
      first = unfold IsFirst in none_below c.args.corners.now c.args.points c.requires.lent.thirds c.requires.lent.below c.args.fault (λ x h. c.loop-u.invariant.passed x (omega arith));
    }

-- `closing::locate` meets its contract: no side that is sought starts below the corner, and where there is none at all the corner is split (`Locating`).
use mathlib.Core.Path.{◌∙◌}
use native.Mathlib.Omega.{arith}
use borrow.Author.Rules.{rules}
use Rattle.surface.specs.Triangle.{triangles}
use Rattle.closing.specs.declared.Fault.TheVariants.{Repeated, Lone}
use Rattle.closing.specs.Locating.{Wrong}
use Rattle.closing.proofs.Locating.{none_before, first_found, first-none, finds_repeated, finds-lone, paired_of, finds_split}
use Rattle.closing.proofs.locate.Goals as goal

-- where a side is sought, none of either kind starts below the corner
pub first_side-requires-clause-v_le_points : goal.first_side-requires-clause-v_le_points
first_side-requires-clause-v_le_points c =
    let first = c.requires.first_unringed in
    let no-repeated = none_before _ c.requires.lent.thirds Repeated first in
    let no-lone = none_before _ c.requires.lent.thirds Lone first in
    (omega (arith, first.low), search rules)

pub returns-in-Some : goal.returns-in-Some
returns-in-Some c =
    let cs = c.args.corners.now in
    let e = c.first_side.ensures in
    record { far = e.far; finds = finds_repeated cs (first_found (Wrong Repeated (triangles cs)) c.in-Some.is e.first) }

pub first_side-requires-2-clause-v_le_points : goal.first_side-requires-2-clause-v_le_points
first_side-requires-2-clause-v_le_points c =
    let first = c.requires.first_unringed in
    let no-repeated = none_before _ c.requires.lent.thirds Repeated first in
    let no-lone = none_before _ c.requires.lent.thirds Lone first in
    (omega (arith, first.low), search rules)

pub returns-in-Some-first_side : goal.returns-in-Some-first_side
returns-in-Some-first_side c =
    let cs = c.args.corners.now in
    let e = c.first_side-2.ensures in
    record {
      far = e.far ∙ c.first_side.ensures.far;
      finds = finds-lone cs (first-none (Wrong Repeated (triangles cs)) c.in_default.is c.first_side.ensures.first) (first_found (Wrong Lone (triangles cs)) c.in-Some-first_side.is e.first);
    }

pub returns : goal.returns
returns c =
    let cs = c.args.corners.now in
    let paired = paired_of cs (first-none (Wrong Repeated (triangles cs)) c.in_default.is c.first_side.ensures.first) (first-none (Wrong Lone (triangles cs)) c.in_default-first_side.is c.first_side-2.ensures.first) in
    record {
      far = c.first_side-2.ensures.far ∙ c.first_side.ensures.far;
      finds = finds_split cs c.args.points c.requires.lent.thirds paired c.args.v c.requires.first_unringed;
    }

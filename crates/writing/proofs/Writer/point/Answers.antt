-- `writing::Writer::point` meets its contract.
use Rattle.std.proofs.Common.{arith, refl, ◌∙◌}
use Rattle.sheet.proofs.Signs.{back}
use Rattle.writing.specs.Lists.{list_point}
use Rattle.writing.proofs.Puts.{reach}
use Rattle.writing.proofs.Parts.{point-put, same_number}
use Rattle.writing.proofs.Writer.point.Goals as goal

pub coordinate-requires-2 : goal.coordinate-requires-2
coordinate-requires-2 c =
    let p = reach c.coordinate.ensures.put in
    omega arith

pub coordinate-requires-3 : goal.coordinate-requires-3
coordinate-requires-3 c =
    let p = reach c.coordinate.ensures.put in
    let q = reach c.coordinate-2.ensures.put in
    omega arith

pub returns : goal.returns
returns c =
    let p = list_point c.args.coordinates.now c.args.k in record {
      same = c.coordinate-3.ensures.same ∙ (c.coordinate-2.ensures.same ∙ c.coordinate.ensures.same);
      put =
          point-put p
          (same_number _ p.x 32 (back p.x p.x refl (omega arith)) c.coordinate.ensures.put)
          (same_number _ p.y 32 (back p.y p.y refl (omega arith)) c.coordinate-2.ensures.put)
          (same_number _ p.z 10 (back p.z p.z refl (omega arith)) c.coordinate-3.ensures.put);
    }

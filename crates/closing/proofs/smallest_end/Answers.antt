-- `closing::smallest_end` meets its contract: the ends of lone sides are those without a stamp, once the corners from which sides come are stamped.
use mathlib.Core.Path.{sym, subst}
use Rattle.surface.specs.Triangle.{triangles}
use Rattle.closing.specs.declared.Fault.{Fault}
use Rattle.closing.specs.Locating.{Least, Wrong}
use Rattle.closing.proofs.Locating.{unmet-lone}
use Rattle.closing.proofs.smallest_end.Goals as goal

pub returns-in-Lone : goal.returns-in-Lone
returns-in-Lone c =
    let cs = c.args.corners.now in
    let p = c.args.points in
    let u = c.args.u in
    let r = c.smallest_unstamped.result in
    let e = c.stamp_origins.ensures in
    record {
      ready = e.ready;
      far = e.far;
      least = subst (λ (fault : Fault). Least (Wrong fault (triangles cs) u) p r) (sym c.in-Lone.is)
          (unmet-lone cs p c.stamp_origins.new.work u r c.requires.ready.sized.thirds e.met c.smallest_unstamped.ensures);
    }

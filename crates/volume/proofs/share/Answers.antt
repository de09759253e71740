-- `volume::share` meets its contract: each operation is exact (`share_cast`). Assumes nothing.
use mathlib.Core.Path.{◌≡◌, ap₂, ◌∙◌}
use Rattle.float.specs.Point.{difference, dotted, crossed}
use Rattle.checking.specs.Validate.{placed}
use Rattle.volume.proofs.Lifted.{share_cast}
use Rattle.volume.proofs.share.Goals as goal

-- the product that is cast
product : (c : goal.After-row_known-1) → c.dot.result ≡ dotted (placed c.args.points.now c.args.a) (crossed (placed c.args.points.now c.args.b) (placed c.args.points.now c.args.c))
product c =
    let o = c.point-origin.ensures in
    let p = c.sub-p.ensures ∙ ap₂ difference c.point.ensures o in
    let q = c.sub-q.ensures ∙ ap₂ difference c.point-2.ensures o in
    let r = c.sub-r.ensures ∙ ap₂ difference c.point-3.ensures o in
    c.dot.ensures ∙ ap₂ dotted p (c.cross.ensures ∙ ap₂ crossed q r)

pub float_to_int-result : goal.float_to_int-result
float_to_int-result c =
    (share_cast c.args.points.now c.requires.0 c.args.a c.args.b c.args.c c.requires.1 c.requires.2 c.requires.3 c.dot.result (product c)).0

pub returns : goal.returns
returns c =
    (share_cast c.args.points.now c.requires.0 c.args.a c.args.b c.args.c c.requires.1 c.requires.2 c.requires.3 c.dot.result (product c)).1

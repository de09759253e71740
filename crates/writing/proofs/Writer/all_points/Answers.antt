-- `writing::Writer::all_points` meets its contract.
use Rattle.std.proofs.Common.{arith, refl, subst, ◌≡◌, ◌*◌, ◌∙◌, ℕ}
use Rattle.sheet.specs.Text.{lines}
use Rattle.sheet.specs.Sheet.{point_line}
use Rattle.writing.specs.Lists.{each, list_point}
use Rattle.writing.specs.Stages.{Writes}
use Rattle.writing.proofs.Puts.{put-nothing, reach}
use Rattle.writing.proofs.Parts.{line-more}
use Rattle.writing.proofs.Writer.all_points.Goals as goal

pub loop-k-init : goal.loop-k-init
loop-k-init c = record { same = refl; put = put-nothing _ _ }

pub point-requires : goal.point-requires
point-requires c =
    let p = reach c.loop-k.invariant.put in
    (omega arith, omega arith)

pub loop-k-preserved : goal.loop-k-preserved
loop-k-preserved c = record {
  same = c.point.ensures.same ∙ c.loop-k.invariant.same;
  put = line-more point_line (list_point c.args.coordinates.now) refl c.loop-k.invariant.put c.point.ensures.put;
}

pub returns : goal.returns
returns c =
    let all : c.loop-k.k ≡ c.args.count = omega arith in
    subst (λ (n : ℕ). Writes (lines point_line (each (list_point c.args.coordinates.now) n)) (n * 36) c.args.self.now c.loop-k.self) all c.loop-k.invariant

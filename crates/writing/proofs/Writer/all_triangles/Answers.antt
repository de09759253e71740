-- `writing::Writer::all_triangles` meets its contract.
use Rattle.std.proofs.Common.{arith, refl, subst, ◌≡◌, ◌*◌, ◌∙◌, ℕ}
use Rattle.sheet.specs.Text.{lines}
use Rattle.sheet.specs.Sheet.{triangle_line}
use Rattle.writing.specs.Lists.{each, list_triangle}
use Rattle.writing.specs.Stages.{Writes}
use Rattle.writing.proofs.Puts.{put-nothing, reach}
use Rattle.writing.proofs.Parts.{line-more}
use Rattle.writing.proofs.Writer.all_triangles.Goals as goal

pub loop-k-init : goal.loop-k-init
loop-k-init c = record { same = refl; put = put-nothing _ _ }

pub triangle-requires : goal.triangle-requires
triangle-requires c =
    let p = reach c.loop-k.invariant.put in
    (omega arith, omega arith, omega arith)

pub loop-k-preserved : goal.loop-k-preserved
loop-k-preserved c = record {
  same = c.triangle.ensures.same ∙ c.loop-k.invariant.same;
  put = line-more triangle_line (list_triangle c.args.corners.now c.args.labels.now) refl c.loop-k.invariant.put c.triangle.ensures.put;
}

pub returns : goal.returns
returns c =
    let all : c.loop-k.k ≡ c.args.count = omega arith in
    subst (λ (n : ℕ). Writes (lines triangle_line (each (list_triangle c.args.corners.now c.args.labels.now) n)) (n * 44) c.args.self.now c.loop-k.self) all c.loop-k.invariant

-- The verdict of every call (document 01, "Verdict" and "Questions in turn"; the Rust's `validate`): the points are three numbers each, the triangles three corner numbers each. Definitions only.
use Rattle.std.specs.Prelude.{ℕ, ◌+◌, ◌*◌, ◌/◌, ◌≡◌, Bool, ◌||◌, cond, eqb, leb, length, get_or, Float}
use mathlib.Core.List.{List, foldl}
use Rattle.std.specs.Float.{nan}
use Rattle.float.specs.Order.{lesser}
use Rattle.float.specs.Point.{plus, difference}
use Rattle.float.specs.declared.Point.{Point}
use Rattle.surface.specs.Triangle.{Tri, triangles}
use Rattle.surface.specs.Finding.{finding}
use Rattle.questions.specs.Questions.{lent_questions, work_after}
use Rattle.questions.specs.Refusal.{on_finding, Asked}
use Rattle.quality.specs.Quality.{number, quality, wedge, degenerate}
use Rattle.checking.specs.Verdict.{Verdict, accepted, number_of}
use Rattle.questions.specs.declared.Refusal.TheVariants.{CornerMissing, Degenerate, Volume}
use Rattle.std.specs.Prelude.{Ok, Err}

-- the point of a number, and the same measured from point 0
abbrev pub point_at : List Float → ℕ → Point
point_at points i = record { x = get_or points (3 * i) nan; y = get_or points (3 * i + 1) nan; z = get_or points (3 * i + 2) nan }

abbrev pub placed : List Float → ℕ → Point
placed points i = difference (point_at points i) (point_at points 0)

abbrev pub quality_at : List Float → Tri → Float
quality_at points t = quality (placed points t.a) (placed points t.b) (placed points t.c)

abbrev pub wedge_at : List Float → Tri → Float
wedge_at points t = wedge (placed points t.a) (placed points t.b) (placed points t.c)

-- a corner of the triangle is not below n
abbrev pub outside : ℕ → Tri → Bool
outside n t = leb n t.a || (leb n t.b || leb n t.c)

-- Questions 5 and 6 of one more triangle: are its corners on the list, and is its quality finite and above 0? Then its quality may lower the minimum, and its share goes to the volume.
unfoldable pub next : List Float → Verdict → Tri → Verdict
next points (Err why) t = Err why
next points (Ok so_far) t =
    cond (outside (length points / 3) t) (Err CornerMissing)
    (cond (degenerate (quality_at points t)) (Err Degenerate)
    (accepted (lesser so_far.quality (quality_at points t)) (plus so_far.volume (wedge_at points t))))

-- triangle by triangle, the minimum from 1 and the volume from 0
unfoldable pub measured : List Float → List ℕ → Verdict
unfolding next
measured points corners = foldl (next points) (accepted (number 1) (number 0)) (triangles corners)

-- the verdict where questions come before it
abbrev pub verdict_after : Asked → Verdict → Verdict
verdict_after (Ok _) verdict = verdict
verdict_after (Err why) verdict = Err why

-- Questions 7 and 8, of the whole: do (b) and (c) hold, and is the volume finite and above 0?
abbrev pub as_whole : List Tri → Verdict → Verdict
as_whole ts (Err why) = Err why
as_whole ts (Ok measures) =
    verdict_after (on_finding (finding ts)) (cond (degenerate measures.volume) (Err Volume) (Ok measures))

-- Questions 5 to 8; without triangles none is asked, and the surface is accepted with 0 and 0
unfoldable pub examined : List Float → List ℕ → Verdict
unfolding measured finding
examined points corners =
    cond (eqb (length corners) 0) (accepted (number 0) (number 0)) (as_whole (triangles corners) (measured points corners))

-- the verdict: questions 1 to 4, then the others
unfoldable pub validated : (points : List Float) (corners labels work : List ℕ) → Verdict
unfolding lent_questions examined
validated points corners labels work = verdict_after (lent_questions points corners labels work) (examined points corners)

-- what `validate` promises of every call: its answer and the work words
pub record Validated (points : List Float) (corners labels work work' : List ℕ) (verdict : Verdict) : Type 0 where
  pub answer : verdict ≡ validated points corners labels work
  pub words : work' ≡ work_after (number_of verdict) points corners work

-- In readable form: what a surface has that passes all questions that improving and editing share (`surface_questions` is `Ok` exactly then: `admitted_iff` of proofs/Laws). Definitions only.
use Rattle.std.specs.Prelude.{ℕ, ◌/◌, ◌%◌, ◌<◌, ◌≤◌, ◌≡◌, true, false, List, length, get_or, Float}
use Rattle.std.specs.Float.{nan}
use Rattle.float.specs.Order.{is_finite}
use Rattle.surface.specs.Triangle.{triangles}
use Rattle.surface.specs.Closed.{Closed}
use Rattle.questions.specs.Labels.{opposed}
use Rattle.questions.specs.Questions.{needed}

pub record Admitted (points : List Float) (corners labels work : List ℕ) : Type 0 where
  pub points_in_threes : length points % 3 ≡ 0
  pub corners_in_threes : length corners % 3 ≡ 0
  pub a-label-each : length labels ≡ length corners / 3
  pub few-points : length points / 3 ≤ 32768
  pub few-triangles : length corners / 3 ≤ 32768
  pub enough-words : needed points corners ≤ length work
  pub finite : (i : ℕ) → i < length points → is_finite (get_or points i nan) ≡ true
  pub known : (i : ℕ) → i < length labels → get_or labels i 0 ≤ 7
  pub listed : (k : ℕ) → k < length corners → get_or corners k 0 < length points / 3
  -- no corner whatever carries two opposed labels
  pub unopposed : (v : ℕ) → opposed (triangles corners) labels v ≡ false
  -- (a) to (d)
  pub closed : Closed (triangles corners)

-- What the private functions are handed and what they leave.
use Rattle.std.specs.Prelude.{ℕ, ◌/◌, ◌%◌, ◌≤◌, ◌≡◌, List, length, get_or, Float}
use Rattle.surface.specs.Triangle.{Tri, tri, triangles}
use Rattle.closing.specs.Closing.{Zeroed}
use Rattle.questions.specs.Questions.{needed, cleared}
use Rattle.checking.specs.Validate.{as_whole, examined}
use Rattle.checking.specs.Verdict.{Verdict}
use Rattle.checking.specs.declared.Measures.{Measures}
use Rattle.std.specs.Prelude.{Ok}

-- the triangle of a list of three corner numbers
abbrev pub tri_of : List ℕ → Tri
tri_of l = tri (get_or l 0 0) (get_or l 1 0) (get_or l 2 0)

-- lists that are counted: questions 1 to 3
pub record Sized (points : List Float) (corners work : List ℕ) : Type 0 where
  pub thirds : length corners % 3 ≡ 0
  pub few-points : length points / 3 ≤ 32768
  pub few-triangles : length corners / 3 ≤ 32768
  pub room : needed points corners ≤ length work

-- after questions 5 to 8, and after 7 and 8
pub record Examined (points : List Float) (corners work work' : List ℕ) (verdict : Verdict) : Type 0 where
  pub answer : verdict ≡ examined points corners
  pub words : work' ≡ cleared (needed points corners) work

pub record WholeAsked (corners : List ℕ) (p : ℕ) (measures : Measures) (work work' : List ℕ) (verdict : Verdict) : Type 0 where
  pub answer : verdict ≡ as_whole (triangles corners) (Ok measures)
  pub words : Zeroed corners p work work'

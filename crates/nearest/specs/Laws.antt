-- What holds of the answers (document 02, F-11), in readable form. Statements only; `nearest-laws` of proofs/Laws proves them of `Answers`.
use Rattle.std.specs.Prelude.{ℕ, ◌+◌, ◌*◌, ◌/◌, ◌≤◌, ◌<◌, ◌≡◌, List, length, get_or, take, drop, Float, Ok}
use Rattle.surface.specs.Triangle.{triangles}
use Rattle.surface.specs.Closed.{InUse}
use Rattle.units.specs.Units.{WholePoint, units_at}
use Rattle.nearest.specs.Nearest.{apart}
use Rattle.nearest.specs.Call.{nearest_questions, answers_after}

-- v is the nearest corner in use, and d its squared distance: no corner in use is nearer, and one at the same distance has no smaller number
pub record Closest (points : List Float) (corners : List ℕ) (probe : WholePoint) (v d : ℕ) : Type 0 where
  pub in_use : InUse (triangles corners) v
  pub distance : d ≡ apart (units_at points v) probe
  pub least : (w : ℕ) → InUse (triangles corners) w → d ≤ apart (units_at points w) probe
  pub first : (w : ℕ) → InUse (triangles corners) w → apart (units_at points w) probe ≡ d → v ≤ w

-- the corner and the distance of an answer place
abbrev pub corner_at : List ℕ → ℕ → ℕ
corner_at answers i = get_or answers (2 * i) 0

abbrev pub distance_at : List ℕ → ℕ → ℕ
distance_at answers i = get_or answers (2 * i + 1) 0

-- the answers of a call that passes the questions, whatever else was lent
pub record Answers (points : List Float) (corners : List ℕ) (probes : List Float) (answers' : List ℕ) : Type 0 where
  pub labels : List ℕ
  pub work : List ℕ
  pub answers : List ℕ
  pub passed : nearest_questions points corners labels work probes (length answers) ≡ Ok tt
  pub places : answers' ≡ answers_after (Ok tt) points corners probes answers

-- the laws of answers, by what they are the answers of
pub record NearestLaws (Says : List Float → List ℕ → List Float → List ℕ → Type 0) : Type 0 where
  -- with a triangle each place has the nearest corner of its probe
  pub closest : (points : List Float) (corners : List ℕ) (probes : List Float) (answers : List ℕ) → Says points corners probes answers → 0 < length corners
      → (i : ℕ) → i < length probes / 3 → Closest points corners (units_at probes i) (corner_at answers i) (distance_at answers i)
  -- which is but one
  pub only : (points : List Float) (corners : List ℕ) (probe : WholePoint) (v d v' d' : ℕ) → Closest points corners probe v d → Closest points corners probe v' d' → (v ≡ v') × (d ≡ d')
  -- without triangles each place has the mark and 0
  pub no_triangles : (points : List Float) (corners : List ℕ) (probes : List Float) (answers : List ℕ) → Says points corners probes answers → length corners ≡ 0
      → (i : ℕ) → i < length probes / 3 → (corner_at answers i ≡ 4294967295) × (distance_at answers i ≡ 0)
  -- each probe's answer is the one that it would get alone
  pub alone : (points : List Float) (corners : List ℕ) (probes : List Float) (answers answer : List ℕ) (i : ℕ) → i < length probes / 3
      → Says points corners probes answers → Says points corners (take 3 (drop (3 * i) probes)) answer → (corner_at answers i ≡ corner_at answer 0) × (distance_at answers i ≡ distance_at answer 0)
  -- and alone it is let in, too
  pub alone-passes : (points : List Float) (corners labels work : List ℕ) (probes : List Float) (words words' : ℕ) → nearest_questions points corners labels work probes words ≡ Ok tt
      → (i : ℕ) → i < length probes / 3 → 2 ≤ words' → nearest_questions points corners labels work (take 3 (drop (3 * i) probes)) words' ≡ Ok tt
  -- 0 stands behind the answers
  pub behind : (points : List Float) (corners : List ℕ) (probes : List Float) (answers : List ℕ) → Says points corners probes answers → (j : ℕ) → 2 * (length probes / 3) ≤ j → get_or answers j 0 ≡ 0

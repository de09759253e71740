-- Page twelve of the user's manual, next printing: "triangle order and the choice of first point don't matter to the volume either" (document 02, F-6). Statements only; `six-laws` and `report_laws` of `proofs/Volume` prove them.
use Rattle.std.specs.Prelude.{ℕ, ◌<◌, ◌≡◌, List, length, get_or, ℤ, Float}
use Rattle.surface.specs.Triangle.{Tri, triangles}
use Rattle.surface.specs.Renumber.{renumbered}
use Rattle.surface.specs.Closed.{sides}
use Rattle.surface.specs.PageTwelve.{Relisted}
use Rattle.checking.specs.Validate.{validated}
use Rattle.units.specs.Units.{WholePoint, AllOnUnits, units_at}
use Rattle.volume.specs.Six.{six}
use Rattle.volume.specs.Error.{NearExact, NearEachOther}
use Rattle.checking.specs.Verdict.{accepted}

-- each directed side's reverse occurs as often as the side
abbrev pub Balanced : List Tri → Type 0
Balanced ts = (u v : ℕ) → sides ts u v ≡ sides ts v u

-- A surface listed anew: each corner has another number and lies where it lay, so that another point may be the first; the triangles come in any order, and the turn of each begins at any corner.
-- (Nothing is asked of points that no triangle names: they may come and go.)
pub record ListedAnew (points : List Float) (corners : List ℕ) (points' : List Float) (corners' : List ℕ) : Type 0 where
  pub number : ℕ → ℕ
  pub kept : (k : ℕ) → k < length corners → units_at points' (number (get_or corners k 0)) ≡ units_at points (get_or corners k 0)
  pub listed : Relisted (renumbered number (triangles corners)) (triangles corners')

-- how many triangles
abbrev pub many : List ℕ → ℕ
many corners = length (triangles corners)

-- six times the exact volume, measured from o
abbrev pub six_of : List Float → List ℕ → WholePoint → ℤ
six_of points corners o = six o (units_at points) (triangles corners)

-- ---- the exact volume

pub record SixLaws : Type 0 where
  -- "triangle order [doesn't] matter to the volume either": of any triangles over any whole points, in any order, with any turn's beginning
  pub any_listing : (point : ℕ → WholePoint) (ts us : List Tri) → Relisted ts us → (o : WholePoint) → six o point ts ≡ six o point us
  -- "the choice of first point [doesn't] matter to the volume either": any point may be the origin
  pub any_origin : (point : ℕ → WholePoint) (ts : List Tri) → Balanced ts → (o o' : WholePoint) → six o point ts ≡ six o' point ts

-- ---- the reported volume

-- an accepted surface of at least one triangle, whose coordinates are all whole units in range, with the volume that is reported
pub record Reports (points : List Float) (corners : List ℕ) (volume : Float) : Type 0 where
  pub labels : List ℕ
  pub work : List ℕ
  pub quality : Float
  pub accepted : validated points corners labels work ≡ accepted quality volume
  pub some : 0 < length corners
  pub units : AllOnUnits points

-- What holds wherever a volume is reported: of `Reports`, and so of every call of `lanovishel_check` that answers 0 (`lanovishel/specs/Volume`).
pub record ReportLaws (Reported : List Float → List ℕ → Float → Type 0) : Type 0 where
  -- "triangle order and the choice of first point don't matter to the volume either": an accepted surface has one exact volume, however it is listed
  pub one-volume : {points points' : List Float} {corners corners' : List ℕ} {volume : Float} → Reported points corners volume → ListedAnew points corners points' corners'
      → (o o' : WholePoint) → six_of points corners o ≡ six_of points' corners' o'
  -- "triangle order and the choice of first point don't matter to the volume either": of that one volume the reported one is within m * m / 2 ^ 33
  pub reported_near : {points : List Float} {corners : List ℕ} {volume : Float} → Reported points corners volume → (o : WholePoint) → NearExact (many corners) volume (six_of points corners o)
  -- "triangle order and the choice of first point don't matter to the volume either": two listings, both accepted, report volumes that differ by at most twice that
  pub relisted-near : {points points' : List Float} {corners corners' : List ℕ} {volume volume' : Float} → Reported points corners volume → Reported points' corners' volume'
      → ListedAnew points corners points' corners' → NearEachOther (many corners) volume volume'

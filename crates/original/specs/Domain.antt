-- Document 01's domain ("Round"), of the Rust's own rounds: no round begins with a piece of just four corners, and no side is collapsed of such a piece that a round has come to by its earlier collapses. Definitions only.
use Rattle.std.specs.Prelude.{ℕ, ◌<◌, ◌≡◌, List, ◌∷◌, ◌++◌, Float}
use Rattle.surface.specs.Triangle.{Tri}
use Rattle.rounds.specs.Pass.{State, retain}
use Rattle.rounds.specs.Choices.{Side, collapse_start}
use Rattle.oracle.specs.Round.{Mesh, Sheet, Result, seen}
use Rattle.oracle.specs.Spared.{Four}
use Rattle.original.specs.Collapse.{best, found, pass}
use Rattle.original.specs.Sorted.{candidates}
use Rattle.original.specs.Flip.{done}
use Rattle.original.specs.Improve.{improve}

-- how far a round that begins with the mesh m has come before a candidate, when it has met those of the list
abbrev pub state_after : Sheet → Mesh → List Side → State
state_after f m met = pass (seen f m.points) m.pair (collapse_start m.pair) met

-- the triangles at that point: the faces that are not removed
abbrev pub present : State → List Tri
present st = retain st.gone st.tris

-- a round that begins with the mesh m
pub record RoundWithin (f : Sheet) (m : Mesh) : Type 0 where
  -- it begins with no piece of just four corners
  pub begins : (a b c d : ℕ) → Four m.pair.tris a b c d → ⊥
  -- and at no candidate is a side collapsed whose ends are two of the four corners of such a piece by then
  pub comes_to : (met : List Side) (candidate : Side) (left : List Side) → candidates (seen f m.points) m.pair ≡ met ++ (candidate ∷ left)
      → (keep remove : ℕ) (minimum : Float) → found (seen f m.points) m.pair (state_after f m met) candidate ≡ best keep remove minimum
      → (c d : ℕ) → Four (present (state_after f m met)) keep remove c d → ⊥

-- every one of n rounds on the mesh m: round i + 1 begins with what i rounds leave
pub record Domain (f : Sheet) (n : ℕ) (m : Mesh) : Type 0 where
  pub each : (i : ℕ) → i < n → (r : Result) → improve f i m ≡ done r → RoundWithin f r.mesh

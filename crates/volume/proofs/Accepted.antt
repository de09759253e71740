-- An accepted surface, with triangles or without: each directed side's reverse occurs as often as the side, and `exact` may be handed it where it is on whole units. Assumes nothing.
use Prim.Native.Nat.{ℕ}
use mathlib.Core.Path.{◌≡◌, refl}
use mathlib.Core.List.{List, [], ◌∷◌}
use native.Mathlib.Omega.{arith}
use lib.Ieee.{Float}
use Rattle.surface.specs.Triangle.{triangles}
use Rattle.surface.specs.Closed.{sides}
use Rattle.questions.proofs.Counted.{Counted, lent-passed}
use Rattle.checking.specs.Validate.{validated}
use Rattle.checking.proofs.Laws.{accepted-lent, sound}
use Rattle.units.specs.Units.{AllOnUnits}
use Rattle.volume.specs.Volume.{Balanced}
use Rattle.volume.specs.Exact.{Measurable}
use Rattle.volume.proofs.Sides.{paired_balanced}
use Rattle.checking.specs.Verdict.{accepted}

pub balanced : (points : List Float) (corners labels work : List ℕ) (quality volume : Float) → validated points corners labels work ≡ accepted quality volume → Balanced (triangles corners)
unfolding triangles sides
balanced points [] labels work quality volume e u v = refl
balanced points (x ∷ l) labels work quality volume e u v = paired_balanced (sound points (x ∷ l) labels work quality volume e (omega arith)).paired u v

pub counted : (points : List Float) (corners labels work : List ℕ) (quality volume : Float) → validated points corners labels work ≡ accepted quality volume → Counted points corners labels work
counted points corners labels work quality volume e = (lent-passed points corners labels work (accepted-lent points corners labels work quality volume e)).0

pub measurable : (points : List Float) (corners labels work : List ℕ) (quality volume : Float) → validated points corners labels work ≡ accepted quality volume → AllOnUnits points → Measurable points corners
measurable points corners labels work quality volume e on =
    let c = counted points corners labels work quality volume e in
    record { units = on; thirds = c.corners; few = c.few-triangles; below = λ k l. (sound points corners labels work quality volume e (omega arith)).below k l }

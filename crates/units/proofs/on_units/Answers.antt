-- `units::on_units` meets its contract.
use Prim.Native.Nat.{ℕ, ◌<◌}
use mathlib.Core.Path.{◌≡◌, refl}
use mathlib.Core.Logic.{◌↔◌}
use mathlib.Core.Bool.{Bool, true, false, false≢true}
use mathlib.Core.List.{List}
use native.Mathlib.Omega.{arith}
use lib.ListN.{length}
use lib.Ieee.{Float, nan}
use Rattle.std.proofs.Common.{rules, tests}
use Rattle.std.proofs.lemmas.Iterator.{cases_from_all, YieldsList-from_slice}
use Rattle.std.specs.Bool.{MatchBool}
use Rattle.std.specs.List.{AllWithin, HoldsAt}
use Rattle.units.specs.Units.{OnUnits, AllOnUnits}
use Rattle.units.proofs.on_units.Goals as goal

all-on : (l : List Float) (r : Bool) → MatchBool r (AllWithin OnUnits l 0 (length l)) ((k : ℕ) × (k < length l) × HoldsAt (λ x. OnUnits x → ⊥) l k) → (r ≡ true) ↔ AllOnUnits l
all-on l true h = ((λ e i k. h i nan (omega arith) k), λ g. refl)
all-on l false (k, low, off) = ((λ e. absurd (false≢true e)), λ g. absurd (off nan (g k low)))

pub returns : goal.returns
returns c =
    all-on c.args.points.now _
    (cases_from_all _ _ _ OnUnits (λ x. OnUnits x → ⊥) c.all.ensures.ran (YieldsList-from_slice c.args.points.now cc) (λ x q k. search (rules, tests)) (λ x q k. search (rules, tests)))

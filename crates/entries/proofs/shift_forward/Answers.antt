-- `entries::shift_forward` meets its contract: the elements below i have moved, or nothing followed.
use Rattle.entries.proofs.Moved.{Shifting, shifting_on, shifting_off, shifting_end}
use Rattle.entries.proofs.Turns.{turning_start}
use native.Mathlib.Omega.{arith}
use mathlib.Core.Path.{◌≡◌, subst}
use Prim.Native.Nat.{ℕ}
use Rattle.entries.proofs.shift_forward.Goals as goal

pub loop-i-init : goal.loop-i-init
loop-i-init g c = turning_start _ _ _

pub loop-i-preserved : goal.loop-i-preserved
loop-i-preserved g c = shifting_on c.args.by c.loop-i.invariant c.index-part-i.result c.index-part-i.is (omega (arith, c.saturating_sub-end.ensures))

pub loop-k-init : goal.loop-k-init
loop-k-init g c =
    let e : c.loop-i.i ≡ c.saturating_sub-end.result = omega arith in
    subst (λ (i : ℕ). Shifting c.args.zero c.args.by i c.args.part.now c.loop-i.part) e c.loop-i.invariant

pub loop-k-preserved : goal.loop-k-preserved
loop-k-preserved g c = shifting_off c.args.by c.loop-k.invariant (omega (arith, c.saturating_sub-end.ensures)) (omega arith)

pub returns : goal.returns
returns g c = shifting_end c.args.by c.loop-k.invariant (omega (arith, c.saturating_sub-end.ensures))

-- `closing::clear_needed` meets its contract: it clears 32 words for each triangle and 16 for each point.
use Prim.Native.Nat.{ℕ, ◌+◌, ◌*◌, ◌/◌}
use mathlib.Core.Path.{◌≡◌, ap, ◌∙◌}
use mathlib.Core.List.{◌++◌}
use native.Mathlib.Omega.{arith}
use lib.ListN.{length, drop, replicate}
use Rattle.closing.specs.Closing.{needed}
use Rattle.closing.proofs.clear_needed.Goals as goal

pub returns : goal.returns
returns c =
    let cs = c.args.corners.now in
    let p = c.args.points in
    let m : length cs / 3 * 32 + p * 16 ≡ needed cs p = omega arith in
    c.clear.ensures ∙ ap (λ (n : ℕ). replicate n 0 ++ drop n c.args.work.now) m

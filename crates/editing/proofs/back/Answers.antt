-- `editing::back` meets its contract.
use Prim.Native.Nat.{ℕ}
use mathlib.Core.Path.{sym, subst₂}
use native.Mathlib.Omega.{arith}
use Rattle.history.specs.Flat.{entry_of}
use Rattle.editing.specs.Held.{Entered}
use Rattle.editing.proofs.Entered.{too_many, entered_back}
use Rattle.editing.proofs.back.Goals as goal

pub returns-then-left-count : goal.returns-then-left-count
returns-then-left-count c = too_many c.args.a (omega (arith, c.wide-count.ensures))

pub returns : goal.returns
returns c =
    let t = c.take_back_many.ensures in
    subst₂ (λ (a k : ℕ). Entered c.args.points c.args.corners.now c.args.labels.now c.args.work.now c.args.journal.now c.args.left.triangles c.args.left.edits (entry_of 3 a 0) c.take_back_many.new.corners c.take_back_many.new.labels c.take_back_many.new.work c.take_back_many.new.journal c.take_back_many.result.triangles k 0) c.wide-count.ensures (sym t.1)
    (entered_back c.wide-count.result c.if-left-count.false t.0)

-- `slivers::Pass::touch_around` meets its contract.
use Prim.Native.Nat.{suc, ◌-◌}
use mathlib.Core.Path.{◌≡◌}
use native.Mathlib.Omega.{arith}
use Rattle.slivers.proofs.Turns.{touches-first, touches-state, touches-next, touches-less}
use Rattle.slivers.proofs.Pass.touch_around.Goals as goal

pub loop-q-init : goal.loop-q-init
loop-q-init c = touches-first c.args.self.now.corners.now c.args.self.now.heads c.args.work.now c.args.self.now.chains c.args.self.now.touched c.args.v c.requires.walking c.requires.v_lt_points _ c.word-q.ensures

pub touch-requires-clause-k_in_bounds : goal.touch-requires-clause-k_in_bounds
touch-requires-clause-k_in_bounds c =
    let k-is : c.loop-q.q ≡ suc (c.loop-q.q - 1) = omega arith in
    ((c.loop-q.invariant.onward.names (c.loop-q.q - 1) k-is).1, omega (arith, c.requires.walking.room, (touches-state c.args.self.now.corners.now c.args.self.now.heads c.args.work.now c.args.self.now.chains c.args.self.now.touched c.args.v c.requires.walking c.requires.v_lt_points c.loop-q.q c.loop-q.work c.loop-q.invariant).len))

pub loop-q-smaller : goal.loop-q-smaller
loop-q-smaller c = touches-less c.args.self.now.corners.now c.args.self.now.heads c.args.work.now c.args.self.now.chains c.args.self.now.touched c.args.v c.requires.walking c.requires.v_lt_points c.loop-q.q (c.loop-q.q - 1) c.loop-q.work c.touch.new.work c.word-q-in-loop-q.result (omega arith) c.loop-q.invariant c.touch.ensures c.word-q-in-loop-q.ensures

pub loop-q-preserved : goal.loop-q-preserved
loop-q-preserved c = touches-next c.args.self.now.corners.now c.args.self.now.heads c.args.work.now c.args.self.now.chains c.args.self.now.touched c.args.v c.requires.walking c.requires.v_lt_points c.loop-q.q (c.loop-q.q - 1) c.loop-q.work c.touch.new.work c.word-q-in-loop-q.result (omega arith) c.loop-q.invariant c.touch.ensures c.word-q-in-loop-q.ensures

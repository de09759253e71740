-- `marks::chain_places` meets its contract: at the loop's head the places from k on are chained.
use Prim.Native.Nat.{◌+◌, ◌-◌}
use native.Mathlib.Omega.{arith}
use mathlib.Core.Path.{◌≡◌, sym, subst}
use lib.ListN.{length, drop}
use Rattle.halfedges.proofs.Free.{free_none, free_wider, free_more, free_put, free_cleared}
use Rattle.chains.proofs.Marks.{Chaining, chain_first, chain-last}
use Rattle.marks.proofs.Turns.{front-zeros, zero-at, from-most, chain_turn'}
use Rattle.marks.proofs.chain_places.Goals as goal

pub loop-k-init : goal.loop-k-init
loop-k-init c =
    let e = front-zeros c.args.points c.args.work.now c.fill.new.self (omega (arith, c.requires.corners_in_bounds)) (c.fill.ensures.after (λ y q. q)) in
    record {
      free = free_none _;
      chaining = chain_first c.args.corners.now c.args.points _ (λ v l. zero-at c.args.points v _ (drop c.args.points c.args.work.now) e l);
    }

pub put-requires : goal.put-requires
put-requires c =
    let low = c.requires.lists.below (c.loop-k.k - 1) (omega arith) in
    (omega (arith, c.loop-k.invariant.free.len), omega (arith, c.word-next.ensures, c.loop-k.invariant.chaining.heads c.word-v.result (omega arith), from-most c.args.corners.now c.word-v.result c.loop-k.k (length c.args.corners.now - c.loop-k.k), c.requires.lists.few))

pub loop-k-preserved : goal.loop-k-preserved
loop-k-preserved c =
    let low = c.requires.lists.below (c.loop-k.k - 1) (omega arith) in
    let q : c.loop-k.k - 1 + 1 ≡ c.loop-k.k = omega arith in
    record {
      free = free_put c.word-v.result (c.loop-k.k - 1 + 1) (free_put (c.args.points + (c.loop-k.k - 1)) c.word-next.result c.loop-k.invariant.free c.put.ensures (omega arith) (omega arith)) c.put-in-loop-k.ensures (omega arith) (omega arith);
      chaining = chain_turn' c.args.corners.now c.args.points c.loop-k.work c.put.new.work c.put-in-loop-k.new.work (c.loop-k.k - 1) c.word-v.result (c.loop-k.k - 1 + 1) c.word-next.result c.requires.lists (omega (arith, c.requires.corners_in_bounds)) (omega arith) c.word-v.ensures (omega arith) c.word-next.ensures c.put.ensures c.put-in-loop-k.ensures (subst (Chaining c.args.corners.now c.args.points c.loop-k.work) (sym q) c.loop-k.invariant.chaining);
    }

pub returns : goal.returns
returns c =
    let z : c.loop-k.k ≡ 0 = omega arith in
    let e = front-zeros c.args.points c.args.work.now c.fill.new.self (omega (arith, c.requires.corners_in_bounds)) (c.fill.ensures.after (λ y q. q)) in
    record {
      chained = chain-last c.args.corners.now c.args.points c.loop-k.work (subst (Chaining c.args.corners.now c.args.points c.loop-k.work) z c.loop-k.invariant.chaining);
      rest = free_more (free_wider 0 (0 + c.args.points + length c.args.corners.now) (omega arith) (omega arith) (free_cleared c.args.points c.args.work.now _ (omega (arith, c.requires.corners_in_bounds)) e)) c.loop-k.invariant.free;
    }

-- `writing::settled` meets its contract. Assumes nothing.
use mathlib.Core.Path.{refl}
use Rattle.writing.proofs.Settling.{not_exact, no_room, with_room}
use Rattle.writing.proofs.settled.Goals as goal

pub returns-then-not-exact : goal.returns-then-not-exact
returns-then-not-exact c =
    not_exact c.args.exact c.args.count c.args.written.now _ c.if-not-exact.true (c.fill.ensures.after (λ y e. e))

pub returns-then-not-room : goal.returns-then-not-room
returns-then-not-room c =
    no_room c.args.exact c.args.count c.args.written.now _ c.if-not-exact.false c.if-not-room.true (c.fill-then-not-room.ensures.after (λ y e. e))

pub returns : goal.returns
returns c =
    with_room c.args.exact c.args.count c.args.written.now _ c.if-not-exact.false c.if-not-room.false refl

use borrow.Author.Tests.{eq-eqb, ne_eqb}
use Rattle.entries.proofs.put_for.Goals as goal

-- src/lib.rt:354:1
pub returns-then-x-b : goal.returns-then-x-b
returns-then-x-b c = rw (eq-eqb _ _ c.if-x-b.true)

-- src/lib.rt:354:1
pub returns-else-x-b : goal.returns-else-x-b
returns-else-x-b c = rw (ne_eqb _ _ c.if-x-b.false)

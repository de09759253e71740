-- Chains made in a part of the words that is lent and put back. Definitions only.
use Rattle.std.specs.Prelude.{ℕ, ◌+◌, List, length}
use Rattle.halfedges.specs.Free.{Free}
use Rattle.chains.specs.Chain.{Chained}

-- the chains stand from `chains` on, and no other word changes
pub record ChainedAt (c : List ℕ) (p chains : ℕ) (w w' : List ℕ) : Type 0 where
  pub chained : Chained c p w' chains
  pub rest : Free chains (chains + p + length c) w w'

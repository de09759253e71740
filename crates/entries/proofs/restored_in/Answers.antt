use Rattle.entries.proofs.Mapped.{tri_path}
use Rattle.entries.proofs.restored_in.Goals as goal

pub returns : goal.returns
returns c = tri_path c.again_for.ensures c.again_for-2.ensures c.again_for-3.ensures

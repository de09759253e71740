-- `entries::collapse_in` meets its contract: the corner renamed, then both triangles and their labels taken out.
use Rattle.entries.proofs.Edits.{collapse-made}
use Rattle.entries.proofs.collapse_in.Goals as goal

pub returns : goal.returns
returns c =
    collapse-made c.args.h c.requires c.rename_all.ensures c.remove_triangles.ensures c.remove_labels.ensures

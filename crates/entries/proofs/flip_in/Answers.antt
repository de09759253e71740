use Rattle.surface.specs.Flat.{put_at}
use Rattle.surface.specs.Triangle.{tri}
use mathlib.Core.Path.{◌∙◌, ap}
use mathlib.Core.List.{List}
use Prim.Native.Nat.{ℕ}
use Rattle.entries.proofs.flip_in.Goals as goal

pub returns : goal.returns
returns c = c.put_triangle-2.ensures ∙ ap (λ (m : List ℕ). put_at m c.args.h.later (tri c.args.h.d c.args.h.c c.args.h.u)) c.put_triangle.ensures

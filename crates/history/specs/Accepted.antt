-- An accepted edit of a pair of lists, whatever the journal has room for. Definitions only.
use Rattle.std.specs.Prelude.{◌<◌, ◌≡◌, true}
use Rattle.surface.specs.Closed.{sides, Closed}
use Rattle.surface.specs.Edit.{hinge, flip, collapse}
use Rattle.history.specs.History.{Pair, Entry, label, covered, flipped, collapsed, made}

-- The side exists; a flip has one label on both sides, a collapse no label at b that a lacks; and the list made is closed.
pub data Edit (p : Pair) (e : Entry) : Type 0 where
  flips : e.kind ≡ 1 → 0 < sides p.tris e.a e.b → label p (hinge p.tris e.a e.b).p1 ≡ label p (hinge p.tris e.a e.b).p2
      → Closed (flip e.a e.b p.tris) → made p e ≡ flipped p e.a e.b → Edit p e
  collapses : e.kind ≡ 2 → 0 < sides p.tris e.a e.b → covered p e.a e.b ≡ true
      → Closed (collapse e.a e.b p.tris) → made p e ≡ collapsed p e.a e.b → Edit p e

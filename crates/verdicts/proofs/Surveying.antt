-- One pass over the triangles that flags the labels of a and of b and notes the steps around b.
use Prim.Native.Nat.{ℕ, ◌+◌, ◌≤◌, ◌<◌}
use mathlib.Core.Path.{◌≡◌}
use mathlib.Core.Bool.{Bool}
use mathlib.Core.List.{List}
use native.Mathlib.Omega.{arith}
use lib.ListN.{get_or, take}
use Rattle.surface.specs.Flat.{tri_of, held, three_at}
use Rattle.verdicts.specs.Found.{Labelled}
use Rattle.verdicts.specs.Notes.{Listed, noted}
use Rattle.verdicts.specs.Survey.{flagged, Surveyed}
use Rattle.verdicts.proofs.Cover.{Flagging, flagging_on, flagging_end}
use Rattle.verdicts.proofs.Notes.{Noting, noting_on, noting_end}

-- how far the pass has come: the first i triangles are passed
pub record Surveying (l ls : List ℕ) (n a b k i : ℕ) (f g : List Bool) (w : List ℕ) : Type 0 where
  pub fits : i ≤ n
  pub kept : Flagging (held l n) (take n ls) a i f
  pub removed : Flagging (held l n) (take n ls) b i g
  pub notes : Noting (held l n) b k i w

module _ {l ls : List ℕ} {n a b k i : ℕ} {f g : List Bool} {w : List ℕ} (s : Labelled l ls n) (m : Listed l n k) (h : Surveying l ls n a b k i f g w) where
  pub surveying_on : i < n → (t : List ℕ) → t ≡ three_at l i → (f' : List Bool) → f' ≡ flagged a (tri_of t) (get_or ls i 0) f
      → (g' : List Bool) → g' ≡ flagged b (tri_of t) (get_or ls i 0) g → (w' : List ℕ) → w' ≡ noted b (tri_of t) w → Surveying l ls n a b k (i + 1) f' g' w'
  surveying_on q t e f' ef g' eg w' ew = record {
    fits = omega arith;
    kept = flagging_on s h.kept q t e f' ef;
    removed = flagging_on s h.removed q t e g' eg;
    notes = noting_on m h.notes q t e w' ew;
  }

  pub surveying_end : n ≤ i → Surveyed (held l n) (take n ls) a b (record { kept = f; removed = g }) w
  surveying_end q = record {
    kept = flagging_end s h.kept h.fits q;
    removed = flagging_end s h.removed h.fits q;
    notes = noting_end m h.notes h.fits q;
  }

-- What an accepted surface has: rules (a), (b) and (c), corners on the list, a smallest quality above 0 and at most 1, and a volume that is finite and above 0.
use Prim.Native.Nat.{ℕ, ◌/◌, ◌<◌}
use native.Mathlib.Omega.{arith}
use mathlib.Core.Path.{◌≡◌, refl, sym, ap, ◌∙◌}
use mathlib.Core.Bool.{Bool, true, false}
use mathlib.Core.List.{List}
use lib.Dec.{T}
use lib.ListN.{length, get_or}
use lib.Ieee.{Float, lt, le}
use Rattle.surface.specs.Triangle.{Tri, tri, triangles}
use Rattle.surface.specs.Closed.{around, Ring, InUse, Differ, Paired}
use Rattle.surface.specs.Finding.{finding}
use Rattle.surface.proofs.Findings.{finding-closed}
use Rattle.questions.specs.Questions.{lent_questions}
use Rattle.questions.specs.Refusal.{refusal_number, on_finding, Asked}
use Rattle.questions.specs.declared.Refusal.{Refusal}
use Rattle.questions.proofs.Counted.{not_both, lent-passed}
use Rattle.questions.proofs.Chain.{found_passed}
use Rattle.questions.proofs.Telling.{telling}
use Rattle.quality.specs.Quality.{number, degenerate}
use Rattle.quality.proofs.Lesser.{above_zero, kept_positive}
use Rattle.checking.specs.Verdict.{Verdict, accepted, volume_of}
use Rattle.checking.specs.Validate.{quality_at, measured, as_whole, validated}
use Rattle.checking.proofs.Sound.{never, measures, corners-below}
use Rattle.checking.proofs.Cases.{by_whole, some-triangles, by_first}
use Rattle.std.specs.Prelude.{Ok, Err}

abbrev at : List Tri → ℕ → Tri
at ts i = get_or ts i (tri 0 0 0)

pub record Sound (points : List Float) (corners : List ℕ) (quality volume : Float) : Type 0 where
  -- (a), by way of the floats
  pub differ : (i : ℕ) → i < length (triangles corners) → Differ (at (triangles corners) i)
  -- (b) and (c)
  pub paired : Paired (triangles corners)
  pub ringed : (v : ℕ) → InUse (triangles corners) v → Ring (around (triangles corners) v)
  -- every corner is on the list
  pub below : (k : ℕ) → k < length corners → get_or corners k 0 < length points / 3
  -- 0 < quality ≤ 1, and no triangle's quality is less
  pub above : T (lt (number 0) quality)
  pub at_most_one : T (le quality (number 1))
  pub smallest : (i : ℕ) → i < length (triangles corners) → T (le quality (quality_at points (at (triangles corners) i)))
  -- 0 < volume
  pub encloses : T (lt (number 0) volume)

-- the last two questions are answered by "yes"
record Yes (ts : List Tri) (x : Verdict) (q v : Float) : Type 0 where
  same : x ≡ accepted q v
  closed : on_finding (finding ts) ≡ Ok tt
  kept : degenerate v ≡ false

whole_yes : (ts : List Tri) (x : Verdict) (q v : Float) → as_whole ts x ≡ accepted q v → Yes ts x q v
whole_yes ts (Err why) q v e = absurd (never e)
whole_yes ts (Ok m) q v e = go (on_finding (finding ts)) refl (degenerate m.volume) refl
  where
    go : (a : Asked) → on_finding (finding ts) ≡ a → (d : Bool) → degenerate m.volume ≡ d → Yes ts (Ok m) q v
    go (Err why) p d g = absurd (never (sym (by_whole ts m.quality m.volume p g) ∙ e))
    go (Ok tt) p true g = absurd (never (sym (by_whole ts m.quality m.volume p g) ∙ e))
    go (Ok tt) p false g =
        let u : Ok m ≡ accepted q v = sym (by_whole ts m.quality m.volume p g) ∙ e in
        let same : m.volume ≡ v = ap volume_of u in
        record { same = u; closed = p; kept = ap degenerate (sym same) ∙ g }

module _ (ps : List Float) (cs ls work : List ℕ) (q v : Float) (e : validated ps cs ls work ≡ accepted q v) where
  -- questions 1 to 4
  pub accepted-lent : lent_questions ps cs ls work ≡ Ok tt
  accepted-lent = go (lent_questions ps cs ls work) refl
    where
      go : (a : Asked) → lent_questions ps cs ls work ≡ a → lent_questions ps cs ls work ≡ Ok tt
      go (Ok tt) p = p
      go (Err why) p = absurd (never (sym (by_first ps cs ls work p) ∙ e))

  -- and with at least one triangle the others
  accepted-whole : 0 < length cs → Yes (triangles cs) (measured ps cs) q v
  accepted-whole some = whole_yes (triangles cs) (measured ps cs) q v (some-triangles ps cs (λ z. omega arith) ∙ sym (by_first ps cs ls work accepted-lent) ∙ e)

  pub accepted-measured : 0 < length cs → measured ps cs ≡ accepted q v
  accepted-measured some = (accepted-whole some).same

  pub sound : 0 < length cs → Sound ps cs q v
  sound some =
      let c = (lent-passed ps cs ls work accepted-lent).0 in
      let y = accepted-whole some in
      let m = measures ps cs q v y.same in
      let r = (finding-closed (triangles cs)).0 (found_passed _ y.closed) in
      record {
        differ = λ i l. (m.every i l).corners;
        paired = r.paired;
        ringed = r.ringed;
        below = corners-below ps cs q c.corners m;
        above = above_zero q m.above;
        at_most_one = m.at_most_one;
        smallest = λ i l. (m.every i l).bounds;
        encloses = above_zero v (kept_positive v y.kept);
      }

-- the number is 0 only where the surface is accepted
pub refused-some : (ps : List Float) (cs ls work : List ℕ) (why : Refusal) → validated ps cs ls work ≡ Err why → refusal_number why ≡ 0 → ⊥
refused-some ps cs ls work why e z = not_both (telling (Err why) z) refl

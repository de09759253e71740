-- No accepted edit gives a corner a label that it lacked.
use Prim.Native.Nat.{ℕ, zero, suc, ◌<◌}
use mathlib.Core.Path.{◌≡◌, ap, subst}
use mathlib.Core.Bool.{Bool, true, not, ◌||◌}
use mathlib.Core.List.{List, [], ◌∷◌}
use native.Mathlib.Omega.{arith}
use lib.ListN.{length, get_or}
use Rattle.surface.specs.Check.{every}
use Rattle.surface.specs.Label.{carries, Covers, NoNewLabel}
use Rattle.surface.proofs.Bools.{both, or_second}
use Rattle.surface.proofs.Labels.{carried, flip_no_new, collapse_no_new}
use Rattle.history.specs.History.{Pair, Entry, covered, made}
use Rattle.history.specs.Safe.{Sound}
use Rattle.history.proofs.Verdict.{Edit, flips, collapses}

-- every label that stands in a list passes a test that all of them pass
pub all-at : (f : ℕ → Bool) (ls : List ℕ) (i : ℕ) → every f ls ≡ true → i < length ls → f (get_or ls i 0) ≡ true
unfolding every
all-at f [] i e p = absurd (omega arith)
all-at f (m ∷ ls) zero e p = (both (f m) (every f ls) e).0
all-at f (m ∷ ls) (suc i) e p = all-at f ls i (both (f m) (every f ls) e).1 (omega arith)

-- the test of all labels, as what it says of each
covers : (p : Pair) (a b : ℕ) → covered p a b ≡ true → Covers p.tris p.labels a b
covers p a b e l h =
    let c = carried p.tris p.labels b l h in
    let t = all-at (λ (l : ℕ). not (carries p.tris p.labels b l) || carries p.tris p.labels a l) p.labels c.at e c.fits' in
    or_second (not (carries p.tris p.labels b l)) (carries p.tris p.labels a l)
    (subst (λ (l : ℕ). (not (carries p.tris p.labels b l) || carries p.tris p.labels a l) ≡ true) c.label t)
    (ap not h)

pub no_new-label : (p : Pair) (e : Entry) → Sound p → Edit p e → NoNewLabel p.tris p.labels (made p e).tris (made p e).labels
no_new-label p e s (flips k g m c q) v l t = flip_no_new s.closed p.labels s.labelled e.a e.b g m v l (subst (λ (r : Pair). carries r.tris r.labels v l ≡ true) q t)
no_new-label p e s (collapses k g m c q) v l t =
    collapse_no_new s.closed p.labels s.labelled e.a e.b g (covers p e.a e.b m) v l (subst (λ (r : Pair). carries r.tris r.labels v l ≡ true) q t)

-- The volume of an accepted surface on whole units: the laws of `specs/Volume`.
use Prim.Native.Nat.{ℕ, suc, ◌+◌, ◌*◌, ◌^◌, ◌≤◌, ◌<◌}
use mathlib.Core.Path.{◌≡◌, refl, sym, ap, ◌∙◌, subst, subst₂}
use mathlib.Core.List.{List, [], ◌∷◌}
use native.Mathlib.Nat.{le_trans, le_of_eq, mul_assoc, mul_comm, mul_left_comm, mul-le-mul_right, le_of_mul-le-mul_right}
use native.Mathlib.Omega.{arith}
use lib.Dec.{lit<}
use lib.ListN.{length, length-map}
use lib.IntN.{ℤ, pos, nat_abs, ◌-ℤ◌, ◌*ℤ◌}
use lib.Ieee.{Float, binary64}
use Rattle.integers.proofs.Size.{size-minus, size_product}
use Rattle.integers.proofs.Polynomial.{at, minus, times, identity, vanishes}
use Rattle.rounding.specs.Fraction.{signed_quanta}
use Rattle.surface.specs.Triangle.{Tri, triangles}
use Rattle.surface.specs.Renumber.{renumber}
use Rattle.surface.specs.PageTwelve.{EachTurns, none, more}
use Rattle.surface.proofs.Rings.{length_perm}
use Rattle.units.specs.Units.{WholePoint, units_at}
use Rattle.volume.specs.Error.{NearExact, NearEachOther}
use Rattle.volume.specs.Volume.{Balanced, ListedAnew, Reports, many, six_of, SixLaws, ReportLaws}
use Rattle.volume.proofs.Origin.{six_origin}
use Rattle.volume.proofs.Listing.{six_listing, six-renumbered}
use Rattle.volume.proofs.Accepted.{balanced}
use Rattle.volume.proofs.Reported.{reported_from-first}

-- ---- two that are near to one volume are near to one another

apart : (n n' s f l : ℤ) → f *ℤ (n -ℤ n') ≡ (f *ℤ n -ℤ l *ℤ s) -ℤ (f *ℤ n' -ℤ l *ℤ s)
unfolding vanishes
apart n n' s f l =
    identity (times (at 3) (minus (at 0) (at 1))) (minus (minus (times (at 3) (at 0)) (times (at 4) (at 2))) (minus (times (at 3) (at 1)) (times (at 4) (at 2)))) (n ∷ n' ∷ s ∷ f ∷ l ∷ []) refl

twice : (f l p m : ℕ) (n n' s : ℤ) → 0 < f → nat_abs (pos f *ℤ n -ℤ pos l *ℤ s) * p ≤ f * l * (m * m) → nat_abs (pos f *ℤ n' -ℤ pos l *ℤ s) * p ≤ f * l * (m * m) → nat_abs (n -ℤ n') * p ≤ 2 * l * (m * m)
twice f l p m n n' s F h h' =
    let A = nat_abs (pos f *ℤ n -ℤ pos l *ℤ s) in
    let B = nat_abs (pos f *ℤ n' -ℤ pos l *ℤ s) in
    let size : f * nat_abs (n -ℤ n') ≤ A + B =
    le_trans (le_of_eq (sym (size_product (pos f) (n -ℤ n')) ∙ ap nat_abs (apart n n' s (pos f) (pos l)))) (size-minus (pos f *ℤ n -ℤ pos l *ℤ s) (pos f *ℤ n' -ℤ pos l *ℤ s)) in
    let a : nat_abs (n -ℤ n') * p * f ≡ f * nat_abs (n -ℤ n') * p = simp (mul_assoc, mul_comm, mul_left_comm) in
    let b : 2 * (f * l * (m * m)) ≡ 2 * l * (m * m) * f = simp (mul_assoc, mul_comm, mul_left_comm) in
    le_of_mul-le-mul_right (le_trans (le_of_eq a) (le_trans (mul-le-mul_right p size) (le_trans (both A B p (f * l * (m * m)) h h') (le_of_eq b)))) F
  where
    both : (A B p c : ℕ) → A * p ≤ c → B * p ≤ c → (A + B) * p ≤ 2 * c
    both A B p c x y = omega arith

near-each_other : {m : ℕ} {v v' : Float} {s : ℤ} → NearExact m v s → NearExact m v' s → NearEachOther m v v'
near-each_other {m} {v} {v'} {s} w w' = record {
  finite = w.finite;
  finite' = w'.finite;
  near = twice (6 * 2 ^ 30) (2 ^ 1074) (2 ^ 33) m (signed_quanta binary64 v) (signed_quanta binary64 v') s (lit< tt) w.near w'.near;
}

-- ---- the laws

each-length : {ss ts : List Tri} → EachTurns ss ts → length ss ≡ length ts
each-length none = refl
each-length (more k l) = ap suc (each-length l)

many_anew : {points points' : List Float} {corners corners' : List ℕ} → ListedAnew points corners points' corners' → many corners' ≡ many corners
many_anew {corners = corners} a = sym (length_perm a.listed.same ∙ each-length a.listed.turns) ∙ length-map (triangles corners) (renumber a.number)

is_balanced : {points : List Float} {corners : List ℕ} {volume : Float} → Reports points corners volume → Balanced (triangles corners)
is_balanced {points} {corners} {volume} r = balanced points corners r.labels r.work r.quality volume r.accepted

pub one-six : {points points' : List Float} {corners corners' : List ℕ} → Balanced (triangles corners) → ListedAnew points corners points' corners' → (o o' : WholePoint) → six_of points corners o ≡ six_of points' corners' o'
one-six {points} {points'} {corners} b a o o' =
    six_origin (units_at points) (triangles corners) b o o'
    ∙ six-renumbered o' (units_at points) (units_at points') a.number corners a.kept
    ∙ six_listing o' (units_at points') a.listed

one-volume : {points points' : List Float} {corners corners' : List ℕ} {volume : Float} → Reports points corners volume → ListedAnew points corners points' corners'
    → (o o' : WholePoint) → six_of points corners o ≡ six_of points' corners' o'
one-volume r a = one-six (is_balanced r) a

reported_near : {points : List Float} {corners : List ℕ} {volume : Float} → Reports points corners volume → (o : WholePoint) → NearExact (many corners) volume (six_of points corners o)
reported_near {points} {corners} {volume} r o =
    subst (λ (s : ℤ). NearExact (many corners) volume s) (six_origin (units_at points) (triangles corners) (is_balanced r) (units_at points 0) o) (reported_from-first r)

relisted-near : {points points' : List Float} {corners corners' : List ℕ} {volume volume' : Float} → Reports points corners volume → Reports points' corners' volume'
    → ListedAnew points corners points' corners' → NearEachOther (many corners) volume volume'
relisted-near {points} {points'} {corners} {corners'} {volume} {volume'} r r' a =
    let o = units_at points 0 in
    near-each_other (reported_near r o) (subst₂ (λ (n : ℕ) (s : ℤ). NearExact n volume' s) (many_anew a) (sym (one-volume r a o o)) (reported_near r' o))

pub six-laws : SixLaws
six-laws = record { any_listing = λ point ts us l o. six_listing o point l; any_origin = six_origin }

-- of whatever says as much as `Reports`
pub report_laws_of : (Reported : List Float → List ℕ → Float → Type 0) → ((points : List Float) (corners : List ℕ) (volume : Float) → Reported points corners volume → Reports points corners volume) → ReportLaws Reported
report_laws_of Reported says = record {
  one-volume = λ {points} {points'} {corners} {corners'} {volume} r a. one-volume (says points corners volume r) a;
  reported_near = λ {points} {corners} {volume} r. reported_near (says points corners volume r);
  relisted-near = λ {points} {points'} {corners} {corners'} {volume} {volume'} r r' a. relisted-near (says points corners volume r) (says points' corners' volume' r') a;
}

pub report_laws : ReportLaws Reports
report_laws = report_laws_of Reports (λ points corners volume r. r)

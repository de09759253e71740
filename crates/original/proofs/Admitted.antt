-- A surface that passes the questions (`Admitted` of crate questions) is one that `smooth_impl` takes: question 9 is its test of the labels, 4 that of the points, 5 and 10 those of the faces, 11 that of the masks.
use Prim.Native.Nat.{ℕ, ◌/◌, ◌≤◌, ◌<◌}
use mathlib.Core.Path.{◌≡◌, refl, ap, subst}
use mathlib.Core.Bool.{Bool, true, false, ◌||◌}
use mathlib.Core.List.{List}
use native.Mathlib.Omega.{arith}
use lib.Bits.{bit_and}
use lib.Dec.{eqb, leb}
use lib.Ieee.{Float, nan}
use lib.ListN.{length, get_or}
use borrow.Author.Tests.{eqb-true, le-leb}
use Rattle.float.specs.Order.{is_finite}
use Rattle.surface.specs.Triangle.{triangles, tri}
use Rattle.surface.specs.Closed.{one}
use Rattle.surface.specs.Edit.{place}
use Rattle.surface.specs.Euler.{Below}
use Rattle.surface.specs.Label.{carries}
use Rattle.surface.proofs.Bools.{join, or_none, true_false}
use Rattle.surface.proofs.Reading.{r0, r1, r2}
use Rattle.surface.proofs.Places.{place-has, has-place}
use Rattle.surface.proofs.Euler.{use_has}
use Rattle.surface.proofs.Bridge.{in_use}
use Rattle.questions.specs.Labels.{both, opposed}
use Rattle.questions.specs.Admitted.{Admitted}
use Rattle.history.specs.History.{Pair}
use Rattle.oracle.specs.Round.{Mesh}
use Rattle.chains.proofs.Flat.{thirds-length, reads_spot}
use Rattle.scores.specs.Measures.{pair_of}
use Rattle.original.specs.Maps.{mask}
use Rattle.original.specs.Improve.{good_face, conflict, valid}
use Rattle.original.proofs.Masks.{Few, digit, mask-digit}
use Rattle.original.proofs.Improve.{digit_and, place-every, good-all, all-compatible, valid_of}

-- ---- masks: two labels that no corner carries together are not both in a mask

one-one : (b : Bool) → 1 ≤ one b → b ≡ true
one-one true e = refl
one-one false e = absurd (omega arith)

module _ (p : Pair) (few : Few p.labels) (v : ℕ) where
  carries_bit : (k c : ℕ) → digit k c ≡ 1 → bit_and (mask p.tris p.labels v) c ≡ c → carries p.tris p.labels v k ≡ true
  carries_bit k c q e =
      let d = mask-digit k p v few in
      let a = digit_and k (mask p.tris p.labels v) c in
      let z = ap (digit k) e in
      one-one _ (omega arith)

  not_both : (k l c : ℕ) → digit k c ≡ 1 → digit l c ≡ 1 → both p.tris p.labels v k l ≡ false → eqb (bit_and (mask p.tris p.labels v) c) c ≡ false
  not_both k l c q r h = test (eqb (bit_and (mask p.tris p.labels v) c) c) refl
    where
      test : (b : Bool) → eqb (bit_and (mask p.tris p.labels v) c) c ≡ b → eqb (bit_and (mask p.tris p.labels v) c) c ≡ false
      test true e = let z = eqb-true (bit_and (mask p.tris p.labels v) c) c e in
          absurd (true_false (join (carries p.tris p.labels v k) (carries p.tris p.labels v l) (carries_bit k c q z) (carries_bit l c r z)) h)
      test false e = e

  pub no_conflict : opposed p.tris p.labels v ≡ false → conflict (mask p.tris p.labels v) ≡ false
  no_conflict h =
      let a = or_none (both p.tris p.labels v 0 1) (both p.tris p.labels v 2 3 || (both p.tris p.labels v 4 5 || both p.tris p.labels v 6 7)) h in
      let b = or_none (both p.tris p.labels v 2 3) (both p.tris p.labels v 4 5 || both p.tris p.labels v 6 7) a.1 in
      let c = or_none (both p.tris p.labels v 4 5) (both p.tris p.labels v 6 7) b.1 in
      rw (not_both 0 1 3 refl refl a.0, not_both 2 3 12 refl refl b.0, not_both 4 5 48 refl refl c.0, not_both 6 7 192 refl refl c.1) refl

-- ---- the surface

module _ {points : List Float} {corners labels work : List ℕ} (a : Admitted points corners labels work) where
  abbrev m : Mesh
  m = record { points = points; pair = pair_of corners labels }

  few : Few labels
  few = place-every (λ (l : ℕ). leb l 7) labels 0 (λ i l. le-leb (get_or labels i 0) 7 (a.known i l))

  below : Below (length points / 3) (triangles corners)
  below v u =
      let q = has-place (triangles corners) (use_has (triangles corners) v u).2 in
      let k = reads_spot corners a.corners_in_threes q.at q.fits q.reads in
      subst (λ (x : ℕ). x < length points / 3) k.one (a.listed k.k k.low)

  pub admitted_valid : valid (record { points = points; pair = pair_of corners labels }) ≡ true
  admitted_valid = valid_of m (record {
    lengths = omega (arith, thirds-length corners a.corners_in_threes, a.a-label-each);
    few = few;
    finite = place-every is_finite points nan a.finite;
    faces = place-every (good_face (length points / 3)) (triangles corners) (tri 0 0 0) (λ i l.
        let t = place (triangles corners) i in
        good-all (length points / 3) t (a.closed.differ i l)
        (below t.a (in_use (place-has (triangles corners) i l (r0 refl refl refl))))
        (below t.b (in_use (place-has (triangles corners) i l (r1 refl refl refl))))
        (below t.c (in_use (place-has (triangles corners) i l (r2 refl refl refl)))));
    masks = all-compatible (pair_of corners labels) (length points / 3) (λ v l. no_conflict (pair_of corners labels) few v (a.unopposed v));
  })

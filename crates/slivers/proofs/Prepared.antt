-- Prepared words stay so where those below the touched ones stay.
use Prim.Native.Nat.{ℕ, ◌+◌, ◌*◌, ◌<◌}
use native.Mathlib.Omega.{arith}
use mathlib.Core.Path.{◌≡◌, sym, ◌∙◌, subst}
use mathlib.Core.List.{List}
use lib.ListN.{length}
use lib.Ieee.{Float}
use Rattle.halfedges.specs.Place.{at}
use Rattle.sides.specs.Side.{Twin}
use Rattle.slivers.specs.Ready.{Ready}

pub ready-kept : {ps : List Float} {c ls : List ℕ} {p : ℕ} {w : List ℕ} {chains carried marks touched : ℕ} (w' : List ℕ) → length w' ≡ length w → ((j : ℕ) → j < touched → at w' j ≡ at w j) → Ready ps c ls p w chains carried marks touched → Ready ps c ls p w' chains carried marks touched
ready-kept {ps} {c} {ls} {p} {w} {chains} {carried} {marks} {touched} w' e k r = record {
  lists = r.lists;
  coords = r.coords;
  labelled = r.labelled;
  closed = r.closed;
  chained = record {
    heads = λ v l. k (chains + v) (omega (arith, r.second)) ∙ r.chained.heads v l;
    links = λ i l. k (chains + p + i) (omega (arith, r.second)) ∙ r.chained.links i l;
  };
  carries = record { each = λ v l a b. k (carried + v * 8 + l) (omega (arith, r.third)) ∙ r.carries.each v l a b };
  twins = λ i l. subst (Twin c i) (sym (k (p * 3 + length c + i) (omega (arith, r.first)))) (r.twins i l);
  valences = λ v l. k (p + v) (omega (arith, r.first)) ∙ r.valences v l;
  lones = λ i l. k (marks + i) (omega (arith, r.fourth)) ∙ r.lones i l;
  first = r.first;
  second = r.second;
  third = r.third;
  fourth = r.fourth;
  room = omega (arith, r.room);
}

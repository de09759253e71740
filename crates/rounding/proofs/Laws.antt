-- The laws of `specs/Laws`, for every format.
use lib.Ieee.{Format}
use Rattle.rounding.specs.Laws.{RoundingLaws}
use Rattle.rounding.proofs.Rounded.{add_rounds, sub-rounds, mul-rounds, div-rounds, exact-quanta}
use Rattle.rounding.proofs.Exactness.{exact, add-exact, sub-exact, mul-exact}
use Rattle.rounding.proofs.Near.{near, add-near}

pub rounding_laws : (f : Format) → RoundingLaws f
rounding_laws f = record {
  exact-quanta = exact-quanta f;
  add_rounds = add_rounds f;
  sub-rounds = sub-rounds f;
  mul-rounds = mul-rounds f;
  div-rounds = div-rounds f;
  exact = exact f;
  add-exact = add-exact f;
  sub-exact = sub-exact f;
  mul-exact = mul-exact f;
  near = near f;
  add-near = add-near f;
}

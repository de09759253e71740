-- `converting::turn` meets its contract. Assumes nothing.
use mathlib.Core.Path.{◌≡◌, refl, sym, ap, ◌∙◌, subst}
use Prim.Native.Nat.{ℕ, ◌*◌, ◌/◌, ◌%◌, ◌≤◌, ◌<◌, ◌^◌}
use native.Mathlib.Nat.{le_trans}
use native.Mathlib.Omega.{arith}
use lib.Dec.{eqb}
use lib.IntN.{ℤ, nat_abs}
use lib.ListN.{set}
use lib.Signed.{mag}
use mir.Syntax.{w32}
use mir.Val.{to_z, of_z}
use Rattle.sheet.specs.Edition.{edition, edition_number}
use Rattle.sheet.specs.Conversion.{in_unit}
use Rattle.sheet.proofs.Editions.{is_edition}
use Rattle.sheet.proofs.Signs.{back}
use Rattle.sheet.proofs.InUnit.{near-size, near_in_unit, unit-some, unit-small, most-small, same_ends}
use Rattle.converting.specs.Stages.{signed_as}
use Rattle.converting.proofs.Turning.{signed-unit, scaled_fits, small_mag}
use Rattle.converting.proofs.turn.Goals as goal

-- the size and the unit, as they were read
scaled-is : (z : ℤ) (asked size unit : ℕ) → mag z < 2 ^ 31 → size ≡ nat_abs (to_z w32 (of_z w32 z)) → unit ≡ (edition asked).unit → size * unit ≡ nat_abs z * (edition asked).unit
scaled-is z asked size unit h s u = let e = s ∙ ap nat_abs (back z z refl h) in λ i. e i * u i

pub overflow_mul-scaled : goal.overflow_mul-scaled
overflow_mul-scaled c =
    let f = edition_number c.args.from in
    let a = edition_number c.args.asked in
    let h : nat_abs c.args.z * (edition a).unit < 2 ^ 64 = scaled_fits (nat_abs c.args.z) (edition a).unit (le_trans c.requires.0 (most-small f (is_edition c.args.from))) (unit-small a (is_edition c.args.asked)) in
    omega (arith, scaled-is c.args.z a c.from.result c.from-2.result c.ranges.z.sfits (c.from.ensures ∙ c.unsigned_abs.ensures.value) (c.from-2.ensures ∙ c.unit-2.ensures))

pub nonzero_div-scaled : goal.nonzero_div-scaled
nonzero_div-scaled c = subst (λ (n : ℕ). 0 < n) (sym (c.from-unit.ensures ∙ c.unit.ensures)) (unit-some (edition_number c.args.from) (is_edition c.args.from))

pub signed-requires : goal.signed-requires
signed-requires c =
    let f = edition_number c.args.from in
    let a = edition_number c.args.asked in
    let n = (edition f).unit in
    let m = (edition a).unit in
    let size = nat_abs c.args.z in
    let h : size * m / n ≤ (edition a).most = near-size n m (edition f).most (edition a).most (unit-some f (is_edition c.args.from)) (same_ends f a (is_edition c.args.from) (is_edition c.args.asked)) size c.requires.0 in
    let few = most-small a (is_edition c.args.asked) in
    let scaled = scaled-is c.args.z a c.from.result c.from-2.result c.ranges.z.sfits (c.from.ensures ∙ c.unsigned_abs.ensures.value) (c.from-2.ensures ∙ c.unit-2.ensures) in
    let unit = c.from-unit.ensures ∙ c.unit.ensures in
    let e : c.from.result * c.from-2.result / c.from-unit.result ≡ size * m / n = (λ i. scaled i / unit i) in
    omega arith

pub nonzero_rem-result : goal.nonzero_rem-result
nonzero_rem-result c = subst (λ (n : ℕ). 0 < n) (sym (c.from-unit.ensures ∙ c.unit.ensures)) (unit-some (edition_number c.args.from) (is_edition c.args.from))

pub returns : goal.returns
returns c =
    let z = c.args.z in
    let f = edition_number c.args.from in
    let a = edition_number c.args.asked in
    let n = (edition f).unit in
    let m = (edition a).unit in
    let scaled = scaled-is z a c.from.result c.from-2.result c.ranges.z.sfits (c.from.ensures ∙ c.unsigned_abs.ensures.value) (c.from-2.ensures ∙ c.unit-2.ensures) in
    let unit = c.from-unit.ensures ∙ c.unit.ensures in
    record {
      same = (λ i. eqb (scaled i % unit i) 0);
      stored = ap (λ (y : ℤ). set c.args.coordinates.now c.args.k y)
          (back c.signed.result _ (c.signed.ensures ∙ (λ i. signed_as (back z z refl c.ranges.z.sfits i) (scaled i / unit i)) ∙ signed-unit n m z) (small_mag (in_unit n m z) (le_trans (near_in_unit n m (edition f).most (edition a).most (unit-some f (is_edition c.args.from)) (same_ends f a (is_edition c.args.from) (is_edition c.args.asked)) z c.requires.0) (most-small a (is_edition c.args.asked)))));
    }

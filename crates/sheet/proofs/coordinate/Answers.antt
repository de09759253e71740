-- `sheet::coordinate` meets its contract. Assumes nothing.
use Rattle.std.proofs.Common.{rules, arith, ◌≡◌, ◌<◌, ◌≤◌, ◌+◌, ◌-◌, ℕ, suc, length, get_or, sym, ap, ◌∙◌, subst, None, Some}
use lib.IntN.{ℤ, pos}
use lib.ListN.{set}
use mir.Syntax.{w32}
use mir.ValLaws.{to_z_pos}
use Rattle.sheet.specs.Text.{decimal}
use Rattle.sheet.specs.Edition.{rules_of}
use Rattle.sheet.specs.Stages.{Stands, ended, coordinate_is}
use Rattle.sheet.proofs.Editions.{most_of}
use Rattle.sheet.proofs.Integers.{number_unique, after_minus, no_minus, is_pos}
use Rattle.sheet.proofs.Signs.{minus-some, minus-back}
use Rattle.sheet.proofs.coordinate.Goals as goal

pub returns-in_err-n : goal.returns-in_err-n
returns-in_err-n c =
    let A = c.args in
    let M = c.from-most.result in
    let here : A.at < length A.text.now = search rules in
    let minus : get_or A.text.now A.at 0 ≡ 45 = search rules in
    let w = c.in_err-n.ensures in
    rw c.from_residual-in_err-n.ensures (subst (λ (m : ℕ). coordinate_is A.text.now A.at m A.end A.k A.coordinates.now A.coordinates.now None) (c.from-most.ensures ∙ c.most.ensures)
    (after_minus A.text.now A.at M A.end A.k A.coordinates.now A.coordinates.now None here minus (λ v h. w (suc v) h)))

pub returns-then-n-eq0 : goal.returns-then-n-eq0
returns-then-n-eq0 c =
    let A = c.args in
    let M = c.from-most.result in
    let here : A.at < length A.text.now = search rules in
    let minus : get_or A.text.now A.at 0 ≡ 45 = search rules in
    let w = c.in_ok-n.ensures in
    subst (λ (m : ℕ). coordinate_is A.text.now A.at m A.end A.k A.coordinates.now A.coordinates.now None) (c.from-most.ensures ∙ c.most.ensures)
    (after_minus A.text.now A.at M A.end A.k A.coordinates.now A.coordinates.now None here minus
    (λ v h r q.
    let e = number_unique _ (suc v) A.end _ _ (omega arith) (sym w.1 ∙ q) in
    let z : suc v ≡ c.in_ok-n.n.value = e.0 in
    omega (arith, c.if-n-eq0.true)))

pub returns-then-branch-eq45 : goal.returns-then-branch-eq45
returns-then-branch-eq45 c =
    let A = c.args in
    let E = c.from-most.ensures ∙ c.most.ensures in
    let here : A.at < length A.text.now = search rules in
    let minus : get_or A.text.now A.at 0 ≡ 45 = search rules in
    let w = c.in_ok-n.ensures in
    let n = c.in_ok-n.n in
    let small = most_of A.edition E in
    let e : n.value ≡ suc (n.value - 1) = omega arith in
    after_minus A.text.now A.at (rules_of A.edition).most A.end A.k A.coordinates.now _ (Some n.next) here minus
    (n.value - 1, subst (λ (k : ℕ). k ≤ (rules_of A.edition).most) e (subst (λ (m : ℕ). n.value ≤ m) E w.0), subst (λ (k : ℕ). Stands A.text.now (A.at + 1) (ended (decimal k) A.end) n.next) e w.1, ap (λ (z : ℤ). set A.coordinates.now A.k z) (minus-back n.value (omega (arith, w.0, small)) ∙ minus-some n.value (omega arith)))

pub returns-in_err-n-2 : goal.returns-in_err-n-2
returns-in_err-n-2 c =
    let A = c.args in
    let M = c.from-most.result in
    let here : A.at < length A.text.now = search rules in
    let other : get_or A.text.now A.at 0 ≡ 45 → ⊥ = search rules in
    rw c.from_residual-in_err-n-2.ensures (subst (λ (m : ℕ). coordinate_is A.text.now A.at m A.end A.k A.coordinates.now A.coordinates.now None) (c.from-most.ensures ∙ c.most.ensures)
    (no_minus A.text.now A.at M A.end here other c.in_err-n-2.ensures))

pub returns : goal.returns
returns c =
    let A = c.args in
    let w = c.in_ok-n-2.ensures in
    let n = c.in_ok-n-2.n in
    let small = most_of A.edition (c.from-most.ensures ∙ c.most.ensures) in
    (pos n.value, subst (λ (m : ℕ). n.value ≤ m) (c.from-most.ensures ∙ c.most.ensures) w.0, is_pos A.text.now A.at n.value A.end n.next w.1, ap (λ (z : ℤ). set A.coordinates.now A.k z) (to_z_pos w32 n.value (omega (arith, w.0, small))))

-- `sheet::number` meets its contract. The loop's invariant: the digits of `value` stand at `at`, up to `i`. Assumes nothing.
use Rattle.std.proofs.Common.{rules, arith, ◌≡◌, ◌<◌, ◌+◌, ◌-◌, ◌*◌, ℕ, length, get_or, drop, ◌++◌, sym, ap, ◌∙◌}
use Rattle.sheet.specs.Text.{decimal}
use Rattle.sheet.proofs.Decimal.{IsDigit}
use Rattle.sheet.proofs.Fields.{none_first, start, more, stop, stop_past}
use Rattle.sheet.proofs.number.Goals as goal

pub returns-then-not-is_ascii_digit : goal.returns-then-not-is_ascii_digit
returns-then-not-is_ascii_digit c =
    let here : c.args.at < length c.args.text.now = search rules in
    let none : IsDigit (get_or c.args.text.now c.args.at 0) → ⊥ = search rules in
    λ v h. none_first c.args.text.now c.args.at v c.args.end here none

pub loop-i-init : goal.loop-i-init
loop-i-init c =
    let here : c.args.at < length c.args.text.now = search rules in
    let digit : IsDigit (get_or c.args.text.now c.args.at 0) = search rules in
    let e : c.from-value.result ≡ get_or c.args.text.now c.args.at 0 - 48 = search rules in
    start c.args.text.now c.args.at here digit ∙ ap (λ (k : ℕ). decimal k ++ drop (c.args.at + 1) c.args.text.now) (sym e)

pub returns-then-value-most : goal.returns-then-value-most
returns-then-value-most c =
    λ v h. stop c.args.text.now c.args.at c.loop-i.value c.loop-i.i c.loop-i.invariant v c.args.end (omega arith) (omega arith) (λ a b. omega arith) (λ a b d. omega arith)

pub returns-then-not-is_ascii_digit-2 : goal.returns-then-not-is_ascii_digit-2
returns-then-not-is_ascii_digit-2 c =
    let none : IsDigit (get_or c.args.text.now c.loop-i.i 0) → ⊥ = search rules in
    λ v h. stop c.args.text.now c.args.at c.loop-i.value c.loop-i.i c.loop-i.invariant v c.args.end (omega arith) (omega arith) (λ a b. c.if-b-end.false b) (λ a b d. none d)

pub returns-then-value-eq0 : goal.returns-then-value-eq0
returns-then-value-eq0 c =
    λ v h. stop c.args.text.now c.args.at c.loop-i.value c.loop-i.i c.loop-i.invariant v c.args.end (omega arith) (omega arith) (λ a b. c.if-b-end.false b) (λ a b d. omega arith)

pub loop-i-preserved : goal.loop-i-preserved
loop-i-preserved c =
    let digit : IsDigit (get_or c.args.text.now c.loop-i.i 0) = search rules in
    more c.args.text.now c.args.at c.loop-i.value c.loop-i.i c.loop-i.invariant (omega arith) digit (omega arith) ∙ ap (λ (k : ℕ). decimal (c.loop-i.value * 10 + k) ++ drop (c.loop-i.i + 1) c.args.text.now) (sym c.from.ensures)

pub returns : goal.returns
returns c =
    let here : c.args.at < length c.args.text.now = search rules in
    λ v h. stop_past c.args.text.now c.args.at c.loop-i.value c.loop-i.i c.loop-i.invariant v c.args.end (omega arith) (omega arith)

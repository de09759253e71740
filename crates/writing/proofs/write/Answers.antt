-- `writing::write` meets its contract. Assumes nothing.
use Rattle.std.proofs.Common.{rules, arith, ◌≡◌, ◌∙◌, sym, subst, Err}
use Rattle.sheet.specs.Edition.{IsEdition}
use Rattle.sheet.specs.declared.Refusal.TheVariants.{NoSheet}
use Rattle.sheet.proofs.Editions.{is_edition}
use Rattle.writing.proofs.Settling.{leaves}
use Rattle.writing.proofs.Verdicts.{passed, in_its_range, not_near, leaves_16, leaves-text}
use Rattle.writing.proofs.write.Goals as goal

pub returns-in_err-edition : goal.returns-in_err-edition
returns-in_err-edition c =
    let e : c.from_residual.result ≡ Err NoSheet = search rules in
    rw e (leaves_16 _ _ _ _ _ _ (λ h. c.in_err-edition.ensures.1 h.known) (c.fill.ensures.after (λ y e. e)))

pub returns-then-n-coordinates : goal.returns-then-n-coordinates
returns-then-n-coordinates c = leaves_16 _ _ _ _ _ _ (λ h. let k = h.threes in omega (arith, c.if-n-coordinates.true)) (c.fill.ensures.after (λ y e. e))

pub returns-then-n-gt128 : goal.returns-then-n-gt128
returns-then-n-gt128 c = leaves_16 _ _ _ _ _ _ (λ h. let k = h.few-points in omega (arith, c.if-n-gt128.true)) (c.fill.ensures.after (λ y e. e))

pub returns-then-m-gt256 : goal.returns-then-m-gt256
returns-then-m-gt256 c = leaves_16 _ _ _ _ _ _ (λ h. let k = h.few-triangles in omega (arith, c.if-m-gt256.true)) (c.fill.ensures.after (λ y e. e))

pub returns-then-corners-m : goal.returns-then-corners-m
returns-then-corners-m c = leaves_16 _ _ _ _ _ _ (λ h. c.if-corners-m.true h.together) (c.fill.ensures.after (λ y e. e))

pub returns-then-not-within : goal.returns-then-not-within
returns-then-not-within c =
    leaves_16 _ _ _ _ _ _ (not_near _ _ _ _ (in_its_range c.args.number c.args.coordinates.now c.in_ok-edition.edition c.in_ok-edition.ensures c.most.ensures ∙ sym c.within.ensures ∙ c.if-not-within.true)) (c.fill.ensures.after (λ y e. e))

pub returns : goal.returns
returns c =
    let e = c.in_ok-edition.ensures in
    let near = in_its_range c.args.number c.args.coordinates.now c.in_ok-edition.edition e c.most.ensures ∙ sym c.within.ensures ∙ c.if-not-within.false in
    let all = passed _ _ _ _ (subst IsEdition e (is_edition c.in_ok-edition.edition)) c.if-n-coordinates.false c.if-n-gt128.false c.if-m-gt256.false c.if-corners-m.false near in
    leaves-text _ _ _ _ _ _ _ all (leaves _ _ _ _ _ _ (c.fill.ensures.after (λ y e. e)) c.text-count.ensures _ _ _ c.settled.ensures)

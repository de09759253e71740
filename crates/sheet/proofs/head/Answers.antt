-- `sheet::head` meets its contract. Assumes nothing.
use mathlib.Core.Path.{sym, ◌∙◌}
use native.Mathlib.Omega.{arith}
use Rattle.sheet.proofs.Integers.{number_unique}
use Rattle.sheet.proofs.Lines.{head-fields, word_next}
use Rattle.sheet.proofs.head.Goals as goal

pub returns-in_err-n : goal.returns-in_err-n
returns-in_err-n c =
    let T = c.args.text.now in
    let O = c.args.opening.now in
    rw c.from_residual-in_err-n.ensures (λ n m hn hm r q. c.in_err-n.ensures n hn _ (word_next T 0 O c.in_ok-i.i _ c.in_ok-i.ensures (q ∙ head-fields O n m r)))

pub returns-in_err-m : goal.returns-in_err-m
returns-in_err-m c =
    let T = c.args.text.now in
    let O = c.args.opening.now in
    rw c.from_residual-in_err-m.ensures (λ n m hn hm r q.
    let a = word_next T 0 O c.in_ok-i.i _ c.in_ok-i.ensures (q ∙ head-fields O n m r) in
    let b = (number_unique _ n 32 _ _ (omega arith) (sym c.in_ok-n.ensures.1 ∙ a)).1 in
    c.in_err-m.ensures m hm _ b)

pub returns-in_err-next : goal.returns-in_err-next
returns-in_err-next c =
    let T = c.args.text.now in
    let O = c.args.opening.now in
    rw c.from_residual-in_err-next.ensures (λ n m hn hm r q.
    let a = word_next T 0 O c.in_ok-i.i _ c.in_ok-i.ensures (q ∙ head-fields O n m r) in
    let b = (number_unique _ n 32 _ _ (omega arith) (sym c.in_ok-n.ensures.1 ∙ a)).1 in
    let d = (number_unique _ m 10 _ _ (omega arith) (sym c.in_ok-m.ensures.1 ∙ b)).1 in
    c.in_err-next.ensures _ d)

-- `sheet::triangle` meets its contract. Assumes nothing.
use mathlib.Core.Path.{refl, sym, ap, ◌∙◌}
use mathlib.Core.List.{List, ◌++◌}
use Prim.Native.Nat.{ℕ}
use native.Mathlib.Omega.{arith}
use lib.ListN.{drop}
use Rattle.sheet.specs.Text.{decimal}
use Rattle.sheet.specs.Sheet.{Triangle}
use Rattle.sheet.specs.Stages.{ended}
use Rattle.sheet.proofs.Integers.{number_unique}
use Rattle.sheet.proofs.Lines.{triangle_fields}
use Rattle.sheet.proofs.triangle.Goals as goal

pub returns-in_err-a : goal.returns-in_err-a
returns-in_err-a c =
    rw c.from_residual.ensures (λ t h r q.
    let small = h.a in
    c.in_err-a.ensures t.a (omega arith) _ (q ∙ triangle_fields t r))

pub returns-in_err-b : goal.returns-in_err-b
returns-in_err-b c =
    rw c.from_residual-in_err-b.ensures (λ t h r q.
    let small = h.b in
    let a = (number_unique _ t.a 32 _ _ (omega arith) (sym c.in_ok-a.ensures.1 ∙ q ∙ triangle_fields t r)).1 in
    c.in_err-b.ensures t.b (omega arith) _ a)

pub returns-in_err-c : goal.returns-in_err-c
returns-in_err-c c =
    rw c.from_residual-in_err-c.ensures (λ t h r q.
    let small = h.c in
    let a = (number_unique _ t.a 32 _ _ (omega arith) (sym c.in_ok-a.ensures.1 ∙ q ∙ triangle_fields t r)).1 in
    let b = (number_unique _ t.b 32 _ _ (omega arith) (sym c.in_ok-b.ensures.1 ∙ a)).1 in
    c.in_err-c.ensures t.c (omega arith) _ b)

pub returns-in_err-label : goal.returns-in_err-label
returns-in_err-label c =
    rw c.from_residual-in_err-label.ensures (λ t h r q.
    let small = h.label in
    let a = (number_unique _ t.a 32 _ _ (omega arith) (sym c.in_ok-a.ensures.1 ∙ q ∙ triangle_fields t r)).1 in
    let b = (number_unique _ t.b 32 _ _ (omega arith) (sym c.in_ok-b.ensures.1 ∙ a)).1 in
    let d = (number_unique _ t.c 32 _ _ (omega arith) (sym c.in_ok-c.ensures.1 ∙ b)).1 in
    c.in_err-label.ensures t.label (omega arith) _ d)

pub returns : goal.returns
returns c =
    let f = c.in_ok-a.ensures in
    let g = c.in_ok-b.ensures in
    let h = c.in_ok-c.ensures in
    let k = c.in_ok-label.ensures in
    let t : Triangle = record { a = c.in_ok-a.a.value; b = c.in_ok-b.b.value; c = c.in_ok-c.c.value; label = c.in_ok-label.label.value } in (
      t,
      record { a = omega (arith, f.0); b = omega (arith, g.0); c = omega (arith, h.0); label = omega (arith, k.0) },
      f.1
          ∙ ap (λ (l : List ℕ). ended (decimal t.a) 32 ++ l)
          (g.1 ∙ ap (λ (l : List ℕ). ended (decimal t.b) 32 ++ l) (h.1 ∙ ap (λ (l : List ℕ). ended (decimal t.c) 32 ++ l) k.1))
          ∙ sym (triangle_fields t (drop c.in_ok-label.label.next c.args.text.now)),
      refl,
      refl,
    )

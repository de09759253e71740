-- `sheet::sheet` meets its contract. Assumes nothing.
use mathlib.Core.Path.{sym, ap, ◌∙◌, subst}
use mathlib.Core.List.{List, ◌++◌}
use Prim.Native.Nat.{ℕ, ◌≤◌}
use lib.ListN.{length, drop, drop_of_length-le}
use Rattle.sheet.specs.Sheet.{Sheet}
use Rattle.sheet.specs.Edition.{rules_of}
use Rattle.sheet.specs.Stages.{Stands, head_text, head_is}
use Rattle.std.specs.Prelude.{Some, None}
use Rattle.sheet.proofs.Whole.{parts, n-is, m-is, points-here, names-here, triangles-here, nothing-here, not_at_end, joined}
use Rattle.sheet.proofs.sheet.Goals as goal

pub returns-in_err-start : goal.returns-in_err-start
returns-in_err-start c =
    let none = subst (λ (o : List ℕ). head_is o c.args.text.now None) c.opening.ensures c.in_err-start.ensures in
    rw c.from_residual.ensures (λ s ok q. none (length s.points) (length s.triangles) ok.points ok.triangles _ (q ∙ parts (rules_of c.args.edition).opening s))

pub returns-in_err-i : goal.returns-in_err-i
returns-in_err-i c =
    let O = (rules_of c.args.edition).opening in
    let T = c.args.text.now in
    let H = c.in_ok-start.start in
    let f = subst (λ (o : List ℕ). head_is o T (Some H)) c.opening.ensures c.in_ok-start.ensures in
    rw c.from_residual-in_err-i.ensures (λ s ok q. c.in_err-i.ensures s.points (n-is O T s q H.counts.points H.counts.triangles H.next f.2) ok.near _ (points-here O T s q H.counts.points H.counts.triangles H.next f.2))

pub returns-in_err-j : goal.returns-in_err-j
returns-in_err-j c =
    let O = (rules_of c.args.edition).opening in
    let T = c.args.text.now in
    let H = c.in_ok-start.start in
    let f = subst (λ (o : List ℕ). head_is o T (Some H)) c.opening.ensures c.in_ok-start.ensures in
    let g = c.in_ok-i.ensures in
    rw c.from_residual-in_err-j.ensures (λ s ok q. c.in_err-j.ensures _ (names-here O T s q H.counts.points H.counts.triangles H.next f.2 g.0 c.in_ok-i.i g.1 g.3))

pub returns-in_err-next : goal.returns-in_err-next
returns-in_err-next c =
    let O = (rules_of c.args.edition).opening in
    let T = c.args.text.now in
    let H = c.in_ok-start.start in
    let f = subst (λ (o : List ℕ). head_is o T (Some H)) c.opening.ensures c.in_ok-start.ensures in
    let g = c.in_ok-i.ensures in
    rw c.from_residual-in_err-next.ensures (λ s ok q. c.in_err-next.ensures s.triangles (m-is O T s q H.counts.points H.counts.triangles H.next f.2) ok.small _ (triangles-here O T s q H.counts.points H.counts.triangles H.next f.2 g.0 c.in_ok-i.i g.1 g.3 c.in_ok-j.j c.in_ok-j.ensures))

pub returns-then-next-text : goal.returns-then-next-text
returns-then-next-text c =
    let O = (rules_of c.args.edition).opening in
    let T = c.args.text.now in
    let H = c.in_ok-start.start in
    let f = subst (λ (o : List ℕ). head_is o T (Some H)) c.opening.ensures c.in_ok-start.ensures in
    let g = c.in_ok-i.ensures in
    let k = c.in_ok-next.ensures in
    let next = c.in_ok-next.next in
    λ s ok q. not_at_end T next c.if-next-text.true (nothing-here O T s q H.counts.points H.counts.triangles H.next f.2 g.0 c.in_ok-i.i g.1 g.3 c.in_ok-j.j c.in_ok-j.ensures k.0 next k.1 k.3)

pub returns : goal.returns
returns c =
    let O = (rules_of c.args.edition).opening in
    let T = c.args.text.now in
    let H = c.in_ok-start.start in
    let f = subst (λ (o : List ℕ). head_is o T (Some H)) c.opening.ensures c.in_ok-start.ensures in
    let g = c.in_ok-i.ensures in
    let k = c.in_ok-next.ensures in
    let s : Sheet = record { points = g.0; triangles = k.0 } in
    let head : Stands T 0 (head_text O (length g.0) (length k.0)) H.next =
    f.2 ∙ ap (λ (x : ℕ). head_text O x H.counts.triangles ++ drop H.next T) (sym g.1) ∙ ap (λ (x : ℕ). head_text O (length g.0) x ++ drop H.next T) (sym k.1) in
    record {
      sheet = s;
      in_range = record {
        points = subst (λ (x : ℕ). x ≤ 128) (sym g.1) f.0;
        triangles = subst (λ (x : ℕ). x ≤ 256) (sym k.1) f.1;
        near = g.2;
        small = k.2;
      };
      is-text = joined O T s H.next c.in_ok-i.i c.in_ok-j.j c.in_ok-next.next head g.3 c.in_ok-j.ensures k.3 (drop_of_length-le T c.if-next-text.false);
      n-points = g.1;
      m-triangles = k.1;
      coordinate-list = g.4;
      corner-list = k.4;
      label-list = k.5;
    }

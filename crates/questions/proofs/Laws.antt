-- The questions say what they ask: `surface_questions` is `Ok` exactly where the surface is `Admitted`. (`distinct?_iff` of `Rules` does the same for the test of rule (d), `finding-closed` of `surface` for (b) and (c).)
use Prim.Native.Nat.{ℕ, ◌/◌}
use mathlib.Core.Path.{◌≡◌, refl, sym, ◌∙◌}
use mathlib.Core.Logic.{◌↔◌}
use mathlib.Core.Bool.{Bool, true, false}
use mathlib.Core.List.{List}
use lib.Dec.{leb, ltb}
use lib.ListN.{length}
use lib.Ieee.{Float, nan}
use borrow.Author.Tests.{leb-true, ltb-true, le-leb, lt-ltb}
use Rattle.float.specs.Order.{is_finite}
use Rattle.surface.specs.Triangle.{triangles}
use Rattle.surface.specs.Closed.{Closed}
use Rattle.surface.specs.Finding.{finding}
use Rattle.surface.proofs.Findings.{finding-closed}
use Rattle.questions.specs.Rules.{distinct?}
use Rattle.questions.specs.Refusal.{Asked, on_finding}
use Rattle.questions.specs.Questions.{ask, and_then, lent_questions, further_questions, surface_questions}
use Rattle.questions.specs.Admitted.{Admitted}
use Rattle.questions.specs.declared.Refusal.TheVariants.{SameTriangle}
use Rattle.std.specs.Prelude.{Ok, Err}
use Rattle.surface.proofs.All.{all-at, at_all}
use Rattle.questions.proofs.Counted.{not_both, lent-passed, asked_finite}
use Rattle.questions.proofs.Rules.{differ?_iff, distinct?_iff}
use Rattle.questions.proofs.Labels.{unopposed-every, every-unopposed}
use Rattle.questions.proofs.Chain.{found_passed, by_first, Fit, Before, stopped, passed, asked, rules, closed-passed}

-- questions that are passed begin with some that are
pub first-passed : (a b : Asked) → and_then a b ≡ Ok tt → a ≡ Ok tt
first-passed (Ok x) b e = refl
first-passed (Err why) b e = absurd (not_both e refl)

pub then-passed : (a b : Asked) → and_then a b ≡ Ok tt → b ≡ Ok tt
then-passed (Ok x) b e = e
then-passed (Err why) b e = absurd (not_both e refl)

-- all the further questions are answered by "yes"
record Yes (p : ℕ) (cs ls : List ℕ) : Type 0 where
  fit : Fit p cs ls
  round : on_finding (finding (triangles cs)) ≡ Ok tt
  apart : distinct? (triangles cs) ≡ true

further_yes : (p : ℕ) (cs ls : List ℕ) → further_questions p cs ls ≡ Ok tt → Yes p cs ls
further_yes p cs ls z = go (asked p cs ls)
  where
    go : Before p cs ls → Yes p cs ls
    go (stopped why f q) = absurd (not_both z (sym q ∙ f))
    go (passed f r) =
        let a = on_finding (finding (triangles cs)) in
        let b = ask (distinct? (triangles cs)) SameTriangle (Ok tt) in
        let e : and_then a b ≡ Ok tt = sym (rules p cs ls r refl refl) ∙ z in
        record { fit = r; round = first-passed a b e; apart = distinct (distinct? (triangles cs)) (then-passed a b e) }
      where
        distinct : (b : Bool) → ask b SameTriangle (Ok tt) ≡ Ok tt → b ≡ true
        distinct true e = refl
        distinct false e = absurd (not_both e refl)

yes_closed : (p : ℕ) (cs ls : List ℕ) → Yes p cs ls → Closed (triangles cs)
yes_closed p cs ls y =
    let r = (finding-closed (triangles cs)).0 (found_passed _ y.round) in
    record { differ = (differ?_iff (triangles cs)).0 y.fit.differ; paired = r.paired; ringed = r.ringed; distinct = (distinct?_iff (triangles cs)).0 y.apart }

module _ (ps : List Float) (cs ls work : List ℕ) where
  pub passed_admitted : surface_questions ps cs ls work ≡ Ok tt → Admitted ps cs ls work
  passed_admitted z =
      let first = lent_questions ps cs ls work in
      let rest = further_questions (length ps / 3) cs ls in
      let e : and_then first rest ≡ Ok tt = sym (by_first ps cs ls work refl) ∙ z in
      let lists = lent-passed ps cs ls work (first-passed first rest e) in
      let c = lists.0 in
      let y = further_yes (length ps / 3) cs ls (then-passed first rest e) in
      record {
        points_in_threes = c.points;
        corners_in_threes = c.corners;
        a-label-each = c.labels;
        few-points = c.few-points;
        few-triangles = c.few-triangles;
        enough-words = c.room;
        finite = all-at is_finite nan ps lists.1;
        known = λ i h. leb-true _ 7 (all-at (λ (x : ℕ). leb x 7) 0 ls y.fit.known i h);
        listed = λ i h. ltb-true _ (length ps / 3) (all-at (λ (x : ℕ). ltb x (length ps / 3)) 0 cs y.fit.listed i h);
        unopposed = unopposed-every cs ls y.fit.agree;
        closed = yes_closed (length ps / 3) cs ls y;
      }

  pub admitted_passed : Admitted ps cs ls work → surface_questions ps cs ls work ≡ Ok tt
  admitted_passed a =
      let first = sym (asked_finite ps cs ls work a.points_in_threes a.corners_in_threes a.a-label-each a.few-points a.few-triangles a.enough-words (at_all is_finite nan ps a.finite)) in
      let fit : Fit (length ps / 3) cs ls = record {
        known = at_all (λ (x : ℕ). leb x 7) 0 ls (λ i h. le-leb _ 7 (a.known i h));
        listed = at_all (λ (x : ℕ). ltb x (length ps / 3)) 0 cs (λ i h. lt-ltb _ (length ps / 3) (a.listed i h));
        differ = (differ?_iff (triangles cs)).1 a.closed.differ;
        agree = every-unopposed cs ls a.unopposed;
      } in
      by_first ps cs ls work first ∙ sym (closed-passed (length ps / 3) cs ls fit a.closed)

  pub admitted_iff : (surface_questions ps cs ls work ≡ Ok tt) ↔ Admitted ps cs ls work
  admitted_iff = (passed_admitted, admitted_passed)

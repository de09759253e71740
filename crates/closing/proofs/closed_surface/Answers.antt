-- `closing::closed_surface` meets its contract (`Rattle.halfedges.proofs.Whole`).
use Prim.Native.Nat.{ℕ}
use mathlib.Core.Path.{◌≡◌, refl, sym, ap, ◌∙◌}
use mathlib.Core.Bool.{Bool, true, false, not}
use Rattle.std.specs.Prelude.{Option, None, Some, is_some}
use Rattle.halfedges.proofs.Whole.{closed_of, closed_differing, closed-rounded, closed-enough}
use Rattle.closing.proofs.Numbers.{no, yes'}
use Rattle.closing.proofs.Whole.{all-ringed, all_more, none_unringed}
use Rattle.closing.proofs.closed_surface.Goals as goal

-- what `is_none` tells
none_where : (o : Option ℕ) (b : Bool) → is_some o ≡ not b → b ≡ true → o ≡ None
none_where None b e q = refl
none_where (Some x) b e q = no (e ∙ ap not q)

where_none : (o : Option ℕ) (b : Bool) → is_some o ≡ not b → o ≡ None → b ≡ true
where_none o true e q = refl
where_none o false e q = yes' (sym (ap is_some q) ∙ e)

pub returns-then-not-corners_differ : goal.returns-then-not-corners_differ
returns-then-not-corners_differ c =
    record {
      decides = ((λ q. yes' q), λ k. absurd (c.corners_differ.ensures.nay c.if-not-corners_differ.true (closed_differing c.args.corners.now c.requires.thirds k)));
      zeroed = c.clear_needed.ensures;
    }

pub returns : goal.returns
returns c =
    let cs = c.args.corners.now in
    let h = c.requires.thirds in
    let e = c.settle.ensures in
    record {
      decides = (
        (λ q. let none = none_where c.settle.result c.is_none.result c.is_none.ensures q in
            closed_of cs h (c.corners_differ.ensures.yea c.if-not-corners_differ.false) (all-ringed cs _ _ c.requires e.corner none) (all_more cs _ _ c.requires e.corner none)),
        λ x. where_none c.settle.result c.is_none.result c.is_none.ensures (none_unringed cs _ _ c.requires e.corner (closed-rounded cs x) (closed-enough cs h x)),
      );
      zeroed = e.zeroed;
    }

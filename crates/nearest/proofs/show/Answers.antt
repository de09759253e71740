-- `nearest::show` meets its contract: the cast is exact (`cast` of `proofs/Exact`).
use Prim.Native.Nat.{ℕ, ◌+◌, ◌-◌, ◌≤◌}
use mathlib.Core.Path.{◌≡◌, sym, ap, ◌∙◌, subst}
use mathlib.Core.List.{[], ◌∷◌}
use native.Mathlib.Omega.{arith}
use Rattle.std.specs.Prelude.{Option, Some, IfSome}
use Rattle.nearest.specs.declared.Candidate.{Candidate}
use Rattle.nearest.specs.Stages.{in_squares, OnSquares, corner_shown, distance_shown}
use Rattle.nearest.proofs.Exact.{cast}
use Rattle.nearest.proofs.show.Goals as goal

on-squares : {best : Option Candidate} {c : Candidate} → IfSome best (λ (c : Candidate). OnSquares c.distance) → best ≡ Some c → OnSquares c.distance
on-squares h e = subst (λ (b : Option Candidate). IfSome b (λ (c : Candidate). OnSquares c.distance)) e h

pub float_to_int-result : goal.float_to_int-result
float_to_int-result c = (cast c.in-Some.c.distance (on-squares c.requires c.in-Some.is)).0

pub overflow_sub-result : goal.overflow_sub-result
overflow_sub-result c = subst (λ (n : ℕ). 1 ≤ n) (sym (cast c.in-Some.c.distance (on-squares c.requires c.in-Some.is)).1) (omega arith)

pub returns-in-Some : goal.returns-in-Some
returns-in-Some c =
    let v = c.in-Some.c.corner in
    let n = in_squares c.in-Some.c.distance in
    let e : n + 1 - 1 ≡ n = omega arith in
    ap (λ (m : ℕ). v ∷ (m - 1) ∷ []) (cast c.in-Some.c.distance (on-squares c.requires c.in-Some.is)).1
    ∙ ap (λ (m : ℕ). v ∷ m ∷ []) e
    ∙ sym (ap (λ (b : Option Candidate). corner_shown b ∷ distance_shown b ∷ []) c.in-Some.is)

-- Whether values are on whole units, as a test that computes: it decides `OnUnits`, and of a list it is what `on_units` answers. Assumes nothing.
use Prim.Native.Nat.{ℕ, ◌+◌, ◌*◌, ◌/◌, ◌%◌, ◌≤◌}
use mathlib.Core.Path.{◌≡◌, refl, sym, ap, ◌∙◌, subst}
use mathlib.Core.Logic.{◌↔◌}
use mathlib.Core.Bool.{Bool, true, false≢true}
use mathlib.Core.List.{List}
use native.Mathlib.Nat.{div-add-mod', add-zero, mul-mod_left}
use lib.Dec.{eqb, leb}
use lib.IntN.{ℤ}
use lib.ListN.{get_or}
use lib.Ieee.{Float, nan, inf, fin, up, down}
use borrow.Author.Tests.{eqb-true, leb-true, eq-eqb, le-leb}
use Rattle.surface.proofs.Bools.{both, join, same_answer}
use Rattle.surface.proofs.All.{all-at, at_all}
use Rattle.rounding.proofs.Exactness.{size-signed}
use Rattle.units.specs.Units.{OnUnits, AllOnUnits, on_units?, all_on_units?}

module _ (s : Bool) (m : ℕ) (e : ℤ) where
  abbrev size : ℕ
  size = m * up e * 1024

  passed_on : on_units? (fin s m e) ≡ true → OnUnits (fin s m e)
  passed_on h =
      let b = both (eqb (size % down e) 0) (leb (size / down e) 32768) h in
      let whole : size ≡ size / down e * down e =
      sym (div-add-mod' size (down e)) ∙ ap (λ (r : ℕ). size / down e * down e + r) (eqb-true (size % down e) 0 b.0) ∙ add-zero (size / down e * down e) in
      record {
        whole = record { sign = s; size = size / down e; value = (refl, whole); same = refl };
        range = subst (λ (n : ℕ). n ≤ 32768) (sym (size-signed s (size / down e))) (leb-true (size / down e) 32768 b.1);
      }

  on-passes : OnUnits (fin s m e) → on_units? (fin s m e) ≡ true
  on-passes h =
      join (eqb (size % down e) 0) (leb (size / down e) 32768)
      (eq-eqb (size % down e) 0 (ap (λ (n : ℕ). n % down e) h.whole.value.1 ∙ mul-mod_left h.whole.size (down e)))
      (le-leb (size / down e) 32768 (subst (λ (n : ℕ). n ≤ 32768) (size-signed s (size / down e)) h.range))

pub on-units_iff : (x : Float) → (on_units? x ≡ true) ↔ OnUnits x
on-units_iff nan = ((λ h. absurd (false≢true h)), λ h. absurd h.whole.value)
on-units_iff (inf s) = ((λ h. absurd (false≢true h)), λ h. absurd h.whole.value)
on-units_iff (fin s m e) = (passed_on s m e, on-passes s m e)

module _ (points : List Float) where
  pub all-on-units_iff : (all_on_units? points ≡ true) ↔ AllOnUnits points
  all-on-units_iff = (
    (λ h i l. (on-units_iff (get_or points i nan)).0 (all-at on_units? nan points h i l)),
    λ h. at_all on_units? nan points (λ i l. (on-units_iff (get_or points i nan)).1 (h i l)),
  )

  -- what decides the same answers the same
  pub on-units_test : (r : Bool) → (r ≡ true) ↔ AllOnUnits points → r ≡ all_on_units? points
  on-units_test r h = same_answer r (all_on_units? points) ((λ e. all-on-units_iff.1 (h.0 e)), λ e. h.1 (all-on-units_iff.0 e))

-- What the tests of `sheet_ok` say of the conditions: the levels, and how a test decides. Assumes nothing.
use mathlib.Core.Path.{◌≡◌, refl, sym, ap, ◌∙◌}
use mathlib.Core.Bool.{Bool, true, false, ◌&&◌, ◌||◌, false≢true}
use lib.Ieee.{Float, nan, inf, fin, lt, eq}
use Rattle.float.specs.Order.{is_finite}
use Rattle.field.specs.Valid.{levels_ok}

-- ---- the levels: what is below a finite number is finite or -infinity

pub levels_test : (lower upper : Float) → is_finite upper ≡ true → lt lower upper ≡ levels_ok lower upper
unfolding levels_ok is_finite lt eq
levels_test lower nan e = absurd (false≢true e)
levels_test lower (inf s) e = absurd (false≢true e)
levels_test nan (fin t n d) e = refl
levels_test (inf true) (fin t n d) e = refl
levels_test (inf false) (fin t n d) e = refl
levels_test (fin s m k) (fin t n d) e = refl

pub levels_none : (lower upper : Float) → is_finite upper ≡ false → false ≡ levels_ok lower upper
unfolding levels_ok
levels_none lower upper e =
    sym (ap (λ (b : Bool). (is_finite lower || eq lower (inf true)) && b && lt lower upper) e
    ∙ go (is_finite lower || eq lower (inf true)) (lt lower upper))
  where
    go : (a b : Bool) → (a && false && b) ≡ false
    go true b = refl
    go false b = refl

-- what a test says of the condition that its function ensures
pub failed : {r k : Bool} → r ≡ k → r ≡ false → k ≡ false
failed e f = sym e ∙ f

pub held : {r k : Bool} → r ≡ k → r ≡ true → k ≡ true
held e f = sym e ∙ f

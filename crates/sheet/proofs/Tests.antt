-- What tests mean: a test with its meaning is an equivalence, and such equivalences are put together as the tests are. Assumes nothing.
use mathlib.Core.Path.{◌≡◌, refl}
use mathlib.Core.Logic.{◌↔◌}
use mathlib.Core.Bool.{Bool, true, false, ◌&&◌}
use mathlib.Core.List.{List, [], ◌∷◌}
use Prim.Native.Nat.{ℕ, ◌≤◌, ◌<◌}
use borrow.Author.Tests.{leb-true, ltb-true, eqb-true, le-leb, lt-ltb, eq-eqb}
use lib.Dec.{leb, ltb, eqb}
use Rattle.surface.specs.Check.{every}
use Rattle.surface.proofs.Bools.{both, join}
use Rattle.sheet.specs.Sheet.{Every}

pub both-mean : {p q : Bool} {A B : Type 0} → (p ≡ true) ↔ A → (q ≡ true) ↔ B → ((p && q) ≡ true) ↔ (A × B)
both-mean {p} {q} f g = (
  λ e. let h = both p q e in (f.0 h.0, g.0 h.1),
  λ h. join p q (f.1 h.0) (g.1 h.1),
)

pub le_means : (a b : ℕ) → (leb a b ≡ true) ↔ (a ≤ b)
le_means a b = (leb-true a b, le-leb a b)

pub lt_means : (a b : ℕ) → (ltb a b ≡ true) ↔ (a < b)
lt_means a b = (ltb-true a b, lt-ltb a b)

pub eq_means : (a b : ℕ) → (eqb a b ≡ true) ↔ (a ≡ b)
eq_means a b = (eqb-true a b, eq-eqb a b)

pub every_means : {A : Type 0} {p : A → Bool} {P : A → Type 0} → ((a : A) → (p a ≡ true) ↔ P a) → (l : List A) → (every p l ≡ true) ↔ Every P l
unfolding every
every_means f [] = (λ e. tt, λ h. refl)
every_means f (a ∷ l) = both-mean (f a) (every_means f l)

-- a test fails where its meaning does
pub fails : {t : Bool} {A : Type 0} → (t ≡ true) ↔ A → (A → ⊥) → t ≡ false
fails {t = true} f n = absurd (n (f.0 refl))
fails {t = false} f n = refl

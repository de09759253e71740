-- A list whose end is set to z. Definitions only.
use Rattle.std.specs.Prelude.{ℕ, ◌-◌, List, ◌++◌, length, take, replicate}

-- from n on
abbrev pub blank : {A : Type 0} → A → List A → ℕ → List A
blank z l n = take n l ++ replicate (length l - n) z

-- l, then z, as long as the list lent
abbrev pub then_blank : {A : Type 0} → A → (lent l : List A) → List A
then_blank z lent l = l ++ replicate (length lent - length l) z

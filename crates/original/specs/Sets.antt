-- BTreeSet<usize>: a set is the list of what was inserted, and nothing here depends on the list's order or on how often an element stands in it. Definitions only.
use Rattle.std.specs.Prelude.{ℕ, Bool, true, false, ◌&&◌, ◌||◌, List, [], ◌∷◌, eqb}
use Rattle.surface.specs.Check.{every}
use Rattle.oracle.specs.Candidates.{chosen}

-- x in front, if the test is passed
abbrev pub push : {A : Type 0} → Bool → A → List A → List A
push true x l = x ∷ l
push false x l = l

-- whether x was inserted (`contains`)
unfoldable pub member : List ℕ → ℕ → Bool
member [] x = false
member (y ∷ l) x = eqb y x || member l x

-- `==` of two sets: every element of the one is in the other
unfoldable pub same_set : List ℕ → List ℕ → Bool
unfolding every member
same_set l m = every (member m) l && every (member l) m

-- `intersection`
unfoldable pub intersection : List ℕ → List ℕ → List ℕ
unfolding chosen member
intersection l m = chosen (member m) l

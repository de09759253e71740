-- The sides that a round tries to collapse: shorter than 0.36 of the mean, both as squares, with a weak triangle on them; in the order of their lengths, and where those are equal in rising order. Definitions only.
use Rattle.std.specs.Prelude.{ℕ, Bool, true, false, ◌&&◌, ◌||◌, cond, List, [], ◌∷◌, leb, length, Float}
use Rattle.std.specs.Float.Ieee as Ieee
use Rattle.std.specs.Float.{binary64}
use Rattle.std.specs.Float.Ieee.{to_bits}
use Rattle.float.specs.Point.{plus, times}
use Rattle.field.specs.Number.{plus_zero, counted}
use Rattle.surface.specs.Triangle.{Tri}
use Rattle.surface.specs.Closed.{sides}
use Rattle.surface.specs.Edit.{has}
use Rattle.history.specs.History.{Pair}
use Rattle.rounds.specs.Choices.{Side}
use Rattle.oracle.specs.Number.{weak_below, short_part}
use Rattle.oracle.specs.Scene.{Scene, score, squared}
use Rattle.oracle.specs.Rising.{rows_of, rising}

-- those of which the test holds, in their order
unfoldable pub chosen : {A : Type 0} → (A → Bool) → List A → List A
chosen f [] = []
chosen f (x ∷ l) = cond (f x) (x ∷ chosen f l) (chosen f l)

-- THE stable sort by a key: an element goes before the first whose key is not less than its own
unfoldable pub insert_by : {A : Type 0} → (A → ℕ) → A → List A → List A
insert_by key x [] = x ∷ []
insert_by key x (y ∷ l) = cond (leb (key x) (key y)) (x ∷ y ∷ l) (y ∷ insert_by key x l)

unfoldable pub sort_by : {A : Type 0} → (A → ℕ) → List A → List A
unfolding insert_by
sort_by key [] = []
sort_by key (x ∷ l) = insert_by key x (sort_by key l)

-- the squared lengths of the sides, added in order from +0, and their mean
unfoldable pub total : List Float → Float → List Side → Float
unfolding squared
total ps s [] = s
total ps s (d ∷ ds) = total ps (plus s (squared ps d.one d.two)) ds

abbrev pub mean : List Float → List Side → Float
mean ps ds = Ieee.div binary64 (total ps plus_zero ds) (counted (length ds))

abbrev pub limit : List Float → List Side → Float
limit ps ds = times short_part (mean ps ds)

-- a triangle on the side between a and b is weak
unfoldable pub weak : Scene → List Tri → List ℕ → ℕ → ℕ → Bool
unfolding score
weak s [] ls a b = false
weak s (t ∷ ts) [] a b = false
weak s (t ∷ ts) (l ∷ ls) a b = (has a b t && Ieee.lt (score s t l) weak_below) || weak s ts ls a b

unfoldable pub candidate : Scene → Pair → Float → Side → Bool
unfolding squared weak
candidate s p most d = Ieee.lt (squared s.points d.one d.two) most && weak s p.tris p.labels d.one d.two

-- The squared length by its bits: as it is neither NaN nor negative, the bits rise with it, and the original's `total_cmp` compares just these.
unfoldable pub length_bits : List Float → Side → ℕ
unfolding squared
length_bits ps d = to_bits binary64 (squared ps d.one d.two)

-- the candidates of a pair of lists whose corners are below n
unfoldable pub candidates : Scene → Pair → ℕ → List Side
unfolding sort_by chosen total candidate length_bits rows_of
candidates s p n = let all = rising p.tris n in sort_by (length_bits s.points) (chosen (candidate s p (limit s.points all)) all)

-- Where the areas of the work words start that the collapse pass uses, by the corners and the number of points. In the order in which they are made: behind those of `sides`, which end with the sides, the chains, the marks of the labels, the stamps, the marks of the sides, the marks of the triangles, the keys of the sides, the candidates, a spare area for the sort, and what the pass writes: the touched corners, what each corner becomes, the triangles that go. Definitions only.
use Rattle.std.specs.Prelude.{ℕ, ◌+◌, ◌*◌, ◌/◌, List, length}
use Rattle.collapsing.specs.declared.Areas.{Areas}

abbrev pub sides_from : List ℕ → ℕ → ℕ
sides_from c p = p * 3 + length c * 3

abbrev pub chains_from : List ℕ → ℕ → ℕ
chains_from c p = sides_from c p + length c / 2

abbrev pub carried_from : List ℕ → ℕ → ℕ
carried_from c p = chains_from c p + p + length c

abbrev pub stamps_from : List ℕ → ℕ → ℕ
stamps_from c p = carried_from c p + p * 8

abbrev pub lones_from : List ℕ → ℕ → ℕ
lones_from c p = stamps_from c p + p

abbrev pub weak_from : List ℕ → ℕ → ℕ
weak_from c p = lones_from c p + length c

abbrev pub keys_from : List ℕ → ℕ → ℕ
keys_from c p = weak_from c p + length c / 3

abbrev pub items_from : List ℕ → ℕ → ℕ
items_from c p = keys_from c p + length c / 2 * 2

abbrev pub spare_from : List ℕ → ℕ → ℕ
spare_from c p = items_from c p + length c / 2

abbrev pub touched_from : List ℕ → ℕ → ℕ
touched_from c p = spare_from c p + length c / 2

-- how many words the pass needs
abbrev pub collapse_words : List ℕ → ℕ → ℕ
collapse_words c p = touched_from c p + p * 2 + length c / 3

-- all of them
abbrev pub areas_of : List ℕ → ℕ → Areas
areas_of c p = record {
  twins = p * 3 + length c;
  sides = sides_from c p;
  chains = chains_from c p;
  carried = carried_from c p;
  stamps = stamps_from c p;
  lones = lones_from c p;
  weak = weak_from c p;
  keys = keys_from c p;
  items = items_from c p;
  spare = spare_from c p;
  touched = touched_from c p;
}

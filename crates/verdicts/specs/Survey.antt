-- What one pass over the triangles finds for a collapse that keeps a and removes b, and what is said of the collapse by that. Definitions only.
use Rattle.std.specs.Prelude.{ℕ, ◌≡◌, Bool, true, false, not, ◌||◌, cond, List, [], ◌∷◌, get_or, set}
use Rattle.surface.specs.Triangle.{Tri, names}
use Rattle.surface.specs.Check.{every}
use Rattle.history.specs.History.{Pair}
use Rattle.history.specs.Local.{collapse_word}
use Rattle.verdicts.specs.Found.{Flags}
use Rattle.verdicts.specs.Notes.{Noted, StepsNoted}
use Rattle.verdicts.specs.declared.CornerLabels.{CornerLabels}

-- the labels that there are
abbrev pub all_labels : List ℕ
all_labels = 0 ∷ 1 ∷ 2 ∷ 3 ∷ 4 ∷ 5 ∷ 6 ∷ 7 ∷ []

-- the flag of a triangle's label is set, where the triangle names v
abbrev pub flagged : ℕ → Tri → ℕ → List Bool → List Bool
flagged v t label flags = cond (names t v) (set flags label true) flags

-- the labels of both corners, and the steps around b
pub record Surveyed (ts : List Tri) (ls : List ℕ) (a b : ℕ) (f : CornerLabels) (w : List ℕ) : Type 0 where
  pub kept : Flags ts ls a f.kept
  pub removed : Flags ts ls b f.removed
  pub notes : Noted ts b w

-- a label that is flagged in `removed` is flagged in `kept`; so is every label
abbrev pub flag_covered : List Bool → List Bool → ℕ → Bool
flag_covered kept removed k = not (get_or removed k false) || get_or kept k false

abbrev pub flags_cover : List Bool → List Bool → Bool
flags_cover kept removed = every (flag_covered kept removed) all_labels

-- The verdict word of the collapse of a side of the pair p; and whatever it is, the words lent for notes, w before, hold the steps around b.
pub record CollapseJudged (p : Pair) (a b : ℕ) (space : Bool) (w w' : List ℕ) (r : ℕ) : Type 0 where
  pub word : r ≡ collapse_word p a b space
  pub steps : StepsNoted p.tris b w w'

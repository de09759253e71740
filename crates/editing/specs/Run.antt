-- What the loop over the entries is handed, and what it leaves. Definitions only.
use Rattle.std.specs.Prelude.{ℕ, ◌*◌, ◌/◌, ◌≡◌, List, length, drop, replicate}
use Rattle.history.specs.History.{History, begun, after, verdicts}
use Rattle.history.specs.Lists.{entries}
use Rattle.history.specs.Flat.{pair_of}
use Rattle.history.specs.Entry.{needed, Standing}
use Rattle.editing.specs.Held.{Holds}

-- every place of the lists is in use, the journal is empty, and each entry has three words and a verdict word
pub record Starting (points : ℕ) (l ls w es v j : List ℕ) : Type 0 where
  pub standing : Standing l ls (length ls) points w
  pub empty : j ≡ replicate (length j) 0
  pub threes : length es ≡ 3 * length v

-- the history before the first entry
abbrev pub first : List ℕ → List ℕ → History
first l ls = begun (pair_of l ls (length ls))

pub record Ran (points : ℕ) (l ls w es j l' ls' w' v' j' : List ℕ) (n k : ℕ) : Type 0 where
  pub holds : Holds points l' ls' w' j' n k (after (length j / 12) (first l ls) (entries es))
  pub words : v' ≡ verdicts (length j / 12) (first l ls) (entries es)
  pub further : drop (needed ls points) w' ≡ drop (needed ls points) w

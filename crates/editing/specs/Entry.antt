-- An entry of a run, read from its three words. Definitions only.
use Rattle.std.specs.Prelude.{ℕ, ◌≡◌, List, Result, MatchResult, get_or}
use Rattle.history.specs.History as history
use Rattle.history.specs.Flat.{entry_of}
use Rattle.verdicts.specs.declared.Unfit.{Unfit}
use Rattle.verdicts.specs.declared.Unfit.TheVariants.{NoEntry}
use Rattle.editing.specs.declared.Entry.{Entry}
use Rattle.editing.specs.declared.Entry.TheVariants.{Flip, Collapse, Back}

-- the entry as the history has it
abbrev pub entry_is : Entry → history.Entry
entry_is (Flip a b) = entry_of 1 a b
entry_is (Collapse a b) = entry_of 2 a b
entry_is (Back count) = entry_of 3 count 0

-- kind, a and b are no entry's
pub record NoEntryOf (kind a b : ℕ) : Type 0 where
  pub flip : kind ≡ 1 → ⊥
  pub collapse : kind ≡ 2 → ⊥
  pub back : kind ≡ 3 → b ≡ 0 → ⊥

-- the entry of three words, or NoEntry where they are none's
abbrev pub Reads : List ℕ → Result Entry Unfit → Type 0
Reads ws r = MatchResult r
    (λ e. entry_is e ≡ entry_of (get_or ws 0 0) (get_or ws 1 0) (get_or ws 2 0))
    (λ why. (why ≡ NoEntry) × NoEntryOf (get_or ws 0 0) (get_or ws 1 0) (get_or ws 2 0))

-- What the lists of a run hold between two entries, and what each function of the run does to the history that they hold. Definitions only.
use Rattle.std.specs.Prelude.{Result, Ok, Err, ℕ, ◌+◌, ◌*◌, ◌-◌, ◌/◌, ◌≤◌, ◌≡◌, List, [], ◌∷◌, ◌++◌, length, take, drop, replicate}
use Rattle.history.specs.History.{Pair, Entry, Made, last_of, History, last, in_force, verdict, next}
use Rattle.history.specs.Lists.{records}
use Rattle.history.specs.Flat.{pair_of}
use Rattle.history.specs.Entry.{needed, Standing, Recorded}
use Rattle.verdicts.specs.declared.Unfit.{Unfit}
use Rattle.editing.specs.declared.Left.{Left}

-- each edit in force was made of the pair before it, and its record says so
pub data Chain (points size : ℕ) (p : Pair) : List Made → Type 0 where
  none : Chain points size p []
  link : {x : Made} {l : List Made} → Recorded points size (last_of p l) x.words x.pair → Chain points size p l → Chain points size p (x ∷ l)

-- the n triangles in use with their labels are the history's last pair, and the journal has the records of its k edits in force, the oldest first, then 0
pub record Holds (points : ℕ) (l ls w j : List ℕ) (n k : ℕ) (h : History) : Type 0 where
  pub standing : Standing l ls n points w
  pub last : pair_of l ls n ≡ last h
  pub count : in_force h ≡ k
  pub chain : Chain points (length ls) h.lent h.edits
  pub room : 12 * k ≤ length j
  pub journal : j ≡ records h.edits ++ replicate (length j - 12 * k) 0

-- some history's
pub record Held (points : ℕ) (l ls w j : List ℕ) (n k : ℕ) : Type 0 where
  pub past : History
  pub holds : Holds points l ls w j n k past

-- the history without its last n pairs
abbrev pub without : ℕ → History → History
without n h = record { lent = h.lent; edits = drop n h.edits }

-- after the last a edits in force are taken back
pub record Returned (points : ℕ) (l ls w j : List ℕ) (n k a : ℕ) (l' ls' w' j' : List ℕ) (m : ℕ) : Type 0 where
  pub holds : (h : History) → Holds points l ls w j n k h → Holds points l' ls' w' j' m (k - a) (without a h)
  pub further : drop (needed ls points) w' ≡ drop (needed ls points) w

-- after an entry: its verdict word, and what the next history has
pub record Entered (points : ℕ) (l ls w j : List ℕ) (n k : ℕ) (e : Entry) (l' ls' w' j' : List ℕ) (m i word : ℕ) : Type 0 where
  pub verdict : (h : History) → Holds points l ls w j n k h → word ≡ verdict (length j / 12) h e
  pub holds : (h : History) → Holds points l ls w j n k h → Holds points l' ls' w' j' m i (next (length j / 12) h e)
  pub further : drop (needed ls points) w' ≡ drop (needed ls points) w

-- after the record of an accepted flip or collapse is noted in the journal
pub record Noted (j : List ℕ) (k n : ℕ) (ws j' : List ℕ) (n' k' : ℕ) : Type 0 where
  pub count : n' ≡ n
  pub written : j' ≡ take (12 * k) j ++ ws ++ drop (12 * k + 12) j
  pub edits : k' ≡ k + 1

-- what an entry leaves: what it came to, or what was there
abbrev pub left_after : Left → Result Left Unfit → Left
left_after left (Ok next) = next
left_after left (Err why) = left

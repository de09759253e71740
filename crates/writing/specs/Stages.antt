-- What the functions of `src/` write, part by part. Definitions only.
use Rattle.std.specs.Prelude.{ℕ, ◌+◌, ◌≤◌, ◌≡◌, Bool, cond, ◌&&◌, List, leb, length, replicate, Result, Ok, Err}
use Rattle.std.proofs.lemmas.List.Edits.{sets}
use Rattle.sheet.specs.declared.Refusal.{Refusal}
use Rattle.sheet.specs.declared.Refusal.TheVariants.{NoRoom, Inexact}
use Rattle.writing.specs.declared.Writer.{Writer}

-- The bytes w, of which there are `long` at most, are stored from `at` on, and `next` is the place after them. Those that lie past the list's end are counted and not stored.
pub record Put (w : List ℕ) (long : ℕ) (l l' : List ℕ) (at next : ℕ) : Type 0 where
  pub stored : l' ≡ sets l at w
  pub place : next ≡ at + length w
  pub short : length w ≤ long

-- they are put at the writer's place, on the list that it has
pub record Writes (w : List ℕ) (long : ℕ) (old new : Writer) : Type 0 where
  pub same : new.written.ghost_name ≡ old.written.ghost_name
  pub put : Put w long old.written.now new.written.now old.at new.at

-- what comes of a text that needs `count` bytes: inexact unless it is exact, then no room unless there is room
abbrev pub settled_as : (exact room : Bool) (count : ℕ) → Result ℕ Refusal
settled_as exact room count = cond exact (cond room (Ok count) (Err NoRoom)) (Err Inexact)

pub record SettledText (exact : Bool) (count : ℕ) (l l' : List ℕ) (r : Result ℕ Refusal) : Type 0 where
  pub answered : r ≡ settled_as exact (leb count (length l)) count
  pub bytes : l' ≡ cond (exact && leb count (length l)) l (replicate (length l) 0)

-- What an entry came to, as the numbers that a history's definitions speak of: a refused entry leaves the n triangles, and its record is 0. Definitions only.
use Rattle.std.specs.Prelude.{ℕ, List, Result, Ok, Err, replicate}
use Rattle.verdicts.specs.Record.{words_of}
use Rattle.verdicts.specs.declared.Unfit.{Unfit}
use Rattle.entries.specs.declared.Came.{Came}

abbrev pub triangles_after : ℕ → Result Came Unfit → ℕ
triangles_after n (Ok came) = came.triangles
triangles_after n (Err why) = n

abbrev pub words_after : Result Came Unfit → List ℕ
words_after (Ok came) = words_of came.done
words_after (Err why) = replicate 12 0

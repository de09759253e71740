-- An entry's verdict word: why it is refused, or 0. Definitions only.
use Rattle.std.specs.Prelude.{ℕ, Result, Ok, Err}
use Rattle.verdicts.specs.declared.Unfit.{Unfit}
use Rattle.verdicts.specs.declared.Unfit.TheVariants.{NoEntry, NoSide, LabelsDiffer, LabelLost, NotClosed, TooMany, JournalFull}

abbrev pub unfit_word : Unfit → ℕ
unfit_word NoEntry = 21
unfit_word NoSide = 22
unfit_word LabelsDiffer = 23
unfit_word LabelLost = 24
unfit_word NotClosed = 25
unfit_word TooMany = 26
unfit_word JournalFull = 27

abbrev pub verdict_word : {A : Type 0} → Result A Unfit → ℕ
verdict_word (Ok x) = 0
verdict_word (Err why) = unfit_word why

-- The words of a record, in their order. Definitions only.
use Rattle.std.specs.Prelude.{ℕ, List, [], ◌∷◌}
use Rattle.verdicts.specs.declared.Record.{Record}

abbrev pub words_of : Record → List ℕ
words_of r =
    r.kind ∷ r.a ∷ r.b ∷ r.c ∷ r.d ∷ r.earlier ∷ r.later ∷ r.start_earlier ∷ r.start_later
    ∷ r.label_earlier ∷ r.label_later ∷ r.ahead ∷ []

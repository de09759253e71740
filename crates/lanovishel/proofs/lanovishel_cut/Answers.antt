-- `lanovishel::lanovishel_cut` meets its contract: it hands on what `cut` of `cuts` answers. Assumes nothing.
use Rattle.lanovishel.proofs.Cut.{f64_levels, cut_call}
use Rattle.lanovishel.proofs.lanovishel_cut.Goals as goal

pub returns-in-Ok : goal.returns-in-Ok
returns-in-Ok c =
    cut_call c.cut.ensures (f64_levels _ c.known_f64.ensures c.known_f64-2.ensures) _ _ _ _ _ c.in-Ok.is
    c.low_word.ensures c.low_word-in-Ok.ensures c.low_word-in-Ok-2.ensures c.low_word-in-Ok-3.ensures

-- `lanovishel::lanovishel_sample` meets its contract: it hands on what `sample` of `lattice` answers. Assumes nothing.
use Rattle.lanovishel.proofs.Sample.{sampled-call}
use Rattle.lanovishel.proofs.lanovishel_sample.Goals as goal

pub returns-in-Ok : goal.returns-in-Ok
returns-in-Ok c =
    sampled-call c.sample.ensures _ _ _ _ c.in-Ok.is c.low_word.ensures c.low_word-in-Ok.ensures c.low_word-in-Ok-2.ensures

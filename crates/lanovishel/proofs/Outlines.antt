-- A call that answers 0 has the list of a call that passes the questions: the laws of `layers` hold of it.
use mathlib.Core.Path.{sym, ap, ◌∙◌}
use mathlib.Core.List.{List}
use Prim.Native.Nat.{ℕ}
use lib.IntN.{ℤ}
use lib.ListN.{length}
use lib.Ieee.{Float}
use Rattle.questions.specs.Refusal.{Asked}
use Rattle.layers.specs.Call.{after_questions, list_after}
use Rattle.layers.specs.Laws.{LayerLists, LayerLaws}
use Rattle.layers.proofs.Laws.{zero-listed, layer_laws_of}
use Rattle.lanovishel.specs.Outlines.{CallLists}

lists : (points : List Float) (corners : List ℕ) (height : ℤ) (outline' : List ℕ) → CallLists points corners height outline' → LayerLists points corners height outline'
lists points corners height outline' a =
    let p = zero-listed points corners a.labels a.work height (length a.outline) (sym a.call.answer) in
    record {
      labels = a.labels;
      work = a.work;
      list = a.outline;
      passed = p;
      places = a.call.places ∙ ap (λ (q : Asked). list_after (after_questions points corners height q) points corners height a.outline) p;
    }

pub call-laws : LayerLaws CallLists
call-laws = layer_laws_of CallLists lists

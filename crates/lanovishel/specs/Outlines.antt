-- `lanovishel_outlines` for every call: document 02's number, the list of outlines, which is 0 behind them and all 0 after a refusal, places filled and loops, the place, which is 0 0 but for a finding, and the work words afterwards.
-- The other lists are only read. Definitions only.
use Rattle.std.specs.Prelude.{ℕ, ◌≡◌, List, ℤ, length, Float}
use Rattle.questions.specs.Questions.{work_after}
use Rattle.layers.specs.Call.{layer_of, layer_number, layer_counts, layer_place, list_after}

pub record OutlinesCall (points : List Float) (corners labels work : List ℕ) (height : ℤ) (outline work' outline' counts' place' : List ℕ) (number : ℕ) : Type 0 where
  pub answer : number ≡ layer_number (layer_of points corners labels work height (length outline))
  pub places : outline' ≡ list_after (layer_of points corners labels work height (length outline)) points corners height outline
  pub counts : counts' ≡ layer_counts (layer_of points corners labels work height (length outline))
  pub place : place' ≡ layer_place (layer_of points corners labels work height (length outline))
  pub words : work' ≡ work_after number points corners work

-- a call that answers 0, with its list: the laws of `layers` hold of it (`call-laws` of `proofs/Outlines` proves `LayerLaws CallLists`)
pub record CallLists (points : List Float) (corners : List ℕ) (height : ℤ) (outline' : List ℕ) : Type 0 where
  pub labels : List ℕ
  pub work : List ℕ
  pub outline : List ℕ
  pub work' : List ℕ
  pub counts' : List ℕ
  pub place' : List ℕ
  pub call : OutlinesCall points corners labels work height outline work' outline' counts' place' 0

-- What holds of the outlines of a layer (document 02, F-9), in readable form. Statements only; `layer_laws` of proofs/Laws proves them of `LayerLists`, and `outlines-close` of the same file the first one.
use Rattle.std.specs.Prelude.{ℕ, ◌≤◌, ◌≡◌, Ok, List, ◌++◌, ℤ, length, replicate, Float}
use Rattle.surface.specs.Triangle.{triangles}
use Rattle.surface.specs.Closed.{Closed}
use Rattle.surface.specs.PageTwelve.{Relisted}
use Rattle.questions.specs.Questions.{surface_questions}
use Rattle.outlines.specs.Outline.{Place, place_words}
use Rattle.outlines.specs.Request.{Outlines}
use Rattle.outlines.specs.Laws.{AllClose}
use Rattle.layers.specs.Layer.{Layered, above_layer, layer_loops}
use Rattle.layers.specs.Call.{outline_questions, after_questions, list_after}

-- for every closed surface and every height the outlines close
abbrev pub OutlinesClose : Type 0
OutlinesClose = (points : List Float) (corners : List ℕ) (height : ℤ) → Closed (triangles corners) → AllClose (above_layer points height) (triangles corners) (layer_loops points corners height)

-- the words hold places that have all that the request says, and behind them 0
pub record HoldsOutlines (points : List Float) (corners : List ℕ) (height : ℤ) (words : List ℕ) : Type 0 where
  pub places : List Place
  pub request : Outlines (above_layer points height) (triangles corners) places
  pub behind : ℕ
  pub written : words ≡ place_words places ++ replicate behind 0

-- the list of a call that passes the questions, whatever else was lent
pub record LayerLists (points : List Float) (corners : List ℕ) (height : ℤ) (list' : List ℕ) : Type 0 where
  pub labels : List ℕ
  pub work : List ℕ
  pub list : List ℕ
  pub passed : outline_questions points corners labels work height (length list) ≡ Ok tt
  pub places : list' ≡ list_after (after_questions points corners height (Ok tt)) points corners height list

-- the laws of lists, by what they are the lists of
pub record LayerLaws (Says : List Float → List ℕ → ℤ → List ℕ → Type 0) : Type 0 where
  -- the surface is closed
  pub closed : (points : List Float) (corners : List ℕ) (height : ℤ) (list : List ℕ) → Says points corners height list → Closed (triangles corners)
  -- the list has all that the request says,
  pub holds : (points : List Float) (corners : List ℕ) (height : ℤ) (list : List ℕ) → Says points corners height list → HoldsOutlines points corners height list
  -- and no other of its length has
  pub only : (points : List Float) (corners : List ℕ) (height : ℤ) (list other : List ℕ) → Says points corners height list → length other ≡ length list → HoldsOutlines points corners height other → other ≡ list
  -- the outlines close
  pub close : (points : List Float) (corners : List ℕ) (height : ℤ) (list : List ℕ) → Says points corners height list → AllClose (above_layer points height) (triangles corners) (layer_loops points corners height)
  -- neither the order of the triangles nor where each turn begins matters: two lists of one length are equal
  pub relisted : (points : List Float) (corners corners' : List ℕ) (height : ℤ) (list list' : List ℕ) → Relisted (triangles corners) (triangles corners') → Says points corners height list → Says points corners' height list'
      → length list' ≡ length list → list' ≡ list
  -- a surface that editing takes, with a height and coordinates that 40 lets in, is never refused where the list has as many words as the list of corners
  pub enough : (points : List Float) (corners labels work : List ℕ) (height : ℤ) (words : ℕ) → surface_questions points corners labels work ≡ Ok tt → Layered points height → length corners ≤ words
      → outline_questions points corners labels work height words ≡ Ok tt

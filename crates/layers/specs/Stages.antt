-- What the private functions are handed and what they leave. Definitions only.
use Rattle.std.specs.Prelude.{ℕ, ◌+◌, ◌*◌, ◌/◌, ◌≤◌, ◌<◌, ◌≡◌, Result, cond, List, ◌++◌, leb, ℤ, length, get_or, drop, Float}
use Rattle.std.specs.Float.{nan}
use Rattle.std.specs.Float.Ieee.{lt}
use Rattle.surface.specs.Triangle.{triangles}
use Rattle.surface.specs.Closed.{one, Closed}
use Rattle.halfedges.specs.Place.{at}
use Rattle.closing.specs.Closing.{needed, Lent}
use Rattle.outlines.specs.Outline.{place_words}
use Rattle.layers.specs.Layer.{Layered, layer_crossings, layer_outlines}
use Rattle.layers.specs.Call.{places_question, after_questions}
use Rattle.questions.specs.declared.Refusal.{Refusal}
use Rattle.layers.specs.declared.Layer.{Layer}

-- the words of the points below n are noted, by the comparison of their z with the level
pub record KindsNoted (points : List Float) (level : Float) (base : ℕ) (w w' : List ℕ) (n : ℕ) : Type 0 where
  pub kinds : (v : ℕ) → v < n → at w' (base + v) ≡ one (lt level (get_or points (3 * v + 2) nan))
  pub far : (j : ℕ) → base + length points / 3 ≤ j → at w' j ≡ at w j

-- a closed surface on whole units with its words, and a height in range
pub record Crossable (points : List Float) (corners work : List ℕ) (height : ℤ) : Type 0 where
  pub lent : Lent corners (length points / 3) work
  pub closed : Closed (triangles corners)
  pub layered : Layered points height

-- question 41 is asked, and where it is passed, the list begins with the outlines; further words are as they were
pub record LayerTraced (points : List Float) (corners work work' : List ℕ) (height : ℤ) (list list' : List ℕ) (layer : Result Layer Refusal) : Type 0 where
  pub answer : layer ≡ after_questions points corners height (places_question points corners height (length list))
  pub places : list' ≡ cond (leb (length (layer_crossings points corners height)) (length list / 3)) (place_words (layer_outlines points corners height) ++ drop (3 * length (layer_crossings points corners height)) list) list
  pub far : drop (needed corners (length points / 3)) work' ≡ drop (needed corners (length points / 3)) work

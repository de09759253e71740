-- What the functions of the collapse pass are handed and leave. Definitions only.
use Rattle.std.specs.Prelude.{ℕ, zero, suc, ◌+◌, ◌*◌, ◌/◌, ◌<◌, ◌≤◌, ◌≡◌, true, List, [], ◌∷◌, ◌++◌, length, set, Float}
use Rattle.surface.specs.Triangle.{triangles}
use Rattle.surface.specs.Closed.{one, Closed}
use Rattle.rounds.specs.Pass.{State}
use Rattle.rounds.specs.Choices.{Side}
use Rattle.halfedges.specs.Place.{at, uses}
use Rattle.halfedges.specs.Free.{Free}
use Rattle.sides.specs.Side.{Twin}
use Rattle.chains.specs.Chain.{walk, Chained}
use Rattle.chains.specs.Common.{lone}
use Rattle.chains.specs.LabelMarks.{Labelled, Carried}
use Rattle.chains.specs.Marks.{Lists}
use Rattle.scores.specs.Measures.{side_at}
use Rattle.oracle.specs.Scene.{Scene, scene}
use Rattle.slivers.specs.declared.Pass.{Pass}
use Rattle.oracle.specs.Slivers.{pass}
use Rattle.slivers.specs.Touch.{touch_at}
use Rattle.slivers.specs.Stand.{pair_of, Stands}
use Rattle.slivers.specs.Decide.{step_of}

-- The prepared words, all below `touched`: the valences and the twins (of `sides`), the chains, the marks of the labels and of the sides.
pub record Ready (ps : List Float) (c ls : List ℕ) (p : ℕ) (w : List ℕ) (chains carried marks touched : ℕ) : Type 0 where
  pub lists : Lists c p
  pub coords : length ps ≡ p * 3
  pub labelled : Labelled c ls
  pub closed : Closed (triangles c)
  pub chained : Chained c p w chains
  pub carries : Carried c ls p w carried
  pub twins : (k : ℕ) → k < length c → Twin c k (at w (p * 3 + length c + k))
  pub valences : (v : ℕ) → v < p → at w (p + v) ≡ uses c v (length c)
  pub lones : (k : ℕ) → k < length c → at w (marks + k) ≡ one (lone c k)
  pub first : p * 3 + length c + length c ≤ touched
  pub second : chains + p + length c ≤ touched
  pub third : carried + p * 8 ≤ touched
  pub fourth : marks + length c ≤ touched
  pub room : touched + p * 2 + length ls ≤ length w

-- the words of a pass are prepared
abbrev pub Prepared : Pass → List ℕ → Type 0
Prepared t w = Ready t.points.now t.corners.now t.labels.now t.heads w t.chains t.carried t.marks t.touched

-- what its shapes are measured by
abbrev pub scene_of : Pass → Scene
scene_of t = scene t.points.now t.terms.coefficients.now t.terms.powers.now

-- the words that a collapse leaves
abbrev pub collapsed_words : List ℕ → ℕ → ℕ → ℕ → ℕ → ℕ → ℕ → List ℕ → List ℕ
collapsed_words c p touched a b k t w =
    set (set (set (walk (touch_at c touched) c b (length c) (walk (touch_at c touched) c a (length c) w)) (touched + p + b) a) (touched + p * 2 + k / 3) 1) (touched + p * 2 + t / 3) 1

-- what a candidate leaves: the state one step further, and no word changes but those of the state
pub record Advance (s : Scene) (c ls : List ℕ) (p touched : ℕ) (d : Side) (w w' : List ℕ) : Type 0 where
  pub rest : Free touched (touched + p * 2 + length ls) w w'
  pub step : (st : State) → Stands c (length ls) p touched w st → Stands c (length ls) p touched w' (step_of true s (pair_of c ls) st d)

-- the sides of the first j items
unfoldable pub candidates_in : List ℕ → List ℕ → ℕ → ℕ → ℕ → List Side
candidates_in c w sides items zero = []
candidates_in c w sides items (suc j) = candidates_in c w sides items j ++ (side_at c (at w (sides + at w (items + j))) ∷ [])

-- what the first j items leave
pub record Passing (s : Scene) (c ls : List ℕ) (p sides items touched : ℕ) (w w' : List ℕ) (j : ℕ) : Type 0 where
  pub rest : Free touched (touched + p * 2 + length ls) w w'
  pub state : (st : State) → Stands c (length ls) p touched w st → Stands c (length ls) p touched w' (pass true s (pair_of c ls) st (candidates_in c w sides items j))

-- the items are numbers of sides, and those are places
pub record Items (c w : List ℕ) (sides items count touched : ℕ) : Type 0 where
  pub places : (j : ℕ) → j < count → at w (sides + at w (items + j)) < length c
  pub inside : (j : ℕ) → j < count → sides + at w (items + j) < touched
  pub order : items + count ≤ touched

-- what a walk along the places of b is handed
pub record Walks (c : List ℕ) (p : ℕ) (w : List ℕ) (chains a b n : ℕ) : Type 0 where
  pub chained : Chained c p w chains
  pub room : chains + p + length c ≤ length w
  pub keep : a < p
  pub remove : b < p
  pub apart : b ≡ a → ⊥
  pub coords : n ≡ p * 3
  pub closed : Closed (triangles c)

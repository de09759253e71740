-- What is shown of an edge's cut (document 02, F-7), for any residual: `solve-laws` of `proofs/Edge` proves it. Definitions only.
use Rattle.std.specs.Prelude.{ℕ, zero, suc, ◌+◌, ◌≤◌, ◌≡◌, ◌⊎◌, true, false, ◌&&◌, cond, List, [], ◌∷◌, T, length, Float}
use Rattle.std.specs.Float.Ieee as Ieee
use Rattle.std.specs.Float.{binary64, float_with_sign}
use Rattle.std.specs.Float.Ieee.{fits}
use Rattle.float.specs.Point.{less}
use Rattle.float.specs.Order.{is_finite}
use Rattle.field.specs.Number.{plus_zero, one}
use Rattle.lattice.specs.Values.{magnitude, tolerance}
use Rattle.solve.specs.declared.bracket.Bracket.{Bracket}
use Rattle.solve.specs.declared.Cut.TheVariants.{First, Second, At}
use Rattle.solve.specs.declared.Solved.{Solved}
use Rattle.solve.specs.Solve.{same_sign, edge_scale, midway, parameter, narrowed, ending, failing, first_bracket, solve}

-- a listed edge: of its nodes' values one is below the level and the other is not, all three finite
pub record CrossedValues (first second level : Float) : Type 0 where
  pub first-finite : is_finite first ≡ true
  pub second-finite : is_finite second ≡ true
  pub level_finite : is_finite level ≡ true
  pub apart : Ieee.lt first level ≡ Ieee.lt second level → ⊥

-- what the Rust asks before its search, with "No bracket" as the other answer: a node on the level, or residuals of opposite sign
abbrev pub Bracketed : Float → Float → Type 0
Bracketed va vb = (Ieee.eq va plus_zero ≡ true) ⊎ (Ieee.eq vb plus_zero ≡ true) ⊎ (same_sign va vb ≡ false)

-- x lies in lo..hi
pub record LiesIn (lo hi x : Float) : Type 0 where
  pub from : Ieee.le lo x ≡ true
  pub to : Ieee.le x hi ≡ true

-- one value below 0 and the other above
abbrev pub Opposite : Float → Float → Type 0
Opposite x y = ((Ieee.lt x plus_zero ≡ true) × (Ieee.lt plus_zero y ≡ true)) ⊎ ((Ieee.lt plus_zero x ≡ true) × (Ieee.lt y plus_zero ≡ true))

-- an interval in 0..1; the residual at each end is the node's, at 0 or 1, or the one taken there; and these two are of opposite sign
pub record Straddles (residual : Float → Float) (va vb : Float) (k : Bracket) : Type 0 where
  pub lo : LiesIn plus_zero k.hi k.lo
  pub hi : LiesIn k.lo one k.hi
  pub flo : ((k.lo ≡ plus_zero) × (k.flo ≡ va)) ⊎ (k.flo ≡ residual k.lo)
  pub fhi : ((k.hi ≡ one) × (k.fhi ≡ vb)) ⊎ (k.fhi ≡ residual k.hi)
  pub opposite : Opposite k.flo k.fhi

-- ---- how a search ends, with at most 52 field values

-- at a parameter in 0..1 whose residual is within the limit
pub record ToleranceMet (residual : Float → Float) (limit : Float) (s : Solved) : Type 0 where
  pub t : Float
  pub inside : LiesIn plus_zero one t
  pub meets : Ieee.le (magnitude (residual t)) limit ≡ true
  pub taken : ℕ
  pub few : taken ≤ 52
  pub is : s ≡ ending (At t) taken

-- after 52 field values, midway in an interval whose ends had residuals of opposite sign
pub record Halved (residual : Float → Float) (va vb : Float) (s : Solved) : Type 0 where
  pub k : Bracket
  pub straddles : Straddles residual va vb k
  pub between : LiesIn k.lo k.hi (midway k)
  pub inside : LiesIn plus_zero one (midway k)
  pub is : s ≡ ending (At (midway k)) 52

-- at a parameter in 0..1 whose residual is not finite
pub record Failed (residual : Float → Float) (s : Solved) : Type 0 where
  pub t : Float
  pub inside : LiesIn plus_zero one t
  pub fails : is_finite (residual t) ≡ false
  pub taken : ℕ
  pub few : taken ≤ 52
  pub is : s ≡ failing taken

abbrev pub SearchEnds : (residual : Float → Float) (limit va vb : Float) → Solved → Type 0
SearchEnds residual limit va vb s = ToleranceMet residual limit s ⊎ Halved residual va vb s ⊎ Failed residual s

-- ---- how an edge ends

-- the first or the second node is on the level, and is the cut
pub record OnFirst (first level : Float) (s : Solved) : Type 0 where
  pub on : Ieee.eq first level ≡ true
  pub is : s ≡ ending First 0

pub record OnSecond (second level : Float) (s : Solved) : Type 0 where
  pub on : Ieee.eq second level ≡ true
  pub is : s ≡ ending Second 0

-- a node's residual is not finite
pub record NodeFailed (va vb : Float) (s : Solved) : Type 0 where
  pub fails : (is_finite va ≡ false) ⊎ (is_finite vb ≡ false)
  pub is : s ≡ failing 0

-- by the values at its nodes and the level
abbrev pub EdgeEnds : (residual : Float → Float) (first second level : Float) → Solved → Type 0
EdgeEnds residual first second level s =
    OnFirst first level s ⊎ OnSecond second level s ⊎ NodeFailed (less first level) (less second level) s
    ⊎ SearchEnds residual (tolerance (edge_scale (less first level) (less second level) level)) (less first level) (less second level) s

-- ---- the field values that are taken: their parameters in order

unfoldable pub tried : (residual : Float → Float) (limit va : Float) → ℕ → ℕ → Bracket → List Float
unfolding float_with_sign parameter narrowed is_finite
tried residual limit va zero round k = []
tried residual limit va (suc left) round k =
    let t = parameter round k in
    let v = residual t in
    t ∷ cond (is_finite v) (cond (Ieee.le (magnitude v) limit) [] (tried residual limit va left (round + 1) (narrowed k va t v))) []

-- of an edge: none where a node's residual is not finite or 0
unfoldable pub parameters : (residual : Float → Float) (level va vb : Float) → List Float
unfolding tried edge_scale is_finite
parameters residual level va vb =
    cond (is_finite va && is_finite vb)
    (cond (Ieee.eq va plus_zero) [] (cond (Ieee.eq vb plus_zero) [] (tried residual (tolerance (edge_scale va vb level)) va 52 0 (first_bracket va vb)))) []

-- ---- what is shown

pub record SolveLaws : Type 0 where
  -- the Rust's "No bracket" does not happen
  pub bracketed : (first second level : Float) → CrossedValues first second level → Bracketed (less first level) (less second level)
  -- of values that are f64s
  pub answered : (residual : Float → Float) (first second level : Float) → CrossedValues first second level → T (fits binary64 first) → T (fits binary64 second) → T (fits binary64 level)
      → EdgeEnds residual first second level (solve residual level (less first level) (less second level))
  pub counted : (residual : Float → Float) (level va vb : Float) → (solve residual level va vb).taken ≡ length (parameters residual level va vb)
  pub few : (residual : Float → Float) (level va vb : Float) → (solve residual level va vb).taken ≤ 52

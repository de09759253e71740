-- The flip loop of `improve`, which follows `collapse_slivers`. p is the pair that `collapse_slivers` left, of which `edges` and `degree` are made; the present `mesh.faces` are the state's `tris`. Definitions only.
use Rattle.std.specs.Prelude.{ℕ, ◌+◌, Bool, false, not, ◌&&◌, ◌||◌, cond, List, [], ◌∷◌, eqb, leb, ltb, ℤ, pos, negsuc, ◌+ℤ◌, ◌-ℤ◌, ◌*ℤ◌, length, set}
use Rattle.std.specs.Int.Signed.{lt_z}
use Rattle.std.specs.Float.Ieee as Ieee
use Rattle.std.specs.Float.{inf}
use Rattle.float.specs.Order.{lesser, greater}
use Rattle.float.specs.Point.{plus}
use Rattle.surface.specs.Triangle.{Tri, tri}
use Rattle.surface.specs.Closed.{one}
use Rattle.surface.specs.Edit.{place}
use Rattle.history.specs.History.{Pair, label}
use Rattle.rounds.specs.Flips.{FlipState}
use Rattle.rounds.specs.Choices.{Side}
use Rattle.oracle.specs.Number.{gain_least, shape_enough}
use Rattle.oracle.specs.Scene.{Scene, score}
use Rattle.original.specs.Maps.{corner, Spot, spots}

-- degree[v]: each key of `edges` gives one to either of its ends
unfoldable pub degree : List Side → ℕ → ℕ
degree [] v = 0
degree (d ∷ ds) v = one (eqb d.one v) + one (eqb d.two v) + degree ds v

-- edges.contains_key(&(c.min(d), c.max(d))): something was pushed under the key
unfoldable pub contains : List Tri → ℕ → ℕ → Bool
unfolding spots
contains ts c d = ltb 0 (length (spots 0 ts (cond (leb c d) c d) (cond (leb c d) d c)))

-- pow(2)
abbrev pub square : ℤ → ℤ
square k = k *ℤ k

-- (degree[v] + delta - 6).pow(2)
abbrev pub off : List Side → ℤ → ℕ → ℤ
off keys delta v = square (pos (degree keys v) +ℤ delta -ℤ pos 6)

-- `gain`: the squares as they are, less those after a flip, which takes a side from a and b and gives one to c and d
unfoldable pub gain : List Side → ℕ → ℕ → ℕ → ℕ → ℤ
unfolding degree
gain keys a b c d =
    (off keys (pos 0) a +ℤ off keys (pos 0) b +ℤ off keys (pos 0) c +ℤ off keys (pos 0) d)
    -ℤ (off keys (negsuc 0) a +ℤ off keys (negsuc 0) b +ℤ off keys (pos 1) c +ℤ off keys (pos 1) d)

-- the faces with `touched`, and the count `edits`
pub record Loop : Type 0 where
  pub state : FlipState
  pub edits : ℕ

abbrev pub loop : FlipState → ℕ → Loop
loop st n = record { state = st; edits = n }

-- a side with just the two faces at x and y; f and g are read as they are now. Each `continue` leaves all as it is.
unfoldable pub turned : Scene → Pair → List Side → Loop → Side → Spot → Spot → Loop
unfolding score lesser greater gain contains
turned s p keys now e x y =
    let a = e.one in
    let b = e.two in
    let f = place now.state.tris x.face in
    let g = place now.state.tris y.face in
    let u = corner f x.start in
    let v = corner f (x.start + 1) in
    let c = corner f (x.start + 2) in
    let d = corner g (y.start + 2) in
    let touched = now.state.touched in
    let first = tri c d v in
    let second = tri d c u in
    let before = lesser (score s f (label p x.face)) (score s g (label p y.face)) in
    let after = lesser (lesser (inf false) (score s first (label p x.face))) (score s second (label p x.face)) in
    cond (not (eqb (label p x.face) (label p y.face))) now
    (cond ((touched a || (touched b || (touched c || touched d))) || (eqb c d || contains p.tris c d)) now
    (cond (Ieee.lt (plus before gain_least) after || (lt_z (pos 0) (gain keys a b c d) && Ieee.le (greater before shape_enough) after))
    (loop (record {
      tris = set (set now.state.tris x.face first) y.face second;
      touched = λ z. touched z || (eqb a z || (eqb b z || (eqb c z || eqb d z)));
    }) (now.edits + 1))
    now))

-- Result: Err, whatever its message, or Ok
pub data Outcome (A : Type 0) : Type 0 where
  failed : Outcome A
  done : A → Outcome A

-- `?`
unfoldable pub then : {A B : Type 0} → Outcome A → (A → Outcome B) → Outcome B
then failed f = failed
then (done x) f = f x

-- adjacent.len() != 2 is an Err
unfoldable pub step : Scene → Pair → List Side → Loop → Side → List Spot → Outcome Loop
unfolding turned
step s p keys now e [] = failed
step s p keys now e (x ∷ []) = failed
step s p keys now e (x ∷ y ∷ []) = done (turned s p keys now e x y)
step s p keys now e (x ∷ y ∷ z ∷ l) = failed

-- the loop over the keys that are left; `keys` are all of them
unfoldable pub flipping : Scene → Pair → List Side → Loop → List Side → Outcome Loop
unfolding then step spots
flipping s p keys now [] = done now
flipping s p keys now (e ∷ es) = then (step s p keys now e (spots 0 p.tris e.one e.two)) (λ (next : Loop). flipping s p keys next es)

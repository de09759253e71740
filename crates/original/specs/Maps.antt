-- What `collapse_slivers` and the flip loop of `improve` gather in their first loop over the faces: `edges`, `adjacent`, `incident`, `masks`, and `scores`. Each is defined by what it holds at a key or at a corner. Definitions only.
use Rattle.std.specs.Prelude.{ℕ, suc, ◌%◌, ◌^◌, Bool, true, false, ◌&&◌, ◌||◌, cond, List, [], ◌∷◌, map, eqb, leb, ltb, Float}
use Rattle.std.specs.Int.Bits.{bit_or}
use Rattle.surface.specs.Triangle.{Tri}
use Rattle.surface.specs.Edit.{place}
use Rattle.history.specs.History.{Pair, label}
use Rattle.rounds.specs.Choices.{Side}
use Rattle.oracle.specs.Scene.{Scene, score}
use Rattle.original.specs.Sets.{push}

-- the corner f[j % 3]
abbrev pub corner : Tri → ℕ → ℕ
corner f j = cond (eqb (j % 3) 0) f.a (cond (eqb (j % 3) 1) f.b f.c)

-- (fi, j): the place of a face, and the place in it where a side begins
pub record Spot : Type 0 where
  pub face : ℕ
  pub start : ℕ

abbrev pub spot : ℕ → ℕ → Spot
spot i j = record { face = i; start = j }

-- the side from x to y has the key (a, b)
abbrev pub keyed : ℕ → ℕ → ℕ → ℕ → Bool
keyed x y a b = eqb (cond (leb x y) x y) a && eqb (cond (leb x y) y x) b

-- The keys of a BTreeMap stand in the order of pairs, by the first number and then by the second.
abbrev pub before : Side → Side → Bool
before k x = ltb k.one x.one || (eqb k.one x.one && ltb k.two x.two)

-- `entry(k).or_default()`: a key that is not there yet comes in at its place
unfoldable pub entry : Side → List Side → List Side
entry k [] = k ∷ []
entry k (x ∷ l) = cond (before k x) (k ∷ x ∷ l) (cond (before x k) (x ∷ entry k l) (x ∷ l))

-- the key of the side from x to y: (x.min(y), x.max(y))
abbrev pub key_of : ℕ → ℕ → Side
key_of x y = record { one = cond (leb x y) x y; two = cond (leb x y) y x }

-- the keys after the loop over the faces: three to each face, in turn
unfoldable pub keys_from : List Side → List Tri → List Side
unfolding entry
keys_from ks [] = ks
keys_from ks (f ∷ fs) = keys_from (entry (key_of f.c f.a) (entry (key_of f.b f.c) (entry (key_of f.a f.b) ks))) fs

abbrev pub keys : List Tri → List Side
keys fs = keys_from [] fs

-- edges[&(a, b)] in `improve`: the (fi, j) pushed under that key, in the order of the loop. The faces stand at the places from i on.
unfoldable pub spots : ℕ → List Tri → ℕ → ℕ → List Spot
spots i [] a b = []
spots i (f ∷ fs) a b =
    push (keyed f.a f.b a b) (spot i 0) (push (keyed f.b f.c a b) (spot i 1) (push (keyed f.c f.a a b) (spot i 2) (spots (suc i) fs a b)))

-- edges[&(a, b)] in `collapse_slivers`, where fi alone is pushed
unfoldable pub shared : List Tri → ℕ → ℕ → List ℕ
unfolding spots
shared fs a b = map (λ (s : Spot). s.face) (spots 0 fs a b)

-- adjacent[v]: a side from x to y inserts y for x and x for y
abbrev pub beside : ℕ → ℕ → ℕ → List ℕ → List ℕ
beside x y v l = push (eqb x v) y (push (eqb y v) x l)

unfoldable pub adjacent : List Tri → ℕ → List ℕ
adjacent [] v = []
adjacent (f ∷ fs) v = beside f.a f.b v (beside f.b f.c v (beside f.c f.a v (adjacent fs v)))

-- incident[v]: fi is pushed for each of its corners that is v. The faces stand at the places from i on.
unfoldable pub incident_from : ℕ → List Tri → ℕ → List ℕ
incident_from i [] v = []
incident_from i (f ∷ fs) v = push (eqb f.a v) i (push (eqb f.b v) i (push (eqb f.c v) i (incident_from (suc i) fs v)))

abbrev pub incident : List Tri → ℕ → List ℕ
incident fs v = incident_from 0 fs v

-- masks[v] |= 1 << labels[fi], where the corner is v. (The shift is of a u8: by the label's lower three bits, and past 7 it may panic. No label that `improve` lets in is past 7.)
abbrev pub marking : Bool → ℕ → ℕ → ℕ
marking true l m = bit_or m (2 ^ (l % 8))
marking false l m = m

-- masks[v], from m on
unfoldable pub mask_from : ℕ → List Tri → List ℕ → ℕ → ℕ
mask_from m [] ls v = m
mask_from m (f ∷ fs) [] v = m
mask_from m (f ∷ fs) (l ∷ ls) v = mask_from (marking (eqb f.c v) l (marking (eqb f.b v) l (marking (eqb f.a v) l m))) fs ls v

abbrev pub mask : List Tri → List ℕ → ℕ → ℕ
mask fs ls v = mask_from 0 fs ls v

-- scores[i]: the shape of the face at place i as the pass begins
abbrev pub score_at : Scene → Pair → ℕ → Float
score_at s p i = score s (place p.tris i) (label p i)

-- The marks of the sides whose ends have only the opposite corners for common neighbours. Definitions only.
use Rattle.std.specs.Prelude.{ℕ, ◌+◌, ◌*◌, ◌<◌, ◌≤◌, ◌≡◌, ◌⊎◌, Bool, true, false, List, length}
use Rattle.surface.specs.Closed.{one}
use Rattle.halfedges.specs.Place.{nx, at, uses}
use Rattle.halfedges.specs.Free.{Free}
use Rattle.chains.specs.Flat.{Runs}
use Rattle.chains.specs.Common.{lone}

-- a stamped corner that follows b, and is neither x nor y
pub record Third (c w : List ℕ) (stamps s b x y : ℕ) : Type 0 where
  pub k : ℕ
  pub low : k < length c
  pub names : at c k ≡ b
  pub stamped : at w (stamps + at c (nx k)) ≡ s
  pub not_x : at c (nx k) ≡ x → ⊥
  pub not_y : at c (nx k) ≡ y → ⊥

-- where the corner that follows the place k is stamped, it is x or y
abbrev pub Passes : List ℕ → List ℕ → ℕ → ℕ → ℕ → ℕ → ℕ → Type 0
Passes c w stamps s x y k = at w (stamps + at c (nx k)) ≡ s → (at c (nx k) ≡ x) ⊎ (at c (nx k) ≡ y)

-- the corner that follows the place k is stamped, and neither x nor y
pub record Strange (c w : List ℕ) (stamps s x y k : ℕ) (r : Bool) : Type 0 where
  pub yea : r ≡ true → (at w (stamps + at c (nx k)) ≡ s) × (at c (nx k) ≡ x → ⊥) × (at c (nx k) ≡ y → ⊥)
  pub nay : r ≡ false → Passes c w stamps s x y k

-- what is told of the places of b: that all pass, or one that does not
pub record Told (c w : List ℕ) (stamps s b x y : ℕ) (r : Bool) : Type 0 where
  pub yea : r ≡ true → (k : ℕ) → k < length c → at c k ≡ b → Passes c w stamps s x y k
  pub nay : r ≡ false → Third c w stamps s b x y

-- exactly the corners that follow v have the stamp s
pub record Stamped (c : List ℕ) (p : ℕ) (w : List ℕ) (stamps v : ℕ) : Type 0 where
  pub known : (k : ℕ) → k < length c → at c k ≡ v → at w (stamps + at c (nx k)) ≡ v + 1
  pub found : (x : ℕ) → x < p → at w (stamps + x) ≡ v + 1 → Runs c v x
  pub low : (x : ℕ) → x < p → at w (stamps + x) ≤ v + 1

-- the mark of the place j is its test
abbrev pub Right : List ℕ → ℕ → List ℕ → ℕ → Type 0
Right c marks w j = at w (marks + j) ≡ one (lone c j)

-- what a stage of the marking leaves: words below the marks and behind them, and marks that are right already
pub record Keeps (c : List ℕ) (marks : ℕ) (w w' : List ℕ) : Type 0 where
  pub len : length w' ≡ length w
  pub under : (j : ℕ) → j < marks → at w' j ≡ at w j
  pub over : (j : ℕ) → marks + length c ≤ j → at w' j ≡ at w j
  pub right : (j : ℕ) → Right c marks w j → Right c marks w' j

-- the side of the place k of v is marked, at both its places, where the other end has no more triangles than v
pub record Marked (c : List ℕ) (p marks k : ℕ) (w w' : List ℕ) : Type 0 where
  pub keeps : Keeps c marks w w'
  pub done : uses c (at c (nx k)) (length c) ≤ uses c (at c k) (length c) → Right c marks w' k × Right c marks w' (at w (p * 3 + length c + k))

-- so are those of the places of v below i
abbrev pub Settled : List ℕ → ℕ → ℕ → List ℕ → List ℕ → ℕ → Type 0
Settled c p marks w w' k = uses c (at c (nx k)) (length c) ≤ uses c (at c k) (length c) → Right c marks w' k × Right c marks w' (at w (p * 3 + length c + k))

pub record MarkedOf (c : List ℕ) (p marks v i : ℕ) (w w' : List ℕ) : Type 0 where
  pub keeps : Keeps c marks w w'
  pub done : (k : ℕ) → k < i → at c k ≡ v → Settled c p marks w w' k

-- all are; the stamps are free
pub record SidesMarked (c : List ℕ) (stamps marks : ℕ) (w w' : List ℕ) : Type 0 where
  pub each : (k : ℕ) → k < length c → Right c marks w' k
  pub rest : Free stamps (marks + length c) w w'

-- What each stage of the pass is handed, and what it leaves, that finds where a surface is open. Definitions only; only the proofs of `closing` read them.
use Rattle.std.specs.Prelude.{ℕ, zero, suc, ◌<◌, ◌≡◌, min, Bool, ◌&&◌, cond, Option, None, Some, List, eqb, length, drop}
use Rattle.surface.specs.Triangle.{Tri, triangles}
use Rattle.surface.specs.Closed.{sides}
use Rattle.surface.specs.Finding.{IsRepeated, SmallestPair, Finds}
use Rattle.surface.specs.declared.Finding.{Finding}
use Rattle.halfedges.specs.Place.{nx, pv, at, plus, stamp, Stamped}
use Rattle.closing.specs.Stages.{used, Ready}
use Rattle.closing.specs.declared.Fault.{Fault}
use Rattle.closing.specs.declared.Fault.TheVariants.{Repeated, Lone}

-- ---- counting

-- how many of the places below i name u and have y at the place that g leads to: the place after (nx), or the place before (pv)
unfoldable pub hits : (ℕ → ℕ) → List ℕ → ℕ → ℕ → ℕ → ℕ
hits g c u y zero = 0
hits g c u y (suc i) = plus (eqb (at c i) u && eqb (at c (g i)) y) (hits g c u y i)

-- of the places of u from q on, one leads to y by g
abbrev pub One : (ℕ → ℕ) → List ℕ → ℕ → ℕ → ℕ → Type 0
One g c u q y = hits g c u y q < hits g c u y (length c)

-- and two of them run to y
abbrev pub Two : List ℕ → ℕ → ℕ → ℕ → Type 0
Two c u q y = suc (hits nx c u y q) < hits nx c u y (length c)

-- one of them runs to y, which bears no stamp of u
abbrev pub Unmet : List ℕ → ℕ → List ℕ → ℕ → ℕ → ℕ → Type 0
Unmet c p w u q y = One nx c u q y × (stamp p w y ≡ suc u → ⊥)

-- ---- the smallest number

-- x is the smallest number that P holds of, and it is below n
pub record IsLeast (P : ℕ → Type 0) (n x : ℕ) : Type 0 where
  pub within : x < n
  pub holds : P x
  pub before : (y : ℕ) → y < x → P y → ⊥

-- it is the smallest number below n that P holds of, if there is one
abbrev pub Least : (ℕ → Type 0) → ℕ → Option ℕ → Type 0
Least P n None = (y : ℕ) → y < n → P y → ⊥
Least P n (Some x) = IsLeast P n x

-- the smaller one where x is found
abbrev pub smaller : ℕ → Option ℕ → ℕ
smaller x None = x
smaller x (Some y) = min y x

abbrev pub lower : Bool → ℕ → Option ℕ → Option ℕ
lower found x best = cond found (Some (smaller x best)) best

-- ---- the stages

-- the chains are made, the stamps are 0
pub record Prepared (c : List ℕ) (p : ℕ) (w w' : List ℕ) : Type 0 where
  pub ready : Ready c p w' 0
  pub far : drop (used c p) w' ≡ drop (used c p) w

-- the corners that the places of u from q on lead to by g are stamped, and no others
pub record StampsMean (g : ℕ → ℕ) (c : List ℕ) (p : ℕ) (w : List ℕ) (u q : ℕ) : Type 0 where
  pub stamped : Stamped p w (suc u)
  pub known : (x : ℕ) → x < p → One g c u q x → stamp p w x ≡ suc u
  pub found : (x : ℕ) → x < p → stamp p w x ≡ suc u → One g c u q x

-- the corners from which a side runs to u are stamped
pub record OriginsStamped (c : List ℕ) (p u : ℕ) (w w' : List ℕ) : Type 0 where
  pub ready : Ready c p w' (suc u)
  pub far : drop (used c p) w' ≡ drop (used c p) w
  pub met : StampsMean pv c p w' u 0

-- what is sought of a directed side: that it is repeated, or that it lacks its reverse
abbrev pub Wrong : Fault → List Tri → ℕ → ℕ → Type 0
Wrong Repeated ts u v = IsRepeated ts u v
Wrong Lone ts u v = (0 < sides ts u v) × (sides ts v u ≡ 0)

-- the smallest end of such a side that starts at u
pub record EndSought (c : List ℕ) (p : ℕ) (fault : Fault) (u : ℕ) (w w' : List ℕ) (r : Option ℕ) : Type 0 where
  pub ready : Ready c p w' (suc u)
  pub far : drop (used c p) w' ≡ drop (used c p) w
  pub least : Least (Wrong fault (triangles c) u) p r

-- the smallest such side, if there is one
unfoldable pub IsFirst : (ℕ → ℕ → Type 0) → Option (ℕ × ℕ) → Type 0
IsFirst P None = (u v : ℕ) → P u v → ⊥
IsFirst P (Some s) = SmallestPair P s.0 s.1

-- none starts below v
abbrev pub NoneBelow : Fault → List Tri → ℕ → Type 0
NoneBelow fault ts v = (x : ℕ) → x < v → (y : ℕ) → Wrong fault ts x y → ⊥

pub record SideSought (c : List ℕ) (p : ℕ) (fault : Fault) (w w' : List ℕ) (r : Option (ℕ × ℕ)) : Type 0 where
  pub far : drop (used c p) w' ≡ drop (used c p) w
  pub first : IsFirst (Wrong fault (triangles c)) r

-- the place is found
pub record Located (c : List ℕ) (p : ℕ) (w w' : List ℕ) (r : Finding) : Type 0 where
  pub far : drop (used c p) w' ≡ drop (used c p) w
  pub finds : Finds (triangles c) r

-- The side of an entry as it was found in the lists that a program holds. Definitions only.
use Rattle.std.specs.Prelude.{ℕ, ◌+◌, ◌*◌, ◌≤◌, ◌<◌, ◌≡◌, Bool, false, List, Option, MatchOption, Result, MatchResult, length, get_or, drop}
use Rattle.surface.specs.Triangle.{Tri}
use Rattle.surface.specs.Closed.{Closed}
use Rattle.surface.specs.Edit.{Hinge, hinge, first}
use Rattle.surface.specs.Flat.{held}
use Rattle.surface.specs.Label.{carries}
use Rattle.verdicts.specs.declared.Found.{Found}
use Rattle.verdicts.specs.declared.Unfit.{Unfit}
use Rattle.verdicts.specs.declared.Unfit.TheVariants.{NoSide}

-- the place of the first of the n triangles, from a place on, on the side of a and b, where there is one
abbrev pub FirstOn : List Tri → ℕ → ℕ → ℕ → ℕ → Option ℕ → Type 0
FirstOn ts n from a b r = MatchOption r (from + first a b (drop from ts) ≡ n) (λ i. (i ≡ from + first a b (drop from ts)) × (i < n))

-- the struct's value as the definition's
abbrev pub hinge_of : Found → Hinge
hinge_of f = record { p1 = f.earlier; p2 = f.later; u = f.u; v = f.v; c = f.c; d = f.d }

-- the hinge of the side of a and b, where one of the n triangles has it
abbrev pub Sought : List Tri → ℕ → ℕ → ℕ → Result Found Unfit → Type 0
Sought ts n a b r = MatchResult r (λ h. (first a b ts < n) × (hinge_of h ≡ hinge ts a b)) (λ why. (why ≡ NoSide) × (first a b ts ≡ n))

-- the list of corner numbers has n triangles, which are closed
pub record Ready (l : List ℕ) (n : ℕ) : Type 0 where
  pub room : 3 * n ≤ length l
  pub closed : Closed (held l n)

-- and the first of them on the side of a and b is at p
pub record SideAt (l : List ℕ) (n p a b : ℕ) : Type 0 where
  pub ready : Ready l n
  pub is : p ≡ first a b (held l n)
  pub fits : p < n

-- the two places of a hinge are places of the list
pub record Places (l : List ℕ) (n p1 p2 : ℕ) : Type 0 where
  pub room : 3 * n ≤ length l
  pub order : p1 < p2
  pub fits : p2 < n

-- the lists hold n closed triangles with their labels, and f is the hinge of the side of a and b
pub record Hung (l ls : List ℕ) (n a b : ℕ) (f : Found) : Type 0 where
  pub ready : Ready l n
  pub few : n ≤ 32768
  pub labels : n ≤ length ls
  pub is : hinge_of f ≡ hinge (held l n) a b
  pub places : Places l n f.earlier f.later

-- n triangles with labels, none above 7
pub record Labelled (l ls : List ℕ) (n : ℕ) : Type 0 where
  pub room : 3 * n ≤ length l
  pub labels : n ≤ length ls
  pub small : (i : ℕ) → i < n → get_or ls i 0 ≤ 7

-- the labels that the corner v carries, a flag for each
abbrev pub Flags : List Tri → List ℕ → ℕ → List Bool → Type 0
Flags ts ls v flags = (k : ℕ) → k ≤ 7 → get_or flags k false ≡ carries ts ls v k

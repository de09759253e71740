-- The collapse pass of a round: one list of triangles of full length, marks of the triangles that go, and the corners that are touched. Definitions only.
use Rattle.std.specs.Prelude.{ℕ, ◌<◌, ◌≡◌, Bool, true, false, ◌&&◌, ◌||◌, cond, List, [], ◌∷◌, ◌++◌, map}
use Rattle.surface.specs.Triangle.{Tri, names}
use Rattle.surface.specs.Closed.{sides}
use Rattle.surface.specs.Edit.{has, hinge, renamed}
use Rattle.surface.proofs.Edits.{Linked}
use Rattle.history.specs.History.{Pair, Entry, covered}

-- what is left of a list where the marked places are dropped
unfoldable pub retain : {A : Type 0} → List Bool → List A → List A
retain [] l = l
retain (g ∷ gs) [] = []
retain (g ∷ gs) (x ∷ l) = cond g (retain gs l) (x ∷ retain gs l)

-- some triangle names both corners: they are neighbours, or one corner in use
unfoldable pub near : List Tri → ℕ → ℕ → Bool
near [] a x = false
near (t ∷ ts) a x = (names t a && names t x) || near ts a x

-- the triangles of the side between a and b, in the list that the pass began with, are marked
unfoldable pub marked : ℕ → ℕ → List Tri → List Bool → List Bool
marked a b [] gs = gs
marked a b (t ∷ ts) [] = []
marked a b (t ∷ ts) (g ∷ gs) = (g || has a b t) ∷ marked a b ts gs

-- b becomes a in the triangles that named b in the list that the pass began with
unfoldable pub moved : ℕ → ℕ → List Tri → List Tri → List Tri
moved a b [] fs = fs
moved a b (t ∷ ts) [] = []
moved a b (t ∷ ts) (f ∷ fs) = cond (names t b) (renamed a b f) f ∷ moved a b ts fs

pub record State : Type 0 where
  pub tris : List Tri
  pub gone : List Bool
  pub touched : ℕ → Bool

-- a collapse that keeps a and removes b is allowed: all tests but `touched` are of the pair that the pass began with
pub record Allowed (p : Pair) (s : State) (a b : ℕ) : Type 0 where
  pub free_a : s.touched a ≡ false
  pub free_b : s.touched b ≡ false
  pub side : 0 < sides p.tris a b
  pub linked : Linked p.tris a b (hinge p.tris a b).c (hinge p.tris a b).d
  pub labels : covered p a b ≡ true

-- What it makes of the state. At least the corners near b are touched: a, b and the neighbours of b. (The code touches the neighbours of a too.)
pub record Applied (p : Pair) (s t : State) (a b : ℕ) : Type 0 where
  pub tris : t.tris ≡ moved a b p.tris s.tris
  pub gone : t.gone ≡ marked a b p.tris s.gone
  pub touched : (x : ℕ) → t.touched x ≡ false → (s.touched x ≡ false) × (near p.tris b x ≡ false)

abbrev pub collapse_entry : ℕ → ℕ → Entry
collapse_entry x y = record { kind = 2; a = x; b = y }

-- the states that a pass over the pair p can reach, with the collapses that were applied on the way
pub data Reached (p : Pair) : State → List Entry → Type 0 where
  begun : {s : State} → s.tris ≡ p.tris → s.gone ≡ map (λ (t : Tri). false) p.tris → Reached p s []
  collapsed : {s t : State} {es : List Entry} (x y : ℕ) → Reached p s es → Allowed p s x y → Applied p s t x y → Reached p t (es ++ (collapse_entry x y ∷ []))

-- the pass's result: the marked triangles are dropped, and so are their labels
abbrev pub result : Pair → State → Pair
result p s = record { tris = retain s.gone s.tris; labels = retain s.gone p.labels }

-- The flip pass of a round: the list of triangles, and the corners that are touched. Definitions only.
use Rattle.std.specs.Prelude.{ℕ, ◌<◌, ◌≡◌, Bool, false, List, [], ◌∷◌, ◌++◌, set}
use Rattle.surface.specs.Triangle.{Tri, tri}
use Rattle.surface.specs.Closed.{sides}
use Rattle.surface.specs.Edit.{Hinge, hinge}
use Rattle.history.specs.History.{Pair, Entry, label}

pub record FlipState : Type 0 where
  pub tris : List Tri
  pub touched : ℕ → Bool

-- a flip of the side between a and b is allowed: all tests but `touched` are of the pair that the pass began with
pub record FlipAllowed (p : Pair) (s : FlipState) (a b : ℕ) : Type 0 where
  pub free_a : s.touched a ≡ false
  pub free_b : s.touched b ≡ false
  pub free_c : s.touched (hinge p.tris a b).c ≡ false
  pub free_d : s.touched (hinge p.tris a b).d ≡ false
  pub side : 0 < sides p.tris a b
  pub labels : label p (hinge p.tris a b).p1 ≡ label p (hinge p.tris a b).p2
  pub fresh : sides p.tris (hinge p.tris a b).c (hinge p.tris a b).d ≡ 0

-- the flip in place, at the hinge of the list that the pass began with
abbrev pub flip_at : Hinge → List Tri → List Tri
flip_at h fs = set (set fs h.p1 (tri h.c h.d h.v)) h.p2 (tri h.d h.c h.u)

-- what it makes of the state: at least the four corners are touched
pub record FlipApplied (p : Pair) (s t : FlipState) (a b : ℕ) : Type 0 where
  pub tris : t.tris ≡ flip_at (hinge p.tris a b) s.tris
  pub still : (x : ℕ) → t.touched x ≡ false → s.touched x ≡ false
  pub off-a : (x : ℕ) → t.touched x ≡ false → a ≡ x → ⊥
  pub off-b : (x : ℕ) → t.touched x ≡ false → b ≡ x → ⊥
  pub off-c : (x : ℕ) → t.touched x ≡ false → (hinge p.tris a b).c ≡ x → ⊥
  pub off-d : (x : ℕ) → t.touched x ≡ false → (hinge p.tris a b).d ≡ x → ⊥

abbrev pub flip_entry : ℕ → ℕ → Entry
flip_entry x y = record { kind = 1; a = x; b = y }

-- the states that a pass over the pair p can reach, with the flips that were applied on the way
pub data FlipReached (p : Pair) : FlipState → List Entry → Type 0 where
  flips-begun : {s : FlipState} → s.tris ≡ p.tris → FlipReached p s []
  flipped : {s t : FlipState} {es : List Entry} (x y : ℕ) → FlipReached p s es → FlipAllowed p s x y → FlipApplied p s t x y → FlipReached p t (es ++ (flip_entry x y ∷ []))

abbrev pub flip_result : Pair → FlipState → Pair
flip_result p s = record { tris = s.tris; labels = p.labels }

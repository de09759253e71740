-- The two passes as functions: the tests of the starting pair compute, and `choose` is whatever else decides. Definitions only.
use Rattle.std.specs.Prelude.{ℕ, Bool, false, not, ◌&&◌, ◌||◌, cond, List, [], ◌∷◌, map, eqb}
use Rattle.surface.specs.Triangle.{Tri, corners, names}
use Rattle.surface.specs.Closed.{sides}
use Rattle.surface.specs.Edit.{hinge}
use Rattle.surface.specs.Check.{every}
use Rattle.surface.specs.Label.{carries}
use Rattle.history.specs.History.{Pair, Entry, covered, exists, label}
use Rattle.rounds.specs.Pass.{near, marked, moved, State, collapse_entry, result}
use Rattle.rounds.specs.Flips.{FlipState, flip_at, flip_entry, flip_result}
use Rattle.surface.specs.Renumber.{renumbered}
use Rattle.rounds.specs.Renumber.{number}

-- the common neighbours of a and b are c and d
unfoldable pub common : List Tri → ℕ → ℕ → ℕ → ℕ → Bool
unfolding every near corners
common ts a b c d = every (λ (e : ℕ). not (near ts a e && near ts b e) || (eqb e a || (eqb e b || (eqb e c || eqb e d)))) (corners ts)

-- some triangle has the three corners
unfoldable pub filled : List Tri → ℕ → ℕ → ℕ → Bool
filled [] x y z = false
filled (t ∷ ts) x y z = (names t x && (names t y && names t z)) || filled ts x y z

-- the collapse that keeps a and removes b passes the tests
unfoldable pub may_collapse : Pair → State → ℕ → ℕ → Bool
unfolding common filled every carries
may_collapse p s a b =
    let h = hinge p.tris a b in
    not (s.touched a) && (not (s.touched b) && (exists p a b && (common p.tris a b h.c h.d && (not (filled p.tris a h.c h.d && filled p.tris b h.c h.d) && covered p a b))))

unfoldable pub collapse_step : Pair → State → ℕ → ℕ → State
unfolding moved marked near
collapse_step p s a b = record {
  tris = moved a b p.tris s.tris;
  gone = marked a b p.tris s.gone;
  touched = λ x. s.touched x || (near p.tris a x || near p.tris b x);
}

pub record Decision : Type 0 where
  pub keep : ℕ
  pub remove : ℕ

abbrev pub collapse_start : Pair → State
collapse_start p = record { tris = p.tris; gone = map (λ (t : Tri). false) p.tris; touched = λ x. false }

-- the pass, and the collapses that it applies
unfoldable pub collapse_pass : Pair → (State → Decision → Bool) → State → List Decision → State
unfolding may_collapse collapse_step
collapse_pass p choose s [] = s
collapse_pass p choose s (d ∷ ds) = collapse_pass p choose (cond (may_collapse p s d.keep d.remove && choose s d) (collapse_step p s d.keep d.remove) s) ds

unfoldable pub collapses_of : Pair → (State → Decision → Bool) → State → List Decision → List Entry
unfolding may_collapse collapse_step
collapses_of p choose s [] = []
collapses_of p choose s (d ∷ ds) =
    let t = collapse_step p s d.keep d.remove in
    cond (may_collapse p s d.keep d.remove && choose s d) (collapse_entry d.keep d.remove ∷ collapses_of p choose t ds) (collapses_of p choose s ds)

-- the flip of the side between a and b passes the tests
unfoldable pub may_flip : Pair → FlipState → ℕ → ℕ → Bool
unfolding sides
may_flip p s a b =
    let h = hinge p.tris a b in
    exists p a b && (eqb (label p h.p1) (label p h.p2) && (not (s.touched a) && (not (s.touched b) && (not (s.touched h.c) && (not (s.touched h.d) && eqb (sides p.tris h.c h.d) 0)))))

unfoldable pub flip_step : Pair → FlipState → ℕ → ℕ → FlipState
flip_step p s a b = let h = hinge p.tris a b in record {
  tris = flip_at h s.tris;
  touched = λ x. s.touched x || (eqb a x || (eqb b x || (eqb h.c x || eqb h.d x)));
}

pub record Side : Type 0 where
  pub one : ℕ
  pub two : ℕ

abbrev pub flip_start : Pair → FlipState
flip_start p = record { tris = p.tris; touched = λ x. false }

unfoldable pub flip_pass : Pair → (FlipState → Side → Bool) → FlipState → List Side → FlipState
unfolding may_flip flip_step
flip_pass p choose s [] = s
flip_pass p choose s (d ∷ ds) = flip_pass p choose (cond (may_flip p s d.one d.two && choose s d) (flip_step p s d.one d.two) s) ds

unfoldable pub flips_of : Pair → (FlipState → Side → Bool) → FlipState → List Side → List Entry
unfolding may_flip flip_step
flips_of p choose s [] = []
flips_of p choose s (d ∷ ds) =
    let t = flip_step p s d.one d.two in
    cond (may_flip p s d.one d.two && choose s d) (flip_entry d.one d.two ∷ flips_of p choose t ds) (flips_of p choose s ds)

-- the three parts of a round
abbrev pub dropped : Pair → (State → Decision → Bool) → List Decision → Pair
dropped p choose ds = result p (collapse_pass p choose (collapse_start p) ds)

abbrev pub by_first_use : Pair → Pair
by_first_use p = record { tris = renumbered (number p.tris) p.tris; labels = p.labels }

abbrev pub flipped_all : Pair → (FlipState → Side → Bool) → List Side → Pair
flipped_all p choose ds = flip_result p (flip_pass p choose (flip_start p) ds)

-- all that is decided in a round, and the rounds that a list of such plans makes
pub record Plan : Type 0 where
  pub choose : State → Decision → Bool
  pub candidates : List Decision
  pub pick : FlipState → Side → Bool
  pub sides : List Side

abbrev pub rounded : Plan → Pair → Pair
rounded x p = flipped_all (by_first_use (dropped p x.choose x.candidates)) x.pick x.sides

unfoldable pub improved : List Plan → Pair → Pair
improved [] p = p
improved (x ∷ xs) p = improved xs (rounded x p)

-- The flip loop of `improve` on a closed list: there is no Err, and the faces and the edits are those of the flip pass of crate oracle.
use Prim.Native.Nat.{ℕ, zero, suc, ◌+◌, ◌<◌}
use mathlib.Core.Path.{◌≡◌, refl, ◌∙◌, ap}
use mathlib.Core.Bool.{Bool, true, false, ◌&&◌, cond}
use mathlib.Core.List.{List, [], ◌∷◌, ◌++◌}
use native.Mathlib.Omega.{arith}
use native.Mathlib.Nat.{zero-add}
use lib.Dec.{ltb}
use lib.ListN.{length}
use borrow.Author.Tests.{ltb-true}
use Rattle.surface.specs.Triangle.{Tri}
use Rattle.surface.specs.Closed.{sides, Closed}
use Rattle.surface.specs.Check.{every}
use Rattle.surface.specs.Euler.{Below}
use Rattle.surface.proofs.Bools.{both, join}
use Rattle.surface.proofs.Bridge.{closed_surface_lem}
use Rattle.history.specs.History.{Pair}
use Rattle.rounds.specs.Flips.{FlipState, flip_entry}
use Rattle.rounds.specs.Choices.{Side, may_flip, flip_step, flip_start, flip_pass, flips_of}
use Rattle.rounds.proofs.Stays.{Stays, stays-begun}
use Rattle.oracle.specs.Scene.{Scene}
use Rattle.oracle.specs.Rising.{joined, row_of, rows_of, rising}
use Rattle.oracle.specs.Gains.{helps}
use Rattle.original.specs.Flip.{Loop, loop, Outcome, done, then, flipping}
use Rattle.original.proofs.Flips.{step_is, stays-next}

-- ---- the sides in rising order are keys

abbrev key : List Tri → Side → Bool
key ts d = ltb d.one d.two && joined ts d.one d.two

keys-append : (ts : List Tri) (l m : List Side) → every (key ts) l ≡ true → every (key ts) m ≡ true → every (key ts) (l ++ m) ≡ true
unfolding every
keys-append ts [] m e f = f
keys-append ts (d ∷ l) m e f = let w = both (key ts d) (every (key ts) l) e in join (key ts d) (every (key ts) (l ++ m)) w.0 (keys-append ts l m w.1 f)

row-keys : (ts : List Tri) (a b d : ℕ) → every (key ts) (row_of ts a b d) ≡ true
unfolding row_of every
row-keys ts a b zero = refl
row-keys ts a b (suc d) = pick (ltb a b && joined ts a b) refl (row-keys ts a (suc b) d)
  where
    pick : (x : Bool) → (ltb a b && joined ts a b) ≡ x → every (key ts) (row_of ts a (suc b) d) ≡ true
        → every (key ts) (cond (ltb a b && joined ts a b) (record { one = a; two = b } ∷ row_of ts a (suc b) d) (row_of ts a (suc b) d)) ≡ true
    pick true e r = rw e (join (key ts (record { one = a; two = b })) (every (key ts) (row_of ts a (suc b) d)) e r)
    pick false e r = rw e r

rows-keys : (ts : List Tri) (n a d : ℕ) → every (key ts) (rows_of ts n a d) ≡ true
unfolding rows_of every
rows-keys ts n a zero = refl
rows-keys ts n a (suc d) = keys-append ts (row_of ts a 0 n) (rows_of ts n (suc a) d) (row-keys ts a 0 n) (rows-keys ts n (suc a) d)

pub rising-keys : (ts : List Tri) (n : ℕ) → every (key ts) (rising ts n) ≡ true
rising-keys ts n = rows-keys ts n 0 n

-- ---- the loop

module _ (s : Scene) (p : Pair) (cl : Closed p.tris) (n : ℕ) (b : Below n p.tris) where
  abbrev after : FlipState → ℕ → List Side → Loop
  after st m es = loop (flip_pass p (helps s p) st es) (m + length (flips_of p (helps s p) st es))

  pub flipping-is : (es : List Side) → every (key p.tris) es ≡ true → (st : FlipState) → Stays st.touched p.tris st.tris → (m : ℕ)
      → flipping s p (rising p.tris n) (loop st m) es ≡ done (after st m es)
  unfolding flipping then flip_pass flips_of every
  flipping-is [] u st stays m = let z : m ≡ m + 0 = omega arith in ap (λ (k : ℕ). done (loop st k)) z
  flipping-is (e ∷ es) u st stays m =
      let w = both (key p.tris e) (every (key p.tris) es) u in
      let v = both (ltb e.one e.two) (joined p.tris e.one e.two) w.0 in
      let low = ltb-true e.one e.two v.0 in
      let g : 0 < sides p.tris e.one e.two = omega (arith, ltb-true 0 (sides p.tris e.one e.two + sides p.tris e.two e.one) v.1, (closed_surface_lem cl).even e.one e.two) in
      ap (λ (o : Outcome Loop). then o (λ (next : Loop). flipping s p (rising p.tris n) next es)) (step_is s p cl n b e.one e.two low g st stays m)
      ∙ pick (may_flip p st e.one e.two && helps s p st e) refl
      (flipping-is es w.1 (flip_step p st e.one e.two) (stays-next s p cl n b e.one e.two low g st stays m) (m + 1))
      (flipping-is es w.1 st stays m)
    where
      pick : (k : Bool) → (may_flip p st e.one e.two && helps s p st e) ≡ k
          → flipping s p (rising p.tris n) (loop (flip_step p st e.one e.two) (m + 1)) es ≡ done (after (flip_step p st e.one e.two) (m + 1) es)
          → flipping s p (rising p.tris n) (loop st m) es ≡ done (after st m es)
          → flipping s p (rising p.tris n) (cond (may_flip p st e.one e.two && helps s p st e) (loop (flip_step p st e.one e.two) (m + 1)) (loop st m)) es
          ≡ done (loop (flip_pass p (helps s p) (cond (may_flip p st e.one e.two && helps s p st e) (flip_step p st e.one e.two) st) es)
          (m + length (cond (may_flip p st e.one e.two && helps s p st e) (flip_entry e.one e.two ∷ flips_of p (helps s p) (flip_step p st e.one e.two) es) (flips_of p (helps s p) st es))))
      pick true q i j =
          let c = length (flips_of p (helps s p) (flip_step p st e.one e.two) es) in
          let z : m + 1 + c ≡ m + suc c = omega arith in
          rw q (i ∙ ap (λ (k : ℕ). done (loop (flip_pass p (helps s p) (flip_step p st e.one e.two) es) k)) z)
      pick false q i j = rw q j

  -- from the first key to the last
  pub flip-loop : flipping s p (rising p.tris n) (loop (flip_start p) 0) (rising p.tris n)
      ≡ done (loop (flip_pass p (helps s p) (flip_start p) (rising p.tris n)) (length (flips_of p (helps s p) (flip_start p) (rising p.tris n))))
  flip-loop = flipping-is (rising p.tris n) (rising-keys p.tris n) (flip_start p) (stays-begun (λ x. false) p.tris) 0
      ∙ ap (λ (k : ℕ). done (loop (flip_pass p (helps s p) (flip_start p) (rising p.tris n)) k)) (zero-add (length (flips_of p (helps s p) (flip_start p) (rising p.tris n))))

-- What holds after every number of entries of every run (document 01, demand 3), of the history alone. Definitions only.
use Rattle.std.specs.Prelude.{ℕ, suc, ◌≤◌, ◌<◌, ◌≡◌, ◌↔◌, Bool, true, cond, List, length, get_or, take}
use Rattle.surface.specs.Closed.{Closed}
use Rattle.surface.specs.Euler.{euler, Below}
use Rattle.surface.specs.Label.{carries}
use Rattle.history.specs.History.{Pair, Entry, is_flip, is_edit, covered, alike, exists, made, History, last, in_force, begun, after, verdicts}

-- a closed list of triangles, and as many labels
pub record Sound (p : Pair) : Type 0 where
  pub closed : Closed p.tris
  pub labelled : length p.labels ≡ length p.tris

-- no corner carries in q a label that it lacks in p
abbrev pub NoneGained : Pair → Pair → Type 0
NoneGained p q = (v l : ℕ) → carries q.tris q.labels v l ≡ true → carries p.tris p.labels v l ≡ true

-- the labels allow the flip or collapse
abbrev pub allowed : Pair → Entry → Bool
allowed p e = cond (is_flip e) (alike p e.a e.b) (covered p e.a e.b)

-- the history after the first n entries
abbrev pub reached : ℕ → Pair → List Entry → ℕ → History
reached capacity start es n = after capacity (begun start) (take n es)

-- the entry at n
abbrev pub entry_at : List Entry → ℕ → Entry
entry_at es n = get_or es n (record { kind = 0; a = 0; b = 0 })

-- the verdict word of the entry at n
abbrev pub word_at : ℕ → Pair → List Entry → ℕ → ℕ
word_at capacity start es n = get_or (verdicts capacity (begun start) es) n 0

-- After the first n of the entries es, run from the pair `start` with that capacity:
pub record Safe (capacity : ℕ) (start : Pair) (es : List Entry) (n : ℕ) : Type 0 where
  -- the triangles are closed, (a) to (d), with a label each
  pub closed : Closed (last (reached capacity start es n)).tris
  pub labelled : length (last (reached capacity start es n)).labels ≡ length (last (reached capacity start es n)).tris
  -- corners in use, less sides, plus triangles, is the number at the start. (Corners are counted below k, where every corner in use at the start is below k: then every one in use now is, too. Which k does not matter: `any-bound` of `surface/specs/Laws`.)
  pub below : (k : ℕ) → Below k start.tris → Below k (last (reached capacity start es n)).tris
  pub euler : (k : ℕ) → Below k start.tris → euler k (last (reached capacity start es n)).tris ≡ euler k start.tris
  -- no corner carries a label that it lacked at the start; and no flip or collapse gives a corner a label that it lacked before it
  pub labels : NoneGained start (last (reached capacity start es n))
  pub gained : n < length es → is_edit (entry_at es n) ≡ true → NoneGained (last (reached capacity start es n)) (last (reached capacity start es (suc n)))
  -- a flip or collapse on an existing side with labels that allow it has 25 exactly when the list it would make is not closed
  pub only_25 : n < length es → is_edit (entry_at es n) ≡ true
      → exists (last (reached capacity start es n)) (entry_at es n).a (entry_at es n).b ≡ true → allowed (last (reached capacity start es n)) (entry_at es n) ≡ true
      → (word_at capacity start es n ≡ 25) ↔ (Closed (made (last (reached capacity start es n)) (entry_at es n)).tris → ⊥)
  -- no more edits are in force than the journal has places
  pub fits : in_force (reached capacity start es n) ≤ capacity

-- What the functions that do one entry are handed, and what they leave: corner list l, label list ls, of which n triangles are in use, and work words w become l', ls', m and w'. Definitions only.
use Rattle.std.specs.Prelude.{ℕ, ◌+◌, ◌*◌, ◌-◌, ◌≤◌, ◌<◌, ◌≡◌, Bool, List, length, get_or, drop, replicate}
use Rattle.surface.specs.Euler.{Below}
use Rattle.history.specs.History.{Pair, Entry, words, made}
use Rattle.history.specs.Safe.{Sound}
use Rattle.history.specs.Local.{edit_word}
use Rattle.history.specs.Undo.{undone}
use Rattle.history.specs.Accepted.{Edit}
use Rattle.history.specs.Flat.{pair_of}

-- the work words that a call needs: 32 for each triangle lent and 16 for each point
abbrev pub needed : List ℕ → ℕ → ℕ
needed ls points = 32 * length ls + 16 * points

-- a pair that a run meets: closed, with as many labels as triangles, corners on the list and labels at most 7
pub record Good (points : ℕ) (p : Pair) : Type 0 where
  pub sound : Sound p
  pub below : Below points p.tris
  pub small : (i : ℕ) → i < length p.labels → get_or p.labels i 0 ≤ 7

-- the lists between two entries: n triangles with their labels, then 0
pub record Standing (l ls : List ℕ) (n points : ℕ) (w : List ℕ) : Type 0 where
  pub thirds : length l ≡ 3 * length ls
  pub few : length ls ≤ 32768
  pub bound : points ≤ 32768
  pub room : n ≤ length ls
  pub good : Good points (pair_of l ls n)
  pub freed : drop (3 * n) l ≡ replicate (length l - 3 * n) 0
  pub unlabelled : drop n ls ≡ replicate (length ls - n) 0
  pub work : needed ls points ≤ length w

-- after a flip or a collapse: its verdict word, and its record ws
pub record Edited (points : ℕ) (l ls : List ℕ) (n : ℕ) (w : List ℕ) (e : Entry) (space : Bool) (l' ls' : List ℕ) (m : ℕ) (w' : List ℕ) (word : ℕ) (ws : List ℕ) : Type 0 where
  pub verdict : word ≡ edit_word (pair_of l ls n) e space
  pub accepted : word ≡ 0 → Edit (pair_of l ls n) e
  pub changed : word ≡ 0 → pair_of l' ls' m ≡ made (pair_of l ls n) e
  pub written : word ≡ 0 → ws ≡ words (pair_of l ls n) e
  pub kept : (word ≡ 0 → ⊥) → (l' ≡ l) × (ls' ≡ ls) × (m ≡ n) × (ws ≡ replicate 12 0)
  pub standing : Standing l' ls' m points w'
  -- the lists are as long as they were; of the work words the needed ones are free, since the tests take their notes in them, and the further ones are as they were
  pub lengths : (length l' ≡ length l) × (length ls' ≡ length ls) × (length w' ≡ length w)
  pub further : drop (needed ls points) w' ≡ drop (needed ls points) w

-- ws is the record of an accepted edit that made p of q, and q is good and fits the lists
pub record Recorded (points size : ℕ) (q : Pair) (ws : List ℕ) (p : Pair) : Type 0 where
  pub entry : Entry
  pub edit : Edit q entry
  pub good : Good points q
  pub room : length q.tris ≤ size
  pub written : ws ≡ words q entry
  pub made : p ≡ made q entry

-- ws is the record of the edit that made p
pub record Undoable (points size : ℕ) (ws : List ℕ) (p : Pair) : Type 0 where
  pub before : Pair
  pub recorded : Recorded points size before ws p

-- after the edit that ws records is taken back
pub record TakenBack (points : ℕ) (l ls : List ℕ) (n : ℕ) (w ws l' ls' : List ℕ) (m : ℕ) (w' : List ℕ) : Type 0 where
  pub is : pair_of l' ls' m ≡ undone ws (pair_of l ls n)
  pub standing : Standing l' ls' m points w'
  -- as after an edit
  pub lengths : (length l' ≡ length l) × (length ls' ≡ length ls) × (length w' ≡ length w)
  pub further : drop (needed ls points) w' ≡ drop (needed ls points) w

-- Rounds in which the skip makes no difference: without it, too, no side of a piece of just four corners is collapsed. (Document 01's domain, which implies it, is `Domain` of crate original.) Definitions only.
use Rattle.std.specs.Prelude.{ℕ, suc, ◌≡◌, true, false}
use mathlib.Core.List.{List, Memᴰ}
use Rattle.surface.specs.Triangle.{Tri}
use Rattle.rounds.specs.Choices.{Decision, filled, collapse_start}
use Rattle.oracle.specs.Candidates.{candidates}
use Rattle.oracle.specs.Slivers.{deciding, collapses}
use Rattle.oracle.specs.Round.{Mesh, Sheet, seen, count, round}

-- a piece of just four corners: they differ, and each three of them have a triangle. (A closed list has no other triangle on any of the four then.)
pub record Four (ts : List Tri) (a b c d : ℕ) : Type 0 where
  pub ab : a ≡ b → ⊥
  pub ac : a ≡ c → ⊥
  pub ad : a ≡ d → ⊥
  pub bc : b ≡ c → ⊥
  pub bd : b ≡ d → ⊥
  pub cd : c ≡ d → ⊥
  pub abc : filled ts a b c ≡ true
  pub abd : filled ts a b d ≡ true
  pub acd : filled ts a c d ≡ true
  pub bcd : filled ts b c d ≡ true

-- the collapses of the original's round, in their order
abbrev pub originals : Sheet → Mesh → List Decision
originals f m = let s = seen f m.points in collapses false s m.pair (collapse_start m.pair) (candidates s m.pair (count m))

-- The original collapses no side of a piece of just four corners with which the round begins. (It collapses no side of any other: one to which the round has come by its collapses has a touched corner on every side; `begins-within` of crate original.)
abbrev pub Spared : Sheet → Mesh → Type 0
Spared f m = (a b c d : ℕ) → Memᴰ (deciding a b) (originals f m) → Four m.pair.tris a b c d → ⊥

-- and so in each of n rounds of the original's
pub data SparedRounds (f : Sheet) : ℕ → Mesh → Type 0 where
  begun : {m : Mesh} → SparedRounds f 0 m
  further : {n : ℕ} {m : Mesh} → Spared f m → SparedRounds f n (round false f m).mesh → SparedRounds f (suc n) m

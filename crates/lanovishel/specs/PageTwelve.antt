-- Page twelve of the user's manual, "the order of the triangles does not affect whether the surface closes", of the exported calls. Definitions only; `page_twelve_calls` of `proofs/PageTwelve` proves `PageTwelveCalls`.
-- Two calls on the same points, with as many work words: what the second is lent lists the triangles of the first in another order, each with its label.
use Rattle.std.specs.Prelude.{ℕ, ◌≤◌, ◌≡◌, ◌⊎◌, ◌↔◌, List, length, Float}
use Rattle.surface.specs.PageTwelve.{Reordered, RelistedLists}
use Rattle.lanovishel.specs.Check.{Checked}
use Rattle.lanovishel.specs.Edit.{EditCall}
use Rattle.lanovishel.specs.Improve.{ImproveCall}

-- ---- a call's number and place

-- a call of `lanovishel_check` with these lists and so many work words
pub record CheckAnswers (points : List Float) (corners labels : List ℕ) (words number : ℕ) (place : List ℕ) : Type 0 where
  pub work : List ℕ
  pub work' : List ℕ
  pub numbers : List Float
  pub lent : length work ≡ words
  pub call : Checked points corners labels work work' numbers place number

-- one of `lanovishel_edit`, with any entries and any journal
pub record EditAnswers (points : List Float) (corners labels : List ℕ) (words number : ℕ) (place : List ℕ) : Type 0 where
  pub work : List ℕ
  pub entries : List ℕ
  pub verdicts : List ℕ
  pub journal : List ℕ
  pub corners' : List ℕ
  pub labels' : List ℕ
  pub work' : List ℕ
  pub verdicts' : List ℕ
  pub journal' : List ℕ
  pub answer : List ℕ
  pub lent : length work ≡ words
  pub call : EditCall points corners labels work entries verdicts journal corners' labels' work' verdicts' journal' answer place number

-- one of `lanovishel_improve`, with any field sheet and any number of rounds
pub record ImproveAnswers (points : List Float) (corners labels : List ℕ) (words number : ℕ) (place : List ℕ) : Type 0 where
  pub work : List ℕ
  pub coefficients : List Float
  pub powers : List ℕ
  pub levels : List Float
  pub bounds : List Float
  pub rounds : ℕ
  pub points' : List Float
  pub corners' : List ℕ
  pub labels' : List ℕ
  pub work' : List ℕ
  pub answer : List ℕ
  pub lent : length work ≡ words
  pub call : ImproveCall points corners labels work coefficients powers levels bounds rounds points' corners' labels' work' answer place number

-- ---- refused alike

-- not closed: 31, 32 or 33
abbrev pub NotClosed : ℕ → Type 0
NotClosed number = (31 ≤ number) × (number ≤ 33)

-- refused by a question about the surface: not closed, or 1 to 12
abbrev pub ForTheSurface : ℕ → Type 0
ForTheSurface number = ((1 ≤ number) × (number ≤ 12)) ⊎ NotClosed number

-- the one call has such a number just where the other has, and then the number and the place are the same
pub record SameRefusal (Such : ℕ → Type 0) (number : ℕ) (place : List ℕ) (number' : ℕ) (place' : List ℕ) : Type 0 where
  pub both : Such number ↔ Such number'
  pub same_number : Such number → number' ≡ number
  pub same_place : Such number → place' ≡ place

-- ---- page twelve

pub record PageTwelveCalls : Type 0 where
  -- Checking finds a surface not closed in any order or in none, and at the same place.
  -- (Which of 5 and 6 is answered may depend on the order, and with the order of the sum the volume, so that 8 may, too.)
  pub check : (points : List Float) (corners labels corners' labels' : List ℕ) (words number number' : ℕ) (place place' : List ℕ)
      → Reordered corners labels corners' labels'
      → CheckAnswers points corners labels words number place
      → CheckAnswers points corners' labels' words number' place'
      → SameRefusal NotClosed number place number' place'
  -- The turn of each triangle may begin elsewhere, too. A quality may then be rounded otherwise, which question 6 can show: neither call answers 6.
  pub check-turned : (points : List Float) (corners labels corners' labels' : List ℕ) (words number number' : ℕ) (place place' : List ℕ)
      → RelistedLists corners labels corners' labels'
      → CheckAnswers points corners labels words number place
      → CheckAnswers points corners' labels' words number' place'
      → (number ≡ 6 → ⊥) → (number' ≡ 6 → ⊥)
      → SameRefusal NotClosed number place number' place'
  -- Editing and improving compute with no coordinates before they let a surface in: every question about the surface is answered alike, wherever the turns begin.
  pub edit : (points : List Float) (corners labels corners' labels' : List ℕ) (words number number' : ℕ) (place place' : List ℕ)
      → RelistedLists corners labels corners' labels'
      → EditAnswers points corners labels words number place
      → EditAnswers points corners' labels' words number' place'
      → SameRefusal ForTheSurface number place number' place'
  pub improve : (points : List Float) (corners labels corners' labels' : List ℕ) (words number number' : ℕ) (place place' : List ℕ)
      → RelistedLists corners labels corners' labels'
      → ImproveAnswers points corners labels words number place
      → ImproveAnswers points corners' labels' words number' place'
      → SameRefusal ForTheSurface number place number' place'

-- The tests that a program makes around the side, in place of the test of the whole list that an edit would make. Definitions only.
use Rattle.std.specs.Prelude.{ℕ, Bool, not, ◌&&◌, ◌||◌, cond, List, eqb, length}
use Rattle.surface.specs.Triangle.{Tri}
use Rattle.surface.specs.Closed.{sides, Step, around}
use Rattle.surface.specs.Edit.{hinge}
use Rattle.surface.specs.Check.{every}
use Rattle.history.specs.History.{Pair, Entry, covered, exists, label}

-- the first number that is not 0
abbrev pub else : ℕ → ℕ → ℕ
else n m = cond (eqb n 0) m n

-- the flip: no side from c to d yet
unfoldable pub flip? : List Tri → ℕ → ℕ → Bool
flip? ts a b = let h = hinge ts a b in eqb (sides ts h.c h.d) 0

-- the neighbour x of a is none of b, or it is c or d
abbrev pub apart? : List Tri → ℕ → ℕ → ℕ → ℕ → Bool
apart? ts b c d x = eqb (sides ts b x) 0 || (eqb x c || eqb x d)

-- so does every neighbour of a, read from the triangles around it
unfoldable pub no_common? : List Tri → ℕ → ℕ → ℕ → ℕ → Bool
unfolding every
no_common? ts a b c d = every (λ (s : Step). apart? ts b c d s.from) (around ts a)

-- the collapse: a and b have no common neighbour but c and d, and not three triangles each
unfoldable pub collapse? : List Tri → ℕ → ℕ → Bool
unfolding no_common?
collapse? ts a b =
    let h = hinge ts a b in
    no_common? ts a b h.c h.d && not (eqb (length (around ts a)) 3 && eqb (length (around ts b)) 3)

-- the verdict word of a flip and of a collapse of an existing side, where `space` says that the journal has room
abbrev pub flip_word : Pair → ℕ → ℕ → Bool → ℕ
flip_word p a b space =
    let h = hinge p.tris a b in
    else (cond (eqb (label p h.p1) (label p h.p2)) 0 23) (else (cond (flip? p.tris a b) 0 25) (cond space 0 27))

abbrev pub collapse_word : Pair → ℕ → ℕ → Bool → ℕ
collapse_word p a b space = else (cond (covered p a b) 0 24) (else (cond (collapse? p.tris a b) 0 25) (cond space 0 27))

-- the verdict word of a flip or collapse by these tests
abbrev pub edit_word : Pair → Entry → Bool → ℕ
edit_word p e space = else (cond (exists p e.a e.b) 0 22) (cond (eqb e.kind 1) (flip_word p e.a e.b space) (collapse_word p e.a e.b space))

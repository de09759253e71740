-- What each stage of the judgement is handed, and what it leaves. Definitions only; only the proofs of `closing` read them.
use Rattle.std.specs.Prelude.{ℕ, suc, ◌+◌, ◌<◌, ◌≤◌, ◌≡◌, Bool, true, false, Option, None, Some, List, length, drop}
use Rattle.halfedges.specs.Place.{at, Sized, Linked, stamp, Stamped, Noted, Once, uses}
use Rattle.halfedges.proofs.Fine.{Fine}
use Rattle.halfedges.proofs.Whole.{Enough, Differing}
use Rattle.closing.specs.Closing.{Zeroed}

-- how many words the judgement uses: a head, a stamp and a note for each point, a link for each place
abbrev pub used : List ℕ → ℕ → ℕ
used c p = p + p + p + length c

-- after the chains are made
pub record Chained (c : List ℕ) (p : ℕ) (w w' : List ℕ) : Type 0 where
  pub linked : Linked c p w' (length c)
  pub stamps : (x : ℕ) → x < p → stamp p w' x ≡ stamp p w x
  pub between : (j : ℕ) → p ≤ j → j < p + p + p → at w' j ≡ at w j
  pub far : drop (used c p) w' ≡ drop (used c p) w

-- between the corners, those below v judged
pub record Ready (c : List ℕ) (p : ℕ) (w : List ℕ) (v : ℕ) : Type 0 where
  pub sized : Sized c p w
  pub linked : Linked c p w (length c)
  pub stamped : Stamped p w v

-- after the steps of v are noted: their number, or none where two leave one corner
pub record Entered (c : List ℕ) (p v : ℕ) (w w' : List ℕ) (r : Option ℕ) : Type 0 where
  pub ready : Ready c p w' (suc v)
  pub far : drop (used c p) w' ≡ drop (used c p) w
  pub counted : (n : ℕ) → r ≡ Some n → n ≡ uses c v (length c)
  pub noted : (n : ℕ) → r ≡ Some n → Noted c p w' v 0
  pub twice : r ≡ None → Once c v → ⊥

-- after the corner v is judged: with a ring of at least m steps, or unused
pub record Judged (c : List ℕ) (p m v : ℕ) (w w' : List ℕ) (r : Bool) : Type 0 where
  pub ready : Ready c p w' (suc v)
  pub far : drop (used c p) w' ≡ drop (used c p) w
  pub yea : r ≡ true → Fine c v
  pub more : r ≡ true → Enough c m v
  pub nay : r ≡ false → Fine c v → Enough c m v → ⊥

-- v is the first corner that is not so
pub record FirstUnringed (c : List ℕ) (p m v : ℕ) : Type 0 where
  pub low : v < p
  pub fine : (u : ℕ) → u < v → Fine c u
  pub nay : Fine c v → Enough c m v → ⊥

-- r is the first such corner, if there is one
pub record IsUnringed (c : List ℕ) (p m : ℕ) (r : Option ℕ) : Type 0 where
  pub fine : r ≡ None → (v : ℕ) → v < p → Fine c v
  pub more : r ≡ None → (v : ℕ) → v < p → Enough c m v
  pub first : (v : ℕ) → r ≡ Some v → FirstUnringed c p m v

pub record Unringed (c : List ℕ) (p m : ℕ) (w w' : List ℕ) (r : Option ℕ) : Type 0 where
  pub far : drop (used c p) w' ≡ drop (used c p) w
  pub corner : IsUnringed c p m r

pub record Settled (c : List ℕ) (p m : ℕ) (w w' : List ℕ) (r : Option ℕ) : Type 0 where
  pub zeroed : Zeroed c p w w'
  pub corner : IsUnringed c p m r

-- rule (a) decided
pub record Told (c : List ℕ) (r : Bool) : Type 0 where
  pub yea : r ≡ true → Differing c
  pub nay : r ≡ false → Differing c → ⊥

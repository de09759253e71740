-- Lists of which a part is moved forward or back by some places. Definitions only.
use Rattle.std.specs.Prelude.{ℕ, ◌+◌, ◌*◌, ◌≤◌, ◌<◌, ◌≡◌, List, length, get_or}
use Rattle.history.specs.History.{collapsed}
use Rattle.history.specs.Flat.{pair_of}

-- from the place k on there is only 0
abbrev pub Zero : ℕ → List ℕ → Type 0
Zero k l = (j : ℕ) → k ≤ j → get_or l j 0 ≡ 0

-- what stands from q + by on has moved forward to q; d came in at the end
pub record Forward {A : Type 0} (d : A) (q by : ℕ) (l l' : List A) : Type 0 where
  pub size : length l' ≡ length l
  pub before : (j : ℕ) → j < q → get_or l' j d ≡ get_or l j d
  pub moved : (j : ℕ) → q ≤ j → get_or l' j d ≡ get_or l (j + by) d

-- what stood from q on has moved back to q + by; what passed the end is gone
pub record Backward {A : Type 0} (d : A) (q by : ℕ) (l l' : List A) : Type 0 where
  pub size : length l' ≡ length l
  pub before : (j : ℕ) → j < q → get_or l' j d ≡ get_or l j d
  pub moved : (j : ℕ) → q ≤ j → j + by < length l → get_or l' (j + by) d ≡ get_or l j d

-- what stood in the by places from p on and from q on is gone: what stood between has moved forward by as many, what stood behind by twice as many; 0 came in at the end
pub record TakenOut (p q by : ℕ) (l l' : List ℕ) : Type 0 where
  pub size : length l' ≡ length l
  pub before : (j : ℕ) → j < p → get_or l' j 0 ≡ get_or l j 0
  pub between : (j : ℕ) → p ≤ j → j + by < q → get_or l' j 0 ≡ get_or l (j + by) 0
  pub behind : (j : ℕ) → q ≤ j + by → get_or l' j 0 ≡ get_or l (j + by + by) 0

-- after a collapse on the lists: n triangles were in use, m are
pub record Reduced (l ls : List ℕ) (n a b : ℕ) (l' ls' : List ℕ) (m : ℕ) : Type 0 where
  pub count : m + 2 ≡ n
  pub is : pair_of l' ls' m ≡ collapsed (pair_of l ls n) a b
  pub freed : Zero (3 * n) l → Zero (3 * m) l'
  pub unlabelled : Zero n ls → Zero m ls'

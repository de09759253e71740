-- The history of an edit run, as document 01 ("Entry and journal") tells it: the pairs that it holds, and each entry's verdict word. Definitions only; they compute.
use Rattle.std.specs.Prelude.{ℕ, Bool, not, ◌&&◌, ◌||◌, cond, List, [], ◌∷◌, eqb, leb, ltb, length, get_or, drop}
use Rattle.surface.specs.Triangle.{Tri}
use Rattle.surface.specs.Label.{carries}
use Rattle.surface.specs.Edit.{hinge, first, flip, collapse, without, place, start_of}
use Rattle.surface.specs.Check.{every, closed?}

-- a triangle list and a label list
pub record Pair : Type 0 where
  pub tris : List Tri
  pub labels : List ℕ

-- an entry: kind, a, b
pub record Entry : Type 0 where
  pub kind : ℕ
  pub a : ℕ
  pub b : ℕ

abbrev pub is_flip : Entry → Bool
is_flip e = eqb e.kind 1

abbrev pub is_collapse : Entry → Bool
is_collapse e = eqb e.kind 2

-- a flip or a collapse
abbrev pub is_edit : Entry → Bool
is_edit e = is_flip e || is_collapse e

-- taking back
abbrev pub is_back : Entry → Bool
is_back e = eqb e.kind 3

-- every label that b carries, a carries
abbrev pub covered : Pair → ℕ → ℕ → Bool
covered p a b = every (λ (l : ℕ). not (carries p.tris p.labels b l) || carries p.tris p.labels a l) p.labels

abbrev pub label : Pair → ℕ → ℕ
label p i = get_or p.labels i 0

-- the two triangles of the side have one label
abbrev pub alike : Pair → ℕ → ℕ → Bool
alike p a b = let h = hinge p.tris a b in eqb (label p h.p1) (label p h.p2)

-- some triangle has the side
abbrev pub exists : Pair → ℕ → ℕ → Bool
exists p a b = ltb (first a b p.tris) (length p.tris)

-- The pair that a flip makes, and the pair that a collapse makes: the labels go with their triangles.
abbrev pub flipped : Pair → ℕ → ℕ → Pair
flipped p a b = record { tris = flip a b p.tris; labels = p.labels }

abbrev pub collapsed : Pair → ℕ → ℕ → Pair
collapsed p a b =
    let h = hinge p.tris a b in
    record { tris = collapse a b p.tris; labels = without h.p1 (without h.p2 p.labels) }

abbrev pub made : Pair → Entry → Pair
made p e = cond (is_flip e) (flipped p e.a e.b) (collapsed p e.a e.b)

-- The record of an edit: kind, a, b, c, d, p1, p2, where the side starts in p1 and in p2, the labels of p1 and p2, and 1 if p1 runs a to b, else 0.
abbrev pub words : Pair → Entry → List ℕ
words p e =
    let h = hinge p.tris e.a e.b in
    e.kind ∷ e.a ∷ e.b ∷ h.c ∷ h.d ∷ h.p1 ∷ h.p2
    ∷ start_of (place p.tris h.p1) h.u h.v ∷ start_of (place p.tris h.p2) h.v h.u
    ∷ label p h.p1 ∷ label p h.p2 ∷ cond (eqb h.u e.a) 1 0 ∷ []

-- the pair that an edit made, and the record of that edit
pub record Made : Type 0 where
  pub pair : Pair
  pub words : List ℕ

-- The history holds pairs, the first being the pair lent; then those of the edits in force, here the last one first.
pub record History : Type 0 where
  pub lent : Pair
  pub edits : List Made

abbrev pub last_of : Pair → List Made → Pair
last_of p [] = p
last_of p (x ∷ l) = x.pair

abbrev pub last : History → Pair
last h = last_of h.lent h.edits

-- the edits in force: the number of pairs after the first
abbrev pub in_force : History → ℕ
in_force h = length h.edits

-- the journal is full when that number reaches the capacity
abbrev pub full : ℕ → History → Bool
full capacity h = leb capacity (in_force h)

-- the number where the test holds, else what comes after
abbrev pub when : Bool → ℕ → ℕ → ℕ
when test number later = cond test number later

-- An entry's verdict word: the first of these, else 0.
unfoldable pub verdict : ℕ → History → Entry → ℕ
unfolding every carries closed?
verdict capacity h e =
    let p = last h in
    -- other kind, or kind 3 with b not 0
    when (not (is_edit e || (is_back e && eqb e.b 0))) 21
    -- no such side
    (when (is_edit e && not (exists p e.a e.b)) 22
    -- flip of unlike labels
    (when (is_flip e && not (alike p e.a e.b)) 23
    -- collapse where b carries a label that a lacks
    (when (is_collapse e && not (covered p e.a e.b)) 24
    -- the list would not be closed
    (when (is_edit e && not (closed? (made p e).tris)) 25
    -- more to take back than in force
    (when (is_back e && ltb (in_force h) e.a) 26
    -- the journal is full
    (when (is_edit e && full capacity h) 27
    0))))))

-- an accepted flip or collapse adds the pair it makes, an accepted kind 3 drops the last a pairs
abbrev pub accepted : History → Entry → History
accepted h e = record {
  lent = h.lent;
  edits = cond (is_back e) (drop e.a h.edits) (record { pair = made (last h) e; words = words (last h) e } ∷ h.edits);
}

-- a refused entry does nothing
unfoldable pub next : ℕ → History → Entry → History
unfolding verdict
next capacity h e = cond (eqb (verdict capacity h e) 0) (accepted h e) h

-- The history before the first entry, and after a list of entries.
abbrev pub begun : Pair → History
begun p = record { lent = p; edits = [] }

unfoldable pub after : ℕ → History → List Entry → History
unfolding next
after capacity h [] = h
after capacity h (e ∷ es) = after capacity (next capacity h e) es

-- the verdict words of the entries, each for what the one before left
unfoldable pub verdicts : ℕ → History → List Entry → List ℕ
unfolding next
verdicts capacity h [] = []
verdicts capacity h (e ∷ es) = verdict capacity h e ∷ verdicts capacity (next capacity h e) es

-- The starred cases of document 01 ("Octahedron and neighbours") in one table, their 7s as document 02's F-1 has them, and the test that a case comes out as it is due. Definitions only.
use Rattle.std.specs.Prelude.{ℕ, Bool, true, false, ◌&&◌, List, [], ◌∷◌, map, eqb, ℤ, pos, negsuc, Float, length, replicate, Ok, Err}
use Rattle.std.specs.Float.{binary64}
use Rattle.std.specs.Float.Ieee.{of_int, to_bits}
use Rattle.surface.specs.Triangle.{corners as corners_of}
use Rattle.sheet.specs.Sheet as Sheet
use Rattle.sheet.specs.Sheet.{Point, Triangle, Sheet, places_of, labels_of}
use Rattle.checking.specs.Verdict as Verdict
use Rattle.checking.specs.Verdict.{quality_of, volume_of, place_of, Verdict}
use Rattle.checking.specs.Validate.{validated}
use Rattle.questions.specs.Questions.{needed, surface_questions}
use Rattle.questions.specs.Refusal.{refusal_number, refusal_place, Asked}
use Rattle.history.specs.History.{History, last, begun, after, verdicts}
use Rattle.history.specs.Lists.{lent_pair, entries as entries_of}

-- what is lent: point values, corner numbers and labels
pub record Surface : Type 0 where
  pub points : List Float
  pub corners : List ℕ
  pub labels : List ℕ

-- The cases of checking: a sheet, its verdict and the place, and the bits of quality and volume.
-- The cases of editing: a surface that is refused, with number and place; and one that is let in, with entries, the verdict words due, and the corner numbers due after them.
pub data Case : Type 0 where
  checked : (sheet : Sheet) (verdict : ℕ) (place : List ℕ) (quality volume : ℕ) → Case
  refused : (surface : Surface) (number : ℕ) (place : List ℕ) → Case
  edited : (surface : Surface) (entries words left : List ℕ) → Case

-- what the questions of editing come to, with just enough work words
abbrev pub questions_of : Surface → Asked
questions_of s = surface_questions s.points s.corners s.labels (replicate (needed s.points s.corners) 0)

-- the verdict on a sheet, likewise
abbrev pub verdict_of : Sheet → Verdict
verdict_of s =
    let points = places_of 1024 s.points in
    let corners = Sheet.corners_of s.triangles in
    validated points corners (labels_of s.triangles) (replicate (needed points corners) 0)

-- two lists of numbers are the same
unfoldable pub same : List ℕ → List ℕ → Bool
same [] [] = true
same [] (y ∷ m) = false
same (x ∷ l) [] = false
same (x ∷ l) (y ∷ m) = eqb x y && same l m

-- refused with this number and this place; and let in
abbrev pub refuses : Asked → ℕ → List ℕ → Bool
refuses (Ok x) number place = false
refuses (Err why) number place = eqb (refusal_number why) number && same (refusal_place why) place

abbrev pub passes : Asked → Bool
passes (Ok x) = true
passes (Err why) = false

-- the case comes out as it is due; the journal has a place for every entry
unfoldable pub right : Case → Bool
unfolding same validated surface_questions verdicts after entries_of corners_of
right (checked s verdict place quality volume) =
    let v = verdict_of s in
    eqb (Verdict.number_of v) verdict && (same (place_of v) place && (eqb (to_bits binary64 (quality_of v)) quality && eqb (to_bits binary64 (volume_of v)) volume))
right (refused s number place) = refuses (questions_of s) number place
right (edited s es words left) =
    let h : History = begun (lent_pair s.corners s.labels) in
    passes (questions_of s) && (same (verdicts (length es) h (entries_of es)) words && same (corners_of (last (after (length es) h (entries_of es))).tris) left)

-- whole coordinates
unfoldable pub at : List ℤ → List Float
unfolding of_int
at = map (of_int binary64)

abbrev o : ℤ
o = pos 0

abbrev p : ℤ
p = pos 1

abbrev m : ℤ
m = negsuc 0

-- points 0 to 5 lie 1 from the origin along +x, -x, +y, -y, +z, -z
unfoldable pub octahedron : List ℕ → Surface
unfolding at
octahedron ls = record {
  points = at (p ∷ o ∷ o ∷ m ∷ o ∷ o ∷ o ∷ p ∷ o ∷ o ∷ m ∷ o ∷ o ∷ o ∷ p ∷ o ∷ o ∷ m ∷ []);
  corners = 0 ∷ 2 ∷ 4 ∷ 2 ∷ 1 ∷ 4 ∷ 1 ∷ 3 ∷ 4 ∷ 3 ∷ 0 ∷ 4 ∷ 2 ∷ 0 ∷ 5 ∷ 1 ∷ 2 ∷ 5 ∷ 3 ∷ 1 ∷ 5 ∷ 0 ∷ 3 ∷ 5 ∷ [];
  labels = ls;
}

-- all label 0
abbrev pub plain : Surface
unfolding octahedron
plain = octahedron (replicate 8 0)

unfoldable pub pillow : Surface
unfolding at
pillow = record { points = at (o ∷ o ∷ o ∷ p ∷ o ∷ o ∷ o ∷ p ∷ o ∷ []); corners = 0 ∷ 1 ∷ 2 ∷ 0 ∷ 2 ∷ 1 ∷ []; labels = 0 ∷ 0 ∷ [] }

-- ---- sheets, in steps of 1024 coordinate units

abbrev pub point : ℤ → ℤ → ℤ → Point
point x y z = record { x = x; y = y; z = z }

abbrev pub face : ℕ → ℕ → ℕ → Triangle
face a b c = record { a = a; b = b; c = c; label = 0 }

abbrev q : ℤ
q = pos 1024

abbrev n : ℤ
n = negsuc 1023

-- the points of the sheet of document 01, and those with three more behind the first
abbrev pub four : List Triangle → Sheet
four ts = record { points = point o o o ∷ point q o o ∷ point o q o ∷ point o o q ∷ []; triangles = ts }

abbrev pub seven : List Triangle → Sheet
seven ts = record { points = point o o o ∷ point q o o ∷ point o q o ∷ point o o q ∷ point n o o ∷ point o n o ∷ point o o n ∷ []; triangles = ts }

-- no place
abbrev pub nowhere : List ℕ
nowhere = 0 ∷ 0 ∷ []

unfoldable pub table : List Case
unfolding octahedron pillow
table =
    -- the sheet: accepted
    checked (four (face 0 2 1 ∷ face 0 1 3 ∷ face 0 3 2 ∷ face 1 2 3 ∷ [])) 0 nowhere 0x3febb67ae8584caa 0x3fc5555555555555
    -- one of its triangles gone: 32, the side from 1 to 3 lacks its reverse
    ∷ checked (four (face 0 2 1 ∷ face 0 1 3 ∷ face 0 3 2 ∷ [])) 32 (1 ∷ 3 ∷ []) 0 0
    -- all four turned round: 8
    ∷ checked (four (face 0 1 2 ∷ face 0 3 1 ∷ face 0 2 3 ∷ face 1 3 2 ∷ [])) 8 nowhere 0 0
    -- no triangles, no points: 0 and 0
    ∷ checked (record { points = []; triangles = [] }) 0 nowhere 0 0
    -- two tetrahedra sharing one corner: 33, the corner 0 has two rings
    ∷ checked (seven (face 0 2 1 ∷ face 0 1 3 ∷ face 0 3 2 ∷ face 1 2 3 ∷ face 0 4 5 ∷ face 0 6 4 ∷ face 0 5 6 ∷ face 4 6 5 ∷ [])) 33 (0 ∷ 0 ∷ []) 0 0
    -- [0,1,2] [0,2,1] in editing: 12
    ∷ refused pillow 12 nowhere
    -- labels 0 and 1 on one corner: 11
    ∷ refused (octahedron (1 ∷ 0 ∷ 0 ∷ 0 ∷ 0 ∷ 0 ∷ 0 ∷ 0 ∷ [])) 11 nowhere
    -- flip 0 2: place 0 is [4,5,2], place 4 is [5,4,0]
    ∷ edited plain (1 ∷ 0 ∷ 2 ∷ []) (0 ∷ [])
    (4 ∷ 5 ∷ 2 ∷ 2 ∷ 1 ∷ 4 ∷ 1 ∷ 3 ∷ 4 ∷ 3 ∷ 0 ∷ 4 ∷ 5 ∷ 4 ∷ 0 ∷ 1 ∷ 2 ∷ 5 ∷ 3 ∷ 1 ∷ 5 ∷ 0 ∷ 3 ∷ 5 ∷ [])
    -- then flip 4 0: 25
    ∷ edited plain (1 ∷ 0 ∷ 2 ∷ 1 ∷ 4 ∷ 0 ∷ []) (0 ∷ 25 ∷ [])
    (4 ∷ 5 ∷ 2 ∷ 2 ∷ 1 ∷ 4 ∷ 1 ∷ 3 ∷ 4 ∷ 3 ∷ 0 ∷ 4 ∷ 5 ∷ 4 ∷ 0 ∷ 1 ∷ 2 ∷ 5 ∷ 3 ∷ 1 ∷ 5 ∷ 0 ∷ 3 ∷ 5 ∷ [])
    -- keep 0 remove 2
    ∷ edited plain (2 ∷ 0 ∷ 2 ∷ []) (0 ∷ []) (0 ∷ 1 ∷ 4 ∷ 1 ∷ 3 ∷ 4 ∷ 3 ∷ 0 ∷ 4 ∷ 1 ∷ 0 ∷ 5 ∷ 3 ∷ 1 ∷ 5 ∷ 0 ∷ 3 ∷ 5 ∷ [])
    -- then keep 0 remove 1: 25
    ∷ edited plain (2 ∷ 0 ∷ 2 ∷ 2 ∷ 0 ∷ 1 ∷ []) (0 ∷ 25 ∷ []) (0 ∷ 1 ∷ 4 ∷ 1 ∷ 3 ∷ 4 ∷ 3 ∷ 0 ∷ 4 ∷ 1 ∷ 0 ∷ 5 ∷ 3 ∷ 1 ∷ 5 ∷ 0 ∷ 3 ∷ 5 ∷ [])
    -- or keep 4 remove 0: a tetrahedron, where every collapse is 25
    ∷ edited plain
    (2 ∷ 0 ∷ 2 ∷ 2 ∷ 4 ∷ 0
    ∷ 2 ∷ 1 ∷ 3 ∷ 2 ∷ 1 ∷ 4 ∷ 2 ∷ 1 ∷ 5 ∷ 2 ∷ 3 ∷ 1 ∷ 2 ∷ 3 ∷ 4 ∷ 2 ∷ 3 ∷ 5 ∷ 2 ∷ 4 ∷ 1 ∷ 2 ∷ 4 ∷ 3 ∷ 2 ∷ 4 ∷ 5 ∷ 2 ∷ 5 ∷ 1 ∷ 2 ∷ 5 ∷ 3 ∷ 2 ∷ 5 ∷ 4 ∷ [])
    (0 ∷ 0 ∷ replicate 12 25) (1 ∷ 3 ∷ 4 ∷ 1 ∷ 4 ∷ 5 ∷ 3 ∷ 1 ∷ 5 ∷ 4 ∷ 3 ∷ 5 ∷ [])
    -- take back 1 with none in force: 26
    ∷ edited plain (3 ∷ 1 ∷ 0 ∷ []) (26 ∷ []) plain.corners
    ∷ []

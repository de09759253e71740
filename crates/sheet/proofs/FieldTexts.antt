-- The fields of what is written, and that what is taken of them is what was written. Assumes nothing.
use mathlib.Core.Path.{◌≡◌, refl, sym, ap, ◌∙◌}
use mathlib.Core.Bool.{Bool, true, false, ◌||◌, cond}
use mathlib.Core.List.{List, [], ◌∷◌, ◌++◌, append_assoc}
use Prim.Native.Nat.{ℕ, suc, ◌+◌, ◌*◌, ◌<◌}
use native.Mathlib.Omega.{arith}
use borrow.Author.Tests.{ne_eqb}
use lib.Dec.{eqb}
use lib.IntN.{ℤ, pos, negsuc}
use lib.ListN.{length, drop}
use lib.Seq.{drop-drop, drop-append-add}
use Rattle.sheet.specs.Text.{decimal, integer, minus, line, lines}
use Rattle.sheet.specs.Sheet.{Point, Triangle, Sheet, Every, point_line, triangle_line, counts_line, point_names, triangle_names}
use Rattle.sheet.specs.Contents.{before_first, fields, field_number, field_integer, field_points, field_triangles, field_sheet}
use Rattle.sheet.proofs.Decimal.{IsDigit, all_digits, value-decimal}

-- ---- a field is what stands before the byte that ends it

abbrev ends? : ℕ → Bool
ends? b = eqb b 32 || eqb b 10

abbrev Inside : ℕ → Type 0
Inside b = ends? b ≡ false

fields-ended : (w : List ℕ) (e : ℕ) (r : List ℕ) → Every Inside w → ends? e ≡ true → fields (w ++ (e ∷ r)) ≡ w ∷ fields r
fields-ended [] e r h q = ap (λ (t : Bool). cond t ([] ∷ fields r) (before_first e (fields r))) q
fields-ended (b ∷ w) e r h q =
    ap (λ (t : Bool). cond t ([] ∷ fields (w ++ (e ∷ r))) (before_first b (fields (w ++ (e ∷ r))))) h.0
    ∙ ap (before_first b) (fields-ended w e r h.1 q)

fields-line : (f : List ℕ) (fs : List (List ℕ)) (r : List ℕ) → Every (Every Inside) (f ∷ fs) → fields (line (f ∷ fs) ++ r) ≡ (f ∷ fs) ++ fields r
fields-line f [] r h = ap fields (append_assoc f (10 ∷ []) r) ∙ fields-ended f 10 r h.0 refl
fields-line f (g ∷ fs) r h =
    ap fields (append_assoc f (32 ∷ line (g ∷ fs)) r)
    ∙ fields-ended f 32 (line (g ∷ fs) ++ r) h.0 refl
    ∙ ap (λ (l : List (List ℕ)). f ∷ l) (fields-line g fs r h.1)

inside : (b : ℕ) → 32 < b → Inside b
inside b h = rw (ne_eqb b 32 (λ e. omega arith), ne_eqb b 10 (λ e. omega arith))

digits-inside : (l : List ℕ) → Every IsDigit l → Every Inside l
digits-inside [] h = tt
digits-inside (b ∷ l) h = (inside b (let d = h.0 in omega arith), digits-inside l h.1)

decimal-inside : (n : ℕ) → Every Inside (decimal n)
decimal-inside n = digits-inside (decimal n) (all_digits n)

integer-inside : (z : ℤ) → Every Inside (integer z)
unfolding integer
integer-inside (pos n) = decimal-inside n
integer-inside (negsuc n) = (refl, decimal-inside (suc n))

fields-counts : (n m : ℕ) (r : List ℕ) → fields (counts_line n m ++ r) ≡ decimal n ∷ decimal m ∷ fields r
fields-counts n m r = fields-line (decimal n) (decimal m ∷ []) r (decimal-inside n, (decimal-inside m, tt))

fields-point : (p : Point) (r : List ℕ) → fields (point_line p ++ r) ≡ integer p.x ∷ integer p.y ∷ integer p.z ∷ fields r
fields-point p r = fields-line (integer p.x) (integer p.y ∷ integer p.z ∷ []) r (integer-inside p.x, (integer-inside p.y, (integer-inside p.z, tt)))

fields_triangle : (t : Triangle) (r : List ℕ) → fields (triangle_line t ++ r) ≡ decimal t.a ∷ decimal t.b ∷ decimal t.c ∷ decimal t.label ∷ fields r
fields_triangle t r =
    fields-line (decimal t.a) (decimal t.b ∷ decimal t.c ∷ decimal t.label ∷ []) r
    (decimal-inside t.a, (decimal-inside t.b, (decimal-inside t.c, (decimal-inside t.label, tt))))

-- ---- what is taken of them

unsigned : (w : List ℕ) → Every IsDigit w → field_integer w ≡ pos (field_number w)
unsigned [] h = refl
unsigned (b ∷ w) h = let d = h.0 in ap (λ (t : Bool). cond t (minus (field_number w)) (pos (field_number (b ∷ w)))) (ne_eqb b 45 (λ e. omega arith))

integer-taken : (z : ℤ) → field_integer (integer z) ≡ z
unfolding integer
integer-taken (pos n) = unsigned (decimal n) (all_digits n) ∙ ap pos (value-decimal n)
integer-taken (negsuc n) = ap minus (value-decimal (suc n))

first-point : (p : Point) (ps : List Point) (r : List ℕ) → fields (lines point_line (p ∷ ps) ++ r) ≡ integer p.x ∷ integer p.y ∷ integer p.z ∷ fields (lines point_line ps ++ r)
first-point p ps r = ap fields (append_assoc (point_line p) (lines point_line ps) r) ∙ fields-point p (lines point_line ps ++ r)

points-taken : (ps : List Point) (r : List ℕ) → field_points (length ps) (fields (lines point_line ps ++ r)) ≡ ps
points-taken [] r = refl
points-taken (p ∷ ps) r =
    ap (field_points (suc (length ps))) (first-point p ps r)
    ∙ (λ i. record { x = integer-taken p.x i; y = integer-taken p.y i; z = integer-taken p.z i } ∷ points-taken ps r i)

points-past : (ps : List Point) (r : List ℕ) → drop (length ps * 3) (fields (lines point_line ps ++ r)) ≡ fields r
points-past [] r = refl
points-past (p ∷ ps) r =
    let three : suc (length ps) * 3 ≡ suc (suc (suc (length ps * 3))) = omega arith in
    ap (λ (k : ℕ). drop k (fields (lines point_line (p ∷ ps) ++ r))) three
    ∙ ap (drop (suc (suc (suc (length ps * 3))))) (first-point p ps r)
    ∙ points-past ps r

triangles-taken : (ts : List Triangle) → field_triangles (length ts) (fields (lines triangle_line ts)) ≡ ts
triangles-taken [] = refl
triangles-taken (t ∷ ts) =
    ap (field_triangles (suc (length ts))) (fields_triangle t (lines triangle_line ts))
    ∙ (λ i. record { a = value-decimal t.a i; b = value-decimal t.b i; c = value-decimal t.c i; label = value-decimal t.label i } ∷ triangles-taken ts i)

-- past the counts and names, the points, and more names
past_points : (n : ℕ) (c d : List ℕ) (fs : List (List ℕ)) → drop (9 + n * 3) (c ∷ d ∷ fields point_names ++ fs) ≡ drop 4 (drop (n * 3) fs)
past_points n c d fs =
    let nine : 9 + n * 3 ≡ 5 + (n * 3 + 4) = omega arith in
    ap (λ (k : ℕ). drop k (c ∷ d ∷ fields point_names ++ fs)) nine
    ∙ drop-append-add (c ∷ d ∷ fields point_names) fs (n * 3 + 4)
    ∙ sym (drop-drop 4 (n * 3) fs)

counts-taken : (n m : ℕ) (fs : List (List ℕ))
    → field_sheet (decimal n ∷ decimal m ∷ fields point_names ++ fs) ≡ record { points = field_points n fs; triangles = field_triangles m (drop 4 (drop (n * 3) fs)) }
counts-taken n m fs =
    (λ i. record { points = field_points (value-decimal n i) fs; triangles = field_triangles (value-decimal m i) (drop (9 + value-decimal n i * 3) (decimal n ∷ decimal m ∷ fields point_names ++ fs)) })
    ∙ (λ i. record { points = field_points n fs; triangles = field_triangles m (past_points n (decimal n) (decimal m) fs i) })

-- the text after the opening
abbrev pub after_opening : Sheet → List ℕ
after_opening s = counts_line (length s.points) (length s.triangles) ++ (point_names ++ (lines point_line s.points ++ (triangle_names ++ lines triangle_line s.triangles)))

pub sheet-taken : (s : Sheet) → field_sheet (fields (after_opening s)) ≡ s
sheet-taken s =
    let n = length s.points in
    let m = length s.triangles in
    let tail = triangle_names ++ lines triangle_line s.triangles in
    let triangles = ap (λ (fs : List (List ℕ)). field_triangles m (drop 4 fs)) (points-past s.points tail) ∙ triangles-taken s.triangles in
    ap field_sheet (fields-counts n m (point_names ++ (lines point_line s.points ++ tail)))
    ∙ counts-taken n m (fields (lines point_line s.points ++ tail))
    ∙ (λ i. record { points = points-taken s.points tail i; triangles = triangles i })

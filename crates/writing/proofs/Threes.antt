-- The lists in threes: those of the sheet that they say are the lists themselves. Assumes nothing.
use mathlib.Core.Path.{◌≡◌, refl, sym, ap, ◌∙◌}
use mathlib.Core.List.{List, [], ◌∷◌, ◌++◌, append_assoc}
use Prim.Native.Nat.{ℕ, zero, suc, ◌+◌, ◌*◌, ◌≤◌, ◌<◌}
use native.Mathlib.Omega.{arith}
use lib.IntN.{ℤ, pos, nat_abs}
use lib.ListN.{length, get_or, take, length-append}
use lib.Seq.{take-suc, take_all, take_at}
use Rattle.sheet.specs.Sheet.{Point, Triangle, Every, Near, coordinates_of, corners_of, labels_of}
use Rattle.sheet.proofs.Decimal.{every_append}
use Rattle.sheet.proofs.Stores.{coordinates_append, length_coordinates, corners-append, length-corners, labels_append, length-labels}
use Rattle.writing.specs.Lists.{each, list_point, list_triangle}

pub length-each : {A : Type 0} (f : ℕ → A) (n : ℕ) → length (each f n) ≡ n
length-each f zero = refl
length-each f (suc n) = length-append (each f n) (f n ∷ []) ∙ (let e = length-each f n in omega arith)

pub every-each : {A : Type 0} (P : A → Type 0) (f : ℕ → A) (n : ℕ) → ((k : ℕ) → k < n → P (f k)) → Every P (each f n)
every-each P f zero h = tt
every-each P f (suc n) h = every_append P (each f n) (f n ∷ []) (every-each P f n (λ k g. h k (omega arith))) (h n (omega arith), tt)

three-more : {A : Type 0} (l : List A) (d : A) (i : ℕ) → i + 2 < length l → take i l ++ (get_or l i d ∷ get_or l (i + 1) d ∷ get_or l (i + 2) d ∷ []) ≡ take (i + 3) l
three-more l d i h =
    let one : suc i ≡ i + 1 = omega arith in
    let two : suc (i + 1) ≡ i + 2 = omega arith in
    let three : suc (i + 2) ≡ i + 3 = omega arith in
    let a : take (i + 1) l ≡ take i l ++ (get_or l i d ∷ []) = ap (λ (k : ℕ). take k l) (sym one) ∙ take-suc l i d (omega arith) in
    let b : take (i + 2) l ≡ take (i + 1) l ++ (get_or l (i + 1) d ∷ []) = ap (λ (k : ℕ). take k l) (sym two) ∙ take-suc l (i + 1) d (omega arith) in
    let c : take (i + 3) l ≡ take (i + 2) l ++ (get_or l (i + 2) d ∷ []) = ap (λ (k : ℕ). take k l) (sym three) ∙ take-suc l (i + 2) d (omega arith) in
    sym (c ∙ ap (λ (t : List _). t ++ (get_or l (i + 2) d ∷ [])) (b ∙ ap (λ (t : List _). t ++ (get_or l (i + 1) d ∷ [])) a)
    ∙ append_assoc (take i l ++ (get_or l i d ∷ [])) (get_or l (i + 1) d ∷ []) (get_or l (i + 2) d ∷ [])
    ∙ append_assoc (take i l) (get_or l i d ∷ []) (get_or l (i + 1) d ∷ get_or l (i + 2) d ∷ []))

-- a list in threes w, of as many as are taken
threes-taken : {A B : Type 0} (w : List A → List B) (f : ℕ → A) (l : List B) (d : B) → w [] ≡ [] → ((x y : List A) → w (x ++ y) ≡ w x ++ w y) → ((n : ℕ) → w (f n ∷ []) ≡ get_or l (n * 3) d ∷ get_or l (n * 3 + 1) d ∷ get_or l (n * 3 + 2) d ∷ []) → (n : ℕ) → n * 3 ≤ length l → w (each f n) ≡ take (n * 3) l
threes-taken w f l d none append three zero h = none
threes-taken w f l d none append three (suc n) h =
    let e : n * 3 + 3 ≡ suc n * 3 = omega arith in
    append (each f n) (f n ∷ [])
    ∙ ap (λ (t : List _). t ++ w (f n ∷ [])) (threes-taken w f l d none append three n (omega arith))
    ∙ ap (λ (t : List _). take (n * 3) l ++ t) (three n)
    ∙ three-more l d (n * 3) (omega arith)
    ∙ ap (λ (k : ℕ). take k l) e

-- ---- coordinates

coordinates_taken : (l : List ℤ) (n : ℕ) → n * 3 ≤ length l → coordinates_of (each (list_point l) n) ≡ take (n * 3) l
coordinates_taken l n h = threes-taken coordinates_of (list_point l) l (pos 0) refl coordinates_append (λ k. refl) n h

pub coordinates_back : (l : List ℤ) (n : ℕ) → length l ≡ n * 3 → l ≡ coordinates_of (each (list_point l) n)
coordinates_back l n h = sym (coordinates_taken l n (omega arith) ∙ take_all (n * 3) l (omega arith))

pub every-at : {A : Type 0} (P : A → Type 0) (l : List A) (d : A) → Every P l → (k : ℕ) → k < length l → P (get_or l k d)
every-at P [] d h k g = absurd (omega arith)
every-at P (a ∷ l) d h zero g = h.0
every-at P (a ∷ l) d h (suc k) g = every-at P l d h.1 k (omega arith)

pub coordinates_near : (most : ℕ) (ps : List Point) → Every (Near most) ps → Every (λ (z : ℤ). nat_abs z ≤ most) (coordinates_of ps)
coordinates_near most [] h = tt
coordinates_near most (p ∷ ps) h = (h.0.x, (h.0.y, (h.0.z, coordinates_near most ps h.1)))

-- points by their coordinates
coordinates_same : (ps qs : List Point) → coordinates_of ps ≡ coordinates_of qs → ps ≡ qs
coordinates_same [] [] e = refl
coordinates_same [] (q ∷ qs) e = let bad : ◌≡◌ {A = ℕ} 0 (length (coordinates_of (q ∷ qs))) = ap length e in absurd (omega arith)
coordinates_same (p ∷ ps) [] e = let bad : ◌≡◌ {A = ℕ} (length (coordinates_of (p ∷ ps))) 0 = ap length e in absurd (omega arith)
coordinates_same (p ∷ ps) (q ∷ qs) e =
    let x : p.x ≡ q.x = cc in
    let y : p.y ≡ q.y = cc in
    let z : p.z ≡ q.z = cc in
    let r : coordinates_of ps ≡ coordinates_of qs = cc in
    let t = coordinates_same ps qs r in
    λ i. record { x = x i; y = y i; z = z i } ∷ t i

pub list-points : (l : List ℤ) (n : ℕ) (ps : List Point) (rest : List ℤ) → l ≡ coordinates_of ps ++ rest → length ps ≡ n → each (list_point l) n ≡ ps
list-points l n ps rest e h =
    let long : length (coordinates_of ps) ≡ n * 3 = length_coordinates ps ∙ ap (λ (k : ℕ). k * 3) h in
    let all : length l ≡ length (coordinates_of ps) + length rest = ap length e ∙ length-append (coordinates_of ps) rest in
    coordinates_same (each (list_point l) n) ps (coordinates_taken l n (omega arith) ∙ ap (take (n * 3)) e ∙ take_at (coordinates_of ps) rest (n * 3) long)

-- ---- corners and labels

corners-taken : (l labels : List ℕ) (n : ℕ) → n * 3 ≤ length l → corners_of (each (list_triangle l labels) n) ≡ take (n * 3) l
corners-taken l labels n h = threes-taken corners_of (list_triangle l labels) l 0 refl corners-append (λ k. refl) n h

pub corners-back : (l labels : List ℕ) (n : ℕ) → length l ≡ n * 3 → l ≡ corners_of (each (list_triangle l labels) n)
corners-back l labels n h = sym (corners-taken l labels n (omega arith) ∙ take_all (n * 3) l (omega arith))

labels-taken : (l labels : List ℕ) (n : ℕ) → n ≤ length labels → labels_of (each (list_triangle l labels) n) ≡ take n labels
labels-taken l labels zero h = refl
labels-taken l labels (suc n) h =
    labels_append (each (list_triangle l labels) n) (list_triangle l labels n ∷ [])
    ∙ ap (λ (t : List ℕ). t ++ (get_or labels n 0 ∷ [])) (labels-taken l labels n (omega arith))
    ∙ sym (take-suc labels n 0 (omega arith))

pub labels-back : (l labels : List ℕ) (n : ℕ) → length labels ≡ n → labels ≡ labels_of (each (list_triangle l labels) n)
labels-back l labels n h = sym (labels-taken l labels n (omega arith) ∙ take_all n labels (omega arith))

-- triangles by their corners and labels
same-triangles : (ts us : List Triangle) → corners_of ts ≡ corners_of us → labels_of ts ≡ labels_of us → ts ≡ us
same-triangles [] [] e f = refl
same-triangles [] (u ∷ us) e f = let bad : ◌≡◌ {A = ℕ} 0 (length (labels_of (u ∷ us))) = ap length f in absurd (omega arith)
same-triangles (t ∷ ts) [] e f = let bad : ◌≡◌ {A = ℕ} (length (labels_of (t ∷ ts))) 0 = ap length f in absurd (omega arith)
same-triangles (t ∷ ts) (u ∷ us) e f =
    let a : t.a ≡ u.a = cc in
    let b : t.b ≡ u.b = cc in
    let c : t.c ≡ u.c = cc in
    let l : t.label ≡ u.label = cc in
    let r : corners_of ts ≡ corners_of us = cc in
    let q : labels_of ts ≡ labels_of us = cc in
    let v = same-triangles ts us r q in
    λ i. record { a = a i; b = b i; c = c i; label = l i } ∷ v i

pub list-triangles : (l labels : List ℕ) (n : ℕ) (ts : List Triangle) (rest rest' : List ℕ) → l ≡ corners_of ts ++ rest → labels ≡ labels_of ts ++ rest' → length ts ≡ n → each (list_triangle l labels) n ≡ ts
list-triangles l labels n ts rest rest' e f h =
    let long : length (corners_of ts) ≡ n * 3 = length-corners ts ∙ ap (λ (k : ℕ). k * 3) h in
    let long' : length (labels_of ts) ≡ n = length-labels ts ∙ h in
    let all : length l ≡ length (corners_of ts) + length rest = ap length e ∙ length-append (corners_of ts) rest in
    let all' : length labels ≡ length (labels_of ts) + length rest' = ap length f ∙ length-append (labels_of ts) rest' in
    same-triangles (each (list_triangle l labels) n) ts
    (corners-taken l labels n (omega arith) ∙ ap (take (n * 3)) e ∙ take_at (corners_of ts) rest (n * 3) long)
    (labels-taken l labels n (omega arith) ∙ ap (take n) f ∙ take_at (labels_of ts) rest' n long')

-- The answer list: places written one after the other are the words of the places.
use Prim.Native.Nat.{ℕ, zero, suc, ◌+◌, ◌*◌, ◌<◌, ◌≤◌}
use mathlib.Core.Path.{◌≡◌, refl, sym, ◌∙◌, ap, ap₂}
use mathlib.Core.List.{List, [], ◌∷◌, ◌++◌, map, append_assoc, append-nil}
use native.Mathlib.Omega.{arith}
use lib.ListN.{length, set, drop, length-append, length-drop, length-map}
use lib.Seq.{drop-drop}
use Rattle.surface.specs.Triangle.{triangles}
use Rattle.surface.specs.Closed.{Closed}
use Rattle.halfedges.specs.Place.{nx, at}
use Rattle.outlines.specs.Side.{Side, Each}
use Rattle.outlines.specs.Outline.{Loop, Place, numbered_loops, place_words}
use Rattle.outlines.specs.Request.{sides_of}
use Rattle.outlines.specs.Stages.Trace.{up_place, put3, with_place, note_all, Walkable}
use Rattle.outlines.proofs.Stepping.{side_at}
use Rattle.outlines.proofs.Remaining.{low-is, high_is, up_is}

set_past : (x y : List ℕ) (m i a : ℕ) → m ≡ length x + i → set (x ++ y) m a ≡ x ++ set y i a
set_past [] y m i a e = let d : m ≡ i = omega arith in ap (λ (j : ℕ). set y j a) d
set_past (b ∷ x) y zero i a e = absurd (omega arith)
set_past (b ∷ x) y (suc m) i a e = ap (λ (l : List ℕ). b ∷ l) (set_past x y m i a (omega arith))

pub words_append : (x y : List Place) → place_words (x ++ y) ≡ place_words x ++ place_words y
unfolding place_words
words_append [] y = refl
words_append (p ∷ x) y = ap (λ (l : List ℕ). p.low ∷ p.high ∷ p.loop ∷ l) (words_append x y)

pub words_long : (x : List Place) → length (place_words x) ≡ 3 * length x
unfolding place_words
words_long [] = refl
words_long (p ∷ x) = omega (arith, words_long x)

abbrev pub place_of : ℕ → Side → Place
place_of q s = record { low = s.low; high = s.high; loop = q }

-- one place
put3-words : (done : List Place) (r : List ℕ) (f q : ℕ) (s : Side) → length done ≡ f → 3 ≤ length r → put3 (place_words done ++ r) f s.low s.high q ≡ place_words (done ++ (place_of q s ∷ [])) ++ drop 3 r
unfolding place_words
put3-words done [] f q s e l = absurd (omega arith)
put3-words done (a ∷ []) f q s e l = absurd (omega arith)
put3-words done (a ∷ b ∷ []) f q s e l = absurd (omega arith)
put3-words done (a ∷ b ∷ d ∷ r) f q s e l =
    let n = words_long done in
    ap (λ (m : List ℕ). set (set m (3 * f + 1) s.high) (3 * f + 2) q) (set_past (place_words done) (a ∷ b ∷ d ∷ r) (3 * f) 0 s.low (omega arith))
    ∙ ap (λ (m : List ℕ). set m (3 * f + 2) q) (set_past (place_words done) (s.low ∷ b ∷ d ∷ r) (3 * f + 1) 1 s.high (omega arith))
    ∙ set_past (place_words done) (s.low ∷ s.high ∷ d ∷ r) (3 * f + 2) 2 q (omega arith)
    ∙ sym (append_assoc (place_words done) (s.low ∷ s.high ∷ q ∷ []) r)
    ∙ ap (λ (m : List ℕ). m ++ r) (sym (words_append done (place_of q s ∷ [])))

-- the sides of a loop
unfoldable pub write_sides : List ℕ → ℕ → ℕ → List Side → List ℕ
write_sides l f q [] = l
write_sides l f q (s ∷ ss) = write_sides (put3 l f s.low s.high q) (suc f) q ss

sides-written : (done : List Place) (r : List ℕ) (f q : ℕ) (ss : List Side) → length done ≡ f → 3 * length ss ≤ length r
    → write_sides (place_words done ++ r) f q ss ≡ place_words (done ++ map (place_of q) ss) ++ drop (3 * length ss) r
unfolding write_sides
sides-written done r f q [] e l = ap (λ (d : List Place). place_words d ++ r) (sym (append-nil done))
sides-written done r f q (s ∷ ss) e l =
    let three : 3 ≤ length r = omega arith in
    ap (λ (m : List ℕ). write_sides m (suc f) q ss) (put3-words done r f q s e three)
    ∙ sides-written (done ++ (place_of q s ∷ [])) (drop 3 r) (suc f) q ss (length-append done (place_of q s ∷ []) ∙ last) (omega (arith, length-drop 3 r))
    ∙ ap₂ (λ (d : List Place) (m : List ℕ). place_words d ++ m) (append_assoc done (place_of q s ∷ []) (map (place_of q) ss)) (drop-drop (3 * length ss) 3 r ∙ ap (λ (n : ℕ). drop n r) threes)
  where
    last : length done + 1 ≡ suc f
    last = omega arith

    threes : 3 + 3 * length ss ≡ 3 * suc (length ss)
    threes = omega arith

-- all loops
unfoldable pub write_loops : List ℕ → ℕ → ℕ → List Loop → List ℕ
unfolding write_sides
write_loops l f q [] = l
write_loops l f q (k ∷ ks) = write_loops (write_sides l f q (k.start ∷ k.rest)) (f + suc (length k.rest)) (suc q) ks

pub loops-written : (done : List Place) (r : List ℕ) (f q : ℕ) (ls : List Loop) → length done ≡ f → 3 * length (sides_of ls) ≤ length r
    → write_loops (place_words done ++ r) f q ls ≡ place_words (done ++ numbered_loops q ls) ++ drop (3 * length (sides_of ls)) r
unfolding write_loops numbered_loops sides_of
loops-written done r f q [] e l = ap (λ (d : List Place). place_words d ++ r) (sym (append-nil done))
loops-written done r f q (k ∷ ks) e l =
    let n = length-append k.rest (sides_of ks) in
    let ss = k.start ∷ k.rest in
    let d' = map (place_of q) ss in
    let threes : 3 * length ss + 3 * length (sides_of ks) ≡ 3 * suc (length (k.rest ++ sides_of ks)) = omega arith in
    ap (λ (m : List ℕ). write_loops m (f + suc (length k.rest)) (suc q) ks) (sides-written done r f q ss e (omega arith))
    ∙ loops-written (done ++ d') (drop (3 * length ss) r) (f + suc (length k.rest)) (suc q) ks (length-append done d' ∙ ap₂ ◌+◌ e (length-map ss (place_of q))) (omega (arith, length-drop (3 * length ss) r))
    ∙ ap₂ (λ (d : List Place) (m : List ℕ). place_words d ++ m) (append_assoc done d' (numbered_loops (suc q) ks)) (drop-drop (3 * length (sides_of ks)) (3 * length ss) r ∙ ap (λ (i : ℕ). drop i r) threes)

-- what the program notes are the sides
pub note-sides : (c : List ℕ) (p : ℕ) → Closed (triangles c) → (w : List ℕ) → Walkable c p w → (l : List ℕ) (f q : ℕ) (ks : List ℕ) → Each (λ (k : ℕ). k < length c) ks
    → note_all c p w l f q ks ≡ write_sides l f q (map (side_at c) ks)
unfolding note_all write_sides Each
note-sides c p closed w r l f q [] e = refl
note-sides c p closed w r l f q (k ∷ ks) e =
    let u = up_is c p closed w r k e.0 in
    let low : at c (up_place c p w k) ≡ (side_at c k).low = sym (low-is c p closed (up_place c p w k) u.upward) ∙ ap (λ (s : Side). s.low) u.side-is in
    let high : at c (nx (up_place c p w k)) ≡ (side_at c k).high = sym (high_is c p closed (up_place c p w k) u.upward) ∙ ap (λ (s : Side). s.high) u.side-is in
    note-sides c p closed w r (with_place c p w l k f q) (suc f) q ks e.1
    ∙ ap₂ (λ (x y : ℕ). write_sides (put3 l f x y q) (suc f) q (map (side_at c) ks)) low high

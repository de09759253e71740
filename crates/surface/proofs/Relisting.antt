-- Lists that are reordered with their labels, and turns that begin elsewhere: tests of every triangle, of every corner and of every label answer alike, and each corner carries the same labels.
use Prim.Native.Nat.{ℕ, zero, suc, ◌*◌, ◌/◌, ◌%◌}
use mathlib.Core.Path.{◌≡◌, refl, sym, ◌∙◌, ap, ap₂, subst}
use mathlib.Core.Bool.{Bool, true, false, ◌&&◌, ◌||◌, not}
use mathlib.Core.List.Permᴰ
use mathlib.Core.List.{List, [], ◌∷◌, map, Permᴰ}
use native.Mathlib.Omega.{arith}
use lib.Dec.{eqb}
use lib.ListN.{length}
use Rattle.surface.specs.Triangle.{Tri, triangles, names}
use Rattle.surface.specs.Check.{every}
use Rattle.surface.specs.Label.{carries}
use Rattle.surface.specs.PageTwelve.{turned, Turns, first, second, third, EachTurns, none, more, Relisted, LabelledTri, with_labels, Reordered, RelistedLists}
use Rattle.surface.proofs.Bools.{or_turn}
use Rattle.surface.proofs.Flat.{length-triangles}

-- ---- tests of every element

and_swap : (p q r : Bool) → (p && (q && r)) ≡ (q && (p && r))
and_swap true true r = refl
and_swap true false r = refl
and_swap false true r = refl
and_swap false false r = refl

pub every_perm : {A : Type 0} (p : A → Bool) {l m : List A} → Permᴰ l m → every p l ≡ every p m
unfolding every
every_perm p Permᴰ.nil = refl
every_perm p (Permᴰ.cons e d) = ap₂ (λ (x y : Bool). x && y) (ap p e) (every_perm p d)
every_perm {A} p (Permᴰ.swap {a = a} {b = b} {l = l} e f) = and_swap (p a) (p b) (every p l) ∙ ap₂ (λ (x y : A). p x && (p y && every p l)) f e
every_perm p (Permᴰ.trans d e) = every_perm p d ∙ every_perm p e

-- of triangles, where the test does not ask where the turn begins
module _ (p : Tri → Bool) (round : (t : Tri) → p t ≡ p (turned t)) where
  pub turns_same : {s t : Tri} → Turns s t → p s ≡ p t
  turns_same first = refl
  turns_same {s} second = round s
  turns_same {s} third = round s ∙ round (turned s)

  pub every-each : {ss ts : List Tri} → EachTurns ss ts → every p ss ≡ every p ts
  unfolding every
  every-each none = refl
  every-each (more k l) = ap₂ (λ (x y : Bool). x && y) (turns_same k) (every-each l)

-- a test of every corner, triangle by triangle
abbrev pub three_of : (ℕ → Bool) → Tri → Bool
three_of p t = p t.a && (p t.b && p t.c)

pub every-corner : (p : ℕ → Bool) (n : ℕ) (c : List ℕ) → length c ≡ 3 * n → every p c ≡ every (three_of p) (triangles c)
unfolding every triangles
every-corner p n [] e = refl
every-corner p zero (x ∷ l) e = absurd (omega arith)
every-corner p (suc n) (x ∷ []) e = absurd (omega arith)
every-corner p (suc n) (x ∷ y ∷ []) e = absurd (omega arith)
every-corner p (suc n) (x ∷ y ∷ z ∷ l) e = ap (λ (b : Bool). p x && (p y && (p z && b))) (every-corner p n l (omega arith)) ∙ three (p x) (p y) (p z) (every (three_of p) (triangles l))
  where
    three : (a b c d : Bool) → (a && (b && (c && d))) ≡ ((a && (b && c)) && d)
    three true true c d = refl
    three true false c d = refl
    three false b c d = refl

pub and_turn : (p q r : Bool) → (p && (q && r)) ≡ (q && (r && p))
and_turn true true true = refl
and_turn true true false = refl
and_turn true false r = refl
and_turn false true true = refl
and_turn false true false = refl
and_turn false false r = refl

-- ---- triangles and labels apart

shapes : (ts : List Tri) (ls : List ℕ) → length ts ≡ length ls → map (λ (x : LabelledTri). x.shape) (with_labels ts ls) ≡ ts
unfolding with_labels
shapes [] ls e = refl
shapes (t ∷ ts) [] e = absurd (omega arith)
shapes (t ∷ ts) (l ∷ ls) e = ap (λ (k : List Tri). t ∷ k) (shapes ts ls (omega arith))

labels : (ts : List Tri) (ls : List ℕ) → length ts ≡ length ls → map (λ (x : LabelledTri). x.label) (with_labels ts ls) ≡ ls
unfolding with_labels
labels [] [] e = refl
labels [] (l ∷ ls) e = absurd (omega arith)
labels (t ∷ ts) [] e = absurd (omega arith)
labels (t ∷ ts) (l ∷ ls) e = ap (λ (k : List ℕ). l ∷ k) (labels ts ls (omega arith))

-- the labels of a corner
lacks : ℕ → ℕ → LabelledTri → Bool
lacks v l x = not (names x.shape v && eqb x.label l)

carried : (ts : List Tri) (ls : List ℕ) (v l : ℕ) → carries ts ls v l ≡ not (every (lacks v l) (with_labels ts ls))
unfolding carries with_labels every lacks
carried [] ls v l = refl
carried (t ∷ ts) [] v l = refl
carried (t ∷ ts) (m ∷ ls) v l = go (names t v && eqb m l) (carried ts ls v l)
  where
    go : (b : Bool) → carries ts ls v l ≡ not (every (lacks v l) (with_labels ts ls)) → (b || carries ts ls v l) ≡ not (not b && every (lacks v l) (with_labels ts ls))
    go true h = refl
    go false h = h

names-turned : (v : ℕ) (t : Tri) → names t v ≡ names (turned t) v
names-turned v t = or_turn (eqb t.a v) (eqb t.b v) (eqb t.c v)

carries_each : {ss ts : List Tri} → EachTurns ss ts → (ls : List ℕ) (v l : ℕ) → carries ss ls v l ≡ carries ts ls v l
unfolding carries
carries_each none ls v l = refl
carries_each (more k e) [] v l = refl
carries_each (more k e) (m ∷ ls) v l = ap₂ (λ (x y : Bool). (x && eqb m l) || y) (turns_same (λ t. names t v) (names-turned v) k) (carries_each e ls v l)

-- ---- reordered

module _ {c ls c' ls' : List ℕ} (r : Reordered c ls c' ls') where
  pub carries-reordered : (v l : ℕ) → carries (triangles c) ls v l ≡ carries (triangles c') ls' v l
  carries-reordered v l = carried (triangles c) ls v l ∙ ap not (every_perm (lacks v l) r.same) ∙ sym (carried (triangles c') ls' v l)

  module _ (threes : length c % 3 ≡ 0) (each : length ls ≡ length c / 3) where
    as_many : length (triangles c) ≡ length ls
    as_many = length-triangles (length c / 3) c (omega arith) ∙ sym each

    as_many' : length (triangles c') ≡ length ls'
    as_many' = let a = r.as_many-corners in let b = r.as_many-labels in length-triangles (length c / 3) c' (omega arith) ∙ sym (b ∙ each)

    pub triangles-reordered : Permᴰ (triangles c) (triangles c')
    triangles-reordered =
        subst (λ (k : List Tri). Permᴰ k (triangles c')) (shapes (triangles c) ls as_many)
        (subst (λ (k : List Tri). Permᴰ (map (λ (x : LabelledTri). x.shape) (with_labels (triangles c) ls)) k) (shapes (triangles c') ls' as_many') (Permᴰ.map (λ (x : LabelledTri). x.shape) r.same))

    pub labels-reordered : Permᴰ ls ls'
    labels-reordered =
        subst (λ (k : List ℕ). Permᴰ k ls') (labels (triangles c) ls as_many)
        (subst (λ (k : List ℕ). Permᴰ (map (λ (x : LabelledTri). x.label) (with_labels (triangles c) ls)) k) (labels (triangles c') ls' as_many') (Permᴰ.map (λ (x : LabelledTri). x.label) r.same))

each_refl : (ts : List Tri) → EachTurns ts ts
each_refl [] = none
each_refl (t ∷ ts) = more first (each_refl ts)

-- no turn is begun elsewhere
pub reordered-relisted : {c ls c' ls' : List ℕ} → Reordered c ls c' ls' → RelistedLists c ls c' ls'
reordered-relisted {c' = c'} r = record { order = c'; reordered = r; as_many-corners = refl; turns = each_refl (triangles c') }

-- ---- relisted

module _ {c ls c' ls' : List ℕ} (r : RelistedLists c ls c' ls') where
  pub corners-relisted : length c' ≡ length c
  corners-relisted = r.as_many-corners ∙ r.reordered.as_many-corners

  pub carries-relisted : (v l : ℕ) → carries (triangles c) ls v l ≡ carries (triangles c') ls' v l
  carries-relisted v l = carries-reordered r.reordered v l ∙ carries_each r.turns ls' v l

  module _ (threes : length c % 3 ≡ 0) (each : length ls ≡ length c / 3) where
    pub relisted : Relisted (triangles c) (triangles c')
    relisted = record { order = triangles r.order; same = triangles-reordered r.reordered threes each; turns = r.turns }

    -- tests of every triangle, of every corner and of every label
    pub every_triangle : (p : Tri → Bool) → ((t : Tri) → p t ≡ p (turned t)) → every p (triangles c) ≡ every p (triangles c')
    every_triangle p round = every_perm p (triangles-reordered r.reordered threes each) ∙ every-each p round r.turns

    pub every-number : (p : ℕ → Bool) → every p c ≡ every p c'
    every-number p =
        every-corner p (length c / 3) c (omega arith)
        ∙ every_triangle (three_of p) (λ t. and_turn (p t.a) (p t.b) (p t.c))
        ∙ sym (every-corner p (length c / 3) c' (omega (arith, corners-relisted)))

    pub every-label : (p : ℕ → Bool) → every p ls ≡ every p ls'
    every-label p = every_perm p (labels-reordered r.reordered threes each)

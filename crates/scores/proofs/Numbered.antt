-- Elements that are chosen and sorted by way of their numbers.
use Prim.Native.Nat.{ℕ, zero, suc, ◌+◌, ◌<◌, ◌≤◌}
use native.Mathlib.Omega.{arith}
use mathlib.Core.Path.{◌≡◌, refl, ap, ap₂, ◌∙◌}
use mathlib.Core.Bool.{Bool, true, false, cond}
use mathlib.Core.List.{List, [], ◌∷◌, map}
use lib.Dec.{leb}
use lib.ListN.{length}
use Rattle.halfedges.specs.Place.{at}
use Rattle.sorting.specs.Stable.{insert, sorted}
use Rattle.sorting.proofs.Facts.{All, sorted_all}
use Rattle.oracle.specs.Candidates.{chosen, insert_by, sort_by}
use Rattle.scores.specs.Measures.{up_from}

module _ {A : Type 0} (f : ℕ → A) where
  -- a sort by keys of what the numbers stand for
  insert-map : (key : A → ℕ) (x : ℕ) (l : List ℕ) → insert_by key (f x) (map f l) ≡ map f (insert (λ (i : ℕ). key (f i)) x l)
  unfolding insert_by insert
  insert-map key x [] = refl
  insert-map key x (y ∷ l) = go (leb (key (f x)) (key (f y))) (insert-map key x l)
    where
      go : (b : Bool) → insert_by key (f x) (map f l) ≡ map f (insert (λ (i : ℕ). key (f i)) x l)
          → cond b (f x ∷ f y ∷ map f l) (f y ∷ insert_by key (f x) (map f l)) ≡ map f (cond b (x ∷ y ∷ l) (y ∷ insert (λ (i : ℕ). key (f i)) x l))
      go true ih = refl
      go false ih = ap (λ (m : List A). f y ∷ m) ih

  pub sort-map : (key : A → ℕ) (l : List ℕ) → sort_by key (map f l) ≡ map f (sorted (λ (i : ℕ). key (f i)) l)
  unfolding sort_by sorted
  sort-map key [] = refl
  sort-map key (x ∷ l) = ap (insert_by key (f x)) (sort-map key l) ∙ insert-map key x (sorted (λ (i : ℕ). key (f i)) l)

  pub chosen-map : (g : A → Bool) (l : List ℕ) → chosen g (map f l) ≡ map f (chosen (λ (i : ℕ). g (f i)) l)
  unfolding chosen
  chosen-map g [] = refl
  chosen-map g (x ∷ l) = go (g (f x)) (chosen-map g l)
    where
      go : (b : Bool) → chosen g (map f l) ≡ map f (chosen (λ (i : ℕ). g (f i)) l)
          → cond b (f x ∷ chosen g (map f l)) (chosen g (map f l)) ≡ map f (cond b (x ∷ chosen (λ (i : ℕ). g (f i)) l) (chosen (λ (i : ℕ). g (f i)) l))
      go true ih = ap (λ (m : List A). f x ∷ m) ih
      go false ih = ih

  pub map_same : (g : ℕ → A) (l : List ℕ) → All (λ (i : ℕ). f i ≡ g i) l → map f l ≡ map g l
  unfolding All
  map_same g [] h = refl
  map_same g (x ∷ l) h = ap₂ (λ (a : A) (m : List A). a ∷ m) h.0 (map_same g l h.1)

  -- the elements of a list by their numbers
  pub map-up : (g : ℕ → A) (l : List ℕ) (o : ℕ) → ((i : ℕ) → i < length l → f (o + i) ≡ g (at l i)) → map f (up_from o (length l)) ≡ map g l
  unfolding up_from
  map-up g [] o h = refl
  map-up g (x ∷ l) o h =
      let z : o ≡ o + 0 = omega arith in
      ap₂ (λ (a : A) (m : List A). a ∷ m) (ap f z ∙ h 0 (omega arith)) (map-up g l (suc o) (λ i m. let e : suc o + i ≡ o + suc i = omega arith in ap f e ∙ h (suc i) (omega arith)))

-- keys and tests that agree on a list
insert-same : (j k : ℕ → ℕ) (x : ℕ) (l : List ℕ) → j x ≡ k x → All (λ (i : ℕ). j i ≡ k i) l → insert j x l ≡ insert k x l
unfolding insert All
insert-same j k x [] e h = refl
insert-same j k x (y ∷ l) e h =
    ap₂ (λ (m n : ℕ). cond (leb m n) (x ∷ y ∷ l) (y ∷ insert j x l)) e h.0
    ∙ ap (λ (m : List ℕ). cond (leb (k x) (k y)) (x ∷ y ∷ l) (y ∷ m)) (insert-same j k x l e h.1)

pub sorted-same : (j k : ℕ → ℕ) (l : List ℕ) → All (λ (i : ℕ). j i ≡ k i) l → sorted j l ≡ sorted k l
unfolding sorted All
sorted-same j k [] h = refl
sorted-same j k (x ∷ l) h =
    insert-same j k x (sorted j l) h.0 (sorted_all j (λ (i : ℕ). j i ≡ k i) l h.1) ∙ ap (insert k x) (sorted-same j k l h.1)

pub chosen-same : (f g : ℕ → Bool) (l : List ℕ) → All (λ (i : ℕ). f i ≡ g i) l → chosen f l ≡ chosen g l
unfolding chosen All
chosen-same f g [] h = refl
chosen-same f g (x ∷ l) h = ap₂ (λ (b : Bool) (m : List ℕ). cond b (x ∷ m) m) h.0 (chosen-same f g l h.1)

pub chosen-all : (P : ℕ → Type 0) (f : ℕ → Bool) (l : List ℕ) → All P l → All P (chosen f l)
unfolding chosen All
chosen-all P f [] h = tt
chosen-all P f (x ∷ l) h = go (f x) (chosen-all P f l h.1)
  where
    go : (b : Bool) → All P (chosen f l) → All P (cond b (x ∷ chosen f l) (chosen f l))
    go true ih = (h.0, ih)
    go false ih = ih

pub up-all : (P : ℕ → Type 0) (o d : ℕ) → ((i : ℕ) → o ≤ i → i < o + d → P i) → All P (up_from o d)
unfolding up_from All
up-all P o zero h = tt
up-all P o (suc d) h = (h o (omega arith) (omega arith), up-all P (suc o) d (λ i l m. h i (omega arith) (omega arith)))

-- Lists of anything: what holds of each element, how many elements pass a test, and the list from a place on.
use Prim.Native.Nat.{ℕ, suc, ◌+◌, ◌<◌}
use mathlib.Core.Path.{◌≡◌, refl, sym, ◌∙◌, ap, subst}
use mathlib.Core.Logic.{inl, inr}
use mathlib.Core.Bool.{Bool}
use mathlib.Core.List.{List, [], ◌∷◌, ◌++◌, map}
use native.Mathlib.Omega.{arith}
use lib.ListN.{length, drop}
use lib.Seq.{drop-cons}
use Rattle.halfedges.specs.Place.{at}
use Rattle.sides.specs.Order.{Among}
use Rattle.sides.proofs.Order.{among_where}
use Rattle.outlines.specs.Side.{tally, Each}

pub each_append : {A : Type 0} (P : A → Type 0) (l m : List A) → Each P l → Each P m → Each P (l ++ m)
unfolding Each
each_append P [] m e f = f
each_append P (x ∷ l) m e f = (e.0, each_append P l m e.1 f)

pub each-front : {A : Type 0} (P : A → Type 0) (l m : List A) → Each P (l ++ m) → Each P l
unfolding Each
each-front P [] m e = tt
each-front P (x ∷ l) m e = (e.0, each-front P l m e.1)

pub each_back : {A : Type 0} (P : A → Type 0) (l m : List A) → Each P (l ++ m) → Each P m
unfolding Each
each_back P [] m e = e
each_back P (x ∷ l) m e = each_back P l m e.1

pub each_map : {A B : Type 0} (P : B → Type 0) (h : A → B) (l : List A) → Each (λ a. P (h a)) l → Each P (map h l)
unfolding Each
each_map P h [] e = tt
each_map P h (x ∷ l) e = (e.0, each_map P h l e.1)

pub each_weaken : {A : Type 0} (P Q : A → Type 0) (l : List A) → ((a : A) → P a → Q a) → Each P l → Each Q l
unfolding Each
each_weaken P Q [] f e = tt
each_weaken P Q (x ∷ l) f e = (f x e.0, each_weaken P Q l f e.1)

-- what holds of all numbers among those of a list, or of what stands at each of its places, holds of each
pub each-among : {P : ℕ → Type 0} (l : List ℕ) → ((k : ℕ) → Among k l → P k) → Each P l
unfolding Each
each-among [] f = tt
each-among (x ∷ l) f = (f x (inl refl), each-among l (λ k a. f k (inr a)))

pub each_at : (P : ℕ → Type 0) (l : List ℕ) → ((i : ℕ) → i < length l → P (at l i)) → Each P l
each_at P l f = each-among l (λ k a. let q = among_where k l a in subst P q.is (f q.i q.low))

pub tally-append : {A : Type 0} (test : A → Bool) (l m : List A) → tally test (l ++ m) ≡ tally test l + tally test m
unfolding tally
tally-append test [] m = omega arith
tally-append test (x ∷ l) m = omega (arith, tally-append test l m)

-- from the place i on, the list begins with what stands there
pub drop-first : (l : List ℕ) (i k : ℕ) → i < length l → k ≡ at l i → drop i l ≡ k ∷ drop (suc i) l
drop-first l i k h e = drop-cons l i 0 h ∙ ap (λ (j : ℕ). j ∷ drop (suc i) l) (sym e)

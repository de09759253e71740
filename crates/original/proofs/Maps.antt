-- What is in adjacent[v] and in incident[v].
use Prim.Native.Nat.{ℕ, zero, suc, ◌+◌, ◌<◌}
use mathlib.Core.Path.{◌≡◌, refl, ◌∙◌, ap, ap₂}
use mathlib.Core.Bool.{Bool, true, false, ◌&&◌, ◌||◌}
use mathlib.Core.List.{List, [], ◌∷◌}
use native.Mathlib.Omega.{arith}
use lib.Dec.{eqb, ltb}
use lib.ListN.{length}
use borrow.Author.Tests.{eq-eqb, ne_eqb}
use Rattle.surface.specs.Triangle.{Tri, names}
use Rattle.surface.specs.Closed.{one, sides}
use Rattle.surface.specs.Edit.{place}
use Rattle.original.specs.Sets.{push, member}
use Rattle.original.specs.Maps.{beside, adjacent, incident_from}
use Rattle.original.proofs.Sets.{and_swap, or_count, member-push}

-- adjacent[v]: the other ends of the sides at v
member-beside : (x y v : ℕ) (l : List ℕ) (z n : ℕ) → member l z ≡ ltb 0 n → member (beside x y v l) z ≡ ltb 0 (one (eqb x v && eqb y z) + (one (eqb x z && eqb y v) + n))
member-beside x y v l z n e =
    member-push (eqb x v) y (push (eqb y v) x l) z
    ∙ ap (λ (k : Bool). (eqb x v && eqb y z) || k) (member-push (eqb y v) x l z ∙ ap₂ (λ (j k : Bool). j || k) (and_swap (eqb y v) (eqb x z)) e ∙ or_count (eqb x z && eqb y v) n)
    ∙ or_count (eqb x v && eqb y z) (one (eqb x z && eqb y v) + n)

pub member-adjacent : (ts : List Tri) (v z : ℕ) → member (adjacent ts v) z ≡ ltb 0 (sides ts v z + sides ts z v)
unfolding member adjacent sides
member-adjacent [] v z = refl
member-adjacent (t ∷ ts) v z =
    member-beside t.a t.b v _ z _ (member-beside t.b t.c v _ z _ (member-beside t.c t.a v _ z _ (member-adjacent ts v z)))
    ∙ ap (ltb 0) (sums (one (eqb t.a v && eqb t.b z)) (one (eqb t.b v && eqb t.c z)) (one (eqb t.c v && eqb t.a z))
    (one (eqb t.a z && eqb t.b v)) (one (eqb t.b z && eqb t.c v)) (one (eqb t.c z && eqb t.a v)) (sides ts v z) (sides ts z v))
  where
    sums : (a b c x y z m n : ℕ) → a + (x + (b + (y + (c + (z + (m + n)))))) ≡ a + (b + c) + m + (x + (y + z) + n)
    sums a b c x y z m n = omega arith

-- incident[v]: the places of the faces with v
few : (i : ℕ) (ts : List Tri) (v k : ℕ) → k < i → member (incident_from i ts v) k ≡ false
unfolding member incident_from
few i [] v k l = refl
few i (t ∷ ts) v k l =
    member-push (eqb t.a v) i _ k ∙ ap₂ (λ (p q : Bool). p || q) (off (eqb t.a v))
    (member-push (eqb t.b v) i _ k ∙ ap₂ (λ (p q : Bool). p || q) (off (eqb t.b v))
    (member-push (eqb t.c v) i _ k ∙ ap₂ (λ (p q : Bool). p || q) (off (eqb t.c v)) (few (suc i) ts v k (omega arith))))
  where
    off : (p : Bool) → (p && eqb i k) ≡ false
    off true = ne_eqb i k (λ e. omega arith)
    off false = refl

pub member-incident : (i : ℕ) (ts : List Tri) (v j : ℕ) → j < length ts → member (incident_from i ts v) (i + j) ≡ names (place ts j) v
unfolding member incident_from
member-incident i [] v j l = absurd (omega arith)
member-incident i (t ∷ ts) v zero l =
    let e : i + 0 ≡ i = omega arith in
    ap (member (incident_from i (t ∷ ts) v)) e
    ∙ member-push (eqb t.a v) i _ i ∙ ap₂ (λ (p q : Bool). p || q) (self (eqb t.a v))
    (member-push (eqb t.b v) i _ i ∙ ap₂ (λ (p q : Bool). p || q) (self (eqb t.b v))
    (member-push (eqb t.c v) i _ i ∙ ap₂ (λ (p q : Bool). p || q) (self (eqb t.c v)) (few (suc i) ts v i (omega arith)) ∙ none (eqb t.c v)))
  where
    self : (p : Bool) → (p && eqb i i) ≡ p
    self true = eq-eqb i i refl
    self false = refl

    none : (p : Bool) → (p || false) ≡ p
    none true = refl
    none false = refl
member-incident i (t ∷ ts) v (suc j) l =
    let e : i + suc j ≡ suc i + j = omega arith in
    ap (member (incident_from i (t ∷ ts) v)) e
    ∙ member-push (eqb t.a v) i _ (suc i + j) ∙ ap₂ (λ (p q : Bool). p || q) (off (eqb t.a v))
    (member-push (eqb t.b v) i _ (suc i + j) ∙ ap₂ (λ (p q : Bool). p || q) (off (eqb t.b v))
    (member-push (eqb t.c v) i _ (suc i + j) ∙ ap₂ (λ (p q : Bool). p || q) (off (eqb t.c v)) (member-incident (suc i) ts v j (omega arith))))
  where
    off : (p : Bool) → (p && eqb i (suc i + j)) ≡ false
    off true = ne_eqb i (suc i + j) (λ e. omega arith)
    off false = refl

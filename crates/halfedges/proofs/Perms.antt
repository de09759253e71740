-- Steps in another order: what stays, and when two lists of steps are one in another order.
use Prim.Native.Nat.{ℕ, suc, ◌+◌, ◌≤◌}
use native.Mathlib.Omega.{arith}
use mathlib.Core.Path.{◌≡◌, refl, sym, ap, ◌∙◌, subst}
use mathlib.Core.Logic.{◌⊎◌, inl, inr, ⊎_elim}
use mathlib.Core.Bool.{Bool, true, false}
use mathlib.Core.List.Permᴰ
use mathlib.Core.List.{List, [], ◌∷◌, ◌++◌, Permᴰ}
use lib.Dec.{eqb}
use lib.ListN.{length}
use borrow.Author.Tests.{eqb-true, eq-eqb, ne_eqb}
use Rattle.surface.specs.Closed.{Step, one, Leads}
use Rattle.halfedges.proofs.Steps.{tally, froms, tos, In}

-- a sum over the steps, and with it their number, stays
pub tally_perm : (f : Step → ℕ) {a b : List Step} → Permᴰ a b → tally f a ≡ tally f b
tally_perm f Permᴰ.nil = refl
tally_perm f (Permᴰ.cons e d) = omega (arith, ap f e, tally_perm f d)
tally_perm f (Permᴰ.swap e₁ e₂) = omega (arith, ap f e₁, ap f e₂)
tally_perm f (Permᴰ.trans d₁ d₂) = tally_perm f d₁ ∙ tally_perm f d₂

pub length_perm : {a b : List Step} → Permᴰ a b → length a ≡ length b
length_perm Permᴰ.nil = refl
length_perm (Permᴰ.cons e d) = ap suc (length_perm d)
length_perm (Permᴰ.swap e₁ e₂) = refl
length_perm (Permᴰ.trans d₁ d₂) = length_perm d₁ ∙ length_perm d₂

pub in_perm : {a b : List Step} (s : Step) → Permᴰ a b → In s a → In s b
in_perm s Permᴰ.nil i = i
in_perm s (Permᴰ.cons e d) (inl q) = inl (q ∙ e)
in_perm s (Permᴰ.cons e d) (inr i) = inr (in_perm s d i)
in_perm s (Permᴰ.swap e₁ e₂) (inl q) = inr (inl (q ∙ e₁))
in_perm s (Permᴰ.swap e₁ e₂) (inr (inl q)) = inl (q ∙ e₂)
in_perm s (Permᴰ.swap e₁ e₂) (inr (inr i)) = inr (inr i)
in_perm s (Permᴰ.trans d₁ d₂) i = in_perm s d₂ (in_perm s d₁ i)

pub tally-append : (f : Step → ℕ) (a b : List Step) → tally f (a ++ b) ≡ tally f a + tally f b
tally-append f [] b = omega arith
tally-append f (s ∷ a) b = omega (arith, tally-append f a b)

pub length_mid : (s : Step) (a b : List Step) → length (a ++ s ∷ b) ≡ suc (length (a ++ b))
length_mid s [] b = refl
length_mid s (t ∷ a) b = ap suc (length_mid s a b)

pub length_turn : (s : Step) (a b : List Step) → length (a ++ s ∷ b) ≡ suc (length (b ++ a))
length_turn s a b = omega (arith, lib.ListN.length-append a (s ∷ b), lib.ListN.length-append b a)

pub in_left : (s : Step) (a b : List Step) → In s a → In s (a ++ b)
in_left s [] b i = absurd i
in_left s (t ∷ a) b (inl e) = inl e
in_left s (t ∷ a) b (inr i) = inr (in_left s a b i)

pub in_right : (s : Step) (a b : List Step) → In s b → In s (a ++ b)
in_right s [] b i = i
in_right s (t ∷ a) b i = inr (in_right s a b i)

pub in_either : (s : Step) (a b : List Step) → In s (a ++ b) → In s a ⊎ In s b
in_either s [] b i = inr i
in_either s (t ∷ a) b (inl e) = inl (inl e)
in_either s (t ∷ a) b (inr i) = ⊎_elim (λ (j : In s a). inl (inr j)) (λ (j : In s b). inr j) (in_either s a b i)

in_other : (s t : Step) (a b : List Step) → In t (a ++ s ∷ b) → (t ≡ s → ⊥) → In t (a ++ b)
in_other s t [] b (inl e) n = absurd (n e)
in_other s t [] b (inr i) n = i
in_other s t (r ∷ a) b (inl e) n = inl e
in_other s t (r ∷ a) b (inr i) n = inr (in_other s t a b i n)

-- a list is cut at one of its steps
pub record Cut (s : Step) (l : List Step) : Type 0 where
  pub left : List Step
  pub right : List Step
  pub whole : l ≡ left ++ s ∷ right

pub cut : (s : Step) (l : List Step) → In s l → Cut s l
cut s [] i = absurd i
cut s (t ∷ l) (inl e) = record { left = []; right = l; whole = ap (λ (r : Step). r ∷ l) (sym e) }
cut s (t ∷ l) (inr i) = let u = cut s l i in record { left = t ∷ u.left; right = u.right; whole = ap (λ (r : List Step). t ∷ r) u.whole }

-- no two of the steps start at one corner
abbrev pub Apart : List Step → Type 0
Apart [] = Unit {0}
Apart (s ∷ l) = ((t : Step) → In t l → s.from ≡ t.from → ⊥) × Apart l

-- steps apart, all among as many steps as they are themselves, are those steps
pub perm_of : (a l : List Step) → Apart a → ((s : Step) → In s a → In s l) → length a ≡ length l → Permᴰ a l
perm_of [] [] p h e = Permᴰ.nil
perm_of [] (t ∷ l) p h e = absurd (omega arith)
perm_of (s ∷ a) l p h e =
    let u = cut s l (h s (inl refl)) in
    let x = u.left in
    let y = u.right in
    let sub : (t : Step) → In t a → In t (x ++ y) = λ t i. in_other s t x y (subst (In t) u.whole (h t (inr i))) (λ q. p.0 t i (ap (λ (r : Step). r.from) (sym q))) in
    let same : length a ≡ length (x ++ y) = omega (arith, ap length u.whole, length_mid s x y) in
    subst (λ (r : List Step). Permᴰ (s ∷ a) r) (sym u.whole) (Permᴰ.trans (Permᴰ.cons refl (perm_of a (x ++ y) p.1 sub same)) (Permᴰ.symm (Permᴰ.middle s x y)))

-- what leads on
pub record Between (x : ℕ) (a b : List Step) (y : ℕ) : Type 0 where
  pub mid : ℕ
  pub fore : Leads x a mid
  pub aft : Leads mid b y

pub leads_cut : (x y : ℕ) (a b : List Step) → Leads x (a ++ b) y → Between x a b y
unfolding Leads
leads_cut x y [] b h = record { mid = x; fore = refl; aft = h }
leads_cut x y (s ∷ a) b h = let u = leads_cut s.to y a b h.1 in record { mid = u.mid; fore = (h.0, u.fore); aft = u.aft }

pub leads_join : (x m y : ℕ) (a b : List Step) → Leads x a m → Leads m b y → Leads x (a ++ b) y
unfolding Leads
leads_join x m y [] b p q = subst (λ (z : ℕ). Leads z b y) (sym p) q
leads_join x m y (s ∷ a) b p q = (p.0, leads_join s.to m y a b p.1 q)

-- steps that lead around start at each corner as often as they end there
pub leads_even : (z x y : ℕ) (l : List Step) → Leads x l y → tos z l + one (eqb x z) ≡ froms z l + one (eqb y z)
unfolding Leads
leads_even z x y [] h = ap (λ (k : ℕ). 0 + one (eqb k z)) h
leads_even z x y (s ∷ l) h = omega (arith, leads_even z s.to y l h.1, ap (λ (k : ℕ). one (eqb k z)) h.0)

-- where none starts at x, no step among them does
pub none_from : (x : ℕ) (s : Step) (l : List Step) → froms x l ≡ 0 → In s l → s.from ≡ x → ⊥
none_from x s [] z i e = i
none_from x s (t ∷ l) z (inl q) e = omega (arith, ap one (eq-eqb t.from x (ap (λ (y : Step). y.from) (sym q) ∙ e)))
none_from x s (t ∷ l) z (inr i) e = none_from x s l (omega arith) i e

-- steps apart start at most once at each corner
one_le : (b : Bool) → one b ≤ 1
one_le true = omega arith
one_le false = omega arith

no_more : (x : ℕ) (l : List Step) → ((t : Step) → In t l → x ≡ t.from → ⊥) → froms x l ≡ 0
no_more x [] h = refl
no_more x (s ∷ l) h =
    omega (arith, ap one (ne_eqb s.from x (λ e. h s (inl refl) (sym e))), no_more x l (λ t i e. h t (inr i) e))

pub apart_froms : (x : ℕ) (l : List Step) → Apart l → froms x l ≤ 1
apart_froms x [] a = omega arith
apart_froms x (s ∷ l) a = go (apart_froms x l a.1) (eqb s.from x) refl
  where
    go : froms x l ≤ 1 → (b : Bool) → eqb s.from x ≡ b → froms x (s ∷ l) ≤ 1
    go h true e =
        omega (arith, one_le (eqb s.from x), no_more x l (λ t i q. a.0 t i (eqb-true s.from x e ∙ q)))
    go h false e = omega (arith, ap one e)

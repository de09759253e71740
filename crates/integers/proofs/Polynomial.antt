-- Identities of integer polynomials, by computation: two expressions are equal at all numbers where their difference, multiplied out and gathered, has no term left (`identity`). Assumes nothing.
use mathlib.Core.Path.{◌≡◌, refl, sym, ap, ap₂, ◌∙◌}
use mathlib.Core.Bool.{Bool, true, false, ◌&&◌, cond, false≢true}
use mathlib.Core.List.{List, [], ◌∷◌}
use Prim.Native.Nat.{ℕ, zero, suc}
use lib.Dec.{eqb, ltb, leb}
use borrow.Author.Tests.{eqb-true}
use lib.IntN.{ℤ, pos, negsuc, neg_ℤ, ◌+ℤ◌, ◌-ℤ◌, ◌*ℤ◌, +ℤ_assoc, +ℤ_idl, +ℤ_idr, -ℤ-+ℤ_cancel, zero-*ℤ, *ℤ-zero, *ℤ_comm}
use Rattle.integers.proofs.Ring.{swap_first, right_distrib, left_distrib, mul_associates, one-times, minus-one-times}

pub data Expression : Type 0 where
  at : ℕ → Expression
  whole : ℤ → Expression
  plus minus times : Expression → Expression → Expression

-- the numbers for which the variables stand
abbrev pub among : List ℤ → ℕ → ℤ
among [] i = pos 0
among (z ∷ l) zero = z
among (z ∷ l) (suc i) = among l i

abbrev pub value : (ℕ → ℤ) → Expression → ℤ
value ρ (at i) = ρ i
value ρ (whole z) = z
value ρ (plus e f) = value ρ e +ℤ value ρ f
value ρ (minus e f) = value ρ e -ℤ value ρ f
value ρ (times e f) = value ρ e *ℤ value ρ f

-- ---- sums of terms, each a number times variables in rising order

record Term : Type 0 where
  factor : ℤ
  variables : List ℕ

abbrev term : ℤ → List ℕ → Term
term k m = record { factor = k; variables = m }

put : ℕ → List ℕ → List ℕ
put i [] = i ∷ []
put i (j ∷ m) = cond (leb i j) (i ∷ j ∷ m) (j ∷ put i m)

join : List ℕ → List ℕ → List ℕ
join [] n = n
join (i ∷ m) n = put i (join m n)

same : List ℕ → List ℕ → Bool
same [] [] = true
same [] (j ∷ n) = false
same (i ∷ m) [] = false
same (i ∷ m) (j ∷ n) = eqb i j && same m n

before : List ℕ → List ℕ → Bool
before [] n = true
before (i ∷ m) [] = false
before (i ∷ m) (j ∷ n) = cond (eqb i j) (before m n) (ltb i j)

gather : ℤ → List ℕ → List Term → List Term
gather k m [] = term k m ∷ []
gather k m (t ∷ p) = cond (same m t.variables) (term (k +ℤ t.factor) t.variables ∷ p) (cond (before m t.variables) (term k m ∷ t ∷ p) (t ∷ gather k m p))

add : List Term → List Term → List Term
add [] q = q
add (t ∷ p) q = gather t.factor t.variables (add p q)

spread : Term → List Term → List Term
spread t [] = []
spread t (u ∷ q) = gather (t.factor *ℤ u.factor) (join t.variables u.variables) (spread t q)

multiply : List Term → List Term → List Term
multiply [] q = []
multiply (t ∷ p) q = add (spread t q) (multiply p q)

terms : Expression → List Term
terms (at i) = term (pos 1) (i ∷ []) ∷ []
terms (whole z) = term z [] ∷ []
terms (plus e f) = add (terms e) (terms f)
terms (minus e f) = add (terms e) (spread (term (negsuc 0) []) (terms f))
terms (times e f) = multiply (terms e) (terms f)

nothing : ℤ → Bool
nothing (pos zero) = true
nothing (pos (suc n)) = false
nothing (negsuc n) = false

none : List Term → Bool
none [] = true
none (t ∷ p) = nothing t.factor && none p

-- ---- what they are worth

module _ (ρ : ℕ → ℤ) where
  product : List ℕ → ℤ
  product [] = pos 1
  product (i ∷ m) = ρ i *ℤ product m

  worth : List Term → ℤ
  unfolding product
  worth [] = pos 0
  worth (t ∷ p) = t.factor *ℤ product t.variables +ℤ worth p

  swap_factors : (a b c : ℤ) → a *ℤ (b *ℤ c) ≡ b *ℤ (a *ℤ c)
  swap_factors a b c = sym (mul_associates a b c) ∙ ap (λ (x : ℤ). x *ℤ c) (*ℤ_comm a b) ∙ mul_associates b a c

  put_worth : (i : ℕ) (m : List ℕ) → product (put i m) ≡ ρ i *ℤ product m
  unfolding put product
  put_worth i [] = refl
  put_worth i (j ∷ m) = go (leb i j) (put_worth i m)
    where
      go : (b : Bool) → product (put i m) ≡ ρ i *ℤ product m → product (cond b (i ∷ j ∷ m) (j ∷ put i m)) ≡ ρ i *ℤ (ρ j *ℤ product m)
      go true h = refl
      go false h = ap (λ (x : ℤ). ρ j *ℤ x) h ∙ swap_factors (ρ j) (ρ i) (product m)

  join_worth : (m n : List ℕ) → product (join m n) ≡ product m *ℤ product n
  unfolding join product
  join_worth [] n = sym (one-times (product n))
  join_worth (i ∷ m) n = put_worth i (join m n) ∙ ap (λ (x : ℤ). ρ i *ℤ x) (join_worth m n) ∙ sym (mul_associates (ρ i) (product m) (product n))

  same_worth : (m n : List ℕ) → same m n ≡ true → product m ≡ product n
  unfolding same product
  same_worth [] [] e = refl
  same_worth [] (j ∷ n) e = absurd (false≢true e)
  same_worth (i ∷ m) [] e = absurd (false≢true e)
  same_worth (i ∷ m) (j ∷ n) e = go (eqb i j) refl e (same_worth m n)
    where
      go : (b : Bool) → eqb i j ≡ b → (b && same m n) ≡ true → (same m n ≡ true → product m ≡ product n) → ρ i *ℤ product m ≡ ρ j *ℤ product n
      go true h k r = ap₂ (λ (x : ℕ) (y : ℤ). ρ x *ℤ y) (eqb-true i j h) (r k)
      go false h k r = absurd (false≢true k)

  gather_worth : (k : ℤ) (m : List ℕ) (p : List Term) → worth (gather k m p) ≡ k *ℤ product m +ℤ worth p
  unfolding gather worth
  gather_worth k m [] = refl
  gather_worth k m (t ∷ p) = go (same m t.variables) refl (before m t.variables) (gather_worth k m p)
    where
      go : (b : Bool) → same m t.variables ≡ b → (c : Bool) → worth (gather k m p) ≡ k *ℤ product m +ℤ worth p
          → worth (cond b (term (k +ℤ t.factor) t.variables ∷ p) (cond c (term k m ∷ t ∷ p) (t ∷ gather k m p))) ≡ k *ℤ product m +ℤ worth (t ∷ p)
      go true e c h =
          ap (λ (x : ℤ). x +ℤ worth p) (right_distrib k t.factor (product t.variables))
          ∙ +ℤ_assoc (k *ℤ product t.variables) (t.factor *ℤ product t.variables) (worth p)
          ∙ ap (λ (x : ℤ). k *ℤ x +ℤ (t.factor *ℤ product t.variables +ℤ worth p)) (sym (same_worth m t.variables e))
      go false e true h = refl
      go false e false h = ap (λ (x : ℤ). t.factor *ℤ product t.variables +ℤ x) h ∙ swap_first (t.factor *ℤ product t.variables) (k *ℤ product m) (worth p)

  add_worth : (p q : List Term) → worth (add p q) ≡ worth p +ℤ worth q
  unfolding add worth
  add_worth [] q = sym (+ℤ_idl (worth q))
  add_worth (t ∷ p) q =
      gather_worth t.factor t.variables (add p q)
      ∙ ap (λ (x : ℤ). t.factor *ℤ product t.variables +ℤ x) (add_worth p q)
      ∙ sym (+ℤ_assoc (t.factor *ℤ product t.variables) (worth p) (worth q))

  four : (a b c d : ℤ) → a *ℤ c *ℤ (b *ℤ d) ≡ a *ℤ b *ℤ (c *ℤ d)
  four a b c d = mul_associates a c (b *ℤ d) ∙ ap (λ (x : ℤ). a *ℤ x) (swap_factors c b d) ∙ sym (mul_associates a b (c *ℤ d))

  spread_worth : (t : Term) (q : List Term) → worth (spread t q) ≡ t.factor *ℤ product t.variables *ℤ worth q
  unfolding spread worth
  spread_worth t [] = sym (*ℤ-zero (t.factor *ℤ product t.variables))
  spread_worth t (u ∷ q) =
      gather_worth (t.factor *ℤ u.factor) (join t.variables u.variables) (spread t q)
      ∙ ap₂ (λ (x y : ℤ). t.factor *ℤ u.factor *ℤ x +ℤ y) (join_worth t.variables u.variables) (spread_worth t q)
      ∙ ap (λ (x : ℤ). x +ℤ t.factor *ℤ product t.variables *ℤ worth q) (four t.factor (product t.variables) u.factor (product u.variables))
      ∙ sym (left_distrib (t.factor *ℤ product t.variables) (u.factor *ℤ product u.variables) (worth q))

  multiply_worth : (p q : List Term) → worth (multiply p q) ≡ worth p *ℤ worth q
  unfolding multiply worth
  multiply_worth [] q = sym (zero-*ℤ (worth q))
  multiply_worth (t ∷ p) q =
      add_worth (spread t q) (multiply p q)
      ∙ ap₂ (λ (x y : ℤ). x +ℤ y) (spread_worth t q) (multiply_worth p q)
      ∙ sym (right_distrib (t.factor *ℤ product t.variables) (worth p) (worth q))

  terms_worth : (e : Expression) → worth (terms e) ≡ value ρ e
  unfolding terms worth
  terms_worth (at i) = +ℤ_idr (pos 1 *ℤ (ρ i *ℤ pos 1)) ∙ one-times (ρ i *ℤ pos 1) ∙ *ℤ_comm (ρ i) (pos 1) ∙ one-times (ρ i)
  terms_worth (whole z) = +ℤ_idr (z *ℤ pos 1) ∙ *ℤ_comm z (pos 1) ∙ one-times z
  terms_worth (plus e f) = add_worth (terms e) (terms f) ∙ ap₂ (λ (x y : ℤ). x +ℤ y) (terms_worth e) (terms_worth f)
  terms_worth (minus e f) =
      add_worth (terms e) (spread (term (negsuc 0) []) (terms f))
      ∙ ap₂ (λ (x y : ℤ). x +ℤ y) (terms_worth e) (spread_worth (term (negsuc 0) []) (terms f) ∙ minus-one-times (worth (terms f)) ∙ ap neg_ℤ (terms_worth f))
  terms_worth (times e f) = multiply_worth (terms e) (terms f) ∙ ap₂ (λ (x y : ℤ). x *ℤ y) (terms_worth e) (terms_worth f)

  nothing-zero : (z : ℤ) → nothing z ≡ true → z ≡ pos 0
  unfolding nothing
  nothing-zero (pos zero) e = refl
  nothing-zero (pos (suc n)) e = absurd (false≢true e)
  nothing-zero (negsuc n) e = absurd (false≢true e)

  none_worth : (p : List Term) → none p ≡ true → worth p ≡ pos 0
  unfolding none worth
  none_worth [] e = refl
  none_worth (t ∷ p) e = go (nothing t.factor) refl e (none_worth p)
    where
      go : (b : Bool) → nothing t.factor ≡ b → (b && none p) ≡ true → (none p ≡ true → worth p ≡ pos 0) → t.factor *ℤ product t.variables +ℤ worth p ≡ pos 0
      go true h k r = ap₂ (λ (x y : ℤ). x *ℤ product t.variables +ℤ y) (nothing-zero t.factor h) (r k) ∙ ap (λ (x : ℤ). x +ℤ pos 0) (zero-*ℤ (product t.variables))
      go false h k r = absurd (false≢true k)

-- ---- identities

unfoldable pub vanishes : Expression → Bool
unfolding put join same before gather add spread multiply terms nothing none
vanishes e = none (terms e)

pub identity : (e f : Expression) (l : List ℤ) → vanishes (minus e f) ≡ true → value (among l) e ≡ value (among l) f
unfolding vanishes
identity e f l h =
    let ρ = among l in
    sym (-ℤ-+ℤ_cancel (value ρ e) (value ρ f))
    ∙ ap (λ (x : ℤ). x +ℤ value ρ f) (sym (terms_worth ρ (minus e f)) ∙ none_worth ρ (terms (minus e f)) h)
    ∙ +ℤ_idl (value ρ f)

-- The bits of a mask are the labels that a corner carries, where none is past 7; and so masks[keep] | masks[remove] == masks[keep] is `covered`.
use Prim.Native.Nat.{ℕ, zero, suc, ◌+◌, ◌*◌, ◌/◌, ◌%◌, ◌^◌, ◌≤◌, max}
use mathlib.Core.Path.{◌≡◌, refl, sym, ◌∙◌, ap, subst}
use mathlib.Core.Bool.{Bool, true, false, ◌&&◌, ◌||◌, false≢true}
use mathlib.Core.List.{List, [], ◌∷◌}
use native.Mathlib.Nat.{pow-suc}
use native.Mathlib.Omega.{arith}
use lib.Arith.{bin_ind}
use lib.Bits.{bit_or, or_step}
use lib.Dec.{eqb, leb}
use borrow.Author.Tests.{eqb-true, eq-eqb, ne_eqb, leb-true}
use Rattle.surface.specs.Triangle.{Tri}
use Rattle.surface.specs.Closed.{one}
use Rattle.surface.specs.Check.{every}
use Rattle.surface.specs.Label.{carries}
use Rattle.surface.proofs.Bools.{both}
use Rattle.history.specs.History.{Pair, covered}
use Rattle.rounds.proofs.Loops.{covered_iff}
use Rattle.original.specs.Maps.{marking, mask_from, mask}
use Rattle.original.proofs.Sets.{same_test}

-- no label past 7, as `smooth_impl` tests it
abbrev pub Few : List ℕ → Type 0
Few ls = every (λ (l : ℕ). leb l 7) ls ≡ true

-- bit k of m
abbrev pub digit : ℕ → ℕ → ℕ
digit zero m = m % 2
digit (suc k) m = digit k (m / 2)

halves : (x y : ℕ) → y ≤ 1 → ((x * 2 + y) / 2 ≡ x) × ((x * 2 + y) % 2 ≡ y)
halves x y l = (omega arith, omega arith)

digit_or : (k a b : ℕ) → digit k (bit_or a b) ≡ max (digit k a) (digit k b)
digit_or zero a b = ap (λ (n : ℕ). n % 2) (or_step a b) ∙ (halves (bit_or (a / 2) (b / 2)) (max (a % 2) (b % 2)) (omega arith)).1
digit_or (suc k) a b = ap (λ (n : ℕ). digit k (n / 2)) (or_step a b) ∙ ap (digit k) (halves (bit_or (a / 2) (b / 2)) (max (a % 2) (b % 2)) (omega arith)).0 ∙ digit_or k (a / 2) (b / 2)

digit-zero : (k : ℕ) → digit k 0 ≡ 0
digit-zero zero = refl
digit-zero (suc k) = digit-zero k

eqb_suc : (l k : ℕ) → eqb (suc l) (suc k) ≡ eqb l k
eqb_suc l k = same_test _ _ (λ e. let z = eqb-true (suc l) (suc k) e in eq-eqb l k (omega arith)) (λ e. let z = eqb-true l k e in eq-eqb (suc l) (suc k) (omega arith))

digit-power : (k l : ℕ) → digit k (2 ^ l) ≡ one (eqb l k)
digit-power zero zero = refl
digit-power zero (suc l) =
    let z : 2 ^ suc l % 2 ≡ 0 = omega (arith, pow-suc 2 l) in
    z ∙ sym (ap one (ne_eqb (suc l) 0 (λ e. omega arith)))
digit-power (suc k) zero = digit-zero k ∙ sym (ap one (ne_eqb 0 (suc k) (λ e. omega arith)))
digit-power (suc k) (suc l) = let z : 2 ^ suc l / 2 ≡ 2 ^ l = omega (arith, pow-suc 2 l) in ap (digit k) z ∙ digit-power k l ∙ sym (ap one (eqb_suc l k))

-- a | b == a where a has every bit of b
pub no_digits : (b : ℕ) → ((k : ℕ) → digit k b ≤ 0) → b ≡ 0
no_digits = bin_ind (λ (n : ℕ). ((k : ℕ) → digit k n ≤ 0) → n ≡ 0) (λ h. refl) (λ n ih h. let z = ih (λ k. h (suc k)) in let w = h 0 in omega arith)

among : (a b : ℕ) → ((k : ℕ) → digit k b ≤ digit k a) → bit_or a b ≡ a
among = bin_ind (λ (n : ℕ). (b : ℕ) → ((k : ℕ) → digit k b ≤ digit k n) → bit_or n b ≡ n)
    (λ b h. no_digits b (λ k. subst (λ (d : ℕ). digit k b ≤ d) (digit-zero k) (h k)))
    (λ n ih b h. let z = ih (b / 2) (λ k. h (suc k)) in let w = h 0 in let v = or_step n b in omega arith)

-- bit k of masks[v] is set where v carries the label k
digit-marking : (k : ℕ) (x : Bool) (l m : ℕ) → l ≤ 7 → digit k (marking x l m) ≡ max (digit k m) (one (x && eqb l k))
digit-marking k true l m h = let z : l % 8 ≡ l = omega arith in digit_or k m (2 ^ (l % 8)) ∙ ap (λ (n : ℕ). max (digit k m) n) (ap (λ (n : ℕ). digit k (2 ^ n)) z ∙ digit-power k l)
digit-marking k false l m h = omega arith

max-one : (n : ℕ) (x y z e r : Bool) → max (max (max (max n (one (x && e))) (one (y && e))) (one (z && e))) (one r) ≡ max n (one (((x || (y || z)) && e) || r))
max-one n true y z true r = top n (one (y && true)) (one (z && true)) (one r) (small (y && true)) (small (z && true)) (small r)
  where
    small : (b : Bool) → one b ≤ 1
    small true = omega arith
    small false = omega arith

    top : (n a b c : ℕ) → a ≤ 1 → b ≤ 1 → c ≤ 1 → max (max (max (max n 1) a) b) c ≡ max n 1
    top n a b c h i j = omega arith
max-one n false true z true r = top n (one (z && true)) (one r) (small (z && true)) (small r)
  where
    small : (b : Bool) → one b ≤ 1
    small true = omega arith
    small false = omega arith

    top : (n b c : ℕ) → b ≤ 1 → c ≤ 1 → max (max (max (max n 0) 1) b) c ≡ max n 1
    top n b c i j = omega arith
max-one n false false true true r = top n (one r) (small r)
  where
    small : (b : Bool) → one b ≤ 1
    small true = omega arith
    small false = omega arith

    top : (n c : ℕ) → c ≤ 1 → max (max (max (max n 0) 0) 1) c ≡ max n 1
    top n c j = omega arith
max-one n false false false e r = none n (one r)
  where
    none : (n c : ℕ) → max (max (max (max n 0) 0) 0) c ≡ max n c
    none n c = omega arith
max-one n true y z false r = pick y z
  where
    none : (n c : ℕ) → max (max (max (max n 0) 0) 0) c ≡ max n c
    none n c = omega arith

    pick : (y z : Bool) → max (max (max (max n 0) (one (y && false))) (one (z && false))) (one r) ≡ max n (one r)
    pick true true = none n (one r)
    pick true false = none n (one r)
    pick false true = none n (one r)
    pick false false = none n (one r)
max-one n false true z false r = pick z
  where
    none : (n c : ℕ) → max (max (max (max n 0) 0) 0) c ≡ max n c
    none n c = omega arith

    pick : (z : Bool) → max (max (max (max n 0) 0) (one (z && false))) (one r) ≡ max n (one r)
    pick true = none n (one r)
    pick false = none n (one r)
max-one n false false true false r = none n (one r)
  where
    none : (n c : ℕ) → max (max (max (max n 0) 0) 0) c ≡ max n c
    none n c = omega arith

digit_mask : (k m : ℕ) (ts : List Tri) (ls : List ℕ) (v : ℕ) → Few ls → digit k (mask_from m ts ls v) ≡ max (digit k m) (one (carries ts ls v k))
unfolding mask_from carries every
digit_mask k m [] ls v f = omega arith
digit_mask k m (t ∷ ts) [] v f = omega arith
digit_mask k m (t ∷ ts) (l ∷ ls) v f =
    let w = both (leb l 7) (every (λ (l : ℕ). leb l 7) ls) f in
    let h = leb-true l 7 w.0 in
    digit_mask k (marking (eqb t.c v) l (marking (eqb t.b v) l (marking (eqb t.a v) l m))) ts ls v w.1
    ∙ ap (λ (n : ℕ). max n (one (carries ts ls v k)))
    (digit-marking k (eqb t.c v) l (marking (eqb t.b v) l (marking (eqb t.a v) l m)) h
    ∙ ap (λ (n : ℕ). max n (one (eqb t.c v && eqb l k)))
    (digit-marking k (eqb t.b v) l (marking (eqb t.a v) l m) h ∙ ap (λ (n : ℕ). max n (one (eqb t.b v && eqb l k))) (digit-marking k (eqb t.a v) l m h)))
    ∙ max-one (digit k m) (eqb t.a v) (eqb t.b v) (eqb t.c v) (eqb l k) (carries ts ls v k)

pub mask-digit : (k : ℕ) (p : Pair) (v : ℕ) → Few p.labels → digit k (mask p.tris p.labels v) ≡ one (carries p.tris p.labels v k)
mask-digit k p v f = digit_mask k 0 p.tris p.labels v f ∙ ap (λ (n : ℕ). max n (one (carries p.tris p.labels v k))) (digit-zero k) ∙ none (one (carries p.tris p.labels v k))
  where
    none : (n : ℕ) → max 0 n ≡ n
    none n = omega arith

pub one_le : (x y : Bool) → (y ≡ true → x ≡ true) → one y ≤ one x
one_le true true h = omega arith
one_le true false h = omega arith
one_le false true h = absurd (false≢true (h refl))
one_le false false h = omega arith

le_one : (x y : Bool) → one y ≤ one x → y ≡ true → x ≡ true
le_one true y l e = refl
le_one false true l e = absurd (omega arith)
le_one false false l e = e

pub masks_covered : (p : Pair) → Few p.labels → (a b : ℕ)
    → eqb (bit_or (mask p.tris p.labels a) (mask p.tris p.labels b)) (mask p.tris p.labels a) ≡ covered p a b
masks_covered p f a b = same_test _ _
    (λ e. (covered_iff p a b).1 (λ l h.
    let z = eqb-true (bit_or (mask p.tris p.labels a) (mask p.tris p.labels b)) (mask p.tris p.labels a) e in
    let w = sym (digit_or l (mask p.tris p.labels a) (mask p.tris p.labels b)) ∙ ap (digit l) z in
    le_one (carries p.tris p.labels a l) (carries p.tris p.labels b l) (under (digit l (mask p.tris p.labels a)) (digit l (mask p.tris p.labels b)) _ _ w (mask-digit l p a f) (mask-digit l p b f)) h))
    (λ e. eq-eqb _ _ (among (mask p.tris p.labels a) (mask p.tris p.labels b) (λ k.
    over (digit k (mask p.tris p.labels a)) (digit k (mask p.tris p.labels b)) _ _ (mask-digit k p a f) (mask-digit k p b f)
    (one_le (carries p.tris p.labels a k) (carries p.tris p.labels b k) ((covered_iff p a b).0 e k)))))
  where
    under : (x y u v : ℕ) → max x y ≡ x → x ≡ u → y ≡ v → v ≤ u
    under x y u v e i j = omega arith

    over : (x y u v : ℕ) → x ≡ u → y ≡ v → v ≤ u → y ≤ x
    over x y u v i j l = omega arith

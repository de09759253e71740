-- Parts that are written one after the other. Assumes nothing.
use mathlib.Core.Path.{◌≡◌, refl, sym, ap, ◌∙◌, subst}
use mathlib.Core.List.{List, [], ◌∷◌, ◌++◌}
use Prim.Native.Nat.{ℕ, suc, ◌+◌, ◌-◌, ◌≤◌}
use native.Mathlib.Omega.{arith}
use lib.ListN.{length, drop, set, replicate, length-append, length-replicate}
use lib.Seq.{sets, sets-eq}
use Rattle.sheet.proofs.Stores.{drop-same}
use Rattle.writing.specs.Stages.{Put}

sets_append : {A : Type 0} (a b l : List A) (i : ℕ) → sets l i (a ++ b) ≡ sets (sets l i a) (i + length a) b
sets_append [] b l i = let e : i ≡ i + 0 = omega arith in ap (λ (k : ℕ). sets l k b) e
sets_append (x ∷ a) b l i =
    let e : suc i + length a ≡ i + suc (length a) = omega arith in
    sets_append a b (set l i x) (suc i) ∙ ap (λ (k : ℕ). sets (sets (set l i x) (suc i) a) k b) e

-- how far it goes
pub reach : {w : List ℕ} {long : ℕ} {l l' : List ℕ} {at next : ℕ} → Put w long l l' at next → next ≤ at + long
reach p = let e = p.place in let s = p.short in omega arith

-- nothing is written
pub put-nothing : (l : List ℕ) (at : ℕ) → Put [] 0 l l at at
put-nothing l at = record { stored = refl; place = omega arith; short = omega arith }

pub put_one : (b at : ℕ) (l l' : List ℕ) (next : ℕ) → l' ≡ set l at b → next ≡ at + 1 → Put (b ∷ []) 1 l l' at next
put_one b at l l' next e f = record { stored = e; place = f; short = omega arith }

-- a, then b
pub both : {a b : List ℕ} {m n : ℕ} {l l₁ l₂ : List ℕ} {at i j : ℕ} → Put a m l l₁ at i → Put b n l₁ l₂ i j → Put (a ++ b) (m + n) l l₂ at j
both {a} {b} {m} {n} {l} {l₁} {l₂} {at} {i} {j} p q =
    let pp = p.place in
    let qp = q.place in
    let ps = p.short in
    let qs = q.short in
    record {
      stored = q.stored ∙ ap (λ (t : List ℕ). sets t i b) p.stored ∙ ap (λ (k : ℕ). sets (sets l at a) k b) p.place ∙ sym (sets_append a b l at);
      place = omega (arith, length-append a b);
      short = omega (arith, length-append a b);
    }

-- the same bytes said in another way, and a wider bound
pub said_as : {a : List ℕ} (b : List ℕ) {m : ℕ} (n : ℕ) {l l' : List ℕ} {at next : ℕ} → a ≡ b → m ≤ n → Put a m l l' at next → Put b n l l' at next
said_as {a} b {m} n {l} {l'} {at} {next} e h p =
    let q : Put b m l l' at next = subst (λ (t : List ℕ). Put t m l l' at next) e p in
    let s = q.short in
    record { stored = q.stored; place = q.place; short = omega arith }

-- a known bound of what is written
pub bounded : {a : List ℕ} {m : ℕ} (n : ℕ) {l l' : List ℕ} {at next : ℕ} → length a ≤ n → Put a m l l' at next → Put a n l l' at next
bounded n h p = record { stored = p.stored; place = p.place; short = h }

-- ---- the whole list

-- a text that there is room for, on zeros
pub room : (w : List ℕ) (long n : ℕ) (l l' : List ℕ) (count : ℕ) → l ≡ replicate n 0 → Put w long l l' 0 count → count ≤ n → l' ≡ w ++ replicate (n - count) 0
room w long n l l' count z p h =
    let c = p.place in
    let len : length l ≡ n = ap length z ∙ length-replicate n 0 in
    let fits : 0 + length w ≤ length l = omega arith in
    let e : 0 + length w ≡ count = omega arith in
    p.stored ∙ sets-eq w l 0 fits ∙ ap (λ (k : ℕ). w ++ drop k l) e ∙ ap (λ (t : List ℕ). w ++ drop count t) z ∙ ap (λ (t : List ℕ). w ++ t) (drop-same 0 n count)

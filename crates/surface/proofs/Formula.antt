-- Euler's number is unchanged by a flip or a collapse whose result is closed, and the same for every bound on the corners.
use Prim.Native.Nat.{ℕ, zero, suc, ◌+◌, ◌*◌, ◌≤◌, ◌<◌}
use mathlib.Core.Path.{◌≡◌, refl, sym, ◌∙◌, ap, ap₂}
use mathlib.Core.Logic.{◌↔◌}
use mathlib.Core.List.{List, [], ◌∷◌}
use native.Mathlib.Omega.{arith}
use native.Mathlib.Decide.{dec_lt}
use lib.ListN.{length, set, length-set, length-map}
use lib.IntN.{ℤ, pos, neg_ℤ, ◌+ℤ◌, ◌-ℤ◌, +ℤ_assoc, +ℤ_comm, +ℤ-neg_ℤ_cancel, pos-+ℤ-pos}
use Rattle.surface.specs.Triangle.{Tri, tri}
use Rattle.surface.specs.Closed.{sides, around, InUse}
use Rattle.surface.specs.Edit.{hinge, flip, without, renamed, collapse}
use Rattle.surface.specs.Euler.{sum, sign, used, edges, euler, Below, SameEuler}
use Rattle.surface.proofs.Reading.{hit, sides_cons, r0, r1, r2, here, there, spin, side-has}
use Rattle.surface.proofs.Surface.{Surface}
use Rattle.surface.proofs.Places.{length_without}
use Rattle.surface.proofs.Hinged.{hinged}
use Rattle.surface.proofs.Bridge.{in_use}
use Rattle.surface.proofs.Euler.{use_has, flip-keeps, collapse-keeps}
use Rattle.surface.proofs.Sums.{sum_cong, sum-zero, sum_beyond, square, square-add, square_cong, square_hit, square-half, sum_drop}

sign_pos : (n : ℕ) → 0 < n → sign n ≡ 1
sign_pos zero p = absurd (omega arith)
sign_pos (suc n) p = refl

sign-none : (n : ℕ) → (0 < n → ⊥) → sign n ≡ 0
sign-none zero p = refl
sign-none (suc n) p = absurd (p (omega arith))

no_sides : (n : ℕ) → square n (λ u v. sides [] u v) ≡ 0
unfolding square sides
no_sides n = sum_cong n (λ u. sum n (λ v. 0)) (λ u. 0) (λ u l. sum-zero n) ∙ sum-zero n

-- three sides to a triangle
pub all-sides : (n : ℕ) (ts : List Tri) → Below n ts → square n (λ u v. sides ts u v) ≡ 3 * length ts
all-sides n [] b = no_sides n
all-sides n (t ∷ ts) b =
    let i = b t.a (in_use {ts = t ∷ ts} (here (r0 refl refl refl))) in
    let j = b t.b (in_use {ts = t ∷ ts} (here (r1 refl refl refl))) in
    let k = b t.c (in_use {ts = t ∷ ts} (here (r2 refl refl refl))) in
    let r = all-sides n ts (λ v u. let h = use_has ts v u in b v (in_use {ts = t ∷ ts} (there h.2))) in
    let f : ℕ → ℕ → ℕ = λ u v. hit t.a t.b u v in
    let g : ℕ → ℕ → ℕ = λ u v. hit t.b t.c u v in
    let h : ℕ → ℕ → ℕ = λ u v. hit t.c t.a u v in
    omega (
      arith,
      r,
      square_cong n (λ u v. sides (t ∷ ts) u v) (λ u v. (f u v + (g u v + h u v)) + sides ts u v) (λ u v. sides_cons t ts u v),
      square-add n (λ u v. f u v + (g u v + h u v)) (λ u v. sides ts u v),
      square-add n f (λ u v. g u v + h u v),
      square-add n g h,
      square_hit n t.a t.b i j,
      square_hit n t.b t.c j k,
      square_hit n t.c t.a k i,
    )

-- in a surface, two triangles to a side
pub edges-count : {ts : List Tri} → Surface ts → (n : ℕ) → Below n ts → 2 * edges n ts ≡ 3 * length ts
edges-count {ts} s n b =
    let e = sum_cong n (λ v. sum v (λ u. sign (sides ts u v + sides ts v u))) (λ v. sum v (λ u. sides ts u v))
    (λ v l. sum_cong v (λ u. sign (sides ts u v + sides ts v u)) (λ u. sides ts u v) (λ u k. plain u v)) in
    omega (arith, square-half n (λ u v. sides ts u v) s.even loop, all-sides n ts b)
  where
    plain : (u v : ℕ) → sign (sides ts u v + sides ts v u) ≡ sides ts u v
    plain u v = pick (dec_lt 0 (sides ts u v))
      where
        pick : Dec (0 < sides ts u v) → sign (sides ts u v + sides ts v u) ≡ sides ts u v
        pick (yes p) = omega (arith, sign_pos (sides ts u v + sides ts v u) (omega arith), s.once u v)
        pick (no k) = omega (arith, sign-none (sides ts u v + sides ts v u) (λ q. omega (arith, s.even u v)))

    loop : (u : ℕ) → sides ts u u ≡ 0
    loop u = pick (dec_lt 0 (sides ts u u))
      where
        pick : Dec (0 < sides ts u u) → sides ts u u ≡ 0
        pick (yes p) = let h = side-has ts u u p in absurd (s.differ u u h.0 h.1 refl)
        pick (no k) = omega arith

-- two lists with the same corners in use
same_sign_lem : (m n : ℕ) → ((0 < m) ↔ (0 < n)) → sign m ≡ sign n
same_sign_lem m n e = pick (dec_lt 0 m)
  where
    pick : Dec (0 < m) → sign m ≡ sign n
    pick (yes p) = sign_pos m p ∙ sym (sign_pos n (e.0 p))
    pick (no k) = sign-none m k ∙ sym (sign-none n (λ q. k (e.1 q)))

module _ {ts : List Tri} (s : Surface ts) (a b : ℕ) (given : 0 < sides ts a b) (n : ℕ) (below : Below n ts) where
  pub flip-length : length (flip a b ts) ≡ length ts
  unfolding flip
  flip-length =
      let h = hinge ts a b in
      length-set (set ts h.p1 (tri h.c h.d h.v)) h.p2 (tri h.d h.c h.u) ∙ length-set ts h.p1 (tri h.c h.d h.v)

  pub flip-used : used n (flip a b ts) ≡ used n ts
  flip-used = sum_cong n (λ v. sign (length (around (flip a b ts) v))) (λ v. sign (length (around ts v)))
      (λ v l. same_sign_lem (length (around (flip a b ts) v)) (length (around ts v)) (flip-keeps s a b given v))

  pub flip-below : Below n (flip a b ts)
  flip-below v u = below v ((flip-keeps s a b given v).0 u)

  -- T5 for the flip
  pub flip-euler : Surface (flip a b ts) → SameEuler n ts (flip a b ts)
  flip-euler t = omega (arith, flip-used, flip-length, edges-count s n below, edges-count t n flip-below)

  pub collapse-length : suc (suc (length (collapse a b ts))) ≡ length ts
  unfolding collapse
  collapse-length =
      let h = hinge ts a b in
      let k = hinged s a b given in
      omega (
        arith,
        k.order,
        k.fits,
        length-map (without h.p1 (without h.p2 ts)) (renamed a b),
        length_without (without h.p2 ts) h.p1 (omega (arith, k.order, k.fits, length_without ts h.p2 k.fits)),
        length_without ts h.p2 k.fits,
      )

  b-used : InUse ts b
  b-used = let h = side-has ts a b given in in_use (spin h.1)

  pub collapse-used : used n ts ≡ suc (used n (collapse a b ts))
  collapse-used = sum_drop n b (λ v. sign (length (around ts v))) (λ v. sign (length (around (collapse a b ts) v))) (below b b-used)
      (sign_pos (length (around ts b)) b-used ∙ ap suc (sym (sign-none (length (around (collapse a b ts) b)) (λ u. ((collapse-keeps s a b given b).0 u).1 refl))))
      (λ v k. same_sign_lem (length (around ts v)) (length (around (collapse a b ts) v)) ((λ u. (collapse-keeps s a b given v).1 (u, k)), λ u. ((collapse-keeps s a b given v).0 u).0))

  pub collapse-below : Below n (collapse a b ts)
  collapse-below v u = below v ((collapse-keeps s a b given v).0 u).0

  -- T5 for the collapse
  pub collapse-euler : Surface (collapse a b ts) → SameEuler n ts (collapse a b ts)
  collapse-euler t = omega (arith, collapse-used, collapse-length, edges-count s n below, edges-count t n collapse-below)

-- ---- the number itself

last-two : (a b c : ℤ) → a +ℤ b +ℤ c ≡ a +ℤ c +ℤ b
last-two a b c = +ℤ_assoc a b c ∙ ap (λ (x : ℤ). a +ℤ x) (+ℤ_comm b c) ∙ sym (+ℤ_assoc a c b)

-- a - b = c - d, where a + d = c + b
same-difference : (a b c d : ℕ) → a + d ≡ c + b → pos a -ℤ pos b ≡ pos c -ℤ pos d
same-difference a b c d e =
    ap (λ (x : ℤ). x -ℤ pos b) (sym (+ℤ-neg_ℤ_cancel (pos a) (pos d)))
    ∙ last-two (pos a +ℤ pos d) (neg_ℤ (pos d)) (neg_ℤ (pos b))
    ∙ ap (λ (x : ℤ). x -ℤ pos b -ℤ pos d) (pos-+ℤ-pos a d ∙ ap pos e ∙ sym (pos-+ℤ-pos c b))
    ∙ ap (λ (x : ℤ). x -ℤ pos d) (+ℤ-neg_ℤ_cancel (pos c) (pos b))

pub same-euler : (n : ℕ) (ts us : List Tri) → SameEuler n ts us → euler n us ≡ euler n ts
same-euler n ts us e =
    whole us ∙ same-difference (used n us + length us) (edges n us) (used n ts + length ts) (edges n ts) e ∙ sym (whole ts)
  where
    whole : (xs : List Tri) → euler n xs ≡ pos (used n xs + length xs) -ℤ pos (edges n xs)
    whole xs = last-two (pos (used n xs)) (neg_ℤ (pos (edges n xs))) (pos (length xs)) ∙ ap (λ (x : ℤ). x -ℤ pos (edges n xs)) (pos-+ℤ-pos (used n xs) (length xs))

-- ---- any bound

module _ (ts : List Tri) (m : ℕ) (below : Below m ts) where
  unused_beyond : (v : ℕ) → m ≤ v → InUse ts v → ⊥
  unused_beyond v l u = omega (arith, below v u)

  no_side_beyond : (u v : ℕ) → m ≤ v → sign (sides ts u v + sides ts v u) ≡ 0
  no_side_beyond u v l = sign-none (sides ts u v + sides ts v u) (pick (dec_lt 0 (sides ts u v)))
    where
      pick : Dec (0 < sides ts u v) → 0 < sides ts u v + sides ts v u → ⊥
      pick (yes q) p = let h = side-has ts u v q in unused_beyond v l (in_use (spin h.1))
      pick (no k) p = let h = side-has ts v u (omega arith) in unused_beyond v l (in_use h.1)

  used_beyond : (n : ℕ) → m ≤ n → used n ts ≡ used m ts
  used_beyond n = sum_beyond m n (λ v. sign (length (around ts v))) (λ v l. sign-none (length (around ts v)) (unused_beyond v l))

  edges_beyond : (n : ℕ) → m ≤ n → edges n ts ≡ edges m ts
  edges_beyond n = sum_beyond m n (λ v. sum v (λ u. sign (sides ts u v + sides ts v u)))
      (λ v l. sum_cong v (λ u. sign (sides ts u v + sides ts v u)) (λ u. 0) (λ u k. no_side_beyond u v l) ∙ sum-zero v)

  euler_beyond : (n : ℕ) → m ≤ n → euler n ts ≡ euler m ts
  euler_beyond n l = ap₂ (λ (x y : ℕ). pos x -ℤ pos y +ℤ pos (length ts)) (used_beyond n l) (edges_beyond n l)

pub any-bound : (ts : List Tri) (m n : ℕ) → Below m ts → Below n ts → euler m ts ≡ euler n ts
any-bound ts m n b c = pick (dec_lt m n)
  where
    pick : Dec (m < n) → euler m ts ≡ euler n ts
    pick (yes l) = sym (euler_beyond ts m b n (omega arith))
    pick (no k) = euler_beyond ts n c m (omega arith)

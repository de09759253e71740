-- The collapse on a list that starts with the two triangles of the side: it keeps a and removes b.
use Prim.Native.Nat.{ℕ, zero, suc, ◌+◌, ◌≤◌, ◌<◌}
use mathlib.Core.Path.{◌≡◌, refl, sym, ◌∙◌, ap, subst}
use mathlib.Core.Logic.{◌↔◌, ◌⊎◌, inl, inr}
use mathlib.Core.List.{List, map}
use native.Mathlib.Omega.{arith}
use native.Mathlib.Decide.{ℕ_discrete, dec_le}
use Rattle.surface.specs.Triangle.{Tri}
use Rattle.surface.specs.Laws.{FourDiffer}
use Rattle.surface.specs.Closed.{sides}
use Rattle.surface.specs.Edit.{put, renamed}
use Rattle.surface.proofs.Reading.{hit, hit_yes, hit_no, r0, r1, r2, Has, here, there, spin, has-eq, has-side, side-has}
use Rattle.surface.proofs.Surface.{Reach, stop, go, reach_trans, reach_eq, Surface, differ2, differ3, next_of, mid_of}
use Rattle.surface.proofs.FlipCore.{before, before-sides, six, one-there, two-there}
use Rattle.surface.proofs.Rename.{put-at, put-off, put_back, put-to-a, put_not_b, put_a, sides-else, sides-from-a, sides-to-a, has-put, Source, source, gone-from}

-- A ring about w, cut open at o, which lies between e and f; every step that does not touch o is a step of M about m.
module _ {O : List Tri} (s : Surface O) (M : List Tri) (w o e f m : ℕ) (he : Has w e o O) (hf : Has w o f O)
    (over : (x y : ℕ) → (x ≡ o → ⊥) → (y ≡ o → ⊥) → Has w x y O → Has m x y M) where
  pub to_end : {x y : ℕ} → y ≡ o → (x ≡ o → ⊥) → Reach O w x y → Reach M m x e
  to_end p n (stop q) = absurd (n (q ∙ p))
  to_end p n (go {x = x} {y = y} h r) = pick (ℕ_discrete y o) (λ k. to_end p k r)
    where
      pick : Dec (y ≡ o) → ((y ≡ o → ⊥) → Reach M m y e) → Reach M m x e
      pick (yes q) k = stop (mid_of s (has-eq refl refl q h) he)
      pick (no k) l = go (over x y n k h) (l k)

  pub from_start : {x y : ℕ} → (y ≡ o → ⊥) → Reach O w x y → (Reach M m f y) ⊎ ((x ≡ o → ⊥) × Reach M m x y)
  from_start n (stop q) = inr ((λ k. n (sym q ∙ k)), stop q)
  from_start n (go {x = x} {y = y} {z = z} h r) = pick (from_start n r) (ℕ_discrete x o)
    where
      pick : (Reach M m f z) ⊎ ((y ≡ o → ⊥) × Reach M m y z) → Dec (x ≡ o) → (Reach M m f z) ⊎ ((x ≡ o → ⊥) × Reach M m x z)
      pick (inl k) d = inl k
      pick (inr k) (yes q) = inl (reach_eq refl (next_of s (has-eq refl q refl h) hf) refl k.1)
      pick (inr k) (no i) = inr (i, go (over x y i k.0 h) k.1)

  -- from o itself, whose step leads to f
  pub onward : {y : ℕ} → (y ≡ o → ⊥) → Reach O w o y → Reach M m f y
  onward {y} n r = pick (from_start n r)
    where
      pick : (Reach M m f y) ⊎ ((o ≡ o → ⊥) × Reach M m o y) → Reach M m f y
      pick (inl k) = k
      pick (inr k) = absurd (k.0 refl)

module _ (a b c d : ℕ) (rest : List Tri) (s : Surface (before a b c d rest)) where
  abbrev O : List Tri
  O = before a b c d rest

  abbrev M : List Tri
  M = map (renamed a b) rest

  up : {x y z : ℕ} → Has x y z rest → Has x y z O
  up h = there (there h)

  kit : FourDiffer a b c d
  kit = six a b c d rest s

  no_ab : {z : ℕ} → Has a b z rest → ⊥
  no_ab h = omega (arith, before-sides a b c d rest a b, hit_yes a b a b refl refl, has-side h, s.once a b)

  no_ba : {z : ℕ} → Has b a z rest → ⊥
  no_ba h = omega (arith, before-sides a b c d rest b a, hit_yes b a b a refl refl, has-side h, s.once b a)

  no_ad : {z : ℕ} → Has a d z rest → ⊥
  no_ad h = omega (arith, before-sides a b c d rest a d, hit_yes a d a d refl refl, has-side h, s.once a d)

  differ_M : (x y z : ℕ) → Has x y z M → x ≡ y → ⊥
  differ_M x y z h e = pick (source a b rest h)
    where
      pick : Source a b rest x y z → ⊥
      pick k = each (ℕ_discrete k.x0 b) (ℕ_discrete k.y0 b)
        where
          each : Dec (k.x0 ≡ b) → Dec (k.y0 ≡ b) → ⊥
          each (yes p) (yes q) = s.differ k.x0 k.y0 k.z0 (up k.was) (p ∙ sym q)
          each (yes p) (no q) = no_ba (has-eq p (sym (put-off a b k.y0 q) ∙ k.ey ∙ sym e ∙ sym k.ex ∙ put-at a b k.x0 p) refl k.was)
          each (no p) (yes q) = no_ab (has-eq (sym (put-off a b k.x0 p) ∙ k.ex ∙ e ∙ sym k.ey ∙ put-at a b k.y0 q) q refl k.was)
          each (no p) (no q) = s.differ k.x0 k.y0 k.z0 (up k.was) (sym (put-off a b k.x0 p) ∙ k.ex ∙ e ∙ sym k.ey ∙ put-off a b k.y0 q)

  -- how often the sides at a, at b and elsewhere occur in the rest
  module _ (q : ℕ) (qa : q ≡ a → ⊥) (qb : q ≡ b → ⊥) where
    ra : sides O a q ≡ hit a d a q + sides rest a q
    ra = omega (
      arith,
      before-sides a b c d rest a q,
      hit_no a b a q (inr λ k. qb (sym k)),
      hit_no b c a q (inl λ k. kit.uv (sym k)),
      hit_no c a a q (inr λ k. qa (sym k)),
      hit_no b a a q (inr λ k. qa (sym k)),
      hit_no d b a q (inr λ k. qb (sym k)),
    )

    rb : sides O b q ≡ hit b c b q + sides rest b q
    rb = omega (
      arith,
      before-sides a b c d rest b q,
      hit_no a b b q (inl kit.uv),
      hit_no c a b q (inr λ k. qa (sym k)),
      hit_no b a b q (inr λ k. qa (sym k)),
      hit_no a d b q (inl kit.uv),
      hit_no d b b q (inr λ k. qb (sym k)),
    )

    ar : sides O q a ≡ hit c a q a + sides rest q a
    ar = omega (
      arith,
      before-sides a b c d rest q a,
      hit_no a b q a (inl λ k. qa (sym k)),
      hit_no b c q a (inl λ k. qb (sym k)),
      hit_no b a q a (inl λ k. qb (sym k)),
      hit_no a d q a (inl λ k. qa (sym k)),
      hit_no d b q a (inr λ k. kit.uv (sym k)),
    )

    br : sides O q b ≡ hit d b q b + sides rest q b
    br = omega (
      arith,
      before-sides a b c d rest q b,
      hit_no a b q b (inl λ k. qa (sym k)),
      hit_no b c q b (inl λ k. qb (sym k)),
      hit_no c a q b (inr kit.uv),
      hit_no b a q b (inl λ k. qb (sym k)),
      hit_no a d q b (inl λ k. qa (sym k)),
    )

    spoke_d : hit a d a q ≡ hit d b q b
    spoke_d = pick (ℕ_discrete d q)
      where
        pick : Dec (d ≡ q) → hit a d a q ≡ hit d b q b
        pick (yes e) = hit_yes a d a q refl e ∙ sym (hit_yes d b q b e refl)
        pick (no n) = hit_no a d a q (inr n) ∙ sym (hit_no d b q b (inl n))

    spoke_c : hit b c b q ≡ hit c a q a
    spoke_c = pick (ℕ_discrete c q)
      where
        pick : Dec (c ≡ q) → hit b c b q ≡ hit c a q a
        pick (yes e) = hit_yes b c b q refl e ∙ sym (hit_yes c a q a e refl)
        pick (no n) = hit_no b c b q (inr n) ∙ sym (hit_no c a q a (inl n))

    even_a : sides M a q ≡ sides M q a
    even_a = omega (arith, ra, rb, ar, br, spoke_d, spoke_c, s.even a q, s.even b q, sides-from-a a b kit.uv rest q qa qb, sides-to-a a b kit.uv rest q qa qb)

  none_aa : sides M a a ≡ 0
  none_aa = pick (sides M a a) refl
    where
      pick : (n : ℕ) → sides M a a ≡ n → sides M a a ≡ 0
      pick zero e = e
      pick (suc n) e = let h = side-has M a a (omega arith) in absurd (differ_M a a h.0 h.1 refl)

  gone-to : (q : ℕ) → sides M q b ≡ 0
  gone-to q = pick (sides M q b) refl
    where
      pick : (n : ℕ) → sides M q b ≡ n → sides M q b ≡ 0
      pick zero e = e
      pick (suc n) e = let h = side-has M q b (omega arith) in let k = source a b rest h.1 in absurd (put_not_b a b kit.uv k.y0 k.ey)

  else-else : (p q : ℕ) → (p ≡ a → ⊥) → (p ≡ b → ⊥) → (q ≡ a → ⊥) → (q ≡ b → ⊥) → sides M p q ≡ sides O p q
  else-else p q pa pb qa qb = omega (
    arith,
    sides-else a b kit.uv rest p q pa pb qa qb,
    before-sides a b c d rest p q,
    hit_no a b p q (inl λ k. pa (sym k)),
    hit_no b c p q (inl λ k. pb (sym k)),
    hit_no c a p q (inr λ k. qa (sym k)),
    hit_no b a p q (inl λ k. pb (sym k)),
    hit_no a d p q (inl λ k. pa (sym k)),
    hit_no d b p q (inr λ k. qb (sym k)),
  )

  even_M : (p q : ℕ) → sides M p q ≡ sides M q p
  even_M p q = pick (ℕ_discrete p b) (ℕ_discrete q b) (ℕ_discrete p a) (ℕ_discrete q a)
    where
      pick : Dec (p ≡ b) → Dec (q ≡ b) → Dec (p ≡ a) → Dec (q ≡ a) → sides M p q ≡ sides M q p
      pick (yes e) j k l = rw e (gone-from a b kit.uv rest q ∙ sym (gone-to q))
      pick (no i) (yes e) k l = rw e (gone-to p ∙ sym (gone-from a b kit.uv rest p))
      pick (no i) (no j) (yes e) (yes f) = ap (λ (n : ℕ). sides M n q) (e ∙ sym f) ∙ ap (λ (n : ℕ). sides M q n) (f ∙ sym e)
      pick (no i) (no j) (yes e) (no l) = rw e (even_a q l j)
      pick (no i) (no j) (no k) (yes f) = rw f (sym (even_a p k i))
      pick (no i) (no j) (no k) (no l) = else-else p q k i l j ∙ s.even p q ∙ sym (else-else q p l j k i)

  -- the steps about a that do not touch b, and those about b that do not touch a, are steps about a afterwards
  over-a : (x y : ℕ) → (x ≡ b → ⊥) → (y ≡ b → ⊥) → Has a x y O → Has a x y M
  over-a x y n m (here (r0 p q r)) = absurd (n (sym q))
  over-a x y n m (here (r1 p q r)) = absurd (kit.uv (sym p))
  over-a x y n m (here (r2 p q r)) = absurd (kit.cu p)
  over-a x y n m (there (here (r0 p q r))) = absurd (kit.uv (sym p))
  over-a x y n m (there (here (r1 p q r))) = absurd (m (sym r))
  over-a x y n m (there (here (r2 p q r))) = absurd (kit.ud (sym p))
  over-a x y n m (there (there h)) = has-eq (put_a a b kit.uv) (put-off a b x n) (put-off a b y m) (has-put a b h)

  over-b : (x y : ℕ) → (x ≡ a → ⊥) → (y ≡ a → ⊥) → Has b x y O → Has a x y M
  over-b x y n m (here (r0 p q r)) = absurd (kit.uv p)
  over-b x y n m (here (r1 p q r)) = absurd (m (sym r))
  over-b x y n m (here (r2 p q r)) = absurd (kit.vc (sym p))
  over-b x y n m (there (here (r0 p q r))) = absurd (n (sym q))
  over-b x y n m (there (here (r1 p q r))) = absurd (kit.uv p)
  over-b x y n m (there (here (r2 p q r))) = absurd (kit.dv p)
  over-b x y n m (there (there h)) =
      has-eq (put-at a b b refl) (put-off a b x (λ k. s.differ b x y (up h) (sym k))) (put-off a b y (λ k. differ3 s (up h) k)) (has-put a b h)

  -- a neighbour of a afterwards was one of a, other than b, or one of b, other than a
  from_where : {x : ℕ} → 0 < sides M a x → ((0 < sides O a x) × (x ≡ b → ⊥)) ⊎ ((0 < sides O b x) × (x ≡ a → ⊥))
  from_where {x} p = let h = side-has M a x p in pick (source a b rest h.1)
    where
      pick : {z : ℕ} → Source a b rest a x z → ((0 < sides O a x) × (x ≡ b → ⊥)) ⊎ ((0 < sides O b x) × (x ≡ a → ⊥))
      pick k = each (put-to-a a b k.x0 k.ex)
        where
          each : (k.x0 ≡ a) ⊎ (k.x0 ≡ b) → ((0 < sides O a x) × (x ≡ b → ⊥)) ⊎ ((0 < sides O b x) × (x ≡ a → ⊥))
          each (inl e) =
              let n : k.y0 ≡ b → ⊥ = λ f. no_ab (has-eq e f refl k.was) in
              let g = sym (put-off a b k.y0 n) ∙ k.ey in
              inl (has-side (has-eq e g refl (up k.was)), λ f. n (g ∙ f))
          each (inr e) =
              let n : k.y0 ≡ b → ⊥ = λ f. s.differ k.x0 k.y0 k.z0 (up k.was) (e ∙ sym f) in
              let g = sym (put-off a b k.y0 n) ∙ k.ey in
              inr (has-side (has-eq e g refl (up k.was)), λ f. no_ba (has-eq e (g ∙ f) refl k.was))

  one-abc : Has a b c O
  one-abc = one-there a b c d rest

  two_bad : Has b a d O
  two_bad = two-there a b c d rest

  leave_a : {x : ℕ} → (x ≡ b → ⊥) → 0 < sides O a x → Reach M a x d
  leave_a {x} n p = to_end s M a b d c a (spin two_bad) one-abc over-a refl n (s.joined a x b p (has-side one-abc))

  leave_b : {x : ℕ} → (x ≡ a → ⊥) → 0 < sides O b x → Reach M a x c
  leave_b {x} n p = to_end s M b a c d a (spin one-abc) two_bad over-b refl n (s.joined b x a p (has-side two_bad))

  enter_a : {y : ℕ} → (y ≡ b → ⊥) → 0 < sides O a y → Reach M a c y
  enter_a {y} n p = onward s M a b d c a (spin two_bad) one-abc over-a n (s.joined a b y (has-side one-abc) p)

  enter_b : {y : ℕ} → (y ≡ a → ⊥) → 0 < sides O b y → Reach M a d y
  enter_b {y} n p = onward s M b a c d a (spin one-abc) two_bad over-b n (s.joined b a y (has-side two_bad) p)

  d-to-c : Reach M a d c
  d-to-c = enter_b kit.cu (has-side (spin one-abc))

  c-to-d : Reach M a c d
  c-to-d = enter_a kit.dv (has-side (spin two_bad))

  joined-a : (x y : ℕ) → 0 < sides M a x → 0 < sides M a y → Reach M a x y
  joined-a x y p q = pick (from_where p) (from_where q)
    where
      pick : ((0 < sides O a x) × (x ≡ b → ⊥)) ⊎ ((0 < sides O b x) × (x ≡ a → ⊥)) → ((0 < sides O a y) × (y ≡ b → ⊥)) ⊎ ((0 < sides O b y) × (y ≡ a → ⊥)) → Reach M a x y
      pick (inl i) (inl j) = reach_trans (leave_a i.1 i.0) (reach_trans d-to-c (enter_a j.1 j.0))
      pick (inl i) (inr j) = reach_trans (leave_a i.1 i.0) (enter_b j.1 j.0)
      pick (inr i) (inl j) = reach_trans (leave_b i.1 i.0) (enter_a j.1 j.0)
      pick (inr i) (inr j) = reach_trans (leave_b i.1 i.0) (reach_trans c-to-d (enter_b j.1 j.0))

  -- about any other corner the steps are renamed, and those of the two triangles shrink to nothing
  module _ (w : ℕ) (wa : w ≡ a → ⊥) (wb : w ≡ b → ⊥) where
    shrink : {x y z : ℕ} → Has w x y O → Reach M w (put a b y) z → Reach M w (put a b x) z
    shrink (here (r0 p q r)) k = absurd (wa (sym p))
    shrink (here (r1 p q r)) k = absurd (wb (sym p))
    shrink {x} {y} (here (r2 p q r)) k = reach_eq refl (put-at a b y (sym r) ∙ sym (put_a a b kit.uv) ∙ ap (put a b) q) refl k
    shrink (there (here (r0 p q r))) k = absurd (wb (sym p))
    shrink (there (here (r1 p q r))) k = absurd (wa (sym p))
    shrink {x} {y} (there (here (r2 p q r))) k = reach_eq refl (ap (put a b) (sym r) ∙ put_a a b kit.uv ∙ sym (put-at a b x (sym q))) refl k
    shrink (there (there h)) k = go (has-eq (put-off a b w wb) refl refl (has-put a b h)) k

    walk_w : {x y : ℕ} → Reach O w x y → Reach M w (put a b x) (put a b y)
    walk_w (stop e) = stop (ap (put a b) e)
    walk_w (go h r) = shrink h (walk_w r)

    origin : (x : ℕ) → 0 < sides M w x → (x0 : ℕ) × (0 < sides O w x0) × (put a b x0 ≡ x)
    origin x p =
        let h = side-has M w x p in
        let k = source a b rest h.1 in
        (k.y0, has-side (has-eq (put_back a b k.x0 w k.ex wa) refl refl (up k.was)), k.ey)

    joined_w : (x y : ℕ) → 0 < sides M w x → 0 < sides M w y → Reach M w x y
    joined_w x y p q =
        let i = origin x p in
        let j = origin y q in
        reach_eq refl i.2 j.2 (walk_w (s.joined w i.0 j.0 i.1 j.1))

  joined_M : (w x y : ℕ) → 0 < sides M w x → 0 < sides M w y → Reach M w x y
  joined_M w x y p q = pick (ℕ_discrete w a) (ℕ_discrete w b)
    where
      pick : Dec (w ≡ a) → Dec (w ≡ b) → Reach M w x y
      pick (yes e) j =
          reach_eq (sym e) refl refl (joined-a x y (subst (λ (n : ℕ). 0 < sides M n x) e p) (subst (λ (n : ℕ). 0 < sides M n y) e q))
      pick (no i) (yes e) = absurd (omega (arith, gone-from a b kit.uv rest x, subst (λ (n : ℕ). 0 < sides M n x) e p))
      pick (no i) (no j) = joined_w w i j x y p q

  -- the two conditions
  module _ (common : (e : ℕ) → 0 < sides O a e → 0 < sides O b e → (e ≡ c) ⊎ (e ≡ d)) where
    once-a : (q : ℕ) → (q ≡ a → ⊥) → (q ≡ b → ⊥) → sides M a q ≤ 1
    once-a q qa qb = pick (dec_le (sides M a q) 1)
      where
        f : sides M a q ≡ sides rest a q + sides rest b q
        f = sides-from-a a b kit.uv rest q qa qb

        each : (q ≡ c) ⊎ (q ≡ d) → sides M a q ≤ 1
        each (inl e) = omega (arith, f, ra q qa qb, rb q qa qb, hit_yes b c b q refl (sym e), s.once a q, s.once b q)
        each (inr e) = omega (arith, f, ra q qa qb, rb q qa qb, hit_yes a d a q refl (sym e), s.once a q, s.once b q)

        pick : Dec (sides M a q ≤ 1) → sides M a q ≤ 1
        pick (yes l) = l
        pick (no n) = each (common q (omega (arith, f, ra q qa qb, rb q qa qb, s.once a q, s.once b q)) (omega (arith, f, ra q qa qb, rb q qa qb, s.once a q, s.once b q)))

    once_M : (p q : ℕ) → sides M p q ≤ 1
    once_M p q = pick (ℕ_discrete p b) (ℕ_discrete q b) (ℕ_discrete p a) (ℕ_discrete q a)
      where
        pick : Dec (p ≡ b) → Dec (q ≡ b) → Dec (p ≡ a) → Dec (q ≡ a) → sides M p q ≤ 1
        pick (yes e) j k l = rw e (omega (arith, gone-from a b kit.uv rest q))
        pick (no i) (yes e) k l = rw e (omega (arith, gone-to p))
        pick (no i) (no j) (yes e) (yes f) = rw (e, f) (omega (arith, none_aa))
        pick (no i) (no j) (yes e) (no l) = rw e (once-a q l j)
        pick (no i) (no j) (no k) (yes f) = rw f (omega (arith, once-a p k i, even_a p k i))
        pick (no i) (no j) (no k) (no l) = omega (arith, else-else p q k i l j, s.once p q)

    module _ (solid : Has a c d O → Has b d c O → ⊥) where
      no_lid : (y z : ℕ) → Has a y z rest → Has b z y rest → ⊥
      no_lid y z h k = pick (common y (has-side (up h)) (omega (arith, s.even b y, has-side (spin (spin (up k)))))) (common z (omega (arith, s.even a z, has-side (spin (spin (up h))))) (has-side (up k)))
        where
          pick : (y ≡ c) ⊎ (y ≡ d) → (z ≡ c) ⊎ (z ≡ d) → ⊥
          pick (inl e) (inl f) = differ2 s (up h) (e ∙ sym f)
          pick (inl e) (inr f) = solid (has-eq refl e f (up h)) (has-eq refl f e (up k))
          pick (inr e) g = no_ad (has-eq refl e refl h)

      apart-a : (y z : ℕ) → Has a y z M → Has a z y M → ⊥
      apart-a y z h l = pick (source a b rest h) (source a b rest l)
        where
          ya : y ≡ a → ⊥
          ya e = differ_M a y z h (sym e)

          za : z ≡ a → ⊥
          za e = differ_M a z y l (sym e)

          pick : Source a b rest a y z → Source a b rest a z y → ⊥
          pick j k = each (put-to-a a b j.x0 j.ex) (put-to-a a b k.x0 k.ex)
            where
              hj : {x : ℕ} → j.x0 ≡ x → Has x y z rest
              hj e = has-eq e (put_back a b j.y0 y j.ey ya) (put_back a b j.z0 z j.ez za) j.was

              hk : {x : ℕ} → k.x0 ≡ x → Has x z y rest
              hk e = has-eq e (put_back a b k.y0 z k.ey za) (put_back a b k.z0 y k.ez ya) k.was

              each : (j.x0 ≡ a) ⊎ (j.x0 ≡ b) → (k.x0 ≡ a) ⊎ (k.x0 ≡ b) → ⊥
              each (inl e) (inl f) = s.apart a y z (up (hj e)) (up (hk f))
              each (inl e) (inr f) = no_lid y z (hj e) (hk f)
              each (inr e) (inl f) = no_lid z y (hk f) (hj e)
              each (inr e) (inr f) = s.apart b y z (up (hj e)) (up (hk f))

      apart_M : (x y z : ℕ) → Has x y z M → Has x z y M → ⊥
      apart_M x y z h l = pick (ℕ_discrete x a) (ℕ_discrete y a) (ℕ_discrete z a)
        where
          pick : Dec (x ≡ a) → Dec (y ≡ a) → Dec (z ≡ a) → ⊥
          pick (yes e) j k = apart-a y z (has-eq e refl refl h) (has-eq e refl refl l)
          pick (no i) (yes e) k = apart-a z x (has-eq e refl refl (spin h)) (has-eq e refl refl (spin (spin l)))
          pick (no i) (no j) (yes e) = apart-a x y (has-eq e refl refl (spin (spin h))) (has-eq e refl refl (spin l))
          pick (no i) (no j) (no k) = s.apart x y z (up (back (source a b rest h) i j k)) (up (back (source a b rest l) i k j))
            where
              back : {x y z : ℕ} → Source a b rest x y z → (x ≡ a → ⊥) → (y ≡ a → ⊥) → (z ≡ a → ⊥) → Has x y z rest
              back {x} {y} {z} t i j k = has-eq (put_back a b t.x0 x t.ex i) (put_back a b t.y0 y t.ey j) (put_back a b t.z0 z t.ez k) t.was

      pub collapsed : Surface (map (renamed a b) rest)
      collapsed = record { differ = differ_M; once = once_M; even = even_M; joined = joined_M; apart = apart_M }

  pub common-needed : Surface (map (renamed a b) rest) → (e : ℕ) → 0 < sides (before a b c d rest) a e → 0 < sides (before a b c d rest) b e → (e ≡ c) ⊎ (e ≡ d)
  common-needed t e p q = pick (ℕ_discrete e c) (ℕ_discrete e d)
    where
      ea : e ≡ a → ⊥
      ea k = let h = side-has O a e p in s.differ a e h.0 h.1 (sym k)

      eb : e ≡ b → ⊥
      eb k = let h = side-has O b e q in s.differ b e h.0 h.1 (sym k)

      pick : Dec (e ≡ c) → Dec (e ≡ d) → (e ≡ c) ⊎ (e ≡ d)
      pick (yes f) j = inl f
      pick (no i) (yes f) = inr f
      pick (no i) (no j) = absurd (omega (
        arith,
        t.once a e,
        sides-from-a a b kit.uv rest e ea eb,
        ra e ea eb,
        rb e ea eb,
        hit_no a d a e (inr λ k. j (sym k)),
        hit_no b c b e (inr λ k. i (sym k)),
      ))

  pub solid_needed : Surface (map (renamed a b) rest) → Has a c d (before a b c d rest) → Has b d c (before a b c d rest) → ⊥
  solid_needed t h k = t.apart a c d (over-a c d (λ e. kit.vc (sym e)) kit.dv h) (over-b d c (λ e. kit.ud (sym e)) kit.cu k)

  pub collapse_core : Surface (map (renamed a b) rest)
      ↔ (((e : ℕ) → 0 < sides (before a b c d rest) a e → 0 < sides (before a b c d rest) b e → (e ≡ c) ⊎ (e ≡ d))
      × (Has a c d (before a b c d rest) → Has b d c (before a b c d rest) → ⊥))
  collapse_core = ((λ t. (common-needed t, solid_needed t)), λ k. collapsed k.0 k.1)

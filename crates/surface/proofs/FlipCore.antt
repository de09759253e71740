-- The flip on a list that starts with the two triangles of the side.
use Prim.Native.Nat.{ℕ, ◌+◌, ◌≤◌, ◌<◌}
use mathlib.Core.Path.{◌≡◌, refl, sym, ◌∙◌, subst}
use mathlib.Core.Logic.{◌↔◌, ◌⊎◌, inl, inr}
use mathlib.Core.List.{List, ◌∷◌}
use native.Mathlib.Omega.{arith}
use native.Mathlib.Decide.{ℕ_discrete}
use Rattle.surface.specs.Triangle.{Tri, tri}
use Rattle.surface.specs.Laws.{FourDiffer}
use Rattle.surface.specs.Closed.{sides}
use Rattle.surface.proofs.Reading.{hit, Hit, same, first, second, view, hit_yes, hit_no, hit_swap, Reads, r0, r1, r2, Has, here, there, spin, has-eq, has-side, side-has, sides_cons}
use Rattle.surface.proofs.Surface.{Reach, stop, go, reach_trans, reach_eq, reach_map, Surface, alike_swap, surface_alike, differ2, differ3, next_of, mid_of}

abbrev pub before : (u v c d : ℕ) → List Tri → List Tri
before u v c d rest = tri u v c ∷ tri v u d ∷ rest

abbrev pub after : (u v c d : ℕ) → List Tri → List Tri
after u v c d rest = tri c d v ∷ tri d c u ∷ rest

pub one-there : (u v c d : ℕ) (rest : List Tri) → Has u v c (before u v c d rest)
one-there u v c d rest = here (r0 refl refl refl)

pub two-there : (u v c d : ℕ) (rest : List Tri) → Has v u d (before u v c d rest)
two-there u v c d rest = there (here (r0 refl refl refl))

pub six : (u v c d : ℕ) (rest : List Tri) → Surface (before u v c d rest) → FourDiffer u v c d
six u v c d rest s = record {
  uv = s.differ u v c (one-there u v c d rest);
  vc = differ2 s (one-there u v c d rest);
  cu = differ3 s (one-there u v c d rest);
  ud = differ2 s (two-there u v c d rest);
  dv = differ3 s (two-there u v c d rest);
  cd = λ e. s.apart u v c (one-there u v c d rest) (has-eq refl (sym e) refl (spin (two-there u v c d rest)));
}

pub before-sides : (u v c d : ℕ) (rest : List Tri) (p q : ℕ)
    → sides (before u v c d rest) p q ≡ hit u v p q + (hit v c p q + hit c u p q) + (hit v u p q + (hit u d p q + hit d v p q) + sides rest p q)
before-sides u v c d rest p q = omega (arith, sides_cons (tri u v c) (tri v u d ∷ rest) p q, sides_cons (tri v u d) rest p q)

pub change : (u v c d : ℕ) (rest : List Tri) (p q : ℕ)
    → sides (after u v c d rest) p q + (hit u v p q + hit v u p q) ≡ sides (before u v c d rest) p q + (hit c d p q + hit d c p q)
change u v c d rest p q = omega (arith, before-sides u v c d rest p q, sides_cons (tri c d v) (tri d c u ∷ rest) p q, sides_cons (tri d c u) rest p q)

module _ (u v c d : ℕ) (rest : List Tri) (s : Surface (before u v c d rest)) where
  -- a reading of the rest reads no side of the two triangles
  rest-uv : {z : ℕ} → Has u v z rest → ⊥
  rest-uv h = omega (arith, before-sides u v c d rest u v, hit_yes u v u v refl refl, has-side h, s.once u v)

  -- the steps around u that do not touch v
  at-u : {x y : ℕ} → (x ≡ v → ⊥) → (y ≡ v → ⊥) → Has u x y (before u v c d rest) → Has u x y rest
  at-u n m (here (r0 p q r)) = absurd (n (sym q))
  at-u n m (here (r1 p q r)) = absurd ((six u v c d rest s).uv (sym p))
  at-u n m (here (r2 p q r)) = absurd ((six u v c d rest s).cu p)
  at-u n m (there (here (r0 p q r))) = absurd ((six u v c d rest s).uv (sym p))
  at-u n m (there (here (r1 p q r))) = absurd (m (sym r))
  at-u n m (there (here (r2 p q r))) = absurd ((six u v c d rest s).ud (sym p))
  at-u n m (there (there h)) = h

  record Walk (x y : ℕ) : Type 0 where
    off : (x ≡ v → ⊥) → Reach (after u v c d rest) u x y
    on : x ≡ v → Reach (after u v c d rest) u c y

  walk : {x y : ℕ} → (y ≡ v → ⊥) → Reach (before u v c d rest) u x y → Walk x y
  walk n (stop e) = record { off = λ m. stop e; on = λ m. absurd (n (sym e ∙ m)) }
  walk n (go {x = x} {y = y} {z = z} h r) = pick (ℕ_discrete y v) (walk n r)
    where
      pick : Dec (y ≡ v) → Walk y z → Walk x z
      pick (yes e) w = record {
        off = λ m. go (there (here (r2 refl (mid_of s (spin (two-there u v c d rest)) (has-eq refl refl e h)) refl))) (w.on e);
        on = λ m. absurd (differ2 s h (m ∙ sym e));
      }
      pick (no n) w = record {
        off = λ m. go (there (there (at-u m n h))) (w.off n);
        on = λ m. reach_eq refl (next_of s (has-eq refl m refl h) (one-there u v c d rest)) refl (w.off n);
      }

  -- the neighbours of u afterwards were neighbours before, and none is v
  left-u : {x : ℕ} → 0 < sides (after u v c d rest) u x → (0 < sides (before u v c d rest) u x) × (x ≡ v → ⊥)
  left-u {x} p = let h = side-has (after u v c d rest) u x p in pick h.1
    where
      pick : {z : ℕ} → Has u x z (after u v c d rest) → (0 < sides (before u v c d rest) u x) × (x ≡ v → ⊥)
      pick (here (r0 p q r)) = absurd ((six u v c d rest s).cu p)
      pick (here (r1 p q r)) = absurd ((six u v c d rest s).ud (sym p))
      pick (here (r2 p q r)) = absurd ((six u v c d rest s).uv (sym p))
      pick (there (here (r0 p q r))) = absurd ((six u v c d rest s).ud (sym p))
      pick (there (here (r1 p q r))) = absurd ((six u v c d rest s).cu p)
      pick (there (here (r2 p q r))) = (has-side (has-eq refl q refl (spin (two-there u v c d rest))), λ e. (six u v c d rest s).dv (q ∙ e))
      pick (there (there h)) = (has-side (there {t = tri u v c} (there {t = tri v u d} h)), λ e. rest-uv (has-eq refl e refl h))

  pub joined-u : (x y : ℕ) → 0 < sides (after u v c d rest) u x → 0 < sides (after u v c d rest) u y → Reach (after u v c d rest) u x y
  joined-u x y p q = let (p', n) = left-u p in let (q', m) = left-u q in (walk m (s.joined u x y p' q')).off n

  -- around c the step from u to v becomes two, by d
  at_c : {x y z : ℕ} → Has c x y (before u v c d rest) → Reach (after u v c d rest) c y z → Reach (after u v c d rest) c x z
  at_c (here (r0 p q r)) k = absurd ((six u v c d rest s).cu (sym p))
  at_c (here (r1 p q r)) k = absurd ((six u v c d rest s).vc p)
  at_c (here (r2 p q r)) k = go (there (here (r1 refl q refl))) (go (here (r0 refl refl r)) k)
  at_c (there (here (r0 p q r))) k = absurd ((six u v c d rest s).vc p)
  at_c (there (here (r1 p q r))) k = absurd ((six u v c d rest s).cu (sym p))
  at_c (there (here (r2 p q r))) k = absurd ((six u v c d rest s).cd (sym p))
  at_c (there (there h)) k = go (there (there h)) k

  walk-c : {x y : ℕ} → Reach (before u v c d rest) c x y → Reach (after u v c d rest) c x y
  walk-c (stop e) = stop e
  walk-c (go h r) = at_c h (walk-c r)

  left-c : {x : ℕ} → 0 < sides (after u v c d rest) c x → (0 < sides (before u v c d rest) c x) ⊎ (x ≡ d)
  left-c {x} p = let h = side-has (after u v c d rest) c x p in pick h.1
    where
      pick : {z : ℕ} → Has c x z (after u v c d rest) → (0 < sides (before u v c d rest) c x) ⊎ (x ≡ d)
      pick (here (r0 p q r)) = inr (sym q)
      pick (here (r1 p q r)) = absurd ((six u v c d rest s).cd (sym p))
      pick (here (r2 p q r)) = absurd ((six u v c d rest s).vc p)
      pick (there (here (r0 p q r))) = absurd ((six u v c d rest s).cd (sym p))
      pick (there (here (r1 p q r))) = inl (has-side (has-eq refl q refl (spin (spin (one-there u v c d rest)))))
      pick (there (here (r2 p q r))) = absurd ((six u v c d rest s).cu (sym p))
      pick (there (there h)) = inl (has-side (there {t = tri u v c} (there {t = tri v u d} h)))

  pub joined-c : (x y : ℕ) → 0 < sides (after u v c d rest) c x → 0 < sides (after u v c d rest) c y → Reach (after u v c d rest) c x y
  joined-c x y p q = pick (left-c p) (left-c q)
    where
      cu : 0 < sides (before u v c d rest) c u
      cu = has-side (spin (spin (one-there u v c d rest)))

      cv : 0 < sides (before u v c d rest) c v
      cv = omega (arith, s.even c v, has-side (spin (one-there u v c d rest)))

      pick : (0 < sides (before u v c d rest) c x) ⊎ (x ≡ d) → (0 < sides (before u v c d rest) c y) ⊎ (y ≡ d) → Reach (after u v c d rest) c x y
      pick (inl i) (inl j) = walk-c (s.joined c x y i j)
      pick (inl i) (inr e) = reach_trans (walk-c (s.joined c x u i cu)) (go (there (here (r1 refl refl refl))) (stop (sym e)))
      pick (inr e) (inl j) = go (here (r0 refl (sym e) refl)) (walk-c (s.joined c v y cv j))
      pick (inr e) (inr f) = stop (e ∙ sym f)

-- a triangle that reads x y z, and a list that reads it turned over
pub opposed : {p q r x y z : ℕ} {ts : List Tri} → Reads (tri p q r) x y z → Has x z y ts → Has q p r ts
opposed (r0 e f g) h = has-eq (sym f) (sym e) (sym g) (spin (spin h))
opposed (r1 e f g) h = has-eq (sym e) (sym g) (sym f) h
opposed (r2 e f g) h = has-eq (sym g) (sym f) (sym e) (spin h)

clash : {u v c d x y z : ℕ} → (v ≡ c → ⊥) → (d ≡ v → ⊥) → (u ≡ v → ⊥) → Reads (tri c d v) x y z → Reads (tri d c u) x z y → ⊥
clash i j k (r0 e f g) (r0 e' f' g') = omega arith
clash i j k (r0 e f g) (r1 e' f' g') = omega arith
clash i j k (r0 e f g) (r2 e' f' g') = omega arith
clash i j k (r1 e f g) (r0 e' f' g') = omega arith
clash i j k (r1 e f g) (r1 e' f' g') = omega arith
clash i j k (r1 e f g) (r2 e' f' g') = omega arith
clash i j k (r2 e f g) (r0 e' f' g') = omega arith
clash i j k (r2 e f g) (r1 e' f' g') = omega arith
clash i j k (r2 e f g) (r2 e' f' g') = omega arith

-- a triangle whose corners differ is not read turned over
pub not_both : {t : Tri} {x y z : ℕ} → (x ≡ y → ⊥) → (y ≡ z → ⊥) → (z ≡ x → ⊥) → Reads t x y z → Reads t x z y → ⊥
not_both i j k (r0 e f g) (r0 e' f' g') = omega arith
not_both i j k (r0 e f g) (r1 e' f' g') = omega arith
not_both i j k (r0 e f g) (r2 e' f' g') = omega arith
not_both i j k (r1 e f g) (r0 e' f' g') = omega arith
not_both i j k (r1 e f g) (r1 e' f' g') = omega arith
not_both i j k (r1 e f g) (r2 e' f' g') = omega arith
not_both i j k (r2 e f g) (r0 e' f' g') = omega arith
not_both i j k (r2 e f g) (r1 e' f' g') = omega arith
not_both i j k (r2 e f g) (r2 e' f' g') = omega arith

module _ (u v c d : ℕ) (rest : List Tri) (s : Surface (before u v c d rest)) where
  pub mirror : Surface (before v u d c rest)
  mirror = surface_alike (alike_swap (tri u v c) (tri v u d) rest) s

  pub joined-v : (x y : ℕ) → 0 < sides (after u v c d rest) v x → 0 < sides (after u v c d rest) v y → Reach (after u v c d rest) v x y
  joined-v x y p q =
      let k = alike_swap (tri d c u) (tri c d v) rest in
      reach_map (λ a b. k.ahead v a b) (joined-u v u d c rest mirror x y (omega (arith, k.count v x)) (omega (arith, k.count v y)))

  pub joined-d : (x y : ℕ) → 0 < sides (after u v c d rest) d x → 0 < sides (after u v c d rest) d y → Reach (after u v c d rest) d x y
  joined-d x y p q =
      let k = alike_swap (tri d c u) (tri c d v) rest in
      reach_map (λ a b. k.ahead d a b) (joined-c v u d c rest mirror x y (omega (arith, k.count d x)) (omega (arith, k.count d y)))

  joined-else : (w : ℕ) → (w ≡ u → ⊥) → (w ≡ v → ⊥) → (w ≡ c → ⊥) → (w ≡ d → ⊥)
      → (x y : ℕ) → 0 < sides (after u v c d rest) w x → 0 < sides (after u v c d rest) w y → Reach (after u v c d rest) w x y
  joined-else w i j k l x y p q = reach_map over (s.joined w x y (same-side x p) (same-side y q))
    where
      over : (a b : ℕ) → Has w a b (before u v c d rest) → Has w a b (after u v c d rest)
      over a b (here (r0 e f g)) = absurd (i (sym e))
      over a b (here (r1 e f g)) = absurd (j (sym e))
      over a b (here (r2 e f g)) = absurd (k (sym e))
      over a b (there (here (r0 e f g))) = absurd (j (sym e))
      over a b (there (here (r1 e f g))) = absurd (i (sym e))
      over a b (there (here (r2 e f g))) = absurd (l (sym e))
      over a b (there (there h)) = there (there h)

      same-side : (x : ℕ) → 0 < sides (after u v c d rest) w x → 0 < sides (before u v c d rest) w x
      same-side x p = omega (arith, change u v c d rest w x, hit_no c d w x (inl λ e. k (sym e)), hit_no d c w x (inl λ e. l (sym e)))

  pub joined-after : (w x y : ℕ) → 0 < sides (after u v c d rest) w x → 0 < sides (after u v c d rest) w y → Reach (after u v c d rest) w x y
  joined-after w x y p q = a (ℕ_discrete w u) (ℕ_discrete w v) (ℕ_discrete w c) (ℕ_discrete w d)
    where
      by : (z : ℕ) → w ≡ z → ((x y : ℕ) → 0 < sides (after u v c d rest) z x → 0 < sides (after u v c d rest) z y → Reach (after u v c d rest) z x y)
          → Reach (after u v c d rest) w x y
      by z e f = subst (λ (n : ℕ). (x y : ℕ) → 0 < sides (after u v c d rest) n x → 0 < sides (after u v c d rest) n y → Reach (after u v c d rest) n x y) (sym e) f x y p q

      a : Dec (w ≡ u) → Dec (w ≡ v) → Dec (w ≡ c) → Dec (w ≡ d) → Reach (after u v c d rest) w x y
      a (yes e) j k l = by u e (joined-u u v c d rest s)
      a (no i) (yes e) k l = by v e joined-v
      a (no i) (no j) (yes e) l = by c e (joined-c u v c d rest s)
      a (no i) (no j) (no k) (yes e) = by d e joined-d
      a (no i) (no j) (no k) (no l) = joined-else w i j k l x y p q

  pub differ-after : (x y z : ℕ) → Has x y z (after u v c d rest) → x ≡ y → ⊥
  differ-after x y z (here (r0 p q r)) e = (six u v c d rest s).cd (p ∙ e ∙ sym q)
  differ-after x y z (here (r1 p q r)) e = (six u v c d rest s).dv (p ∙ e ∙ sym q)
  differ-after x y z (here (r2 p q r)) e = (six u v c d rest s).vc (p ∙ e ∙ sym q)
  differ-after x y z (there (here (r0 p q r))) e = (six u v c d rest s).cd (sym (p ∙ e ∙ sym q))
  differ-after x y z (there (here (r1 p q r))) e = (six u v c d rest s).cu (p ∙ e ∙ sym q)
  differ-after x y z (there (here (r2 p q r))) e = (six u v c d rest s).ud (p ∙ e ∙ sym q)
  differ-after x y z (there (there h)) e = s.differ x y z (there (there h)) e

  pub even_after : (p q : ℕ) → sides (after u v c d rest) p q ≡ sides (after u v c d rest) q p
  even_after p q = omega (
    arith,
    change u v c d rest p q,
    change u v c d rest q p,
    s.even p q,
    hit_swap u v p q,
    hit_swap v u p q,
    hit_swap c d p q,
    hit_swap d c p q,
  )

  module _ (fresh : sides (before u v c d rest) c d ≡ 0) where
    pub once_after : (p q : ℕ) → sides (after u v c d rest) p q ≤ 1
    once_after p q = pick (view c d p q) (view d c p q)
      where
        dc : sides (before u v c d rest) d c ≡ 0
        dc = s.even d c ∙ fresh

        pick : Hit c d p q → Hit d c p q → sides (after u v c d rest) p q ≤ 1
        pick (same e f g) (same e' f' g') = absurd ((six u v c d rest s).cd (e ∙ sym e'))
        pick (same e f g) (first n g') = let k : sides (before u v c d rest) p q ≡ 0 = cc in omega (arith, change u v c d rest p q)
        pick (same e f g) (second n g') = let k : sides (before u v c d rest) p q ≡ 0 = cc in omega (arith, change u v c d rest p q)
        pick (first n g) (same e f g') = let k : sides (before u v c d rest) p q ≡ 0 = cc dc in omega (arith, change u v c d rest p q)
        pick (second n g) (same e f g') = let k : sides (before u v c d rest) p q ≡ 0 = cc dc in omega (arith, change u v c d rest p q)
        pick (first n g) (first n' g') = omega (arith, change u v c d rest p q, s.once p q)
        pick (first n g) (second n' g') = omega (arith, change u v c d rest p q, s.once p q)
        pick (second n g) (first n' g') = omega (arith, change u v c d rest p q, s.once p q)
        pick (second n g) (second n' g') = omega (arith, change u v c d rest p q, s.once p q)

    no_cd : {z : ℕ} → Has c d z rest → ⊥
    no_cd h = omega (arith, fresh, has-side (there {t = tri u v c} (there {t = tri v u d} h)))

    no_dc : {z : ℕ} → Has d c z rest → ⊥
    no_dc h = omega (arith, fresh, s.even c d, has-side (there {t = tri u v c} (there {t = tri v u d} h)))

    pub apart-after : (x y z : ℕ) → Has x y z (after u v c d rest) → Has x z y (after u v c d rest) → ⊥
    apart-after x y z h l = pick h l (differ-after x y z h) (differ-after y z x (spin h)) (differ-after z x y (spin (spin h)))
      where
        pick : Has x y z (after u v c d rest) → Has x z y (after u v c d rest) → (x ≡ y → ⊥) → (y ≡ z → ⊥) → (z ≡ x → ⊥) → ⊥
        pick (here r) (here r') i j k = not_both i j k r r'
        pick (here r) (there (here r')) i j k = let t = six u v c d rest s in clash t.vc t.dv t.uv r r'
        pick (here r) (there (there h)) i j k = no_dc (opposed r h)
        pick (there (here r)) (here r') i j k = let t = six u v c d rest s in clash t.vc t.dv t.uv r' r
        pick (there (here r)) (there (here r')) i j k = not_both i j k r r'
        pick (there (here r)) (there (there h)) i j k = no_cd (opposed r h)
        pick (there (there h)) (here r') i j k = no_dc (opposed r' h)
        pick (there (there h)) (there (here r')) i j k = no_cd (opposed r' h)
        pick (there (there h)) (there (there h')) i j k = s.apart x y z (there (there h)) (there (there h'))

    pub flipped : Surface (after u v c d rest)
    flipped = record { differ = differ-after; once = once_after; even = even_after; joined = joined-after; apart = apart-after }

  pub fresh-needed : Surface (after u v c d rest) → sides (before u v c d rest) c d ≡ 0
  fresh-needed t =
      let k = six u v c d rest s in
      omega (arith, change u v c d rest c d, hit_no u v c d (inl λ e. k.cu (sym e)), hit_no v u c d (inl k.vc), hit_yes c d c d refl refl, t.once c d)

  pub flip_core : Surface (after u v c d rest) ↔ (sides (before u v c d rest) c d ≡ 0)
  flip_core = (fresh-needed, flipped)

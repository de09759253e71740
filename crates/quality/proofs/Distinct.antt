-- A triangle of which two corners are one point has a quality that is zero or NaN, whatever overflows: so a triangle whose quality is not `degenerate` has three points that differ.
-- Nothing is asked of the points: a coordinate less itself is zero or NaN at every value, and so is a product with such a factor, and a sum, a root and a quotient of them. Assumes nothing.
use Prim.Native.Nat.{ℕ, zero, suc, ◌-◌, ◌*◌, ◌<◌}
use native.Mathlib.Nat.{mul-pos, zero-mul, mul_comm, eq-zero-or-pos}
use native.Mathlib.Omega.{arith}
use mathlib.Core.Path.{◌≡◌, refl, sym, ap, ◌∙◌}
use mathlib.Core.Logic.{inl, inr}
use mathlib.Core.Bool.{Bool, true, false, not, ◌&&◌, cond, true≢false}
use lib.IntN.{ℤ}
use lib.Dec.{ltb, eqb}
use lib.Pow.{pow_pos}
use lib.Ieee.{Float, nan, inf, fin, Format, binary64, prec, up, down, unlike, round, sum, neg, add, sub, mul, div, le, of_int}
use lib.Ieee.Exact.{HasValue, round_exact}
use lib.Ieee.Fits.{up_pos, down_pos}
use Rattle.float.specs.Root.{root}
use Rattle.float.specs.Order.{is_finite}
use Rattle.float.specs.Point.{difference, dotted, crossed}
use Rattle.float.specs.declared.Point.{Point}
use Rattle.quality.specs.Quality.{number, scale, normal, squares, rated, quality, degenerate}

-- a zero or NaN
abbrev pub Void : Float → Type 0
Void nan = Unit
Void (inf s) = ⊥
Void (fin s m e) = m ≡ 0

no_size : (m u c d : ℕ) → 0 < u → 0 < c → m * u * c ≡ 0 * d → m ≡ 0
no_size m u c d U C h = elim (eq-zero-or-pos m) [ inl z ↦ z | inr p ↦ (let q : 0 < m * u * c = mul-pos (mul-pos p U) C in let z : m * u * c ≡ 0 = h ∙ zero-mul d in absurd (omega arith)) ]

of_value : (x : Float) (s : Bool) (c : ℕ) → 0 < c → HasValue x s 0 c → Void x
of_value nan s c C h = tt
of_value (inf t) s c C h = h
of_value (fin t m e) s c C h = no_size m (up e) c (down e) (up_pos e) C h.1

-- a fraction that is zero is rounded to a zero
rounded : (f : Format) (s : Bool) (num den : ℕ) → 0 < den → num ≡ 0 → Void (round f s num den)
rounded f s num den D e =
    rw e
    (of_value (round f s 0 den) s den D
    (round_exact f s 0 den 0 0 D (pow_pos (prec f)) (pow_pos _) (zero-mul _ ∙ sym (zero-mul den))))

-- ---- each operation, in any format

module _ (f : Format) where
  neg_void : (x : Float) → Void x → Void (neg x)
  unfolding neg
  neg_void nan h = tt
  neg_void (inf s) h = h
  neg_void (fin s m e) h = h

  sum_void : (s t : Bool) (a b c : ℕ) → 0 < c → a ≡ 0 → b ≡ 0 → Void (sum f s a t b c)
  unfolding sum
  sum_void s t a b c C p q = rw (p, q) (go s t)
    where
      go : (s t : Bool) → Void (sum f s 0 t 0 c)
      go true true = rounded f true 0 c C refl
      go true false = rounded f false 0 c C refl
      go false true = rounded f false 0 c C refl
      go false false = rounded f false 0 c C refl

  add_void : (x y : Float) → Void x → Void y → Void (add f x y)
  unfolding add
  add_void nan y h k = tt
  add_void (inf s) y h k = absurd h
  add_void (fin s m e) nan h k = tt
  add_void (fin s m e) (inf t) h k = absurd k
  add_void (fin s m e) (fin t n d) h k =
      sum_void s t (m * up e * down d) (n * up d * down e) (down e * down d) (mul-pos (down_pos e) (down_pos d)) (rw h (simp zero-mul)) (rw k (simp zero-mul))

  sub_void : (x y : Float) → Void x → Void y → Void (sub f x y)
  unfolding sub
  sub_void x y h k = add_void x (neg y) h (neg_void y k)

  -- a value less itself: zero, and NaN for an infinity or NaN
  opposed : (s : Bool) (a c : ℕ) → 0 < c → Void (sum f s a (not s) a c)
  unfolding sum
  opposed true a c C = go (ltb a a)
    where
      go : (b : Bool) → Void (cond b (round f false (a - a) c) (round f (true && b) (a - a) c))
      go true = rounded f false (a - a) c C (omega arith)
      go false = rounded f false (a - a) c C (omega arith)
  opposed false a c C = go (ltb a a)
    where
      go : (b : Bool) → Void (cond b (round f true (a - a) c) (round f (false && b) (a - a) c))
      go true = rounded f true (a - a) c C (omega arith)
      go false = rounded f false (a - a) c C (omega arith)

  sub_itself : (x : Float) → Void (sub f x x)
  unfolding sub
  sub_itself nan = tt
  sub_itself (inf true) = tt
  sub_itself (inf false) = tt
  sub_itself (fin s m e) = opposed s (m * up e * down e) (down e * down e) (mul-pos (down_pos e) (down_pos e))

  by_zero : (s t : Bool) (m : ℕ) → m ≡ 0 → Void (cond (eqb m 0) nan (inf (unlike s t)))
  by_zero s t m h = rw h tt

  mul_void : (x y : Float) → Void x → Void (mul f x y)
  unfolding mul
  mul_void nan y h = tt
  mul_void (inf s) y h = absurd h
  mul_void (fin s m e) nan h = tt
  mul_void (fin s m e) (inf t) h = by_zero s t m h
  mul_void (fin s m e) (fin t n d) h =
      rounded f (unlike s t) (m * up e * (n * up d)) (down e * down d) (mul-pos (down_pos e) (down_pos d)) (rw h (simp zero-mul))

  unlike_comm : (s t : Bool) → unlike s t ≡ unlike t s
  unlike_comm true true = refl
  unlike_comm true false = refl
  unlike_comm false true = refl
  unlike_comm false false = refl

  mul-turned : (x y : Float) → mul f x y ≡ mul f y x
  unfolding mul
  mul-turned nan nan = refl
  mul-turned nan (inf t) = refl
  mul-turned nan (fin t n d) = refl
  mul-turned (inf s) nan = refl
  mul-turned (inf s) (inf t) = ap inf (unlike_comm s t)
  mul-turned (inf s) (fin t n d) = ap (λ (u : Bool). cond (eqb n 0) nan (inf u)) (unlike_comm s t)
  mul-turned (fin s m e) nan = refl
  mul-turned (fin s m e) (inf t) = ap (λ (u : Bool). cond (eqb m 0) nan (inf u)) (unlike_comm s t)
  mul-turned (fin s m e) (fin t n d) =
      λ i. round f (unlike_comm s t i) (mul_comm (m * up e) (n * up d) i) (mul_comm (down e) (down d) i)

  times_void : (x y : Float) → Void y → Void (mul f x y)
  times_void x y h = rw (mul-turned x y) (mul_void y x h)

  root_void : (x : Float) → Void x → Void (root f x)
  unfolding root
  root_void nan h = tt
  root_void (inf s) h = absurd h
  root_void (fin s zero e) h = refl
  root_void (fin true (suc m) e) h = absurd (omega arith)
  root_void (fin false (suc m) e) h = absurd (omega arith)

  either : (b : Bool) (x y : Float) → Void x → Void y → Void (cond b x y)
  either true x y h k = h
  either false x y h k = k

  div_void : (x y : Float) → Void x → Void (div f x y)
  unfolding div
  div_void nan y h = tt
  div_void (inf s) y h = absurd h
  div_void (fin s m e) nan h = tt
  div_void (fin s m e) (inf t) h = refl
  div_void (fin s m e) (fin t zero d) h = by_zero s t m h
  div_void (fin s m e) (fin t (suc n) d) h =
      either (eqb (suc n) 0) (cond (eqb m 0) nan (inf (unlike s t))) (round f (unlike s t) (m * up e * down d) (suc n * up d * down e)) (by_zero s t m h)
      (rounded f (unlike s t) (m * up e * down d) (suc n * up d * down e) (mul-pos (mul-pos (omega arith) (up_pos d)) (down_pos e)) (rw h (simp zero-mul)))

-- ---- points

record VoidPoint (p : Point) : Type 0 where
  x : Void p.x
  y : Void p.y
  z : Void p.z

no_difference : (p : Point) → VoidPoint (difference p p)
no_difference p = record { x = sub_itself binary64 p.x; y = sub_itself binary64 p.y; z = sub_itself binary64 p.z }

-- u * v - w * t with a factor of each product void
crossing : (u v w t : Float) → Void u → Void w → Void (sub binary64 (mul binary64 u v) (mul binary64 w t))
crossing u v w t h k = sub_void binary64 (mul binary64 u v) (mul binary64 w t) (mul_void binary64 u v h) (mul_void binary64 w t k)

crossing' : (u v w t : Float) → Void v → Void t → Void (sub binary64 (mul binary64 u v) (mul binary64 w t))
crossing' u v w t h k = sub_void binary64 (mul binary64 u v) (mul binary64 w t) (times_void binary64 u v h) (times_void binary64 w t k)

-- u * v - v * u
crossing_itself : (u v : Float) → Void (sub binary64 (mul binary64 u v) (mul binary64 v u))
crossing_itself u v = rw (mul-turned binary64 v u) (sub_itself binary64 (mul binary64 u v))

cross_l : (p q : Point) → VoidPoint p → VoidPoint (crossed p q)
cross_l p q h = record {
  x = crossing p.y q.z p.z q.y h.y h.z;
  y = crossing p.z q.x p.x q.z h.z h.x;
  z = crossing p.x q.y p.y q.x h.x h.y;
}

cross_r : (p q : Point) → VoidPoint q → VoidPoint (crossed p q)
cross_r p q h = record {
  x = crossing' p.y q.z p.z q.y h.z h.y;
  y = crossing' p.z q.x p.x q.z h.x h.z;
  z = crossing' p.x q.y p.y q.x h.y h.x;
}

cross_itself : (p : Point) → VoidPoint (crossed p p)
cross_itself p = record { x = crossing_itself p.y p.z; y = crossing_itself p.z p.x; z = crossing_itself p.x p.y }

dot_void : (p q : Point) → VoidPoint p → Void (dotted p q)
dot_void p q h =
    add_void binary64 (add binary64 (mul binary64 p.x q.x) (mul binary64 p.y q.y)) (mul binary64 p.z q.z)
    (add_void binary64 (mul binary64 p.x q.x) (mul binary64 p.y q.y) (mul_void binary64 p.x q.x h.x) (mul_void binary64 p.y q.y h.y))
    (mul_void binary64 p.z q.z h.z)

-- a normal of zeros and NaNs: so is the quality, whatever the sum of the squared sides is
rated_void : (s : Float) (a b c : Point) → VoidPoint (normal a b c) → Void (rated s a b c)
unfolding rated
rated_void s a b c h =
    let n = normal a b c in
    div_void binary64 (mul binary64 s (root binary64 (dotted n n))) (squares a b c)
    (times_void binary64 s (root binary64 (dotted n n)) (root_void binary64 (dotted n n) (dot_void n n h)))

-- ---- two corners at one point

same-ab : (a b c : Point) → a ≡ b → Void (quality a b c)
same-ab a b c e = rw e (rated_void scale b b c (cross_l (difference b b) (difference c b) (no_difference b)))

same-bc : (a b c : Point) → b ≡ c → Void (quality a b c)
same-bc a b c e = rw e (rated_void scale a c c (cross_itself (difference c a)))

same-ca : (a b c : Point) → c ≡ a → Void (quality a b c)
same-ca a b c e = rw e (rated_void scale a b a (cross_r (difference b a) (difference a a) (no_difference a)))

-- ---- a quality that is zero or NaN is degenerate

pub zero-low : (s : Bool) (e : ℤ) → le (fin s 0 e) (number 0) ≡ true
unfolding le of_int
zero-low true e = simp zero-mul
zero-low false e = simp zero-mul

void_degenerate : (q : Float) → Void q → degenerate q ≡ true
unfolding is_finite
void_degenerate nan h = refl
void_degenerate (inf s) h = refl
void_degenerate (fin s m e) h = rw h (zero-low s e)

-- ---- THE THEOREM

-- no two of three points are one
pub record Apart (a b c : Point) : Type 0 where
  pub ab : a ≡ b → ⊥
  pub bc : b ≡ c → ⊥
  pub ca : c ≡ a → ⊥

pub apart : (a b c : Point) → degenerate (quality a b c) ≡ false → Apart a b c
apart a b c e =
    let never : Void (quality a b c) → ⊥ = λ h. true≢false (sym (void_degenerate (quality a b c) h) ∙ e) in
    record { ab = λ q. never (same-ab a b c q); bc = λ q. never (same-bc a b c q); ca = λ q. never (same-ca a b c q) }

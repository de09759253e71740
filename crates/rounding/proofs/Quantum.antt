-- Fractions over another denominator, and values of a format in quanta, units of its smallest value: each that fits is m * 2 ^ j of them with m of at most `prec` digits (`in_quanta` of `float`). Assumes nothing.
use mathlib.Core.Path.{◌≡◌, sym, ap, ap₂, ◌∙◌}
use mathlib.Core.Bool.{Bool}
use Prim.Native.Nat.{ℕ, ◌-◌, ◌*◌, ◌^◌, ◌<◌}
use native.Mathlib.Nat.{mul_assoc, mul_comm, mul_right_comm, mul-sub, eq_of_mul-eq-mul_right}
use lib.Ieee.{Float, nan, inf, fin, Format, low, up, down, round}
use lib.Ieee.Exact.{HasValue, round_exact}
use Rattle.float.proofs.Nearest.{Quanta}

-- p / d and q / e over one denominator, where they are a / c and b / c
pub over_first : (p a c e d : ℕ) → p * c ≡ a * e → p * d * c ≡ a * (e * d)
over_first p a c e d h = mul_right_comm p d c ∙ ap (λ (n : ℕ). n * d) h ∙ mul_assoc a e d

pub over-second : (q b c d e : ℕ) → q * c ≡ b * d → q * e * c ≡ b * (e * d)
over-second q b c d e h = mul_right_comm q e c ∙ ap (λ (n : ℕ). n * e) h ∙ mul_right_comm b d e ∙ mul_assoc b e d

-- from one fraction to another of the same size
pub rescale : (x : Float) (s : Bool) (w l num den : ℕ) → 0 < l → num * l ≡ w * den → HasValue x s w l → HasValue x s num den
rescale nan s w l num den p h v = v
rescale (inf t) s w l num den p h v = v
rescale (fin t m e) s w l num den p h v = (
  v.0,
  eq_of_mul-eq-mul_right l p (m * up e * den) (num * down e)
      (mul_right_comm (m * up e) den l
      ∙ ap (λ (x : ℕ). x * den) v.1
      ∙ mul_right_comm w (down e) den
      ∙ ap (λ (x : ℕ). x * down e) (sym h)
      ∙ mul_right_comm num l (down e)),
)

-- num / den is a quanta, and a value of the format has that many
pub rounds : (f : Format) (s : Bool) (num den a : ℕ) → 0 < den → num * 2 ^ low f ≡ a * den → Quanta f a → HasValue (round f s num den) s a (2 ^ low f)
rounds f s num den a p e g =
    rescale (round f s num den) s num den a (2 ^ low f) p (sym e)
    (round_exact f s num den g.m g.j p g.short g.inside (e ∙ ap (λ (x : ℕ). x * den) g.is))

pub minus-scale : (a b l A B c : ℕ) → a * l ≡ A * c → b * l ≡ B * c → (a - b) * l ≡ (A - B) * c
minus-scale a b l A B c p q =
    mul_comm (a - b) l ∙ mul-sub l a b ∙ ap₂ (λ (x y : ℕ). x - y) (mul_comm l a ∙ p ∙ mul_comm A c) (mul_comm l b ∙ q ∙ mul_comm B c) ∙ sym (mul-sub c A B) ∙ mul_comm c (A - B)

-- Coordinates that are turned into another unit, one after the other. Assumes nothing.
use mathlib.Core.Path.{◌≡◌, refl, sym, ap, ◌∙◌}
use mathlib.Core.Bool.{Bool, true, false, not, ◌&&◌, and-true}
use mathlib.Core.List.{List, ◌++◌, map}
use Prim.Native.Nat.{ℕ, ◌+◌, ◌*◌, ◌/◌, ◌≤◌, ◌<◌, ◌^◌}
use native.Mathlib.Nat.{mul-le-mul}
use native.Mathlib.Omega.{arith}
use lib.IntN.{ℤ, pos, negsuc, nat_abs}
use lib.ListN.{length, get_or, take, drop, set, length-map}
use lib.Seq.{get_or-take, get_or_at, drop-cons, length-take-le}
use lib.Signed.{mag, non_neg}
use Rattle.surface.specs.Check.{every}
use Rattle.surface.proofs.All.{all_and, all_done}
use Rattle.sheet.specs.Text.{minus}
use Rattle.sheet.specs.Conversion.{fits?, in_unit}
use Rattle.sheet.proofs.Stores.{map_more}
use Rattle.converting.specs.Converting.{unit_of}
use Rattle.converting.specs.Stages.{signed_as, TurnedFirst}

-- ---- a number of a size with a sign

pub signed_below : (z : ℤ) (size : ℕ) → not (non_neg z) ≡ true → minus size ≡ signed_as z size
signed_below (pos n) size t = let bad : ◌≡◌ {A = ℕ} 0 1 = cc in absurd (omega arith)
signed_below (negsuc n) size t = refl

pub signed_above : (z : ℤ) (size : ℕ) → not (non_neg z) ≡ false → pos size ≡ signed_as z size
signed_above (pos n) size t = refl
signed_above (negsuc n) size t = let bad : ◌≡◌ {A = ℕ} 0 1 = cc in absurd (omega arith)

pub signed-unit : (u v : ℕ) (z : ℤ) → signed_as z (nat_abs z * v / u) ≡ in_unit u v z
signed-unit u v (pos a) = refl
signed-unit u v (negsuc a) = refl

-- ---- bounds

pub scaled_fits : (a v : ℕ) → a ≤ 2097152 → v ≤ 65536 → a * v < 2 ^ 64
scaled_fits a v h k = let l : a * v ≤ 2097152 * 65536 = mul-le-mul h k in omega arith

pub small_mag : (z : ℤ) → nat_abs z ≤ 2097152 → mag z < 2 ^ 31
small_mag (pos n) h = omega arith
small_mag (negsuc n) h = omega arith

-- ---- one after the other

module _ (u v count : ℕ) (l₀ : List ℤ) where
  -- those below k are turned, and the others as they were
  pub record Turning (k : ℕ) (l : List ℤ) (same : Bool) : Type 0 where
    pub long : count ≤ length l₀
    pub few : k ≤ count
    pub kept : length l ≡ length l₀
    pub stored : l ≡ map (in_unit u v) (take k l₀) ++ drop k l₀
    pub tested : (same && every (fits? u v) (drop k (take count l₀))) ≡ every (fits? u v) (take count l₀)

  pub none-turned : count ≤ length l₀ → Turning 0 l₀ true
  none-turned h = record { long = h; few = omega arith; kept = refl; stored = refl; tested = refl }

  pub next-is : (k : ℕ) (l : List ℤ) (same : Bool) → Turning k l same → k < count → get_or l k (pos 0) ≡ get_or l₀ k (pos 0)
  next-is k l same t h =
      let long = t.long in
      ap (λ (m : List ℤ). get_or m k (pos 0)) (t.stored ∙ ap (λ (m : List ℤ). map (in_unit u v) (take k l₀) ++ m) (drop-cons l₀ k (pos 0) (omega arith)))
      ∙ get_or_at (map (in_unit u v) (take k l₀)) (get_or l₀ k (pos 0)) _ (pos 0) k (length-map (take k l₀) (in_unit u v) ∙ length-take-le k l₀ (omega arith))

  pub one-turned : (k : ℕ) (l l' : List ℤ) (same whole : Bool) (w : ℤ) → Turning k l same → k < count → length l' ≡ length l → l' ≡ set l k w → w ≡ in_unit u v (get_or l₀ k (pos 0)) → whole ≡ fits? u v (get_or l₀ k (pos 0)) → Turning (k + 1) l' (whole && same)
  one-turned k l l' same whole w t h g e q r = let long = t.long in record {
    long = long;
    few = omega arith;
    kept = g ∙ t.kept;
    stored = e ∙ map_more (in_unit u v) l₀ (pos 0) k l₀ l w (omega arith) (omega arith) t.stored q;
    tested = all_and (fits? u v) (pos 0) (take count l₀) k same whole (every (fits? u v) (take count l₀)) (let f : length (take count l₀) ≡ count = length-take-le count l₀ long in omega arith) (r ∙ ap (fits? u v) (sym (get_or-take count l₀ k (pos 0) h))) t.tested;
  }

pub all-turned : (from asked count : ℕ) (l₀ l : List ℤ) (k : ℕ) (same : Bool) → Turning (unit_of from) (unit_of asked) count l₀ k l same → count ≤ k → TurnedFirst from asked count l₀ l same
all-turned from asked count l₀ l k same t h =
    let long = t.long in
    let few = t.few in
    let e : k ≡ count = omega arith in
    let f : length (take count l₀) ≡ count = length-take-le count l₀ long in
    let done : length (take count l₀) ≤ k = omega arith in
    record {
      same = sym (sym t.tested ∙ ap (λ (b : Bool). same && b) (all_done (fits? (unit_of from) (unit_of asked)) (take count l₀) k done) ∙ and-true same);
      stored = t.stored ∙ ap (λ (j : ℕ). map (in_unit (unit_of from) (unit_of asked)) (take j l₀) ++ drop j l₀) e;
    }

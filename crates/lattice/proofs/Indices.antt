-- A node's number and its index, the next index, the end of a step, and that nothing of it is large. Assumes nothing.
use mathlib.Core.Path.{◌≡◌, refl, sym, ap, ap₂, ◌∙◌, subst}
use mathlib.Core.Bool.{Bool, true, false, ◌&&◌, cond, and-false}
use mathlib.Core.List.{List, [], ◌∷◌}
use Prim.Native.Nat.{ℕ, zero, suc, ◌+◌, ◌*◌, ◌/◌, ◌%◌, ◌≤◌, ◌<◌}
use native.Mathlib.Nat.{mul-le-mul, mul-le-mul_left, mul-add, mul_assoc, mul-one, mod-lt, mod-add-div, div-div-eq-div-mul, div-eq_of_lt, div-lt_iff_lt-mul, mod-eq_of_lt, add-mul-div_left, add-mul-mod_self_left, zero-mod, zero-div, mul-pos}
use native.Mathlib.Omega.{arith}
use lib.Dec.{leb, ltb}
use lib.ListN.{get_or}
use borrow.Author.Tests.{leb-true, ltb-true, ltb-false, lt-ltb, le-ltb}
use Rattle.surface.proofs.Bools.{both}
use Rattle.field.specs.Valid.{every}
use Rattle.lattice.specs.Node.{cube, along_x, along_y, along_z}
use Rattle.lattice.specs.Edges.{step_x, step_y, step_z, stays_inside, offset, step_end}
use Rattle.lattice.specs.Laws.{StepLaws}
use Rattle.lattice.specs.Stages.{index_of, next_index, end_or_start, InLattice, AtNode}
use Rattle.lattice.specs.declared.nodes.Index.{Index}

pub square-small : (n : ℕ) → n ≤ 129 → n * n ≤ 16641
square-small n h = mul-le-mul h h

pub cube-small : (n : ℕ) → n ≤ 129 → cube n ≤ 2146689
cube-small n h = mul-le-mul (square-small n h) h

-- ---- a node's number and its index

pub node-number : (n a : ℕ) → along_x n a + n * (along_y n a + n * along_z n a) ≡ a
node-number n a =
    ap (λ (k : ℕ). a % n + n * (a / n % n + n * k)) (sym (div-div-eq-div-mul a n n))
    ∙ ap (λ (k : ℕ). a % n + n * k) (mod-add-div (a / n) n)
    ∙ mod-add-div a n

-- further along x, y and z
moved : (n x y z dx dy dz : ℕ) → (x + dx) + n * ((y + dy) + n * (z + dz)) ≡ x + n * (y + n * z) + (dx + n * dy + n * n * dz)
moved n x y z dx dy dz =
    let p : n * ((y + dy) + n * (z + dz)) ≡ n * (y + dy) + n * (n * (z + dz)) = mul-add n (y + dy) (n * (z + dz)) in
    let q : n * (y + dy) ≡ n * y + n * dy = mul-add n y dy in
    let r : n * (n * (z + dz)) ≡ n * (n * z) + n * (n * dz) = ap (λ (k : ℕ). n * k) (mul-add n z dz) ∙ mul-add n (n * z) (n * dz) in
    let s : n * (y + n * z) ≡ n * y + n * (n * z) = mul-add n y (n * z) in
    let t : n * n * dz ≡ n * (n * dz) = mul_assoc n n dz in
    omega arith

same_index : {x x' y y' z z' : ℕ} → x ≡ x' → y ≡ y' → z ≡ z' → ◌≡◌ {A = Index} (record { x = x; y = y; z = z }) (record { x = x'; y = y'; z = z' })
same_index {x} {x'} {y} {y'} {z} {z'} p q r = cc

by_rows : (n x w : ℕ) → x < n → (x + n * w) / n ≡ w
by_rows n x w h =
    let p : 0 < n = omega arith in
    let z : x / n ≡ 0 = div-eq_of_lt h in
    add-mul-div_left x w p ∙ omega arith

pub index_is : (n x y z a : ℕ) → x < n → y < n → x + n * (y + n * z) ≡ a → index_of n a ≡ record { x = x; y = y; z = z }
index_is n x y z a hx hy e =
    let row : (x + n * (y + n * z)) / n ≡ y + n * z = by_rows n x (y + n * z) hx in
    same_index
    (ap (along_x n) (sym e) ∙ add-mul-mod_self_left x n (y + n * z) ∙ mod-eq_of_lt hx)
    (ap (along_y n) (sym e) ∙ ap (λ (w : ℕ). w % n) row ∙ add-mul-mod_self_left y n z ∙ mod-eq_of_lt hy)
    (ap (along_z n) (sym e) ∙ sym (div-div-eq-div-mul (x + n * (y + n * z)) n n) ∙ ap (λ (w : ℕ). w / n) row ∙ by_rows n y z hy)

pub first-index : (n : ℕ) → record { x = 0; y = 0; z = 0 } ≡ index_of n 0
first-index n = same_index (sym (zero-mod n)) (sym (ap (λ (w : ℕ). w % n) (zero-div n) ∙ zero-mod n)) (sym (zero-div (n * n)))

-- a node's index is one of the lattice
pub node-inside : (n a : ℕ) → 0 < n → n ≤ 129 → a < cube n → InLattice n (index_of n a)
node-inside n a some few h =
    let t : n * n * n ≡ n * (n * n) = mul_assoc n n n in
    record { few = few; x = mod-lt a some; y = mod-lt (a / n) some; z = (div-lt_iff_lt-mul (mul-pos some some)).1 (omega arith) }

pub at-node-inside : {n a : ℕ} {p : Index} → AtNode n a p → InLattice n p
at-node-inside {n} {a} s = subst (InLattice n) (sym s.index) (node-inside n a s.some s.few s.inside)

-- the next node has the next index
module _ (n a : ℕ) (some : 0 < n) where
  x : ℕ
  x = along_x n a

  y : ℕ
  y = along_y n a

  z : ℕ
  z = along_z n a

  by-y : (b : Bool) → ltb (y + 1) n ≡ b → n ≤ x + 1 → cond b (record { x = 0; y = y + 1; z = z }) (record { x = 0; y = 0; z = z + 1 }) ≡ index_of n (a + 1)
  unfolding x y z
  by-y true q h = sym (index_is n 0 (y + 1) z (a + 1) some (ltb-true _ _ q) row)
    where
      row : 0 + n * (y + 1 + n * z) ≡ a + 1
      row =
          let e : y + 1 + n * z ≡ y + n * z + 1 = omega arith in
          let d : n * (y + 1 + n * z) ≡ n * (y + n * z) + n = ap (λ (k : ℕ). n * k) e ∙ mul-add n (y + n * z) 1 ∙ ap (λ (k : ℕ). n * (y + n * z) + k) (mul-one n) in
          let s : x + n * (y + n * z) ≡ a = node-number n a in
          let l : x < n = mod-lt a some in
          omega arith
  by-y false q h = sym (index_is n 0 0 (z + 1) (a + 1) some some layer)
    where
      layer : 0 + n * (0 + n * (z + 1)) ≡ a + 1
      layer =
          let u : n ≤ y + 1 = ltb-false _ _ q in
          let v : y < n = mod-lt (a / n) some in
          let f : n * (z + 1) ≡ n * z + n = mul-add n z 1 ∙ ap (λ (k : ℕ). n * z + k) (mul-one n) in
          let e : 0 + n * (z + 1) ≡ y + n * z + 1 = omega arith in
          let d : n * (0 + n * (z + 1)) ≡ n * (y + n * z) + n = ap (λ (k : ℕ). n * k) e ∙ mul-add n (y + n * z) 1 ∙ ap (λ (k : ℕ). n * (y + n * z) + k) (mul-one n) in
          let s : x + n * (y + n * z) ≡ a = node-number n a in
          let l : x < n = mod-lt a some in
          omega arith

  by-x : (b : Bool) → ltb (x + 1) n ≡ b → cond b (record { x = x + 1; y = y; z = z }) (cond (ltb (y + 1) n) (record { x = 0; y = y + 1; z = z }) (record { x = 0; y = 0; z = z + 1 })) ≡ index_of n (a + 1)
  unfolding x y z
  by-x true q =
      let s : x + n * (y + n * z) ≡ a = node-number n a in
      sym (index_is n (x + 1) y z (a + 1) (ltb-true _ _ q) (mod-lt (a / n) some) (omega arith))
  by-x false q = by-y (ltb (y + 1) n) refl (ltb-false _ _ q)

  pub next-index : next_index n (index_of n a) ≡ index_of n (a + 1)
  unfolding x y z
  next-index = by-x (ltb (x + 1) n) refl

-- the cases of the next index
module _ (n : ℕ) (p : Index) where
  pub same_row : p.x + 1 < n → record { x = p.x + 1; y = p.y; z = p.z } ≡ next_index n p
  same_row h = rw (lt-ltb (p.x + 1) n h) refl

  pub next_row : n ≤ p.x + 1 → p.y + 1 < n → record { x = 0; y = p.y + 1; z = p.z } ≡ next_index n p
  next_row h k = rw (le-ltb (p.x + 1) n h, lt-ltb (p.y + 1) n k) refl

  pub next_layer : n ≤ p.x + 1 → n ≤ p.y + 1 → record { x = 0; y = 0; z = p.z + 1 } ≡ next_index n p
  next_layer h k = rw (le-ltb (p.x + 1) n h, le-ltb (p.y + 1) n k) refl

-- ---- a step that stays in the lattice

pub inside : (n x y z : ℕ) → x < n → y < n → z < n → x + n * (y + n * z) < cube n
inside n x y z a b c =
    let p : n * (z + 1) ≤ n * n = mul-le-mul_left n (omega arith) in
    let q : n * (z + 1) ≡ n * z + n = mul-add n z 1 ∙ ap (λ (k : ℕ). n * z + k) (mul-one n) in
    let r : n * (y + n * z + 1) ≤ n * (n * n) = mul-le-mul_left n (omega arith) in
    let s : n * (y + n * z + 1) ≡ n * (y + n * z) + n = mul-add n (y + n * z) 1 ∙ ap (λ (k : ℕ). n * (y + n * z) + k) (mul-one n) in
    let t : n * n * n ≡ n * (n * n) = mul_assoc n n n in
    omega arith

module _ (n a d : ℕ) (hx : along_x n a + step_x d < n) (hy : along_y n a + step_y d < n) (hz : along_z n a + step_z d < n) where
  end_number : (along_x n a + step_x d) + n * ((along_y n a + step_y d) + n * (along_z n a + step_z d)) ≡ step_end n a d
  end_number = moved n (along_x n a) (along_y n a) (along_z n a) (step_x d) (step_y d) (step_z d) ∙ ap (λ (k : ℕ). k + (step_x d + n * step_y d + n * n * step_z d)) (node-number n a)

  -- it ends at a node
  pub step-inside : step_end n a d < cube n
  step-inside =
      let i : (along_x n a + step_x d) + n * ((along_y n a + step_y d) + n * (along_z n a + step_z d)) < cube n = inside n (along_x n a + step_x d) (along_y n a + step_y d) (along_z n a + step_z d) hx hy hz in
      let e = end_number in
      omega arith

  -- which stands further along x, y and z by what the step adds
  pub step-further : index_of n (step_end n a d) ≡ record { x = along_x n a + step_x d; y = along_y n a + step_y d; z = along_z n a + step_z d }
  step-further = index_is n (along_x n a + step_x d) (along_y n a + step_y d) (along_z n a + step_z d) (step_end n a d) hx hy end_number

-- ---- the tests of `step_end`

module _ (n a d : ℕ) (p : Index) (s : AtNode n a p) (x y z : ℕ) (ex : x ≡ step_x d) (ey : y ≡ step_y d) (ez : z ≡ step_z d) where
  sx : p.x + x ≡ along_x n a + step_x d
  sx = ap₂ (λ (i j : ℕ). i + j) (ap (λ (q : Index). q.x) s.index) ex

  sy : p.y + y ≡ along_y n a + step_y d
  sy = ap₂ (λ (i j : ℕ). i + j) (ap (λ (q : Index). q.y) s.index) ey

  sz : p.z + z ≡ along_z n a + step_z d
  sz = ap₂ (λ (i j : ℕ). i + j) (ap (λ (q : Index). q.z) s.index) ez

  pub off-x : n ≤ p.x + x → a ≡ end_or_start n a d
  off-x h = rw (le-ltb (along_x n a + step_x d) n (subst (λ (i : ℕ). n ≤ i) sx h)) refl

  pub off-y : n ≤ p.y + y → a ≡ end_or_start n a d
  off-y h = rw (le-ltb (along_y n a + step_y d) n (subst (λ (i : ℕ). n ≤ i) sy h), and-false (ltb (along_x n a + step_x d) n)) refl

  pub off-z : n ≤ p.z + z → a ≡ end_or_start n a d
  off-z h = rw (le-ltb (along_z n a + step_z d) n (subst (λ (i : ℕ). n ≤ i) sz h), and-false (ltb (along_y n a + step_y d) n), and-false (ltb (along_x n a + step_x d) n)) refl

  pub stays : p.x + x < n → p.y + y < n → p.z + z < n → a + (x + n * y + n * n * z) ≡ end_or_start n a d
  stays hx hy hz =
      ap (λ (m : ℕ). a + (m + n * y + n * n * z)) ex ∙ ap (λ (m : ℕ). a + (step_x d + n * m + n * n * z)) ey ∙ ap (λ (m : ℕ). a + (step_x d + n * step_y d + n * n * m)) ez
      ∙ rw (lt-ltb (along_x n a + step_x d) n (subst (λ (i : ℕ). i < n) sx hx), lt-ltb (along_y n a + step_y d) n (subst (λ (i : ℕ). i < n) sy hy), lt-ltb (along_z n a + step_z d) n (subst (λ (i : ℕ). i < n) sz hz)) refl

-- a test that is passed, along x, y and z
stays_by : (n a d : ℕ) → stays_inside n a d ≡ true → (along_x n a + step_x d < n) × (along_y n a + step_y d < n) × (along_z n a + step_z d < n)
stays_by n a d q =
    let p = both (ltb (along_x n a + step_x d) n) (ltb (along_y n a + step_y d) n && ltb (along_z n a + step_z d) n) q in
    let r = both (ltb (along_y n a + step_y d) n) (ltb (along_z n a + step_z d) n) p.1 in
    (ltb-true _ _ p.0, ltb-true _ _ r.0, ltb-true _ _ r.1)

-- a node either way
pub end_or_start-inside : (n a d : ℕ) → a < cube n → end_or_start n a d < cube n
end_or_start-inside n a d h = go (stays_inside n a d) refl
  where
    go : (b : Bool) → stays_inside n a d ≡ b → cond b (step_end n a d) a < cube n
    go true q = let s = stays_by n a d q in step-inside n a d s.0 s.1 s.2
    go false q = h

pub step-laws : StepLaws
step-laws = record {
  at-node = λ n a d q. let s = stays_by n a d q in step-inside n a d s.0 s.1 s.2;
  further-x = λ n a d q. ap (λ (i : Index). i.x) (end_index n a d q);
  further-y = λ n a d q. ap (λ (i : Index). i.y) (end_index n a d q);
  further-z = λ n a d q. ap (λ (i : Index). i.z) (end_index n a d q);
}
  where
    end_index : (n a d : ℕ) → stays_inside n a d ≡ true → index_of n (step_end n a d) ≡ record { x = along_x n a + step_x d; y = along_y n a + step_y d; z = along_z n a + step_z d }
    end_index n a d q = let s = stays_by n a d q in step-further n a d s.0 s.1 s.2

-- ---- sizes

at_most_one : (l : List ℕ) → every (λ (n : ℕ). leb n 1) l ≡ true → (d : ℕ) → get_or l d 0 ≤ 1
at_most_one [] q d = omega arith
at_most_one (x ∷ l) q zero = leb-true x 1 (both (leb x 1) (every (λ (n : ℕ). leb n 1) l) q).0
at_most_one (x ∷ l) q (suc d) = at_most_one l (both (leb x 1) (every (λ (n : ℕ). leb n 1) l) q).1 d

-- what a step adds
pub record Small (n x y z : ℕ) : Type 0 where
  pub along_x : x ≤ 1
  pub along_y : y ≤ 1
  pub along_z : z ≤ 1
  pub rows : n * y ≤ 129
  pub square : n * n ≤ 16641
  pub layers : n * n * z ≤ 16641

pub small : (n d x y z : ℕ) → n ≤ 129 → x ≡ step_x d → y ≡ step_y d → z ≡ step_z d → Small n x y z
small n d x y z few ex ey ez =
    let q : n * n ≤ 16641 = square-small n few in
    let hx : x ≤ 1 = omega (arith, at_most_one (1 ∷ 0 ∷ 0 ∷ 1 ∷ 1 ∷ 0 ∷ 1 ∷ []) refl d) in
    let hy : y ≤ 1 = omega (arith, at_most_one (0 ∷ 1 ∷ 0 ∷ 1 ∷ 0 ∷ 1 ∷ 1 ∷ []) refl d) in
    let hz : z ≤ 1 = omega (arith, at_most_one (0 ∷ 0 ∷ 1 ∷ 0 ∷ 1 ∷ 1 ∷ 1 ∷ []) refl d) in
    record { along_x = hx; along_y = hy; along_z = hz; rows = mul-le-mul few hy; square = q; layers = mul-le-mul q hz }

-- ---- how far a step goes on

pub offset-is : (n d : ℕ) → d < 7 → get_or (1 ∷ n ∷ (n * n) ∷ (1 + n) ∷ (1 + n * n) ∷ (n + n * n) ∷ (1 + n + n * n) ∷ []) d 0 ≡ offset n d
offset-is n zero h = omega arith
offset-is n (suc zero) h = omega arith
offset-is n (suc (suc zero)) h = omega arith
offset-is n (suc (suc (suc zero))) h = omega arith
offset-is n (suc (suc (suc (suc zero)))) h = omega arith
offset-is n (suc (suc (suc (suc (suc zero))))) h = omega arith
offset-is n (suc (suc (suc (suc (suc (suc zero)))))) h = omega arith
offset-is n (suc (suc (suc (suc (suc (suc (suc d))))))) h = absurd (omega arith)

-- Runs of stores, one after the other, and the loop over nodes: its start, its turn and its end. Assumes nothing.
use mathlib.Core.Path.{◌≡◌, refl, sym, ap, ◌∙◌, subst}
use mathlib.Core.List.{List, [], ◌∷◌, ◌++◌}
use Prim.Native.Nat.{ℕ, zero, suc, ◌+◌, ◌*◌, ◌≤◌, ◌<◌}
use native.Mathlib.Nat.{add-zero, add-suc, suc-add, zero-add}
use native.Mathlib.Numerals.{add-one}
use native.Mathlib.Omega.{arith}
use lib.ListN.{length, take, drop, set, length-append, length-map, length-set}
use lib.Seq.{sets, sets-eq, take_at, take-length}
use lib.Ieee.{Float}
use Rattle.float.specs.declared.Point.{Point}
use Rattle.field.specs.Sheet.{value}
use Rattle.lattice.specs.Node.{per_side, node_at, node, grid}
use Rattle.lattice.specs.Values.{sampled}
use Rattle.lattice.specs.Sample.{SampledField, nodes, raw_values, lattice_values}
use Rattle.lattice.specs.Stages.{index_of, next_index, InLattice, Fillable, NodesFilled}
use Rattle.lattice.specs.declared.nodes.Index.{Index}
use Rattle.lattice.proofs.Indices.{first-index, node-inside, next-index}

module _ {A : Type 0} where
  pub sets_append : (l : List A) (i : ℕ) (vs ws : List A) → sets (sets l i vs) (i + length vs) ws ≡ sets l i (vs ++ ws)
  sets_append l i [] ws = ap (λ (k : ℕ). sets l k ws) (add-zero i)
  sets_append l i (v ∷ vs) ws =
      ap (λ (k : ℕ). sets (sets (set l i v) (suc i) vs) k ws) (add-suc i (length vs) ∙ sym (suc-add i (length vs)))
      ∙ sets_append (set l i v) (suc i) vs ws

  pub three_sets : (l : List A) (i : ℕ) (x y z : A) → set (set (set l i x) (i + 1) y) (i + 2) z ≡ sets l i (x ∷ y ∷ z ∷ [])
  three_sets l i x y z =
      let p : i + 1 ≡ suc i = omega arith in
      let q : i + 2 ≡ suc (suc i) = omega arith in
      ap (λ (k : ℕ). set (set (set l i x) k y) (i + 2) z) p ∙ ap (λ (k : ℕ). set (set (set l i x) (suc i) y) k z) q

  -- more stores behind those from the front
  pub sets_more : (l done vs : List A) (i : ℕ) → length done ≡ i → sets (sets l 0 done) i vs ≡ sets l 0 (done ++ vs)
  sets_more l done vs i e = ap (λ (k : ℕ). sets (sets l 0 done) k vs) (sym e ∙ sym (zero-add (length done))) ∙ sets_append l 0 done vs

  -- what stands in front afterwards
  pub front : (l vs : List A) (n : ℕ) → length vs ≡ n → n ≤ length l → take n (sets l 0 vs) ≡ vs
  front l vs n e h = ap (take n) (sets-eq vs l 0 fits) ∙ take_at vs (drop (0 + length vs) l) n e
    where
      fits : 0 + length vs ≤ length l
      fits = omega arith

-- ---- the grid and the values, a node a turn

pub node-there : (bounds : List Float) (cells k : ℕ) (q : Index) (p : Point) → q ≡ index_of (per_side cells) k → p ≡ node_at bounds cells q.x q.y q.z → p ≡ node bounds cells k
node-there bounds cells k q p e f = f ∙ ap (λ (r : Index). node_at bounds cells r.x r.y r.z) e

pub grid-length : (bounds : List Float) (cells k : ℕ) → length (grid bounds cells k) ≡ k * 3
unfolding grid
grid-length bounds cells zero = refl
grid-length bounds cells (suc k) =
    let h : length (grid bounds cells k) ≡ k * 3 = grid-length bounds cells k in
    length-append (grid bounds cells k) ((node bounds cells k).x ∷ (node bounds cells k).y ∷ (node bounds cells k).z ∷ []) ∙ omega arith

pub grid-step : (bounds : List Float) (cells k : ℕ) (g g' : List Float) (p : Point) → g' ≡ sets g 0 (grid bounds cells k) → p ≡ node bounds cells k
    → set (set (set g' (k * 3) p.x) (k * 3 + 1) p.y) (k * 3 + 2) p.z ≡ sets g 0 (grid bounds cells (k + 1))
unfolding grid
grid-step bounds cells k g g' p e q =
    three_sets g' (k * 3) p.x p.y p.z
    ∙ ap (λ (l : List Float). sets l (k * 3) (p.x ∷ p.y ∷ p.z ∷ [])) e
    ∙ sets_more g (grid bounds cells k) (p.x ∷ p.y ∷ p.z ∷ []) (k * 3) (grid-length bounds cells k)
    ∙ ap (λ (r : Point). sets g 0 (grid bounds cells k ++ (r.x ∷ r.y ∷ r.z ∷ []))) q
    ∙ sym (ap (λ (m : ℕ). sets g 0 (grid bounds cells m)) (add-one k))

pub grid-none : (bounds : List Float) (cells : ℕ) (g : List Float) → g ≡ sets g 0 (grid bounds cells 0)
unfolding grid
grid-none bounds cells g = refl

module _ (qs : List Float) (ns : List ℕ) (bounds : List Float) (cells : ℕ) where
  pub sampled-length : (k : ℕ) → length (sampled qs ns bounds cells k) ≡ k
  unfolding sampled
  sampled-length zero = refl
  sampled-length (suc k) =
      let h : length (sampled qs ns bounds cells k) ≡ k = sampled-length k in
      length-append (sampled qs ns bounds cells k) (value qs ns (node bounds cells k) ∷ []) ∙ omega arith

  pub sampled-step : (k : ℕ) (l l' : List Float) (p : Point) (v : Float) → l' ≡ sets l 0 (sampled qs ns bounds cells k) → p ≡ node bounds cells k → v ≡ value qs ns p
      → set l' k v ≡ sets l 0 (sampled qs ns bounds cells (k + 1))
  unfolding sampled
  sampled-step k l l' p v e q r =
      ap (λ (x : List Float). set x k v) e
      ∙ sets_more l (sampled qs ns bounds cells k) (v ∷ []) k (sampled-length k)
      ∙ ap (λ (x : Float). sets l 0 (sampled qs ns bounds cells k ++ (x ∷ []))) (r ∙ ap (value qs ns) q)
      ∙ sym (ap (λ (m : ℕ). sets l 0 (sampled qs ns bounds cells m)) (add-one k))

  pub sampled-none : (l : List Float) → l ≡ sets l 0 (sampled qs ns bounds cells 0)
  unfolding sampled
  sampled-none l = refl

pub values_length : (f : SampledField) → length (lattice_values f) ≡ nodes f.cells
unfolding lattice_values
values_length f = length-map (raw_values f) _ ∙ sampled-length f.coefficients f.powers f.bounds f.cells (nodes f.cells)

-- ---- the loop over nodes: the grid and the values have the nodes so far, and the index is that of the next

pub record Filling (qs : List Float) (ns : List ℕ) (bounds : List Float) (cells : ℕ) (g₀ v₀ : List Float) (p : Index) (g v : List Float) (a : ℕ) : Type 0 where
  pub few : a ≤ length v₀
  pub grid_length : length g ≡ length g₀
  pub value_length : length v ≡ length v₀
  pub index : p ≡ index_of (per_side cells) a
  pub grid_front : g ≡ sets g₀ 0 (grid bounds cells a)
  pub value_front : v ≡ sets v₀ 0 (sampled qs ns bounds cells a)

module _ (qs : List Float) (ns : List ℕ) (bounds : List Float) (cells : ℕ) (g₀ v₀ : List Float) (fits : Fillable cells g₀ v₀) where
  pub filling_starts : Filling qs ns bounds cells g₀ v₀ (record { x = 0; y = 0; z = 0 }) g₀ v₀ 0
  filling_starts = record {
    few = omega arith;
    grid_length = refl;
    value_length = refl;
    index = first-index (per_side cells);
    grid_front = grid-none bounds cells g₀;
    value_front = sampled-none qs ns bounds cells v₀;
  }

  module _ {p : Index} {g v : List Float} {a : ℕ} (f : Filling qs ns bounds cells g₀ v₀ p g v a) where
    -- a turn begins inside the lattice
    pub filling_inside : a < length v₀ → InLattice (per_side cells) p
    filling_inside h =
        let s = f.value_length in
        let n = fits.value_places in
        let k = fits.few in
        subst (InLattice (per_side cells)) (sym f.index) (node-inside (per_side cells) a (omega arith) (omega arith) (omega arith))

    pub filling_turn : a < length v₀ → (r : Point) (w : Float) (q : Index) → r ≡ node_at bounds cells p.x p.y p.z → w ≡ value qs ns r → q ≡ next_index (per_side cells) p
        → Filling qs ns bounds cells g₀ v₀ q (set (set (set g (a * 3) r.x) (a * 3 + 1) r.y) (a * 3 + 2) r.z) (set v a w) (a + 1)
    filling_turn h r w q er ew eq =
        let s = f.value_length in
        let n = node-there bounds cells a p r f.index er in
        record {
          few = omega arith;
          grid_length = simp length-set f.grid_length;
          value_length = simp length-set f.value_length;
          index = eq ∙ ap (next_index (per_side cells)) f.index ∙ next-index (per_side cells) a (omega arith);
          grid_front = grid-step bounds cells a g₀ g r f.grid_front n;
          value_front = sampled-step qs ns bounds cells a v₀ v r w f.value_front n ew;
        }

    pub filling_ends : length v₀ ≤ a → NodesFilled qs ns bounds cells g₀ g v
    filling_ends h =
        let s = f.value_length in
        let l = f.few in
        let e : a ≡ nodes cells = omega (arith, fits.value_places) in
        let m = sampled-length qs ns bounds cells (nodes cells) in
        record {
          grid_front = f.grid_front ∙ ap (λ (k : ℕ). sets g₀ 0 (grid bounds cells k)) e;
          values =
              sym (take-length v) ∙ ap (λ (k : ℕ). take k v) (s ∙ fits.value_places) ∙ ap (take (nodes cells)) (f.value_front ∙ ap (λ (k : ℕ). sets v₀ 0 (sampled qs ns bounds cells k)) e)
              ∙ front v₀ (sampled qs ns bounds cells (nodes cells)) (nodes cells) m (omega (arith, fits.value_places));
        }

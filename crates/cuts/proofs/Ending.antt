-- `cuts-laws`: how each listed edge of a sampled field ends, where its cut stands, and how many field values are taken; by the laws of `solve`, since the nodes' values are finite f64s. Assumes nothing.
use mathlib.Core.Path.{◌≡◌, refl, sym, ap, ap₂, ◌∙◌, subst}
use mathlib.Core.Bool.{Bool, true, false, ◌&&◌, cond}
use mathlib.Core.List.{List, [], ◌∷◌, ◌++◌, map}
use Prim.Native.Nat.{ℕ, zero, suc, ◌+◌, ◌*◌, ◌<◌}
use native.Mathlib.Omega.{arith}
use lib.Dec.{T}
use lib.ListN.{length, get_or, length-append}
use lib.Ieee as Ieee
use lib.Ieee.{Float, nan, binary64, fits, of_bits}
use lib.Ieee.Fits.{add-fits}
use Rattle.float.specs.declared.Point.{Point}
use Rattle.float.specs.Point.{less}
use Rattle.float.specs.Order.{is_finite}
use Rattle.surface.proofs.Bools.{both}
use Rattle.field.specs.Sheet.{value_sum, value}
use Rattle.field.specs.Valid.{every}
use Rattle.field.proofs.Sums.{same_point}
use Rattle.lattice.specs.Node.{per_side, node}
use Rattle.lattice.specs.Values.{sampled, magnitude, near_level?, onto}
use Rattle.lattice.specs.Edges.{Edge, level_of, value_at}
use Rattle.lattice.specs.Sample.{SampledField, nodes, lower_level, upper_level, raw_values, lattice_values, lattice_edges}
use Rattle.lattice.specs.Laws.{CrossedEdge, no_edge}
use Rattle.lattice.proofs.Indices.{step-inside}
use Rattle.lattice.proofs.Stores.{sampled-length}
use Rattle.solve.specs.Laws.{CrossedValues}
use Rattle.solve.proofs.Edge.{solve-laws}
use Rattle.cuts.specs.Edges.{point_at, level_in, solved_in, fields_taken, cut_numbers}
use Rattle.cuts.specs.Call.{solved_edge, edge_cut_point}
use Rattle.cuts.specs.Laws.{end_node, edge_residual, node_residual, tried_along, EdgeLaws, all_tried, CutsLaws}
use Rattle.cuts.proofs.Answering.{edge-crossed}

-- ---- f64s

abbrev Fits : Float → Type 0
Fits x = T (fits binary64 x)

-- wherever a list is read; past its end stands NaN
end_fits : (xs : List Float) (v : Float) → ((i : ℕ) → Fits (get_or xs i nan)) → Fits v → (i : ℕ) → Fits (get_or (xs ++ (v ∷ [])) i nan)
unfolding fits
end_fits [] v h f zero = f
end_fits [] v h f (suc i) = tt
end_fits (x ∷ xs) v h f zero = h zero
end_fits (x ∷ xs) v h f (suc i) = end_fits xs v (λ j. h (suc j)) f i

map-fits : (g : Float → Float) → ((x : Float) → Fits x → Fits (g x)) → (xs : List Float) → ((i : ℕ) → Fits (get_or xs i nan)) → (i : ℕ) → Fits (get_or (map g xs) i nan)
unfolding fits
map-fits g k [] h i = tt
map-fits g k (x ∷ xs) h zero = k x (h zero)
map-fits g k (x ∷ xs) h (suc i) = map-fits g k xs (λ j. h (suc j)) i

module _ (qs : List Float) (ns : List ℕ) where
  sum_fits : (t : ℕ) (p : Point) → Fits (value_sum t qs ns p)
  unfolding value_sum of_bits fits
  sum_fits zero p = tt
  sum_fits (suc t) p = add-fits binary64 _ _

  sampled-fits : (bounds : List Float) (cells k i : ℕ) → Fits (get_or (sampled qs ns bounds cells k) i nan)
  unfolding sampled fits
  sampled-fits bounds cells zero i = tt
  sampled-fits bounds cells (suc k) i = end_fits (sampled qs ns bounds cells k) (value qs ns (node bounds cells k)) (sampled-fits bounds cells k) (sum_fits _ (node bounds cells k)) i

onto-fits : (t level v : Float) → Fits level → Fits v → Fits (onto t level v)
unfolding onto
onto-fits t level v a b = go (near_level? t level v)
  where
    go : (c : Bool) → Fits (cond c level v)
    go true = a
    go false = b

level_fits : (lower upper : Float) (label : ℕ) → Fits lower → Fits upper → Fits (level_of lower upper label)
unfolding level_of
level_fits lower upper zero a b = b
level_fits lower upper (suc l) a b = a

module _ (f : SampledField) (lower : Fits (lower_level f)) (upper : Fits (upper_level f)) where
  value-fits : (a : ℕ) → Fits (value_at (lattice_values f) a)
  unfolding lattice_values
  value-fits a =
      map-fits _ (λ x h. onto-fits _ (upper_level f) _ upper (onto-fits _ (lower_level f) x lower h)) (raw_values f)
      (sampled-fits f.coefficients f.powers f.bounds f.cells (nodes f.cells)) a

-- ---- finite values

onto-finite : (t level v : Float) → is_finite v ≡ true → is_finite (onto t level v) ≡ true
unfolding onto near_level?
onto-finite t level v h = go (is_finite level) refl (Ieee.le (magnitude (less v level)) t)
  where
    go : (c : Bool) → is_finite level ≡ c → (d : Bool) → is_finite (cond (c && d) level v) ≡ true
    go true q true = q
    go true q false = h
    go false q d = h

map-finite : (g : Float → Float) → ((x : Float) → is_finite x ≡ true → is_finite (g x) ≡ true) → (xs : List Float) → every is_finite xs ≡ true → (i : ℕ) → i < length xs → is_finite (get_or (map g xs) i nan) ≡ true
map-finite g k [] h i l = absurd (omega arith)
map-finite g k (x ∷ xs) h zero l = k x (both (is_finite x) (every is_finite xs) h).0
map-finite g k (x ∷ xs) h (suc i) l = map-finite g k xs (both (is_finite x) (every is_finite xs) h).1 i (omega arith)

module _ (f : SampledField) (finite : every is_finite (raw_values f) ≡ true) where
  value-finite : (a : ℕ) → a < nodes f.cells → is_finite (value_at (lattice_values f) a) ≡ true
  unfolding lattice_values
  value-finite a h =
      let l = sampled-length f.coefficients f.powers f.bounds f.cells (nodes f.cells) in
      map-finite _ (λ x q. onto-finite _ (upper_level f) _ (onto-finite _ (lower_level f) x q)) (raw_values f) finite a (subst (λ (n : ℕ). a < n) (sym l) h)

-- ---- one edge

module _ (f : SampledField) (e : Edge) where
  edge-counted : (solved_edge f e).taken ≡ length (tried_along f e)
  unfolding solved_in
  edge-counted = solve-laws.counted (edge_residual f e) (level_in f.levels e.label) (node_residual f e e.node) (node_residual f e (end_node f e))

  module _ (finite : every is_finite (raw_values f) ≡ true) (crossed : CrossedEdge (per_side f.cells) (lower_level f) (upper_level f) (lattice_values f) e) where
    values-crossed : CrossedValues (value_at (lattice_values f) e.node) (value_at (lattice_values f) (end_node f e)) (level_in f.levels e.label)
    unfolding level_in
    values-crossed = record {
      first-finite = value-finite f finite e.node crossed.node;
      second-finite = value-finite f finite (end_node f e) (step-inside (per_side f.cells) e.node e.step crossed.x crossed.y crossed.z);
      level_finite = crossed.finite;
      apart = crossed.apart;
    }

    edge-laws : Fits (lower_level f) → Fits (upper_level f) → EdgeLaws f e
    unfolding solved_in level_in
    edge-laws lower upper = record {
      bracketed = solve-laws.bracketed _ _ _ values-crossed;
      ends = solve-laws.answered (edge_residual f e) _ _ _ values-crossed (value-fits f lower upper e.node) (value-fits f lower upper (end_node f e)) (level_fits (lower_level f) (upper_level f) e.label lower upper);
      counted = edge-counted;
      few = solve-laws.few (edge_residual f e) (level_in f.levels e.label) (node_residual f e e.node) (node_residual f e (end_node f e));
    }

-- ---- all of them

pub all-counted : (f : SampledField) (es : List Edge) → fields_taken (solved_edge f) es ≡ length (all_tried f es)
unfolding fields_taken all_tried
all-counted f [] = refl
all-counted f (e ∷ es) = ap₂ (λ (m n : ℕ). m + n) (edge-counted f e) (all-counted f es) ∙ sym (length-append (tried_along f e) (all_tried f es))

place_at : (cut : Edge → Point) (es : List Edge) (i : ℕ) → i < length es → point_at (cut_numbers cut es) i ≡ cut (get_or es i no_edge)
unfolding cut_numbers
place_at cut [] i h = absurd (omega arith)
place_at cut (e ∷ es) zero h = refl
place_at cut (e ∷ es) (suc i) h =
    let p : suc i * 3 ≡ suc (suc (suc (i * 3))) = omega arith in
    let q : suc i * 3 + 1 ≡ suc (suc (suc (i * 3 + 1))) = omega arith in
    let r : suc i * 3 + 2 ≡ suc (suc (suc (i * 3 + 2))) = omega arith in
    same_point (ap (λ (k : ℕ). get_or (cut_numbers cut (e ∷ es)) k nan) p) (ap (λ (k : ℕ). get_or (cut_numbers cut (e ∷ es)) k nan) q) (ap (λ (k : ℕ). get_or (cut_numbers cut (e ∷ es)) k nan) r)
    ∙ place_at cut es i (omega arith)

pub cuts-laws : (f : SampledField) → every is_finite (raw_values f) ≡ true → T (fits binary64 (lower_level f)) → T (fits binary64 (upper_level f)) → CutsLaws f
cuts-laws f finite lower upper = record {
  each = λ i h. edge-laws f (get_or (lattice_edges f) i no_edge) finite (edge-crossed f i h) lower upper;
  place = place_at (edge_cut_point f) (lattice_edges f);
  counted = all-counted f (lattice_edges f);
}

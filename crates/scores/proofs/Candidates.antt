-- The numbers that the functions choose and sort are those of the candidates of a round.
use Prim.Native.Nat.{ℕ, ◌+◌, ◌*◌, ◌%◌, ◌<◌}
use native.Mathlib.Nat.{zero-add}
use native.Mathlib.Omega.{arith}
use mathlib.Core.Path.{◌≡◌, refl, sym, ap, ap₂, ◌∙◌}
use mathlib.Core.Bool.{Bool}
use mathlib.Core.List.{List, map}
use lib.ListN.{length, length-map}
use lib.Ieee as Ieee
use lib.Ieee.{Float, binary64}
use Rattle.float.specs.Point.{times}
use Rattle.field.specs.Number.{plus_zero, counted}
use Rattle.surface.specs.Triangle.{triangles}
use Rattle.surface.specs.Closed.{Closed, one}
use Rattle.halfedges.specs.Place.{at}
use Rattle.sides.specs.Side.{Twin, sorted}
use Rattle.sides.specs.Order.{Sorted}
use Rattle.sides.proofs.Order.{among-at}
use Rattle.sorting.specs.Stable as Stable
use Rattle.rounds.specs.Choices.{Side}
use Rattle.oracle.specs.Number.{short_part}
use Rattle.oracle.specs.Scene.{Scene}
use Rattle.oracle.specs.Rising.{rising}
use Rattle.oracle.specs.Candidates.{chosen, sort_by, total, limit, candidate, length_bits, candidates}
use Rattle.scores.specs.Measures.{pair_of, weak_at, side_at, picks, up_from}
use Rattle.scores.proofs.Rises.{rising-is}
use Rattle.scores.proofs.Weak.{picks-is}
use Rattle.scores.proofs.Numbered.{sort-map, chosen-map, map-up, sorted-same, chosen-same, chosen-all, up-all}

-- the sides of a closed list with n points, `place i` the place of the side i
module _ (s : Scene) (c ls : List ℕ) (n : ℕ) (h : length c % 3 ≡ 0) (closed : Closed (triangles c)) (place : ℕ → ℕ) (places : (i : ℕ) → i < length (sorted c n) → place i ≡ at (sorted c n) i) where
  all-numbers : rising (triangles c) n ≡ map (λ (i : ℕ). side_at c (place i)) (up_from 0 (length (sorted c n)))
  all-numbers = rising-is c h closed n ∙ sym (map-up (λ (i : ℕ). side_at c (place i)) (side_at c) (sorted c n) 0 (λ i l. ap (λ (m : ℕ). side_at c (place m)) (zero-add i) ∙ ap (side_at c) (places i l)))

  -- the limit that the code computes
  pub limit_is : (r : Float) → r ≡ total s.points plus_zero (map (side_at c) (sorted c n)) → times short_part (Ieee.div binary64 r (counted (length (sorted c n)))) ≡ limit s.points (rising (triangles c) n)
  limit_is r e =
      let z = rising-is c h closed n in
      ap₂ (λ (x : Float) (m : ℕ). times short_part (Ieee.div binary64 x (counted m)))
      (e ∙ ap (total s.points plus_zero) (sym z))
      (sym (length-map (sorted c n) (side_at c)) ∙ ap length (sym z))

  -- numbers chosen by a test that is a candidate's, then sorted by keys that are its lengths
  pub candidates_are : (test : ℕ → Bool) (key : ℕ → ℕ) (most : Float) (l : List ℕ)
      → most ≡ limit s.points (rising (triangles c) n)
      → ((i : ℕ) → i < length (sorted c n) → test i ≡ candidate s (pair_of c ls) most (side_at c (place i)))
      → ((i : ℕ) → i < length (sorted c n) → key i ≡ length_bits s.points (side_at c (place i)))
      → l ≡ Stable.sorted key (chosen test (up_from 0 (length (sorted c n))))
      → map (λ (i : ℕ). side_at c (place i)) l ≡ candidates s (pair_of c ls) n
  unfolding candidates
  candidates_are test key most l e tests keys is =
      let f : ℕ → Side = λ i. side_at c (place i) in
      let nums = up_from 0 (length (sorted c n)) in
      let cand = candidate s (pair_of c ls) (limit s.points (rising (triangles c) n)) in
      let bits = length_bits s.points in
      let same_tests : chosen test nums ≡ chosen (λ (i : ℕ). cand (f i)) nums =
      chosen-same test (λ (i : ℕ). cand (f i)) nums
      (up-all (λ (i : ℕ). test i ≡ cand (f i)) 0 (length (sorted c n)) (λ i m k. tests i (omega arith) ∙ ap (λ (x : Float). candidate s (pair_of c ls) x (f i)) e)) in
      let same_keys : Stable.sorted key (chosen test nums) ≡ Stable.sorted (λ (i : ℕ). bits (f i)) (chosen test nums) =
      sorted-same key (λ (i : ℕ). bits (f i)) (chosen test nums)
      (chosen-all (λ (i : ℕ). key i ≡ bits (f i)) test nums (up-all (λ (i : ℕ). key i ≡ bits (f i)) 0 (length (sorted c n)) (λ i m k. keys i (omega arith)))) in
      ap (map f) (is ∙ same_keys ∙ ap (Stable.sorted (λ (i : ℕ). bits (f i))) same_tests)
      ∙ sym (sort-map f bits (chosen (λ (i : ℕ). cand (f i)) nums))
      ∙ ap (sort_by bits) (sym (chosen-map f cand nums) ∙ ap (chosen cand) (sym all-numbers))

  -- the test of the code
  pub tests_are : length ls * 3 ≡ length c → (w : List ℕ) (twins marks : ℕ) (most : Float)
      → ((k : ℕ) → k < length c → Twin c k (at w (twins + k)))
      → ((i : ℕ) → i < length ls → at w (marks + i) ≡ one (weak_at s c ls i))
      → Sorted c (sorted c n)
      → (i : ℕ) → i < length (sorted c n) → picks s.points c twins marks most w (place i) ≡ candidate s (pair_of c ls) most (side_at c (place i))
  tests_are labelled w twins marks most tw mk order i l =
      let u = order.sound (at (sorted c n) i) (among-at (sorted c n) i l) in
      let low : place i < length c = let e = places i l in let m = u.low in omega arith in
      picks-is s c ls h closed labelled (place i) (at w (twins + place i)) low (tw (place i) low) w twins marks most refl mk

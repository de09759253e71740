-- No more sides are crossed than there are triangles: whatever has the sentences of the request gives each pair of neighbours a triangle of its own.
use Prim.Native.Nat.{ℕ, zero, suc, ◌+◌, ◌≤◌, ◌<◌}
use mathlib.Core.Path.{◌≡◌, refl, sym, ap}
use mathlib.Core.Logic.{◌⊎◌, inl, inr}
use mathlib.Core.Bool.{Bool, true, false, not, not-not}
use mathlib.Core.List.{List, [], ◌∷◌}
use native.Mathlib.Omega.{arith}
use lib.ListN.{length, length-append}
use Rattle.surface.specs.Triangle.{Tri}
use Rattle.surface.specs.Closed.{one}
use Rattle.surface.specs.Edit.{place}
use Rattle.surface.proofs.Bools.{true_false}
use Rattle.surface.proofs.Reading.{Reads}
use Rattle.surface.proofs.Hinged.{has_either}
use Rattle.outlines.specs.Side.{Side, tally, Each}
use Rattle.outlines.specs.Crossing.{crossed?, crossed_triangle?}
use Rattle.outlines.specs.Outline.{Loop, Place}
use Rattle.outlines.specs.Request.{sides_of, Neighbours, neighbours_from, neighbours, joins?, Shared, Outlines}
use Rattle.outlines.proofs.Lists.{each_append, each-front, each_back}
use Rattle.outlines.proofs.Sides.{count-each}
use Rattle.outlines.proofs.Crossings.{not_beq}
use Rattle.outlines.proofs.Unique.{read-crossed, joined}

-- ---- pairs and the triangles that join them, counted both ways

-- how many triangles join the pair
abbrev joining : List Tri → Neighbours → ℕ
joining ts p = tally (λ (t : Tri). joins? t p) ts

-- how many pairs the triangles join, triangle by triangle
joinings : List Tri → List Neighbours → ℕ
joinings [] l = 0
joinings (t ∷ ts) l = tally (joins? t) l + joinings ts l

joinings_more : (ts : List Tri) (p : Neighbours) (l : List Neighbours) → joinings ts (p ∷ l) ≡ joining ts p + joinings ts l
unfolding joinings tally
joinings_more [] p l = refl
joinings_more (t ∷ ts) p l = omega (arith, joinings_more ts p l)

shared_joining : (ts : List Tri) (p : Neighbours) (i : ℕ) → i < length ts → joins? (place ts i) p ≡ true → 1 ≤ joining ts p
unfolding tally
shared_joining [] p i l e = absurd (omega arith)
shared_joining (t ∷ ts) p zero l e = omega (arith, ap one e)
shared_joining (t ∷ ts) p (suc i) l e = omega (arith, shared_joining ts p i (omega arith) e)

pairs_joined : (ts : List Tri) (l : List Neighbours) → Each (Shared ts) l → length l ≤ joinings ts l
unfolding Each
pairs_joined ts [] h = omega arith
pairs_joined ts (p ∷ l) h = let s = h.0 in omega (arith, joinings_more ts p l, shared_joining ts p s.0 s.1 s.2, pairs_joined ts l h.1)

joined-few : (ts : List Tri) (l : List Neighbours) → ((i : ℕ) → i < length ts → tally (joins? (place ts i)) l ≤ 1) → joinings ts l ≤ length ts
unfolding joinings
joined-few [] l h = omega arith
joined-few (t ∷ ts) l h = omega (arith, h 0 (omega arith), joined-few ts l (λ i b. h (suc i) (omega arith)))

-- ---- the neighbours of all loops

neighbours-long : (ls : List Loop) → length (neighbours ls) ≡ length (sides_of ls)
unfolding neighbours neighbours_from sides_of
neighbours-long [] = refl
neighbours-long (k ∷ ls) = omega (arith, length-append (neighbours_from k.start k.start k.rest) (neighbours ls), from k.start k.start k.rest, length-append k.rest (sides_of ls), neighbours-long ls)
  where
    from : (start s : Side) (w : List Side) → length (neighbours_from start s w) ≡ suc (length w)
    from start s [] = refl
    from start s (t ∷ w) = ap suc (from start t w)

module _ (P : Side → Type 0) where
  firsts : (start s : Side) (w : List Side) → P s → Each P w → Each (λ (p : Neighbours). P p.first) (neighbours_from start s w)
  unfolding Each neighbours_from
  firsts start s [] h e = (h, tt)
  firsts start s (t ∷ w) h e = (h, firsts start t w e.0 e.1)

  all_firsts : (ls : List Loop) → Each P (sides_of ls) → Each (λ (p : Neighbours). P p.first) (neighbours ls)
  unfolding Each neighbours sides_of
  all_firsts [] e = tt
  all_firsts (k ∷ ls) e =
      each_append (λ (p : Neighbours). P p.first) (neighbours_from k.start k.start k.rest) (neighbours ls) (firsts k.start k.start k.rest e.0 (each-front P k.rest (sides_of ls) e.1))
      (all_firsts ls (each_back P k.rest (sides_of ls) e.1))

module _ (above : ℕ → Bool) (ts : List Tri) (places : List Place) (o : Outlines above ts places) where
  crossed_firsts : Each (λ (p : Neighbours). crossed? above p.first ≡ true) (neighbours o.loops)
  crossed_firsts = all_firsts (λ (s : Side). crossed? above s ≡ true) o.loops (count-each (λ (s : Side). crossed? above s ≡ true) (sides_of o.loops) (λ s h. (o.no_other s h).crossed))

  -- a triangle that joins a crossed side to another is crossed
  joins-crossed : (t : Tri) (p : Neighbours) → crossed? above p.first ≡ true → joins? t p ≡ true → crossed_triangle? above t ≡ true
  joins-crossed t p c e = go (has_either t p.first.low p.first.high (joined t p.first p.second e).first)
    where
      other : above p.first.high ≡ not (above p.first.low)
      other = not_beq (above p.first.low) (above p.first.high) c

      go : ((z : ℕ) × Reads t p.first.low p.first.high z) ⊎ ((z : ℕ) × Reads t p.first.high p.first.low z) → crossed_triangle? above t ≡ true
      go (inl r) = read-crossed above t r.1 refl other
      go (inr r) = read-crossed above t r.1 other (sym (not-not (above p.first.low)))

  none-joined : (t : Tri) → crossed_triangle? above t ≡ false → (l : List Neighbours) → Each (λ (p : Neighbours). crossed? above p.first ≡ true) l → tally (joins? t) l ≡ 0
  unfolding Each tally
  none-joined t f [] h = refl
  none-joined t f (p ∷ l) h = go (joins? t p) refl (none-joined t f l h.1)
    where
      go : (b : Bool) → joins? t p ≡ b → tally (joins? t) l ≡ 0 → one (joins? t p) + tally (joins? t) l ≡ 0
      go true e i = absurd (true_false (joins-crossed t p h.0 e) f)
      go false e i = omega (arith, ap one e)

  pub sides-few : length (sides_of o.loops) ≤ length ts
  sides-few = omega (arith, neighbours-long o.loops, pairs_joined ts (neighbours o.loops) o.shared, joined-few ts (neighbours o.loops) once)
    where
      once : (i : ℕ) → i < length ts → tally (joins? (place ts i)) (neighbours o.loops) ≤ 1
      once i b = go (crossed_triangle? above (place ts i)) refl
        where
          go : (c : Bool) → crossed_triangle? above (place ts i) ≡ c → tally (joins? (place ts i)) (neighbours o.loops) ≤ 1
          go true e = omega (arith, o.joined i b e)
          go false e = omega (arith, none-joined (place ts i) e (neighbours o.loops) crossed_firsts)

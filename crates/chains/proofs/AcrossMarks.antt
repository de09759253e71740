-- The turns of the loops that mark which corners are joined across a side.
use Prim.Native.Nat.{ℕ, zero, suc, ◌+◌, ◌*◌, ◌-◌, ◌<◌, ◌≤◌}
use native.Mathlib.Omega.{arith}
use mathlib.Core.Path.{◌≡◌, refl, sym, ap, ◌∙◌, subst}
use mathlib.Core.Logic.{◌⊎◌, inl, inr}
use mathlib.Core.Bool.{Bool, true, false}
use mathlib.Core.List.{List}
use lib.Dec.{eqb}
use lib.ListN.{length, set, length-set}
use lib.Seq.{get_or-set_same, get_or-set_other}
use borrow.Author.Tests.{eqb-true, eqb-false}
use Rattle.surface.specs.Triangle.{triangles}
use Rattle.surface.specs.Closed.{one, sides, Closed}
use Rattle.surface.proofs.Bridge.{closed_surface_lem}
use Rattle.halfedges.specs.Place.{nx, pv, at}
use Rattle.halfedges.proofs.Free.{free_none}
use Rattle.halfedges.proofs.Turns.{same_or}
use Rattle.halfedges.proofs.Fine.{apart-cases}
use Rattle.chains.specs.Chain.{from}
use Rattle.chains.proofs.Chain.{Next, from_next, spot, Onward}
use Rattle.chains.proofs.Flat.{runs-side, side-runs}
use Rattle.chains.specs.Marks.{Lists}
use Rattle.chains.proofs.Marks.{Stamping}
use Rattle.chains.specs.SideMarks.{Stamped}
use Rattle.chains.specs.AcrossMarks.{across, Joined, AcrossOf, AcrossBelow}

pub stamp-joined : (c : List ℕ) (p : ℕ) (w : List ℕ) (stamps v d : ℕ) → Lists c p → Closed (triangles c) → d < p → Stamped c p w stamps v → one (eqb (at w (stamps + d)) (v + 1)) ≡ sides (triangles c) v d
stamp-joined c p w stamps v d h closed l s = go (eqb (at w (stamps + d)) (v + 1)) refl
  where
    most : sides (triangles c) v d ≤ 1
    most = (closed_surface_lem closed).once v d

    go : (b : Bool) → eqb (at w (stamps + d)) (v + 1) ≡ b → one b ≡ sides (triangles c) v d
    go true e =
        let r = s.found d l (eqb-true (at w (stamps + d)) (v + 1) e) in
        let g : 0 < sides (triangles c) v d = subst (λ (x : ℕ). 0 < sides (triangles c) x d) r.from (subst (λ (x : ℕ). 0 < sides (triangles c) (at c r.k) x) r.to (runs-side c h.thirds r.k r.low)) in
        omega (arith, most)
    go false e = none (sides (triangles c) v d) refl
      where
        none : (n : ℕ) → sides (triangles c) v d ≡ n → 0 ≡ sides (triangles c) v d
        none zero q = sym q
        none (suc n) q =
            let r = side-runs c h.thirds v d (omega arith) in
            absurd (eqb-false (at w (stamps + d)) (v + 1) e (ap (λ (x : ℕ). at w (stamps + x)) (sym r.to) ∙ s.known r.k r.low r.from))

pub across-first : (c : List ℕ) (p marks v q : ℕ) (w : List ℕ) → q ≡ from c v 0 (length c) → AcrossOf c p marks v (spot (length c) q) w w
across-first c p marks v q w e = record {
  len = refl;
  under = λ j l. refl;
  over = λ j l. refl;
  done = λ k l n. let m : Next c v 0 (length c) q = rw e (from_next c v 0 (length c) (length c) (omega arith)) in absurd (m.none k (omega arith) l n);
  others = λ k n. refl;
}

pub across_turn : (c : List ℕ) (p marks v q r k m : ℕ) (w w' : List ℕ) → marks + length c ≤ length w → q ≡ suc k → Onward c v q → r ≡ from c v (suc k) (length c - suc k)
    → m ≡ sides (triangles c) v (across c p w k) → AcrossOf c p marks v k w w' → AcrossOf c p marks v (spot (length c) r) w (set w' (marks + k) m)
across_turn c p marks v q r k m w w' room e o f g a = record {
  len = length-set w' (marks + k) m ∙ a.len;
  under = λ j l. get_or-set_other w' (marks + k) j m 0 (λ z. omega arith) ∙ a.under j l;
  over = λ j l. get_or-set_other w' (marks + k) j m 0 (λ z. omega (arith, own.1)) ∙ a.over j l;
  done = λ j l n. go j l n (same_or j k);
  others = λ j n. get_or-set_other w' (marks + k) (marks + j) m 0 (λ z. n (ap (at c) (off j z) ∙ own.0)) ∙ a.others j n;
}
  where
    own : (at c k ≡ v) × (k < length c)
    own = o.names k e

    off : (j : ℕ) → marks + j ≡ marks + k → j ≡ k
    off j z = omega arith

    next : Next c v (suc k) (length c) r
    next = let z = own.1 in rw f (from_next c v (suc k) (length c - suc k) (length c) (omega arith))

    go : (j : ℕ) → j < spot (length c) r → at c j ≡ v → (j ≡ k) ⊎ (j ≡ k → ⊥) → Joined c p marks w (set w' (marks + k) m) j
    go j l n (inl z) =
        ap (λ (x : ℕ). at (set w' (marks + k) m) (marks + x)) z ∙ get_or-set_same w' (marks + k) m 0 (omega (arith, own.1, a.len)) ∙ g
        ∙ ap (λ (x : ℕ). sides (triangles c) x (across c p w k)) (sym own.0) ∙ ap (λ (x : ℕ). sides (triangles c) (at c x) (across c p w x)) (sym z)
    go j l n (inr z) = later (apart-cases j k z)
      where
        later : (j < k) ⊎ (k < j) → Joined c p marks w (set w' (marks + k) m) j
        later (inl i) = get_or-set_other w' (marks + k) (marks + j) m 0 (λ y. z (off j y)) ∙ a.done j i n
        later (inr i) = absurd (next.none j i l n)

pub across-none : (c : List ℕ) (p stamps marks : ℕ) (w : List ℕ) → ((x : ℕ) → x < p → at w (stamps + x) ≡ 0) → AcrossBelow c p stamps marks 0 w w
across-none c p stamps marks w z = record { rest = free_none w; low = λ x l. let m = z x l in omega arith; done = λ i l m. absurd (omega arith) }

pub across-more : (c : List ℕ) (p stamps marks v : ℕ) (w₀ w w₁ w₂ : List ℕ) → stamps + p ≤ marks → p * 3 + length c + length c ≤ stamps → Lists c p → AcrossBelow c p stamps marks v w₀ w → Stamping c p stamps v (length c) w w₁ → AcrossOf c p marks v (length c) w₁ w₂
    → AcrossBelow c p stamps marks (v + 1) w₀ w₂
across-more c p stamps marks v w₀ w w₁ w₂ third first h m s o = record {
  rest = record {
    len = o.len ∙ s.len ∙ m.rest.len;
    under = λ j l. o.under j (omega arith) ∙ s.under j l ∙ m.rest.under j l;
    over = λ j l. o.over j l ∙ s.over j (omega arith) ∙ m.rest.over j l;
  };
  low = λ x l. let q = o.under (stamps + x) (omega arith) in let r = m.low x l in let n = s.low x (v + 1) (omega arith) (omega arith) in omega arith;
  done = λ k l i. go k l i (same_or (at c k) v);
}
  where
    same : (k : ℕ) → k < length c → across c p w₁ k ≡ across c p w₀ k
    same k l = ap (λ (t : ℕ). at c (pv t)) (s.under (p * 3 + length c + nx k) (near k l) ∙ m.rest.under (p * 3 + length c + nx k) (near k l))
      where
        near : (k : ℕ) → k < length c → p * 3 + length c + nx k < stamps
        near k l = let z : nx k < length c = nx-low k l in omega arith
          where
            nx-low : (k : ℕ) → k < length c → nx k < length c
            nx-low k l = let t = h.thirds in omega arith

    go : (k : ℕ) → k < length c → at c k < v + 1 → (at c k ≡ v) ⊎ (at c k ≡ v → ⊥) → Joined c p marks w₀ w₂ k
    go k l i (inl e) = o.done k l e ∙ ap (sides (triangles c) (at c k)) (same k l)
    go k l i (inr e) = o.others k e ∙ s.over (marks + k) (omega arith) ∙ m.done k l (omega (arith, e))

-- The turns of the loops that mark the sides, and that all are marked in the end.
use Prim.Native.Nat.{ℕ, zero, suc, ◌+◌, ◌*◌, ◌%◌, ◌<◌, ◌≤◌}
use native.Mathlib.Omega.{arith}
use mathlib.Core.Path.{◌≡◌, refl, sym, ap, ◌∙◌, subst}
use mathlib.Core.Logic.{◌⊎◌, inl, inr, ⊎_elim}
use mathlib.Core.Bool.{Bool, true, false}
use mathlib.Core.List.{List}
use lib.ListN.{length, set, length-set}
use lib.Seq.{get_or-set_same, get_or-set_other}
use Rattle.surface.specs.Triangle.{triangles}
use Rattle.surface.specs.Closed.{one, sides, Closed}
use Rattle.halfedges.specs.Place.{nx, pv, at, uses}
use Rattle.halfedges.specs.Free.{Free}
use Rattle.halfedges.proofs.Free.{free_none}
use Rattle.halfedges.proofs.Turns.{same_or}
use Rattle.sides.specs.Side.{Twin}
use Rattle.sides.proofs.Twins.{twin-twice}
use Rattle.sides.proofs.Meeting.{met_of}
use Rattle.chains.proofs.Flat.{runs-side, side-runs}
use Rattle.chains.specs.Common.{lone}
use Rattle.chains.proofs.Common.{Alone, lone-alone, alone-lone, lone-twin}
use Rattle.chains.specs.Marks.{Lists}
use Rattle.chains.proofs.Marks.{below_next, Stamping}
use Rattle.chains.specs.SideMarks.{Told, Stamped, Right, Keeps, Marked, Settled, MarkedOf, SidesMarked}

-- what is told of the other end of a side is the side's test
pub told_lone : (c : List ℕ) (p : ℕ) (w : List ℕ) (stamps v k t : ℕ) (r : Bool) → Lists c p → Closed (triangles c) → k < length c → at c k ≡ v → Twin c k t → Stamped c p w stamps v
    → Told c w stamps (v + 1) (at c (nx k)) (at c (pv k)) (at c (pv t)) r → r ≡ lone c k
told_lone c p w stamps v k t r h closed l e tw st told = go r refl
  where
    yes_so : r ≡ true → Alone (triangles c) (at c k) (at c (nx k)) (at c (pv k)) (at c (pv t))
    yes_so q = record {
      among = λ x m n.
          let a = side-runs c h.thirds (at c k) x m in
          let b = side-runs c h.thirds (at c (nx k)) x n in
          let s : at w (stamps + at c (nx b.k)) ≡ v + 1 = ap (λ (y : ℕ). at w (stamps + y)) (b.to ∙ sym a.to) ∙ st.known a.k a.low (a.from ∙ e) in
          subst (λ (y : ℕ). (y ≡ at c (pv k)) ⊎ (y ≡ at c (pv t))) b.to (told.yea q b.k b.low b.from s);
    }

    no_so : r ≡ false → lone c k ≡ true → ⊥
    no_so q f =
        let z = told.nay q in
        let x = at c (nx z.k) in
        let a = st.found x (below_next h z.k z.low) z.stamped in
        let m : 0 < sides (triangles c) (at c k) x = subst (λ (y : ℕ). 0 < sides (triangles c) y x) (a.from ∙ sym e) (subst (λ (y : ℕ). 0 < sides (triangles c) (at c a.k) y) a.to (runs-side c h.thirds a.k a.low)) in
        let n : 0 < sides (triangles c) (at c (nx k)) x = subst (λ (y : ℕ). 0 < sides (triangles c) y x) z.names (runs-side c h.thirds z.k z.low) in
        ⊎_elim z.not_x z.not_y ((lone-alone c h.thirds closed k t l tw f).among x m n)

    go : (b : Bool) → r ≡ b → r ≡ lone c k
    go true q = q ∙ sym (alone-lone c h.thirds closed k t l tw (yes_so q))
    go false q = q ∙ pick (lone c k) refl
      where
        pick : (b : Bool) → lone c k ≡ b → false ≡ lone c k
        pick true f = absurd (no_so q f)
        pick false f = sym f

pub keeps-none : (c : List ℕ) (marks : ℕ) (w : List ℕ) → Keeps c marks w w
keeps-none c marks w = record { len = refl; under = λ j l. refl; over = λ j l. refl; right = λ j r. r }

pub keeps-more : {c : List ℕ} {marks : ℕ} {w w' w'' : List ℕ} → Keeps c marks w w' → Keeps c marks w' w'' → Keeps c marks w w''
keeps-more f g = record { len = g.len ∙ f.len; under = λ j l. g.under j l ∙ f.under j l; over = λ j l. g.over j l ∙ f.over j l; right = λ j r. g.right j (f.right j r) }

pub marked-none : (c : List ℕ) (p marks k : ℕ) (w : List ℕ) → uses c (at c k) (length c) < uses c (at c (nx k)) (length c) → Marked c p marks k w w
marked-none c p marks k w h = record { keeps = keeps-none c marks w; done = λ l. absurd (omega arith) }

pub marked_turn : (c : List ℕ) (p marks k t m : ℕ) (w : List ℕ) → length c % 3 ≡ 0 → Closed (triangles c) → k < length c → marks + length c ≤ length w → t ≡ at w (p * 3 + length c + k) → Twin c k t → m ≡ one (lone c k)
    → Marked c p marks k w (set (set w (marks + k) m) (marks + t) m)
marked_turn c p marks k t m w h closed l room e tw v = record {
  keeps = record {
    len = length-set u (marks + t) m ∙ length-set w (marks + k) m;
    under = λ j i. get_or-set_other u (marks + t) j m 0 (λ z. omega arith) ∙ get_or-set_other w (marks + k) j m 0 (λ z. omega arith);
    over = λ j i. get_or-set_other u (marks + t) j m 0 (λ z. omega (arith, tw.low)) ∙ get_or-set_other w (marks + k) j m 0 (λ z. omega arith);
    right = λ j r. right j r (same_or j t) (same_or j k);
  };
  done = λ i. (right-k (same_or k t), subst (λ (x : ℕ). Right c marks (set (set w (marks + k) m) (marks + t) m) x) e right-t);
}
  where
    u : List ℕ
    u = set w (marks + k) m

    fits : marks + t < length u
    fits = omega (arith, length-set w (marks + k) m, tw.low)

    m-t : m ≡ one (lone c t)
    m-t = v ∙ ap one (sym (lone-twin c h closed k t l tw))

    right-t : Right c marks (set (set w (marks + k) m) (marks + t) m) t
    right-t = get_or-set_same u (marks + t) m 0 fits ∙ m-t

    right-k : (k ≡ t) ⊎ (k ≡ t → ⊥) → Right c marks (set (set w (marks + k) m) (marks + t) m) k
    right-k (inl z) = subst (λ (x : ℕ). Right c marks (set (set w (marks + k) m) (marks + t) m) x) (sym z) right-t
    right-k (inr z) = get_or-set_other u (marks + t) (marks + k) m 0 (λ y. z (omega arith)) ∙ get_or-set_same w (marks + k) m 0 (omega arith) ∙ v

    right : (j : ℕ) → Right c marks w j → (j ≡ t) ⊎ (j ≡ t → ⊥) → (j ≡ k) ⊎ (j ≡ k → ⊥) → Right c marks (set (set w (marks + k) m) (marks + t) m) j
    right j r (inl z) y = subst (λ (x : ℕ). Right c marks (set (set w (marks + k) m) (marks + t) m) x) (sym z) right-t
    right j r (inr z) (inl y) = get_or-set_other u (marks + t) (marks + j) m 0 (λ x. z (omega arith)) ∙ ap (λ (x : ℕ). at u (marks + x)) y ∙ get_or-set_same w (marks + k) m 0 (omega arith) ∙ v ∙ ap (λ (x : ℕ). one (lone c x)) (sym y)
    right j r (inr z) (inr y) = get_or-set_other u (marks + t) (marks + j) m 0 (λ x. z (omega arith)) ∙ get_or-set_other w (marks + k) (marks + j) m 0 (λ x. y (omega arith)) ∙ r

pub settled_more : {c : List ℕ} {marks : ℕ} {w' w'' : List ℕ} (p : ℕ) (w : List ℕ) (k : ℕ) → Keeps c marks w' w'' → Settled c p marks w w' k → Settled c p marks w w'' k
settled_more {c} {marks} p w k g s l = let r = s l in (g.right k r.0, g.right (at w (p * 3 + length c + k)) r.1)

-- the sides of the corners below v are marked
pub record MarkedBelow (c : List ℕ) (p stamps marks v : ℕ) (w w' : List ℕ) : Type 0 where
  pub rest : Free stamps (marks + length c) w w'
  pub low : (x : ℕ) → x < p → at w' (stamps + x) ≤ v
  pub done : (k : ℕ) → k < length c → at c k < v → Settled c p marks w w' k

pub marked_all : (c : List ℕ) (p stamps marks : ℕ) (w w' : List ℕ) → Lists c p → Closed (triangles c) → ((k : ℕ) → k < length c → Twin c k (at w (p * 3 + length c + k))) → MarkedBelow c p stamps marks p w w' → SidesMarked c stamps marks w w'
marked_all c p stamps marks w w' h closed tw m = record { rest = m.rest; each = λ k l. go k l (either (uses c (at c (nx k)) (length c)) (uses c (at c k) (length c))) }
  where
    either : (x y : ℕ) → (x ≤ y) ⊎ (y ≤ x)
    either zero y = inl (omega arith)
    either (suc x) zero = inr (omega arith)
    either (suc x) (suc y) = ⊎_elim (λ (l : x ≤ y). inl (omega arith)) (λ (l : y ≤ x). inr (omega arith)) (either x y)

    go : (k : ℕ) → k < length c → (uses c (at c (nx k)) (length c) ≤ uses c (at c k) (length c)) ⊎ (uses c (at c k) (length c) ≤ uses c (at c (nx k)) (length c)) → Right c marks w' k
    go k l (inl u) = (m.done k l (h.below k l) u).0
    go k l (inr u) =
        let t = at w (p * 3 + length c + k) in
        let a = tw k l in
        let b = tw t a.low in
        let z : at w (p * 3 + length c + t) ≡ k = twin-twice c k t (at w (p * 3 + length c + t)) (met_of c h.thirds closed) l a b in
        let q : uses c (at c (nx t)) (length c) ≤ uses c (at c t) (length c) = subst (λ (x : ℕ). uses c x (length c) ≤ uses c (at c t) (length c)) (sym a.to) (subst (λ (x : ℕ). uses c (at c k) (length c) ≤ uses c x (length c)) (sym a.from) u) in
        subst (Right c marks w') z (m.done t a.low (h.below t a.low) q).1

-- one corner more: its followers are stamped, and its sides are marked
pub stamped_of : (c : List ℕ) (p stamps v : ℕ) (w w' : List ℕ) → Lists c p → ((x : ℕ) → x < p → at w (stamps + x) ≤ v) → Stamping c p stamps v (length c) w w' → Stamped c p w' stamps v
stamped_of c p stamps v w w' h low s = record {
  known = λ k l e. s.known k l e;
  found = λ x l e. s.found x (λ q. let m = low x l in omega arith) e;
  low = λ x l. let m = low x l in s.low x (v + 1) (omega arith) (omega arith);
}

pub below-first : (c : List ℕ) (p stamps marks : ℕ) (w : List ℕ) → ((x : ℕ) → x < p → at w (stamps + x) ≡ 0) → MarkedBelow c p stamps marks 0 w w
below-first c p stamps marks w z = record { rest = free_none w; low = λ x l. let m = z x l in omega arith; done = λ i l m. absurd (omega arith) }

pub below_turn : (c : List ℕ) (p stamps marks v : ℕ) (w₀ w w₁ w₂ : List ℕ) → stamps + p ≤ marks → p * 3 + length c + length c ≤ stamps → Lists c p → MarkedBelow c p stamps marks v w₀ w → Stamping c p stamps v (length c) w w₁ → MarkedOf c p marks v (length c) w₁ w₂
    → MarkedBelow c p stamps marks (v + 1) w₀ w₂
below_turn c p stamps marks v w₀ w w₁ w₂ third first h m s o = record {
  rest = record {
    len = o.keeps.len ∙ s.len ∙ m.rest.len;
    under = λ j l. o.keeps.under j (omega arith) ∙ s.under j l ∙ m.rest.under j l;
    over = λ j l. o.keeps.over j l ∙ s.over j (omega arith) ∙ m.rest.over j l;
  };
  low = λ x l. let q = o.keeps.under (stamps + x) (omega arith) in let r = m.low x l in let n = s.low x (v + 1) (omega arith) (omega arith) in omega arith;
  done = λ k l i. go k l i (same_or (at c k) v);
}
  where
    kept : (j : ℕ) → Right c marks w j → Right c marks w₂ j
    kept j r = o.keeps.right j (s.over (marks + j) (omega arith) ∙ r)

    same : (k : ℕ) → k < length c → at w₁ (p * 3 + length c + k) ≡ at w₀ (p * 3 + length c + k)
    same k l = s.under (p * 3 + length c + k) (omega arith) ∙ m.rest.under (p * 3 + length c + k) (omega arith)

    go : (k : ℕ) → k < length c → at c k < v + 1 → (at c k ≡ v) ⊎ (at c k ≡ v → ⊥) → Settled c p marks w₀ w₂ k
    go k l i (inl e) u = let r = o.done k l e u in (r.0, subst (Right c marks w₂) (same k l) r.1)
    go k l i (inr e) u = let r = m.done k l (omega (arith, e)) u in (kept k r.0, kept (at w₀ (p * 3 + length c + k)) r.1)

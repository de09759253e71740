-- What the needs of the marking functions ask, over plain lists with equations as arguments.
use Prim.Native.Nat.{ℕ, zero, suc, ◌+◌, ◌*◌, ◌-◌, ◌/◌, ◌<◌, ◌≤◌}
use native.Mathlib.Omega.{arith}
use mathlib.Core.Path.{◌≡◌, refl, sym, ap, ◌∙◌, subst}
use mathlib.Core.Bool.{Bool, true, false, true≢false, false≢true}
use mathlib.Core.List.{List, ◌++◌}
use lib.Dec.{eqb}
use lib.ListN.{length, get_or, set, take, drop, replicate, length-replicate, get_or-replicate}
use lib.Seq.{get_or-set_other, length-take-le}
use mir.Val.{bool_byte}
use Rattle.surface.specs.Closed.{one, sides}
use Rattle.surface.specs.Triangle.{triangles}
use Rattle.halfedges.specs.Place.{nx, pv, at, uses}
use Rattle.halfedges.specs.Free.{Free}
use Rattle.halfedges.proofs.Free.{free_more}
use Rattle.halfedges.proofs.Fine.{nx-below}
use Rattle.sides.specs.Side.{Twin}
use Rattle.chains.specs.Chain.{from, walk}
use Rattle.chains.proofs.Chain.{from_next, spot, Onward, onward-start, onward-next, onward-less, Upto, upto_start, upto_next}
use Rattle.chains.proofs.Bits.{bit_one}
use Rattle.chains.proofs.Clear.{at_front}
use Rattle.chains.specs.Common.{lone}
use Rattle.chains.specs.Marks.{Cleared, Lists, stamp_at, Walking, Marking}
use Rattle.chains.proofs.Marks.{below_next, below_last, marking-kept, Chaining, chain_turn, Stamping, stamping}
use Rattle.chains.specs.SideMarks.{SidesMarked, Strange, Told, Passes, Stamped, Right, Marked, Settled, MarkedOf}
use Rattle.chains.proofs.SideMarks.{stamped_of, MarkedBelow, marked_all, told_lone, marked-none, marked_turn, keeps-none, keeps-more, settled_more}
use Rattle.chains.specs.AcrossMarks.{AcrossBelow, across, AcrossOf}
use Rattle.chains.proofs.AcrossMarks.{across-first, across_turn, stamp-joined}
use Rattle.chains.specs.LabelMarks.{Labelled}
use Rattle.chains.proofs.LabelMarks.{Carrying, carry_turn}

-- the words after the first n are filled with 0
pub front-zeros : (n : ℕ) (w v : List ℕ) → n ≤ length w → v ≡ replicate (length (take n w)) 0 → v ++ drop n w ≡ replicate n 0 ++ drop n w
front-zeros n w v l e = ap (λ (x : List ℕ). x ++ drop n w) (e ∙ ap (λ (m : ℕ). replicate m 0) (length-take-le n w l))

pub zero-at : (n j : ℕ) (w t : List ℕ) → w ≡ replicate n 0 ++ t → j < n → at w j ≡ 0
zero-at n j w t e l = ap (λ (x : List ℕ). at x j) e ∙ at_front (replicate n 0) t n j (length-replicate n 0) l ∙ get_or-replicate n j 0 0 l

-- a link is at most the number of places
pub from-most : (c : List ℕ) (v i d : ℕ) → from c v i d ≤ i + d
from-most c v i d = go (from c v i d) refl
  where
    go : (q : ℕ) → from c v i d ≡ q → q ≤ i + d
    go zero e = omega arith
    go (suc k) e = ((from_next c v i d (i + d) refl).names k e).1

-- ---- chain_places

pub chain_turn' : (c : List ℕ) (p : ℕ) (w w₁ w₂ : List ℕ) (j v q n : ℕ) → Lists c p → p + length c ≤ length w → j < length c → v ≡ at c j → q ≡ suc j → n ≡ at w v
    → w₁ ≡ set w (p + j) n → w₂ ≡ set w₁ v q → Chaining c p w q → Chaining c p w₂ j
chain_turn' c p w w₁ w₂ j v q n h room l e f g a b r =
    subst (λ (x : List ℕ). Chaining c p x j) (sym (b ∙ ap (λ (x : List ℕ). set x v q) (a ∙ ap (set w (p + j)) g))) (chain_turn c p w j v q h room l e f r)

-- ---- walks

-- where a walk along the chain of v stands, in words that keep the chain
pub record Walks (c : List ℕ) (v q : ℕ) (w w' : List ℕ) (stamps : ℕ) : Type 0 where
  pub onward : Onward c v q
  pub is : w' ≡ walk (stamp_at c stamps v) c v (spot (length c) q) w

module _ (c : List ℕ) (p : ℕ) (w : List ℕ) (chains stamps v : ℕ) (h : Walking c p w chains stamps) (l : v < p) where
  head : at w (chains + v) ≡ from c v 0 (length c)
  head = h.chained.heads v l

  pub walks_first : (q : ℕ) → q ≡ at w (chains + v) → Walks c v q w w stamps
  walks_first q e = let o = onward-start (stamp_at c stamps v) c v w q (e ∙ head) in record { onward = o.0; is = sym o.1 }

  pub walks_state : (q : ℕ) (w' : List ℕ) → Walks c v q w w' stamps → Stamping c p stamps v (spot (length c) q) w w'
  walks_state q w' s = subst (Stamping c p stamps v (spot (length c) q) w) (sym s.is) (stamping c p stamps v (spot (length c) q) w h.lists s.onward.low h.room)

  -- whatever the stamp is, the chain is kept
  pub walks_link : (q k : ℕ) (w' w'' : List ℕ) (x m : ℕ) → q ≡ suc k → x ≡ at c (nx k) → Walks c v q w w' stamps → w'' ≡ set w' (stamps + x) m → (r : ℕ) → r ≡ at w'' (chains + p + k) → r ≡ from c v (suc k) (length c - suc k)
  walks_link q k w' w'' x m e f s g r i =
      let a = s.onward.names k e in
      let low = a.1 in
      let n = h.order in
      i ∙ ap (λ (y : List ℕ). at y (chains + p + k)) g ∙ get_or-set_other w' (stamps + x) (chains + p + k) m 0 (λ z. omega arith)
      ∙ (walks_state q w' s).under (chains + p + k) (omega arith) ∙ h.chained.links k low ∙ ap (λ (y : ℕ). from c y (suc k) (length c - suc k)) a.0

  pub walks_next : (q k : ℕ) (w' w'' : List ℕ) (x r : ℕ) → q ≡ suc k → x ≡ at c (nx k) → Walks c v q w w' stamps → w'' ≡ set w' (stamps + x) (v + 1) → r ≡ at w'' (chains + p + k) → Walks c v r w w'' stamps
  walks_next q k w' w'' x r e f s g i =
      let j = walks_link q k w' w'' x (v + 1) e f s g r i in
      let o = onward-next (stamp_at c stamps v) c v w q r k e s.onward j in
      let z : walk (stamp_at c stamps v) c v k w ≡ w' = ap (λ (n : ℕ). walk (stamp_at c stamps v) c v (spot (length c) n) w) (sym e) ∙ sym s.is in
      record { onward = o.0; is = g ∙ ap (λ (y : ℕ). set w' (stamps + y) (v + 1)) f ∙ ap (stamp_at c stamps v k) (sym z) ∙ sym o.1 }

  pub walks_less : (q k : ℕ) (w' w'' : List ℕ) (x r m : ℕ) → q ≡ suc k → x ≡ at c (nx k) → Walks c v q w w' stamps → w'' ≡ set w' (stamps + x) m → r ≡ at w'' (chains + p + k) → length c - spot (length c) r < length c - spot (length c) q
  walks_less q k w' w'' x r m e f s g i = onward-less c v q r k e s.onward (walks_link q k w' w'' x m e f s g r i)

  -- a walk that only reads
  pub read-link : (q k r : ℕ) → q ≡ suc k → Onward c v q → r ≡ at w (chains + p + k) → r ≡ from c v (suc k) (length c - suc k)
  read-link q k r e o i = let a = o.names k e in i ∙ h.chained.links k a.1 ∙ ap (λ (y : ℕ). from c y (suc k) (length c - suc k)) a.0

-- ---- apart

pub record Tells (c w : List ℕ) (stamps s b x y q : ℕ) : Type 0 where
  pub onward : Onward c b q
  pub passes : (k : ℕ) → k < spot (length c) q → at c k ≡ b → Passes c w stamps s x y k

module _ (c : List ℕ) (p : ℕ) (w : List ℕ) (chains stamps s b x y : ℕ) (h : Walking c p w chains stamps) (l : b < p) where
  pub tells_first : (q : ℕ) → q ≡ at w (chains + b) → Tells c w stamps s b x y q
  tells_first q e =
      let f = e ∙ h.chained.heads b l in
      record { onward = (onward-start (λ k (n : ℕ). n) c b 0 q f).0; passes = upto_start (Passes c w stamps s x y) c b q f }

  pub tells_next : (q k r : ℕ) → q ≡ suc k → Tells c w stamps s b x y q → Strange c w stamps s x y k false → r ≡ at w (chains + p + k) → Tells c w stamps s b x y r
  tells_next q k r e t n i =
      let j = read-link c p w chains stamps b h l q k r e t.onward i in
      let u : Upto (Passes c w stamps s x y) c b k = λ m d. t.passes m (subst (λ (z : ℕ). m < spot (length c) z) (sym e) d) in
      record { onward = (onward-next (λ k (n : ℕ). n) c b 0 q r k e t.onward j).0; passes = upto_next (Passes c w stamps s x y) c b q r k e t.onward j u (n.nay refl) }

  pub tells_less : (q k r : ℕ) → q ≡ suc k → Tells c w stamps s b x y q → r ≡ at w (chains + p + k) → length c - spot (length c) r < length c - spot (length c) q
  tells_less q k r e t i = onward-less c b q r k e t.onward (read-link c p w chains stamps b h l q k r e t.onward i)

  pub tells_no : (q k : ℕ) → q ≡ suc k → Tells c w stamps s b x y q → Strange c w stamps s x y k true → Told c w stamps s b x y false
  tells_no q k e t n = let a = t.onward.names k e in let g = n.yea refl in
      record { yea = λ f. absurd (false≢true f); nay = λ f. record { k = k; low = a.1; names = a.0; stamped = g.0; not_x = g.1; not_y = g.2 } }

  pub tells_yes : (q : ℕ) → q ≡ 0 → Tells c w stamps s b x y q → Told c w stamps s b x y true
  tells_yes q e t = record { yea = λ f k m. t.passes k (subst (λ (z : ℕ). k < spot (length c) z) (sym e) m); nay = λ f. absurd (true≢false f) }

-- ---- mark_labels

pub carry_turn' : (c ls : List ℕ) (p : ℕ) (w w' : List ℕ) (k u m : ℕ) → Lists c p → Labelled c ls → k < length c → p * 8 ≤ length w → u ≡ at c k → m ≡ get_or ls (k / 3) 0 → w' ≡ set w (u * 8 + m) 1 → Carrying c ls p w k → Carrying c ls p w' (k + 1)
carry_turn' c ls p w w' k u m h b l room e f g r =
    let z : suc k ≡ k + 1 = omega arith in
    let n = b.size in
    subst (Carrying c ls p w') z (subst (λ (x : List ℕ). Carrying c ls p x (suc k)) (sym g)
    (carry_turn c ls p w k u m e f (omega (arith, h.below k l)) (omega (arith, b.small (k / 3) (omega arith))) room r))

-- ---- mark_across_of

pub record Acrossing (c : List ℕ) (p marks v q : ℕ) (w w' : List ℕ) : Type 0 where
  pub onward : Onward c v q
  pub done : AcrossOf c p marks v (spot (length c) q) w w'

module _ (c : List ℕ) (p : ℕ) (w : List ℕ) (chains stamps marks v : ℕ) (h : Marking c p w chains stamps marks) (s : Stamped c p w stamps v) (l : v < p) where
  pub acrossing_first : (q : ℕ) → q ≡ at w (chains + v) → Acrossing c p marks v q w w
  acrossing_first q e =
      let f = e ∙ h.chained.heads v l in
      record { onward = (onward-start (λ k (n : ℕ). n) c v 0 q f).0; done = across-first c p marks v q w f }

  module _ (q k : ℕ) (w' : List ℕ) (e : q ≡ suc k) (g : Acrossing c p marks v q w w') where
    own : (at c k ≡ v) × (k < length c)
    own = g.onward.names k e

    pub same-below : (j : ℕ) → j < marks → at w' j ≡ at w j
    same-below j m = g.done.under j m

    pub twin-low : (t a : ℕ) → a ≡ nx k → t ≡ at w' (p * 3 + length c + a) → t < length c
    twin-low t a i j =
        let n : nx k < length c = nx-below (length c) k h.lists.thirds own.1 in
        let b : p * 3 + length c + a ≡ p * 3 + length c + nx k = omega arith in
        let u = h.first in let z = h.second in let y = h.third in
        let f : t ≡ at w (p * 3 + length c + nx k) = j ∙ ap (at w') b ∙ same-below (p * 3 + length c + nx k) (omega arith) in
        subst (λ (x : ℕ). x < length c) (sym f) (h.twins (nx k) n).low

    pub across-link : (w'' : List ℕ) (m r : ℕ) → w'' ≡ set w' (marks + k) m → r ≡ at w'' (chains + p + k) → r ≡ from c v (suc k) (length c - suc k)
    across-link w'' m r f i =
        let b = own.1 in let z = h.second in let y = h.third in
        i ∙ ap (λ (x : List ℕ). at x (chains + p + k)) f ∙ get_or-set_other w' (marks + k) (chains + p + k) m 0 (λ n. omega arith)
        ∙ same-below (chains + p + k) (omega arith) ∙ h.chained.links k b ∙ ap (λ (x : ℕ). from c x (suc k) (length c - suc k)) own.0

    pub acrossing_next : (w'' : List ℕ) (a t d x m r : ℕ) → a ≡ nx k → t ≡ at w' (p * 3 + length c + a) → d ≡ at c (pv t) → x ≡ at w' (stamps + d) → m ≡ one (eqb x (v + 1)) → w'' ≡ set w' (marks + k) m → r ≡ at w'' (chains + p + k) → Acrossing c p marks v r w w''
    acrossing_next w'' a t d x m r ea et ed ex em f i =
        let n : nx k < length c = nx-below (length c) k h.lists.thirds own.1 in
        let u = h.first in let z = h.second in let y = h.third in
        let b : p * 3 + length c + a ≡ p * 3 + length c + nx k = omega arith in
        let t-is : t ≡ at w (p * 3 + length c + nx k) = et ∙ ap (at w') b ∙ same-below (p * 3 + length c + nx k) (omega arith) in
        let d-is : d ≡ across c p w k = ed ∙ ap (λ (j : ℕ). at c (pv j)) t-is in
        let d-low : d < p = omega (arith, ed, below_last h.lists t (twin-low t a ea et)) in
        let x-is : x ≡ at w (stamps + d) = ex ∙ same-below (stamps + d) (omega arith) in
        let m-is : m ≡ sides (triangles c) v (across c p w k) = em ∙ ap (λ (j : ℕ). one (eqb j (v + 1))) x-is ∙ stamp-joined c p w stamps v d h.lists h.closed d-low s ∙ ap (sides (triangles c) v) d-is in
        let j = across-link w'' m r f i in
        let at-k : AcrossOf c p marks v k w w' = subst (λ (o : ℕ). AcrossOf c p marks v (spot (length c) o) w w') e g.done in
        record {
          onward = (onward-next (λ k (o : ℕ). o) c v 0 q r k e g.onward j).0;
          done = subst (AcrossOf c p marks v (spot (length c) r) w) (sym f) (across_turn c p marks v q r k m w w' h.room e g.onward j m-is at-k);
        }

    pub acrossing_less : (w'' : List ℕ) (m r : ℕ) → w'' ≡ set w' (marks + k) m → r ≡ at w'' (chains + p + k) → length c - spot (length c) r < length c - spot (length c) q
    acrossing_less w'' m r f i = onward-less c v q r k e g.onward (across-link w'' m r f i)

-- ---- mark_sides_of

pub record Sidings (c : List ℕ) (p marks v q : ℕ) (w w' : List ℕ) : Type 0 where
  pub onward : Onward c v q
  pub done : MarkedOf c p marks v (spot (length c) q) w w'

module _ (c : List ℕ) (p : ℕ) (w : List ℕ) (chains stamps marks v : ℕ) (h : Marking c p w chains stamps marks) (l : v < p) where
  pub sidings_first : (q : ℕ) → q ≡ at w (chains + v) → Sidings c p marks v q w w
  sidings_first q e =
      let f = e ∙ h.chained.heads v l in
      record { onward = (onward-start (λ k (n : ℕ). n) c v 0 q f).0; done = record { keeps = keeps-none c marks w; done = upto_start (Settled c p marks w w) c v q f } }

  pub sidings_kept : (q : ℕ) (w' : List ℕ) → Sidings c p marks v q w w' → Marking c p w' chains stamps marks
  sidings_kept q w' g = marking-kept w' g.done.keeps.len (λ j m. g.done.keeps.under j (omega (arith, h.third))) h

  pub sidings_stamped : (q : ℕ) (w' : List ℕ) → Sidings c p marks v q w w' → Stamped c p w stamps v → Stamped c p w' stamps v
  sidings_stamped q w' g s =
      let same : (x : ℕ) → x < p → at w' (stamps + x) ≡ at w (stamps + x) = λ x m. g.done.keeps.under (stamps + x) (omega (arith, h.third)) in
      record {
        known = λ k m e. same (at c (nx k)) (below_next h.lists k m) ∙ s.known k m e;
        found = λ x m e. s.found x m (sym (same x m) ∙ e);
        low = λ x m. let z = same x m in let y = s.low x m in omega arith;
      }

  module _ (q k : ℕ) (w' w'' : List ℕ) (e : q ≡ suc k) (g : Sidings c p marks v q w w') (b : Marked c p marks k w' w'') where
    mine : (at c k ≡ v) × (k < length c)
    mine = g.onward.names k e

    pub sidings_link : (r : ℕ) → r ≡ at w'' (chains + p + k) → r ≡ from c v (suc k) (length c - suc k)
    sidings_link r i =
        let a = mine.1 in let z = h.second in let y = h.third in
        i ∙ b.keeps.under (chains + p + k) (omega arith) ∙ g.done.keeps.under (chains + p + k) (omega arith) ∙ h.chained.links k a ∙ ap (λ (x : ℕ). from c x (suc k) (length c - suc k)) mine.0

    pub sidings_next : (r : ℕ) → r ≡ at w'' (chains + p + k) → Sidings c p marks v r w w''
    sidings_next r i =
        let j = sidings_link r i in
        let a = mine.1 in let z = h.second in let y = h.third in let x = h.first in
        let same : at w' (p * 3 + length c + k) ≡ at w (p * 3 + length c + k) = g.done.keeps.under (p * 3 + length c + k) (omega arith) in
        let old : Upto (Settled c p marks w w'') c v k = λ m d n. settled_more p w m b.keeps (g.done.done m (subst (λ (o : ℕ). m < spot (length c) o) (sym e) d) n) in
        let new : Settled c p marks w w'' k = λ u. let f = b.done u in (f.0, subst (Right c marks w'') same f.1) in
        record {
          onward = (onward-next (λ k (o : ℕ). o) c v 0 q r k e g.onward j).0;
          done = record { keeps = keeps-more g.done.keeps b.keeps; done = upto_next (Settled c p marks w w'') c v q r k e g.onward j old new };
        }

    pub sidings_less : (r : ℕ) → r ≡ at w'' (chains + p + k) → length c - spot (length c) r < length c - spot (length c) q
    sidings_less r i = onward-less c v q r k e g.onward (sidings_link r i)

-- ---- mark_side

module _ (c : List ℕ) (p : ℕ) (w : List ℕ) (chains stamps marks v k : ℕ) (h : Marking c p w chains stamps marks) (l : k < length c) (e : at c k ≡ v) where
  pub corner-low : v < p
  corner-low = omega (arith, e, h.lists.below k l)

  pub other_low : (b : ℕ) → b ≡ at c (nx k) → b < p
  other_low b f = omega (arith, f, below_next h.lists k l)

  pub place-low : (t : ℕ) → t ≡ at w (p * 3 + length c + k) → t < length c
  place-low t f = subst (λ (x : ℕ). x < length c) (sym f) (h.twins k l).low

  pub side_skipped : (b m n : ℕ) → b ≡ at c (nx k) → m ≡ at w (p + v) → n ≡ at w (p + b) → m < n → Marked c p marks k w w
  side_skipped b m n f i j z =
      let x = h.valences v corner-low in
      let y = h.valences b (other_low b f) in
      let q : uses c v (length c) ≡ uses c (at c k) (length c) = ap (λ (u : ℕ). uses c u (length c)) (sym e) in
      let r : uses c b (length c) ≡ uses c (at c (nx k)) (length c) = ap (λ (u : ℕ). uses c u (length c)) f in
      marked-none c p marks k w (omega arith)

  pub side-done : (b t x y f : ℕ) (r : Bool) (w₁ w₂ : List ℕ) → Stamped c p w stamps v → b ≡ at c (nx k) → t ≡ at w (p * 3 + length c + k) → x ≡ at c (pv k) → y ≡ at c (pv t) → Told c w stamps (v + 1) b x y r → f ≡ bool_byte r → w₁ ≡ set w (marks + k) f → w₂ ≡ set w₁ (marks + t) f → Marked c p marks k w w₂
  side-done b t x y f r w₁ w₂ s eb et ex ey told ef e₁ e₂ =
      let tw : Twin c k t = subst (Twin c k) (sym et) (h.twins k l) in
      let told' : Told c w stamps (v + 1) (at c (nx k)) (at c (pv k)) (at c (pv t)) r = subst (λ (z : ℕ). Told c w stamps (v + 1) (at c (nx k)) (at c (pv k)) z r) ey (subst (λ (z : ℕ). Told c w stamps (v + 1) (at c (nx k)) z y r) ex (subst (λ (z : ℕ). Told c w stamps (v + 1) z x y r) eb told)) in
      let is : f ≡ one (lone c k) = ef ∙ bit_one r ∙ ap one (told_lone c p w stamps v k t r h.lists h.closed l e tw s told') in
      subst (Marked c p marks k w) (sym (e₂ ∙ ap (λ (u : List ℕ). set u (marks + t) f) e₁)) (marked_turn c p marks k t f w h.lists.thirds h.closed l h.room et tw is)

-- ---- the loops over the corners

module _ (c : List ℕ) (p : ℕ) (w₀ : List ℕ) (chains stamps marks v : ℕ) (h : Marking c p w₀ chains stamps marks) (w : List ℕ) (len : length w ≡ length w₀) (under : (j : ℕ) → j < stamps → at w j ≡ at w₀ j) where
  pub turn_kept : Marking c p w chains stamps marks
  turn_kept = marking-kept w len under h

  pub turn_stamping : (w₁ : List ℕ) → w₁ ≡ walk (stamp_at c stamps v) c v (length c) w → Stamping c p stamps v (length c) w w₁
  turn_stamping w₁ e = subst (Stamping c p stamps v (length c) w) (sym e) (stamping c p stamps v (length c) w h.lists (omega arith) (omega (arith, h.third, h.room)))

  pub turn_marking : (w₁ : List ℕ) → w₁ ≡ walk (stamp_at c stamps v) c v (length c) w → Marking c p w₁ chains stamps marks
  turn_marking w₁ e = let s = turn_stamping w₁ e in marking-kept w₁ (s.len ∙ len) (λ j l. s.under j l ∙ under j l) h

  pub turn_stamped : (w₁ : List ℕ) → w₁ ≡ walk (stamp_at c stamps v) c v (length c) w → ((x : ℕ) → x < p → at w (stamps + x) ≤ v) → Stamped c p w₁ stamps v
  turn_stamped w₁ e low = stamped_of c p stamps v w w₁ h.lists low (turn_stamping w₁ e)

cleared_free : {stamps p : ℕ} {w w₀ : List ℕ} (marks n : ℕ) → stamps + p ≤ marks → Cleared stamps p w w₀ → Free stamps (marks + n) w w₀
cleared_free marks n l d = record { len = d.len; under = d.under; over = λ j m. d.over j (omega arith) }

pub sides_end : (c : List ℕ) (p : ℕ) (w w₀ w' : List ℕ) (chains stamps marks v : ℕ) → v ≡ p → Marking c p w₀ chains stamps marks → Cleared stamps p w w₀ → MarkedBelow c p stamps marks v w₀ w' → SidesMarked c stamps marks w w'
sides_end c p w w₀ w' chains stamps marks v e h d m =
    let a = marked_all c p stamps marks w₀ w' h.lists h.closed h.twins (subst (λ (n : ℕ). MarkedBelow c p stamps marks n w₀ w') e m) in
    record { each = a.each; rest = free_more (cleared_free marks (length c) h.third d) a.rest }

pub across_end : (c : List ℕ) (p : ℕ) (w w₀ w' : List ℕ) (chains stamps marks v : ℕ) → v ≡ p → Marking c p w₀ chains stamps marks → Cleared stamps p w w₀ → AcrossBelow c p stamps marks v w₀ w' → AcrossBelow c p stamps marks p w w'
across_end c p w w₀ w' chains stamps marks v e h d m =
    let a = subst (λ (n : ℕ). AcrossBelow c p stamps marks n w₀ w') e m in
    record {
      rest = free_more (cleared_free marks (length c) h.third d) a.rest;
      low = a.low;
      done = λ k l b. a.done k l b ∙ ap (λ (t : ℕ). sides (triangles c) (at c k) (at c (pv t))) (d.under (p * 3 + length c + nx k) (let z = nx-below (length c) k h.lists.thirds l in omega (arith, h.first, h.second)));
    }

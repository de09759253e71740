-- What the needs of the functions ask, over plain lists with equations as arguments.
use Prim.Native.Nat.{ℕ, suc, ◌+◌, ◌*◌, ◌-◌, ◌/◌, ◌%◌, ◌<◌, ◌≤◌}
use native.Mathlib.Omega.{arith}
use mathlib.Core.Path.{◌≡◌, refl, sym, ap, ap₂, ◌∙◌, subst}
use mathlib.Core.Logic.{◌⊎◌, inl, inr}
use mathlib.Core.Bool.{Bool, true, false, not, ◌&&◌, ◌||◌, cond}
use mathlib.Core.List.{List}
use lib.Dec.{eqb}
use lib.ListN.{length, get_or, set}
use lib.Ieee as Ieee
use lib.Ieee.{Float, inf, binary64, of_bits, nan_bits}
use borrow.Author.Tests.{eq-eqb, ne_eqb}
use Rattle.float.specs.Order.{lesser, within}
use Rattle.float.proofs.Below.{within-below}
use Rattle.surface.specs.Triangle.{Tri, tri, triangles, names}
use Rattle.surface.specs.Closed.{one}
use Rattle.surface.specs.Edit.{place, put, renamed}
use Rattle.surface.proofs.Bools.{true_false, both, not_true}
use Rattle.surface.proofs.Flat.{place-triangles}
use Rattle.history.specs.History.{covered}
use Rattle.rounds.specs.Pass.{State}
use Rattle.rounds.specs.Choices.{collapse_step}
use Rattle.halfedges.specs.Place.{nx, pv, at, uses}
use Rattle.halfedges.proofs.Whole.{closed_differing}
use Rattle.sides.specs.Side.{Twin}
use Rattle.halfedges.proofs.Free.{free_none, free_more}
use Rattle.chains.specs.Chain.{from, walk}
use Rattle.chains.proofs.Chain.{walk_here, spot, Onward, onward-start, onward-next, onward-less, Upto, upto_start, upto_next}
use Rattle.chains.specs.Common.{lone}
use Rattle.chains.specs.Marks.{Walking}
use Rattle.chains.proofs.Marks.{below_next}
use Rattle.oracle.specs.Number.{floor_low, floor_high}
use Rattle.oracle.specs.Scene.{Scene, score}
use Rattle.oracle.specs.Slivers.{worst, fit, valid, least, pass}
use Rattle.scores.specs.Measures.{side_at}
use Rattle.slivers.specs.Cover.{Covers}
use Rattle.slivers.proofs.Covering.{covers_covered}
use Rattle.slivers.specs.Touch.{is_touched, touch_at}
use Rattle.slivers.proofs.Touching.{Touching, touching, names-among}
use Rattle.slivers.specs.Trials.{tri_of, label_of, falls, ok_at, step_at, tried, trials}
use Rattle.slivers.proofs.Trials.{walk-least, places-valid, valid-places}
use Rattle.slivers.specs.Stand.{pair_of, Stands}
use Rattle.slivers.proofs.Stand.{Collapsed, collapse-len, collapse-under, collapse-over, stands_collapse}
use Rattle.slivers.specs.Decide.{step_of, may_at, attempted, keeping, way_of}
use Rattle.slivers.specs.declared.Collapse.{Collapse}
use Rattle.slivers.proofs.Decide.{chosen, way-ends, step-off, step-way, pass-more}
use Rattle.slivers.specs.Ready.{Ready, Walks, collapsed_words, Advance, candidates_in, Passing, Items}
use Rattle.std.specs.Prelude.{Option, Some, None}

-- ---- labels

-- ---- put_for, moved_score

pub put_yes : (a b x : ℕ) → x ≡ b → a ≡ put a b x
put_yes a b x e = sym (ap (λ (t : Bool). cond t a x) (eq-eqb x b e))

pub put_no : (a b x : ℕ) → (x ≡ b → ⊥) → x ≡ put a b x
put_no a b x e = sym (ap (λ (t : Bool). cond t a x) (ne_eqb x b e))

pub moved-is : (s : Scene) (c ls : List ℕ) (a b i u v w x y z : ℕ) → i * 3 + 2 < length c → u ≡ at c (i * 3) → v ≡ at c (i * 3 + 1) → w ≡ at c (i * 3 + 2) → x ≡ put a b u → y ≡ put a b v → z ≡ put a b w
    → score s (tri x y z) (get_or ls i 0) ≡ score s (renamed a b (place (triangles c) i)) (get_or ls i 0)
moved-is s c ls a b i u v w x y z l eu ev ew ex ey ez =
    let q : i * 3 ≡ 3 * i = omega arith in
    let e : place (triangles c) i ≡ tri (at c (3 * i)) (at c (3 * i + 1)) (at c (3 * i + 2)) = place-triangles c i (omega arith) in
    let f : tri x y z ≡ renamed a b (tri (at c (3 * i)) (at c (3 * i + 1)) (at c (3 * i + 2))) = rw (ex, ey, ez, eu, ev, ew, q) refl in
    ap (λ (t : Tri). score s t (get_or ls i 0)) (f ∙ ap (renamed a b) (sym e))

-- ---- try_place

floor-reached : (q own : Float) → Ieee.le floor_high q ≡ true → Ieee.lt q (within own floor_low floor_high) ≡ false
unfolding Ieee.lt of_bits
floor-reached q own t = within-below q own floor_low floor_high refl refl t

module _ (s : Scene) (c ls : List ℕ) (a b k : ℕ) (m : Float) (h : length c % 3 ≡ 0) (l : k < length c) (e : at c k ≡ b) (n : b ≡ a → ⊥) where
  off : eqb (at c k) a ≡ false
  off = ne_eqb (at c k) a (λ z. n (sym e ∙ z))

  names-is : names (tri_of c k) a ≡ (eqb (at c (nx k)) a || eqb (at c (pv k)) a)
  names-is = names-among c k a h l ∙ ap (λ (t : Bool). t || (eqb (at c (nx k)) a || eqb (at c (pv k)) a)) off

  -- by whether the triangle names a, and whether it falls
  abbrev tested : Bool → Bool → Option Float
  tested t u = cond (not (not t && u)) (Some (cond t m (lesser m (score s (renamed a b (tri_of c k)) (label_of ls k))))) None

  on-side : names (tri_of c k) a ≡ true → Some m ≡ tried s c ls a b k m
  on-side q = sym (ap (λ (t : Bool). tested t (falls s a b (tri_of c k) (label_of ls k))) q)

  pub tried-ahead : (x : ℕ) → x ≡ at c (nx k) → x ≡ a → Some m ≡ tried s c ls a b k m
  tried-ahead x f g = on-side (names-is ∙ ap (λ (t : Bool). t || eqb (at c (pv k)) a) (eq-eqb (at c (nx k)) a (sym f ∙ g)))

  pub tried-behind : (x : ℕ) → x ≡ at c (pv k) → x ≡ a → Some m ≡ tried s c ls a b k m
  tried-behind x f g = on-side (names-is ∙ last (eqb (at c (nx k)) a) (eqb (at c (pv k)) a) (eq-eqb (at c (pv k)) a (sym f ∙ g)))
    where
      last : (p q : Bool) → q ≡ true → (p || q) ≡ true
      last true q r = refl
      last false q r = r

  module _ (x y : ℕ) (ex : x ≡ at c (nx k)) (ey : y ≡ at c (pv k)) (nx-off : x ≡ a → ⊥) (pv-off : y ≡ a → ⊥) (q own f : Float) (eq : q ≡ score s (renamed a b (tri_of c k)) (label_of ls k)) (eo : own ≡ score s (tri_of c k) (label_of ls k)) (ef : f ≡ within own floor_low floor_high) where
    not_named : names (tri_of c k) a ≡ false
    not_named = names-is ∙ ap₂ ◌||◌ (ne_eqb (at c (nx k)) a (λ z. nx-off (ex ∙ z))) (ne_eqb (at c (pv k)) a (λ z. pv-off (ey ∙ z)))

    falls-is : Ieee.lt q f ≡ falls s a b (tri_of c k) (label_of ls k)
    falls-is = ap₂ Ieee.lt eq (ef ∙ ap (λ (u : Float). within u floor_low floor_high) eo)

    pub tried-low : Ieee.lt q f ≡ true → None ≡ tried s c ls a b k m
    tried-low t = sym (ap₂ tested not_named (sym falls-is ∙ t))

    pub tried-high : (r : Float) → Ieee.lt q f ≡ false → r ≡ lesser m q → Some r ≡ tried s c ls a b k m
    tried-high r t g = ap Some (g ∙ ap (lesser m) eq) ∙ sym (ap₂ tested not_named (sym falls-is ∙ t))

  -- a shape that reaches the highest floor is above any: the triangle's own need not be known
  pub tried-fine : (x y : ℕ) → x ≡ at c (nx k) → y ≡ at c (pv k) → (x ≡ a → ⊥) → (y ≡ a → ⊥) → (q r : Float) → q ≡ score s (renamed a b (tri_of c k)) (label_of ls k) → Ieee.le floor_high q ≡ true → r ≡ lesser m q → Some r ≡ tried s c ls a b k m
  tried-fine x y ex ey nx-off pv-off q r eq t g =
      let own = score s (tri_of c k) (label_of ls k) in
      tried-high x y ex ey nx-off pv-off q own (within own floor_low floor_high) eq refl refl r (floor-reached q own t) g

-- ---- try_places

some_when : (t : Bool) (x y : Float) → Some x ≡ cond t (Some y) None → (t ≡ true) × (x ≡ y)
some_when true x y e = (refl, cc)
some_when false x y e = cc

none_when : (t : Bool) (y : Float) → None ≡ cond t (Some y) None → t ≡ false
none_when true y e = cc
none_when false y e = refl

pub record Trying (s : Scene) (c ls : List ℕ) (a b q : ℕ) (m : Float) : Type 0 where
  pub onward : Onward c b q
  pub ok : (k : ℕ) → k < spot (length c) q → at c k ≡ b → ok_at s c ls a b k ≡ true
  pub is : m ≡ walk (step_at s c ls a b) c b (spot (length c) q) (inf false)

module _ (s : Scene) (c ls : List ℕ) (p : ℕ) (w : List ℕ) (chains a b n : ℕ) (h : Walks c p w chains a b n) where
  pub trying_first : (q : ℕ) (m : Float) → q ≡ at w (chains + b) → m ≡ inf false → Trying s c ls a b q m
  trying_first q m e f =
      let g = e ∙ h.chained.heads b h.remove in
      let o = onward-start (step_at s c ls a b) c b (inf false) q g in
      record { onward = o.0; ok = upto_start (λ k. ok_at s c ls a b k ≡ true) c b q g; is = f ∙ sym o.1 }

  module _ (q k : ℕ) (m : Float) (e : q ≡ suc k) (t : Trying s c ls a b q m) where
    own : (at c k ≡ b) × (k < length c)
    own = t.onward.names k e

    link : (r : ℕ) → r ≡ at w (chains + p + k) → r ≡ from c b (suc k) (length c - suc k)
    link r i = i ∙ h.chained.links k own.1 ∙ ap (λ (x : ℕ). from c x (suc k) (length c - suc k)) own.0

    pub trying_next : (r : ℕ) (x : Float) → r ≡ at w (chains + p + k) → Some x ≡ tried s c ls a b k m → Trying s c ls a b r x
    trying_next r x i d =
        let j = link r i in
        let z = some_when (ok_at s c ls a b k) x (step_at s c ls a b k m) d in
        let o = onward-next (step_at s c ls a b) c b (inf false) q r k e t.onward j in
        let u : Upto (λ k. ok_at s c ls a b k ≡ true) c b k = λ v y. t.ok v (subst (λ (z : ℕ). v < spot (length c) z) (sym e) y) in
        let here : walk (step_at s c ls a b) c b k (inf false) ≡ m = ap (λ (z : ℕ). walk (step_at s c ls a b) c b (spot (length c) z) (inf false)) (sym e) ∙ sym t.is in
        record {
          onward = o.0;
          ok = upto_next (λ k. ok_at s c ls a b k ≡ true) c b q r k e t.onward j u z.0;
          is = z.1 ∙ ap (step_at s c ls a b k) (sym here) ∙ sym o.1;
        }

    pub trying_less : (r : ℕ) → r ≡ at w (chains + p + k) → length c - spot (length c) r < length c - spot (length c) q
    trying_less r i = onward-less c b q r k e t.onward (link r i)

    pub trying_no : length c % 3 ≡ 0 → length ls * 3 ≡ length c → None ≡ tried s c ls a b k m → None ≡ trials s c ls a b
    trying_no th sz d = go (valid s (triangles c) ls a b) refl
      where
        go : (v : Bool) → valid s (triangles c) ls a b ≡ v → None ≡ trials s c ls a b
        go true f = absurd (true_false (valid-places s c ls a b th sz f k own.1 own.0) (none_when (ok_at s c ls a b k) (step_at s c ls a b k m) d))
        go false f = sym (ap (λ (v : Bool). cond v (Some (least s a b (inf false) (triangles c) ls)) None) f)

  pub trying_yes : (q : ℕ) (m : Float) → length c % 3 ≡ 0 → length ls * 3 ≡ length c → q ≡ 0 → Trying s c ls a b q m → Some m ≡ trials s c ls a b
  trying_yes q m th sz z t =
      ap Some (t.is ∙ ap (λ (x : ℕ). walk (step_at s c ls a b) c b (spot (length c) x) (inf false)) z ∙ walk-least s c ls a b th sz (closed_differing c th h.closed) (inf false))
      ∙ sym (ap (λ (v : Bool). cond v (Some (least s a b (inf false) (triangles c) ls)) None) (places-valid s c ls a b th sz (λ k l. t.ok k (subst (λ (x : ℕ). k < spot (length c) x) (sym z) l))))

-- ---- attempt, direction

module _ (s : Scene) (ps : List Float) (c ls : List ℕ) (p : ℕ) (w : List ℕ) (chains carried marks touched : ℕ) (h : Ready ps c ls p w chains carried marks touched) (a b : ℕ) (la : a < p) (lb : b < p) where
  covered-is : (r : Bool) → Covers w carried a b r → r ≡ covered (pair_of c ls) a b
  covered-is r k = covers_covered c ls p w carried a b r la lb h.labelled h.carries k

  abbrev fitting : Bool → Option Float
  fitting u = cond (u && valid s (triangles c) ls a b) (Some (worst s (pair_of c ls) a b)) None

  pub attempt_yes : (o : Option Float) → Covers w carried a b true → o ≡ trials s c ls a b → o ≡ attempted s (pair_of c ls) a b
  unfolding fit
  attempt_yes o k e = e ∙ ap fitting (covered-is true k)

  pub attempt_no : Covers w carried a b false → None ≡ attempted s (pair_of c ls) a b
  unfolding fit
  attempt_no k = ap fitting (covered-is false k)

-- ---- touch

pub touched-is : (c : List ℕ) (touched k x y z : ℕ) (w w₁ w₂ w₃ : List ℕ) → x ≡ at c k → y ≡ at c (nx k) → z ≡ at c (pv k) → w₁ ≡ set w (touched + x) 1 → w₂ ≡ set w₁ (touched + y) 1 → w₃ ≡ set w₂ (touched + z) 1 → w₃ ≡ touch_at c touched k w
touched-is c touched k x y z w w₁ w₂ w₃ ex ey ez e₁ e₂ e₃ =
    e₃ ∙ ap₂ (λ (u : List ℕ) (i : ℕ). set u (touched + i) 1) (e₂ ∙ ap₂ (λ (u : List ℕ) (i : ℕ). set u (touched + i) 1) (e₁ ∙ ap (λ (i : ℕ). set w (touched + i) 1) ex) ey) ez

pub record Touches (c : List ℕ) (v q : ℕ) (w w' : List ℕ) (touched : ℕ) : Type 0 where
  pub onward : Onward c v q
  pub is : w' ≡ walk (touch_at c touched) c v (spot (length c) q) w

module _ (c : List ℕ) (p : ℕ) (w : List ℕ) (chains touched v : ℕ) (h : Walking c p w chains touched) (l : v < p) where
  pub touches-first : (q : ℕ) → q ≡ at w (chains + v) → Touches c v q w w touched
  touches-first q e = let o = onward-start (touch_at c touched) c v w q (e ∙ h.chained.heads v l) in record { onward = o.0; is = sym o.1 }

  pub touches-state : (q : ℕ) (w' : List ℕ) → Touches c v q w w' touched → Touching c p touched h.lists v (spot (length c) q) w w'
  touches-state q w' s = subst (Touching c p touched h.lists v (spot (length c) q) w) (sym s.is) (touching c p touched h.lists v (spot (length c) q) w s.onward.low h.room)

  module _ (q k : ℕ) (w' w'' : List ℕ) (r : ℕ) (e : q ≡ suc k) (s : Touches c v q w w' touched) (g : w'' ≡ touch_at c touched k w') (i : r ≡ at w'' (chains + p + k)) where
    mine : (at c k ≡ v) × (k < length c)
    mine = s.onward.names k e

    next-state : w'' ≡ walk (touch_at c touched) c v (suc k) w
    next-state =
        let z : walk (touch_at c touched) c v k w ≡ w' = ap (λ (n : ℕ). walk (touch_at c touched) c v (spot (length c) n) w) (sym e) ∙ sym s.is in
        g ∙ ap (touch_at c touched k) (sym z) ∙ sym (walk_here (touch_at c touched) c v w k mine.0)

    touch_link : r ≡ from c v (suc k) (length c - suc k)
    touch_link =
        let m = mine.1 in
        let n = h.order in
        let u = touching c p touched h.lists v (suc k) w m h.room in
        i ∙ ap (λ (x : List ℕ). at x (chains + p + k)) next-state ∙ u.under (chains + p + k) (omega arith) ∙ h.chained.links k m ∙ ap (λ (y : ℕ). from c y (suc k) (length c - suc k)) mine.0

    pub touches-next : Touches c v r w w'' touched
    touches-next =
        let o = onward-next (touch_at c touched) c v w q r k e s.onward touch_link in
        let z : walk (touch_at c touched) c v k w ≡ w' = ap (λ (n : ℕ). walk (touch_at c touched) c v (spot (length c) n) w) (sym e) ∙ sym s.is in
        record { onward = o.0; is = g ∙ ap (touch_at c touched k) (sym z) ∙ sym o.1 }

    pub touches-less : length c - spot (length c) r < length c - spot (length c) q
    touches-less = onward-less c v q r k e s.onward touch_link

-- the words of a walk that touches keep the chains
pub walking_kept : (c : List ℕ) (p : ℕ) (w w' : List ℕ) (chains touched v : ℕ) → Walking c p w chains touched → w' ≡ walk (touch_at c touched) c v (length c) w → Walking c p w' chains touched
walking_kept c p w w' chains touched v h e =
    let t : Touching c p touched h.lists v (length c) w w' = subst (Touching c p touched h.lists v (length c) w) (sym e) (touching c p touched h.lists v (length c) w (omega arith) h.room) in
    let o = h.order in
    record {
      lists = h.lists;
      chained = record { heads = λ u l. t.under (chains + u) (omega arith) ∙ h.chained.heads u l; links = λ k l. t.under (chains + p + k) (omega arith) ∙ h.chained.links k l };
      order = h.order;
      room = omega (arith, h.room, t.len);
    }

-- ---- may_collapse

module _ (c w : List ℕ) (touched k : ℕ) where
  free : (a m : ℕ) → a ≡ at c k → m ≡ at w (touched + a) → m ≡ 0 → is_touched w touched (at c k) ≡ false
  free a m ea em z = ap not (eq-eqb (at w (touched + at c k)) 0 (sym (em ∙ ap (λ (i : ℕ). at w (touched + i)) ea) ∙ z))

  free_b : (b m : ℕ) → b ≡ at c (nx k) → m ≡ at w (touched + b) → m ≡ 0 → is_touched w touched (at c (nx k)) ≡ false
  free_b b m eb em z = ap not (eq-eqb (at w (touched + at c (nx k))) 0 (sym (em ∙ ap (λ (i : ℕ). at w (touched + i)) eb) ∙ z))

  unbit : (t : Bool) → one t ≡ 0 → t ≡ false
  unbit true e = absurd (let z : ◌≡◌ {A = ℕ} 1 0 = e in omega arith)
  unbit false e = refl

  onbit : (t : Bool) → (one t ≡ 0 → ⊥) → t ≡ true
  onbit true e = refl
  onbit false e = absurd (e refl)

  module _ (a b m₁ m₂ m₃ : ℕ) (ea : a ≡ at c k) (eb : b ≡ at c (nx k)) (e₁ : m₁ ≡ at w (touched + a)) (z₁ : m₁ ≡ 0) (e₂ : m₂ ≡ at w (touched + b)) (z₂ : m₂ ≡ 0) (e₃ : m₃ ≡ one (lone c k)) (z₃ : m₃ ≡ 0 → ⊥) where
    opened : may_at c w touched k ≡ not (eqb (uses c (at c k) (length c)) 3 && eqb (uses c (at c (nx k)) (length c)) 3)
    opened =
        ap (λ (t : Bool). not t && (not (is_touched w touched (at c (nx k))) && (lone c k && not (eqb (uses c (at c k) (length c)) 3 && eqb (uses c (at c (nx k)) (length c)) 3)))) (free a m₁ ea e₁ z₁)
        ∙ ap (λ (t : Bool). not t && (lone c k && not (eqb (uses c (at c k) (length c)) 3 && eqb (uses c (at c (nx k)) (length c)) 3))) (free_b b m₂ eb e₂ z₂)
        ∙ ap (λ (t : Bool). t && not (eqb (uses c (at c k) (length c)) 3 && eqb (uses c (at c (nx k)) (length c)) 3)) (onbit (lone c k) (λ z. z₃ (e₃ ∙ z)))

    pub may_four : (x y : ℕ) → x ≡ uses c a (length c) → x ≡ 3 → y ≡ uses c b (length c) → not (eqb y 3) ≡ may_at c w touched k
    may_four x y ex zx ey =
        ap (λ (t : ℕ). not (eqb t 3)) (ey ∙ ap (λ (i : ℕ). uses c i (length c)) eb)
        ∙ sym (opened ∙ ap (λ (t : Bool). not (t && eqb (uses c (at c (nx k)) (length c)) 3)) (eq-eqb (uses c (at c k) (length c)) 3 (ap (λ (i : ℕ). uses c i (length c)) (sym ea) ∙ sym ex ∙ zx)))

    pub may_five : (x : ℕ) → x ≡ uses c a (length c) → (x ≡ 3 → ⊥) → true ≡ may_at c w touched k
    may_five x ex zx = sym (opened ∙ ap (λ (t : Bool). not (t && eqb (uses c (at c (nx k)) (length c)) 3)) (ne_eqb (uses c (at c k) (length c)) 3 (λ z. zx (ex ∙ ap (λ (i : ℕ). uses c i (length c)) ea ∙ z))))

-- ---- collapse_side

-- ---- collapse_candidate

module _ (s : Scene) (ps : List Float) (c ls : List ℕ) (p : ℕ) (w : List ℕ) (chains carried marks touched : ℕ) (h : Ready ps c ls p w chains carried marks touched) (k : ℕ) (l : k < length c) where
  t : ℕ
  t = at w (p * 3 + length c + k)

  tw : Twin c k (at w (p * 3 + length c + k))
  tw = h.twins k l

  pub advance_none : may_at c w touched k ≡ false → Advance s c ls p touched (side_at c k) w w
  advance_none e = record {
    rest = free_none w;
    step = λ st g. subst (Stands c (length ls) p touched w) (sym (step-off c ls p touched h.lists h.closed k (at w (p * 3 + length c + k)) l tw (length ls) w st g s e)) g;
  }

  module _ (a b : ℕ) (ea : a ≡ at c k) (eb : b ≡ at c (nx k)) (r : Option Collapse) (v : r ≡ way_of (keeping a b) (keeping b a) (attempted s (pair_of c ls) a b) (attempted s (pair_of c ls) b a)) (e : may_at c w touched k ≡ true) where
    way : r ≡ way_of (keeping (at c k) (at c (nx k))) (keeping (at c (nx k)) (at c k)) (attempted s (pair_of c ls) (at c k) (at c (nx k))) (attempted s (pair_of c ls) (at c (nx k)) (at c k))
    way = v ∙ ap₂ (λ (x y : ℕ). way_of (keeping x y) (keeping y x) (attempted s (pair_of c ls) x y) (attempted s (pair_of c ls) y x)) ea eb

    step_is : (st : State) → Stands c (length ls) p touched w st → step_of true s (pair_of c ls) st (side_at c k) ≡ chosen r (collapse_step (pair_of c ls) st) st
    step_is st g = step-way c ls p touched h.lists h.closed k (at w (p * 3 + length c + k)) l tw (length ls) w st g s e ∙ ap (λ (o : Option Collapse). chosen o (collapse_step (pair_of c ls) st) st) (sym way)

    ends_of : (d : Collapse) → r ≡ Some d → ((d.keep ≡ at c k) × (d.remove ≡ at c (nx k))) ⊎ ((d.keep ≡ at c (nx k)) × (d.remove ≡ at c k))
    ends_of d z = way-ends (at c k) (at c (nx k)) d _ _ (sym way ∙ z)

    pub ends-low : (d : Collapse) → r ≡ Some d → (d.keep < p) × (d.remove < p)
    ends-low d z = pick (ends_of d z)
      where
        pick : ((d.keep ≡ at c k) × (d.remove ≡ at c (nx k))) ⊎ ((d.keep ≡ at c (nx k)) × (d.remove ≡ at c k)) → (d.keep < p) × (d.remove < p)
        pick (inl q) = let m = h.lists.below k l in let n = below_next h.lists k l in (omega (arith, q.0), omega (arith, q.1))
        pick (inr q) = let m = h.lists.below k l in let n = below_next h.lists k l in (omega (arith, q.0), omega (arith, q.1))

    pub advance_stays : r ≡ None → Advance s c ls p touched (side_at c k) w w
    advance_stays z = record {
      rest = free_none w;
      step = λ st g. subst (Stands c (length ls) p touched w) (sym (step_is st g ∙ ap (λ (o : Option Collapse). chosen o (collapse_step (pair_of c ls) st) st) z)) g;
    }

    -- a collapse with the ends in one order or the other
    module _ (x y : ℕ) (ends : ((x ≡ at c k) × (y ≡ at c (nx k))) ⊎ ((x ≡ at c (nx k)) × (y ≡ at c k))) (w' : List ℕ) (q : w' ≡ collapsed_words c p touched x y k (at w (p * 3 + length c + k)) w) where
      w₁ : List ℕ
      w₁ = walk (touch_at c touched) c x (length c) w

      size : length ls * 3 ≡ length c
      size = h.labelled.size

      room : touched + p ≤ length w
      room = omega (arith, h.room)

      one_touch : Touching c p touched h.lists x (length c) w (walk (touch_at c touched) c x (length c) w)
      one_touch = touching c p touched h.lists x (length c) w (omega arith) room

      d : Collapsed c ls (length ls) p touched h.lists h.closed size k (at w (p * 3 + length c + k)) l tw x y w (walk (touch_at c touched) c x (length c) w) (walk (touch_at c touched) c y (length c) (walk (touch_at c touched) c x (length c) w))
          (set (walk (touch_at c touched) c y (length c) (walk (touch_at c touched) c x (length c) w)) (touched + p + y) x)
          (set (set (walk (touch_at c touched) c y (length c) (walk (touch_at c touched) c x (length c) w)) (touched + p + y) x) (touched + p * 2 + k / 3) 1)
          (collapsed_words c p touched x y k (at w (p * 3 + length c + k)) w)
      d = record {
        one = one_touch;
        two = touching c p touched h.lists y (length c) (walk (touch_at c touched) c x (length c) w) (omega arith) (omega (arith, room, one_touch.len));
        three = refl;
        four = refl;
        five = refl;
      }

      untouched : (st : State) → Stands c (length ls) p touched w st → st.touched y ≡ false
      untouched st g = pick ends
        where
          pick : ((x ≡ at c k) × (y ≡ at c (nx k))) ⊎ ((x ≡ at c (nx k)) × (y ≡ at c k)) → st.touched y ≡ false
          pick (inl z) = ap st.touched z.1 ∙ g.marks (at c (nx k)) (below_next h.lists k l) ∙ not_true (is_touched w touched (at c (nx k))) (both (not (is_touched w touched (at c (nx k)))) (lone c k && not (eqb (uses c (at c k) (length c)) 3 && eqb (uses c (at c (nx k)) (length c)) 3)) (both (not (is_touched w touched (at c k))) (not (is_touched w touched (at c (nx k))) && (lone c k && not (eqb (uses c (at c k) (length c)) 3 && eqb (uses c (at c (nx k)) (length c)) 3))) e).1).0
          pick (inr z) = ap st.touched z.1 ∙ g.marks (at c k) (h.lists.below k l) ∙ not_true (is_touched w touched (at c k)) (both (not (is_touched w touched (at c k))) (not (is_touched w touched (at c (nx k))) && (lone c k && not (eqb (uses c (at c k) (length c)) 3 && eqb (uses c (at c (nx k)) (length c)) 3))) e).0

      advance_by : ((st : State) → Stands c (length ls) p touched w st → step_of true s (pair_of c ls) st (side_at c k) ≡ collapse_step (pair_of c ls) st x y) → Advance s c ls p touched (side_at c k) w w'
      advance_by f =
          let w₁ = walk (touch_at c touched) c x (length c) w in
          let w₂ = walk (touch_at c touched) c y (length c) w₁ in
          let w₃ = set w₂ (touched + p + y) x in
          let w₄ = set w₃ (touched + p * 2 + k / 3) 1 in
          let w₅ = collapsed_words c p touched x y k (at w (p * 3 + length c + k)) w in
          record {
            rest = record {
              len = ap length q ∙ collapse-len c ls (length ls) p touched h.lists h.closed size k (at w (p * 3 + length c + k)) l tw x y w w₁ w₂ w₃ w₄ w₅ h.room ends d;
              under = λ j m. ap (λ (u : List ℕ). at u j) q ∙ collapse-under c ls (length ls) p touched h.lists h.closed size k (at w (p * 3 + length c + k)) l tw x y w w₁ w₂ w₃ w₄ w₅ h.room ends d j m;
              over = λ j m. ap (λ (u : List ℕ). at u j) q ∙ collapse-over c ls (length ls) p touched h.lists h.closed size k (at w (p * 3 + length c + k)) l tw x y w w₁ w₂ w₃ w₄ w₅ h.room ends d j m;
            };
            step = λ st g. subst (Stands c (length ls) p touched w') (sym (f st g)) (subst (λ (u : List ℕ). Stands c (length ls) p touched u (collapse_step (pair_of c ls) st x y)) (sym q) (stands_collapse c ls (length ls) p touched h.lists h.closed size k (at w (p * 3 + length c + k)) l tw x y w w₁ w₂ w₃ w₄ w₅ h.room ends d st g (untouched st g)));
          }

    pub advance_takes : (d : Collapse) (u : ℕ) (w' : List ℕ) → r ≡ Some d → u ≡ at w (p * 3 + length c + k) → w' ≡ collapsed_words c p touched d.keep d.remove k u w → Advance s c ls p touched (side_at c k) w w'
    advance_takes d u w' z eu q = advance_by d.keep d.remove (ends_of d z) w' (q ∙ ap (λ (i : ℕ). collapsed_words c p touched d.keep d.remove k i w) eu)
        (λ st g. step_is st g ∙ ap (λ (o : Option Collapse). chosen o (collapse_step (pair_of c ls) st) st) z)

-- the ends of a side differ
pub ends-differ : {ps : List Float} {c ls : List ℕ} {p : ℕ} {w : List ℕ} {chains carried marks touched : ℕ} → Ready ps c ls p w chains carried marks touched → (k a b : ℕ) → k < length c → a ≡ at c k → b ≡ at c (nx k) → a ≡ b → ⊥
ends-differ {ps} {c} h k a b l ea eb z = closed_differing c h.lists.thirds h.closed k l (sym ea ∙ z ∙ eb)

-- ---- collapse_candidates

pub passing_first : (s : Scene) (c ls : List ℕ) (p sides items touched : ℕ) (w : List ℕ) → Passing s c ls p sides items touched w w 0
unfolding candidates_in pass
passing_first s c ls p sides items touched w = record { rest = free_none w; state = λ st g. g }

pub passing_turn : (s : Scene) (c ls : List ℕ) (p sides items touched n j i k : ℕ) (w w' w'' : List ℕ) → Items c w sides items n touched → j < n → i ≡ at w' (items + j) → k ≡ at w' (sides + i) → Passing s c ls p sides items touched w w' j → Advance s c ls p touched (side_at c k) w' w'' → Passing s c ls p sides items touched w w'' (j + 1)
unfolding candidates_in
passing_turn s c ls p sides items touched n j i k w w' w'' it l ei ek g a = subst (λ (m : ℕ). Passing s c ls p sides items touched w w'' m) z (record {
  rest = free_more g.rest a.rest;
  state = λ st q. subst (Stands c (length ls) p touched w'') (sym (pass-more true s (pair_of c ls) st (candidates_in c w sides items j) (side_at c (at w (sides + at w (items + j)))) ∙ ap (λ (x : ℕ). step_of true s (pair_of c ls) (pass true s (pair_of c ls) st (candidates_in c w sides items j)) (side_at c x)) (sym k-is))) (a.step (pass true s (pair_of c ls) st (candidates_in c w sides items j)) (g.state st q));
})
  where
    z : suc j ≡ j + 1
    z = omega arith

    i_is : i ≡ at w (items + j)
    i_is = ei ∙ g.rest.under (items + j) (omega (arith, it.order))

    k-is : k ≡ at w (sides + at w (items + j))
    k-is = ek ∙ ap (λ (x : ℕ). at w' (sides + x)) i_is ∙ g.rest.under (sides + at w (items + j)) (it.inside j l)

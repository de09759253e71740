-- What the calls of the functions without loops come to.
use Prim.Native.Nat.{ℕ, ◌+◌, ◌*◌, ◌/◌, ◌%◌, ◌<◌, ◌≤◌}
use native.Mathlib.Omega.{arith}
use mathlib.Core.Path.{◌≡◌, refl, sym, ap, ap₂, ◌∙◌, subst}
use mathlib.Core.Bool.{Bool, true, false, not, ◌&&◌, ◌||◌, cond, false≢true}
use mathlib.Core.List.{List}
use lib.Dec.{eqb, ltb}
use lib.ListN.{length, get_or, set}
use lib.Ieee as Ieee
use lib.Ieee.{Float, inf, binary64, of_bits, nan_bits, is_nan}
use borrow.Author.Tests.{eq-eqb, ne_eqb, lt-ltb, le-ltb}
use Rattle.float.specs.Order.{lesser, greater}
use Rattle.float.specs.Point.{plus}
use Rattle.float.proofs.Below.{lesser_lt, lesser_le, lesser-number}
use Rattle.surface.specs.Triangle.{tri}
use Rattle.halfedges.specs.Place.{nx, pv, at}
use Rattle.halfedges.proofs.Fine.{nx-below, pv-below}
use Rattle.sides.specs.Side.{Twin}
use Rattle.sorting.specs.Stable.{part}
use Rattle.oracle.specs.Number.{gain_least, shape_enough}
use Rattle.oracle.specs.Scene.{Scene, score}
use Rattle.sorting.proofs.Parts.{part_at, part_length}
use Rattle.scores.specs.Words.{float_at, Held}
use Rattle.scores.proofs.Words.{held}
use Rattle.scores.specs.Measures.{score_at}
use Rattle.flips.specs.declared.Quad.{Quad}
use Rattle.surface.specs.Flat.{put_at}
use Rattle.flips.specs.Quads.{quad_of, quad_at, begun_at, touches, evens_at, before_at, first_of, gains_of, improves_at, decides, flip_corners, touch_four, quad_in, decides_at, Tried, Ready, Within}

pub pv-room : (n k : ℕ) → n % 3 ≡ 0 → k < n → pv k < n
pv-room n k h l = pv-below n k h l

-- ---- quad_of, quad_at

module _ (w : List ℕ) (begun n j l : ℕ) (h : n % 3 ≡ 0) (j_low : j < n) (l-low : l < n) where
  pub quad_is : (x y z t a b m : ℕ) → x ≡ at w (begun + j) → a ≡ nx j → y ≡ at w (begun + a) → m ≡ pv j → z ≡ at w (begun + m) → b ≡ pv l → t ≡ at w (begun + b)
      → ◌≡◌ {A = Quad} (record { one = j / 3; two = l / 3; u = x; v = y; c = z; d = t; across = m }) (quad_of (begun_at w begun n) j l)
  quad_is x y z t a b m p e q f r g s =
      let u-is : x ≡ at (part w begun n) j = p ∙ sym (part_at w begun n j j_low) in
      let v-is : y ≡ at (part w begun n) (nx j) = q ∙ ap (λ (i : ℕ). at w (begun + i)) e ∙ sym (part_at w begun n (nx j) (nx-below n j h j_low)) in
      let c-is : z ≡ at (part w begun n) (pv j) = r ∙ ap (λ (i : ℕ). at w (begun + i)) f ∙ sym (part_at w begun n (pv j) (pv-below n j h j_low)) in
      let d-is : t ≡ at (part w begun n) (pv l) = s ∙ ap (λ (i : ℕ). at w (begun + i)) g ∙ sym (part_at w begun n (pv l) (pv-below n l h l-low)) in
      same x y z t m (at (part w begun n) j) (at (part w begun n) (nx j)) (at (part w begun n) (pv j)) (at (part w begun n) (pv l)) (pv j) u-is v-is c-is d-is f
    where
      same : (x y z t m x' y' z' t' m' : ℕ) → x ≡ x' → y ≡ y' → z ≡ z' → t ≡ t' → m ≡ m'
          → ◌≡◌ {A = Quad} (record { one = j / 3; two = l / 3; u = x; v = y; c = z; d = t; across = m }) (record { one = j / 3; two = l / 3; u = x'; v = y'; c = z'; d = t'; across = m' })
      same x y z t m x' y' z' t' m' p q r s e = rw (p, q, r, s, e) refl

module _ (f : ℕ → ℕ) (k t r : ℕ) (e : t ≡ r) (q : Quad) where
  pub quad_swapped : t < k → q ≡ quad_of f t k → q ≡ quad_at f k r
  quad_swapped l h = h ∙ sym (ap (λ (b : Bool). cond b (quad_of f t k) (quad_of f k t)) (lt-ltb t k l)) ∙ ap (quad_at f k) e

  pub quad_ahead : k ≤ t → q ≡ quad_of f k t → q ≡ quad_at f k r
  quad_ahead l h = h ∙ sym (ap (λ (b : Bool). cond b (quad_of f t k) (quad_of f k t)) (le-ltb t k l)) ∙ ap (quad_at f k) e

-- ---- the degrees

pub evens-is : (w : List ℕ) (degrees : ℕ) (q : Quad) (x y z t : ℕ) → x ≡ at w (degrees + q.u) → y ≡ at w (degrees + q.v) → z ≡ at w (degrees + q.c) → t ≡ at w (degrees + q.d) → ltb (z + t + 2) (x + y) ≡ evens_at w degrees q
evens-is w degrees q x y z t a b d e = ap₂ (λ (m n : ℕ). ltb (m + 2) n) (ap₂ (λ (m n : ℕ). m + n) d e) (ap₂ (λ (m n : ℕ). m + n) a b)

-- ---- the shapes

pub before-is : (w : List ℕ) (kept : ℕ) (q : Quad) (x y r : Float) → x ≡ float_at w (kept + q.one * 2) → y ≡ float_at w (kept + q.two * 2) → r ≡ lesser x y → r ≡ before_at w kept q
before-is w kept q x y r e f g = g ∙ ap₂ lesser e f

top_is : of_bits binary64 0x7ff0_0000_0000_0000 ≡ inf false
unfolding of_bits
top_is = refl

pub first-is : (s : Scene) (q : Quad) (l : ℕ) (x r : Float) → x ≡ score s (tri q.c q.d q.v) l → r ≡ lesser (of_bits binary64 0x7ff0_0000_0000_0000) x → r ≡ first_of s q l
first-is s q l x r e g = g ∙ ap₂ lesser top_is e

top_some : is_nan (inf false) ≡ false
unfolding is_nan
top_some = refl

-- ---- gains, improves

or_yes : (a b : Bool) → a ≡ true → true ≡ a || b
or_yes a b e = sym (ap (λ (x : Bool). x || b) e)

module _ (x : Float) (e : Bool) (y : Float) where
  gains_yes : Ieee.lt (plus x gain_least) y ≡ true → true ≡ gains_of x e y
  gains_yes g = or_yes (Ieee.lt (plus x gain_least) y) (e && Ieee.le (greater x shape_enough) y) g

-- what gains by the lesser of two shapes gains by the first
gains_first : (x : Float) (e : Bool) (m z : Float) → is_nan m ≡ false → gains_of x e (lesser m z) ≡ true → gains_of x e m ≡ true
gains_first x e m z n = by e (Ieee.lt (plus x gain_least) (lesser m z)) refl
  where
    last : (a b : Bool) → b ≡ true → a || b ≡ true
    last true b h = refl
    last false b h = h

    by : (e t : Bool) → Ieee.lt (plus x gain_least) (lesser m z) ≡ t → t || (e && Ieee.le (greater x shape_enough) (lesser m z)) ≡ true → gains_of x e m ≡ true
    by e true g h = sym (gains_yes x e m (lesser_lt (plus x gain_least) m z n g))
    by true false g h = last (Ieee.lt (plus x gain_least) m) (Ieee.le (greater x shape_enough) m) (lesser_le (greater x shape_enough) m z n h)
    by false false g h = absurd (false≢true h)

module _ (s : Scene) (w : List ℕ) (degrees kept : ℕ) (q : Quad) (l : ℕ) (x : Float) (e : Bool) (m : Float) (ex : x ≡ before_at w kept q) (ee : e ≡ evens_at w degrees q) (em : m ≡ first_of s q l) where
  pub improves-is : (z y : Float) (r : Bool) → z ≡ score s (tri q.d q.c q.u) l → y ≡ lesser m z → r ≡ gains_of x e y → r ≡ improves_at s w degrees kept q l
  unfolding improves_at
  improves-is z y r ez ey h =
      h ∙ ap₂ (λ (a : Float) (b : Bool). gains_of a b y) ex ee ∙ ap (gains_of (before_at w kept q) (evens_at w degrees q)) (ey ∙ ap₂ lesser em ez)

  pub improves_not : (r : Bool) → r ≡ gains_of x e m → r ≡ false → false ≡ improves_at s w degrees kept q l
  improves_not r h f = go (gains_of x e (lesser m (score s (tri q.d q.c q.u) l))) refl
    where
      number : is_nan m ≡ false
      number = subst (λ (a : Float). is_nan a ≡ false) (sym em) (lesser-number (inf false) (score s (tri q.c q.d q.v) l) top_some)

      go : (t : Bool) → gains_of x e (lesser m (score s (tri q.d q.c q.u) l)) ≡ t → false ≡ improves_at s w degrees kept q l
      go true g = absurd (false≢true (sym f ∙ h ∙ gains_first x e m (score s (tri q.d q.c q.u) l) number g))
      go false g = improves-is (score s (tri q.d q.c q.u) l) (lesser m (score s (tri q.d q.c q.u) l)) false refl refl (sym g)

-- ---- what a flip writes

pub triangles-put : (q : Quad) (c x y : List ℕ) → x ≡ put_at c q.one (tri q.c q.d q.v) → y ≡ put_at x q.two (tri q.d q.c q.u) → y ≡ flip_corners q c
triangles-put q c x y e f = f ∙ ap (λ (z : List ℕ). put_at z q.two (tri q.d q.c q.u)) e

pub four-put : (touched : ℕ) (q : Quad) (w a b d e : List ℕ) → a ≡ set w (touched + q.u) 1 → b ≡ set a (touched + q.v) 1 → d ≡ set b (touched + q.c) 1 → e ≡ set d (touched + q.d) 1 → e ≡ touch_four touched q w
four-put touched q w a b d e i j k l =
    l ∙ ap (λ (x : List ℕ). set x (touched + q.d) 1) (k ∙ ap (λ (x : List ℕ). set x (touched + q.c) 1) (j ∙ ap (λ (x : List ℕ). set x (touched + q.v) 1) i))

-- ---- flip_side

and_first : (a b : Bool) → a ≡ false → a && b ≡ false
and_first a b e = ap (λ (x : Bool). x && b) e

and_both : (a b r : Bool) → a ≡ true → b ≡ r → a && b ≡ r
and_both a b r e f = ap (λ (x : Bool). x && b) e ∙ f

module _ (s : Scene) (ls w : List ℕ) (p across kept touched : ℕ) (q : Quad) where
  abbrev alike : Bool
  alike = eqb (get_or ls q.one 0) (get_or ls q.two 0)

  abbrev apart : Bool
  apart = eqb (at w (across + q.across)) 0

  abbrev gains : Bool
  gains = improves_at s w p kept q (get_or ls q.one 0)

  opened_decision : alike && (not (touches w touched q) && (apart && gains)) ≡ decides s ls w p across kept touched q
  unfolding decides
  opened_decision = refl

  pub decide_label : (get_or ls q.one 0 ≡ get_or ls q.two 0 → ⊥) → decides s ls w p across kept touched q ≡ false
  decide_label n = sym opened_decision ∙ and_first alike (not (touches w touched q) && (apart && gains)) (ne_eqb (get_or ls q.one 0) (get_or ls q.two 0) n)

  pub decide_touched : get_or ls q.one 0 ≡ get_or ls q.two 0 → (t : Bool) → t ≡ touches w touched q → t ≡ true → decides s ls w p across kept touched q ≡ false
  decide_touched l t e f =
      sym opened_decision
      ∙ and_both alike (not (touches w touched q) && (apart && gains)) false (eq-eqb (get_or ls q.one 0) (get_or ls q.two 0) l)
      (and_first (not (touches w touched q)) (apart && gains) (ap not (sym e ∙ f)))

  pub decide_rest : get_or ls q.one 0 ≡ get_or ls q.two 0 → (t : Bool) → t ≡ touches w touched q → t ≡ false → decides s ls w p across kept touched q ≡ apart && gains
  decide_rest l t e f =
      sym opened_decision
      ∙ and_both alike (not (touches w touched q) && (apart && gains)) (apart && gains) (eq-eqb (get_or ls q.one 0) (get_or ls q.two 0) l)
      (and_both (not (touches w touched q)) (apart && gains) (apart && gains) (ap not (sym e ∙ f)) refl)

  pub decide_joined : decides s ls w p across kept touched q ≡ apart && gains → (x : ℕ) → x ≡ at w (across + q.across) → (x ≡ 0 → ⊥) → decides s ls w p across kept touched q ≡ false
  decide_joined d x e n = d ∙ and_first apart gains (ne_eqb (at w (across + q.across)) 0 (λ z. n (e ∙ z)))

  pub decide_last : decides s ls w p across kept touched q ≡ apart && gains → (x : ℕ) → x ≡ at w (across + q.across) → x ≡ 0 → (b r : Bool) → b ≡ improves_at s w p kept q (get_or ls q.one 0) → b ≡ r → decides s ls w p across kept touched q ≡ r
  decide_last d x e z b r f g = d ∙ and_both apart gains r (eq-eqb (at w (across + q.across)) 0 (sym e ∙ z)) (sym f ∙ g)

module _ (s : Scene) (ls : List ℕ) (p n across begun kept touched : ℕ) (c w : List ℕ) (k : ℕ) (q : Quad) (e : q ≡ quad_in p n begun w k) where
  to-place : (r : Bool) → decides s ls w p across kept touched q ≡ r → decides_at s ls p n across begun kept touched w k ≡ r
  to-place r d = ap (decides s ls w p across kept touched) (sym e) ∙ d

  pub tried_no : decides s ls w p across kept touched q ≡ false → Tried (decides_at s ls p n across begun kept touched w k) (quad_in p n begun w k) touched c c w w false
  tried_no d =
      let f = to-place false d in
      record {
        corners = sym (ap (λ (b : Bool). cond b (flip_corners (quad_in p n begun w k) c) c) f);
        words = sym (ap (λ (b : Bool). cond b (touch_four touched (quad_in p n begun w k) w) w) f);
        flips = sym f;
      }

  pub tried_yes : (c' w' : List ℕ) → decides s ls w p across kept touched q ≡ true → c' ≡ flip_corners q c → w' ≡ touch_four touched q w → Tried (decides_at s ls p n across begun kept touched w k) (quad_in p n begun w k) touched c c' w w' true
  tried_yes c' w' d g h =
      let f = to-place true d in
      record {
        corners = g ∙ ap (λ (x : Quad). flip_corners x c) e ∙ sym (ap (λ (b : Bool). cond b (flip_corners (quad_in p n begun w k) c) c) f);
        words = h ∙ ap (λ (x : Quad). touch_four touched x w) e ∙ sym (ap (λ (b : Bool). cond b (touch_four touched (quad_in p n begun w k) w) w) f);
        flips = sym f;
      }

-- ---- what is read lies within the lists

third-low : (n k : ℕ) → n % 3 ≡ 0 → k < n → k / 3 * 3 + 2 < n
third-low n k h l = omega arith

within_of : (c : List ℕ) (p j l : ℕ) → length c % 3 ≡ 0 → ((k : ℕ) → k < length c → at c k < p) → j < length c → l < length c → Within (quad_of (at c) j l) (length c) p
within_of c p j l h below a b = record {
  u-low = below j a;
  v_low = below (nx j) (nx-below (length c) j h a);
  c-low = below (pv j) (pv-below (length c) j h a);
  d-low = below (pv l) (pv-below (length c) l h b);
  one-low = third-low (length c) j h a;
  two-low = third-low (length c) l h b;
  across-low = pv-below (length c) j h a;
}

pub record Placed (q : Quad) (n p labels corners : ℕ) : Type 0 where
  pub within : Within q n p
  pub labelled : labels * 3 ≡ n
  pub begun : corners ≡ n

module _ (s : Scene) (ls : List ℕ) (p n across begun kept touched : ℕ) (w : List ℕ) (h : Ready s (part w begun n) ls p w across begun kept touched) (room : begun + n ≤ length w) where
  pub begun-length : length (part w begun n) ≡ n
  begun-length = part_length w begun n room

  pub begun-thirds : n % 3 ≡ 0
  begun-thirds = let e = begun-length in let f = h.thirds in ap (λ (m : ℕ). m % 3) (sym e) ∙ f

  pub begun-twin : (k : ℕ) → k < n → Twin (part w begun n) k (at w (p * 3 + n + k))
  begun-twin k l =
      let e = begun-length in
      subst (λ (m : ℕ). Twin (part w begun n) k (at w (p * 3 + m + k))) e (h.twins k (omega arith))

  pub twin-low : (k : ℕ) → k < n → at w (p * 3 + n + k) < n
  twin-low k l = let e = begun-length in let t = (begun-twin k l).low in omega arith

  quad_within : (k : ℕ) → k < n → (q : Quad) → q ≡ quad_in p n begun w k → Within q n p
  quad_within k l q e =
      let z = begun-length in
      let t = at w (p * 3 + n + k) in
      subst (λ (x : Quad). Within x n p) (sym e) (subst (λ (m : ℕ). Within (quad_in p n begun w k) m p) z (go (ltb (at w (p * 3 + n + k)) k)))
    where
      go : (b : Bool) → Within (cond b (quad_of (begun_at w begun n) (at w (p * 3 + n + k)) k) (quad_of (begun_at w begun n) k (at w (p * 3 + n + k)))) (length (part w begun n)) p
      go true = let z = begun-length in let t = twin-low k l in within_of (part w begun n) p (at w (p * 3 + n + k)) k h.thirds h.below (omega arith) (omega arith)
      go false = let z = begun-length in let t = twin-low k l in within_of (part w begun n) p k (at w (p * 3 + n + k)) h.thirds h.below (omega arith) (omega arith)

  labels-fit : length ls * 3 ≡ n
  labels-fit = h.labelled ∙ begun-length

  pub shape-held : (i : ℕ) → i < length ls → Held w (kept + i * 2)
  shape-held i l = held w (kept + i * 2) (score_at s (part w begun n) ls i) (h.shapes i l)

  -- the side of the place k: what is read and written for it lies within the lists
  pub placed : (k : ℕ) → k < n → (q : Quad) → q ≡ quad_in p n begun w k → Placed q n p (length ls) (length (part w begun n))
  placed k l q e = record { within = quad_within k l q e; labelled = labels-fit; begun = begun-length }

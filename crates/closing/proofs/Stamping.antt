-- A loop over the places of a corner u: what a turn adds to the counts of places, and what it leaves where it stamps the corner to which its place leads.
use Prim.Native.Nat.{ℕ, suc, ◌+◌, ◌-◌, ◌%◌, ◌<◌, ◌≤◌}
use native.Mathlib.Omega.{arith}
use mathlib.Core.Path.{◌≡◌, refl, sym, ap, ◌∙◌, subst}
use mathlib.Core.Logic.{⊎_elim}
use mathlib.Core.List.{List}
use lib.ListN.{length, set, drop, length-set}
use lib.Seq.{get_or-set_same, get_or-set_other, drop-set-lt}
use Rattle.halfedges.specs.Place.{at, last, Sized, Linked, stamp}
use Rattle.halfedges.proofs.Chains.{last_le, last-names}
use Rattle.halfedges.proofs.Turns.{same_or, sized_other}
use Rattle.closing.specs.Locating.{hits, One, StampsMean}
use Rattle.closing.specs.Stages.{used, Ready}
use Rattle.closing.proofs.Hits.{hits_yes, hits_no, hits_le, hits-last}

-- ---- the places

-- at the loop's head: q is 0, or one more than a place of u
pub record AtPlace (c : List ℕ) (u q : ℕ) : Type 0 where
  pub within : q ≤ length c
  pub names : (k : ℕ) → q ≡ suc k → at c k ≡ u

pub at_last : (c : List ℕ) (u i : ℕ) {q : ℕ} → i ≤ length c → q ≡ last c u i → AtPlace c u q
at_last c u i l e = record { within = omega (arith, e, last_le c u i); names = λ k h. last-names c u i k (sym e ∙ h) }

-- in a turn: q is one more than the place k, which leads to x by g
pub record Turn (g : ℕ → ℕ) (c : List ℕ) (p u q k x : ℕ) : Type 0 where
  pub is : q ≡ suc k
  pub low : k < length c
  pub names : at c k ≡ u
  pub leads : x ≡ at c (g k)
  pub x-low : x < p

pub turn_at : (g : ℕ → ℕ) → ((n k : ℕ) → n % 3 ≡ 0 → k < n → g k < n) → {c : List ℕ} {p u q x : ℕ} {w : List ℕ} → Sized c p w → AtPlace c u q → 0 < q → x ≡ at c (g (q - 1)) → Turn g c p u q (q - 1) x
turn_at g stays {c} {q = q} sized place some e =
    let is : q ≡ suc (q - 1) = omega arith in
    let low : q - 1 < length c = omega (arith, place.within) in
    record { is = is; low = low; names = place.names (q - 1) is; leads = e; x-low = omega (arith, e, sized.below (g (q - 1)) (stays (length c) (q - 1) sized.thirds low)) }

-- ---- the counts: that of x grows by one, the others stay

module _ {g : ℕ → ℕ} {c : List ℕ} {p u q k x q' : ℕ} (turn : Turn g c p u q k x) (on : q' ≡ last c u k) where
  before-k : (y : ℕ) → hits g c u y q' ≡ hits g c u y k
  before-k y = ap (hits g c u y) on ∙ hits-last g c u y k

  pub count-here : hits g c u x q ≡ suc (hits g c u x q')
  count-here = ap (hits g c u x) turn.is ∙ hits_yes g c u x k turn.names (sym turn.leads) ∙ ap suc (sym (before-k x))

  pub count_other : (y : ℕ) → (y ≡ x → ⊥) → hits g c u y q ≡ hits g c u y q'
  count_other y n = ap (hits g c u y) turn.is ∙ hits_no g c u y k (λ e. n (sym e ∙ sym turn.leads)) ∙ sym (before-k y)

  pub count-on : (y : ℕ) → hits g c u y q' ≤ hits g c u y q
  count-on y = omega (arith, before-k y, hits_le g c u y k q (omega (arith, turn.is)))

  pub some-here : One g c u q' x
  some-here = omega (arith, count-here, hits_le g c u x q (length c) (omega (arith, turn.is, turn.low)))

-- ---- the stamps

-- at the loop's head the corners are stamped to which u's places from q on lead by g
pub record Stamping (g : ℕ → ℕ) (c : List ℕ) (p u : ℕ) (w₀ w : List ℕ) (q : ℕ) : Type 0 where
  pub place : AtPlace c u q
  pub size : length w ≡ length w₀
  pub sized : Sized c p w
  pub linked : Linked c p w (length c)
  pub met : StampsMean g c p w u q
  pub far : drop (used c p) w ≡ drop (used c p) w₀

pub stamping_start : (g : ℕ → ℕ) {c : List ℕ} {p u q : ℕ} {w : List ℕ} → Ready c p w u → q ≡ last c u (length c) → Stamping g c p u w w q
stamping_start g {c} {p} {u} {q} {w} ready e = record {
  place = at_last c u (length c) (omega arith) e;
  size = refl;
  sized = ready.sized;
  linked = ready.linked;
  met = record {
    stamped = λ x l. omega (arith, ready.stamped x l);
    known = λ x l s. absurd (omega (arith, s, ap (hits g c u x) e, hits-last g c u x (length c)));
    found = λ x l m. absurd (omega (arith, ready.stamped x l, m));
  };
  far = refl;
}

-- in a turn x is stamped
module _ {g : ℕ → ℕ} {c : List ℕ} {p u q k x a : ℕ} {w₀ w w' : List ℕ} (h : Stamping g c p u w₀ w q) (turn : Turn g c p u q k x) (a-is : a ≡ suc u) (put : w' ≡ set w (p + x + x) a) where
  at_other : (j : ℕ) → (j ≡ p + x + x → ⊥) → at w' j ≡ at w j
  at_other j n = ap (λ (l : List ℕ). at l j) put ∙ get_or-set_other w (p + x + x) j a 0 n

  stamp-here : stamp p w' x ≡ suc u
  stamp-here = ap (λ (l : List ℕ). stamp p l x) put ∙ get_or-set_same w (p + x + x) a 0 (omega (arith, h.sized.room, turn.x-low)) ∙ a-is

  stamp_other : (z : ℕ) → (z ≡ x → ⊥) → stamp p w' z ≡ stamp p w z
  stamp_other z n = at_other (p + z + z) (λ e. n (omega arith))

  -- the link of k is as it was
  pub stamping_next : at w' (p + p + p + k) ≡ last c u k
  stamping_next = at_other (p + p + p + k) (λ e. omega (arith, turn.x-low)) ∙ h.linked.links k turn.low ∙ ap (λ (v : ℕ). last c v k) turn.names

  pub stamping_turn : {q' : ℕ} → q' ≡ last c u k → Stamping g c p u w₀ w' q'
  stamping_turn {q'} on =
      let size : length w' ≡ length w = ap length put ∙ length-set w (p + x + x) a in
      record {
        place = at_last c u k (omega (arith, turn.low)) on;
        size = size ∙ h.size;
        sized = sized_other c p w w' size h.sized;
        linked = record {
          heads = λ v l. at_other v (λ e. omega arith) ∙ h.linked.heads v l;
          links = λ j l. at_other (p + p + p + j) (λ e. omega (arith, turn.x-low)) ∙ h.linked.links j l;
        };
        met = record {
          stamped = λ z l.
              ⊎_elim
              (λ (e : z ≡ x). omega (arith, ap (stamp p w') e, stamp-here))
              (λ (n : z ≡ x → ⊥). omega (arith, stamp_other z n, h.met.stamped z l))
              (same_or z x);
          known = λ z l s.
              ⊎_elim
              (λ (e : z ≡ x). ap (stamp p w') e ∙ stamp-here)
              (λ (n : z ≡ x → ⊥). stamp_other z n ∙ h.met.known z l (omega (arith, s, count_other turn on z n)))
              (same_or z x);
          found = λ z l e.
              ⊎_elim
              (λ (i : z ≡ x). subst (One g c u q') (sym i) (some-here turn on))
              (λ (n : z ≡ x → ⊥). let s = h.met.found z l (sym (stamp_other z n) ∙ e) in omega (arith, count_other turn on z n))
              (same_or z x);
        };
        far = ap (drop (used c p)) put ∙ drop-set-lt (used c p) w (p + x + x) a (omega (arith, turn.x-low)) ∙ h.far;
      }

pub stamping_ready : {g : ℕ → ℕ} {c : List ℕ} {p u q : ℕ} {w₀ w : List ℕ} → Stamping g c p u w₀ w q → Ready c p w (suc u)
stamping_ready h = record { sized = h.sized; linked = h.linked; stamped = h.met.stamped }

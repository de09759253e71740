-- A turn of the flip loop of `improve` is that of crate oracle's flip pass: what is read for an untouched side is what stood there at first.
use Prim.Native.Nat.{ℕ, zero, suc, ◌+◌, ◌≤◌, ◌<◌}
use mathlib.Core.Path.{◌≡◌, refl, sym, ◌∙◌, ap, ap₂}
use mathlib.Core.Logic.{◌⊎◌, inl, inr}
use mathlib.Core.Bool.{Bool, true, false, not, ◌&&◌, ◌||◌, cond}
use mathlib.Core.List.{List}
use native.Mathlib.Omega.{arith}
use lib.Dec.{eqb, leb, ltb}
use lib.IntN.{pos}
use lib.Signed.{lt_z}
use lib.Ieee as Ieee
use lib.Ieee.{inf}
use lib.ListN.{length, set}
use borrow.Author.Tests.{ne_eqb, leb-true, leb-false}
use Rattle.float.specs.Order.{lesser, greater}
use Rattle.float.specs.Point.{plus}
use Rattle.surface.specs.Triangle.{Tri, tri, names}
use Rattle.surface.specs.Closed.{sides, InUse, Closed}
use Rattle.surface.specs.Edit.{place, Hinge, hinge}
use Rattle.surface.specs.Euler.{Below}
use Rattle.surface.proofs.Reading.{Has, spin, turn}
use Rattle.surface.proofs.Places.{place-has}
use Rattle.surface.proofs.Bridge.{closed_surface_lem, in_use, reads_name}
use Rattle.surface.proofs.Hinged.{Hinged}
use Rattle.surface.proofs.Laws.{hinge-found}
use Rattle.history.specs.History.{Pair, exists, label}
use Rattle.rounds.specs.Flips.{FlipState}
use Rattle.rounds.specs.Choices.{Side, may_flip, flip_step}
use Rattle.rounds.proofs.Stays.{Stays, stays-place}
use Rattle.rounds.proofs.FlipPass.{stays-flip}
use Rattle.rounds.proofs.Choices.{flip-step}
use Rattle.rounds.proofs.Exact.{hinge-apart, side-exists_test}
use Rattle.oracle.specs.Number.{gain_least, shape_enough}
use Rattle.oracle.specs.Scene.{Scene, score}
use Rattle.oracle.specs.Rising.{rising}
use Rattle.oracle.specs.Gains as gains
use Rattle.oracle.specs.Gains.{evens, improves, helps}
use Rattle.original.specs.Maps.{corner, Spot, spot, spots}
use Rattle.original.specs.Flip.{degree, contains, gain, Loop, loop, turned, done, step}
use Rattle.original.proofs.Spots.{start_in, start_reads, side-spots, none-spots}
use Rattle.original.proofs.Degrees.{degree-is, gain-is, evens-back}

-- tests that end in `continue`, and the same tests under `&&`
nested : {A : Type 0} (l p q r s e x y i : Bool) (m n : A)
    → cond (not l) n (cond ((p || (q || (r || s))) || (e || not (x && y))) n (cond i m n))
    ≡ cond ((l && (not p && (not q && (not r && (not s && x))))) && (not e && (y && i))) m n
nested false p q r s e x y i m n = refl
nested true true q r s e x y i m n = refl
nested true false true r s e x y i m n = refl
nested true false false true s e x y i m n = refl
nested true false false false true e x y i m n = refl
nested true false false false false e false y i m n = either e
  where
    either : (e : Bool) → cond (e || true) n (cond i m n) ≡ n
    either true = refl
    either false = refl
nested true false false false false true true y i m n = refl
nested true false false false false false true false i m n = refl
nested true false false false false false true true i m n = refl

-- `contains_key`
contains-is : {ts : List Tri} → Closed ts → (c d : ℕ) → (c ≡ d → ⊥) → contains ts c d ≡ not (eqb (sides ts c d) 0 && eqb (sides ts d c) 0)
unfolding contains
contains-is {ts} cl c d n = pick (leb c d) refl
  where
    swap : (p q : Bool) → (p && q) ≡ (q && p)
    swap true true = refl
    swap true false = refl
    swap false true = refl
    swap false false = refl

    found : (x y : ℕ) → x < y → ltb 0 (length (spots 0 ts x y)) ≡ not (eqb (sides ts x y) 0 && eqb (sides ts y x) 0)
    found x y l = go (sides ts x y) refl
      where
        go : (m : ℕ) → sides ts x y ≡ m → ltb 0 (length (spots 0 ts x y)) ≡ not (eqb (sides ts x y) 0 && eqb (sides ts y x) 0)
        go zero e =
            let f : sides ts y x ≡ 0 = omega (arith, (closed_surface_lem cl).even x y) in
            ap (λ (k : List Spot). ltb 0 (length k)) (none-spots x y l cl e) ∙ rw (e, f) refl
        go (suc m) e =
            ap (λ (k : List Spot). ltb 0 (length k)) (side-spots x y l cl (omega arith))
            ∙ rw (ne_eqb (sides ts x y) 0 (λ f. omega arith)) refl

    pick : (k : Bool) → leb c d ≡ k → ltb 0 (length (spots 0 ts (cond (leb c d) c d) (cond (leb c d) d c))) ≡ not (eqb (sides ts c d) 0 && eqb (sides ts d c) 0)
    pick true e = rw e (found c d (less (leb-true c d e)))
      where
        less : c ≤ d → c < d
        less l = omega arith
    pick false e = rw e (found d c (leb-false c d e) ∙ ap not (swap (eqb (sides ts d c) 0) (eqb (sides ts c d) 0)))

module _ (s : Scene) (p : Pair) (cl : Closed p.tris) (n : ℕ) (b : Below n p.tris) where
  abbrev keys : List Side
  keys = rising p.tris n

  -- a turn of crate oracle's pass
  abbrev takes : FlipState → Side → Bool
  takes st d = may_flip p st d.one d.two && helps s p st d

  module _ (x y : ℕ) (low : x < y) (g : 0 < sides p.tris x y) (st : FlipState) (stays : Stays st.touched p.tris st.tris) (m : ℕ) where
    abbrev h : Hinge
    h = hinge p.tris x y

    abbrev e : Side
    e = record { one = x; two = y }

    k : Hinged p.tris x y (hinge p.tris x y)
    k = hinge-found cl x y g

    abbrev one : Spot
    one = spot h.p1 (start_in (place p.tris h.p1) x y)

    abbrev two : Spot
    two = spot h.p2 (start_in (place p.tris h.p2) x y)

    -- u, v, c and d of the faces with which the loop began
    turned-ends : ((h.u ≡ x) × (h.v ≡ y)) ⊎ ((h.u ≡ y) × (h.v ≡ x)) → ((h.v ≡ x) × (h.u ≡ y)) ⊎ ((h.v ≡ y) × (h.u ≡ x))
    turned-ends (inl q) = inr (q.1, q.0)
    turned-ends (inr q) = inl (q.1, q.0)

    under : h.p1 < length p.tris
    under = omega (arith, k.order, k.fits)

    first_reads : (corner (place p.tris h.p1) one.start ≡ h.u) × (corner (place p.tris h.p1) (one.start + 1) ≡ h.v) × (corner (place p.tris h.p1) (one.start + 2) ≡ h.c)
    first_reads = start_reads x y low (place p.tris h.p1) (cl.differ h.p1 under) k.ahead k.ends

    second_reads : (corner (place p.tris h.p2) two.start ≡ h.v) × (corner (place p.tris h.p2) (two.start + 1) ≡ h.u) × (corner (place p.tris h.p2) (two.start + 2) ≡ h.d)
    second_reads = start_reads x y low (place p.tris h.p2) (cl.differ h.p2 k.fits) k.back (turned-ends k.ends)

    named : (t : Tri) (u v : ℕ) → ((u ≡ x) × (v ≡ y)) ⊎ ((u ≡ y) × (v ≡ x)) → names t u ≡ true → names t v ≡ true → names t x ≡ true
    named t u v (inl q) i j = ap (names t) (sym q.0) ∙ i
    named t u v (inr q) i j = ap (names t) (sym q.1) ∙ j

    -- which are below n
    ahead : Has h.u h.v h.c p.tris
    ahead = place-has p.tris h.p1 under k.ahead

    back : Has h.v h.u h.d p.tris
    back = place-has p.tris h.p2 k.fits k.back

    degree-at : (v : ℕ) → InUse p.tris v → degree keys v ≡ gains.degree p.tris v
    degree-at v i = degree-is cl n b v (b v i)

    gain-same : lt_z (pos 0) (gain keys x y h.c h.d) ≡ evens (gains.degree p.tris h.u) (gains.degree p.tris h.v) (gains.degree p.tris h.c) (gains.degree p.tris h.d)
    gain-same = pick k.ends
      where
        iu : InUse p.tris h.u
        iu = in_use ahead

        iv : InUse p.tris h.v
        iv = in_use back

        ic : InUse p.tris h.c
        ic = in_use (spin (spin ahead))

        id : InUse p.tris h.d
        id = in_use (spin (spin back))

        all : (v w : ℕ) → InUse p.tris v → InUse p.tris w → lt_z (pos 0) (gain keys v w h.c h.d) ≡ evens (gains.degree p.tris v) (gains.degree p.tris w) (gains.degree p.tris h.c) (gains.degree p.tris h.d)
        all v w i j =
            gain-is keys v w h.c h.d (omega (arith, degree-at v i)) (omega (arith, degree-at w j))
            ∙ ap (λ (q : ℕ). evens (degree keys v) (degree keys w) (degree keys h.c) q) (degree-at h.d id)
            ∙ ap₂ (λ (q r : ℕ). evens q r (degree keys h.c) (gains.degree p.tris h.d)) (degree-at v i) (degree-at w j)
            ∙ ap (λ (q : ℕ). evens (gains.degree p.tris v) (gains.degree p.tris w) q (gains.degree p.tris h.d)) (degree-at h.c ic)

        pick : ((h.u ≡ x) × (h.v ≡ y)) ⊎ ((h.u ≡ y) × (h.v ≡ x)) → lt_z (pos 0) (gain keys x y h.c h.d) ≡ evens (gains.degree p.tris h.u) (gains.degree p.tris h.v) (gains.degree p.tris h.c) (gains.degree p.tris h.d)
        pick (inl q) = ap₂ (λ (v w : ℕ). lt_z (pos 0) (gain keys v w h.c h.d)) (sym q.0) (sym q.1) ∙ all h.u h.v iu iv
        pick (inr q) = ap₂ (λ (v w : ℕ). lt_z (pos 0) (gain keys v w h.c h.d)) (sym q.1) (sym q.0) ∙ all h.v h.u iv iu
            ∙ evens-back (gains.degree p.tris h.u) (gains.degree p.tris h.v) (gains.degree p.tris h.c) (gains.degree p.tris h.d)

    -- a turn, from these on
    abbrev now : Loop
    now = loop st m

    abbrev body : Tri → Tri → ℕ → ℕ → ℕ → ℕ → Loop
    body f w u v c d =
        let before = lesser (score s f (label p h.p1)) (score s w (label p h.p2)) in
        let after = lesser (lesser (inf false) (score s (tri c d v) (label p h.p1))) (score s (tri d c u) (label p h.p1)) in
        cond (not (eqb (label p h.p1) (label p h.p2))) now
        (cond ((st.touched x || (st.touched y || (st.touched c || st.touched d))) || (eqb c d || contains p.tris c d)) now
        (cond (Ieee.lt (plus before gain_least) after || (lt_z (pos 0) (gain keys x y c d) && Ieee.le (greater before shape_enough) after))
        (loop (record {
          tris = set (set st.tris h.p1 (tri c d v)) h.p2 (tri d c u);
          touched = λ z. st.touched z || (eqb x z || (eqb y z || (eqb c z || eqb d z)));
        }) (m + 1))
        now))

    turned_body : turned s p keys now e one two
        ≡ body (place st.tris h.p1) (place st.tris h.p2) (corner (place st.tris h.p1) one.start) (corner (place st.tris h.p1) (one.start + 1))
        (corner (place st.tris h.p1) (one.start + 2)) (corner (place st.tris h.p2) (two.start + 2))
    unfolding turned
    turned_body = refl

    body_same : {f f' w w' : Tri} {u u' v v' c c' d d' : ℕ} → f ≡ f' → w ≡ w' → u ≡ u' → v ≡ v' → c ≡ c' → d ≡ d' → body f w u v c d ≡ body f' w' u' v' c' d'
    body_same {f} {f'} {w} {w'} {u} {u'} {v} {v'} {c} {c'} {d} {d'} ef ew eu ev ec ed =
        ap (λ (q : Tri). body q w u v c d) ef ∙ ap (λ (q : Tri). body f' q u v c d) ew ∙ ap (λ (q : ℕ). body f' w' q v c d) eu
        ∙ ap (λ (q : ℕ). body f' w' u' q c d) ev ∙ ap (λ (q : ℕ). body f' w' u' v' q d) ec ∙ ap (λ (q : ℕ). body f' w' u' v' c' q) ed

    abbrev result : Loop
    result = cond (takes st e) (loop (flip_step p st x y) (m + 1)) now

    helpful : (Ieee.lt (plus (gains.before s p e) gain_least) (gains.after s p e) || (lt_z (pos 0) (gain keys x y h.c h.d) && Ieee.le (greater (gains.before s p e) shape_enough) (gains.after s p e))) ≡ improves s p e
    unfolding improves
    helpful = ap (λ (q : Bool). Ieee.lt (plus (gains.before s p e) gain_least) (gains.after s p e) || (q && Ieee.le (greater (gains.before s p e) shape_enough) (gains.after s p e))) gain-same

    start_is : body (place p.tris h.p1) (place p.tris h.p2) h.u h.v h.c h.d ≡ result
    unfolding may_flip flip_step helps
    start_is =
        ap₂ (λ (q r : Bool). cond (not (eqb (label p h.p1) (label p h.p2))) now
        (cond ((st.touched x || (st.touched y || (st.touched h.c || st.touched h.d))) || (eqb h.c h.d || q)) now (cond r (loop (flip_step p st x y) (m + 1)) now)))
        (contains-is cl h.c h.d (hinge-apart cl x y g).cd) helpful
        ∙ nested (eqb (label p h.p1) (label p h.p2)) (st.touched x) (st.touched y) (st.touched h.c) (st.touched h.d) (eqb h.c h.d) (eqb (sides p.tris h.c h.d) 0) (eqb (sides p.tris h.d h.c) 0) (improves s p e) (loop (flip_step p st x y) (m + 1)) now
        ∙ rw (side-exists_test p cl x y g) refl

    -- a touched end: no flip, whatever stands in the faces
    first-touched : st.touched x ≡ true → (f w : Tri) (u v c d : ℕ) → body f w u v c d ≡ result
    unfolding may_flip
    first-touched q f w u v c d = rw (q, off (exists p x y) (eqb (label p h.p1) (label p h.p2))) (either (eqb (label p h.p1) (label p h.p2)))
      where
        off : (i j : Bool) → (i && (j && false)) ≡ false
        off true true = refl
        off true false = refl
        off false j = refl

        either : (i : Bool) → cond (not i) now now ≡ now
        either true = refl
        either false = refl

    second-touched : st.touched y ≡ true → (f w : Tri) (u v c d : ℕ) → body f w u v c d ≡ result
    unfolding may_flip
    second-touched q f w u v c d = rw (q, off (exists p x y) (eqb (label p h.p1) (label p h.p2)) (not (st.touched x))) (either (eqb (label p h.p1) (label p h.p2)) (st.touched x) _ _)
      where
        off : (i j l : Bool) → (i && (j && (l && false))) ≡ false
        off true true true = refl
        off true true false = refl
        off true false l = refl
        off false j l = refl

        either : (i j r : Bool) (a : Loop) → cond (not i) now (cond ((j || true) || r) now a) ≡ now
        either true true r a = refl
        either true false r a = refl
        either false j r a = refl

    turned-is : turned s p keys now e one two ≡ result
    turned-is = pick (st.touched x) refl (st.touched y) refl
      where
        pick : (i : Bool) → st.touched x ≡ i → (j : Bool) → st.touched y ≡ j → turned s p keys now e one two ≡ result
        pick true q j r = turned_body ∙ first-touched q _ _ _ _ _ _
        pick false q true r = turned_body ∙ second-touched r _ _ _ _ _ _
        pick false q false r =
            let z = stays-place stays h.p1 x q (named (place p.tris h.p1) h.u h.v k.ends (reads_name k.ahead) (reads_name (turn k.ahead))) in
            let w = stays-place stays h.p2 x q (named (place p.tris h.p2) h.v h.u (turned-ends k.ends) (reads_name k.back) (reads_name (turn k.back))) in
            turned_body ∙ body_same z w
            (ap (λ (t : Tri). corner t one.start) z ∙ first_reads.0)
            (ap (λ (t : Tri). corner t (one.start + 1)) z ∙ first_reads.1)
            (ap (λ (t : Tri). corner t (one.start + 2)) z ∙ first_reads.2)
            (ap (λ (t : Tri). corner t (two.start + 2)) w ∙ second_reads.2)
            ∙ start_is

    pub step_is : step s p keys now e (spots 0 p.tris x y) ≡ done result
    unfolding step
    step_is = ap (step s p keys now e) (side-spots x y low cl g) ∙ ap done turned-is

    -- a flip alters nothing that stays untouched
    pub stays-next : Stays (flip_step p st x y).touched p.tris (flip_step p st x y).tris
    unfolding flip_step
    stays-next = let f = flip-step p cl st x y in stays-flip (closed_surface_lem cl) x y g f.off-a f.off-b f.off-c f.off-d stays f.still

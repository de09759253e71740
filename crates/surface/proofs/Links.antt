-- The original's tables hold the steps around each corner in the order of the faces: `ring_at` is `around`.
use Prim.Native.Nat.{ℕ, zero, suc, ◌+◌, ◌-◌, ◌≤◌, ◌<◌}
use native.Mathlib.Decide.{ℕ_discrete, dec_lt}
use native.Mathlib.Numerals.{add-one}
use native.Mathlib.Nat.{add-zero, zero-add}
use native.Mathlib.Omega.{arith}
use mathlib.Core.Path.{◌≡◌, refl, sym, ◌∙◌, ap, ap₂, subst}
use mathlib.Core.Bool.{Bool, true, false}
use mathlib.Core.List.{List, [], ◌∷◌, ◌++◌, append-nil, append_assoc}
use lib.Dec.{eqb}
use lib.ListN.{length, get_or, set, drop, replicate, length-set, length-append, length-take, length-drop, length-replicate, get_or-replicate, get_or-append}
use lib.Seq.{get_or-set_same, get_or-set_other, get_or-append_seam, get_or-take, get_or-drop, ext_get_or}
use borrow.Author.Tests.{eq-eqb, ne_eqb}
use Rattle.surface.specs.Triangle.{Tri}
use Rattle.surface.specs.Closed.{Step, step, keep, around}
use Rattle.surface.specs.Euler.{sum, Below}
use Rattle.surface.specs.Links.{Around, steps, raised, counted, summed, linked, ring_at}

-- the edges at a corner, in order
picks : List Around → ℕ → List Step
picks [] v = []
picks (x ∷ l) v = keep (eqb x.at v) x.edge (picks l v)

picks-around : (ts : List Tri) (v : ℕ) → picks (steps ts) v ≡ around ts v
unfolding picks steps around
picks-around [] v = refl
picks-around (t ∷ ts) v = ap (λ (l : List Step). keep (eqb t.a v) (step t.b t.c) (keep (eqb t.b v) (step t.c t.a) (keep (eqb t.c v) (step t.a t.b) l))) (picks-around ts v)

picks-here : (x : Around) (l : List Around) (v : ℕ) → x.at ≡ v → picks (x ∷ l) v ≡ x.edge ∷ picks l v
unfolding picks
picks-here x l v e = ap (λ (b : Bool). keep b x.edge (picks l v)) (eq-eqb x.at v e)

picks-there : (x : Around) (l : List Around) (v : ℕ) → (x.at ≡ v → ⊥) → picks (x ∷ l) v ≡ picks l v
unfolding picks
picks-there x l v n = ap (λ (b : Bool). keep b x.edge (picks l v)) (ne_eqb x.at v n)

-- a table with one number raised
raised-here : (s : List ℕ) (i j : ℕ) → i ≡ j → j < length s → get_or (raised s i) j 0 ≡ suc (get_or s j 0)
raised-here s i j e l = ap (λ (k : ℕ). get_or (raised s k) j 0) e ∙ get_or-set_same s j (suc (get_or s j 0)) 0 l

raised-there : (s : List ℕ) (i j : ℕ) → (i ≡ j → ⊥) → get_or (raised s i) j 0 ≡ get_or s j 0
raised-there s i j n = get_or-set_other s i j (suc (get_or s i 0)) 0 (λ e. n (sym e))

-- ---- `start`

length-counted : (l : List Around) (s : List ℕ) → length (counted l s) ≡ length s
unfolding counted
length-counted [] s = refl
length-counted (x ∷ l) s = length-counted l (raised s (suc x.at)) ∙ length-set s (suc x.at) _

counted-first : (l : List Around) (s : List ℕ) → get_or (counted l s) 0 0 ≡ get_or s 0 0
unfolding counted
counted-first [] s = refl
counted-first (x ∷ l) s = counted-first l (raised s (suc x.at)) ∙ raised-there s (suc x.at) 0 (λ e. omega arith)

counted-at : (l : List Around) (s : List ℕ) (v : ℕ) → suc v < length s → get_or (counted l s) (suc v) 0 ≡ get_or s (suc v) 0 + length (picks l v)
unfolding counted picks
counted-at [] s v h = omega arith
counted-at (x ∷ l) s v h = go (ℕ_discrete x.at v) (counted-at l (raised s (suc x.at)) v (omega (arith, length-set s (suc x.at) (suc (get_or s (suc x.at) 0)))))
  where
    go : Dec (x.at ≡ v) → get_or (counted l (raised s (suc x.at))) (suc v) 0 ≡ get_or (raised s (suc x.at)) (suc v) 0 + length (picks l v)
        → get_or (counted l (raised s (suc x.at))) (suc v) 0 ≡ get_or s (suc v) 0 + length (picks (x ∷ l) v)
    go (yes e) ih = let a = raised-here s (suc x.at) (suc v) (ap suc e) h in let b = ap length (picks-here x l v e) in omega arith
    go (no n) ih = let a = raised-there s (suc x.at) (suc v) (λ e. n (omega arith)) in let b = ap length (picks-there x l v n) in omega arith

length-summed : (k : ℕ) (s : List ℕ) → length (summed k s) ≡ length s
unfolding summed
length-summed zero s = refl
length-summed (suc k) s = length-set (summed k s) (suc k) _ ∙ length-summed k s

summed-above : (k : ℕ) (s : List ℕ) (j : ℕ) → k < j → get_or (summed k s) j 0 ≡ get_or s j 0
unfolding summed
summed-above zero s j h = refl
summed-above (suc k) s j h = get_or-set_other (summed k s) (suc k) j _ 0 (λ e. omega arith) ∙ summed-above k s j (omega arith)

module _ (n : ℕ) (c : ℕ → ℕ) (s : List ℕ) (long : length s ≡ suc n) (first : get_or s 0 0 ≡ 0) (at : (v : ℕ) → v < n → get_or s (suc v) 0 ≡ c v) where
  summed_at : (k : ℕ) → k ≤ n → (j : ℕ) → j ≤ k → get_or (summed k s) j 0 ≡ sum j c
  unfolding summed sum
  summed_at zero h zero l = first
  summed_at zero h (suc j) l = absurd (omega arith)
  summed_at (suc k) h j l = go (ℕ_discrete j (suc k)) (summed_at k (omega arith))
    where
      go : Dec (j ≡ suc k) → ((i : ℕ) → i ≤ k → get_or (summed k s) i 0 ≡ sum i c) → get_or (set (summed k s) (suc k) (get_or (summed k s) (suc k) 0 + get_or (summed k s) k 0)) j 0 ≡ sum j c
      go (yes e) ih =
          ap (λ (i : ℕ). get_or (set (summed k s) (suc k) (get_or (summed k s) (suc k) 0 + get_or (summed k s) k 0)) i 0) e
          ∙ get_or-set_same (summed k s) (suc k) _ 0 (omega (arith, length-summed k s))
          ∙ ap₂ (λ (x y : ℕ). x + y) (summed-above k s (suc k) (omega arith) ∙ at k (omega arith)) (ih k (omega arith))
          ∙ ap (λ (i : ℕ). sum i c) (sym e)
      go (no m) ih = get_or-set_other (summed k s) (suc k) j _ 0 m ∙ ih j (omega (arith, m))

-- ---- `link`

-- the steps of v begin at the number of all steps of smaller corners
module _ (n : ℕ) (c : ℕ → ℕ) where
  sum-rises : (a b : ℕ) → a ≤ b → sum a c ≤ sum b c
  unfolding sum
  sum-rises a zero l = let e : a ≡ 0 = omega arith in subst (λ (k : ℕ). sum a c ≤ sum k c) e (omega arith)
  sum-rises a (suc b) l = go (ℕ_discrete a (suc b)) (λ k. sum-rises a b k)
    where
      go : Dec (a ≡ suc b) → (a ≤ b → sum a c ≤ sum b c) → sum a c ≤ c b + sum b c
      go (yes e) ih = subst (λ (k : ℕ). sum a c ≤ sum k c) e (omega arith)
      go (no m) ih = let k : sum a c ≤ sum b c = ih (omega (arith, m)) in omega arith

  sum-next : (a : ℕ) → sum (suc a) c ≡ c a + sum a c
  unfolding sum
  sum-next a = refl

  -- of corner v the edges `done v` are laid, and those of l are to come
  record Laying (done : ℕ → List Step) (l : List Around) (fill : List ℕ) (link : List Step) : Type 0 where
    filled : length fill ≡ suc n
    whole : length link ≡ sum n c
    listed : (v : ℕ) → 0 < length (picks l v) → v < n
    room : (v : ℕ) → v < n → length (done v) + length (picks l v) ≡ c v
    next : (v : ℕ) → v < n → get_or fill v 0 ≡ sum v c + length (done v)
    laid : (v : ℕ) → v < n → (i : ℕ) → i < length (done v) → get_or link (sum v c + i) (step 0 0) ≡ get_or (done v) i (step 0 0)

  module _ (done : ℕ → List Step) (x : Around) (l : List Around) (fill : List ℕ) (link : List Step) (h : Laying done (x ∷ l) fill link) where
    more : ℕ → List Step
    more v = done v ++ keep (eqb x.at v) x.edge []

    more-here : (v : ℕ) → x.at ≡ v → more v ≡ done v ++ (x.edge ∷ [])
    unfolding more
    more-here v e = ap (λ (b : Bool). done v ++ keep b x.edge []) (eq-eqb x.at v e)

    more-there : (v : ℕ) → (x.at ≡ v → ⊥) → more v ≡ done v
    unfolding more
    more-there v m = ap (λ (b : Bool). done v ++ keep b x.edge []) (ne_eqb x.at v m) ∙ append-nil (done v)

    low : x.at < n
    low = h.listed x.at (omega (arith, ap length (picks-here x l x.at refl)))

    -- the place that is written, and that it is behind what is laid of its corner
    place : get_or fill x.at 0 ≡ sum x.at c + length (done x.at)
    place = h.next x.at low

    fits : length (done x.at) < c x.at
    fits = omega (arith, h.room x.at low, ap length (picks-here x l x.at refl))

    -- no other corner's places reach it
    apart : (v i : ℕ) → v < n → i < length (done v) → sum v c + i ≡ get_or fill x.at 0 → ⊥
    apart v i k b e = go (ℕ_discrete x.at v) (dec_lt v x.at)
      where
        go : Dec (x.at ≡ v) → Dec (v < x.at) → ⊥
        go (yes f) d = omega (arith, e, place, b, ap (λ (u : ℕ). sum u c) f, ap (λ (u : ℕ). length (done u)) f)
        go (no m) (yes f) = omega (arith, e, place, b, h.room v k, sum-next v, sum-rises (suc v) x.at f)
        go (no m) (no f) =
            let g : suc x.at ≤ v = omega (arith, m, f) in
            omega (arith, e, place, fits, sum-next x.at, sum-rises (suc x.at) v g)

    within : get_or fill x.at 0 < length link
    within = omega (arith, place, fits, h.whole, sum-next x.at, sum-rises (suc x.at) n low)

    turn : Laying more l (raised fill x.at) (set link (get_or fill x.at 0) x.edge)
    turn = record {
      filled = length-set fill x.at _ ∙ h.filled;
      whole = length-set link _ _ ∙ h.whole;
      listed = λ v k. h.listed v (tail v k (ℕ_discrete x.at v));
      room = λ v k. rooms v k (ℕ_discrete x.at v);
      next = λ v k. nexts v k (ℕ_discrete x.at v);
      laid = λ v k i b. laids v k i b (ℕ_discrete x.at v);
    }
      where
        tail : (v : ℕ) → 0 < length (picks l v) → Dec (x.at ≡ v) → 0 < length (picks (x ∷ l) v)
        tail v k (yes e) = omega (arith, ap length (picks-here x l v e))
        tail v k (no m) = omega (arith, ap length (picks-there x l v m))

        longer : (v : ℕ) → x.at ≡ v → length (more v) ≡ suc (length (done v))
        longer v e = let a = ap length (more-here v e) in let b = length-append (done v) (x.edge ∷ []) in omega arith

        rooms : (v : ℕ) → v < n → Dec (x.at ≡ v) → length (more v) + length (picks l v) ≡ c v
        rooms v k (yes e) = omega (arith, h.room v k, longer v e, ap length (picks-here x l v e))
        rooms v k (no m) = omega (arith, h.room v k, ap length (more-there v m), ap length (picks-there x l v m))

        nexts : (v : ℕ) → v < n → Dec (x.at ≡ v) → get_or (raised fill x.at) v 0 ≡ sum v c + length (more v)
        nexts v k (yes e) = omega (arith, raised-here fill x.at v e (omega (arith, h.filled)), h.next v k, longer v e)
        nexts v k (no m) = omega (arith, raised-there fill x.at v m, h.next v k, ap length (more-there v m))

        laids : (v : ℕ) → v < n → (i : ℕ) → i < length (more v) → Dec (x.at ≡ v) → get_or (set link (get_or fill x.at 0) x.edge) (sum v c + i) (step 0 0) ≡ get_or (more v) i (step 0 0)
        laids v k i b (no m) =
            let f = more-there v m in
            let d : i < length (done v) = omega (arith, b, ap length f) in
            get_or-set_other link (get_or fill x.at 0) (sum v c + i) x.edge (step 0 0) (apart v i k d) ∙ h.laid v k i d ∙ ap (λ (z : List Step). get_or z i (step 0 0)) (sym f)
        laids v k i b (yes e) = either (dec_lt i (length (done v)))
          where
            either : Dec (i < length (done v)) → get_or (set link (get_or fill x.at 0) x.edge) (sum v c + i) (step 0 0) ≡ get_or (more v) i (step 0 0)
            either (yes d) =
                get_or-set_other link (get_or fill x.at 0) (sum v c + i) x.edge (step 0 0) (apart v i k d) ∙ h.laid v k i d
                ∙ sym (get_or-append (done v) (x.edge ∷ []) (step 0 0) i d) ∙ ap (λ (z : List Step). get_or z i (step 0 0)) (sym (more-here v e))
            either (no d) =
                let last : i ≡ length (done v) = omega (arith, b, longer v e, d) in
                let here : sum v c + i ≡ get_or fill x.at 0 = omega (arith, last, place, ap (λ (u : ℕ). sum u c) e, ap (λ (u : ℕ). length (done u)) e) in
                ap (λ (j : ℕ). get_or (set link (get_or fill x.at 0) x.edge) j (step 0 0)) here
                ∙ get_or-set_same link (get_or fill x.at 0) x.edge (step 0 0) within
                ∙ sym (get_or-append_seam (done v) x.edge [] (step 0 0))
                ∙ ap₂ (λ (z : List Step) (j : ℕ). get_or z j (step 0 0)) (sym (more-here v e)) (sym last)

  length-linked : (l : List Around) (fill : List ℕ) (link : List Step) → length (linked l fill link) ≡ length link
  unfolding linked
  length-linked [] fill link = refl
  length-linked (x ∷ l) fill link = length-linked l (raised fill x.at) (set link (get_or fill x.at 0) x.edge) ∙ length-set link _ _

  linked-at : (l : List Around) (done : ℕ → List Step) (fill : List ℕ) (link : List Step) → Laying done l fill link → (v : ℕ) → v < n → (i : ℕ) → i < c v
      → get_or (linked l fill link) (sum v c + i) (step 0 0) ≡ get_or (done v ++ picks l v) i (step 0 0)
  unfolding linked picks more
  linked-at [] done fill link h v k i b =
      h.laid v k i (omega (arith, h.room v k, b)) ∙ ap (λ (z : List Step). get_or z i (step 0 0)) (sym (append-nil (done v)))
  linked-at (x ∷ l) done fill link h v k i b =
      linked-at l (more done x l fill link h) (raised fill x.at) (set link (get_or fill x.at 0) x.edge) (turn done x l fill link h) v k i b
      ∙ ap (λ (z : List Step). get_or z i (step 0 0)) (append_assoc (done v) (keep (eqb x.at v) x.edge []) (picks l v) ∙ ap (λ (z : List Step). done v ++ z) (onto (eqb x.at v)))
    where
      onto : (b : Bool) → keep b x.edge [] ++ picks l v ≡ keep b x.edge (picks l v)
      onto true = refl
      onto false = refl

-- ---- `link[start[v]..start[v + 1]]`

pub ring_around : (ts : List Tri) (n : ℕ) → Below n ts → (v : ℕ) → v < n → ring_at ts n v ≡ around ts v
unfolding ring_at
ring_around ts n below v k = ext_get_or (step 0 0) (ring_at ts n v) (around ts v) as_long same
  where
    count : ℕ → ℕ
    count u = length (picks (steps ts) u)

    first : List ℕ
    first = counted (steps ts) (replicate (n + 1) 0)

    start : List ℕ
    start = summed n first

    blank : List Step
    blank = replicate (get_or start n 0) (step 0 0)

    link : List Step
    link = linked (steps ts) start blank

    long : length first ≡ suc n
    long = let a = length-counted (steps ts) (replicate (n + 1) 0) in let b = length-replicate {A = ℕ} (n + 1) 0 in omega arith

    started : (j : ℕ) → j ≤ n → get_or start j 0 ≡ sum j count
    started =
        summed_at n count first long (counted-first (steps ts) (replicate (n + 1) 0) ∙ get_or-replicate {A = ℕ} (n + 1) 0 0 0 (omega arith))
        (λ u l. counted-at (steps ts) (replicate (n + 1) 0) u (omega (arith, length-replicate {A = ℕ} (n + 1) 0)) ∙ ap (λ (z : ℕ). z + count u) (get_or-replicate {A = ℕ} (n + 1) (suc u) 0 0 (omega arith)) ∙ zero-add (count u))
        n (omega arith)

    laying : Laying n count (λ u. []) (steps ts) start blank
    laying = record {
      filled = length-summed n first ∙ long;
      whole = length-replicate (get_or start n 0) (step 0 0) ∙ started n (omega arith);
      listed = λ u l. below u (subst (λ (z : List Step). 0 < length z) (picks-around ts u) l);
      room = λ u l. zero-add (count u);
      next = λ u l. started u (omega arith) ∙ sym (add-zero (sum u count));
      laid = λ u l i b. absurd (omega arith);
    }

    -- where the steps of v stand
    begins : get_or start v 0 ≡ sum v count
    begins = started v (omega arith)

    ends : get_or start (v + 1) 0 ≡ count v + sum v count
    ends = started (v + 1) (omega arith) ∙ ap (λ (u : ℕ). sum u count) (add-one v) ∙ sum-next n count v

    inside : count v + sum v count ≤ length link
    inside = omega (arith, length-linked n count (steps ts) start blank, laying.whole, sum-next n count v, sum-rises n count (suc v) n k)

    size : length (ring_at ts n v) ≡ count v
    size = let a = length-take (get_or start (v + 1) 0 - get_or start v 0) (drop (get_or start v 0) link) in let b = length-drop (get_or start v 0) link in omega (arith, begins, ends, inside)

    as_long : length (ring_at ts n v) ≡ length (around ts v)
    as_long = size ∙ ap length (picks-around ts v)

    same : (i : ℕ) → i < length (ring_at ts n v) → get_or (ring_at ts n v) i (step 0 0) ≡ get_or (around ts v) i (step 0 0)
    same i l =
        let b : i < count v = omega (arith, l, size) in
        get_or-take (get_or start (v + 1) 0 - get_or start v 0) (drop (get_or start v 0) link) i (step 0 0) (omega (arith, b, begins, ends))
        ∙ get_or-drop (get_or start v 0) link i (step 0 0)
        ∙ ap (λ (j : ℕ). get_or link (j + i) (step 0 0)) begins
        ∙ linked-at n count (steps ts) (λ u. []) start blank laying v k i b
        ∙ ap (λ (z : List Step). get_or z i (step 0 0)) (picks-around ts v)

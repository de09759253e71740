-- The walk around a corner is followed and marked, a corner at a time.
use Prim.Native.Nat.{ℕ, ◌+◌, ◌-◌, ◌<◌}
use mathlib.Core.Path.{◌≡◌, refl, sym, ◌∙◌, ap, subst}
use mathlib.Core.Logic.{◌≢◌}
use mathlib.Core.Bool.{Bool, true, false, not, ◌&&◌, ◌||◌, cond}
use mathlib.Core.List.{List, [], ◌∷◌, ◌++◌, append_assoc, Memᴰ}
use native.Mathlib.Omega.{arith}
use native.Mathlib.Nat.{min-le_left}
use native.Mathlib.Decide.{ℕ_discrete, dec_lt}
use lib.Dec.{eqb}
use lib.ListN.{length, get_or, take, drop, set, length-set, length-append, length-take, length-drop, get_or-append, get_or-eq_default}
use lib.Seq.{length-take-le, get_or-take, get_or-drop, get_or-set_same, get_or-set_other, get_or-append-add}
use borrow.Author.Tests.{eq-eqb, ne_eqb}
use Rattle.surface.specs.Triangle.{Tri}
use Rattle.surface.specs.Closed.{Step, around, Leads}
use Rattle.surface.specs.Flat.{held}
use Rattle.surface.proofs.Reading.{Has, spin, has-eq}
use Rattle.surface.proofs.Rings.{is_yes, froms, froms_cons, froms_append}
use Rattle.surface.proofs.Steps.{froms_around, around-has}
use Rattle.surface.proofs.Bridge.{closed_surface_lem, in_use}
use Rattle.history.specs.Undo.{walk, among, again, restored}
use Rattle.history.specs.Route.{Route}
use Rattle.history.proofs.Walk.{starts, walk_path}
use Rattle.verdicts.specs.Notes.{Listed, Noted, On}
use Rattle.entries.specs.Marks.{unmarked, Marked, Routed, again_by, restored_by}
use Rattle.entries.proofs.Mapped.{tri_path}

-- one corner more on the list of those met
among-append : (x : ℕ) (w : List ℕ) (z : ℕ) → among x (w ++ (z ∷ [])) ≡ (among x w || eqb z x)
unfolding among
among-append x [] z = go (eqb z x)
  where
    go : (k : Bool) → (k || false) ≡ k
    go true = refl
    go false = refl
among-append x (y ∷ w) z = go (eqb y x) (among-append x w z)
  where
    go : (k : Bool) → among x (w ++ (z ∷ [])) ≡ (among x w || eqb z x) → (k || among x (w ++ (z ∷ []))) ≡ ((k || among x w) || eqb z x)
    go true e = refl
    go false e = e

starts_append : (l : List Step) (s : Step) → starts (l ++ (s ∷ [])) ≡ starts l ++ (s.from ∷ [])
starts_append [] s = refl
starts_append (t ∷ l) s = ap (λ (m : List ℕ). t.from ∷ m) (starts_append l s)

mem_right : {q : Step} (l m : List Step) → Memᴰ q m → Memᴰ q (l ++ m)
mem_right [] m i = i
mem_right (s ∷ l) m i = Memᴰ.tail (mem_right l m i)

-- how far the walk has come, at z after k steps: the steps behind it are marked, and the others lead on
pub record Walking (ts : List Tri) (a x y points : ℕ) (w : List ℕ) (z k : ℕ) : Type 0 where
  pub routed : Routed ts a x y
  pub done : List Step
  pub todo : List Step
  pub all : done ++ todo ≡ routed.route.way
  pub leads : Leads z todo y
  pub count : length done ≡ k
  pub size : length w ≡ points + points
  pub below : (u v : ℕ) → Has a u v ts → (u < points) × (v < points)
  pub steps : (u v : ℕ) → Has a u v ts → get_or w u 0 ≡ v + 1
  pub marks : Marked points w (starts done)

-- before the first step: the steps are noted in e, and the words behind them are clear
pub walking_start : {l : List ℕ} {n a x y points : ℕ} → Listed l n points → Routed (held l n) a x y → (w e : List ℕ) → ((j : ℕ) → get_or w j 0 ≡ 0) → length w ≡ points + points
    → length e ≡ length (take points w) → Noted (held l n) a e → (z : ℕ) → z ≡ x → Walking (held l n) a x y points (e ++ drop points w) z 0
unfolding among
walking_start {l} {n} {a} {x} {y} {points} s r w e clear f g h z q = record {
  routed = r;
  done = [];
  todo = r.route.way;
  all = refl;
  leads = subst (λ (u : ℕ). Leads u r.route.way y) (sym q) r.route.leads;
  count = refl;
  size = omega (arith, length-append e (drop points w), size_e, size-d);
  below = below;
  steps = λ u v m. get_or-append e (drop points w) 0 u (omega (arith, (below u v m).0, size_e)) ∙ h.step u v m;
  marks = λ u p. eq-eqb (get_or (e ++ drop points w) (points + u) 0) 0 (blank u);
}
  where
    size_e : length e ≡ points
    size_e = g ∙ length-take-le points w (omega arith)

    size-d : length (drop points w) ≡ points
    size-d = omega (arith, length-drop points w)

    below : (u v : ℕ) → Has a u v (held l n) → (u < points) × (v < points)
    below u v m = (s.below u (in_use (spin m)), s.below v (in_use (spin (spin m))))

    blank : (u : ℕ) → get_or (e ++ drop points w) (points + u) 0 ≡ 0
    blank u = ap (λ (j : ℕ). get_or (e ++ drop points w) (j + u) 0) (sym size_e) ∙ get_or-append-add e (drop points w) u 0 ∙ get_or-drop points w u 0 ∙ clear (points + u)

module _ {ts : List Tri} {a x y points : ℕ} {w : List ℕ} {z k : ℕ} (g : Walking ts a x y points w z k) where
  abbrev r : Route ts a g.routed.removed x y
  r = g.routed.route

  -- where it has arrived, all is marked
  pub walking_end : z ≡ y → Marked points w (walk (length (around ts a)) x y (around ts a))
  unfolding Leads
  walking_end e = pick g.todo g.all g.leads
    where
      path : walk (length (around ts a)) x y (around ts a) ≡ starts r.way
      path = walk_path (around ts a) (λ v. omega (arith, froms_around ts a v, (closed_surface_lem r.closed).once a v)) r.way (length (around ts a)) x y r.leads r.on r.unmet r.short

      append_nil : (m : List Step) → m ++ [] ≡ m
      append_nil [] = refl
      append_nil (s ∷ m) = ap (λ (n : List Step). s ∷ n) (append_nil m)

      pick : (m : List Step) → g.done ++ m ≡ r.way → Leads z m y → Marked points w (walk (length (around ts a)) x y (around ts a))
      pick [] f l = subst (λ (m : List ℕ). Marked points w m) (sym (path ∙ ap starts (sym f ∙ append_nil g.done))) g.marks
      pick (s ∷ m) f l =
          absurd (omega (arith, r.unmet, ap (λ (n : List Step). froms n y) f, froms_append g.done (s ∷ m) y, froms_cons s m y, is_yes s.from y (l.0 ∙ e)))

  module _ (n : z ≡ y → ⊥) where
    -- otherwise it goes on
    pub walking_fits : k < length (around ts a)
    unfolding Leads
    walking_fits = pick g.todo g.all g.leads
      where
        pick : (m : List Step) → g.done ++ m ≡ r.way → Leads z m y → k < length (around ts a)
        pick [] f l = absurd (n l)
        pick (s ∷ m) f l = omega (arith, g.count, r.short, ap length f, length-append g.done (s ∷ m))

    -- the step from z
    on-way : (q : Step) (m : List Step) → g.done ++ (q ∷ m) ≡ r.way → q.from ≡ z → Has a z q.to ts
    on-way q m f e = has-eq refl e refl (around-has a q ts (r.on q (subst (λ (p : List Step). Memᴰ q p) f (mem_right g.done (q ∷ m) (Memᴰ.head refl)))))

    pub walking_at : (v : ℕ) × (Has a z v ts)
    unfolding Leads
    walking_at = pick g.todo g.all g.leads
      where
        pick : (m : List Step) → g.done ++ m ≡ r.way → Leads z m y → (v : ℕ) × (Has a z v ts)
        pick [] f l = absurd (n l)
        pick (q ∷ m) f l = (q.to, on-way q m f l.0)

    pub walking_below : z < points
    walking_below = (g.below z walking_at.0 walking_at.1).0

    -- its note, read after the mark is made
    pub walking_note : get_or (set w (points + z) 1) z 0 ≡ walking_at.0 + 1
    walking_note =
        let b = walking_below in
        let m : z ≢ points + z = λ q. omega arith in
        get_or-set_other w (points + z) z 1 0 m ∙ g.steps z walking_at.0 walking_at.1

    marks-on : (w' : List ℕ) → w' ≡ set w (points + z) 1 → (s : Step) → s.from ≡ z → Marked points w' (starts (g.done ++ (s ∷ [])))
    marks-on w' e s f u p =
        ap (λ (v : List ℕ). unmarked points v u) e ∙ go (ℕ_discrete u z) ∙ sym (ap not (among-append u (starts g.done) z))
        ∙ sym (ap (λ (m : List ℕ). not (among u m)) (starts_append g.done s ∙ ap (λ (j : ℕ). starts g.done ++ (j ∷ [])) f))
      where
        go : Dec (u ≡ z) → unmarked points (set w (points + z) 1) u ≡ not (among u (starts g.done) || eqb z u)
        go (yes q) =
            ne_eqb (get_or (set w (points + z) 1) (points + u) 0) 0 (λ c. omega (arith, ap (λ (j : ℕ). get_or (set w (points + z) 1) (points + j) 0) q, get_or-set_same w (points + z) 1 0 (let b = walking_below in let d = g.size in omega arith)))
            ∙ rw (eq-eqb z u (sym q)) (or_true (among u (starts g.done)))
          where
            or_true : (b : Bool) → false ≡ not (b || true)
            or_true true = refl
            or_true false = refl
        go (no q) =
            let m : points + u ≢ points + z = λ c. q (omega arith) in
            ap (λ (j : ℕ). eqb j 0) (get_or-set_other w (points + z) (points + u) 1 0 m) ∙ g.marks u p ∙ rw (ne_eqb z u (λ c. q (sym c))) (or_false (among u (starts g.done)))
          where
            or_false : (b : Bool) → not b ≡ not (b || false)
            or_false true = refl
            or_false false = refl

    pub walking_on : (w' : List ℕ) → w' ≡ set w (points + z) 1 → (z' : ℕ) → z' ≡ get_or w' z 0 - 1 → Walking ts a x y points w' z' (k + 1)
    unfolding Leads
    walking_on w' e z' f = pick g.todo g.all g.leads
      where
        pick : (m : List Step) → g.done ++ m ≡ r.way → Leads z m y → Walking ts a x y points w' z' (k + 1)
        pick [] h l = absurd (n l)
        pick (q ∷ m) h l =
            let t = on-way q m h l.0 in
            let b = walking_below in
            let arrived : z' ≡ q.to =
            let c : z ≢ points + z = λ j. omega arith in
            let d = get_or-set_other w (points + z) z 1 0 c ∙ g.steps z q.to t in
            let i = ap (λ (v : List ℕ). get_or v z 0) e in omega arith in
            record {
              routed = g.routed;
              done = g.done ++ (q ∷ []);
              todo = m;
              all = append_assoc g.done (q ∷ []) m ∙ h;
              leads = subst (λ (p : ℕ). Leads p m y) (sym arrived) l.1;
              count = length-append g.done (q ∷ []) ∙ ap (λ (p : ℕ). p + 1) g.count;
              size = ap length e ∙ length-set w (points + z) 1 ∙ g.size;
              below = g.below;
              steps = λ u v i. let j = g.below u v i in let c : u ≢ points + z = λ o. omega (arith, j.0) in
                  ap (λ (p : List ℕ). get_or p u 0) e ∙ get_or-set_other w (points + z) u 1 0 c ∙ g.steps u v i;
              marks = marks-on w' e q l.0;
            }

-- the triangles restored by the marks are those restored by the walk
again-is : {points : ℕ} (w ws : List ℕ) → Marked points w ws → (a b x y : ℕ) → y < points → again_by points w a b x y ≡ again a b ws x y
again-is {points} w ws m a b x y p = ap (λ (k : Bool). cond (eqb x a && k) b x) (ap not (m y p) ∙ not_not (among y ws))
  where
    not_not : (k : Bool) → not (not k) ≡ k
    not_not true = refl
    not_not false = refl

pub restored-is : {points : ℕ} (w ws : List ℕ) → Marked points w ws → (a b : ℕ) (t : Tri) → On points t → restored_by points w a b t ≡ restored a b ws t
restored-is w ws m a b t o = tri_path (again-is w ws m a b t.a t.b o.b) (again-is w ws m a b t.b t.c o.c) (again-is w ws m a b t.c t.a o.a)

-- one corner
pub again_other : (points : ℕ) (w : List ℕ) (a b x y : ℕ) → (x ≡ a → ⊥) → x ≡ again_by points w a b x y
again_other points w a b x y n = rw (ne_eqb x a n)

pub again-left : (points : ℕ) (w : List ℕ) (a b x y k : ℕ) → k ≡ y → get_or w (points + k) 0 ≡ 0 → x ≡ again_by points w a b x y
again-left points w a b x y k e z = go (eqb x a)
  where
    u : unmarked points w y ≡ true
    u = eq-eqb (get_or w (points + y) 0) 0 (ap (λ (j : ℕ). get_or w (points + j) 0) (sym e) ∙ z)

    go : (q : Bool) → x ≡ cond (q && not (unmarked points w y)) b x
    go true = rw u
    go false = refl

pub again-marked : (points : ℕ) (w : List ℕ) (a b x y k : ℕ) → k ≡ y → x ≡ a → (get_or w (points + k) 0 ≡ 0 → ⊥) → b ≡ again_by points w a b x y
again-marked points w a b x y k e f n = rw (eq-eqb x a f, ne_eqb (get_or w (points + y) 0) 0 (λ z. n (ap (λ (j : ℕ). get_or w (points + j) 0) e ∙ z)))

-- the first of words that are 0
pub front-zero : (k : ℕ) (w : List ℕ) → ((j : ℕ) → get_or w j 0 ≡ 0) → (j : ℕ) → get_or (take k w) j 0 ≡ 0
front-zero k w z j = pick (dec_lt j k)
  where
    pick : Dec (j < k) → get_or (take k w) j 0 ≡ 0
    pick (yes p) = get_or-take k w j 0 p ∙ z j
    pick (no p) = get_or-eq_default (take k w) 0 (omega (arith, length-take k w, p, min-le_left k (length w)))

-- The walk around the kept corner after a collapse meets the steps that were around the removed one.
use Prim.Native.Nat.{ℕ, zero, suc, ◌+◌, ◌≤◌, ◌<◌}
use mathlib.Core.Path.{◌≡◌, refl, sym, ◌∙◌, ap}
use mathlib.Core.Bool.{true, false, ◌||◌}
use mathlib.Core.List.Permᴰ
use mathlib.Core.List.{List, [], ◌∷◌, ◌++◌, map, Memᴰ}
use native.Mathlib.Omega.{arith}
use native.Mathlib.Decide.{ℕ_discrete}
use lib.Dec.{eqb}
use lib.ListN.{length, length-append}
use borrow.Author.Tests.{eq-eqb, ne_eqb}
use Rattle.surface.specs.Triangle.{Tri, tri}
use Rattle.surface.specs.Closed.{sides, Step, step, around, Leads, Closed}
use Rattle.surface.specs.Check.{next}
use Rattle.surface.specs.Edit.{put, renamed}
use Rattle.surface.proofs.Reading.{Has, here, there, spin, has-eq, r0}
use Rattle.surface.proofs.Rings.{is_yes, is_no, froms, froms_cons, froms_perm, froms_append, mem_froms, mem_perm, length_perm}
use Rattle.surface.proofs.Steps.{froms_around, has-around}
use Rattle.surface.proofs.Surface.{Surface}
use Rattle.surface.proofs.Rename.{put-at, put-off}
use Rattle.surface.proofs.CollapseRings.{CollapseRing}
use Rattle.history.specs.Route.{Route}
use Rattle.history.specs.Undo.{walk, among, again, restored}

-- the step that leaves a corner, where it is the only one
pub next-is : {q : Step} {l : List Step} → Memᴰ q l → froms l q.from ≤ 1 → next q.from l ≡ q.to
unfolding next
next-is {q} (Memᴰ.head {x = x} {xs = xs} p) o = rw (eq-eqb x.from q.from (ap (λ (r : Step). r.from) (sym p))) (ap (λ (r : Step). r.to) (sym p))
next-is {q} (Memᴰ.tail {x = x} {xs = xs} m) o =
    rw (ne_eqb x.from q.from (λ e. omega (arith, froms_cons x xs q.from, is_yes x.from q.from e, mem_froms m)))
    (next-is m (omega (arith, froms_cons x xs q.from)))

abbrev pub starts : List Step → List ℕ
starts l = map (λ (s : Step). s.from) l

pub among_froms : (z : ℕ) (l : List Step) → 0 < froms l z → among z (starts l) ≡ true
unfolding froms among
among_froms z [] p = absurd (omega arith)
among_froms z (s ∷ l) p = go (ℕ_discrete s.from z) (among_froms z l)
  where
    go : Dec (s.from ≡ z) → (0 < froms l z → among z (starts l) ≡ true) → (eqb s.from z || among z (starts l)) ≡ true
    go (yes e) f = rw (eq-eqb s.from z e)
    go (no n) f = rw (ne_eqb s.from z n) (f (omega (arith, is_no s.from z n)))

pub froms_among : (z : ℕ) (l : List Step) → froms l z ≡ 0 → among z (starts l) ≡ false
unfolding froms among
froms_among z [] p = refl
froms_among z (s ∷ l) p = rw (ne_eqb s.from z (λ e. omega (arith, is_yes s.from z e))) (froms_among z l (omega arith))

-- a path among steps of which each corner has one is what the walk follows
pub walk_path : (l : List Step) → ((z : ℕ) → froms l z ≤ 1) → (m : List Step) (n x y : ℕ) → Leads x m y → ((q : Step) → Memᴰ q m → Memᴰ q l) → froms m y ≡ 0
    → length m ≤ n → walk n x y l ≡ starts m
unfolding walk Leads
walk_path l once [] zero x y e f z p = refl
walk_path l once [] (suc n) x y e f z p = rw (eq-eqb x y e)
walk_path l once (s ∷ m) zero x y e f z p = absurd (omega arith)
walk_path l once (s ∷ m) (suc n) x y e f z p =
    let k : next x l ≡ s.to = rw (← e.0) (next-is (f s (Memᴰ.head refl)) (once s.from)) in
    let i : x ≡ y → ⊥ = λ q. omega (arith, froms_cons s m y, is_yes s.from y (e.0 ∙ q)) in
    let r = walk_path l once m n s.to y e.1 (λ q j. f q (Memᴰ.tail j)) (omega (arith, froms_cons s m y)) (omega arith) in
    rw (ne_eqb x y i, k, r, e.0)

leads_froms : (x y : ℕ) (l : List Step) → Leads x l y → (x ≡ y → ⊥) → 0 < froms l x
unfolding Leads
leads_froms x y [] e n = absurd (n e)
leads_froms x y (s ∷ l) e n = omega (arith, froms_cons s l x, is_yes s.from x e.0)

mem_right : {q : Step} (l m : List Step) → Memᴰ q m → Memᴰ q (l ++ m)
mem_right [] m i = i
mem_right (s ∷ l) m i = Memᴰ.tail (mem_right l m i)

-- The list before the collapse, ts, and the triangles that stay, rest; c is opposite to the side in the triangle that runs from a to b, d in the other.
module _ {ts : List Tri} (s : Surface ts) (a b c d : ℕ) (rest : List Tri) (t : Surface (map (renamed a b) rest)) (r : CollapseRing ts (map (renamed a b) rest) a b c d)
    (up : (x y z : ℕ) → Has x y z rest → Has x y z ts) (ab : (z : ℕ) → Has a b z rest → ⊥) (ba : (z : ℕ) → Has b a z rest → ⊥) (ne : a ≡ b → ⊥) (cd : c ≡ d → ⊥) where
  abbrev us : List Tri
  us = map (renamed a b) rest

  abbrev path : List ℕ
  path = walk (length (around us a)) d c (around us a)

  once : (z : ℕ) → froms (around us a) z ≤ 1
  once z = omega (arith, froms_around us a z, t.once a z)

  parts : (z : ℕ) → froms r.A z + froms r.B z ≡ froms (around us a) z
  parts z = omega (arith, froms_perm z r.now_a, froms_append r.A r.B z)

  walk_is : path ≡ starts r.B
  walk_is = walk_path (around us a) once r.B (length (around us a)) d c r.leads_B (λ q m. mem_perm (Permᴰ.symm r.now_a) (mem_right r.A r.B m))
      (omega (arith, parts c, once c, leads_froms c d r.A r.leads_A cd))
      (omega (arith, length_perm r.now_a, length-append r.A r.B))

  -- the steps of the rest around b are on it, and those around a are not
  step-b : (y z : ℕ) → Has b y z rest → Memᴰ (step y z) (step c a ∷ step a d ∷ r.B) → Memᴰ (step y z) r.B
  step-b y z h (Memᴰ.head p) = absurd (ab y (has-eq (ap (λ (q : Step). q.to) p) refl refl (spin (spin h))))
  step-b y z h (Memᴰ.tail (Memᴰ.head p)) = absurd (ba z (has-eq refl (ap (λ (q : Step). q.from) p) refl h))
  step-b y z h (Memᴰ.tail (Memᴰ.tail m)) = m

  step-a : (y z : ℕ) → Has a y z rest → Memᴰ (step y z) (step d b ∷ step b c ∷ r.A) → Memᴰ (step y z) r.A
  step-a y z h (Memᴰ.head p) = absurd (ba y (has-eq (ap (λ (q : Step). q.to) p) refl refl (spin (spin h))))
  step-a y z h (Memᴰ.tail (Memᴰ.head p)) = absurd (ab z (has-eq refl (ap (λ (q : Step). q.from) p) refl h))
  step-a y z h (Memᴰ.tail (Memᴰ.tail m)) = m

  on-walk : (y z : ℕ) → Has b y z rest → among y path ≡ true
  on-walk y z h = rw walk_is (among_froms y r.B (mem_froms (step-b y z h (mem_perm r.was_b (has-around (up b y z h))))))

  off-walk : (y z : ℕ) → Has a y z rest → among y path ≡ false
  off-walk y z h = rw walk_is (froms_among y r.B (omega (arith, parts y, once y, mem_froms (step-a y z h (mem_perm r.was_a (has-around (up a y z h)))))))

  again-is : (x y z : ℕ) → Has x y z rest → again a b path (put a b x) (put a b y) ≡ x
  again-is x y z h = pick (ℕ_discrete x b) (ℕ_discrete x a)
    where
      pick : Dec (x ≡ b) → Dec (x ≡ a) → again a b path (put a b x) (put a b y) ≡ x
      pick (yes e) j =
          let f = put-off a b y (λ q. s.differ x y z (up x y z h) (e ∙ sym q)) in
          rw (put-at a b x e, f, eq-eqb a a refl, on-walk y z (has-eq e refl refl h)) (sym e)
      pick (no i) (yes e) =
          let f = put-off a b y (λ q. ab z (has-eq e q refl h)) in
          rw (put-off a b x i, f, eq-eqb x a e, off-walk y z (has-eq e refl refl h))
      pick (no i) (no j) = rw (put-off a b x i, ne_eqb x a j)

  tri_path : {x y z x' y' z' : ℕ} → x ≡ x' → y ≡ y' → z ≡ z' → tri x y z ≡ tri x' y' z'
  tri_path e f g = λ i. record { a = e i; b = f i; c = g i }

  restored-some : (l : List Tri) → ((x y z : ℕ) → Has x y z l → Has x y z rest) → map (restored a b path) (map (renamed a b) l) ≡ l
  restored-some [] f = refl
  restored-some (q ∷ l) f =
      let h = f q.a q.b q.c (here (r0 refl refl refl)) in
      let e : restored a b path (renamed a b q) ≡ q = tri_path (again-is q.a q.b q.c h) (again-is q.b q.c q.a (spin h)) (again-is q.c q.a q.b (spin (spin h))) in
      ap {B = List Tri} (λ (y : Tri). y ∷ map (restored a b path) (map (renamed a b) l)) e ∙ ap (λ (m : List Tri). q ∷ m) (restored-some l (λ x y z h. f x y z (there h)))

  pub restored-all : map (restored a b (walk (length (around (map (renamed a b) rest) a)) d c (around (map (renamed a b) rest) a))) (map (renamed a b) rest) ≡ rest
  restored-all = restored-some rest (λ x y z h. h)

  -- so a program can follow it
  pub route : Closed (map (renamed a b) rest) → sides (map (renamed a b) rest) a b ≡ 0 → Route (map (renamed a b) rest) a b d c
  route k g = record {
    closed = k;
    differ = ne;
    gone = g;
    way = r.B;
    leads = r.leads_B;
    on = λ q m. mem_perm (Permᴰ.symm r.now_a) (mem_right r.A r.B m);
    single = λ z. omega (arith, parts z, once z);
    unmet = omega (arith, parts c, once c, leads_froms c d r.A r.leads_A cd);
    short = omega (arith, length_perm r.now_a, length-append r.A r.B);
  }

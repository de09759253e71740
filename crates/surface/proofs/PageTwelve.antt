-- The theorem of page twelve: neither the order of the triangles nor the corner at which each turn begins affects whether (b), (c), (d), or all four rules hold.
use Prim.Native.Nat.{ℕ, zero, suc, ◌<◌}
use mathlib.Core.Path.{◌≡◌, refl, sym, ◌∙◌, subst}
use mathlib.Core.List.Permᴰ
use mathlib.Core.List.{List, [], ◌∷◌, Memᴰ, Permᴰ}
use native.Mathlib.Omega.{arith}
use lib.ListN.{length}
use Rattle.surface.specs.Triangle.{Tri, names}
use Rattle.surface.specs.Closed.{SameCorners, Paired, Ringed, Distinct}
use Rattle.surface.specs.Edit.{place}
use Rattle.surface.specs.PageTwelve.{Turns, first, second, third, EachTurns, none, more, Relisted, PageTwelve}
use Rattle.surface.proofs.Reading.{Reads, r0, r1, r2}
use Rattle.surface.proofs.Rings.{length_perm}
use Rattle.surface.proofs.Surface.{Alike, alike_refl, alike_sym, alike_trans, alike_cons, alike_perm, alike_turn, surface_alike}
use Rattle.surface.proofs.Bridge.{reads_names, closed_surface_lem, surface_closed}

-- ---- the lists are alike

turns_reads : {s t : Tri} → Turns s t → Reads s t.a t.b t.c
turns_reads first = r0 refl refl refl
turns_reads second = r1 refl refl refl
turns_reads third = r2 refl refl refl

each-alike : {ss ts : List Tri} → EachTurns ss ts → Alike ss ts
each-alike none = alike_refl []
each-alike (more {s = s} {t = t} {ss = ss} {ts = ts} k l) = alike_trans (alike_turn ss (turns_reads k)) (alike_cons t (each-alike l))

pub relisted-alike : {ts us : List Tri} → Relisted ts us → Alike ts us
relisted-alike r = alike_trans (alike_perm r.same) (each-alike r.turns)

-- ---- (b) and (c)

paired_alike : {ts us : List Tri} → Alike ts us → Paired ts → Paired us
paired_alike {ts} {us} k p = record {
  once = λ u v l. sym (k.count u v) ∙ p.once u v (subst (λ (n : ℕ). 0 < n) (sym (k.count u v)) l);
  back = λ u v l. sym (k.count v u) ∙ p.back u v (subst (λ (n : ℕ). 0 < n) (sym (k.count u v)) l);
}

ringed-alike : {ts us : List Tri} → Alike ts us → Ringed ts → Ringed us
ringed-alike {ts} {us} k p v u =
    let r = p v (subst (λ (n : ℕ). 0 < n) (sym (length_perm (k.turns v))) u) in
    record { order = r.order; same = Permᴰ.trans r.same (k.turns v); start = r.start; leads = r.leads }

-- ---- (d), by the triangles behind each

-- t has the corners of none of the list
record Fresh (t : Tri) (ts : List Tri) : Type 0 where
  alone : (s : Tri) → Memᴰ s ts → SameCorners t s → ⊥

data Apart : List Tri → Type 0 where
  nothing : Apart []
  also : {t : Tri} {ts : List Tri} → Fresh t ts → Apart ts → Apart (t ∷ ts)

place_in : (ts : List Tri) (i : ℕ) → i < length ts → Memᴰ (place ts i) ts
place_in [] i l = absurd (omega arith)
place_in (t ∷ ts) zero l = Memᴰ.head refl
place_in (t ∷ ts) (suc i) l = Memᴰ.tail (place_in ts i (omega arith))

in_place : {s : Tri} (ts : List Tri) → Memᴰ s ts → (i : ℕ) × (i < length ts) × (place ts i ≡ s)
in_place (t ∷ ts) (Memᴰ.head e) = (0, omega arith, sym e)
in_place (t ∷ ts) (Memᴰ.tail m) = let p = in_place ts m in (suc p.0, omega (arith, p.1), p.2)
in_place {s = s} [] x' = elim x' [ ]

apart : (ts : List Tri) → Distinct ts → Apart ts
apart [] d = nothing
apart (t ∷ ts) d =
    also (record { alone = λ s m c. let p = in_place ts m in d 0 (suc p.0) (omega arith) (omega (arith, p.1)) (subst (λ (q : Tri). SameCorners t q) (sym p.2) c) })
    (apart ts (λ i j l k. d (suc i) (suc j) (omega arith) (omega arith)))

distinct : (ts : List Tri) → Apart ts → Distinct ts
distinct [] a i j l k = absurd (omega arith)
distinct (t ∷ ts) (also f a) zero zero l k = absurd (omega arith)
distinct (t ∷ ts) (also f a) zero (suc j) l k = f.alone (place ts j) (place_in ts j (omega arith))
distinct (t ∷ ts) (also f a) (suc i) zero l k = absurd (omega arith)
distinct (t ∷ ts) (also f a) (suc i) (suc j) l k = distinct ts a i j (omega arith) (omega arith)

mem_back : {s : Tri} {ts us : List Tri} → Permᴰ ts us → Memᴰ s us → Memᴰ s ts
mem_back (Permᴰ.cons e d) (Memᴰ.head f) = Memᴰ.head (f ∙ sym e)
mem_back (Permᴰ.cons e d) (Memᴰ.tail m) = Memᴰ.tail (mem_back d m)
mem_back (Permᴰ.swap e f) (Memᴰ.head g) = Memᴰ.tail (Memᴰ.head (g ∙ sym f))
mem_back (Permᴰ.swap e f) (Memᴰ.tail (Memᴰ.head g)) = Memᴰ.head (g ∙ sym e)
mem_back (Permᴰ.swap e f) (Memᴰ.tail (Memᴰ.tail m)) = Memᴰ.tail (Memᴰ.tail m)
mem_back (Permᴰ.trans d e) m = mem_back d (mem_back e m)
mem_back {s = s} Permᴰ.nil m = elim m [ ]

fresh_perm : {t : Tri} {ts us : List Tri} → Permᴰ ts us → Fresh t ts → Fresh t us
fresh_perm p f = record { alone = λ s m. f.alone s (mem_back p m) }

fresh-eq : {t u : Tri} {ts : List Tri} → t ≡ u → Fresh t ts → Fresh u ts
fresh-eq {t} {u} {ts} e f = subst (λ (q : Tri). Fresh q ts) e f

apart_perm : {ts us : List Tri} → Permᴰ ts us → Apart ts → Apart us
apart_perm Permᴰ.nil a = nothing
apart_perm (Permᴰ.cons e d) (also f a) = also (fresh-eq e (fresh_perm d f)) (apart_perm d a)
apart_perm (Permᴰ.swap {a = a} {b = b} {a' = a'} {b' = b'} {l = l} e f) (also g (also h k)) =
    also (fresh-eq f (record { alone = case })) (also (fresh-eq e (record { alone = λ s m. g.alone s (Memᴰ.tail m) })) k)
  where
    case : (s : Tri) → Memᴰ s (b' ∷ l) → SameCorners b s → ⊥
    case s (Memᴰ.head q) c = g.alone b (Memᴰ.head refl) (λ v. subst (λ (x : Tri). names x v ≡ names b v) (q ∙ sym e) (sym (c v)))
    case s (Memᴰ.tail m) c = h.alone s m c
apart_perm (Permᴰ.trans d e) a = apart_perm e (apart_perm d a)

turns-names : {s t : Tri} → Turns s t → SameCorners s t
turns-names k v = reads_names (turns_reads k) v

-- a triangle of the one list stands in the other, its turn begun anywhere
mem_each : {t : Tri} {ss ts : List Tri} → EachTurns ss ts → Memᴰ t ts → (s : Tri) × (Memᴰ s ss) × (SameCorners s t)
mem_each (more {s = s} {t = u} k l) (Memᴰ.head e) = (s, Memᴰ.head refl, λ v. turns-names k v ∙ subst (λ (q : Tri). names u v ≡ names q v) (sym e) refl)
mem_each (more k l) (Memᴰ.tail m) = let p = mem_each l m in (p.0, Memᴰ.tail p.1, p.2)
mem_each {t = t} none x4 = elim x4 [ ]

apart-each : {ss ts : List Tri} → EachTurns ss ts → Apart ss → Apart ts
apart-each none a = nothing
apart-each (more k l) (also f a) =
    also (record { alone = λ u m c. let p = mem_each l m in f.alone p.0 p.1 (λ v. turns-names k v ∙ c v ∙ sym (p.2 v)) }) (apart-each l a)

-- ---- the same the other way round

turns-back : {s t : Tri} → Turns s t → Turns t s
turns-back first = first
turns-back second = third
turns-back third = second

each_back : {ss ts : List Tri} → EachTurns ss ts → EachTurns ts ss
each_back none = none
each_back (more k l) = more (turns-back k) (each_back l)

-- ---- page twelve

pub page_twelve : {ts us : List Tri} → Relisted ts us → PageTwelve ts us
page_twelve {ts} {us} r =
    let k = relisted-alike r in
    let j = alike_sym k in
    record {
      paired = (paired_alike k, paired_alike j);
      ringed = (ringed-alike k, ringed-alike j);
      distinct = (
        (λ d. distinct us (apart-each r.turns (apart_perm r.same (apart ts d)))),
        λ d. distinct ts (apart_perm (Permᴰ.symm r.same) (apart-each (each_back r.turns) (apart us d))),
      );
      closed = ((λ c. surface_closed (surface_alike k (closed_surface_lem c))), λ c. surface_closed (surface_alike j (closed_surface_lem c)));
    }

-- What a collapse does to the rings of the side's ends: with the ring of a being b→c→A→d→b, and that of b being a→d→B→c→a, the new ring of a is c→A→d→B→c.
use Prim.Native.Nat.{ℕ, ◌<◌}
use mathlib.Core.Path.{◌≡◌, refl, sym, ◌∙◌, ap, subst}
use mathlib.Core.Logic.{◌⊎◌, inl, inr}
use mathlib.Core.List.{List, [], ◌∷◌, ◌++◌, map, Permᴰ}
use native.Mathlib.Omega.{arith}
use native.Mathlib.Decide.{ℕ_discrete}
use lib.ListN.{length}
use Rattle.surface.specs.Triangle.{Tri, tri}
use Rattle.surface.specs.Laws.{FourDiffer}
use Rattle.surface.specs.Closed.{sides, Step, step, around, Leads, Closed}
use Rattle.surface.specs.Check.{unused}
use Rattle.surface.specs.Edit.{put, renamed, Hinge, hinge, collapse}
use Rattle.surface.proofs.Reading.{hit_yes, r0, r1, r2, Has, here, there, spin, has-eq, has-side}
use Rattle.surface.proofs.Rings.{is_yes, froms_cons, tos_cons, froms_perm, tos_perm, Balanced, path, Followed, follow, RingIn, leads-append, same-list}
use Rattle.surface.proofs.Steps.{around-a, around-b, around-none, around_turn}
use Rattle.surface.proofs.Surface.{Surface, Alike, surface_alike}
use Rattle.surface.proofs.FlipCore.{before, before-sides, six}
use Rattle.surface.proofs.Rename.{put-at, put-off}
use Rattle.surface.proofs.Around.{balanced_around, nothing-over}
use Rattle.surface.proofs.Bridge.{closed_surface_lem}
use Rattle.surface.proofs.Edits.{left, either_way}

-- the steps about a once every b has become an a: those about a, and those about b
record Free (a b : ℕ) (ts : List Tri) : Type 0 where
  apart : (x y z : ℕ) → Has x y z ts → x ≡ y → ⊥
  ab : (x y z : ℕ) → Has x y z ts → x ≡ a → y ≡ b → ⊥
  ba : (x y z : ℕ) → Has x y z ts → x ≡ b → y ≡ a → ⊥

record Off (a b x : ℕ) : Type 0 where
  na : x ≡ a → ⊥
  nb : x ≡ b → ⊥

where_is : (a b x : ℕ) → ((x ≡ a) ⊎ (x ≡ b)) ⊎ Off a b x
where_is a b x = pick (ℕ_discrete x a) (ℕ_discrete x b)
  where
    pick : Dec (x ≡ a) → Dec (x ≡ b) → ((x ≡ a) ⊎ (x ≡ b)) ⊎ Off a b x
    pick (yes e) j = inl (inl e)
    pick (no i) (yes e) = inl (inr e)
    pick (no i) (no j) = inr (record { na = i; nb = j })

next-off : {a b x y z : ℕ} {ts : List Tri} → Free a b ts → Has x y z ts → (x ≡ a) ⊎ (x ≡ b) → Off a b y
next-off {x = x} {y} {z} f h (inl e) = record { na = λ q. f.apart x y z h (e ∙ sym q); nb = λ q. f.ab x y z h e q }
next-off {x = x} {y} {z} f h (inr e) = record { na = λ q. f.ba x y z h e q; nb = λ q. f.apart x y z h (e ∙ sym q) }

last_off : {a b x y z : ℕ} {ts : List Tri} → Free a b ts → Has x y z ts → (x ≡ a) ⊎ (x ≡ b) → Off a b z
last_off {x = x} {y} {z} f h (inl e) = record { na = λ q. f.apart z x y (spin (spin h)) (q ∙ sym e); nb = λ q. f.ba z x y (spin (spin h)) q e }
last_off {x = x} {y} {z} f h (inr e) = record { na = λ q. f.ab z x y (spin (spin h)) q e; nb = λ q. f.apart z x y (spin (spin h)) (q ∙ sym e) }

module _ (a b : ℕ) (ne : a ≡ b → ⊥) (ts : List Tri) (ih : Permᴰ (around (map (renamed a b) ts) a) (around ts a ++ around ts b)) where
  abbrev Merged : Tri → Type 0
  Merged t = Permᴰ (around (map (renamed a b) (t ∷ ts)) a) (around (t ∷ ts) a ++ around (t ∷ ts) b)

  keeps : {x : ℕ} → Off a b x → put a b x ≡ x
  keeps {x} o = put-off a b x o.nb

  misses : {x : ℕ} → Off a b x → put a b x ≡ a → ⊥
  misses {x} o e = o.na (sym (keeps o) ∙ e)

  lead : (x y z : ℕ) → (x ≡ a) ⊎ (x ≡ b) → Off a b y → Off a b z → Merged (tri x y z)
  lead x y z (inl e) oy oz =
      let m = map (renamed a b) ts in
      let p = around-a (put a b x) (put a b y) (put a b z) m a (put-off a b x (λ q. ne (sym e ∙ q)) ∙ e) (misses oy) (misses oz) in
      let q : step (put a b y) (put a b z) ∷ around m a ≡ step y z ∷ around m a = rw (keeps oy, keeps oz) in
      let r = around-a x y z ts a e oy.na oz.na in
      let w = around-none x y z ts b (λ q. ne (sym e ∙ q)) oy.nb oz.nb in
      rw (p, q, r, w) (mathlib.Core.List.Permᴰ.cons refl ih)
  lead x y z (inr e) oy oz =
      let m = map (renamed a b) ts in
      let p = around-a (put a b x) (put a b y) (put a b z) m a (put-at a b x e) (misses oy) (misses oz) in
      let q : step (put a b y) (put a b z) ∷ around m a ≡ step y z ∷ around m a = rw (keeps oy, keeps oz) in
      let r = around-none x y z ts a (λ q. ne (sym q ∙ e)) oy.na oz.na in
      let w = around-a x y z ts b e oy.nb oz.nb in
      rw (p, q, r, w) (mathlib.Core.List.Permᴰ.trans (mathlib.Core.List.Permᴰ.cons refl ih) (mathlib.Core.List.Permᴰ.symm (mathlib.Core.List.Permᴰ.middle (step y z) (around ts a) (around ts b))))

  out : (x y z : ℕ) → Off a b x → Off a b y → Off a b z → Merged (tri x y z)
  out x y z ox oy oz =
      let p = around-none (put a b x) (put a b y) (put a b z) (map (renamed a b) ts) a (misses ox) (misses oy) (misses oz) in
      let r = around-none x y z ts a ox.na oy.na oz.na in
      let w = around-none x y z ts b ox.nb oy.nb oz.nb in
      rw (p, r, w) ih

  -- the triangle may be turned
  merged_turn : (x y z : ℕ) → Merged (tri y z x) → Merged (tri x y z)
  merged_turn x y z m =
      mathlib.Core.List.Permᴰ.trans (around_turn (map (renamed a b) ts) (r1 refl refl refl) a)
      (mathlib.Core.List.Permᴰ.trans m (mathlib.Core.List.Permᴰ.trans (mathlib.Core.List.Permᴰ.append_right (around (tri y z x ∷ ts) b) (around_turn {t = tri y z x} ts (r2 refl refl refl) a))
      (mathlib.Core.List.Permᴰ.append_left (around (tri x y z ∷ ts) a) (around_turn {t = tri y z x} ts (r2 refl refl refl) b))))

merged : (a b : ℕ) → (a ≡ b → ⊥) → (ts : List Tri) → Free a b ts → Permᴰ (around (map (renamed a b) ts) a) (around ts a ++ around ts b)
unfolding around
merged a b ne [] f = mathlib.Core.List.Permᴰ.nil
merged a b ne (t ∷ ts) f =
    pick (merged a b ne ts (record { apart = λ x y z h. f.apart x y z (there h); ab = λ x y z h. f.ab x y z (there h); ba = λ x y z h. f.ba x y z (there h) }))
    (where_is a b t.a) (where_is a b t.b) (where_is a b t.c)
  where
    h : Has t.a t.b t.c (t ∷ ts)
    h = here (r0 refl refl refl)

    pick : Permᴰ (around (map (renamed a b) ts) a) (around ts a ++ around ts b)
        → ((t.a ≡ a) ⊎ (t.a ≡ b)) ⊎ Off a b t.a → ((t.b ≡ a) ⊎ (t.b ≡ b)) ⊎ Off a b t.b → ((t.c ≡ a) ⊎ (t.c ≡ b)) ⊎ Off a b t.c
        → Permᴰ (around (map (renamed a b) (t ∷ ts)) a) (around (t ∷ ts) a ++ around (t ∷ ts) b)
    pick ih (inl e) j k = lead a b ne ts ih t.a t.b t.c e (next-off f h e) (last_off f h e)
    pick ih (inr i) (inl e) k = merged_turn a b ne ts ih t.a t.b t.c (lead a b ne ts ih t.b t.c t.a e (next-off f (spin h) e) (last_off f (spin h) e))
    pick ih (inr i) (inr j) (inl e) =
        merged_turn a b ne ts ih t.a t.b t.c (merged_turn a b ne ts ih t.b t.c t.a
        (lead a b ne ts ih t.c t.a t.b e (next-off f (spin (spin h)) e) (last_off f (spin (spin h)) e)))
    pick ih (inr i) (inr j) (inr k) = out a b ne ts ih t.a t.b t.c i j k

-- a ring that runs from e by o to f is left, without those two steps, as a path from f to e
record Opened (f e : ℕ) (rest : List Step) : Type 0 where
  way : List Step
  leads : Leads f way e
  all : Permᴰ way rest

opened : {ts : List Tri} → Surface ts → (v e o f : ℕ) (rest : List Step) → Permᴰ (around ts v) (step e o ∷ step o f ∷ rest) → Opened f e rest
unfolding Leads Balanced
opened {ts} s v e o f rest p = record { way = way; leads = k.way; all = mathlib.Core.List.Permᴰ.trans (mathlib.Core.List.Permᴰ.symm (mathlib.Core.List.Permᴰ.append-nil way)) (subst (λ (m : List Step). Permᴰ (way ++ m) rest) none k.all) }
  where
    k : Followed (length rest) f e rest
    k = follow (length rest) f e rest (omega arith) (λ z. omega (
      arith,
      balanced_around ts v s.once s.even z,
      froms_perm z p,
      tos_perm z p,
      froms_cons (step e o) (step o f ∷ rest) z,
      froms_cons (step o f) rest z,
      tos_cons (step e o) (step o f ∷ rest) z,
      tos_cons (step o f) rest z,
    ))

    way : List Step
    way = path (length rest) f e rest

    over : List Step
    over = unused (length rest) f e rest

    ring : RingIn (around ts v) over
    ring = record {
      start = e;
      ring = step e o ∷ step o f ∷ way;
      leads = (refl, (refl, k.way));
      left = omega (arith, froms_cons (step e o) (step o f ∷ way) e, is_yes e e refl);
      all = mathlib.Core.List.Permᴰ.trans (mathlib.Core.List.Permᴰ.cons refl (mathlib.Core.List.Permᴰ.cons refl k.all)) (mathlib.Core.List.Permᴰ.symm p);
    }

    none : over ≡ []
    none = nothing-over ts v s.once s.even over ring (s.joined v)

-- the rings about a and b before, and about a afterwards
pub record CollapseRing (ts us : List Tri) (a b c d : ℕ) : Type 0 where
  pub A : List Step
  pub B : List Step
  pub leads_A : Leads c A d
  pub leads_B : Leads d B c
  pub was_a : Permᴰ (around ts a) (step d b ∷ step b c ∷ A)
  pub was_b : Permᴰ (around ts b) (step c a ∷ step a d ∷ B)
  pub now_a : Permᴰ (around us a) (A ++ B)
  pub ring_a : Leads c (A ++ B) c

core_ring : {ts : List Tri} → Surface ts → (a b c d : ℕ) (rest : List Tri) → Alike ts (before a b c d rest) → CollapseRing ts (map (renamed a b) rest) a b c d
core_ring {ts} s a b c d rest k =
    let p : Permᴰ (around ts a) (step d b ∷ step b c ∷ around rest a) = mathlib.Core.List.Permᴰ.trans (k.turns a) (mathlib.Core.List.Permᴰ.trans (same-list about_a) (mathlib.Core.List.Permᴰ.swap refl refl)) in
    let q : Permᴰ (around ts b) (step c a ∷ step a d ∷ around rest b) = mathlib.Core.List.Permᴰ.trans (k.turns b) (same-list about_b) in
    let x = opened s a d b c (around rest a) p in
    let y = opened s b c a d (around rest b) q in
    record {
      A = x.way;
      B = y.way;
      leads_A = x.leads;
      leads_B = y.leads;
      was_a = mathlib.Core.List.Permᴰ.trans p (mathlib.Core.List.Permᴰ.cons refl (mathlib.Core.List.Permᴰ.cons refl (mathlib.Core.List.Permᴰ.symm x.all)));
      was_b = mathlib.Core.List.Permᴰ.trans q (mathlib.Core.List.Permᴰ.cons refl (mathlib.Core.List.Permᴰ.cons refl (mathlib.Core.List.Permᴰ.symm y.all)));
      now_a = mathlib.Core.List.Permᴰ.trans (merged a b six'.uv rest free) (mathlib.Core.List.Permᴰ.trans (mathlib.Core.List.Permᴰ.append_right (around rest b) (mathlib.Core.List.Permᴰ.symm x.all)) (mathlib.Core.List.Permᴰ.append_left x.way (mathlib.Core.List.Permᴰ.symm y.all)));
      ring_a = leads-append c d c x.way y.way x.leads y.leads;
    }
  where
    t : Surface (before a b c d rest)
    t = surface_alike k s

    six' : FourDiffer a b c d
    six' = six a b c d rest t

    about_a : around (before a b c d rest) a ≡ step b c ∷ step d b ∷ around rest a
    about_a = around-a a b c (tri b a d ∷ rest) a refl (λ e. six'.uv (sym e)) six'.cu
        ∙ ap (λ (l : List Step). step b c ∷ l) (around-b b a d rest a (λ e. six'.uv (sym e)) refl (λ e. six'.ud (sym e)))

    about_b : around (before a b c d rest) b ≡ step c a ∷ step a d ∷ around rest b
    about_b = around-b a b c (tri b a d ∷ rest) b six'.uv refl (λ e. six'.vc (sym e))
        ∙ ap (λ (l : List Step). step c a ∷ l) (around-a b a d rest b refl six'.uv six'.dv)

    free : Free a b rest
    free = record {
      apart = λ x y z h. t.differ x y z (there (there h));
      ab = λ x y z h e f. omega (arith, before-sides a b c d rest a b, hit_yes a b a b refl refl, has-side (has-eq e f refl h), t.once a b);
      ba = λ x y z h e f. omega (arith, before-sides a b c d rest b a, hit_yes b a b a refl refl, has-side (has-eq e f refl h), t.once b a);
    }

-- c is the corner opposite to the side in the triangle that runs from a to b, d that in the one that runs from b to a
pub collapse_ring : {ts : List Tri} → Closed ts → (a b : ℕ) → 0 < sides ts a b
    → (CollapseRing ts (collapse a b ts) a b (hinge ts a b).c (hinge ts a b).d) ⊎ (CollapseRing ts (collapse a b ts) a b (hinge ts a b).d (hinge ts a b).c)
unfolding collapse
collapse_ring {ts} c a b given = pick (either_way s a b given)
  where
    s : Surface ts
    s = closed_surface_lem c

    h : Hinge
    h = hinge ts a b

    pick : (Alike ts (before a b h.c h.d (left s a b given))) ⊎ (Alike ts (before a b h.d h.c (left s a b given)))
        → (CollapseRing ts (map (renamed a b) (left s a b given)) a b h.c h.d) ⊎ (CollapseRing ts (map (renamed a b) (left s a b given)) a b h.d h.c)
    pick (inl k) = inl (core_ring s a b h.c h.d (left s a b given) k)
    pick (inr k) = inr (core_ring s a b h.d h.c (left s a b given) k)

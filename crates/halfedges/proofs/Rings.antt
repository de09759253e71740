-- The walk around a corner comes home after as many hops as there are places exactly where the steps around the corner are a ring.
use Prim.Native.Nat.{ℕ, zero, suc, ◌<◌, ◌≤◌}
use native.Mathlib.Omega.{arith}
use mathlib.Core.Path.{◌≡◌, refl, sym, ap, ◌∙◌, subst}
use mathlib.Core.Logic.{inl, inr, ⊎_elim}
use mathlib.Core.Bool.{Bool, true, false, cond}
use mathlib.Core.List.Permᴰ
use mathlib.Core.List.{List, [], ◌∷◌, ◌++◌}
use Rattle.std.specs.Prelude.{Option, None, Some}
use lib.Dec.{eqb}
use lib.ListN.{length}
use borrow.Author.Tests.{eqb-true, eq-eqb, ne_eqb}
use Rattle.surface.specs.Closed.{Step, one, Leads, Ring}
use Rattle.halfedges.specs.Place.{nx, pv, at, st, landed, trip, Steps}
use Rattle.halfedges.proofs.Steps.{starts, froms, In, Place, pl, pl_in, pl_place}
use Rattle.halfedges.proofs.Perms.{Apart, perm_of, cut, leads_cut, leads_join, in_perm, tally_perm, length_perm, tally-append, length_turn, in_left, in_right, in_either, none_from, apart_froms}

no : {A : Type 0} → false ≡ true → A
no e = let z : ◌≡◌ {A = ℕ} 0 1 = cc in absurd (omega arith)

-- a trip home from one place has one length
pub trip-once : (h : ℕ → Option ℕ) (x₀ f g x : ℕ) → trip h x₀ f x ≡ true → trip h x₀ g x ≡ true → f ≡ g
unfolding trip
trip-once h x₀ zero g x p q = no p
trip-once h x₀ (suc f) zero x p q = no q
trip-once h x₀ (suc f) (suc g) x p q = ap suc (go (trip-once h x₀ f g) (h x) p q)
  where
    from : ((j : ℕ) → trip h x₀ f j ≡ true → trip h x₀ g j ≡ true → f ≡ g) → (b : Bool) (j : ℕ) → cond b (eqb f 0) (trip h x₀ f j) ≡ true → cond b (eqb g 0) (trip h x₀ g j) ≡ true → f ≡ g
    from ih true j p q = eqb-true f 0 p ∙ sym (eqb-true g 0 q)
    from ih false j p q = ih j p q

    go : ((j : ℕ) → trip h x₀ f j ≡ true → trip h x₀ g j ≡ true → f ≡ g) → (m : Option ℕ) → landed (trip h x₀ f) x₀ f m ≡ true → landed (trip h x₀ g) x₀ g m ≡ true → f ≡ g
    go ih None p q = no p
    go ih (Some j) p q = from ih (eqb j x₀) j p q

-- what a hop around v is: from where a place of v steps off to where it lands
pub record Hops (c : List ℕ) (p v : ℕ) (h : ℕ → Option ℕ) : Type 0 where
  pub lands : (x y : ℕ) → x < p → h x ≡ Some y → Steps c v 0 x y
  pub within : (x y : ℕ) → x < p → h x ≡ Some y → y < p
  pub finds : (k : ℕ) → k < length c → at c k ≡ v → h (at c (nx k)) ≡ Some (at c (pv k))

-- a step of a walk, from where the trip home is at most f long
pub record Walked (c : List ℕ) (v : ℕ) (h : ℕ → Option ℕ) (x₀ f : ℕ) (s : Step) : Type 0 where
  pub k : ℕ
  pub low : k < length c
  pub names : at c k ≡ v
  pub makes : s ≡ st c k
  pub left : ℕ
  pub most : left ≤ f
  pub home : trip h x₀ left (at c (nx k)) ≡ true

pub record Walk (c : List ℕ) (v : ℕ) (h : ℕ → Option ℕ) (x₀ x f : ℕ) : Type 0 where
  pub path : List Step
  pub size : length path ≡ f
  pub leads : Leads x path x₀
  pub walked : (s : Step) → In s path → Walked c v h x₀ f s
  pub apart : Apart path

module _ (c : List ℕ) (p v : ℕ) (h : ℕ → Option ℕ) (x₀ : ℕ) (hops : Hops c p v h) where
  -- the last hop, and a hop before it
  last-walk : (x y : ℕ) → Steps c v 0 x y → y ≡ x₀ → trip h x₀ 1 x ≡ true → Walk c v h x₀ x 1
  unfolding Leads
  last-walk x y u z t = record {
    path = st c u.k ∷ [];
    size = refl;
    leads = (u.leaves, u.lands ∙ z);
    walked = λ s i. ⊎_elim
        (λ (w : s ≡ st c u.k). record { k = u.k; low = u.low; names = u.names; makes = w; left = 1; most = omega arith; home = subst (λ (i : ℕ). trip h x₀ 1 i ≡ true) (sym u.leaves) t })
        (λ (w : ⊥). absurd w)
        i;
    apart = ((λ t i. absurd i), tt);
  }

  more-walk : (x y f : ℕ) → Steps c v 0 x y → trip h x₀ (suc f) x ≡ true → Walk c v h x₀ y f → Walk c v h x₀ x (suc f)
  unfolding Leads
  more-walk x y f u t w =
      let here : trip h x₀ (suc f) (at c (nx u.k)) ≡ true = subst (λ (i : ℕ). trip h x₀ (suc f) i ≡ true) (sym u.leaves) t in
      record {
        path = st c u.k ∷ w.path;
        size = ap suc w.size;
        leads = (u.leaves, subst (λ (i : ℕ). Leads i w.path x₀) (sym u.lands) w.leads);
        walked = λ s i. ⊎_elim
            (λ (z : s ≡ st c u.k). record { k = u.k; low = u.low; names = u.names; makes = z; left = suc f; most = omega arith; home = here })
            (λ (z : In s w.path). let q = w.walked s z in record { k = q.k; low = q.low; names = q.names; makes = q.makes; left = q.left; most = omega arith; home = q.home })
            i;
        apart = (
          (λ s i e. let q = w.walked s i in
              let same : at c (nx u.k) ≡ at c (nx q.k) = e ∙ ap (λ (r : Step). r.from) q.makes in
              let len : suc f ≡ q.left = trip-once h x₀ (suc f) q.left (at c (nx u.k)) here (subst (λ (i : ℕ). trip h x₀ q.left i ≡ true) (sym same) q.home) in
              omega arith),
          w.apart,
        );
      }

  -- a trip home is a walk
  pub walk_of : (f x : ℕ) → x < p → trip h x₀ f x ≡ true → Walk c v h x₀ x f
  unfolding trip
  walk_of zero x l t = no t
  walk_of (suc f) x l t = go (walk_of f) (h x) refl
    where
      from : ((i : ℕ) → i < p → trip h x₀ f i ≡ true → Walk c v h x₀ i f) → (y : ℕ) → h x ≡ Some y → (b : Bool) → eqb y x₀ ≡ b → cond b (eqb f 0) (trip h x₀ f y) ≡ true → Walk c v h x₀ x (suc f)
      from ih y q true z e =
          let f0 = eqb-true f 0 e in
          subst (λ (g : ℕ). Walk c v h x₀ x (suc g)) (sym f0) (last-walk x y (hops.lands x y l q) (eqb-true y x₀ z) (subst (λ (g : ℕ). trip h x₀ (suc g) x ≡ true) f0 t))
      from ih y q false z e = more-walk x y f (hops.lands x y l q) t (ih y (hops.within x y l q) e)

      go : ((i : ℕ) → i < p → trip h x₀ f i ≡ true → Walk c v h x₀ i f) → (m : Option ℕ) → h x ≡ m → Walk c v h x₀ x (suc f)
      go ih None q = no (ap (landed (trip h x₀ f) x₀ f) (sym q) ∙ t)
      go ih (Some y) q = from ih y q (eqb y x₀) refl (ap (landed (trip h x₀ f) x₀ f) (sym q) ∙ t)

  -- so the steps of v are a ring, and no two start at one corner
  pub record Round : Type 0 where
    pub ring : Ring (pl c v 0 (length c))
    pub single : (x : ℕ) → froms x (pl c v 0 (length c)) ≤ 1

  pub round_of : x₀ < p → trip h x₀ (length (pl c v 0 (length c))) x₀ ≡ true → Round
  round_of l t =
      let w = walk_of (length (pl c v 0 (length c))) x₀ l t in
      let sub : (s : Step) → In s w.path → In s (pl c v 0 (length c)) = λ s i.
      let u = w.walked s i in
      subst (λ (y : Step). In y (pl c v 0 (length c))) (sym u.makes) (pl_in c v 0 (length c) u.k (omega arith) (omega (arith, u.low)) u.names) in
      let perm = perm_of w.path (pl c v 0 (length c)) w.apart sub w.size in
      record {
        ring = record { order = w.path; same = perm; start = x₀; leads = w.leads };
        single = λ x. subst (λ (m : ℕ). m ≤ 1) (tally_perm (starts x) perm) (apart_froms x w.path w.apart);
      }

  -- the other way: steps that lead home, with none of them from home, are a trip
  follow : (l : List Step) (k : ℕ) → k < length c → at c k ≡ v → Leads (at c (pv k)) l x₀ → ((s : Step) → In s l → Place c v (length c) s) → ((s : Step) → In s l → s.from ≡ x₀ → ⊥) → trip h x₀ (suc (length l)) (at c (nx k)) ≡ true
  unfolding Leads trip
  follow [] k lk ek q places away =
      ap (landed (trip h x₀ 0) x₀ 0) (hops.finds k lk ek) ∙ ap (λ (b : Bool). cond b (eqb 0 0) (trip h x₀ 0 (at c (pv k)))) (eq-eqb (at c (pv k)) x₀ q)
  follow (s ∷ l) k lk ek q places away =
      let u = places s (inl refl) in
      let here : at c (nx u.k) ≡ at c (pv k) = ap (λ (y : Step). y.from) (sym u.makes) ∙ q.0 in
      let other : eqb (at c (pv k)) x₀ ≡ false = ne_eqb (at c (pv k)) x₀ (λ z. away s (inl refl) (q.0 ∙ z)) in
      ap (landed (trip h x₀ (suc (length l))) x₀ (suc (length l))) (hops.finds k lk ek)
      ∙ ap (λ (b : Bool). cond b (eqb (suc (length l)) 0) (trip h x₀ (suc (length l)) (at c (pv k)))) other
      ∙ ap (trip h x₀ (suc (length l))) (sym here)
      ∙ follow l u.k u.low u.names (subst (λ (y : Step). Leads y.to l x₀) u.makes q.1) (λ t i. places t (inr i)) (λ t i. away t (inr i))

  pub trip_of : (k₀ : ℕ) → k₀ < length c → at c k₀ ≡ v → at c (nx k₀) ≡ x₀ → Ring (pl c v 0 (length c)) → ((x : ℕ) → froms x (pl c v 0 (length c)) ≤ 1) → trip h x₀ (length (pl c v 0 (length c))) x₀ ≡ true
  unfolding Leads
  trip_of k₀ l0 e0 x-is r single =
      let s₀ = st c k₀ in
      let all = pl c v 0 (length c) in
      let within : In s₀ all = pl_in c v 0 (length c) k₀ (omega arith) (omega arith) e0 in
      let u = cut s₀ r.order (in_perm s₀ (Permᴰ.symm r.same) within) in
      let b = leads_cut r.start r.start u.left (s₀ ∷ u.right) (subst (λ (y : List Step). Leads r.start y r.start) u.whole r.leads) in
      let turned : Leads (at c (pv k₀)) (u.right ++ u.left) x₀ = leads_join (at c (pv k₀)) r.start x₀ u.right u.left b.aft.1 (subst (λ (y : ℕ). Leads r.start u.left y) (sym b.aft.0 ∙ x-is) b.fore) in
      let few : froms x₀ (u.left ++ s₀ ∷ u.right) ≤ 1 = subst (λ (m : ℕ). m ≤ 1) (sym (ap (froms x₀) (sym u.whole) ∙ tally_perm (starts x₀) r.same)) (single x₀) in
      let none : froms x₀ (u.right ++ u.left) ≡ 0 = omega (arith, few, tally-append (starts x₀) u.left (s₀ ∷ u.right), tally-append (starts x₀) u.right u.left, ap one (eq-eqb (at c (nx k₀)) x₀ x-is)) in
      let among : (s : Step) → In s (u.right ++ u.left) → In s r.order = λ s i. subst (In s) (sym u.whole) (⊎_elim (λ (j : In s u.right). in_right s u.left (s₀ ∷ u.right) (inr j)) (λ (j : In s u.left). in_left s u.left (s₀ ∷ u.right) j) (in_either s u.right u.left i)) in
      let size : length all ≡ suc (length (u.right ++ u.left)) = sym (length_perm r.same) ∙ ap length u.whole ∙ length_turn s₀ u.left u.right in
      subst (λ (n : ℕ). trip h x₀ n x₀ ≡ true) (sym size)
      (subst (λ (x : ℕ). trip h x₀ (suc (length (u.right ++ u.left))) x ≡ true) x-is
      (follow (u.right ++ u.left) k₀ l0 e0 turned
      (λ s i. pl_place c v 0 (length c) (length c) s (omega arith) (in_perm s r.same (among s i)))
      (λ s i. none_from x₀ s (u.right ++ u.left) none i)))

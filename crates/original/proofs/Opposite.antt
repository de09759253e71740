-- adjacent[a] ∩ adjacent[b] == opposite, an equality of sets, says what `common` of crate rounds says.
use Prim.Native.Nat.{ℕ, ◌+◌, ◌<◌}
use mathlib.Core.Path.{◌≡◌, refl, sym, ◌∙◌, ap}
use mathlib.Core.Logic.{◌↔◌, ◌⊎◌, inl, inr}
use mathlib.Core.Bool.{Bool, true, false, not, ◌&&◌, ◌||◌, true≢false}
use mathlib.Core.List.{List, [], ◌∷◌}
use native.Mathlib.Omega.{arith}
use native.Mathlib.Decide.{ℕ_discrete}
use lib.Dec.{eqb}
use borrow.Author.Tests.{eqb-true, eq-eqb, ne_eqb, ltb-true, lt-ltb}
use Rattle.surface.specs.Triangle.{Tri, names, corners}
use Rattle.surface.specs.Closed.{sides, Closed}
use Rattle.surface.specs.Check.{every}
use Rattle.surface.specs.Edit.{place, Hinge, hinge}
use Rattle.surface.proofs.Bools.{both, join, not_true, or_cases, or_second, true_false}
use Rattle.surface.proofs.Reading.{Reads, turn, Has, spin, has-side, side-has}
use Rattle.surface.proofs.Bridge.{reads_name, reads_names, closed_surface_lem}
use Rattle.surface.proofs.Hinged.{Hinged}
use Rattle.surface.proofs.Edits.{Filled, one_way, other_way}
use Rattle.surface.proofs.Laws.{hinge-found}
use Rattle.rounds.specs.Pass.{near}
use Rattle.rounds.specs.Choices.{common}
use Rattle.rounds.proofs.Near.{near_next, near-side}
use Rattle.rounds.proofs.Choices.{all_mem}
use Rattle.rounds.proofs.Local.{all_of, implies}
use Rattle.rounds.proofs.FirstUse.{has-corner}
use Rattle.rounds.proofs.Exact.{Apart, hinge-apart}
use Rattle.oracle.specs.Candidates.{chosen}
use Rattle.oracle.proofs.Thirds.{with_c, with_d, third-corner}
use Rattle.original.specs.Sets.{member, same_set, intersection}
use Rattle.original.specs.Maps.{adjacent}
use Rattle.original.specs.Collapse.{corners_at, opposite}
use Rattle.original.proofs.Sets.{same_test, or_left, or_right, member-chosen, same_set_lem, member-both}
use Rattle.original.proofs.Maps.{member-adjacent}

-- who is beside both ends is opposite to the side
abbrev pub Alone : List Tri → ℕ → ℕ → Type 0
Alone ts a b = (x : ℕ) → 0 < sides ts a x → 0 < sides ts b x → Filled ts a b x

pub filled-back : {ts : List Tri} {a b x : ℕ} → Filled ts a b x → Filled ts b a x
filled-back (one_way h) = other_way (spin h)
filled-back (other_way h) = one_way (spin (spin h))

pub alone-back : {ts : List Tri} {a b : ℕ} → Alone ts a b → Alone ts b a
alone-back h x p q = filled-back (h x q p)

module _ {ts : List Tri} (c : Closed ts) (a b : ℕ) (given : 0 < sides ts a b) where
  abbrev h : Hinge
  h = hinge ts a b

  k : Hinged ts a b (hinge ts a b)
  k = hinge-found c a b given

  third-filled : (x : ℕ) → (x ≡ h.c) ⊎ (x ≡ h.d) → Filled ts a b x
  third-filled x (inl e) = rw e (with_c c a b given)
  third-filled x (inr e) = rw e (with_d c a b given)

  -- no corner is beside itself
  not_self : (x y : ℕ) → 0 < sides ts x y → x ≡ y → ⊥
  not_self x y p e = let g = side-has ts x y p in (closed_surface_lem c).differ x y g.0 g.1 e

  -- that is `common`
  pub common-is : (common ts a b h.c h.d ≡ true) ↔ Alone ts a b
  unfolding common
  common-is = ((λ e x p q. third-filled x (found e x p q (side-has ts a x p) (side-has ts b x q))), λ f. all_of _ (corners ts) (λ e. test f e (near ts a e && near ts b e) refl))
    where
      four : (p q r s : Bool) → (p || (q || (r || s))) ≡ true → p ≡ false → q ≡ false → (r ≡ true) ⊎ (s ≡ true)
      four true q r s e f g = absurd (true≢false f)
      four false true r s e f g = absurd (true≢false g)
      four false false true s e f g = inl refl
      four false false false s e f g = inr e

      found : every (λ (e : ℕ). not (near ts a e && near ts b e) || (eqb e a || (eqb e b || (eqb e h.c || eqb e h.d)))) (corners ts) ≡ true
          → (x : ℕ) → 0 < sides ts a x → 0 < sides ts b x → ((z : ℕ) × Has a x z ts) → ((z : ℕ) × Has b x z ts) → (x ≡ h.c) ⊎ (x ≡ h.d)
      found e x p q i j = last (four (eqb x a) (eqb x b) (eqb x h.c) (eqb x h.d)
          (implies (near ts a x && near ts b x) _ (all_mem _ (corners ts) x e (has-corner (spin i.1))) (join _ _ (near_next i.1) (near_next j.1)))
          (ne_eqb x a (λ w. not_self a x p (sym w))) (ne_eqb x b (λ w. not_self b x q (sym w))))
        where
          last : (eqb x h.c ≡ true) ⊎ (eqb x h.d ≡ true) → (x ≡ h.c) ⊎ (x ≡ h.d)
          last (inl w) = inl (eqb-true x h.c w)
          last (inr w) = inr (eqb-true x h.d w)

      test : Alone ts a b → (e : ℕ) (q : Bool) → (near ts a e && near ts b e) ≡ q → (not (near ts a e && near ts b e) || (eqb e a || (eqb e b || (eqb e h.c || eqb e h.d)))) ≡ true
      test f e false g = rw g refl
      test f e true g = rw g (pick (ℕ_discrete e a) (ℕ_discrete e b))
        where
          last : (e ≡ h.c) ⊎ (e ≡ h.d) → (eqb e h.c || eqb e h.d) ≡ true
          last (inl w) = or_left (eqb e h.c) (eqb e h.d) (eq-eqb e h.c w)
          last (inr w) = or_right (eqb e h.c) (eqb e h.d) (eq-eqb e h.d w)

          pick : Dec (e ≡ a) → Dec (e ≡ b) → (eqb e a || (eqb e b || (eqb e h.c || eqb e h.d))) ≡ true
          pick (yes w) j = or_left (eqb e a) (eqb e b || (eqb e h.c || eqb e h.d)) (eq-eqb e a w)
          pick (no i) (yes w) = or_right (eqb e a) (eqb e b || (eqb e h.c || eqb e h.d)) (or_left (eqb e b) (eqb e h.c || eqb e h.d) (eq-eqb e b w))
          pick (no i) (no j) =
              let m = both (near ts a e) (near ts b e) g in
              or_right (eqb e a) (eqb e b || (eqb e h.c || eqb e h.d)) (or_right (eqb e b) (eqb e h.c || eqb e h.d) (last (third-corner c a b given e
              (f e (near-side (closed_surface_lem c) a e (λ w. i (sym w)) m.0) (near-side (closed_surface_lem c) b e (λ w. j (sym w)) m.1)))))

  -- `opposite` has c and d
  six : (x : ℕ) → member (corners_at ts (h.p1 ∷ h.p2 ∷ [])) x ≡ (names (place ts h.p1) x || names (place ts h.p2) x)
  unfolding member corners_at
  six x = regroup (eqb (place ts h.p1).a x) (eqb (place ts h.p1).b x) (eqb (place ts h.p1).c x) (eqb (place ts h.p2).a x) (eqb (place ts h.p2).b x) (eqb (place ts h.p2).c x)
    where
      none : (p : Bool) → (p || false) ≡ p
      none true = refl
      none false = refl

      regroup : (p q r u v w : Bool) → (p || (q || (r || (u || (v || (w || false)))))) ≡ ((p || (q || r)) || (u || (v || w)))
      regroup true q r u v w = refl
      regroup false true r u v w = refl
      regroup false false true u v w = refl
      regroup false false false u v w = ap (λ (y : Bool). u || (v || y)) (none w)

  apart : Apart a b h.c h.d
  apart = hinge-apart c a b given

  -- and nothing else
  only_third : {t : Tri} {x y z w : ℕ} → Reads t x y z → ((x ≡ a) × (y ≡ b)) ⊎ ((x ≡ b) × (y ≡ a)) → (w ≡ a → ⊥) → (w ≡ b → ⊥) → names t w ≡ true → w ≡ z
  only_third {t} {x} {y} {z} {w} r e i j n = pick (or_cases _ _ _ (sym (reads_names r w) ∙ n)) e
    where
      pick : (eqb x w ≡ true) ⊎ ((eqb y w ≡ true) ⊎ (eqb z w ≡ true)) → ((x ≡ a) × (y ≡ b)) ⊎ ((x ≡ b) × (y ≡ a)) → w ≡ z
      pick (inl q) (inl f) = absurd (i (sym (eqb-true x w q) ∙ f.0))
      pick (inl q) (inr f) = absurd (j (sym (eqb-true x w q) ∙ f.0))
      pick (inr (inl q)) (inl f) = absurd (j (sym (eqb-true y w q) ∙ f.1))
      pick (inr (inl q)) (inr f) = absurd (i (sym (eqb-true y w q) ∙ f.1))
      pick (inr (inr q)) f = sym (eqb-true z w q)

  turned-ends : ((h.u ≡ a) × (h.v ≡ b)) ⊎ ((h.u ≡ b) × (h.v ≡ a)) → ((h.v ≡ a) × (h.u ≡ b)) ⊎ ((h.v ≡ b) × (h.u ≡ a))
  turned-ends (inl e) = inr (e.1, e.0)
  turned-ends (inr e) = inl (e.1, e.0)

  pub member-opposite : (x : ℕ) → (member (opposite ts (h.p1 ∷ h.p2 ∷ []) a b) x ≡ true) ↔ Filled ts a b x
  unfolding opposite
  member-opposite x = ((λ e. to (sym is ∙ e)), λ f. is ∙ from (third-corner c a b given x f))
    where
      is : member (chosen (λ (v : ℕ). not (eqb v a) && not (eqb v b)) (corners_at ts (h.p1 ∷ h.p2 ∷ []))) x ≡ ((not (eqb x a) && not (eqb x b)) && (names (place ts h.p1) x || names (place ts h.p2) x))
      is = member-chosen (λ (v : ℕ). not (eqb v a) && not (eqb v b)) (corners_at ts (h.p1 ∷ h.p2 ∷ [])) x ∙ ap (λ (q : Bool). (not (eqb x a) && not (eqb x b)) && q) (six x)

      off : (y : ℕ) → not (eqb x y) ≡ true → x ≡ y → ⊥
      off y e w = true_false (eq-eqb x y w) (not_true (eqb x y) e)

      to : ((not (eqb x a) && not (eqb x b)) && (names (place ts h.p1) x || names (place ts h.p2) x)) ≡ true → Filled ts a b x
      to e =
          let m = both (not (eqb x a) && not (eqb x b)) (names (place ts h.p1) x || names (place ts h.p2) x) e in
          let n = both (not (eqb x a)) (not (eqb x b)) m.0 in
          pick (off a n.0) (off b n.1) (names (place ts h.p1) x) refl m.1
        where
          pick : (x ≡ a → ⊥) → (x ≡ b → ⊥) → (q : Bool) → names (place ts h.p1) x ≡ q → (names (place ts h.p1) x || names (place ts h.p2) x) ≡ true → Filled ts a b x
          pick i j true f g = third-filled x (inl (only_third k.ahead k.ends i j f))
          pick i j false f g = third-filled x (inr (only_third k.back (turned-ends k.ends) i j (or_second (names (place ts h.p1) x) (names (place ts h.p2) x) g f)))

      from : (x ≡ h.c) ⊎ (x ≡ h.d) → ((not (eqb x a) && not (eqb x b)) && (names (place ts h.p1) x || names (place ts h.p2) x)) ≡ true
      from (inl e) =
          let n : names (place ts h.p1) x ≡ true = ap (names (place ts h.p1)) e ∙ reads_name (turn (turn k.ahead)) in
          rw (ne_eqb x a (λ w. apart.ac (sym w ∙ e)), ne_eqb x b (λ w. apart.bc (sym w ∙ e))) (or_left (names (place ts h.p1) x) (names (place ts h.p2) x) n)
      from (inr e) =
          let n : names (place ts h.p2) x ≡ true = ap (names (place ts h.p2)) e ∙ reads_name (turn (turn k.back)) in
          rw (ne_eqb x a (λ w. apart.ad (sym w ∙ e)), ne_eqb x b (λ w. apart.bd (sym w ∙ e))) (or_right (names (place ts h.p1) x) (names (place ts h.p2) x) n)

  -- the intersection
  member-common : (x : ℕ) → (member (intersection (adjacent ts a) (adjacent ts b)) x ≡ true) ↔ ((0 < sides ts a x) × (0 < sides ts b x))
  member-common x = (
    (λ e.
        let m = both _ _ (sym (member-both (adjacent ts a) (adjacent ts b) x) ∙ e) in
        let p = ltb-true 0 (sides ts a x + sides ts x a) (sym (member-adjacent ts a x) ∙ m.1) in
        let q = ltb-true 0 (sides ts b x + sides ts x b) (sym (member-adjacent ts b x) ∙ m.0) in
        (omega (arith, (closed_surface_lem c).even a x), omega (arith, (closed_surface_lem c).even b x))),
    λ w.
        member-both (adjacent ts a) (adjacent ts b) x
        ∙ join _ _ (member-adjacent ts b x ∙ lt-ltb 0 (sides ts b x + sides ts x b) (omega (arith, w.1)))
        (member-adjacent ts a x ∙ lt-ltb 0 (sides ts a x + sides ts x a) (omega (arith, w.0))),
  )

  filled-sides : {x : ℕ} → Filled ts a b x → (0 < sides ts a x) × (0 < sides ts b x)
  filled-sides {x} (one_way t) = (omega (arith, (closed_surface_lem c).even a x, has-side (spin (spin t))), has-side (spin t))
  filled-sides {x} (other_way t) = (has-side t, omega (arith, (closed_surface_lem c).even b x, has-side (spin t)))

  pub sets_same : (same_set (intersection (adjacent ts a) (adjacent ts b)) (opposite ts (h.p1 ∷ h.p2 ∷ []) a b) ≡ true) ↔ Alone ts a b
  sets_same = (
    (λ e x p q. (member-opposite x).0 (((same_set_lem _ _).0 e).0 x ((member-common x).1 (p, q)))),
    λ f. (same_set_lem _ _).1 ((λ x m. let w = (member-common x).0 m in (member-opposite x).1 (f x w.0 w.1)), λ x m. (member-common x).1 (filled-sides ((member-opposite x).0 m))),
  )

  pub sets_common : same_set (intersection (adjacent ts a) (adjacent ts b)) (opposite ts (h.p1 ∷ h.p2 ∷ []) a b) ≡ common ts a b h.c h.d
  sets_common = same_test _ _ (λ e. common-is.1 (sets_same.0 e)) (λ e. sets_same.1 (common-is.0 e))

-- `common` is the same for the side named the other way
pub common-back : {ts : List Tri} → Closed ts → (a b : ℕ) → 0 < sides ts a b → 0 < sides ts b a
    → common ts b a (hinge ts b a).c (hinge ts b a).d ≡ common ts a b (hinge ts a b).c (hinge ts a b).d
common-back c a b g g' = same_test _ _ (λ e. (common-is c a b g).1 (alone-back ((common-is c b a g').0 e))) (λ e. (common-is c b a g').1 (alone-back ((common-is c a b g).0 e)))

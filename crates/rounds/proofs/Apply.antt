-- For the code: a step of the collapse pass from what the arrays hold before and after it.
use Prim.Native.Nat.{ℕ, ◌<◌}
use mathlib.Core.Path.{◌≡◌, refl, sym, ◌∙◌}
use mathlib.Core.Bool.{Bool, true, false, ◌||◌, cond}
use mathlib.Core.List.{List, [], ◌∷◌, ◌++◌, map}
use lib.ListN.{length, get_or, set}
use lib.Seq.{ext_get_or}
use native.Mathlib.Omega.{arith}
use Rattle.surface.specs.Triangle.{tri, names}
use Rattle.surface.specs.Closed.{Closed}
use Rattle.surface.specs.Edit.{has, place, hinge, renamed}
use Rattle.surface.proofs.Bools.{true_false}
use Rattle.history.specs.History.{Pair, Entry}
use Rattle.rounds.specs.Pass.{near, marked, moved, State, Allowed, collapse_entry, Reached, collapsed}
use Rattle.rounds.proofs.Elements.{moved-place, moved_length, marked-place, marked-length, near_none}
use Rattle.rounds.proofs.Loops.{same_length, step-places, step-renames}

-- every corner of every triangle that named b at first is touched now, and so is what was touched before
pub record Touches (p : Pair) (s t : State) (b : ℕ) : Type 0 where
  pub still : (x : ℕ) → s.touched x ≡ true → t.touched x ≡ true
  pub around : (i x : ℕ) → i < length p.tris → names (place p.tris i) b ≡ true → names (place p.tris i) x ≡ true → t.touched x ≡ true

touches : {p : Pair} {s t : State} {b : ℕ} → Touches p s t b → (x : ℕ) → t.touched x ≡ false → (s.touched x ≡ false) × (near p.tris b x ≡ false)
touches {p} {s} {t} {b} k x e = (before (s.touched x) refl, near_none p.tris b x (λ i l n. free i l n (names (place p.tris i) x) refl))
  where
    before : (q : Bool) → s.touched x ≡ q → s.touched x ≡ false
    before true f = absurd (true_false (k.still x f) e)
    before false f = f

    free : (i : ℕ) → i < length p.tris → names (place p.tris i) b ≡ true → (q : Bool) → names (place p.tris i) x ≡ q → names (place p.tris i) x ≡ false
    free i l n true f = absurd (true_false (k.around i x l n f) e)
    free i l n false f = f

module _ (p : Pair) (c : Closed p.tris) (l : length p.labels ≡ length p.tris) {s : State} {es : List Entry} (r : Reached p s es) (t : State) (a b : ℕ) where
  -- b becomes a everywhere, and the two places of the hinge are marked
  pub apply_everywhere : Allowed p s a b → t.tris ≡ map (renamed a b) s.tris
      → t.gone ≡ set (set s.gone (hinge p.tris a b).p1 true) (hinge p.tris a b).p2 true → Touches p s t b → Reached p t (es ++ (collapse_entry a b ∷ []))
  apply_everywhere k e f g = collapsed a b r k (record {
    tris = e ∙ sym (step-renames p c l r a b k.free_a k.free_b);
    gone = f ∙ sym (step-places p c l r a b);
    touched = touches g;
  })

  -- the same, place by place
  pub apply_by-places : Allowed p s a b → length t.tris ≡ length p.tris
      → ((i : ℕ) → i < length p.tris → place t.tris i ≡ cond (names (place p.tris i) b) (renamed a b (place s.tris i)) (place s.tris i))
      → length t.gone ≡ length p.tris → ((i : ℕ) → i < length p.tris → get_or t.gone i false ≡ (get_or s.gone i false || has a b (place p.tris i)))
      → Touches p s t b → Reached p t (es ++ (collapse_entry a b ∷ []))
  apply_by-places k m e n f g =
      let h = same_length p c l r in
      collapsed a b r k (record {
        tris = ext_get_or (tri 0 0 0) t.tris (moved a b p.tris s.tris) (m ∙ sym (moved_length a b p.tris s.tris h.0))
            (λ i q. let q' : i < length p.tris = omega arith in e i q' ∙ sym (moved-place a b p.tris s.tris i q' h.0));
        gone = ext_get_or false t.gone (marked a b p.tris s.gone) (n ∙ sym (marked-length a b p.tris s.gone h.1))
            (λ i q. let q' : i < length p.tris = omega arith in f i q' ∙ sym (marked-place a b p.tris s.gone i q' h.1));
        touched = touches g;
      })

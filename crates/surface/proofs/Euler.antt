-- The corners in use, and Euler's number: a flip keeps the corners in use, and a collapse removes exactly one.
use Prim.Native.Nat.{ℕ, ◌<◌}
use mathlib.Core.Path.{◌≡◌, refl, sym, ◌∙◌, ap}
use mathlib.Core.Logic.{◌↔◌, ◌⊎◌, inl, inr}
use mathlib.Core.List.{List, [], ◌∷◌, map, Memᴰ}
use native.Mathlib.Omega.{arith}
use native.Mathlib.Decide.{ℕ_discrete}
use lib.ListN.{length}
use Rattle.surface.specs.Triangle.{Tri, tri}
use Rattle.surface.specs.Laws.{FourDiffer}
use Rattle.surface.specs.Closed.{sides, Step, around, InUse}
use Rattle.surface.specs.Edit.{Hinge, hinge, flip, put, renamed, collapse}
use Rattle.surface.proofs.Reading.{r0, r1, r2, Has, here, there, spin, has-eq, has-side, side-has}
use Rattle.surface.proofs.Surface.{Surface, Alike, alike_sym, surface_alike}
use Rattle.surface.proofs.FlipCore.{before, after, six, one-there, two-there}
use Rattle.surface.proofs.Rename.{put-off, put_back, put_not_b, has-put, Source, source}
use Rattle.surface.proofs.Steps.{around-has}
use Rattle.surface.proofs.Bridge.{in_use}
use Rattle.surface.proofs.Edits.{left, as_before, as_after, either_way}

-- a corner in use is one from which some triangle is read
pub use_has : (ts : List Tri) (v : ℕ) → InUse ts v → (x : ℕ) × (y : ℕ) × Has v x y ts
use_has ts v u = pick (around ts v) (λ s m. around-has v s ts m) u
  where
    pick : (l : List Step) → ((s : Step) → Memᴰ s l → Has v s.from s.to ts) → 0 < length l → (x : ℕ) × (y : ℕ) × Has v x y ts
    pick [] f p = absurd (omega arith)
    pick (s ∷ l) f p = (s.from, s.to, f s (Memᴰ.head refl))

pub use_alike : {ts us : List Tri} → Alike ts us → (v : ℕ) → InUse ts v → InUse us v
use_alike {ts} k v u = let h = use_has ts v u in in_use (k.ahead v h.0 h.1 h.2)

flip-uses : (u v c d : ℕ) (rest : List Tri) (w : ℕ) → InUse (before u v c d rest) w ↔ InUse (after u v c d rest) w
flip-uses u v c d rest w = ((λ i. let h = use_has (before u v c d rest) w i in to h.2), λ i. let h = use_has (after u v c d rest) w i in from h.2)
  where
    to : {x y : ℕ} → Has w x y (before u v c d rest) → InUse (after u v c d rest) w
    to (here (r0 p q r)) = in_use (has-eq p refl refl (there {t = tri c d v} {ts = tri d c u ∷ rest} (here (r2 refl refl refl))))
    to (here (r1 p q r)) = in_use (has-eq p refl refl (here {t = tri c d v} {ts = tri d c u ∷ rest} (r2 refl refl refl)))
    to (here (r2 p q r)) = in_use (has-eq p refl refl (here {t = tri c d v} {ts = tri d c u ∷ rest} (r0 refl refl refl)))
    to (there (here (r0 p q r))) = in_use (has-eq p refl refl (here {t = tri c d v} {ts = tri d c u ∷ rest} (r2 refl refl refl)))
    to (there (here (r1 p q r))) = in_use (has-eq p refl refl (there {t = tri c d v} {ts = tri d c u ∷ rest} (here (r2 refl refl refl))))
    to (there (here (r2 p q r))) = in_use (has-eq p refl refl (here {t = tri c d v} {ts = tri d c u ∷ rest} (r1 refl refl refl)))
    to (there (there h)) = in_use (there {t = tri c d v} (there {t = tri d c u} h))

    from : {x y : ℕ} → Has w x y (after u v c d rest) → InUse (before u v c d rest) w
    from (here (r0 p q r)) = in_use (has-eq p refl refl (spin (spin (one-there u v c d rest))))
    from (here (r1 p q r)) = in_use (has-eq p refl refl (spin (spin (two-there u v c d rest))))
    from (here (r2 p q r)) = in_use (has-eq p refl refl (two-there u v c d rest))
    from (there (here (r0 p q r))) = in_use (has-eq p refl refl (spin (spin (two-there u v c d rest))))
    from (there (here (r1 p q r))) = in_use (has-eq p refl refl (spin (spin (one-there u v c d rest))))
    from (there (here (r2 p q r))) = in_use (has-eq p refl refl (one-there u v c d rest))
    from (there (there h)) = in_use (there {t = tri u v c} (there {t = tri v u d} h))

-- a flip keeps the corners in use
pub flip-keeps : {ts : List Tri} (s : Surface ts) (a b : ℕ) (given : 0 < sides ts a b) (w : ℕ) → InUse (flip a b ts) w ↔ InUse ts w
flip-keeps {ts} s a b given w =
    let h = hinge ts a b in
    let f = flip-uses h.u h.v h.c h.d (left s a b given) w in (
      (λ i. use_alike (alike_sym (as_before s a b given)) w (f.1 (use_alike (as_after s a b given) w i))),
      λ i. use_alike (alike_sym (as_after s a b given)) w (f.0 (use_alike (as_before s a b given) w i)),
    )

module _ (a b c d : ℕ) (rest : List Tri) (s : Surface (before a b c d rest)) where
  kit : FourDiffer a b c d
  kit = six a b c d rest s

  -- besides the two triangles, one lies on the side from a to c, and one on the side from d to a
  beyond_c : (z : ℕ) × Has a c z rest
  beyond_c =
      let h = side-has (before a b c d rest) a c (omega (arith, s.even a c, has-side (spin (spin (one-there a b c d rest))))) in
      (h.0, pick h.1)
    where
      pick : {z : ℕ} → Has a c z (before a b c d rest) → Has a c z rest
      pick (here (r0 p q r)) = absurd (kit.vc q)
      pick (here (r1 p q r)) = absurd (kit.uv (sym p))
      pick (here (r2 p q r)) = absurd (kit.cu p)
      pick (there (here (r0 p q r))) = absurd (kit.uv (sym p))
      pick (there (here (r1 p q r))) = absurd (kit.cd (sym q))
      pick (there (here (r2 p q r))) = absurd (kit.ud (sym p))
      pick (there (there h)) = h

  beyond_d : (z : ℕ) × Has d a z rest
  beyond_d =
      let h = side-has (before a b c d rest) d a (omega (arith, s.even d a, has-side (spin (two-there a b c d rest)))) in
      (h.0, pick h.1)
    where
      pick : {z : ℕ} → Has d a z (before a b c d rest) → Has d a z rest
      pick (here (r0 p q r)) = absurd (kit.ud p)
      pick (here (r1 p q r)) = absurd (kit.dv (sym p))
      pick (here (r2 p q r)) = absurd (kit.cd p)
      pick (there (here (r0 p q r))) = absurd (kit.dv (sym p))
      pick (there (here (r1 p q r))) = absurd (kit.ud p)
      pick (there (here (r2 p q r))) = absurd (kit.uv (sym q))
      pick (there (there h)) = h

  stay : {x y z : ℕ} (w : ℕ) → Has x y z rest → x ≡ w → (w ≡ b → ⊥) → InUse (map (renamed a b) rest) w
  stay {x} w h e n = in_use (has-eq (ap (put a b) e ∙ put-off a b w n) refl refl (has-put a b h))

  pub collapse-uses : (w : ℕ) → InUse (map (renamed a b) rest) w ↔ ((InUse (before a b c d rest) w) × (w ≡ b → ⊥))
  collapse-uses w = ((λ i. let h = use_has (map (renamed a b) rest) w i in from (source a b rest h.2)), λ i. let h = use_has (before a b c d rest) w i.0 in to i.1 h.2)
    where
      to : {x y : ℕ} → (w ≡ b → ⊥) → Has w x y (before a b c d rest) → InUse (map (renamed a b) rest) w
      to n (here (r0 p q r)) = stay w beyond_c.1 p n
      to n (here (r1 p q r)) = absurd (n (sym p))
      to n (here (r2 p q r)) = stay w (spin beyond_c.1) p n
      to n (there (here (r0 p q r))) = absurd (n (sym p))
      to n (there (here (r1 p q r))) = stay w beyond_c.1 p n
      to n (there (here (r2 p q r))) = stay w beyond_d.1 p n
      to n (there (there h)) = stay w h refl n

      from : {x y : ℕ} → Source a b rest w x y → (InUse (before a b c d rest) w) × (w ≡ b → ⊥)
      from k = (pick (ℕ_discrete w a), λ e. put_not_b a b kit.uv k.x0 (k.ex ∙ e))
        where
          pick : Dec (w ≡ a) → InUse (before a b c d rest) w
          pick (yes e) = in_use (has-eq (sym e) refl refl (one-there a b c d rest))
          pick (no n) = in_use (has-eq (put_back a b k.x0 w k.ex n) refl refl (there {t = tri a b c} (there {t = tri b a d} k.was)))

-- a collapse removes b from the corners in use, and nothing else
pub collapse-keeps : {ts : List Tri} (s : Surface ts) (a b : ℕ) (given : 0 < sides ts a b) (w : ℕ) → InUse (collapse a b ts) w ↔ ((InUse ts w) × (w ≡ b → ⊥))
unfolding collapse
collapse-keeps {ts} s a b given w = pick (either_way s a b given)
  where
    h : Hinge
    h = hinge ts a b

    at : (c d : ℕ) → Alike ts (before a b c d (left s a b given)) → InUse (map (renamed a b) (left s a b given)) w ↔ ((InUse ts w) × (w ≡ b → ⊥))
    at c d k =
        let q = collapse-uses a b c d (left s a b given) (surface_alike k s) w in
        ((λ i. let j = q.0 i in (use_alike (alike_sym k) w j.0, j.1)), λ i. q.1 (use_alike k w i.0, i.1))

    pick : (Alike ts (before a b h.c h.d (left s a b given))) ⊎ (Alike ts (before a b h.d h.c (left s a b given)))
        → InUse (map (renamed a b) (left s a b given)) w ↔ ((InUse ts w) × (w ≡ b → ⊥))
    pick (inl k) = at h.c h.d k
    pick (inr k) = at h.d h.c k

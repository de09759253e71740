-- What a flip does to the rings: at u the steps d→v→c become d→c, at v c→u→d becomes c→d, at c u→v becomes u→d→v, and at d v→u becomes v→c→u.
use Prim.Native.Nat.{ℕ, ◌<◌}
use mathlib.Core.Path.{◌≡◌, refl, sym, ◌∙◌, ap}
use mathlib.Core.List.Permᴰ
use mathlib.Core.List.{List, ◌∷◌, Permᴰ}
use Rattle.surface.specs.Triangle.{Tri, tri}
use Rattle.surface.specs.Laws.{FourDiffer}
use Rattle.surface.specs.Closed.{sides, Step, step, around, Closed}
use Rattle.surface.specs.Edit.{hinge, flip}
use Rattle.surface.proofs.Rings.{same-list}
use Rattle.surface.proofs.Steps.{around-a, around-b, around-c, around-none}
use Rattle.surface.proofs.FlipCore.{before, after}
use Rattle.surface.proofs.Bridge.{closed_surface_lem}
use Rattle.surface.proofs.Edits.{left, as_before, as_after, hinge-six}

-- the steps x and y, and others that stay, become the step z and those others
pub record Joined (old new : List Step) (x y z : Step) : Type 0 where
  pub stay : List Step
  pub was : Permᴰ old (x ∷ y ∷ stay)
  pub is : Permᴰ new (z ∷ stay)

pub record FlipRings (ts us : List Tri) (u v c d : ℕ) : Type 0 where
  pub at-u : Joined (around ts u) (around us u) (step d v) (step v c) (step d c)
  pub at-v : Joined (around ts v) (around us v) (step c u) (step u d) (step c d)
  pub at_c : Joined (around us c) (around ts c) (step u d) (step d v) (step u v)
  pub at-d : Joined (around us d) (around ts d) (step v c) (step c u) (step v u)
  pub other : (w : ℕ) → (u ≡ w → ⊥) → (v ≡ w → ⊥) → (c ≡ w → ⊥) → (d ≡ w → ⊥) → Permᴰ (around us w) (around ts w)

turned_round : {x y : Step} {l m : List Step} → l ≡ x ∷ y ∷ m → Permᴰ l (y ∷ x ∷ m)
turned_round e = Permᴰ.trans (same-list e) (Permᴰ.swap refl refl)

module _ (u v c d : ℕ) (rest : List Tri) (k : FourDiffer u v c d) where
  abbrev O : List Tri
  O = before u v c d rest

  abbrev N : List Tri
  N = after u v c d rest

  vu : v ≡ u → ⊥
  vu e = k.uv (sym e)

  cv : c ≡ v → ⊥
  cv e = k.vc (sym e)

  uc : u ≡ c → ⊥
  uc e = k.cu (sym e)

  du : d ≡ u → ⊥
  du e = k.ud (sym e)

  vd : v ≡ d → ⊥
  vd e = k.dv (sym e)

  dc : d ≡ c → ⊥
  dc e = k.cd (sym e)

  core_rings : FlipRings (before u v c d rest) (after u v c d rest) u v c d
  core_rings = record {
    at-u = record {
      stay = around rest u;
      was = turned_round (around-a u v c (tri v u d ∷ rest) u refl vu k.cu ∙ ap (λ (l : List Step). step v c ∷ l) (around-b v u d rest u vu refl du));
      is = same-list (around-none c d v (tri d c u ∷ rest) u k.cu du vu ∙ around-c d c u rest u du k.cu refl);
    };
    at-v = record {
      stay = around rest v;
      was = same-list (around-b u v c (tri v u d ∷ rest) v k.uv refl cv ∙ ap (λ (l : List Step). step c u ∷ l) (around-a v u d rest v refl k.uv k.dv));
      is = same-list (around-c c d v (tri d c u ∷ rest) v cv k.dv refl ∙ ap (λ (l : List Step). step c d ∷ l) (around-none d c u rest v k.dv cv k.uv));
    };
    at_c = record {
      stay = around rest c;
      was = turned_round (around-a c d v (tri d c u ∷ rest) c refl dc k.vc ∙ ap (λ (l : List Step). step d v ∷ l) (around-b d c u rest c dc refl uc));
      is = same-list (around-c u v c (tri v u d ∷ rest) c uc k.vc refl ∙ ap (λ (l : List Step). step u v ∷ l) (around-none v u d rest c k.vc uc dc));
    };
    at-d = record {
      stay = around rest d;
      was = same-list (around-b c d v (tri d c u ∷ rest) d k.cd refl vd ∙ ap (λ (l : List Step). step v c ∷ l) (around-a d c u rest d refl k.cd k.ud));
      is = same-list (around-none u v c (tri v u d ∷ rest) d k.ud vd k.cd ∙ around-c v u d rest d vd k.ud refl);
    };
    other = λ w i j l m. same-list (around-none c d v (tri d c u ∷ rest) w l m j ∙ around-none d c u rest w m l i
        ∙ sym (around-none u v c (tri v u d ∷ rest) w i j l ∙ around-none v u d rest w j i m));
  }

carry : {l l' m m' : List Step} {x y z : Step} → Permᴰ l' l → Permᴰ m' m → Joined l m x y z → Joined l' m' x y z
carry p q j = record { stay = j.stay; was = Permᴰ.trans p j.was; is = Permᴰ.trans q j.is }

pub flip_rings : {ts : List Tri} → Closed ts → (a b : ℕ) → 0 < sides ts a b
    → FlipRings ts (flip a b ts) (hinge ts a b).u (hinge ts a b).v (hinge ts a b).c (hinge ts a b).d
flip_rings {ts} c a b given =
    let s = closed_surface_lem c in
    let h = hinge ts a b in
    let p = (as_before s a b given).turns in
    let q = (as_after s a b given).turns in
    let r = core_rings h.u h.v h.c h.d (left s a b given) (hinge-six s a b given) in
    record {
      at-u = carry (p h.u) (q h.u) r.at-u;
      at-v = carry (p h.v) (q h.v) r.at-v;
      at_c = carry (q h.c) (p h.c) r.at_c;
      at-d = carry (q h.d) (p h.d) r.at-d;
      other = λ w i j k l. Permᴰ.trans (q w) (Permᴰ.trans (r.other w i j k l) (Permᴰ.symm (p w)));
    }

-- The record of an edit from the hinge that was found.
use Prim.Native.Nat.{ℕ, ◌<◌}
use mathlib.Core.Path.{◌≡◌, refl, sym, ◌∙◌, ap}
use mathlib.Core.Bool.{Bool, true, false, cond}
use Rattle.std.specs.Int.{from_bool}
use mathlib.Core.List.{List, [], ◌∷◌}
use native.Mathlib.Omega.{arith}
use lib.Dec.{eqb}
use lib.ListN.{get_or, take}
use lib.Seq.{get_or-take}
use Rattle.surface.specs.Triangle.{Tri}
use Rattle.surface.specs.Edit.{Hinge, place, start_of}
use Rattle.history.specs.History.{Pair, label, words}
use Rattle.surface.specs.Flat.{tri_of, held, three_at}
use Rattle.history.specs.Flat.{pair_of, entry_of}
use Rattle.verdicts.specs.Found.{Hung}
use Rattle.verdicts.specs.declared.Found.{Found}
use Rattle.surface.proofs.Held.{place-held}

-- the words, by a hinge
abbrev by : Pair → ℕ → ℕ → ℕ → Hinge → List ℕ
by p k a b h =
    k ∷ a ∷ b ∷ h.c ∷ h.d ∷ h.p1 ∷ h.p2 ∷ start_of (place p.tris h.p1) h.u h.v ∷ start_of (place p.tris h.p2) h.v h.u
    ∷ label p h.p1 ∷ label p h.p2 ∷ cond (eqb h.u a) 1 0 ∷ []

pub bit : (k : Bool) → from_bool k ≡ cond k 1 0
bit true = refl
bit false = refl

pub record_words : {l ls : List ℕ} {n a b : ℕ} (k : ℕ) (f : Found) → Hung l ls n a b f
    → (t : List ℕ) → t ≡ three_at l f.earlier
    → (s : List ℕ) → s ≡ three_at l f.later
    → (i j p q w : ℕ) → i ≡ start_of (tri_of t) f.u f.v → j ≡ start_of (tri_of s) f.v f.u → p ≡ get_or ls f.earlier 0 → q ≡ get_or ls f.later 0 → w ≡ cond (eqb f.u a) 1 0
    → ◌≡◌ {A = List ℕ} (k ∷ a ∷ b ∷ f.c ∷ f.d ∷ f.earlier ∷ f.later ∷ i ∷ j ∷ p ∷ q ∷ w ∷ []) (words (pair_of l ls n) (entry_of k a b))
record_words {l} {ls} {n} {a} {b} k f h t et s es i j p q w ei ej ep eq ew =
    let m = h.ready.room in
    let pn : f.earlier < n = omega (arith, h.places.order, h.places.fits) in
    let ti : i ≡ start_of (place (held l n) f.earlier) f.u f.v = ei ∙ ap (λ (q : Tri). start_of q f.u f.v) (ap tri_of et ∙ sym (place-held l n f.earlier m pn)) in
    let tj : j ≡ start_of (place (held l n) f.later) f.v f.u = ej ∙ ap (λ (q : Tri). start_of q f.v f.u) (ap tri_of es ∙ sym (place-held l n f.later m h.places.fits)) in
    let x : p ≡ get_or (take n ls) f.earlier 0 = ep ∙ sym (get_or-take n ls f.earlier 0 pn) in
    let y : q ≡ get_or (take n ls) f.later 0 = eq ∙ sym (get_or-take n ls f.later 0 h.places.fits) in
    (λ r. k ∷ a ∷ b ∷ f.c ∷ f.d ∷ f.earlier ∷ f.later ∷ ti r ∷ tj r ∷ x r ∷ y r ∷ ew r ∷ []) ∙ ap (by (pair_of l ls n) k a b) h.is

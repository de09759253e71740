-- The corner numbers in use changed one by one, and the triangles with them.
use Prim.Native.Nat.{ℕ, ◌+◌, ◌*◌, ◌≤◌, ◌<◌}
use mathlib.Core.Path.{◌≡◌, sym, ◌∙◌, ap}
use mathlib.Core.List.{List}
use native.Mathlib.Omega.{arith}
use lib.ListN.{length, get_or, drop, length-drop}
use lib.Seq.{ext_get_or, get_or-drop}
use Rattle.surface.specs.Triangle.{Tri, tri}
use Rattle.surface.specs.Edit.{place}
use Rattle.surface.specs.Flat.{held}
use Rattle.surface.proofs.Held.{place-held}
use Rattle.entries.specs.Marks.{Mapped}
use Rattle.entries.proofs.Mapped.{map-by, tri_path}
use Rattle.entries.proofs.Turns.{Turning}

abbrev pub Wording : (ℕ → ℕ) → ℕ → List ℕ → List ℕ → Type 0
Wording f i l cur = Turning 0 (λ (j : ℕ). f (get_or l j 0)) i l cur

-- where all words in use are changed, their triangles are
abbrev pub each : (ℕ → ℕ) → Tri → Tri
each f t = tri (f t.a) (f t.b) (f t.c)

module _ (f : ℕ → ℕ) (n : ℕ) {i : ℕ} {l cur : List ℕ} (s : Wording f i l cur) (q : i ≡ 3 * n) (room : 3 * n ≤ length l) where
  each_at : (j : ℕ) → j < n → place (held cur n) j ≡ each f (place (held l n) j)
  each_at j p =
      place-held cur n j (omega (arith, s.size)) p ∙ tri_path (s.done (3 * j) (omega arith)) (s.done (3 * j + 1) (omega arith)) (s.done (3 * j + 2) (omega arith))
      ∙ ap (each f) (sym (place-held l n j room p))

  others : (j : ℕ) → get_or (drop (3 * n) cur) j 0 ≡ get_or (drop (3 * n) l) j 0
  others j = get_or-drop (3 * n) cur j 0 ∙ s.left (3 * n + j) (omega arith) ∙ sym (get_or-drop (3 * n) l j 0)

  pub wording_end : Mapped (each f) n l cur
  wording_end = record {
    is = map-by (each f) l cur n room s.size each_at;
    rest = ext_get_or 0 (drop (3 * n) cur) (drop (3 * n) l) (omega (arith, length-drop (3 * n) cur, length-drop (3 * n) l, s.size)) (λ j p. others j);
    size = s.size;
  }

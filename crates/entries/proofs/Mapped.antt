-- The triangles in use changed one by one.
use Prim.Native.Nat.{ℕ, ◌+◌, ◌*◌, ◌≤◌, ◌<◌}
use mathlib.Core.Path.{◌≡◌, refl, sym, ◌∙◌, ap}
use mathlib.Core.List.{List, map}
use native.Mathlib.Omega.{arith}
use native.Mathlib.Decide.{ℕ_discrete}
use lib.ListN.{length, drop, set, length-map}
use lib.Seq.{ext_get_or, get_or-set_same, get_or-set_other}
use Rattle.surface.specs.Triangle.{Tri, tri}
use Rattle.surface.specs.Edit.{place}
use Rattle.surface.specs.Flat.{tri_of, held, three_at, put_at}
use Rattle.surface.proofs.Held.{length-held, read_held, set-held, length-put, drop-put}
use Rattle.surface.proofs.Labels.{place_map}
use Rattle.entries.specs.Marks.{Mapped}

-- every triangle in use is changed by f
pub map-by : (f : Tri → Tri) (l cur : List ℕ) (n : ℕ) → 3 * n ≤ length l → length cur ≡ length l → ((j : ℕ) → j < n → place (held cur n) j ≡ f (place (held l n) j)) → held cur n ≡ map f (held l n)
map-by f l cur n room e h =
    let a = length-held cur n (omega arith) in
    let b = length-held l n room in
    ext_get_or (tri 0 0 0) (held cur n) (map f (held l n)) (omega (arith, length-map (held l n) f)) (λ j p. h j (omega arith) ∙ sym (place_map f (held l n) j (omega arith)))

-- the first i triangles are changed by f, and the others are what they were
pub record Mapping (f : Tri → Tri) (n i : ℕ) (l cur : List ℕ) : Type 0 where
  pub size : length cur ≡ length l
  pub done : (j : ℕ) → j < i → place (held cur n) j ≡ f (place (held l n) j)
  pub left : (j : ℕ) → i ≤ j → place (held cur n) j ≡ place (held l n) j
  pub rest : drop (3 * n) cur ≡ drop (3 * n) l

pub mapping_start : (f : Tri → Tri) (n : ℕ) (l : List ℕ) → Mapping f n 0 l l
mapping_start f n l = record { size = refl; done = λ j p. absurd (omega arith); left = λ j p. refl; rest = refl }

module _ {f : Tri → Tri} {n i : ℕ} {l cur : List ℕ} (room : 3 * n ≤ length l) (s : Mapping f n i l cur) where
  fits : 3 * n ≤ length cur
  fits = omega (arith, s.size)

  pub mapping_reads : i < n → (t : List ℕ) → t ≡ three_at cur i → tri_of t ≡ place (held l n) i
  mapping_reads q t e = read_held cur n i fits q t e ∙ s.left i (omega arith)

  pub mapping_on : i < n → (t : List ℕ) → t ≡ three_at cur i → (u : List ℕ) → tri_of u ≡ f (tri_of t) → (next : List ℕ) → next ≡ put_at cur i (tri_of u) → Mapping f n (i + 1) l next
  mapping_on q t e u g next h = record {
    size = ap length h ∙ length-put cur i (tri_of u) ∙ s.size;
    done = λ j p. done j p (ℕ_discrete j i);
    left = left;
    rest = ap (drop (3 * n)) h ∙ drop-put cur i (tri_of u) (3 * n) (omega arith) ∙ s.rest;
  }
    where
      now : held next n ≡ set (held cur n) i (tri_of u)
      now = ap (λ (k : List ℕ). held k n) h ∙ set-held cur n i (tri_of u) fits q

      done : (j : ℕ) → j < i + 1 → Dec (j ≡ i) → place (held next n) j ≡ f (place (held l n) j)
      done j p (yes r) =
          ap (λ (k : List Tri). place k j) now ∙ ap (λ (k : ℕ). place (set (held cur n) i (tri_of u)) k) r
          ∙ get_or-set_same (held cur n) i (tri_of u) (tri 0 0 0) (omega (arith, length-held cur n fits)) ∙ g ∙ ap f (mapping_reads q t e) ∙ ap (λ (k : ℕ). f (place (held l n) k)) (sym r)
      done j p (no r) = ap (λ (k : List Tri). place k j) now ∙ get_or-set_other (held cur n) i j (tri_of u) (tri 0 0 0) r ∙ s.done j (omega (arith, r))

      left : (j : ℕ) → i + 1 ≤ j → place (held next n) j ≡ place (held l n) j
      left j p = ap (λ (k : List Tri). place k j) now ∙ get_or-set_other (held cur n) i j (tri_of u) (tri 0 0 0) (λ r. omega arith) ∙ s.left j (omega arith)

  pub mapping_end : n ≤ i → Mapped f n l cur
  mapping_end q = record { is = map-by f l cur n room s.size (λ j p. s.done j (omega arith)); rest = s.rest; size = s.size }

pub tri_path : {x y z x' y' z' : ℕ} → x ≡ x' → y ≡ y' → z ≡ z' → tri x y z ≡ tri x' y' z'
tri_path e f g = λ i. record { a = e i; b = f i; c = g i }

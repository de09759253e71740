-- The labels that a corner carries, flagged a triangle at a time, and the test that one corner carries all labels of another.
use Prim.Native.Nat.{ℕ, zero, suc, ◌+◌, ◌≤◌, ◌<◌}
use mathlib.Core.Path.{◌≡◌, refl, sym, ◌∙◌, ap, subst}
use mathlib.Core.Bool.{Bool, true, false, cond, not, ◌&&◌, ◌||◌}
use mathlib.Core.List.{List, [], ◌∷◌}
use native.Mathlib.Omega.{arith}
use native.Mathlib.Decide.{ℕ_discrete}
use lib.Dec.{eqb}
use lib.ListN.{length, get_or, take, drop, set, length-set, get_or-replicate}
use lib.Seq.{drop-cons, length-take-le, get_or-take, get_or-set_same, get_or-set_other}
use borrow.Author.Tests.{eq-eqb, ne_eqb}
use Rattle.surface.specs.Triangle.{Tri, names}
use Rattle.surface.specs.Check.{every}
use Rattle.surface.specs.Label.{carries}
use Rattle.surface.specs.Flat.{tri_of, held, three_at}
use Rattle.surface.proofs.Bools.{join, or_second}
use Rattle.surface.proofs.Held.{drop-held, drop-held_end}
use Rattle.surface.proofs.Labels.{carried}
use Rattle.history.specs.History.{covered}
use Rattle.history.specs.Flat.{pair_of}
use Rattle.history.proofs.Labels.{all-at}
use Rattle.history.proofs.Local.{same_bool}
use Rattle.verdicts.specs.Found.{Labelled, Flags}
use Rattle.verdicts.specs.Survey.{all_labels, flagged, Surveyed, flag_covered, flags_cover}
use Rattle.verdicts.specs.declared.CornerLabels.{CornerLabels}

-- how far the flags of v have come: what the first i triangles carry is flagged
pub record Flagging (ts : List Tri) (ls : List ℕ) (v i : ℕ) (flags : List Bool) : Type 0 where
  pub size : length flags ≡ 8
  pub rest : (k : ℕ) → k ≤ 7 → (get_or flags k false || carries (drop i ts) (drop i ls) v k) ≡ carries ts ls v k

pub flagging_start : (ts : List Tri) (ls : List ℕ) (v : ℕ) → Flagging ts ls v 0 (false ∷ false ∷ false ∷ false ∷ false ∷ false ∷ false ∷ false ∷ [])
flagging_start ts ls v = record { size = refl; rest = λ k q. ap (λ (b : Bool). b || carries ts ls v k) (get_or-replicate 8 k false false (omega arith)) }

module _ {l ls : List ℕ} {n v i : ℕ} {flags : List Bool} (s : Labelled l ls n) (g : Flagging (held l n) (take n ls) v i flags) where
  abbrev ts : List Tri
  ts = held l n

  abbrev ms : List ℕ
  ms = take n ls

  -- the triangle at i is passed
  module _ (q : i < n) (t : List ℕ) (e : t ≡ three_at l i) (next : List Bool) (f : next ≡ flagged v (tri_of t) (get_or ls i 0) flags) where
    label-here : drop i ms ≡ get_or ls i 0 ∷ drop (i + 1) ms
    label-here = let h : i + 1 ≡ suc i = omega arith in rw (h, ← get_or-take n ls i 0 q) (drop-cons ms i 0 (omega (arith, length-take-le n ls s.labels)))

    size-on : (b : Bool) → next ≡ cond b (set flags (get_or ls i 0) true) flags → length next ≡ 8
    size-on true h = ap length h ∙ length-set flags (get_or ls i 0) true ∙ g.size
    size-on false h = ap length h ∙ g.size

    rest-on : (k : ℕ) → k ≤ 7 → (get_or next k false || carries (drop (i + 1) ts) (drop (i + 1) ms) v k) ≡ carries ts ms v k
    unfolding carries
    rest-on k p = rw f (go (names (tri_of t) v) refl (ℕ_discrete k (get_or ls i 0)))
      where
        rest : Bool
        rest = carries (drop (i + 1) ts) (drop (i + 1) ms) v k

        was : (get_or flags k false || ((names (tri_of t) v && eqb (get_or ls i 0) k) || rest)) ≡ carries ts ms v k
        was = ap (λ (u : List ℕ). get_or flags k false || ((names (tri_of u) v && eqb (get_or ls i 0) k) || rest)) e ∙ (rw (drop-held l n i s.room q, label-here, carries) at (g.rest k p))

        go : (b : Bool) → names (tri_of t) v ≡ b → Dec (k ≡ get_or ls i 0) → (get_or (cond b (set flags (get_or ls i 0) true) flags) k false || rest) ≡ carries ts ms v k
        go true h (yes m) =
            let x : get_or (set flags (get_or ls i 0) true) k false ≡ true = rw m (get_or-set_same flags (get_or ls i 0) true false (omega (arith, g.size, s.small i q))) in
            rw x (seen (get_or flags k false) (rw (h, eq-eqb (get_or ls i 0) k (sym m)) at was))
          where
            seen : (x : Bool) → (x || true) ≡ carries ts ms v k → true ≡ carries ts ms v k
            seen true e = e
            seen false e = e
        go true h (no m) =
            let x : get_or (set flags (get_or ls i 0) true) k false ≡ get_or flags k false = get_or-set_other flags (get_or ls i 0) k true false m in
            rw x (rw (h, ne_eqb (get_or ls i 0) k (λ z. m (sym z))) at was)
        go false h d = rw h at was

    pub flagging_on : Flagging ts ms v (i + 1) next
    flagging_on = record { size = size-on (names (tri_of t) v) f; rest = rest-on }

  pub flagging_end : i ≤ n → n ≤ i → Flags ts ms v flags
  unfolding carries
  flagging_end q r k p = or_none (get_or flags k false) (rw (drop-held_end l n i s.room q r, carries) at (g.rest k p))
    where
      or_none : (b : Bool) → (b || false) ≡ carries ts ms v k → b ≡ carries ts ms v k
      or_none true e = e
      or_none false e = e

label_at : (k : ℕ) → k ≤ 7 → get_or all_labels k 0 ≡ k
label_at zero p = refl
label_at (suc zero) p = refl
label_at (suc (suc zero)) p = refl
label_at (suc (suc (suc zero))) p = refl
label_at (suc (suc (suc (suc zero)))) p = refl
label_at (suc (suc (suc (suc (suc zero))))) p = refl
label_at (suc (suc (suc (suc (suc (suc zero)))))) p = refl
label_at (suc (suc (suc (suc (suc (suc (suc zero))))))) p = refl
label_at (suc (suc (suc (suc (suc (suc (suc (suc k)))))))) p = absurd (omega arith)

-- the test of the flags, a label at a time
module _ (f : ℕ → Bool) (k : ℕ) (w : Bool) (inv : every f (drop k all_labels) ≡ w) where
  module _ (p : k < 8) (j : Bool) (e : j ≡ f k) where
    label_test : (j && every f (drop (k + 1) all_labels)) ≡ w
    unfolding every
    label_test =
        let h : k + 1 ≡ suc k = omega arith in
        rw (e, h) (ap (λ (m : ℕ). f m && every f (drop (suc k) all_labels)) (sym (label_at k (omega arith))) ∙ (rw (drop-cons all_labels k 0 p, every) at inv))

    pub label_stop : j ≡ false → false ≡ w
    label_stop g = sym (ap (λ (b : Bool). b && every f (drop (k + 1) all_labels)) g) ∙ label_test

    pub label-on : j ≡ true → every f (drop (k + 1) all_labels) ≡ w
    label-on g = sym (ap (λ (b : Bool). b && every f (drop (k + 1) all_labels)) g) ∙ label_test

  pub label_end : k ≤ 8 → 8 ≤ k → true ≡ w
  unfolding every
  label_end p q = let h : k ≡ 8 = omega arith in rw h at inv

all_of : (f : ℕ → Bool) (ls : List ℕ) → ((i : ℕ) → i < length ls → f (get_or ls i 0) ≡ true) → every f ls ≡ true
unfolding every
all_of f [] g = refl
all_of f (l ∷ ls) g = join (f l) (every f ls) (g 0 (omega arith)) (all_of f ls (λ i m. g (suc i) (omega arith)))

-- the test of the flags says what the test of the list's labels says
pub cover_law : {l ls : List ℕ} {n a b : ℕ} {f : CornerLabels} {w : List ℕ} → Labelled l ls n → Surveyed (held l n) (take n ls) a b f w
    → flags_cover f.kept f.removed ≡ covered (pair_of l ls n) a b
cover_law {l} {ls} {n} {a} {b} {f} s g = same_bool (every flag all_labels) (every here ms) to from
  where
    ts : List Tri
    ts = held l n

    ms : List ℕ
    ms = take n ls

    flag : ℕ → Bool
    flag k = flag_covered f.kept f.removed k

    here : ℕ → Bool
    here m = not (carries ts ms b m) || carries ts ms a m

    same : (k : ℕ) → k ≤ 7 → flag k ≡ here k
    same k p = rw (g.kept k p, g.removed k p)

    to : every flag all_labels ≡ true → every here ms ≡ true
    to e = all_of here ms go
      where
        go : (i : ℕ) → i < length ms → here (get_or ms i 0) ≡ true
        go i q =
            let m : i < n = omega (arith, length-take-le n ls s.labels) in
            let p : get_or ms i 0 ≤ 7 = omega (arith, s.small i m, get_or-take n ls i 0 m) in
            sym (same (get_or ms i 0) p) ∙ ap flag (sym (label_at (get_or ms i 0) p)) ∙ all-at flag all_labels (get_or ms i 0) e (omega arith)

    from : every here ms ≡ true → every flag all_labels ≡ true
    from e = all_of flag all_labels (λ i q. ap flag (label_at i (omega arith)) ∙ same i (omega arith) ∙ go i (carries ts ms b i) refl)
      where
        go : (k : ℕ) (j : Bool) → carries ts ms b k ≡ j → (not j || carries ts ms a k) ≡ true
        go k true f =
            let c = carried ts ms b k f in
            or_second (not (carries ts ms b k)) (carries ts ms a k) (subst (λ (m : ℕ). here m ≡ true) c.label (all-at here ms c.at e c.fits')) (ap not f)
        go k false f = refl

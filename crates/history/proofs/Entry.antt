-- What the functions of an entry promise, joined to the laws: an accepted entry leaves a good pair, and its record takes it back.
use Prim.Native.Nat.{ℕ, ◌≤◌, ◌<◌}
use mathlib.Core.Path.{◌≡◌, refl, sym, ◌∙◌, ap, subst}
use mathlib.Core.Logic.{inl, inr}
use mathlib.Core.Bool.{Bool, cond}
use mathlib.Core.List.{List}
use native.Mathlib.Omega.{arith}
use lib.Dec.{eqb}
use lib.ListN.{length, get_or}
use Rattle.surface.specs.Closed.{Closed}
use Rattle.surface.specs.Edit.{hinge, without}
use Rattle.surface.proofs.Held.{length-held}
use Rattle.surface.proofs.Laws.{hinge-found}
use Rattle.history.specs.History.{Pair, Entry, covered, exists, label, made, words, collapsed}
use Rattle.history.specs.Flat.{pair_of, entry_of}
use Rattle.history.specs.Local.{else, flip?, collapse?, flip_word, collapse_word, edit_word}
use Rattle.history.specs.Undo.{undone}
use Rattle.history.specs.Entry.{Good, Standing, Edited, Recorded}
use Rattle.history.proofs.Verdict.{exists-side, Edit, flips, collapses, edit_of}
use Rattle.history.proofs.Local.{else-zero, holds, flip?_iff, collapse?_iff}
use Rattle.surface.proofs.Labels.{skip, out_at, skip_fits}
use Rattle.surface.proofs.Places.{length_without}
use Rattle.history.proofs.Run.{Kept, kept-first, edit-kept}
use Rattle.history.proofs.Undo.{undo}

-- a verdict word of 0 by the local tests is an accepted edit
module _ (p : Pair) (c : Closed p.tris) (a b : ℕ) (space : Bool) where
  last : ℕ
  last = cond space 0 27

  pub flip-accepted : edit_word p (entry_of 1 a b) space ≡ 0 → Edit p (entry_of 1 a b)
  unfolding last
  flip-accepted z =
      let h = hinge p.tris a b in
      let x = else-zero (cond (exists p a b) 0 22) (flip_word p a b space) z in
      let y = else-zero (cond (eqb (label p h.p1) (label p h.p2)) 0 23) (else (cond (flip? p.tris a b) 0 25) last) x.1 in
      let w = else-zero (cond (flip? p.tris a b) 0 25) last y.1 in
      let s = holds (exists p a b) 22 (λ q. omega arith) x.0 in
      edit_of p (entry_of 1 a b) c (inl refl) s (holds (eqb (label p h.p1) (label p h.p2)) 23 (λ q. omega arith) y.0) ((flip?_iff c a b (exists-side p c a b s)).0 (holds (flip? p.tris a b) 25 (λ q. omega arith) w.0))

  pub collapse-accepted : edit_word p (entry_of 2 a b) space ≡ 0 → Edit p (entry_of 2 a b)
  unfolding last
  collapse-accepted z =
      let x = else-zero (cond (exists p a b) 0 22) (collapse_word p a b space) z in
      let y = else-zero (cond (covered p a b) 0 24) (else (cond (collapse? p.tris a b) 0 25) last) x.1 in
      let w = else-zero (cond (collapse? p.tris a b) 0 25) last y.1 in
      let s = holds (exists p a b) 22 (λ q. omega arith) x.0 in
      edit_of p (entry_of 2 a b) c (inr refl) s (holds (covered p a b) 24 (λ q. omega arith) y.0) ((collapse?_iff c a b (exists-side p c a b s)).0 (holds (collapse? p.tris a b) 25 (λ q. omega arith) w.0))

-- an accepted edit leaves a good pair
pub edit-good : {points : ℕ} {p : Pair} {e : Entry} → Good points p → Edit p e → Good points (made p e)
edit-good {points} {p} {e} g d = record { sound = k.sound; below = k.below points g.below; small = small d }
  where
    k : Kept p (made p e)
    k = edit-kept (kept-first g.sound) d

    small : Edit p e → (i : ℕ) → i < length (made p e).labels → get_or (made p e).labels i 0 ≤ 7
    small (flips k s l c q) = subst (λ (r : Pair). (i : ℕ) → i < length r.labels → get_or r.labels i 0 ≤ 7) (sym q) g.small
    small (collapses k s l c q) = subst (λ (r : Pair). (i : ℕ) → i < length r.labels → get_or r.labels i 0 ≤ 7) (sym q) less
      where
        less : (i : ℕ) → i < length (collapsed p e.a e.b).labels → get_or (collapsed p e.a e.b).labels i 0 ≤ 7
        less i m =
            let h = hinge p.tris e.a e.b in
            let f = hinge-found g.sound.closed e.a e.b s in
            let same = g.sound.labelled in
            let ls = p.labels in
            let n = length_without ls h.p2 (omega (arith, f.fits)) in
            let j = skip h.p1 i in
            let u : j < length (without h.p2 ls) = skip_fits (without h.p2 ls) h.p1 i (omega (arith, f.order, f.fits)) m in
            rw (out_at (without h.p2 ls) h.p1 i 0, out_at ls h.p2 j 0) (g.small (skip h.p2 j) (skip_fits ls h.p2 j (omega (arith, f.fits)) u))

-- a record takes its edit back
pub recorded-undone : {points room : ℕ} {q p : Pair} {ws : List ℕ} → Recorded points room q ws p → undone ws p ≡ q
recorded-undone {q = q} {p} {ws} r =
    ap (λ (v : List ℕ). undone v p) r.written ∙ ap (undone (words q r.entry)) r.made ∙ undo q r.entry r.good.sound r.edit

-- an accepted entry's record is the record of its edit
pub edited-recorded : {points n m word : ℕ} {l ls w l' ls' w' ws : List ℕ} {e : Entry} {space : Bool} → Standing l ls n points w
    → Edited points l ls n w e space l' ls' m w' word ws → word ≡ 0 → Recorded points (length ls) (pair_of l ls n) ws (pair_of l' ls' m)
edited-recorded {points} {n} {m} {word} {l} {ls} {e = e} s d z = record {
  entry = e;
  edit = d.accepted z;
  good = s.good;
  room = let t = s.thirds in let r = s.room in omega (arith, length-held l n (omega arith));
  written = d.written z;
  made = d.changed z;
}

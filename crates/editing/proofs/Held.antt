-- What an entry does to the lists, and to the history that they hold.
use Prim.Native.Nat.{ℕ, suc, ◌+◌, ◌*◌, ◌-◌, ◌/◌, ◌≤◌}
use mathlib.Core.Path.{◌≡◌, refl, sym, ◌∙◌, ap, subst, subst₂}
use mathlib.Core.Logic.{◌⊎◌}
use mathlib.Core.Bool.{Bool, true, false, not, cond}
use mathlib.Core.List.{List, [], ◌∷◌, ◌++◌}
use native.Mathlib.Omega.{arith}
use lib.Dec.{eqb, leb, ltb}
use borrow.Author.Tests.{ltb-true, ltb-false, le-leb, lt-leb}
use lib.ListN.{length, take, drop, replicate, length-append}
use Rattle.surface.specs.Closed.{Closed}
use Rattle.surface.specs.Edit.{hinge}
use Rattle.history.specs.History.{Pair, Entry, covered, exists, label, Made, words, made, last_of, History, last, full, verdict, next, begun}
use Rattle.history.specs.Lists.{records}
use Rattle.history.specs.Flat.{pair_of}
use Rattle.history.specs.Local.{else, flip?, collapse?, flip_word, collapse_word, edit_word}
use Rattle.history.specs.Undo.{undone}
use Rattle.history.specs.Accepted.{Edit}
use Rattle.history.specs.Entry.{Good, Standing, Edited, Recorded, Undoable, TakenBack}
use Rattle.history.proofs.Verdict.{next-edit, next-refused}
use Rattle.history.proofs.Local.{else-zero, local_verdict}
use Rattle.history.proofs.Entry.{recorded-undone, edited-recorded}
use Rattle.editing.specs.Held.{Chain, none, link, Holds, without}
use Rattle.editing.proofs.Journal.{put_in, read-last, take_out}

-- the records have twelve words each
pub recorded-length : {points size : ℕ} {q p : Pair} {ws : List ℕ} → Recorded points size q ws p → length ws ≡ 12
recorded-length r = ap length r.written

pub records-length : {points size : ℕ} {p : Pair} {l : List Made} → Chain points size p l → length (records l) ≡ 12 * length l
unfolding records
records-length none = refl
records-length (link {x = x} {l = l} r c) = length-append (records l) x.words ∙ omega (arith, records-length c, recorded-length r)

-- the lists hold the history before the first entry
pub holds-begun : {points : ℕ} {l ls w : List ℕ} {n : ℕ} (j : List ℕ) → Standing l ls n points w → j ≡ replicate (length j) 0 → Holds points l ls w j n 0 (begun (pair_of l ls n))
unfolding records
holds-begun j s e = record { standing = s; last = refl; count = refl; chain = none; room = omega arith; journal = e ∙ ap (λ (m : ℕ). replicate m 0) (let f : length j ≡ length j - 12 * 0 = omega arith in f) }

not_le : (a b : ℕ) → not (leb b a) ≡ ltb a b
not_le a b = go (ltb a b) refl
  where
    go : (t : Bool) → ltb a b ≡ t → not (leb b a) ≡ ltb a b
    go true e = rw (e, lt-leb b a (ltb-true a b e))
    go false e = rw (e, le-leb b a (ltb-false a b e))

-- a word of 0 by the tests has room
word_room : (p : Pair) (e : Entry) (space : Bool) → edit_word p e space ≡ 0 → space ≡ true
word_room p e true z = refl
word_room p e false z = absurd (let x = else-zero (cond (exists p e.a e.b) 0 22) (cond (eqb e.kind 1) (flip_word p e.a e.b false) (collapse_word p e.a e.b false)) z in go (eqb e.kind 1) x.1)
  where
    last : (a b : ℕ) → else a (else b 27) ≡ 0 → ⊥
    last a b f = let y = else-zero a (else b 27) f in let w = else-zero b 27 y.1 in let v = w.1 in omega arith

    go : (t : Bool) → cond t (flip_word p e.a e.b false) (collapse_word p e.a e.b false) ≡ 0 → ⊥
    go true f = let h = hinge p.tris e.a e.b in last (cond (eqb (label p h.p1) (label p h.p2)) 0 23) (cond (flip? p.tris e.a e.b) 0 25) f
    go false f = last (cond (covered p e.a e.b) 0 24) (cond (collapse? p.tris e.a e.b) 0 25) f

-- a flip or collapse: its verdict word, and the history after it
module _ {points : ℕ} {l ls w j : List ℕ} {n k : ℕ} {h : History} (held : Holds points l ls w j n k h) where
  pub closed-last : Closed (last h).tris
  closed-last = subst (λ (p : Pair). Closed p.tris) held.last held.standing.good.sound.closed

  module _ (e : Entry) (kind : (e.kind ≡ 1) ⊎ (e.kind ≡ 2)) {space : Bool} (sp : space ≡ ltb k (length j / 12)) {l' ls' : List ℕ} {m : ℕ} {w' : List ℕ} {word : ℕ} {ws : List ℕ}
      (d : Edited points l ls n w e space l' ls' m w' word ws) (same : length ls' ≡ length ls) where
    pub word-is : word ≡ verdict (length j / 12) h e
    word-is =
        let f : space ≡ not (full (length j / 12) h) = sp ∙ sym (ap (λ (i : ℕ). not (leb (length j / 12) i)) held.count ∙ not_le k (length j / 12)) in
        d.verdict ∙ ap (λ (p : Pair). edit_word p e space) held.last ∙ ap (edit_word (last h) e) f ∙ sym (local_verdict (length j / 12) h e closed-last kind)

    pub word_fits : word ≡ 0 → 12 * k + 12 ≤ length j
    word_fits z = let r = ltb-true k (length j / 12) (sym sp ∙ word_room (pair_of l ls n) e space (sym d.verdict ∙ z)) in omega arith

    accepted : Recorded points (length ls') (last h) (words (last h) e) (made (last h) e) → Chain points (length ls') h.lent (record { pair = made (last h) e; words = words (last h) e } ∷ h.edits)
    accepted r = link r (subst (λ (i : ℕ). Chain points i h.lent h.edits) (sym same) held.chain)

    pub holds-edited : word ≡ 0 → {j' : List ℕ} → length j' ≡ length j → j' ≡ take (12 * k) j ++ ws ++ drop (12 * k + 12) j → Holds points l' ls' w' j' m (k + 1) (next (length j / 12) h e)
    unfolding records
    holds-edited z {j'} kept f =
        let r = edited-recorded held.standing d z in
        let g = records-length held.chain in
        let room = word_fits z in
        let i = held.count in
        let rest = length j - (12 * k + 12) in
        let len : length (records h.edits) ≡ 12 * k = omega arith in
        let before : j ≡ records h.edits ++ replicate (12 + rest) 0 = held.journal ∙ ap (λ (x : ℕ). records h.edits ++ replicate x 0) (let q : length j - 12 * k ≡ 12 + rest = omega arith in q) in
        let ws-is : ws ≡ words (last h) e = d.written z ∙ ap (λ (p : Pair). words p e) held.last in
        subst (λ (q : History). Holds points l' ls' w' j' m (k + 1) q) (sym (next-edit (length j / 12) h e (sym word-is ∙ z) kind)) (record {
          standing = d.standing;
          last = d.changed z ∙ ap (λ (p : Pair). made p e) held.last;
          count = omega arith;
          chain = accepted (record {
            entry = e;
            edit = subst (λ (p : Pair). Edit p e) held.last (d.accepted z);
            good = subst (λ (p : Pair). Good points p) held.last held.standing.good;
            room = subst (λ (p : Pair). length p.tris ≤ length ls') held.last (let q = r.room in omega arith);
            written = refl;
            made = refl;
          });
          room = omega arith;
          journal = f ∙ put_in (records h.edits) ws k rest len (recorded-length r) j before ∙ ap (λ (x : List ℕ). (records h.edits ++ x) ++ replicate rest 0) ws-is
              ∙ ap (λ (x : ℕ). (records h.edits ++ words (last h) e) ++ replicate x 0) (let q : rest ≡ length j' - 12 * (k + 1) = omega arith in q);
        })

    pub holds_kept : (word ≡ 0 → ⊥) → Holds points l' ls' w' j m k (next (length j / 12) h e)
    holds_kept z =
        let q = d.kept z in
        subst (λ (g : History). Holds points l' ls' w' j m k g) (sym (next-refused (length j / 12) h e (λ v. z (word-is ∙ v)))) (record {
          standing = d.standing;
          last = (λ i. pair_of (q.0 i) (q.1 i) (q.2 i)) ∙ held.last;
          count = held.count;
          chain = subst (λ (i : ℕ). Chain points i h.lent h.edits) (sym same) held.chain;
          room = held.room;
          journal = held.journal;
        })

-- the last edit in force, from its record in the journal
module _ {points : ℕ} {l ls w j : List ℕ} {n : ℕ} (k : ℕ) where
  last_record : {p : Pair} {x : Made} {es : List Made} {i : ℕ} → Holds points l ls w j n i (record { lent = p; edits = x ∷ es }) → i ≡ suc k
      → (length (records es) ≡ 12 * k) × (length x.words ≡ 12) × (j ≡ (records es ++ x.words) ++ replicate (length j - 12 * (k + 1)) 0)
  unfolding records
  last_record {p} {x} {es} {i} held q = go held.chain
    where
      go : Chain points (length ls) p (x ∷ es) → (length (records es) ≡ 12 * k) × (length x.words ≡ 12) × (j ≡ (records es ++ x.words) ++ replicate (length j - 12 * (k + 1)) 0)
      go (link r c) =
          let a = held.count in
          let b = records-length c in
          let e : length j - 12 * i ≡ length j - 12 * (k + 1) = omega arith in
          (omega arith, recorded-length r, held.journal ∙ ap (λ (y : ℕ). (records es ++ x.words) ++ replicate y 0) e)

  pub last_undoable : {h : History} {i : ℕ} (ws : List ℕ) → Holds points l ls w j n i h → i ≡ suc k → ws ≡ take 12 (drop (12 * k) j) → Undoable points (length ls) ws (pair_of l ls n)
  last_undoable {h} {i} ws held q e = pick h.edits held
    where
      pick : (es : List Made) → Holds points l ls w j n i (record { lent = h.lent; edits = es }) → Undoable points (length ls) ws (pair_of l ls n)
      pick [] held = let a = held.count in absurd (omega arith)
      pick (x ∷ es) held = go held.chain
        where
          go : Chain points (length ls) h.lent (x ∷ es) → Undoable points (length ls) ws (pair_of l ls n)
          go (link r c) =
              let t = last_record held q in
              let f : x.words ≡ ws = sym (e ∙ read-last (records es) x.words k (length j - 12 * (k + 1)) t.0 t.1 j t.2) in
              record { before = last_of h.lent es; recorded = subst₂ (λ (v : List ℕ) (p : Pair). Recorded points (length ls) (last_of h.lent es) v p) f (sym held.last) r }

  pub holds_returned : {h : History} {i : ℕ} {ws l' ls' : List ℕ} {m : ℕ} {w' j' : List ℕ} → Holds points l ls w j n i h → i ≡ suc k → ws ≡ take 12 (drop (12 * k) j)
      → TakenBack points l ls n w ws l' ls' m w' → length ls' ≡ length ls → length j' ≡ length j → j' ≡ take (12 * k) j ++ replicate 12 0 ++ drop (12 * k + 12) j → Holds points l' ls' w' j' m k (without 1 h)
  holds_returned {h} {i} {ws} {l'} {ls'} {m} {w'} {j'} held q e t same kept f = pick h.edits held
    where
      pick : (es : List Made) → Holds points l ls w j n i (record { lent = h.lent; edits = es }) → Holds points l' ls' w' j' m k (record { lent = h.lent; edits = drop 1 es })
      pick [] held = let a = held.count in absurd (omega arith)
      pick (x ∷ es) held = go held.chain
        where
          go : Chain points (length ls) h.lent (x ∷ es) → Holds points l' ls' w' j' m k (record { lent = h.lent; edits = es })
          go (link r c) =
              let a = held.count in
              let b = held.room in
              let s = last_record held q in
              let rest = length j - 12 * (k + 1) in
              let v : ws ≡ x.words = e ∙ read-last (records es) x.words k rest s.0 s.1 j s.2 in
              record {
                standing = t.standing;
                last = t.is ∙ ap (λ (y : List ℕ). undone y (pair_of l ls n)) v ∙ ap (undone x.words) held.last ∙ recorded-undone r;
                count = omega arith;
                chain = subst (λ (y : ℕ). Chain points y h.lent es) (sym same) c;
                room = omega arith;
                journal = f ∙ take_out (records es) x.words k rest s.0 s.1 j s.2 ∙ ap (λ (y : ℕ). records es ++ replicate y 0) (let g : 12 + rest ≡ length j' - 12 * k = omega arith in g);
              }

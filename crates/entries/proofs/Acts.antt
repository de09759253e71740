-- What an entry came to, from its parts.
use Prim.Native.Nat.{ℕ, ◌+◌, ◌*◌, ◌-◌, ◌≤◌, ◌<◌}
use mathlib.Core.Path.{◌≡◌, refl, sym, ◌∙◌, ap, subst}
use mathlib.Core.Bool.{Bool, true, cond}
use mathlib.Core.List.{List, ◌++◌}
use native.Mathlib.Omega.{arith}
use lib.Dec.{eqb}
use lib.ListN.{length, take, drop, replicate}
use lib.Seq.{get_or-take, length-take-le, length_front, drop-drop, drop-append-add}
use borrow.Author.Tests.{lt-ltb, le-ltb}
use Rattle.surface.specs.Edit.{Hinge, hinge, first}
use Rattle.surface.specs.Flat.{held}
use Rattle.surface.proofs.Held.{length-held}
use Rattle.surface.proofs.Laws.{side-exists, hinge-found}
use Rattle.history.specs.History.{Pair, Entry, exists, words, made}
use Rattle.history.specs.Accepted.{Edit}
use Rattle.history.specs.Flat.{pair_of}
use Rattle.history.specs.Local.{flip_word, collapse_word, edit_word}
use Rattle.history.specs.Entry.{needed, Good, Standing, Edited}
use Rattle.history.proofs.Verdict.{first-has}
use Rattle.history.proofs.Entry.{edit-good}
use Rattle.verdicts.specs.Found.{hinge_of, Ready, Hung, Labelled}
use Rattle.verdicts.specs.Notes.{Listed}
use Rattle.verdicts.specs.Verdict.{unfit_word}
use Rattle.verdicts.specs.declared.Unfit.{Unfit}
use Rattle.verdicts.specs.declared.Unfit.TheVariants.{NoEntry, NoSide, LabelsDiffer, LabelLost, NotClosed, TooMany, JournalFull}
use Rattle.verdicts.specs.declared.Found.{Found}
use Rattle.entries.specs.Moved.{Zero}
use Rattle.entries.proofs.Moved.{drop-zero, zero-drop}

-- what the functions below ask of the lists
module _ {l ls : List ℕ} {n points : ℕ} {w : List ℕ} (s : Standing l ls n points w) where
  pub fits : 3 * n ≤ length l
  fits = omega (arith, s.thirds, s.room)

  pub ready : Ready l n
  ready = record { room = fits; closed = s.good.sound.closed }

  pub listed : Listed l n points
  listed = record { room = fits; closed = s.good.sound.closed; below = s.good.below; bound = s.bound }

  pub labelled : Labelled l ls n
  labelled = record {
    room = fits;
    labels = s.room;
    small = λ i p. subst (λ (x : ℕ). x ≤ 7) (get_or-take n ls i 0 p) (s.good.small i (omega (arith, length-take-le n ls s.room)));
  }

  -- the words that a corner's notes take, and those after the needed ones
  pub words-fit : points + points ≤ length w
  words-fit = omega (arith, s.work)

  module _ (a b : ℕ) (m : first a b (held l n) < n) where
    pub side-there : exists (pair_of l ls n) a b ≡ true
    side-there = let k = length-held l n fits in lt-ltb (first a b (held l n)) (length (held l n)) (omega arith)

    pub hung : (f : Found) → hinge_of f ≡ hinge (held l n) a b → Hung l ls n a b f
    hung f i =
        let k = length-held l n fits in
        let c : first a b (held l n) < length (held l n) = omega arith in
        let h = hinge-found s.good.sound.closed a b (side-exists s.good.sound.closed a b (first a b (held l n)) c (first-has a b (held l n) c)) in
        let u = ap (λ (g : Hinge). g.p1) i in
        let v = ap (λ (g : Hinge). g.p2) i in
        record {
          ready = ready;
          few = omega (arith, s.room, s.few);
          labels = s.room;
          is = i;
          places = record { room = fits; order = omega (arith, h.order); fits = omega (arith, h.fits) };
        }

  -- other words of the same number
  pub standing-words : (w' : List ℕ) → length w' ≡ length w → Standing l ls n points w'
  standing-words w' e = record {
    thirds = s.thirds;
    few = s.few;
    bound = s.bound;
    room = s.room;
    good = s.good;
    freed = s.freed;
    unlabelled = s.unlabelled;
    work = omega (arith, s.work);
  }

  -- other lists
  pub standing-lists : (l' ls' w' : List ℕ) (m : ℕ) → length l' ≡ length l → length ls' ≡ length ls → length w' ≡ length w → m ≤ length ls → Good points (pair_of l' ls' m)
      → Zero (3 * m) l' → Zero m ls' → Standing l' ls' m points w'
  standing-lists l' ls' w' m el els ew r g zl zs =
      let t = s.thirds in
      let f = s.few in
      record {
        thirds = omega arith;
        few = omega arith;
        bound = s.bound;
        room = omega arith;
        good = g;
        freed = zero-drop (3 * m) l' zl;
        unlabelled = zero-drop m ls' zs;
        work = omega (arith, s.work);
      }

  -- the entry is refused, or done
  module _ (e : Entry) (space : Bool) (w' : List ℕ) (ew : length w' ≡ length w) (far : drop (needed ls points) w' ≡ drop (needed ls points) w) where
    module _ (there : exists (pair_of l ls n) e.a e.b ≡ true) (word : ℕ)
        (eq : word ≡ cond (eqb e.kind 1) (flip_word (pair_of l ls n) e.a e.b space) (collapse_word (pair_of l ls n) e.a e.b space)) where
      word-is : word ≡ edit_word (pair_of l ls n) e space
      word-is = rw there eq

      pub edited-refused : (word ≡ 0 → ⊥) → Edited points l ls n w e space l ls n w' word (replicate 12 0)
      edited-refused m = record {
        verdict = word-is;
        accepted = λ z. absurd (m z);
        changed = λ z. absurd (m z);
        written = λ z. absurd (m z);
        kept = λ z. (refl, refl, refl, refl);
        standing = standing-words w' ew;
        lengths = (refl, refl, ew);
        further = far;
      }

      pub edited-done : word ≡ 0 → (edit_word (pair_of l ls n) e space ≡ 0 → Edit (pair_of l ls n) e) → (ws : List ℕ) → ws ≡ words (pair_of l ls n) e → (l' ls' : List ℕ) (m : ℕ)
          → length l' ≡ length l → length ls' ≡ length ls → m ≤ n → pair_of l' ls' m ≡ made (pair_of l ls n) e → Zero (3 * m) l' → Zero m ls'
          → Edited points l ls n w e space l' ls' m w' word ws
      edited-done z d ws f l' ls' m el els r g zl zs =
          let t = d (sym word-is ∙ z) in
          let k = s.room in
          record {
            verdict = word-is;
            accepted = λ q. t;
            changed = λ q. g;
            written = λ q. f;
            kept = λ q. absurd (q z);
            standing = standing-lists l' ls' w' m el els ew (omega arith) (subst (λ (p : Pair). Good points p) (sym g) (edit-good s.good t)) zl zs;
            lengths = (el, els, ew);
            further = far;
          }

    -- no triangle has the side
    pub edited-none : first e.a e.b (held l n) ≡ n → Edited points l ls n w e space l ls n w' 22 (replicate 12 0)
    edited-none f = record {
      verdict = let k = length-held l n fits in rw (le-ltb (first e.a e.b (held l n)) (length (held l n)) (omega arith));
      accepted = λ z. absurd (omega arith);
      changed = λ z. absurd (omega arith);
      written = λ z. absurd (omega arith);
      kept = λ z. (refl, refl, refl, refl);
      standing = standing-words w' ew;
      lengths = (refl, refl, ew);
      further = far;
    }

  pub zero-corners : Zero (3 * n) l
  zero-corners = drop-zero (3 * n) l s.freed

  pub zero-labels : Zero n ls
  zero-labels = drop-zero n ls s.unlabelled

-- words of which the first k were lent: their number, and those further on
pub front-size : (k : ℕ) (e w : List ℕ) → length e ≡ length (take k w) → length (e ++ drop k w) ≡ length w
front-size k e w f = length_front w e k f

pub front-far : (k j : ℕ) (e w : List ℕ) → k ≤ length w → length e ≡ length (take k w) → k ≤ j → drop j (e ++ drop k w) ≡ drop j w
front-far k j e w m f g =
    let h : length e + (j - k) ≡ j = omega (arith, length-take-le k w m) in
    let i : k + (j - k) ≡ j = omega arith in
    sym (ap (λ (n : ℕ). drop n (e ++ drop k w)) h) ∙ drop-append-add e (drop k w) (j - k) ∙ drop-drop (j - k) k w ∙ ap (λ (n : ℕ). drop n w) i

pub needed-most : (ls : List ℕ) (points : ℕ) → points + points ≤ needed ls points
needed-most ls points = omega arith

pub listed-front : {l : List ℕ} {n points : ℕ} → Listed l n points → (w : List ℕ) → points ≤ length w → Listed l n (length (take points w))
listed-front {l} {n} {points} s w p = subst (λ (k : ℕ). Listed l n k) (sym (length-take-le points w p)) s

-- the word of a refused entry
pub refused : (why : Unfit) → unfit_word why ≡ 0 → ⊥
refused NoEntry e = omega arith
refused NoSide e = omega arith
refused LabelsDiffer e = omega arith
refused LabelLost e = omega arith
refused NotClosed e = omega arith
refused TooMany e = omega arith
refused JournalFull e = omega arith

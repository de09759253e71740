-- The loop over the entries.
use Prim.Native.Nat.{ℕ, zero, suc, ◌+◌, ◌*◌, ◌/◌, ◌≤◌, ◌<◌}
use mathlib.Core.Path.{◌≡◌, refl, sym, ◌∙◌, ap, subst}
use mathlib.Core.List.{List, [], ◌∷◌, ◌++◌, append-nil}
use native.Mathlib.Omega.{arith}
use native.Mathlib.Numerals.{add-one}
use lib.ListN.{length, get_or, take, drop, set, length-set, drop_of_length-le}
use lib.Seq.{paste, paste-zero, paste-suc, take_all}
use Rattle.history.specs.History.{Entry, History, next, after, verdict, verdicts}
use Rattle.history.specs.Lists.{entries}
use Rattle.history.specs.Safe.{entry_at}
use Rattle.history.specs.Flat.{entry_of}
use Rattle.history.specs.Entry.{needed}
use Rattle.history.proofs.Safe.{after_next, verdict-at}
use Rattle.editing.specs.Held.{Holds, Entered}
use Rattle.editing.specs.Run.{Starting, first, Ran}
use Rattle.editing.proofs.Held.{holds-begun}

-- the entries of a list of words
pub entries-length : (n : ℕ) (ws : List ℕ) → length ws ≡ 3 * n → length (entries ws) ≡ n
unfolding entries
entries-length zero [] e = refl
entries-length (suc n) [] e = absurd (omega arith)
entries-length zero (x ∷ l) e = absurd (omega arith)
entries-length (suc n) (x ∷ []) e = absurd (omega arith)
entries-length (suc n) (x ∷ y ∷ []) e = absurd (omega arith)
entries-length (suc n) (x ∷ y ∷ z ∷ l) e = ap suc (entries-length n l (omega arith))

entries_at : (ws : List ℕ) (i : ℕ) → 3 * i + 2 < length ws → entry_at (entries ws) i ≡ entry_of (get_or ws (3 * i) 0) (get_or ws (3 * i + 1) 0) (get_or ws (3 * i + 2) 0)
unfolding entries
entries_at [] i p = absurd (omega arith)
entries_at (x ∷ []) i p = absurd (omega arith)
entries_at (x ∷ y ∷ []) i p = absurd (omega arith)
entries_at (x ∷ y ∷ z ∷ l) zero p = refl
entries_at (x ∷ y ∷ z ∷ l) (suc i) p =
    let e : 3 * suc i ≡ suc (suc (suc (3 * i))) = omega arith in
    let f : 3 * suc i + 1 ≡ suc (suc (suc (3 * i + 1))) = omega arith in
    let g : 3 * suc i + 2 ≡ suc (suc (suc (3 * i + 2))) = omega arith in
    rw (f, g, e) (entries_at l i (omega arith))

verdicts-length : (capacity : ℕ) (h : History) (es : List Entry) → length (verdicts capacity h es) ≡ length es
unfolding verdicts
verdicts-length c h [] = refl
verdicts-length c h (e ∷ es) = ap suc (verdicts-length c (next c h e) es)

-- the verdict words, one more and all of them
one_word : (v₀ ws : List ℕ) (i : ℕ) {v : List ℕ} {word : ℕ} → v ≡ paste v₀ 0 ws i → i < length v₀ → i < length ws → word ≡ get_or ws i 0 → set v i word ≡ paste v₀ 0 ws (i + 1)
one_word v₀ ws i {v} {word} e p q said =
    let z : i ≡ 0 + i = omega arith in
    ap (λ (x : List ℕ). set x i word) e ∙ ap (set (paste v₀ 0 ws i) i) said ∙ ap (λ (x : ℕ). set (paste v₀ 0 ws i) x (get_or ws i 0)) z ∙ paste-suc v₀ 0 ws i 0 (omega arith) q
    ∙ ap (paste v₀ 0 ws) (sym (add-one i))

all_words : (v₀ ws : List ℕ) (i : ℕ) → length v₀ ≤ i → length ws ≤ i → paste v₀ 0 ws i ≡ ws
all_words v₀ ws i p q = ap (λ (x : List ℕ). take i ws ++ x) (let m : length v₀ ≤ 0 + i = omega arith in drop_of_length-le v₀ m) ∙ append-nil (take i ws) ∙ take_all i ws q

-- after i entries
pub record Running (points : ℕ) (l₀ ls₀ w₀ es v₀ j₀ l ls w v j : List ℕ) (n k i : ℕ) : Type 0 where
  pub holds : Holds points l ls w j n k (after (length j₀ / 12) (first l₀ ls₀) (take i (entries es)))
  pub words : v ≡ paste v₀ 0 (verdicts (length j₀ / 12) (first l₀ ls₀) (entries es)) i
  pub further : drop (needed ls₀ points) w ≡ drop (needed ls₀ points) w₀
  pub few : i ≤ length v₀
  pub threes : length es ≡ 3 * length v₀
  pub corners : length l ≡ length l₀
  pub labels : length ls ≡ length ls₀
  pub work : length w ≡ length w₀
  pub verdict : length v ≡ length v₀
  pub journal : length j ≡ length j₀

module _ (points : ℕ) (l₀ ls₀ w₀ es v₀ j₀ : List ℕ) where
  abbrev c : ℕ
  c = length j₀ / 12

  pub running : Starting points l₀ ls₀ w₀ es v₀ j₀ → Running points l₀ ls₀ w₀ es v₀ j₀ l₀ ls₀ w₀ v₀ j₀ (length ls₀) 0 0
  unfolding after
  running s = record {
    holds = holds-begun j₀ s.standing s.empty;
    words = paste-zero v₀ 0 (verdicts c (first l₀ ls₀) (entries es));
    further = refl;
    few = omega arith;
    threes = s.threes;
    corners = refl;
    labels = refl;
    work = refl;
    verdict = refl;
    journal = refl;
  }

  module _ {l ls w v j : List ℕ} {n k i : ℕ} (r : Running points l₀ ls₀ w₀ es v₀ j₀ l ls w v j n k i) where
    pub running_on : i < length v → {l' ls' w' j' : List ℕ} {n' k' word : ℕ}
        → Entered points l ls w j n k (entry_of (get_or es (3 * i) 0) (get_or es (3 * i + 1) 0) (get_or es (3 * i + 2) 0)) l' ls' w' j' n' k' word
        → length l' ≡ length l → length ls' ≡ length ls → length w' ≡ length w → length j' ≡ length j → Running points l₀ ls₀ w₀ es v₀ j₀ l' ls' w' (set v i word) j' n' k' (i + 1)
    running_on q {l'} {ls'} {w'} {j'} {n'} {k'} {word} t a b d f =
        let len = r.verdict in
        let three = r.threes in
        let h = after c (first l₀ ls₀) (take i (entries es)) in
        let e = entry_of (get_or es (3 * i) 0) (get_or es (3 * i + 1) 0) (get_or es (3 * i + 2) 0) in
        let m : i < length (entries es) = omega (arith, entries-length (length v₀) es three) in
        let at : entry_at (entries es) i ≡ e = entries_at es i (omega arith) in
        let cap : length j / 12 ≡ c = ap (λ (x : ℕ). x / 12) r.journal in
        let more : i + 1 ≡ suc i = omega arith in
        let step : next (length j / 12) h e ≡ after c (first l₀ ls₀) (take (i + 1) (entries es)) =
        ap (λ (x : ℕ). next x h e) cap ∙ ap (next c h) (sym at) ∙ sym (after_next c (first l₀ ls₀) (entries es) i m) ∙ ap (λ (x : ℕ). after c (first l₀ ls₀) (take x (entries es))) (sym more) in
        let said : word ≡ get_or (verdicts c (first l₀ ls₀) (entries es)) i 0 =
        t.verdict h r.holds ∙ ap (λ (x : ℕ). verdict x h e) cap ∙ ap (verdict c h) (sym at) ∙ sym (verdict-at c (first l₀ ls₀) (entries es) i m) in
        record {
          holds = subst (λ (g : History). Holds points l' ls' w' j' n' k' g) step (t.holds h r.holds);
          words = one_word v₀ (verdicts c (first l₀ ls₀) (entries es)) i r.words (omega arith) (let x = verdicts-length c (first l₀ ls₀) (entries es) in omega arith) said;
          further = subst (λ (y : ℕ). drop (32 * y + 16 * points) w' ≡ drop (32 * y + 16 * points) w) r.labels t.further ∙ r.further;
          few = omega arith;
          threes = three;
          corners = a ∙ r.corners;
          labels = b ∙ r.labels;
          work = d ∙ r.work;
          verdict = length-set v i word ∙ len;
          journal = f ∙ r.journal;
        }

    pub ran : length v ≤ i → Ran points l₀ ls₀ w₀ es j₀ l ls w v j n k
    ran q =
        let len = r.verdict in
        let m = entries-length (length v₀) es r.threes in
        let few = r.few in
        let vs = verdicts-length c (first l₀ ls₀) (entries es) in
        record {
          holds = subst (λ (x : List Entry). Holds points l ls w j n k (after c (first l₀ ls₀) x)) (take_all i (entries es) (omega arith)) r.holds;
          words = r.words ∙ all_words v₀ (verdicts c (first l₀ ls₀) (entries es)) i (omega arith) (omega arith);
          further = r.further;
        }

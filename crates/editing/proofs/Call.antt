-- A whole call: what each end leaves is what `EditRun` says.
use Prim.Native.Nat.{ℕ, ◌*◌, ◌-◌, ◌/◌, ◌%◌, ◌≤◌}
use mathlib.Core.Path.{◌≡◌, refl, sym, ◌∙◌, ap, ap₂, subst}
use mathlib.Core.Bool.{Bool, true, false}
use mathlib.Core.List.{List, [], ◌++◌, append-nil}
use native.Mathlib.Omega.{arith}
use lib.Dec.{eqb}
use lib.Ieee.{Float}
use lib.ListN.{length, take, drop, replicate, take-append-drop, length-replicate}
use lib.Seq.{take_all, drop_at, length-take-le}
use borrow.Author.Tests.{eqb-true}
use Rattle.surface.specs.Triangle.{triangles, corners}
use Rattle.surface.specs.Flat.{held}
use Rattle.surface.proofs.Flat.{length-triangles, corners-triangles, length-corners, used-below}
use Rattle.surface.proofs.Held.{length-held}
use Rattle.questions.specs.Questions.{needed as words-needed, ask, and_then, cleared, work_after, Admits}
use Rattle.questions.specs.Refusal.{Asked, refusal_number, asked_number}
use Rattle.questions.specs.Admitted.{Admitted}
use Rattle.questions.specs.declared.Refusal.{Refusal}
use Rattle.questions.specs.declared.Refusal.TheVariants.{Entries}
use Rattle.surface.proofs.Bools.{both}
use Rattle.questions.proofs.Laws.{passed_admitted}
use Rattle.history.specs.History.{Pair, History, last, begun, after, verdicts}
use Rattle.history.specs.Lists.{lent_pair, entries, records, then_zero, history_of}
use Rattle.history.specs.Flat.{pair_of}
use Rattle.closing.specs.Closing.{needed as lent, Zeroed}
use Rattle.history.specs.Entry.{needed, Good, Standing}
use Rattle.editing.specs.Held.{Holds}
use Rattle.editing.specs.Run.{Starting, first, Ran}
use Rattle.editing.proofs.Held.{records-length}
use Rattle.editing.specs.Edit.{in_threes?, edit_questions, answer_of, EditRun}
use Rattle.std.specs.Prelude.{Result, Ok, Err}
use Rattle.editing.specs.declared.Left.{Left}

-- a list that is n long, taken whole
whole_pair : (l ls : List ℕ) → length l ≡ 3 * length ls → pair_of l ls (length ls) ≡ lent_pair l ls
whole_pair l ls e = λ i. record { tris = triangles (take_all (3 * length ls) l (omega arith) i); labels = take_all (length ls) ls (omega arith) i }

nothing_left : (n : ℕ) (l : List ℕ) → length l ≡ n → drop n l ≡ replicate (length l - n) 0
nothing_left n l e =
    let z : length l - n ≡ 0 = omega arith in
    ap (λ (x : List ℕ). drop n x) (sym (append-nil l)) ∙ drop_at l [] n e ∙ ap (λ (k : ℕ). replicate k 0) (sym z)

module _ {points : List Float} {c l w : List ℕ} (a : Admitted points c l w) where
  pub thirds : length c ≡ 3 * length l
  thirds = let x = a.corners_in_threes in let y = a.a-label-each in omega arith

  -- an admitted surface is where a run may start
  pub standing-first : {w₁ : List ℕ} → length w₁ ≡ length w → Standing c l (length l) (length points / 3) w₁
  standing-first {w₁} e = record {
    thirds = thirds;
    few = let x = a.few-triangles in let y = a.a-label-each in omega arith;
    bound = a.few-points;
    room = omega arith;
    good = subst (λ (p : Pair). Good (length points / 3) p) (sym (whole_pair c l thirds)) (record {
      sound = record { closed = a.closed; labelled = sym (length-triangles (length l) c thirds) };
      below = used-below (length points / 3) c a.listed;
      small = a.known;
    });
    freed = nothing_left (3 * length l) c thirds;
    unlabelled = nothing_left (length l) l refl;
    work = let x = a.enough-words in let y = a.a-label-each in omega arith;
  }

abbrev accepted : ℕ → ℕ → Result Left Refusal
accepted triangles edits = Ok (record { triangles = triangles; edits = edits })

-- a call that is refused
module _ (points : List Float) (c l w es v j : List ℕ) where
  abbrev h : History
  h = history_of c l es j

  refused : (why : Refusal) → edit_questions points c l w es v ≡ Err why → {w' : List ℕ} → w' ≡ work_after (refusal_number why) points c w → EditRun points c l w es v j c l w' v j (Err why)
  refused why e f = record {
    answer = sym (ap (λ (q : Asked). answer_of q h) e);
    corners = refl;
    labels = refl;
    verdicts = refl;
    journal = refl;
    work = f;
  }

  module _ {a : Asked} {w' : List ℕ} (d : Admits points c l w w' a) where
    answer-is : {b : Asked} → a ≡ b → edit_questions points c l w es v ≡ and_then b (ask (in_threes? es v) Entries (Ok tt))
    unfolding edit_questions
    answer-is e = ap (λ (q : Asked). and_then q (ask (in_threes? es v) Entries (Ok tt))) (sym d.answer ∙ e)

    words_are : {b : Asked} → a ≡ b → w' ≡ work_after (asked_number b) points c w
    words_are e = d.words ∙ ap (λ (q : Asked). work_after (asked_number q) points c w) e

    -- by a question about the surface
    pub refused_surface : {why : Refusal} → a ≡ Err why → EditRun points c l w es v j c l w' v j (Err why)
    refused_surface {why} e = refused why (answer-is e) (words_are e)

  module _ {a : Asked} {w' : List ℕ} (d : Admits points c l w w' a) (z : a ≡ Ok tt) where
    cleared-words : w' ≡ cleared (words-needed points c) w
    cleared-words = words_are d z

    -- by question 15
    pub no_threes : in_threes? es v ≡ false → EditRun points c l w es v j c l w' v j (Err Entries)
    no_threes n = refused Entries (answer-is d z ∙ ap (λ (t : Bool). ask t Entries (Ok tt)) n) cleared-words

    -- the run is started
    module _ (threes : in_threes? es v ≡ true) (same : length w' ≡ length w) {j₁ : List ℕ} (size : length j₁ ≡ length j) (clear : j₁ ≡ replicate (length j) 0) where
      each : (length es % 3 ≡ 0) × (length v ≡ length es / 3)
      each =
          let t = both (eqb (length es % 3) 0) (eqb (length v) (length es / 3)) threes in
          (eqb-true (length es % 3) 0 t.0, eqb-true (length v) (length es / 3) t.1)

      admits : Admitted points c l w
      admits = passed_admitted points c l w (sym d.answer ∙ z)

      pub starting : Starting (length points / 3) c l w' es v j₁
      starting = record {
        standing = standing-first admits same;
        empty = clear ∙ ap (λ (x : ℕ). replicate x 0) (sym size);
        threes = omega (arith, each);
      }

      -- and has come to its end
      module _ {c' l' w₂ v' j' : List ℕ} {n k : ℕ} (r : Ran (length points / 3) c l w' es j₁ c' l' w₂ v' j' n k) (cs : length c' ≡ length c) (ls : length l' ≡ length l) (js : length j' ≡ length j₁) where
        is : after (length j₁ / 12) (first c l) (entries es) ≡ h
        is = ap₂ (λ (x : ℕ) (p : Pair). after (x / 12) (begun p) (entries es)) size (whole_pair c l (thirds admits))

        holds : Holds (length points / 3) c' l' w₂ j' n k h
        holds = subst (λ (g : History). Holds (length points / 3) c' l' w₂ j' n k g) is r.holds

        tris-is : held c' n ≡ (last h).tris
        tris-is = ap (λ (p : Pair). p.tris) holds.last

        labels-is : take n l' ≡ (last h).labels
        labels-is = ap (λ (p : Pair). p.labels) holds.last

        fits : 3 * n ≤ length c'
        fits = let s = holds.standing in let x = s.room in let y = s.thirds in omega arith

        size_is : length (last h).tris ≡ n
        size_is = ap length (sym tris-is) ∙ length-held c' n fits

        taken : length (take (3 * n) c') ≡ 3 * n
        taken = length-take-le (3 * n) c' fits

        corners-is : c' ≡ then_zero c (corners (last h).tris)
        corners-is =
            let f = length-corners (last h).tris in
            let q : length c' - 3 * n ≡ length c - length (corners (last h).tris) = omega (arith, size_is) in
            sym (take-append-drop (3 * n) c')
            ∙ ap₂ (λ (x y : List ℕ). x ++ y) (sym (corners-triangles n (take (3 * n) c') taken) ∙ ap corners tris-is) (holds.standing.freed ∙ ap (λ (x : ℕ). replicate x 0) q)

        labels_are : l' ≡ then_zero l (last h).labels
        labels_are =
            let f = ap length labels-is in
            let g = length-take-le n l' holds.standing.room in
            let q : length l' - n ≡ length l - length (last h).labels = omega arith in
            sym (take-append-drop n l') ∙ ap₂ (λ (x y : List ℕ). x ++ y) labels-is (holds.standing.unlabelled ∙ ap (λ (x : ℕ). replicate x 0) q)

        journal-is : j' ≡ then_zero j (records h.edits)
        journal-is =
            let f = records-length holds.chain in
            let g = holds.count in
            let q : length j' - 12 * k ≡ length j - length (records h.edits) = omega arith in
            holds.journal ∙ ap (λ (x : ℕ). records h.edits ++ replicate x 0) q

        m-is : lent c' (length points / 3) ≡ words-needed points c
        m-is = omega arith

        further-is : drop (words-needed points c) w₂ ≡ drop (words-needed points c) w
        further-is =
            let q : needed l (length points / 3) ≡ words-needed points c = let x = admits.a-label-each in omega arith in
            subst (λ (x : ℕ). drop x w₂ ≡ drop x w') q r.further ∙ ap (drop (words-needed points c)) cleared-words
            ∙ drop_at (replicate (words-needed points c) 0) (drop (words-needed points c) w) (words-needed points c) (length-replicate (words-needed points c) 0)

        all-passed : edit_questions points c l w es v ≡ Ok tt
        all-passed = answer-is d z ∙ ap (λ (t : Bool). ask t Entries (Ok tt)) threes

        pub edited : {w₃ : List ℕ} → Zeroed c' (length points / 3) w₂ w₃ → EditRun points c l w es v j c' l' w₃ v' j' (Ok (record { triangles = n; edits = k }))
        edited g = record {
          answer = sym (ap (λ (q : Asked). answer_of q h) all-passed ∙ ap₂ accepted size_is holds.count);
          corners = corners-is;
          labels = labels_are;
          verdicts = r.words ∙ ap₂ (λ (x : ℕ) (p : Pair). verdicts (x / 12) (begun p) (entries es)) size (whole_pair c l (thirds admits));
          journal = journal-is;
          work = g ∙ ap (λ (x : ℕ). replicate x 0 ++ drop x w₂) m-is ∙ ap (λ (x : List ℕ). replicate (words-needed points c) 0 ++ x) further-is;
        }

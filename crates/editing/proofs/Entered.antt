-- What an entry of each kind does to the lists and to the history that they hold.
use Prim.Native.Nat.{ℕ, ◌-◌, ◌/◌, ◌≤◌, ◌<◌}
use mathlib.Core.Path.{◌≡◌, refl, sym, ◌∙◌, ap, subst, subst₂}
use mathlib.Core.Logic.{◌⊎◌}
use mathlib.Core.Bool.{Bool, not}
use mathlib.Core.List.{List}
use native.Mathlib.Omega.{arith}
use native.Mathlib.Decide.{ℕ_discrete}
use lib.Dec.{ltb}
use lib.ListN.{length}
use borrow.Author.Tests.{ne_eqb, lt-ltb, le-ltb}
use Rattle.history.specs.History.{Entry, History, in_force, when, verdict, next}
use Rattle.history.specs.Flat.{entry_of}
use Rattle.history.specs.Entry.{Edited}
use Rattle.history.proofs.Verdict.{verdict-back, verdict_other, next-back, next-refused}
use Rattle.editing.specs.Entry.{NoEntryOf}
use Rattle.editing.specs.Held.{Holds, Returned, Entered, Noted}
use Rattle.editing.proofs.Held.{word-is, holds-edited, holds_kept}

-- a flip or collapse
module _ {points : ℕ} {l ls w j : List ℕ} {n k : ℕ} (e : Entry) (kind : (e.kind ≡ 1) ⊎ (e.kind ≡ 2)) {space : Bool} (sp : space ≡ ltb k (length j / 12)) {l' ls' : List ℕ} {m : ℕ} {w' : List ℕ} {word : ℕ}
    {ws : List ℕ} (d : Edited points l ls n w e space l' ls' m w' word ws) (same : length ls' ≡ length ls) where
  pub entered_edit : word ≡ 0 → {j' : List ℕ} {m' k' : ℕ} → Noted j k m ws j' m' k' → length j' ≡ length j → Entered points l ls w j n k e l' ls' w' j' m' k' word
  entered_edit z {j'} {m'} {k'} t kept = record {
    verdict = λ h held. word-is held e kind sp d same;
    holds = λ h held. subst₂ (λ (x y : ℕ). Holds points l' ls' w' j' x y (next (length j / 12) h e)) (sym t.count) (sym t.edits) (holds-edited held e kind sp d same z kept t.written);
    further = d.further;
  }

  pub entered_not : (word ≡ 0 → ⊥) → Entered points l ls w j n k e l' ls' w' j m k word
  entered_not z = record { verdict = λ h held. word-is held e kind sp d same; holds = λ h held. holds_kept held e kind sp d same z; further = d.further }

-- an entry that is refused by its kind, or by its number
module _ {points : ℕ} {l ls w j : List ℕ} {n k : ℕ} (e : Entry) (word : ℕ) (not-0 : word ≡ 0 → ⊥) (is : (h : History) → in_force h ≡ k → word ≡ verdict (length j / 12) h e) where
  pub entered_refused : Entered points l ls w j n k e l ls w j n k word
  entered_refused = record {
    verdict = λ h held. is h held.count;
    holds = λ h held. subst (λ (g : History). Holds points l ls w j n k g) (sym (next-refused (length j / 12) h e (λ v. not-0 (is h held.count ∙ v)))) held;
    further = refl;
  }

-- taking back
module _ {points : ℕ} {l ls w j : List ℕ} {n k : ℕ} (a : ℕ) where
  pub too_many : k < a → Entered points l ls w j n k (entry_of 3 a 0) l ls w j n k 26
  too_many q = entered_refused (entry_of 3 a 0) 26 (λ z. omega arith)
      (λ h c. sym (verdict-back (length j / 12) h (entry_of 3 a 0) refl ∙ ap (λ (t : Bool). when t 26 0) (lt-ltb (in_force h) a (omega arith))))

  pub entered_back : a ≤ k → {l' ls' w' j' : List ℕ} {m : ℕ} → Returned points l ls w j n k a l' ls' w' j' m → Entered points l ls w j n k (entry_of 3 a 0) l' ls' w' j' m (k - a) 0
  entered_back q {l'} {ls'} {w'} {j'} {m} r = record {
    verdict = λ h held. sym (accepted h held.count);
    holds = λ h held. subst (λ (g : History). Holds points l' ls' w' j' m (k - a) g) (sym (next-back (length j / 12) h (entry_of 3 a 0) (accepted h held.count) refl)) (r.holds h held);
    further = r.further;
  }
    where
      accepted : (h : History) → in_force h ≡ k → verdict (length j / 12) h (entry_of 3 a 0) ≡ 0
      accepted h c = verdict-back (length j / 12) h (entry_of 3 a 0) refl ∙ ap (λ (t : Bool). when t 26 0) (le-ltb (in_force h) a (omega arith))

-- words that are no entry's
module _ {points : ℕ} {l ls w j : List ℕ} {n k : ℕ} {kind a b : ℕ} (none : NoEntryOf kind a b) where
  pub no_entry : Entered points l ls w j n k (entry_of kind a b) l ls w j n k 21
  no_entry = go (ℕ_discrete kind 3)
    where
      go : Dec (kind ≡ 3) → Entered points l ls w j n k (entry_of kind a b) l ls w j n k 21
      go (yes e) = entered_refused (entry_of kind a b) 21 (λ z. omega arith)
          (λ h c. sym (verdict-back (length j / 12) h (entry_of kind a b) e ∙ ap (λ (t : Bool). when (not t) 21 (when (ltb (in_force h) a) 26 0)) (ne_eqb b 0 (none.back e))))
      go (no m) = entered_refused (entry_of kind a b) 21 (λ z. omega arith) (λ h c. sym (verdict_other (length j / 12) h (entry_of kind a b) none.flip none.collapse m))

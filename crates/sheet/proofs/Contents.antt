-- What is computed of a text is what it says. Assumes nothing.
use mathlib.Core.Path.{◌≡◌, refl, sym, ap, ◌∙◌, subst}
use mathlib.Core.Logic.{◌↔◌, ◌⊎◌, inl, inr, ⊎_elim}
use mathlib.Core.Bool.{Bool, true, false, ◌&&◌, cond, false≢true}
use mathlib.Core.List.{List, [], ◌∷◌, ◌++◌, cons≢nil, nil≢cons}
use Prim.Native.Nat.{ℕ, ◌≤◌, ◌^◌}
use native.Mathlib.Omega.{arith}
use lib.IntN.{nat_abs}
use lib.ListN.{length, drop}
use Rattle.surface.specs.Check.{every}
use Rattle.sheet.specs.Edition.{edition, IsEdition}
use Rattle.sheet.specs.Sheet.{Point, Triangle, Sheet, Near, Small, InRange, text_after, text}
use Rattle.sheet.specs.Contents.{Contents, nothing, sheet, Says, fields, field_sheet, near?, small?, in_range?, same_bytes, contents_in, contents}
use Rattle.sheet.specs.Laws.{ContentsLaws, LongestText}
use Rattle.sheet.proofs.Tests.{both-mean, le_means, lt_means, eq_means, every_means}
use Rattle.sheet.proofs.FieldTexts.{after_opening, sheet-taken}
use Rattle.sheet.proofs.Texts.{by_number, one-edition, longest_first, longest_second}

-- ---- what the tests mean

near_means : (most : ℕ) (p : Point) → (near? most p ≡ true) ↔ Near most p
near_means most p =
    let tests = both-mean (le_means (nat_abs p.x) most) (both-mean (le_means (nat_abs p.y) most) (le_means (nat_abs p.z) most)) in
    (λ e. let h = tests.0 e in record { x = h.0; y = h.1.0; z = h.1.1 }, λ h. tests.1 (h.x, (h.y, h.z)))

small_means : (t : Triangle) → (small? t ≡ true) ↔ Small t
small_means t =
    let tests = both-mean (lt_means t.a (2 ^ 32)) (both-mean (lt_means t.b (2 ^ 32)) (both-mean (lt_means t.c (2 ^ 32)) (lt_means t.label 256))) in
    (λ e. let h = tests.0 e in record { a = h.0; b = h.1.0; c = h.1.1.0; label = h.1.1.1 }, λ h. tests.1 (h.a, (h.b, (h.c, h.label))))

range_means : (most : ℕ) (s : Sheet) → (in_range? most s ≡ true) ↔ InRange most s
unfolding every
range_means most s =
    let tests = both-mean (le_means (length s.points) 128) (both-mean (le_means (length s.triangles) 256) (both-mean (every_means (near_means most) s.points) (every_means small_means s.triangles))) in
    (λ e. let h = tests.0 e in record { points = h.0; triangles = h.1.0; near = h.1.1.0; small = h.1.1.1 }, λ h. tests.1 (h.points, (h.triangles, (h.near, h.small))))

same_means : (l m : List ℕ) → (same_bytes l m ≡ true) ↔ (l ≡ m)
same_means [] [] = (λ e. refl, λ e. refl)
same_means [] (b ∷ m) = (λ e. absurd (false≢true e), λ e. absurd (nil≢cons e))
same_means (a ∷ l) [] = (λ e. absurd (false≢true e), λ e. absurd (cons≢nil e))
same_means (a ∷ l) (b ∷ m) =
    let tests = both-mean (eq_means a b) (same_means l m) in
    (λ e. let h = tests.0 e in cc, λ e. tests.1 (cc, cc))

-- ---- the sheet that the fields are taken for

same-said : {input : List ℕ} {n m : ℕ} {s t : Sheet} → sheet n s ≡ sheet m t → Says input n s → Says input m t
same-said {input} {n} {m} {s} {t} e h = subst (Says input m) (cc) (subst (λ (k : ℕ). Says input k s) (cc) h)

not_nothing : {n : ℕ} {s : Sheet} → nothing ≡ sheet n s → ⊥
not_nothing e = let z : ◌≡◌ {A = ℕ} 0 1 = cc in omega arith

cond_either : {A P : Type 0} (t : Bool) → (t ≡ true → P) → (a b : A) → (P × (cond t a b ≡ a)) ⊎ (cond t a b ≡ b)
cond_either true h a b = inl (h refl, refl)
cond_either false h a b = inr refl

past-opening : (n : ℕ) → IsEdition n → (r : List ℕ) → drop (length (fields (edition n).opening)) (fields ((edition n).opening ++ r)) ≡ fields r
past-opening = by_number (λ (n : ℕ). (r : List ℕ) → drop (length (fields (edition n).opening)) (fields ((edition n).opening ++ r)) ≡ fields r) (λ r. refl) (λ r. refl)

module _ (number : ℕ) (input : List ℕ) where
  abbrev taken : Sheet
  taken = field_sheet (drop (length (fields (edition number).opening)) (fields input))

  taken-said : (s : Sheet) → Says input number s → taken ≡ s
  unfolding text_after
  taken-said s h =
      ap (λ (l : List ℕ). field_sheet (drop (length (fields (edition number).opening)) (fields l))) h.is-text
      ∙ ap field_sheet (past-opening number h.known (after_opening s))
      ∙ sheet-taken s

  abbrev test : Bool
  test = in_range? (edition number).most taken && same_bytes input (text (edition number) taken)

  test_means : (test ≡ true) ↔ (InRange (edition number).most taken × (input ≡ text (edition number) taken))
  test_means = both-mean (range_means (edition number).most taken) (same_means input (text (edition number) taken))

  module _ (otherwise : Contents) where
    said_in : (s : Sheet) → Says input number s → contents_in number input otherwise ≡ sheet number s
    said_in s h =
        let e = taken-said s h in
        let h' = subst (Says input number) (sym e) h in
        ap (λ (t : Bool). cond t (sheet number taken) otherwise) (test_means.1 (h'.in_range, h'.is-text)) ∙ ap (sheet number) e

    either : IsEdition number → (Says input number taken × (contents_in number input otherwise ≡ sheet number taken)) ⊎ (contents_in number input otherwise ≡ otherwise)
    either known = cond_either test (λ e. let h = test_means.0 e in record { known = known; in_range = h.0; is-text = h.1 }) (sheet number taken) otherwise

    unsaid_in : IsEdition number → ((s : Sheet) → Says input number s → ⊥) → contents_in number input otherwise ≡ otherwise
    unsaid_in known n = ⊎_elim (λ h. absurd (n taken h.0)) (λ e. e) (either known)

    says_in : IsEdition number → (m : ℕ) (s : Sheet) → contents_in number input otherwise ≡ sheet m s → Says input m s ⊎ (otherwise ≡ sheet m s)
    says_in known m s e = ⊎_elim (λ h. inl (same-said (sym h.1 ∙ e) h.0)) (λ q. inr (sym q ∙ e)) (either known)

-- ---- the two editions

module _ (input : List ℕ) where
  first_said : (s : Sheet) → Says input 1 s → contents input ≡ sheet 1 s
  unfolding contents
  first_said = said_in 1 input (contents_in 2 input nothing)

  second-said : (s : Sheet) → Says input 2 s → contents input ≡ sheet 2 s
  unfolding contents
  second-said s h =
      unsaid_in 1 input (contents_in 2 input nothing) (omega arith)
      (λ t g. let one : ◌≡◌ {A = ℕ} 1 2 = one-edition 1 2 g.known h.known t s (sym g.is-text ∙ h.is-text) in omega arith)
      ∙ said_in 2 input nothing s h

  contents-said : (number : ℕ) (s : Sheet) → Says input number s → contents input ≡ sheet number s
  contents-said number s h = by_number (λ (n : ℕ). Says input n s → contents input ≡ sheet n s) (first_said s) (second-said s) number h.known h

  contents-says : (number : ℕ) (s : Sheet) → contents input ≡ sheet number s → Says input number s
  unfolding contents
  contents-says number s e =
      ⊎_elim (λ h. h)
      (λ q. ⊎_elim (λ h. h) (λ z. absurd (not_nothing z)) (says_in 2 input nothing (omega arith) number s q))
      (says_in 1 input (contents_in 2 input nothing) (omega arith) number s e)

  contents-nothing : ((number : ℕ) (s : Sheet) → Says input number s → ⊥) → contents input ≡ nothing
  unfolding contents
  contents-nothing n = unsaid_in 1 input (contents_in 2 input nothing) (omega arith) (n 1) ∙ unsaid_in 2 input nothing (omega arith) (n 2)

pub contents-laws : ContentsLaws
contents-laws = record { says = contents-says; said = contents-said; nothing = contents-nothing }

pub longest_text : LongestText
longest_text input number s h =
    subst (λ (l : List ℕ). length l ≤ 12981) (sym h.is-text)
    (by_number (λ (n : ℕ). InRange (edition n).most s → length (text (edition n) s) ≤ 12981) (λ ok. let l = longest_first s ok in omega arith) (longest_second s) number h.known h.in_range)

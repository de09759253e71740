-- What `read` gives by what was found. Assumes nothing.
use mathlib.Core.Path.{◌≡◌, refl, sym, ap, ◌∙◌, subst}
use mathlib.Core.Logic.{◌↔◌}
use mathlib.Core.Bool.{Bool, true, false, cond}
use mathlib.Core.List.{List, ◌++◌}
use Prim.Native.Nat.{ℕ, ◌-◌, ◌*◌, ◌≤◌}
use lib.Ieee.{Float}
use lib.IntN.{ℤ}
use lib.ListN.{length, take, drop, replicate}
use lib.Seq.{take_at}
use Rattle.sheet.specs.Edition.{edition}
use Rattle.sheet.specs.Sheet.{Sheet, places_of, corners_of, labels_of}
use Rattle.sheet.specs.Contents.{Contents, Says, contents}
use Rattle.sheet.specs.Stages.{IsFound}
use Rattle.sheet.proofs.Contents.{contents-laws}
use Rattle.sheet.proofs.Stores.{drop-same, length-corners, length-labels}
use Rattle.sheet.proofs.Tests.{both-mean, le_means, fails}
use Rattle.reading.specs.Given.{Reading, read, refused, holds?, reading_in, zero_float, Gives}
use Rattle.reading.specs.Stages.{placed_first}
use Rattle.std.specs.Prelude.{Result, Ok, Err}
use Rattle.sheet.specs.declared.Counts.{Counts}
use Rattle.sheet.specs.declared.Refusal.{Refusal}
use Rattle.sheet.specs.declared.Refusal.TheVariants.{NoSheet, NoRoom}
use Rattle.reading.proofs.Placing.{sheet-places}

pub holds_means : (s : Sheet) (p c l : ℕ) → (holds? s p c l ≡ true) ↔ ((length s.points * 3 ≤ p) × ((length s.triangles * 3 ≤ c) × (length s.triangles ≤ l)))
holds_means s p c l = both-mean (le_means (length s.points * 3) p) (both-mean (le_means (length s.triangles * 3) c) (le_means (length s.triangles) l))

module _ (input : List ℕ) (p p' : List Float) (c c' l l' : List ℕ) where
  abbrev made : Reading
  made = reading_in (contents input) p c l

  -- a refusal, after which all is cleared
  refuses : (why : Refusal) → made ≡ refused why → p' ≡ replicate (length p) zero_float → c' ≡ replicate (length c) 0 → l' ≡ replicate (length l) 0 → Gives made p p' c c' l l' (Err why)
  refuses why e a b d = subst (λ (r : Reading). Gives r p p' c c' l l' (Err why)) (sym e) (record { answered = refl; point-list = a; corner-list = b; label-list = d })

  pub gives_16 : contents input ≡ Contents.nothing → p' ≡ replicate (length p) zero_float → c' ≡ replicate (length c) 0 → l' ≡ replicate (length l) 0 → Gives made p p' c c' l l' (Err NoSheet)
  gives_16 e = refuses NoSheet (ap (λ (x : Contents). reading_in x p c l) e)

  module _ (number n m : ℕ) (z z' : List ℤ) (x x' y y' : List ℕ) (f : IsFound input number n m z z' x x' y y') where
    s : Sheet
    s = f.sheet

    by-room : (b : Bool) → holds? s (length p) (length c) (length l) ≡ b → made ≡ cond b (read number s) (refused NoRoom)
    unfolding s
    by-room b e = ap (λ (t : Contents). reading_in t p c l) f.said ∙ ap (λ (t : Bool). cond t (read number s) (refused NoRoom)) e

    pub gives_35 : ((n * 3 ≤ length p) × ((m * 3 ≤ length c) × (m ≤ length l)) → ⊥) → p' ≡ replicate (length p) zero_float → c' ≡ replicate (length c) 0 → l' ≡ replicate (length l) 0 → Gives made p p' c c' l l' (Err NoRoom)
    unfolding s
    gives_35 short =
        refuses NoRoom
        (by-room false (fails (holds_means s (length p) (length c) (length l))
        (λ h. short (subst (λ (k : ℕ). k * 3 ≤ length p) f.n-points h.0, (subst (λ (k : ℕ). k * 3 ≤ length c) f.m-triangles h.1.0, subst (λ (k : ℕ). k ≤ length l) f.m-triangles h.1.1)))))

    -- the lists, once they are cleared and filled
    pub gives_sheet : (unit : ℕ) (p₀ : List Float) (c₀ l₀ : List ℕ) → n * 3 ≤ length p → m * 3 ≤ length c → m ≤ length l → unit ≡ (edition number).unit
        → p₀ ≡ replicate (length p) zero_float → p' ≡ placed_first unit z' (n * 3) p₀
        → c₀ ≡ replicate (length c) 0 → c' ≡ take (m * 3) x' ++ drop (m * 3) c₀
        → l₀ ≡ replicate (length l) 0 → l' ≡ take m y' ++ drop m l₀
        → Gives made p p' c c' l l' (Ok (record { points = n; triangles = m }))
    unfolding s
    gives_sheet unit p₀ c₀ l₀ hp hc hl u a b d g i j =
        let U = (edition number).unit in
        let n-is = sym f.n-points in
        let m-is = sym f.m-triangles in
        let room = (holds_means s (length p) (length c) (length l)).1 (subst (λ (k : ℕ). k * 3 ≤ length p) n-is hp, (subst (λ (k : ℕ). k * 3 ≤ length c) m-is hc, subst (λ (k : ℕ). k ≤ length l) m-is hl)) in
        subst (λ (r : Reading). Gives r p p' c c' l l' (Ok (record { points = n; triangles = m }))) (sym (by-room true room))
        (record {
          answered = λ t. Ok (record { points = n-is t; triangles = m-is t });
          point-list =
              b ∙ ap (λ (k : ℕ). placed_first k z' (n * 3) p₀) u
              ∙ sheet-places U s.points n z' (drop (n * 3) z) p₀ f.n-points f.coordinate-list
              ∙ ap (λ (t : List Float). places_of U s.points ++ t) (ap (drop (n * 3)) a ∙ drop-same zero_float (length p) (n * 3) ∙ ap (λ (k : ℕ). replicate (length p - k * 3) zero_float) n-is);
          corner-list =
              g ∙ ap (λ (t : List ℕ). t ++ drop (m * 3) c₀) (ap (take (m * 3)) f.corner-list ∙ take_at (corners_of s.triangles) (drop (m * 3) x) (m * 3) (length-corners s.triangles ∙ ap (λ (k : ℕ). k * 3) f.m-triangles))
              ∙ ap (λ (t : List ℕ). corners_of s.triangles ++ t) (ap (drop (m * 3)) d ∙ drop-same 0 (length c) (m * 3) ∙ ap (λ (k : ℕ). replicate (length c - k * 3) 0) m-is);
          label-list =
              j ∙ ap (λ (t : List ℕ). t ++ drop m l₀) (ap (take m) f.label-list ∙ take_at (labels_of s.triangles) (drop m y) m (length-labels s.triangles ∙ f.m-triangles))
              ∙ ap (λ (t : List ℕ). labels_of s.triangles ++ t) (ap (drop m) i ∙ drop-same 0 (length l) m ∙ ap (λ (k : ℕ). replicate (length l - k) 0) m-is);
        })

-- ---- what an answer that is a sheet says

pub record IsRead (input : List ℕ) (n m : ℕ) (p p' : List Float) (c c' l l' : List ℕ) : Type 0 where
  pub number : ℕ
  pub sheet : Sheet
  pub said : Says input number sheet
  pub n-points : n ≡ length sheet.points
  pub m-triangles : m ≡ length sheet.triangles
  pub point-list : p' ≡ places_of (edition number).unit sheet.points ++ replicate (length p - length sheet.points * 3) zero_float
  pub corner-list : c' ≡ corners_of sheet.triangles ++ replicate (length c - length sheet.triangles * 3) 0
  pub label-list : l' ≡ labels_of sheet.triangles ++ replicate (length l - length sheet.triangles) 0

module _ (input : List ℕ) (counts : Counts) (p p' : List Float) (c c' l l' : List ℕ) where
  abbrev Is : Type 0
  Is = IsRead input counts.points counts.triangles p p' c c' l l'

  not_refused : (why : Refusal) → ◌≡◌ {A = Result Counts Refusal} (Ok counts) (Err why) → ⊥
  not_refused why e = cc

  counted : (k : Counts) → ◌≡◌ {A = Result Counts Refusal} (Ok counts) (Ok k) → counts ≡ k
  counted k e = cc

  by_test : (number : ℕ) (s : Sheet) → contents input ≡ Contents.sheet number s → (b : Bool) → Gives (cond b (read number s) (refused NoRoom)) p p' c c' l l' (Ok counts) → Is
  by_test number s e true g =
      let q = counted (record { points = length s.points; triangles = length s.triangles }) g.answered in
      record { number = number; sheet = s; said = contents-laws.says input number s e; n-points = ap (λ (k : Counts). k.points) q; m-triangles = ap (λ (k : Counts). k.triangles) q; point-list = g.point-list; corner-list = g.corner-list; label-list = g.label-list }
  by_test number s e false g = absurd (not_refused NoRoom g.answered)

  by-contents : (x : Contents) → contents input ≡ x → Gives (reading_in x p c l) p p' c c' l l' (Ok counts) → Is
  by-contents Contents.nothing e g = absurd (not_refused NoSheet g.answered)
  by-contents (Contents.sheet number s) e g = by_test number s e (holds? s (length p) (length c) (length l)) g

  pub is_read : (r : Result Counts Refusal) → Gives (reading_in (contents input) p c l) p p' c c' l l' r → r ≡ Ok counts → IsRead input counts.points counts.triangles p p' c c' l l'
  is_read r g e = by-contents (contents input) refl (subst (Gives (reading_in (contents input) p c l) p p' c c' l l') e g)

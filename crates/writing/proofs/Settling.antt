-- What comes of a text: inexact, no room, or how long it is. Assumes nothing.
use mathlib.Core.Path.{◌≡◌, refl, sym, ap, ◌∙◌}
use mathlib.Core.Bool.{Bool, true, false, ◌&&◌, cond}
use mathlib.Core.List.{List, ◌++◌}
use Prim.Native.Nat.{ℕ, ◌-◌, ◌≤◌, ◌<◌}
use native.Mathlib.Omega.{arith}
use borrow.Author.Tests.{leb-true, le-leb, lt-leb}
use lib.Dec.{leb}
use lib.ListN.{length, replicate, length-append, length-replicate}
use lib.Seq.{length-sets}
use Rattle.writing.specs.Written.{Writing, written, refused, fitting, written_of, bytes_after, Leaves}
use Rattle.writing.specs.Stages.{Put, settled_as, SettledText}
use Rattle.std.specs.Prelude.{Result, Ok, Err}
use Rattle.sheet.specs.declared.Refusal.{Refusal}
use Rattle.sheet.specs.declared.Refusal.TheVariants.{NoRoom, Inexact}
use Rattle.writing.proofs.Puts.{room}

-- ---- the three ends of `settled`

module _ (exact : Bool) (count : ℕ) (l l' : List ℕ) where
  pub not_exact : exact ≡ false → l' ≡ replicate (length l) 0 → SettledText exact count l l' (Err Inexact)
  not_exact e z =
      record { answered = sym (ap (λ (b : Bool). settled_as b (leb count (length l)) count) e); bytes = z ∙ sym (ap (λ (b : Bool). cond (b && leb count (length l)) l (replicate (length l) 0)) e) }

  module _ (e : exact ≡ true) where
    fits : (b : Bool) → leb count (length l) ≡ b → exact && leb count (length l) ≡ b
    fits b g = ap (λ (a : Bool). a && leb count (length l)) e ∙ g

    says : (b : Bool) → leb count (length l) ≡ b → settled_as exact (leb count (length l)) count ≡ cond b (Ok count) (Err NoRoom)
    says b g = ap (λ (a : Bool). settled_as a (leb count (length l)) count) e ∙ ap (λ (a : Bool). settled_as true a count) g

    pub no_room : length l < count → l' ≡ replicate (length l) 0 → SettledText exact count l l' (Err NoRoom)
    no_room h z = let g = lt-leb count (length l) h in record { answered = sym (says false g); bytes = z ∙ sym (ap (λ (b : Bool). cond b l (replicate (length l) 0)) (fits false g)) }

    pub with_room : count ≤ length l → l' ≡ l → SettledText exact count l l' (Ok count)
    with_room h z = let g = le-leb count (length l) h in record { answered = sym (says true g); bytes = z ∙ sym (ap (λ (b : Bool). cond b l (replicate (length l) 0)) (fits true g)) }

-- ---- a text that was put on zeros, and settled

module _ (w : List ℕ) (long : ℕ) (list zeros l : List ℕ) (count : ℕ) (z : zeros ≡ replicate (length list) 0) (p : Put w long zeros l 0 count) (l' : List ℕ) (r : Result ℕ Refusal) where
  counted : count ≡ length w
  counted = let e = p.place in omega arith

  same-long : length l ≡ length list
  same-long = ap length p.stored ∙ length-sets zeros 0 w ∙ ap length z ∙ length-replicate (length list) 0

  same-room : leb count (length l) ≡ leb (length w) (length list)
  same-room = ap (λ (n : ℕ). leb n (length l)) counted ∙ ap (leb (length w)) same-long

  ends : (b : Bool) → leb (length w) (length list) ≡ b → SettledText true count l l' r → Leaves (written w) list l' r
  ends true e s = record {
    answered =
        s.answered
        ∙ ap (λ (b : Bool). settled_as true b count) (same-room ∙ e)
        ∙ ap Ok counted
        ∙ sym (ap (λ (b : Bool). written_of (cond b (written w) (refused NoRoom))) e);
    bytes =
        s.bytes
        ∙ ap (λ (b : Bool). cond b l (replicate (length l) 0)) (same-room ∙ e)
        ∙ room w long (length list) zeros l count z p (let h = leb-true (length w) (length list) e in let c = counted in omega arith)
        ∙ ap (λ (n : ℕ). w ++ replicate (length list - n) 0) counted
        ∙ sym (ap (λ (b : Bool). bytes_after (length list) (cond b (written w) (refused NoRoom))) e);
  }
  ends false e s = record {
    answered = s.answered ∙ ap (λ (b : Bool). settled_as true b count) (same-room ∙ e) ∙ sym (ap (λ (b : Bool). written_of (cond b (written w) (refused NoRoom))) e);
    bytes =
        s.bytes
        ∙ ap (λ (b : Bool). cond b l (replicate (length l) 0)) (same-room ∙ e)
        ∙ ap (λ (n : ℕ). replicate n 0) same-long
        ∙ sym (ap (λ (b : Bool). bytes_after (length list) (cond b (written w) (refused NoRoom))) e);
  }

  pub leaves : (exact : Bool) → SettledText exact count l l' r → Leaves (cond exact (written w) (refused Inexact)) list l' r
  leaves true s = ends (leb (length w) (length list)) refl s
  leaves false s = record { answered = s.answered; bytes = s.bytes ∙ ap (λ (n : ℕ). replicate n 0) same-long }

-- a refusal of what comes before
pub refused-leaves : (w : Writing) (why : Refusal) (list l' : List ℕ) → w ≡ refused why → l' ≡ replicate (length list) 0 → Leaves w list l' (Err why)
refused-leaves w why list l' e z = record { answered = sym (ap (λ (v : Writing). written_of (fitting (length list) v)) e); bytes = z ∙ sym (ap (λ (v : Writing). bytes_after (length list) (fitting (length list) v)) e) }

-- ---- what is answered

in_list : (x : Writing) (long : ℕ) (list' : List ℕ) (n : ℕ) → ◌≡◌ {A = Result ℕ Refusal} (Ok n) (written_of x) → list' ≡ bytes_after long x → n ≤ length list'
in_list (written bytes) long list' n e f =
    let a : n ≡ length bytes = cc in
    let b = ap length f ∙ length-append bytes (replicate (long - length bytes) 0) in
    omega arith
in_list (refused k) long list' n e f = let bad : ◌≡◌ {A = ℕ} 0 1 = cc in absurd (omega arith)

-- the bytes that are counted are on the list
pub count_fits : (w : Writing) (list list' : List ℕ) (r : Result ℕ Refusal) (n : ℕ) → Leaves w list list' r → r ≡ Ok n → n ≤ length list'
count_fits w list list' r n h e = in_list (fitting (length list) w) (length list) list' n (sym e ∙ h.answered) h.bytes

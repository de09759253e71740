-- A part of the words that is lent and put back: chains made in it.
use Prim.Native.Nat.{ℕ, ◌+◌, ◌-◌, ◌<◌, ◌≤◌}
use native.Mathlib.Omega.{arith}
use mathlib.Core.Path.{◌≡◌, sym, ap, ◌∙◌, subst}
use mathlib.Core.List.{List, [], ◌∷◌, ◌++◌, append-nil}
use lib.ListN.{length, take, drop, get_or-append, length-append, length-take, length-drop}
use lib.Seq.{get_or-append-add, get_or-drop, get_or-take, take_all, length-take-le}
use Rattle.halfedges.specs.Place.{at}
use Rattle.halfedges.specs.Free.{Free}
use Rattle.chains.proofs.Marks.{chained-part}
use Rattle.chains.specs.Clear.{ChainedAt}

-- a word of a joined list, before the join and behind it
pub at_front : (a b : List ℕ) (n j : ℕ) → length a ≡ n → j < n → at (a ++ b) j ≡ at a j
at_front a b n j e l = get_or-append a b 0 j (subst (λ (m : ℕ). j < m) (sym e) l)

pub at_back : (a b : List ℕ) (n j : ℕ) → length a ≡ n → at (a ++ b) (n + j) ≡ at b j
at_back a b n j e = subst (λ (m : ℕ). at (a ++ b) (m + j) ≡ at b j) e (get_or-append-add a b j 0)

-- a part of a list is put back: words below it stay, and its own are the part's
pub part-under : (base : ℕ) (w v r : List ℕ) (j : ℕ) → base ≤ length w → j < base → at (take base w ++ (v ++ r)) j ≡ at w j
part-under base w v r j l m = at_front (take base w) (v ++ r) base j (length-take-le base w l) m ∙ get_or-take base w j 0 m

pub part_in : (base : ℕ) (w v r : List ℕ) (j : ℕ) → base ≤ length w → j < length v → at (take base w ++ (v ++ r)) (base + j) ≡ at v j
part_in base w v r j l m = at_back (take base w) (v ++ r) base j (length-take-le base w l) ∙ get_or-append v r 0 j m

-- where words of the part are free, those words of the whole are
pub free_part : (base hi : ℕ) (w v w' : List ℕ) → base ≤ length w → Free 0 hi (take (length w - base) (drop base w)) v → w' ≡ take base w ++ (v ++ drop (length w - base) (drop base w)) → Free base (base + hi) w w'
free_part base hi w v w' room f e = record {
  len = ap length e ∙ length-append (take base w) (v ++ r) ∙ omega (arith, length-append v r, length-take base w, size, length-drop (length w - base) (drop base w), length-drop base w);
  under = λ j l. ap (λ (x : List ℕ). at x j) e ∙ part-under base w v r j room l;
  over = λ j l. over j l;
}
  where
    r : List ℕ
    r = drop (length w - base) (drop base w)

    whole : take (length w - base) (drop base w) ≡ drop base w
    whole = take_all (length w - base) (drop base w) (omega (arith, length-drop base w))

    size : length v ≡ length w - base
    size = f.len ∙ ap length whole ∙ length-drop base w

    nil_tail : (a b : List ℕ) → length b ≡ 0 → a ++ b ≡ a
    nil_tail a [] q = append-nil a
    nil_tail a (x ∷ b) q = absurd (omega arith)

    empty : length r ≡ 0
    empty = omega (arith, length-drop (length w - base) (drop base w), length-drop base w)

    over : (j : ℕ) → base + hi ≤ j → at w' j ≡ at w j
    over j l =
        let z : base + (j - base) ≡ j = omega arith in
        subst (λ (n : ℕ). at w' n ≡ at w n) z
        (ap (λ (x : List ℕ). at x (base + (j - base))) e
        ∙ at_back (take base w) (v ++ r) base (j - base) (length-take-le base w room)
        ∙ ap (λ (x : List ℕ). at x (j - base)) (nil_tail v r empty)
        ∙ f.over (j - base) (omega arith)
        ∙ ap (λ (x : List ℕ). at x (j - base)) whole
        ∙ get_or-drop base w (j - base) 0)

pub chained-at : (c : List ℕ) (p chains : ℕ) (w v w' : List ℕ) → chains + p + length c ≤ length w → ChainedAt c p 0 (take (length w - chains) (drop chains w)) v → w' ≡ take chains w ++ (v ++ drop (length w - chains) (drop chains w)) → ChainedAt c p chains w w'
chained-at c p chains w v w' room h e =
    let r = drop (length w - chains) (drop chains w) in
    let a = length-take (length w - chains) (drop chains w) in
    let b = length-drop chains w in
    let size = h.rest.len in
    let z : chains + (0 + p + length c) ≡ chains + p + length c = omega arith in
    record {
      chained = chained-part c p chains v w' (λ j l. ap (λ (x : List ℕ). at x (chains + j)) e ∙ part_in chains w v r j (omega arith) (omega arith)) h.chained;
      rest = subst (λ (n : ℕ). Free chains n w w') z (free_part chains (0 + p + length c) w v w' (omega arith) h.rest e);
    }

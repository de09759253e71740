-- When a history accepts an edit, and what it holds then.
use Prim.Native.Nat.{ℕ, ◌<◌}
use mathlib.Core.Path.{◌≡◌, refl, sym, ◌∙◌, ap, subst}
use mathlib.Core.Bool.{Bool, true, false, not, ◌&&◌, ◌||◌, cond, true≢false, false≢true}
use mathlib.Core.List.{List, [], ◌∷◌, ◌++◌, map}
use native.Mathlib.Omega.{arith}
use lib.Dec.{eqb, ltb}
use lib.ListN.{length, length-append}
use borrow.Author.Tests.{lt-leb, eqb-true}
use Rattle.surface.specs.Check.{closed?}
use Rattle.history.specs.History.{Pair, Entry, is_flip, is_collapse, is_back, exists, alike, covered, made, words, History, last, in_force, begun, after, full, when, verdict, verdicts, next}
use Rattle.history.specs.Safe.{allowed}
use Rattle.rounds.specs.Accepted.{Accepted}

pub record Good (p : Pair) (e : Entry) : Type 0 where
  pub kind : (eqb e.kind 1 || eqb e.kind 2) ≡ true
  pub edits : eqb e.kind 3 ≡ false
  pub there : exists p e.a e.b ≡ true
  pub fine : allowed p e ≡ true
  pub closed : closed? (made p e).tris ≡ true

-- the verdict word by the outcome of each test
word : (flip collapse back none there alike covers closed more full : Bool) → ℕ
word f c t z x a v k m l =
    when (not ((f || c) || (t && z))) 21
    (when ((f || c) && not x) 22
    (when (f && not a) 23
    (when (c && not v) 24
    (when ((f || c) && not k) 25
    (when (t && m) 26
    (when ((f || c) && l) 27
    0))))))

word_good : (f c t z x a v k m l : Bool) → (f || c) ≡ true → (f && c) ≡ false → t ≡ false → x ≡ true → cond f a v ≡ true → k ≡ true → l ≡ false → word f c t z x a v k m l ≡ 0
unfolding word
word_good true true t z x a v k m l e d et ex ea ek el = absurd (true≢false d)
word_good true false t z x a v k m l e d et ex ea ek el = rw (ex, ea, ek, et, el) refl
word_good false true t z x a v k m l e d et ex ea ek el = rw (ex, ea, ek, et, el) refl
word_good false false t z x a v k m l e d et ex ea ek el = absurd (false≢true e)

-- a flip is no collapse
one-kind : (k : ℕ) → (eqb k 1 && eqb k 2) ≡ false
one-kind k = go (eqb k 1) refl (eqb k 2) refl
  where
    go : (f : Bool) → eqb k 1 ≡ f → (c : Bool) → eqb k 2 ≡ c → (f && c) ≡ false
    go true p true q = absurd (omega (arith, eqb-true k 1 p, eqb-true k 2 q))
    go true p false q = refl
    go false p c q = refl

module _ (capacity : ℕ) (h : History) (e : Entry) (g : Good (last h) e) (fits : in_force h < capacity) where
  pub good-verdict : verdict capacity h e ≡ 0
  unfolding verdict word
  good-verdict =
      word_good (is_flip e) (is_collapse e) (is_back e) (eqb e.b 0) (exists (last h) e.a e.b) (alike (last h) e.a e.b) (covered (last h) e.a e.b)
      (closed? (made (last h) e).tris) (ltb (in_force h) e.a) (full capacity h) g.kind (one-kind e.kind) g.edits g.there g.fine g.closed (lt-leb capacity (in_force h) fits)

  pub good-next : next capacity h e ≡ record { lent = h.lent; edits = record { pair = made (last h) e; words = words (last h) e } ∷ h.edits }
  unfolding next
  good-next = rw (good-verdict, g.edits) refl

-- a run, and one more entry
run-verdicts : (capacity : ℕ) (h : History) (es : List Entry) (e : Entry) → verdicts capacity h (es ++ (e ∷ [])) ≡ verdicts capacity h es ++ (verdict capacity (after capacity h es) e ∷ [])
unfolding verdicts after
run-verdicts capacity h [] e = refl
run-verdicts capacity h (d ∷ es) e = ap (λ (l : List ℕ). verdict capacity h d ∷ l) (run-verdicts capacity (next capacity h d) es e)

run-after : (capacity : ℕ) (h : History) (es : List Entry) (e : Entry) → after capacity h (es ++ (e ∷ [])) ≡ next capacity (after capacity h es) e
unfolding after
run-after capacity h [] e = refl
run-after capacity h (d ∷ es) e = run-after capacity (next capacity h d) es e

zeros : (es : List Entry) (e : Entry) → ◌++◌ {A = ℕ} (map (λ (e : Entry). 0) es) (0 ∷ []) ≡ map (λ (e : Entry). 0) (es ++ (e ∷ []))
zeros [] e = refl
zeros (d ∷ es) e = ap (λ (l : List ℕ). 0 ∷ l) (zeros es e)

pub accepted-none : (capacity : ℕ) (p : Pair) → Accepted capacity p [] p
unfolding verdicts after
accepted-none capacity p = record { verdicts = refl; last = refl; held = refl }

pub accepted-more : {room : ℕ} {p q : Pair} {es : List Entry} → Accepted room p es q → (e : Entry) → Good q e → length es < room → Accepted room p (es ++ (e ∷ [])) (made q e)
accepted-more {room} {p} {q} {es} a e g l =
    let h = after room (begun p) es in
    let g' : Good (last h) e = subst (λ (k : Pair). Good k e) (sym a.last) g in
    let k : in_force h < room = omega (arith, a.held) in
    let n = run-after room (begun p) es e ∙ good-next room h e g' k in
    record {
      verdicts = run-verdicts room (begun p) es e ∙ ap (λ (n : ℕ). verdicts room (begun p) es ++ (n ∷ [])) (good-verdict room h e g' k) ∙ ap (λ (l : List ℕ). l ++ (0 ∷ [])) a.verdicts ∙ zeros es e;
      last = ap last n ∙ ap (λ (x : Pair). made x e) a.last;
      held = ap in_force n ∙ omega (arith, a.held, length-append es (e ∷ []));
    }

-- Page twelve for the judgement: its answer depends neither on the order of the triangles nor on where each turn begins. And it is the original's answer.
use Prim.Native.Nat.{ℕ}
use mathlib.Core.Path.{◌≡◌, sym, ◌∙◌}
use mathlib.Core.Logic.{◌↔◌}
use mathlib.Core.Bool.{Bool, true}
use mathlib.Core.List.{List}
use Rattle.surface.specs.Triangle.{triangles}
use Rattle.surface.specs.Euler.{Below}
use Rattle.surface.specs.declared.Finding.{Finding}
use Rattle.surface.specs.declared.Finding.TheVariants as finds
use Rattle.surface.proofs.Findings.{finding-closed, finding-order}
use Rattle.surface.specs.Original.{original_closed}
use Rattle.surface.specs.PageTwelve.{Relisted}
use Rattle.surface.proofs.Bools.{same_answer}
use Rattle.surface.proofs.PageTwelve.{page_twelve}
use Rattle.surface.proofs.Original.{original_iff}
use Rattle.closing.specs.Closing.{Judgement, ClosedDecided}

pub closed-order : {c d : List ℕ} → Relisted (triangles c) (triangles d) → {p q : ℕ} {w w' x x' : List ℕ} {r s : Bool} → ClosedDecided c p w w' r → ClosedDecided d q x x' s → r ≡ s
closed-order relisted {r = r} {s = s} h k =
    let t = page_twelve relisted in
    same_answer r s ((λ e. k.decides.1 (t.closed.0 (h.decides.0 e))), λ e. h.decides.1 (t.closed.1 (k.decides.0 e)))

pub found-order : {c d : List ℕ} → Relisted (triangles c) (triangles d) → {p q : ℕ} {w w' x x' : List ℕ} {f g : Finding} → Judgement c p w w' f → Judgement d q x x' g → f ≡ g
found-order relisted h k = h.answer ∙ finding-order relisted ∙ sym k.answer

-- Beside the Rust's `closed_oriented_manifold`, where document 01's order of questions reaches it (every corner is on the list): all three findings mean no.
pub found-original : {c : List ℕ} {p : ℕ} {w w' : List ℕ} {f : Finding} → Below p (triangles c) → Judgement c p w w' f → (f ≡ finds.Closed) ↔ (original_closed (triangles c) p ≡ true)
found-original {c} {p} below h =
    let o = original_iff (triangles c) p below in
    let k = finding-closed (triangles c) in
    ((λ e. o.1 (k.0 (sym h.answer ∙ e))), λ e. h.answer ∙ k.1 (o.0 e))

-- `lanovishel::lanovishel_outlines` meets its contract: it hands on what `outlines` of `layers` answers. Assumes nothing.
use Prim.Native.Nat.{ℕ, ◌%◌, ◌^◌, ◌≤◌}
use mathlib.Core.Path.{◌≡◌, refl, sym, ap, ap₂, ◌∙◌, subst}
use mathlib.Core.List.{List, [], ◌∷◌}
use native.Mathlib.Omega.{arith}
use lib.IntN.{ℤ}
use lib.ListN.{length}
use lib.Ieee.{Float}
use mir.Syntax.{w32}
use mir.ValLaws.{to_z-of_z}
use Rattle.questions.specs.Questions.{work_after}
use Rattle.layers.specs.Call.{layer_number, layer_counts, layer_place, list_after, LayerCall}
use Rattle.layers.specs.declared.Layer.{Layer}
use Rattle.questions.specs.declared.Refusal.{Refusal}
use Rattle.std.specs.Prelude.{Result, Ok}
use Rattle.layers.proofs.Laws.{small-counts}
use Rattle.lanovishel.specs.Outlines.{OutlinesCall}
use Rattle.lanovishel.proofs.lanovishel_outlines.Goals as goal

module _ {points : List Float} {corners labels work work' : List ℕ} {height : ℤ} {outline outline' : List ℕ} {r q : Result Layer Refusal} (d : LayerCall points corners labels work work' height outline outline' r) (e : r ≡ q) where
  handed : {number : ℕ} {counts place : List ℕ} → number ≡ layer_number q → counts ≡ layer_counts q → place ≡ layer_place q → OutlinesCall points corners labels work height outline work' outline' counts place number
  handed n c p = record {
    answer = n ∙ ap layer_number (sym e ∙ d.answer);
    places = d.places ∙ ap (λ (l : Result Layer Refusal). list_after l points corners height outline) d.answer;
    counts = c ∙ ap layer_counts (sym e ∙ d.answer);
    place = p ∙ ap layer_place (sym e ∙ d.answer);
    words = d.words ∙ ap (λ (l : Result Layer Refusal). work_after (layer_number l) points corners work) e ∙ ap (λ (k : ℕ). work_after k points corners work) (sym n);
  }

  -- the counts are as words what they are
  as-words : (l : Layer) (m n : ℕ) → q ≡ Ok l → m ≡ l.places % 2 ^ 32 → n ≡ l.loops % 2 ^ 32 → m ∷ n ∷ [] ≡ layer_counts q
  as-words l m n f g h =
      let s = small-counts points corners labels work height (length outline) (sym d.answer ∙ e ∙ f) in
      ap₂ (λ (x y : ℕ). x ∷ y ∷ []) (g ∙ small l.places s.0) (h ∙ small l.loops s.1) ∙ ap layer_counts (sym f)
    where
      small : (n : ℕ) → n ≤ 32768 → n % 2 ^ 32 ≡ n
      small n l = omega arith

-- what `outlines` answers, at the height as it is read back from its bits
answered : (c : goal.After-place-1) → LayerCall c.args.points.now c.args.corners.now c.args.labels.now c.args.work.now c.outlines.new.work c.args.height c.args.outline.now c.outlines.new.outline c.outlines.result
answered c =
    subst (λ (z : ℤ). LayerCall c.args.points.now c.args.corners.now c.args.labels.now c.args.work.now c.outlines.new.work z c.args.outline.now c.outlines.new.outline c.outlines.result)
    (to_z-of_z w32 c.args.height c.ranges.height) c.outlines.ensures

pub returns-in-Ok : goal.returns-in-Ok
returns-in-Ok c =
    let d = answered c in
    handed d c.in-Ok.is refl (as-words d c.in-Ok.is _ _ _ refl c.low_word.ensures c.low_word-in-Ok.ensures) refl

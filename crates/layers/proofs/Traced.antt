-- The stages put together: the kinds are noted, the crossed sides counted and the list written, and the words are cleared. Assumes nothing.
use Prim.Native.Nat.{ℕ, ◌+◌, ◌*◌, ◌/◌, ◌≤◌, ◌<◌}
use mathlib.Core.Path.{◌≡◌, refl, sym, ap, ap₂, ◌∙◌, subst}
use mathlib.Core.Logic.{◌⊎◌, inl, inr}
use mathlib.Core.Bool.{Bool, true, false, cond}
use mathlib.Core.List.{List, ◌++◌}
use native.Mathlib.Omega.{arith}
use lib.Dec.{eqb, leb}
use lib.IntN.{ℤ}
use lib.ListN.{length, get_or, set, drop}
use lib.Seq.{get_or-set_same, get_or-set_other}
use lib.Ieee.{Float, nan, lt}
use mir.Val.{bool_byte}
use borrow.Author.Tests.{le-leb, lt-leb}
use Rattle.rounding.specs.Fraction.{Is}
use Rattle.surface.specs.Triangle.{triangles}
use Rattle.surface.specs.Closed.{one}
use Rattle.halfedges.specs.Place.{at}
use Rattle.halfedges.proofs.Turns.{same_or}
use Rattle.closing.specs.Closing.{needed}
use Rattle.questions.specs.Questions.{ask}
use Rattle.std.specs.Prelude.{Ok, Err}
use Rattle.questions.specs.declared.Refusal.TheVariants.{OutlineRoom}
use Rattle.sides.proofs.Whole.{far_of_lem}
use Rattle.outlines.specs.Side.{Side}
use Rattle.outlines.specs.Crossing.{crossings}
use Rattle.outlines.specs.Outline.{Place, place_words}
use Rattle.outlines.specs.Stages.Trace.{kinds-from}
use Rattle.outlines.specs.Stages.Whole.{above_by, Kinded, SidesPrepared, KindsKept, Outlined}
use Rattle.outlines.proofs.Agreeing.{Agree, crossings-same, outlines-same, loops-same}
use Rattle.outlines.proofs.Stepping.{Spot, has-spot}
use Rattle.layers.specs.Layer.{above_layer, layer_crossings, layer_outlines}
use Rattle.layers.specs.Call.{after_questions}
use Rattle.layers.specs.Stages.{KindsNoted, Crossable, LayerTraced}
use Rattle.layers.proofs.Plane.{above_level}

-- ---- the kinds are noted

module _ (points : List Float) (level : Float) (base : ℕ) where
  pub noted-first : (w : List ℕ) → KindsNoted points level base w w 0
  noted-first w = record { kinds = λ v l. absurd (omega arith); far = λ j l. refl }

  pub noted_turn : (w₀ w : List ℕ) (v x : ℕ) → KindsNoted points level base w₀ w v → v < length points / 3 → base + length points / 3 ≤ length w → x ≡ one (lt level (get_or points (3 * v + 2) nan))
      → KindsNoted points level base w₀ (set w (base + v) x) (v + 1)
  noted_turn w₀ w v x h l room e = record {
    kinds = λ u m. kinds u m (same_or u v);
    far = λ j m. get_or-set_other w (base + v) j x 0 (λ d. omega arith) ∙ h.far j m;
  }
    where
      kinds : (u : ℕ) → u < v + 1 → (u ≡ v) ⊎ (u ≡ v → ⊥) → at (set w (base + v) x) (base + u) ≡ one (lt level (get_or points (3 * u + 2) nan))
      kinds u m (inl d) =
          ap (λ (k : ℕ). at (set w (base + v) x) (base + k)) d ∙ get_or-set_same w (base + v) x 0 (omega arith) ∙ e ∙ ap (λ (k : ℕ). one (lt level (get_or points (3 * k + 2) nan))) (sym d)
      kinds u m (inr n) = get_or-set_other w (base + v) (base + u) x 0 (λ d. n (omega arith)) ∙ h.kinds u (omega arith)

-- a test as a word
pub bit_one : (b : Bool) → bool_byte b ≡ one b
bit_one true = refl
bit_one false = refl

-- ---- the stages

at_most_one : (b : Bool) → one b ≤ 1
at_most_one true = omega arith
at_most_one false = omega arith

one-is : (b : Bool) → eqb (one b) 1 ≡ b
one-is true = refl
one-is false = refl

module _ (points : List Float) (c w : List ℕ) (height : ℤ) (given : Crossable points c w height) (level : Float) (is : Is level height 1024) (w₁ : List ℕ) (long₁ : length w₁ ≡ length w) where
  abbrev p : ℕ
  p = length points / 3

  -- where the code has the words for the points
  abbrev base : ℕ
  base = p * 3 + length c * 4

  base_is : base ≡ kinds-from c p
  base_is = omega arith

  module _ (noted : KindsNoted points level base w w₁ p) where
    kind-is : (v : ℕ) → v < p → at w₁ (kinds-from c p + v) ≡ one (above_layer points height v)
    kind-is v l = ap (λ (k : ℕ). at w₁ (k + v)) (sym base_is) ∙ noted.kinds v l ∙ ap one (above_level points height level given.layered.whole is v l)

    pub kinded : Kinded c p w₁
    kinded =
        let l = given.lent in
        record {
          thirds = l.thirds;
          few = l.few;
          points = l.points;
          below = l.below;
          room = omega (arith, l.room, l.thirds);
          closed = given.closed;
          kinds = λ v m. subst (λ (x : ℕ). x ≤ 1) (sym (kind-is v m)) (at_most_one (above_layer points height v));
        }

    module _ (w₂ : List ℕ) (long₂ : length w₂ ≡ length w₁) (kept : KindsKept c p w₁ w₂) where
      agree : Agree (above_by c p w₂) (above_layer points height) (triangles c)
      agree x y z h =
          let s : Spot c x y = has-spot c given.lent.thirds h in
          let l : x < p = subst (λ (v : ℕ). v < p) s.from (given.lent.below s.k s.low) in
          ap (λ (k : ℕ). eqb k 1) (kept.kinds x l ∙ kind-is x l) ∙ one-is (above_layer points height x)

      sides-same : crossings (above_by c p w₂) (triangles c) ≡ layer_crossings points c height
      sides-same = crossings-same (above_by c p w₂) (above_layer points height) (triangles c) agree

      far₂ : (j : ℕ) → needed c p ≤ j → at w₂ j ≡ at w j
      far₂ j l = let t = given.lent.thirds in kept.far j (omega arith) ∙ noted.far j (omega arith)

      module _ (total : ℕ) (prepared : SidesPrepared c p w₂ (length c / 2) total) (list : List ℕ) where
        total-is : total ≡ length (layer_crossings points c height)
        total-is = prepared.total-is ∙ ap length sides-same

        pub refused : length list / 3 < total → LayerTraced points c w w₂ height list list (Err OutlineRoom)
        refused l =
            let test : leb (length (layer_crossings points c height)) (length list / 3) ≡ false = lt-leb (length (layer_crossings points c height)) (length list / 3) (subst (λ (n : ℕ). length list / 3 < n) total-is l) in
            record {
              answer = sym (ap (λ (b : Bool). after_questions points c height (ask b OutlineRoom (Ok tt))) test);
              places = sym (ap (λ (b : Bool). cond b (place_words (layer_outlines points c height) ++ drop (3 * length (layer_crossings points c height)) list) list) test);
              far = far_of_lem (needed c p) w₂ w (long₂ ∙ long₁) far₂;
            }

        pub listed : total ≤ length list / 3 → (w₃ : List ℕ) → length w₃ ≡ length w₂ → (list' : List ℕ) (n : ℕ) → Outlined c p w₂ w₃ list list' n → LayerTraced points c w w₃ height list list' (Ok (record { places = total; loops = n }))
        listed l w₃ long₃ list' n o =
            let test : leb (length (layer_crossings points c height)) (length list / 3) ≡ true = le-leb (length (layer_crossings points c height)) (length list / 3) (subst (λ (n : ℕ). n ≤ length list / 3) total-is l) in
            let ts = triangles c in
            record {
              answer =
                  ap₂ (λ (x y : ℕ). Ok (record { places = x; loops = y })) total-is (o.loop-count ∙ ap length (sym (loops-same (above_by c p w₂) (above_layer points height) ts given.closed agree)))
                  ∙ sym (ap (λ (b : Bool). after_questions points c height (ask b OutlineRoom (Ok tt))) test);
              places =
                  o.list
                  ∙ ap₂ (λ (a : List Place) (s : List Side). place_words a ++ drop (3 * length s) list) (sym (outlines-same (above_by c p w₂) (above_layer points height) ts given.closed agree)) sides-same
                  ∙ sym (ap (λ (b : Bool). cond b (place_words (layer_outlines points c height) ++ drop (3 * length (layer_crossings points c height)) list) list) test);
              far = far_of_lem (needed c p) w₃ w (long₃ ∙ long₂ ∙ long₁) (λ j m. let t = given.lent.thirds in o.kept.far j (omega arith) ∙ far₂ j m);
            }

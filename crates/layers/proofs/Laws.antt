-- The laws of `specs/Laws`: what is proved of outlines for any plane, of the plane at a height. Assumes nothing.
use Prim.Native.Nat.{ℕ, ◌-◌, ◌*◌, ◌/◌, ◌%◌, ◌≤◌}
use mathlib.Core.Path.{◌≡◌, refl, sym, ap, ◌∙◌}
use mathlib.Core.Bool.{Bool}
use mathlib.Core.List.{List, [], ◌∷◌, ◌++◌}
use native.Mathlib.Omega.{arith}
use lib.IntN.{ℤ}
use lib.ListN.{length, replicate, length-append, length-replicate}
use lib.Ieee.{Float}
use Rattle.surface.specs.Triangle.{triangles}
use Rattle.surface.specs.Closed.{Closed}
use Rattle.surface.specs.PageTwelve.{Relisted}
use Rattle.surface.proofs.Flat.{length-triangles}
use borrow.Author.Tests.{le-leb}
use Rattle.questions.specs.Questions.{ask, surface_questions}
use Rattle.std.specs.Prelude.{Ok, Err}
use Rattle.questions.specs.Refusal.{Asked, asked_number}
use Rattle.questions.specs.declared.Refusal.TheVariants.{OutlineRoom}
use Rattle.questions.proofs.Laws.{passed_admitted}
use Rattle.outlines.specs.Outline.{Place, place_words}
use Rattle.outlines.proofs.Closing.{outline-laws}
use Rattle.layers.specs.Layer.{Layered, above_layer, layer_crossings, layer_loops, layer_outlines}
use Rattle.layers.specs.Call.{outline_questions, after_questions, layer_of, layer_number, layer_counts}
use Rattle.layers.specs.Laws.{OutlinesClose, HoldsOutlines, LayerLists, LayerLaws}
use Rattle.layers.proofs.Questions.{by-answers, layered_iff, outlinable, zero-passed}

-- for every closed surface and every height the outlines close
pub outlines-close : OutlinesClose
outlines-close points corners height c = (outline-laws (above_layer points height) (triangles corners) c).close

-- no more sides are crossed than there are triangles
crossed-few : (points : List Float) (corners : List ℕ) (height : ℤ) → Closed (triangles corners) → length corners % 3 ≡ 0 → length (layer_crossings points corners height) ≤ length corners / 3
crossed-few points corners height c h = let l = outline-laws (above_layer points height) (triangles corners) c in omega (arith, l.few, length-triangles (length corners / 3) corners (omega arith))

enough : (points : List Float) (corners labels work : List ℕ) (height : ℤ) (words : ℕ) → surface_questions points corners labels work ≡ Ok tt → Layered points height → length corners ≤ words
    → outline_questions points corners labels work height words ≡ Ok tt
enough points corners labels work height words e l h =
    let a = passed_admitted points corners labels work e in
    let few = crossed-few points corners height a.closed a.corners_in_threes in
    by-answers points corners labels work height words e ((layered_iff points height).1 l)
    ∙ ap (λ (b : Bool). ask b OutlineRoom (Ok tt)) (le-leb (length (layer_crossings points corners height)) (words / 3) (omega arith))

-- as many words are 0 behind the same places
same-words : (ps : List Place) (m n : ℕ) (a b : List ℕ) → a ≡ place_words ps ++ replicate m 0 → b ≡ place_words ps ++ replicate n 0 → length a ≡ length b → a ≡ b
same-words ps m n a b e f l =
    let p = ap length e ∙ length-append (place_words ps) (replicate m 0) in
    let q = ap length f ∙ length-append (place_words ps) (replicate n 0) in
    let same : m ≡ n = omega (arith, p, q, length-replicate {A = ℕ} m 0, length-replicate {A = ℕ} n 0) in
    e ∙ ap (λ (k : ℕ). place_words ps ++ replicate k 0) same ∙ sym f

module _ (Says : List Float → List ℕ → ℤ → List ℕ → Type 0) (lists : (points : List Float) (corners : List ℕ) (height : ℤ) (list : List ℕ) → Says points corners height list → LayerLists points corners height list) where
  closed : (points : List Float) (corners : List ℕ) (height : ℤ) (list : List ℕ) → Says points corners height list → Closed (triangles corners)
  closed points corners height list s = let l = lists points corners height list s in (outlinable points corners l.labels l.work height (length l.list) l.passed).surface.closed

  -- how many words are behind the places
  abbrev behind : (points : List Float) (corners : List ℕ) (height : ℤ) (list : List ℕ) → Says points corners height list → ℕ
  behind points corners height list s = length (lists points corners height list s).list - 3 * length (layer_crossings points corners height)

  holds : (points : List Float) (corners : List ℕ) (height : ℤ) (list : List ℕ) → Says points corners height list → HoldsOutlines points corners height list
  holds points corners height list s = record {
    places = layer_outlines points corners height;
    request = (outline-laws (above_layer points height) (triangles corners) (closed points corners height list s)).all;
    behind = behind points corners height list s;
    written = (lists points corners height list s).places;
  }

  only : (points : List Float) (corners : List ℕ) (height : ℤ) (list other : List ℕ) → Says points corners height list → length other ≡ length list → HoldsOutlines points corners height other → other ≡ list
  only points corners height list other s l h =
      let same = (outline-laws (above_layer points height) (triangles corners) (closed points corners height list s)).only h.places h.request in
      same-words (layer_outlines points corners height) h.behind (behind points corners height list s) other list (h.written ∙ ap (λ (ps : List Place). place_words ps ++ replicate h.behind 0) same) (lists points corners height list s).places l

  relisted : (points : List Float) (corners corners' : List ℕ) (height : ℤ) (list list' : List ℕ) → Relisted (triangles corners) (triangles corners') → Says points corners height list → Says points corners' height list'
      → length list' ≡ length list → list' ≡ list
  relisted points corners corners' height list list' r s s' l =
      let same = (outline-laws (above_layer points height) (triangles corners) (closed points corners height list s)).relisted (triangles corners') r in
      same-words (layer_outlines points corners height) (behind points corners' height list' s') (behind points corners height list s) list' list
      ((lists points corners' height list' s').places ∙ ap (λ (ps : List Place). place_words ps ++ replicate (behind points corners' height list' s') 0) same) (lists points corners height list s).places l

  pub layer_laws_of : LayerLaws Says
  layer_laws_of = record {
    closed = closed;
    holds = holds;
    only = only;
    close = λ points corners height list s. outlines-close points corners height (closed points corners height list s);
    relisted = relisted;
    enough = enough;
  }

pub layer_laws : LayerLaws LayerLists
layer_laws = layer_laws_of LayerLists (λ points corners height list l. l)

-- ---- an answer that is listed

module _ (points : List Float) (corners labels work : List ℕ) (height : ℤ) (room : ℕ) where
  -- 0 is the number of no refusal
  pub zero-listed : layer_number (layer_of points corners labels work height room) ≡ 0 → outline_questions points corners labels work height room ≡ Ok tt
  zero-listed z = zero-passed points corners labels work height room (go (outline_questions points corners labels work height room) z)
    where
      go : (q : Asked) → layer_number (after_questions points corners height q) ≡ 0 → asked_number q ≡ 0
      go (Ok x) f = refl
      go (Err why) f = f

  -- no more places are filled than there are triangles, and no more loops
  pub small-counts : {places loops : ℕ} → layer_of points corners labels work height room ≡ Ok (record { places = places; loops = loops }) → (places ≤ 32768) × (loops ≤ 32768)
  small-counts {places} {loops} e =
      let p = zero-listed (ap layer_number e) in
      let a = (outlinable points corners labels work height room p).surface in
      let few = crossed-few points corners height a.closed a.corners_in_threes in
      let fewer = (outline-laws (above_layer points height) (triangles corners) a.closed).fewer in
      let f : layer_counts (Ok (record { places = places; loops = loops })) ≡ layer_counts (after_questions points corners height (Ok tt)) = ap layer_counts (sym e ∙ ap (after_questions points corners height) p) in
      let x : places ≡ length (layer_crossings points corners height) = ap first f in
      let y : loops ≡ length (layer_loops points corners height) = ap second f in
      (omega (arith, a.few-triangles), omega (arith, a.few-triangles))
    where
      first : List ℕ → ℕ
      first [] = 0
      first (x ∷ l) = x

      second : List ℕ → ℕ
      second [] = 0
      second (x ∷ l) = first l

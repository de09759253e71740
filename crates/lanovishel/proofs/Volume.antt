-- A call that answers 0 reports the volume of an accepted surface: the laws of `volume` hold of it.
use mathlib.Core.Path.{◌≡◌, refl, sym, ap, ap₂, ◌∙◌}
use mathlib.Core.List.{List, [], ◌∷◌}
use Prim.Native.Nat.{ℕ}
use lib.Ieee.{Float}
use Rattle.checking.specs.Verdict as verdict
use Rattle.checking.specs.Verdict.{Verdict, number_of, quality_of, volume_of}
use Rattle.std.specs.Prelude.{Ok, Err}
use Rattle.checking.specs.Validate.{validated}
use Rattle.checking.proofs.Laws.{refused-some}
use Rattle.volume.specs.Volume.{Reports, ReportLaws}
use Rattle.volume.proofs.Volume.{report_laws_of}
use Rattle.lanovishel.specs.Volume.{Answered}

module _ (points : List Float) (corners labels work : List ℕ) where
  pub accepted : (quality volume : Float) → 0 ≡ number_of (validated points corners labels work)
      → quality ∷ volume ∷ [] ≡ quality_of (validated points corners labels work) ∷ volume_of (validated points corners labels work) ∷ []
      → validated points corners labels work ≡ verdict.accepted quality volume
  accepted quality volume z e = go (validated points corners labels work) refl
    where
      go : (v : Verdict) → validated points corners labels work ≡ v → validated points corners labels work ≡ verdict.accepted quality volume
      go (Ok m) p =
          let f : quality ∷ volume ∷ [] ≡ m.quality ∷ m.volume ∷ [] = e ∙ ap (λ (v : Verdict). quality_of v ∷ volume_of v ∷ []) p in
          let first : quality ≡ m.quality = cc in
          let second : volume ≡ m.volume = cc in
          p ∙ ap₂ verdict.accepted (sym first) (sym second)
      go (Err why) p = absurd (refused-some points corners labels work why p (sym (z ∙ ap number_of p)))

reports : (points : List Float) (corners : List ℕ) (volume : Float) → Answered points corners volume → Reports points corners volume
reports points corners volume a = record {
  labels = a.labels;
  work = a.work;
  quality = a.quality;
  accepted = accepted points corners a.labels a.work a.quality volume a.call.answer a.call.values;
  some = a.some;
  units = a.units;
}

pub call-laws : ReportLaws Answered
call-laws = report_laws_of Answered reports

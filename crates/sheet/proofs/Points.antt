-- A point's line, coordinate by coordinate. Assumes nothing.
use mathlib.Core.Path.{◌≡◌, sym, ap, ◌∙◌}
use mathlib.Core.List.{List, ◌++◌}
use Prim.Native.Nat.{ℕ, ◌+◌, ◌*◌}
use native.Mathlib.Omega.{arith}
use lib.IntN.{ℤ}
use lib.ListN.{drop, set}
use Rattle.sheet.specs.Text.{integer}
use Rattle.sheet.specs.Sheet.{Point}
use Rattle.sheet.specs.Stages.{coordinate_is, point_is, ended}
use Rattle.std.specs.Prelude.{Option, Some, None}
use Rattle.sheet.proofs.Integers.{integer_unique}
use Rattle.sheet.proofs.Lines.{point-fields}

module _ (T : List ℕ) (at most k : ℕ) (l l₁ : List ℤ) where
  pub no_first : coordinate_is T at most 32 (k * 3) l l₁ None → point_is T at most k l l₁ None
  no_first w p h r q = w p.x h.x _ (q ∙ point-fields p r)

  module _ (i : ℕ) (f : coordinate_is T at most 32 (k * 3) l l₁ (Some i)) (l₂ : List ℤ) where
    after_first : (p : Point) (r : List ℕ) → drop at T ≡ ended (integer p.x) 32 ++ (ended (integer p.y) 32 ++ (ended (integer p.z) 10 ++ r)) → drop i T ≡ ended (integer p.y) 32 ++ (ended (integer p.z) 10 ++ r)
    after_first p r q = (integer_unique _ p.x 32 _ _ (omega arith) (sym f.2 ∙ q)).1

    pub no_second : coordinate_is T i most 32 (k * 3 + 1) l₁ l₂ None → point_is T at most k l l₂ None
    no_second w p h r q = w p.y h.y _ (after_first p r (q ∙ point-fields p r))

    module _ (j : ℕ) (g : coordinate_is T i most 32 (k * 3 + 1) l₁ l₂ (Some j)) (l₃ : List ℤ) where
      no_third : coordinate_is T j most 10 (k * 3 + 2) l₂ l₃ None → point_is T at most k l l₃ None
      no_third w p h r q = w p.z h.z _ (integer_unique _ p.y 32 _ _ (omega arith) (sym g.2 ∙ after_first p r (q ∙ point-fields p r))).1

      all_three : (next : ℕ) → coordinate_is T j most 10 (k * 3 + 2) l₂ l₃ (Some next) → point_is T at most k l l₃ (Some next)
      all_three next h =
          let p : Point = record { x = f.0; y = g.0; z = h.0 } in (
            p,
            record { x = f.1; y = g.1; z = h.1 },
            f.2
                ∙ ap (λ (t : List ℕ). ended (integer f.0) 32 ++ t) (g.2 ∙ ap (λ (t : List ℕ). ended (integer g.0) 32 ++ t) h.2)
                ∙ sym (point-fields p (drop next T)),
            h.3 ∙ ap (λ (t : List ℤ). set t (k * 3 + 2) h.0) (g.3 ∙ ap (λ (t : List ℤ). set t (k * 3 + 1) g.0) f.3),
          )

      pub third : (r : Option ℕ) → coordinate_is T j most 10 (k * 3 + 2) l₂ l₃ r → point_is T at most k l l₃ r
      third None h = no_third h
      third (Some next) h = all_three next h

-- How a search ends: by induction on the rounds that are left, a bracket keeps its ends in 0..1 and their residuals on different sides of the level. Assumes nothing.
use mathlib.Core.Path.{◌≡◌, refl, sym, ap, subst}
use mathlib.Core.Logic.{◌⊎◌, inl, inr}
use mathlib.Core.Bool.{Bool, true, false, not}
use Prim.Native.Nat.{ℕ, zero, suc, ◌+◌, ◌^◌, ◌≤◌, zero-le}
use native.Mathlib.Nat.{le_refl, le_trans}
use native.Mathlib.Omega.{arith}
use lib.Ieee.{Float, le}
use Rattle.float.specs.Order.{is_finite}
use Rattle.field.specs.Number.{plus_zero, one}
use Rattle.lattice.specs.Values.{magnitude}
use Rattle.solve.specs.declared.bracket.Bracket.{Bracket}
use Rattle.solve.specs.declared.Cut.TheVariants.{At}
use Rattle.solve.specs.Solve.{same_sign, midway, parameter, narrowed, ending, from_round, first_bracket}
use Rattle.solve.specs.Laws.{LiesIn, Straddles, SearchEnds}
use Rattle.solve.proofs.Turns.{low_moves, high_moves, turn}
use Rattle.solve.proofs.Residuals.{minus?, same_sign_lem, other_sign, Nonzero, opposite, not_zero}
use Rattle.solve.proofs.Inside.{Share, Found, share_le, midway-found, parameter-found, zero_share, one_share}

module _ (residual : Float → Float) (limit va vb : Float) where
  -- what a bracket keeps from round to round
  pub record Keeps (k : Bracket) : Type 0 where
    pub a : ℕ
    pub b : ℕ
    pub lo : Share k.lo a
    pub hi : Share k.hi b
    pub rising : a ≤ b
    pub top : b ≤ 2 ^ 1074
    pub flo : ((k.lo ≡ plus_zero) × (k.flo ≡ va)) ⊎ (k.flo ≡ residual k.lo)
    pub fhi : ((k.hi ≡ one) × (k.fhi ≡ vb)) ⊎ (k.fhi ≡ residual k.hi)
    pub flo-some : Nonzero k.flo
    pub fhi-some : Nonzero k.fhi
    pub flo-sign : minus? k.flo ≡ minus? va
    pub fhi-sign : minus? k.fhi ≡ not (minus? va)

  straddles : (k : Bracket) → Keeps k → Straddles residual va vb k
  straddles k h = record {
    lo = record { from = share_le zero_share h.lo zero-le; to = share_le h.lo h.hi h.rising };
    hi = record { from = share_le h.lo h.hi h.rising; to = share_le h.hi one_share h.top };
    flo = h.flo;
    fhi = h.fhi;
    opposite = opposite k.flo k.fhi (minus? va) h.flo-some h.fhi-some h.flo-sign h.fhi-sign;
  }

  -- a parameter of a bracket lies in 0..1
  inside : (k : Bracket) (h : Keeps k) (t : Float) → Found t h.a h.b → LiesIn plus_zero one t
  inside k h t g = record { from = share_le zero_share g.share zero-le; to = share_le g.share one_share (le_trans g.to h.top) }

  -- one round
  narrows : (k : Bracket) (h : Keeps k) (t v : Float) → is_finite va ≡ true → Found t h.a h.b → v ≡ residual t → Nonzero v → Keeps (narrowed k va t v)
  narrows k h t v fa g e n = go (same_sign v va) refl
    where
      go : (i : Bool) → same_sign v va ≡ i → Keeps (narrowed k va t v)
      go true p = subst Keeps (low_moves k va t v p) (record {
        a = g.c;
        b = h.b;
        lo = g.share;
        hi = h.hi;
        rising = g.to;
        top = h.top;
        flo = inr e;
        fhi = h.fhi;
        flo-some = n;
        fhi-some = h.fhi-some;
        flo-sign = same_sign_lem v va n.finite fa p;
        fhi-sign = h.fhi-sign;
      })
      go false p = subst Keeps (high_moves k va t v p) (record {
        a = h.a;
        b = g.c;
        lo = h.lo;
        hi = g.share;
        rising = g.from;
        top = le_trans g.to h.top;
        flo = h.flo;
        fhi = inr e;
        flo-some = h.flo-some;
        fhi-some = n;
        flo-sign = h.flo-sign;
        fhi-sign = (other_sign v va n.finite fa p).0;
      })

  pub rounds_end : minus? limit ≡ false → is_finite va ≡ true → (left round : ℕ) (k : Bracket) → left + round ≡ 52 → Keeps k → SearchEnds residual limit va vb (from_round residual limit va left round k)
  unfolding from_round
  rounds_end s fa zero round k e h =
      let g = midway-found k h.a h.b h.lo h.hi h.rising h.top in
      inr (inl (record {
        k = k;
        straddles = straddles k h;
        between = record { from = share_le h.lo g.share g.from; to = share_le g.share h.hi g.to };
        inside = inside k h (midway k) g;
        is = ap (ending (At (midway k))) (last round e);
      }))
    where
      last : (n : ℕ) → 0 + n ≡ 52 → n ≡ 52
      last n e = omega arith
  rounds_end s fa (suc left) round k e h =
      go (λ (j : Bracket) (w : Keeps j). rounds_end s fa left (round + 1) j (next e) w) (is_finite v) refl (le (magnitude v) limit) refl
    where
      t : Float
      t = parameter round k

      v : Float
      v = residual t

      g : Found t h.a h.b
      g = parameter-found round k h.a h.b h.lo h.hi h.rising h.top

      few : suc left + round ≡ 52 → round + 1 ≤ 52
      few e = omega arith

      next : suc left + round ≡ 52 → left + (round + 1) ≡ 52
      next e = omega arith

      go : ((j : Bracket) → Keeps j → SearchEnds residual limit va vb (from_round residual limit va left (round + 1) j))
          → (f : Bool) → is_finite v ≡ f → (m : Bool) → le (magnitude v) limit ≡ m → SearchEnds residual limit va vb (from_round residual limit va (suc left) round k)
      go again false p m q = inr (inr (record { t = t; inside = inside k h t g; fails = p; taken = round + 1; few = few e; is = turn residual limit va left round k false m p q }))
      go again true p true q = inl (record { t = t; inside = inside k h t g; meets = q; taken = round + 1; few = few e; is = turn residual limit va left round k true true p q })
      go again true p false q =
          subst (SearchEnds residual limit va vb) (sym (turn residual limit va left round k true false p q)) (again (narrowed k va t v) (narrows k h t v fa g refl (not_zero v limit p s q)))

  pub begins : Nonzero va → Nonzero vb → same_sign va vb ≡ false → Keeps (first_bracket va vb)
  begins p q e = record {
    a = 0;
    b = 2 ^ 1074;
    lo = zero_share;
    hi = one_share;
    rising = zero-le;
    top = le_refl (2 ^ 1074);
    flo = inl (refl, refl);
    fhi = inl (refl, refl);
    flo-some = p;
    fhi-some = q;
    flo-sign = refl;
    fhi-sign = (other_sign va vb p.finite q.finite e).1;
  }

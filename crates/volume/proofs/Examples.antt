-- A corner of the unit cube is an accepted surface on whole units, and so it is listed anew, with another point as the first: the laws of `specs/Volume` apply to both. Its sixfold volume is 2 ^ 30 from each of its points. By computation.
use Prim.Native.Nat.{ℕ, zero, suc, ◌<◌}
use mathlib.Core.Path.{◌≡◌, refl}
use mathlib.Core.Bool.{Bool, true, false, false≢true}
use mathlib.Core.List.Permᴰ
use mathlib.Core.List.{List, [], ◌∷◌}
use native.Mathlib.Omega.{arith}
use lib.Dec.{lit≤, lit<}
use lib.IntN.{pos}
use lib.ListN.{length, get_or, replicate}
use lib.Ieee.{Float, fin, of_int, round, units, odd, size, climb, span, add, sub, mul, div, lt, le, is_nan}
use Rattle.float.specs.Root.{root}
use Rattle.float.specs.Order.{is_finite, lesser}
use Rattle.surface.specs.Triangle.{triangles}
use Rattle.surface.specs.Renumber.{renumbered}
use Rattle.surface.specs.PageTwelve.{first, second, none, more}
use Rattle.surface.specs.Closed.{sides, around}
use Rattle.surface.specs.Check.{every, closed?, leftover, unused, next as leads, others}
use Rattle.surface.specs.Finding.{bound, smallest_below, finding}
use Rattle.quality.specs.Quality.{rated, wedge}
use Rattle.questions.specs.Questions.{needed, lent_questions}
use Rattle.checking.specs.Validate.{next, measured, examined, validated}
use Rattle.checking.specs.Verdict.{quality_of, volume_of, Verdict, accepted}
use Rattle.units.specs.Units.{OnUnits, AllOnUnits, units_at}
use Rattle.volume.specs.Six.{six}
use Rattle.volume.specs.Error.{NearEachOther}
use Rattle.volume.specs.Volume.{Reports, ListedAnew, six_of}
use Rattle.volume.proofs.Reported.{is-sound}
use Rattle.volume.proofs.Volume.{report_laws}
use Rattle.std.specs.Prelude.{Ok, Err}

abbrev o : Float
o = fin false 0 (pos 0)

abbrev e : Float
e = fin false 1 (pos 0)

-- (0, 0, 0), (1, 0, 0), (0, 1, 0), (0, 0, 1)
abbrev pub points : List Float
points = o ∷ o ∷ o ∷ e ∷ o ∷ o ∷ o ∷ e ∷ o ∷ o ∷ o ∷ e ∷ []

abbrev pub corners : List ℕ
corners = 0 ∷ 2 ∷ 1 ∷ 0 ∷ 1 ∷ 3 ∷ 0 ∷ 3 ∷ 2 ∷ 1 ∷ 2 ∷ 3 ∷ []

-- the first two points change places, and the first triangle's turn begins one corner later
abbrev points' : List Float
points' = e ∷ o ∷ o ∷ o ∷ o ∷ o ∷ o ∷ e ∷ o ∷ o ∷ o ∷ e ∷ []

abbrev corners' : List ℕ
corners' = 2 ∷ 0 ∷ 1 ∷ 1 ∷ 0 ∷ 3 ∷ 1 ∷ 3 ∷ 2 ∷ 0 ∷ 2 ∷ 3 ∷ []

abbrev swapped : ℕ → ℕ
swapped zero = 1
swapped (suc zero) = 0
swapped (suc (suc i)) = suc (suc i)

-- ---- they are on whole units

zero-on : OnUnits o
zero-on = record { whole = record { sign = false; size = 0; value = (refl, refl); same = refl }; range = lit≤ tt }

one_on : OnUnits e
one_on = record { whole = record { sign = false; size = 1024; value = (refl, refl); same = refl }; range = lit≤ tt }

abbrev Each : List Float → Type 0
Each [] = Unit {0}
Each (x ∷ l) = (OnUnits x) × (Each l)

each_on : (l : List Float) → Each l → AllOnUnits l
each_on [] h i k = absurd (omega arith)
each_on (x ∷ l) h zero k = h.0
each_on (x ∷ l) h (suc i) k = each_on l h.1 i (omega arith)

on-units : AllOnUnits points
on-units = let z = zero-on in let f = one_on in each_on points (z, (z, (z, (f, (z, (z, (z, (f, (z, (z, (z, (f, tt))))))))))))

on_units' : AllOnUnits points'
on_units' = let z = zero-on in let f = one_on in each_on points' (f, (z, (z, (z, (z, (z, (z, (f, (z, (z, (z, (f, tt))))))))))))

-- ---- they are accepted

abbrev verdict : List Float → List ℕ → Verdict
verdict ps cs = validated ps cs (replicate 4 0) (replicate (needed ps cs) 0)

abbrev accepted? : Verdict → Bool
accepted? (Ok m) = true
accepted? (Err why) = false

by_test : (v : Verdict) → accepted? v ≡ true → v ≡ accepted (quality_of v) (volume_of v)
by_test (Ok m) h = refl
by_test (Err why) h = absurd (false≢true h)

is-accepted : accepted? (verdict points corners) ≡ true
unfolding of_int round units odd size climb span add sub mul div lt le is_nan root is_finite lesser triangles sides around closed? every leftover unused leads others bound smallest_below finding lent_questions rated wedge next measured examined validated
is-accepted = refl

is_accepted' : accepted? (verdict points' corners') ≡ true
unfolding of_int round units odd size climb span add sub mul div lt le is_nan root is_finite lesser triangles sides around closed? every leftover unused leads others bound smallest_below finding lent_questions rated wedge next measured examined validated
is_accepted' = refl

reports : (ps : List Float) (cs : List ℕ) → accepted? (verdict ps cs) ≡ true → 0 < length cs → AllOnUnits ps → Reports ps cs (volume_of (verdict ps cs))
reports ps cs a s u = record { labels = replicate 4 0; work = replicate (needed ps cs) 0; quality = quality_of (verdict ps cs); accepted = by_test (verdict ps cs) a; some = s; units = u }

pub cube-corner : Reports points corners (volume_of (verdict points corners))
cube-corner = reports points corners is-accepted (lit< tt) on-units

pub cube_corner' : Reports points' corners' (volume_of (verdict points' corners'))
cube_corner' = reports points' corners' is_accepted' (lit< tt) on_units'

-- ---- one is the other, listed anew

where_it_lay : (i : ℕ) → i < 4 → units_at points' (swapped i) ≡ units_at points i
where_it_lay zero l = refl
where_it_lay (suc zero) l = refl
where_it_lay (suc (suc zero)) l = refl
where_it_lay (suc (suc (suc zero))) l = refl
where_it_lay (suc (suc (suc (suc i)))) l = absurd (omega arith)

pub cube-corner_anew : ListedAnew points corners points' corners'
unfolding triangles
cube-corner_anew = record {
  number = swapped;
  kept = λ k l. where_it_lay (get_or corners k 0) ((is-sound cube-corner).below k l);
  listed = record { order = renumbered swapped (triangles corners); same = Permᴰ.refl _; turns = more second (more first (more first (more first none))) };
}

pub cube-corner-alike : NearEachOther 4 (volume_of (verdict points corners)) (volume_of (verdict points' corners'))
unfolding triangles
cube-corner-alike = report_laws.relisted-near cube-corner cube_corner' cube-corner_anew

-- ---- its volume

pub cube-corner-six : (at : ℕ) → at < 4 → six_of points corners (units_at points at) ≡ pos 1073741824
unfolding six triangles
cube-corner-six zero l = refl
cube-corner-six (suc zero) l = refl
cube-corner-six (suc (suc zero)) l = refl
cube-corner-six (suc (suc (suc zero))) l = refl
cube-corner-six (suc (suc (suc (suc at)))) l = absurd (omega arith)

-- `improve`, with the 2 of its closing `smooth_impl` set to 0: `smooth_impl` without iterations changes nothing and gives Err for a mesh that it finds invalid, first of all and at the end of every round. Definitions only.
use Rattle.std.specs.Prelude.{ℕ, zero, suc, ◌+◌, Bool, true, not, ◌&&◌, ◌||◌, cond, eqb, leb, ltb, length}
use Rattle.std.specs.Int.Bits.{bit_and}
use Rattle.float.specs.Order.{is_finite}
use Rattle.surface.specs.Triangle.{Tri}
use Rattle.surface.specs.Check.{every}
use Rattle.history.specs.History.{Pair}
use Rattle.oracle.specs.Round.{Mesh, Sheet, Result, count}
use Rattle.original.specs.Maps.{mask_from, mask}
use Rattle.original.specs.Flip.{Outcome, failed, done, then}
use Rattle.original.specs.Round.{round}

-- a face as `smooth_impl` wants it: its corners are below the number of points, and differ
abbrev pub good_face : ℕ → Tri → Bool
good_face n f = (ltb f.a n && (ltb f.b n && ltb f.c n)) && (not (eqb f.a f.b) && (not (eqb f.b f.c) && not (eqb f.a f.c)))

-- a mask with opposed labels: m & 3 == 3 || m & 12 == 12 || m & 48 == 48 || m & 192 == 192
abbrev pub conflict : ℕ → Bool
conflict m = eqb (bit_and m 3) 3 || (eqb (bit_and m 12) 12 || (eqb (bit_and m 48) 48 || eqb (bit_and m 192) 192))

-- no corner below n has such a mask
unfoldable pub compatible : Pair → ℕ → Bool
unfolding mask_from
compatible p zero = true
compatible p (suc n) = not (conflict (mask p.tris p.labels n)) && compatible p n

-- `smooth_impl(mesh, band, 0, true)` gives no Err
unfoldable pub valid : Mesh → Bool
unfolding every is_finite compatible
valid m =
    eqb (length m.pair.tris) (length m.pair.labels)
    && (every (λ (l : ℕ). leb l 7) m.pair.labels && (every is_finite m.points && (every (good_face (count m)) m.pair.tris && compatible m.pair (count m))))

-- n turns of the loop, each with `smooth_impl` at its end; the edits are added
unfoldable pub judged : Sheet → ℕ → Mesh → Outcome Result
unfolding round then valid
judged f zero m = done (record { mesh = m; flips = 0 })
judged f (suc n) m = then (round f m) (λ (r : Result). cond (valid r.mesh) (then (judged f n r.mesh) (λ (s : Result). done (record { mesh = s.mesh; flips = r.flips + s.flips }))) failed)

-- THE function
unfoldable pub improve : Sheet → ℕ → Mesh → Outcome Result
unfolding valid judged
improve f n m = cond (valid m) (judged f n m) failed

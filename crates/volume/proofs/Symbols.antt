-- The definitions of `specs/Six` once more, as expressions: a point has three variables in turn for its coordinates. Definitions only, for identities of points.
use Prim.Native.Nat.{ℕ, suc}
use Rattle.integers.proofs.Polynomial.{Expression, at, plus, minus, times}

pub record Symbol : Type 0 where
  pub x : Expression
  pub y : Expression
  pub z : Expression

abbrev pub symbol : ℕ → Symbol
symbol i = record { x = at i; y = at (suc i); z = at (suc (suc i)) }

abbrev pub fromₑ : Symbol → Symbol → Symbol
fromₑ o p = record { x = minus p.x o.x; y = minus p.y o.y; z = minus p.z o.z }

abbrev pub crossₑ : Symbol → Symbol → Symbol
crossₑ p q = record {
  x = minus (times p.y q.z) (times p.z q.y);
  y = minus (times p.z q.x) (times p.x q.z);
  z = minus (times p.x q.y) (times p.y q.x);
}

abbrev pub dotₑ : Symbol → Symbol → Expression
dotₑ p q = plus (plus (times p.x q.x) (times p.y q.y)) (times p.z q.z)

abbrev pub determinantₑ : Symbol → Symbol → Symbol → Expression
determinantₑ a b c = dotₑ a (crossₑ b c)

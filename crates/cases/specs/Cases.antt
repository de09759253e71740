-- Every starred case comes out as document 01 and F-1 say: one theorem over the table, by computation.
use Rattle.std.specs.Prelude.{◌≡◌, refl, true}
use Rattle.std.specs.Float.Ieee.{of_int, round, units, odd, size, climb, span, add, sub, mul, div, lt, le, is_nan, to_bits, of_bits}
use Rattle.float.specs.Root.{root}
use Rattle.float.specs.Order.{is_finite, lesser}
use Rattle.surface.specs.Triangle.{triangles, corners}
use Rattle.surface.specs.Edit.{first, hinge, flip, collapse, without}
use Rattle.surface.specs.Closed.{sides, around}
use Rattle.surface.specs.Check.{closed?, every, leftover, unused, next as leads, others}
use Rattle.surface.specs.Finding.{bound, smallest_below, finding}
use Rattle.surface.specs.Label.{carries}
use Rattle.questions.specs.Rules.{distinct?}
use Rattle.questions.specs.Questions.{lent_questions, further_questions, surface_questions}
use Rattle.quality.specs.Quality.{rated, wedge}
use Rattle.checking.specs.Validate.{next as measure, measured, examined, validated}
use Rattle.history.specs.History.{verdict, next, after, verdicts}
use Rattle.history.specs.Lists.{entries}
use Rattle.cases.specs.Table.{same, right, at, octahedron, pillow, table}

pub cases : every right table ≡ true
unfolding every right table same at octahedron pillow of_int round units odd size climb span add sub mul div lt le is_nan to_bits of_bits root is_finite lesser triangles corners first hinge flip collapse without sides around closed? leftover unused leads others bound smallest_below finding distinct? carries lent_questions further_questions surface_questions rated wedge measure measured examined validated verdict next after verdicts entries
cases = refl

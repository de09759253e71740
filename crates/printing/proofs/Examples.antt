-- What is printed of document 01's sheet, of it with its last triangle left out, of the sheet without points, and of texts that are no sheet. By computation.
use mathlib.Core.Path.{◌≡◌, refl}
use mathlib.Core.List.{[]}
use lib.Ieee.{of_int, round, units, odd, size, climb, span, add, sub, mul, div, lt, le, is_nan, to_bits}
use Rattle.float.specs.Root.{root}
use Rattle.float.specs.Order.{is_finite, lesser}
use Rattle.surface.specs.Triangle.{triangles}
use Rattle.surface.specs.Closed.{sides, around}
use Rattle.surface.specs.Check.{closed?, every, leftover, unused, next as leads, others}
use Rattle.surface.specs.Finding.{bound, smallest_below, finding}
use Rattle.questions.specs.Questions.{lent_questions}
use Rattle.quality.specs.Quality.{rated, wedge}
use Rattle.checking.specs.Validate.{next as measure, measured, examined, validated}
use Rattle.sheet.specs.Text.{bytes, digits, decimal, integer}
use Rattle.sheet.specs.Sheet.{text_after}
use Rattle.sheet.specs.Contents.{contents}
use Rattle.printing.specs.Printed.{printed_text}

accepted : printed_text (bytes "points triangles\n4 4\nx y z\n0 0 0\n1024 0 0\n0 1024 0\n0 0 1024\na b c label\n0 2 1 0\n0 1 3 0\n0 3 2 0\n1 2 3 0\n")
    ≡ bytes "verdict quality volume\n0 3febb67ae8584caa 3fc5555555555555\n"
unfolding printed_text contents text_after integer decimal digits every of_int round units odd size climb span add sub mul div lt le is_nan to_bits root is_finite lesser triangles sides around closed? leftover unused leads others bound smallest_below finding lent_questions rated wedge measure measured examined validated
accepted = refl

-- the side from 1 to 3 lacks its reverse
lone : printed_text (bytes "points triangles\n4 3\nx y z\n0 0 0\n1024 0 0\n0 1024 0\n0 0 1024\na b c label\n0 2 1 0\n0 1 3 0\n0 3 2 0\n")
    ≡ bytes "verdict quality volume\n32 0000000000000000 0000000000000000\n"
unfolding printed_text contents text_after integer decimal digits every of_int round units odd size climb span add sub mul div lt le is_nan to_bits root is_finite lesser triangles sides around closed? leftover unused leads others bound smallest_below finding lent_questions rated wedge measure measured examined validated
lone = refl

none : printed_text (bytes "points triangles\n0 0\nx y z\na b c label\n") ≡ bytes "verdict quality volume\n0 0000000000000000 0000000000000000\n"
unfolding printed_text contents text_after decimal digits every of_int round units odd size climb span to_bits lent_questions measured examined validated
none = refl

-- a 4 with a zero before it
malformed : printed_text (bytes "points triangles\n4 04\nx y z\n0 0 0\n1024 0 0\n0 1024 0\n0 0 1024\na b c label\n0 2 1 0\n0 1 3 0\n0 3 2 0\n1 2 3 0\n")
    ≡ bytes "verdict quality volume\n16 0000000000000000 0000000000000000\n"
unfolding printed_text contents text_after integer decimal digits every of_int round units odd size climb span to_bits
malformed = refl

empty : printed_text [] ≡ bytes "verdict quality volume\n16 0000000000000000 0000000000000000\n"
unfolding printed_text contents text_after decimal digits every of_int round units odd size climb span to_bits
empty = refl

-- `questions::first_three` meets its contract: each way out is a question's number.
use native.Mathlib.Omega.{arith}
use mathlib.Core.Path.{refl, sym}
use borrow.Author.Rules.{rules}
use Rattle.questions.proofs.Counted.{no_points, no_corners, no_labels, many-points, many-triangles, no_room, asked_finite}
use Rattle.questions.proofs.first_three.Goals as goal

pub returns-then-points-ne0 : goal.returns-then-points-ne0
returns-then-points-ne0 c = record { answer = sym (no_points _ _ _ _ c.if-points-ne0.true); early = omega arith }

pub returns-then-corners-ne0 : goal.returns-then-corners-ne0
returns-then-corners-ne0 c = record { answer = sym (no_corners _ _ _ _ (search rules) c.if-corners-ne0.true); early = omega arith }

pub returns-then-labels-corners : goal.returns-then-labels-corners
returns-then-labels-corners c = record { answer = sym (no_labels _ _ _ _ (search rules) (search rules) c.if-labels-corners.true); early = omega arith }

pub returns-then-points-gt32768 : goal.returns-then-points-gt32768
returns-then-points-gt32768 c = record { answer = sym (many-points _ _ _ _ (search rules) (search rules) (search rules) (search rules)); early = omega arith }

pub returns-then-corners-gt32768 : goal.returns-then-corners-gt32768
returns-then-corners-gt32768 c = record { answer = sym (many-triangles _ _ _ _ (search rules) (search rules) (search rules) (search rules) (search rules)); early = omega arith }

pub returns-then-work-corners : goal.returns-then-work-corners
returns-then-work-corners c = record { answer = sym (no_room _ _ _ _ (search rules) (search rules) (search rules) (search rules) (search rules) (search rules)); early = omega arith }

pub returns : goal.returns
returns c = record { answer = sym (asked_finite _ _ _ _ (search rules) (search rules) (search rules) (search rules) (search rules) (search rules) refl); early = omega arith }

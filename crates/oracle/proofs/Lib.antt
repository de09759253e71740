-- The laws of a round on values. Theorems to cite: Spared (same-rounds, tetrahedron-four, four-tetrahedron): our rounds are the original's where no side of a piece of just four corners is collapsed;
-- Safe (safe, safe-after): every round is accepted collapses, a renumbering and accepted flips, and keeps the surface closed and its Euler number; no corner gains a label. Even: the degrees' gain without squares. Thirds: the third corners of the triangles on a side. Passes and Labels lead to Safe.
pub mod Even
pub mod Thirds
pub mod Passes
pub mod Labels
pub mod Safe
pub mod Spared

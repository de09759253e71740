-- The passes with their skip are those of crate rounds, at the choices that the floats make.
use mathlib.Core.Path.{◌≡◌, refl, ap, ◌∙◌}
use mathlib.Core.Bool.{Bool, true, false, ◌&&◌, cond}
use mathlib.Core.List.{List, [], ◌∷◌, map}
use Rattle.history.specs.History.{Pair, Entry}
use Rattle.rounds.specs.Pass.{State, collapse_entry}
use Rattle.rounds.specs.Choices.{Side, Decision, may_collapse, collapse_step, collapse_pass, collapses_of}
use Rattle.oracle.specs.Scene.{Scene}
use Rattle.oracle.specs.Slivers.{valid, better, tetrahedron, accepts, pass, collapses}

abbrev pub entry : Decision → Entry
entry d = collapse_entry d.keep d.remove

abbrev pub allows : Scene → Pair → State → Decision → Bool
allows s p st d = valid s p.tris p.labels d.keep d.remove

accepts-is : (s : Scene) (p : Pair) (st : State) (d : Decision) → accepts true s p st d ≡ (may_collapse p st d.keep d.remove && allows s p st d)
unfolding accepts may_collapse tetrahedron
accepts-is s p st d = refl

pub pass-is : (s : Scene) (p : Pair) (st : State) (ds : List Side) → pass true s p st ds ≡ collapse_pass p (allows s p) st (map (better s p) ds)
unfolding pass collapse_pass
pass-is s p st [] = refl
pass-is s p st (d ∷ ds) =
    let m = better s p d in
    let next : Bool → State = λ b. cond b (collapse_step p st m.keep m.remove) st in
    ap (λ (b : Bool). pass true s p (next b) ds) (accepts-is s p st m) ∙ pass-is s p (next (may_collapse p st m.keep m.remove && allows s p st m)) ds

either : (k : Bool) (x : Decision) (l r : List Decision) (m n : List Entry) → map entry l ≡ m → map entry r ≡ n → map entry (cond k (x ∷ l) r) ≡ cond k (entry x ∷ m) n
either true x l r m n e f = ap (λ (t : List Entry). entry x ∷ t) e
either false x l r m n e f = f

pub collapses-is : (s : Scene) (p : Pair) (st : State) (ds : List Side) → map entry (collapses true s p st ds) ≡ collapses_of p (allows s p) st (map (better s p) ds)
unfolding collapses collapses_of
collapses-is s p st [] = refl
collapses-is s p st (d ∷ ds) =
    let m = better s p d in
    let next = collapse_step p st m.keep m.remove in
    rw (accepts-is s p st m) (either (may_collapse p st m.keep m.remove && allows s p st m) m (collapses true s p next ds) (collapses true s p st ds) _ _ (collapses-is s p next ds) (collapses-is s p st ds))

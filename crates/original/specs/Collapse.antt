-- The loop of `collapse_slivers` over its candidates. p is the pair with which `collapse_slivers` began, of which its maps are made; the present `mesh.faces` are the state's `tris`, `removed` its `gone`. Definitions only.
use Rattle.std.specs.Prelude.{ℕ, Bool, true, false, not, ◌&&◌, ◌||◌, cond, List, [], ◌∷◌, ◌++◌, eqb, length, set, Float}
use Rattle.std.specs.Int.Bits.{bit_or}
use Rattle.std.specs.Float.Ieee as Ieee
use Rattle.std.specs.Float.{inf}
use Rattle.float.specs.Order.{lesser, within}
use Rattle.surface.specs.Triangle.{Tri}
use Rattle.surface.specs.Edit.{place, renamed}
use Rattle.history.specs.History.{Pair, label}
use Rattle.rounds.specs.Pass.{State}
use Rattle.rounds.specs.Choices.{Side}
use Rattle.oracle.specs.Scene.{Scene, score}
use Rattle.oracle.specs.Candidates.{chosen}
use Rattle.oracle.specs.Slivers.{floor}
use Rattle.original.specs.Sets.{member, same_set, intersection}
use Rattle.original.specs.Maps.{shared, adjacent, incident_from, incident, mask_from, mask, score_at}

-- the corners of the faces at some places: shared.iter().flat_map(|&fi| mesh.faces[fi])
unfoldable pub corners_at : List Tri → List ℕ → List ℕ
corners_at fs [] = []
corners_at fs (i ∷ is) = (place fs i).a ∷ (place fs i).b ∷ (place fs i).c ∷ corners_at fs is

-- `opposite`: those that are not ends of the side
unfoldable pub opposite : List Tri → List ℕ → ℕ → ℕ → List ℕ
unfolding chosen corners_at
opposite fs is a b = chosen (λ (v : ℕ). not (eqb v a) && not (eqb v b)) (corners_at fs is)

-- how the loop over incident[remove] ends: by `break`, where `valid` is false, or with a `minimum`
pub data Tried : Type 0 where
  broken : Tried
  reached : Float → Tried

-- that loop, from a minimum on, over the places that are left
unfoldable pub tried : Scene → Pair → List Tri → List ℕ → ℕ → ℕ → Float → List ℕ → Tried
unfolding member score within lesser
tried s p fs both keep remove minimum [] = reached minimum
tried s p fs both keep remove minimum (i ∷ is) =
    cond (member both i) (tried s p fs both keep remove minimum is)
    (let next = renamed keep remove (place fs i) in
    let q = score s next (label p i) in
    cond (Ieee.lt q (floor (score_at s p i))) broken (tried s p fs both keep remove (lesser minimum q) is))

-- `best`: None, or Some((keep, remove, minimum))
pub data Best : Type 0 where
  nothing : Best
  best : ℕ → ℕ → Float → Best

-- best = Some(..), if valid && best.is_none_or(|(_, _, q)| minimum > q)
unfoldable pub consider : Best → ℕ → ℕ → Tried → Best
consider old keep remove broken = old
consider nothing keep remove (reached minimum) = best keep remove minimum
consider (best k r q) keep remove (reached minimum) = cond (Ieee.lt q minimum) (best keep remove minimum) (best k r q)

-- a turn of the loop over [(a, b), (b, a)], which `continue`s where masks[keep] | masks[remove] != masks[keep]
unfoldable pub attempt : Scene → Pair → List Tri → List ℕ → Best → ℕ → ℕ → Best
unfolding mask_from tried consider incident_from
attempt s p fs both old keep remove =
    let masks = mask p.tris p.labels in
    cond (not (eqb (bit_or (masks keep) (masks remove)) (masks keep))) old
    (consider old keep remove (tried s p fs both keep remove (inf false) (incident p.tris remove)))

-- removed[fi] = true, at some places in turn
unfoldable pub removed_at : List Bool → List ℕ → List Bool
removed_at gs [] = gs
removed_at gs (i ∷ is) = removed_at (set gs i true) is

-- mesh.faces[fi] = mesh.faces[fi].map(|v| if v == remove { keep } else { v }), at some places in turn
unfoldable pub rewritten : ℕ → ℕ → List Tri → List ℕ → List Tri
rewritten keep remove fs [] = fs
rewritten keep remove fs (i ∷ is) = rewritten keep remove (set fs i (renamed keep remove (place fs i))) is

-- if let Some((keep, remove, _)) = best: the shared faces are removed, the others renamed, and the ends and what is adjacent to them touched
unfoldable pub applied : Pair → State → ℕ → ℕ → Best → State
unfolding removed_at rewritten shared adjacent incident_from member
applied p st a b nothing = st
applied p st a b (best keep remove q) = record {
  tris = rewritten keep remove st.tris (incident p.tris remove);
  gone = removed_at st.gone (shared p.tris a b);
  touched = λ x. st.touched x || member (adjacent p.tris a ++ (adjacent p.tris b ++ (a ∷ b ∷ []))) x;
}

-- `best` at a candidate. Each `continue` on the way leaves nothing to apply: an end is touched, the side has not two faces, or the common neighbours of its ends are not the opposite corners alone.
unfoldable pub found : Scene → Pair → State → Side → Best
unfolding shared adjacent same_set intersection opposite attempt
found s p st d =
    let a = d.one in
    let b = d.two in
    let both = shared p.tris a b in
    cond (st.touched a || st.touched b) nothing
    (cond (not (eqb (length both) 2)) nothing
    (cond (not (same_set (intersection (adjacent p.tris a) (adjacent p.tris b)) (opposite st.tris both a b))) nothing
    (attempt s p st.tris both (attempt s p st.tris both nothing a b) b a)))

-- a candidate, and the candidates in turn
unfoldable pub step : Scene → Pair → State → Side → State
unfolding found applied
step s p st d = applied p st d.one d.two (found s p st d)

unfoldable pub pass : Scene → Pair → State → List Side → State
unfolding step
pass s p st [] = st
pass s p st (d ∷ ds) = pass s p (step s p st d) ds

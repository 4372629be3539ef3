-- What extents and points of a command are by its outline.
use Rattle.std.proofs.Common.{◌≡◌, ℕ, ◌+◌, List, [], ◌∷◌, ◌++◌, refl}
use Rattle.gv_lang.specs.Tree.{Cmd, Do, If, Loop, Break, Continue, Return}
use Rattle.gv_lang.specs.Graph.{Point, size, entry, block_points, command_points}
use Rattle.gv_lang.specs.Outlines.{Sketch, Plain, Branches, Loops, Breaks, Repeats, Returns, sketch}
use Rattle.gv_lang.proofs.Outlines.{size_by}
use Rattle.gv_lockstep.specs.Sites.{point_with}
use Rattle.gv_points.specs.declared.extents.Extent.{Extent}
use Rattle.gv_points.specs.Extents.{extent, block_extents, command_extents}

abbrev pub sketch_extents : Sketch → List Extent
sketch_extents (Branches t f) = extent (size t + size f + 1) (size t) ∷ block_extents t ++ block_extents f
sketch_extents (Loops body) = extent (size body + 1) (size body) ∷ block_extents body
sketch_extents Plain = extent 1 0 ∷ []
sketch_extents Breaks = extent 1 0 ∷ []
sketch_extents Repeats = extent 1 0 ∷ []
sketch_extents Returns = extent 1 0 ∷ []

pub extents_by : (c : Cmd) → command_extents c ≡ sketch_extents (sketch c)
extents_by (Do a place) = refl
extents_by (If e t f place) = refl
extents_by (Loop body place) = refl
extents_by (Break place) = refl
extents_by (Continue place) = refl
extents_by (Return es place) = refl

abbrev pub sketch_points : Cmd → Sketch → (at after leave again : ℕ) → List Point
sketch_points c Plain at after leave again = point_with c (after ∷ []) ∷ []
sketch_points c (Branches t f) at after leave again =
    point_with c (entry t (at + 1) after ∷ entry f (at + 1 + size t) after ∷ [])
    ∷ block_points t (at + 1) after leave again ++ block_points f (at + 1 + size t) after leave again
sketch_points c (Loops body) at after leave again =
    point_with c (entry body (at + 1) 0 ∷ []) ∷ block_points body (at + 1) 0 after (entry body (at + 1) 0)
sketch_points c Breaks at after leave again = point_with c (leave ∷ []) ∷ []
sketch_points c Repeats at after leave again = point_with c (again ∷ []) ∷ []
sketch_points c Returns at after leave again = point_with c [] ∷ []

pub points_by : (c : Cmd) (at after leave again : ℕ) → command_points c at after leave again ≡ sketch_points c (sketch c) at after leave again
points_by (Do a place) at after leave again = refl
points_by (If e t f place) at after leave again = refl
points_by (Loop body place) at after leave again = refl
points_by (Break place) at after leave again = refl
points_by (Continue place) at after leave again = refl
points_by (Return es place) at after leave again = refl

pub ruleset outlines = (size_by, extents_by, points_by)

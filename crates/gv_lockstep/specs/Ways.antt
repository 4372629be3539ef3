-- The ways that frames take through the graphs of their procedures.
use Rattle.std.specs.Prelude.{◌≡◌, ℕ, true, List, [], ◌∷◌, Some, option_map, slice_get, Contains}
use Rattle.std.specs.List.{AllByRecursion}
use Rattle.gv_base.specs.declared.answer.Answer.TheVariants.{Next}
use Rattle.gv_base.specs.declared.val.Val.{Val}
use Rattle.gv_world.specs.Store.{Store as World}
use Rattle.gv_lang.specs.Tree.{Proc, Program}
use Rattle.gv_lang.specs.Todo.{head}
use Rattle.gv_lang.specs.Threads.{Frame, Thread, new_frame, thread_of}
use Rattle.gv_lang.specs.Step.{GoesOn, stepped}
use Rattle.gv_lang.specs.Graph.{Point, points}
use Rattle.gv_lang.specs.WellShaped.{is_well_shaped}
use Rattle.gv_lockstep.specs.Lockstep.{IsGraphOf}
use Rattle.gv_lockstep.specs.Sites.{plain, Site, to_do, sites, point_of, bare, nth}

-- A frame is at point k of its procedure: what it has to do is what is to do from site k on, and its next command is the action of
-- the point, of an If and a Loop without their blocks.
pub record IsAt (g : Program) (f : Frame) (k : ℕ) : Type 0 where
  pub procedure : Proc
  pub is_procedure : slice_get g.procs f.proc ≡ Some procedure
  pub site : Site
  pub is_site : nth (sites procedure.body) k ≡ Some site
  pub to_do : f.todo ≡ plain (to_do site)
  pub is_point : nth (points procedure.body) k ≡ Some (point_of site)
  pub action : option_map bare (head f.todo) ≡ Some (point_of site).action

-- k is a successor of point j
abbrev pub IsArrow : List Point → ℕ → ℕ → Type 0
IsArrow graph j k = (p : Point) × (nth graph j ≡ Some p) × Contains p.next k

-- points by which a frame may have come, the last one first: the entry, then always a successor of the one before
abbrev pub IsWay : List Point → List ℕ → Type 0
IsWay graph [] = ⊥
IsWay graph (k ∷ []) = k ≡ 1
IsWay graph (k ∷ j ∷ ks) = IsArrow graph j k × IsWay graph (j ∷ ks)

abbrev pub latest : List ℕ → ℕ
latest [] = 0
latest (k ∷ ks) = k

-- a frame came by these points, and is at the last of them
pub record CameBy (g : Program) (f : Frame) (way : List ℕ) : Type 0 where
  pub at : IsAt g f (latest way)
  pub is_way : IsWay (points at.procedure.body) way

-- each of the frames has its way
abbrev pub Came : Program → List Frame → List (List ℕ) → Type 0
Came g [] [] = Unit {0}
Came g [] (way ∷ ways) = ⊥
Came g (f ∷ fs) [] = ⊥
Came g (f ∷ fs) (way ∷ ways) = CameBy g f way × Came g fs ways

abbrev pub frames : Thread → List Frame
frames th = th.top ∷ th.below

-- what a step makes of the ways of a thread's frames, that of the top frame first
pub data Continues : List (List ℕ) → List (List ℕ) → Type 0 where
  -- the first of two steps
  stays : {ways : List (List ℕ)} → Continues ways ways
  -- the top frame goes on to point k
  moves : {way : List ℕ} {ways : List (List ℕ)} (k : ℕ) → Continues (way ∷ ways) ((k ∷ way) ∷ ways)
  -- and so it does at a call, whose frame is at its entry
  calls : {way : List ℕ} {ways : List (List ℕ)} (k : ℕ) → Continues (way ∷ ways) ((1 ∷ []) ∷ (k ∷ way) ∷ ways)
  -- the top frame returns
  returns : {way : List ℕ} {ways : List (List ℕ)} → Continues (way ∷ ways) ways

-- a thread whose only frame is at its entry
abbrev pub AtEntry : Program → Thread → Type 0
AtEntry g th = Came g (frames th) ((1 ∷ []) ∷ [])

-- a thread that begins with a procedure is at its entry
abbrev pub Begin : Program → Type 0
Begin g = (f : ℕ) (p : Proc) (args : List Val) → slice_get g.procs f ≡ Some p → AtEntry g (thread_of (new_frame f p args []))

-- graph and steps go together: each step of a thread makes ways of its frames of those that they had
abbrev pub GoTogether : Program → Type 0
GoTogether g =
    (ways : List (List ℕ)) (extra : ℕ) (th after : Thread) (w new : World) (started : List Thread)
    → Came g (frames th) ways
    → stepped g extra th w ≡ Next (GoesOn new after started)
    → (then_ways : List (List ℕ)) × Continues ways then_ways × Came g (frames after) then_ways × AllByRecursion (AtEntry g) started

-- the threads that there can be: those that begin with a procedure, and what a step leaves in any world
pub data IsReached (g : Program) : Thread → Type 0 where
  begins : (f : ℕ) (p : Proc) (args : List Val) → slice_get g.procs f ≡ Some p → IsReached g (thread_of (new_frame f p args []))
  goes_on : (extra : ℕ) (th after : Thread) (w new : World) (started : List Thread)
      → IsReached g th → stepped g extra th w ≡ Next (GoesOn new after started) → IsReached g after
  is_started : (extra : ℕ) (th after it : Thread) (w new : World) (started : List Thread)
      → IsReached g th → stepped g extra th w ≡ Next (GoesOn new after started) → Contains started it → IsReached g it

-- along every run each frame came by one point after another
abbrev pub AllCame : Program → Type 0
AllCame g = (th : Thread) → IsReached g th → (ways : List (List ℕ)) × Came g (frames th) ways

-- the graphs of the procedures
abbrev pub AreGraphs : Program → Type 0
AreGraphs g = (f : ℕ) (p : Proc) → slice_get g.procs f ≡ Some p → IsGraphOf p.body

pub record Lockstep (g : Program) : Type 0 where
  pub graphs : AreGraphs g
  pub begin : Begin g
  pub together : GoTogether g
  pub came : AllCame g

abbrev pub LockstepLaw : Type 0
LockstepLaw = (g : Program) → is_well_shaped g ≡ true → Lockstep g

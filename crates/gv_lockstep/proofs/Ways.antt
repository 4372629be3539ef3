-- Frames go from point to point.
use Rattle.std.proofs.Common.{◌≡◌, ◌∙◌, ℕ, List, [], ◌∷◌, Bool, true, false, ◌&&◌, Option, Some, None, refl, ap, sym, subst, slice_get, map, length, nat_le}
use Rattle.std.specs.List.{AllByRecursion, list_all}
use Rattle.std.specs.Prelude.{option_map}
use Rattle.gv_base.specs.declared.answer.Answer.{Answer}
use Rattle.gv_base.specs.declared.answer.Answer.TheVariants.{Next, Blocked, Undefined}
use Rattle.gv_base.specs.declared.val.Val.{Val}
use Rattle.gv_world.specs.Answers.{and_then}
use Rattle.gv_world.specs.Store.{Store as World}
use Rattle.gv_lang.specs.Tree.{Proc, Program}
use Rattle.gv_lang.specs.Todo.{Todo, head, onward}
use Rattle.gv_lang.specs.Threads.{Frame, Thread, new_frame, thread_of}
use Rattle.gv_lang.specs.Table.{Effect, Goes, Begins, Pushes, Starts, Pops, effect}
use Rattle.gv_lang.specs.Step.{Stepped, GoesOn, truth, assigned, returned, with_todo, moved, settled}
use Rattle.gv_lang.specs.Graph.{points}
use Rattle.gv_lang.specs.Shape.{is_shaped}
use Rattle.gv_lang.specs.Kinds.{is_typed_block}
use Rattle.gv_lang.specs.WellShaped.{is_fine_proc, is_recovery, is_operation, method_at, are_distinct, are_few, is_well_shaped}
use Rattle.gv_lockstep.specs.Sites.{Numbered, plain, numbered_onward, here, Site, to_do, sites, point_of, bare, nth}
use Rattle.gv_lockstep.specs.Ways.{IsAt, IsArrow, IsWay, CameBy, Came, frames, Continues, stays, moves, calls, returns, AtEntry, Begin, GoTogether, begins, goes_on, is_started, AllCame, AreGraphs, LockstepLaw}
use Rattle.gv_lockstep.proofs.Lists.{and_left, and_right, test_get, all_contains}
use Rattle.gv_lockstep.proofs.Sites.{plain_put, plain_onward}
use Rattle.gv_lockstep.proofs.Shape.{TargetsAreIn, targets_are_in}
use Rattle.gv_lockstep.proofs.Arrows.{point_there, onward_stands, entry_is_first, graph_law}
use Rattle.gv_lockstep.proofs.News.{Enters, IsNew, IfNew, effect_new}

-- ---- well-shaped programs

body_is_shaped : (g : Program) (f : ℕ) (p : Proc) → is_well_shaped g ≡ true → slice_get g.procs f ≡ Some p → is_shaped p.body ≡ true
body_is_shaped g f p s e =
    let a1 = and_left (list_all (is_fine_proc g) g.procs && is_recovery (slice_get g.procs g.recover)
    && list_all (λ op. is_operation (slice_get g.procs op)) g.ops && are_distinct (map (method_at g) g.ops)) (are_few g) s in
    let a2 = and_left (list_all (is_fine_proc g) g.procs && is_recovery (slice_get g.procs g.recover)
    && list_all (λ op. is_operation (slice_get g.procs op)) g.ops) (are_distinct (map (method_at g) g.ops)) a1 in
    let a3 = and_left (list_all (is_fine_proc g) g.procs && is_recovery (slice_get g.procs g.recover)) (list_all (λ op. is_operation (slice_get g.procs op)) g.ops) a2 in
    let a4 = and_left (list_all (is_fine_proc g) g.procs) (is_recovery (slice_get g.procs g.recover)) a3 in
    let fine = test_get (is_fine_proc g) g.procs f p a4 e in
    and_right (nat_le p.params (length p.locals) && is_typed_block g p.locals p.results p.body) (is_shaped p.body) fine

shaped : (g : Program) (f : ℕ) (p : Proc) → is_well_shaped g ≡ true → slice_get g.procs f ≡ Some p → TargetsAreIn p.body
shaped g f p s e = targets_are_in p.body (body_is_shaped g f p s e)

are_graphs : (g : Program) → is_well_shaped g ≡ true → AreGraphs g
are_graphs g s f p e = graph_law p.body (body_is_shaped g f p s e)

-- ---- one frame

-- what to do as that of a site is the state of a frame at a point
at_site : (g : Program) (f : Frame) (p : Proc) (k : ℕ) (s : Site) → slice_get g.procs f.proc ≡ Some p → nth (sites p.body) k ≡ Some s → f.todo ≡ plain (to_do s) → IsAt g f k
at_site g f p k s found is todo = record {
  procedure = p;
  is_procedure = found;
  site = s;
  is_site = is;
  to_do = todo;
  is_point = point_there p.body k s is;
  action = ap (λ t. option_map bare (head t)) todo;
}

enters : (g : Program) → is_well_shaped g ≡ true → Enters g
enters g s f p args results e =
    let t = shaped g f p s e in
    let en = entry_is_first p.body t in
    record {
      at = at_site g (new_frame f p args results) p 1 en.site e en.is_first (sym (plain_put 1 p.body []) ∙ ap plain en.to_do);
      is_way = refl;
    }

some_plain : (o : Option (List Numbered)) (rest : Todo) → option_map plain o ≡ Some rest → (z : List Numbered) × (o ≡ Some z) × (plain z ≡ rest)
some_plain None rest e = absurd cc
some_plain (Some z) rest e = (z, refl, cc)

-- where the table says what is to do next, the frame that does it is at a successor, in the same procedure
record NextAt (g : Program) (f after : Frame) (j : ℕ) (at : IsAt g f j) : Type 0 where
  k : ℕ
  is_arrow : IsArrow (points at.procedure.body) j k
  is_at : IsAt g after k
  same : is_at.procedure ≡ at.procedure

next_at : (g : Program) → is_well_shaped g ≡ true → (f after : Frame) (j : ℕ) (v : Bool) (rest : Todo) (at : IsAt g f j)
    → onward v f.todo ≡ Some rest → after.proc ≡ f.proc → after.todo ≡ rest → NextAt g f after j at
unfolding at_site
next_at g s f after j v rest c e ep et =
    let t = shaped g f.proc c.procedure s c.is_procedure in
    let o = sym (plain_onward v (to_do c.site)) ∙ (ap (onward v) (sym c.to_do) ∙ e) in
    let (z, is, same) = some_plain (numbered_onward v (to_do c.site)) rest o in
    let on = onward_stands c.procedure.body t j c.site v z c.is_site is in
    record {
      k = here z;
      is_arrow = (point_of c.site, c.is_point, on.arrow);
      is_at = at_site g after c.procedure (here z) on.after.site (ap (λ i. slice_get g.procs i) ep ∙ c.is_procedure) on.after.there
          (et ∙ (sym same ∙ ap plain on.after.same));
      same = refl;
    }

came_on : (g : Program) (f after : Frame) (way : List ℕ) (v : Bool) (rest : Todo) → is_well_shaped g ≡ true → CameBy g f way
    → onward v f.todo ≡ Some rest → after.proc ≡ f.proc → after.todo ≡ rest → (k : ℕ) × CameBy g after (k ∷ way)
came_on g f after [] v rest s c e ep et = absurd c.is_way
came_on g f after (j ∷ way) v rest s c e ep et =
    let r = next_at g s f after j v rest c.at e ep et in (
      r.k,
      record {
        at = r.is_at;
        is_way = subst (λ (p : Proc). IsWay (points p.body) (r.k ∷ j ∷ way)) (sym r.same) (r.is_arrow, c.is_way);
      },
    )

-- the frame in another state, where its procedure and what it has to do are the same
came_same : (g : Program) (f after : Frame) (way : List ℕ) → CameBy g f way → after.proc ≡ f.proc → after.todo ≡ f.todo → CameBy g after way
came_same g f after way c ep et = record {
  at = record {
    procedure = c.at.procedure;
    is_procedure = ap (λ i. slice_get g.procs i) ep ∙ c.at.is_procedure;
    site = c.at.site;
    is_site = c.at.is_site;
    to_do = et ∙ c.at.to_do;
    is_point = c.at.is_point;
    action = ap (λ t. option_map bare (head t)) et ∙ c.at.action;
  };
  is_way = c.is_way;
}

-- ---- one step

abbrev Then : Program → List (List ℕ) → Thread → List Thread → Type 0
Then g ways th started = (then_ways : List (List ℕ)) × Continues ways then_ways × Came g (frames th) then_ways × AllByRecursion (AtEntry g) started

abbrev going : World → Thread → List Thread → Answer Stepped
going w th started = Next (GoesOn w th started)

then_at : (g : Program) (ways : List (List ℕ)) (w new : World) (th after : Thread) (started begun : List Thread)
    → going w th started ≡ going new after begun → Then g ways th started → Then g ways after begun
then_at g ways w new th after started begun e c =
    let e1 : th ≡ after = cc in
    let e2 : started ≡ begun = cc in
    subst (λ (s : List Thread). Then g ways after s) e2 (subst (λ (t : Thread). Then g ways t started) e1 c)

returned_then : (g : Program) (way : List ℕ) (ways : List (List ℕ)) (below : List Frame) (w new : World) (xs : List ℕ) (vs : List Val) (after : Thread) (started : List Thread)
    → Came g below ways → (let out : Answer Stepped = Next (returned below w xs vs) in out ≡ going new after started) → Then g (way ∷ ways) after started
returned_then g way ways [] w new xs vs after started st e = absurd cc
returned_then g way [] (f ∷ fs) w new xs vs after started st e = absurd st
returned_then g way (wf ∷ ways) (f ∷ fs) w new xs vs after started st e =
    then_at g (way ∷ wf ∷ ways) w new (record { top = record f { locals = assigned f.locals xs vs }; below = fs; begun = false }) after [] started e
    (wf ∷ ways, returns, (came_same g f (record f { locals = assigned f.locals xs vs }) wf st.0 refl refl, st.1), tt)

settled_then : (g : Program) → is_well_shaped g ≡ true → (way : List ℕ) (ways : List (List ℕ)) (th after : Thread) (w new : World) (started : List Thread) (v : Bool) (e : Effect) (o : Option Todo)
    → IsNew g e → onward v th.top.todo ≡ o → CameBy g th.top way → Came g th.below ways → settled th w o e ≡ going new after started → Then g (way ∷ ways) after started
settled_then g s way ways th after w new started v (Pops vs) o n eo c st e = returned_then g way ways th.below w new th.top.results vs after started st e
settled_then g s way ways th after w new started v (Begins w1) o n eo c st e =
    then_at g (way ∷ ways) w1 new (record th { begun = true }) after [] started e (way ∷ ways, stays, (c, st), tt)
settled_then g s way ways th after w new started v (Goes w1 locals) (Some rest) n eo c st e =
    let r = came_on g th.top (moved th.top locals rest) way v rest s c eo refl refl in
    then_at g (way ∷ ways) w1 new (record { top = moved th.top locals rest; below = th.below; begun = false }) after [] started e
    ((r.0 ∷ way) ∷ ways, moves r.0, (r.1, st), tt)
settled_then g s way ways th after w new started v (Pushes f1) (Some rest) n eo c st e =
    let r = came_on g th.top (with_todo th.top rest) way v rest s c eo refl refl in
    then_at g (way ∷ ways) w new (record { top = f1; below = with_todo th.top rest ∷ th.below; begun = false }) after [] started e
    ((1 ∷ []) ∷ (r.0 ∷ way) ∷ ways, calls r.0, (n, (r.1, st)), tt)
settled_then g s way ways th after w new started v (Starts f1) (Some rest) n eo c st e =
    let r = came_on g th.top (with_todo th.top rest) way v rest s c eo refl refl in
    then_at g (way ∷ ways) w new (record { top = with_todo th.top rest; below = th.below; begun = false }) after (thread_of f1 ∷ []) started e
    ((r.0 ∷ way) ∷ ways, moves r.0, (r.1, st), ((n, tt), tt))
settled_then g s way ways th after w new started v (Goes w1 locals) None n eo c st e = absurd cc
settled_then g s way ways th after w new started v (Pushes f1) None n eo c st e = absurd cc
settled_then g s way ways th after w new started v (Starts f1) None n eo c st e = absurd cc

row_then : (g : Program) → is_well_shaped g ≡ true → (way : List ℕ) (ways : List (List ℕ)) (th after : Thread) (w new : World) (started : List Thread) (v : Bool) (a : Answer Effect)
    → IfNew g a → CameBy g th.top way → Came g th.below ways → and_then a (settled th w (onward v th.top.todo)) ≡ going new after started → Then g (way ∷ ways) after started
row_then g s way ways th after w new started v (Next a) n c st e = settled_then g s way ways th after w new started v a (onward v th.top.todo) n.new refl c st e
row_then g s way ways th after w new started v Blocked n c st e = absurd cc
row_then g s way ways th after w new started v (Undefined reason) n c st e = absurd cc

go_together : (g : Program) → is_well_shaped g ≡ true → GoTogether g
go_together g s [] extra th after w new started st e = absurd st
go_together g s (way ∷ ways) extra th after w new started st e =
    row_then g s way ways th after w new started (truth th.top.locals (head th.top.todo)) (effect g extra th.begun th.top.locals w (head th.top.todo))
    (effect_new g (enters g s) extra th.begun th.top.locals w (head th.top.todo)) st.0 st.1 e

-- ---- runs

begin : (g : Program) → is_well_shaped g ≡ true → Begin g
begin g s f p args e = (enters g s f p args [] e, tt)

abbrev HasWays : Program → Thread → Type 0
HasWays g th = (ways : List (List ℕ)) × Came g (frames th) ways

all_came : (g : Program) → is_well_shaped g ≡ true → AllCame g
all_came g s _ (begins f p args e) = ((1 ∷ []) ∷ [], begin g s f p args e)
all_came g s _ (goes_on extra th after w new started r e) =
    let (ways, c) = all_came g s th r in
    let (then_ways, on, d, begun) = go_together g s ways extra th after w new started c e in
    (then_ways, d)
all_came g s _ (is_started extra th after it w new started r e has) =
    let (ways, c) = all_came g s th r in
    let (then_ways, on, d, begun) = go_together g s ways extra th after w new started c e in
    ((1 ∷ []) ∷ [], all_contains (AtEntry g) started it begun has)

pub lockstep_law : LockstepLaw
lockstep_law g s = record { graphs = are_graphs g s; begin = begin g s; together = go_together g s; came = all_came g s }

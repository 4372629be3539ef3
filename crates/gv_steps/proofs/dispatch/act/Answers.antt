-- The step of a command is the step of the thread whose next command it is.
use Rattle.std.proofs.Common.{◌≡◌, ◌⊎◌, inl, inr, true, List, ap, refl, ◌∙◌}
use Rattle.gv_base.specs.declared.answers.Place.{Place}
use Rattle.gv_lang.specs.declared.pure.Pure.{Pure}
use Rattle.gv_lang.specs.declared.cmd.Cmd.{Cmd as Declared}
use Rattle.gv_lang.specs.declared.cmd.Cmd.TheVariants as cmd
use Rattle.gv_lang.specs.Plain.{tree_of, expr_of, exprs_of, program_of}
use Rattle.gv_lang.specs.Tree as tree
use Rattle.gv_lang.proofs.Trees.{tree_let, tree_div, tree_rem, tree_new, tree_load, tree_store, tree_make_slice, tree_at, tree_put, tree_len, tree_new_map, tree_map_get, tree_map_put, tree_map_delete, tree_new_mutex, tree_lock, tree_unlock, tree_disk_read, tree_disk_read2, tree_disk_write, tree_disk_size, tree_get64, tree_put64, tree_sub, tree_append, tree_call, tree_spawn, tree_if, tree_loop, tree_break, tree_continue, tree_return}
use Rattle.gv_thread.specs.Control.{is_control}
use Rattle.gv_thread.specs.Frames.{thread_of}
use Rattle.gv_steps.proofs.Wanted.{by_acts, by_within, by_within_in, by_call, by_spawn, by_return}
use Rattle.gv_steps.proofs.dispatch.act.Goals as goal

-- an If, a Loop, a Break or a Continue
controls : (d : Declared) → ((e : Pure) × (t : List Declared) × (f : List Declared) × (place : Place) × (d ≡ cmd.If e t f place))
    ⊎ (((body : List Declared) × (place : Place) × (d ≡ cmd.Loop body place))
    ⊎ (((place : Place) × (d ≡ cmd.Break place)) ⊎ ((place : Place) × (d ≡ cmd.Continue place)))) → is_control (tree_of d) ≡ true
controls d (inl h) = ap is_control (ap tree_of h.4 ∙ tree_if h.0 h.1 h.2 h.3)
controls d (inr (inl h)) = ap is_control (ap tree_of h.2 ∙ tree_loop h.0 h.1)
controls d (inr (inr (inl h))) = ap is_control (ap tree_of h.1 ∙ tree_break h.0)
controls d (inr (inr (inr h))) = ap is_control (ap tree_of h.1 ∙ tree_continue h.0)

pub turn-requires-clause-control : goal.turn-requires-clause-control
turn-requires-clause-control c = controls c.args.c.now c.in-If.is

pub returns-in-Let : goal.returns-in-Let
returns-in-Let c =
    by_acts (program_of c.args.g.now) c.args.extra (thread_of c.args.thread.now) c.args.store.now (thread_of c.local.new.thread) c.args.store.now
    (tree_of c.args.c.now) (tree.Let c.in-Let.x (expr_of c.in-Let.e)) c.in-Let.place c.requires.next
    (ap tree_of c.in-Let.is ∙ tree_let c.in-Let.x c.in-Let.e c.in-Let.place)
    c.local.result c.gone.result (c.local.ensures c.args.store.now) c.gone.ensures

pub returns-in-Div : goal.returns-in-Div
returns-in-Div c =
    by_acts (program_of c.args.g.now) c.args.extra (thread_of c.args.thread.now) c.args.store.now (thread_of c.divide.new.thread) c.args.store.now
    (tree_of c.args.c.now) (tree.Div c.in-Div.x (expr_of c.in-Div.a) (expr_of c.in-Div.b)) c.in-Div.place c.requires.next
    (ap tree_of c.in-Div.is ∙ tree_div c.in-Div.x c.in-Div.a c.in-Div.b c.in-Div.place)
    c.divide.result c.gone-in-Div.result (c.divide.ensures c.args.store.now) c.gone-in-Div.ensures

pub returns-in-Rem : goal.returns-in-Rem
returns-in-Rem c =
    by_acts (program_of c.args.g.now) c.args.extra (thread_of c.args.thread.now) c.args.store.now (thread_of c.remainder.new.thread) c.args.store.now
    (tree_of c.args.c.now) (tree.Rem c.in-Rem.x (expr_of c.in-Rem.a) (expr_of c.in-Rem.b)) c.in-Rem.place c.requires.next
    (ap tree_of c.in-Rem.is ∙ tree_rem c.in-Rem.x c.in-Rem.a c.in-Rem.b c.in-Rem.place)
    c.remainder.result c.gone-in-Rem.result (c.remainder.ensures c.args.store.now) c.gone-in-Rem.ensures

pub returns-in-Len : goal.returns-in-Len
returns-in-Len c =
    by_acts (program_of c.args.g.now) c.args.extra (thread_of c.args.thread.now) c.args.store.now (thread_of c.length.new.thread) c.args.store.now
    (tree_of c.args.c.now) (tree.Len c.in-Len.x (expr_of c.in-Len.s)) c.in-Len.place c.requires.next
    (ap tree_of c.in-Len.is ∙ tree_len c.in-Len.x c.in-Len.s c.in-Len.place)
    c.length.result c.gone-in-Len.result (c.length.ensures c.args.store.now) c.gone-in-Len.ensures

pub returns-in-New : goal.returns-in-New
returns-in-New c =
    by_within (program_of c.args.g.now) c.args.extra (thread_of c.args.thread.now) c.args.store.now
    (thread_of c.make_struct.new.thread) c.make_struct.new.store
    (tree_of c.args.c.now) (tree.New c.in-New.x c.in-New.of (exprs_of c.as_slice.result.now)) c.in-New.place c.requires.next
    (cc (tree_new c.in-New.x c.in-New.of c.in-New.vs c.in-New.place))
    c.make_struct.result c.gone_within.result (c.make_struct.ensures c.in-New.of) c.gone_within.ensures

pub returns-in-Load : goal.returns-in-Load
returns-in-Load c =
    by_acts (program_of c.args.g.now) c.args.extra (thread_of c.args.thread.now) c.args.store.now (thread_of c.load.new.thread) c.args.store.now
    (tree_of c.args.c.now) (tree.Load c.in-Load.x (expr_of c.in-Load.p) c.in-Load.of c.in-Load.field) c.in-Load.place c.requires.next
    (ap tree_of c.in-Load.is ∙ tree_load c.in-Load.x c.in-Load.p c.in-Load.of c.in-Load.field c.in-Load.place)
    c.load.result c.gone-in-Load.result (c.load.ensures c.in-Load.of) c.gone-in-Load.ensures

pub returns-in-Store : goal.returns-in-Store
returns-in-Store c =
    by_acts (program_of c.args.g.now) c.args.extra (thread_of c.args.thread.now) c.args.store.now (thread_of c.store.new.thread) c.store.new.store
    (tree_of c.args.c.now) (tree.Store (expr_of c.in-Store.p) c.in-Store.of c.in-Store.field (expr_of c.in-Store.e)) c.in-Store.place c.requires.next
    (ap tree_of c.in-Store.is ∙ tree_store c.in-Store.p c.in-Store.of c.in-Store.field c.in-Store.e c.in-Store.place)
    c.store.result c.gone-in-Store.result (c.store.ensures c.in-Store.of) c.gone-in-Store.ensures

pub returns-in-MakeSlice : goal.returns-in-MakeSlice
returns-in-MakeSlice c =
    by_within (program_of c.args.g.now) c.args.extra (thread_of c.args.thread.now) c.args.store.now (thread_of c.make_slice.new.thread) c.make_slice.new.store
    (tree_of c.args.c.now) (tree.MakeSlice c.in-MakeSlice.x c.in-MakeSlice.item (expr_of c.in-MakeSlice.n)) c.in-MakeSlice.place c.requires.next
    (ap tree_of c.in-MakeSlice.is ∙ tree_make_slice c.in-MakeSlice.x c.in-MakeSlice.item c.in-MakeSlice.n c.in-MakeSlice.place)
    c.make_slice.result c.gone_within-in-MakeSlice.result (c.make_slice.ensures) c.gone_within-in-MakeSlice.ensures

pub returns-in-At : goal.returns-in-At
returns-in-At c =
    by_acts (program_of c.args.g.now) c.args.extra (thread_of c.args.thread.now) c.args.store.now (thread_of c.at.new.thread) c.args.store.now
    (tree_of c.args.c.now) (tree.At c.in-At.x (expr_of c.in-At.s) (expr_of c.in-At.i)) c.in-At.place c.requires.next
    (ap tree_of c.in-At.is ∙ tree_at c.in-At.x c.in-At.s c.in-At.i c.in-At.place)
    c.at.result c.gone-in-At.result (c.at.ensures) c.gone-in-At.ensures

pub returns-in-Put : goal.returns-in-Put
returns-in-Put c =
    by_acts (program_of c.args.g.now) c.args.extra (thread_of c.args.thread.now) c.args.store.now (thread_of c.put.new.thread) c.put.new.store
    (tree_of c.args.c.now) (tree.Put (expr_of c.in-Put.s) (expr_of c.in-Put.i) (expr_of c.in-Put.v)) c.in-Put.place c.requires.next
    (ap tree_of c.in-Put.is ∙ tree_put c.in-Put.s c.in-Put.i c.in-Put.v c.in-Put.place)
    c.put.result c.gone-in-Put.result (c.put.ensures) c.gone-in-Put.ensures

pub returns-in-Get64 : goal.returns-in-Get64
returns-in-Get64 c =
    by_acts (program_of c.args.g.now) c.args.extra (thread_of c.args.thread.now) c.args.store.now (thread_of c.get_word.new.thread) c.args.store.now
    (tree_of c.args.c.now) (tree.Get64 c.in-Get64.x (expr_of c.in-Get64.s)) c.in-Get64.place c.requires.next
    (ap tree_of c.in-Get64.is ∙ tree_get64 c.in-Get64.x c.in-Get64.s c.in-Get64.place)
    c.get_word.result c.gone-in-Get64.result (c.get_word.ensures) c.gone-in-Get64.ensures

pub returns-in-Put64 : goal.returns-in-Put64
returns-in-Put64 c =
    by_acts (program_of c.args.g.now) c.args.extra (thread_of c.args.thread.now) c.args.store.now (thread_of c.put_word.new.thread) c.put_word.new.store
    (tree_of c.args.c.now) (tree.Put64 (expr_of c.in-Put64.s) (expr_of c.in-Put64.v)) c.in-Put64.place c.requires.next
    (ap tree_of c.in-Put64.is ∙ tree_put64 c.in-Put64.s c.in-Put64.v c.in-Put64.place)
    c.put_word.result c.gone-in-Put64.result (c.put_word.ensures) c.gone-in-Put64.ensures

pub returns-in-Sub : goal.returns-in-Sub
returns-in-Sub c =
    by_acts (program_of c.args.g.now) c.args.extra (thread_of c.args.thread.now) c.args.store.now (thread_of c.part.new.thread) c.args.store.now
    (tree_of c.args.c.now) (tree.Sub c.in-Sub.x (expr_of c.in-Sub.s) (expr_of c.in-Sub.a) (expr_of c.in-Sub.b)) c.in-Sub.place c.requires.next
    (ap tree_of c.in-Sub.is ∙ tree_sub c.in-Sub.x c.in-Sub.s c.in-Sub.a c.in-Sub.b c.in-Sub.place)
    c.part.result c.gone-in-Sub.result (c.part.ensures c.args.store.now) c.gone-in-Sub.ensures

pub returns-in-Append : goal.returns-in-Append
returns-in-Append c =
    by_within_in (program_of c.args.g.now) c.args.extra (thread_of c.args.thread.now) c.args.store.now (thread_of c.append.new.thread) c.append.new.store
    (tree_of c.args.c.now) (tree.Append c.in-Append.x c.in-Append.item (expr_of c.in-Append.s) (expr_of c.in-Append.v)) c.in-Append.place c.requires.next
    (ap tree_of c.in-Append.is ∙ tree_append c.in-Append.x c.in-Append.item c.in-Append.s c.in-Append.v c.in-Append.place)
    c.append.result c.gone_within-in-Append.result (c.append.ensures (program_of c.args.g.now)) c.gone_within-in-Append.ensures

pub returns-in-NewMap : goal.returns-in-NewMap
returns-in-NewMap c =
    by_within (program_of c.args.g.now) c.args.extra (thread_of c.args.thread.now) c.args.store.now (thread_of c.make_map.new.thread) c.make_map.new.store
    (tree_of c.args.c.now) (tree.NewMap c.in-NewMap.x) c.in-NewMap.place c.requires.next
    (ap tree_of c.in-NewMap.is ∙ tree_new_map c.in-NewMap.x c.in-NewMap.place)
    c.make_map.result c.gone_within-in-NewMap.result (c.make_map.ensures) c.gone_within-in-NewMap.ensures

pub returns-in-MapGet : goal.returns-in-MapGet
returns-in-MapGet c =
    by_acts (program_of c.args.g.now) c.args.extra (thread_of c.args.thread.now) c.args.store.now (thread_of c.map_get.new.thread) c.args.store.now
    (tree_of c.args.c.now) (tree.MapGet c.in-MapGet.x c.in-MapGet.ok (expr_of c.in-MapGet.m) (expr_of c.in-MapGet.k)) c.in-MapGet.place c.requires.next
    (ap tree_of c.in-MapGet.is ∙ tree_map_get c.in-MapGet.x c.in-MapGet.ok c.in-MapGet.m c.in-MapGet.k c.in-MapGet.place)
    c.map_get.result c.gone-in-MapGet.result (c.map_get.ensures) c.gone-in-MapGet.ensures

pub returns-in-MapPut : goal.returns-in-MapPut
returns-in-MapPut c =
    by_within (program_of c.args.g.now) c.args.extra (thread_of c.args.thread.now) c.args.store.now (thread_of c.map_put.new.thread) c.map_put.new.store
    (tree_of c.args.c.now) (tree.MapPut (expr_of c.in-MapPut.m) (expr_of c.in-MapPut.k) (expr_of c.in-MapPut.v)) c.in-MapPut.place c.requires.next
    (ap tree_of c.in-MapPut.is ∙ tree_map_put c.in-MapPut.m c.in-MapPut.k c.in-MapPut.v c.in-MapPut.place)
    c.map_put.result c.gone_within-in-MapPut.result (c.map_put.ensures) c.gone_within-in-MapPut.ensures

pub returns-in-MapDelete : goal.returns-in-MapDelete
returns-in-MapDelete c =
    by_within (program_of c.args.g.now) c.args.extra (thread_of c.args.thread.now) c.args.store.now (thread_of c.map_delete.new.thread) c.map_delete.new.store
    (tree_of c.args.c.now) (tree.MapDelete (expr_of c.in-MapDelete.m) (expr_of c.in-MapDelete.k)) c.in-MapDelete.place c.requires.next
    (ap tree_of c.in-MapDelete.is ∙ tree_map_delete c.in-MapDelete.m c.in-MapDelete.k c.in-MapDelete.place)
    c.map_delete.result c.gone_within-in-MapDelete.result (c.map_delete.ensures) c.gone_within-in-MapDelete.ensures

pub returns-in-NewMutex : goal.returns-in-NewMutex
returns-in-NewMutex c =
    by_within (program_of c.args.g.now) c.args.extra (thread_of c.args.thread.now) c.args.store.now (thread_of c.make_mutex.new.thread) c.make_mutex.new.store
    (tree_of c.args.c.now) (tree.NewMutex c.in-NewMutex.x) c.in-NewMutex.place c.requires.next
    (ap tree_of c.in-NewMutex.is ∙ tree_new_mutex c.in-NewMutex.x c.in-NewMutex.place)
    c.make_mutex.result c.gone_within-in-NewMutex.result (c.make_mutex.ensures) c.gone_within-in-NewMutex.ensures

pub returns-in-Lock : goal.returns-in-Lock
returns-in-Lock c =
    by_acts (program_of c.args.g.now) c.args.extra (thread_of c.args.thread.now) c.args.store.now (thread_of c.lock.new.thread) c.lock.new.store
    (tree_of c.args.c.now) (tree.Lock (expr_of c.in-Lock.m)) c.in-Lock.place c.requires.next
    (ap tree_of c.in-Lock.is ∙ tree_lock c.in-Lock.m c.in-Lock.place)
    c.lock.result c.gone-in-Lock.result (c.lock.ensures) c.gone-in-Lock.ensures

pub returns-in-Unlock : goal.returns-in-Unlock
returns-in-Unlock c =
    by_acts (program_of c.args.g.now) c.args.extra (thread_of c.args.thread.now) c.args.store.now (thread_of c.unlock.new.thread) c.unlock.new.store
    (tree_of c.args.c.now) (tree.Unlock (expr_of c.in-Unlock.m)) c.in-Unlock.place c.requires.next
    (ap tree_of c.in-Unlock.is ∙ tree_unlock c.in-Unlock.m c.in-Unlock.place)
    c.unlock.result c.gone-in-Unlock.result (c.unlock.ensures) c.gone-in-Unlock.ensures

pub returns-in-DiskRead : goal.returns-in-DiskRead
returns-in-DiskRead c =
    by_within (program_of c.args.g.now) c.args.extra (thread_of c.args.thread.now) c.args.store.now (thread_of c.disk_read.new.thread) c.disk_read.new.store
    (tree_of c.args.c.now) (tree.DiskRead c.in-DiskRead.x (expr_of c.in-DiskRead.a)) c.in-DiskRead.place c.requires.next
    (ap tree_of c.in-DiskRead.is ∙ tree_disk_read c.in-DiskRead.x c.in-DiskRead.a c.in-DiskRead.place)
    c.disk_read.result c.gone_within-in-DiskRead.result (c.disk_read.ensures) c.gone_within-in-DiskRead.ensures

pub returns-in-DiskRead2 : goal.returns-in-DiskRead2
returns-in-DiskRead2 c =
    by_within (program_of c.args.g.now) c.args.extra (thread_of c.args.thread.now) c.args.store.now
    (thread_of c.disk_read_of.new.thread) c.disk_read_of.new.store
    (tree_of c.args.c.now) (tree.DiskRead2 c.in-DiskRead2.x c.in-DiskRead2.ok (expr_of c.in-DiskRead2.d)
    (expr_of c.in-DiskRead2.a)) c.in-DiskRead2.place c.requires.next
    (ap tree_of c.in-DiskRead2.is ∙ tree_disk_read2 c.in-DiskRead2.x c.in-DiskRead2.ok c.in-DiskRead2.d c.in-DiskRead2.a c.in-DiskRead2.place)
    c.disk_read_of.result c.gone_within-in-DiskRead2.result (c.disk_read_of.ensures) c.gone_within-in-DiskRead2.ensures

pub returns-in-DiskWrite : goal.returns-in-DiskWrite
returns-in-DiskWrite c =
    by_acts (program_of c.args.g.now) c.args.extra (thread_of c.args.thread.now) c.args.store.now (thread_of c.disk_write.new.thread) c.disk_write.new.store
    (tree_of c.args.c.now) (tree.DiskWrite (expr_of c.in-DiskWrite.d) (expr_of c.in-DiskWrite.a)
    (expr_of c.in-DiskWrite.s)) c.in-DiskWrite.place c.requires.next
    (ap tree_of c.in-DiskWrite.is ∙ tree_disk_write c.in-DiskWrite.d c.in-DiskWrite.a c.in-DiskWrite.s c.in-DiskWrite.place)
    c.disk_write.result c.gone-in-DiskWrite.result (c.disk_write.ensures) c.gone-in-DiskWrite.ensures

pub returns-in-DiskSize : goal.returns-in-DiskSize
returns-in-DiskSize c =
    by_acts (program_of c.args.g.now) c.args.extra (thread_of c.args.thread.now) c.args.store.now (thread_of c.disk_size.new.thread) c.args.store.now
    (tree_of c.args.c.now) (tree.DiskSize c.in-DiskSize.x) c.in-DiskSize.place c.requires.next
    (ap tree_of c.in-DiskSize.is ∙ tree_disk_size c.in-DiskSize.x c.in-DiskSize.place)
    c.disk_size.result c.gone-in-DiskSize.result (c.disk_size.ensures) c.gone-in-DiskSize.ensures

pub returns-in-Call : goal.returns-in-Call
returns-in-Call c =
    by_call (program_of c.args.g.now) c.args.extra (thread_of c.args.thread.now) c.args.store.now (thread_of c.call.new.thread) c.args.store.now
    (tree_of c.args.c.now) (tree.Call c.as_slice-in-Call.result.now c.in-Call.f (exprs_of c.as_slice-in-Call-2.result.now)) c.in-Call.place c.requires.next
    (cc (tree_call c.in-Call.xs c.in-Call.f c.in-Call.es c.in-Call.place))
    c.call.result c.gone_in_memory.result (c.call.ensures.ok c.args.store.now c.args.extra) c.call.ensures.kept refl c.gone_in_memory.ensures

pub returns-in-Spawn : goal.returns-in-Spawn
returns-in-Spawn c =
    by_spawn (program_of c.args.g.now) c.args.extra (thread_of c.args.thread.now) c.args.store.now (thread_of c.spawn.new.thread) c.args.store.now
    (tree_of c.args.c.now) (tree.Spawn c.in-Spawn.f (exprs_of c.as_slice-in-Spawn.result.now)) c.in-Spawn.place c.requires.next
    (cc (tree_spawn c.in-Spawn.f c.in-Spawn.es c.in-Spawn.place))
    c.spawn.result c.begun_in_memory.result (c.spawn.ensures.ok c.args.store.now c.args.extra) c.spawn.ensures.kept refl c.begun_in_memory.ensures

pub returns-in-Return : goal.returns-in-Return
returns-in-Return c =
    by_return (program_of c.args.g.now) c.args.extra (thread_of c.args.thread.now) c.args.store.now (thread_of c.give_back.new.thread) c.args.store.now
    (tree_of c.args.c.now) (exprs_of c.as_slice-in-Return.result.now) c.in-Return.place c.requires.next
    (cc (tree_return c.in-Return.es c.in-Return.place))
    c.give_back.result c.given_back_in_memory.result (c.give_back.ensures.ok c.args.store.now) c.give_back.ensures.kept refl c.given_back_in_memory.ensures

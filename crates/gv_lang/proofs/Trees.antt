-- The plain tree of each declared expression and command.
use Rattle.std.proofs.Common.{◌≡◌, ℕ, Bool, List, Box, rules}
use Rattle.std.specs.declared.alloc.Global.{Global}
use Rattle.gv_base.specs.declared.answers.Place.{Place}
use Rattle.gv_lang.specs.declared.pure.Unary.{Unary}
use Rattle.gv_lang.specs.declared.pure.Binary.{Binary}
use Rattle.gv_lang.specs.declared.pure.Pure.{Pure}
use Rattle.gv_lang.specs.declared.pure.Pure as declared_pure
use Rattle.gv_lang.specs.declared.pure.Pure.TheVariants as pure
use Rattle.gv_lang.specs.declared.program.ItemKind.{ItemKind}
use Rattle.gv_lang.specs.declared.cmd.Cmd.{Cmd as Declared}
use Rattle.gv_lang.specs.declared.cmd.Cmd as declared_cmd
use Rattle.gv_lang.specs.declared.cmd.Cmd.TheVariants as cmd
use Rattle.gv_lang.specs.Tree as tree
use Rattle.gv_lang.specs.Tree.{Do}
use Rattle.gv_lang.specs.Plain.{expr_of, exprs_of, body_of, tree_of}

pub expr_word : (n : ℕ) → expr_of (pure.Word n) ≡ tree.Number n
unfolding expr_of
expr_word n = search (rules, declared_pure.the_lemmas)

pub expr_bool : (b : Bool) → expr_of (pure.Bool b) ≡ tree.Truth b
unfolding expr_of
expr_bool b = search (rules, declared_pure.the_lemmas)

pub expr_nil : expr_of pure.Nil ≡ tree.Nil
unfolding expr_of
expr_nil = search (rules, declared_pure.the_lemmas)

pub expr_nil_slice : expr_of pure.NilSlice ≡ tree.NilSlice
unfolding expr_of
expr_nil_slice = search (rules, declared_pure.the_lemmas)

pub expr_local : (x : ℕ) → expr_of (pure.Local x) ≡ tree.LocalAt x
unfolding expr_of
expr_local x = search (rules, declared_pure.the_lemmas)

pub expr_unary : (o : Unary) (e : Box Pure Global) → expr_of (pure.Unary o e) ≡ tree.One o (expr_of e.value)
unfolding expr_of
expr_unary o e = search (rules, declared_pure.the_lemmas)

pub expr_binary : (o : Binary) (a b : Box Pure Global) → expr_of (pure.Binary o a b) ≡ tree.Two o (expr_of a.value) (expr_of b.value)
unfolding expr_of
expr_binary o a b = search (rules, declared_pure.the_lemmas)

pub ruleset expressions = (expr_word, expr_bool, expr_nil, expr_nil_slice, expr_local, expr_unary, expr_binary)

pub tree_let : (x : ℕ) (e : Pure) (place : Place) → tree_of (cmd.Let x e place) ≡ Do (tree.Let x (expr_of e)) place
unfolding tree_of
tree_let x e place = search (rules, declared_cmd.the_lemmas)

pub tree_div : (x : ℕ) (a : Pure) (b : Pure) (place : Place) → tree_of (cmd.Div x a b place) ≡ Do (tree.Div x (expr_of a) (expr_of b)) place
unfolding tree_of
tree_div x a b place = search (rules, declared_cmd.the_lemmas)

pub tree_rem : (x : ℕ) (a : Pure) (b : Pure) (place : Place) → tree_of (cmd.Rem x a b place) ≡ Do (tree.Rem x (expr_of a) (expr_of b)) place
unfolding tree_of
tree_rem x a b place = search (rules, declared_cmd.the_lemmas)

pub tree_new : (x : ℕ) (of : ℕ) (vs : List Pure) (place : Place) → tree_of (cmd.New x of vs place) ≡ Do (tree.New x of (exprs_of vs)) place
unfolding tree_of
tree_new x of vs place = search (rules, declared_cmd.the_lemmas)

pub tree_load : (x : ℕ) (p : Pure) (of : ℕ) (field : ℕ) (place : Place) → tree_of (cmd.Load x p of field place) ≡ Do (tree.Load x (expr_of p) of field) place
unfolding tree_of
tree_load x p of field place = search (rules, declared_cmd.the_lemmas)

pub tree_store : (p : Pure) (of : ℕ) (field : ℕ) (e : Pure) (place : Place) → tree_of (cmd.Store p of field e place) ≡ Do (tree.Store (expr_of p) of field (expr_of e)) place
unfolding tree_of
tree_store p of field e place = search (rules, declared_cmd.the_lemmas)

pub tree_make_slice : (x : ℕ) (item : ItemKind) (n : Pure) (place : Place) → tree_of (cmd.MakeSlice x item n place) ≡ Do (tree.MakeSlice x item (expr_of n)) place
unfolding tree_of
tree_make_slice x item n place = search (rules, declared_cmd.the_lemmas)

pub tree_at : (x : ℕ) (s : Pure) (i : Pure) (place : Place) → tree_of (cmd.At x s i place) ≡ Do (tree.At x (expr_of s) (expr_of i)) place
unfolding tree_of
tree_at x s i place = search (rules, declared_cmd.the_lemmas)

pub tree_put : (s : Pure) (i : Pure) (v : Pure) (place : Place) → tree_of (cmd.Put s i v place) ≡ Do (tree.Put (expr_of s) (expr_of i) (expr_of v)) place
unfolding tree_of
tree_put s i v place = search (rules, declared_cmd.the_lemmas)

pub tree_len : (x : ℕ) (s : Pure) (place : Place) → tree_of (cmd.Len x s place) ≡ Do (tree.Len x (expr_of s)) place
unfolding tree_of
tree_len x s place = search (rules, declared_cmd.the_lemmas)

pub tree_new_map : (x : ℕ) (place : Place) → tree_of (cmd.NewMap x place) ≡ Do (tree.NewMap x) place
unfolding tree_of
tree_new_map x place = search (rules, declared_cmd.the_lemmas)

pub tree_map_get : (x : ℕ) (ok : ℕ) (m : Pure) (k : Pure) (place : Place) → tree_of (cmd.MapGet x ok m k place) ≡ Do (tree.MapGet x ok (expr_of m) (expr_of k)) place
unfolding tree_of
tree_map_get x ok m k place = search (rules, declared_cmd.the_lemmas)

pub tree_map_put : (m : Pure) (k : Pure) (v : Pure) (place : Place) → tree_of (cmd.MapPut m k v place) ≡ Do (tree.MapPut (expr_of m) (expr_of k) (expr_of v)) place
unfolding tree_of
tree_map_put m k v place = search (rules, declared_cmd.the_lemmas)

pub tree_map_delete : (m : Pure) (k : Pure) (place : Place) → tree_of (cmd.MapDelete m k place) ≡ Do (tree.MapDelete (expr_of m) (expr_of k)) place
unfolding tree_of
tree_map_delete m k place = search (rules, declared_cmd.the_lemmas)

pub tree_new_mutex : (x : ℕ) (place : Place) → tree_of (cmd.NewMutex x place) ≡ Do (tree.NewMutex x) place
unfolding tree_of
tree_new_mutex x place = search (rules, declared_cmd.the_lemmas)

pub tree_lock : (m : Pure) (place : Place) → tree_of (cmd.Lock m place) ≡ Do (tree.Lock (expr_of m)) place
unfolding tree_of
tree_lock m place = search (rules, declared_cmd.the_lemmas)

pub tree_unlock : (m : Pure) (place : Place) → tree_of (cmd.Unlock m place) ≡ Do (tree.Unlock (expr_of m)) place
unfolding tree_of
tree_unlock m place = search (rules, declared_cmd.the_lemmas)

pub tree_disk_read : (x : ℕ) (a : Pure) (place : Place) → tree_of (cmd.DiskRead x a place) ≡ Do (tree.DiskRead x (expr_of a)) place
unfolding tree_of
tree_disk_read x a place = search (rules, declared_cmd.the_lemmas)

pub tree_disk_read2 : (x : ℕ) (ok : ℕ) (d : Pure) (a : Pure) (place : Place) → tree_of (cmd.DiskRead2 x ok d a place) ≡ Do (tree.DiskRead2 x ok (expr_of d) (expr_of a)) place
unfolding tree_of
tree_disk_read2 x ok d a place = search (rules, declared_cmd.the_lemmas)

pub tree_disk_write : (d : Pure) (a : Pure) (s : Pure) (place : Place) → tree_of (cmd.DiskWrite d a s place) ≡ Do (tree.DiskWrite (expr_of d) (expr_of a) (expr_of s)) place
unfolding tree_of
tree_disk_write d a s place = search (rules, declared_cmd.the_lemmas)

pub tree_disk_size : (x : ℕ) (place : Place) → tree_of (cmd.DiskSize x place) ≡ Do (tree.DiskSize x) place
unfolding tree_of
tree_disk_size x place = search (rules, declared_cmd.the_lemmas)

pub tree_get64 : (x : ℕ) (s : Pure) (place : Place) → tree_of (cmd.Get64 x s place) ≡ Do (tree.Get64 x (expr_of s)) place
unfolding tree_of
tree_get64 x s place = search (rules, declared_cmd.the_lemmas)

pub tree_put64 : (s : Pure) (v : Pure) (place : Place) → tree_of (cmd.Put64 s v place) ≡ Do (tree.Put64 (expr_of s) (expr_of v)) place
unfolding tree_of
tree_put64 s v place = search (rules, declared_cmd.the_lemmas)

pub tree_sub : (x : ℕ) (s : Pure) (a : Pure) (b : Pure) (place : Place) → tree_of (cmd.Sub x s a b place) ≡ Do (tree.Sub x (expr_of s) (expr_of a) (expr_of b)) place
unfolding tree_of
tree_sub x s a b place = search (rules, declared_cmd.the_lemmas)

pub tree_append : (x : ℕ) (item : ItemKind) (s : Pure) (v : Pure) (place : Place) → tree_of (cmd.Append x item s v place) ≡ Do (tree.Append x item (expr_of s) (expr_of v)) place
unfolding tree_of
tree_append x item s v place = search (rules, declared_cmd.the_lemmas)

pub tree_call : (xs : List ℕ) (f : ℕ) (es : List Pure) (place : Place) → tree_of (cmd.Call xs f es place) ≡ Do (tree.Call xs f (exprs_of es)) place
unfolding tree_of
tree_call xs f es place = search (rules, declared_cmd.the_lemmas)

pub tree_spawn : (f : ℕ) (es : List Pure) (place : Place) → tree_of (cmd.Spawn f es place) ≡ Do (tree.Spawn f (exprs_of es)) place
unfolding tree_of
tree_spawn f es place = search (rules, declared_cmd.the_lemmas)

pub tree_if : (e : Pure) (then : List Declared) (other : List Declared) (place : Place) → tree_of (cmd.If e then other place) ≡ tree.If (expr_of e) (body_of then) (body_of other) place
unfolding tree_of
tree_if e then other place = search (rules, declared_cmd.the_lemmas)

pub tree_loop : (body : List Declared) (place : Place) → tree_of (cmd.Loop body place) ≡ tree.Loop (body_of body) place
unfolding tree_of
tree_loop body place = search (rules, declared_cmd.the_lemmas)

pub tree_break : (place : Place) → tree_of (cmd.Break place) ≡ tree.Break place
unfolding tree_of
tree_break place = search (rules, declared_cmd.the_lemmas)

pub tree_continue : (place : Place) → tree_of (cmd.Continue place) ≡ tree.Continue place
unfolding tree_of
tree_continue place = search (rules, declared_cmd.the_lemmas)

pub tree_return : (es : List Pure) (place : Place) → tree_of (cmd.Return es place) ≡ tree.Return (exprs_of es) place
unfolding tree_of
tree_return es place = search (rules, declared_cmd.the_lemmas)

pub ruleset commands = (tree_let, tree_div, tree_rem, tree_new, tree_load, tree_store, tree_make_slice, tree_at, tree_put, tree_len, tree_new_map, tree_map_get, tree_map_put, tree_map_delete, tree_new_mutex, tree_lock, tree_unlock, tree_disk_read, tree_disk_read2, tree_disk_write, tree_disk_size, tree_get64, tree_put64, tree_sub, tree_append, tree_call, tree_spawn, tree_if, tree_loop, tree_break, tree_continue, tree_return)

-- Declared programs as plain ones.
use Rattle.std.specs.Prelude.{List, [], ◌∷◌, map}
use Rattle.gv_lang.specs.declared.pure.Pure.{Pure, fold-Pure}
use Rattle.gv_lang.specs.declared.pure.Pure.TheOpen as pure
use Rattle.gv_lang.specs.declared.pure.Pure.TheOpen.{Pure-F}
use Rattle.gv_lang.specs.declared.cmd.Cmd.{Cmd as Declared, fold-Cmd}
use Rattle.gv_lang.specs.declared.cmd.Cmd.TheOpen as cmd
use Rattle.gv_lang.specs.declared.cmd.Cmd.TheOpen.{Cmd-F}
use Rattle.gv_lang.specs.declared.program.Proc.{Proc as DeclaredProc}
use Rattle.gv_lang.specs.declared.program.Program.{Program as DeclaredProgram}
use Rattle.gv_lang.specs.Tree as tree
use Rattle.gv_lang.specs.Tree.{Expr, Cmd, Do, Block, finish, next, Proc, Program}

-- one level of an expression, over plain ones
abbrev pub expr_here : Pure-F Expr → Expr
expr_here (pure.Word n) = tree.Number n
expr_here (pure.Bool b) = tree.Truth b
expr_here pure.Nil = tree.Nil
expr_here pure.NilSlice = tree.NilSlice
expr_here (pure.Local x) = tree.LocalAt x
expr_here (pure.Unary o e) = tree.One o e.value
expr_here (pure.Binary o a b) = tree.Two o a.value b.value

unfoldable pub expr_of : Pure → Expr
expr_of = fold-Pure Expr expr_here

abbrev pub exprs_of : List Pure → List Expr
exprs_of es = map expr_of es

abbrev pub block_of : List Cmd → Block
block_of [] = finish
block_of (c ∷ cs) = next c (block_of cs)

-- one level of a command, whose blocks are plain already
abbrev pub tree_here : Cmd-F Cmd → Cmd
tree_here (cmd.Let x e place) = Do (tree.Let x (expr_of e)) place
tree_here (cmd.Div x a b place) = Do (tree.Div x (expr_of a) (expr_of b)) place
tree_here (cmd.Rem x a b place) = Do (tree.Rem x (expr_of a) (expr_of b)) place
tree_here (cmd.New x of vs place) = Do (tree.New x of (exprs_of vs)) place
tree_here (cmd.Load x p of field place) = Do (tree.Load x (expr_of p) of field) place
tree_here (cmd.Store p of field e place) = Do (tree.Store (expr_of p) of field (expr_of e)) place
tree_here (cmd.MakeSlice x item n place) = Do (tree.MakeSlice x item (expr_of n)) place
tree_here (cmd.At x s i place) = Do (tree.At x (expr_of s) (expr_of i)) place
tree_here (cmd.Put s i v place) = Do (tree.Put (expr_of s) (expr_of i) (expr_of v)) place
tree_here (cmd.Len x s place) = Do (tree.Len x (expr_of s)) place
tree_here (cmd.NewMap x place) = Do (tree.NewMap x) place
tree_here (cmd.MapGet x ok m k place) = Do (tree.MapGet x ok (expr_of m) (expr_of k)) place
tree_here (cmd.MapPut m k v place) = Do (tree.MapPut (expr_of m) (expr_of k) (expr_of v)) place
tree_here (cmd.MapDelete m k place) = Do (tree.MapDelete (expr_of m) (expr_of k)) place
tree_here (cmd.NewMutex x place) = Do (tree.NewMutex x) place
tree_here (cmd.Lock m place) = Do (tree.Lock (expr_of m)) place
tree_here (cmd.Unlock m place) = Do (tree.Unlock (expr_of m)) place
tree_here (cmd.DiskRead x a place) = Do (tree.DiskRead x (expr_of a)) place
tree_here (cmd.DiskRead2 x ok d a place) = Do (tree.DiskRead2 x ok (expr_of d) (expr_of a)) place
tree_here (cmd.DiskWrite d a s place) = Do (tree.DiskWrite (expr_of d) (expr_of a) (expr_of s)) place
tree_here (cmd.DiskSize x place) = Do (tree.DiskSize x) place
tree_here (cmd.Get64 x s place) = Do (tree.Get64 x (expr_of s)) place
tree_here (cmd.Put64 s v place) = Do (tree.Put64 (expr_of s) (expr_of v)) place
tree_here (cmd.Sub x s a b place) = Do (tree.Sub x (expr_of s) (expr_of a) (expr_of b)) place
tree_here (cmd.Append x item s v place) = Do (tree.Append x item (expr_of s) (expr_of v)) place
tree_here (cmd.Call xs f es place) = Do (tree.Call xs f (exprs_of es)) place
tree_here (cmd.Spawn f es place) = Do (tree.Spawn f (exprs_of es)) place
tree_here (cmd.If e then other place) = tree.If (expr_of e) (block_of then) (block_of other) place
tree_here (cmd.Loop body place) = tree.Loop (block_of body) place
tree_here (cmd.Break place) = tree.Break place
tree_here (cmd.Continue place) = tree.Continue place
tree_here (cmd.Return es place) = tree.Return (exprs_of es) place

unfoldable pub tree_of : Declared → Cmd
tree_of = fold-Cmd Cmd tree_here

abbrev pub body_of : List Declared → Block
body_of cs = block_of (map tree_of cs)

abbrev pub proc_of : DeclaredProc → Proc
proc_of p = record { name = p.name; params = p.params; locals = p.locals; results = p.results; body = body_of p.body }

abbrev pub program_of : DeclaredProgram → Program
program_of g = record { structs = g.structs; procs = map proc_of g.procs; recover = g.recover; ops = g.ops }

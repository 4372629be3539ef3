-- Heads of declarations, and declarations that have a head and nothing else.
use Rattle.std.specs.Prelude.{List, map, None}
use Rattle.gv_gosyntax.specs.declared.tree.Decl.{Decl as DeclaredDecl}
use Rattle.gv_gotypes.specs.Trees as decl
use Rattle.gv_gotypes.specs.Trees.{Decl, FuncTree, Constant, braces, no_more, decl_of}
use Rattle.gv_goheads.specs.declared.head.FuncHead.{FuncHead}
use Rattle.gv_goheads.specs.declared.head.Head.{Head}
use Rattle.gv_goheads.specs.declared.head.Head.TheVariants as head

abbrev pub func_head : FuncTree → FuncHead
func_head f = record { receiver = f.receiver; name = f.name; params = f.params; results = f.results }

-- what a declaration is without its body or its value
abbrev pub head_of : Decl → Head
head_of (decl.Struct i gs) = head.Struct i gs
head_of (decl.Const i u e) = head.Const i
head_of (decl.Func f) = head.Func (func_head f)

abbrev pub heads_of : List DeclaredDecl → List Head
heads_of ds = map (λ d. head_of (decl_of d)) ds

-- a declaration with this head
abbrev pub bare_func : FuncHead → FuncTree
bare_func f = record { receiver = f.receiver; name = f.name; params = f.params; results = f.results; body = braces f.name no_more f.name }

abbrev pub bare : Head → Decl
bare (head.Struct i gs) = decl.Struct i gs
bare (head.Const i) = decl.Const i None (Constant i)
bare (head.Func f) = decl.Func (bare_func f)

abbrev pub bares : List Head → List Decl
bares hs = map bare hs

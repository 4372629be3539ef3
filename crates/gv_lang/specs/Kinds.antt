-- Which commands have operands, arguments and results of the kinds that their places want, and numbers in range.
use Rattle.std.specs.Prelude.{ℕ, Bool, true, false, ◌&&◌, ◌||◌, List, [], ◌∷◌, Option, Some, None, map, take, slice_get, option_map, if◌then◌else◌}
use Rattle.gv_lang.specs.declared.pure.Unary.{Unary}
use Rattle.gv_lang.specs.declared.pure.Unary.TheVariants as unary
use Rattle.gv_lang.specs.declared.pure.Binary.{Binary}
use Rattle.gv_lang.specs.declared.pure.Binary.TheVariants as binary
use Rattle.gv_lang.specs.declared.program.ItemKind.{ItemKind}
use Rattle.gv_lang.specs.declared.program.ItemKind.TheVariants as item
use Rattle.gv_lang.specs.declared.program.LocalKind.{LocalKind}
use Rattle.gv_lang.specs.declared.program.LocalKind.TheVariants as kind
use Rattle.gv_lang.specs.declared.program.Local.{Local}
use Rattle.gv_lang.specs.Tree.{Expr, Number, Truth, Nil, NilSlice, LocalAt, One, Two, Action, Let, Div, Rem, New, Load, Store, MakeSlice, At, Put, Len, NewMap, MapGet, MapPut, MapDelete, NewMutex, Lock, Unlock, DiskRead, DiskRead2, DiskWrite, DiskSize, Get64, Put64, Sub, Append, Call, Spawn, Cmd, Do, If, Loop, Break, Continue, Return, Block, finish, next, Proc, Program}

abbrev pub kind_eq : LocalKind → LocalKind → Bool
kind_eq kind.Word kind.Word = true
kind_eq kind.Bool kind.Bool = true
kind_eq kind.Ref kind.Ref = true
kind_eq kind.Slice kind.Slice = true
kind_eq _ _ = false

-- whether there is a kind, and it is this one
abbrev pub is_kind : LocalKind → Option LocalKind → Bool
is_kind k None = false
is_kind k (Some j) = kind_eq j k

-- whether both are there, and are the same
abbrev pub agree : Option LocalKind → Option LocalKind → Bool
agree j None = false
agree j (Some k) = is_kind k j

-- whether they are as many, and each is there and the one wanted
abbrev pub agree_all : List (Option LocalKind) → List LocalKind → Bool
agree_all [] [] = true
agree_all (j ∷ js) (k ∷ ks) = is_kind k j && agree_all js ks
agree_all [] (k ∷ ks) = false
agree_all (j ∷ js) [] = false

-- ---- the kinds of expressions

-- the kind of a local or a field by its place
abbrev pub kind_at : List Local → ℕ → Option LocalKind
kind_at locals x = option_map (λ l. l.kind) (slice_get locals x)

abbrev pub kind_of_one : Unary → Option LocalKind → Option LocalKind
kind_of_one unary.Not k = if is_kind kind.Bool k then k else None
kind_of_one unary.Complement k = if is_kind kind.Word k then k else None

-- whether an operator on two values of one kind takes that kind
abbrev pub takes : Binary → Option LocalKind → Bool
takes binary.Or k = is_kind kind.Bool k
takes binary.And k = is_kind kind.Bool k
takes binary.Equal k = true
takes _ k = is_kind kind.Word k

abbrev pub gives : Binary → LocalKind
gives binary.Or = kind.Bool
gives binary.And = kind.Bool
gives binary.Equal = kind.Bool
gives binary.Less = kind.Bool
gives binary.AtMost = kind.Bool
gives _ = kind.Word

abbrev pub kind_of_two : Binary → Option LocalKind → Option LocalKind → Option LocalKind
kind_of_two o j k = if agree j k && takes o k then Some (gives o) else None

-- the kind of an expression, where each of its operators has operands of its kinds and each local is there
abbrev pub kind_of : List Local → Expr → Option LocalKind
kind_of locals (Number n) = Some kind.Word
kind_of locals (Truth b) = Some kind.Bool
kind_of locals Nil = Some kind.Ref
kind_of locals NilSlice = Some kind.Slice
kind_of locals (LocalAt x) = kind_at locals x
kind_of locals (One o e) = kind_of_one o (kind_of locals e)
kind_of locals (Two o a b) = kind_of_two o (kind_of locals a) (kind_of locals b)

-- ---- the kinds of commands

-- an item of a slice, as a local has it
abbrev pub item_kind : ItemKind → LocalKind
item_kind item.Byte = kind.Word
item_kind item.Word = kind.Word
item_kind item.Ref = kind.Ref

-- whether it is the kind of some slice's items
abbrev pub is_item : Option LocalKind → Bool
is_item k = is_kind kind.Word k || is_kind kind.Ref k

abbrev pub kinds : List Local → List LocalKind
kinds locals = map (λ l. l.kind) locals

abbrev pub fields_of : Program → ℕ → Option (List Local)
fields_of g of = option_map (λ s. s.fields) (slice_get g.structs of)

abbrev pub kind_in : Option (List Local) → ℕ → Option LocalKind
kind_in None field = None
kind_in (Some fields) field = kind_at fields field

abbrev pub are_fields : Option (List Local) → List (Option LocalKind) → Bool
are_fields None given = false
are_fields (Some fields) given = agree_all given (kinds fields)

abbrev pub params_of : Proc → List LocalKind
params_of q = kinds (take q.params q.locals)

abbrev pub are_args : Option Proc → List (Option LocalKind) → Bool
are_args None given = false
are_args (Some q) given = agree_all given (params_of q)

abbrev pub are_results : Option Proc → List (Option LocalKind) → Bool
are_results None given = false
are_results (Some q) given = agree_all given q.results

module _ (g : Program) (locals : List Local) where
  -- whether an operand is of this kind, and whether a local is
  abbrev pub is : LocalKind → Expr → Bool
  is k e = is_kind k (kind_of locals e)

  abbrev pub sets : LocalKind → ℕ → Bool
  sets k x = is_kind k (kind_at locals x)

  abbrev pub given : List Expr → List (Option LocalKind)
  given es = map (kind_of locals) es

  abbrev pub is_typed_action : Action → Bool
  is_typed_action (Let x e) = agree (kind_at locals x) (kind_of locals e)
  is_typed_action (Div x a b) = sets kind.Word x && is kind.Word a && is kind.Word b
  is_typed_action (Rem x a b) = sets kind.Word x && is kind.Word a && is kind.Word b
  is_typed_action (New x of vs) = sets kind.Ref x && are_fields (fields_of g of) (given vs)
  is_typed_action (Load x p of field) = agree (kind_at locals x) (kind_in (fields_of g of) field) && is kind.Ref p
  is_typed_action (Store p of field e) = is kind.Ref p && agree (kind_of locals e) (kind_in (fields_of g of) field)
  is_typed_action (MakeSlice x item n) = sets kind.Slice x && is kind.Word n
  is_typed_action (At x s i) = is_item (kind_at locals x) && is kind.Slice s && is kind.Word i
  is_typed_action (Put s i v) = is kind.Slice s && is kind.Word i && is_item (kind_of locals v)
  is_typed_action (Len x s) = sets kind.Word x && is kind.Slice s
  is_typed_action (NewMap x) = sets kind.Ref x
  is_typed_action (MapGet x ok m k) = sets kind.Word x && sets kind.Bool ok && is kind.Ref m && is kind.Word k
  is_typed_action (MapPut m k v) = is kind.Ref m && is kind.Word k && is kind.Word v
  is_typed_action (MapDelete m k) = is kind.Ref m && is kind.Word k
  is_typed_action (NewMutex x) = sets kind.Ref x
  is_typed_action (Lock m) = is kind.Ref m
  is_typed_action (Unlock m) = is kind.Ref m
  is_typed_action (DiskRead x a) = sets kind.Slice x && is kind.Word a
  is_typed_action (DiskRead2 x ok d a) = sets kind.Slice x && sets kind.Bool ok && is kind.Word d && is kind.Word a
  is_typed_action (DiskWrite d a s) = is kind.Word d && is kind.Word a && is kind.Slice s
  is_typed_action (DiskSize x) = sets kind.Word x
  is_typed_action (Get64 x s) = sets kind.Word x && is kind.Slice s
  is_typed_action (Put64 s v) = is kind.Slice s && is kind.Word v
  is_typed_action (Sub x s a b) = sets kind.Slice x && is kind.Slice s && is kind.Word a && is kind.Word b
  is_typed_action (Append x item s v) = sets kind.Slice x && is kind.Slice s && is (item_kind item) v
  is_typed_action (Call xs f es) = are_args (slice_get g.procs f) (given es) && are_results (slice_get g.procs f) (map (kind_at locals) xs)
  is_typed_action (Spawn f es) = are_args (slice_get g.procs f) (given es)

  module _ (results : List LocalKind) where
    abbrev mutual
      pub is_typed_block : Block → Bool
      is_typed_block finish = true
      is_typed_block (next c b) = is_typed c && is_typed_block b

      pub is_typed : Cmd → Bool
      is_typed (Do a place) = is_typed_action a
      is_typed (If e t f place) = is kind.Bool e && is_typed_block t && is_typed_block f
      is_typed (Loop body place) = is_typed_block body
      is_typed (Break place) = true
      is_typed (Continue place) = true
      is_typed (Return es place) = agree_all (given es) results

-- What operands become: commands that read, and an expression over locals for what is left. Whether a read sets what is assigned or a
-- temporary is left to the place where its operand stands.
use Rattle.std.specs.Prelude.{ℕ, suc, ◌+◌, Bool, true, false, ◌&&◌, ◌||◌, ◌==◌, is_some, if◌then◌else◌, List, [], ◌∷◌, ◌++◌, length, Option, Some, None, option_and_then}
use Rattle.gv_base.specs.declared.answers.Place.{Place}
use Rattle.gv_lang.specs.declared.pure.Unary.TheVariants as unary
use Rattle.gv_lang.specs.declared.pure.Binary.TheVariants as binary
use Rattle.gv_lang.specs.declared.program.LocalKind.{LocalKind}
use Rattle.gv_lang.specs.declared.program.LocalKind.TheVariants as kind
use Rattle.gv_lang.specs.Tree as lang
use Rattle.gv_gosyntax.specs.declared.generated.gosyntax_table.TheConstants as class
use Rattle.gv_gosyntax.specs.declared.lexeme.Lexeme.{Lexeme}
use Rattle.gv_operands.specs.declared.types.Base.TheVariants.{Struct}
use Rattle.gv_operands.specs.declared.types.GoType.{GoType}
use Rattle.gv_operands.specs.declared.types.GoType.TheVariants.{Word, Byte, Boolean, Bytes, Words, Pointers, Map, Pointer}
use Rattle.gv_operands.specs.declared.types.Value.TheVariants.{Count, Truth}
use Rattle.gv_operands.specs.declared.types.Class.{Class}
use Rattle.gv_operands.specs.declared.types.Class.TheVariants.{Run, Fixed}
use Rattle.gv_operands.specs.Types.{item_of, own_type_of}
use Rattle.gv_gotypes.specs.Trees as go
use Rattle.gv_gotypes.specs.declared.names.Entity.{Entity}
use Rattle.gv_gotypes.specs.declared.names.Entity.TheVariants.{Variable}
use Rattle.gv_gotypes.specs.Scopes.{Env, name_in, entity_named}
use Rattle.gv_gotypes.specs.Members.{Member, FieldOf, base_member}
use Rattle.gv_gotypes.specs.Expressions.{operand}

-- ---- locals

-- A local of a procedure before it has a place among the others: a variable, by the byte of the text where its name is declared, or a
-- temporary, by its number from 1.
pub data Local : Type 0 where
  VariableAt : ℕ → Local
  Temporary : ℕ → Local

-- Where things have their places: locals of the procedure, declared procedures by their order in the text, and the procedure of the
-- literal behind the `go` at a byte.
pub record Context : Type 0 where
  pub place : Local → ℕ
  pub procedure : ℕ → ℕ
  pub literal : ℕ → ℕ

-- the kind of a type's values
abbrev pub kind_of : GoType → LocalKind
kind_of Word = kind.Word
kind_of Byte = kind.Word
kind_of Boolean = kind.Bool
kind_of Bytes = kind.Slice
kind_of Words = kind.Slice
kind_of (Pointers b) = kind.Slice
kind_of Map = kind.Ref
kind_of (Pointer b) = kind.Ref

abbrev pub kind_if : Option GoType → LocalKind
kind_if None = kind.Word
kind_if (Some t) = kind_of t

-- ---- what is made of an operand

-- how it ends: in an expression, or in a read, of some kind, that may set any local; a read of a map sets a second one
pub data Last : Type 0 where
  Value : lang.Expr → Last
  Reads : LocalKind → (ℕ → lang.Action) → Last
  ReadsMap : (m k : lang.Expr) → Last

-- the commands before its end, and the kinds of the temporaries that they set, in order of use
pub record Tail : Type 0 where
  pub before : List lang.Cmd
  pub temps : List LocalKind
  pub last : Last

-- an operand that is no whole right side: an expression over locals behind these commands
pub record Read : Type 0 where
  pub cmds : List lang.Cmd
  pub temps : List LocalKind
  pub value : lang.Expr

abbrev pub plain : lang.Expr → Tail
plain v = record { before = []; temps = []; last = Value v }

abbrev pub after : Read → Last → Tail
after r last = record { before = r.cmds; temps = r.temps; last = last }

-- the temporary that is used when so many are in use
abbrev pub temporary : Context → ℕ → ℕ
temporary c n = c.place (Temporary (suc n))

abbrev pub settled_by : Context → Place → ℕ → List lang.Cmd → List LocalKind → Last → Read
settled_by c at n before temps (Value v) = record { cmds = before; temps = temps; value = v }
settled_by c at n before temps (Reads k f) = record {
  cmds = before ++ lang.Do (f (temporary c (n + length temps))) at ∷ [];
  temps = temps ++ k ∷ [];
  value = lang.LocalAt (temporary c (n + length temps));
}
settled_by c at n before temps (ReadsMap m k) = record {
  cmds = before ++ lang.Do (lang.MapGet (temporary c (n + length temps)) (temporary c (n + length temps + 1)) m k) at ∷ [];
  temps = temps ++ kind.Word ∷ kind.Bool ∷ [];
  value = lang.LocalAt (temporary c (n + length temps));
}

-- a read sets a temporary; n were in use before the operand
abbrev pub settled : Context → Place → ℕ → Tail → Read
settled c at n t = settled_by c at n t.before t.temps t.last

-- ---- constants, nil and names

-- a constant is one number or truth value
abbrev pub constant_of : Option Class → Option lang.Expr
constant_of (Some (Fixed k (Some (Count v)))) = Some (lang.Number v)
constant_of (Some (Fixed k (Some (Truth b)))) = Some (lang.Truth b)
constant_of c = None

abbrev pub or_constant : Env → go.Expr → Tail → Tail
or_constant env e made = elim (constant_of (operand env e).class) as (λ _. Tail) [ None ↦ made | Some v ↦ plain v ]

-- nil where such a type is wanted
abbrev pub nil_of : Option GoType → lang.Expr
nil_of t = if is_some (option_and_then item_of t) then lang.NilSlice else lang.Nil

abbrev pub variable_in : Context → Option Entity → lang.Expr
variable_in c (Some (Variable declared k)) = lang.LocalAt (c.place (VariableAt declared))
variable_in c e = lang.Nil

-- ---- fields, items and operators

abbrev pub field_read : lang.Expr → ℕ → Option Member → Last
field_read p of (Some (FieldOf field k)) = Reads (kind_if k) (λ x. lang.Load x p of field)
field_read p of m = Value p

abbrev pub selected : Env → Lexeme → Option Class → lang.Expr → Last
selected env t (Some (Run (Pointer (Struct of)))) p = field_read p of (base_member env.declared (Struct of) (name_in env.source t))
selected env t c p = Value p

abbrev pub indexed : Option GoType → lang.Expr → lang.Expr → Last
indexed (Some Map) m k = ReadsMap m k
indexed t s i = Reads (kind_if (option_and_then item_of t)) (λ x. lang.At x s i)

-- the first row with the class
abbrev pub chosen : {A : Type 0} → List (ℕ × A) → A → ℕ → A
chosen [] other c = other
chosen (row ∷ rows) other c = if row.0 == c then row.1 else chosen rows other c

-- `a > b` is `b < a`, and `a != b` is `!(a == b)`
abbrev pub two_operands : lang.Expr → lang.Expr → List (ℕ × Last)
two_operands a b =
    (class.CLASS_SLASH, Reads kind.Word (λ x. lang.Div x a b))
    ∷ (class.CLASS_PERCENT, Reads kind.Word (λ x. lang.Rem x a b))
    ∷ (class.CLASS_OR_OR, Value (lang.Two binary.Or a b))
    ∷ (class.CLASS_AND_AND, Value (lang.Two binary.And a b))
    ∷ (class.CLASS_EQUAL, Value (lang.Two binary.Equal a b))
    ∷ (class.CLASS_NOT_EQUAL, Value (lang.One unary.Not (lang.Two binary.Equal a b)))
    ∷ (class.CLASS_LESS, Value (lang.Two binary.Less a b))
    ∷ (class.CLASS_AT_MOST, Value (lang.Two binary.AtMost a b))
    ∷ (class.CLASS_GREATER, Value (lang.Two binary.Less b a))
    ∷ (class.CLASS_AT_LEAST, Value (lang.Two binary.AtMost b a))
    ∷ (class.CLASS_PLUS, Value (lang.Two binary.Plus a b))
    ∷ (class.CLASS_MINUS, Value (lang.Two binary.Minus a b))
    ∷ (class.CLASS_BAR, Value (lang.Two binary.BitOr a b))
    ∷ (class.CLASS_CARET, Value (lang.Two binary.BitXor a b))
    ∷ (class.CLASS_STAR, Value (lang.Two binary.Times a b))
    ∷ (class.CLASS_SHIFT_LEFT, Value (lang.Two binary.ShiftLeft a b))
    ∷ (class.CLASS_SHIFT_RIGHT, Value (lang.Two binary.ShiftRight a b))
    ∷ (class.CLASS_AMP, Value (lang.Two binary.BitAnd a b))
    ∷ (class.CLASS_AMP_CARET, Value (lang.Two binary.BitClear a b))
    ∷ []

abbrev pub operated : ℕ → lang.Expr → lang.Expr → Last
operated sign a b = chosen (two_operands a b) (Value a) sign

abbrev pub one_operand : ℕ → lang.Expr → lang.Expr
one_operand sign e = if sign == class.CLASS_BANG then lang.One unary.Not e else lang.One unary.Complement e

-- `uint64(e)` is e, however e ends
abbrev pub converted : ℕ → Tail → Read → Tail
converted word inner r =
    if word == class.CLASS_UINT64 then inner else (
    if word == class.CLASS_BYTE then after r (Reads kind.Word (λ x. lang.Rem x r.value (lang.Number 256)))
    else after r (Reads kind.Word (λ x. lang.Len x r.value)))

-- ---- both operands, or the right one where it is needed

abbrev pub block_of : List lang.Cmd → lang.Block
block_of [] = lang.finish
block_of (c ∷ cs) = lang.next c (block_of cs)

abbrev pub is_short : ℕ → Bool
is_short sign = sign == class.CLASS_AND_AND || sign == class.CLASS_OR_OR

abbrev pub has_reads : Read → Bool
has_reads r = elim r.cmds as (λ _. Bool) [ [] ↦ false | c ∷ cs ↦ true ]

-- one after the other
abbrev pub both : ℕ → Read → Read → Tail
both sign r s = record { before = r.cmds ++ s.cmds; temps = r.temps ++ s.temps; last = operated sign r.value s.value }

-- The left one into a temporary; the right one, which reads, is taken within an If on it.
abbrev pub guarded_if : ℕ → lang.Expr → lang.Block → Place → lang.Cmd
guarded_if sign t right at = if sign == class.CLASS_AND_AND then lang.If t right lang.finish at else lang.If t lang.finish right at

abbrev pub guarded : Context → Place → ℕ → ℕ → Read → Read → Tail
guarded c at n sign r s = let x = temporary c (n + length r.temps) in record {
  before = r.cmds ++ (lang.Do (lang.Let x r.value) at
      ∷ guarded_if sign (lang.LocalAt x) (block_of (s.cmds ++ lang.Do (lang.Let x s.value) at ∷ [])) at ∷ []);
  temps = r.temps ++ kind.Bool ∷ s.temps;
  last = Value (lang.LocalAt x);
}

-- the right operand from each count of temporaries on
abbrev pub joined : Context → Place → ℕ → ℕ → Read → (ℕ → Read) → Tail
joined c at n sign r right =
    if is_short sign && has_reads (right (n + length r.temps))
    then guarded c at n sign r (right (n + length r.temps + 1))
    else both sign r (right (n + length r.temps))

-- ---- every operand

-- A bound that is left out: 0 at the start, and the length, which is read in its place, at the end.
abbrev pub no_low : Read
no_low = record { cmds = []; temps = []; value = lang.Number 0 }

abbrev pub no_high : Context → Place → ℕ → lang.Expr → Read
no_high c at n s = settled c at n (record { before = []; temps = []; last = Reads kind.Word (λ x. lang.Len x s) })

abbrev pub part_of : Read → Read → Read → Tail
part_of r a b = record {
  before = r.cmds ++ (a.cmds ++ b.cmds);
  temps = r.temps ++ (a.temps ++ b.temps);
  last = Reads kind.Slice (λ x. lang.Sub x r.value a.value b.value);
}

module _ (c : Context) (at : Place) (env : Env) where
  abbrev mutual
    -- an operand in a place that wants a type, behind n temporaries
    pub tail : go.Expr → Option GoType → ℕ → Tail
    tail (go.Constant t) want n = or_constant env (go.Constant t) (plain (nil_of want))
    tail (go.Name t) want n = or_constant env (go.Name t) (plain (variable_in c (entity_named env (name_in env.source t))))
    tail (go.Paren t e) want n = tail e want n
    tail (go.Convert w e) want n =
        or_constant env (go.Convert w e) (converted w.class (tail e None n) (settled c at n (tail e None n)))
    tail (go.Select e t) want n = or_constant env (go.Select e t) (let r = settled c at n (tail e None n) in
        after r (selected env t (operand env e).class r.value))
    tail (go.Index e i) want n = let r = settled c at n (tail e None n) in let s = settled c at (n + length r.temps) (tail i None (n + length r.temps)) in
        record {
          before = r.cmds ++ s.cmds;
          temps = r.temps ++ s.temps;
          last = indexed (own_type_of (operand env e).class) r.value s.value;
        }
    tail (go.Slice e a b) want n = let r = settled c at n (tail e None n) in let low = low_of a (n + length r.temps) in
        part_of r low (high_of b r.value (n + length r.temps + length low.temps))
    tail (go.Unary t e) want n = or_constant env (go.Unary t e) (let r = settled c at n (tail e None n) in
        after r (Value (one_operand t.class r.value)))
    tail (go.Binary a t b) want n = or_constant env (go.Binary a t b)
        (joined c at n t.class (settled c at n (tail a None n)) (λ m. settled c at m (tail b None m)))

    pub low_of : go.Bound → ℕ → Read
    low_of go.left_out n = no_low
    low_of (go.bound e) n = settled c at n (tail e None n)

    pub high_of : go.Bound → lang.Expr → ℕ → Read
    high_of go.left_out s n = no_high c at n s
    high_of (go.bound e) s n = settled c at n (tail e None n)

  -- an operand that is no whole right side
  abbrev pub read : go.Expr → Option GoType → ℕ → Read
  read e want n = settled c at n (tail e want n)

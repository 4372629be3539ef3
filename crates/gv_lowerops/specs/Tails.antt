-- What the code makes of operands, beside what the translation makes of them.
use Rattle.std.specs.Prelude.{◌≡◌, ℕ, List, ◌++◌, length, map, Option, None}
use Rattle.gv_base.specs.declared.answers.Place.{Place}
use Rattle.gv_lang.specs.Plain.{expr_of, tree_of}
use Rattle.gv_lang.specs.Tree as lang
use Rattle.gv_lang.specs.declared.program.LocalKind.{LocalKind}
use Rattle.gv_lang.specs.declared.pure.Pure.{Pure}
use Rattle.gv_gosyntax.specs.declared.lexeme.Lexeme.{Lexeme}
use Rattle.gv_operands.specs.declared.types.GoType.{GoType}
use Rattle.gv_gotypes.specs.Trees as go
use Rattle.gv_gotypes.specs.Scopes.{Env}
use Rattle.gv_gotyped.specs.Operands.{IsOperand}
use Rattle.gv_gotyped.specs.Parts.{IsBound}
use Rattle.gv_lowering.specs.Operands as lower
use Rattle.gv_lowering.specs.Operands.{Context}
use Rattle.gv_lowerops.specs.declared.draft.Draft.{Draft}
use Rattle.gv_lowerops.specs.declared.draft.Mark.{Mark}
use Rattle.gv_lowerops.specs.declared.draft.Tail.{Tail}
use Rattle.gv_lowerops.specs.declared.draft.Read.{Read}
use Rattle.gv_lowerops.specs.declared.draft.KnownTail.{KnownTail}
use Rattle.gv_lowerops.specs.declared.draft.KnownRead.{KnownRead}
use Rattle.gv_lowerops.specs.declared.draft.KnownBound.{KnownBound}
use Rattle.gv_lowerops.specs.declared.last.Reading.{Reading}
use Rattle.gv_lowerops.specs.declared.last.Reading.TheVariants as reading
use Rattle.gv_lowerops.specs.declared.last.Last.{Last}
use Rattle.gv_lowerops.specs.declared.last.Last.TheVariants as last

-- what a read does that sets a local
abbrev pub read_by : Reading → ℕ → lang.Action
read_by (reading.Load p of field) x = lang.Load x (expr_of p) of field
read_by (reading.At s i) x = lang.At x (expr_of s) (expr_of i)
read_by (reading.Div a b) x = lang.Div x (expr_of a) (expr_of b)
read_by (reading.Rem a b) x = lang.Rem x (expr_of a) (expr_of b)
read_by (reading.Len s) x = lang.Len x (expr_of s)
read_by (reading.Sub s a b) x = lang.Sub x (expr_of s) (expr_of a) (expr_of b)

abbrev pub last_of : Last → lower.Last
last_of (last.Value v) = lower.Value (expr_of v)
last_of (last.Reads k r) = lower.Reads k (λ x. read_by r x)
last_of (last.ReadsMap m k) = lower.ReadsMap (expr_of m) (expr_of k)

-- These commands, and temporaries of these kinds, behind what was made before.
pub record IsBehind (old new : Draft) (cs : List lang.Cmd) (ks : List LocalKind) : Type 0 where
  pub cmds : map tree_of new.cmds.items ≡ map tree_of old.cmds.items ++ cs
  pub temps : new.temps.items ≡ old.temps.items ++ ks

pub record IsTailBehind (old : Draft) (made : Tail) (t : lower.Tail) : Type 0 where
  pub behind : IsBehind old made.draft t.before t.temps
  pub last : last_of made.last ≡ t.last

pub record IsReadBehind (old : Draft) (made : Read) (r : lower.Read) : Type 0 where
  pub behind : IsBehind old made.draft r.cmds r.temps
  pub value : expr_of made.value ≡ r.value

-- how far a draft has come
pub record IsMark (old : Draft) (mark : Mark) : Type 0 where
  pub cmds : mark.cmds ≡ length old.cmds.items
  pub temps : mark.temps ≡ length old.temps.items

-- What is made of an operand, in a place that wants a type.
pub record IsTail (c : Context) (at : Place) (env : Env) (old : Draft) (e : go.Expr) (want : Option GoType) (made : KnownTail) : Type 0 where
  pub tail : IsTailBehind old made.tail (lower.tail c at env e want (length old.temps.items))
  pub known : IsOperand env e made.known

-- The same of one that is no whole right side.
pub record IsRead (c : Context) (at : Place) (env : Env) (old : Draft) (e : go.Expr) (want : Option GoType) (made : KnownRead) : Type 0 where
  pub read : IsReadBehind old made.read (lower.read c at env e want (length old.temps.items))
  pub known : IsOperand env e made.known

-- A bound of a subslice: the start, and the end of a part of this slice.
pub record IsLow (c : Context) (at : Place) (env : Env) (old : Draft) (b : go.Bound) (made : KnownBound) : Type 0 where
  pub read : IsReadBehind old made.read (lower.low_of c at env b (length old.temps.items))
  pub known : IsBound env b made.known

pub record IsHigh (c : Context) (at : Place) (env : Env) (old : Draft) (b : go.Bound) (whole : Pure) (made : KnownBound) : Type 0 where
  pub read : IsReadBehind old made.read (lower.high_of c at env b (expr_of whole) (length old.temps.items))
  pub known : IsBound env b made.known

-- Two operands, of which the left one may be all that is read; a constant is not one value yet.
pub record IsJoined (c : Context) (at : Place) (env : Env) (old : Draft) (a : go.Expr) (t : Lexeme) (b : go.Expr) (made : KnownTail) : Type 0 where
  pub tail : IsTailBehind old made.tail
      (lower.joined c at (length old.temps.items) t.class (lower.read c at env a None (length old.temps.items)) (λ m. lower.read c at env b None m))
  pub known : IsOperand env (go.Binary a t b) made.known

-- Specifications that differ in their stores alone give the lines of a text one meaning.
use Rattle.std.proofs.Common.{◌≡◌, ℕ, ◌+◌, if◌then◌else◌, List, [], ◌∷◌, Option, Some, None, option_map, map, length, refl, ap, subst, ◌∙◌}
use Rattle.std.specs.Prelude.{All, IsTrue, Result, Ok, Err, ◌==◌, slice_get}
use Rattle.std.specs.Str.{bytes_eq}
use Rattle.gv_base.specs.declared.answers.Code.{Code}
use Rattle.gv_base.specs.declared.answers.Code.TheVariants as codes
use Rattle.gv_terms.specs.declared.tree.TermTree.{TermTree}
use Rattle.gv_terms.specs.declared.value.Value.{Value}
use Rattle.gv_terms.specs.declared.var.Var.{Var}
use Rattle.gv_text.specs.Stops.{Fault}
use Rattle.gv_atomic.specs.declared.spec.Op.{Op}
use Rattle.gv_atomic.specs.declared.spec.Spec.{Spec}
use Rattle.gv_spec.specs.Atomic.{are_args}
use Rattle.gv_spec.specs.History.{IsEntryOf, IsMoveOf}
use Rattle.gv_spec.specs.declared.entry.Entry.{Entry}
use Rattle.gv_spec.specs.declared.entry.Entry.TheVariants as entry
use Rattle.gv_spec.specs.declared.explanation.Move.{Move}
use Rattle.gv_spec.specs.declared.explanation.Move.TheVariants as move
use Rattle.gv_specs.specs.Alike.{ShownOp, shown_op, AreAlike}
use Rattle.gv_replay.specs.declared.line.CallLine.{CallLine}
use Rattle.gv_replay.specs.declared.line.Line.{Line}
use Rattle.gv_replay.specs.declared.line.Line.TheVariants as line
use Rattle.gv_replay.specs.declared.line.TextKind.TheVariants as text_kind
use Rattle.gv_replay.specs.Meaning.{params_of, params_at, arity_by, arity, with_values, values_for, called_by, called, entry_of_call, call_number, call_entry, told_entry, move_in, with_move, with_moves}
use Rattle.gv_replay.specs.Operations.{op_named}
use Rattle.gv_replay.specs.Reading.{Tells, IsRefused, TellsHistory, TellsMoves, IsRefusedHistory, AreRefusedMoves}
use Rattle.gv_replay.specs.Results.{and_then, map_ok}
use Rattle.gv_top.proofs.AlikeMeaning.{ops_at, args_at}

-- ---- names and parameters

named_same : (ts us : List TermTree) (name : List ℕ) (os ps : List Op) → map (shown_op ts) os ≡ map (shown_op us) ps → op_named name os ≡ op_named name ps
named_same ts us name [] [] e = refl
named_same ts us name [] (p ∷ ps) e = absurd cc
named_same ts us name (o ∷ os) [] e = absurd cc
named_same ts us name (o ∷ os) (p ∷ ps) e =
    let head : shown_op ts o ≡ shown_op us p = cc in
    let rest : map (shown_op ts) os ≡ map (shown_op us) ps = cc in
    ap (λ (x : ShownOp). if bytes_eq x.name name then Some 0 else option_map (λ n. n + 1) (op_named name os)) head
    ∙ ap (λ r. if bytes_eq p.name name then Some 0 else option_map (λ n. n + 1) r) (named_same ts us name os ps rest)

params_same : (ts us : List TermTree) (a b : Option Op) → option_map (shown_op ts) a ≡ option_map (shown_op us) b → params_of a ≡ params_of b
params_same ts us None None e = refl
params_same ts us None (Some p) e = absurd cc
params_same ts us (Some o) None e = absurd cc
params_same ts us (Some o) (Some p) e = let same : shown_op ts o ≡ shown_op us p = cc in ap (λ (x : ShownOp). x.params) same

module _ (s t : Spec) (alike : AreAlike s t) where
  pub params_at_same : (op : ℕ) → params_at s op ≡ params_at t op
  params_at_same op = params_same s.store t.store (slice_get s.ops op) (slice_get t.ops op) (ops_at s t alike op)

  pub op_same : (name : List ℕ) → op_named name s.ops ≡ op_named name t.ops
  op_same name = named_same s.store t.store name s.ops t.ops alike.ops

  -- ---- lines

  pub arity_by_same : (c : CallLine) (o : Option ℕ) → arity_by s c o ≡ arity_by t c o
  arity_by_same c None = refl
  arity_by_same c (Some op) = ap (λ (vs : List Var). let r : Result (Unit {0}) Fault = if length vs == length c.args then Ok tt else Err (c.at, codes.WrongCount) in r) (params_at_same op)

  pub called_by_same : (c : CallLine) (o : Option ℕ) → called_by s c o ≡ called_by t c o
  called_by_same c None = refl
  called_by_same c (Some op) = ap (λ (vs : List Var). map_ok (with_values op) (values_for vs c.args)) (params_at_same op)

  entry_same : (c : CallLine) → call_entry s c ≡ call_entry t c
  entry_same c =
      ap (λ (x : Option ℕ). and_then (λ _. and_then (λ n. map_ok (entry_of_call n) (called s c)) (call_number c.number)) (arity_by s c x)) (op_same c.op)
      ∙ ap (λ r. and_then (λ _. and_then (λ n. map_ok (entry_of_call n) (called s c)) (call_number c.number)) r) (arity_by_same c (op_named c.op t.ops))
      ∙ ap (λ (x : Option ℕ). and_then (λ _. and_then (λ n. map_ok (entry_of_call n) (called_by s c x)) (call_number c.number)) (arity t c)) (op_same c.op)
      ∙ ap (λ r. and_then (λ _. and_then (λ n. map_ok (entry_of_call n) r) (call_number c.number)) (arity t c)) (called_by_same c (op_named c.op t.ops))

  move_same : (l : Line) → move_in s l ≡ move_in t l
  move_same (line.Call c) = ap (map_ok told_entry) (entry_same c)
  move_same (line.Answer number reply) = refl
  move_same (line.Act number choices) = refl
  move_same (line.Crash at) = refl
  move_same (line.Boot choices) = refl
  move_same line.End = refl
  move_same (line.Step at thread count) = refl
  move_same (line.Fail at disk) = refl
  move_same (line.Grow at thread extra) = refl

  moves_same : with_moves s ≡ with_moves t
  moves_same = λ i moves l. map_ok (with_move moves) (move_same l i)

  -- ---- texts of lines

  abbrev Account : Type 0
  Account = List Move → Line → Result (List Move) Fault

  pub same_history : (text : List ℕ) (history : List Entry) → TellsHistory s text history → TellsHistory t text history
  same_history text history h = record {
    moves = h.moves;
    told = subst (λ (w : Account). Tells w [] text_kind.History text h.moves) moves_same h.told;
    entries = h.entries;
  }

  pub same_moves : (text : List ℕ) (moves : List Move) → TellsMoves s text moves → TellsMoves t text moves
  same_moves text moves h = subst (λ (w : Account). Tells w [] text_kind.Moves text moves) moves_same h

  pub same_refused_history : (text : List ℕ) (at : ℕ) (code : Code) → IsRefusedHistory s text at code → IsRefusedHistory t text at code
  same_refused_history text at code h = subst (λ (w : Account). IsRefused w [] text_kind.History text at code) moves_same h

  pub same_refused_moves : (text : List ℕ) (at : ℕ) (code : Code) → AreRefusedMoves s text at code → AreRefusedMoves t text at code
  same_refused_moves text at code h = subst (λ (w : Account). IsRefused w [] text_kind.Moves text at code) moves_same h

  -- ---- entries and moves of a specification

  pub args_same : (op : ℕ) (args : List Value) → are_args s op args ≡ are_args t op args
  args_same op args = args_at s t alike args (slice_get s.ops op) (slice_get t.ops op) (ops_at s t alike op)

  entry_of_same : (e : Entry) → IsEntryOf s e → IsEntryOf t e
  entry_of_same (entry.Call number op args) h = subst IsTrue (args_same op args) h
  entry_of_same (entry.Answer number reply) h = h
  entry_of_same entry.Crash h = h
  entry_of_same entry.Boot h = h

  move_of_same : (m : Move) → IsMoveOf s m → IsMoveOf t m
  move_of_same (move.Act number choices) h = h
  move_of_same (move.Boot choices) h = h
  move_of_same (move.Other e) h = entry_of_same e h

  pub same_entries : (history : List Entry) → All (IsEntryOf s) history → All (IsEntryOf t) history
  same_entries history h = λ k d l. entry_of_same _ (h k d l)

  pub same_moves_of : (moves : List Move) → All (IsMoveOf s) moves → All (IsMoveOf t) moves
  same_moves_of moves h = λ k d l. move_of_same _ (h k d l)

-- Operands and expressions that the published grammar spells are derived, wherever they stand, and the steps build their trees.
use Rattle.std.proofs.Common.{◌≡◌, ℕ, true, false, List, [], ◌∷◌, ◌++◌, Option, refl, subst, append_assoc}
use Rattle.gv_grammar.specs.declared.symbols.Symbol.{Symbol}
use Rattle.gv_grammar.specs.declared.symbols.Symbol.TheVariants.{Token as T, Name as N, Act as A}
use Rattle.gv_grammar.specs.declared.levels.TheConstants.{OPEN, RESTORE}
use Rattle.gv_grammar.specs.Building.{act_of}
use Rattle.gv_grammar.specs.Text.{plain, opens}
use Rattle.gv_grammar.proofs.Spelling.{Reading, Late, tk, tk_in, op, op_in, sv, rs, ac, ru}
use Rattle.gv_gosyntax.specs.declared.generated.gosyntax_table.TheConstants.{ACT_BINARY, ACT_BOUND, ACT_CONSTANT, ACT_CONVERT, ACT_INDEX, ACT_NO_BOUND, ACT_OPERAND, ACT_PAREN, ACT_RIGHT, ACT_SELECT, ACT_SLICE_FROM, ACT_SLICE_TO, ACT_UNARY, ACT_VALUE, ACT_WHILE, CLASS_AND_AND, CLASS_COLON, CLASS_DOT, CLASS_L_BRACKET, CLASS_L_PAREN, CLASS_OR_OR, CLASS_R_BRACKET, CLASS_R_PAREN, NAME_BOUND, NAME_CLOSED, NAME_CLOSING, NAME_COMPARISON, NAME_COMPARISON_OPERATORS, NAME_COMPARISON_TAIL, NAME_CONJUNCTION, NAME_CONJUNCTION_OPERATORS, NAME_CONJUNCTION_TAIL, NAME_EXPR, NAME_EXPR_TAIL, NAME_FIRST_BRACKET, NAME_FIRST_CLOSING, NAME_FIRST_INDEX, NAME_FIRST_MEMBER, NAME_FIRST_NAME, NAME_FIRST_TAIL, NAME_HEADER, NAME_IN_BRACKET, NAME_LEFT, NAME_LEFT_BRACKET, NAME_LEFT_CLOSING, NAME_LEFT_END, NAME_LEFT_TAIL, NAME_LOOP_BRACES, NAME_MORE_RETURNED, NAME_OPERATORS, NAME_PLAIN_RIGHT, NAME_POST, NAME_POST_BRACKET, NAME_POST_CLOSING, NAME_POST_INDEX, NAME_POST_MEMBER, NAME_POST_NAME, NAME_POST_TAIL, NAME_PRIM_TAIL, NAME_PRODUCT, NAME_PRODUCT_OPERATORS, NAME_PRODUCT_TAIL, NAME_RETURNED, NAME_RETURNED_MEMBER, NAME_RETURNED_TAIL, NAME_RIGHT_MEMBER, NAME_RIGHT_TAIL, NAME_SIMPLE, NAME_SIMPLE_BRACKET, NAME_SIMPLE_CLOSING, NAME_SIMPLE_INDEX, NAME_SIMPLE_MEMBER, NAME_SIMPLE_NAME, NAME_SIMPLE_TAIL, NAME_SUM, NAME_SUM_OPERATORS, NAME_SUM_TAIL, NAME_UNARY, NAME_WHOLE, RULE_BOUND_NONE, RULE_BOUND_SOME, RULE_BRACKET_OPEN, RULE_CLOSED_CONSTANT, RULE_CLOSED_CONVERT, RULE_CLOSED_PAREN, RULE_CLOSING_INDEX, RULE_CLOSING_SLICE, RULE_COMPARISON_FIRST, RULE_COMPARISON_OPERATORS_COMPARISON, RULE_COMPARISON_OPERATORS_CONJUNCTION, RULE_COMPARISON_OPERATORS_END, RULE_COMPARISON_OPERATORS_EXPR, RULE_COMPARISON_TAIL_END, RULE_COMPARISON_TAIL_MORE, RULE_CONJUNCTION_FIRST, RULE_CONJUNCTION_OPERATORS_CONJUNCTION, RULE_CONJUNCTION_OPERATORS_END, RULE_CONJUNCTION_OPERATORS_EXPR, RULE_CONJUNCTION_TAIL_END, RULE_CONJUNCTION_TAIL_MORE, RULE_EXPR_FIRST, RULE_EXPR_TAIL_END, RULE_EXPR_TAIL_MORE, RULE_FIRST_BRACKET_INDEX, RULE_FIRST_BRACKET_SLICE, RULE_FIRST_CLOSING_INDEX, RULE_FIRST_CLOSING_SLICE, RULE_FIRST_INDEX_MORE, RULE_FIRST_MEMBER_MORE, RULE_FIRST_NAME_MORE, RULE_FIRST_TAIL_BRACKET, RULE_FIRST_TAIL_MEMBER, RULE_FIRST_TAIL_VALUE, RULE_HEADER_CLOSED, RULE_HEADER_NAME, RULE_HEADER_SIGN, RULE_IN_BRACKET_INDEX, RULE_IN_BRACKET_SLICE, RULE_LEFT_BRACKET_INDEX, RULE_LEFT_BRACKET_SLICE, RULE_LEFT_CLOSED, RULE_LEFT_CLOSING_INDEX, RULE_LEFT_CLOSING_SLICE, RULE_LEFT_END_MORE, RULE_LEFT_NAME, RULE_LEFT_TAIL_BRACKET, RULE_LEFT_TAIL_MEMBER, RULE_OPERATORS_TAILS, RULE_PLAIN_RIGHT_CLOSED, RULE_PLAIN_RIGHT_NAME, RULE_PLAIN_RIGHT_SIGN, RULE_POST_BRACKET_INDEX, RULE_POST_BRACKET_SLICE, RULE_POST_CLOSED, RULE_POST_CLOSING_INDEX, RULE_POST_CLOSING_SLICE, RULE_POST_INDEX_MORE, RULE_POST_MEMBER_MORE, RULE_POST_NAME, RULE_POST_NAME_MORE, RULE_POST_TAIL_BRACKET, RULE_POST_TAIL_MEMBER, RULE_PRIM_TAIL_BRACKET, RULE_PRIM_TAIL_END, RULE_PRIM_TAIL_MEMBER, RULE_PRODUCT_FIRST, RULE_PRODUCT_OPERATORS_COMPARISON, RULE_PRODUCT_OPERATORS_CONJUNCTION, RULE_PRODUCT_OPERATORS_END, RULE_PRODUCT_OPERATORS_EXPR, RULE_PRODUCT_OPERATORS_PRODUCT, RULE_PRODUCT_OPERATORS_SUM, RULE_PRODUCT_TAIL_END, RULE_PRODUCT_TAIL_MORE, RULE_RETURNED_CLOSED, RULE_RETURNED_MEMBER_MORE, RULE_RETURNED_NAME, RULE_RETURNED_SIGN, RULE_RETURNED_TAIL_BRACKET, RULE_RETURNED_TAIL_MEMBER, RULE_RETURNED_TAIL_VALUE, RULE_RIGHT_MEMBER_MORE, RULE_RIGHT_TAIL_BRACKET, RULE_RIGHT_TAIL_MEMBER, RULE_RIGHT_TAIL_VALUE, RULE_SIMPLE_BRACKET_INDEX, RULE_SIMPLE_BRACKET_SLICE, RULE_SIMPLE_CLOSED, RULE_SIMPLE_CLOSING_INDEX, RULE_SIMPLE_CLOSING_SLICE, RULE_SIMPLE_INDEX_MORE, RULE_SIMPLE_MEMBER_MORE, RULE_SIMPLE_NAME, RULE_SIMPLE_NAME_MORE, RULE_SIMPLE_TAIL_BRACKET, RULE_SIMPLE_TAIL_MEMBER, RULE_SUM_FIRST, RULE_SUM_OPERATORS_COMPARISON, RULE_SUM_OPERATORS_CONJUNCTION, RULE_SUM_OPERATORS_END, RULE_SUM_OPERATORS_EXPR, RULE_SUM_OPERATORS_SUM, RULE_SUM_TAIL_END, RULE_SUM_TAIL_MORE, RULE_UNARY_CLOSED, RULE_UNARY_NAME, RULE_UNARY_SIGN, RULE_WHOLE_EXPR, SET_ADDING, SET_AND_AND, SET_COLON, SET_COMPARING, SET_CONSTANT, SET_CONVERTING, SET_DOT, SET_ID, SET_INVERTING, SET_L_BRACKET, SET_L_PAREN, SET_MULTIPLYING, SET_OR_OR, SET_R_BRACKET, SET_R_PAREN}
use Rattle.gv_gosyntax.specs.declared.generated.gosyntax_acts.Part.{Part}
use Rattle.gv_gosyntax.specs.declared.generated.gosyntax_acts.Part.TheVariants.{Token as PToken, Expr as PExpr, Bound as PBound}
use Rattle.gv_gosyntax.specs.declared.tree.Expr.{Expr}
use Rattle.gv_gosyntax.specs.GosyntaxTable.{gosyntax_tables}
use Rattle.gv_gosyntax.specs.GosyntaxActs.{gosyntax_acts}
use Rattle.gv_goparse.specs.Language.{Tokens, IsPrim, IsUnary, IsProduct, IsSum, IsComparison, IsConjunction, IsExpr, IsBound, IsWhole, constant, name, paren, select, index, slice, convert, invert, prim, unary, times, product, plus, sum, compare, comparison, both, conjunction, either, unbound, bound, whole}

abbrev pub Parts : Type 0
Parts = List Part

-- a reading of a package, and one behind a token that opens a level as the next one shows
abbrev pub Read : List Symbol → Tokens → ℕ → List ℕ → Parts → Option Parts → Type 0
Read = Reading gosyntax_tables (λ token. token.class) PToken (act_of gosyntax_acts)

abbrev pub LateRead : List Symbol → Tokens → ℕ → List ℕ → Parts → Option Parts → Type 0
LateRead = Late gosyntax_tables (λ token. token.class) PToken (act_of gosyntax_acts)

-- lists regrouped
pub to : {ss : List Symbol} {n : ℕ} {kept : List ℕ} {parts : Parts} {final : Option Parts} (xs : Tokens) {ys : Tokens} → xs ≡ ys → Read ss xs n kept parts final → Read ss ys n kept parts final
to {ss} {n} {kept} {parts} {final} xs e r = subst (λ (us : Tokens). Read ss us n kept parts final) e r

pub no_header : true ≡ false → ⊥
no_header e = absurd cc

-- What an operand ends with decides how a place may go on behind it.
pub data Shape : Type 0 where
  alone_shape : Shape
  member_shape : Shape
  item_shape : Shape
  other_shape : Shape

abbrev pub shape_of : {n m : ℕ} {e : Expr} {ts : Tokens} → IsPrim n e m ts → Shape
shape_of (constant t i) = other_shape
shape_of (name i h) = alone_shape
shape_of (paren o c i d j) = other_shape
shape_of (convert w o c h i d j) = other_shape
shape_of (select d x q i j) = member_shape
shape_of (index o c q i d j) = item_shape
shape_of (slice o d c q i l h b j) = other_shape

abbrev pub state : ℕ → ℕ → ℕ → ℕ → Shape → ℕ
state alone member indexed tail alone_shape = alone
state alone member indexed tail member_shape = member
state alone member indexed tail item_shape = indexed
state alone member indexed tail other_shape = tail

-- A place of the grammar where an operand may begin, with its names behind one; `bracket` and `closing` are what is to come
-- behind a `[` and behind what follows it.
pub record Place (start alone member indexed tail : ℕ) (bracket closing : List Symbol) : Type 0 where
  pub by_name : (s : List Symbol) (us : Tokens) (n : ℕ) (kept : List ℕ) (parts : Parts) (final : Option Parts)
      → Read (T SET_ID ∷ A ACT_OPERAND ∷ N alone ∷ s) us n kept parts final → Read (N start ∷ s) us n kept parts final
  pub by_closed : (s : List Symbol) (us : Tokens) (n : ℕ) (kept : List ℕ) (parts : Parts) (final : Option Parts)
      → Read (N NAME_CLOSED ∷ N tail ∷ s) us n kept parts final → Read (N start ∷ s) us n kept parts final
  pub on : (x : Shape) (s : List Symbol) (us : Tokens) (n : ℕ) (kept : List ℕ) (parts : Parts) (final : Option Parts)
      → Read (N tail ∷ s) us n kept parts final → Read (N (state alone member indexed tail x) ∷ s) us n kept parts final
  pub by_dot : (s : List Symbol) (us : Tokens) (n : ℕ) (kept : List ℕ) (parts : Parts) (final : Option Parts)
      → Read (A OPEN ∷ T SET_DOT ∷ T SET_ID ∷ A ACT_SELECT ∷ N member ∷ s) us n kept parts final → Read (N tail ∷ s) us n kept parts final
  pub by_bracket : (s : List Symbol) (us : Tokens) (n : ℕ) (kept : List ℕ) (parts : Parts) (final : Option Parts)
      → Read (A OPEN ∷ T SET_L_BRACKET ∷ bracket ++ s) us n kept parts final → Read (N tail ∷ s) us n kept parts final
  pub from_index : (s : List Symbol) (us : Tokens) (n : ℕ) (kept : List ℕ) (parts : Parts) (final : Option Parts)
      → Read (N NAME_WHOLE ∷ closing ++ s) us n kept parts final → Read (bracket ++ s) us n kept parts final
  pub from_slice : (s : List Symbol) (us : Tokens) (n : ℕ) (kept : List ℕ) (parts : Parts) (final : Option Parts)
      → Read (T SET_COLON ∷ N NAME_BOUND ∷ T SET_R_BRACKET ∷ A ACT_SLICE_TO ∷ N tail ∷ s) us n kept parts final → Read (bracket ++ s) us n kept parts final
  pub to_index : (s : List Symbol) (us : Tokens) (n : ℕ) (kept : List ℕ) (parts : Parts) (final : Option Parts)
      → Read (T SET_R_BRACKET ∷ A ACT_INDEX ∷ N indexed ∷ s) us n kept parts final → Read (closing ++ s) us n kept parts final
  pub to_slice : (s : List Symbol) (us : Tokens) (n : ℕ) (kept : List ℕ) (parts : Parts) (final : Option Parts)
      → Read (T SET_COLON ∷ N NAME_BOUND ∷ T SET_R_BRACKET ∷ A ACT_SLICE_FROM ∷ N tail ∷ s) us n kept parts final → Read (closing ++ s) us n kept parts final

-- within an expression
pub on_prim_on : (x : Shape) (s : List Symbol) (us : Tokens) (n : ℕ) (kept : List ℕ) (parts : Parts) (final : Option Parts) → Read (N NAME_PRIM_TAIL ∷ s) us n kept parts final → Read (N (state NAME_PRIM_TAIL NAME_PRIM_TAIL NAME_PRIM_TAIL NAME_PRIM_TAIL x) ∷ s) us n kept parts final
on_prim_on alone_shape s us n kept parts final k = k
on_prim_on member_shape s us n kept parts final k = k
on_prim_on item_shape s us n kept parts final k = k
on_prim_on other_shape s us n kept parts final k = k

pub on_prim : Place NAME_UNARY NAME_PRIM_TAIL NAME_PRIM_TAIL NAME_PRIM_TAIL NAME_PRIM_TAIL (N NAME_IN_BRACKET ∷ N NAME_PRIM_TAIL ∷ []) (N NAME_CLOSING ∷ N NAME_PRIM_TAIL ∷ [])
on_prim = record {
  by_name = λ s us n kept parts final k. ru RULE_UNARY_NAME refl k;
  by_closed = λ s us n kept parts final k. ru RULE_UNARY_CLOSED refl k;
  on = on_prim_on;
  by_dot = λ s us n kept parts final k. ru RULE_PRIM_TAIL_MEMBER refl k;
  by_bracket = λ s us n kept parts final k. ru RULE_PRIM_TAIL_BRACKET refl (ru RULE_BRACKET_OPEN refl k);
  from_index = λ s us n kept parts final k. ru RULE_IN_BRACKET_INDEX refl k;
  from_slice = λ s us n kept parts final k. ru RULE_IN_BRACKET_SLICE refl k;
  to_index = λ s us n kept parts final k. ru RULE_CLOSING_INDEX refl k;
  to_slice = λ s us n kept parts final k. ru RULE_CLOSING_SLICE refl k;
}

-- on a right side
pub on_right_on : (x : Shape) (s : List Symbol) (us : Tokens) (n : ℕ) (kept : List ℕ) (parts : Parts) (final : Option Parts) → Read (N NAME_RIGHT_TAIL ∷ s) us n kept parts final → Read (N (state NAME_RIGHT_MEMBER NAME_RIGHT_MEMBER NAME_RIGHT_TAIL NAME_RIGHT_TAIL x) ∷ s) us n kept parts final
on_right_on alone_shape s us n kept parts final k = ru RULE_RIGHT_MEMBER_MORE refl k
on_right_on member_shape s us n kept parts final k = ru RULE_RIGHT_MEMBER_MORE refl k
on_right_on item_shape s us n kept parts final k = k
on_right_on other_shape s us n kept parts final k = k

pub on_right : Place NAME_PLAIN_RIGHT NAME_RIGHT_MEMBER NAME_RIGHT_MEMBER NAME_RIGHT_TAIL NAME_RIGHT_TAIL (N NAME_IN_BRACKET ∷ N NAME_RIGHT_TAIL ∷ []) (N NAME_CLOSING ∷ N NAME_RIGHT_TAIL ∷ [])
on_right = record {
  by_name = λ s us n kept parts final k. ru RULE_PLAIN_RIGHT_NAME refl k;
  by_closed = λ s us n kept parts final k. ru RULE_PLAIN_RIGHT_CLOSED refl k;
  on = on_right_on;
  by_dot = λ s us n kept parts final k. ru RULE_RIGHT_TAIL_MEMBER refl k;
  by_bracket = λ s us n kept parts final k. ru RULE_RIGHT_TAIL_BRACKET refl (ru RULE_BRACKET_OPEN refl k);
  from_index = λ s us n kept parts final k. ru RULE_IN_BRACKET_INDEX refl k;
  from_slice = λ s us n kept parts final k. ru RULE_IN_BRACKET_SLICE refl k;
  to_index = λ s us n kept parts final k. ru RULE_CLOSING_INDEX refl k;
  to_slice = λ s us n kept parts final k. ru RULE_CLOSING_SLICE refl k;
}

-- behind `return`
pub on_return_on : (x : Shape) (s : List Symbol) (us : Tokens) (n : ℕ) (kept : List ℕ) (parts : Parts) (final : Option Parts) → Read (N NAME_RETURNED_TAIL ∷ s) us n kept parts final → Read (N (state NAME_RETURNED_MEMBER NAME_RETURNED_MEMBER NAME_RETURNED_TAIL NAME_RETURNED_TAIL x) ∷ s) us n kept parts final
on_return_on alone_shape s us n kept parts final k = ru RULE_RETURNED_MEMBER_MORE refl k
on_return_on member_shape s us n kept parts final k = ru RULE_RETURNED_MEMBER_MORE refl k
on_return_on item_shape s us n kept parts final k = k
on_return_on other_shape s us n kept parts final k = k

pub on_return : Place NAME_RETURNED NAME_RETURNED_MEMBER NAME_RETURNED_MEMBER NAME_RETURNED_TAIL NAME_RETURNED_TAIL (N NAME_IN_BRACKET ∷ N NAME_RETURNED_TAIL ∷ []) (N NAME_CLOSING ∷ N NAME_RETURNED_TAIL ∷ [])
on_return = record {
  by_name = λ s us n kept parts final k. ru RULE_RETURNED_NAME refl k;
  by_closed = λ s us n kept parts final k. ru RULE_RETURNED_CLOSED refl k;
  on = on_return_on;
  by_dot = λ s us n kept parts final k. ru RULE_RETURNED_TAIL_MEMBER refl k;
  by_bracket = λ s us n kept parts final k. ru RULE_RETURNED_TAIL_BRACKET refl (ru RULE_BRACKET_OPEN refl k);
  from_index = λ s us n kept parts final k. ru RULE_IN_BRACKET_INDEX refl k;
  from_slice = λ s us n kept parts final k. ru RULE_IN_BRACKET_SLICE refl k;
  to_index = λ s us n kept parts final k. ru RULE_CLOSING_INDEX refl k;
  to_slice = λ s us n kept parts final k. ru RULE_CLOSING_SLICE refl k;
}

-- on the second left side
pub on_left_on : (x : Shape) (s : List Symbol) (us : Tokens) (n : ℕ) (kept : List ℕ) (parts : Parts) (final : Option Parts) → Read (N NAME_LEFT_TAIL ∷ s) us n kept parts final → Read (N (state NAME_LEFT_END NAME_LEFT_END NAME_LEFT_END NAME_LEFT_TAIL x) ∷ s) us n kept parts final
on_left_on alone_shape s us n kept parts final k = ru RULE_LEFT_END_MORE refl k
on_left_on member_shape s us n kept parts final k = ru RULE_LEFT_END_MORE refl k
on_left_on item_shape s us n kept parts final k = ru RULE_LEFT_END_MORE refl k
on_left_on other_shape s us n kept parts final k = k

pub on_left : Place NAME_LEFT NAME_LEFT_END NAME_LEFT_END NAME_LEFT_END NAME_LEFT_TAIL (N NAME_LEFT_BRACKET ∷ []) (N NAME_LEFT_CLOSING ∷ [])
on_left = record {
  by_name = λ s us n kept parts final k. ru RULE_LEFT_NAME refl k;
  by_closed = λ s us n kept parts final k. ru RULE_LEFT_CLOSED refl k;
  on = on_left_on;
  by_dot = λ s us n kept parts final k. ru RULE_LEFT_TAIL_MEMBER refl k;
  by_bracket = λ s us n kept parts final k. ru RULE_LEFT_TAIL_BRACKET refl k;
  from_index = λ s us n kept parts final k. ru RULE_LEFT_BRACKET_INDEX refl k;
  from_slice = λ s us n kept parts final k. ru RULE_LEFT_BRACKET_SLICE refl k;
  to_index = λ s us n kept parts final k. ru RULE_LEFT_CLOSING_INDEX refl k;
  to_slice = λ s us n kept parts final k. ru RULE_LEFT_CLOSING_SLICE refl k;
}

-- in a statement
pub in_simple_on : (x : Shape) (s : List Symbol) (us : Tokens) (n : ℕ) (kept : List ℕ) (parts : Parts) (final : Option Parts) → Read (N NAME_SIMPLE_TAIL ∷ s) us n kept parts final → Read (N (state NAME_SIMPLE_NAME NAME_SIMPLE_MEMBER NAME_SIMPLE_INDEX NAME_SIMPLE_TAIL x) ∷ s) us n kept parts final
in_simple_on alone_shape s us n kept parts final k = ru RULE_SIMPLE_NAME_MORE refl (ru RULE_SIMPLE_MEMBER_MORE refl (ru RULE_SIMPLE_INDEX_MORE refl k))
in_simple_on member_shape s us n kept parts final k = ru RULE_SIMPLE_MEMBER_MORE refl (ru RULE_SIMPLE_INDEX_MORE refl k)
in_simple_on item_shape s us n kept parts final k = ru RULE_SIMPLE_INDEX_MORE refl k
in_simple_on other_shape s us n kept parts final k = k

pub in_simple : Place NAME_SIMPLE NAME_SIMPLE_NAME NAME_SIMPLE_MEMBER NAME_SIMPLE_INDEX NAME_SIMPLE_TAIL (N NAME_SIMPLE_BRACKET ∷ []) (N NAME_SIMPLE_CLOSING ∷ [])
in_simple = record {
  by_name = λ s us n kept parts final k. ru RULE_SIMPLE_NAME refl k;
  by_closed = λ s us n kept parts final k. ru RULE_SIMPLE_CLOSED refl k;
  on = in_simple_on;
  by_dot = λ s us n kept parts final k. ru RULE_SIMPLE_TAIL_MEMBER refl k;
  by_bracket = λ s us n kept parts final k. ru RULE_SIMPLE_TAIL_BRACKET refl k;
  from_index = λ s us n kept parts final k. ru RULE_SIMPLE_BRACKET_INDEX refl k;
  from_slice = λ s us n kept parts final k. ru RULE_SIMPLE_BRACKET_SLICE refl k;
  to_index = λ s us n kept parts final k. ru RULE_SIMPLE_CLOSING_INDEX refl k;
  to_slice = λ s us n kept parts final k. ru RULE_SIMPLE_CLOSING_SLICE refl k;
}

-- in the last part of the header of a `for`
pub in_post_on : (x : Shape) (s : List Symbol) (us : Tokens) (n : ℕ) (kept : List ℕ) (parts : Parts) (final : Option Parts) → Read (N NAME_POST_TAIL ∷ s) us n kept parts final → Read (N (state NAME_POST_NAME NAME_POST_MEMBER NAME_POST_INDEX NAME_POST_TAIL x) ∷ s) us n kept parts final
in_post_on alone_shape s us n kept parts final k = ru RULE_POST_NAME_MORE refl (ru RULE_POST_MEMBER_MORE refl (ru RULE_POST_INDEX_MORE refl k))
in_post_on member_shape s us n kept parts final k = ru RULE_POST_MEMBER_MORE refl (ru RULE_POST_INDEX_MORE refl k)
in_post_on item_shape s us n kept parts final k = ru RULE_POST_INDEX_MORE refl k
in_post_on other_shape s us n kept parts final k = k

pub in_post : Place NAME_POST NAME_POST_NAME NAME_POST_MEMBER NAME_POST_INDEX NAME_POST_TAIL (N NAME_POST_BRACKET ∷ []) (N NAME_POST_CLOSING ∷ [])
in_post = record {
  by_name = λ s us n kept parts final k. ru RULE_POST_NAME refl k;
  by_closed = λ s us n kept parts final k. ru RULE_POST_CLOSED refl k;
  on = in_post_on;
  by_dot = λ s us n kept parts final k. ru RULE_POST_TAIL_MEMBER refl k;
  by_bracket = λ s us n kept parts final k. ru RULE_POST_TAIL_BRACKET refl k;
  from_index = λ s us n kept parts final k. ru RULE_POST_BRACKET_INDEX refl k;
  from_slice = λ s us n kept parts final k. ru RULE_POST_BRACKET_SLICE refl k;
  to_index = λ s us n kept parts final k. ru RULE_POST_CLOSING_INDEX refl k;
  to_slice = λ s us n kept parts final k. ru RULE_POST_CLOSING_SLICE refl k;
}

-- behind `for`
pub in_header_on : (x : Shape) (s : List Symbol) (us : Tokens) (n : ℕ) (kept : List ℕ) (parts : Parts) (final : Option Parts) → Read (N NAME_FIRST_TAIL ∷ s) us n kept parts final → Read (N (state NAME_FIRST_NAME NAME_FIRST_MEMBER NAME_FIRST_INDEX NAME_FIRST_TAIL x) ∷ s) us n kept parts final
in_header_on alone_shape s us n kept parts final k = ru RULE_FIRST_NAME_MORE refl (ru RULE_FIRST_MEMBER_MORE refl (ru RULE_FIRST_INDEX_MORE refl k))
in_header_on member_shape s us n kept parts final k = ru RULE_FIRST_MEMBER_MORE refl (ru RULE_FIRST_INDEX_MORE refl k)
in_header_on item_shape s us n kept parts final k = ru RULE_FIRST_INDEX_MORE refl k
in_header_on other_shape s us n kept parts final k = k

pub in_header : Place NAME_HEADER NAME_FIRST_NAME NAME_FIRST_MEMBER NAME_FIRST_INDEX NAME_FIRST_TAIL (N NAME_FIRST_BRACKET ∷ []) (N NAME_FIRST_CLOSING ∷ [])
in_header = record {
  by_name = λ s us n kept parts final k. ru RULE_HEADER_NAME refl k;
  by_closed = λ s us n kept parts final k. ru RULE_HEADER_CLOSED refl k;
  on = in_header_on;
  by_dot = λ s us n kept parts final k. ru RULE_FIRST_TAIL_MEMBER refl k;
  by_bracket = λ s us n kept parts final k. ru RULE_FIRST_TAIL_BRACKET refl k;
  from_index = λ s us n kept parts final k. ru RULE_FIRST_BRACKET_INDEX refl k;
  from_slice = λ s us n kept parts final k. ru RULE_FIRST_BRACKET_SLICE refl k;
  to_index = λ s us n kept parts final k. ru RULE_FIRST_CLOSING_INDEX refl k;
  to_slice = λ s us n kept parts final k. ru RULE_FIRST_CLOSING_SLICE refl k;
}

-- What may follow a sum, a comparison, a conjunction or an expression: the same behind each name that may stand there, since what is
-- looser ends all that is tighter.
pub record BehindSum (s : List Symbol) (us : Tokens) (n : ℕ) (kept : List ℕ) (parts : Parts) (final : Option Parts) : Type 0 where
  pub by_product : Read (N NAME_PRODUCT_OPERATORS ∷ s) us n kept parts final
  pub by_sum : Read (N NAME_SUM_OPERATORS ∷ s) us n kept parts final

pub record BehindComparison (s : List Symbol) (us : Tokens) (n : ℕ) (kept : List ℕ) (parts : Parts) (final : Option Parts) : Type 0 where
  pub as_sum : BehindSum s us n kept parts final
  pub by_comparison : Read (N NAME_COMPARISON_OPERATORS ∷ s) us n kept parts final

pub record BehindConjunction (s : List Symbol) (us : Tokens) (n : ℕ) (kept : List ℕ) (parts : Parts) (final : Option Parts) : Type 0 where
  pub as_comparison : BehindComparison s us n kept parts final
  pub by_conjunction : Read (N NAME_CONJUNCTION_OPERATORS ∷ s) us n kept parts final

pub record BehindExpr (s : List Symbol) (us : Tokens) (n : ℕ) (kept : List ℕ) (parts : Parts) (final : Option Parts) : Type 0 where
  pub as_conjunction : BehindConjunction s us n kept parts final
  pub by_expr : Read (N NAME_EXPR_TAIL ∷ s) us n kept parts final

-- an operator of each level, with its right operand, and the end
pub by_adding : {s : List Symbol} {us : Tokens} {n : ℕ} {kept : List ℕ} {parts : Parts} {final : Option Parts}
    → Read (A OPEN ∷ T SET_ADDING ∷ N NAME_PRODUCT ∷ A ACT_BINARY ∷ N NAME_SUM_OPERATORS ∷ s) us n kept parts final → BehindSum s us n kept parts final
by_adding k = record { by_product = ru RULE_PRODUCT_OPERATORS_SUM refl k; by_sum = ru RULE_SUM_OPERATORS_SUM refl k }

pub by_comparing : {s : List Symbol} {us : Tokens} {n : ℕ} {kept : List ℕ} {parts : Parts} {final : Option Parts}
    → Read (A OPEN ∷ T SET_COMPARING ∷ N NAME_SUM ∷ A ACT_BINARY ∷ N NAME_COMPARISON_OPERATORS ∷ s) us n kept parts final → BehindComparison s us n kept parts final
by_comparing k = record {
  as_sum = record { by_product = ru RULE_PRODUCT_OPERATORS_COMPARISON refl k; by_sum = ru RULE_SUM_OPERATORS_COMPARISON refl k };
  by_comparison = ru RULE_COMPARISON_OPERATORS_COMPARISON refl k;
}

pub by_and : {s : List Symbol} {us : Tokens} {n : ℕ} {kept : List ℕ} {parts : Parts} {final : Option Parts}
    → Read (A OPEN ∷ T SET_AND_AND ∷ N NAME_COMPARISON ∷ A ACT_BINARY ∷ N NAME_CONJUNCTION_OPERATORS ∷ s) us n kept parts final → BehindConjunction s us n kept parts final
by_and k = record {
  as_comparison = record {
    as_sum = record { by_product = ru RULE_PRODUCT_OPERATORS_CONJUNCTION refl k; by_sum = ru RULE_SUM_OPERATORS_CONJUNCTION refl k };
    by_comparison = ru RULE_COMPARISON_OPERATORS_CONJUNCTION refl k;
  };
  by_conjunction = ru RULE_CONJUNCTION_OPERATORS_CONJUNCTION refl k;
}

pub by_or : {s : List Symbol} {us : Tokens} {n : ℕ} {kept : List ℕ} {parts : Parts} {final : Option Parts}
    → Read (A OPEN ∷ T SET_OR_OR ∷ N NAME_CONJUNCTION ∷ A ACT_BINARY ∷ N NAME_EXPR_TAIL ∷ s) us n kept parts final → BehindExpr s us n kept parts final
by_or k = record {
  as_conjunction = record {
    as_comparison = record {
      as_sum = record { by_product = ru RULE_PRODUCT_OPERATORS_EXPR refl k; by_sum = ru RULE_SUM_OPERATORS_EXPR refl k };
      by_comparison = ru RULE_COMPARISON_OPERATORS_EXPR refl k;
    };
    by_conjunction = ru RULE_CONJUNCTION_OPERATORS_EXPR refl k;
  };
  by_expr = ru RULE_EXPR_TAIL_MORE refl k;
}

pub at_end : {s : List Symbol} {us : Tokens} {n : ℕ} {kept : List ℕ} {parts : Parts} {final : Option Parts} → Read s us n kept parts final → BehindExpr s us n kept parts final
at_end k = record {
  as_conjunction = record {
    as_comparison = record {
      as_sum = record { by_product = ru RULE_PRODUCT_OPERATORS_END refl k; by_sum = ru RULE_SUM_OPERATORS_END refl k };
      by_comparison = ru RULE_COMPARISON_OPERATORS_END refl k;
    };
    by_conjunction = ru RULE_CONJUNCTION_OPERATORS_END refl k;
  };
  by_expr = ru RULE_EXPR_TAIL_END refl k;
}

mutual
  -- an operand, where any place of the grammar begins with one
  pub prim_reads : {start alone member indexed tail : ℕ} {bracket closing : List Symbol} → Place start alone member indexed tail bracket closing → {n m : ℕ} {e : Expr} {ts : Tokens} (d : IsPrim n e m ts) → {s : List Symbol} {us : Tokens} {kept : List ℕ} {parts : Parts} {final : Option Parts}
      → Read (N (state alone member indexed tail (shape_of d)) ∷ s) us m kept (PExpr e ∷ parts) final → Read (N start ∷ s) (ts ++ us) n kept parts final
  prim_reads p (constant t i) k = p.by_closed _ _ _ _ _ _ (ru RULE_CLOSED_CONSTANT refl (tk_in SET_CONSTANT i (ac ACT_CONSTANT refl k)))
  prim_reads p (name t i) k = p.by_name _ _ _ _ _ _ (tk_in SET_ID i (ac ACT_OPERAND refl k))
  prim_reads p (paren {n = n} o c {ts = ts} i d j) {us = us} k =
      p.by_closed _ _ _ _ _ _ (ru RULE_CLOSED_PAREN refl (sv (op SET_L_PAREN CLASS_L_PAREN i refl
      (to (ts ++ (plain c ∷ us)) (simp append_assoc) (expr_opens d (at_end (tk SET_R_PAREN CLASS_R_PAREN j refl (rs (ac ACT_PAREN refl k)))))))))
  prim_reads p (convert {n = n} w o c {ts = ts} h i d j) {us = us} k =
      p.by_closed _ _ _ _ _ _ (ru RULE_CLOSED_CONVERT refl (tk_in SET_CONVERTING h (sv (op SET_L_PAREN CLASS_L_PAREN i refl
      (to (ts ++ (plain c ∷ us)) (simp append_assoc) (expr_opens d (at_end (tk SET_R_PAREN CLASS_R_PAREN j refl (rs (ac ACT_CONVERT refl k))))))))))
  prim_reads p (select {m = m} d x {e = e} {ts = ts} q i j) {us = us} k =
      to (ts ++ (opens m d ∷ plain x ∷ us)) (simp append_assoc) (prim_reads p q (p.on (shape_of q) _ _ _ _ _ _ (p.by_dot _ _ _ _ _ _ (op SET_DOT CLASS_DOT i refl (tk_in SET_ID j (ac ACT_SELECT refl k))))))
  prim_reads p (index {m = m} o c {e = e} {ts = ts} {us = vs} q i d j) {us = us} k =
      to (ts ++ (opens m o ∷ (vs ++ (plain c ∷ us)))) (simp append_assoc) (prim_reads p q (p.on (shape_of q) _ _ _ _ _ _ (p.by_bracket _ _ _ _ _ _ (op SET_L_BRACKET CLASS_L_BRACKET i refl
      (p.from_index _ _ _ _ _ _ (ru RULE_WHOLE_EXPR refl (sv (expr_opens d (at_end (rs (p.to_index _ _ _ _ _ _ (tk SET_R_BRACKET CLASS_R_BRACKET j refl (ac ACT_INDEX refl k)))))))))))))
  prim_reads p (slice {m = m} o d c {e = e} {ts = ts} {vs = ws} q i unbound h b j) {us = us} k =
      to (ts ++ (opens m o ∷ plain d ∷ (ws ++ (plain c ∷ us)))) (simp append_assoc) (prim_reads p q (p.on (shape_of q) _ _ _ _ _ _ (p.by_bracket _ _ _ _ _ _ (op SET_L_BRACKET CLASS_L_BRACKET i refl
      (p.from_slice _ _ _ _ _ _ (tk SET_COLON CLASS_COLON h refl (bound_reads b (tk SET_R_BRACKET CLASS_R_BRACKET j refl (ac ACT_SLICE_TO refl k)))))))))
  prim_reads p (slice {m = m} o d c {e = e} {ts = ts} {us = vs} {vs = ws} q i (bound l) h b j) {us = us} k =
      to (ts ++ (opens m o ∷ (vs ++ (plain d ∷ (ws ++ (plain c ∷ us)))))) (simp append_assoc) (prim_reads p q (p.on (shape_of q) _ _ _ _ _ _ (p.by_bracket _ _ _ _ _ _ (op SET_L_BRACKET CLASS_L_BRACKET i refl
      (p.from_index _ _ _ _ _ _ (ru RULE_WHOLE_EXPR refl (sv (expr_opens l (at_end (rs (p.to_slice _ _ _ _ _ _ (tk SET_COLON CLASS_COLON h refl (bound_reads b (tk SET_R_BRACKET CLASS_R_BRACKET j refl (ac ACT_SLICE_FROM refl k)))))))))))))))

  pub unary_reads : {n m : ℕ} {e : Expr} {ts : Tokens} → IsUnary n e m ts → {s : List Symbol} {us : Tokens} {kept : List ℕ} {parts : Parts} {final : Option Parts}
      → Read (s) us m kept (PExpr e ∷ parts) final → Read (N NAME_UNARY ∷ s) (ts ++ us) n kept parts final
  unary_reads (invert t i d) k = ru RULE_UNARY_SIGN refl (op_in SET_INVERTING i (unary_reads d (ac ACT_UNARY refl k)))
  unary_reads (prim d) k = prim_reads on_prim d (on_prim_on (shape_of d) _ _ _ _ _ _ (ru RULE_PRIM_TAIL_END refl k))

  pub product_reads : {n m : ℕ} {e : Expr} {ts : Tokens} → IsProduct n e m ts → {s : List Symbol} {us : Tokens} {kept : List ℕ} {parts : Parts} {final : Option Parts}
      → Read (N NAME_PRODUCT_TAIL ∷ s) us m kept (PExpr e ∷ parts) final → Read (N NAME_PRODUCT ∷ s) (ts ++ us) n kept parts final
  product_reads (unary d) k = ru RULE_PRODUCT_FIRST refl (unary_reads d k)
  product_reads (times {m = m} t {ts = ts} {us = vs} d i e) {us = us} k = to (ts ++ (opens m t ∷ (vs ++ us))) (simp append_assoc) (product_reads d (ru RULE_PRODUCT_TAIL_MORE refl (op_in SET_MULTIPLYING i (unary_reads e (ac ACT_BINARY refl k)))))

  pub sum_reads : {n m : ℕ} {e : Expr} {ts : Tokens} → IsSum n e m ts → {s : List Symbol} {us : Tokens} {kept : List ℕ} {parts : Parts} {final : Option Parts}
      → Read (N NAME_SUM_TAIL ∷ s) us m kept (PExpr e ∷ parts) final → Read (N NAME_SUM ∷ s) (ts ++ us) n kept parts final
  sum_reads (product d) k = ru RULE_SUM_FIRST refl (product_reads d (ru RULE_PRODUCT_TAIL_END refl k))
  sum_reads (plus {m = m} t {ts = ts} {us = vs} d i e) {us = us} k = to (ts ++ (opens m t ∷ (vs ++ us))) (simp append_assoc) (sum_reads d (ru RULE_SUM_TAIL_MORE refl (op_in SET_ADDING i (product_reads e (ru RULE_PRODUCT_TAIL_END refl (ac ACT_BINARY refl k))))))

  pub comparison_reads : {n m : ℕ} {e : Expr} {ts : Tokens} → IsComparison n e m ts → {s : List Symbol} {us : Tokens} {kept : List ℕ} {parts : Parts} {final : Option Parts}
      → Read (N NAME_COMPARISON_TAIL ∷ s) us m kept (PExpr e ∷ parts) final → Read (N NAME_COMPARISON ∷ s) (ts ++ us) n kept parts final
  comparison_reads (sum d) k = ru RULE_COMPARISON_FIRST refl (sum_reads d (ru RULE_SUM_TAIL_END refl k))
  comparison_reads (compare {m = m} t {ts = ts} {us = vs} d i e) {us = us} k = to (ts ++ (opens m t ∷ (vs ++ us))) (simp append_assoc) (comparison_reads d (ru RULE_COMPARISON_TAIL_MORE refl (op_in SET_COMPARING i (sum_reads e (ru RULE_SUM_TAIL_END refl (ac ACT_BINARY refl k))))))

  pub conjunction_reads : {n m : ℕ} {e : Expr} {ts : Tokens} → IsConjunction n e m ts → {s : List Symbol} {us : Tokens} {kept : List ℕ} {parts : Parts} {final : Option Parts}
      → Read (N NAME_CONJUNCTION_TAIL ∷ s) us m kept (PExpr e ∷ parts) final → Read (N NAME_CONJUNCTION ∷ s) (ts ++ us) n kept parts final
  conjunction_reads (comparison d) k = ru RULE_CONJUNCTION_FIRST refl (comparison_reads d (ru RULE_COMPARISON_TAIL_END refl k))
  conjunction_reads (both {m = m} t {ts = ts} {us = vs} d i e) {us = us} k = to (ts ++ (opens m t ∷ (vs ++ us))) (simp append_assoc) (conjunction_reads d (ru RULE_CONJUNCTION_TAIL_MORE refl (op SET_AND_AND CLASS_AND_AND i refl (comparison_reads e (ru RULE_COMPARISON_TAIL_END refl (ac ACT_BINARY refl k))))))

  -- an expression, by the operators that follow its first operand
  pub product_opens : {n m : ℕ} {e : Expr} {ts : Tokens} → IsProduct n e m ts → {s : List Symbol} {us : Tokens} {kept : List ℕ} {parts : Parts} {final : Option Parts}
      → Read (N NAME_PRODUCT_OPERATORS ∷ s) us m kept (PExpr e ∷ parts) final → Read (N NAME_EXPR ∷ s) (ts ++ us) n kept parts final
  product_opens (unary d) k = ru RULE_EXPR_FIRST refl (unary_reads d k)
  product_opens (times {m = m} t {ts = ts} {us = vs} d i e) {us = us} k = to (ts ++ (opens m t ∷ (vs ++ us))) (simp append_assoc) (product_opens d (ru RULE_PRODUCT_OPERATORS_PRODUCT refl (op_in SET_MULTIPLYING i (unary_reads e (ac ACT_BINARY refl k)))))

  pub sum_opens : {n m : ℕ} {e : Expr} {ts : Tokens} → IsSum n e m ts → {s : List Symbol} {us : Tokens} {kept : List ℕ} {parts : Parts} {final : Option Parts}
      → BehindSum s us m kept (PExpr e ∷ parts) final → Read (N NAME_EXPR ∷ s) (ts ++ us) n kept parts final
  sum_opens (product d) k = product_opens d k.by_product
  sum_opens (plus {m = m} t {ts = ts} {us = vs} d i e) {us = us} k = to (ts ++ (opens m t ∷ (vs ++ us))) (simp append_assoc) (sum_opens d (by_adding (op_in SET_ADDING i (product_reads e (ru RULE_PRODUCT_TAIL_END refl (ac ACT_BINARY refl k.by_sum))))))

  pub comparison_opens : {n m : ℕ} {e : Expr} {ts : Tokens} → IsComparison n e m ts → {s : List Symbol} {us : Tokens} {kept : List ℕ} {parts : Parts} {final : Option Parts}
      → BehindComparison s us m kept (PExpr e ∷ parts) final → Read (N NAME_EXPR ∷ s) (ts ++ us) n kept parts final
  comparison_opens (sum d) k = sum_opens d k.as_sum
  comparison_opens (compare {m = m} t {ts = ts} {us = vs} d i e) {us = us} k = to (ts ++ (opens m t ∷ (vs ++ us))) (simp append_assoc) (comparison_opens d (by_comparing (op_in SET_COMPARING i (sum_reads e (ru RULE_SUM_TAIL_END refl (ac ACT_BINARY refl k.by_comparison))))))

  pub conjunction_opens : {n m : ℕ} {e : Expr} {ts : Tokens} → IsConjunction n e m ts → {s : List Symbol} {us : Tokens} {kept : List ℕ} {parts : Parts} {final : Option Parts}
      → BehindConjunction s us m kept (PExpr e ∷ parts) final → Read (N NAME_EXPR ∷ s) (ts ++ us) n kept parts final
  conjunction_opens (comparison d) k = comparison_opens d k.as_comparison
  conjunction_opens (both {m = m} t {ts = ts} {us = vs} d i e) {us = us} k = to (ts ++ (opens m t ∷ (vs ++ us))) (simp append_assoc) (conjunction_opens d (by_and (op SET_AND_AND CLASS_AND_AND i refl (comparison_reads e (ru RULE_COMPARISON_TAIL_END refl (ac ACT_BINARY refl k.by_conjunction))))))

  pub expr_opens : {n m : ℕ} {e : Expr} {ts : Tokens} → IsExpr n e m ts → {s : List Symbol} {us : Tokens} {kept : List ℕ} {parts : Parts} {final : Option Parts}
      → BehindExpr s us m kept (PExpr e ∷ parts) final → Read (N NAME_EXPR ∷ s) (ts ++ us) n kept parts final
  expr_opens (conjunction d) k = conjunction_opens d k.as_conjunction
  expr_opens (either {m = m} t {ts = ts} {us = vs} d i e) {us = us} k = to (ts ++ (opens m t ∷ (vs ++ us))) (simp append_assoc) (expr_opens d (by_or (op SET_OR_OR CLASS_OR_OR i refl (conjunction_reads e (ru RULE_CONJUNCTION_TAIL_END refl (ac ACT_BINARY refl k.by_expr))))))

  pub bound_reads : {n : ℕ} {b : Option Expr} {ts : Tokens} → IsBound n b ts → {s : List Symbol} {us : Tokens} {kept : List ℕ} {parts : Parts} {final : Option Parts}
      → Read s us n kept (PBound b ∷ parts) final → Read (N NAME_BOUND ∷ s) (ts ++ us) n kept parts final
  bound_reads unbound k = ru RULE_BOUND_NONE refl (ac ACT_NO_BOUND refl k)
  bound_reads (bound d) k = ru RULE_BOUND_SOME refl (ru RULE_WHOLE_EXPR refl (sv (expr_opens d (at_end (rs (ac ACT_BOUND refl k))))))

pub expr_reads : {n m : ℕ} {e : Expr} {ts : Tokens} → IsExpr n e m ts → {s : List Symbol} {us : Tokens} {kept : List ℕ} {parts : Parts} {final : Option Parts}
    → Read s us m kept (PExpr e ∷ parts) final → Read (N NAME_EXPR ∷ s) (ts ++ us) n kept parts final
expr_reads d k = expr_opens d (at_end k)

pub whole_expr : {n m : ℕ} {e : Expr} {ts : Tokens} → IsExpr n e m ts → {s : List Symbol} {us : Tokens} {kept : List ℕ} {parts : Parts} {final : Option Parts}
    → Read s us n kept (PExpr e ∷ parts) final → Read (N NAME_WHOLE ∷ s) (ts ++ us) n kept parts final
whole_expr d k = ru RULE_WHOLE_EXPR refl (sv (expr_reads d (rs k)))

pub whole_reads : {n : ℕ} {e : Expr} {ts : Tokens} → IsWhole n e ts → {s : List Symbol} {us : Tokens} {kept : List ℕ} {parts : Parts} {final : Option Parts}
    → Read s us n kept (PExpr e ∷ parts) final → Read (N NAME_WHOLE ∷ s) (ts ++ us) n kept parts final
whole_reads (whole d) k = whole_expr d k

-- A place where what begins with an operand may be an expression, with what comes behind that.
pub record Values (start tail : ℕ) (after : List Symbol) : Type 0 where
  pub by_sign : (s : List Symbol) (us : Tokens) (n : ℕ) (kept : List ℕ) (parts : Parts) (final : Option Parts)
      → Read (A OPEN ∷ T SET_INVERTING ∷ N NAME_UNARY ∷ A ACT_UNARY ∷ N NAME_OPERATORS ∷ after ++ s) us n kept parts final → Read (N start ∷ s) us n kept parts final
  pub by_value : (s : List Symbol) (us : Tokens) (n : ℕ) (kept : List ℕ) (parts : Parts) (final : Option Parts)
      → Read (N NAME_OPERATORS ∷ after ++ s) us n kept parts final → Read (N tail ∷ s) us n kept parts final

pub right_values : Values NAME_PLAIN_RIGHT NAME_RIGHT_TAIL (A ACT_VALUE ∷ [])
right_values = record {
  by_sign = λ s us n kept parts final k. ru RULE_PLAIN_RIGHT_SIGN refl k;
  by_value = λ s us n kept parts final k. ru RULE_RIGHT_TAIL_VALUE refl k;
}

pub returned_values : Values NAME_RETURNED NAME_RETURNED_TAIL (A ACT_VALUE ∷ A ACT_RIGHT ∷ A RESTORE ∷ N NAME_MORE_RETURNED ∷ [])
returned_values = record {
  by_sign = λ s us n kept parts final k. ru RULE_RETURNED_SIGN refl k;
  by_value = λ s us n kept parts final k. ru RULE_RETURNED_TAIL_VALUE refl k;
}

pub header_values : Values NAME_HEADER NAME_FIRST_TAIL (A RESTORE ∷ N NAME_LOOP_BRACES ∷ A ACT_WHILE ∷ [])
header_values = record {
  by_sign = λ s us n kept parts final k. ru RULE_HEADER_SIGN refl k;
  by_value = λ s us n kept parts final k. ru RULE_FIRST_TAIL_VALUE refl k;
}

pub unary_at : {start alone member indexed tail : ℕ} {bracket closing after : List Symbol} → Place start alone member indexed tail bracket closing → Values start tail after → {n m : ℕ} {e : Expr} {ts : Tokens} → IsUnary n e m ts → {s : List Symbol} {us : Tokens} {kept : List ℕ} {parts : Parts} {final : Option Parts}
    → Read (N NAME_OPERATORS ∷ after ++ s) us m kept (PExpr e ∷ parts) final → Read (N start ∷ s) (ts ++ us) n kept parts final
unary_at p q (invert t i d) k = q.by_sign _ _ _ _ _ _ (op_in SET_INVERTING i (unary_reads d (ac ACT_UNARY refl k)))
unary_at p q (prim d) k = prim_reads p d (p.on (shape_of d) _ _ _ _ _ _ (q.by_value _ _ _ _ _ _ k))

pub product_at : {start alone member indexed tail : ℕ} {bracket closing after : List Symbol} → Place start alone member indexed tail bracket closing → Values start tail after → {n m : ℕ} {e : Expr} {ts : Tokens} → IsProduct n e m ts → {s : List Symbol} {us : Tokens} {kept : List ℕ} {parts : Parts} {final : Option Parts}
    → Read (N NAME_PRODUCT_OPERATORS ∷ after ++ s) us m kept (PExpr e ∷ parts) final → Read (N start ∷ s) (ts ++ us) n kept parts final
product_at p q (unary d) k = unary_at p q d (ru RULE_OPERATORS_TAILS refl k)
product_at p q (times {m = m} t {ts = ts} {us = vs} d i e) {us = us} k = to (ts ++ (opens m t ∷ (vs ++ us))) (simp append_assoc) (product_at p q d (ru RULE_PRODUCT_OPERATORS_PRODUCT refl (op_in SET_MULTIPLYING i (unary_reads e (ac ACT_BINARY refl k)))))

pub sum_at : {start alone member indexed tail : ℕ} {bracket closing after : List Symbol} → Place start alone member indexed tail bracket closing → Values start tail after → {n m : ℕ} {e : Expr} {ts : Tokens} → IsSum n e m ts → {s : List Symbol} {us : Tokens} {kept : List ℕ} {parts : Parts} {final : Option Parts}
    → BehindSum (after ++ s) us m kept (PExpr e ∷ parts) final → Read (N start ∷ s) (ts ++ us) n kept parts final
sum_at p q (product d) k = product_at p q d k.by_product
sum_at p q (plus {m = m} t {ts = ts} {us = vs} d i e) {us = us} k = to (ts ++ (opens m t ∷ (vs ++ us))) (simp append_assoc) (sum_at p q d (by_adding (op_in SET_ADDING i (product_reads e (ru RULE_PRODUCT_TAIL_END refl (ac ACT_BINARY refl k.by_sum))))))

pub comparison_at : {start alone member indexed tail : ℕ} {bracket closing after : List Symbol} → Place start alone member indexed tail bracket closing → Values start tail after → {n m : ℕ} {e : Expr} {ts : Tokens} → IsComparison n e m ts → {s : List Symbol} {us : Tokens} {kept : List ℕ} {parts : Parts} {final : Option Parts}
    → BehindComparison (after ++ s) us m kept (PExpr e ∷ parts) final → Read (N start ∷ s) (ts ++ us) n kept parts final
comparison_at p q (sum d) k = sum_at p q d k.as_sum
comparison_at p q (compare {m = m} t {ts = ts} {us = vs} d i e) {us = us} k = to (ts ++ (opens m t ∷ (vs ++ us))) (simp append_assoc) (comparison_at p q d (by_comparing (op_in SET_COMPARING i (sum_reads e (ru RULE_SUM_TAIL_END refl (ac ACT_BINARY refl k.by_comparison))))))

pub conjunction_at : {start alone member indexed tail : ℕ} {bracket closing after : List Symbol} → Place start alone member indexed tail bracket closing → Values start tail after → {n m : ℕ} {e : Expr} {ts : Tokens} → IsConjunction n e m ts → {s : List Symbol} {us : Tokens} {kept : List ℕ} {parts : Parts} {final : Option Parts}
    → BehindConjunction (after ++ s) us m kept (PExpr e ∷ parts) final → Read (N start ∷ s) (ts ++ us) n kept parts final
conjunction_at p q (comparison d) k = comparison_at p q d k.as_comparison
conjunction_at p q (both {m = m} t {ts = ts} {us = vs} d i e) {us = us} k = to (ts ++ (opens m t ∷ (vs ++ us))) (simp append_assoc) (conjunction_at p q d (by_and (op SET_AND_AND CLASS_AND_AND i refl (comparison_reads e (ru RULE_COMPARISON_TAIL_END refl (ac ACT_BINARY refl k.by_conjunction))))))

pub expr_from : {start alone member indexed tail : ℕ} {bracket closing after : List Symbol} → Place start alone member indexed tail bracket closing → Values start tail after → {n m : ℕ} {e : Expr} {ts : Tokens} → IsExpr n e m ts → {s : List Symbol} {us : Tokens} {kept : List ℕ} {parts : Parts} {final : Option Parts}
    → BehindExpr (after ++ s) us m kept (PExpr e ∷ parts) final → Read (N start ∷ s) (ts ++ us) n kept parts final
expr_from p q (conjunction d) k = conjunction_at p q d k.as_conjunction
expr_from p q (either {m = m} t {ts = ts} {us = vs} d i e) {us = us} k = to (ts ++ (opens m t ∷ (vs ++ us))) (simp append_assoc) (expr_from p q d (by_or (op SET_OR_OR CLASS_OR_OR i refl (conjunction_reads e (ru RULE_CONJUNCTION_TAIL_END refl (ac ACT_BINARY refl k.by_expr))))))

pub expr_at : {start alone member indexed tail : ℕ} {bracket closing after : List Symbol} → Place start alone member indexed tail bracket closing → Values start tail after → {n m : ℕ} {e : Expr} {ts : Tokens} → IsExpr n e m ts → {s : List Symbol} {us : Tokens} {kept : List ℕ} {parts : Parts} {final : Option Parts}
    → Read (after ++ s) us m kept (PExpr e ∷ parts) final → Read (N start ∷ s) (ts ++ us) n kept parts final
expr_at p q d k = expr_from p q d (at_end k)

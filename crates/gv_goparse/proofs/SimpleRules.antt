-- The rules of simple statements, right sides and headers keep the meaning of their names.
use Rattle.std.proofs.Common.{◌≡◌, ◌+◌, ◌∷◌, ◌++◌, ℕ, Bool, true, false, List, Some, None, refl, sym, ap, subst, append_assoc, []}
use Rattle.std.proofs.lemmas.List.{append-nil, map-append}
use Rattle.gv_grammar.specs.Text.{plain, opens, tokens_of}
use Rattle.gv_grammar.proofs.Meaning.{none, taken, acted, means, Made, mk, at, Phrase, Tail, one_class}
use Rattle.gv_gosyntax.specs.declared.generated.gosyntax_table.TheConstants.{CLASS_COLON, CLASS_COMMA, CLASS_DOT, CLASS_L_BRACKET, CLASS_L_PAREN, CLASS_R_BRACKET, CLASS_R_PAREN, CLASS_SEMI, NAME_AFTER_FIRST, NAME_CLAUSES, NAME_FIRST_ASSIGN, NAME_FIRST_BRACKET, NAME_FIRST_CLOSING, NAME_FIRST_INDEX, NAME_FIRST_MEMBER, NAME_FIRST_NAME, NAME_FIRST_TAIL, NAME_HEADER, NAME_LEFT, NAME_LEFT_BRACKET, NAME_LEFT_CLOSING, NAME_LEFT_END, NAME_LEFT_TAIL, NAME_MORE_RETURNED, NAME_PLAIN_RIGHT, NAME_POST, NAME_POST_ASSIGN, NAME_POST_BRACKET, NAME_POST_CLOSING, NAME_POST_INDEX, NAME_POST_MEMBER, NAME_POST_NAME, NAME_POST_PART, NAME_POST_TAIL, NAME_RETURNED, NAME_RETURNED_MEMBER, NAME_RETURNED_TAIL, NAME_RIGHT, NAME_RIGHT_MEMBER, NAME_RIGHT_TAIL, NAME_SIMPLE, NAME_SIMPLE_ASSIGN, NAME_SIMPLE_BRACKET, NAME_SIMPLE_CLOSING, NAME_SIMPLE_INDEX, NAME_SIMPLE_MEMBER, NAME_SIMPLE_NAME, NAME_SIMPLE_TAIL, RULE_AFTER_FIRST_CLAUSES, RULE_CLAUSES_REST, RULE_FIRST_ASSIGN_ONE, RULE_FIRST_ASSIGN_TWO, RULE_FIRST_BRACKET_INDEX, RULE_FIRST_BRACKET_SLICE, RULE_FIRST_CLOSING_INDEX, RULE_FIRST_CLOSING_SLICE, RULE_FIRST_INDEX_ASSIGN, RULE_FIRST_INDEX_MORE, RULE_FIRST_MEMBER_CALL, RULE_FIRST_MEMBER_MORE, RULE_FIRST_NAME_COUNT, RULE_FIRST_NAME_MORE, RULE_FIRST_NAME_UPDATE, RULE_FIRST_TAIL_BRACKET, RULE_FIRST_TAIL_MEMBER, RULE_FIRST_TAIL_VALUE, RULE_HEADER_BUILTIN, RULE_HEADER_CLAUSES, RULE_HEADER_CLOSED, RULE_HEADER_FOREVER, RULE_HEADER_NAME, RULE_HEADER_SIGN, RULE_LEFT_BRACKET_INDEX, RULE_LEFT_BRACKET_SLICE, RULE_LEFT_CLOSED, RULE_LEFT_CLOSING_INDEX, RULE_LEFT_CLOSING_SLICE, RULE_LEFT_END_END, RULE_LEFT_END_MORE, RULE_LEFT_NAME, RULE_LEFT_TAIL_BRACKET, RULE_LEFT_TAIL_MEMBER, RULE_MORE_RETURNED_END, RULE_MORE_RETURNED_MORE, RULE_PLAIN_RIGHT_BUILTIN, RULE_PLAIN_RIGHT_CLOSED, RULE_PLAIN_RIGHT_NAME, RULE_PLAIN_RIGHT_SIGN, RULE_POST_ASSIGN_ONE, RULE_POST_ASSIGN_TWO, RULE_POST_BRACKET_INDEX, RULE_POST_BRACKET_SLICE, RULE_POST_BUILTIN, RULE_POST_CLOSED, RULE_POST_CLOSING_INDEX, RULE_POST_CLOSING_SLICE, RULE_POST_INDEX_ASSIGN, RULE_POST_INDEX_MORE, RULE_POST_MEMBER_CALL, RULE_POST_MEMBER_MORE, RULE_POST_NAME, RULE_POST_NAME_COUNT, RULE_POST_NAME_MORE, RULE_POST_NAME_UPDATE, RULE_POST_PART_NONE, RULE_POST_PART_SOME, RULE_POST_TAIL_BRACKET, RULE_POST_TAIL_MEMBER, RULE_RETURNED_BUILTIN, RULE_RETURNED_CLOSED, RULE_RETURNED_LITERAL, RULE_RETURNED_MEMBER_CALL, RULE_RETURNED_MEMBER_MORE, RULE_RETURNED_NAME, RULE_RETURNED_NONE, RULE_RETURNED_SIGN, RULE_RETURNED_TAIL_BRACKET, RULE_RETURNED_TAIL_MEMBER, RULE_RETURNED_TAIL_VALUE, RULE_RIGHT_LITERAL, RULE_RIGHT_MEMBER_CALL, RULE_RIGHT_MEMBER_MORE, RULE_RIGHT_PLAIN, RULE_RIGHT_TAIL_BRACKET, RULE_RIGHT_TAIL_MEMBER, RULE_RIGHT_TAIL_VALUE, RULE_SIMPLE_ASSIGN_ONE, RULE_SIMPLE_ASSIGN_TWO, RULE_SIMPLE_BRACKET_INDEX, RULE_SIMPLE_BRACKET_SLICE, RULE_SIMPLE_BUILTIN, RULE_SIMPLE_CLOSED, RULE_SIMPLE_CLOSING_INDEX, RULE_SIMPLE_CLOSING_SLICE, RULE_SIMPLE_INDEX_ASSIGN, RULE_SIMPLE_INDEX_MORE, RULE_SIMPLE_LITERAL, RULE_SIMPLE_MEMBER_CALL, RULE_SIMPLE_MEMBER_MORE, RULE_SIMPLE_NAME, RULE_SIMPLE_NAME_COUNT, RULE_SIMPLE_NAME_MORE, RULE_SIMPLE_NAME_UPDATE, RULE_SIMPLE_TAIL_BRACKET, RULE_SIMPLE_TAIL_MEMBER}
use Rattle.gv_gosyntax.specs.declared.lexeme.Lexeme.{Lexeme}
use Rattle.gv_gosyntax.specs.declared.tree.Expr.{Expr}
use Rattle.gv_gosyntax.specs.declared.tree.Right.{Right}
use Rattle.gv_gosyntax.specs.declared.tree.Expr.TheVariants.{Name, Select}
use Rattle.gv_gosyntax.specs.declared.tree.Call.TheVariants.{Function}
use Rattle.gv_gosyntax.specs.declared.tree.Right.TheVariants.{Value, Result}
use Rattle.gv_gosyntax.specs.declared.tree.Expr.TheVariants as expr
use Rattle.gv_gosyntax.specs.declared.tree.Simple.TheVariants as simple_stmt
use Rattle.gv_goparse.specs.Language.{Tokens, Is, AnyOf, inverting, assigning, counting, updating, IsItems, IsList, IsWhole, IsCall, IsRight, IsLeft, IsSimple, IsPart, IsValue, IsBlock, first, next, invert, prim, whole, function, method, value, result, assign, assign_two, count, update, call, no_part, part, operand}
use Rattle.gv_goparse.proofs.Meanings.{Prim, Unary, Expression, IsAlone, IsMember, IsPlace, member_prim, place_prim, place_left, IsLoop, IsRights, values_rights, Keeps, go_name, go_closed, go_dot, go_open, go_to, go_first, go_index, go_from, go_on, end_here, alone_so, alone, of_alone, member, of_member, forever_loop, while_loop, clauses_loop, no_rights, one_right}

-- a call of a name
pub member_call : {h : Bool} {n : ℕ} {x : Expr × ℕ} {es : List Expr} {xs us : Tokens} (o c : Lexeme) → IsMember n x xs → Is CLASS_L_PAREN o → IsList (IsWhole (x.1 + 1)) CLASS_COMMA es us → Is CLASS_R_PAREN c
    → IsCall h n (Function x.0 es) (xs ++ (opens x.1 o ∷ (us ++ (plain c ∷ []))))
member_call o c (of_alone (alone i g)) j d k = function i o c g j d k
member_call {h} {n} {es = es} {us = us} o c (member {m = m} d i {e = e} {ts = ts} p g f) j l k =
    subst (λ (ps : Tokens). IsCall h n (Function (Select e i) es) ps) (sym (append_assoc ts (opens m d ∷ plain i ∷ []) (opens (m + 1) o ∷ (us ++ (plain c ∷ []))))) (method d i o c p g f j l k)

-- the ends of simple statements, and what goes on behind them; `ws ++ []` is what follows, or nothing where nothing does
module _ {E : Type 0} {P : ℕ → E → Tokens → Type 0} where
  pub go_on_left : (us : List Lexeme) → Tail IsLeft P us → Tail IsPlace P (us ++ [])
  go_on_left us k n x xs h = at (simp append-nil) (k n x.0 xs (place_left h))

  module _ {header : Bool} where
    pub go_count : (ws : List Lexeme) → Tail (IsSimple header) P ws → (s : Lexeme) → AnyOf counting s → Tail IsAlone P (s ∷ (ws ++ []))
    go_count ws k s j n _ _ (alone i h) = at (simp append-nil) (k n (simple_stmt.Count (Name i) s) (plain i ∷ plain s ∷ []) (count i s h j))

    pub go_update : (ts ws : List Lexeme) → Tail (IsSimple header) P ws → Phrase Expression ts → (s : Lexeme) → AnyOf updating s → Tail IsAlone P (s ∷ (ts ++ (ws ++ [])))
    go_update ts ws k d s j n _ _ (alone i h) =
        let a = d n in
        let e = a.same in
        at (simp (map-append, append_assoc, append-nil, e)) (k n (simple_stmt.Update (Name i) s a.tree.0) (plain i ∷ plain s ∷ a.placed) (update i s h j a.spelled))

    pub go_call : (ts ws : List Lexeme) → Tail (IsSimple header) P ws → Tail IsMember (IsCall header) ts → Tail IsMember P (ts ++ (ws ++ []))
    go_call ts ws k d n x xs h =
        let a = d n x xs h in
        let e = a.same in
        at (simp (append_assoc, append-nil, e)) (k n (simple_stmt.Call a.tree) a.placed (call a.spelled))

    pub go_built : (ts ws : List Lexeme) → Tail (IsSimple header) P ws → Phrase (IsCall header) ts → Phrase P (ts ++ (ws ++ []))
    go_built ts ws k d n =
        let a = d n in
        let e = a.same in
        at (simp (append-nil, e)) (k n (simple_stmt.Call a.tree) a.placed (call a.spelled))

    pub go_one : (ts ws : List Lexeme) → Tail (IsSimple header) P ws → Phrase (IsRight header) ts → (s : Lexeme) → AnyOf assigning s → Tail IsLeft P (s ∷ (ts ++ (ws ++ [])))
    go_one ts ws k d s j n x xs h =
        let a = d n in
        let e = a.same in
        at (simp (map-append, append_assoc, append-nil, e)) (k n (simple_stmt.Assign (x ∷ []) s a.tree) (xs ++ (plain s ∷ a.placed)) (assign s h j a.spelled))

    pub go_two : (ts vs ws : List Lexeme) → Tail (IsSimple header) P ws → Phrase IsLeft ts → Phrase (IsRight header) vs → (t s : Lexeme) → Is CLASS_COMMA t → AnyOf assigning s → Tail IsLeft P (t ∷ (ts ++ (s ∷ (vs ++ (ws ++ [])))))
    go_two ts vs ws k l d t s i j n x xs h =
        let b = l n in
        let a = d n in
        let e = a.same in
        let f = b.same in
        at (simp (map-append, append_assoc, append-nil, e, f)) (k n (simple_stmt.Assign (x ∷ b.tree ∷ []) s a.tree) (xs ++ (plain t ∷ (b.placed ++ (plain s ∷ a.placed)))) (assign_two t s h i b.spelled j a.spelled))

pub simple_name : Keeps RULE_SIMPLE_NAME NAME_SIMPLE
simple_name _ (taken i h (acted (means {ts = ts} k none))) = go_name ts k i h

pub simple_closed : Keeps RULE_SIMPLE_CLOSED NAME_SIMPLE
simple_closed _ (means {ts = ts} d (means {ts = vs} k none)) = go_closed ts vs d k

pub simple_name_more : Keeps RULE_SIMPLE_NAME_MORE NAME_SIMPLE_NAME
simple_name_more _ (means {ts = ts} k none) = go_on ts (λ n x xs h. of_alone h) k

pub simple_member_more : Keeps RULE_SIMPLE_MEMBER_MORE NAME_SIMPLE_MEMBER
simple_member_more _ (means {ts = ts} k none) = go_on ts (λ n x xs h. of_member h) k

pub simple_index_more : Keeps RULE_SIMPLE_INDEX_MORE NAME_SIMPLE_INDEX
simple_index_more _ (means {ts = ts} k none) = go_on ts (λ n x xs h. place_prim h) k

pub simple_tail_member : Keeps RULE_SIMPLE_TAIL_MEMBER NAME_SIMPLE_TAIL
simple_tail_member _ (acted (taken d i (taken x j (acted (means {ts = ts} k none))))) = go_dot ts k d x (one_class CLASS_DOT d.class i) j

pub simple_tail_bracket : Keeps RULE_SIMPLE_TAIL_BRACKET NAME_SIMPLE_TAIL
simple_tail_bracket _ (acted (taken o i (means {ts = ts} k none))) = go_open ts k o (one_class CLASS_L_BRACKET o.class i)

pub simple_bracket_slice : Keeps RULE_SIMPLE_BRACKET_SLICE NAME_SIMPLE_BRACKET
simple_bracket_slice _ (taken d i (means {ts = ts} b (taken c j (acted (means {ts = vs} k none))))) = go_to ts vs b k d c (one_class CLASS_COLON d.class i) (one_class CLASS_R_BRACKET c.class j)

pub simple_bracket_index : Keeps RULE_SIMPLE_BRACKET_INDEX NAME_SIMPLE_BRACKET
simple_bracket_index _ (means {ts = ts} b (means {ts = vs} k none)) = go_first ts vs b k

pub simple_closing_index : Keeps RULE_SIMPLE_CLOSING_INDEX NAME_SIMPLE_CLOSING
simple_closing_index _ (taken c j (acted (means {ts = ts} k none))) = go_index ts k c (one_class CLASS_R_BRACKET c.class j)

pub simple_closing_slice : Keeps RULE_SIMPLE_CLOSING_SLICE NAME_SIMPLE_CLOSING
simple_closing_slice _ (taken d i (means {ts = ts} b (taken c j (acted (means {ts = vs} k none))))) = go_from ts vs b k d c (one_class CLASS_COLON d.class i) (one_class CLASS_R_BRACKET c.class j)

pub simple_index_assign : Keeps RULE_SIMPLE_INDEX_ASSIGN NAME_SIMPLE_INDEX
simple_index_assign _ (acted (means {ts = ts} k none)) = go_on_left ts k

pub simple_name_count : Keeps RULE_SIMPLE_NAME_COUNT NAME_SIMPLE_NAME
simple_name_count _ (taken s j (acted none)) = go_count [] (end_here (IsSimple false)) s j

pub simple_name_update : Keeps RULE_SIMPLE_NAME_UPDATE NAME_SIMPLE_NAME
simple_name_update _ (taken s j (means {ts = ts} d (acted none))) = go_update ts [] (end_here (IsSimple false)) d s j

pub simple_member_call : Keeps RULE_SIMPLE_MEMBER_CALL NAME_SIMPLE_MEMBER
simple_member_call _ (means {ts = ts} d (acted none)) = go_call ts [] (end_here (IsSimple false)) (d false)

pub simple_assign_one : Keeps RULE_SIMPLE_ASSIGN_ONE NAME_SIMPLE_ASSIGN
simple_assign_one _ (acted (acted (taken s j (means {ts = ts} d (acted none))))) = go_one ts [] (end_here (IsSimple false)) d s j

pub simple_assign_two : Keeps RULE_SIMPLE_ASSIGN_TWO NAME_SIMPLE_ASSIGN
simple_assign_two _ (acted (acted (taken t i (acted (means {ts = ts} e (acted (acted (acted (taken s j (means {ts = vs} d (acted none))))))))))) = go_two ts vs [] (end_here (IsSimple false)) e d t s (one_class CLASS_COMMA t.class i) j

pub simple_builtin : Keeps RULE_SIMPLE_BUILTIN NAME_SIMPLE
simple_builtin _ (means {ts = ts} d (acted none)) = go_built ts [] (end_here (IsSimple false)) (d false)

pub simple_literal : Keeps RULE_SIMPLE_LITERAL NAME_SIMPLE
simple_literal _ (means {ts = ts} d (acted none)) = go_built ts [] (end_here (IsSimple false)) d

pub post_name : Keeps RULE_POST_NAME NAME_POST
post_name _ (taken i h (acted (means {ts = ts} k none))) = go_name ts k i h

pub post_closed : Keeps RULE_POST_CLOSED NAME_POST
post_closed _ (means {ts = ts} d (means {ts = vs} k none)) = go_closed ts vs d k

pub post_name_more : Keeps RULE_POST_NAME_MORE NAME_POST_NAME
post_name_more _ (means {ts = ts} k none) = go_on ts (λ n x xs h. of_alone h) k

pub post_member_more : Keeps RULE_POST_MEMBER_MORE NAME_POST_MEMBER
post_member_more _ (means {ts = ts} k none) = go_on ts (λ n x xs h. of_member h) k

pub post_index_more : Keeps RULE_POST_INDEX_MORE NAME_POST_INDEX
post_index_more _ (means {ts = ts} k none) = go_on ts (λ n x xs h. place_prim h) k

pub post_tail_member : Keeps RULE_POST_TAIL_MEMBER NAME_POST_TAIL
post_tail_member _ (acted (taken d i (taken x j (acted (means {ts = ts} k none))))) = go_dot ts k d x (one_class CLASS_DOT d.class i) j

pub post_tail_bracket : Keeps RULE_POST_TAIL_BRACKET NAME_POST_TAIL
post_tail_bracket _ (acted (taken o i (means {ts = ts} k none))) = go_open ts k o (one_class CLASS_L_BRACKET o.class i)

pub post_bracket_slice : Keeps RULE_POST_BRACKET_SLICE NAME_POST_BRACKET
post_bracket_slice _ (taken d i (means {ts = ts} b (taken c j (acted (means {ts = vs} k none))))) = go_to ts vs b k d c (one_class CLASS_COLON d.class i) (one_class CLASS_R_BRACKET c.class j)

pub post_bracket_index : Keeps RULE_POST_BRACKET_INDEX NAME_POST_BRACKET
post_bracket_index _ (means {ts = ts} b (means {ts = vs} k none)) = go_first ts vs b k

pub post_closing_index : Keeps RULE_POST_CLOSING_INDEX NAME_POST_CLOSING
post_closing_index _ (taken c j (acted (means {ts = ts} k none))) = go_index ts k c (one_class CLASS_R_BRACKET c.class j)

pub post_closing_slice : Keeps RULE_POST_CLOSING_SLICE NAME_POST_CLOSING
post_closing_slice _ (taken d i (means {ts = ts} b (taken c j (acted (means {ts = vs} k none))))) = go_from ts vs b k d c (one_class CLASS_COLON d.class i) (one_class CLASS_R_BRACKET c.class j)

pub post_index_assign : Keeps RULE_POST_INDEX_ASSIGN NAME_POST_INDEX
post_index_assign _ (acted (means {ts = ts} k none)) = go_on_left ts k

pub post_name_count : Keeps RULE_POST_NAME_COUNT NAME_POST_NAME
post_name_count _ (taken s j (acted none)) = go_count [] (end_here (IsSimple true)) s j

pub post_name_update : Keeps RULE_POST_NAME_UPDATE NAME_POST_NAME
post_name_update _ (taken s j (means {ts = ts} d (acted none))) = go_update ts [] (end_here (IsSimple true)) d s j

pub post_member_call : Keeps RULE_POST_MEMBER_CALL NAME_POST_MEMBER
post_member_call _ (means {ts = ts} d (acted none)) = go_call ts [] (end_here (IsSimple true)) (d true)

pub post_assign_one : Keeps RULE_POST_ASSIGN_ONE NAME_POST_ASSIGN
post_assign_one _ (acted (acted (taken s j (means {ts = ts} d (acted none))))) = go_one ts [] (end_here (IsSimple true)) (d true) s j

pub post_assign_two : Keeps RULE_POST_ASSIGN_TWO NAME_POST_ASSIGN
post_assign_two _ (acted (acted (taken t i (acted (means {ts = ts} e (acted (acted (acted (taken s j (means {ts = vs} d (acted none))))))))))) = go_two ts vs [] (end_here (IsSimple true)) e (d true) t s (one_class CLASS_COMMA t.class i) j

pub post_builtin : Keeps RULE_POST_BUILTIN NAME_POST
post_builtin _ (means {ts = ts} d (acted none)) = go_built ts [] (end_here (IsSimple true)) (d true)

pub header_name : Keeps RULE_HEADER_NAME NAME_HEADER
header_name _ (taken i h (acted (means {ts = ts} k none))) = go_name ts k i h

pub header_closed : Keeps RULE_HEADER_CLOSED NAME_HEADER
header_closed _ (means {ts = ts} d (means {ts = vs} k none)) = go_closed ts vs d k

pub first_name_more : Keeps RULE_FIRST_NAME_MORE NAME_FIRST_NAME
first_name_more _ (means {ts = ts} k none) = go_on ts (λ n x xs h. of_alone h) k

pub first_member_more : Keeps RULE_FIRST_MEMBER_MORE NAME_FIRST_MEMBER
first_member_more _ (means {ts = ts} k none) = go_on ts (λ n x xs h. of_member h) k

pub first_index_more : Keeps RULE_FIRST_INDEX_MORE NAME_FIRST_INDEX
first_index_more _ (means {ts = ts} k none) = go_on ts (λ n x xs h. place_prim h) k

pub first_tail_member : Keeps RULE_FIRST_TAIL_MEMBER NAME_FIRST_TAIL
first_tail_member _ (acted (taken d i (taken x j (acted (means {ts = ts} k none))))) = go_dot ts k d x (one_class CLASS_DOT d.class i) j

pub first_tail_bracket : Keeps RULE_FIRST_TAIL_BRACKET NAME_FIRST_TAIL
first_tail_bracket _ (acted (taken o i (means {ts = ts} k none))) = go_open ts k o (one_class CLASS_L_BRACKET o.class i)

pub first_bracket_slice : Keeps RULE_FIRST_BRACKET_SLICE NAME_FIRST_BRACKET
first_bracket_slice _ (taken d i (means {ts = ts} b (taken c j (acted (means {ts = vs} k none))))) = go_to ts vs b k d c (one_class CLASS_COLON d.class i) (one_class CLASS_R_BRACKET c.class j)

pub first_bracket_index : Keeps RULE_FIRST_BRACKET_INDEX NAME_FIRST_BRACKET
first_bracket_index _ (means {ts = ts} b (means {ts = vs} k none)) = go_first ts vs b k

pub first_closing_index : Keeps RULE_FIRST_CLOSING_INDEX NAME_FIRST_CLOSING
first_closing_index _ (taken c j (acted (means {ts = ts} k none))) = go_index ts k c (one_class CLASS_R_BRACKET c.class j)

pub first_closing_slice : Keeps RULE_FIRST_CLOSING_SLICE NAME_FIRST_CLOSING
first_closing_slice _ (taken d i (means {ts = ts} b (taken c j (acted (means {ts = vs} k none))))) = go_from ts vs b k d c (one_class CLASS_COLON d.class i) (one_class CLASS_R_BRACKET c.class j)

pub first_index_assign : Keeps RULE_FIRST_INDEX_ASSIGN NAME_FIRST_INDEX
first_index_assign _ (acted (means {ts = ts} k none)) = go_on_left ts k

pub first_name_count : Keeps RULE_FIRST_NAME_COUNT NAME_FIRST_NAME
first_name_count _ (taken s j (acted (means {ts = ws} k none))) = go_count ws k s j

pub first_name_update : Keeps RULE_FIRST_NAME_UPDATE NAME_FIRST_NAME
first_name_update _ (taken s j (means {ts = ts} d (acted (means {ts = ws} k none)))) = go_update ts ws k d s j

pub first_member_call : Keeps RULE_FIRST_MEMBER_CALL NAME_FIRST_MEMBER
first_member_call _ (means {ts = ts} d (acted (means {ts = ws} k none))) = go_call ts ws k (d true)

pub first_assign_one : Keeps RULE_FIRST_ASSIGN_ONE NAME_FIRST_ASSIGN
first_assign_one _ (acted (acted (taken s j (means {ts = ts} d (acted (means {ts = ws} k none)))))) = go_one ts ws k (d true) s j

pub first_assign_two : Keeps RULE_FIRST_ASSIGN_TWO NAME_FIRST_ASSIGN
first_assign_two _ (acted (acted (taken t i (acted (means {ts = ts} e (acted (acted (acted (taken s j (means {ts = vs} d (acted (means {ts = ws} k none)))))))))))) = go_two ts vs ws k e (d true) t s (one_class CLASS_COMMA t.class i) j

pub header_builtin : Keeps RULE_HEADER_BUILTIN NAME_HEADER
header_builtin _ (means {ts = ts} d (acted (means {ts = ws} k none))) = go_built ts ws k (d true)

pub left_name : Keeps RULE_LEFT_NAME NAME_LEFT
left_name _ (taken i h (acted (means {ts = ts} k none))) = go_name ts (λ n x xs a. k n x xs (of_member (of_alone a))) i h

pub left_closed : Keeps RULE_LEFT_CLOSED NAME_LEFT
left_closed _ (means {ts = ts} d (means {ts = vs} k none)) = go_closed ts vs d k

pub left_end_more : Keeps RULE_LEFT_END_MORE NAME_LEFT_END
left_end_more _ (means {ts = ts} k none) = go_on ts (λ n x xs h. place_prim h) k

pub left_end_end : Keeps RULE_LEFT_END_END NAME_LEFT_END
left_end_end _ none n x xs h = mk (IsLeft n) x.0 xs (place_left h) (simp append-nil)

pub left_tail_member : Keeps RULE_LEFT_TAIL_MEMBER NAME_LEFT_TAIL
left_tail_member _ (acted (taken d i (taken x j (acted (means {ts = ts} k none))))) = go_dot ts (λ n x xs h. k n x xs (of_member h)) d x (one_class CLASS_DOT d.class i) j

pub left_tail_bracket : Keeps RULE_LEFT_TAIL_BRACKET NAME_LEFT_TAIL
left_tail_bracket _ (acted (taken o i (means {ts = ts} k none))) = go_open ts k o (one_class CLASS_L_BRACKET o.class i)

pub left_bracket_slice : Keeps RULE_LEFT_BRACKET_SLICE NAME_LEFT_BRACKET
left_bracket_slice _ (taken d i (means {ts = ts} b (taken c j (acted (means {ts = vs} k none))))) = go_to ts vs b k d c (one_class CLASS_COLON d.class i) (one_class CLASS_R_BRACKET c.class j)

pub left_bracket_index : Keeps RULE_LEFT_BRACKET_INDEX NAME_LEFT_BRACKET
left_bracket_index _ (means {ts = ts} b (means {ts = vs} k none)) = go_first ts vs b k

pub left_closing_index : Keeps RULE_LEFT_CLOSING_INDEX NAME_LEFT_CLOSING
left_closing_index _ (taken c j (acted (means {ts = ts} k none))) = go_index ts k c (one_class CLASS_R_BRACKET c.class j)

pub left_closing_slice : Keeps RULE_LEFT_CLOSING_SLICE NAME_LEFT_CLOSING
left_closing_slice _ (taken d i (means {ts = ts} b (taken c j (acted (means {ts = vs} k none))))) = go_from ts vs b k d c (one_class CLASS_COLON d.class i) (one_class CLASS_R_BRACKET c.class j)

pub right_literal : Keeps RULE_RIGHT_LITERAL NAME_RIGHT
right_literal _ (means {ts = ts} d (acted none)) = alone_so (IsRight false) (λ c. Result c) ts (λ n x xs h. result h) d

pub right_plain : Keeps RULE_RIGHT_PLAIN NAME_RIGHT
right_plain _ (means {ts = ts} d none) = alone_so (IsRight false) (λ r. r) ts (λ n x xs h. h) (d false)

-- a unary operator with all that follows it
pub signed : (ts vs : List Lexeme) → Phrase Unary ts → Tail Unary Expression vs → (t : Lexeme) → AnyOf inverting t → Phrase Expression (t ∷ (ts ++ vs))
signed ts vs d k t i n =
    let a = d (n + 1) in
    let e = a.same in
    at (simp (map-append, append_assoc, e)) (k n (expr.Unary t a.tree.0, a.tree.1) (opens n t ∷ a.placed) (invert t i a.spelled))

-- operators behind an operand
pub operated : (ts : List Lexeme) → Tail Unary Expression ts → Tail Prim Expression ts
operated ts k n x xs h = k n x xs (prim h)

pub plain_right_sign : Keeps RULE_PLAIN_RIGHT_SIGN NAME_PLAIN_RIGHT
plain_right_sign _ (acted (taken t i (means {ts = ts} d (acted (means {ts = vs} k (acted none)))))) h n = at (ap (λ (us : List Lexeme). t ∷ us) (append_assoc ts vs [])) (alone_so (IsRight h) (λ e. Value e.0) (t ∷ (ts ++ vs)) (λ n x xs g. value g) (signed ts vs d k t i) n)

pub plain_right_builtin : Keeps RULE_PLAIN_RIGHT_BUILTIN NAME_PLAIN_RIGHT
plain_right_builtin _ (means {ts = ts} d (acted none)) h = alone_so (IsRight h) (λ c. Result c) ts (λ n x xs g. result g) (d h)

pub plain_right_name : Keeps RULE_PLAIN_RIGHT_NAME NAME_PLAIN_RIGHT
plain_right_name _ (taken i g (acted (means {ts = ts} k none))) h = go_name ts (λ n x xs a. k h n x xs (of_alone a)) i g

pub plain_right_closed : Keeps RULE_PLAIN_RIGHT_CLOSED NAME_PLAIN_RIGHT
plain_right_closed _ (means {ts = ts} d (means {ts = vs} k none)) h = go_closed ts vs d (k h)

-- what is read behind an operand, as one of a larger kind
pub behind_so : {C D E : Type 0} {Q : ℕ → C → Tokens → Type 0} {R : ℕ → D → Tokens → Type 0} (P : ℕ → E → Tokens → Type 0) (to : D → E) (us : List Lexeme) → ((n : ℕ) (x : D) (xs : Tokens) → R n x xs → P n (to x) xs) → Tail Q R us → Tail Q P (us ++ [])
behind_so P to us f d n x xs h =
    let a = d n x xs h in
    let e = a.same in
    mk (P n) (to a.tree) a.placed (f n a.tree a.placed a.spelled) (simp (append-nil, e))

pub right_member_call : Keeps RULE_RIGHT_MEMBER_CALL NAME_RIGHT_MEMBER
right_member_call _ (means {ts = ts} d (acted none)) h = behind_so (IsRight h) (λ c. Result c) ts (λ n x xs g. result g) (d h)

pub right_member_more : Keeps RULE_RIGHT_MEMBER_MORE NAME_RIGHT_MEMBER
right_member_more _ (means {ts = ts} k none) h = go_on ts (λ n x xs g. member_prim g) (k h)

pub right_tail_member : Keeps RULE_RIGHT_TAIL_MEMBER NAME_RIGHT_TAIL
right_tail_member _ (acted (taken d i (taken x j (acted (means {ts = ts} k none))))) h = go_dot ts (k h) d x (one_class CLASS_DOT d.class i) j

-- a bracket, and what goes on behind it
pub go_bracket : {E : Type 0} {P : ℕ → E → Tokens → Type 0} (ts us : List Lexeme) → Tail Prim Prim ts → Tail Prim P us → Tail Prim P (ts ++ (us ++ []))
go_bracket ts us b k n x xs h =
    let a = b n x xs h in
    let e = a.same in
    at (simp (append_assoc, append-nil, e)) (k n a.tree a.placed a.spelled)

pub right_tail_bracket : Keeps RULE_RIGHT_TAIL_BRACKET NAME_RIGHT_TAIL
right_tail_bracket _ (means {ts = ts} b (means {ts = vs} k none)) h = go_bracket ts vs b (k h)

pub right_tail_value : Keeps RULE_RIGHT_TAIL_VALUE NAME_RIGHT_TAIL
right_tail_value _ (means {ts = ts} k (acted none)) h = behind_so (IsRight h) (λ e. Value e.0) ts (λ n x xs g. value g) (operated ts k)

-- the first of the values behind `return`, and what goes on
pub go_value : (ts us : List Lexeme) → Tail (λ n. IsItems (IsValue n) CLASS_COMMA) IsRights us → Phrase Expression ts → Phrase IsRights (ts ++ (us ++ []))
go_value ts us k d n =
    let a = d n in
    let e = a.same in
    at (simp (append-nil, e)) (k n (Value a.tree.0 ∷ []) a.placed (first (operand a.spelled)))

pub returned_none : Keeps RULE_RETURNED_NONE NAME_RETURNED
returned_none _ (acted (acted none)) n = mk (IsRights n) [] [] no_rights refl

pub returned_literal : Keeps RULE_RETURNED_LITERAL NAME_RETURNED
returned_literal _ (means {ts = ts} d (acted (acted (acted (acted none))))) = alone_so IsRights (λ c. Result c ∷ []) ts (λ n x xs h. one_right (result h)) d

pub returned_builtin : Keeps RULE_RETURNED_BUILTIN NAME_RETURNED
returned_builtin _ (means {ts = ts} d (acted (acted (acted (acted none))))) = alone_so IsRights (λ c. Result c ∷ []) ts (λ n x xs h. one_right (result h)) (d false)

pub returned_sign : Keeps RULE_RETURNED_SIGN NAME_RETURNED
returned_sign _ (acted (taken t i (means {ts = ts} d (acted (means {ts = vs} o (acted (acted (acted (means {ts = ws} k none))))))))) n = at (ap (λ (us : List Lexeme). t ∷ us) (append_assoc ts vs (ws ++ []))) (go_value (t ∷ (ts ++ vs)) ws k (signed ts vs d o t i) n)

pub returned_name : Keeps RULE_RETURNED_NAME NAME_RETURNED
returned_name _ (taken i g (acted (means {ts = ts} k none))) = go_name ts (λ n x xs a. k n x xs (of_alone a)) i g

pub returned_closed : Keeps RULE_RETURNED_CLOSED NAME_RETURNED
returned_closed _ (means {ts = ts} d (means {ts = vs} k none)) = go_closed ts vs d k

pub returned_member_call : Keeps RULE_RETURNED_MEMBER_CALL NAME_RETURNED_MEMBER
returned_member_call _ (means {ts = ts} d (acted (acted (acted (acted none))))) = behind_so IsRights (λ c. Result c ∷ []) ts (λ n x xs g. one_right (result g)) (d false)

pub returned_member_more : Keeps RULE_RETURNED_MEMBER_MORE NAME_RETURNED_MEMBER
returned_member_more _ (means {ts = ts} k none) = go_on ts (λ n x xs g. member_prim g) k

pub returned_tail_member : Keeps RULE_RETURNED_TAIL_MEMBER NAME_RETURNED_TAIL
returned_tail_member _ (acted (taken d i (taken x j (acted (means {ts = ts} k none))))) = go_dot ts k d x (one_class CLASS_DOT d.class i) j

pub returned_tail_bracket : Keeps RULE_RETURNED_TAIL_BRACKET NAME_RETURNED_TAIL
returned_tail_bracket _ (means {ts = ts} b (means {ts = vs} k none)) = go_bracket ts vs b k

pub returned_tail_value : Keeps RULE_RETURNED_TAIL_VALUE NAME_RETURNED_TAIL
returned_tail_value _ (means {ts = ts} o (acted (acted (acted (means {ts = vs} k none))))) n x xs h = let a = o n x xs (prim h) in let e = a.same in at (simp (append_assoc, append-nil, e)) (k n (Value a.tree.0 ∷ []) a.placed (first (operand a.spelled)))

pub value_next : (t : Lexeme) (n : ℕ) (rs : List Right) (xs : Tokens) (ts vs : List Lexeme) → IsItems (IsValue n) CLASS_COMMA rs xs → Is CLASS_COMMA t → Tail (λ n. IsItems (IsValue n) CLASS_COMMA) IsRights vs → Made (IsWhole n) ts
    → Made (IsRights n) (tokens_of xs ++ (t ∷ (ts ++ (vs ++ []))))
value_next t n rs xs ts vs h i k d = go d.tree d.placed d.spelled d.same
  where
    go : (e : Expr) (ys : Tokens) → IsWhole n e ys → tokens_of ys ≡ ts → Made (IsRights n) (tokens_of xs ++ (t ∷ (ts ++ (vs ++ []))))
    go e ys (whole a) q = at (simp (map-append, append_assoc, append-nil, q)) (k n (rs ++ Value e ∷ []) (xs ++ (plain t ∷ ys)) (next t h i (operand a)))

pub more_returned_more : Keeps RULE_MORE_RETURNED_MORE NAME_MORE_RETURNED
more_returned_more _ (taken t i (acted (means {ts = ts} d (acted (acted (means {ts = vs} k none)))))) n rs xs h = value_next t n rs xs ts vs h (one_class CLASS_COMMA t.class i) k (d n)

pub more_returned_end : Keeps RULE_MORE_RETURNED_END NAME_MORE_RETURNED
more_returned_end _ (acted none) n rs xs h = mk (IsRights n) rs xs (values_rights h) (simp append-nil)

pub header_forever : Keeps RULE_HEADER_FOREVER NAME_HEADER
header_forever _ (acted (means {ts = ts} d (acted none))) = alone_so IsLoop (λ k. (record { first = None; condition = None; post = None }, k)) ts (λ n x xs h. forever_loop h) d

pub header_clauses : Keeps RULE_HEADER_CLAUSES NAME_HEADER
header_clauses _ (acted (acted (means {ts = ts} k none))) n = at (simp append-nil) (k n None [] no_part)

-- a condition by itself, and the block behind it
pub go_while : (ts us : List Lexeme) → Phrase Expression ts → Phrase (IsBlock true) us → Phrase IsLoop (ts ++ (us ++ []))
go_while ts us c d n =
    let a = c n in
    let b = d n in
    let e = a.same in
    let f = b.same in
    mk (IsLoop n) (record { first = None; condition = Some a.tree.0; post = None }, b.tree) (a.placed ++ b.placed) (while_loop a.spelled b.spelled) (simp (map-append, append-nil, e, f))

pub header_sign : Keeps RULE_HEADER_SIGN NAME_HEADER
header_sign _ (acted (taken t i (means {ts = ts} d (acted (means {ts = vs} o (acted (means {ts = ws} b (acted none)))))))) n = at (ap (λ (us : List Lexeme). t ∷ us) (append_assoc ts vs (ws ++ []))) (go_while (t ∷ (ts ++ vs)) ws (signed ts vs d o t i) b n)

pub first_tail_value : Keeps RULE_FIRST_TAIL_VALUE NAME_FIRST_TAIL
first_tail_value _ (means {ts = ts} o (acted (means {ts = vs} d (acted none)))) n x xs h = let a = o n x xs (prim h) in let b = d n in let e = a.same in let f = b.same in mk (IsLoop n) (record { first = None; condition = Some a.tree.0; post = None }, b.tree) (a.placed ++ b.placed) (while_loop a.spelled b.spelled) (simp (map-append, append_assoc, append-nil, e, f))

pub after_first_clauses : Keeps RULE_AFTER_FIRST_CLAUSES NAME_AFTER_FIRST
after_first_clauses _ (acted (acted (means {ts = ts} k none))) n x xs h = at (simp append-nil) (k n (Some x) xs (part h))

pub clauses_rest : Keeps RULE_CLAUSES_REST NAME_CLAUSES
clauses_rest _ (taken s i (means {ts = ts} c (taken t j (means {ts = vs} p (means {ts = ws} d (acted none)))))) n f xs h = let a = c n in let q = p n in let b = d n in let e1 = a.same in let e2 = q.same in let e3 = b.same in mk (IsLoop n) (record { first = f; condition = a.tree; post = q.tree }, b.tree) (xs ++ (plain s ∷ (a.placed ++ (plain t ∷ (q.placed ++ b.placed))))) (clauses_loop s t h (one_class CLASS_SEMI s.class i) a.spelled (one_class CLASS_SEMI t.class j) q.spelled b.spelled) (simp (map-append, append-nil, e1, e2, e3))

pub post_part_some : Keeps RULE_POST_PART_SOME NAME_POST_PART
post_part_some _ (acted (means {ts = ts} d (acted (acted none)))) = alone_so IsPart (λ s. Some s) ts (λ n x xs h. part h) d

pub post_part_none : Keeps RULE_POST_PART_NONE NAME_POST_PART
post_part_none _ (acted none) n = mk (IsPart n) None [] no_part refl

-- What is derived is spelled by the published grammar.
use Rattle.std.proofs.Common.{◌∷◌, ◌∙◌, ℕ, List, refl, sym, []}
use Rattle.std.specs.Prelude.{map as map_list}
use Rattle.std.proofs.lemmas.List.{append-nil}
use Rattle.gv_grammar.specs.declared.steps.Step.{Step}
use Rattle.gv_grammar.specs.declared.symbols.Symbol.TheVariants.{Name as N}
use Rattle.gv_grammar.specs.Derivation.{Spells as Derived}
use Rattle.gv_grammar.specs.Text.{Spells}
use Rattle.gv_grammar.proofs.Meaning.{Meant, none, means, RulesMean, all_mean}
use Rattle.gv_gosyntax.specs.declared.generated.gosyntax_table.TheConstants.{NAME_FILE}
use Rattle.gv_gosyntax.specs.declared.lexeme.Lexeme.{Lexeme}
use Rattle.gv_gosyntax.specs.declared.tree.File.{File}
use Rattle.gv_gosyntax.specs.GosyntaxTable.{gosyntax_tables}
use Rattle.gv_goparse.specs.Language.{IsFile}
use Rattle.gv_goparse.proofs.Meanings.{M}
use Rattle.gv_goparse.proofs.SimpleRules.{simple_name, simple_closed, simple_name_more, simple_member_more, simple_index_more, simple_tail_member, simple_tail_bracket, simple_bracket_slice, simple_bracket_index, simple_closing_index, simple_closing_slice, simple_index_assign, simple_name_count, simple_name_update, simple_member_call, simple_assign_one, simple_assign_two, simple_builtin, simple_literal, post_name, post_closed, post_name_more, post_member_more, post_index_more, post_tail_member, post_tail_bracket, post_bracket_slice, post_bracket_index, post_closing_index, post_closing_slice, post_index_assign, post_name_count, post_name_update, post_member_call, post_assign_one, post_assign_two, post_builtin, header_name, header_closed, first_name_more, first_member_more, first_index_more, first_tail_member, first_tail_bracket, first_bracket_slice, first_bracket_index, first_closing_index, first_closing_slice, first_index_assign, first_name_count, first_name_update, first_member_call, first_assign_one, first_assign_two, header_builtin, left_name, left_closed, left_end_more, left_end_end, left_tail_member, left_tail_bracket, left_bracket_slice, left_bracket_index, left_closing_index, left_closing_slice, right_literal, right_plain, plain_right_sign, plain_right_builtin, plain_right_name, plain_right_closed, right_member_call, right_member_more, right_tail_member, right_tail_bracket, right_tail_value, returned_none, returned_literal, returned_builtin, returned_sign, returned_name, returned_closed, returned_member_call, returned_member_more, returned_tail_member, returned_tail_bracket, returned_tail_value, more_returned_more, more_returned_end, header_forever, header_clauses, header_sign, first_tail_value, after_first_clauses, clauses_rest, post_part_some, post_part_none}
use Rattle.gv_goparse.proofs.ExprRules.{arguments_list, exprs_more, exprs_end, after_expr_more, after_expr_end, fields_more, fields_end, after_field_more, after_field_end, params_more, params_end, after_param_more, after_param_end, keyed_more, keyed_end, after_keyed_more, after_keyed_end, texts_more, texts_end, after_text_more, after_text_end, built_in_pair, built_in_make, built_in_new, make_rest_length, make_rest_none, literal_fields, whole_expr, bound_some, bound_none, expr_first, expr_tail_more, expr_tail_end, conjunction_first, conjunction_tail_more, conjunction_tail_end, comparison_first, comparison_tail_more, comparison_tail_end, sum_first, sum_tail_more, sum_tail_end, product_first, product_tail_more, product_tail_end, operators_tails, product_operators_product, product_operators_sum, product_operators_comparison, product_operators_conjunction, product_operators_expr, product_operators_end, sum_operators_sum, sum_operators_comparison, sum_operators_conjunction, sum_operators_expr, sum_operators_end, comparison_operators_comparison, comparison_operators_conjunction, comparison_operators_expr, comparison_operators_end, conjunction_operators_conjunction, conjunction_operators_expr, conjunction_operators_end, unary_sign, unary_name, unary_closed, prim_tail_member, prim_tail_bracket, prim_tail_end, closed_constant, closed_paren, closed_convert, bracket_open, in_bracket_slice, in_bracket_index, closing_index, closing_slice, type_of_word, type_of_slice, type_of_map, type_of_pointer, type_of_block, items_word, items_pointers, pointed_name, pointed_sync, after_sync_mutex, after_sync_name}
use Rattle.gv_goparse.proofs.StmtRules.{braces_block, stmts_more, stmts_empty, stmts_end, after_stmt_more, after_stmt_end, stmt_plain, stmt_if, stmt_block, if_rest_body, otherwise_else, otherwise_none, other_block, other_if, loop_braces_block, loop_stmts_more, loop_stmts_empty, loop_stmts_end, loop_after_stmt_more, loop_after_stmt_end, loop_stmt_plain, loop_stmt_if, loop_stmt_block, loop_stmt_jump, loop_if_rest_body, loop_otherwise_else, loop_otherwise_none, loop_other_block, loop_other_if, plain_simple, plain_var, plain_for, plain_return, plain_go, var_rest_value, var_rest_none, file_whole, imports_more, imports_end, imp_one, imp_many, decls_more, decls_end, decl_struct, decl_const, const_rest_typed, const_rest_plain, decl_func, receiver_some, receiver_none, group_names, more_names_more, more_names_end, results_one, results_many, results_none, more_types_more, more_types_end}

pub all_rules : RulesMean gosyntax_tables Lexeme (λ token. token.class) M gosyntax_tables.names 0
all_rules = (file_whole, (imports_more, (imports_end, (imp_one, (imp_many, (texts_more, (texts_end, (after_text_more, (after_text_end, (decls_more, (decls_end, (decl_struct, (decl_const, (decl_func, (const_rest_typed, (const_rest_plain, (receiver_some, (receiver_none, (fields_more, (fields_end, (after_field_more, (after_field_end, (params_more, (params_end, (after_param_more, (after_param_end, (group_names, (more_names_more, (more_names_end, (results_one, (results_many, (results_none, (more_types_more, (more_types_end, (type_of_word, (type_of_slice, (type_of_map, (type_of_pointer, (type_of_block, (items_word, (items_pointers, (pointed_name, (pointed_sync, (after_sync_mutex, (after_sync_name, (braces_block, (stmts_more, (stmts_empty, (stmts_end, (after_stmt_more, (after_stmt_end, (stmt_plain, (stmt_if, (stmt_block, (if_rest_body, (otherwise_else, (otherwise_none, (other_block, (other_if, (loop_braces_block, (loop_stmts_more, (loop_stmts_empty, (loop_stmts_end, (loop_after_stmt_more, (loop_after_stmt_end, (loop_stmt_plain, (loop_stmt_if, (loop_stmt_block, (loop_stmt_jump, (loop_if_rest_body, (loop_otherwise_else, (loop_otherwise_none, (loop_other_block, (loop_other_if, (plain_simple, (plain_var, (plain_for, (plain_return, (plain_go, (var_rest_value, (var_rest_none, (simple_literal, (simple_builtin, (simple_name, (simple_closed, (simple_name_count, (simple_name_update, (simple_name_more, (simple_member_call, (simple_member_more, (simple_index_assign, (simple_index_more, (simple_tail_member, (simple_tail_bracket, (simple_bracket_slice, (simple_bracket_index, (simple_closing_index, (simple_closing_slice, (simple_assign_one, (simple_assign_two, (post_builtin, (post_name, (post_closed, (post_name_count, (post_name_update, (post_name_more, (post_member_call, (post_member_more, (post_index_assign, (post_index_more, (post_tail_member, (post_tail_bracket, (post_bracket_slice, (post_bracket_index, (post_closing_index, (post_closing_slice, (post_assign_one, (post_assign_two, (header_forever, (header_clauses, (header_sign, (header_builtin, (header_name, (header_closed, (first_name_count, (first_name_update, (first_name_more, (first_member_call, (first_member_more, (first_index_assign, (first_index_more, (first_tail_member, (first_tail_bracket, (first_tail_value, (first_bracket_slice, (first_bracket_index, (first_closing_index, (first_closing_slice, (first_assign_one, (first_assign_two, (after_first_clauses, (clauses_rest, (post_part_some, (post_part_none, (left_name, (left_closed, (left_end_more, (left_end_end, (left_tail_member, (left_tail_bracket, (left_bracket_slice, (left_bracket_index, (left_closing_index, (left_closing_slice, (right_literal, (right_plain, (plain_right_sign, (plain_right_builtin, (plain_right_name, (plain_right_closed, (right_member_call, (right_member_more, (right_tail_member, (right_tail_bracket, (right_tail_value, (returned_none, (returned_literal, (returned_builtin, (returned_sign, (returned_name, (returned_closed, (returned_member_call, (returned_member_more, (returned_tail_member, (returned_tail_bracket, (returned_tail_value, (more_returned_more, (more_returned_end, (arguments_list, (exprs_more, (exprs_end, (after_expr_more, (after_expr_end, (built_in_pair, (built_in_make, (built_in_new, (make_rest_length, (make_rest_none, (literal_fields, (keyed_more, (keyed_end, (after_keyed_more, (after_keyed_end, (whole_expr, (bound_some, (bound_none, (expr_first, (expr_tail_more, (expr_tail_end, (conjunction_first, (conjunction_tail_more, (conjunction_tail_end, (comparison_first, (comparison_tail_more, (comparison_tail_end, (sum_first, (sum_tail_more, (sum_tail_end, (product_first, (product_tail_more, (product_tail_end, (operators_tails, (product_operators_product, (product_operators_sum, (product_operators_comparison, (product_operators_conjunction, (product_operators_expr, (product_operators_end, (sum_operators_sum, (sum_operators_comparison, (sum_operators_conjunction, (sum_operators_expr, (sum_operators_end, (comparison_operators_comparison, (comparison_operators_conjunction, (comparison_operators_expr, (comparison_operators_end, (conjunction_operators_conjunction, (conjunction_operators_expr, (conjunction_operators_end, (unary_sign, (unary_name, (unary_closed, (prim_tail_member, (prim_tail_bracket, (prim_tail_end, (closed_constant, (closed_paren, (closed_convert, (bracket_open, (in_bracket_slice, (in_bracket_index, (closing_index, (closing_slice, tt))))))))))))))))))))))))))))))))))))))))))))))))))))))))))))))))))))))))))))))))))))))))))))))))))))))))))))))))))))))))))))))))))))))))))))))))))))))))))))))))))))))))))))))))))))))))))))))))))))))))))))))))))))))))))))))))))))))))))))))))))))

-- what the name of packages derives is a package
pub file_means : (level : ℕ) (steps : List Step) (us : List Lexeme) → Derived gosyntax_tables NAME_FILE steps (map_list (λ token. token.class) us) → (x : File) × Spells (IsFile level) x us
file_means level steps us d = go us (all_mean gosyntax_tables Lexeme (λ token. token.class) M all_rules d us refl)
  where
    go : (us : List Lexeme) → Meant gosyntax_tables Lexeme (λ token. token.class) M (N NAME_FILE ∷ []) us → (x : File) × Spells (IsFile level) x us
    go _ (means {ts = ts} m none) = let a = m level in (a.tree, record { placed = a.placed; same = a.same ∙ sym (append-nil ts); derived = a.spelled })

-- What is derived is spelled by the published grammar of scripts.
use Rattle.std.proofs.Common.{ℕ, List, [], ◌∷◌, refl, sym, ◌∙◌, length, drop}
use Rattle.std.specs.Prelude.{map}
use Rattle.std.proofs.lemmas.List.{append-nil}
use Rattle.gv_grammar.specs.declared.steps.Step.{Step}
use Rattle.gv_grammar.specs.declared.symbols.Symbol.TheVariants.{Name as N}
use Rattle.gv_grammar.specs.Derivation.{Spells as Derived}
use Rattle.gv_grammar.specs.Text.{Spells}
use Rattle.gv_grammar.proofs.Meaning.{Meant, none, means, RulesMean, all_mean}
use Rattle.gv_grammar.proofs.Containing.{with_rows}
use Rattle.gv_scriptsyntax.specs.declared.generated.script_table.TheConstants.{NAME_TEXT}
use Rattle.gv_termread.specs.declared.token.SeenToken.{SeenToken}
use Rattle.gv_termread.specs.TermFragment.{term_rules}
use Rattle.gv_termread.proofs.Backward.{term_rules_mean}
use Rattle.gv_scriptsyntax.specs.declared.tree.Script.{Script}
use Rattle.gv_scriptsyntax.specs.ScriptTable.{script_tables}
use Rattle.gv_scriptsyntax.specs.Words.{lexicon}
use Rattle.gv_scriptsyntax.specs.Language.{IsScript}
use Rattle.gv_scriptsyntax.proofs.ScriptContains.{script_contains}
use Rattle.gv_scriptparse.proofs.Meanings.{own_meanings, Means}
use Rattle.gv_scriptparse.proofs.DeclarationRules.{text_whole, books_more, books_end, preds_more, preds_end, case_case, cases_more, cases_end, cuts_more, cuts_end, ops_more, ops_end, procs_more, procs_end, own_some, own_none, in_names_parens, names_some, names_none, more_names_more, more_names_end, in_pars_parens, pars_some, pars_none, more_pars_more, more_pars_end, in_terms_parens, terms_some, terms_none, more_terms_more, more_terms_end, inst_named, atom_each, atom_plain, plain_atom_one, plain_atom_two, plain_atom_three, plain_atom_cell, plain_atom_field, plain_atom_book, plain_atom_lock, plain_atom_token, plain_atom_done, plain_atom_inst, one_args_parens, two_args_parens, three_args_parens, cell_args_parens, field_args_parens, book_args_parens, lock_args_parens, token_args_parens, rest_terms_more, rest_terms_end, done_args_parens, reply_some, reply_none, each_args_parens, except_some, except_none, atoms_some, more_atoms_more, more_atoms_end, in_atoms_parens}
use Rattle.gv_scriptparse.proofs.ItemRules.{heap_braces, items_more, items_end, item_sign, item_number, item_paren, item_maker, item_of_one, item_of_two, item_of_three, item_constant, item_plain, item_one, item_two, item_three, item_cell, item_field, item_book, item_lock, item_token, item_done, item_each, constant_item_inst, constant_item_fact, plain_item_inst, plain_item_fact, one_item_atom, one_item_fact, two_item_atom, two_item_fact, three_item_atom, three_item_fact, cell_item_atom, cell_item_fact, field_item_atom, field_item_fact, book_item_atom, book_item_fact, lock_item_atom, lock_item_fact, token_item_atom, token_item_fact, done_item_atom, done_item_fact, each_item_atom, each_item_fact, variable_item_fact, operators_tails, second_sign, second_prim, first_term_rule, first_disjunction_first, first_disjunction_tail_more, first_disjunction_tail_end, first_conjunction_first, first_conjunction_tail_more, first_conjunction_tail_end, first_comparison_first, first_comparison_tail_more, first_comparison_tail_end, first_sum_first, first_sum_tail_more, first_sum_tail_end, first_product_first, first_product_tail_more, first_product_tail_end, first_unary_sign, first_unary_prim, first_prim_number, first_prim_constant, first_prim_free, first_prim_paren, first_prim_maker, first_prim_one, first_prim_two, first_prim_three, equation_first, unequal_other, unequal_equal, equated_other, equated_equal, equated_end}
use Rattle.gv_scriptparse.proofs.CommandRules.{cert_given, cert_axiom, cert_subst, cert_contra, cert_linear, cert_cases, cert_steps, within_some, within_none, factors_some, factors_none, more_factors_more, more_factors_end, factored_positive, factored_negative, haves_more, haves_end, cert_or_hole_cert, cert_or_hole_hole, simple_on_atom, simple_let, simple_rewrite, simple_clash, simple_on_pair, simple_halves, simple_split, simple_map, simple_alone, simple_sim, simple_on_block, simple_boot, simple_guard, simple_book, simple_forget, simple_to, simple_merge, simple_void, simple_yield, halves_new_rule, halves_set_rule, with_some, with_none, as_some, as_none, during_some, during_none, ending_semi, ending_none, block_braces, commands_plain, commands_unfold, commands_cases, commands_step, commands_end, unfold_names, unfold_arms_rule, arm_braces, arms_more, arms_end, step_plain, step_blocks_rule, blocks_more, blocks_end, plain_simple, plain_have, plain_absurd, plain_fold, plain_take, holey_block_braces, holey_commands_plain, holey_commands_unfold, holey_commands_cases, holey_commands_step, holey_commands_end, holey_unfold_names, holey_unfold_arms, holey_arm_braces, holey_arms_more, holey_arms_end, holey_step_plain, holey_step_blocks, holey_blocks_more, holey_blocks_end, holey_plain_simple, holey_plain_have, holey_plain_absurd, holey_plain_fold, holey_plain_take, filling_parens, filled_hole, filled_terms, taken_atom, taken_hole}

module _ (text : List ℕ) where
  own_rules : RulesMean script_tables SeenToken (λ token. token.class) (Means text) (drop (length term_rules) script_tables.names) (length term_rules)
  own_rules = (text_whole text, (books_more text, (books_end text, (preds_more text, (preds_end text, (case_case text, (cases_more text, (cases_end text, (cuts_more text, (cuts_end text, (ops_more text, (ops_end text, (procs_more text, (procs_end text, (own_some text, (own_none text, (in_names_parens text, (names_some text, (names_none text, (more_names_more text, (more_names_end text, (in_pars_parens text, (pars_some text, (pars_none text, (more_pars_more text, (more_pars_end text, (in_terms_parens text, (terms_some text, (terms_none text, (more_terms_more text, (more_terms_end text, (inst_named text, (atom_each text, (atom_plain text, (plain_atom_one text, (plain_atom_two text, (plain_atom_three text, (plain_atom_cell text, (plain_atom_field text, (plain_atom_book text, (plain_atom_lock text, (plain_atom_token text, (plain_atom_done text, (plain_atom_inst text, (one_args_parens text, (two_args_parens text, (three_args_parens text, (cell_args_parens text, (field_args_parens text, (book_args_parens text, (lock_args_parens text, (token_args_parens text, (rest_terms_more text, (rest_terms_end text, (done_args_parens text, (reply_some text, (reply_none text, (each_args_parens text, (except_some text, (except_none text, (atoms_some text, (more_atoms_more text, (more_atoms_end text, (in_atoms_parens text, (heap_braces text, (items_more text, (items_end text, (item_sign text, (item_number text, (item_paren text, (item_maker text, (item_of_one text, (item_of_two text, (item_of_three text, (item_constant text, (item_plain text, (item_one text, (item_two text, (item_three text, (item_cell text, (item_field text, (item_book text, (item_lock text, (item_token text, (item_done text, (item_each text, (constant_item_inst text, (constant_item_fact text, (plain_item_inst text, (plain_item_fact text, (one_item_atom text, (one_item_fact text, (two_item_atom text, (two_item_fact text, (three_item_atom text, (three_item_fact text, (cell_item_atom text, (cell_item_fact text, (field_item_atom text, (field_item_fact text, (book_item_atom text, (book_item_fact text, (lock_item_atom text, (lock_item_fact text, (token_item_atom text, (token_item_fact text, (done_item_atom text, (done_item_fact text, (each_item_atom text, (each_item_fact text, (variable_item_fact text, (operators_tails text, (second_sign text, (second_prim text, (first_term_rule text, (first_disjunction_first text, (first_disjunction_tail_more text, (first_disjunction_tail_end text, (first_conjunction_first text, (first_conjunction_tail_more text, (first_conjunction_tail_end text, (first_comparison_first text, (first_comparison_tail_more text, (first_comparison_tail_end text, (first_sum_first text, (first_sum_tail_more text, (first_sum_tail_end text, (first_product_first text, (first_product_tail_more text, (first_product_tail_end text, (first_unary_sign text, (first_unary_prim text, (first_prim_number text, (first_prim_constant text, (first_prim_free text, (first_prim_paren text, (first_prim_maker text, (first_prim_one text, (first_prim_two text, (first_prim_three text, (equation_first text, (unequal_other text, (unequal_equal text, (equated_other text, (equated_equal text, (equated_end text, (cert_given text, (cert_axiom text, (cert_subst text, (cert_contra text, (cert_linear text, (cert_cases text, (cert_steps text, (within_some text, (within_none text, (factors_some text, (factors_none text, (more_factors_more text, (more_factors_end text, (factored_positive text, (factored_negative text, (haves_more text, (haves_end text, (cert_or_hole_cert text, (cert_or_hole_hole text, (simple_on_atom text, (simple_let text, (simple_rewrite text, (simple_clash text, (simple_on_pair text, (simple_halves text, (simple_split text, (simple_map text, (simple_alone text, (simple_sim text, (simple_on_block text, (simple_boot text, (simple_guard text, (simple_book text, (simple_forget text, (simple_to text, (simple_merge text, (simple_void text, (simple_yield text, (halves_new_rule text, (halves_set_rule text, (with_some text, (with_none text, (as_some text, (as_none text, (during_some text, (during_none text, (ending_semi text, (ending_none text, (block_braces text, (commands_plain text, (commands_unfold text, (commands_cases text, (commands_step text, (commands_end text, (unfold_names text, (unfold_arms_rule text, (arm_braces text, (arms_more text, (arms_end text, (step_plain text, (step_blocks_rule text, (blocks_more text, (blocks_end text, (plain_simple text, (plain_have text, (plain_absurd text, (plain_fold text, (plain_take text, (holey_block_braces text, (holey_commands_plain text, (holey_commands_unfold text, (holey_commands_cases text, (holey_commands_step text, (holey_commands_end text, (holey_unfold_names text, (holey_unfold_arms text, (holey_arm_braces text, (holey_arms_more text, (holey_arms_end text, (holey_step_plain text, (holey_step_blocks text, (holey_blocks_more text, (holey_blocks_end text, (holey_plain_simple text, (holey_plain_have text, (holey_plain_absurd text, (holey_plain_fold text, (holey_plain_take text, (filling_parens text, (filled_hole text, (filled_terms text, (taken_atom text, (taken_hole text, tt)))))))))))))))))))))))))))))))))))))))))))))))))))))))))))))))))))))))))))))))))))))))))))))))))))))))))))))))))))))))))))))))))))))))))))))))))))))))))))))))))))))))))))))))))))))))))))))))))))))))))))))))))))))))))))))))))))))))))))))))

  all_rules : RulesMean script_tables SeenToken (λ token. token.class) (Means text) script_tables.names 0
  all_rules = with_rows script_tables SeenToken (λ token. token.class) (Means text) script_tables.names 0 term_rules (script_contains text).rules (term_rules_mean (lexicon text) (script_contains text) (own_meanings text)) own_rules

  -- what the name of texts derives is a script
  pub script_means : (level : ℕ) (steps : List Step) (us : List SeenToken) → Derived script_tables NAME_TEXT steps (map (λ token. token.class) us) → (x : Script) × Spells (IsScript text level) x us
  script_means level steps us d = go us (all_mean script_tables SeenToken (λ token. token.class) (Means text) all_rules d us refl)
    where
      go : (us : List SeenToken) → Meant script_tables SeenToken (λ token. token.class) (Means text) (N NAME_TEXT ∷ []) us → (x : Script) × Spells (IsScript text level) x us
      go _ (means {ts = ts} m none) = let a = m level in (a.tree, record { placed = a.placed; same = a.same ∙ sym (append-nil ts); derived = a.spelled })

-- What the published grammar of scripts spells is derived, and the steps build its tree.
use Rattle.std.proofs.Common.{◌≡◌, ℕ, true, false, List, [], ◌∷◌, ◌++◌, Option, Some, inl, inr, refl, subst, append_assoc}
use Rattle.std.proofs.lemmas.List.{append-nil}
use Rattle.gv_grammar.specs.declared.symbols.Symbol.{Symbol}
use Rattle.gv_grammar.specs.declared.symbols.Symbol.TheVariants.{Name as N, Act as A}
use Rattle.gv_grammar.specs.declared.levels.TheConstants.{RESTORE}
use Rattle.gv_grammar.specs.Derivation.{done, is_among}
use Rattle.gv_grammar.specs.Text.{plain, opens}
use Rattle.gv_grammar.proofs.Spelling.{tk, tk_in, op, op_in, sv, rs, ac, ru, re}
use Rattle.gv_grammar.proofs.Meaning.{one_class, more_classes}
use Rattle.gv_termread.specs.declared.generated.term_table.TheConstants.{ACT_CONSTANT, ACT_MAKER, ACT_NUMBER, ACT_OF_ONE, ACT_OF_THREE, ACT_OF_TWO, ACT_PAREN, ACT_UNARY, ACT_VARIABLE, CLASS_AT_WORD, CLASS_COMMA, CLASS_L_PAREN, CLASS_MINUS, CLASS_NUMBER, CLASS_R_PAREN, CLASS_SL_WORD, RULE_MAKER_REST_CALL, RULE_MAKER_REST_NAME, RULE_ONE_REST_CALL, RULE_ONE_REST_NAME, RULE_THREE_REST_CALL, RULE_THREE_REST_NAME, RULE_TWO_REST_CALL, RULE_TWO_REST_NAME, SET_ANY_NUMBER, SET_COMMA, SET_CONSTANT, SET_INVERTING, SET_L_PAREN, SET_MAKER, SET_OF_ONE, SET_OF_THREE, SET_OF_TWO, SET_R_PAREN}
use Rattle.gv_scriptsyntax.specs.declared.generated.script_table.TheConstants.{ACT_ABSURD, ACT_ALONE, ACT_ARM, ACT_AT, ACT_ATOM, ACT_AT_HOLE, ACT_AXIOM, ACT_BLOCK, ACT_BOOK, ACT_BOOK_ATOM, ACT_BOOT, ACT_BY_CASES, ACT_CASE, ACT_CASES, ACT_CELL_ATOM, ACT_CLASH, ACT_CLOSED, ACT_COMMAND, ACT_CONTRA, ACT_CUT, ACT_DONE_ATOM, ACT_DURING, ACT_EACH_ATOM, ACT_FACT, ACT_FACTOR, ACT_FIELD_ATOM, ACT_FILLED, ACT_FILLED_PARENS, ACT_FOLD, ACT_FORGET, ACT_GIVEN, ACT_GUARD, ACT_HALVES_NEW, ACT_HALVES_SET, ACT_HAVE, ACT_HELD, ACT_HOLE, ACT_HOLE_TERMS, ACT_INST, ACT_INST_ATOM, ACT_IN_ATOMS, ACT_IN_ITEMS, ACT_IN_NAMES, ACT_IN_PARS, ACT_IN_TERMS, ACT_ITEM, ACT_LAST, ACT_LET, ACT_LINEAR, ACT_LOCK_ATOM, ACT_MAP, ACT_MERGE, ACT_NAME, ACT_NEGATIVE, ACT_NEXT_ARM, ACT_NEXT_ATOM, ACT_NEXT_BLOCK, ACT_NEXT_CASE, ACT_NEXT_FACTOR, ACT_NEXT_NAME, ACT_NEXT_PAR, ACT_NEXT_TERM, ACT_NOT_CLOSED, ACT_NO_ARMS, ACT_NO_ATOMS, ACT_NO_BLOCKS, ACT_NO_BOOKS, ACT_NO_CASES, ACT_NO_COMMANDS, ACT_NO_CUTS, ACT_NO_DURING, ACT_NO_FACTORS, ACT_NO_HAVES, ACT_NO_ITEMS, ACT_NO_NAMES, ACT_NO_OPS, ACT_NO_OWN, ACT_NO_PARS, ACT_NO_PREDS, ACT_NO_PROCS, ACT_NO_TERM, ACT_NO_TERMS, ACT_ONE_ATOM, ACT_ON_ATOM, ACT_ON_BLOCK, ACT_ON_PAIR, ACT_OP, ACT_OWN, ACT_PAR, ACT_POSITIVE, ACT_PRED, ACT_PROC, ACT_REWRITE, ACT_SCRIPT, ACT_SET_BOOK, ACT_SIM, ACT_STEP, ACT_STEPS, ACT_STEP_HAVE, ACT_SUBST, ACT_TERM, ACT_THREE_ATOM, ACT_TO, ACT_TOKEN_ATOM, ACT_TWO_ATOM, ACT_UNFOLD, ACT_UNFOLD_ARMS, ACT_VOID, ACT_WORD_NAMES, ACT_WORD_TERM, ACT_WORD_TERMS, ACT_YIELD, CLASS_ABSURD_WORD, CLASS_ALONE_WORD, CLASS_ASSIGN, CLASS_AS_WORD, CLASS_AXIOM_WORD, CLASS_BOOK_ATOM_WORD, CLASS_BOOK_WORD, CLASS_BOOT_WORD, CLASS_BY_WORD, CLASS_CASES_WORD, CLASS_CASE_WORD, CLASS_CELL_ATOM_WORD, CLASS_CLASH_WORD, CLASS_COLON, CLASS_CONTRA_WORD, CLASS_CRASH_WORD, CLASS_CUT_WORD, CLASS_DONE_WORD, CLASS_DOT_DOT, CLASS_DURING_WORD, CLASS_EACH_WORD, CLASS_EXCEPT_WORD, CLASS_FIELD_ATOM_WORD, CLASS_FOLD_WORD, CLASS_FORGET_WORD, CLASS_GIVEN_WORD, CLASS_GUARD_WORD, CLASS_HALVES_WORD, CLASS_HAVE_WORD, CLASS_HOLE, CLASS_INIT_WORD, CLASS_IN_WORD, CLASS_LET_WORD, CLASS_LINEAR_WORD, CLASS_LOCALS_WORD, CLASS_LOCK_WORD, CLASS_L_BRACE, CLASS_L_BRACKET, CLASS_MAP_WORD, CLASS_MERGE_WORD, CLASS_NEW_WORD, CLASS_ONE_ATOM_WORD, CLASS_ON_ATOM_WORD, CLASS_ON_PAIR_WORD, CLASS_OP_WORD, CLASS_OWN_WORD, CLASS_POST_WORD, CLASS_PRED_WORD, CLASS_PRE_WORD, CLASS_PROC_WORD, CLASS_RECOVER_WORD, CLASS_REWRITE_WORD, CLASS_ROOT_WORD, CLASS_R_BRACE, CLASS_R_BRACKET, CLASS_SEMI, CLASS_SET_WORD, CLASS_SIM_WORD, CLASS_SORT_WORD, CLASS_SPLIT_PART_WORD, CLASS_STEPS_WORD, CLASS_STEP_WORD, CLASS_SUBST_WORD, CLASS_THREE_ATOM_WORD, CLASS_TOKEN_WORD, CLASS_TO_WORD, CLASS_UNFOLD_WORD, CLASS_VARS_WORD, CLASS_VOID_WORD, CLASS_WITH_WORD, CLASS_YIELD_WORD, NAME_ARM, NAME_ARMS, NAME_AS, NAME_ATOM, NAME_ATOMS, NAME_BLOCK, NAME_BLOCKS, NAME_BOOKS, NAME_CASE, NAME_CASES, NAME_CERT, NAME_CERT_OR_HOLE, NAME_COMMANDS, NAME_CUTS, NAME_DURING, NAME_ENDING, NAME_EXCEPT, NAME_FACTORED, NAME_FACTORS, NAME_FILLING, NAME_HAVES, NAME_HEAP, NAME_HOLEY_ARM, NAME_HOLEY_ARMS, NAME_HOLEY_BLOCK, NAME_HOLEY_BLOCKS, NAME_HOLEY_COMMANDS, NAME_INST, NAME_IN_ATOMS, NAME_IN_NAMES, NAME_IN_PARS, NAME_IN_TERMS, NAME_ITEM, NAME_ITEMS, NAME_MORE_ATOMS, NAME_MORE_FACTORS, NAME_MORE_NAMES, NAME_MORE_PARS, NAME_MORE_TERMS, NAME_NAMES, NAME_OPERATORS, NAME_OPS, NAME_OWN, NAME_PARS, NAME_PLAIN_ATOM, NAME_PREDS, NAME_PROCS, NAME_REPLY, NAME_REST_TERMS, NAME_SIMPLE, NAME_TERMS, NAME_TEXT, NAME_VARIABLE_ITEM, NAME_WITH, NAME_WITHIN, RULE_ARMS_END, RULE_ARMS_MORE, RULE_ARM_BRACES, RULE_AS_NONE, RULE_AS_SOME, RULE_ATOMS_SOME, RULE_ATOM_EACH, RULE_ATOM_PLAIN, RULE_BLOCKS_END, RULE_BLOCKS_MORE, RULE_BLOCK_BRACES, RULE_BOOKS_END, RULE_BOOKS_MORE, RULE_BOOK_ARGS_PARENS, RULE_BOOK_ITEM_ATOM, RULE_BOOK_ITEM_FACT, RULE_CASES_END, RULE_CASES_MORE, RULE_CASE_CASE, RULE_CELL_ARGS_PARENS, RULE_CELL_ITEM_ATOM, RULE_CELL_ITEM_FACT, RULE_CERT_AXIOM, RULE_CERT_CASES, RULE_CERT_CONTRA, RULE_CERT_GIVEN, RULE_CERT_LINEAR, RULE_CERT_OR_HOLE_CERT, RULE_CERT_OR_HOLE_HOLE, RULE_CERT_STEPS, RULE_CERT_SUBST, RULE_COMMANDS_CASES, RULE_COMMANDS_END, RULE_COMMANDS_PLAIN, RULE_COMMANDS_STEP, RULE_COMMANDS_UNFOLD, RULE_CONSTANT_ITEM_FACT, RULE_CONSTANT_ITEM_INST, RULE_CUTS_END, RULE_CUTS_MORE, RULE_DONE_ARGS_PARENS, RULE_DONE_ITEM_ATOM, RULE_DONE_ITEM_FACT, RULE_DURING_NONE, RULE_DURING_SOME, RULE_EACH_ARGS_PARENS, RULE_EACH_ITEM_ATOM, RULE_EACH_ITEM_FACT, RULE_ENDING_NONE, RULE_ENDING_SEMI, RULE_EXCEPT_NONE, RULE_EXCEPT_SOME, RULE_FACTORED_NEGATIVE, RULE_FACTORED_POSITIVE, RULE_FACTORS_NONE, RULE_FACTORS_SOME, RULE_FIELD_ARGS_PARENS, RULE_FIELD_ITEM_ATOM, RULE_FIELD_ITEM_FACT, RULE_FILLED_HOLE, RULE_FILLED_TERMS, RULE_FILLING_PARENS, RULE_HALVES_NEW, RULE_HALVES_SET, RULE_HAVES_END, RULE_HAVES_MORE, RULE_HEAP_BRACES, RULE_HOLEY_ARMS_END, RULE_HOLEY_ARMS_MORE, RULE_HOLEY_ARM_BRACES, RULE_HOLEY_BLOCKS_END, RULE_HOLEY_BLOCKS_MORE, RULE_HOLEY_BLOCK_BRACES, RULE_HOLEY_COMMANDS_CASES, RULE_HOLEY_COMMANDS_END, RULE_HOLEY_COMMANDS_PLAIN, RULE_HOLEY_COMMANDS_STEP, RULE_HOLEY_COMMANDS_UNFOLD, RULE_HOLEY_PLAIN_ABSURD, RULE_HOLEY_PLAIN_FOLD, RULE_HOLEY_PLAIN_HAVE, RULE_HOLEY_PLAIN_SIMPLE, RULE_HOLEY_PLAIN_TAKE, RULE_HOLEY_STEP_BLOCKS, RULE_HOLEY_STEP_PLAIN, RULE_HOLEY_UNFOLD_ARMS, RULE_HOLEY_UNFOLD_NAMES, RULE_INST_NAMED, RULE_IN_ATOMS_PARENS, RULE_IN_NAMES_PARENS, RULE_IN_PARS_PARENS, RULE_IN_TERMS_PARENS, RULE_ITEMS_END, RULE_ITEMS_MORE, RULE_ITEM_BOOK, RULE_ITEM_CELL, RULE_ITEM_CONSTANT, RULE_ITEM_DONE, RULE_ITEM_EACH, RULE_ITEM_FIELD, RULE_ITEM_LOCK, RULE_ITEM_MAKER, RULE_ITEM_NUMBER, RULE_ITEM_OF_ONE, RULE_ITEM_OF_THREE, RULE_ITEM_OF_TWO, RULE_ITEM_ONE, RULE_ITEM_PAREN, RULE_ITEM_PLAIN, RULE_ITEM_SIGN, RULE_ITEM_THREE, RULE_ITEM_TOKEN, RULE_ITEM_TWO, RULE_LOCK_ARGS_PARENS, RULE_LOCK_ITEM_ATOM, RULE_LOCK_ITEM_FACT, RULE_MORE_ATOMS_END, RULE_MORE_ATOMS_MORE, RULE_MORE_FACTORS_END, RULE_MORE_FACTORS_MORE, RULE_MORE_NAMES_END, RULE_MORE_NAMES_MORE, RULE_MORE_PARS_END, RULE_MORE_PARS_MORE, RULE_MORE_TERMS_END, RULE_MORE_TERMS_MORE, RULE_NAMES_NONE, RULE_NAMES_SOME, RULE_ONE_ARGS_PARENS, RULE_ONE_ITEM_ATOM, RULE_ONE_ITEM_FACT, RULE_OPS_END, RULE_OPS_MORE, RULE_OWN_NONE, RULE_OWN_SOME, RULE_PARS_NONE, RULE_PARS_SOME, RULE_PLAIN_ABSURD, RULE_PLAIN_ATOM_BOOK, RULE_PLAIN_ATOM_CELL, RULE_PLAIN_ATOM_DONE, RULE_PLAIN_ATOM_FIELD, RULE_PLAIN_ATOM_INST, RULE_PLAIN_ATOM_LOCK, RULE_PLAIN_ATOM_ONE, RULE_PLAIN_ATOM_THREE, RULE_PLAIN_ATOM_TOKEN, RULE_PLAIN_ATOM_TWO, RULE_PLAIN_FOLD, RULE_PLAIN_HAVE, RULE_PLAIN_ITEM_FACT, RULE_PLAIN_ITEM_INST, RULE_PLAIN_SIMPLE, RULE_PLAIN_TAKE, RULE_PREDS_END, RULE_PREDS_MORE, RULE_PROCS_END, RULE_PROCS_MORE, RULE_REPLY_NONE, RULE_REPLY_SOME, RULE_REST_TERMS_END, RULE_REST_TERMS_MORE, RULE_SIMPLE_ALONE, RULE_SIMPLE_BOOK, RULE_SIMPLE_BOOT, RULE_SIMPLE_CLASH, RULE_SIMPLE_FORGET, RULE_SIMPLE_GUARD, RULE_SIMPLE_HALVES, RULE_SIMPLE_LET, RULE_SIMPLE_MAP, RULE_SIMPLE_MERGE, RULE_SIMPLE_ON_ATOM, RULE_SIMPLE_ON_BLOCK, RULE_SIMPLE_ON_PAIR, RULE_SIMPLE_REWRITE, RULE_SIMPLE_SIM, RULE_SIMPLE_SPLIT, RULE_SIMPLE_TO, RULE_SIMPLE_VOID, RULE_SIMPLE_YIELD, RULE_STEP_BLOCKS, RULE_STEP_PLAIN, RULE_TAKEN_ATOM, RULE_TAKEN_HOLE, RULE_TERMS_NONE, RULE_TERMS_SOME, RULE_TEXT_WHOLE, RULE_THREE_ARGS_PARENS, RULE_THREE_ITEM_ATOM, RULE_THREE_ITEM_FACT, RULE_TOKEN_ARGS_PARENS, RULE_TOKEN_ITEM_ATOM, RULE_TOKEN_ITEM_FACT, RULE_TWO_ARGS_PARENS, RULE_TWO_ITEM_ATOM, RULE_TWO_ITEM_FACT, RULE_UNFOLD_ARMS, RULE_UNFOLD_NAMES, RULE_VARIABLE_ITEM_FACT, RULE_WITHIN_NONE, RULE_WITHIN_SOME, RULE_WITH_NONE, RULE_WITH_SOME, SET_ABSURD_WORD, SET_ALONE_WORD, SET_ASSIGN, SET_AS_WORD, SET_AT_WORD, SET_AXIOM_WORD, SET_BOOK_ATOM_WORD, SET_BOOK_WORD, SET_BOOT_WORD, SET_BY_WORD, SET_CASES_WORD, SET_CASE_WORD, SET_CELL_ATOM_WORD, SET_CLASH_WORD, SET_COLON, SET_CONTRA_WORD, SET_CRASH_WORD, SET_CUT_WORD, SET_DONE_WORD, SET_DOT_DOT, SET_DURING_WORD, SET_EACH_WORD, SET_EXCEPT_WORD, SET_FACTOR, SET_FIELD_ATOM_WORD, SET_FOLD_WORD, SET_FORGET_WORD, SET_GIVEN_WORD, SET_GUARD_WORD, SET_HALVES_WORD, SET_HAVE_WORD, SET_HOLE, SET_ID, SET_INIT_WORD, SET_IN_WORD, SET_LET_WORD, SET_LINEAR_WORD, SET_LOCALS_WORD, SET_LOCK_WORD, SET_L_BRACE, SET_L_BRACKET, SET_MAP_WORD, SET_MERGE_WORD, SET_MINUS, SET_MODE, SET_NEGATIVE_FACTOR, SET_NEW_WORD, SET_ONE_ATOM_WORD, SET_ON_ATOM_WORD, SET_ON_BLOCK, SET_ON_PAIR_WORD, SET_OP_WORD, SET_OWN_WORD, SET_PLAIN_NAME, SET_POST_WORD, SET_PREDICATE, SET_PRED_WORD, SET_PRE_WORD, SET_PROC_WORD, SET_RECOVER_WORD, SET_REWRITE_WORD, SET_ROOT_WORD, SET_R_BRACE, SET_R_BRACKET, SET_SEMI, SET_SET_WORD, SET_SIM_WORD, SET_SL_WORD, SET_SORT_WORD, SET_SPLIT_PART_WORD, SET_STEPS_WORD, SET_STEP_WORD, SET_SUBST_WORD, SET_TAKE_PUT, SET_THREE_ATOM_WORD, SET_TOKEN_WORD, SET_TO_WORD, SET_TWO_ATOM, SET_UNFOLD_WORD, SET_VARS_WORD, SET_VOID_ITEM, SET_VOID_WORD, SET_WITH_WORD, SET_YIELD_WORD}
use Rattle.gv_termread.specs.declared.generated.term_acts.Part.TheVariants.{Token as PToken, Term as PTerm, Other as POther}
use Rattle.gv_termread.specs.declared.token.SeenToken.{SeenToken}
use Rattle.gv_termread.specs.declared.placed.PlacedTerm.{PlacedTerm}
use Rattle.gv_termread.specs.Language.{Tokens, Is, IsUnary, prim, invert, IsPrim, number, constant, variable, paren, maker, one, two, three}
use Rattle.gv_termread.specs.Trees as read
use Rattle.gv_scriptsyntax.specs.declared.generated.script_acts.ScriptPart.TheVariants.{Arm as PArm, Arms as PArms, Atom as PAtom, Atoms as PAtoms, Block as PBlock, Blocks as PBlocks, Books as PBooks, Case as PCase, Cases as PCases, Cert as PCert, Command as PCommand, Commands as PCommands, Cuts as PCuts, Ending as PEnding, Factor as PFactor, Factors as PFactors, Filling as PFilling, Haves as PHaves, Inst as PInst, Item as PItem, Items as PItems, MaybeBlock as PMaybeBlock, MaybeInst as PMaybeInst, MaybeTerm as PMaybeTerm, Names as PNames, Ops as POps, Pars as PPars, Preds as PPreds, Procs as PProcs, Script as PScript, Terms as PTerms}
use Rattle.gv_scriptsyntax.specs.declared.tree.Par.{Par}
use Rattle.gv_scriptsyntax.specs.declared.tree.Inst.{Inst}
use Rattle.gv_scriptsyntax.specs.declared.tree.Atom.{Atom}
use Rattle.gv_scriptsyntax.specs.declared.tree.Item.{Item}
use Rattle.gv_scriptsyntax.specs.declared.tree.Factor.{Factor}
use Rattle.gv_scriptsyntax.specs.declared.tree.Have.{Have}
use Rattle.gv_scriptsyntax.specs.declared.tree.Cert.{Cert}
use Rattle.gv_scriptsyntax.specs.declared.tree.Filling.{Filling}
use Rattle.gv_scriptsyntax.specs.declared.tree.Block.{Block}
use Rattle.gv_scriptsyntax.specs.declared.tree.Arm.{Arm}
use Rattle.gv_scriptsyntax.specs.declared.tree.Command.{Command}
use Rattle.gv_scriptsyntax.specs.declared.tree.Case.{Case}
use Rattle.gv_scriptsyntax.specs.declared.tree.Book.{Book}
use Rattle.gv_scriptsyntax.specs.declared.tree.Pred.{Pred}
use Rattle.gv_scriptsyntax.specs.declared.tree.Cut.{Cut}
use Rattle.gv_scriptsyntax.specs.declared.tree.Op.{Op}
use Rattle.gv_scriptsyntax.specs.declared.tree.Proc.{Proc}
use Rattle.gv_scriptsyntax.specs.declared.tree.Script.{Script}
use Rattle.gv_scriptsyntax.specs.declared.tree.Item.TheVariants.{Held}
use Rattle.gv_scriptsyntax.specs.Words.{two_atoms, single_atoms, atom_words, named, lexicon}
use Rattle.gv_scriptsyntax.specs.Lists.{IsItems, IsList, IsMany, IsRest, IsSeveral, empty, first, items, more_of, next, next_rest, no_more, no_rest, one_more, one_of}
use Rattle.gv_scriptsyntax.specs.Language.{IsArguments, IsArm, IsArms, IsAs, IsAtom, IsAtoms, IsBlock, IsBlocks, IsBody, IsBook, IsBuiltIn, IsCase, IsCert, IsCommands, IsCut, IsDuring, IsEach, IsEnding, IsExcept, IsFactor, IsFilling, IsHaves, IsHeap, IsHeapItems, IsInst, IsItem, IsLast, IsName, IsNames, IsOp, IsOwn, IsPar, IsPars, IsPlain, IsPlainAtom, IsPred, IsProc, IsProof, IsReply, IsScript, IsSimple, IsWhole, IsWith, IsWithin, absurd_by, all_plain, alone_word, arm_of, as_names, block_of, book_atom, book_cells, boot_with, built_in, by_axiom, by_cases, case_of, cases_of, cell_atom, clash_of, closed, contra_term, cut_at, done_atom, during_block, each_atom, each_of, except_terms, fact, field_atom, filled, filling_hole, first_arm, first_block, fold_inst, forget_block, given_word, guard_with, halves_new, halves_set, have_by, heap_of, held, held_constant, held_each, held_plain, in_atoms, in_names, in_pars, in_terms, inst_of, instance_of, let_be, linear_sums, lock_atom, map_each, merge_to, negative, next_arm, next_block, next_command, next_have, next_item, no_as, no_commands, no_during, no_except, no_haves, no_items, no_own, no_reply, no_with, not_closed, not_within, on_atom, on_block, on_pair, one_atom, one_name, one_par, op_block, own_inst, plain_atom, positive, pred_cases, proc_block, proof_hole, proved, rewrite_to, script_of, set_book, sim_call, simple, split_at, step_alone, step_blocks, steps_of, substitute, take_at, take_hole, three_atom, to_cut, token_atom, two_atom, unfold_arms, unfold_inst, void_of, with_last, with_reply, with_terms, within_term, yield_spare}
use Rattle.gv_scriptparse.proofs.Among.{split_among}
use Rattle.gv_scriptparse.proofs.Terms.{Parts, Read, to, whole_reads, unary_reads, first_reads, second_reads, equation_reads, begun_of}

module _ (text : List ℕ) where
  -- ---- lists

  names_items_read : {x : List SeenToken} {ts : Tokens} → IsItems IsName x ts → {n : ℕ} {s : List Symbol} {us : Tokens} {kept : List ℕ} {parts : Parts text} {final : Option (Parts text)}
      → Read text (N NAME_MORE_NAMES ∷ s) us n kept (POther (PNames x) ∷ parts) final → Read text (N NAME_NAMES ∷ s) (ts ++ us) n kept (POther (PNames []) ∷ parts) final
  names_items_read (first (one_name i h)) k = ru RULE_NAMES_SOME refl (tk_in SET_ID h (ac ACT_NAME refl k))
  names_items_read (next t {ts = ts} d i (one_name j h)) {us = us} k =
      re ts (plain t ∷ plain j ∷ []) us (names_items_read d (ru RULE_MORE_NAMES_MORE refl (tk SET_COMMA CLASS_COMMA i refl (tk_in SET_ID h (ac ACT_NEXT_NAME refl k)))))

  names_list_reads : {x : List SeenToken} {ts : Tokens} → IsList IsName x ts → {n : ℕ} {s : List Symbol} {us : Tokens} {kept : List ℕ} {parts : Parts text} {final : Option (Parts text)}
      → Read text s us n kept (POther (PNames x) ∷ parts) final → Read text (N NAME_NAMES ∷ s) (ts ++ us) n kept (POther (PNames []) ∷ parts) final
  names_list_reads empty k = ru RULE_NAMES_NONE refl k
  names_list_reads (items d) k = names_items_read d (ru RULE_MORE_NAMES_END refl k)

  pars_items_read : {x : List Par} {ts : Tokens} → IsItems IsPar x ts → {n : ℕ} {s : List Symbol} {us : Tokens} {kept : List ℕ} {parts : Parts text} {final : Option (Parts text)}
      → Read text (N NAME_MORE_PARS ∷ s) us n kept (POther (PPars x) ∷ parts) final → Read text (N NAME_PARS ∷ s) (ts ++ us) n kept (POther (PPars []) ∷ parts) final
  pars_items_read (first (one_par i c o h j g)) k = ru RULE_PARS_SOME refl (tk_in SET_ID h (tk SET_COLON CLASS_COLON j refl (tk SET_SORT_WORD CLASS_SORT_WORD g refl (ac ACT_PAR refl k))))
  pars_items_read (next t {ts = ts} d p (one_par i c o h j g)) {us = us} k =
      re ts (plain t ∷ plain i ∷ plain c ∷ plain o ∷ []) us (pars_items_read d (ru RULE_MORE_PARS_MORE refl (tk SET_COMMA CLASS_COMMA p refl (tk_in SET_ID h (tk SET_COLON CLASS_COLON j refl (tk SET_SORT_WORD CLASS_SORT_WORD g refl (ac ACT_NEXT_PAR refl k)))))))

  pars_list_reads : {x : List Par} {ts : Tokens} → IsList IsPar x ts → {n : ℕ} {s : List Symbol} {us : Tokens} {kept : List ℕ} {parts : Parts text} {final : Option (Parts text)}
      → Read text s us n kept (POther (PPars x) ∷ parts) final → Read text (N NAME_PARS ∷ s) (ts ++ us) n kept (POther (PPars []) ∷ parts) final
  pars_list_reads empty k = ru RULE_PARS_NONE refl k
  pars_list_reads (items d) k = pars_items_read d (ru RULE_MORE_PARS_END refl k)

  terms_items_read : {n : ℕ} {x : List PlacedTerm} {ts : Tokens} → IsItems (IsWhole text n) x ts → {s : List Symbol} {us : Tokens} {kept : List ℕ} {parts : Parts text} {final : Option (Parts text)}
      → Read text (N NAME_MORE_TERMS ∷ s) us n kept (POther (PTerms x) ∷ parts) final → Read text (N NAME_TERMS ∷ s) (ts ++ us) n kept (POther (PTerms []) ∷ parts) final
  terms_items_read (first d) k = ru RULE_TERMS_SOME refl (whole_reads text d (ac ACT_TERM refl k))
  terms_items_read (next t {ts = ts} {us = vs} d i e) {us = us} k =
      re ts (plain t ∷ vs) us (terms_items_read d (ru RULE_MORE_TERMS_MORE refl (tk SET_COMMA CLASS_COMMA i refl (whole_reads text e (ac ACT_NEXT_TERM refl k)))))

  terms_list_reads : {n : ℕ} {x : List PlacedTerm} {ts : Tokens} → IsList (IsWhole text n) x ts → {s : List Symbol} {us : Tokens} {kept : List ℕ} {parts : Parts text} {final : Option (Parts text)}
      → Read text s us n kept (POther (PTerms x) ∷ parts) final → Read text (N NAME_TERMS ∷ s) (ts ++ us) n kept (POther (PTerms []) ∷ parts) final
  terms_list_reads empty k = ru RULE_TERMS_NONE refl k
  terms_list_reads (items d) k = terms_items_read d (ru RULE_MORE_TERMS_END refl k)

  rest_terms_go : {n : ℕ} {x : List PlacedTerm} {ts : Tokens} → IsRest (IsWhole text n) x ts → {s : List Symbol} {us : Tokens} {kept : List ℕ} {parts : Parts text} {final : Option (Parts text)}
      → Read text (N NAME_REST_TERMS ∷ s) us n kept (POther (PTerms x) ∷ parts) final → Read text (N NAME_REST_TERMS ∷ s) (ts ++ us) n kept (POther (PTerms []) ∷ parts) final
  rest_terms_go no_rest k = k
  rest_terms_go (next_rest t {ts = ts} {us = vs} d i e) {us = us} k =
      re ts (plain t ∷ vs) us (rest_terms_go d (ru RULE_REST_TERMS_MORE refl (tk SET_COMMA CLASS_COMMA i refl (whole_reads text e (ac ACT_NEXT_TERM refl k)))))

  rest_terms_read : {n : ℕ} {x : List PlacedTerm} {ts : Tokens} → IsRest (IsWhole text n) x ts → {s : List Symbol} {us : Tokens} {kept : List ℕ} {parts : Parts text} {final : Option (Parts text)}
      → Read text s us n kept (POther (PTerms x) ∷ parts) final → Read text (N NAME_REST_TERMS ∷ s) (ts ++ us) n kept (POther (PTerms []) ∷ parts) final
  rest_terms_read d k = rest_terms_go d (ru RULE_REST_TERMS_END refl k)

  -- ---- names, parameters and arguments

  names_read : {n : ℕ} {x : List SeenToken} {ts : Tokens} → IsNames n x ts → {s : List Symbol} {us : Tokens} {kept : List ℕ} {parts : Parts text} {final : Option (Parts text)}
      → Read text s us n kept (POther (PNames x) ∷ parts) final → Read text (N NAME_IN_NAMES ∷ s) (ts ++ us) n kept parts final
  names_read (in_names {n = n} o c {ts = t0} h0 h1 h2) {us = us} k =
      to text (opens n o ∷ (t0 ++ (plain c ∷ us))) (simp append_assoc) (ru RULE_IN_NAMES_PARENS refl (sv (op SET_L_PAREN CLASS_L_PAREN h0 refl (ac ACT_NO_NAMES refl (names_list_reads h1 (tk SET_R_PAREN CLASS_R_PAREN h2 refl (rs (ac ACT_IN_NAMES refl k))))))))

  pars_read : {n : ℕ} {x : List Par} {ts : Tokens} → IsPars n x ts → {s : List Symbol} {us : Tokens} {kept : List ℕ} {parts : Parts text} {final : Option (Parts text)}
      → Read text s us n kept (POther (PPars x) ∷ parts) final → Read text (N NAME_IN_PARS ∷ s) (ts ++ us) n kept parts final
  pars_read (in_pars {n = n} o c {ts = t0} h0 h1 h2) {us = us} k =
      to text (opens n o ∷ (t0 ++ (plain c ∷ us))) (simp append_assoc) (ru RULE_IN_PARS_PARENS refl (sv (op SET_L_PAREN CLASS_L_PAREN h0 refl (ac ACT_NO_PARS refl (pars_list_reads h1 (tk SET_R_PAREN CLASS_R_PAREN h2 refl (rs (ac ACT_IN_PARS refl k))))))))

  arguments_read : {n : ℕ} {x : List PlacedTerm} {ts : Tokens} → IsArguments text n x ts → {s : List Symbol} {us : Tokens} {kept : List ℕ} {parts : Parts text} {final : Option (Parts text)}
      → Read text s us n kept (POther (PTerms x) ∷ parts) final → Read text (N NAME_IN_TERMS ∷ s) (ts ++ us) n kept parts final
  arguments_read (in_terms {n = n} o c {ts = t0} h0 h1 h2) {us = us} k =
      to text (opens n o ∷ (t0 ++ (plain c ∷ us))) (simp append_assoc) (ru RULE_IN_TERMS_PARENS refl (sv (op SET_L_PAREN CLASS_L_PAREN h0 refl (ac ACT_NO_TERMS refl (terms_list_reads h1 (tk SET_R_PAREN CLASS_R_PAREN h2 refl (rs (ac ACT_IN_TERMS refl k))))))))

  inst_reads : {n : ℕ} {x : Inst} {ts : Tokens} → IsInst text n x ts → {s : List Symbol} {us : Tokens} {kept : List ℕ} {parts : Parts text} {final : Option (Parts text)}
      → Read text s us n kept (POther (PInst x) ∷ parts) final → Read text (N NAME_INST ∷ s) (ts ++ us) n kept parts final
  inst_reads (inst_of i {ts = t0} h0 h1) k =
      ru RULE_INST_NAMED refl (tk_in SET_ID h0 (arguments_read h1 (ac ACT_INST refl k)))

  reply_reads : {n : ℕ} {x : Option PlacedTerm} {ts : Tokens} → IsReply text n x ts → {s : List Symbol} {us : Tokens} {kept : List ℕ} {parts : Parts text} {final : Option (Parts text)}
      → Read text s us n kept (POther (PMaybeTerm x) ∷ parts) final → Read text (N NAME_REPLY ∷ s) (ts ++ us) n kept parts final
  reply_reads no_reply k =
      ru RULE_REPLY_NONE refl (ac ACT_NO_TERM refl k)
  reply_reads (with_reply s' {ts = t0} h0 h1) k =
      ru RULE_REPLY_SOME refl (tk SET_COMMA CLASS_COMMA h0 refl (whole_reads text h1 (ac ACT_WORD_TERM refl k)))

  except_reads : {n : ℕ} {x : List PlacedTerm} {ts : Tokens} → IsExcept text n x ts → {s : List Symbol} {us : Tokens} {kept : List ℕ} {parts : Parts text} {final : Option (Parts text)}
      → Read text s us n kept (POther (PTerms x) ∷ parts) final → Read text (N NAME_EXCEPT ∷ s) (ts ++ us) n kept parts final
  except_reads no_except k =
      ru RULE_EXCEPT_NONE refl (ac ACT_NO_TERMS refl k)
  except_reads (except_terms w {ts = t0} h0 h1) k =
      ru RULE_EXCEPT_SOME refl (tk SET_EXCEPT_WORD CLASS_EXCEPT_WORD h0 refl (arguments_read h1 (ac ACT_WORD_TERMS refl k)))

  -- ---- atoms

  built_in_reads : {n : ℕ} {x : Atom} {ts : Tokens} → IsBuiltIn text n x ts → {s : List Symbol} {us : Tokens} {kept : List ℕ} {parts : Parts text} {final : Option (Parts text)}
      → Read text s us n kept (POther (PAtom x) ∷ parts) final → Read text (N NAME_PLAIN_ATOM ∷ s) (ts ++ us) n kept parts final
  built_in_reads (one_atom {n = n} w o c {ts = t0} h0 h1 h2 h3) {us = us} k =
      to text (plain w ∷ opens n o ∷ (t0 ++ (plain c ∷ us))) (simp append_assoc) (ru RULE_PLAIN_ATOM_ONE refl (tk SET_ONE_ATOM_WORD CLASS_ONE_ATOM_WORD h0 refl (ru RULE_ONE_ARGS_PARENS refl (sv (op SET_L_PAREN CLASS_L_PAREN h1 refl (whole_reads text h2 (tk SET_R_PAREN CLASS_R_PAREN h3 refl (rs (ac ACT_ONE_ATOM refl k)))))))))
  built_in_reads (two_atom {n = n} w o s' c {ts = t0} {us = t1} h0 h1 h2 h3 h4 h5) {us = us} k =
      to text (plain w ∷ opens n o ∷ (t0 ++ (plain s' ∷ (t1 ++ (plain c ∷ us))))) (simp append_assoc) (ru RULE_PLAIN_ATOM_TWO refl (tk_in SET_TWO_ATOM h0 (ru RULE_TWO_ARGS_PARENS refl (sv (op SET_L_PAREN CLASS_L_PAREN h1 refl (whole_reads text h2 (tk SET_COMMA CLASS_COMMA h3 refl (whole_reads text h4 (tk SET_R_PAREN CLASS_R_PAREN h5 refl (rs (ac ACT_TWO_ATOM refl k)))))))))))
  built_in_reads (three_atom {n = n} w o s' r c {ts = t0} {us = t1} {vs = t2} h0 h1 h2 h3 h4 h5 h6 h7) {us = us} k =
      to text (plain w ∷ opens n o ∷ (t0 ++ (plain s' ∷ (t1 ++ (plain r ∷ (t2 ++ (plain c ∷ us))))))) (simp append_assoc) (ru RULE_PLAIN_ATOM_THREE refl (tk SET_THREE_ATOM_WORD CLASS_THREE_ATOM_WORD h0 refl (ru RULE_THREE_ARGS_PARENS refl (sv (op SET_L_PAREN CLASS_L_PAREN h1 refl (whole_reads text h2 (tk SET_COMMA CLASS_COMMA h3 refl (whole_reads text h4 (tk SET_COMMA CLASS_COMMA h5 refl (whole_reads text h6 (tk SET_R_PAREN CLASS_R_PAREN h7 refl (rs (ac ACT_THREE_ATOM refl k)))))))))))))
  built_in_reads (cell_atom {n = n} w o s' i r c {ts = t0} {us = t1} h0 h1 h2 h3 h4 h5 h6 h7) {us = us} k =
      to text (plain w ∷ opens n o ∷ (t0 ++ (plain s' ∷ plain i ∷ plain r ∷ (t1 ++ (plain c ∷ us))))) (simp append_assoc) (ru RULE_PLAIN_ATOM_CELL refl (tk SET_CELL_ATOM_WORD CLASS_CELL_ATOM_WORD h0 refl (ru RULE_CELL_ARGS_PARENS refl (sv (op SET_L_PAREN CLASS_L_PAREN h1 refl (whole_reads text h2 (tk SET_COMMA CLASS_COMMA h3 refl (tk_in SET_ID h4 (tk SET_COMMA CLASS_COMMA h5 refl (whole_reads text h6 (tk SET_R_PAREN CLASS_R_PAREN h7 refl (rs (ac ACT_CELL_ATOM refl k)))))))))))))
  built_in_reads (field_atom {n = n} w o i s' c {ts = t0} h0 h1 h2 h3 h4 h5) {us = us} k =
      to text (plain w ∷ opens n o ∷ plain i ∷ plain s' ∷ (t0 ++ (plain c ∷ us))) (simp append_assoc) (ru RULE_PLAIN_ATOM_FIELD refl (tk SET_FIELD_ATOM_WORD CLASS_FIELD_ATOM_WORD h0 refl (ru RULE_FIELD_ARGS_PARENS refl (sv (op SET_L_PAREN CLASS_L_PAREN h1 refl (tk_in SET_ID h2 (tk SET_COMMA CLASS_COMMA h3 refl (whole_reads text h4 (tk SET_R_PAREN CLASS_R_PAREN h5 refl (rs (ac ACT_FIELD_ATOM refl k)))))))))))
  built_in_reads (book_atom {n = n} w o i s' r c {ts = t0} {us = t1} h0 h1 h2 h3 h4 h5 h6 h7) {us = us} k =
      to text (plain w ∷ opens n o ∷ plain i ∷ plain s' ∷ (t0 ++ (plain r ∷ (t1 ++ (plain c ∷ us))))) (simp append_assoc) (ru RULE_PLAIN_ATOM_BOOK refl (tk SET_BOOK_ATOM_WORD CLASS_BOOK_ATOM_WORD h0 refl (ru RULE_BOOK_ARGS_PARENS refl (sv (op SET_L_PAREN CLASS_L_PAREN h1 refl (tk_in SET_ID h2 (tk SET_COMMA CLASS_COMMA h3 refl (whole_reads text h4 (tk SET_COMMA CLASS_COMMA h5 refl (whole_reads text h6 (tk SET_R_PAREN CLASS_R_PAREN h7 refl (rs (ac ACT_BOOK_ATOM refl k)))))))))))))
  built_in_reads (lock_atom {n = n} w o s' c {ts = t0} {us = t1} h0 h1 h2 h3 h4 h5) {us = us} k =
      to text (plain w ∷ opens n o ∷ (t0 ++ (plain s' ∷ (t1 ++ (plain c ∷ us))))) (simp append_assoc) (ru RULE_PLAIN_ATOM_LOCK refl (tk SET_LOCK_WORD CLASS_LOCK_WORD h0 refl (ru RULE_LOCK_ARGS_PARENS refl (sv (op SET_L_PAREN CLASS_L_PAREN h1 refl (whole_reads text h2 (tk SET_COMMA CLASS_COMMA h3 refl (inst_reads h4 (tk SET_R_PAREN CLASS_R_PAREN h5 refl (rs (ac ACT_LOCK_ATOM refl k)))))))))))
  built_in_reads (token_atom {n = n} w o s' i c {ts = t0} {us = t1} h0 h1 h2 h3 h4 h5 h6) {us = us} k =
      to text (plain w ∷ opens n o ∷ (t0 ++ (plain s' ∷ plain i ∷ (t1 ++ (plain c ∷ us))))) (simp append_assoc) (ru RULE_PLAIN_ATOM_TOKEN refl (tk SET_TOKEN_WORD CLASS_TOKEN_WORD h0 refl (ru RULE_TOKEN_ARGS_PARENS refl (sv (op SET_L_PAREN CLASS_L_PAREN h1 refl (whole_reads text h2 (tk SET_COMMA CLASS_COMMA h3 refl (tk_in SET_ID h4 (ac ACT_NO_TERMS refl (rest_terms_read h5 (tk SET_R_PAREN CLASS_R_PAREN h6 refl (rs (ac ACT_TOKEN_ATOM refl k)))))))))))))
  built_in_reads (done_atom {n = n} w o c {ts = t0} {us = t1} h0 h1 h2 h3 h4) {us = us} k =
      to text (plain w ∷ opens n o ∷ (t0 ++ (t1 ++ (plain c ∷ us)))) (simp append_assoc) (ru RULE_PLAIN_ATOM_DONE refl (tk SET_DONE_WORD CLASS_DONE_WORD h0 refl (ru RULE_DONE_ARGS_PARENS refl (sv (op SET_L_PAREN CLASS_L_PAREN h1 refl (whole_reads text h2 (reply_reads h3 (tk SET_R_PAREN CLASS_R_PAREN h4 refl (rs (ac ACT_DONE_ATOM refl k))))))))))

  plain_atom_reads : {n : ℕ} {x : Atom} {ts : Tokens} → IsPlainAtom text n x ts → {s : List Symbol} {us : Tokens} {kept : List ℕ} {parts : Parts text} {final : Option (Parts text)}
      → Read text s us n kept (POther (PAtom x) ∷ parts) final → Read text (N NAME_PLAIN_ATOM ∷ s) (ts ++ us) n kept parts final
  plain_atom_reads (built_in {ts = t0} h0) k =
      built_in_reads h0 k
  plain_atom_reads (instance_of i {ts = t0} h0 h1) k =
      ru RULE_PLAIN_ATOM_INST refl (tk_in SET_PREDICATE h0 (arguments_read h1 (ac ACT_INST refl (ac ACT_INST_ATOM refl k))))

  each_reads : {n : ℕ} {x : Atom} {ts : Tokens} → IsEach text n x ts → {s : List Symbol} {us : Tokens} {kept : List ℕ} {parts : Parts text} {final : Option (Parts text)}
      → Read text s us n kept (POther (PAtom x) ∷ parts) final → Read text (N NAME_ATOM ∷ s) (ts ++ us) n kept parts final
  each_reads (each_of {n = n} w o i p d q c {ts = t0} {us = t1} {vs = t2} {ws = t3} h0 h1 h2 h3 h4 h5 h6 h7 h8 h9 h10) {us = us} k =
      to text (plain w ∷ opens n o ∷ plain i ∷ plain p ∷ (t0 ++ (plain d ∷ (t1 ++ (t2 ++ (plain q ∷ (t3 ++ (plain c ∷ us)))))))) (simp append_assoc) (ru RULE_ATOM_EACH refl (tk SET_EACH_WORD CLASS_EACH_WORD h0 refl (ru RULE_EACH_ARGS_PARENS refl (sv (op SET_L_PAREN CLASS_L_PAREN h1 refl (tk_in SET_ID h2 (tk SET_IN_WORD CLASS_IN_WORD h3 refl (whole_reads text h4 (tk SET_DOT_DOT CLASS_DOT_DOT h5 refl (whole_reads text h6 (except_reads h7 (tk SET_COLON CLASS_COLON h8 refl (plain_atom_reads h9 (tk SET_R_PAREN CLASS_R_PAREN h10 refl (rs (ac ACT_EACH_ATOM refl k))))))))))))))))

  atom_reads : {n : ℕ} {x : Atom} {ts : Tokens} → IsAtom text n x ts → {s : List Symbol} {us : Tokens} {kept : List ℕ} {parts : Parts text} {final : Option (Parts text)}
      → Read text s us n kept (POther (PAtom x) ∷ parts) final → Read text (N NAME_ATOM ∷ s) (ts ++ us) n kept parts final
  atom_reads (plain_atom d) k = ru RULE_ATOM_PLAIN refl (plain_atom_reads d k)
  atom_reads (each_atom d) k = each_reads d k

  atoms_items_read : {n : ℕ} {x : List Atom} {ts : Tokens} → IsItems (IsAtom text n) x ts → {s : List Symbol} {us : Tokens} {kept : List ℕ} {parts : Parts text} {final : Option (Parts text)}
      → Read text (N NAME_MORE_ATOMS ∷ s) us n kept (POther (PAtoms x) ∷ parts) final → Read text (N NAME_ATOMS ∷ s) (ts ++ us) n kept (POther (PAtoms []) ∷ parts) final
  atoms_items_read (first d) k = ru RULE_ATOMS_SOME refl (atom_reads d (ac ACT_ATOM refl k))
  atoms_items_read (next t {ts = ts} {us = vs} d i e) {us = us} k =
      re ts (plain t ∷ vs) us (atoms_items_read d (ru RULE_MORE_ATOMS_MORE refl (tk SET_COMMA CLASS_COMMA i refl (atom_reads e (ac ACT_NEXT_ATOM refl k)))))

  atoms_all_read : {n : ℕ} {x : List Atom} {ts : Tokens} → IsItems (IsAtom text n) x ts → {s : List Symbol} {us : Tokens} {kept : List ℕ} {parts : Parts text} {final : Option (Parts text)}
      → Read text s us n kept (POther (PAtoms x) ∷ parts) final → Read text (N NAME_ATOMS ∷ s) (ts ++ us) n kept (POther (PAtoms []) ∷ parts) final
  atoms_all_read d k = atoms_items_read d (ru RULE_MORE_ATOMS_END refl k)

  atoms_read : {n : ℕ} {x : List Atom} {ts : Tokens} → IsAtoms text n x ts → {s : List Symbol} {us : Tokens} {kept : List ℕ} {parts : Parts text} {final : Option (Parts text)}
      → Read text s us n kept (POther (PAtoms x) ∷ parts) final → Read text (N NAME_IN_ATOMS ∷ s) (ts ++ us) n kept parts final
  atoms_read (in_atoms {n = n} o c {ts = t0} h0 h1 h2) {us = us} k =
      to text (opens n o ∷ (t0 ++ (plain c ∷ us))) (simp append_assoc) (ru RULE_IN_ATOMS_PARENS refl (sv (op SET_L_PAREN CLASS_L_PAREN h0 refl (ac ACT_NO_ATOMS refl (atoms_all_read h1 (tk SET_R_PAREN CLASS_R_PAREN h2 refl (rs (ac ACT_IN_ATOMS refl k))))))))

  -- ---- items of heaps

  held_reads : {n : ℕ} {x : Atom} {ts : Tokens} → IsBuiltIn text n x ts → {s : List Symbol} {us : Tokens} {kept : List ℕ} {parts : Parts text} {final : Option (Parts text)}
      → Read text s us n kept (POther (PItem (Held x)) ∷ parts) final → Read text (N NAME_ITEM ∷ s) (ts ++ us) n kept parts final
  held_reads (one_atom {n = n} w o c {ts = t0} h0 h1 h2 h3) {us = us} k =
      to text (plain w ∷ opens n o ∷ (t0 ++ (plain c ∷ us))) (simp append_assoc) (ru RULE_ITEM_ONE refl (tk SET_ONE_ATOM_WORD CLASS_ONE_ATOM_WORD h0 refl (ru RULE_ONE_ITEM_ATOM refl (ru RULE_ONE_ARGS_PARENS refl (sv (op SET_L_PAREN CLASS_L_PAREN h1 refl (whole_reads text h2 (tk SET_R_PAREN CLASS_R_PAREN h3 refl (rs (ac ACT_ONE_ATOM refl (ac ACT_HELD refl k)))))))))))
  held_reads (two_atom {n = n} w o s' c {ts = t0} {us = t1} h0 h1 h2 h3 h4 h5) {us = us} k =
      to text (plain w ∷ opens n o ∷ (t0 ++ (plain s' ∷ (t1 ++ (plain c ∷ us))))) (simp append_assoc) (ru RULE_ITEM_TWO refl (tk_in SET_TWO_ATOM h0 (ru RULE_TWO_ITEM_ATOM refl (ru RULE_TWO_ARGS_PARENS refl (sv (op SET_L_PAREN CLASS_L_PAREN h1 refl (whole_reads text h2 (tk SET_COMMA CLASS_COMMA h3 refl (whole_reads text h4 (tk SET_R_PAREN CLASS_R_PAREN h5 refl (rs (ac ACT_TWO_ATOM refl (ac ACT_HELD refl k)))))))))))))
  held_reads (three_atom {n = n} w o s' r c {ts = t0} {us = t1} {vs = t2} h0 h1 h2 h3 h4 h5 h6 h7) {us = us} k =
      to text (plain w ∷ opens n o ∷ (t0 ++ (plain s' ∷ (t1 ++ (plain r ∷ (t2 ++ (plain c ∷ us))))))) (simp append_assoc) (ru RULE_ITEM_THREE refl (tk SET_THREE_ATOM_WORD CLASS_THREE_ATOM_WORD h0 refl (ru RULE_THREE_ITEM_ATOM refl (ru RULE_THREE_ARGS_PARENS refl (sv (op SET_L_PAREN CLASS_L_PAREN h1 refl (whole_reads text h2 (tk SET_COMMA CLASS_COMMA h3 refl (whole_reads text h4 (tk SET_COMMA CLASS_COMMA h5 refl (whole_reads text h6 (tk SET_R_PAREN CLASS_R_PAREN h7 refl (rs (ac ACT_THREE_ATOM refl (ac ACT_HELD refl k)))))))))))))))
  held_reads (cell_atom {n = n} w o s' i r c {ts = t0} {us = t1} h0 h1 h2 h3 h4 h5 h6 h7) {us = us} k =
      to text (plain w ∷ opens n o ∷ (t0 ++ (plain s' ∷ plain i ∷ plain r ∷ (t1 ++ (plain c ∷ us))))) (simp append_assoc) (ru RULE_ITEM_CELL refl (tk SET_CELL_ATOM_WORD CLASS_CELL_ATOM_WORD h0 refl (ru RULE_CELL_ITEM_ATOM refl (ru RULE_CELL_ARGS_PARENS refl (sv (op SET_L_PAREN CLASS_L_PAREN h1 refl (whole_reads text h2 (tk SET_COMMA CLASS_COMMA h3 refl (tk_in SET_ID h4 (tk SET_COMMA CLASS_COMMA h5 refl (whole_reads text h6 (tk SET_R_PAREN CLASS_R_PAREN h7 refl (rs (ac ACT_CELL_ATOM refl (ac ACT_HELD refl k)))))))))))))))
  held_reads (field_atom {n = n} w o i s' c {ts = t0} h0 h1 h2 h3 h4 h5) {us = us} k =
      to text (plain w ∷ opens n o ∷ plain i ∷ plain s' ∷ (t0 ++ (plain c ∷ us))) (simp append_assoc) (ru RULE_ITEM_FIELD refl (tk SET_FIELD_ATOM_WORD CLASS_FIELD_ATOM_WORD h0 refl (ru RULE_FIELD_ITEM_ATOM refl (ru RULE_FIELD_ARGS_PARENS refl (sv (op SET_L_PAREN CLASS_L_PAREN h1 refl (tk_in SET_ID h2 (tk SET_COMMA CLASS_COMMA h3 refl (whole_reads text h4 (tk SET_R_PAREN CLASS_R_PAREN h5 refl (rs (ac ACT_FIELD_ATOM refl (ac ACT_HELD refl k)))))))))))))
  held_reads (book_atom {n = n} w o i s' r c {ts = t0} {us = t1} h0 h1 h2 h3 h4 h5 h6 h7) {us = us} k =
      to text (plain w ∷ opens n o ∷ plain i ∷ plain s' ∷ (t0 ++ (plain r ∷ (t1 ++ (plain c ∷ us))))) (simp append_assoc) (ru RULE_ITEM_BOOK refl (tk SET_BOOK_ATOM_WORD CLASS_BOOK_ATOM_WORD h0 refl (ru RULE_BOOK_ITEM_ATOM refl (ru RULE_BOOK_ARGS_PARENS refl (sv (op SET_L_PAREN CLASS_L_PAREN h1 refl (tk_in SET_ID h2 (tk SET_COMMA CLASS_COMMA h3 refl (whole_reads text h4 (tk SET_COMMA CLASS_COMMA h5 refl (whole_reads text h6 (tk SET_R_PAREN CLASS_R_PAREN h7 refl (rs (ac ACT_BOOK_ATOM refl (ac ACT_HELD refl k)))))))))))))))
  held_reads (lock_atom {n = n} w o s' c {ts = t0} {us = t1} h0 h1 h2 h3 h4 h5) {us = us} k =
      to text (plain w ∷ opens n o ∷ (t0 ++ (plain s' ∷ (t1 ++ (plain c ∷ us))))) (simp append_assoc) (ru RULE_ITEM_LOCK refl (tk SET_LOCK_WORD CLASS_LOCK_WORD h0 refl (ru RULE_LOCK_ITEM_ATOM refl (ru RULE_LOCK_ARGS_PARENS refl (sv (op SET_L_PAREN CLASS_L_PAREN h1 refl (whole_reads text h2 (tk SET_COMMA CLASS_COMMA h3 refl (inst_reads h4 (tk SET_R_PAREN CLASS_R_PAREN h5 refl (rs (ac ACT_LOCK_ATOM refl (ac ACT_HELD refl k)))))))))))))
  held_reads (token_atom {n = n} w o s' i c {ts = t0} {us = t1} h0 h1 h2 h3 h4 h5 h6) {us = us} k =
      to text (plain w ∷ opens n o ∷ (t0 ++ (plain s' ∷ plain i ∷ (t1 ++ (plain c ∷ us))))) (simp append_assoc) (ru RULE_ITEM_TOKEN refl (tk SET_TOKEN_WORD CLASS_TOKEN_WORD h0 refl (ru RULE_TOKEN_ITEM_ATOM refl (ru RULE_TOKEN_ARGS_PARENS refl (sv (op SET_L_PAREN CLASS_L_PAREN h1 refl (whole_reads text h2 (tk SET_COMMA CLASS_COMMA h3 refl (tk_in SET_ID h4 (ac ACT_NO_TERMS refl (rest_terms_read h5 (tk SET_R_PAREN CLASS_R_PAREN h6 refl (rs (ac ACT_TOKEN_ATOM refl (ac ACT_HELD refl k)))))))))))))))
  held_reads (done_atom {n = n} w o c {ts = t0} {us = t1} h0 h1 h2 h3 h4) {us = us} k =
      to text (plain w ∷ opens n o ∷ (t0 ++ (t1 ++ (plain c ∷ us)))) (simp append_assoc) (ru RULE_ITEM_DONE refl (tk SET_DONE_WORD CLASS_DONE_WORD h0 refl (ru RULE_DONE_ITEM_ATOM refl (ru RULE_DONE_ARGS_PARENS refl (sv (op SET_L_PAREN CLASS_L_PAREN h1 refl (whole_reads text h2 (reply_reads h3 (tk SET_R_PAREN CLASS_R_PAREN h4 refl (rs (ac ACT_DONE_ATOM refl (ac ACT_HELD refl k))))))))))))

  held_each_reads : {n : ℕ} {x : Atom} {ts : Tokens} → IsEach text n x ts → {s : List Symbol} {us : Tokens} {kept : List ℕ} {parts : Parts text} {final : Option (Parts text)}
      → Read text s us n kept (POther (PItem (Held x)) ∷ parts) final → Read text (N NAME_ITEM ∷ s) (ts ++ us) n kept parts final
  held_each_reads (each_of {n = n} w o i p d q c {ts = t0} {us = t1} {vs = t2} {ws = t3} h0 h1 h2 h3 h4 h5 h6 h7 h8 h9 h10) {us = us} k =
      to text (plain w ∷ opens n o ∷ plain i ∷ plain p ∷ (t0 ++ (plain d ∷ (t1 ++ (t2 ++ (plain q ∷ (t3 ++ (plain c ∷ us)))))))) (simp append_assoc) (ru RULE_ITEM_EACH refl (tk SET_EACH_WORD CLASS_EACH_WORD h0 refl (ru RULE_EACH_ITEM_ATOM refl (ru RULE_EACH_ARGS_PARENS refl (sv (op SET_L_PAREN CLASS_L_PAREN h1 refl (tk_in SET_ID h2 (tk SET_IN_WORD CLASS_IN_WORD h3 refl (whole_reads text h4 (tk SET_DOT_DOT CLASS_DOT_DOT h5 refl (whole_reads text h6 (except_reads h7 (tk SET_COLON CLASS_COLON h8 refl (plain_atom_reads h9 (tk SET_R_PAREN CLASS_R_PAREN h10 refl (rs (ac ACT_EACH_ATOM refl (ac ACT_HELD refl k))))))))))))))))))

  -- an operand that begins a fact, as far as the operators behind it
  abbrev Fact_tail : List Symbol → List Symbol
  Fact_tail s = N NAME_OPERATORS ∷ A RESTORE ∷ A ACT_FACT ∷ s

  named_fact : {n : ℕ} {t : SeenToken} {s : List Symbol} {us : Tokens} {kept : List ℕ} {parts : Parts text} {final : Option (Parts text)}
      → Read text (Fact_tail s) us n (n ∷ kept) (PTerm (read.variable text t) ∷ parts) final → Read text (N NAME_VARIABLE_ITEM ∷ s) us n kept (PToken t ∷ parts) final
  named_fact k = ru RULE_VARIABLE_ITEM_FACT refl (sv (ac ACT_VARIABLE refl k))

  variable_fact : {n : ℕ} (t : SeenToken) → is_among t.class atom_words ≡ true → {s : List Symbol} {us : Tokens} {kept : List ℕ} {parts : Parts text} {final : Option (Parts text)}
      → Read text (Fact_tail s) us n (n ∷ kept) (PTerm (read.variable text t) ∷ parts) final → Read text (N NAME_ITEM ∷ s) (plain t ∷ us) n kept parts final
  variable_fact t i k = elim (more_classes CLASS_ONE_ATOM_WORD t.class _ i) [
    | inl h ↦ ru RULE_ITEM_ONE refl (tk SET_ONE_ATOM_WORD CLASS_ONE_ATOM_WORD h refl (ru RULE_ONE_ITEM_FACT refl (named_fact k)))
    | inr i ↦ elim (split_among t.class two_atoms single_atoms i) [
      | inl h ↦ ru RULE_ITEM_TWO refl (tk_in SET_TWO_ATOM h (ru RULE_TWO_ITEM_FACT refl (named_fact k)))
      | inr i ↦ elim (more_classes CLASS_THREE_ATOM_WORD t.class _ i) [
        | inl h ↦ ru RULE_ITEM_THREE refl (tk SET_THREE_ATOM_WORD CLASS_THREE_ATOM_WORD h refl (ru RULE_THREE_ITEM_FACT refl (named_fact k)))
        | inr i ↦ elim (more_classes CLASS_CELL_ATOM_WORD t.class _ i) [
          | inl h ↦ ru RULE_ITEM_CELL refl (tk SET_CELL_ATOM_WORD CLASS_CELL_ATOM_WORD h refl (ru RULE_CELL_ITEM_FACT refl (named_fact k)))
          | inr i ↦ elim (more_classes CLASS_FIELD_ATOM_WORD t.class _ i) [
            | inl h ↦ ru RULE_ITEM_FIELD refl (tk SET_FIELD_ATOM_WORD CLASS_FIELD_ATOM_WORD h refl (ru RULE_FIELD_ITEM_FACT refl (named_fact k)))
            | inr i ↦ elim (more_classes CLASS_BOOK_ATOM_WORD t.class _ i) [
              | inl h ↦ ru RULE_ITEM_BOOK refl (tk SET_BOOK_ATOM_WORD CLASS_BOOK_ATOM_WORD h refl (ru RULE_BOOK_ITEM_FACT refl (named_fact k)))
              | inr i ↦ elim (more_classes CLASS_LOCK_WORD t.class _ i) [
                | inl h ↦ ru RULE_ITEM_LOCK refl (tk SET_LOCK_WORD CLASS_LOCK_WORD h refl (ru RULE_LOCK_ITEM_FACT refl (named_fact k)))
                | inr i ↦ elim (more_classes CLASS_TOKEN_WORD t.class _ i) [
                  | inl h ↦ ru RULE_ITEM_TOKEN refl (tk SET_TOKEN_WORD CLASS_TOKEN_WORD h refl (ru RULE_TOKEN_ITEM_FACT refl (named_fact k)))
                  | inr i ↦ elim (more_classes CLASS_DONE_WORD t.class _ i) [
                    | inl h ↦ ru RULE_ITEM_DONE refl (tk SET_DONE_WORD CLASS_DONE_WORD h refl (ru RULE_DONE_ITEM_FACT refl (named_fact k)))
                    | inr i ↦ ru RULE_ITEM_EACH refl (tk SET_EACH_WORD CLASS_EACH_WORD (one_class CLASS_EACH_WORD t.class i) refl (ru RULE_EACH_ITEM_FACT refl (named_fact k)))
                  ]
                ]
              ]
            ]
          ]
        ]
      ]
    ]
  ]

  prim_fact : {n : ℕ} {x : PlacedTerm} {ts : Tokens} → IsPrim (lexicon text) n x ts → {s : List Symbol} {us : Tokens} {kept : List ℕ} {parts : Parts text} {final : Option (Parts text)}
      → Read text (Fact_tail s) us n (n ∷ kept) (PTerm x ∷ parts) final → Read text (N NAME_ITEM ∷ s) (ts ++ us) n kept parts final
  prim_fact (number t i) k = ru RULE_ITEM_NUMBER refl (sv (tk_in SET_ANY_NUMBER i (ac ACT_NUMBER refl k)))
  prim_fact (constant t i) k = ru RULE_ITEM_CONSTANT refl (tk_in SET_CONSTANT i (ru RULE_CONSTANT_ITEM_FACT refl (sv (ac ACT_CONSTANT refl k))))
  prim_fact (variable t (inl i)) k = elim (split_among t.class named atom_words i) [
    | inl h ↦ ru RULE_ITEM_PLAIN refl (tk_in SET_PLAIN_NAME h (ru RULE_PLAIN_ITEM_FACT refl (named_fact k)))
    | inr h ↦ variable_fact t h k
  ]
  prim_fact (variable t (inr (inl i))) k = ru RULE_ITEM_MAKER refl (tk_in SET_MAKER i (sv (ru RULE_MAKER_REST_NAME refl (ac ACT_VARIABLE refl k))))
  prim_fact (variable t (inr (inr (inl i)))) k = ru RULE_ITEM_OF_ONE refl (tk_in SET_OF_ONE i (sv (ru RULE_ONE_REST_NAME refl (ac ACT_VARIABLE refl k))))
  prim_fact (variable t (inr (inr (inr (inl i))))) k = ru RULE_ITEM_OF_TWO refl (tk_in SET_OF_TWO i (sv (ru RULE_TWO_REST_NAME refl (ac ACT_VARIABLE refl k))))
  prim_fact (variable t (inr (inr (inr (inr i))))) k = ru RULE_ITEM_OF_THREE refl (tk_in SET_OF_THREE i (sv (ru RULE_THREE_REST_NAME refl (ac ACT_VARIABLE refl k))))
  prim_fact (paren o z {ts = ts} i d l) {us = us} k =
      ru RULE_ITEM_PAREN refl (sv (sv (op SET_L_PAREN CLASS_L_PAREN i refl (re ts (plain z ∷ []) us (whole_reads text d (tk SET_R_PAREN CLASS_R_PAREN l refl (rs (ac ACT_PAREN refl k))))))))
  prim_fact (maker f o j x z {ts = ts} h i g l d p) {us = us} k =
      ru RULE_ITEM_MAKER refl (tk_in SET_MAKER h (sv (ru RULE_MAKER_REST_CALL refl (sv (op SET_L_PAREN CLASS_L_PAREN i refl (tk_in SET_ANY_NUMBER g (tk SET_COMMA CLASS_COMMA l refl
      (re ts (plain z ∷ []) us (whole_reads text d (tk SET_R_PAREN CLASS_R_PAREN p refl (rs (ac ACT_MAKER refl k))))))))))))
  prim_fact (one f o z {ts = ts} h i d l) {us = us} k =
      ru RULE_ITEM_OF_ONE refl (tk_in SET_OF_ONE h (sv (ru RULE_ONE_REST_CALL refl (sv (op SET_L_PAREN CLASS_L_PAREN i refl (re ts (plain z ∷ []) us (whole_reads text d (tk SET_R_PAREN CLASS_R_PAREN l refl (rs (ac ACT_OF_ONE refl k))))))))))
  prim_fact {n} (two f o x z {ts = ts} {us = vs} h i d l e p) {us = us} k =
      re (plain f ∷ opens n o ∷ ts ++ plain x ∷ vs) (plain z ∷ []) us (re (plain f ∷ opens n o ∷ ts) (plain x ∷ vs) (plain z ∷ us)
      (ru RULE_ITEM_OF_TWO refl (tk_in SET_OF_TWO h (sv (ru RULE_TWO_REST_CALL refl (sv (op SET_L_PAREN CLASS_L_PAREN i refl (whole_reads text d (tk SET_COMMA CLASS_COMMA l refl
      (whole_reads text e (tk SET_R_PAREN CLASS_R_PAREN p refl (rs (ac ACT_OF_TWO refl k)))))))))))))
  prim_fact {n} (three f o x r z {ts = ts} {us = vs} {vs = ws} h i d l e p b q) {us = us} k =
      re ((plain f ∷ opens n o ∷ ts ++ plain x ∷ vs) ++ plain r ∷ ws) (plain z ∷ []) us (re (plain f ∷ opens n o ∷ ts ++ plain x ∷ vs) (plain r ∷ ws) (plain z ∷ us)
      (re (plain f ∷ opens n o ∷ ts) (plain x ∷ vs) (plain r ∷ (ws ++ plain z ∷ us))
      (ru RULE_ITEM_OF_THREE refl (tk_in SET_OF_THREE h (sv (ru RULE_THREE_REST_CALL refl (sv (op SET_L_PAREN CLASS_L_PAREN i refl (whole_reads text d (tk SET_COMMA CLASS_COMMA l refl
      (whole_reads text e (tk SET_COMMA CLASS_COMMA p refl (whole_reads text b (tk SET_R_PAREN CLASS_R_PAREN q refl (rs (ac ACT_OF_THREE refl k))))))))))))))))

  unary_fact : {n m : ℕ} {x : PlacedTerm} {ts : Tokens} → IsUnary (lexicon text) n x m ts → {s : List Symbol} {us : Tokens} {kept : List ℕ} {parts : Parts text} {final : Option (Parts text)}
      → Read text (Fact_tail s) us m (n ∷ kept) (PTerm x ∷ parts) final → Read text (N NAME_ITEM ∷ s) (ts ++ us) n kept parts final
  unary_fact (prim d) k = prim_fact d k
  unary_fact (invert t i d) k = ru RULE_ITEM_SIGN refl (sv (op_in SET_INVERTING i (unary_reads text d (ac ACT_UNARY refl k))))

  item_reads : {n : ℕ} {x : Item} {ts : Tokens} → IsItem text n x ts → {s : List Symbol} {us : Tokens} {kept : List ℕ} {parts : Parts text} {final : Option (Parts text)}
      → Read text s us n kept (POther (PItem x) ∷ parts) final → Read text (N NAME_ITEM ∷ s) (ts ++ us) n kept parts final
  item_reads {n} {x} {ts} (fact d) {s = s} {us = us} {kept = kept} {parts = parts} {final = final} k =
      let a = begun_of text d in
      subst (λ (ps : Tokens). Read text (N NAME_ITEM ∷ s) (ps ++ us) n kept parts final) a.same
      (re a.front a.back us (unary_fact a.begun (a.goes (A RESTORE ∷ A ACT_FACT ∷ s) us (n ∷ kept) parts final (rs (ac ACT_FACT refl k)))))
  item_reads (held d) k = held_reads d k
  item_reads (held_each d) k = held_each_reads d k
  item_reads (held_plain i h d) k = ru RULE_ITEM_PLAIN refl (tk_in SET_PLAIN_NAME h (ru RULE_PLAIN_ITEM_INST refl (arguments_read d (ac ACT_INST refl (ac ACT_INST_ATOM refl (ac ACT_HELD refl k))))))
  item_reads (held_constant i h d) k = ru RULE_ITEM_CONSTANT refl (tk_in SET_CONSTANT h (ru RULE_CONSTANT_ITEM_INST refl (arguments_read d (ac ACT_INST refl (ac ACT_INST_ATOM refl (ac ACT_HELD refl k))))))

  heap_items_read : {n : ℕ} {x : List Item} {ts : Tokens} → IsHeapItems text n x ts → {s : List Symbol} {us : Tokens} {kept : List ℕ} {parts : Parts text} {final : Option (Parts text)}
      → Read text (N NAME_ITEMS ∷ s) us n kept (POther (PItems x) ∷ parts) final → Read text (N NAME_ITEMS ∷ s) (ts ++ us) n kept (POther (PItems []) ∷ parts) final
  heap_items_read no_items k = k
  heap_items_read (next_item e {ts = ts} {us = vs} d i h) {us = us} k =
      to text (ts ++ (vs ++ (plain e ∷ us))) (simp append_assoc) (heap_items_read d (ru RULE_ITEMS_MORE refl (item_reads i (tk SET_SEMI CLASS_SEMI h refl (ac ACT_ITEM refl k)))))

  heap_items_all : {n : ℕ} {x : List Item} {ts : Tokens} → IsHeapItems text n x ts → {s : List Symbol} {us : Tokens} {kept : List ℕ} {parts : Parts text} {final : Option (Parts text)}
      → Read text s us n kept (POther (PItems x) ∷ parts) final → Read text (N NAME_ITEMS ∷ s) (ts ++ us) n kept (POther (PItems []) ∷ parts) final
  heap_items_all d k = heap_items_read d (ru RULE_ITEMS_END refl k)

  heap_reads : {n : ℕ} {x : List Item} {ts : Tokens} → IsHeap text n x ts → {s : List Symbol} {us : Tokens} {kept : List ℕ} {parts : Parts text} {final : Option (Parts text)}
      → Read text s us n kept (POther (PItems x) ∷ parts) final → Read text (N NAME_HEAP ∷ s) (ts ++ us) n kept parts final
  heap_reads (heap_of {n = n} o c {ts = t0} h0 h1 h2) {us = us} k =
      to text (opens n o ∷ (t0 ++ (plain c ∷ us))) (simp append_assoc) (ru RULE_HEAP_BRACES refl (sv (op SET_L_BRACE CLASS_L_BRACE h0 refl (ac ACT_NO_ITEMS refl (heap_items_all h1 (tk SET_R_BRACE CLASS_R_BRACE h2 refl (rs (ac ACT_IN_ITEMS refl k))))))))

  -- ---- certificates

  within_reads : {n : ℕ} {x : Option PlacedTerm} {ts : Tokens} → IsWithin text n x ts → {s : List Symbol} {us : Tokens} {kept : List ℕ} {parts : Parts text} {final : Option (Parts text)}
      → Read text s us n kept (POther (PMaybeTerm x) ∷ parts) final → Read text (N NAME_WITHIN ∷ s) (ts ++ us) n kept parts final
  within_reads not_within k =
      ru RULE_WITHIN_NONE refl (ac ACT_NO_TERM refl k)
  within_reads (within_term w {ts = t0} h0 h1) k =
      ru RULE_WITHIN_SOME refl (tk SET_IN_WORD CLASS_IN_WORD h0 refl (whole_reads text h1 (ac ACT_WORD_TERM refl k)))

  factor_reads : {n : ℕ} {x : Factor} {ts : Tokens} → IsFactor text n x ts → {s : List Symbol} {us : Tokens} {kept : List ℕ} {parts : Parts text} {final : Option (Parts text)}
      → Read text s us n kept (POther (PFactor x) ∷ parts) final → Read text (N NAME_FACTORED ∷ s) (ts ++ us) n kept parts final
  factor_reads (positive k' {ts = t0} h0 h1) k =
      ru RULE_FACTORED_POSITIVE refl (tk_in SET_FACTOR h0 (whole_reads text h1 (ac ACT_POSITIVE refl k)))
  factor_reads (negative s' k' {ts = t0} h0 h1 h2) k =
      ru RULE_FACTORED_NEGATIVE refl (tk SET_MINUS CLASS_MINUS h0 refl (tk_in SET_NEGATIVE_FACTOR h1 (whole_reads text h2 (ac ACT_NEGATIVE refl k))))

  factors_items_read : {n : ℕ} {x : List Factor} {ts : Tokens} → IsItems (IsFactor text n) x ts → {s : List Symbol} {us : Tokens} {kept : List ℕ} {parts : Parts text} {final : Option (Parts text)}
      → Read text (N NAME_MORE_FACTORS ∷ s) us n kept (POther (PFactors x) ∷ parts) final → Read text (N NAME_FACTORS ∷ s) (ts ++ us) n kept (POther (PFactors []) ∷ parts) final
  factors_items_read (first d) k = ru RULE_FACTORS_SOME refl (factor_reads d (ac ACT_FACTOR refl k))
  factors_items_read (next t {ts = ts} {us = vs} d i e) {us = us} k =
      re ts (plain t ∷ vs) us (factors_items_read d (ru RULE_MORE_FACTORS_MORE refl (tk SET_COMMA CLASS_COMMA i refl (factor_reads e (ac ACT_NEXT_FACTOR refl k)))))

  factors_list_reads : {n : ℕ} {x : List Factor} {ts : Tokens} → IsList (IsFactor text n) x ts → {s : List Symbol} {us : Tokens} {kept : List ℕ} {parts : Parts text} {final : Option (Parts text)}
      → Read text s us n kept (POther (PFactors x) ∷ parts) final → Read text (N NAME_FACTORS ∷ s) (ts ++ us) n kept (POther (PFactors []) ∷ parts) final
  factors_list_reads empty k = ru RULE_FACTORS_NONE refl k
  factors_list_reads (items d) k = factors_items_read d (ru RULE_MORE_FACTORS_END refl k)

  mutual
    cert_reads : {n : ℕ} {x : Cert} {ts : Tokens} → IsCert text n x ts → {s : List Symbol} {us : Tokens} {kept : List ℕ} {parts : Parts text} {final : Option (Parts text)}
        → Read text s us n kept (POther (PCert x) ∷ parts) final → Read text (N NAME_CERT ∷ s) (ts ++ us) n kept parts final
    cert_reads (given_word w h0) k =
        ru RULE_CERT_GIVEN refl (tk SET_GIVEN_WORD CLASS_GIVEN_WORD h0 refl (ac ACT_GIVEN refl k))
    cert_reads (by_axiom w k' {ts = t0} h0 h1 h2) k =
        ru RULE_CERT_AXIOM refl (tk SET_AXIOM_WORD CLASS_AXIOM_WORD h0 refl (tk SET_ANY_NUMBER CLASS_NUMBER h1 refl (arguments_read h2 (ac ACT_AXIOM refl k))))
    cert_reads (substitute w {ts = t0} {us = t1} h0 h1 h2) {us = us} k =
        to text (plain w ∷ (t0 ++ (t1 ++ us))) (simp append_assoc) (ru RULE_CERT_SUBST refl (tk SET_SUBST_WORD CLASS_SUBST_WORD h0 refl (sv (equation_reads text h1 (λ m. rs (within_reads h2 (ac ACT_SUBST refl k)))))))
    cert_reads (contra_term w {ts = t0} h0 h1) k =
        ru RULE_CERT_CONTRA refl (tk SET_CONTRA_WORD CLASS_CONTRA_WORD h0 refl (whole_reads text h1 (ac ACT_CONTRA refl k)))
    cert_reads (linear_sums {n = n} w o c p q {ts = t0} {us = t1} h0 h1 h2 h3 h4 h5 h6) {us = us} k =
        to text (plain w ∷ plain o ∷ (t0 ++ (plain c ∷ opens n p ∷ (t1 ++ (plain q ∷ us))))) (simp append_assoc) (ru RULE_CERT_LINEAR refl (tk SET_LINEAR_WORD CLASS_LINEAR_WORD h0 refl (tk SET_L_BRACKET CLASS_L_BRACKET h1 refl (ac ACT_NO_TERMS refl (terms_list_reads h2 (tk SET_R_BRACKET CLASS_R_BRACKET h3 refl (sv (op SET_L_PAREN CLASS_L_PAREN h4 refl (ac ACT_NO_FACTORS refl (factors_list_reads h5 (tk SET_R_PAREN CLASS_R_PAREN h6 refl (rs (ac ACT_LINEAR refl k)))))))))))))
    cert_reads (by_cases {n = n} w o c p q {ts = t0} {us = t1} {vs = t2} h0 h1 h2 h3 h4 h5 h6 h7) {us = us} k =
        to text (plain w ∷ (t0 ++ (opens n o ∷ (t1 ++ (plain c ∷ opens n p ∷ (t2 ++ (plain q ∷ us))))))) (simp append_assoc) (ru RULE_CERT_CASES refl (tk SET_CASES_WORD CLASS_CASES_WORD h0 refl (first_reads text h1 (sv (op SET_L_PAREN CLASS_L_PAREN h2 refl (cert_reads h3 (tk SET_R_PAREN CLASS_R_PAREN h4 refl (rs (sv (op SET_L_PAREN CLASS_L_PAREN h5 refl (cert_reads h6 (tk SET_R_PAREN CLASS_R_PAREN h7 refl (rs (ac ACT_BY_CASES refl k))))))))))))))
    cert_reads (steps_of {n = n} w o c {ts = t0} {us = t1} h0 h1 h2 h3 h4) {us = us} k =
        to text (plain w ∷ opens n o ∷ (t0 ++ (t1 ++ (plain c ∷ us)))) (simp append_assoc) (ru RULE_CERT_STEPS refl (tk SET_STEPS_WORD CLASS_STEPS_WORD h0 refl (sv (op SET_L_BRACE CLASS_L_BRACE h1 refl (ac ACT_NO_HAVES refl (haves_read h2 (ru RULE_HAVES_END refl (cert_reads h3 (tk SET_R_BRACE CLASS_R_BRACE h4 refl (rs (ac ACT_STEPS refl k)))))))))))

    haves_read : {n : ℕ} {x : List Have} {ts : Tokens} → IsHaves text n x ts → {s : List Symbol} {us : Tokens} {kept : List ℕ} {parts : Parts text} {final : Option (Parts text)}
        → Read text (N NAME_HAVES ∷ s) us n kept (POther (PHaves x) ∷ parts) final → Read text (N NAME_HAVES ∷ s) (ts ++ us) n kept (POther (PHaves []) ∷ parts) final
    haves_read no_haves k = k
    haves_read (next_have w b e {ts = ts} {us = vs} {vs = ws} d h1 h2 h3 h4 h5) {us = us} k =
        to text (ts ++ (plain w ∷ (vs ++ (plain b ∷ (ws ++ (plain e ∷ us)))))) (simp append_assoc) (haves_read d (ru RULE_HAVES_MORE refl (tk SET_HAVE_WORD CLASS_HAVE_WORD h1 refl
        (whole_reads text h2 (tk SET_BY_WORD CLASS_BY_WORD h3 refl (cert_reads h4 (tk SET_SEMI CLASS_SEMI h5 refl (ac ACT_STEP_HAVE refl k))))))))

  -- ---- commands

  proof_reads : {n : ℕ} {x : Cert} {ts : Tokens} → IsProof text false n x ts → {s : List Symbol} {us : Tokens} {kept : List ℕ} {parts : Parts text} {final : Option (Parts text)}
      → Read text s us n kept (POther (PCert x) ∷ parts) final → Read text (N NAME_CERT ∷ s) (ts ++ us) n kept parts final
  proof_reads (proved d) k = cert_reads d k

  holey_proof_reads : {n : ℕ} {x : Cert} {ts : Tokens} → IsProof text true n x ts → {s : List Symbol} {us : Tokens} {kept : List ℕ} {parts : Parts text} {final : Option (Parts text)}
      → Read text s us n kept (POther (PCert x) ∷ parts) final → Read text (N NAME_CERT_OR_HOLE ∷ s) (ts ++ us) n kept parts final
  holey_proof_reads (proved {ts = t0} h0) k =
      ru RULE_CERT_OR_HOLE_CERT refl (cert_reads h0 k)
  holey_proof_reads (proof_hole q h0) k =
      ru RULE_CERT_OR_HOLE_HOLE refl (tk SET_HOLE CLASS_HOLE h0 refl (ac ACT_HOLE refl k))

  filling_reads : {n : ℕ} {x : Filling} {ts : Tokens} → IsFilling text false n x ts → {s : List Symbol} {us : Tokens} {kept : List ℕ} {parts : Parts text} {final : Option (Parts text)}
      → Read text s us n kept (POther (PFilling x) ∷ parts) final → Read text (N NAME_IN_TERMS ∷ A ACT_FILLED ∷ s) (ts ++ us) n kept parts final
  filling_reads (filled {n = n} o c {ts = t0} h0 h1 h2) {us = us} k =
      to text (opens n o ∷ (t0 ++ (plain c ∷ us))) (simp append_assoc) (ru RULE_IN_TERMS_PARENS refl (sv (op SET_L_PAREN CLASS_L_PAREN h0 refl (ac ACT_NO_TERMS refl (terms_list_reads h1 (tk SET_R_PAREN CLASS_R_PAREN h2 refl (rs (ac ACT_IN_TERMS refl (ac ACT_FILLED refl k)))))))))

  holey_filling_reads : {n : ℕ} {x : Filling} {ts : Tokens} → IsFilling text true n x ts → {s : List Symbol} {us : Tokens} {kept : List ℕ} {parts : Parts text} {final : Option (Parts text)}
      → Read text s us n kept (POther (PFilling x) ∷ parts) final → Read text (N NAME_FILLING ∷ s) (ts ++ us) n kept parts final
  holey_filling_reads (filled {n = n} o c {ts = t0} h0 h1 h2) {us = us} k =
      to text (opens n o ∷ (t0 ++ (plain c ∷ us))) (simp append_assoc) (ru RULE_FILLING_PARENS refl (sv (op SET_L_PAREN CLASS_L_PAREN h0 refl (ru RULE_FILLED_TERMS refl (ac ACT_NO_TERMS refl (terms_list_reads h1 (tk SET_R_PAREN CLASS_R_PAREN h2 refl (rs (ac ACT_FILLED_PARENS refl k)))))))))
  holey_filling_reads (filling_hole {n = n} o q c h0 h1 h2) k =
      ru RULE_FILLING_PARENS refl (sv (op SET_L_PAREN CLASS_L_PAREN h0 refl (ru RULE_FILLED_HOLE refl (tk SET_HOLE CLASS_HOLE h1 refl (tk SET_R_PAREN CLASS_R_PAREN h2 refl (rs (ac ACT_HOLE_TERMS refl k)))))))

  with_reads : {n : ℕ} {x : List PlacedTerm} {ts : Tokens} → IsWith text n x ts → {s : List Symbol} {us : Tokens} {kept : List ℕ} {parts : Parts text} {final : Option (Parts text)}
      → Read text s us n kept (POther (PTerms x) ∷ parts) final → Read text (N NAME_WITH ∷ s) (ts ++ us) n kept parts final
  with_reads no_with k =
      ru RULE_WITH_NONE refl (ac ACT_NO_TERMS refl k)
  with_reads (with_terms w {ts = t0} h0 h1) k =
      ru RULE_WITH_SOME refl (tk SET_WITH_WORD CLASS_WITH_WORD h0 refl (arguments_read h1 (ac ACT_WORD_TERMS refl k)))

  as_reads : {n : ℕ} {x : List SeenToken} {ts : Tokens} → IsAs text n x ts → {s : List Symbol} {us : Tokens} {kept : List ℕ} {parts : Parts text} {final : Option (Parts text)}
      → Read text s us n kept (POther (PNames x) ∷ parts) final → Read text (N NAME_AS ∷ s) (ts ++ us) n kept parts final
  as_reads no_as k =
      ru RULE_AS_NONE refl (ac ACT_NO_NAMES refl k)
  as_reads (as_names w {ts = t0} h0 h1) k =
      ru RULE_AS_SOME refl (tk SET_AS_WORD CLASS_AS_WORD h0 refl (names_read h1 (ac ACT_WORD_NAMES refl k)))

  ending_reads : {n : ℕ} {x : Option SeenToken} {ts : Tokens} → IsEnding text n x ts → {s : List Symbol} {us : Tokens} {kept : List ℕ} {parts : Parts text} {final : Option (Parts text)}
      → Read text s us n kept (POther (PEnding x) ∷ parts) final → Read text (N NAME_ENDING ∷ s) (ts ++ us) n kept parts final
  ending_reads (closed e h0) k =
      ru RULE_ENDING_SEMI refl (tk SET_SEMI CLASS_SEMI h0 refl (ac ACT_CLOSED refl k))
  ending_reads not_closed k =
      ru RULE_ENDING_NONE refl (ac ACT_NOT_CLOSED refl k)

  mutual
    simple_reads : {n : ℕ} {x : Command} {ts : Tokens} → IsSimple text n x ts → {s : List Symbol} {us : Tokens} {kept : List ℕ} {parts : Parts text} {final : Option (Parts text)}
        → Read text s us n kept (POther (PCommand x) ∷ parts) final → Read text (N NAME_SIMPLE ∷ s) (ts ++ us) n kept parts final
    simple_reads (on_atom w {ts = t0} h0 h1) k =
        ru RULE_SIMPLE_ON_ATOM refl (tk SET_ON_ATOM_WORD CLASS_ON_ATOM_WORD h0 refl (atom_reads h1 (ac ACT_ON_ATOM refl k)))
    simple_reads (let_be w i q {ts = t0} h0 h1 h2 h3) k =
        ru RULE_SIMPLE_LET refl (tk SET_LET_WORD CLASS_LET_WORD h0 refl (tk_in SET_ID h1 (tk SET_ASSIGN CLASS_ASSIGN h2 refl (whole_reads text h3 (ac ACT_LET refl k)))))
    simple_reads (rewrite_to w q {ts = t0} {us = t1} h0 h1 h2 h3) {us = us} k =
        to text (plain w ∷ (t0 ++ (plain q ∷ (t1 ++ us)))) (simp append_assoc) (ru RULE_SIMPLE_REWRITE refl (tk SET_REWRITE_WORD CLASS_REWRITE_WORD h0 refl (whole_reads text h1 (tk SET_TO_WORD CLASS_TO_WORD h2 refl (whole_reads text h3 (ac ACT_REWRITE refl k))))))
    simple_reads (clash_of w {ts = t0} h0 h1) k =
        ru RULE_SIMPLE_CLASH refl (tk SET_CLASH_WORD CLASS_CLASH_WORD h0 refl (ac ACT_NO_ATOMS refl (atoms_all_read h1 (ac ACT_CLASH refl k))))
    simple_reads (on_pair w s' {ts = t0} {us = t1} h0 h1 h2 h3) {us = us} k =
        to text (plain w ∷ (t0 ++ (plain s' ∷ (t1 ++ us)))) (simp append_assoc) (ru RULE_SIMPLE_ON_PAIR refl (tk SET_ON_PAIR_WORD CLASS_ON_PAIR_WORD h0 refl (atom_reads h1 (tk SET_COMMA CLASS_COMMA h2 refl (atom_reads h3 (ac ACT_ON_PAIR refl k))))))
    simple_reads (halves_new w v q i {ts = t0} h0 h1 h2 h3 h4) {us = us} k =
        to text (plain w ∷ plain v ∷ (t0 ++ (plain q ∷ plain i ∷ us))) (simp append_assoc) (ru RULE_SIMPLE_HALVES refl (tk SET_HALVES_WORD CLASS_HALVES_WORD h0 refl (ru RULE_HALVES_NEW refl (tk SET_NEW_WORD CLASS_NEW_WORD h1 refl (whole_reads text h2 (tk SET_AS_WORD CLASS_AS_WORD h3 refl (tk_in SET_ID h4 (ac ACT_HALVES_NEW refl k))))))))
    simple_reads (halves_set w v {ts = t0} {us = t1} h0 h1 h2 h3) {us = us} k =
        to text (plain w ∷ plain v ∷ (t0 ++ (t1 ++ us))) (simp append_assoc) (ru RULE_SIMPLE_HALVES refl (tk SET_HALVES_WORD CLASS_HALVES_WORD h0 refl (ru RULE_HALVES_SET refl (tk SET_SET_WORD CLASS_SET_WORD h1 refl (first_reads text h2 (second_reads text h3 (ac ACT_HALVES_SET refl k)))))))
    simple_reads (split_at w q {ts = t0} {us = t1} h0 h1 h2 h3) {us = us} k =
        to text (plain w ∷ (t0 ++ (plain q ∷ (t1 ++ us)))) (simp append_assoc) (ru RULE_SIMPLE_SPLIT refl (tk SET_SPLIT_PART_WORD CLASS_SPLIT_PART_WORD h0 refl (atom_reads h1 (tk SET_AT_WORD CLASS_AT_WORD h2 refl (whole_reads text h3 (ac ACT_AT refl k))))))
    simple_reads (map_each w q p i {ts = t0} {us = t1} {vs = t2} h0 h1 h2 h3 h4 h5 h6) {us = us} k =
        to text (plain w ∷ (t0 ++ (plain q ∷ (t1 ++ (plain p ∷ plain i ∷ (t2 ++ us)))))) (simp append_assoc) (ru RULE_SIMPLE_MAP refl (tk SET_MAP_WORD CLASS_MAP_WORD h0 refl (atoms_read h1 (tk SET_TO_WORD CLASS_TO_WORD h2 refl (atoms_read h3 (tk SET_WITH_WORD CLASS_WITH_WORD h4 refl (tk_in SET_ID h5 (block_reads h6 (ac ACT_MAP refl k)))))))))
    simple_reads (alone_word w h0) k =
        ru RULE_SIMPLE_ALONE refl (tk SET_ALONE_WORD CLASS_ALONE_WORD h0 refl (ac ACT_ALONE refl k))
    simple_reads (sim_call w {ts = t0} {us = t1} h0 h1 h2) {us = us} k =
        to text (plain w ∷ (t0 ++ (t1 ++ us))) (simp append_assoc) (ru RULE_SIMPLE_SIM refl (tk SET_SIM_WORD CLASS_SIM_WORD h0 refl (whole_reads text h1 (with_reads h2 (ac ACT_SIM refl k)))))
    simple_reads (on_block w {ts = t0} h0 h1) k =
        ru RULE_SIMPLE_ON_BLOCK refl (tk_in SET_ON_BLOCK h0 (block_reads h1 (ac ACT_ON_BLOCK refl k)))
    simple_reads (boot_with w {ts = t0} h0 h1) k =
        ru RULE_SIMPLE_BOOT refl (tk SET_BOOT_WORD CLASS_BOOT_WORD h0 refl (with_reads h1 (ac ACT_BOOT refl k)))
    simple_reads (guard_with w {ts = t0} {us = t1} h0 h1 h2) {us = us} k =
        to text (plain w ∷ (t0 ++ (t1 ++ us))) (simp append_assoc) (ru RULE_SIMPLE_GUARD refl (tk SET_GUARD_WORD CLASS_GUARD_WORD h0 refl (first_reads text h1 (inst_reads h2 (ac ACT_GUARD refl k)))))
    simple_reads (set_book w i q {ts = t0} {us = t1} h0 h1 h2 h3 h4) {us = us} k =
        to text (plain w ∷ plain i ∷ (t0 ++ (plain q ∷ (t1 ++ us)))) (simp append_assoc) (ru RULE_SIMPLE_BOOK refl (tk SET_BOOK_WORD CLASS_BOOK_WORD h0 refl (tk_in SET_ID h1 (whole_reads text h2 (tk SET_TO_WORD CLASS_TO_WORD h3 refl (whole_reads text h4 (ac ACT_SET_BOOK refl k)))))))
    simple_reads (forget_block w q {ts = t0} {us = t1} {vs = t2} h0 h1 h2 h3 h4) {us = us} k =
        to text (plain w ∷ (t0 ++ (t1 ++ (plain q ∷ (t2 ++ us))))) (simp append_assoc) (ru RULE_SIMPLE_FORGET refl (tk SET_FORGET_WORD CLASS_FORGET_WORD h0 refl (first_reads text h1 (second_reads text h2 (tk SET_TO_WORD CLASS_TO_WORD h3 refl (whole_reads text h4 (ac ACT_FORGET refl k)))))))
    simple_reads (to_cut w i {ts = t0} h0 h1 h2) k =
        ru RULE_SIMPLE_TO refl (tk SET_TO_WORD CLASS_TO_WORD h0 refl (tk_in SET_ID h1 (arguments_read h2 (ac ACT_TO refl k))))
    simple_reads (merge_to w s' q {ts = t0} {us = t1} {vs = t2} h0 h1 h2 h3 h4 h5) {us = us} k =
        to text (plain w ∷ (t0 ++ (plain s' ∷ (t1 ++ (plain q ∷ (t2 ++ us)))))) (simp append_assoc) (ru RULE_SIMPLE_MERGE refl (tk SET_MERGE_WORD CLASS_MERGE_WORD h0 refl (atom_reads h1 (tk SET_COMMA CLASS_COMMA h2 refl (atom_reads h3 (tk SET_TO_WORD CLASS_TO_WORD h4 refl (whole_reads text h5 (ac ACT_MERGE refl k))))))))
    simple_reads (void_of w i h0 h1) k =
        ru RULE_SIMPLE_VOID refl (tk SET_VOID_WORD CLASS_VOID_WORD h0 refl (tk_in SET_VOID_ITEM h1 (ac ACT_VOID refl k)))
    simple_reads (yield_spare {n = n} w s' q f o r v c {ts = t0} {us = t1} {vs = t2} {ws = t3} {xs = t4} h0 h1 h2 h3 h4 h5 h6 h7 h8 h9 h10 h11 h12) {us = us} k =
        to text (plain w ∷ (t0 ++ (plain s' ∷ (t1 ++ (plain q ∷ plain f ∷ opens n o ∷ (t2 ++ (plain r ∷ (t3 ++ (plain v ∷ (t4 ++ (plain c ∷ us))))))))))) (simp append_assoc) (ru RULE_SIMPLE_YIELD refl (tk SET_YIELD_WORD CLASS_YIELD_WORD h0 refl (atom_reads h1 (tk SET_COMMA CLASS_COMMA h2 refl (atom_reads h3 (tk SET_TO_WORD CLASS_TO_WORD h4 refl (tk SET_SL_WORD CLASS_SL_WORD h5 refl (sv (op SET_L_PAREN CLASS_L_PAREN h6 refl (whole_reads text h7 (tk SET_COMMA CLASS_COMMA h8 refl (whole_reads text h9 (tk SET_COMMA CLASS_COMMA h10 refl (whole_reads text h11 (tk SET_R_PAREN CLASS_R_PAREN h12 refl (rs (ac ACT_YIELD refl k)))))))))))))))))

    during_reads : {n : ℕ} {x : Option Block} {ts : Tokens} → IsDuring text n x ts → {s : List Symbol} {us : Tokens} {kept : List ℕ} {parts : Parts text} {final : Option (Parts text)}
        → Read text s us n kept (POther (PMaybeBlock x) ∷ parts) final → Read text (N NAME_DURING ∷ s) (ts ++ us) n kept parts final
    during_reads no_during k =
        ru RULE_DURING_NONE refl (ac ACT_NO_DURING refl k)
    during_reads (during_block w {ts = t0} h0 h1) k =
        ru RULE_DURING_SOME refl (tk SET_DURING_WORD CLASS_DURING_WORD h0 refl (block_reads h1 (ac ACT_DURING refl k)))

    plain_reads : {n : ℕ} {x : Command} {ts : Tokens} → IsPlain text false n x ts → (e : SeenToken) → Is CLASS_SEMI e → {xs : List Command} {s : List Symbol} {us : Tokens} {kept : List ℕ} {parts : Parts text} {final : Option (Parts text)}
        → Read text (N NAME_COMMANDS ∷ s) us n kept (POther (PCommands (xs ++ x ∷ [])) ∷ parts) final → Read text (N NAME_COMMANDS ∷ s) (ts ++ (plain e ∷ us)) n kept (POther (PCommands xs) ∷ parts) final
    plain_reads (simple {ts = t0} h0) e g k =
        ru RULE_COMMANDS_PLAIN refl (ru RULE_PLAIN_SIMPLE refl (simple_reads h0 (tk SET_SEMI CLASS_SEMI g refl (ac ACT_COMMAND refl k))))
    plain_reads (have_by w b {ts = t0} {us = t1} h0 h1 h2 h3) e g {us = us} k =
        to text (plain w ∷ (t0 ++ (plain b ∷ (t1 ++ (plain e ∷ us))))) (simp append_assoc) (ru RULE_COMMANDS_PLAIN refl (ru RULE_PLAIN_HAVE refl (tk SET_HAVE_WORD CLASS_HAVE_WORD h0 refl (whole_reads text h1 (tk SET_BY_WORD CLASS_BY_WORD h2 refl (proof_reads h3 (ac ACT_HAVE refl (tk SET_SEMI CLASS_SEMI g refl (ac ACT_COMMAND refl k)))))))))
    plain_reads (absurd_by w b {ts = t0} h0 h1 h2) e g k =
        ru RULE_COMMANDS_PLAIN refl (ru RULE_PLAIN_ABSURD refl (tk SET_ABSURD_WORD CLASS_ABSURD_WORD h0 refl (tk SET_BY_WORD CLASS_BY_WORD h1 refl (proof_reads h2 (ac ACT_ABSURD refl (tk SET_SEMI CLASS_SEMI g refl (ac ACT_COMMAND refl k)))))))
    plain_reads (fold_inst w k' {ts = t0} {us = t1} h0 h1 h2 h3) e g {us = us} k =
        to text (plain w ∷ (t0 ++ (plain k' ∷ (t1 ++ (plain e ∷ us))))) (simp append_assoc) (ru RULE_COMMANDS_PLAIN refl (ru RULE_PLAIN_FOLD refl (tk SET_FOLD_WORD CLASS_FOLD_WORD h0 refl (inst_reads h1 (tk SET_ANY_NUMBER CLASS_NUMBER h2 refl (filling_reads h3 (ac ACT_FOLD refl (tk SET_SEMI CLASS_SEMI g refl (ac ACT_COMMAND refl k)))))))))
    plain_reads (take_at w q {ts = t0} {us = t1} h0 h1 h2 h3) e g {us = us} k =
        to text (plain w ∷ (t0 ++ (plain q ∷ (t1 ++ (plain e ∷ us))))) (simp append_assoc) (ru RULE_COMMANDS_PLAIN refl (ru RULE_PLAIN_TAKE refl (tk_in SET_TAKE_PUT h0 (atom_reads h1 (tk SET_AT_WORD CLASS_AT_WORD h2 refl (whole_reads text h3 (ac ACT_AT refl (tk SET_SEMI CLASS_SEMI g refl (ac ACT_COMMAND refl k)))))))))
    plain_reads (unfold_inst w {ts = t0} {us = t1} h0 h1 h2) e g {us = us} k =
        to text (plain w ∷ (t0 ++ (t1 ++ (plain e ∷ us)))) (simp append_assoc) (ru RULE_COMMANDS_UNFOLD refl (tk SET_UNFOLD_WORD CLASS_UNFOLD_WORD h0 refl (inst_reads h1 (ru RULE_UNFOLD_NAMES refl (names_read h2 (ac ACT_UNFOLD refl (tk SET_SEMI CLASS_SEMI g refl (ac ACT_COMMAND refl k))))))))
    plain_reads (step_alone w {ts = t0} {us = t1} {vs = t2} h0 h1 h2 h3) e g {us = us} k =
        to text (plain w ∷ (t0 ++ (t1 ++ (t2 ++ (plain e ∷ us))))) (simp append_assoc) (ru RULE_COMMANDS_STEP refl (tk SET_STEP_WORD CLASS_STEP_WORD h0 refl (with_reads h1 (as_reads h2 (during_reads h3 (ru RULE_STEP_PLAIN refl (ac ACT_NO_BLOCKS refl (ac ACT_STEP refl (tk SET_SEMI CLASS_SEMI g refl (ac ACT_COMMAND refl k))))))))))

    last_reads : {n : ℕ} {x : Command} {ts : Tokens} → IsLast text false n x ts → {b : Option SeenToken} {vs : Tokens} → IsEnding text n b vs → {xs : List Command} {s : List Symbol} {us : Tokens} {kept : List ℕ} {parts : Parts text} {final : Option (Parts text)}
        → Read text s us n kept (POther (PCommands (xs ++ x ∷ [])) ∷ parts) final → Read text (N NAME_COMMANDS ∷ s) (ts ++ (vs ++ us)) n kept (POther (PCommands xs) ∷ parts) final
    last_reads (unfold_arms w {ts = t0} {us = t1} h0 h1 h2) {vs = zs} g {us = us} k =
        to text (plain w ∷ (t0 ++ (t1 ++ (zs ++ us)))) (simp append_assoc) (ru RULE_COMMANDS_UNFOLD refl (tk SET_UNFOLD_WORD CLASS_UNFOLD_WORD h0 refl (inst_reads h1 (ru RULE_UNFOLD_ARMS refl (ac ACT_NO_ARMS refl (arms_read h2 (ru RULE_ARMS_END refl (ac ACT_UNFOLD_ARMS refl (ending_reads g (ac ACT_LAST refl k))))))))))
    last_reads (cases_of w {ts = t0} {us = t1} {vs = t2} h0 h1 h2 h3) {vs = zs} g {us = us} k =
        to text (plain w ∷ (t0 ++ (t1 ++ (t2 ++ (zs ++ us))))) (simp append_assoc) (ru RULE_COMMANDS_CASES refl (tk SET_CASES_WORD CLASS_CASES_WORD h0 refl (whole_reads text h1 (block_reads h2 (block_reads h3 (ac ACT_CASES refl (ending_reads g (ac ACT_LAST refl k))))))))
    last_reads (step_blocks w {ts = t0} {us = t1} {vs = t2} {ws = t3} h0 h1 h2 h3 h4) {vs = zs} g {us = us} k =
        to text (plain w ∷ (t0 ++ (t1 ++ (t2 ++ (t3 ++ (zs ++ us)))))) (simp append_assoc) (ru RULE_COMMANDS_STEP refl (tk SET_STEP_WORD CLASS_STEP_WORD h0 refl (with_reads h1 (as_reads h2 (during_reads h3 (ru RULE_STEP_BLOCKS refl (ac ACT_NO_BLOCKS refl (blocks_read h4 (ru RULE_BLOCKS_END refl (ac ACT_STEP refl (ending_reads g (ac ACT_LAST refl k))))))))))))

    commands_read : {n : ℕ} {x : List Command} {ts : Tokens} → IsCommands text false n x ts → {s : List Symbol} {us : Tokens} {kept : List ℕ} {parts : Parts text} {final : Option (Parts text)}
        → Read text (N NAME_COMMANDS ∷ s) us n kept (POther (PCommands x) ∷ parts) final → Read text (N NAME_COMMANDS ∷ s) (ts ++ us) n kept (POther (PCommands []) ∷ parts) final
    commands_read no_commands k = k
    commands_read (next_command e {ts = ts} {us = vs} d c i) {us = us} k =
        to text (ts ++ (vs ++ (plain e ∷ us))) (simp append_assoc) (commands_read d (plain_reads c e i k))

    body_reads : {n : ℕ} {x : List Command} {ts : Tokens} → IsBody text false n x ts → {s : List Symbol} {us : Tokens} {kept : List ℕ} {parts : Parts text} {final : Option (Parts text)}
        → Read text s us n kept (POther (PCommands x) ∷ parts) final → Read text (N NAME_COMMANDS ∷ s) (ts ++ us) n kept (POther (PCommands []) ∷ parts) final
    body_reads (all_plain d) k = commands_read d (ru RULE_COMMANDS_END refl k)
    body_reads (with_last {ts = ts} {us = vs} {vs = ws} d c e) {us = us} k =
        to text (ts ++ (vs ++ (ws ++ us))) (simp append_assoc) (commands_read d (last_reads c e k))

    block_reads : {n : ℕ} {x : Block} {ts : Tokens} → IsBlock text false n x ts → {s : List Symbol} {us : Tokens} {kept : List ℕ} {parts : Parts text} {final : Option (Parts text)}
        → Read text s us n kept (POther (PBlock x) ∷ parts) final → Read text (N NAME_BLOCK ∷ s) (ts ++ us) n kept parts final
    block_reads (block_of {n = n} o c {ts = t0} h0 h1 h2) {us = us} k =
        to text (opens n o ∷ (t0 ++ (plain c ∷ us))) (simp append_assoc) (ru RULE_BLOCK_BRACES refl (sv (op SET_L_BRACE CLASS_L_BRACE h0 refl (ac ACT_NO_COMMANDS refl (body_reads h1 (tk SET_R_BRACE CLASS_R_BRACE h2 refl (rs (ac ACT_BLOCK refl k))))))))

    arm_reads : {n : ℕ} {x : Arm} {ts : Tokens} → IsArm text false n x ts → {s : List Symbol} {us : Tokens} {kept : List ℕ} {parts : Parts text} {final : Option (Parts text)}
        → Read text s us n kept (POther (PArm x) ∷ parts) final → Read text (N NAME_ARM ∷ s) (ts ++ us) n kept parts final
    arm_reads (arm_of {n = n} o c {ts = t0} {us = t1} h0 h1 h2 h3) {us = us} k =
        to text (opens n o ∷ (t0 ++ (t1 ++ (plain c ∷ us)))) (simp append_assoc) (ru RULE_ARM_BRACES refl (sv (op SET_L_BRACE CLASS_L_BRACE h0 refl (names_read h1 (ac ACT_NO_COMMANDS refl (body_reads h2 (tk SET_R_BRACE CLASS_R_BRACE h3 refl (rs (ac ACT_ARM refl k)))))))))

    arms_read : {n : ℕ} {x : List Arm} {ts : Tokens} → IsArms text false n x ts → {s : List Symbol} {us : Tokens} {kept : List ℕ} {parts : Parts text} {final : Option (Parts text)}
        → Read text (N NAME_ARMS ∷ s) us n kept (POther (PArms x) ∷ parts) final → Read text (N NAME_ARM ∷ A ACT_NEXT_ARM ∷ N NAME_ARMS ∷ s) (ts ++ us) n kept (POther (PArms []) ∷ parts) final
    arms_read (first_arm d) k = arm_reads d (ac ACT_NEXT_ARM refl k)
    arms_read (next_arm {ts = ts} {us = vs} d e) {us = us} k = re ts vs us (arms_read d (ru RULE_ARMS_MORE refl (arm_reads e (ac ACT_NEXT_ARM refl k))))

    blocks_read : {n : ℕ} {x : List Block} {ts : Tokens} → IsBlocks text false n x ts → {s : List Symbol} {us : Tokens} {kept : List ℕ} {parts : Parts text} {final : Option (Parts text)}
        → Read text (N NAME_BLOCKS ∷ s) us n kept (POther (PBlocks x) ∷ parts) final → Read text (N NAME_BLOCK ∷ A ACT_NEXT_BLOCK ∷ N NAME_BLOCKS ∷ s) (ts ++ us) n kept (POther (PBlocks []) ∷ parts) final
    blocks_read (first_block d) k = block_reads d (ac ACT_NEXT_BLOCK refl k)
    blocks_read (next_block {ts = ts} {us = vs} d e) {us = us} k = re ts vs us (blocks_read d (ru RULE_BLOCKS_MORE refl (block_reads e (ac ACT_NEXT_BLOCK refl k))))

    holey_plain_reads : {n : ℕ} {x : Command} {ts : Tokens} → IsPlain text true n x ts → (e : SeenToken) → Is CLASS_SEMI e → {xs : List Command} {s : List Symbol} {us : Tokens} {kept : List ℕ} {parts : Parts text} {final : Option (Parts text)}
        → Read text (N NAME_HOLEY_COMMANDS ∷ s) us n kept (POther (PCommands (xs ++ x ∷ [])) ∷ parts) final → Read text (N NAME_HOLEY_COMMANDS ∷ s) (ts ++ (plain e ∷ us)) n kept (POther (PCommands xs) ∷ parts) final
    holey_plain_reads (simple {ts = t0} h0) e g k =
        ru RULE_HOLEY_COMMANDS_PLAIN refl (ru RULE_HOLEY_PLAIN_SIMPLE refl (simple_reads h0 (tk SET_SEMI CLASS_SEMI g refl (ac ACT_COMMAND refl k))))
    holey_plain_reads (have_by w b {ts = t0} {us = t1} h0 h1 h2 h3) e g {us = us} k =
        to text (plain w ∷ (t0 ++ (plain b ∷ (t1 ++ (plain e ∷ us))))) (simp append_assoc) (ru RULE_HOLEY_COMMANDS_PLAIN refl (ru RULE_HOLEY_PLAIN_HAVE refl (tk SET_HAVE_WORD CLASS_HAVE_WORD h0 refl (whole_reads text h1 (tk SET_BY_WORD CLASS_BY_WORD h2 refl (holey_proof_reads h3 (ac ACT_HAVE refl (tk SET_SEMI CLASS_SEMI g refl (ac ACT_COMMAND refl k)))))))))
    holey_plain_reads (absurd_by w b {ts = t0} h0 h1 h2) e g k =
        ru RULE_HOLEY_COMMANDS_PLAIN refl (ru RULE_HOLEY_PLAIN_ABSURD refl (tk SET_ABSURD_WORD CLASS_ABSURD_WORD h0 refl (tk SET_BY_WORD CLASS_BY_WORD h1 refl (holey_proof_reads h2 (ac ACT_ABSURD refl (tk SET_SEMI CLASS_SEMI g refl (ac ACT_COMMAND refl k)))))))
    holey_plain_reads (fold_inst w k' {ts = t0} {us = t1} h0 h1 h2 h3) e g {us = us} k =
        to text (plain w ∷ (t0 ++ (plain k' ∷ (t1 ++ (plain e ∷ us))))) (simp append_assoc) (ru RULE_HOLEY_COMMANDS_PLAIN refl (ru RULE_HOLEY_PLAIN_FOLD refl (tk SET_FOLD_WORD CLASS_FOLD_WORD h0 refl (inst_reads h1 (tk SET_ANY_NUMBER CLASS_NUMBER h2 refl (holey_filling_reads h3 (ac ACT_FOLD refl (tk SET_SEMI CLASS_SEMI g refl (ac ACT_COMMAND refl k)))))))))
    holey_plain_reads (take_at w q {ts = t0} {us = t1} h0 h1 h2 h3) e g {us = us} k =
        to text (plain w ∷ (t0 ++ (plain q ∷ (t1 ++ (plain e ∷ us))))) (simp append_assoc) (ru RULE_HOLEY_COMMANDS_PLAIN refl (ru RULE_HOLEY_PLAIN_TAKE refl (tk_in SET_TAKE_PUT h0 (ru RULE_TAKEN_ATOM refl (atom_reads h1 (tk SET_AT_WORD CLASS_AT_WORD h2 refl (whole_reads text h3 (ac ACT_AT refl (tk SET_SEMI CLASS_SEMI g refl (ac ACT_COMMAND refl k))))))))))
    holey_plain_reads (take_hole w o q {ts = t0} h0 h1 h2 h3) e g k =
        ru RULE_HOLEY_COMMANDS_PLAIN refl (ru RULE_HOLEY_PLAIN_TAKE refl (tk_in SET_TAKE_PUT h0 (ru RULE_TAKEN_HOLE refl (tk SET_HOLE CLASS_HOLE h1 refl (tk SET_AT_WORD CLASS_AT_WORD h2 refl (whole_reads text h3 (ac ACT_AT_HOLE refl (tk SET_SEMI CLASS_SEMI g refl (ac ACT_COMMAND refl k)))))))))
    holey_plain_reads (unfold_inst w {ts = t0} {us = t1} h0 h1 h2) e g {us = us} k =
        to text (plain w ∷ (t0 ++ (t1 ++ (plain e ∷ us)))) (simp append_assoc) (ru RULE_HOLEY_COMMANDS_UNFOLD refl (tk SET_UNFOLD_WORD CLASS_UNFOLD_WORD h0 refl (inst_reads h1 (ru RULE_HOLEY_UNFOLD_NAMES refl (names_read h2 (ac ACT_UNFOLD refl (tk SET_SEMI CLASS_SEMI g refl (ac ACT_COMMAND refl k))))))))
    holey_plain_reads (step_alone w {ts = t0} {us = t1} {vs = t2} h0 h1 h2 h3) e g {us = us} k =
        to text (plain w ∷ (t0 ++ (t1 ++ (t2 ++ (plain e ∷ us))))) (simp append_assoc) (ru RULE_HOLEY_COMMANDS_STEP refl (tk SET_STEP_WORD CLASS_STEP_WORD h0 refl (with_reads h1 (as_reads h2 (during_reads h3 (ru RULE_HOLEY_STEP_PLAIN refl (ac ACT_NO_BLOCKS refl (ac ACT_STEP refl (tk SET_SEMI CLASS_SEMI g refl (ac ACT_COMMAND refl k))))))))))

    holey_last_reads : {n : ℕ} {x : Command} {ts : Tokens} → IsLast text true n x ts → {b : Option SeenToken} {vs : Tokens} → IsEnding text n b vs → {xs : List Command} {s : List Symbol} {us : Tokens} {kept : List ℕ} {parts : Parts text} {final : Option (Parts text)}
        → Read text s us n kept (POther (PCommands (xs ++ x ∷ [])) ∷ parts) final → Read text (N NAME_HOLEY_COMMANDS ∷ s) (ts ++ (vs ++ us)) n kept (POther (PCommands xs) ∷ parts) final
    holey_last_reads (unfold_arms w {ts = t0} {us = t1} h0 h1 h2) {vs = zs} g {us = us} k =
        to text (plain w ∷ (t0 ++ (t1 ++ (zs ++ us)))) (simp append_assoc) (ru RULE_HOLEY_COMMANDS_UNFOLD refl (tk SET_UNFOLD_WORD CLASS_UNFOLD_WORD h0 refl (inst_reads h1 (ru RULE_HOLEY_UNFOLD_ARMS refl (ac ACT_NO_ARMS refl (holey_arms_read h2 (ru RULE_HOLEY_ARMS_END refl (ac ACT_UNFOLD_ARMS refl (ending_reads g (ac ACT_LAST refl k))))))))))
    holey_last_reads (cases_of w {ts = t0} {us = t1} {vs = t2} h0 h1 h2 h3) {vs = zs} g {us = us} k =
        to text (plain w ∷ (t0 ++ (t1 ++ (t2 ++ (zs ++ us))))) (simp append_assoc) (ru RULE_HOLEY_COMMANDS_CASES refl (tk SET_CASES_WORD CLASS_CASES_WORD h0 refl (whole_reads text h1 (holey_block_reads h2 (holey_block_reads h3 (ac ACT_CASES refl (ending_reads g (ac ACT_LAST refl k))))))))
    holey_last_reads (step_blocks w {ts = t0} {us = t1} {vs = t2} {ws = t3} h0 h1 h2 h3 h4) {vs = zs} g {us = us} k =
        to text (plain w ∷ (t0 ++ (t1 ++ (t2 ++ (t3 ++ (zs ++ us)))))) (simp append_assoc) (ru RULE_HOLEY_COMMANDS_STEP refl (tk SET_STEP_WORD CLASS_STEP_WORD h0 refl (with_reads h1 (as_reads h2 (during_reads h3 (ru RULE_HOLEY_STEP_BLOCKS refl (ac ACT_NO_BLOCKS refl (holey_blocks_read h4 (ru RULE_HOLEY_BLOCKS_END refl (ac ACT_STEP refl (ending_reads g (ac ACT_LAST refl k))))))))))))

    holey_commands_read : {n : ℕ} {x : List Command} {ts : Tokens} → IsCommands text true n x ts → {s : List Symbol} {us : Tokens} {kept : List ℕ} {parts : Parts text} {final : Option (Parts text)}
        → Read text (N NAME_HOLEY_COMMANDS ∷ s) us n kept (POther (PCommands x) ∷ parts) final → Read text (N NAME_HOLEY_COMMANDS ∷ s) (ts ++ us) n kept (POther (PCommands []) ∷ parts) final
    holey_commands_read no_commands k = k
    holey_commands_read (next_command e {ts = ts} {us = vs} d c i) {us = us} k =
        to text (ts ++ (vs ++ (plain e ∷ us))) (simp append_assoc) (holey_commands_read d (holey_plain_reads c e i k))

    holey_body_reads : {n : ℕ} {x : List Command} {ts : Tokens} → IsBody text true n x ts → {s : List Symbol} {us : Tokens} {kept : List ℕ} {parts : Parts text} {final : Option (Parts text)}
        → Read text s us n kept (POther (PCommands x) ∷ parts) final → Read text (N NAME_HOLEY_COMMANDS ∷ s) (ts ++ us) n kept (POther (PCommands []) ∷ parts) final
    holey_body_reads (all_plain d) k = holey_commands_read d (ru RULE_HOLEY_COMMANDS_END refl k)
    holey_body_reads (with_last {ts = ts} {us = vs} {vs = ws} d c e) {us = us} k =
        to text (ts ++ (vs ++ (ws ++ us))) (simp append_assoc) (holey_commands_read d (holey_last_reads c e k))

    holey_block_reads : {n : ℕ} {x : Block} {ts : Tokens} → IsBlock text true n x ts → {s : List Symbol} {us : Tokens} {kept : List ℕ} {parts : Parts text} {final : Option (Parts text)}
        → Read text s us n kept (POther (PBlock x) ∷ parts) final → Read text (N NAME_HOLEY_BLOCK ∷ s) (ts ++ us) n kept parts final
    holey_block_reads (block_of {n = n} o c {ts = t0} h0 h1 h2) {us = us} k =
        to text (opens n o ∷ (t0 ++ (plain c ∷ us))) (simp append_assoc) (ru RULE_HOLEY_BLOCK_BRACES refl (sv (op SET_L_BRACE CLASS_L_BRACE h0 refl (ac ACT_NO_COMMANDS refl (holey_body_reads h1 (tk SET_R_BRACE CLASS_R_BRACE h2 refl (rs (ac ACT_BLOCK refl k))))))))

    holey_arm_reads : {n : ℕ} {x : Arm} {ts : Tokens} → IsArm text true n x ts → {s : List Symbol} {us : Tokens} {kept : List ℕ} {parts : Parts text} {final : Option (Parts text)}
        → Read text s us n kept (POther (PArm x) ∷ parts) final → Read text (N NAME_HOLEY_ARM ∷ s) (ts ++ us) n kept parts final
    holey_arm_reads (arm_of {n = n} o c {ts = t0} {us = t1} h0 h1 h2 h3) {us = us} k =
        to text (opens n o ∷ (t0 ++ (t1 ++ (plain c ∷ us)))) (simp append_assoc) (ru RULE_HOLEY_ARM_BRACES refl (sv (op SET_L_BRACE CLASS_L_BRACE h0 refl (names_read h1 (ac ACT_NO_COMMANDS refl (holey_body_reads h2 (tk SET_R_BRACE CLASS_R_BRACE h3 refl (rs (ac ACT_ARM refl k)))))))))

    holey_arms_read : {n : ℕ} {x : List Arm} {ts : Tokens} → IsArms text true n x ts → {s : List Symbol} {us : Tokens} {kept : List ℕ} {parts : Parts text} {final : Option (Parts text)}
        → Read text (N NAME_HOLEY_ARMS ∷ s) us n kept (POther (PArms x) ∷ parts) final → Read text (N NAME_HOLEY_ARM ∷ A ACT_NEXT_ARM ∷ N NAME_HOLEY_ARMS ∷ s) (ts ++ us) n kept (POther (PArms []) ∷ parts) final
    holey_arms_read (first_arm d) k = holey_arm_reads d (ac ACT_NEXT_ARM refl k)
    holey_arms_read (next_arm {ts = ts} {us = vs} d e) {us = us} k = re ts vs us (holey_arms_read d (ru RULE_HOLEY_ARMS_MORE refl (holey_arm_reads e (ac ACT_NEXT_ARM refl k))))

    holey_blocks_read : {n : ℕ} {x : List Block} {ts : Tokens} → IsBlocks text true n x ts → {s : List Symbol} {us : Tokens} {kept : List ℕ} {parts : Parts text} {final : Option (Parts text)}
        → Read text (N NAME_HOLEY_BLOCKS ∷ s) us n kept (POther (PBlocks x) ∷ parts) final → Read text (N NAME_HOLEY_BLOCK ∷ A ACT_NEXT_BLOCK ∷ N NAME_HOLEY_BLOCKS ∷ s) (ts ++ us) n kept (POther (PBlocks []) ∷ parts) final
    holey_blocks_read (first_block d) k = holey_block_reads d (ac ACT_NEXT_BLOCK refl k)
    holey_blocks_read (next_block {ts = ts} {us = vs} d e) {us = us} k = re ts vs us (holey_blocks_read d (ru RULE_HOLEY_BLOCKS_MORE refl (holey_block_reads e (ac ACT_NEXT_BLOCK refl k))))

  -- ---- declarations

  case_reads : {n : ℕ} {x : Case} {ts : Tokens} → IsCase text n x ts → {s : List Symbol} {us : Tokens} {kept : List ℕ} {parts : Parts text} {final : Option (Parts text)}
      → Read text s us n kept (POther (PCase x) ∷ parts) final → Read text (N NAME_CASE ∷ s) (ts ++ us) n kept parts final
  case_reads (case_of w {ts = t0} {us = t1} h0 h1 h2) {us = us} k =
      to text (plain w ∷ (t0 ++ (t1 ++ us))) (simp append_assoc) (ru RULE_CASE_CASE refl (tk SET_CASE_WORD CLASS_CASE_WORD h0 refl (pars_read h1 (heap_reads h2 (ac ACT_CASE refl k)))))

  several_cases_go : {n : ℕ} {x : List Case} {ts : Tokens} → IsSeveral (IsCase text n) x ts → {s : List Symbol} {us : Tokens} {kept : List ℕ} {parts : Parts text} {final : Option (Parts text)}
      → Read text (N NAME_CASES ∷ s) us n kept (POther (PCases x) ∷ parts) final → Read text (N NAME_CASE ∷ A ACT_NEXT_CASE ∷ N NAME_CASES ∷ s) (ts ++ us) n kept (POther (PCases []) ∷ parts) final
  several_cases_go (one_of d) k = case_reads d (ac ACT_NEXT_CASE refl k)
  several_cases_go (more_of {ts = ts} {us = vs} d e) {us = us} k = re ts vs us (several_cases_go d (ru RULE_CASES_MORE refl (case_reads e (ac ACT_NEXT_CASE refl k))))

  several_cases_read : {n : ℕ} {x : List Case} {ts : Tokens} → IsSeveral (IsCase text n) x ts → {s : List Symbol} {us : Tokens} {kept : List ℕ} {parts : Parts text} {final : Option (Parts text)}
      → Read text s us n kept (POther (PCases x) ∷ parts) final → Read text (N NAME_CASE ∷ A ACT_NEXT_CASE ∷ N NAME_CASES ∷ s) (ts ++ us) n kept (POther (PCases []) ∷ parts) final
  several_cases_read d k = several_cases_go d (ru RULE_CASES_END refl k)

  own_reads : {n : ℕ} {x : Option Inst} {ts : Tokens} → IsOwn text n x ts → {s : List Symbol} {us : Tokens} {kept : List ℕ} {parts : Parts text} {final : Option (Parts text)}
      → Read text s us n kept (POther (PMaybeInst x) ∷ parts) final → Read text (N NAME_OWN ∷ s) (ts ++ us) n kept parts final
  own_reads no_own k =
      ru RULE_OWN_NONE refl (ac ACT_NO_OWN refl k)
  own_reads (own_inst w {ts = t0} h0 h1) k =
      ru RULE_OWN_SOME refl (tk SET_OWN_WORD CLASS_OWN_WORD h0 refl (inst_reads h1 (ac ACT_OWN refl k)))

  book_reads : {n : ℕ} {x : Book} {ts : Tokens} → IsBook text n x ts → {xs : List Book} {s : List Symbol} {us : Tokens} {kept : List ℕ} {parts : Parts text} {final : Option (Parts text)}
      → Read text (N NAME_BOOKS ∷ s) us n kept (POther (PBooks (xs ++ x ∷ [])) ∷ parts) final → Read text (N NAME_BOOKS ∷ s) (ts ++ us) n kept (POther (PBooks xs) ∷ parts) final
  book_reads (book_cells w i q s' k' p e {ts = t0} h0 h1 h2 h3 h4 h5 h6 h7) {us = us} k =
      to text (plain w ∷ plain i ∷ plain q ∷ plain s' ∷ plain k' ∷ plain p ∷ (t0 ++ (plain e ∷ us))) (simp append_assoc) (ru RULE_BOOKS_MORE refl (tk SET_BOOK_WORD CLASS_BOOK_WORD h0 refl (tk_in SET_ID h1 (tk SET_COLON CLASS_COLON h2 refl (tk SET_SORT_WORD CLASS_SORT_WORD h3 refl (tk SET_ANY_NUMBER CLASS_NUMBER h4 refl (tk SET_ASSIGN CLASS_ASSIGN h5 refl (whole_reads text h6 (tk SET_SEMI CLASS_SEMI h7 refl (ac ACT_BOOK refl k))))))))))

  books_go : {n : ℕ} {x : List Book} {ts : Tokens} → IsMany (IsBook text n) x ts → {s : List Symbol} {us : Tokens} {kept : List ℕ} {parts : Parts text} {final : Option (Parts text)}
      → Read text (N NAME_BOOKS ∷ s) us n kept (POther (PBooks x) ∷ parts) final → Read text (N NAME_BOOKS ∷ s) (ts ++ us) n kept (POther (PBooks []) ∷ parts) final
  books_go no_more k = k
  books_go (one_more {ts = ts} {us = vs} d e) {us = us} k = re ts vs us (books_go d (book_reads e k))

  books_read : {n : ℕ} {x : List Book} {ts : Tokens} → IsMany (IsBook text n) x ts → {s : List Symbol} {us : Tokens} {kept : List ℕ} {parts : Parts text} {final : Option (Parts text)}
      → Read text s us n kept (POther (PBooks x) ∷ parts) final → Read text (N NAME_BOOKS ∷ s) (ts ++ us) n kept (POther (PBooks []) ∷ parts) final
  books_read d k = books_go d (ru RULE_BOOKS_END refl k)

  pred_reads : {n : ℕ} {x : Pred} {ts : Tokens} → IsPred text n x ts → {xs : List Pred} {s : List Symbol} {us : Tokens} {kept : List ℕ} {parts : Parts text} {final : Option (Parts text)}
      → Read text (N NAME_PREDS ∷ s) us n kept (POther (PPreds (xs ++ x ∷ [])) ∷ parts) final → Read text (N NAME_PREDS ∷ s) (ts ++ us) n kept (POther (PPreds xs) ∷ parts) final
  pred_reads (pred_cases {n = n} w i o c {ts = t0} {us = t1} h0 h1 h2 h3 h4 h5) {us = us} k =
      to text (plain w ∷ plain i ∷ (t0 ++ (opens n o ∷ (t1 ++ (plain c ∷ us))))) (simp append_assoc) (ru RULE_PREDS_MORE refl (tk SET_PRED_WORD CLASS_PRED_WORD h0 refl (tk_in SET_ID h1 (pars_read h2 (sv (op SET_L_BRACE CLASS_L_BRACE h3 refl (ac ACT_NO_CASES refl (several_cases_read h4 (tk SET_R_BRACE CLASS_R_BRACE h5 refl (rs (ac ACT_PRED refl k)))))))))))

  preds_go : {n : ℕ} {x : List Pred} {ts : Tokens} → IsMany (IsPred text n) x ts → {s : List Symbol} {us : Tokens} {kept : List ℕ} {parts : Parts text} {final : Option (Parts text)}
      → Read text (N NAME_PREDS ∷ s) us n kept (POther (PPreds x) ∷ parts) final → Read text (N NAME_PREDS ∷ s) (ts ++ us) n kept (POther (PPreds []) ∷ parts) final
  preds_go no_more k = k
  preds_go (one_more {ts = ts} {us = vs} d e) {us = us} k = re ts vs us (preds_go d (pred_reads e k))

  preds_read : {n : ℕ} {x : List Pred} {ts : Tokens} → IsMany (IsPred text n) x ts → {s : List Symbol} {us : Tokens} {kept : List ℕ} {parts : Parts text} {final : Option (Parts text)}
      → Read text s us n kept (POther (PPreds x) ∷ parts) final → Read text (N NAME_PREDS ∷ s) (ts ++ us) n kept (POther (PPreds []) ∷ parts) final
  preds_read d k = preds_go d (ru RULE_PREDS_END refl k)

  cut_reads : {n : ℕ} {x : Cut} {ts : Tokens} → IsCut text n x ts → {xs : List Cut} {s : List Symbol} {us : Tokens} {kept : List ℕ} {parts : Parts text} {final : Option (Parts text)}
      → Read text (N NAME_CUTS ∷ s) us n kept (POther (PCuts (xs ++ x ∷ [])) ∷ parts) final → Read text (N NAME_CUTS ∷ s) (ts ++ us) n kept (POther (PCuts xs) ∷ parts) final
  cut_reads (cut_at w i q k' m l v {ts = t0} {us = t1} {vs = t2} {ws = t3} h0 h1 h2 h3 h4 h5 h6 h7 h8 h9 h10) {us = us} k =
      to text (plain w ∷ plain i ∷ plain q ∷ plain k' ∷ plain m ∷ plain l ∷ (t0 ++ (plain v ∷ (t1 ++ (t2 ++ (t3 ++ us)))))) (simp append_assoc) (ru RULE_CUTS_MORE refl (tk SET_CUT_WORD CLASS_CUT_WORD h0 refl (tk_in SET_ID h1 (tk SET_AT_WORD CLASS_AT_WORD h2 refl (tk SET_ANY_NUMBER CLASS_NUMBER h3 refl (tk_in SET_MODE h4 (tk SET_LOCALS_WORD CLASS_LOCALS_WORD h5 refl (names_read h6 (tk SET_VARS_WORD CLASS_VARS_WORD h7 refl (pars_read h8 (heap_reads h9 (holey_block_reads h10 (ac ACT_CUT refl k)))))))))))))

  cuts_go : {n : ℕ} {x : List Cut} {ts : Tokens} → IsMany (IsCut text n) x ts → {s : List Symbol} {us : Tokens} {kept : List ℕ} {parts : Parts text} {final : Option (Parts text)}
      → Read text (N NAME_CUTS ∷ s) us n kept (POther (PCuts x) ∷ parts) final → Read text (N NAME_CUTS ∷ s) (ts ++ us) n kept (POther (PCuts []) ∷ parts) final
  cuts_go no_more k = k
  cuts_go (one_more {ts = ts} {us = vs} d e) {us = us} k = re ts vs us (cuts_go d (cut_reads e k))

  cuts_read : {n : ℕ} {x : List Cut} {ts : Tokens} → IsMany (IsCut text n) x ts → {s : List Symbol} {us : Tokens} {kept : List ℕ} {parts : Parts text} {final : Option (Parts text)}
      → Read text s us n kept (POther (PCuts x) ∷ parts) final → Read text (N NAME_CUTS ∷ s) (ts ++ us) n kept (POther (PCuts []) ∷ parts) final
  cuts_read d k = cuts_go d (ru RULE_CUTS_END refl k)

  op_reads : {n : ℕ} {x : Op} {ts : Tokens} → IsOp text n x ts → {xs : List Op} {s : List Symbol} {us : Tokens} {kept : List ℕ} {parts : Parts text} {final : Option (Parts text)}
      → Read text (N NAME_OPS ∷ s) us n kept (POther (POps (xs ++ x ∷ [])) ∷ parts) final → Read text (N NAME_OPS ∷ s) (ts ++ us) n kept (POther (POps xs) ∷ parts) final
  op_reads (op_block w i {ts = t0} {us = t1} h0 h1 h2 h3) {us = us} k =
      to text (plain w ∷ plain i ∷ (t0 ++ (t1 ++ us))) (simp append_assoc) (ru RULE_OPS_MORE refl (tk SET_OP_WORD CLASS_OP_WORD h0 refl (tk_in SET_ID h1 (holey_block_reads h2 (ac ACT_NO_CUTS refl (cuts_read h3 (ac ACT_OP refl k)))))))

  ops_go : {n : ℕ} {x : List Op} {ts : Tokens} → IsMany (IsOp text n) x ts → {s : List Symbol} {us : Tokens} {kept : List ℕ} {parts : Parts text} {final : Option (Parts text)}
      → Read text (N NAME_OPS ∷ s) us n kept (POther (POps x) ∷ parts) final → Read text (N NAME_OPS ∷ s) (ts ++ us) n kept (POther (POps []) ∷ parts) final
  ops_go no_more k = k
  ops_go (one_more {ts = ts} {us = vs} d e) {us = us} k = re ts vs us (ops_go d (op_reads e k))

  ops_read : {n : ℕ} {x : List Op} {ts : Tokens} → IsMany (IsOp text n) x ts → {s : List Symbol} {us : Tokens} {kept : List ℕ} {parts : Parts text} {final : Option (Parts text)}
      → Read text s us n kept (POther (POps x) ∷ parts) final → Read text (N NAME_OPS ∷ s) (ts ++ us) n kept (POther (POps []) ∷ parts) final
  ops_read d k = ops_go d (ru RULE_OPS_END refl k)

  proc_reads : {n : ℕ} {x : Proc} {ts : Tokens} → IsProc text n x ts → {xs : List Proc} {s : List Symbol} {us : Tokens} {kept : List ℕ} {parts : Parts text} {final : Option (Parts text)}
      → Read text (N NAME_PROCS ∷ s) us n kept (POther (PProcs (xs ++ x ∷ [])) ∷ parts) final → Read text (N NAME_PROCS ∷ s) (ts ++ us) n kept (POther (PProcs xs) ∷ parts) final
  proc_reads (proc_block w i v p q {ts = t0} {us = t1} {vs = t2} {ws = t3} {xt = t4} {yt = t5} {zt = t6} h0 h1 h2 h3 h4 h5 h6 h7 h8 h9 h10 h11) {us = us} k =
      to text (plain w ∷ plain i ∷ (t0 ++ (plain v ∷ (t1 ++ (plain p ∷ (t2 ++ (plain q ∷ (t3 ++ (t4 ++ (t5 ++ (t6 ++ us))))))))))) (simp append_assoc) (ru RULE_PROCS_MORE refl (tk SET_PROC_WORD CLASS_PROC_WORD h0 refl (tk_in SET_ID h1 (own_reads h2 (tk SET_VARS_WORD CLASS_VARS_WORD h3 refl (pars_read h4 (tk SET_PRE_WORD CLASS_PRE_WORD h5 refl (heap_reads h6 (tk SET_POST_WORD CLASS_POST_WORD h7 refl (names_read h8 (heap_reads h9 (holey_block_reads h10 (ac ACT_NO_CUTS refl (cuts_read h11 (ac ACT_PROC refl k)))))))))))))))

  procs_go : {n : ℕ} {x : List Proc} {ts : Tokens} → IsMany (IsProc text n) x ts → {s : List Symbol} {us : Tokens} {kept : List ℕ} {parts : Parts text} {final : Option (Parts text)}
      → Read text (N NAME_PROCS ∷ s) us n kept (POther (PProcs x) ∷ parts) final → Read text (N NAME_PROCS ∷ s) (ts ++ us) n kept (POther (PProcs []) ∷ parts) final
  procs_go no_more k = k
  procs_go (one_more {ts = ts} {us = vs} d e) {us = us} k = re ts vs us (procs_go d (proc_reads e k))

  procs_read : {n : ℕ} {x : List Proc} {ts : Tokens} → IsMany (IsProc text n) x ts → {s : List Symbol} {us : Tokens} {kept : List ℕ} {parts : Parts text} {final : Option (Parts text)}
      → Read text s us n kept (POther (PProcs x) ∷ parts) final → Read text (N NAME_PROCS ∷ s) (ts ++ us) n kept (POther (PProcs []) ∷ parts) final
  procs_read d k = procs_go d (ru RULE_PROCS_END refl k)

  script_reads : {n : ℕ} {x : Script} {ts : Tokens} → IsScript text n x ts → {us : Tokens} {kept : List ℕ} {parts : Parts text} {final : Option (Parts text)}
      → Read text [] us n kept (POther (PScript x) ∷ parts) final → Read text (N NAME_TEXT ∷ []) (ts ++ us) n kept parts final
  script_reads (script_of w i e v j f x y {ts = t0} {us = t1} {vs = t2} {ws = t3} {xt = t4} {yt = t5} {zt = t6} h0 h1 h2 h3 h4 h5 h6 h7 h8 h9 h10 h11 h12 h13 h14) {us = us} k =
      to text (t0 ++ (t1 ++ (plain w ∷ plain i ∷ plain e ∷ plain v ∷ plain j ∷ plain f ∷ plain x ∷ (t2 ++ (plain y ∷ (t3 ++ (t4 ++ (t5 ++ (t6 ++ us))))))))) (simp append_assoc) (ru RULE_TEXT_WHOLE refl (ac ACT_NO_BOOKS refl (books_read h0 (ac ACT_NO_PREDS refl (preds_read h1 (tk SET_CRASH_WORD CLASS_CRASH_WORD h2 refl (tk_in SET_ID h3 (tk SET_SEMI CLASS_SEMI h4 refl (tk SET_ROOT_WORD CLASS_ROOT_WORD h5 refl (tk_in SET_ID h6 (tk SET_SEMI CLASS_SEMI h7 refl (tk SET_INIT_WORD CLASS_INIT_WORD h8 refl (holey_block_reads h9 (tk SET_RECOVER_WORD CLASS_RECOVER_WORD h10 refl (holey_block_reads h11 (ac ACT_NO_CUTS refl (cuts_read h12 (ac ACT_NO_OPS refl (ops_read h13 (ac ACT_NO_PROCS refl (procs_read h14 (ac ACT_SCRIPT refl k))))))))))))))))))))))

  -- a whole script
  pub whole_script : (level : ℕ) (x : Script) (ts : Tokens) → IsScript text level x ts → Read text (N NAME_TEXT ∷ []) ts level [] [] (Some (POther (PScript x) ∷ []))
  whole_script level x ts d =
      subst (λ (us : Tokens). Read text (N NAME_TEXT ∷ []) us level [] [] (Some (POther (PScript x) ∷ []))) (append-nil ts)
      (script_reads d (record { steps = []; derives = done; runs = refl; levels = λ limit at. refl }))

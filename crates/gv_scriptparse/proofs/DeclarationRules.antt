-- The rules of declarations, names and atoms keep the meaning of their names.
use Rattle.std.proofs.Common.{◌+◌, ◌∷◌, ℕ, List, refl, append_assoc, []}
use Rattle.std.proofs.lemmas.List.{append-nil, map-append}
use Rattle.gv_grammar.specs.Text.{plain}
use Rattle.gv_grammar.proofs.Meaning.{none, taken, acted, means, mk, at, one_class}
use Rattle.gv_termread.specs.declared.generated.term_table.TheConstants.{CLASS_AT_WORD, CLASS_COMMA, CLASS_L_PAREN, CLASS_NUMBER, CLASS_R_PAREN}
use Rattle.gv_scriptsyntax.specs.declared.generated.script_table.TheConstants.{CLASS_ASSIGN, CLASS_BOOK_ATOM_WORD, CLASS_BOOK_WORD, CLASS_CASE_WORD, CLASS_CELL_ATOM_WORD, CLASS_COLON, CLASS_CRASH_WORD, CLASS_CUT_WORD, CLASS_DONE_WORD, CLASS_DOT_DOT, CLASS_EACH_WORD, CLASS_EXCEPT_WORD, CLASS_FIELD_ATOM_WORD, CLASS_INIT_WORD, CLASS_IN_WORD, CLASS_LOCALS_WORD, CLASS_LOCK_WORD, CLASS_L_BRACE, CLASS_ONE_ATOM_WORD, CLASS_OP_WORD, CLASS_OWN_WORD, CLASS_POST_WORD, CLASS_PRED_WORD, CLASS_PRE_WORD, CLASS_PROC_WORD, CLASS_RECOVER_WORD, CLASS_ROOT_WORD, CLASS_R_BRACE, CLASS_SEMI, CLASS_SORT_WORD, CLASS_THREE_ATOM_WORD, CLASS_TOKEN_WORD, CLASS_VARS_WORD, NAME_ATOM, NAME_ATOMS, NAME_BOOKS, NAME_BOOK_ARGS, NAME_CASE, NAME_CASES, NAME_CELL_ARGS, NAME_CUTS, NAME_DONE_ARGS, NAME_EACH_ARGS, NAME_EXCEPT, NAME_FIELD_ARGS, NAME_INST, NAME_IN_ATOMS, NAME_IN_NAMES, NAME_IN_PARS, NAME_IN_TERMS, NAME_LOCK_ARGS, NAME_MORE_ATOMS, NAME_MORE_NAMES, NAME_MORE_PARS, NAME_MORE_TERMS, NAME_NAMES, NAME_ONE_ARGS, NAME_OPS, NAME_OWN, NAME_PARS, NAME_PLAIN_ATOM, NAME_PREDS, NAME_PROCS, NAME_REPLY, NAME_REST_TERMS, NAME_TERMS, NAME_TEXT, NAME_THREE_ARGS, NAME_TOKEN_ARGS, NAME_TWO_ARGS, RULE_ATOMS_SOME, RULE_ATOM_EACH, RULE_ATOM_PLAIN, RULE_BOOKS_END, RULE_BOOKS_MORE, RULE_BOOK_ARGS_PARENS, RULE_CASES_END, RULE_CASES_MORE, RULE_CASE_CASE, RULE_CELL_ARGS_PARENS, RULE_CUTS_END, RULE_CUTS_MORE, RULE_DONE_ARGS_PARENS, RULE_EACH_ARGS_PARENS, RULE_EXCEPT_NONE, RULE_EXCEPT_SOME, RULE_FIELD_ARGS_PARENS, RULE_INST_NAMED, RULE_IN_ATOMS_PARENS, RULE_IN_NAMES_PARENS, RULE_IN_PARS_PARENS, RULE_IN_TERMS_PARENS, RULE_LOCK_ARGS_PARENS, RULE_MORE_ATOMS_END, RULE_MORE_ATOMS_MORE, RULE_MORE_NAMES_END, RULE_MORE_NAMES_MORE, RULE_MORE_PARS_END, RULE_MORE_PARS_MORE, RULE_MORE_TERMS_END, RULE_MORE_TERMS_MORE, RULE_NAMES_NONE, RULE_NAMES_SOME, RULE_ONE_ARGS_PARENS, RULE_OPS_END, RULE_OPS_MORE, RULE_OWN_NONE, RULE_OWN_SOME, RULE_PARS_NONE, RULE_PARS_SOME, RULE_PLAIN_ATOM_BOOK, RULE_PLAIN_ATOM_CELL, RULE_PLAIN_ATOM_DONE, RULE_PLAIN_ATOM_FIELD, RULE_PLAIN_ATOM_INST, RULE_PLAIN_ATOM_LOCK, RULE_PLAIN_ATOM_ONE, RULE_PLAIN_ATOM_THREE, RULE_PLAIN_ATOM_TOKEN, RULE_PLAIN_ATOM_TWO, RULE_PREDS_END, RULE_PREDS_MORE, RULE_PROCS_END, RULE_PROCS_MORE, RULE_REPLY_NONE, RULE_REPLY_SOME, RULE_REST_TERMS_END, RULE_REST_TERMS_MORE, RULE_TERMS_NONE, RULE_TERMS_SOME, RULE_TEXT_WHOLE, RULE_THREE_ARGS_PARENS, RULE_TOKEN_ARGS_PARENS, RULE_TWO_ARGS_PARENS}
use Rattle.gv_scriptsyntax.specs.Lists.{IsItems, IsList, IsMany, IsRest, IsSeveral, empty, first, items, more_of, next, next_rest, no_more, no_rest, one_more, one_of}
use Rattle.gv_scriptsyntax.specs.Language.{IsArguments, IsAtom, IsAtoms, IsBook, IsBuiltIn, IsCase, IsCut, IsEach, IsExcept, IsInst, IsName, IsNames, IsOp, IsOwn, IsPar, IsPars, IsPlainAtom, IsPred, IsProc, IsReply, IsScript, IsWhole, book_atom, book_cells, built_in, case_of, cell_atom, cut_at, done_atom, each_atom, each_of, except_terms, field_atom, in_atoms, in_names, in_pars, in_terms, inst_of, instance_of, lock_atom, no_except, no_own, no_reply, one_atom, one_name, one_par, op_block, own_inst, plain_atom, pred_cases, proc_block, script_of, three_atom, token_atom, two_atom, with_reply}
use Rattle.gv_scriptparse.proofs.Meanings.{Keeps}

module _ (text : List ℕ) where
  pub text_whole : Keeps text RULE_TEXT_WHOLE NAME_TEXT
  text_whole _ (acted (means {ts = u0} d0 (acted (means {ts = u1} d1 (taken t0 it0 (taken t1 it1 (taken t2 it2 (taken t3 it3 (taken t4 it4 (taken t5 it5 (taken t6 it6 (means {ts = u2} d2 (taken t7 it7 (means {ts = u3} d3 (acted (means {ts = u4} d4 (acted (means {ts = u5} d5 (acted (means {ts = u6} d6 (acted none))))))))))))))))))))) n =
      let x0 = d0 n [] [] no_more in
      let e0 = x0.same in
      let x1 = d1 n [] [] no_more in
      let e1 = x1.same in
      let x2 = d2 n in
      let e2 = x2.same in
      let x3 = d3 n in
      let e3 = x3.same in
      let x4 = d4 n [] [] no_more in
      let e4 = x4.same in
      let x5 = d5 n [] [] no_more in
      let e5 = x5.same in
      let x6 = d6 n [] [] no_more in
      let e6 = x6.same in
      mk (IsScript text n) _ _ (script_of t0 t1 t2 t3 t4 t5 t6 t7 x0.spelled x1.spelled (one_class CLASS_CRASH_WORD t0.class it0) it1 (one_class CLASS_SEMI t2.class it2) (one_class CLASS_ROOT_WORD t3.class it3) it4 (one_class CLASS_SEMI t5.class it5) (one_class CLASS_INIT_WORD t6.class it6) x2.spelled (one_class CLASS_RECOVER_WORD t7.class it7) x3.spelled x4.spelled x5.spelled x6.spelled) (simp (map-append, append_assoc, append-nil, e0, e1, e2, e3, e4, e5, e6))

  pub books_more : Keeps text RULE_BOOKS_MORE NAME_BOOKS
  books_more _ (taken t0 it0 (taken t1 it1 (taken t2 it2 (taken t3 it3 (taken t4 it4 (taken t5 it5 (means {ts = u0} d0 (taken t6 it6 (acted (means {ts = zs} k none)))))))))) n xs ps h =
      let x0 = d0 n in
      let e0 = x0.same in
      at (simp (map-append, append_assoc, append-nil, e0)) (k n _ _ (one_more h (book_cells t0 t1 t2 t3 t4 t5 t6 (one_class CLASS_BOOK_WORD t0.class it0) it1 (one_class CLASS_COLON t2.class it2) (one_class CLASS_SORT_WORD t3.class it3) (one_class CLASS_NUMBER t4.class it4) (one_class CLASS_ASSIGN t5.class it5) x0.spelled (one_class CLASS_SEMI t6.class it6))))

  pub books_end : Keeps text RULE_BOOKS_END NAME_BOOKS
  books_end _ none n xs ps h = mk (IsMany (IsBook text n)) xs ps h (simp append-nil)

  pub preds_more : Keeps text RULE_PREDS_MORE NAME_PREDS
  preds_more _ (taken t0 it0 (taken t1 it1 (means {ts = u0} d0 (acted (acted (taken t2 it2 (acted (means {ts = u1} d1 (acted (means {ts = u2} d2 (taken t3 it3 (acted (acted (means {ts = zs} k none)))))))))))))) n xs ps h =
      let x0 = d0 n in
      let e0 = x0.same in
      let x1 = d1 (n + 1) in
      let x2 = d2 (n + 1) (x1.tree ∷ []) x1.placed (one_of x1.spelled) in
      let e1 = x1.same in
      let e2 = x2.same in
      at (simp (map-append, append_assoc, append-nil, e0, e2, e1)) (k n _ _ (one_more h (pred_cases t0 t1 t2 t3 (one_class CLASS_PRED_WORD t0.class it0) it1 x0.spelled (one_class CLASS_L_BRACE t2.class it2) x2.spelled (one_class CLASS_R_BRACE t3.class it3))))

  pub preds_end : Keeps text RULE_PREDS_END NAME_PREDS
  preds_end _ none n xs ps h = mk (IsMany (IsPred text n)) xs ps h (simp append-nil)

  pub case_case : Keeps text RULE_CASE_CASE NAME_CASE
  case_case _ (taken t0 it0 (means {ts = u0} d0 (means {ts = u1} d1 (acted none)))) n =
      let x0 = d0 n in
      let e0 = x0.same in
      let x1 = d1 n in
      let e1 = x1.same in
      mk (IsCase text n) _ _ (case_of t0 (one_class CLASS_CASE_WORD t0.class it0) x0.spelled x1.spelled) (simp (map-append, append_assoc, append-nil, e0, e1))

  pub cases_more : Keeps text RULE_CASES_MORE NAME_CASES
  cases_more _ (means {ts = ts} d (acted (means {ts = vs} k none))) n xs ps h = let a = d n in let e = a.same in at (simp (map-append, append_assoc, append-nil, e)) (k n _ _ (more_of h a.spelled))

  pub cases_end : Keeps text RULE_CASES_END NAME_CASES
  cases_end _ none n xs ps h = mk (IsSeveral (IsCase text n)) xs ps h (simp append-nil)

  pub cuts_more : Keeps text RULE_CUTS_MORE NAME_CUTS
  cuts_more _ (taken t0 it0 (taken t1 it1 (taken t2 it2 (taken t3 it3 (taken t4 it4 (taken t5 it5 (means {ts = u0} d0 (taken t6 it6 (means {ts = u1} d1 (means {ts = u2} d2 (means {ts = u3} d3 (acted (means {ts = zs} k none))))))))))))) n xs ps h =
      let x0 = d0 n in
      let e0 = x0.same in
      let x1 = d1 n in
      let e1 = x1.same in
      let x2 = d2 n in
      let e2 = x2.same in
      let x3 = d3 n in
      let e3 = x3.same in
      at (simp (map-append, append_assoc, append-nil, e0, e1, e2, e3)) (k n _ _ (one_more h (cut_at t0 t1 t2 t3 t4 t5 t6 (one_class CLASS_CUT_WORD t0.class it0) it1 (one_class CLASS_AT_WORD t2.class it2) (one_class CLASS_NUMBER t3.class it3) it4 (one_class CLASS_LOCALS_WORD t5.class it5) x0.spelled (one_class CLASS_VARS_WORD t6.class it6) x1.spelled x2.spelled x3.spelled)))

  pub cuts_end : Keeps text RULE_CUTS_END NAME_CUTS
  cuts_end _ none n xs ps h = mk (IsMany (IsCut text n)) xs ps h (simp append-nil)

  pub ops_more : Keeps text RULE_OPS_MORE NAME_OPS
  ops_more _ (taken t0 it0 (taken t1 it1 (means {ts = u0} d0 (acted (means {ts = u1} d1 (acted (means {ts = zs} k none))))))) n xs ps h =
      let x0 = d0 n in
      let e0 = x0.same in
      let x1 = d1 n [] [] no_more in
      let e1 = x1.same in
      at (simp (map-append, append_assoc, append-nil, e0, e1)) (k n _ _ (one_more h (op_block t0 t1 (one_class CLASS_OP_WORD t0.class it0) it1 x0.spelled x1.spelled)))

  pub ops_end : Keeps text RULE_OPS_END NAME_OPS
  ops_end _ none n xs ps h = mk (IsMany (IsOp text n)) xs ps h (simp append-nil)

  pub procs_more : Keeps text RULE_PROCS_MORE NAME_PROCS
  procs_more _ (taken t0 it0 (taken t1 it1 (means {ts = u0} d0 (taken t2 it2 (means {ts = u1} d1 (taken t3 it3 (means {ts = u2} d2 (taken t4 it4 (means {ts = u3} d3 (means {ts = u4} d4 (means {ts = u5} d5 (acted (means {ts = u6} d6 (acted (means {ts = zs} k none))))))))))))))) n xs ps h =
      let x0 = d0 n in
      let e0 = x0.same in
      let x1 = d1 n in
      let e1 = x1.same in
      let x2 = d2 n in
      let e2 = x2.same in
      let x3 = d3 n in
      let e3 = x3.same in
      let x4 = d4 n in
      let e4 = x4.same in
      let x5 = d5 n in
      let e5 = x5.same in
      let x6 = d6 n [] [] no_more in
      let e6 = x6.same in
      at (simp (map-append, append_assoc, append-nil, e0, e1, e2, e3, e4, e5, e6)) (k n _ _ (one_more h (proc_block t0 t1 t2 t3 t4 (one_class CLASS_PROC_WORD t0.class it0) it1 x0.spelled (one_class CLASS_VARS_WORD t2.class it2) x1.spelled (one_class CLASS_PRE_WORD t3.class it3) x2.spelled (one_class CLASS_POST_WORD t4.class it4) x3.spelled x4.spelled x5.spelled x6.spelled)))

  pub procs_end : Keeps text RULE_PROCS_END NAME_PROCS
  procs_end _ none n xs ps h = mk (IsMany (IsProc text n)) xs ps h (simp append-nil)

  pub own_some : Keeps text RULE_OWN_SOME NAME_OWN
  own_some _ (taken t0 it0 (means {ts = u0} d0 (acted none))) n =
      let x0 = d0 n in
      let e0 = x0.same in
      mk (IsOwn text n) _ _ (own_inst t0 (one_class CLASS_OWN_WORD t0.class it0) x0.spelled) (simp (map-append, append_assoc, append-nil, e0))

  pub own_none : Keeps text RULE_OWN_NONE NAME_OWN
  own_none _ (acted none) n =
      mk (IsOwn text n) _ _ (no_own) refl

  pub in_names_parens : Keeps text RULE_IN_NAMES_PARENS NAME_IN_NAMES
  in_names_parens _ (acted (acted (taken t0 it0 (acted (means {ts = u0} d0 (taken t1 it1 (acted (acted none)))))))) n =
      let x0 = d0 n in
      let e0 = x0.same in
      mk (IsNames n) _ _ (in_names t0 t1 (one_class CLASS_L_PAREN t0.class it0) x0.spelled (one_class CLASS_R_PAREN t1.class it1)) (simp (map-append, append_assoc, append-nil, e0))

  pub names_some : Keeps text RULE_NAMES_SOME NAME_NAMES
  names_some _ (taken t i (acted (means {ts = ts} k none))) n = at (simp append-nil) (k n (t ∷ []) (plain t ∷ []) (first (one_name t i)))

  pub names_none : Keeps text RULE_NAMES_NONE NAME_NAMES
  names_none _ none n = mk (IsList IsName) [] [] empty refl

  pub more_names_more : Keeps text RULE_MORE_NAMES_MORE NAME_MORE_NAMES
  more_names_more _ (taken s i (taken t j (acted (means {ts = ts} k none)))) n xs ps h = at (simp (map-append, append_assoc, append-nil)) (k n _ _ (next s h (one_class CLASS_COMMA s.class i) (one_name t j)))

  pub more_names_end : Keeps text RULE_MORE_NAMES_END NAME_MORE_NAMES
  more_names_end _ none n xs ps h = mk (IsList IsName) xs ps (items h) (simp append-nil)

  pub in_pars_parens : Keeps text RULE_IN_PARS_PARENS NAME_IN_PARS
  in_pars_parens _ (acted (acted (taken t0 it0 (acted (means {ts = u0} d0 (taken t1 it1 (acted (acted none)))))))) n =
      let x0 = d0 n in
      let e0 = x0.same in
      mk (IsPars n) _ _ (in_pars t0 t1 (one_class CLASS_L_PAREN t0.class it0) x0.spelled (one_class CLASS_R_PAREN t1.class it1)) (simp (map-append, append_assoc, append-nil, e0))

  pub pars_some : Keeps text RULE_PARS_SOME NAME_PARS
  pars_some _ (taken t i (taken c j (taken s g (acted (means {ts = ts} k none))))) n = at (simp append-nil) (k n _ (plain t ∷ plain c ∷ plain s ∷ []) (first (one_par t c s i (one_class CLASS_COLON c.class j) (one_class CLASS_SORT_WORD s.class g))))

  pub pars_none : Keeps text RULE_PARS_NONE NAME_PARS
  pars_none _ none n = mk (IsList IsPar) [] [] empty refl

  pub more_pars_more : Keeps text RULE_MORE_PARS_MORE NAME_MORE_PARS
  more_pars_more _ (taken q p (taken t i (taken c j (taken s g (acted (means {ts = ts} k none)))))) n xs ps h = at (simp (map-append, append_assoc, append-nil)) (k n _ _ (next q h (one_class CLASS_COMMA q.class p) (one_par t c s i (one_class CLASS_COLON c.class j) (one_class CLASS_SORT_WORD s.class g))))

  pub more_pars_end : Keeps text RULE_MORE_PARS_END NAME_MORE_PARS
  more_pars_end _ none n xs ps h = mk (IsList IsPar) xs ps (items h) (simp append-nil)

  pub in_terms_parens : Keeps text RULE_IN_TERMS_PARENS NAME_IN_TERMS
  in_terms_parens _ (acted (acted (taken t0 it0 (acted (means {ts = u0} d0 (taken t1 it1 (acted (acted none)))))))) n =
      let x0 = d0 (n + 1) in
      let e0 = x0.same in
      mk (IsArguments text n) _ _ (in_terms t0 t1 (one_class CLASS_L_PAREN t0.class it0) x0.spelled (one_class CLASS_R_PAREN t1.class it1)) (simp (map-append, append_assoc, append-nil, e0))

  pub terms_some : Keeps text RULE_TERMS_SOME NAME_TERMS
  terms_some _ (means {ts = ts} d (acted (means {ts = vs} k none))) n = let a = d n in let e = a.same in at (simp (append-nil, e)) (k n (a.tree ∷ []) a.placed (first a.spelled))

  pub terms_none : Keeps text RULE_TERMS_NONE NAME_TERMS
  terms_none _ none n = mk (IsList (IsWhole text n)) [] [] empty refl

  pub more_terms_more : Keeps text RULE_MORE_TERMS_MORE NAME_MORE_TERMS
  more_terms_more _ (taken t i (means {ts = ts} d (acted (means {ts = vs} k none)))) n xs ps h = let a = d n in let e = a.same in at (simp (map-append, append_assoc, append-nil, e)) (k n _ _ (next t h (one_class CLASS_COMMA t.class i) a.spelled))

  pub more_terms_end : Keeps text RULE_MORE_TERMS_END NAME_MORE_TERMS
  more_terms_end _ none n xs ps h = mk (IsList (IsWhole text n)) xs ps (items h) (simp append-nil)

  pub inst_named : Keeps text RULE_INST_NAMED NAME_INST
  inst_named _ (taken t0 it0 (means {ts = u0} d0 (acted none))) n =
      let x0 = d0 n in
      let e0 = x0.same in
      mk (IsInst text n) _ _ (inst_of t0 it0 x0.spelled) (simp (map-append, append_assoc, append-nil, e0))

  pub atom_each : Keeps text RULE_ATOM_EACH NAME_ATOM
  atom_each _ (taken t i (means {ts = ts} d none)) n = let a = d n t (one_class CLASS_EACH_WORD t.class i) in let e = a.same in mk (IsAtom text n) _ _ (each_atom a.spelled) (simp (append-nil, e))

  pub atom_plain : Keeps text RULE_ATOM_PLAIN NAME_ATOM
  atom_plain _ (means {ts = ts} d none) n = let a = d n in let e = a.same in mk (IsAtom text n) _ _ (plain_atom a.spelled) (simp (append-nil, e))

  pub plain_atom_one : Keeps text RULE_PLAIN_ATOM_ONE NAME_PLAIN_ATOM
  plain_atom_one _ (taken t i (means {ts = ts} d none)) n = let a = d n t (one_class CLASS_ONE_ATOM_WORD t.class i) in let e = a.same in mk (IsPlainAtom text n) _ _ (built_in a.spelled) (simp (append-nil, e))

  pub plain_atom_two : Keeps text RULE_PLAIN_ATOM_TWO NAME_PLAIN_ATOM
  plain_atom_two _ (taken t i (means {ts = ts} d none)) n = let a = d n t i in let e = a.same in mk (IsPlainAtom text n) _ _ (built_in a.spelled) (simp (append-nil, e))

  pub plain_atom_three : Keeps text RULE_PLAIN_ATOM_THREE NAME_PLAIN_ATOM
  plain_atom_three _ (taken t i (means {ts = ts} d none)) n = let a = d n t (one_class CLASS_THREE_ATOM_WORD t.class i) in let e = a.same in mk (IsPlainAtom text n) _ _ (built_in a.spelled) (simp (append-nil, e))

  pub plain_atom_cell : Keeps text RULE_PLAIN_ATOM_CELL NAME_PLAIN_ATOM
  plain_atom_cell _ (taken t i (means {ts = ts} d none)) n = let a = d n t (one_class CLASS_CELL_ATOM_WORD t.class i) in let e = a.same in mk (IsPlainAtom text n) _ _ (built_in a.spelled) (simp (append-nil, e))

  pub plain_atom_field : Keeps text RULE_PLAIN_ATOM_FIELD NAME_PLAIN_ATOM
  plain_atom_field _ (taken t i (means {ts = ts} d none)) n = let a = d n t (one_class CLASS_FIELD_ATOM_WORD t.class i) in let e = a.same in mk (IsPlainAtom text n) _ _ (built_in a.spelled) (simp (append-nil, e))

  pub plain_atom_book : Keeps text RULE_PLAIN_ATOM_BOOK NAME_PLAIN_ATOM
  plain_atom_book _ (taken t i (means {ts = ts} d none)) n = let a = d n t (one_class CLASS_BOOK_ATOM_WORD t.class i) in let e = a.same in mk (IsPlainAtom text n) _ _ (built_in a.spelled) (simp (append-nil, e))

  pub plain_atom_lock : Keeps text RULE_PLAIN_ATOM_LOCK NAME_PLAIN_ATOM
  plain_atom_lock _ (taken t i (means {ts = ts} d none)) n = let a = d n t (one_class CLASS_LOCK_WORD t.class i) in let e = a.same in mk (IsPlainAtom text n) _ _ (built_in a.spelled) (simp (append-nil, e))

  pub plain_atom_token : Keeps text RULE_PLAIN_ATOM_TOKEN NAME_PLAIN_ATOM
  plain_atom_token _ (taken t i (means {ts = ts} d none)) n = let a = d n t (one_class CLASS_TOKEN_WORD t.class i) in let e = a.same in mk (IsPlainAtom text n) _ _ (built_in a.spelled) (simp (append-nil, e))

  pub plain_atom_done : Keeps text RULE_PLAIN_ATOM_DONE NAME_PLAIN_ATOM
  plain_atom_done _ (taken t i (means {ts = ts} d none)) n = let a = d n t (one_class CLASS_DONE_WORD t.class i) in let e = a.same in mk (IsPlainAtom text n) _ _ (built_in a.spelled) (simp (append-nil, e))

  pub plain_atom_inst : Keeps text RULE_PLAIN_ATOM_INST NAME_PLAIN_ATOM
  plain_atom_inst _ (taken t i (means {ts = ts} d (acted (acted none)))) n = let a = d n in let e = a.same in mk (IsPlainAtom text n) _ _ (instance_of t i a.spelled) (simp (append-nil, e))

  pub one_args_parens : Keeps text RULE_ONE_ARGS_PARENS NAME_ONE_ARGS
  one_args_parens _ (acted (acted (taken t0 it0 (means {ts = u0} d0 (taken t1 it1 (acted (acted none))))))) n w h =
      let x0 = d0 (n + 1) in
      let e0 = x0.same in
      mk (IsBuiltIn text n) _ _ (one_atom w t0 t1 h (one_class CLASS_L_PAREN t0.class it0) x0.spelled (one_class CLASS_R_PAREN t1.class it1)) (simp (map-append, append_assoc, append-nil, e0))

  pub two_args_parens : Keeps text RULE_TWO_ARGS_PARENS NAME_TWO_ARGS
  two_args_parens _ (acted (acted (taken t0 it0 (means {ts = u0} d0 (taken t1 it1 (means {ts = u1} d1 (taken t2 it2 (acted (acted none))))))))) n w h =
      let x0 = d0 (n + 1) in
      let e0 = x0.same in
      let x1 = d1 (n + 1) in
      let e1 = x1.same in
      mk (IsBuiltIn text n) _ _ (two_atom w t0 t1 t2 h (one_class CLASS_L_PAREN t0.class it0) x0.spelled (one_class CLASS_COMMA t1.class it1) x1.spelled (one_class CLASS_R_PAREN t2.class it2)) (simp (map-append, append_assoc, append-nil, e0, e1))

  pub three_args_parens : Keeps text RULE_THREE_ARGS_PARENS NAME_THREE_ARGS
  three_args_parens _ (acted (acted (taken t0 it0 (means {ts = u0} d0 (taken t1 it1 (means {ts = u1} d1 (taken t2 it2 (means {ts = u2} d2 (taken t3 it3 (acted (acted none))))))))))) n w h =
      let x0 = d0 (n + 1) in
      let e0 = x0.same in
      let x1 = d1 (n + 1) in
      let e1 = x1.same in
      let x2 = d2 (n + 1) in
      let e2 = x2.same in
      mk (IsBuiltIn text n) _ _ (three_atom w t0 t1 t2 t3 h (one_class CLASS_L_PAREN t0.class it0) x0.spelled (one_class CLASS_COMMA t1.class it1) x1.spelled (one_class CLASS_COMMA t2.class it2) x2.spelled (one_class CLASS_R_PAREN t3.class it3)) (simp (map-append, append_assoc, append-nil, e0, e1, e2))

  pub cell_args_parens : Keeps text RULE_CELL_ARGS_PARENS NAME_CELL_ARGS
  cell_args_parens _ (acted (acted (taken t0 it0 (means {ts = u0} d0 (taken t1 it1 (taken t2 it2 (taken t3 it3 (means {ts = u1} d1 (taken t4 it4 (acted (acted none))))))))))) n w h =
      let x0 = d0 (n + 1) in
      let e0 = x0.same in
      let x1 = d1 (n + 1) in
      let e1 = x1.same in
      mk (IsBuiltIn text n) _ _ (cell_atom w t0 t1 t2 t3 t4 h (one_class CLASS_L_PAREN t0.class it0) x0.spelled (one_class CLASS_COMMA t1.class it1) it2 (one_class CLASS_COMMA t3.class it3) x1.spelled (one_class CLASS_R_PAREN t4.class it4)) (simp (map-append, append_assoc, append-nil, e0, e1))

  pub field_args_parens : Keeps text RULE_FIELD_ARGS_PARENS NAME_FIELD_ARGS
  field_args_parens _ (acted (acted (taken t0 it0 (taken t1 it1 (taken t2 it2 (means {ts = u0} d0 (taken t3 it3 (acted (acted none))))))))) n w h =
      let x0 = d0 (n + 1) in
      let e0 = x0.same in
      mk (IsBuiltIn text n) _ _ (field_atom w t0 t1 t2 t3 h (one_class CLASS_L_PAREN t0.class it0) it1 (one_class CLASS_COMMA t2.class it2) x0.spelled (one_class CLASS_R_PAREN t3.class it3)) (simp (map-append, append_assoc, append-nil, e0))

  pub book_args_parens : Keeps text RULE_BOOK_ARGS_PARENS NAME_BOOK_ARGS
  book_args_parens _ (acted (acted (taken t0 it0 (taken t1 it1 (taken t2 it2 (means {ts = u0} d0 (taken t3 it3 (means {ts = u1} d1 (taken t4 it4 (acted (acted none))))))))))) n w h =
      let x0 = d0 (n + 1) in
      let e0 = x0.same in
      let x1 = d1 (n + 1) in
      let e1 = x1.same in
      mk (IsBuiltIn text n) _ _ (book_atom w t0 t1 t2 t3 t4 h (one_class CLASS_L_PAREN t0.class it0) it1 (one_class CLASS_COMMA t2.class it2) x0.spelled (one_class CLASS_COMMA t3.class it3) x1.spelled (one_class CLASS_R_PAREN t4.class it4)) (simp (map-append, append_assoc, append-nil, e0, e1))

  pub lock_args_parens : Keeps text RULE_LOCK_ARGS_PARENS NAME_LOCK_ARGS
  lock_args_parens _ (acted (acted (taken t0 it0 (means {ts = u0} d0 (taken t1 it1 (means {ts = u1} d1 (taken t2 it2 (acted (acted none))))))))) n w h =
      let x0 = d0 (n + 1) in
      let e0 = x0.same in
      let x1 = d1 (n + 1) in
      let e1 = x1.same in
      mk (IsBuiltIn text n) _ _ (lock_atom w t0 t1 t2 h (one_class CLASS_L_PAREN t0.class it0) x0.spelled (one_class CLASS_COMMA t1.class it1) x1.spelled (one_class CLASS_R_PAREN t2.class it2)) (simp (map-append, append_assoc, append-nil, e0, e1))

  pub token_args_parens : Keeps text RULE_TOKEN_ARGS_PARENS NAME_TOKEN_ARGS
  token_args_parens _ (acted (acted (taken t0 it0 (means {ts = u0} d0 (taken t1 it1 (taken t2 it2 (acted (means {ts = u1} d1 (taken t3 it3 (acted (acted none))))))))))) n w h =
      let x0 = d0 (n + 1) in
      let e0 = x0.same in
      let x1 = d1 (n + 1) [] [] no_rest in
      let e1 = x1.same in
      mk (IsBuiltIn text n) _ _ (token_atom w t0 t1 t2 t3 h (one_class CLASS_L_PAREN t0.class it0) x0.spelled (one_class CLASS_COMMA t1.class it1) it2 x1.spelled (one_class CLASS_R_PAREN t3.class it3)) (simp (map-append, append_assoc, append-nil, e0, e1))

  pub rest_terms_more : Keeps text RULE_REST_TERMS_MORE NAME_REST_TERMS
  rest_terms_more _ (taken t i (means {ts = ts} d (acted (means {ts = vs} k none)))) n xs ps h = let a = d n in let e = a.same in at (simp (map-append, append_assoc, append-nil, e)) (k n _ _ (next_rest t h (one_class CLASS_COMMA t.class i) a.spelled))

  pub rest_terms_end : Keeps text RULE_REST_TERMS_END NAME_REST_TERMS
  rest_terms_end _ none n xs ps h = mk (IsRest (IsWhole text n)) xs ps h (simp append-nil)

  pub done_args_parens : Keeps text RULE_DONE_ARGS_PARENS NAME_DONE_ARGS
  done_args_parens _ (acted (acted (taken t0 it0 (means {ts = u0} d0 (means {ts = u1} d1 (taken t1 it1 (acted (acted none)))))))) n w h =
      let x0 = d0 (n + 1) in
      let e0 = x0.same in
      let x1 = d1 (n + 1) in
      let e1 = x1.same in
      mk (IsBuiltIn text n) _ _ (done_atom w t0 t1 h (one_class CLASS_L_PAREN t0.class it0) x0.spelled x1.spelled (one_class CLASS_R_PAREN t1.class it1)) (simp (map-append, append_assoc, append-nil, e0, e1))

  pub reply_some : Keeps text RULE_REPLY_SOME NAME_REPLY
  reply_some _ (taken t0 it0 (means {ts = u0} d0 (acted none))) n =
      let x0 = d0 n in
      let e0 = x0.same in
      mk (IsReply text n) _ _ (with_reply t0 (one_class CLASS_COMMA t0.class it0) x0.spelled) (simp (map-append, append_assoc, append-nil, e0))

  pub reply_none : Keeps text RULE_REPLY_NONE NAME_REPLY
  reply_none _ (acted none) n =
      mk (IsReply text n) _ _ (no_reply) refl

  pub each_args_parens : Keeps text RULE_EACH_ARGS_PARENS NAME_EACH_ARGS
  each_args_parens _ (acted (acted (taken t0 it0 (taken t1 it1 (taken t2 it2 (means {ts = u0} d0 (taken t3 it3 (means {ts = u1} d1 (means {ts = u2} d2 (taken t4 it4 (means {ts = u3} d3 (taken t5 it5 (acted (acted none)))))))))))))) n w h =
      let x0 = d0 (n + 1) in
      let e0 = x0.same in
      let x1 = d1 (n + 1) in
      let e1 = x1.same in
      let x2 = d2 (n + 1) in
      let e2 = x2.same in
      let x3 = d3 (n + 1) in
      let e3 = x3.same in
      mk (IsEach text n) _ _ (each_of w t0 t1 t2 t3 t4 t5 h (one_class CLASS_L_PAREN t0.class it0) it1 (one_class CLASS_IN_WORD t2.class it2) x0.spelled (one_class CLASS_DOT_DOT t3.class it3) x1.spelled x2.spelled (one_class CLASS_COLON t4.class it4) x3.spelled (one_class CLASS_R_PAREN t5.class it5)) (simp (map-append, append_assoc, append-nil, e0, e1, e2, e3))

  pub except_some : Keeps text RULE_EXCEPT_SOME NAME_EXCEPT
  except_some _ (taken t0 it0 (means {ts = u0} d0 (acted none))) n =
      let x0 = d0 n in
      let e0 = x0.same in
      mk (IsExcept text n) _ _ (except_terms t0 (one_class CLASS_EXCEPT_WORD t0.class it0) x0.spelled) (simp (map-append, append_assoc, append-nil, e0))

  pub except_none : Keeps text RULE_EXCEPT_NONE NAME_EXCEPT
  except_none _ (acted none) n =
      mk (IsExcept text n) _ _ (no_except) refl

  pub atoms_some : Keeps text RULE_ATOMS_SOME NAME_ATOMS
  atoms_some _ (means {ts = ts} d (acted (means {ts = vs} k none))) n = let a = d n in let e = a.same in at (simp (append-nil, e)) (k n (a.tree ∷ []) a.placed (first a.spelled))

  pub more_atoms_more : Keeps text RULE_MORE_ATOMS_MORE NAME_MORE_ATOMS
  more_atoms_more _ (taken t i (means {ts = ts} d (acted (means {ts = vs} k none)))) n xs ps h = let a = d n in let e = a.same in at (simp (map-append, append_assoc, append-nil, e)) (k n _ _ (next t h (one_class CLASS_COMMA t.class i) a.spelled))

  pub more_atoms_end : Keeps text RULE_MORE_ATOMS_END NAME_MORE_ATOMS
  more_atoms_end _ none n xs ps h = mk (IsItems (IsAtom text n)) xs ps h (simp append-nil)

  pub in_atoms_parens : Keeps text RULE_IN_ATOMS_PARENS NAME_IN_ATOMS
  in_atoms_parens _ (acted (acted (taken t0 it0 (acted (means {ts = u0} d0 (taken t1 it1 (acted (acted none)))))))) n =
      let x0 = d0 (n + 1) in
      let e0 = x0.same in
      mk (IsAtoms text n) _ _ (in_atoms t0 t1 (one_class CLASS_L_PAREN t0.class it0) x0.spelled (one_class CLASS_R_PAREN t1.class it1)) (simp (map-append, append_assoc, append-nil, e0))

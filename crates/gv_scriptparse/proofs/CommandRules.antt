-- The rules of certificates and commands keep the meaning of their names.
use Rattle.std.proofs.Common.{◌+◌, ◌∷◌, ℕ, true, false, List, refl, append_assoc, []}
use Rattle.std.proofs.lemmas.List.{append-nil, map-append}
use Rattle.gv_grammar.proofs.Meaning.{none, taken, acted, means, mk, at, one_class}
use Rattle.gv_termread.specs.declared.generated.term_table.TheConstants.{CLASS_AT_WORD, CLASS_COMMA, CLASS_L_PAREN, CLASS_MINUS, CLASS_NUMBER, CLASS_R_PAREN, CLASS_SL_WORD}
use Rattle.gv_scriptsyntax.specs.declared.generated.script_table.TheConstants.{CLASS_ABSURD_WORD, CLASS_ALONE_WORD, CLASS_ASSIGN, CLASS_AS_WORD, CLASS_AXIOM_WORD, CLASS_BOOK_WORD, CLASS_BOOT_WORD, CLASS_BY_WORD, CLASS_CASES_WORD, CLASS_CLASH_WORD, CLASS_CONTRA_WORD, CLASS_DURING_WORD, CLASS_FOLD_WORD, CLASS_FORGET_WORD, CLASS_GIVEN_WORD, CLASS_GUARD_WORD, CLASS_HALVES_WORD, CLASS_HAVE_WORD, CLASS_HOLE, CLASS_IN_WORD, CLASS_LET_WORD, CLASS_LINEAR_WORD, CLASS_L_BRACE, CLASS_L_BRACKET, CLASS_MAP_WORD, CLASS_MERGE_WORD, CLASS_NEW_WORD, CLASS_ON_ATOM_WORD, CLASS_ON_PAIR_WORD, CLASS_REWRITE_WORD, CLASS_R_BRACE, CLASS_R_BRACKET, CLASS_SEMI, CLASS_SET_WORD, CLASS_SIM_WORD, CLASS_SPLIT_PART_WORD, CLASS_STEPS_WORD, CLASS_STEP_WORD, CLASS_SUBST_WORD, CLASS_TO_WORD, CLASS_UNFOLD_WORD, CLASS_VOID_WORD, CLASS_WITH_WORD, CLASS_YIELD_WORD, NAME_ARM, NAME_ARMS, NAME_AS, NAME_BLOCK, NAME_BLOCKS, NAME_CERT, NAME_CERT_OR_HOLE, NAME_COMMANDS, NAME_DURING, NAME_ENDING, NAME_FACTORED, NAME_FACTORS, NAME_FILLED, NAME_FILLING, NAME_HALVES, NAME_HAVES, NAME_HOLEY_ARM, NAME_HOLEY_ARMS, NAME_HOLEY_BLOCK, NAME_HOLEY_BLOCKS, NAME_HOLEY_COMMANDS, NAME_HOLEY_PLAIN, NAME_HOLEY_STEP, NAME_HOLEY_UNFOLD, NAME_MORE_FACTORS, NAME_PLAIN, NAME_SIMPLE, NAME_STEP, NAME_TAKEN, NAME_UNFOLD, NAME_WITH, NAME_WITHIN, RULE_ARMS_END, RULE_ARMS_MORE, RULE_ARM_BRACES, RULE_AS_NONE, RULE_AS_SOME, RULE_BLOCKS_END, RULE_BLOCKS_MORE, RULE_BLOCK_BRACES, RULE_CERT_AXIOM, RULE_CERT_CASES, RULE_CERT_CONTRA, RULE_CERT_GIVEN, RULE_CERT_LINEAR, RULE_CERT_OR_HOLE_CERT, RULE_CERT_OR_HOLE_HOLE, RULE_CERT_STEPS, RULE_CERT_SUBST, RULE_COMMANDS_CASES, RULE_COMMANDS_END, RULE_COMMANDS_PLAIN, RULE_COMMANDS_STEP, RULE_COMMANDS_UNFOLD, RULE_DURING_NONE, RULE_DURING_SOME, RULE_ENDING_NONE, RULE_ENDING_SEMI, RULE_FACTORED_NEGATIVE, RULE_FACTORED_POSITIVE, RULE_FACTORS_NONE, RULE_FACTORS_SOME, RULE_FILLED_HOLE, RULE_FILLED_TERMS, RULE_FILLING_PARENS, RULE_HALVES_NEW, RULE_HALVES_SET, RULE_HAVES_END, RULE_HAVES_MORE, RULE_HOLEY_ARMS_END, RULE_HOLEY_ARMS_MORE, RULE_HOLEY_ARM_BRACES, RULE_HOLEY_BLOCKS_END, RULE_HOLEY_BLOCKS_MORE, RULE_HOLEY_BLOCK_BRACES, RULE_HOLEY_COMMANDS_CASES, RULE_HOLEY_COMMANDS_END, RULE_HOLEY_COMMANDS_PLAIN, RULE_HOLEY_COMMANDS_STEP, RULE_HOLEY_COMMANDS_UNFOLD, RULE_HOLEY_PLAIN_ABSURD, RULE_HOLEY_PLAIN_FOLD, RULE_HOLEY_PLAIN_HAVE, RULE_HOLEY_PLAIN_SIMPLE, RULE_HOLEY_PLAIN_TAKE, RULE_HOLEY_STEP_BLOCKS, RULE_HOLEY_STEP_PLAIN, RULE_HOLEY_UNFOLD_ARMS, RULE_HOLEY_UNFOLD_NAMES, RULE_MORE_FACTORS_END, RULE_MORE_FACTORS_MORE, RULE_PLAIN_ABSURD, RULE_PLAIN_FOLD, RULE_PLAIN_HAVE, RULE_PLAIN_SIMPLE, RULE_PLAIN_TAKE, RULE_SIMPLE_ALONE, RULE_SIMPLE_BOOK, RULE_SIMPLE_BOOT, RULE_SIMPLE_CLASH, RULE_SIMPLE_FORGET, RULE_SIMPLE_GUARD, RULE_SIMPLE_HALVES, RULE_SIMPLE_LET, RULE_SIMPLE_MAP, RULE_SIMPLE_MERGE, RULE_SIMPLE_ON_ATOM, RULE_SIMPLE_ON_BLOCK, RULE_SIMPLE_ON_PAIR, RULE_SIMPLE_REWRITE, RULE_SIMPLE_SIM, RULE_SIMPLE_SPLIT, RULE_SIMPLE_TO, RULE_SIMPLE_VOID, RULE_SIMPLE_YIELD, RULE_STEP_BLOCKS, RULE_STEP_PLAIN, RULE_TAKEN_ATOM, RULE_TAKEN_HOLE, RULE_UNFOLD_ARMS, RULE_UNFOLD_NAMES, RULE_WITHIN_NONE, RULE_WITHIN_SOME, RULE_WITH_NONE, RULE_WITH_SOME}
use Rattle.gv_scriptsyntax.specs.Lists.{IsList, empty, first, items, next}
use Rattle.gv_scriptsyntax.specs.Language.{IsArm, IsArms, IsAs, IsBlock, IsBlocks, IsBody, IsCert, IsDuring, IsEnding, IsFactor, IsFilling, IsHaves, IsPlain, IsProof, IsSimple, IsWith, IsWithin, absurd_by, all_plain, alone_word, arm_of, as_names, block_of, boot_with, by_axiom, by_cases, cases_of, clash_of, closed, contra_term, during_block, filled, filling_hole, first_arm, first_block, fold_inst, forget_block, given_word, guard_with, halves_new, halves_set, have_by, let_be, linear_sums, map_each, merge_to, negative, next_arm, next_block, next_command, next_have, no_as, no_commands, no_during, no_haves, no_with, not_closed, not_within, on_atom, on_block, on_pair, positive, proof_hole, proved, rewrite_to, set_book, sim_call, simple, split_at, steps_of, substitute, take_at, take_hole, to_cut, void_of, with_last, with_terms, within_term, yield_spare}
use Rattle.gv_scriptparse.proofs.Meanings.{Keeps, unfolded, unfolded_arms, stepped, stepped_blocks, arguments_fill, unfolding_of, stepping_of}

module _ (text : List ℕ) where
  pub cert_given : Keeps text RULE_CERT_GIVEN NAME_CERT
  cert_given _ (taken t0 it0 (acted none)) n =
      mk (IsCert text n) _ _ (given_word t0 (one_class CLASS_GIVEN_WORD t0.class it0)) refl

  pub cert_axiom : Keeps text RULE_CERT_AXIOM NAME_CERT
  cert_axiom _ (taken t0 it0 (taken t1 it1 (means {ts = u0} d0 (acted none)))) n =
      let x0 = d0 n in
      let e0 = x0.same in
      mk (IsCert text n) _ _ (by_axiom t0 t1 (one_class CLASS_AXIOM_WORD t0.class it0) (one_class CLASS_NUMBER t1.class it1) x0.spelled) (simp (map-append, append_assoc, append-nil, e0))

  pub cert_subst : Keeps text RULE_CERT_SUBST NAME_CERT
  cert_subst _ (taken t0 it0 (acted (means {ts = u0} d0 (acted (means {ts = u1} d1 (acted none)))))) n =
      let x0 = d0 n in
      let e0 = x0.same in
      let x1 = d1 n in
      let e1 = x1.same in
      mk (IsCert text n) _ _ (substitute t0 (one_class CLASS_SUBST_WORD t0.class it0) x0.spelled x1.spelled) (simp (map-append, append_assoc, append-nil, e0, e1))

  pub cert_contra : Keeps text RULE_CERT_CONTRA NAME_CERT
  cert_contra _ (taken t0 it0 (means {ts = u0} d0 (acted none))) n =
      let x0 = d0 n in
      let e0 = x0.same in
      mk (IsCert text n) _ _ (contra_term t0 (one_class CLASS_CONTRA_WORD t0.class it0) x0.spelled) (simp (map-append, append_assoc, append-nil, e0))

  pub cert_linear : Keeps text RULE_CERT_LINEAR NAME_CERT
  cert_linear _ (taken t0 it0 (taken t1 it1 (acted (means {ts = u0} d0 (taken t2 it2 (acted (acted (taken t3 it3 (acted (means {ts = u1} d1 (taken t4 it4 (acted (acted none))))))))))))) n =
      let x0 = d0 n in
      let e0 = x0.same in
      let x1 = d1 (n + 1) in
      let e1 = x1.same in
      mk (IsCert text n) _ _ (linear_sums t0 t1 t2 t3 t4 (one_class CLASS_LINEAR_WORD t0.class it0) (one_class CLASS_L_BRACKET t1.class it1) x0.spelled (one_class CLASS_R_BRACKET t2.class it2) (one_class CLASS_L_PAREN t3.class it3) x1.spelled (one_class CLASS_R_PAREN t4.class it4)) (simp (map-append, append_assoc, append-nil, e0, e1))

  pub cert_cases : Keeps text RULE_CERT_CASES NAME_CERT
  cert_cases _ (taken t0 it0 (means {ts = u0} d0 (acted (acted (taken t1 it1 (means {ts = u1} d1 (taken t2 it2 (acted (acted (acted (taken t3 it3 (means {ts = u2} d2 (taken t4 it4 (acted (acted none))))))))))))))) n =
      let x0 = d0 n in
      let e0 = x0.same in
      let x1 = d1 (n + 1) in
      let e1 = x1.same in
      let x2 = d2 (n + 1) in
      let e2 = x2.same in
      mk (IsCert text n) _ _ (by_cases t0 t1 t2 t3 t4 (one_class CLASS_CASES_WORD t0.class it0) x0.spelled (one_class CLASS_L_PAREN t1.class it1) x1.spelled (one_class CLASS_R_PAREN t2.class it2) (one_class CLASS_L_PAREN t3.class it3) x2.spelled (one_class CLASS_R_PAREN t4.class it4)) (simp (map-append, append_assoc, append-nil, e0, e1, e2))

  pub cert_steps : Keeps text RULE_CERT_STEPS NAME_CERT
  cert_steps _ (taken t0 it0 (acted (acted (taken t1 it1 (acted (means {ts = u0} d0 (means {ts = u1} d1 (taken t2 it2 (acted (acted none)))))))))) n =
      let x0 = d0 (n + 1) [] [] no_haves in
      let e0 = x0.same in
      let x1 = d1 (n + 1) in
      let e1 = x1.same in
      mk (IsCert text n) _ _ (steps_of t0 t1 t2 (one_class CLASS_STEPS_WORD t0.class it0) (one_class CLASS_L_BRACE t1.class it1) x0.spelled x1.spelled (one_class CLASS_R_BRACE t2.class it2)) (simp (map-append, append_assoc, append-nil, e0, e1))

  pub within_some : Keeps text RULE_WITHIN_SOME NAME_WITHIN
  within_some _ (taken t0 it0 (means {ts = u0} d0 (acted none))) n =
      let x0 = d0 n in
      let e0 = x0.same in
      mk (IsWithin text n) _ _ (within_term t0 (one_class CLASS_IN_WORD t0.class it0) x0.spelled) (simp (map-append, append_assoc, append-nil, e0))

  pub within_none : Keeps text RULE_WITHIN_NONE NAME_WITHIN
  within_none _ (acted none) n =
      mk (IsWithin text n) _ _ (not_within) refl

  pub factors_some : Keeps text RULE_FACTORS_SOME NAME_FACTORS
  factors_some _ (means {ts = ts} d (acted (means {ts = vs} k none))) n = let a = d n in let e = a.same in at (simp (append-nil, e)) (k n (a.tree ∷ []) a.placed (first a.spelled))

  pub factors_none : Keeps text RULE_FACTORS_NONE NAME_FACTORS
  factors_none _ none n = mk (IsList (IsFactor text n)) [] [] empty refl

  pub more_factors_more : Keeps text RULE_MORE_FACTORS_MORE NAME_MORE_FACTORS
  more_factors_more _ (taken t i (means {ts = ts} d (acted (means {ts = vs} k none)))) n xs ps h = let a = d n in let e = a.same in at (simp (map-append, append_assoc, append-nil, e)) (k n _ _ (next t h (one_class CLASS_COMMA t.class i) a.spelled))

  pub more_factors_end : Keeps text RULE_MORE_FACTORS_END NAME_MORE_FACTORS
  more_factors_end _ none n xs ps h = mk (IsList (IsFactor text n)) xs ps (items h) (simp append-nil)

  pub factored_positive : Keeps text RULE_FACTORED_POSITIVE NAME_FACTORED
  factored_positive _ (taken t0 it0 (means {ts = u0} d0 (acted none))) n =
      let x0 = d0 n in
      let e0 = x0.same in
      mk (IsFactor text n) _ _ (positive t0 it0 x0.spelled) (simp (map-append, append_assoc, append-nil, e0))

  pub factored_negative : Keeps text RULE_FACTORED_NEGATIVE NAME_FACTORED
  factored_negative _ (taken t0 it0 (taken t1 it1 (means {ts = u0} d0 (acted none)))) n =
      let x0 = d0 n in
      let e0 = x0.same in
      mk (IsFactor text n) _ _ (negative t0 t1 (one_class CLASS_MINUS t0.class it0) it1 x0.spelled) (simp (map-append, append_assoc, append-nil, e0))

  pub haves_more : Keeps text RULE_HAVES_MORE NAME_HAVES
  haves_more _ (taken t0 it0 (means {ts = u0} d0 (taken t1 it1 (means {ts = u1} d1 (taken t2 it2 (acted (means {ts = zs} k none))))))) n xs ps h =
      let x0 = d0 n in
      let e0 = x0.same in
      let x1 = d1 n in
      let e1 = x1.same in
      at (simp (map-append, append_assoc, append-nil, e0, e1)) (k n _ _ (next_have t0 t1 t2 h (one_class CLASS_HAVE_WORD t0.class it0) x0.spelled (one_class CLASS_BY_WORD t1.class it1) x1.spelled (one_class CLASS_SEMI t2.class it2)))

  pub haves_end : Keeps text RULE_HAVES_END NAME_HAVES
  haves_end _ none n xs ps h = mk (IsHaves text n) xs ps h (simp append-nil)

  pub cert_or_hole_cert : Keeps text RULE_CERT_OR_HOLE_CERT NAME_CERT_OR_HOLE
  cert_or_hole_cert _ (means {ts = u0} d0 none) n =
      let x0 = d0 n in
      let e0 = x0.same in
      mk (IsProof text true n) _ _ (proved x0.spelled) (simp (map-append, append_assoc, append-nil, e0))

  pub cert_or_hole_hole : Keeps text RULE_CERT_OR_HOLE_HOLE NAME_CERT_OR_HOLE
  cert_or_hole_hole _ (taken t0 it0 (acted none)) n =
      mk (IsProof text true n) _ _ (proof_hole t0 (one_class CLASS_HOLE t0.class it0)) refl

  pub simple_on_atom : Keeps text RULE_SIMPLE_ON_ATOM NAME_SIMPLE
  simple_on_atom _ (taken t0 it0 (means {ts = u0} d0 (acted none))) n =
      let x0 = d0 n in
      let e0 = x0.same in
      mk (IsSimple text n) _ _ (on_atom t0 (one_class CLASS_ON_ATOM_WORD t0.class it0) x0.spelled) (simp (map-append, append_assoc, append-nil, e0))

  pub simple_let : Keeps text RULE_SIMPLE_LET NAME_SIMPLE
  simple_let _ (taken t0 it0 (taken t1 it1 (taken t2 it2 (means {ts = u0} d0 (acted none))))) n =
      let x0 = d0 n in
      let e0 = x0.same in
      mk (IsSimple text n) _ _ (let_be t0 t1 t2 (one_class CLASS_LET_WORD t0.class it0) it1 (one_class CLASS_ASSIGN t2.class it2) x0.spelled) (simp (map-append, append_assoc, append-nil, e0))

  pub simple_rewrite : Keeps text RULE_SIMPLE_REWRITE NAME_SIMPLE
  simple_rewrite _ (taken t0 it0 (means {ts = u0} d0 (taken t1 it1 (means {ts = u1} d1 (acted none))))) n =
      let x0 = d0 n in
      let e0 = x0.same in
      let x1 = d1 n in
      let e1 = x1.same in
      mk (IsSimple text n) _ _ (rewrite_to t0 t1 (one_class CLASS_REWRITE_WORD t0.class it0) x0.spelled (one_class CLASS_TO_WORD t1.class it1) x1.spelled) (simp (map-append, append_assoc, append-nil, e0, e1))

  pub simple_clash : Keeps text RULE_SIMPLE_CLASH NAME_SIMPLE
  simple_clash _ (taken t0 it0 (acted (means {ts = u0} d0 (acted none)))) n =
      let x0 = d0 n in
      let e0 = x0.same in
      mk (IsSimple text n) _ _ (clash_of t0 (one_class CLASS_CLASH_WORD t0.class it0) x0.spelled) (simp (map-append, append_assoc, append-nil, e0))

  pub simple_on_pair : Keeps text RULE_SIMPLE_ON_PAIR NAME_SIMPLE
  simple_on_pair _ (taken t0 it0 (means {ts = u0} d0 (taken t1 it1 (means {ts = u1} d1 (acted none))))) n =
      let x0 = d0 n in
      let e0 = x0.same in
      let x1 = d1 n in
      let e1 = x1.same in
      mk (IsSimple text n) _ _ (on_pair t0 t1 (one_class CLASS_ON_PAIR_WORD t0.class it0) x0.spelled (one_class CLASS_COMMA t1.class it1) x1.spelled) (simp (map-append, append_assoc, append-nil, e0, e1))

  pub simple_halves : Keeps text RULE_SIMPLE_HALVES NAME_SIMPLE
  simple_halves _ (taken t i (means {ts = ts} d none)) n = at (simp append-nil) (d n t (one_class CLASS_HALVES_WORD t.class i))

  pub simple_split : Keeps text RULE_SIMPLE_SPLIT NAME_SIMPLE
  simple_split _ (taken t0 it0 (means {ts = u0} d0 (taken t1 it1 (means {ts = u1} d1 (acted none))))) n =
      let x0 = d0 n in
      let e0 = x0.same in
      let x1 = d1 n in
      let e1 = x1.same in
      mk (IsSimple text n) _ _ (split_at t0 t1 (one_class CLASS_SPLIT_PART_WORD t0.class it0) x0.spelled (one_class CLASS_AT_WORD t1.class it1) x1.spelled) (simp (map-append, append_assoc, append-nil, e0, e1))

  pub simple_map : Keeps text RULE_SIMPLE_MAP NAME_SIMPLE
  simple_map _ (taken t0 it0 (means {ts = u0} d0 (taken t1 it1 (means {ts = u1} d1 (taken t2 it2 (taken t3 it3 (means {ts = u2} d2 (acted none)))))))) n =
      let x0 = d0 n in
      let e0 = x0.same in
      let x1 = d1 n in
      let e1 = x1.same in
      let x2 = d2 n in
      let e2 = x2.same in
      mk (IsSimple text n) _ _ (map_each t0 t1 t2 t3 (one_class CLASS_MAP_WORD t0.class it0) x0.spelled (one_class CLASS_TO_WORD t1.class it1) x1.spelled (one_class CLASS_WITH_WORD t2.class it2) it3 x2.spelled) (simp (map-append, append_assoc, append-nil, e0, e1, e2))

  pub simple_alone : Keeps text RULE_SIMPLE_ALONE NAME_SIMPLE
  simple_alone _ (taken t0 it0 (acted none)) n =
      mk (IsSimple text n) _ _ (alone_word t0 (one_class CLASS_ALONE_WORD t0.class it0)) refl

  pub simple_sim : Keeps text RULE_SIMPLE_SIM NAME_SIMPLE
  simple_sim _ (taken t0 it0 (means {ts = u0} d0 (means {ts = u1} d1 (acted none)))) n =
      let x0 = d0 n in
      let e0 = x0.same in
      let x1 = d1 n in
      let e1 = x1.same in
      mk (IsSimple text n) _ _ (sim_call t0 (one_class CLASS_SIM_WORD t0.class it0) x0.spelled x1.spelled) (simp (map-append, append_assoc, append-nil, e0, e1))

  pub simple_on_block : Keeps text RULE_SIMPLE_ON_BLOCK NAME_SIMPLE
  simple_on_block _ (taken t0 it0 (means {ts = u0} d0 (acted none))) n =
      let x0 = d0 n in
      let e0 = x0.same in
      mk (IsSimple text n) _ _ (on_block t0 it0 x0.spelled) (simp (map-append, append_assoc, append-nil, e0))

  pub simple_boot : Keeps text RULE_SIMPLE_BOOT NAME_SIMPLE
  simple_boot _ (taken t0 it0 (means {ts = u0} d0 (acted none))) n =
      let x0 = d0 n in
      let e0 = x0.same in
      mk (IsSimple text n) _ _ (boot_with t0 (one_class CLASS_BOOT_WORD t0.class it0) x0.spelled) (simp (map-append, append_assoc, append-nil, e0))

  pub simple_guard : Keeps text RULE_SIMPLE_GUARD NAME_SIMPLE
  simple_guard _ (taken t0 it0 (means {ts = u0} d0 (means {ts = u1} d1 (acted none)))) n =
      let x0 = d0 n in
      let e0 = x0.same in
      let x1 = d1 n in
      let e1 = x1.same in
      mk (IsSimple text n) _ _ (guard_with t0 (one_class CLASS_GUARD_WORD t0.class it0) x0.spelled x1.spelled) (simp (map-append, append_assoc, append-nil, e0, e1))

  pub simple_book : Keeps text RULE_SIMPLE_BOOK NAME_SIMPLE
  simple_book _ (taken t0 it0 (taken t1 it1 (means {ts = u0} d0 (taken t2 it2 (means {ts = u1} d1 (acted none)))))) n =
      let x0 = d0 n in
      let e0 = x0.same in
      let x1 = d1 n in
      let e1 = x1.same in
      mk (IsSimple text n) _ _ (set_book t0 t1 t2 (one_class CLASS_BOOK_WORD t0.class it0) it1 x0.spelled (one_class CLASS_TO_WORD t2.class it2) x1.spelled) (simp (map-append, append_assoc, append-nil, e0, e1))

  pub simple_forget : Keeps text RULE_SIMPLE_FORGET NAME_SIMPLE
  simple_forget _ (taken t0 it0 (means {ts = u0} d0 (means {ts = u1} d1 (taken t1 it1 (means {ts = u2} d2 (acted none)))))) n =
      let x0 = d0 n in
      let e0 = x0.same in
      let x1 = d1 n in
      let e1 = x1.same in
      let x2 = d2 n in
      let e2 = x2.same in
      mk (IsSimple text n) _ _ (forget_block t0 t1 (one_class CLASS_FORGET_WORD t0.class it0) x0.spelled x1.spelled (one_class CLASS_TO_WORD t1.class it1) x2.spelled) (simp (map-append, append_assoc, append-nil, e0, e1, e2))

  pub simple_to : Keeps text RULE_SIMPLE_TO NAME_SIMPLE
  simple_to _ (taken t0 it0 (taken t1 it1 (means {ts = u0} d0 (acted none)))) n =
      let x0 = d0 n in
      let e0 = x0.same in
      mk (IsSimple text n) _ _ (to_cut t0 t1 (one_class CLASS_TO_WORD t0.class it0) it1 x0.spelled) (simp (map-append, append_assoc, append-nil, e0))

  pub simple_merge : Keeps text RULE_SIMPLE_MERGE NAME_SIMPLE
  simple_merge _ (taken t0 it0 (means {ts = u0} d0 (taken t1 it1 (means {ts = u1} d1 (taken t2 it2 (means {ts = u2} d2 (acted none))))))) n =
      let x0 = d0 n in
      let e0 = x0.same in
      let x1 = d1 n in
      let e1 = x1.same in
      let x2 = d2 n in
      let e2 = x2.same in
      mk (IsSimple text n) _ _ (merge_to t0 t1 t2 (one_class CLASS_MERGE_WORD t0.class it0) x0.spelled (one_class CLASS_COMMA t1.class it1) x1.spelled (one_class CLASS_TO_WORD t2.class it2) x2.spelled) (simp (map-append, append_assoc, append-nil, e0, e1, e2))

  pub simple_void : Keeps text RULE_SIMPLE_VOID NAME_SIMPLE
  simple_void _ (taken t0 it0 (taken t1 it1 (acted none))) n =
      mk (IsSimple text n) _ _ (void_of t0 t1 (one_class CLASS_VOID_WORD t0.class it0) it1) refl

  pub simple_yield : Keeps text RULE_SIMPLE_YIELD NAME_SIMPLE
  simple_yield _ (taken t0 it0 (means {ts = u0} d0 (taken t1 it1 (means {ts = u1} d1 (taken t2 it2 (taken t3 it3 (acted (acted (taken t4 it4 (means {ts = u2} d2 (taken t5 it5 (means {ts = u3} d3 (taken t6 it6 (means {ts = u4} d4 (taken t7 it7 (acted (acted none))))))))))))))))) n =
      let x0 = d0 n in
      let e0 = x0.same in
      let x1 = d1 n in
      let e1 = x1.same in
      let x2 = d2 (n + 1) in
      let e2 = x2.same in
      let x3 = d3 (n + 1) in
      let e3 = x3.same in
      let x4 = d4 (n + 1) in
      let e4 = x4.same in
      mk (IsSimple text n) _ _ (yield_spare t0 t1 t2 t3 t4 t5 t6 t7 (one_class CLASS_YIELD_WORD t0.class it0) x0.spelled (one_class CLASS_COMMA t1.class it1) x1.spelled (one_class CLASS_TO_WORD t2.class it2) (one_class CLASS_SL_WORD t3.class it3) (one_class CLASS_L_PAREN t4.class it4) x2.spelled (one_class CLASS_COMMA t5.class it5) x3.spelled (one_class CLASS_COMMA t6.class it6) x4.spelled (one_class CLASS_R_PAREN t7.class it7)) (simp (map-append, append_assoc, append-nil, e0, e1, e2, e3, e4))

  pub halves_new_rule : Keeps text RULE_HALVES_NEW NAME_HALVES
  halves_new_rule _ (taken t0 it0 (means {ts = u0} d0 (taken t1 it1 (taken t2 it2 (acted none))))) n w h =
      let x0 = d0 n in
      let e0 = x0.same in
      mk (IsSimple text n) _ _ (halves_new w t0 t1 t2 h (one_class CLASS_NEW_WORD t0.class it0) x0.spelled (one_class CLASS_AS_WORD t1.class it1) it2) (simp (map-append, append_assoc, append-nil, e0))

  pub halves_set_rule : Keeps text RULE_HALVES_SET NAME_HALVES
  halves_set_rule _ (taken t0 it0 (means {ts = u0} d0 (means {ts = u1} d1 (acted none)))) n w h =
      let x0 = d0 n in
      let e0 = x0.same in
      let x1 = d1 n in
      let e1 = x1.same in
      mk (IsSimple text n) _ _ (halves_set w t0 h (one_class CLASS_SET_WORD t0.class it0) x0.spelled x1.spelled) (simp (map-append, append_assoc, append-nil, e0, e1))

  pub with_some : Keeps text RULE_WITH_SOME NAME_WITH
  with_some _ (taken t0 it0 (means {ts = u0} d0 (acted none))) n =
      let x0 = d0 n in
      let e0 = x0.same in
      mk (IsWith text n) _ _ (with_terms t0 (one_class CLASS_WITH_WORD t0.class it0) x0.spelled) (simp (map-append, append_assoc, append-nil, e0))

  pub with_none : Keeps text RULE_WITH_NONE NAME_WITH
  with_none _ (acted none) n =
      mk (IsWith text n) _ _ (no_with) refl

  pub as_some : Keeps text RULE_AS_SOME NAME_AS
  as_some _ (taken t0 it0 (means {ts = u0} d0 (acted none))) n =
      let x0 = d0 n in
      let e0 = x0.same in
      mk (IsAs text n) _ _ (as_names t0 (one_class CLASS_AS_WORD t0.class it0) x0.spelled) (simp (map-append, append_assoc, append-nil, e0))

  pub as_none : Keeps text RULE_AS_NONE NAME_AS
  as_none _ (acted none) n =
      mk (IsAs text n) _ _ (no_as) refl

  pub during_some : Keeps text RULE_DURING_SOME NAME_DURING
  during_some _ (taken t0 it0 (means {ts = u0} d0 (acted none))) n =
      let x0 = d0 n in
      let e0 = x0.same in
      mk (IsDuring text n) _ _ (during_block t0 (one_class CLASS_DURING_WORD t0.class it0) x0.spelled) (simp (map-append, append_assoc, append-nil, e0))

  pub during_none : Keeps text RULE_DURING_NONE NAME_DURING
  during_none _ (acted none) n =
      mk (IsDuring text n) _ _ (no_during) refl

  pub ending_semi : Keeps text RULE_ENDING_SEMI NAME_ENDING
  ending_semi _ (taken t0 it0 (acted none)) n =
      mk (IsEnding text n) _ _ (closed t0 (one_class CLASS_SEMI t0.class it0)) refl

  pub ending_none : Keeps text RULE_ENDING_NONE NAME_ENDING
  ending_none _ (acted none) n =
      mk (IsEnding text n) _ _ (not_closed) refl

  pub block_braces : Keeps text RULE_BLOCK_BRACES NAME_BLOCK
  block_braces _ (acted (acted (taken t0 it0 (acted (means {ts = u0} d0 (taken t1 it1 (acted (acted none)))))))) n =
      let x0 = d0 (n + 1) [] [] no_commands in
      let e0 = x0.same in
      mk (IsBlock text false n) _ _ (block_of t0 t1 (one_class CLASS_L_BRACE t0.class it0) x0.spelled (one_class CLASS_R_BRACE t1.class it1)) (simp (map-append, append_assoc, append-nil, e0))

  pub commands_plain : Keeps text RULE_COMMANDS_PLAIN NAME_COMMANDS
  commands_plain _ (means {ts = ts} d (taken e i (acted (means {ts = vs} k none)))) n xs ps h =
      let a = d n in let q = a.same in
      at (simp (map-append, append_assoc, append-nil, q)) (k n _ _ (next_command e h a.spelled (one_class CLASS_SEMI e.class i)))

  pub commands_unfold : Keeps text RULE_COMMANDS_UNFOLD NAME_COMMANDS
  commands_unfold _ (taken w i (means {ts = ts} d (means {ts = vs} k none))) n xs ps h =
      let a = d n in let q = a.same in
      at (simp (map-append, append_assoc, append-nil, q)) (k n ((xs, w), a.tree) _ (unfolding_of h (one_class CLASS_UNFOLD_WORD w.class i) a.spelled))

  pub commands_cases : Keeps text RULE_COMMANDS_CASES NAME_COMMANDS
  commands_cases _ (taken w i (means {ts = ts} d (means {ts = vs} e (means {ts = ws} f (acted (means {ts = ys} g (acted none))))))) n xs ps h =
      let x1 = d n in let x2 = e n in let x3 = f n in let x4 = g n in
      let e1 = x1.same in let e2 = x2.same in let e3 = x3.same in let e4 = x4.same in
      mk (IsBody text false n) _ _ (with_last h (cases_of w (one_class CLASS_CASES_WORD w.class i) x1.spelled x2.spelled x3.spelled) x4.spelled) (simp (map-append, append_assoc, append-nil, e1, e2, e3, e4))

  pub commands_step : Keeps text RULE_COMMANDS_STEP NAME_COMMANDS
  commands_step _ (taken w i (means {ts = ts} d (means {ts = vs} e (means {ts = ws} f (means {ts = ys} k none))))) n xs ps h =
      let x1 = d n in let x2 = e n in let x3 = f n in
      let e1 = x1.same in let e2 = x2.same in let e3 = x3.same in
      at (simp (map-append, append_assoc, append-nil, e1, e2, e3)) (k n ((((xs, w), x1.tree), x2.tree), x3.tree) _ (stepping_of h (one_class CLASS_STEP_WORD w.class i) x1.spelled x2.spelled x3.spelled))

  pub commands_end : Keeps text RULE_COMMANDS_END NAME_COMMANDS
  commands_end _ none n xs ps h = mk (IsBody text false n) xs ps (all_plain h) (simp append-nil)

  pub unfold_names : Keeps text RULE_UNFOLD_NAMES NAME_UNFOLD
  unfold_names _ (means {ts = ts} d (acted (taken e i (acted (means {ts = vs} k none))))) n x ps h =
      let a = d n in let q = a.same in
      at (simp (map-append, append_assoc, append-nil, q)) (k n _ _ (unfolded text e h a.spelled (one_class CLASS_SEMI e.class i)))

  pub unfold_arms_rule : Keeps text RULE_UNFOLD_ARMS NAME_UNFOLD
  unfold_arms_rule _ (acted (means {ts = ts} d (acted (means {ts = vs} e (acted (means {ts = ws} f (acted none))))))) n x ps h =
      let x1 = d n in let x2 = e n (x1.tree ∷ []) x1.placed (first_arm x1.spelled) in let x3 = f n in
      let e1 = x1.same in let e2 = x2.same in let e3 = x3.same in
      mk (IsBody text false n) _ _ (unfolded_arms text h x2.spelled x3.spelled) (simp (map-append, append_assoc, append-nil, e2, e1, e3))

  pub arm_braces : Keeps text RULE_ARM_BRACES NAME_ARM
  arm_braces _ (acted (acted (taken t0 it0 (means {ts = u0} d0 (acted (means {ts = u1} d1 (taken t1 it1 (acted (acted none))))))))) n =
      let x0 = d0 (n + 1) in
      let e0 = x0.same in
      let x1 = d1 (n + 1) [] [] no_commands in
      let e1 = x1.same in
      mk (IsArm text false n) _ _ (arm_of t0 t1 (one_class CLASS_L_BRACE t0.class it0) x0.spelled x1.spelled (one_class CLASS_R_BRACE t1.class it1)) (simp (map-append, append_assoc, append-nil, e0, e1))

  pub arms_more : Keeps text RULE_ARMS_MORE NAME_ARMS
  arms_more _ (means {ts = ts} d (acted (means {ts = vs} k none))) n xs ps h = let a = d n in let e = a.same in at (simp (map-append, append_assoc, append-nil, e)) (k n _ _ (next_arm h a.spelled))

  pub arms_end : Keeps text RULE_ARMS_END NAME_ARMS
  arms_end _ none n xs ps h = mk (IsArms text false n) xs ps h (simp append-nil)

  pub step_plain : Keeps text RULE_STEP_PLAIN NAME_STEP
  step_plain _ (acted (acted (taken e i (acted (means {ts = vs} k none))))) n x ps h =
      at (simp (map-append, append_assoc, append-nil)) (k n _ _ (stepped text e h (one_class CLASS_SEMI e.class i)))

  pub step_blocks_rule : Keeps text RULE_STEP_BLOCKS NAME_STEP
  step_blocks_rule _ (acted (means {ts = ts} d (acted (means {ts = vs} e (acted (means {ts = ws} f (acted none))))))) n x ps h =
      let x1 = d n in let x2 = e n (x1.tree ∷ []) x1.placed (first_block x1.spelled) in let x3 = f n in
      let e1 = x1.same in let e2 = x2.same in let e3 = x3.same in
      mk (IsBody text false n) _ _ (stepped_blocks text h x2.spelled x3.spelled) (simp (map-append, append_assoc, append-nil, e2, e1, e3))

  pub blocks_more : Keeps text RULE_BLOCKS_MORE NAME_BLOCKS
  blocks_more _ (means {ts = ts} d (acted (means {ts = vs} k none))) n xs ps h = let a = d n in let e = a.same in at (simp (map-append, append_assoc, append-nil, e)) (k n _ _ (next_block h a.spelled))

  pub blocks_end : Keeps text RULE_BLOCKS_END NAME_BLOCKS
  blocks_end _ none n xs ps h = mk (IsBlocks text false n) xs ps h (simp append-nil)

  pub plain_simple : Keeps text RULE_PLAIN_SIMPLE NAME_PLAIN
  plain_simple _ (means {ts = u0} d0 none) n =
      let x0 = d0 n in
      let e0 = x0.same in
      mk (IsPlain text false n) _ _ (simple x0.spelled) (simp (map-append, append_assoc, append-nil, e0))

  pub plain_have : Keeps text RULE_PLAIN_HAVE NAME_PLAIN
  plain_have _ (taken t0 it0 (means {ts = u0} d0 (taken t1 it1 (means {ts = u1} d1 (acted none))))) n =
      let x0 = d0 n in
      let e0 = x0.same in
      let x1 = d1 n in
      let e1 = x1.same in
      mk (IsPlain text false n) _ _ (have_by t0 t1 (one_class CLASS_HAVE_WORD t0.class it0) x0.spelled (one_class CLASS_BY_WORD t1.class it1) (proved x1.spelled)) (simp (map-append, append_assoc, append-nil, e0, e1))

  pub plain_absurd : Keeps text RULE_PLAIN_ABSURD NAME_PLAIN
  plain_absurd _ (taken t0 it0 (taken t1 it1 (means {ts = u0} d0 (acted none)))) n =
      let x0 = d0 n in
      let e0 = x0.same in
      mk (IsPlain text false n) _ _ (absurd_by t0 t1 (one_class CLASS_ABSURD_WORD t0.class it0) (one_class CLASS_BY_WORD t1.class it1) (proved x0.spelled)) (simp (map-append, append_assoc, append-nil, e0))

  pub plain_fold : Keeps text RULE_PLAIN_FOLD NAME_PLAIN
  plain_fold _ (taken t0 it0 (means {ts = u0} d0 (taken t1 it1 (means {ts = u1} d1 (acted (acted none)))))) n =
      let x0 = d0 n in
      let e0 = x0.same in
      let x1 = d1 n in
      let e1 = x1.same in
      mk (IsPlain text false n) _ _ (fold_inst t0 t1 (one_class CLASS_FOLD_WORD t0.class it0) x0.spelled (one_class CLASS_NUMBER t1.class it1) (arguments_fill text x1.spelled)) (simp (map-append, append_assoc, append-nil, e0, e1))

  pub plain_take : Keeps text RULE_PLAIN_TAKE NAME_PLAIN
  plain_take _ (taken t0 it0 (means {ts = u0} d0 (taken t1 it1 (means {ts = u1} d1 (acted none))))) n =
      let x0 = d0 n in
      let e0 = x0.same in
      let x1 = d1 n in
      let e1 = x1.same in
      mk (IsPlain text false n) _ _ (take_at t0 t1 it0 x0.spelled (one_class CLASS_AT_WORD t1.class it1) x1.spelled) (simp (map-append, append_assoc, append-nil, e0, e1))

  pub holey_block_braces : Keeps text RULE_HOLEY_BLOCK_BRACES NAME_HOLEY_BLOCK
  holey_block_braces _ (acted (acted (taken t0 it0 (acted (means {ts = u0} d0 (taken t1 it1 (acted (acted none)))))))) n =
      let x0 = d0 (n + 1) [] [] no_commands in
      let e0 = x0.same in
      mk (IsBlock text true n) _ _ (block_of t0 t1 (one_class CLASS_L_BRACE t0.class it0) x0.spelled (one_class CLASS_R_BRACE t1.class it1)) (simp (map-append, append_assoc, append-nil, e0))

  pub holey_commands_plain : Keeps text RULE_HOLEY_COMMANDS_PLAIN NAME_HOLEY_COMMANDS
  holey_commands_plain _ (means {ts = ts} d (taken e i (acted (means {ts = vs} k none)))) n xs ps h =
      let a = d n in let q = a.same in
      at (simp (map-append, append_assoc, append-nil, q)) (k n _ _ (next_command e h a.spelled (one_class CLASS_SEMI e.class i)))

  pub holey_commands_unfold : Keeps text RULE_HOLEY_COMMANDS_UNFOLD NAME_HOLEY_COMMANDS
  holey_commands_unfold _ (taken w i (means {ts = ts} d (means {ts = vs} k none))) n xs ps h =
      let a = d n in let q = a.same in
      at (simp (map-append, append_assoc, append-nil, q)) (k n ((xs, w), a.tree) _ (unfolding_of h (one_class CLASS_UNFOLD_WORD w.class i) a.spelled))

  pub holey_commands_cases : Keeps text RULE_HOLEY_COMMANDS_CASES NAME_HOLEY_COMMANDS
  holey_commands_cases _ (taken w i (means {ts = ts} d (means {ts = vs} e (means {ts = ws} f (acted (means {ts = ys} g (acted none))))))) n xs ps h =
      let x1 = d n in let x2 = e n in let x3 = f n in let x4 = g n in
      let e1 = x1.same in let e2 = x2.same in let e3 = x3.same in let e4 = x4.same in
      mk (IsBody text true n) _ _ (with_last h (cases_of w (one_class CLASS_CASES_WORD w.class i) x1.spelled x2.spelled x3.spelled) x4.spelled) (simp (map-append, append_assoc, append-nil, e1, e2, e3, e4))

  pub holey_commands_step : Keeps text RULE_HOLEY_COMMANDS_STEP NAME_HOLEY_COMMANDS
  holey_commands_step _ (taken w i (means {ts = ts} d (means {ts = vs} e (means {ts = ws} f (means {ts = ys} k none))))) n xs ps h =
      let x1 = d n in let x2 = e n in let x3 = f n in
      let e1 = x1.same in let e2 = x2.same in let e3 = x3.same in
      at (simp (map-append, append_assoc, append-nil, e1, e2, e3)) (k n ((((xs, w), x1.tree), x2.tree), x3.tree) _ (stepping_of h (one_class CLASS_STEP_WORD w.class i) x1.spelled x2.spelled x3.spelled))

  pub holey_commands_end : Keeps text RULE_HOLEY_COMMANDS_END NAME_HOLEY_COMMANDS
  holey_commands_end _ none n xs ps h = mk (IsBody text true n) xs ps (all_plain h) (simp append-nil)

  pub holey_unfold_names : Keeps text RULE_HOLEY_UNFOLD_NAMES NAME_HOLEY_UNFOLD
  holey_unfold_names _ (means {ts = ts} d (acted (taken e i (acted (means {ts = vs} k none))))) n x ps h =
      let a = d n in let q = a.same in
      at (simp (map-append, append_assoc, append-nil, q)) (k n _ _ (unfolded text e h a.spelled (one_class CLASS_SEMI e.class i)))

  pub holey_unfold_arms : Keeps text RULE_HOLEY_UNFOLD_ARMS NAME_HOLEY_UNFOLD
  holey_unfold_arms _ (acted (means {ts = ts} d (acted (means {ts = vs} e (acted (means {ts = ws} f (acted none))))))) n x ps h =
      let x1 = d n in let x2 = e n (x1.tree ∷ []) x1.placed (first_arm x1.spelled) in let x3 = f n in
      let e1 = x1.same in let e2 = x2.same in let e3 = x3.same in
      mk (IsBody text true n) _ _ (unfolded_arms text h x2.spelled x3.spelled) (simp (map-append, append_assoc, append-nil, e2, e1, e3))

  pub holey_arm_braces : Keeps text RULE_HOLEY_ARM_BRACES NAME_HOLEY_ARM
  holey_arm_braces _ (acted (acted (taken t0 it0 (means {ts = u0} d0 (acted (means {ts = u1} d1 (taken t1 it1 (acted (acted none))))))))) n =
      let x0 = d0 (n + 1) in
      let e0 = x0.same in
      let x1 = d1 (n + 1) [] [] no_commands in
      let e1 = x1.same in
      mk (IsArm text true n) _ _ (arm_of t0 t1 (one_class CLASS_L_BRACE t0.class it0) x0.spelled x1.spelled (one_class CLASS_R_BRACE t1.class it1)) (simp (map-append, append_assoc, append-nil, e0, e1))

  pub holey_arms_more : Keeps text RULE_HOLEY_ARMS_MORE NAME_HOLEY_ARMS
  holey_arms_more _ (means {ts = ts} d (acted (means {ts = vs} k none))) n xs ps h = let a = d n in let e = a.same in at (simp (map-append, append_assoc, append-nil, e)) (k n _ _ (next_arm h a.spelled))

  pub holey_arms_end : Keeps text RULE_HOLEY_ARMS_END NAME_HOLEY_ARMS
  holey_arms_end _ none n xs ps h = mk (IsArms text true n) xs ps h (simp append-nil)

  pub holey_step_plain : Keeps text RULE_HOLEY_STEP_PLAIN NAME_HOLEY_STEP
  holey_step_plain _ (acted (acted (taken e i (acted (means {ts = vs} k none))))) n x ps h =
      at (simp (map-append, append_assoc, append-nil)) (k n _ _ (stepped text e h (one_class CLASS_SEMI e.class i)))

  pub holey_step_blocks : Keeps text RULE_HOLEY_STEP_BLOCKS NAME_HOLEY_STEP
  holey_step_blocks _ (acted (means {ts = ts} d (acted (means {ts = vs} e (acted (means {ts = ws} f (acted none))))))) n x ps h =
      let x1 = d n in let x2 = e n (x1.tree ∷ []) x1.placed (first_block x1.spelled) in let x3 = f n in
      let e1 = x1.same in let e2 = x2.same in let e3 = x3.same in
      mk (IsBody text true n) _ _ (stepped_blocks text h x2.spelled x3.spelled) (simp (map-append, append_assoc, append-nil, e2, e1, e3))

  pub holey_blocks_more : Keeps text RULE_HOLEY_BLOCKS_MORE NAME_HOLEY_BLOCKS
  holey_blocks_more _ (means {ts = ts} d (acted (means {ts = vs} k none))) n xs ps h = let a = d n in let e = a.same in at (simp (map-append, append_assoc, append-nil, e)) (k n _ _ (next_block h a.spelled))

  pub holey_blocks_end : Keeps text RULE_HOLEY_BLOCKS_END NAME_HOLEY_BLOCKS
  holey_blocks_end _ none n xs ps h = mk (IsBlocks text true n) xs ps h (simp append-nil)

  pub holey_plain_simple : Keeps text RULE_HOLEY_PLAIN_SIMPLE NAME_HOLEY_PLAIN
  holey_plain_simple _ (means {ts = u0} d0 none) n =
      let x0 = d0 n in
      let e0 = x0.same in
      mk (IsPlain text true n) _ _ (simple x0.spelled) (simp (map-append, append_assoc, append-nil, e0))

  pub holey_plain_have : Keeps text RULE_HOLEY_PLAIN_HAVE NAME_HOLEY_PLAIN
  holey_plain_have _ (taken t0 it0 (means {ts = u0} d0 (taken t1 it1 (means {ts = u1} d1 (acted none))))) n =
      let x0 = d0 n in
      let e0 = x0.same in
      let x1 = d1 n in
      let e1 = x1.same in
      mk (IsPlain text true n) _ _ (have_by t0 t1 (one_class CLASS_HAVE_WORD t0.class it0) x0.spelled (one_class CLASS_BY_WORD t1.class it1) x1.spelled) (simp (map-append, append_assoc, append-nil, e0, e1))

  pub holey_plain_absurd : Keeps text RULE_HOLEY_PLAIN_ABSURD NAME_HOLEY_PLAIN
  holey_plain_absurd _ (taken t0 it0 (taken t1 it1 (means {ts = u0} d0 (acted none)))) n =
      let x0 = d0 n in
      let e0 = x0.same in
      mk (IsPlain text true n) _ _ (absurd_by t0 t1 (one_class CLASS_ABSURD_WORD t0.class it0) (one_class CLASS_BY_WORD t1.class it1) x0.spelled) (simp (map-append, append_assoc, append-nil, e0))

  pub holey_plain_fold : Keeps text RULE_HOLEY_PLAIN_FOLD NAME_HOLEY_PLAIN
  holey_plain_fold _ (taken t0 it0 (means {ts = u0} d0 (taken t1 it1 (means {ts = u1} d1 (acted none))))) n =
      let x0 = d0 n in
      let e0 = x0.same in
      let x1 = d1 n in
      let e1 = x1.same in
      mk (IsPlain text true n) _ _ (fold_inst t0 t1 (one_class CLASS_FOLD_WORD t0.class it0) x0.spelled (one_class CLASS_NUMBER t1.class it1) x1.spelled) (simp (map-append, append_assoc, append-nil, e0, e1))

  pub holey_plain_take : Keeps text RULE_HOLEY_PLAIN_TAKE NAME_HOLEY_PLAIN
  holey_plain_take _ (taken t i (means {ts = ts} d none)) n = at (simp append-nil) (d n t i)

  pub filling_parens : Keeps text RULE_FILLING_PARENS NAME_FILLING
  filling_parens _ (acted (acted (taken t i (means {ts = ts} d none)))) n = at (simp append-nil) (d n t (one_class CLASS_L_PAREN t.class i))

  pub filled_hole : Keeps text RULE_FILLED_HOLE NAME_FILLED
  filled_hole _ (taken q i (taken c j (acted (acted none)))) n w h = mk (IsFilling text true n) _ _ (filling_hole w q c h (one_class CLASS_HOLE q.class i) (one_class CLASS_R_PAREN c.class j)) refl

  pub filled_terms : Keeps text RULE_FILLED_TERMS NAME_FILLED
  filled_terms _ (acted (means {ts = ts} d (taken c j (acted (acted none))))) n w h = let a = d (n + 1) in let e = a.same in mk (IsFilling text true n) _ _ (filled w c h a.spelled (one_class CLASS_R_PAREN c.class j)) (simp (map-append, e))

  pub taken_atom : Keeps text RULE_TAKEN_ATOM NAME_TAKEN
  taken_atom _ (means {ts = u0} d0 (taken t0 it0 (means {ts = u1} d1 (acted none)))) n w h =
      let x0 = d0 n in
      let e0 = x0.same in
      let x1 = d1 n in
      let e1 = x1.same in
      mk (IsPlain text true n) _ _ (take_at w t0 h x0.spelled (one_class CLASS_AT_WORD t0.class it0) x1.spelled) (simp (map-append, append_assoc, append-nil, e0, e1))

  pub taken_hole : Keeps text RULE_TAKEN_HOLE NAME_TAKEN
  taken_hole _ (taken t0 it0 (taken t1 it1 (means {ts = u0} d0 (acted none)))) n w h =
      let x0 = d0 n in
      let e0 = x0.same in
      mk (IsPlain text true n) _ _ (take_hole w t0 t1 h (one_class CLASS_HOLE t0.class it0) (one_class CLASS_AT_WORD t1.class it1) x0.spelled) (simp (map-append, append_assoc, append-nil, e0))

-- The same of commands, blocks and declarations, and of all acts of scripts.
use Rattle.std.proofs.Common.{◌≡◌, ℕ, suc, List, [], ◌∷◌, ◌++◌, Option, Some, None, refl, sym, ap, subst, ◌∙◌}
use Rattle.std.specs.Prelude.{drop}
use Rattle.gv_termread.specs.declared.generated.term_acts.Part.{Part}
use Rattle.gv_termread.specs.declared.generated.term_acts.Part.TheVariants.{Token as PToken, Term as PTerm, Other as POther}
use Rattle.gv_termread.specs.declared.placed.PlacedTerm.{PlacedTerm}
use Rattle.gv_termread.specs.declared.token.SeenToken.{SeenToken}
use Rattle.gv_termread.specs.TermActs.{is_token, is_term}
use Rattle.gv_scriptsyntax.specs.declared.generated.script_acts.ScriptPart.{ScriptPart}
use Rattle.gv_scriptsyntax.specs.declared.generated.script_acts.ScriptPart.TheVariants.{Arm as PArm, Arms as PArms, Atom as PAtom, Atoms as PAtoms, Block as PBlock, Blocks as PBlocks, Books as PBooks, Case as PCase, Cases as PCases, Cert as PCert, Command as PCommand, Commands as PCommands, Cuts as PCuts, Ending as PEnding, Filling as PFilling, Inst as PInst, Items as PItems, MaybeBlock as PMaybeBlock, MaybeInst as PMaybeInst, Names as PNames, Ops as POps, Pars as PPars, Preds as PPreds, Procs as PProcs, Script as PScript, Terms as PTerms}
use Rattle.gv_scriptsyntax.specs.declared.tree.Par.{Par}
use Rattle.gv_scriptsyntax.specs.declared.tree.Inst.{Inst}
use Rattle.gv_scriptsyntax.specs.declared.tree.Atom.{Atom}
use Rattle.gv_scriptsyntax.specs.declared.tree.Item.{Item}
use Rattle.gv_scriptsyntax.specs.declared.tree.Cert.{Cert}
use Rattle.gv_scriptsyntax.specs.declared.tree.Filling.{Filling}
use Rattle.gv_scriptsyntax.specs.declared.tree.Block.{Block}
use Rattle.gv_scriptsyntax.specs.declared.tree.Arm.{Arm}
use Rattle.gv_scriptsyntax.specs.declared.tree.Command.{Command}
use Rattle.gv_scriptsyntax.specs.declared.tree.Case.{Case}
use Rattle.gv_scriptsyntax.specs.declared.tree.Book.{Book}
use Rattle.gv_scriptsyntax.specs.declared.tree.Pred.{Pred}
use Rattle.gv_scriptsyntax.specs.declared.tree.Cut.{Cut}
use Rattle.gv_scriptsyntax.specs.declared.tree.Op.{Op}
use Rattle.gv_scriptsyntax.specs.declared.tree.Proc.{Proc}
use Rattle.gv_scriptsyntax.specs.declared.tree.Command.TheVariants as command
use Rattle.gv_scriptsyntax.specs.Making.{Making}
use Rattle.gv_scriptsyntax.specs.ScriptActs.{script_makings, is_names, is_pars, is_terms, is_inst, is_maybe_inst, is_atom, is_atoms, is_items, is_cert, is_filling, is_command, is_commands, is_ending, is_block, is_maybe_block, is_blocks, is_arm, is_arms, is_case, is_cases, is_books, is_preds, is_cuts, is_ops, is_procs, made_fold, made_unfold, made_unfold_arms, made_on_atom, made_have, made_let, made_rewrite, made_absurd, made_clash, made_cases, made_on_pair, made_halves_new, made_halves_set, made_at, made_at_hole, made_map, made_alone, made_sim, made_on_block, made_boot, made_guard, made_set_book, made_forget, made_step, made_to, made_merge, made_void, made_yield, made_word_names, made_no_during, made_during, made_no_blocks, made_next_block, made_no_arms, made_next_arm, made_arm, made_no_commands, made_command, made_last, made_closed, made_not_closed, made_block, made_case, made_no_cases, made_next_case, made_no_books, made_book, made_no_preds, made_pred, made_no_cuts, made_cut, made_no_ops, made_op, made_no_procs, made_proc, made_script}
use Rattle.gv_scriptsyntax.specs.Nodes.{Parts}
use Rattle.gv_scriptnames.specs.Mentions.{in_command, in_arm, in_block}
use Rattle.gv_scriptnames.proofs.Constructs.{all_named}
use Rattle.gv_scriptnodes.specs.Gathered.{in_parts, in_case, in_pred, in_cut, in_op, in_proc, named_by}
use Rattle.gv_scriptnodes.proofs.Tops.{top_token, top_term, top_names, top_pars, top_terms, top_inst, top_maybe_inst, top_atom, top_atoms, top_items, top_cert, top_filling, top_command, top_commands, top_ending, top_block, top_maybe_block, top_blocks, top_arm, top_arms, top_case, top_cases, top_books, top_preds, top_cuts, top_ops, top_procs}
use Rattle.gv_scriptnodes.proofs.Gathering.{nil_right, joins, by_each_end, joined_end, pred_of, cut_of, op_of, proc_of, Adds, plain_adds, plain_token, plain_term, plain_names, plain_books, no_names_adds, name_adds, next_name_adds, in_names_adds, no_pars_adds, par_adds, next_par_adds, in_pars_adds, no_terms_adds, term_adds, next_term_adds, in_terms_adds, word_terms_adds, no_term_adds, word_term_adds, inst_adds, no_own_adds, own_adds, one_atom_adds, two_atom_adds, three_atom_adds, cell_atom_adds, field_atom_adds, book_atom_adds, lock_atom_adds, token_atom_adds, done_atom_adds, each_atom_adds, inst_atom_adds, no_atoms_adds, atom_adds, next_atom_adds, in_atoms_adds, fact_adds, held_adds, no_items_adds, item_adds, in_items_adds, positive_adds, negative_adds, no_factors_adds, factor_adds, next_factor_adds, given_adds, axiom_adds, subst_adds, contra_adds, linear_adds, by_cases_adds, steps_adds, hole_adds, no_haves_adds, step_have_adds, hole_terms_adds, filled_adds, filled_parens_adds}

fold_named : (filling : Filling) (number : SeenToken) (inst : Inst) (word : SeenToken) (rest : Parts) → in_parts (POther (PCommand (command.Fold word inst number filling)) ∷ rest) ≡ in_parts (POther (PFilling filling) ∷ PToken number ∷ POther (PInst inst) ∷ PToken word ∷ rest) ++ named_by 70 (POther (PFilling filling) ∷ PToken number ∷ POther (PInst inst) ∷ PToken word ∷ rest)
fold_named filling number inst word rest = rw (all_named.fold_command word inst number filling) (simp (nil_right) refl)

fold_adds : Adds 70 (record { takes = is_filling ∷ is_token ∷ is_inst ∷ is_token ∷ []; makes = λ parts. POther (PCommand (made_fold parts)) })
fold_adds parts h =
    top_filling (is_token ∷ is_inst ∷ is_token ∷ []) parts h (λ x0 r0 e0 h0.
    top_token (is_inst ∷ is_token ∷ []) r0 h0 (λ x1 r1 e1 h1.
    top_inst (is_token ∷ []) r1 h1 (λ x2 r2 e2 h2.
    top_token ([]) r2 h2 (λ x3 r3 e3 h3.
    subst (λ (ps : Parts). in_parts (POther (PCommand (made_fold ps)) ∷ drop 4 ps) ≡ in_parts ps ++ named_by 70 ps) (sym (e0 ∙ ap (λ (ps : Parts). POther (PFilling x0) ∷ ps) (e1 ∙ ap (λ (ps : Parts). PToken x1 ∷ ps) (e2 ∙ ap (λ (ps : Parts). POther (PInst x2) ∷ ps) (e3))))) (fold_named x0 x1 x2 x3 r3)))))

unfold_named : (names : List SeenToken) (inst : Inst) (word : SeenToken) (rest : Parts) → in_parts (POther (PCommand (command.Unfold word inst names)) ∷ rest) ≡ in_parts (POther (PNames names) ∷ POther (PInst inst) ∷ PToken word ∷ rest) ++ named_by 71 (POther (PNames names) ∷ POther (PInst inst) ∷ PToken word ∷ rest)
unfold_named names inst word rest = rw (all_named.unfold_command word inst names) (simp (nil_right) refl)

unfold_adds : Adds 71 (record { takes = is_names ∷ is_inst ∷ is_token ∷ []; makes = λ parts. POther (PCommand (made_unfold parts)) })
unfold_adds parts h =
    top_names (is_inst ∷ is_token ∷ []) parts h (λ x0 r0 e0 h0.
    top_inst (is_token ∷ []) r0 h0 (λ x1 r1 e1 h1.
    top_token ([]) r1 h1 (λ x2 r2 e2 h2.
    subst (λ (ps : Parts). in_parts (POther (PCommand (made_unfold ps)) ∷ drop 3 ps) ≡ in_parts ps ++ named_by 71 ps) (sym (e0 ∙ ap (λ (ps : Parts). POther (PNames x0) ∷ ps) (e1 ∙ ap (λ (ps : Parts). POther (PInst x1) ∷ ps) (e2)))) (unfold_named x0 x1 x2 r2))))

unfold_arms_named : (arms : List Arm) (inst : Inst) (word : SeenToken) (rest : Parts) → in_parts (POther (PCommand (command.UnfoldArms word inst arms)) ∷ rest) ≡ in_parts (POther (PArms arms) ∷ POther (PInst inst) ∷ PToken word ∷ rest) ++ named_by 72 (POther (PArms arms) ∷ POther (PInst inst) ∷ PToken word ∷ rest)
unfold_arms_named arms inst word rest = rw (all_named.unfold_arms_command word inst arms) (simp (nil_right, joins) refl)

unfold_arms_adds : Adds 72 (record { takes = is_arms ∷ is_inst ∷ is_token ∷ []; makes = λ parts. POther (PCommand (made_unfold_arms parts)) })
unfold_arms_adds parts h =
    top_arms (is_inst ∷ is_token ∷ []) parts h (λ x0 r0 e0 h0.
    top_inst (is_token ∷ []) r0 h0 (λ x1 r1 e1 h1.
    top_token ([]) r1 h1 (λ x2 r2 e2 h2.
    subst (λ (ps : Parts). in_parts (POther (PCommand (made_unfold_arms ps)) ∷ drop 3 ps) ≡ in_parts ps ++ named_by 72 ps) (sym (e0 ∙ ap (λ (ps : Parts). POther (PArms x0) ∷ ps) (e1 ∙ ap (λ (ps : Parts). POther (PInst x1) ∷ ps) (e2)))) (unfold_arms_named x0 x1 x2 r2))))

on_atom_named : (on : Atom) (word : SeenToken) (rest : Parts) → in_parts (POther (PCommand (command.OnAtom word on)) ∷ rest) ≡ in_parts (POther (PAtom on) ∷ PToken word ∷ rest) ++ named_by 73 (POther (PAtom on) ∷ PToken word ∷ rest)
on_atom_named on word rest = rw (all_named.on_atom_command word on) (simp (nil_right) refl)

on_atom_adds : Adds 73 (record { takes = is_atom ∷ is_token ∷ []; makes = λ parts. POther (PCommand (made_on_atom parts)) })
on_atom_adds parts h =
    top_atom (is_token ∷ []) parts h (λ x0 r0 e0 h0.
    top_token ([]) r0 h0 (λ x1 r1 e1 h1.
    subst (λ (ps : Parts). in_parts (POther (PCommand (made_on_atom ps)) ∷ drop 2 ps) ≡ in_parts ps ++ named_by 73 ps) (sym (e0 ∙ ap (λ (ps : Parts). POther (PAtom x0) ∷ ps) (e1))) (on_atom_named x0 x1 r1)))

have_named : (proof : Cert) (x1 : SeenToken) (term : PlacedTerm) (word : SeenToken) (rest : Parts) → in_parts (POther (PCommand (command.Have word term proof)) ∷ rest) ≡ in_parts (POther (PCert proof) ∷ PToken x1 ∷ PTerm term ∷ PToken word ∷ rest) ++ named_by 74 (POther (PCert proof) ∷ PToken x1 ∷ PTerm term ∷ PToken word ∷ rest)
have_named proof x1 term word rest = rw (all_named.have_command word term proof) (simp (nil_right) refl)

have_adds : Adds 74 (record { takes = is_cert ∷ is_token ∷ is_term ∷ is_token ∷ []; makes = λ parts. POther (PCommand (made_have parts)) })
have_adds parts h =
    top_cert (is_token ∷ is_term ∷ is_token ∷ []) parts h (λ x0 r0 e0 h0.
    top_token (is_term ∷ is_token ∷ []) r0 h0 (λ x1 r1 e1 h1.
    top_term (is_token ∷ []) r1 h1 (λ x2 r2 e2 h2.
    top_token ([]) r2 h2 (λ x3 r3 e3 h3.
    subst (λ (ps : Parts). in_parts (POther (PCommand (made_have ps)) ∷ drop 4 ps) ≡ in_parts ps ++ named_by 74 ps) (sym (e0 ∙ ap (λ (ps : Parts). POther (PCert x0) ∷ ps) (e1 ∙ ap (λ (ps : Parts). PToken x1 ∷ ps) (e2 ∙ ap (λ (ps : Parts). PTerm x2 ∷ ps) (e3))))) (have_named x0 x1 x2 x3 r3)))))

let_named : (term : PlacedTerm) (x1 : SeenToken) (name : SeenToken) (word : SeenToken) (rest : Parts) → in_parts (POther (PCommand (command.Let word name term)) ∷ rest) ≡ in_parts (PTerm term ∷ PToken x1 ∷ PToken name ∷ PToken word ∷ rest) ++ named_by 75 (PTerm term ∷ PToken x1 ∷ PToken name ∷ PToken word ∷ rest)
let_named term x1 name word rest = rw (all_named.let_command word name term) (simp (nil_right) refl)

let_adds : Adds 75 (record { takes = is_term ∷ is_token ∷ is_token ∷ is_token ∷ []; makes = λ parts. POther (PCommand (made_let parts)) })
let_adds parts h =
    top_term (is_token ∷ is_token ∷ is_token ∷ []) parts h (λ x0 r0 e0 h0.
    top_token (is_token ∷ is_token ∷ []) r0 h0 (λ x1 r1 e1 h1.
    top_token (is_token ∷ []) r1 h1 (λ x2 r2 e2 h2.
    top_token ([]) r2 h2 (λ x3 r3 e3 h3.
    subst (λ (ps : Parts). in_parts (POther (PCommand (made_let ps)) ∷ drop 4 ps) ≡ in_parts ps ++ named_by 75 ps) (sym (e0 ∙ ap (λ (ps : Parts). PTerm x0 ∷ ps) (e1 ∙ ap (λ (ps : Parts). PToken x1 ∷ ps) (e2 ∙ ap (λ (ps : Parts). PToken x2 ∷ ps) (e3))))) (let_named x0 x1 x2 x3 r3)))))

rewrite_named : (new : PlacedTerm) (x1 : SeenToken) (old : PlacedTerm) (word : SeenToken) (rest : Parts) → in_parts (POther (PCommand (command.Rewrite word old new)) ∷ rest) ≡ in_parts (PTerm new ∷ PToken x1 ∷ PTerm old ∷ PToken word ∷ rest) ++ named_by 76 (PTerm new ∷ PToken x1 ∷ PTerm old ∷ PToken word ∷ rest)
rewrite_named new x1 old word rest = rw (all_named.rewrite_command word old new) (simp (nil_right) refl)

rewrite_adds : Adds 76 (record { takes = is_term ∷ is_token ∷ is_term ∷ is_token ∷ []; makes = λ parts. POther (PCommand (made_rewrite parts)) })
rewrite_adds parts h =
    top_term (is_token ∷ is_term ∷ is_token ∷ []) parts h (λ x0 r0 e0 h0.
    top_token (is_term ∷ is_token ∷ []) r0 h0 (λ x1 r1 e1 h1.
    top_term (is_token ∷ []) r1 h1 (λ x2 r2 e2 h2.
    top_token ([]) r2 h2 (λ x3 r3 e3 h3.
    subst (λ (ps : Parts). in_parts (POther (PCommand (made_rewrite ps)) ∷ drop 4 ps) ≡ in_parts ps ++ named_by 76 ps) (sym (e0 ∙ ap (λ (ps : Parts). PTerm x0 ∷ ps) (e1 ∙ ap (λ (ps : Parts). PToken x1 ∷ ps) (e2 ∙ ap (λ (ps : Parts). PTerm x2 ∷ ps) (e3))))) (rewrite_named x0 x1 x2 x3 r3)))))

absurd_named : (proof : Cert) (x1 : SeenToken) (word : SeenToken) (rest : Parts) → in_parts (POther (PCommand (command.Absurd word proof)) ∷ rest) ≡ in_parts (POther (PCert proof) ∷ PToken x1 ∷ PToken word ∷ rest) ++ named_by 77 (POther (PCert proof) ∷ PToken x1 ∷ PToken word ∷ rest)
absurd_named proof x1 word rest = rw (all_named.absurd_command word proof) (simp (nil_right) refl)

absurd_adds : Adds 77 (record { takes = is_cert ∷ is_token ∷ is_token ∷ []; makes = λ parts. POther (PCommand (made_absurd parts)) })
absurd_adds parts h =
    top_cert (is_token ∷ is_token ∷ []) parts h (λ x0 r0 e0 h0.
    top_token (is_token ∷ []) r0 h0 (λ x1 r1 e1 h1.
    top_token ([]) r1 h1 (λ x2 r2 e2 h2.
    subst (λ (ps : Parts). in_parts (POther (PCommand (made_absurd ps)) ∷ drop 3 ps) ≡ in_parts ps ++ named_by 77 ps) (sym (e0 ∙ ap (λ (ps : Parts). POther (PCert x0) ∷ ps) (e1 ∙ ap (λ (ps : Parts). PToken x1 ∷ ps) (e2)))) (absurd_named x0 x1 x2 r2))))

clash_named : (atoms : List Atom) (word : SeenToken) (rest : Parts) → in_parts (POther (PCommand (command.Clash word atoms)) ∷ rest) ≡ in_parts (POther (PAtoms atoms) ∷ PToken word ∷ rest) ++ named_by 78 (POther (PAtoms atoms) ∷ PToken word ∷ rest)
clash_named atoms word rest = rw (all_named.clash_command word atoms) (simp (nil_right) refl)

clash_adds : Adds 78 (record { takes = is_atoms ∷ is_token ∷ []; makes = λ parts. POther (PCommand (made_clash parts)) })
clash_adds parts h =
    top_atoms (is_token ∷ []) parts h (λ x0 r0 e0 h0.
    top_token ([]) r0 h0 (λ x1 r1 e1 h1.
    subst (λ (ps : Parts). in_parts (POther (PCommand (made_clash ps)) ∷ drop 2 ps) ≡ in_parts ps ++ named_by 78 ps) (sym (e0 ∙ ap (λ (ps : Parts). POther (PAtoms x0) ∷ ps) (e1))) (clash_named x0 x1 r1)))

cases_named : (second : Block) (first : Block) (term : PlacedTerm) (word : SeenToken) (rest : Parts) → in_parts (POther (PCommand (command.Cases word term first second)) ∷ rest) ≡ in_parts (POther (PBlock second) ∷ POther (PBlock first) ∷ PTerm term ∷ PToken word ∷ rest) ++ named_by 79 (POther (PBlock second) ∷ POther (PBlock first) ∷ PTerm term ∷ PToken word ∷ rest)
cases_named second first term word rest = rw (all_named.cases_command word term first second) (simp (nil_right, joins) refl)

cases_adds : Adds 79 (record { takes = is_block ∷ is_block ∷ is_term ∷ is_token ∷ []; makes = λ parts. POther (PCommand (made_cases parts)) })
cases_adds parts h =
    top_block (is_block ∷ is_term ∷ is_token ∷ []) parts h (λ x0 r0 e0 h0.
    top_block (is_term ∷ is_token ∷ []) r0 h0 (λ x1 r1 e1 h1.
    top_term (is_token ∷ []) r1 h1 (λ x2 r2 e2 h2.
    top_token ([]) r2 h2 (λ x3 r3 e3 h3.
    subst (λ (ps : Parts). in_parts (POther (PCommand (made_cases ps)) ∷ drop 4 ps) ≡ in_parts ps ++ named_by 79 ps) (sym (e0 ∙ ap (λ (ps : Parts). POther (PBlock x0) ∷ ps) (e1 ∙ ap (λ (ps : Parts). POther (PBlock x1) ∷ ps) (e2 ∙ ap (λ (ps : Parts). PTerm x2 ∷ ps) (e3))))) (cases_named x0 x1 x2 x3 r3)))))

on_pair_named : (b : Atom) (x1 : SeenToken) (a : Atom) (word : SeenToken) (rest : Parts) → in_parts (POther (PCommand (command.OnPair word a b)) ∷ rest) ≡ in_parts (POther (PAtom b) ∷ PToken x1 ∷ POther (PAtom a) ∷ PToken word ∷ rest) ++ named_by 80 (POther (PAtom b) ∷ PToken x1 ∷ POther (PAtom a) ∷ PToken word ∷ rest)
on_pair_named b x1 a word rest = rw (all_named.on_pair_command word a b) (simp (nil_right, joins) refl)

on_pair_adds : Adds 80 (record { takes = is_atom ∷ is_token ∷ is_atom ∷ is_token ∷ []; makes = λ parts. POther (PCommand (made_on_pair parts)) })
on_pair_adds parts h =
    top_atom (is_token ∷ is_atom ∷ is_token ∷ []) parts h (λ x0 r0 e0 h0.
    top_token (is_atom ∷ is_token ∷ []) r0 h0 (λ x1 r1 e1 h1.
    top_atom (is_token ∷ []) r1 h1 (λ x2 r2 e2 h2.
    top_token ([]) r2 h2 (λ x3 r3 e3 h3.
    subst (λ (ps : Parts). in_parts (POther (PCommand (made_on_pair ps)) ∷ drop 4 ps) ≡ in_parts ps ++ named_by 80 ps) (sym (e0 ∙ ap (λ (ps : Parts). POther (PAtom x0) ∷ ps) (e1 ∙ ap (λ (ps : Parts). PToken x1 ∷ ps) (e2 ∙ ap (λ (ps : Parts). POther (PAtom x2) ∷ ps) (e3))))) (on_pair_named x0 x1 x2 x3 r3)))))

halves_new_named : (name : SeenToken) (x1 : SeenToken) (value : PlacedTerm) (x3 : SeenToken) (word : SeenToken) (rest : Parts) → in_parts (POther (PCommand (command.HalvesNew word value name)) ∷ rest) ≡ in_parts (PToken name ∷ PToken x1 ∷ PTerm value ∷ PToken x3 ∷ PToken word ∷ rest) ++ named_by 81 (PToken name ∷ PToken x1 ∷ PTerm value ∷ PToken x3 ∷ PToken word ∷ rest)
halves_new_named name x1 value x3 word rest = rw (all_named.halves_new_command word value name) (simp (nil_right) refl)

halves_new_adds : Adds 81 (record { takes = is_token ∷ is_token ∷ is_term ∷ is_token ∷ is_token ∷ []; makes = λ parts. POther (PCommand (made_halves_new parts)) })
halves_new_adds parts h =
    top_token (is_token ∷ is_term ∷ is_token ∷ is_token ∷ []) parts h (λ x0 r0 e0 h0.
    top_token (is_term ∷ is_token ∷ is_token ∷ []) r0 h0 (λ x1 r1 e1 h1.
    top_term (is_token ∷ is_token ∷ []) r1 h1 (λ x2 r2 e2 h2.
    top_token (is_token ∷ []) r2 h2 (λ x3 r3 e3 h3.
    top_token ([]) r3 h3 (λ x4 r4 e4 h4.
    subst (λ (ps : Parts). in_parts (POther (PCommand (made_halves_new ps)) ∷ drop 5 ps) ≡ in_parts ps ++ named_by 81 ps) (sym (e0 ∙ ap (λ (ps : Parts). PToken x0 ∷ ps) (e1 ∙ ap (λ (ps : Parts). PToken x1 ∷ ps) (e2 ∙ ap (λ (ps : Parts). PTerm x2 ∷ ps) (e3 ∙ ap (λ (ps : Parts). PToken x3 ∷ ps) (e4)))))) (halves_new_named x0 x1 x2 x3 x4 r4))))))

halves_set_named : (value : PlacedTerm) (name : PlacedTerm) (x2 : SeenToken) (word : SeenToken) (rest : Parts) → in_parts (POther (PCommand (command.HalvesSet word name value)) ∷ rest) ≡ in_parts (PTerm value ∷ PTerm name ∷ PToken x2 ∷ PToken word ∷ rest) ++ named_by 82 (PTerm value ∷ PTerm name ∷ PToken x2 ∷ PToken word ∷ rest)
halves_set_named value name x2 word rest = rw (all_named.halves_set_command word name value) (simp (nil_right) refl)

halves_set_adds : Adds 82 (record { takes = is_term ∷ is_term ∷ is_token ∷ is_token ∷ []; makes = λ parts. POther (PCommand (made_halves_set parts)) })
halves_set_adds parts h =
    top_term (is_term ∷ is_token ∷ is_token ∷ []) parts h (λ x0 r0 e0 h0.
    top_term (is_token ∷ is_token ∷ []) r0 h0 (λ x1 r1 e1 h1.
    top_token (is_token ∷ []) r1 h1 (λ x2 r2 e2 h2.
    top_token ([]) r2 h2 (λ x3 r3 e3 h3.
    subst (λ (ps : Parts). in_parts (POther (PCommand (made_halves_set ps)) ∷ drop 4 ps) ≡ in_parts ps ++ named_by 82 ps) (sym (e0 ∙ ap (λ (ps : Parts). PTerm x0 ∷ ps) (e1 ∙ ap (λ (ps : Parts). PTerm x1 ∷ ps) (e2 ∙ ap (λ (ps : Parts). PToken x2 ∷ ps) (e3))))) (halves_set_named x0 x1 x2 x3 r3)))))

at_named : (term : PlacedTerm) (x1 : SeenToken) (on : Atom) (word : SeenToken) (rest : Parts) → in_parts (POther (PCommand (command.At word on term)) ∷ rest) ≡ in_parts (PTerm term ∷ PToken x1 ∷ POther (PAtom on) ∷ PToken word ∷ rest) ++ named_by 83 (PTerm term ∷ PToken x1 ∷ POther (PAtom on) ∷ PToken word ∷ rest)
at_named term x1 on word rest = rw (all_named.at_command word on term) (simp (nil_right) refl)

at_adds : Adds 83 (record { takes = is_term ∷ is_token ∷ is_atom ∷ is_token ∷ []; makes = λ parts. POther (PCommand (made_at parts)) })
at_adds parts h =
    top_term (is_token ∷ is_atom ∷ is_token ∷ []) parts h (λ x0 r0 e0 h0.
    top_token (is_atom ∷ is_token ∷ []) r0 h0 (λ x1 r1 e1 h1.
    top_atom (is_token ∷ []) r1 h1 (λ x2 r2 e2 h2.
    top_token ([]) r2 h2 (λ x3 r3 e3 h3.
    subst (λ (ps : Parts). in_parts (POther (PCommand (made_at ps)) ∷ drop 4 ps) ≡ in_parts ps ++ named_by 83 ps) (sym (e0 ∙ ap (λ (ps : Parts). PTerm x0 ∷ ps) (e1 ∙ ap (λ (ps : Parts). PToken x1 ∷ ps) (e2 ∙ ap (λ (ps : Parts). POther (PAtom x2) ∷ ps) (e3))))) (at_named x0 x1 x2 x3 r3)))))

at_hole_named : (term : PlacedTerm) (x1 : SeenToken) (hole : SeenToken) (word : SeenToken) (rest : Parts) → in_parts (POther (PCommand (command.AtHole word hole term)) ∷ rest) ≡ in_parts (PTerm term ∷ PToken x1 ∷ PToken hole ∷ PToken word ∷ rest) ++ named_by 84 (PTerm term ∷ PToken x1 ∷ PToken hole ∷ PToken word ∷ rest)
at_hole_named term x1 hole word rest = rw (all_named.at_hole_command word hole term) (simp (nil_right) refl)

at_hole_adds : Adds 84 (record { takes = is_term ∷ is_token ∷ is_token ∷ is_token ∷ []; makes = λ parts. POther (PCommand (made_at_hole parts)) })
at_hole_adds parts h =
    top_term (is_token ∷ is_token ∷ is_token ∷ []) parts h (λ x0 r0 e0 h0.
    top_token (is_token ∷ is_token ∷ []) r0 h0 (λ x1 r1 e1 h1.
    top_token (is_token ∷ []) r1 h1 (λ x2 r2 e2 h2.
    top_token ([]) r2 h2 (λ x3 r3 e3 h3.
    subst (λ (ps : Parts). in_parts (POther (PCommand (made_at_hole ps)) ∷ drop 4 ps) ≡ in_parts ps ++ named_by 84 ps) (sym (e0 ∙ ap (λ (ps : Parts). PTerm x0 ∷ ps) (e1 ∙ ap (λ (ps : Parts). PToken x1 ∷ ps) (e2 ∙ ap (λ (ps : Parts). PToken x2 ∷ ps) (e3))))) (at_hole_named x0 x1 x2 x3 r3)))))

map_named : (block : Block) (name : SeenToken) (x2 : SeenToken) (new : List Atom) (x4 : SeenToken) (old : List Atom) (word : SeenToken) (rest : Parts) → in_parts (POther (PCommand (command.Map word old new name block)) ∷ rest) ≡ in_parts (POther (PBlock block) ∷ PToken name ∷ PToken x2 ∷ POther (PAtoms new) ∷ PToken x4 ∷ POther (PAtoms old) ∷ PToken word ∷ rest) ++ named_by 85 (POther (PBlock block) ∷ PToken name ∷ PToken x2 ∷ POther (PAtoms new) ∷ PToken x4 ∷ POther (PAtoms old) ∷ PToken word ∷ rest)
map_named block name x2 new x4 old word rest = rw (all_named.map_command word old new name block) (simp (nil_right, joins) refl)

map_adds : Adds 85 (record { takes = is_block ∷ is_token ∷ is_token ∷ is_atoms ∷ is_token ∷ is_atoms ∷ is_token ∷ []; makes = λ parts. POther (PCommand (made_map parts)) })
map_adds parts h =
    top_block (is_token ∷ is_token ∷ is_atoms ∷ is_token ∷ is_atoms ∷ is_token ∷ []) parts h (λ x0 r0 e0 h0.
    top_token (is_token ∷ is_atoms ∷ is_token ∷ is_atoms ∷ is_token ∷ []) r0 h0 (λ x1 r1 e1 h1.
    top_token (is_atoms ∷ is_token ∷ is_atoms ∷ is_token ∷ []) r1 h1 (λ x2 r2 e2 h2.
    top_atoms (is_token ∷ is_atoms ∷ is_token ∷ []) r2 h2 (λ x3 r3 e3 h3.
    top_token (is_atoms ∷ is_token ∷ []) r3 h3 (λ x4 r4 e4 h4.
    top_atoms (is_token ∷ []) r4 h4 (λ x5 r5 e5 h5.
    top_token ([]) r5 h5 (λ x6 r6 e6 h6.
    subst (λ (ps : Parts). in_parts (POther (PCommand (made_map ps)) ∷ drop 7 ps) ≡ in_parts ps ++ named_by 85 ps) (sym (e0 ∙ ap (λ (ps : Parts). POther (PBlock x0) ∷ ps) (e1 ∙ ap (λ (ps : Parts). PToken x1 ∷ ps) (e2 ∙ ap (λ (ps : Parts). PToken x2 ∷ ps) (e3 ∙ ap (λ (ps : Parts). POther (PAtoms x3) ∷ ps) (e4 ∙ ap (λ (ps : Parts). PToken x4 ∷ ps) (e5 ∙ ap (λ (ps : Parts). POther (PAtoms x5) ∷ ps) (e6)))))))) (map_named x0 x1 x2 x3 x4 x5 x6 r6))))))))

alone_named : (word : SeenToken) (rest : Parts) → in_parts (POther (PCommand (command.Alone word)) ∷ rest) ≡ in_parts (PToken word ∷ rest) ++ named_by 86 (PToken word ∷ rest)
alone_named word rest = rw (all_named.alone_command word) (simp (nil_right) refl)

alone_adds : Adds 86 (record { takes = is_token ∷ []; makes = λ parts. POther (PCommand (made_alone parts)) })
alone_adds parts h =
    top_token ([]) parts h (λ x0 r0 e0 h0.
    subst (λ (ps : Parts). in_parts (POther (PCommand (made_alone ps)) ∷ drop 1 ps) ≡ in_parts ps ++ named_by 86 ps) (sym (e0)) (alone_named x0 r0))

sim_named : (choices : List PlacedTerm) (call : PlacedTerm) (word : SeenToken) (rest : Parts) → in_parts (POther (PCommand (command.Sim word call choices)) ∷ rest) ≡ in_parts (POther (PTerms choices) ∷ PTerm call ∷ PToken word ∷ rest) ++ named_by 87 (POther (PTerms choices) ∷ PTerm call ∷ PToken word ∷ rest)
sim_named choices call word rest = rw (all_named.sim_command word call choices) (simp (nil_right) refl)

sim_adds : Adds 87 (record { takes = is_terms ∷ is_term ∷ is_token ∷ []; makes = λ parts. POther (PCommand (made_sim parts)) })
sim_adds parts h =
    top_terms (is_term ∷ is_token ∷ []) parts h (λ x0 r0 e0 h0.
    top_term (is_token ∷ []) r0 h0 (λ x1 r1 e1 h1.
    top_token ([]) r1 h1 (λ x2 r2 e2 h2.
    subst (λ (ps : Parts). in_parts (POther (PCommand (made_sim ps)) ∷ drop 3 ps) ≡ in_parts ps ++ named_by 87 ps) (sym (e0 ∙ ap (λ (ps : Parts). POther (PTerms x0) ∷ ps) (e1 ∙ ap (λ (ps : Parts). PTerm x1 ∷ ps) (e2)))) (sim_named x0 x1 x2 r2))))

on_block_named : (block : Block) (word : SeenToken) (rest : Parts) → in_parts (POther (PCommand (command.OnBlock word block)) ∷ rest) ≡ in_parts (POther (PBlock block) ∷ PToken word ∷ rest) ++ named_by 88 (POther (PBlock block) ∷ PToken word ∷ rest)
on_block_named block word rest = rw (all_named.on_block_command word block) (simp (nil_right) refl)

on_block_adds : Adds 88 (record { takes = is_block ∷ is_token ∷ []; makes = λ parts. POther (PCommand (made_on_block parts)) })
on_block_adds parts h =
    top_block (is_token ∷ []) parts h (λ x0 r0 e0 h0.
    top_token ([]) r0 h0 (λ x1 r1 e1 h1.
    subst (λ (ps : Parts). in_parts (POther (PCommand (made_on_block ps)) ∷ drop 2 ps) ≡ in_parts ps ++ named_by 88 ps) (sym (e0 ∙ ap (λ (ps : Parts). POther (PBlock x0) ∷ ps) (e1))) (on_block_named x0 x1 r1)))

boot_named : (choices : List PlacedTerm) (word : SeenToken) (rest : Parts) → in_parts (POther (PCommand (command.Boot word choices)) ∷ rest) ≡ in_parts (POther (PTerms choices) ∷ PToken word ∷ rest) ++ named_by 89 (POther (PTerms choices) ∷ PToken word ∷ rest)
boot_named choices word rest = rw (all_named.boot_command word choices) (simp (nil_right) refl)

boot_adds : Adds 89 (record { takes = is_terms ∷ is_token ∷ []; makes = λ parts. POther (PCommand (made_boot parts)) })
boot_adds parts h =
    top_terms (is_token ∷ []) parts h (λ x0 r0 e0 h0.
    top_token ([]) r0 h0 (λ x1 r1 e1 h1.
    subst (λ (ps : Parts). in_parts (POther (PCommand (made_boot ps)) ∷ drop 2 ps) ≡ in_parts ps ++ named_by 89 ps) (sym (e0 ∙ ap (λ (ps : Parts). POther (PTerms x0) ∷ ps) (e1))) (boot_named x0 x1 r1)))

guard_named : (inst : Inst) (mutex : PlacedTerm) (word : SeenToken) (rest : Parts) → in_parts (POther (PCommand (command.Guard word mutex inst)) ∷ rest) ≡ in_parts (POther (PInst inst) ∷ PTerm mutex ∷ PToken word ∷ rest) ++ named_by 90 (POther (PInst inst) ∷ PTerm mutex ∷ PToken word ∷ rest)
guard_named inst mutex word rest = rw (all_named.guard_command word mutex inst) (simp (nil_right) refl)

guard_adds : Adds 90 (record { takes = is_inst ∷ is_term ∷ is_token ∷ []; makes = λ parts. POther (PCommand (made_guard parts)) })
guard_adds parts h =
    top_inst (is_term ∷ is_token ∷ []) parts h (λ x0 r0 e0 h0.
    top_term (is_token ∷ []) r0 h0 (λ x1 r1 e1 h1.
    top_token ([]) r1 h1 (λ x2 r2 e2 h2.
    subst (λ (ps : Parts). in_parts (POther (PCommand (made_guard ps)) ∷ drop 3 ps) ≡ in_parts ps ++ named_by 90 ps) (sym (e0 ∙ ap (λ (ps : Parts). POther (PInst x0) ∷ ps) (e1 ∙ ap (λ (ps : Parts). PTerm x1 ∷ ps) (e2)))) (guard_named x0 x1 x2 r2))))

set_book_named : (value : PlacedTerm) (x1 : SeenToken) (at : PlacedTerm) (name : SeenToken) (word : SeenToken) (rest : Parts) → in_parts (POther (PCommand (command.SetBook word name at value)) ∷ rest) ≡ in_parts (PTerm value ∷ PToken x1 ∷ PTerm at ∷ PToken name ∷ PToken word ∷ rest) ++ named_by 91 (PTerm value ∷ PToken x1 ∷ PTerm at ∷ PToken name ∷ PToken word ∷ rest)
set_book_named value x1 at name word rest = rw (all_named.set_book_command word name at value) (simp (nil_right) refl)

set_book_adds : Adds 91 (record { takes = is_term ∷ is_token ∷ is_term ∷ is_token ∷ is_token ∷ []; makes = λ parts. POther (PCommand (made_set_book parts)) })
set_book_adds parts h =
    top_term (is_token ∷ is_term ∷ is_token ∷ is_token ∷ []) parts h (λ x0 r0 e0 h0.
    top_token (is_term ∷ is_token ∷ is_token ∷ []) r0 h0 (λ x1 r1 e1 h1.
    top_term (is_token ∷ is_token ∷ []) r1 h1 (λ x2 r2 e2 h2.
    top_token (is_token ∷ []) r2 h2 (λ x3 r3 e3 h3.
    top_token ([]) r3 h3 (λ x4 r4 e4 h4.
    subst (λ (ps : Parts). in_parts (POther (PCommand (made_set_book ps)) ∷ drop 5 ps) ≡ in_parts ps ++ named_by 91 ps) (sym (e0 ∙ ap (λ (ps : Parts). PTerm x0 ∷ ps) (e1 ∙ ap (λ (ps : Parts). PToken x1 ∷ ps) (e2 ∙ ap (λ (ps : Parts). PTerm x2 ∷ ps) (e3 ∙ ap (λ (ps : Parts). PToken x3 ∷ ps) (e4)))))) (set_book_named x0 x1 x2 x3 x4 r4))))))

forget_named : (value : PlacedTerm) (x1 : SeenToken) (at : PlacedTerm) (disk : PlacedTerm) (word : SeenToken) (rest : Parts) → in_parts (POther (PCommand (command.Forget word disk at value)) ∷ rest) ≡ in_parts (PTerm value ∷ PToken x1 ∷ PTerm at ∷ PTerm disk ∷ PToken word ∷ rest) ++ named_by 92 (PTerm value ∷ PToken x1 ∷ PTerm at ∷ PTerm disk ∷ PToken word ∷ rest)
forget_named value x1 at disk word rest = rw (all_named.forget_command word disk at value) (simp (nil_right) refl)

forget_adds : Adds 92 (record { takes = is_term ∷ is_token ∷ is_term ∷ is_term ∷ is_token ∷ []; makes = λ parts. POther (PCommand (made_forget parts)) })
forget_adds parts h =
    top_term (is_token ∷ is_term ∷ is_term ∷ is_token ∷ []) parts h (λ x0 r0 e0 h0.
    top_token (is_term ∷ is_term ∷ is_token ∷ []) r0 h0 (λ x1 r1 e1 h1.
    top_term (is_term ∷ is_token ∷ []) r1 h1 (λ x2 r2 e2 h2.
    top_term (is_token ∷ []) r2 h2 (λ x3 r3 e3 h3.
    top_token ([]) r3 h3 (λ x4 r4 e4 h4.
    subst (λ (ps : Parts). in_parts (POther (PCommand (made_forget ps)) ∷ drop 5 ps) ≡ in_parts ps ++ named_by 92 ps) (sym (e0 ∙ ap (λ (ps : Parts). PTerm x0 ∷ ps) (e1 ∙ ap (λ (ps : Parts). PToken x1 ∷ ps) (e2 ∙ ap (λ (ps : Parts). PTerm x2 ∷ ps) (e3 ∙ ap (λ (ps : Parts). PTerm x3 ∷ ps) (e4)))))) (forget_named x0 x1 x2 x3 x4 r4))))))

step_named : (blocks : List Block) (during : Option Block) (names : List SeenToken) (given : List PlacedTerm) (word : SeenToken) (rest : Parts) → in_parts (POther (PCommand (command.Step word given names during blocks)) ∷ rest) ≡ in_parts (POther (PBlocks blocks) ∷ POther (PMaybeBlock during) ∷ POther (PNames names) ∷ POther (PTerms given) ∷ PToken word ∷ rest) ++ named_by 93 (POther (PBlocks blocks) ∷ POther (PMaybeBlock during) ∷ POther (PNames names) ∷ POther (PTerms given) ∷ PToken word ∷ rest)
step_named blocks during names given word rest = rw (all_named.step_command word given names during blocks) (simp (nil_right, joins) refl)

step_adds : Adds 93 (record { takes = is_blocks ∷ is_maybe_block ∷ is_names ∷ is_terms ∷ is_token ∷ []; makes = λ parts. POther (PCommand (made_step parts)) })
step_adds parts h =
    top_blocks (is_maybe_block ∷ is_names ∷ is_terms ∷ is_token ∷ []) parts h (λ x0 r0 e0 h0.
    top_maybe_block (is_names ∷ is_terms ∷ is_token ∷ []) r0 h0 (λ x1 r1 e1 h1.
    top_names (is_terms ∷ is_token ∷ []) r1 h1 (λ x2 r2 e2 h2.
    top_terms (is_token ∷ []) r2 h2 (λ x3 r3 e3 h3.
    top_token ([]) r3 h3 (λ x4 r4 e4 h4.
    subst (λ (ps : Parts). in_parts (POther (PCommand (made_step ps)) ∷ drop 5 ps) ≡ in_parts ps ++ named_by 93 ps) (sym (e0 ∙ ap (λ (ps : Parts). POther (PBlocks x0) ∷ ps) (e1 ∙ ap (λ (ps : Parts). POther (PMaybeBlock x1) ∷ ps) (e2 ∙ ap (λ (ps : Parts). POther (PNames x2) ∷ ps) (e3 ∙ ap (λ (ps : Parts). POther (PTerms x3) ∷ ps) (e4)))))) (step_named x0 x1 x2 x3 x4 r4))))))

to_named : (terms : List PlacedTerm) (cut : SeenToken) (word : SeenToken) (rest : Parts) → in_parts (POther (PCommand (command.To word cut terms)) ∷ rest) ≡ in_parts (POther (PTerms terms) ∷ PToken cut ∷ PToken word ∷ rest) ++ named_by 94 (POther (PTerms terms) ∷ PToken cut ∷ PToken word ∷ rest)
to_named terms cut word rest = rw (all_named.to_command word cut terms) (simp (nil_right) refl)

to_adds : Adds 94 (record { takes = is_terms ∷ is_token ∷ is_token ∷ []; makes = λ parts. POther (PCommand (made_to parts)) })
to_adds parts h =
    top_terms (is_token ∷ is_token ∷ []) parts h (λ x0 r0 e0 h0.
    top_token (is_token ∷ []) r0 h0 (λ x1 r1 e1 h1.
    top_token ([]) r1 h1 (λ x2 r2 e2 h2.
    subst (λ (ps : Parts). in_parts (POther (PCommand (made_to ps)) ∷ drop 3 ps) ≡ in_parts ps ++ named_by 94 ps) (sym (e0 ∙ ap (λ (ps : Parts). POther (PTerms x0) ∷ ps) (e1 ∙ ap (λ (ps : Parts). PToken x1 ∷ ps) (e2)))) (to_named x0 x1 x2 r2))))

merge_named : (slice : PlacedTerm) (x1 : SeenToken) (b : Atom) (x3 : SeenToken) (a : Atom) (word : SeenToken) (rest : Parts) → in_parts (POther (PCommand (command.Merge word a b slice)) ∷ rest) ≡ in_parts (PTerm slice ∷ PToken x1 ∷ POther (PAtom b) ∷ PToken x3 ∷ POther (PAtom a) ∷ PToken word ∷ rest) ++ named_by 95 (PTerm slice ∷ PToken x1 ∷ POther (PAtom b) ∷ PToken x3 ∷ POther (PAtom a) ∷ PToken word ∷ rest)
merge_named slice x1 b x3 a word rest = rw (all_named.merge_command word a b slice) (simp (nil_right, joins) refl)

merge_adds : Adds 95 (record { takes = is_term ∷ is_token ∷ is_atom ∷ is_token ∷ is_atom ∷ is_token ∷ []; makes = λ parts. POther (PCommand (made_merge parts)) })
merge_adds parts h =
    top_term (is_token ∷ is_atom ∷ is_token ∷ is_atom ∷ is_token ∷ []) parts h (λ x0 r0 e0 h0.
    top_token (is_atom ∷ is_token ∷ is_atom ∷ is_token ∷ []) r0 h0 (λ x1 r1 e1 h1.
    top_atom (is_token ∷ is_atom ∷ is_token ∷ []) r1 h1 (λ x2 r2 e2 h2.
    top_token (is_atom ∷ is_token ∷ []) r2 h2 (λ x3 r3 e3 h3.
    top_atom (is_token ∷ []) r3 h3 (λ x4 r4 e4 h4.
    top_token ([]) r4 h4 (λ x5 r5 e5 h5.
    subst (λ (ps : Parts). in_parts (POther (PCommand (made_merge ps)) ∷ drop 6 ps) ≡ in_parts ps ++ named_by 95 ps) (sym (e0 ∙ ap (λ (ps : Parts). PTerm x0 ∷ ps) (e1 ∙ ap (λ (ps : Parts). PToken x1 ∷ ps) (e2 ∙ ap (λ (ps : Parts). POther (PAtom x2) ∷ ps) (e3 ∙ ap (λ (ps : Parts). PToken x3 ∷ ps) (e4 ∙ ap (λ (ps : Parts). POther (PAtom x4) ∷ ps) (e5))))))) (merge_named x0 x1 x2 x3 x4 x5 r5)))))))

void_named : (item : SeenToken) (word : SeenToken) (rest : Parts) → in_parts (POther (PCommand (command.Void word item)) ∷ rest) ≡ in_parts (PToken item ∷ PToken word ∷ rest) ++ named_by 96 (PToken item ∷ PToken word ∷ rest)
void_named item word rest = rw (all_named.void_command word item) (simp (nil_right) refl)

void_adds : Adds 96 (record { takes = is_token ∷ is_token ∷ []; makes = λ parts. POther (PCommand (made_void parts)) })
void_adds parts h =
    top_token (is_token ∷ []) parts h (λ x0 r0 e0 h0.
    top_token ([]) r0 h0 (λ x1 r1 e1 h1.
    subst (λ (ps : Parts). in_parts (POther (PCommand (made_void ps)) ∷ drop 2 ps) ≡ in_parts ps ++ named_by 96 ps) (sym (e0 ∙ ap (λ (ps : Parts). PToken x0 ∷ ps) (e1))) (void_named x0 x1 r1)))

yield_named : (x0 : SeenToken) (high : PlacedTerm) (x2 : SeenToken) (low : PlacedTerm) (x4 : SeenToken) (slice : PlacedTerm) (x6 : SeenToken) (x7 : SeenToken) (x8 : SeenToken) (b : Atom) (x10 : SeenToken) (a : Atom) (word : SeenToken) (rest : Parts) → in_parts (POther (PCommand (command.Yield word a b slice low high)) ∷ rest) ≡ in_parts (PToken x0 ∷ PTerm high ∷ PToken x2 ∷ PTerm low ∷ PToken x4 ∷ PTerm slice ∷ PToken x6 ∷ PToken x7 ∷ PToken x8 ∷ POther (PAtom b) ∷ PToken x10 ∷ POther (PAtom a) ∷ PToken word ∷ rest) ++ named_by 97 (PToken x0 ∷ PTerm high ∷ PToken x2 ∷ PTerm low ∷ PToken x4 ∷ PTerm slice ∷ PToken x6 ∷ PToken x7 ∷ PToken x8 ∷ POther (PAtom b) ∷ PToken x10 ∷ POther (PAtom a) ∷ PToken word ∷ rest)
yield_named x0 high x2 low x4 slice x6 x7 x8 b x10 a word rest = rw (all_named.yield_command word a b slice low high) (simp (nil_right, joins) refl)

yield_adds : Adds 97 (record { takes = is_token ∷ is_term ∷ is_token ∷ is_term ∷ is_token ∷ is_term ∷ is_token ∷ is_token ∷ is_token ∷ is_atom ∷ is_token ∷ is_atom ∷ is_token ∷ []; makes = λ parts. POther (PCommand (made_yield parts)) })
yield_adds parts h =
    top_token (is_term ∷ is_token ∷ is_term ∷ is_token ∷ is_term ∷ is_token ∷ is_token ∷ is_token ∷ is_atom ∷ is_token ∷ is_atom ∷ is_token ∷ []) parts h (λ x0 r0 e0 h0.
    top_term (is_token ∷ is_term ∷ is_token ∷ is_term ∷ is_token ∷ is_token ∷ is_token ∷ is_atom ∷ is_token ∷ is_atom ∷ is_token ∷ []) r0 h0 (λ x1 r1 e1 h1.
    top_token (is_term ∷ is_token ∷ is_term ∷ is_token ∷ is_token ∷ is_token ∷ is_atom ∷ is_token ∷ is_atom ∷ is_token ∷ []) r1 h1 (λ x2 r2 e2 h2.
    top_term (is_token ∷ is_term ∷ is_token ∷ is_token ∷ is_token ∷ is_atom ∷ is_token ∷ is_atom ∷ is_token ∷ []) r2 h2 (λ x3 r3 e3 h3.
    top_token (is_term ∷ is_token ∷ is_token ∷ is_token ∷ is_atom ∷ is_token ∷ is_atom ∷ is_token ∷ []) r3 h3 (λ x4 r4 e4 h4.
    top_term (is_token ∷ is_token ∷ is_token ∷ is_atom ∷ is_token ∷ is_atom ∷ is_token ∷ []) r4 h4 (λ x5 r5 e5 h5.
    top_token (is_token ∷ is_token ∷ is_atom ∷ is_token ∷ is_atom ∷ is_token ∷ []) r5 h5 (λ x6 r6 e6 h6.
    top_token (is_token ∷ is_atom ∷ is_token ∷ is_atom ∷ is_token ∷ []) r6 h6 (λ x7 r7 e7 h7.
    top_token (is_atom ∷ is_token ∷ is_atom ∷ is_token ∷ []) r7 h7 (λ x8 r8 e8 h8.
    top_atom (is_token ∷ is_atom ∷ is_token ∷ []) r8 h8 (λ x9 r9 e9 h9.
    top_token (is_atom ∷ is_token ∷ []) r9 h9 (λ x10 r10 e10 h10.
    top_atom (is_token ∷ []) r10 h10 (λ x11 r11 e11 h11.
    top_token ([]) r11 h11 (λ x12 r12 e12 h12.
    subst (λ (ps : Parts). in_parts (POther (PCommand (made_yield ps)) ∷ drop 13 ps) ≡ in_parts ps ++ named_by 97 ps) (sym (e0 ∙ ap (λ (ps : Parts). PToken x0 ∷ ps) (e1 ∙ ap (λ (ps : Parts). PTerm x1 ∷ ps) (e2 ∙ ap (λ (ps : Parts). PToken x2 ∷ ps) (e3 ∙ ap (λ (ps : Parts). PTerm x3 ∷ ps) (e4 ∙ ap (λ (ps : Parts). PToken x4 ∷ ps) (e5 ∙ ap (λ (ps : Parts). PTerm x5 ∷ ps) (e6 ∙ ap (λ (ps : Parts). PToken x6 ∷ ps) (e7 ∙ ap (λ (ps : Parts). PToken x7 ∷ ps) (e8 ∙ ap (λ (ps : Parts). PToken x8 ∷ ps) (e9 ∙ ap (λ (ps : Parts). POther (PAtom x9) ∷ ps) (e10 ∙ ap (λ (ps : Parts). PToken x10 ∷ ps) (e11 ∙ ap (λ (ps : Parts). POther (PAtom x11) ∷ ps) (e12)))))))))))))) (yield_named x0 x1 x2 x3 x4 x5 x6 x7 x8 x9 x10 x11 x12 r12))))))))))))))

word_names_adds : Adds 98 (record { takes = is_names ∷ is_token ∷ []; makes = λ parts. POther (PNames (made_word_names parts)) })
word_names_adds = plain_adds 98 (record { takes = is_names ∷ is_token ∷ []; makes = λ parts. POther (PNames (made_word_names parts)) }) (plain_names, (plain_token, tt)) (λ parts. refl) (λ parts. refl)

no_during_named : (rest : Parts) → in_parts (POther (PMaybeBlock None) ∷ rest) ≡ in_parts (rest) ++ named_by 99 (rest)
no_during_named rest = simp (nil_right) refl

no_during_adds : Adds 99 (record { takes = []; makes = λ parts. POther (PMaybeBlock (made_no_during parts)) })
no_during_adds parts h = no_during_named parts

during_named : (block : Block) (x1 : SeenToken) (rest : Parts) → in_parts (POther (PMaybeBlock (Some block)) ∷ rest) ≡ in_parts (POther (PBlock block) ∷ PToken x1 ∷ rest) ++ named_by 100 (POther (PBlock block) ∷ PToken x1 ∷ rest)
during_named block x1 rest = simp (nil_right) refl

during_adds : Adds 100 (record { takes = is_block ∷ is_token ∷ []; makes = λ parts. POther (PMaybeBlock (made_during parts)) })
during_adds parts h =
    top_block (is_token ∷ []) parts h (λ x0 r0 e0 h0.
    top_token ([]) r0 h0 (λ x1 r1 e1 h1.
    subst (λ (ps : Parts). in_parts (POther (PMaybeBlock (made_during ps)) ∷ drop 2 ps) ≡ in_parts ps ++ named_by 100 ps) (sym (e0 ∙ ap (λ (ps : Parts). POther (PBlock x0) ∷ ps) (e1))) (during_named x0 x1 r1)))

no_blocks_named : (rest : Parts) → in_parts (POther (PBlocks []) ∷ rest) ≡ in_parts (rest) ++ named_by 101 (rest)
no_blocks_named rest = simp (nil_right) refl

no_blocks_adds : Adds 101 (record { takes = []; makes = λ parts. POther (PBlocks (made_no_blocks parts)) })
no_blocks_adds parts h = no_blocks_named parts

next_block_named : (block : Block) (blocks : List Block) (rest : Parts) → in_parts (POther (PBlocks (blocks ++ block ∷ [])) ∷ rest) ≡ in_parts (POther (PBlock block) ∷ POther (PBlocks blocks) ∷ rest) ++ named_by 102 (POther (PBlock block) ∷ POther (PBlocks blocks) ∷ rest)
next_block_named block blocks rest = rw (joined_end in_block blocks block) (simp (nil_right, joins) refl)

next_block_adds : Adds 102 (record { takes = is_block ∷ is_blocks ∷ []; makes = λ parts. POther (PBlocks (made_next_block parts)) })
next_block_adds parts h =
    top_block (is_blocks ∷ []) parts h (λ x0 r0 e0 h0.
    top_blocks ([]) r0 h0 (λ x1 r1 e1 h1.
    subst (λ (ps : Parts). in_parts (POther (PBlocks (made_next_block ps)) ∷ drop 2 ps) ≡ in_parts ps ++ named_by 102 ps) (sym (e0 ∙ ap (λ (ps : Parts). POther (PBlock x0) ∷ ps) (e1))) (next_block_named x0 x1 r1)))

no_arms_named : (rest : Parts) → in_parts (POther (PArms []) ∷ rest) ≡ in_parts (rest) ++ named_by 103 (rest)
no_arms_named rest = simp (nil_right) refl

no_arms_adds : Adds 103 (record { takes = []; makes = λ parts. POther (PArms (made_no_arms parts)) })
no_arms_adds parts h = no_arms_named parts

next_arm_named : (arm : Arm) (arms : List Arm) (rest : Parts) → in_parts (POther (PArms (arms ++ arm ∷ [])) ∷ rest) ≡ in_parts (POther (PArm arm) ∷ POther (PArms arms) ∷ rest) ++ named_by 104 (POther (PArm arm) ∷ POther (PArms arms) ∷ rest)
next_arm_named arm arms rest = rw (joined_end in_arm arms arm) (simp (nil_right, joins) refl)

next_arm_adds : Adds 104 (record { takes = is_arm ∷ is_arms ∷ []; makes = λ parts. POther (PArms (made_next_arm parts)) })
next_arm_adds parts h =
    top_arm (is_arms ∷ []) parts h (λ x0 r0 e0 h0.
    top_arms ([]) r0 h0 (λ x1 r1 e1 h1.
    subst (λ (ps : Parts). in_parts (POther (PArms (made_next_arm ps)) ∷ drop 2 ps) ≡ in_parts ps ++ named_by 104 ps) (sym (e0 ∙ ap (λ (ps : Parts). POther (PArm x0) ∷ ps) (e1))) (next_arm_named x0 x1 r1)))

arm_named : (end : SeenToken) (commands : List Command) (names : List SeenToken) (start : SeenToken) (rest : Parts) → in_parts (POther (PArm (record { names = names; block = record { start = start; commands = commands; end = end } })) ∷ rest) ≡ in_parts (PToken end ∷ POther (PCommands commands) ∷ POther (PNames names) ∷ PToken start ∷ rest) ++ named_by 105 (PToken end ∷ POther (PCommands commands) ∷ POther (PNames names) ∷ PToken start ∷ rest)
arm_named end commands names start rest = rw ((all_named.an_arm names (record { start = start; commands = commands; end = end }) ∙ all_named.a_block start end commands)) (simp (nil_right) refl)

arm_adds : Adds 105 (record { takes = is_token ∷ is_commands ∷ is_names ∷ is_token ∷ []; makes = λ parts. POther (PArm (made_arm parts)) })
arm_adds parts h =
    top_token (is_commands ∷ is_names ∷ is_token ∷ []) parts h (λ x0 r0 e0 h0.
    top_commands (is_names ∷ is_token ∷ []) r0 h0 (λ x1 r1 e1 h1.
    top_names (is_token ∷ []) r1 h1 (λ x2 r2 e2 h2.
    top_token ([]) r2 h2 (λ x3 r3 e3 h3.
    subst (λ (ps : Parts). in_parts (POther (PArm (made_arm ps)) ∷ drop 4 ps) ≡ in_parts ps ++ named_by 105 ps) (sym (e0 ∙ ap (λ (ps : Parts). PToken x0 ∷ ps) (e1 ∙ ap (λ (ps : Parts). POther (PCommands x1) ∷ ps) (e2 ∙ ap (λ (ps : Parts). POther (PNames x2) ∷ ps) (e3))))) (arm_named x0 x1 x2 x3 r3)))))

no_commands_named : (rest : Parts) → in_parts (POther (PCommands []) ∷ rest) ≡ in_parts (rest) ++ named_by 106 (rest)
no_commands_named rest = simp (nil_right) refl

no_commands_adds : Adds 106 (record { takes = []; makes = λ parts. POther (PCommands (made_no_commands parts)) })
no_commands_adds parts h = no_commands_named parts

command_named : (x0 : SeenToken) (next : Command) (commands : List Command) (rest : Parts) → in_parts (POther (PCommands (commands ++ next ∷ [])) ∷ rest) ≡ in_parts (PToken x0 ∷ POther (PCommand next) ∷ POther (PCommands commands) ∷ rest) ++ named_by 107 (PToken x0 ∷ POther (PCommand next) ∷ POther (PCommands commands) ∷ rest)
command_named x0 next commands rest = rw (joined_end in_command commands next) (simp (nil_right, joins) refl)

command_adds : Adds 107 (record { takes = is_token ∷ is_command ∷ is_commands ∷ []; makes = λ parts. POther (PCommands (made_command parts)) })
command_adds parts h =
    top_token (is_command ∷ is_commands ∷ []) parts h (λ x0 r0 e0 h0.
    top_command (is_commands ∷ []) r0 h0 (λ x1 r1 e1 h1.
    top_commands ([]) r1 h1 (λ x2 r2 e2 h2.
    subst (λ (ps : Parts). in_parts (POther (PCommands (made_command ps)) ∷ drop 3 ps) ≡ in_parts ps ++ named_by 107 ps) (sym (e0 ∙ ap (λ (ps : Parts). PToken x0 ∷ ps) (e1 ∙ ap (λ (ps : Parts). POther (PCommand x1) ∷ ps) (e2)))) (command_named x0 x1 x2 r2))))

last_named : (x0 : Option SeenToken) (last : Command) (commands : List Command) (rest : Parts) → in_parts (POther (PCommands (commands ++ last ∷ [])) ∷ rest) ≡ in_parts (POther (PEnding x0) ∷ POther (PCommand last) ∷ POther (PCommands commands) ∷ rest) ++ named_by 108 (POther (PEnding x0) ∷ POther (PCommand last) ∷ POther (PCommands commands) ∷ rest)
last_named x0 last commands rest = rw (joined_end in_command commands last) (simp (nil_right, joins) refl)

last_adds : Adds 108 (record { takes = is_ending ∷ is_command ∷ is_commands ∷ []; makes = λ parts. POther (PCommands (made_last parts)) })
last_adds parts h =
    top_ending (is_command ∷ is_commands ∷ []) parts h (λ x0 r0 e0 h0.
    top_command (is_commands ∷ []) r0 h0 (λ x1 r1 e1 h1.
    top_commands ([]) r1 h1 (λ x2 r2 e2 h2.
    subst (λ (ps : Parts). in_parts (POther (PCommands (made_last ps)) ∷ drop 3 ps) ≡ in_parts ps ++ named_by 108 ps) (sym (e0 ∙ ap (λ (ps : Parts). POther (PEnding x0) ∷ ps) (e1 ∙ ap (λ (ps : Parts). POther (PCommand x1) ∷ ps) (e2)))) (last_named x0 x1 x2 r2))))

closed_adds : Adds 109 (record { takes = is_token ∷ []; makes = λ parts. POther (PEnding (made_closed parts)) })
closed_adds = plain_adds 109 (record { takes = is_token ∷ []; makes = λ parts. POther (PEnding (made_closed parts)) }) (plain_token, tt) (λ parts. refl) (λ parts. refl)

not_closed_adds : Adds 110 (record { takes = []; makes = λ parts. POther (PEnding (made_not_closed parts)) })
not_closed_adds = plain_adds 110 (record { takes = []; makes = λ parts. POther (PEnding (made_not_closed parts)) }) tt (λ parts. refl) (λ parts. refl)

block_named : (end : SeenToken) (commands : List Command) (start : SeenToken) (rest : Parts) → in_parts (POther (PBlock (record { start = start; commands = commands; end = end })) ∷ rest) ≡ in_parts (PToken end ∷ POther (PCommands commands) ∷ PToken start ∷ rest) ++ named_by 111 (PToken end ∷ POther (PCommands commands) ∷ PToken start ∷ rest)
block_named end commands start rest = rw (all_named.a_block start end commands) (simp (nil_right) refl)

block_adds : Adds 111 (record { takes = is_token ∷ is_commands ∷ is_token ∷ []; makes = λ parts. POther (PBlock (made_block parts)) })
block_adds parts h =
    top_token (is_commands ∷ is_token ∷ []) parts h (λ x0 r0 e0 h0.
    top_commands (is_token ∷ []) r0 h0 (λ x1 r1 e1 h1.
    top_token ([]) r1 h1 (λ x2 r2 e2 h2.
    subst (λ (ps : Parts). in_parts (POther (PBlock (made_block ps)) ∷ drop 3 ps) ≡ in_parts ps ++ named_by 111 ps) (sym (e0 ∙ ap (λ (ps : Parts). PToken x0 ∷ ps) (e1 ∙ ap (λ (ps : Parts). POther (PCommands x1) ∷ ps) (e2)))) (block_named x0 x1 x2 r2))))

case_named : (items : List Item) (vars : List Par) (x2 : SeenToken) (rest : Parts) → in_parts (POther (PCase (record { vars = vars; items = items })) ∷ rest) ≡ in_parts (POther (PItems items) ∷ POther (PPars vars) ∷ PToken x2 ∷ rest) ++ named_by 112 (POther (PItems items) ∷ POther (PPars vars) ∷ PToken x2 ∷ rest)
case_named items vars x2 rest = simp (nil_right) refl

case_adds : Adds 112 (record { takes = is_items ∷ is_pars ∷ is_token ∷ []; makes = λ parts. POther (PCase (made_case parts)) })
case_adds parts h =
    top_items (is_pars ∷ is_token ∷ []) parts h (λ x0 r0 e0 h0.
    top_pars (is_token ∷ []) r0 h0 (λ x1 r1 e1 h1.
    top_token ([]) r1 h1 (λ x2 r2 e2 h2.
    subst (λ (ps : Parts). in_parts (POther (PCase (made_case ps)) ∷ drop 3 ps) ≡ in_parts ps ++ named_by 112 ps) (sym (e0 ∙ ap (λ (ps : Parts). POther (PItems x0) ∷ ps) (e1 ∙ ap (λ (ps : Parts). POther (PPars x1) ∷ ps) (e2)))) (case_named x0 x1 x2 r2))))

no_cases_named : (rest : Parts) → in_parts (POther (PCases []) ∷ rest) ≡ in_parts (rest) ++ named_by 113 (rest)
no_cases_named rest = simp (nil_right) refl

no_cases_adds : Adds 113 (record { takes = []; makes = λ parts. POther (PCases (made_no_cases parts)) })
no_cases_adds parts h = no_cases_named parts

next_case_named : (next : Case) (cases : List Case) (rest : Parts) → in_parts (POther (PCases (cases ++ next ∷ [])) ∷ rest) ≡ in_parts (POther (PCase next) ∷ POther (PCases cases) ∷ rest) ++ named_by 114 (POther (PCase next) ∷ POther (PCases cases) ∷ rest)
next_case_named next cases rest = rw (by_each_end in_case cases next) (simp (nil_right, joins) refl)

next_case_adds : Adds 114 (record { takes = is_case ∷ is_cases ∷ []; makes = λ parts. POther (PCases (made_next_case parts)) })
next_case_adds parts h =
    top_case (is_cases ∷ []) parts h (λ x0 r0 e0 h0.
    top_cases ([]) r0 h0 (λ x1 r1 e1 h1.
    subst (λ (ps : Parts). in_parts (POther (PCases (made_next_case ps)) ∷ drop 2 ps) ≡ in_parts ps ++ named_by 114 ps) (sym (e0 ∙ ap (λ (ps : Parts). POther (PCase x0) ∷ ps) (e1))) (next_case_named x0 x1 r1)))

no_books_adds : Adds 115 (record { takes = []; makes = λ parts. POther (PBooks (made_no_books parts)) })
no_books_adds = plain_adds 115 (record { takes = []; makes = λ parts. POther (PBooks (made_no_books parts)) }) tt (λ parts. refl) (λ parts. refl)

book_adds : Adds 116 (record { takes = is_token ∷ is_term ∷ is_token ∷ is_token ∷ is_token ∷ is_token ∷ is_token ∷ is_token ∷ is_books ∷ []; makes = λ parts. POther (PBooks (made_book parts)) })
book_adds = plain_adds 116 (record { takes = is_token ∷ is_term ∷ is_token ∷ is_token ∷ is_token ∷ is_token ∷ is_token ∷ is_token ∷ is_books ∷ []; makes = λ parts. POther (PBooks (made_book parts)) }) (plain_token, (plain_term, (plain_token, (plain_token, (plain_token, (plain_token, (plain_token, (plain_token, (plain_books, tt))))))))) (λ parts. refl) (λ parts. refl)

no_preds_named : (rest : Parts) → in_parts (POther (PPreds []) ∷ rest) ≡ in_parts (rest) ++ named_by 117 (rest)
no_preds_named rest = simp (nil_right) refl

no_preds_adds : Adds 117 (record { takes = []; makes = λ parts. POther (PPreds (made_no_preds parts)) })
no_preds_adds parts h = no_preds_named parts

pred_named : (x0 : SeenToken) (cases : List Case) (x2 : SeenToken) (params : List Par) (name : SeenToken) (x5 : SeenToken) (preds : List Pred) (rest : Parts) → in_parts (POther (PPreds (preds ++ pred_of name params cases ∷ [])) ∷ rest) ≡ in_parts (PToken x0 ∷ POther (PCases cases) ∷ PToken x2 ∷ POther (PPars params) ∷ PToken name ∷ PToken x5 ∷ POther (PPreds preds) ∷ rest) ++ named_by 118 (PToken x0 ∷ POther (PCases cases) ∷ PToken x2 ∷ POther (PPars params) ∷ PToken name ∷ PToken x5 ∷ POther (PPreds preds) ∷ rest)
pred_named x0 cases x2 params name x5 preds rest = rw (by_each_end in_pred preds (pred_of name params cases)) (simp (nil_right, joins) refl)

pred_adds : Adds 118 (record { takes = is_token ∷ is_cases ∷ is_token ∷ is_pars ∷ is_token ∷ is_token ∷ is_preds ∷ []; makes = λ parts. POther (PPreds (made_pred parts)) })
pred_adds parts h =
    top_token (is_cases ∷ is_token ∷ is_pars ∷ is_token ∷ is_token ∷ is_preds ∷ []) parts h (λ x0 r0 e0 h0.
    top_cases (is_token ∷ is_pars ∷ is_token ∷ is_token ∷ is_preds ∷ []) r0 h0 (λ x1 r1 e1 h1.
    top_token (is_pars ∷ is_token ∷ is_token ∷ is_preds ∷ []) r1 h1 (λ x2 r2 e2 h2.
    top_pars (is_token ∷ is_token ∷ is_preds ∷ []) r2 h2 (λ x3 r3 e3 h3.
    top_token (is_token ∷ is_preds ∷ []) r3 h3 (λ x4 r4 e4 h4.
    top_token (is_preds ∷ []) r4 h4 (λ x5 r5 e5 h5.
    top_preds ([]) r5 h5 (λ x6 r6 e6 h6.
    subst (λ (ps : Parts). in_parts (POther (PPreds (made_pred ps)) ∷ drop 7 ps) ≡ in_parts ps ++ named_by 118 ps) (sym (e0 ∙ ap (λ (ps : Parts). PToken x0 ∷ ps) (e1 ∙ ap (λ (ps : Parts). POther (PCases x1) ∷ ps) (e2 ∙ ap (λ (ps : Parts). PToken x2 ∷ ps) (e3 ∙ ap (λ (ps : Parts). POther (PPars x3) ∷ ps) (e4 ∙ ap (λ (ps : Parts). PToken x4 ∷ ps) (e5 ∙ ap (λ (ps : Parts). PToken x5 ∷ ps) (e6)))))))) (pred_named x0 x1 x2 x3 x4 x5 x6 r6))))))))

no_cuts_named : (rest : Parts) → in_parts (POther (PCuts []) ∷ rest) ≡ in_parts (rest) ++ named_by 119 (rest)
no_cuts_named rest = simp (nil_right) refl

no_cuts_adds : Adds 119 (record { takes = []; makes = λ parts. POther (PCuts (made_no_cuts parts)) })
no_cuts_adds parts h = no_cuts_named parts

cut_named : (block : Block) (items : List Item) (vars : List Par) (x3 : SeenToken) (locals : List SeenToken) (x5 : SeenToken) (mode : SeenToken) (number : SeenToken) (x8 : SeenToken) (name : SeenToken) (x10 : SeenToken) (cuts : List Cut) (rest : Parts) → in_parts (POther (PCuts (cuts ++ cut_of name number mode locals vars items block ∷ [])) ∷ rest) ≡ in_parts (POther (PBlock block) ∷ POther (PItems items) ∷ POther (PPars vars) ∷ PToken x3 ∷ POther (PNames locals) ∷ PToken x5 ∷ PToken mode ∷ PToken number ∷ PToken x8 ∷ PToken name ∷ PToken x10 ∷ POther (PCuts cuts) ∷ rest) ++ named_by 120 (POther (PBlock block) ∷ POther (PItems items) ∷ POther (PPars vars) ∷ PToken x3 ∷ POther (PNames locals) ∷ PToken x5 ∷ PToken mode ∷ PToken number ∷ PToken x8 ∷ PToken name ∷ PToken x10 ∷ POther (PCuts cuts) ∷ rest)
cut_named block items vars x3 locals x5 mode number x8 name x10 cuts rest = rw (by_each_end in_cut cuts (cut_of name number mode locals vars items block)) (simp (nil_right, joins) refl)

cut_adds : Adds 120 (record { takes = is_block ∷ is_items ∷ is_pars ∷ is_token ∷ is_names ∷ is_token ∷ is_token ∷ is_token ∷ is_token ∷ is_token ∷ is_token ∷ is_cuts ∷ []; makes = λ parts. POther (PCuts (made_cut parts)) })
cut_adds parts h =
    top_block (is_items ∷ is_pars ∷ is_token ∷ is_names ∷ is_token ∷ is_token ∷ is_token ∷ is_token ∷ is_token ∷ is_token ∷ is_cuts ∷ []) parts h (λ x0 r0 e0 h0.
    top_items (is_pars ∷ is_token ∷ is_names ∷ is_token ∷ is_token ∷ is_token ∷ is_token ∷ is_token ∷ is_token ∷ is_cuts ∷ []) r0 h0 (λ x1 r1 e1 h1.
    top_pars (is_token ∷ is_names ∷ is_token ∷ is_token ∷ is_token ∷ is_token ∷ is_token ∷ is_token ∷ is_cuts ∷ []) r1 h1 (λ x2 r2 e2 h2.
    top_token (is_names ∷ is_token ∷ is_token ∷ is_token ∷ is_token ∷ is_token ∷ is_token ∷ is_cuts ∷ []) r2 h2 (λ x3 r3 e3 h3.
    top_names (is_token ∷ is_token ∷ is_token ∷ is_token ∷ is_token ∷ is_token ∷ is_cuts ∷ []) r3 h3 (λ x4 r4 e4 h4.
    top_token (is_token ∷ is_token ∷ is_token ∷ is_token ∷ is_token ∷ is_cuts ∷ []) r4 h4 (λ x5 r5 e5 h5.
    top_token (is_token ∷ is_token ∷ is_token ∷ is_token ∷ is_cuts ∷ []) r5 h5 (λ x6 r6 e6 h6.
    top_token (is_token ∷ is_token ∷ is_token ∷ is_cuts ∷ []) r6 h6 (λ x7 r7 e7 h7.
    top_token (is_token ∷ is_token ∷ is_cuts ∷ []) r7 h7 (λ x8 r8 e8 h8.
    top_token (is_token ∷ is_cuts ∷ []) r8 h8 (λ x9 r9 e9 h9.
    top_token (is_cuts ∷ []) r9 h9 (λ x10 r10 e10 h10.
    top_cuts ([]) r10 h10 (λ x11 r11 e11 h11.
    subst (λ (ps : Parts). in_parts (POther (PCuts (made_cut ps)) ∷ drop 12 ps) ≡ in_parts ps ++ named_by 120 ps) (sym (e0 ∙ ap (λ (ps : Parts). POther (PBlock x0) ∷ ps) (e1 ∙ ap (λ (ps : Parts). POther (PItems x1) ∷ ps) (e2 ∙ ap (λ (ps : Parts). POther (PPars x2) ∷ ps) (e3 ∙ ap (λ (ps : Parts). PToken x3 ∷ ps) (e4 ∙ ap (λ (ps : Parts). POther (PNames x4) ∷ ps) (e5 ∙ ap (λ (ps : Parts). PToken x5 ∷ ps) (e6 ∙ ap (λ (ps : Parts). PToken x6 ∷ ps) (e7 ∙ ap (λ (ps : Parts). PToken x7 ∷ ps) (e8 ∙ ap (λ (ps : Parts). PToken x8 ∷ ps) (e9 ∙ ap (λ (ps : Parts). PToken x9 ∷ ps) (e10 ∙ ap (λ (ps : Parts). PToken x10 ∷ ps) (e11))))))))))))) (cut_named x0 x1 x2 x3 x4 x5 x6 x7 x8 x9 x10 x11 r11)))))))))))))

no_ops_named : (rest : Parts) → in_parts (POther (POps []) ∷ rest) ≡ in_parts (rest) ++ named_by 121 (rest)
no_ops_named rest = simp (nil_right) refl

no_ops_adds : Adds 121 (record { takes = []; makes = λ parts. POther (POps (made_no_ops parts)) })
no_ops_adds parts h = no_ops_named parts

op_named : (cuts : List Cut) (block : Block) (name : SeenToken) (x3 : SeenToken) (ops : List Op) (rest : Parts) → in_parts (POther (POps (ops ++ op_of name block cuts ∷ [])) ∷ rest) ≡ in_parts (POther (PCuts cuts) ∷ POther (PBlock block) ∷ PToken name ∷ PToken x3 ∷ POther (POps ops) ∷ rest) ++ named_by 122 (POther (PCuts cuts) ∷ POther (PBlock block) ∷ PToken name ∷ PToken x3 ∷ POther (POps ops) ∷ rest)
op_named cuts block name x3 ops rest = rw (by_each_end in_op ops (op_of name block cuts)) (simp (nil_right, joins) refl)

op_adds : Adds 122 (record { takes = is_cuts ∷ is_block ∷ is_token ∷ is_token ∷ is_ops ∷ []; makes = λ parts. POther (POps (made_op parts)) })
op_adds parts h =
    top_cuts (is_block ∷ is_token ∷ is_token ∷ is_ops ∷ []) parts h (λ x0 r0 e0 h0.
    top_block (is_token ∷ is_token ∷ is_ops ∷ []) r0 h0 (λ x1 r1 e1 h1.
    top_token (is_token ∷ is_ops ∷ []) r1 h1 (λ x2 r2 e2 h2.
    top_token (is_ops ∷ []) r2 h2 (λ x3 r3 e3 h3.
    top_ops ([]) r3 h3 (λ x4 r4 e4 h4.
    subst (λ (ps : Parts). in_parts (POther (POps (made_op ps)) ∷ drop 5 ps) ≡ in_parts ps ++ named_by 122 ps) (sym (e0 ∙ ap (λ (ps : Parts). POther (PCuts x0) ∷ ps) (e1 ∙ ap (λ (ps : Parts). POther (PBlock x1) ∷ ps) (e2 ∙ ap (λ (ps : Parts). PToken x2 ∷ ps) (e3 ∙ ap (λ (ps : Parts). PToken x3 ∷ ps) (e4)))))) (op_named x0 x1 x2 x3 x4 r4))))))

no_procs_named : (rest : Parts) → in_parts (POther (PProcs []) ∷ rest) ≡ in_parts (rest) ++ named_by 123 (rest)
no_procs_named rest = simp (nil_right) refl

no_procs_adds : Adds 123 (record { takes = []; makes = λ parts. POther (PProcs (made_no_procs parts)) })
no_procs_adds parts h = no_procs_named parts

proc_named : (cuts : List Cut) (block : Block) (post : List Item) (results : List SeenToken) (x4 : SeenToken) (pre : List Item) (x6 : SeenToken) (vars : List Par) (x8 : SeenToken) (own : Option Inst) (name : SeenToken) (x11 : SeenToken) (procs : List Proc) (rest : Parts) → in_parts (POther (PProcs (procs ++ proc_of name own vars pre results post block cuts ∷ [])) ∷ rest) ≡ in_parts (POther (PCuts cuts) ∷ POther (PBlock block) ∷ POther (PItems post) ∷ POther (PNames results) ∷ PToken x4 ∷ POther (PItems pre) ∷ PToken x6 ∷ POther (PPars vars) ∷ PToken x8 ∷ POther (PMaybeInst own) ∷ PToken name ∷ PToken x11 ∷ POther (PProcs procs) ∷ rest) ++ named_by 124 (POther (PCuts cuts) ∷ POther (PBlock block) ∷ POther (PItems post) ∷ POther (PNames results) ∷ PToken x4 ∷ POther (PItems pre) ∷ PToken x6 ∷ POther (PPars vars) ∷ PToken x8 ∷ POther (PMaybeInst own) ∷ PToken name ∷ PToken x11 ∷ POther (PProcs procs) ∷ rest)
proc_named cuts block post results x4 pre x6 vars x8 own name x11 procs rest = rw (by_each_end in_proc procs (proc_of name own vars pre results post block cuts)) (simp (nil_right, joins) refl)

proc_adds : Adds 124 (record { takes = is_cuts ∷ is_block ∷ is_items ∷ is_names ∷ is_token ∷ is_items ∷ is_token ∷ is_pars ∷ is_token ∷ is_maybe_inst ∷ is_token ∷ is_token ∷ is_procs ∷ []; makes = λ parts. POther (PProcs (made_proc parts)) })
proc_adds parts h =
    top_cuts (is_block ∷ is_items ∷ is_names ∷ is_token ∷ is_items ∷ is_token ∷ is_pars ∷ is_token ∷ is_maybe_inst ∷ is_token ∷ is_token ∷ is_procs ∷ []) parts h (λ x0 r0 e0 h0.
    top_block (is_items ∷ is_names ∷ is_token ∷ is_items ∷ is_token ∷ is_pars ∷ is_token ∷ is_maybe_inst ∷ is_token ∷ is_token ∷ is_procs ∷ []) r0 h0 (λ x1 r1 e1 h1.
    top_items (is_names ∷ is_token ∷ is_items ∷ is_token ∷ is_pars ∷ is_token ∷ is_maybe_inst ∷ is_token ∷ is_token ∷ is_procs ∷ []) r1 h1 (λ x2 r2 e2 h2.
    top_names (is_token ∷ is_items ∷ is_token ∷ is_pars ∷ is_token ∷ is_maybe_inst ∷ is_token ∷ is_token ∷ is_procs ∷ []) r2 h2 (λ x3 r3 e3 h3.
    top_token (is_items ∷ is_token ∷ is_pars ∷ is_token ∷ is_maybe_inst ∷ is_token ∷ is_token ∷ is_procs ∷ []) r3 h3 (λ x4 r4 e4 h4.
    top_items (is_token ∷ is_pars ∷ is_token ∷ is_maybe_inst ∷ is_token ∷ is_token ∷ is_procs ∷ []) r4 h4 (λ x5 r5 e5 h5.
    top_token (is_pars ∷ is_token ∷ is_maybe_inst ∷ is_token ∷ is_token ∷ is_procs ∷ []) r5 h5 (λ x6 r6 e6 h6.
    top_pars (is_token ∷ is_maybe_inst ∷ is_token ∷ is_token ∷ is_procs ∷ []) r6 h6 (λ x7 r7 e7 h7.
    top_token (is_maybe_inst ∷ is_token ∷ is_token ∷ is_procs ∷ []) r7 h7 (λ x8 r8 e8 h8.
    top_maybe_inst (is_token ∷ is_token ∷ is_procs ∷ []) r8 h8 (λ x9 r9 e9 h9.
    top_token (is_token ∷ is_procs ∷ []) r9 h9 (λ x10 r10 e10 h10.
    top_token (is_procs ∷ []) r10 h10 (λ x11 r11 e11 h11.
    top_procs ([]) r11 h11 (λ x12 r12 e12 h12.
    subst (λ (ps : Parts). in_parts (POther (PProcs (made_proc ps)) ∷ drop 13 ps) ≡ in_parts ps ++ named_by 124 ps) (sym (e0 ∙ ap (λ (ps : Parts). POther (PCuts x0) ∷ ps) (e1 ∙ ap (λ (ps : Parts). POther (PBlock x1) ∷ ps) (e2 ∙ ap (λ (ps : Parts). POther (PItems x2) ∷ ps) (e3 ∙ ap (λ (ps : Parts). POther (PNames x3) ∷ ps) (e4 ∙ ap (λ (ps : Parts). PToken x4 ∷ ps) (e5 ∙ ap (λ (ps : Parts). POther (PItems x5) ∷ ps) (e6 ∙ ap (λ (ps : Parts). PToken x6 ∷ ps) (e7 ∙ ap (λ (ps : Parts). POther (PPars x7) ∷ ps) (e8 ∙ ap (λ (ps : Parts). PToken x8 ∷ ps) (e9 ∙ ap (λ (ps : Parts). POther (PMaybeInst x9) ∷ ps) (e10 ∙ ap (λ (ps : Parts). PToken x10 ∷ ps) (e11 ∙ ap (λ (ps : Parts). PToken x11 ∷ ps) (e12)))))))))))))) (proc_named x0 x1 x2 x3 x4 x5 x6 x7 x8 x9 x10 x11 x12 r12))))))))))))))

script_named : (procs : List Proc) (ops : List Op) (cuts : List Cut) (recover : Block) (x4 : SeenToken) (init : Block) (x6 : SeenToken) (x7 : SeenToken) (root : SeenToken) (root_word : SeenToken) (x10 : SeenToken) (crash : SeenToken) (crash_word : SeenToken) (preds : List Pred) (books : List Book) (rest : Parts) → in_parts (POther (PScript (record { books = books; preds = preds; crash_word = crash_word; crash = crash; root_word = root_word; root = root; init = init; recover = recover; cuts = cuts; ops = ops; procs = procs })) ∷ rest) ≡ in_parts (POther (PProcs procs) ∷ POther (POps ops) ∷ POther (PCuts cuts) ∷ POther (PBlock recover) ∷ PToken x4 ∷ POther (PBlock init) ∷ PToken x6 ∷ PToken x7 ∷ PToken root ∷ PToken root_word ∷ PToken x10 ∷ PToken crash ∷ PToken crash_word ∷ POther (PPreds preds) ∷ POther (PBooks books) ∷ rest) ++ named_by 125 (POther (PProcs procs) ∷ POther (POps ops) ∷ POther (PCuts cuts) ∷ POther (PBlock recover) ∷ PToken x4 ∷ POther (PBlock init) ∷ PToken x6 ∷ PToken x7 ∷ PToken root ∷ PToken root_word ∷ PToken x10 ∷ PToken crash ∷ PToken crash_word ∷ POther (PPreds preds) ∷ POther (PBooks books) ∷ rest)
script_named procs ops cuts recover x4 init x6 x7 root root_word x10 crash crash_word preds books rest = simp (nil_right, joins) refl

script_adds : Adds 125 (record { takes = is_procs ∷ is_ops ∷ is_cuts ∷ is_block ∷ is_token ∷ is_block ∷ is_token ∷ is_token ∷ is_token ∷ is_token ∷ is_token ∷ is_token ∷ is_token ∷ is_preds ∷ is_books ∷ []; makes = λ parts. POther (PScript (made_script parts)) })
script_adds parts h =
    top_procs (is_ops ∷ is_cuts ∷ is_block ∷ is_token ∷ is_block ∷ is_token ∷ is_token ∷ is_token ∷ is_token ∷ is_token ∷ is_token ∷ is_token ∷ is_preds ∷ is_books ∷ []) parts h (λ x0 r0 e0 h0.
    top_ops (is_cuts ∷ is_block ∷ is_token ∷ is_block ∷ is_token ∷ is_token ∷ is_token ∷ is_token ∷ is_token ∷ is_token ∷ is_token ∷ is_preds ∷ is_books ∷ []) r0 h0 (λ x1 r1 e1 h1.
    top_cuts (is_block ∷ is_token ∷ is_block ∷ is_token ∷ is_token ∷ is_token ∷ is_token ∷ is_token ∷ is_token ∷ is_token ∷ is_preds ∷ is_books ∷ []) r1 h1 (λ x2 r2 e2 h2.
    top_block (is_token ∷ is_block ∷ is_token ∷ is_token ∷ is_token ∷ is_token ∷ is_token ∷ is_token ∷ is_token ∷ is_preds ∷ is_books ∷ []) r2 h2 (λ x3 r3 e3 h3.
    top_token (is_block ∷ is_token ∷ is_token ∷ is_token ∷ is_token ∷ is_token ∷ is_token ∷ is_token ∷ is_preds ∷ is_books ∷ []) r3 h3 (λ x4 r4 e4 h4.
    top_block (is_token ∷ is_token ∷ is_token ∷ is_token ∷ is_token ∷ is_token ∷ is_token ∷ is_preds ∷ is_books ∷ []) r4 h4 (λ x5 r5 e5 h5.
    top_token (is_token ∷ is_token ∷ is_token ∷ is_token ∷ is_token ∷ is_token ∷ is_preds ∷ is_books ∷ []) r5 h5 (λ x6 r6 e6 h6.
    top_token (is_token ∷ is_token ∷ is_token ∷ is_token ∷ is_token ∷ is_preds ∷ is_books ∷ []) r6 h6 (λ x7 r7 e7 h7.
    top_token (is_token ∷ is_token ∷ is_token ∷ is_token ∷ is_preds ∷ is_books ∷ []) r7 h7 (λ x8 r8 e8 h8.
    top_token (is_token ∷ is_token ∷ is_token ∷ is_preds ∷ is_books ∷ []) r8 h8 (λ x9 r9 e9 h9.
    top_token (is_token ∷ is_token ∷ is_preds ∷ is_books ∷ []) r9 h9 (λ x10 r10 e10 h10.
    top_token (is_token ∷ is_preds ∷ is_books ∷ []) r10 h10 (λ x11 r11 e11 h11.
    top_token (is_preds ∷ is_books ∷ []) r11 h11 (λ x12 r12 e12 h12.
    top_preds (is_books ∷ []) r12 h12 (λ x13 r13 e13 h13.
    top_books ([]) r13 h13 (λ x14 r14 e14 h14.
    subst (λ (ps : Parts). in_parts (POther (PScript (made_script ps)) ∷ drop 15 ps) ≡ in_parts ps ++ named_by 125 ps) (sym (e0 ∙ ap (λ (ps : Parts). POther (PProcs x0) ∷ ps) (e1 ∙ ap (λ (ps : Parts). POther (POps x1) ∷ ps) (e2 ∙ ap (λ (ps : Parts). POther (PCuts x2) ∷ ps) (e3 ∙ ap (λ (ps : Parts). POther (PBlock x3) ∷ ps) (e4 ∙ ap (λ (ps : Parts). PToken x4 ∷ ps) (e5 ∙ ap (λ (ps : Parts). POther (PBlock x5) ∷ ps) (e6 ∙ ap (λ (ps : Parts). PToken x6 ∷ ps) (e7 ∙ ap (λ (ps : Parts). PToken x7 ∷ ps) (e8 ∙ ap (λ (ps : Parts). PToken x8 ∷ ps) (e9 ∙ ap (λ (ps : Parts). PToken x9 ∷ ps) (e10 ∙ ap (λ (ps : Parts). PToken x10 ∷ ps) (e11 ∙ ap (λ (ps : Parts). PToken x11 ∷ ps) (e12 ∙ ap (λ (ps : Parts). PToken x12 ∷ ps) (e13 ∙ ap (λ (ps : Parts). POther (PPreds x13) ∷ ps) (e14)))))))))))))))) (script_named x0 x1 x2 x3 x4 x5 x6 x7 x8 x9 x10 x11 x12 x13 x14 r14))))))))))))))))

abbrev pub AllAdd : ℕ → List (Making (Part ScriptPart)) → Type 0
AllAdd n [] = Unit {0}
AllAdd n (m ∷ ms) = Adds n m × AllAdd (suc n) ms

pub own_add : AllAdd 14 script_makings
own_add = (no_names_adds, (name_adds, (next_name_adds, (in_names_adds, (no_pars_adds, (par_adds, (next_par_adds, (in_pars_adds, (no_terms_adds, (term_adds, (next_term_adds, (in_terms_adds, (word_terms_adds, (no_term_adds, (word_term_adds, (inst_adds, (no_own_adds, (own_adds, (one_atom_adds, (two_atom_adds, (three_atom_adds, (cell_atom_adds, (field_atom_adds, (book_atom_adds, (lock_atom_adds, (token_atom_adds, (done_atom_adds, (each_atom_adds, (inst_atom_adds, (no_atoms_adds, (atom_adds, (next_atom_adds, (in_atoms_adds, (fact_adds, (held_adds, (no_items_adds, (item_adds, (in_items_adds, (positive_adds, (negative_adds, (no_factors_adds, (factor_adds, (next_factor_adds, (given_adds, (axiom_adds, (subst_adds, (contra_adds, (linear_adds, (by_cases_adds, (steps_adds, (hole_adds, (no_haves_adds, (step_have_adds, (hole_terms_adds, (filled_adds, (filled_parens_adds, (fold_adds, (unfold_adds, (unfold_arms_adds, (on_atom_adds, (have_adds, (let_adds, (rewrite_adds, (absurd_adds, (clash_adds, (cases_adds, (on_pair_adds, (halves_new_adds, (halves_set_adds, (at_adds, (at_hole_adds, (map_adds, (alone_adds, (sim_adds, (on_block_adds, (boot_adds, (guard_adds, (set_book_adds, (forget_adds, (step_adds, (to_adds, (merge_adds, (void_adds, (yield_adds, (word_names_adds, (no_during_adds, (during_adds, (no_blocks_adds, (next_block_adds, (no_arms_adds, (next_arm_adds, (arm_adds, (no_commands_adds, (command_adds, (last_adds, (closed_adds, (not_closed_adds, (block_adds, (case_adds, (no_cases_adds, (next_case_adds, (no_books_adds, (book_adds, (no_preds_adds, (pred_adds, (no_cuts_adds, (cut_adds, (no_ops_adds, (op_adds, (no_procs_adds, (proc_adds, (script_adds, tt))))))))))))))))))))))))))))))))))))))))))))))))))))))))))))))))))))))))))))))))))))))))))))))))))))))))))))))))

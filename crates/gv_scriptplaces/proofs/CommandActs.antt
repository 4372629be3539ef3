-- Acts that make a command.
use Rattle.std.proofs.Common.{◌≡◌, true, List, [], ◌∷◌, Option, refl, sym, ap, subst, ◌∙◌}
use Rattle.std.specs.Prelude.{drop}
use Rattle.gv_termread.specs.declared.generated.term_acts.Part.TheVariants.{Token as PToken, Term as PTerm, Other as POther}
use Rattle.gv_termread.specs.declared.placed.PlacedTerm.{PlacedTerm}
use Rattle.gv_termread.specs.declared.token.SeenToken.{SeenToken}
use Rattle.gv_termread.specs.TermActs.{is_token, is_term}
use Rattle.gv_scriptsyntax.specs.declared.generated.script_acts.ScriptPart.TheVariants.{Arms as PArms, Atom as PAtom, Atoms as PAtoms, Block as PBlock, Blocks as PBlocks, Cert as PCert, Command as PCommand, Filling as PFilling, Inst as PInst, MaybeBlock as PMaybeBlock, Names as PNames, Terms as PTerms}
use Rattle.gv_scriptsyntax.specs.declared.tree.Inst.{Inst}
use Rattle.gv_scriptsyntax.specs.declared.tree.Atom.{Atom}
use Rattle.gv_scriptsyntax.specs.declared.tree.Cert.{Cert}
use Rattle.gv_scriptsyntax.specs.declared.tree.Filling.{Filling}
use Rattle.gv_scriptsyntax.specs.declared.tree.Block.{Block}
use Rattle.gv_scriptsyntax.specs.declared.tree.Arm.{Arm}
use Rattle.gv_scriptsyntax.specs.declared.tree.Command.TheVariants as command
use Rattle.gv_scriptsyntax.specs.ScriptActs.{is_names, is_terms, is_inst, is_atom, is_atoms, is_cert, is_filling, is_block, is_maybe_block, is_blocks, is_arms, made_fold, made_unfold, made_unfold_arms, made_on_atom, made_have, made_let, made_rewrite, made_absurd, made_clash, made_cases, made_on_pair, made_halves_new, made_halves_set, made_at, made_at_hole, made_map, made_alone, made_sim, made_on_block, made_boot, made_guard, made_set_book, made_forget, made_step, made_to, made_merge, made_void, made_yield}
use Rattle.gv_scriptsyntax.specs.Nodes.{Parts}
use Rattle.gv_scriptnumbers.proofs.Constructs.{all_numbered}
use Rattle.gv_scriptnodes.proofs.Tops.{top_token, top_term, top_names, top_terms, top_inst, top_atom, top_atoms, top_cert, top_filling, top_block, top_maybe_block, top_blocks, top_arms}
use Rattle.gv_scriptplaces.proofs.Stacks.{nil_right, joins, good, command_on, Kept, Keeps}

fold_kept : (filling : Filling) (number : SeenToken) (inst : Inst) (word : SeenToken) (rest : Parts) → good (POther (PCommand (command.Fold word inst number filling)) ∷ rest) ≡ true → Kept 70 (POther (PFilling filling) ∷ PToken number ∷ POther (PInst inst) ∷ PToken word ∷ rest) (POther (PCommand (command.Fold word inst number filling)) ∷ rest)
fold_kept filling number inst word rest g =
    let stand = command_on (command.Fold word inst number filling) rest g in
    record { good = rw (stand.0, stand.1) refl; same = rw (stand.0, all_numbered.fold_command word inst number filling) (simp (nil_right) refl); list = refl }

pub fold_keeps : Keeps 70 (record { takes = is_filling ∷ is_token ∷ is_inst ∷ is_token ∷ []; makes = λ parts. POther (PCommand (made_fold parts)) })
fold_keeps parts h g =
    top_filling (is_token ∷ is_inst ∷ is_token ∷ []) parts h (λ x0 r0 e0 h0.
    top_token (is_inst ∷ is_token ∷ []) r0 h0 (λ x1 r1 e1 h1.
    top_inst (is_token ∷ []) r1 h1 (λ x2 r2 e2 h2.
    top_token ([]) r2 h2 (λ x3 r3 e3 h3.
    subst (λ (ps : Parts). good (POther (PCommand (made_fold ps)) ∷ drop 4 ps) ≡ true → Kept 70 ps (POther (PCommand (made_fold ps)) ∷ drop 4 ps)) (sym (e0 ∙ ap (λ (ps : Parts). POther (PFilling x0) ∷ ps) (e1 ∙ ap (λ (ps : Parts). PToken x1 ∷ ps) (e2 ∙ ap (λ (ps : Parts). POther (PInst x2) ∷ ps) (e3))))) (fold_kept x0 x1 x2 x3 r3) g))))

unfold_kept : (names : List SeenToken) (inst : Inst) (word : SeenToken) (rest : Parts) → good (POther (PCommand (command.Unfold word inst names)) ∷ rest) ≡ true → Kept 71 (POther (PNames names) ∷ POther (PInst inst) ∷ PToken word ∷ rest) (POther (PCommand (command.Unfold word inst names)) ∷ rest)
unfold_kept names inst word rest g =
    let stand = command_on (command.Unfold word inst names) rest g in
    record { good = rw (stand.0, stand.1) refl; same = rw (stand.0, all_numbered.unfold_command word inst names) (simp (nil_right) refl); list = refl }

pub unfold_keeps : Keeps 71 (record { takes = is_names ∷ is_inst ∷ is_token ∷ []; makes = λ parts. POther (PCommand (made_unfold parts)) })
unfold_keeps parts h g =
    top_names (is_inst ∷ is_token ∷ []) parts h (λ x0 r0 e0 h0.
    top_inst (is_token ∷ []) r0 h0 (λ x1 r1 e1 h1.
    top_token ([]) r1 h1 (λ x2 r2 e2 h2.
    subst (λ (ps : Parts). good (POther (PCommand (made_unfold ps)) ∷ drop 3 ps) ≡ true → Kept 71 ps (POther (PCommand (made_unfold ps)) ∷ drop 3 ps)) (sym (e0 ∙ ap (λ (ps : Parts). POther (PNames x0) ∷ ps) (e1 ∙ ap (λ (ps : Parts). POther (PInst x1) ∷ ps) (e2)))) (unfold_kept x0 x1 x2 r2) g)))

unfold_arms_kept : (arms : List Arm) (inst : Inst) (word : SeenToken) (rest : Parts) → good (POther (PCommand (command.UnfoldArms word inst arms)) ∷ rest) ≡ true → Kept 72 (POther (PArms arms) ∷ POther (PInst inst) ∷ PToken word ∷ rest) (POther (PCommand (command.UnfoldArms word inst arms)) ∷ rest)
unfold_arms_kept arms inst word rest g =
    let stand = command_on (command.UnfoldArms word inst arms) rest g in
    record { good = rw (stand.0, stand.1) refl; same = rw (stand.0, all_numbered.unfold_arms_command word inst arms) (simp (nil_right, joins) refl); list = refl }

pub unfold_arms_keeps : Keeps 72 (record { takes = is_arms ∷ is_inst ∷ is_token ∷ []; makes = λ parts. POther (PCommand (made_unfold_arms parts)) })
unfold_arms_keeps parts h g =
    top_arms (is_inst ∷ is_token ∷ []) parts h (λ x0 r0 e0 h0.
    top_inst (is_token ∷ []) r0 h0 (λ x1 r1 e1 h1.
    top_token ([]) r1 h1 (λ x2 r2 e2 h2.
    subst (λ (ps : Parts). good (POther (PCommand (made_unfold_arms ps)) ∷ drop 3 ps) ≡ true → Kept 72 ps (POther (PCommand (made_unfold_arms ps)) ∷ drop 3 ps)) (sym (e0 ∙ ap (λ (ps : Parts). POther (PArms x0) ∷ ps) (e1 ∙ ap (λ (ps : Parts). POther (PInst x1) ∷ ps) (e2)))) (unfold_arms_kept x0 x1 x2 r2) g)))

on_atom_kept : (on : Atom) (word : SeenToken) (rest : Parts) → good (POther (PCommand (command.OnAtom word on)) ∷ rest) ≡ true → Kept 73 (POther (PAtom on) ∷ PToken word ∷ rest) (POther (PCommand (command.OnAtom word on)) ∷ rest)
on_atom_kept on word rest g =
    let stand = command_on (command.OnAtom word on) rest g in
    record { good = rw (stand.0, stand.1) refl; same = rw (stand.0, all_numbered.on_atom_command word on) (simp (nil_right) refl); list = refl }

pub on_atom_keeps : Keeps 73 (record { takes = is_atom ∷ is_token ∷ []; makes = λ parts. POther (PCommand (made_on_atom parts)) })
on_atom_keeps parts h g =
    top_atom (is_token ∷ []) parts h (λ x0 r0 e0 h0.
    top_token ([]) r0 h0 (λ x1 r1 e1 h1.
    subst (λ (ps : Parts). good (POther (PCommand (made_on_atom ps)) ∷ drop 2 ps) ≡ true → Kept 73 ps (POther (PCommand (made_on_atom ps)) ∷ drop 2 ps)) (sym (e0 ∙ ap (λ (ps : Parts). POther (PAtom x0) ∷ ps) (e1))) (on_atom_kept x0 x1 r1) g))

have_kept : (proof : Cert) (x1 : SeenToken) (term : PlacedTerm) (word : SeenToken) (rest : Parts) → good (POther (PCommand (command.Have word term proof)) ∷ rest) ≡ true → Kept 74 (POther (PCert proof) ∷ PToken x1 ∷ PTerm term ∷ PToken word ∷ rest) (POther (PCommand (command.Have word term proof)) ∷ rest)
have_kept proof x1 term word rest g =
    let stand = command_on (command.Have word term proof) rest g in
    record { good = rw (stand.0, stand.1) refl; same = rw (stand.0, all_numbered.have_command word term proof) (simp (nil_right) refl); list = refl }

pub have_keeps : Keeps 74 (record { takes = is_cert ∷ is_token ∷ is_term ∷ is_token ∷ []; makes = λ parts. POther (PCommand (made_have parts)) })
have_keeps parts h g =
    top_cert (is_token ∷ is_term ∷ is_token ∷ []) parts h (λ x0 r0 e0 h0.
    top_token (is_term ∷ is_token ∷ []) r0 h0 (λ x1 r1 e1 h1.
    top_term (is_token ∷ []) r1 h1 (λ x2 r2 e2 h2.
    top_token ([]) r2 h2 (λ x3 r3 e3 h3.
    subst (λ (ps : Parts). good (POther (PCommand (made_have ps)) ∷ drop 4 ps) ≡ true → Kept 74 ps (POther (PCommand (made_have ps)) ∷ drop 4 ps)) (sym (e0 ∙ ap (λ (ps : Parts). POther (PCert x0) ∷ ps) (e1 ∙ ap (λ (ps : Parts). PToken x1 ∷ ps) (e2 ∙ ap (λ (ps : Parts). PTerm x2 ∷ ps) (e3))))) (have_kept x0 x1 x2 x3 r3) g))))

let_kept : (term : PlacedTerm) (x1 : SeenToken) (name : SeenToken) (word : SeenToken) (rest : Parts) → good (POther (PCommand (command.Let word name term)) ∷ rest) ≡ true → Kept 75 (PTerm term ∷ PToken x1 ∷ PToken name ∷ PToken word ∷ rest) (POther (PCommand (command.Let word name term)) ∷ rest)
let_kept term x1 name word rest g =
    let stand = command_on (command.Let word name term) rest g in
    record { good = rw (stand.0, stand.1) refl; same = rw (stand.0, all_numbered.let_command word name term) (simp (nil_right) refl); list = refl }

pub let_keeps : Keeps 75 (record { takes = is_term ∷ is_token ∷ is_token ∷ is_token ∷ []; makes = λ parts. POther (PCommand (made_let parts)) })
let_keeps parts h g =
    top_term (is_token ∷ is_token ∷ is_token ∷ []) parts h (λ x0 r0 e0 h0.
    top_token (is_token ∷ is_token ∷ []) r0 h0 (λ x1 r1 e1 h1.
    top_token (is_token ∷ []) r1 h1 (λ x2 r2 e2 h2.
    top_token ([]) r2 h2 (λ x3 r3 e3 h3.
    subst (λ (ps : Parts). good (POther (PCommand (made_let ps)) ∷ drop 4 ps) ≡ true → Kept 75 ps (POther (PCommand (made_let ps)) ∷ drop 4 ps)) (sym (e0 ∙ ap (λ (ps : Parts). PTerm x0 ∷ ps) (e1 ∙ ap (λ (ps : Parts). PToken x1 ∷ ps) (e2 ∙ ap (λ (ps : Parts). PToken x2 ∷ ps) (e3))))) (let_kept x0 x1 x2 x3 r3) g))))

rewrite_kept : (new : PlacedTerm) (x1 : SeenToken) (old : PlacedTerm) (word : SeenToken) (rest : Parts) → good (POther (PCommand (command.Rewrite word old new)) ∷ rest) ≡ true → Kept 76 (PTerm new ∷ PToken x1 ∷ PTerm old ∷ PToken word ∷ rest) (POther (PCommand (command.Rewrite word old new)) ∷ rest)
rewrite_kept new x1 old word rest g =
    let stand = command_on (command.Rewrite word old new) rest g in
    record { good = rw (stand.0, stand.1) refl; same = rw (stand.0, all_numbered.rewrite_command word old new) (simp (nil_right) refl); list = refl }

pub rewrite_keeps : Keeps 76 (record { takes = is_term ∷ is_token ∷ is_term ∷ is_token ∷ []; makes = λ parts. POther (PCommand (made_rewrite parts)) })
rewrite_keeps parts h g =
    top_term (is_token ∷ is_term ∷ is_token ∷ []) parts h (λ x0 r0 e0 h0.
    top_token (is_term ∷ is_token ∷ []) r0 h0 (λ x1 r1 e1 h1.
    top_term (is_token ∷ []) r1 h1 (λ x2 r2 e2 h2.
    top_token ([]) r2 h2 (λ x3 r3 e3 h3.
    subst (λ (ps : Parts). good (POther (PCommand (made_rewrite ps)) ∷ drop 4 ps) ≡ true → Kept 76 ps (POther (PCommand (made_rewrite ps)) ∷ drop 4 ps)) (sym (e0 ∙ ap (λ (ps : Parts). PTerm x0 ∷ ps) (e1 ∙ ap (λ (ps : Parts). PToken x1 ∷ ps) (e2 ∙ ap (λ (ps : Parts). PTerm x2 ∷ ps) (e3))))) (rewrite_kept x0 x1 x2 x3 r3) g))))

absurd_kept : (proof : Cert) (x1 : SeenToken) (word : SeenToken) (rest : Parts) → good (POther (PCommand (command.Absurd word proof)) ∷ rest) ≡ true → Kept 77 (POther (PCert proof) ∷ PToken x1 ∷ PToken word ∷ rest) (POther (PCommand (command.Absurd word proof)) ∷ rest)
absurd_kept proof x1 word rest g =
    let stand = command_on (command.Absurd word proof) rest g in
    record { good = rw (stand.0, stand.1) refl; same = rw (stand.0, all_numbered.absurd_command word proof) (simp (nil_right) refl); list = refl }

pub absurd_keeps : Keeps 77 (record { takes = is_cert ∷ is_token ∷ is_token ∷ []; makes = λ parts. POther (PCommand (made_absurd parts)) })
absurd_keeps parts h g =
    top_cert (is_token ∷ is_token ∷ []) parts h (λ x0 r0 e0 h0.
    top_token (is_token ∷ []) r0 h0 (λ x1 r1 e1 h1.
    top_token ([]) r1 h1 (λ x2 r2 e2 h2.
    subst (λ (ps : Parts). good (POther (PCommand (made_absurd ps)) ∷ drop 3 ps) ≡ true → Kept 77 ps (POther (PCommand (made_absurd ps)) ∷ drop 3 ps)) (sym (e0 ∙ ap (λ (ps : Parts). POther (PCert x0) ∷ ps) (e1 ∙ ap (λ (ps : Parts). PToken x1 ∷ ps) (e2)))) (absurd_kept x0 x1 x2 r2) g)))

clash_kept : (atoms : List Atom) (word : SeenToken) (rest : Parts) → good (POther (PCommand (command.Clash word atoms)) ∷ rest) ≡ true → Kept 78 (POther (PAtoms atoms) ∷ PToken word ∷ rest) (POther (PCommand (command.Clash word atoms)) ∷ rest)
clash_kept atoms word rest g =
    let stand = command_on (command.Clash word atoms) rest g in
    record { good = rw (stand.0, stand.1) refl; same = rw (stand.0, all_numbered.clash_command word atoms) (simp (nil_right) refl); list = refl }

pub clash_keeps : Keeps 78 (record { takes = is_atoms ∷ is_token ∷ []; makes = λ parts. POther (PCommand (made_clash parts)) })
clash_keeps parts h g =
    top_atoms (is_token ∷ []) parts h (λ x0 r0 e0 h0.
    top_token ([]) r0 h0 (λ x1 r1 e1 h1.
    subst (λ (ps : Parts). good (POther (PCommand (made_clash ps)) ∷ drop 2 ps) ≡ true → Kept 78 ps (POther (PCommand (made_clash ps)) ∷ drop 2 ps)) (sym (e0 ∙ ap (λ (ps : Parts). POther (PAtoms x0) ∷ ps) (e1))) (clash_kept x0 x1 r1) g))

cases_kept : (second : Block) (first : Block) (term : PlacedTerm) (word : SeenToken) (rest : Parts) → good (POther (PCommand (command.Cases word term first second)) ∷ rest) ≡ true → Kept 79 (POther (PBlock second) ∷ POther (PBlock first) ∷ PTerm term ∷ PToken word ∷ rest) (POther (PCommand (command.Cases word term first second)) ∷ rest)
cases_kept second first term word rest g =
    let stand = command_on (command.Cases word term first second) rest g in
    record { good = rw (stand.0, stand.1) refl; same = rw (stand.0, all_numbered.cases_command word term first second) (simp (nil_right, joins) refl); list = refl }

pub cases_keeps : Keeps 79 (record { takes = is_block ∷ is_block ∷ is_term ∷ is_token ∷ []; makes = λ parts. POther (PCommand (made_cases parts)) })
cases_keeps parts h g =
    top_block (is_block ∷ is_term ∷ is_token ∷ []) parts h (λ x0 r0 e0 h0.
    top_block (is_term ∷ is_token ∷ []) r0 h0 (λ x1 r1 e1 h1.
    top_term (is_token ∷ []) r1 h1 (λ x2 r2 e2 h2.
    top_token ([]) r2 h2 (λ x3 r3 e3 h3.
    subst (λ (ps : Parts). good (POther (PCommand (made_cases ps)) ∷ drop 4 ps) ≡ true → Kept 79 ps (POther (PCommand (made_cases ps)) ∷ drop 4 ps)) (sym (e0 ∙ ap (λ (ps : Parts). POther (PBlock x0) ∷ ps) (e1 ∙ ap (λ (ps : Parts). POther (PBlock x1) ∷ ps) (e2 ∙ ap (λ (ps : Parts). PTerm x2 ∷ ps) (e3))))) (cases_kept x0 x1 x2 x3 r3) g))))

on_pair_kept : (b : Atom) (x1 : SeenToken) (a : Atom) (word : SeenToken) (rest : Parts) → good (POther (PCommand (command.OnPair word a b)) ∷ rest) ≡ true → Kept 80 (POther (PAtom b) ∷ PToken x1 ∷ POther (PAtom a) ∷ PToken word ∷ rest) (POther (PCommand (command.OnPair word a b)) ∷ rest)
on_pair_kept b x1 a word rest g =
    let stand = command_on (command.OnPair word a b) rest g in
    record { good = rw (stand.0, stand.1) refl; same = rw (stand.0, all_numbered.on_pair_command word a b) (simp (nil_right) refl); list = refl }

pub on_pair_keeps : Keeps 80 (record { takes = is_atom ∷ is_token ∷ is_atom ∷ is_token ∷ []; makes = λ parts. POther (PCommand (made_on_pair parts)) })
on_pair_keeps parts h g =
    top_atom (is_token ∷ is_atom ∷ is_token ∷ []) parts h (λ x0 r0 e0 h0.
    top_token (is_atom ∷ is_token ∷ []) r0 h0 (λ x1 r1 e1 h1.
    top_atom (is_token ∷ []) r1 h1 (λ x2 r2 e2 h2.
    top_token ([]) r2 h2 (λ x3 r3 e3 h3.
    subst (λ (ps : Parts). good (POther (PCommand (made_on_pair ps)) ∷ drop 4 ps) ≡ true → Kept 80 ps (POther (PCommand (made_on_pair ps)) ∷ drop 4 ps)) (sym (e0 ∙ ap (λ (ps : Parts). POther (PAtom x0) ∷ ps) (e1 ∙ ap (λ (ps : Parts). PToken x1 ∷ ps) (e2 ∙ ap (λ (ps : Parts). POther (PAtom x2) ∷ ps) (e3))))) (on_pair_kept x0 x1 x2 x3 r3) g))))

halves_new_kept : (name : SeenToken) (x1 : SeenToken) (value : PlacedTerm) (x3 : SeenToken) (word : SeenToken) (rest : Parts) → good (POther (PCommand (command.HalvesNew word value name)) ∷ rest) ≡ true → Kept 81 (PToken name ∷ PToken x1 ∷ PTerm value ∷ PToken x3 ∷ PToken word ∷ rest) (POther (PCommand (command.HalvesNew word value name)) ∷ rest)
halves_new_kept name x1 value x3 word rest g =
    let stand = command_on (command.HalvesNew word value name) rest g in
    record { good = rw (stand.0, stand.1) refl; same = rw (stand.0, all_numbered.halves_new_command word value name) (simp (nil_right) refl); list = refl }

pub halves_new_keeps : Keeps 81 (record { takes = is_token ∷ is_token ∷ is_term ∷ is_token ∷ is_token ∷ []; makes = λ parts. POther (PCommand (made_halves_new parts)) })
halves_new_keeps parts h g =
    top_token (is_token ∷ is_term ∷ is_token ∷ is_token ∷ []) parts h (λ x0 r0 e0 h0.
    top_token (is_term ∷ is_token ∷ is_token ∷ []) r0 h0 (λ x1 r1 e1 h1.
    top_term (is_token ∷ is_token ∷ []) r1 h1 (λ x2 r2 e2 h2.
    top_token (is_token ∷ []) r2 h2 (λ x3 r3 e3 h3.
    top_token ([]) r3 h3 (λ x4 r4 e4 h4.
    subst (λ (ps : Parts). good (POther (PCommand (made_halves_new ps)) ∷ drop 5 ps) ≡ true → Kept 81 ps (POther (PCommand (made_halves_new ps)) ∷ drop 5 ps)) (sym (e0 ∙ ap (λ (ps : Parts). PToken x0 ∷ ps) (e1 ∙ ap (λ (ps : Parts). PToken x1 ∷ ps) (e2 ∙ ap (λ (ps : Parts). PTerm x2 ∷ ps) (e3 ∙ ap (λ (ps : Parts). PToken x3 ∷ ps) (e4)))))) (halves_new_kept x0 x1 x2 x3 x4 r4) g)))))

halves_set_kept : (value : PlacedTerm) (name : PlacedTerm) (x2 : SeenToken) (word : SeenToken) (rest : Parts) → good (POther (PCommand (command.HalvesSet word name value)) ∷ rest) ≡ true → Kept 82 (PTerm value ∷ PTerm name ∷ PToken x2 ∷ PToken word ∷ rest) (POther (PCommand (command.HalvesSet word name value)) ∷ rest)
halves_set_kept value name x2 word rest g =
    let stand = command_on (command.HalvesSet word name value) rest g in
    record { good = rw (stand.0, stand.1) refl; same = rw (stand.0, all_numbered.halves_set_command word name value) (simp (nil_right) refl); list = refl }

pub halves_set_keeps : Keeps 82 (record { takes = is_term ∷ is_term ∷ is_token ∷ is_token ∷ []; makes = λ parts. POther (PCommand (made_halves_set parts)) })
halves_set_keeps parts h g =
    top_term (is_term ∷ is_token ∷ is_token ∷ []) parts h (λ x0 r0 e0 h0.
    top_term (is_token ∷ is_token ∷ []) r0 h0 (λ x1 r1 e1 h1.
    top_token (is_token ∷ []) r1 h1 (λ x2 r2 e2 h2.
    top_token ([]) r2 h2 (λ x3 r3 e3 h3.
    subst (λ (ps : Parts). good (POther (PCommand (made_halves_set ps)) ∷ drop 4 ps) ≡ true → Kept 82 ps (POther (PCommand (made_halves_set ps)) ∷ drop 4 ps)) (sym (e0 ∙ ap (λ (ps : Parts). PTerm x0 ∷ ps) (e1 ∙ ap (λ (ps : Parts). PTerm x1 ∷ ps) (e2 ∙ ap (λ (ps : Parts). PToken x2 ∷ ps) (e3))))) (halves_set_kept x0 x1 x2 x3 r3) g))))

at_kept : (term : PlacedTerm) (x1 : SeenToken) (on : Atom) (word : SeenToken) (rest : Parts) → good (POther (PCommand (command.At word on term)) ∷ rest) ≡ true → Kept 83 (PTerm term ∷ PToken x1 ∷ POther (PAtom on) ∷ PToken word ∷ rest) (POther (PCommand (command.At word on term)) ∷ rest)
at_kept term x1 on word rest g =
    let stand = command_on (command.At word on term) rest g in
    record { good = rw (stand.0, stand.1) refl; same = rw (stand.0, all_numbered.at_command word on term) (simp (nil_right) refl); list = refl }

pub at_keeps : Keeps 83 (record { takes = is_term ∷ is_token ∷ is_atom ∷ is_token ∷ []; makes = λ parts. POther (PCommand (made_at parts)) })
at_keeps parts h g =
    top_term (is_token ∷ is_atom ∷ is_token ∷ []) parts h (λ x0 r0 e0 h0.
    top_token (is_atom ∷ is_token ∷ []) r0 h0 (λ x1 r1 e1 h1.
    top_atom (is_token ∷ []) r1 h1 (λ x2 r2 e2 h2.
    top_token ([]) r2 h2 (λ x3 r3 e3 h3.
    subst (λ (ps : Parts). good (POther (PCommand (made_at ps)) ∷ drop 4 ps) ≡ true → Kept 83 ps (POther (PCommand (made_at ps)) ∷ drop 4 ps)) (sym (e0 ∙ ap (λ (ps : Parts). PTerm x0 ∷ ps) (e1 ∙ ap (λ (ps : Parts). PToken x1 ∷ ps) (e2 ∙ ap (λ (ps : Parts). POther (PAtom x2) ∷ ps) (e3))))) (at_kept x0 x1 x2 x3 r3) g))))

at_hole_kept : (term : PlacedTerm) (x1 : SeenToken) (hole : SeenToken) (word : SeenToken) (rest : Parts) → good (POther (PCommand (command.AtHole word hole term)) ∷ rest) ≡ true → Kept 84 (PTerm term ∷ PToken x1 ∷ PToken hole ∷ PToken word ∷ rest) (POther (PCommand (command.AtHole word hole term)) ∷ rest)
at_hole_kept term x1 hole word rest g =
    let stand = command_on (command.AtHole word hole term) rest g in
    record { good = rw (stand.0, stand.1) refl; same = rw (stand.0, all_numbered.at_hole_command word hole term) (simp (nil_right) refl); list = refl }

pub at_hole_keeps : Keeps 84 (record { takes = is_term ∷ is_token ∷ is_token ∷ is_token ∷ []; makes = λ parts. POther (PCommand (made_at_hole parts)) })
at_hole_keeps parts h g =
    top_term (is_token ∷ is_token ∷ is_token ∷ []) parts h (λ x0 r0 e0 h0.
    top_token (is_token ∷ is_token ∷ []) r0 h0 (λ x1 r1 e1 h1.
    top_token (is_token ∷ []) r1 h1 (λ x2 r2 e2 h2.
    top_token ([]) r2 h2 (λ x3 r3 e3 h3.
    subst (λ (ps : Parts). good (POther (PCommand (made_at_hole ps)) ∷ drop 4 ps) ≡ true → Kept 84 ps (POther (PCommand (made_at_hole ps)) ∷ drop 4 ps)) (sym (e0 ∙ ap (λ (ps : Parts). PTerm x0 ∷ ps) (e1 ∙ ap (λ (ps : Parts). PToken x1 ∷ ps) (e2 ∙ ap (λ (ps : Parts). PToken x2 ∷ ps) (e3))))) (at_hole_kept x0 x1 x2 x3 r3) g))))

map_kept : (block : Block) (name : SeenToken) (x2 : SeenToken) (new : List Atom) (x4 : SeenToken) (old : List Atom) (word : SeenToken) (rest : Parts) → good (POther (PCommand (command.Map word old new name block)) ∷ rest) ≡ true → Kept 85 (POther (PBlock block) ∷ PToken name ∷ PToken x2 ∷ POther (PAtoms new) ∷ PToken x4 ∷ POther (PAtoms old) ∷ PToken word ∷ rest) (POther (PCommand (command.Map word old new name block)) ∷ rest)
map_kept block name x2 new x4 old word rest g =
    let stand = command_on (command.Map word old new name block) rest g in
    record { good = rw (stand.0, stand.1) refl; same = rw (stand.0, all_numbered.map_command word old new name block) (simp (nil_right, joins) refl); list = refl }

pub map_keeps : Keeps 85 (record { takes = is_block ∷ is_token ∷ is_token ∷ is_atoms ∷ is_token ∷ is_atoms ∷ is_token ∷ []; makes = λ parts. POther (PCommand (made_map parts)) })
map_keeps parts h g =
    top_block (is_token ∷ is_token ∷ is_atoms ∷ is_token ∷ is_atoms ∷ is_token ∷ []) parts h (λ x0 r0 e0 h0.
    top_token (is_token ∷ is_atoms ∷ is_token ∷ is_atoms ∷ is_token ∷ []) r0 h0 (λ x1 r1 e1 h1.
    top_token (is_atoms ∷ is_token ∷ is_atoms ∷ is_token ∷ []) r1 h1 (λ x2 r2 e2 h2.
    top_atoms (is_token ∷ is_atoms ∷ is_token ∷ []) r2 h2 (λ x3 r3 e3 h3.
    top_token (is_atoms ∷ is_token ∷ []) r3 h3 (λ x4 r4 e4 h4.
    top_atoms (is_token ∷ []) r4 h4 (λ x5 r5 e5 h5.
    top_token ([]) r5 h5 (λ x6 r6 e6 h6.
    subst (λ (ps : Parts). good (POther (PCommand (made_map ps)) ∷ drop 7 ps) ≡ true → Kept 85 ps (POther (PCommand (made_map ps)) ∷ drop 7 ps)) (sym (e0 ∙ ap (λ (ps : Parts). POther (PBlock x0) ∷ ps) (e1 ∙ ap (λ (ps : Parts). PToken x1 ∷ ps) (e2 ∙ ap (λ (ps : Parts). PToken x2 ∷ ps) (e3 ∙ ap (λ (ps : Parts). POther (PAtoms x3) ∷ ps) (e4 ∙ ap (λ (ps : Parts). PToken x4 ∷ ps) (e5 ∙ ap (λ (ps : Parts). POther (PAtoms x5) ∷ ps) (e6)))))))) (map_kept x0 x1 x2 x3 x4 x5 x6 r6) g)))))))

alone_kept : (word : SeenToken) (rest : Parts) → good (POther (PCommand (command.Alone word)) ∷ rest) ≡ true → Kept 86 (PToken word ∷ rest) (POther (PCommand (command.Alone word)) ∷ rest)
alone_kept word rest g =
    let stand = command_on (command.Alone word) rest g in
    record { good = rw (stand.0, stand.1) refl; same = rw (stand.0, all_numbered.alone_command word) (refl); list = refl }

pub alone_keeps : Keeps 86 (record { takes = is_token ∷ []; makes = λ parts. POther (PCommand (made_alone parts)) })
alone_keeps parts h g =
    top_token ([]) parts h (λ x0 r0 e0 h0.
    subst (λ (ps : Parts). good (POther (PCommand (made_alone ps)) ∷ drop 1 ps) ≡ true → Kept 86 ps (POther (PCommand (made_alone ps)) ∷ drop 1 ps)) (sym (e0)) (alone_kept x0 r0) g)

sim_kept : (choices : List PlacedTerm) (call : PlacedTerm) (word : SeenToken) (rest : Parts) → good (POther (PCommand (command.Sim word call choices)) ∷ rest) ≡ true → Kept 87 (POther (PTerms choices) ∷ PTerm call ∷ PToken word ∷ rest) (POther (PCommand (command.Sim word call choices)) ∷ rest)
sim_kept choices call word rest g =
    let stand = command_on (command.Sim word call choices) rest g in
    record { good = rw (stand.0, stand.1) refl; same = rw (stand.0, all_numbered.sim_command word call choices) (simp (nil_right) refl); list = refl }

pub sim_keeps : Keeps 87 (record { takes = is_terms ∷ is_term ∷ is_token ∷ []; makes = λ parts. POther (PCommand (made_sim parts)) })
sim_keeps parts h g =
    top_terms (is_term ∷ is_token ∷ []) parts h (λ x0 r0 e0 h0.
    top_term (is_token ∷ []) r0 h0 (λ x1 r1 e1 h1.
    top_token ([]) r1 h1 (λ x2 r2 e2 h2.
    subst (λ (ps : Parts). good (POther (PCommand (made_sim ps)) ∷ drop 3 ps) ≡ true → Kept 87 ps (POther (PCommand (made_sim ps)) ∷ drop 3 ps)) (sym (e0 ∙ ap (λ (ps : Parts). POther (PTerms x0) ∷ ps) (e1 ∙ ap (λ (ps : Parts). PTerm x1 ∷ ps) (e2)))) (sim_kept x0 x1 x2 r2) g)))

on_block_kept : (block : Block) (word : SeenToken) (rest : Parts) → good (POther (PCommand (command.OnBlock word block)) ∷ rest) ≡ true → Kept 88 (POther (PBlock block) ∷ PToken word ∷ rest) (POther (PCommand (command.OnBlock word block)) ∷ rest)
on_block_kept block word rest g =
    let stand = command_on (command.OnBlock word block) rest g in
    record { good = rw (stand.0, stand.1) refl; same = rw (stand.0, all_numbered.on_block_command word block) (simp (nil_right, joins) refl); list = refl }

pub on_block_keeps : Keeps 88 (record { takes = is_block ∷ is_token ∷ []; makes = λ parts. POther (PCommand (made_on_block parts)) })
on_block_keeps parts h g =
    top_block (is_token ∷ []) parts h (λ x0 r0 e0 h0.
    top_token ([]) r0 h0 (λ x1 r1 e1 h1.
    subst (λ (ps : Parts). good (POther (PCommand (made_on_block ps)) ∷ drop 2 ps) ≡ true → Kept 88 ps (POther (PCommand (made_on_block ps)) ∷ drop 2 ps)) (sym (e0 ∙ ap (λ (ps : Parts). POther (PBlock x0) ∷ ps) (e1))) (on_block_kept x0 x1 r1) g))

boot_kept : (choices : List PlacedTerm) (word : SeenToken) (rest : Parts) → good (POther (PCommand (command.Boot word choices)) ∷ rest) ≡ true → Kept 89 (POther (PTerms choices) ∷ PToken word ∷ rest) (POther (PCommand (command.Boot word choices)) ∷ rest)
boot_kept choices word rest g =
    let stand = command_on (command.Boot word choices) rest g in
    record { good = rw (stand.0, stand.1) refl; same = rw (stand.0, all_numbered.boot_command word choices) (simp (nil_right) refl); list = refl }

pub boot_keeps : Keeps 89 (record { takes = is_terms ∷ is_token ∷ []; makes = λ parts. POther (PCommand (made_boot parts)) })
boot_keeps parts h g =
    top_terms (is_token ∷ []) parts h (λ x0 r0 e0 h0.
    top_token ([]) r0 h0 (λ x1 r1 e1 h1.
    subst (λ (ps : Parts). good (POther (PCommand (made_boot ps)) ∷ drop 2 ps) ≡ true → Kept 89 ps (POther (PCommand (made_boot ps)) ∷ drop 2 ps)) (sym (e0 ∙ ap (λ (ps : Parts). POther (PTerms x0) ∷ ps) (e1))) (boot_kept x0 x1 r1) g))

guard_kept : (inst : Inst) (mutex : PlacedTerm) (word : SeenToken) (rest : Parts) → good (POther (PCommand (command.Guard word mutex inst)) ∷ rest) ≡ true → Kept 90 (POther (PInst inst) ∷ PTerm mutex ∷ PToken word ∷ rest) (POther (PCommand (command.Guard word mutex inst)) ∷ rest)
guard_kept inst mutex word rest g =
    let stand = command_on (command.Guard word mutex inst) rest g in
    record { good = rw (stand.0, stand.1) refl; same = rw (stand.0, all_numbered.guard_command word mutex inst) (simp (nil_right) refl); list = refl }

pub guard_keeps : Keeps 90 (record { takes = is_inst ∷ is_term ∷ is_token ∷ []; makes = λ parts. POther (PCommand (made_guard parts)) })
guard_keeps parts h g =
    top_inst (is_term ∷ is_token ∷ []) parts h (λ x0 r0 e0 h0.
    top_term (is_token ∷ []) r0 h0 (λ x1 r1 e1 h1.
    top_token ([]) r1 h1 (λ x2 r2 e2 h2.
    subst (λ (ps : Parts). good (POther (PCommand (made_guard ps)) ∷ drop 3 ps) ≡ true → Kept 90 ps (POther (PCommand (made_guard ps)) ∷ drop 3 ps)) (sym (e0 ∙ ap (λ (ps : Parts). POther (PInst x0) ∷ ps) (e1 ∙ ap (λ (ps : Parts). PTerm x1 ∷ ps) (e2)))) (guard_kept x0 x1 x2 r2) g)))

set_book_kept : (value : PlacedTerm) (x1 : SeenToken) (at : PlacedTerm) (name : SeenToken) (word : SeenToken) (rest : Parts) → good (POther (PCommand (command.SetBook word name at value)) ∷ rest) ≡ true → Kept 91 (PTerm value ∷ PToken x1 ∷ PTerm at ∷ PToken name ∷ PToken word ∷ rest) (POther (PCommand (command.SetBook word name at value)) ∷ rest)
set_book_kept value x1 at name word rest g =
    let stand = command_on (command.SetBook word name at value) rest g in
    record { good = rw (stand.0, stand.1) refl; same = rw (stand.0, all_numbered.set_book_command word name at value) (simp (nil_right) refl); list = refl }

pub set_book_keeps : Keeps 91 (record { takes = is_term ∷ is_token ∷ is_term ∷ is_token ∷ is_token ∷ []; makes = λ parts. POther (PCommand (made_set_book parts)) })
set_book_keeps parts h g =
    top_term (is_token ∷ is_term ∷ is_token ∷ is_token ∷ []) parts h (λ x0 r0 e0 h0.
    top_token (is_term ∷ is_token ∷ is_token ∷ []) r0 h0 (λ x1 r1 e1 h1.
    top_term (is_token ∷ is_token ∷ []) r1 h1 (λ x2 r2 e2 h2.
    top_token (is_token ∷ []) r2 h2 (λ x3 r3 e3 h3.
    top_token ([]) r3 h3 (λ x4 r4 e4 h4.
    subst (λ (ps : Parts). good (POther (PCommand (made_set_book ps)) ∷ drop 5 ps) ≡ true → Kept 91 ps (POther (PCommand (made_set_book ps)) ∷ drop 5 ps)) (sym (e0 ∙ ap (λ (ps : Parts). PTerm x0 ∷ ps) (e1 ∙ ap (λ (ps : Parts). PToken x1 ∷ ps) (e2 ∙ ap (λ (ps : Parts). PTerm x2 ∷ ps) (e3 ∙ ap (λ (ps : Parts). PToken x3 ∷ ps) (e4)))))) (set_book_kept x0 x1 x2 x3 x4 r4) g)))))

forget_kept : (value : PlacedTerm) (x1 : SeenToken) (at : PlacedTerm) (disk : PlacedTerm) (word : SeenToken) (rest : Parts) → good (POther (PCommand (command.Forget word disk at value)) ∷ rest) ≡ true → Kept 92 (PTerm value ∷ PToken x1 ∷ PTerm at ∷ PTerm disk ∷ PToken word ∷ rest) (POther (PCommand (command.Forget word disk at value)) ∷ rest)
forget_kept value x1 at disk word rest g =
    let stand = command_on (command.Forget word disk at value) rest g in
    record { good = rw (stand.0, stand.1) refl; same = rw (stand.0, all_numbered.forget_command word disk at value) (simp (nil_right) refl); list = refl }

pub forget_keeps : Keeps 92 (record { takes = is_term ∷ is_token ∷ is_term ∷ is_term ∷ is_token ∷ []; makes = λ parts. POther (PCommand (made_forget parts)) })
forget_keeps parts h g =
    top_term (is_token ∷ is_term ∷ is_term ∷ is_token ∷ []) parts h (λ x0 r0 e0 h0.
    top_token (is_term ∷ is_term ∷ is_token ∷ []) r0 h0 (λ x1 r1 e1 h1.
    top_term (is_term ∷ is_token ∷ []) r1 h1 (λ x2 r2 e2 h2.
    top_term (is_token ∷ []) r2 h2 (λ x3 r3 e3 h3.
    top_token ([]) r3 h3 (λ x4 r4 e4 h4.
    subst (λ (ps : Parts). good (POther (PCommand (made_forget ps)) ∷ drop 5 ps) ≡ true → Kept 92 ps (POther (PCommand (made_forget ps)) ∷ drop 5 ps)) (sym (e0 ∙ ap (λ (ps : Parts). PTerm x0 ∷ ps) (e1 ∙ ap (λ (ps : Parts). PToken x1 ∷ ps) (e2 ∙ ap (λ (ps : Parts). PTerm x2 ∷ ps) (e3 ∙ ap (λ (ps : Parts). PTerm x3 ∷ ps) (e4)))))) (forget_kept x0 x1 x2 x3 x4 r4) g)))))

step_kept : (blocks : List Block) (during : Option Block) (names : List SeenToken) (given : List PlacedTerm) (word : SeenToken) (rest : Parts) → good (POther (PCommand (command.Step word given names during blocks)) ∷ rest) ≡ true → Kept 93 (POther (PBlocks blocks) ∷ POther (PMaybeBlock during) ∷ POther (PNames names) ∷ POther (PTerms given) ∷ PToken word ∷ rest) (POther (PCommand (command.Step word given names during blocks)) ∷ rest)
step_kept blocks during names given word rest g =
    let stand = command_on (command.Step word given names during blocks) rest g in
    record { good = rw (stand.0, stand.1) refl; same = rw (stand.0, all_numbered.step_command word given names during blocks) (simp (nil_right, joins) refl); list = refl }

pub step_keeps : Keeps 93 (record { takes = is_blocks ∷ is_maybe_block ∷ is_names ∷ is_terms ∷ is_token ∷ []; makes = λ parts. POther (PCommand (made_step parts)) })
step_keeps parts h g =
    top_blocks (is_maybe_block ∷ is_names ∷ is_terms ∷ is_token ∷ []) parts h (λ x0 r0 e0 h0.
    top_maybe_block (is_names ∷ is_terms ∷ is_token ∷ []) r0 h0 (λ x1 r1 e1 h1.
    top_names (is_terms ∷ is_token ∷ []) r1 h1 (λ x2 r2 e2 h2.
    top_terms (is_token ∷ []) r2 h2 (λ x3 r3 e3 h3.
    top_token ([]) r3 h3 (λ x4 r4 e4 h4.
    subst (λ (ps : Parts). good (POther (PCommand (made_step ps)) ∷ drop 5 ps) ≡ true → Kept 93 ps (POther (PCommand (made_step ps)) ∷ drop 5 ps)) (sym (e0 ∙ ap (λ (ps : Parts). POther (PBlocks x0) ∷ ps) (e1 ∙ ap (λ (ps : Parts). POther (PMaybeBlock x1) ∷ ps) (e2 ∙ ap (λ (ps : Parts). POther (PNames x2) ∷ ps) (e3 ∙ ap (λ (ps : Parts). POther (PTerms x3) ∷ ps) (e4)))))) (step_kept x0 x1 x2 x3 x4 r4) g)))))

to_kept : (terms : List PlacedTerm) (cut : SeenToken) (word : SeenToken) (rest : Parts) → good (POther (PCommand (command.To word cut terms)) ∷ rest) ≡ true → Kept 94 (POther (PTerms terms) ∷ PToken cut ∷ PToken word ∷ rest) (POther (PCommand (command.To word cut terms)) ∷ rest)
to_kept terms cut word rest g =
    let stand = command_on (command.To word cut terms) rest g in
    record { good = rw (stand.0, stand.1) refl; same = rw (stand.0, all_numbered.to_command word cut terms) (simp (nil_right) refl); list = refl }

pub to_keeps : Keeps 94 (record { takes = is_terms ∷ is_token ∷ is_token ∷ []; makes = λ parts. POther (PCommand (made_to parts)) })
to_keeps parts h g =
    top_terms (is_token ∷ is_token ∷ []) parts h (λ x0 r0 e0 h0.
    top_token (is_token ∷ []) r0 h0 (λ x1 r1 e1 h1.
    top_token ([]) r1 h1 (λ x2 r2 e2 h2.
    subst (λ (ps : Parts). good (POther (PCommand (made_to ps)) ∷ drop 3 ps) ≡ true → Kept 94 ps (POther (PCommand (made_to ps)) ∷ drop 3 ps)) (sym (e0 ∙ ap (λ (ps : Parts). POther (PTerms x0) ∷ ps) (e1 ∙ ap (λ (ps : Parts). PToken x1 ∷ ps) (e2)))) (to_kept x0 x1 x2 r2) g)))

merge_kept : (slice : PlacedTerm) (x1 : SeenToken) (b : Atom) (x3 : SeenToken) (a : Atom) (word : SeenToken) (rest : Parts) → good (POther (PCommand (command.Merge word a b slice)) ∷ rest) ≡ true → Kept 95 (PTerm slice ∷ PToken x1 ∷ POther (PAtom b) ∷ PToken x3 ∷ POther (PAtom a) ∷ PToken word ∷ rest) (POther (PCommand (command.Merge word a b slice)) ∷ rest)
merge_kept slice x1 b x3 a word rest g =
    let stand = command_on (command.Merge word a b slice) rest g in
    record { good = rw (stand.0, stand.1) refl; same = rw (stand.0, all_numbered.merge_command word a b slice) (simp (nil_right) refl); list = refl }

pub merge_keeps : Keeps 95 (record { takes = is_term ∷ is_token ∷ is_atom ∷ is_token ∷ is_atom ∷ is_token ∷ []; makes = λ parts. POther (PCommand (made_merge parts)) })
merge_keeps parts h g =
    top_term (is_token ∷ is_atom ∷ is_token ∷ is_atom ∷ is_token ∷ []) parts h (λ x0 r0 e0 h0.
    top_token (is_atom ∷ is_token ∷ is_atom ∷ is_token ∷ []) r0 h0 (λ x1 r1 e1 h1.
    top_atom (is_token ∷ is_atom ∷ is_token ∷ []) r1 h1 (λ x2 r2 e2 h2.
    top_token (is_atom ∷ is_token ∷ []) r2 h2 (λ x3 r3 e3 h3.
    top_atom (is_token ∷ []) r3 h3 (λ x4 r4 e4 h4.
    top_token ([]) r4 h4 (λ x5 r5 e5 h5.
    subst (λ (ps : Parts). good (POther (PCommand (made_merge ps)) ∷ drop 6 ps) ≡ true → Kept 95 ps (POther (PCommand (made_merge ps)) ∷ drop 6 ps)) (sym (e0 ∙ ap (λ (ps : Parts). PTerm x0 ∷ ps) (e1 ∙ ap (λ (ps : Parts). PToken x1 ∷ ps) (e2 ∙ ap (λ (ps : Parts). POther (PAtom x2) ∷ ps) (e3 ∙ ap (λ (ps : Parts). PToken x3 ∷ ps) (e4 ∙ ap (λ (ps : Parts). POther (PAtom x4) ∷ ps) (e5))))))) (merge_kept x0 x1 x2 x3 x4 x5 r5) g))))))

void_kept : (item : SeenToken) (word : SeenToken) (rest : Parts) → good (POther (PCommand (command.Void word item)) ∷ rest) ≡ true → Kept 96 (PToken item ∷ PToken word ∷ rest) (POther (PCommand (command.Void word item)) ∷ rest)
void_kept item word rest g =
    let stand = command_on (command.Void word item) rest g in
    record { good = rw (stand.0, stand.1) refl; same = rw (stand.0, all_numbered.void_command word item) (simp (nil_right) refl); list = refl }

pub void_keeps : Keeps 96 (record { takes = is_token ∷ is_token ∷ []; makes = λ parts. POther (PCommand (made_void parts)) })
void_keeps parts h g =
    top_token (is_token ∷ []) parts h (λ x0 r0 e0 h0.
    top_token ([]) r0 h0 (λ x1 r1 e1 h1.
    subst (λ (ps : Parts). good (POther (PCommand (made_void ps)) ∷ drop 2 ps) ≡ true → Kept 96 ps (POther (PCommand (made_void ps)) ∷ drop 2 ps)) (sym (e0 ∙ ap (λ (ps : Parts). PToken x0 ∷ ps) (e1))) (void_kept x0 x1 r1) g))

yield_kept : (x0 : SeenToken) (high : PlacedTerm) (x2 : SeenToken) (low : PlacedTerm) (x4 : SeenToken) (slice : PlacedTerm) (x6 : SeenToken) (x7 : SeenToken) (x8 : SeenToken) (b : Atom) (x10 : SeenToken) (a : Atom) (word : SeenToken) (rest : Parts) → good (POther (PCommand (command.Yield word a b slice low high)) ∷ rest) ≡ true → Kept 97 (PToken x0 ∷ PTerm high ∷ PToken x2 ∷ PTerm low ∷ PToken x4 ∷ PTerm slice ∷ PToken x6 ∷ PToken x7 ∷ PToken x8 ∷ POther (PAtom b) ∷ PToken x10 ∷ POther (PAtom a) ∷ PToken word ∷ rest) (POther (PCommand (command.Yield word a b slice low high)) ∷ rest)
yield_kept x0 high x2 low x4 slice x6 x7 x8 b x10 a word rest g =
    let stand = command_on (command.Yield word a b slice low high) rest g in
    record { good = rw (stand.0, stand.1) refl; same = rw (stand.0, all_numbered.yield_command word a b slice low high) (simp (nil_right) refl); list = refl }

pub yield_keeps : Keeps 97 (record { takes = is_token ∷ is_term ∷ is_token ∷ is_term ∷ is_token ∷ is_term ∷ is_token ∷ is_token ∷ is_token ∷ is_atom ∷ is_token ∷ is_atom ∷ is_token ∷ []; makes = λ parts. POther (PCommand (made_yield parts)) })
yield_keeps parts h g =
    top_token (is_term ∷ is_token ∷ is_term ∷ is_token ∷ is_term ∷ is_token ∷ is_token ∷ is_token ∷ is_atom ∷ is_token ∷ is_atom ∷ is_token ∷ []) parts h (λ x0 r0 e0 h0.
    top_term (is_token ∷ is_term ∷ is_token ∷ is_term ∷ is_token ∷ is_token ∷ is_token ∷ is_atom ∷ is_token ∷ is_atom ∷ is_token ∷ []) r0 h0 (λ x1 r1 e1 h1.
    top_token (is_term ∷ is_token ∷ is_term ∷ is_token ∷ is_token ∷ is_token ∷ is_atom ∷ is_token ∷ is_atom ∷ is_token ∷ []) r1 h1 (λ x2 r2 e2 h2.
    top_term (is_token ∷ is_term ∷ is_token ∷ is_token ∷ is_token ∷ is_atom ∷ is_token ∷ is_atom ∷ is_token ∷ []) r2 h2 (λ x3 r3 e3 h3.
    top_token (is_term ∷ is_token ∷ is_token ∷ is_token ∷ is_atom ∷ is_token ∷ is_atom ∷ is_token ∷ []) r3 h3 (λ x4 r4 e4 h4.
    top_term (is_token ∷ is_token ∷ is_token ∷ is_atom ∷ is_token ∷ is_atom ∷ is_token ∷ []) r4 h4 (λ x5 r5 e5 h5.
    top_token (is_token ∷ is_token ∷ is_atom ∷ is_token ∷ is_atom ∷ is_token ∷ []) r5 h5 (λ x6 r6 e6 h6.
    top_token (is_token ∷ is_atom ∷ is_token ∷ is_atom ∷ is_token ∷ []) r6 h6 (λ x7 r7 e7 h7.
    top_token (is_atom ∷ is_token ∷ is_atom ∷ is_token ∷ []) r7 h7 (λ x8 r8 e8 h8.
    top_atom (is_token ∷ is_atom ∷ is_token ∷ []) r8 h8 (λ x9 r9 e9 h9.
    top_token (is_atom ∷ is_token ∷ []) r9 h9 (λ x10 r10 e10 h10.
    top_atom (is_token ∷ []) r10 h10 (λ x11 r11 e11 h11.
    top_token ([]) r11 h11 (λ x12 r12 e12 h12.
    subst (λ (ps : Parts). good (POther (PCommand (made_yield ps)) ∷ drop 13 ps) ≡ true → Kept 97 ps (POther (PCommand (made_yield ps)) ∷ drop 13 ps)) (sym (e0 ∙ ap (λ (ps : Parts). PToken x0 ∷ ps) (e1 ∙ ap (λ (ps : Parts). PTerm x1 ∷ ps) (e2 ∙ ap (λ (ps : Parts). PToken x2 ∷ ps) (e3 ∙ ap (λ (ps : Parts). PTerm x3 ∷ ps) (e4 ∙ ap (λ (ps : Parts). PToken x4 ∷ ps) (e5 ∙ ap (λ (ps : Parts). PTerm x5 ∷ ps) (e6 ∙ ap (λ (ps : Parts). PToken x6 ∷ ps) (e7 ∙ ap (λ (ps : Parts). PToken x7 ∷ ps) (e8 ∙ ap (λ (ps : Parts). PToken x8 ∷ ps) (e9 ∙ ap (λ (ps : Parts). POther (PAtom x9) ∷ ps) (e10 ∙ ap (λ (ps : Parts). PToken x10 ∷ ps) (e11 ∙ ap (λ (ps : Parts). POther (PAtom x11) ∷ ps) (e12)))))))))))))) (yield_kept x0 x1 x2 x3 x4 x5 x6 x7 x8 x9 x10 x11 x12 r12) g)))))))))))))

-- Command nodes by the acts that make them. Made by tools/script_nodes.py from script.grammar: edit that.
use Rattle.std.proofs.Common.{◌≡◌, ℕ, true, List, [], ◌∷◌, Option, Some, sym, ap, ◌∙◌}
use Rattle.std.specs.Prelude.{drop, take}
use Rattle.gv_grammar.specs.Building.{has_tops}
use Rattle.gv_termread.specs.declared.generated.term_acts.Part.TheVariants.{Term as PTerm, Token as PToken, Other as POther}
use Rattle.gv_scriptsyntax.specs.declared.generated.script_acts.ScriptPart.TheVariants.{Arms as PArms, Atom as PAtom, Atoms as PAtoms, Block as PBlock, Blocks as PBlocks, Cert as PCert, Command as PCommand, Filling as PFilling, Inst as PInst, MaybeBlock as PMaybeBlock, Names as PNames, Terms as PTerms}
use Rattle.gv_scriptsyntax.specs.declared.tree.Arm.{Arm}
use Rattle.gv_scriptsyntax.specs.declared.tree.Atom.{Atom}
use Rattle.gv_scriptsyntax.specs.declared.tree.Block.{Block}
use Rattle.gv_scriptsyntax.specs.declared.tree.Cert.{Cert}
use Rattle.gv_scriptsyntax.specs.declared.tree.Command.{Command}
use Rattle.gv_scriptsyntax.specs.declared.tree.Filling.{Filling}
use Rattle.gv_scriptsyntax.specs.declared.tree.Inst.{Inst}
use Rattle.gv_termread.specs.declared.placed.PlacedTerm.{PlacedTerm}
use Rattle.gv_termread.specs.declared.token.SeenToken.{SeenToken}
use Rattle.gv_scriptsyntax.specs.declared.tree.Command.TheVariants as command
use Rattle.gv_scriptsyntax.specs.declared.node.Node.{Node}
use Rattle.gv_scriptsyntax.specs.declared.node.Node.TheVariants.{Made}
use Rattle.gv_scriptsyntax.specs.declared.generated.script_table.TheConstants as act
use Rattle.gv_termread.specs.TermActs.{is_term, is_token}
use Rattle.gv_scriptsyntax.specs.ScriptActs.{is_arms, is_atom, is_atoms, is_block, is_blocks, is_cert, is_filling, is_inst, is_maybe_block, is_names, is_terms, made_absurd, made_alone, made_at, made_at_hole, made_boot, made_cases, made_clash, made_fold, made_forget, made_guard, made_halves_new, made_halves_set, made_have, made_let, made_map, made_merge, made_on_atom, made_on_block, made_on_pair, made_rewrite, made_set_book, made_sim, made_step, made_to, made_unfold, made_unfold_arms, made_void, made_yield}
use Rattle.gv_scriptsyntax.specs.Nodes.{Parts, built, IsPartAt}
use Rattle.gv_scriptnodes.specs.Places.{IsChild, IsTokenOf}
use Rattle.gv_scriptnodes.proofs.Opened.{opened}
use Rattle.gv_scriptnodes.proofs.Tops.{accepted, top_arms, top_atom, top_atoms, top_block, top_blocks, top_cert, top_filling, top_inst, top_maybe_block, top_names, top_term, top_terms, top_token}
use Rattle.gv_certnodes.specs.Places.{IsMadeBy}
use Rattle.gv_commandnodes.specs.Command.{IsFold, IsUnfold, IsUnfoldArms, IsOnAtom, IsHave, IsLet, IsRewrite, IsAbsurd, IsClash, IsCases, IsOnPair, IsHalvesNew, IsHalvesSet, IsAt, IsAtHole, IsMap, IsSim, IsOnBlock, IsBoot, IsGuard, IsSetBook, IsForget, IsStep, IsTo, IsMerge, IsYield}
use Rattle.gv_certnodes.proofs.Opened.{at_part, same_act}

fold_end : (text : List ℕ) (nodes : List Node) (at : ℕ) (at_word : SeenToken) (at_inst : ℕ) (at_number : SeenToken) (at_filling : ℕ) → IsTokenOf text nodes at 3 at_word → IsChild text nodes at 2 at_inst → IsTokenOf text nodes at 1 at_number → IsChild text nodes at 0 at_filling
    → (whole : Command) (parts rest : Parts) (filling : Filling) (number : SeenToken) (inst : Inst) (word : SeenToken) (behind : Parts) → built text (take at nodes) ≡ Some parts → parts ≡ POther (PFilling filling) ∷ PToken number ∷ POther (PInst inst) ∷ PToken word ∷ behind
    → POther (PCommand whole) ∷ rest ≡ POther (PCommand (made_fold parts)) ∷ drop 4 parts → IsFold text nodes at at_word at_inst at_number at_filling whole
fold_end text nodes at at_word at_inst at_number at_filling known_word known_inst known_number known_filling whole parts rest filling number inst word behind before shape q =
    let made : whole ≡ made_fold parts = cc in
    record {
      of_inst = inst;
      of_filling = filling;
      at_inst = at_part text nodes at 2 at_inst parts (PToken word ∷ behind) (POther (PInst inst)) known_inst before (ap (λ (ps : Parts). drop 2 ps) shape);
      at_filling = at_part text nodes at 0 at_filling parts (PToken number ∷ POther (PInst inst) ∷ PToken word ∷ behind) (POther (PFilling filling)) known_filling before (ap (λ (ps : Parts). drop 0 ps) shape);
      made = made ∙ ap (λ (ps : Parts). made_fold ps) shape
          ∙ ap (λ (x : SeenToken). (command.Fold x inst number filling)) (sym (known_word.same parts (behind) word before (ap (λ (ps : Parts). drop 3 ps) shape)))
          ∙ ap (λ (x : SeenToken). (command.Fold at_word inst x filling)) (sym (known_number.same parts (POther (PInst inst) ∷ PToken word ∷ behind) number before (ap (λ (ps : Parts). drop 1 ps) shape)));
    }

pub fold_is : (text : List ℕ) (nodes : List Node) (at : ℕ) (at_word : SeenToken) (at_inst : ℕ) (at_number : SeenToken) (at_filling : ℕ) → IsMadeBy nodes at act.ACT_FOLD → IsTokenOf text nodes at 3 at_word → IsChild text nodes at 2 at_inst → IsTokenOf text nodes at 1 at_number → IsChild text nodes at 0 at_filling
    → (whole : Command) → IsPartAt text nodes at (POther (PCommand whole)) → IsFold text nodes at at_word at_inst at_number at_filling whole
fold_is text nodes at at_word at_inst at_number at_filling by known_word known_inst known_number known_filling whole is =
    let o = opened text nodes at (Made by.raw by.from) (POther (PCommand whole)) by.node is in
    let a = accepted text act.ACT_FOLD o.parts (POther (PCommand whole) ∷ o.rest) (same_act text by.raw act.ACT_FOLD o.parts by.number ∙ o.done) in
    go o.parts o.rest o.before a.0 a.1
  where
    go : (parts rest : Parts) → built text (take at nodes) ≡ Some parts → has_tops (is_filling ∷ is_token ∷ is_inst ∷ is_token ∷ []) parts ≡ true → POther (PCommand whole) ∷ rest ≡ POther (PCommand (made_fold parts)) ∷ drop 4 parts → IsFold text nodes at at_word at_inst at_number at_filling whole
    go parts rest before h q =
        top_filling (is_token ∷ is_inst ∷ is_token ∷ []) parts h (λ x0 r0 e0 h0.
        top_token (is_inst ∷ is_token ∷ []) r0 h0 (λ x1 r1 e1 h1.
        top_inst (is_token ∷ []) r1 h1 (λ x2 r2 e2 h2.
        top_token ([]) r2 h2 (λ x3 r3 e3 h3.
        fold_end text nodes at at_word at_inst at_number at_filling known_word known_inst known_number known_filling whole parts rest x0 x1 x2 x3 r3 before (e0 ∙ ap (λ (ps : Parts). POther (PFilling x0) ∷ ps) (e1 ∙ ap (λ (ps : Parts). PToken x1 ∷ ps) (e2 ∙ ap (λ (ps : Parts). POther (PInst x2) ∷ ps) e3))) q))))

unfold_end : (text : List ℕ) (nodes : List Node) (at : ℕ) (at_word : SeenToken) (at_inst : ℕ) (at_names : ℕ) → IsTokenOf text nodes at 2 at_word → IsChild text nodes at 1 at_inst → IsChild text nodes at 0 at_names
    → (whole : Command) (parts rest : Parts) (names : List SeenToken) (inst : Inst) (word : SeenToken) (behind : Parts) → built text (take at nodes) ≡ Some parts → parts ≡ POther (PNames names) ∷ POther (PInst inst) ∷ PToken word ∷ behind
    → POther (PCommand whole) ∷ rest ≡ POther (PCommand (made_unfold parts)) ∷ drop 3 parts → IsUnfold text nodes at at_word at_inst at_names whole
unfold_end text nodes at at_word at_inst at_names known_word known_inst known_names whole parts rest names inst word behind before shape q =
    let made : whole ≡ made_unfold parts = cc in
    record {
      of_inst = inst;
      of_names = names;
      at_inst = at_part text nodes at 1 at_inst parts (PToken word ∷ behind) (POther (PInst inst)) known_inst before (ap (λ (ps : Parts). drop 1 ps) shape);
      at_names = at_part text nodes at 0 at_names parts (POther (PInst inst) ∷ PToken word ∷ behind) (POther (PNames names)) known_names before (ap (λ (ps : Parts). drop 0 ps) shape);
      made = made ∙ ap (λ (ps : Parts). made_unfold ps) shape
          ∙ ap (λ (x : SeenToken). (command.Unfold x inst names)) (sym (known_word.same parts (behind) word before (ap (λ (ps : Parts). drop 2 ps) shape)));
    }

pub unfold_is : (text : List ℕ) (nodes : List Node) (at : ℕ) (at_word : SeenToken) (at_inst : ℕ) (at_names : ℕ) → IsMadeBy nodes at act.ACT_UNFOLD → IsTokenOf text nodes at 2 at_word → IsChild text nodes at 1 at_inst → IsChild text nodes at 0 at_names
    → (whole : Command) → IsPartAt text nodes at (POther (PCommand whole)) → IsUnfold text nodes at at_word at_inst at_names whole
unfold_is text nodes at at_word at_inst at_names by known_word known_inst known_names whole is =
    let o = opened text nodes at (Made by.raw by.from) (POther (PCommand whole)) by.node is in
    let a = accepted text act.ACT_UNFOLD o.parts (POther (PCommand whole) ∷ o.rest) (same_act text by.raw act.ACT_UNFOLD o.parts by.number ∙ o.done) in
    go o.parts o.rest o.before a.0 a.1
  where
    go : (parts rest : Parts) → built text (take at nodes) ≡ Some parts → has_tops (is_names ∷ is_inst ∷ is_token ∷ []) parts ≡ true → POther (PCommand whole) ∷ rest ≡ POther (PCommand (made_unfold parts)) ∷ drop 3 parts → IsUnfold text nodes at at_word at_inst at_names whole
    go parts rest before h q =
        top_names (is_inst ∷ is_token ∷ []) parts h (λ x0 r0 e0 h0.
        top_inst (is_token ∷ []) r0 h0 (λ x1 r1 e1 h1.
        top_token ([]) r1 h1 (λ x2 r2 e2 h2.
        unfold_end text nodes at at_word at_inst at_names known_word known_inst known_names whole parts rest x0 x1 x2 r2 before (e0 ∙ ap (λ (ps : Parts). POther (PNames x0) ∷ ps) (e1 ∙ ap (λ (ps : Parts). POther (PInst x1) ∷ ps) e2)) q)))

unfold_arms_end : (text : List ℕ) (nodes : List Node) (at : ℕ) (at_word : SeenToken) (at_inst : ℕ) (at_arms : ℕ) → IsTokenOf text nodes at 2 at_word → IsChild text nodes at 1 at_inst → IsChild text nodes at 0 at_arms
    → (whole : Command) (parts rest : Parts) (arms : List Arm) (inst : Inst) (word : SeenToken) (behind : Parts) → built text (take at nodes) ≡ Some parts → parts ≡ POther (PArms arms) ∷ POther (PInst inst) ∷ PToken word ∷ behind
    → POther (PCommand whole) ∷ rest ≡ POther (PCommand (made_unfold_arms parts)) ∷ drop 3 parts → IsUnfoldArms text nodes at at_word at_inst at_arms whole
unfold_arms_end text nodes at at_word at_inst at_arms known_word known_inst known_arms whole parts rest arms inst word behind before shape q =
    let made : whole ≡ made_unfold_arms parts = cc in
    record {
      of_inst = inst;
      of_arms = arms;
      at_inst = at_part text nodes at 1 at_inst parts (PToken word ∷ behind) (POther (PInst inst)) known_inst before (ap (λ (ps : Parts). drop 1 ps) shape);
      at_arms = at_part text nodes at 0 at_arms parts (POther (PInst inst) ∷ PToken word ∷ behind) (POther (PArms arms)) known_arms before (ap (λ (ps : Parts). drop 0 ps) shape);
      made = made ∙ ap (λ (ps : Parts). made_unfold_arms ps) shape
          ∙ ap (λ (x : SeenToken). (command.UnfoldArms x inst arms)) (sym (known_word.same parts (behind) word before (ap (λ (ps : Parts). drop 2 ps) shape)));
    }

pub unfold_arms_is : (text : List ℕ) (nodes : List Node) (at : ℕ) (at_word : SeenToken) (at_inst : ℕ) (at_arms : ℕ) → IsMadeBy nodes at act.ACT_UNFOLD_ARMS → IsTokenOf text nodes at 2 at_word → IsChild text nodes at 1 at_inst → IsChild text nodes at 0 at_arms
    → (whole : Command) → IsPartAt text nodes at (POther (PCommand whole)) → IsUnfoldArms text nodes at at_word at_inst at_arms whole
unfold_arms_is text nodes at at_word at_inst at_arms by known_word known_inst known_arms whole is =
    let o = opened text nodes at (Made by.raw by.from) (POther (PCommand whole)) by.node is in
    let a = accepted text act.ACT_UNFOLD_ARMS o.parts (POther (PCommand whole) ∷ o.rest) (same_act text by.raw act.ACT_UNFOLD_ARMS o.parts by.number ∙ o.done) in
    go o.parts o.rest o.before a.0 a.1
  where
    go : (parts rest : Parts) → built text (take at nodes) ≡ Some parts → has_tops (is_arms ∷ is_inst ∷ is_token ∷ []) parts ≡ true → POther (PCommand whole) ∷ rest ≡ POther (PCommand (made_unfold_arms parts)) ∷ drop 3 parts → IsUnfoldArms text nodes at at_word at_inst at_arms whole
    go parts rest before h q =
        top_arms (is_inst ∷ is_token ∷ []) parts h (λ x0 r0 e0 h0.
        top_inst (is_token ∷ []) r0 h0 (λ x1 r1 e1 h1.
        top_token ([]) r1 h1 (λ x2 r2 e2 h2.
        unfold_arms_end text nodes at at_word at_inst at_arms known_word known_inst known_arms whole parts rest x0 x1 x2 r2 before (e0 ∙ ap (λ (ps : Parts). POther (PArms x0) ∷ ps) (e1 ∙ ap (λ (ps : Parts). POther (PInst x1) ∷ ps) e2)) q)))

on_atom_end : (text : List ℕ) (nodes : List Node) (at : ℕ) (at_word : SeenToken) (at_on : ℕ) → IsTokenOf text nodes at 1 at_word → IsChild text nodes at 0 at_on
    → (whole : Command) (parts rest : Parts) (on : Atom) (word : SeenToken) (behind : Parts) → built text (take at nodes) ≡ Some parts → parts ≡ POther (PAtom on) ∷ PToken word ∷ behind
    → POther (PCommand whole) ∷ rest ≡ POther (PCommand (made_on_atom parts)) ∷ drop 2 parts → IsOnAtom text nodes at at_word at_on whole
on_atom_end text nodes at at_word at_on known_word known_on whole parts rest on word behind before shape q =
    let made : whole ≡ made_on_atom parts = cc in
    record {
      of_on = on;
      at_on = at_part text nodes at 0 at_on parts (PToken word ∷ behind) (POther (PAtom on)) known_on before (ap (λ (ps : Parts). drop 0 ps) shape);
      made = made ∙ ap (λ (ps : Parts). made_on_atom ps) shape
          ∙ ap (λ (x : SeenToken). (command.OnAtom x on)) (sym (known_word.same parts (behind) word before (ap (λ (ps : Parts). drop 1 ps) shape)));
    }

pub on_atom_is : (text : List ℕ) (nodes : List Node) (at : ℕ) (at_word : SeenToken) (at_on : ℕ) → IsMadeBy nodes at act.ACT_ON_ATOM → IsTokenOf text nodes at 1 at_word → IsChild text nodes at 0 at_on
    → (whole : Command) → IsPartAt text nodes at (POther (PCommand whole)) → IsOnAtom text nodes at at_word at_on whole
on_atom_is text nodes at at_word at_on by known_word known_on whole is =
    let o = opened text nodes at (Made by.raw by.from) (POther (PCommand whole)) by.node is in
    let a = accepted text act.ACT_ON_ATOM o.parts (POther (PCommand whole) ∷ o.rest) (same_act text by.raw act.ACT_ON_ATOM o.parts by.number ∙ o.done) in
    go o.parts o.rest o.before a.0 a.1
  where
    go : (parts rest : Parts) → built text (take at nodes) ≡ Some parts → has_tops (is_atom ∷ is_token ∷ []) parts ≡ true → POther (PCommand whole) ∷ rest ≡ POther (PCommand (made_on_atom parts)) ∷ drop 2 parts → IsOnAtom text nodes at at_word at_on whole
    go parts rest before h q =
        top_atom (is_token ∷ []) parts h (λ x0 r0 e0 h0.
        top_token ([]) r0 h0 (λ x1 r1 e1 h1.
        on_atom_end text nodes at at_word at_on known_word known_on whole parts rest x0 x1 r1 before (e0 ∙ ap (λ (ps : Parts). POther (PAtom x0) ∷ ps) e1) q))

have_end : (text : List ℕ) (nodes : List Node) (at : ℕ) (at_word : SeenToken) (at_term : ℕ) (at_proof : ℕ) → IsTokenOf text nodes at 3 at_word → IsChild text nodes at 2 at_term → IsChild text nodes at 0 at_proof
    → (whole : Command) (parts rest : Parts) (proof : Cert) (passed_2 : SeenToken) (term : PlacedTerm) (word : SeenToken) (behind : Parts) → built text (take at nodes) ≡ Some parts → parts ≡ POther (PCert proof) ∷ PToken passed_2 ∷ PTerm term ∷ PToken word ∷ behind
    → POther (PCommand whole) ∷ rest ≡ POther (PCommand (made_have parts)) ∷ drop 4 parts → IsHave text nodes at at_word at_term at_proof whole
have_end text nodes at at_word at_term at_proof known_word known_term known_proof whole parts rest proof passed_2 term word behind before shape q =
    let made : whole ≡ made_have parts = cc in
    record {
      of_term = term;
      of_proof = proof;
      at_term = at_part text nodes at 2 at_term parts (PToken word ∷ behind) (PTerm term) known_term before (ap (λ (ps : Parts). drop 2 ps) shape);
      at_proof = at_part text nodes at 0 at_proof parts (PToken passed_2 ∷ PTerm term ∷ PToken word ∷ behind) (POther (PCert proof)) known_proof before (ap (λ (ps : Parts). drop 0 ps) shape);
      made = made ∙ ap (λ (ps : Parts). made_have ps) shape
          ∙ ap (λ (x : SeenToken). (command.Have x term proof)) (sym (known_word.same parts (behind) word before (ap (λ (ps : Parts). drop 3 ps) shape)));
    }

pub have_is : (text : List ℕ) (nodes : List Node) (at : ℕ) (at_word : SeenToken) (at_term : ℕ) (at_proof : ℕ) → IsMadeBy nodes at act.ACT_HAVE → IsTokenOf text nodes at 3 at_word → IsChild text nodes at 2 at_term → IsChild text nodes at 0 at_proof
    → (whole : Command) → IsPartAt text nodes at (POther (PCommand whole)) → IsHave text nodes at at_word at_term at_proof whole
have_is text nodes at at_word at_term at_proof by known_word known_term known_proof whole is =
    let o = opened text nodes at (Made by.raw by.from) (POther (PCommand whole)) by.node is in
    let a = accepted text act.ACT_HAVE o.parts (POther (PCommand whole) ∷ o.rest) (same_act text by.raw act.ACT_HAVE o.parts by.number ∙ o.done) in
    go o.parts o.rest o.before a.0 a.1
  where
    go : (parts rest : Parts) → built text (take at nodes) ≡ Some parts → has_tops (is_cert ∷ is_token ∷ is_term ∷ is_token ∷ []) parts ≡ true → POther (PCommand whole) ∷ rest ≡ POther (PCommand (made_have parts)) ∷ drop 4 parts → IsHave text nodes at at_word at_term at_proof whole
    go parts rest before h q =
        top_cert (is_token ∷ is_term ∷ is_token ∷ []) parts h (λ x0 r0 e0 h0.
        top_token (is_term ∷ is_token ∷ []) r0 h0 (λ x1 r1 e1 h1.
        top_term (is_token ∷ []) r1 h1 (λ x2 r2 e2 h2.
        top_token ([]) r2 h2 (λ x3 r3 e3 h3.
        have_end text nodes at at_word at_term at_proof known_word known_term known_proof whole parts rest x0 x1 x2 x3 r3 before (e0 ∙ ap (λ (ps : Parts). POther (PCert x0) ∷ ps) (e1 ∙ ap (λ (ps : Parts). PToken x1 ∷ ps) (e2 ∙ ap (λ (ps : Parts). PTerm x2 ∷ ps) e3))) q))))

let_end : (text : List ℕ) (nodes : List Node) (at : ℕ) (at_word : SeenToken) (at_name : SeenToken) (at_term : ℕ) → IsTokenOf text nodes at 3 at_word → IsTokenOf text nodes at 2 at_name → IsChild text nodes at 0 at_term
    → (whole : Command) (parts rest : Parts) (term : PlacedTerm) (passed_2 : SeenToken) (name : SeenToken) (word : SeenToken) (behind : Parts) → built text (take at nodes) ≡ Some parts → parts ≡ PTerm term ∷ PToken passed_2 ∷ PToken name ∷ PToken word ∷ behind
    → POther (PCommand whole) ∷ rest ≡ POther (PCommand (made_let parts)) ∷ drop 4 parts → IsLet text nodes at at_word at_name at_term whole
let_end text nodes at at_word at_name at_term known_word known_name known_term whole parts rest term passed_2 name word behind before shape q =
    let made : whole ≡ made_let parts = cc in
    record {
      of_term = term;
      at_term = at_part text nodes at 0 at_term parts (PToken passed_2 ∷ PToken name ∷ PToken word ∷ behind) (PTerm term) known_term before (ap (λ (ps : Parts). drop 0 ps) shape);
      made = made ∙ ap (λ (ps : Parts). made_let ps) shape
          ∙ ap (λ (x : SeenToken). (command.Let x name term)) (sym (known_word.same parts (behind) word before (ap (λ (ps : Parts). drop 3 ps) shape)))
          ∙ ap (λ (x : SeenToken). (command.Let at_word x term)) (sym (known_name.same parts (PToken word ∷ behind) name before (ap (λ (ps : Parts). drop 2 ps) shape)));
    }

pub let_is : (text : List ℕ) (nodes : List Node) (at : ℕ) (at_word : SeenToken) (at_name : SeenToken) (at_term : ℕ) → IsMadeBy nodes at act.ACT_LET → IsTokenOf text nodes at 3 at_word → IsTokenOf text nodes at 2 at_name → IsChild text nodes at 0 at_term
    → (whole : Command) → IsPartAt text nodes at (POther (PCommand whole)) → IsLet text nodes at at_word at_name at_term whole
let_is text nodes at at_word at_name at_term by known_word known_name known_term whole is =
    let o = opened text nodes at (Made by.raw by.from) (POther (PCommand whole)) by.node is in
    let a = accepted text act.ACT_LET o.parts (POther (PCommand whole) ∷ o.rest) (same_act text by.raw act.ACT_LET o.parts by.number ∙ o.done) in
    go o.parts o.rest o.before a.0 a.1
  where
    go : (parts rest : Parts) → built text (take at nodes) ≡ Some parts → has_tops (is_term ∷ is_token ∷ is_token ∷ is_token ∷ []) parts ≡ true → POther (PCommand whole) ∷ rest ≡ POther (PCommand (made_let parts)) ∷ drop 4 parts → IsLet text nodes at at_word at_name at_term whole
    go parts rest before h q =
        top_term (is_token ∷ is_token ∷ is_token ∷ []) parts h (λ x0 r0 e0 h0.
        top_token (is_token ∷ is_token ∷ []) r0 h0 (λ x1 r1 e1 h1.
        top_token (is_token ∷ []) r1 h1 (λ x2 r2 e2 h2.
        top_token ([]) r2 h2 (λ x3 r3 e3 h3.
        let_end text nodes at at_word at_name at_term known_word known_name known_term whole parts rest x0 x1 x2 x3 r3 before (e0 ∙ ap (λ (ps : Parts). PTerm x0 ∷ ps) (e1 ∙ ap (λ (ps : Parts). PToken x1 ∷ ps) (e2 ∙ ap (λ (ps : Parts). PToken x2 ∷ ps) e3))) q))))

rewrite_end : (text : List ℕ) (nodes : List Node) (at : ℕ) (at_word : SeenToken) (at_old : ℕ) (at_new : ℕ) → IsTokenOf text nodes at 3 at_word → IsChild text nodes at 2 at_old → IsChild text nodes at 0 at_new
    → (whole : Command) (parts rest : Parts) (new : PlacedTerm) (passed_2 : SeenToken) (old : PlacedTerm) (word : SeenToken) (behind : Parts) → built text (take at nodes) ≡ Some parts → parts ≡ PTerm new ∷ PToken passed_2 ∷ PTerm old ∷ PToken word ∷ behind
    → POther (PCommand whole) ∷ rest ≡ POther (PCommand (made_rewrite parts)) ∷ drop 4 parts → IsRewrite text nodes at at_word at_old at_new whole
rewrite_end text nodes at at_word at_old at_new known_word known_old known_new whole parts rest new passed_2 old word behind before shape q =
    let made : whole ≡ made_rewrite parts = cc in
    record {
      of_old = old;
      of_new = new;
      at_old = at_part text nodes at 2 at_old parts (PToken word ∷ behind) (PTerm old) known_old before (ap (λ (ps : Parts). drop 2 ps) shape);
      at_new = at_part text nodes at 0 at_new parts (PToken passed_2 ∷ PTerm old ∷ PToken word ∷ behind) (PTerm new) known_new before (ap (λ (ps : Parts). drop 0 ps) shape);
      made = made ∙ ap (λ (ps : Parts). made_rewrite ps) shape
          ∙ ap (λ (x : SeenToken). (command.Rewrite x old new)) (sym (known_word.same parts (behind) word before (ap (λ (ps : Parts). drop 3 ps) shape)));
    }

pub rewrite_is : (text : List ℕ) (nodes : List Node) (at : ℕ) (at_word : SeenToken) (at_old : ℕ) (at_new : ℕ) → IsMadeBy nodes at act.ACT_REWRITE → IsTokenOf text nodes at 3 at_word → IsChild text nodes at 2 at_old → IsChild text nodes at 0 at_new
    → (whole : Command) → IsPartAt text nodes at (POther (PCommand whole)) → IsRewrite text nodes at at_word at_old at_new whole
rewrite_is text nodes at at_word at_old at_new by known_word known_old known_new whole is =
    let o = opened text nodes at (Made by.raw by.from) (POther (PCommand whole)) by.node is in
    let a = accepted text act.ACT_REWRITE o.parts (POther (PCommand whole) ∷ o.rest) (same_act text by.raw act.ACT_REWRITE o.parts by.number ∙ o.done) in
    go o.parts o.rest o.before a.0 a.1
  where
    go : (parts rest : Parts) → built text (take at nodes) ≡ Some parts → has_tops (is_term ∷ is_token ∷ is_term ∷ is_token ∷ []) parts ≡ true → POther (PCommand whole) ∷ rest ≡ POther (PCommand (made_rewrite parts)) ∷ drop 4 parts → IsRewrite text nodes at at_word at_old at_new whole
    go parts rest before h q =
        top_term (is_token ∷ is_term ∷ is_token ∷ []) parts h (λ x0 r0 e0 h0.
        top_token (is_term ∷ is_token ∷ []) r0 h0 (λ x1 r1 e1 h1.
        top_term (is_token ∷ []) r1 h1 (λ x2 r2 e2 h2.
        top_token ([]) r2 h2 (λ x3 r3 e3 h3.
        rewrite_end text nodes at at_word at_old at_new known_word known_old known_new whole parts rest x0 x1 x2 x3 r3 before (e0 ∙ ap (λ (ps : Parts). PTerm x0 ∷ ps) (e1 ∙ ap (λ (ps : Parts). PToken x1 ∷ ps) (e2 ∙ ap (λ (ps : Parts). PTerm x2 ∷ ps) e3))) q))))

absurd_end : (text : List ℕ) (nodes : List Node) (at : ℕ) (at_word : SeenToken) (at_proof : ℕ) → IsTokenOf text nodes at 2 at_word → IsChild text nodes at 0 at_proof
    → (whole : Command) (parts rest : Parts) (proof : Cert) (passed_1 : SeenToken) (word : SeenToken) (behind : Parts) → built text (take at nodes) ≡ Some parts → parts ≡ POther (PCert proof) ∷ PToken passed_1 ∷ PToken word ∷ behind
    → POther (PCommand whole) ∷ rest ≡ POther (PCommand (made_absurd parts)) ∷ drop 3 parts → IsAbsurd text nodes at at_word at_proof whole
absurd_end text nodes at at_word at_proof known_word known_proof whole parts rest proof passed_1 word behind before shape q =
    let made : whole ≡ made_absurd parts = cc in
    record {
      of_proof = proof;
      at_proof = at_part text nodes at 0 at_proof parts (PToken passed_1 ∷ PToken word ∷ behind) (POther (PCert proof)) known_proof before (ap (λ (ps : Parts). drop 0 ps) shape);
      made = made ∙ ap (λ (ps : Parts). made_absurd ps) shape
          ∙ ap (λ (x : SeenToken). (command.Absurd x proof)) (sym (known_word.same parts (behind) word before (ap (λ (ps : Parts). drop 2 ps) shape)));
    }

pub absurd_is : (text : List ℕ) (nodes : List Node) (at : ℕ) (at_word : SeenToken) (at_proof : ℕ) → IsMadeBy nodes at act.ACT_ABSURD → IsTokenOf text nodes at 2 at_word → IsChild text nodes at 0 at_proof
    → (whole : Command) → IsPartAt text nodes at (POther (PCommand whole)) → IsAbsurd text nodes at at_word at_proof whole
absurd_is text nodes at at_word at_proof by known_word known_proof whole is =
    let o = opened text nodes at (Made by.raw by.from) (POther (PCommand whole)) by.node is in
    let a = accepted text act.ACT_ABSURD o.parts (POther (PCommand whole) ∷ o.rest) (same_act text by.raw act.ACT_ABSURD o.parts by.number ∙ o.done) in
    go o.parts o.rest o.before a.0 a.1
  where
    go : (parts rest : Parts) → built text (take at nodes) ≡ Some parts → has_tops (is_cert ∷ is_token ∷ is_token ∷ []) parts ≡ true → POther (PCommand whole) ∷ rest ≡ POther (PCommand (made_absurd parts)) ∷ drop 3 parts → IsAbsurd text nodes at at_word at_proof whole
    go parts rest before h q =
        top_cert (is_token ∷ is_token ∷ []) parts h (λ x0 r0 e0 h0.
        top_token (is_token ∷ []) r0 h0 (λ x1 r1 e1 h1.
        top_token ([]) r1 h1 (λ x2 r2 e2 h2.
        absurd_end text nodes at at_word at_proof known_word known_proof whole parts rest x0 x1 x2 r2 before (e0 ∙ ap (λ (ps : Parts). POther (PCert x0) ∷ ps) (e1 ∙ ap (λ (ps : Parts). PToken x1 ∷ ps) e2)) q)))

clash_end : (text : List ℕ) (nodes : List Node) (at : ℕ) (at_word : SeenToken) (at_atoms : ℕ) → IsTokenOf text nodes at 1 at_word → IsChild text nodes at 0 at_atoms
    → (whole : Command) (parts rest : Parts) (atoms : List Atom) (word : SeenToken) (behind : Parts) → built text (take at nodes) ≡ Some parts → parts ≡ POther (PAtoms atoms) ∷ PToken word ∷ behind
    → POther (PCommand whole) ∷ rest ≡ POther (PCommand (made_clash parts)) ∷ drop 2 parts → IsClash text nodes at at_word at_atoms whole
clash_end text nodes at at_word at_atoms known_word known_atoms whole parts rest atoms word behind before shape q =
    let made : whole ≡ made_clash parts = cc in
    record {
      of_atoms = atoms;
      at_atoms = at_part text nodes at 0 at_atoms parts (PToken word ∷ behind) (POther (PAtoms atoms)) known_atoms before (ap (λ (ps : Parts). drop 0 ps) shape);
      made = made ∙ ap (λ (ps : Parts). made_clash ps) shape
          ∙ ap (λ (x : SeenToken). (command.Clash x atoms)) (sym (known_word.same parts (behind) word before (ap (λ (ps : Parts). drop 1 ps) shape)));
    }

pub clash_is : (text : List ℕ) (nodes : List Node) (at : ℕ) (at_word : SeenToken) (at_atoms : ℕ) → IsMadeBy nodes at act.ACT_CLASH → IsTokenOf text nodes at 1 at_word → IsChild text nodes at 0 at_atoms
    → (whole : Command) → IsPartAt text nodes at (POther (PCommand whole)) → IsClash text nodes at at_word at_atoms whole
clash_is text nodes at at_word at_atoms by known_word known_atoms whole is =
    let o = opened text nodes at (Made by.raw by.from) (POther (PCommand whole)) by.node is in
    let a = accepted text act.ACT_CLASH o.parts (POther (PCommand whole) ∷ o.rest) (same_act text by.raw act.ACT_CLASH o.parts by.number ∙ o.done) in
    go o.parts o.rest o.before a.0 a.1
  where
    go : (parts rest : Parts) → built text (take at nodes) ≡ Some parts → has_tops (is_atoms ∷ is_token ∷ []) parts ≡ true → POther (PCommand whole) ∷ rest ≡ POther (PCommand (made_clash parts)) ∷ drop 2 parts → IsClash text nodes at at_word at_atoms whole
    go parts rest before h q =
        top_atoms (is_token ∷ []) parts h (λ x0 r0 e0 h0.
        top_token ([]) r0 h0 (λ x1 r1 e1 h1.
        clash_end text nodes at at_word at_atoms known_word known_atoms whole parts rest x0 x1 r1 before (e0 ∙ ap (λ (ps : Parts). POther (PAtoms x0) ∷ ps) e1) q))

cases_end : (text : List ℕ) (nodes : List Node) (at : ℕ) (at_word : SeenToken) (at_term : ℕ) (at_first : ℕ) (at_second : ℕ) → IsTokenOf text nodes at 3 at_word → IsChild text nodes at 2 at_term → IsChild text nodes at 1 at_first → IsChild text nodes at 0 at_second
    → (whole : Command) (parts rest : Parts) (second : Block) (first : Block) (term : PlacedTerm) (word : SeenToken) (behind : Parts) → built text (take at nodes) ≡ Some parts → parts ≡ POther (PBlock second) ∷ POther (PBlock first) ∷ PTerm term ∷ PToken word ∷ behind
    → POther (PCommand whole) ∷ rest ≡ POther (PCommand (made_cases parts)) ∷ drop 4 parts → IsCases text nodes at at_word at_term at_first at_second whole
cases_end text nodes at at_word at_term at_first at_second known_word known_term known_first known_second whole parts rest second first term word behind before shape q =
    let made : whole ≡ made_cases parts = cc in
    record {
      of_term = term;
      of_first = first;
      of_second = second;
      at_term = at_part text nodes at 2 at_term parts (PToken word ∷ behind) (PTerm term) known_term before (ap (λ (ps : Parts). drop 2 ps) shape);
      at_first = at_part text nodes at 1 at_first parts (PTerm term ∷ PToken word ∷ behind) (POther (PBlock first)) known_first before (ap (λ (ps : Parts). drop 1 ps) shape);
      at_second = at_part text nodes at 0 at_second parts (POther (PBlock first) ∷ PTerm term ∷ PToken word ∷ behind) (POther (PBlock second)) known_second before (ap (λ (ps : Parts). drop 0 ps) shape);
      made = made ∙ ap (λ (ps : Parts). made_cases ps) shape
          ∙ ap (λ (x : SeenToken). (command.Cases x term first second)) (sym (known_word.same parts (behind) word before (ap (λ (ps : Parts). drop 3 ps) shape)));
    }

pub cases_is : (text : List ℕ) (nodes : List Node) (at : ℕ) (at_word : SeenToken) (at_term : ℕ) (at_first : ℕ) (at_second : ℕ) → IsMadeBy nodes at act.ACT_CASES → IsTokenOf text nodes at 3 at_word → IsChild text nodes at 2 at_term → IsChild text nodes at 1 at_first → IsChild text nodes at 0 at_second
    → (whole : Command) → IsPartAt text nodes at (POther (PCommand whole)) → IsCases text nodes at at_word at_term at_first at_second whole
cases_is text nodes at at_word at_term at_first at_second by known_word known_term known_first known_second whole is =
    let o = opened text nodes at (Made by.raw by.from) (POther (PCommand whole)) by.node is in
    let a = accepted text act.ACT_CASES o.parts (POther (PCommand whole) ∷ o.rest) (same_act text by.raw act.ACT_CASES o.parts by.number ∙ o.done) in
    go o.parts o.rest o.before a.0 a.1
  where
    go : (parts rest : Parts) → built text (take at nodes) ≡ Some parts → has_tops (is_block ∷ is_block ∷ is_term ∷ is_token ∷ []) parts ≡ true → POther (PCommand whole) ∷ rest ≡ POther (PCommand (made_cases parts)) ∷ drop 4 parts → IsCases text nodes at at_word at_term at_first at_second whole
    go parts rest before h q =
        top_block (is_block ∷ is_term ∷ is_token ∷ []) parts h (λ x0 r0 e0 h0.
        top_block (is_term ∷ is_token ∷ []) r0 h0 (λ x1 r1 e1 h1.
        top_term (is_token ∷ []) r1 h1 (λ x2 r2 e2 h2.
        top_token ([]) r2 h2 (λ x3 r3 e3 h3.
        cases_end text nodes at at_word at_term at_first at_second known_word known_term known_first known_second whole parts rest x0 x1 x2 x3 r3 before (e0 ∙ ap (λ (ps : Parts). POther (PBlock x0) ∷ ps) (e1 ∙ ap (λ (ps : Parts). POther (PBlock x1) ∷ ps) (e2 ∙ ap (λ (ps : Parts). PTerm x2 ∷ ps) e3))) q))))

on_pair_end : (text : List ℕ) (nodes : List Node) (at : ℕ) (at_word : SeenToken) (at_a : ℕ) (at_b : ℕ) → IsTokenOf text nodes at 3 at_word → IsChild text nodes at 2 at_a → IsChild text nodes at 0 at_b
    → (whole : Command) (parts rest : Parts) (b : Atom) (passed_2 : SeenToken) (a : Atom) (word : SeenToken) (behind : Parts) → built text (take at nodes) ≡ Some parts → parts ≡ POther (PAtom b) ∷ PToken passed_2 ∷ POther (PAtom a) ∷ PToken word ∷ behind
    → POther (PCommand whole) ∷ rest ≡ POther (PCommand (made_on_pair parts)) ∷ drop 4 parts → IsOnPair text nodes at at_word at_a at_b whole
on_pair_end text nodes at at_word at_a at_b known_word known_a known_b whole parts rest b passed_2 a word behind before shape q =
    let made : whole ≡ made_on_pair parts = cc in
    record {
      of_a = a;
      of_b = b;
      at_a = at_part text nodes at 2 at_a parts (PToken word ∷ behind) (POther (PAtom a)) known_a before (ap (λ (ps : Parts). drop 2 ps) shape);
      at_b = at_part text nodes at 0 at_b parts (PToken passed_2 ∷ POther (PAtom a) ∷ PToken word ∷ behind) (POther (PAtom b)) known_b before (ap (λ (ps : Parts). drop 0 ps) shape);
      made = made ∙ ap (λ (ps : Parts). made_on_pair ps) shape
          ∙ ap (λ (x : SeenToken). (command.OnPair x a b)) (sym (known_word.same parts (behind) word before (ap (λ (ps : Parts). drop 3 ps) shape)));
    }

pub on_pair_is : (text : List ℕ) (nodes : List Node) (at : ℕ) (at_word : SeenToken) (at_a : ℕ) (at_b : ℕ) → IsMadeBy nodes at act.ACT_ON_PAIR → IsTokenOf text nodes at 3 at_word → IsChild text nodes at 2 at_a → IsChild text nodes at 0 at_b
    → (whole : Command) → IsPartAt text nodes at (POther (PCommand whole)) → IsOnPair text nodes at at_word at_a at_b whole
on_pair_is text nodes at at_word at_a at_b by known_word known_a known_b whole is =
    let o = opened text nodes at (Made by.raw by.from) (POther (PCommand whole)) by.node is in
    let a = accepted text act.ACT_ON_PAIR o.parts (POther (PCommand whole) ∷ o.rest) (same_act text by.raw act.ACT_ON_PAIR o.parts by.number ∙ o.done) in
    go o.parts o.rest o.before a.0 a.1
  where
    go : (parts rest : Parts) → built text (take at nodes) ≡ Some parts → has_tops (is_atom ∷ is_token ∷ is_atom ∷ is_token ∷ []) parts ≡ true → POther (PCommand whole) ∷ rest ≡ POther (PCommand (made_on_pair parts)) ∷ drop 4 parts → IsOnPair text nodes at at_word at_a at_b whole
    go parts rest before h q =
        top_atom (is_token ∷ is_atom ∷ is_token ∷ []) parts h (λ x0 r0 e0 h0.
        top_token (is_atom ∷ is_token ∷ []) r0 h0 (λ x1 r1 e1 h1.
        top_atom (is_token ∷ []) r1 h1 (λ x2 r2 e2 h2.
        top_token ([]) r2 h2 (λ x3 r3 e3 h3.
        on_pair_end text nodes at at_word at_a at_b known_word known_a known_b whole parts rest x0 x1 x2 x3 r3 before (e0 ∙ ap (λ (ps : Parts). POther (PAtom x0) ∷ ps) (e1 ∙ ap (λ (ps : Parts). PToken x1 ∷ ps) (e2 ∙ ap (λ (ps : Parts). POther (PAtom x2) ∷ ps) e3))) q))))

halves_new_end : (text : List ℕ) (nodes : List Node) (at : ℕ) (at_word : SeenToken) (at_value : ℕ) (at_name : SeenToken) → IsTokenOf text nodes at 4 at_word → IsChild text nodes at 2 at_value → IsTokenOf text nodes at 0 at_name
    → (whole : Command) (parts rest : Parts) (name : SeenToken) (passed_3 : SeenToken) (value : PlacedTerm) (passed_1 : SeenToken) (word : SeenToken) (behind : Parts) → built text (take at nodes) ≡ Some parts → parts ≡ PToken name ∷ PToken passed_3 ∷ PTerm value ∷ PToken passed_1 ∷ PToken word ∷ behind
    → POther (PCommand whole) ∷ rest ≡ POther (PCommand (made_halves_new parts)) ∷ drop 5 parts → IsHalvesNew text nodes at at_word at_value at_name whole
halves_new_end text nodes at at_word at_value at_name known_word known_value known_name whole parts rest name passed_3 value passed_1 word behind before shape q =
    let made : whole ≡ made_halves_new parts = cc in
    record {
      of_value = value;
      at_value = at_part text nodes at 2 at_value parts (PToken passed_1 ∷ PToken word ∷ behind) (PTerm value) known_value before (ap (λ (ps : Parts). drop 2 ps) shape);
      made = made ∙ ap (λ (ps : Parts). made_halves_new ps) shape
          ∙ ap (λ (x : SeenToken). (command.HalvesNew x value name)) (sym (known_word.same parts (behind) word before (ap (λ (ps : Parts). drop 4 ps) shape)))
          ∙ ap (λ (x : SeenToken). (command.HalvesNew at_word value x)) (sym (known_name.same parts (PToken passed_3 ∷ PTerm value ∷ PToken passed_1 ∷ PToken word ∷ behind) name before (ap (λ (ps : Parts). drop 0 ps) shape)));
    }

pub halves_new_is : (text : List ℕ) (nodes : List Node) (at : ℕ) (at_word : SeenToken) (at_value : ℕ) (at_name : SeenToken) → IsMadeBy nodes at act.ACT_HALVES_NEW → IsTokenOf text nodes at 4 at_word → IsChild text nodes at 2 at_value → IsTokenOf text nodes at 0 at_name
    → (whole : Command) → IsPartAt text nodes at (POther (PCommand whole)) → IsHalvesNew text nodes at at_word at_value at_name whole
halves_new_is text nodes at at_word at_value at_name by known_word known_value known_name whole is =
    let o = opened text nodes at (Made by.raw by.from) (POther (PCommand whole)) by.node is in
    let a = accepted text act.ACT_HALVES_NEW o.parts (POther (PCommand whole) ∷ o.rest) (same_act text by.raw act.ACT_HALVES_NEW o.parts by.number ∙ o.done) in
    go o.parts o.rest o.before a.0 a.1
  where
    go : (parts rest : Parts) → built text (take at nodes) ≡ Some parts → has_tops (is_token ∷ is_token ∷ is_term ∷ is_token ∷ is_token ∷ []) parts ≡ true → POther (PCommand whole) ∷ rest ≡ POther (PCommand (made_halves_new parts)) ∷ drop 5 parts → IsHalvesNew text nodes at at_word at_value at_name whole
    go parts rest before h q =
        top_token (is_token ∷ is_term ∷ is_token ∷ is_token ∷ []) parts h (λ x0 r0 e0 h0.
        top_token (is_term ∷ is_token ∷ is_token ∷ []) r0 h0 (λ x1 r1 e1 h1.
        top_term (is_token ∷ is_token ∷ []) r1 h1 (λ x2 r2 e2 h2.
        top_token (is_token ∷ []) r2 h2 (λ x3 r3 e3 h3.
        top_token ([]) r3 h3 (λ x4 r4 e4 h4.
        halves_new_end text nodes at at_word at_value at_name known_word known_value known_name whole parts rest x0 x1 x2 x3 x4 r4 before (e0 ∙ ap (λ (ps : Parts). PToken x0 ∷ ps) (e1 ∙ ap (λ (ps : Parts). PToken x1 ∷ ps) (e2 ∙ ap (λ (ps : Parts). PTerm x2 ∷ ps) (e3 ∙ ap (λ (ps : Parts). PToken x3 ∷ ps) e4)))) q)))))

halves_set_end : (text : List ℕ) (nodes : List Node) (at : ℕ) (at_word : SeenToken) (at_name : ℕ) (at_value : ℕ) → IsTokenOf text nodes at 3 at_word → IsChild text nodes at 1 at_name → IsChild text nodes at 0 at_value
    → (whole : Command) (parts rest : Parts) (value : PlacedTerm) (name : PlacedTerm) (passed_1 : SeenToken) (word : SeenToken) (behind : Parts) → built text (take at nodes) ≡ Some parts → parts ≡ PTerm value ∷ PTerm name ∷ PToken passed_1 ∷ PToken word ∷ behind
    → POther (PCommand whole) ∷ rest ≡ POther (PCommand (made_halves_set parts)) ∷ drop 4 parts → IsHalvesSet text nodes at at_word at_name at_value whole
halves_set_end text nodes at at_word at_name at_value known_word known_name known_value whole parts rest value name passed_1 word behind before shape q =
    let made : whole ≡ made_halves_set parts = cc in
    record {
      of_name = name;
      of_value = value;
      at_name = at_part text nodes at 1 at_name parts (PToken passed_1 ∷ PToken word ∷ behind) (PTerm name) known_name before (ap (λ (ps : Parts). drop 1 ps) shape);
      at_value = at_part text nodes at 0 at_value parts (PTerm name ∷ PToken passed_1 ∷ PToken word ∷ behind) (PTerm value) known_value before (ap (λ (ps : Parts). drop 0 ps) shape);
      made = made ∙ ap (λ (ps : Parts). made_halves_set ps) shape
          ∙ ap (λ (x : SeenToken). (command.HalvesSet x name value)) (sym (known_word.same parts (behind) word before (ap (λ (ps : Parts). drop 3 ps) shape)));
    }

pub halves_set_is : (text : List ℕ) (nodes : List Node) (at : ℕ) (at_word : SeenToken) (at_name : ℕ) (at_value : ℕ) → IsMadeBy nodes at act.ACT_HALVES_SET → IsTokenOf text nodes at 3 at_word → IsChild text nodes at 1 at_name → IsChild text nodes at 0 at_value
    → (whole : Command) → IsPartAt text nodes at (POther (PCommand whole)) → IsHalvesSet text nodes at at_word at_name at_value whole
halves_set_is text nodes at at_word at_name at_value by known_word known_name known_value whole is =
    let o = opened text nodes at (Made by.raw by.from) (POther (PCommand whole)) by.node is in
    let a = accepted text act.ACT_HALVES_SET o.parts (POther (PCommand whole) ∷ o.rest) (same_act text by.raw act.ACT_HALVES_SET o.parts by.number ∙ o.done) in
    go o.parts o.rest o.before a.0 a.1
  where
    go : (parts rest : Parts) → built text (take at nodes) ≡ Some parts → has_tops (is_term ∷ is_term ∷ is_token ∷ is_token ∷ []) parts ≡ true → POther (PCommand whole) ∷ rest ≡ POther (PCommand (made_halves_set parts)) ∷ drop 4 parts → IsHalvesSet text nodes at at_word at_name at_value whole
    go parts rest before h q =
        top_term (is_term ∷ is_token ∷ is_token ∷ []) parts h (λ x0 r0 e0 h0.
        top_term (is_token ∷ is_token ∷ []) r0 h0 (λ x1 r1 e1 h1.
        top_token (is_token ∷ []) r1 h1 (λ x2 r2 e2 h2.
        top_token ([]) r2 h2 (λ x3 r3 e3 h3.
        halves_set_end text nodes at at_word at_name at_value known_word known_name known_value whole parts rest x0 x1 x2 x3 r3 before (e0 ∙ ap (λ (ps : Parts). PTerm x0 ∷ ps) (e1 ∙ ap (λ (ps : Parts). PTerm x1 ∷ ps) (e2 ∙ ap (λ (ps : Parts). PToken x2 ∷ ps) e3))) q))))

at_end : (text : List ℕ) (nodes : List Node) (at : ℕ) (at_word : SeenToken) (at_on : ℕ) (at_term : ℕ) → IsTokenOf text nodes at 3 at_word → IsChild text nodes at 2 at_on → IsChild text nodes at 0 at_term
    → (whole : Command) (parts rest : Parts) (term : PlacedTerm) (passed_2 : SeenToken) (on : Atom) (word : SeenToken) (behind : Parts) → built text (take at nodes) ≡ Some parts → parts ≡ PTerm term ∷ PToken passed_2 ∷ POther (PAtom on) ∷ PToken word ∷ behind
    → POther (PCommand whole) ∷ rest ≡ POther (PCommand (made_at parts)) ∷ drop 4 parts → IsAt text nodes at at_word at_on at_term whole
at_end text nodes at at_word at_on at_term known_word known_on known_term whole parts rest term passed_2 on word behind before shape q =
    let made : whole ≡ made_at parts = cc in
    record {
      of_on = on;
      of_term = term;
      at_on = at_part text nodes at 2 at_on parts (PToken word ∷ behind) (POther (PAtom on)) known_on before (ap (λ (ps : Parts). drop 2 ps) shape);
      at_term = at_part text nodes at 0 at_term parts (PToken passed_2 ∷ POther (PAtom on) ∷ PToken word ∷ behind) (PTerm term) known_term before (ap (λ (ps : Parts). drop 0 ps) shape);
      made = made ∙ ap (λ (ps : Parts). made_at ps) shape
          ∙ ap (λ (x : SeenToken). (command.At x on term)) (sym (known_word.same parts (behind) word before (ap (λ (ps : Parts). drop 3 ps) shape)));
    }

pub at_is : (text : List ℕ) (nodes : List Node) (at : ℕ) (at_word : SeenToken) (at_on : ℕ) (at_term : ℕ) → IsMadeBy nodes at act.ACT_AT → IsTokenOf text nodes at 3 at_word → IsChild text nodes at 2 at_on → IsChild text nodes at 0 at_term
    → (whole : Command) → IsPartAt text nodes at (POther (PCommand whole)) → IsAt text nodes at at_word at_on at_term whole
at_is text nodes at at_word at_on at_term by known_word known_on known_term whole is =
    let o = opened text nodes at (Made by.raw by.from) (POther (PCommand whole)) by.node is in
    let a = accepted text act.ACT_AT o.parts (POther (PCommand whole) ∷ o.rest) (same_act text by.raw act.ACT_AT o.parts by.number ∙ o.done) in
    go o.parts o.rest o.before a.0 a.1
  where
    go : (parts rest : Parts) → built text (take at nodes) ≡ Some parts → has_tops (is_term ∷ is_token ∷ is_atom ∷ is_token ∷ []) parts ≡ true → POther (PCommand whole) ∷ rest ≡ POther (PCommand (made_at parts)) ∷ drop 4 parts → IsAt text nodes at at_word at_on at_term whole
    go parts rest before h q =
        top_term (is_token ∷ is_atom ∷ is_token ∷ []) parts h (λ x0 r0 e0 h0.
        top_token (is_atom ∷ is_token ∷ []) r0 h0 (λ x1 r1 e1 h1.
        top_atom (is_token ∷ []) r1 h1 (λ x2 r2 e2 h2.
        top_token ([]) r2 h2 (λ x3 r3 e3 h3.
        at_end text nodes at at_word at_on at_term known_word known_on known_term whole parts rest x0 x1 x2 x3 r3 before (e0 ∙ ap (λ (ps : Parts). PTerm x0 ∷ ps) (e1 ∙ ap (λ (ps : Parts). PToken x1 ∷ ps) (e2 ∙ ap (λ (ps : Parts). POther (PAtom x2) ∷ ps) e3))) q))))

at_hole_end : (text : List ℕ) (nodes : List Node) (at : ℕ) (at_word : SeenToken) (at_hole : SeenToken) (at_term : ℕ) → IsTokenOf text nodes at 3 at_word → IsTokenOf text nodes at 2 at_hole → IsChild text nodes at 0 at_term
    → (whole : Command) (parts rest : Parts) (term : PlacedTerm) (passed_2 : SeenToken) (hole : SeenToken) (word : SeenToken) (behind : Parts) → built text (take at nodes) ≡ Some parts → parts ≡ PTerm term ∷ PToken passed_2 ∷ PToken hole ∷ PToken word ∷ behind
    → POther (PCommand whole) ∷ rest ≡ POther (PCommand (made_at_hole parts)) ∷ drop 4 parts → IsAtHole text nodes at at_word at_hole at_term whole
at_hole_end text nodes at at_word at_hole at_term known_word known_hole known_term whole parts rest term passed_2 hole word behind before shape q =
    let made : whole ≡ made_at_hole parts = cc in
    record {
      of_term = term;
      at_term = at_part text nodes at 0 at_term parts (PToken passed_2 ∷ PToken hole ∷ PToken word ∷ behind) (PTerm term) known_term before (ap (λ (ps : Parts). drop 0 ps) shape);
      made = made ∙ ap (λ (ps : Parts). made_at_hole ps) shape
          ∙ ap (λ (x : SeenToken). (command.AtHole x hole term)) (sym (known_word.same parts (behind) word before (ap (λ (ps : Parts). drop 3 ps) shape)))
          ∙ ap (λ (x : SeenToken). (command.AtHole at_word x term)) (sym (known_hole.same parts (PToken word ∷ behind) hole before (ap (λ (ps : Parts). drop 2 ps) shape)));
    }

pub at_hole_is : (text : List ℕ) (nodes : List Node) (at : ℕ) (at_word : SeenToken) (at_hole : SeenToken) (at_term : ℕ) → IsMadeBy nodes at act.ACT_AT_HOLE → IsTokenOf text nodes at 3 at_word → IsTokenOf text nodes at 2 at_hole → IsChild text nodes at 0 at_term
    → (whole : Command) → IsPartAt text nodes at (POther (PCommand whole)) → IsAtHole text nodes at at_word at_hole at_term whole
at_hole_is text nodes at at_word at_hole at_term by known_word known_hole known_term whole is =
    let o = opened text nodes at (Made by.raw by.from) (POther (PCommand whole)) by.node is in
    let a = accepted text act.ACT_AT_HOLE o.parts (POther (PCommand whole) ∷ o.rest) (same_act text by.raw act.ACT_AT_HOLE o.parts by.number ∙ o.done) in
    go o.parts o.rest o.before a.0 a.1
  where
    go : (parts rest : Parts) → built text (take at nodes) ≡ Some parts → has_tops (is_term ∷ is_token ∷ is_token ∷ is_token ∷ []) parts ≡ true → POther (PCommand whole) ∷ rest ≡ POther (PCommand (made_at_hole parts)) ∷ drop 4 parts → IsAtHole text nodes at at_word at_hole at_term whole
    go parts rest before h q =
        top_term (is_token ∷ is_token ∷ is_token ∷ []) parts h (λ x0 r0 e0 h0.
        top_token (is_token ∷ is_token ∷ []) r0 h0 (λ x1 r1 e1 h1.
        top_token (is_token ∷ []) r1 h1 (λ x2 r2 e2 h2.
        top_token ([]) r2 h2 (λ x3 r3 e3 h3.
        at_hole_end text nodes at at_word at_hole at_term known_word known_hole known_term whole parts rest x0 x1 x2 x3 r3 before (e0 ∙ ap (λ (ps : Parts). PTerm x0 ∷ ps) (e1 ∙ ap (λ (ps : Parts). PToken x1 ∷ ps) (e2 ∙ ap (λ (ps : Parts). PToken x2 ∷ ps) e3))) q))))

map_end : (text : List ℕ) (nodes : List Node) (at : ℕ) (at_word : SeenToken) (at_old : ℕ) (at_new : ℕ) (at_name : SeenToken) (at_block : ℕ) → IsTokenOf text nodes at 6 at_word → IsChild text nodes at 5 at_old → IsChild text nodes at 3 at_new → IsTokenOf text nodes at 1 at_name → IsChild text nodes at 0 at_block
    → (whole : Command) (parts rest : Parts) (block : Block) (name : SeenToken) (passed_4 : SeenToken) (new : List Atom) (passed_2 : SeenToken) (old : List Atom) (word : SeenToken) (behind : Parts) → built text (take at nodes) ≡ Some parts → parts ≡ POther (PBlock block) ∷ PToken name ∷ PToken passed_4 ∷ POther (PAtoms new) ∷ PToken passed_2 ∷ POther (PAtoms old) ∷ PToken word ∷ behind
    → POther (PCommand whole) ∷ rest ≡ POther (PCommand (made_map parts)) ∷ drop 7 parts → IsMap text nodes at at_word at_old at_new at_name at_block whole
map_end text nodes at at_word at_old at_new at_name at_block known_word known_old known_new known_name known_block whole parts rest block name passed_4 new passed_2 old word behind before shape q =
    let made : whole ≡ made_map parts = cc in
    record {
      of_old = old;
      of_new = new;
      of_block = block;
      at_old = at_part text nodes at 5 at_old parts (PToken word ∷ behind) (POther (PAtoms old)) known_old before (ap (λ (ps : Parts). drop 5 ps) shape);
      at_new = at_part text nodes at 3 at_new parts (PToken passed_2 ∷ POther (PAtoms old) ∷ PToken word ∷ behind) (POther (PAtoms new)) known_new before (ap (λ (ps : Parts). drop 3 ps) shape);
      at_block = at_part text nodes at 0 at_block parts (PToken name ∷ PToken passed_4 ∷ POther (PAtoms new) ∷ PToken passed_2 ∷ POther (PAtoms old) ∷ PToken word ∷ behind) (POther (PBlock block)) known_block before (ap (λ (ps : Parts). drop 0 ps) shape);
      made = made ∙ ap (λ (ps : Parts). made_map ps) shape
          ∙ ap (λ (x : SeenToken). (command.Map x old new name block)) (sym (known_word.same parts (behind) word before (ap (λ (ps : Parts). drop 6 ps) shape)))
          ∙ ap (λ (x : SeenToken). (command.Map at_word old new x block)) (sym (known_name.same parts (PToken passed_4 ∷ POther (PAtoms new) ∷ PToken passed_2 ∷ POther (PAtoms old) ∷ PToken word ∷ behind) name before (ap (λ (ps : Parts). drop 1 ps) shape)));
    }

pub map_is : (text : List ℕ) (nodes : List Node) (at : ℕ) (at_word : SeenToken) (at_old : ℕ) (at_new : ℕ) (at_name : SeenToken) (at_block : ℕ) → IsMadeBy nodes at act.ACT_MAP → IsTokenOf text nodes at 6 at_word → IsChild text nodes at 5 at_old → IsChild text nodes at 3 at_new → IsTokenOf text nodes at 1 at_name → IsChild text nodes at 0 at_block
    → (whole : Command) → IsPartAt text nodes at (POther (PCommand whole)) → IsMap text nodes at at_word at_old at_new at_name at_block whole
map_is text nodes at at_word at_old at_new at_name at_block by known_word known_old known_new known_name known_block whole is =
    let o = opened text nodes at (Made by.raw by.from) (POther (PCommand whole)) by.node is in
    let a = accepted text act.ACT_MAP o.parts (POther (PCommand whole) ∷ o.rest) (same_act text by.raw act.ACT_MAP o.parts by.number ∙ o.done) in
    go o.parts o.rest o.before a.0 a.1
  where
    go : (parts rest : Parts) → built text (take at nodes) ≡ Some parts → has_tops (is_block ∷ is_token ∷ is_token ∷ is_atoms ∷ is_token ∷ is_atoms ∷ is_token ∷ []) parts ≡ true → POther (PCommand whole) ∷ rest ≡ POther (PCommand (made_map parts)) ∷ drop 7 parts → IsMap text nodes at at_word at_old at_new at_name at_block whole
    go parts rest before h q =
        top_block (is_token ∷ is_token ∷ is_atoms ∷ is_token ∷ is_atoms ∷ is_token ∷ []) parts h (λ x0 r0 e0 h0.
        top_token (is_token ∷ is_atoms ∷ is_token ∷ is_atoms ∷ is_token ∷ []) r0 h0 (λ x1 r1 e1 h1.
        top_token (is_atoms ∷ is_token ∷ is_atoms ∷ is_token ∷ []) r1 h1 (λ x2 r2 e2 h2.
        top_atoms (is_token ∷ is_atoms ∷ is_token ∷ []) r2 h2 (λ x3 r3 e3 h3.
        top_token (is_atoms ∷ is_token ∷ []) r3 h3 (λ x4 r4 e4 h4.
        top_atoms (is_token ∷ []) r4 h4 (λ x5 r5 e5 h5.
        top_token ([]) r5 h5 (λ x6 r6 e6 h6.
        map_end text nodes at at_word at_old at_new at_name at_block known_word known_old known_new known_name known_block whole parts rest x0 x1 x2 x3 x4 x5 x6 r6 before (e0 ∙ ap (λ (ps : Parts). POther (PBlock x0) ∷ ps) (e1 ∙ ap (λ (ps : Parts). PToken x1 ∷ ps) (e2 ∙ ap (λ (ps : Parts). PToken x2 ∷ ps) (e3 ∙ ap (λ (ps : Parts). POther (PAtoms x3) ∷ ps) (e4 ∙ ap (λ (ps : Parts). PToken x4 ∷ ps) (e5 ∙ ap (λ (ps : Parts). POther (PAtoms x5) ∷ ps) e6)))))) q)))))))

alone_end : (text : List ℕ) (nodes : List Node) (at : ℕ) (at_word : SeenToken) → IsTokenOf text nodes at 0 at_word
    → (whole : Command) (parts rest : Parts) (word : SeenToken) (behind : Parts) → built text (take at nodes) ≡ Some parts → parts ≡ PToken word ∷ behind
    → POther (PCommand whole) ∷ rest ≡ POther (PCommand (made_alone parts)) ∷ drop 1 parts → whole ≡ (command.Alone at_word)
alone_end text nodes at at_word known_word whole parts rest word behind before shape q =
    let made : whole ≡ made_alone parts = cc in
    made ∙ ap (λ (ps : Parts). made_alone ps) shape
    ∙ ap (λ (x : SeenToken). (command.Alone x)) (sym (known_word.same parts (behind) word before (ap (λ (ps : Parts). drop 0 ps) shape)))

pub alone_is : (text : List ℕ) (nodes : List Node) (at : ℕ) (at_word : SeenToken) → IsMadeBy nodes at act.ACT_ALONE → IsTokenOf text nodes at 0 at_word
    → (whole : Command) → IsPartAt text nodes at (POther (PCommand whole)) → whole ≡ (command.Alone at_word)
alone_is text nodes at at_word by known_word whole is =
    let o = opened text nodes at (Made by.raw by.from) (POther (PCommand whole)) by.node is in
    let a = accepted text act.ACT_ALONE o.parts (POther (PCommand whole) ∷ o.rest) (same_act text by.raw act.ACT_ALONE o.parts by.number ∙ o.done) in
    go o.parts o.rest o.before a.0 a.1
  where
    go : (parts rest : Parts) → built text (take at nodes) ≡ Some parts → has_tops (is_token ∷ []) parts ≡ true → POther (PCommand whole) ∷ rest ≡ POther (PCommand (made_alone parts)) ∷ drop 1 parts → whole ≡ (command.Alone at_word)
    go parts rest before h q =
        top_token ([]) parts h (λ x0 r0 e0 h0.
        alone_end text nodes at at_word known_word whole parts rest x0 r0 before e0 q)

sim_end : (text : List ℕ) (nodes : List Node) (at : ℕ) (at_word : SeenToken) (at_call : ℕ) (at_choices : ℕ) → IsTokenOf text nodes at 2 at_word → IsChild text nodes at 1 at_call → IsChild text nodes at 0 at_choices
    → (whole : Command) (parts rest : Parts) (choices : List PlacedTerm) (call : PlacedTerm) (word : SeenToken) (behind : Parts) → built text (take at nodes) ≡ Some parts → parts ≡ POther (PTerms choices) ∷ PTerm call ∷ PToken word ∷ behind
    → POther (PCommand whole) ∷ rest ≡ POther (PCommand (made_sim parts)) ∷ drop 3 parts → IsSim text nodes at at_word at_call at_choices whole
sim_end text nodes at at_word at_call at_choices known_word known_call known_choices whole parts rest choices call word behind before shape q =
    let made : whole ≡ made_sim parts = cc in
    record {
      of_call = call;
      of_choices = choices;
      at_call = at_part text nodes at 1 at_call parts (PToken word ∷ behind) (PTerm call) known_call before (ap (λ (ps : Parts). drop 1 ps) shape);
      at_choices = at_part text nodes at 0 at_choices parts (PTerm call ∷ PToken word ∷ behind) (POther (PTerms choices)) known_choices before (ap (λ (ps : Parts). drop 0 ps) shape);
      made = made ∙ ap (λ (ps : Parts). made_sim ps) shape
          ∙ ap (λ (x : SeenToken). (command.Sim x call choices)) (sym (known_word.same parts (behind) word before (ap (λ (ps : Parts). drop 2 ps) shape)));
    }

pub sim_is : (text : List ℕ) (nodes : List Node) (at : ℕ) (at_word : SeenToken) (at_call : ℕ) (at_choices : ℕ) → IsMadeBy nodes at act.ACT_SIM → IsTokenOf text nodes at 2 at_word → IsChild text nodes at 1 at_call → IsChild text nodes at 0 at_choices
    → (whole : Command) → IsPartAt text nodes at (POther (PCommand whole)) → IsSim text nodes at at_word at_call at_choices whole
sim_is text nodes at at_word at_call at_choices by known_word known_call known_choices whole is =
    let o = opened text nodes at (Made by.raw by.from) (POther (PCommand whole)) by.node is in
    let a = accepted text act.ACT_SIM o.parts (POther (PCommand whole) ∷ o.rest) (same_act text by.raw act.ACT_SIM o.parts by.number ∙ o.done) in
    go o.parts o.rest o.before a.0 a.1
  where
    go : (parts rest : Parts) → built text (take at nodes) ≡ Some parts → has_tops (is_terms ∷ is_term ∷ is_token ∷ []) parts ≡ true → POther (PCommand whole) ∷ rest ≡ POther (PCommand (made_sim parts)) ∷ drop 3 parts → IsSim text nodes at at_word at_call at_choices whole
    go parts rest before h q =
        top_terms (is_term ∷ is_token ∷ []) parts h (λ x0 r0 e0 h0.
        top_term (is_token ∷ []) r0 h0 (λ x1 r1 e1 h1.
        top_token ([]) r1 h1 (λ x2 r2 e2 h2.
        sim_end text nodes at at_word at_call at_choices known_word known_call known_choices whole parts rest x0 x1 x2 r2 before (e0 ∙ ap (λ (ps : Parts). POther (PTerms x0) ∷ ps) (e1 ∙ ap (λ (ps : Parts). PTerm x1 ∷ ps) e2)) q)))

on_block_end : (text : List ℕ) (nodes : List Node) (at : ℕ) (at_word : SeenToken) (at_block : ℕ) → IsTokenOf text nodes at 1 at_word → IsChild text nodes at 0 at_block
    → (whole : Command) (parts rest : Parts) (block : Block) (word : SeenToken) (behind : Parts) → built text (take at nodes) ≡ Some parts → parts ≡ POther (PBlock block) ∷ PToken word ∷ behind
    → POther (PCommand whole) ∷ rest ≡ POther (PCommand (made_on_block parts)) ∷ drop 2 parts → IsOnBlock text nodes at at_word at_block whole
on_block_end text nodes at at_word at_block known_word known_block whole parts rest block word behind before shape q =
    let made : whole ≡ made_on_block parts = cc in
    record {
      of_block = block;
      at_block = at_part text nodes at 0 at_block parts (PToken word ∷ behind) (POther (PBlock block)) known_block before (ap (λ (ps : Parts). drop 0 ps) shape);
      made = made ∙ ap (λ (ps : Parts). made_on_block ps) shape
          ∙ ap (λ (x : SeenToken). (command.OnBlock x block)) (sym (known_word.same parts (behind) word before (ap (λ (ps : Parts). drop 1 ps) shape)));
    }

pub on_block_is : (text : List ℕ) (nodes : List Node) (at : ℕ) (at_word : SeenToken) (at_block : ℕ) → IsMadeBy nodes at act.ACT_ON_BLOCK → IsTokenOf text nodes at 1 at_word → IsChild text nodes at 0 at_block
    → (whole : Command) → IsPartAt text nodes at (POther (PCommand whole)) → IsOnBlock text nodes at at_word at_block whole
on_block_is text nodes at at_word at_block by known_word known_block whole is =
    let o = opened text nodes at (Made by.raw by.from) (POther (PCommand whole)) by.node is in
    let a = accepted text act.ACT_ON_BLOCK o.parts (POther (PCommand whole) ∷ o.rest) (same_act text by.raw act.ACT_ON_BLOCK o.parts by.number ∙ o.done) in
    go o.parts o.rest o.before a.0 a.1
  where
    go : (parts rest : Parts) → built text (take at nodes) ≡ Some parts → has_tops (is_block ∷ is_token ∷ []) parts ≡ true → POther (PCommand whole) ∷ rest ≡ POther (PCommand (made_on_block parts)) ∷ drop 2 parts → IsOnBlock text nodes at at_word at_block whole
    go parts rest before h q =
        top_block (is_token ∷ []) parts h (λ x0 r0 e0 h0.
        top_token ([]) r0 h0 (λ x1 r1 e1 h1.
        on_block_end text nodes at at_word at_block known_word known_block whole parts rest x0 x1 r1 before (e0 ∙ ap (λ (ps : Parts). POther (PBlock x0) ∷ ps) e1) q))

boot_end : (text : List ℕ) (nodes : List Node) (at : ℕ) (at_word : SeenToken) (at_choices : ℕ) → IsTokenOf text nodes at 1 at_word → IsChild text nodes at 0 at_choices
    → (whole : Command) (parts rest : Parts) (choices : List PlacedTerm) (word : SeenToken) (behind : Parts) → built text (take at nodes) ≡ Some parts → parts ≡ POther (PTerms choices) ∷ PToken word ∷ behind
    → POther (PCommand whole) ∷ rest ≡ POther (PCommand (made_boot parts)) ∷ drop 2 parts → IsBoot text nodes at at_word at_choices whole
boot_end text nodes at at_word at_choices known_word known_choices whole parts rest choices word behind before shape q =
    let made : whole ≡ made_boot parts = cc in
    record {
      of_choices = choices;
      at_choices = at_part text nodes at 0 at_choices parts (PToken word ∷ behind) (POther (PTerms choices)) known_choices before (ap (λ (ps : Parts). drop 0 ps) shape);
      made = made ∙ ap (λ (ps : Parts). made_boot ps) shape
          ∙ ap (λ (x : SeenToken). (command.Boot x choices)) (sym (known_word.same parts (behind) word before (ap (λ (ps : Parts). drop 1 ps) shape)));
    }

pub boot_is : (text : List ℕ) (nodes : List Node) (at : ℕ) (at_word : SeenToken) (at_choices : ℕ) → IsMadeBy nodes at act.ACT_BOOT → IsTokenOf text nodes at 1 at_word → IsChild text nodes at 0 at_choices
    → (whole : Command) → IsPartAt text nodes at (POther (PCommand whole)) → IsBoot text nodes at at_word at_choices whole
boot_is text nodes at at_word at_choices by known_word known_choices whole is =
    let o = opened text nodes at (Made by.raw by.from) (POther (PCommand whole)) by.node is in
    let a = accepted text act.ACT_BOOT o.parts (POther (PCommand whole) ∷ o.rest) (same_act text by.raw act.ACT_BOOT o.parts by.number ∙ o.done) in
    go o.parts o.rest o.before a.0 a.1
  where
    go : (parts rest : Parts) → built text (take at nodes) ≡ Some parts → has_tops (is_terms ∷ is_token ∷ []) parts ≡ true → POther (PCommand whole) ∷ rest ≡ POther (PCommand (made_boot parts)) ∷ drop 2 parts → IsBoot text nodes at at_word at_choices whole
    go parts rest before h q =
        top_terms (is_token ∷ []) parts h (λ x0 r0 e0 h0.
        top_token ([]) r0 h0 (λ x1 r1 e1 h1.
        boot_end text nodes at at_word at_choices known_word known_choices whole parts rest x0 x1 r1 before (e0 ∙ ap (λ (ps : Parts). POther (PTerms x0) ∷ ps) e1) q))

guard_end : (text : List ℕ) (nodes : List Node) (at : ℕ) (at_word : SeenToken) (at_mutex : ℕ) (at_inst : ℕ) → IsTokenOf text nodes at 2 at_word → IsChild text nodes at 1 at_mutex → IsChild text nodes at 0 at_inst
    → (whole : Command) (parts rest : Parts) (inst : Inst) (mutex : PlacedTerm) (word : SeenToken) (behind : Parts) → built text (take at nodes) ≡ Some parts → parts ≡ POther (PInst inst) ∷ PTerm mutex ∷ PToken word ∷ behind
    → POther (PCommand whole) ∷ rest ≡ POther (PCommand (made_guard parts)) ∷ drop 3 parts → IsGuard text nodes at at_word at_mutex at_inst whole
guard_end text nodes at at_word at_mutex at_inst known_word known_mutex known_inst whole parts rest inst mutex word behind before shape q =
    let made : whole ≡ made_guard parts = cc in
    record {
      of_mutex = mutex;
      of_inst = inst;
      at_mutex = at_part text nodes at 1 at_mutex parts (PToken word ∷ behind) (PTerm mutex) known_mutex before (ap (λ (ps : Parts). drop 1 ps) shape);
      at_inst = at_part text nodes at 0 at_inst parts (PTerm mutex ∷ PToken word ∷ behind) (POther (PInst inst)) known_inst before (ap (λ (ps : Parts). drop 0 ps) shape);
      made = made ∙ ap (λ (ps : Parts). made_guard ps) shape
          ∙ ap (λ (x : SeenToken). (command.Guard x mutex inst)) (sym (known_word.same parts (behind) word before (ap (λ (ps : Parts). drop 2 ps) shape)));
    }

pub guard_is : (text : List ℕ) (nodes : List Node) (at : ℕ) (at_word : SeenToken) (at_mutex : ℕ) (at_inst : ℕ) → IsMadeBy nodes at act.ACT_GUARD → IsTokenOf text nodes at 2 at_word → IsChild text nodes at 1 at_mutex → IsChild text nodes at 0 at_inst
    → (whole : Command) → IsPartAt text nodes at (POther (PCommand whole)) → IsGuard text nodes at at_word at_mutex at_inst whole
guard_is text nodes at at_word at_mutex at_inst by known_word known_mutex known_inst whole is =
    let o = opened text nodes at (Made by.raw by.from) (POther (PCommand whole)) by.node is in
    let a = accepted text act.ACT_GUARD o.parts (POther (PCommand whole) ∷ o.rest) (same_act text by.raw act.ACT_GUARD o.parts by.number ∙ o.done) in
    go o.parts o.rest o.before a.0 a.1
  where
    go : (parts rest : Parts) → built text (take at nodes) ≡ Some parts → has_tops (is_inst ∷ is_term ∷ is_token ∷ []) parts ≡ true → POther (PCommand whole) ∷ rest ≡ POther (PCommand (made_guard parts)) ∷ drop 3 parts → IsGuard text nodes at at_word at_mutex at_inst whole
    go parts rest before h q =
        top_inst (is_term ∷ is_token ∷ []) parts h (λ x0 r0 e0 h0.
        top_term (is_token ∷ []) r0 h0 (λ x1 r1 e1 h1.
        top_token ([]) r1 h1 (λ x2 r2 e2 h2.
        guard_end text nodes at at_word at_mutex at_inst known_word known_mutex known_inst whole parts rest x0 x1 x2 r2 before (e0 ∙ ap (λ (ps : Parts). POther (PInst x0) ∷ ps) (e1 ∙ ap (λ (ps : Parts). PTerm x1 ∷ ps) e2)) q)))

set_book_end : (text : List ℕ) (nodes : List Node) (at : ℕ) (at_word : SeenToken) (at_name : SeenToken) (at_place : ℕ) (at_value : ℕ) → IsTokenOf text nodes at 4 at_word → IsTokenOf text nodes at 3 at_name → IsChild text nodes at 2 at_place → IsChild text nodes at 0 at_value
    → (whole : Command) (parts rest : Parts) (value : PlacedTerm) (passed_3 : SeenToken) (place : PlacedTerm) (name : SeenToken) (word : SeenToken) (behind : Parts) → built text (take at nodes) ≡ Some parts → parts ≡ PTerm value ∷ PToken passed_3 ∷ PTerm place ∷ PToken name ∷ PToken word ∷ behind
    → POther (PCommand whole) ∷ rest ≡ POther (PCommand (made_set_book parts)) ∷ drop 5 parts → IsSetBook text nodes at at_word at_name at_place at_value whole
set_book_end text nodes at at_word at_name at_place at_value known_word known_name known_place known_value whole parts rest value passed_3 place name word behind before shape q =
    let made : whole ≡ made_set_book parts = cc in
    record {
      of_place = place;
      of_value = value;
      at_place = at_part text nodes at 2 at_place parts (PToken name ∷ PToken word ∷ behind) (PTerm place) known_place before (ap (λ (ps : Parts). drop 2 ps) shape);
      at_value = at_part text nodes at 0 at_value parts (PToken passed_3 ∷ PTerm place ∷ PToken name ∷ PToken word ∷ behind) (PTerm value) known_value before (ap (λ (ps : Parts). drop 0 ps) shape);
      made = made ∙ ap (λ (ps : Parts). made_set_book ps) shape
          ∙ ap (λ (x : SeenToken). (command.SetBook x name place value)) (sym (known_word.same parts (behind) word before (ap (λ (ps : Parts). drop 4 ps) shape)))
          ∙ ap (λ (x : SeenToken). (command.SetBook at_word x place value)) (sym (known_name.same parts (PToken word ∷ behind) name before (ap (λ (ps : Parts). drop 3 ps) shape)));
    }

pub set_book_is : (text : List ℕ) (nodes : List Node) (at : ℕ) (at_word : SeenToken) (at_name : SeenToken) (at_place : ℕ) (at_value : ℕ) → IsMadeBy nodes at act.ACT_SET_BOOK → IsTokenOf text nodes at 4 at_word → IsTokenOf text nodes at 3 at_name → IsChild text nodes at 2 at_place → IsChild text nodes at 0 at_value
    → (whole : Command) → IsPartAt text nodes at (POther (PCommand whole)) → IsSetBook text nodes at at_word at_name at_place at_value whole
set_book_is text nodes at at_word at_name at_place at_value by known_word known_name known_place known_value whole is =
    let o = opened text nodes at (Made by.raw by.from) (POther (PCommand whole)) by.node is in
    let a = accepted text act.ACT_SET_BOOK o.parts (POther (PCommand whole) ∷ o.rest) (same_act text by.raw act.ACT_SET_BOOK o.parts by.number ∙ o.done) in
    go o.parts o.rest o.before a.0 a.1
  where
    go : (parts rest : Parts) → built text (take at nodes) ≡ Some parts → has_tops (is_term ∷ is_token ∷ is_term ∷ is_token ∷ is_token ∷ []) parts ≡ true → POther (PCommand whole) ∷ rest ≡ POther (PCommand (made_set_book parts)) ∷ drop 5 parts → IsSetBook text nodes at at_word at_name at_place at_value whole
    go parts rest before h q =
        top_term (is_token ∷ is_term ∷ is_token ∷ is_token ∷ []) parts h (λ x0 r0 e0 h0.
        top_token (is_term ∷ is_token ∷ is_token ∷ []) r0 h0 (λ x1 r1 e1 h1.
        top_term (is_token ∷ is_token ∷ []) r1 h1 (λ x2 r2 e2 h2.
        top_token (is_token ∷ []) r2 h2 (λ x3 r3 e3 h3.
        top_token ([]) r3 h3 (λ x4 r4 e4 h4.
        set_book_end text nodes at at_word at_name at_place at_value known_word known_name known_place known_value whole parts rest x0 x1 x2 x3 x4 r4 before (e0 ∙ ap (λ (ps : Parts). PTerm x0 ∷ ps) (e1 ∙ ap (λ (ps : Parts). PToken x1 ∷ ps) (e2 ∙ ap (λ (ps : Parts). PTerm x2 ∷ ps) (e3 ∙ ap (λ (ps : Parts). PToken x3 ∷ ps) e4)))) q)))))

forget_end : (text : List ℕ) (nodes : List Node) (at : ℕ) (at_word : SeenToken) (at_disk : ℕ) (at_place : ℕ) (at_value : ℕ) → IsTokenOf text nodes at 4 at_word → IsChild text nodes at 3 at_disk → IsChild text nodes at 2 at_place → IsChild text nodes at 0 at_value
    → (whole : Command) (parts rest : Parts) (value : PlacedTerm) (passed_3 : SeenToken) (place : PlacedTerm) (disk : PlacedTerm) (word : SeenToken) (behind : Parts) → built text (take at nodes) ≡ Some parts → parts ≡ PTerm value ∷ PToken passed_3 ∷ PTerm place ∷ PTerm disk ∷ PToken word ∷ behind
    → POther (PCommand whole) ∷ rest ≡ POther (PCommand (made_forget parts)) ∷ drop 5 parts → IsForget text nodes at at_word at_disk at_place at_value whole
forget_end text nodes at at_word at_disk at_place at_value known_word known_disk known_place known_value whole parts rest value passed_3 place disk word behind before shape q =
    let made : whole ≡ made_forget parts = cc in
    record {
      of_disk = disk;
      of_place = place;
      of_value = value;
      at_disk = at_part text nodes at 3 at_disk parts (PToken word ∷ behind) (PTerm disk) known_disk before (ap (λ (ps : Parts). drop 3 ps) shape);
      at_place = at_part text nodes at 2 at_place parts (PTerm disk ∷ PToken word ∷ behind) (PTerm place) known_place before (ap (λ (ps : Parts). drop 2 ps) shape);
      at_value = at_part text nodes at 0 at_value parts (PToken passed_3 ∷ PTerm place ∷ PTerm disk ∷ PToken word ∷ behind) (PTerm value) known_value before (ap (λ (ps : Parts). drop 0 ps) shape);
      made = made ∙ ap (λ (ps : Parts). made_forget ps) shape
          ∙ ap (λ (x : SeenToken). (command.Forget x disk place value)) (sym (known_word.same parts (behind) word before (ap (λ (ps : Parts). drop 4 ps) shape)));
    }

pub forget_is : (text : List ℕ) (nodes : List Node) (at : ℕ) (at_word : SeenToken) (at_disk : ℕ) (at_place : ℕ) (at_value : ℕ) → IsMadeBy nodes at act.ACT_FORGET → IsTokenOf text nodes at 4 at_word → IsChild text nodes at 3 at_disk → IsChild text nodes at 2 at_place → IsChild text nodes at 0 at_value
    → (whole : Command) → IsPartAt text nodes at (POther (PCommand whole)) → IsForget text nodes at at_word at_disk at_place at_value whole
forget_is text nodes at at_word at_disk at_place at_value by known_word known_disk known_place known_value whole is =
    let o = opened text nodes at (Made by.raw by.from) (POther (PCommand whole)) by.node is in
    let a = accepted text act.ACT_FORGET o.parts (POther (PCommand whole) ∷ o.rest) (same_act text by.raw act.ACT_FORGET o.parts by.number ∙ o.done) in
    go o.parts o.rest o.before a.0 a.1
  where
    go : (parts rest : Parts) → built text (take at nodes) ≡ Some parts → has_tops (is_term ∷ is_token ∷ is_term ∷ is_term ∷ is_token ∷ []) parts ≡ true → POther (PCommand whole) ∷ rest ≡ POther (PCommand (made_forget parts)) ∷ drop 5 parts → IsForget text nodes at at_word at_disk at_place at_value whole
    go parts rest before h q =
        top_term (is_token ∷ is_term ∷ is_term ∷ is_token ∷ []) parts h (λ x0 r0 e0 h0.
        top_token (is_term ∷ is_term ∷ is_token ∷ []) r0 h0 (λ x1 r1 e1 h1.
        top_term (is_term ∷ is_token ∷ []) r1 h1 (λ x2 r2 e2 h2.
        top_term (is_token ∷ []) r2 h2 (λ x3 r3 e3 h3.
        top_token ([]) r3 h3 (λ x4 r4 e4 h4.
        forget_end text nodes at at_word at_disk at_place at_value known_word known_disk known_place known_value whole parts rest x0 x1 x2 x3 x4 r4 before (e0 ∙ ap (λ (ps : Parts). PTerm x0 ∷ ps) (e1 ∙ ap (λ (ps : Parts). PToken x1 ∷ ps) (e2 ∙ ap (λ (ps : Parts). PTerm x2 ∷ ps) (e3 ∙ ap (λ (ps : Parts). PTerm x3 ∷ ps) e4)))) q)))))

step_end : (text : List ℕ) (nodes : List Node) (at : ℕ) (at_word : SeenToken) (at_given : ℕ) (at_names : ℕ) (at_during : ℕ) (at_blocks : ℕ) → IsTokenOf text nodes at 4 at_word → IsChild text nodes at 3 at_given → IsChild text nodes at 2 at_names → IsChild text nodes at 1 at_during → IsChild text nodes at 0 at_blocks
    → (whole : Command) (parts rest : Parts) (blocks : List Block) (during : Option Block) (names : List SeenToken) (given : List PlacedTerm) (word : SeenToken) (behind : Parts) → built text (take at nodes) ≡ Some parts → parts ≡ POther (PBlocks blocks) ∷ POther (PMaybeBlock during) ∷ POther (PNames names) ∷ POther (PTerms given) ∷ PToken word ∷ behind
    → POther (PCommand whole) ∷ rest ≡ POther (PCommand (made_step parts)) ∷ drop 5 parts → IsStep text nodes at at_word at_given at_names at_during at_blocks whole
step_end text nodes at at_word at_given at_names at_during at_blocks known_word known_given known_names known_during known_blocks whole parts rest blocks during names given word behind before shape q =
    let made : whole ≡ made_step parts = cc in
    record {
      of_given = given;
      of_names = names;
      of_during = during;
      of_blocks = blocks;
      at_given = at_part text nodes at 3 at_given parts (PToken word ∷ behind) (POther (PTerms given)) known_given before (ap (λ (ps : Parts). drop 3 ps) shape);
      at_names = at_part text nodes at 2 at_names parts (POther (PTerms given) ∷ PToken word ∷ behind) (POther (PNames names)) known_names before (ap (λ (ps : Parts). drop 2 ps) shape);
      at_during = at_part text nodes at 1 at_during parts (POther (PNames names) ∷ POther (PTerms given) ∷ PToken word ∷ behind) (POther (PMaybeBlock during)) known_during before (ap (λ (ps : Parts). drop 1 ps) shape);
      at_blocks = at_part text nodes at 0 at_blocks parts (POther (PMaybeBlock during) ∷ POther (PNames names) ∷ POther (PTerms given) ∷ PToken word ∷ behind) (POther (PBlocks blocks)) known_blocks before (ap (λ (ps : Parts). drop 0 ps) shape);
      made = made ∙ ap (λ (ps : Parts). made_step ps) shape
          ∙ ap (λ (x : SeenToken). (command.Step x given names during blocks)) (sym (known_word.same parts (behind) word before (ap (λ (ps : Parts). drop 4 ps) shape)));
    }

pub step_is : (text : List ℕ) (nodes : List Node) (at : ℕ) (at_word : SeenToken) (at_given : ℕ) (at_names : ℕ) (at_during : ℕ) (at_blocks : ℕ) → IsMadeBy nodes at act.ACT_STEP → IsTokenOf text nodes at 4 at_word → IsChild text nodes at 3 at_given → IsChild text nodes at 2 at_names → IsChild text nodes at 1 at_during → IsChild text nodes at 0 at_blocks
    → (whole : Command) → IsPartAt text nodes at (POther (PCommand whole)) → IsStep text nodes at at_word at_given at_names at_during at_blocks whole
step_is text nodes at at_word at_given at_names at_during at_blocks by known_word known_given known_names known_during known_blocks whole is =
    let o = opened text nodes at (Made by.raw by.from) (POther (PCommand whole)) by.node is in
    let a = accepted text act.ACT_STEP o.parts (POther (PCommand whole) ∷ o.rest) (same_act text by.raw act.ACT_STEP o.parts by.number ∙ o.done) in
    go o.parts o.rest o.before a.0 a.1
  where
    go : (parts rest : Parts) → built text (take at nodes) ≡ Some parts → has_tops (is_blocks ∷ is_maybe_block ∷ is_names ∷ is_terms ∷ is_token ∷ []) parts ≡ true → POther (PCommand whole) ∷ rest ≡ POther (PCommand (made_step parts)) ∷ drop 5 parts → IsStep text nodes at at_word at_given at_names at_during at_blocks whole
    go parts rest before h q =
        top_blocks (is_maybe_block ∷ is_names ∷ is_terms ∷ is_token ∷ []) parts h (λ x0 r0 e0 h0.
        top_maybe_block (is_names ∷ is_terms ∷ is_token ∷ []) r0 h0 (λ x1 r1 e1 h1.
        top_names (is_terms ∷ is_token ∷ []) r1 h1 (λ x2 r2 e2 h2.
        top_terms (is_token ∷ []) r2 h2 (λ x3 r3 e3 h3.
        top_token ([]) r3 h3 (λ x4 r4 e4 h4.
        step_end text nodes at at_word at_given at_names at_during at_blocks known_word known_given known_names known_during known_blocks whole parts rest x0 x1 x2 x3 x4 r4 before (e0 ∙ ap (λ (ps : Parts). POther (PBlocks x0) ∷ ps) (e1 ∙ ap (λ (ps : Parts). POther (PMaybeBlock x1) ∷ ps) (e2 ∙ ap (λ (ps : Parts). POther (PNames x2) ∷ ps) (e3 ∙ ap (λ (ps : Parts). POther (PTerms x3) ∷ ps) e4)))) q)))))

to_end : (text : List ℕ) (nodes : List Node) (at : ℕ) (at_word : SeenToken) (at_cut : SeenToken) (at_terms : ℕ) → IsTokenOf text nodes at 2 at_word → IsTokenOf text nodes at 1 at_cut → IsChild text nodes at 0 at_terms
    → (whole : Command) (parts rest : Parts) (terms : List PlacedTerm) (cut : SeenToken) (word : SeenToken) (behind : Parts) → built text (take at nodes) ≡ Some parts → parts ≡ POther (PTerms terms) ∷ PToken cut ∷ PToken word ∷ behind
    → POther (PCommand whole) ∷ rest ≡ POther (PCommand (made_to parts)) ∷ drop 3 parts → IsTo text nodes at at_word at_cut at_terms whole
to_end text nodes at at_word at_cut at_terms known_word known_cut known_terms whole parts rest terms cut word behind before shape q =
    let made : whole ≡ made_to parts = cc in
    record {
      of_terms = terms;
      at_terms = at_part text nodes at 0 at_terms parts (PToken cut ∷ PToken word ∷ behind) (POther (PTerms terms)) known_terms before (ap (λ (ps : Parts). drop 0 ps) shape);
      made = made ∙ ap (λ (ps : Parts). made_to ps) shape
          ∙ ap (λ (x : SeenToken). (command.To x cut terms)) (sym (known_word.same parts (behind) word before (ap (λ (ps : Parts). drop 2 ps) shape)))
          ∙ ap (λ (x : SeenToken). (command.To at_word x terms)) (sym (known_cut.same parts (PToken word ∷ behind) cut before (ap (λ (ps : Parts). drop 1 ps) shape)));
    }

pub to_is : (text : List ℕ) (nodes : List Node) (at : ℕ) (at_word : SeenToken) (at_cut : SeenToken) (at_terms : ℕ) → IsMadeBy nodes at act.ACT_TO → IsTokenOf text nodes at 2 at_word → IsTokenOf text nodes at 1 at_cut → IsChild text nodes at 0 at_terms
    → (whole : Command) → IsPartAt text nodes at (POther (PCommand whole)) → IsTo text nodes at at_word at_cut at_terms whole
to_is text nodes at at_word at_cut at_terms by known_word known_cut known_terms whole is =
    let o = opened text nodes at (Made by.raw by.from) (POther (PCommand whole)) by.node is in
    let a = accepted text act.ACT_TO o.parts (POther (PCommand whole) ∷ o.rest) (same_act text by.raw act.ACT_TO o.parts by.number ∙ o.done) in
    go o.parts o.rest o.before a.0 a.1
  where
    go : (parts rest : Parts) → built text (take at nodes) ≡ Some parts → has_tops (is_terms ∷ is_token ∷ is_token ∷ []) parts ≡ true → POther (PCommand whole) ∷ rest ≡ POther (PCommand (made_to parts)) ∷ drop 3 parts → IsTo text nodes at at_word at_cut at_terms whole
    go parts rest before h q =
        top_terms (is_token ∷ is_token ∷ []) parts h (λ x0 r0 e0 h0.
        top_token (is_token ∷ []) r0 h0 (λ x1 r1 e1 h1.
        top_token ([]) r1 h1 (λ x2 r2 e2 h2.
        to_end text nodes at at_word at_cut at_terms known_word known_cut known_terms whole parts rest x0 x1 x2 r2 before (e0 ∙ ap (λ (ps : Parts). POther (PTerms x0) ∷ ps) (e1 ∙ ap (λ (ps : Parts). PToken x1 ∷ ps) e2)) q)))

merge_end : (text : List ℕ) (nodes : List Node) (at : ℕ) (at_word : SeenToken) (at_a : ℕ) (at_b : ℕ) (at_slice : ℕ) → IsTokenOf text nodes at 5 at_word → IsChild text nodes at 4 at_a → IsChild text nodes at 2 at_b → IsChild text nodes at 0 at_slice
    → (whole : Command) (parts rest : Parts) (slice : PlacedTerm) (passed_4 : SeenToken) (b : Atom) (passed_2 : SeenToken) (a : Atom) (word : SeenToken) (behind : Parts) → built text (take at nodes) ≡ Some parts → parts ≡ PTerm slice ∷ PToken passed_4 ∷ POther (PAtom b) ∷ PToken passed_2 ∷ POther (PAtom a) ∷ PToken word ∷ behind
    → POther (PCommand whole) ∷ rest ≡ POther (PCommand (made_merge parts)) ∷ drop 6 parts → IsMerge text nodes at at_word at_a at_b at_slice whole
merge_end text nodes at at_word at_a at_b at_slice known_word known_a known_b known_slice whole parts rest slice passed_4 b passed_2 a word behind before shape q =
    let made : whole ≡ made_merge parts = cc in
    record {
      of_a = a;
      of_b = b;
      of_slice = slice;
      at_a = at_part text nodes at 4 at_a parts (PToken word ∷ behind) (POther (PAtom a)) known_a before (ap (λ (ps : Parts). drop 4 ps) shape);
      at_b = at_part text nodes at 2 at_b parts (PToken passed_2 ∷ POther (PAtom a) ∷ PToken word ∷ behind) (POther (PAtom b)) known_b before (ap (λ (ps : Parts). drop 2 ps) shape);
      at_slice = at_part text nodes at 0 at_slice parts (PToken passed_4 ∷ POther (PAtom b) ∷ PToken passed_2 ∷ POther (PAtom a) ∷ PToken word ∷ behind) (PTerm slice) known_slice before (ap (λ (ps : Parts). drop 0 ps) shape);
      made = made ∙ ap (λ (ps : Parts). made_merge ps) shape
          ∙ ap (λ (x : SeenToken). (command.Merge x a b slice)) (sym (known_word.same parts (behind) word before (ap (λ (ps : Parts). drop 5 ps) shape)));
    }

pub merge_is : (text : List ℕ) (nodes : List Node) (at : ℕ) (at_word : SeenToken) (at_a : ℕ) (at_b : ℕ) (at_slice : ℕ) → IsMadeBy nodes at act.ACT_MERGE → IsTokenOf text nodes at 5 at_word → IsChild text nodes at 4 at_a → IsChild text nodes at 2 at_b → IsChild text nodes at 0 at_slice
    → (whole : Command) → IsPartAt text nodes at (POther (PCommand whole)) → IsMerge text nodes at at_word at_a at_b at_slice whole
merge_is text nodes at at_word at_a at_b at_slice by known_word known_a known_b known_slice whole is =
    let o = opened text nodes at (Made by.raw by.from) (POther (PCommand whole)) by.node is in
    let a = accepted text act.ACT_MERGE o.parts (POther (PCommand whole) ∷ o.rest) (same_act text by.raw act.ACT_MERGE o.parts by.number ∙ o.done) in
    go o.parts o.rest o.before a.0 a.1
  where
    go : (parts rest : Parts) → built text (take at nodes) ≡ Some parts → has_tops (is_term ∷ is_token ∷ is_atom ∷ is_token ∷ is_atom ∷ is_token ∷ []) parts ≡ true → POther (PCommand whole) ∷ rest ≡ POther (PCommand (made_merge parts)) ∷ drop 6 parts → IsMerge text nodes at at_word at_a at_b at_slice whole
    go parts rest before h q =
        top_term (is_token ∷ is_atom ∷ is_token ∷ is_atom ∷ is_token ∷ []) parts h (λ x0 r0 e0 h0.
        top_token (is_atom ∷ is_token ∷ is_atom ∷ is_token ∷ []) r0 h0 (λ x1 r1 e1 h1.
        top_atom (is_token ∷ is_atom ∷ is_token ∷ []) r1 h1 (λ x2 r2 e2 h2.
        top_token (is_atom ∷ is_token ∷ []) r2 h2 (λ x3 r3 e3 h3.
        top_atom (is_token ∷ []) r3 h3 (λ x4 r4 e4 h4.
        top_token ([]) r4 h4 (λ x5 r5 e5 h5.
        merge_end text nodes at at_word at_a at_b at_slice known_word known_a known_b known_slice whole parts rest x0 x1 x2 x3 x4 x5 r5 before (e0 ∙ ap (λ (ps : Parts). PTerm x0 ∷ ps) (e1 ∙ ap (λ (ps : Parts). PToken x1 ∷ ps) (e2 ∙ ap (λ (ps : Parts). POther (PAtom x2) ∷ ps) (e3 ∙ ap (λ (ps : Parts). PToken x3 ∷ ps) (e4 ∙ ap (λ (ps : Parts). POther (PAtom x4) ∷ ps) e5))))) q))))))

void_end : (text : List ℕ) (nodes : List Node) (at : ℕ) (at_word : SeenToken) (at_item : SeenToken) → IsTokenOf text nodes at 1 at_word → IsTokenOf text nodes at 0 at_item
    → (whole : Command) (parts rest : Parts) (item : SeenToken) (word : SeenToken) (behind : Parts) → built text (take at nodes) ≡ Some parts → parts ≡ PToken item ∷ PToken word ∷ behind
    → POther (PCommand whole) ∷ rest ≡ POther (PCommand (made_void parts)) ∷ drop 2 parts → whole ≡ (command.Void at_word at_item)
void_end text nodes at at_word at_item known_word known_item whole parts rest item word behind before shape q =
    let made : whole ≡ made_void parts = cc in
    made ∙ ap (λ (ps : Parts). made_void ps) shape
    ∙ ap (λ (x : SeenToken). (command.Void x item)) (sym (known_word.same parts (behind) word before (ap (λ (ps : Parts). drop 1 ps) shape)))
    ∙ ap (λ (x : SeenToken). (command.Void at_word x)) (sym (known_item.same parts (PToken word ∷ behind) item before (ap (λ (ps : Parts). drop 0 ps) shape)))

pub void_is : (text : List ℕ) (nodes : List Node) (at : ℕ) (at_word : SeenToken) (at_item : SeenToken) → IsMadeBy nodes at act.ACT_VOID → IsTokenOf text nodes at 1 at_word → IsTokenOf text nodes at 0 at_item
    → (whole : Command) → IsPartAt text nodes at (POther (PCommand whole)) → whole ≡ (command.Void at_word at_item)
void_is text nodes at at_word at_item by known_word known_item whole is =
    let o = opened text nodes at (Made by.raw by.from) (POther (PCommand whole)) by.node is in
    let a = accepted text act.ACT_VOID o.parts (POther (PCommand whole) ∷ o.rest) (same_act text by.raw act.ACT_VOID o.parts by.number ∙ o.done) in
    go o.parts o.rest o.before a.0 a.1
  where
    go : (parts rest : Parts) → built text (take at nodes) ≡ Some parts → has_tops (is_token ∷ is_token ∷ []) parts ≡ true → POther (PCommand whole) ∷ rest ≡ POther (PCommand (made_void parts)) ∷ drop 2 parts → whole ≡ (command.Void at_word at_item)
    go parts rest before h q =
        top_token (is_token ∷ []) parts h (λ x0 r0 e0 h0.
        top_token ([]) r0 h0 (λ x1 r1 e1 h1.
        void_end text nodes at at_word at_item known_word known_item whole parts rest x0 x1 r1 before (e0 ∙ ap (λ (ps : Parts). PToken x0 ∷ ps) e1) q))

yield_end : (text : List ℕ) (nodes : List Node) (at : ℕ) (at_word : SeenToken) (at_a : ℕ) (at_b : ℕ) (at_slice : ℕ) (at_low : ℕ) (at_high : ℕ) → IsTokenOf text nodes at 12 at_word → IsChild text nodes at 11 at_a → IsChild text nodes at 9 at_b → IsChild text nodes at 5 at_slice → IsChild text nodes at 3 at_low → IsChild text nodes at 1 at_high
    → (whole : Command) (parts rest : Parts) (passed_12 : SeenToken) (high : PlacedTerm) (passed_10 : SeenToken) (low : PlacedTerm) (passed_8 : SeenToken) (slice : PlacedTerm) (passed_6 : SeenToken) (passed_5 : SeenToken) (passed_4 : SeenToken) (b : Atom) (passed_2 : SeenToken) (a : Atom) (word : SeenToken) (behind : Parts) → built text (take at nodes) ≡ Some parts → parts ≡ PToken passed_12 ∷ PTerm high ∷ PToken passed_10 ∷ PTerm low ∷ PToken passed_8 ∷ PTerm slice ∷ PToken passed_6 ∷ PToken passed_5 ∷ PToken passed_4 ∷ POther (PAtom b) ∷ PToken passed_2 ∷ POther (PAtom a) ∷ PToken word ∷ behind
    → POther (PCommand whole) ∷ rest ≡ POther (PCommand (made_yield parts)) ∷ drop 13 parts → IsYield text nodes at at_word at_a at_b at_slice at_low at_high whole
yield_end text nodes at at_word at_a at_b at_slice at_low at_high known_word known_a known_b known_slice known_low known_high whole parts rest passed_12 high passed_10 low passed_8 slice passed_6 passed_5 passed_4 b passed_2 a word behind before shape q =
    let made : whole ≡ made_yield parts = cc in
    record {
      of_a = a;
      of_b = b;
      of_slice = slice;
      of_low = low;
      of_high = high;
      at_a = at_part text nodes at 11 at_a parts (PToken word ∷ behind) (POther (PAtom a)) known_a before (ap (λ (ps : Parts). drop 11 ps) shape);
      at_b = at_part text nodes at 9 at_b parts (PToken passed_2 ∷ POther (PAtom a) ∷ PToken word ∷ behind) (POther (PAtom b)) known_b before (ap (λ (ps : Parts). drop 9 ps) shape);
      at_slice = at_part text nodes at 5 at_slice parts (PToken passed_6 ∷ PToken passed_5 ∷ PToken passed_4 ∷ POther (PAtom b) ∷ PToken passed_2 ∷ POther (PAtom a) ∷ PToken word ∷ behind) (PTerm slice) known_slice before (ap (λ (ps : Parts). drop 5 ps) shape);
      at_low = at_part text nodes at 3 at_low parts (PToken passed_8 ∷ PTerm slice ∷ PToken passed_6 ∷ PToken passed_5 ∷ PToken passed_4 ∷ POther (PAtom b) ∷ PToken passed_2 ∷ POther (PAtom a) ∷ PToken word ∷ behind) (PTerm low) known_low before (ap (λ (ps : Parts). drop 3 ps) shape);
      at_high = at_part text nodes at 1 at_high parts (PToken passed_10 ∷ PTerm low ∷ PToken passed_8 ∷ PTerm slice ∷ PToken passed_6 ∷ PToken passed_5 ∷ PToken passed_4 ∷ POther (PAtom b) ∷ PToken passed_2 ∷ POther (PAtom a) ∷ PToken word ∷ behind) (PTerm high) known_high before (ap (λ (ps : Parts). drop 1 ps) shape);
      made = made ∙ ap (λ (ps : Parts). made_yield ps) shape
          ∙ ap (λ (x : SeenToken). (command.Yield x a b slice low high)) (sym (known_word.same parts (behind) word before (ap (λ (ps : Parts). drop 12 ps) shape)));
    }

pub yield_is : (text : List ℕ) (nodes : List Node) (at : ℕ) (at_word : SeenToken) (at_a : ℕ) (at_b : ℕ) (at_slice : ℕ) (at_low : ℕ) (at_high : ℕ) → IsMadeBy nodes at act.ACT_YIELD → IsTokenOf text nodes at 12 at_word → IsChild text nodes at 11 at_a → IsChild text nodes at 9 at_b → IsChild text nodes at 5 at_slice → IsChild text nodes at 3 at_low → IsChild text nodes at 1 at_high
    → (whole : Command) → IsPartAt text nodes at (POther (PCommand whole)) → IsYield text nodes at at_word at_a at_b at_slice at_low at_high whole
yield_is text nodes at at_word at_a at_b at_slice at_low at_high by known_word known_a known_b known_slice known_low known_high whole is =
    let o = opened text nodes at (Made by.raw by.from) (POther (PCommand whole)) by.node is in
    let a = accepted text act.ACT_YIELD o.parts (POther (PCommand whole) ∷ o.rest) (same_act text by.raw act.ACT_YIELD o.parts by.number ∙ o.done) in
    go o.parts o.rest o.before a.0 a.1
  where
    go : (parts rest : Parts) → built text (take at nodes) ≡ Some parts → has_tops (is_token ∷ is_term ∷ is_token ∷ is_term ∷ is_token ∷ is_term ∷ is_token ∷ is_token ∷ is_token ∷ is_atom ∷ is_token ∷ is_atom ∷ is_token ∷ []) parts ≡ true → POther (PCommand whole) ∷ rest ≡ POther (PCommand (made_yield parts)) ∷ drop 13 parts → IsYield text nodes at at_word at_a at_b at_slice at_low at_high whole
    go parts rest before h q =
        top_token (is_term ∷ is_token ∷ is_term ∷ is_token ∷ is_term ∷ is_token ∷ is_token ∷ is_token ∷ is_atom ∷ is_token ∷ is_atom ∷ is_token ∷ []) parts h (λ x0 r0 e0 h0.
        top_term (is_token ∷ is_term ∷ is_token ∷ is_term ∷ is_token ∷ is_token ∷ is_token ∷ is_atom ∷ is_token ∷ is_atom ∷ is_token ∷ []) r0 h0 (λ x1 r1 e1 h1.
        top_token (is_term ∷ is_token ∷ is_term ∷ is_token ∷ is_token ∷ is_token ∷ is_atom ∷ is_token ∷ is_atom ∷ is_token ∷ []) r1 h1 (λ x2 r2 e2 h2.
        top_term (is_token ∷ is_term ∷ is_token ∷ is_token ∷ is_token ∷ is_atom ∷ is_token ∷ is_atom ∷ is_token ∷ []) r2 h2 (λ x3 r3 e3 h3.
        top_token (is_term ∷ is_token ∷ is_token ∷ is_token ∷ is_atom ∷ is_token ∷ is_atom ∷ is_token ∷ []) r3 h3 (λ x4 r4 e4 h4.
        top_term (is_token ∷ is_token ∷ is_token ∷ is_atom ∷ is_token ∷ is_atom ∷ is_token ∷ []) r4 h4 (λ x5 r5 e5 h5.
        top_token (is_token ∷ is_token ∷ is_atom ∷ is_token ∷ is_atom ∷ is_token ∷ []) r5 h5 (λ x6 r6 e6 h6.
        top_token (is_token ∷ is_atom ∷ is_token ∷ is_atom ∷ is_token ∷ []) r6 h6 (λ x7 r7 e7 h7.
        top_token (is_atom ∷ is_token ∷ is_atom ∷ is_token ∷ []) r7 h7 (λ x8 r8 e8 h8.
        top_atom (is_token ∷ is_atom ∷ is_token ∷ []) r8 h8 (λ x9 r9 e9 h9.
        top_token (is_atom ∷ is_token ∷ []) r9 h9 (λ x10 r10 e10 h10.
        top_atom (is_token ∷ []) r10 h10 (λ x11 r11 e11 h11.
        top_token ([]) r11 h11 (λ x12 r12 e12 h12.
        yield_end text nodes at at_word at_a at_b at_slice at_low at_high known_word known_a known_b known_slice known_low known_high whole parts rest x0 x1 x2 x3 x4 x5 x6 x7 x8 x9 x10 x11 x12 r12 before (e0 ∙ ap (λ (ps : Parts). PToken x0 ∷ ps) (e1 ∙ ap (λ (ps : Parts). PTerm x1 ∷ ps) (e2 ∙ ap (λ (ps : Parts). PToken x2 ∷ ps) (e3 ∙ ap (λ (ps : Parts). PTerm x3 ∷ ps) (e4 ∙ ap (λ (ps : Parts). PToken x4 ∷ ps) (e5 ∙ ap (λ (ps : Parts). PTerm x5 ∷ ps) (e6 ∙ ap (λ (ps : Parts). PToken x6 ∷ ps) (e7 ∙ ap (λ (ps : Parts). PToken x7 ∷ ps) (e8 ∙ ap (λ (ps : Parts). PToken x8 ∷ ps) (e9 ∙ ap (λ (ps : Parts). POther (PAtom x9) ∷ ps) (e10 ∙ ap (λ (ps : Parts). PToken x10 ∷ ps) (e11 ∙ ap (λ (ps : Parts). POther (PAtom x11) ∷ ps) e12)))))))))))) q)))))))))))))

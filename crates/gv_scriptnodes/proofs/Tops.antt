-- What stands on top of the parts that an act takes, by its tests.
use Rattle.std.proofs.Common.{◌≡◌, ℕ, Bool, true, false, List, [], ◌∷◌, Option, Some, None, refl, ap}
use Rattle.std.specs.Prelude.{if◌then◌else◌}
use Rattle.std.proofs.lemmas.Bool.{false≢true}
use Rattle.gv_grammar.specs.Building.{has_tops, accepts, made_by}
use Rattle.gv_grammar.proofs.Tests.{both}
use Rattle.gv_termread.specs.declared.generated.term_acts.Part.{Part}
use Rattle.gv_termread.specs.declared.generated.term_acts.Part.TheVariants.{Token as PToken, Term as PTerm, Other as POther}
use Rattle.gv_termread.specs.declared.placed.PlacedTerm.{PlacedTerm}
use Rattle.gv_termread.specs.declared.token.SeenToken.{SeenToken}
use Rattle.gv_termread.specs.TermActs.{is_token, is_term}
use Rattle.gv_scriptsyntax.specs.declared.generated.script_acts.ScriptPart.{ScriptPart}
use Rattle.gv_scriptsyntax.specs.declared.generated.script_acts.ScriptPart.TheVariants.{Arm as PArm, Arms as PArms, Atom as PAtom, Atoms as PAtoms, Block as PBlock, Blocks as PBlocks, Books as PBooks, Case as PCase, Cases as PCases, Cert as PCert, Command as PCommand, Commands as PCommands, Cuts as PCuts, Ending as PEnding, Factor as PFactor, Factors as PFactors, Filling as PFilling, Haves as PHaves, Inst as PInst, Item as PItem, Items as PItems, MaybeBlock as PMaybeBlock, MaybeInst as PMaybeInst, MaybeTerm as PMaybeTerm, Names as PNames, Ops as POps, Pars as PPars, Preds as PPreds, Procs as PProcs, Script as PScript, Terms as PTerms}
use Rattle.gv_scriptsyntax.specs.declared.tree.Arm.{Arm}
use Rattle.gv_scriptsyntax.specs.declared.tree.Atom.{Atom}
use Rattle.gv_scriptsyntax.specs.declared.tree.Block.{Block}
use Rattle.gv_scriptsyntax.specs.declared.tree.Book.{Book}
use Rattle.gv_scriptsyntax.specs.declared.tree.Case.{Case}
use Rattle.gv_scriptsyntax.specs.declared.tree.Cert.{Cert}
use Rattle.gv_scriptsyntax.specs.declared.tree.Command.{Command}
use Rattle.gv_scriptsyntax.specs.declared.tree.Cut.{Cut}
use Rattle.gv_scriptsyntax.specs.declared.tree.Factor.{Factor}
use Rattle.gv_scriptsyntax.specs.declared.tree.Filling.{Filling}
use Rattle.gv_scriptsyntax.specs.declared.tree.Have.{Have}
use Rattle.gv_scriptsyntax.specs.declared.tree.Inst.{Inst}
use Rattle.gv_scriptsyntax.specs.declared.tree.Item.{Item}
use Rattle.gv_scriptsyntax.specs.declared.tree.Op.{Op}
use Rattle.gv_scriptsyntax.specs.declared.tree.Par.{Par}
use Rattle.gv_scriptsyntax.specs.declared.tree.Pred.{Pred}
use Rattle.gv_scriptsyntax.specs.declared.tree.Proc.{Proc}
use Rattle.gv_scriptsyntax.specs.declared.tree.Script.{Script}
use Rattle.gv_scriptsyntax.specs.ScriptActs.{script_acts, is_names, is_pars, is_terms, is_maybe_term, is_inst, is_maybe_inst, is_atom, is_atoms, is_item, is_items, is_factor, is_factors, is_cert, is_haves, is_filling, is_command, is_commands, is_ending, is_block, is_maybe_block, is_blocks, is_arm, is_arms, is_case, is_cases, is_books, is_preds, is_cuts, is_ops, is_procs}
use Rattle.gv_scriptsyntax.specs.Nodes.{Parts, done_by}

-- what an act that makes something has taken, and what it made
pub accepted : (text : List ℕ) (act : ℕ) (parts made : Parts) → done_by text act parts ≡ Some made
    → (accepts (script_acts text) act parts ≡ true) × (made ≡ made_by (script_acts text) act parts)
unfolding done_by
accepted text act parts made h = go (accepts (script_acts text) act parts) refl h
  where
    go : (b : Bool) → accepts (script_acts text) act parts ≡ b → (if b then Some (made_by (script_acts text) act parts) else None) ≡ Some made
        → (accepts (script_acts text) act parts ≡ true) × (made ≡ made_by (script_acts text) act parts)
    go false e h = absurd cc
    go true e h = (e, cc)

-- what follows from the part on top and the others
abbrev pub Topped : {K : Type 0} → (K → Part ScriptPart) → List (Part ScriptPart → Bool) → Parts → Type 0 → Type 0
Topped {K} of tests parts G = (top : K) (rest : Parts) → parts ≡ of top ∷ rest → has_tops tests rest ≡ true → G

topped : {K G : Type 0} (of : K → Part ScriptPart) (test : Part ScriptPart → Bool) → ((p : Part ScriptPart) → test p ≡ true → (k : K) × (p ≡ of k))
    → (tests : List (Part ScriptPart → Bool)) (parts : Parts) → has_tops (test ∷ tests) parts ≡ true → Topped of tests parts G → G
topped of test inside tests [] h next = absurd (false≢true h)
topped of test inside tests (p ∷ ps) h next =
    let b = both (test p) (has_tops tests ps) h in
    let i = inside p b.0 in
    next i.0 ps (ap (λ (q : Part ScriptPart). q ∷ ps) i.1) b.1

in_token : (p : Part ScriptPart) → is_token p ≡ true → (k : SeenToken) × (p ≡ PToken k)
in_token (PToken k) h = (k, refl)
in_token p h = absurd (false≢true h)

pub top_token : {G : Type 0} (tests : List (Part ScriptPart → Bool)) (parts : Parts) → has_tops (is_token ∷ tests) parts ≡ true → Topped {K = SeenToken} (λ k. PToken k) tests parts G → G
top_token tests parts h next = topped (λ (k : SeenToken). PToken k) is_token in_token tests parts h next

in_term : (p : Part ScriptPart) → is_term p ≡ true → (k : PlacedTerm) × (p ≡ PTerm k)
in_term (PTerm k) h = (k, refl)
in_term p h = absurd (false≢true h)

pub top_term : {G : Type 0} (tests : List (Part ScriptPart → Bool)) (parts : Parts) → has_tops (is_term ∷ tests) parts ≡ true → Topped {K = PlacedTerm} (λ k. PTerm k) tests parts G → G
top_term tests parts h next = topped (λ (k : PlacedTerm). PTerm k) is_term in_term tests parts h next

in_names : (p : Part ScriptPart) → is_names p ≡ true → (k : List SeenToken) × (p ≡ POther (PNames k))
in_names (POther (PNames k)) h = (k, refl)
in_names p h = absurd (false≢true h)

pub top_names : {G : Type 0} (tests : List (Part ScriptPart → Bool)) (parts : Parts) → has_tops (is_names ∷ tests) parts ≡ true → Topped {K = List SeenToken} (λ k. POther (PNames k)) tests parts G → G
top_names tests parts h next = topped (λ (k : List SeenToken). POther (PNames k)) is_names in_names tests parts h next

in_pars : (p : Part ScriptPart) → is_pars p ≡ true → (k : List Par) × (p ≡ POther (PPars k))
in_pars (POther (PPars k)) h = (k, refl)
in_pars p h = absurd (false≢true h)

pub top_pars : {G : Type 0} (tests : List (Part ScriptPart → Bool)) (parts : Parts) → has_tops (is_pars ∷ tests) parts ≡ true → Topped {K = List Par} (λ k. POther (PPars k)) tests parts G → G
top_pars tests parts h next = topped (λ (k : List Par). POther (PPars k)) is_pars in_pars tests parts h next

in_terms : (p : Part ScriptPart) → is_terms p ≡ true → (k : List PlacedTerm) × (p ≡ POther (PTerms k))
in_terms (POther (PTerms k)) h = (k, refl)
in_terms p h = absurd (false≢true h)

pub top_terms : {G : Type 0} (tests : List (Part ScriptPart → Bool)) (parts : Parts) → has_tops (is_terms ∷ tests) parts ≡ true → Topped {K = List PlacedTerm} (λ k. POther (PTerms k)) tests parts G → G
top_terms tests parts h next = topped (λ (k : List PlacedTerm). POther (PTerms k)) is_terms in_terms tests parts h next

in_maybe_term : (p : Part ScriptPart) → is_maybe_term p ≡ true → (k : Option PlacedTerm) × (p ≡ POther (PMaybeTerm k))
in_maybe_term (POther (PMaybeTerm k)) h = (k, refl)
in_maybe_term p h = absurd (false≢true h)

pub top_maybe_term : {G : Type 0} (tests : List (Part ScriptPart → Bool)) (parts : Parts) → has_tops (is_maybe_term ∷ tests) parts ≡ true → Topped {K = Option PlacedTerm} (λ k. POther (PMaybeTerm k)) tests parts G → G
top_maybe_term tests parts h next = topped (λ (k : Option PlacedTerm). POther (PMaybeTerm k)) is_maybe_term in_maybe_term tests parts h next

in_inst : (p : Part ScriptPart) → is_inst p ≡ true → (k : Inst) × (p ≡ POther (PInst k))
in_inst (POther (PInst k)) h = (k, refl)
in_inst p h = absurd (false≢true h)

pub top_inst : {G : Type 0} (tests : List (Part ScriptPart → Bool)) (parts : Parts) → has_tops (is_inst ∷ tests) parts ≡ true → Topped {K = Inst} (λ k. POther (PInst k)) tests parts G → G
top_inst tests parts h next = topped (λ (k : Inst). POther (PInst k)) is_inst in_inst tests parts h next

in_maybe_inst : (p : Part ScriptPart) → is_maybe_inst p ≡ true → (k : Option Inst) × (p ≡ POther (PMaybeInst k))
in_maybe_inst (POther (PMaybeInst k)) h = (k, refl)
in_maybe_inst p h = absurd (false≢true h)

pub top_maybe_inst : {G : Type 0} (tests : List (Part ScriptPart → Bool)) (parts : Parts) → has_tops (is_maybe_inst ∷ tests) parts ≡ true → Topped {K = Option Inst} (λ k. POther (PMaybeInst k)) tests parts G → G
top_maybe_inst tests parts h next = topped (λ (k : Option Inst). POther (PMaybeInst k)) is_maybe_inst in_maybe_inst tests parts h next

in_atom : (p : Part ScriptPart) → is_atom p ≡ true → (k : Atom) × (p ≡ POther (PAtom k))
in_atom (POther (PAtom k)) h = (k, refl)
in_atom p h = absurd (false≢true h)

pub top_atom : {G : Type 0} (tests : List (Part ScriptPart → Bool)) (parts : Parts) → has_tops (is_atom ∷ tests) parts ≡ true → Topped {K = Atom} (λ k. POther (PAtom k)) tests parts G → G
top_atom tests parts h next = topped (λ (k : Atom). POther (PAtom k)) is_atom in_atom tests parts h next

in_atoms : (p : Part ScriptPart) → is_atoms p ≡ true → (k : List Atom) × (p ≡ POther (PAtoms k))
in_atoms (POther (PAtoms k)) h = (k, refl)
in_atoms p h = absurd (false≢true h)

pub top_atoms : {G : Type 0} (tests : List (Part ScriptPart → Bool)) (parts : Parts) → has_tops (is_atoms ∷ tests) parts ≡ true → Topped {K = List Atom} (λ k. POther (PAtoms k)) tests parts G → G
top_atoms tests parts h next = topped (λ (k : List Atom). POther (PAtoms k)) is_atoms in_atoms tests parts h next

in_item : (p : Part ScriptPart) → is_item p ≡ true → (k : Item) × (p ≡ POther (PItem k))
in_item (POther (PItem k)) h = (k, refl)
in_item p h = absurd (false≢true h)

pub top_item : {G : Type 0} (tests : List (Part ScriptPart → Bool)) (parts : Parts) → has_tops (is_item ∷ tests) parts ≡ true → Topped {K = Item} (λ k. POther (PItem k)) tests parts G → G
top_item tests parts h next = topped (λ (k : Item). POther (PItem k)) is_item in_item tests parts h next

in_items : (p : Part ScriptPart) → is_items p ≡ true → (k : List Item) × (p ≡ POther (PItems k))
in_items (POther (PItems k)) h = (k, refl)
in_items p h = absurd (false≢true h)

pub top_items : {G : Type 0} (tests : List (Part ScriptPart → Bool)) (parts : Parts) → has_tops (is_items ∷ tests) parts ≡ true → Topped {K = List Item} (λ k. POther (PItems k)) tests parts G → G
top_items tests parts h next = topped (λ (k : List Item). POther (PItems k)) is_items in_items tests parts h next

in_factor : (p : Part ScriptPart) → is_factor p ≡ true → (k : Factor) × (p ≡ POther (PFactor k))
in_factor (POther (PFactor k)) h = (k, refl)
in_factor p h = absurd (false≢true h)

pub top_factor : {G : Type 0} (tests : List (Part ScriptPart → Bool)) (parts : Parts) → has_tops (is_factor ∷ tests) parts ≡ true → Topped {K = Factor} (λ k. POther (PFactor k)) tests parts G → G
top_factor tests parts h next = topped (λ (k : Factor). POther (PFactor k)) is_factor in_factor tests parts h next

in_factors : (p : Part ScriptPart) → is_factors p ≡ true → (k : List Factor) × (p ≡ POther (PFactors k))
in_factors (POther (PFactors k)) h = (k, refl)
in_factors p h = absurd (false≢true h)

pub top_factors : {G : Type 0} (tests : List (Part ScriptPart → Bool)) (parts : Parts) → has_tops (is_factors ∷ tests) parts ≡ true → Topped {K = List Factor} (λ k. POther (PFactors k)) tests parts G → G
top_factors tests parts h next = topped (λ (k : List Factor). POther (PFactors k)) is_factors in_factors tests parts h next

in_cert : (p : Part ScriptPart) → is_cert p ≡ true → (k : Cert) × (p ≡ POther (PCert k))
in_cert (POther (PCert k)) h = (k, refl)
in_cert p h = absurd (false≢true h)

pub top_cert : {G : Type 0} (tests : List (Part ScriptPart → Bool)) (parts : Parts) → has_tops (is_cert ∷ tests) parts ≡ true → Topped {K = Cert} (λ k. POther (PCert k)) tests parts G → G
top_cert tests parts h next = topped (λ (k : Cert). POther (PCert k)) is_cert in_cert tests parts h next

in_haves : (p : Part ScriptPart) → is_haves p ≡ true → (k : List Have) × (p ≡ POther (PHaves k))
in_haves (POther (PHaves k)) h = (k, refl)
in_haves p h = absurd (false≢true h)

pub top_haves : {G : Type 0} (tests : List (Part ScriptPart → Bool)) (parts : Parts) → has_tops (is_haves ∷ tests) parts ≡ true → Topped {K = List Have} (λ k. POther (PHaves k)) tests parts G → G
top_haves tests parts h next = topped (λ (k : List Have). POther (PHaves k)) is_haves in_haves tests parts h next

in_filling : (p : Part ScriptPart) → is_filling p ≡ true → (k : Filling) × (p ≡ POther (PFilling k))
in_filling (POther (PFilling k)) h = (k, refl)
in_filling p h = absurd (false≢true h)

pub top_filling : {G : Type 0} (tests : List (Part ScriptPart → Bool)) (parts : Parts) → has_tops (is_filling ∷ tests) parts ≡ true → Topped {K = Filling} (λ k. POther (PFilling k)) tests parts G → G
top_filling tests parts h next = topped (λ (k : Filling). POther (PFilling k)) is_filling in_filling tests parts h next

in_command : (p : Part ScriptPart) → is_command p ≡ true → (k : Command) × (p ≡ POther (PCommand k))
in_command (POther (PCommand k)) h = (k, refl)
in_command p h = absurd (false≢true h)

pub top_command : {G : Type 0} (tests : List (Part ScriptPart → Bool)) (parts : Parts) → has_tops (is_command ∷ tests) parts ≡ true → Topped {K = Command} (λ k. POther (PCommand k)) tests parts G → G
top_command tests parts h next = topped (λ (k : Command). POther (PCommand k)) is_command in_command tests parts h next

in_commands : (p : Part ScriptPart) → is_commands p ≡ true → (k : List Command) × (p ≡ POther (PCommands k))
in_commands (POther (PCommands k)) h = (k, refl)
in_commands p h = absurd (false≢true h)

pub top_commands : {G : Type 0} (tests : List (Part ScriptPart → Bool)) (parts : Parts) → has_tops (is_commands ∷ tests) parts ≡ true → Topped {K = List Command} (λ k. POther (PCommands k)) tests parts G → G
top_commands tests parts h next = topped (λ (k : List Command). POther (PCommands k)) is_commands in_commands tests parts h next

in_ending : (p : Part ScriptPart) → is_ending p ≡ true → (k : Option SeenToken) × (p ≡ POther (PEnding k))
in_ending (POther (PEnding k)) h = (k, refl)
in_ending p h = absurd (false≢true h)

pub top_ending : {G : Type 0} (tests : List (Part ScriptPart → Bool)) (parts : Parts) → has_tops (is_ending ∷ tests) parts ≡ true → Topped {K = Option SeenToken} (λ k. POther (PEnding k)) tests parts G → G
top_ending tests parts h next = topped (λ (k : Option SeenToken). POther (PEnding k)) is_ending in_ending tests parts h next

in_block : (p : Part ScriptPart) → is_block p ≡ true → (k : Block) × (p ≡ POther (PBlock k))
in_block (POther (PBlock k)) h = (k, refl)
in_block p h = absurd (false≢true h)

pub top_block : {G : Type 0} (tests : List (Part ScriptPart → Bool)) (parts : Parts) → has_tops (is_block ∷ tests) parts ≡ true → Topped {K = Block} (λ k. POther (PBlock k)) tests parts G → G
top_block tests parts h next = topped (λ (k : Block). POther (PBlock k)) is_block in_block tests parts h next

in_maybe_block : (p : Part ScriptPart) → is_maybe_block p ≡ true → (k : Option Block) × (p ≡ POther (PMaybeBlock k))
in_maybe_block (POther (PMaybeBlock k)) h = (k, refl)
in_maybe_block p h = absurd (false≢true h)

pub top_maybe_block : {G : Type 0} (tests : List (Part ScriptPart → Bool)) (parts : Parts) → has_tops (is_maybe_block ∷ tests) parts ≡ true → Topped {K = Option Block} (λ k. POther (PMaybeBlock k)) tests parts G → G
top_maybe_block tests parts h next = topped (λ (k : Option Block). POther (PMaybeBlock k)) is_maybe_block in_maybe_block tests parts h next

in_blocks : (p : Part ScriptPart) → is_blocks p ≡ true → (k : List Block) × (p ≡ POther (PBlocks k))
in_blocks (POther (PBlocks k)) h = (k, refl)
in_blocks p h = absurd (false≢true h)

pub top_blocks : {G : Type 0} (tests : List (Part ScriptPart → Bool)) (parts : Parts) → has_tops (is_blocks ∷ tests) parts ≡ true → Topped {K = List Block} (λ k. POther (PBlocks k)) tests parts G → G
top_blocks tests parts h next = topped (λ (k : List Block). POther (PBlocks k)) is_blocks in_blocks tests parts h next

in_arm : (p : Part ScriptPart) → is_arm p ≡ true → (k : Arm) × (p ≡ POther (PArm k))
in_arm (POther (PArm k)) h = (k, refl)
in_arm p h = absurd (false≢true h)

pub top_arm : {G : Type 0} (tests : List (Part ScriptPart → Bool)) (parts : Parts) → has_tops (is_arm ∷ tests) parts ≡ true → Topped {K = Arm} (λ k. POther (PArm k)) tests parts G → G
top_arm tests parts h next = topped (λ (k : Arm). POther (PArm k)) is_arm in_arm tests parts h next

in_arms : (p : Part ScriptPart) → is_arms p ≡ true → (k : List Arm) × (p ≡ POther (PArms k))
in_arms (POther (PArms k)) h = (k, refl)
in_arms p h = absurd (false≢true h)

pub top_arms : {G : Type 0} (tests : List (Part ScriptPart → Bool)) (parts : Parts) → has_tops (is_arms ∷ tests) parts ≡ true → Topped {K = List Arm} (λ k. POther (PArms k)) tests parts G → G
top_arms tests parts h next = topped (λ (k : List Arm). POther (PArms k)) is_arms in_arms tests parts h next

in_case : (p : Part ScriptPart) → is_case p ≡ true → (k : Case) × (p ≡ POther (PCase k))
in_case (POther (PCase k)) h = (k, refl)
in_case p h = absurd (false≢true h)

pub top_case : {G : Type 0} (tests : List (Part ScriptPart → Bool)) (parts : Parts) → has_tops (is_case ∷ tests) parts ≡ true → Topped {K = Case} (λ k. POther (PCase k)) tests parts G → G
top_case tests parts h next = topped (λ (k : Case). POther (PCase k)) is_case in_case tests parts h next

in_cases : (p : Part ScriptPart) → is_cases p ≡ true → (k : List Case) × (p ≡ POther (PCases k))
in_cases (POther (PCases k)) h = (k, refl)
in_cases p h = absurd (false≢true h)

pub top_cases : {G : Type 0} (tests : List (Part ScriptPart → Bool)) (parts : Parts) → has_tops (is_cases ∷ tests) parts ≡ true → Topped {K = List Case} (λ k. POther (PCases k)) tests parts G → G
top_cases tests parts h next = topped (λ (k : List Case). POther (PCases k)) is_cases in_cases tests parts h next

in_books : (p : Part ScriptPart) → is_books p ≡ true → (k : List Book) × (p ≡ POther (PBooks k))
in_books (POther (PBooks k)) h = (k, refl)
in_books p h = absurd (false≢true h)

pub top_books : {G : Type 0} (tests : List (Part ScriptPart → Bool)) (parts : Parts) → has_tops (is_books ∷ tests) parts ≡ true → Topped {K = List Book} (λ k. POther (PBooks k)) tests parts G → G
top_books tests parts h next = topped (λ (k : List Book). POther (PBooks k)) is_books in_books tests parts h next

in_preds : (p : Part ScriptPart) → is_preds p ≡ true → (k : List Pred) × (p ≡ POther (PPreds k))
in_preds (POther (PPreds k)) h = (k, refl)
in_preds p h = absurd (false≢true h)

pub top_preds : {G : Type 0} (tests : List (Part ScriptPart → Bool)) (parts : Parts) → has_tops (is_preds ∷ tests) parts ≡ true → Topped {K = List Pred} (λ k. POther (PPreds k)) tests parts G → G
top_preds tests parts h next = topped (λ (k : List Pred). POther (PPreds k)) is_preds in_preds tests parts h next

in_cuts : (p : Part ScriptPart) → is_cuts p ≡ true → (k : List Cut) × (p ≡ POther (PCuts k))
in_cuts (POther (PCuts k)) h = (k, refl)
in_cuts p h = absurd (false≢true h)

pub top_cuts : {G : Type 0} (tests : List (Part ScriptPart → Bool)) (parts : Parts) → has_tops (is_cuts ∷ tests) parts ≡ true → Topped {K = List Cut} (λ k. POther (PCuts k)) tests parts G → G
top_cuts tests parts h next = topped (λ (k : List Cut). POther (PCuts k)) is_cuts in_cuts tests parts h next

in_ops : (p : Part ScriptPart) → is_ops p ≡ true → (k : List Op) × (p ≡ POther (POps k))
in_ops (POther (POps k)) h = (k, refl)
in_ops p h = absurd (false≢true h)

pub top_ops : {G : Type 0} (tests : List (Part ScriptPart → Bool)) (parts : Parts) → has_tops (is_ops ∷ tests) parts ≡ true → Topped {K = List Op} (λ k. POther (POps k)) tests parts G → G
top_ops tests parts h next = topped (λ (k : List Op). POther (POps k)) is_ops in_ops tests parts h next

in_procs : (p : Part ScriptPart) → is_procs p ≡ true → (k : List Proc) × (p ≡ POther (PProcs k))
in_procs (POther (PProcs k)) h = (k, refl)
in_procs p h = absurd (false≢true h)

pub top_procs : {G : Type 0} (tests : List (Part ScriptPart → Bool)) (parts : Parts) → has_tops (is_procs ∷ tests) parts ≡ true → Topped {K = List Proc} (λ k. POther (PProcs k)) tests parts G → G
top_procs tests parts h next = topped (λ (k : List Proc). POther (PProcs k)) is_procs in_procs tests parts h next

-- ---- parts of one kind, by what they hold

pub same_books : (a b : List Book) (rest other : Parts) → POther (PBooks a) ∷ rest ≡ POther (PBooks b) ∷ other → a ≡ b
same_books a b rest other e = cc

pub same_case : (a b : Case) (rest other : Parts) → POther (PCase a) ∷ rest ≡ POther (PCase b) ∷ other → a ≡ b
same_case a b rest other e = cc

pub same_cases : (a b : List Case) (rest other : Parts) → POther (PCases a) ∷ rest ≡ POther (PCases b) ∷ other → a ≡ b
same_cases a b rest other e = cc

pub same_cuts : (a b : List Cut) (rest other : Parts) → POther (PCuts a) ∷ rest ≡ POther (PCuts b) ∷ other → a ≡ b
same_cuts a b rest other e = cc

pub same_maybeinst : (a b : Option Inst) (rest other : Parts) → POther (PMaybeInst a) ∷ rest ≡ POther (PMaybeInst b) ∷ other → a ≡ b
same_maybeinst a b rest other e = cc

pub same_names : (a b : List SeenToken) (rest other : Parts) → POther (PNames a) ∷ rest ≡ POther (PNames b) ∷ other → a ≡ b
same_names a b rest other e = cc

pub same_ops : (a b : List Op) (rest other : Parts) → POther (POps a) ∷ rest ≡ POther (POps b) ∷ other → a ≡ b
same_ops a b rest other e = cc

pub same_pars : (a b : List Par) (rest other : Parts) → POther (PPars a) ∷ rest ≡ POther (PPars b) ∷ other → a ≡ b
same_pars a b rest other e = cc

pub same_preds : (a b : List Pred) (rest other : Parts) → POther (PPreds a) ∷ rest ≡ POther (PPreds b) ∷ other → a ≡ b
same_preds a b rest other e = cc

pub same_procs : (a b : List Proc) (rest other : Parts) → POther (PProcs a) ∷ rest ≡ POther (PProcs b) ∷ other → a ≡ b
same_procs a b rest other e = cc

pub same_script : (a b : Script) (rest other : Parts) → POther (PScript a) ∷ rest ≡ POther (PScript b) ∷ other → a ≡ b
same_script a b rest other e = cc

pub same_terms : (a b : List PlacedTerm) (rest other : Parts) → POther (PTerms a) ∷ rest ≡ POther (PTerms b) ∷ other → a ≡ b
same_terms a b rest other e = cc

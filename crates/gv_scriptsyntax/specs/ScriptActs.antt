-- What part each act makes of those on top, the top one first. Made by tools/grammar.py from script.grammar: edit that.
use Rattle.std.specs.Prelude.{Bool, true, false, List, [], ◌∷◌, ◌++◌, Some, None, ℕ, Option, map}
use Rattle.gv_grammar.specs.declared.steps.Step.{Step}
use Rattle.gv_grammar.specs.Building.{Reduction, act_of, run}
use Rattle.gv_scriptsyntax.specs.Making.{Making, reduction_of, no_token}
use Rattle.gv_termread.specs.declared.generated.term_acts.Part.{Part}
use Rattle.gv_termread.specs.declared.generated.term_acts.Part.TheVariants.{Token as PToken, Term as PTerm, Other as POther}
use Rattle.gv_termread.specs.TermActs.{is_token, is_term, term_acts}
use Rattle.gv_scriptsyntax.specs.declared.generated.script_acts.ScriptPart.{ScriptPart}
use Rattle.gv_scriptsyntax.specs.declared.generated.script_acts.ScriptPart.TheVariants.{Names as PNames, Pars as PPars, Terms as PTerms, MaybeTerm as PMaybeTerm, Inst as PInst, MaybeInst as PMaybeInst, Atom as PAtom, Atoms as PAtoms, Item as PItem, Items as PItems, Factor as PFactor, Factors as PFactors, Cert as PCert, Haves as PHaves, Filling as PFilling, Command as PCommand, Commands as PCommands, Ending as PEnding, Block as PBlock, MaybeBlock as PMaybeBlock, Blocks as PBlocks, Arm as PArm, Arms as PArms, Case as PCase, Cases as PCases, Books as PBooks, Preds as PPreds, Cuts as PCuts, Ops as POps, Procs as PProcs, Script as PScript}
use Rattle.gv_scriptsyntax.specs.declared.tree.Arm.{Arm}
use Rattle.gv_scriptsyntax.specs.declared.tree.Atom.{Atom}
use Rattle.gv_scriptsyntax.specs.declared.tree.Block.{Block}
use Rattle.gv_scriptsyntax.specs.declared.tree.Book.{Book}
use Rattle.gv_scriptsyntax.specs.declared.tree.Case.{Case}
use Rattle.gv_scriptsyntax.specs.declared.tree.Cert.{Cert}
use Rattle.gv_scriptsyntax.specs.declared.tree.Command.{Command}
use Rattle.gv_scriptsyntax.specs.declared.tree.Cut.{Cut}
use Rattle.gv_scriptsyntax.specs.declared.tree.Factor.{Factor}
use Rattle.gv_scriptsyntax.specs.declared.tree.Filling.{Filling}
use Rattle.gv_scriptsyntax.specs.declared.tree.Have.{Have}
use Rattle.gv_scriptsyntax.specs.declared.tree.Inst.{Inst}
use Rattle.gv_scriptsyntax.specs.declared.tree.Item.{Item}
use Rattle.gv_scriptsyntax.specs.declared.tree.Op.{Op}
use Rattle.gv_scriptsyntax.specs.declared.tree.Par.{Par}
use Rattle.gv_scriptsyntax.specs.declared.tree.Pred.{Pred}
use Rattle.gv_scriptsyntax.specs.declared.tree.Proc.{Proc}
use Rattle.gv_scriptsyntax.specs.declared.tree.Script.{Script}
use Rattle.gv_scriptsyntax.specs.declared.tree.Atom.TheVariants as atom
use Rattle.gv_scriptsyntax.specs.declared.tree.Cert.TheVariants as cert
use Rattle.gv_scriptsyntax.specs.declared.tree.Command.TheVariants as command
use Rattle.gv_scriptsyntax.specs.declared.tree.Filling.TheVariants as filling
use Rattle.gv_scriptsyntax.specs.declared.tree.Item.TheVariants as item
use Rattle.gv_scriptsyntax.specs.Empty.{no_term, no_block, no_script}
use Rattle.gv_termread.specs.declared.placed.PlacedTerm.{PlacedTerm}
use Rattle.gv_termread.specs.declared.token.SeenToken.{SeenToken}

abbrev pub is_names : (Part ScriptPart) → Bool
is_names (POther (PNames of)) = true
is_names part = false

abbrev pub is_pars : (Part ScriptPart) → Bool
is_pars (POther (PPars of)) = true
is_pars part = false

abbrev pub is_terms : (Part ScriptPart) → Bool
is_terms (POther (PTerms of)) = true
is_terms part = false

abbrev pub is_maybe_term : (Part ScriptPart) → Bool
is_maybe_term (POther (PMaybeTerm of)) = true
is_maybe_term part = false

abbrev pub is_inst : (Part ScriptPart) → Bool
is_inst (POther (PInst of)) = true
is_inst part = false

abbrev pub is_maybe_inst : (Part ScriptPart) → Bool
is_maybe_inst (POther (PMaybeInst of)) = true
is_maybe_inst part = false

abbrev pub is_atom : (Part ScriptPart) → Bool
is_atom (POther (PAtom of)) = true
is_atom part = false

abbrev pub is_atoms : (Part ScriptPart) → Bool
is_atoms (POther (PAtoms of)) = true
is_atoms part = false

abbrev pub is_item : (Part ScriptPart) → Bool
is_item (POther (PItem of)) = true
is_item part = false

abbrev pub is_items : (Part ScriptPart) → Bool
is_items (POther (PItems of)) = true
is_items part = false

abbrev pub is_factor : (Part ScriptPart) → Bool
is_factor (POther (PFactor of)) = true
is_factor part = false

abbrev pub is_factors : (Part ScriptPart) → Bool
is_factors (POther (PFactors of)) = true
is_factors part = false

abbrev pub is_cert : (Part ScriptPart) → Bool
is_cert (POther (PCert of)) = true
is_cert part = false

abbrev pub is_haves : (Part ScriptPart) → Bool
is_haves (POther (PHaves of)) = true
is_haves part = false

abbrev pub is_filling : (Part ScriptPart) → Bool
is_filling (POther (PFilling of)) = true
is_filling part = false

abbrev pub is_command : (Part ScriptPart) → Bool
is_command (POther (PCommand of)) = true
is_command part = false

abbrev pub is_commands : (Part ScriptPart) → Bool
is_commands (POther (PCommands of)) = true
is_commands part = false

abbrev pub is_ending : (Part ScriptPart) → Bool
is_ending (POther (PEnding of)) = true
is_ending part = false

abbrev pub is_block : (Part ScriptPart) → Bool
is_block (POther (PBlock of)) = true
is_block part = false

abbrev pub is_maybe_block : (Part ScriptPart) → Bool
is_maybe_block (POther (PMaybeBlock of)) = true
is_maybe_block part = false

abbrev pub is_blocks : (Part ScriptPart) → Bool
is_blocks (POther (PBlocks of)) = true
is_blocks part = false

abbrev pub is_arm : (Part ScriptPart) → Bool
is_arm (POther (PArm of)) = true
is_arm part = false

abbrev pub is_arms : (Part ScriptPart) → Bool
is_arms (POther (PArms of)) = true
is_arms part = false

abbrev pub is_case : (Part ScriptPart) → Bool
is_case (POther (PCase of)) = true
is_case part = false

abbrev pub is_cases : (Part ScriptPart) → Bool
is_cases (POther (PCases of)) = true
is_cases part = false

abbrev pub is_books : (Part ScriptPart) → Bool
is_books (POther (PBooks of)) = true
is_books part = false

abbrev pub is_preds : (Part ScriptPart) → Bool
is_preds (POther (PPreds of)) = true
is_preds part = false

abbrev pub is_cuts : (Part ScriptPart) → Bool
is_cuts (POther (PCuts of)) = true
is_cuts part = false

abbrev pub is_ops : (Part ScriptPart) → Bool
is_ops (POther (POps of)) = true
is_ops part = false

abbrev pub is_procs : (Part ScriptPart) → Bool
is_procs (POther (PProcs of)) = true
is_procs part = false

abbrev pub is_script : (Part ScriptPart) → Bool
is_script (POther (PScript of)) = true
is_script part = false

abbrev pub made_no_names : List (Part ScriptPart) → List SeenToken
made_no_names parts = []

abbrev pub made_name : List (Part ScriptPart) → List SeenToken
made_name (PToken name ∷ POther (PNames names) ∷ parts) = names ++ name ∷ []
made_name parts = []

abbrev pub made_next_name : List (Part ScriptPart) → List SeenToken
made_next_name (PToken name ∷ PToken _ ∷ POther (PNames names) ∷ parts) = names ++ name ∷ []
made_next_name parts = []

abbrev pub made_in_names : List (Part ScriptPart) → List SeenToken
made_in_names (PToken _ ∷ POther (PNames names) ∷ PToken _ ∷ parts) = names
made_in_names parts = []

abbrev pub made_no_pars : List (Part ScriptPart) → List Par
made_no_pars parts = []

abbrev pub made_par : List (Part ScriptPart) → List Par
made_par (PToken sort ∷ PToken _ ∷ PToken name ∷ POther (PPars pars) ∷ parts) = pars ++ (record { name = name; sort = sort }) ∷ []
made_par parts = []

abbrev pub made_next_par : List (Part ScriptPart) → List Par
made_next_par (PToken sort ∷ PToken _ ∷ PToken name ∷ PToken _ ∷ POther (PPars pars) ∷ parts) = pars ++ (record { name = name; sort = sort }) ∷ []
made_next_par parts = []

abbrev pub made_in_pars : List (Part ScriptPart) → List Par
made_in_pars (PToken _ ∷ POther (PPars pars) ∷ PToken _ ∷ parts) = pars
made_in_pars parts = []

abbrev pub made_no_terms : List (Part ScriptPart) → List PlacedTerm
made_no_terms parts = []

abbrev pub made_term : List (Part ScriptPart) → List PlacedTerm
made_term (PTerm term ∷ POther (PTerms terms) ∷ parts) = terms ++ term ∷ []
made_term parts = []

abbrev pub made_next_term : List (Part ScriptPart) → List PlacedTerm
made_next_term (PTerm term ∷ PToken _ ∷ POther (PTerms terms) ∷ parts) = terms ++ term ∷ []
made_next_term parts = []

abbrev pub made_in_terms : List (Part ScriptPart) → List PlacedTerm
made_in_terms (PToken _ ∷ POther (PTerms terms) ∷ PToken _ ∷ parts) = terms
made_in_terms parts = []

abbrev pub made_word_terms : List (Part ScriptPart) → List PlacedTerm
made_word_terms (POther (PTerms terms) ∷ PToken _ ∷ parts) = terms
made_word_terms parts = []

abbrev pub made_no_term : List (Part ScriptPart) → Option PlacedTerm
made_no_term parts = None

abbrev pub made_word_term : List (Part ScriptPart) → Option PlacedTerm
made_word_term (PTerm term ∷ PToken _ ∷ parts) = Some term
made_word_term parts = None

abbrev pub made_inst : List (Part ScriptPart) → Inst
made_inst (POther (PTerms terms) ∷ PToken name ∷ parts) = record { name = name; terms = terms }
made_inst parts = record { name = no_token; terms = [] }

abbrev pub made_no_own : List (Part ScriptPart) → Option Inst
made_no_own parts = None

abbrev pub made_own : List (Part ScriptPart) → Option Inst
made_own (POther (PInst inst) ∷ PToken _ ∷ parts) = Some inst
made_own parts = None

abbrev pub made_one_atom : List (Part ScriptPart) → Atom
made_one_atom (PToken _ ∷ PTerm a ∷ PToken _ ∷ PToken word ∷ parts) = atom.One word a
made_one_atom parts = atom.One no_token no_term

abbrev pub made_two_atom : List (Part ScriptPart) → Atom
made_two_atom (PToken _ ∷ PTerm b ∷ PToken _ ∷ PTerm a ∷ PToken _ ∷ PToken word ∷ parts) = atom.Two word a b
made_two_atom parts = atom.One no_token no_term

abbrev pub made_three_atom : List (Part ScriptPart) → Atom
made_three_atom (PToken _ ∷ PTerm c ∷ PToken _ ∷ PTerm b ∷ PToken _ ∷ PTerm a ∷ PToken _ ∷ PToken word ∷ parts) = atom.Three word a b c
made_three_atom parts = atom.One no_token no_term

abbrev pub made_cell_atom : List (Part ScriptPart) → Atom
made_cell_atom (PToken _ ∷ PTerm b ∷ PToken _ ∷ PToken name ∷ PToken _ ∷ PTerm a ∷ PToken _ ∷ PToken word ∷ parts) = atom.Cell word a name b
made_cell_atom parts = atom.One no_token no_term

abbrev pub made_field_atom : List (Part ScriptPart) → Atom
made_field_atom (PToken _ ∷ PTerm a ∷ PToken _ ∷ PToken name ∷ PToken _ ∷ PToken word ∷ parts) = atom.Field word name a
made_field_atom parts = atom.One no_token no_term

abbrev pub made_book_atom : List (Part ScriptPart) → Atom
made_book_atom (PToken _ ∷ PTerm b ∷ PToken _ ∷ PTerm a ∷ PToken _ ∷ PToken name ∷ PToken _ ∷ PToken word ∷ parts) = atom.Book word name a b
made_book_atom parts = atom.One no_token no_term

abbrev pub made_lock_atom : List (Part ScriptPart) → Atom
made_lock_atom (PToken _ ∷ POther (PInst inst) ∷ PToken _ ∷ PTerm a ∷ PToken _ ∷ PToken word ∷ parts) = atom.Lock word a inst
made_lock_atom parts = atom.One no_token no_term

abbrev pub made_token_atom : List (Part ScriptPart) → Atom
made_token_atom (PToken _ ∷ POther (PTerms terms) ∷ PToken name ∷ PToken _ ∷ PTerm a ∷ PToken _ ∷ PToken word ∷ parts) = atom.Token word a name terms
made_token_atom parts = atom.One no_token no_term

abbrev pub made_done_atom : List (Part ScriptPart) → Atom
made_done_atom (PToken _ ∷ POther (PMaybeTerm reply) ∷ PTerm a ∷ PToken _ ∷ PToken word ∷ parts) = atom.Done word a reply
made_done_atom parts = atom.One no_token no_term

abbrev pub made_each_atom : List (Part ScriptPart) → Atom
made_each_atom (PToken _ ∷ POther (PAtom body) ∷ PToken _ ∷ POther (PTerms except) ∷ PTerm high ∷ PToken _ ∷ PTerm low ∷ PToken _ ∷ PToken name ∷ PToken _ ∷ PToken word ∷ parts) = atom.Each word name low high except body
made_each_atom parts = atom.One no_token no_term

abbrev pub made_inst_atom : List (Part ScriptPart) → Atom
made_inst_atom (POther (PInst inst) ∷ parts) = atom.Instance inst
made_inst_atom parts = atom.One no_token no_term

abbrev pub made_no_atoms : List (Part ScriptPart) → List Atom
made_no_atoms parts = []

abbrev pub made_atom : List (Part ScriptPart) → List Atom
made_atom (POther (PAtom next) ∷ POther (PAtoms atoms) ∷ parts) = atoms ++ next ∷ []
made_atom parts = []

abbrev pub made_next_atom : List (Part ScriptPart) → List Atom
made_next_atom (POther (PAtom next) ∷ PToken _ ∷ POther (PAtoms atoms) ∷ parts) = atoms ++ next ∷ []
made_next_atom parts = []

abbrev pub made_in_atoms : List (Part ScriptPart) → List Atom
made_in_atoms (PToken _ ∷ POther (PAtoms atoms) ∷ PToken _ ∷ parts) = atoms
made_in_atoms parts = []

abbrev pub made_fact : List (Part ScriptPart) → Item
made_fact (PTerm term ∷ parts) = item.Fact term
made_fact parts = item.Fact no_term

abbrev pub made_held : List (Part ScriptPart) → Item
made_held (POther (PAtom held) ∷ parts) = item.Held held
made_held parts = item.Fact no_term

abbrev pub made_no_items : List (Part ScriptPart) → List Item
made_no_items parts = []

abbrev pub made_item : List (Part ScriptPart) → List Item
made_item (PToken _ ∷ POther (PItem next) ∷ POther (PItems items) ∷ parts) = items ++ next ∷ []
made_item parts = []

abbrev pub made_in_items : List (Part ScriptPart) → List Item
made_in_items (PToken _ ∷ POther (PItems items) ∷ PToken _ ∷ parts) = items
made_in_items parts = []

abbrev pub made_positive : List (Part ScriptPart) → Factor
made_positive (PTerm term ∷ PToken number ∷ parts) = record { minus = None; number = number; term = term }
made_positive parts = record { minus = None; number = no_token; term = no_term }

abbrev pub made_negative : List (Part ScriptPart) → Factor
made_negative (PTerm term ∷ PToken number ∷ PToken minus ∷ parts) = record { minus = Some minus; number = number; term = term }
made_negative parts = record { minus = None; number = no_token; term = no_term }

abbrev pub made_no_factors : List (Part ScriptPart) → List Factor
made_no_factors parts = []

abbrev pub made_factor : List (Part ScriptPart) → List Factor
made_factor (POther (PFactor factor) ∷ POther (PFactors factors) ∷ parts) = factors ++ factor ∷ []
made_factor parts = []

abbrev pub made_next_factor : List (Part ScriptPart) → List Factor
made_next_factor (POther (PFactor factor) ∷ PToken _ ∷ POther (PFactors factors) ∷ parts) = factors ++ factor ∷ []
made_next_factor parts = []

abbrev pub made_given : List (Part ScriptPart) → Cert
made_given (PToken word ∷ parts) = cert.Given word
made_given parts = cert.Given no_token

abbrev pub made_axiom : List (Part ScriptPart) → Cert
made_axiom (POther (PTerms terms) ∷ PToken number ∷ PToken word ∷ parts) = cert.Axiom word number terms
made_axiom parts = cert.Given no_token

abbrev pub made_subst : List (Part ScriptPart) → Cert
made_subst (POther (PMaybeTerm within) ∷ PTerm equation ∷ PToken word ∷ parts) = cert.Subst word equation within
made_subst parts = cert.Given no_token

abbrev pub made_contra : List (Part ScriptPart) → Cert
made_contra (PTerm term ∷ PToken word ∷ parts) = cert.Contra word term
made_contra parts = cert.Given no_token

abbrev pub made_linear : List (Part ScriptPart) → Cert
made_linear (PToken _ ∷ POther (PFactors factors) ∷ PToken _ ∷ PToken _ ∷ POther (PTerms sums) ∷ PToken _ ∷ PToken word ∷ parts) = cert.Linear word sums factors
made_linear parts = cert.Given no_token

abbrev pub made_by_cases : List (Part ScriptPart) → Cert
made_by_cases (PToken _ ∷ POther (PCert second) ∷ PToken _ ∷ PToken _ ∷ POther (PCert first) ∷ PToken _ ∷ PTerm term ∷ PToken word ∷ parts) = cert.Cases word term first second
made_by_cases parts = cert.Given no_token

abbrev pub made_steps : List (Part ScriptPart) → Cert
made_steps (PToken _ ∷ POther (PCert last) ∷ POther (PHaves haves) ∷ PToken _ ∷ PToken word ∷ parts) = cert.Steps word haves last
made_steps parts = cert.Given no_token

abbrev pub made_hole : List (Part ScriptPart) → Cert
made_hole (PToken token ∷ parts) = cert.Hole token
made_hole parts = cert.Given no_token

abbrev pub made_no_haves : List (Part ScriptPart) → List Have
made_no_haves parts = []

abbrev pub made_step_have : List (Part ScriptPart) → List Have
made_step_have (PToken _ ∷ POther (PCert proof) ∷ PToken _ ∷ PTerm term ∷ PToken word ∷ POther (PHaves haves) ∷ parts) = haves ++ (record { word = word; term = term; proof = proof }) ∷ []
made_step_have parts = []

abbrev pub made_hole_terms : List (Part ScriptPart) → Filling
made_hole_terms (PToken _ ∷ PToken hole ∷ PToken _ ∷ parts) = filling.Hole hole
made_hole_terms parts = filling.Hole no_token

abbrev pub made_filled : List (Part ScriptPart) → Filling
made_filled (POther (PTerms terms) ∷ parts) = filling.Terms terms
made_filled parts = filling.Hole no_token

abbrev pub made_filled_parens : List (Part ScriptPart) → Filling
made_filled_parens (PToken _ ∷ POther (PTerms terms) ∷ PToken _ ∷ parts) = filling.Terms terms
made_filled_parens parts = filling.Hole no_token

abbrev pub made_fold : List (Part ScriptPart) → Command
made_fold (POther (PFilling filling) ∷ PToken number ∷ POther (PInst inst) ∷ PToken word ∷ parts) = command.Fold word inst number filling
made_fold parts = command.Alone no_token

abbrev pub made_unfold : List (Part ScriptPart) → Command
made_unfold (POther (PNames names) ∷ POther (PInst inst) ∷ PToken word ∷ parts) = command.Unfold word inst names
made_unfold parts = command.Alone no_token

abbrev pub made_unfold_arms : List (Part ScriptPart) → Command
made_unfold_arms (POther (PArms arms) ∷ POther (PInst inst) ∷ PToken word ∷ parts) = command.UnfoldArms word inst arms
made_unfold_arms parts = command.Alone no_token

abbrev pub made_on_atom : List (Part ScriptPart) → Command
made_on_atom (POther (PAtom on) ∷ PToken word ∷ parts) = command.OnAtom word on
made_on_atom parts = command.Alone no_token

abbrev pub made_have : List (Part ScriptPart) → Command
made_have (POther (PCert proof) ∷ PToken _ ∷ PTerm term ∷ PToken word ∷ parts) = command.Have word term proof
made_have parts = command.Alone no_token

abbrev pub made_let : List (Part ScriptPart) → Command
made_let (PTerm term ∷ PToken _ ∷ PToken name ∷ PToken word ∷ parts) = command.Let word name term
made_let parts = command.Alone no_token

abbrev pub made_rewrite : List (Part ScriptPart) → Command
made_rewrite (PTerm new ∷ PToken _ ∷ PTerm old ∷ PToken word ∷ parts) = command.Rewrite word old new
made_rewrite parts = command.Alone no_token

abbrev pub made_absurd : List (Part ScriptPart) → Command
made_absurd (POther (PCert proof) ∷ PToken _ ∷ PToken word ∷ parts) = command.Absurd word proof
made_absurd parts = command.Alone no_token

abbrev pub made_clash : List (Part ScriptPart) → Command
made_clash (POther (PAtoms atoms) ∷ PToken word ∷ parts) = command.Clash word atoms
made_clash parts = command.Alone no_token

abbrev pub made_cases : List (Part ScriptPart) → Command
made_cases (POther (PBlock second) ∷ POther (PBlock first) ∷ PTerm term ∷ PToken word ∷ parts) = command.Cases word term first second
made_cases parts = command.Alone no_token

abbrev pub made_on_pair : List (Part ScriptPart) → Command
made_on_pair (POther (PAtom b) ∷ PToken _ ∷ POther (PAtom a) ∷ PToken word ∷ parts) = command.OnPair word a b
made_on_pair parts = command.Alone no_token

abbrev pub made_halves_new : List (Part ScriptPart) → Command
made_halves_new (PToken name ∷ PToken _ ∷ PTerm value ∷ PToken _ ∷ PToken word ∷ parts) = command.HalvesNew word value name
made_halves_new parts = command.Alone no_token

abbrev pub made_halves_set : List (Part ScriptPart) → Command
made_halves_set (PTerm value ∷ PTerm name ∷ PToken _ ∷ PToken word ∷ parts) = command.HalvesSet word name value
made_halves_set parts = command.Alone no_token

abbrev pub made_at : List (Part ScriptPart) → Command
made_at (PTerm term ∷ PToken _ ∷ POther (PAtom on) ∷ PToken word ∷ parts) = command.At word on term
made_at parts = command.Alone no_token

abbrev pub made_at_hole : List (Part ScriptPart) → Command
made_at_hole (PTerm term ∷ PToken _ ∷ PToken hole ∷ PToken word ∷ parts) = command.AtHole word hole term
made_at_hole parts = command.Alone no_token

abbrev pub made_map : List (Part ScriptPart) → Command
made_map (POther (PBlock block) ∷ PToken name ∷ PToken _ ∷ POther (PAtoms new) ∷ PToken _ ∷ POther (PAtoms old) ∷ PToken word ∷ parts) = command.Map word old new name block
made_map parts = command.Alone no_token

abbrev pub made_alone : List (Part ScriptPart) → Command
made_alone (PToken word ∷ parts) = command.Alone word
made_alone parts = command.Alone no_token

abbrev pub made_sim : List (Part ScriptPart) → Command
made_sim (POther (PTerms choices) ∷ PTerm call ∷ PToken word ∷ parts) = command.Sim word call choices
made_sim parts = command.Alone no_token

abbrev pub made_on_block : List (Part ScriptPart) → Command
made_on_block (POther (PBlock block) ∷ PToken word ∷ parts) = command.OnBlock word block
made_on_block parts = command.Alone no_token

abbrev pub made_boot : List (Part ScriptPart) → Command
made_boot (POther (PTerms choices) ∷ PToken word ∷ parts) = command.Boot word choices
made_boot parts = command.Alone no_token

abbrev pub made_guard : List (Part ScriptPart) → Command
made_guard (POther (PInst inst) ∷ PTerm mutex ∷ PToken word ∷ parts) = command.Guard word mutex inst
made_guard parts = command.Alone no_token

abbrev pub made_set_book : List (Part ScriptPart) → Command
made_set_book (PTerm value ∷ PToken _ ∷ PTerm at ∷ PToken name ∷ PToken word ∷ parts) = command.SetBook word name at value
made_set_book parts = command.Alone no_token

abbrev pub made_forget : List (Part ScriptPart) → Command
made_forget (PTerm value ∷ PToken _ ∷ PTerm at ∷ PTerm disk ∷ PToken word ∷ parts) = command.Forget word disk at value
made_forget parts = command.Alone no_token

abbrev pub made_step : List (Part ScriptPart) → Command
made_step (POther (PBlocks blocks) ∷ POther (PMaybeBlock during) ∷ POther (PNames names) ∷ POther (PTerms given) ∷ PToken word ∷ parts) = command.Step word given names during blocks
made_step parts = command.Alone no_token

abbrev pub made_to : List (Part ScriptPart) → Command
made_to (POther (PTerms terms) ∷ PToken cut ∷ PToken word ∷ parts) = command.To word cut terms
made_to parts = command.Alone no_token

abbrev pub made_merge : List (Part ScriptPart) → Command
made_merge (PTerm slice ∷ PToken _ ∷ POther (PAtom b) ∷ PToken _ ∷ POther (PAtom a) ∷ PToken word ∷ parts) = command.Merge word a b slice
made_merge parts = command.Alone no_token

abbrev pub made_void : List (Part ScriptPart) → Command
made_void (PToken item ∷ PToken word ∷ parts) = command.Void word item
made_void parts = command.Alone no_token

abbrev pub made_yield : List (Part ScriptPart) → Command
made_yield (PToken _ ∷ PTerm high ∷ PToken _ ∷ PTerm low ∷ PToken _ ∷ PTerm slice ∷ PToken _ ∷ PToken _ ∷ PToken _ ∷ POther (PAtom b) ∷ PToken _ ∷ POther (PAtom a) ∷ PToken word ∷ parts) = command.Yield word a b slice low high
made_yield parts = command.Alone no_token

abbrev pub made_word_names : List (Part ScriptPart) → List SeenToken
made_word_names (POther (PNames names) ∷ PToken _ ∷ parts) = names
made_word_names parts = []

abbrev pub made_no_during : List (Part ScriptPart) → Option Block
made_no_during parts = None

abbrev pub made_during : List (Part ScriptPart) → Option Block
made_during (POther (PBlock block) ∷ PToken _ ∷ parts) = Some block
made_during parts = None

abbrev pub made_no_blocks : List (Part ScriptPart) → List Block
made_no_blocks parts = []

abbrev pub made_next_block : List (Part ScriptPart) → List Block
made_next_block (POther (PBlock block) ∷ POther (PBlocks blocks) ∷ parts) = blocks ++ block ∷ []
made_next_block parts = []

abbrev pub made_no_arms : List (Part ScriptPart) → List Arm
made_no_arms parts = []

abbrev pub made_next_arm : List (Part ScriptPart) → List Arm
made_next_arm (POther (PArm arm) ∷ POther (PArms arms) ∷ parts) = arms ++ arm ∷ []
made_next_arm parts = []

abbrev pub made_arm : List (Part ScriptPart) → Arm
made_arm (PToken end ∷ POther (PCommands commands) ∷ POther (PNames names) ∷ PToken start ∷ parts) = record { names = names; block = record { start = start; commands = commands; end = end } }
made_arm parts = record { names = []; block = no_block }

abbrev pub made_no_commands : List (Part ScriptPart) → List Command
made_no_commands parts = []

abbrev pub made_command : List (Part ScriptPart) → List Command
made_command (PToken _ ∷ POther (PCommand next) ∷ POther (PCommands commands) ∷ parts) = commands ++ next ∷ []
made_command parts = []

abbrev pub made_last : List (Part ScriptPart) → List Command
made_last (POther (PEnding _) ∷ POther (PCommand last) ∷ POther (PCommands commands) ∷ parts) = commands ++ last ∷ []
made_last parts = []

abbrev pub made_closed : List (Part ScriptPart) → Option SeenToken
made_closed (PToken semi ∷ parts) = Some semi
made_closed parts = None

abbrev pub made_not_closed : List (Part ScriptPart) → Option SeenToken
made_not_closed parts = None

abbrev pub made_block : List (Part ScriptPart) → Block
made_block (PToken end ∷ POther (PCommands commands) ∷ PToken start ∷ parts) = record { start = start; commands = commands; end = end }
made_block parts = record { start = no_token; commands = []; end = no_token }

abbrev pub made_case : List (Part ScriptPart) → Case
made_case (POther (PItems items) ∷ POther (PPars vars) ∷ PToken _ ∷ parts) = record { vars = vars; items = items }
made_case parts = record { vars = []; items = [] }

abbrev pub made_no_cases : List (Part ScriptPart) → List Case
made_no_cases parts = []

abbrev pub made_next_case : List (Part ScriptPart) → List Case
made_next_case (POther (PCase next) ∷ POther (PCases cases) ∷ parts) = cases ++ next ∷ []
made_next_case parts = []

abbrev pub made_no_books : List (Part ScriptPart) → List Book
made_no_books parts = []

abbrev pub made_book : List (Part ScriptPart) → List Book
made_book (PToken _ ∷ PTerm first ∷ PToken _ ∷ PToken count ∷ PToken sort ∷ PToken _ ∷ PToken name ∷ PToken _ ∷ POther (PBooks books) ∷ parts) = books ++ (record { name = name; sort = sort; count = count; first = first }) ∷ []
made_book parts = []

abbrev pub made_no_preds : List (Part ScriptPart) → List Pred
made_no_preds parts = []

abbrev pub made_pred : List (Part ScriptPart) → List Pred
made_pred (PToken _ ∷ POther (PCases cases) ∷ PToken _ ∷ POther (PPars params) ∷ PToken name ∷ PToken _ ∷ POther (PPreds preds) ∷ parts) = preds ++ (record { name = name; params = params; cases = cases }) ∷ []
made_pred parts = []

abbrev pub made_no_cuts : List (Part ScriptPart) → List Cut
made_no_cuts parts = []

abbrev pub made_cut : List (Part ScriptPart) → List Cut
made_cut (POther (PBlock block) ∷ POther (PItems items) ∷ POther (PPars vars) ∷ PToken _ ∷ POther (PNames locals) ∷ PToken _ ∷ PToken mode ∷ PToken number ∷ PToken _ ∷ PToken name ∷ PToken _ ∷ POther (PCuts cuts) ∷ parts) = cuts ++ (record { name = name; number = number; mode = mode; locals = locals; vars = vars; items = items; block = block }) ∷ []
made_cut parts = []

abbrev pub made_no_ops : List (Part ScriptPart) → List Op
made_no_ops parts = []

abbrev pub made_op : List (Part ScriptPart) → List Op
made_op (POther (PCuts cuts) ∷ POther (PBlock block) ∷ PToken name ∷ PToken _ ∷ POther (POps ops) ∷ parts) = ops ++ (record { name = name; block = block; cuts = cuts }) ∷ []
made_op parts = []

abbrev pub made_no_procs : List (Part ScriptPart) → List Proc
made_no_procs parts = []

abbrev pub made_proc : List (Part ScriptPart) → List Proc
made_proc (POther (PCuts cuts) ∷ POther (PBlock block) ∷ POther (PItems post) ∷ POther (PNames results) ∷ PToken _ ∷ POther (PItems pre) ∷ PToken _ ∷ POther (PPars vars) ∷ PToken _ ∷ POther (PMaybeInst own) ∷ PToken name ∷ PToken _ ∷ POther (PProcs procs) ∷ parts) = procs ++ (record { name = name; own = own; vars = vars; pre = pre; results = results; post = post; block = block; cuts = cuts }) ∷ []
made_proc parts = []

abbrev pub made_script : List (Part ScriptPart) → Script
made_script (POther (PProcs procs) ∷ POther (POps ops) ∷ POther (PCuts cuts) ∷ POther (PBlock recover) ∷ PToken _ ∷ POther (PBlock init) ∷ PToken _ ∷ PToken _ ∷ PToken root ∷ PToken root_word ∷ PToken _ ∷ PToken crash ∷ PToken crash_word ∷ POther (PPreds preds) ∷ POther (PBooks books) ∷ parts) = record { books = books; preds = preds; crash_word = crash_word; crash = crash; root_word = root_word; root = root; init = init; recover = recover; cuts = cuts; ops = ops; procs = procs }
made_script parts = no_script

-- its own acts, from the first number behind the acts that it includes on
abbrev pub script_makings : List (Making (Part ScriptPart))
script_makings =
    record { takes = []; makes = λ parts. POther (PNames (made_no_names parts)) }
    ∷ record { takes = is_token ∷ is_names ∷ []; makes = λ parts. POther (PNames (made_name parts)) }
    ∷ record { takes = is_token ∷ is_token ∷ is_names ∷ []; makes = λ parts. POther (PNames (made_next_name parts)) }
    ∷ record { takes = is_token ∷ is_names ∷ is_token ∷ []; makes = λ parts. POther (PNames (made_in_names parts)) }
    ∷ record { takes = []; makes = λ parts. POther (PPars (made_no_pars parts)) }
    ∷ record { takes = is_token ∷ is_token ∷ is_token ∷ is_pars ∷ []; makes = λ parts. POther (PPars (made_par parts)) }
    ∷ record { takes = is_token ∷ is_token ∷ is_token ∷ is_token ∷ is_pars ∷ []; makes = λ parts. POther (PPars (made_next_par parts)) }
    ∷ record { takes = is_token ∷ is_pars ∷ is_token ∷ []; makes = λ parts. POther (PPars (made_in_pars parts)) }
    ∷ record { takes = []; makes = λ parts. POther (PTerms (made_no_terms parts)) }
    ∷ record { takes = is_term ∷ is_terms ∷ []; makes = λ parts. POther (PTerms (made_term parts)) }
    ∷ record { takes = is_term ∷ is_token ∷ is_terms ∷ []; makes = λ parts. POther (PTerms (made_next_term parts)) }
    ∷ record { takes = is_token ∷ is_terms ∷ is_token ∷ []; makes = λ parts. POther (PTerms (made_in_terms parts)) }
    ∷ record { takes = is_terms ∷ is_token ∷ []; makes = λ parts. POther (PTerms (made_word_terms parts)) }
    ∷ record { takes = []; makes = λ parts. POther (PMaybeTerm (made_no_term parts)) }
    ∷ record { takes = is_term ∷ is_token ∷ []; makes = λ parts. POther (PMaybeTerm (made_word_term parts)) }
    ∷ record { takes = is_terms ∷ is_token ∷ []; makes = λ parts. POther (PInst (made_inst parts)) }
    ∷ record { takes = []; makes = λ parts. POther (PMaybeInst (made_no_own parts)) }
    ∷ record { takes = is_inst ∷ is_token ∷ []; makes = λ parts. POther (PMaybeInst (made_own parts)) }
    ∷ record { takes = is_token ∷ is_term ∷ is_token ∷ is_token ∷ []; makes = λ parts. POther (PAtom (made_one_atom parts)) }
    ∷ record { takes = is_token ∷ is_term ∷ is_token ∷ is_term ∷ is_token ∷ is_token ∷ []; makes = λ parts. POther (PAtom (made_two_atom parts)) }
    ∷ record { takes = is_token ∷ is_term ∷ is_token ∷ is_term ∷ is_token ∷ is_term ∷ is_token ∷ is_token ∷ []; makes = λ parts. POther (PAtom (made_three_atom parts)) }
    ∷ record { takes = is_token ∷ is_term ∷ is_token ∷ is_token ∷ is_token ∷ is_term ∷ is_token ∷ is_token ∷ []; makes = λ parts. POther (PAtom (made_cell_atom parts)) }
    ∷ record { takes = is_token ∷ is_term ∷ is_token ∷ is_token ∷ is_token ∷ is_token ∷ []; makes = λ parts. POther (PAtom (made_field_atom parts)) }
    ∷ record { takes = is_token ∷ is_term ∷ is_token ∷ is_term ∷ is_token ∷ is_token ∷ is_token ∷ is_token ∷ []; makes = λ parts. POther (PAtom (made_book_atom parts)) }
    ∷ record { takes = is_token ∷ is_inst ∷ is_token ∷ is_term ∷ is_token ∷ is_token ∷ []; makes = λ parts. POther (PAtom (made_lock_atom parts)) }
    ∷ record { takes = is_token ∷ is_terms ∷ is_token ∷ is_token ∷ is_term ∷ is_token ∷ is_token ∷ []; makes = λ parts. POther (PAtom (made_token_atom parts)) }
    ∷ record { takes = is_token ∷ is_maybe_term ∷ is_term ∷ is_token ∷ is_token ∷ []; makes = λ parts. POther (PAtom (made_done_atom parts)) }
    ∷ record { takes = is_token ∷ is_atom ∷ is_token ∷ is_terms ∷ is_term ∷ is_token ∷ is_term ∷ is_token ∷ is_token ∷ is_token ∷ is_token ∷ []; makes = λ parts. POther (PAtom (made_each_atom parts)) }
    ∷ record { takes = is_inst ∷ []; makes = λ parts. POther (PAtom (made_inst_atom parts)) }
    ∷ record { takes = []; makes = λ parts. POther (PAtoms (made_no_atoms parts)) }
    ∷ record { takes = is_atom ∷ is_atoms ∷ []; makes = λ parts. POther (PAtoms (made_atom parts)) }
    ∷ record { takes = is_atom ∷ is_token ∷ is_atoms ∷ []; makes = λ parts. POther (PAtoms (made_next_atom parts)) }
    ∷ record { takes = is_token ∷ is_atoms ∷ is_token ∷ []; makes = λ parts. POther (PAtoms (made_in_atoms parts)) }
    ∷ record { takes = is_term ∷ []; makes = λ parts. POther (PItem (made_fact parts)) }
    ∷ record { takes = is_atom ∷ []; makes = λ parts. POther (PItem (made_held parts)) }
    ∷ record { takes = []; makes = λ parts. POther (PItems (made_no_items parts)) }
    ∷ record { takes = is_token ∷ is_item ∷ is_items ∷ []; makes = λ parts. POther (PItems (made_item parts)) }
    ∷ record { takes = is_token ∷ is_items ∷ is_token ∷ []; makes = λ parts. POther (PItems (made_in_items parts)) }
    ∷ record { takes = is_term ∷ is_token ∷ []; makes = λ parts. POther (PFactor (made_positive parts)) }
    ∷ record { takes = is_term ∷ is_token ∷ is_token ∷ []; makes = λ parts. POther (PFactor (made_negative parts)) }
    ∷ record { takes = []; makes = λ parts. POther (PFactors (made_no_factors parts)) }
    ∷ record { takes = is_factor ∷ is_factors ∷ []; makes = λ parts. POther (PFactors (made_factor parts)) }
    ∷ record { takes = is_factor ∷ is_token ∷ is_factors ∷ []; makes = λ parts. POther (PFactors (made_next_factor parts)) }
    ∷ record { takes = is_token ∷ []; makes = λ parts. POther (PCert (made_given parts)) }
    ∷ record { takes = is_terms ∷ is_token ∷ is_token ∷ []; makes = λ parts. POther (PCert (made_axiom parts)) }
    ∷ record { takes = is_maybe_term ∷ is_term ∷ is_token ∷ []; makes = λ parts. POther (PCert (made_subst parts)) }
    ∷ record { takes = is_term ∷ is_token ∷ []; makes = λ parts. POther (PCert (made_contra parts)) }
    ∷ record { takes = is_token ∷ is_factors ∷ is_token ∷ is_token ∷ is_terms ∷ is_token ∷ is_token ∷ []; makes = λ parts. POther (PCert (made_linear parts)) }
    ∷ record { takes = is_token ∷ is_cert ∷ is_token ∷ is_token ∷ is_cert ∷ is_token ∷ is_term ∷ is_token ∷ []; makes = λ parts. POther (PCert (made_by_cases parts)) }
    ∷ record { takes = is_token ∷ is_cert ∷ is_haves ∷ is_token ∷ is_token ∷ []; makes = λ parts. POther (PCert (made_steps parts)) }
    ∷ record { takes = is_token ∷ []; makes = λ parts. POther (PCert (made_hole parts)) }
    ∷ record { takes = []; makes = λ parts. POther (PHaves (made_no_haves parts)) }
    ∷ record { takes = is_token ∷ is_cert ∷ is_token ∷ is_term ∷ is_token ∷ is_haves ∷ []; makes = λ parts. POther (PHaves (made_step_have parts)) }
    ∷ record { takes = is_token ∷ is_token ∷ is_token ∷ []; makes = λ parts. POther (PFilling (made_hole_terms parts)) }
    ∷ record { takes = is_terms ∷ []; makes = λ parts. POther (PFilling (made_filled parts)) }
    ∷ record { takes = is_token ∷ is_terms ∷ is_token ∷ []; makes = λ parts. POther (PFilling (made_filled_parens parts)) }
    ∷ record { takes = is_filling ∷ is_token ∷ is_inst ∷ is_token ∷ []; makes = λ parts. POther (PCommand (made_fold parts)) }
    ∷ record { takes = is_names ∷ is_inst ∷ is_token ∷ []; makes = λ parts. POther (PCommand (made_unfold parts)) }
    ∷ record { takes = is_arms ∷ is_inst ∷ is_token ∷ []; makes = λ parts. POther (PCommand (made_unfold_arms parts)) }
    ∷ record { takes = is_atom ∷ is_token ∷ []; makes = λ parts. POther (PCommand (made_on_atom parts)) }
    ∷ record { takes = is_cert ∷ is_token ∷ is_term ∷ is_token ∷ []; makes = λ parts. POther (PCommand (made_have parts)) }
    ∷ record { takes = is_term ∷ is_token ∷ is_token ∷ is_token ∷ []; makes = λ parts. POther (PCommand (made_let parts)) }
    ∷ record { takes = is_term ∷ is_token ∷ is_term ∷ is_token ∷ []; makes = λ parts. POther (PCommand (made_rewrite parts)) }
    ∷ record { takes = is_cert ∷ is_token ∷ is_token ∷ []; makes = λ parts. POther (PCommand (made_absurd parts)) }
    ∷ record { takes = is_atoms ∷ is_token ∷ []; makes = λ parts. POther (PCommand (made_clash parts)) }
    ∷ record { takes = is_block ∷ is_block ∷ is_term ∷ is_token ∷ []; makes = λ parts. POther (PCommand (made_cases parts)) }
    ∷ record { takes = is_atom ∷ is_token ∷ is_atom ∷ is_token ∷ []; makes = λ parts. POther (PCommand (made_on_pair parts)) }
    ∷ record { takes = is_token ∷ is_token ∷ is_term ∷ is_token ∷ is_token ∷ []; makes = λ parts. POther (PCommand (made_halves_new parts)) }
    ∷ record { takes = is_term ∷ is_term ∷ is_token ∷ is_token ∷ []; makes = λ parts. POther (PCommand (made_halves_set parts)) }
    ∷ record { takes = is_term ∷ is_token ∷ is_atom ∷ is_token ∷ []; makes = λ parts. POther (PCommand (made_at parts)) }
    ∷ record { takes = is_term ∷ is_token ∷ is_token ∷ is_token ∷ []; makes = λ parts. POther (PCommand (made_at_hole parts)) }
    ∷ record { takes = is_block ∷ is_token ∷ is_token ∷ is_atoms ∷ is_token ∷ is_atoms ∷ is_token ∷ []; makes = λ parts. POther (PCommand (made_map parts)) }
    ∷ record { takes = is_token ∷ []; makes = λ parts. POther (PCommand (made_alone parts)) }
    ∷ record { takes = is_terms ∷ is_term ∷ is_token ∷ []; makes = λ parts. POther (PCommand (made_sim parts)) }
    ∷ record { takes = is_block ∷ is_token ∷ []; makes = λ parts. POther (PCommand (made_on_block parts)) }
    ∷ record { takes = is_terms ∷ is_token ∷ []; makes = λ parts. POther (PCommand (made_boot parts)) }
    ∷ record { takes = is_inst ∷ is_term ∷ is_token ∷ []; makes = λ parts. POther (PCommand (made_guard parts)) }
    ∷ record { takes = is_term ∷ is_token ∷ is_term ∷ is_token ∷ is_token ∷ []; makes = λ parts. POther (PCommand (made_set_book parts)) }
    ∷ record { takes = is_term ∷ is_token ∷ is_term ∷ is_term ∷ is_token ∷ []; makes = λ parts. POther (PCommand (made_forget parts)) }
    ∷ record { takes = is_blocks ∷ is_maybe_block ∷ is_names ∷ is_terms ∷ is_token ∷ []; makes = λ parts. POther (PCommand (made_step parts)) }
    ∷ record { takes = is_terms ∷ is_token ∷ is_token ∷ []; makes = λ parts. POther (PCommand (made_to parts)) }
    ∷ record { takes = is_term ∷ is_token ∷ is_atom ∷ is_token ∷ is_atom ∷ is_token ∷ []; makes = λ parts. POther (PCommand (made_merge parts)) }
    ∷ record { takes = is_token ∷ is_token ∷ []; makes = λ parts. POther (PCommand (made_void parts)) }
    ∷ record { takes = is_token ∷ is_term ∷ is_token ∷ is_term ∷ is_token ∷ is_term ∷ is_token ∷ is_token ∷ is_token ∷ is_atom ∷ is_token ∷ is_atom ∷ is_token ∷ []; makes = λ parts. POther (PCommand (made_yield parts)) }
    ∷ record { takes = is_names ∷ is_token ∷ []; makes = λ parts. POther (PNames (made_word_names parts)) }
    ∷ record { takes = []; makes = λ parts. POther (PMaybeBlock (made_no_during parts)) }
    ∷ record { takes = is_block ∷ is_token ∷ []; makes = λ parts. POther (PMaybeBlock (made_during parts)) }
    ∷ record { takes = []; makes = λ parts. POther (PBlocks (made_no_blocks parts)) }
    ∷ record { takes = is_block ∷ is_blocks ∷ []; makes = λ parts. POther (PBlocks (made_next_block parts)) }
    ∷ record { takes = []; makes = λ parts. POther (PArms (made_no_arms parts)) }
    ∷ record { takes = is_arm ∷ is_arms ∷ []; makes = λ parts. POther (PArms (made_next_arm parts)) }
    ∷ record { takes = is_token ∷ is_commands ∷ is_names ∷ is_token ∷ []; makes = λ parts. POther (PArm (made_arm parts)) }
    ∷ record { takes = []; makes = λ parts. POther (PCommands (made_no_commands parts)) }
    ∷ record { takes = is_token ∷ is_command ∷ is_commands ∷ []; makes = λ parts. POther (PCommands (made_command parts)) }
    ∷ record { takes = is_ending ∷ is_command ∷ is_commands ∷ []; makes = λ parts. POther (PCommands (made_last parts)) }
    ∷ record { takes = is_token ∷ []; makes = λ parts. POther (PEnding (made_closed parts)) }
    ∷ record { takes = []; makes = λ parts. POther (PEnding (made_not_closed parts)) }
    ∷ record { takes = is_token ∷ is_commands ∷ is_token ∷ []; makes = λ parts. POther (PBlock (made_block parts)) }
    ∷ record { takes = is_items ∷ is_pars ∷ is_token ∷ []; makes = λ parts. POther (PCase (made_case parts)) }
    ∷ record { takes = []; makes = λ parts. POther (PCases (made_no_cases parts)) }
    ∷ record { takes = is_case ∷ is_cases ∷ []; makes = λ parts. POther (PCases (made_next_case parts)) }
    ∷ record { takes = []; makes = λ parts. POther (PBooks (made_no_books parts)) }
    ∷ record { takes = is_token ∷ is_term ∷ is_token ∷ is_token ∷ is_token ∷ is_token ∷ is_token ∷ is_token ∷ is_books ∷ []; makes = λ parts. POther (PBooks (made_book parts)) }
    ∷ record { takes = []; makes = λ parts. POther (PPreds (made_no_preds parts)) }
    ∷ record { takes = is_token ∷ is_cases ∷ is_token ∷ is_pars ∷ is_token ∷ is_token ∷ is_preds ∷ []; makes = λ parts. POther (PPreds (made_pred parts)) }
    ∷ record { takes = []; makes = λ parts. POther (PCuts (made_no_cuts parts)) }
    ∷ record { takes = is_block ∷ is_items ∷ is_pars ∷ is_token ∷ is_names ∷ is_token ∷ is_token ∷ is_token ∷ is_token ∷ is_token ∷ is_token ∷ is_cuts ∷ []; makes = λ parts. POther (PCuts (made_cut parts)) }
    ∷ record { takes = []; makes = λ parts. POther (POps (made_no_ops parts)) }
    ∷ record { takes = is_cuts ∷ is_block ∷ is_token ∷ is_token ∷ is_ops ∷ []; makes = λ parts. POther (POps (made_op parts)) }
    ∷ record { takes = []; makes = λ parts. POther (PProcs (made_no_procs parts)) }
    ∷ record { takes = is_cuts ∷ is_block ∷ is_items ∷ is_names ∷ is_token ∷ is_items ∷ is_token ∷ is_pars ∷ is_token ∷ is_maybe_inst ∷ is_token ∷ is_token ∷ is_procs ∷ []; makes = λ parts. POther (PProcs (made_proc parts)) }
    ∷ record { takes = is_procs ∷ is_ops ∷ is_cuts ∷ is_block ∷ is_token ∷ is_block ∷ is_token ∷ is_token ∷ is_token ∷ is_token ∷ is_token ∷ is_token ∷ is_token ∷ is_preds ∷ is_books ∷ []; makes = λ parts. POther (PScript (made_script parts)) }
    ∷ []

abbrev pub script_own_acts : List ℕ → List (Reduction (Part ScriptPart))
script_own_acts text = map reduction_of script_makings

abbrev pub script_acts : List ℕ → List (Reduction (Part ScriptPart))
script_acts text = term_acts text ++ script_own_acts text

-- the parts that steps leave of tokens
abbrev pub script_built : List ℕ → List Step → List SeenToken → Option (List (Part ScriptPart))
script_built text steps tokens = run PToken (act_of (script_acts text)) steps tokens []

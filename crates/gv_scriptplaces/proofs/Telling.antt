-- What the nodes of a script make has the commands that begin behind its lists of commands.
use Rattle.std.proofs.Common.{◌≡◌, ℕ, zero, suc, ◌+◌, ◌-◌, Bool, true, false, List, [], ◌∷◌, ◌++◌, Option, Some, None, refl, sym, ap, subst, ◌∙◌, arith}
use Rattle.std.specs.Prelude.{length, drop, slice_get, map, if◌then◌else◌}
use Rattle.std.specs.Option.{option_and_then}
use Rattle.std.proofs.lemmas.Bool.{false≢true}
use Rattle.gv_grammar.specs.declared.levels.TheConstants.{FIRST_ACT}
use Rattle.gv_grammar.specs.Building.{Reduction, has_tops}
use Rattle.gv_grammar.proofs.Tests.{both}
use Rattle.gv_termread.specs.declared.generated.term_acts.Part.{Part}
use Rattle.gv_termread.specs.declared.generated.term_acts.Part.TheVariants.{Token as PToken, Term as PTerm}
use Rattle.gv_termread.specs.declared.placed.PlacedTerm.{PlacedTerm}
use Rattle.gv_termread.specs.declared.token.SeenToken.{SeenToken}
use Rattle.gv_termread.specs.Trees.{number, constant, variable, in_parens, maker, apply, unary, binary}
use Rattle.gv_termread.specs.TermActs.{is_token, is_term, made_binary, made_unary, made_number, made_constant, made_variable, made_paren, made_maker, made_of_one, made_of_two, made_of_three}
use Rattle.gv_scriptsyntax.specs.declared.generated.script_acts.ScriptPart.{ScriptPart}
use Rattle.gv_scriptsyntax.specs.declared.node.Node.{Node}
use Rattle.gv_scriptsyntax.specs.declared.node.Node.TheVariants.{Token, Made}
use Rattle.gv_scriptsyntax.specs.Making.{Making, reduction_of}
use Rattle.gv_scriptsyntax.specs.ScriptActs.{script_acts, script_makings}
use Rattle.gv_scriptsyntax.specs.Nodes.{Parts, built_on, done_by}
use Rattle.gv_scriptnumbers.specs.Numbers.{Starts}
use Rattle.gv_scriptplaces.specs.Begun.{is_list, begun_by, begun}
use Rattle.gv_scriptplaces.proofs.Stacks.{nil_right, joins, tops, told, fits, good, Kept, Keeps, ArePlain, plain_token, plain_term, plain_kept}
use Rattle.gv_scriptplaces.proofs.PlainActs.{no_names_keeps, name_keeps, next_name_keeps, in_names_keeps, no_pars_keeps, par_keeps, next_par_keeps, in_pars_keeps, no_terms_keeps, term_keeps, next_term_keeps, in_terms_keeps, word_terms_keeps, no_term_keeps, word_term_keeps, inst_keeps, no_own_keeps, own_keeps, one_atom_keeps, two_atom_keeps, three_atom_keeps, cell_atom_keeps, field_atom_keeps, book_atom_keeps, lock_atom_keeps, token_atom_keeps, done_atom_keeps, each_atom_keeps, inst_atom_keeps, no_atoms_keeps, atom_keeps, next_atom_keeps, in_atoms_keeps, fact_keeps, held_keeps, no_items_keeps, item_keeps, in_items_keeps, positive_keeps, negative_keeps, no_factors_keeps, factor_keeps, next_factor_keeps, given_keeps, axiom_keeps, subst_keeps, contra_keeps, linear_keeps, by_cases_keeps, steps_keeps, hole_keeps, no_haves_keeps, step_have_keeps, hole_terms_keeps, filled_keeps, filled_parens_keeps, word_names_keeps, closed_keeps, not_closed_keeps, case_keeps, no_cases_keeps, next_case_keeps, no_books_keeps, book_keeps, no_preds_keeps, pred_keeps}
use Rattle.gv_scriptplaces.proofs.CommandActs.{fold_keeps, unfold_keeps, unfold_arms_keeps, on_atom_keeps, have_keeps, let_keeps, rewrite_keeps, absurd_keeps, clash_keeps, cases_keeps, on_pair_keeps, halves_new_keeps, halves_set_keeps, at_keeps, at_hole_keeps, map_keeps, alone_keeps, sim_keeps, on_block_keeps, boot_keeps, guard_keeps, set_book_keeps, forget_keeps, step_keeps, to_keeps, merge_keeps, void_keeps, yield_keeps}
use Rattle.gv_scriptplaces.proofs.BlockActs.{no_during_keeps, during_keeps, no_blocks_keeps, next_block_keeps, no_arms_keeps, next_arm_keeps, arm_keeps, no_commands_keeps, command_keeps, last_keeps, block_keeps, no_cuts_keeps, cut_keeps, no_ops_keeps, op_keeps, no_procs_keeps, proc_keeps, script_keeps}

abbrev Keeping : ℕ → Reduction (Part ScriptPart) → Type 0
Keeping n act = (parts : Parts) → has_tops act.takes parts ≡ true → good (act.makes parts) ≡ true → Kept n parts (act.makes parts)

abbrev AllKeeping : ℕ → List (Reduction (Part ScriptPart)) → Type 0
AllKeeping n [] = Unit {0}
AllKeeping n (act ∷ acts) = Keeping n act × AllKeeping (suc n) acts

abbrev AllKeep : ℕ → List (Making (Part ScriptPart)) → Type 0
AllKeep n [] = Unit {0}
AllKeep n (m ∷ ms) = Keeps n m × AllKeep (suc n) ms

own_keep : AllKeep 14 script_makings
own_keep = (no_names_keeps, (name_keeps, (next_name_keeps, (in_names_keeps, (no_pars_keeps, (par_keeps, (next_par_keeps, (in_pars_keeps, (no_terms_keeps, (term_keeps, (next_term_keeps, (in_terms_keeps, (word_terms_keeps, (no_term_keeps, (word_term_keeps, (inst_keeps, (no_own_keeps, (own_keeps, (one_atom_keeps, (two_atom_keeps, (three_atom_keeps, (cell_atom_keeps, (field_atom_keeps, (book_atom_keeps, (lock_atom_keeps, (token_atom_keeps, (done_atom_keeps, (each_atom_keeps, (inst_atom_keeps, (no_atoms_keeps, (atom_keeps, (next_atom_keeps, (in_atoms_keeps, (fact_keeps, (held_keeps, (no_items_keeps, (item_keeps, (in_items_keeps, (positive_keeps, (negative_keeps, (no_factors_keeps, (factor_keeps, (next_factor_keeps, (given_keeps, (axiom_keeps, (subst_keeps, (contra_keeps, (linear_keeps, (by_cases_keeps, (steps_keeps, (hole_keeps, (no_haves_keeps, (step_have_keeps, (hole_terms_keeps, (filled_keeps, (filled_parens_keeps, (fold_keeps, (unfold_keeps, (unfold_arms_keeps, (on_atom_keeps, (have_keeps, (let_keeps, (rewrite_keeps, (absurd_keeps, (clash_keeps, (cases_keeps, (on_pair_keeps, (halves_new_keeps, (halves_set_keeps, (at_keeps, (at_hole_keeps, (map_keeps, (alone_keeps, (sim_keeps, (on_block_keeps, (boot_keeps, (guard_keeps, (set_book_keeps, (forget_keeps, (step_keeps, (to_keeps, (merge_keeps, (void_keeps, (yield_keeps, (word_names_keeps, (no_during_keeps, (during_keeps, (no_blocks_keeps, (next_block_keeps, (no_arms_keeps, (next_arm_keeps, (arm_keeps, (no_commands_keeps, (command_keeps, (last_keeps, (closed_keeps, (not_closed_keeps, (block_keeps, (case_keeps, (no_cases_keeps, (next_case_keeps, (no_books_keeps, (book_keeps, (no_preds_keeps, (pred_keeps, (no_cuts_keeps, (cut_keeps, (no_ops_keeps, (op_keeps, (no_procs_keeps, (proc_keeps, (script_keeps, tt))))))))))))))))))))))))))))))))))))))))))))))))))))))))))))))))))))))))))))))))))))))))))))))))))))))))))))))))

own_keeping : (n : ℕ) (ms : List (Making (Part ScriptPart))) → AllKeep n ms → AllKeeping n (map reduction_of ms)
own_keeping n [] all = tt
own_keeping n (m ∷ ms) all = (all.0, own_keeping (suc n) ms all.1)

-- ---- acts of terms

term_kept : (n : ℕ) (tests : List (Part ScriptPart → Bool)) → ArePlain tests → (parts : Parts) (term : PlacedTerm) → is_list n ≡ false → has_tops tests parts ≡ true
    → good (PTerm term ∷ drop (length tests) parts) ≡ true → Kept n parts (PTerm term ∷ drop (length tests) parts)
term_kept n tests plain parts term other h g =
    plain_kept n tests plain parts (PTerm term) (record { token = refl; plain = record { command = refl; commands = refl; nothing = refl } }) other h g

binary_keeping : Keeping 4 (record { takes = is_term ∷ is_token ∷ is_term ∷ []; makes = made_binary })
binary_keeping (PTerm b ∷ PToken s ∷ PTerm a ∷ rest) h g = term_kept 4 (is_term ∷ is_token ∷ is_term ∷ []) (plain_term, (plain_token, (plain_term, tt))) (PTerm b ∷ PToken s ∷ PTerm a ∷ rest) (binary s a b) refl h g
binary_keeping other h g = absurd (false≢true h)

unary_keeping : Keeping 5 (record { takes = is_term ∷ is_token ∷ []; makes = made_unary })
unary_keeping (PTerm b ∷ PToken s ∷ rest) h g = term_kept 5 (is_term ∷ is_token ∷ []) (plain_term, (plain_token, tt)) (PTerm b ∷ PToken s ∷ rest) (unary s b) refl h g
unary_keeping other h g = absurd (false≢true h)

number_keeping : Keeping 6 (record { takes = is_token ∷ []; makes = made_number })
number_keeping (PToken s ∷ rest) h g = term_kept 6 (is_token ∷ []) (plain_token, tt) (PToken s ∷ rest) (number s) refl h g
number_keeping other h g = absurd (false≢true h)

constant_keeping : Keeping 7 (record { takes = is_token ∷ []; makes = made_constant })
constant_keeping (PToken s ∷ rest) h g = term_kept 7 (is_token ∷ []) (plain_token, tt) (PToken s ∷ rest) (constant s) refl h g
constant_keeping other h g = absurd (false≢true h)

variable_keeping : (text : List ℕ) → Keeping 8 (record { takes = is_token ∷ []; makes = made_variable text })
variable_keeping text (PToken s ∷ rest) h g = term_kept 8 (is_token ∷ []) (plain_token, tt) (PToken s ∷ rest) (variable text s) refl h g
variable_keeping text other h g = absurd (false≢true h)

paren_keeping : Keeping 9 (record { takes = is_token ∷ is_term ∷ is_token ∷ []; makes = made_paren })
paren_keeping (PToken c ∷ PTerm a ∷ PToken o ∷ rest) h g = term_kept 9 (is_token ∷ is_term ∷ is_token ∷ []) (plain_token, (plain_term, (plain_token, tt))) (PToken c ∷ PTerm a ∷ PToken o ∷ rest) (in_parens o a) refl h g
paren_keeping other h g = absurd (false≢true h)

maker_keeping : Keeping 10 (record { takes = is_token ∷ is_term ∷ is_token ∷ is_token ∷ is_token ∷ is_token ∷ []; makes = made_maker })
maker_keeping (PToken c ∷ PTerm a ∷ PToken s ∷ PToken k ∷ PToken o ∷ PToken f ∷ rest) h g = term_kept 10 (is_token ∷ is_term ∷ is_token ∷ is_token ∷ is_token ∷ is_token ∷ []) (plain_token, (plain_term, (plain_token, (plain_token, (plain_token, (plain_token, tt)))))) (PToken c ∷ PTerm a ∷ PToken s ∷ PToken k ∷ PToken o ∷ PToken f ∷ rest) (maker f k a) refl h g
maker_keeping other h g = absurd (false≢true h)

of_one_keeping : Keeping 11 (record { takes = is_token ∷ is_term ∷ is_token ∷ is_token ∷ []; makes = made_of_one })
of_one_keeping (PToken c ∷ PTerm a ∷ PToken o ∷ PToken f ∷ rest) h g = term_kept 11 (is_token ∷ is_term ∷ is_token ∷ is_token ∷ []) (plain_token, (plain_term, (plain_token, (plain_token, tt)))) (PToken c ∷ PTerm a ∷ PToken o ∷ PToken f ∷ rest) (apply f (a ∷ [])) refl h g
of_one_keeping other h g = absurd (false≢true h)

of_two_keeping : Keeping 12 (record { takes = is_token ∷ is_term ∷ is_token ∷ is_term ∷ is_token ∷ is_token ∷ []; makes = made_of_two })
of_two_keeping (PToken c ∷ PTerm b ∷ PToken s ∷ PTerm a ∷ PToken o ∷ PToken f ∷ rest) h g = term_kept 12 (is_token ∷ is_term ∷ is_token ∷ is_term ∷ is_token ∷ is_token ∷ []) (plain_token, (plain_term, (plain_token, (plain_term, (plain_token, (plain_token, tt)))))) (PToken c ∷ PTerm b ∷ PToken s ∷ PTerm a ∷ PToken o ∷ PToken f ∷ rest) (apply f (a ∷ b ∷ [])) refl h g
of_two_keeping other h g = absurd (false≢true h)

of_three_keeping : Keeping 13 (record { takes = is_token ∷ is_term ∷ is_token ∷ is_term ∷ is_token ∷ is_term ∷ is_token ∷ is_token ∷ []; makes = made_of_three })
of_three_keeping (PToken c ∷ PTerm d ∷ PToken r ∷ PTerm b ∷ PToken s ∷ PTerm a ∷ PToken o ∷ PToken f ∷ rest) h g = term_kept 13 (is_token ∷ is_term ∷ is_token ∷ is_term ∷ is_token ∷ is_term ∷ is_token ∷ is_token ∷ []) (plain_token, (plain_term, (plain_token, (plain_term, (plain_token, (plain_term, (plain_token, (plain_token, tt)))))))) (PToken c ∷ PTerm d ∷ PToken r ∷ PTerm b ∷ PToken s ∷ PTerm a ∷ PToken o ∷ PToken f ∷ rest) (apply f (a ∷ b ∷ d ∷ [])) refl h g
of_three_keeping other h g = absurd (false≢true h)

all_keeping : (text : List ℕ) → AllKeeping 4 (script_acts text)
all_keeping text = (binary_keeping, (unary_keeping, (number_keeping, (constant_keeping, (variable_keeping text, (paren_keeping, (maker_keeping, (of_one_keeping, (of_two_keeping, (of_three_keeping, own_keeping 14 script_makings own_keep))))))))))

-- ---- all acts

abbrev act_with : Option (Reduction (Part ScriptPart)) → Parts → Option Parts
act_with found parts = if (elim found [ None ↦ false | Some act ↦ has_tops act.takes parts ]) then Some (elim found [ None ↦ parts | Some act ↦ act.makes parts ]) else None

found_kept : (n : ℕ) (acts : List (Reduction (Part ScriptPart))) → AllKeeping n acts → (i : ℕ) (parts made : Parts) → act_with (slice_get acts i) parts ≡ Some made
    → good made ≡ true → Kept (n + i) parts made
found_kept n [] all i parts made e g = absurd cc
found_kept n (act ∷ acts) all zero parts made e g = go (has_tops act.takes parts) refl e
  where
    go : (b : Bool) → has_tops act.takes parts ≡ b → (if b then Some (act.makes parts) else None) ≡ Some made → Kept (n + zero) parts made
    go false q e = absurd cc
    go true q e =
        let r : act.makes parts ≡ made = cc in
        let z : n ≡ n + zero = omega arith in
        subst (λ (k : ℕ). Kept k parts made) z
        (subst (λ (ps : Parts). good ps ≡ true → Kept n parts ps) r (all.0 parts q) g)
found_kept n (act ∷ acts) all (suc i) parts made e g =
    let z : suc n + i ≡ n + suc i = omega arith in
    subst (λ (k : ℕ). Kept k parts made) z (found_kept (suc n) acts all.1 i parts made e g)

-- the marks make no list, as the first act doesn't
same_list : (act : ℕ) → is_list (4 + (act - FIRST_ACT)) ≡ is_list act
same_list zero = refl
same_list (suc zero) = refl
same_list (suc (suc zero)) = refl
same_list (suc (suc (suc zero))) = refl
same_list (suc (suc (suc (suc n)))) = let z : 4 + (suc (suc (suc (suc n))) - FIRST_ACT) ≡ suc (suc (suc (suc n))) = omega arith in ap is_list z

done_kept : (text : List ℕ) (act : ℕ) (parts made : Parts) → done_by text act parts ≡ Some made → good made ≡ true → Kept act parts made
unfolding done_by
done_kept text act parts made h g =
    let k = found_kept 4 (script_acts text) (all_keeping text) (act - FIRST_ACT) parts made h g in
    record { good = k.good; same = k.same; list = k.list ∙ same_list act }

-- ---- nodes

-- what nodes make of parts tells what these did, and then the commands that the nodes begin
pub record Tells (parts final : Parts) (nodes : List Node) : Type 0 where
  pub good : good parts ≡ true
  pub same : told final ≡ told parts ++ begun (tops parts) nodes

token_told : (parts : Parts) (t : SeenToken) (nodes : List Node) → told (PToken t ∷ parts) ++ begun false nodes ≡ told parts ++ begun (tops parts) (Token t ∷ nodes)
token_told parts t nodes = joins (told parts) (begun_by (tops parts) (Token t)) (begun false nodes)

pub nodes_told : (text : List ℕ) (nodes : List Node) (parts final : Parts) → built_on text nodes parts ≡ Some final → good final ≡ true → Tells parts final nodes
nodes_told text [] parts final e g =
    let q : parts ≡ final = cc in
    record { good = ap good q ∙ g; same = ap told (sym q) ∙ sym (nil_right (told parts)) }
nodes_told text (Token t ∷ nodes) parts final e g =
    let r = nodes_told text nodes (PToken t ∷ parts) final e g in
    record { good = (both (fits (PToken t) (tops parts)) (good parts) r.good).1; same = r.same ∙ token_told parts t nodes }
nodes_told text (Made act from ∷ nodes) parts final e g = go (λ made. nodes_told text nodes made final) (done_by text act parts) refl e
  where
    go : ((made : Parts) → built_on text nodes made ≡ Some final → good final ≡ true → Tells made final nodes) → (found : Option Parts) → done_by text act parts ≡ found
        → option_and_then (λ ps. built_on text nodes ps) found ≡ Some final → Tells parts final (Made act from ∷ nodes)
    go rest None d h = absurd cc
    go rest (Some made) d h =
        let r = rest made h g in
        let k = done_kept text act parts made d r.good in
        record {
          good = k.good;
          same = r.same ∙ (ap (λ (ms : Starts). ms ++ begun (tops made) nodes) k.same ∙ ap (λ (b : Bool). told parts ++ begun b nodes) k.list);
        }

-- Lists that are empty: no act that adds an item makes their node.
use Rattle.std.proofs.Common.{◌≡◌, ℕ, ◌<◌, Bool, true, false, List, [], ◌∷◌, length, Option, Some, None, refl, sym, ap, ◌∙◌, arith}
use Rattle.std.specs.Prelude.{slice_get}
use Rattle.std.proofs.lemmas.Bool.{false≢true}
use Rattle.gv_grammar.specs.Derivation.{is_among}
use Rattle.gv_termread.specs.declared.generated.term_acts.Part.{Part}
use Rattle.gv_termread.specs.declared.generated.term_acts.Part.TheVariants.{Token as PToken, Other as POther}
use Rattle.gv_termread.specs.declared.placed.PlacedTerm.{PlacedTerm}
use Rattle.gv_termread.specs.declared.token.SeenToken.{SeenToken}
use Rattle.gv_termread.specs.TermActs.{is_token, is_term}
use Rattle.gv_scriptsyntax.specs.declared.generated.script_acts.ScriptPart.{ScriptPart}
use Rattle.gv_scriptsyntax.specs.declared.generated.script_acts.ScriptPart.TheVariants.{Case as PCase, Script as PScript, Names as PNames, Pars as PPars, Terms as PTerms, Cases as PCases, Books as PBooks, Preds as PPreds, Cuts as PCuts, Ops as POps, Procs as PProcs}
use Rattle.gv_scriptsyntax.specs.declared.tree.Par.{Par}
use Rattle.gv_scriptsyntax.specs.declared.tree.Case.{Case}
use Rattle.gv_scriptsyntax.specs.declared.tree.Book.{Book}
use Rattle.gv_scriptsyntax.specs.declared.tree.Pred.{Pred}
use Rattle.gv_scriptsyntax.specs.declared.tree.Cut.{Cut}
use Rattle.gv_scriptsyntax.specs.declared.tree.Op.{Op}
use Rattle.gv_scriptsyntax.specs.declared.tree.Proc.{Proc}
use Rattle.gv_scriptsyntax.specs.declared.tree.Script.{Script}
use Rattle.gv_scriptsyntax.specs.declared.node.Node.{Node}
use Rattle.gv_scriptsyntax.specs.declared.node.Node.TheVariants.{Token, Made}
use Rattle.gv_scriptsyntax.specs.ScriptActs.{script_makings, is_case, is_script, is_names, is_pars, is_terms, is_cases, is_books, is_preds, is_cuts, is_ops, is_procs}
use Rattle.gv_scriptsyntax.specs.Nodes.{Parts, IsPartAt}
use Rattle.gv_scriptsyntax.proofs.Nodes.{within_end}
use Rattle.gv_scriptnodes.specs.Places.{act_at, act_in}
use Rattle.gv_scriptnodes.proofs.Opened.{Opened, opened}
use Rattle.gv_scriptnodes.proofs.Made.{acts_of, made_among}
use Rattle.gv_scriptnodes.proofs.NameActs.{no_names_is, no_pars_is, no_terms_is}
use Rattle.gv_scriptnodes.proofs.DeclActs.{no_cases_is, no_books_is, no_preds_is}
use Rattle.gv_scriptnodes.proofs.BlockActs.{no_cuts_is, no_ops_is, no_procs_is}

-- the act of a node that is a part of a kind is one of those that make this kind
pub ends : (text : List ℕ) (nodes : List Node) (at : ℕ) (test : Part ScriptPart → Bool) (acts : List ℕ) → at < length nodes → ((parts : Parts) → acts_of test 14 script_makings parts ≡ acts)
    → (part : Part ScriptPart) → IsPartAt text nodes at part → is_term part ≡ false → is_token part ≡ false → test part ≡ true → is_among (act_at nodes at) acts ≡ true
ends text nodes at test acts less same part is not_term not_token passed =
    let w = within_end text nodes at less in
    go w.0 w.1 (opened text nodes at w.0 part w.1 is)
  where
    here : (node : Node) → slice_get nodes at ≡ Some node → act_at nodes at ≡ act_in node
    here node e = ap (λ (found : Option Node). elim found [ None ↦ 0 | Some n ↦ act_in n ]) e

    go : (node : Node) → slice_get nodes at ≡ Some node → Opened text nodes at node part → is_among (act_at nodes at) acts ≡ true
    go (Token t) e o =
        let d : Some (PToken t ∷ o.parts) ≡ Some (part ∷ o.rest) = o.done in
        let q : part ≡ PToken t = cc in
        absurd (false≢true (sym not_token ∙ ap is_token q))
    go (Made act from) e o =
        ap (λ (a : ℕ). is_among a acts) (here (Made act from) e) ∙ (sym (ap (λ (ns : List ℕ). is_among act ns) (same o.parts)) ∙ made_among text test act o.parts o.rest part not_term passed o.done)

names_act : (act : ℕ) → is_among act (14 ∷ 15 ∷ 16 ∷ 17 ∷ 98 ∷ []) ≡ true → is_among act (15 ∷ 16 ∷ 17 ∷ 98 ∷ []) ≡ false → act ≡ 14
names_act act h n = grind arith

pub names_end : (text : List ℕ) (nodes : List Node) (at : ℕ) → at < length nodes → (whole : List SeenToken) → IsPartAt text nodes at (POther (PNames whole)) → is_among (act_at nodes at) (15 ∷ 16 ∷ 17 ∷ 98 ∷ []) ≡ false → whole ≡ []
names_end text nodes at less whole is other =
    let h = ends text nodes at is_names (14 ∷ 15 ∷ 16 ∷ 17 ∷ 98 ∷ []) less (λ parts. refl) (POther (PNames whole)) is refl refl refl in
    no_names_is text nodes at (names_act (act_at nodes at) h other) whole is

pars_act : (act : ℕ) → is_among act (18 ∷ 19 ∷ 20 ∷ 21 ∷ []) ≡ true → is_among act (19 ∷ 20 ∷ 21 ∷ []) ≡ false → act ≡ 18
pars_act act h n = grind arith

pub pars_end : (text : List ℕ) (nodes : List Node) (at : ℕ) → at < length nodes → (whole : List Par) → IsPartAt text nodes at (POther (PPars whole)) → is_among (act_at nodes at) (19 ∷ 20 ∷ 21 ∷ []) ≡ false → whole ≡ []
pars_end text nodes at less whole is other =
    let h = ends text nodes at is_pars (18 ∷ 19 ∷ 20 ∷ 21 ∷ []) less (λ parts. refl) (POther (PPars whole)) is refl refl refl in
    no_pars_is text nodes at (pars_act (act_at nodes at) h other) whole is

terms_act : (act : ℕ) → is_among act (22 ∷ 23 ∷ 24 ∷ 25 ∷ 26 ∷ []) ≡ true → is_among act (23 ∷ 24 ∷ 25 ∷ 26 ∷ []) ≡ false → act ≡ 22
terms_act act h n = grind arith

pub terms_end : (text : List ℕ) (nodes : List Node) (at : ℕ) → at < length nodes → (whole : List PlacedTerm) → IsPartAt text nodes at (POther (PTerms whole)) → is_among (act_at nodes at) (23 ∷ 24 ∷ 25 ∷ 26 ∷ []) ≡ false → whole ≡ []
terms_end text nodes at less whole is other =
    let h = ends text nodes at is_terms (22 ∷ 23 ∷ 24 ∷ 25 ∷ 26 ∷ []) less (λ parts. refl) (POther (PTerms whole)) is refl refl refl in
    no_terms_is text nodes at (terms_act (act_at nodes at) h other) whole is

cases_act : (act : ℕ) → is_among act (113 ∷ 114 ∷ []) ≡ true → is_among act (114 ∷ []) ≡ false → act ≡ 113
cases_act act h n = grind arith

pub cases_end : (text : List ℕ) (nodes : List Node) (at : ℕ) → at < length nodes → (whole : List Case) → IsPartAt text nodes at (POther (PCases whole)) → is_among (act_at nodes at) (114 ∷ []) ≡ false → whole ≡ []
cases_end text nodes at less whole is other =
    let h = ends text nodes at is_cases (113 ∷ 114 ∷ []) less (λ parts. refl) (POther (PCases whole)) is refl refl refl in
    no_cases_is text nodes at (cases_act (act_at nodes at) h other) whole is

books_act : (act : ℕ) → is_among act (115 ∷ 116 ∷ []) ≡ true → is_among act (116 ∷ []) ≡ false → act ≡ 115
books_act act h n = grind arith

pub books_end : (text : List ℕ) (nodes : List Node) (at : ℕ) → at < length nodes → (whole : List Book) → IsPartAt text nodes at (POther (PBooks whole)) → is_among (act_at nodes at) (116 ∷ []) ≡ false → whole ≡ []
books_end text nodes at less whole is other =
    let h = ends text nodes at is_books (115 ∷ 116 ∷ []) less (λ parts. refl) (POther (PBooks whole)) is refl refl refl in
    no_books_is text nodes at (books_act (act_at nodes at) h other) whole is

preds_act : (act : ℕ) → is_among act (117 ∷ 118 ∷ []) ≡ true → is_among act (118 ∷ []) ≡ false → act ≡ 117
preds_act act h n = grind arith

pub preds_end : (text : List ℕ) (nodes : List Node) (at : ℕ) → at < length nodes → (whole : List Pred) → IsPartAt text nodes at (POther (PPreds whole)) → is_among (act_at nodes at) (118 ∷ []) ≡ false → whole ≡ []
preds_end text nodes at less whole is other =
    let h = ends text nodes at is_preds (117 ∷ 118 ∷ []) less (λ parts. refl) (POther (PPreds whole)) is refl refl refl in
    no_preds_is text nodes at (preds_act (act_at nodes at) h other) whole is

cuts_act : (act : ℕ) → is_among act (119 ∷ 120 ∷ []) ≡ true → is_among act (120 ∷ []) ≡ false → act ≡ 119
cuts_act act h n = grind arith

pub cuts_end : (text : List ℕ) (nodes : List Node) (at : ℕ) → at < length nodes → (whole : List Cut) → IsPartAt text nodes at (POther (PCuts whole)) → is_among (act_at nodes at) (120 ∷ []) ≡ false → whole ≡ []
cuts_end text nodes at less whole is other =
    let h = ends text nodes at is_cuts (119 ∷ 120 ∷ []) less (λ parts. refl) (POther (PCuts whole)) is refl refl refl in
    no_cuts_is text nodes at (cuts_act (act_at nodes at) h other) whole is

ops_act : (act : ℕ) → is_among act (121 ∷ 122 ∷ []) ≡ true → is_among act (122 ∷ []) ≡ false → act ≡ 121
ops_act act h n = grind arith

pub ops_end : (text : List ℕ) (nodes : List Node) (at : ℕ) → at < length nodes → (whole : List Op) → IsPartAt text nodes at (POther (POps whole)) → is_among (act_at nodes at) (122 ∷ []) ≡ false → whole ≡ []
ops_end text nodes at less whole is other =
    let h = ends text nodes at is_ops (121 ∷ 122 ∷ []) less (λ parts. refl) (POther (POps whole)) is refl refl refl in
    no_ops_is text nodes at (ops_act (act_at nodes at) h other) whole is

procs_act : (act : ℕ) → is_among act (123 ∷ 124 ∷ []) ≡ true → is_among act (124 ∷ []) ≡ false → act ≡ 123
procs_act act h n = grind arith

pub procs_end : (text : List ℕ) (nodes : List Node) (at : ℕ) → at < length nodes → (whole : List Proc) → IsPartAt text nodes at (POther (PProcs whole)) → is_among (act_at nodes at) (124 ∷ []) ≡ false → whole ≡ []
procs_end text nodes at less whole is other =
    let h = ends text nodes at is_procs (123 ∷ 124 ∷ []) less (λ parts. refl) (POther (PProcs whole)) is refl refl refl in
    no_procs_is text nodes at (procs_act (act_at nodes at) h other) whole is

-- ---- kinds that one act makes

one_act : (act only : ℕ) → is_among act (only ∷ []) ≡ true → act ≡ only
one_act act only h = grind arith

pub case_act : (text : List ℕ) (nodes : List Node) (at : ℕ) → at < length nodes → (case : Case) → IsPartAt text nodes at (POther (PCase case)) → act_at nodes at ≡ 112
case_act text nodes at less case is = one_act (act_at nodes at) 112 (ends text nodes at is_case (112 ∷ []) less (λ parts. refl) (POther (PCase case)) is refl refl refl)

pub script_act : (text : List ℕ) (nodes : List Node) (at : ℕ) → at < length nodes → (script : Script) → IsPartAt text nodes at (POther (PScript script)) → act_at nodes at ≡ 125
script_act text nodes at less script is = one_act (act_at nodes at) 125 (ends text nodes at is_script (125 ∷ []) less (λ parts. refl) (POther (PScript script)) is refl refl refl)

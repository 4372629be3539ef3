-- What each act names is what its part names beside the parts that it takes.
use Rattle.std.proofs.Common.{◌≡◌, ℕ, Bool, true, List, [], ◌∷◌, ◌++◌, length, Option, Some, None, refl, sym, ap, subst, ◌∙◌}
use Rattle.std.specs.Prelude.{drop, map}
use Rattle.std.proofs.lemmas.Bool.{false≢true}
use Rattle.gv_grammar.specs.Building.{has_tops}
use Rattle.gv_grammar.proofs.Tests.{both}
use Rattle.gv_termread.specs.declared.generated.term_acts.Part.{Part}
use Rattle.gv_termread.specs.declared.generated.term_acts.Part.TheVariants.{Token as PToken, Term as PTerm, Other as POther}
use Rattle.gv_termread.specs.declared.placed.PlacedTerm.{PlacedTerm}
use Rattle.gv_termread.specs.declared.token.SeenToken.{SeenToken}
use Rattle.gv_termread.specs.TermActs.{is_token, is_term}
use Rattle.gv_scriptsyntax.specs.declared.generated.script_acts.ScriptPart.{ScriptPart}
use Rattle.gv_scriptsyntax.specs.declared.generated.script_acts.ScriptPart.TheVariants.{Atom as PAtom, Atoms as PAtoms, Books as PBooks, Cert as PCert, Ending as PEnding, Factor as PFactor, Factors as PFactors, Filling as PFilling, Haves as PHaves, Inst as PInst, Item as PItem, Items as PItems, MaybeInst as PMaybeInst, MaybeTerm as PMaybeTerm, Names as PNames, Pars as PPars, Terms as PTerms}
use Rattle.gv_scriptsyntax.specs.declared.tree.Par.{Par}
use Rattle.gv_scriptsyntax.specs.declared.tree.Inst.{Inst}
use Rattle.gv_scriptsyntax.specs.declared.tree.Atom.{Atom}
use Rattle.gv_scriptsyntax.specs.declared.tree.Item.{Item}
use Rattle.gv_scriptsyntax.specs.declared.tree.Block.{Block}
use Rattle.gv_scriptsyntax.specs.declared.tree.Case.{Case}
use Rattle.gv_scriptsyntax.specs.declared.tree.Pred.{Pred}
use Rattle.gv_scriptsyntax.specs.declared.tree.Cut.{Cut}
use Rattle.gv_scriptsyntax.specs.declared.tree.Op.{Op}
use Rattle.gv_scriptsyntax.specs.declared.tree.Proc.{Proc}
use Rattle.gv_scriptsyntax.specs.declared.tree.Atom.TheVariants as atom
use Rattle.gv_scriptsyntax.specs.declared.tree.Item.TheVariants as item
use Rattle.gv_scriptsyntax.specs.Making.{Making}
use Rattle.gv_scriptsyntax.specs.ScriptActs.{is_names, is_pars, is_terms, is_maybe_term, is_inst, is_atom, is_atoms, is_item, is_items, is_factor, is_factors, is_cert, is_haves, is_filling, is_ending, is_books, made_no_names, made_name, made_next_name, made_in_names, made_no_pars, made_par, made_next_par, made_in_pars, made_no_terms, made_term, made_next_term, made_in_terms, made_word_terms, made_no_term, made_word_term, made_inst, made_no_own, made_own, made_one_atom, made_two_atom, made_three_atom, made_cell_atom, made_field_atom, made_book_atom, made_lock_atom, made_token_atom, made_done_atom, made_each_atom, made_inst_atom, made_no_atoms, made_atom, made_next_atom, made_in_atoms, made_fact, made_held, made_no_items, made_item, made_in_items, made_positive, made_negative, made_no_factors, made_factor, made_next_factor, made_given, made_axiom, made_subst, made_contra, made_linear, made_by_cases, made_steps, made_hole, made_no_haves, made_step_have, made_hole_terms, made_filled, made_filled_parens}
use Rattle.gv_scriptsyntax.specs.Nodes.{Parts}
use Rattle.gv_scriptnames.specs.Mentions.{Mentions, joined, by_each, in_atom, in_item}
use Rattle.gv_scriptnames.proofs.Constructs.{all_named}
use Rattle.gv_scriptnodes.specs.Gathered.{in_part, in_parts, named_by}
use Rattle.gv_scriptnodes.proofs.Tops.{top_token, top_term, top_terms, top_maybe_term, top_inst, top_atom, top_atoms, top_item, top_items}

-- ---- lists

pub nil_right : (xs : Mentions) → xs ++ [] ≡ xs
nil_right [] = refl
nil_right (x ∷ xs) = ap (λ (ys : Mentions). x ∷ ys) (nil_right xs)

pub joins : (xs ys zs : Mentions) → (xs ++ ys) ++ zs ≡ xs ++ (ys ++ zs)
joins [] ys zs = refl
joins (x ∷ xs) ys zs = ap (λ (ms : Mentions). x ∷ ms) (joins xs ys zs)

pub by_each_end : {T : Type 0} (of : T → Mentions) (xs : List T) (x : T) → by_each of (xs ++ x ∷ []) ≡ by_each of xs ++ of x
by_each_end of [] x = nil_right (of x)
by_each_end of (y ∷ xs) x = ap (λ (ms : Mentions). of y ++ ms) (by_each_end of xs x) ∙ sym (joins (of y) (by_each of xs) (of x))

pub joined_end : {T : Type 0} (of : T → Mentions) (xs : List T) (x : T) → joined (map of (xs ++ x ∷ [])) ≡ joined (map of xs) ++ of x
joined_end of [] x = nil_right (of x)
joined_end of (y ∷ xs) x = ap (λ (ms : Mentions). of y ++ ms) (joined_end of xs x) ∙ sym (joins (of y) (joined (map of xs)) (of x))

abbrev pub pred_of : SeenToken → List Par → List Case → Pred
pred_of name params cases = record { name = name; params = params; cases = cases }

abbrev pub cut_of : SeenToken → SeenToken → SeenToken → List SeenToken → List Par → List Item → Block → Cut
cut_of name number mode locals vars items block = record { name = name; number = number; mode = mode; locals = locals; vars = vars; items = items; block = block }

abbrev pub op_of : SeenToken → Block → List Cut → Op
op_of name block cuts = record { name = name; block = block; cuts = cuts }

abbrev pub proc_of : SeenToken → Option Inst → List Par → List Item → List SeenToken → List Item → Block → List Cut → Proc
proc_of name own vars pre results post block cuts = record { name = name; own = own; vars = vars; pre = pre; results = results; post = post; block = block; cuts = cuts }

-- ---- acts that name nothing, of parts that name nothing

abbrev pub IsPlain : (Part ScriptPart → Bool) → Type 0
IsPlain test = (p : Part ScriptPart) → test p ≡ true → in_part p ≡ []

abbrev pub ArePlain : List (Part ScriptPart → Bool) → Type 0
ArePlain [] = Unit {0}
ArePlain (test ∷ tests) = IsPlain test × ArePlain tests

pub plain_parts : (tests : List (Part ScriptPart → Bool)) → ArePlain tests → (parts : Parts) → has_tops tests parts ≡ true → in_parts (drop (length tests) parts) ≡ in_parts parts
plain_parts [] plain parts h = refl
plain_parts (test ∷ tests) plain [] h = absurd (false≢true h)
plain_parts (test ∷ tests) plain (p ∷ ps) h =
    let b = both (test p) (has_tops tests ps) h in
    plain_parts tests plain.1 ps b.1 ∙ sym (ap (λ (ms : Mentions). in_parts ps ++ ms) (plain.0 p b.0) ∙ nil_right (in_parts ps))

abbrev pub Adds : ℕ → Making (Part ScriptPart) → Type 0
Adds n m = (parts : Parts) → has_tops m.takes parts ≡ true → in_parts (m.makes parts ∷ drop (length m.takes) parts) ≡ in_parts parts ++ named_by n parts

pub plain_adds : (n : ℕ) (m : Making (Part ScriptPart)) → ArePlain m.takes → ((parts : Parts) → in_part (m.makes parts) ≡ []) → ((parts : Parts) → named_by n parts ≡ []) → Adds n m
plain_adds n m plain nothing unnamed parts h =
    ap (λ (ms : Mentions). in_parts (drop (length m.takes) parts) ++ ms) (nothing parts)
    ∙ (nil_right (in_parts (drop (length m.takes) parts)) ∙ (plain_parts m.takes plain parts h ∙ sym (ap (λ (ms : Mentions). in_parts parts ++ ms) (unnamed parts) ∙ nil_right (in_parts parts))))

pub plain_token : IsPlain is_token
plain_token (PToken x) h = refl
plain_token p h = absurd (false≢true h)

pub plain_term : IsPlain is_term
plain_term (PTerm x) h = refl
plain_term p h = absurd (false≢true h)

pub plain_names : IsPlain is_names
plain_names (POther (PNames x)) h = refl
plain_names p h = absurd (false≢true h)

pub plain_pars : IsPlain is_pars
plain_pars (POther (PPars x)) h = refl
plain_pars p h = absurd (false≢true h)

pub plain_terms : IsPlain is_terms
plain_terms (POther (PTerms x)) h = refl
plain_terms p h = absurd (false≢true h)

pub plain_maybe_term : IsPlain is_maybe_term
plain_maybe_term (POther (PMaybeTerm x)) h = refl
plain_maybe_term p h = absurd (false≢true h)

pub plain_factor : IsPlain is_factor
plain_factor (POther (PFactor x)) h = refl
plain_factor p h = absurd (false≢true h)

pub plain_factors : IsPlain is_factors
plain_factors (POther (PFactors x)) h = refl
plain_factors p h = absurd (false≢true h)

pub plain_cert : IsPlain is_cert
plain_cert (POther (PCert x)) h = refl
plain_cert p h = absurd (false≢true h)

pub plain_haves : IsPlain is_haves
plain_haves (POther (PHaves x)) h = refl
plain_haves p h = absurd (false≢true h)

pub plain_filling : IsPlain is_filling
plain_filling (POther (PFilling x)) h = refl
plain_filling p h = absurd (false≢true h)

pub plain_ending : IsPlain is_ending
plain_ending (POther (PEnding x)) h = refl
plain_ending p h = absurd (false≢true h)

pub plain_books : IsPlain is_books
plain_books (POther (PBooks x)) h = refl
plain_books p h = absurd (false≢true h)

-- ---- the other acts

pub no_names_adds : Adds 14 (record { takes = []; makes = λ parts. POther (PNames (made_no_names parts)) })
no_names_adds = plain_adds 14 (record { takes = []; makes = λ parts. POther (PNames (made_no_names parts)) }) tt (λ parts. refl) (λ parts. refl)

pub name_adds : Adds 15 (record { takes = is_token ∷ is_names ∷ []; makes = λ parts. POther (PNames (made_name parts)) })
name_adds = plain_adds 15 (record { takes = is_token ∷ is_names ∷ []; makes = λ parts. POther (PNames (made_name parts)) }) (plain_token, (plain_names, tt)) (λ parts. refl) (λ parts. refl)

pub next_name_adds : Adds 16 (record { takes = is_token ∷ is_token ∷ is_names ∷ []; makes = λ parts. POther (PNames (made_next_name parts)) })
next_name_adds = plain_adds 16 (record { takes = is_token ∷ is_token ∷ is_names ∷ []; makes = λ parts. POther (PNames (made_next_name parts)) }) (plain_token, (plain_token, (plain_names, tt))) (λ parts. refl) (λ parts. refl)

pub in_names_adds : Adds 17 (record { takes = is_token ∷ is_names ∷ is_token ∷ []; makes = λ parts. POther (PNames (made_in_names parts)) })
in_names_adds = plain_adds 17 (record { takes = is_token ∷ is_names ∷ is_token ∷ []; makes = λ parts. POther (PNames (made_in_names parts)) }) (plain_token, (plain_names, (plain_token, tt))) (λ parts. refl) (λ parts. refl)

pub no_pars_adds : Adds 18 (record { takes = []; makes = λ parts. POther (PPars (made_no_pars parts)) })
no_pars_adds = plain_adds 18 (record { takes = []; makes = λ parts. POther (PPars (made_no_pars parts)) }) tt (λ parts. refl) (λ parts. refl)

pub par_adds : Adds 19 (record { takes = is_token ∷ is_token ∷ is_token ∷ is_pars ∷ []; makes = λ parts. POther (PPars (made_par parts)) })
par_adds = plain_adds 19 (record { takes = is_token ∷ is_token ∷ is_token ∷ is_pars ∷ []; makes = λ parts. POther (PPars (made_par parts)) }) (plain_token, (plain_token, (plain_token, (plain_pars, tt)))) (λ parts. refl) (λ parts. refl)

pub next_par_adds : Adds 20 (record { takes = is_token ∷ is_token ∷ is_token ∷ is_token ∷ is_pars ∷ []; makes = λ parts. POther (PPars (made_next_par parts)) })
next_par_adds = plain_adds 20 (record { takes = is_token ∷ is_token ∷ is_token ∷ is_token ∷ is_pars ∷ []; makes = λ parts. POther (PPars (made_next_par parts)) }) (plain_token, (plain_token, (plain_token, (plain_token, (plain_pars, tt))))) (λ parts. refl) (λ parts. refl)

pub in_pars_adds : Adds 21 (record { takes = is_token ∷ is_pars ∷ is_token ∷ []; makes = λ parts. POther (PPars (made_in_pars parts)) })
in_pars_adds = plain_adds 21 (record { takes = is_token ∷ is_pars ∷ is_token ∷ []; makes = λ parts. POther (PPars (made_in_pars parts)) }) (plain_token, (plain_pars, (plain_token, tt))) (λ parts. refl) (λ parts. refl)

pub no_terms_adds : Adds 22 (record { takes = []; makes = λ parts. POther (PTerms (made_no_terms parts)) })
no_terms_adds = plain_adds 22 (record { takes = []; makes = λ parts. POther (PTerms (made_no_terms parts)) }) tt (λ parts. refl) (λ parts. refl)

pub term_adds : Adds 23 (record { takes = is_term ∷ is_terms ∷ []; makes = λ parts. POther (PTerms (made_term parts)) })
term_adds = plain_adds 23 (record { takes = is_term ∷ is_terms ∷ []; makes = λ parts. POther (PTerms (made_term parts)) }) (plain_term, (plain_terms, tt)) (λ parts. refl) (λ parts. refl)

pub next_term_adds : Adds 24 (record { takes = is_term ∷ is_token ∷ is_terms ∷ []; makes = λ parts. POther (PTerms (made_next_term parts)) })
next_term_adds = plain_adds 24 (record { takes = is_term ∷ is_token ∷ is_terms ∷ []; makes = λ parts. POther (PTerms (made_next_term parts)) }) (plain_term, (plain_token, (plain_terms, tt))) (λ parts. refl) (λ parts. refl)

pub in_terms_adds : Adds 25 (record { takes = is_token ∷ is_terms ∷ is_token ∷ []; makes = λ parts. POther (PTerms (made_in_terms parts)) })
in_terms_adds = plain_adds 25 (record { takes = is_token ∷ is_terms ∷ is_token ∷ []; makes = λ parts. POther (PTerms (made_in_terms parts)) }) (plain_token, (plain_terms, (plain_token, tt))) (λ parts. refl) (λ parts. refl)

pub word_terms_adds : Adds 26 (record { takes = is_terms ∷ is_token ∷ []; makes = λ parts. POther (PTerms (made_word_terms parts)) })
word_terms_adds = plain_adds 26 (record { takes = is_terms ∷ is_token ∷ []; makes = λ parts. POther (PTerms (made_word_terms parts)) }) (plain_terms, (plain_token, tt)) (λ parts. refl) (λ parts. refl)

pub no_term_adds : Adds 27 (record { takes = []; makes = λ parts. POther (PMaybeTerm (made_no_term parts)) })
no_term_adds = plain_adds 27 (record { takes = []; makes = λ parts. POther (PMaybeTerm (made_no_term parts)) }) tt (λ parts. refl) (λ parts. refl)

pub word_term_adds : Adds 28 (record { takes = is_term ∷ is_token ∷ []; makes = λ parts. POther (PMaybeTerm (made_word_term parts)) })
word_term_adds = plain_adds 28 (record { takes = is_term ∷ is_token ∷ []; makes = λ parts. POther (PMaybeTerm (made_word_term parts)) }) (plain_term, (plain_token, tt)) (λ parts. refl) (λ parts. refl)

pub inst_named : (terms : List PlacedTerm) (name : SeenToken) (rest : Parts) → in_parts (POther (PInst (record { name = name; terms = terms })) ∷ rest) ≡ in_parts (POther (PTerms terms) ∷ PToken name ∷ rest) ++ named_by 29 (POther (PTerms terms) ∷ PToken name ∷ rest)
inst_named terms name rest = simp (nil_right) refl

pub inst_adds : Adds 29 (record { takes = is_terms ∷ is_token ∷ []; makes = λ parts. POther (PInst (made_inst parts)) })
inst_adds parts h =
    top_terms (is_token ∷ []) parts h (λ x0 r0 e0 h0.
    top_token ([]) r0 h0 (λ x1 r1 e1 h1.
    subst (λ (ps : Parts). in_parts (POther (PInst (made_inst ps)) ∷ drop 2 ps) ≡ in_parts ps ++ named_by 29 ps) (sym (e0 ∙ ap (λ (ps : Parts). POther (PTerms x0) ∷ ps) (e1))) (inst_named x0 x1 r1)))

pub no_own_named : (rest : Parts) → in_parts (POther (PMaybeInst None) ∷ rest) ≡ in_parts (rest) ++ named_by 30 (rest)
no_own_named rest = simp (nil_right) refl

pub no_own_adds : Adds 30 (record { takes = []; makes = λ parts. POther (PMaybeInst (made_no_own parts)) })
no_own_adds parts h = no_own_named parts

pub own_named : (inst : Inst) (x1 : SeenToken) (rest : Parts) → in_parts (POther (PMaybeInst (Some inst)) ∷ rest) ≡ in_parts (POther (PInst inst) ∷ PToken x1 ∷ rest) ++ named_by 31 (POther (PInst inst) ∷ PToken x1 ∷ rest)
own_named inst x1 rest = simp (nil_right) refl

pub own_adds : Adds 31 (record { takes = is_inst ∷ is_token ∷ []; makes = λ parts. POther (PMaybeInst (made_own parts)) })
own_adds parts h =
    top_inst (is_token ∷ []) parts h (λ x0 r0 e0 h0.
    top_token ([]) r0 h0 (λ x1 r1 e1 h1.
    subst (λ (ps : Parts). in_parts (POther (PMaybeInst (made_own ps)) ∷ drop 2 ps) ≡ in_parts ps ++ named_by 31 ps) (sym (e0 ∙ ap (λ (ps : Parts). POther (PInst x0) ∷ ps) (e1))) (own_named x0 x1 r1)))

pub one_atom_named : (x0 : SeenToken) (a : PlacedTerm) (x2 : SeenToken) (word : SeenToken) (rest : Parts) → in_parts (POther (PAtom (atom.One word a)) ∷ rest) ≡ in_parts (PToken x0 ∷ PTerm a ∷ PToken x2 ∷ PToken word ∷ rest) ++ named_by 32 (PToken x0 ∷ PTerm a ∷ PToken x2 ∷ PToken word ∷ rest)
one_atom_named x0 a x2 word rest = rw (all_named.one_atom word a) (simp (nil_right) refl)

pub one_atom_adds : Adds 32 (record { takes = is_token ∷ is_term ∷ is_token ∷ is_token ∷ []; makes = λ parts. POther (PAtom (made_one_atom parts)) })
one_atom_adds parts h =
    top_token (is_term ∷ is_token ∷ is_token ∷ []) parts h (λ x0 r0 e0 h0.
    top_term (is_token ∷ is_token ∷ []) r0 h0 (λ x1 r1 e1 h1.
    top_token (is_token ∷ []) r1 h1 (λ x2 r2 e2 h2.
    top_token ([]) r2 h2 (λ x3 r3 e3 h3.
    subst (λ (ps : Parts). in_parts (POther (PAtom (made_one_atom ps)) ∷ drop 4 ps) ≡ in_parts ps ++ named_by 32 ps) (sym (e0 ∙ ap (λ (ps : Parts). PToken x0 ∷ ps) (e1 ∙ ap (λ (ps : Parts). PTerm x1 ∷ ps) (e2 ∙ ap (λ (ps : Parts). PToken x2 ∷ ps) (e3))))) (one_atom_named x0 x1 x2 x3 r3)))))

pub two_atom_named : (x0 : SeenToken) (b : PlacedTerm) (x2 : SeenToken) (a : PlacedTerm) (x4 : SeenToken) (word : SeenToken) (rest : Parts) → in_parts (POther (PAtom (atom.Two word a b)) ∷ rest) ≡ in_parts (PToken x0 ∷ PTerm b ∷ PToken x2 ∷ PTerm a ∷ PToken x4 ∷ PToken word ∷ rest) ++ named_by 33 (PToken x0 ∷ PTerm b ∷ PToken x2 ∷ PTerm a ∷ PToken x4 ∷ PToken word ∷ rest)
two_atom_named x0 b x2 a x4 word rest = rw (all_named.two_atom word a b) (simp (nil_right) refl)

pub two_atom_adds : Adds 33 (record { takes = is_token ∷ is_term ∷ is_token ∷ is_term ∷ is_token ∷ is_token ∷ []; makes = λ parts. POther (PAtom (made_two_atom parts)) })
two_atom_adds parts h =
    top_token (is_term ∷ is_token ∷ is_term ∷ is_token ∷ is_token ∷ []) parts h (λ x0 r0 e0 h0.
    top_term (is_token ∷ is_term ∷ is_token ∷ is_token ∷ []) r0 h0 (λ x1 r1 e1 h1.
    top_token (is_term ∷ is_token ∷ is_token ∷ []) r1 h1 (λ x2 r2 e2 h2.
    top_term (is_token ∷ is_token ∷ []) r2 h2 (λ x3 r3 e3 h3.
    top_token (is_token ∷ []) r3 h3 (λ x4 r4 e4 h4.
    top_token ([]) r4 h4 (λ x5 r5 e5 h5.
    subst (λ (ps : Parts). in_parts (POther (PAtom (made_two_atom ps)) ∷ drop 6 ps) ≡ in_parts ps ++ named_by 33 ps) (sym (e0 ∙ ap (λ (ps : Parts). PToken x0 ∷ ps) (e1 ∙ ap (λ (ps : Parts). PTerm x1 ∷ ps) (e2 ∙ ap (λ (ps : Parts). PToken x2 ∷ ps) (e3 ∙ ap (λ (ps : Parts). PTerm x3 ∷ ps) (e4 ∙ ap (λ (ps : Parts). PToken x4 ∷ ps) (e5))))))) (two_atom_named x0 x1 x2 x3 x4 x5 r5)))))))

pub three_atom_named : (x0 : SeenToken) (c : PlacedTerm) (x2 : SeenToken) (b : PlacedTerm) (x4 : SeenToken) (a : PlacedTerm) (x6 : SeenToken) (word : SeenToken) (rest : Parts) → in_parts (POther (PAtom (atom.Three word a b c)) ∷ rest) ≡ in_parts (PToken x0 ∷ PTerm c ∷ PToken x2 ∷ PTerm b ∷ PToken x4 ∷ PTerm a ∷ PToken x6 ∷ PToken word ∷ rest) ++ named_by 34 (PToken x0 ∷ PTerm c ∷ PToken x2 ∷ PTerm b ∷ PToken x4 ∷ PTerm a ∷ PToken x6 ∷ PToken word ∷ rest)
three_atom_named x0 c x2 b x4 a x6 word rest = rw (all_named.three_atom word a b c) (simp (nil_right) refl)

pub three_atom_adds : Adds 34 (record { takes = is_token ∷ is_term ∷ is_token ∷ is_term ∷ is_token ∷ is_term ∷ is_token ∷ is_token ∷ []; makes = λ parts. POther (PAtom (made_three_atom parts)) })
three_atom_adds parts h =
    top_token (is_term ∷ is_token ∷ is_term ∷ is_token ∷ is_term ∷ is_token ∷ is_token ∷ []) parts h (λ x0 r0 e0 h0.
    top_term (is_token ∷ is_term ∷ is_token ∷ is_term ∷ is_token ∷ is_token ∷ []) r0 h0 (λ x1 r1 e1 h1.
    top_token (is_term ∷ is_token ∷ is_term ∷ is_token ∷ is_token ∷ []) r1 h1 (λ x2 r2 e2 h2.
    top_term (is_token ∷ is_term ∷ is_token ∷ is_token ∷ []) r2 h2 (λ x3 r3 e3 h3.
    top_token (is_term ∷ is_token ∷ is_token ∷ []) r3 h3 (λ x4 r4 e4 h4.
    top_term (is_token ∷ is_token ∷ []) r4 h4 (λ x5 r5 e5 h5.
    top_token (is_token ∷ []) r5 h5 (λ x6 r6 e6 h6.
    top_token ([]) r6 h6 (λ x7 r7 e7 h7.
    subst (λ (ps : Parts). in_parts (POther (PAtom (made_three_atom ps)) ∷ drop 8 ps) ≡ in_parts ps ++ named_by 34 ps) (sym (e0 ∙ ap (λ (ps : Parts). PToken x0 ∷ ps) (e1 ∙ ap (λ (ps : Parts). PTerm x1 ∷ ps) (e2 ∙ ap (λ (ps : Parts). PToken x2 ∷ ps) (e3 ∙ ap (λ (ps : Parts). PTerm x3 ∷ ps) (e4 ∙ ap (λ (ps : Parts). PToken x4 ∷ ps) (e5 ∙ ap (λ (ps : Parts). PTerm x5 ∷ ps) (e6 ∙ ap (λ (ps : Parts). PToken x6 ∷ ps) (e7))))))))) (three_atom_named x0 x1 x2 x3 x4 x5 x6 x7 r7)))))))))

pub cell_atom_named : (x0 : SeenToken) (b : PlacedTerm) (x2 : SeenToken) (name : SeenToken) (x4 : SeenToken) (a : PlacedTerm) (x6 : SeenToken) (word : SeenToken) (rest : Parts) → in_parts (POther (PAtom (atom.Cell word a name b)) ∷ rest) ≡ in_parts (PToken x0 ∷ PTerm b ∷ PToken x2 ∷ PToken name ∷ PToken x4 ∷ PTerm a ∷ PToken x6 ∷ PToken word ∷ rest) ++ named_by 35 (PToken x0 ∷ PTerm b ∷ PToken x2 ∷ PToken name ∷ PToken x4 ∷ PTerm a ∷ PToken x6 ∷ PToken word ∷ rest)
cell_atom_named x0 b x2 name x4 a x6 word rest = rw (all_named.cell_atom word a name b) (simp (nil_right) refl)

pub cell_atom_adds : Adds 35 (record { takes = is_token ∷ is_term ∷ is_token ∷ is_token ∷ is_token ∷ is_term ∷ is_token ∷ is_token ∷ []; makes = λ parts. POther (PAtom (made_cell_atom parts)) })
cell_atom_adds parts h =
    top_token (is_term ∷ is_token ∷ is_token ∷ is_token ∷ is_term ∷ is_token ∷ is_token ∷ []) parts h (λ x0 r0 e0 h0.
    top_term (is_token ∷ is_token ∷ is_token ∷ is_term ∷ is_token ∷ is_token ∷ []) r0 h0 (λ x1 r1 e1 h1.
    top_token (is_token ∷ is_token ∷ is_term ∷ is_token ∷ is_token ∷ []) r1 h1 (λ x2 r2 e2 h2.
    top_token (is_token ∷ is_term ∷ is_token ∷ is_token ∷ []) r2 h2 (λ x3 r3 e3 h3.
    top_token (is_term ∷ is_token ∷ is_token ∷ []) r3 h3 (λ x4 r4 e4 h4.
    top_term (is_token ∷ is_token ∷ []) r4 h4 (λ x5 r5 e5 h5.
    top_token (is_token ∷ []) r5 h5 (λ x6 r6 e6 h6.
    top_token ([]) r6 h6 (λ x7 r7 e7 h7.
    subst (λ (ps : Parts). in_parts (POther (PAtom (made_cell_atom ps)) ∷ drop 8 ps) ≡ in_parts ps ++ named_by 35 ps) (sym (e0 ∙ ap (λ (ps : Parts). PToken x0 ∷ ps) (e1 ∙ ap (λ (ps : Parts). PTerm x1 ∷ ps) (e2 ∙ ap (λ (ps : Parts). PToken x2 ∷ ps) (e3 ∙ ap (λ (ps : Parts). PToken x3 ∷ ps) (e4 ∙ ap (λ (ps : Parts). PToken x4 ∷ ps) (e5 ∙ ap (λ (ps : Parts). PTerm x5 ∷ ps) (e6 ∙ ap (λ (ps : Parts). PToken x6 ∷ ps) (e7))))))))) (cell_atom_named x0 x1 x2 x3 x4 x5 x6 x7 r7)))))))))

pub field_atom_named : (x0 : SeenToken) (a : PlacedTerm) (x2 : SeenToken) (name : SeenToken) (x4 : SeenToken) (word : SeenToken) (rest : Parts) → in_parts (POther (PAtom (atom.Field word name a)) ∷ rest) ≡ in_parts (PToken x0 ∷ PTerm a ∷ PToken x2 ∷ PToken name ∷ PToken x4 ∷ PToken word ∷ rest) ++ named_by 36 (PToken x0 ∷ PTerm a ∷ PToken x2 ∷ PToken name ∷ PToken x4 ∷ PToken word ∷ rest)
field_atom_named x0 a x2 name x4 word rest = rw (all_named.field_atom word name a) (simp (nil_right) refl)

pub field_atom_adds : Adds 36 (record { takes = is_token ∷ is_term ∷ is_token ∷ is_token ∷ is_token ∷ is_token ∷ []; makes = λ parts. POther (PAtom (made_field_atom parts)) })
field_atom_adds parts h =
    top_token (is_term ∷ is_token ∷ is_token ∷ is_token ∷ is_token ∷ []) parts h (λ x0 r0 e0 h0.
    top_term (is_token ∷ is_token ∷ is_token ∷ is_token ∷ []) r0 h0 (λ x1 r1 e1 h1.
    top_token (is_token ∷ is_token ∷ is_token ∷ []) r1 h1 (λ x2 r2 e2 h2.
    top_token (is_token ∷ is_token ∷ []) r2 h2 (λ x3 r3 e3 h3.
    top_token (is_token ∷ []) r3 h3 (λ x4 r4 e4 h4.
    top_token ([]) r4 h4 (λ x5 r5 e5 h5.
    subst (λ (ps : Parts). in_parts (POther (PAtom (made_field_atom ps)) ∷ drop 6 ps) ≡ in_parts ps ++ named_by 36 ps) (sym (e0 ∙ ap (λ (ps : Parts). PToken x0 ∷ ps) (e1 ∙ ap (λ (ps : Parts). PTerm x1 ∷ ps) (e2 ∙ ap (λ (ps : Parts). PToken x2 ∷ ps) (e3 ∙ ap (λ (ps : Parts). PToken x3 ∷ ps) (e4 ∙ ap (λ (ps : Parts). PToken x4 ∷ ps) (e5))))))) (field_atom_named x0 x1 x2 x3 x4 x5 r5)))))))

pub book_atom_named : (x0 : SeenToken) (b : PlacedTerm) (x2 : SeenToken) (a : PlacedTerm) (x4 : SeenToken) (name : SeenToken) (x6 : SeenToken) (word : SeenToken) (rest : Parts) → in_parts (POther (PAtom (atom.Book word name a b)) ∷ rest) ≡ in_parts (PToken x0 ∷ PTerm b ∷ PToken x2 ∷ PTerm a ∷ PToken x4 ∷ PToken name ∷ PToken x6 ∷ PToken word ∷ rest) ++ named_by 37 (PToken x0 ∷ PTerm b ∷ PToken x2 ∷ PTerm a ∷ PToken x4 ∷ PToken name ∷ PToken x6 ∷ PToken word ∷ rest)
book_atom_named x0 b x2 a x4 name x6 word rest = rw (all_named.book_atom word name a b) (simp (nil_right) refl)

pub book_atom_adds : Adds 37 (record { takes = is_token ∷ is_term ∷ is_token ∷ is_term ∷ is_token ∷ is_token ∷ is_token ∷ is_token ∷ []; makes = λ parts. POther (PAtom (made_book_atom parts)) })
book_atom_adds parts h =
    top_token (is_term ∷ is_token ∷ is_term ∷ is_token ∷ is_token ∷ is_token ∷ is_token ∷ []) parts h (λ x0 r0 e0 h0.
    top_term (is_token ∷ is_term ∷ is_token ∷ is_token ∷ is_token ∷ is_token ∷ []) r0 h0 (λ x1 r1 e1 h1.
    top_token (is_term ∷ is_token ∷ is_token ∷ is_token ∷ is_token ∷ []) r1 h1 (λ x2 r2 e2 h2.
    top_term (is_token ∷ is_token ∷ is_token ∷ is_token ∷ []) r2 h2 (λ x3 r3 e3 h3.
    top_token (is_token ∷ is_token ∷ is_token ∷ []) r3 h3 (λ x4 r4 e4 h4.
    top_token (is_token ∷ is_token ∷ []) r4 h4 (λ x5 r5 e5 h5.
    top_token (is_token ∷ []) r5 h5 (λ x6 r6 e6 h6.
    top_token ([]) r6 h6 (λ x7 r7 e7 h7.
    subst (λ (ps : Parts). in_parts (POther (PAtom (made_book_atom ps)) ∷ drop 8 ps) ≡ in_parts ps ++ named_by 37 ps) (sym (e0 ∙ ap (λ (ps : Parts). PToken x0 ∷ ps) (e1 ∙ ap (λ (ps : Parts). PTerm x1 ∷ ps) (e2 ∙ ap (λ (ps : Parts). PToken x2 ∷ ps) (e3 ∙ ap (λ (ps : Parts). PTerm x3 ∷ ps) (e4 ∙ ap (λ (ps : Parts). PToken x4 ∷ ps) (e5 ∙ ap (λ (ps : Parts). PToken x5 ∷ ps) (e6 ∙ ap (λ (ps : Parts). PToken x6 ∷ ps) (e7))))))))) (book_atom_named x0 x1 x2 x3 x4 x5 x6 x7 r7)))))))))

pub lock_atom_named : (x0 : SeenToken) (inst : Inst) (x2 : SeenToken) (a : PlacedTerm) (x4 : SeenToken) (word : SeenToken) (rest : Parts) → in_parts (POther (PAtom (atom.Lock word a inst)) ∷ rest) ≡ in_parts (PToken x0 ∷ POther (PInst inst) ∷ PToken x2 ∷ PTerm a ∷ PToken x4 ∷ PToken word ∷ rest) ++ named_by 38 (PToken x0 ∷ POther (PInst inst) ∷ PToken x2 ∷ PTerm a ∷ PToken x4 ∷ PToken word ∷ rest)
lock_atom_named x0 inst x2 a x4 word rest = rw (all_named.lock_atom word a inst) (simp (nil_right) refl)

pub lock_atom_adds : Adds 38 (record { takes = is_token ∷ is_inst ∷ is_token ∷ is_term ∷ is_token ∷ is_token ∷ []; makes = λ parts. POther (PAtom (made_lock_atom parts)) })
lock_atom_adds parts h =
    top_token (is_inst ∷ is_token ∷ is_term ∷ is_token ∷ is_token ∷ []) parts h (λ x0 r0 e0 h0.
    top_inst (is_token ∷ is_term ∷ is_token ∷ is_token ∷ []) r0 h0 (λ x1 r1 e1 h1.
    top_token (is_term ∷ is_token ∷ is_token ∷ []) r1 h1 (λ x2 r2 e2 h2.
    top_term (is_token ∷ is_token ∷ []) r2 h2 (λ x3 r3 e3 h3.
    top_token (is_token ∷ []) r3 h3 (λ x4 r4 e4 h4.
    top_token ([]) r4 h4 (λ x5 r5 e5 h5.
    subst (λ (ps : Parts). in_parts (POther (PAtom (made_lock_atom ps)) ∷ drop 6 ps) ≡ in_parts ps ++ named_by 38 ps) (sym (e0 ∙ ap (λ (ps : Parts). PToken x0 ∷ ps) (e1 ∙ ap (λ (ps : Parts). POther (PInst x1) ∷ ps) (e2 ∙ ap (λ (ps : Parts). PToken x2 ∷ ps) (e3 ∙ ap (λ (ps : Parts). PTerm x3 ∷ ps) (e4 ∙ ap (λ (ps : Parts). PToken x4 ∷ ps) (e5))))))) (lock_atom_named x0 x1 x2 x3 x4 x5 r5)))))))

pub token_atom_named : (x0 : SeenToken) (terms : List PlacedTerm) (name : SeenToken) (x3 : SeenToken) (a : PlacedTerm) (x5 : SeenToken) (word : SeenToken) (rest : Parts) → in_parts (POther (PAtom (atom.Token word a name terms)) ∷ rest) ≡ in_parts (PToken x0 ∷ POther (PTerms terms) ∷ PToken name ∷ PToken x3 ∷ PTerm a ∷ PToken x5 ∷ PToken word ∷ rest) ++ named_by 39 (PToken x0 ∷ POther (PTerms terms) ∷ PToken name ∷ PToken x3 ∷ PTerm a ∷ PToken x5 ∷ PToken word ∷ rest)
token_atom_named x0 terms name x3 a x5 word rest = rw (all_named.token_atom word a name terms) (simp (nil_right) refl)

pub token_atom_adds : Adds 39 (record { takes = is_token ∷ is_terms ∷ is_token ∷ is_token ∷ is_term ∷ is_token ∷ is_token ∷ []; makes = λ parts. POther (PAtom (made_token_atom parts)) })
token_atom_adds parts h =
    top_token (is_terms ∷ is_token ∷ is_token ∷ is_term ∷ is_token ∷ is_token ∷ []) parts h (λ x0 r0 e0 h0.
    top_terms (is_token ∷ is_token ∷ is_term ∷ is_token ∷ is_token ∷ []) r0 h0 (λ x1 r1 e1 h1.
    top_token (is_token ∷ is_term ∷ is_token ∷ is_token ∷ []) r1 h1 (λ x2 r2 e2 h2.
    top_token (is_term ∷ is_token ∷ is_token ∷ []) r2 h2 (λ x3 r3 e3 h3.
    top_term (is_token ∷ is_token ∷ []) r3 h3 (λ x4 r4 e4 h4.
    top_token (is_token ∷ []) r4 h4 (λ x5 r5 e5 h5.
    top_token ([]) r5 h5 (λ x6 r6 e6 h6.
    subst (λ (ps : Parts). in_parts (POther (PAtom (made_token_atom ps)) ∷ drop 7 ps) ≡ in_parts ps ++ named_by 39 ps) (sym (e0 ∙ ap (λ (ps : Parts). PToken x0 ∷ ps) (e1 ∙ ap (λ (ps : Parts). POther (PTerms x1) ∷ ps) (e2 ∙ ap (λ (ps : Parts). PToken x2 ∷ ps) (e3 ∙ ap (λ (ps : Parts). PToken x3 ∷ ps) (e4 ∙ ap (λ (ps : Parts). PTerm x4 ∷ ps) (e5 ∙ ap (λ (ps : Parts). PToken x5 ∷ ps) (e6)))))))) (token_atom_named x0 x1 x2 x3 x4 x5 x6 r6))))))))

pub done_atom_named : (x0 : SeenToken) (reply : Option PlacedTerm) (a : PlacedTerm) (x3 : SeenToken) (word : SeenToken) (rest : Parts) → in_parts (POther (PAtom (atom.Done word a reply)) ∷ rest) ≡ in_parts (PToken x0 ∷ POther (PMaybeTerm reply) ∷ PTerm a ∷ PToken x3 ∷ PToken word ∷ rest) ++ named_by 40 (PToken x0 ∷ POther (PMaybeTerm reply) ∷ PTerm a ∷ PToken x3 ∷ PToken word ∷ rest)
done_atom_named x0 reply a x3 word rest = rw (all_named.done_atom word a reply) (simp (nil_right) refl)

pub done_atom_adds : Adds 40 (record { takes = is_token ∷ is_maybe_term ∷ is_term ∷ is_token ∷ is_token ∷ []; makes = λ parts. POther (PAtom (made_done_atom parts)) })
done_atom_adds parts h =
    top_token (is_maybe_term ∷ is_term ∷ is_token ∷ is_token ∷ []) parts h (λ x0 r0 e0 h0.
    top_maybe_term (is_term ∷ is_token ∷ is_token ∷ []) r0 h0 (λ x1 r1 e1 h1.
    top_term (is_token ∷ is_token ∷ []) r1 h1 (λ x2 r2 e2 h2.
    top_token (is_token ∷ []) r2 h2 (λ x3 r3 e3 h3.
    top_token ([]) r3 h3 (λ x4 r4 e4 h4.
    subst (λ (ps : Parts). in_parts (POther (PAtom (made_done_atom ps)) ∷ drop 5 ps) ≡ in_parts ps ++ named_by 40 ps) (sym (e0 ∙ ap (λ (ps : Parts). PToken x0 ∷ ps) (e1 ∙ ap (λ (ps : Parts). POther (PMaybeTerm x1) ∷ ps) (e2 ∙ ap (λ (ps : Parts). PTerm x2 ∷ ps) (e3 ∙ ap (λ (ps : Parts). PToken x3 ∷ ps) (e4)))))) (done_atom_named x0 x1 x2 x3 x4 r4))))))

pub each_atom_named : (x0 : SeenToken) (body : Atom) (x2 : SeenToken) (except : List PlacedTerm) (high : PlacedTerm) (x5 : SeenToken) (low : PlacedTerm) (x7 : SeenToken) (name : SeenToken) (x9 : SeenToken) (word : SeenToken) (rest : Parts) → in_parts (POther (PAtom (atom.Each word name low high except body)) ∷ rest) ≡ in_parts (PToken x0 ∷ POther (PAtom body) ∷ PToken x2 ∷ POther (PTerms except) ∷ PTerm high ∷ PToken x5 ∷ PTerm low ∷ PToken x7 ∷ PToken name ∷ PToken x9 ∷ PToken word ∷ rest) ++ named_by 41 (PToken x0 ∷ POther (PAtom body) ∷ PToken x2 ∷ POther (PTerms except) ∷ PTerm high ∷ PToken x5 ∷ PTerm low ∷ PToken x7 ∷ PToken name ∷ PToken x9 ∷ PToken word ∷ rest)
each_atom_named x0 body x2 except high x5 low x7 name x9 word rest = rw (all_named.each_atom word name low high except body) (simp (nil_right, joins) refl)

pub each_atom_adds : Adds 41 (record { takes = is_token ∷ is_atom ∷ is_token ∷ is_terms ∷ is_term ∷ is_token ∷ is_term ∷ is_token ∷ is_token ∷ is_token ∷ is_token ∷ []; makes = λ parts. POther (PAtom (made_each_atom parts)) })
each_atom_adds parts h =
    top_token (is_atom ∷ is_token ∷ is_terms ∷ is_term ∷ is_token ∷ is_term ∷ is_token ∷ is_token ∷ is_token ∷ is_token ∷ []) parts h (λ x0 r0 e0 h0.
    top_atom (is_token ∷ is_terms ∷ is_term ∷ is_token ∷ is_term ∷ is_token ∷ is_token ∷ is_token ∷ is_token ∷ []) r0 h0 (λ x1 r1 e1 h1.
    top_token (is_terms ∷ is_term ∷ is_token ∷ is_term ∷ is_token ∷ is_token ∷ is_token ∷ is_token ∷ []) r1 h1 (λ x2 r2 e2 h2.
    top_terms (is_term ∷ is_token ∷ is_term ∷ is_token ∷ is_token ∷ is_token ∷ is_token ∷ []) r2 h2 (λ x3 r3 e3 h3.
    top_term (is_token ∷ is_term ∷ is_token ∷ is_token ∷ is_token ∷ is_token ∷ []) r3 h3 (λ x4 r4 e4 h4.
    top_token (is_term ∷ is_token ∷ is_token ∷ is_token ∷ is_token ∷ []) r4 h4 (λ x5 r5 e5 h5.
    top_term (is_token ∷ is_token ∷ is_token ∷ is_token ∷ []) r5 h5 (λ x6 r6 e6 h6.
    top_token (is_token ∷ is_token ∷ is_token ∷ []) r6 h6 (λ x7 r7 e7 h7.
    top_token (is_token ∷ is_token ∷ []) r7 h7 (λ x8 r8 e8 h8.
    top_token (is_token ∷ []) r8 h8 (λ x9 r9 e9 h9.
    top_token ([]) r9 h9 (λ x10 r10 e10 h10.
    subst (λ (ps : Parts). in_parts (POther (PAtom (made_each_atom ps)) ∷ drop 11 ps) ≡ in_parts ps ++ named_by 41 ps) (sym (e0 ∙ ap (λ (ps : Parts). PToken x0 ∷ ps) (e1 ∙ ap (λ (ps : Parts). POther (PAtom x1) ∷ ps) (e2 ∙ ap (λ (ps : Parts). PToken x2 ∷ ps) (e3 ∙ ap (λ (ps : Parts). POther (PTerms x3) ∷ ps) (e4 ∙ ap (λ (ps : Parts). PTerm x4 ∷ ps) (e5 ∙ ap (λ (ps : Parts). PToken x5 ∷ ps) (e6 ∙ ap (λ (ps : Parts). PTerm x6 ∷ ps) (e7 ∙ ap (λ (ps : Parts). PToken x7 ∷ ps) (e8 ∙ ap (λ (ps : Parts). PToken x8 ∷ ps) (e9 ∙ ap (λ (ps : Parts). PToken x9 ∷ ps) (e10)))))))))))) (each_atom_named x0 x1 x2 x3 x4 x5 x6 x7 x8 x9 x10 r10))))))))))))

pub inst_atom_named : (inst : Inst) (rest : Parts) → in_parts (POther (PAtom (atom.Instance inst)) ∷ rest) ≡ in_parts (POther (PInst inst) ∷ rest) ++ named_by 42 (POther (PInst inst) ∷ rest)
inst_atom_named inst rest = rw (all_named.instance_atom inst) (simp (nil_right) refl)

pub inst_atom_adds : Adds 42 (record { takes = is_inst ∷ []; makes = λ parts. POther (PAtom (made_inst_atom parts)) })
inst_atom_adds parts h =
    top_inst ([]) parts h (λ x0 r0 e0 h0.
    subst (λ (ps : Parts). in_parts (POther (PAtom (made_inst_atom ps)) ∷ drop 1 ps) ≡ in_parts ps ++ named_by 42 ps) (sym (e0)) (inst_atom_named x0 r0))

pub no_atoms_named : (rest : Parts) → in_parts (POther (PAtoms []) ∷ rest) ≡ in_parts (rest) ++ named_by 43 (rest)
no_atoms_named rest = simp (nil_right) refl

pub no_atoms_adds : Adds 43 (record { takes = []; makes = λ parts. POther (PAtoms (made_no_atoms parts)) })
no_atoms_adds parts h = no_atoms_named parts

pub atom_named : (next : Atom) (atoms : List Atom) (rest : Parts) → in_parts (POther (PAtoms (atoms ++ next ∷ [])) ∷ rest) ≡ in_parts (POther (PAtom next) ∷ POther (PAtoms atoms) ∷ rest) ++ named_by 44 (POther (PAtom next) ∷ POther (PAtoms atoms) ∷ rest)
atom_named next atoms rest = rw (by_each_end in_atom atoms next) (simp (nil_right, joins) refl)

pub atom_adds : Adds 44 (record { takes = is_atom ∷ is_atoms ∷ []; makes = λ parts. POther (PAtoms (made_atom parts)) })
atom_adds parts h =
    top_atom (is_atoms ∷ []) parts h (λ x0 r0 e0 h0.
    top_atoms ([]) r0 h0 (λ x1 r1 e1 h1.
    subst (λ (ps : Parts). in_parts (POther (PAtoms (made_atom ps)) ∷ drop 2 ps) ≡ in_parts ps ++ named_by 44 ps) (sym (e0 ∙ ap (λ (ps : Parts). POther (PAtom x0) ∷ ps) (e1))) (atom_named x0 x1 r1)))

pub next_atom_named : (next : Atom) (x1 : SeenToken) (atoms : List Atom) (rest : Parts) → in_parts (POther (PAtoms (atoms ++ next ∷ [])) ∷ rest) ≡ in_parts (POther (PAtom next) ∷ PToken x1 ∷ POther (PAtoms atoms) ∷ rest) ++ named_by 45 (POther (PAtom next) ∷ PToken x1 ∷ POther (PAtoms atoms) ∷ rest)
next_atom_named next x1 atoms rest = rw (by_each_end in_atom atoms next) (simp (nil_right, joins) refl)

pub next_atom_adds : Adds 45 (record { takes = is_atom ∷ is_token ∷ is_atoms ∷ []; makes = λ parts. POther (PAtoms (made_next_atom parts)) })
next_atom_adds parts h =
    top_atom (is_token ∷ is_atoms ∷ []) parts h (λ x0 r0 e0 h0.
    top_token (is_atoms ∷ []) r0 h0 (λ x1 r1 e1 h1.
    top_atoms ([]) r1 h1 (λ x2 r2 e2 h2.
    subst (λ (ps : Parts). in_parts (POther (PAtoms (made_next_atom ps)) ∷ drop 3 ps) ≡ in_parts ps ++ named_by 45 ps) (sym (e0 ∙ ap (λ (ps : Parts). POther (PAtom x0) ∷ ps) (e1 ∙ ap (λ (ps : Parts). PToken x1 ∷ ps) (e2)))) (next_atom_named x0 x1 x2 r2))))

pub in_atoms_named : (x0 : SeenToken) (atoms : List Atom) (x2 : SeenToken) (rest : Parts) → in_parts (POther (PAtoms atoms) ∷ rest) ≡ in_parts (PToken x0 ∷ POther (PAtoms atoms) ∷ PToken x2 ∷ rest) ++ named_by 46 (PToken x0 ∷ POther (PAtoms atoms) ∷ PToken x2 ∷ rest)
in_atoms_named x0 atoms x2 rest = simp (nil_right) refl

pub in_atoms_adds : Adds 46 (record { takes = is_token ∷ is_atoms ∷ is_token ∷ []; makes = λ parts. POther (PAtoms (made_in_atoms parts)) })
in_atoms_adds parts h =
    top_token (is_atoms ∷ is_token ∷ []) parts h (λ x0 r0 e0 h0.
    top_atoms (is_token ∷ []) r0 h0 (λ x1 r1 e1 h1.
    top_token ([]) r1 h1 (λ x2 r2 e2 h2.
    subst (λ (ps : Parts). in_parts (POther (PAtoms (made_in_atoms ps)) ∷ drop 3 ps) ≡ in_parts ps ++ named_by 46 ps) (sym (e0 ∙ ap (λ (ps : Parts). PToken x0 ∷ ps) (e1 ∙ ap (λ (ps : Parts). POther (PAtoms x1) ∷ ps) (e2)))) (in_atoms_named x0 x1 x2 r2))))

pub fact_named : (term : PlacedTerm) (rest : Parts) → in_parts (POther (PItem (item.Fact term)) ∷ rest) ≡ in_parts (PTerm term ∷ rest) ++ named_by 47 (PTerm term ∷ rest)
fact_named term rest = simp (nil_right) refl

pub fact_adds : Adds 47 (record { takes = is_term ∷ []; makes = λ parts. POther (PItem (made_fact parts)) })
fact_adds parts h =
    top_term ([]) parts h (λ x0 r0 e0 h0.
    subst (λ (ps : Parts). in_parts (POther (PItem (made_fact ps)) ∷ drop 1 ps) ≡ in_parts ps ++ named_by 47 ps) (sym (e0)) (fact_named x0 r0))

pub held_named : (held : Atom) (rest : Parts) → in_parts (POther (PItem (item.Held held)) ∷ rest) ≡ in_parts (POther (PAtom held) ∷ rest) ++ named_by 48 (POther (PAtom held) ∷ rest)
held_named held rest = simp (nil_right) refl

pub held_adds : Adds 48 (record { takes = is_atom ∷ []; makes = λ parts. POther (PItem (made_held parts)) })
held_adds parts h =
    top_atom ([]) parts h (λ x0 r0 e0 h0.
    subst (λ (ps : Parts). in_parts (POther (PItem (made_held ps)) ∷ drop 1 ps) ≡ in_parts ps ++ named_by 48 ps) (sym (e0)) (held_named x0 r0))

pub no_items_named : (rest : Parts) → in_parts (POther (PItems []) ∷ rest) ≡ in_parts (rest) ++ named_by 49 (rest)
no_items_named rest = simp (nil_right) refl

pub no_items_adds : Adds 49 (record { takes = []; makes = λ parts. POther (PItems (made_no_items parts)) })
no_items_adds parts h = no_items_named parts

pub item_named : (x0 : SeenToken) (next : Item) (items : List Item) (rest : Parts) → in_parts (POther (PItems (items ++ next ∷ [])) ∷ rest) ≡ in_parts (PToken x0 ∷ POther (PItem next) ∷ POther (PItems items) ∷ rest) ++ named_by 50 (PToken x0 ∷ POther (PItem next) ∷ POther (PItems items) ∷ rest)
item_named x0 next items rest = rw (by_each_end in_item items next) (simp (nil_right, joins) refl)

pub item_adds : Adds 50 (record { takes = is_token ∷ is_item ∷ is_items ∷ []; makes = λ parts. POther (PItems (made_item parts)) })
item_adds parts h =
    top_token (is_item ∷ is_items ∷ []) parts h (λ x0 r0 e0 h0.
    top_item (is_items ∷ []) r0 h0 (λ x1 r1 e1 h1.
    top_items ([]) r1 h1 (λ x2 r2 e2 h2.
    subst (λ (ps : Parts). in_parts (POther (PItems (made_item ps)) ∷ drop 3 ps) ≡ in_parts ps ++ named_by 50 ps) (sym (e0 ∙ ap (λ (ps : Parts). PToken x0 ∷ ps) (e1 ∙ ap (λ (ps : Parts). POther (PItem x1) ∷ ps) (e2)))) (item_named x0 x1 x2 r2))))

pub in_items_named : (x0 : SeenToken) (items : List Item) (x2 : SeenToken) (rest : Parts) → in_parts (POther (PItems items) ∷ rest) ≡ in_parts (PToken x0 ∷ POther (PItems items) ∷ PToken x2 ∷ rest) ++ named_by 51 (PToken x0 ∷ POther (PItems items) ∷ PToken x2 ∷ rest)
in_items_named x0 items x2 rest = simp (nil_right) refl

pub in_items_adds : Adds 51 (record { takes = is_token ∷ is_items ∷ is_token ∷ []; makes = λ parts. POther (PItems (made_in_items parts)) })
in_items_adds parts h =
    top_token (is_items ∷ is_token ∷ []) parts h (λ x0 r0 e0 h0.
    top_items (is_token ∷ []) r0 h0 (λ x1 r1 e1 h1.
    top_token ([]) r1 h1 (λ x2 r2 e2 h2.
    subst (λ (ps : Parts). in_parts (POther (PItems (made_in_items ps)) ∷ drop 3 ps) ≡ in_parts ps ++ named_by 51 ps) (sym (e0 ∙ ap (λ (ps : Parts). PToken x0 ∷ ps) (e1 ∙ ap (λ (ps : Parts). POther (PItems x1) ∷ ps) (e2)))) (in_items_named x0 x1 x2 r2))))

pub positive_adds : Adds 52 (record { takes = is_term ∷ is_token ∷ []; makes = λ parts. POther (PFactor (made_positive parts)) })
positive_adds = plain_adds 52 (record { takes = is_term ∷ is_token ∷ []; makes = λ parts. POther (PFactor (made_positive parts)) }) (plain_term, (plain_token, tt)) (λ parts. refl) (λ parts. refl)

pub negative_adds : Adds 53 (record { takes = is_term ∷ is_token ∷ is_token ∷ []; makes = λ parts. POther (PFactor (made_negative parts)) })
negative_adds = plain_adds 53 (record { takes = is_term ∷ is_token ∷ is_token ∷ []; makes = λ parts. POther (PFactor (made_negative parts)) }) (plain_term, (plain_token, (plain_token, tt))) (λ parts. refl) (λ parts. refl)

pub no_factors_adds : Adds 54 (record { takes = []; makes = λ parts. POther (PFactors (made_no_factors parts)) })
no_factors_adds = plain_adds 54 (record { takes = []; makes = λ parts. POther (PFactors (made_no_factors parts)) }) tt (λ parts. refl) (λ parts. refl)

pub factor_adds : Adds 55 (record { takes = is_factor ∷ is_factors ∷ []; makes = λ parts. POther (PFactors (made_factor parts)) })
factor_adds = plain_adds 55 (record { takes = is_factor ∷ is_factors ∷ []; makes = λ parts. POther (PFactors (made_factor parts)) }) (plain_factor, (plain_factors, tt)) (λ parts. refl) (λ parts. refl)

pub next_factor_adds : Adds 56 (record { takes = is_factor ∷ is_token ∷ is_factors ∷ []; makes = λ parts. POther (PFactors (made_next_factor parts)) })
next_factor_adds = plain_adds 56 (record { takes = is_factor ∷ is_token ∷ is_factors ∷ []; makes = λ parts. POther (PFactors (made_next_factor parts)) }) (plain_factor, (plain_token, (plain_factors, tt))) (λ parts. refl) (λ parts. refl)

pub given_adds : Adds 57 (record { takes = is_token ∷ []; makes = λ parts. POther (PCert (made_given parts)) })
given_adds = plain_adds 57 (record { takes = is_token ∷ []; makes = λ parts. POther (PCert (made_given parts)) }) (plain_token, tt) (λ parts. refl) (λ parts. refl)

pub axiom_adds : Adds 58 (record { takes = is_terms ∷ is_token ∷ is_token ∷ []; makes = λ parts. POther (PCert (made_axiom parts)) })
axiom_adds = plain_adds 58 (record { takes = is_terms ∷ is_token ∷ is_token ∷ []; makes = λ parts. POther (PCert (made_axiom parts)) }) (plain_terms, (plain_token, (plain_token, tt))) (λ parts. refl) (λ parts. refl)

pub subst_adds : Adds 59 (record { takes = is_maybe_term ∷ is_term ∷ is_token ∷ []; makes = λ parts. POther (PCert (made_subst parts)) })
subst_adds = plain_adds 59 (record { takes = is_maybe_term ∷ is_term ∷ is_token ∷ []; makes = λ parts. POther (PCert (made_subst parts)) }) (plain_maybe_term, (plain_term, (plain_token, tt))) (λ parts. refl) (λ parts. refl)

pub contra_adds : Adds 60 (record { takes = is_term ∷ is_token ∷ []; makes = λ parts. POther (PCert (made_contra parts)) })
contra_adds = plain_adds 60 (record { takes = is_term ∷ is_token ∷ []; makes = λ parts. POther (PCert (made_contra parts)) }) (plain_term, (plain_token, tt)) (λ parts. refl) (λ parts. refl)

pub linear_adds : Adds 61 (record { takes = is_token ∷ is_factors ∷ is_token ∷ is_token ∷ is_terms ∷ is_token ∷ is_token ∷ []; makes = λ parts. POther (PCert (made_linear parts)) })
linear_adds = plain_adds 61 (record { takes = is_token ∷ is_factors ∷ is_token ∷ is_token ∷ is_terms ∷ is_token ∷ is_token ∷ []; makes = λ parts. POther (PCert (made_linear parts)) }) (plain_token, (plain_factors, (plain_token, (plain_token, (plain_terms, (plain_token, (plain_token, tt))))))) (λ parts. refl) (λ parts. refl)

pub by_cases_adds : Adds 62 (record { takes = is_token ∷ is_cert ∷ is_token ∷ is_token ∷ is_cert ∷ is_token ∷ is_term ∷ is_token ∷ []; makes = λ parts. POther (PCert (made_by_cases parts)) })
by_cases_adds = plain_adds 62 (record { takes = is_token ∷ is_cert ∷ is_token ∷ is_token ∷ is_cert ∷ is_token ∷ is_term ∷ is_token ∷ []; makes = λ parts. POther (PCert (made_by_cases parts)) }) (plain_token, (plain_cert, (plain_token, (plain_token, (plain_cert, (plain_token, (plain_term, (plain_token, tt)))))))) (λ parts. refl) (λ parts. refl)

pub steps_adds : Adds 63 (record { takes = is_token ∷ is_cert ∷ is_haves ∷ is_token ∷ is_token ∷ []; makes = λ parts. POther (PCert (made_steps parts)) })
steps_adds = plain_adds 63 (record { takes = is_token ∷ is_cert ∷ is_haves ∷ is_token ∷ is_token ∷ []; makes = λ parts. POther (PCert (made_steps parts)) }) (plain_token, (plain_cert, (plain_haves, (plain_token, (plain_token, tt))))) (λ parts. refl) (λ parts. refl)

pub hole_adds : Adds 64 (record { takes = is_token ∷ []; makes = λ parts. POther (PCert (made_hole parts)) })
hole_adds = plain_adds 64 (record { takes = is_token ∷ []; makes = λ parts. POther (PCert (made_hole parts)) }) (plain_token, tt) (λ parts. refl) (λ parts. refl)

pub no_haves_adds : Adds 65 (record { takes = []; makes = λ parts. POther (PHaves (made_no_haves parts)) })
no_haves_adds = plain_adds 65 (record { takes = []; makes = λ parts. POther (PHaves (made_no_haves parts)) }) tt (λ parts. refl) (λ parts. refl)

pub step_have_adds : Adds 66 (record { takes = is_token ∷ is_cert ∷ is_token ∷ is_term ∷ is_token ∷ is_haves ∷ []; makes = λ parts. POther (PHaves (made_step_have parts)) })
step_have_adds = plain_adds 66 (record { takes = is_token ∷ is_cert ∷ is_token ∷ is_term ∷ is_token ∷ is_haves ∷ []; makes = λ parts. POther (PHaves (made_step_have parts)) }) (plain_token, (plain_cert, (plain_token, (plain_term, (plain_token, (plain_haves, tt)))))) (λ parts. refl) (λ parts. refl)

pub hole_terms_adds : Adds 67 (record { takes = is_token ∷ is_token ∷ is_token ∷ []; makes = λ parts. POther (PFilling (made_hole_terms parts)) })
hole_terms_adds = plain_adds 67 (record { takes = is_token ∷ is_token ∷ is_token ∷ []; makes = λ parts. POther (PFilling (made_hole_terms parts)) }) (plain_token, (plain_token, (plain_token, tt))) (λ parts. refl) (λ parts. refl)

pub filled_adds : Adds 68 (record { takes = is_terms ∷ []; makes = λ parts. POther (PFilling (made_filled parts)) })
filled_adds = plain_adds 68 (record { takes = is_terms ∷ []; makes = λ parts. POther (PFilling (made_filled parts)) }) (plain_terms, tt) (λ parts. refl) (λ parts. refl)

pub filled_parens_adds : Adds 69 (record { takes = is_token ∷ is_terms ∷ is_token ∷ []; makes = λ parts. POther (PFilling (made_filled_parens parts)) })
filled_parens_adds = plain_adds 69 (record { takes = is_token ∷ is_terms ∷ is_token ∷ []; makes = λ parts. POther (PFilling (made_filled_parens parts)) }) (plain_token, (plain_terms, (plain_token, tt))) (λ parts. refl) (λ parts. refl)

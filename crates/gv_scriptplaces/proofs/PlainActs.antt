-- Acts on parts without commands.
use Rattle.std.proofs.Common.{[], ◌∷◌, refl}
use Rattle.gv_termread.specs.declared.generated.term_acts.Part.TheVariants.{Other as POther}
use Rattle.gv_termread.specs.TermActs.{is_token, is_term}
use Rattle.gv_scriptsyntax.specs.declared.generated.script_acts.ScriptPart.TheVariants.{Atom as PAtom, Atoms as PAtoms, Books as PBooks, Case as PCase, Cases as PCases, Cert as PCert, Ending as PEnding, Factor as PFactor, Factors as PFactors, Filling as PFilling, Haves as PHaves, Inst as PInst, Item as PItem, Items as PItems, MaybeInst as PMaybeInst, MaybeTerm as PMaybeTerm, Names as PNames, Pars as PPars, Preds as PPreds, Terms as PTerms}
use Rattle.gv_scriptsyntax.specs.ScriptActs.{is_names, is_pars, is_terms, is_maybe_term, is_inst, is_atom, is_atoms, is_item, is_items, is_factor, is_factors, is_cert, is_haves, is_case, is_cases, is_books, is_preds, made_no_names, made_name, made_next_name, made_in_names, made_no_pars, made_par, made_next_par, made_in_pars, made_no_terms, made_term, made_next_term, made_in_terms, made_word_terms, made_no_term, made_word_term, made_inst, made_no_own, made_own, made_one_atom, made_two_atom, made_three_atom, made_cell_atom, made_field_atom, made_book_atom, made_lock_atom, made_token_atom, made_done_atom, made_each_atom, made_inst_atom, made_no_atoms, made_atom, made_next_atom, made_in_atoms, made_fact, made_held, made_no_items, made_item, made_in_items, made_positive, made_negative, made_no_factors, made_factor, made_next_factor, made_given, made_axiom, made_subst, made_contra, made_linear, made_by_cases, made_steps, made_hole, made_no_haves, made_step_have, made_hole_terms, made_filled, made_filled_parens, made_word_names, made_closed, made_not_closed, made_case, made_no_cases, made_next_case, made_no_books, made_book, made_no_preds, made_pred}
use Rattle.gv_scriptplaces.proofs.Stacks.{Keeps, plain_keeps, made_plain, plain_token, plain_term, plain_names, plain_pars, plain_terms, plain_maybe_term, plain_inst, plain_atom, plain_atoms, plain_item, plain_items, plain_factor, plain_factors, plain_cert, plain_haves, plain_case, plain_cases, plain_books, plain_preds}

pub no_names_keeps : Keeps 14 (record { takes = []; makes = λ parts. POther (PNames (made_no_names parts)) })
no_names_keeps = plain_keeps 14 (record { takes = []; makes = λ parts. POther (PNames (made_no_names parts)) }) tt (λ parts. made_plain (PNames (made_no_names parts)) refl refl refl) refl

pub name_keeps : Keeps 15 (record { takes = is_token ∷ is_names ∷ []; makes = λ parts. POther (PNames (made_name parts)) })
name_keeps = plain_keeps 15 (record { takes = is_token ∷ is_names ∷ []; makes = λ parts. POther (PNames (made_name parts)) }) (plain_token, (plain_names, tt)) (λ parts. made_plain (PNames (made_name parts)) refl refl refl) refl

pub next_name_keeps : Keeps 16 (record { takes = is_token ∷ is_token ∷ is_names ∷ []; makes = λ parts. POther (PNames (made_next_name parts)) })
next_name_keeps = plain_keeps 16 (record { takes = is_token ∷ is_token ∷ is_names ∷ []; makes = λ parts. POther (PNames (made_next_name parts)) }) (plain_token, (plain_token, (plain_names, tt))) (λ parts. made_plain (PNames (made_next_name parts)) refl refl refl) refl

pub in_names_keeps : Keeps 17 (record { takes = is_token ∷ is_names ∷ is_token ∷ []; makes = λ parts. POther (PNames (made_in_names parts)) })
in_names_keeps = plain_keeps 17 (record { takes = is_token ∷ is_names ∷ is_token ∷ []; makes = λ parts. POther (PNames (made_in_names parts)) }) (plain_token, (plain_names, (plain_token, tt))) (λ parts. made_plain (PNames (made_in_names parts)) refl refl refl) refl

pub no_pars_keeps : Keeps 18 (record { takes = []; makes = λ parts. POther (PPars (made_no_pars parts)) })
no_pars_keeps = plain_keeps 18 (record { takes = []; makes = λ parts. POther (PPars (made_no_pars parts)) }) tt (λ parts. made_plain (PPars (made_no_pars parts)) refl refl refl) refl

pub par_keeps : Keeps 19 (record { takes = is_token ∷ is_token ∷ is_token ∷ is_pars ∷ []; makes = λ parts. POther (PPars (made_par parts)) })
par_keeps = plain_keeps 19 (record { takes = is_token ∷ is_token ∷ is_token ∷ is_pars ∷ []; makes = λ parts. POther (PPars (made_par parts)) }) (plain_token, (plain_token, (plain_token, (plain_pars, tt)))) (λ parts. made_plain (PPars (made_par parts)) refl refl refl) refl

pub next_par_keeps : Keeps 20 (record { takes = is_token ∷ is_token ∷ is_token ∷ is_token ∷ is_pars ∷ []; makes = λ parts. POther (PPars (made_next_par parts)) })
next_par_keeps = plain_keeps 20 (record { takes = is_token ∷ is_token ∷ is_token ∷ is_token ∷ is_pars ∷ []; makes = λ parts. POther (PPars (made_next_par parts)) }) (plain_token, (plain_token, (plain_token, (plain_token, (plain_pars, tt))))) (λ parts. made_plain (PPars (made_next_par parts)) refl refl refl) refl

pub in_pars_keeps : Keeps 21 (record { takes = is_token ∷ is_pars ∷ is_token ∷ []; makes = λ parts. POther (PPars (made_in_pars parts)) })
in_pars_keeps = plain_keeps 21 (record { takes = is_token ∷ is_pars ∷ is_token ∷ []; makes = λ parts. POther (PPars (made_in_pars parts)) }) (plain_token, (plain_pars, (plain_token, tt))) (λ parts. made_plain (PPars (made_in_pars parts)) refl refl refl) refl

pub no_terms_keeps : Keeps 22 (record { takes = []; makes = λ parts. POther (PTerms (made_no_terms parts)) })
no_terms_keeps = plain_keeps 22 (record { takes = []; makes = λ parts. POther (PTerms (made_no_terms parts)) }) tt (λ parts. made_plain (PTerms (made_no_terms parts)) refl refl refl) refl

pub term_keeps : Keeps 23 (record { takes = is_term ∷ is_terms ∷ []; makes = λ parts. POther (PTerms (made_term parts)) })
term_keeps = plain_keeps 23 (record { takes = is_term ∷ is_terms ∷ []; makes = λ parts. POther (PTerms (made_term parts)) }) (plain_term, (plain_terms, tt)) (λ parts. made_plain (PTerms (made_term parts)) refl refl refl) refl

pub next_term_keeps : Keeps 24 (record { takes = is_term ∷ is_token ∷ is_terms ∷ []; makes = λ parts. POther (PTerms (made_next_term parts)) })
next_term_keeps = plain_keeps 24 (record { takes = is_term ∷ is_token ∷ is_terms ∷ []; makes = λ parts. POther (PTerms (made_next_term parts)) }) (plain_term, (plain_token, (plain_terms, tt))) (λ parts. made_plain (PTerms (made_next_term parts)) refl refl refl) refl

pub in_terms_keeps : Keeps 25 (record { takes = is_token ∷ is_terms ∷ is_token ∷ []; makes = λ parts. POther (PTerms (made_in_terms parts)) })
in_terms_keeps = plain_keeps 25 (record { takes = is_token ∷ is_terms ∷ is_token ∷ []; makes = λ parts. POther (PTerms (made_in_terms parts)) }) (plain_token, (plain_terms, (plain_token, tt))) (λ parts. made_plain (PTerms (made_in_terms parts)) refl refl refl) refl

pub word_terms_keeps : Keeps 26 (record { takes = is_terms ∷ is_token ∷ []; makes = λ parts. POther (PTerms (made_word_terms parts)) })
word_terms_keeps = plain_keeps 26 (record { takes = is_terms ∷ is_token ∷ []; makes = λ parts. POther (PTerms (made_word_terms parts)) }) (plain_terms, (plain_token, tt)) (λ parts. made_plain (PTerms (made_word_terms parts)) refl refl refl) refl

pub no_term_keeps : Keeps 27 (record { takes = []; makes = λ parts. POther (PMaybeTerm (made_no_term parts)) })
no_term_keeps = plain_keeps 27 (record { takes = []; makes = λ parts. POther (PMaybeTerm (made_no_term parts)) }) tt (λ parts. made_plain (PMaybeTerm (made_no_term parts)) refl refl refl) refl

pub word_term_keeps : Keeps 28 (record { takes = is_term ∷ is_token ∷ []; makes = λ parts. POther (PMaybeTerm (made_word_term parts)) })
word_term_keeps = plain_keeps 28 (record { takes = is_term ∷ is_token ∷ []; makes = λ parts. POther (PMaybeTerm (made_word_term parts)) }) (plain_term, (plain_token, tt)) (λ parts. made_plain (PMaybeTerm (made_word_term parts)) refl refl refl) refl

pub inst_keeps : Keeps 29 (record { takes = is_terms ∷ is_token ∷ []; makes = λ parts. POther (PInst (made_inst parts)) })
inst_keeps = plain_keeps 29 (record { takes = is_terms ∷ is_token ∷ []; makes = λ parts. POther (PInst (made_inst parts)) }) (plain_terms, (plain_token, tt)) (λ parts. made_plain (PInst (made_inst parts)) refl refl refl) refl

pub no_own_keeps : Keeps 30 (record { takes = []; makes = λ parts. POther (PMaybeInst (made_no_own parts)) })
no_own_keeps = plain_keeps 30 (record { takes = []; makes = λ parts. POther (PMaybeInst (made_no_own parts)) }) tt (λ parts. made_plain (PMaybeInst (made_no_own parts)) refl refl refl) refl

pub own_keeps : Keeps 31 (record { takes = is_inst ∷ is_token ∷ []; makes = λ parts. POther (PMaybeInst (made_own parts)) })
own_keeps = plain_keeps 31 (record { takes = is_inst ∷ is_token ∷ []; makes = λ parts. POther (PMaybeInst (made_own parts)) }) (plain_inst, (plain_token, tt)) (λ parts. made_plain (PMaybeInst (made_own parts)) refl refl refl) refl

pub one_atom_keeps : Keeps 32 (record { takes = is_token ∷ is_term ∷ is_token ∷ is_token ∷ []; makes = λ parts. POther (PAtom (made_one_atom parts)) })
one_atom_keeps = plain_keeps 32 (record { takes = is_token ∷ is_term ∷ is_token ∷ is_token ∷ []; makes = λ parts. POther (PAtom (made_one_atom parts)) }) (plain_token, (plain_term, (plain_token, (plain_token, tt)))) (λ parts. made_plain (PAtom (made_one_atom parts)) refl refl refl) refl

pub two_atom_keeps : Keeps 33 (record { takes = is_token ∷ is_term ∷ is_token ∷ is_term ∷ is_token ∷ is_token ∷ []; makes = λ parts. POther (PAtom (made_two_atom parts)) })
two_atom_keeps = plain_keeps 33 (record { takes = is_token ∷ is_term ∷ is_token ∷ is_term ∷ is_token ∷ is_token ∷ []; makes = λ parts. POther (PAtom (made_two_atom parts)) }) (plain_token, (plain_term, (plain_token, (plain_term, (plain_token, (plain_token, tt)))))) (λ parts. made_plain (PAtom (made_two_atom parts)) refl refl refl) refl

pub three_atom_keeps : Keeps 34 (record { takes = is_token ∷ is_term ∷ is_token ∷ is_term ∷ is_token ∷ is_term ∷ is_token ∷ is_token ∷ []; makes = λ parts. POther (PAtom (made_three_atom parts)) })
three_atom_keeps = plain_keeps 34 (record { takes = is_token ∷ is_term ∷ is_token ∷ is_term ∷ is_token ∷ is_term ∷ is_token ∷ is_token ∷ []; makes = λ parts. POther (PAtom (made_three_atom parts)) }) (plain_token, (plain_term, (plain_token, (plain_term, (plain_token, (plain_term, (plain_token, (plain_token, tt)))))))) (λ parts. made_plain (PAtom (made_three_atom parts)) refl refl refl) refl

pub cell_atom_keeps : Keeps 35 (record { takes = is_token ∷ is_term ∷ is_token ∷ is_token ∷ is_token ∷ is_term ∷ is_token ∷ is_token ∷ []; makes = λ parts. POther (PAtom (made_cell_atom parts)) })
cell_atom_keeps = plain_keeps 35 (record { takes = is_token ∷ is_term ∷ is_token ∷ is_token ∷ is_token ∷ is_term ∷ is_token ∷ is_token ∷ []; makes = λ parts. POther (PAtom (made_cell_atom parts)) }) (plain_token, (plain_term, (plain_token, (plain_token, (plain_token, (plain_term, (plain_token, (plain_token, tt)))))))) (λ parts. made_plain (PAtom (made_cell_atom parts)) refl refl refl) refl

pub field_atom_keeps : Keeps 36 (record { takes = is_token ∷ is_term ∷ is_token ∷ is_token ∷ is_token ∷ is_token ∷ []; makes = λ parts. POther (PAtom (made_field_atom parts)) })
field_atom_keeps = plain_keeps 36 (record { takes = is_token ∷ is_term ∷ is_token ∷ is_token ∷ is_token ∷ is_token ∷ []; makes = λ parts. POther (PAtom (made_field_atom parts)) }) (plain_token, (plain_term, (plain_token, (plain_token, (plain_token, (plain_token, tt)))))) (λ parts. made_plain (PAtom (made_field_atom parts)) refl refl refl) refl

pub book_atom_keeps : Keeps 37 (record { takes = is_token ∷ is_term ∷ is_token ∷ is_term ∷ is_token ∷ is_token ∷ is_token ∷ is_token ∷ []; makes = λ parts. POther (PAtom (made_book_atom parts)) })
book_atom_keeps = plain_keeps 37 (record { takes = is_token ∷ is_term ∷ is_token ∷ is_term ∷ is_token ∷ is_token ∷ is_token ∷ is_token ∷ []; makes = λ parts. POther (PAtom (made_book_atom parts)) }) (plain_token, (plain_term, (plain_token, (plain_term, (plain_token, (plain_token, (plain_token, (plain_token, tt)))))))) (λ parts. made_plain (PAtom (made_book_atom parts)) refl refl refl) refl

pub lock_atom_keeps : Keeps 38 (record { takes = is_token ∷ is_inst ∷ is_token ∷ is_term ∷ is_token ∷ is_token ∷ []; makes = λ parts. POther (PAtom (made_lock_atom parts)) })
lock_atom_keeps = plain_keeps 38 (record { takes = is_token ∷ is_inst ∷ is_token ∷ is_term ∷ is_token ∷ is_token ∷ []; makes = λ parts. POther (PAtom (made_lock_atom parts)) }) (plain_token, (plain_inst, (plain_token, (plain_term, (plain_token, (plain_token, tt)))))) (λ parts. made_plain (PAtom (made_lock_atom parts)) refl refl refl) refl

pub token_atom_keeps : Keeps 39 (record { takes = is_token ∷ is_terms ∷ is_token ∷ is_token ∷ is_term ∷ is_token ∷ is_token ∷ []; makes = λ parts. POther (PAtom (made_token_atom parts)) })
token_atom_keeps = plain_keeps 39 (record { takes = is_token ∷ is_terms ∷ is_token ∷ is_token ∷ is_term ∷ is_token ∷ is_token ∷ []; makes = λ parts. POther (PAtom (made_token_atom parts)) }) (plain_token, (plain_terms, (plain_token, (plain_token, (plain_term, (plain_token, (plain_token, tt))))))) (λ parts. made_plain (PAtom (made_token_atom parts)) refl refl refl) refl

pub done_atom_keeps : Keeps 40 (record { takes = is_token ∷ is_maybe_term ∷ is_term ∷ is_token ∷ is_token ∷ []; makes = λ parts. POther (PAtom (made_done_atom parts)) })
done_atom_keeps = plain_keeps 40 (record { takes = is_token ∷ is_maybe_term ∷ is_term ∷ is_token ∷ is_token ∷ []; makes = λ parts. POther (PAtom (made_done_atom parts)) }) (plain_token, (plain_maybe_term, (plain_term, (plain_token, (plain_token, tt))))) (λ parts. made_plain (PAtom (made_done_atom parts)) refl refl refl) refl

pub each_atom_keeps : Keeps 41 (record { takes = is_token ∷ is_atom ∷ is_token ∷ is_terms ∷ is_term ∷ is_token ∷ is_term ∷ is_token ∷ is_token ∷ is_token ∷ is_token ∷ []; makes = λ parts. POther (PAtom (made_each_atom parts)) })
each_atom_keeps = plain_keeps 41 (record { takes = is_token ∷ is_atom ∷ is_token ∷ is_terms ∷ is_term ∷ is_token ∷ is_term ∷ is_token ∷ is_token ∷ is_token ∷ is_token ∷ []; makes = λ parts. POther (PAtom (made_each_atom parts)) }) (plain_token, (plain_atom, (plain_token, (plain_terms, (plain_term, (plain_token, (plain_term, (plain_token, (plain_token, (plain_token, (plain_token, tt))))))))))) (λ parts. made_plain (PAtom (made_each_atom parts)) refl refl refl) refl

pub inst_atom_keeps : Keeps 42 (record { takes = is_inst ∷ []; makes = λ parts. POther (PAtom (made_inst_atom parts)) })
inst_atom_keeps = plain_keeps 42 (record { takes = is_inst ∷ []; makes = λ parts. POther (PAtom (made_inst_atom parts)) }) (plain_inst, tt) (λ parts. made_plain (PAtom (made_inst_atom parts)) refl refl refl) refl

pub no_atoms_keeps : Keeps 43 (record { takes = []; makes = λ parts. POther (PAtoms (made_no_atoms parts)) })
no_atoms_keeps = plain_keeps 43 (record { takes = []; makes = λ parts. POther (PAtoms (made_no_atoms parts)) }) tt (λ parts. made_plain (PAtoms (made_no_atoms parts)) refl refl refl) refl

pub atom_keeps : Keeps 44 (record { takes = is_atom ∷ is_atoms ∷ []; makes = λ parts. POther (PAtoms (made_atom parts)) })
atom_keeps = plain_keeps 44 (record { takes = is_atom ∷ is_atoms ∷ []; makes = λ parts. POther (PAtoms (made_atom parts)) }) (plain_atom, (plain_atoms, tt)) (λ parts. made_plain (PAtoms (made_atom parts)) refl refl refl) refl

pub next_atom_keeps : Keeps 45 (record { takes = is_atom ∷ is_token ∷ is_atoms ∷ []; makes = λ parts. POther (PAtoms (made_next_atom parts)) })
next_atom_keeps = plain_keeps 45 (record { takes = is_atom ∷ is_token ∷ is_atoms ∷ []; makes = λ parts. POther (PAtoms (made_next_atom parts)) }) (plain_atom, (plain_token, (plain_atoms, tt))) (λ parts. made_plain (PAtoms (made_next_atom parts)) refl refl refl) refl

pub in_atoms_keeps : Keeps 46 (record { takes = is_token ∷ is_atoms ∷ is_token ∷ []; makes = λ parts. POther (PAtoms (made_in_atoms parts)) })
in_atoms_keeps = plain_keeps 46 (record { takes = is_token ∷ is_atoms ∷ is_token ∷ []; makes = λ parts. POther (PAtoms (made_in_atoms parts)) }) (plain_token, (plain_atoms, (plain_token, tt))) (λ parts. made_plain (PAtoms (made_in_atoms parts)) refl refl refl) refl

pub fact_keeps : Keeps 47 (record { takes = is_term ∷ []; makes = λ parts. POther (PItem (made_fact parts)) })
fact_keeps = plain_keeps 47 (record { takes = is_term ∷ []; makes = λ parts. POther (PItem (made_fact parts)) }) (plain_term, tt) (λ parts. made_plain (PItem (made_fact parts)) refl refl refl) refl

pub held_keeps : Keeps 48 (record { takes = is_atom ∷ []; makes = λ parts. POther (PItem (made_held parts)) })
held_keeps = plain_keeps 48 (record { takes = is_atom ∷ []; makes = λ parts. POther (PItem (made_held parts)) }) (plain_atom, tt) (λ parts. made_plain (PItem (made_held parts)) refl refl refl) refl

pub no_items_keeps : Keeps 49 (record { takes = []; makes = λ parts. POther (PItems (made_no_items parts)) })
no_items_keeps = plain_keeps 49 (record { takes = []; makes = λ parts. POther (PItems (made_no_items parts)) }) tt (λ parts. made_plain (PItems (made_no_items parts)) refl refl refl) refl

pub item_keeps : Keeps 50 (record { takes = is_token ∷ is_item ∷ is_items ∷ []; makes = λ parts. POther (PItems (made_item parts)) })
item_keeps = plain_keeps 50 (record { takes = is_token ∷ is_item ∷ is_items ∷ []; makes = λ parts. POther (PItems (made_item parts)) }) (plain_token, (plain_item, (plain_items, tt))) (λ parts. made_plain (PItems (made_item parts)) refl refl refl) refl

pub in_items_keeps : Keeps 51 (record { takes = is_token ∷ is_items ∷ is_token ∷ []; makes = λ parts. POther (PItems (made_in_items parts)) })
in_items_keeps = plain_keeps 51 (record { takes = is_token ∷ is_items ∷ is_token ∷ []; makes = λ parts. POther (PItems (made_in_items parts)) }) (plain_token, (plain_items, (plain_token, tt))) (λ parts. made_plain (PItems (made_in_items parts)) refl refl refl) refl

pub positive_keeps : Keeps 52 (record { takes = is_term ∷ is_token ∷ []; makes = λ parts. POther (PFactor (made_positive parts)) })
positive_keeps = plain_keeps 52 (record { takes = is_term ∷ is_token ∷ []; makes = λ parts. POther (PFactor (made_positive parts)) }) (plain_term, (plain_token, tt)) (λ parts. made_plain (PFactor (made_positive parts)) refl refl refl) refl

pub negative_keeps : Keeps 53 (record { takes = is_term ∷ is_token ∷ is_token ∷ []; makes = λ parts. POther (PFactor (made_negative parts)) })
negative_keeps = plain_keeps 53 (record { takes = is_term ∷ is_token ∷ is_token ∷ []; makes = λ parts. POther (PFactor (made_negative parts)) }) (plain_term, (plain_token, (plain_token, tt))) (λ parts. made_plain (PFactor (made_negative parts)) refl refl refl) refl

pub no_factors_keeps : Keeps 54 (record { takes = []; makes = λ parts. POther (PFactors (made_no_factors parts)) })
no_factors_keeps = plain_keeps 54 (record { takes = []; makes = λ parts. POther (PFactors (made_no_factors parts)) }) tt (λ parts. made_plain (PFactors (made_no_factors parts)) refl refl refl) refl

pub factor_keeps : Keeps 55 (record { takes = is_factor ∷ is_factors ∷ []; makes = λ parts. POther (PFactors (made_factor parts)) })
factor_keeps = plain_keeps 55 (record { takes = is_factor ∷ is_factors ∷ []; makes = λ parts. POther (PFactors (made_factor parts)) }) (plain_factor, (plain_factors, tt)) (λ parts. made_plain (PFactors (made_factor parts)) refl refl refl) refl

pub next_factor_keeps : Keeps 56 (record { takes = is_factor ∷ is_token ∷ is_factors ∷ []; makes = λ parts. POther (PFactors (made_next_factor parts)) })
next_factor_keeps = plain_keeps 56 (record { takes = is_factor ∷ is_token ∷ is_factors ∷ []; makes = λ parts. POther (PFactors (made_next_factor parts)) }) (plain_factor, (plain_token, (plain_factors, tt))) (λ parts. made_plain (PFactors (made_next_factor parts)) refl refl refl) refl

pub given_keeps : Keeps 57 (record { takes = is_token ∷ []; makes = λ parts. POther (PCert (made_given parts)) })
given_keeps = plain_keeps 57 (record { takes = is_token ∷ []; makes = λ parts. POther (PCert (made_given parts)) }) (plain_token, tt) (λ parts. made_plain (PCert (made_given parts)) refl refl refl) refl

pub axiom_keeps : Keeps 58 (record { takes = is_terms ∷ is_token ∷ is_token ∷ []; makes = λ parts. POther (PCert (made_axiom parts)) })
axiom_keeps = plain_keeps 58 (record { takes = is_terms ∷ is_token ∷ is_token ∷ []; makes = λ parts. POther (PCert (made_axiom parts)) }) (plain_terms, (plain_token, (plain_token, tt))) (λ parts. made_plain (PCert (made_axiom parts)) refl refl refl) refl

pub subst_keeps : Keeps 59 (record { takes = is_maybe_term ∷ is_term ∷ is_token ∷ []; makes = λ parts. POther (PCert (made_subst parts)) })
subst_keeps = plain_keeps 59 (record { takes = is_maybe_term ∷ is_term ∷ is_token ∷ []; makes = λ parts. POther (PCert (made_subst parts)) }) (plain_maybe_term, (plain_term, (plain_token, tt))) (λ parts. made_plain (PCert (made_subst parts)) refl refl refl) refl

pub contra_keeps : Keeps 60 (record { takes = is_term ∷ is_token ∷ []; makes = λ parts. POther (PCert (made_contra parts)) })
contra_keeps = plain_keeps 60 (record { takes = is_term ∷ is_token ∷ []; makes = λ parts. POther (PCert (made_contra parts)) }) (plain_term, (plain_token, tt)) (λ parts. made_plain (PCert (made_contra parts)) refl refl refl) refl

pub linear_keeps : Keeps 61 (record { takes = is_token ∷ is_factors ∷ is_token ∷ is_token ∷ is_terms ∷ is_token ∷ is_token ∷ []; makes = λ parts. POther (PCert (made_linear parts)) })
linear_keeps = plain_keeps 61 (record { takes = is_token ∷ is_factors ∷ is_token ∷ is_token ∷ is_terms ∷ is_token ∷ is_token ∷ []; makes = λ parts. POther (PCert (made_linear parts)) }) (plain_token, (plain_factors, (plain_token, (plain_token, (plain_terms, (plain_token, (plain_token, tt))))))) (λ parts. made_plain (PCert (made_linear parts)) refl refl refl) refl

pub by_cases_keeps : Keeps 62 (record { takes = is_token ∷ is_cert ∷ is_token ∷ is_token ∷ is_cert ∷ is_token ∷ is_term ∷ is_token ∷ []; makes = λ parts. POther (PCert (made_by_cases parts)) })
by_cases_keeps = plain_keeps 62 (record { takes = is_token ∷ is_cert ∷ is_token ∷ is_token ∷ is_cert ∷ is_token ∷ is_term ∷ is_token ∷ []; makes = λ parts. POther (PCert (made_by_cases parts)) }) (plain_token, (plain_cert, (plain_token, (plain_token, (plain_cert, (plain_token, (plain_term, (plain_token, tt)))))))) (λ parts. made_plain (PCert (made_by_cases parts)) refl refl refl) refl

pub steps_keeps : Keeps 63 (record { takes = is_token ∷ is_cert ∷ is_haves ∷ is_token ∷ is_token ∷ []; makes = λ parts. POther (PCert (made_steps parts)) })
steps_keeps = plain_keeps 63 (record { takes = is_token ∷ is_cert ∷ is_haves ∷ is_token ∷ is_token ∷ []; makes = λ parts. POther (PCert (made_steps parts)) }) (plain_token, (plain_cert, (plain_haves, (plain_token, (plain_token, tt))))) (λ parts. made_plain (PCert (made_steps parts)) refl refl refl) refl

pub hole_keeps : Keeps 64 (record { takes = is_token ∷ []; makes = λ parts. POther (PCert (made_hole parts)) })
hole_keeps = plain_keeps 64 (record { takes = is_token ∷ []; makes = λ parts. POther (PCert (made_hole parts)) }) (plain_token, tt) (λ parts. made_plain (PCert (made_hole parts)) refl refl refl) refl

pub no_haves_keeps : Keeps 65 (record { takes = []; makes = λ parts. POther (PHaves (made_no_haves parts)) })
no_haves_keeps = plain_keeps 65 (record { takes = []; makes = λ parts. POther (PHaves (made_no_haves parts)) }) tt (λ parts. made_plain (PHaves (made_no_haves parts)) refl refl refl) refl

pub step_have_keeps : Keeps 66 (record { takes = is_token ∷ is_cert ∷ is_token ∷ is_term ∷ is_token ∷ is_haves ∷ []; makes = λ parts. POther (PHaves (made_step_have parts)) })
step_have_keeps = plain_keeps 66 (record { takes = is_token ∷ is_cert ∷ is_token ∷ is_term ∷ is_token ∷ is_haves ∷ []; makes = λ parts. POther (PHaves (made_step_have parts)) }) (plain_token, (plain_cert, (plain_token, (plain_term, (plain_token, (plain_haves, tt)))))) (λ parts. made_plain (PHaves (made_step_have parts)) refl refl refl) refl

pub hole_terms_keeps : Keeps 67 (record { takes = is_token ∷ is_token ∷ is_token ∷ []; makes = λ parts. POther (PFilling (made_hole_terms parts)) })
hole_terms_keeps = plain_keeps 67 (record { takes = is_token ∷ is_token ∷ is_token ∷ []; makes = λ parts. POther (PFilling (made_hole_terms parts)) }) (plain_token, (plain_token, (plain_token, tt))) (λ parts. made_plain (PFilling (made_hole_terms parts)) refl refl refl) refl

pub filled_keeps : Keeps 68 (record { takes = is_terms ∷ []; makes = λ parts. POther (PFilling (made_filled parts)) })
filled_keeps = plain_keeps 68 (record { takes = is_terms ∷ []; makes = λ parts. POther (PFilling (made_filled parts)) }) (plain_terms, tt) (λ parts. made_plain (PFilling (made_filled parts)) refl refl refl) refl

pub filled_parens_keeps : Keeps 69 (record { takes = is_token ∷ is_terms ∷ is_token ∷ []; makes = λ parts. POther (PFilling (made_filled_parens parts)) })
filled_parens_keeps = plain_keeps 69 (record { takes = is_token ∷ is_terms ∷ is_token ∷ []; makes = λ parts. POther (PFilling (made_filled_parens parts)) }) (plain_token, (plain_terms, (plain_token, tt))) (λ parts. made_plain (PFilling (made_filled_parens parts)) refl refl refl) refl

pub word_names_keeps : Keeps 98 (record { takes = is_names ∷ is_token ∷ []; makes = λ parts. POther (PNames (made_word_names parts)) })
word_names_keeps = plain_keeps 98 (record { takes = is_names ∷ is_token ∷ []; makes = λ parts. POther (PNames (made_word_names parts)) }) (plain_names, (plain_token, tt)) (λ parts. made_plain (PNames (made_word_names parts)) refl refl refl) refl

pub closed_keeps : Keeps 109 (record { takes = is_token ∷ []; makes = λ parts. POther (PEnding (made_closed parts)) })
closed_keeps = plain_keeps 109 (record { takes = is_token ∷ []; makes = λ parts. POther (PEnding (made_closed parts)) }) (plain_token, tt) (λ parts. made_plain (PEnding (made_closed parts)) refl refl refl) refl

pub not_closed_keeps : Keeps 110 (record { takes = []; makes = λ parts. POther (PEnding (made_not_closed parts)) })
not_closed_keeps = plain_keeps 110 (record { takes = []; makes = λ parts. POther (PEnding (made_not_closed parts)) }) tt (λ parts. made_plain (PEnding (made_not_closed parts)) refl refl refl) refl

pub case_keeps : Keeps 112 (record { takes = is_items ∷ is_pars ∷ is_token ∷ []; makes = λ parts. POther (PCase (made_case parts)) })
case_keeps = plain_keeps 112 (record { takes = is_items ∷ is_pars ∷ is_token ∷ []; makes = λ parts. POther (PCase (made_case parts)) }) (plain_items, (plain_pars, (plain_token, tt))) (λ parts. made_plain (PCase (made_case parts)) refl refl refl) refl

pub no_cases_keeps : Keeps 113 (record { takes = []; makes = λ parts. POther (PCases (made_no_cases parts)) })
no_cases_keeps = plain_keeps 113 (record { takes = []; makes = λ parts. POther (PCases (made_no_cases parts)) }) tt (λ parts. made_plain (PCases (made_no_cases parts)) refl refl refl) refl

pub next_case_keeps : Keeps 114 (record { takes = is_case ∷ is_cases ∷ []; makes = λ parts. POther (PCases (made_next_case parts)) })
next_case_keeps = plain_keeps 114 (record { takes = is_case ∷ is_cases ∷ []; makes = λ parts. POther (PCases (made_next_case parts)) }) (plain_case, (plain_cases, tt)) (λ parts. made_plain (PCases (made_next_case parts)) refl refl refl) refl

pub no_books_keeps : Keeps 115 (record { takes = []; makes = λ parts. POther (PBooks (made_no_books parts)) })
no_books_keeps = plain_keeps 115 (record { takes = []; makes = λ parts. POther (PBooks (made_no_books parts)) }) tt (λ parts. made_plain (PBooks (made_no_books parts)) refl refl refl) refl

pub book_keeps : Keeps 116 (record { takes = is_token ∷ is_term ∷ is_token ∷ is_token ∷ is_token ∷ is_token ∷ is_token ∷ is_token ∷ is_books ∷ []; makes = λ parts. POther (PBooks (made_book parts)) })
book_keeps = plain_keeps 116 (record { takes = is_token ∷ is_term ∷ is_token ∷ is_token ∷ is_token ∷ is_token ∷ is_token ∷ is_token ∷ is_books ∷ []; makes = λ parts. POther (PBooks (made_book parts)) }) (plain_token, (plain_term, (plain_token, (plain_token, (plain_token, (plain_token, (plain_token, (plain_token, (plain_books, tt))))))))) (λ parts. made_plain (PBooks (made_book parts)) refl refl refl) refl

pub no_preds_keeps : Keeps 117 (record { takes = []; makes = λ parts. POther (PPreds (made_no_preds parts)) })
no_preds_keeps = plain_keeps 117 (record { takes = []; makes = λ parts. POther (PPreds (made_no_preds parts)) }) tt (λ parts. made_plain (PPreds (made_no_preds parts)) refl refl refl) refl

pub pred_keeps : Keeps 118 (record { takes = is_token ∷ is_cases ∷ is_token ∷ is_pars ∷ is_token ∷ is_token ∷ is_preds ∷ []; makes = λ parts. POther (PPreds (made_pred parts)) })
pred_keeps = plain_keeps 118 (record { takes = is_token ∷ is_cases ∷ is_token ∷ is_pars ∷ is_token ∷ is_token ∷ is_preds ∷ []; makes = λ parts. POther (PPreds (made_pred parts)) }) (plain_token, (plain_cases, (plain_token, (plain_pars, (plain_token, (plain_token, (plain_preds, tt))))))) (λ parts. made_plain (PPreds (made_pred parts)) refl refl refl) refl

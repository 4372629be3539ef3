-- Where the row of a read of an item is applied, the read is sound.
use Rattle.std.proofs.Common.{◌≡◌, true, List, [], ◌∷◌, Option, Some, refl, sym, ap, subst, ◌∙◌}
use Rattle.std.specs.Prelude.{slice_get, slice_set}
use Rattle.gv_terms.specs.declared.operator.Operator.TheVariants as op
use Rattle.gv_terms.specs.declared.tree.TermTree.{TermTree}
use Rattle.gv_terms.specs.declared.tree.TermTree.TheVariants as tree
use Rattle.gv_certs.specs.Known.{is_known}
use Rattle.gv_certs.proofs.Known.{known_true}
use Rattle.gv_assertions.specs.Atoms.{Atom}
use Rattle.gv_seats.specs.Paths.{goes_on}
use Rattle.gv_seats.specs.Changes.{changes_nothing}
use Rattle.gv_seats.specs.Soundness.{IsSoundStep}
use Rattle.gv_slicing.specs.Rows.{items, one_of, less}
use Rattle.gv_slicing.proofs.Items.{items_law}
use Rattle.gv_rows.specs.Rows.{State, first_of, slot_of, started}
use Rattle.gv_rows.specs.Table.{at_row}
use Rattle.gv_rows.specs.Laws.{ItemRowLaw}
use Rattle.gv_rows.proofs.Inversion.{told_law}
use Rattle.gv_rows.proofs.DiskRow.{all_true, slice_found}

list_slot : (s n : TermTree) (xs : List TermTree) → slot_of (slice_get (s ∷ n ∷ xs) 2) ≡ first_of xs
list_slot s n [] = refl
list_slot s n (t ∷ xs) = refl

abbrev item_of : TermTree → TermTree → TermTree
item_of n list = tree.Apply op.At (list ∷ n ∷ [])

pub item_row_law : ItemRowLaw
item_row_law o h t x e i s n place rest may todo l s_term s_sort i_term i_sort applied =
    let (c, c_is, after) = told_law (x ∷ []) at_row (started h (s ∷ n ∷ [])) t applied in
    let (known, came) = after in
    let found = slice_found h s c c_is in
    let list = first_of c.value in
    let last : slot_of (slice_get (s ∷ n ∷ c.value) 2) ≡ list = list_slot s n c.value in
    let known_now : is_known h.facts (less n (one_of op.Len list)) ≡ true = subst (λ (y : TermTree). is_known h.facts (less n (one_of op.Len y)) ≡ true) last known in
    let gives = items_law o h _ (items x e i s list n found.frozen c.others place rest may todo l s_term s_sort i_term i_sort found.taken
    (λ env valuation facts. (known_true env h.facts _ (all_true env h.facts facts) known_now, tt))) in
    let locals_are : slice_set h.locals x (Some (item_of n list)) ≡ t.path.locals = ap (λ (y : TermTree). slice_set h.locals x (Some (item_of n y))) (sym last) ∙ ap (λ (u : State). u.path.locals) came in
    let atoms_are : h.atoms ≡ t.path.atoms = ap (λ (u : State). u.path.atoms) came in
    subst (λ (ls : List (Option TermTree)). IsSoundStep o changes_nothing h (goes_on h rest ls t.path.atoms ∷ [])) locals_are
    (subst (λ (as_now : List Atom). IsSoundStep o changes_nothing h (goes_on h rest (slice_set h.locals x (Some (item_of n list))) as_now ∷ [])) atoms_are gives)

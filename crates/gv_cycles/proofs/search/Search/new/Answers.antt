use Rattle.std.proofs.Common.{ℕ, List, [], Bool, false, length, reverse, sym, subst}
use Rattle.std.specs.Prelude.{replicate}
use Rattle.std.proofs.lemmas.List.{length-map}
use Rattle.gv_cycles.specs.Leading.{items_of, lists_of}
use Rattle.gv_cycles.specs.declared.search.Open.{Open}
use Rattle.gv_cycles.specs.Search.{IsSearchedBy}
use Rattle.gv_cycles.proofs.Searches.{begun}
use Rattle.gv_cycles.proofs.search.Search.new.Goals as goal

pub returns-clause-searched : goal.returns-clause-searched
returns-clause-searched c =
    let rows = lists_of c.args.rows.now in
    let n = length c.args.rows.now in
    let none : IsSearchedBy rows (replicate n false) [] [] = begun rows n (sym (length-map c.args.rows.now items_of)) in
    subst (λ (seen : List Bool). IsSearchedBy rows seen (reverse c.new.result.items) c.new-2.result.items) (sym (c.in_ok-vec.ensures.items_if_clones_equal (λ y e. e)))
    (subst (λ (os : List Open). IsSearchedBy rows (replicate n false) (reverse os) c.new-2.result.items) (sym c.new.ensures.items)
    (subst (λ (xs : List ℕ). IsSearchedBy rows (replicate n false) [] xs) (sym c.new-2.ensures.items) none))

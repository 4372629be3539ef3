use Rattle.std.proofs.Common.{◌≡◌, sym, ap, ◌∙◌, ◌++◌, rules}
use Rattle.std.specs.List.{list_all}
use Rattle.std.specs.Str.{bytes_eq}
use Rattle.gv_terms.specs.Sorts.{sort_eq}
use Rattle.gv_terms.specs.Values.{is_sort}
use Rattle.gv_atomic.specs.Typed.{names_of, is_free, are_distinct}
use Rattle.gv_atomic.proofs.Vars.{among_under}
use Rattle.gv_atomic.proofs.DistinctNames.{parted}
use Rattle.gv_atomic.proofs.closing.has_var.Goals as goal

pub returns-in-Some : goal.returns-in-Some
returns-in-Some c =
    let vars = c.args.fields.now ++ c.args.own.now in
    let n = c.args.name.now in
    let tested : c.eq.result ≡ sort_eq c.in-Some.found c.args.sort = search rules in
    tested
    ∙ sym (among_under vars n c.args.sort (parted (list_all is_free (names_of vars)) (are_distinct bytes_eq (names_of vars)) c.requires).1
    ∙ ap (is_sort c.args.sort) (sym c.sort_in.ensures ∙ c.in-Some.is))

pub returns-in-None : goal.returns-in-None
returns-in-None c =
    let vars = c.args.fields.now ++ c.args.own.now in
    let n = c.args.name.now in
    sym (among_under vars n c.args.sort (parted (list_all is_free (names_of vars)) (are_distinct bytes_eq (names_of vars)) c.requires).1
    ∙ ap (is_sort c.args.sort) (sym c.sort_in.ensures ∙ c.in-None.is))

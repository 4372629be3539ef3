use Rattle.std.proofs.Common.{ap, sym, ◌++◌, ◌∷◌, [], ◌∙◌}
use Rattle.std.specs.Str.{bytes_eq}
use Rattle.std.specs.Map.{lookup}
use Rattle.std.proofs.lemmas.List.{map-append}
use Rattle.indexmap.proofs.CallerLemmas.{insert_entry-new}
use Rattle.gv_terms.specs.Scopes.{vars_of, var_of}
use Rattle.gv_terms.proofs.ScopeLookups.{is_taken, is_free, none_there}
use Rattle.gv_terms.proofs.scope.Scope.declare.Goals as goal

pub returns-then-contains_key-clause-told : goal.returns-then-contains_key-clause-told
returns-then-contains_key-clause-told c =
    is_taken c.args.name c.self.inside.sorts.entries c.args.self.now c.self.view_is (sym c.contains_key.ensures ∙ c.if-contains_key.true)

pub returns-clause-told : goal.returns-clause-told
returns-clause-told c =
    is_free c.args.name c.self.inside.sorts.entries c.args.self.now c.self.view_is (sym c.contains_key.ensures ∙ c.if-contains_key.false)

pub returns-clause-added : goal.returns-clause-added
returns-clause-added c =
    let es = c.self.inside.sorts.entries in
    ap vars_of (c.in_ok-insert.ensures.entries
    ∙ insert_entry-new bytes_eq c.self.inside.sorts c.args.name c.args.sort (none_there (lookup (bytes_eq c.args.name) es) (sym c.contains_key.ensures ∙ c.if-contains_key.false)))
    ∙ map-append var_of es ((c.args.name, c.args.sort) ∷ [])
    ∙ ap (λ vs. vs ++ var_of (c.args.name, c.args.sort) ∷ []) c.self.view_is

use Rattle.std.proofs.Common.{rules, ◌≡◌, List, [], ◌++◌, reverse, ap, ◌∙◌}
use Rattle.std.proofs.lemmas.List.{append-nil}
use Rattle.gv_gosyntax.specs.declared.lexeme.Lexeme.{Lexeme}
use Rattle.gv_goheads.proofs.lists.names_at.Goals as goal

pub returns : goal.returns
returns c = λ ts h.
    let empty : c.new-names.result.items ≡ [] = search rules in
    c.reverse.ensures.items ∙ c.in_ok-push_names.ensures ts h ∙ ap (λ (xs : List Lexeme). ts ++ reverse xs) empty ∙ append-nil ts

use Rattle.std.proofs.Common.{List, Option, [], sym, ap, ◌∙◌}
use Rattle.std.specs.Prelude.{map}
use Rattle.gv_gosyntax.specs.declared.lexeme.Lexeme.{Lexeme}
use Rattle.gv_gotypes.specs.Trees.{keyed_of}
use Rattle.gv_gotypes.specs.Calls.{fields_of}
use Rattle.gv_gotyped.specs.declared.fault.Fault.{Fault}
use Rattle.gv_gotyped.specs.First.{first_of, earliest}
use Rattle.gv_goscopes.specs.Called.{keyed_again}
use Rattle.gv_gocalls.specs.Lists.{keyed_alone}
use Rattle.gv_gocalls.proofs.KeyedLemmas.{told_apart}
use Rattle.gv_gocalls.proofs.literals.keyed_at.Goals as goal

pub returns : goal.returns
returns g c = λ ks h.
    let env = g.N.Names.env c.args.names.now in
    let alone = first_of (keyed_alone env (fields_of env.declared c.args.base) (map keyed_of ks)) in
    c.earliest.ensures
    ∙ ap (λ (x : Option Fault). earliest x c.in_ok-again.again) (c.values_at-alone.ensures ks h)
    ∙ ap (λ (x : Option Fault). earliest alone x)
    (c.in_ok-again.ensures ∙ ap (λ (ts : List Lexeme). first_of (keyed_again env.source [] ts)) (c.deref.ensures.value ∙ c.in_ok-keys.ensures ks h))
    ∙ sym (told_apart env (fields_of env.declared c.args.base) [] ks)

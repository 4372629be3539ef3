use Rattle.std.proofs.Common.{◌≡◌, ℕ, ◌==◌, List, length, map, Option, IfOk, sym, ap, subst, ◌∙◌}
use Rattle.std.proofs.lemmas.List.{length-map}
use Rattle.gv_base.specs.declared.answers.Code.TheVariants.{WrongCount}
use Rattle.gv_operands.specs.declared.types.GoType.{GoType}
use Rattle.gv_gotypes.specs.Types.{unless}
use Rattle.gv_gotypes.specs.Trees.{Right, right_of}
use Rattle.gv_gotypes.specs.Statements.{returned, return_findings}
use Rattle.gv_gotyped.specs.declared.fault.Fault.{Fault}
use Rattle.gv_gotyped.specs.First.{first_of}
use Rattle.gv_gotyped.proofs.Firsts.{first_of_two}
use Rattle.gv_gostmts.proofs.ReturnLemmas.{as_many, no_call_alone}
use Rattle.gv_gostmts.proofs.returns.placed_return.Goals as goal

pub call_fault-requires-clause-some : goal.call_fault-requires-clause-some
call_fault-requires-clause-some g c = let k = c.in-Some.ensures c.requires.some.whole c.requires.some.are in record { whole = k.of_call; within = k.within; part = k.is }

pub returns-in-Some : goal.returns-in-Some
returns-in-Some g c = λ rs h.
    let env = g.N.Names.env c.args.names.now in
    let k = c.in-Some.ensures rs h in
    subst (λ (x : List Right). IfOk c.call_fault.result (λ (f : Option Fault). f ≡ first_of (return_findings env c.args.word x))) (sym k.same) (c.call_fault.ensures k.of_call k.is)

pub returns-in_ok-values-in-None : goal.returns-in_ok-values-in-None
returns-in_ok-values-in-None g c = λ rs h.
    let env = g.N.Names.env c.args.names.now in
    let many = as_many c.args.nodes.now c.args.places.now rs h ∙ sym (length-map rs right_of) in
    c.earliest.ensures
    ∙ first_of_two (unless (length (map right_of rs) == length env.results) c.args.word WrongCount) (returned env env.results (map right_of rs)) c.count_fault-count.result c.in_ok-values-in-None.values
    (c.count_fault-count.ensures
    ∙ ap (λ (n : ℕ). first_of (unless (n == length c.results.result.now) c.args.word WrongCount)) many
    ∙ ap (λ (ks : List (Option GoType)). first_of (unless (length (map right_of rs) == length ks) c.args.word WrongCount)) c.results.ensures)
    (c.in_ok-values-in-None.ensures rs h)
    ∙ sym (ap first_of (no_call_alone env c.args.word (map right_of rs) (c.in-None.ensures rs h)))

use Rattle.std.proofs.Common.{ℕ, List, Option, ap, ◌∙◌}
use Rattle.gv_operands.specs.declared.types.GoType.{GoType}
use Rattle.gv_gotypes.specs.Trees.{call_of}
use Rattle.gv_gotypes.specs.Calls.{answer, call_start}
use Rattle.gv_gotypes.specs.Statements.{returned_call}
use Rattle.gv_gotyped.specs.First.{first_of}
use Rattle.gv_gotyped.proofs.Firsts.{first_of_two}
use Rattle.gv_gostmts.proofs.returns.call_fault.Goals as goal

pub returns : goal.returns
returns g c = λ d h.
    let env = g.N.Names.env c.args.names.now in
    let a = answer env (call_of d) in
    let known = c.in_ok-answer.answer in
    let k = c.in_ok-answer.ensures d h in
    c.earliest.ensures
    ∙ first_of_two a.findings (returned_call env.results a c.args.word (call_start (call_of d))) known.first c.in_ok-given.given k.first
    (c.in_ok-given.ensures a k.results
    ∙ ap (λ (ks : List (Option GoType)). first_of (returned_call ks a c.args.word known.start)) c.results.ensures
    ∙ ap (λ (n : ℕ). first_of (returned_call env.results a c.args.word n)) k.start)

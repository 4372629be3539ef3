use Rattle.std.proofs.Common.{Option, subst}
use Rattle.gv_goscopes.specs.declared.called.Signature.{Signature}
use Rattle.gv_goscopes.specs.Called.{IsSignature}
use Rattle.gv_gotypes.specs.Trees.{expr_of}
use Rattle.gv_gotypes.specs.Calls.{callee}
use Rattle.gv_gocalls.proofs.FunctionLemmas.{there, nowhere}
use Rattle.gv_gocalls.proofs.calls.function_at.Goals as goal

pub returns-in-Some : goal.returns-in-Some
returns-in-Some g c = λ f es h i.
    let k = callee (g.N.Names.env c.args.names.now) (expr_of f) in
    let known = c.callee_at-callee.ensures f h in
    let s = there c.in-Some.signature k.signature (subst (λ (o : Option Signature). IsSignature o k.signature) c.in-Some.is known.signature) in
    c.known_answer.ensures (expr_of f) es k s.of_it i known s.same s.is

pub returns-in-None : goal.returns-in-None
returns-in-None g c = λ f es h i.
    let k = callee (g.N.Names.env c.args.names.now) (expr_of f) in
    let known = c.callee_at-callee.ensures f h in
    c.unknown_answer.ensures (expr_of f) es k i known (nowhere k.signature (subst (λ (o : Option Signature). IsSignature o k.signature) c.in-None.is known.signature))

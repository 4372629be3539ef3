use Rattle.std.proofs.Common.{◌≡◌, List, [], length, Option, ap, ◌∙◌, arith}
use Rattle.gv_operands.specs.declared.types.GoType.{GoType}
use Rattle.gv_gotypes.specs.Assigning.{result_findings}
use Rattle.gv_gotypes.specs.Statements.{wanted}
use Rattle.gv_gotyped.specs.First.{first_of}
use Rattle.gv_gostmts.proofs.ReturnLemmas.{given_none, given_some}
use Rattle.gv_gosimple.proofs.Splits.{none_left}
use Rattle.gv_gostmts.proofs.returns.given_fault.Goals as goal

pub returns-then-kinds-eq0 : goal.returns-then-kinds-eq0
returns-then-kinds-eq0 c = λ a h. let k = c.if-kinds-eq0.true in
    c.wrong_count.ensures ∙ given_none c.args.kinds.now a c.args.word c.args.start (none_left c.args.kinds.now (omega (arith, k)))

pub returns : goal.returns
returns c = λ a h.
    let ks = c.args.kinds.now in
    let long : ks ≡ [] → ⊥ = λ q. c.if-kinds-eq0.false (ap length q) in
    c.results_fault.ensures (wanted ks) (c.as_slice.ensures.value ∙ c.in_ok-wants.ensures)
    ∙ ap (λ (x : Option (List (Option GoType))). first_of (result_findings (wanted ks) x c.args.word c.args.start)) h
    ∙ ap first_of (given_some ks a c.args.word c.args.start long)

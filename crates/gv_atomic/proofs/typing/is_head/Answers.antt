use Rattle.std.proofs.Common.{◌≡◌, true, ◌++◌, rules}
use Rattle.std.proofs.lemmas.Result.{IfOk-weaker}
use Rattle.gv_atomic.specs.Typed.{are_names, names_of}
use Rattle.gv_atomic.proofs.OneByOne.{params_named, params_marked}
use Rattle.gv_atomic.proofs.typing.is_head.Goals as goal

pub is_term-requires-clause-names : goal.is_term-requires-clause-names
is_term-requires-clause-names c =
    let params = c.args.op.now.params in
    let own : c.declare_params.new.own ≡ params = search rules in
    let names : are_names (names_of (c.args.fields.now ++ params)) ≡ true = search rules in
    params_named c.args.fields.now c.new-none.result c.declare_params.new.own params c.new-none.ensures own names

pub returns-clause-marks : goal.returns-clause-marks
returns-clause-marks c =
    let params = c.args.op.now.params in
    let own : c.declare_params.new.own ≡ params = search rules in
    IfOk-weaker c.is_term.result _ _ (λ b h. params_marked c.args.store.now c.args.fields.now c.new-none.result c.declare_params.new.own params c.args.number b c.is_term.new.marks.items c.new-none.ensures own h) c.is_term.ensures.marks

use Rattle.std.proofs.Common.{◌≡◌, ℕ, List, Option, None, ap, sym, ◌∙◌}
use Rattle.std.specs.Prelude.{slice_range}
use Rattle.gv_gotyped.specs.First.{first_of}
use Rattle.gv_goseen.specs.Naming.{span_by}
use Rattle.gv_gomethods.specs.Methods.{method_twice_of, with_method_of}
use Rattle.gv_gomethods.proofs.Ones.{none_added, none_told}
use Rattle.gv_gomethods.proofs.methods.declare_one.Goals as goal

pub returns-in-None-clause-told : goal.returns-in-None-clause-told
returns-in-None-clause-told c = λ p growing.
    let name : List ℕ = slice_range c.args.text.now c.args.name.start c.args.name.end in
    none_told p c.args.procedure name c.args.name.start
    ∙ ap (λ (o : Option ℕ). first_of (method_twice_of p c.args.procedure name o c.args.name.start)) (sym c.in-None.is)

pub returns-in-None-clause-declared : goal.returns-in-None-clause-declared
returns-in-None-clause-declared c =
    sym (ap (λ (o : Option ℕ). with_method_of o (span_by c.args.name) c.args.procedure 0 c.args.structs.now.items) c.in-None.is
    ∙ none_added (span_by c.args.name) c.args.procedure 0 c.args.structs.now.items)

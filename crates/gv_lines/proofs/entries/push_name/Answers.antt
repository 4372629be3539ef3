use Rattle.std.proofs.Common.{ℕ, List, ◌++◌, sym, ap, ◌∙◌}
use Rattle.gv_lines.proofs.LineLemmas.{with_name, no_name}
use Rattle.gv_lines.proofs.entries.push_name.Goals as goal

pub returns-in_ok-extend_from_slice-in-Some : goal.returns-in_ok-extend_from_slice-in-Some
returns-in_ok-extend_from_slice-in-Some c =
    with_name c.args.spec.now c.args.op c.in-Some.op.now c.args.out.now.items c.extend_from_slice.new.self.items (sym c.in-Some.ensures.value)
    (c.in_ok-extend_from_slice-in-Some.ensures.items ∙ ap (λ (v : List ℕ). c.args.out.now.items ++ v) c.as_slice.ensures)

pub returns-in-None : goal.returns-in-None
returns-in-None c = no_name c.args.spec.now c.args.op c.args.out.now.items (sym c.in-None.ensures.value)

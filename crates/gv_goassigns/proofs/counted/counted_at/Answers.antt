use Rattle.std.proofs.Common.{ℕ, ap, ◌∙◌}
use Rattle.gv_operands.specs.declared.part.Want.{Want}
use Rattle.gv_gotypes.specs.Trees.{expr_of}
use Rattle.gv_gotypes.specs.Places.{start_of}
use Rattle.gv_gotypes.specs.Statements.{counted_target, word_wanted}
use Rattle.gv_gotyped.specs.First.{first_of}
use Rattle.gv_gotyped.proofs.Firsts.{first_of_two}
use Rattle.gv_goassigns.proofs.counted.counted_at.Goals as goal

pub returns : goal.returns
returns g c = λ e h.
    let t = counted_target (g.N.Names.env c.args.names.now) (expr_of e) in
    let k = c.counted_target-target.ensures e h in
    c.earliest.ensures
    ∙ first_of_two t.findings (word_wanted (start_of (expr_of e)) t.wants) c.counted_target-target.result.first c.word_fault-misfit.result k.first
    (c.word_fault-misfit.ensures
    ∙ ap (λ (n : ℕ). first_of (word_wanted n c.counted_target-target.result.wants)) (c.start_at-start.ensures e h)
    ∙ ap (λ (w : Want). first_of (word_wanted (start_of (expr_of e)) w)) k.wants)

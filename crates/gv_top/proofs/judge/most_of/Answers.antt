use Rattle.std.proofs.Common.{◌≡◌, sym, ◌∙◌, ap, arith}
use Rattle.std.specs.Fmt.{decimal}
use Rattle.gv_top.proofs.MostLemmas.{told_most, never_both, same_number, never_other}
use Rattle.gv_top.proofs.judge.most_of.Goals as goal
use Rattle.gv_top.proofs.judge.most_of.Goals.{then-most-lt1-via-then-most-lt1, then-most-lt1-via-else-most-lt1+then-most-gt-MOST_NODES, then-most-lt1-via-else-most-lt1+else-most-gt-MOST_NODES+then-ne}

pub returns-in_default-clause-none : goal.returns-in_default-clause-none
returns-in_default-clause-none c = λ most h.
    never_both c.parse.result c.in_default.field-0 most c.in_default.is (told_most c.args.word.now c.parse.result c.parse.ensures.value.0 most h)

pub returns-then-most-lt1-clause-none : goal.returns-then-most-lt1-clause-none
returns-then-most-lt1-clause-none c = λ most h.
    let told = told_most c.args.word.now c.parse.result c.parse.ensures.value.0 most h in
    let same : c.in-Ok.most ≡ most = same_number c.parse.result c.in-Ok.most most c.in-Ok.is told in
    let some = h.within.some in
    let few = h.within.few in
    elim c.then-most-lt1.branch [
      | then-most-lt1-via-then-most-lt1 w ↦ (let low = w.if-most-lt1.true in omega (arith, same, low, some))
      | then-most-lt1-via-else-most-lt1+then-most-gt-MOST_NODES w ↦ (let high = w.if-most-gt-MOST_NODES.true in omega (arith, same, high, few))
      | then-most-lt1-via-else-most-lt1+else-most-gt-MOST_NODES+then-ne w ↦
          never_other w.format.result.now c.args.word.now (w.format.ensures.text ∙ ap decimal same ∙ sym h.spelled) w.if-ne.ensures
    ]

use Rattle.std.proofs.Common.{length, ap, sym, ◌∙◌, arith}
use Rattle.gv_terms.specs.declared.term.Term.{Term}
use Rattle.gv_terms.specs.Store.{trees_at}
use Rattle.gv_terms.proofs.SameTerms.{parts_same, as_many, each_same}
use Rattle.gv_terms.proofs.store.TermStore.+same.Goals as goal

pub returns-then-these-those : goal.returns-then-these-those
returns-then-these-those g t c = (
  (λ no. absurd cc),
  (λ e.
      let ts = c.args.self.now in
      let parts = parts_same ts c.args.a.id c.args.b.id c.node-first.result.now c.node-second.result.now c.in-Apply.field-0 c.node-first.ensures c.node-second.ensures (c.same.ensures.0 c.if-not-same.false) c.in-Apply.is e in
      absurd (c.if-these-those.true (ap length c.as_slice-these.ensures ∙ as_many ts c.node-first.result.now.parts c.node-second.result.now.parts parts ∙ ap length (sym c.as_slice-those.ensures)))),
)

pub returns-then-not-same-2 : goal.returns-then-not-same-2
returns-then-not-same-2 g t c = (
  (λ no. absurd cc),
  (λ e.
      let ts = c.args.self.now in
      let parts = parts_same ts c.args.a.id c.args.b.id c.node-first.result.now c.node-second.result.now c.in-Apply.field-0 c.node-first.ensures c.node-second.ensures (c.same.ensures.0 c.if-not-same.false) c.in-Apply.is e in
      let these = ap (λ ps. trees_at ts ps) c.as_slice-these.ensures ∙ parts ∙ ap (λ ps. trees_at ts ps) (sym c.as_slice-those.ensures) in
      let zero : Term = record { id = 0 } in
      let here = each_same ts c.as_slice-these.result.now c.as_slice-those.result.now c.loop-i.i zero zero c.loop-i-test.true (omega (arith, c.loop-i-test.true, c.if-these-those.false)) these in
      let yes = c.same-in-loop-i.ensures.1 here in
      let no = c.if-not-same-2.true in
      absurd cc),
)

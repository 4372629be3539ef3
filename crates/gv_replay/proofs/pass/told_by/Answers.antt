use Rattle.std.proofs.Common.{◌∙◌, ap, sym, length}
use Rattle.gv_replay.specs.Reading.{told_by}
use Rattle.gv_replay.proofs.SpanLemmas.{first_within, rest_spans, rest_told, first_refused, end_told, end_refused, stops_on}
use Rattle.gv_replay.proofs.pass.told_by.Goals as goal

pub sight_of-requires-clause-within : goal.sight_of-requires-clause-within
sight_of-requires-clause-within g c = first_within c.loop-left.behind (length c.args.text.now) c.loop-left.left.now _ c.in-len1-up.len_at_least c.loop-left.invariant.spans

pub returns-in_err-progress-clause-err : goal.returns-in_err-progress-clause-err
returns-in_err-progress-clause-err g c =
    let with_line = g.A.Account.with_line c.args.spec.now in
    let told = told_by with_line c.args.start c.args.kind c.args.text.now c.args.tokens.now in
    stops_on told c.from_residual-in_err-progress.result c.in_err-progress.field-0.0 c.from_residual-in_err-progress.ensures.1
    (first_refused with_line c.args.kind (length c.args.text.now) c.args.text.now c.loop-left.behind c.loop-left.left.now _ c.loop-left.progress c.in_ok-sight.sight told c.in_err-progress.field-0.0
    c.in-len1-up.len_at_least c.in_ok-sight.ensures c.in_err-progress.ensures.err c.loop-left.invariant.same)

pub loop-left-preserved : goal.loop-left-preserved
loop-left-preserved g c = record {
  spans = rest_spans c.loop-left.behind (length c.args.text.now) c.loop-left.left.now _ c.in-len1-up.len_at_least c.loop-left.invariant.spans;
  same = rest_told (g.A.Account.with_line c.args.spec.now) c.args.kind (length c.args.text.now) c.args.text.now c.loop-left.behind c.loop-left.left.now _ c.loop-left.progress c.in_ok-sight.sight c.in_ok-progress.progress _
      c.in-len1-up.len_at_least c.in_ok-sight.ensures c.in_ok-progress.ensures.ok c.loop-left.invariant.same;
}

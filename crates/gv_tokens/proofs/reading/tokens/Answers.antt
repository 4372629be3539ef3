use Rattle.gv_text.proofs.FirstFaults.{judged_so, read_so, refused_so}
use Rattle.gv_text.proofs.Spans.{spans_of}
use Rattle.gv_tokens.specs.Reading.{go}
use Rattle.gv_tokens.proofs.GoSpans.{go_lays_in_order}
use Rattle.gv_tokens.proofs.reading.tokens.Goals as goal

pub returns : goal.returns
returns c =
    let text = c.args.text.now in
    let result = c.judged.result in
    let so = judged_so go text c.tokens_of.result c.utf8_end.result result c.tokens_of.ensures c.utf8_end.ensures c.judged.ensures in
    record {
      read = so.0;
      only = read_so go text result so.0 so.1;
      spans = spans_of go go_lays_in_order text result so.0;
      refused = so.1;
      fault = refused_so go text result so.0 so.1;
    }

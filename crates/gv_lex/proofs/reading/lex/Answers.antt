use Rattle.gv_text.proofs.FirstFaults.{judged_so, read_so, refused_so}
use Rattle.gv_text.proofs.Spans.{spans_of}
use Rattle.gv_lex.specs.Reading.{own, one_word}
use Rattle.gv_lex.proofs.OwnPieces.{own_lays_in_order}
use Rattle.gv_lex.proofs.OwnWords.{words_so, identifier_is_read}
use Rattle.gv_lex.proofs.reading.lex.Goals as goal

pub returns : goal.returns
returns c =
    let text = c.args.text.now in
    let result = c.judged.result in
    let so = judged_so own text c.tokens_of.result c.utf8_end.result result c.tokens_of.ensures c.utf8_end.ensures c.judged.ensures in
    let only = read_so own text result so.0 so.1 in
    record {
      read = so.0;
      only = only;
      words = words_so text result so.0;
      word = λ h. only (one_word text) (identifier_is_read text h);
      spans = spans_of own own_lays_in_order text result so.0;
      refused = so.1;
      fault = refused_so own text result so.0 so.1;
    }

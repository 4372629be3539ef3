use Rattle.gv_text.proofs.NextPieces.{next_right, next_wrong, next_stray}
use Rattle.gv_tokens.specs.Reading.{go}
use Rattle.gv_tokens.proofs.GoPieces.{go_shows}
use Rattle.gv_tokens.proofs.reading.next_piece.Goals as goal

pub returns-then-len-eq0-clause-fault : goal.returns-then-len-eq0-clause-fault
returns-then-len-eq0-clause-fault c =
    next_stray go go_shows c.args.text.now c.form_of-form.result c.len_of-len.result c.form_of-form.ensures c.len_of-len.ensures.value c.requires c.if-len-eq0.true

pub returns-in-Some-clause-fault : goal.returns-in-Some-clause-fault
returns-in-Some-clause-fault c =
    next_wrong go go_shows c.args.text.now c.form_of-form.result c.len_of-len.result c.form_of-form.ensures c.len_of-len.ensures.value c.len_of-len.ensures.within c.if-len-eq0.false c.in-Some.fault c.in-Some.ensures.value

pub returns-in-None-clause-piece : goal.returns-in-None-clause-piece
returns-in-None-clause-piece c =
    next_right go go_shows c.args.text.now c.form_of-form.result c.len_of-len.result c.form_of-form.ensures c.len_of-len.ensures.value c.len_of-len.ensures.within c.if-len-eq0.false c.in-None.ensures.value

use Rattle.std.proofs.Common.{ℕ, Option, option_map, ap}
use Rattle.gv_base.specs.declared.answers.Code.{Code}
use Rattle.gv_text.proofs.NextPieces.{next_right, next_wrong, next_stray}
use Rattle.gv_lex.specs.Reading.{own}
use Rattle.gv_lex.proofs.OwnPrefixes.{own_shows}
use Rattle.gv_lex.proofs.reading.next_piece.Goals as goal

-- a code at the start of a piece
abbrev at_start : Option Code → Option (ℕ × Code)
at_start found = option_map (λ code. (0, code)) found

pub returns-then-len-eq0-clause-fault : goal.returns-then-len-eq0-clause-fault
returns-then-len-eq0-clause-fault c =
    next_stray own own_shows c.args.text.now c.form_of-form.result c.len_of-len.result c.form_of-form.ensures c.len_of-len.ensures.value c.requires c.if-len-eq0.true

pub returns-in-Some-clause-fault : goal.returns-in-Some-clause-fault
returns-in-Some-clause-fault c =
    next_wrong own own_shows c.args.text.now c.form_of-form.result c.len_of-len.result c.form_of-form.ensures c.len_of-len.ensures.value c.len_of-len.ensures.within c.if-len-eq0.false
    (0, c.in-Some.code) (ap at_start c.in-Some.ensures)

pub returns-in-None-clause-piece : goal.returns-in-None-clause-piece
returns-in-None-clause-piece c =
    next_right own own_shows c.args.text.now c.form_of-form.result c.len_of-len.result c.form_of-form.ensures c.len_of-len.ensures.value c.len_of-len.ensures.within c.if-len-eq0.false
    (ap at_start c.in-None.ensures)

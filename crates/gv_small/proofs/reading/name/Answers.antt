use Rattle.std.proofs.Common.{sym, ◌∙◌}
use Rattle.gv_small.specs.Reading.{word_at}
use Rattle.gv_small.specs.Forms.{is_name, is_operation_name}
use Rattle.gv_small.specs.Cursor.{kinds_left, tokens_left}
use Rattle.gv_small.proofs.WordLemmas.{word_passes, word_fails, placed_passes, refused}
use Rattle.gv_small.proofs.reading.name.Goals as goal

pub returns-then-is_name-clause-ok : goal.returns-then-is_name-clause-ok
returns-then-is_name-clause-ok c =
    word_passes is_name (kinds_left c.args.cursor.now) c.in_ok-word.word.now (kinds_left c.word.new.cursor) c.in_ok-word.ensures.ok (sym c.is_name.ensures ∙ c.if-is_name.true)

pub returns-then-is_name-clause-placed : goal.returns-then-is_name-clause-placed
returns-then-is_name-clause-placed c =
    placed_passes is_name (tokens_left c.args.cursor.now) c.in_ok-word.word.now (tokens_left c.word.new.cursor) c.in_ok-word.ensures.placed (sym c.is_name.ensures ∙ c.if-is_name.true)

pub returns-else-is_name-clause-err : goal.returns-else-is_name-clause-err
returns-else-is_name-clause-err c =
    refused (word_at is_name (kinds_left c.args.cursor.now)) c.not_of_form.result
    (word_fails is_name (kinds_left c.args.cursor.now) c.in_ok-word.word.now (kinds_left c.word.new.cursor) c.in_ok-word.ensures.ok (sym c.is_name.ensures ∙ c.if-is_name.false)) c.not_of_form.ensures

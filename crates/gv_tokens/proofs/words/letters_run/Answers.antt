use Rattle.std.proofs.Common.{◌∙◌, sym}
use Rattle.std.proofs.lemmas.List.{take_rest}
use Rattle.gv_tokens.proofs.Letters.{letters_turn}
use Rattle.gv_tokens.proofs.words.letters_run.Goals as goal

pub loop-at-preserved : goal.loop-at-preserved
loop-at-preserved c =
    let found = rw (take_rest c.args.text.now c.loop-at.at) at c.in-Some.ensures.value in
    let fits = rw (take_rest c.args.text.now c.loop-at.at) at c.in-Some.ensures.within in
    let turn = letters_turn c.args.text.now c.loop-at.at c.char_len-at.result c.in-Some.c c.char_len-at.ensures found (sym c.is_letter_or_digit.ensures ∙ c.if-is_letter_or_digit.true) fits c.loop-at.invariant.within in
    record { within = turn.0; read = turn.1 ∙ c.loop-at.invariant.read }

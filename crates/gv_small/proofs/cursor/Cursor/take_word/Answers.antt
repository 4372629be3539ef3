use Rattle.std.proofs.Common.{arith, refl}
use Rattle.std.proofs.lemmas.Grind.{common_steps}
use Rattle.gv_small.proofs.CursorLemmas.{word_taken}
use Rattle.gv_small.proofs.cursor.Cursor.take_word.Goals as goal

pub returns-clause-taken : goal.returns-clause-taken
returns-clause-taken c =
    let self = c.args.self.now in
    word_taken self.go self.pending c.semicolon_at-self.result self.place _ self.rest.now c.split_at.result.0.now c.split_at.result.1.now c.word_length.result c.split_at.ensures.front c.split_at.ensures.back c.word_length.ensures.word c.word_length.ensures.ends c.requires refl (grind (arith, common_steps))

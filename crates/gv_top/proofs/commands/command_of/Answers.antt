use Rattle.std.proofs.Common.{◌≡◌, length, arith}
use Rattle.gv_top.proofs.CommandLemmas.{none_on, own_four}
use Rattle.gv_top.proofs.commands.command_of.Goals as goal

pub returns-in-len4-clause-none : goal.returns-in-len4-clause-none
returns-in-len4-clause-none c =
    let own = c.own_words.result.now in
    let count : length own ≡ 4 = omega arith in
    none_on _ _ c.of_three.result (λ none command asks. none command (rw (c.as_str.ensures.value, c.as_str-in-len4.ensures.value, c.as_str-in-len4-2.ensures.value, c.as_str-in-len4-3.ensures.value)
    (own_four _ own command (rw c.as_slice.ensures.value at c.own_words.ensures) c.word-item.result c.first-item.result c.second-item.result c.third-item.result count
    c.word-item.is c.first-item.is c.second-item.is c.third-item.is asks)))
    c.of_three.ensures.none

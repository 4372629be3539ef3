use Rattle.std.proofs.Common.{refl, sym, subst}
use Rattle.gv_base.specs.declared.answers.Code.{Code}
use Rattle.gv_grammar.specs.Text.{Says}
use Rattle.gv_grammar.specs.declared.read_faults.ReadFault.{ReadFault}
use Rattle.gv_termread.specs.declared.reading.TheConstants.{MAX_LEVELS}
use Rattle.gv_scriptsyntax.specs.Language.{IsScript}
use Rattle.gv_scriptparse.specs.Reading.{IsRefusedAt, unexpected, too_deep, end_of_text}
use Rattle.gv_scriptparse.proofs.reading.refusal_of.Goals as goal

pub returns-in-Refused : goal.returns-in-Refused
returns-in-Refused c =
    let says = subst (λ (fault : ReadFault). Says (IsScript c.args.text.now 0) MAX_LEVELS c.args.tokens.now fault) c.in-Refused.is c.requires.says in
    let t = c.token_at-token.result in
    rw (c.refusal_at.ensures) (t.start, refl, subst (λ (d : Code). IsRefusedAt c.args.text.now c.args.tokens.now t.start d) (sym c.code_of.ensures) (unexpected c.in-Refused.at t c.token_at-token.ensures says.0 says.1))

pub returns-in-TooDeep : goal.returns-in-TooDeep
returns-in-TooDeep c =
    let says = subst (λ (fault : ReadFault). Says (IsScript c.args.text.now 0) MAX_LEVELS c.args.tokens.now fault) c.in-TooDeep.is c.requires.says in
    let t = c.token_at-token-in-TooDeep.result in
    rw (c.refusal_at-in-TooDeep.ensures) (t.start, refl, too_deep c.in-TooDeep.at t c.token_at-token-in-TooDeep.ensures says)

pub returns-in-End : goal.returns-in-End
returns-in-End c =
    let says = subst (λ (fault : ReadFault). Says (IsScript c.args.text.now 0) MAX_LEVELS c.args.tokens.now fault) c.in-End.is c.requires.says in
    rw (c.refusal_at-in-End.ensures) (_, refl, end_of_text says.0 says.1)

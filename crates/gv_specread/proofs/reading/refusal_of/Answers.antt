use Rattle.std.proofs.Common.{ℕ, refl, sym, subst}
use Rattle.gv_base.specs.declared.answers.Code.{Code}
use Rattle.gv_grammar.specs.Text.{Says}
use Rattle.gv_grammar.specs.declared.read_faults.ReadFault.{ReadFault}
use Rattle.gv_termread.specs.declared.reading.TheConstants.{MAX_LEVELS}
use Rattle.gv_termread.specs.Reading.{code_of}
use Rattle.gv_specread.specs.Language.{IsSpec}
use Rattle.gv_specread.specs.Reading.{IsRefusedAt, unexpected, too_deep, end_of_text}
use Rattle.gv_specread.proofs.reading.refusal_of.Goals as goal

pub returns-in-Refused : goal.returns-in-Refused
returns-in-Refused c =
    let says = subst (λ (fault : ReadFault). Says (IsSpec c.args.text.now 0) MAX_LEVELS c.args.tokens.now fault) c.in-Refused.is c.requires.says in
    let t = c.token_at.result in
    let there : IsRefusedAt c.args.text.now c.args.tokens.now t.start (code_of t.class) = unexpected c.in-Refused.at t c.token_at.ensures says.0 says.1 in
    let at : IsRefusedAt c.args.text.now c.args.tokens.now c.fault_of-start.result.0 (code_of t.class) =
    subst (λ (n : ℕ). IsRefusedAt c.args.text.now c.args.tokens.now n (code_of t.class)) (sym c.fault_of-start.ensures.place) there in
    rw (c.refusal_at.ensures) (c.fault_of-start.result.0, refl, subst (λ (d : Code). IsRefusedAt c.args.text.now c.args.tokens.now c.fault_of-start.result.0 d) (sym c.fault_of-start.ensures.code) at)

pub returns-in-TooDeep : goal.returns-in-TooDeep
returns-in-TooDeep c =
    let says = subst (λ (fault : ReadFault). Says (IsSpec c.args.text.now 0) MAX_LEVELS c.args.tokens.now fault) c.in-TooDeep.is c.requires.says in
    let t = c.token_at-token.result in
    rw (c.refusal_at-in-TooDeep.ensures) (t.start, refl, too_deep c.in-TooDeep.at t c.token_at-token.ensures says)

pub returns-in-End : goal.returns-in-End
returns-in-End c =
    let says = subst (λ (fault : ReadFault). Says (IsSpec c.args.text.now 0) MAX_LEVELS c.args.tokens.now fault) c.in-End.is c.requires.says in
    rw (c.refusal_at-in-End.ensures) (_, refl, end_of_text says.0 says.1)

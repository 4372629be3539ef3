use Rattle.gv_replay.proofs.AnswerLemmas.{tells, unread_only, unread_fault, told_only, told_fault, stopped_only, stopped_refused, stopped_fault}
use Rattle.gv_replay.proofs.pass.read.Goals as goal

pub returns-in_err-tokens-clause-only : goal.returns-in_err-tokens-clause-only
returns-in_err-tokens-clause-only g c = λ told t.
    unread_only (g.A.Account.with_line c.args.spec.now) c.args.start c.args.kind c.args.text.now told c.from_residual.result c.in_err-tokens.field-0.0 c.from_residual.ensures.1 c.in_err-tokens.ensures.only t

pub returns-in_err-tokens-clause-fault : goal.returns-in_err-tokens-clause-fault
returns-in_err-tokens-clause-fault g c = λ at code r.
    unread_fault (g.A.Account.with_line c.args.spec.now) c.args.start c.args.kind c.args.text.now c.from_residual.result c.in_err-tokens.field-0.0 c.from_residual.ensures.1 c.in_err-tokens.ensures.only c.in_err-tokens.ensures.fault at code r

pub returns-in-Ok-clause-found : goal.returns-in-Ok-clause-found
returns-in-Ok-clause-found g c =
    tells (g.A.Account.with_line c.args.spec.now) c.args.start c.args.kind c.args.text.now c.in_ok-tokens.tokens.items c.in-Ok.told c.in_ok-tokens.ensures.read (rw c.as_slice.ensures.value at c.in-Ok.ensures.ok)

pub returns-in-Ok-clause-only : goal.returns-in-Ok-clause-only
returns-in-Ok-clause-only g c = λ told t.
    told_only (g.A.Account.with_line c.args.spec.now) c.args.start c.args.kind c.args.text.now c.in_ok-tokens.tokens c.in-Ok.told told c.in_ok-tokens.ensures.only (rw c.as_slice.ensures.value at c.in-Ok.ensures.ok) t

pub returns-in-Ok-clause-fault : goal.returns-in-Ok-clause-fault
returns-in-Ok-clause-fault g c = λ at code r.
    told_fault (g.A.Account.with_line c.args.spec.now) c.args.start c.args.kind c.args.text.now c.in_ok-tokens.tokens c.in-Ok.told c.in_ok-tokens.ensures.only c.in_ok-tokens.ensures.fault (rw c.as_slice.ensures.value at c.in-Ok.ensures.ok) at code r

pub returns-clause-only : goal.returns-clause-only
returns-clause-only g c = λ told t.
    rw c.refusal_of.ensures (stopped_only (g.A.Account.with_line c.args.spec.now) c.args.start c.args.kind c.args.text.now c.in_ok-tokens.tokens c.in-Err.stop told c.in_ok-tokens.ensures.only (rw c.as_slice.ensures.value at c.in-Err.ensures.err) t)

pub returns-clause-refused : goal.returns-clause-refused
returns-clause-refused g c =
    rw c.refusal_of.ensures (stopped_refused (g.A.Account.with_line c.args.spec.now) c.args.start c.args.kind c.args.text.now c.in_ok-tokens.tokens c.in-Err.stop c.in_ok-tokens.ensures.read (rw c.as_slice.ensures.value at c.in-Err.ensures.err))

pub returns-clause-fault : goal.returns-clause-fault
returns-clause-fault g c = λ at code r.
    rw c.refusal_of.ensures (stopped_fault (g.A.Account.with_line c.args.spec.now) c.args.start c.args.kind c.args.text.now c.in_ok-tokens.tokens c.in-Err.stop c.in_ok-tokens.ensures.only c.in_ok-tokens.ensures.fault (rw c.as_slice.ensures.value at c.in-Err.ensures.err) at code r)

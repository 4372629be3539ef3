use Rattle.gv_judge.proofs.RepeatLaws.{call_repeats, call_numbers, other_repeats, other_numbers}
use Rattle.gv_judge.proofs.repeats.is_repeat.Goals as goal

pub returns-in_ok-is_new-in-Call-clause-told : goal.returns-in_ok-is_new-in-Call-clause-told
returns-in_ok-is_new-in-Call-clause-told c =
    call_repeats c.args.entry.now c.in-Call.number c.in-Call.op c.in-Call.args c.args.seen.now.keys c.in_ok-is_new-in-Call.is_new c.in-Call.is c.in_ok-is_new-in-Call.ensures.added

pub returns-in_ok-is_new-in-Call-clause-seen : goal.returns-in_ok-is_new-in-Call-clause-seen
returns-in_ok-is_new-in-Call-clause-seen c =
    call_numbers c.args.entry.now c.in-Call.number c.in-Call.op c.in-Call.args c.args.seen.now.keys c.insert.new.self.keys c.in-Call.is c.in_ok-is_new-in-Call.ensures.keys

pub returns-in_default : goal.returns-in_default
returns-in_default c = record {
  told = λ before h. other_repeats c.args.entry.now (λ number op args e. c.in_default.not-Call number op args e) before;
  seen = λ before h. other_numbers c.args.entry.now (λ number op args e. c.in_default.not-Call number op args e) c.args.seen.now.keys before h;
}

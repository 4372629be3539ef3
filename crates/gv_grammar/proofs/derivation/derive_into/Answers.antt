use Rattle.std.proofs.Common.{rules, ◌≡◌, ◌<◌, ℕ, List, length, take, arith, subst}
use Rattle.std.proofs.lemmas.List.{take_more}
use Rattle.gv_grammar.specs.Derivation.{tables_of}
use Rattle.gv_grammar.specs.Outcomes.{IsDerivation, EndsEarly}
use Rattle.gv_grammar.proofs.Seen.{reading_none, reading_more, reading_viable, reading_whole, not_taken, not_finished, take_all, begin_kept}
use Rattle.gv_grammar.proofs.derivation.derive_into.Goals as goal

pub loop-at-init : goal.loop-at-init
loop-at-init c = rw (c.in_ok-push.ensures.items, c.new-stack.ensures.items, c.requires.none) (reading_none (tables_of c.args.grammar.now) c.args.root c.requires.begins)

pub loop-at-preserved : goal.loop-at-preserved
loop-at-preserved c =
    let g = tables_of c.args.grammar.now in
    let within : c.loop-at.at < length c.args.classes.now = omega arith in
    let a = rw c.in-Taken.is at c.in_ok-take_class.ensures in
    rw (take_more c.args.classes.now c.loop-at.at 0 within) (reading_more g c.args.root _ _ _ _ _ a.0 _ c.loop-at.invariant a.1 a.2 a.3)

pub returns-in-Refused-clause-fault : goal.returns-in-Refused-clause-fault
returns-in-Refused-clause-fault c =
    let g = tables_of c.args.grammar.now in
    let within : c.loop-at.at < length c.args.classes.now = omega arith in
    let a = not_taken g c.args.root _ _ _ _ _ _ _ c.loop-at.invariant c.in_ok-take_class.ensures c.in-Refused.is in
    record {
      within = within;
      viable = reading_viable g c.args.root _ _ _ c.requires.begins c.loop-at.invariant;
      stuck = rw (take_more c.args.classes.now c.loop-at.at 0 within) a.2;
    }

pub returns-in-Refused-clause-front : goal.returns-in-Refused-clause-front
returns-in-Refused-clause-front c =
    let k : c.len-kept.result ≡ length c.loop-at.steps.items = search rules in
    let a = not_taken (tables_of c.args.grammar.now) c.args.root _ _ _ _ _ _ _ c.loop-at.invariant c.in_ok-take_class.ensures c.in-Refused.is in
    begin_kept (tables_of c.args.grammar.now) c.args.root _ _ _ a.0 _ _ _ k c.requires.begins c.loop-at.invariant a.1 c.truncate.ensures.items

pub returns-in-Finished-clause-derived : goal.returns-in-Finished-clause-derived
returns-in-Finished-clause-derived c =
    let g = tables_of c.args.grammar.now in
    let a = rw c.in-Finished.is at c.in_ok-take_class-2.ensures in
    let all : take c.loop-at.at c.args.classes.now ≡ c.args.classes.now = take_all c.args.classes.now c.loop-at.at (omega arith) in
    subst (λ (seen : List ℕ). IsDerivation g c.args.root c.take_class-2.new.steps.items seen) all (reading_whole g c.args.root _ _ _ a.0 _ c.loop-at.invariant a.1 a.2)

pub returns-clause-fault : goal.returns-clause-fault
returns-clause-fault c =
    let g = tables_of c.args.grammar.now in
    let a = not_finished g c.args.root _ _ _ _ _ _ c.requires.begins c.loop-at.invariant c.in_ok-take_class-2.ensures c.in-Refused-2.is in
    let all : take c.loop-at.at c.args.classes.now ≡ c.args.classes.now = take_all c.args.classes.now c.loop-at.at (omega arith) in
    subst (λ (seen : List ℕ). EndsEarly g c.args.root seen) all a.2

pub returns-clause-front : goal.returns-clause-front
returns-clause-front c =
    let k : c.len-kept-2.result ≡ length c.loop-at.steps.items = search rules in
    let a = not_finished (tables_of c.args.grammar.now) c.args.root _ _ _ _ _ _ c.requires.begins c.loop-at.invariant c.in_ok-take_class-2.ensures c.in-Refused-2.is in
    let all : take c.loop-at.at c.args.classes.now ≡ c.args.classes.now = take_all c.args.classes.now c.loop-at.at (omega arith) in
    begin_kept (tables_of c.args.grammar.now) c.args.root _ _ _ a.0 _ _ _ k c.requires.begins (rw all at c.loop-at.invariant) a.1 c.truncate-in-Refused-2.ensures.items

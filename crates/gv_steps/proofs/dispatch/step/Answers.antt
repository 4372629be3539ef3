-- What a step leaves has bounded slices alone.
use Rattle.gv_lang.specs.Plain.{program_of}
use Rattle.gv_thread.specs.Frames.{thread_of}
use Rattle.gv_steps.proofs.Wanted.{store_bounded, after_bounded}
use Rattle.gv_steps.proofs.dispatch.step.Goals as goal

pub returns-clause-store : goal.returns-clause-store
returns-clause-store c =
    store_bounded (program_of c.args.g.now) c.args.extra (thread_of c.args.thread.now) c.args.store.now
    (thread_of c.act-result.new.thread) c.act-result.new.store
    c.requires.thread c.requires.store c.act-result.result c.act-result.ensures

pub returns-clause-after : goal.returns-clause-after
returns-clause-after c =
    after_bounded (program_of c.args.g.now) c.args.extra (thread_of c.args.thread.now) c.args.store.now
    (thread_of c.act-result.new.thread) c.act-result.new.store
    c.requires.thread c.requires.store c.act-result.result c.act-result.ensures

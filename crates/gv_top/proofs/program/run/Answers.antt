use Rattle.gv_report.specs.Heard.{Heard, heard}
use Rattle.gv_top.specs.Commands.{texts}
use Rattle.gv_top.specs.Files.{Asked, asked, outside}
use Rattle.gv_top.proofs.ExactLemmas.{exact}
use Rattle.gv_top.proofs.JudgeLemmas.{judged}
use Rattle.gv_top.proofs.ReplayLemmas.{replayed}
use Rattle.gv_top.proofs.RunLemmas as run
use Rattle.gv_top.proofs.WrittenLemmas.{accepted}
use Rattle.gv_top.proofs.program.run.Goals as goal

pub returns-clause-promise : goal.returns-clause-promise
returns-clause-promise g c =
    let words = texts c.args.words.now.items in
    let a : Asked = asked g.F.Files.held g.F.Files.faults g.F.Files.failed c.args.files.now c.deserved-report.new.files in
    let h : Heard = heard g.K.Sink.written g.K.Sink.faults c.args.out.now c.tell-2.new.out in
    let z = c.new.result in
    let status = c.tell-2.result in
    let d = run.answered words a c.deserved-report.result.0 c.deserved-report.result.1 z c.deserved-report.ensures.deserved c.new.ensures in
    record {
      accepted = λ given. accepted words a h z status d c.tell-2.ensures given;
      explained = λ s x m asks l. run.explained words a h z status d c.tell-2.ensures s x m asks l;
      replayed = λ p s x asks ends.
          replayed words a h z status c.tell-2.ensures (λ command others. run.comes_of words (outside a.held) command z.report z.format others d.given) p s x asks ends;
      judged = λ s x most asks ends.
          judged words a h z status c.tell-2.ensures (λ command others. run.comes_of words (outside a.held) command z.report z.format others d.given) s x most asks ends;
    }

pub returns-clause-answered : goal.returns-clause-answered
returns-clause-answered g c =
    let words = texts c.args.words.now.items in
    let a : Asked = asked g.F.Files.held g.F.Files.faults g.F.Files.failed c.args.files.now c.deserved-report.new.files in
    let h : Heard = heard g.K.Sink.written g.K.Sink.faults c.args.out.now c.tell-2.new.out in
    let z = c.new.result in
    let status = c.tell-2.result in
    let d = run.answered words a c.deserved-report.result.0 c.deserved-report.result.1 z c.deserved-report.ensures.deserved c.new.ensures in
    let t = c.tell-2.ensures in
    record {
      usage = run.usage_status words a h z d status t;
      usage_only = run.usage_only words a h z d status t;
      told = run.told words a h z d status t;
      calm = run.calm words a h z d status t;
      cut_off = run.cut_off words a h z d status t;
      always_cut_off = run.always_cut_off words a h z d status t;
      exact = λ q f defined n absent calm. exact words a absent h z q f status d t defined n calm;
      known = run.known words a h z d status t;
    }

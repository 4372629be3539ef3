use Rattle.std.proofs.Common.{refl, ap, ◌∙◌}
use Rattle.gv_gonames.proofs.Lookups.{at, entry_put}
use Rattle.gv_gonames.proofs.innermost.put.Goals as goal

pub returns-clause-put : goal.returns-clause-put
returns-clause-put c n = ap (λ es. at es n) c.in_ok-insert.ensures.entries ∙ entry_put _ (λ a b. refl) c.args.seen.now.entries c.args.name c.args.local n

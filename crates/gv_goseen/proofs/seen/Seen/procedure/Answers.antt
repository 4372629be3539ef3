use Rattle.std.proofs.Common.{Option, Some, None, subst}
use Rattle.gv_gotypes.specs.Scopes.{Signature}
use Rattle.gv_goscopes.specs.Called.{IsSignature}
use Rattle.gv_goseen.proofs.seen.Seen.procedure.Goals as goal

pub returns-in-Some : goal.returns-in-Some
returns-in-Some c = subst (λ (o : Option Signature). IsSignature (Some c.signature_in.result) o) c.in-Some.ensures c.signature_in.ensures

pub returns-in-None : goal.returns-in-None
returns-in-None c = subst (λ (o : Option Signature). IsSignature None o) c.in-None.ensures tt

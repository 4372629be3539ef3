use Rattle.std.proofs.Common.{◌≡◌}
use Rattle.std.specs.Prelude.{Vec}
use Rattle.std.specs.declared.alloc.Global.{Global}
use Rattle.gv_base.specs.declared.token.Token.{Token}
use Rattle.gv_interfaces.proofs.Deciding.{never_refused}
use Rattle.gv_interfaces.proofs.places.tokens_of.Goals as goal

pub unreachable-requires : goal.unreachable-requires
unreachable-requires c =
    let has = c.requires.spelled.has in
    never_refused (λ (read : Vec Token Global). read.items ≡ has.tokens) c.in-Err-At.field-0 c.in-Err-At.field-0-0 c.in-Err-At.field-0-1 c.in-Err-At.field-0-is
    (c.in-Err-At.ensures.only has.tokens has.cut)

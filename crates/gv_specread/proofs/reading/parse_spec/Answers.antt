use Rattle.gv_text.proofs.Answered.{only_so, fault_so}
use Rattle.gv_specread.specs.Seen.{seen}
use Rattle.gv_specread.specs.Reading.{IsRead, IsRefusedAt}
use Rattle.gv_specread.proofs.Decided.{spec_decided}
use Rattle.gv_specread.proofs.reading.parse_spec.Goals as goal

pub returns : goal.returns
returns c =
    let text = c.args.text.now in
    let tokens = seen text c.args.tokens.now in
    let result = c.read_or_refused.result in
    let read = c.read_or_refused.ensures.read in
    let refused = c.read_or_refused.ensures.refused in
    let one = spec_decided text tokens in
    record {
      read = read;
      only = only_so (λ v. v) text (IsRead text tokens) (IsRefusedAt text tokens) one result read refused;
      refused = refused;
      fault = fault_so (λ v. v) text (IsRead text tokens) (IsRefusedAt text tokens) one result read refused;
    }

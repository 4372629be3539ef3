use Rattle.std.proofs.Common.{ap, sym, ◌∙◌}
use Rattle.serde_json.specs.Data.{string}
use Rattle.gv_json.proofs.LineLemmas.{whole_text, no_text}
use Rattle.gv_json.proofs.line.text_of.Goals as goal

pub returns-in_ok-try_from_str-in-Ok : goal.returns-in_ok-try_from_str-in-Ok
returns-in_ok-try_from_str-in-Ok c =
    let said = c.in-Ok.ensures.cases in
    c.in_ok-try_from_str-in-Ok.ensures ∙ ap string said.0 ∙ sym (ap string (whole_text c.args.bytes.now said.1))

pub returns-in_ok-try_from_str-in-Err : goal.returns-in_ok-try_from_str-in-Err
returns-in_ok-try_from_str-in-Err c =
    c.in_ok-try_from_str-in-Err.ensures ∙ sym (ap string (no_text c.args.bytes.now c.in-Err.ensures.cases.0))

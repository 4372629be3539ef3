use Rattle.gv_scriptparse.specs.Seen.{seen}
use Rattle.gv_scriptparse.proofs.Decided.{tree_only, tree_fault}
use Rattle.gv_scriptparse.proofs.reading.parse_script.Goals as goal

pub returns : goal.returns
returns c =
    let text = c.args.text.now in
    let tokens = seen text c.args.tokens.now in
    let result = c.read_or_refused.result in
    let read = c.read_or_refused.ensures.read in
    let refused = c.read_or_refused.ensures.refused in
    record {
      read = read;
      only = tree_only text tokens result read refused;
      refused = refused;
      fault = tree_fault text tokens result read refused;
    }

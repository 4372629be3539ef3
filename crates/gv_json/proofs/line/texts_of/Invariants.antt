use Rattle.std.proofs.Common.{◌≡◌, map, take}
use Rattle.serde_json.specs.View.{view}
use Rattle.gv_json.proofs.LineLemmas.{each}
use Rattle.gv_json.proofs.line.texts_of.Given as goal

abbrev pub invariant-loop-line : goal.invariant-loop-line
invariant-loop-line l = map view l.texts.items ≡ each (take l.line-index l.lines)

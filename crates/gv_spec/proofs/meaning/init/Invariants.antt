use Rattle.std.proofs.Common.{◌≡◌, map, take}
use Rattle.gv_atomic.specs.Choices.{term_value}
use Rattle.gv_spec.proofs.meaning.init.Given as goal

abbrev pub invariant-loop-field : goal.invariant-loop-field
invariant-loop-field l = l.values.items ≡ map (λ f. term_value l.spec.store l.env f.first) (take l.field-index l.field-items)

use Rattle.std.proofs.Common.{◌≡◌, ◌++◌, length, map}
use Rattle.std.specs.List.{list_all}
use Rattle.gv_smallspec.specs.SmallSpec as form
use Rattle.gv_smallspec.proofs.forms.word_names.Given as goal

abbrev pub invariant-loop-params : goal.invariant-loop-params
invariant-loop-params l = record {
  names : l.names ++ map (λ v. v.name) l.params ≡ map (λ v. v.name) l.fn.params;
  words : list_all (λ v. form.is_word v.sort) l.params ≡ list_all (λ v. form.is_word v.sort) l.fn.params;
}

abbrev pub decreases-loop-params : goal.decreases-loop-params
decreases-loop-params l = length l.params

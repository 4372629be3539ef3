use Rattle.std.proofs.Common.{List, IsTrue}
use Rattle.gv_terms.specs.declared.value.Value.{Value}
use Rattle.gv_spec.specs.Atomic.{are_of, atomic_of, field_vars}
use Rattle.gv_spec.specs.Walks.{first_walk}
use Rattle.gv_spec.proofs.Atomic.{first_sorts, applied_sorts, crashed_sorts}
use Rattle.gv_spec.proofs.OneCall.{one_call_replies}
use Rattle.gv_spec.proofs.WalkFields.{holds_along}
use Rattle.gv_spec.proofs.laws.written_walks.Goals as goal

pub returns-clause-sorts : goal.returns-clause-sorts
returns-clause-sorts c moves end passes =
    let s = c.args.spec.now in
    holds_along (atomic_of s) (λ vs. IsTrue (are_of (field_vars s) vs))
    (applied_sorts s) (crashed_sorts s) (first_walk (atomic_of s)) end moves (first_sorts s) passes

pub returns-clause-one_call : goal.returns-clause-one_call
returns-clause-one_call c = one_call_replies (List Value) Value (atomic_of c.args.spec.now)

use Rattle.std.proofs.Common.{◌≡◌, List, [], ◌∷◌, ◌++◌, length, take, drop, get_or, ◌-◌, nat_eq, sym, ap, ◌∙◌, append-nil}
use Rattle.gv_atomic.specs.declared.spec.Assign.{Assign}
use Rattle.gv_atomic.specs.Typed.{are_distinct}
use Rattle.gv_atomic.proofs.OneByOne.{fields_assigned, by_fields, numbers_more, numbers_stop, was_assigned, was_unassigned, one_assigned, fields_next, split_head, none_left}
use Rattle.gv_atomic.proofs.bodies.assign_once.Goals as goal

pub returns-then-not-branch : goal.returns-then-not-branch
returns-then-not-branch c =
    let left = c.loop-left.left.now in
    let keys = c.loop-left.assigned.keys in
    let none : Assign = record { field = 0; term = record { id = 0 } } in
    let a = get_or left 0 none in
    let is : left ≡ a ∷ take (length left - 1) (drop 1 left) = split_head left none c.in-len1-up.len_at_least in
    sym (by_fields c.args.body.now
    ∙ ap (are_distinct nat_eq) (sym (ap (λ (b : List Assign). keys ++ fields_assigned b) (sym is) ∙ c.loop-left.invariant.whole))
    ∙ numbers_stop keys a.field (fields_assigned (take (length left - 1) (drop 1 left))) (was_assigned keys a.field c.in_ok-insert.field-0 c.in_ok-insert.ensures.added c.if-not-branch.true))

pub loop-left-preserved : goal.loop-left-preserved
loop-left-preserved c =
    let left = c.loop-left.left.now in
    let keys = c.loop-left.assigned.keys in
    let none : Assign = record { field = 0; term = record { id = 0 } } in
    let a = get_or left 0 none in
    let is : left ≡ a ∷ take (length left - 1) (drop 1 left) = split_head left none c.in-len1-up.len_at_least in
    let one : c.insert.new.self.keys ≡ keys ++ a.field ∷ [] = one_assigned keys c.insert.new.self.keys a.field c.in_ok-insert.field-0 c.in_ok-insert.ensures.added c.if-not-branch.false c.in_ok-insert.ensures.keys in
    record {
      distinct = ap (are_distinct nat_eq) one ∙ numbers_more keys a.field c.loop-left.invariant.distinct (was_unassigned keys a.field c.in_ok-insert.field-0 c.in_ok-insert.ensures.added c.if-not-branch.false);
      whole = fields_next keys c.insert.new.self.keys a.field (fields_assigned (take (length left - 1) (drop 1 left))) (fields_assigned c.args.body.now)
          (ap (λ (b : List Assign). keys ++ fields_assigned b) (sym is) ∙ c.loop-left.invariant.whole) one;
    }

pub returns : goal.returns
returns c =
    let keys = c.loop-left.assigned.keys in
    let empty : c.loop-left.left.now ≡ [] = none_left c.loop-left.left.now c.in_default.len_below in
    sym (by_fields c.args.body.now
    ∙ ap (are_distinct nat_eq) (sym (sym (append-nil keys) ∙ ap (λ (b : List Assign). keys ++ fields_assigned b) (sym empty) ∙ c.loop-left.invariant.whole))
    ∙ c.loop-left.invariant.distinct)

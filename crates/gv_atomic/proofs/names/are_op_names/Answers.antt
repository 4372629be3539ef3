use Rattle.std.proofs.Common.{◌≡◌, List, ℕ, [], ◌∷◌, ◌++◌, length, take, drop, ◌-◌, true, false, map, sym, ap, ◌∙◌, append_assoc}
use Rattle.gv_terms.specs.declared.sort.Sort.TheVariants as sort
use Rattle.gv_terms.specs.declared.var.Var.{Var}
use Rattle.gv_atomic.specs.declared.spec.Op.{Op}
use Rattle.gv_atomic.specs.Typed.{are_names, names_of}
use Rattle.gv_atomic.specs.Marks.{is_new}
use Rattle.gv_atomic.proofs.DistinctNames.{names_more, names_stop}
use Rattle.gv_atomic.proofs.OneByOne.{names_append, split_first, on_true}
use Rattle.gv_atomic.proofs.names.are_op_names.Goals as goal

pub returns-then-not-branch : goal.returns-then-not-branch
returns-then-not-branch c =
    let left = c.loop-left.left.now in
    let o = c.op-item.result in
    let is : left ≡ o ∷ take (length left - 1) (drop 1 left) = split_first left o c.in-len1-up.len_at_least c.op-item.is in
    let told : is_new (names_of c.loop-left.names) o.name ≡ false = ap (λ (vs : List Var). is_new (names_of (vs ++ c.loop-left.names)) o.name) (sym c.new-none.ensures) ∙ sym c.in_ok-declare.ensures.told ∙ c.if-not-branch.true in
    sym (ap are_names (sym (ap (λ (os : List Op). names_of c.loop-left.names ++ map (λ p. p.name) os) (sym is) ∙ c.loop-left.invariant.whole))
    ∙ names_stop (names_of c.loop-left.names) o.name (map (λ p. p.name) (take (length left - 1) (drop 1 left))) told)

pub loop-left-preserved : goal.loop-left-preserved
loop-left-preserved c =
    let left = c.loop-left.left.now in
    let rest = take (length left - 1) (drop 1 left) in
    let o = c.op-item.result in
    let v : Var = record { name = o.name; sort = sort.Word } in
    let is : left ≡ o ∷ take (length left - 1) (drop 1 left) = split_first left o c.in-len1-up.len_at_least c.op-item.is in
    let told : is_new (names_of c.loop-left.names) o.name ≡ true = ap (λ (vs : List Var). is_new (names_of (vs ++ c.loop-left.names)) o.name) (sym c.new-none.ensures) ∙ sym c.in_ok-declare.ensures.told ∙ c.if-not-branch.false in
    let added : c.declare.new.own ≡ c.loop-left.names ++ v ∷ [] = on_true c.in_ok-declare.field-0 (c.declare.new.own ≡ c.loop-left.names ++ v ∷ []) c.in_ok-declare.ensures.added c.if-not-branch.false in
    let longer : names_of c.declare.new.own ≡ names_of c.loop-left.names ++ o.name ∷ [] = ap names_of added ∙ names_append c.loop-left.names (v ∷ []) in
    record {
      names = ap are_names longer ∙ names_more (names_of c.loop-left.names) o.name c.loop-left.invariant.names told;
      whole = ap (λ (ns : List (List ℕ)). ns ++ map (λ p. p.name) rest) longer ∙ append_assoc (names_of c.loop-left.names) (o.name ∷ []) (map (λ p. p.name) rest)
          ∙ ap (λ (os : List Op). names_of c.loop-left.names ++ map (λ p. p.name) os) (sym is) ∙ c.loop-left.invariant.whole;
    }

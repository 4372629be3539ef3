use Rattle.std.proofs.Common.{◌≡◌, List, [], ◌∷◌, ◌++◌, length, take, drop, ◌-◌, map, sym, ap, ◌∙◌}
use Rattle.gv_terms.specs.declared.sort.Sort.TheVariants as sort
use Rattle.gv_terms.specs.declared.var.Var.{Var}
use Rattle.gv_atomic.specs.declared.spec.Pick.{Pick}
use Rattle.gv_atomic.specs.Typed.{are_names, names_of, are_picks, pick_var, is_term}
use Rattle.gv_atomic.specs.Marks.{AreMarks, is_new}
use Rattle.gv_atomic.proofs.DistinctNames.{parted}
use Rattle.gv_atomic.proofs.OpenTerms.{marks_more}
use Rattle.gv_atomic.proofs.OneByOne.{declared_more, declared_next, picks_next, pick_refused, among_more, split_first, on_true}
use Rattle.gv_atomic.proofs.bodies.are_picks.Goals as goal

pub returns-then-not-branch-clause-told : goal.returns-then-not-branch-clause-told
returns-then-not-branch-clause-told c =
    let left = c.loop-left.left.now in
    let p = c.pick-item.result in
    let is : left ≡ p ∷ take (length left - 1) (drop 1 left) = split_first left p c.in-len1-up.len_at_least c.pick-item.is in
    sym (pick_refused c.args.store.now c.args.fields.now c.args.own.now c.loop-left.own c.args.picks.now p (take (length left - 1) (drop 1 left))
    (ap (λ (ps : List Pick). c.loop-left.own ++ map pick_var ps) (sym is) ∙ c.loop-left.invariant.whole)
    (ap (λ (ps : List Pick). are_picks c.args.store.now (c.args.fields.now ++ c.loop-left.own) ps) (sym is) ∙ c.loop-left.invariant.test)
    (sym c.in_ok-is_pick.ensures.told ∙ c.if-not-branch.true))

pub loop-left-preserved : goal.loop-left-preserved
loop-left-preserved c =
    let left = c.loop-left.left.now in
    let p = c.pick-item.result in
    let ts = c.args.store.now in
    let fields = c.args.fields.now in
    let own = c.loop-left.own in
    let is : left ≡ p ∷ take (length left - 1) (drop 1 left) = split_first left p c.in-len1-up.len_at_least c.pick-item.is in
    let two = parted (is_term ts (fields ++ own) sort.Word p.bound) (is_new (names_of (fields ++ own)) p.name) (sym c.in_ok-is_pick.ensures.told ∙ c.if-not-branch.false) in
    let added : c.is_pick.new.own ≡ own ++ pick_var p ∷ [] = on_true c.in_ok-is_pick.field-0 (c.is_pick.new.own ≡ own ++ pick_var p ∷ []) c.in_ok-is_pick.ensures.added c.if-not-branch.false in
    let marked : AreMarks ts (fields ++ own) c.args.number c.is_pick.new.marks.items = on_true c.in_ok-is_pick.field-0 (AreMarks ts (fields ++ own) c.args.number c.is_pick.new.marks.items) c.in_ok-is_pick.ensures.marks c.if-not-branch.false in
    record {
      names = ap (λ (vs : List Var). are_names (names_of (fields ++ vs))) added ∙ declared_more fields own (pick_var p) c.loop-left.invariant.names two.1;
      marks = marks_more (fields ++ own) (fields ++ c.is_pick.new.own) (among_more fields own c.is_pick.new.own (pick_var p) added) ts c.args.number c.is_pick.new.marks.items marked;
      whole = declared_next own c.is_pick.new.own (map pick_var (take (length left - 1) (drop 1 left))) (c.args.own.now ++ map pick_var c.args.picks.now) (pick_var p)
          (ap (λ (ps : List Pick). own ++ map pick_var ps) (sym is) ∙ c.loop-left.invariant.whole) added;
      test = picks_next ts fields own c.is_pick.new.own p (take (length left - 1) (drop 1 left)) (are_picks ts (fields ++ c.args.own.now) c.args.picks.now)
          (ap (λ (ps : List Pick). are_picks ts (fields ++ own) ps) (sym is) ∙ c.loop-left.invariant.test) two.0 added;
    }

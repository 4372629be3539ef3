use Rattle.std.proofs.Common.{ℕ, List, ◌∷◌, ◌++◌, [], arith, sym, subst, ap, ◌≡◌, ◌+◌, ◌∙◌}
use Rattle.gv_base.proofs.LineStarts.{starts_same, starts_more}
use Rattle.gv_base.specs.Lines.{AreStarts}
use Rattle.gv_base.proofs.lines.Lines.new.Goals as goal
use Rattle.gv_base.proofs.lines.Lines.new.Goals.{then-byte-eq10+in_ok-push-2, else-byte-eq10}

pub loop-byte-preserved : goal.loop-byte-preserved
loop-byte-preserved c = record {
  end = omega arith;
  starts =
      let text : List ℕ = c.args.text.now in
      let i : ℕ = c.loop-byte.byte-index in
      let old : List ℕ = c.loop-byte.starts.items in
      elim c.if-byte-eq10.branch [
        | then-byte-eq10+in_ok-push-2 w ↦
            let pushed : c.if-byte-eq10.starts.items ≡ old ++ (i + 1) ∷ [] =
            ap (λ v. v.items) w.starts-is ∙ w.in_ok-push-2.ensures.items ∙ ap (λ n. old ++ n ∷ []) (ap (λ n. n + 1) c.loop-byte.invariant.end) in
            subst (λ (starts : List ℕ). AreStarts text (i + 1) starts) (sym pushed)
            (starts_more text i old c.loop-byte-test.true w.if-byte-eq10.true c.loop-byte.invariant.starts)
        | else-byte-eq10 w ↦
            subst (λ (starts : List ℕ). AreStarts text (i + 1) starts) (sym (ap (λ v. v.items) w.starts-is))
            (starts_same text i old c.loop-byte-test.true w.if-byte-eq10.false c.loop-byte.invariant.starts)
      ];
}

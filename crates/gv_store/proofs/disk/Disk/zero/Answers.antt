use Rattle.std.proofs.Common.{replicate, ap, ◌∙◌, ◌++◌, ◌∷◌, []}
use Rattle.std.proofs.lemmas.List.{replicate_more}
use Rattle.gv_store.proofs.disk.Disk.zero.Goals as goal

pub loop-i-preserved : goal.loop-i-preserved
loop-i-preserved c =
    c.in_ok-push.ensures.items ∙ ap (λ l. l ++ replicate 4096 0 ∷ []) c.loop-i.invariant ∙ replicate_more c.loop-i._i (replicate 4096 0)

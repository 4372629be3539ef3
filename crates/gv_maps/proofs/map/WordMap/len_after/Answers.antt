use Rattle.std.proofs.Common.{sym, ◌∙◌}
use Rattle.gv_maps.proofs.Lengths.{put_over, put_beside, deleted, not_there}
use Rattle.gv_maps.proofs.map.WordMap.len_after.Goals as goal

pub returns-in-Some-clause-value : goal.returns-in-Some-clause-value
returns-in-Some-clause-value c =
    put_over _ _ c.args.key c.in-Some.field-0 _ _ _ (c.as_slice.ensures.value ∙ c.self.view_is) (c.as_slice.ensures.len ∙ sym c.len-len.ensures) c.in-Some.is c.in-Ok.ensures.found

pub returns-in-None-clause-value : goal.returns-in-None-clause-value
returns-in-None-clause-value c =
    deleted _ _ c.args.key _ _ _ (c.as_slice.ensures.value ∙ c.self.view_is) (c.as_slice.ensures.len ∙ sym c.len-len.ensures) c.in-None.is c.in-Ok.ensures.found

pub returns-in-Some-item-clause-value : goal.returns-in-Some-item-clause-value
returns-in-Some-item-clause-value c =
    put_beside _ _ c.args.key c.in-Some-item.field-0 _ _ _ (c.as_slice.ensures.value ∙ c.self.view_is) (c.as_slice.ensures.len ∙ sym c.len-len.ensures) c.in-Some-item.is c.in-Err.ensures.absent

pub returns-in-None-item-clause-value : goal.returns-in-None-item-clause-value
returns-in-None-item-clause-value c =
    not_there _ _ c.args.key _ _ _ (c.as_slice.ensures.value ∙ c.self.view_is) (c.as_slice.ensures.len ∙ sym c.len-len.ensures) c.in-None-item.is c.in-Err.ensures.absent

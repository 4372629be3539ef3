-- Stacks of frames whose last one changes.
use Rattle.std.proofs.Common.{◌≡◌, ℕ, ◌-◌, ◌<◌, List, [], ◌∷◌, ◌++◌, length, take, get_or, sym, ap, ◌∙◌}
use Rattle.std.proofs.Math.ListN.{set}
use Rattle.gv_thread.specs.declared.frame.Frame.{Frame}
use Rattle.gv_thread.specs.Frames.{frame_of, above, frames_of}
use Rattle.gv_thread.specs.Settling.{past_head, first_past_head}
use Rattle.gv_thread.proofs.Lasts.{fold_push, fold_last, fold_set}

pub stacked : (fs : List Frame) (f : Frame) → frames_of (fs ++ f ∷ []) ≡ frame_of f ∷ frames_of fs
stacked fs f = fold_push above [] fs f

-- the last one goes on past its command
pub last_past : (fs : List Frame) (count : ℕ) (f g : Frame) → count ≡ length fs → 0 < count → f ≡ get_or fs (count - 1) f
    → frame_of g ≡ past_head (frame_of f) → frames_of (set fs (count - 1) g) ≡ first_past_head (frames_of fs)
last_past fs count f g e some at past =
    fold_set above [] fs count g e some
    ∙ ap (λ x. x ∷ frames_of (take (count - 1) fs)) (past ∙ ap (λ x. past_head (frame_of x)) at)
    ∙ ap first_past_head (sym (fold_last above [] fs count f e some))

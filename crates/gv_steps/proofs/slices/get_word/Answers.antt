-- A word that can't be read.
use Rattle.std.proofs.Common.{◌≡◌, ℕ, false, refl, sym, ap, ◌∙◌}
use Rattle.std.specs.Prelude.{nat_lt}
use Rattle.std.proofs.lemmas.Bool.{le-ltb}
use Rattle.gv_base.specs.declared.reason.Reason.{Reason}
use Rattle.gv_base.specs.declared.answer.Answer.{Answer}
use Rattle.gv_base.specs.declared.answer.Answer.TheVariants.{Next, Blocked, Undefined}
use Rattle.gv_base.specs.declared.slice_val.SliceVal.{SliceVal}
use Rattle.gv_words.specs.Words.{un64}
use Rattle.gv_world.specs.Answers.{and_then}
use Rattle.gv_world.specs.Store.{Store as World}
use Rattle.gv_world.specs.Cells.{read_bytes}
use Rattle.gv_lang.specs.Plain.{expr_of}
use Rattle.gv_lang.specs.Table.{as_slice}
use Rattle.gv_lang.specs.Threads.{Thread}
use Rattle.gv_lang.specs.Tree as tree
use Rattle.gv_lang.specs.Values.{value}
use Rattle.gv_thread.specs.Frames.{thread_of}
use Rattle.gv_steps.specs.Acting.{or_kind, step_of}
use Rattle.gv_steps.proofs.slices.get_word.Goals as goal

-- what can't be read has no word
no_word : {A B : Type 0} (found : Answer A) (f : A → B) (reason : Reason) → and_then found (λ a. Next (f a)) ≡ Undefined reason → found ≡ Undefined reason
no_word (Next a) f reason e = absurd (cc)
no_word Blocked f reason e = absurd (cc)
no_word (Undefined other) f reason e = cc

row : (g : tree.Program) (extra : ℕ) (th : Thread) (w : World) (x : ℕ) (e : tree.Expr) (s : SliceVal) (reason : Reason)
    → as_slice (value th.top.locals e) ≡ Next s
    → nat_lt s.length 8 ≡ false → read_bytes w s.object s.offset 8 ≡ Undefined reason → step_of g extra th w (tree.Get64 x e) ≡ Undefined reason
row g extra th w x e s reason is long read = rw (is, long, read) refl

pub returns-in-Undefined : goal.returns-in-Undefined
returns-in-Undefined c =
    let s = c.in-Some.slice in
    let read = no_word (read_bytes c.args.store.now s.object s.offset 8) un64 c.in-Undefined.reason (sym c.read_word.ensures ∙ c.in-Undefined.is) in (
      λ g extra. row g extra (thread_of c.args.thread.now) c.args.store.now c.args.x (expr_of c.args.s.now) s c.in-Undefined.reason
          (c.slice.ensures ∙ ap or_kind c.in-Some.is)
          (le-ltb s.length 8 c.if-slice-lt8.false) read,
      refl,
      refl,
    )

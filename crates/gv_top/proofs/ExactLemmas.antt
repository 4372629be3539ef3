-- The one report that words and told files define.
use Rattle.std.proofs.Common.{◌≡◌, ◌≢◌, ℕ, List, Result, Err, refl, sym, ap, subst, ◌∙◌, ◌⊎◌, inl, inr, arith}
use Rattle.gv_report.specs.declared.report.Report.{Report}
use Rattle.gv_report.specs.declared.report.Report.TheVariants.{OutOfMemory}
use Rattle.gv_report.specs.Report.{status_of, text_of}
use Rattle.gv_report.specs.declared.format.Format.{Format}
use Rattle.gv_report.specs.declared.format.Format.TheVariants.{Text, Json}
use Rattle.gv_report.specs.Heard.{Heard, IsWritten}
use Rattle.gv_report.specs.Output.{Shown, Puts, whole, cut, output_of}
use Rattle.gv_top.specs.declared.files.Halt.{Halt}
use Rattle.gv_top.specs.declared.files.Halt.TheVariants.{NoMemory}
use Rattle.gv_top.specs.Check.{report_of as check_report}
use Rattle.gv_top.specs.Explain.{report_of as explain_report}
use Rattle.gv_top.specs.Replay.{report_of as replay_report}
use Rattle.gv_top.specs.Judge.{report_of as judge_report}
use Rattle.gv_top.specs.Commands.{Command, check, explain, replay, judge, Comes, format_for}
use Rattle.gv_top.specs.Files.{Asked, IsBlamed, outside, as_told}
use Rattle.gv_top.specs.Outcome.{reported}
use Rattle.gv_top.specs.Run.{Gives, usage, done, Deserves, Defines, IsBlamedIn, OnlyAbsentFailed, NoPutFailed, IsTold}
use Rattle.gv_top.proofs.CheckExact.{checks_same}
use Rattle.gv_top.proofs.CommandLemmas.{one_command}
use Rattle.gv_top.proofs.ExplainExact.{explains_same}
use Rattle.gv_top.proofs.JudgeExact.{judges_same}
use Rattle.gv_top.proofs.OutcomeLemmas.{IsOwn, check_own, explain_own, replay_own, judge_own, blamed_by}
use Rattle.gv_top.proofs.ReplayExact.{replays_same}
use Rattle.gv_top.proofs.StageLemmas.{SameEnd}

-- outcomes that are the same have one report
by_outcome : {O : Type 0} (report_of : O → Report) (own : (x : O) → IsOwn (report_of x)) (a : Asked) (o p : Result O Halt) (r q : Report) (f g : Format) → r ≡ reported report_of o
    → q ≡ reported report_of p → IsBlamedIn a r → q ≢ OutOfMemory → (IsBlamed a o → (p ≡ Err NoMemory → ⊥) → SameEnd o f p g) → ((r ≡ q) × (f ≡ g)) ⊎ (r ≡ OutOfMemory)
by_outcome report_of own a o p r q f g r_is q_is b n same =
    go (same (blamed_by report_of own a o (subst (λ (x : Report). IsBlamedIn a x) r_is b)) (λ e. n (q_is ∙ ap (reported report_of) e)))
  where
    go : SameEnd o f p g → ((r ≡ q) × (f ≡ g)) ⊎ (r ≡ OutOfMemory)
    go (inl e) = inl (r_is ∙ ap (reported report_of) e.0 ∙ sym q_is, e.1)
    go (inr e) = inr (r_is ∙ ap (reported report_of) e)

-- want of memory is told as text in each format
pub memory_text : (f : Format) → output_of f OutOfMemory ≡ text_of OutOfMemory
memory_text Text = refl
memory_text (Json digests) = refl

module _ (words : List (List ℕ)) (a : Asked) (absent : OnlyAbsentFailed a) where
  -- a command has a case
  comes_same : (c : Command) (before : Format) (r q : Report) (f g : Format) → Comes (outside a.held) c before r f → IsBlamedIn a r → Comes (as_told a.held) c before q g → q ≢ OutOfMemory
      → ((r ≡ q) × (f ≡ g)) ⊎ (r ≡ OutOfMemory)
  comes_same (check p s t) before r q f g (o, comes, is) b (e, others, other_is) n =
      by_outcome check_report check_own a o e r q f g is other_is b n (λ blamed never. checks_same a.held a refl absent o e f g blamed never p s t before comes others)
  comes_same (explain s h m) before r q f g (o, comes, is) b (e, others, other_is) n =
      by_outcome explain_report explain_own a o e r q f g is other_is b n (λ blamed never. explains_same a.held a refl absent o e f g blamed never s h m before comes others)
  comes_same (replay p s c) before r q f g (o, comes, is) b (e, others, other_is) n =
      by_outcome replay_report replay_own a o e r q f g is other_is b n (λ blamed never. replays_same a.held a refl absent o e f g blamed never p s c before comes others)
  comes_same (judge s h m) before r q f g (o, comes, is) b (e, others, other_is) n =
      by_outcome judge_report judge_own a o e r q f g is other_is b n (λ blamed never. judges_same a.held a refl absent o e f g blamed never s h m before comes others)

  report_is : (r q : Report) (f g : Format) → Deserves words a r f → Defines words a.held q g → q ≢ OutOfMemory → ((r ≡ q) × (f ≡ g)) ⊎ (r ≡ OutOfMemory)
  report_is r q f g d e n = go r q f g d.given d.blamed e n
    where
      go : (r q : Report) (f g : Format) → Gives (outside a.held) words r f → IsBlamedIn a r → Gives (as_told a.held) words q g → q ≢ OutOfMemory
          → ((r ≡ q) × (f ≡ g)) ⊎ (r ≡ OutOfMemory)
      go r q f g (usage h) b (usage k) n = inl (refl, refl)
      go r q f g (usage h) b (done d asks comes) n = absurd (h d asks)
      go r q f g (done c asks comes) b (usage k) n = absurd (k c asks)
      go r q f g (done c asks comes) b (done d others gives) n =
          comes_same d (format_for words) r q f g (subst (λ (x : Command). Comes (outside a.held) x (format_for words) r f) (one_command words c d asks others) comes) b gives n

  pub exact : (h : Heard) (s : Shown) (q : Report) (g : Format) (status : ℕ) → Deserves words a s.report s.format → Puts s h status → Defines words a.held q g → q ≢ OutOfMemory → NoPutFailed h
      → IsTold h q g status ⊎ IsTold h OutOfMemory Text status
  exact h s q g status d (cut o w) f n calm = let e = calm.0 in let l = calm.1 in absurd (omega (arith, e, l, o))
  exact h s q g status d (whole w f) defined n calm = go (report_is s.report q s.format g d defined n)
    where
      go : ((s.report ≡ q) × (s.format ≡ g)) ⊎ (s.report ≡ OutOfMemory) → IsTold h q g (status_of s.report) ⊎ IsTold h OutOfMemory Text (status_of s.report)
      go (inl e) = inl (ap status_of e.0, subst (λ (x : Report). IsWritten h (output_of g x)) e.0 (subst (λ (x : Format). IsWritten h (output_of x s.report)) e.1 w))
      go (inr e) = inr (ap status_of e, subst (λ (v : List ℕ). IsWritten h v) (ap (output_of s.format) e ∙ memory_text s.format) w)

-- Locals of cuts, and the steps of what is noted of a cut.
use Rattle.std.proofs.Common.{◌≡◌, ℕ, ◌+◌, ◌<◌, ◌≤◌, List, [], length, take, get_or, Option, Some, None, refl, ap, subst, ◌∙◌}
use Rattle.std.proofs.lemmas.List.{take_all}
use Rattle.gv_base.specs.declared.answers.Code.TheVariants.{Undeclared}
use Rattle.gv_termread.specs.declared.token.SeenToken.{SeenToken}
use Rattle.gv_typing.specs.declared.term_fault.Fault.{Fault}
use Rattle.gv_scriptnames.specs.Names.{name_in}
use Rattle.gv_scriptnames.specs.Scopes.{is_local}
use Rattle.gv_scriptnames.specs.Found.{unless}
use Rattle.gv_scriptfaults.specs.declared.scoped.ProcFacts.{ProcFacts}
use Rattle.gv_scriptfaults.specs.Least.{after}
use Rattle.gv_scriptfaults.specs.Tables.{has}
use Rattle.gv_scriptfaults.specs.Noted.{AreLocals}
use Rattle.gv_scriptfaults.proofs.Meeting.{all_read}

pub local_more : (text : List ℕ) (f : ProcFacts) (ts : List SeenToken) (i : ℕ) (d : SeenToken) (name : List ℕ) (a b c : Option Fault) → i < length ts → name ≡ name_in text (get_or ts i d)
    → AreLocals text (Some f) (take i ts) a b → c ≡ after b (unless (has f.locals name) (get_or ts i d).start Undeclared) → AreLocals text (Some f) (take (i + 1) ts) a c
local_more text f ts i d name a b c lt e p q spec program None are = absurd are
local_more text f ts i d name a b c lt e p q spec program (Some r) are =
    all_read (λ (t : SeenToken). unless (is_local r (name_in text t)) t.start Undeclared) ts i d a b c lt (p spec program (Some r) are)
    (q ∙ ap (λ h. after b (unless h (get_or ts i d).start Undeclared)) (are.locals name ∙ ap (is_local r) e))

pub locals_through : (text : List ℕ) (f : Option ProcFacts) (ts : List SeenToken) (i : ℕ) (a b : Option Fault) → length ts ≤ i → AreLocals text f (take i ts) a b → AreLocals text f ts a b
locals_through text f ts i a b l p = subst (λ (us : List SeenToken). AreLocals text f us a b) (take_all i ts l) p

pub no_locals : (text : List ℕ) (f : ProcFacts) (a : Option Fault) → AreLocals text (Some f) [] a a
no_locals text f a spec program None are = absurd are
no_locals text f a spec program (Some r) are = refl

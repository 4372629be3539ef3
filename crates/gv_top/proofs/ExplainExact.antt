-- `explain` comes to one outcome over files that are told.
use Rattle.std.proofs.Common.{◌≡◌, ℕ, List, [], map, Result, Ok, Err, refl, sym, ap, subst, ◌∙◌, ◌⊎◌, inl, inr}
use Rattle.std.specs.Prelude.{Vec}
use Rattle.std.specs.declared.alloc.Global.{Global}
use Rattle.gv_base.specs.Outside.{Told}
use Rattle.gv_base.specs.Places.{place_at}
use Rattle.gv_base.specs.declared.answers.Code.{Code}
use Rattle.gv_base.specs.declared.answers.Place.{Place}
use Rattle.gv_base.specs.declared.answers.Refusal.TheVariants as refusal
use Rattle.gv_report.specs.declared.format.Format.{Format}
use Rattle.gv_report.specs.Output.{noted}
use Rattle.gv_terms.specs.declared.value.Value.{Value}
use Rattle.gv_atomic.specs.declared.spec.Spec.{Spec}
use Rattle.gv_spec.specs.Specification.{Specification}
use Rattle.gv_spec.specs.History.{IsExplanation, entry_of, move_of, walked}
use Rattle.gv_spec.specs.Walks as walks
use Rattle.gv_spec.specs.declared.entry.Entry.{Entry}
use Rattle.gv_spec.specs.declared.explanation.Move.{Move}
use Rattle.gv_specs.specs.Alike.{AreAlike}
use Rattle.gv_specs.specs.Reading as written
use Rattle.gv_specs.proofs.Alike.{one_specification}
use Rattle.gv_specs.proofs.Decided as specs
use Rattle.gv_history.specs.declared.fault.WalkCause.{WalkCause}
use Rattle.gv_history.specs.declared.fault.WalkCause.TheVariants as told
use Rattle.gv_history.specs.Fault.{cause_of}
use Rattle.gv_replay.specs.declared.line.TextKind.TheVariants as text_kind
use Rattle.gv_replay.specs.Meaning.{with_moves}
use Rattle.gv_replay.specs.Reading.{entries_in, IsRefusedHistory, AreRefusedMoves}
use Rattle.gv_top.specs.declared.explain.Explanation.{Explanation}
use Rattle.gv_top.specs.declared.explain.Explanation.TheVariants.{Explained, NotExplained}
use Rattle.gv_top.specs.declared.files.Halt.{Halt}
use Rattle.gv_top.specs.declared.files.Halt.TheVariants.{NoMemory, CannotRead, Refused}
use Rattle.gv_top.specs.Explain.{Tells, Explains}
use Rattle.gv_top.specs.Files.{Form, Source, Asked, IsRefused, IsRefusedFor, HaltsAt, Course, Then, Keeps, Finishes, IsBlamed, outside, as_told}
use Rattle.gv_top.specs.Forms.{written_specs, histories_of, moves_of, IsHistoryOf, AreMovesOf}
use Rattle.gv_top.specs.Run.{OnlyAbsentFailed}
use Rattle.gv_top.proofs.AlikeLines.{same_history, same_moves, same_refused_history, same_refused_moves, same_entries, same_moves_of}
use Rattle.gv_top.proofs.AlikeMeaning.{atomic_same}
use Rattle.gv_top.proofs.LinesLemmas.{one_account, not_both, one_refusal}
use Rattle.gv_top.proofs.OutcomeLemmas.{then_refused}
use Rattle.gv_top.proofs.StageLemmas.{IsExact, placed_exact, Same, SameEnd, kept_same, stage}

-- ---- forms

pub specs_exact : IsExact written_specs
specs_exact = placed_exact written.Spells written.IsRefused (λ text s at code h r. specs.only_so text (Err (refusal.At (place_at text at) code)) (at, refl, r) s h)
    (λ text m n c d h k. specs.fault_so text (Err (refusal.At (place_at text m) c)) tt (m, refl, h) n d k)

pub histories_exact : (s : Spec) → IsExact (histories_of s)
histories_exact s = placed_exact (IsHistoryOf s) (IsRefusedHistory s) (λ text v at code h r. not_both (with_moves s) [] text_kind.History text h.0.moves at code h.0.told r)
    (λ text m n c d h k. let same = one_refusal (with_moves s) [] text_kind.History text m n c d h k in (ap (place_at text) same.0, same.1))

moves_exact : (s : Spec) → IsExact (moves_of s)
moves_exact s = placed_exact (AreMovesOf s) (AreRefusedMoves s) (λ text v at code h r. not_both (with_moves s) [] text_kind.Moves text v.items at code h.0 r)
    (λ text m n c d h k. let same = one_refusal (with_moves s) [] text_kind.Moves text m n c d h k in (ap (place_at text) same.0, same.1))

pub one_history : (s : Spec) (text : List ℕ) (x y : Vec Entry Global) → IsHistoryOf s text x → IsHistoryOf s text y → x.items ≡ y.items
one_history s text x y h k =
    h.0.entries ∙ ap entries_in (one_account (with_moves s) [] text_kind.History text h.0.moves k.0.moves h.0.told k.0.told) ∙ sym k.0.entries

one_moves : (s : Spec) (text : List ℕ) (x y : Vec Move Global) → AreMovesOf s text x → AreMovesOf s text y → x.items ≡ y.items
one_moves s text x y h k = one_account (with_moves s) [] text_kind.Moves text x.items y.items h.0 k.0

-- ---- what the walk tells

held_of : walks.WalkCause → WalkCause
held_of walks.Repeated = told.Repeated
held_of walks.NotCalled = told.NotCalled
held_of walks.ActedAlready = told.ActedAlready
held_of walks.NotActed = told.NotActed
held_of walks.WrongReply = told.WrongReply
held_of walks.Order = told.Order
held_of walks.Missing = told.Missing
held_of walks.BadChoice = told.BadChoice

held_is : (c : WalkCause) → held_of (cause_of c) ≡ c
unfolding held_of
held_is told.Repeated = refl
held_is told.NotCalled = refl
held_is told.ActedAlready = refl
held_is told.NotActed = refl
held_is told.WrongReply = refl
held_is told.Order = refl
held_is told.Missing = refl
held_is told.BadChoice = refl

fault_same : {A : Type 0} (r : Result A walks.WalkFault) (e f : walks.WalkFault) → r ≡ Err e → r ≡ Err f → e ≡ f
fault_same r e f h k = let same : Err e ≡ Err f = sym h ∙ k in cc

tells_same : (s : Spec) (history : List Entry) (moves : List Move) (e f : Explanation) → Tells s history moves e → Tells s history moves f → e ≡ f
tells_same s history moves Explained Explained h k = refl
tells_same s history moves Explained (NotExplained n d) h k = absurd (k.0 h)
tells_same s history moves (NotExplained m c) Explained h k = absurd (h.0 k)
tells_same s history moves (NotExplained m c) (NotExplained n d) h k =
    let first : walks.WalkFault = record { index = m; cause = cause_of c } in
    let second : walks.WalkFault = record { index = n; cause = cause_of d } in
    let same : first ≡ second = fault_same (walked s history moves) first second h.1 k.1 in
    let index : m ≡ n = ap (λ (f : walks.WalkFault). f.index) same in
    let cause : c ≡ d = sym (held_is c) ∙ ap (λ (f : walks.WalkFault). held_of f.cause) same ∙ held_is d in
    ap (λ i. NotExplained i c) index ∙ ap (NotExplained n) cause

finishes_same : (s : Spec) (history : List Entry) (moves : List Move) (o q : Result Explanation Halt) → Finishes (Tells s history moves) o → Finishes (Tells s history moves) q → (q ≡ Err NoMemory → ⊥) → Same o q
finishes_same s history moves (Ok e) (Ok f) h k n = inl (ap Ok (tells_same s history moves e f h k))
finishes_same s history moves (Ok e) (Err NoMemory) h k n = absurd (n refl)
finishes_same s history moves (Ok e) (Err (CannotRead name)) h k n = absurd k
finishes_same s history moves (Ok e) (Err (Refused name place code)) h k n = absurd k
finishes_same s history moves (Err NoMemory) q h k n = inr refl
finishes_same s history moves (Err (CannotRead name)) q h k n = absurd h
finishes_same s history moves (Err (Refused name place code)) q h k n = absurd h

-- ---- what one specification gives, a specification alike gives

pub other_form : {A : Type 0} (source : Source) (form other : Form A) (name : List ℕ) → ((text : List ℕ) (x : A) → form.spells text x → other.spells text x)
    → ((text : List ℕ) (place : Place) (code : Code) → form.refuses text place code → other.refuses text place code) → {O : Type 0} (before after : Format) (o : Result O Halt) (P Q : A → Course O)
    → ((x : A) (middle : Format) → P x middle o after → Q x middle o after) → Then source form name P before o after → Then source other name Q before o after
other_form source form other name spells refuses before after o P Q next (inl (halt, e, h)) = inl (halt, e, halted halt h)
  where
    why : (place : Place) (code : Code) → IsRefused source form name place code before after → IsRefused source other name place code before after
    why place code r = record { bytes = r.bytes; given = r.given; why = go r.why }
      where
        go : IsRefusedFor form r.bytes place code before after → IsRefusedFor other r.bytes place code before after
        go (inl w) = inl w
        go (inr w) = inr (w.0, refuses r.bytes place code w.1, w.2)

    halted : (halt : Halt) → HaltsAt source form name halt before after → HaltsAt source other name halt before after
    halted NoMemory h = h
    halted (CannotRead n) h = h
    halted (Refused n place code) h = (h.0, why place code h.1)
other_form source form other name spells refuses before after o P Q next (inr (x, reads, more)) =
    inr (x, record { bytes = reads.bytes; given = reads.given; fits = reads.fits; spelled = spells reads.bytes x reads.spelled }, next x (noted before reads.bytes) more)

module _ (s t : Spec) (alike : AreAlike s t) where
  abbrev Meant : Type 0
  Meant = Specification (List Value) Value

  pub explained_by : (history : List Entry) (moves : List Move) → IsExplanation s moves history → IsExplanation t moves history
  explained_by history moves h = subst (λ (a : Meant). walks.Explains a (map move_of moves) (map entry_of history)) (atomic_same s t alike) h

  unexplained_by : (history : List Entry) (moves : List Move) → (IsExplanation s moves history → ⊥) → IsExplanation t moves history → ⊥
  unexplained_by history moves h k = h (subst (λ (a : Meant). walks.Explains a (map move_of moves) (map entry_of history)) (sym (atomic_same s t alike)) k)

  walked_by : (history : List Entry) (moves : List Move) → walked s history moves ≡ walked t history moves
  walked_by history moves = ap (λ (a : Meant). walks.walk a (map entry_of history) (map move_of moves)) (atomic_same s t alike)

  tells_by : (history : List Entry) (moves : List Move) (e : Explanation) → Tells s history moves e → Tells t history moves e
  tells_by history moves Explained h = explained_by history moves h
  tells_by history moves (NotExplained at cause) h = (unexplained_by history moves h.0, sym (walked_by history moves) ∙ h.1)

  finishes_by : (history : List Entry) (moves : List Move) (o : Result Explanation Halt) → Finishes (Tells s history moves) o → Finishes (Tells t history moves) o
  finishes_by history moves (Ok e) h = tells_by history moves e h
  finishes_by history moves (Err NoMemory) h = h
  finishes_by history moves (Err (CannotRead name)) h = h
  finishes_by history moves (Err (Refused name place code)) h = h

-- ---- the stages

abbrev pub Last : Spec → List Entry → Vec Move Global → Course Explanation
Last s history moves = Keeps (Finishes (Tells s history moves.items))

abbrev pub Next : Source → List ℕ → Spec → Vec Entry Global → Course Explanation
Next source m s history = Then source (moves_of s) m (Last s history.items)

abbrev pub First : Source → List ℕ → List ℕ → Spec → Course Explanation
First source h m s = Then source (histories_of s) h (Next source m s)

first_by : (source : Source) (h m : List ℕ) (s t : Spec) (before after : Format) (o : Result Explanation Halt) → AreAlike s t → First source h m s before o after → First source h m t before o after
first_by source h m s t before after o alike first =
    other_form source (histories_of s) (histories_of t) h (λ text x k. (same_history s t alike text x.items k.0, same_entries s t alike x.items k.1))
    (λ text place code k. (k.0, k.1, same_refused_history s t alike text k.0 code k.2)) before after o (Next source m s) (Next source m t)
    (λ history f next. other_form source (moves_of s) (moves_of t) m (λ text x k. (same_moves s t alike text x.items k.0, same_moves_of s t alike x.items k.1))
    (λ text place code k. (k.0, k.1, same_refused_moves s t alike text k.0 code k.2)) f after o (Last s history.items) (Last t history.items)
    (λ moves g k. (finishes_by s t alike history.items moves.items o k.0, k.1)) next) first

module _ (held : List ℕ → Told) (a : Asked) (held_as : a.held ≡ held) (absent : OnlyAbsentFailed a) (o q : Result Explanation Halt) (f g : Format) (b : IsBlamed a o) (n : q ≡ Err NoMemory → ⊥) where
  moves_stage : (m : List ℕ) (s : Spec) (x y : Vec Entry Global) (before : Format) → x.items ≡ y.items → Next (outside held) m s x before o f → Next (as_told held) m s y before q g → SameEnd o f q g
  moves_stage m s x y before same h k =
      stage (moves_of s) (moves_exact s) held m a held_as absent before f g o q (Last s y.items) (Last s y.items) b
      (subst (λ (es : List Entry). Then (outside held) (moves_of s) m (Last s es) before o f) same h) k n
      (λ text v w middle c d e l. kept_same o q middle f g e.1 l.1
      (finishes_same s y.items w.items o q (subst (λ (ms : List Move). Finishes (Tells s y.items ms) o) (one_moves s text v w c d) e.0) l.0 n))

  history_stage : (h m : List ℕ) (s : Spec) (before : Format) → First (outside held) h m s before o f → First (as_told held) h m s before q g → SameEnd o f q g
  history_stage h m s before c d =
      stage (histories_of s) (histories_exact s) held h a held_as absent before f g o q (Next (outside held) m s) (Next (as_told held) m s) b c d n
      (λ text x y middle e l more rest. moves_stage m s x y middle (one_history s text x y e l) more rest)

  pub explains_same : (s h m : List ℕ) (before : Format) → Explains (outside held) s h m before o f → Explains (as_told held) s h m before q g → SameEnd o f q g
  explains_same s h m before c d =
      stage written_specs specs_exact held s a held_as absent before f g o q (First (outside held) h m) (First (as_told held) h m) b c d n
      (λ text x y middle e l more rest. history_stage h m y middle (first_by (outside held) h m x y middle f o (one_specification text x y e l) more) rest)

-- a refusal is of one of the three files
pub no_finish : {O : Type 0} (Outcome : O → Type 0) (name : List ℕ) (place : Place) (code : Code) (o : Result O Halt) → o ≡ Err (Refused name place code) → Finishes Outcome o → ⊥
no_finish Outcome name place code (Ok v) e c = cc
no_finish Outcome name place code (Err NoMemory) e c = cc
no_finish Outcome name place code (Err (CannotRead m)) e c = c
no_finish Outcome name place code (Err (Refused m p d)) e c = c

pub explain_refused : (source : Source) (s h m name : List ℕ) (place : Place) (code : Code) (before after : Format) (o : Result Explanation Halt) → o ≡ Err (Refused name place code)
    → Explains source s h m before o after → (name ≡ s) ⊎ ((name ≡ h) ⊎ (name ≡ m))
explain_refused source s h m name place code before after o e explains =
    then_refused source written_specs s (First source h m) before after o name place code e explains (λ k. inl k)
    (λ x f next. then_refused source (histories_of x) h (Next source m x) f after o name place code e next (λ k. inr (inl k))
    (λ history g last. then_refused source (moves_of x) m (Last x history.items) g after o name place code e last (λ k. inr (inr k))
    (λ moves middle c. absurd (no_finish (Tells x history.items moves.items) name place code o e c.0))))

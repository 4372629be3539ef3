-- What is read is spelled: what the fronts of a line come from.
use Rattle.std.proofs.Common.{◌≡◌, ℕ, Bool, true, false, cond, List, [], ◌∷◌, ◌++◌, Option, Some, None, refl, sym, ap, subst, ◌∙◌, append_assoc, append-nil}
use Rattle.std.specs.Prelude.{Result, Ok, Err, option_map, option_and_then, codes}
use Rattle.std.specs.List.{AllByRecursion}
use Rattle.std.specs.Str.{bytes_eq}
use Rattle.std.proofs.lemmas.Slice.Eq.{bytes_eq-Decides}
use Rattle.gv_replay.specs.declared.argument.Argument.{Argument}
use Rattle.gv_replay.specs.declared.argument.Number.{Number}
use Rattle.gv_replay.specs.declared.line.CallLine.{CallLine}
use Rattle.gv_replay.specs.declared.line.Line.{Line}
use Rattle.gv_replay.specs.declared.line.Line.TheVariants as line
use Rattle.gv_replay.specs.declared.line.TextKind.{TextKind}
use Rattle.gv_replay.specs.declared.line.TextKind.TheVariants as text_kind
use Rattle.gv_replay.specs.declared.lines.Step.{Step}
use Rattle.gv_replay.specs.declared.part.OneByte.{OneByte}
use Rattle.gv_replay.specs.declared.part.Part.{Part}
use Rattle.gv_replay.specs.declared.part.Part.TheVariants as part
use Rattle.gv_replay.specs.declared.sight.Sight.{Sight}
use Rattle.gv_replay.specs.declared.what.What.{What}
use Rattle.gv_replay.specs.declared.what.What.TheVariants as what
use Rattle.gv_text.specs.Stops.{Fault}
use Rattle.gv_replay.specs.Lines.{fault_at, made, begun, turned, put, behind, last_line, lines_from}
use Rattle.gv_replay.specs.Parts.{number_in, plain_in, byte_in, is_star, single, times, first, first_by, own_word, calling, with_argument, argument_by, argument, named_by, numbered_part, reply_by, answered, act_part, more_choices, counted_part, failing_part, grown_part, next, line_of}
use Rattle.gv_replay.specs.Results.{map_ok}
use Rattle.gv_replay.specs.Spelling.{IsWord, IsValue, alone, one_byte, byte_times, AreValues, no_value, value_and, AreChoices, no_choice, choice_and, IsLine, a_call, a_start, an_answer, a_reply, an_act, a_crash, a_boot, a_choosing_boot, an_end, a_step, steps, a_fail, a_grow, numbers_calls, AreLines, no_line, line_and}
use Rattle.gv_replay.proofs.SpelledLemmas.{run, run_one, run_more}

bytes_are : (w v : List ℕ) → bytes_eq w v ≡ true → w ≡ v
bytes_are w v e = (bytes_eq-Decides w v).0 e

-- ---- cases of what came out

some_case : {A B P : Type 0} (f : A → B) (o : Option A) (y : B) → option_map f o ≡ Some y → ((x : A) → o ≡ Some x → f x ≡ y → P) → P
some_case f None y e k = absurd cc
some_case f (Some x) y e k = let same : f x ≡ y = cc in k x refl same

-- a word is the one that is asked for, or the others are asked for
word_case : {P : Type 0} (v w : List ℕ) (x : Part) (rest : Option Part) (q : Part) → cond (bytes_eq v w) (Some x) rest ≡ Some q → (v ≡ w → x ≡ q → P) → (rest ≡ Some q → P) → P
word_case {P} v w x rest q e here there = go (bytes_eq v w) refl e
  where
    go : (b : Bool) → bytes_eq v w ≡ b → cond b (Some x) rest ≡ Some q → P
    go true b_is k = let same : x ≡ q = cc in here (bytes_are v w b_is) same
    go false b_is k = there k

then_some : {A B P : Type 0} (f : A → Option B) (o : Option A) (y : B) → option_and_then f o ≡ Some y → ((x : A) → o ≡ Some x → f x ≡ Some y → P) → P
then_some f None y e k = absurd cc
then_some f (Some x) y e k = k x refl e

-- ---- arguments

abbrev with_arguments : CallLine → List Argument → CallLine
with_arguments c more = record c { args = c.args ++ more }

-- tokens behind a front of a call are arguments, and the line has them behind those of the front
record Adds (c : CallLine) (ss : List Sight) (l : Line) : Type 0 where
  pub args : List Argument
  pub values : AreValues ss args
  pub line : l ≡ line.Call (with_arguments c args)

one_more : (c : CallLine) (a : Argument) (ss ts : List Sight) (l : Line) → IsValue ss a → Adds (with_argument c a) ts l → Adds c (ss ++ ts) l
one_more c a ss ts l v more =
    let same : with_arguments (with_argument c a) more.args ≡ with_arguments c (a ∷ more.args) =
    ap (λ (xs : List Argument). let d : CallLine = record c { args = xs } in d) (append_assoc c.args (a ∷ []) more.args) in
    record { args = a ∷ more.args; values = value_and a v more.values; line = more.line ∙ ap line.Call same }

-- the front of a call goes on: with a plain argument, or with a byte
data GoesOn (c : CallLine) (s : Sight) (q : Part) : Type 0 where
  by_plain : (a : Argument) → plain_in s ≡ Some a → q ≡ part.Arguments (with_argument c a) → GoesOn c s q
  by_byte : (b : OneByte) → byte_in s ≡ Some b → q ≡ part.ArgumentByte c b → GoesOn c s q

argument_cases : (c : CallLine) (s : Sight) (q : Part) (b : Option OneByte) (a : Option Argument) → b ≡ byte_in s → a ≡ plain_in s → argument_by c b a ≡ Some q → GoesOn c s q
argument_cases c s q (Some b) a bs as_ e = let same : part.ArgumentByte c b ≡ q = cc in by_byte b (sym bs) (sym same)
argument_cases c s q None a bs as_ e = some_case (λ x. part.Arguments (with_argument c x)) a q e (λ x x_is same. by_plain x (sym as_ ∙ x_is) (sym same))

goes_on_by : (c : CallLine) (s : Sight) (q : Part) → argument c s ≡ Some q → GoesOn c s q
goes_on_by c s q e = argument_cases c s q (byte_in s) (plain_in s) refl refl e

-- nothing more behind a front of a call
none_more : (c : CallLine) (p : Part) (l : Line) → Some p ≡ Some (part.Arguments c) → line_of p ≡ Some l → Adds c [] l
none_more c p l e i =
    let same : p ≡ part.Arguments c = cc in
    let told : Some (line.Call c) ≡ Some l = ap line_of (sym same) ∙ i in
    let is : line.Call c ≡ l = cc in
    let whole : c ≡ with_arguments c [] = ap (λ (xs : List Argument). let d : CallLine = record c { args = xs } in d) (sym (append-nil c.args)) in
    record { args = []; values = no_value; line = sym is ∙ ap line.Call whole }

-- what tokens behind the three fronts of a call's arguments come from
record Fronts (ss : List Sight) : Type 0 where
  pub values : (c : CallLine) (p : Part) (l : Line) → run (part.Arguments c) ss ≡ Some p → line_of p ≡ Some l → Adds c ss l
  pub byte : (c : CallLine) (b : OneByte) (s : Sight) (p : Part) (l : Line) → byte_in s ≡ Some b → run (part.ArgumentByte c b) ss ≡ Some p → line_of p ≡ Some l → Adds c (s ∷ ss) l
  pub star : (c : CallLine) (b : OneByte) (s t : Sight) (p : Part) (l : Line) → byte_in s ≡ Some b → is_star t.what ≡ true → run (part.ArgumentStar c b) ss ≡ Some p → line_of p ≡ Some l
      → Adds c (s ∷ t ∷ ss) l

gone_on : (ss : List Sight) → Fronts ss → (c : CallLine) (s : Sight) (q p : Part) (l : Line) → GoesOn c s q → run q ss ≡ Some p → line_of p ≡ Some l → Adds c (s ∷ ss) l
gone_on ss h c s q p l (by_plain a a_is same) e i =
    one_more c a (s ∷ []) ss l (alone s a a_is) (h.values (with_argument c a) p l (ap (λ r. run r ss) (sym same) ∙ e) i)
gone_on ss h c s q p l (by_byte b b_is same) e i = h.byte c b s p l b_is (ap (λ r. run r ss) (sym same) ∙ e) i

one_argument : (ss : List Sight) → Fronts ss → (c : CallLine) (s : Sight) (p : Part) (l : Line) → option_and_then (λ q. run q ss) (argument c s) ≡ Some p → line_of p ≡ Some l → Adds c (s ∷ ss) l
one_argument ss h c s p l e i = then_some (λ q. run q ss) (argument c s) p e (λ q q_is e1. gone_on ss h c s q p l (goes_on_by c s q q_is) e1 i)

behind_a_byte : (ss : List Sight) → Fronts ss → (c : CallLine) (b : OneByte) (s t : Sight) (p : Part) (l : Line) (v : Bool) → v ≡ is_star t.what → byte_in s ≡ Some b
    → option_and_then (λ q. run q ss) (cond v (Some (part.ArgumentStar c b)) (argument (with_argument c (single b)) t)) ≡ Some p → line_of p ≡ Some l → Adds c (s ∷ t ∷ ss) l
behind_a_byte ss h c b s t p l true v b_is e i = h.star c b s t p l b_is (sym v) e i
behind_a_byte ss h c b s t p l false v b_is e i =
    one_more c (single b) (s ∷ []) (t ∷ ss) l (one_byte s b b_is) (one_argument ss h (with_argument c (single b)) t p l e i)

fronts : (ss : List Sight) → Fronts ss
fronts [] = record {
  values = λ c p l e i. none_more c p l (sym e) i;
  byte = λ c b s p l b_is e i.
      let same : part.ArgumentByte c b ≡ p = cc in
      let told : line_of (part.Arguments (with_argument c (single b))) ≡ Some l = ap line_of same ∙ i in
      one_more c (single b) (s ∷ []) [] l (one_byte s b b_is) (none_more (with_argument c (single b)) (part.Arguments (with_argument c (single b))) l refl told);
  star = λ c b s t p l b_is t_is e i.
      let same : part.ArgumentStar c b ≡ p = cc in
      let told : None ≡ Some l = ap line_of same ∙ i in
      absurd cc;
}
fronts (s ∷ ss) = let h = fronts ss in record {
  values = λ c p l e i. one_argument ss h c s p l e i;
  byte = λ c b r p l b_is e i. behind_a_byte ss h c b r s p l (is_star s.what) refl b_is e i;
  star = λ c b r t p l b_is t_is e i.
      then_some (λ q. run q ss) (option_map (λ n. part.Arguments (with_argument c (times b n))) (number_in s)) p e (λ q q_is e1.
      some_case (λ n. part.Arguments (with_argument c (times b n))) (number_in s) q q_is (λ n n_is same.
      one_more c (times b n) (r ∷ t ∷ s ∷ []) ss l (byte_times r t s b n b_is t_is n_is) (h.values (with_argument c (times b n)) p l (ap (λ x. run x ss) same ∙ e1) i)));
}

-- ---- lines by their first words

-- where a front is a line already, nothing may be added
nothing_more : (m l : Line) (ss : List Sight) (p : Part) → run (part.Whole m) ss ≡ Some p → line_of p ≡ Some l → (ss ≡ []) × (m ≡ l)
nothing_more m l [] p e i =
    let same : part.Whole m ≡ p = cc in
    let told : Some m ≡ Some l = ap line_of same ∙ i in
    (refl, cc)
nothing_more m l (s ∷ ss) p e i = absurd cc

-- a front that is no line isn't all of one
no_line_at : (q p : Part) (l : Line) → Some q ≡ Some p → line_of q ≡ None → line_of p ≡ Some l → ⊥
no_line_at q p l e n i =
    let same : q ≡ p = cc in
    let clash : None ≡ Some l = sym n ∙ ap line_of same ∙ i in
    cc

-- what a call is, by the tokens before the name of its operation
abbrev IsCallFrom : TextKind → List Sight → ℕ → Option Number → Type 0
IsCallFrom kind before at number = (o : Sight) (op : List ℕ) (ss : List Sight) (args : List Argument) → IsWord op o → AreValues ss args
    → IsLine kind (before ++ o ∷ ss) (line.Call (record { at = at; number = number; op_at = o.at; op = op; args = args }))

call_by : (kind : TextKind) (before : List Sight) (at : ℕ) (number : Option Number) → IsCallFrom kind before at number → (o : Sight) (x : What) (ss : List Sight) (p : Part) (l : Line) → o.what ≡ x
    → option_and_then (λ q. run q ss) (named_by at number o.at x) ≡ Some p → line_of p ≡ Some l → IsLine kind (before ++ o ∷ ss) l
call_by kind before at number call o (what.Word op) ss p l o_is e i =
    let c : CallLine = record { at = at; number = number; op_at = o.at; op = op; args = [] } in
    let more = (fronts ss).values c p l e i in
    subst (λ m. IsLine kind (before ++ o ∷ ss) m) (sym more.line) (call o op ss more.args o_is more.values)
call_by kind before at number call o (what.Number d m) ss p l o_is e i = absurd cc
call_by kind before at number call o what.Large ss p l o_is e i = absurd cc
call_by kind before at number call o (what.Byte b) ss p l o_is e i = absurd cc
call_by kind before at number call o (what.Bytes b) ss p l o_is e i = absurd cc
call_by kind before at number call o what.Star ss p l o_is e i = absurd cc
call_by kind before at number call o what.Other ss p l o_is e i = absurd cc

named_call : (kind : TextKind) (before : List Sight) (at : ℕ) (number : Option Number) → IsCallFrom kind before at number → (ss : List Sight) (p : Part) (l : Line)
    → run (part.Numbered at number) ss ≡ Some p → line_of p ≡ Some l → IsLine kind (before ++ ss) l
named_call kind before at number call [] p l e i = absurd (no_line_at (part.Numbered at number) p l e refl i)
named_call kind before at number call (o ∷ ss) p l e i = call_by kind before at number call o o.what ss p l refl e i

call_line : (kind : TextKind) (w : Sight) (ss : List Sight) (p : Part) (l : Line) → numbers_calls kind ≡ true → IsWord (codes "call") w → run (part.Call w.at) ss ≡ Some p → line_of p ≡ Some l
    → IsLine kind (w ∷ ss) l
call_line kind w [] p l nc w_is e i = absurd (no_line_at (part.Call w.at) p l e refl i)
call_line kind w (k ∷ ss) p l nc w_is e i =
    then_some (λ q. run q ss) (option_map (numbered_part w.at) (number_in k)) p e (λ q q_is e1.
    some_case (numbered_part w.at) (number_in k) q q_is (λ n n_is same.
    named_call kind (w ∷ k ∷ []) w.at (Some n) (λ o op us args o_is vs. a_call w k o n op args nc w_is n_is o_is vs) ss p l (ap (λ x. run x ss) same ∙ e1) i))

-- choices behind a front that takes them
record Chosen (ss : List Sight) (whole : List ℕ → Line) (cs : List ℕ) (l : Line) : Type 0 where
  pub more : List ℕ
  pub choices : AreChoices ss more
  pub line : whole (cs ++ more) ≡ l

chosen_by : (front : List ℕ → Part) (whole : List ℕ → Line) → ((cs : List ℕ) (s : Sight) → next (front cs) s ≡ option_map (λ n. front (more_choices cs n)) (number_in s))
    → ((cs : List ℕ) → line_of (front cs) ≡ Some (whole cs)) → (ss : List Sight) (cs : List ℕ) (p : Part) (l : Line) → run (front cs) ss ≡ Some p → line_of p ≡ Some l → Chosen ss whole cs l
chosen_by front whole step ends [] cs p l e i =
    let same : front cs ≡ p = cc in
    let told : Some (whole cs) ≡ Some l = sym (ends cs) ∙ ap line_of same ∙ i in
    let is : whole cs ≡ l = cc in
    record { more = []; choices = no_choice; line = ap whole (append-nil cs) ∙ is }
chosen_by front whole step ends (s ∷ ss) cs p l e i =
    then_some (λ q. run q ss) (option_map (λ n. front (more_choices cs n)) (number_in s)) p (ap (option_and_then (λ q. run q ss)) (sym (step cs s)) ∙ e) (λ q q_is e1.
    some_case (λ n. front (more_choices cs n)) (number_in s) q q_is (λ n n_is same.
    let rest = chosen_by front whole step ends ss (more_choices cs n) p l (ap (λ x. run x ss) same ∙ e1) i in
    record { more = n.value ∷ rest.more; choices = choice_and s n n_is rest.choices; line = ap whole (sym (append_assoc cs (n.value ∷ []) rest.more)) ∙ rest.line }))

act_line : (kind : TextKind) (w : Sight) (ss : List Sight) (p : Part) (l : Line) → kind ≡ text_kind.Moves → IsWord (codes "act") w → run part.Act ss ≡ Some p → line_of p ≡ Some l → IsLine kind (w ∷ ss) l
act_line kind w [] p l m w_is e i = absurd (no_line_at part.Act p l e refl i)
act_line kind w (k ∷ ss) p l m w_is e i =
    then_some (λ q. run q ss) (option_map act_part (number_in k)) p e (λ q q_is e1.
    some_case act_part (number_in k) q q_is (λ n n_is same.
    let end = chosen_by (part.Acting n) (line.Act n) (λ cs s. refl) (λ cs. refl) ss [] p l (ap (λ x. run x ss) same ∙ e1) i in
    subst (λ x. IsLine kind (w ∷ k ∷ ss) x) end.line (an_act w k n end.more m w_is n_is end.choices)))

boot_line : (kind : TextKind) (w : Sight) (ss : List Sight) (p : Part) (l : Line) → kind ≡ text_kind.Moves → IsWord (codes "boot") w → run (part.Booting []) ss ≡ Some p → line_of p ≡ Some l → IsLine kind (w ∷ ss) l
boot_line kind w ss p l m w_is e i =
    let end = chosen_by part.Booting line.Boot (λ cs s. refl) (λ cs. refl) ss [] p l e i in
    subst (λ x. IsLine kind (w ∷ ss) x) end.line (a_choosing_boot w end.more m w_is end.choices)

-- a line that is whole with its last token
last_token : (kind : TextKind) (before : List Sight) (m l : Line) (ss : List Sight) (p : Part) → IsLine kind before m → run (part.Whole m) ss ≡ Some p → line_of p ≡ Some l → IsLine kind (before ++ ss) l
last_token kind before m l ss p is e i =
    let end = nothing_more m l ss p e i in
    subst (λ us. IsLine kind (before ++ us) l) (sym end.0) (subst (λ us. IsLine kind us l) (sym (append-nil before)) (subst (λ x. IsLine kind before x) end.1 is))

step_line : (kind : TextKind) (w : Sight) (ss : List Sight) (p : Part) (l : Line) → kind ≡ text_kind.Schedule → IsWord (codes "step") w → run (part.Step w.at) ss ≡ Some p → line_of p ≡ Some l → IsLine kind (w ∷ ss) l
step_line kind w [] p l m w_is e i = absurd (no_line_at (part.Step w.at) p l e refl i)
step_line kind w (t ∷ ss) p l m w_is e i =
    then_some (λ q. run q ss) (option_map (part.Stepping w.at) (number_in t)) p e (λ q q_is e1.
    some_case (part.Stepping w.at) (number_in t) q q_is (λ n n_is same. go ss n n_is (ap (λ x. run x ss) same ∙ e1)))
  where
    go : (us : List Sight) (n : Number) → number_in t ≡ Some n → run (part.Stepping w.at n) us ≡ Some p → IsLine kind (w ∷ t ∷ us) l
    go [] n n_is k =
        let same : part.Stepping w.at n ≡ p = cc in
        let told : line_of (part.Stepping w.at n) ≡ Some l = ap line_of same ∙ i in
        let is : line.Step w.at n None ≡ l = cc in
        subst (λ x. IsLine kind (w ∷ t ∷ []) x) is (a_step w t n m w_is n_is)
    go (c ∷ us) n n_is k =
        then_some (λ q. run q us) (option_map (counted_part w.at n) (number_in c)) p k (λ q q_is k1.
        some_case (counted_part w.at n) (number_in c) q q_is (λ x x_is same.
        last_token kind (w ∷ t ∷ c ∷ []) (line.Step w.at n (Some x)) l us p (steps w t c n x m w_is n_is x_is) (ap (λ y. run y us) same ∙ k1) i))

fail_line : (kind : TextKind) (w : Sight) (ss : List Sight) (p : Part) (l : Line) → kind ≡ text_kind.Schedule → IsWord (codes "fail") w → run (part.Fail w.at) ss ≡ Some p → line_of p ≡ Some l → IsLine kind (w ∷ ss) l
fail_line kind w [] p l m w_is e i = absurd (no_line_at (part.Fail w.at) p l e refl i)
fail_line kind w (d ∷ ss) p l m w_is e i =
    then_some (λ q. run q ss) (option_map (failing_part w.at) (number_in d)) p e (λ q q_is e1.
    some_case (failing_part w.at) (number_in d) q q_is (λ n n_is same.
    last_token kind (w ∷ d ∷ []) (line.Fail w.at n) l ss p (a_fail w d n m w_is n_is) (ap (λ x. run x ss) same ∙ e1) i))

grow_line : (kind : TextKind) (w : Sight) (ss : List Sight) (p : Part) (l : Line) → kind ≡ text_kind.Schedule → IsWord (codes "grow") w → run (part.Grow w.at) ss ≡ Some p → line_of p ≡ Some l → IsLine kind (w ∷ ss) l
grow_line kind w [] p l m w_is e i = absurd (no_line_at (part.Grow w.at) p l e refl i)
grow_line kind w (t ∷ ss) p l m w_is e i =
    then_some (λ q. run q ss) (option_map (part.Growing w.at) (number_in t)) p e (λ q q_is e1.
    some_case (part.Growing w.at) (number_in t) q q_is (λ n n_is same. go ss n n_is (ap (λ x. run x ss) same ∙ e1)))
  where
    go : (us : List Sight) (n : Number) → number_in t ≡ Some n → run (part.Growing w.at n) us ≡ Some p → IsLine kind (w ∷ t ∷ us) l
    go [] n n_is k = absurd (no_line_at (part.Growing w.at n) p l k refl i)
    go (x ∷ us) n n_is k =
        then_some (λ q. run q us) (option_map (grown_part w.at n) (number_in x)) p k (λ q q_is k1.
        some_case (grown_part w.at n) (number_in x) q q_is (λ y y_is same.
        last_token kind (w ∷ t ∷ x ∷ []) (line.Grow w.at n y) l us p (a_grow w t x n y m w_is n_is y_is) (ap (λ z. run z us) same ∙ k1) i))

replied : (kind : TextKind) (w k : Sight) (n : Number) (vs : List Sight) (a : Argument) (ss : List Sight) (p : Part) (l : Line) → numbers_calls kind ≡ true → IsWord (codes "answer") w → number_in k ≡ Some n → IsValue vs a
    → run (answered n a) ss ≡ Some p → line_of p ≡ Some l → IsLine kind (w ∷ k ∷ (vs ++ ss)) l
replied kind w k n vs a ss p l nc w_is n_is v e i =
    let end = nothing_more (line.Answer n (Some a)) l ss p e i in
    let none : vs ++ ss ≡ vs = ap (λ us. vs ++ us) end.0 ∙ append-nil vs in
    subst (λ us. IsLine kind (w ∷ k ∷ us) l) (sym none) (subst (λ m. IsLine kind (w ∷ k ∷ vs) m) end.1 (a_reply w k n a nc w_is n_is v))

reply_star : (kind : TextKind) (w k s t : Sight) (n : Number) (b : OneByte) (ss : List Sight) (p : Part) (l : Line) → numbers_calls kind ≡ true → IsWord (codes "answer") w → number_in k ≡ Some n → byte_in s ≡ Some b
    → is_star t.what ≡ true → run (part.ReplyStar n b) ss ≡ Some p → line_of p ≡ Some l → IsLine kind (w ∷ k ∷ s ∷ t ∷ ss) l
reply_star kind w k s t n b [] p l nc w_is n_is b_is t_is e i = absurd (no_line_at (part.ReplyStar n b) p l e refl i)
reply_star kind w k s t n b (u ∷ ss) p l nc w_is n_is b_is t_is e i =
    then_some (λ q. run q ss) (option_map (λ m. answered n (times b m)) (number_in u)) p e (λ q q_is e1.
    some_case (λ m. answered n (times b m)) (number_in u) q q_is (λ m m_is same.
    replied kind w k n (s ∷ t ∷ u ∷ []) (times b m) ss p l nc w_is n_is (byte_times s t u b m b_is t_is m_is) (ap (λ x. run x ss) same ∙ e1) i))

reply_byte_by : (kind : TextKind) (w k s t : Sight) (n : Number) (b : OneByte) (ss : List Sight) (p : Part) (l : Line) (v : Bool) → v ≡ is_star t.what → numbers_calls kind ≡ true → IsWord (codes "answer") w → number_in k ≡ Some n
    → byte_in s ≡ Some b → option_and_then (λ q. run q ss) (cond v (Some (part.ReplyStar n b)) None) ≡ Some p → line_of p ≡ Some l → IsLine kind (w ∷ k ∷ s ∷ t ∷ ss) l
reply_byte_by kind w k s t n b ss p l true v nc w_is n_is b_is e i = reply_star kind w k s t n b ss p l nc w_is n_is b_is (sym v) e i
reply_byte_by kind w k s t n b ss p l false v nc w_is n_is b_is e i = absurd cc

reply_byte : (kind : TextKind) (w k s : Sight) (n : Number) (b : OneByte) (ss : List Sight) (p : Part) (l : Line) → numbers_calls kind ≡ true → IsWord (codes "answer") w → number_in k ≡ Some n → byte_in s ≡ Some b
    → run (part.ReplyByte n b) ss ≡ Some p → line_of p ≡ Some l → IsLine kind (w ∷ k ∷ s ∷ ss) l
reply_byte kind w k s n b [] p l nc w_is n_is b_is e i =
    let same : part.ReplyByte n b ≡ p = cc in
    let told : line_of (part.ReplyByte n b) ≡ Some l = ap line_of same ∙ i in
    let is : line.Answer n (Some (single b)) ≡ l = cc in
    subst (λ m. IsLine kind (w ∷ k ∷ s ∷ []) m) is (a_reply w k n (single b) nc w_is n_is (one_byte s b b_is))
reply_byte kind w k s n b (t ∷ ss) p l nc w_is n_is b_is e i = reply_byte_by kind w k s t n b ss p l (is_star t.what) refl nc w_is n_is b_is e i

reply_cases : (kind : TextKind) (w k s : Sight) (n : Number) (ss : List Sight) (p : Part) (l : Line) (b : Option OneByte) (a : Option Argument) → byte_in s ≡ b → plain_in s ≡ a
    → numbers_calls kind ≡ true → IsWord (codes "answer") w → number_in k ≡ Some n → option_and_then (λ q. run q ss) (reply_by n b a) ≡ Some p → line_of p ≡ Some l → IsLine kind (w ∷ k ∷ s ∷ ss) l
reply_cases kind w k s n ss p l (Some b) a b_is a_is nc w_is n_is e i = reply_byte kind w k s n b ss p l nc w_is n_is b_is e i
reply_cases kind w k s n ss p l None None b_is a_is nc w_is n_is e i = absurd cc
reply_cases kind w k s n ss p l None (Some a) b_is a_is nc w_is n_is e i = replied kind w k n (s ∷ []) a ss p l nc w_is n_is (alone s a a_is) e i

numbered_answer : (kind : TextKind) (w k : Sight) (n : Number) (ss : List Sight) (p : Part) (l : Line) → numbers_calls kind ≡ true → IsWord (codes "answer") w → number_in k ≡ Some n
    → run (part.Replying n) ss ≡ Some p → line_of p ≡ Some l → IsLine kind (w ∷ k ∷ ss) l
numbered_answer kind w k n [] p l nc w_is n_is e i =
    let same : part.Replying n ≡ p = cc in
    let told : line_of (part.Replying n) ≡ Some l = ap line_of same ∙ i in
    let is : line.Answer n None ≡ l = cc in
    subst (λ m. IsLine kind (w ∷ k ∷ []) m) is (an_answer w k n nc w_is n_is)
numbered_answer kind w k n (s ∷ ss) p l nc w_is n_is e i = reply_cases kind w k s n ss p l (byte_in s) (plain_in s) refl refl nc w_is n_is e i

answer_line : (kind : TextKind) (w : Sight) (ss : List Sight) (p : Part) (l : Line) → numbers_calls kind ≡ true → IsWord (codes "answer") w → run part.Answer ss ≡ Some p → line_of p ≡ Some l → IsLine kind (w ∷ ss) l
answer_line kind w [] p l nc w_is e i = absurd (no_line_at part.Answer p l e refl i)
answer_line kind w (k ∷ ss) p l nc w_is e i =
    then_some (λ q. run q ss) (option_map part.Replying (number_in k)) p e (λ q q_is e1.
    some_case part.Replying (number_in k) q q_is (λ n n_is same.
    numbered_answer kind w k n ss p l nc w_is n_is (ap (λ x. run x ss) same ∙ e1) i))

-- a line that is its first word
word_line : (kind : TextKind) (w : Sight) (m : Line) (ss : List Sight) (p : Part) (l : Line) → IsLine kind (w ∷ []) m → run (part.Whole m) ss ≡ Some p → line_of p ≡ Some l → IsLine kind (w ∷ ss) l
word_line kind w m ss p l is e i =
    let end = nothing_more m l ss p e i in
    subst (λ us. IsLine kind (w ∷ us) l) (sym end.0) (subst (λ x. IsLine kind (w ∷ []) x) end.1 is)

-- the words of one kind of text
own_line : (kind : TextKind) (w : Sight) (v : List ℕ) (q : Part) (ss : List Sight) (p : Part) (l : Line) → w.what ≡ what.Word v → own_word kind w.at v ≡ Some q
    → run q ss ≡ Some p → line_of p ≡ Some l → IsLine kind (w ∷ ss) l
own_line text_kind.History w v q ss p l w_is o e i =
    word_case v (codes "answer") part.Answer _ q o
    (λ is same. answer_line text_kind.History w ss p l refl (w_is ∙ ap what.Word is) (ap (λ r. run r ss) same ∙ e) i)
    (λ o1. word_case v (codes "boot") (part.Whole (line.Boot [])) _ q o1
    (λ is same. word_line text_kind.History w (line.Boot []) ss p l (a_boot w refl (w_is ∙ ap what.Word is)) (ap (λ r. run r ss) same ∙ e) i)
    (λ o2. word_case v (codes "end") (part.Whole line.End) _ q o2
    (λ is same. word_line text_kind.History w line.End ss p l (an_end w refl (w_is ∙ ap what.Word is)) (ap (λ r. run r ss) same ∙ e) i)
    (λ o3. absurd cc)))
own_line text_kind.Moves w v q ss p l w_is o e i =
    word_case v (codes "answer") part.Answer _ q o
    (λ is same. answer_line text_kind.Moves w ss p l refl (w_is ∙ ap what.Word is) (ap (λ r. run r ss) same ∙ e) i)
    (λ o1. word_case v (codes "boot") (part.Booting []) _ q o1
    (λ is same. boot_line text_kind.Moves w ss p l refl (w_is ∙ ap what.Word is) (ap (λ r. run r ss) same ∙ e) i)
    (λ o2. word_case v (codes "act") part.Act _ q o2
    (λ is same. act_line text_kind.Moves w ss p l refl (w_is ∙ ap what.Word is) (ap (λ r. run r ss) same ∙ e) i)
    (λ o3. absurd cc)))
own_line text_kind.Schedule w v q ss p l w_is o e i =
    word_case v (codes "step") (part.Step w.at) _ q o
    (λ is same. step_line text_kind.Schedule w ss p l refl (w_is ∙ ap what.Word is) (ap (λ r. run r ss) same ∙ e) i)
    (λ o1. word_case v (codes "fail") (part.Fail w.at) _ q o1
    (λ is same. fail_line text_kind.Schedule w ss p l refl (w_is ∙ ap what.Word is) (ap (λ r. run r ss) same ∙ e) i)
    (λ o2. word_case v (codes "grow") (part.Grow w.at) _ q o2
    (λ is same. grow_line text_kind.Schedule w ss p l refl (w_is ∙ ap what.Word is) (ap (λ r. run r ss) same ∙ e) i)
    (λ o3. absurd cc)))

-- the word `call`
calling_line : (kind : TextKind) (w : Sight) (ss : List Sight) (p : Part) (l : Line) → IsWord (codes "call") w → run (calling kind w.at) ss ≡ Some p → line_of p ≡ Some l → IsLine kind (w ∷ ss) l
calling_line text_kind.History w ss p l w_is e i = call_line text_kind.History w ss p l refl w_is e i
calling_line text_kind.Moves w ss p l w_is e i = call_line text_kind.Moves w ss p l refl w_is e i
calling_line text_kind.Schedule w ss p l w_is e i =
    named_call text_kind.Schedule (w ∷ []) w.at None (λ o op us args o_is vs. a_start w o op args refl w_is o_is vs) ss p l e i

word_of_line : (kind : TextKind) (w : Sight) (v : List ℕ) (q : Part) (ss : List Sight) (p : Part) (l : Line) → w.what ≡ what.Word v
    → cond (bytes_eq v (codes "call")) (Some (calling kind w.at)) (cond (bytes_eq v (codes "crash")) (Some (part.Whole (line.Crash w.at))) (own_word kind w.at v)) ≡ Some q
    → run q ss ≡ Some p → line_of p ≡ Some l → IsLine kind (w ∷ ss) l
word_of_line kind w v q ss p l w_is o e i =
    word_case v (codes "call") (calling kind w.at) _ q o
    (λ is same. calling_line kind w ss p l (w_is ∙ ap what.Word is) (ap (λ r. run r ss) same ∙ e) i)
    (λ o1. word_case v (codes "crash") (part.Whole (line.Crash w.at)) _ q o1
    (λ is same. word_line kind w (line.Crash w.at) ss p l (a_crash w (w_is ∙ ap what.Word is)) (ap (λ r. run r ss) same ∙ e) i)
    (λ o2. own_line kind w v q ss p l w_is o2 e i))

first_line_by : (kind : TextKind) (w : Sight) (x : What) (q : Part) (ss : List Sight) (p : Part) (l : Line) → w.what ≡ x → first_by kind w.at x ≡ Some q
    → run q ss ≡ Some p → line_of p ≡ Some l → IsLine kind (w ∷ ss) l
first_line_by kind w (what.Word v) q ss p l w_is k e i = word_of_line kind w v q ss p l w_is k e i
first_line_by kind w (what.Number d n) q ss p l w_is k e i = absurd cc
first_line_by kind w what.Large q ss p l w_is k e i = absurd cc
first_line_by kind w (what.Byte b) q ss p l w_is k e i = absurd cc
first_line_by kind w (what.Bytes b) q ss p l w_is k e i = absurd cc
first_line_by kind w what.Star q ss p l w_is k e i = absurd cc
first_line_by kind w what.Other q ss p l w_is k e i = absurd cc

-- the tokens that lead to a front which is a line, are that line
front_line : (kind : TextKind) (w : Sight) (q : Part) (ss : List Sight) (p : Part) (l : Line) → first kind w ≡ Some q → run q ss ≡ Some p → line_of p ≡ Some l → IsLine kind (w ∷ ss) l
front_line kind w q ss p l k e i = first_line_by kind w w.what q ss p l refl k e i

-- ---- whole texts

behind_case : {P : Type 0} (f : Fault) (g : Step → Result (List Line) Fault) (o : Option Step) (ls : List Line) → behind f g o ≡ Ok ls
    → ((x : Step) (more : List Line) → o ≡ Some x → g x ≡ Ok more → put x.done more ≡ ls → P) → P
behind_case f g None ls e k = absurd cc
behind_case {P} f g (Some x) ls e k = got (g x) refl e
  where
    got : (r : Result (List Line) Fault) → r ≡ g x → map_ok (put x.done) r ≡ Ok ls → P
    got (Ok more) r_is h = let same : put x.done more ≡ ls = cc in k x more refl (sym r_is) same
    got (Err y) r_is h = absurd cc

turned_case : (kind : TextKind) (l : Line) (s : Sight) (x : Step) → turned kind l s ≡ Some x → (begun kind (Some l) s ≡ Some x) × (l ≡ line.End → ⊥)
turned_case kind (line.Call c) s x e = (e, λ h. cc)
turned_case kind (line.Answer n r) s x e = (e, λ h. cc)
turned_case kind (line.Act n choices) s x e = (e, λ h. cc)
turned_case kind (line.Crash at) s x e = (e, λ h. cc)
turned_case kind (line.Boot choices) s x e = (e, λ h. cc)
turned_case kind (line.Step at thread count) s x e = (e, λ h. cc)
turned_case kind (line.Fail at disk) s x e = (e, λ h. cc)
turned_case kind (line.Grow at thread extra) s x e = (e, λ h. cc)
turned_case kind line.End s x e = absurd cc

all_more : (ss : List Sight) (s : Sight) → AllByRecursion (λ t. t.starts ≡ false) ss → s.starts ≡ false → AllByRecursion (λ t. t.starts ≡ false) (ss ++ s ∷ [])
all_more [] s h e = (e, tt)
all_more (t ∷ ss) s h e = (h.0, all_more ss s h.1 e)

-- behind the front of a line, tokens that are read as lines are spelled with the line's own
abbrev IsSpelledBehind : TextKind → ℕ → List Sight → Type 0
IsSpelledBehind kind end ss = (w : Sight) (rest : List Sight) (q p : Part) (ls : List Line) → first kind w ≡ Some q → run q rest ≡ Some p → AllByRecursion (λ t. t.starts ≡ false) rest
    → lines_from kind end (Some p) ss ≡ Ok ls → AreLines kind ((w ∷ rest) ++ ss) ls

last_spelled : (kind : TextKind) (end : ℕ) → IsSpelledBehind kind end []
last_spelled kind end w rest q p ls k e one h = go (line_of p) refl h
  where
    go : (o : Option Line) → line_of p ≡ o → last_line end o ≡ Ok ls → AreLines kind ((w ∷ rest) ++ []) ls
    go None o_is i = absurd cc
    go (Some l) o_is i =
        let same : l ∷ [] ≡ ls = cc in
        subst (AreLines kind ((w ∷ rest) ++ [])) same (line_and l (front_line kind w q rest p l k e o_is) one tt (λ _. refl) no_line)

step_spelled : (kind : TextKind) (end : ℕ) (s : Sight) (ss : List Sight) → IsSpelledBehind kind end ss → IsSpelledBehind kind end (s ∷ ss)
step_spelled kind end s ss more w rest q p ls k e one h = go s.starts refl h
  where
    go : (v : Bool) → s.starts ≡ v
        → behind (fault_at s) (λ x. lines_from kind end (Some x.part) ss) (cond v (option_and_then (λ l. turned kind l s) (line_of p)) (option_map (made None) (next p s))) ≡ Ok ls
        → AreLines kind ((w ∷ rest) ++ s ∷ ss) ls
    go true v_is i =
        behind_case (fault_at s) (λ x. lines_from kind end (Some x.part) ss) (option_and_then (λ l. turned kind l s) (line_of p)) ls i (λ x us x_is us_is ls_is.
        then_some (λ l. turned kind l s) (line_of p) x x_is (λ l l_is t.
        let c = turned_case kind l s x t in
        some_case (made (Some l)) (first kind s) x c.0 (λ r r_is same.
        let part_is : x.part ≡ r = ap (λ y. y.part) (sym same) in
        let done_is : x.done ≡ Some l = ap (λ y. y.done) (sym same) in
        let tail : AreLines kind (s ∷ ss) us = more s [] r r us r_is refl tt (ap (λ y. lines_from kind end (Some y) ss) (sym part_is) ∙ us_is) in
        let all : l ∷ us ≡ ls = ap (λ d. put d us) (sym done_is) ∙ ls_is in
        subst (AreLines kind ((w ∷ rest) ++ s ∷ ss)) all (line_and l (front_line kind w q rest p l k e l_is) one v_is (λ h2. absurd (c.1 h2)) tail))))
    go false v_is i =
        behind_case (fault_at s) (λ x. lines_from kind end (Some x.part) ss) (option_map (made None) (next p s)) ls i (λ x us x_is us_is ls_is.
        some_case (made None) (next p s) x x_is (λ r r_is same.
        let part_is : x.part ≡ r = ap (λ y. y.part) (sym same) in
        let done_is : x.done ≡ None = ap (λ y. y.done) (sym same) in
        let all : us ≡ ls = ap (λ d. put d us) (sym done_is) ∙ ls_is in
        let front : run q (rest ++ s ∷ []) ≡ Some r = run_more q p rest (s ∷ []) e ∙ run_one p r s [] r_is in
        let tail = more w (rest ++ s ∷ []) q r us k front (all_more rest s one v_is) (ap (λ y. lines_from kind end (Some y) ss) (sym part_is) ∙ us_is) in
        let tokens : (w ∷ (rest ++ s ∷ [])) ++ ss ≡ (w ∷ rest) ++ s ∷ ss = append_assoc (w ∷ rest) (s ∷ []) ss in
        subst (AreLines kind ((w ∷ rest) ++ s ∷ ss)) all (subst (λ ts. AreLines kind ts us) tokens tail)))

spelled_behind : (kind : TextKind) (end : ℕ) (ss : List Sight) → IsSpelledBehind kind end ss
spelled_behind kind end [] = last_spelled kind end
spelled_behind kind end (s ∷ ss) = step_spelled kind end s ss (spelled_behind kind end ss)

pub read_spelled : (kind : TextKind) (end : ℕ) (ss : List Sight) (ls : List Line) → lines_from kind end None ss ≡ Ok ls → AreLines kind ss ls
read_spelled kind end [] ls h = let same : [] ≡ ls = cc in subst (AreLines kind []) same no_line
read_spelled kind end (s ∷ ss) ls h =
    behind_case (fault_at s) (λ x. lines_from kind end (Some x.part) ss) (begun kind None s) ls h (λ x us x_is us_is ls_is.
    some_case (made None) (first kind s) x x_is (λ r r_is same.
    let part_is : x.part ≡ r = ap (λ y. y.part) (sym same) in
    let done_is : x.done ≡ None = ap (λ y. y.done) (sym same) in
    let all : us ≡ ls = ap (λ d. put d us) (sym done_is) ∙ ls_is in
    subst (AreLines kind (s ∷ ss)) all (spelled_behind kind end ss s [] r r us r_is refl tt (ap (λ y. lines_from kind end (Some y) ss) (sym part_is) ∙ us_is))))

-- The list of what is found has just the faults, rule by rule.
use Rattle.std.proofs.Common.{◌≡◌, ℕ, Bool, true, false, not, ◌⊎◌, inl, inr, List, [], ◌++◌, length, Option, Some, None, refl, sym, ap, subst, ◌∙◌}
use Rattle.std.specs.Prelude.{nat_eq}
use Rattle.std.proofs.lemmas.Bool.{false≢true}
use Rattle.gv_base.specs.declared.answers.Code.{Code}
use Rattle.gv_base.specs.declared.answers.Code.TheVariants.{Undeclared, Twice, WrongCount}
use Rattle.gv_lang.specs.declared.program.Program.{Program}
use Rattle.gv_atomic.specs.declared.spec.Op.{Op as SpecOp}
use Rattle.gv_atomic.specs.declared.spec.Spec.{Spec}
use Rattle.gv_termread.specs.declared.token.SeenToken.{SeenToken}
use Rattle.gv_scriptnames.specs.declared.mention.Mention.{Mention}
use Rattle.gv_scriptnames.specs.declared.mention.Mention.TheVariants as mention
use Rattle.gv_scriptnames.specs.Names.{name_in, names_in, is_constant}
use Rattle.gv_scriptnames.specs.Mentions.{Mentions}
use Rattle.gv_scriptnames.specs.Scopes.{Shape, Scope, is_borne, pred_named, is_cell, is_field, op_named}
use Rattle.gv_scriptnames.specs.Faults as fault
use Rattle.gv_scriptnames.specs.Faults.{IsTwice, HasTwice, HasMentionFault, HasMentionsFault, HasBookFault, HasPredFault, HasCrashFault, HasRootFault, HasCutFault, HasBodyFault, HasOpFault, HasProcFault, HasOutlineFault}
use Rattle.gv_scriptnames.specs.Found.{Found, unless, twice, all_twice, of_pred, of_op_mention, of_mention, of_mentions}
use Rattle.gv_scriptnames.proofs.Finding.{Same, in_first, in_second, in_either, not_true, not_false, all_same, each_same}

-- ---- how kinds of faults are put together

abbrev pub Kind : Type 1
Kind = ℕ → Code → Type 0

pub either_same : {A B : Kind} {fs gs : Found} → Same A fs → Same B gs → Same (λ at code. A at code ⊎ B at code) (fs ++ gs)
either_same {A} {B} {fs} {gs} a b = record {
  found = λ at code h. elim h [ inl g ↦ in_first fs gs at code (a.found at code g) | inr g ↦ in_second fs gs at code (b.found at code g) ];
  so = λ at code h. elim (in_either fs gs at code h) [ inl g ↦ inl (a.so at code g) | inr g ↦ inr (b.so at code g) ];
}

pub via : {A : Kind} {fs : Found} (Has : Kind) → Same A fs → ((at : ℕ) (code : Code) → Has at code → A at code) → ((at : ℕ) (code : Code) → A at code → Has at code) → Same Has fs
via Has a to back = record { found = λ at code h. a.found at code (to at code h); so = λ at code h. back at code (a.so at code h) }

-- this fault, unless something holds
abbrev pub Only : Bool → ℕ → Code → Kind
Only b start kind = λ at code. (b ≡ false) × (start ≡ at) × (kind ≡ code)

pub moved : (Has : Kind) (start at : ℕ) (kind code : Code) → start ≡ at → kind ≡ code → Has start kind → Has at code
moved Has start at kind code p q h = subst (λ (c : Code). Has at c) q (subst (λ (n : ℕ). Has n kind) p h)

pub only_same : (b : Bool) (start : ℕ) (kind : Code) → Same (Only b start kind) (unless b start kind)
only_same true start kind = record { found = λ at code h. absurd (false≢true (sym h.0)); so = λ at code h. absurd h }
only_same false start kind = record {
  found = λ at code h. inl (h.1, h.2);
  so = λ at code h. elim h [ inl e ↦ (refl, e.0, e.1) | inr g ↦ absurd g ];
}

-- no fault at all
pub none_same : {Has : Kind} → ((at : ℕ) (code : Code) → Has at code → ⊥) → Same Has []
none_same never = record { found = λ at code h. absurd (never at code h); so = λ at code h. absurd h }

pub some_none : {T : Type 0} {x : T} → Some x ≡ None → ⊥
some_none e = cc

pub none_some : {T : Type 0} {x : T} → None ≡ Some x → ⊥
none_some e = cc

module _ (text : List ℕ) (spec : Spec) (program : Program) where
  -- ---- names

  pub twice_same : (before : List (List ℕ)) (t : SeenToken) → Same (IsTwice text spec program before t) (twice text spec program before t)
  twice_same before t =
      via (IsTwice text spec program before t) (either_same (only_same (not (is_constant t)) t.start Twice) (only_same (not (is_borne before (name_in text t))) t.start Twice)) to back
    where
      to : (at : ℕ) (code : Code) → IsTwice text spec program before t at code
          → Only (not (is_constant t)) t.start Twice at code ⊎ Only (not (is_borne before (name_in text t))) t.start Twice at code
      to at code (fault.constant e) = inl (not_true (is_constant t) e, refl, refl)
      to at code (fault.again e) = inr (not_true (is_borne before (name_in text t)) e, refl, refl)

      back : (at : ℕ) (code : Code) → Only (not (is_constant t)) t.start Twice at code ⊎ Only (not (is_borne before (name_in text t))) t.start Twice at code
          → IsTwice text spec program before t at code
      back at code (inl h) = moved (IsTwice text spec program before t) t.start at Twice code h.1 h.2 (fault.constant (not_false (is_constant t) h.0))
      back at code (inr h) = moved (IsTwice text spec program before t) t.start at Twice code h.1 h.2 (fault.again (not_false (is_borne before (name_in text t)) h.0))

  pub all_twice_same : (names : List (List ℕ)) (ts : List SeenToken) → Same (HasTwice text spec program names ts) (all_twice text spec program names ts)
  all_twice_same names ts =
      each_same (λ before t. IsTwice text spec program (names ++ names_in text before) t) (λ before t. twice text spec program (names ++ names_in text before) t)
      (λ before t. twice_same (names ++ names_in text before) t) ts

  -- ---- what is named

  pred_same : (sc : Scope) (t : SeenToken) (count : ℕ) (found : Option Shape) → pred_named sc (name_in text t) ≡ found
      → Same (HasMentionFault text spec program sc (mention.Pred t count)) (of_pred text spec program t count found)
  pred_same sc t count None e = via (HasMentionFault text spec program sc (mention.Pred t count)) (only_same false t.start Undeclared) to back
    where
      to : (at : ℕ) (code : Code) → HasMentionFault text spec program sc (mention.Pred t count) at code → Only false t.start Undeclared at code
      to at code (fault.no_pred t count q) = (refl, refl, refl)
      to at code (fault.other_terms t count s q b) = absurd (none_some (sym e ∙ q))

      back : (at : ℕ) (code : Code) → Only false t.start Undeclared at code → HasMentionFault text spec program sc (mention.Pred t count) at code
      back at code h = moved (HasMentionFault text spec program sc (mention.Pred t count)) t.start at Undeclared code h.1 h.2 (fault.no_pred t count e)
  pred_same sc t count (Some s) e = via (HasMentionFault text spec program sc (mention.Pred t count)) (only_same (nat_eq count (length s.params)) t.start WrongCount) to back
    where
      to : (at : ℕ) (code : Code) → HasMentionFault text spec program sc (mention.Pred t count) at code → Only (nat_eq count (length s.params)) t.start WrongCount at code
      to at code (fault.no_pred t count q) = absurd (none_some (sym q ∙ e))
      to at code (fault.other_terms t count r q b) =
          let same : s ≡ r = cc in
          (ap (λ (x : Shape). nat_eq count (length x.params)) same ∙ b, refl, refl)

      back : (at : ℕ) (code : Code) → Only (nat_eq count (length s.params)) t.start WrongCount at code → HasMentionFault text spec program sc (mention.Pred t count) at code
      back at code h = moved (HasMentionFault text spec program sc (mention.Pred t count)) t.start at WrongCount code h.1 h.2 (fault.other_terms t count s e h.0)

  op_same : (sc : Scope) (w t : SeenToken) (count : ℕ) (found : Option SpecOp) → op_named spec (name_in text t) ≡ found
      → Same (HasMentionFault text spec program sc (mention.Op w t count)) (of_op_mention text spec program w t count found)
  op_same sc w t count None e = via (HasMentionFault text spec program sc (mention.Op w t count)) (only_same false t.start Undeclared) to back
    where
      to : (at : ℕ) (code : Code) → HasMentionFault text spec program sc (mention.Op w t count) at code → Only false t.start Undeclared at code
      to at code (fault.no_op w t count q) = (refl, refl, refl)
      to at code (fault.other_arguments w t count o q b) = absurd (none_some (sym e ∙ q))

      back : (at : ℕ) (code : Code) → Only false t.start Undeclared at code → HasMentionFault text spec program sc (mention.Op w t count) at code
      back at code h = moved (HasMentionFault text spec program sc (mention.Op w t count)) t.start at Undeclared code h.1 h.2 (fault.no_op w t count e)
  op_same sc w t count (Some o) e = via (HasMentionFault text spec program sc (mention.Op w t count)) (only_same (nat_eq count (length o.params)) w.start WrongCount) to back
    where
      to : (at : ℕ) (code : Code) → HasMentionFault text spec program sc (mention.Op w t count) at code → Only (nat_eq count (length o.params)) w.start WrongCount at code
      to at code (fault.no_op w t count q) = absurd (none_some (sym q ∙ e))
      to at code (fault.other_arguments w t count r q b) =
          let same : o ≡ r = cc in
          (ap (λ (x : SpecOp). nat_eq count (length x.params)) same ∙ b, refl, refl)

      back : (at : ℕ) (code : Code) → Only (nat_eq count (length o.params)) w.start WrongCount at code → HasMentionFault text spec program sc (mention.Op w t count) at code
      back at code h = moved (HasMentionFault text spec program sc (mention.Op w t count)) w.start at WrongCount code h.1 h.2 (fault.other_arguments w t count o e h.0)

  cell_same : (sc : Scope) (t : SeenToken) → Same (HasMentionFault text spec program sc (mention.Cell t)) (unless (is_cell program (name_in text t)) t.start Undeclared)
  cell_same sc t = via (HasMentionFault text spec program sc (mention.Cell t)) (only_same (is_cell program (name_in text t)) t.start Undeclared) to back
    where
      to : (at : ℕ) (code : Code) → HasMentionFault text spec program sc (mention.Cell t) at code → Only (is_cell program (name_in text t)) t.start Undeclared at code
      to at code (fault.no_cell t e) = (e, refl, refl)

      back : (at : ℕ) (code : Code) → Only (is_cell program (name_in text t)) t.start Undeclared at code → HasMentionFault text spec program sc (mention.Cell t) at code
      back at code h = moved (HasMentionFault text spec program sc (mention.Cell t)) t.start at Undeclared code h.1 h.2 (fault.no_cell t (h.0))

  field_same : (sc : Scope) (t : SeenToken) → Same (HasMentionFault text spec program sc (mention.Field t)) (unless (is_field spec (name_in text t)) t.start Undeclared)
  field_same sc t = via (HasMentionFault text spec program sc (mention.Field t)) (only_same (is_field spec (name_in text t)) t.start Undeclared) to back
    where
      to : (at : ℕ) (code : Code) → HasMentionFault text spec program sc (mention.Field t) at code → Only (is_field spec (name_in text t)) t.start Undeclared at code
      to at code (fault.no_field t e) = (e, refl, refl)

      back : (at : ℕ) (code : Code) → Only (is_field spec (name_in text t)) t.start Undeclared at code → HasMentionFault text spec program sc (mention.Field t) at code
      back at code h = moved (HasMentionFault text spec program sc (mention.Field t)) t.start at Undeclared code h.1 h.2 (fault.no_field t (h.0))

  book_same : (sc : Scope) (t : SeenToken) → Same (HasMentionFault text spec program sc (mention.Book t)) (unless (is_borne sc.books (name_in text t)) t.start Undeclared)
  book_same sc t = via (HasMentionFault text spec program sc (mention.Book t)) (only_same (is_borne sc.books (name_in text t)) t.start Undeclared) to back
    where
      to : (at : ℕ) (code : Code) → HasMentionFault text spec program sc (mention.Book t) at code → Only (is_borne sc.books (name_in text t)) t.start Undeclared at code
      to at code (fault.no_book t e) = (e, refl, refl)

      back : (at : ℕ) (code : Code) → Only (is_borne sc.books (name_in text t)) t.start Undeclared at code → HasMentionFault text spec program sc (mention.Book t) at code
      back at code h = moved (HasMentionFault text spec program sc (mention.Book t)) t.start at Undeclared code h.1 h.2 (fault.no_book t (h.0))

  bound_same : (sc : Scope) (t : SeenToken) → Same (HasMentionFault text spec program sc (mention.Bound t)) (unless (not (is_constant t)) t.start Twice)
  bound_same sc t = via (HasMentionFault text spec program sc (mention.Bound t)) (only_same (not (is_constant t)) t.start Twice) to back
    where
      to : (at : ℕ) (code : Code) → HasMentionFault text spec program sc (mention.Bound t) at code → Only (not (is_constant t)) t.start Twice at code
      to at code (fault.bound_constant t e) = (not_true (is_constant t) e, refl, refl)

      back : (at : ℕ) (code : Code) → Only (not (is_constant t)) t.start Twice at code → HasMentionFault text spec program sc (mention.Bound t) at code
      back at code h = moved (HasMentionFault text spec program sc (mention.Bound t)) t.start at Twice code h.1 h.2 (fault.bound_constant t (not_false (is_constant t) h.0))

  cut_same : (sc : Scope) (t : SeenToken) → Same (HasMentionFault text spec program sc (mention.Cut t)) (unless (is_borne sc.cuts (name_in text t)) t.start Undeclared)
  cut_same sc t = via (HasMentionFault text spec program sc (mention.Cut t)) (only_same (is_borne sc.cuts (name_in text t)) t.start Undeclared) to back
    where
      to : (at : ℕ) (code : Code) → HasMentionFault text spec program sc (mention.Cut t) at code → Only (is_borne sc.cuts (name_in text t)) t.start Undeclared at code
      to at code (fault.no_cut t e) = (e, refl, refl)

      back : (at : ℕ) (code : Code) → Only (is_borne sc.cuts (name_in text t)) t.start Undeclared at code → HasMentionFault text spec program sc (mention.Cut t) at code
      back at code h = moved (HasMentionFault text spec program sc (mention.Cut t)) t.start at Undeclared code h.1 h.2 (fault.no_cut t (h.0))

  pub mention_same : (sc : Scope) (m : Mention) → Same (HasMentionFault text spec program sc m) (of_mention text spec program sc m)
  mention_same sc (mention.Pred t count) = pred_same sc t count (pred_named sc (name_in text t)) refl
  mention_same sc (mention.Cell t) = cell_same sc t
  mention_same sc (mention.Field t) = field_same sc t
  mention_same sc (mention.Book t) = book_same sc t
  mention_same sc (mention.Op w t count) = op_same sc w t count (op_named spec (name_in text t)) refl
  mention_same sc (mention.Bound t) = bound_same sc t
  mention_same sc (mention.Cut t) = cut_same sc t

  pub mentions_same : (sc : Scope) (ms : Mentions) → Same (HasMentionsFault text spec program sc ms) (of_mentions text spec program sc ms)
  mentions_same sc ms = all_same (HasMentionFault text spec program sc) (of_mention text spec program sc) (mention_same sc) ms

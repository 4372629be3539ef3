-- What the published grammar of specifications spells is derived, and the steps build its tree.
use Rattle.std.proofs.Common.{◌≡◌, ℕ, Bool, true, List, [], ◌∷◌, ◌++◌, Option, Some, ⊎_elim, refl, subst}
use Rattle.std.proofs.lemmas.List.{append-nil}
use Rattle.gv_grammar.specs.declared.symbols.Symbol.{Symbol}
use Rattle.gv_grammar.specs.declared.symbols.Symbol.TheVariants.{Token as T, Name as N, Act as A}
use Rattle.gv_grammar.specs.Derivation.{done, is_among}
use Rattle.gv_grammar.specs.Building.{act_of}
use Rattle.gv_grammar.specs.Text.{plain, opens}
use Rattle.gv_grammar.proofs.Spelling.{Reading, tk, tk_in, op, sv, rs, ac, ru, re}
use Rattle.gv_grammar.proofs.Meaning.{more_classes}
use Rattle.gv_termread.specs.declared.generated.term_table.TheConstants.{CLASS_COMMA, CLASS_L_PAREN, CLASS_R_PAREN, NAME_WHOLE, SET_ANY_NUMBER, SET_COMMA, SET_L_PAREN, SET_R_PAREN}
use Rattle.gv_specread.specs.declared.generated.spec_table.TheConstants.{ACT_ALLOWED, ACT_ALL_ALLOWED, ACT_ASSIGN, ACT_BODY, ACT_FIELD, ACT_FIRST_ASSIGN, ACT_LEASED, ACT_NEXT_PARAM, ACT_NOT_LEASED, ACT_NO_ASSIGNS, ACT_NO_DISKS, ACT_NO_FIELDS, ACT_NO_OPS, ACT_NO_PARAMS, ACT_NO_PICKS, ACT_NO_REPLY, ACT_NO_RETURN, ACT_ONE_DISK, ACT_OP, ACT_PARAM, ACT_PICK, ACT_REPLY, ACT_RETURN, ACT_SPEC, ACT_TWO_DISKS, CLASS_ARROW, CLASS_ASSIGN, CLASS_BELOW_WORD, CLASS_COLON, CLASS_CRASH_WORD, CLASS_DEFINE, CLASS_DISKS_WORD, CLASS_FIELD_WORD, CLASS_LEASED_WORD, CLASS_L_BRACE, CLASS_ONE_NUMBER, CLASS_OP_WORD, CLASS_PICK_WORD, CLASS_REPLY_WORD, CLASS_R_BRACE, CLASS_SEMI, CLASS_SPEC_WORD, CLASS_TWO_NUMBER, CLASS_WHERE_WORD, CLASS_ZERO_NUMBER, NAME_ALLOWED, NAME_ASSIGNS, NAME_BODY, NAME_DISKS, NAME_FIELDS, NAME_LEASED, NAME_MORE_PARAMS, NAME_OPS, NAME_PARAMS, NAME_PICKS, NAME_REPLY, NAME_RETURNS, NAME_TEXT, RULE_ALLOWED_ALL, RULE_ALLOWED_TERM, RULE_ASSIGNS_END, RULE_ASSIGNS_MORE, RULE_BODY_BRACES, RULE_DISKS_NONE, RULE_DISKS_ONE, RULE_DISKS_TWO, RULE_FIELDS_END, RULE_FIELDS_MORE, RULE_LEASED_NO, RULE_LEASED_YES, RULE_MORE_PARAMS_END, RULE_MORE_PARAMS_MORE, RULE_OPS_END, RULE_OPS_MORE, RULE_PARAMS_NONE, RULE_PARAMS_SOME, RULE_PICKS_ASSIGN, RULE_PICKS_NONE, RULE_PICKS_PICK, RULE_PICK_REST_ASSIGN, RULE_PICK_REST_PICK, RULE_REPLY_NONE, RULE_REPLY_TERM, RULE_RETURNS_NONE, RULE_RETURNS_SORT, RULE_TEXT_WHOLE, SET_ARROW, SET_ASSIGN, SET_BELOW_WORD, SET_COLON, SET_CRASH_WORD, SET_DEFINE, SET_DISKS_WORD, SET_FIELD_WORD, SET_FIRST_TARGET, SET_ID, SET_LEASED_WORD, SET_L_BRACE, SET_ONE_NUMBER, SET_OP_WORD, SET_PICK_WORD, SET_REPLY_WORD, SET_R_BRACE, SET_SEMI, SET_SORT_WORD, SET_SPEC_WORD, SET_TARGET, SET_TWO_NUMBER, SET_WHERE_WORD, SET_ZERO_NUMBER}
use Rattle.gv_termread.specs.declared.generated.term_acts.Part.{Part}
use Rattle.gv_termread.specs.declared.generated.term_acts.Part.TheVariants.{Token as PToken, Other as POther}
use Rattle.gv_termread.specs.declared.token.SeenToken.{SeenToken}
use Rattle.gv_termread.specs.declared.placed.PlacedTerm.{PlacedTerm}
use Rattle.gv_termread.specs.Language.{Tokens, AnyOf}
use Rattle.gv_termread.proofs.Forward.{term_reads}
use Rattle.gv_specread.specs.declared.generated.spec_acts.SpecPart.{SpecPart}
use Rattle.gv_specread.specs.declared.generated.spec_acts.SpecPart.TheVariants.{Disks as PDisks, Leased as PLeased, Fields as PFields, Params as PParams, Returns as PReturns, Allowed as PAllowed, Picks as PPicks, Assigns as PAssigns, Reply as PReply, Body as PBody, Ops as POps, Spec as PSpec}
use Rattle.gv_specread.specs.declared.tree.PlacedSort.{PlacedSort}
use Rattle.gv_specread.specs.declared.tree.DisksTree.{DisksTree}
use Rattle.gv_specread.specs.declared.tree.FieldTree.{FieldTree}
use Rattle.gv_specread.specs.declared.tree.ParamTree.{ParamTree}
use Rattle.gv_specread.specs.declared.tree.PickTree.{PickTree}
use Rattle.gv_specread.specs.declared.tree.AssignTree.{AssignTree}
use Rattle.gv_specread.specs.declared.tree.ReplyTree.{ReplyTree}
use Rattle.gv_specread.specs.declared.tree.BodyTree.{BodyTree}
use Rattle.gv_specread.specs.declared.tree.OpTree.{OpTree}
use Rattle.gv_specread.specs.declared.tree.SpecTree.{SpecTree}
use Rattle.gv_specread.specs.SpecTable.{spec_tables}
use Rattle.gv_specread.specs.SpecActs.{spec_acts}
use Rattle.gv_specread.specs.Language.{lexicon, plain_words, other_words, targets, IsDisks, no_disk, one_disk, two_disks, IsLeased, leased, not_leased, IsField, field, IsFields, no_fields, next_field, param, IsParamList, one_param, next_param, IsParams, no_params, some_params, IsReturns, no_return, returns, IsAllowed, all_allowed, allowed, IsPick, pick, IsPicks, no_picks, next_pick, IsAssign, assign, IsAssigns, no_assigns, next_assign, IsReply, no_reply, reply, IsBody, body, IsOp, op_tree, IsOps, no_ops, next_op, IsSpec, spec}
use Rattle.gv_specread.proofs.SpecContains.{spec_contains}

module _ (text : List ℕ) where
  abbrev Parts : Type 0
  Parts = List (Part SpecPart)

  -- a reading of a specification
  abbrev pub Read : List Symbol → Tokens → ℕ → List ℕ → Parts → Option Parts → Type 0
  Read = Reading spec_tables (λ token. token.class) PToken (act_of (spec_acts text))

  disks_read : {d : DisksTree} {ts : Tokens} → IsDisks d ts → {s : List Symbol} {us : Tokens} {n : ℕ} {kept : List ℕ} {parts : Parts} {final : Option Parts}
      → Read s us n kept (POther (PDisks d) ∷ parts) final → Read (N NAME_DISKS ∷ s) (ts ++ us) n kept parts final
  disks_read (no_disk t i) k = ru RULE_DISKS_NONE refl (tk SET_ZERO_NUMBER CLASS_ZERO_NUMBER i refl (ac ACT_NO_DISKS refl k))
  disks_read (one_disk t j i h) k = ru RULE_DISKS_ONE refl (tk SET_ONE_NUMBER CLASS_ONE_NUMBER i refl (tk_in SET_ANY_NUMBER h (ac ACT_ONE_DISK refl k)))
  disks_read (two_disks t j i h) k = ru RULE_DISKS_TWO refl (tk SET_TWO_NUMBER CLASS_TWO_NUMBER i refl (tk_in SET_ANY_NUMBER h (ac ACT_TWO_DISKS refl k)))

  leased_reads : {l : Bool} {ts : Tokens} → IsLeased l ts → {s : List Symbol} {us : Tokens} {n : ℕ} {kept : List ℕ} {parts : Parts} {final : Option Parts}
      → Read s us n kept (POther (PLeased l) ∷ parts) final → Read (N NAME_LEASED ∷ s) (ts ++ us) n kept parts final
  leased_reads (leased t i) k = ru RULE_LEASED_YES refl (tk SET_LEASED_WORD CLASS_LEASED_WORD i refl (ac ACT_LEASED refl k))
  leased_reads not_leased k = ru RULE_LEASED_NO refl (ac ACT_NOT_LEASED refl k)

  field_reads : {n : ℕ} {f : FieldTree} {ts : Tokens} → IsField text n f ts → {fs : List FieldTree} {s : List Symbol} {us : Tokens} {kept : List ℕ} {parts : Parts} {final : Option Parts}
      → Read (N NAME_FIELDS ∷ s) us n kept (POther (PFields (fs ++ f ∷ [])) ∷ parts) final → Read (N NAME_FIELDS ∷ s) (ts ++ us) n kept (POther (PFields fs) ∷ parts) final
  field_reads (field f i c s a e {ts = ts} {us = vs} h j g p l q x r) {us = us} k =
      re (plain f ∷ plain i ∷ plain c ∷ plain s ∷ ts ++ plain a ∷ vs) (plain e ∷ []) us (re (plain f ∷ plain i ∷ plain c ∷ plain s ∷ ts) (plain a ∷ vs) (plain e ∷ us)
      (ru RULE_FIELDS_MORE refl (tk SET_FIELD_WORD CLASS_FIELD_WORD h refl (tk_in SET_ID j (tk SET_COLON CLASS_COLON g refl (tk_in SET_SORT_WORD p (leased_reads l (tk SET_ASSIGN CLASS_ASSIGN q refl
      (term_reads (lexicon text) (spec_contains text) x (tk SET_SEMI CLASS_SEMI r refl (ac ACT_FIELD refl k)))))))))))

  fields_read : {n : ℕ} {fs : List FieldTree} {ts : Tokens} → IsFields text n fs ts → {s : List Symbol} {us : Tokens} {kept : List ℕ} {parts : Parts} {final : Option Parts}
      → Read (N NAME_FIELDS ∷ s) us n kept (POther (PFields fs) ∷ parts) final → Read (N NAME_FIELDS ∷ s) (ts ++ us) n kept (POther (PFields []) ∷ parts) final
  fields_read no_fields k = k
  fields_read (next_field {ts = ts} {us = vs} d e) {us = us} k = re ts vs us (fields_read d (field_reads e k))

  param_list_reads : {ps : List ParamTree} {ts : Tokens} → IsParamList ps ts → {s : List Symbol} {us : Tokens} {n : ℕ} {kept : List ℕ} {parts : Parts} {final : Option Parts}
      → Read (N NAME_MORE_PARAMS ∷ s) us n kept (POther (PParams ps) ∷ parts) final → Read (N NAME_PARAMS ∷ s) (ts ++ us) n kept (POther (PParams []) ∷ parts) final
  param_list_reads (one_param (param i c s h j g)) k = ru RULE_PARAMS_SOME refl (tk_in SET_ID h (tk SET_COLON CLASS_COLON j refl (tk_in SET_SORT_WORD g (ac ACT_PARAM refl k))))
  param_list_reads (next_param t {ts = ts} {us = vs} d p (param i c s h j g)) {us = us} k =
      re ts (plain t ∷ plain i ∷ plain c ∷ plain s ∷ []) us (param_list_reads d (ru RULE_MORE_PARAMS_MORE refl (tk SET_COMMA CLASS_COMMA p refl (tk_in SET_ID h (tk SET_COLON CLASS_COLON j refl (tk_in SET_SORT_WORD g (ac ACT_NEXT_PARAM refl k)))))))

  params_read : {ps : List ParamTree} {ts : Tokens} → IsParams ps ts → {s : List Symbol} {us : Tokens} {n : ℕ} {kept : List ℕ} {parts : Parts} {final : Option Parts}
      → Read s us n kept (POther (PParams ps) ∷ parts) final → Read (N NAME_PARAMS ∷ s) (ts ++ us) n kept (POther (PParams []) ∷ parts) final
  params_read no_params k = ru RULE_PARAMS_NONE refl k
  params_read (some_params d) k = param_list_reads d (ru RULE_MORE_PARAMS_END refl k)

  returns_read : {r : Option PlacedSort} {ts : Tokens} → IsReturns r ts → {s : List Symbol} {us : Tokens} {n : ℕ} {kept : List ℕ} {parts : Parts} {final : Option Parts}
      → Read s us n kept (POther (PReturns r) ∷ parts) final → Read (N NAME_RETURNS ∷ s) (ts ++ us) n kept parts final
  returns_read no_return k = ru RULE_RETURNS_NONE refl (ac ACT_NO_RETURN refl k)
  returns_read (returns a t h i) k = ru RULE_RETURNS_SORT refl (tk SET_ARROW CLASS_ARROW h refl (tk_in SET_SORT_WORD i (ac ACT_RETURN refl k)))

  allowed_reads : {n : ℕ} {l : Option PlacedTerm} {ts : Tokens} → IsAllowed text n l ts → {s : List Symbol} {us : Tokens} {kept : List ℕ} {parts : Parts} {final : Option Parts}
      → Read s us n kept (POther (PAllowed l) ∷ parts) final → Read (N NAME_ALLOWED ∷ s) (ts ++ us) n kept parts final
  allowed_reads all_allowed k = ru RULE_ALLOWED_ALL refl (ac ACT_ALL_ALLOWED refl k)
  allowed_reads (allowed w h x) k = ru RULE_ALLOWED_TERM refl (tk SET_WHERE_WORD CLASS_WHERE_WORD h refl (term_reads (lexicon text) (spec_contains text) x (ac ACT_ALLOWED refl k)))

  pick_reads : {n : ℕ} {p : PickTree} {ts : Tokens} → IsPick text n p ts → {ps : List PickTree} {s : List Symbol} {us : Tokens} {kept : List ℕ} {parts : Parts} {final : Option Parts}
      → Read (N NAME_PICKS ∷ s) us n kept (POther (PPicks (ps ++ p ∷ [])) ∷ parts) final → Read (N NAME_PICKS ∷ s) (ts ++ us) n kept (POther (PPicks ps) ∷ parts) final
  pick_reads (pick w i b e {ts = ts} h j g x r) {us = us} k =
      re (plain w ∷ plain i ∷ plain b ∷ ts) (plain e ∷ []) us
      (ru RULE_PICKS_PICK refl (tk SET_PICK_WORD CLASS_PICK_WORD h refl (ru RULE_PICK_REST_PICK refl (tk_in SET_ID j (tk SET_BELOW_WORD CLASS_BELOW_WORD g refl
      (term_reads (lexicon text) (spec_contains text) x (tk SET_SEMI CLASS_SEMI r refl (ac ACT_PICK refl k))))))))

  picks_read : {n : ℕ} {ps : List PickTree} {ts : Tokens} → IsPicks text n ps ts → {s : List Symbol} {us : Tokens} {kept : List ℕ} {parts : Parts} {final : Option Parts}
      → Read (N NAME_PICKS ∷ s) us n kept (POther (PPicks ps) ∷ parts) final → Read (N NAME_PICKS ∷ s) (ts ++ us) n kept (POther (PPicks []) ∷ parts) final
  picks_read no_picks k = k
  picks_read (next_pick {ts = ts} {us = vs} d e) {us = us} k = re ts vs us (picks_read d (pick_reads e k))

  -- the target of the first assignment; the word `pick` is told from a pick by what follows
  target_reads : (i : SeenToken) → AnyOf targets i → {s : List Symbol} {us : Tokens} {n : ℕ} {kept : List ℕ} {parts : Parts} {final : Option Parts}
      → Read (T SET_DEFINE ∷ N NAME_WHOLE ∷ T SET_SEMI ∷ A ACT_FIRST_ASSIGN ∷ N NAME_ASSIGNS ∷ s) us n kept (PToken i ∷ parts) final → Read (N NAME_PICKS ∷ s) (plain i ∷ us) n kept parts final
  target_reads i h k =
      ⊎_elim (λ (q : i.class ≡ CLASS_PICK_WORD). ru RULE_PICKS_PICK refl (tk SET_PICK_WORD CLASS_PICK_WORD q refl (ru RULE_PICK_REST_ASSIGN refl k)))
      (λ (q : is_among i.class (plain_words ++ other_words) ≡ true). ru RULE_PICKS_ASSIGN refl (tk_in SET_FIRST_TARGET q k))
      (more_classes CLASS_PICK_WORD i.class (is_among i.class (plain_words ++ other_words)) h)

  first_reads : {n : ℕ} {x : AssignTree} {ts : Tokens} → IsAssign text n x ts → {s : List Symbol} {us : Tokens} {kept : List ℕ} {parts : Parts} {final : Option Parts}
      → Read (N NAME_ASSIGNS ∷ s) us n kept (POther (PAssigns (x ∷ [])) ∷ parts) final → Read (N NAME_PICKS ∷ s) (ts ++ us) n kept parts final
  first_reads (assign i e f {ts = ts} h j x g) {us = us} k =
      re (plain i ∷ plain e ∷ ts) (plain f ∷ []) us
      (target_reads i h (tk SET_DEFINE CLASS_DEFINE j refl (term_reads (lexicon text) (spec_contains text) x (tk SET_SEMI CLASS_SEMI g refl (ac ACT_FIRST_ASSIGN refl k)))))

  later_reads : {n : ℕ} {x : AssignTree} {ts : Tokens} → IsAssign text n x ts → {xs : List AssignTree} {s : List Symbol} {us : Tokens} {kept : List ℕ} {parts : Parts} {final : Option Parts}
      → Read (N NAME_ASSIGNS ∷ s) us n kept (POther (PAssigns (xs ++ x ∷ [])) ∷ parts) final → Read (N NAME_ASSIGNS ∷ s) (ts ++ us) n kept (POther (PAssigns xs) ∷ parts) final
  later_reads (assign i e f {ts = ts} h j x g) {us = us} k =
      re (plain i ∷ plain e ∷ ts) (plain f ∷ []) us
      (ru RULE_ASSIGNS_MORE refl (tk_in SET_TARGET h (tk SET_DEFINE CLASS_DEFINE j refl (term_reads (lexicon text) (spec_contains text) x (tk SET_SEMI CLASS_SEMI g refl (ac ACT_ASSIGN refl k))))))

  some_assigns_read : {n : ℕ} {xs : List AssignTree} {ts : Tokens} → IsAssigns text n xs ts → {x : AssignTree} {us : Tokens} → IsAssign text n x us → {s : List Symbol} {vs : Tokens} {kept : List ℕ} {parts : Parts} {final : Option Parts}
      → Read (N NAME_ASSIGNS ∷ s) vs n kept (POther (PAssigns (xs ++ x ∷ [])) ∷ parts) final → Read (N NAME_PICKS ∷ s) ((ts ++ us) ++ vs) n kept parts final
  some_assigns_read no_assigns d k = first_reads d k
  some_assigns_read (next_assign {ts = ts} {us = ws} a b) {us = us} d {vs = vs} k = re (ts ++ ws) us vs (some_assigns_read a b (later_reads d k))

  assigns_read : {n : ℕ} {xs : List AssignTree} {ts : Tokens} → IsAssigns text n xs ts → {s : List Symbol} {us : Tokens} {kept : List ℕ} {parts : Parts} {final : Option Parts}
      → Read s us n kept (POther (PAssigns xs) ∷ parts) final → Read (N NAME_PICKS ∷ s) (ts ++ us) n kept parts final
  assigns_read no_assigns k = ru RULE_PICKS_NONE refl (ac ACT_NO_ASSIGNS refl k)
  assigns_read (next_assign a b) k = some_assigns_read a b (ru RULE_ASSIGNS_END refl k)

  reply_reads : {n : ℕ} {r : Option ReplyTree} {ts : Tokens} → IsReply text n r ts → {s : List Symbol} {us : Tokens} {kept : List ℕ} {parts : Parts} {final : Option Parts}
      → Read s us n kept (POther (PReply r) ∷ parts) final → Read (N NAME_REPLY ∷ s) (ts ++ us) n kept parts final
  reply_reads no_reply k = ru RULE_REPLY_NONE refl (ac ACT_NO_REPLY refl k)
  reply_reads (reply w e {ts = ts} h x i) {us = us} k =
      re (plain w ∷ ts) (plain e ∷ []) us (ru RULE_REPLY_TERM refl (tk SET_REPLY_WORD CLASS_REPLY_WORD h refl (term_reads (lexicon text) (spec_contains text) x (tk SET_SEMI CLASS_SEMI i refl (ac ACT_REPLY refl k)))))

  body_reads : {n : ℕ} {b : BodyTree} {ts : Tokens} → IsBody text n b ts → {s : List Symbol} {us : Tokens} {kept : List ℕ} {parts : Parts} {final : Option Parts}
      → Read s us n kept (POther (PBody b) ∷ parts) final → Read (N NAME_BODY ∷ s) (ts ++ us) n kept parts final
  body_reads {n} (body o c {ts = ts} {us = vs} {vs = ws} h p d r i) {us = us} k =
      re ((opens n o ∷ ts ++ vs) ++ ws) (plain c ∷ []) us (re (opens n o ∷ ts ++ vs) ws (plain c ∷ us) (re (opens n o ∷ ts) vs (ws ++ plain c ∷ us)
      (ru RULE_BODY_BRACES refl (sv (op SET_L_BRACE CLASS_L_BRACE h refl (ac ACT_NO_PICKS refl (picks_read p (assigns_read d (reply_reads r (tk SET_R_BRACE CLASS_R_BRACE i refl (rs (ac ACT_BODY refl k))))))))))))

  op_reads : {n : ℕ} {o : OpTree} {ts : Tokens} → IsOp text n o ts → {os : List OpTree} {s : List Symbol} {us : Tokens} {kept : List ℕ} {parts : Parts} {final : Option Parts}
      → Read (N NAME_OPS ∷ s) us n kept (POther (POps (os ++ o ∷ [])) ∷ parts) final → Read (N NAME_OPS ∷ s) (ts ++ us) n kept (POther (POps os) ∷ parts) final
  op_reads {n} (op_tree w i o c {ts = ts} {us = vs} {vs = ws} {ws = xs} h j g p q r l b) {us = us} k =
      re ((plain w ∷ plain i ∷ opens n o ∷ ts ++ plain c ∷ vs) ++ ws) xs us (re (plain w ∷ plain i ∷ opens n o ∷ ts ++ plain c ∷ vs) ws (xs ++ us) (re (plain w ∷ plain i ∷ opens n o ∷ ts) (plain c ∷ vs) (ws ++ (xs ++ us))
      (ru RULE_OPS_MORE refl (tk SET_OP_WORD CLASS_OP_WORD h refl (tk_in SET_ID j (sv (op SET_L_PAREN CLASS_L_PAREN g refl (ac ACT_NO_PARAMS refl (params_read p (tk SET_R_PAREN CLASS_R_PAREN q refl (rs
      (returns_read r (allowed_reads l (body_reads b (ac ACT_OP refl k)))))))))))))))

  ops_read : {n : ℕ} {os : List OpTree} {ts : Tokens} → IsOps text n os ts → {s : List Symbol} {us : Tokens} {kept : List ℕ} {parts : Parts} {final : Option Parts}
      → Read (N NAME_OPS ∷ s) us n kept (POther (POps os) ∷ parts) final → Read (N NAME_OPS ∷ s) (ts ++ us) n kept (POther (POps []) ∷ parts) final
  ops_read no_ops k = k
  ops_read (next_op {ts = ts} {us = vs} d e) {us = us} k = re ts vs us (ops_read d (op_reads e k))

  spec_reads : {n : ℕ} {x : SpecTree} {ts : Tokens} → IsSpec text n x ts → {us : Tokens} {kept : List ℕ} {parts : Parts} {final : Option Parts}
      → Read [] us n kept (POther (PSpec x) ∷ parts) final → Read (N NAME_TEXT ∷ []) (ts ++ us) n kept parts final
  spec_reads (spec s i e w f c {ts = ts} {us = vs} {vs = ws} {ws = xs} h j g p d q fs os r b) {us = us} k =
      re ((plain s ∷ plain i ∷ plain e ∷ plain w ∷ ts ++ plain f ∷ vs) ++ ws) (plain c ∷ xs) us
      (re (plain s ∷ plain i ∷ plain e ∷ plain w ∷ ts ++ plain f ∷ vs) ws (plain c ∷ (xs ++ us))
      (re (plain s ∷ plain i ∷ plain e ∷ plain w ∷ ts) (plain f ∷ vs) (ws ++ plain c ∷ (xs ++ us))
      (ru RULE_TEXT_WHOLE refl (tk SET_SPEC_WORD CLASS_SPEC_WORD h refl (tk_in SET_ID j (tk SET_SEMI CLASS_SEMI g refl (tk SET_DISKS_WORD CLASS_DISKS_WORD p refl (disks_read d (tk SET_SEMI CLASS_SEMI q refl
      (ac ACT_NO_FIELDS refl (fields_read fs (ru RULE_FIELDS_END refl (ac ACT_NO_OPS refl (ops_read os (ru RULE_OPS_END refl (tk SET_CRASH_WORD CLASS_CRASH_WORD r refl (body_reads b (ac ACT_SPEC refl k))))))))))))))))))

  -- a whole specification
  pub whole_reads : (level : ℕ) (x : SpecTree) (ts : Tokens) → IsSpec text level x ts → Read (N NAME_TEXT ∷ []) ts level [] [] (Some (POther (PSpec x) ∷ []))
  whole_reads level x ts d =
      subst (λ (us : Tokens). Read (N NAME_TEXT ∷ []) us level [] [] (Some (POther (PSpec x) ∷ []))) (append-nil ts)
      (spec_reads d (record { steps = []; derives = done; runs = refl; levels = λ limit at. refl }))

-- What is derived is spelled by the published grammar of specifications.
use Rattle.std.proofs.Common.{◌≡◌, ℕ, ◌+◌, Bool, true, eqb, List, [], ◌∷◌, ◌++◌, Option, refl, sym, ap, subst, ◌∙◌, append_assoc, length, drop}
use Rattle.std.specs.Prelude.{map}
use Rattle.std.proofs.lemmas.List.{append-nil, map-append}
use Rattle.gv_grammar.specs.declared.steps.Step.{Step}
use Rattle.gv_grammar.specs.declared.symbols.Symbol.TheVariants.{Name as N}
use Rattle.gv_grammar.specs.Derivation.{Spells as Derived, symbols_of, is_among}
use Rattle.gv_grammar.specs.Text.{plain, opens, token_of, tokens_of, Spells}
use Rattle.gv_grammar.proofs.Tests.{either_right}
use Rattle.gv_grammar.proofs.Meaning.{Meant, none, taken, acted, means, RulesMean, all_mean, Made, mk, at, Phrase, Tail, one_class}
use Rattle.gv_grammar.proofs.Containing.{with_rows}
use Rattle.gv_termread.specs.declared.generated.term_table.TheConstants.{CLASS_COMMA, CLASS_L_PAREN, CLASS_R_PAREN}
use Rattle.gv_specread.specs.declared.generated.spec_table.TheConstants.{CLASS_ARROW, CLASS_ASSIGN, CLASS_BELOW_WORD, CLASS_COLON, CLASS_CRASH_WORD, CLASS_DEFINE, CLASS_DISKS_WORD, CLASS_FIELD_WORD, CLASS_LEASED_WORD, CLASS_L_BRACE, CLASS_ONE_NUMBER, CLASS_OP_WORD, CLASS_PICK_WORD, CLASS_REPLY_WORD, CLASS_R_BRACE, CLASS_SEMI, CLASS_SPEC_WORD, CLASS_TWO_NUMBER, CLASS_WHERE_WORD, CLASS_ZERO_NUMBER, NAME_ALLOWED, NAME_ASSIGNS, NAME_BODY, NAME_DISKS, NAME_FIELDS, NAME_LEASED, NAME_MORE_PARAMS, NAME_OPS, NAME_PARAMS, NAME_PICKS, NAME_PICK_REST, NAME_REPLY, NAME_RETURNS, NAME_TEXT, RULE_ALLOWED_ALL, RULE_ALLOWED_TERM, RULE_ASSIGNS_END, RULE_ASSIGNS_MORE, RULE_BODY_BRACES, RULE_DISKS_NONE, RULE_DISKS_ONE, RULE_DISKS_TWO, RULE_FIELDS_END, RULE_FIELDS_MORE, RULE_LEASED_NO, RULE_LEASED_YES, RULE_MORE_PARAMS_END, RULE_MORE_PARAMS_MORE, RULE_OPS_END, RULE_OPS_MORE, RULE_PARAMS_NONE, RULE_PARAMS_SOME, RULE_PICKS_ASSIGN, RULE_PICKS_NONE, RULE_PICKS_PICK, RULE_PICK_REST_ASSIGN, RULE_PICK_REST_PICK, RULE_REPLY_NONE, RULE_REPLY_TERM, RULE_RETURNS_NONE, RULE_RETURNS_SORT, RULE_TEXT_WHOLE}
use Rattle.gv_termread.specs.declared.token.SeenToken.{SeenToken}
use Rattle.gv_termread.specs.Language.{Tokens, Is, AnyOf, IsTerm}
use Rattle.gv_termread.specs.TermFragment.{term_rules}
use Rattle.gv_termread.proofs.Backward.{M, term_rules_mean}
use Rattle.gv_specread.specs.declared.tree.PlacedSort.{PlacedSort}
use Rattle.gv_specread.specs.declared.tree.DisksTree.{DisksTree}
use Rattle.gv_specread.specs.declared.tree.ParamTree.{ParamTree}
use Rattle.gv_specread.specs.declared.tree.PickTree.{PickTree}
use Rattle.gv_specread.specs.declared.tree.AssignTree.{AssignTree}
use Rattle.gv_specread.specs.declared.tree.ReplyTree.{ReplyTree}
use Rattle.gv_specread.specs.declared.tree.SpecTree.{SpecTree}
use Rattle.gv_specread.specs.SpecTable.{spec_tables}
use Rattle.gv_specread.specs.Language.{lexicon, plain_words, other_words, targets, IsDisks, no_disk, one_disk, two_disks, IsLeased, leased, not_leased, field, IsFields, no_fields, next_field, param, IsParamList, one_param, next_param, IsParams, no_params, some_params, IsReturns, no_return, returns, IsAllowed, all_allowed, allowed, pick, IsPicks, no_picks, next_pick, assign, IsAssigns, no_assigns, next_assign, IsReply, no_reply, reply, IsBody, body, op_tree, IsOps, no_ops, next_op, IsSpec, spec}
use Rattle.gv_specread.proofs.SpecContains.{spec_contains}

-- relations with no level as those with one
abbrev Disks : ℕ → DisksTree → Tokens → Type 0
Disks n = IsDisks

abbrev Leased : ℕ → Bool → Tokens → Type 0
Leased n = IsLeased

abbrev ParamList : ℕ → List ParamTree → Tokens → Type 0
ParamList n = IsParamList

abbrev Params : ℕ → List ParamTree → Tokens → Type 0
Params n = IsParams

abbrev Returns : ℕ → Option PlacedSort → Tokens → Type 0
Returns n = IsReturns

-- the tokens of pieces that stand one after another
pieces_of_three : (x y z : Tokens) {a b c : List SeenToken} → tokens_of x ≡ a → tokens_of y ≡ b → tokens_of z ≡ c → tokens_of ((x ++ y) ++ z) ≡ a ++ (b ++ c)
pieces_of_three x y z e f g = simp (map-append, append_assoc, e, f, g)

pieces_of_four : (x y z w : Tokens) {a b c d : List SeenToken} → tokens_of x ≡ a → tokens_of y ≡ b → tokens_of z ≡ c → tokens_of w ≡ d → tokens_of (((x ++ y) ++ z) ++ w) ≡ a ++ (b ++ (c ++ d))
pieces_of_four x y z w e f g h = simp (map-append, append_assoc, e, f, g, h)

-- the same between other tokens
two_between : (xs x y : Tokens) {a b us vs : List SeenToken} → tokens_of x ≡ a → tokens_of y ≡ b → us ≡ vs → tokens_of (xs ++ (x ++ y)) ++ us ≡ tokens_of xs ++ (a ++ (b ++ vs))
two_between xs x y e f q = simp (map-append, append_assoc, e, f, q)

three_between : (xs x y z : Tokens) {a b c us vs : List SeenToken} → tokens_of x ≡ a → tokens_of y ≡ b → tokens_of z ≡ c → us ≡ vs → tokens_of (xs ++ ((x ++ y) ++ z)) ++ us ≡ tokens_of xs ++ (a ++ (b ++ (c ++ vs)))
three_between xs x y z e f g q = simp (map-append, append_assoc, e, f, g, q)

four_between : (xs x y z w : Tokens) {a b c d us vs : List SeenToken} → tokens_of x ≡ a → tokens_of y ≡ b → tokens_of z ≡ c → tokens_of w ≡ d → us ≡ vs → tokens_of (xs ++ (((x ++ y) ++ z) ++ w)) ++ us ≡ tokens_of xs ++ (a ++ (b ++ (c ++ (d ++ vs))))
four_between xs x y z w e f g h q = simp (map-append, append_assoc, e, f, g, h, q)

module _ (text : List ℕ) where
  -- picks and assignments, as far as the reply
  data IsItems : ℕ → List PickTree × List AssignTree → Tokens → Type 0 where
    items : {n : ℕ} {ps : List PickTree} {xs : List AssignTree} {ts us : Tokens} → IsPicks text n ps ts → IsAssigns text n xs us → IsItems n (ps, xs) (ts ++ us)

  body_of : {n : ℕ} {x : List PickTree × List AssignTree} {r : Option ReplyTree} {ts us : Tokens} (o c : SeenToken) → Is CLASS_L_BRACE o → IsItems (n + 1) x ts → IsReply text (n + 1) r us → Is CLASS_R_BRACE c
      → IsBody text n (record { start = o.start; picks = x.0; assigns = x.1; reply = r }) (opens n o ∷ ts ++ us ++ plain c ∷ [])
  body_of o c h (items p d) r i = body o c h p d r i

  -- what stands behind the word `pick` where the first item begins with it
  abbrev BehindPick : List SeenToken → Type 0
  BehindPick us = (n : ℕ) (ps : List PickTree) (xs : Tokens) (w : SeenToken) → IsPicks text n ps xs → Is CLASS_PICK_WORD w → Made (IsItems n) (tokens_of xs ++ (w ∷ us))

  -- what each name means that no term has
  abbrev own_meanings : List (List SeenToken → Type 0)
  own_meanings =
      Phrase (IsSpec text)
      ∷ Phrase Disks
      ∷ Tail (IsFields text) (IsFields text)
      ∷ Phrase Leased
      ∷ Tail (IsOps text) (IsOps text)
      ∷ Phrase Params
      ∷ Tail ParamList Params
      ∷ Phrase Returns
      ∷ Phrase (IsAllowed text)
      ∷ Phrase (IsBody text)
      ∷ Tail (IsPicks text) IsItems
      ∷ BehindPick
      ∷ Tail (IsAssigns text) (IsAssigns text)
      ∷ Phrase (IsReply text)
      ∷ []

  abbrev Means : ℕ → List SeenToken → Type 0
  Means = M (lexicon text) (spec_contains text) own_meanings

  -- a rule keeps the meaning of its name
  abbrev Keeps : ℕ → ℕ → Type 0
  Keeps rule of = (us : List SeenToken) → Meant spec_tables SeenToken (λ token. token.class) Means (symbols_of spec_tables rule) us → Means of us

  -- a first assignment behind picks
  first_assigned : (n : ℕ) (ps : List PickTree) (xs : Tokens) → IsPicks text n ps xs → (i d e : SeenToken) (ts vs : List SeenToken) → AnyOf targets i → Is CLASS_DEFINE d → Made (IsTerm (lexicon text) n) ts → Is CLASS_SEMI e
      → Tail (IsAssigns text) (IsAssigns text) vs → Made (IsItems n) (tokens_of xs ++ (i ∷ d ∷ (ts ++ (e ∷ (vs ++ [])))))
  first_assigned n ps xs p i d e ts vs t j a g k =
      let y = k n _ (plain i ∷ plain d ∷ a.placed ++ plain e ∷ []) (next_assign no_assigns (assign i d e t j a.spelled g)) in
      let e1 = a.same in
      let e2 = y.same in
      let q = two_between [] (plain i ∷ plain d ∷ a.placed) (plain e ∷ []) (ap (λ (us : List SeenToken). i ∷ d ∷ us) e1) refl (sym (append-nil vs)) in
      mk (IsItems n) (ps, y.tree) (xs ++ y.placed) (items p y.spelled) (map-append token_of xs y.placed ∙ ap (λ (us : List SeenToken). tokens_of xs ++ us) (e2 ∙ q))

  text_whole : Keeps RULE_TEXT_WHOLE NAME_TEXT
  text_whole _ (taken s h (taken i j (taken e g (taken w p (means {ts = ts} d (taken f q (acted (means {ts = vs} y (acted (means {ts = ws} z (taken c r (means {ts = xs} b (acted none))))))))))))) n =
      let a = d n in
      let fs = y n [] [] no_fields in
      let os = z n [] [] no_ops in
      let o = b n in
      let e1 = a.same in
      let e2 = fs.same in
      let e3 = os.same in
      let e4 = o.same in
      mk (IsSpec text n) _ _ (spec s i e w f c (one_class CLASS_SPEC_WORD s.class h) j (one_class CLASS_SEMI e.class g) (one_class CLASS_DISKS_WORD w.class p) a.spelled (one_class CLASS_SEMI f.class q) fs.spelled os.spelled (one_class CLASS_CRASH_WORD c.class r) o.spelled)
      (pieces_of_four (plain s ∷ plain i ∷ plain e ∷ plain w ∷ a.placed) (plain f ∷ fs.placed) os.placed (plain c ∷ o.placed) (ap (λ (us : List SeenToken). s ∷ i ∷ e ∷ w ∷ us) e1) (ap (λ (us : List SeenToken). f ∷ us) e2) e3 (ap (λ (us : List SeenToken). c ∷ us) (e4 ∙ sym (append-nil xs))))

  disks_none : Keeps RULE_DISKS_NONE NAME_DISKS
  disks_none _ (taken t i (acted none)) n = mk (Disks n) _ _ (no_disk t (one_class CLASS_ZERO_NUMBER t.class i)) refl

  disks_one : Keeps RULE_DISKS_ONE NAME_DISKS
  disks_one _ (taken t i (taken k j (acted none))) n = mk (Disks n) _ _ (one_disk t k (one_class CLASS_ONE_NUMBER t.class i) j) refl

  disks_two : Keeps RULE_DISKS_TWO NAME_DISKS
  disks_two _ (taken t i (taken k j (acted none))) n = mk (Disks n) _ _ (two_disks t k (one_class CLASS_TWO_NUMBER t.class i) j) refl

  fields_more : Keeps RULE_FIELDS_MORE NAME_FIELDS
  fields_more _ (taken f h (taken i j (taken c g (taken s p (means {ts = ts} l (taken a q (means {ts = vs} x (taken e r (acted (means {ts = ws} k none)))))))))) n fs xs d =
      let y = l n in
      let z = x n in
      let e1 = y.same in
      let e2 = z.same in
      at (three_between xs (plain f ∷ plain i ∷ plain c ∷ plain s ∷ y.placed) (plain a ∷ z.placed) (plain e ∷ []) (ap (λ (us : List SeenToken). f ∷ i ∷ c ∷ s ∷ us) e1) (ap (λ (us : List SeenToken). a ∷ us) e2) refl (sym (append-nil ws)))
      (k n _ _ (next_field d (field f i c s a e (one_class CLASS_FIELD_WORD f.class h) j (one_class CLASS_COLON c.class g) p y.spelled (one_class CLASS_ASSIGN a.class q) z.spelled (one_class CLASS_SEMI e.class r))))

  fields_end : Keeps RULE_FIELDS_END NAME_FIELDS
  fields_end _ none n fs xs h = mk (IsFields text n) fs _ h (simp append-nil)

  leased_yes : Keeps RULE_LEASED_YES NAME_LEASED
  leased_yes _ (taken t i (acted none)) n = mk (Leased n) _ _ (leased t (one_class CLASS_LEASED_WORD t.class i)) refl

  leased_no : Keeps RULE_LEASED_NO NAME_LEASED
  leased_no _ (acted none) n = mk (Leased n) _ _ not_leased refl

  ops_more : Keeps RULE_OPS_MORE NAME_OPS
  ops_more _ (taken w h (taken i j (acted (acted (taken o g (acted (means {ts = ts} p (taken c q (acted (means {ts = vs} r (means {ts = ws} l (means {ts = ys} b (acted (means {ts = zs} k none)))))))))))))) n os xs d =
      let x1 = p n in
      let x2 = r n in
      let x3 = l n in
      let x4 = b n in
      let e1 = x1.same in
      let e2 = x2.same in
      let e3 = x3.same in
      let e4 = x4.same in
      at (four_between xs (plain w ∷ plain i ∷ opens n o ∷ x1.placed) (plain c ∷ x2.placed) x3.placed x4.placed (ap (λ (us : List SeenToken). w ∷ i ∷ o ∷ us) e1) (ap (λ (us : List SeenToken). c ∷ us) e2) e3 e4 (sym (append-nil zs)))
      (k n _ _ (next_op d (op_tree w i o c (one_class CLASS_OP_WORD w.class h) j (one_class CLASS_L_PAREN o.class g) x1.spelled (one_class CLASS_R_PAREN c.class q) x2.spelled x3.spelled x4.spelled)))

  ops_end : Keeps RULE_OPS_END NAME_OPS
  ops_end _ none n os xs h = mk (IsOps text n) os _ h (simp append-nil)

  params_some : Keeps RULE_PARAMS_SOME NAME_PARAMS
  params_some _ (taken i h (taken c j (taken s g (acted (means {ts = ts} k none))))) n =
      at (simp append-nil) (k n _ (plain i ∷ plain c ∷ plain s ∷ []) (one_param (param i c s h (one_class CLASS_COLON c.class j) g)))

  params_none : Keeps RULE_PARAMS_NONE NAME_PARAMS
  params_none _ none n = mk (Params n) _ _ no_params refl

  more_params_more : Keeps RULE_MORE_PARAMS_MORE NAME_MORE_PARAMS
  more_params_more _ (taken t p (taken i h (taken c j (taken s g (acted (means {ts = ts} k none)))))) n ps xs d =
      at (simp (map-append, append_assoc, append-nil)) (k n _ _ (next_param t d (one_class CLASS_COMMA t.class p) (param i c s h (one_class CLASS_COLON c.class j) g)))

  more_params_end : Keeps RULE_MORE_PARAMS_END NAME_MORE_PARAMS
  more_params_end _ none n ps xs h = mk (Params n) ps _ (some_params h) (simp append-nil)

  returns_sort : Keeps RULE_RETURNS_SORT NAME_RETURNS
  returns_sort _ (taken a h (taken s i (acted none))) n = mk (Returns n) _ _ (returns a s (one_class CLASS_ARROW a.class h) i) refl

  returns_none : Keeps RULE_RETURNS_NONE NAME_RETURNS
  returns_none _ (acted none) n = mk (Returns n) _ _ no_return refl

  allowed_term : Keeps RULE_ALLOWED_TERM NAME_ALLOWED
  allowed_term _ (taken w h (means {ts = ts} d (acted none))) n = let a = d n in let e = a.same in mk (IsAllowed text n) _ _ (allowed w (one_class CLASS_WHERE_WORD w.class h) a.spelled) (simp (append-nil, e))

  allowed_all : Keeps RULE_ALLOWED_ALL NAME_ALLOWED
  allowed_all _ (acted none) n = mk (IsAllowed text n) _ _ all_allowed refl

  body_braces : Keeps RULE_BODY_BRACES NAME_BODY
  body_braces _ (acted (acted (taken o h (acted (means {ts = ts} d (means {ts = vs} r (taken c i (acted (acted none))))))))) n =
      let a = d (n + 1) [] [] no_picks in
      let b = r (n + 1) in
      let e1 = a.same in
      let e2 = b.same in
      mk (IsBody text n) _ _ (body_of o c (one_class CLASS_L_BRACE o.class h) a.spelled b.spelled (one_class CLASS_R_BRACE c.class i))
      (pieces_of_three (opens n o ∷ a.placed) b.placed (plain c ∷ []) (ap (λ (us : List SeenToken). o ∷ us) e1) e2 refl)

  picks_pick : Keeps RULE_PICKS_PICK NAME_PICKS
  picks_pick _ (taken w h (means {ts = ts} d none)) n ps xs p = at (simp append-nil) (d n ps xs w p (one_class CLASS_PICK_WORD w.class h))

  picks_assign : Keeps RULE_PICKS_ASSIGN NAME_PICKS
  picks_assign _ (taken i h (taken d j (means {ts = ts} x (taken e g (acted (means {ts = vs} k none)))))) n ps xs p =
      let t : AnyOf targets i = either_right (eqb CLASS_PICK_WORD i.class) (is_among i.class (plain_words ++ other_words)) h in
      first_assigned n ps xs p i d e ts vs t (one_class CLASS_DEFINE d.class j) (x n) (one_class CLASS_SEMI e.class g) k

  picks_none : Keeps RULE_PICKS_NONE NAME_PICKS
  picks_none _ (acted none) n ps xs p = mk (IsItems n) (ps, []) (xs ++ []) (items p no_assigns) (simp append-nil)

  pick_rest_pick : Keeps RULE_PICK_REST_PICK NAME_PICK_REST
  pick_rest_pick _ (taken i j (taken b g (means {ts = ts} x (taken e r (acted (means {ts = vs} k none)))))) n ps xs w p h =
      let a = x n in let e1 = a.same in
      at (two_between xs (plain w ∷ plain i ∷ plain b ∷ a.placed) (plain e ∷ []) (ap (λ (us : List SeenToken). w ∷ i ∷ b ∷ us) e1) refl (sym (append-nil vs)))
      (k n _ _ (next_pick p (pick w i b e h j (one_class CLASS_BELOW_WORD b.class g) a.spelled (one_class CLASS_SEMI e.class r))))

  pick_rest_assign : Keeps RULE_PICK_REST_ASSIGN NAME_PICK_REST
  pick_rest_assign _ (taken d j (means {ts = ts} x (taken e g (acted (means {ts = vs} k none))))) n ps xs w p h =
      let t : AnyOf targets w = subst (λ (c : ℕ). is_among c targets ≡ true) (sym h) refl in
      first_assigned n ps xs p w d e ts vs t (one_class CLASS_DEFINE d.class j) (x n) (one_class CLASS_SEMI e.class g) k

  assigns_more : Keeps RULE_ASSIGNS_MORE NAME_ASSIGNS
  assigns_more _ (taken i h (taken d j (means {ts = ts} x (taken e g (acted (means {ts = vs} k none)))))) n ys xs p =
      let a = x n in let e1 = a.same in
      at (two_between xs (plain i ∷ plain d ∷ a.placed) (plain e ∷ []) (ap (λ (us : List SeenToken). i ∷ d ∷ us) e1) refl (sym (append-nil vs))) (k n _ _ (next_assign p (assign i d e h (one_class CLASS_DEFINE d.class j) a.spelled (one_class CLASS_SEMI e.class g))))

  assigns_end : Keeps RULE_ASSIGNS_END NAME_ASSIGNS
  assigns_end _ none n ys xs h = mk (IsAssigns text n) ys _ h (simp append-nil)

  reply_term : Keeps RULE_REPLY_TERM NAME_REPLY
  reply_term _ (taken w h (means {ts = ts} x (taken e g (acted none)))) n =
      let a = x n in let e1 = a.same in mk (IsReply text n) _ _ (reply w e (one_class CLASS_REPLY_WORD w.class h) a.spelled (one_class CLASS_SEMI e.class g)) (simp (map-append, e1))

  reply_none : Keeps RULE_REPLY_NONE NAME_REPLY
  reply_none _ (acted none) n = mk (IsReply text n) _ _ no_reply refl

  own_rules : RulesMean spec_tables SeenToken (λ token. token.class) Means (drop (length term_rules) spec_tables.names) (length term_rules)
  own_rules = (text_whole, (disks_none, (disks_one, (disks_two, (fields_more, (fields_end, (leased_yes, (leased_no, (ops_more, (ops_end, (params_some, (params_none, (more_params_more, (more_params_end, (returns_sort, (returns_none, (allowed_term, (allowed_all, (body_braces, (picks_pick, (picks_assign, (picks_none, (pick_rest_pick, (pick_rest_assign, (assigns_more, (assigns_end, (reply_term, (reply_none, tt))))))))))))))))))))))))))))

  all_rules : RulesMean spec_tables SeenToken (λ token. token.class) Means spec_tables.names 0
  all_rules = with_rows spec_tables SeenToken (λ token. token.class) Means spec_tables.names 0 term_rules (spec_contains text).rules (term_rules_mean (lexicon text) (spec_contains text) own_meanings) own_rules

  -- what the name of texts derives is a specification
  pub whole_means : (level : ℕ) (steps : List Step) (us : List SeenToken) → Derived spec_tables NAME_TEXT steps (map (λ token. token.class) us) → (x : SpecTree) × Spells (IsSpec text level) x us
  whole_means level steps us d = go us (all_mean spec_tables SeenToken (λ token. token.class) Means all_rules d us refl)
    where
      go : (us : List SeenToken) → Meant spec_tables SeenToken (λ token. token.class) Means (N NAME_TEXT ∷ []) us → (x : SpecTree) × Spells (IsSpec text level) x us
      go _ (means {ts = ts} m none) = let a = m level in (a.tree, record { placed = a.placed; same = a.same ∙ sym (append-nil ts); derived = a.spelled })

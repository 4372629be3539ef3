-- What each act makes of the parts, the top one first. Made by tools/grammar.py from spec.grammar: edit that.
use Rattle.std.specs.Prelude.{Bool, true, false, List, [], ◌∷◌, ℕ, ◌++◌, Some, None, Option}
use Rattle.gv_grammar.specs.declared.steps.Step.{Step}
use Rattle.gv_grammar.specs.Building.{Reduction, act_of, run}
use Rattle.gv_termread.specs.declared.generated.term_acts.Part.{Part}
use Rattle.gv_termread.specs.declared.generated.term_acts.Part.TheVariants.{Token as PToken, Term as PTerm, Other as POther}
use Rattle.gv_termread.specs.TermActs.{is_token, is_term, term_acts}
use Rattle.gv_specread.specs.declared.generated.spec_acts.SpecPart.{SpecPart}
use Rattle.gv_specread.specs.declared.generated.spec_acts.SpecPart.TheVariants.{Disks as PDisks, Leased as PLeased, Fields as PFields, Params as PParams, Returns as PReturns, Allowed as PAllowed, Picks as PPicks, Assigns as PAssigns, Reply as PReply, Body as PBody, Ops as POps, Spec as PSpec}
use Rattle.gv_specread.specs.declared.tree.DisksTree.TheVariants.{Zero, One, Two}
use Rattle.gv_specread.specs.Trees.{span_of, sort_of, number_of}
use Rattle.gv_termread.specs.declared.token.SeenToken.{SeenToken}

abbrev pub is_disks : (Part SpecPart) → Bool
is_disks (POther (PDisks of)) = true
is_disks part = false

abbrev pub is_leased : (Part SpecPart) → Bool
is_leased (POther (PLeased of)) = true
is_leased part = false

abbrev pub is_fields : (Part SpecPart) → Bool
is_fields (POther (PFields of)) = true
is_fields part = false

abbrev pub is_params : (Part SpecPart) → Bool
is_params (POther (PParams of)) = true
is_params part = false

abbrev pub is_returns : (Part SpecPart) → Bool
is_returns (POther (PReturns of)) = true
is_returns part = false

abbrev pub is_allowed : (Part SpecPart) → Bool
is_allowed (POther (PAllowed of)) = true
is_allowed part = false

abbrev pub is_picks : (Part SpecPart) → Bool
is_picks (POther (PPicks of)) = true
is_picks part = false

abbrev pub is_assigns : (Part SpecPart) → Bool
is_assigns (POther (PAssigns of)) = true
is_assigns part = false

abbrev pub is_reply : (Part SpecPart) → Bool
is_reply (POther (PReply of)) = true
is_reply part = false

abbrev pub is_body : (Part SpecPart) → Bool
is_body (POther (PBody of)) = true
is_body part = false

abbrev pub is_ops : (Part SpecPart) → Bool
is_ops (POther (POps of)) = true
is_ops part = false

abbrev pub is_spec : (Part SpecPart) → Bool
is_spec (POther (PSpec of)) = true
is_spec part = false

abbrev pub made_spec : List (Part SpecPart) → List (Part SpecPart)
made_spec (POther (PBody crash) ∷ PToken _ ∷ POther (POps ops) ∷ POther (PFields fields) ∷ PToken _ ∷ POther (PDisks disks) ∷ PToken word ∷ PToken _ ∷ PToken name ∷ PToken _ ∷ parts) = POther (PSpec (record { name = span_of name; disks_start = word.start; disks = disks; fields = fields; ops = ops; crash = crash })) ∷ parts
made_spec parts = parts

abbrev pub made_no_disks : List (Part SpecPart) → List (Part SpecPart)
made_no_disks (PToken _ ∷ parts) = POther (PDisks (Zero)) ∷ parts
made_no_disks parts = parts

abbrev pub made_one_disk : List (Part SpecPart) → List (Part SpecPart)
made_one_disk (PToken blocks ∷ PToken _ ∷ parts) = POther (PDisks (One (number_of blocks))) ∷ parts
made_one_disk parts = parts

abbrev pub made_two_disks : List (Part SpecPart) → List (Part SpecPart)
made_two_disks (PToken blocks ∷ PToken _ ∷ parts) = POther (PDisks (Two (number_of blocks))) ∷ parts
made_two_disks parts = parts

abbrev pub made_no_fields : List (Part SpecPart) → List (Part SpecPart)
made_no_fields parts = POther (PFields ([])) ∷ parts

abbrev pub made_field : List (Part SpecPart) → List (Part SpecPart)
made_field (PToken _ ∷ PTerm first ∷ PToken _ ∷ POther (PLeased leased) ∷ PToken sort ∷ PToken _ ∷ PToken name ∷ PToken _ ∷ POther (PFields fields) ∷ parts) = POther (PFields (fields ++ (record { name = span_of name; sort = sort_of sort; leased = leased; first = first }) ∷ [])) ∷ parts
made_field parts = parts

abbrev pub made_not_leased : List (Part SpecPart) → List (Part SpecPart)
made_not_leased parts = POther (PLeased (false)) ∷ parts

abbrev pub made_leased : List (Part SpecPart) → List (Part SpecPart)
made_leased (PToken _ ∷ parts) = POther (PLeased (true)) ∷ parts
made_leased parts = parts

abbrev pub made_no_ops : List (Part SpecPart) → List (Part SpecPart)
made_no_ops parts = POther (POps ([])) ∷ parts

abbrev pub made_op : List (Part SpecPart) → List (Part SpecPart)
made_op (POther (PBody body) ∷ POther (PAllowed allowed) ∷ POther (PReturns returns) ∷ PToken _ ∷ POther (PParams params) ∷ PToken _ ∷ PToken name ∷ PToken _ ∷ POther (POps ops) ∷ parts) = POther (POps (ops ++ (record { name = span_of name; params = params; returns = returns; allowed = allowed; body = body }) ∷ [])) ∷ parts
made_op parts = parts

abbrev pub made_no_params : List (Part SpecPart) → List (Part SpecPart)
made_no_params parts = POther (PParams ([])) ∷ parts

abbrev pub made_param : List (Part SpecPart) → List (Part SpecPart)
made_param (PToken sort ∷ PToken _ ∷ PToken name ∷ POther (PParams params) ∷ parts) = POther (PParams (params ++ (record { name = span_of name; sort = sort_of sort }) ∷ [])) ∷ parts
made_param parts = parts

abbrev pub made_next_param : List (Part SpecPart) → List (Part SpecPart)
made_next_param (PToken sort ∷ PToken _ ∷ PToken name ∷ PToken _ ∷ POther (PParams params) ∷ parts) = POther (PParams (params ++ (record { name = span_of name; sort = sort_of sort }) ∷ [])) ∷ parts
made_next_param parts = parts

abbrev pub made_no_return : List (Part SpecPart) → List (Part SpecPart)
made_no_return parts = POther (PReturns (None)) ∷ parts

abbrev pub made_return : List (Part SpecPart) → List (Part SpecPart)
made_return (PToken sort ∷ PToken _ ∷ parts) = POther (PReturns (Some (sort_of sort))) ∷ parts
made_return parts = parts

abbrev pub made_all_allowed : List (Part SpecPart) → List (Part SpecPart)
made_all_allowed parts = POther (PAllowed (None)) ∷ parts

abbrev pub made_allowed : List (Part SpecPart) → List (Part SpecPart)
made_allowed (PTerm term ∷ PToken _ ∷ parts) = POther (PAllowed (Some term)) ∷ parts
made_allowed parts = parts

abbrev pub made_body : List (Part SpecPart) → List (Part SpecPart)
made_body (PToken _ ∷ POther (PReply reply) ∷ POther (PAssigns assigns) ∷ POther (PPicks picks) ∷ PToken brace ∷ parts) = POther (PBody (record { start = brace.start; picks = picks; assigns = assigns; reply = reply })) ∷ parts
made_body parts = parts

abbrev pub made_no_picks : List (Part SpecPart) → List (Part SpecPart)
made_no_picks parts = POther (PPicks ([])) ∷ parts

abbrev pub made_pick : List (Part SpecPart) → List (Part SpecPart)
made_pick (PToken _ ∷ PTerm bound ∷ PToken _ ∷ PToken name ∷ PToken _ ∷ POther (PPicks picks) ∷ parts) = POther (PPicks (picks ++ (record { name = span_of name; bound = bound }) ∷ [])) ∷ parts
made_pick parts = parts

abbrev pub made_no_assigns : List (Part SpecPart) → List (Part SpecPart)
made_no_assigns parts = POther (PAssigns ([])) ∷ parts

abbrev pub made_first_assign : List (Part SpecPart) → List (Part SpecPart)
made_first_assign (PToken _ ∷ PTerm term ∷ PToken _ ∷ PToken name ∷ parts) = POther (PAssigns ((record { name = span_of name; term = term }) ∷ [])) ∷ parts
made_first_assign parts = parts

abbrev pub made_assign : List (Part SpecPart) → List (Part SpecPart)
made_assign (PToken _ ∷ PTerm term ∷ PToken _ ∷ PToken name ∷ POther (PAssigns assigns) ∷ parts) = POther (PAssigns (assigns ++ (record { name = span_of name; term = term }) ∷ [])) ∷ parts
made_assign parts = parts

abbrev pub made_no_reply : List (Part SpecPart) → List (Part SpecPart)
made_no_reply parts = POther (PReply (None)) ∷ parts

abbrev pub made_reply : List (Part SpecPart) → List (Part SpecPart)
made_reply (PToken _ ∷ PTerm term ∷ PToken word ∷ parts) = POther (PReply (Some (record { start = word.start; term = term }))) ∷ parts
made_reply parts = parts

-- its own acts, from the first number behind those that it includes on
abbrev pub spec_own_acts : List ℕ → List (Reduction (Part SpecPart))
spec_own_acts text =
    record { takes = is_body ∷ is_token ∷ is_ops ∷ is_fields ∷ is_token ∷ is_disks ∷ is_token ∷ is_token ∷ is_token ∷ is_token ∷ []; makes = made_spec }
    ∷ record { takes = is_token ∷ []; makes = made_no_disks }
    ∷ record { takes = is_token ∷ is_token ∷ []; makes = made_one_disk }
    ∷ record { takes = is_token ∷ is_token ∷ []; makes = made_two_disks }
    ∷ record { takes = []; makes = made_no_fields }
    ∷ record { takes = is_token ∷ is_term ∷ is_token ∷ is_leased ∷ is_token ∷ is_token ∷ is_token ∷ is_token ∷ is_fields ∷ []; makes = made_field }
    ∷ record { takes = []; makes = made_not_leased }
    ∷ record { takes = is_token ∷ []; makes = made_leased }
    ∷ record { takes = []; makes = made_no_ops }
    ∷ record { takes = is_body ∷ is_allowed ∷ is_returns ∷ is_token ∷ is_params ∷ is_token ∷ is_token ∷ is_token ∷ is_ops ∷ []; makes = made_op }
    ∷ record { takes = []; makes = made_no_params }
    ∷ record { takes = is_token ∷ is_token ∷ is_token ∷ is_params ∷ []; makes = made_param }
    ∷ record { takes = is_token ∷ is_token ∷ is_token ∷ is_token ∷ is_params ∷ []; makes = made_next_param }
    ∷ record { takes = []; makes = made_no_return }
    ∷ record { takes = is_token ∷ is_token ∷ []; makes = made_return }
    ∷ record { takes = []; makes = made_all_allowed }
    ∷ record { takes = is_term ∷ is_token ∷ []; makes = made_allowed }
    ∷ record { takes = is_token ∷ is_reply ∷ is_assigns ∷ is_picks ∷ is_token ∷ []; makes = made_body }
    ∷ record { takes = []; makes = made_no_picks }
    ∷ record { takes = is_token ∷ is_term ∷ is_token ∷ is_token ∷ is_token ∷ is_picks ∷ []; makes = made_pick }
    ∷ record { takes = []; makes = made_no_assigns }
    ∷ record { takes = is_token ∷ is_term ∷ is_token ∷ is_token ∷ []; makes = made_first_assign }
    ∷ record { takes = is_token ∷ is_term ∷ is_token ∷ is_token ∷ is_assigns ∷ []; makes = made_assign }
    ∷ record { takes = []; makes = made_no_reply }
    ∷ record { takes = is_token ∷ is_term ∷ is_token ∷ []; makes = made_reply }
    ∷ []

abbrev pub spec_acts : List ℕ → List (Reduction (Part SpecPart))
spec_acts text = (term_acts text) ++ (spec_own_acts text)

-- the parts that steps leave of tokens
abbrev pub spec_built : List ℕ → List Step → List SeenToken → Option (List (Part SpecPart))
spec_built text steps tokens = run PToken (act_of (spec_acts text)) steps tokens []

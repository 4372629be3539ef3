-- What statements and bodies become. A `continue` makes the post statement of its loop once more, with temporaries of its own.
use Rattle.std.specs.Prelude.{ℕ, ◌+◌, ◌-◌, Bool, true, false, ◌==◌, nat_lt, if◌then◌else◌, List, [], ◌∷◌, ◌++◌, map, length, Option, Some, None}
use Rattle.gv_base.specs.declared.answers.Place.{Place}
use Rattle.gv_lang.specs.declared.program.LocalKind.{LocalKind}
use Rattle.gv_lang.specs.Tree as lang
use Rattle.gv_gosyntax.specs.declared.generated.gosyntax_table.TheConstants as class
use Rattle.gv_operands.specs.declared.types.GoType.{GoType}
use Rattle.gv_operands.specs.declared.types.GoType.TheVariants.{Boolean}
use Rattle.gv_gotypes.specs.Trees as go
use Rattle.gv_gotypes.specs.Types.{Finding, Fault, Outer, Assigned}
use Rattle.gv_gotypes.specs.Scopes.{Env, name_in, is_blank, opened, in_literal}
use Rattle.gv_gotypes.specs.Kinds.{kind_of as type_of}
use Rattle.gv_gotypes.specs.Statements.{header_env, block_findings}
use Rattle.gv_gotypes.specs.Statements.{after as env_after}
use Rattle.gv_lowering.specs.Operands.{VariableAt, Context, kind_if, Read, temporary, block_of, tail, read}
use Rattle.gv_lowering.specs.Statements.{Declared, Made, no_commands, made, followed, Target, Known, Fresh, given, first_of, all_fresh, set, args, call, results_of, zero_of, simple_if, simple, at_byte}

-- ---- variables that a literal captures

-- The variables that a literal behind `go` uses and that are declared before its brace, by the bytes where they are declared.
abbrev pub is_listed : ℕ → List ℕ → Bool
is_listed b [] = false
is_listed b (d ∷ ds) = if b == d then true else is_listed b ds

-- the uses of outer variables in order of the text: where each stands, and where the variable is declared
abbrev pub put_in_order : (at declared : ℕ) → List (ℕ × ℕ) → List (ℕ × ℕ)
put_in_order at declared [] = (at, declared) ∷ []
put_in_order at declared (u ∷ us) = if nat_lt at u.0 then (at, declared) ∷ u ∷ us else u ∷ put_in_order at declared us

abbrev pub outer_uses : ℕ → List Finding → List (ℕ × ℕ)
outer_uses brace [] = []
outer_uses brace (Outer at declared ∷ fs) = if nat_lt declared brace then put_in_order at declared (outer_uses brace fs) else outer_uses brace fs
outer_uses brace (Fault at code ∷ fs) = outer_uses brace fs
outer_uses brace (Assigned declared ∷ fs) = outer_uses brace fs

abbrev pub once_each : List ℕ → List (ℕ × ℕ) → List ℕ
once_each before [] = []
once_each before (u ∷ us) = if is_listed u.1 before then once_each before us else u.1 ∷ once_each (u.1 ∷ before) us

abbrev pub brace_of : go.Block → ℕ
brace_of (go.braces o ss e) = o.start

abbrev pub captured : Env → go.Block → List ℕ
captured env b = once_each [] (outer_uses (brace_of b) (block_findings (in_literal env) b))

abbrev pub captured_values : Context → Env → go.Block → List lang.Expr
captured_values c env b = map (λ d. lang.LocalAt (c.place (VariableAt d))) (captured env b)

-- ---- returns

-- a call behind `return` sets a temporary for each result first, and so does a literal
abbrev pub fresh_values : Context → ℕ → List LocalKind → List lang.Expr
fresh_values c n [] = []
fresh_values c n (k ∷ ks) = lang.LocalAt (temporary c n) ∷ fresh_values c (n + 1) ks

abbrev pub returned_call : Context → Place → Env → ℕ → go.Call → Made
returned_call c at env n k = let ks = results_of env k in let m = call c at env n (all_fresh ks) k in
    followed m (made (lang.Return (fresh_values c (n + (length m.temps - length ks)) (map kind_if ks)) at ∷ []) [])

abbrev pub operands_of : List go.Right → List go.Expr
operands_of [] = []
operands_of (go.Value e ∷ rs) = e ∷ operands_of rs
operands_of (go.Result k ∷ rs) = operands_of rs

abbrev pub returned : Context → Place → Env → ℕ → List go.Right → Made
returned c at env n (go.Result k ∷ []) = returned_call c at env n k
returned c at env n rs = let a = args c at env n env.results (operands_of rs) in made (a.cmds ++ lang.Return a.values at ∷ []) a.temps

-- ---- declarations of variables, each its own local; `_` is a temporary and declares nothing

abbrev pub declared_value : Context → Place → Env → ℕ → Target → Option GoType → Option go.Right → Made
declared_value c at env n x k None = let xs = given c n (x ∷ []) in made (lang.Do (lang.Let (first_of xs.0) (zero_of k)) at ∷ []) xs.1
declared_value c at env n x k (Some (go.Value e)) = set c at n (x ∷ []) (tail c at env e k n)
declared_value c at env n x k (Some (go.Result r)) = call c at env n (x ∷ []) r

abbrev pub declaring_one : Declared → Made → Made
declaring_one d m = record { cmds = m.cmds; temps = m.temps; declared = d ∷ m.declared }

-- ---- every statement

-- what a `continue` makes before it repeats its loop, from a count of temporaries on
abbrev pub Post : Type 0
Post = ℕ → Made

abbrev pub no_post : Post
no_post n = no_commands

-- the If on a loop's condition, whose other branch leaves the loop
abbrev pub leaving : Context → Place → Env → ℕ → Option go.Expr → Made
leaving c at env n None = no_commands
leaving c at env n (Some e) = let r = read c at env e (Some Boolean) n in
    made (r.cmds ++ lang.If r.value lang.finish (lang.next (lang.Break at) lang.finish) at ∷ []) r.temps

abbrev pub jump : Place → ℕ → Post → ℕ → Made
jump at word post n =
    if word == class.CLASS_BREAK then made (lang.Break at ∷ []) [] else followed (post n) (made (lang.Continue at ∷ []) [])

-- the parts of a loop in their order: condition, body, post and Continue
abbrev pub looped : Place → Made → Made → Made → Made
looped at cond body post = let all = followed (followed cond body) post in record {
  cmds = lang.Loop (block_of (all.cmds ++ lang.Continue at ∷ [])) at ∷ [];
  temps = all.temps;
  declared = all.declared;
}

abbrev pub branching : Place → Read → Made → Made → Made
branching at r t f = record {
  cmds = r.cmds ++ lang.If r.value (block_of t.cmds) (block_of f.cmds) at ∷ [];
  temps = r.temps ++ (t.temps ++ f.temps);
  declared = t.declared ++ f.declared;
}

module _ (c : Context) where
  abbrev mutual
    -- a statement in a loop with this post, behind n temporaries
    pub stmt : go.Stmt → Env → Post → ℕ → Made
    stmt go.Empty env post n = no_commands
    stmt (go.Simple s) env post n = simple c env n s
    stmt (go.Var w t k r) env post n =
        if is_blank (name_in env.source t) then declared_value c (at_byte env w.start) env n (Fresh (kind_if (type_of env k))) (type_of env k) r
        else declaring_one (t.start, type_of env k) (declared_value c (at_byte env w.start) env n (Known (c.place (VariableAt t.start))) (type_of env k) r)
    stmt (go.If w e b o) env post n = let r = read c (at_byte env w.start) env e (Some Boolean) n in
        let t = block b (opened env) post (n + length r.temps) in
        branching (at_byte env w.start) r t (other o env post (n + length r.temps + length t.temps))
    stmt (go.Nested b) env post n = block b (opened env) post n
    stmt (go.Jump w) env post n = jump (at_byte env w.start) w.class post n
    stmt (go.For w h b) env post n = let at = at_byte env w.start in let inner = header_env env h in
        let first = simple_if c (opened env) n h.first in
        let cond = leaving c at inner (n + length first.temps) h.condition in
        let body = block b (opened inner) (λ m. simple_if c inner m h.post) (n + length first.temps + length cond.temps) in
        followed first (looped at cond body (simple_if c inner (n + length first.temps + length cond.temps + length body.temps) h.post))
    stmt (go.Return w rs) env post n = returned c (at_byte env w.start) env n rs
    stmt (go.Go w b) env post n = made (lang.Do (lang.Spawn (c.literal w.start) (captured_values c env b)) (at_byte env w.start) ∷ []) []

    pub block : go.Block → Env → Post → ℕ → Made
    block (go.braces o ss e) env post n = stmts ss env post n

    pub stmts : go.Stmts → Env → Post → ℕ → Made
    stmts go.no_more env post n = no_commands
    stmts (go.next s ss) env post n = let m = stmt s env post n in followed m (stmts ss (env_after env s) post (n + length m.temps))

    pub other : go.Else → Env → Post → ℕ → Made
    other go.no_branch env post n = no_commands
    other (go.branch s) env post n = stmt s env post n

abbrev pub close_of : go.Block → ℕ
close_of (go.braces o ss e) = e.start

-- a body without results ends in an added Return, which stands at its closing brace
abbrev pub ended : Bool → Place → Made → Made
ended true at m = followed m (made (lang.Return [] at ∷ []) [])
ended false at m = m

abbrev pub body : Context → Env → Bool → go.Block → Made
body c env adds b = ended adds (at_byte env (close_of b)) (block c b env no_post 0)

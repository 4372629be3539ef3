-- What sets left sides, behind what was made before.
use Rattle.std.proofs.Common.{◌≡◌, ℕ, ◌+◌, List, [], ◌∷◌, ◌++◌, length, map, refl, sym, ap, subst, ◌∙◌, append-nil}
use Rattle.gv_base.specs.declared.answers.Place.{Place}
use Rattle.gv_lang.specs.declared.cmd.Cmd.{Cmd as DeclaredCmd}
use Rattle.gv_lang.specs.declared.program.LocalKind.TheVariants as kind
use Rattle.gv_lang.specs.Plain.{tree_of}
use Rattle.gv_lang.specs.Tree as lang
use Rattle.gv_lowering.specs.Operands.{Context, Last, Tail, ReadsMap}
use Rattle.gv_lowering.specs.Statements as lower
use Rattle.gv_lowerops.specs.declared.draft.Draft.{Draft}
use Rattle.gv_lowerops.specs.Tails.{IsBehind}
use Rattle.gv_lowerops.proofs.Behind.{behind_then, count_behind, trees_more}
use Rattle.gv_lowermoves.specs.declared.locals.Locals.{Locals}
use Rattle.gv_lowermoves.specs.declared.locals.Target.{Target}
use Rattle.gv_lowermoves.specs.declared.locals.Target.TheVariants as target
use Rattle.gv_lowermoves.specs.Moves.{target_in, AreGiven, IsMadeBehind, IsFound}

-- one command that sets them
pub one_set : (c : Context) (at : Place) (old new : Draft) (ts : List Target) (made : Locals) (cmd : DeclaredCmd) (a : List ℕ → lang.Action) → AreGiven c old ts made
    → tree_of cmd ≡ lang.Do (a made.locals.items) at → new.cmds.items ≡ made.draft.cmds.items ++ cmd ∷ [] → new.temps.items ≡ made.draft.temps.items
    → IsBehind old new (lang.Do (a (lower.given c (length old.temps.items) (map target_in ts)).0) at ∷ []) (lower.given c (length old.temps.items) (map target_in ts)).1
one_set c at old new ts made cmd a g is cmds temps =
    let d = lang.Do (a (lower.given c (length old.temps.items) (map target_in ts)).0) at in
    record {
      cmds =
          ap (λ (x : List DeclaredCmd). map tree_of x) cmds
          ∙ (trees_more made.draft.cmds.items cmd d (is ∙ ap (λ (xs : List ℕ). lang.Do (a xs) at) g.locals)
          ∙ ap (λ (x : List lang.Cmd). x ++ d ∷ []) (g.behind.cmds ∙ append-nil (map tree_of old.cmds.items)));
      temps = temps ∙ g.behind.temps;
    }

-- a read of a map for several left sides or none
pub found_by_all : (c : Context) (at : Place) (old new : Draft) (ts : List Target) (m k : lang.Expr) → (length ts ≡ 1 → ⊥)
    → IsFound c at old ts m k new
    → IsMadeBehind old new (lower.set_last c at (length old.temps.items) (map target_in ts) (ReadsMap m k))
found_by_all c at old new [] m k many h = h
found_by_all c at old new (t ∷ []) m k many h = absurd (many refl)
found_by_all c at old new (t ∷ u ∷ ts) m k many h = h

-- for one alone
pub found_by_one : (c : Context) (at : Place) (old new : Draft) (ts : List Target) (t : Target) (m k : lang.Expr) → ts ≡ t ∷ []
    → IsFound c at old (t ∷ target.Fresh kind.Bool ∷ []) m k new
    → IsMadeBehind old new (lower.set_last c at (length old.temps.items) (map target_in ts) (ReadsMap m k))
found_by_one c at old new ts t m k is h =
    subst (λ (us : List Target). IsMadeBehind old new (lower.set_last c at (length old.temps.items) (map target_in us) (ReadsMap m k))) (sym is) h

-- behind what reads before its end
pub set_behind : (c : Context) (at : Place) (old draft new : Draft) (ts : List lower.Target) (t : Tail) (l : Last) → IsBehind old draft t.before t.temps → l ≡ t.last
    → IsMadeBehind draft new (lower.set_last c at (length draft.temps.items) ts l) → IsMadeBehind old new (lower.set c at (length old.temps.items) ts t)
set_behind c at old draft new ts t l h is k =
    let n = length old.temps.items + length t.temps in
    let there : IsMadeBehind draft new (lower.set_last c at n ts l) =
    subst (λ (m : ℕ). IsMadeBehind draft new (lower.set_last c at m ts l)) (count_behind old draft t.before t.temps h) k in
    let whole : IsMadeBehind draft new (lower.set_last c at n ts t.last) = subst (λ (x : Last). IsMadeBehind draft new (lower.set_last c at n ts x)) is there in
    behind_then old draft new t.before (lower.set_last c at n ts t.last).cmds t.temps (lower.set_last c at n ts t.last).temps h whole

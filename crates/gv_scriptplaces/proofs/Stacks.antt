-- What the parts on a stack have of the numbered commands, and which stacks may still become a script.
use Rattle.std.proofs.Common.{◌≡◌, ℕ, Bool, true, false, ◌&&◌, ◌||◌, List, [], ◌∷◌, ◌++◌, length, refl, sym, ap, ◌∙◌}
use Rattle.std.specs.Prelude.{drop, map, option_map, not, if◌then◌else◌}
use Rattle.std.proofs.lemmas.Bool.{false≢true}
use Rattle.gv_grammar.specs.Building.{has_tops}
use Rattle.gv_grammar.proofs.Tests.{both}
use Rattle.gv_termread.specs.declared.generated.term_acts.Part.{Part}
use Rattle.gv_termread.specs.declared.generated.term_acts.Part.TheVariants.{Token as PToken, Term as PTerm, Other as POther}
use Rattle.gv_termread.specs.TermActs.{is_token, is_term}
use Rattle.gv_scriptsyntax.specs.declared.generated.script_acts.ScriptPart.{ScriptPart}
use Rattle.gv_scriptsyntax.specs.declared.generated.script_acts.ScriptPart.TheVariants.{Arm as PArm, Arms as PArms, Atom as PAtom, Atoms as PAtoms, Block as PBlock, Blocks as PBlocks, Books as PBooks, Case as PCase, Cases as PCases, Cert as PCert, Command as PCommand, Commands as PCommands, Cuts as PCuts, Ending as PEnding, Factor as PFactor, Factors as PFactors, Filling as PFilling, Haves as PHaves, Inst as PInst, Item as PItem, Items as PItems, MaybeBlock as PMaybeBlock, MaybeInst as PMaybeInst, MaybeTerm as PMaybeTerm, Names as PNames, Ops as POps, Pars as PPars, Preds as PPreds, Procs as PProcs, Script as PScript, Terms as PTerms}
use Rattle.gv_scriptsyntax.specs.declared.tree.Command.{Command}
use Rattle.gv_scriptsyntax.specs.Making.{Making}
use Rattle.gv_scriptsyntax.specs.ScriptActs.{is_names, is_pars, is_terms, is_maybe_term, is_inst, is_maybe_inst, is_atom, is_atoms, is_item, is_items, is_factor, is_factors, is_cert, is_haves, is_filling, is_ending, is_case, is_cases, is_books, is_preds, is_command, is_commands}
use Rattle.gv_scriptsyntax.specs.Nodes.{Parts}
use Rattle.gv_scriptnumbers.specs.Numbers.{Starts, joined, by_each, in_some, of_command, of_arm, of_block, of_cut, of_op, of_proc}
use Rattle.gv_scriptplaces.specs.Begun.{is_list}

-- ---- lists

pub nil_right : (xs : Starts) → xs ++ [] ≡ xs
nil_right [] = refl
nil_right (x ∷ xs) = ap (λ (ys : Starts). x ∷ ys) (nil_right xs)

pub joins : (xs ys zs : Starts) → (xs ++ ys) ++ zs ≡ xs ++ (ys ++ zs)
joins [] ys zs = refl
joins (x ∷ xs) ys zs = ap (λ (ms : Starts). x ∷ ms) (joins xs ys zs)

pub by_each_end : {T : Type 0} (of : T → Starts) (xs : List T) (x : T) → by_each of (xs ++ x ∷ []) ≡ by_each of xs ++ of x
by_each_end of [] x = nil_right (of x)
by_each_end of (y ∷ xs) x = ap (λ (ms : Starts). of y ++ ms) (by_each_end of xs x) ∙ sym (joins (of y) (by_each of xs) (of x))

pub joined_end : {T : Type 0} (of : T → Starts) (xs : List T) (x : T) → joined (map of (xs ++ x ∷ [])) ≡ joined (map of xs) ++ of x
joined_end of [] x = nil_right (of x)
joined_end of (y ∷ xs) x = ap (λ (ms : Starts). of y ++ ms) (joined_end of xs x) ∙ sym (joins (of y) (joined (map of xs)) (of x))

-- ---- parts

-- the numbered commands of a part, but `crash` and `root`
abbrev pub inner : ScriptPart → Starts
inner (PNames ts) = []
inner (PPars ps) = []
inner (PTerms ts) = []
inner (PMaybeTerm t) = []
inner (PInst p) = []
inner (PMaybeInst p) = []
inner (PAtom a) = []
inner (PAtoms xs) = []
inner (PItem i) = []
inner (PItems xs) = []
inner (PFactor f) = []
inner (PFactors fs) = []
inner (PCert c) = []
inner (PHaves hs) = []
inner (PFilling f) = []
inner (PCommand c) = of_command c
inner (PCommands cs) = joined (map of_command cs)
inner (PEnding e) = []
inner (PBlock b) = of_block b
inner (PMaybeBlock b) = in_some (option_map of_block b)
inner (PBlocks bs) = joined (map of_block bs)
inner (PArm a) = of_arm a
inner (PArms xs) = joined (map of_arm xs)
inner (PCase c) = []
inner (PCases cs) = []
inner (PBooks bs) = []
inner (PPreds ps) = []
inner (PCuts cs) = by_each of_cut cs
inner (POps os) = by_each of_op os
inner (PProcs rs) = by_each of_proc rs
inner (PScript s) = of_block s.init ++ (of_block s.recover ++ (by_each of_cut s.cuts ++ (by_each of_op s.ops ++ by_each of_proc s.procs)))

-- whether a list of commands is on top
abbrev pub tops : Parts → Bool
tops [] = false
tops (p ∷ ps) = is_commands p

-- what a part adds, on a list of commands or on another part
abbrev pub added : Part ScriptPart → Bool → Starts
added (PToken t) behind = if behind then t.start ∷ [] else []
added (PTerm t) behind = []
added (POther p) behind = inner p

abbrev pub told : Parts → Starts
told [] = []
told (p ∷ ps) = told ps ++ added p (tops ps)

-- whether a part may stand there: on a list of commands a token or a command alone, and a command nowhere else
abbrev pub fits : Part ScriptPart → Bool → Bool
fits p behind = if behind then (is_token p || is_command p) else not (is_command p)

abbrev pub good : Parts → Bool
good [] = true
good (p ∷ ps) = fits p (tops ps) && good ps

-- of a part that is no token and no command: no list of commands is below
pub other_on : (p : Part ScriptPart) (ps : Parts) → is_token p ≡ false → is_command p ≡ false → good (p ∷ ps) ≡ true → (tops ps ≡ false) × (good ps ≡ true)
other_on p ps no_token no_command g = let b = both (fits p (tops ps)) (good ps) g in (go (tops ps) b.0, b.1)
  where
    go : (behind : Bool) → fits p behind ≡ true → behind ≡ false
    go true f = absurd (false≢true (sym (rw (no_token, no_command) refl) ∙ f))
    go false f = refl

-- of a command: one is below
pub command_on : (c : Command) (ps : Parts) → good (POther (PCommand c) ∷ ps) ≡ true → (tops ps ≡ true) × (good ps ≡ true)
command_on c ps g = let b = both (fits (POther (PCommand c)) (tops ps)) (good ps) g in (go (tops ps) b.0, b.1)
  where
    go : (behind : Bool) → fits (POther (PCommand c)) behind ≡ true → behind ≡ true
    go true f = refl
    go false f = absurd (false≢true f)

-- ---- acts

-- what an act leaves tells what the parts did, and they may become a script where it may
pub record Kept (n : ℕ) (parts made : Parts) : Type 0 where
  pub good : good parts ≡ true
  pub same : told made ≡ told parts
  pub list : tops made ≡ is_list n

abbrev pub Keeps : ℕ → Making (Part ScriptPart) → Type 0
Keeps n m = (parts : Parts) → has_tops m.takes parts ≡ true → good (m.makes parts ∷ drop (length m.takes) parts) ≡ true → Kept n parts (m.makes parts ∷ drop (length m.takes) parts)

-- ---- acts on parts without commands

-- such a part
pub record IsPlainPart (p : Part ScriptPart) : Type 0 where
  pub command : is_command p ≡ false
  pub commands : is_commands p ≡ false
  pub nothing : added p false ≡ []

abbrev pub IsPlain : (Part ScriptPart → Bool) → Type 0
IsPlain test = (p : Part ScriptPart) → test p ≡ true → IsPlainPart p

abbrev pub ArePlain : List (Part ScriptPart → Bool) → Type 0
ArePlain [] = Unit {0}
ArePlain (test ∷ tests) = IsPlain test × ArePlain tests

-- parts like these on top change nothing
pub record Under (parts rest : Parts) : Type 0 where
  pub good : good parts ≡ good rest
  pub same : told parts ≡ told rest
  pub off : tops parts ≡ false

one_under : (p : Part ScriptPart) (ps rest : Parts) → IsPlainPart p → Under ps rest → Under (p ∷ ps) rest
one_under p ps rest plain under = record {
  good = rw (under.off, plain.command) under.good;
  same = ap (λ (b : Bool). told ps ++ added p b) under.off ∙ (ap (λ (ms : Starts). told ps ++ ms) plain.nothing ∙ (nil_right (told ps) ∙ under.same));
  off = plain.commands;
}

pub plain_under : (tests : List (Part ScriptPart → Bool)) → ArePlain tests → (parts : Parts) → has_tops tests parts ≡ true → tops (drop (length tests) parts) ≡ false → Under parts (drop (length tests) parts)
plain_under [] plain parts h off = record { good = refl; same = refl; off = off }
plain_under (test ∷ tests) plain [] h off = absurd (false≢true h)
plain_under (test ∷ tests) plain (p ∷ ps) h off =
    let b = both (test p) (has_tops tests ps) h in
    one_under p ps (drop (length tests) ps) (plain.0 p b.0) (plain_under tests plain.1 ps b.1 off)

-- what is made without commands
pub record MadePlain (p : Part ScriptPart) : Type 0 where
  pub token : is_token p ≡ false
  pub plain : IsPlainPart p

pub made_plain : (p : ScriptPart) → is_command (POther p) ≡ false → is_commands (POther p) ≡ false → inner p ≡ [] → MadePlain (POther p)
made_plain p a b c = record { token = refl; plain = record { command = a; commands = b; nothing = c } }

pub plain_kept : (n : ℕ) (tests : List (Part ScriptPart → Bool)) → ArePlain tests → (parts : Parts) (made : Part ScriptPart) → MadePlain made → is_list n ≡ false → has_tops tests parts ≡ true
    → good (made ∷ drop (length tests) parts) ≡ true → Kept n parts (made ∷ drop (length tests) parts)
plain_kept n tests plain parts made m other h g =
    let rest = drop (length tests) parts in
    let off = other_on made rest m.token m.plain.command g in
    let under = plain_under tests plain parts h off.0 in
    record {
      good = under.good ∙ off.1;
      same = ap (λ (b : Bool). told rest ++ added made b) off.0 ∙ (ap (λ (ms : Starts). told rest ++ ms) m.plain.nothing ∙ (nil_right (told rest) ∙ sym under.same));
      list = m.plain.commands ∙ sym other;
    }

pub plain_keeps : (n : ℕ) (m : Making (Part ScriptPart)) → ArePlain m.takes → ((parts : Parts) → MadePlain (m.makes parts)) → is_list n ≡ false → Keeps n m
plain_keeps n m plain makes other parts h g = plain_kept n m.takes plain parts (m.makes parts) (makes parts) other h g

pub plain_token : IsPlain is_token
plain_token (PToken x) h = record { command = refl; commands = refl; nothing = refl }
plain_token p h = absurd (false≢true h)

pub plain_term : IsPlain is_term
plain_term (PTerm x) h = record { command = refl; commands = refl; nothing = refl }
plain_term p h = absurd (false≢true h)

pub plain_names : IsPlain is_names
plain_names (POther (PNames x)) h = record { command = refl; commands = refl; nothing = refl }
plain_names p h = absurd (false≢true h)

pub plain_pars : IsPlain is_pars
plain_pars (POther (PPars x)) h = record { command = refl; commands = refl; nothing = refl }
plain_pars p h = absurd (false≢true h)

pub plain_terms : IsPlain is_terms
plain_terms (POther (PTerms x)) h = record { command = refl; commands = refl; nothing = refl }
plain_terms p h = absurd (false≢true h)

pub plain_maybe_term : IsPlain is_maybe_term
plain_maybe_term (POther (PMaybeTerm x)) h = record { command = refl; commands = refl; nothing = refl }
plain_maybe_term p h = absurd (false≢true h)

pub plain_inst : IsPlain is_inst
plain_inst (POther (PInst x)) h = record { command = refl; commands = refl; nothing = refl }
plain_inst p h = absurd (false≢true h)

pub plain_maybe_inst : IsPlain is_maybe_inst
plain_maybe_inst (POther (PMaybeInst x)) h = record { command = refl; commands = refl; nothing = refl }
plain_maybe_inst p h = absurd (false≢true h)

pub plain_atom : IsPlain is_atom
plain_atom (POther (PAtom x)) h = record { command = refl; commands = refl; nothing = refl }
plain_atom p h = absurd (false≢true h)

pub plain_atoms : IsPlain is_atoms
plain_atoms (POther (PAtoms x)) h = record { command = refl; commands = refl; nothing = refl }
plain_atoms p h = absurd (false≢true h)

pub plain_item : IsPlain is_item
plain_item (POther (PItem x)) h = record { command = refl; commands = refl; nothing = refl }
plain_item p h = absurd (false≢true h)

pub plain_items : IsPlain is_items
plain_items (POther (PItems x)) h = record { command = refl; commands = refl; nothing = refl }
plain_items p h = absurd (false≢true h)

pub plain_factor : IsPlain is_factor
plain_factor (POther (PFactor x)) h = record { command = refl; commands = refl; nothing = refl }
plain_factor p h = absurd (false≢true h)

pub plain_factors : IsPlain is_factors
plain_factors (POther (PFactors x)) h = record { command = refl; commands = refl; nothing = refl }
plain_factors p h = absurd (false≢true h)

pub plain_cert : IsPlain is_cert
plain_cert (POther (PCert x)) h = record { command = refl; commands = refl; nothing = refl }
plain_cert p h = absurd (false≢true h)

pub plain_haves : IsPlain is_haves
plain_haves (POther (PHaves x)) h = record { command = refl; commands = refl; nothing = refl }
plain_haves p h = absurd (false≢true h)

pub plain_filling : IsPlain is_filling
plain_filling (POther (PFilling x)) h = record { command = refl; commands = refl; nothing = refl }
plain_filling p h = absurd (false≢true h)

pub plain_ending : IsPlain is_ending
plain_ending (POther (PEnding x)) h = record { command = refl; commands = refl; nothing = refl }
plain_ending p h = absurd (false≢true h)

pub plain_case : IsPlain is_case
plain_case (POther (PCase x)) h = record { command = refl; commands = refl; nothing = refl }
plain_case p h = absurd (false≢true h)

pub plain_cases : IsPlain is_cases
plain_cases (POther (PCases x)) h = record { command = refl; commands = refl; nothing = refl }
plain_cases p h = absurd (false≢true h)

pub plain_books : IsPlain is_books
plain_books (POther (PBooks x)) h = record { command = refl; commands = refl; nothing = refl }
plain_books p h = absurd (false≢true h)

pub plain_preds : IsPlain is_preds
plain_preds (POther (PPreds x)) h = record { command = refl; commands = refl; nothing = refl }
plain_preds p h = absurd (false≢true h)

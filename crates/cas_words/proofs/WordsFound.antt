-- What a parse by clap says of the command.
use Rattle.std.proofs.Common.{◌≡◌, ◌≢◌, ◌∙◌, ap, ap₂, sym, subst, refl, Bool, cond, true, false, List, [], ◌∷◌, Option, Some, None, inl, inr}
use Rattle.std.specs.Prelude.{◌⊎◌, not, is_some, option_and_then, option_map, MatchOption}
use Rattle.std.specs.List.{list_any}
use Rattle.std.proofs.lemmas.Bool.{and_parts, cases_Bool, not-true, or_cases, or_parts, true≢false}
use Rattle.clap.specs.Walk.{Row, nothing_held, idle, walk, rows_after}
use Rattle.clap.specs.Words.{App, HasKind, Kinds, fault_of, is_simple, is_simple_and_free, kind_of, matches_of}
use Rattle.clap.specs.Faults.{built_fault, entered_fault, level_fault, walk_fault}
use Rattle.clap.specs.Kinds.{or_else}
use Rattle.clap.specs.Simple.{argument_words, entered, names_of}
use Rattle.clap.specs.declared.error.kind.ErrorKind.TheVariants as kind
use Rattle.clap.specs.declared.error.Error.{Error}
use Rattle.clap.proofs.OnLiterals.{clap_on_literals}
use Rattle.cas_words.specs.Words.{Argument, Text, after_minuses, clock_or, command_in, command_of, folder_in, arguments, has_minus, is_for, is_once, limits_in, option_in, option_of, option_read, text_for, with_argument}
use Rattle.cas_words.specs.Inner.Parser.{is_stray, parser, text_at}
use Rattle.cas_words.specs.declared.words.ClockKind.{ClockKind}
use Rattle.cas_words.specs.declared.words.Command.{Command}
use Rattle.cas_words.specs.declared.words.Setting.{Setting}
use Rattle.cas_words.specs.declared.words.Setting.TheVariants as setting
use Rattle.cas_bind.specs.declared.bound.Limits.{Limits}
use Rattle.cas_words.proofs.ClapRules.{app, built_is, rules, shape}
use Rattle.cas_words.proofs.ClapSteps.{at, end_fault, is_without, last, reads, without_both}
use Rattle.cas_words.proofs.GivenRows.{has, text_at-rows}
use Rattle.cas_words.proofs.WordsAgree.{agree, judged, ours}

-- ---- the parse as a walk

own_words : (words : List Text) → argument_words parser words ≡ words
unfolding parser
own_words words = refl

-- the command has no subcommand
no_level : (words : List Text) (stop : Option (Text × List Text))
    → level_fault shape [] nothing_held words (is_some (entered app stop)) (entered_fault app stop)
    ≡ or_else (walk_fault shape [] (at nothing_held idle 1) words) (end_fault (last (at nothing_held idle 1) words))
no_level words None = refl
no_level words (Some p) = refl

faults_are : (words : List Text) → fault_of parser words ≡ or_else (walk_fault shape [] (at nothing_held idle 1) words) (end_fault (last (at nothing_held idle 1) words))
faults_are words = ap₂ (λ (a : App) (ws : List Text). built_fault a nothing_held ws) built_is (own_words words) ∙ no_level words (walk rules [] nothing_held words).stopped

rows_are : (words : List Text) → matches_of parser words ≡ rows_after rules [] words
rows_are words = ap₂ (λ (a : App) (ws : List Text). rows_after a.top.rules (names_of a) ws) built_is (own_words words)

parse_is : (words : List Text) → cond (is_without (fault_of parser words)) (Some (matches_of parser words)) None ≡ reads (at nothing_held idle 1) words
unfolding reads
parse_is words =
    ap₂ (λ (f : Kinds) (rs : List Row). cond (is_without f) (Some rs) None) (faults_are words) (rows_are words)
    ∙ ap (λ b. cond b (Some (rows_after rules [] words)) None) (without_both (walk_fault shape [] (at nothing_held idle 1) words) (end_fault (last (at nothing_held idle 1) words)))

found : (words : List Text) → list_any is_stray words ≡ false → cond (is_without (fault_of parser words)) (Some (matches_of parser words)) None ≡ ours [] (arguments words None)
found words e = parse_is words ∙ (agree words e).in_turn nothing_held [] refl refl refl

-- ---- the command of what is given

abbrev command_by : Option (List Argument) → Option Command
command_by o = option_and_then (λ gs. cond (is_once gs) (command_in (text_for gs)) None) o

none_for : (s : Setting) (gs : List Argument) → has s gs ≡ false → text_for gs s ≡ None
none_for s [] e = refl
none_for s (g ∷ gs) e =
    let parts = or_parts (is_for s g) (has s gs) e in
    let other : is_for s g ≡ false = parts.0 in
    rw other (none_for s gs parts.1)

needs_folder : (text : Setting → Option Text) → text setting.Folder ≡ None → command_in text ≡ None
needs_folder text none =
    ap (λ o. option_and_then (λ limits. option_and_then (λ clock. option_map (λ folder. record { limits = limits; clock = clock; folder = folder }) (folder_in o)) (clock_or (text setting.Clock))) (limits_in text)) none
    ∙ go (limits_in text) (clock_or (text setting.Clock))
  where
    go : (l : Option Limits) (k : Option ClockKind)
        → option_and_then (λ limits. option_and_then (λ clock. option_map {U = Command} (λ (folder : Text). record { limits = limits; clock = clock; folder = folder }) None) k) l ≡ None
    go None k = refl
    go (Some l) None = refl
    go (Some l) (Some k) = refl

abbrev IsCommandBy : Option Command → Option (List Row) → Type 0
IsCommandBy c o = MatchOption o (c ≡ None) (λ rs. c ≡ command_in (text_at rs))

command_judged : (o : Option (List Argument)) → IsCommandBy (command_by o) (ours [] o)
command_judged None = refl
command_judged (Some gs) = go (cases_Bool (is_once gs)) (cases_Bool (has setting.Folder gs))
  where
    go : (is_once gs ≡ true) ⊎ (is_once gs ≡ false) → (has setting.Folder gs ≡ true) ⊎ (has setting.Folder gs ≡ false) → IsCommandBy (command_by (Some gs)) (judged gs)
    go (inl once) (inl there) = rw (once, there) (ap command_in (λ i. λ s. text_at-rows gs s i))
    go (inl once) (inr none) = rw (once, none) (needs_folder (text_for gs) (none_for setting.Folder gs none))
    go (inr twice) y = rw twice refl

command_is : (words : List Text) (o : Option (List Row)) → list_any is_stray words ≡ false → cond (is_without (fault_of parser words)) (Some (matches_of parser words)) None ≡ o
    → IsCommandBy (command_of words) o
unfolding command_of
command_is words o e is = subst (IsCommandBy (command_by (arguments words None))) (sym (found words e) ∙ is) (command_judged (arguments words None))

-- ---- what the call says

no_kind : (ks : Kinds) (e : Error) → HasKind ks e → kind_of e ≢ kind.OutOfMemory → is_without ks ≡ false
no_kind [] e h other = elim h [
  | inl memory ↦ absurd (other memory)
  | inr none ↦ absurd none
]
no_kind (k ∷ ks) e h other = refl

free : is_simple_and_free parser ≡ true
unfolding clap_on_literals parser
free = refl

simple : is_simple parser ≡ true
unfolding clap_on_literals parser
simple = refl

pub refused_words : (a : App) (words : List Text) (e : Error) → list_any is_stray words ≡ false → a ≡ parser
    → (is_simple_and_free a ≡ true → HasKind (fault_of a words) e) → kind_of e ≢ kind.OutOfMemory → command_of words ≡ None
refused_words a words e none same has_kind other =
    let kinds : HasKind (fault_of parser words) e = subst (λ (b : App). is_simple_and_free b ≡ true → HasKind (fault_of b words) e) same has_kind free in
    command_is words None none (ap (λ b. cond b (Some (matches_of parser words)) None) (no_kind (fault_of parser words) e kinds other))

pub taken_words : (a : App) (words : List Text) (rs : List Row) → list_any is_stray words ≡ false → a ≡ parser
    → (is_simple_and_free a ≡ true → fault_of a words ≡ []) → (is_simple a ≡ true → rs ≡ matches_of a words) → command_of words ≡ command_in (text_at rs)
taken_words a words rs none same no_fault are =
    let good : fault_of parser words ≡ [] = subst (λ (b : App). is_simple_and_free b ≡ true → fault_of b words ≡ []) same no_fault free in
    let rows_of_them : rs ≡ matches_of parser words = subst (λ (b : App). is_simple b ≡ true → rs ≡ matches_of b words) same are simple in
    command_is words (Some rs) none (ap₂ (λ (f : Kinds) (x : List Row). cond (is_without f) (Some x) None) good (sym rows_of_them))

-- ---- a stray word

stray_option : (word : Text) → is_stray word ≡ true → option_of word ≡ None
stray_option word e = ap (option_and_then option_in) (go (after_minuses word) (not-true _ (and_parts (has_minus word) (not (is_some (after_minuses word))) e).1))
  where
    go : (o : Option Text) → is_some o ≡ false → o ≡ None
    go None h = refl
    go (Some t) h = absurd (true≢false h)

stray_first : (word : Text) (words : List Text) → is_stray word ≡ true → (waiting : Option Setting) → arguments (word ∷ words) waiting ≡ None
unfolding arguments
stray_first word words e None =
    let minus : has_minus word ≡ true = (and_parts (has_minus word) (not (is_some (after_minuses word))) e).0 in
    rw minus (ap (λ o. option_read o (arguments words)) (stray_option word e))
stray_first word words e (Some s) =
    let minus : has_minus word ≡ true = (and_parts (has_minus word) (not (is_some (after_minuses word))) e).0 in
    rw minus refl

stray_later : (word : Text) (words : List Text) → ((waiting : Option Setting) → arguments words waiting ≡ None) → (waiting : Option Setting) → arguments (word ∷ words) waiting ≡ None
unfolding arguments
stray_later word words none None = go (has_minus word) (option_of word)
  where
    go : (b : Bool) (o : Option (Setting × Option Text)) → cond b (option_read o (arguments words)) (with_argument (setting.Folder, word) (arguments words None)) ≡ None
    go true None = refl
    go true (Some (s, Some text)) = rw (none None) refl
    go true (Some (s, None)) = none (Some s)
    go false o = rw (none None) refl
stray_later word words none (Some s) = go (has_minus word)
  where
    go : (b : Bool) → cond b None (with_argument (s, word) (arguments words None)) ≡ None
    go true = refl
    go false = rw (none None) refl

stray_given : (words : List Text) → list_any is_stray words ≡ true → (waiting : Option Setting) → arguments words waiting ≡ None
stray_given [] e waiting = absurd (true≢false (sym e))
stray_given (word ∷ words) e waiting = elim (or_cases (is_stray word) (list_any is_stray words) e) [
  | inl first ↦ stray_first word words first waiting
  | inr later ↦ stray_later word words (stray_given words later) waiting
]

pub stray_words : (words : List Text) → list_any is_stray words ≡ true → command_of words ≡ None
unfolding command_of
stray_words words e = ap command_by (stray_given words e None)

pub none_found : {X : Type 0} (o : Option X) (P : Type 0) (Q : X → Type 0) → o ≡ None → P → MatchOption o P Q
none_found None P Q e p = p
none_found (Some x) P Q e p = absurd (true≢false (ap is_some e))

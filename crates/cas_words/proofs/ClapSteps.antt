-- What clap makes of a use of a setting, and of a word.
use Rattle.std.proofs.Common.{◌≡◌, ◌∙◌, ap, ap₂, refl, ℕ, Bool, cond, true, false, List, [], ◌∷◌, Option, Some, None}
use Rattle.std.specs.Prelude.{◌||◌, ◌&&◌, not, option_map, fold, nat_lt}
use Rattle.std.specs.List.{after_first, before_first, list_any}
use Rattle.std.specs.Option.{option_map_or}
use Rattle.std.specs.Str.{bytes_eq}
use Rattle.std.proofs.lemmas.Cmp.{nat_list_eq_equiv}
use Rattle.clap.specs.Walk.{after_flag, default_rows, is_empty, reading_by, after_step, is_pending, long_met, option_word, pushed, to_positional, Held, Row, Step, Waiting, Walk, arg_by_long, finished, has_row, idle, option, settled, settled_rows, subcommand_met, plain_word, used, used_by_id, walked, with_default, word_met}
use Rattle.clap.specs.Faults.{check_fault, default_fault, defaults_fault, given_default_fault, long_fault, positional_fault, settle_fault, step_fault, stray_fault, turn_fault, use_fault, walk_fault, word_fault}
use Rattle.clap.specs.Lexer.{long_of, short_of}
use Rattle.clap.specs.Takes.{is_given}
use Rattle.clap.specs.Kinds.{Kinds, check_kinds, or_else}
use Rattle.clap.specs.Words.{Rule}
use Rattle.clap.specs.declared.error.kind.ErrorKind.TheVariants as kind
use Rattle.cas_words.specs.Words.{Text, has_minus, is_equals, name, setting_named}
use Rattle.cas_words.specs.declared.words.Setting.{Setting}
use Rattle.cas_words.specs.declared.words.Setting.TheVariants as setting
use Rattle.cas_words.proofs.ClapRules.{by_first_place, by_id, by_long, by_second_place, rule, rules, shape}

abbrev pub is_without : Kinds → Bool
is_without [] = true
is_without (k ∷ ks) = false

pub without_both : (a b : Kinds) → is_without (or_else a b) ≡ (is_without a && is_without b)
without_both [] b = refl
without_both (k ∷ ks) b = refl

without_more : (a : Kinds) → is_without (or_else a []) ≡ is_without a
without_more [] = refl
without_more (k ∷ ks) = refl

without_use : (a b : Kinds) → is_without (or_else (or_else a b) []) ≡ (is_without a && is_without b)
without_use a b = without_more (or_else a b) ∙ without_both a b

-- a use of a setting with its text is refused where it has one already
pub use_without : (s : Setting) (text : Text) (rs : List Row) → is_without (use_fault false (rule s) (text ∷ []) rs) ≡ not (has_row (name s) rs)
use_without s text rs = go (has_row (name s) rs)
  where
    go : (b : Bool) → is_without (or_else (cond (b && true) (kind.ArgumentConflict ∷ []) []) []) ≡ not b
    go true = refl
    go false = refl

abbrev pub held : List Row → Option (Text × List Text) → ℕ → Held
held rs pending skip = record { rows = rs; pending = pending; skip = skip }

pub settled_without : (s : Setting) (text : Text) (rs : List Row) (skip : ℕ)
    → is_without (settle_fault rules false (held rs (Some (name s, text ∷ [])) skip)) ≡ not (has_row (name s) rs)
settled_without s text rs skip =
    ap (λ (o : Option Rule). is_without (option_map_or (λ a. use_fault false a (text ∷ []) rs) o [])) (by_id s) ∙ use_without s text rs

pub settled_is : (s : Setting) (text : Text) (rs : List Row) → settled_rows rules (Some (name s, text ∷ [])) rs ≡ used (rule s) (text ∷ []) rs
settled_is s text rs = ap (λ (o : Option Rule). used_by_id o (text ∷ []) rs) (by_id s)

-- an option without its text is refused
pub empty_refused : (s : Setting) (rs : List Row) (skip : ℕ) → is_without (settle_fault rules false (held rs (Some (name s, [])) skip)) ≡ false
empty_refused s rs skip = ap (λ (o : Option Rule). is_without (option_map_or (λ a. use_fault false a [] rs) o [])) (by_id s)

-- ---- what a word is

plain_no_long : (word : Text) → has_minus word ≡ false → long_of word ≡ None
plain_no_long [] h = refl
plain_no_long (b ∷ bs) h = rw h refl

plain_no_short : (word : Text) → has_minus word ≡ false → short_of word ≡ None
plain_no_short [] h = refl
plain_no_short (b ∷ bs) h = rw h refl

plain_no_end : (word : Text) → has_minus word ≡ false → bytes_eq word (45 ∷ 45 ∷ []) ≡ false
plain_no_end [] h = refl
plain_no_end (b ∷ bs) h = rw h refl

module _ (waiting : Waiting) (n : ℕ) (h : Held) where
  plain_met : (word : Text) → subcommand_met [] waiting word ≡ None → has_minus word ≡ false → word_met rules [] false waiting n word h ≡ plain_word rules waiting word h
  plain_met word leaf minus =
      let end = plain_no_end word minus in
      let long = plain_no_long word minus in
      let short = plain_no_short word minus in
      rw (leaf, end, long, short) refl

  plain_fault : (word : Text) → subcommand_met [] waiting word ≡ None → has_minus word ≡ false → word_fault shape [] false waiting word h ≡ []
  plain_fault word leaf minus =
      let end = plain_no_end word minus in
      let long = plain_no_long word minus in
      let short = plain_no_short word minus in
      rw (leaf, end, long, short) refl

-- ---- a turn of the walk

abbrev pub at : Held → Waiting → ℕ → Walk
at h waiting n = record { held = h; waiting = waiting; position = n; is_trailing = false; stopped = None }

abbrev pub turn : Held → Waiting → ℕ → Text → Kinds
turn h waiting n word = turn_fault shape [] (at h waiting n) word

abbrev pub after : Held → Waiting → ℕ → Text → Walk
after h waiting n word = walked rules [] (at h waiting n) word

never : {X : Type 0} (b : Bool) (x y : X) → cond (b && false) x y ≡ y
never true x y = refl
never false x y = refl

-- a word without a minus where FOLDER wasn't yet
pub first_plain_turn : (h : Held) (word : Text) → has_minus word ≡ false → turn h idle 1 word ≡ settle_fault rules false h
first_plain_turn h word minus =
    ap₂ (λ (f : Kinds) (m : Held × Step). or_else f (step_fault shape 1 m.0 m.1)) (plain_fault idle 1 h word refl minus) (plain_met idle 1 h word refl minus)
    ∙ ap (λ (o : Option Rule). option_map_or (λ a. positional_fault rules false a h) o (stray_fault shape)) by_first_place
    ∙ never (is_pending (rule setting.Folder) h.pending) [] (settle_fault rules false h)

pub first_plain_after : (h : Held) (word : Text) → has_minus word ≡ false
    → after h idle 1 word ≡ at (held (settled rules h).rows (Some (name setting.Folder, word ∷ [])) h.skip) idle 2
unfolding walked
first_plain_after h word minus =
    ap (λ (m : Held × Step). after_step rules word (at h idle 1) m.0 m.1) (plain_met idle 1 h word refl minus)
    ∙ ap (λ (o : Option Rule). to_positional rules o word (at h idle 1) h) by_first_place
    ∙ ap (λ (g : Held). at (pushed (name setting.Folder) word g) idle 2) (never (is_pending (rule setting.Folder) h.pending) h (settled rules h))

-- and where it was
pub second_plain_turn : (h : Held) (word : Text) → has_minus word ≡ false → is_without (turn h idle 2 word) ≡ false
second_plain_turn h word minus =
    ap₂ (λ (f : Kinds) (m : Held × Step). is_without (or_else f (step_fault shape 2 m.0 m.1))) (plain_fault idle 2 h word refl minus) (plain_met idle 2 h word refl minus)
    ∙ ap (λ (o : Option Rule). is_without (option_map_or (λ a. positional_fault rules false a h) o (stray_fault shape))) by_second_place

-- the text of the option before it
pub value_turn : (s : Setting) (h : Held) (n : ℕ) (word : Text) → has_minus word ≡ false → turn h (option (name s)) n word ≡ []
value_turn s h n word minus =
    ap₂ (λ (f : Kinds) (m : Held × Step). or_else f (step_fault shape n m.0 m.1)) (plain_fault (option (name s)) n h word refl minus) (plain_met (option (name s)) n h word refl minus)

pub value_after : (s : Setting) (rs : List Row) (skip n : ℕ) (word : Text) → has_minus word ≡ false
    → after (held rs (Some (name s, [])) skip) (option (name s)) n word ≡ at (held rs (Some (name s, word ∷ [])) skip) idle n
unfolding walked
value_after s rs skip n word minus =
    let h = held rs (Some (name s, [])) skip in
    let w = at h (option (name s)) n in
    ap (λ (m : Held × Step). after_step rules word w m.0 m.1) (plain_met (option (name s)) n h word refl minus)
    ∙ ap (λ (o : Option Rule). record w { held = (option_word o (name s) word h).0; waiting = (option_word o (name s) word h).1 }) (by_id s)
    ∙ ap (λ (b : Bool). at (held rs (Some (name s, word ∷ [])) skip) (cond (nat_lt (cond b 1 0) 1) (option (name s)) idle) n) (nat_list_eq_equiv.refl (name s))

-- `--NAME` and `--NAME=TEXT`
abbrev pub name_in : Text → Text
name_in rest = before_first is_equals rest

abbrev pub text_in : Text → Option Text
text_in rest = cond (list_any is_equals rest) (Some (after_first is_equals rest)) None

module _ (waiting : Waiting) (h : Held) (n : ℕ) (c : ℕ) (cs : Text) where
  abbrev word : Text
  word = 45 ∷ 45 ∷ c ∷ cs

  abbrev met_by : Option Rule → Option Text → Held × Step
  met_by o v = after_flag rules waiting word (long_met rules o v h).0 (long_met rules o v h).1

  abbrev fault_by : Option Rule → Option Text → Kinds
  fault_by o v = or_else (long_fault rules false o v h) (step_fault shape n (met_by o v).0 (met_by o v).1)

  long_turn : (o : Option Rule) (v : Option Text) → subcommand_met [] waiting word ≡ None → arg_by_long rules (name_in (c ∷ cs)) ≡ o → text_in (c ∷ cs) ≡ v
      → turn h waiting n word ≡ fault_by o v
  long_turn o v leaf found text = rw leaf (ap₂ fault_by found text)

  long_after : (o : Option Rule) (v : Option Text) → subcommand_met [] waiting word ≡ None → arg_by_long rules (name_in (c ∷ cs)) ≡ o → text_in (c ∷ cs) ≡ v
      → after h waiting n word ≡ after_step rules word (at h waiting n) (met_by o v).0 (met_by o v).1
  unfolding walked
  long_after o v leaf found text =
      rw leaf (ap₂ (λ (o : Option Rule) (v : Option Text). after_step rules word (at h waiting n) (met_by o v).0 (met_by o v).1) found text)

  module _ (leaf : subcommand_met [] waiting word ≡ None) where
    pub unknown_turn : setting_named (name_in (c ∷ cs)) ≡ None → is_without (turn h waiting n word) ≡ false
    unknown_turn none = ap is_without (long_turn None (text_in (c ∷ cs)) leaf (by_long (name_in (c ∷ cs)) ∙ ap (option_map rule) none) refl)

    pub text_turn : (s : Setting) (text : Text) → setting_named (name_in (c ∷ cs)) ≡ Some s → text_in (c ∷ cs) ≡ Some text
        → is_without (turn h waiting n word) ≡ (is_without (settle_fault rules false h) && not (has_row (name s) (settled rules h).rows))
    text_turn s text named given =
        ap is_without (long_turn (Some (rule s)) (Some text) leaf (by_long (name_in (c ∷ cs)) ∙ ap (option_map rule) named) given)
        ∙ without_use (settle_fault rules false h) (use_fault false (rule s) (text ∷ []) (settled rules h).rows)
        ∙ ap (λ b. is_without (settle_fault rules false h) && b) (use_without s text (settled rules h).rows)

    pub text_after : (s : Setting) (text : Text) → setting_named (name_in (c ∷ cs)) ≡ Some s → text_in (c ∷ cs) ≡ Some text
        → after h waiting n word ≡ at (held (used (rule s) (text ∷ []) (settled rules h).rows) None h.skip) idle n
    text_after s text named given = long_after (Some (rule s)) (Some text) leaf (by_long (name_in (c ∷ cs)) ∙ ap (option_map rule) named) given

    pub bare_turn : (s : Setting) → setting_named (name_in (c ∷ cs)) ≡ Some s → text_in (c ∷ cs) ≡ None
        → is_without (turn h waiting n word) ≡ is_without (settle_fault rules false h)
    bare_turn s named given =
        ap is_without (long_turn (Some (rule s)) None leaf (by_long (name_in (c ∷ cs)) ∙ ap (option_map rule) named) given)
        ∙ without_more (settle_fault rules false h)

    pub bare_after : (s : Setting) → setting_named (name_in (c ∷ cs)) ≡ Some s → text_in (c ∷ cs) ≡ None
        → after h waiting n word ≡ at (held (settled rules h).rows (Some (name s, [])) h.skip) (option (name s)) n
    bare_after s named given = long_after (Some (rule s)) None leaf (by_long (name_in (c ∷ cs)) ∙ ap (option_map rule) named) given

-- ---- the end of the walk

abbrev HasNoDefaults : List Rule → Type 0
HasNoDefaults [] = Unit {0}
HasNoDefaults (a ∷ more) = (a.defaults ≡ []) × HasNoDefaults more

no_default : (a : Rule) (rs : List Row) → a.defaults ≡ [] → with_default rs a ≡ rs
no_default a rs none = ap (λ (ds : List Text). cond (has_row a.id rs) rs (default_rows a.id (reading_by a) ds rs)) none ∙ both (has_row a.id rs)
  where
    both : (b : Bool) → cond b rs rs ≡ rs
    both true = refl
    both false = refl

no_default_fault : (a : Rule) (rs : List Row) → a.defaults ≡ [] → default_fault rs a ≡ []
no_default_fault a rs none = ap (λ (ds : List Text). cond (has_row a.id rs || is_empty ds) [] (given_default_fault a ds)) none ∙ both (has_row a.id rs)
  where
    both : (b : Bool) → cond (b || true) [] (given_default_fault a []) ≡ []
    both true = refl
    both false = refl

no_defaults : (list : List Rule) (rs : List Row) → HasNoDefaults list → fold with_default rs list ≡ rs
no_defaults [] rs none = refl
no_defaults (a ∷ more) rs none = ap (λ xs. fold with_default xs more) (no_default a rs none.0) ∙ no_defaults more rs none.1

no_defaults_fault : (list : List Rule) (rs : List Row) → HasNoDefaults list → defaults_fault rs list ≡ []
unfolding defaults_fault
no_defaults_fault [] rs none = refl
no_defaults_fault (a ∷ more) rs none =
    ap (λ f. or_else f (defaults_fault (with_default rs a) more)) (no_default_fault a rs none.0)
    ∙ ap (λ xs. defaults_fault xs more) (no_default a rs none.0) ∙ no_defaults_fault more rs none.1

rules_have_none : HasNoDefaults rules
unfolding rules
rules_have_none = (refl, (refl, (refl, (refl, (refl, (refl, tt))))))

pub finished_is : (h : Held) → finished rules h ≡ (settled rules h).rows
finished_is h = no_defaults rules (settled rules h).rows rules_have_none

check_without : (rs : List Row) → is_without (check_fault shape rs false) ≡ is_given (name setting.Folder) rs
unfolding rules
check_without rs = go (is_given (name setting.Folder) rs)
  where
    go : (b : Bool) → is_without (check_kinds false false (not b || false)) ≡ b
    go true = refl
    go false = refl

abbrev pub end_fault : Held → Kinds
end_fault h = or_else (settle_fault rules false h) (or_else (defaults_fault (settled rules h).rows rules) (check_fault shape (finished rules h) false))

pub end_without : (h : Held) → is_without (end_fault h) ≡ (is_without (settle_fault rules false h) && is_given (name setting.Folder) (settled rules h).rows)
end_without h =
    without_both (settle_fault rules false h) _
    ∙ ap (λ f. is_without (settle_fault rules false h) && is_without (or_else f (check_fault shape (finished rules h) false))) (no_defaults_fault rules (settled rules h).rows rules_have_none)
    ∙ ap (λ b. is_without (settle_fault rules false h) && b) (check_without (finished rules h) ∙ ap (is_given (name setting.Folder)) (finished_is h))

-- ---- the whole walk: the rows at its end, where nothing is refused

abbrev pub last : Walk → List Text → Held
last w words = (fold (walked rules []) w words).held

unfoldable pub reads : Walk → List Text → Option (List Row)
reads w words = cond (is_without (walk_fault shape [] w words) && is_without (end_fault (last w words))) (Some (finished rules (last w words))) None

pub reads_more : (w : Walk) (word : Text) (words : List Text)
    → reads w (word ∷ words) ≡ cond (is_without (turn_fault shape [] w word)) (reads (walked rules [] w word) words) None
unfolding reads walk_fault
reads_more w word words =
    let end = is_without (end_fault (last (walked rules [] w word) words)) in
    let found : Option (List Row) = Some (finished rules (last (walked rules [] w word) words)) in
    ap (λ b. cond (b && end) found None) (without_both (turn_fault shape [] w word) (walk_fault shape [] (walked rules [] w word) words))
    ∙ go (is_without (turn_fault shape [] w word)) (is_without (walk_fault shape [] (walked rules [] w word) words)) end found
  where
    go : (a b e : Bool) (found : Option (List Row)) → cond ((a && b) && e) found None ≡ cond a (cond (b && e) found None) None
    go true b e found = refl
    go false b e found = refl

pub reads_end : (h : Held) (waiting : Waiting) (n : ℕ)
    → reads (at h waiting n) [] ≡ cond (is_without (settle_fault rules false h) && is_given (name setting.Folder) (settled rules h).rows) (Some (settled rules h).rows) None
unfolding reads walk_fault
reads_end h waiting n = ap₂ (λ b rs. cond b (Some rs) None) (end_without h) (finished_is h)

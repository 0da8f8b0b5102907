-- What clap finds in the words is what is given in them.
use Rattle.std.proofs.Common.{◌≡◌, ◌∙◌, ap, ap₂, sym, subst, refl, ℕ, Bool, cond, true, false, List, [], ◌∷◌, ◌++◌, Option, Some, None, append-nil, append_assoc, inl, inr, eqb-true}
use Rattle.std.specs.Prelude.{◌||◌, ◌&&◌, ◌==◌, ◌⊎◌, not, option_map, option_and_then}
use Rattle.std.specs.List.{list_any}
use Rattle.std.specs.Option.{option_map_or}
use Rattle.std.specs.Str.{bytes_eq}
use Rattle.std.proofs.lemmas.Bool.{and_left, cases_Bool, or_parts, or_right, true≢false}
use Rattle.clap.specs.Walk.{Held, Row, Waiting, Walk, has_row, idle, option, settled, subcommand_met, used, walked}
use Rattle.clap.specs.Faults.{settle_fault, turn_fault}
use Rattle.clap.specs.Takes.{is_given}
use Rattle.cas_words.specs.Words.{Argument, Text, arguments, has_minus, is_for, is_once, name, setting_named, option_read, with_argument}
use Rattle.cas_words.specs.Inner.Parser.{is_stray}
use Rattle.cas_words.specs.declared.words.Setting.{Setting}
use Rattle.cas_words.specs.declared.words.Setting.TheVariants as setting
use Rattle.cas_words.proofs.ClapRules.{rule, rules, shape}
use Rattle.cas_words.proofs.ClapSteps.{at, bare_after, bare_turn, empty_refused, first_plain_after, first_plain_turn, held, is_without, name_in, reads, reads_end, reads_more, second_plain_turn, settled_is, settled_without, text_after, text_in, text_turn, turn, unknown_turn, value_after, value_turn}
use Rattle.cas_words.proofs.GivenRows.{given_once, given_twice, has, has_more, has_row-rows, is_given-rows, rows, used-rows}

-- the rows of what is given, where nothing is twice and FOLDER is there
abbrev pub judged : List Argument → Option (List Row)
judged gs = cond (is_once gs && has setting.Folder gs) (Some (rows gs)) None

abbrev pub ours : List Argument → Option (List Argument) → Option (List Row)
ours seen more = option_and_then (λ gs. judged (seen ++ gs)) more

ours_with : (seen : List Argument) (g : Argument) (o : Option (List Argument)) → ours seen (with_argument g o) ≡ ours (seen ++ g ∷ []) o
ours_with seen g None = refl
ours_with seen g (Some gs) = ap judged (sym (append_assoc seen (g ∷ []) gs))

ours_twice : (seen : List Argument) (g : Argument) (o : Option (List Argument)) → has g.0 seen ≡ true → ours seen (with_argument g o) ≡ None
ours_twice seen g None twice = refl
ours_twice seen g (Some gs) twice = rw (given_twice g seen gs twice) refl

-- ---- a word has no minus, or is `--NAME`

abbrev IsLong : Text → Type 0
IsLong word = (c : ℕ) × (cs : Text) × (word ≡ 45 ∷ 45 ∷ c ∷ cs)

word_forms : (word : Text) → is_stray word ≡ false → (has_minus word ≡ false) ⊎ IsLong word
word_forms [] e = inl refl
word_forms (a ∷ []) e = inl (go (a == 45) e)
  where
    go : (x : Bool) → (x && true) ≡ false → x ≡ false
    go true h = h
    go false h = refl
word_forms (a ∷ b ∷ []) e = inl (go (a == 45) e)
  where
    go : (x : Bool) → (x && true) ≡ false → x ≡ false
    go true h = h
    go false h = refl
word_forms (a ∷ b ∷ c ∷ cs) e = go (cases_Bool (a == 45)) (cases_Bool (b == 45))
  where
    go : ((a == 45) ≡ true) ⊎ ((a == 45) ≡ false) → ((b == 45) ≡ true) ⊎ ((b == 45) ≡ false) → ((a == 45) ≡ false) ⊎ IsLong (a ∷ b ∷ c ∷ cs)
    go (inr x) y = inl x
    go (inl x) (inl y) = inr (c, cs, ap₂ (λ (p q : ℕ). p ∷ q ∷ c ∷ cs) (eqb-true a 45 x) (eqb-true b 45 y))
    go (inl x) (inr y) = absurd (true≢false (rw (x, y) at e))

-- ---- an option that waits, or a text that is refused, leads to nothing

nothing : (w : Walk) (word : Text) (words : List Text) → is_without (turn_fault shape [] w word) ≡ false → reads w (word ∷ words) ≡ None
nothing w word words bad = reads_more w word words ∙ ap (λ b. cond b (reads (walked rules [] w word) words) None) bad

goes : (w : Walk) (word : Text) (words : List Text) → is_without (turn_fault shape [] w word) ≡ true → reads w (word ∷ words) ≡ reads (walked rules [] w word) words
goes w word words good = reads_more w word words ∙ ap (λ b. cond b (reads (walked rules [] w word) words) None) good

long_refused : (waiting : Waiting) (h : Held) (n c : ℕ) (cs : Text) → subcommand_met [] waiting (45 ∷ 45 ∷ c ∷ cs) ≡ None → is_without (settle_fault rules false h) ≡ false
    → is_without (turn h waiting n (45 ∷ 45 ∷ c ∷ cs)) ≡ false
long_refused waiting h n c cs leaf bad = go (setting_named (name_in (c ∷ cs))) (text_in (c ∷ cs)) refl refl
  where
    go : (o : Option Setting) (v : Option Text) → setting_named (name_in (c ∷ cs)) ≡ o → text_in (c ∷ cs) ≡ v → is_without (turn h waiting n (45 ∷ 45 ∷ c ∷ cs)) ≡ false
    go None v e f = unknown_turn waiting h n c cs leaf e
    go (Some s) (Some text) e f = text_turn waiting h n c cs leaf s text e f ∙ and_left _ _ bad
    go (Some s) None e f = bare_turn waiting h n c cs leaf s e f ∙ bad

-- whether FOLDER was there shows in the place
abbrev place_after : Bool → ℕ
place_after there = cond there 2 1

plain_refused : (h : Held) (there : Bool) (word : Text) → has_minus word ≡ false → is_without (settle_fault rules false h) ≡ false → is_without (turn h idle (place_after there) word) ≡ false
plain_refused h true word minus bad = second_plain_turn h word minus
plain_refused h false word minus bad = ap is_without (first_plain_turn h word minus) ∙ bad

refused_there : (h : Held) (there : Bool) (words : List Text) → list_any is_stray words ≡ false → is_without (settle_fault rules false h) ≡ false → reads (at h idle (place_after there)) words ≡ None
refused_there h there [] e bad = reads_end h idle (place_after there) ∙ ap (λ b. cond (b && is_given (name setting.Folder) (settled rules h).rows) (Some (settled rules h).rows) None) bad
refused_there h there (word ∷ words) e bad = nothing (at h idle (place_after there)) word words
    (elim (word_forms word (or_parts _ _ e).0) [
      | inl minus ↦ plain_refused h there word minus bad
      | inr long ↦ subst (λ (x : Text). is_without (turn h idle (place_after there) x) ≡ false) (sym long.2) (long_refused idle h (place_after there) long.0 long.1 refl bad)
    ])

-- ---- the agreement

abbrev place : List Argument → ℕ
place seen = place_after (has setting.Folder seen)

pub record Agree (words : List Text) : Type 0 where
  pub in_turn : (h : Held) (seen : List Argument) → is_without (settle_fault rules false h) ≡ true → (settled rules h).rows ≡ rows seen → is_once seen ≡ true
      → reads (at h idle (place seen)) words ≡ ours seen (arguments words None)
  pub waiting : (s : Setting) (rs : List Row) (skip : ℕ) (seen : List Argument) → rs ≡ rows seen → is_for setting.Folder (s, []) ≡ false → is_once seen ≡ true
      → reads (at (held rs (Some (name s, [])) skip) (option (name s)) (place seen)) words ≡ ours seen (arguments words (Some s))

-- a text was just given, and isn't yet a row
given_on : (words : List Text) → list_any is_stray words ≡ false → Agree words → (s : Setting) (text : Text) (rs : List Row) (skip : ℕ) (seen : List Argument) → rs ≡ rows seen → is_once seen ≡ true
    → reads (at (held rs (Some (name s, text ∷ [])) skip) idle (place (seen ++ (s, text) ∷ []))) words ≡ ours seen (with_argument (s, text) (arguments words None))
given_on words e agree s text rs skip seen are once = elim (cases_Bool (has s seen)) [
  | inl twice ↦ refused_there h (has setting.Folder (seen ++ (s, text) ∷ [])) words e (settled_without s text rs skip ∙ ap not (had ∙ twice)) ∙ sym (ours_twice seen (s, text) (arguments words None) twice)
  | inr first ↦ agree.in_turn h (seen ++ (s, text) ∷ []) (settled_without s text rs skip ∙ ap not (had ∙ first)) (settled_is s text rs ∙ ap (used (rule s) (text ∷ [])) are ∙ used-rows s text seen first) (given_once (s, text) seen once first)
      ∙ sym (ours_with seen (s, text) (arguments words None))
]
  where
    h : Held
    h = held rs (Some (name s, text ∷ [])) skip

    had : has_row (name s) rs ≡ has s seen
    had = ap (has_row (name s)) are ∙ has_row-rows s seen

-- an option isn't FOLDER
named_is_option : (text : Text) (s : Setting) → setting_named text ≡ Some s → is_for setting.Folder (s, []) ≡ false
named_is_option text s named =
    let is = λ (x : Setting). bytes_eq (name x) text in
    sym (ap (λ (o : Option Setting). option_map_or (λ x. is_for setting.Folder (x, [])) o false) named)
    ∙ no_folder (is setting.Shards) (is setting.Segment) (is setting.Memtable) (is setting.Compactors) (is setting.Clock)
  where
    no_folder : (a b c d e : Bool) → option_map_or (λ x. is_for setting.Folder (x, []))
        (cond a (Some setting.Shards) (cond b (Some setting.Segment) (cond c (Some setting.Memtable) (cond d (Some setting.Compactors) (cond e (Some setting.Clock) None))))) false ≡ false
    no_folder true b c d e = refl
    no_folder false true c d e = refl
    no_folder false false true d e = refl
    no_folder false false false true e = refl
    no_folder false false false false true = refl
    no_folder false false false false false = refl

same_place : (seen : List Argument) (s : Setting) (text : Text) → is_for setting.Folder (s, []) ≡ false → place seen ≡ place (seen ++ (s, text) ∷ [])
same_place seen s text other = ap place_after (sym (has_more setting.Folder seen (s, text) ∙ ap (λ b. has setting.Folder seen || (b || false)) other ∙ go (has setting.Folder seen)))
  where
    go : (b : Bool) → (b || false) ≡ b
    go true = refl
    go false = refl

folder_place : (seen : List Argument) (text : Text) → 2 ≡ place (seen ++ (setting.Folder, text) ∷ [])
folder_place seen text = ap place_after (sym (has_more setting.Folder seen (setting.Folder, text) ∙ or_right (has setting.Folder seen) true refl))

given_plain : (word : Text) (words : List Text) → has_minus word ≡ false → arguments (word ∷ words) None ≡ with_argument (setting.Folder, word) (arguments words None)
unfolding arguments
given_plain word words minus = rw minus refl

given_value : (s : Setting) (word : Text) (words : List Text) → has_minus word ≡ false → arguments (word ∷ words) (Some s) ≡ with_argument (s, word) (arguments words None)
unfolding arguments
given_value s word words minus = rw minus refl

given_long : (c : ℕ) (cs : Text) (words : List Text) (o : Option Setting) (v : Option Text) → setting_named (name_in (c ∷ cs)) ≡ o → text_in (c ∷ cs) ≡ v
    → arguments ((45 ∷ 45 ∷ c ∷ cs) ∷ words) None ≡ option_read (option_map (λ s. (s, v)) o) (arguments words)
unfolding arguments
given_long c cs words o v named text = ap₂ (λ (o : Option Setting) (v : Option Text). option_read (option_map (λ s. (s, v)) o) (arguments words)) named text

given_no_value : (s : Setting) (c : ℕ) (cs : Text) (words : List Text) → arguments ((45 ∷ 45 ∷ c ∷ cs) ∷ words) (Some s) ≡ None
unfolding arguments
given_no_value s c cs words = refl

given_end : arguments [] None ≡ Some []
unfolding arguments
given_end = refl

given_no_end : (s : Setting) → arguments [] (Some s) ≡ None
unfolding arguments
given_no_end s = refl

module _ (words : List Text) (e : list_any is_stray words ≡ false) (agree : Agree words) where
  plain_in_turn : (h : Held) (seen : List Argument) → is_without (settle_fault rules false h) ≡ true → (settled rules h).rows ≡ rows seen → is_once seen ≡ true
      → (word : Text) → has_minus word ≡ false → reads (at h idle (place seen)) (word ∷ words) ≡ ours seen (arguments (word ∷ words) None)
  plain_in_turn h seen good are once word minus = go (cases_Bool (has setting.Folder seen)) ∙ ap (ours seen) (sym (given_plain word words minus))
    where
      go : (has setting.Folder seen ≡ true) ⊎ (has setting.Folder seen ≡ false)
          → reads (at h idle (place seen)) (word ∷ words) ≡ ours seen (with_argument (setting.Folder, word) (arguments words None))
      go (inl there) =
          ap (λ b. reads (at h idle (place_after b)) (word ∷ words)) there ∙ nothing (at h idle 2) word words (second_plain_turn h word minus)
          ∙ sym (ours_twice seen (setting.Folder, word) (arguments words None) there)
      go (inr new) =
          ap (λ b. reads (at h idle (place_after b)) (word ∷ words)) new ∙ goes (at h idle 1) word words (ap is_without (first_plain_turn h word minus) ∙ good)
          ∙ ap (λ w. reads w words) (first_plain_after h word minus)
          ∙ ap (λ n. reads (at (held (settled rules h).rows (Some (name setting.Folder, word ∷ [])) h.skip) idle n) words) (folder_place seen word)
          ∙ given_on words e agree setting.Folder word (settled rules h).rows h.skip seen are once

  text_in_turn : (h : Held) (seen : List Argument) → is_without (settle_fault rules false h) ≡ true → (settled rules h).rows ≡ rows seen → is_once seen ≡ true
      → (c : ℕ) (cs : Text) (s : Setting) (text : Text) → setting_named (name_in (c ∷ cs)) ≡ Some s → text_in (c ∷ cs) ≡ Some text
      → reads (at h idle (place seen)) ((45 ∷ 45 ∷ c ∷ cs) ∷ words) ≡ ours seen (with_argument (s, text) (arguments words None))
  text_in_turn h seen good are once c cs s text named is_text = go (cases_Bool (has s seen))
    where
      met : is_without (turn h idle (place seen) (45 ∷ 45 ∷ c ∷ cs)) ≡ not (has s seen)
      met = text_turn idle h (place seen) c cs refl s text named is_text
          ∙ ap₂ (λ b o. b && not o) good (ap (has_row (name s)) are ∙ has_row-rows s seen)

      go : (has s seen ≡ true) ⊎ (has s seen ≡ false) → reads (at h idle (place seen)) ((45 ∷ 45 ∷ c ∷ cs) ∷ words) ≡ ours seen (with_argument (s, text) (arguments words None))
      go (inl twice) = nothing (at h idle (place seen)) (45 ∷ 45 ∷ c ∷ cs) words (met ∙ ap not twice) ∙ sym (ours_twice seen (s, text) (arguments words None) twice)
      go (inr first) =
          goes (at h idle (place seen)) (45 ∷ 45 ∷ c ∷ cs) words (met ∙ ap not first)
          ∙ ap (λ w. reads w words) (text_after idle h (place seen) c cs refl s text named is_text)
          ∙ ap (λ n. reads (at (held (used (rule s) (text ∷ []) (settled rules h).rows) None h.skip) idle n) words) (same_place seen s text (named_is_option (name_in (c ∷ cs)) s named))
          ∙ agree.in_turn (held (used (rule s) (text ∷ []) (settled rules h).rows) None h.skip) (seen ++ (s, text) ∷ []) refl
          (ap (used (rule s) (text ∷ [])) are ∙ used-rows s text seen first) (given_once (s, text) seen once first)
          ∙ sym (ours_with seen (s, text) (arguments words None))

  long_in_turn : (h : Held) (seen : List Argument) → is_without (settle_fault rules false h) ≡ true → (settled rules h).rows ≡ rows seen → is_once seen ≡ true
      → (c : ℕ) (cs : Text) → reads (at h idle (place seen)) ((45 ∷ 45 ∷ c ∷ cs) ∷ words) ≡ ours seen (arguments ((45 ∷ 45 ∷ c ∷ cs) ∷ words) None)
  long_in_turn h seen good are once c cs = go (setting_named (name_in (c ∷ cs))) (text_in (c ∷ cs)) refl refl
    where
      go : (o : Option Setting) (v : Option Text) → setting_named (name_in (c ∷ cs)) ≡ o → text_in (c ∷ cs) ≡ v
          → reads (at h idle (place seen)) ((45 ∷ 45 ∷ c ∷ cs) ∷ words) ≡ ours seen (arguments ((45 ∷ 45 ∷ c ∷ cs) ∷ words) None)
      go None v named is_text =
          nothing (at h idle (place seen)) (45 ∷ 45 ∷ c ∷ cs) words (unknown_turn idle h (place seen) c cs refl named)
          ∙ ap (ours seen) (sym (given_long c cs words None v named is_text))
      go (Some s) (Some text) named is_text =
          text_in_turn h seen good are once c cs s text named is_text ∙ ap (ours seen) (sym (given_long c cs words (Some s) (Some text) named is_text))
      go (Some s) None named is_text =
          goes (at h idle (place seen)) (45 ∷ 45 ∷ c ∷ cs) words (bare_turn idle h (place seen) c cs refl s named is_text ∙ good)
          ∙ ap (λ w. reads w words) (bare_after idle h (place seen) c cs refl s named is_text)
          ∙ agree.waiting s (settled rules h).rows h.skip seen are (named_is_option (name_in (c ∷ cs)) s named) once
          ∙ ap (ours seen) (sym (given_long c cs words (Some s) None named is_text))

  plain_waiting : (s : Setting) (rs : List Row) (skip : ℕ) (seen : List Argument) → rs ≡ rows seen → is_for setting.Folder (s, []) ≡ false → is_once seen ≡ true
      → (word : Text) → has_minus word ≡ false → reads (at (held rs (Some (name s, [])) skip) (option (name s)) (place seen)) (word ∷ words) ≡ ours seen (arguments (word ∷ words) (Some s))
  plain_waiting s rs skip seen are other once word minus =
      goes (at (held rs (Some (name s, [])) skip) (option (name s)) (place seen)) word words (ap is_without (value_turn s (held rs (Some (name s, [])) skip) (place seen) word minus))
      ∙ ap (λ w. reads w words) (value_after s rs skip (place seen) word minus)
      ∙ ap (λ n. reads (at (held rs (Some (name s, word ∷ [])) skip) idle n) words) (same_place seen s word other)
      ∙ given_on words e agree s word rs skip seen are once
      ∙ ap (ours seen) (sym (given_value s word words minus))

  long_waiting : (s : Setting) (rs : List Row) (skip : ℕ) (seen : List Argument) (c : ℕ) (cs : Text)
      → reads (at (held rs (Some (name s, [])) skip) (option (name s)) (place seen)) ((45 ∷ 45 ∷ c ∷ cs) ∷ words) ≡ ours seen (arguments ((45 ∷ 45 ∷ c ∷ cs) ∷ words) (Some s))
  long_waiting s rs skip seen c cs =
      nothing (at (held rs (Some (name s, [])) skip) (option (name s)) (place seen)) (45 ∷ 45 ∷ c ∷ cs) words
      (long_refused (option (name s)) (held rs (Some (name s, [])) skip) (place seen) c cs refl (empty_refused s rs skip))
      ∙ ap (ours seen) (sym (given_no_value s c cs words))

pub agree : (words : List Text) → list_any is_stray words ≡ false → Agree words
agree [] e = record {
  in_turn = λ h seen good are once.
      reads_end h idle (place seen)
      ∙ ap₂ (λ (b : Bool) (rs : List Row). cond (b && is_given (name setting.Folder) rs) (Some rs) None) good are
      ∙ ap (λ b. cond b (Some (rows seen)) None) (is_given-rows setting.Folder seen)
      ∙ sym (ap (ours seen) given_end ∙ ap judged (append-nil seen) ∙ ap (λ b. cond (b && has setting.Folder seen) (Some (rows seen)) None) once);
  waiting = λ s rs skip seen are other once.
      reads_end (held rs (Some (name s, [])) skip) (option (name s)) (place seen)
      ∙ ap (λ b. cond (b && is_given (name setting.Folder) (settled rules (held rs (Some (name s, [])) skip)).rows) (Some (settled rules (held rs (Some (name s, [])) skip)).rows) None) (empty_refused s rs skip)
      ∙ ap (ours seen) (sym (given_no_end s));
}
agree (word ∷ words) e =
    let parts = or_parts (is_stray word) (list_any is_stray words) e in
    let more : Agree words = agree words parts.1 in
    record {
      in_turn = λ h seen good are once. elim (word_forms word parts.0) [
        | inl minus ↦ plain_in_turn words parts.1 more h seen good are once word minus
        | inr long ↦ subst (λ (x : Text). reads (at h idle (place seen)) (x ∷ words) ≡ ours seen (arguments (x ∷ words) None)) (sym long.2)
            (long_in_turn words parts.1 more h seen good are once long.0 long.1)
      ];
      waiting = λ s rs skip seen are other once. elim (word_forms word parts.0) [
        | inl minus ↦ plain_waiting words parts.1 more s rs skip seen are other once word minus
        | inr long ↦ subst (λ (x : Text). reads (at (held rs (Some (name s, [])) skip) (option (name s)) (place seen)) (x ∷ words) ≡ ours seen (arguments (x ∷ words) (Some s))) (sym long.2)
            (long_waiting words parts.1 more s rs skip seen long.0 long.1)
      ];
    }

-- The words of the command `cassnode [--shards N] [--segment BYTES] [--memtable BYTES] [--compactors N] [--clock system|manual] FOLDER`.
-- Own: Cassandra's node has no such command, and reads what these options say from its file cassandra.yaml.
use Rattle.std.specs.Prelude.{ℕ, ◌≤◌, ◌==◌, Bool, true, false, not, ◌&&◌, nat_le, if◌then◌else◌, List, [], ◌∷◌, codes}
use Rattle.std.specs.Prelude.{Option, None, Some, option_map, option_and_then}
use Rattle.std.specs.List.{find, list_all, list_any, before_first, after_first}
use Rattle.std.specs.Char.{is_ascii_digit}
use Rattle.std.specs.Str.{bytes_eq}
use Rattle.std.specs.Str.Parse.{digits_value}
use Rattle.cas_words.specs.declared.words.Setting.{Setting}
use Rattle.cas_words.specs.declared.words.Setting.TheVariants as setting
use Rattle.cas_words.specs.declared.words.ClockKind.{ClockKind}
use Rattle.cas_words.specs.declared.words.ClockKind.TheVariants as clock
use Rattle.cas_words.specs.declared.words.Command.{Command}
use Rattle.cas_bind.specs.declared.bound.Limits.{Limits}
use Rattle.cas_types.specs.Limits.{IsShardCount}
use Rattle.cas_types.specs.declared.limits.TheConstants.{SHARD_LIMIT}
use Rattle.cas_words.specs.declared.words.TheConstants.{SHARDS_USUAL, SEGMENT_LEAST, SEGMENT_LIMIT, MEMTABLE_LEAST, MEMTABLE_LIMIT, MEMTABLE_USUAL}
use Rattle.cas_words.specs.declared.words.TheConstants.{COMPACTOR_LIMIT, COMPACTORS_USUAL}

-- a word, or a part of one: its bytes
abbrev pub Text : Type 0
Text = List ℕ

-- how an option is called after its two minuses: `shards` of `--shards`; FOLDER is called by none
abbrev pub name : Setting → Text
name setting.Shards = codes "shards"
name setting.Segment = codes "segment"
name setting.Memtable = codes "memtable"
name setting.Compactors = codes "compactors"
name setting.Clock = codes "clock"
name setting.Folder = codes "folder"

-- the options; FOLDER is none
abbrev pub options : List Setting
options = setting.Shards ∷ setting.Segment ∷ setting.Memtable ∷ setting.Compactors ∷ setting.Clock ∷ []

-- the option of this name: `clock` names one, `Clock` and `clocks` none
abbrev pub setting_named : Text → Option Setting
setting_named text = find (λ s. bytes_eq (name s) text) options

-- a minus stands first: in `--shards`, `-s` and `-`
abbrev pub has_minus : Text → Bool
has_minus [] = false
has_minus (b ∷ bs) = b == 45

-- what stands after a word's two minuses, where something does: `shards=4` of `--shards=4`
abbrev pub after_minuses : Text → Option Text
after_minuses (a ∷ b ∷ c ∷ cs) = if (a == 45) && (b == 45) then Some (c ∷ cs) else None
after_minuses _ = None

-- the byte is `=`
abbrev pub is_equals : ℕ → Bool
is_equals b = b == 61

-- the option before the first `=`, and the text after that, if there is a `=`: of `clock=system` they are clock and `system`
abbrev pub option_in : Text → Option (Setting × Option Text)
option_in text = option_map (λ s. (s, if list_any is_equals text then Some (after_first is_equals text) else None))
    (setting_named (before_first is_equals text))

-- the option that the word names, which may have its text in the word
abbrev pub option_of : Text → Option (Setting × Option Text)
option_of word = option_and_then option_in (after_minuses word)

-- a text, and the setting that it is for
abbrev pub Argument : Type 0
Argument = Setting × Text

-- one argument more, before the others
abbrev pub with_argument : Argument → Option (List Argument) → Option (List Argument)
with_argument g = option_map (λ gs. g ∷ gs)

-- the arguments from a word that names an option: its text stands in the word, as in `--shards=4`, or is the next word
abbrev pub option_read : Option (Setting × Option Text) → (Option Setting → Option (List Argument)) → Option (List Argument)
option_read None rest = None
option_read (Some (s, Some text)) rest = with_argument (s, text) (rest None)
option_read (Some (s, None)) rest = rest (Some s)

-- The arguments that the words are: a word is `--NAME=TEXT`, or `--NAME` before the word TEXT, or FOLDER.
-- Neither TEXT as a word nor FOLDER begins with a minus. The option, where there is one, waits for its text.
unfoldable pub arguments : List Text → Option Setting → Option (List Argument)
arguments [] None = Some []
arguments [] (Some s) = None
arguments (word ∷ words) None =
    if has_minus word then option_read (option_of word) (arguments words) else with_argument (setting.Folder, word) (arguments words None)
arguments (word ∷ words) (Some s) = if has_minus word then None else with_argument (s, word) (arguments words None)

-- the argument is for this setting
abbrev pub is_for : Setting → Argument → Bool
is_for s g = bytes_eq (name g.0) (name s)

-- no setting is given twice
abbrev pub is_once : List Argument → Bool
is_once [] = true
is_once (g ∷ gs) = not (list_any (is_for g.0) gs) && is_once gs

-- the text given for the setting
abbrev pub text_for : List Argument → Setting → Option Text
text_for gs s = option_map (λ g. g.1) (find (is_for s) gs)

-- decimal digits: no sign, and no zero before another digit; `16` and `0`, but neither `016` nor `+16`
abbrev pub is_numeral : Text → Bool
is_numeral [] = false
is_numeral (a ∷ []) = is_ascii_digit a
is_numeral (a ∷ b ∷ bs) = not (a == 48) && list_all is_ascii_digit (a ∷ b ∷ bs)

-- the number, where it is neither below the least nor above the greatest
abbrev pub number_between : ℕ → ℕ → ℕ → Option ℕ
number_between least most n = if nat_le least n && nat_le n most then Some n else None

-- the number that the text spells, where it is one in the range
abbrev pub number_in : ℕ → ℕ → Text → Option ℕ
number_in least most text = if is_numeral text then number_between least most (digits_value 10 text) else None

-- where no text is given, the number is the usual one
abbrev pub number_or : ℕ → ℕ → ℕ → Option Text → Option ℕ
number_or least most usual None = Some usual
number_or least most usual (Some text) = number_in least most text

-- the clock of this name: `system` or `manual`, in small letters
abbrev pub clock_named : Text → Option ClockKind
clock_named text = if bytes_eq text (codes "system") then Some clock.System else if bytes_eq text (codes "manual") then Some clock.Manual else None

-- where no text is given, the clock is the system's
abbrev pub clock_or : Option Text → Option ClockKind
clock_or None = Some clock.System
clock_or (Some text) = clock_named text

-- the limits, where each text is a number in its range: the least and the greatest number, and the usual one
abbrev pub limits_in : (Setting → Option Text) → Option Limits
limits_in text = option_and_then (λ shards. option_and_then (λ segment. option_and_then (λ memtable. option_map (λ compactors.
    record { shards = shards; segment = segment; memtable = memtable; compactors = compactors })
    (number_or 0 COMPACTOR_LIMIT COMPACTORS_USUAL (text setting.Compactors)))
    (number_or MEMTABLE_LEAST MEMTABLE_LIMIT MEMTABLE_USUAL (text setting.Memtable)))
    (number_or SEGMENT_LEAST SEGMENT_LIMIT SEGMENT_LIMIT (text setting.Segment)))
    (number_or 1 SHARD_LIMIT SHARDS_USUAL (text setting.Shards))

-- FOLDER must be given, and isn't empty
abbrev pub folder_in : Option Text → Option Text
folder_in None = None
folder_in (Some []) = None
folder_in (Some (b ∷ bs)) = Some (b ∷ bs)

-- the command that the texts make, each being good for its setting
abbrev pub command_in : (Setting → Option Text) → Option Command
command_in text = option_and_then (λ limits. option_and_then (λ kind. option_map (λ folder.
    record { limits = limits; clock = kind; folder = folder })
    (folder_in (text setting.Folder)))
    (clock_or (text setting.Clock)))
    (limits_in text)

-- the command that the words are: no setting is given twice, and each text is good for its setting; None where they are none
unfoldable pub command_of : List Text → Option Command
command_of words = option_and_then (λ gs. if is_once gs then command_in (text_for gs) else None) (arguments words None)

-- FOLDER, where the words are the command's
unfoldable pub path : List Text → Option Text
path words = option_map (λ c. c.folder) (command_of words)

-- the number is neither below the least nor above the greatest
abbrev pub IsFrom : ℕ → ℕ → ℕ → Type 0
IsFrom least most n = (least ≤ n) × (n ≤ most)

-- each limit lies in the range of its option
pub record AreLimits (l : Limits) : Type 0 where
  pub shards : IsShardCount l.shards
  pub segment : IsFrom SEGMENT_LEAST SEGMENT_LIMIT l.segment
  pub memtable : IsFrom MEMTABLE_LEAST MEMTABLE_LIMIT l.memtable
  pub compactors : l.compactors ≤ COMPACTOR_LIMIT

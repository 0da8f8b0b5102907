-- The words of the command as the crate clap is told of them (own).
use Rattle.std.specs.Prelude.{Bool, true, not, is_some, ◌&&◌, Option, Some, List, codes}
use Rattle.clap.specs.Words.{App, Row, Rule, first_of, found_of, new_app, new_rule, rows_of, with_rule}
use Rattle.clap.specs.declared.parser.matches.ArgMatches.{ArgMatches}
use Rattle.clap.specs.Simple.{on_top}
use Rattle.cas_words.specs.Words.{Text, after_minuses, has_minus, name}
use Rattle.cas_words.specs.declared.words.Setting.{Setting}
use Rattle.cas_words.specs.declared.words.Setting.TheVariants as setting

-- an option that takes one text
abbrev pub option_rule : Text → Rule
option_rule called = record (new_rule called) { long = Some called }

-- FOLDER is a word of its own, and must be there
abbrev pub folder_rule : Rule
folder_rule = record (new_rule (name setting.Folder)) { required = true }

-- there is no help and no version, and the words begin after the program's name
abbrev pub bare : App
bare = on_top (λ s. record s { no_binary_name = true; disable_help_flag = true; disable_version_flag = true }) (new_app (codes "cassnode"))

-- the parser that takes this option too
abbrev pub with_option : App → Setting → App
with_option app s = with_rule app (option_rule (name s))

-- the parser of the command: its five options, and FOLDER
unfoldable pub parser : App
parser =
    with_rule (with_option (with_option (with_option (with_option (with_option bare setting.Shards)
    setting.Segment) setting.Memtable) setting.Compactors) setting.Clock) folder_rule

-- the text that clap's rows have for a setting
abbrev pub text_at : List Row → Setting → Option Text
text_at rows s = first_of (name s) rows

-- the text that clap's matches have for a setting
abbrev pub found_in : ArgMatches → Setting → Option Text
found_in matches = text_at (rows_of (found_of matches))

-- a word that begins with a minus, and is no `--NAME`: clap takes `-` as a text, and `--` as the options' end
abbrev pub is_stray : Text → Bool
is_stray word = has_minus word && not (is_some (after_minuses word))

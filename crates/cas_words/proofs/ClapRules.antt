-- The command as clap builds it, and what its rules find.
use Rattle.std.proofs.Common.{◌≡◌, refl, ℕ, Bool, cond, true, false, List, [], ◌∷◌, Option, Some, None, codes}
use Rattle.std.specs.Prelude.{option_map, ◌||◌}
use Rattle.std.specs.Str.{bytes_eq}
use Rattle.clap.specs.Words.{Rule}
use Rattle.clap.specs.Walk.{arg_by_id, arg_by_index, arg_by_long, arg_by_short}
use Rattle.clap.specs.Simple.{App, Shape, built, new_shape}
use Rattle.clap.proofs.OnLiterals.{clap_on_literals}
use Rattle.clap.specs.declared.builder.action.ArgAction.TheVariants.{Set}
use Rattle.clap.specs.declared.builder.value_parser.ValueParser.TheVariants as value_parser
use Rattle.cas_words.specs.Words.{Text, name, setting_named}
use Rattle.cas_words.specs.Inner.Parser.{parser}
use Rattle.cas_words.specs.declared.words.Setting.{Setting}
use Rattle.cas_words.specs.declared.words.Setting.TheVariants as setting

abbrev pub built_rule : Text → Option Text → Option ℕ → Bool → Rule
built_rule id long index required = record {
  id = id;
  long = long;
  aliases = [];
  short = None;
  short_aliases = [];
  index = index;
  action = Some Set;
  range = Some (record { start_inclusive = 1; end_inclusive = 1 });
  value_names = 0;
  defaults = [];
  missing = [];
  trailing_var_arg = false;
  parser = Some value_parser.String;
  ignore_case = false;
  required = required;
  is_simple = true;
  is_free = true;
}

abbrev pub is_folder : Setting → Bool
is_folder setting.Folder = true
is_folder setting.Shards = false
is_folder setting.Segment = false
is_folder setting.Memtable = false
is_folder setting.Compactors = false
is_folder setting.Clock = false

abbrev pub rule : Setting → Rule
rule s = built_rule (name s) (cond (is_folder s) None (Some (name s))) (cond (is_folder s) (Some 1) None) (is_folder s)

unfoldable pub rules : List Rule
rules = rule setting.Shards ∷ rule setting.Segment ∷ rule setting.Memtable ∷ rule setting.Compactors ∷ rule setting.Clock ∷ rule setting.Folder ∷ []

abbrev pub shape : Shape
shape = record (new_shape (codes "cassnode")) {
  rules = rules;
  no_binary_name = true;
  disable_help_flag = true;
  disable_help_subcommand = true;
  disable_version_flag = true;
  is_built = true;
}

abbrev pub app : App
app = record { top = shape; subs = [] }

pub built_is : built parser ≡ app
unfolding parser rules clap_on_literals
built_is = refl

pub by_id : (s : Setting) → arg_by_id rules (name s) ≡ Some (rule s)
unfolding rules
by_id setting.Shards = refl
by_id setting.Segment = refl
by_id setting.Memtable = refl
by_id setting.Compactors = refl
by_id setting.Clock = refl
by_id setting.Folder = refl

pub by_short : (c : ℕ) → arg_by_short rules c ≡ None
unfolding rules
by_short c = refl

pub by_first_place : arg_by_index rules 1 ≡ Some (rule setting.Folder)
unfolding rules
by_first_place = refl

pub by_second_place : arg_by_index rules 2 ≡ None
unfolding rules
by_second_place = refl

found_rule : (a b c d e : Bool)
    → cond (a || false) (Some (rule setting.Shards)) (cond (b || false) (Some (rule setting.Segment)) (cond (c || false) (Some (rule setting.Memtable))
    (cond (d || false) (Some (rule setting.Compactors)) (cond (e || false) (Some (rule setting.Clock)) None))))
    ≡ option_map rule (cond a (Some setting.Shards) (cond b (Some setting.Segment) (cond c (Some setting.Memtable)
    (cond d (Some setting.Compactors) (cond e (Some setting.Clock) None)))))
found_rule true b c d e = refl
found_rule false true c d e = refl
found_rule false false true d e = refl
found_rule false false false true e = refl
found_rule false false false false true = refl
found_rule false false false false false = refl

pub by_long : (text : Text) → arg_by_long rules text ≡ option_map rule (setting_named text)
unfolding rules
by_long text =
    let is = λ (s : Setting). bytes_eq (name s) text in
    found_rule (is setting.Shards) (is setting.Segment) (is setting.Memtable) (is setting.Compactors) (is setting.Clock)

-- The program's commands as they are written, and the values that the arguments have for each by
-- the specification of `clap`.
use Rattle.std.specs.Prelude.{true, Some, codes}
use Rattle.clap.specs.Lexer.{usize_max}
use Rattle.clap.specs.Words.{App, Rule, Text, new_app, new_rule, with_rule, with_subcommand}
use Rattle.clap.specs.declared.builder.action.ArgAction.TheVariants.{Append, Set, SetTrue}
use Rattle.clap.specs.declared.builder.value_parser.ValueParser.TheVariants.{NonEmptyString}

-- an option that takes a value
abbrev pub valued : Text → Rule
valued name = record (new_rule name) { long = Some name; value_names = 1; action = Some Set }

-- an option with the name of a file, which may not be empty
abbrev pub file : Text → Rule
file name = record (valued name) { parser = Some NonEmptyString }

-- the same, required
abbrev pub required_file : Text → Rule
required_file name = record (file name) { required = true }

-- an option that may occur several times, each time with a value
abbrev pub repeated : Text → Rule
repeated name = record (new_rule name) { long = Some name; value_names = 1; action = Some Append }

-- an option without a value
abbrev pub flag : Text → Rule
flag name = record (new_rule name) { long = Some name; action = Some SetTrue }

-- `-o`, the output, whose name may not be empty
abbrev pub output : Rule
output = record (new_rule (codes "out")) { short = Some 111; value_names = 1; required = true; action = Some Set; parser = Some NonEmptyString }

-- the operands: captures
abbrev pub any_captures : Rule
any_captures = record (new_rule (codes "captures")) {
  value_names = 1;
  action = Some Append;
  parser = Some NonEmptyString;
  range = Some (record { start_inclusive = 1; end_inclusive = usize_max });
}

-- one or more
abbrev pub captures : Rule
captures = record any_captures { required = true }

abbrev pub policy : App
policy = with_rule (with_rule (with_rule (with_rule (new_app (codes "policy")) (required_file (codes "turnserver-conf"))) (repeated (codes "listening-ip"))) (repeated (codes "relay-ip"))) (flag (codes "translated"))

abbrev pub users : App
users = with_rule (with_rule (with_rule (with_rule (new_app (codes "users")) (file (codes "turnserver-conf"))) (file (codes "secret-file"))) (valued (codes "realm"))) any_captures

abbrev pub join : App
join = with_rule (with_rule (new_app (codes "join")) output) captures

abbrev pub reassemble : App
reassemble = with_rule (with_rule (new_app (codes "reassemble")) output) captures

-- pairs of public and private addresses
abbrev pub external : Rule
external = record (repeated (codes "external-ip")) { required = true }

abbrev pub translate : App
translate = with_rule (with_rule (with_rule (with_rule (new_app (codes "translate")) (required_file (codes "policy"))) external) output) captures

abbrev pub look : App
look = with_rule (with_rule (with_rule (new_app (codes "look")) (file (codes "policy"))) (valued (codes "lifetime"))) captures

-- the policy and the folder
abbrev pub cut_files : App
cut_files = with_rule (with_rule (new_app (codes "cut")) (required_file (codes "policy"))) output

abbrev pub cut_numbers : App
cut_numbers = with_rule (with_rule (with_rule (with_rule cut_files (valued (codes "since"))) (valued (codes "until"))) (valued (codes "lifetime"))) (valued (codes "released-ms"))

abbrev pub cut : App
cut = with_rule (with_rule (with_rule (with_rule cut_numbers (flag (codes "from-start"))) (flag (codes "no-tcp"))) (flag (codes "keep-inner"))) captures

-- the sources of the policy and of the credentials, and the folder
abbrev pub ready_files : App
ready_files = with_rule (with_rule (with_rule (with_rule (new_app (codes "ready")) (file (codes "turnserver-conf"))) (file (codes "policy"))) (file (codes "creds"))) output

abbrev pub ready_numbers : App
ready_numbers = with_rule (with_rule (with_rule (with_rule ready_files (valued (codes "since"))) (valued (codes "until"))) (valued (codes "lifetime"))) (valued (codes "released-ms"))

abbrev pub ready : App
ready = with_rule (with_rule (with_rule (with_rule ready_numbers (flag (codes "from-start"))) (flag (codes "no-tcp"))) (flag (codes "keep-inner"))) captures

abbrev pub program : App
program =
    let named = new_app (codes "turnprep") in
    record named { top = record named.top { has_version = true; arg_required_else_help = true; subcommand_required = true } }

-- with the command that does all steps
abbrev pub preparing : App
preparing = with_subcommand program ready.top

-- with also the commands that write a policy and credentials
abbrev pub writing : App
writing = with_subcommand (with_subcommand preparing policy.top) users.top

-- `turnprep` with its commands
abbrev pub turnprep : App
turnprep = with_subcommand (with_subcommand (with_subcommand (with_subcommand (with_subcommand writing join.top) reassemble.top) translate.top) look.top) cut.top

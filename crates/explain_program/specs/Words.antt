-- The requests of the arguments: the program's commands as they are written, and their values by
-- the specification of `clap`.
use Rattle.std.specs.Prelude.{◌≡◌, ◌≢◌, ◌⊎◌, ⊤, ℕ, Bool, pos, true, false, List, [], ◌∷◌, Option, Some, None, Ok, map, option_map, codes}
use Rattle.std.specs.Str.Parse.{ParsesUnsigned}
use Rattle.clap.specs.Lexer.{usize_max}
use Rattle.clap.specs.Words.{App, IsAmong, Kinds, Row, Rule, Text, all_of, first_of, new_app, new_rule, one_of, with_rule, with_subcommand}
use Rattle.clap.specs.declared.builder.action.ArgAction.TheVariants.{Append, Set, SetTrue}
use Rattle.clap.specs.declared.builder.value_parser.ValueParser.TheVariants.{NonEmptyString, Signed}
use Rattle.clap.specs.declared.error.kind.ErrorKind.{ErrorKind}
use Rattle.clap.specs.declared.error.kind.ErrorKind.TheVariants as kind
use Rattle.explain_program.specs.declared.command_line.Subject.{Subject}
use Rattle.explain_program.specs.declared.command_line.Subject.TheVariants.{Verdict, Lanes, Client}
use Rattle.explain_program.specs.declared.command_line.Inputs.{Inputs}
use Rattle.explain_program.specs.declared.command_line.Request.{Request}
use Rattle.explain_program.specs.declared.command_line.Request.TheVariants.{Explain, AsJson, Faults, Evidence, Help, Release, Usage}

-- an option that takes a value
abbrev pub valued : Text → Rule
valued name = record (new_rule name) { long = Some name; value_names = 1; action = Some Set }

-- an option with the name of a file, which may not be empty
abbrev pub file : Text → Rule
file name = record (valued name) { parser = Some NonEmptyString }

-- an option without a value
abbrev pub flag : Text → Rule
flag name = record (new_rule name) { long = Some name; action = Some SetTrue }

-- an option that takes a number in a range
abbrev pub counted : Text → List Text → ℕ → ℕ → Rule
counted name defaults least most = record (valued name) { defaults = defaults; parser = Some (Signed (pos least) (pos most)) }

abbrev pub policy : Rule
policy = record (file (codes "policy")) { required = true }

abbrev pub users : Rule
users = file (codes "creds")

abbrev pub certificate : Rule
certificate = file (codes "cert")

abbrev pub workers : Rule
workers = counted (codes "workers") (codes "1" ∷ []) 1 256

abbrev pub lane : Rule
lane = record (counted (codes "lane") [] 0 65535) { required = true }

-- the percentage of requests that is expected to have a response
abbrev pub expected : Rule
expected = counted (codes "expect-answers") [] 0 100

abbrev pub around : Rule
around = counted (codes "around") (codes "20" ∷ []) 0 1000000

-- `-o` or `--output`
abbrev pub output : Rule
output = record (file (codes "output")) { short = Some 111; required = true }

-- the list of packets that `turnprep cut` excluded
abbrev pub excluded : Rule
excluded = file (codes "excluded")

-- the operands: one capture or more
abbrev pub captures : Rule
captures = record (new_rule (codes "captures")) {
  value_names = 1;
  required = true;
  action = Some Append;
  parser = Some NonEmptyString;
  range = Some (record { start_inclusive = 1; end_inclusive = usize_max });
}

-- a command that reads the policy and the users
abbrev pub reading : Text → App
reading name = with_rule (with_rule (new_app name) policy) users

-- a command that judges captures by a certificate
abbrev pub judging : Text → App
judging name = with_rule (with_rule (with_rule (reading name) certificate) workers) captures

-- a command that can answer in JSON
abbrev pub explaining : Text → App
explaining name = with_rule (judging name) (flag (codes "json"))

abbrev pub verdict : App
verdict = with_rule (explaining (codes "verdict")) expected

abbrev pub lanes : App
lanes = with_rule (explaining (codes "lanes")) (flag (codes "broken"))

abbrev pub client : App
client = with_rule (with_rule (explaining (codes "client")) lane) around

abbrev pub faults : App
faults = with_rule (with_rule (reading (codes "faults")) workers) captures

abbrev pub evidence : App
evidence = with_rule (with_rule (judging (codes "evidence")) output) excluded

abbrev pub program : App
program =
    let named = new_app (codes "turnexplain") in
    record named { top = record named.top { has_version = true; arg_required_else_help = true; subcommand_required = true } }

-- `turnexplain` with its commands
abbrev pub turnexplain : App
turnexplain = with_subcommand (with_subcommand (with_subcommand (with_subcommand (with_subcommand program verdict.top) lanes.top) client.top) faults.top) evidence.top

-- the number of an option, parsed as `u32`
abbrev pub HasNumber : Text → List Row → ℕ → Type 0
HasNumber name rows number = (text : Text) × (one_of name rows ≡ Some text) × ParsesUnsigned {E = ⊤} 32 10 text (Ok number)

-- the number of an option, or that it has none
abbrev pub HasOptional : Text → List Row → Option ℕ → Type 0
HasOptional name rows (Some number) = HasNumber name rows number
HasOptional name rows None = (number : ℕ) → HasNumber name rows number → ⊥

-- an option without a value is present, or isn't
abbrev pub HasFlag : Text → List Row → Bool → Type 0
HasFlag name rows true = (one_of name rows ≢ None) × (one_of name rows ≢ Some (codes "false"))
HasFlag name rows false = one_of name rows ≢ Some (codes "true")

-- the files that every command reads, and the number of workers
pub record AreNamed (rows : List Row) (inputs : Inputs) : Type 0 where
  pub policy' : first_of (codes "policy") rows ≡ Some inputs.policy.now
  pub users' : first_of (codes "creds") rows ≡ option_map (λ name. name.now) inputs.credentials
  pub captures' : all_of (codes "captures") rows ≡ Some (map (λ name. name.now) inputs.captures.items)
  pub workers' : HasNumber (codes "workers") rows inputs.workers.count

-- the certificate that is named, if one is
abbrev pub IsByNamed : List Row → Inputs → Type 0
IsByNamed rows inputs = first_of (codes "cert") rows ≡ option_map (λ name. name.now) inputs.certificate

-- the command by which part of a verdict is requested
abbrev pub command_name : Subject → Text
command_name (Verdict percent) = codes "verdict"
command_name (Lanes broken) = codes "lanes"
command_name (Client number events) = codes "client"

-- and the values of its own options
abbrev pub HasOptions : List Row → Subject → Type 0
HasOptions rows (Verdict percent) = HasOptional (codes "expect-answers") rows percent
HasOptions rows (Lanes broken) = HasFlag (codes "broken") rows broken
HasOptions rows (Client number events) = HasNumber (codes "lane") rows number × HasNumber (codes "around") rows events

-- The request is the command that the arguments name, with the values that they have for it.
abbrev pub Names : Option (Text × List Row) → Request → Type 0
Names named (Explain inputs what) = (rows : List Row) × (named ≡ Some (command_name what, rows)) × AreNamed rows inputs × IsByNamed rows inputs × HasOptions rows what × HasFlag (codes "json") rows false
Names named (AsJson inputs what) = (rows : List Row) × (named ≡ Some (command_name what, rows)) × AreNamed rows inputs × IsByNamed rows inputs × HasOptions rows what × HasFlag (codes "json") rows true
Names named (Faults inputs) = (rows : List Row) × (named ≡ Some (codes "faults", rows)) × AreNamed rows inputs
Names named (Evidence inputs file list) =
    (rows : List Row) × (named ≡ Some (codes "evidence", rows)) × AreNamed rows inputs × IsByNamed rows inputs × (first_of (codes "output") rows ≡ Some file.now)
    × (first_of (codes "excluded") rows ≡ option_map (λ name. name.now) list)
Names named (Help page) = ⊥
Names named Release = ⊥
Names named (Usage text) = ⊥

-- no command is named with all that it needs
abbrev pub NamesNothing : Option (Text × List Row) → Type 0
NamesNothing named = (request : Request) → Names named request → ⊥

-- one of the kinds is printed on standard error; help and the release aren't
abbrev pub IsRefused : Kinds → Type 0
IsRefused kinds = (k : ErrorKind) × IsAmong k kinds × (k ≢ kind.DisplayHelp) × (k ≢ kind.DisplayVersion)

-- A command is requested by its name, and help and the release by their options. It is a usage
-- error if `clap` refuses the arguments for one of these kinds, or if they name no command with all
-- that it needs.
abbrev pub IsRequested : Option (Text × List Row) → Kinds → Request → Type 0
IsRequested named kinds (Help page) = IsAmong kind.DisplayHelp kinds
IsRequested named kinds Release = IsAmong kind.DisplayVersion kinds
IsRequested named kinds (Usage text) = IsRefused kinds ⊎ NamesNothing named
IsRequested named kinds (Explain inputs what) = Names named (Explain inputs what)
IsRequested named kinds (AsJson inputs what) = Names named (AsJson inputs what)
IsRequested named kinds (Faults inputs) = Names named (Faults inputs)
IsRequested named kinds (Evidence inputs file list) = Names named (Evidence inputs file list)

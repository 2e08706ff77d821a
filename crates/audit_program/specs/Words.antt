-- The request of the arguments: the program's commands as they are declared, and their values by
-- the definitions of `clap` for such commands.
use Rattle.std.specs.Prelude.{◌≡◌, ◌≢◌, ◌⊎◌, ⊤, ℕ, pos, true, List, [], ◌∷◌, Option, Some, Ok, map, option_map, codes}
use Rattle.std.specs.Str.Parse.{ParsesUnsigned}
use Rattle.clap.specs.Lexer.{usize_max}
use Rattle.clap.specs.Words.{App, IsAmong, Kinds, Row, Rule, Text, all_of, first_of, one_of, new_app, new_rule, with_rule, with_subcommand}
use Rattle.clap.specs.declared.builder.action.ArgAction.TheVariants.{Append, Set}
use Rattle.clap.specs.declared.builder.value_parser.ValueParser.TheVariants.{Signed}
use Rattle.clap.specs.declared.error.kind.ErrorKind.{ErrorKind}
use Rattle.clap.specs.declared.error.kind.ErrorKind.TheVariants as kind
use Rattle.audit_program.specs.declared.command_line.Inputs.{Inputs}
use Rattle.audit_program.specs.declared.command_line.Request.{Request}
use Rattle.audit_program.specs.declared.command_line.Request.TheVariants.{Check, Audit, Find, Live, Help, Release, Usage}

-- an option that takes a value
abbrev pub valued : Text → Rule
valued name = record (new_rule name) { long = Some name; value_names = 1; action = Some Set }

-- an option that takes a number from 1 to the most
abbrev pub counted : Text → Text → ℕ → Rule
counted name default most = record (valued name) { defaults = default ∷ []; parser = Some (Signed (pos 1) (pos most)) }

abbrev pub policy : Rule
policy = record (valued (codes "policy")) { required = true }

abbrev pub users : Rule
users = valued (codes "creds")

abbrev pub certificate : Rule
certificate = record (valued (codes "cert")) { required = true }

abbrev pub workers : Rule
workers = counted (codes "workers") (codes "1") 256

abbrev pub idle : Rule
idle = counted (codes "idle") (codes "1") 1000000

abbrev pub most : Rule
most = counted (codes "turns") (codes "1000000") 1000000

-- one capture or more, which are the positional arguments
abbrev pub captures : Rule
captures = record (new_rule (codes "captures")) {
  value_names = 1;
  required = true;
  action = Some Append;
  range = Some (record { start_inclusive = 1; end_inclusive = usize_max });
}

-- a command with the options that all commands have
abbrev pub command_of : Text → App
command_of name = with_rule (with_rule (with_rule (new_app name) policy) users) captures

abbrev pub finding : Text → App
finding name = with_rule (command_of name) workers

abbrev pub live : App
live = with_rule (with_rule (command_of (codes "live")) idle) most

abbrev pub check : App
check = with_rule (with_rule (command_of (codes "check")) certificate) workers

abbrev pub program : App
program =
    let named = new_app (codes "turnaudit") in
    record named { top = record named.top { has_version = true; arg_required_else_help = true; subcommand_required = true } }

-- `turnaudit` with its commands
abbrev pub turnaudit : App
turnaudit = with_subcommand (with_subcommand (with_subcommand (with_subcommand program (finding (codes "audit")).top) (finding (codes "find")).top) live.top) check.top

-- the number that an option has, as `u32` parses it
abbrev pub HasNumber : Text → List Row → ℕ → Type 0
HasNumber name rows number = (text : Text) × (one_of name rows ≡ Some text) × ParsesUnsigned {E = ⊤} 32 10 text (Ok number)

-- the files that every command reads
pub record AreNamed (rows : List Row) (inputs : Inputs) : Type 0 where
  pub policy' : first_of (codes "policy") rows ≡ Some inputs.policy.now
  pub users' : first_of (codes "creds") rows ≡ option_map (λ name. name.now) inputs.credentials
  pub captures' : all_of (codes "captures") rows ≡ Some (map (λ name. name.now) inputs.captures.items)

-- The request is the command that the arguments name, with the values that they have for it.
abbrev pub Names : Option (Text × List Row) → Request → Type 0
Names subcommand (Check inputs certificate workers) = (rows : List Row) × (subcommand ≡ Some (codes "check", rows)) × AreNamed rows inputs
    × (first_of (codes "cert") rows ≡ Some certificate.now) × HasNumber (codes "workers") rows workers.count
Names subcommand (Audit inputs workers) = (rows : List Row) × (subcommand ≡ Some (codes "audit", rows)) × AreNamed rows inputs × HasNumber (codes "workers") rows workers.count
Names subcommand (Find inputs workers) = (rows : List Row) × (subcommand ≡ Some (codes "find", rows)) × AreNamed rows inputs × HasNumber (codes "workers") rows workers.count
Names subcommand (Live inputs turns) = (rows : List Row) × (subcommand ≡ Some (codes "live", rows)) × AreNamed rows inputs
    × HasNumber (codes "idle") rows turns.idle × HasNumber (codes "turns") rows turns.most
Names subcommand (Help page) = ⊥
Names subcommand Release = ⊥
Names subcommand (Usage text) = ⊥

-- the arguments name no command with all that it needs
abbrev pub NamesNothing : Option (Text × List Row) → Type 0
NamesNothing subcommand = (request : Request) → Names subcommand request → ⊥

-- one of the kinds is printed on standard error, which help and the release aren't
abbrev pub IsRefused : Kinds → Type 0
IsRefused kinds = (k : ErrorKind) × IsAmong k kinds × (k ≢ kind.DisplayHelp) × (k ≢ kind.DisplayVersion)

-- A command is requested by its name, and help and the release by their options. Arguments are a
-- usage error if `clap` refuses them for one of these kinds, or they name no command with all that
-- it needs.
abbrev pub IsRequested : Option (Text × List Row) → Kinds → Request → Type 0
IsRequested subcommand kinds (Help page) = IsAmong kind.DisplayHelp kinds
IsRequested subcommand kinds Release = IsAmong kind.DisplayVersion kinds
IsRequested subcommand kinds (Usage text) = IsRefused kinds ⊎ NamesNothing subcommand
IsRequested subcommand kinds (Check inputs certificate workers) = Names subcommand (Check inputs certificate workers)
IsRequested subcommand kinds (Audit inputs workers) = Names subcommand (Audit inputs workers)
IsRequested subcommand kinds (Find inputs workers) = Names subcommand (Find inputs workers)
IsRequested subcommand kinds (Live inputs turns) = Names subcommand (Live inputs turns)

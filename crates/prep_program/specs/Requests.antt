-- The arguments of a command, and their request.
use Rattle.std.specs.Prelude.{◌≡◌, ◌≢◌, ◌⊎◌, ◌≤◌, ℕ, Bool, true, false, nat_le, List, [], ◌∷◌, length, Option, Some, None, unwrap_or, option_map, Result, Ok, Err, map, codes}
use Rattle.audit_model.specs.AddressText.{ip_of}
use Rattle.audit_text.specs.Token.{number_of}
use Rattle.audit_text.specs.declared.token.TokenFault.{TokenFault}
use Rattle.clap.specs.Words.{IsAmong, Kinds, Row, Text, all_of, first_of, one_of}
use Rattle.clap.specs.declared.error.kind.ErrorKind.{ErrorKind}
use Rattle.clap.specs.declared.error.kind.ErrorKind.TheVariants as kind
use Rattle.prep_cut.specs.declared.stated.Stated.{Stated}
use Rattle.prep_moment.specs.Moment.{moment_of}
use Rattle.prep_program.specs.declared.command_line.Request.{Request}
use Rattle.prep_program.specs.declared.command_line.Request.TheVariants.{Join, Policy, Look, Cut, Translate, Reassemble, Users, Ready, Help, Release, Usage}
use Rattle.prep_program.specs.declared.ready.PolicySource.{PolicySource}
use Rattle.prep_program.specs.declared.ready.PolicySource.TheVariants as policies
use Rattle.prep_program.specs.declared.users.UsersSource.{UsersSource}
use Rattle.prep_program.specs.declared.users.UsersSource.TheVariants.{Configuration, Secret}
use Rattle.prep_translate.specs.Words.{pair_of}

-- an option without a value is present, or isn't
abbrev pub HasFlag : Text → List Row → Bool → Type 0
HasFlag name rows true = (one_of name rows ≢ None) × (one_of name rows ≢ Some (codes "false"))
HasFlag name rows false = one_of name rows ≢ Some (codes "true")

-- the number, as the number of an option that is present
abbrev pub read_number : Result ℕ TokenFault → Option (Option ℕ)
read_number (Ok number) = Some (Some number)
read_number (Err fault) = None

-- the number of a value; `Some None` without a value, and `None` if the value isn't a decimal
-- number up to `most`
abbrev pub number_in : ℕ → Option Text → Option (Option ℕ)
number_in most None = Some None
number_in most (Some text) = read_number (number_of most text)

-- the number of an option
abbrev pub number_named : ℕ → Text → List Row → Option (Option ℕ)
number_named most name rows = number_in most (first_of name rows)

-- the moment of a value; `Some None` without a value, and `None` if the value isn't a moment
abbrev pub moment_in : Option Text → Option (Option ℕ)
moment_in None = Some None
moment_in (Some text) = option_map Some (moment_of text)

-- the moment of an option
abbrev pub moment_named : Text → List Row → Option (Option ℕ)
moment_named name rows = moment_in (first_of name rows)

abbrev pub one_more : {A : Type 0} → Result A TokenFault → Option (List A) → Option (List A)
one_more (Ok one) (Some more) = Some (one ∷ more)
one_more (Ok one) None = None
one_more (Err fault) more = None

-- the values that the arguments are parsed to, in order; `None` if one can't be parsed
abbrev pub all_read : {A : Type 0} → (Text → Result A TokenFault) → List Text → Option (List A)
all_read read [] = Some []
all_read read (word ∷ words) = one_more (read word) (all_read read words)

-- the values of an option that may occur several times
abbrev pub values_of : Text → List Row → List Text
values_of name rows = unwrap_or (all_of name rows) []

-- the addresses of an option, in order
abbrev pub HasAddresses : Text → List Row → List ℕ → Type 0
HasAddresses name rows addresses = all_read ip_of (values_of name rows) ≡ Some addresses

-- the captures, at most as many as one audit takes
abbrev pub HasCaptures : List Row → List Text → Type 0
HasCaptures rows names = (all_of (codes "captures") rows ≡ Some names) × (length names ≤ 16)

-- the first moment isn't after the last
abbrev pub are_ordered : Option ℕ → Option ℕ → Bool
are_ordered None until = true
are_ordered (Some since) None = true
are_ordered (Some since) (Some until) = nat_le since until

-- the operator's options for `cut`: moments in nanoseconds since 1970, a lifetime in seconds,
-- milliseconds after a Refresh with LIFETIME 0
pub record IsStated (rows : List Row) (stated : Stated) : Type 0 where
  pub since' : moment_named (codes "since") rows ≡ Some stated.since
  pub until' : moment_named (codes "until") rows ≡ Some stated.until
  pub ordered : are_ordered stated.since stated.until ≡ true
  pub lifetime' : option_map (λ stated. unwrap_or stated 3600) (number_named 1000000000 (codes "lifetime") rows) ≡ Some stated.lifetime
  pub released' : option_map (λ stated. unwrap_or stated 0) (number_named 60000 (codes "released-ms") rows) ≡ Some stated.released_ms
  pub from_start' : HasFlag (codes "from-start") rows stated.is_from_start
  pub no_tcp' : HasFlag (codes "no-tcp") rows stated.has_no_tcp
  pub keep_inner' : HasFlag (codes "keep-inner") rows stated.keeps_inner

-- one source of users, and not the other
abbrev pub HasSource : List Row → UsersSource → Type 0
HasSource rows (Configuration file) = (first_of (codes "turnserver-conf") rows ≡ Some file.now) × (first_of (codes "secret-file") rows ≡ None)
HasSource rows (Secret file) = (first_of (codes "turnserver-conf") rows ≡ None) × (first_of (codes "secret-file") rows ≡ Some file.now)

-- one source of a policy, and not the other
abbrev pub HasPolicySource : List Row → PolicySource → Type 0
HasPolicySource rows (policies.Configuration file) = (first_of (codes "turnserver-conf") rows ≡ Some file.now) × (first_of (codes "policy") rows ≡ None)
HasPolicySource rows (policies.Policy file) = (first_of (codes "turnserver-conf") rows ≡ None) × (first_of (codes "policy") rows ≡ Some file.now)

-- the name of a request's command
abbrev pub command_of : Request → Text
command_of (Join captures file) = codes "join"
command_of (Policy file listening relaying translated) = codes "policy"
command_of (Look request) = codes "look"
command_of (Cut request) = codes "cut"
command_of (Translate request) = codes "translate"
command_of (Reassemble request) = codes "reassemble"
command_of (Users request) = codes "users"
command_of (Ready request) = codes "ready"
command_of (Help page) = []
command_of Release = []
command_of (Usage text) = []

-- the arguments of its command have the contents of the request
abbrev pub Says : List Row → Request → Type 0
Says rows (Join captures file) = (first_of (codes "out") rows ≡ Some file.now) × (all_of (codes "captures") rows ≡ Some (map (λ name. name.now) captures.items))
Says rows (Policy file listening relaying translated) =
    (first_of (codes "turnserver-conf") rows ≡ Some file.now) × HasAddresses (codes "listening-ip") rows listening.items × HasAddresses (codes "relay-ip") rows relaying.items × HasFlag (codes "translated") rows translated
Says rows (Look request) =
    HasCaptures rows (map (λ name. name.now) request.captures.items) × (first_of (codes "policy") rows ≡ option_map (λ name. name.now) request.policy)
    × (option_map (λ stated. unwrap_or stated 3600) (number_named 1000000000 (codes "lifetime") rows) ≡ Some request.lifetime)
Says rows (Cut request) =
    HasCaptures rows (map (λ name. name.now) request.captures.items) × (first_of (codes "policy") rows ≡ Some request.policy.now) × (first_of (codes "out") rows ≡ Some request.folder.now)
    × IsStated rows request.stated
Says rows (Translate request) =
    HasCaptures rows (map (λ name. name.now) request.captures.items) × (first_of (codes "policy") rows ≡ Some request.policy.now) × (first_of (codes "out") rows ≡ Some request.folder.now)
    × (length (values_of (codes "external-ip") rows) ≤ 64) × (all_read pair_of (values_of (codes "external-ip") rows) ≡ Some request.translations.items)
Says rows (Reassemble request) = HasCaptures rows (map (λ name. name.now) request.captures.items) × (first_of (codes "out") rows ≡ Some request.folder.now)
Says rows (Users request) =
    HasSource rows request.source × (first_of (codes "realm") rows ≡ option_map (λ name. name.now) request.realm) × (values_of (codes "captures") rows ≡ map (λ name. name.now) request.captures.items)
Says rows (Ready request) =
    HasPolicySource rows request.source × (first_of (codes "creds") rows ≡ option_map (λ name. name.now) request.creds) × (first_of (codes "out") rows ≡ Some request.folder.now)
    × (all_of (codes "captures") rows ≡ Some (map (λ name. name.now) request.captures.items)) × IsStated rows request.stated
Says rows (Help page) = ⊥
Says rows Release = ⊥
Says rows (Usage text) = ⊥

-- The request is the command that the arguments name, with the contents that they have for it.
abbrev pub Names : Option (Text × List Row) → Request → Type 0
Names named request = (rows : List Row) × (named ≡ Some (command_of request, rows)) × Says rows request

-- no command is named with all that it needs
abbrev pub NamesNothing : Option (Text × List Row) → Type 0
NamesNothing named = (request : Request) → Names named request → ⊥

-- one of the kinds is printed on standard error; help and the release aren't
abbrev pub IsRefused : Kinds → Type 0
IsRefused kinds = (k : ErrorKind) × IsAmong k kinds × (k ≢ kind.DisplayHelp) × (k ≢ kind.DisplayVersion)

-- the request of a command's own arguments: a usage error if they lack something
abbrev pub Requests : Option (Text × List Row) → Request → Type 0
Requests named (Usage text) = NamesNothing named
Requests named (Help page) = ⊥
Requests named Release = ⊥
Requests named (Join captures file) = Names named (Join captures file)
Requests named (Policy file listening relaying translated) = Names named (Policy file listening relaying translated)
Requests named (Look request) = Names named (Look request)
Requests named (Cut request) = Names named (Cut request)
Requests named (Translate request) = Names named (Translate request)
Requests named (Reassemble request) = Names named (Reassemble request)
Requests named (Users request) = Names named (Users request)
Requests named (Ready request) = Names named (Ready request)

-- A command is requested by its name, and help and the release by their options. It is a usage
-- error if `clap` refuses the arguments for one of these kinds, or if they name no command with all
-- that it needs.
abbrev pub IsRequested : Option (Text × List Row) → Kinds → Request → Type 0
IsRequested named kinds (Help page) = IsAmong kind.DisplayHelp kinds
IsRequested named kinds Release = IsAmong kind.DisplayVersion kinds
IsRequested named kinds (Usage text) = IsRefused kinds ⊎ NamesNothing named
IsRequested named kinds (Join captures file) = Names named (Join captures file)
IsRequested named kinds (Policy file listening relaying translated) = Names named (Policy file listening relaying translated)
IsRequested named kinds (Look request) = Names named (Look request)
IsRequested named kinds (Cut request) = Names named (Cut request)
IsRequested named kinds (Translate request) = Names named (Translate request)
IsRequested named kinds (Reassemble request) = Names named (Reassemble request)
IsRequested named kinds (Users request) = Names named (Users request)
IsRequested named kinds (Ready request) = Names named (Ready request)

-- Which request the arguments name, and when they name none.
use Rattle.std.proofs.Common.{◌≡◌, ◌≢◌, ◌≤◌, ℕ, List, Option, Some, None, inl, inr, arith, ap, subst, sym, codes, length, map, option_map, slice_index, unwrap_or}
use Rattle.clap.specs.Values.{kind_of}
use Rattle.clap.specs.Words.{HasKind, IsAmong, Kinds, Row, Text, all_of, first_of}
use Rattle.clap.specs.declared.error.Error.{Error}
use Rattle.clap.specs.declared.error.kind.ErrorKind.{ErrorKind}
use Rattle.clap.specs.declared.error.kind.ErrorKind.TheVariants as kind
use Rattle.prep_program.specs.declared.command_line.Request.{Request}
use Rattle.prep_program.specs.declared.command_line.Request.TheVariants.{Join, Policy, Look, Cut, Translate, Reassemble, Users, Ready, Help, Release, Usage}
use Rattle.prep_cut.specs.declared.stated.Stated.{Stated}
use Rattle.prep_program.specs.declared.ready.PolicySource.{PolicySource}
use Rattle.prep_program.specs.declared.users.UsersSource.{UsersSource}
use Rattle.prep_program.specs.Requests.{IsRequested, HasAddresses, HasCaptures, HasPolicySource, HasSource, IsStated, Names, NamesNothing, Requests, Says, all_read, command_of, number_named, values_of}
use Rattle.prep_translate.specs.Words.{pair_of}
use Rattle.prep_translate.specs.declared.translation.Translation.{Translation}

-- what a command's own arguments are is what all of the arguments ask for
pub named_is_requested : (named : Option (Text × List Row)) (kinds : Kinds) (request : Request) → Requests named request → IsRequested named kinds request
named_is_requested named kinds (Join captures file) is = is
named_is_requested named kinds (Policy file listening relaying translated) is = is
named_is_requested named kinds (Look request) is = is
named_is_requested named kinds (Cut request) is = is
named_is_requested named kinds (Translate request) is = is
named_is_requested named kinds (Reassemble request) is = is
named_is_requested named kinds (Users request) is = is
named_is_requested named kinds (Ready request) is = is
named_is_requested named kinds (Help page) is = absurd is
named_is_requested named kinds Release is = absurd is
named_is_requested named kinds (Usage text) is = inr is

abbrev name_in : Text → Option (Text × List Row) → Text
name_in other None = other
name_in other (Some p) = p.0

abbrev rows_in : List Row → Option (Text × List Row) → List Row
rows_in other None = other
rows_in other (Some p) = p.1

-- nothing is named where no request of that command has what the arguments say
pub none_of : (name : Text) (rows : List Row) → ((request : Request) → name ≡ command_of request → Says rows request → ⊥) → NamesNothing (Some (name, rows))
none_of name rows lacks request named = lacks request (ap (name_in name) named.1) (subst (λ r. Says r request) (sym (ap (rows_in rows) named.1)) named.2)

-- the first letters of commands differ
abbrev pub letter : Text → ℕ
letter name = slice_index name 0

-- but for those of two, whose fourth letters do
abbrev pub fourth : Text → ℕ
fourth name = slice_index name 3

-- what `join` needs isn't there
only_join : (rows : List Row) → ((file : Text) (names : List Text) → first_of (codes "out") rows ≡ Some file → all_of (codes "captures") rows ≡ Some names → ⊥) → (request : Request) → codes "join" ≡ command_of request → Says rows request → ⊥
only_join rows lacks (Join captures file) is says = lacks file.now (map (λ name. name.now) captures.items) says.0 says.1
only_join rows lacks (Policy file listening relaying translated) is says = absurd (omega (arith, ap letter is))
only_join rows lacks (Look request) is says = absurd (omega (arith, ap letter is))
only_join rows lacks (Cut request) is says = absurd (omega (arith, ap letter is))
only_join rows lacks (Translate request) is says = absurd (omega (arith, ap letter is))
only_join rows lacks (Reassemble request) is says = absurd (omega (arith, ap letter is))
only_join rows lacks (Users request) is says = absurd (omega (arith, ap letter is))
only_join rows lacks (Ready request) is says = absurd (omega (arith, ap letter is))
only_join rows lacks (Help page) is says = says
only_join rows lacks Release is says = says
only_join rows lacks (Usage text) is says = says

pub no_join : (rows : List Row) → ((file : Text) (names : List Text) → first_of (codes "out") rows ≡ Some file → all_of (codes "captures") rows ≡ Some names → ⊥) → NamesNothing (Some (codes "join", rows))
no_join rows lacks = none_of (codes "join") rows (only_join rows lacks)

-- what `policy` needs isn't there
only_policy : (rows : List Row) → ((file : Text) (listening relaying : List ℕ) → first_of (codes "turnserver-conf") rows ≡ Some file → HasAddresses (codes "listening-ip") rows listening → HasAddresses (codes "relay-ip") rows relaying → ⊥) → (request : Request) → codes "policy" ≡ command_of request → Says rows request → ⊥
only_policy rows lacks (Join captures file) is says = absurd (omega (arith, ap letter is))
only_policy rows lacks (Policy file listening relaying translated) is says = lacks file.now listening.items relaying.items says.0 says.1 says.2
only_policy rows lacks (Look request) is says = absurd (omega (arith, ap letter is))
only_policy rows lacks (Cut request) is says = absurd (omega (arith, ap letter is))
only_policy rows lacks (Translate request) is says = absurd (omega (arith, ap letter is))
only_policy rows lacks (Reassemble request) is says = absurd (omega (arith, ap letter is))
only_policy rows lacks (Users request) is says = absurd (omega (arith, ap letter is))
only_policy rows lacks (Ready request) is says = absurd (omega (arith, ap letter is))
only_policy rows lacks (Help page) is says = says
only_policy rows lacks Release is says = says
only_policy rows lacks (Usage text) is says = says

pub no_policy : (rows : List Row) → ((file : Text) (listening relaying : List ℕ) → first_of (codes "turnserver-conf") rows ≡ Some file → HasAddresses (codes "listening-ip") rows listening → HasAddresses (codes "relay-ip") rows relaying → ⊥) → NamesNothing (Some (codes "policy", rows))
no_policy rows lacks = none_of (codes "policy") rows (only_policy rows lacks)

-- what `look` needs isn't there
only_look : (rows : List Row) → ((names : List Text) (lifetime : ℕ) → HasCaptures rows names → option_map (λ stated. unwrap_or stated 3600) (number_named 1000000000 (codes "lifetime") rows) ≡ Some lifetime → ⊥) → (request : Request) → codes "look" ≡ command_of request → Says rows request → ⊥
only_look rows lacks (Join captures file) is says = absurd (omega (arith, ap letter is))
only_look rows lacks (Policy file listening relaying translated) is says = absurd (omega (arith, ap letter is))
only_look rows lacks (Look request) is says = lacks (map (λ name. name.now) request.captures.items) request.lifetime says.0 says.2
only_look rows lacks (Cut request) is says = absurd (omega (arith, ap letter is))
only_look rows lacks (Translate request) is says = absurd (omega (arith, ap letter is))
only_look rows lacks (Reassemble request) is says = absurd (omega (arith, ap letter is))
only_look rows lacks (Users request) is says = absurd (omega (arith, ap letter is))
only_look rows lacks (Ready request) is says = absurd (omega (arith, ap letter is))
only_look rows lacks (Help page) is says = says
only_look rows lacks Release is says = says
only_look rows lacks (Usage text) is says = says

pub no_look : (rows : List Row) → ((names : List Text) (lifetime : ℕ) → HasCaptures rows names → option_map (λ stated. unwrap_or stated 3600) (number_named 1000000000 (codes "lifetime") rows) ≡ Some lifetime → ⊥) → NamesNothing (Some (codes "look", rows))
no_look rows lacks = none_of (codes "look") rows (only_look rows lacks)

-- what `cut` needs isn't there
only_cut : (rows : List Row) → ((names : List Text) (policy folder : Text) (stated : Stated) → HasCaptures rows names → first_of (codes "policy") rows ≡ Some policy → first_of (codes "out") rows ≡ Some folder → IsStated rows stated → ⊥) → (request : Request) → codes "cut" ≡ command_of request → Says rows request → ⊥
only_cut rows lacks (Join captures file) is says = absurd (omega (arith, ap letter is))
only_cut rows lacks (Policy file listening relaying translated) is says = absurd (omega (arith, ap letter is))
only_cut rows lacks (Look request) is says = absurd (omega (arith, ap letter is))
only_cut rows lacks (Cut request) is says = lacks (map (λ name. name.now) request.captures.items) request.policy.now request.folder.now request.stated says.0 says.1 says.2 says.3
only_cut rows lacks (Translate request) is says = absurd (omega (arith, ap letter is))
only_cut rows lacks (Reassemble request) is says = absurd (omega (arith, ap letter is))
only_cut rows lacks (Users request) is says = absurd (omega (arith, ap letter is))
only_cut rows lacks (Ready request) is says = absurd (omega (arith, ap letter is))
only_cut rows lacks (Help page) is says = says
only_cut rows lacks Release is says = says
only_cut rows lacks (Usage text) is says = says

pub no_cut : (rows : List Row) → ((names : List Text) (policy folder : Text) (stated : Stated) → HasCaptures rows names → first_of (codes "policy") rows ≡ Some policy → first_of (codes "out") rows ≡ Some folder → IsStated rows stated → ⊥) → NamesNothing (Some (codes "cut", rows))
no_cut rows lacks = none_of (codes "cut") rows (only_cut rows lacks)

-- what `translate` needs isn't there
only_translate : (rows : List Row) → ((names : List Text) (policy folder : Text) (pairs : List Translation) → HasCaptures rows names → first_of (codes "policy") rows ≡ Some policy → first_of (codes "out") rows ≡ Some folder
    → length (values_of (codes "external-ip") rows) ≤ 64 → all_read pair_of (values_of (codes "external-ip") rows) ≡ Some pairs → ⊥) → (request : Request) → codes "translate" ≡ command_of request → Says rows request → ⊥
only_translate rows lacks (Join captures file) is says = absurd (omega (arith, ap letter is))
only_translate rows lacks (Policy file listening relaying translated) is says = absurd (omega (arith, ap letter is))
only_translate rows lacks (Look request) is says = absurd (omega (arith, ap letter is))
only_translate rows lacks (Cut request) is says = absurd (omega (arith, ap letter is))
only_translate rows lacks (Translate request) is says = lacks (map (λ name. name.now) request.captures.items) request.policy.now request.folder.now request.translations.items says.0 says.1 says.2 says.3 says.4
only_translate rows lacks (Reassemble request) is says = absurd (omega (arith, ap letter is))
only_translate rows lacks (Users request) is says = absurd (omega (arith, ap letter is))
only_translate rows lacks (Ready request) is says = absurd (omega (arith, ap letter is))
only_translate rows lacks (Help page) is says = says
only_translate rows lacks Release is says = says
only_translate rows lacks (Usage text) is says = says

pub no_translate : (rows : List Row) → ((names : List Text) (policy folder : Text) (pairs : List Translation) → HasCaptures rows names → first_of (codes "policy") rows ≡ Some policy → first_of (codes "out") rows ≡ Some folder
    → length (values_of (codes "external-ip") rows) ≤ 64 → all_read pair_of (values_of (codes "external-ip") rows) ≡ Some pairs → ⊥) → NamesNothing (Some (codes "translate", rows))
no_translate rows lacks = none_of (codes "translate") rows (only_translate rows lacks)

-- what `reassemble` needs isn't there
only_reassemble : (rows : List Row) → ((names : List Text) (folder : Text) → HasCaptures rows names → first_of (codes "out") rows ≡ Some folder → ⊥) → (request : Request) → codes "reassemble" ≡ command_of request → Says rows request → ⊥
only_reassemble rows lacks (Join captures file) is says = absurd (omega (arith, ap letter is))
only_reassemble rows lacks (Policy file listening relaying translated) is says = absurd (omega (arith, ap letter is))
only_reassemble rows lacks (Look request) is says = absurd (omega (arith, ap letter is))
only_reassemble rows lacks (Cut request) is says = absurd (omega (arith, ap letter is))
only_reassemble rows lacks (Translate request) is says = absurd (omega (arith, ap letter is))
only_reassemble rows lacks (Reassemble request) is says = lacks (map (λ name. name.now) request.captures.items) request.folder.now says.0 says.1
only_reassemble rows lacks (Users request) is says = absurd (omega (arith, ap letter is))
only_reassemble rows lacks (Ready request) is says = absurd (omega (arith, ap fourth is))
only_reassemble rows lacks (Help page) is says = says
only_reassemble rows lacks Release is says = says
only_reassemble rows lacks (Usage text) is says = says

pub no_reassemble : (rows : List Row) → ((names : List Text) (folder : Text) → HasCaptures rows names → first_of (codes "out") rows ≡ Some folder → ⊥) → NamesNothing (Some (codes "reassemble", rows))
no_reassemble rows lacks = none_of (codes "reassemble") rows (only_reassemble rows lacks)

-- what `users` needs isn't there
only_users : (rows : List Row) → ((source : UsersSource) → HasSource rows source → ⊥) → (request : Request) → codes "users" ≡ command_of request → Says rows request → ⊥
only_users rows lacks (Join captures file) is says = absurd (omega (arith, ap letter is))
only_users rows lacks (Policy file listening relaying translated) is says = absurd (omega (arith, ap letter is))
only_users rows lacks (Look request) is says = absurd (omega (arith, ap letter is))
only_users rows lacks (Cut request) is says = absurd (omega (arith, ap letter is))
only_users rows lacks (Translate request) is says = absurd (omega (arith, ap letter is))
only_users rows lacks (Reassemble request) is says = absurd (omega (arith, ap letter is))
only_users rows lacks (Users request) is says = lacks request.source says.0
only_users rows lacks (Ready request) is says = absurd (omega (arith, ap letter is))
only_users rows lacks (Help page) is says = says
only_users rows lacks Release is says = says
only_users rows lacks (Usage text) is says = says

pub no_users : (rows : List Row) → ((source : UsersSource) → HasSource rows source → ⊥) → NamesNothing (Some (codes "users", rows))
no_users rows lacks = none_of (codes "users") rows (only_users rows lacks)

-- what `ready` needs isn't there
only_ready : (rows : List Row) → ((source : PolicySource) (folder : Text) (names : List Text) (stated : Stated) → HasPolicySource rows source → first_of (codes "out") rows ≡ Some folder → all_of (codes "captures") rows ≡ Some names → IsStated rows stated → ⊥) → (request : Request) → codes "ready" ≡ command_of request → Says rows request → ⊥
only_ready rows lacks (Join captures file) is says = absurd (omega (arith, ap letter is))
only_ready rows lacks (Policy file listening relaying translated) is says = absurd (omega (arith, ap letter is))
only_ready rows lacks (Look request) is says = absurd (omega (arith, ap letter is))
only_ready rows lacks (Cut request) is says = absurd (omega (arith, ap letter is))
only_ready rows lacks (Translate request) is says = absurd (omega (arith, ap letter is))
only_ready rows lacks (Reassemble request) is says = absurd (omega (arith, ap fourth is))
only_ready rows lacks (Users request) is says = absurd (omega (arith, ap letter is))
only_ready rows lacks (Ready request) is says = lacks request.source request.folder.now (map (λ name. name.now) request.captures.items) request.stated says.0 says.2 says.3 says.4
only_ready rows lacks (Help page) is says = says
only_ready rows lacks Release is says = says
only_ready rows lacks (Usage text) is says = says

pub no_ready : (rows : List Row) → ((source : PolicySource) (folder : Text) (names : List Text) (stated : Stated) → HasPolicySource rows source → first_of (codes "out") rows ≡ Some folder → all_of (codes "captures") rows ≡ Some names → IsStated rows stated → ⊥) → NamesNothing (Some (codes "ready", rows))
no_ready rows lacks = none_of (codes "ready") rows (only_ready rows lacks)

-- no command is named where each of the eight isn't
pub none_of_eight : (named : Option (Text × List Row))
    → ((rows : List Row) → named ≡ Some (codes "join", rows) → ⊥)
    → ((rows : List Row) → named ≡ Some (codes "policy", rows) → ⊥)
    → ((rows : List Row) → named ≡ Some (codes "look", rows) → ⊥)
    → ((rows : List Row) → named ≡ Some (codes "cut", rows) → ⊥)
    → ((rows : List Row) → named ≡ Some (codes "translate", rows) → ⊥)
    → ((rows : List Row) → named ≡ Some (codes "users", rows) → ⊥)
    → ((rows : List Row) → named ≡ Some (codes "reassemble", rows) → ⊥)
    → ((rows : List Row) → named ≡ Some (codes "ready", rows) → ⊥)
    → NamesNothing named
none_of_eight named join policy look cut translate users reassemble ready (Join captures file) names = join names.0 names.1
none_of_eight named join policy look cut translate users reassemble ready (Policy file listening relaying translated) names = policy names.0 names.1
none_of_eight named join policy look cut translate users reassemble ready (Look request) names = look names.0 names.1
none_of_eight named join policy look cut translate users reassemble ready (Cut request) names = cut names.0 names.1
none_of_eight named join policy look cut translate users reassemble ready (Translate request) names = translate names.0 names.1
none_of_eight named join policy look cut translate users reassemble ready (Reassemble request) names = reassemble names.0 names.1
none_of_eight named join policy look cut translate users reassemble ready (Users request) names = users names.0 names.1
none_of_eight named join policy look cut translate users reassemble ready (Ready request) names = ready names.0 names.1
none_of_eight named join policy look cut translate users reassemble ready (Help page) names = names.2
none_of_eight named join policy look cut translate users reassemble ready Release names = names.2
none_of_eight named join policy look cut translate users reassemble ready (Usage text) names = names.2

-- an error's kind is one of those that may come, unless memory ran out
pub is_among : (error : Error) (kinds : Kinds) (k : ErrorKind) → HasKind kinds error → kind_of error ≢ kind.OutOfMemory → kind_of error ≡ k → IsAmong k kinds
is_among error kinds k has no_memory is = elim has [
  | inl memory ↦ absurd (no_memory memory)
  | inr among ↦ subst (λ one. IsAmong one kinds) is among
]

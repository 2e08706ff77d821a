-- Which request words name, and when they name none.
use Rattle.std.proofs.Common.{◌≡◌, ◌≢◌, ℕ, List, Option, Some, None, inl, inr, arith, ap, subst, sym, codes, slice_index}
use Rattle.clap.specs.Values.{kind_of}
use Rattle.clap.specs.Words.{HasKind, IsAmong, Kinds, Row, Text, first_of}
use Rattle.clap.specs.declared.error.Error.{Error}
use Rattle.clap.specs.declared.error.kind.ErrorKind.{ErrorKind}
use Rattle.clap.specs.declared.error.kind.ErrorKind.TheVariants as kind
use Rattle.explain_program.specs.declared.command_line.Subject.TheVariants.{Verdict, Lanes, Client}
use Rattle.explain_program.specs.declared.command_line.Inputs.{Inputs}
use Rattle.explain_program.specs.declared.command_line.Request.{Request}
use Rattle.explain_program.specs.declared.command_line.Request.TheVariants.{Explain, AsJson, Faults, Evidence, Help, Release, Usage}
use Rattle.explain_program.specs.Words.{AreNamed, IsRequested, HasNumber, Names, NamesNothing}

-- what names a command asks for it
pub named_is_requested : (named : Option (Text × List Row)) (kinds : Kinds) (request : Request) → Names named request → IsRequested named kinds request
named_is_requested named kinds (Explain inputs what) names = names
named_is_requested named kinds (AsJson inputs what) names = names
named_is_requested named kinds (Faults inputs) names = names
named_is_requested named kinds (Evidence inputs file list) names = names
named_is_requested named kinds (Help page) names = absurd names
named_is_requested named kinds Release names = absurd names
named_is_requested named kinds (Usage text) names = absurd names

-- the first letter of the command that is named, by which the five differ
abbrev letter : Option (Text × List Row) → ℕ
letter None = 0
letter (Some p) = slice_index p.0 0

abbrev rows_in : List Row → Option (Text × List Row) → List Row
rows_in other None = other
rows_in other (Some p) = p.1

-- every command names files
pub no_inputs : (command : Text) (rows : List Row) → ((inputs : Inputs) → AreNamed rows inputs → ⊥) → NamesNothing (Some (command, rows))
no_inputs command rows lacks (Explain inputs what) named = lacks inputs (subst (λ r. AreNamed r inputs) (sym (ap (rows_in rows) named.1)) named.2)
no_inputs command rows lacks (AsJson inputs what) named = lacks inputs (subst (λ r. AreNamed r inputs) (sym (ap (rows_in rows) named.1)) named.2)
no_inputs command rows lacks (Faults inputs) named = lacks inputs (subst (λ r. AreNamed r inputs) (sym (ap (rows_in rows) named.1)) named.2)
no_inputs command rows lacks (Evidence inputs file list) named = lacks inputs (subst (λ r. AreNamed r inputs) (sym (ap (rows_in rows) named.1)) named.2)
no_inputs command rows lacks (Help page) named = named
no_inputs command rows lacks Release named = named
no_inputs command rows lacks (Usage text) named = named

module _ (rows : List Row) where
  -- `client` needs two numbers
  pub no_client : ((number events : ℕ) → HasNumber (codes "lane") rows number → HasNumber (codes "around") rows events → ⊥) → NamesNothing (Some (codes "client", rows))
  no_client lacks (Explain inputs (Verdict percent)) named = absurd (omega (arith, ap letter named.1))
  no_client lacks (Explain inputs (Lanes broken)) named = absurd (omega (arith, ap letter named.1))
  no_client lacks (Explain inputs (Client number events)) named =
      let same = ap (rows_in rows) named.1 in
      lacks number events (subst (λ r. HasNumber (codes "lane") r number) (sym same) named.4.0) (subst (λ r. HasNumber (codes "around") r events) (sym same) named.4.1)
  no_client lacks (AsJson inputs (Verdict percent)) named = absurd (omega (arith, ap letter named.1))
  no_client lacks (AsJson inputs (Lanes broken)) named = absurd (omega (arith, ap letter named.1))
  no_client lacks (AsJson inputs (Client number events)) named =
      let same = ap (rows_in rows) named.1 in
      lacks number events (subst (λ r. HasNumber (codes "lane") r number) (sym same) named.4.0) (subst (λ r. HasNumber (codes "around") r events) (sym same) named.4.1)
  no_client lacks (Faults inputs) named = absurd (omega (arith, ap letter named.1))
  no_client lacks (Evidence inputs file list) named = absurd (omega (arith, ap letter named.1))
  no_client lacks (Help page) named = named
  no_client lacks Release named = named
  no_client lacks (Usage text) named = named

  -- `evidence` needs a file
  pub no_evidence : ((file : Text) → first_of (codes "output") rows ≡ Some file → ⊥) → NamesNothing (Some (codes "evidence", rows))
  no_evidence lacks (Explain inputs (Verdict percent)) named = absurd (omega (arith, ap letter named.1))
  no_evidence lacks (Explain inputs (Lanes broken)) named = absurd (omega (arith, ap letter named.1))
  no_evidence lacks (Explain inputs (Client number events)) named = absurd (omega (arith, ap letter named.1))
  no_evidence lacks (AsJson inputs (Verdict percent)) named = absurd (omega (arith, ap letter named.1))
  no_evidence lacks (AsJson inputs (Lanes broken)) named = absurd (omega (arith, ap letter named.1))
  no_evidence lacks (AsJson inputs (Client number events)) named = absurd (omega (arith, ap letter named.1))
  no_evidence lacks (Faults inputs) named = absurd (omega (arith, ap letter named.1))
  no_evidence lacks (Evidence inputs file list) named = lacks file.now (subst (λ r. first_of (codes "output") r ≡ Some file.now) (sym (ap (rows_in rows) named.1)) named.4)
  no_evidence lacks (Help page) named = named
  no_evidence lacks Release named = named
  no_evidence lacks (Usage text) named = named

-- no command is named where each of the five isn't
pub none_of_five : (subcommand : Option (Text × List Row)) → ((rows : List Row) → subcommand ≡ Some (codes "verdict", rows) → ⊥) → ((rows : List Row) → subcommand ≡ Some (codes "lanes", rows) → ⊥)
    → ((rows : List Row) → subcommand ≡ Some (codes "client", rows) → ⊥) → ((rows : List Row) → subcommand ≡ Some (codes "faults", rows) → ⊥) → ((rows : List Row) → subcommand ≡ Some (codes "evidence", rows) → ⊥)
    → NamesNothing subcommand
none_of_five subcommand verdict lanes client faults evidence (Explain inputs (Verdict percent)) named = verdict named.0 named.1
none_of_five subcommand verdict lanes client faults evidence (Explain inputs (Lanes broken)) named = lanes named.0 named.1
none_of_five subcommand verdict lanes client faults evidence (Explain inputs (Client number events)) named = client named.0 named.1
none_of_five subcommand verdict lanes client faults evidence (AsJson inputs (Verdict percent)) named = verdict named.0 named.1
none_of_five subcommand verdict lanes client faults evidence (AsJson inputs (Lanes broken)) named = lanes named.0 named.1
none_of_five subcommand verdict lanes client faults evidence (AsJson inputs (Client number events)) named = client named.0 named.1
none_of_five subcommand verdict lanes client faults evidence (Faults inputs) named = faults named.0 named.1
none_of_five subcommand verdict lanes client faults evidence (Evidence inputs file list) named = evidence named.0 named.1
none_of_five subcommand verdict lanes client faults evidence (Help page) named = named
none_of_five subcommand verdict lanes client faults evidence Release named = named
none_of_five subcommand verdict lanes client faults evidence (Usage text) named = named

-- an error's kind is one of those that may come, unless memory ran out
pub is_among : (error : Error) (kinds : Kinds) (k : ErrorKind) → HasKind kinds error → kind_of error ≢ kind.OutOfMemory → kind_of error ≡ k → IsAmong k kinds
is_among error kinds k has no_memory is = elim has [
  | inl memory ↦ absurd (no_memory memory)
  | inr among ↦ subst (λ one. IsAmong one kinds) is among
]

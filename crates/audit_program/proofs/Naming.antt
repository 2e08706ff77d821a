-- Which request words name, and when they name none.
use Rattle.std.proofs.Common.{◌≡◌, ◌≢◌, ℕ, List, Option, Some, None, inl, inr, arith, ap, subst, sym, codes, slice_index}
use Rattle.audit_files.specs.declared.workers.Workers.{Workers}
use Rattle.clap.specs.Values.{kind_of}
use Rattle.clap.specs.Words.{HasKind, IsAmong, Kinds, Row, Text, first_of}
use Rattle.clap.specs.declared.error.Error.{Error}
use Rattle.clap.specs.declared.error.kind.ErrorKind.{ErrorKind}
use Rattle.clap.specs.declared.error.kind.ErrorKind.TheVariants as kind
use Rattle.audit_program.specs.declared.command_line.Inputs.{Inputs}
use Rattle.audit_program.specs.declared.command_line.Turns.{Turns}
use Rattle.audit_program.specs.declared.command_line.Request.{Request}
use Rattle.audit_program.specs.declared.command_line.Request.TheVariants.{Check, Audit, Find, Live, Help, Release, Usage}
use Rattle.audit_program.specs.Words.{AreNamed, IsRequested, HasNumber, Names, NamesNothing}

-- what names a command requests it
pub named_is_requested : (subcommand : Option (Text × List Row)) (kinds : Kinds) (request : Request) → Names subcommand request → IsRequested subcommand kinds request
named_is_requested subcommand kinds (Check inputs certificate workers) named = named
named_is_requested subcommand kinds (Audit inputs workers) named = named
named_is_requested subcommand kinds (Find inputs workers) named = named
named_is_requested subcommand kinds (Live inputs turns) named = named
named_is_requested subcommand kinds (Help page) named = absurd named
named_is_requested subcommand kinds Release named = absurd named
named_is_requested subcommand kinds (Usage text) named = absurd named

-- no command is named where each of the four isn't
pub none_of_four : (subcommand : Option (Text × List Row)) →
    ((inputs : Inputs) (certificate : _) (workers : Workers) → Names subcommand (Check inputs certificate workers) → ⊥) →
    ((inputs : Inputs) (workers : Workers) → Names subcommand (Audit inputs workers) → ⊥) →
    ((inputs : Inputs) (workers : Workers) → Names subcommand (Find inputs workers) → ⊥) →
    ((inputs : Inputs) (turns : Turns) → Names subcommand (Live inputs turns) → ⊥) → NamesNothing subcommand
none_of_four subcommand check audit find live (Check inputs certificate workers) named = check inputs certificate workers named
none_of_four subcommand check audit find live (Audit inputs workers) named = audit inputs workers named
none_of_four subcommand check audit find live (Find inputs workers) named = find inputs workers named
none_of_four subcommand check audit find live (Live inputs turns) named = live inputs turns named
none_of_four subcommand check audit find live (Help page) named = named
none_of_four subcommand check audit find live Release named = named
none_of_four subcommand check audit find live (Usage text) named = named

-- the first letter of the command that is named, by which the four differ
abbrev letter : Option (Text × List Row) → ℕ
letter None = 0
letter (Some p) = slice_index p.0 0

abbrev rows_in : List Row → Option (Text × List Row) → List Row
rows_in other None = other
rows_in other (Some p) = p.1

module _ (rows : List Row) where
  pub no_audit : ((inputs : Inputs) (workers : Workers) → AreNamed rows inputs → HasNumber (codes "workers") rows workers.count → ⊥) → NamesNothing (Some (codes "audit", rows))
  no_audit lacks = none_of_four (Some (codes "audit", rows))
      (λ inputs certificate workers named. absurd (omega (arith, ap letter named.1)))
      (λ inputs workers named. let same = ap (rows_in rows) named.1 in
      lacks inputs workers (subst (λ r. AreNamed r inputs) (sym same) named.2) (subst (λ r. HasNumber (codes "workers") r workers.count) (sym same) named.3))
      (λ inputs workers named. absurd (omega (arith, ap letter named.1)))
      (λ inputs turns named. absurd (omega (arith, ap letter named.1)))

  pub no_find : ((inputs : Inputs) (workers : Workers) → AreNamed rows inputs → HasNumber (codes "workers") rows workers.count → ⊥) → NamesNothing (Some (codes "find", rows))
  no_find lacks = none_of_four (Some (codes "find", rows))
      (λ inputs certificate workers named. absurd (omega (arith, ap letter named.1)))
      (λ inputs workers named. absurd (omega (arith, ap letter named.1)))
      (λ inputs workers named. let same = ap (rows_in rows) named.1 in
      lacks inputs workers (subst (λ r. AreNamed r inputs) (sym same) named.2) (subst (λ r. HasNumber (codes "workers") r workers.count) (sym same) named.3))
      (λ inputs turns named. absurd (omega (arith, ap letter named.1)))

  pub no_live : ((inputs : Inputs) (turns : Turns) → AreNamed rows inputs → HasNumber (codes "idle") rows turns.idle → HasNumber (codes "turns") rows turns.most → ⊥) → NamesNothing (Some (codes "live", rows))
  no_live lacks = none_of_four (Some (codes "live", rows))
      (λ inputs certificate workers named. absurd (omega (arith, ap letter named.1)))
      (λ inputs workers named. absurd (omega (arith, ap letter named.1)))
      (λ inputs workers named. absurd (omega (arith, ap letter named.1)))
      (λ inputs turns named. let same = ap (rows_in rows) named.1 in
      lacks inputs turns (subst (λ r. AreNamed r inputs) (sym same) named.2) (subst (λ r. HasNumber (codes "idle") r turns.idle) (sym same) named.3)
      (subst (λ r. HasNumber (codes "turns") r turns.most) (sym same) named.4))

  pub no_check : ((inputs : Inputs) (certificate : Text) (workers : Workers) → AreNamed rows inputs → first_of (codes "cert") rows ≡ Some certificate →
      HasNumber (codes "workers") rows workers.count → ⊥) → NamesNothing (Some (codes "check", rows))
  no_check lacks = none_of_four (Some (codes "check", rows))
      (λ inputs certificate workers named. let same = ap (rows_in rows) named.1 in
      lacks inputs certificate.now workers (subst (λ r. AreNamed r inputs) (sym same) named.2) (subst (λ r. first_of (codes "cert") r ≡ Some certificate.now) (sym same) named.3)
      (subst (λ r. HasNumber (codes "workers") r workers.count) (sym same) named.4))
      (λ inputs workers named. absurd (omega (arith, ap letter named.1)))
      (λ inputs workers named. absurd (omega (arith, ap letter named.1)))
      (λ inputs turns named. absurd (omega (arith, ap letter named.1)))

-- an error's kind is one of those that may come, unless memory ran out
pub is_among : (error : Error) (kinds : Kinds) (k : ErrorKind) → HasKind kinds error → kind_of error ≢ kind.OutOfMemory → kind_of error ≡ k → IsAmong k kinds
is_among error kinds k has no_memory is = elim has [
  | inl memory ↦ absurd (no_memory memory)
  | inr among ↦ subst (λ one. IsAmong one kinds) is among
]

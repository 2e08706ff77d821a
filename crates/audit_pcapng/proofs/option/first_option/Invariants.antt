use Rattle.std.proofs.Common.{◌≡◌, ◌-◌, length}
use Rattle.std.specs.Option.{option_map}
use Rattle.audit_pcapng.specs.Options.{options, first_option}
use Rattle.audit_pcapng.proofs.OptionSteps.{rest_of}
use Rattle.audit_pcapng.proofs.option.first_option.Given as goal

abbrev pub invariant-loop : goal.invariant-loop
invariant-loop l = rest_of l.code (option_map (λ value. value.now) l.found) (options (length l.list - l.counter) l.order l.rest) ≡ first_option l.order l.list l.code

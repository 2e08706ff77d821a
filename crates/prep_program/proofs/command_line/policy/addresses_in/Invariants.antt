use Rattle.std.proofs.Common.{◌≡◌, ◌++◌, drop, map, option_map}
use Rattle.audit_model.specs.AddressText.{ip_of}
use Rattle.prep_program.specs.Requests.{all_read}
use Rattle.prep_program.proofs.command_line.policy.addresses_in.Given as goal

-- what was read so far and what the rest is read as are what all are read as
abbrev pub invariant-loop-word : goal.invariant-loop-word
invariant-loop-word l =
    option_map (λ rest. l.addresses.items ++ rest) (all_read ip_of (map (λ word. word.now) (drop l.word-index l.words))) ≡ all_read ip_of (map (λ word. word.now) l.words)

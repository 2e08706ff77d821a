use Rattle.std.proofs.Common.{◌≡◌, take}
use Rattle.std.specs.List.{flat_map}
use Rattle.prep_users.specs.Accounts.{line_of}
use Rattle.prep_users.proofs.lines.text_of.Given as goal

abbrev pub invariant-loop-account : goal.invariant-loop-account
invariant-loop-account l = l.text.items ≡ flat_map line_of (take l.account-index l.accounts)

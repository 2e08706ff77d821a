-- The text of a policy.
use Rattle.std.specs.Prelude.{ℕ, List, ◌++◌, codes}
use Rattle.std.specs.Fmt.{decimal}
use Rattle.std.specs.List.{flat_map}
use Rattle.audit_model.specs.declared.address.Addr.{Addr}
use Rattle.audit_model.specs.declared.policy.PortRange.{PortRange}
use Rattle.audit_model.specs.Addr.{addr_text}
use Rattle.prep_coturn.specs.declared.plan.Plan.{Plan}

abbrev pub listen_line : Addr → List ℕ
listen_line addr = codes "listen " ++ addr_text addr ++ codes "\n"

abbrev pub relay_line : PortRange → List ℕ
relay_line range = codes "relay " ++ addr_text (record { ip = range.ip; port = range.low }) ++ codes "-" ++ decimal range.high ++ codes "\n"

abbrev pub text_of : Plan → List ℕ
text_of plan = codes "turnaudit-policy 1\n" ++ flat_map listen_line plan.listens ++ flat_map relay_line plan.relays

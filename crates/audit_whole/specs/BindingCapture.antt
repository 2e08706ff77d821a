-- A capture of two datagrams: a Binding request, and the success response with the client's address
-- (RFC 8489, section 2).
use Rattle.std.specs.Prelude.{ℕ, List, [], ◌∷◌}
use Rattle.audit_model.specs.declared.address.Addr.{Addr}
use Rattle.audit_model.specs.declared.pair.Pair.{Pair}
use Rattle.audit_model.specs.declared.policy.Policy.{Policy}
use Rattle.audit_model.specs.declared.sighting.SightId.{SightId}
use Rattle.audit_model.specs.declared.sighting.Sighting.{Sighting}
use Rattle.audit_model.specs.declared.sighting.Side.TheVariants.{Arrives, Leaves}
use Rattle.audit_sightings.specs.Intake.{Taken}
use Rattle.audit_server.specs.Step.{Step, In, Act, Out}

-- 198.51.100.7:40000 and 192.0.2.1:3478
abbrev pub the_client : Addr
the_client = record { ip = 3325256711; port = 40000 }

abbrev pub the_server : Addr
the_server = record { ip = 3221225985; port = 3478 }

abbrev pub the_pair : Pair
the_pair = record { client = the_client; listen = the_server }

-- with the default tolerances, in nanoseconds
abbrev pub the_policy : Policy
the_policy = record { listen = the_server ∷ []; relay = []; skew = 500000; skews = []; grace = 1000000000; hold = 2000000000 }

-- the type, the length, the cookie, the transaction id
abbrev pub request_payload : List ℕ
request_payload = 0 ∷ 1 ∷ 0 ∷ 0 ∷ 33 ∷ 18 ∷ 164 ∷ 66 ∷ 1 ∷ 2 ∷ 3 ∷ 4 ∷ 5 ∷ 6 ∷ 7 ∷ 8 ∷ 9 ∷ 10 ∷ 11 ∷ 12 ∷ []

-- and XOR-MAPPED-ADDRESS with the client's address
abbrev pub success_payload : List ℕ
success_payload =
    1 ∷ 1 ∷ 0 ∷ 12 ∷ 33 ∷ 18 ∷ 164 ∷ 66 ∷ 1 ∷ 2 ∷ 3 ∷ 4 ∷ 5 ∷ 6 ∷ 7 ∷ 8 ∷ 9 ∷ 10 ∷ 11 ∷ 12
    ∷ 0 ∷ 32 ∷ 0 ∷ 8 ∷ 0 ∷ 1 ∷ 189 ∷ 82 ∷ 231 ∷ 33 ∷ 192 ∷ 69 ∷ []

abbrev pub request_name : SightId
request_name = record { iface = 0; index = 0 }

abbrev pub success_name : SightId
success_name = record { iface = 0; index = 1 }

-- seen at 10 and 11 milliseconds
abbrev pub the_request : Sighting
the_request = record { payload = request_payload; stamp = 10000000; lo = 9500000; hi = 10500000; id = request_name; from = the_client; to = the_server; side = Arrives }

abbrev pub the_success : Sighting
the_success = record { payload = success_payload; stamp = 11000000; lo = 10500000; hi = 11500000; id = success_name; from = the_server; to = the_client; side = Leaves }

abbrev pub binding_capture : Taken
binding_capture = record { policy = the_policy; files = 1; interfaces = (the_request ∷ the_success ∷ []) ∷ [] }

-- it arrives, the server acts on it, and the success response leaves
abbrev pub binding_steps : List Step
binding_steps =
    record { moment = 10000000; move = In request_name }
    ∷ record { moment = 10000100; move = Act the_pair request_name success_name }
    ∷ record { moment = 11000000; move = Out success_name } ∷ []

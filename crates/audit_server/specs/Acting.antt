-- Which client acts on a sighting, and which clients act.
use Rattle.std.specs.Prelude.{◌||◌, Option, Some, None, List, [], ◌∷◌, if◌then◌else◌}
use Rattle.std.specs.List.{list_any}
use Rattle.audit_model.specs.declared.pair.Pair.{Pair}
use Rattle.audit_model.specs.declared.sighting.SightId.{SightId}
use Rattle.audit_model.specs.Sames.{same_sight, same_client}
use Rattle.audit_server.specs.Step.{Step, Move, In, Act, Out}

-- the client of this move, if it names the sighting, or else another
abbrev pub acting_by : SightId → Move → Option Pair → Option Pair
acting_by x (In s) o = o
acting_by x (Act c s t) o = if same_sight x s || same_sight x t then Some c else o
acting_by x (Out t) o = o

-- the client that the first act on a sighting is for
abbrev pub acting : SightId → List Step → Option Pair
acting x [] = None
acting x (e ∷ es) = acting_by x e.move (acting x es)

-- with a client, if it is not there yet
abbrev pub with_pair : Pair → List Pair → List Pair
with_pair p ps = if list_any (λ q. same_client p q) ps then ps else p ∷ ps

abbrev pub pairs_by : Move → List Pair → List Pair
pairs_by (In s) ps = ps
pairs_by (Act c s t) ps = with_pair c ps
pairs_by (Out t) ps = ps

-- the clients that the server acts for, each once
abbrev pub acting_pairs : List Step → List Pair
acting_pairs [] = []
acting_pairs (e ∷ es) = pairs_by e.move (acting_pairs es)

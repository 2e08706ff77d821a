-- Where sightings arrive and leave.
use Rattle.std.specs.Prelude.{ℕ, ◌≡◌, ◌<◌, Bool, false, Option, Some, None, List, [], ◌∷◌, count_by}
use Rattle.std.specs.List.{AllByRecursion}
use Rattle.std.specs.declared.cmp.Ordering.TheVariants.{Less}
use Rattle.audit_model.specs.declared.sighting.SightId.{SightId}
use Rattle.audit_model.specs.Breach.{key_cmp}
use Rattle.audit_model.specs.Sames.{same_sight}
use Rattle.audit_server.specs.Placed.{Placed}
use Rattle.audit_server.specs.Step.{Step, Move, In, Act, Out}

-- the sighting arrives or leaves by this move
abbrev pub places : SightId → Move → Bool
places s (In x) = same_sight x s
places s (Act c x y) = false
places s (Out x) = same_sight x s

-- how often it arrives or leaves
abbrev pub times_placed : SightId → List Step → ℕ
times_placed s steps = count_by (λ (e : Step). places s e.move) steps

-- the sighting that arrives or leaves
abbrev pub placed : Move → Option SightId
placed (In s) = Some s
placed (Act c s t) = None
placed (Out t) = Some t

-- of two sightings of one interface, the later one has the greater place
abbrev pub Follow : Move → Move → Type 0
Follow a b = (s t : SightId) → placed a ≡ Some s → placed b ≡ Some t → s.iface ≡ t.iface → s.index < t.index

-- each interface's sightings are in its order
abbrev pub KeepOrder : List Step → Type 0
KeepOrder [] = Unit {0}
KeepOrder (e ∷ es) = AllByRecursion (λ (d : Step). Follow e.move d.move) es × KeepOrder es

-- of two sightings of one interface, the greater place has the greater key
abbrev pub KeyFollows : Placed → Placed → Type 0
KeyFollows d e = (s t : SightId) → placed d.move ≡ Some s → placed e.move ≡ Some t → s.iface ≡ t.iface → s.index < t.index → key_cmp d.at.key e.at.key ≡ Less

-- along each interface, keys rise
abbrev pub KeysFollow : List Placed → Type 0
KeysFollow events = AllByRecursion (λ d. AllByRecursion (KeyFollows d) events) events

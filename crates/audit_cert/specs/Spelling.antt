-- The one spelling of each certificate. A decimal number has no leading zero.
use Rattle.std.specs.Prelude.{ℕ, List, [], ◌∷◌, ◌++◌, codes, decimal}
use Rattle.std.specs.List.{flat_map}
use Rattle.audit_model.specs.Addr.{addr_text}
use Rattle.audit_model.specs.declared.sighting.SightId.{SightId}
use Rattle.audit_model.specs.declared.event.Key.{Key}
use Rattle.audit_model.specs.declared.event.Event.{Event}
use Rattle.audit_model.specs.declared.event.Event.TheVariants.{In, Act, Out}
use Rattle.audit_model.specs.declared.certificate.CertLane.{CertLane}
use Rattle.audit_model.specs.declared.certificate.CertDrop.{CertDrop}
use Rattle.audit_model.specs.declared.certificate.CertSkew.{CertSkew}
use Rattle.audit_model.specs.declared.certificate.Certificate.{Certificate}
use Rattle.audit_cert.specs.DraftView.{Drafted}

-- `IFACE.INDEX`
abbrev pub sight_text : SightId → List ℕ
sight_text sight = decimal sight.iface ++ (codes "." ++ decimal sight.index)

-- `MOMENT TIE`
abbrev pub key_text : Key → List ℕ
key_text key = decimal key.moment ++ (codes " " ++ decimal key.tie)

-- a sighting, its key and the line's end
abbrev pub placed_text : SightId → Key → List ℕ
placed_text sight key = sight_text sight ++ (codes " " ++ (key_text key ++ codes "\n"))

-- an act names the arrival, then the departure
abbrev pub event_line : Event → List ℕ
event_line (In sight key) = codes "in " ++ placed_text sight key
event_line (Act sight gives key) = codes "act " ++ (sight_text sight ++ (codes " " ++ placed_text gives key))
event_line (Out sight key) = codes "out " ++ placed_text sight key

abbrev pub lane_line : CertLane → List ℕ
lane_line lane = codes "lane " ++ (addr_text lane.client ++ (codes " " ++ (addr_text lane.listen ++ codes "\n")))

abbrev pub drop_line : CertDrop → List ℕ
drop_line drop = codes "drop " ++ placed_text drop.sight drop.key

-- a lane's line, and its events' lines
abbrev pub lane_lines : CertLane → List ℕ
lane_lines lane = lane_line lane ++ flat_map event_line lane.events

abbrev pub skew_line : CertSkew → List ℕ
skew_line skew = codes "skew " ++ (decimal skew.iface ++ (codes " " ++ (decimal skew.microseconds ++ codes "\n")))

-- version 1 without skews, and version 2 with them
abbrev pub front : List CertSkew → List ℕ
front [] = codes "turnaudit-certificate 1\n"
front (skew ∷ more) = codes "turnaudit-certificate 2\n" ++ flat_map skew_line (skew ∷ more)

-- the heading, the skews, the lanes, the drops and `end`
abbrev pub spelling : Drafted → List ℕ
spelling said =
    front said.skews ++ (flat_map lane_lines said.lanes ++ (flat_map drop_line said.drops ++ codes "end\n"))

-- the content of a certificate
abbrev pub said_by : Certificate → Drafted
said_by certificate = record { lanes = certificate.lanes; drops = certificate.drops; skews = certificate.skews }

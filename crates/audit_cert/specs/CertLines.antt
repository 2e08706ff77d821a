-- One line of a certificate after the heading: a word, a space and more words.
use Rattle.std.specs.Prelude.{ℕ, ◌+◌, Bool, true, ◌&&◌, ◌==◌, if◌then◌else◌, List, [], ◌∷◌, ◌++◌, length, nat_lt, nat_le, Result, Ok, Err, codes}
use Rattle.std.specs.Str.{bytes_eq}
use Rattle.audit_text.specs.Token.{◌>>=◌, halves_of, both_of}
use Rattle.audit_model.specs.Addr.{addr_of}
use Rattle.audit_model.specs.EventCount.{event_count}
use Rattle.audit_model.specs.Lanes.{has_pair}
use Rattle.audit_model.specs.declared.event.Event.{Event}
use Rattle.audit_model.specs.declared.certificate.CertLane.{CertLane}
use Rattle.audit_model.specs.declared.certificate.CertSkew.{CertSkew}
use Rattle.audit_cert.specs.declared.fault.CertFaultKind.{CertFaultKind}
use Rattle.audit_cert.specs.declared.fault.CertFaultKind.TheVariants.{Line, LaneDouble, SkewOrder, Limit}
use Rattle.audit_cert.specs.CertFault.{of_word}
use Rattle.audit_cert.specs.DraftView.{Drafted}
use Rattle.audit_cert.specs.EventLine.{placed_of, cert_skew_of, event_of}

-- the lanes with one more event in the last of them
abbrev pub with_event : Event → List CertLane → List CertLane
with_event event [] = []
with_event event (lane ∷ []) = record lane { events = lane.events ++ event ∷ [] } ∷ []
with_event event (lane ∷ next ∷ more) = lane ∷ with_event event (next ∷ more)

-- the number of events and drops
abbrev pub said_count : Drafted → ℕ
said_count said = event_count said.lanes + length said.drops

-- a lane of no events, before any drop: CLIENT LISTEN
unfoldable pub after_lane : Drafted → List ℕ → Result Drafted CertFaultKind
after_lane said words =
    if length said.drops == 0 then (do
      halves ← of_word (halves_of 32 words)
      both ← of_word (both_of (addr_of halves.0) (addr_of halves.1))
      if nat_le 65536 (length said.lanes) then Err Limit
          else (if has_pair both.0 both.1 said.lanes then Err LaneDouble
          else Ok (record said { lanes = said.lanes ++ record { events = []; client = both.0; listen = both.1 } ∷ [] })))
    else Err Line

-- an event of the last lane, before any drop
unfoldable pub after_event : Drafted → List ℕ → List ℕ → Result Drafted CertFaultKind
after_event said word words =
    if nat_lt 0 (length said.lanes) && (length said.drops == 0) then (do
      event ← of_word (event_of word words)
      if nat_le 50331648 (said_count said) then Err Limit else Ok (record said { lanes = with_event event said.lanes }))
    else Err Line

unfoldable pub after_drop : Drafted → List ℕ → Result Drafted CertFaultKind
after_drop said words = do
  placed ← of_word (placed_of words)
  if nat_le 50331648 (said_count said) then Err Limit
      else Ok (record said { drops = said.drops ++ record { sight = placed.0; key = placed.1 } ∷ [] })

-- the interface is greater than that of the last of the skews
abbrev pub is_after_skews : List CertSkew → ℕ → Bool
is_after_skews [] iface = true
is_after_skews (skew ∷ []) iface = nat_lt skew.iface iface
is_after_skews (skew ∷ next ∷ more) iface = is_after_skews (next ∷ more) iface

-- the skew of one more interface
unfoldable pub after_skew : Drafted → List ℕ → Result Drafted CertFaultKind
after_skew said words = do
  skew ← of_word (cert_skew_of words)
  if is_after_skews said.skews skew.iface
      then (if nat_le 1024 (length said.skews) then Err Limit else Ok (record said { skews = said.skews ++ skew ∷ [] }))
      else Err SkewOrder

-- the content with one more line, or the line's fault
unfoldable pub after_line : Drafted → List ℕ → Result Drafted CertFaultKind
after_line said line = do
  halves ← of_word (halves_of 32 line)
  if bytes_eq halves.0 (codes "lane") then after_lane said halves.1
      else (if bytes_eq halves.0 (codes "drop") then after_drop said halves.1 else after_event said halves.0 halves.1)

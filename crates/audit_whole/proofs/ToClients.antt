-- All data that a listen address sent was relayed to a client, where no listen address is in a relay range.
use Rattle.std.proofs.Common.{◌≡◌, ◌⊎◌, inl, inr, ℕ, false, Option, Some, None, List, ◌∷◌, ◌++◌, sym, ◌∙◌, ap, subst, append_assoc, arith}
use Rattle.std.specs.Prelude.{IsSome, IsTrue, length}
use Rattle.std.specs.Int.{w16, w32, to_be_bytes}
use Rattle.std.proofs.lemmas.Bool.{true≢false}
use Rattle.std.proofs.lemmas.Bool.Decides.{nat_tests}
use Rattle.std.proofs.lemmas.Option.{same_Some}
use Rattle.audit_model.specs.declared.sighting.SightId.{SightId}
use Rattle.audit_model.specs.declared.sighting.Sighting.{Sighting}
use Rattle.audit_model.specs.Lanes.{same_pair}
use Rattle.audit_model.specs.Policy.{listens, relays, AreApart}
use Rattle.audit_stun.specs.declared.class.Class.TheVariants.{Success, Error}
use Rattle.audit_stun.specs.declared.numbers.TheConstants.{MAGIC_COOKIE}
use Rattle.audit_stun.specs.ChannelData.{channel_data_of}
use Rattle.audit_stun.specs.Message.{IsMessage}
use Rattle.audit_stun.specs.Parts.{parts_of}
use Rattle.audit_sightings.specs.Intake.{Taken, sighting_at}
use Rattle.audit_rules.specs.FirstRule.{is_channel}
use Rattle.audit_rules.specs.Keys.{KeyFor}
use Rattle.audit_rules.proofs.Chosen.{message_is_none}
use Rattle.audit_server.specs.Run.{RunFrom}
use Rattle.audit_server.specs.State.{at_first}
use Rattle.audit_server.specs.Step.{Step, Out}
use Rattle.audit_whole.specs.CaptureRun.{rules_for}
use Rattle.audit_whole.specs.Departures.{AreRelayed, CarriesData, IsRelayedDown}
use Rattle.audit_whole.specs.Grounded.{IsGivenBy, IsGrounded, IsOfAKind}
use Rattle.audit_whole.specs.Lasting.{situation_of}
use Rattle.audit_whole.proofs.Departures.{relayed_up}
use Rattle.audit_whole.proofs.Grounds.{grounded}
use Rattle.audit_whole.proofs.Paths.{relay_of_test}

-- a first number that is no channel's
no_channel : (number size : ℕ) (rest : List ℕ) → is_channel (to_be_bytes w16 number ++ to_be_bytes w16 size ++ rest) ≡ false → channel_data_of (to_be_bytes w16 number ++ to_be_bytes w16 size ++ rest) ≡ None
unfolding channel_data_of
no_channel number size rest e = grind (arith, nat_tests, e)

-- a STUN message is no ChannelData
message_is_no_data : (payload : List ℕ) → IsMessage payload (parts_of payload) → channel_data_of payload ≡ None
message_is_no_data payload m =
    let rest = to_be_bytes w32 MAGIC_COOKIE ++ (parts_of payload).tid ++ m.body in
    ap channel_data_of m.spelled ∙ no_channel m.number (length m.body) rest (ap is_channel (sym m.spelled) ∙ message_is_none payload (parts_of payload) m)

-- a success or an error carries no data
no_response : (payload : List ℕ) → CarriesData payload → IsMessage payload (parts_of payload) → ((parts_of payload).class ≡ Success) ⊎ ((parts_of payload).class ≡ Error) → ⊥
no_response payload (inl carries) m (inl s) = cc (carries.1, s)
no_response payload (inl carries) m (inr s) = cc (carries.1, s)
no_response payload (inr some) m which = absurd (true≢false (sym (subst IsSome (message_is_no_data payload m) some)))

module _ (taken : Taken) (key_for : KeyFor) (apart : AreApart taken.policy) (list : List Step) (run : RunFrom (rules_for taken key_for) at_first list) where
  all : IsGrounded taken key_for list
  all = grounded taken key_for list run

  module _ (t : SightId) (before rest : List Step) (e : Step) (h : before ++ e ∷ rest ≡ list) (g : IsGivenBy taken key_for t before) where
    -- what gave it relayed to the client, or it carries no data
    by_kind : IsTrue (listens taken.policy g.leaves.from) → CarriesData g.leaves.payload → IsOfAKind (situation_of taken key_for g.client g.act.moment g.arrives g.leaves) → IsRelayedDown taken key_for t g.leaves before
    by_kind listen carries (inl up) =
        absurd (apart g.leaves.from listen (relay_of_test (same_pair g.leaves.from g.leaves.to g.client.listen g.client.client) (relays taken.policy g.leaves.from) up))
    by_kind listen carries (inr (inl down)) =
        let whole : g.earlier ++ g.act ∷ (g.more ++ e ∷ rest) ≡ list = sym (append_assoc g.earlier (g.act ∷ g.more) (e ∷ rest)) ∙ ap (λ l. l ++ e ∷ rest) g.whole ∙ h in
        record {
          earlier = g.earlier;
          act = g.act;
          more = g.more;
          whole = g.whole;
          client = g.client;
          arrives = g.arrives;
          is_act = g.is_act;
          this = g.this;
          grounded = all.down g.earlier g.act g.client g.arrives g.leaves ((g.more ++ e ∷ rest, whole), g.is_act) down;
        }
    by_kind listen carries (inr (inr response)) = absurd (no_response g.leaves.payload carries response.1 response.2)

  relayed_down : (before : List Step) (e : Step) (rest : List Step) → before ++ e ∷ rest ≡ list → (t : SightId) → e.move ≡ Out t → (leaves : Sighting) → sighting_at taken t ≡ Some leaves → IsTrue (listens taken.policy leaves.from) →
      CarriesData leaves.payload → IsRelayedDown taken key_for t leaves before
  relayed_down before e rest h t is leaves there listen carries =
      let g : IsGivenBy taken key_for t before = all.sent before e rest h t is in
      let same : g.leaves ≡ leaves = same_Some g.leaves leaves (sym g.is_act.left ∙ ap (sighting_at taken) g.this ∙ there) in
      subst (λ (y : Sighting). IsRelayedDown taken key_for t y before) same
      (by_kind t before rest e h g (subst (λ (y : Sighting). IsTrue (listens taken.policy y.from)) (sym same) listen) (subst (λ (y : Sighting). CarriesData y.payload) (sym same) carries) g.kind)

  pub are_relayed : AreRelayed taken key_for list
  are_relayed before e rest h t is leaves there = (
    λ relay. relayed_up taken key_for apart list run before e rest h t is leaves there relay,
    λ listen carries. relayed_down before e rest h t is leaves there listen carries,
  )

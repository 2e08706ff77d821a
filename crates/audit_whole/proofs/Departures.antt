-- Whatever leaves from a relay address has its reasons, where no listen address is in a relay range.
use Rattle.std.proofs.Common.{◌≡◌, ℕ, Bool, true, false, cond, Option, Some, None, List, ◌∷◌, ◌++◌, refl, sym, ◌∙◌, ap, subst, append_assoc}
use Rattle.std.specs.Prelude.{IsTrue}
use Rattle.std.proofs.lemmas.Option.{same_Some}
use Rattle.audit_model.specs.declared.address.Addr.{Addr}
use Rattle.audit_model.specs.declared.pair.Pair.{Pair}
use Rattle.audit_model.specs.declared.sighting.SightId.{SightId}
use Rattle.audit_model.specs.declared.sighting.Sighting.{Sighting}
use Rattle.audit_model.specs.Lanes.{same_addr, same_pair}
use Rattle.audit_model.specs.Policy.{listens, relays, AreApart}
use Rattle.audit_model.proofs.Sames.{addr_true}
use Rattle.audit_sightings.specs.Intake.{Taken, sighting_at}
use Rattle.audit_rules.specs.declared.path.Path.{Path}
use Rattle.audit_rules.specs.declared.path.Path.TheVariants.{Client, Relay}
use Rattle.audit_rules.specs.Allocation.{Allocation, Change}
use Rattle.audit_rules.specs.Answer.{MayAnswer}
use Rattle.audit_rules.specs.Keys.{KeyFor}
use Rattle.audit_rules.specs.Said.{change_in}
use Rattle.audit_rules.specs.Situation.{Situation, departure_path}
use Rattle.audit_server.specs.Captured.{situation_at, MayBetween}
use Rattle.audit_server.specs.Run.{RunFrom}
use Rattle.audit_server.specs.State.{at_first}
use Rattle.audit_server.specs.Step.{Step, Out}
use Rattle.audit_whole.specs.CaptureRun.{rules_for}
use Rattle.audit_whole.specs.Departures.{IsRelayedUp}
use Rattle.audit_whole.specs.Grounded.{IsGrounded, IsGivenBy}
use Rattle.audit_whole.specs.Lasting.{situation_of}
use Rattle.audit_whole.proofs.Grounds.{grounded, may_here}
use Rattle.audit_whole.proofs.Paths.{both_true}

listening : (x : Situation) (change : Change) → MayAnswer x change → IsTrue (listens x.policy x.listen)
unfolding MayAnswer
listening x change m = m.0

module _ (taken : Taken) (key_for : KeyFor) (apart : AreApart taken.policy) where
  -- what leaves from a relay address doesn't leave from the client's listen address
  from_relay : (c : Pair) (moment : ℕ) (found : Option Allocation) (arrives leaves : Sighting) → MayBetween taken.policy key_for c moment found (Some arrives) (Some leaves) → IsTrue (relays taken.policy leaves.from) →
      departure_path (situation_of taken key_for c moment arrives leaves) ≡ Some Relay
  from_relay c moment found arrives leaves m h =
      elim (same_pair leaves.from leaves.to c.listen c.client) as (λ b. same_pair leaves.from leaves.to c.listen c.client ≡ b → cond b (Some Client) (cond (relays taken.policy leaves.from) (Some Relay) None) ≡ Some Relay) [
        | true ↦ λ q.
            let x : Situation = situation_at taken.policy key_for c moment found arrives leaves in
            let from : leaves.from ≡ c.listen = addr_true leaves.from c.listen (both_true (same_addr leaves.from c.listen) (same_addr leaves.to c.client) q).0 in
            absurd (apart leaves.from (subst (λ (a : Addr). IsTrue (listens taken.policy a)) (sym from) (listening x (change_in x) m)) h)
        | false ↦ λ q. ap (λ (b : Bool). cond {A = Option Path} b (Some Relay) None) h
      ] refl

  module _ (list : List Step) (run : RunFrom (rules_for taken key_for) at_first list) where
    all : IsGrounded taken key_for list
    all = grounded taken key_for list run

    pub relayed_up : (before : List Step) (e : Step) (rest : List Step) → before ++ e ∷ rest ≡ list → (t : SightId) → e.move ≡ Out t → (leaves : Sighting) → sighting_at taken t ≡ Some leaves → IsTrue (relays taken.policy leaves.from) →
        IsRelayedUp taken key_for t leaves before
    relayed_up before e rest h t is leaves there relay =
        let g : IsGivenBy taken key_for t before = all.sent before e rest h t is in
        let same : g.leaves ≡ leaves = same_Some g.leaves leaves (sym g.is_act.left ∙ ap (sighting_at taken) g.this ∙ there) in
        let whole : g.earlier ++ g.act ∷ (g.more ++ e ∷ rest) ≡ list = sym (append_assoc g.earlier (g.act ∷ g.more) (e ∷ rest)) ∙ ap (λ l. l ++ e ∷ rest) g.whole ∙ h in
        let path = from_relay g.client g.act.moment _ g.arrives g.leaves (may_here taken key_for list run g.earlier g.act (g.more ++ e ∷ rest) whole g.client g.arrives g.leaves g.is_act)
        (subst (λ (y : Sighting). IsTrue (relays taken.policy y.from)) (sym same) relay) in
        subst (λ (y : Sighting). IsRelayedUp taken key_for t y before) same (record {
          earlier = g.earlier;
          act = g.act;
          more = g.more;
          whole = g.whole;
          client = g.client;
          arrives = g.arrives;
          is_act = g.is_act;
          this = g.this;
          grounded = all.up g.earlier g.act g.client g.arrives g.leaves ((g.more ++ e ∷ rest, whole), g.is_act) path;
        })

-- What an answer says of its two datagrams.
use Rattle.std.proofs.Common.{◌≡◌, ◌⊎◌, inl, inr, ℕ, Bool, true, false, Option, Some, None, cond, refl, sym, ◌∙◌, subst}
use Rattle.std.specs.Prelude.{IsTrue}
use Rattle.std.proofs.lemmas.Option.{none-some}
use Rattle.audit_model.specs.declared.address.Addr.{Addr}
use Rattle.audit_model.specs.Lanes.{same_addr, same_pair}
use Rattle.audit_model.specs.Policy.{listens, relays}
use Rattle.audit_model.proofs.Sames.{addr_true}
use Rattle.audit_stun.specs.declared.class.Class.{Class}
use Rattle.audit_stun.specs.declared.class.Class.TheVariants.{Success, Error}
use Rattle.audit_rules.specs.declared.path.Path.{Path}
use Rattle.audit_rules.specs.declared.path.Path.TheVariants.{Client, Relay}
use Rattle.audit_rules.specs.Allocation.{Change}
use Rattle.audit_rules.specs.Answer.{MayAnswer, Answers, Case, Binding, Error as ErrorCase, New, Again, Refresh, Permission, ChannelBind, Send, ChannelUp, Data, ChannelDown}
use Rattle.audit_rules.specs.Situation.{Situation, IsServed, arrival_path, departure_path}
use Rattle.audit_rules.specs.Standing.{IsResponse}
use Rattle.audit_rules.specs.Relaying.{AnswersSend, AnswersChannelUp, AnswersData, AnswersChannelDown}
use Rattle.audit_whole.proofs.Paths.{both_true, client_of_test}
use Rattle.audit_faults.specs.Causes.{Responds, SentOn, SentInChannel, Delivered, DeliveredInChannel}

pub pair_true : (a b c d : Addr) → same_pair a b c d ≡ true → (a ≡ c) × (b ≡ d)
pair_true a b c d h = let k = both_true (same_addr a c) (same_addr b d) h in (addr_true a c k.0, addr_true b d k.1)

abbrev IsRelay : Option Path → Type 0
IsRelay None = ⊥
IsRelay (Some Client) = ⊥
IsRelay (Some Relay) = Unit {0}

client_never : (o : Option Path) → o ≡ Some Client → o ≡ Some Relay → ⊥
client_never o e f = subst IsRelay (sym f ∙ e) tt

relay_of_test : (same relay : Bool) → cond same (Some Client) (cond relay (Some Relay) None) ≡ Some Relay → relay ≡ true
relay_of_test true relay h = absurd (subst IsRelay (sym h) tt)
relay_of_test false true h = refl
relay_of_test false false h = absurd (none-some Relay h)

-- the addresses of what goes between the client and its listen address, or at a relay address
module _ (x : Situation) where
  pub from_client : arrival_path x ≡ Some Client → (x.arrives.from ≡ x.client) × (x.arrives.to ≡ x.listen)
  from_client h = pair_true x.arrives.from x.arrives.to x.client x.listen (client_of_test (same_pair x.arrives.from x.arrives.to x.client x.listen) (relays x.policy x.arrives.to) h)

  pub to_client : departure_path x ≡ Some Client → (x.leaves.from ≡ x.listen) × (x.leaves.to ≡ x.client)
  to_client h = pair_true x.leaves.from x.leaves.to x.listen x.client (client_of_test (same_pair x.leaves.from x.leaves.to x.listen x.client) (relays x.policy x.leaves.from) h)

  at_relay : arrival_path x ≡ Some Relay → IsTrue (relays x.policy x.arrives.to)
  at_relay h = relay_of_test (same_pair x.arrives.from x.arrives.to x.client x.listen) (relays x.policy x.arrives.to) h

  from_relay : departure_path x ≡ Some Relay → IsTrue (relays x.policy x.leaves.from)
  from_relay h = relay_of_test (same_pair x.leaves.from x.leaves.to x.listen x.client) (relays x.policy x.leaves.from) h

  served_at : IsServed x → (a : Addr) → a ≡ x.listen → IsTrue (listens x.policy a)
  served_at s a h = subst (λ (b : Addr). IsTrue (listens x.policy b)) (sym h) s

  module _ (served : IsServed x) where
    pub responds : (class : Class) (method : ℕ) → IsResponse x class method → (class ≡ Success) ⊎ (class ≡ Error) → Responds x.policy x.arrives x.leaves
    responds class method r k =
        let a = from_client r.forth in
        let d = to_client r.back in
        record {
          served = served_at served x.leaves.from d.0;
          forth = a.1 ∙ sym d.0;
          back = a.0 ∙ sym d.1;
          request = (r.request.0, r.request.1, r.request.2 ∙ sym r.response.2);
          response = (r.response.0, elim k [ inl e ↦ inl (r.response.1 ∙ e) | inr e ↦ inr (r.response.1 ∙ e) ]);
          same_id = r.same_id;
        }

    pub sent_on : AnswersSend x → SentOn x.policy x.arrives x.leaves
    sent_on r = record { served = served_at served x.arrives.to (from_client r.goes.0).1; relayed = from_relay r.goes.1; indication = r.indication; peer = r.peer; sends = r.sends }

    pub sent_in_channel : (r : AnswersChannelUp x) → SentInChannel x.policy r.number x.arrives x.leaves
    sent_in_channel r = record { served = served_at served x.arrives.to (from_client r.goes.0).1; relayed = from_relay r.goes.1; past = r.past; says = r.says }

    pub delivered : AnswersData x → Delivered x.policy x.arrives x.leaves
    delivered r = record { served = served_at served x.leaves.from (to_client r.goes.1).0; relayed = at_relay r.goes.0; indication = r.indication; peer = r.peer; sends = r.sends }

    pub delivered_in_channel : (r : AnswersChannelDown x) → DeliveredInChannel x.policy r.number x.arrives x.leaves
    delivered_in_channel r = record { served = served_at served x.leaves.from (to_client r.goes.1).0; relayed = at_relay r.goes.0; past = r.past; says = r.says; padding = r.padding }

    -- an answer between the client and its listen address is a response
    response_case : (case : Case) (change : Change) → Answers case x change → arrival_path x ≡ Some Client → departure_path x ≡ Some Client → Responds x.policy x.arrives x.leaves
    response_case Binding change r f b = responds Success _ r.0.response (inl refl)
    response_case ErrorCase change r f b = responds Error _ r.0.response (inr refl)
    response_case New change r f b = responds Success _ r.response (inl refl)
    response_case Again change r f b = responds Success _ r.0.response (inl refl)
    response_case Refresh change r f b = responds Success _ r.response (inl refl)
    response_case Permission change r f b = responds Success _ r.response (inl refl)
    response_case ChannelBind change r f b = responds Success _ r.response (inl refl)
    response_case Send change r f b = absurd (client_never (departure_path x) b r.0.goes.1)
    response_case ChannelUp change r f b = absurd (client_never (departure_path x) b r.0.goes.1)
    response_case Data change r f b = absurd (client_never (arrival_path x) f r.0.goes.0)
    response_case ChannelDown change r f b = absurd (client_never (arrival_path x) f r.0.goes.0)

pub response_of : (x : Situation) (change : Change) → MayAnswer x change → arrival_path x ≡ Some Client → departure_path x ≡ Some Client → Responds x.policy x.arrives x.leaves
unfolding MayAnswer
response_of x change m f b = response_case x m.0 m.1 change m.2 f b

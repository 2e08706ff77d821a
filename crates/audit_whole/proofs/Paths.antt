-- Which way the datagrams of an act go: between the client and its listen address, or at an address of a relay range.
use Rattle.std.proofs.Common.{◌≡◌, ◌⊎◌, inl, inr, ℕ, Bool, true, false, Option, Some, None, cond, refl, sym, ◌∙◌, ap, subst, ◌&&◌}
use Rattle.std.proofs.lemmas.Option.{none-some, same_Some}
use Rattle.audit_model.specs.declared.address.Addr.{Addr}
use Rattle.audit_model.specs.declared.sighting.Side.TheVariants.{Arrives, Leaves}
use Rattle.audit_model.specs.declared.sighting.Sighting.{Sighting}
use Rattle.audit_model.specs.Lanes.{same_addr, same_pair}
use Rattle.audit_model.specs.Policy.{relays, AreApart}
use Rattle.audit_sightings.specs.Intake.{Taken}
use Rattle.audit_model.specs.declared.pair.Pair.{Pair}
use Rattle.audit_rules.specs.declared.path.Path.{Path}
use Rattle.audit_rules.specs.declared.path.Path.TheVariants.{Client, Relay}
use Rattle.audit_rules.specs.Allocation.{Allocation, Change}
use Rattle.audit_rules.specs.Answer.{MayAnswer, Answers, Case, Binding, Error as ErrorCase, New, Again, Refresh, Permission, ChannelBind, Send, ChannelUp, Data, ChannelDown}
use Rattle.audit_rules.specs.Situation.{Situation, arrival_path, departure_path}
use Rattle.audit_server.specs.Captured.{situation_at, MayBetween}
use Rattle.audit_rules.specs.Said.{change_in}
use Rattle.audit_model.proofs.Sames.{addr_true, addr_same}
use Rattle.audit_server.proofs.Once.{leaves}
use Rattle.audit_rules.specs.Keys.{KeyFor}
use Rattle.audit_whole.specs.LaneConditions.{IsAtEnds}
use Rattle.std.proofs.lemmas.Bool.{true≢false}

abbrev pub IsOfPaths : Situation → Type 0
IsOfPaths x = ((arrival_path x ≡ Some Client) ⊎ (arrival_path x ≡ Some Relay)) × ((departure_path x ≡ Some Client) ⊎ (departure_path x ≡ Some Relay))

case_paths : (case : Case) (x : Situation) (ch : Change) → Answers case x ch → IsOfPaths x
case_paths Binding x ch r = (inl r.0.response.forth, inl r.0.response.back)
case_paths ErrorCase x ch r = (inl r.0.response.forth, inl r.0.response.back)
case_paths New x ch r = (inl r.response.forth, inl r.response.back)
case_paths Again x ch r = (inl r.0.response.forth, inl r.0.response.back)
case_paths Refresh x ch r = (inl r.response.forth, inl r.response.back)
case_paths Permission x ch r = (inl r.response.forth, inl r.response.back)
case_paths ChannelBind x ch r = (inl r.response.forth, inl r.response.back)
case_paths Send x ch r = (inl r.0.goes.0, inr r.0.goes.1)
case_paths ChannelUp x ch r = (inl r.0.goes.0, inr r.0.goes.1)
case_paths Data x ch r = (inr r.0.goes.0, inl r.0.goes.1)
case_paths ChannelDown x ch r = (inr r.0.goes.0, inl r.0.goes.1)

pub may_paths : (x : Situation) (ch : Change) → MayAnswer x ch → IsOfPaths x
unfolding MayAnswer
may_paths x ch m = case_paths m.1 x ch m.2

abbrev IsClient : Option Path → Type 0
IsClient None = ⊥
IsClient (Some Client) = Unit {0}
IsClient (Some Relay) = ⊥

abbrev IsRelay : Option Path → Type 0
IsRelay None = ⊥
IsRelay (Some Client) = ⊥
IsRelay (Some Relay) = Unit {0}

pub client_of_test : (same relay : Bool) → cond same (Some Client) (cond relay (Some Relay) None) ≡ Some Client → same ≡ true
client_of_test true relay h = refl
client_of_test false true h = absurd (subst IsClient (sym h) tt)
client_of_test false false h = absurd (none-some Client h)

pub relay_of_test : (same relay : Bool) → cond same (Some Client) (cond relay (Some Relay) None) ≡ Some Relay → relay ≡ true
relay_of_test true relay h = absurd (subst IsRelay (sym h) tt)
relay_of_test false true h = refl
relay_of_test false false h = absurd (none-some Relay h)

pub both_true : (a b : Bool) → (a && b) ≡ true → (a ≡ true) × (b ≡ true)
both_true true b h = (refl, h)
both_true false b h = absurd (true≢false (sym h))

and_true : (a b : Bool) → a ≡ true → b ≡ true → (a && b) ≡ true
and_true a b h k = ap (λ c. c && b) h ∙ k

swap_pair : (a b c d : Addr) → same_pair a b c d ≡ true → same_pair c d a b ≡ true
swap_pair a b c d h =
    let k = both_true (same_addr a c) (same_addr b d) h in
    and_true (same_addr c a) (same_addr d b) (addr_same c a (sym (addr_true a c k.0))) (addr_same d b (sym (addr_true b d k.1)))

turn_pair : (a b c d : Addr) → same_pair a b c d ≡ true → same_pair d c b a ≡ true
turn_pair a b c d h =
    let k = both_true (same_addr a c) (same_addr b d) h in
    and_true (same_addr d b) (same_addr c a) (addr_same d b (sym (addr_true b d k.1))) (addr_same c a (sym (addr_true a c k.0)))

module _ (taken : Taken) (apart : AreApart taken.policy) (key_for : KeyFor) where
  module _ (c : Pair) (moment : ℕ) (found : Option Allocation) (arrives leaves : Sighting) (paths : IsOfPaths (situation_at taken.policy key_for c moment found arrives leaves)) where
    arrives_at : IsAtEnds taken.policy c Arrives arrives
    arrives_at h = elim paths.0 [
      | inl e ↦ swap_pair arrives.from arrives.to c.client c.listen (client_of_test (same_pair arrives.from arrives.to c.client c.listen) (relays taken.policy arrives.to) e)
      | inr e ↦ absurd (apart arrives.to h (relay_of_test (same_pair arrives.from arrives.to c.client c.listen) (relays taken.policy arrives.to) e))
    ]

    leaves_at : IsAtEnds taken.policy c Leaves leaves
    leaves_at h = elim paths.1 [
      | inl e ↦ turn_pair leaves.from leaves.to c.listen c.client (client_of_test (same_pair leaves.from leaves.to c.listen c.client) (relays taken.policy leaves.from) e)
      | inr e ↦ absurd (apart leaves.from h (relay_of_test (same_pair leaves.from leaves.to c.listen c.client) (relays taken.policy leaves.from) e))
    ]

  pub between_arrives : (c : Pair) (moment : ℕ) (found : Option Allocation) (o q : Option Sighting) → MayBetween taken.policy key_for c moment found o q → (x : Sighting) → o ≡ Some x → IsAtEnds taken.policy c Arrives x
  between_arrives c moment found None q m x e = absurd m
  between_arrives c moment found (Some arrives) None m x e = absurd m
  between_arrives c moment found (Some arrives) (Some leaves) m x e =
      subst (IsAtEnds taken.policy c Arrives) (same_Some arrives x e)
      (arrives_at c moment found arrives leaves (may_paths (situation_at taken.policy key_for c moment found arrives leaves) (change_in (situation_at taken.policy key_for c moment found arrives leaves)) m))

  pub between_leaves : (c : Pair) (moment : ℕ) (found : Option Allocation) (o q : Option Sighting) → MayBetween taken.policy key_for c moment found o q → (x : Sighting) → q ≡ Some x → IsAtEnds taken.policy c Leaves x
  between_leaves c moment found None q m x e = absurd m
  between_leaves c moment found (Some arrives) None m x e = absurd m
  between_leaves c moment found (Some arrives) (Some leaves) m x e =
      subst (IsAtEnds taken.policy c Leaves) (same_Some leaves x e)
      (leaves_at c moment found arrives leaves (may_paths (situation_at taken.policy key_for c moment found arrives leaves) (change_in (situation_at taken.policy key_for c moment found arrives leaves)) m))

use Rattle.std.proofs.Common.{◌≡◌, ℕ, None, Some, List, sym, ◌∙◌, ap, subst}
use Rattle.std.proofs.lemmas.Option.{same_Some}
use Rattle.audit_model.specs.declared.address.Addr.{Addr}
use Rattle.audit_faults.specs.ArrivalKeys.{sent_key, IsEither}
use Rattle.audit_faults.proofs.arrival_keys.add_send.Goals as goal

pub returns-clause-here : goal.returns-clause-here
returns-clause-here c peer bytes named has key either =
    let s = c.args.sighting.now in
    let same_peer : c.in-Some-address_in.peer ≡ peer = same_Some c.in-Some-address_in.peer peer (c.in-Some-address_in.ensures ∙ named) in
    let same_bytes : c.in-Some.data.now ≡ bytes = same_Some c.in-Some.data.now bytes (c.in-Some.ensures ∙ has) in
    let same : c.sent_key.result ≡ sent_key peer bytes =
    c.sent_key.ensures ∙ ap (λ (a : Addr). sent_key a c.in-Some.data.now) same_peer ∙ ap (λ (b : List ℕ). sent_key peer b) same_bytes in
    c.in_ok-add_data.ensures.here key (subst (λ (plain : ℕ). IsEither key plain s.from) (sym same) either)

pub returns-in_default-clause-here : goal.returns-in_default-clause-here
returns-in_default-clause-here c peer bytes named has key either = let k : None ≡ Some bytes = c.in_default.ensures ∙ has in cc

pub returns-in_default-address_in-clause-here : goal.returns-in_default-address_in-clause-here
returns-in_default-address_in-clause-here c peer bytes named has key either = let k : None ≡ Some peer = c.in_default-address_in.ensures ∙ named in cc

-- What may have granted a lease has the keys of it.
use Rattle.std.proofs.Common.{◌≡◌, inl, inr, ℕ, List, sym, ◌∙◌, ap, subst}
use Rattle.audit_model.specs.declared.address.Addr.{Addr}
use Rattle.audit_model.specs.declared.sighting.Sighting.{Sighting}
use Rattle.audit_stun.specs.declared.class.Class.TheVariants.{Request}
use Rattle.audit_stun.specs.declared.numbers.method.TheConstants.{ALLOCATE}
use Rattle.audit_stun.specs.declared.numbers.attribute.TheConstants.{XOR_RELAYED_ADDRESS}
use Rattle.audit_stun.specs.Parts.{parts_of}
use Rattle.audit_sightings.specs.Intake.{Taken}
use Rattle.audit_rules.specs.Situation.{IsOf}
use Rattle.audit_rules.specs.Values.{Names}
use Rattle.audit_faults.specs.declared.fault.Grant.{Grant}
use Rattle.audit_faults.specs.declared.fault.Lease.{Lease}
use Rattle.audit_faults.specs.declared.fault.Lease.TheVariants.{Allocation, Permission, Channel}
use Rattle.audit_faults.specs.Grants.{IsCaptured, IsRequestFor, HasAddressOf, Requests, Succeeds, IsGranted}
use Rattle.audit_faults.specs.Leased.{IsLeaseMethod, IsLeaseMessage, answer_key, allocate_key, relayed_key, permission_key, channel_key, HasRequestKey, Answers, IsAnswerBy, IsRequestBy}

-- a request for a lease is of a method that grants one
pub lease_message : (lease : Lease) (payload : List ℕ) → IsRequestFor lease payload → IsLeaseMessage Request payload
lease_message (Allocation relayed) payload h = (h.0, h.1, inl h.2)
lease_message (Permission ip) payload (inl h) = (h.0.0, h.0.1, inr (inl h.0.2))
lease_message (Permission ip) payload (inr h) = (h.0.0, h.0.1, inr (inr h.0.2))
lease_message (Channel number peer) payload h = (h.0.0, h.0.1, inr (inr h.0.2))

-- and so is one that has a key
pub request_message : (client : Addr) (payload : List ℕ) (key : ℕ) → HasRequestKey client payload key → IsLeaseMessage Request payload
request_message client payload key (inl (for_lease, e)) = lease_message (Allocation client) payload for_lease
request_message client payload key (inr (inl (ip, for_lease, e))) = lease_message (Permission ip) payload for_lease
request_message client payload key (inr (inr (number, peer, for_lease, e))) = lease_message (Channel number peer) payload for_lease

same_answer : (m n : ℕ) (a b : Addr) (t u : List ℕ) → m ≡ n → a ≡ b → t ≡ u → answer_key m a t ≡ answer_key n b u
same_answer m n a b t u e f g = ap (λ (i : ℕ). answer_key i a t) e ∙ ap (λ (i : Addr). answer_key n i t) f ∙ ap (λ (i : List ℕ). answer_key n b i) g

same_allocate : (a b : Addr) (t u : List ℕ) → a ≡ b → t ≡ u → allocate_key a t ≡ allocate_key b u
same_allocate a b t u f g = ap (λ (i : Addr). allocate_key i t) f ∙ ap (λ (i : List ℕ). allocate_key b i) g

-- a success to the client, of a method and a transaction
pub answer_has_key : (client : Addr) (request : List ℕ) (s : Sighting) → IsLeaseMethod (parts_of request).method → Answers client request s → IsAnswerBy (answer_key (parts_of request).method client (parts_of request).tid) s
answer_has_key client request s method (leaves, to, succeeds, same) = (
  leaves,
  (succeeds.0, succeeds.1, subst IsLeaseMethod (sym succeeds.2) method),
  inl (same_answer (parts_of request).method (parts_of s.payload).method client s.to (parts_of request).tid (parts_of s.payload).tid (sym succeeds.2) (sym to) (sym same)),
)

module _ (taken : Taken) (grant : Grant) (arrival departure : Sighting) where
  pub is_answer : (request s : Sighting) → Requests taken.policy grant arrival departure request → Succeeds taken.policy grant arrival request s → Answers request.from request.payload s
  is_answer request s r h = (h.leaves, h.to ∙ sym r.from, h.succeeds, h.same_id)

  pub success_has_key : (request s : Sighting) → IsLeaseMethod (parts_of request.payload).method → Succeeds taken.policy grant arrival request s →
      IsAnswerBy (answer_key (parts_of request.payload).method grant.client (parts_of request.payload).tid) s
  success_has_key request s method h = answer_has_key grant.client request.payload s method (h.leaves, h.to, h.succeeds, h.same_id)

  pub permission_has_key : (ip : ℕ) (request : Sighting) → grant.lease ≡ Permission ip → IsGranted taken grant arrival departure request → IsRequestBy taken (permission_key grant.client ip) request
  permission_has_key ip request e (r, (s, captured, h)) =
      let for_lease : IsRequestFor (Permission ip) request.payload = subst (λ (l : Lease). IsRequestFor l request.payload) e r.for_lease in
      (r.arrives, inr (inl (ip, for_lease, ap (λ (a : Addr). permission_key a ip) (sym r.from))), (s, captured, is_answer request s r h))

  pub channel_has_key : (number : ℕ) (peer : Addr) (request : Sighting) → grant.lease ≡ Channel number peer → IsGranted taken grant arrival departure request →
      IsRequestBy taken (channel_key grant.client number peer) request
  channel_has_key number peer request e (r, (s, captured, h)) =
      let for_lease : IsRequestFor (Channel number peer) request.payload = subst (λ (l : Lease). IsRequestFor l request.payload) e r.for_lease in
      (r.arrives, inr (inr (number, peer, for_lease, ap (λ (a : Addr). channel_key a number peer) (sym r.from))), (s, captured, is_answer request s r h))

  pub requests_allocation : (relayed : Addr) (request : Sighting) → grant.lease ≡ Allocation relayed → Requests taken.policy grant arrival departure request → IsOf request.payload Request ALLOCATE
  requests_allocation relayed request e r = subst (λ (l : Lease). IsRequestFor l request.payload) e r.for_lease

  pub allocate_has_key : (relayed : Addr) (request s : Sighting) → grant.lease ≡ Allocation relayed → IsCaptured taken s → Requests taken.policy grant arrival departure request →
      Succeeds taken.policy grant arrival request s → IsRequestBy taken (allocate_key grant.client (parts_of s.payload).tid) request
  allocate_has_key relayed request s e captured r h = (
    r.arrives,
    inl (requests_allocation relayed request e r, same_allocate grant.client request.from (parts_of s.payload).tid (parts_of request.payload).tid (sym r.from) h.same_id),
    (s, captured, is_answer request s r h),
  )

  pub allocation_has_key : (relayed : Addr) (request s : Sighting) → grant.lease ≡ Allocation relayed → Requests taken.policy grant arrival departure request →
      Succeeds taken.policy grant arrival request s → IsAnswerBy (relayed_key grant.client relayed) s
  allocation_has_key relayed request s e r h =
      let for_lease = requests_allocation relayed request e r in
      let method : (parts_of s.payload).method ≡ ALLOCATE = h.succeeds.2 ∙ for_lease.2 in
      let has_address : Names XOR_RELAYED_ADDRESS (parts_of s.payload) relayed = subst (λ (l : Lease). HasAddressOf l s.payload) e h.has_address in
      (h.leaves, (h.succeeds.0, h.succeeds.1, inl method), inr (method, inr (relayed, has_address, ap (λ (a : Addr). relayed_key a relayed) (sym h.to))))

-- a success by which the address may have been granted
abbrev pub IsAllocatedBy : Taken → Grant → Sighting → Sighting → Sighting → Type 0
IsAllocatedBy taken grant arrival departure success = (request : Sighting) × IsCaptured taken request × Requests taken.policy grant arrival departure request × Succeeds taken.policy grant arrival request success

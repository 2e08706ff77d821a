-- What an arrival has in common with the departures that it may have caused: their key.
use Rattle.std.proofs.Common.{◌≡◌, inl, inr, ℕ, IsTrue, Option, List, sym, ◌∙◌, ap, subst}
use Rattle.std.proofs.lemmas.Option.{same_Some}
use Rattle.audit_model.specs.declared.address.Addr.{Addr}
use Rattle.audit_model.specs.declared.policy.Policy.{Policy}
use Rattle.audit_model.specs.declared.sighting.Sighting.{Sighting}
use Rattle.audit_model.specs.declared.sighting.Side.TheVariants.{Arrives}
use Rattle.audit_model.specs.Policy.{listens, relays}
use Rattle.audit_stun.specs.declared.class.Class.TheVariants.{Request}
use Rattle.audit_stun.specs.declared.numbers.attribute.TheConstants.{XOR_PEER_ADDRESS, DATA}
use Rattle.audit_stun.specs.Parts.{parts_of}
use Rattle.audit_rules.specs.Values.{Has, Names}
use Rattle.audit_faults.specs.declared.keyed.Keyed.{Keyed}
use Rattle.audit_faults.specs.ArrivalKeys.{exchange_key, sent_key, sent_in_channel_key, delivered_key, delivered_in_channel_key, owned_key, HasKey, HasOwnedKey, IsArrivalBy, IsEither, IsOwnedBy, IsPeerDataUnder, IsRequestUnder, IsSendUnder}
use Rattle.audit_faults.specs.Causes.{Responds, SentOn, SentInChannel, Delivered, DeliveredInChannel}
use Rattle.audit_faults.specs.Leased.{address_number}
use Rattle.audit_faults.proofs.Listed.{Has as IsListed, at_key}

-- ---- an arrival is listed by what its message has

module _ (s : Sighting) (new : List Keyed) (said : List ℕ) (e : said ≡ s.payload) where
  pub request_placed : ((parts_of said).class ≡ Request → IsListed s new (exchange_key s.from s.to (parts_of said).tid)) → (key : ℕ) → IsRequestUnder key s → IsListed s new key
  request_placed here key (is, class, k) =
      at_key s new key (exchange_key s.from s.to (parts_of s.payload).tid) k
      (subst (λ (p : List ℕ). IsListed s new (exchange_key s.from s.to (parts_of p).tid)) e (here (subst (λ (p : List ℕ). (parts_of p).class ≡ Request) (sym e) class)))

  pub send_placed : ((peer : Addr) (bytes : List ℕ) → Names XOR_PEER_ADDRESS (parts_of said) peer → Has DATA (parts_of said) bytes → (key : ℕ) → IsEither key (sent_key peer bytes) s.from → IsListed s new key) →
      (key : ℕ) → IsSendUnder key s → IsListed s new key
  send_placed here key (is, (peer, bytes, named, has, k)) =
      here peer bytes (subst (λ (p : List ℕ). Names XOR_PEER_ADDRESS (parts_of p) peer) (sym e) named) (subst (λ (p : List ℕ). Has DATA (parts_of p) bytes) (sym e) has) key k

-- ---- and what may have caused a departure has its key

module _ (policy : Policy) (arrival departure : Sighting) (arrives : arrival.side ≡ Arrives) (key : ℕ) where
  pub by_response : (response : List ℕ) → response ≡ departure.payload → key ≡ exchange_key departure.to departure.from (parts_of response).tid → Responds policy arrival departure → IsArrivalBy policy key arrival
  by_response response e k r =
      let served : IsTrue (listens policy arrival.to) = subst (λ (a : Addr). IsTrue (listens policy a)) (sym r.forth) r.served in
      let tid : (parts_of response).tid ≡ (parts_of arrival.payload).tid = ap (λ (p : List ℕ). (parts_of p).tid) e ∙ r.same_id in
      let same : key ≡ exchange_key arrival.from arrival.to (parts_of arrival.payload).tid =
      k ∙ ap (λ (a : Addr). exchange_key a departure.from (parts_of response).tid) (sym r.back)
      ∙ ap (λ (a : Addr). exchange_key arrival.from a (parts_of response).tid) (sym r.forth)
      ∙ ap (λ (t : List ℕ). exchange_key arrival.from arrival.to t) tid in
      (arrives, inl (served, inl (r.request.0, r.request.1, same)))

  -- with the owner's number, too
  with_owner : (plain : ℕ) (owner : Addr) → key ≡ plain → IsEither (owned_key key (address_number owner)) plain owner
  with_owner plain owner k = inr (ap (λ (n : ℕ). owned_key n (address_number owner)) k)

  pub by_sent : key ≡ sent_key departure.to departure.payload → SentOn policy arrival departure → IsOwnedBy policy key (address_number arrival.from) arrival
  by_sent k s = (is key (inl k), is (owned_key key (address_number arrival.from)) (with_owner (sent_key departure.to departure.payload) arrival.from k)) where
    is : (one : ℕ) → IsEither one (sent_key departure.to departure.payload) arrival.from → IsArrivalBy policy one arrival
    is one either = (arrives, inl (s.served, inr (inl (s.indication.0, (departure.to, departure.payload, s.peer, s.sends, either)))))

  pub by_channel : (number : ℕ) → key ≡ sent_in_channel_key departure.payload → SentInChannel policy number arrival departure → IsOwnedBy policy key (address_number arrival.from) arrival
  by_channel number k s = (is key (inl k), is (owned_key key (address_number arrival.from)) (with_owner (sent_in_channel_key departure.payload) arrival.from k)) where
    is : (one : ℕ) → IsEither one (sent_in_channel_key departure.payload) arrival.from → IsArrivalBy policy one arrival
    is one either = (arrives, inl (s.served, inr (inr (number, departure.payload, s.past, s.says, either))))

  of_peer : IsTrue (relays policy arrival.to) → (one : ℕ) → IsPeerDataUnder one arrival → IsArrivalBy policy one arrival
  of_peer relayed one is = (arrives, inr (relayed, is))

  pub by_delivered : (indication bytes : List ℕ) (peer : Addr) → indication ≡ departure.payload → Names XOR_PEER_ADDRESS (parts_of indication) peer → Has DATA (parts_of indication) bytes → key ≡ delivered_key peer bytes →
      Delivered policy arrival departure → IsOwnedBy policy key (address_number arrival.to) arrival
  by_delivered indication bytes peer e named has k d =
      let same_peer : peer ≡ arrival.from = same_Some peer arrival.from (sym (subst (λ (p : List ℕ). Names XOR_PEER_ADDRESS (parts_of p) peer) e named) ∙ d.peer) in
      let same_bytes : bytes ≡ arrival.payload = same_Some bytes arrival.payload (sym (subst (λ (p : List ℕ). Has DATA (parts_of p) bytes) e has) ∙ d.sends) in
      let plain : key ≡ delivered_key arrival.from arrival.payload = k ∙ ap (λ (a : Addr). delivered_key a bytes) same_peer ∙ ap (λ (b : List ℕ). delivered_key arrival.from b) same_bytes in
      (of_peer d.relayed key (inl (inl plain)), of_peer d.relayed (owned_key key (address_number arrival.to)) (inl (with_owner (delivered_key arrival.from arrival.payload) arrival.to plain)))

  pub by_delivered_in_channel : (number : ℕ) (bytes : List ℕ) → bytes ≡ arrival.payload → key ≡ delivered_in_channel_key bytes → DeliveredInChannel policy number arrival departure → IsOwnedBy policy key (address_number arrival.to) arrival
  by_delivered_in_channel number bytes e k d =
      let plain : key ≡ delivered_in_channel_key arrival.payload = k ∙ ap delivered_in_channel_key e in
      (of_peer d.relayed key (inr (inl plain)), of_peer d.relayed (owned_key key (address_number arrival.to)) (inr (with_owner (delivered_in_channel_key arrival.payload) arrival.to plain)))

-- the same by another name of the policy
pub has_key_by : (Causes : Policy → Type 0) (key : Option ℕ) (arrival : Sighting) (one other : Policy) → one ≡ other → (Causes one → HasKey one key arrival) → Causes other → HasKey other key arrival
has_key_by Causes key arrival one other e f h = subst (λ (p : Policy). HasKey p key arrival) e (f (subst Causes (sym e) h))

pub has_owned_key_by : (Causes : Policy → Type 0) (key : Option ℕ) (owner : ℕ) (arrival : Sighting) (one other : Policy) → one ≡ other → (Causes one → HasOwnedKey one key owner arrival) → Causes other → HasOwnedKey other key owner arrival
has_owned_key_by Causes key owner arrival one other e f h = subst (λ (p : Policy). HasOwnedKey p key owner arrival) e (f (subst Causes (sym e) h))

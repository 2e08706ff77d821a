-- The keys of a success, and of a request, have their places.
use Rattle.std.proofs.Common.{◌≡◌, ◌⊎◌, ◌==◌, inl, inr, ℕ, Bool, true, false, Some, None, List, [], ◌∷◌, refl, sym, ◌∙◌, subst}
use Rattle.std.specs.Prelude.{Contains}
use Rattle.std.proofs.lemmas.Bool.{eqb-true}
use Rattle.audit_model.specs.declared.address.Addr.{Addr}
use Rattle.audit_model.specs.declared.sighting.Sighting.{Sighting}
use Rattle.audit_stun.specs.declared.numbers.method.TheConstants.{ALLOCATE}
use Rattle.audit_stun.specs.declared.numbers.attribute.TheConstants.{XOR_RELAYED_ADDRESS, XOR_PEER_ADDRESS}
use Rattle.audit_stun.specs.Parts.{parts_of}
use Rattle.audit_stun.specs.XorAddress.{address_of}
use Rattle.audit_rules.specs.Values.{Names, channel_number_of, ips_of, peer_ips_of}
use Rattle.audit_faults.specs.declared.keyed.Keyed.{Keyed}
use Rattle.audit_faults.specs.Grants.{NamesIp, BindsIp}
use Rattle.audit_faults.specs.Keyed.{placed_as}
use Rattle.audit_faults.specs.Leased.{answer_key, allocate_key, relayed_key, beginning_key, permission_key, channel_key, HasSuccessKey, HasRequestKey}
use Rattle.audit_faults.proofs.Naming.{names_with, names_step, names_stop, names_end, names_means}

module _ (s : Sighting) (new : List Keyed) where
  -- it stands by that key
  abbrev pub Has : ℕ → Type 0
  Has key = Contains new (placed_as key s.id s)

  pub at_key : (key one : ℕ) → key ≡ one → Has one → Has key
  at_key key one e h = subst Has (sym e) h

  pub success_listed : (success : List ℕ) → Has (answer_key (parts_of success).method s.to (parts_of success).tid) → ((parts_of success).method ≡ ALLOCATE → Has (beginning_key s.to)) →
      ((parts_of success).method ≡ ALLOCATE → (relayed : Addr) → Names XOR_RELAYED_ADDRESS (parts_of success) relayed → Has (relayed_key s.to relayed)) → (key : ℕ) → HasSuccessKey s.to success key → Has key
  success_listed success answer begins by_address key (inl e) = at_key key (answer_key (parts_of success).method s.to (parts_of success).tid) e answer
  success_listed success answer begins by_address key (inr (m, inl e)) = at_key key (beginning_key s.to) e (begins m)
  success_listed success answer begins by_address key (inr (m, inr (relayed, named, e))) = at_key key (relayed_key s.to relayed) e (by_address m relayed named)

  pub request_listed : (request : List ℕ) → ((parts_of request).method ≡ ALLOCATE → Has (allocate_key s.from (parts_of request).tid)) → ((ip : ℕ) → NamesIp request ip → Has (permission_key s.from ip)) →
      ((ip : ℕ) → BindsIp request ip → Has (permission_key s.from ip)) →
      ((number : ℕ) (peer : Addr) → channel_number_of (parts_of request) ≡ Some number → Names XOR_PEER_ADDRESS (parts_of request) peer → Has (channel_key s.from number peer)) →
      (key : ℕ) → HasRequestKey s.from request key → Has key
  request_listed request allocates names binds channels key (inl (of, e)) = at_key key (allocate_key s.from (parts_of request).tid) e (allocates of.2)
  request_listed request allocates names binds channels key (inr (inl (ip, inl (of, h), e))) = at_key key (permission_key s.from ip) e (names ip h)
  request_listed request allocates names binds channels key (inr (inl (ip, inr (of, h), e))) = at_key key (permission_key s.from ip) e (binds ip h)
  request_listed request allocates names binds channels key (inr (inr (number, peer, (of, numbered, named), e))) = at_key key (channel_key s.from number peer) e (channels number peer numbered named)

-- ---- the peers of a request, one after another

-- it is named by what is still to come
abbrev pub IsToCome : ℕ → List (List ℕ) → Type 0
IsToCome ip values = names_with ip false (ips_of values) ≡ true

pub names_first : (ip : ℕ) (value : List ℕ) (values : List (List ℕ)) (peer : Addr) → address_of value ≡ Some peer → IsToCome ip (value ∷ values) → (peer.ip ≡ ip) ⊎ IsToCome ip values
names_first ip value values peer e h =
    elim (peer.ip == ip) as (λ (b : Bool). (peer.ip == ip) ≡ b → names_with ip b (ips_of values) ≡ true → (peer.ip ≡ ip) ⊎ IsToCome ip values) [
      | true ↦ λ q k. inl (eqb-true peer.ip ip q)
      | false ↦ λ q k. inr k
    ] refl (sym (names_step ip false value values peer e) ∙ h)

pub names_none : (ip : ℕ) (value : List ℕ) (values : List (List ℕ)) → address_of value ≡ None → IsToCome ip (value ∷ values) → ⊥
names_none ip value values e h = let k : false ≡ true = sym (names_stop ip false value values e) ∙ h in cc

pub names_no_more : (ip : ℕ) → IsToCome ip [] → ⊥
names_no_more ip h = let k : false ≡ true = sym (names_end ip false) ∙ h in cc

pub named_at_all : (ip : ℕ) (request : List ℕ) → NamesIp request ip → names_with ip false (peer_ips_of (parts_of request)) ≡ true
named_at_all ip request h = (names_means ip request (names_with ip false (peer_ips_of (parts_of request))) refl).1 h

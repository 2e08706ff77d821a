-- Payloads that name nobody.
use Rattle.std.proofs.Common.{◌≡◌, ℕ, List, Option, Some, None, ap, sym, ◌∙◌}
use Rattle.audit_stun.specs.declared.numbers.attribute.TheConstants.{USERNAME, REALM}
use Rattle.audit_stun.specs.Message.{Parts, IsMessage}
use Rattle.audit_stun.specs.Parts.{parts_of}
use Rattle.audit_stun.specs.Counted.{first_of}
use Rattle.audit_keys.specs.declared.keys.Keys.{Keys}
use Rattle.audit_keys.specs.Keys.{KeyFor}
use Rattle.audit_rules.specs.Named.{Names, NamesNobody}

pub nobody_without_message : (find : KeyFor) (payload : List ℕ) → ((parts : Parts) → IsMessage payload parts → ⊥) → NamesNobody find payload
nobody_without_message find payload never user realm key named = never named.parts named.message

-- of a payload that is this message
module _ (find : KeyFor) (payload message : List ℕ) (whole : message ≡ payload) (only : (parts : Parts) → IsMessage payload parts → parts ≡ parts_of payload) where
  value_of : (kind : ℕ) (value user realm : List ℕ) (key : Keys) (named : Names find payload user realm key) → first_of kind named.parts.attributes ≡ Some value
      → first_of kind (parts_of message).attributes ≡ Some value
  value_of kind value user realm key named there =
      ap (λ (parts : Parts). first_of kind parts.attributes) (ap parts_of whole ∙ sym (only named.parts named.message)) ∙ there

  pub nobody_without_user : None ≡ first_of USERNAME (parts_of message).attributes → NamesNobody find payload
  nobody_without_user none user realm key named = let there = value_of USERNAME user user realm key named named.names_user in absurd cc

  pub nobody_without_realm : None ≡ first_of REALM (parts_of message).attributes → NamesNobody find payload
  nobody_without_realm none user realm key named = let there = value_of REALM realm user realm key named named.names_realm in absurd cc

  pub nobody_without_key : (user realm : List ℕ) → Some user ≡ first_of USERNAME (parts_of message).attributes → Some realm ≡ first_of REALM (parts_of message).attributes
      → None ≡ find user realm → NamesNobody find payload
  nobody_without_key user realm is_user is_realm none u r key named =
      let same_user : Some user ≡ Some u = is_user ∙ value_of USERNAME u u r key named named.names_user in
      let same_realm : Some realm ≡ Some r = is_realm ∙ value_of REALM r u r key named named.names_realm in
      let known = named.known in
      absurd cc

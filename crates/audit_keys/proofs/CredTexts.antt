-- The credentials of a credentials text, and what is kept of them.
use Rattle.std.proofs.Common.{◌≡◌, ℕ, false, true, ◌+◌, cond, List, ◌∷◌, length, arith, Option, Some, Result, Ok, Err, sym, ap, ◌∙◌}
use Rattle.std.specs.Prelude.{is_some}
use Rattle.audit_keys.specs.declared.cred_fault.CredFaultKind.{CredFaultKind}
use Rattle.audit_keys.specs.declared.cred_fault.CredFaultKind.TheVariants.{Double}
use Rattle.audit_keys.specs.declared.keys.Keys.{Keys}
use Rattle.audit_keys.specs.CredLine.{LongTermCredential}
use Rattle.audit_keys.specs.Keys.{KeyFor, is_of, keys_of_credential, Knows}
use Rattle.audit_keys.specs.CredText.{with_credential}

-- a credential that is taken in
pub added : (old new : KeyFor) (listed : List LongTermCredential) (credential : LongTermCredential) (read : Result LongTermCredential CredFaultKind) → Knows old listed → read ≡ Ok credential → is_some (old credential.user credential.realm) ≡ false →
    ((u r : List ℕ) → new u r ≡ cond (is_of u r credential) (Some (keys_of_credential credential)) (old u r)) →
    (then_listed : List LongTermCredential) × (with_credential listed read ≡ Ok then_listed) × Knows new then_listed × (length then_listed ≡ length listed + 1)
added old new listed credential read knows is free change = (
  credential ∷ listed,
  ap (with_credential listed) is ∙ ap (λ b. cond {A = Result (List LongTermCredential) CredFaultKind} b (Err Double) (Ok (credential ∷ listed))) (ap is_some (sym (knows credential.user credential.realm)) ∙ free),
  λ u r. change u r ∙ ap (λ (o : Option Keys). cond (is_of u r credential) (Some (keys_of_credential credential)) o) (knows u r),
  omega arith,
)

-- a credential whose user and realm are there
pub doubled : (old : KeyFor) (listed : List LongTermCredential) (credential : LongTermCredential) (read : Result LongTermCredential CredFaultKind) → Knows old listed → read ≡ Ok credential → is_some (old credential.user credential.realm) ≡ true →
    with_credential listed read ≡ Err Double
doubled old listed credential read knows is there =
    ap (with_credential listed) is ∙ ap (λ b. cond {A = Result (List LongTermCredential) CredFaultKind} b (Err Double) (Ok (credential ∷ listed))) (ap is_some (sym (knows credential.user credential.realm)) ∙ there)

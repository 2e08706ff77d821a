-- Users that payloads prove, with payloads more.
use Rattle.std.proofs.Common.{◌≡◌, ℕ, List, [], ◌∷◌, ◌++◌, refl, ap, ◌∙◌, append_assoc}
use Rattle.std.proofs.lemmas.List.Elements.{All-push, All-weaker}
use Rattle.prep_users.specs.declared.account.Account.{Account}
use Rattle.prep_users.specs.declared.claim.Secret.{Secret}
use Rattle.prep_users.specs.Claims.{Proves}
use Rattle.prep_users.specs.Rolls.{IsProved, AreProved}

still_proved : (secrets : List Secret) (payloads more : List (List ℕ)) (account : Account) → IsProved secrets payloads account → IsProved secrets (payloads ++ more) account
still_proved secrets payloads more account p = record {
  before = p.before;
  payload = p.payload;
  after = p.after ++ more;
  among = ap (λ (t : List (List ℕ)). t ++ more) p.among ∙ append_assoc p.before (p.payload ∷ p.after) more;
  proves = p.proves;
}

pub all_more : (secrets : List Secret) (accounts : List Account) (payloads more : List (List ℕ)) → AreProved secrets accounts payloads → AreProved secrets accounts (payloads ++ more)
all_more secrets accounts payloads more all = All-weaker (IsProved secrets payloads) (IsProved secrets (payloads ++ more)) (still_proved secrets payloads more) accounts all

pub one_more : (secrets : List Secret) (accounts : List Account) (account : Account) (payloads : List (List ℕ)) (payload : List ℕ) → AreProved secrets accounts payloads → Proves secrets account payload
    → AreProved secrets (accounts ++ account ∷ []) (payloads ++ payload ∷ [])
one_more secrets accounts account payloads payload all proves =
    All-push (IsProved secrets (payloads ++ payload ∷ [])) accounts account (all_more secrets accounts payloads (payload ∷ []) all)
    (record { before = payloads; payload = payload; after = []; among = refl; proves = proves })

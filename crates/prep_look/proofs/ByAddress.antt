-- The lines of relayed addresses, one IP address after another.
use Rattle.std.proofs.Common.{◌≡◌, ◌++◌, ◌∷◌, ◌∙◌, ℕ, zero, suc, List, take, drop, ap, sym}
use Rattle.std.specs.List.{prefix_len}
use Rattle.audit_model.specs.declared.policy.Policy.{Policy}
use Rattle.prep_look.specs.declared.granted_address.GrantedAddress.{GrantedAddress}
use Rattle.prep_look.specs.PolicyLines.{granted_line, granted_lines, is_of_ip}

-- the first line and those of the rest
pub first_line : (policy : Policy) (n m : ℕ) (granted others : List GrantedAddress) (first : GrantedAddress) → n ≡ suc m → granted ≡ first ∷ others →
    granted_lines n policy granted
    ≡ granted_line policy first (take (prefix_len (is_of_ip first.relayed.ip) granted) granted) ++ granted_lines m policy (drop (prefix_len (is_of_ip first.relayed.ip) granted) granted)
first_line policy n m granted others first e f =
    let P : List GrantedAddress → ℕ = λ l. prefix_len (is_of_ip first.relayed.ip) l in
    ap (λ (k : ℕ). granted_lines k policy granted) e ∙ ap (λ (l : List GrantedAddress). granted_lines (suc m) policy l) f
    ∙ sym (ap (λ (l : List GrantedAddress). granted_line policy first (take (P l) l) ++ granted_lines m policy (drop (P l) l)) f)

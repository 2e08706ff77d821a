-- Keys of clients.
use Rattle.std.proofs.Common.{◌≡◌, ◌≢◌, true, false, ◌∙◌, refl, sym, subst}
use Rattle.std.specs.Ordering.{is_eq}
use Rattle.std.proofs.lemmas.Bool.{true≢false}
use Rattle.audit_model.specs.declared.pair.Pair.{Pair}
use Rattle.audit_model.specs.LanePairs.{pair_cmp}
use Rattle.audit_model.specs.Sames.{same_client}
use Rattle.audit_model.proofs.PairSets.{same}
use Rattle.audit_model.proofs.Sames.{client_true, client_same, client_apart}

same_either_way : (a b : Pair) → same_client a b ≡ same_client b a
same_either_way a b = elim (same_client b a) as (λ v. same_client b a ≡ v → same_client a b ≡ v) [
  | true ↦ λ q. client_same a b (sym (client_true b a q))
  | false ↦ λ q. client_apart a b (λ e. true≢false (sym (client_same b a (sym e)) ∙ q))
] refl

-- two clients have the same key exactly if they are the same client
pub key_at : (k q : Pair) → is_eq (pair_cmp (k.client, k.listen) (q.client, q.listen)) ≡ same_client q k
key_at k q = same k.client k.listen q.client q.listen ∙ same_either_way k q

-- what holds of one client and of each other one holds of all
pub by_client : (pair : Pair) (P : Pair → Type 0) → P pair → ((c : Pair) → c ≢ pair → P c) → (c : Pair) → P c
by_client pair P own other c = elim (same_client c pair) as (λ b. same_client c pair ≡ b → P c) [
  | true ↦ λ q. subst P (sym (client_true c pair q)) own
  | false ↦ λ q. other c (λ e. true≢false (sym (client_same c pair e) ∙ q))
] refl

-- A draft with one line more.
use Rattle.std.proofs.Common.{◌≡◌, ℕ, Bool, true, cond, List, [], ◌∷◌, ◌++◌, map, Some, None, Result, Ok, Err, sym, ap, subst, ◌∙◌}
use Rattle.std.specs.Prelude.{MatchResult}
use Rattle.audit_text.specs.Reading.{UnlessMemory}
use Rattle.audit_text.specs.Token.{◌>>=◌}
use Rattle.audit_cuts.specs.declared.carried.Came.{Came}
use Rattle.audit_cuts.specs.declared.carried.Client.{Client}
use Rattle.audit_cuts.specs.declared.carried.Interface.{Interface}
use Rattle.watch_checkpoint.specs.declared.draft.Draft.{Draft}
use Rattle.watch_checkpoint.specs.declared.entry.Entry.{Entry}
use Rattle.watch_checkpoint.specs.declared.entry.Holder.{Holder}
use Rattle.watch_checkpoint.specs.declared.fault.LineKind.{LineKind}
use Rattle.watch_checkpoint.specs.declared.fault.LineKind.TheVariants.{Order}
use Rattle.watch_checkpoint.specs.declared.client_set.ClientSet.{ClientSet}
use Rattle.watch_checkpoint.specs.Content.{HeaderContent, Tenant, tenant_of}
use Rattle.watch_checkpoint.specs.Fault.{is_memory}
use Rattle.watch_checkpoint.specs.Words.{entry_of}
use Rattle.watch_checkpoint.specs.Adding.{Progress, begun, clients_of, claimed, tenant, Knows, has_no_times, with_client, with_entry, after, progress_of, Says}

pub empty_progress : (grace : ℕ) (header : HeaderContent) (moment : ℕ) (i : List Interface) (b : List Client) (w o : List Came) → i ≡ [] → b ≡ [] → w ≡ [] → o ≡ [] →
    ◌≡◌ {A = Progress} (record { grace = grace; header = header; moment = moment; interfaces = i; before = map tenant_of b; last = None; waiting = w; owed = o }) (begun grace header moment)
empty_progress grace header moment i b w o ei eb ew eo =
    let st : List Interface → List Tenant → List Came → List Came → Progress = λ i b w o. record { grace = grace; header = header; moment = moment; interfaces = i; before = b; last = None; waiting = w; owed = o } in
    ap (λ x. st x (map tenant_of b) w o) ei ∙ ap (λ x. st [] (map tenant_of x) w o) eb ∙ ap (λ x. st [] [] x o) ew ∙ ap (λ x. st [] [] [] x) eo

pub claim_both : (r : Result (Unit {0}) LineKind) (P Q : Type 0) (a b : Result (Unit {0}) LineKind) → a ≡ Ok tt → P →
    MatchResult r (λ _. (b ≡ Ok tt) × Q) (λ kind. UnlessMemory is_memory kind b) → MatchResult r (λ _. ((a >>= λ _. b) ≡ Ok tt) × (P × Q)) (λ kind. UnlessMemory is_memory kind (a >>= λ _. b))
claim_both (Ok x) P Q a b e p h = (ap (λ t. t >>= λ _. b) e ∙ h.0, (p, h.1))
claim_both (Err k) P Q a b e p h = λ not_memory. ap (λ t. t >>= λ _. b) e ∙ h not_memory

abbrev pub with_tenant : Progress → Holder → Progress
with_tenant p h = record p { before = clients_of p; last = Some (tenant h) }

pub client_added : (p before new : Progress) (h : Holder) (known known' : ClientSet) → p ≡ before → has_no_times p ≡ true → claimed p.grace p.moment h (clients_of p) ≡ Ok tt →
    Knows known p.grace p.moment (clients_of p ++ tenant h ∷ []) → new ≡ with_tenant p h → known' ≡ known → (with_client before h ≡ Ok new) × Knows known' new.grace new.moment (clients_of new)
client_added p before new h known known' same none may knows made kept =
    let added : with_client p h ≡ Ok (with_tenant p h) =
    ap (λ (t : Bool). cond t (claimed p.grace p.moment h (clients_of p) >>= λ _. Ok (with_tenant p h)) (Err Order)) none ∙ ap (λ r. r >>= λ _. Ok (with_tenant p h)) may in
    subst (λ (n : Progress). (with_client before h ≡ Ok n) × Knows known' n.grace n.moment (clients_of n)) (sym made)
    (subst (λ (q : Progress). with_client q h ≡ Ok (with_tenant p h)) same added, subst (λ (t : ClientSet). Knows t p.grace p.moment (clients_of p ++ tenant h ∷ [])) (sym kept) knows)

pub line_added : (r : Result (Unit {0}) LineKind) (before : Progress) (line : List ℕ) (e : Entry) (new : Draft) → entry_of line ≡ Ok e →
    MatchResult r (λ _. (with_entry before e ≡ Ok (progress_of new)) × Says new (progress_of new)) (λ kind. UnlessMemory is_memory kind (with_entry before e)) →
    MatchResult r (λ _. (x : Progress) × (after before line ≡ Ok x) × Says new x) (λ kind. UnlessMemory is_memory kind (after before line))
unfolding after
line_added (Ok x) before line e new is h = (progress_of new, ap (λ r. r >>= with_entry before) is ∙ h.0, h.1)
line_added (Err k) before line e new is h = λ not_memory. ap (λ r. r >>= with_entry before) is ∙ h not_memory

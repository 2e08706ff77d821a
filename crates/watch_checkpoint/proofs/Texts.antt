-- Lines one after another.
use Rattle.std.proofs.Common.{◌≡◌, ℕ, List, [], ◌∷◌, ◌++◌, Result, Ok, Err, codes, map, refl, sym, ap, ◌∙◌, append_assoc}
use Rattle.std.specs.Prelude.{OnOk}
use Rattle.watch_checkpoint.specs.declared.entry.Entry.{Entry}
use Rattle.watch_checkpoint.specs.Spelling.{entry_text, entry_line, lines_of, clients_lines}
use Rattle.watch_checkpoint.specs.Content.{tenant_of, tenant_entries, tenants_entries}
use Rattle.audit_cuts.specs.declared.carried.Client.{Client}

pub lines_both : (a b : List Entry) → lines_of (a ++ b) ≡ lines_of a ++ lines_of b
lines_both [] b = refl
lines_both (e ∷ more) b = ap (λ t. entry_line e ++ t) (lines_both more b) ∙ sym (append_assoc (entry_line e) (lines_of more) (lines_of b))

pub lines_four : (a b c d : List Entry) → lines_of (a ++ (b ++ (c ++ d))) ≡ lines_of a ++ (lines_of b ++ (lines_of c ++ lines_of d))
lines_four a b c d = lines_both a (b ++ (c ++ d)) ∙ ap (λ t. lines_of a ++ t) (lines_both b (c ++ d) ∙ ap (λ t. lines_of b ++ t) (lines_both c d))

pub lines_after : (e : Entry) (a b : List Entry) → lines_of (e ∷ (a ++ b)) ≡ entry_text e ++ (codes "\n" ++ (lines_of a ++ lines_of b))
lines_after e a b = ap (λ t. entry_line e ++ t) (lines_both a b) ∙ append_assoc (entry_text e) (codes "\n") (lines_of a ++ lines_of b)

-- four texts added one after another
pub four : {A E : Type 0} (r : Result A E) (x a b c d w p s n : List ℕ) → a ≡ x ++ w → b ≡ a ++ p → c ≡ b ++ s → OnOk r (d ≡ c ++ n) → OnOk r (d ≡ x ++ (w ++ (p ++ (s ++ n))))
four (Ok v) x a b c d w p s n i j k l =
    let assoc : (((x ++ w) ++ p) ++ s) ++ n ≡ x ++ (w ++ (p ++ (s ++ n))) = simp append_assoc in
    l ∙ ap (λ t. t ++ n) (k ∙ ap (λ t. t ++ s) (j ∙ ap (λ t. t ++ p) i)) ∙ assoc
four (Err v) x a b c d w p s n i j k l = tt

pub on_ok_is : {A E : Type 0} (r : Result A E) (x d y z : List ℕ) → y ≡ z → OnOk r (d ≡ x ++ y) → OnOk r (d ≡ x ++ z)
on_ok_is (Ok v) x d y z e h = h ∙ ap (λ t. x ++ t) e
on_ok_is (Err v) x d y z e h = tt

pub clients_as : (clients : List Client) → clients_lines clients ≡ lines_of (tenants_entries (map tenant_of clients))
clients_as [] = refl
clients_as (client ∷ more) =
    ap (λ t. lines_of (tenant_entries (tenant_of client)) ++ t) (clients_as more) ∙ sym (lines_both (tenant_entries (tenant_of client)) (tenants_entries (map tenant_of more)))

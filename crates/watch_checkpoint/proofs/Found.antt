-- A line that is read is the text of its content.
use Rattle.std.proofs.Common.{◌≡◌, ℕ, ◌+◌, Bool, true, false, cond, eqb, ltb, leb, ◌&&◌, List, [], ◌∷◌, ◌++◌, length, map, Option, Some, None, Result, Ok, Err, refl, sym, ap, subst, ◌∙◌, append_assoc, append-nil, arith}
use Rattle.std.specs.Str.{bytes_eq}
use Rattle.std.specs.Cmp.Lexicographic.{same_text}
use Rattle.std.proofs.lemmas.Bool.{eqb-true}
use Rattle.audit_expiry.specs.declared.lease.Lease.{Lease}
use Rattle.audit_rules.specs.declared.table.Channel.{Channel}
use Rattle.audit_text.specs.Token.{◌>>=◌}
use Rattle.audit_cert.proofs.Steps.{bind_ok, guard_true, ok_is}
use Rattle.audit_cuts.specs.declared.carried.Came.{Came}
use Rattle.audit_cuts.specs.declared.carried.Interface.{Interface}
use Rattle.watch_checkpoint.specs.declared.entry.Entry.{Entry}
use Rattle.watch_checkpoint.specs.declared.entry.Entry.TheVariants as entry
use Rattle.watch_checkpoint.specs.declared.entry.Holder.{Holder}
use Rattle.watch_checkpoint.specs.declared.fault.LineKind.{LineKind}
use Rattle.watch_checkpoint.specs.declared.fault.LineKind.TheVariants.{Line, Order, Placement}
use Rattle.watch_checkpoint.specs.Content.{HeaderContent, Tenant, entries_of, numbered, tenant_entries, tenants_entries, permission_entry, channel_entry}
use Rattle.watch_checkpoint.specs.Spelling.{entry_text, header_text, moment_text}
use Rattle.watch_checkpoint.specs.Fault.{of_word}
use Rattle.watch_checkpoint.specs.Words.{parsed_of, parsed_header_of, parsed_moment_of, entry_of, header_of, moment_of}
use Rattle.watch_checkpoint.specs.Adding.{Progress, clients_of, with_last, content_at, claimed, has_no_times, has_no_clients, permitted, bound, placed_at, with_interface, with_client, with_permission, with_channel, with_waits, with_owed, with_entry}

-- ---- a line is the text of its content

-- what is left of a check that the text is the line
checked : {A : Type 0} (text : A → List ℕ) (r : Result A LineKind) (line : List ℕ) (x : A) → (r >>= λ y. cond (bytes_eq (text y) line) (Ok y) (Err Line)) ≡ Ok x → line ≡ text x
checked {A = A} text r line x e =
    let a = bind_ok r (λ y. cond (bytes_eq (text y) line) (Ok y) (Err Line)) x e in
    let b = guard_true (bytes_eq (text a.0) line) Line (Ok a.0) x a.2 in
    sym (same_text (text a.0) line (sym b.0)) ∙ ap text (ok_is {A = A} {E = LineKind} a.0 x b.1)

pub entry_found : (line : List ℕ) (e : Entry) → entry_of line ≡ Ok e → line ≡ entry_text e
unfolding entry_of
entry_found line e is = checked entry_text (of_word (parsed_of line)) line e is

pub header_found : (line : List ℕ) (h : HeaderContent) → header_of line ≡ Ok h → line ≡ header_text h
unfolding header_of
header_found line h is = checked header_text (of_word (parsed_header_of line)) line h is

pub moment_found : (line : List ℕ) (n : ℕ) → moment_of line ≡ Ok n → line ≡ moment_text n
unfolding moment_of
moment_found line n is = checked moment_text (of_word (parsed_moment_of line)) line n is

-- ---- one entry more is the last of the entries

none_of : {X : Type 0} (xs : List X) → eqb (length xs) 0 ≡ true → xs ≡ []
none_of [] e = refl
none_of (x ∷ xs) e = absurd (let n = eqb-true (length (x ∷ xs)) 0 e in omega (arith, n))

pub and_both : (s t : Bool) → (s && t) ≡ true → (s ≡ true) × (t ≡ true)
and_both true t e = (refl, e)
and_both false t e = absurd cc

module _ {X : Type 0} where
  -- one more in each of four lists, if those after it are empty
  at_d : (a b c d d' e : List X) → d' ≡ d ++ e → (a ++ (b ++ (c ++ d))) ++ e ≡ a ++ (b ++ (c ++ d'))
  at_d a b c d d' e is =
      let assoc : (a ++ (b ++ (c ++ d))) ++ e ≡ a ++ (b ++ (c ++ (d ++ e))) = simp append_assoc in
      assoc ∙ ap (λ (l : List X). a ++ (b ++ (c ++ l))) (sym is)

  at_c : (a b c c' d e : List X) → d ≡ [] → c' ≡ c ++ e → (a ++ (b ++ (c ++ d))) ++ e ≡ a ++ (b ++ (c' ++ d))
  at_c a b c c' d e none is =
      let assoc : (a ++ (b ++ c)) ++ e ≡ a ++ (b ++ (c ++ e)) = simp append_assoc in
      ap (λ (l : List X). (a ++ (b ++ l)) ++ e) (ap (λ (l : List X). c ++ l) none ∙ append-nil c) ∙ assoc
      ∙ ap (λ (l : List X). a ++ (b ++ l)) (sym is ∙ sym (append-nil c') ∙ ap (λ (l : List X). c' ++ l) (sym none))

  at_b : (a b b' c d e : List X) → c ≡ [] → d ≡ [] → b' ≡ b ++ e → (a ++ (b ++ (c ++ d))) ++ e ≡ a ++ (b' ++ (c ++ d))
  at_b a b b' c d e gone_c none is =
      let gone : c ++ d ≡ [] = ap (λ (l : List X). l ++ d) gone_c ∙ none in
      ap (λ (l : List X). (a ++ (b ++ l)) ++ e) gone ∙ ap (λ (l : List X). (a ++ l) ++ e) (append-nil b) ∙ append_assoc a b e
      ∙ ap (λ (l : List X). a ++ l) (sym is ∙ sym (append-nil b')) ∙ ap (λ (l : List X). a ++ (b' ++ l)) (sym gone)

  at_a : (a a' b c d e : List X) → b ≡ [] → c ≡ [] → d ≡ [] → a' ≡ a ++ e → (a ++ (b ++ (c ++ d))) ++ e ≡ a' ++ (b ++ (c ++ d))
  at_a a a' b c d e gone_b gone_c none is =
      let gone : b ++ (c ++ d) ≡ [] = ap (λ (l : List X). l ++ (c ++ d)) gone_b ∙ ap (λ (l : List X). l ++ d) gone_c ∙ none in
      ap (λ (l : List X). (a ++ l) ++ e) gone ∙ ap (λ (l : List X). l ++ e) (append-nil a) ∙ sym is ∙ sym (append-nil a') ∙ ap (λ (l : List X). a' ++ l) (sym gone)

pub map_both : {X Y : Type 0} (f : X → Y) (xs ys : List X) → map f (xs ++ ys) ≡ map f xs ++ map f ys
map_both f [] ys = refl
map_both f (x ∷ xs) ys = ap (λ l. f x ∷ l) (map_both f xs ys)

pub tenants_both : (a b : List Tenant) → tenants_entries (a ++ b) ≡ tenants_entries a ++ tenants_entries b
tenants_both [] b = refl
tenants_both (t ∷ more) b = ap (λ l. tenant_entries t ++ l) (tenants_both more b) ∙ sym (append_assoc (tenant_entries t) (tenants_entries more) (tenants_entries b))

pub numbered_push : (n : ℕ) (xs : List Interface) (x : Interface) → numbered n (xs ++ x ∷ []) ≡ numbered n xs ++ entry.Interface (n + length xs) x ∷ []
numbered_push n [] x = ap (λ (m : ℕ). entry.Interface m x ∷ []) (omega arith)
numbered_push n (y ∷ ys) x =
    ap (λ l. entry.Interface n y ∷ l) (numbered_push (n + 1) ys x ∙ ap (λ (m : ℕ). numbered (n + 1) ys ++ entry.Interface m x ∷ []) (omega arith))

-- a client more, and more of the last one
last_more : (before : List Tenant) (t t' : Tenant) (e : Entry) → tenant_entries t' ≡ tenant_entries t ++ e ∷ [] →
    tenants_entries (before ++ t' ∷ []) ≡ tenants_entries (before ++ t ∷ []) ++ e ∷ []
last_more before t t' e is =
    tenants_both before (t' ∷ []) ∙ ap (λ l. tenants_entries before ++ (l ++ [])) is ∙ ap (λ l. tenants_entries before ++ l) (append-nil (tenant_entries t ++ e ∷ []))
    ∙ sym (append_assoc (tenants_entries before) (tenant_entries t) (e ∷ []))
    ∙ ap (λ l. (tenants_entries before ++ l) ++ e ∷ []) (sym (append-nil (tenant_entries t))) ∙ ap (λ l. l ++ e ∷ []) (sym (tenants_both before (t ∷ [])))

abbrev pub entries_at : Progress → List Entry
entries_at p = entries_of (content_at p)

-- the entry is the last of those that the content has, and the rest of the content is the same
pub record Adds (p : Progress) (e : Entry) (q : Progress) : Type 0 where
  pub entries : entries_at p ++ e ∷ [] ≡ entries_at q
  pub header : q.header ≡ p.header
  pub moment : q.moment ≡ p.moment

no_times : (p : Progress) → has_no_times p ≡ true → (p.waiting ≡ []) × (p.owed ≡ [])
no_times p e = let b = and_both (eqb (length p.waiting) 0) (eqb (length p.owed) 0) e in (none_of p.waiting b.0, none_of p.owed b.1)

interface_adds : (p q : Progress) (n : ℕ) (i : Interface) → with_interface p n i ≡ Ok q → Adds p (entry.Interface n i) q
interface_adds p q n i e =
    let made : Progress = record p { interfaces = p.interfaces ++ i ∷ [] } in
    let a = guard_true (eqb n (length p.interfaces) && has_no_clients p) Order (Ok made) q e in
    let b = and_both (eqb n (length p.interfaces)) (has_no_clients p) a.0 in
    let c = and_both (eqb (length (clients_of p)) 0) (has_no_times p) b.1 in
    let times = no_times p c.1 in
    let pushed : numbered 0 (p.interfaces ++ i ∷ []) ≡ numbered 0 p.interfaces ++ entry.Interface n i ∷ [] =
    numbered_push 0 p.interfaces i ∙ ap (λ (m : ℕ). numbered 0 p.interfaces ++ entry.Interface m i ∷ []) (let same = eqb-true n (length p.interfaces) b.0 in omega (arith, same)) in
    subst (Adds p (entry.Interface n i)) (ok_is made q a.1) (record {
      entries = at_a (numbered 0 p.interfaces) (numbered 0 (p.interfaces ++ i ∷ [])) (tenants_entries (clients_of p)) (map entry.Waits p.waiting) (map entry.Owed p.owed) (entry.Interface n i ∷ [])
          (ap tenants_entries (none_of (clients_of p) c.0)) (ap (map entry.Waits) times.0) (ap (map entry.Owed) times.1) pushed;
      header = refl;
      moment = refl;
    })

-- the entries of a client that comes after others
clients_push : (p : Progress) (e : Entry) (clients : List Tenant) → has_no_times p ≡ true → tenants_entries clients ≡ tenants_entries (clients_of p) ++ e ∷ [] →
    entries_at p ++ e ∷ [] ≡ numbered 0 p.interfaces ++ (tenants_entries clients ++ (map entry.Waits p.waiting ++ map entry.Owed p.owed))
clients_push p e clients none is =
    let times = no_times p none in
    at_b (numbered 0 p.interfaces) (tenants_entries (clients_of p)) (tenants_entries clients) (map entry.Waits p.waiting) (map entry.Owed p.owed) (e ∷ [])
    (ap (map entry.Waits) times.0) (ap (map entry.Owed) times.1) is

client_adds : (p q : Progress) (h : Holder) → with_client p h ≡ Ok q → Adds p (entry.Client h) q
client_adds p q h e =
    let t : Tenant = record { holder = h; permissions = []; channels = [] } in
    let made : Progress = record p { before = clients_of p; last = Some t } in
    let a = guard_true (has_no_times p) Order (claimed p.grace p.moment h (clients_of p) >>= (λ _. Ok made)) q e in
    let b = bind_ok (claimed p.grace p.moment h (clients_of p)) (λ _. Ok made) q a.1 in
    subst (Adds p (entry.Client h)) (ok_is made q b.2) (record {
      entries = clients_push p (entry.Client h) (clients_of p ++ t ∷ []) a.0 (tenants_both (clients_of p) (t ∷ []));
      header = refl;
      moment = refl;
    })

permission_last : (p : Progress) (last : Option Tenant) (ip : ℕ) (lease : Lease) (t : Tenant) → permitted last ip lease ≡ Ok t →
    tenants_entries (with_last p.before (Some t)) ≡ tenants_entries (with_last p.before last) ++ entry.Permission ip lease ∷ []
permission_last p None ip lease t e = absurd cc
permission_last p (Some s) ip lease t e =
    let made : Tenant = record s { permissions = s.permissions ++ (ip, lease) ∷ [] } in
    let a = guard_true (eqb (length s.channels) 0) Order (Ok made) t e in
    let none : map channel_entry s.channels ≡ [] = ap (map channel_entry) (none_of s.channels a.0) in
    let pushed : tenant_entries made ≡ tenant_entries s ++ entry.Permission ip lease ∷ [] =
    ap (λ (l : List Entry). entry.Client s.holder ∷ l)
    (ap (λ (l : List Entry). map permission_entry (s.permissions ++ (ip, lease) ∷ []) ++ l) none ∙ append-nil (map permission_entry (s.permissions ++ (ip, lease) ∷ []))
    ∙ map_both permission_entry s.permissions ((ip, lease) ∷ [])
    ∙ ap (λ (l : List Entry). l ++ entry.Permission ip lease ∷ []) (sym (append-nil (map permission_entry s.permissions)) ∙ ap (λ (l : List Entry). map permission_entry s.permissions ++ l) (sym none))) in
    last_more p.before s t (entry.Permission ip lease) (ap tenant_entries (sym (ok_is {E = LineKind} made t a.1)) ∙ pushed)

channel_last : (p : Progress) (last : Option Tenant) (n : ℕ) (c : Channel) (t : Tenant) → bound last n c ≡ Ok t →
    tenants_entries (with_last p.before (Some t)) ≡ tenants_entries (with_last p.before last) ++ entry.Channel n c ∷ []
channel_last p None n c t e = absurd cc
channel_last p (Some s) n c t e =
    let made : Tenant = record s { channels = s.channels ++ (n, c) ∷ [] } in
    let pushed : tenant_entries made ≡ tenant_entries s ++ entry.Channel n c ∷ [] =
    ap (λ (l : List Entry). entry.Client s.holder ∷ l)
    (ap (λ (l : List Entry). map permission_entry s.permissions ++ l) (map_both channel_entry s.channels ((n, c) ∷ []))
    ∙ sym (append_assoc (map permission_entry s.permissions) (map channel_entry s.channels) (entry.Channel n c ∷ []))) in
    last_more p.before s t (entry.Channel n c) (ap tenant_entries (sym (ok_is {E = LineKind} made t e)) ∙ pushed)

permission_adds : (p q : Progress) (ip : ℕ) (lease : Lease) → with_permission p ip lease ≡ Ok q → Adds p (entry.Permission ip lease) q
permission_adds p q ip lease e =
    let a = guard_true (has_no_times p) Order (permitted p.last ip lease >>= (λ t. Ok (record p { last = Some t }))) q e in
    let b = bind_ok (permitted p.last ip lease) (λ t. Ok (record p { last = Some t })) q a.1 in
    subst (Adds p (entry.Permission ip lease)) (ok_is (record p { last = Some b.0 }) q b.2) (record {
      entries = clients_push p (entry.Permission ip lease) (with_last p.before (Some b.0)) a.0 (permission_last p p.last ip lease b.0 b.1);
      header = refl;
      moment = refl;
    })

channel_adds : (p q : Progress) (n : ℕ) (c : Channel) → with_channel p n c ≡ Ok q → Adds p (entry.Channel n c) q
channel_adds p q n c e =
    let a = guard_true (has_no_times p) Order (bound p.last n c >>= (λ t. Ok (record p { last = Some t }))) q e in
    let b = bind_ok (bound p.last n c) (λ t. Ok (record p { last = Some t })) q a.1 in
    subst (Adds p (entry.Channel n c)) (ok_is (record p { last = Some b.0 }) q b.2) (record {
      entries = clients_push p (entry.Channel n c) (with_last p.before (Some b.0)) a.0 (channel_last p p.last n c b.0 b.1);
      header = refl;
      moment = refl;
    })

waits_adds : (p q : Progress) (came : Came) → with_waits p came ≡ Ok q → Adds p (entry.Waits came) q
waits_adds p q came e =
    let made : Progress = record p { waiting = p.waiting ++ came ∷ [] } in
    let a = guard_true (eqb (length p.owed) 0) Order (cond (ltb came.sight.index (placed_at p.interfaces came.sight.iface)) (Ok made) (Err Placement)) q e in
    let b = guard_true (ltb came.sight.index (placed_at p.interfaces came.sight.iface)) Placement (Ok made) q a.1 in
    subst (Adds p (entry.Waits came)) (ok_is made q b.1) (record {
      entries = at_c (numbered 0 p.interfaces) (tenants_entries (clients_of p)) (map entry.Waits p.waiting) (map entry.Waits (p.waiting ++ came ∷ [])) (map entry.Owed p.owed) (entry.Waits came ∷ [])
          (ap (map entry.Owed) (none_of p.owed a.0)) (map_both entry.Waits p.waiting (came ∷ []));
      header = refl;
      moment = refl;
    })

owed_adds : (p q : Progress) (came : Came) → with_owed p came ≡ Ok q → Adds p (entry.Owed came) q
owed_adds p q came e =
    let made : Progress = record p { owed = p.owed ++ came ∷ [] } in
    let b = guard_true (leb (placed_at p.interfaces came.sight.iface) came.sight.index) Placement (Ok made) q e in
    subst (Adds p (entry.Owed came)) (ok_is made q b.1) (record {
      entries = at_d (numbered 0 p.interfaces) (tenants_entries (clients_of p)) (map entry.Waits p.waiting) (map entry.Owed p.owed) (map entry.Owed (p.owed ++ came ∷ [])) (entry.Owed came ∷ [])
          (map_both entry.Owed p.owed (came ∷ []));
      header = refl;
      moment = refl;
    })

pub entry_adds : (p q : Progress) (e : Entry) → with_entry p e ≡ Ok q → Adds p e q
unfolding with_entry
entry_adds p q (entry.Interface n i) e = interface_adds p q n i e
entry_adds p q (entry.Client h) e = client_adds p q h e
entry_adds p q (entry.Permission ip lease) e = permission_adds p q ip lease e
entry_adds p q (entry.Channel n c) e = channel_adds p q n c e
entry_adds p q (entry.Waits came) e = waits_adds p q came e
entry_adds p q (entry.Owed came) e = owed_adds p q came e

-- A text that is written is read again.
use Rattle.std.proofs.Common.{◌≡◌, ℕ, ◌+◌, ◌<◌, ◌≤◌, ◌^◌, Bool, true, cond, ◌&&◌, List, [], ◌∷◌, ◌++◌, length, get_or, map, Option, Some, None, Result, Ok, Err, codes, decimal, refl, sym, ap, subst, ◌∙◌, append_assoc, append-nil, eq-eqb, arith}
use Rattle.std.specs.Int.{w32, to_be_bytes}
use Rattle.std.specs.List.{AllByRecursion}
use Rattle.std.proofs.lemmas.Bool.{lt-ltb, le-leb, le-ltb}
use Rattle.std.proofs.lemmas.Fmt.{length-decimal-le}
use Rattle.std.proofs.lemmas.List.{length-append}
use Rattle.hex.specs.Hex.{encode_lower, lower_digits}
use Rattle.hex.proofs.HexLemmas.{length-encode_with}
use Rattle.audit_expiry.specs.declared.lease.Lease.{Lease}
use Rattle.audit_model.specs.Addr.{addr_text}
use Rattle.audit_model.specs.Fits.{AddrFits}
use Rattle.audit_model.specs.declared.address.Addr.{Addr}
use Rattle.audit_rules.specs.declared.table.Channel.{Channel}
use Rattle.audit_text.specs.declared.text_reader.TheConstants.{LONGEST_LINE}
use Rattle.audit_text.specs.Lines.{Pieces, pieces}
use Rattle.audit_text.specs.Reading.{line_after, within}
use Rattle.audit_text.specs.Token.{◌>>=◌, halves_of}
use Rattle.audit_cert.specs.Spelling.{sight_text}
use Rattle.audit_cert.proofs.Again.{Lacks, lacks_both, decimal_lacks, sight_lacks, addr_lacks, bind_again, halves_at}
use Rattle.audit_cert.proofs.Steps.{bind_ok, ok_is}
use Rattle.audit_cert.proofs.Texts.{pieces-line}
use Rattle.audit_cuts.specs.declared.carried.Came.{Came}
use Rattle.audit_cuts.specs.declared.carried.Interface.{Interface}
use Rattle.watch_checkpoint.specs.declared.entry.Entry.{Entry}
use Rattle.watch_checkpoint.specs.declared.entry.Entry.TheVariants as entry
use Rattle.watch_checkpoint.specs.declared.entry.Holder.{Holder}
use Rattle.watch_checkpoint.specs.declared.fault.LineKind.{LineKind}
use Rattle.watch_checkpoint.specs.declared.fault.LineKind.TheVariants.{Order, Placement}
use Rattle.watch_checkpoint.specs.Content.{Content, HeaderContent, Tenant, entries_of, numbered, tenant_entries, tenants_entries, permission_entry, channel_entry}
use Rattle.watch_checkpoint.specs.Spelling.{ip_text, came_text, ends_text, grant_text, entry_text, header_text, moment_text, lines_of, body_of, line}
use Rattle.watch_checkpoint.specs.Fault.{of_word}
use Rattle.watch_checkpoint.specs.Words.{entry_of, header_of, moment_of}
use Rattle.watch_checkpoint.specs.Adding.{Progress, begun, with_last, content_at, claimed, placed_at, tenant, with_entry, after}
use Rattle.watch_checkpoint.specs.Reading.{overlong, lacks, entries_read, moved, at, rest_read}
use Rattle.watch_checkpoint.specs.Fits.{HolderFits, CameFits, EntryFits, HeaderFits, MayFollow, IsCheckpoint}
use Rattle.watch_checkpoint.proofs.AgainLines.{ip_lacks, hex_lacks, entry_again, header_again, moment_again}
use Rattle.watch_checkpoint.proofs.FoundTexts.{Read, from_pieces, then_rest}

-- ---- no line has an LF

came_lacks : (came : Came) → CameFits came → Lacks 10 (came_text came)
came_lacks came fits = lacks_both 10 (sight_text came.sight) (32 ∷ decimal came.moment) (sight_lacks 10 came.sight refl refl fits.0) (decimal_lacks 10 came.moment refl fits.1)

address_then : (a : Addr) (rest : List ℕ) → AddrFits a → Lacks 10 rest → Lacks 10 (addr_text a ++ rest)
address_then a rest fits lacks = lacks_both 10 (addr_text a) rest (addr_lacks 10 a refl refl refl fits) lacks

holder_lacks : (h : Holder) → HolderFits h → Lacks 10 (ends_text h.pair h.relayed ++ grant_text h.user h.id h.lease.until)
holder_lacks h fits =
    lacks_both 10 (ends_text h.pair h.relayed) (grant_text h.user h.id h.lease.until)
    (address_then h.pair.client _ fits.client (address_then h.pair.listen _ fits.listen (addr_lacks 10 h.relayed refl refl refl fits.relayed)))
    (lacks_both 10 (encode_lower h.user) _ (hex_lacks 10 h.user refl refl) (lacks_both 10 (encode_lower h.id) _ (hex_lacks 10 h.id refl refl) (decimal_lacks 10 h.lease.until refl fits.until)))

entry_lacks : (e : Entry) → EntryFits e → Lacks 10 (entry_text e)
unfolding entry_text
entry_lacks (entry.Interface n i) fits =
    lacks_both 10 (decimal n) _ (decimal_lacks 10 n refl fits.0) (lacks_both 10 (decimal i.base) _ (decimal_lacks 10 i.base refl fits.1.0) (decimal_lacks 10 i.placed refl (omega (arith, fits.1.1))))
entry_lacks (entry.Client h) fits = holder_lacks h fits
entry_lacks (entry.Permission ip lease) fits = lacks_both 10 (ip_text ip) _ (ip_lacks 10 ip refl refl) (decimal_lacks 10 lease.until refl fits.1)
entry_lacks (entry.Channel n c) fits =
    lacks_both 10 (decimal n) _ (decimal_lacks 10 n refl (omega (arith, fits.0))) (address_then c.peer _ fits.1.0 (decimal_lacks 10 c.lease.until refl fits.1.1))
entry_lacks (entry.Waits came) fits = came_lacks came fits
entry_lacks (entry.Owed came) fits = came_lacks came fits

-- ---- no line is too long

join : (a b : List ℕ) (m n : ℕ) → length a ≤ m → length b ≤ n → length (a ++ b) ≤ m + n
join a b m n i j = omega (arith, i, j, length-append a b)

number_short : (n : ℕ) → n < 2 ^ 64 → length (decimal n) ≤ 20
number_short n fits = length-decimal-le 20 n (omega arith) (omega arith) fits

octet_then : (n : ℕ) (rest : List ℕ) (m separator : ℕ) → n < 256 → length rest ≤ m → length (decimal n ++ separator ∷ rest) ≤ 20 + (m + 1)
octet_then n rest m separator lt h = join (decimal n) (separator ∷ rest) 20 (m + 1) (number_short n (omega arith)) (omega (arith, h))

ip_short : (ip : ℕ) → length (ip_text ip) ≤ 100
unfolding ip_text
ip_short ip =
    let octet : ℕ → ℕ = λ i. get_or (to_be_bytes w32 ip) i 0 in
    let h = octet_then (octet 0) _ 62 46 (omega arith) (octet_then (octet 1) _ 41 46 (omega arith) (octet_then (octet 2) (decimal (octet 3)) 20 46 (omega arith) (number_short (octet 3) (omega arith)))) in
    omega (arith, h)

addr_short : (a : Addr) → AddrFits a → length (addr_text a) ≤ 110
addr_short a fits =
    let octet : ℕ → ℕ = λ i. get_or (to_be_bytes w32 a.ip) i 0 in
    let h = octet_then (octet 0) _ 83 46 (omega arith) (octet_then (octet 1) _ 62 46 (omega arith) (octet_then (octet 2) _ 41 46 (omega arith)
    (octet_then (octet 3) (decimal a.port) 20 58 (omega arith) (number_short a.port (omega (arith, fits.1)))))) in
    omega (arith, h)

came_short : (came : Came) → CameFits came → length (came_text came) ≤ 100
came_short came fits =
    let h = join (decimal came.sight.iface) (46 ∷ decimal came.sight.index) 20 21 (number_short came.sight.iface (omega (arith, fits.0.0))) (let i = number_short came.sight.index (omega (arith, fits.0.1)) in omega (arith, i)) in
    let k = join (sight_text came.sight) (32 ∷ decimal came.moment) 41 21 (omega (arith, h)) (let i = number_short came.moment fits.1 in omega (arith, i)) in
    omega (arith, k)

holder_short : (h : Holder) → HolderFits h → length (ends_text h.pair h.relayed ++ grant_text h.user h.id h.lease.until) ≤ LONGEST_LINE
holder_short h fits =
    let user : length (encode_lower h.user) ≤ 64000 = let e = length-encode_with lower_digits h.user in omega (arith, e, fits.short) in
    let id : length (encode_lower h.id) ≤ 24 = let e = length-encode_with lower_digits h.id in omega (arith, e, fits.id.0) in
    let relayed = join (addr_text h.pair.listen) (codes " relayed " ++ addr_text h.relayed) 110 119 (addr_short h.pair.listen fits.listen) (let a = addr_short h.relayed fits.relayed in omega (arith, a)) in
    let ends = join (addr_text h.pair.client) (codes " listen " ++ (addr_text h.pair.listen ++ (codes " relayed " ++ addr_text h.relayed))) 110 237 (addr_short h.pair.client fits.client) (omega (arith, relayed)) in
    let until = join (encode_lower h.id) (codes " until " ++ decimal h.lease.until) 24 27 id (let a = number_short h.lease.until fits.until in omega (arith, a)) in
    let grant = join (encode_lower h.user) (codes " id " ++ (encode_lower h.id ++ (codes " until " ++ decimal h.lease.until))) 64000 55 user (omega (arith, until)) in
    let both = length-append (ends_text h.pair h.relayed) (grant_text h.user h.id h.lease.until) in
    omega (arith, both, ends, grant)

entry_short : (e : Entry) → EntryFits e → length (entry_text e) ≤ LONGEST_LINE
unfolding entry_text
entry_short (entry.Interface n i) fits =
    let a = join (decimal i.base) (codes " placed " ++ decimal i.placed) 20 28 (number_short i.base fits.1.0) (let k = number_short i.placed (omega (arith, fits.1.1)) in omega (arith, k)) in
    let b = join (decimal n) (codes " base " ++ (decimal i.base ++ (codes " placed " ++ decimal i.placed))) 20 54 (number_short n fits.0) (omega (arith, a)) in
    omega (arith, b)
entry_short (entry.Client h) fits = holder_short h fits
entry_short (entry.Permission ip lease) fits =
    let a = join (ip_text ip) (codes " " ++ decimal lease.until) 100 21 (ip_short ip) (let k = number_short lease.until fits.1 in omega (arith, k)) in
    omega (arith, a)
entry_short (entry.Channel n c) fits =
    let a = join (addr_text c.peer) (codes " " ++ decimal c.lease.until) 110 21 (addr_short c.peer fits.1.0) (let k = number_short c.lease.until fits.1.1 in omega (arith, k)) in
    let b = join (decimal n) (codes " " ++ (addr_text c.peer ++ (codes " " ++ decimal c.lease.until))) 20 132 (number_short n (omega (arith, fits.0))) (omega (arith, a)) in
    omega (arith, b)
entry_short (entry.Waits came) fits = let a = came_short came fits in omega (arith, a)
entry_short (entry.Owed came) fits = let a = came_short came fits in omega (arith, a)

-- ---- the text of entries

abbrev read_from : ℕ → Progress → List ℕ → Read
read_from n p text = from_pieces n p (pieces text).first (pieces text).more

within_is : (p : Progress) (text : List ℕ) → length text ≤ LONGEST_LINE → within overlong after p text ≡ after p text
within_is p text short = ap (λ (t : Bool). cond t (Err (overlong p)) (after p text)) (le-ltb LONGEST_LINE (length text) short)

one_read : (n : ℕ) (p q : Progress) (text rest : List ℕ) → Lacks 10 text → length text ≤ LONGEST_LINE → after p text ≡ Ok q → read_from n p (text ++ 10 ∷ rest) ≡ read_from (line_after n) q rest
one_read n p q text rest unbroken short e =
    ap (λ (x : Pieces). from_pieces n p x.first x.more) (pieces-line text rest unbroken)
    ∙ ap (λ (r : Result Progress LineKind). then_rest n r (pieces rest).first (pieces rest).more) (within_is p text short ∙ e)

after_again : (p q : Progress) (e : Entry) → EntryFits e → with_entry p e ≡ Ok q → after p (entry_text e) ≡ Ok q
unfolding after
after_again p q e fits is = bind_again (entry_of (entry_text e)) (with_entry p) e (Ok q) (entry_again e fits) is

-- the entries, one after another
abbrev folded : Progress → List Entry → Result Progress LineKind
folded p [] = Ok p
folded p (e ∷ more) = with_entry p e >>= λ q. folded q more

lines_again : (n : ℕ) (p q : Progress) (es : List Entry) → AllByRecursion EntryFits es → folded p es ≡ Ok q → read_from n p (lines_of es) ≡ Ok q
lines_again n p q [] fits e = ap (λ (x : Progress). read_from n x []) (ok_is {E = LineKind} p q e)
lines_again n p q (e ∷ more) fits is =
    let a = bind_ok (with_entry p e) (λ x. folded x more) q is in
    ap (read_from n p) (append_assoc (entry_text e) (10 ∷ []) (lines_of more))
    ∙ one_read n p a.0 (entry_text e) (lines_of more) (entry_lacks e fits.0) (entry_short e fits.0) (after_again p a.0 e fits.0 a.1)
    ∙ lines_again (line_after n) a.0 q more fits.1 a.2

then_folded : (p q r : Progress) (a b : List Entry) → folded p a ≡ Ok q → folded q b ≡ Ok r → folded p (a ++ b) ≡ Ok r
then_folded p q r [] b e f = ap (λ (x : Progress). folded x b) (ok_is {E = LineKind} p q e) ∙ f
then_folded p q r (x ∷ more) b e f =
    let a = bind_ok (with_entry p x) (λ y. folded y more) q e in
    bind_again (with_entry p x) (λ y. folded y (more ++ b)) a.0 (Ok r) a.1 (then_folded a.0 q r more b a.2 f)

-- ---- the entries of a checkpoint, section by section

module _ (grace : ℕ) (header : HeaderContent) (moment : ℕ) where
  abbrev state : List Interface → List Tenant → Option Tenant → List Came → List Came → Progress
  state is b l w o = record { grace = grace; header = header; moment = moment; interfaces = is; before = b; last = l; waiting = w; owed = o }

  interfaces_again : (done todo : List Interface) → folded (state done [] None [] []) (numbered (length done) todo) ≡ Ok (state (done ++ todo) [] None [] [])
  unfolding with_entry
  interfaces_again done [] = ap (λ (is : List Interface). Ok (state is [] None [] [])) (sym (append-nil done))
  interfaces_again done (i ∷ more) =
      let next : Progress = state (done ++ i ∷ []) [] None [] [] in
      let grown : length done + 1 ≡ length (done ++ i ∷ []) = omega (arith, length-append done (i ∷ [])) in
      ap (λ (t : Bool). cond (t && true) (Ok next) (Err Order) >>= λ q. folded q (numbered (length done + 1) more)) (eq-eqb (length done) (length done) refl)
      ∙ ap (λ (n : ℕ). folded next (numbered n more)) grown
      ∙ interfaces_again (done ++ i ∷ []) more
      ∙ ap (λ (is : List Interface). Ok (state is [] None [] [])) (append_assoc done (i ∷ []) more)

  module _ (is : List Interface) where
    permissions_again : (b : List Tenant) (h : Holder) (done todo : List (ℕ × Lease)) →
        folded (state is b (Some (record { holder = h; permissions = done; channels = [] })) [] []) (map permission_entry todo) ≡ Ok (state is b (Some (record { holder = h; permissions = done ++ todo; channels = [] })) [] [])
    unfolding with_entry
    permissions_again b h done [] = ap (λ (ps : List (ℕ × Lease)). Ok (state is b (Some (record { holder = h; permissions = ps; channels = [] })) [] [])) (sym (append-nil done))
    permissions_again b h done (p ∷ more) =
        permissions_again b h (done ++ p ∷ []) more ∙ ap (λ (ps : List (ℕ × Lease)). Ok (state is b (Some (record { holder = h; permissions = ps; channels = [] })) [] [])) (append_assoc done (p ∷ []) more)

    channels_again : (b : List Tenant) (h : Holder) (ps : List (ℕ × Lease)) (done todo : List (ℕ × Channel)) →
        folded (state is b (Some (record { holder = h; permissions = ps; channels = done })) [] []) (map channel_entry todo) ≡ Ok (state is b (Some (record { holder = h; permissions = ps; channels = done ++ todo })) [] [])
    unfolding with_entry
    channels_again b h ps done [] = ap (λ (cs : List (ℕ × Channel)). Ok (state is b (Some (record { holder = h; permissions = ps; channels = cs })) [] [])) (sym (append-nil done))
    channels_again b h ps done (c ∷ more) =
        channels_again b h ps (done ++ c ∷ []) more ∙ ap (λ (cs : List (ℕ × Channel)). Ok (state is b (Some (record { holder = h; permissions = ps; channels = cs })) [] [])) (append_assoc done (c ∷ []) more)

    tenant_again : (b : List Tenant) (l : Option Tenant) (t : Tenant) → claimed grace moment t.holder (with_last b l) ≡ Ok tt → folded (state is b l [] []) (tenant_entries t) ≡ Ok (state is (with_last b l) (Some t) [] [])
    unfolding with_entry
    tenant_again b l t may =
        let new : Progress = state is (with_last b l) (Some (tenant t.holder)) [] [] in
        let more : List Entry = map permission_entry t.permissions ++ map channel_entry t.channels in
        ap (λ r. (r >>= λ (_ : Unit {0}). Ok new) >>= λ q. folded q more) may
        ∙ then_folded new (state is (with_last b l) (Some (record { holder = t.holder; permissions = t.permissions; channels = [] })) [] []) (state is (with_last b l) (Some t) [] []) (map permission_entry t.permissions) (map channel_entry t.channels)
        (permissions_again (with_last b l) t.holder [] t.permissions) (channels_again (with_last b l) t.holder t.permissions [] t.channels)

    -- where the clients end
    abbrev Ends : List Tenant → Option Tenant → List Tenant → Type 0
    Ends b l todo = (b' : List Tenant) × (l' : Option Tenant) × (folded (state is b l [] []) (tenants_entries todo) ≡ Ok (state is b' l' [] [])) × (with_last b' l' ≡ with_last b l ++ todo)

    clients_again : (b : List Tenant) (l : Option Tenant) (todo : List Tenant) → MayFollow grace moment (with_last b l ++ todo) → Ends b l todo
    clients_again b l [] may = (b, l, refl, sym (append-nil (with_last b l)))
    clients_again b l (t ∷ more) may =
        let whole : with_last b l ++ t ∷ more ≡ (with_last b l ++ t ∷ []) ++ more = sym (append_assoc (with_last b l) (t ∷ []) more) in
        let rest = clients_again (with_last b l) (Some t) more (subst (MayFollow grace moment) whole may) in (
          rest.0,
          rest.1,
          then_folded (state is b l [] []) (state is (with_last b l) (Some t) [] []) (state is rest.0 rest.1 [] []) (tenant_entries t) (tenants_entries more) (tenant_again b l t (may (with_last b l) t more refl)) rest.2,
          rest.3 ∙ sym whole,
        )

    waiting_again : (b : List Tenant) (l : Option Tenant) (done todo : List Came) → AllByRecursion (λ (came : Came). came.sight.index < placed_at is came.sight.iface) todo →
        folded (state is b l done []) (map entry.Waits todo) ≡ Ok (state is b l (done ++ todo) [])
    unfolding with_entry
    waiting_again b l done [] all = ap (λ (w : List Came). Ok (state is b l w [])) (sym (append-nil done))
    waiting_again b l done (came ∷ more) all =
        ap (λ (t : Bool). cond t (Ok (state is b l (done ++ came ∷ []) [])) (Err Placement) >>= λ q. folded q (map entry.Waits more)) (lt-ltb came.sight.index (placed_at is came.sight.iface) all.0)
        ∙ waiting_again b l (done ++ came ∷ []) more all.1 ∙ ap (λ (w : List Came). Ok (state is b l w [])) (append_assoc done (came ∷ []) more)

    owed_again : (b : List Tenant) (l : Option Tenant) (w done todo : List Came) → AllByRecursion (λ (came : Came). placed_at is came.sight.iface ≤ came.sight.index) todo →
        folded (state is b l w done) (map entry.Owed todo) ≡ Ok (state is b l w (done ++ todo))
    unfolding with_entry
    owed_again b l w done [] all = ap (λ (o : List Came). Ok (state is b l w o)) (sym (append-nil done))
    owed_again b l w done (came ∷ more) all =
        ap (λ (t : Bool). cond t (Ok (state is b l w (done ++ came ∷ []))) (Err Placement) >>= λ q. folded q (map entry.Owed more)) (le-leb (placed_at is came.sight.iface) came.sight.index all.0)
        ∙ owed_again b l w (done ++ came ∷ []) more all.1 ∙ ap (λ (o : List Came). Ok (state is b l w o)) (append_assoc done (came ∷ []) more)

-- where the entries end
abbrev EndsAt : ℕ → Content → Type 0
EndsAt grace c = (q : Progress) × (folded (begun grace c.header c.moment) (entries_of c) ≡ Ok q) × (content_at q ≡ c)

entries_again : (grace : ℕ) (c : Content) → IsCheckpoint grace c → EndsAt grace c
entries_again grace c is =
    let st = state grace c.header c.moment in
    let ends = clients_again grace c.header c.moment c.interfaces [] None c.clients is.clients in
    let last : Progress = st c.interfaces ends.0 ends.1 c.waiting c.owed in (
      last,
      then_folded (begun grace c.header c.moment) (st c.interfaces [] None [] []) last (numbered 0 c.interfaces) _ (interfaces_again grace c.header c.moment [] c.interfaces)
          (then_folded (st c.interfaces [] None [] []) (st c.interfaces ends.0 ends.1 [] []) last (tenants_entries c.clients) _ ends.2
          (then_folded (st c.interfaces ends.0 ends.1 [] []) (st c.interfaces ends.0 ends.1 c.waiting []) last (map entry.Waits c.waiting) _ (waiting_again grace c.header c.moment c.interfaces ends.0 ends.1 [] c.waiting is.waiting)
          (owed_again grace c.header c.moment c.interfaces ends.0 ends.1 c.waiting [] c.owed is.owed))),
      ap (λ (clients : List Tenant). record c { clients = clients }) ends.3,
    )

-- ---- the whole

header_lacks : (h : HeaderContent) → HeaderFits h → Lacks 10 (header_text h)
header_lacks h fits = lacks_both 10 (encode_lower h.policy) _ (hex_lacks 10 h.policy refl refl) (lacks_both 10 (encode_lower h.users) _ (hex_lacks 10 h.users refl refl) (lacks_both 10 (decimal h.begin) _ (decimal_lacks 10 h.begin refl fits.begin)
    (lacks_both 10 (decimal h.number) _ (decimal_lacks 10 h.number refl (omega (arith, fits.number))) (decimal_lacks 10 h.opened refl (omega (arith, fits.opened))))))

moment_lacks : (n : ℕ) → n < 2 ^ 64 → Lacks 10 (moment_text n)
moment_lacks n fits = decimal_lacks 10 n refl fits

-- the lines after the first one
abbrev pub rest_of : Content → List ℕ
rest_of c = header_text c.header ++ 10 ∷ (moment_text c.moment ++ 10 ∷ lines_of (entries_of c))

pub rest_is : (c : Content) → body_of c ≡ codes "turnwatch-checkpoint 1\n" ++ rest_of c
rest_is c =
    let assoc : (codes "turnwatch-checkpoint 1\n" ++ (line (header_text c.header) ++ line (moment_text c.moment))) ++ lines_of (entries_of c) ≡ codes "turnwatch-checkpoint 1\n" ++ rest_of c = simp append_assoc in
    assoc

entries_read_again : (p q : Progress) (es : List Entry) → AllByRecursion EntryFits es → folded p es ≡ Ok q → entries_read p (lines_of es) ≡ Ok q
unfolding entries_read
entries_read_again p q es fits e = lines_again 1 p q es fits e

pub rest_again : (grace : ℕ) (c : Content) → IsCheckpoint grace c → rest_read grace (rest_of c) ≡ Ok c
unfolding rest_read
rest_again grace c is =
    let ends = entries_again grace c is in
    let h : List ℕ = header_text c.header in
    let m : List ℕ = moment_text c.moment in
    let text : List ℕ = lines_of (entries_of c) in
    bind_again (at 2 (of_word (halves_of 10 (h ++ 10 ∷ (m ++ 10 ∷ text))))) _ (h, m ++ 10 ∷ text) (Ok c) (ap (λ r. at 2 (of_word r)) (halves_at 10 h (m ++ 10 ∷ text) (header_lacks c.header is.header)))
    (bind_again (at 2 (header_of h)) _ c.header (Ok c) (ap (at 2) (header_again c.header is.header))
    (bind_again (at 3 (of_word (halves_of 10 (m ++ 10 ∷ text)))) _ (m, text) (Ok c) (ap (λ r. at 3 (of_word r)) (halves_at 10 m text (moment_lacks c.moment is.moment)))
    (bind_again (at 3 (moment_of m)) _ c.moment (Ok c) (ap (at 3) (moment_again c.moment is.moment))
    (bind_again (moved (entries_read (begun grace c.header c.moment) text)) _ ends.0 (Ok c) (ap moved (entries_read_again (begun grace c.header c.moment) ends.0 (entries_of c) is.entries ends.1))
    (ap (λ (x : Content). Ok x) ends.2)))))

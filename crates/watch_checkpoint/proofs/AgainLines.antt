-- A line that is written is read again.
use Rattle.std.proofs.Common.{◌≡◌, ℕ, zero, suc, ◌/◌, ◌%◌, ◌<◌, ◌≤◌, ◌^◌, Bool, true, false, cond, eqb, ◌||◌, List, [], ◌∷◌, ◌++◌, length, get_or, Result, Ok, Err, codes, decimal, refl, sym, ap, ◌∙◌, append_assoc, arith}
use Rattle.std.specs.Int.{w32, to_be_bytes}
use Rattle.std.specs.List.{list_any}
use Rattle.std.specs.Char.{is_ascii_digit}
use Rattle.std.specs.Str.{bytes_eq}
use Rattle.std.specs.Cmp.Lexicographic.{bytes_decides}
use Rattle.hex.specs.Hex.{encode_with, encode_lower, lower_digits, decode_of, decode_sized, IsBytes}
use Rattle.hex.proofs.HexLemmas.{decode_of-encode_lower, decode_sized-encode_lower}
use Rattle.audit_text.specs.declared.token.TokenFault.{TokenFault}
use Rattle.audit_text.specs.Token.{◌>>=◌, halves_of, both_of, number_of}
use Rattle.audit_text.proofs.Numbers.{number_only}
use Rattle.audit_model.specs.Addr.{addr_of, addr_text}
use Rattle.audit_model.specs.AddressText.{ip_of}
use Rattle.audit_model.specs.declared.address.Addr.{Addr}
use Rattle.audit_model.specs.declared.sighting.SightId.{SightId}
use Rattle.audit_cert.specs.EventLine.{word32_of, word64_of, sight_id_of}
use Rattle.audit_cert.specs.Spelling.{sight_text}
use Rattle.audit_cert.proofs.Again.{Lacks, lacks_both, halves_at, bind_again, both_again, decimal_lacks, sight_again, sight_lacks, addr_again, addr_lacks}
use Rattle.audit_cert.proofs.Steps.{bind_ok, both_ok, ok_is}
use Rattle.audit_expiry.specs.declared.lease.Lease.{Lease}
use Rattle.audit_rules.specs.declared.table.Channel.{Channel}
use Rattle.audit_cuts.specs.declared.carried.Came.{Came}
use Rattle.audit_cuts.specs.declared.carried.Interface.{Interface}
use Rattle.watch_checkpoint.specs.declared.entry.Entry.{Entry}
use Rattle.watch_checkpoint.specs.declared.entry.Entry.TheVariants as entry
use Rattle.watch_checkpoint.specs.declared.entry.Holder.{Holder}
use Rattle.watch_checkpoint.specs.declared.fault.LineKind.TheVariants.{Line}
use Rattle.watch_checkpoint.specs.Content.{HeaderContent}
use Rattle.watch_checkpoint.specs.Fault.{of_word}
use Rattle.watch_checkpoint.specs.Fits.{HolderFits, CameFits, EntryFits, HeaderFits}
use Rattle.watch_checkpoint.specs.Spelling.{ip_text, entry_text, header_text, moment_text}
use Rattle.watch_checkpoint.specs.Words.{labelled_of, of_hex, interface_of, permission_of, channel_of, came_of, holder_of_words, words_of, parsed_of, file_of, parsed_header_of, parsed_moment_of, entry_of, header_of, moment_of}

pub number_again : (most n : ℕ) → n ≤ most → most < 2 ^ 64 → number_of most (decimal n) ≡ Ok n
number_again most n le fits = number_only most n (decimal n) le fits refl

pub same_bytes : (xs : List ℕ) → bytes_eq xs xs ≡ true
same_bytes xs = (bytes_decides xs xs).1 refl

pub labelled_again : (value label rest : List ℕ) → Lacks 32 value → Lacks 32 label → labelled_of (value ++ 32 ∷ (label ++ 32 ∷ rest)) ≡ Ok (value, rest)
unfolding labelled_of
labelled_again value label rest v l =
    bind_again (halves_of 32 (value ++ 32 ∷ (label ++ 32 ∷ rest))) (λ a. halves_of 32 a.1 >>= λ b. Ok (a.0, b.1)) (value, label ++ 32 ∷ rest) (Ok (value, rest)) (halves_at 32 value (label ++ 32 ∷ rest) v)
    (bind_again (halves_of 32 (label ++ 32 ∷ rest)) (λ b. Ok (value, b.1)) (label, rest) (Ok (value, rest)) (halves_at 32 label rest l) refl)

-- ---- hexadecimal digits have no space and no LF

not_digit : (separator : ℕ) (table : List ℕ) (k : ℕ) → Lacks separator table → eqb 0 separator ≡ false → eqb (get_or table k 0) separator ≡ false
not_digit separator [] k lacks other = other
not_digit separator (b ∷ bs) zero lacks other = elim (eqb b separator) as (λ t. (t || list_any (λ x. eqb x separator) bs) ≡ false → t ≡ false) [ true ↦ λ e. e | false ↦ λ e. refl ] lacks
not_digit separator (b ∷ bs) (suc k) lacks other =
    not_digit separator bs k (elim (eqb b separator) as (λ t. (t || list_any (λ x. eqb x separator) bs) ≡ false → list_any (λ x. eqb x separator) bs ≡ false) [ true ↦ λ e. absurd cc | false ↦ λ e. e ] lacks) other

pub hex_lacks : (separator : ℕ) (bytes : List ℕ) → Lacks separator lower_digits → eqb 0 separator ≡ false → Lacks separator (encode_lower bytes)
unfolding encode_with
hex_lacks separator [] lacks other = refl
hex_lacks separator (b ∷ bs) lacks other =
    ap (λ (t : Bool). t || (eqb (get_or lower_digits (b % 16) 0) separator || list_any (λ x. eqb x separator) (encode_lower bs))) (not_digit separator lower_digits (b / 16) lacks other)
    ∙ ap (λ (t : Bool). t || list_any (λ x. eqb x separator) (encode_lower bs)) (not_digit separator lower_digits (b % 16) lacks other)
    ∙ hex_lacks separator bs lacks other

pub sized_again : (n : ℕ) (bytes : List ℕ) → length bytes ≡ n → IsBytes bytes → of_hex (decode_sized (encode_lower bytes) n) ≡ Ok bytes
sized_again n bytes len fits = ap of_hex (decode_sized-encode_lower bytes n len fits)

pub user_again : (bytes : List ℕ) → IsBytes bytes → of_hex (decode_of (encode_lower bytes)) ≡ Ok bytes
user_again bytes fits = ap of_hex (decode_of-encode_lower bytes fits)

-- ---- IP addresses

dot_then : (separator n : ℕ) (rest : List ℕ) → is_ascii_digit separator ≡ false → eqb 46 separator ≡ false → n < 2 ^ 64 → Lacks separator rest → Lacks separator (decimal n ++ 46 ∷ rest)
dot_then separator n rest plain dot fits lacks =
    lacks_both separator (decimal n) (46 ∷ rest) (decimal_lacks separator n plain fits) (ap (λ (t : Bool). t || list_any (λ x. eqb x separator) rest) dot ∙ lacks)

pub ip_lacks : (separator ip : ℕ) → is_ascii_digit separator ≡ false → eqb 46 separator ≡ false → Lacks separator (ip_text ip)
unfolding ip_text
ip_lacks separator ip plain dot =
    dot_then separator (get_or (to_be_bytes w32 ip) 0 0) _ plain dot (omega arith)
    (dot_then separator (get_or (to_be_bytes w32 ip) 1 0) _ plain dot (omega arith)
    (dot_then separator (get_or (to_be_bytes w32 ip) 2 0) _ plain dot (omega arith) (decimal_lacks separator (get_or (to_be_bytes w32 ip) 3 0) plain (omega arith))))

address_parts : (ip : ℕ) → addr_text (record { ip = ip; port = 0 }) ≡ ip_text ip ++ 58 ∷ decimal 0
unfolding ip_text
address_parts ip = sym (simp append_assoc)

abbrev address : ℕ × ℕ → Result Addr TokenFault
address p = Ok (record { ip = p.0; port = p.1 })

pub ip_again : (ip : ℕ) → ip < 2 ^ 32 → ip_of (ip_text ip) ≡ Ok ip
unfolding addr_of
ip_again ip fits =
    let a : Addr = record { ip = ip; port = 0 } in
    let whole : (halves_of 58 (addr_text a) >>= λ h. both_of (ip_of h.0) (number_of 65535 h.1) >>= address) ≡ Ok a = addr_again a (fits, omega arith) in
    let parts : halves_of 58 (addr_text a) ≡ Ok (ip_text ip, decimal 0) = ap (halves_of 58) (address_parts ip) ∙ halves_at 58 (ip_text ip) (decimal 0) (ip_lacks 58 ip refl refl) in
    let rest = sym (ap (λ r. r >>= λ (h : List ℕ × List ℕ). both_of (ip_of h.0) (number_of 65535 h.1) >>= address) parts) ∙ whole in
    let b = bind_ok (both_of (ip_of (ip_text ip)) (number_of 65535 (decimal 0))) address a rest in
    let both = both_ok (ip_of (ip_text ip)) (number_of 65535 (decimal 0)) b.0 b.1 in
    both.0 ∙ ap (λ (x : Addr). Ok x.ip) (ok_is {E = TokenFault} (record { ip = b.0.0; port = b.0.1 }) a b.2)

-- ---- entries

worded : (word words : List ℕ) (e : Entry) → Lacks 32 word → words_of word words ≡ Ok e → parsed_of (word ++ 32 ∷ words) ≡ Ok e
unfolding parsed_of
worded word words e lacks is = bind_again (halves_of 32 (word ++ 32 ∷ words)) (λ h. words_of h.0 h.1) (word, words) (Ok e) (halves_at 32 word words lacks) is

number_lacks : (separator n : ℕ) → is_ascii_digit separator ≡ false → n < 2 ^ 64 → Lacks separator (decimal n)
number_lacks separator n plain fits = decimal_lacks separator n plain fits

abbrev interface_made : ℕ × (ℕ × ℕ) → Result (ℕ × Interface) TokenFault
interface_made all = Ok (all.0, record { base = all.1.0; placed = all.1.1 })

interface_again : (n : ℕ) (i : Interface) → EntryFits (entry.Interface n i) →
    interface_of (decimal n ++ 32 ∷ (codes "base" ++ 32 ∷ (decimal i.base ++ 32 ∷ (codes "placed" ++ 32 ∷ decimal i.placed)))) ≡ Ok (n, i)
unfolding interface_of
interface_again n i fits =
    bind_again (labelled_of _) _ (decimal n, decimal i.base ++ 32 ∷ (codes "placed" ++ 32 ∷ decimal i.placed)) (Ok (n, i)) (labelled_again (decimal n) (codes "base") _ (decimal_lacks 32 n refl fits.0) refl)
    (bind_again (labelled_of _) _ (decimal i.base, decimal i.placed) (Ok (n, i)) (labelled_again (decimal i.base) (codes "placed") (decimal i.placed) (decimal_lacks 32 i.base refl fits.1.0) refl)
    (bind_again (both_of (word64_of (decimal n)) (both_of (word64_of (decimal i.base)) (word32_of (decimal i.placed)))) interface_made (n, (i.base, i.placed)) (Ok (n, i))
    (both_again _ _ n (i.base, i.placed) (number_again 18446744073709551615 n (omega (arith, fits.0)) (omega arith))
    (both_again _ _ i.base i.placed (number_again 18446744073709551615 i.base (omega (arith, fits.1.0)) (omega arith)) (number_again 4294967295 i.placed (omega (arith, fits.1.1)) (omega arith))))
    refl))

abbrev came_made : SightId × ℕ → Result Came TokenFault
came_made p = Ok (record { sight = p.0; moment = p.1 })

came_again : (came : Came) → CameFits came → came_of (sight_text came.sight ++ 32 ∷ decimal came.moment) ≡ Ok came
unfolding came_of
came_again came fits =
    bind_again (halves_of 32 (sight_text came.sight ++ 32 ∷ decimal came.moment)) (λ h. both_of (sight_id_of h.0) (word64_of h.1) >>= came_made) (sight_text came.sight, decimal came.moment) (Ok came)
    (halves_at 32 (sight_text came.sight) (decimal came.moment) (sight_lacks 32 came.sight refl refl fits.0))
    (bind_again (both_of (sight_id_of (sight_text came.sight)) (word64_of (decimal came.moment))) came_made (came.sight, came.moment) (Ok came)
    (both_again _ _ came.sight came.moment (sight_again came.sight fits.0) (number_again 18446744073709551615 came.moment (omega (arith, fits.1)) (omega arith)))
    refl)

abbrev permission_made : ℕ × ℕ → Result (ℕ × Lease) TokenFault
permission_made p = Ok (p.0, record { until = p.1 })

permission_again : (ip : ℕ) (lease : Lease) → EntryFits (entry.Permission ip lease) → permission_of (ip_text ip ++ 32 ∷ decimal lease.until) ≡ Ok (ip, lease)
unfolding permission_of
permission_again ip lease fits =
    bind_again (halves_of 32 (ip_text ip ++ 32 ∷ decimal lease.until)) (λ h. both_of (ip_of h.0) (word64_of h.1) >>= permission_made) (ip_text ip, decimal lease.until) (Ok (ip, lease))
    (halves_at 32 (ip_text ip) (decimal lease.until) (ip_lacks 32 ip refl refl))
    (bind_again (both_of (ip_of (ip_text ip)) (word64_of (decimal lease.until))) permission_made (ip, lease.until) (Ok (ip, lease))
    (both_again _ _ ip lease.until (ip_again ip fits.0) (number_again 18446744073709551615 lease.until (omega (arith, fits.1)) (omega arith)))
    refl)

abbrev channel_made : ℕ × (Addr × ℕ) → Result (ℕ × Channel) TokenFault
channel_made all = Ok (all.0, record { lease = record { until = all.1.1 }; peer = all.1.0 })

channel_again : (n : ℕ) (c : Channel) → EntryFits (entry.Channel n c) → channel_of (decimal n ++ 32 ∷ (addr_text c.peer ++ 32 ∷ decimal c.lease.until)) ≡ Ok (n, c)
unfolding channel_of
channel_again n c fits =
    let until : List ℕ = decimal c.lease.until in
    let peer : List ℕ = addr_text c.peer in
    bind_again (halves_of 32 (decimal n ++ 32 ∷ (peer ++ 32 ∷ until))) (λ a. halves_of 32 a.1 >>= λ b. both_of (number_of 65535 a.0) (both_of (addr_of b.0) (word64_of b.1)) >>= channel_made) (decimal n, peer ++ 32 ∷ until) (Ok (n, c))
    (halves_at 32 (decimal n) (peer ++ 32 ∷ until) (decimal_lacks 32 n refl (omega (arith, fits.0))))
    (bind_again (halves_of 32 (peer ++ 32 ∷ until)) (λ b. both_of (number_of 65535 (decimal n)) (both_of (addr_of b.0) (word64_of b.1)) >>= channel_made) (peer, until) (Ok (n, c))
    (halves_at 32 peer until (addr_lacks 32 c.peer refl refl refl fits.1.0))
    (bind_again (both_of (number_of 65535 (decimal n)) (both_of (addr_of peer) (word64_of until))) channel_made (n, (c.peer, c.lease.until)) (Ok (n, c))
    (both_again _ _ n (c.peer, c.lease.until) (number_again 65535 n (omega (arith, fits.0)) (omega arith))
    (both_again _ _ c.peer c.lease.until (addr_again c.peer fits.1.0) (number_again 18446744073709551615 c.lease.until (omega (arith, fits.1.1)) (omega arith))))
    refl))

-- the words of a client's line after the first one
abbrev holder_words : Holder → List ℕ
holder_words h =
    addr_text h.pair.client ++ 32 ∷ (codes "listen" ++ 32 ∷ (addr_text h.pair.listen ++ 32 ∷ (codes "relayed" ++ 32 ∷ (addr_text h.relayed ++ 32 ∷ (codes "user" ++ 32 ∷
    (encode_lower h.user ++ 32 ∷ (codes "id" ++ 32 ∷ (encode_lower h.id ++ 32 ∷ (codes "until" ++ 32 ∷ decimal h.lease.until)))))))))

holder_parts : (a b c u i n : List ℕ) →
    (codes "client " ++ (a ++ (codes " listen " ++ (b ++ (codes " relayed " ++ c))))) ++ (codes " user " ++ (u ++ (codes " id " ++ (i ++ (codes " until " ++ n)))))
    ≡ codes "client" ++ 32 ∷ (a ++ 32 ∷ (codes "listen" ++ 32 ∷ (b ++ 32 ∷ (codes "relayed" ++ 32 ∷ (c ++ 32 ∷ (codes "user" ++ 32 ∷ (u ++ 32 ∷ (codes "id" ++ 32 ∷ (i ++ 32 ∷ (codes "until" ++ 32 ∷ n))))))))))
holder_parts a b c u i n = simp append_assoc

holder_again : (h : Holder) → HolderFits h → holder_of_words (holder_words h) ≡ Ok h
unfolding holder_of_words
holder_again h fits =
    bind_again (labelled_of (holder_words h)) _ (addr_text h.pair.client, _) (Ok h) (labelled_again (addr_text h.pair.client) (codes "listen") _ (addr_lacks 32 h.pair.client refl refl refl fits.client) refl)
    (bind_again (labelled_of _) _ (addr_text h.pair.listen, _) (Ok h) (labelled_again (addr_text h.pair.listen) (codes "relayed") _ (addr_lacks 32 h.pair.listen refl refl refl fits.listen) refl)
    (bind_again (labelled_of _) _ (addr_text h.relayed, _) (Ok h) (labelled_again (addr_text h.relayed) (codes "user") _ (addr_lacks 32 h.relayed refl refl refl fits.relayed) refl)
    (bind_again (labelled_of _) _ (encode_lower h.user, _) (Ok h) (labelled_again (encode_lower h.user) (codes "id") _ (hex_lacks 32 h.user refl refl) refl)
    (bind_again (labelled_of _) _ (encode_lower h.id, decimal h.lease.until) (Ok h) (labelled_again (encode_lower h.id) (codes "until") (decimal h.lease.until) (hex_lacks 32 h.id refl refl) refl)
    (bind_again (both_of (addr_of (addr_text h.pair.client)) (addr_of (addr_text h.pair.listen))) _ (h.pair.client, h.pair.listen) (Ok h) (both_again _ _ h.pair.client h.pair.listen (addr_again h.pair.client fits.client) (addr_again h.pair.listen fits.listen))
    (bind_again (both_of (addr_of (addr_text h.relayed)) (word64_of (decimal h.lease.until))) _ (h.relayed, h.lease.until) (Ok h) (both_again _ _ h.relayed h.lease.until (addr_again h.relayed fits.relayed) (number_again 18446744073709551615 h.lease.until (omega (arith, fits.until)) (omega arith)))
    (bind_again (of_hex (decode_sized (encode_lower h.id) 12)) _ h.id (Ok h) (sized_again 12 h.id fits.id.0 fits.id.1)
    (bind_again (of_hex (decode_of (encode_lower h.user))) _ h.user (Ok h) (user_again h.user fits.user)
    refl))))))))

parsed_again : (e : Entry) → EntryFits e → parsed_of (entry_text e) ≡ Ok e
unfolding entry_text words_of
parsed_again (entry.Interface n i) fits = worded (codes "interface") _ (entry.Interface n i) refl (bind_again (interface_of _) (λ i. Ok (entry.Interface i.0 i.1)) (n, i) _ (interface_again n i fits) refl)
parsed_again (entry.Client h) fits =
    ap parsed_of (holder_parts (addr_text h.pair.client) (addr_text h.pair.listen) (addr_text h.relayed) (encode_lower h.user) (encode_lower h.id) (decimal h.lease.until))
    ∙ worded (codes "client") (holder_words h) (entry.Client h) refl (bind_again (holder_of_words (holder_words h)) (λ h. Ok (entry.Client h)) h _ (holder_again h fits) refl)
parsed_again (entry.Permission ip lease) fits = worded (codes "permission") _ (entry.Permission ip lease) refl (bind_again (permission_of _) (λ p. Ok (entry.Permission p.0 p.1)) (ip, lease) _ (permission_again ip lease fits) refl)
parsed_again (entry.Channel n c) fits = worded (codes "channel") _ (entry.Channel n c) refl (bind_again (channel_of _) (λ c. Ok (entry.Channel c.0 c.1)) (n, c) _ (channel_again n c fits) refl)
parsed_again (entry.Waits came) fits = worded (codes "waits") _ (entry.Waits came) refl (bind_again (came_of _) (λ c. Ok (entry.Waits c)) came _ (came_again came fits) refl)
parsed_again (entry.Owed came) fits = worded (codes "owed") _ (entry.Owed came) refl (bind_again (came_of _) (λ c. Ok (entry.Owed c)) came _ (came_again came fits) refl)

checked_again : {A : Type 0} (text : A → List ℕ) (r : Result A TokenFault) (x : A) → r ≡ Ok x → (of_word r >>= λ y. cond (bytes_eq (text y) (text x)) (Ok y) (Err Line)) ≡ Ok x
checked_again text r x e =
    bind_again (of_word r) (λ y. cond (bytes_eq (text y) (text x)) (Ok y) (Err Line)) x (Ok x) (ap of_word e) (ap (λ (t : Bool). cond t (Ok x) (Err Line)) (same_bytes (text x)))

pub entry_again : (e : Entry) → EntryFits e → entry_of (entry_text e) ≡ Ok e
unfolding entry_of
entry_again e fits = checked_again entry_text (parsed_of (entry_text e)) e (parsed_again e fits)

-- ---- the header and the moment

parsed_header_again : (h : HeaderContent) → HeaderFits h → parsed_header_of (header_text h) ≡ Ok h
unfolding parsed_header_of
parsed_header_again h fits =
    bind_again (labelled_of (header_text h)) _ (codes "claim", _) (Ok h) (labelled_again (codes "claim") (codes "policy") _ refl refl)
    (bind_again (labelled_of _) _ (encode_lower h.policy, _) (Ok h) (labelled_again (encode_lower h.policy) (codes "users") _ (hex_lacks 32 h.policy refl refl) refl)
    (bind_again (labelled_of _) _ (encode_lower h.users, _) (Ok h) (labelled_again (encode_lower h.users) (codes "begin") _ (hex_lacks 32 h.users refl refl) refl)
    (bind_again (labelled_of _) _ (decimal h.begin, _) (Ok h) (labelled_again (decimal h.begin) (codes "file") _ (decimal_lacks 32 h.begin refl fits.begin) refl)
    (bind_again (labelled_of _) _ (decimal h.number, decimal h.opened) (Ok h) (labelled_again (decimal h.number) (codes "opened") (decimal h.opened) (decimal_lacks 32 h.number refl (omega (arith, fits.number))) refl)
    (bind_again (of_hex (decode_sized (encode_lower h.policy) 32)) _ h.policy (Ok h) (sized_again 32 h.policy fits.policy.0 fits.policy.1)
    (bind_again (of_hex (decode_sized (encode_lower h.users) 32)) _ h.users (Ok h) (sized_again 32 h.users fits.users.0 fits.users.1)
    (bind_again (both_of (word64_of (decimal h.begin)) (file_of (decimal h.number) (decimal h.opened))) _ (h.begin, (h.number, h.opened)) (Ok h)
    (both_again _ _ h.begin (h.number, h.opened) (number_again 18446744073709551615 h.begin (omega (arith, fits.begin)) (omega arith))
    (both_again _ _ h.number h.opened (number_again 99999 h.number (omega (arith, fits.number)) (omega arith)) (number_again 99999999999999 h.opened (omega (arith, fits.opened)) (omega arith))))
    refl)))))))

pub header_again : (h : HeaderContent) → HeaderFits h → header_of (header_text h) ≡ Ok h
unfolding header_of
header_again h fits = checked_again header_text (parsed_header_of (header_text h)) h (parsed_header_again h fits)

parsed_moment_again : (n : ℕ) → n < 2 ^ 64 → parsed_moment_of (moment_text n) ≡ Ok n
unfolding parsed_moment_of
parsed_moment_again n fits = bind_again (halves_of 32 (moment_text n)) (λ h. word64_of h.1) (codes "moment", decimal n) (Ok n) (halves_at 32 (codes "moment") (decimal n) refl) (number_again 18446744073709551615 n (omega (arith, fits)) (omega arith))

pub moment_again : (n : ℕ) → n < 2 ^ 64 → moment_of (moment_text n) ≡ Ok n
unfolding moment_of
moment_again n fits = checked_again moment_text (parsed_moment_of (moment_text n)) n (parsed_moment_again n fits)

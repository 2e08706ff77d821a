-- A word that is spelled is read again.
use Rattle.std.proofs.Common.{◌≡◌, ℕ, ◌^◌, ◌<◌, ◌≤◌, Bool, true, false, cond, eqb, ◌&&◌, ◌||◌, List, [], ◌∷◌, ◌++◌, get_or, Some, option_map, Result, Ok, decimal, refl, sym, ap, subst, ◌∙◌, append_assoc, eq-eqb, arith}
use Rattle.std.specs.Prelude.{ok_or}
use Rattle.std.specs.List.{list_any, list_all}
use Rattle.std.specs.Char.{is_ascii_digit}
use Rattle.std.specs.Int.{w32, from_be_bytes, to_be_bytes}
use Rattle.std.proofs.lemmas.Bool.{eqb-true}
use Rattle.std.proofs.lemmas.List.Folds.{list_any-append}
use Rattle.std.proofs.lemmas.Fmt.{digits_decimal}
use Rattle.std.proofs.lemmas.Nat.{from_be_bytes-to_be_bytes_4}
use Rattle.audit_text.specs.declared.token.TokenFault.{TokenFault}
use Rattle.audit_text.specs.declared.token.TokenFault.TheVariants.{Shape}
use Rattle.audit_model.specs.declared.address.Addr.{Addr}
use Rattle.audit_model.specs.declared.sighting.SightId.{SightId}
use Rattle.audit_model.specs.declared.event.Key.{Key}
use Rattle.audit_model.specs.declared.certificate.CertSkew.{CertSkew}
use Rattle.audit_text.specs.Token.{◌>>=◌, cut_of, halves_of, both_of, number_of}
use Rattle.audit_model.specs.AddressText.{octet_of, ip_of}
use Rattle.audit_model.specs.Addr.{addr_of, addr_text}
use Rattle.audit_text.proofs.Numbers.{own, number_only}
use Rattle.audit_cert.specs.EventLine.{word32_of, word64_of, sight_id_of, event_key_of, placed_of, cert_skew_of}
use Rattle.audit_cert.specs.Spelling.{sight_text, key_text}
use Rattle.audit_model.specs.Fits.{AddrFits}
use Rattle.audit_cert.specs.Fits.{SightFits, KeyFits, SkewFits}
use Rattle.audit_cert.proofs.Words.{placed_word, skew_word, octets}

pub bind_again : {A B E : Type 0} (r : Result A E) (f : A → Result B E) (x : A) (y : Result B E) → r ≡ Ok x → f x ≡ y → (r >>= f) ≡ y
bind_again r f x y e h = ap (λ s. s >>= f) e ∙ h

pub both_again : {A B : Type 0} (r : Result A TokenFault) (s : Result B TokenFault) (a : A) (b : B) → r ≡ Ok a → s ≡ Ok b → both_of r s ≡ Ok (a, b)
both_again r s a b e h = ap (λ t. both_of t s) e ∙ ap (λ t. both_of (Ok a) t) h

-- ---- a text without a byte

abbrev pub Lacks : ℕ → List ℕ → Type 0
Lacks separator text = list_any (λ b. eqb b separator) text ≡ false

pub lacks_both : (separator : ℕ) (a b : List ℕ) → Lacks separator a → Lacks separator b → Lacks separator (a ++ b)
lacks_both separator a b p q = list_any-append (λ x. eqb x separator) a b ∙ ap (λ (t : Bool). t || list_any (λ x. eqb x separator) b) p ∙ q

either_false : (s t : Bool) → (s || t) ≡ false → (s ≡ false) × (t ≡ false)
either_false true t e = absurd cc
either_false false t e = (refl, e)

pub cut_at : (separator : ℕ) (front rest : List ℕ) → Lacks separator front → cut_of separator (front ++ separator ∷ rest) ≡ Some (front, rest)
cut_at separator [] rest lacks = ap (λ (t : Bool). cond t (Some ([], rest)) (option_map (λ p. (separator ∷ p.0, p.1)) (cut_of separator rest))) (eq-eqb separator separator refl)
cut_at separator (b ∷ bs) rest lacks =
    let apart = either_false (eqb b separator) (list_any (λ x. eqb x separator) bs) lacks in
    ap (λ (t : Bool). cond t (Some ([], bs ++ separator ∷ rest)) (option_map (λ p. (b ∷ p.0, p.1)) (cut_of separator (bs ++ separator ∷ rest)))) apart.0
    ∙ ap (option_map (λ p. (b ∷ p.0, p.1))) (cut_at separator bs rest apart.1)

pub halves_at : (separator : ℕ) (front rest : List ℕ) → Lacks separator front → halves_of separator (front ++ separator ∷ rest) ≡ Ok (front, rest)
halves_at separator front rest lacks = ap (λ o. ok_or o Shape) (cut_at separator front rest lacks)

both_true : (s t : Bool) → (s && t) ≡ true → (s ≡ true) × (t ≡ true)
both_true true t e = (refl, e)
both_true false t e = absurd cc

not_it : (separator b : ℕ) → is_ascii_digit separator ≡ false → is_ascii_digit b ≡ true → eqb b separator ≡ false
not_it separator b plain digit =
    elim (eqb b separator) as (λ t. eqb b separator ≡ t → t ≡ false) [
      | true ↦ λ e. let same : is_ascii_digit b ≡ is_ascii_digit separator = ap is_ascii_digit (eqb-true b separator e) in absurd cc
      | false ↦ λ e. refl
    ] refl

digits_lack : (separator : ℕ) (text : List ℕ) → is_ascii_digit separator ≡ false → list_all is_ascii_digit text ≡ true → Lacks separator text
digits_lack separator [] plain all = refl
digits_lack separator (b ∷ bs) plain all =
    let both = both_true (is_ascii_digit b) (list_all is_ascii_digit bs) all in
    ap (λ (t : Bool). t || list_any (λ x. eqb x separator) bs) (not_it separator b plain both.0) ∙ digits_lack separator bs plain both.1

pub decimal_lacks : (separator n : ℕ) → is_ascii_digit separator ≡ false → n < 2 ^ 64 → Lacks separator (decimal n)
decimal_lacks separator n plain fits = digits_lack separator (decimal n) plain (digits_decimal own n fits)

-- ---- numbers, sightings and keys

number_again : (most n : ℕ) → n ≤ most → most < 2 ^ 64 → number_of most (decimal n) ≡ Ok n
number_again most n le fits = number_only most n (decimal n) le fits refl

pub sight_again : (sight : SightId) → SightFits sight → sight_id_of (sight_text sight) ≡ Ok sight
unfolding sight_id_of
sight_again sight fits =
    bind_again (halves_of 46 (sight_text sight)) (λ h. both_of (word32_of h.0) (word32_of h.1) >>= λ p. Ok (record { iface = p.0; index = p.1 })) (decimal sight.iface, decimal sight.index) (Ok sight)
    (halves_at 46 (decimal sight.iface) (decimal sight.index) (decimal_lacks 46 sight.iface refl (omega (arith, fits.0))))
    (bind_again (both_of (word32_of (decimal sight.iface)) (word32_of (decimal sight.index))) (λ p. Ok (record { iface = p.0; index = p.1 })) (sight.iface, sight.index) (Ok sight)
    (both_again _ _ sight.iface sight.index (number_again 4294967295 sight.iface (omega (arith, fits.0)) (omega arith)) (number_again 4294967295 sight.index (omega (arith, fits.1)) (omega arith)))
    refl)

pub key_again : (key : Key) → KeyFits key → event_key_of (key_text key) ≡ Ok key
unfolding event_key_of
key_again key fits =
    bind_again (halves_of 32 (key_text key)) (λ h. both_of (word64_of h.0) (word32_of h.1) >>= λ p. Ok (record { moment = p.0; tie = p.1 })) (decimal key.moment, decimal key.tie) (Ok key)
    (halves_at 32 (decimal key.moment) (decimal key.tie) (decimal_lacks 32 key.moment refl (omega (arith, fits.0))))
    (bind_again (both_of (word64_of (decimal key.moment)) (word32_of (decimal key.tie))) (λ p. Ok (record { moment = p.0; tie = p.1 })) (key.moment, key.tie) (Ok key)
    (both_again _ _ key.moment key.tie (number_again 18446744073709551615 key.moment (omega (arith, fits.0)) (omega arith)) (number_again 4294967295 key.tie (omega (arith, fits.1)) (omega arith)))
    refl)

pub cert_skew_again : (skew : CertSkew) → SkewFits skew → cert_skew_of (skew_word skew) ≡ Ok skew
unfolding cert_skew_of
cert_skew_again skew fits =
    bind_again (halves_of 32 (skew_word skew)) (λ h. both_of (word32_of h.0) (word64_of h.1) >>= λ p. Ok (record { iface = p.0; microseconds = p.1 })) (decimal skew.iface, decimal skew.microseconds) (Ok skew)
    (halves_at 32 (decimal skew.iface) (decimal skew.microseconds) (decimal_lacks 32 skew.iface refl (omega (arith, fits.0))))
    (bind_again (both_of (word32_of (decimal skew.iface)) (word64_of (decimal skew.microseconds))) (λ p. Ok (record { iface = p.0; microseconds = p.1 })) (skew.iface, skew.microseconds) (Ok skew)
    (both_again _ _ skew.iface skew.microseconds (number_again 4294967295 skew.iface (omega (arith, fits.0)) (omega arith)) (number_again 18446744073709551615 skew.microseconds (omega (arith, fits.1)) (omega arith)))
    refl)

pub skew_lacks : (skew : CertSkew) → SkewFits skew → Lacks 10 (skew_word skew)
skew_lacks skew fits = lacks_both 10 (decimal skew.iface) (32 ∷ decimal skew.microseconds) (decimal_lacks 10 skew.iface refl (omega (arith, fits.0))) (decimal_lacks 10 skew.microseconds refl (omega (arith, fits.1)))

pub sight_lacks : (separator : ℕ) (sight : SightId) → is_ascii_digit separator ≡ false → eqb 46 separator ≡ false → SightFits sight → Lacks separator (sight_text sight)
sight_lacks separator sight plain dot fits =
    lacks_both separator (decimal sight.iface) (46 ∷ decimal sight.index) (decimal_lacks separator sight.iface plain (omega (arith, fits.0)))
    (ap (λ (t : Bool). t || list_any (λ x. eqb x separator) (decimal sight.index)) dot ∙ decimal_lacks separator sight.index plain (omega (arith, fits.1)))

pub key_lacks : (key : Key) → KeyFits key → Lacks 10 (key_text key)
key_lacks key fits = lacks_both 10 (decimal key.moment) (32 ∷ decimal key.tie) (decimal_lacks 10 key.moment refl (omega (arith, fits.0))) (decimal_lacks 10 key.tie refl (omega (arith, fits.1)))

pub placed_again : (sight : SightId) (key : Key) → SightFits sight → KeyFits key → placed_of (placed_word sight key) ≡ Ok (sight, key)
unfolding placed_of
placed_again sight key s k =
    bind_again (halves_of 32 (placed_word sight key)) (λ h. both_of (sight_id_of h.0) (event_key_of h.1)) (sight_text sight, key_text key) (Ok (sight, key))
    (halves_at 32 (sight_text sight) (key_text key) (sight_lacks 32 sight refl refl s))
    (both_again _ _ sight key (sight_again sight s) (key_again key k))

pub placed_lacks : (sight : SightId) (key : Key) → SightFits sight → KeyFits key → Lacks 10 (placed_word sight key)
placed_lacks sight key s k = lacks_both 10 (sight_text sight) (32 ∷ key_text key) (sight_lacks 10 sight refl refl s) (key_lacks key k)

-- ---- addresses

abbrev dotted : ℕ → ℕ → ℕ → ℕ → List ℕ
dotted a b c d = decimal a ++ 46 ∷ (decimal b ++ 46 ∷ (decimal c ++ 46 ∷ decimal d))

dot_then : (separator n : ℕ) (rest : List ℕ) → is_ascii_digit separator ≡ false → eqb 46 separator ≡ false → n < 256 → Lacks separator rest → Lacks separator (decimal n ++ 46 ∷ rest)
dot_then separator n rest plain dot fits lacks =
    lacks_both separator (decimal n) (46 ∷ rest) (decimal_lacks separator n plain (omega arith)) (ap (λ (t : Bool). t || list_any (λ x. eqb x separator) rest) dot ∙ lacks)

dotted_lacks : (separator a b c d : ℕ) → is_ascii_digit separator ≡ false → eqb 46 separator ≡ false → a < 256 → b < 256 → c < 256 → d < 256 → Lacks separator (dotted a b c d)
dotted_lacks separator a b c d plain dot p q r s =
    dot_then separator a _ plain dot p (dot_then separator b _ plain dot q (dot_then separator c _ plain dot r (decimal_lacks separator d plain (omega arith))))

abbrev made : (ℕ × ℕ) × (ℕ × ℕ) → Result ℕ TokenFault
made n = Ok (from_be_bytes w32 (octets n.0.0 n.0.1 n.1.0 n.1.1))

octet_again : (n : ℕ) → n < 256 → octet_of (decimal n) ≡ Ok n
octet_again n lt = number_again 255 n (omega arith) (omega arith)

ip_again : (a b c d : ℕ) → a < 256 → b < 256 → c < 256 → d < 256 → ip_of (dotted a b c d) ≡ Ok (from_be_bytes w32 (octets a b c d))
unfolding ip_of
ip_again a b c d p q r s =
    let all : Result ℕ TokenFault = Ok (from_be_bytes w32 (octets a b c d)) in
    bind_again (halves_of 46 (dotted a b c d)) (λ x. halves_of 46 x.1 >>= λ y. halves_of 46 y.1 >>= λ z. both_of (both_of (octet_of x.0) (octet_of y.0)) (both_of (octet_of z.0) (octet_of z.1)) >>= made)
    (decimal a, decimal b ++ 46 ∷ (decimal c ++ 46 ∷ decimal d)) all
    (halves_at 46 (decimal a) _ (decimal_lacks 46 a refl (omega arith)))
    (bind_again (halves_of 46 (decimal b ++ 46 ∷ (decimal c ++ 46 ∷ decimal d))) (λ y. halves_of 46 y.1 >>= λ z. both_of (both_of (octet_of (decimal a)) (octet_of y.0)) (both_of (octet_of z.0) (octet_of z.1)) >>= made)
    (decimal b, decimal c ++ 46 ∷ decimal d) all
    (halves_at 46 (decimal b) _ (decimal_lacks 46 b refl (omega arith)))
    (bind_again (halves_of 46 (decimal c ++ 46 ∷ decimal d)) (λ z. both_of (both_of (octet_of (decimal a)) (octet_of (decimal b))) (both_of (octet_of z.0) (octet_of z.1)) >>= made)
    (decimal c, decimal d) all
    (halves_at 46 (decimal c) _ (decimal_lacks 46 c refl (omega arith)))
    (bind_again (both_of (both_of (octet_of (decimal a)) (octet_of (decimal b))) (both_of (octet_of (decimal c)) (octet_of (decimal d)))) made ((a, b), (c, d)) all
    (both_again _ _ (a, b) (c, d) (both_again _ _ a b (octet_again a p) (octet_again b q)) (both_again _ _ c d (octet_again c r) (octet_again d s)))
    refl)))

regroup : (a b c d e : List ℕ) → a ++ 46 ∷ (b ++ 46 ∷ (c ++ 46 ∷ (d ++ 58 ∷ e))) ≡ (a ++ 46 ∷ (b ++ 46 ∷ (c ++ 46 ∷ d))) ++ 58 ∷ e
regroup a b c d e = sym (simp append_assoc)

byte : ℕ → ℕ → ℕ
byte ip i = get_or (to_be_bytes w32 ip) i 0

abbrev ip_text : ℕ → List ℕ
ip_text ip = dotted (get_or (to_be_bytes w32 ip) 0 0) (get_or (to_be_bytes w32 ip) 1 0) (get_or (to_be_bytes w32 ip) 2 0) (get_or (to_be_bytes w32 ip) 3 0)

is_byte0 : (ip : ℕ) → get_or (to_be_bytes w32 ip) 0 0 < 256
is_byte0 ip = omega arith

is_byte1 : (ip : ℕ) → get_or (to_be_bytes w32 ip) 1 0 < 256
is_byte1 ip = omega arith

is_byte2 : (ip : ℕ) → get_or (to_be_bytes w32 ip) 2 0 < 256
is_byte2 ip = omega arith

is_byte3 : (ip : ℕ) → get_or (to_be_bytes w32 ip) 3 0 < 256
is_byte3 ip = omega arith

addr_parts : (addr : Addr) → addr_text addr ≡ ip_text addr.ip ++ 58 ∷ decimal addr.port
addr_parts addr = regroup (decimal (get_or (to_be_bytes w32 addr.ip) 0 0)) (decimal (get_or (to_be_bytes w32 addr.ip) 1 0)) (decimal (get_or (to_be_bytes w32 addr.ip) 2 0)) (decimal (get_or (to_be_bytes w32 addr.ip) 3 0)) (decimal addr.port)

ip_back : (ip : ℕ) → ip < 2 ^ 32 → ip_of (ip_text ip) ≡ Ok ip
ip_back ip fits = ip_again _ _ _ _ (is_byte0 ip) (is_byte1 ip) (is_byte2 ip) (is_byte3 ip) ∙ ap (λ (n : ℕ). Ok n) (from_be_bytes-to_be_bytes_4 ip fits)

ip_lacks : (separator ip : ℕ) → is_ascii_digit separator ≡ false → eqb 46 separator ≡ false → Lacks separator (ip_text ip)
ip_lacks separator ip plain dot = dotted_lacks separator _ _ _ _ plain dot (is_byte0 ip) (is_byte1 ip) (is_byte2 ip) (is_byte3 ip)

pub addr_again : (addr : Addr) → AddrFits addr → addr_of (addr_text addr) ≡ Ok addr
unfolding addr_of
addr_again addr fits =
    ap addr_of (addr_parts addr)
    ∙ bind_again (halves_of 58 (ip_text addr.ip ++ 58 ∷ decimal addr.port)) (λ h. both_of (ip_of h.0) (number_of 65535 h.1) >>= λ p. Ok (record { ip = p.0; port = p.1 })) (ip_text addr.ip, decimal addr.port) (Ok addr)
    (halves_at 58 (ip_text addr.ip) (decimal addr.port) (ip_lacks 58 addr.ip refl refl))
    (bind_again (both_of (ip_of (ip_text addr.ip)) (number_of 65535 (decimal addr.port))) (λ p. Ok (record { ip = p.0; port = p.1 })) (addr.ip, addr.port) (Ok addr)
    (both_again _ _ addr.ip addr.port (ip_back addr.ip fits.0) (number_again 65535 addr.port (omega (arith, fits.1)) (omega arith)))
    refl)

pub addr_lacks : (separator : ℕ) (addr : Addr) → is_ascii_digit separator ≡ false → eqb 46 separator ≡ false → eqb 58 separator ≡ false → AddrFits addr → Lacks separator (addr_text addr)
addr_lacks separator addr plain dot colon fits =
    subst (Lacks separator) (sym (addr_parts addr))
    (lacks_both separator (ip_text addr.ip) (58 ∷ decimal addr.port) (ip_lacks separator addr.ip plain dot)
    (ap (λ (t : Bool). t || list_any (λ x. eqb x separator) (decimal addr.port)) colon ∙ decimal_lacks separator addr.port plain (omega (arith, fits.1))))

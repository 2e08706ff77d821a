-- A word that is read is the word that is spelled.
use Rattle.std.proofs.Common.{◌≡◌, ℕ, zero, suc, ◌^◌, ◌<◌, ◌≤◌, true, false, cond, eqb, List, [], ◌∷◌, ◌++◌, get_or, Option, Some, None, option_map, Result, Ok, decimal, refl, sym, ap, subst, ◌∙◌, append_assoc, arith}
use Rattle.std.specs.Prelude.{IfOk, IfSome, ok_or}
use Rattle.std.specs.Int.{w32, from_be_bytes, to_be_bytes}
use Rattle.std.proofs.lemmas.Bool.{eqb-true}
use Rattle.std.proofs.lemmas.Nat.{be_bytes_4}
use Rattle.audit_text.specs.declared.token.TokenFault.{TokenFault}
use Rattle.audit_text.specs.declared.token.TokenFault.TheVariants.{Shape}
use Rattle.audit_model.specs.declared.address.Addr.{Addr}
use Rattle.audit_model.specs.declared.sighting.SightId.{SightId}
use Rattle.audit_model.specs.declared.event.Key.{Key}
use Rattle.audit_model.specs.declared.certificate.CertSkew.{CertSkew}
use Rattle.audit_text.specs.Token.{◌>>=◌, cut_of, halves_of, both_of, number_of}
use Rattle.audit_model.specs.AddressText.{octet_of, ip_of}
use Rattle.audit_model.specs.Addr.{addr_of, addr_text, octets_text}
use Rattle.audit_text.proofs.Numbers.{number_found}
use Rattle.audit_cert.specs.EventLine.{word32_of, word64_of, sight_id_of, event_key_of, placed_of, cert_skew_of}
use Rattle.audit_cert.specs.Spelling.{sight_text, key_text}
use Rattle.audit_cert.proofs.Steps.{bind_ok, both_ok, ok_is, if_ok}

-- ---- a word with a separator

-- the word is the two parts with the separator between them
abbrev Joined : ℕ → List ℕ → List ℕ × List ℕ → Type 0
Joined separator word p = word ≡ p.0 ++ separator ∷ p.1

abbrev before : ℕ → List ℕ × List ℕ → List ℕ × List ℕ
before b p = (b ∷ p.0, p.1)

one_before : (separator b : ℕ) (bs : List ℕ) (found : Option (List ℕ × List ℕ)) → IfSome found (Joined separator bs) →
    IfSome (option_map (before b) found) (Joined separator (b ∷ bs))
one_before separator b bs None h = tt
one_before separator b bs (Some p) h = ap (λ (l : List ℕ). b ∷ l) h

cut_parts : (separator : ℕ) (word : List ℕ) → IfSome (cut_of separator word) (Joined separator word)
cut_parts separator [] = tt
cut_parts separator (b ∷ bs) =
    elim (eqb b separator) as (λ t. eqb b separator ≡ t → IfSome (cond t (Some ([], bs)) (option_map (before b) (cut_of separator bs))) (Joined separator (b ∷ bs))) [
      | true ↦ λ e. ap (λ (x : ℕ). x ∷ bs) (eqb-true b separator e)
      | false ↦ λ e. one_before separator b bs (cut_of separator bs) (cut_parts separator bs)
    ] refl

due : (separator : ℕ) (word : List ℕ) (found : Option (List ℕ × List ℕ)) → IfSome found (Joined separator word) → IfOk (ok_or found Shape) (Joined separator word)
due separator word None h = tt
due separator word (Some p) h = h

pub halves_found : (separator : ℕ) (word : List ℕ) (p : List ℕ × List ℕ) → halves_of separator word ≡ Ok p → word ≡ p.0 ++ separator ∷ p.1
halves_found separator word p e = if_ok (halves_of separator word) p (Joined separator word) e (due separator word (cut_of separator word) (cut_parts separator word))

-- both of two words
pub joins : (separator : ℕ) (word : List ℕ) (p : List ℕ × List ℕ) (first second : List ℕ) → halves_of separator word ≡ Ok p → p.0 ≡ first → p.1 ≡ second → word ≡ first ++ separator ∷ second
joins separator word p first second e a b = halves_found separator word p e ∙ ap (λ (l : List ℕ). l ++ separator ∷ p.1) a ∙ ap (λ (l : List ℕ). first ++ separator ∷ l) b

-- ---- numbers

number_is : (most : ℕ) (word : List ℕ) (n : ℕ) → most < 2 ^ 64 → number_of most word ≡ Ok n → (n ≤ most) × (word ≡ decimal n)
number_is most word n fits e = if_ok (number_of most word) n (λ n. (n ≤ most) × (word ≡ decimal n)) e (number_found most word fits)

-- ---- sightings and keys

abbrev sight_made : ℕ × ℕ → Result SightId TokenFault
sight_made p = Ok (record { iface = p.0; index = p.1 })

pub sight_found : (word : List ℕ) (sight : SightId) → sight_id_of word ≡ Ok sight → word ≡ sight_text sight
unfolding sight_id_of
sight_found word sight e =
    let a = bind_ok (halves_of 46 word) (λ h. both_of (word32_of h.0) (word32_of h.1) >>= sight_made) sight e in
    let b = bind_ok (both_of (word32_of a.0.0) (word32_of a.0.1)) sight_made sight a.2 in
    let both = both_ok (word32_of a.0.0) (word32_of a.0.1) b.0 b.1 in
    let first = number_is 4294967295 a.0.0 b.0.0 (omega arith) both.0 in
    let second = number_is 4294967295 a.0.1 b.0.1 (omega arith) both.1 in
    subst (λ (s : SightId). word ≡ sight_text s) (ok_is (record { iface = b.0.0; index = b.0.1 }) sight b.2)
    (joins 46 word a.0 (decimal b.0.0) (decimal b.0.1) a.1 first.1 second.1)

abbrev key_made : ℕ × ℕ → Result Key TokenFault
key_made p = Ok (record { moment = p.0; tie = p.1 })

pub key_found : (words : List ℕ) (key : Key) → event_key_of words ≡ Ok key → words ≡ key_text key
unfolding event_key_of
key_found word key e =
    let a = bind_ok (halves_of 32 word) (λ h. both_of (word64_of h.0) (word32_of h.1) >>= key_made) key e in
    let b = bind_ok (both_of (word64_of a.0.0) (word32_of a.0.1)) key_made key a.2 in
    let both = both_ok (word64_of a.0.0) (word32_of a.0.1) b.0 b.1 in
    let first = number_is 18446744073709551615 a.0.0 b.0.0 (omega arith) both.0 in
    let second = number_is 4294967295 a.0.1 b.0.1 (omega arith) both.1 in
    subst (λ (s : Key). word ≡ key_text s) (ok_is (record { moment = b.0.0; tie = b.0.1 }) key b.2)
    (joins 32 word a.0 (decimal b.0.0) (decimal b.0.1) a.1 first.1 second.1)

-- a skew, without the line's first word and its end
abbrev pub skew_word : CertSkew → List ℕ
skew_word skew = decimal skew.iface ++ 32 ∷ decimal skew.microseconds

abbrev skew_made : ℕ × ℕ → Result CertSkew TokenFault
skew_made p = Ok (record { iface = p.0; microseconds = p.1 })

pub cert_skew_found : (words : List ℕ) (skew : CertSkew) → cert_skew_of words ≡ Ok skew → words ≡ skew_word skew
unfolding cert_skew_of
cert_skew_found word skew e =
    let a = bind_ok (halves_of 32 word) (λ h. both_of (word32_of h.0) (word64_of h.1) >>= skew_made) skew e in
    let b = bind_ok (both_of (word32_of a.0.0) (word64_of a.0.1)) skew_made skew a.2 in
    let both = both_ok (word32_of a.0.0) (word64_of a.0.1) b.0 b.1 in
    let first = number_is 4294967295 a.0.0 b.0.0 (omega arith) both.0 in
    let second = number_is 18446744073709551615 a.0.1 b.0.1 (omega arith) both.1 in
    subst (λ (s : CertSkew). word ≡ skew_word s) (ok_is (record { iface = b.0.0; microseconds = b.0.1 }) skew b.2)
    (joins 32 word a.0 (decimal b.0.0) (decimal b.0.1) a.1 first.1 second.1)

-- a sighting and its key, without the line's end
abbrev pub placed_word : SightId → Key → List ℕ
placed_word sight key = sight_text sight ++ 32 ∷ key_text key

pub placed_found : (words : List ℕ) (p : SightId × Key) → placed_of words ≡ Ok p → words ≡ placed_word p.0 p.1
unfolding placed_of
placed_found words p e =
    let a = bind_ok (halves_of 32 words) (λ h. both_of (sight_id_of h.0) (event_key_of h.1)) p e in
    let both = both_ok (sight_id_of a.0.0) (event_key_of a.0.1) p a.2 in
    joins 32 words a.0 (sight_text p.0) (key_text p.1) a.1 (sight_found a.0.0 p.0 both.0) (key_found a.0.1 p.1 both.1)

-- ---- addresses

abbrev pub octets : ℕ → ℕ → ℕ → ℕ → List ℕ
octets a b c d = a ∷ b ∷ c ∷ d ∷ []

are_bytes : (a b c d : ℕ) → a ≤ 255 → b ≤ 255 → c ≤ 255 → d ≤ 255 → (i : ℕ) → get_or (octets a b c d) i 0 < 256
are_bytes a b c d p q r s zero = omega arith
are_bytes a b c d p q r s (suc zero) = omega arith
are_bytes a b c d p q r s (suc (suc zero)) = omega arith
are_bytes a b c d p q r s (suc (suc (suc zero))) = omega arith
are_bytes a b c d p q r s (suc (suc (suc (suc i)))) = omega arith

-- the four numbers of an address
pub ip_found : (word : List ℕ) (ip : ℕ) → ip_of word ≡ Ok ip →
    (n : List ℕ) × (to_be_bytes w32 ip ≡ n) × (word ≡ decimal (get_or n 0 0) ++ 46 ∷ (decimal (get_or n 1 0) ++ 46 ∷ (decimal (get_or n 2 0) ++ 46 ∷ decimal (get_or n 3 0))))
unfolding ip_of
ip_found word ip e =
    let made : (ℕ × ℕ) × (ℕ × ℕ) → Result ℕ TokenFault = λ n. Ok (from_be_bytes w32 (octets n.0.0 n.0.1 n.1.0 n.1.1)) in
    let a = bind_ok (halves_of 46 word) (λ a. halves_of 46 a.1 >>= λ b. halves_of 46 b.1 >>= λ c. both_of (both_of (octet_of a.0) (octet_of b.0)) (both_of (octet_of c.0) (octet_of c.1)) >>= made) ip e in
    let b = bind_ok (halves_of 46 a.0.1) (λ b. halves_of 46 b.1 >>= λ c. both_of (both_of (octet_of a.0.0) (octet_of b.0)) (both_of (octet_of c.0) (octet_of c.1)) >>= made) ip a.2 in
    let c = bind_ok (halves_of 46 b.0.1) (λ c. both_of (both_of (octet_of a.0.0) (octet_of b.0.0)) (both_of (octet_of c.0) (octet_of c.1)) >>= made) ip b.2 in
    let n = bind_ok (both_of (both_of (octet_of a.0.0) (octet_of b.0.0)) (both_of (octet_of c.0.0) (octet_of c.0.1))) made ip c.2 in
    let both = both_ok (both_of (octet_of a.0.0) (octet_of b.0.0)) (both_of (octet_of c.0.0) (octet_of c.0.1)) n.0 n.1 in
    let front = both_ok (octet_of a.0.0) (octet_of b.0.0) n.0.0 both.0 in
    let back = both_ok (octet_of c.0.0) (octet_of c.0.1) n.0.1 both.1 in
    let n0 = number_is 255 a.0.0 n.0.0.0 (omega arith) front.0 in
    let n1 = number_is 255 b.0.0 n.0.0.1 (omega arith) front.1 in
    let n2 = number_is 255 c.0.0 n.0.1.0 (omega arith) back.0 in
    let n3 = number_is 255 c.0.1 n.0.1.1 (omega arith) back.1 in
    let is : from_be_bytes w32 (octets n.0.0.0 n.0.0.1 n.0.1.0 n.0.1.1) ≡ ip = ok_is _ ip n.2 in (
      octets n.0.0.0 n.0.0.1 n.0.1.0 n.0.1.1,
      be_bytes_4 (octets n.0.0.0 n.0.0.1 n.0.1.0 n.0.1.1) ip refl (are_bytes n.0.0.0 n.0.0.1 n.0.1.0 n.0.1.1 n0.0 n1.0 n2.0 n3.0) (sym is),
      joins 46 word a.0 _ _ a.1 n0.1 (joins 46 a.0.1 b.0 _ _ b.1 n1.1 (joins 46 b.0.1 c.0 _ _ c.1 n2.1 n3.1)),
    )

regroup : (a b c d e : List ℕ) → (a ++ 46 ∷ (b ++ 46 ∷ (c ++ 46 ∷ d))) ++ 58 ∷ e ≡ a ++ 46 ∷ (b ++ 46 ∷ (c ++ 46 ∷ (d ++ 58 ∷ e)))
regroup a b c d e = simp append_assoc

abbrev addr_made : ℕ × ℕ → Result Addr TokenFault
addr_made p = Ok (record { ip = p.0; port = p.1 })

pub addr_found : (word : List ℕ) (addr : Addr) → addr_of word ≡ Ok addr → word ≡ addr_text addr
unfolding addr_of
addr_found word addr e =
    let a = bind_ok (halves_of 58 word) (λ h. both_of (ip_of h.0) (number_of 65535 h.1) >>= addr_made) addr e in
    let b = bind_ok (both_of (ip_of a.0.0) (number_of 65535 a.0.1)) addr_made addr a.2 in
    let both = both_ok (ip_of a.0.0) (number_of 65535 a.0.1) b.0 b.1 in
    let ip = ip_found a.0.0 b.0.0 both.0 in
    let port = number_is 65535 a.0.1 b.0.1 (omega arith) both.1 in
    let n = ip.0 in
    let parts = joins 58 word a.0 _ (decimal b.0.1) a.1 ip.2 port.1 in
    let text = parts ∙ regroup (decimal (get_or n 0 0)) (decimal (get_or n 1 0)) (decimal (get_or n 2 0)) (decimal (get_or n 3 0)) (decimal b.0.1) in
    subst (λ (s : Addr). word ≡ addr_text s) (ok_is (record { ip = b.0.0; port = b.0.1 }) addr b.2) (text ∙ ap (λ (o : List ℕ). octets_text o b.0.1) (sym ip.1))

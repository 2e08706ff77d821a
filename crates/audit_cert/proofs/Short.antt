-- No line that is spelled is too long.
use Rattle.std.proofs.Common.{ℕ, ◌+◌, ◌≤◌, ◌<◌, ◌^◌, List, ◌∷◌, ◌++◌, length, get_or, codes, decimal, arith}
use Rattle.std.specs.Int.{w32, to_be_bytes}
use Rattle.std.proofs.lemmas.Fmt.{length-decimal-le}
use Rattle.std.proofs.lemmas.List.{length-append}
use Rattle.audit_model.specs.declared.address.Addr.{Addr}
use Rattle.audit_model.specs.declared.sighting.SightId.{SightId}
use Rattle.audit_model.specs.declared.event.Key.{Key}
use Rattle.audit_model.specs.declared.event.Event.{Event}
use Rattle.audit_model.specs.declared.event.Event.TheVariants.{In, Act, Out}
use Rattle.audit_model.specs.declared.certificate.CertDrop.{CertDrop}
use Rattle.audit_model.specs.declared.certificate.CertSkew.{CertSkew}
use Rattle.audit_model.specs.Addr.{addr_text}
use Rattle.audit_model.specs.Fits.{AddrFits}
use Rattle.audit_cert.specs.Fits.{SightFits, KeyFits, EventFits, DropFits, SkewFits}
use Rattle.audit_cert.specs.Spelling.{sight_text, key_text}
use Rattle.audit_cert.proofs.Found.{event_word}
use Rattle.audit_cert.proofs.Words.{placed_word, skew_word}
use Rattle.audit_text.specs.declared.text_reader.TheConstants.{LONGEST_LINE}

-- a word's length is that of its halves
joined : (word rest : List ℕ) (separator n m : ℕ) → length word ≤ n → length rest ≤ m → length (word ++ separator ∷ rest) ≤ n + m + 1
joined word rest separator n m w r = omega (arith, w, r, length-append word (separator ∷ rest))

number_short : (n : ℕ) → n < 2 ^ 64 → length (decimal n) ≤ 20
number_short n fits = length-decimal-le 20 n (omega arith) (omega arith) fits

sight_short : (sight : SightId) → SightFits sight → length (sight_text sight) ≤ 41
sight_short sight fits = joined (decimal sight.iface) (decimal sight.index) 46 20 20 (number_short sight.iface (omega (arith, fits.0))) (number_short sight.index (omega (arith, fits.1)))

placed_short : (sight : SightId) (key : Key) → SightFits sight → KeyFits key → length (placed_word sight key) ≤ 83
placed_short sight key s k =
    joined (sight_text sight) (key_text key) 32 41 41 (sight_short sight s)
    (joined (decimal key.moment) (decimal key.tie) 32 20 20 (number_short key.moment (omega (arith, k.0))) (number_short key.tie (omega (arith, k.1))))

pub skew_short : (skew : CertSkew) → SkewFits skew → length (codes "skew" ++ 32 ∷ skew_word skew) ≤ LONGEST_LINE
skew_short skew fits =
    let words = joined (decimal skew.iface) (decimal skew.microseconds) 32 20 20 (number_short skew.iface (omega (arith, fits.0))) (number_short skew.microseconds (omega (arith, fits.1))) in
    omega (arith, words)

pub event_short : (event : Event) → EventFits event → length (event_word event) ≤ LONGEST_LINE
event_short (In sight key) fits = omega (arith, placed_short sight key fits.0 fits.1)
event_short (Act sight gives key) fits =
    let words = joined (sight_text sight) (placed_word gives key) 32 41 83 (sight_short sight fits.0) (placed_short gives key fits.1.0 fits.1.1) in
    omega (arith, words)
event_short (Out sight key) fits = omega (arith, placed_short sight key fits.0 fits.1)

pub drop_short : (drop : CertDrop) → DropFits drop → length (codes "drop" ++ 32 ∷ placed_word drop.sight drop.key) ≤ LONGEST_LINE
drop_short drop fits = omega (arith, placed_short drop.sight drop.key fits.0 fits.1)

abbrev pub lane_word : Addr → Addr → List ℕ
lane_word client listen = codes "lane" ++ 32 ∷ (addr_text client ++ 32 ∷ addr_text listen)

addr_short : (addr : Addr) → AddrFits addr → length (addr_text addr) ≤ 104
addr_short addr fits =
    let octet : ℕ → ℕ = λ i. get_or (to_be_bytes w32 addr.ip) i 0 in
    joined (decimal (octet 0)) _ 46 20 83 (number_short (octet 0) (omega arith))
    (joined (decimal (octet 1)) _ 46 20 62 (number_short (octet 1) (omega arith))
    (joined (decimal (octet 2)) _ 46 20 41 (number_short (octet 2) (omega arith))
    (joined (decimal (octet 3)) (decimal addr.port) 58 20 20 (number_short (octet 3) (omega arith)) (number_short addr.port (omega (arith, fits.1))))))

pub lane_short : (client listen : Addr) → AddrFits client → AddrFits listen → length (lane_word client listen) ≤ LONGEST_LINE
lane_short client listen c l =
    let words = joined (addr_text client) (addr_text listen) 32 104 104 (addr_short client c) (addr_short listen l) in
    omega (arith, words)

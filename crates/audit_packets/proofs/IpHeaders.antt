-- An IPv4 header, spelled out and by places.
use Rattle.std.proofs.Common.{◌≡◌, ℕ, zero, suc, ◌+◌, ◌-◌, ◌*◌, ◌/◌, ◌%◌, ◌<◌, ◌≤◌, Bool, true, false, not, ◌&&◌, eqb, leb, List, [], ◌∷◌, ◌++◌, length, get_or, take, drop, refl, sym, ap, ◌∙◌, subst, arith}
use Rattle.std.specs.Int.{w16, w32, to_be_bytes, from_be_bytes}
use Rattle.std.proofs.lemmas.Bool.{leb-true, eqb-true}
use Rattle.std.proofs.lemmas.List.{drop_at, drop_more, take-append-drop, length-take-le, length-append, length-drop, drop-drop}
use Rattle.std.proofs.lemmas.Nat.{be_bytes_4, from_be_bytes-to_be_bytes_2, from_be_bytes-to_be_bytes_4}
use Rattle.audit_packets.specs.Frame.{Ipv4, number, long_number, ipv4_at, carries_udp}
use Rattle.audit_packets.specs.Spelled.{HoldsProtocol}
use Rattle.audit_packets.proofs.Shifts.{made, same}
use Rattle.audit_packets.proofs.UdpHeaders.{IsBytes, first_eight, pair_spelled, two_cells}

four_fit : (a b c d : ℕ) → a < 256 → b < 256 → c < 256 → d < 256 → IsBytes (a ∷ b ∷ c ∷ d ∷ [])
four_fit a b c d ha hb hc hd zero = ha
four_fit a b c d ha hb hc hd (suc zero) = hb
four_fit a b c d ha hb hc hd (suc (suc zero)) = hc
four_fit a b c d ha hb hc hd (suc (suc (suc zero))) = hd
four_fit a b c d ha hb hc hd (suc (suc (suc (suc i)))) = omega arith

quad_spelled : (a b c d n : ℕ) → a < 256 → b < 256 → c < 256 → d < 256 → n ≡ (a * 256 + b) * 65536 + (c * 256 + d) → to_be_bytes w32 n ≡ a ∷ b ∷ c ∷ d ∷ []
quad_spelled a b c d n ha hb hc hd e = be_bytes_4 (a ∷ b ∷ c ∷ d ∷ []) n refl (four_fit a b c d ha hb hc hd) (omega arith)

abbrev cells : List ℕ → List ℕ → List ℕ
cells b tail = get_or b 0 0 ∷ get_or b 1 0 ∷ get_or b 2 0 ∷ get_or b 3 0 ∷ get_or b 4 0 ∷ get_or b 5 0 ∷ get_or b 6 0 ∷ get_or b 7 0 ∷ get_or b 8 0 ∷ get_or b 9 0 ∷ get_or b 10 0 ∷ get_or b 11 0 ∷ get_or b 12 0 ∷ get_or b 13 0 ∷ get_or b 14 0 ∷ get_or b 15 0 ∷ get_or b 16 0 ∷ get_or b 17 0 ∷ get_or b 18 0 ∷ get_or b 19 0 ∷ tail

-- the next cell of what is left
cell : (b : List ℕ) (i : ℕ) → i < length b → drop i b ≡ get_or b i 0 ∷ drop (i + 1) b
cell b i h = drop_more b i 0 h

next_four : (b : List ℕ) (i : ℕ) → i + 4 ≤ length b → drop i b ≡ get_or b i 0 ∷ get_or b (i + 1) 0 ∷ get_or b (i + 1 + 1) 0 ∷ get_or b (i + 1 + 1 + 1) 0 ∷ drop (i + 1 + 1 + 1 + 1) b
next_four b i h =
    cell b i (omega arith)
    ∙ ap (λ (t : List ℕ). get_or b i 0 ∷ t) (cell b (i + 1) (omega arith))
    ∙ ap (λ (t : List ℕ). get_or b i 0 ∷ get_or b (i + 1) 0 ∷ t) (cell b (i + 1 + 1) (omega arith))
    ∙ ap (λ (t : List ℕ). get_or b i 0 ∷ get_or b (i + 1) 0 ∷ get_or b (i + 1 + 1) 0 ∷ t) (cell b (i + 1 + 1 + 1) (omega arith))

first_twenty : (b : List ℕ) → 20 ≤ length b → b ≡ cells b (drop 20 b)
first_twenty b h =
    let g = get_or b in
    first_eight b (omega arith)
    ∙ ap (λ (t : List ℕ). g 0 0 ∷ g 1 0 ∷ g 2 0 ∷ g 3 0 ∷ g 4 0 ∷ g 5 0 ∷ g 6 0 ∷ g 7 0 ∷ t) (next_four b 8 (omega arith)
    ∙ ap (λ (t : List ℕ). g 8 0 ∷ g 9 0 ∷ g 10 0 ∷ g 11 0 ∷ t) (next_four b 12 (omega arith)
    ∙ ap (λ (t : List ℕ). g 12 0 ∷ g 13 0 ∷ g 14 0 ∷ g 15 0 ∷ t) (next_four b 16 h)))

pub both : (a b : Bool) → (a && b) ≡ true → (a ≡ true) × (b ≡ true)
both true b e = (refl, e)
both false b e = absurd cc

pub record Carries (ip : Ipv4) : Type 0 where
  pub version : ip.version ≡ 4
  pub least : 20 ≤ ip.header_length
  pub total : ip.header_length ≤ ip.total_length
  pub protocol : ip.protocol ≡ 17

pub carries_says : (ip : Ipv4) → carries_udp ip ≡ true → Carries ip
carries_says ip e =
    let s1 = both (eqb ip.version 4 && leb 20 ip.header_length && leb ip.header_length ip.total_length) (eqb ip.protocol 17) e in
    let s2 = both (eqb ip.version 4 && leb 20 ip.header_length) (leb ip.header_length ip.total_length) s1.0 in
    let s3 = both (eqb ip.version 4) (leb 20 ip.header_length) s2.0 in
    record {
      version = eqb-true ip.version 4 s3.0;
      least = leb-true 20 ip.header_length s3.1;
      total = leb-true ip.header_length ip.total_length s2.1;
      protocol = eqb-true ip.protocol 17 s1.1;
    }

not_false : (b : Bool) → not b ≡ false → b ≡ true
not_false true e = refl
not_false false e = absurd cc

pub protocol_spelled : (d : List ℕ) → IsBytes d → 20 ≤ length d → carries_udp (ipv4_at d 0) ≡ true → (ipv4_at d 0).is_fragment ≡ false → (ipv4_at d 0).header_length ≤ length d
    → HoldsProtocol d (get_or d 0 0 % 16) (number d 2) (long_number d 12) (long_number d 16) (drop (ipv4_at d 0).header_length d)
protocol_spelled d fits long carries whole header =
    let g = get_or d in
    let c = carries_says (ipv4_at d 0) carries in
    let version : g 0 0 / 16 ≡ 4 = c.version in
    let least : 20 ≤ g 0 0 % 16 * 4 = c.least in
    let room : g 0 0 % 16 * 4 ≤ length d = header in
    let protocol : g 9 0 ≡ 17 = c.protocol in
    let fragment : (g 6 0 * 256 + g 7 0) % 16384 ≡ 0 = eqb-true _ 0 (not_false _ whole) in
    let g7 : g 7 0 < 256 = fits 7 in
    let g6 : g 6 0 < 256 = fits 6 in
    let seven : g 7 0 ≡ 0 = omega arith in
    let six : g 6 0 ≡ 64 * (g 6 0 / 64) = omega arith in
    let words = g 0 0 % 16 in
    let zero_is : g 0 0 ≡ 64 + words = omega arith in
    let n = words * 4 - 20 in
    let rest = drop 20 d in
    let options = take n rest in
    let content = drop (words * 4) d in
    let rest_len : length rest ≡ length d - 20 = length-drop 20 d in
    let opt_len : length options ≡ n = length-take-le n rest (omega arith) in
    let sum : 20 + n ≡ words * 4 = omega arith in
    let tail : options ++ content ≡ rest = ap (λ (t : List ℕ). options ++ t) (ap (λ (x : ℕ). drop x d) (sym sum) ∙ sym (drop-drop n 20 d)) ∙ take-append-drop n rest in
    let e_total : to_be_bytes w16 (number d 2) ≡ g 2 0 ∷ g 3 0 ∷ [] = pair_spelled (g 2 0) (g 3 0) _ (fits 2) (fits 3) refl in
    let e_from : to_be_bytes w32 (long_number d 12) ≡ g 12 0 ∷ g 13 0 ∷ g 14 0 ∷ g 15 0 ∷ [] = quad_spelled (g 12 0) (g 13 0) (g 14 0) (g 15 0) _ (fits 12) (fits 13) (fits 14) (fits 15) refl in
    let e_to : to_be_bytes w32 (long_number d 16) ≡ g 16 0 ∷ g 17 0 ∷ g 18 0 ∷ g 19 0 ∷ [] = quad_spelled (g 16 0) (g 17 0) (g 18 0) (g 19 0) _ (fits 16) (fits 17) (fits 18) (fits 19) refl in
    let b2 = fits 2 in
    let b3 = fits 3 in
    let b12 = fits 12 in
    let b13 = fits 13 in
    let b14 = fits 14 in
    let b15 = fits 15 in
    let b16 = fits 16 in
    let b17 = fits 17 in
    let b18 = fits 18 in
    let b19 = fits 19 in
    let Spelling : ℕ → ℕ → ℕ → ℕ → List ℕ → List ℕ → List ℕ → List ℕ = λ v f z p t a b. v ∷ g 1 0 ∷ t ++ (g 4 0 ∷ g 5 0 ∷ []) ++ f ∷ z ∷ g 8 0 ∷ p ∷ (g 10 0 ∷ g 11 0 ∷ []) ++ a ++ b ++ options ++ content in
    record {
      service = g 1 0;
      identification = g 4 0 ∷ g 5 0 ∷ [];
      flags = g 6 0 / 64;
      time_to_live = g 8 0;
      checksum = g 10 0 ∷ g 11 0 ∷ [];
      options = options;
      spelled = first_twenty d long
          ∙ ap (cells d) (sym tail)
          ∙ ap (λ (x : ℕ). Spelling x (g 6 0) (g 7 0) (g 9 0) (g 2 0 ∷ g 3 0 ∷ []) (g 12 0 ∷ g 13 0 ∷ g 14 0 ∷ g 15 0 ∷ []) (g 16 0 ∷ g 17 0 ∷ g 18 0 ∷ g 19 0 ∷ [])) zero_is
          ∙ ap (λ (x : ℕ). Spelling (64 + words) x (g 7 0) (g 9 0) (g 2 0 ∷ g 3 0 ∷ []) (g 12 0 ∷ g 13 0 ∷ g 14 0 ∷ g 15 0 ∷ []) (g 16 0 ∷ g 17 0 ∷ g 18 0 ∷ g 19 0 ∷ [])) six
          ∙ ap (λ (x : ℕ). Spelling (64 + words) (64 * (g 6 0 / 64)) x (g 9 0) (g 2 0 ∷ g 3 0 ∷ []) (g 12 0 ∷ g 13 0 ∷ g 14 0 ∷ g 15 0 ∷ []) (g 16 0 ∷ g 17 0 ∷ g 18 0 ∷ g 19 0 ∷ [])) seven
          ∙ ap (λ (x : ℕ). Spelling (64 + words) (64 * (g 6 0 / 64)) 0 x (g 2 0 ∷ g 3 0 ∷ []) (g 12 0 ∷ g 13 0 ∷ g 14 0 ∷ g 15 0 ∷ []) (g 16 0 ∷ g 17 0 ∷ g 18 0 ∷ g 19 0 ∷ [])) protocol
          ∙ sym (ap (λ (t : List ℕ). Spelling (64 + words) (64 * (g 6 0 / 64)) 0 17 t (to_be_bytes w32 (long_number d 12)) (to_be_bytes w32 (long_number d 16))) e_total
          ∙ ap (λ (t : List ℕ). Spelling (64 + words) (64 * (g 6 0 / 64)) 0 17 (g 2 0 ∷ g 3 0 ∷ []) t (to_be_bytes w32 (long_number d 16))) e_from
          ∙ ap (λ (t : List ℕ). Spelling (64 + words) (64 * (g 6 0 / 64)) 0 17 (g 2 0 ∷ g 3 0 ∷ []) (g 12 0 ∷ g 13 0 ∷ g 14 0 ∷ g 15 0 ∷ []) t) e_to);
      two = refl;
      two_more = refl;
      least = omega arith;
      most = omega arith;
      optional = omega arith;
      total_fits = omega arith;
      from_fits = omega arith;
      to_fits = omega arith;
    }

fragment_zero : (flags : ℕ) → (64 * flags * 256 + 0) % 16384 ≡ 0
fragment_zero flags = omega arith

-- what a spelled header says by its places
pub record Tells (d : List ℕ) (words total from to : ℕ) (content : List ℕ) : Type 0 where
  pub ip_is : ipv4_at d 0 ≡ made 4 (4 * words) total false 17 from to
  pub long : 20 ≤ length d
  pub content_is : content ≡ drop (4 * words) d
  pub after : length d ≡ 4 * words + length content

pub protocol_tells : (d : List ℕ) (words total from to : ℕ) (content : List ℕ) → HoldsProtocol d words total from to content → Tells d words total from to content
protocol_tells d words total from to content h =
    let most = h.most in
    let least = h.least in
    let i = get_or h.identification in
    let k = get_or h.checksum in
    let head = (64 + words) ∷ h.service ∷ to_be_bytes w16 total ++ (i 0 0 ∷ i 1 0 ∷ []) ++ (64 * h.flags) ∷ 0 ∷ h.time_to_live ∷ 17 ∷ (k 0 0 ∷ k 1 0 ∷ []) ++ to_be_bytes w32 from ++ to_be_bytes w32 to in
    let spelled = head ++ h.options ++ content in
    let is : d ≡ spelled = h.spelled
    ∙ ap (λ (x : List ℕ). (64 + words) ∷ h.service ∷ to_be_bytes w16 total ++ x ++ (64 * h.flags) ∷ 0 ∷ h.time_to_live ∷ 17 ∷ h.checksum ++ to_be_bytes w32 from ++ to_be_bytes w32 to ++ h.options ++ content) (two_cells h.identification h.two)
    ∙ ap (λ (x : List ℕ). (64 + words) ∷ h.service ∷ to_be_bytes w16 total ++ (i 0 0 ∷ i 1 0 ∷ []) ++ (64 * h.flags) ∷ 0 ∷ h.time_to_live ∷ 17 ∷ x ++ to_be_bytes w32 from ++ to_be_bytes w32 to ++ h.options ++ content) (two_cells h.checksum h.two_more) in
    let from_is : from_be_bytes w32 (to_be_bytes w32 from) ≡ from = from_be_bytes-to_be_bytes_4 from h.from_fits in
    let to_is : from_be_bytes w32 (to_be_bytes w32 to) ≡ to = from_be_bytes-to_be_bytes_4 to h.to_fits in
    let optional : length (head ++ h.options) ≡ 4 * words = length-append head h.options ∙ h.optional in
    let tells : Tells spelled words total from to content = record {
      ip_is = same _ _ _ _ _ _ _ _ _ _ _ _ _ _
          (omega arith)
          (omega arith)
          (from_be_bytes-to_be_bytes_2 total h.total_fits)
          (ap (λ (x : ℕ). not (eqb x 0)) (fragment_zero h.flags))
          refl
          (omega arith)
          (omega arith);
      long = omega (arith, length-append (head ++ h.options) content);
      content_is = sym (drop_at (head ++ h.options) content (4 * words) optional);
      after = length-append (head ++ h.options) content ∙ ap (λ (x : ℕ). x + length content) optional;
    } in
    subst (λ (x : List ℕ). Tells x words total from to content) (sym is) tells

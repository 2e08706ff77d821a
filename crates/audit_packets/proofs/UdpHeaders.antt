-- A UDP header and payload, spelled out and by places.
use Rattle.std.proofs.Common.{◌≡◌, ℕ, zero, suc, ◌+◌, ◌-◌, ◌*◌, ◌<◌, ◌≤◌, List, [], ◌∷◌, ◌++◌, length, get_or, take, drop, refl, sym, ap, ◌∙◌, subst, arith}
use Rattle.std.specs.Int.{w16, to_be_bytes}
use Rattle.std.proofs.lemmas.List.{take_at, take-append-drop, length-take-le, length-append, length-drop}
use Rattle.std.proofs.lemmas.Nat.{be_bytes_2, from_be_bytes-to_be_bytes_2}
use Rattle.audit_packets.specs.Frame.{number}
use Rattle.audit_packets.specs.Spelled.{HoldsPayload}

abbrev pub IsBytes : List ℕ → Type 0
IsBytes bytes = (i : ℕ) → get_or bytes i 0 < 256

pub first_eight : (b : List ℕ) → 8 ≤ length b → b ≡ get_or b 0 0 ∷ get_or b 1 0 ∷ get_or b 2 0 ∷ get_or b 3 0 ∷ get_or b 4 0 ∷ get_or b 5 0 ∷ get_or b 6 0 ∷ get_or b 7 0 ∷ drop 8 b
first_eight [] h = absurd (omega arith)
first_eight (b0 ∷ []) h = absurd (omega arith)
first_eight (b0 ∷ b1 ∷ []) h = absurd (omega arith)
first_eight (b0 ∷ b1 ∷ b2 ∷ []) h = absurd (omega arith)
first_eight (b0 ∷ b1 ∷ b2 ∷ b3 ∷ []) h = absurd (omega arith)
first_eight (b0 ∷ b1 ∷ b2 ∷ b3 ∷ b4 ∷ []) h = absurd (omega arith)
first_eight (b0 ∷ b1 ∷ b2 ∷ b3 ∷ b4 ∷ b5 ∷ []) h = absurd (omega arith)
first_eight (b0 ∷ b1 ∷ b2 ∷ b3 ∷ b4 ∷ b5 ∷ b6 ∷ []) h = absurd (omega arith)
first_eight (b0 ∷ b1 ∷ b2 ∷ b3 ∷ b4 ∷ b5 ∷ b6 ∷ b7 ∷ rest) h = refl

two_fit : (a b : ℕ) → a < 256 → b < 256 → IsBytes (a ∷ b ∷ [])
two_fit a b ha hb zero = ha
two_fit a b ha hb (suc zero) = hb
two_fit a b ha hb (suc (suc i)) = omega arith

-- two bytes are the spelling of their number
pub pair_spelled : (a b n : ℕ) → a < 256 → b < 256 → n ≡ a * 256 + b → to_be_bytes w16 n ≡ a ∷ b ∷ []
pair_spelled a b n ha hb e = be_bytes_2 (a ∷ b ∷ []) n refl (two_fit a b ha hb) e

pub two_cells : (xs : List ℕ) → length xs ≡ 2 → xs ≡ get_or xs 0 0 ∷ get_or xs 1 0 ∷ []
two_cells [] h = absurd (omega arith)
two_cells (a ∷ []) h = absurd (omega arith)
two_cells (a ∷ b ∷ []) h = refl
two_cells (a ∷ b ∷ c ∷ more) h = absurd (omega arith)

pub payload_spelled : (content payload : List ℕ) (n : ℕ) → IsBytes content → n ≡ number content 4 → 8 ≤ n → n ≤ length content → payload ≡ take (n - 8) (drop 8 content) → HoldsPayload content (number content 0) (number content 2) payload × (8 + length payload ≡ n)
payload_spelled content payload n fits n_is least most payload_is =
    let g = get_or content in
    let rest = drop 8 content in
    let behind = drop (n - 8) rest in
    let g0 = fits 0 in
    let g1 = fits 1 in
    let g2 = fits 2 in
    let g3 = fits 3 in
    let rest_len : length rest ≡ length content - 8 = length-drop 8 content in
    let len : 8 + length payload ≡ n = ap (λ (x : List ℕ). 8 + length x) payload_is ∙ ap (λ (x : ℕ). 8 + x) (length-take-le (n - 8) rest (omega arith)) ∙ omega arith in
    let e0 : to_be_bytes w16 (number content 0) ≡ g 0 0 ∷ g 1 0 ∷ [] = pair_spelled (g 0 0) (g 1 0) _ (fits 0) (fits 1) refl in
    let e1 : to_be_bytes w16 (number content 2) ≡ g 2 0 ∷ g 3 0 ∷ [] = pair_spelled (g 2 0) (g 3 0) _ (fits 2) (fits 3) refl in
    let e2 : to_be_bytes w16 (8 + length payload) ≡ g 4 0 ∷ g 5 0 ∷ [] = pair_spelled (g 4 0) (g 5 0) _ (fits 4) (fits 5) (len ∙ n_is) in
    let e3 : payload ++ behind ≡ rest = ap (λ (x : List ℕ). x ++ behind) payload_is ∙ take-append-drop (n - 8) rest in (
      record {
        checksum = g 6 0 ∷ g 7 0 ∷ [];
        behind = behind;
        spelled = first_eight content (omega arith) ∙ sym (
            ap (λ (t : List ℕ). t ++ to_be_bytes w16 (number content 2) ++ to_be_bytes w16 (8 + length payload) ++ (g 6 0 ∷ g 7 0 ∷ []) ++ payload ++ behind) e0
            ∙ ap (λ (t : List ℕ). g 0 0 ∷ g 1 0 ∷ t ++ to_be_bytes w16 (8 + length payload) ++ (g 6 0 ∷ g 7 0 ∷ []) ++ payload ++ behind) e1
            ∙ ap (λ (t : List ℕ). g 0 0 ∷ g 1 0 ∷ g 2 0 ∷ g 3 0 ∷ t ++ (g 6 0 ∷ g 7 0 ∷ []) ++ payload ++ behind) e2
            ∙ ap (λ (t : List ℕ). g 0 0 ∷ g 1 0 ∷ g 2 0 ∷ g 3 0 ∷ g 4 0 ∷ g 5 0 ∷ g 6 0 ∷ g 7 0 ∷ t) e3);
        two = refl;
        from_fits = omega arith;
        to_fits = omega arith;
      },
      len,
    )

-- what a spelled header says by its places
pub record Says (content : List ℕ) (from to : ℕ) (payload : List ℕ) : Type 0 where
  pub from_is : number content 0 ≡ from
  pub to_is : number content 2 ≡ to
  pub length_is : number content 4 ≡ 8 + length payload
  pub long : 8 + length payload ≤ length content
  pub payload_is : payload ≡ take (length payload) (drop 8 content)

pub payload_says : (content : List ℕ) (from to : ℕ) (payload : List ℕ) → 8 + length payload < 65536 → HoldsPayload content from to payload → Says content from to payload
payload_says content from to payload small h =
    let cells = two_cells h.checksum h.two in
    let c = get_or h.checksum in
    let spelled = to_be_bytes w16 from ++ to_be_bytes w16 to ++ to_be_bytes w16 (8 + length payload) ++ (c 0 0 ∷ c 1 0 ∷ []) ++ payload ++ h.behind in
    let is : content ≡ spelled = h.spelled ∙ ap (λ (t : List ℕ). to_be_bytes w16 from ++ to_be_bytes w16 to ++ to_be_bytes w16 (8 + length payload) ++ t ++ payload ++ h.behind) cells in
    let says : Says spelled from to payload = record {
      from_is = from_be_bytes-to_be_bytes_2 from h.from_fits;
      to_is = from_be_bytes-to_be_bytes_2 to h.to_fits;
      length_is = from_be_bytes-to_be_bytes_2 (8 + length payload) small;
      long = omega (arith, length-append payload h.behind);
      payload_is = sym (take_at payload h.behind (length payload) refl);
    } in
    subst (λ (x : List ℕ). Says x from to payload) (sym is) says

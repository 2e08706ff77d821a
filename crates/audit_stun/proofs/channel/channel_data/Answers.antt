use Rattle.std.proofs.Common.{◌≡◌, ◌<◌, ◌≤◌, [], ◌∷◌, ◌++◌, List, ℕ, length, get_or, take, drop, refl, sym, ap, ◌∙◌, arith}
use Rattle.std.specs.Int.{w16, to_be_bytes}
use Rattle.std.proofs.lemmas.List.{take_rest, take-append-drop, length-take-le, length-drop}
use Rattle.std.proofs.lemmas.Nat.{be_bytes_2}
use Rattle.audit_stun.proofs.Cells.{first_four, two_fit}
use Rattle.audit_stun.proofs.channel.channel_data.Goals as goal

pub returns-clause-found : goal.returns-clause-found
returns-clause-found c =
    let payload = c.args.payload.now in
    let fits : (i : ℕ) → get_or payload i 0 < 256 = λ i. omega (arith, c.type_inv.payload i) in
    let g0 = get_or payload 0 0 in
    let g1 = get_or payload 1 0 in
    let g2 = get_or payload 2 0 in
    let g3 = get_or payload 3 0 in
    let number = c.from_be_bytes-number.result in
    let n = c.from_be_bytes-length.result in
    let rest = drop 4 payload in
    let room : n ≤ length rest = rw take_rest at c.if-rest-length.false in
    let bytes = take n rest in
    let after = drop n rest in
    let len : length bytes ≡ n = length-take-le n rest room in
    let high : to_be_bytes w16 number ≡ g0 ∷ g1 ∷ [] = be_bytes_2 (g0 ∷ g1 ∷ []) number refl (two_fit g0 g1 (fits 0) (fits 1)) c.from_be_bytes-number.ensures in
    let low : to_be_bytes w16 (length bytes) ≡ g2 ∷ g3 ∷ [] = ap (to_be_bytes w16) len ∙ be_bytes_2 (g2 ∷ g3 ∷ []) n refl (two_fit g2 g3 (fits 2) (fits 3)) c.from_be_bytes-length.ensures in
    let spelled : payload ≡ to_be_bytes w16 number ++ to_be_bytes w16 (length bytes) ++ bytes ++ after = first_four payload c.in-len4-up.len_at_least ∙ sym (ap (λ (t : List ℕ). t ++ to_be_bytes w16 (length bytes) ++ bytes ++ after) high ∙ ap (λ (t : List ℕ). g0 ∷ g1 ∷ t ++ bytes ++ after) low ∙ ap (λ (t : List ℕ). g0 ∷ g1 ∷ g2 ∷ g3 ∷ t) (take-append-drop n rest)) in
    let g2_fits = fits 2 in
    let g3_fits = fits 3 in
    let small : n < 65536 = omega (arith, c.from_be_bytes-length.ensures) in
    rw take_rest (after, record { spelled = spelled; from = omega arith; below = omega arith; length_fits = rw len small }, sym (length-drop n rest))

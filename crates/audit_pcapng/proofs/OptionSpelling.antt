-- Options are read exactly where they are spelled.
use Rattle.std.proofs.Common.{◌≡◌, ◌≢◌, ℕ, zero, suc, ◌+◌, ◌≤◌, List, [], ◌∷◌, ◌++◌, length, take, drop, Result, Ok, Err, refl, sym, ap, subst, ◌∙◌, append_assoc, inl, inr, lit<, ◌↔◌, arith}
use Rattle.std.specs.Int.{w16}
use Rattle.std.proofs.lemmas.Nat.{div-add-mod', mod_below}
use Rattle.std.proofs.lemmas.Bool.{cases_lt, cases_eq}
use Rattle.std.proofs.lemmas.List.{nil_from_length, take_at, drop_at, take-append-drop, length-take, length-drop, length-append, take-append-le}
use Rattle.audit_pcapng.specs.declared.byte_order.ByteOrder.{ByteOrder}
use Rattle.audit_pcapng.specs.declared.fault.CaptureFault.{CaptureFault}
use Rattle.audit_pcapng.specs.Numbers.{number_at, padded}
use Rattle.audit_pcapng.specs.Reading.{◌>>=◌}
use Rattle.audit_pcapng.specs.Options.{options}
use Rattle.audit_pcapng.specs.OptionLists.{IsOption, IsEnd, AreOptions}
use Rattle.audit_pcapng.proofs.Prefixes.{number_at-append}
use Rattle.audit_pcapng.proofs.OptionSteps.{none_left, too_short, ended, past_end, one_more}

at_end : (n : ℕ) (order : ByteOrder) (list : List ℕ) → IsEnd order list → options n order list ≡ Ok []
at_end n order [] end = none_left n order [] refl
at_end n order (byte ∷ bytes) end = ended n order (byte ∷ bytes) end.0 end.1

-- what is spelled is read
spelled_read : (n : ℕ) (order : ByteOrder) (list : List ℕ) (found : List (ℕ × List ℕ)) → length list ≤ n → AreOptions order list found → options n order list ≡ Ok found
spelled_read n order list [] within are = at_end n order list are
spelled_read zero order list (option ∷ others) within are =
    let is = are.3 in
    absurd (omega (arith, is.four, ap length are.2, ap length is.spelled, length-append are.0 are.1, length-append is.head (option.1 ++ is.padding)))
spelled_read (suc n) order list (option ∷ others) within are =
    let is = are.3 in
    let rest = are.1 in
    let value = option.1 in
    let behind = value ++ (is.padding ++ rest) in
    let whole : list ≡ is.head ++ behind = are.2 ∙ ap (λ (t : List ℕ). t ++ rest) is.spelled ∙ append_assoc is.head (value ++ is.padding) rest ∙ ap (λ (t : List ℕ). is.head ++ t) (append_assoc value is.padding rest) in
    let code : number_at order w16 0 list ≡ option.0 = ap (number_at order w16 0) whole ∙ number_at-append order w16 0 is.head behind (omega (arith, is.four)) ∙ is.code in
    let size : number_at order w16 2 list ≡ length value = ap (number_at order w16 2) whole ∙ number_at-append order w16 2 is.head behind (omega (arith, is.four)) ∙ is.size in
    let from : drop 4 list ≡ behind = ap (drop 4) whole ∙ drop_at is.head behind 4 is.four in
    let len = is.pads in
    let after : drop (padded (length value)) behind ≡ rest = ap (drop (padded (length value))) (sym (append_assoc value is.padding rest)) ∙ drop_at (value ++ is.padding) rest (padded (length value)) (length-append value is.padding ∙ len) in
    let many : 4 ≤ length list = omega (arith, is.four, ap length whole, length-append is.head behind) in
    let fits : padded (number_at order w16 2 list) ≤ length (drop 4 list) = rw (from, size) (omega (arith, len, length-append value (is.padding ++ rest), length-append is.padding rest)) in
    let step = one_more n order list many (λ z. is.some (sym code ∙ z)) fits in
    let later = spelled_read n order rest others (omega (arith, within, is.four, ap length whole, length-append is.head behind, length-append value (is.padding ++ rest), length-append is.padding rest)) are.4 in
    step ∙ rw (from, size, code, after, take_at value (is.padding ++ rest) (length value) refl, later) refl

same_ok : (x y : List (ℕ × List ℕ)) → ◌≡◌ {A = Result (List (ℕ × List ℕ)) CaptureFault} (Ok x) (Ok y) → x ≡ y
same_ok x y e = cc

with_first : (r : Result (List (ℕ × List ℕ)) CaptureFault) (option : ℕ × List ℕ) (found : List (ℕ × List ℕ)) → (r >>= λ others. Ok (option ∷ others)) ≡ Ok found → (others : List (ℕ × List ℕ)) × (r ≡ Ok others) × (option ∷ others ≡ found)
with_first (Ok others) option found e = (others, refl, same_ok (option ∷ others) found e)
with_first (Err fault) option found e = absurd cc

ends_here : (order : ByteOrder) (list : List ℕ) → 4 ≤ length list → number_at order w16 0 list ≡ 0 → IsEnd order list
ends_here order [] many e = tt
ends_here order (byte ∷ bytes) many e = (many, e)

size_within : (n : ℕ) → n ≤ padded n
size_within n = omega (arith, div-add-mod' (n + 3) 4, mod_below (n + 3) 4 (lit< tt))

-- the option at the front of a list that has a whole one
first_option : (order : ByteOrder) (list : List ℕ) → 4 ≤ length list → number_at order w16 0 list ≢ 0 → padded (number_at order w16 2 list) ≤ length (drop 4 list)
    → (text : List ℕ) × (list ≡ text ++ drop (padded (number_at order w16 2 list)) (drop 4 list)) × IsOption order text (number_at order w16 0 list, take (number_at order w16 2 list) (drop 4 list))
first_option order list many code fits =
    let size = number_at order w16 2 list in
    let whole = padded size in
    let from = drop 4 list in
    let small : size ≤ whole = size_within size in
    let parts : take 4 list ++ from ≡ list = take-append-drop 4 list in
    let pieces : take whole from ++ drop whole from ≡ from = take-append-drop whole from in
    let front_len : length (take whole from) ≡ whole = omega (arith, length-take whole from) in
    let head_len : length (take 4 list) ≡ 4 = omega (arith, length-take 4 list) in
    let value_len : length (take size from) ≡ size = omega (arith, length-take size from) in
    let value : take size (take whole from) ≡ take size from = sym (take-append-le size (take whole from) (drop whole from) (omega (arith, front_len))) ∙ ap (take size) pieces in
    let inner : take size from ++ drop size (take whole from) ≡ take whole from = ap (λ (t : List ℕ). t ++ drop size (take whole from)) (sym value) ∙ take-append-drop size (take whole from) in
    let text : List ℕ = take 4 list ++ (take size from ++ drop size (take whole from)) in
    let spelled : list ≡ text ++ drop whole from =
    sym parts ∙ ap (λ (t : List ℕ). take 4 list ++ t) (sym pieces ∙ ap (λ (t : List ℕ). t ++ drop whole from) (sym inner)) ∙ sym (append_assoc (take 4 list) (take size from ++ drop size (take whole from)) (drop whole from)) in (
      text,
      spelled,
      record {
        head = take 4 list;
        padding = drop size (take whole from);
        spelled = refl;
        four = head_len;
        code = sym (number_at-append order w16 0 (take 4 list) from (omega (arith, head_len))) ∙ ap (number_at order w16 0) parts;
        size = sym (number_at-append order w16 2 (take 4 list) from (omega (arith, head_len))) ∙ ap (number_at order w16 2) parts ∙ sym value_len;
        pads = rw value_len (omega (arith, length-drop size (take whole from), front_len));
        some = code;
      },
    )

-- what is read is spelled
read_spelled : (n : ℕ) (order : ByteOrder) (list : List ℕ) (found : List (ℕ × List ℕ)) → length list ≤ n → options n order list ≡ Ok found → AreOptions order list found
read_spelled zero order list found within e =
    let none : list ≡ [] = nil_from_length list (omega arith) in
    let nothing : [] ≡ found = same_ok [] found (sym (none_left zero order list (omega arith)) ∙ e) in
    subst (λ (f : List (ℕ × List ℕ)). AreOptions order list f) nothing (subst (λ (l : List ℕ). IsEnd order l) (sym none) tt)
read_spelled (suc n) order list found within e =
    elim (cases_eq (length list) 0) [
      | inl empty ↦
          let nothing : [] ≡ found = same_ok [] found (sym (none_left (suc n) order list empty) ∙ e) in
          subst (λ (f : List (ℕ × List ℕ)). AreOptions order list f) nothing (subst (λ (l : List ℕ). IsEnd order l) (sym (nil_from_length list empty)) tt)
      | inr some ↦ elim (cases_lt (length list) 4) [
        | inl short ↦ let bad = too_short n order list some short in absurd cc
        | inr many ↦ elim (cases_eq (number_at order w16 0 list) 0) [
          | inl zero_code ↦
              let nothing : [] ≡ found = same_ok [] found (sym (ended (suc n) order list many zero_code) ∙ e) in
              subst (λ (f : List (ℕ × List ℕ)). AreOptions order list f) nothing (ends_here order list many zero_code)
          | inr code ↦ elim (cases_lt (length (drop 4 list)) (padded (number_at order w16 2 list))) [
            | inl past ↦ let bad = past_end n order list many code past in absurd cc
            | inr fits ↦
                let rest = drop (padded (number_at order w16 2 list)) (drop 4 list) in
                let option : ℕ × List ℕ = (number_at order w16 0 list, take (number_at order w16 2 list) (drop 4 list)) in
                let read = with_first (options n order rest) option found (sym (one_more n order list many code fits) ∙ e) in
                let later = read_spelled n order rest read.0 (omega (arith, length-drop (padded (number_at order w16 2 list)) (drop 4 list), length-drop 4 list)) read.1 in
                let first = first_option order list many code fits in
                subst (λ (f : List (ℕ × List ℕ)). AreOptions order list f) read.2 (first.0, rest, first.1, first.2, later)
          ]
        ]
      ]
    ]

pub options_spelled : (order : ByteOrder) (list : List ℕ) (found : List (ℕ × List ℕ)) → (options (length list) order list ≡ Ok found) ↔ AreOptions order list found
options_spelled order list found = (read_spelled (length list) order list found (omega arith), spelled_read (length list) order list found (omega arith))

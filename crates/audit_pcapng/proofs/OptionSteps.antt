-- Walking the options of a list, as a loop does.
use Rattle.std.proofs.Common.{◌≡◌, ◌≢◌, ℕ, zero, suc, ◌-◌, ◌+◌, ◌≤◌, ◌<◌, Bool, true, false, cond, eqb, List, [], ◌∷◌, length, take, drop, Option, Some, None, Result, Ok, Err, refl, sym, ap, ◌∙◌, arith}
use Rattle.std.specs.Int.{w16}
use Rattle.std.proofs.lemmas.Bool.{le-ltb, lt-ltb, eq-eqb, ne_eqb}
use Rattle.audit_pcapng.specs.declared.byte_order.ByteOrder.{ByteOrder}
use Rattle.audit_pcapng.specs.declared.fault.CaptureFault.{CaptureFault}
use Rattle.audit_pcapng.specs.declared.fault.CaptureFault.TheVariants.{Length}
use Rattle.audit_pcapng.specs.Numbers.{number_at, padded}
use Rattle.audit_pcapng.specs.Reading.{◌>>=◌}
use Rattle.audit_pcapng.specs.Options.{options, value_of, first_of}

-- what was found before, or else the value among the options that are left
abbrev pub found_in : ℕ → Option (List ℕ) → List (ℕ × List ℕ) → Option (List ℕ)
found_in code None options = value_of code options
found_in code (Some value) options = Some value

abbrev pub rest_of : ℕ → Option (List ℕ) → Result (List (ℕ × List ℕ)) CaptureFault → Result (Option (List ℕ)) CaptureFault
rest_of code found read = read >>= λ options. Ok (found_in code found options)

chosen : (code : ℕ) (test : Bool) (value : List ℕ) (options : List (ℕ × List ℕ))
    → found_in code (cond test (Some value) None) options ≡ cond test (Some value) (value_of code options)
chosen code true value options = refl
chosen code false value options = refl

found_in-first : (code : ℕ) (found : Option (List ℕ)) (option : ℕ) (value : List ℕ) (options : List (ℕ × List ℕ))
    → found_in code (first_of found (eqb option code) value) options ≡ found_in code found ((option, value) ∷ options)
found_in-first code None option value options = chosen code (eqb option code) value options
found_in-first code (Some earlier) option value options = refl

rest_of-first : (code : ℕ) (found : Option (List ℕ)) (option : ℕ) (value : List ℕ) (read : Result (List (ℕ × List ℕ)) CaptureFault)
    → rest_of code (first_of found (eqb option code) value) read ≡ rest_of code found (read >>= λ others. Ok ((option, value) ∷ others))
rest_of-first code found option value (Ok others) = ap (λ (o : Option (List ℕ)). Ok o) (found_in-first code found option value others)
rest_of-first code found option value (Err fault) = refl

pub no_more : (n : ℕ) (order : ByteOrder) (list : List ℕ) → n ≡ 0 → options n order list ≡ Ok []
unfolding options
no_more n order list e = ap (λ (m : ℕ). options m order list) e

pub none_left : (n : ℕ) (order : ByteOrder) (list : List ℕ) → length list ≡ 0 → options n order list ≡ Ok []
unfolding options
none_left zero order list e = refl
none_left (suc n) order list e = rw (eq-eqb (length list) 0 e) refl

pub too_short : (n : ℕ) (order : ByteOrder) (list : List ℕ) → length list ≢ 0 → length list < 4 → options (suc n) order list ≡ Err Length
unfolding options
too_short n order list some few = rw (ne_eqb (length list) 0 some, lt-ltb (length list) 4 few) refl

pub ended : (n : ℕ) (order : ByteOrder) (list : List ℕ) → 4 ≤ length list → number_at order w16 0 list ≡ 0 → options n order list ≡ Ok []
unfolding options
ended zero order list many e = refl
ended (suc n) order list many e = rw (ne_eqb (length list) 0 (λ (z : length list ≡ 0). absurd (omega arith)), le-ltb (length list) 4 many, eq-eqb (number_at order w16 0 list) 0 e) refl

pub past_end : (n : ℕ) (order : ByteOrder) (list : List ℕ) → 4 ≤ length list → number_at order w16 0 list ≢ 0
    → length (drop 4 list) < padded (number_at order w16 2 list) → options (suc n) order list ≡ Err Length
unfolding options
past_end n order list many e past = rw (ne_eqb (length list) 0 (λ (z : length list ≡ 0). absurd (omega arith)), le-ltb (length list) 4 many, ne_eqb (number_at order w16 0 list) 0 e, lt-ltb (length (drop 4 list)) (padded (number_at order w16 2 list)) past) refl

pub one_more : (n : ℕ) (order : ByteOrder) (list : List ℕ) → 4 ≤ length list → number_at order w16 0 list ≢ 0
    → padded (number_at order w16 2 list) ≤ length (drop 4 list)
    → options (suc n) order list ≡ (options n order (drop (padded (number_at order w16 2 list)) (drop 4 list)) >>= λ others. Ok ((number_at order w16 0 list, take (number_at order w16 2 list) (drop 4 list)) ∷ others))
unfolding options
one_more n order list many e within = rw (ne_eqb (length list) 0 (λ (z : length list ≡ 0). absurd (omega arith)), le-ltb (length list) 4 many, ne_eqb (number_at order w16 0 list) 0 e, le-ltb (length (drop 4 list)) (padded (number_at order w16 2 list)) within) refl

pub goes_on : (total : Result (Option (List ℕ)) CaptureFault) (n i : ℕ) (order : ByteOrder) (code : ℕ) (found : Option (List ℕ)) (list : List ℕ)
    → i < n → 4 ≤ length list → number_at order w16 0 list ≢ 0 → padded (number_at order w16 2 list) ≤ length (drop 4 list)
    → rest_of code found (options (n - i) order list) ≡ total
    → rest_of code (first_of found (eqb (number_at order w16 0 list) code) (take (number_at order w16 2 list) (drop 4 list)))
    (options (n - (i + 1)) order (drop (padded (number_at order w16 2 list)) (drop 4 list))) ≡ total
goes_on total n i order code found list lt many e within so_far =
    let k : n - i ≡ suc (n - (i + 1)) = omega arith in
    let more = one_more (n - (i + 1)) order list many e within in
    rest_of-first code found (number_at order w16 0 list) (take (number_at order w16 2 list) (drop 4 list)) (options (n - (i + 1)) order (drop (padded (number_at order w16 2 list)) (drop 4 list)))
    ∙ ap (λ (r : Result (List (ℕ × List ℕ)) CaptureFault). rest_of code found r) (sym more) ∙ ap (λ (m : ℕ). rest_of code found (options m order list)) (sym k) ∙ so_far

-- what was found before is the answer where no options are left
pub found_in-nothing : (total : Result (Option (List ℕ)) CaptureFault) (code : ℕ) (found : Option (List ℕ)) (read : Result (List (ℕ × List ℕ)) CaptureFault)
    → read ≡ Ok [] → rest_of code found read ≡ total → total ≡ Ok found
found_in-nothing total code None read e so_far = sym so_far ∙ ap (rest_of code None) e
found_in-nothing total code (Some value) read e so_far = sym so_far ∙ ap (rest_of code (Some value)) e

pub fails : (total : Result (Option (List ℕ)) CaptureFault) (n i : ℕ) (order : ByteOrder) (code : ℕ) (found : Option (List ℕ)) (list : List ℕ)
    → i < n → ((m : ℕ) → options (suc m) order list ≡ Err Length) → rest_of code found (options (n - i) order list) ≡ total → total ≡ Err Length
fails total n i order code found list lt e so_far =
    let k : n - i ≡ suc (n - (i + 1)) = omega arith in
    sym so_far ∙ ap (λ (m : ℕ). rest_of code found (options m order list)) k ∙ ap (rest_of code found) (e (n - (i + 1)))

-- the same by the values that the loop has
pub goes_on_by : (total : Result (Option (List ℕ)) CaptureFault) (n i : ℕ) (order : ByteOrder) (code option size whole : ℕ) (found found' : Option (List ℕ)) (list from value after : List ℕ)
    → option ≡ number_at order w16 0 list → size ≡ number_at order w16 2 list → whole ≡ padded size → from ≡ drop 4 list → value ≡ take size from → after ≡ drop whole from
    → found' ≡ first_of found (eqb option code) value
    → i < n → 4 ≤ length list → option ≢ 0 → whole ≤ length from
    → rest_of code found (options (n - i) order list) ≡ total → rest_of code found' (options (n - (i + 1)) order after) ≡ total
goes_on_by total n i order code option size whole found found' list from value after e-option e-size e-whole e-from e-value e-after e-found lt many some within so_far =
    rw (e-found, e-value, e-after, e-whole, e-from, e-size, e-option)
    (goes_on total n i order code found list lt many (λ z. some (e-option ∙ z)) (rw (e-whole, e-from, e-size) at within) so_far)

pub past_end_by : (m : ℕ) (order : ByteOrder) (option size whole : ℕ) (list from : List ℕ)
    → option ≡ number_at order w16 0 list → size ≡ number_at order w16 2 list → whole ≡ padded size → from ≡ drop 4 list
    → 4 ≤ length list → option ≢ 0 → length from < whole → options (suc m) order list ≡ Err Length
past_end_by m order option size whole list from e-option e-size e-whole e-from many some past =
    past_end m order list many (λ z. some (e-option ∙ z)) (rw (e-whole, e-from, e-size) at past)

-- JSON of printable texts is printable.
use Rattle.std.proofs.Common.{◌≡◌, ℕ, ◌<◌, ◌+◌, ◌%◌, ◌^◌, List, [], ◌∷◌, ◌++◌, Bool, true, false, decimal, refl, sym, ◌∙◌, arith, true≢false, Result, Ok, Err, Ordering, Less, Equal, Greater}
use Rattle.std.specs.Result.{OnOk, OnErr}
use Rattle.std.specs.Ordering.{match_ordering, nat_cmp}
use Rattle.std.specs.Cmp.Lexicographic.{slice_cmp}
use Rattle.std.proofs.lemmas.Bool.{and_parts, and_from, ltb-true}
use Rattle.std.proofs.lemmas.Fmt.{decimal_by_steps}
use Rattle.std.proofs.lemmas.List.Folds.{list_all-append}
use Rattle.json.specs.Print.{escape_byte, escape, quoted}
use Rattle.serde_json.specs.Data.{Data, null, boolean, number, string, array, object, Members, no_members, member, put, unsigned, negative, float}
use Rattle.serde_json.specs.Written.{compact_text, members_text, comma_if, has_float, members_have_float}
use Rattle.watch_report.specs.Ascii.{is_printable, is_printable_byte, is_plain, are_plain}

pub both : (xs ys : List ℕ) → is_printable xs ≡ true → is_printable ys ≡ true → is_printable (xs ++ ys) ≡ true
both xs ys h k = list_all-append is_printable_byte xs ys ∙ and_from _ _ h k

ordered : (o : Ordering) (a b c : Members) → are_plain a ≡ true → are_plain b ≡ true → are_plain c ≡ true → are_plain (match_ordering o a b c) ≡ true
ordered Less a b c h k l = h
ordered Equal a b c h k l = k
ordered Greater a b c h k l = l

pub plain_put : (k : List ℕ) (d : Data) (ms : Members) → is_printable k ≡ true → is_plain d ≡ true → are_plain ms ≡ true → are_plain (put k d ms) ≡ true
plain_put k d no_members key value rest = and_from _ _ key (and_from _ _ value refl)
plain_put k d (member l e ms) key value rest =
    let parts = and_parts _ _ rest in
    let later = and_parts _ _ parts.1 in
    ordered (slice_cmp nat_cmp k l) _ _ _
    (and_from _ _ key (and_from _ _ value rest))
    (and_from _ _ parts.0 (and_from _ _ value later.1))
    (and_from _ _ parts.0 (and_from _ _ later.0 (plain_put k d ms key value later.1)))

-- ---- texts

printable_escape_byte : (b : ℕ) → is_printable_byte b ≡ true → is_printable (escape_byte b) ≡ true
unfolding escape_byte
printable_escape_byte b h = grind (arith)

printable_escape : (s : List ℕ) → is_printable s ≡ true → is_printable (escape s) ≡ true
printable_escape [] h = refl
printable_escape (b ∷ s) h = let parts = and_parts _ _ h in both (escape_byte b) (escape s) (printable_escape_byte b parts.0) (printable_escape s parts.1)

printable_quoted : (s : List ℕ) → is_printable s ≡ true → is_printable (quoted s) ≡ true
printable_quoted s h = both (escape s) (34 ∷ []) (printable_escape s h) refl

digit_printable : (d : ℕ) → d < 10 → is_printable ((48 + d) ∷ []) ≡ true
digit_printable d small = grind (arith)

pub printable_decimal : (n : ℕ) → n < 2 ^ 64 → is_printable (decimal n) ≡ true
printable_decimal = decimal_by_steps (λ m ds. is_printable ds ≡ true)
    (λ m small. digit_printable m small)
    (λ m ds l h. both ds _ h (digit_printable (m % 10) (omega arith)))

-- ---- an object

no_float_value : (d : Data) → is_plain d ≡ true → has_float d ≡ false
no_float_value null h = refl
no_float_value (boolean b) h = refl
no_float_value (number (unsigned n)) h = refl
no_float_value (number (negative z)) h = refl
no_float_value (number (float x)) h = sym h
no_float_value (string s) h = refl
no_float_value (array ds) h = absurd (true≢false (sym h))
no_float_value (object ms) h = absurd (true≢false (sym h))

pub no_float : (ms : Members) → are_plain ms ≡ true → members_have_float ms ≡ false
no_float no_members h = refl
no_float (member k d ms) h =
    let value = and_parts _ _ (and_parts _ _ h).1 in
    rw (no_float_value d value.0) (no_float ms value.1)

printable_value : (d : Data) → is_plain d ≡ true → is_printable (compact_text d) ≡ true
printable_value null h = refl
printable_value (boolean b) h = absurd (true≢false (sym h))
printable_value (number (unsigned n)) h = printable_decimal n (ltb-true n (2 ^ 64) h)
printable_value (number (negative z)) h = absurd (true≢false (sym h))
printable_value (number (float x)) h = absurd (true≢false (sym h))
printable_value (string s) h = printable_quoted s h
printable_value (array ds) h = absurd (true≢false (sym h))
printable_value (object ms) h = absurd (true≢false (sym h))

comma : (later : Bool) → is_printable (comma_if later) ≡ true
comma true = refl
comma false = refl

printable_members : (later : Bool) (ms : Members) → are_plain ms ≡ true → is_printable (members_text later ms) ≡ true
printable_members later no_members h = refl
printable_members later (member k d ms) h =
    let parts = and_parts _ _ h in
    let more = and_parts _ _ parts.1 in
    both (comma_if later) _ (comma later)
    (both (quoted k) _ (printable_quoted k parts.0)
    (both (compact_text d) _ (printable_value d more.0) (printable_members true ms more.1)))

pub printable_object : (ms : Members) → are_plain ms ≡ true → is_printable (compact_text (object ms)) ≡ true
printable_object ms h = printable_members false ms h

pub from_each : {A E : Type 0} (r : Result A E) (P Q R : Type 0) → (P → R) → (Q → R) → OnOk r P → OnErr r Q → R
from_each (Ok x) P Q R f g h k = f h
from_each (Err e) P Q R f g h k = g k

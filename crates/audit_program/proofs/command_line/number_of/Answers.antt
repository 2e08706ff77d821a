use Rattle.std.proofs.Common.{◌≡◌, ℕ, List, Option, None, Some, Result, Ok, Err, IfSome, IfNone, refl, subst}
use Rattle.std.specs.Prelude.{⊤}
use Rattle.std.specs.Str.Parse.{ParsesUnsigned, ExplainsUnsignedError, HasUnsignedDigitsIfOk}
use Rattle.clap.proofs.WalkLemmas.{one_text-rows}
use Rattle.clap.specs.Words.{ReadsOne, found_of, one_text}
use Rattle.audit_program.proofs.command_line.number_of.Goals as goal

abbrev Reads : Option (List ℕ) → ℕ → Type 0
Reads text n = (t : List ℕ) × (text ≡ Some t) × ParsesUnsigned {E = ⊤} 32 10 t (Ok n)

-- what is read of a text is its number
read : {E : Type 0} (gives : List ℕ → Result ℕ E → Type 0) → ((text : List ℕ) (n : ℕ) → gives text (Ok n) → ParsesUnsigned {E = ⊤} 32 10 text (Ok n))
    → (text : Option (List ℕ)) (result : Option ℕ) → (text ≡ None → result ≡ None) → ((t : List ℕ) → text ≡ Some t → ReadsOne gives t result)
    → IfSome result (Reads text)
read gives parses None result none value = rw (none refl) tt
read gives parses (Some t) None none value = tt
read gives parses (Some t) (Some n) none value = (t, refl, parses t n (value t refl))

-- and a text of which none is read has none
unread : {E : Type 0} (gives : List ℕ → Result ℕ E → Type 0) → ((text : List ℕ) (n : ℕ) (e : E) → gives text (Err e) → ParsesUnsigned {E = ⊤} 32 10 text (Ok n) → ⊥)
    → (text : Option (List ℕ)) (result : Option ℕ) → ((t : List ℕ) → text ≡ Some t → ReadsOne gives t result)
    → IfNone result ((n : ℕ) → Reads text n → ⊥)
unread gives refutes text (Some n) value = tt
unread gives refutes text None value = λ n reads.
    let refused = value reads.0 reads.1 in
    refutes reads.0 n refused.0 refused.1 reads.2

pub returns-clause-some : goal.returns-clause-some
returns-clause-some c =
    let found = found_of c.args.matches.now in
    let read_of = read (λ bs r. ParsesUnsigned 32 10 bs r × ExplainsUnsignedError 10 bs r × HasUnsignedDigitsIfOk bs r) (λ t n g. g.0) (one_text found c.args.name.now) c.get_one.result c.get_one.ensures.none c.get_one.ensures.value in
    subst (λ text. IfSome c.get_one.result (Reads text)) (one_text-rows found c.args.name.now) read_of

pub returns-clause-none : goal.returns-clause-none
returns-clause-none c =
    let found = found_of c.args.matches.now in
    let none_of = unread (λ bs r. ParsesUnsigned 32 10 bs r × ExplainsUnsignedError 10 bs r × HasUnsignedDigitsIfOk bs r) (λ t n e g parsed. g.0 parsed.0) (one_text found c.args.name.now) c.get_one.result c.get_one.ensures.value in
    subst (λ text. IfNone c.get_one.result ((n : ℕ) → Reads text n → ⊥)) (one_text-rows found c.args.name.now) none_of

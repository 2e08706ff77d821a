-- The listen addresses and the relay ranges of a policy that was read don't meet.
use Rattle.std.proofs.Common.{◌≡◌, inl, inr, ℕ, Bool, true, false, ◌&&◌, ◌||◌, cond, List, [], ◌∷◌, ◌++◌, length, Result, Ok, Err, refl, sym, ap, ◌∙◌, subst, arith}
use Rattle.std.specs.Prelude.{◌⊎◌, nat_le, nat_lt, codes}
use Rattle.std.specs.List.{list_any}
use Rattle.std.specs.Str.{bytes_eq}
use Rattle.std.proofs.lemmas.List.Folds.{list_any-append}
use Rattle.std.proofs.lemmas.Bool.Decides.{nat_tests}
use Rattle.audit_model.specs.declared.address.Addr.{Addr}
use Rattle.audit_model.specs.declared.policy.Policy.{Policy}
use Rattle.audit_model.specs.declared.policy.PortRange.{PortRange}
use Rattle.audit_text.specs.declared.line_fault.LineFault.{LineFault}
use Rattle.audit_text.specs.Reading.{read_text}
use Rattle.audit_text.proofs.Keeping.{IfRead, read_keeps}
use Rattle.audit_model.specs.declared.policy_fault.PolicyFaultKind.{PolicyFaultKind}
use Rattle.audit_model.specs.declared.policy_fault.PolicyFaultKind.TheVariants.{Line, Limit, Overlap}
use Rattle.audit_model.specs.Lanes.{same_addr}
use Rattle.audit_model.specs.Policy.{AreApart}
use Rattle.audit_model.specs.PolicyLines.{Said, meets_said, is_said_of, interface_of, after_listen, after_relay, after_skew, after_setting, after_word, tolerance_of, of_word, listen_of, range_of}
use Rattle.audit_model.specs.PolicyText.{after, after_heading, unended, overlong, lacks, nothing_said, policy_read, policy_of}
use Rattle.audit_model.specs.PortRange.{is_in, meet, lone}
use Rattle.audit_text.specs.Token.{◌>>=◌, halves_of, both_of, number_of}

either_true : (a b : Bool) → (a || b) ≡ true → (a ≡ true) ⊎ (b ≡ true)
either_true true b h = inl refl
either_true false b h = inr h

any_weaker : {X : Type 0} (p q : X → Bool) → ((x : X) → p x ≡ true → q x ≡ true) → (xs : List X) → list_any p xs ≡ true → list_any q xs ≡ true
any_weaker p q f [] h = h
any_weaker p q f (x ∷ xs) h = elim (either_true (p x) (list_any p xs) h) [
  | inl here ↦ ap (λ b. b || list_any q xs) (f x here)
  | inr there ↦ or_true (q x) (list_any q xs) (any_weaker p q f xs there)
] where
  or_true : (a b : Bool) → b ≡ true → (a || b) ≡ true
  or_true true b h = refl
  or_true false b h = h

any_more : {X : Type 0} (p : X → Bool) (xs : List X) (x : X) → list_any p (xs ++ x ∷ []) ≡ true → (list_any p xs ≡ true) ⊎ (p x ≡ true)
any_more p xs x h = elim (either_true (list_any p xs) (list_any p (x ∷ [])) (sym (list_any-append p xs (x ∷ [])) ∙ h)) [
  | inl old ↦ inl old
  | inr new ↦ elim (either_true (p x) false new) [ inl is ↦ inr is | inr not ↦ absurd (let bad : false ≡ true = not in cc) ]
]

-- no address of the first list is in a range of the second
abbrev Apart : List Addr → List PortRange → Type 0
Apart listen relay = (addr : Addr) → list_any (λ other. same_addr other addr) listen ≡ true → list_any (is_in addr) relay ≡ true → ⊥

is_meet : (new addr : Addr) → same_addr new addr ≡ true → (range : PortRange) → is_in addr range ≡ true → meet (lone new) range ≡ true
is_meet new addr same range inside = grind (arith, nat_tests, same, inside)

is_inside : (range : PortRange) (addr : Addr) → is_in addr range ≡ true → (other : Addr) → same_addr other addr ≡ true → is_in other range ≡ true
is_inside range addr inside other same = grind (arith, nat_tests, same, inside)

not_both : (a : Bool) → a ≡ false → a ≡ true → ⊥
not_both a f t = let bad : false ≡ true = sym f ∙ t in cc

neither : (a b : Bool) → (a || b) ≡ false → (a ≡ false) × (b ≡ false)
neither true b h = absurd (let bad : true ≡ false = h in cc)
neither false b h = (refl, h)

listen_more : (said : Said) (new : Addr) → Apart said.listen said.relay → meets_said said (lone new) ≡ false → Apart (said.listen ++ new ∷ []) said.relay
listen_more said new apart clear addr listens relays = elim (any_more (λ other. same_addr other addr) said.listen new listens) [
  | inl old ↦ apart addr old relays
  | inr is ↦ not_both (list_any (λ other. meet (lone new) other) said.relay) (neither (list_any (λ a. is_in a (lone new)) said.listen) (list_any (λ other. meet (lone new) other) said.relay) clear).1
      (any_weaker (is_in addr) (λ other. meet (lone new) other) (is_meet new addr is) said.relay relays)
]

relay_more : (said : Said) (new : PortRange) → Apart said.listen said.relay → meets_said said new ≡ false → Apart said.listen (said.relay ++ new ∷ [])
relay_more said new apart clear addr listens relays = elim (any_more (is_in addr) said.relay new relays) [
  | inl old ↦ apart addr listens old
  | inr is ↦ not_both (list_any (λ a. is_in a new) said.listen) (neither (list_any (λ a. is_in a new) said.listen) (list_any (λ other. meet new other) said.relay) clear).0
      (any_weaker (λ other. same_addr other addr) (λ a. is_in a new) (is_inside new addr is) said.listen listens)
]

-- what is said after a line, if it is a line
abbrev IsApart : Said → Type 0
IsApart said = Apart said.listen said.relay

abbrev StaysApart : Result Said PolicyFaultKind → Type 0
StaysApart (Ok next) = IsApart next
StaysApart (Err kind) = Unit {0}

if_clear : (full : Bool) (meets : Bool) (next : Said) → (meets ≡ false → IsApart next) → StaysApart (cond full (Err Limit) (cond meets (Err Overlap) (Ok next)))
if_clear true meets next f = tt
if_clear false true next f = tt
if_clear false false next f = f refl

with_word : {A : Type 0} (read : Result A PolicyFaultKind) (then : A → Result Said PolicyFaultKind) → ((a : A) → StaysApart (then a)) → StaysApart (read >>= then)
with_word (Ok a) then f = f a
with_word (Err kind) then f = tt

listened : (said : Said) (value : List ℕ) → IsApart said → StaysApart (after_listen said value)
unfolding after_listen
listened said value apart =
    with_word (of_word (listen_of value)) _
    (λ addr. if_clear (nat_le 64 (length said.listen)) (meets_said said (lone addr)) (record said { listen = said.listen ++ addr ∷ [] }) (listen_more said addr apart))

relayed : (said : Said) (value : List ℕ) → IsApart said → StaysApart (after_relay said value)
unfolding after_relay
relayed said value apart =
    with_word (of_word (range_of value)) _
    (λ range. if_clear (nat_le 64 (length said.relay)) (meets_said said range) (record said { relay = said.relay ++ range ∷ [] }) (relay_more said range apart))

by_choice : (b : Bool) (one other : Result Said PolicyFaultKind) → StaysApart one → StaysApart other → StaysApart (cond b one other)
by_choice true one other p q = p
by_choice false one other p q = q

set : (said : Said) (word value : List ℕ) → IsApart said → StaysApart (after_setting said word value)
unfolding after_setting
set said word value apart =
    by_choice (bytes_eq word (codes "skew-us")) _ _ (with_word (tolerance_of said.skew value 60000000 1000) _ (λ skew. apart))
    (by_choice (bytes_eq word (codes "grace-ms")) _ _ (with_word (tolerance_of said.grace value 600000 1000000) _ (λ grace. apart))
    (by_choice (bytes_eq word (codes "hold-ms")) _ _ (with_word (tolerance_of said.hold value 600000 1000000) _ (λ hold. apart)) tt))

skewed : (said : Said) (value : List ℕ) → IsApart said → StaysApart (after_skew said value)
unfolding after_skew
skewed said value apart =
    with_word (of_word (halves_of 32 value)) _ (λ halves.
    by_choice (is_said_of said (interface_of halves.0)) _ _ tt
    (with_word (of_word (both_of (interface_of halves.0) (number_of 18446744073709551615 halves.1))) _ (λ both.
    by_choice (nat_lt 60000000 both.1 || nat_le 1024 (length said.skews)) (Err Limit) _ tt apart)))

headed : (said : Said) (line : List ℕ) → IsApart said → StaysApart (after_heading said line)
headed said line apart =
    by_choice (bytes_eq line (codes "turnaudit-policy 2")) _ _ apart
    (by_choice (bytes_eq line (codes "turnaudit-policy 1")) (Ok (record said { headed = true })) (Err Line) apart tt)

worded : (said : Said) (line : List ℕ) → IsApart said → StaysApart (after_word said line)
unfolding after_word
worded said line apart =
    with_word (of_word (halves_of 32 line)) _ (λ halves.
    by_choice (bytes_eq halves.0 (codes "listen")) _ _ (listened said halves.1 apart)
    (by_choice (bytes_eq halves.0 (codes "relay")) _ _ (relayed said halves.1 apart)
    (by_choice (said.by_interface && bytes_eq halves.0 (codes "skew-of")) _ _ (skewed said halves.1 apart) (set said halves.0 halves.1 apart))))

lined : (said : Said) (line : List ℕ) → IsApart said → StaysApart (after said line)
unfolding after
lined said line apart =
    by_choice said.headed _ _ (worded said line apart) (headed said line apart)

-- the policy that is read, if one is
abbrev GivesApart : Result Policy (LineFault PolicyFaultKind) → Type 0
GivesApart (Ok policy) = AreApart policy
GivesApart (Err fault) = Unit {0}

said_apart : (read : Result Said (LineFault PolicyFaultKind)) → IfRead overlong after unended lacks IsApart read → GivesApart (policy_read read)
said_apart (Ok said) apart = apart
said_apart (Err fault) apart = tt

-- a policy that a text spells
pub read_apart : (text : List ℕ) (policy : Policy) → policy_of text ≡ Ok policy → AreApart policy
unfolding policy_of
read_apart text policy is =
    let nothing : IsApart nothing_said = λ addr listens relays. let bad : false ≡ true = listens in cc in
    subst GivesApart is (said_apart (read_text overlong after unended lacks nothing_said text) (read_keeps overlong after unended lacks IsApart lined nothing_said text nothing))

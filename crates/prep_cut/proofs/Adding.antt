-- An event more.
use Rattle.std.proofs.Common.{◌≡◌, ◌⊎◌, inl, inr, ℕ, zero, suc, Bool, true, false, cond, List, [], ◌∷◌, ◌++◌, Option, Some, None, refl, sym, ap, subst, ◌∙◌, arith}
use Rattle.std.specs.Prelude.{if◌then◌else◌, Contains}
use Rattle.std.specs.BTreeMap.{BTreeMap, get, Updates}
use Rattle.std.specs.Cmp.{nat_cmp_is}
use Rattle.std.specs.Global.{Vec}
use Rattle.std.specs.declared.cmp.Ordering.{Ordering}
use Rattle.std.specs.declared.cmp.Ordering.TheVariants.{Equal}
use Rattle.std.specs.Ordering.{is_eq, nat_cmp, ordering_then}
use Rattle.std.proofs.lemmas.List.Elements.{Contains-append_left, Contains-append_right, Contains-append_cases}
use Rattle.audit_model.specs.declared.address.Addr.{Addr}
use Rattle.audit_model.specs.LanePairs.{addr_cmp, pair_cmp}
use Rattle.prep_cut.specs.declared.events.Events.{Events}
use Rattle.prep_cut.specs.declared.lease.Event.{Event}
use Rattle.prep_cut.specs.Noted.{items_in, events_at}
use Rattle.audit_model.specs.declared.policy.Policy.{Policy}
use Rattle.prep_blocks.specs.declared.block.Block.{Block}
use Rattle.prep_cut.specs.declared.lease.Act.{Act}
use Rattle.prep_cut.specs.declared.lease.Act.TheVariants as acts
use Rattle.prep_cut.specs.declared.leases.Leases.{Leases}
use Rattle.prep_cut.specs.Held.{HasGrant}
use Rattle.prep_cut.specs.Leases.{IsEventIn}
use Rattle.prep_cut.proofs.Heard.{same_pair}

by_test : (test : Bool) (more rest : Option (Vec Event)) (found middle : Option (Vec Event)) (items : List Event) → found ≡ cond test more middle → middle ≡ cond test None rest
    → items_in more ≡ items → items_in found ≡ (if test then items else items_in rest)
by_test true more rest found middle items f m is = ap items_in f ∙ is
by_test false more rest found middle items f m is = ap items_in f ∙ ap items_in m

pub added : (old middle new : BTreeMap (Addr × Addr) (Vec Event)) (key : Addr × Addr) (value : Vec Event) (items : List Event)
    → Updates pair_cmp old middle key None → Updates pair_cmp middle new key (Some value) → value.items ≡ items
    → (q : Addr × Addr) → items_in (get pair_cmp new q) ≡ (if is_eq (pair_cmp key q) then items else items_in (get pair_cmp old q))
added old middle new key value items without with is q =
    by_test (is_eq (pair_cmp key q)) (Some value) (get pair_cmp old q) (get pair_cmp new q) (get pair_cmp middle q) items (with.0 q) (without.0 q) is

equal : (n : ℕ) → nat_cmp n n ≡ Equal
equal n = sym (nat_cmp_is n n Equal refl)

addr_equal : (a : Addr) → addr_cmp a a ≡ Equal
addr_equal a = ap (λ (o : Ordering). ordering_then o (nat_cmp a.port a.port)) (equal a.ip) ∙ equal a.port

pair_equal : (a b : Addr) → is_eq (pair_cmp (a, b) (a, b)) ≡ true
pair_equal a b = ap is_eq (ap (λ (o : Ordering). ordering_then o (addr_cmp b b)) (addr_equal a) ∙ addr_equal b)

-- under its two addresses an event stands behind those of before
abbrev pub IsAdded : Events → Events → Addr → Addr → Event → Type 0
IsAdded old new one other event =
    (first second : Addr) → events_at new first second ≡ (if is_eq (pair_cmp (one, other) (first, second)) then events_at old one other ++ event ∷ [] else events_at old first second)

here : (e : Event) → Contains (e ∷ []) e
here e = (0, omega arith, refl)

only_here : (e x : Event) → Contains (e ∷ []) x → x ≡ e
only_here e x (zero, within, is) = sym is
only_here e x (suc k, within, is) = absurd (omega (arith, within))

pub has_added : (old new : Events) (one other : Addr) (e : Event) → IsAdded old new one other e → Contains (events_at new one other) e
has_added old new one other e given =
    let found : events_at new one other ≡ events_at old one other ++ e ∷ [] =
    given one other ∙ ap (λ (t : Bool). if t then events_at old one other ++ e ∷ [] else events_at old one other) (pair_equal one other) in
    subst (λ (xs : List Event). Contains xs e) (sym found) (Contains-append_right (events_at old one other) (e ∷ []) e (here e))

kept_test : (test : Bool) (found rest items : List Event) (e x : Event) → found ≡ (if test then items ++ e ∷ [] else rest) → (test ≡ true → items ≡ rest) → Contains rest x → Contains found x
kept_test true found rest items e x is same had =
    subst (λ (xs : List Event). Contains xs x) (sym is) (Contains-append_left items (e ∷ []) x (subst (λ (xs : List Event). Contains xs x) (sym (same refl)) had))
kept_test false found rest items e x is same had = subst (λ (xs : List Event). Contains xs x) (sym is) had

cases : (rest items : List Event) (e x : Event) → items ≡ rest → Contains items x ⊎ Contains (e ∷ []) x → Contains rest x ⊎ (x ≡ e)
cases rest items e x same (inl had) = inl (subst (λ (xs : List Event). Contains xs x) same had)
cases rest items e x same (inr one) = inr (only_here e x one)

only_test : (test : Bool) (found rest items : List Event) (e x : Event) → found ≡ (if test then items ++ e ∷ [] else rest) → (test ≡ true → items ≡ rest) → Contains found x → Contains rest x ⊎ (x ≡ e)
only_test true found rest items e x is same has = cases rest items e x (same refl) (Contains-append_cases items (e ∷ []) x (subst (λ (xs : List Event). Contains xs x) is has))
only_test false found rest items e x is same has = inl (subst (λ (xs : List Event). Contains xs x) is has)

same_key : (old : Events) (one other first second : Addr) → is_eq (pair_cmp (one, other) (first, second)) ≡ true → events_at old one other ≡ events_at old first second
same_key old one other first second e =
    let same = same_pair one other first second e in ap (λ (a : Addr). events_at old a other) same.0 ∙ ap (λ (b : Addr). events_at old first b) same.1

pub kept_added : (old new : Events) (one other : Addr) (e : Event) → IsAdded old new one other e → (first second : Addr) (x : Event) → Contains (events_at old first second) x → Contains (events_at new first second) x
kept_added old new one other e given first second x had =
    kept_test (is_eq (pair_cmp (one, other) (first, second))) (events_at new first second) (events_at old first second) (events_at old one other) e x (given first second) (same_key old one other first second) had

pub only_added : (old new : Events) (one other : Addr) (e : Event) → IsAdded old new one other e → (first second : Addr) (x : Event) → Contains (events_at new first second) x
    → Contains (events_at old first second) x ⊎ (x ≡ e)
only_added old new one other e given first second x has =
    only_test (is_eq (pair_cmp (one, other) (first, second))) (events_at new first second) (events_at old first second) (events_at old one other) e x (given first second) (same_key old one other first second) has

pub kept_grant : (old new : Leases) → ((first second : Addr) (e : Event) → Contains (events_at old.addresses first second) e → Contains (events_at new.addresses first second) e)
    → (event : Event) (act : Act) → HasGrant old event act → HasGrant new event act
kept_grant old new keeps event (acts.Grants relayed tid) has = keeps relayed relayed event has
kept_grant old new keeps event acts.Renews has = tt
kept_grant old new keeps event acts.Ends has = tt

by_block : (policy : Policy) (block : Block) (event other : Event) (P : Type 0) → IsEventIn policy event block → P ⊎ (other ≡ event) → P ⊎ IsEventIn policy other block
by_block policy block event other P is (inl had) = inl had
by_block policy block event other P is (inr same) = inr (subst (λ (e : Event). IsEventIn policy e block) (sym same) is)

pub only_block : (policy : Policy) (block : Block) (event : Event) (old new : Leases) → IsEventIn policy event block
    → ((other : Event) (client listen : Addr) → Contains (events_at new.clients client listen) other → Contains (events_at old.clients client listen) other ⊎ (other ≡ event))
    → (other : Event) (client listen : Addr) → Contains (events_at new.clients client listen) other → Contains (events_at old.clients client listen) other ⊎ IsEventIn policy other block
only_block policy block event old new is only other client listen has = by_block policy block event other (Contains (events_at old.clients client listen) other) is (only other client listen has)

-- What is carried over a cut, and the maps that it is made of.
use Rattle.std.proofs.Common.{◌≡◌, ◌<◌, ◌≤◌, ◌∙◌, ◌++◌, ℕ, zero, suc, Bool, true, false, cond, ◌&&◌, eqb, Option, Some, None, List, [], ◌∷◌, map, length, refl, sym, ap, subst, arith}
use Rattle.std.specs.Prelude.{is_some, option_and_then, IfOk, IfErr, Result, Ok, Err}
use Rattle.std.specs.List.{AllByRecursion}
use Rattle.std.specs.BTreeMap.{is_at, get}
use Rattle.std.specs.Map.{lookup}
use Rattle.std.specs.declared.cmp.Ordering.{Ordering}
use Rattle.std.specs.declared.cmp.Ordering.TheVariants.{Less, Equal, Greater}
use Rattle.std.specs.Ordering.{is_eq, nat_cmp}
use Rattle.std.specs.Cmp.{tied_then, unsigned_tied}
use Rattle.std.proofs.lemmas.Bool.{true≢false, cond-true, cond-false}
use Rattle.std.proofs.lemmas.Option.{none-some, same_Some}
use Rattle.audit_expiry.specs.Leases.{value_at, is_same}
use Rattle.audit_model.specs.declared.address.Addr.{Addr}
use Rattle.audit_model.specs.declared.pair.Pair.{Pair}
use Rattle.audit_model.specs.declared.sighting.SightId.{SightId}
use Rattle.audit_model.specs.Breach.{sight_cmp}
use Rattle.audit_model.specs.LanePairs.{pair_cmp}
use Rattle.audit_model.specs.Sames.{same_client, same_sight}
use Rattle.audit_model.proofs.Sames.{client_true, client_same, sight_true, sight_same, sight_apart}
use Rattle.audit_rules.specs.declared.table.LaneTable.{LaneTable}
use Rattle.audit_rules.specs.Allocation.{Allocation}
use Rattle.audit_cuts.specs.declared.carried.Came.{Came}
use Rattle.audit_cuts.specs.declared.carried.Carried.{Carried}
use Rattle.audit_cuts.specs.declared.carried.Client.{Client}
use Rattle.audit_cuts.specs.declared.carried.Interface.{Interface}
use Rattle.audit_cuts.specs.Carried as carried
use Rattle.audit_cuts.specs.Absolute.{absolute_cut}
use Rattle.audit_cuts.specs.Carried.{cut_in, first_value, moment_in, placed_in}
use Rattle.audit_cuts.specs.Rebasing.{bases_of}
use Rattle.audit_segments.specs.Shifted.{shifted, shifted_cut}
use Rattle.audit_server.specs.Run.{HasAddress}
use Rattle.audit_machine.specs.declared.carry_error.CarryError.{CarryError}
use Rattle.audit_machine.specs.declared.carry_error.CarryError.TheVariants as errors
use Rattle.audit_machine.specs.declared.machine.Machine.{Machine}
use Rattle.audit_machine.specs.declared.tables.Tables.{Tables}
use Rattle.audit_machine.specs.Carrying.{or_client, base_at, absolute_cut_of, CanNotAdd, CanNotAddAll}
use Rattle.audit_machine.specs.Machine.{cut_of}
use Rattle.audit_machine.specs.Tables.{allocation_in, table_of}
use Rattle.audit_machine.proofs.Pairs.{key_at}

-- ---- of each key the first entry counts
module _ {E K V : Type 0} (same : K → K → Bool) (key : E → K) (value : E → V) (one : (a b : K) → same a b ≡ true → a ≡ b) where
  abbrev or_entry : Option V → E → K → Option V
  or_entry (Some v) e k = Some v
  or_entry None e k = cond (same (key e) k) (Some (value e)) None

  at_front : (b : Bool) (v : V) (o : Option V) (e : E) (k : K) → cond b (Some v) (or_entry o e k) ≡ or_entry (cond b (Some v) o) e k
  at_front true v o e k = refl
  at_front false v o e k = refl

  first_more : (es : List E) (e : E) (k : K) → first_value same key value (es ++ e ∷ []) k ≡ or_entry (first_value same key value es k) e k
  first_more [] e k = refl
  first_more (d ∷ es) e k = ap (λ o. cond (same (key d) k) (Some (value d)) o) (first_more es e k) ∙ at_front (same (key d) k) (value d) (first_value same key value es k) e k

  or_other : (o : Option V) (e : E) (k : K) → same (key e) k ≡ false → or_entry o e k ≡ o
  or_other (Some v) e k h = refl
  or_other None e k h = cond-false (same (key e) k) (Some (value e)) None h

  or_there : (o : Option V) (e : E) (k : K) → is_some o ≡ true → or_entry o e k ≡ o
  or_there (Some v) e k h = refl
  or_there None e k h = absurd (true≢false (sym h))

  by_key : (P : K → Type 0) (k : K) → P k → ((q : K) → same k q ≡ false → P q) → (q : K) → P q
  by_key P k own other q = elim (same k q) as (λ b. same k q ≡ b → P q) [
    | true ↦ λ h. subst P (one k q h) own
    | false ↦ λ h. other q h
  ] refl

  module _ (es : List E) (e : E) (old : K → Option V) (was : (k : K) → old k ≡ first_value same key value es k) where
    unchanged : (new : K → Option V) (k : K) → same (key e) k ≡ false → new k ≡ old k → new k ≡ first_value same key value (es ++ e ∷ []) k
    unchanged new k apart is = is ∙ was k ∙ sym (or_other (first_value same key value es k) e k apart) ∙ sym (first_more es e k)

    -- an entry of a new key is added
    pub added : (new : K → Option V) → same (key e) (key e) ≡ true → old (key e) ≡ None → new (key e) ≡ Some (value e) → ((k : K) → same (key e) k ≡ false → new k ≡ old k)
        → (k : K) → new k ≡ first_value same key value (es ++ e ∷ []) k
    added new itself none own others = by_key (λ k. new k ≡ first_value same key value (es ++ e ∷ []) k) (key e)
        (own ∙ sym (cond-true (same (key e) (key e)) (Some (value e)) None itself) ∙ ap (λ o. or_entry o e (key e)) (sym (sym (was (key e)) ∙ none)) ∙ sym (first_more es e (key e)))
        (λ k apart. unchanged new k apart (others k apart))

    -- an entry of a key that is there is left out
    pub left_out : is_some (old (key e)) ≡ true → (k : K) → old k ≡ first_value same key value (es ++ e ∷ []) k
    left_out there = by_key (λ k. old k ≡ first_value same key value (es ++ e ∷ []) k) (key e)
        (was (key e) ∙ sym (or_there (first_value same key value es (key e)) e (key e) (ap is_some (sym (was (key e))) ∙ there)) ∙ sym (first_more es e (key e)))
        (λ k apart. unchanged old k apart refl)

  kept_by : (b : Bool) (x : V) (o more : Option V) (v : V) → (o ≡ Some v → more ≡ Some v) → cond b (Some x) o ≡ Some v → cond b (Some x) more ≡ Some v
  kept_by true x o more v later h = h
  kept_by false x o more v later h = later h

  -- entries after the first one of a key change nothing
  pub first_kept : (es more : List E) (k : K) (v : V) → first_value same key value es k ≡ Some v → first_value same key value (es ++ more) k ≡ Some v
  first_kept [] more k v h = absurd (none-some v h)
  first_kept (d ∷ es) more k v h = kept_by (same (key d) k) (value d) (first_value same key value es k) (first_value same key value (es ++ more) k) v (first_kept es more k v) h

  own_by : (b : Bool) (x : V) (o more : Option V) (v : V) → (o ≡ None → more ≡ Some v) → cond b (Some x) o ≡ None → cond b (Some x) more ≡ Some v
  own_by true x o more v later h = absurd (none-some x (sym h))
  own_by false x o more v later h = later h

  -- an entry of a key that none before it has is the first one
  pub first_own : (es more : List E) (e : E) → same (key e) (key e) ≡ true → first_value same key value es (key e) ≡ None → first_value same key value (es ++ e ∷ more) (key e) ≡ Some (value e)
  first_own [] more e itself h = cond-true (same (key e) (key e)) (Some (value e)) (first_value same key value more (key e)) itself
  first_own (d ∷ es) more e itself h = own_by (same (key d) (key e)) (value d) (first_value same key value es (key e)) (first_value same key value (es ++ e ∷ more) (key e)) (value e) (first_own es more e itself) h

-- ---- sightings with their moments
abbrev pub entry_of : Came → SightId × ℕ
entry_of came = (came.sight, came.moment)

pub sight_either_way : (a b : SightId) → same_sight a b ≡ same_sight b a
sight_either_way a b = elim (same_sight b a) as (λ v. same_sight b a ≡ v → same_sight a b ≡ v) [
  | true ↦ λ q. sight_same a b (sym (sight_true b a q))
  | false ↦ λ q. sight_apart a b (λ e. true≢false (sym (sight_same b a (sym e)) ∙ q))
] refl

key_of_sight : (k q : SightId) → is_eq (sight_cmp k q) ≡ same_sight q k
key_of_sight k q = sym (tied_then (nat_cmp k.iface q.iface) (nat_cmp k.index q.index)) ∙ ap (λ t. t && is_eq (nat_cmp k.index q.index)) (unsigned_tied k.iface q.iface)
    ∙ ap (λ t. eqb k.iface q.iface && t) (unsigned_tied k.index q.index) ∙ sight_either_way k q

pub moment_in_map : (times : List Came) (s : SightId) → moment_in times s ≡ lookup (is_at (sight_cmp s)) (map entry_of times)
moment_in_map [] s = refl
moment_in_map (came ∷ rest) s = ap (λ b. cond b (Some came.moment) (moment_in rest s)) (sym (key_of_sight s came.sight)) ∙ ap (λ o. cond (is_eq (sight_cmp s came.sight)) (Some came.moment) o) (moment_in_map rest s)

-- ---- leases
module _ {K : Type 0} (order : K → K → Ordering) where
  -- the order in which a look-up compares
  abbrev pub same_key : K → K → Bool
  same_key a b = is_same order b a

  is_equal : (o : Ordering) → is_eq o ≡ true → o ≡ Equal
  is_equal Less h = absurd (true≢false (sym h))
  is_equal Equal h = refl
  is_equal Greater h = absurd (true≢false (sym h))

  pub one_key : ((a b : K) → order a b ≡ Equal → a ≡ b) → (a b : K) → same_key a b ≡ true → a ≡ b
  one_key exact a b h = sym (exact b a (is_equal (order b a) h))

  pub apart_either_way : ((a b : K) → order a b ≡ Equal → a ≡ b) → (a b : K) → same_key a b ≡ false → is_same order a b ≡ false
  apart_either_way exact a b apart = elim (is_same order a b) as (λ v. is_same order a b ≡ v → is_same order a b ≡ false) [
    | true ↦ λ h. let e = exact a b (is_equal (order a b) h) in absurd (true≢false (sym (subst (λ x. is_same order x a ≡ true) e (subst (λ x. is_same order a x ≡ true) (sym e) h)) ∙ apart))
    | false ↦ λ h. h
  ] refl

module _ {K V : Type 0} (order : K → K → Ordering) where
  abbrev pub first_lease : List (K × V) → K → Option V
  first_lease entries k = first_value (same_key order) (λ (e : K × V). e.0) (λ (e : K × V). e.1) entries k

  pub value_is_first : (entries : List (K × V)) (k : K) → value_at order entries k ≡ first_lease entries k
  value_is_first [] k = refl
  value_is_first (e ∷ rest) k = ap (λ o. cond (is_same order k e.0) (Some e.1) o) (value_is_first rest k)

-- ---- counts by interface
abbrev pub at_key : {X : Type 0} → List (ℕ × X) → ℕ → Option X
at_key entries key = lookup (is_at (nat_cmp key)) entries

pub placed_before : (all : List Interface) (x : Interface) (k : ℕ) → k < length all → placed_in (all ++ x ∷ []) k ≡ placed_in all k
placed_before [] x k lt = absurd (omega (arith, lt))
placed_before (a ∷ all) x zero lt = refl
placed_before (a ∷ all) x (suc k) lt = placed_before all x k (omega (arith, lt))

pub placed_at : (all : List Interface) (x : Interface) → placed_in (all ++ x ∷ []) (length all) ≡ x.placed
placed_at [] x = refl
placed_at (a ∷ all) x = placed_at all x

pub placed_after : (all : List Interface) (k : ℕ) → length all ≤ k → placed_in all k ≡ 0
placed_after [] k le = refl
placed_after (a ∷ all) zero le = absurd (omega (arith, le))
placed_after (a ∷ all) (suc k) le = placed_after all k (omega (arith, le))

-- ---- clients
abbrev pub or_else : {A : Type 0} → Option A → Option A → Option A
or_else (Some a) other = Some a
or_else None other = other

-- the allocation that a client has in these entries
abbrev pub allocation_among : List ((Addr × Addr) × LaneTable) → Pair → Option Allocation
allocation_among entries c = option_and_then allocation_in (lookup (is_at (pair_cmp (c.client, c.listen))) entries)

abbrev key_pair : Addr × Addr → Pair
key_pair k = record { client = k.0; listen = k.1 }

by_table : (b : Bool) (o : Option Allocation) (t : LaneTable) (r : Option LaneTable) (a : Allocation) → allocation_in t ≡ Some a
    → or_else o (option_and_then allocation_in (cond b (Some t) r)) ≡ or_else (or_else o (cond b (Some a) None)) (option_and_then allocation_in r)
by_table b (Some x) t r a h = refl
by_table true None t r a h = h
by_table false None t r a h = refl

or_client_entry : (o : Option Allocation) (client : Client) (c : Pair) → or_entry same_client (λ (k : Client). k.pair) carried.allocation_of client_true o client c ≡ or_else o (cond (same_client client.pair c) (Some (carried.allocation_of client)) None)
or_client_entry (Some a) client c = refl
or_client_entry None client c = refl

-- a client is added for a table with an allocation
pub client_added : (all : List Client) (client : Client) (key : Addr × Addr) (t : LaneTable) (entries : List ((Addr × Addr) × LaneTable)) → client.pair ≡ key_pair key → allocation_in t ≡ Some (carried.allocation_of client) → (c : Pair)
    → or_else (carried.allocation_in all c) (allocation_among ((key, t) ∷ entries) c) ≡ or_else (carried.allocation_in (all ++ client ∷ []) c) (allocation_among entries c)
client_added all client key t entries pair has c =
    let same : is_eq (pair_cmp (c.client, c.listen) key) ≡ same_client client.pair c = key_at c (key_pair key) ∙ ap (λ p. same_client p c) (sym pair) in
    let rest = lookup (is_at (pair_cmp (c.client, c.listen))) entries in
    by_table (is_eq (pair_cmp (c.client, c.listen) key)) (carried.allocation_in all c) t rest (carried.allocation_of client) has
    ∙ ap (λ b. or_else (or_else (carried.allocation_in all c) (cond b (Some (carried.allocation_of client)) None)) (option_and_then allocation_in rest)) same
    ∙ ap (λ o. or_else o (option_and_then allocation_in rest)) (sym (or_client_entry (carried.allocation_in all c) client c) ∙ sym (first_more same_client (λ (k : Client). k.pair) carried.allocation_of client_true all client c))

-- each of these entries is what the tables have at its key
abbrev pub AreFound : Tables → List ((Addr × Addr) × LaneTable) → Type 0
AreFound tables entries = AllByRecursion (λ (e : (Addr × Addr) × LaneTable). get pair_cmp tables.tables e.0 ≡ Some e.1) entries

found_at : (tables : Tables) (entries : List ((Addr × Addr) × LaneTable)) → AreFound tables entries → (c : Pair) (t : LaneTable) → lookup (is_at (pair_cmp (c.client, c.listen))) entries ≡ Some t → table_of tables c ≡ Some t
found_at tables [] found c t h = absurd (none-some _ h)
found_at tables (e ∷ entries) found c t h = by (found_at tables entries found.1 c t) (is_eq (pair_cmp (c.client, c.listen) e.0)) refl h where
  by : (lookup (is_at (pair_cmp (c.client, c.listen))) entries ≡ Some t → table_of tables c ≡ Some t) → (b : Bool) → is_eq (pair_cmp (c.client, c.listen) e.0) ≡ b → cond b (Some e.1) (lookup (is_at (pair_cmp (c.client, c.listen))) entries) ≡ Some t → table_of tables c ≡ Some t
  by later true q h' = subst (λ (p : Pair). get pair_cmp tables.tables (p.client, p.listen) ≡ Some t) (client_true (key_pair e.0) c (sym (key_at c (key_pair e.0)) ∙ q)) (found.0 ∙ h')
  by later false q h' = later h'

-- a table without an allocation is left out
pub table_left_out : (tables : Tables) (o : Option Allocation) (key : Addr × Addr) (t : LaneTable) (entries : List ((Addr × Addr) × LaneTable)) → AreFound tables ((key, t) ∷ entries) → allocation_in t ≡ None → (c : Pair)
    → or_else o (allocation_among ((key, t) ∷ entries) c) ≡ or_else o (allocation_among entries c)
table_left_out tables o key t entries found none c = by (is_eq (pair_cmp (c.client, c.listen) key)) refl where
  rest : Option LaneTable
  rest = lookup (is_at (pair_cmp (c.client, c.listen))) entries

  no_other : (r : Option LaneTable) → rest ≡ r → is_eq (pair_cmp (c.client, c.listen) key) ≡ true → None ≡ option_and_then allocation_in r
  no_other None is q = refl
  no_other (Some other) is q =
      let own : table_of tables c ≡ Some t = found_at tables ((key, t) ∷ entries) found c t (cond-true (is_eq (pair_cmp (c.client, c.listen) key)) (Some t) rest q) in
      let also : table_of tables c ≡ Some other = found_at tables entries found.1 c other is in
      sym (ap allocation_in (sym (same_Some t other (sym own ∙ also))) ∙ none)

  by : (b : Bool) → is_eq (pair_cmp (c.client, c.listen) key) ≡ b → or_else o (option_and_then allocation_in (cond (is_eq (pair_cmp (c.client, c.listen) key)) (Some t) rest)) ≡ or_else o (option_and_then allocation_in rest)
  by true q = ap (λ x. or_else o (option_and_then allocation_in x)) (cond-true (is_eq (pair_cmp (c.client, c.listen) key)) (Some t) rest q) ∙ ap (or_else o) (none ∙ no_other rest refl q)
  by false q = ap (λ x. or_else o (option_and_then allocation_in x)) (cond-false (is_eq (pair_cmp (c.client, c.listen) key)) (Some t) rest q)

-- the allocations after a client was added, or left out
pub client_more : (o : Option Allocation) (clients : List Client) (client : Client) (c : Pair) → o ≡ carried.allocation_in clients c → or_client o client c ≡ carried.allocation_in (clients ++ client ∷ []) c
client_more o clients client c is = ap (λ x. or_client x client c) is ∙ by (carried.allocation_in clients c) ∙ sym (first_more same_client (λ (k : Client). k.pair) carried.allocation_of client_true clients client c) where
  by : (x : Option Allocation) → or_client x client c ≡ or_entry same_client (λ (k : Client). k.pair) carried.allocation_of client_true x client c
  by (Some a) = refl
  by None = refl

-- ---- cuts by ids among all captured sightings
pub one_cut : (bases : List ℕ) (kept : Carried) (m : Machine) → bases_of kept.interfaces.items ≡ bases → ((excluded : SightId → Bool) → cut_in kept excluded ≡ cut_of m excluded)
    → (excluded : SightId → Bool) → absolute_cut kept excluded ≡ absolute_cut_of bases m excluded
one_cut bases kept m of_bases of_cut excluded =
    ap (λ l. shifted_cut (base_at l) excluded (cut_in kept (λ s. excluded (shifted (base_at l) s)))) of_bases ∙ ap (shifted_cut (base_at bases) excluded) (of_cut (λ s. excluded (shifted (base_at bases) s)))

pub none_there : {A : Type 0} (o : Option A) → is_some o ≡ false → o ≡ None
none_there (Some a) h = absurd (true≢false h)
none_there None h = refl

pub ok_then : {A E : Type 0} (r : Result A E) (P Q : A → Type 0) → ((a : A) → P a → Q a) → IfOk r P → IfOk r Q
ok_then (Ok a) P Q f h = f a h
ok_then (Err e) P Q f h = h

pub err_then : {A E : Type 0} (r : Result A E) (P Q : E → Type 0) → ((e : E) → P e → Q e) → IfErr r P → IfErr r Q
err_then (Ok a) P Q f h = h
err_then (Err e) P Q f h = f e h

-- ---- why clients can't be added
module _ (grace moment : ℕ) (table : Pair → Option Allocation) (front rest : List Client) (client : Client) (was : (c : Pair) → table c ≡ carried.allocation_in front c) where
  abbrev all : List Client
  all = front ++ client ∷ rest

  has_kept : (o : Option Allocation) (other : Pair) (relayed : Addr) → table other ≡ o → HasAddress grace moment relayed o → HasAddress grace moment relayed (carried.allocation_in all other)
  has_kept None other relayed is h = absurd h
  has_kept (Some a) other relayed is h = subst (λ (o : Option Allocation). HasAddress grace moment relayed o)
      (sym (first_kept same_client (λ (k : Client). k.pair) carried.allocation_of client_true front (client ∷ rest) other a (sym (was other) ∙ is))) h

  pub add_all : (error : CarryError) → CanNotAdd grace moment table client error → CanNotAddAll grace moment all error
  add_all errors.Interfaces h = h
  add_all errors.Held h =
      let own = first_own same_client (λ (k : Client). k.pair) carried.allocation_of client_true front rest client (client_same client.pair client.pair refl) (sym (was client.pair) ∙ h.0) in (
        client.pair,
        client.relayed,
        subst (λ (o : Option Allocation). HasAddress grace moment client.relayed o) (sym own) (refl, h.1.0),
        (h.1.1.0, h.1.1.1, has_kept (table h.1.1.0) h.1.1.0 client.relayed refl h.1.1.2),
      )
  add_all (errors.Rebase error) h = h
  add_all errors.Memory h = h

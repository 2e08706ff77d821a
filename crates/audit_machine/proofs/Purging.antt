-- Purging a client's permissions and channels that are past the grace is a segment without a step.
use Rattle.std.proofs.Common.{◌≡◌, ◌≢◌, inl, inr, ℕ, true, false, Option, Some, None, refl, sym, ◌∙◌, subst, arith, if◌then◌else◌}
use Rattle.std.proofs.lemmas.Bool.Decides.{nat_tests}
use Rattle.std.proofs.lemmas.Option.{none-some, same_Some}
use Rattle.std.specs.Prelude.{option_and_then}
use Rattle.audit_model.specs.declared.address.Addr.{Addr}
use Rattle.audit_model.specs.declared.pair.Pair.{Pair}
use Rattle.audit_expiry.specs.declared.lease.Lease.{Lease}
use Rattle.audit_expiry.specs.Lease.{IsUsable, lasts}
use Rattle.audit_rules.specs.declared.table.Channel.{Channel}
use Rattle.audit_rules.specs.declared.table.LaneTable.{LaneTable}
use Rattle.audit_rules.specs.Allocation.{Allocation}
use Rattle.audit_rules.specs.Effect.{standing}
use Rattle.audit_rules.specs.Purging.{lease_left, channel_left, IsPurged, IsPurgedEntry}
use Rattle.audit_segments.specs.PastGrace.{IsPastGrace, AreAlikeLeases, AreAlikeChannels, AreAlikeAllocations, AreAlikeEntries}
use Rattle.audit_segments.proofs.Entries.{entry_refl, unusable}
use Rattle.audit_machine.specs.declared.tables.Tables.{Tables}
use Rattle.audit_machine.specs.declared.holders.Holders.{Holders}
use Rattle.audit_machine.specs.Holders.{holder_of}
use Rattle.audit_machine.specs.Machine.{AreHeld}
use Rattle.audit_machine.specs.Tables.{table_of, allocation_in, allocation_of, AreOwn, AreTablesPurged}
use Rattle.audit_machine.proofs.Pairs.{by_client}

module _ (now grace : ℕ) where
  past : (until : ℕ) → lasts until now grace ≡ false → IsPastGrace grace now until
  past until q = grind (arith, nat_tests, q)

  lease_alike : (o : Option Lease) → AreAlikeLeases grace now o (lease_left now grace o)
  lease_alike None = inl refl
  lease_alike (Some l) = elim (lasts l.until now grace) as (λ b. lasts l.until now grace ≡ b → AreAlikeLeases grace now (Some l) (if b then Some l else None)) [
    | true ↦ λ q. inl refl
    | false ↦ λ q. inr (past l.until q, tt)
  ] refl

  channel_alike : (o : Option Channel) → AreAlikeChannels grace now o (channel_left now grace o)
  channel_alike None = inl refl
  channel_alike (Some l) = elim (lasts l.lease.until now grace) as (λ b. lasts l.lease.until now grace ≡ b → AreAlikeChannels grace now (Some l) (if b then Some l else None)) [
    | true ↦ λ q. inl refl
    | false ↦ λ q. inr (past l.lease.until q, tt)
  ] refl

  allocation_alike : (old new : Allocation) → IsPurged now grace old new → AreAlikeAllocations grace now old new
  allocation_alike old new p = record {
    relayed = sym p.relayed;
    user = sym p.user;
    id = sym p.id;
    until = sym p.until;
    permissions = λ ip. subst (AreAlikeLeases grace now (old.permissions ip)) (sym (p.permissions ip)) (lease_alike (old.permissions ip));
    channels = λ number. subst (AreAlikeChannels grace now (old.channels number)) (sym (p.channels number)) (channel_alike (old.channels number));
  }

  entry_alike : (old new : Option Allocation) → IsPurgedEntry now grace old new → AreAlikeEntries grace now old new
  entry_alike None new p = subst (AreAlikeEntries grace now None) (sym p) (entry_refl grace now None)
  entry_alike (Some old) None p = absurd p
  entry_alike (Some old) (Some new) p = inr (allocation_alike old new p)

  table_alike : (old new : Option LaneTable) → AreTablesPurged now grace old new → AreAlikeEntries grace now (option_and_then allocation_in old) (option_and_then allocation_in new)
  table_alike None new p = subst (λ (o : Option LaneTable). AreAlikeEntries grace now None (option_and_then allocation_in o)) (sym p) (entry_refl grace now None)
  table_alike (Some old) None p = absurd p
  table_alike (Some old) (Some new) p = entry_alike (allocation_in old) (allocation_in new) p.allocation

  -- of a usable allocation the old table had one with the same address
  held_of : (o n : Option Allocation) (P : Addr → Type 0) → AreAlikeEntries grace now o n → ((a : Allocation) → o ≡ Some a → IsUsable a.until now grace → P a.relayed)
      → (a : Allocation) → n ≡ Some a → IsUsable a.until now grace → P a.relayed
  held_of o None P e f a q u = absurd (none-some a q)
  held_of o (Some b) P (inl k) f a q u = absurd (unusable grace now b.until k.1 (subst (λ (x : Allocation). IsUsable x.until now grace) (sym (same_Some b a q)) u))
  held_of None (Some b) P (inr k) f a q u = absurd k
  held_of (Some c) (Some b) P (inr k) f a q u =
      let v : IsUsable b.until now grace = subst (λ (x : Allocation). IsUsable x.until now grace) (sym (same_Some b a q)) u in
      subst (λ (x : Allocation). P x.relayed) (same_Some b a q) (subst P k.relayed (f c refl (subst (λ (n : ℕ). IsUsable n now grace) (sym k.until) v)))

  own_of : (pair : Pair) (o n : Option LaneTable) → AreTablesPurged now grace o n → ((t : LaneTable) → o ≡ Some t → ((standing t).client ≡ pair.client) × ((standing t).listen ≡ pair.listen))
      → (t : LaneTable) → n ≡ Some t → ((standing t).client ≡ pair.client) × ((standing t).listen ≡ pair.listen)
  own_of pair None n p f t q = absurd (none-some t (sym p ∙ q))
  own_of pair (Some a) None p f t q = absurd p
  own_of pair (Some a) (Some b) p f t q =
      let g = f a refl in
      subst (λ (x : LaneTable). ((standing x).client ≡ pair.client) × ((standing x).listen ≡ pair.listen)) (same_Some b t q) (p.client ∙ g.0, p.listen ∙ g.1)

  module _ (old new : Tables) (pair : Pair) (purged : AreTablesPurged now grace (table_of old pair) (table_of new pair)) (rest : (c : Pair) → c ≢ pair → table_of new c ≡ table_of old c) where
    pub own_purged : AreOwn old → AreOwn new
    own_purged own = by_client pair (λ c. (t : LaneTable) → table_of new c ≡ Some t → ((standing t).client ≡ c.client) × ((standing t).listen ≡ c.listen))
        (own_of pair (table_of old pair) (table_of new pair) purged (own pair)) (λ c ne t is. own c t (sym (rest c ne) ∙ is))

    pub alike_purged : (c : Pair) → AreAlikeEntries grace now (allocation_of old c) (allocation_of new c)
    alike_purged = by_client pair (λ c. AreAlikeEntries grace now (allocation_of old c) (allocation_of new c))
        (table_alike (table_of old pair) (table_of new pair) purged)
        (λ c ne. subst (λ (o : Option LaneTable). AreAlikeEntries grace now (allocation_of old c) (option_and_then allocation_in o)) (sym (rest c ne)) (entry_refl grace now (allocation_of old c)))

    pub held_purged : (holders : Holders) → AreHeld old holders grace now → AreHeld new holders grace now
    held_purged holders held c = held_of (allocation_of old c) (allocation_of new c) (λ relayed. holder_of holders relayed ≡ Some c) (alike_purged c) (held c)

-- Allocations that are alike stay alike later, and have their addresses alike.
use Rattle.std.proofs.Common.{◌≡◌, ◌≤◌, ◌⊎◌, inl, inr, ℕ, Option, Some, None, refl, sym, ◌∙◌, subst, arith}
use Rattle.audit_model.specs.declared.address.Addr.{Addr}
use Rattle.audit_expiry.specs.declared.lease.Lease.{Lease}
use Rattle.audit_expiry.specs.Lease.{IsUsable}
use Rattle.audit_rules.specs.declared.table.Channel.{Channel}
use Rattle.audit_rules.specs.Allocation.{Allocation}
use Rattle.audit_server.specs.Run.{HasAddress}
use Rattle.audit_segments.specs.PastGrace.{IsPastGrace, HasNoLease, HasNoChannel, HasNoAllocation, AreAlikeAllocations, AreBoth, AreAlikeEntries}

-- ---- equal, or both past the grace

pub either_sym : {A : Type 0} (No : A → Type 0) (x y : A) → (x ≡ y) ⊎ (No x × No y) → (y ≡ x) ⊎ (No y × No x)
either_sym No x y (inl e) = inl (sym e)
either_sym No x y (inr h) = inr (h.1, h.0)

pub either_trans : {A : Type 0} (No : A → Type 0) (x y z : A) → (x ≡ y) ⊎ (No x × No y) → (y ≡ z) ⊎ (No y × No z) → (x ≡ z) ⊎ (No x × No z)
either_trans No x y z (inl e) (inl f) = inl (e ∙ f)
either_trans No x y z (inl e) (inr h) = inr (subst No (sym e) h.0, h.1)
either_trans No x y z (inr h) (inl f) = inr (h.0, subst No f h.1)
either_trans No x y z (inr h) (inr k) = inr (h.0, k.1)

pub either_weaker : {A : Type 0} (No Nay : A → Type 0) → ((x : A) → No x → Nay x) → (x y : A) → (x ≡ y) ⊎ (No x × No y) → (x ≡ y) ⊎ (Nay x × Nay y)
either_weaker No Nay f x y (inl e) = inl e
either_weaker No Nay f x y (inr h) = inr (f x h.0, f y h.1)

module _ (grace : ℕ) where
  pub past_grace_later : (now next until : ℕ) → now ≤ next → IsPastGrace grace now until → IsPastGrace grace next until
  past_grace_later now next until le e = (omega (arith, le, e.0), omega (arith, le, e.1))

  no_lease_later : (now next : ℕ) → now ≤ next → (o : Option Lease) → HasNoLease grace now o → HasNoLease grace next o
  no_lease_later now next le None h = tt
  no_lease_later now next le (Some l) h = past_grace_later now next l.until le h

  no_channel_later : (now next : ℕ) → now ≤ next → (o : Option Channel) → HasNoChannel grace now o → HasNoChannel grace next o
  no_channel_later now next le None h = tt
  no_channel_later now next le (Some l) h = past_grace_later now next l.lease.until le h

  pub no_allocation_later : (now next : ℕ) → now ≤ next → (o : Option Allocation) → HasNoAllocation grace now o → HasNoAllocation grace next o
  no_allocation_later now next le None h = tt
  no_allocation_later now next le (Some a) h = past_grace_later now next a.until le h

  -- ---- one allocation

  pub one_refl : (now : ℕ) (a : Allocation) → AreAlikeAllocations grace now a a
  one_refl now a = record { relayed = refl; user = refl; id = refl; until = refl; permissions = λ _. inl refl; channels = λ _. inl refl }

  one_sym : (now : ℕ) (a b : Allocation) → AreAlikeAllocations grace now a b → AreAlikeAllocations grace now b a
  one_sym now a b k = record {
    relayed = sym k.relayed;
    user = sym k.user;
    id = sym k.id;
    until = sym k.until;
    permissions = λ ip. either_sym (HasNoLease grace now) (a.permissions ip) (b.permissions ip) (k.permissions ip);
    channels = λ n. either_sym (HasNoChannel grace now) (a.channels n) (b.channels n) (k.channels n);
  }

  one_trans : (now : ℕ) (a b c : Allocation) → AreAlikeAllocations grace now a b → AreAlikeAllocations grace now b c → AreAlikeAllocations grace now a c
  one_trans now a b c k l = record {
    relayed = k.relayed ∙ l.relayed;
    user = k.user ∙ l.user;
    id = k.id ∙ l.id;
    until = k.until ∙ l.until;
    permissions = λ ip. either_trans (HasNoLease grace now) (a.permissions ip) (b.permissions ip) (c.permissions ip) (k.permissions ip) (l.permissions ip);
    channels = λ n. either_trans (HasNoChannel grace now) (a.channels n) (b.channels n) (c.channels n) (k.channels n) (l.channels n);
  }

  one_later : (now next : ℕ) → now ≤ next → (a b : Allocation) → AreAlikeAllocations grace now a b → AreAlikeAllocations grace next a b
  one_later now next le a b k = record {
    relayed = k.relayed;
    user = k.user;
    id = k.id;
    until = k.until;
    permissions = λ ip. either_weaker (HasNoLease grace now) (HasNoLease grace next) (no_lease_later now next le) (a.permissions ip) (b.permissions ip) (k.permissions ip);
    channels = λ n. either_weaker (HasNoChannel grace now) (HasNoChannel grace next) (no_channel_later now next le) (a.channels n) (b.channels n) (k.channels n);
  }

  -- ---- what a client has

  both_map : (P Q : Allocation → Allocation → Type 0) → ((a b : Allocation) → P a b → Q a b) → (x y : Option Allocation) → AreBoth grace P x y → AreBoth grace Q x y
  both_map P Q f None y h = absurd h
  both_map P Q f (Some a) None h = absurd h
  both_map P Q f (Some a) (Some b) h = f a b h

  both_sym : (now : ℕ) (x y : Option Allocation) → AreBoth grace (AreAlikeAllocations grace now) x y → AreBoth grace (AreAlikeAllocations grace now) y x
  both_sym now None y h = absurd h
  both_sym now (Some a) None h = absurd h
  both_sym now (Some a) (Some b) h = one_sym now a b h

  both_trans : (now : ℕ) (x y z : Option Allocation) → AreBoth grace (AreAlikeAllocations grace now) x y → AreBoth grace (AreAlikeAllocations grace now) y z → AreBoth grace (AreAlikeAllocations grace now) x z
  both_trans now None y z h k = absurd h
  both_trans now (Some a) None z h k = absurd h
  both_trans now (Some a) (Some b) None h k = absurd k
  both_trans now (Some a) (Some b) (Some c) h k = one_trans now a b c h k

  -- if one of the two is past the grace, so is the other
  none_forth : (now : ℕ) (x y : Option Allocation) → AreBoth grace (AreAlikeAllocations grace now) x y → HasNoAllocation grace now x → HasNoAllocation grace now y
  none_forth now None y h k = absurd h
  none_forth now (Some a) None h k = absurd h
  none_forth now (Some a) (Some b) h k = subst (IsPastGrace grace now) h.until k

  pub entry_refl : (now : ℕ) (x : Option Allocation) → AreAlikeEntries grace now x x
  entry_refl now None = inl (tt, tt)
  entry_refl now (Some a) = inr (one_refl now a)

  pub entry_sym : (now : ℕ) (x y : Option Allocation) → AreAlikeEntries grace now x y → AreAlikeEntries grace now y x
  entry_sym now x y (inl h) = inl (h.1, h.0)
  entry_sym now x y (inr h) = inr (both_sym now x y h)

  pub entry_trans : (now : ℕ) (x y z : Option Allocation) → AreAlikeEntries grace now x y → AreAlikeEntries grace now y z → AreAlikeEntries grace now x z
  entry_trans now x y z (inl h) (inl k) = inl (h.0, k.1)
  entry_trans now x y z (inl h) (inr k) = inl (h.0, none_forth now y z k h.1)
  entry_trans now x y z (inr h) (inl k) = inl (none_forth now y x (both_sym now x y h) k.0, k.1)
  entry_trans now x y z (inr h) (inr k) = inr (both_trans now x y z h k)

  pub entry_later : (now next : ℕ) → now ≤ next → (x y : Option Allocation) → AreAlikeEntries grace now x y → AreAlikeEntries grace next x y
  entry_later now next le x y (inl h) = inl (no_allocation_later now next le x h.0, no_allocation_later now next le y h.1)
  entry_later now next le x y (inr h) = inr (both_map (AreAlikeAllocations grace now) (AreAlikeAllocations grace next) (one_later now next le) x y h)

  -- what is past the grace isn't usable
  pub unusable : (now until : ℕ) → IsPastGrace grace now until → IsUsable until now grace → ⊥
  unusable now until e u = absurd (omega (arith, e.1, u))

  held_none : (now : ℕ) (relayed : Addr) (y : Option Allocation) → HasNoAllocation grace now y → HasAddress grace now relayed y → ⊥
  held_none now relayed None n h = h
  held_none now relayed (Some b) n h = unusable now b.until n h.1

  held_both : (now : ℕ) (relayed : Addr) (x y : Option Allocation) → AreBoth grace (AreAlikeAllocations grace now) x y → HasAddress grace now relayed y → HasAddress grace now relayed x
  held_both now relayed None y k h = absurd k
  held_both now relayed (Some a) None k h = absurd k
  held_both now relayed (Some a) (Some b) k h = (k.relayed ∙ h.0, subst (λ (n : ℕ). IsUsable n now grace) (sym k.until) h.1)

  -- either both have a usable allocation with the address, or neither
  pub held_alike : (now : ℕ) (relayed : Addr) (x y : Option Allocation) → AreAlikeEntries grace now x y → HasAddress grace now relayed y → HasAddress grace now relayed x
  held_alike now relayed x y (inl n) h = absurd (held_none now relayed y n.1 h)
  held_alike now relayed x y (inr k) h = held_both now relayed x y k h

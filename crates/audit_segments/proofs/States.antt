-- States that are alike: symmetric, transitive, and also if more is placed and excluded.
use Rattle.std.proofs.Common.{◌≡◌, ◌≤◌, ◌<◌, inl, ℕ, Bool, true, false, refl, sym, ◌∙◌, subst, arith}
use Rattle.std.proofs.lemmas.Bool.{ltb-true, ltb-false, lt-ltb, le-ltb, true≢false}
use Rattle.audit_model.specs.declared.sighting.SightId.{SightId}
use Rattle.audit_server.specs.State.{State}
use Rattle.audit_segments.specs.PastGrace.{AreAlikeEntries}
use Rattle.audit_segments.specs.Alike.{IsTooOld, AreAlikeTimes, AreAlike, is_placed}
use Rattle.audit_segments.proofs.Entries.{either_sym, either_trans, entry_refl, entry_sym, entry_trans}

-- ---- what is placed

pub placed_below : (placed : ℕ → ℕ) (s : SightId) → is_placed placed s ≡ true → s.index < placed s.iface
placed_below placed s h = ltb-true s.index (placed s.iface) h

pub unplaced_from : (placed : ℕ → ℕ) (s : SightId) → is_placed placed s ≡ false → placed s.iface ≤ s.index
unplaced_from placed s h = ltb-false s.index (placed s.iface) h

pub below_placed : (placed : ℕ → ℕ) (s : SightId) → s.index < placed s.iface → is_placed placed s ≡ true
below_placed placed s h = lt-ltb s.index (placed s.iface) h

pub from_unplaced : (placed : ℕ → ℕ) (s : SightId) → placed s.iface ≤ s.index → is_placed placed s ≡ false
from_unplaced placed s h = le-ltb s.index (placed s.iface) h

-- what is placed stays so if more is placed
pub placed_more : (few more : ℕ → ℕ) → ((iface : ℕ) → few iface ≤ more iface) → (s : SightId) → is_placed few s ≡ true → is_placed more s ≡ true
placed_more few more le s h = below_placed more s (omega (arith, placed_below few s h, le s.iface))

pub unplaced_fewer : (few more : ℕ → ℕ) → ((iface : ℕ) → few iface ≤ more iface) → (s : SightId) → is_placed more s ≡ false → is_placed few s ≡ false
unplaced_fewer few more le s h = from_unplaced few s (omega (arith, unplaced_from more s h, le s.iface))

pub not_true : (b : Bool) → (b ≡ true → ⊥) → b ≡ false
not_true true h = absurd (h refl)
not_true false h = refl

-- what is not excluded was not excluded before
pub excluded_fewer : (few more : SightId → Bool) → ((s : SightId) → few s ≡ true → more s ≡ true) → (s : SightId) → more s ≡ false → few s ≡ false
excluded_fewer few more f s h = not_true (few s) (λ e. true≢false (sym (f s e) ∙ h))

-- ---- states

module _ (hold grace : ℕ) (placed : ℕ → ℕ) (excluded : SightId → Bool) where
  pub alike_refl : (a : State) → AreAlike hold grace placed excluded a a
  alike_refl a = record { now = refl; table = λ c. entry_refl grace a.now (a.table c); waiting = λ s h. inl refl; owed = λ t h. refl; sent = λ t h p. refl }

  pub alike_sym : (a b : State) → AreAlike hold grace placed excluded a b → AreAlike hold grace placed excluded b a
  alike_sym a b k = record {
    now = sym k.now;
    table = λ c. subst (λ (n : ℕ). AreAlikeEntries grace n (b.table c) (a.table c)) k.now (entry_sym grace a.now (a.table c) (b.table c) (k.table c));
    waiting = λ s h. subst (λ (n : ℕ). AreAlikeTimes hold n (b.waiting s) (a.waiting s)) k.now (either_sym (IsTooOld hold a.now) (a.waiting s) (b.waiting s) (k.waiting s h));
    owed = λ t h. sym (k.owed t h);
    sent = λ t h p. sym (k.sent t h p);
  }

  pub alike_trans : (a b c : State) → AreAlike hold grace placed excluded a b → AreAlike hold grace placed excluded b c → AreAlike hold grace placed excluded a c
  alike_trans a b c k l = record {
    now = k.now ∙ l.now;
    table = λ d. entry_trans grace a.now (a.table d) (b.table d) (c.table d) (k.table d) (subst (λ (n : ℕ). AreAlikeEntries grace n (b.table d) (c.table d)) (sym k.now) (l.table d));
    waiting = λ s h. either_trans (IsTooOld hold a.now) (a.waiting s) (b.waiting s) (c.waiting s) (k.waiting s h) (subst (λ (n : ℕ). AreAlikeTimes hold n (b.waiting s) (c.waiting s)) (sym k.now) (l.waiting s h));
    owed = λ t h. k.owed t h ∙ l.owed t h;
    sent = λ t h p. k.sent t h p ∙ l.sent t h p;
  }

pub alike_more : (hold grace : ℕ) (few more : ℕ → ℕ) (fewer excluded : SightId → Bool) → ((iface : ℕ) → few iface ≤ more iface) → ((s : SightId) → fewer s ≡ true → excluded s ≡ true) →
    (a b : State) → AreAlike hold grace few fewer a b → AreAlike hold grace more excluded a b
alike_more hold grace few more fewer excluded le f a b k = record {
  now = k.now;
  table = k.table;
  waiting = λ s h. k.waiting s (excluded_fewer fewer excluded f s h);
  owed = λ t h. k.owed t (excluded_fewer fewer excluded f t h);
  sent = λ t h p. k.sent t (excluded_fewer fewer excluded f t h) (unplaced_fewer few more le t p);
}

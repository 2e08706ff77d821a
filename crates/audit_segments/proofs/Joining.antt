-- Two segments, the second from the cut to which the first leads, are one segment.
use Rattle.std.proofs.Common.{◌≡◌, ◌≤◌, ◌<◌, ◌+◌, ℕ, true, false, List, [], ◌∷◌, ◌++◌, sym, ◌∙◌, ap, subst, arith}
use Rattle.std.specs.Prelude.{is_some}
use Rattle.std.specs.List.{fold}
use Rattle.audit_model.specs.declared.policy.Policy.{Policy}
use Rattle.audit_model.specs.declared.sighting.SightId.{SightId}
use Rattle.audit_rules.specs.Keys.{KeyFor}
use Rattle.audit_server.specs.Captured.{rules_of}
use Rattle.audit_server.specs.Placing.{times_placed, KeepOrder}
use Rattle.audit_server.specs.Rules.{Rules}
use Rattle.audit_server.specs.Run.{RunFrom}
use Rattle.audit_server.specs.State.{State, after}
use Rattle.audit_server.specs.Step.{Step, Move, In, Act, Out}
use Rattle.audit_server.proofs.Once.{fold_cut}
use Rattle.audit_server.proofs.Orders.{all_append, all_weaker}
use Rattle.audit_segments.specs.Alike.{AreAlike, is_placed}
use Rattle.audit_segments.specs.Cut.{Cut, Extends, MayName}
use Rattle.audit_segments.specs.Ignore.{IgnorePastGrace}
use Rattle.audit_segments.specs.Segment.{View, MayBePlacedIn, due, IsSegment}
use Rattle.audit_segments.proofs.Due.{due_parts, due_sum}
use Rattle.audit_segments.proofs.Continuing.{run_too}
use Rattle.audit_segments.proofs.Ordering.{times_append, each_placed, keep_join}
use Rattle.audit_segments.proofs.States.{placed_below, unplaced_from, placed_more, unplaced_fewer, excluded_fewer, alike_sym, alike_trans, alike_more}

-- ---- runs

pub run_front : (w : Rules) (p q : List Step) (st : State) → RunFrom w st (p ++ q) → RunFrom w st p
run_front w [] q st r = tt
run_front w (e ∷ p) q st r = (r.0, run_front w p q (after w st e) r.1)

pub run_join : (w : Rules) (p q : List Step) (st : State) → RunFrom w st p → RunFrom w (fold (after w) st p) q → RunFrom w st (p ++ q)
run_join w [] q st r k = k
run_join w (e ∷ p) q st r k = (r.0, run_join w p q (after w st e) r.1 k)

-- ---- cuts

pub extends_on : (a b c : Cut) → Extends a b → Extends b c → Extends a c
extends_on a b c h k = record {
  placed = λ iface. omega (arith, h.placed iface, k.placed iface);
  excluded = λ s e. k.excluded s (h.excluded s e);
  settled = λ s e. k.settled s (placed_more a.placed b.placed h.placed s e) ∙ h.settled s e;
}

pub may_name_before : (a b : Cut) → Extends a b → (m : Move) → MayName b m → MayName a m
may_name_before a b h (In s) n = excluded_fewer a.excluded b.excluded h.excluded s n
may_name_before a b h (Act c s t) n = (excluded_fewer a.excluded b.excluded h.excluded s n.0, excluded_fewer a.excluded b.excluded h.excluded t n.1, unplaced_fewer a.placed b.placed h.placed t n.2)
may_name_before a b h (Out t) n = excluded_fewer a.excluded b.excluded h.excluded t n

module _ (policy : Policy) (key_for : KeyFor) (view : View) (ignore_past_grace : IgnorePastGrace (rules_of policy key_for view)) where
  abbrev W : Rules
  W = rules_of policy key_for view

  module _ (a b c : Cut) (p q : List Step) (one : IsSegment policy key_for view a p b) (other : IsSegment policy key_for view b q c) where
    placed_joined : (s : SightId) → times_placed s (p ++ q) ≡ due view a c s
    placed_joined s =
        times_append s p q ∙ ap (λ n. n + times_placed s q) (one.placed s) ∙ ap (λ n. due view a b s + n) (other.placed s)
        ∙ due_sum (is_some (view s)) (b.excluded s) (c.excluded s) (is_placed a.placed s) (is_placed b.placed s) (is_placed c.placed s)
        (placed_more a.placed b.placed one.extends.placed s) (placed_more b.placed c.placed other.extends.placed s) (other.extends.settled s)

    in_front : (s : SightId) → 1 ≤ times_placed s p → is_placed b.placed s ≡ true
    in_front s h = (due_parts (is_some (view s)) (b.excluded s) (is_placed a.placed s) (is_placed b.placed s) (subst (λ (n : ℕ). 1 ≤ n) (one.placed s) h)).1

    in_rest : (s : SightId) → 1 ≤ times_placed s q → is_placed b.placed s ≡ false
    in_rest s h = (due_parts (is_some (view s)) (c.excluded s) (is_placed b.placed s) (is_placed c.placed s) (subst (λ (n : ℕ). 1 ≤ n) (other.placed s) h)).0

    apart : (s t : SightId) → is_placed b.placed s ≡ true → is_placed b.placed t ≡ false → s.iface ≡ t.iface → s.index < t.index
    apart s t h k i =
        let x : s.index < b.placed t.iface = subst (λ (n : ℕ). s.index < b.placed n) i (placed_below b.placed s h) in
        omega (arith, x, unplaced_from b.placed t k)

    order_joined : KeepOrder (p ++ q)
    order_joined = keep_join (λ s. is_placed b.placed s ≡ true) (λ t. is_placed b.placed t ≡ false) apart p q (each_placed (λ s. is_placed b.placed s ≡ true) p in_front) (each_placed (λ t. is_placed b.placed t ≡ false) q in_rest) one.order other.order

    abbrev mid : State
    mid = fold (after W) a.state p

    -- the second is a run from the state to which the first really leads, too
    goes : RunFrom W mid q × AreAlike policy.hold policy.grace b.placed b.excluded (fold (after W) b.state q) (fold (after W) mid q)
    goes = run_too W ignore_past_grace b q b.state mid (alike_sym policy.hold policy.grace b.placed b.excluded mid b.state one.leads) other.names other.runs

    leads_joined : AreAlike policy.hold policy.grace c.placed c.excluded (fold (after W) a.state (p ++ q)) c.state
    leads_joined =
        subst (λ (st : State). AreAlike policy.hold policy.grace c.placed c.excluded st c.state) (sym (fold_cut W p q a.state))
        (alike_trans policy.hold policy.grace c.placed c.excluded (fold (after W) mid q) (fold (after W) b.state q) c.state
        (alike_more policy.hold policy.grace b.placed c.placed b.excluded c.excluded other.extends.placed other.extends.excluded (fold (after W) mid q) (fold (after W) b.state q)
        (alike_sym policy.hold policy.grace b.placed b.excluded (fold (after W) b.state q) (fold (after W) mid q) goes.1))
        other.leads)

    pub joined : IsSegment policy key_for view a (p ++ q) c
    joined = record {
      placed = placed_joined;
      seen = all_append (λ (e : Step). MayBePlacedIn view e.moment e.move) p q one.seen other.seen;
      order = order_joined;
      names = all_append (λ (e : Step). MayName a e.move) p q one.names (all_weaker (λ (e : Step). MayName b e.move) (λ (e : Step). MayName a e.move) (λ e n. may_name_before a b one.extends e.move n) q other.names);
      runs = run_join W p q a.state one.runs goes.0;
      leads = leads_joined;
      extends = extends_on a b c one.extends other.extends;
    }

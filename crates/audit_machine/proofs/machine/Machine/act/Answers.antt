use Rattle.std.proofs.Common.{◌≡◌, ℕ, Some, None, sym, ◌∙◌, ap, subst, refl}
use Rattle.std.specs.Prelude.{IfErr, IfSome, IsSomeAnd, Option}
use Rattle.std.proofs.lemmas.Result.{err_from_is_err_and}
use Rattle.audit_model.specs.declared.pair.Pair.{Pair}
use Rattle.audit_rules.specs.declared.table.LaneTable.{LaneTable}
use Rattle.audit_machine.proofs.Unmoved.{is_unmoved}
use Rattle.audit_model.specs.Sames.{same_sight, same_client}
use Rattle.audit_rules.specs.Allocation.{Allocation}
use Rattle.audit_rules.specs.Effect.{standing}
use Rattle.audit_server.specs.State.{put}
use Rattle.audit_machine.specs.declared.machine.Machine.{Machine}
use Rattle.audit_machine.specs.Holders.{holder_of}
use Rattle.audit_machine.specs.Machine.{AreOthersHeld, IfUsable, IsFreeFor, IsUnmovedUnlessFatal, IsTableOf}
use Rattle.audit_machine.specs.Tables.{table_of}
use Rattle.audit_machine.specs.Times.{time_of}
use Rattle.audit_machine.proofs.Acted.{IsActed, consistent_then, segment_then}
use Rattle.audit_machine.proofs.machine.Machine.act.Goals as goal

-- the machine after the act
abbrev new_of : goal.After-self-1 → Machine
new_of c = record { policy = c.claim_or_restore.new.self.policy; tables = c.put_in.new.self; holders = c.claim_or_restore.new.self.holders; waiting = c.remove.new.self; owed = c.put.new.self; placed = c.claim_or_restore.new.self.placed; last = c.args.moment }

is_acted : (c : goal.After-self-1) → IsActed c.args.self.now c.table_after.new.self.tables c.in_ok-table.table c.args.pair c.args.arrives.now.id c.args.leaves.now.id c.in_ok-came.came c.args.moment (new_of c)
is_acted c =
    let rest = c.in_ok-claim_or_restore.ensures.rest in
    let first = c.in_ok-table.ensures.rest in
    record {
      removed = c.in_ok-table.ensures.removed;
      put_in = λ q. c.in_ok-put_in.ensures q ∙ ap (λ (m : Machine). put same_client (table_of m.tables) c.args.pair (Some c.in_ok-table.table) q) rest;
      waiting = λ q. c.remove.ensures q ∙ ap (λ (m : Machine). put same_sight (time_of m.waiting) c.args.arrives.now.id None q) rest ∙ ap (λ (m : Machine). put same_sight (time_of m.waiting) c.args.arrives.now.id None q) first;
      owed = λ q. c.in_ok-put.ensures q ∙ ap (λ (m : Machine). put same_sight (time_of m.owed) c.args.leaves.now.id (Some c.in_ok-came.came) q) rest ∙ ap (λ (m : Machine). put same_sight (time_of m.owed) c.args.leaves.now.id (Some c.in_ok-came.came) q) first;
      placed = ap (λ (m : Machine). m.placed) rest ∙ ap (λ (m : Machine). m.placed) first;
      policy = ap (λ (m : Machine). m.policy) rest ∙ ap (λ (m : Machine). m.policy) first;
      last = refl;
    }

grace_is : (c : goal.After-self-1) → c.table_after.new.self.policy.grace ≡ c.args.self.now.policy.grace
grace_is c = ap (λ (m : Machine). m.policy.grace) c.in_ok-table.ensures.rest

pub returns-clause-segment : goal.returns-clause-segment
returns-clause-segment c =
    let old = c.args.self.now in
    let j = c.in_ok-table.ensures.before in
    segment_then old c.table_after.new.self.tables c.in_ok-table.table c.args.pair c.args.arrives.now.id c.args.leaves.now.id c.in_ok-came.came c.args.moment (new_of c) (is_acted c)
    c.if-moment-self.false c.ranges.moment.fits c.in_ok-came.ensures.came c.in_ok-came.ensures.in_time c.in_ok-came.ensures.not_owed c.in_ok-came.ensures.not_placed
    c.args.users.now c.args.arrives.now c.args.leaves.now j.before j.client j.listen j.allocation j.may j.after
    (subst (λ (g : ℕ). IfUsable g c.args.moment (standing c.in_ok-table.table).allocation (λ (b : Allocation). IsFreeFor c.table_after.new.self.tables g c.args.moment c.args.pair b.relayed)) (grace_is c) c.in_ok-claim_or_restore.ensures.free)

pub returns-clause-consistent : goal.returns-clause-consistent
returns-clause-consistent c =
    let j = c.in_ok-table.ensures.before in
    consistent_then c.args.self.now c.table_after.new.self.tables c.in_ok-table.table c.args.pair c.args.arrives.now.id c.args.leaves.now.id c.in_ok-came.came c.args.moment (new_of c) (is_acted c)
    c.requires.consistent.own j.client' j.listen'
    (subst (λ (g : ℕ). IfUsable g c.args.moment (standing c.in_ok-table.table).allocation (λ (b : Allocation). holder_of c.claim_or_restore.new.self.holders b.relayed ≡ Some c.args.pair)) (grace_is c) c.in_ok-claim_or_restore.ensures.noted)
    (subst (λ (g : ℕ). AreOthersHeld c.args.pair c.table_after.new.self.tables c.claim_or_restore.new.self.holders g c.args.moment) (grace_is c) c.in_ok-claim_or_restore.ensures.others)

-- both facts about the copy
there : {A : Type 0} (o : Option A) (P Q : A → Type 0) → IfSome o P → IsSomeAnd o Q → (x : A) × P x × Q x
there None P Q p q = absurd q
there (Some x) P Q p q = (x, p, q)

pub returns-in_err-claim_or_restore-clause-refused : goal.returns-in_err-claim_or_restore-clause-refused
returns-in_err-claim_or_restore-clause-refused c =
    let old = c.args.self.now in
    let new = c.claim_or_restore.new.self in
    let p = err_from_is_err_and c.from_residual-in_err-claim_or_restore.result c.from_residual-in_err-claim_or_restore.ensures.1 in
    subst (λ r. IfErr r (IsUnmovedUnlessFatal old new)) (sym p.1)
    (subst (IsUnmovedUnlessFatal old new) (sym p.2) (λ harmless.
    let b = c.in_err-claim_or_restore.ensures.refused harmless in
    let had = there c.in_ok-before.before (IsTableOf old.tables c.args.pair) (λ (t : LaneTable). (q : Pair) → table_of new.tables q ≡ put same_client (table_of c.table_after.new.self.tables) c.args.pair (Some t) q) c.in_ok-before.ensures b.1 in
    is_unmoved old new c.table_after.new.self.tables had.0 c.args.pair c.in_ok-table.ensures.removed had.2
    (b.0 ∙ ap (λ (m : Machine). record { policy = m.policy; tables = new.tables; holders = m.holders; waiting = m.waiting; owed = m.owed; placed = m.placed; last = m.last }) c.in_ok-table.ensures.rest)
    had.1.client had.1.listen had.1.allocation c.requires.consistent))

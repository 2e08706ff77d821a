-- What was noted stays noted.
use Rattle.std.proofs.Common.{◌≡◌, Bool, true, false, cond, Option, Some, None, refl, ap, ◌∙◌}
use Rattle.std.specs.BTreeSet.{BTreeSet, contains, Updates}
use Rattle.std.specs.Ordering.{is_eq}
use Rattle.audit_model.specs.declared.sighting.Side.{Side}
use Rattle.audit_model.specs.declared.sighting.Side.TheVariants.{Arrives, Leaves}
use Rattle.prep_cut.specs.declared.allocations.Allocations.{Allocations}
use Rattle.prep_cut.specs.declared.datagram.Datagram.{Datagram}
use Rattle.prep_cut.specs.declared.transaction.Transaction.{Transaction}
use Rattle.prep_cut.specs.Allocating.{transaction_cmp, is_noted, is_noted_on}

always : (is : Bool) (had : Bool) → had ≡ true → cond is true had ≡ true
always true had e = refl
always false had e = e

there : (old new : BTreeSet Transaction) (k q : Transaction) → Updates transaction_cmp old new k true → contains transaction_cmp old q ≡ true → contains transaction_cmp new q ≡ true
there old new k q u had = u.0 q ∙ always (is_eq (transaction_cmp k q)) (contains transaction_cmp old q) had

one_asked : (old new : Allocations) (k : Transaction) → new.granted ≡ old.granted → Updates transaction_cmp old.asked new.asked k true
    → (side : Side) (t : Option Transaction) → is_noted_on side old t ≡ true → is_noted_on side new t ≡ true
one_asked old new k same u Arrives None e = refl
one_asked old new k same u Leaves None e = refl
one_asked old new k same u Arrives (Some t) e = there old.asked new.asked k t u e
one_asked old new k same u Leaves (Some t) e = ap (λ (s : BTreeSet Transaction). contains transaction_cmp s t) same ∙ e

one_granted : (old new : Allocations) (k : Transaction) → new.asked ≡ old.asked → Updates transaction_cmp old.granted new.granted k true
    → (side : Side) (t : Option Transaction) → is_noted_on side old t ≡ true → is_noted_on side new t ≡ true
one_granted old new k same u Arrives None e = refl
one_granted old new k same u Leaves None e = refl
one_granted old new k same u Leaves (Some t) e = there old.granted new.granted k t u e
one_granted old new k same u Arrives (Some t) e = ap (λ (s : BTreeSet Transaction). contains transaction_cmp s t) same ∙ e

pub kept_asked : (old new : Allocations) (k : Transaction) → new.granted ≡ old.granted → Updates transaction_cmp old.asked new.asked k true
    → (other : Datagram) → is_noted old other ≡ true → is_noted new other ≡ true
kept_asked old new k same u other e = one_asked old new k same u other.side other.allocate e

pub kept_granted : (old new : Allocations) (k : Transaction) → new.asked ≡ old.asked → Updates transaction_cmp old.granted new.granted k true
    → (other : Datagram) → is_noted old other ≡ true → is_noted new other ≡ true
kept_granted old new k same u other e = one_granted old new k same u other.side other.allocate e

-- The least of several breaches, where there may be none.
use Rattle.std.proofs.Common.{◌≡◌, Option, Some, None, Ordering, subst, sym}
use Rattle.std.specs.Prelude.{IfNone}
use Rattle.std.specs.declared.cmp.Ordering.TheVariants.{Less, Equal, Greater}
use Rattle.audit_model.specs.declared.verdict.Breach.{Breach}
use Rattle.audit_model.specs.Breach.{breach_cmp, lesser, lesser_by}

one_of_two : (R : Type 0) (order : Ordering) (a b : Breach) → IfNone (lesser_by order a b) R
one_of_two R Less a b = tt
one_of_two R Equal a b = tt
one_of_two R Greater a b = tt

none_of_both : (P Q R : Type 0) (least found : Option Breach) → IfNone least P → IfNone found Q → (P → Q → R) → IfNone (lesser least found) R
none_of_both P Q R None None p q join = join p q
none_of_both P Q R None (Some b) p q join = tt
none_of_both P Q R (Some a) None p q join = tt
none_of_both P Q R (Some a) (Some b) p q join = one_of_two R (breach_cmp b a) a b

-- with no breach so far and none found, what holds so far and what was found to hold give what holds now
pub none_more : (P Q R : Type 0) (least found next : Option Breach) → next ≡ lesser least found → IfNone least P → IfNone found Q → (P → Q → R) → IfNone next R
none_more P Q R least found next is p q join = subst (λ (o : Option Breach). IfNone o R) (sym is) (none_of_both P Q R least found p q join)

-- what holds where there is no breach, in other words
pub none_weaker : (P Q : Type 0) (least : Option Breach) → IfNone least P → (P → Q) → IfNone least Q
none_weaker P Q None p f = f p
none_weaker P Q (Some b) p f = tt

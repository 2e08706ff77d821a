use Rattle.std.proofs.Common.{Ok, Err, rules, sym}
use Rattle.std.proofs.lemmas.List.Sorted.{answers_always}
use Rattle.audit_model.proofs.SkewSearch.{searched}
use Rattle.audit_model.proofs.certificate.skew_among.Goals as goal

pub returns-in-Ok : goal.returns-in-Ok
returns-in-Ok c =
    let facts = c.in-Ok.ensures in
    let by_iface = facts.position (λ skew. skew.iface) (answers_always _ _ _ (λ f a r g called. search rules)) in
    sym (searched c.args.skews.now c.requires c.args.iface (Ok c.in-Ok.at) facts.bound by_iface).1

pub returns-in-Err : goal.returns-in-Err
returns-in-Err c =
    let facts = c.in-Err.ensures in
    let by_iface = facts.position (λ skew. skew.iface) (answers_always _ _ _ (λ f a r g called. search rules)) in
    sym (searched c.args.skews.now c.requires c.args.iface (Err c.in-Err.field-0) facts.bound by_iface)

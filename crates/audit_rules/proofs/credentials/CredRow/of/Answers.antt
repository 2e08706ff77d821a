use Rattle.audit_keys.specs.KeyFor.{key_for}
use Rattle.audit_rules.proofs.Named.{nobody_without_message, nobody_without_user, nobody_without_realm, nobody_without_key}
use Rattle.audit_rules.proofs.credentials.CredRow.of.Goals as goal

pub returns-in_err-request : goal.returns-in_err-request
returns-in_err-request c =
    rw c.from_residual.ensures (nobody_without_message (key_for c.args.credentials.now) c.args.payload.now
    (λ parts is_message. let none = (c.in_err-request.ensures.only parts is_message).0 in absurd cc))

pub returns-in_err-user : goal.returns-in_err-user
returns-in_err-user c =
    let message = c.in_ok-request.ensures in
    rw c.from_residual-in_err-user.ensures
    (nobody_without_user (key_for c.args.credentials.now) c.args.payload.now c.in_ok-request.request message.found.0 (λ parts is_message. (message.only parts is_message).1)
    c.in_err-user.ensures)

pub returns-in_err-realm : goal.returns-in_err-realm
returns-in_err-realm c =
    let message = c.in_ok-request.ensures in
    rw c.from_residual-in_err-realm.ensures
    (nobody_without_realm (key_for c.args.credentials.now) c.args.payload.now c.in_ok-request.request message.found.0 (λ parts is_message. (message.only parts is_message).1)
    c.in_err-realm.ensures)

pub returns-in_err-key : goal.returns-in_err-key
returns-in_err-key c =
    let message = c.in_ok-request.ensures in
    rw c.from_residual-in_err-key.ensures
    (nobody_without_key (key_for c.args.credentials.now) c.args.payload.now c.in_ok-request.request message.found.0 (λ parts is_message. (message.only parts is_message).1)
    c.in_ok-user.user.now c.in_ok-realm.realm.now c.in_ok-user.ensures c.in_ok-realm.ensures c.in_err-key.ensures)
